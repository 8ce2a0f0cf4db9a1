mod OneLemmas
mod AskerLemmas
mod LaterLemmas
