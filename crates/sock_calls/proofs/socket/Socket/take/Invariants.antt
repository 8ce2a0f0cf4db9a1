use Rattle.std.specs.Prelude.{◌≡◌, true, false}
use Rattle.sock_calls.proofs.socket.Socket.take.Given as goal

-- the stretch begins with these pipes and this socket, and ends come with their halves
abbrev pub ghosts-take_lent : goal.ghosts-take_lent
ghosts-take_lent g a = record {
  began = λ s t. (s ≡ a.pipes) × (t ≡ a.core);
  object = a.core.number.0;
  comes = true;
  undoes = false;
  may_make = λ e written read. ⊥;
  one_side = λ made d e v w r s one other. absurd one;
}
