use Rattle.std.specs.Prelude.{◌≡◌, true, false}
use Rattle.spec_control.specs.Control.{Control}
use Rattle.desk.specs.Making.{IsMadeFor}
use Rattle.sock_calls.proofs.MakingLemmas.{made_side}
use Rattle.sock_calls.proofs.socket.Socket.ask.Given as goal

-- the stretch begins with these pipes and this socket, and what the request makes may be made
abbrev pub ghosts-ask_lent : goal.ghosts-ask_lent
ghosts-ask_lent g a = record {
  began = λ s t. (s ≡ a.pipes) × (t ≡ a.core);
  object = a.core.number.0;
  comes = false;
  undoes = true;
  may_make = λ e written read. (c : Control) × g.D.Desk.finds a.desk.now c × IsMadeFor c a.request e written read;
  one_side = λ made d e v w r s one other. made_side one.0 other.0 a.request d e v w r s one.2 other.2;
}
