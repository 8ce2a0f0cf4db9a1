-- Why no peer may have two names (RFC 28, "The ROUTER Socket Type"): a receive could give its message behind either.
use Rattle.std.specs.Prelude.{◌≡◌, ℕ, true, false, List, [], ◌∷◌}
use Rattle.zq_base.specs.Message.{Frames}
use Rattle.spec_pattern.specs.PipeStep.{PipeStep, Commit, Take, read_through}
use Rattle.spec_pattern.specs.TurnList.{End}
use Rattle.spec_pattern.specs.Routing.{Named}
use Rattle.spec_pattern.specs.Pattern.{Pattern, Router}
use Rattle.spec_pattern.specs.declared.answers.RecvAnswer.TheVariants as got
use Rattle.spec_pattern.specs.Outcomes.{RecvOutcome, ReceivesSo}
use Rattle.spec_pattern.specs.WholeLaws.{GoOn}

-- a ROUTER with one peer, which has the names 1 and 2, and one message on its way
abbrev pub lone_peer : End
lone_peer = record { pair = record { 0 = 1 }; a = true }

abbrev pub named_as : ℕ → Named
named_as n = record { name = n ∷ []; peer = lone_peer }

abbrev pub two_named : Pattern
two_named = Router (record {
  ins = lone_peer ∷ [];
  names = named_as 1 ∷ named_as 2 ∷ [];
  drawn = 0;
  mandatory = false;
})

abbrev pub one_body : Frames
one_body = (7 ∷ []) ∷ []

abbrev pub one_on_its_way : List PipeStep
one_on_its_way = Commit (read_through lone_peer) one_body ∷ []

-- the message is given behind this name
abbrev pub given_as : ℕ → RecvOutcome
given_as n = record {
  steps = Take (read_through lone_peer) one_body ∷ [];
  skips = [];
  answer = got.Got lone_peer.pair ((n ∷ []) ∷ one_body);
  new = two_named;
}

-- both outcomes come of one receive, and they differ
pub record TwoNamesLeaveItOpen : Type 0 where
  pub first : ReceivesSo two_named (given_as 1)
  pub second : ReceivesSo two_named (given_as 2)
  pub go_on : GoOn (λ _. 1) (λ _. 1) one_on_its_way (given_as 1).steps (given_as 2).steps
  pub differ : given_as 1 ≡ given_as 2 → ⊥
