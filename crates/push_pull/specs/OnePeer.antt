-- The turns of a PAIR, which has at most one peer (zmq_socket(3), "Exclusive pair pattern").
use Rattle.std.specs.Prelude.{ℕ, List, [], ◌∷◌}
use Rattle.zq_base.specs.declared.attached.Attached.{Attached}
use Rattle.zq_base.specs.declared.attached.Attached.TheVariants.{Yes, Second}

-- an end is the peer where there is none yet
abbrev pub attach_answer : List ℕ → Attached
attach_answer [] = Yes
attach_answer (peer ∷ peers) = Second

abbrev pub with_peer : ℕ → List ℕ → List ℕ
with_peer place [] = place ∷ []
with_peer place (peer ∷ peers) = peer ∷ peers
