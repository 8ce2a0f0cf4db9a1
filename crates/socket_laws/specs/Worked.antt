-- The items of open sockets in a small trial, by hand from the tables.
use Rattle.std.specs.Prelude.{◌≡◌, ℕ, true, false, [], ◌∷◌, take}
use Rattle.spec_pattern.specs.Pattern.{Pull}
use Rattle.spec_control.specs.declared.end.EndState.TheVariants.{Active}
use Rattle.spec_control.specs.declared.letter.Word.TheVariants.{PipeBind}
use Rattle.spec_control.specs.declared.request.Req.TheVariants.{Connect}
use Rattle.spec_control.specs.declared.request.Reply.TheVariants.{Pair}
use Rattle.spec_control.specs.declared.entry.Item.{Item}
use Rattle.spec_control.specs.Place.{At}
use Rattle.spec_control.specs.Control.{id, end_of}
use Rattle.spec_control.specs.ControlExamples.{Stories, opened, joined, requests, takes, name}
use Rattle.spec_control.specs.Moments.{left_by}
use Rattle.spec_control.specs.Trial.{by_caller, trial}
use Rattle.spec_run.specs.OpenSocket.{SockEnd, OpenSock, sock_after}
use Rattle.socket_laws.specs.Open.{ends_at, moment_at, ComesTo}

module _ (stories : Stories) where
  -- caller 1 connects the PUSH, socket 2, to the PULL, socket 1, and caller 0 takes the command that binds the other end
  abbrev pub connecting : Item ℕ ℕ
  connecting = by_caller 1 (requests stories (Connect (id 2) (name stories)) (Pair (record { 0 = 1 })) (opened stories true []))

  abbrev pub binding : Item ℕ ℕ
  binding = by_caller 0 (takes stories 2 1 (PipeBind (end_of 1 false) (7 ∷ [])) (joined stories false (7 ∷ [])))

  abbrev pub end_b : SockEnd
  end_b = record { end = end_of 1 false; place = At Active }

  abbrev pub pull : OpenSock
  pull = record { object = 1; slot = 2; stopped = false; pattern = Pull []; ends = [] }

  pub record ItemsAreMet : Type 0 where
    pub connects : ComesTo 1 (take 3 (trial stories)) connecting 2
    pub binds : ComesTo 1 (take 4 (trial stories)) binding 1
    -- and not to the other socket
    pub other : ComesTo 1 (take 4 (trial stories)) binding 2 → ⊥
    pub ends : ends_at 1 (left_by (moment_at 1 (take 4 (trial stories)) binding)) ≡ end_b ∷ []
    pub passes : sock_after (moment_at 1 (take 4 (trial stories)) binding) pull ≡ record pull { pattern = Pull (end_of 1 false ∷ []); ends = end_b ∷ [] }

-- whatever the holder tells
abbrev pub WorkedItems : Type 0
WorkedItems = (stories : Stories) → ItemsAreMet stories
