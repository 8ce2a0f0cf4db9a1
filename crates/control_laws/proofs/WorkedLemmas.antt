-- The counts at first and of the worked runs, computed.
use Rattle.std.specs.Prelude.{◌≡◌, ◌==◌, ℕ, Bool, true, false, cond, refl}
use Rattle.std.proofs.Common.{arith}
use Rattle.control_laws.specs.Worked.{FirstRoomIsSo, OutputsWait, WorkedCounts}

nothing : (b : Bool) → ◌≡◌ {A = ℕ} (cond b 0 0) 0
nothing true = refl
nothing false = refl

pub first_room_is_so : FirstRoomIsSo
first_room_is_so = record { mailboxes = λ workers m. let none = nothing (0 == m) in omega (arith, none); history = λ workers. refl }

pub worked_counts : WorkedCounts
worked_counts stories = record { socket_room = refl; root_room = refl; room_left = refl; tokens = refl; costs = refl; entries = refl }

never : false ≡ true → ⊥
never f = Prim.grind arith

pub outputs_wait : OutputsWait
outputs_wait stories = record { not_yet = λ h. never h.may; behind = record { session = refl; may = refl } }
