-- The ends that joined a socket and were not taken back, as its log has them (own choice).
use Rattle.std.specs.Prelude.{ℕ, false, List, [], ◌∷◌, ◌++◌}
use Rattle.zq_base.specs.declared.attached.Attached.{Attached}
use Rattle.spec_control.specs.declared.entry.Joining.{Joining}
use Rattle.sock_core.specs.declared.joint.Joint.{Joint}
use Rattle.sock_core.specs.declared.joint.JoinNote.{JoinNote}
use Rattle.sock_core.specs.declared.joint.JoinNote.TheVariants.{Joined, TakenBack, Turned}

-- all but the last
abbrev pub without_last : {A : Type 0} → List A → List A
without_last [] = []
without_last (x ∷ []) = []
without_last (x ∷ y ∷ ys) = x ∷ without_last (y ∷ ys)

module _ {N : Type 0} where
  -- an end with its peer's identity and its kind's answer
  abbrev pub joining_as : Joint N → (peer : List ℕ) → Attached → Joining N
  joining_as joint peer answer = record { end = joint.end; peer = peer; written = joint.written; read = joint.read; answer = answer; met = false }

  -- one note more
  abbrev pub noted_in : List (Joining N) → JoinNote N → (peer : List ℕ) → List (Joining N)
  noted_in js (Joined joint answer) peer = js ++ joining_as joint peer answer ∷ []
  noted_in js TakenBack peer = without_last js
  noted_in js (Turned e state) peer = js

  abbrev pub standing_from : List (Joining N) → List (JoinNote N × List ℕ) → List (Joining N)
  standing_from js [] = js
  standing_from js (note ∷ notes) = standing_from (noted_in js note.0 note.1) notes

  abbrev pub standing_joins : List (JoinNote N × List ℕ) → List (Joining N)
  standing_joins notes = standing_from [] notes
