-- One note more of the ends that joined, and the last taken off.
use Rattle.std.specs.Prelude.{◌≡◌, ℕ, List, [], ◌∷◌, ◌++◌, refl}
use Rattle.std.proofs.Common.{ap}
use Rattle.spec_control.specs.declared.entry.Joining.{Joining}
use Rattle.sock_core.specs.declared.joint.JoinNote.{JoinNote}
use Rattle.sock_core.specs.Standing.{noted_in, standing_from, without_last}

pub standing_more : {N : Type 0} (js : List (Joining N)) (notes : List (JoinNote N × List ℕ)) (note : JoinNote N × List ℕ) → standing_from js (notes ++ note ∷ []) ≡ noted_in (standing_from js notes) note.0 note.1
standing_more js [] note = refl
standing_more js (n ∷ notes) note = standing_more (noted_in js n.0 n.1) notes note

pub last_off : {A : Type 0} (xs : List A) (x : A) → without_last (xs ++ x ∷ []) ≡ xs
last_off [] x = refl
last_off (y ∷ []) x = refl
last_off {A} (y ∷ z ∷ zs) x = ap (λ (l : List A). y ∷ l) (last_off (z ∷ zs) x)
