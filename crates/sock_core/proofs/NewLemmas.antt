-- A socket at its making is calm.
use Rattle.std.specs.Prelude.{◌≡◌, ℕ, List, [], refl}
use Rattle.std.proofs.Common.{sym, subst}
use Rattle.end_table.specs.declared.table.Place.{Place}
use Rattle.end_table.specs.declared.changes.PipeChange.{PipeChange}
use Rattle.sock_core.specs.declared.joint.JoinNote.{JoinNote}
use Rattle.sock_core.specs.Way.{way_in, IsCalm}

pub calm_new : {N I O S : Type 0} (way : List (JoinNote N × List ℕ)) (ps : List (Place N I)) (changes : List (PipeChange O I × S)) → way ≡ [] → changes ≡ [] → IsCalm (way_in way) ps changes []
calm_new {N} {I} {O} {S} way ps changes no_way none =
    subst (λ (l : List (JoinNote N × List ℕ)). IsCalm (way_in l) ps changes []) (sym no_way)
    (subst (λ (xs : List (PipeChange O I × S)). IsCalm (way_in {N = N} []) ps xs []) (sym none) (record { quiet = refl; makings = tt; ends = refl; held = tt }))
