-- The rows of the ends that a socket holds are of pipes that go by names.
use Rattle.std.specs.Prelude.{◌≡◌, ◌<◌, ℕ, zero, suc, Bool, true, false, List, [], ◌∷◌, Some, None, length, refl}
use Rattle.std.proofs.Common.{arith, sym, ap, ◌∙◌, subst}
use Rattle.msg_pipe.specs.Known.{Known}
use Rattle.spec_pattern.specs.PipeStep.{read_through}
use Rattle.end_table.specs.declared.row.EndRow.{EndRow}
use Rattle.end_table.specs.Rows.{Rows, row_at}
use Rattle.end_table.proofs.RowLemmas.{some_same}
use Rattle.spec_control.specs.Control.{Control, begun, owner_of, place_of}
use Rattle.spec_control.specs.ControlRun.{after_all}
use Rattle.end_table.specs.declared.table.Place.{Place}
use Rattle.end_table.specs.Places.{place_at}
use Rattle.end_table.specs.Sound.{StandsSo, WritesSo, IsSound}
use Rattle.socket_laws.specs.Standing.{goes_in}
use Rattle.socket_laws.specs.HeldRows.{HeldRowsAreNamed}
use Rattle.socket_laws.specs.Settled.{PipesAreSettled}
use Rattle.socket_laws.proofs.ChangeLemmas.{Stood, stood, goes_so}
use Rattle.socket_laws.proofs.OfPipesLemmas.{has_writes, here_not_gone}

none_some : {X : Type 0} {x : X} → None ≡ Some x → ⊥
none_some e = Prim.grind arith

row_within : {O I : Type 0} (rows : Rows O I) (k : ℕ) (row : EndRow O I) → row_at rows k ≡ Some row → k < length rows
row_within [] k row h = absurd (none_some h)
row_within (r ∷ rows) zero row h = omega arith
row_within (r ∷ rows) (suc k) row h = let lt = row_within rows k row h in omega (arith, lt)

module _ {S O I N : Type 0} (K : Known S O I N) (pipes : S) where
  -- the place of a row: its end is held there, with its writing half
  record PlaceOf (places : List (Place N I)) (k : ℕ) (row : EndRow O I) : Type 0 where
    place : Place N I
    there : place_at places k ≡ Some place
    held : place.held ≡ true
    writes : place.writes ≡ true
    is : WritesSo K pipes row place

  place_of_row : (rows : Rows O I) (places : List (Place N I)) → IsSound K pipes rows places → (k : ℕ) (row : EndRow O I) → row_at rows k ≡ Some row → PlaceOf places k row
  place_of_row rows places sound k row at = by s.place.held s.place.writes refl refl (sound.stands k s.place s.there)
    where
      s : Stood places k
      s = stood places k (subst (λ (n : ℕ). k < n) sound.count (row_within rows k row at))

      by : (h w : Bool) → s.place.held ≡ h → s.place.writes ≡ w → StandsSo K pipes (row_at rows k) s.place h w → PlaceOf places k row
      by false w eh ew none = absurd (none_some (sym none ∙ at))
      by true false eh ew none = absurd (none_some (sym none.1 ∙ at))
      by true true eh ew so = record {
        place = s.place;
        there = s.there;
        held = eh;
        writes = ew;
        is = subst (λ (r : EndRow O I). WritesSo K pipes r s.place) (some_same so.0 row (sym so.1 ∙ at)) so.2;
      }

pub held_rows_are_named : {S O I N : Type 0} (K : Known S O I N) (T : Type 0) → PipesAreSettled N T → HeldRowsAreNamed K T
held_rows_are_named {S} {O} {I} {N} K T settled io items run names o pipes rows places sound held = (named, owned)
  where
    c : Control
    c = after_all items (begun io)

    named : (k : ℕ) (row : EndRow O I) → row_at rows k ≡ Some row → (goes_in c names row.end ≡ Some (K.out_name row.out)) × (goes_in c names (read_through row.end) ≡ Some (K.in_name row.input))
    named k row at =
        let p = place_of_row K pipes rows places sound k row at in
        let is = held k p.place p.there p.held in
        subst (λ e. (goes_in c names e ≡ Some (K.out_name row.out)) × (goes_in c names (read_through e) ≡ Some (K.in_name row.input))) (sym p.is.end_is) (
          goes_so c names p.place.end (K.out_name row.out) (settled.written io items run p.place.end (has_writes (place_of c p.place.end) (is.at.writes p.writes))) (is.written ∙ ap (λ (n : N). Some n) (sym p.is.name_is)),
          goes_so c names (read_through p.place.end) (K.in_name row.input) (settled.read io items run p.place.end (here_not_gone (place_of c p.place.end) is.at.here)) (is.read ∙ ap (λ (n : N). Some n) (sym p.is.reads.name_is)),
        )

    owned : (k : ℕ) (row : EndRow O I) → row_at rows k ≡ Some row → owner_of c row.end ≡ o
    owned k row at = let p = place_of_row K pipes rows places sound k row at in ap (owner_of c) p.is.end_is ∙ (held k p.place p.there p.held).owner
