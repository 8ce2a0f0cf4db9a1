-- What joining the halves of the pipe that a socket's end read tells counts what the steps past committed and took.
use Rattle.std.proofs.Common.{◌≡◌, ◌∙◌, ℕ, Bool, true, false, List, Option, Some, None, length, refl, sym, ap, subst, true≢false}
use Rattle.std.specs.Prelude.{is_some, position}
use Rattle.zq_base.specs.declared.ids.EndId.{EndId}
use Rattle.zq_base.specs.Ends.{PipeId, other_end}
use Rattle.spec_pattern.specs.Half.{Writing, Reading}
use Rattle.spec_pattern.specs.PipeStep.{PipeStep}
use Rattle.msg_pipe.specs.Known.{Known}
use Rattle.end_table.specs.declared.row.EndRow.{EndRow}
use Rattle.end_table.specs.Past.{Stands}
use Rattle.end_table.specs.Rows.{row_at}
use Rattle.end_table.proofs.RowLemmas.{some_same}
use Rattle.spec_control.specs.declared.entry.Item.{Item}
use Rattle.spec_control.specs.Place.{is_here}
use Rattle.spec_control.specs.Control.{begun, place_of}
use Rattle.spec_control.specs.ControlRun.{IsControlRun, after_all}
use Rattle.spec_run.specs.OwnedRun.{pipe_capacity}
use Rattle.desk.specs.Holding.{read_in}
use Rattle.end_table.specs.declared.table.EndTable.{EndTable}
use Rattle.end_table.specs.declared.table.Place.{Place}
use Rattle.end_table.specs.Counting.{half_at, half_in, counts_at, counts_of, counts_with}
use Rattle.end_table.specs.Places.{place_at, is_of, held_in}
use Rattle.sock_core.specs.Sound.{AreSound, IsStanding}
use Rattle.sock_core.proofs.FindLemmas.{held_is, end_is, found, not_found, alone_of}
use Rattle.sock_core.proofs.FormLemmas.{sound_of}
use Rattle.sock_core.proofs.HolderLemmas.{reads_here, names_at}
use Rattle.socket_laws.specs.Standing.{PastStands, goes_in}
use Rattle.socket_laws.specs.Ends.{IsHeldFor, AreHeldFor}
use Rattle.socket_laws.specs.Settled.{PipesAreSettled}
use Rattle.socket_laws.proofs.ChangeLemmas.{goes_so}
use Rattle.socket_laws.proofs.CountLemmas.{Counts}
use Rattle.socket_laws.proofs.OfPipesLemmas.{here_not_gone}

record SomeOf {A : Type 0} (x : Option A) : Type 0 where
  some : A
  is : x ≡ Some some

some_of : {A : Type 0} (x : Option A) → is_some x ≡ true → SomeOf x
some_of None h = absurd (true≢false (sym h))
some_of (Some a) h = record { some = a; is = refl }

none_of : {A : Type 0} (x : Option A) → is_some x ≡ false → x ≡ None
none_of None h = refl
none_of (Some a) h = absurd (true≢false h)

module _ {S O I N : Type 0} (K : Known S O I N) (pipes : S) (t : EndTable N O I) (sound : AreSound K pipes t.rows.items t.places.items) where
  -- the reading half of an end that is held is there, of the pipe of the name at its place
  record HasHalf (k : ℕ) (p : Place N I) : Type 0 where
    half : I
    there : half_in t k ≡ Some half
    name_is : K.in_name half ≡ p.read

  has_half : (k : ℕ) (p : Place N I) → place_at t.places.items k ≡ Some p → p.held ≡ true → HasHalf k p
  has_half k p at held = by p.writes refl
    where
      s : IsStanding K pipes (row_at t.rows.items k) p
      s = sound.stands k p at

      by : (w : Bool) → p.writes ≡ w → HasHalf k p
      by true w =
          let r = some_of (row_at t.rows.items k) (s.row_there held w) in
          record { half = r.some.input; there = ap (λ (x : Option (EndRow O I)). half_at x (place_at t.places.items k)) r.is; name_is = (s.row_is r.some r.is held w).reads.name_is }
      by false w =
          let i = some_of p.input (s.input_there held w) in
          record {
            half = i.some;
            there = ap (λ (x : Option (EndRow O I)). half_at x (place_at t.places.items k)) (none_of (row_at t.rows.items k) (s.no_row held w)) ∙ ap (half_at {N = N} {O = O} {I = I} None) at ∙ i.is;
            name_is = (s.input_is i.some i.is held w).name_is;
          }

  module _ (T : Type 0) (settled : PipesAreSettled N T) (one_out : (s : S) (o p : O) → K.out_name o ≡ K.out_name p → K.writing s o ≡ K.writing s p) (one_in : (s : S) (i j : I) → K.in_name i ≡ K.in_name j → K.reading s i ≡ K.reading s j)
      (io : ℕ) (items : List (Item N T)) (run : IsControlRun (begun io) items) (names : PipeId → Option N) (o : ℕ) (own : AreHeldFor (after_all items (begun io)) names o t.places.items) (past : List PipeStep)
      (stands : PastStands K (after_all items (begun io)) names pipes past) (e : EndId) (writer : O) (pipe : read_in (held_in t.places.items) e ≡ Some (K.out_name writer)) where
    module _ (k : ℕ) (p : Place N I) (at : place_at t.places.items k ≡ Some p) (is : is_of e p ≡ true) where
      held : p.held ≡ true
      held = held_is e p is

      here : IsHeldFor (after_all items (begun io)) names o p
      here = own k p at held

      name : K.out_name writer ≡ p.read
      name = some_same (K.out_name writer) p.read (sym pipe ∙ (names_at t.places.items k p e at is (alone_of K pipes t.rows.items t.places.items k p e (sound_of K pipes t.rows.items t.places.items sound) at is)).1)

      goes : goes_in (after_all items (begun io)) names (other_end e) ≡ Some p.read
      goes = goes_so (after_all items (begun io)) names (other_end e) p.read
          (settled.read io items run e (here_not_gone (place_of (after_all items (begun io)) e) (ap (λ (d : EndId). is_here (place_of (after_all items (begun io)) d)) (end_is e p is) ∙ here.at.here)))
          (ap (λ (d : EndId). names (other_end d)) (end_is e p is) ∙ here.read)

      so : Stands K (goes_in (after_all items (begun io)) names) (pipe_capacity (after_all items (begun io))) pipes past (other_end e) p.read
      so = stands.past_is.stands (other_end e) p.read goes

      half : HasHalf k p
      half = has_half k p at held

      counted : Counts past e (counts_at K pipes t (Some k) writer)
      counted = subst (λ (x : Option I). Counts past e (counts_with K pipes writer x)) (sym half.there) (record {
        sent = ap (λ (v : Writing). length v.committed) (one_out pipes writer so.out (name ∙ sym so.out_is)) ∙ ap length so.committed;
        got = ap (λ (v : Reading). length v.taken) (one_in pipes half.half so.input (half.name_is ∙ sym so.in_is)) ∙ ap length so.taken;
      })

    pub half_counted : Counts past e (counts_of K pipes t e writer)
    half_counted = by (position (is_of e) t.places.items) refl
      where
        by : (x : Option ℕ) → position (is_of e) t.places.items ≡ x → Counts past e (counts_at K pipes t x writer)
        by None none = absurd (true≢false (sym (reads_here e t.places.items (K.out_name writer) pipe) ∙ not_found (is_of e) t.places.items (sym none)))
        by (Some k) some = let f = found (is_of e) t.places.items k (sym some) in counted k f.0 f.1 f.2
