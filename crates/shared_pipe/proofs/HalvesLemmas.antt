-- A pipe begins, its two halves part, and they come together.
use Rattle.std.proofs.Common.{◌≡◌, ◌≢◌, ℕ, zero, suc, ◌+◌, ◌%◌, ◌<◌, List, [], ◌∷◌, length, set, replicate, None, true, false, refl, sym, ap, ◌∙◌, subst, ⊎_elim, arith, take_all}
use Rattle.std.proofs.lemmas.List.{set-get_or, length-replicate, get_or-replicate, length-map, length-take}
use mathlib.Core.Option.{some, none, some-ne-none, some-injective}
use mathlib.Core.List.{IsPrefix}
use lib.ListN.{get_elem?}
use Rattle.zq_base.specs.Message.{Frames}
use Rattle.atomic_table.specs.Table.{Allows, Splits, Joins, opening, step, keeps}
use Rattle.atomic_table.proofs.Lists.{at_set, set_again, some_there}
use Rattle.shared_pipe.specs.declared.view.View.{View}
use Rattle.shared_pipe.specs.Rule.{Slot, Truth, WritesAt, ReadsAt, IsPipeTable, IsSomePipe, fresh_view, writer_of, reader_of, both_of, no_view}
use Rattle.shared_pipe.specs.Steps.{compares}
use Rattle.shared_pipe.proofs.PlacesLemmas.{off, place_lt, at_push, prefix_of_take}

abbrev new : Truth
new = record { committed = []; taken = 0; sealed = false; lent = false; drawn = false; writer = 0; reader = 0 }

abbrev vacant : ℕ → List Slot
vacant c = replicate (c + 1) None

size : (c : ℕ) → length (vacant c) ≡ c + 1
size c = length-replicate (c + 1) None

pub begins : (c : ℕ) → IsSomePipe c (opening (replicate (c + 1) 0) (replicate (c + 1) None) fresh_view)
begins c = (
  new,
  record {
    begins = omega arith;
    ends = omega arith;
    bound = omega arith;
    whole = λ n m e. absurd (some-ne-none m (sym e));
    waits = λ d. absurd (off d);
    marked = record {
      count = length-replicate (c + 1) 0;
      full = λ n from to. absurd (omega arith);
      next = get_or-replicate (c + 1) (0 % (c + 1)) 0 0 (place_lt 0 c);
      free = λ n from to. get_or-replicate (c + 1) (n % (c + 1)) 0 0 (place_lt n c);
    };
    stored = record {
      count = length-map (vacant c) some ∙ length-replicate (c + 1) None;
      items = λ n m from e ready. absurd (some-ne-none m (sym e));
      empty = λ n from to away. some_there (vacant c) (n % (c + 1)) (subst (λ (z : ℕ). n % (c + 1) < z) (sym (size c)) (place_lt n c));
    };
    seated = record { writers = one_writer; readers = one_reader };
  },
)
  where
    one_writer : (j : ℕ) (v : View) → get_elem? (fresh_view ∷ []) j ≡ some v → v.writes ≡ true → WritesAt new j v
    one_writer zero v e _ = subst (WritesAt new 0) (some-injective fresh_view v e) record { seat = refl; committed = refl; sealed = refl; freed = omega arith; lent = refl }
    one_writer (suc j) v e _ = absurd (some-ne-none v (sym e))

    one_reader : (j : ℕ) (v : View) → get_elem? (fresh_view ∷ []) j ≡ some v → v.reads ≡ true → ReadsAt new j v
    one_reader zero v e _ = subst (ReadsAt new 0) (some-injective fresh_view v e) record { seat = refl; taken = refl; seen = ([], refl); ended = λ d. absurd (off d); drawn = refl }
    one_reader (suc j) v e _ = absurd (some-ne-none v (sym e))

abbrev read_by : Truth → ℕ → Truth
read_by t j = record t { reader = j }

abbrev written_by : Truth → ℕ → Truth
written_by t j = record t { writer = j }

pub parts : (c id : ℕ) (v : View) → v.reads ≡ true → Splits (IsSomePipe c) id v (writer_of v) (reader_of v)
parts c id v reads s kept at =
    let t = kept.0 in
    let k = kept.1 in
    let left = set s.views id (writer_of v) in
    let t' = read_by t (length left) in
    let mine = k.seated.readers id v at reads in (
      t',
      record {
        begins = k.begins;
        ends = k.ends;
        bound = k.bound;
        whole = k.whole;
        waits = k.waits;
        marked = record { count = k.marked.count; full = k.marked.full; next = k.marked.next; free = k.marked.free };
        stored = record { count = k.stored.count; items = k.stored.items; empty = k.stored.empty };
        seated = record {
          writers = λ j u e is. ⊎_elim
              (λ (old : get_elem? left j ≡ some u). ⊎_elim
              (λ (x : (j ≡ id) × (writer_of v ≡ u)). subst (λ (y : ℕ × View). y.1.writes ≡ true → WritesAt t' y.0 y.1) (λ i. (sym x.0 i, x.1 i)) (λ w. let m = k.seated.writers id v at w in record { seat = m.seat; committed = m.committed; sealed = m.sealed; freed = m.freed; lent = m.lent }) is)
              (λ (x : (j ≢ id) × (get_elem? s.views j ≡ some u)). let m = k.seated.writers j u x.1 is in record { seat = m.seat; committed = m.committed; sealed = m.sealed; freed = m.freed; lent = m.lent })
              (at_set s.views id j (writer_of v) u old))
              (λ (x : (j ≡ length left) × (reader_of v ≡ u)). absurd (off (ap (λ (y : View). y.writes) x.1 ∙ is)))
              (at_push left (reader_of v) u j e);
          readers = λ j u e is. ⊎_elim
              (λ (old : get_elem? left j ≡ some u). ⊎_elim
              (λ (x : (j ≡ id) × (writer_of v ≡ u)). absurd (off (ap (λ (y : View). y.reads) x.1 ∙ is)))
              (λ (x : (j ≢ id) × (get_elem? s.views j ≡ some u)). absurd (x.0 ((k.seated.readers j u x.1 is).seat ∙ sym mine.seat)))
              (at_set s.views id j (writer_of v) u old))
              (λ (x : (j ≡ length left) × (reader_of v ≡ u)). subst (λ (y : View). ReadsAt t' j y) x.1 record { seat = x.0; taken = mine.taken; seen = mine.seen; ended = mine.ended; drawn = mine.drawn })
              (at_push left (reader_of v) u j e);
        };
      },
    )

pub meets : (c id other : ℕ) (v w : View) → v.reads ≡ true → w.writes ≡ true → Joins (IsSomePipe c) id v other w (both_of v w) no_view
meets c id other v w reads writes s kept at apart there =
    let t = kept.0 in
    let k = kept.1 in
    let b = both_of v w in
    let t' = written_by t id in
    let mine = k.seated.readers id v at reads in
    let theirs = ⊎_elim (λ (x : (other ≡ id) × (b ≡ w)). absurd (apart x.0)) (λ (x : (other ≢ id) × (get_elem? s.views other ≡ some w)). k.seated.writers other w x.1 writes) (at_set s.views id other b w there) in (
      t',
      record {
        begins = k.begins;
        ends = k.ends;
        bound = k.bound;
        whole = k.whole;
        waits = k.waits;
        marked = record { count = k.marked.count; full = k.marked.full; next = k.marked.next; free = k.marked.free };
        stored = record { count = k.stored.count; items = k.stored.items; empty = k.stored.empty };
        seated = record {
          writers = λ j u e is. ⊎_elim
              (λ (x : (j ≡ other) × (no_view ≡ u)). absurd (off (ap (λ (y : View). y.writes) x.1 ∙ is)))
              (λ (x : (j ≢ other) × (get_elem? (set s.views id b) j ≡ some u)). ⊎_elim
              (λ (y : (j ≡ id) × (b ≡ u)). subst (λ (z : ℕ × View). WritesAt t' z.0 z.1) (λ i. (sym y.0 i, y.1 i)) record { seat = refl; committed = theirs.committed; sealed = theirs.sealed; freed = theirs.freed; lent = theirs.lent })
              (λ (y : (j ≢ id) × (get_elem? s.views j ≡ some u)). absurd (x.0 ((k.seated.writers j u y.1 is).seat ∙ sym theirs.seat)))
              (at_set s.views id j b u x.1))
              (at_set (set s.views id b) other j no_view u e);
          readers = λ j u e is. ⊎_elim
              (λ (x : (j ≡ other) × (no_view ≡ u)). absurd (off (ap (λ (y : View). y.reads) x.1 ∙ is)))
              (λ (x : (j ≢ other) × (get_elem? (set s.views id b) j ≡ some u)). ⊎_elim
              (λ (y : (j ≡ id) × (b ≡ u)). subst (λ (z : ℕ × View). ReadsAt t' z.0 z.1) (λ i. (sym y.0 i, y.1 i)) record { seat = mine.seat; taken = mine.taken; seen = mine.seen; ended = mine.ended; drawn = mine.drawn })
              (λ (y : (j ≢ id) × (get_elem? s.views j ≡ some u)). absurd (y.0 ((k.seated.readers j u y.1 is).seat ∙ sym mine.seat)))
              (at_set s.views id j b u x.1))
              (at_set (set s.views id b) other j no_view u e);
        };
      },
    )

-- both halves in one seat compare what they know
pub compared : (c id i : ℕ) (v : View) → v.reads ≡ true → v.writes ≡ true → Allows (IsSomePipe c) (c + 1) id (v, []) i (λ n. n) (compares (step (c + 1) i 0 0 none) (v, []))
compared c id i v reads writes s kept size at small =
    let t = kept.0 in
    let k = kept.1 in
    let r = k.seated.readers id v at reads in
    let w = k.seated.writers id v at writes in
    let count : length v.reading.taken ≡ t.taken = ap (λ (l : List Frames). length l) r.taken ∙ (let e = length-take t.taken t.committed in let b = k.begins in omega (arith, e)) in (
      v,
      keeps,
      tt,
      (t, subst (λ (x : List ℕ × List View). IsPipeTable c record { words = x.0; homes = s.homes; views = x.1 } t) (λ j. (sym (set-get_or s.words i 0) j, sym (set_again s.views id v at) j)) k),
      record {
        after = refl;
        taken = subst (λ (x : List Frames × List Frames). IsPrefix x.0 x.1) (λ j. (sym r.taken j, sym w.committed j)) (prefix_of_take t.committed t.taken);
        seen = subst (λ (l : List Frames). IsPrefix v.reading.seen l) (sym w.committed) r.seen;
        freed = (let f = w.freed in omega (arith, f, count));
        room = (let e = ap (λ (l : List Frames). length l) w.committed in let b = k.ends in omega (arith, e, count));
        ended = λ d. (
          w.sealed ∙ (r.ended d).0,
          r.taken ∙ take_all t.taken t.committed (let n = (r.ended d).1 in omega (arith, n)) ∙ sym w.committed,
        );
      },
    )
