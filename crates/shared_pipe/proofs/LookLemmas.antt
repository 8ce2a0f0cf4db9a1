-- The looks of the writing seat keep the rule.
use Rattle.std.proofs.Common.{◌≡◌, ◌≢◌, ℕ, ◌+◌, ◌%◌, ◌<◌, ◌≤◌, List, [], ◌∷◌, length, set, true, false, refl, sym, ap, ◌∙◌, subst, ⊎_elim, arith, eq-eqb, ne_eqb, Bool}
use Rattle.std.proofs.lemmas.List.{length-set}
use Rattle.std.specs.Prelude.{slice_index, ◌==◌, MatchBool}
use mathlib.Core.Option.{some, none}
use lib.ListN.{get_elem?}
use Rattle.zq_base.specs.Message.{Frames}
use Rattle.atomic_table.specs.Table.{State, Act, Allows, step, stepped, takes, keeps, Valid, carried_after}
use Rattle.atomic_table.proofs.Lists.{set_else}
use Rattle.shared_pipe.specs.declared.view.WriterView.{WriterView}
use Rattle.shared_pipe.specs.declared.view.View.{View}
use Rattle.shared_pipe.specs.Rule.{Slot, Truth, WritesAt, AreStored, IsPipeTable, IsSomePipe}
use Rattle.shared_pipe.specs.Steps.{SeatHas, FoundRoom, FoundFull, FoundNoMore, SawRoom, with_writer, lent_to, found_full, saw_takes, looks_for_room, looks_for_more, looks_at_room, looks_at_limit}
use Rattle.shared_pipe.proofs.PlacesLemmas.{off, same_or_not, apart, apart_back, round, at_lt}
use Rattle.shared_pipe.proofs.WriterLemmas.{writer_moves, loaded}

-- the pipe whose next slot the writing seat has
abbrev lend : Truth → Truth
lend t = record t { lent = true }

-- what a look that found a free word found
pub if_free : (A B : Type 0) (n : ℕ) → n ≡ 0 → MatchBool (n == 0) A B → A
if_free A B n e h = subst (λ (b : Bool). MatchBool b A B) (eq-eqb n 0 e) h

module _ (c id i : ℕ) (v : View) (writes : v.writes ≡ true) (s : State Slot View) (t : Truth) (k : IsPipeTable c s t) (at : get_elem? s.views id ≡ some v) where
  -- what the seat is told, and the rule is kept
  abbrev Outcome : (ℕ → SeatHas → Type 0) → Type 0
  Outcome then = (w : View) × (a : Act Slot) × Valid s.homes [] a × IsSomePipe c (stepped s i (slice_index s.words i) id [] w a)
      × then (slice_index s.words i) (w, carried_after [] a)

  written : WritesAt t id v
  written = k.seated.writers id v at writes

  -- the seat knows more, and takes nothing
  knows : (w : WriterView) (then : ℕ → SeatHas → Type 0) → w.committed ≡ v.writing.committed → w.sealed ≡ v.writing.sealed → w.freed ≤ t.taken → w.lent ≡ v.writing.lent
      → then (slice_index s.words i) (with_writer v w, []) → Outcome then
  knows w then committed sealed freed lent told = (
    with_writer v w,
    keeps,
    tt,
    (
      t,
      loaded c i s.words s.homes (set s.views id (with_writer v w)) t
          record {
            begins = k.begins;
            ends = k.ends;
            bound = k.bound;
            whole = k.whole;
            waits = k.waits;
            marked = k.marked;
            stored = k.stored;
            seated = writer_moves t t s.views id v w k.seated at writes
                record { seat = written.seat; committed = committed ∙ written.committed; sealed = sealed ∙ written.sealed; freed = freed; lent = lent ∙ written.lent }
                (λ j u r. r);
          },
    ),
    told,
  )

  module _ (is : i ≡ (length v.writing.committed + 1) % (c + 1)) where
    word_free : length t.committed < t.taken + c → slice_index s.words i ≡ 0
    word_free lt = rw (is, written.committed) (k.marked.free (length t.committed + 1) (omega arith) (omega arith))

    word_filled : 0 < c → length t.committed ≡ t.taken + c → slice_index s.words i ≢ 0
    word_filled pos full =
        let same : length t.committed + 1 ≡ t.taken + (c + 1) = omega arith in
        let one : slice_index s.words i ≡ 1 = rw (is, written.committed, same, round t.taken c) (k.marked.full t.taken (omega arith) (omega arith)) in
        λ e. absurd (omega arith)

    lent_homes : AreStored c (lend t) (set s.homes (length t.committed % (c + 1)) none)
    lent_homes = record {
      count = length-set s.homes (length t.committed % (c + 1)) none ∙ k.stored.count;
      items = λ n m from e ready. set_else s.homes (length t.committed % (c + 1)) (n % (c + 1)) none (apart n (length t.committed) c (at_lt t.committed m n e) (let b = k.ends in omega arith)) ∙ k.stored.items n m from e ready;
      empty = λ n from to away. ⊎_elim
          (λ (same : n ≡ length t.committed). absurd (off (sym (away same))))
          (λ (other : n ≢ length t.committed). let e = k.stored.empty n from to (λ same. absurd (other same)) in (e.0, set_else s.homes (length t.committed % (c + 1)) (n % (c + 1)) none (apart_back (length t.committed) n c (omega arith) (let b = k.begins in omega arith)) ∙ e.1))
          (same_or_not n (length t.committed));
    }

    -- the seat takes the next slot
    found_room : (Full : SeatHas → Type 0) → v.writing.lent ≡ false → length t.committed < t.taken + c
        → Outcome (λ n w. MatchBool (n == 0) (FoundRoom (c + 1) (v, []) w) (Full w))
    found_room Full idle lt =
        let e = k.stored.empty (length t.committed) (omega arith) (omega arith) (λ _. sym written.lent ∙ idle) in
        let w = with_writer v (lent_to v.writing t.taken) in
        let place = length t.committed % (c + 1) in (
          w,
          takes place e.0,
          e.1,
          (
            lend t,
            loaded c i s.words (set s.homes place none) (set s.views id w) (lend t)
                record {
                  begins = k.begins;
                  ends = k.ends;
                  bound = k.bound;
                  whole = k.whole;
                  waits = k.waits;
                  marked = record { count = k.marked.count; full = k.marked.full; next = k.marked.next; free = k.marked.free };
                  stored = lent_homes;
                  seated = writer_moves t (lend t) s.views id v (lent_to v.writing t.taken) k.seated at writes
                      record { seat = written.seat; committed = written.committed; sealed = written.sealed; freed = omega arith; lent = refl }
                      (λ j u r. record { seat = r.seat; taken = r.taken; seen = r.seen; ended = r.ended; drawn = r.drawn });
                },
          ),
          rw (eq-eqb (slice_index s.words i) 0 (word_free lt))
              record {
                takes_seen = t.taken;
                slot = e.0;
                after = ap (λ (l : List Frames). (w, (length l % (c + 1), e.0) ∷ [])) (sym written.committed);
                later = written.freed;
                room = rw (written.committed) (omega arith);
              },
        )

    -- it sees that there is room
    saw_room : length t.committed < t.taken + c → Outcome (looks_at_room (step (c + 1) i 0 0 none) (v, []))
    saw_room lt = knows (saw_takes v.writing t.taken) (looks_at_room (step (c + 1) i 0 0 none) (v, [])) refl refl (omega arith) refl
        (rw (eq-eqb (slice_index s.words i) 0 (word_free lt))
        record { takes_seen = t.taken; after = refl; later = written.freed; room = rw (written.committed) (omega arith) })

    -- it finds none, which is counted
    found_none : (Free : SeatHas → Type 0) → 0 < c → length t.committed ≡ t.taken + c
        → Outcome (λ n w. MatchBool (n == 0) (Free w) (FoundFull (c + 1) (v, []) w))
    found_none Free pos full = knows (found_full v.writing t.taken) (λ n w. MatchBool (n == 0) (Free w) (FoundFull (c + 1) (v, []) w)) refl refl (omega arith) refl
        (rw (ne_eqb (slice_index s.words i) 0 (word_filled pos full))
        record { takes_seen = t.taken; after = refl; later = written.freed; full = rw (written.committed) (omega arith) })

    -- it finds none behind others
    found_no_more : 0 < c → length t.committed ≡ t.taken + c → Outcome (looks_for_more (step (c + 1) i 0 0 none) (v, []))
    found_no_more pos full = knows (saw_takes v.writing t.taken) (looks_for_more (step (c + 1) i 0 0 none) (v, [])) refl refl (omega arith) refl
        (rw (ne_eqb (slice_index s.words i) 0 (word_filled pos full))
        record { takes_seen = t.taken; after = refl; later = written.freed; full = rw (written.committed) (omega arith) })

  -- the pipe has room or it has none
  either : (then : ℕ → SeatHas → Type 0) → (length t.committed < t.taken + c → Outcome then) → (length t.committed ≡ t.taken + c → Outcome then) → Outcome then
  either then free full = ⊎_elim full (λ (ne : length t.committed ≢ t.taken + c). free (let m = k.ends in omega arith)) (same_or_not (length t.committed) (t.taken + c))

-- the look of a put
pub looks : (c id i : ℕ) (v : View) → 0 < c → v.writes ≡ true → v.writing.lent ≡ false → i ≡ (length v.writing.committed + 1) % (c + 1)
    → Allows (IsSomePipe c) (c + 1) id (v, []) i (λ n. n) (looks_for_room (step (c + 1) i 0 0 none) (v, []))
looks c id i v pos writes idle is s kept size at small =
    either c id i v writes s kept.0 kept.1 at (looks_for_room (step (c + 1) i 0 0 none) (v, []))
    (found_room c id i v writes s kept.0 kept.1 at is (FoundFull (c + 1) (v, [])) idle)
    (found_none c id i v writes s kept.0 kept.1 at is (FoundRoom (c + 1) (v, [])) pos)

-- that of a put behind others
pub looks_on : (c id i : ℕ) (v : View) → 0 < c → v.writes ≡ true → v.writing.lent ≡ false → i ≡ (length v.writing.committed + 1) % (c + 1)
    → Allows (IsSomePipe c) (c + 1) id (v, []) i (λ n. n) (looks_for_more (step (c + 1) i 0 0 none) (v, []))
looks_on c id i v pos writes idle is s kept size at small =
    either c id i v writes s kept.0 kept.1 at (looks_for_more (step (c + 1) i 0 0 none) (v, []))
    (found_room c id i v writes s kept.0 kept.1 at is (FoundNoMore (c + 1) (v, [])) idle)
    (found_no_more c id i v writes s kept.0 kept.1 at is pos)

-- the look for room alone
pub sees : (c id i : ℕ) (v : View) → 0 < c → v.writes ≡ true → i ≡ (length v.writing.committed + 1) % (c + 1)
    → Allows (IsSomePipe c) (c + 1) id (v, []) i (λ n. n) (looks_at_room (step (c + 1) i 0 0 none) (v, []))
sees c id i v pos writes is s kept size at small =
    either c id i v writes s kept.0 kept.1 at (looks_at_room (step (c + 1) i 0 0 none) (v, []))
    (saw_room c id i v writes s kept.0 kept.1 at is)
    (found_none c id i v writes s kept.0 kept.1 at is (SawRoom (c + 1) (v, [])) pos)

-- the look of a seat that may commit no more
pub limits : (c id i : ℕ) (v : View) → v.writes ≡ true
    → Allows (IsSomePipe c) (c + 1) id (v, []) i (λ n. n) (looks_at_limit (step (c + 1) i 0 0 none) (v, []))
limits c id i v writes s kept size at small =
    knows c id i v writes s kept.0 kept.1 at (found_full v.writing v.writing.freed) (looks_at_limit (step (c + 1) i 0 0 none) (v, [])) refl refl ((kept.1.seated.writers id v at writes).freed) refl refl
