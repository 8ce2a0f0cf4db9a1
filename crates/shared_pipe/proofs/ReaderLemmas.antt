-- Each step of the reading seat keeps the rule.
use Rattle.std.proofs.Common.{◌≡◌, ◌≢◌, ℕ, ◌+◌, ◌%◌, ◌<◌, ◌≤◌, ◌==◌, List, [], ◌∷◌, ◌++◌, length, take, set, Some, None, Bool, true, false, MatchBool, refl, sym, ap, ◌∙◌, subst, ⊎_elim, arith, eq-eqb, ne_eqb, take_all, append-nil}
use Rattle.std.proofs.lemmas.List.{get_or-set_same, get_or-set_other, length-set, length-take}
use Rattle.std.specs.Prelude.{slice_index}
use mathlib.Core.Option.{some, none}
use mathlib.Core.List.{IsPrefix}
use lib.ListN.{get_elem?}
use Rattle.zq_base.specs.Message.{Frames}
use Rattle.atomic_table.specs.Table.{State, Act, Allows, step, stepped, takes, gives, keeps, Valid, carried_after}
use Rattle.atomic_table.proofs.Lists.{at_set, set_here, set_else}
use Rattle.shared_pipe.specs.declared.view.ReaderView.{ReaderView}
use Rattle.shared_pipe.specs.declared.view.View.{View}
use Rattle.shared_pipe.specs.Rule.{Slot, Truth, mark, WritesAt, ReadsAt, AreSeated, AreMarked, AreStored, IsPipeTable, IsSomePipe}
use Rattle.shared_pipe.specs.Steps.{SeatHas, with_reader, found_message, drawing, found_empty, found_end, took_oldest, SawMessage, FoundItem, FoundFront, FoundEmpty, FoundEnd, looks_for_item, looks_at_front, vacates}
use Rattle.shared_pipe.proofs.PlacesLemmas.{off, on_or_off, same_or_not, apart_back, round, place_lt, at_lt, at_some, prefix_at, take_prefix}
use Rattle.shared_pipe.proofs.WriterLemmas.{loaded}

-- the reading seat's view changes
pub reader_moves : (t t' : Truth) (views : List View) (id : ℕ) (v : View) (r : ReaderView) → AreSeated t views → get_elem? views id ≡ some v → v.reads ≡ true
    → ReadsAt t' id (with_reader v r) → ((j : ℕ) (u : View) → WritesAt t j u → WritesAt t' j u)
    → AreSeated t' (set views id (with_reader v r))
reader_moves t t' views id v r s at reads mine others = record {
  readers = λ j u e is. ⊎_elim
      (λ (x : (j ≡ id) × (with_reader v r ≡ u)). subst (λ (y : ℕ × View). ReadsAt t' y.0 y.1) (λ i. (sym x.0 i, x.1 i)) mine)
      (λ (x : (j ≢ id) × (get_elem? views j ≡ some u)). absurd (x.0 ((s.readers j u x.1 is).seat ∙ sym (s.readers id v at reads).seat)))
      (at_set views id j (with_reader v r) u e);
  writers = λ j u e is. ⊎_elim
      (λ (x : (j ≡ id) × (with_reader v r ≡ u)). subst (λ (y : ℕ × View). y.1.writes ≡ true → WritesAt t' y.0 y.1) (λ i. (sym x.0 i, x.1 i)) (λ w. same_writing (others id v (s.writers id v at w))) is)
      (λ (x : (j ≢ id) × (get_elem? views j ≡ some u)). others j u (s.writers j u x.1 is))
      (at_set views id j (with_reader v r) u e);
}
  where
    same_writing : WritesAt t' id v → WritesAt t' id (with_reader v r)
    same_writing w = record { seat = w.seat; committed = w.committed; sealed = w.sealed; freed = w.freed; lent = w.lent }

-- the pipe after the steps of the reading seat
abbrev draw : Truth → Truth
draw t = record t { drawn = true }

abbrev pull : Truth → Truth
pull t = record t { taken = t.taken + 1; drawn = false }

-- the looks at the oldest message
module _ (c id i : ℕ) (v : View) (reads : v.reads ≡ true) (idle : v.reading.drawn ≡ false) (is : i ≡ length v.reading.taken % (c + 1))
    (s : State Slot View) (t : Truth) (k : IsPipeTable c s t) (at : get_elem? s.views id ≡ some v) where
  abbrev Outcome : (SeatHas → Type 0) → Type 0
  Outcome told = (w : View) × (a : Act Slot) × Valid s.homes [] a × IsSomePipe c (stepped s i (slice_index s.words i) id [] w a) × told (w, carried_after [] a)

  mine : ReadsAt t id v
  mine = k.seated.readers id v at reads

  count : length v.reading.taken ≡ t.taken
  count = ap (λ (l : List Frames). length l) mine.taken ∙ (let e = length-take t.taken t.committed in let b = k.begins in omega (arith, e))

  here : i ≡ t.taken % (c + 1)
  here = is ∙ ap (λ (n : ℕ). n % (c + 1)) count

  -- the end was not met while a message waits, or while the pipe is not sealed
  not_ended : ((t.sealed ≡ true) × (t.taken ≡ length t.committed) → ⊥) → v.reading.ended ≡ false
  not_ended unless = ⊎_elim
      (λ (e : v.reading.ended ≡ true). absurd (unless (mine.ended e)))
      (λ (e : v.reading.ended ≡ false). e)
      (on_or_off v.reading.ended)

  one_waits : t.taken < length t.committed → slice_index s.words i ≡ 1
  one_waits lt = rw here (k.marked.full t.taken (omega arith) lt)

  saw : (lt : t.taken < length t.committed) (m : Frames) → get_elem? t.committed t.taken ≡ some m → SawMessage v.reading m t.committed
  saw lt m e = record {
    seen = mine.seen;
    within = subst (λ (l : List Frames). IsPrefix (l ++ m ∷ []) t.committed) (sym mine.taken) (prefix_at t.committed t.taken m e);
    whole = k.whole t.taken m e;
    before_the_end = not_ended (λ end. let n = end.1 in omega (arith, n, lt));
    few = let b = k.bound in omega (arith, count);
  }

  drawn_homes : t.taken < length t.committed → AreStored c (draw t) (set s.homes (t.taken % (c + 1)) none)
  drawn_homes lt = record {
    count = length-set s.homes (t.taken % (c + 1)) none ∙ k.stored.count;
    items = λ n m from e ready. ⊎_elim
        (λ (same : n ≡ t.taken). absurd (off (sym (ready same))))
        (λ (other : n ≢ t.taken). set_else s.homes (t.taken % (c + 1)) (n % (c + 1)) none (apart_back t.taken n c (omega arith) (let b = k.ends in let l = at_lt t.committed m n e in omega arith)) ∙ k.stored.items n m from e (λ same. absurd (other same)))
        (same_or_not n t.taken);
    empty = λ n from to away. let e = k.stored.empty n from to away in (e.0, set_else s.homes (t.taken % (c + 1)) (n % (c + 1)) none (apart_back t.taken n c (omega arith) (omega arith)) ∙ e.1);
  }

  found_item : t.taken < length t.committed → Outcome (FoundItem (c + 1) (v, []))
  found_item lt =
      let x = at_some t.committed t.taken lt in
      let w = with_reader v (drawing v.reading t.committed) in
      let place = t.taken % (c + 1) in (
        w,
        takes place (Some x.0),
        k.stored.items t.taken x.0 (omega arith) x.1 (λ _. sym mine.drawn ∙ idle),
        (
          draw t,
          loaded c i s.words (set s.homes place none) (set s.views id w) (draw t)
              record {
                begins = k.begins;
                ends = k.ends;
                bound = k.bound;
                whole = k.whole;
                waits = λ _. lt;
                marked = record { count = k.marked.count; full = k.marked.full; next = k.marked.next; free = k.marked.free };
                stored = drawn_homes lt;
                seated = reader_moves t (draw t) s.views id v (drawing v.reading t.committed) k.seated at reads
                    record { seat = mine.seat; taken = mine.taken; seen = ([], append-nil t.committed); ended = mine.ended; drawn = refl }
                    (λ j u m. record { seat = m.seat; committed = m.committed; sealed = m.sealed; freed = m.freed; lent = m.lent });
              },
        ),
        record {
          saw = t.committed;
          item = x.0;
          after = ap (λ (n : ℕ). (w, (n % (c + 1), Some x.0) ∷ [])) (sym count);
          waits = saw lt x.0 x.1;
        },
      )

  -- a look that takes nothing
  looked : (r : ReaderView) → ReadsAt t id (with_reader v r) → IsSomePipe c (stepped s i (slice_index s.words i) id [] (with_reader v r) keeps)
  looked r knows = (
    t,
    loaded c i s.words s.homes (set s.views id (with_reader v r)) t
        record {
          begins = k.begins;
          ends = k.ends;
          bound = k.bound;
          whole = k.whole;
          waits = k.waits;
          marked = k.marked;
          stored = k.stored;
          seated = reader_moves t t s.views id v r k.seated at reads knows (λ j u m. m);
        },
  )

  found_front : t.taken < length t.committed → Outcome (FoundFront (v, []))
  found_front lt =
      let x = at_some t.committed t.taken lt in
      let r = found_message v.reading t.committed in (
        with_reader v r,
        keeps,
        tt,
        looked r record { seat = mine.seat; taken = mine.taken; seen = ([], append-nil t.committed); ended = mine.ended; drawn = mine.drawn },
        record { saw = t.committed; item = x.0; after = refl; waits = saw lt x.0 x.1 },
      )

  -- where nothing is left, all that was committed was taken
  all_taken : t.taken ≡ length t.committed → v.reading.taken ≡ t.committed
  all_taken e = mine.taken ∙ take_all t.taken t.committed (omega arith)

  -- the look sees just these
  all_seen : t.taken ≡ length t.committed → IsPrefix v.reading.taken t.committed
  all_seen e = subst (λ (l : List Frames). IsPrefix l t.committed) (sym (all_taken e)) ([], append-nil t.committed)

  seen_taken : t.taken ≡ length t.committed → IsPrefix v.reading.seen v.reading.taken
  seen_taken e = subst (λ (l : List Frames). IsPrefix v.reading.seen l) (sym (all_taken e)) mine.seen

  nothing_left : t.taken ≡ length t.committed → slice_index s.words i ≡ mark t.sealed
  nothing_left e = rw (here, e) k.marked.next

  found_nothing : t.taken ≡ length t.committed → t.sealed ≡ false → Outcome (FoundEmpty (v, []))
  found_nothing e open_ =
      let r = found_empty v.reading in (
        with_reader v r,
        keeps,
        tt,
        looked r record { seat = mine.seat; taken = mine.taken; seen = all_seen e; ended = mine.ended; drawn = mine.drawn },
        record { after = refl; seen = seen_taken e; before_the_end = not_ended (λ end. off (sym open_ ∙ end.0)) },
      )

  found_delimiter : t.taken ≡ length t.committed → t.sealed ≡ true → Outcome (FoundEnd (v, []))
  found_delimiter e shut =
      let r = found_end v.reading in (
        with_reader v r,
        keeps,
        tt,
        looked r record { seat = mine.seat; taken = mine.taken; seen = all_seen e; ended = λ _. (shut, e); drawn = mine.drawn },
        record { after = refl; seen = seen_taken e },
      )

  -- what the word says, whatever a message leads to
  abbrev Told : (SeatHas → Type 0) → SeatHas → Type 0
  Told item w = MatchBool (slice_index s.words i == 0) (FoundEmpty (v, []) w) (MatchBool (slice_index s.words i == 2) (FoundEnd (v, []) w) (item w))

  told : (item : SeatHas → Type 0) → (t.taken < length t.committed → Outcome item) → Outcome (Told item)
  told item found = ⊎_elim
      (λ (e : t.taken ≡ length t.committed). ⊎_elim
      (λ (shut : t.sealed ≡ true).
      let two : slice_index s.words i ≡ 2 = nothing_left e ∙ ap mark shut in
      let not_zero : slice_index s.words i ≢ 0 = λ z. absurd (omega arith) in
      let o = found_delimiter e shut in
      (o.0, o.1, o.2, o.3, rw (ne_eqb (slice_index s.words i) 0 not_zero, eq-eqb (slice_index s.words i) 2 two) o.4))
      (λ (open_ : t.sealed ≡ false).
      let zero_found : slice_index s.words i ≡ 0 = nothing_left e ∙ ap mark open_ in
      let o = found_nothing e open_ in
      (o.0, o.1, o.2, o.3, rw (eq-eqb (slice_index s.words i) 0 zero_found) o.4))
      (on_or_off t.sealed))
      (λ (ne : t.taken ≢ length t.committed).
      let lt : t.taken < length t.committed = (let b = k.begins in omega arith) in
      let one = one_waits lt in
      let not_zero : slice_index s.words i ≢ 0 = λ z. absurd (omega arith) in
      let not_two : slice_index s.words i ≢ 2 = λ z. absurd (omega arith) in
      let o = found lt in
      (o.0, o.1, o.2, o.3, rw (ne_eqb (slice_index s.words i) 0 not_zero, ne_eqb (slice_index s.words i) 2 not_two) o.4))
      (same_or_not t.taken (length t.committed))

pub looks_in : (c id i : ℕ) (v : View) → v.reads ≡ true → v.reading.drawn ≡ false → i ≡ length v.reading.taken % (c + 1)
    → Allows (IsSomePipe c) (c + 1) id (v, []) i (λ n. n) (looks_for_item (step (c + 1) i 0 0 none) (v, []))
looks_in c id i v reads idle is s kept size at small =
    told c id i v reads idle is s kept.0 kept.1 at (FoundItem (c + 1) (v, [])) (found_item c id i v reads idle is s kept.0 kept.1 at)

pub looks_on : (c id i : ℕ) (v : View) → v.reads ≡ true → v.reading.drawn ≡ false → i ≡ length v.reading.taken % (c + 1)
    → Allows (IsSomePipe c) (c + 1) id (v, []) i (λ n. n) (looks_at_front (step (c + 1) i 0 0 none) (v, []))
looks_on c id i v reads idle is s kept size at small =
    told c id i v reads idle is s kept.0 kept.1 at (FoundFront (v, [])) (found_front c id i v reads idle is s kept.0 kept.1 at)

-- the store that gives a slot back
module _ (c id i : ℕ) (v : View) (reads : v.reads ≡ true) (drawn : v.reading.drawn ≡ true) (is : i ≡ length v.reading.taken % (c + 1)) (knows : length v.reading.taken + 1 ≤ length v.reading.seen)
    (s : State Slot View) (t : Truth) (k : IsPipeTable c s t) (at : get_elem? s.views id ≡ some v) where
  reader : ReadsAt t id v
  reader = k.seated.readers id v at reads

  so_many : length v.reading.taken ≡ t.taken
  so_many = ap (λ (l : List Frames). length l) reader.taken ∙ (let e = length-take t.taken t.committed in let b = k.begins in omega (arith, e))

  oldest : i ≡ t.taken % (c + 1)
  oldest = is ∙ ap (λ (n : ℕ). n % (c + 1)) so_many

  one_left : t.taken < length t.committed
  one_left = k.waits (sym reader.drawn ∙ drawn)

  other_word : (n : ℕ) (b : ℕ) → n % (c + 1) ≢ i → slice_index s.words (n % (c + 1)) ≡ b → slice_index (set s.words i 0) (n % (c + 1)) ≡ b
  other_word n b ne e = get_or-set_other s.words i (n % (c + 1)) 0 0 ne ∙ e

  behind : (n : ℕ) → t.taken < n → n ≤ t.taken + c → n % (c + 1) ≢ i
  behind n from to = rw oldest (apart_back t.taken n c from (omega arith))

  pulled_words : AreMarked c (pull t) (set s.words i 0)
  pulled_words = record {
    count = length-set s.words i 0 ∙ k.marked.count;
    full = λ n from to. other_word n 1 (behind n (omega arith) (let m = k.ends in omega arith)) (k.marked.full n (omega arith) to);
    next = other_word (length t.committed) (mark t.sealed) (behind (length t.committed) one_left k.ends) k.marked.next;
    free = λ n from to. ⊎_elim
        (λ (e : n ≡ t.taken + (c + 1)). rw (e, round t.taken c, sym oldest) (get_or-set_same s.words i 0 0 (rw (oldest, k.marked.count) (place_lt t.taken c))))
        (λ (ne : n ≢ t.taken + (c + 1)). other_word n 0 (behind n (let w = one_left in omega arith) (omega arith)) (k.marked.free n from (omega arith)))
        (same_or_not n (t.taken + (c + 1)));
  }

  pulled_homes : AreStored c (pull t) (set s.homes i (some None))
  pulled_homes = record {
    count = length-set s.homes i (some None) ∙ k.stored.count;
    items = λ n m from e ready. set_else s.homes i (n % (c + 1)) (some None) (behind n (omega arith) (let b = k.ends in let l = at_lt t.committed m n e in omega arith)) ∙ k.stored.items n m (omega arith) e (λ same. absurd (omega arith));
    empty = λ n from to away. ⊎_elim
        (λ (e : n ≡ t.taken + (c + 1)). (None, rw (e, round t.taken c, sym oldest) (set_here s.homes i (some None) (rw (oldest, k.stored.count) (place_lt t.taken c)))))
        (λ (ne : n ≢ t.taken + (c + 1)). let e = k.stored.empty n from (omega arith) away in (e.0, set_else s.homes i (n % (c + 1)) (some None) (behind n (let w = one_left in omega arith) (omega arith)) ∙ e.1))
        (same_or_not n (t.taken + (c + 1)));
  }

  pulled : IsPipeTable c record { words = set s.words i 0; homes = set s.homes i (some None); views = set s.views id (with_reader v (took_oldest v.reading)) } (pull t)
  pulled = record {
    begins = let w = one_left in omega arith;
    ends = let m = k.ends in omega arith;
    bound = k.bound;
    whole = k.whole;
    waits = λ d. absurd (off d);
    marked = pulled_words;
    stored = pulled_homes;
    seated = reader_moves t (pull t) s.views id v (took_oldest v.reading) k.seated at reads
        record {
          seat = reader.seat;
          taken = sym (take_prefix (length v.reading.taken + 1) v.reading.seen t.committed reader.seen knows) ∙ ap (λ (n : ℕ). take (n + 1) t.committed) so_many;
          seen = reader.seen;
          ended = λ e. absurd (let n = (reader.ended e).1 in let l = one_left in omega (arith, n, l));
          drawn = refl;
        }
        (λ j u m. record { seat = m.seat; committed = m.committed; sealed = m.sealed; freed = (let f = m.freed in omega arith); lent = m.lent });
  }

pub pulls : (c id i : ℕ) (v : View) → v.reads ≡ true → v.reading.drawn ≡ true → i ≡ length v.reading.taken % (c + 1) → length v.reading.taken + 1 ≤ length v.reading.seen
    → Allows (IsSomePipe c) (c + 1) id (v, (i, None) ∷ []) i (λ _. 0) (λ _. vacates (step (c + 1) i 0 0 none) (v, (i, None) ∷ []) 0)
pulls c id i v reads drawn is knows s kept size at small =
    (with_reader v (took_oldest v.reading), gives, tt, (pull kept.0, pulled c id i v reads drawn is knows s kept.0 kept.1 at), refl)

-- a word that is neither 0 nor 2 told of a message
pub item_found : (n found : ℕ) (v w : SeatHas) → found ≢ 0 → found ≢ 2
    → MatchBool (found == 0) (FoundEmpty v w) (MatchBool (found == 2) (FoundEnd v w) (FoundItem n v w)) → FoundItem n v w
item_found n found v w not_zero not_two told =
    subst (λ (b : Bool). MatchBool b (FoundEnd v w) (FoundItem n v w)) (ne_eqb found 2 not_two)
    (subst (λ (b : Bool). MatchBool b (FoundEmpty v w) (MatchBool (found == 2) (FoundEnd v w) (FoundItem n v w))) (ne_eqb found 0 not_zero) told)

-- the slot that a look took is that of the next place
pub held_at : (w : View) (m : Frames) (so_far n c next : ℕ) (others : List (ℕ × Slot)) → n ≡ c + 1 → next ≡ so_far % (c + 1) → others ≡ []
    → ◌≡◌ {A = SeatHas} (w, (so_far % n, Some m) ∷ others) (w, (next, Some m) ∷ [])
held_at w m so_far n c next others slots place none_else =
    let here : so_far % n ≡ next = ap (λ (z : ℕ). so_far % z) slots ∙ sym place in
    λ k. (w, (here k, Some m) ∷ none_else k)
