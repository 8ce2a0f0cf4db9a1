-- The stores of the writing seat keep the rule, and what its looks need.
use Rattle.std.proofs.Common.{◌≡◌, ◌≢◌, ℕ, ◌+◌, ◌%◌, ◌<◌, ◌≤◌, List, [], ◌∷◌, ◌++◌, length, set, Some, true, false, refl, sym, ap, ◌∙◌, subst, ⊎_elim, arith}
use Rattle.std.proofs.lemmas.List.{get_or-set_same, get_or-set_other, set-get_or, length-append, length-set, take-append-le, append_assoc}
use Rattle.std.specs.Prelude.{slice_index}
use mathlib.Core.Option.{some, none}
use mathlib.Core.List.{IsPrefix}
use lib.ListN.{get_elem?}
use Rattle.zq_base.specs.Message.{Frames}
use Rattle.spec_pattern.specs.PipeStep.{most_commits}
use Rattle.spec_pattern.specs.Pipe.{IsCommittable}
use Rattle.atomic_table.specs.Table.{State, Allows, step, rest, gives, keeps}
use Rattle.atomic_table.proofs.Lists.{at_set, set_here, set_else}
use Rattle.shared_pipe.specs.declared.view.WriterView.{WriterView}
use Rattle.shared_pipe.specs.declared.view.View.{View}
use Rattle.shared_pipe.specs.Rule.{Slot, Homes, Truth, WritesAt, ReadsAt, AreSeated, AreMarked, AreStored, AreWhole, IsPipeTable, IsSomePipe}
use Rattle.shared_pipe.specs.Steps.{SeatHas, FoundRoom, with_writer, lent_to, committed_by_seat, shut_by_seat, fills, shuts}
use Rattle.shared_pipe.proofs.PlacesLemmas.{off, same_or_not, apart, apart_back, place_lt, at_push, at_lt}

-- the writing seat's view changes
pub writer_moves : (t t' : Truth) (views : List View) (id : ℕ) (v : View) (w : WriterView) → AreSeated t views → get_elem? views id ≡ some v → v.writes ≡ true
    → WritesAt t' id (with_writer v w) → ((j : ℕ) (u : View) → ReadsAt t j u → ReadsAt t' j u)
    → AreSeated t' (set views id (with_writer v w))
writer_moves t t' views id v w s at writes mine others = record {
  writers = λ j u e is. ⊎_elim
      (λ (x : (j ≡ id) × (with_writer v w ≡ u)). subst (λ (y : ℕ × View). WritesAt t' y.0 y.1) (λ i. (sym x.0 i, x.1 i)) mine)
      (λ (x : (j ≢ id) × (get_elem? views j ≡ some u)). absurd (x.0 ((s.writers j u x.1 is).seat ∙ sym (s.writers id v at writes).seat)))
      (at_set views id j (with_writer v w) u e);
  readers = λ j u e is. ⊎_elim
      (λ (x : (j ≡ id) × (with_writer v w ≡ u)). subst (λ (y : ℕ × View). y.1.reads ≡ true → ReadsAt t' y.0 y.1) (λ i. (sym x.0 i, x.1 i)) (λ r. same_reading (others id v (s.readers id v at r))) is)
      (λ (x : (j ≢ id) × (get_elem? views j ≡ some u)). others j u (s.readers j u x.1 is))
      (at_set views id j (with_writer v w) u e);
}
  where
    same_reading : ReadsAt t' id v → ReadsAt t' id (with_writer v w)
    same_reading r = record { seat = r.seat; taken = r.taken; seen = r.seen; ended = r.ended; drawn = r.drawn }

-- the pipe after the stores of the writing seat
abbrev push : Truth → Frames → Truth
push t m = record t { committed = t.committed ++ m ∷ []; lent = false }

abbrev shut : Truth → Truth
shut t = record t { sealed = true }

longer : {A : Type 0} (xs ys : List A) (x : A) → IsPrefix xs ys → IsPrefix xs (ys ++ x ∷ [])
longer xs ys x p = (p.0 ++ x ∷ [], sym (append_assoc xs p.0 (x ∷ [])) ∙ ap (λ l. l ++ x ∷ []) p.1)

-- a load leaves the words
pub loaded : (c i : ℕ) (words : List ℕ) (homes : Homes) (views : List View) (t : Truth)
    → IsPipeTable c record { words = words; homes = homes; views = views } t
    → IsPipeTable c record { words = set words i (slice_index words i); homes = homes; views = views } t
loaded c i words homes views t h = subst (λ (ws : List ℕ). IsPipeTable c record { words = ws; homes = homes; views = views } t) (sym (set-get_or words i 0)) h

-- the store that makes a message visible
module _ (c id i : ℕ) (v : View) (x : Frames) (pos : 0 < c) (writes : v.writes ≡ true) (open_ : v.writing.sealed ≡ false) (fit : IsCommittable x)
    (is : i ≡ length v.writing.committed % (c + 1)) (fits : length v.writing.committed + 2 ≤ v.writing.freed + (c + 1)) (below : length v.writing.committed + 1 ≤ most_commits)
    (s : State Slot View) (t : Truth) (k : IsPipeTable c s t) (at : get_elem? s.views id ≡ some v) where
  mine : WritesAt t id v
  mine = k.seated.writers id v at writes

  still_open : t.sealed ≡ false
  still_open = sym mine.sealed ∙ open_

  here : i ≡ length t.committed % (c + 1)
  here = is ∙ ap (λ (l : List Frames). length l % (c + 1)) mine.committed

  more : length (t.committed ++ x ∷ []) ≡ length t.committed + 1
  more = omega (arith, length-append t.committed (x ∷ []))

  room_left : length t.committed + 2 ≤ t.taken + (c + 1)
  room_left = let f = mine.freed in let e : length v.writing.committed ≡ length t.committed = ap (λ (l : List Frames). length l) mine.committed in omega arith

  in_bound : length t.committed + 1 ≤ most_commits
  in_bound = subst (λ (l : List Frames). length l + 1 ≤ most_commits) mine.committed below

  in_words : i < length s.words
  in_words = rw (here, k.marked.count) (place_lt (length t.committed) c)

  in_homes : i < length s.homes
  in_homes = rw (here, k.stored.count) (place_lt (length t.committed) c)

  other_word : (n : ℕ) (b : ℕ) → n % (c + 1) ≢ i → slice_index s.words (n % (c + 1)) ≡ b → slice_index (set s.words i 1) (n % (c + 1)) ≡ b
  other_word n b ne e = get_or-set_other s.words i (n % (c + 1)) 1 0 ne ∙ e

  before : (n : ℕ) → t.taken ≤ n → n < length t.committed → n % (c + 1) ≢ i
  before n from to = rw here (apart n (length t.committed) c to (let m = k.ends in omega arith))

  behind : (n : ℕ) → length t.committed < n → n ≤ t.taken + c → n % (c + 1) ≢ i
  behind n from to = rw here (apart_back (length t.committed) n c from (let m = k.begins in omega arith))

  pushed_words : AreMarked c (push t x) (set s.words i 1)
  pushed_words = record {
    count = length-set s.words i 1 ∙ k.marked.count;
    full = λ n from to. ⊎_elim
        (λ (e : n ≡ length t.committed). rw (e, sym here) (get_or-set_same s.words i 1 0 in_words))
        (λ (ne : n ≢ length t.committed). let lt : n < length t.committed = omega (arith, more) in other_word n 1 (before n from lt) (k.marked.full n from lt))
        (same_or_not n (length t.committed));
    next = rw (more, still_open) (other_word (length t.committed + 1) 0 (behind (length t.committed + 1) (omega arith) (omega (arith, room_left))) (k.marked.free (length t.committed + 1) (omega arith) (omega (arith, room_left))));
    free = λ n from to. let lt : length t.committed < n = omega (arith, more) in other_word n 0 (behind n lt to) (k.marked.free n lt to);
  }

  pushed_homes : AreStored c (push t x) (set s.homes i (some (Some x)))
  pushed_homes = record {
    count = length-set s.homes i (some (Some x)) ∙ k.stored.count;
    items = λ n y from e ready. ⊎_elim
        (λ (old : get_elem? t.committed n ≡ some y). set_else s.homes i (n % (c + 1)) (some (Some x)) (before n from (at_lt t.committed y n old)) ∙ k.stored.items n y from old ready)
        (λ (new : (n ≡ length t.committed) × (x ≡ y)). rw (new.0, sym here) (set_here s.homes i (some (Some x)) in_homes ∙ ap (λ (z : Frames). some (some (Some z))) new.1))
        (at_push t.committed x y n e);
    empty = λ n from to away. let lt : length t.committed < n = omega (arith, more) in let e = k.stored.empty n (omega arith) to (λ same. absurd (omega arith)) in (e.0, set_else s.homes i (n % (c + 1)) (some (Some x)) (behind n lt to) ∙ e.1);
  }

  pushed_whole : AreWhole (t.committed ++ x ∷ [])
  pushed_whole n y e = ⊎_elim
      (λ (old : get_elem? t.committed n ≡ some y). k.whole n y old)
      (λ (new : (n ≡ length t.committed) × (x ≡ y)). subst (λ (m : Frames). IsCommittable m) new.1 fit)
      (at_push t.committed x y n e)

  pushed : IsPipeTable c record { words = set s.words i 1; homes = set s.homes i (some (Some x)); views = set s.views id (with_writer v (committed_by_seat v.writing (v.writing.committed ++ x ∷ []))) } (push t x)
  pushed = record {
    begins = let b = k.begins in omega (arith, more);
    ends = omega (arith, more, room_left);
    bound = omega (arith, more, in_bound);
    whole = pushed_whole;
    waits = λ d. let b = k.waits d in omega (arith, more);
    marked = pushed_words;
    stored = pushed_homes;
    seated = writer_moves t (push t x) s.views id v (committed_by_seat v.writing (v.writing.committed ++ x ∷ [])) k.seated at writes
        record { seat = mine.seat; committed = ap (λ (l : List Frames). l ++ x ∷ []) mine.committed; sealed = mine.sealed; freed = mine.freed; lent = refl }
        (λ j u r. record {
          seat = r.seat;
          taken = r.taken ∙ sym (take-append-le t.taken t.committed (x ∷ []) k.begins);
          seen = longer u.reading.seen t.committed x r.seen;
          ended = λ e. absurd (off (sym still_open ∙ (r.ended e).0));
          drawn = r.drawn;
        });
  }

pub stores : (c id i : ℕ) (v : View) (x : Frames) → 0 < c → v.writes ≡ true → v.writing.sealed ≡ false → IsCommittable x
    → i ≡ length v.writing.committed % (c + 1) → length v.writing.committed + 2 ≤ v.writing.freed + (c + 1) → length v.writing.committed + 1 ≤ most_commits
    → Allows (IsSomePipe c) (c + 1) id (v, (i, Some x) ∷ []) i (λ _. 1) (λ _. fills (step (c + 1) i 1 0 none) (v, (i, Some x) ∷ []) 1)
stores c id i v x pos writes open_ fit is fits below s kept size at small =
    (with_writer v (committed_by_seat v.writing (v.writing.committed ++ x ∷ [])), gives, tt, (push kept.0 x, pushed c id i v x pos writes open_ fit is fits below s kept.0 kept.1 at), refl)

-- the store behind a look that found room, with the message in the slot
pub fills_lent : (c n id i : ℕ) (x : Frames) (me after filled : SeatHas) → 0 < c → n ≡ c + 1 → (me.0.writes ≡ true) × (me.0.writing.lent ≡ false) × (me.1 ≡ [])
    → me.0.writing.sealed ≡ false → IsCommittable x → i ≡ length me.0.writing.committed % (c + 1) → length me.0.writing.committed + 1 ≤ most_commits
    → FoundRoom n me after → filled ≡ (after.0, (i, Some x) ∷ rest after.1)
    → Allows (IsSomePipe c) n id filled i (λ _. 1) (λ _. fills (step n i 1 0 none) filled 1)
fills_lent c n id i x me after filled pos size idle open_ fit place below room is =
    let w = with_writer me.0 (lent_to me.0.writing room.takes_seen) in
    let has : filled ≡ (w, (i, Some x) ∷ []) =
    is
    ∙ ap (λ (m : SeatHas). (m.0, (i, Some x) ∷ rest m.1)) room.after
    ∙ ap (λ (l : List (ℕ × Slot)). (w, (i, Some x) ∷ l)) idle.2 in
    subst (λ (y : ℕ × SeatHas). Allows (IsSomePipe c) y.0 id y.1 i (λ _. 1) (λ _. fills (step y.0 i 1 0 none) y.1 1))
    (λ k. (sym size k, sym has k))
    (stores c id i w x pos idle.0 open_ fit place (subst (λ (z : ℕ). length me.0.writing.committed + 2 ≤ room.takes_seen + z) size room.room) below)

-- the store of the delimiter
module _ (c id i : ℕ) (v : View) (writes : v.writes ≡ true) (is : i ≡ length v.writing.committed % (c + 1))
    (s : State Slot View) (t : Truth) (k : IsPipeTable c s t) (at : get_elem? s.views id ≡ some v) where
  writer : WritesAt t id v
  writer = k.seated.writers id v at writes

  behind_all : i ≡ length t.committed % (c + 1)
  behind_all = is ∙ ap (λ (l : List Frames). length l % (c + 1)) writer.committed

  shut_words : AreMarked c (shut t) (set s.words i 2)
  shut_words = record {
    count = length-set s.words i 2 ∙ k.marked.count;
    full = λ n from to. get_or-set_other s.words i (n % (c + 1)) 2 0 (rw behind_all (apart n (length t.committed) c to (let m = k.ends in omega arith))) ∙ k.marked.full n from to;
    next = rw (sym behind_all) (get_or-set_same s.words i 2 0 (rw (behind_all, k.marked.count) (place_lt (length t.committed) c)));
    free = λ n from to. get_or-set_other s.words i (n % (c + 1)) 2 0 (rw behind_all (apart_back (length t.committed) n c from (let m = k.begins in omega arith))) ∙ k.marked.free n from to;
  }

  shut_kept : IsPipeTable c record { words = set s.words i 2; homes = s.homes; views = set s.views id (with_writer v (shut_by_seat v.writing)) } (shut t)
  shut_kept = record {
    begins = k.begins;
    ends = k.ends;
    bound = k.bound;
    whole = k.whole;
    waits = k.waits;
    marked = shut_words;
    stored = record { count = k.stored.count; items = k.stored.items; empty = k.stored.empty };
    seated = writer_moves t (shut t) s.views id v (shut_by_seat v.writing) k.seated at writes
        record { seat = writer.seat; committed = writer.committed; sealed = refl; freed = writer.freed; lent = writer.lent }
        (λ j u r. record { seat = r.seat; taken = r.taken; seen = r.seen; ended = λ e. (refl, (r.ended e).1); drawn = r.drawn });
  }

pub closes : (c id i : ℕ) (v : View) → v.writes ≡ true → i ≡ length v.writing.committed % (c + 1)
    → Allows (IsSomePipe c) (c + 1) id (v, []) i (λ _. 2) (λ _. shuts (step (c + 1) i 2 0 none) (v, []) 2)
closes c id i v writes is s kept size at small =
    (with_writer v (shut_by_seat v.writing), keeps, tt, (shut kept.0, shut_kept c id i v writes is s kept.0 kept.1 at), refl)
