-- Which ends came to a socket's places in a stretch of calls, after one more call.
use Rattle.std.proofs.Common.{◌≡◌, ◌==◌, ◌∙◌, ◌≤◌, ◌⊎◌, inl, inr, ℕ, Bool, true, false, List, [], ◌∷◌, ◌++◌, Some, length, set, refl, sym, ap, subst, arith, nat_eq, eqb-true, true≢false, if◌then◌else◌}
use Rattle.std.proofs.lemmas.Bool.{eq-eqb}
use Rattle.std.proofs.lemmas.List.{append-nil, append_assoc}
use Rattle.std.proofs.Math.Logic.{∥∥₁_elim}
use Rattle.zq_base.specs.Ends.{other_end}
use Rattle.zq_base.specs.declared.ids.EndId.{EndId}
use Rattle.spec_control.specs.declared.entry.Joining.{Joining}
use Rattle.spec_control.specs.declared.end.EndState.{EndState}
use Rattle.msg_pipe.specs.Known.{Known, IsThere}
use Rattle.end_table.specs.declared.changes.PipeChange.{PipeChange}
use Rattle.end_table.specs.declared.changes.PipeChange.TheVariants.{Kept, Made, Sealed, SealedAgain, Parted, Settled}
use Rattle.end_table.specs.declared.table.Place.{Place}
use Rattle.end_table.specs.Places.{place_at}
use Rattle.end_table.specs.Others.{IsLess, KeepsPlaces}
use Rattle.end_table.specs.Changes.{WasHeld, WereHeld, AreMakings, AddsMakings, IsMadeAt, DoesChanges, DoesMore}
use Rattle.end_table.proofs.EndsLemmas.{some_place}
use Rattle.end_table.proofs.MadeLemmas.{made_new}
use Rattle.end_table.proofs.PlaceLemmas.{place_within}
use Rattle.sock_core.specs.Came.{IsOneOf, JoinedAt, IsChangedAt, AreChangedAt, IsOfNew, HasCome}
use Rattle.sock_core.specs.Noted.{AreMade}
use Rattle.sock_core.specs.Standing.{without_last}
use Rattle.sock_core.specs.Way.{Way, oldest_first, without_first, with_came, with_undone, with_turned}
use Rattle.sock_core.proofs.FlagLemmas.{at_set, at_more}
use Rattle.sock_core.proofs.StandingLemmas.{last_off}
use Rattle.sock_core.proofs.WayLemmas.{stood_last}

nothing_prop : IsProp ⊥
nothing_prop = Prim.hlevel

-- an end's change of state leaves those that joined
pub turned_joined : {N : Type 0} (same : Bool) (e : EndId) (state : EndState) (w : Way N) → (if same then w else with_turned e state w).joined ≡ w.joined
turned_joined true e state w = refl
turned_joined false e state w = refl

-- ---- changes at places

module _ {N I O : Type 0} (so : ℕ → Place N I → Type 0) (many : ℕ) where
  -- none was changed where pipes were made alone
  pub changed_none : {S : Type 0} (ps : List (Place N I)) (xs : List (PipeChange O I × S)) → AreMakings xs → AreChangedAt so many ps xs
  changed_none ps [] m = tt
  changed_none ps ((Kept, s) ∷ xs) m = (tt, changed_none ps xs m.1)
  changed_none ps ((Made e capacity halves, s) ∷ xs) m = (tt, changed_none ps xs m.1)
  changed_none ps ((Sealed k e half, s) ∷ xs) m = absurd m.0
  changed_none ps ((SealedAgain k e, s) ∷ xs) m = absurd m.0
  changed_none ps ((Parted k e half, s) ∷ xs) m = absurd m.0
  changed_none ps ((Settled k e, s) ∷ xs) m = absurd m.0

  pub changed_on : {S : Type 0} (ps : List (Place N I)) (xs ys : List (PipeChange O I × S)) → AreChangedAt so many ps xs → AreChangedAt so many ps ys → AreChangedAt so many ps (xs ++ ys)
  changed_on ps [] ys a b = b
  changed_on ps (x ∷ xs) ys a b = (a.0, changed_on ps xs ys a.1 b)

  -- where the same places are so
  module _ (ps qs : List (Place N I)) (so_too : (k : ℕ) (q : Place N I) → many ≤ k → place_at qs k ≡ Some q → ((p : Place N I) → place_at ps k ≡ Some p → so k p) → so k q) where
    one_later : (d : PipeChange O I) → IsChangedAt so many ps d → IsChangedAt so many qs d
    one_later Kept h = h
    one_later (Made e capacity halves) h = h
    one_later (Sealed k e half) h = λ le q at. so_too k q le at (h le)
    one_later (SealedAgain k e) h = λ le q at. so_too k q le at (h le)
    one_later (Parted k e half) h = λ le q at. so_too k q le at (h le)
    one_later (Settled k e) h = λ le q at. so_too k q le at (h le)

    pub changed_later : {S : Type 0} (xs : List (PipeChange O I × S)) → AreChangedAt so many ps xs → AreChangedAt so many qs xs
    changed_later [] h = h
    changed_later (x ∷ xs) h = (one_later x.0 h.0, changed_later xs h.1)

  -- where those that are held are so
  module _ (ps : List (Place N I)) (held : (k : ℕ) (p : Place N I) → many ≤ k → place_at ps k ≡ Some p → p.held ≡ true → so k p) where
    one_held : (d : PipeChange O I) → WasHeld ps d → IsChangedAt so many ps d
    one_held Kept h = h
    one_held (Made e capacity halves) h = h
    one_held (Sealed k e half) h = λ le p at. held k p le at (h p at).0
    one_held (SealedAgain k e) h = λ le p at. held k p le at (h p at).0
    one_held (Parted k e half) h = λ le p at. held k p le at (h p at).0
    one_held (Settled k e) h = λ le p at. held k p le at (h p at)

    pub changed_held : {S : Type 0} (xs : List (PipeChange O I × S)) → WereHeld ps xs → AreChangedAt so many ps xs
    changed_held [] h = tt
    changed_held (x ∷ xs) h = (one_held x.0 h.0, changed_held xs h.1)

-- ---- one call more

module _ {S O I N : Type 0} (K : Known S O I N) (undoes comes : Bool) (first : S) (many : ℕ) (before : List (Joining N)) where
  abbrev Came : (xs : List (Joining N × ℕ)) (now : List (Joining N)) (changes : List (PipeChange O I × S)) (ps : List (Place N I)) → Type 0
  Came xs now changes ps = HasCome K undoes comes first many before xs now changes ps

  joined_less : (xs : List (Joining N × ℕ)) (k : ℕ) (p q : Place N I) → IsLess p q → JoinedAt xs k p → JoinedAt xs k q
  joined_less xs k p q less j = record {
    joining = j.joining;
    among = j.among;
    end_is = less.end_is ∙ j.end_is;
    written_is = less.written_is ∙ j.written_is;
    read_is = less.read_is ∙ j.read_is;
  }

  new_less : (p q : Place N I) → IsLess p q → IsOfNew K first p → IsOfNew K first q
  new_less p q less n = record {
    written = λ ex there. n.written ex (subst (IsThere K first) less.written_is there);
    read = λ ex there. n.read ex (subst (IsThere K first) less.read_is there);
  }

  -- the same ends, and changes at such as are held
  module _ (xs : List (Joining N × ℕ)) (now : List (Joining N)) (changes ys : List (PipeChange O I × S)) (ps qs : List (Place N I)) (keeps : KeepsPlaces ps qs) (long : length qs ≡ length ps) where
    was : (k : ℕ) (q : Place N I) → place_at qs k ≡ Some q → (p : Place N I) × (place_at ps k ≡ Some p) × IsLess p q
    was k q at = let p = some_place ps k (let w = place_within qs k q at in omega (arith, w, long)) in (p.0, p.1, keeps.each k p.0 q p.1 at)

    pub came_on : (more : List (PipeChange O I × S)) → ys ≡ changes ++ more → WereHeld ps more → Came xs now changes ps → Came xs now ys qs
    came_on more noted held h = record {
      joins_are = h.joins_are;
      held = λ k q le at is. let p = was k q at in joined_less xs k p.0 q p.2 (h.held k p.0 le p.1 (p.2.held is));
      each = λ k q le at. let p = was k q at in by k p.0 q p.2 (h.each k p.0 le p.1);
      changed = subst (λ (l : List (PipeChange O I × S)). AreChangedAt (JoinedAt xs) many qs l) (sym noted)
          (changed_later (JoinedAt xs) many ps qs (λ k q le at so. let p = was k q at in joined_less xs k p.0 q p.2 (so p.0 p.1)) (changes ++ more)
          (changed_on (JoinedAt xs) many ps changes more h.changed (changed_held (JoinedAt xs) many ps h.held more held)));
    }
      where
        by : (k : ℕ) (p q : Place N I) → IsLess p q → JoinedAt xs k p ⊎ ((undoes ≡ true) × (comes ≡ false → IsOfNew K first p)) → JoinedAt xs k q ⊎ ((undoes ≡ true) × (comes ≡ false → IsOfNew K first q))
        by k p q less (inl j) = inl (joined_less xs k p q less j)
        by k p q less (inr n) = inr (n.0, λ made. new_less p q less (n.1 made))

    pub came_more : {a : List (EndId × Bool)} {old new : S} → DoesMore K ps qs a changes old ys new → Came xs now changes ps → Came xs now ys qs
    came_more m h = came_on m.more m.noted m.held h

  pub came_still : (xs : List (Joining N × ℕ)) (now : List (Joining N)) (changes : List (PipeChange O I × S)) (ps qs : List (Place N I)) → KeepsPlaces ps qs → length qs ≡ length ps → Came xs now changes ps → Came xs now changes qs
  came_still xs now changes ps qs keeps long h = came_on xs now changes changes ps qs keeps long [] (sym (append-nil changes)) tt h

  -- pipes were made
  pub came_made : (xs : List (Joining N × ℕ)) (now : List (Joining N)) (changes ys : List (PipeChange O I × S)) (ps : List (Place N I)) → AddsMakings changes ys → Came xs now changes ps → Came xs now ys ps
  came_made xs now changes ys ps adds h = record {
    joins_are = h.joins_are;
    held = h.held;
    each = h.each;
    changed = subst (λ (l : List (PipeChange O I × S)). AreChangedAt (JoinedAt xs) many ps l) (sym adds.noted)
        (changed_on (JoinedAt xs) many ps changes adds.more h.changed (changed_none (JoinedAt xs) many ps adds.more adds.makings));
  }

  -- nothing was done yet
  pub came_none : (xs : List (Joining N × ℕ)) (changes : List (PipeChange O I × S)) (ps : List (Place N I)) → many ≡ length ps → xs ≡ [] → changes ≡ [] → Came xs before changes ps
  came_none xs changes ps last none nothing = record {
    joins_are = sym (append-nil before) ∙ ap (λ (l : List (Joining N × ℕ)). before ++ oldest_first l) (sym none);
    held = λ k p le at is. let w = place_within ps k p at in absurd (omega (arith, le, w, last));
    each = λ k p le at. let w = place_within ps k p at in absurd (omega (arith, le, w, last));
    changed = subst (λ (l : List (PipeChange O I × S)). AreChangedAt (JoinedAt xs) many ps l) (sym nothing) tt;
  }

  -- an end joined
  pub came_joined : (w w' : Way N) (now now' : List (Joining N)) (changes : List (PipeChange O I × S)) (ps qs : List (Place N I)) (q : Place N I) (j : Joining N) (place : ℕ)
      → w' ≡ with_came j place w → now' ≡ now ++ j ∷ [] → qs ≡ ps ++ q ∷ [] → place ≡ length ps → q.end ≡ j.end → q.written ≡ j.written → q.read ≡ j.read → AreMakings changes
      → Came w.joined now changes ps → Came w'.joined now' changes qs
  came_joined w w' now now' changes ps qs q j place noted told behind last end written read quiet h =
      subst (λ (x : Way N). Came x.joined now' changes qs) (sym noted)
      (subst (λ (l : List (Place N I)). Came ((j, place) ∷ w.joined) now' changes l) (sym behind) (record {
        joins_are = told ∙ ap (λ (l : List (Joining N)). l ++ j ∷ []) h.joins_are ∙ append_assoc before (oldest_first w.joined) (j ∷ []);
        held = λ k p le at is. at_more ps q p k at (λ e same. here k p e same) (λ was. one_more k p (h.held k p le was is));
        each = λ k p le at. at_more ps q p k at (λ e same. inl (here k p e same)) (λ was. by k p (h.each k p le was));
        changed = changed_none (JoinedAt ((j, place) ∷ w.joined)) many (ps ++ q ∷ []) changes quiet;
      }))
    where
      one_more : (k : ℕ) (p : Place N I) → JoinedAt w.joined k p → JoinedAt ((j, place) ∷ w.joined) k p
      one_more k p a = record { joining = a.joining; among = inr a.among; end_is = a.end_is; written_is = a.written_is; read_is = a.read_is }

      here : (k : ℕ) (p : Place N I) → k ≡ length ps → p ≡ q → JoinedAt ((j, place) ∷ w.joined) k p
      here k p e same = record {
        joining = j;
        among = inl (ap (λ (n : ℕ). (j, n)) (last ∙ sym e));
        end_is = ap (λ (x : Place N I). x.end) same ∙ end;
        written_is = ap (λ (x : Place N I). x.written) same ∙ written;
        read_is = ap (λ (x : Place N I). x.read) same ∙ read;
      }

      by : (k : ℕ) (p : Place N I) → JoinedAt w.joined k p ⊎ ((undoes ≡ true) × (comes ≡ false → IsOfNew K first p)) → JoinedAt ((j, place) ∷ w.joined) k p ⊎ ((undoes ≡ true) × (comes ≡ false → IsOfNew K first p))
      by k p (inl a) = inl (one_more k p a)
      by k p (inr n) = inr n

  -- the pipes of an end that is held were made since, where no more was done than to make pipes
  made_since : (may_make : EndId → ℕ → ℕ → Type 0) (changes : List (PipeChange O I × S)) (pipes : S) (ps : List (Place N I)) (p q : Place N I) → IsLess p q → AreMakings changes → ∥ DoesChanges K ps first changes pipes ∥₁
      → ∥ IsMadeAt K may_make changes p ∥₁ → IsOfNew K first q
  made_since may_make changes pipes ps p q less quiet does made = new_less p q less (record {
    written = λ ex there. ∥∥₁_elim does nothing_prop (λ d. ∥∥₁_elim made nothing_prop (λ m. made_new K ps p.end changes first pipes (m.written, m.out) quiet d m.writes ex (subst (IsThere K first) (sym m.writes_it) there)));
    read = λ ex there. ∥∥₁_elim does nothing_prop (λ d. ∥∥₁_elim made nothing_prop (λ m. made_new K ps (other_end p.end) changes first pipes (m.read, m.other) quiet d m.reads ex (subst (IsThere K first) (sym m.reads_it) there)));
  })

  -- the one that joined last was taken back
  pub came_undone : (may_make : EndId → ℕ → ℕ → Type 0) (w w' : Way N) (now now' : List (Joining N)) (changes : List (PipeChange O I × S)) (pipes : S) (ps qs : List (Place N I)) (p q : Place N I) (place : ℕ)
      → w' ≡ with_undone w → now' ≡ without_last now → qs ≡ set ps place q → place_at ps place ≡ Some p → p.held ≡ true → IsLess p q → q.held ≡ false → stood_last place w.joined ≡ true → undoes ≡ true → AreMakings changes
      → ∥ DoesChanges K ps first changes pipes ∥₁ → (comes ≡ false → AreMade K may_make changes many ps) → Came w.joined now changes ps → Came w'.joined now' changes qs
  came_undone may_make w w' now now' changes pipes ps qs p q place noted told is at was_held less gone last undone quiet does made h =
      subst (λ (x : Way N). Came x.joined now' changes qs) (sym noted)
      (subst (λ (l : List (Place N I)). Came (without_first w.joined) now' changes l) (sym is) (by w.joined last h))
    where
      not_here : (x : Joining N × ℕ) (xs : List (Joining N × ℕ)) (k : ℕ) (r : Place N I) → (x.1 == place) ≡ true → nat_eq place k ≡ false → JoinedAt (x ∷ xs) k r → JoinedAt xs k r
      not_here x xs k r here off a = record { joining = a.joining; among = one a.among; end_is = a.end_is; written_is = a.written_is; read_is = a.read_is }
        where
          one : (x ≡ (a.joining, k)) ⊎ IsOneOf xs (a.joining, k) → IsOneOf xs (a.joining, k)
          one (inl e) = absurd (true≢false (sym (eq-eqb place k (sym (eqb-true x.1 place here) ∙ ap (λ (y : Joining N × ℕ). y.1) e)) ∙ off))
          one (inr rest) = rest

      each_of : (x : Joining N × ℕ) (xs : List (Joining N × ℕ)) (k : ℕ) (r : Place N I) → (x.1 == place) ≡ true → nat_eq place k ≡ false → JoinedAt (x ∷ xs) k r ⊎ ((undoes ≡ true) × (comes ≡ false → IsOfNew K first r)) → JoinedAt xs k r ⊎ ((undoes ≡ true) × (comes ≡ false → IsOfNew K first r))
      each_of x xs k r here off (inl a) = inl (not_here x xs k r here off a)
      each_of x xs k r here off (inr n) = inr n

      by : (xs : List (Joining N × ℕ)) → stood_last place xs ≡ true → Came xs now changes ps → Came (without_first xs) now' changes (set ps place q)
      by [] here c = absurd (true≢false (sym here))
      by (x ∷ xs) here c = record {
        joins_are = told ∙ ap (λ (l : List (Joining N)). without_last l) (c.joins_are ∙ sym (append_assoc before (oldest_first xs) (x.0 ∷ []))) ∙ last_off (before ++ oldest_first xs) x.0;
        held = λ k r le there on. at_set ps place k p q r at there
            (λ e same. absurd (true≢false (sym on ∙ ap (λ (y : Place N I). y.held) same ∙ gone)))
            (λ off was. not_here x xs k r here off (c.held k r le was on));
        each = λ k r le there. at_set ps place k p q r at there
            (λ e same. inr (undone, λ is_made. subst (IsOfNew K first) (sym same) (made_since may_make changes pipes ps p q less quiet does (made is_made place p (omega (arith, le, e)) at was_held))))
            (λ off was. each_of x xs k r here off (c.each k r le was));
        changed = changed_none (JoinedAt xs) many (set ps place q) changes quiet;
      }
