-- The changes of pipes, one behind the other, where places stay.
use Rattle.std.proofs.Common.{◌≡◌, ◌∙◌, ℕ, Bool, true, false, List, [], ◌∷◌, ◌++◌, Some, not, refl, sym, ap, subst, arith, true≢false}
use Rattle.std.proofs.lemmas.List.{append_assoc}
use Rattle.zq_base.specs.declared.ids.EndId.{EndId}
use Rattle.spec_pattern.specs.Half.{with_delimiter, without_parts}
use Rattle.msg_pipe.specs.Known.{Known, IsThere, KeepsButOut, KeepsButPipe}
use Rattle.end_table.specs.declared.changes.PipeChange.{PipeChange}
use Rattle.end_table.specs.declared.changes.PipeChange.TheVariants.{Kept, Made, Sealed, SealedAgain, Parted, Settled}
use Rattle.end_table.specs.declared.table.Place.{Place}
use Rattle.end_table.specs.Places.{place_at}
use Rattle.end_table.specs.Others.{IsLess, KeepsPlaces}
use Rattle.end_table.specs.Changes.{sealing_of, sealings_in, sealing_at, NotesHalf, WasHeld, WereHeld, IsPlaced, SealedBy, PartedBy, SettlesPipe, DoesChange, DoesChanges, DoesMore}
use Rattle.end_table.proofs.PlaceLemmas.{place_within}
use Rattle.end_table.proofs.SoundLemmas.{one_some}
use Rattle.end_table.proofs.EndsLemmas.{some_place}

pub not_back : (was now : Bool) → (now ≡ true → was ≡ true) → was ≡ false → now ≡ false
not_back was true back gone = absurd (true≢false (sym (back refl) ∙ gone))
not_back was false back gone = refl

pub sealings_on : {O I S : Type 0} (xs ys : List (PipeChange O I × S)) → sealings_in (xs ++ ys) ≡ sealings_in xs ++ sealings_in ys
sealings_on [] ys = refl
sealings_on (x ∷ xs) ys = ap (λ (l : List (EndId × Bool)). sealing_of x.0 ++ l) (sealings_on xs ys) ∙ sym (append_assoc (sealing_of x.0) (sealings_in xs) (sealings_in ys))

-- ---- what was held

pub held_on : {O I N S : Type 0} (ps : List (Place N I)) (xs ys : List (PipeChange O I × S)) → WereHeld ps xs → WereHeld ps ys → WereHeld ps (xs ++ ys)
held_on ps [] ys none then = then
held_on ps (x ∷ xs) ys first then = (first.0, held_on ps xs ys first.1 then)

module _ {I N : Type 0} (ps qs : List (Place N I)) (keeps : KeepsPlaces ps qs) where
  -- what is there still was there
  was_there : (k : ℕ) (p : Place N I) → place_at ps k ≡ Some p → (q : Place N I) × (place_at qs k ≡ Some q) × IsLess p q
  was_there k p at =
      let q = some_place qs k (let w = place_within ps k p at in let n = keeps.count in omega (arith, w, n)) in
      (q.0, q.1, keeps.each k p q.0 at q.1)

  was_both : (k : ℕ) → ((q : Place N I) → place_at qs k ≡ Some q → (q.held ≡ true) × (q.writes ≡ true)) → (p : Place N I) → place_at ps k ≡ Some p → (p.held ≡ true) × (p.writes ≡ true)
  was_both k h p at = let q = was_there k p at in let b = h q.0 q.1 in (q.2.held b.0, q.2.writes b.1)

  held_before : {O : Type 0} (d : PipeChange O I) → WasHeld qs d → WasHeld ps d
  held_before Kept h = h
  held_before (Made e capacity halves) h = h
  held_before (Sealed k e half) h = was_both k h
  held_before (SealedAgain k e) h = was_both k h
  held_before (Parted k e half) h = was_both k h
  held_before (Settled k e) h = λ p at. let q = was_there k p at in q.2.held (h q.0 q.1)

  pub were_before : {O S : Type 0} (xs : List (PipeChange O I × S)) → WereHeld qs xs → WereHeld ps xs
  were_before [] h = h
  were_before (x ∷ xs) h = (held_before x.0 h.0, were_before xs h.1)

module _ {S O I N : Type 0} (K : Known S O I N) where
  -- ---- where places stay

  module _ (ps qs : List (Place N I)) (keeps : KeepsPlaces ps qs) where
    -- what stood at the place before
    before : (k : ℕ) (e : EndId) → IsPlaced ps k e → (q : Place N I) → place_at qs k ≡ Some q → (p : Place N I) × (place_at ps k ≡ Some p) × IsLess p q
    before k e placed q at = let p = some_place ps k placed.within in (p.0, p.1, keeps.each k p.0 q p.1 at)

    placed_later : (k : ℕ) (e : EndId) → IsPlaced ps k e → IsPlaced qs k e
    placed_later k e placed = record {
      within = let w = placed.within in let n = keeps.count in omega (arith, w, n);
      end_is = λ q at. let p = before k e placed q at in p.2.end_is ∙ placed.end_is p.0 p.1;
    }

    sealed_later : (k : ℕ) (e : EndId) (hs : List (O × Unit {0})) (old new : S) → SealedBy K ps k e hs old new → SealedBy K qs k e hs old new
    sealed_later k e [] old new h = absurd h
    sealed_later k e (a ∷ []) old new h = absurd h
    sealed_later k e (a ∷ b ∷ []) old new h = record {
      placed = placed_later k e h.placed;
      pipe_is = λ q at. let p = before k e h.placed q at in h.pipe_is p.0 p.1 ∙ sym p.2.written_is;
      there = h.there;
      unsealed = h.unsealed;
      delimiter = h.delimiter;
      keeps = h.keeps;
    }
    sealed_later k e (a ∷ b ∷ c ∷ cs) old new h = absurd h

    parted_later : (k : ℕ) (e : EndId) (hs : List (O × Unit {0})) (old new : S) → PartedBy K ps k e hs old new → PartedBy K qs k e hs old new
    parted_later k e [] old new h = absurd h
    parted_later k e (a ∷ []) old new h = absurd h
    parted_later k e (a ∷ b ∷ []) old new h = record {
      placed = placed_later k e h.placed;
      pipe_is = λ q at. let p = before k e h.placed q at in h.pipe_is p.0 p.1 ∙ sym p.2.written_is;
      forgets = h.forgets;
      keeps = h.keeps;
    }
    parted_later k e (a ∷ b ∷ c ∷ cs) old new h = absurd h

    settled_later : (k : ℕ) (e : EndId) (old new : S) → SettlesPipe K ps k e old new → SettlesPipe K qs k e old new
    settled_later k e old new h = record {
      placed = placed_later k e h.placed;
      gone = λ q at. let p = before k e h.placed q at in not_back p.0.held q.held p.2.held (h.gone p.0 p.1);
      keeps = λ q at. let p = before k e h.placed q at in subst (λ (n : N). KeepsButPipe K n old new) (sym p.2.read_is) (h.keeps p.0 p.1);
    }

    change_later : (d : PipeChange O I) (old new : S) → DoesChange K ps d old new → DoesChange K qs d old new
    change_later Kept old new h = h
    change_later (Made e capacity halves) old new h = h
    change_later (Sealed k e half) old new h = sealed_later k e half.items old new h
    change_later (SealedAgain k e) old new h = record { placed = placed_later k e h.placed; stays = h.stays }
    change_later (Parted k e half) old new h = parted_later k e half.items old new h
    change_later (Settled k e) old new h = settled_later k e old new h

    pub changes_later : (xs : List (PipeChange O I × S)) (old new : S) → DoesChanges K ps old xs new → DoesChanges K qs old xs new
    changes_later [] old new h = h
    changes_later (x ∷ xs) old new h = (change_later x.0 old x.1 h.0, changes_later xs x.1 new h.1)

  -- ---- one behind the other

  pub changes_on : (ps : List (Place N I)) (xs ys : List (PipeChange O I × S)) (old mid new : S) → DoesChanges K ps old xs mid → DoesChanges K ps mid ys new → DoesChanges K ps old (xs ++ ys) new
  changes_on ps [] ys old mid new none then = subst (λ (s : S). DoesChanges K ps s ys new) none then
  changes_on ps (x ∷ xs) ys old mid new first then = (first.0, changes_on ps xs ys x.1 mid new first.1 then)

  pub more_on : (were ps : List (Place N I)) (a b : List (EndId × Bool)) (xs ys zs : List (PipeChange O I × S)) (old mid new : S) → DoesMore K were ps a xs old ys mid → DoesMore K were ps b ys mid zs new → DoesMore K were ps (a ++ b) xs old zs new
  more_on were ps a b xs ys zs old mid new first then = record {
    more = first.more ++ then.more;
    noted = then.noted ∙ ap (λ (l : List (PipeChange O I × S)). l ++ then.more) first.noted ∙ append_assoc xs first.more then.more;
    does = changes_on ps first.more then.more old mid new first.does then.does;
    held = held_on were first.more then.more first.held then.held;
    sealings_are = sealings_on first.more then.more ∙ ap (λ (l : List (EndId × Bool)). l ++ sealings_in then.more) first.sealings_are ∙ ap (λ (l : List (EndId × Bool)). a ++ l) then.sealings_are;
  }

  -- one change
  pub more_one : (were ps : List (Place N I)) (d : PipeChange O I) (a : List (EndId × Bool)) (xs ys : List (PipeChange O I × S)) (old new : S) → ys ≡ xs ++ (d, new) ∷ [] → DoesChange K ps d old new → WasHeld were d → sealing_of d ++ [] ≡ a → DoesMore K were ps a xs old ys new
  more_one were ps d a xs ys old new noted does held is = record { more = (d, new) ∷ []; noted = noted; does = (does, refl); held = (held, tt); sealings_are = is }

  -- the changes since a stretch began
  pub since_on : (ps qs : List (Place N I)) (a : List (EndId × Bool)) (xs ys : List (PipeChange O I × S)) (first old new : S) → KeepsPlaces ps qs → DoesChanges K ps first xs old → DoesMore K ps qs a xs old ys new → DoesChanges K qs first ys new
  since_on ps qs a xs ys first old new keeps was more = subst (λ (l : List (PipeChange O I × S)). DoesChanges K qs first l new) (sym more.noted) (changes_on qs xs more.more first old new (changes_later ps qs keeps xs first old was) more.does)

  -- to ends that were held as it began
  pub held_since : (first ps qs : List (Place N I)) (a : List (EndId × Bool)) (xs ys : List (PipeChange O I × S)) (old new : S) → KeepsPlaces first ps → WereHeld first xs → DoesMore K ps qs a xs old ys new → WereHeld first ys
  held_since first ps qs a xs ys old new keeps was more = subst (λ (l : List (PipeChange O I × S)). WereHeld first l) (sym more.noted) (held_on first xs more.more was (were_before first ps keeps more.more more.held))

  pub sealings_since : (ps qs : List (Place N I)) (a : List (EndId × Bool)) (xs ys : List (PipeChange O I × S)) (old new : S) → DoesMore K ps qs a xs old ys new → sealings_in ys ≡ sealings_in xs ++ a
  sealings_since ps qs a xs ys old new more = ap sealings_in more.noted ∙ sealings_on xs more.more ∙ ap (λ (l : List (EndId × Bool)). sealings_in xs ++ l) more.sealings_are

  -- ---- what is noted of an end at its place

  module _ (ps qs : List (Place N I)) (keeps : KeepsPlaces ps qs) (k : ℕ) (p : Place N I) (at : place_at ps k ≡ Some p) (held : p.held ≡ true) (e : EndId) (end : p.end ≡ e) where
    held_here : (q : Place N I) → place_at ps k ≡ Some q → q.held ≡ true
    held_here q here = ap (λ (x : Place N I). x.held) (one_some q p (sym here ∙ at)) ∙ held

    both_here : p.writes ≡ true → (q : Place N I) → place_at ps k ≡ Some q → (q.held ≡ true) × (q.writes ≡ true)
    both_here writes q here = (held_here q here, ap (λ (x : Place N I). x.writes) (one_some q p (sym here ∙ at)) ∙ writes)

    less_here : (q : Place N I) → place_at qs k ≡ Some q → IsLess p q
    less_here q here = keeps.each k p q at here

    placed_here : IsPlaced qs k e
    placed_here = record {
      within = let w = place_within ps k p at in let n = keeps.count in omega (arith, w, n);
      end_is = λ q here. (less_here q here).end_is ∙ end;
    }

    sealing_is : (b : Bool) → not p.sealed ≡ b → (e, b) ∷ [] ≡ sealing_at (place_at ps k)
    sealing_is b is = ap (λ (x : EndId). (x, b) ∷ []) (sym end) ∙ ap (λ (c : Bool). (p.end, c) ∷ []) (sym is) ∙ ap sealing_at (sym at)

    module _ (xs ys : List (PipeChange O I × S)) (old new : S) where
      pub seals_again : p.writes ≡ true → p.sealed ≡ true → new ≡ old → ys ≡ xs ++ (SealedAgain k e, new) ∷ [] → DoesMore K ps qs (sealing_at (place_at ps k)) xs old ys new
      seals_again writes sealed stays noted = more_one ps qs (SealedAgain k e) (sealing_at (place_at ps k)) xs ys old new noted (record { placed = placed_here; stays = stays }) (both_here writes) (sealing_is false (ap not sealed))

      pub seals_first : (lent back : O) → p.writes ≡ true → p.sealed ≡ false → NotesHalf (λ half. Sealed k e half) lent back new xs ys → K.out_name lent ≡ p.written → IsThere K old (K.out_name lent) → (K.writing old lent).sealed ≡ false
          → K.writing new back ≡ with_delimiter (K.writing old lent) → KeepsButOut K lent back old new → DoesMore K ps qs (sealing_at (place_at ps k)) xs old ys new
      seals_first lent back writes not_yet h name there unsealed delimiter leaves =
          more_one ps qs (Sealed k e h.half) (sealing_at (place_at ps k)) xs ys old new h.noted
          (subst (λ (l : List (O × Unit {0})). SealedBy K qs k e l old new) (sym h.half_is)
          (record { placed = placed_here; pipe_is = λ q here. name ∙ sym (less_here q here).written_is; there = there; unsealed = unsealed; delimiter = delimiter; keeps = leaves }))
          (both_here writes) (sealing_is true (ap not not_yet))

      pub parts_once : (lent back : O) → p.writes ≡ true → NotesHalf (λ half. Parted k e half) lent back new xs ys → K.out_name lent ≡ p.written
          → K.writing new back ≡ without_parts (K.writing old lent) → KeepsButOut K lent back old new → DoesMore K ps qs [] xs old ys new
      parts_once lent back writes h name forgets leaves =
          more_one ps qs (Parted k e h.half) [] xs ys old new h.noted
          (subst (λ (l : List (O × Unit {0})). PartedBy K qs k e l old new) (sym h.half_is)
          (record { placed = placed_here; pipe_is = λ q here. name ∙ sym (less_here q here).written_is; forgets = forgets; keeps = leaves }))
          (both_here writes) refl

      pub settles_once : (n : N) → ys ≡ xs ++ (Settled k e, new) ∷ [] → n ≡ p.read → ((q : Place N I) → place_at qs k ≡ Some q → q.held ≡ false) → KeepsButPipe K n old new → DoesMore K ps qs [] xs old ys new
      settles_once n noted name gone leaves =
          more_one ps qs (Settled k e) [] xs ys old new noted
          (record { placed = placed_here; gone = gone; keeps = λ q here. subst (λ (m : N). KeepsButPipe K m old new) (name ∙ sym (less_here q here).read_is) leaves })
          held_here refl
