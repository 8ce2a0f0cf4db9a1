-- What was done to the pipes of closed sockets since a stretch began: places, lists and ends that are told.
use Rattle.std.proofs.Common.{◌≡◌, ◌∙◌, ◌<◌, ◌+◌, ◌||◌, ◌&&◌, ℕ, zero, suc, Bool, true, false, not, List, [], ◌∷◌, ◌++◌, All, Some, length, map, set, refl, sym, ap, subst, arith, length-append, if◌then◌else◌}
use Rattle.std.specs.List.{AllByRecursion, list_any}
use Rattle.std.proofs.lemmas.List.{append-nil, map-append}
use Rattle.std.proofs.lemmas.List.Elements.{All-nil, All-cons}
use Rattle.zq_base.specs.declared.ids.EndId.{EndId}
use Rattle.spec_control.specs.Held.{Held}
use Rattle.spec_control.specs.Control.{is_end}
use Rattle.msg_pipe.specs.Known.{Known}
use Rattle.desk.specs.declared.given.Given.{Given}
use Rattle.end_table.specs.declared.changes.PipeChange.{PipeChange}
use Rattle.end_table.specs.declared.changes.PipeChange.TheVariants.{Kept, Made, Sealed, SealedAgain, Parted, Settled}
use Rattle.end_table.specs.declared.table.Place.{Place}
use Rattle.end_table.specs.Places.{held_of, place_at}
use Rattle.end_table.specs.Others.{IsLess, KeepsPlaces}
use Rattle.end_table.specs.Changes.{sealing_of, sealings_in, IsPlaced, SealedBy, PartedBy, SettlesPipe, DoesChange, DoesChanges}
use Rattle.end_table.proofs.ChangeLemmas.{changes_on, sealings_on}
use Rattle.end_table.proofs.EndsLemmas.{some_place}
use Rattle.end_table.proofs.OthersLemmas.{places_stay}
use Rattle.end_table.proofs.PlaceLemmas.{place_within}
use Rattle.end_table.proofs.SoundLemmas.{one_some}
use Rattle.sock_core.specs.Noted.{were_told, WereRead}
use Rattle.sock_core.proofs.FindLemmas.{end_self}
use Rattle.closed_ends.specs.Finding.{place_given, came_given}
use Rattle.end_table.specs.Halving.{StandsAt, WritesAt}
use Rattle.closed_ends.specs.Noted.{at_place, unplaced, standing_in, sealed_ends, StoodFirst, ChangesOnce, standing_of}
use Rattle.closed_ends.proofs.ListLemmas.{never, any_back, any_front, same_ends}
use Rattle.closed_ends.specs.Mixed.{AreMixed}
use Rattle.closed_ends.proofs.MixedLemmas.{mixed_between, mixed_found}

-- ---- a place by what stands there

abbrev first_or : {X : Type 0} → X → List X → X
first_or d [] = d
first_or d (x ∷ xs) = x

abbrev rest_of : {X : Type 0} → List X → List X
rest_of [] = []
rest_of (x ∷ xs) = xs

module _ {N I : Type 0} where
  -- one of the ends that stand has this place; without it, or with another in its place, the others stand
  pub record FoundAt (ps : List (Place N I)) (before : List (Held N × Bool)) (h : Held N × Bool) (behind : List (Held N × Bool)) : Type 0 where
    pub at : ℕ
    pub place : Place N I
    pub there : place_at ps at ≡ Some place
    pub held : place.held ≡ true
    pub end_is : place.end ≡ h.0.end
    pub written_is : place.written ≡ h.0.written
    pub read_is : place.read ≡ h.0.read
    pub writes_is : place.writes ≡ h.1
    pub gone : (q : Place N I) → q.held ≡ false → standing_in (set ps at q) ≡ before ++ behind
    pub now : (q : Place N I) → q.held ≡ true → standing_in (set ps at q) ≡ before ++ (held_of q, q.writes) ∷ behind

  pub found : (ps : List (Place N I)) (before : List (Held N × Bool)) (h : Held N × Bool) (behind : List (Held N × Bool)) → standing_in ps ≡ before ++ h ∷ behind → FoundAt ps before h behind
  found [] before h behind e = none before e
    where
      none : (xs : List (Held N × Bool)) → [] ≡ xs ++ h ∷ behind → FoundAt [] before h behind
      none [] f = cc
      none (x ∷ xs) f = cc
  found (p ∷ ps) before h behind e = by (found ps) p.held refl before e
    where
      by : ((b : List (Held N × Bool)) (x : Held N × Bool) (c : List (Held N × Bool)) → standing_in ps ≡ b ++ x ∷ c → FoundAt ps b x c) → (v : Bool) → p.held ≡ v → (b : List (Held N × Bool))
          → (if v then (held_of p, p.writes) ∷ standing_in ps else standing_in ps) ≡ b ++ h ∷ behind → FoundAt (p ∷ ps) b h behind
      by rest true here [] f =
          let same = ap (first_or h) f in
          let tail = ap rest_of f in
          record {
            at = 0;
            place = p;
            there = refl;
            held = here;
            end_is = ap (λ (x : Held N × Bool). x.0.end) same;
            written_is = ap (λ (x : Held N × Bool). x.0.written) same;
            read_is = ap (λ (x : Held N × Bool). x.0.read) same;
            writes_is = ap (λ (x : Held N × Bool). x.1) same;
            gone = λ q off. ap (λ (c : Bool). if c then (held_of q, q.writes) ∷ standing_in ps else standing_in ps) off ∙ tail;
            now = λ q on. ap (λ (c : Bool). if c then (held_of q, q.writes) ∷ standing_in ps else standing_in ps) on ∙ ap (λ (l : List (Held N × Bool)). (held_of q, q.writes) ∷ l) tail;
          }
      by rest true here (x ∷ b) f =
          let same = ap (first_or h) f in
          let r = rest b h behind (ap rest_of f) in
          let in_front = λ (l : List (Held N × Bool)). ap (λ (c : Bool). if c then (held_of p, p.writes) ∷ l else l) here ∙ ap (λ (y : Held N × Bool). y ∷ l) same in
          record {
            at = suc r.at;
            place = r.place;
            there = r.there;
            held = r.held;
            end_is = r.end_is;
            written_is = r.written_is;
            read_is = r.read_is;
            writes_is = r.writes_is;
            gone = λ q off. in_front (standing_in (set ps r.at q)) ∙ ap (λ (l : List (Held N × Bool)). x ∷ l) (r.gone q off);
            now = λ q on. in_front (standing_in (set ps r.at q)) ∙ ap (λ (l : List (Held N × Bool)). x ∷ l) (r.now q on);
          }
      by rest false here b f =
          let r = rest b h behind f in
          let in_front = λ (l : List (Held N × Bool)). ap (λ (c : Bool). if c then (held_of p, p.writes) ∷ l else l) here in
          record {
            at = suc r.at;
            place = r.place;
            there = r.there;
            held = r.held;
            end_is = r.end_is;
            written_is = r.written_is;
            read_is = r.read_is;
            writes_is = r.writes_is;
            gone = λ q off. in_front (standing_in (set ps r.at q)) ∙ r.gone q off;
            now = λ q on. in_front (standing_in (set ps r.at q)) ∙ r.now q on;
          }

  -- the same of ends that stand in another order
  pub record FoundMixed (ps : List (Place N I)) (before : List (Held N × Bool)) (h : Held N × Bool) (behind : List (Held N × Bool)) : Type 0 where
    pub at : ℕ
    pub place : Place N I
    pub there : place_at ps at ≡ Some place
    pub held : place.held ≡ true
    pub end_is : place.end ≡ h.0.end
    pub written_is : place.written ≡ h.0.written
    pub read_is : place.read ≡ h.0.read
    pub writes_is : place.writes ≡ h.1
    pub gone : (q : Place N I) → q.held ≡ false → AreMixed (standing_in (set ps at q)) (before ++ behind)
    pub now : (q : Place N I) → q.held ≡ true → AreMixed (standing_in (set ps at q)) (before ++ (held_of q, q.writes) ∷ behind)

  pub found_mixed : (ps : List (Place N I)) (before : List (Held N × Bool)) (h : Held N × Bool) (behind : List (Held N × Bool)) → AreMixed (standing_in ps) (before ++ h ∷ behind) → FoundMixed ps before h behind
  found_mixed ps before h behind m =
      let f = mixed_found (standing_in ps) (before ++ h ∷ behind) before h behind m refl in
      let a = found ps f.before h f.behind f.are in
      record {
        at = a.at;
        place = a.place;
        there = a.there;
        held = a.held;
        end_is = a.end_is;
        written_is = a.written_is;
        read_is = a.read_is;
        writes_is = a.writes_is;
        gone = λ q off. subst (λ (l : List (Held N × Bool)). AreMixed l (before ++ behind)) (sym (a.gone q off)) f.left;
        now = λ q on. subst (λ (l : List (Held N × Bool)). AreMixed l (before ++ (held_of q, q.writes) ∷ behind)) (sym (a.now q on)) (mixed_between f.before f.behind before behind (held_of q, q.writes) f.left);
      }

  pub standing_more : (ps qs : List (Place N I)) → standing_in (ps ++ qs) ≡ standing_in ps ++ standing_in qs
  standing_more [] qs = refl
  standing_more (p ∷ ps) qs = by p.held (standing_more ps qs)
    where
      by : (b : Bool) → standing_in (ps ++ qs) ≡ standing_in ps ++ standing_in qs
          → (if b then (held_of p, p.writes) ∷ standing_in (ps ++ qs) else standing_in (ps ++ qs)) ≡ (if b then (held_of p, p.writes) ∷ standing_in ps else standing_in ps) ++ standing_in qs
      by true rest = ap (λ (l : List (Held N × Bool)). (held_of p, p.writes) ∷ l) rest
      by false rest = rest

  pub sealed_more : (ps qs : List (Place N I)) → sealed_ends (ps ++ qs) ≡ sealed_ends ps ++ sealed_ends qs
  sealed_more [] qs = refl
  sealed_more (p ∷ ps) qs = by p.sealed (sealed_more ps qs)
    where
      by : (b : Bool) → sealed_ends (ps ++ qs) ≡ sealed_ends ps ++ sealed_ends qs → (if b then p.end ∷ sealed_ends (ps ++ qs) else sealed_ends (ps ++ qs)) ≡ (if b then p.end ∷ sealed_ends ps else sealed_ends ps) ++ sealed_ends qs
      by true rest = ap (λ (l : List EndId). p.end ∷ l) rest
      by false rest = rest

  pub place_front : (ps qs : List (Place N I)) (k : ℕ) (p : Place N I) → place_at ps k ≡ Some p → place_at (ps ++ qs) k ≡ Some p
  place_front [] qs k p at = cc
  place_front (x ∷ xs) qs zero p at = at
  place_front (x ∷ xs) qs (suc k) p at = place_front xs qs k p at

pub rec_both : {X : Type 0} (P : X → Type 0) (xs ys : List X) → AllByRecursion P xs → AllByRecursion P ys → AllByRecursion P (xs ++ ys)
rec_both P [] ys a b = b
rec_both P (x ∷ xs) ys a b = (a.0, rec_both P xs ys a.1 b)

pub rec_more : {X : Type 0} (P : X → Type 0) (xs : List X) (x : X) → AllByRecursion P xs → P x → AllByRecursion P (xs ++ x ∷ [])
rec_more P xs x a b = rec_both P xs (x ∷ []) a (b, tt)

pub rec_more_weak : {X : Type 0} (P Q : X → Type 0) → ((x : X) → P x → Q x) → (xs : List X) → AllByRecursion P xs → AllByRecursion Q xs
rec_more_weak P Q so [] a = tt
rec_more_weak P Q so (x ∷ xs) a = (so x a.0, rec_more_weak P Q so xs a.1)

-- ---- changes of one end, at its place among others

module _ {N I : Type 0} where
  only_place : (p : Place N I) (j : ℕ) (e : EndId) → IsPlaced (p ∷ []) j e → (j ≡ 0) × (p.end ≡ e)
  only_place p zero e h = (refl, h.end_is p refl)
  only_place p (suc j) e h = absurd (let w = h.within in omega (arith, w))

  only_writes : (p : Place N I) (j : ℕ) → WritesAt (p ∷ []) j → p.writes ≡ true
  only_writes p zero h = ap (λ (x : Place N I). x.writes) (one_some p h.place h.there) ∙ h.writes
  only_writes p (suc j) h = absurd (none h.place h.there)
    where
      none : (x : Place N I) → place_at {N = N} {I = I} [] j ≡ Some x → ⊥
      none x e = cc

module _ {S O I N : Type 0} (K : Known S O I N) where
  -- ---- the same at the end's place among others

  module _ (p q : Place N I) (held : p.held ≡ true) (end : q.end ≡ p.end) (written : q.written ≡ p.written) (qs : List (Place N I)) (k : ℕ) (at : place_at qs k ≡ Some q) where
    there_is : (x : Place N I) → place_at qs k ≡ Some x → q ≡ x
    there_is x now = one_some q x (sym at ∙ now)

    placed_at : (j : ℕ) (e : EndId) → IsPlaced (p ∷ []) j e → IsPlaced qs k e
    placed_at j e h = record {
      within = place_within qs k q at;
      end_is = λ x now. ap (λ (y : Place N I). y.end) (sym (there_is x now)) ∙ end ∙ (only_place p j e h).1;
    }

    pipe_at : (n : N) → n ≡ p.written → (x : Place N I) → place_at qs k ≡ Some x → n ≡ x.written
    pipe_at n same x now = same ∙ sym written ∙ ap (λ (y : Place N I). y.written) (there_is x now)

    sealed_at : (j : ℕ) (e : EndId) (hs : List (O × Unit {0})) (old new : S) → SealedBy K (p ∷ []) j e hs old new → SealedBy K qs k e hs old new
    sealed_at j e [] old new h = absurd h
    sealed_at j e (a ∷ []) old new h = absurd h
    sealed_at zero e (a ∷ b ∷ []) old new h = record { placed = placed_at 0 e h.placed; pipe_is = pipe_at (K.out_name a.0) (h.pipe_is p refl); there = h.there; unsealed = h.unsealed; delimiter = h.delimiter; keeps = h.keeps }
    sealed_at (suc j) e (a ∷ b ∷ []) old new h = absurd (let w = h.placed.within in omega (arith, w))
    sealed_at j e (a ∷ b ∷ c ∷ cs) old new h = absurd h

    parted_at : (j : ℕ) (e : EndId) (hs : List (O × Unit {0})) (old new : S) → PartedBy K (p ∷ []) j e hs old new → PartedBy K qs k e hs old new
    parted_at j e [] old new h = absurd h
    parted_at j e (a ∷ []) old new h = absurd h
    parted_at zero e (a ∷ b ∷ []) old new h = record { placed = placed_at 0 e h.placed; pipe_is = pipe_at (K.out_name a.0) (h.pipe_is p refl); forgets = h.forgets; keeps = h.keeps }
    parted_at (suc j) e (a ∷ b ∷ []) old new h = absurd (let w = h.placed.within in omega (arith, w))
    parted_at j e (a ∷ b ∷ c ∷ cs) old new h = absurd h

    settled_at : {X : Type 0} (j : ℕ) (e : EndId) (old new : S) → SettlesPipe K (p ∷ []) j e old new → X
    settled_at zero e old new h = never (sym held ∙ h.gone p refl)
    settled_at (suc j) e old new h = absurd (let w = h.placed.within in omega (arith, w))

    change_at : (d : PipeChange O I) (old new : S) → DoesChange K (p ∷ []) d old new → DoesChange K qs (at_place k d) old new
    change_at Kept old new h = h
    change_at (Made e capacity halves) old new h = h
    change_at (Sealed j e half) old new h = sealed_at j e half.items old new h
    change_at (SealedAgain j e) old new h = record { placed = placed_at j e h.placed; stays = h.stays }
    change_at (Parted j e half) old new h = parted_at j e half.items old new h
    change_at (Settled j e) old new h = settled_at j e old new h

    wrote_at : (fs : List (Place N I)) → ((x : Place N I) → place_at fs k ≡ Some x → (x.held ≡ true) × (p.writes ≡ true → x.writes ≡ true)) → k < length fs → (d : PipeChange O I) → StoodFirst (p ∷ []) d → StoodFirst fs (at_place k d)
    wrote_at fs first lt Kept h = tt
    wrote_at fs first lt (Made e capacity halves) h = h
    wrote_at fs first lt (Sealed j e half) h = let x = some_place fs k lt in record { place = x.0; there = x.1; held = (first x.0 x.1).0; writes = (first x.0 x.1).1 (only_writes p j h) }
    wrote_at fs first lt (SealedAgain j e) h = let x = some_place fs k lt in record { place = x.0; there = x.1; held = (first x.0 x.1).0; writes = (first x.0 x.1).1 (only_writes p j h) }
    wrote_at fs first lt (Parted j e half) h = let x = some_place fs k lt in record { place = x.0; there = x.1; held = (first x.0 x.1).0; writes = (first x.0 x.1).1 (only_writes p j h) }
    wrote_at fs first lt (Settled j e) h = let x = some_place fs k lt in record { place = x.0; there = x.1; held = (first x.0 x.1).0 }

    -- the end has no place as it is noted
    at_none : (d : PipeChange O I) (old new : S) → DoesChange K (p ∷ []) d old new → at_place 0 (at_place k d) ≡ d
    at_none Kept old new h = refl
    at_none (Made e capacity halves) old new h = refl
    at_none (Sealed j e half) old new h = by half.items h
      where
        by : (hs : List (O × Unit {0})) → SealedBy K (p ∷ []) j e hs old new → ◌≡◌ {A = PipeChange O I} (Sealed 0 e half) (Sealed j e half)
        by [] s = absurd s
        by (a ∷ []) s = absurd s
        by (a ∷ b ∷ []) s = ap (λ (n : ℕ). Sealed n e half) (sym (only_place p j e s.placed).0)
        by (a ∷ b ∷ c ∷ cs) s = absurd s
    at_none (SealedAgain j e) old new h = ap (λ (n : ℕ). SealedAgain n e) (sym (only_place p j e h.placed).0)
    at_none (Parted j e half) old new h = by half.items h
      where
        by : (hs : List (O × Unit {0})) → PartedBy K (p ∷ []) j e hs old new → ◌≡◌ {A = PipeChange O I} (Parted 0 e half) (Parted j e half)
        by [] s = absurd s
        by (a ∷ []) s = absurd s
        by (a ∷ b ∷ []) s = ap (λ (n : ℕ). Parted n e half) (sym (only_place p j e s.placed).0)
        by (a ∷ b ∷ c ∷ cs) s = absurd s
    at_none (Settled j e) old new h = settled_at j e old new h

    sealing_same : (d : PipeChange O I) → sealing_of (at_place k d) ≡ sealing_of d
    sealing_same Kept = refl
    sealing_same (Made e capacity halves) = refl
    sealing_same (Sealed j e half) = refl
    sealing_same (SealedAgain j e) = refl
    sealing_same (Parted j e half) = refl
    sealing_same (Settled j e) = refl

    -- the changes with one more
    pub record OneMore (fs : List (Place N I)) (first : S) (placed : List (PipeChange O I × S)) (xs ys : List (PipeChange O I × S)) (old new : S) (a : List (EndId × Bool)) : Type 0 where
      pub next : List (PipeChange O I × S)
      pub noted : unplaced next ≡ ys
      pub does : DoesChanges K qs first next new
      pub wrote : AllByRecursion (λ x. StoodFirst fs x.0) next
      pub sealings_are : sealings_in next ≡ sealings_in placed ++ a

    pub one_more : (fs : List (Place N I)) (first : S) (placed xs ys : List (PipeChange O I × S)) (old new : S) (a : List (EndId × Bool))
        → unplaced placed ≡ xs → DoesChanges K qs first placed old → AllByRecursion (λ x. StoodFirst fs x.0) placed
        → ((x : Place N I) → place_at fs k ≡ Some x → (x.held ≡ true) × (p.writes ≡ true → x.writes ≡ true)) → k < length fs → ChangesOnce K p a xs old ys new → OneMore fs first placed xs ys old new a
    one_more fs first placed xs ys old new a noted does wrote was lt once = record {
      next = placed ++ (at_place k once.change, new) ∷ [];
      noted =
          map-append (λ (x : PipeChange O I × S). (at_place 0 x.0, x.1)) placed ((at_place k once.change, new) ∷ [])
          ∙ ap (λ (l : List (PipeChange O I × S)). l ++ (at_place 0 (at_place k once.change), new) ∷ []) noted
          ∙ ap (λ (d : PipeChange O I). xs ++ (d, new) ∷ []) (at_none once.change old new once.does) ∙ sym once.noted;
      does = changes_on K qs placed ((at_place k once.change, new) ∷ []) first old new does (change_at once.change old new once.does, refl);
      wrote = rec_more (λ (x : PipeChange O I × S). StoodFirst fs x.0) placed (at_place k once.change, new) wrote (wrote_at fs was lt once.change once.wrote);
      sealings_are =
          sealings_on placed ((at_place k once.change, new) ∷ [])
          ∙ ap (λ (l : List (EndId × Bool)). sealings_in placed ++ l) (append-nil (sealing_of (at_place k once.change)) ∙ sealing_same once.change ∙ once.sealings_are);
    }

-- ---- ends that are told

module _ {N O I : Type 0} where
  -- those of them that are sealed are among these
  abbrev pub AreTold : List EndId → List (Given N O I) → Type 0
  AreTold es gs = All (λ g. g.sealed ≡ true → list_any (is_end g.end) es ≡ true) gs

  pub told_more_ends : (es fs : List EndId) (gs : List (Given N O I)) → ((e : EndId) → list_any (is_end e) es ≡ true → list_any (is_end e) fs ≡ true) → AreTold es gs → AreTold fs gs
  told_more_ends es fs gs more told = λ k d lt sealed. more _ (told k d lt sealed)

  -- an end that comes is sealed as it came
  pub told_new : (in_name : I → N) (gs : List (Given N O I)) → AreTold (sealed_ends (map (place_given in_name) gs)) gs
  told_new in_name [] = All-nil (λ (g : Given N O I). g.sealed ≡ true → list_any (is_end g.end) [] ≡ true)
  told_new in_name (g ∷ gs) =
      All-cons (λ x. x.sealed ≡ true → list_any (is_end x.end) (sealed_ends (map (place_given in_name) (g ∷ gs))) ≡ true) g gs (own g.sealed refl)
      (told_more_ends (sealed_ends (map (place_given in_name) gs)) (sealed_ends (map (place_given in_name) (g ∷ gs))) gs (λ e. later e g.sealed) (told_new in_name gs))
    where
      own : (b : Bool) → g.sealed ≡ b → g.sealed ≡ true → list_any (is_end g.end) (if g.sealed then g.end ∷ sealed_ends (map (place_given in_name) gs) else sealed_ends (map (place_given in_name) gs)) ≡ true
      own b is sealed =
          ap (λ (c : Bool). list_any (is_end g.end) (if c then g.end ∷ sealed_ends (map (place_given in_name) gs) else sealed_ends (map (place_given in_name) gs))) sealed
          ∙ ap (λ (c : Bool). c || list_any (is_end g.end) (sealed_ends (map (place_given in_name) gs))) (end_self g.end)

      later : (e : EndId) (b : Bool) → list_any (is_end e) (sealed_ends (map (place_given in_name) gs)) ≡ true
          → list_any (is_end e) (if b then g.end ∷ sealed_ends (map (place_given in_name) gs) else sealed_ends (map (place_given in_name) gs)) ≡ true
      later e true h = any_back (is_end e) (g.end ∷ []) (sealed_ends (map (place_given in_name) gs)) h
      later e false h = h

  pub standing_new : (in_name : I → N) (gs : List (Given N O I)) → standing_in (map (place_given in_name) gs) ≡ map (standing_of in_name) gs
  standing_new in_name [] = refl
  standing_new in_name (g ∷ gs) = ap (λ (l : List (Held N × Bool)). standing_of in_name g ∷ l) (standing_new in_name gs)

-- ---- lists

pub any_between : {X : Type 0} (f : X → Bool) (xs ms ys : List X) → list_any f (xs ++ ys) ≡ true → list_any f ((xs ++ ms) ++ ys) ≡ true
any_between f [] ms ys h = any_back f ms ys h
any_between f (x ∷ xs) ms ys h = by (f x) h (any_between f xs ms ys)
  where
    by : (b : Bool) → (b || list_any f (xs ++ ys)) ≡ true → (list_any f (xs ++ ys) ≡ true → list_any f ((xs ++ ms) ++ ys) ≡ true) → (b || list_any f ((xs ++ ms) ++ ys)) ≡ true
    by true k later = refl
    by false k later = later k

any_same_back : {X : Type 0} (f : X → Bool) (es fs ys : List X) → (list_any f es ≡ true → list_any f fs ≡ true) → list_any f (es ++ ys) ≡ true → list_any f (fs ++ ys) ≡ true
any_same_back f [] fs ys more h = any_back f fs ys h
any_same_back f (x ∷ es) fs ys more h = by (λ m. any_same_back f es fs ys m) (f x) refl h
  where
    by : ((list_any f es ≡ true → list_any f fs ≡ true) → list_any f (es ++ ys) ≡ true → list_any f (fs ++ ys) ≡ true) → (b : Bool) → f x ≡ b → (b || list_any f (es ++ ys)) ≡ true → list_any f (fs ++ ys) ≡ true
    by later true is k = any_front f fs ys (more (ap (λ (c : Bool). c || list_any f es) is))
    by later false is k = later (λ there. more (ap (λ (c : Bool). c || list_any f es) is ∙ there)) k

-- one more is told
pub told_last : (es : List EndId) (xs : List (EndId × Bool)) (e : EndId) (b : Bool) → were_told es xs ≡ true → (b || list_any (is_end e) (es ++ map (λ x. x.0) xs)) ≡ true → were_told es (xs ++ (e, b) ∷ []) ≡ true
told_last es [] e b h last = ap (λ (c : Bool). c && true) (ap (λ (l : List EndId). b || list_any (is_end e) l) (sym (append-nil es)) ∙ last)
told_last es (x ∷ xs) e b h last =
    by (x.1 || list_any (is_end x.0) es) h
    (λ rest. told_last (es ++ x.0 ∷ []) xs e b rest (ap (λ (l : List EndId). b || list_any (is_end e) l) (same_ends es (x.0 ∷ []) (map (λ (y : EndId × Bool). y.0) xs)) ∙ last))
  where
    by : (c : Bool) → (c && were_told (es ++ x.0 ∷ []) xs) ≡ true → (were_told (es ++ x.0 ∷ []) xs ≡ true → were_told (es ++ x.0 ∷ []) (xs ++ (e, b) ∷ []) ≡ true) → (c && were_told (es ++ x.0 ∷ []) (xs ++ (e, b) ∷ [])) ≡ true
    by true k rest = rest k
    by false k rest = never (sym k)

pub either : (s : Bool) (e : EndId) (es : List EndId) → (s ≡ true → list_any (is_end e) es ≡ true) → (not s || list_any (is_end e) es) ≡ true
either true e es known = known refl
either false e es known = refl

-- where more are told, those told again were told
pub told_of_more : (es fs : List EndId) → ((e : EndId) → list_any (is_end e) es ≡ true → list_any (is_end e) fs ≡ true) → (xs : List (EndId × Bool)) → were_told es xs ≡ true → were_told fs xs ≡ true
told_of_more es fs more [] h = refl
told_of_more es fs more (x ∷ xs) h =
    both (x.1 || list_any (is_end x.0) es) (x.1 || list_any (is_end x.0) fs) (were_told (es ++ x.0 ∷ []) xs) (were_told (fs ++ x.0 ∷ []) xs)
    (or_more x.1 (list_any (is_end x.0) es) (list_any (is_end x.0) fs) (more x.0))
    (told_of_more (es ++ x.0 ∷ []) (fs ++ x.0 ∷ []) (λ e. any_same_back (is_end e) es fs (x.0 ∷ []) (more e)) xs) h
  where
    or_more : (a b c : Bool) → (b ≡ true → c ≡ true) → (a || b) ≡ true → (a || c) ≡ true
    or_more true b c m k = refl
    or_more false b c m k = m k

    both : (a b c d : Bool) → (a ≡ true → b ≡ true) → (c ≡ true → d ≡ true) → (a && c) ≡ true → (b && d) ≡ true
    both true b c d m n k = ap (λ (y : Bool). y && d) (m refl) ∙ n k
    both false b c d m n k = never (sym k)

module _ {N I : Type 0} where
  pub keeps_both : (fs ps ns : List (Place N I)) → length ps ≡ length fs → KeepsPlaces fs ps → KeepsPlaces (fs ++ ns) (ps ++ ns)
  keeps_both [] [] ns count keeps = places_stay ns ns refl
  keeps_both [] (p ∷ ps) ns count keeps = absurd (omega (arith, count))
  keeps_both (f ∷ fs) [] ns count keeps = absurd (omega (arith, count))
  keeps_both (f ∷ fs) (p ∷ ps) ns count keeps = on (keeps_both fs ps ns (omega (arith, count)) (record { count = (let k = keeps.count in omega (arith, k)); each = λ k a b x y. keeps.each (suc k) a b x y }))
    where
      on : KeepsPlaces (fs ++ ns) (ps ++ ns) → KeepsPlaces (f ∷ (fs ++ ns)) (p ∷ (ps ++ ns))
      on rest = record { count = (let r = rest.count in omega (arith, r)); each = each }
        where
          each : (k : ℕ) (a b : Place N I) → place_at (f ∷ (fs ++ ns)) k ≡ Some a → place_at (p ∷ (ps ++ ns)) k ≡ Some b → IsLess a b
          each zero a b x y = keeps.each 0 a b x y
          each (suc k) a b x y = rest.each k a b x y

  pub places_come : (ps ns : List (Place N I)) → KeepsPlaces ps (ps ++ ns)
  places_come ps ns = record {
    count = let n = length-append ps ns in omega (arith, n);
    each = λ k a b was now. (places_stay (ps ++ ns) (ps ++ ns) refl).each k a b (place_front ps ns k a was) now;
  }

  pub wrote_front : {O : Type 0} (fs ns : List (Place N I)) (d : PipeChange O I) → StoodFirst fs d → StoodFirst (fs ++ ns) d
  wrote_front fs ns Kept w = tt
  wrote_front fs ns (Made e capacity halves) w = w
  wrote_front fs ns (Sealed k e half) w = record { place = w.place; there = place_front fs ns k w.place w.there; held = w.held; writes = w.writes }
  wrote_front fs ns (SealedAgain k e) w = record { place = w.place; there = place_front fs ns k w.place w.there; held = w.held; writes = w.writes }
  wrote_front fs ns (Parted k e half) w = record { place = w.place; there = place_front fs ns k w.place w.there; held = w.held; writes = w.writes }
  wrote_front fs ns (Settled k e) w = record { place = w.place; there = place_front fs ns k w.place w.there; held = w.held }

pub came_places : {N O I : Type 0} (in_name : I → N) (gs : List (Given N O I)) → map (λ x. x.0) (map (came_given in_name) gs) ≡ map (place_given in_name) gs
came_places in_name [] = refl
came_places in_name (g ∷ gs) = ap (λ (l : List (Place _ _)). place_given in_name g ∷ l) (came_places in_name gs)

-- an end is gone: what is noted of that, and what was settled with it
pub record LeftWith {S O I N : Type 0} (K : Known S O I N) (first : S) (qs : List (Place N I)) (k : ℕ) (placed ys : List (PipeChange O I × S)) (new : S) (settled : List (N × Unit {0})) : Type 0 where
  pub more : List (PipeChange O I × S)
  pub noted : unplaced (placed ++ more) ≡ ys
  pub does : DoesChanges K qs first (placed ++ more) new
  pub wrote : (fs : List (Place N I)) → StandsAt fs k → AllByRecursion (λ x. StoodFirst fs x.0) more
  pub no_seals : sealings_in more ≡ []
  pub read : WereRead qs settled
