-- Each step of the rows moves an end by the table of its life.
use Rattle.std.specs.Prelude.{◌≡◌, ℕ, Bool, true, false, not, refl}
use Rattle.std.proofs.Common.{arith, sym, ap, ◌∙◌, subst, inl, inr}
use Rattle.spec_control.specs.declared.end.EndEvent.{EndEvent}
use Rattle.spec_control.specs.Place.{Place, Unmade, Away, At, Half, is_unmade}
use Rattle.spec_control.specs.PairPhase.{PairEvent, Opens, BindCame, Happens, may, meets, place_after, other_after}
use Rattle.spec_control.specs.Rows.{Rows, PairRow, no_pair, pair, with_pair, end_place, end_half, IsInPhase, PairMoves, makes_object, draws_pair, opens_pair, link_moves, pair_moves, object_ends}
use Rattle.control_laws.specs.EndStep.{EndStep, stays, awaits, attaches, lives, EndsLiveByTheTable}
use Rattle.control_laws.proofs.ListLemmas.{never, left, right, is_here, is_elsewhere, written, is_old, is_new, pushed}
use Rattle.control_laws.proofs.LinkLemmas.{moves_on}
use Rattle.control_laws.proofs.ClosedLemmas.{Inv}
use Rattle.control_laws.proofs.RowLemmas.{holds, pair_there}

-- the end that moves
mine_steps : (e : PairEvent) (old new : Place) → (e ≡ Opens → old ≡ Unmade) → meets e old ≡ true → new ≡ place_after e old → EndStep old new
mine_steps Opens old new unmade met is = attaches (inl (unmade refl)) is
mine_steps BindCame Unmade new unmade met is = absurd (never met)
mine_steps BindCame Away new unmade met is = attaches (inr refl) is
mine_steps BindCame (At state) new unmade met is = absurd (never met)
mine_steps (Happens event) Unmade new unmade met is = absurd (never met)
mine_steps (Happens event) Away new unmade met is = absurd (never met)
mine_steps (Happens event) (At state) new unmade met is = lives event state refl met is

-- and the other
theirs_steps : (e : PairEvent) (old new : Place) → (e ≡ Opens → old ≡ Unmade) → new ≡ other_after e old → EndStep old new
theirs_steps Opens old new unmade is = awaits (unmade refl) is
theirs_steps BindCame old new unmade is = stays is
theirs_steps (Happens event) old new unmade is = stays is

unmade_is : (place : Place) → is_unmade place ≡ true → place ≡ Unmade
unmade_is Unmade h = refl
unmade_is Away h = absurd (never h)
unmade_is (At state) h = absurd (never h)

both_unmade : (e : PairEvent) (mine theirs : Half) → may e mine theirs ≡ true → e ≡ Opens → (mine.place ≡ Unmade) × (theirs.place ≡ Unmade)
both_unmade Opens mine theirs h is = (unmade_is mine.place (left _ _ h), unmade_is theirs.place (right (is_unmade mine.place) _ h))
both_unmade BindCame mine theirs h is = absurd (no is)
  where
    no : BindCame ≡ Opens → ⊥
    no e = Prim.grind arith
both_unmade (Happens event) mine theirs h is = absurd (no event is)
  where
    no : (event : EndEvent) → Happens event ≡ Opens → ⊥
    no event e = Prim.grind arith

-- both ends of a pair that moves
pair_steps : (e : PairEvent) (a x : Bool) (old new : PairRow) → IsInPhase old → PairMoves e a old new → EndStep (end_place old x) (end_place new x)
pair_steps e a x old new phase m = by a x mine theirs
  where
    unmade : e ≡ Opens → (end_place old a ≡ Unmade) × (end_place old (not a) ≡ Unmade)
    unmade is = both_unmade e (end_half old a) (end_half old (not a)) m.comes is

    mine : EndStep (end_place old a) (end_place new a)
    mine = mine_steps e (end_place old a) (end_place new a) (λ is. (unmade is).0) (moves_on e a old new phase m).1 (ap (λ (h : Half). h.place) m.mine)

    theirs : EndStep (end_place old (not a)) (end_place new (not a))
    theirs = theirs_steps e (end_place old (not a)) (end_place new (not a)) (λ is. (unmade is).1) (ap (λ (h : Half). h.place) m.theirs)

    by : (b y : Bool) → EndStep (end_place old b) (end_place new b) → EndStep (end_place old (not b)) (end_place new (not b)) → EndStep (end_place old y) (end_place new y)
    by true true p q = p
    by true false p q = q
    by false true p q = q
    by false false p q = p

-- where a pair is written
written_steps : (s : Rows) (j : ℕ) (b : Bool) (e : PairEvent) (p : PairRow) → Inv s → PairMoves e b (pair s j) p → (k : ℕ) (a : Bool) → EndStep (end_place (pair s k) a) (end_place (pair (with_pair j p s) k) a)
written_steps s j b e p inv m k a =
    elim (written s.pairs p no_pair j k (pair_there s j b e m.comes)) [
      | is_here here same ↦
          subst (λ (q : PairRow). EndStep (end_place (pair s k) a) (end_place q a)) (sym same)
          (subst (λ (i : ℕ). EndStep (end_place (pair s i) a) (end_place p a)) (sym here) (pair_steps e b a (pair s j) p (inv.phases j) m))
      | is_elsewhere same ↦ stays (ap (λ (q : PairRow). end_place q a) same)
    ]

pub ends_live : EndsLiveByTheTable
ends_live old new reached (makes_object w o unended owner alive fits is) k a there = stays (ap (λ (r : Rows). end_place (pair r k) a) is)
ends_live old new reached (draws_pair p x y is) k a there =
    elim (pushed old.pairs p no_pair k) [
      | is_old e ↦ stays (ap (λ (r : Rows). end_place (pair r k) a) is ∙ ap (λ (q : PairRow). end_place q a) e)
      | is_new at e was ↦ absurd (omega (arith, at, there))
    ]
ends_live old new reached (opens_pair j b p m x y is) k a there =
    subst (λ (r : Rows). EndStep (end_place (pair old k) a) (end_place (pair r k) a)) (sym is) (written_steps old j b Opens p (holds old reached) m k a)
ends_live old new reached (link_moves c e may_so is) k a there = stays (ap (λ (r : Rows). end_place (pair r k) a) is)
ends_live old new reached (pair_moves j b e p other m is) k a there =
    subst (λ (r : Rows). EndStep (end_place (pair old k) a) (end_place (pair r k) a)) (sym is) (written_steps old j b e p (holds old reached) m k a)
ends_live old new reached (object_ends c m is) k a there = stays (ap (λ (r : Rows). end_place (pair r k) a) is)
