-- What an event of one object leaves of the ends of another: where they are, why they were asked, and in which order they were attached.
use Rattle.std.specs.Prelude.{◌≡◌, ◌≢◌, ◌<◌, ◌≤◌, ◌==◌, ◌⊎◌, ◌++◌, ◌∷◌, [], ℕ, Bool, true, false, not, cond, List, Option, All, filter, length, slice_index_or, slice_set, if◌then◌else◌, refl}
use Rattle.std.proofs.Common.{arith, sym, ap, ◌∙◌, subst, inl, inr}
use Rattle.std.proofs.lemmas.Bool.{cases_eq, cases_lt, eqb-true}
use Rattle.std.proofs.lemmas.List.{append-nil, get_or-set_same, get_or-set_other, set_past, get_or_append_left, length-set, length_push}
use Rattle.std.proofs.lemmas.List.Elements.{All-nil, All-cons, All-head, All-tail, All-append, All-weaker, filter-append}
use Rattle.zq_base.specs.declared.ids.EndId.{EndId}
use Rattle.spec_control.specs.declared.end.EndEvent.{EndEvent}
use Rattle.spec_control.specs.declared.end.EndEvent.TheVariants.{Asked}
use Rattle.spec_control.specs.declared.end.Reason.{Reason}
use Rattle.spec_control.specs.declared.end.Reason.TheVariants.{Closed, BadId, Second}
use Rattle.zq_base.specs.declared.attached.Attached.{Attached}
use Rattle.zq_base.specs.declared.attached.Attached.TheVariants.{Yes, BadId as IsBadId, Second as IsSecond}
use Rattle.spec_control.specs.Stage.{was_asked}
use Rattle.spec_control.specs.Place.{Unmade, is_here}
use Rattle.spec_control.specs.PairPhase.{PairEvent, Happens, other_after}
use Rattle.spec_control.specs.Rows.{PairRow, no_pair, obj, pair, end_place, end_owner, pair_after}
use Rattle.spec_control.specs.Control.{Control, same_side, is_end, with_end, owner_of, place_of, commands_in, reason_in, moved, happens, ask, ask_all, attach, greet, draws, ends_of, next_pair}
use Rattle.control_laws.proofs.ListLemmas.{never, left, right}
use Rattle.control_laws.proofs.StepLemmas.{after_owner}
use Rattle.control_laws.specs.Spared.{shown, Known, Spared}
use Rattle.control_laws.proofs.StayLemmas.{SameEnds, other_told}

pub spared_on : (i : ℕ) (c d e : Control) → Spared i c d → Spared i d e → Spared i c e
spared_on i c d e h k = record {
  grows = (let a = h.grows in let b = k.grows in omega (arith, a, b));
  owners = λ x within. k.owners x (later x within) ∙ h.owners x within;
  places = λ x within mine. k.places x (later x within) (h.owners x within ∙ mine) ∙ h.places x within mine;
  reasons = λ x within mine. k.reasons x (later x within) (h.owners x within ∙ mine) ∙ h.reasons x within mine;
  attached = k.attached ∙ h.attached;
  known = k.known;
}
  where
    later : (x : EndId) → x.pair.0 < next_pair c → x.pair.0 < next_pair d
    later x within = let a = h.grows in omega (arith, a, within)

pub spared_same : (i : ℕ) (c d : Control) → Known c → SameEnds c d → Spared i c d
spared_same i c d known same = record {
  grows = (let many = ap (λ (ps : List PairRow). length ps) same.pairs in omega (arith, many));
  owners = λ x within. ap (λ (ps : List PairRow). end_owner (slice_index_or ps x.pair.0 no_pair) x.a) same.pairs;
  places = λ x within mine. ap (λ (ps : List PairRow). shown (end_place (slice_index_or ps x.pair.0 no_pair) x.a)) same.pairs;
  reasons = λ x within mine. ap (λ (f : EndId → Option Reason). f x) same.reasons;
  attached = ap (λ (es : List EndId). filter (λ x. end_owner (slice_index_or d.rows.pairs x.pair.0 no_pair) x.a == i) es) same.attached
      ∙ ap (λ (ps : List PairRow). filter (λ x. end_owner (slice_index_or ps x.pair.0 no_pair) x.a == i) c.attached) same.pairs;
  known = subst (λ (ps : List PairRow). All (λ x. x.pair.0 < length ps) d.attached) (sym same.pairs) (subst (λ (es : List EndId). All (λ x. x.pair.0 < length c.rows.pairs) es) (sym same.attached) known);
}

pub spared_not : (i : ℕ) (c : Control) → Known c → Spared i c c
spared_not i c known = spared_same i c c known (record { pairs = refl; attached = refl; reasons = refl })

-- a filter by what is so of the elements alone
filter_within : (p q : EndId → Bool) (es : List EndId) → All (λ x. p x ≡ q x) es → filter p es ≡ filter q es
filter_within p q [] all = refl
filter_within p q (e ∷ es) all =
    ap (λ (b : Bool). cond b (e ∷ filter p es) (filter p es)) (All-head (λ x. p x ≡ q x) e es all)
    ∙ ap (λ (xs : List EndId). cond (q e) (e ∷ xs) xs) (filter_within p q es (All-tail (λ x. p x ≡ q x) e es all))

-- ---- an event of an end of another object
-- what a write leaves as it is, is read as before
read_kept : {X Y : Type 0} (g : X → Y) (xs : List X) (i j : ℕ) (x d : X) → g x ≡ g (slice_index_or xs i d) → g (slice_index_or (slice_set xs i x) j d) ≡ g (slice_index_or xs j d)
read_kept {X = X} g xs i j x d same =
    elim (cases_eq j i) [
      | inl e ↦ subst (λ (n : ℕ). g (slice_index_or (slice_set xs i x) n d) ≡ g (slice_index_or xs n d)) (sym e) (here (cases_lt i (length xs)))
      | inr other ↦ ap g (get_or-set_other xs i j x d other)
    ]
  where
    here : (i < length xs) ⊎ (length xs ≤ i) → g (slice_index_or (slice_set xs i x) i d) ≡ g (slice_index_or xs i d)
    here (inl below) = ap g (get_or-set_same xs i x d below) ∙ same
    here (inr past) = ap (λ (ys : List X). g (slice_index_or ys i d)) (set_past xs i x past)

module _ (event : PairEvent) (e : EndId) (c : Control) where
  pub owner_stays : (x : EndId) → owner_of (moved event e c) x ≡ owner_of c x
  owner_stays x = read_kept (λ (p : PairRow). end_owner p x.a) c.rows.pairs e.pair.0 x.pair.0 (pair_after event e.a (pair c.rows e.pair.0)) no_pair (after_owner event e.a x.a (pair c.rows e.pair.0))

  many : next_pair (moved event e c) ≡ next_pair c
  many = length-set c.rows.pairs e.pair.0 _

place_at : (event : PairEvent) (a b : Bool) (p : PairRow) → shown (other_after event (end_place p (not a))) ≡ shown (end_place p (not a)) → (end_owner p a ≡ end_owner p b → ⊥) →
    shown (end_place (pair_after event a p) b) ≡ shown (end_place p b)
place_at event true true p same other = absurd (other refl)
place_at event true false p same other = same
place_at event false true p same other = same
place_at event false false p same other = absurd (other refl)

end_owners : (c : Control) (x e : EndId) → is_end x e ≡ true → owner_of c x ≡ owner_of c e
end_owners c x e same =
    ap (λ (k : ℕ). end_owner (pair c.rows k) x.a) (eqb-true x.pair.0 e.pair.0 (left (x.pair.0 == e.pair.0) (same_side x.a e.a) same))
    ∙ side x.a e.a (right (x.pair.0 == e.pair.0) (same_side x.a e.a) same)
  where
    side : (a b : Bool) → same_side a b ≡ true → end_owner (pair c.rows e.pair.0) a ≡ end_owner (pair c.rows e.pair.0) b
    side true true h = refl
    side true false h = absurd (never h)
    side false true h = absurd (never h)
    side false false h = refl

module _ (i : ℕ) (event : PairEvent) (e : EndId) (c : Control) (other : owner_of c e ≢ i) (same : shown (other_after event (end_place (pair c.rows e.pair.0) (not e.a))) ≡ shown (end_place (pair c.rows e.pair.0) (not e.a))) where
  place_stays : (x : EndId) → x.pair.0 < next_pair c → owner_of c x ≡ i → shown (place_of (moved event e c) x) ≡ shown (place_of c x)
  place_stays x within mine = by (cases_eq x.pair.0 e.pair.0)
    where
      p : PairRow
      p = pair c.rows e.pair.0

      by : (x.pair.0 ≡ e.pair.0) ⊎ (x.pair.0 ≡ e.pair.0 → ⊥) → shown (place_of (moved event e c) x) ≡ shown (place_of c x)
      by (inl at) =
          ap (λ (k : ℕ). shown (end_place (slice_index_or (slice_set c.rows.pairs e.pair.0 (pair_after event e.a (pair c.rows e.pair.0))) k no_pair) x.a)) at
          ∙ ap (λ (q : PairRow). shown (end_place q x.a)) (get_or-set_same c.rows.pairs e.pair.0 (pair_after event e.a (pair c.rows e.pair.0)) no_pair (subst (λ (k : ℕ). k < next_pair c) at within))
          ∙ place_at event e.a x.a (pair c.rows e.pair.0) same (λ z. other (z ∙ (sym (ap (λ (k : ℕ). end_owner (pair c.rows k) x.a) at) ∙ mine)))
          ∙ sym (ap (λ (k : ℕ). shown (end_place (pair c.rows k) x.a)) at)
      by (inr off) = ap (λ (q : PairRow). shown (end_place q x.a)) (get_or-set_other c.rows.pairs e.pair.0 x.pair.0 (pair_after event e.a (pair c.rows e.pair.0)) no_pair off)

  pub spared_moved : Known c → Spared i c (moved event e c)
  spared_moved known = record {
    grows = (let same_many = many event e c in omega (arith, same_many));
    owners = λ x within. owner_stays event e c x;
    places = place_stays;
    reasons = λ x within mine. refl;
    attached = filter_within (λ x. owner_of (moved event e c) x == i) (λ x. owner_of c x == i) c.attached
        (All-weaker (λ x. x.pair.0 < next_pair c) (λ x. (owner_of (moved event e c) x == i) ≡ (owner_of c x == i)) (λ x within. ap (λ (k : ℕ). k == i) (owner_stays event e c x)) c.attached known);
    known = subst (λ (n : ℕ). All (λ x. x.pair.0 < n) c.attached) (sym (many event e c)) known;
  }

module _ (i : ℕ) (e : EndId) (c : Control) (other : owner_of c e ≢ i) where
  -- its reason changes
  reasoned : (f : Option Reason) → Known c → Spared i c (record c { reasons = with_end e f c.reasons })
  reasoned f known = record {
    grows = omega arith;
    owners = λ x within. refl;
    places = λ x within mine. refl;
    reasons = λ x within mine. by (is_end x e) refl mine;
    attached = refl;
    known = known;
  }
    where
      by : {x : EndId} (b : Bool) → is_end x e ≡ b → owner_of c x ≡ i → (if b then f else c.reasons x) ≡ c.reasons x
      by {x} true same mine = absurd (other (sym (end_owners c x e same) ∙ mine))
      by false same mine = refl

  -- it joins
  listed : Known c → e.pair.0 < next_pair c → Spared i c (record c { attached = c.attached ++ e ∷ [] })
  listed known within = record {
    grows = omega arith;
    owners = λ x there. refl;
    places = λ x there mine. refl;
    reasons = λ x there mine. refl;
    attached = filter-append (λ x. owner_of c x == i) c.attached (e ∷ []) ∙ ap (λ (es : List EndId). ends_of i c ++ es) (none (owner_of c e == i) refl) ∙ append-nil (ends_of i c);
    known = All-append (λ x. x.pair.0 < next_pair c) c.attached (e ∷ []) known (All-cons (λ x. x.pair.0 < next_pair c) e [] within (All-nil (λ x. x.pair.0 < next_pair c)));
  }
    where
      none : (b : Bool) → (owner_of c e == i) ≡ b → cond b (e ∷ []) [] ≡ []
      none true h = absurd (other (eqb-true (owner_of c e) i h))
      none false h = refl

-- ---- an end of another object goes on in its life, is asked, or is attached
module _ (i : ℕ) where
  pub happens_owner : (event : EndEvent) (e : EndId) (c : Control) (x : EndId) → owner_of (happens event e c) x ≡ owner_of c x
  happens_owner event e c x = ap (λ (ps : List PairRow). end_owner (slice_index_or ps x.pair.0 no_pair) x.a) (other_told (commands_in event (place_of c e)) e (record (moved (Happens event) e c) { reasons = with_end e (reason_in event (place_of c e) (c.reasons e)) c.reasons })).pairs
      ∙ owner_stays (Happens event) e c x

  pub spared_happens : (event : EndEvent) (e : EndId) (c : Control) → owner_of c e ≢ i → Known c → Spared i c (happens event e c)
  spared_happens event e c other known =
      let first = moved (Happens event) e c in
      let one = spared_moved i (Happens event) e c other refl known in
      let second = record first { reasons = with_end e (reason_in event (place_of c e) (c.reasons e)) c.reasons } in
      let two = reasoned i e first (λ z. other (sym (owner_stays (Happens event) e c e) ∙ z)) (reason_in event (place_of c e) (c.reasons e)) one.known in
      spared_on i c first (happens event e c) one
      (spared_on i first second (happens event e c) two (spared_same i second (happens event e c) two.known (other_told (commands_in event (place_of c e)) e second)))

  pub ask_owner : (reason : Reason) (delay : Bool) (e : EndId) (c : Control) (x : EndId) → owner_of (ask reason delay e c) x ≡ owner_of c x
  ask_owner reason delay e c x = by (is_here (place_of c e))
    where
      by : (b : Bool) → owner_of (if b then happens (Asked reason delay) e c else c) x ≡ owner_of c x
      by true = happens_owner (Asked reason delay) e c x
      by false = refl

  pub spared_ask : (reason : Reason) (delay : Bool) (e : EndId) (c : Control) → owner_of c e ≢ i → Known c → Spared i c (ask reason delay e c)
  spared_ask reason delay e c other known = by (is_here (place_of c e))
    where
      by : (b : Bool) → Spared i c (if b then happens (Asked reason delay) e c else c)
      by true = spared_happens (Asked reason delay) e c other known
      by false = spared_not i c known

  pub spared_ask_all : (reason : Reason) (delay : Bool) (es : List EndId) (c : Control) → All (λ x. owner_of c x ≢ i) es → Known c → Spared i c (ask_all reason delay es c)
  spared_ask_all reason delay [] c others known = spared_not i c known
  spared_ask_all reason delay (e ∷ es) c others known =
      let one = spared_ask reason delay e c (All-head (λ x. owner_of c x ≢ i) e es others) known in
      spared_on i c (ask reason delay e c) _ one
      (spared_ask_all reason delay es (ask reason delay e c)
      (All-weaker (λ x. owner_of c x ≢ i) (λ x. owner_of (ask reason delay e c) x ≢ i) (λ x off z. off (sym (ask_owner reason delay e c x) ∙ z)) es (All-tail (λ x. owner_of c x ≢ i) e es others)) one.known)

  pub spared_attach : (event : PairEvent) (e : EndId) (c : Control) → owner_of c e ≢ i → e.pair.0 < next_pair c → shown (other_after event (end_place (pair c.rows e.pair.0) (not e.a))) ≡ shown (end_place (pair c.rows e.pair.0) (not e.a)) → Known c → Spared i c (attach event e c)
  spared_attach event e c other within same known =
      let one = spared_moved i event e c other same known in
      spared_on i c (moved event e c) (attach event e c) one
      (listed i e (moved event e c) (λ z. other (sym (owner_stays event e c e) ∙ z)) one.known (let m = many event e c in omega (arith, m, within)))

  pub spared_greet : (kind : Attached) (e : EndId) (c : Control) → owner_of c e ≢ i → Known c → Spared i c (greet kind e c)
  spared_greet Yes e c other known = by (was_asked (obj c.rows (owner_of c e)).stage) (c.struck e)
    where
      by : (a b : Bool) → Spared i c (if a then ask Closed false e c else (if b then ask Closed false e c else c))
      by true b = spared_ask Closed false e c other known
      by false true = spared_ask Closed false e c other known
      by false false = spared_not i c known
  spared_greet IsBadId e c other known = spared_ask BadId false e c other known
  spared_greet IsSecond e c other known = spared_ask Second false e c other known

  -- a pair is drawn
  pub spared_draws : (a_owner b_owner : ℕ) (c : Control) → Known c → Spared i c (draws a_owner b_owner c)
  spared_draws a_owner b_owner c known = record {
    grows = (let more = length_push c.rows.pairs row in omega (arith, more));
    owners = λ x within. ap (λ (p : PairRow). end_owner p x.a) (old x within);
    places = λ x within mine. ap (λ (p : PairRow). shown (end_place p x.a)) (old x within);
    reasons = λ x within mine. refl;
    attached = filter_within (λ x. owner_of (draws a_owner b_owner c) x == i) (λ x. owner_of c x == i) c.attached
        (All-weaker (λ x. x.pair.0 < next_pair c) (λ x. (owner_of (draws a_owner b_owner c) x == i) ≡ (owner_of c x == i)) (λ x within. ap (λ (p : PairRow). end_owner p x.a == i) (old x within)) c.attached known);
    known = All-weaker (λ x. x.pair.0 < next_pair c) (λ x. x.pair.0 < next_pair (draws a_owner b_owner c)) (λ x within. (let more = length_push c.rows.pairs row in omega (arith, more, within))) c.attached known;
  }
    where
      row : PairRow
      row = record { a_owner = a_owner; b_owner = b_owner; a = Unmade; b = Unmade }

      old : (x : EndId) → x.pair.0 < next_pair c → slice_index_or (c.rows.pairs ++ row ∷ []) x.pair.0 no_pair ≡ slice_index_or c.rows.pairs x.pair.0 no_pair
      old x within = get_or_append_left c.rows.pairs (row ∷ []) no_pair x.pair.0 within
