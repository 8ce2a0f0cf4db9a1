-- A holder that has what its caller's moments say has what the control state of the whole order says.
use Rattle.std.specs.Prelude.{◌≡◌, ◌≢◌, ◌<◌, ◌==◌, ◌||◌, ◌⊎◌, ℕ, zero, suc, Bool, true, false, cond, List, [], ◌∷◌, ◌++◌, Option, Some, None, if◌then◌else◌, All, refl}
use Rattle.std.proofs.Common.{arith, sym, ap, ◌∙◌, subst, inl, inr}
use Rattle.std.proofs.lemmas.Bool.{eq-eqb, eqb-true}
use Rattle.std.proofs.lemmas.List.{append-nil, append_assoc}
use Rattle.std.proofs.lemmas.List.Elements.{All-weaker, All-filter}
use Rattle.zq_base.specs.declared.ids.EndId.{EndId}
use Rattle.zq_base.specs.declared.ids.ObjId.{ObjId}
use Rattle.zq_base.specs.declared.ids.SlotId.{SlotId}
use Rattle.spec_control.specs.declared.letter.Word.{Word}
use Rattle.spec_control.specs.declared.letter.Word.TheVariants.{Own, Plug, TermReq, Term, TermAck, PipeBind, PipeTerm, PipeTermAck, Stop, Reap}
use Rattle.spec_control.specs.declared.entry.Answered.{Answered}
use Rattle.spec_control.specs.declared.entry.Did.{Did}
use Rattle.spec_control.specs.declared.entry.Did.TheVariants.{Asked, Delivered, Delimited}
use Rattle.spec_control.specs.declared.entry.Item.{Item}
use Rattle.spec_control.specs.declared.entry.Item.TheVariants.{Event, Seen}
use Rattle.spec_control.specs.Place.{Place, Unmade, Away, At}
use Rattle.spec_control.specs.Stage.{is_alive, is_coming, is_used, is_unused}
use Rattle.spec_control.specs.Row.{is_socket, owner_fits, socket_fits, stage_fits}
use Rattle.spec_control.specs.Rows.{obj, is_owner}
use Rattle.spec_control.specs.Control.{Control, next_pair, owner_of, place_of, ends_of}
use Rattle.spec_control.specs.After.{after}
use Rattle.spec_control.specs.ControlRun.{Fits, after_item, after_all, IsControlRun}
use Rattle.spec_control.specs.Held.{caller_of, items_by}
use Rattle.spec_control.specs.Has.{acts_at_word, acts_in_request, acts_in, taken_by_word, taken_in, given_up, unless_root, has_then, has_over, has_after, AreBy}
use Rattle.spec_control.specs.Moments.{moments_from, moments_by, items_in, is_of_item, left_over}
use Rattle.control_laws.proofs.ListLemmas.{never, left, right}
use Rattle.control_laws.proofs.QuietLemmas.{socket_owner}
use Rattle.control_laws.proofs.StepLemmas.{inv_of}
use Rattle.control_laws.proofs.TellLemmas.{rows_of}
use Rattle.control_laws.proofs.EndLemmas.{kept_but}
use Rattle.control_laws.proofs.GuardLemmas.{may_come}
use Rattle.control_laws.specs.Kept.{Kept}
use Rattle.control_laws.proofs.RunLemmas.{after_kept}
use Rattle.control_laws.specs.Spared.{shown, Known, Spared, touched_in}
use Rattle.control_laws.proofs.EventLemmas.{others_spared}
use Rattle.control_laws.proofs.MoveLemmas.{is_at}
use Rattle.control_laws.proofs.AttachedOnceLemmas.{IsOld, AreOld, old_after}
use Rattle.control_laws.proofs.HeldOthersLemmas.{IsIts, its_ends}

none_some : {y : ℕ} → None ≡ Some y → ⊥
none_some f = Prim.grind arith

some_is : {x y : ℕ} → Some x ≡ Some y → x ≡ y
some_is f = Prim.grind arith

owns : (i : ℕ) (w : Option ℕ) → w ≡ Some i → is_owner i w ≡ true
owns i w e = ap (is_owner i) e ∙ eq-eqb i i refl

owned_by : (i : ℕ) (w : Option ℕ) → is_owner i w ≡ true → w ≡ Some i
owned_by i None e = absurd (never e)
owned_by i (Some w) e = ap (λ (n : ℕ). Some n) (eqb-true w i e)

pub either_false : (a b : Bool) → (a || b) ≡ false → (a ≡ false) × (b ≡ false)
either_false true b h = absurd (never (sym h))
either_false false b h = (refl, h)

-- ---- an event that is of no concern to an object touches none of its ends
itself : (i to : ℕ) → i ≢ 0 → Some to ≡ Some i → unless_root to ≡ Some i
itself i zero other e = absurd (other (sym (some_is e)))
itself i (suc n) other e = e

word_acts : (i to : ℕ) (word : Word) → i ≢ 0 → Some to ≡ Some i → ((socket : ObjId) → word ≡ Reap socket → to ≡ 0) → (is_owner i (acts_at_word to word) ≡ true) ⊎ (is_owner i (taken_by_word to word) ≡ true)
word_acts i to (Own child) other e root = inl (owns i (unless_root to) (itself i to other e))
word_acts i to (Plug end) other e root = inr (owns i (Some to) e)
word_acts i to (TermReq child) other e root = inl (owns i (unless_root to) (itself i to other e))
word_acts i to Term other e root = inl (owns i (unless_root to) (itself i to other e))
word_acts i to (TermAck child) other e root = inl (owns i (unless_root to) (itself i to other e))
word_acts i to (PipeBind end peer) other e root = inl (owns i (unless_root to) (itself i to other e))
word_acts i to (PipeTerm end) other e root = inl (owns i (unless_root to) (itself i to other e))
word_acts i to (PipeTermAck end) other e root = inl (owns i (unless_root to) (itself i to other e))
word_acts i to Stop other e root = inl (owns i (unless_root to) (itself i to other e))
word_acts i to (Reap socket) other e root = absurd (other (sym (some_is e) ∙ root socket refl))

module _ {N S : Type 0} (c : Control) (kept : Kept c) where
  -- a Reap comes to the root
  pub reap_root : (slot : SlotId) (to socket : ObjId) (h : Answered N S) → Fits c (Delivered slot (record { to = to; word = Reap socket }) h) → to.0 ≡ 0
  reap_root slot to socket h fits =
      let comes = may_come c kept slot.0 fits.may.behind to.0 (Reap socket) fits.may.oldest in
      let o = obj c.rows socket.0 in
      let row = (inv_of (rows_of (kept_but 0 c kept))).fits socket.0 in
      let owner = socket_owner o.kind o.owner (left (owner_fits o.kind o.owner) _ (right (socket_fits (is_socket o.kind) (is_alive o.stage) (is_used o.request) (is_unused o.stop)) _ (right (stage_fits o.stage o.noted o.plugged o.request o.stop) _ row)))
      (right (is_alive o.stage) _ (right (is_coming o.request) _ comes.comes)) in
      some_is (sym comes.owner ∙ owner)

  untouched : (did : Did N S) → Fits c did → (i b : ℕ) → i ≢ 0 → is_of_item i c (Event (record { by = b; did = did })) ≡ false → touched_in c did ≢ Some i
  untouched (Asked req reply h) fits i b other none e = never (sym (either_false _ _ none).0 ∙ owns i (acts_in_request c req) e)
  untouched (Delivered slot letter h) fits i b other none e =
      elim (word_acts i letter.to.0 letter.word other e (λ socket is. reap_root slot letter.to socket h (subst (λ (w : Word). Fits c (Delivered slot (record { to = letter.to; word = w }) h)) is fits))) [
        | inl acts ↦ never (sym (either_false _ _ none).0 ∙ acts)
        | inr taken ↦ never (sym (either_false _ _ none).1 ∙ taken)
      ]
  untouched (Delimited d h) fits i b other none e = never (sym (either_false _ _ none).0 ∙ owns i (Some (owner_of c d)) e)

-- ---- the ends of an object are where the last moment of it left them
pub record AsLeft (l c : Control) (e : EndId) : Type 0 where
  pub place : place_of l e ≡ place_of c e
  pub reason : l.reasons e ≡ c.reasons e

-- they are those that it had then
pub record AreLeft (l c : Control) (i : ℕ) : Type 0 where
  pub each : All (AsLeft l c) (ends_of i c)
  pub ends : ends_of i l ≡ ends_of i c

left_now : (c : Control) (i : ℕ) → AreLeft c c i
left_now c i = record { each = λ k d lt. record { place = refl; reason = refl }; ends = refl }

pub shown_at : (p q : Place) → is_at q ≡ true → shown p ≡ shown q → p ≡ q
shown_at p Unmade h e = absurd (never h)
shown_at p Away h e = absurd (never h)
shown_at Unmade (At state) h e = absurd (away e)
  where
    away : Away ≡ At state → ⊥
    away f = Prim.grind arith
shown_at Away (At state) h e = absurd (away e)
  where
    away : Away ≡ At state → ⊥
    away f = Prim.grind arith
shown_at (At x) (At state) h e = e

-- an event that is of no concern to it leaves that so
left_spared : (l c d : Control) (i : ℕ) → AreOld c → Spared i c d → AreLeft l c i → AreLeft l d i
left_spared l c d i old spared was = record {
  each = subst (λ (es : List EndId). All (AsLeft l d) es) (sym spared.attached) (both (ends_of i c) was.each (All-filter (λ e. owner_of c e == i) (IsOld c) c.attached old) (its_ends c i known));
  ends = was.ends ∙ sym spared.attached;
}
  where
    known : Known c
    known = All-weaker (IsOld c) (λ e. e.pair.0 < next_pair c) (λ e o. o.within) c.attached old

    one : (e : EndId) → AsLeft l c e → IsOld c e → IsIts c i e → AsLeft l d e
    one e was o its = record {
      place = was.place ∙ sym (shown_at (place_of d e) (place_of c e) o.at (spared.places e its.within its.own));
      reason = was.reason ∙ sym (spared.reasons e its.within its.own);
    }

    both : (es : List EndId) → All (AsLeft l c) es → All (IsOld c) es → All (IsIts c i) es → All (AsLeft l d) es
    both es was o its k x lt = one _ (was k x lt) (o k x lt) (its k x lt)

module _ {N S : Type 0} where
  -- the moments of a caller are those of its own items
  pub own_moments : (k : ℕ) (items : List (Item N S)) (c : Control) → items_in (moments_by k (moments_from c items)) ≡ items_by k items
  own_moments k [] c = refl
  own_moments k (item ∷ items) c = by (caller_of item == k) (own_moments k items (after_item item c))
    where
      by : (b : Bool) → items_in (moments_by k (moments_from (after_item item c) items)) ≡ items_by k items →
          items_in (cond b (record { found = c; item = item } ∷ moments_by k (moments_from (after_item item c) items)) (moments_by k (moments_from (after_item item c) items))) ≡ cond b (item ∷ items_by k items) (items_by k items)
      by true rest = ap (λ (xs : List (Item N S)). item ∷ xs) rest
      by false rest = rest

  has_snoc : (i : ℕ) (had : Option ℕ) (past : List (Item N S)) (item : Item N S) → has_over i had (past ++ item ∷ []) ≡ has_then i item (has_over i had past)
  has_snoc i had [] item = refl
  has_snoc i had (x ∷ past) item = has_snoc i (has_then i x had) past item

  -- who has an object then had it, or takes it in
  had_before : (did : Did N S) (b k i : ℕ) (had : Option ℕ) → (if is_owner i (taken_in did) then Some b else (if is_owner i (given_up did) then None else had)) ≡ Some k → is_owner i (taken_in did) ≡ false → had ≡ Some k
  had_before did b k i had is none = by (is_owner i (given_up did)) (sym (ap (λ (x : Bool). if x then Some b else (if is_owner i (given_up did) then None else had)) none) ∙ is)
    where
      by : (g : Bool) → (if g then None else had) ≡ Some k → had ≡ Some k
      by true e = absurd (none_some e)
      by false e = e

  pub left_snoc : (k i : ℕ) → i ≢ 0 → (items past : List (Item N S)) (c l : Control) → Kept c → AreOld c → IsControlRun c items → AreBy past c items → (has_after i past ≡ Some k → AreLeft l c i) →
      has_after i (past ++ items) ≡ Some k → AreLeft (left_over i l (moments_by k (moments_from c items))) (after_all items c) i
  left_snoc k i other [] past c l kept old run may so has = so (sym (ap (has_after i) (append-nil past)) ∙ has)
  left_snoc k i other (Seen sight ∷ items) past c l kept old run may so has = skip (sight.by == k) (left_snoc k i other items (past ++ Seen sight ∷ []) c l kept old run.1 may.1 (λ e. so (sym (has_snoc i None past (Seen sight)) ∙ e)) (ap (has_after i) (append_assoc past (Seen sight ∷ []) items) ∙ has))
    where
      skip : (b : Bool) → AreLeft (left_over i l (moments_by k (moments_from c items))) (after_all items c) i →
          AreLeft (left_over i l (cond b (record { found = c; item = Seen sight } ∷ moments_by k (moments_from c items)) (moments_by k (moments_from c items)))) (after_all items c) i
      skip true rest = rest
      skip false rest = rest
  left_snoc k i other (Event entry ∷ items) past c l kept old run may so has =
      step
      (λ m now. left_snoc k i other items (past ++ Event entry ∷ []) (after entry.did c) m (after_kept c entry.did kept run.0) (old_after c entry.did kept run.0 old) run.1 may.1 now (ap (has_after i) (append_assoc past (Event entry ∷ []) items) ∙ has))
      (entry.by == k) refl (is_of_item i c (Event entry)) refl
    where
      known : Known c
      known = All-weaker (IsOld c) (λ e. e.pair.0 < next_pair c) (λ e o. o.within) c.attached old

      -- it is of no concern to the object
      passes : is_of_item i c (Event entry) ≡ false → has_after i (past ++ Event entry ∷ []) ≡ Some k → AreLeft l (after entry.did c) i
      passes none is =
          left_spared l c (after entry.did c) i old (others_spared i c kept known entry.did run.0 (untouched c kept entry.did run.0 i entry.by other none))
          (so (had_before entry.did entry.by k i (has_after i past) (sym (has_snoc i None past (Event entry)) ∙ is) (either_false (is_owner i (acts_in c entry.did)) (is_owner i (taken_in entry.did)) none).1))

      mine : (entry.by == k) ≡ false → Some entry.by ≡ Some k → ⊥
      mine apart e = never (sym apart ∙ eq-eqb entry.by k (some_is e))

      first : (a : Bool) → (a || false) ≡ true → a ≡ true
      first true e = refl
      first false e = absurd (never e)

      -- another caller acts for it, who has it then, or gives it away
      others : (t : Bool) → is_owner i (taken_in entry.did) ≡ t → (entry.by == k) ≡ false → is_of_item i c (Event entry) ≡ true →
          (if is_owner i (taken_in entry.did) then Some entry.by else (if is_owner i (given_up entry.did) then None else has_after i past)) ≡ Some k → ⊥
      others true e apart of now = mine apart (sym (ap (λ (x : Bool). if x then Some entry.by else (if is_owner i (given_up entry.did) then None else has_after i past)) e) ∙ now)
      others false e apart of now =
          let acts = first (is_owner i (acts_in c entry.did)) (sym (ap (λ (x : Bool). is_owner i (acts_in c entry.did) || x) e) ∙ of) in
          mine apart (sym (may.0.acts i (owned_by i (acts_in c entry.did) acts)) ∙ had_before entry.did entry.by k i (has_after i past) now e)

      step : ((m : Control) → (has_after i (past ++ Event entry ∷ []) ≡ Some k → AreLeft m (after entry.did c) i) → AreLeft (left_over i m (moments_by k (moments_from (after entry.did c) items))) (after_all items (after entry.did c)) i) →
          (b : Bool) → (entry.by == k) ≡ b → (o : Bool) → is_of_item i c (Event entry) ≡ o →
          AreLeft (left_over i l (cond b (record { found = c; item = Event entry } ∷ moments_by k (moments_from (after entry.did c) items)) (moments_by k (moments_from (after entry.did c) items)))) (after_all items (after entry.did c)) i
      step next true by_it true of =
          subst (λ (m : Control). AreLeft (left_over i m (moments_by k (moments_from (after entry.did c) items))) (after_all items (after entry.did c)) i) (sym (ap (λ (x : Bool). if x then after entry.did c else l) of))
          (next (after entry.did c) (λ e. left_now (after entry.did c) i))
      step next true by_it false of =
          subst (λ (m : Control). AreLeft (left_over i m (moments_by k (moments_from (after entry.did c) items))) (after_all items (after entry.did c)) i) (sym (ap (λ (x : Bool). if x then after entry.did c else l) of)) (next l (passes of))
      step next false apart true of = next l (λ e. absurd (others (is_owner i (taken_in entry.did)) refl apart of (sym (has_snoc i None past (Event entry)) ∙ e)))
      step next false apart false of = next l (passes of)
