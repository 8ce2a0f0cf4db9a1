-- Which objects end in the items of a control run.
use Rattle.std.specs.Prelude.{◌≡◌, ℕ, Bool, true, false, not, List, [], ◌∷◌, ◌++◌, refl}
use Rattle.std.specs.List.{AllByRecursion}
use Rattle.std.proofs.Common.{arith, sym, ap, ◌∙◌, subst, append-nil, append_assoc, true≢false}
use Rattle.zq_base.specs.declared.ids.ObjId.{ObjId}
use Rattle.spec_control.specs.declared.entry.Item.{Item}
use Rattle.spec_control.specs.declared.entry.Item.TheVariants.{Event, Seen}
use Rattle.spec_control.specs.Stage.{has_ended}
use Rattle.spec_control.specs.Rows.{obj}
use Rattle.spec_control.specs.Control.{Control, begun, id}
use Rattle.spec_control.specs.After.{after}
use Rattle.spec_control.specs.ControlRun.{FitsItem, after_item, after_all, IsControlRun}
use Rattle.control_laws.proofs.StepsLemmas.{events_are_steps}
use Rattle.run_laws.specs.EndOrder.{actor_of}
use Rattle.run_laws.proofs.OverLemmas.{over, is_over, ended_is, not_over, living_there}
use Rattle.run_laws.proofs.KeepLemmas.{Keeps}
use Rattle.run_laws.proofs.EventLemmas.{EventOut, none_ends, one_ends}
use Rattle.run_laws.proofs.StayLemmas.{steps_stay}
use Rattle.run_laws.proofs.OrderLemmas.{more_run, more_state, run_event_out}
use Rattle.core_laws.specs.EndedRows.{is_living, just_ended, ended_in, ended_over, ActorLives, EndedGoesOn}

-- ---- one event

kept_none : (b : ℕ) (c d : Control) → Keeps c d → just_ended b c d ≡ []
kept_none b c d k = by (has_ended (obj c.rows b).stage) refl (has_ended (obj d.rows b).stage) refl
  where
    by : (x : Bool) → has_ended (obj c.rows b).stage ≡ x → (y : Bool) → has_ended (obj d.rows b).stage ≡ y → just_ended b c d ≡ []
    by true e y f = rw e refl
    by false e true f =
        let here = living_there c.rows.objects b e in
        let grows = k.grows in
        let was = k.lives b (is_over d.rows.objects b (omega (arith, here, grows)) f) in
        absurd (true≢false (sym was ∙ not_over c.rows.objects b e))
    by false e false f = rw (e, f) refl

event_ended : (b : ℕ) (c d : Control) → EventOut b c d → d.ended ≡ c.ended ++ just_ended b c d
event_ended b c d (none_ends k) = k.ended ∙ sym (append-nil c.ended) ∙ ap (λ (l : List ObjId). c.ended ++ l) (sym (kept_none b c d k))
event_ended b c d (one_ends k lives) = k.ended ∙ ap (λ (l : List ObjId). c.ended ++ l) (sym now)
  where
    now : just_ended b c d ≡ id b ∷ []
    now = rw (lives, ended_is d.rows.objects b k.now) refl

-- ---- who lives did not end

living_not_over : (c : Control) (i : ℕ) → is_living c i ≡ true → over c i ≡ true → ⊥
living_not_over c i lives h = true≢false (sym lives ∙ ap not (ended_is c.rows.objects i h))

one_lives : (b : ℕ) (c d : Control) → EventOut b c d → (over d b ≡ true → ⊥) → d.ended ≡ c.ended
one_lives b c d (none_ends k) lives = k.ended
one_lives b c d (one_ends k was) lives = absurd (lives k.now)

-- ---- a run

module _ {N S : Type 0} where
  item_ended : (workers : ℕ) (past : List (Item N S)) (item : Item N S) → IsControlRun (begun workers) past → let c = after_all past (begun workers) in IsControlRun c (item ∷ [])
      → (after_item item c).ended ≡ c.ended ++ ended_in item c (after_item item c)
  item_ended workers past (Event entry) run fits =
      let c = after_all past (begun workers) in
      event_ended (actor_of entry.did) c (after entry.did c) (run_event_out workers past entry.did run fits.0)
  item_ended workers past (Seen sight) run fits = sym (append-nil (after_all past (begun workers)).ended)

  run_ended : (workers : ℕ) (more past : List (Item N S)) → IsControlRun (begun workers) past → let c = after_all past (begun workers) in IsControlRun c more
      → (after_all more c).ended ≡ c.ended ++ ended_over c more
  run_ended workers [] past before run = sym (append-nil (after_all past (begun workers)).ended)
  run_ended workers (item ∷ more) past before run =
      let c = after_all past (begun workers) in
      let d = after_item item c in
      let same : after_all (past ++ item ∷ []) (begun workers) ≡ d = more_state past item (begun workers) in
      let rest : (after_all more d).ended ≡ d.ended ++ ended_over d more =
      subst (λ (e : Control). (after_all more e).ended ≡ e.ended ++ ended_over e more) same
      (run_ended workers more (past ++ item ∷ []) (more_run past item (begun workers) before run.0) (subst (λ (e : Control). IsControlRun e more) (sym same) run.1)) in
      rest ∙ ap (λ (l : List ObjId). l ++ ended_over d more) (item_ended workers past item before (run.0, tt)) ∙ append_assoc c.ended (ended_in item c d) (ended_over d more)

  -- ---- where who might have ended lives

  -- who has ended stays so
  run_stays : (workers : ℕ) (more past : List (Item N S)) → IsControlRun (begun workers) past → let c = after_all past (begun workers) in IsControlRun c more
      → (i : ℕ) → over c i ≡ true → over (after_all more c) i ≡ true
  run_stays workers [] past before run i h = h
  run_stays workers (Event entry ∷ more) past before run i h =
      let c = after_all past (begun workers) in
      let d = after entry.did c in
      let same : after_all (past ++ Event entry ∷ []) (begun workers) ≡ d = more_state past (Event entry) (begun workers) in
      let now = steps_stay c.rows d.rows (events_are_steps _ _ workers past before entry.did run.0) i h in
      subst (λ (e : Control). over (after_all more e) i ≡ true) same
      (run_stays workers more (past ++ Event entry ∷ []) (more_run past (Event entry) (begun workers) before run.0) (subst (λ (e : Control). IsControlRun e more) (sym same) run.1) i (subst (λ (e : Control). over e i ≡ true) (sym same) now))
  run_stays workers (Seen sight ∷ more) past before run i h =
      let c = after_all past (begun workers) in
      let same : after_all (past ++ Seen sight ∷ []) (begun workers) ≡ c = more_state past (Seen sight) (begun workers) in
      subst (λ (e : Control). over (after_all more e) i ≡ true) same
      (run_stays workers more (past ++ Seen sight ∷ []) (more_run past (Seen sight) (begun workers) before run.0) (subst (λ (e : Control). IsControlRun e more) (sym same) run.1) i (subst (λ (e : Control). over e i ≡ true) (sym same) h))

  run_none : (workers : ℕ) (more past : List (Item N S)) → IsControlRun (begun workers) past → let c = after_all past (begun workers) in IsControlRun c more
      → (f : Control) → after_all more c ≡ f → AllByRecursion (ActorLives f) more → f.ended ≡ c.ended
  run_none workers [] past before run f is all = ap (λ (e : Control). e.ended) (sym is)
  run_none workers (item ∷ more) past before run f is all =
      let c = after_all past (begun workers) in
      let d = after_item item c in
      let same : after_all (past ++ item ∷ []) (begun workers) ≡ d = more_state past item (begun workers) in
      let longer = more_run past item (begun workers) before run.0 in
      let further = subst (λ (e : Control). IsControlRun e more) (sym same) run.1 in
      let rest : f.ended ≡ d.ended =
      subst (λ (e : Control). f.ended ≡ e.ended) same (run_none workers more (past ++ item ∷ []) longer further f (ap (after_all more) same ∙ is) all.1) in
      rest ∙ by item run.0 all.0 (λ i h. subst (λ (e : Control). over e i ≡ true) (ap (after_all more) same ∙ is) (run_stays workers more (past ++ item ∷ []) longer further i (subst (λ (e : Control). over e i ≡ true) (sym same) h)))
    where
      by : (x : Item N S) → FitsItem (after_all past (begun workers)) x → ActorLives f x → ((i : ℕ) → over (after_item x (after_all past (begun workers))) i ≡ true → over f i ≡ true)
          → (after_item x (after_all past (begun workers))).ended ≡ (after_all past (begun workers)).ended
      by (Event entry) fits lives stays =
          let c = after_all past (begun workers) in
          one_lives (actor_of entry.did) c (after entry.did c) (run_event_out workers past entry.did before fits) (λ h. living_not_over f (actor_of entry.did) lives (stays (actor_of entry.did) h))
      by (Seen sight) fits lives stays = refl

pub ended_goes_on : (N S : Type 0) → EndedGoesOn N S
ended_goes_on N S = record {
  more = λ workers items more run further. run_ended workers more items run further;
  none = λ workers items more run further all. run_none workers more items run further _ refl all;
}
