-- What is over stays over: in each step of the rows, and so in each event.
use Rattle.std.specs.Prelude.{◌≡◌, ℕ, true, slice_set}
use Rattle.std.proofs.Common.{sym, ap, ◌∙◌, subst}
use Rattle.spec_control.specs.declared.stage.Stage.TheVariants.{Finished}
use Rattle.spec_control.specs.Stage.{has_ended}
use Rattle.spec_control.specs.Row.{Row, LinkEvent, link_may, link_after}
use Rattle.spec_control.specs.Rows.{Rows, obj, Step, makes_object, draws_pair, opens_pair, link_moves, pair_moves, object_ends}
use Rattle.control_laws.specs.Steps.{Steps, no_step, one_more}
use Rattle.run_laws.proofs.OverLemmas.{row_in, over_in, Wrote, here, as_before, wrote, pushed_stays, stays_ended}

link_stays : (s : Rows) (c : ℕ) (e : LinkEvent) (x : ℕ) → link_may e (obj s c) ≡ true → Wrote s.objects c (link_after e (obj s c)) x → over_in s.objects x ≡ true → has_ended (row_in (slice_set s.objects c (link_after e (obj s c))) x).stage ≡ true
link_stays s c e x may (here at now before) h =
    ap (λ (o : Row). has_ended o.stage) now ∙ stays_ended e (obj s c) may (ap (λ (o : Row). has_ended o.stage) (sym before) ∙ h)
link_stays s c e x may (as_before same) h = ap (λ (o : Row). has_ended o.stage) same ∙ h

finish_stays : (s : Rows) (c x : ℕ) → Wrote s.objects c (record (obj s c) { stage = Finished }) x → over_in s.objects x ≡ true → has_ended (row_in (slice_set s.objects c (record (obj s c) { stage = Finished })) x).stage ≡ true
finish_stays s c x (here at now before) h = ap (λ (o : Row). has_ended o.stage) now
finish_stays s c x (as_before same) h = ap (λ (o : Row). has_ended o.stage) same ∙ h

step_stays : (old new : Rows) → Step old new → (x : ℕ) → over_in old.objects x ≡ true → over_in new.objects x ≡ true
step_stays old new (makes_object w o unended owner alive fits e) x h = subst (λ (s : Rows). over_in s.objects x ≡ true) (sym e) (pushed_stays old.objects o x h)
step_stays old new (draws_pair p a b e) x h = subst (λ (s : Rows). over_in s.objects x ≡ true) (sym e) h
step_stays old new (opens_pair k a p moves u v e) x h = subst (λ (s : Rows). over_in s.objects x ≡ true) (sym e) h
step_stays old new (link_moves c event may e) x h =
    subst (λ (s : Rows). over_in s.objects x ≡ true) (sym e) (link_stays old c event x may (wrote old.objects c (link_after event (obj old c)) x) h)
step_stays old new (pair_moves k a event p other moves e) x h = subst (λ (s : Rows). over_in s.objects x ≡ true) (sym e) h
step_stays old new (object_ends c may e) x h =
    subst (λ (s : Rows). over_in s.objects x ≡ true) (sym e) (finish_stays old c x (wrote old.objects c (record (obj old c) { stage = Finished }) x) h)

pub steps_stay : (s t : Rows) → Steps s t → (x : ℕ) → over_in s.objects x ≡ true → over_in t.objects x ≡ true
steps_stay s t no_step x h = h
steps_stay s t (one_more m u steps step) x h = step_stays m t step x (steps_stay s m steps x h)
