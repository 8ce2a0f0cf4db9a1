-- Settled pipes have their counts behind a call of the reaper.
use Rattle.std.specs.Prelude.{◌≡◌, ◌≤◌, ◌++◌, ◌∷◌, [], List, flat_map, length, refl}
use Rattle.std.proofs.Common.{arith, sym, ap, ◌∙◌, subst}
use Rattle.std.proofs.lemmas.List.{append-nil}
use Rattle.msg_pipe.specs.Known.{Known}
use Rattle.spec_pattern.specs.PipeStep.{PipeStep}
use Rattle.spec_control.specs.declared.entry.Item.{Item}
use Rattle.spec_control.specs.Control.{Control, begun}
use Rattle.spec_control.specs.ControlRun.{after_all, after_item, IsControlRun}
use Rattle.spec_control.specs.Names.{name_of}
use Rattle.spec_control.specs.Moments.{Moment, moments_from}
use Rattle.desk.specs.declared.given.Given.{Given}
use Rattle.desk.specs.Lent.{HasAll}
use Rattle.ctl_plane.specs.Past.{control_of}
use Rattle.desk.specs.Desk.{CountsWith}
use Rattle.spec_run.specs.Act.{Act, steps_in}
use Rattle.spec_run.specs.Event.{acts_said}
use Rattle.spec_run.specs.OwnedRun.{AreCountedBy}
use Rattle.end_table.specs.declared.changes.PipeChange.{PipeChange}
use Rattle.socket_laws.specs.Standing.{PastStands}
use Rattle.closed_ends.specs.declared.sockets.ClosedSockets.{ClosedSockets}
use Rattle.closed_ends.specs.Counting.{counts_of}
use Rattle.closed_ends.specs.Has.{holding_in}
use Rattle.core_laws.specs.Counts.{ReaperCountsGoOn}
use Rattle.plain_desk.specs.Lent.{moments_of, GrowsBy, IsOneOrder, Lent}
use Rattle.socket_laws.proofs.LastLemmas.{grown}
use Rattle.core_laws.specs.Ends.{ReaperDid}
use Rattle.core_laws.proofs.ReapedComingLemmas.{has_now}
use Rattle.core_laws.proofs.GrowLemmas.{leads_to, runs_on}

module _ {S O I N T : Type 0} (K : Known S O I N) (count : ReaperCountsGoOn K T)
    (old new : Lent (Given N O I) N T) (before behind : S) (from to : ClosedSockets N O I) (changes : List (PipeChange O I × S)) (did : ReaperDid K old new before behind from to changes)
    (counts : CountsWith K.out_name (λ e writer. counts_of K before from.sockets.items e writer) (moments_of old) (moments_of new) (holding_in K.out_name K.in_name from))
    (past : List PipeStep) (stands : PastStands K (control_of old.past) (name_of old.items) before past) (counted : AreCountedBy past (control_of old.past).settlements) where
  abbrev found : Control
  found = after_all old.items (begun old.past.workers)

  abbrev grows : GrowsBy old new
  grows = did.call.grows

  was_order : IsOneOrder old
  was_order = did.call.before

  order : IsOneOrder new
  order = did.call.behind

  run : IsControlRun (begun old.past.workers) old.items
  run = (let all = was_order.order in all.run)

  on : IsControlRun found grows.more
  on = runs_on old new order grows

  has_found : HasAll (name_of old.items) found (holding_in K.out_name K.in_name from)
  has_found = subst (λ (x : Control). HasAll (name_of old.items) x (holding_in K.out_name K.in_name from)) was_order.control (has_now K old was_order before from did.was_sound did.has)

  counts_more : (xs : List (Item N T)) → grows.more ≡ xs → length xs ≤ 1 → AreCountedBy (past ++ steps_in (flat_map acts_said (moments_from found xs))) (after_all xs found).settlements
  counts_more [] e few = subst (λ (l : List PipeStep). AreCountedBy l found.settlements) (sym (append-nil past)) (subst (λ (x : Control). AreCountedBy past x.settlements) was_order.control counted)
  counts_more (x ∷ []) e few =
      let m : Moment N T = record { found = found; item = x } in
      let one = grown old new grows ∙ ap (λ (xs : List (Item N T)). moments_of old ++ moments_from found xs) e in
      subst (λ (l : List (Act N T)). AreCountedBy (past ++ steps_in l) (after_item x found).settlements) (sym (append-nil (acts_said m)))
      (count old.past.workers old.items x run (subst (IsControlRun found) e on).0 (name_of old.items) before from did.was_sound has_found (counts m one) past
      (subst (λ (y : Control). PastStands K y (name_of old.items) before past) was_order.control stands) (subst (λ (y : Control). AreCountedBy past y.settlements) was_order.control counted))
  counts_more (x ∷ y ∷ ys) e few = absurd (omega (arith, few))

  pub counts_on : AreCountedBy (past ++ steps_in (flat_map acts_said (moments_from (control_of old.past) did.call.grows.more))) (control_of new.past).settlements
  counts_on =
      subst (λ (x : Control). AreCountedBy (past ++ steps_in (flat_map acts_said (moments_from x grows.more))) (control_of new.past).settlements) (sym was_order.control)
      (subst (λ (x : Control). AreCountedBy (past ++ steps_in (flat_map acts_said (moments_from found grows.more))) x.settlements) (sym (leads_to old new order grows)) (counts_more grows.more refl did.call.few))
