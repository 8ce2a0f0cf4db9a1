-- What stands goes on over a call of the reaper, however its item brought ends.
use Rattle.std.specs.Prelude.{◌≡◌, ◌<◌, ◌++◌, List, [], Some, flat_map}
use Rattle.std.proofs.Common.{sym, ap, ◌∙◌, subst}
use Rattle.std.proofs.Math.Logic.{∥∥₁_elim, ∥∥₁_map}
use Rattle.zq_base.specs.Ends.{PipeId}
use Rattle.msg_pipe.specs.Known.{Known}
use Rattle.spec_pattern.specs.PipeStep.{AreExact, PipeStep}
use Rattle.spec_control.specs.Control.{Control, begun, next_pair}
use Rattle.spec_control.specs.ControlRun.{after_all, IsControlRun}
use Rattle.spec_control.specs.Names.{name_of}
use Rattle.spec_control.specs.Moments.{moments_from}
use Rattle.desk.specs.declared.given.Given.{Given}
use Rattle.ctl_plane.specs.Past.{control_of}
use Rattle.desk.specs.Desk.{CountsWith}
use Rattle.spec_run.specs.Act.{steps_in}
use Rattle.spec_run.specs.Event.{acts_said, seals_in}
use Rattle.spec_run.specs.OwnedRun.{pipe_capacity, settlement_of}
use Rattle.end_table.specs.declared.changes.PipeChange.{PipeChange}
use Rattle.socket_laws.specs.Past.{PastStaysOver}
use Rattle.socket_laws.specs.Standing.{goes_in, unless_settled, PastStands}
use Rattle.socket_laws.proofs.ChangeLemmas.{goes_said}
use Rattle.socket_laws.proofs.SettledLemmas.{settled_stay}
use Rattle.closed_ends.specs.declared.sockets.ClosedSockets.{ClosedSockets}
use Rattle.closed_ends.specs.Counting.{counts_of}
use Rattle.closed_ends.specs.Has.{holding_in}
use Rattle.core_laws.specs.ReaperCalls.{ReaperCallsGoOn}
use Rattle.core_laws.specs.Counts.{ReaperCountsGoOn}
use Rattle.core_laws.specs.Moves.{ReaperChangesAreOfPipes}
use Rattle.core_laws.specs.Sealed.{ReaperEndsWereAsked}
use Rattle.core_laws.proofs.SealedLemmas.{asked_prop}
use Rattle.core_laws.proofs.StillLemmas.{only_seals, still_stands}
use Rattle.plain_desk.specs.Lent.{moments_of, GrowsBy, IsOneOrder, Lent}
use Rattle.core_laws.specs.Arriving.{ReaperCallsStandSo, ReaperGoesSo}
use Rattle.core_laws.specs.Ends.{ReaperDid, ReaperStands}
use Rattle.core_laws.proofs.ArriveLemmas.{reaper_came_so}
use Rattle.core_laws.proofs.CountedLemmas.{counts_on}
use Rattle.core_laws.proofs.EndLemmas.{same_names}
use Rattle.core_laws.proofs.GrowLemmas.{leads_to, runs_on}
use Rattle.core_laws.proofs.HowLemmas.{reaper_ends_go_on_however}
use Rattle.core_laws.proofs.ReapedStandLemmas.{reaper_calls_stand_however}
use native.Mathlib.Bridge.{le_prop}

module _ {S O I N T : Type 0} (K : Known S O I N) (count : ReaperCountsGoOn K T) (over : PastStaysOver K N T)
    (one_out : (s : S) (o p : O) → K.out_name o ≡ K.out_name p → K.writing s o ≡ K.writing s p) (one_in : (s : S) (i j : I) → K.in_name i ≡ K.in_name j → K.reading s i ≡ K.reading s j)
    (old new : Lent (Given N O I) N T) (before behind : S) (from to : ClosedSockets N O I) (changes : List (PipeChange O I × S)) (did : ReaperDid K old new before behind from to changes)
    (made : (p : PipeId) (n : N) → name_of old.items p ≡ Some n → p.pair.0 < next_pair (control_of old.past)) (some : ∥ ReaperStands K old new did.call before behind to ∥₁) where
  abbrev found : Control
  found = after_all old.items (begun old.past.workers)

  abbrev grows : GrowsBy old new
  grows = did.call.grows

  was_order : IsOneOrder old
  was_order = did.call.before

  order : IsOneOrder new
  order = did.call.behind

  run : IsControlRun (begun old.past.workers) old.items
  run = (let all = was_order.order in all.run)

  left : control_of new.past ≡ after_all grows.more found
  left = leads_to old new order grows

  -- a pipe that goes by its name did so before
  still : (p : PipeId) (n : N) → goes_in (control_of new.past) (name_of new.items) p ≡ Some n → goes_in (control_of old.past) (name_of old.items) p ≡ Some n
  still p n e =
      let s = goes_said (control_of new.past) (name_of new.items) p n e in
      let was = settled_stay grows.more found p (ap (λ (x : Control). settlement_of x p) (sym left) ∙ s.0) in
      ap (λ x. unless_settled x (name_of old.items p)) (ap (λ (x : Control). settlement_of x p) was_order.control ∙ was)
      ∙ (sym (same_names K old new before behind from to changes did p) ∙ s.1)

  exact : (past : List PipeStep) → PastStands K (control_of old.past) (name_of old.items) before past → AreExact (pipe_capacity (control_of new.past)) [] past
  exact past stands =
      let was = subst (λ (x : Control). PastStands K x (name_of old.items) before past) was_order.control stands in
      subst (λ (x : Control). AreExact (pipe_capacity x) [] past) (sym left)
      (over old.past.workers old.items grows.more run (runs_on old new order grows) (goes_in found (name_of old.items)) before past
      (λ p n g. subst (λ (x : Control). p.pair.0 < next_pair x) was_order.control (made p n (goes_said found (name_of old.items) p n g).1)) was.made was.past_is).exact

  past_on : (past : List PipeStep) → PastStands K (control_of old.past) (name_of old.items) before past → PastStands K (control_of new.past) (name_of new.items) behind (past ++ steps_in (flat_map acts_said (moments_from (control_of old.past) grows.more)))
  past_on past stands =
      let ms = moments_from (control_of old.past) grows.more in
      subst (λ (l : List PipeStep). PastStands K (control_of new.past) (name_of new.items) behind (past ++ l)) (sym (only_seals ms))
      (still_stands K one_out one_in (control_of old.past) (control_of new.past) (name_of old.items) (name_of new.items) before behind past (flat_map seals_in ms) still stands (exact past stands)
      (∥∥₁_map some (λ r. subst (λ (l : List PipeStep). PastStands K (control_of new.past) (name_of new.items) behind (past ++ l)) (only_seals ms) (r.past past stands))))

  pub stands_so : CountsWith K.out_name (λ e writer. counts_of K before from.sockets.items e writer) (moments_of old) (moments_of new) (holding_in K.out_name K.in_name from) → ReaperStands K old new did.call before behind to
  stands_so counts = record {
    past = past_on;
    names_made = λ p n at. ∥∥₁_elim some (Prim.hlevel le_prop) (λ r. r.names_made p n at);
    asked = λ k d lt sealed. ∥∥₁_elim some (asked_prop (control_of new.past) _) (λ r. r.asked k d lt sealed);
    counted = λ past stands counted. counts_on K count old new before behind from to changes did counts past stands counted;
  }

pub reaper_goes_so : {S O I N : Type 0} (K : Known S O I N) (T : Type 0) → ReaperGoesSo K T
reaper_goes_so K T old new before behind from to changes did way serves =
    ∥∥₁_map (reaper_came_so K T old new before behind from to changes did serves) (λ how. reaper_ends_go_on_however K T old new before behind from to changes did way how)

pub reaper_calls_stand_so : {S O I N : Type 0} (K : Known S O I N) (T : Type 0) → ((s : S) (o p : O) → K.out_name o ≡ K.out_name p → K.writing s o ≡ K.writing s p)
    → ((s : S) (i j : I) → K.in_name i ≡ K.in_name j → K.reading s i ≡ K.reading s j) → ReaperCallsGoOn K T → ReaperChangesAreOfPipes K T → ReaperEndsWereAsked K T → ReaperCountsGoOn K T → PastStaysOver K N T → ReaperCallsStandSo K T
reaper_calls_stand_so K T one_out one_in go of asked count over old new before behind from to changes did way serves made were given counts =
    stands_so K count over one_out one_in old new before behind from to changes did made
    (∥∥₁_map (reaper_came_so K T old new before behind from to changes did serves) (λ how. reaper_calls_stand_however K T go of asked count old new before behind from to changes did way how made were given counts)) counts
