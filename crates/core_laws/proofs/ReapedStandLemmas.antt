-- What stands goes on over a call of the reaper.
use Rattle.std.specs.Prelude.{◌≡◌, ◌<◌, ◌++◌, ◌∷◌, [], true, List, Some, flat_map, map}
use Rattle.std.specs.List.{AllByRecursion}
use Rattle.std.proofs.Common.{arith, sym, ap, ◌∙◌, subst}
use Rattle.std.proofs.lemmas.List.Elements.{All-nil}
use Rattle.zq_base.specs.Ends.{PipeId}
use Rattle.msg_pipe.specs.Known.{Known}
use Rattle.spec_pattern.specs.PipeStep.{PipeStep}
use Rattle.spec_control.specs.Control.{Control, begun, next_pair}
use Rattle.spec_control.specs.ControlRun.{after_all, IsControlRun}
use Rattle.spec_control.specs.Names.{name_of}
use Rattle.spec_control.specs.Moments.{Moment, moments_from}
use Rattle.desk.specs.declared.given.Given.{Given}
use Rattle.ctl_plane.specs.Past.{control_of}
use Rattle.desk.specs.Desk.{CountsWith}
use Rattle.spec_run.specs.Act.{steps_in}
use Rattle.spec_run.specs.Event.{acts_said}
use Rattle.end_table.specs.declared.changes.PipeChange.{PipeChange}
use Rattle.socket_laws.specs.Standing.{PastStands}
use Rattle.socket_laws.specs.Asked.{WereAsked}
use Rattle.socket_laws.specs.Changes.{IsOfPipes}
use Rattle.socket_laws.specs.Said.{sealed_with}
use Rattle.closed_ends.specs.declared.sockets.ClosedSockets.{ClosedSockets}
use Rattle.closed_ends.specs.Counting.{counts_of}
use Rattle.closed_ends.specs.Finding.{came_given}
use Rattle.closed_ends.specs.Has.{all_ends, holding_in}
use Rattle.closed_ends.specs.Noted.{first_places, sealed_ends}
use Rattle.core_laws.specs.ReaperCalls.{came_since, told_since, ReaperCallsGoOn, ReaperChanges}
use Rattle.core_laws.specs.Counts.{ReaperCountsGoOn}
use Rattle.core_laws.specs.Moves.{EndsGoOn, ReaperChangesAreOfPipes}
use Rattle.core_laws.specs.Sealed.{AllAsked, ReaperEndsWereAsked}
use Rattle.plain_desk.specs.Lent.{moments_of, GrowsBy, IsOneOrder, Lent}
use Rattle.core_laws.specs.Ends.{ReaperCallsStand, ReaperDid, ReaperGoesOn, ReaperStands}
use Rattle.core_laws.specs.However.{ReaperCallsStandHowever}
use Rattle.core_laws.proofs.CountedLemmas.{counts_on}
use Rattle.core_laws.proofs.EndLemmas.{goes_on, no_came}
use Rattle.core_laws.proofs.HowLemmas.{came_how, goes_however, since_are}
use Rattle.core_laws.proofs.GrowLemmas.{leads_to, runs_on}
use Rattle.core_laws.proofs.LedLemmas.{same_pairs}

module _ {S O I N T : Type 0} (K : Known S O I N) (go : ReaperCallsGoOn K T) (of : ReaperChangesAreOfPipes K T) (asked : ReaperEndsWereAsked K T) (count : ReaperCountsGoOn K T)
    (old new : Lent (Given N O I) N T) (before behind : S) (from to : ClosedSockets N O I) (changes : List (PipeChange O I × S)) (did : ReaperDid K old new before behind from to changes)
    (goes : ReaperGoesOn K old new did.call from to) (gs : List (Given N O I)) (came : to.came.items ≡ from.came.items ++ map (came_given K.in_name) gs) (brought : AllAsked (control_of old.past) gs) (made : (p : PipeId) (n : N) → name_of old.items p ≡ Some n → p.pair.0 < next_pair (control_of old.past)) (were : AllAsked (control_of old.past) (all_ends from.sockets.items)) where
  abbrev found : Control
  found = after_all old.items (begun old.past.workers)

  abbrev grows : GrowsBy old new
  grows = did.call.grows

  abbrev led : Control
  led = after_all grows.more found

  abbrev ms : List (Moment N T)
  ms = moments_from found grows.more

  was_order : IsOneOrder old
  was_order = did.call.before

  order : IsOneOrder new
  order = did.call.behind

  run : IsControlRun (begun old.past.workers) old.items
  run = (let all = was_order.order in all.run)

  on : IsControlRun found grows.more
  on = runs_on old new order grows

  left : control_of new.past ≡ after_all grows.more found
  left = leads_to old new order grows

  told : told_since from to ≡ sealed_with ms
  told = goes.told ∙ ap (λ (x : Control). sealed_with (moments_from x grows.more)) was_order.control

  ends : EndsGoOn K.in_name found led from to
  ends = subst (λ (a : Control). EndsGoOn K.in_name a led from to) was_order.control (subst (λ (b : Control). EndsGoOn K.in_name (control_of old.past) b from to) left goes.ends)

  of_pipes : AllByRecursion (λ x. IsOfPipes found led x.0) changes
  of_pipes = of old.past.workers old.items grows.more run on did.call.few from to before behind changes ends did.done told

  both : WereAsked found (sealed_ends (first_places K.in_name from (map (came_given K.in_name) gs))) × AllAsked led (all_ends to.sockets.items)
  both = asked old.past.workers old.items grows.more run on from to before behind changes gs did.done came told (subst (λ (x : Control). AllAsked x (all_ends from.sockets.items)) was_order.control were)
      (subst (λ (x : Control). AllAsked x gs) was_order.control brought)

  change : ReaperChanges K found led (name_of old.items) (name_of new.items) ms from to before behind
  change = record {
    names_same = goes.names;
    names_made = λ p n at. subst (λ (x : Control). p.pair.0 < next_pair x) was_order.control (made p n at);
    changes = changes;
    done = did.done;
    named = goes.named;
    of_pipes = of_pipes;
    grown = told;
  }

  at_first : WereAsked found (sealed_ends (first_places K.in_name from (came_since from to)))
  at_first = subst (λ l. WereAsked found (sealed_ends (first_places K.in_name from l))) (sym (since_are K from to gs came)) both.0

  same_ms : moments_from (control_of old.past) grows.more ≡ ms
  same_ms = ap (λ (x : Control). moments_from x grows.more) was_order.control

  past_on : (past : List PipeStep) → PastStands K (control_of old.past) (name_of old.items) before past → PastStands K (control_of new.past) (name_of new.items) behind (past ++ steps_in (flat_map acts_said (moments_from (control_of old.past) grows.more)))
  past_on past stands =
      subst (λ (l : List (Moment N T)). PastStands K (control_of new.past) (name_of new.items) behind (past ++ steps_in (flat_map acts_said l))) (sym same_ms)
      (subst (λ (x : Control). PastStands K x (name_of new.items) behind (past ++ steps_in (flat_map acts_said ms))) (sym left)
      (go old.past.workers old.items grows.more run on (name_of old.items) (name_of new.items) from to before behind past change at_first
      (subst (λ (x : Control). PastStands K x (name_of old.items) before past) was_order.control stands)).0)

  names_made : (p : PipeId) (n : N) → name_of new.items p ≡ Some n → p.pair.0 < next_pair (control_of new.past)
  names_made p n at =
      let was = made p n (sym (goes.names p) ∙ at) in
      let same = same_pairs old new did.call in
      omega (arith, was, same)

  pub call_stands : CountsWith K.out_name (λ e writer. counts_of K before from.sockets.items e writer) (moments_of old) (moments_of new) (holding_in K.out_name K.in_name from) → ReaperStands K old new did.call before behind to
  call_stands counts = record {
    past = past_on;
    names_made = names_made;
    asked = subst (λ (x : Control). AllAsked x (all_ends to.sockets.items)) (sym left) both.1;
    counted = λ past stands counted. counts_on K count old new before behind from to changes did counts past stands counted;
  }

pub reaper_calls_stand : {S O I N : Type 0} (K : Known S O I N) (T : Type 0) → ReaperCallsGoOn K T → ReaperChangesAreOfPipes K T → ReaperEndsWereAsked K T → ReaperCountsGoOn K T → ReaperCallsStand K T
reaper_calls_stand {O = O} {I} {N} K T go of asked count old new before behind from to changes did none made were counts =
    call_stands K go of asked count old new before behind from to changes did (goes_on K old new before behind from to changes did none) []
    (did.came_are ∙ ap (λ l. from.came.items ++ l) (no_came K old new before behind from to changes did none)) (All-nil (λ (g : Given N O I). g.sealed ≡ true → WereAsked (control_of old.past) (g.end ∷ []))) made were counts

pub reaper_calls_stand_however : {S O I N : Type 0} (K : Known S O I N) (T : Type 0) → ReaperCallsGoOn K T → ReaperChangesAreOfPipes K T → ReaperEndsWereAsked K T → ReaperCountsGoOn K T → ReaperCallsStandHowever K T
reaper_calls_stand_however K T go of asked count old new before behind from to changes did way how made were given counts =
    let came = came_how K old new before behind from to changes did way given how in
    call_stands K go of asked count old new before behind from to changes did (goes_however K old new before behind from to changes did way how) came.ends came.are came.asked made were counts
