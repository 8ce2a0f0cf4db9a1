-- The worked run by events is one, and its journal is the one by hand.
use Rattle.std.specs.Prelude.{ℕ, [], ◌∷◌, Some, codes, take, drop, refl}
use Rattle.std.proofs.Common.{arith}
use Rattle.zq_base.specs.declared.kind.Kind.TheVariants.{Pull}
use Rattle.spec_control.specs.declared.request.Reply.TheVariants.{Object, Asked}
use Rattle.spec_control.specs.Control.{begun, id}
use Rattle.spec_control.specs.ControlRun.{IsControlRun}
use Rattle.spec_control.specs.Names.{AreNamed}
use Rattle.spec_control.specs.ControlExamples.{Stories}
use Rattle.spec_control.specs.Has.{AreBy}
use Rattle.spec_control.proofs.TrialLemmas.{none, acts, takes, of_root}
use Rattle.spec_run.specs.declared.script.Call.TheVariants as call
use Rattle.spec_run.specs.declared.answer.Answer.TheVariants as answer
use Rattle.spec_run.specs.TextParts.{options_with}
use Rattle.spec_control.specs.Moments.{moments_from}
use Rattle.spec_run.specs.Act.{Said}
use Rattle.spec_run.specs.Event.{TakesLetter}
use Rattle.spec_run.specs.Worker.{roles, AsksTheRoot}
use Rattle.spec_run.specs.OwnedRun.{IsRun, every_pipe, AllWork, AreTold, pipe_capacity, control_at_end, all_steps}
use Rattle.spec_run.specs.OpenSocket.{new_open}
use Rattle.spec_run.specs.Standing.{ActorStanding, standing_before, DoesTry}
use Rattle.spec_run.specs.ExampleParts.{moment, over_at, line_nr}
use Rattle.spec_run.specs.ClosingExample.{closing_script, closing_journal}
use Rattle.spec_run.specs.CoreEvents.{IsOfEvents, IsEventsJournal}
use Rattle.spec_run.specs.EventsExample.{closing_events, events_order, events_made, events_run}
use Rattle.spec_run.proofs.CapacityLemmas.{looks_in}
use Rattle.spec_run.proofs.PlainLemmas.{never}

abbrev event_made : Stories → ActorStanding
event_made stories = record { lines = line_nr 3 (call.Close 0) ∷ []; tried = 0; told = []; mine = record { names = Some 1 ∷ []; socks = new_open (moment (events_order stories) 0) 1 Pull (options_with 1000) ∷ [] } }

abbrev event_closed : ActorStanding
event_closed = record { lines = []; tried = 0; told = []; mine = record { names = Some 1 ∷ []; socks = [] } }

events_control : (stories : Stories) → IsControlRun (begun 1) (events_order stories)
events_control stories = (record { may = (tt, refl); answered = record { joined = refl; kinds = tt; opened = refl; settled = refl; output = refl } }, (record { may = (record { socket = refl; open_still = refl; lives = refl }, refl); answered = record { joined = refl; kinds = tt; opened = refl; settled = refl; output = refl } }, (record { may = record { behind = _; oldest = refl; held = refl }; answered = record { joined = refl; kinds = tt; opened = refl; settled = refl; output = λ h. absurd (never h) } }, (record { may = (tt, refl); answered = record { joined = refl; kinds = tt; opened = refl; settled = refl; output = refl } }, (record { may = record { behind = _; oldest = refl; held = refl }; answered = record { joined = refl; kinds = tt; opened = refl; settled = refl; output = λ h. absurd (never h) } }, (record { may = record { behind = _; oldest = refl; held = refl }; answered = record { joined = refl; kinds = tt; opened = refl; settled = refl; output = λ h. absurd (never h) } }, tt))))))

makes : (stories : Stories) → DoesTry (standing_before (record { name = codes "a"; lines = line_nr 2 (call.Socket Pull (options_with 1000)) ∷ line_nr 3 (call.Close 0) ∷ [] })) (over_at (line_nr 2 (call.Socket Pull (options_with 1000))) [] (Said (moment (events_order stories) 0) ∷ []) (answer.Object (id 1))) (event_made stories)
makes stories = record { rest = _; mine = _; lines_are = refl; does = record { reply = Object (id 1); made = moment (events_order stories) 0; request = record { by = 0; answered = _; item_is = refl }; no_pump = record { pump_is = refl; skips_are = refl }; call_is = refl; answer_is = refl; new_is = refl }; told_is = refl; over_is = refl; new_is = refl }

closes : (stories : Stories) → DoesTry (event_made stories) (over_at (line_nr 3 (call.Close 0)) [] (Said (moment (events_order stories) 1) ∷ []) answer.Done) event_closed
closes stories = record { rest = _; mine = _; lines_are = refl; does = record { no_pump = record { pump_is = refl; skips_are = refl }; closes = record { closed = moment (events_order stories) 1; request = record { by = 0; answered = _; item_is = refl }; acts_are = refl; new_is = refl }; answer_is = refl }; told_is = refl; over_is = refl; new_is = refl }

abbrev takes_reap : (stories : Stories) → TakesLetter 0 (Said (moment (events_order stories) 2) ∷ [])
takes_reap stories = record { taken = moment (events_order stories) 2; letter = _; looks = []; delivery = record { by = 1; answered = _; item_is = refl }; behind = refl; acts_are = refl }

abbrev takes_term : (stories : Stories) → TakesLetter 2 (Said (moment (events_order stories) 4) ∷ [])
takes_term stories = record { taken = moment (events_order stories) 4; letter = _; looks = []; delivery = record { by = 1; answered = _; item_is = refl }; behind = refl; acts_are = refl }

abbrev takes_ack : (stories : Stories) → TakesLetter 0 (Said (moment (events_order stories) 5) ∷ [])
takes_ack stories = record { taken = moment (events_order stories) 5; letter = _; looks = []; delivery = record { by = 1; answered = _; item_is = refl }; behind = refl; acts_are = refl }

asks : (stories : Stories) → AsksTheRoot (Said (moment (events_order stories) 3) ∷ [])
asks stories = record { reply = Asked; asked = moment (events_order stories) 3; request = record { by = 3; answered = _; item_is = refl }; acts_are = refl }

of_events : (stories : Stories) → IsOfEvents closing_script 1 closing_events (events_run stories)
of_events stories = record {
  made = events_made stories;
  standings = event_closed ∷ [];
  go = (event_made stories ∷ [], take 1 (drop 0 (events_made stories)), drop 1 (events_made stories), record { deed = _; next = event_made stories; step = makes stories; made_is = refl; new_is = refl }, (event_made stories ∷ [], take 0 (drop 1 (events_made stories)), drop 1 (events_made stories), (refl, refl), (event_made stories ∷ [], take 0 (drop 1 (events_made stories)), drop 1 (events_made stories), (refl, refl), (event_closed ∷ [], take 1 (drop 1 (events_made stories)), drop 2 (events_made stories), record { deed = _; next = event_closed; step = closes stories; made_is = refl; new_is = refl }, (event_closed ∷ [], take 1 (drop 2 (events_made stories)), drop 3 (events_made stories), (refl, refl), (event_closed ∷ [], take 0 (drop 3 (events_made stories)), drop 3 (events_made stories), (refl, refl), (event_closed ∷ [], take 1 (drop 3 (events_made stories)), drop 4 (events_made stories), record { acts = _; takes = takes_reap stories; made_is = refl; new_is = refl }, (event_closed ∷ [], take 1 (drop 4 (events_made stories)), drop 5 (events_made stories), record { acts = _; asks = asks stories; made_is = refl; new_is = refl }, (event_closed ∷ [], take 1 (drop 5 (events_made stories)), drop 6 (events_made stories), record { acts = _; takes = takes_term stories; made_is = refl; new_is = refl }, (event_closed ∷ [], take 0 (drop 6 (events_made stories)), drop 6 (events_made stories), (refl, refl), (event_closed ∷ [], take 1 (drop 6 (events_made stories)), drop 7 (events_made stories), record { acts = _; takes = takes_ack stories; made_is = refl; new_is = refl }, (refl, refl), refl), refl), refl), refl), refl), refl), refl), refl), refl), refl), refl);
  workers_are = refl;
  one_order = refl;
  exact = tt;
}

events_named : (stories : Stories) → AreNamed [] (events_order stories)
events_named stories = (none _, (none _, (none _, (none _, (none _, (none _, tt))))))

events_asked : (stories : Stories) → AreBy [] (begun 1) (events_order stories)
events_asked stories = (takes _ _ _ _ _ refl refl refl, (acts _ _ _ _ _ refl refl refl, (takes _ _ _ _ _ refl refl refl, (of_root _ _ _ _ refl refl, (acts _ _ _ _ _ refl refl refl, (of_root _ _ _ _ refl refl, tt))))))

events_told : (stories : Stories) → AreTold 0 (moments_from (begun 1) (events_order stories)) (events_run stories).workers
events_told stories = (refl, (refl, (refl, (refl, tt))))

events_local : (stories : Stories) → AllWork (roles closing_script 1) (events_run stories).workers
events_local stories = (
  (_, (event_made stories, makes stories, (event_closed, closes stories, refl))),
  (
    (record { takes = takes_reap stories; has = refl }, (record { takes = takes_term stories; has = refl }, (record { takes = takes_ack stories; has = refl }, tt))),
    (refl, ((tt, (asks stories, tt)), tt)),
  ),
)

events_is_run : (stories : Stories) → IsRun closing_script 1 every_pipe (events_run stories)
events_is_run stories = record {
  «local» = events_local stories;
  in_order = λ p counts. (_, refl);
  looks = λ p counts. looks_in 1 (pipe_capacity (control_at_end 1 (events_run stories))) (all_steps (events_run stories)) refl refl refl (omega arith) (omega arith) p;
  control = events_control stories;
  named = events_named stories;
  asked = events_asked stories;
  told = events_told stories;
  nobody_else = refl;
  links = λ o. tt;
  ended = tt;
}

pub by_events : Stories → IsEventsJournal ℕ ℕ closing_script closing_events closing_journal
by_events stories = record {
  run = events_run stories;
  is_run = events_is_run stories;
  of_events = of_events stories;
  journal_is = refl;
}
