-- The worked run of a socket that is made and closed is a run, and its journal is the one by hand.
use Rattle.std.specs.Prelude.{◌≡◌, ℕ, [], ◌∷◌, Some, refl}
use Rattle.zq_base.specs.declared.kind.Kind.TheVariants.{Pull}
use Rattle.spec_run.specs.TextParts.{options_with}
use Rattle.spec_control.specs.Moments.{moments_from}
use Rattle.spec_run.specs.declared.script.Call.TheVariants as call
use Rattle.spec_run.specs.OpenSocket.{new_open}
use Rattle.spec_run.specs.Standing.{ActorStanding}
use Rattle.std.proofs.Common.{inl, arith}
use Rattle.std.specs.Fmt.{digits}
use Rattle.spec_pattern.specs.Laws.{TakenIsPrefix, LooksHoldWhereExact}
use Rattle.spec_control.specs.declared.request.Reply.TheVariants.{Object, Asked}
use Rattle.spec_control.specs.Control.{begun, id}
use Rattle.spec_control.specs.ControlRun.{IsControlRun}
use Rattle.spec_control.specs.Names.{AreNamed}
use Rattle.spec_control.specs.ControlExamples.{Stories}
use Rattle.spec_control.specs.Has.{AreBy}
use Rattle.spec_control.proofs.TrialLemmas.{none, acts, takes, of_root}
use Rattle.spec_run.specs.ExampleParts.{moment, line_nr}
use Rattle.spec_run.specs.Worker.{roles}
use Rattle.spec_run.specs.OwnedRun.{IsRun, every_pipe, AllWork, AreTold, pipe_capacity, control_at_end}
use Rattle.spec_run.specs.InTurns.{IsInTurns, IsOneThread}
use Rattle.spec_run.specs.Journal.{IsRunJournal}
use Rattle.spec_run.specs.JournalText.{journal_text}
use Rattle.spec_run.specs.ClosingExample.{closing_script, closing_order, closing_turned, closing_run, closing_schedule, closing_journal, closing_text}
use Rattle.spec_run.proofs.CapacityLemmas.{few_commits, looks_at}
use Rattle.spec_run.proofs.JournalLemmas.{all_fates}
use Rattle.spec_run.proofs.PlainLemmas.{never}

closing_control : (stories : Stories) → IsControlRun (begun 1) (closing_order stories)
closing_control stories = (record { empty = tt; root = refl; live = refl; room = refl }, (record { may = (tt, refl); answered = record { joined = refl; kinds = tt; opened = refl; settled = refl; output = refl } }, (record { empty = (refl, none _); root = refl; live = refl; room = refl }, (record { empty = tt; root = refl; live = refl; room = refl }, (record { may = (record { socket = refl; open_still = refl; lives = refl }, refl); answered = record { joined = refl; kinds = tt; opened = refl; settled = refl; output = refl } }, (record { may = record { behind = _; oldest = refl; held = refl }; answered = record { joined = refl; kinds = tt; opened = refl; settled = refl; output = λ h. absurd (never h) } }, (record { empty = tt; root = refl; live = refl; room = refl }, (record { may = (tt, refl); answered = record { joined = refl; kinds = tt; opened = refl; settled = refl; output = refl } }, (record { may = record { behind = _; oldest = refl; held = refl }; answered = record { joined = refl; kinds = tt; opened = refl; settled = refl; output = λ h. absurd (never h) } }, (record { empty = tt; root = refl; live = refl; room = refl }, (record { may = record { behind = _; oldest = refl; held = refl }; answered = record { joined = refl; kinds = tt; opened = refl; settled = refl; output = λ h. absurd (never h) } }, (record { empty = tt; root = refl; live = refl; room = refl }, tt))))))))))))

closing_named : (stories : Stories) → AreNamed [] (closing_order stories)
closing_named stories = (none _, (none _, (none _, (none _, (none _, (none _, (none _, (none _, (none _, (none _, (none _, (none _, tt))))))))))))

closing_asked : (stories : Stories) → AreBy [] (begun 1) (closing_order stories)
closing_asked stories = (tt, (takes _ _ _ _ _ refl refl refl, (tt, (tt, (acts _ _ _ _ _ refl refl refl, (takes _ _ _ _ _ refl refl refl, (tt, (of_root _ _ _ _ refl refl, (acts _ _ _ _ _ refl refl refl, (tt, (of_root _ _ _ _ refl refl, (tt, tt))))))))))))

closing_told : (stories : Stories) → AreTold 0 (moments_from (begun 1) (closing_order stories)) (closing_run stories).workers
closing_told stories = (refl, (refl, (refl, (refl, tt))))

closing_local : (stories : Stories) → AllWork (roles closing_script 1) (closing_run stories).workers
closing_local stories = ((_, (_, record { rest = _; mine = _; lines_are = refl; does = record { reply = Object (id 1); made = moment (closing_order stories) 1; request = record { by = 0; answered = _; item_is = refl }; no_pump = record { pump_is = refl; skips_are = refl }; call_is = refl; answer_is = refl; new_is = refl }; told_is = refl; over_is = refl; new_is = refl }, (_, record { rest = _; mine = _; lines_are = refl; does = record { no_pump = record { pump_is = refl; skips_are = refl }; closes = record { closed = moment (closing_order stories) 4; request = record { by = 0; answered = _; item_is = refl }; acts_are = refl; new_is = refl }; answer_is = refl }; told_is = refl; over_is = refl; new_is = refl }, refl))), ((record { sight = _; empty_is = refl; item_is = refl }, (record { takes = record { taken = moment (closing_order stories) 5; letter = _; looks = []; delivery = record { by = 1; answered = _; item_is = refl }; behind = refl; acts_are = refl }; has = refl }, (record { takes = record { taken = moment (closing_order stories) 8; letter = _; looks = []; delivery = record { by = 1; answered = _; item_is = refl }; behind = refl; acts_are = refl }; has = refl }, (record { takes = record { taken = moment (closing_order stories) 10; letter = _; looks = []; delivery = record { by = 1; answered = _; item_is = refl }; behind = refl; acts_are = refl }; has = refl }, tt)))), (refl, ((tt, (record { sight = _; empty_is = refl; item_is = refl }, (tt, (record { sight = _; empty_is = refl; item_is = refl }, (tt, (record { sight = _; empty_is = refl; item_is = refl }, (record { reply = Asked; asked = moment (closing_order stories) 7; request = record { by = 3; answered = _; item_is = refl }; acts_are = refl }, (tt, (record { sight = _; empty_is = refl; item_is = refl }, (tt, (record { sight = _; empty_is = refl; item_is = refl }, tt))))))))))), tt))))

abbrev has_made : Stories → ActorStanding
has_made stories = record { lines = line_nr 3 (call.Close 0) ∷ []; tried = 0; told = []; mine = record { names = Some 1 ∷ []; socks = new_open (moment (closing_order stories) 1) 1 Pull (options_with 1000) ∷ [] } }

abbrev has_closed : ActorStanding
has_closed = record { lines = []; tried = 0; told = []; mine = record { names = Some 1 ∷ []; socks = [] } }

closing_is_run : TakenIsPrefix → LooksHoldWhereExact → (stories : Stories) → IsRun closing_script 1 every_pipe (closing_run stories)
closing_is_run taken_prefix looks_hold stories = record {
  «local» = closing_local stories;
  in_order = λ p counts. taken_prefix (pipe_capacity (control_at_end 1 (closing_run stories))) [] tt p;
  looks = λ p counts. looks_at (pipe_capacity (control_at_end 1 (closing_run stories))) [] (looks_hold (pipe_capacity (control_at_end 1 (closing_run stories))) []
      (few_commits (control_at_end 1 (closing_run stories)) (record { hwm = omega arith; rcvhwm = omega arith }, (record { hwm = omega arith; rcvhwm = omega arith }, tt))) tt) refl p (omega arith);
  control = closing_control stories;
  named = closing_named stories;
  asked = closing_asked stories;
  told = closing_told stories;
  nobody_else = refl;
  links = λ o. tt;
  ended = tt;
}

closing_in_turns : (stories : Stories) → IsInTurns closing_script 1 4 (closing_turned stories) (closing_run stories)
closing_in_turns stories = record {
  workers_are = refl;
  standings = has_closed ∷ [];
  go = (record { look = record { sight = _; empty_is = refl; item_is = refl }; goes_on = refl; asks_if = refl }, (has_made stories ∷ [], (record { rest = _; mine = _; lines_are = refl; does = record { reply = Object (id 1); made = moment (closing_order stories) 1; request = record { by = 0; answered = _; item_is = refl }; no_pump = record { pump_is = refl; skips_are = refl }; call_is = refl; answer_is = refl; new_is = refl }; told_is = refl; over_is = refl; new_is = refl }, (record { sight = _; empty_is = refl; item_is = refl }, refl, refl)), (record { look = record { sight = _; empty_is = refl; item_is = refl }; goes_on = refl; asks_if = refl }, (has_closed ∷ [], (record { rest = _; mine = _; lines_are = refl; does = record { no_pump = record { pump_is = refl; skips_are = refl }; closes = record { closed = moment (closing_order stories) 4; request = record { by = 0; answered = _; item_is = refl }; acts_are = refl; new_is = refl }; answer_is = refl }; told_is = refl; over_is = refl; new_is = refl }, (record { takes = record { taken = moment (closing_order stories) 5; letter = _; looks = []; delivery = record { by = 1; answered = _; item_is = refl }; behind = refl; acts_are = refl }; first = refl }, refl, refl)), (record { look = record { sight = _; empty_is = refl; item_is = refl }; goes_on = refl; asks_if = (_, record { reply = Asked; asked = moment (closing_order stories) 7; request = record { by = 3; answered = _; item_is = refl }; acts_are = refl }, refl) }, (has_closed ∷ [], ((refl, refl), (record { takes = record { taken = moment (closing_order stories) 8; letter = _; looks = []; delivery = record { by = 1; answered = _; item_is = refl }; behind = refl; acts_are = refl }; first = refl }, refl, refl)), (record { look = record { sight = _; empty_is = refl; item_is = refl }; goes_on = refl; asks_if = refl }, (has_closed ∷ [], ((refl, refl), (record { takes = record { taken = moment (closing_order stories) 10; letter = _; looks = []; delivery = record { by = 1; answered = _; item_is = refl }; behind = refl; acts_are = refl }; first = refl }, refl, refl)), refl))))))));
  few = omega arith;
  rising = (omega arith, (omega arith, (omega arith, (omega arith, tt))));
  asked_last = refl;
  last = record { sight = _; empty_is = refl; item_is = refl };
  over = λ h. refl;
}

closing_one_thread : (stories : Stories) → IsOneThread 0 closing_script 1 (closing_turned stories) (closing_run stories)
closing_one_thread stories = record {
  orders = (0 ∷ 1 ∷ 2 ∷ []) ∷ (0 ∷ 1 ∷ 2 ∷ []) ∷ (0 ∷ 1 ∷ 2 ∷ []) ∷ (0 ∷ 1 ∷ 2 ∷ []) ∷ [];
  drawn = (0, inl (refl, refl, refl), (0, inl (refl, refl, refl), (0, inl (refl, refl, refl), (0, inl (refl, refl, refl), refl))));
  one_order = refl;
  exact = tt;
}

pub closing : TakenIsPrefix → LooksHoldWhereExact → Stories → IsRunJournal ℕ ℕ closing_script closing_schedule closing_journal
closing taken_prefix looks_hold stories = record {
  run = closing_run stories;
  turned = closing_turned stories;
  is_run = closing_is_run taken_prefix looks_hold stories;
  in_turns = closing_in_turns stories;
  one_thread = closing_one_thread stories;
  all_end = all_fates _ (closing_run stories) tt;
  journal_is = refl;
}

pub closing_printed : journal_text closing_journal ≡ closing_text
unfolding digits
closing_printed = refl
