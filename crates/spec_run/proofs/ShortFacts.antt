-- The worked run that is cut short is a run, and its journal is the one by hand.
use Rattle.std.specs.Prelude.{◌≡◌, ℕ, [], ◌∷◌, Some, refl}
use Rattle.zq_base.specs.declared.kind.Kind.TheVariants.{Pull}
use Rattle.spec_run.specs.TextParts.{options_with}
use Rattle.spec_control.specs.Moments.{moments_from}
use Rattle.spec_run.specs.declared.script.Call.TheVariants as call
use Rattle.spec_run.specs.OpenSocket.{new_open}
use Rattle.spec_run.specs.Standing.{ActorStanding}
use Rattle.std.proofs.Common.{inl, arith}
use Rattle.std.specs.Fmt.{digits}
use Rattle.spec_control.specs.declared.request.Reply.TheVariants.{Object}
use Rattle.spec_control.specs.Control.{begun, id}
use Rattle.spec_control.specs.ControlRun.{IsControlRun}
use Rattle.spec_control.specs.Names.{AreNamed}
use Rattle.spec_control.specs.ControlExamples.{Stories}
use Rattle.spec_control.specs.Has.{AreBy}
use Rattle.spec_control.proofs.TrialLemmas.{none, takes}
use Rattle.spec_run.specs.ExampleParts.{moment, line_nr}
use Rattle.spec_run.specs.Worker.{roles}
use Rattle.spec_run.specs.OwnedRun.{IsRun, every_pipe, AllWork, AreTold, pipe_capacity, all_steps, control_at_end}
use Rattle.spec_run.specs.InTurns.{IsInTurns, IsOneThread}
use Rattle.spec_run.specs.Journal.{IsRunJournal}
use Rattle.spec_run.specs.JournalText.{journal_text}
use Rattle.spec_run.specs.ShortExample.{short_order, short_turned, short_run, short_schedule, cut_journal, short_text}
use Rattle.spec_run.specs.ClosingExample.{closing_script}
use Rattle.spec_run.proofs.CapacityLemmas.{looks_in}
use Rattle.spec_run.proofs.JournalLemmas.{all_fates}

short_control : (stories : Stories) → IsControlRun (begun 1) (short_order stories)
short_control stories = (record { empty = tt; root = refl; live = refl; room = refl }, (record { may = (tt, refl); answered = record { joined = refl; kinds = tt; opened = refl; settled = refl; output = refl } }, (record { empty = (refl, none _); root = refl; live = refl; room = refl }, (record { empty = tt; root = refl; live = refl; room = refl }, tt))))

short_named : (stories : Stories) → AreNamed [] (short_order stories)
short_named stories = (none _, (none _, (none _, (none _, tt))))

short_asked : (stories : Stories) → AreBy [] (begun 1) (short_order stories)
short_asked stories = (tt, (takes _ _ _ _ _ refl refl refl, (tt, (tt, tt))))

short_told : (stories : Stories) → AreTold 0 (moments_from (begun 1) (short_order stories)) (short_run stories).workers
short_told stories = (refl, (refl, (refl, (refl, tt))))

short_local : (stories : Stories) → AllWork (roles closing_script 1) (short_run stories).workers
short_local stories = ((_, (_, record { rest = _; mine = _; lines_are = refl; does = record { reply = Object (id 1); made = moment (short_order stories) 1; request = record { by = 0; answered = _; item_is = refl }; no_pump = record { pump_is = refl; skips_are = refl }; call_is = refl; answer_is = refl; new_is = refl }; told_is = refl; over_is = refl; new_is = refl }, refl)), ((record { sight = _; empty_is = refl; item_is = refl }, tt), (refl, ((tt, (record { sight = _; empty_is = refl; item_is = refl }, (tt, (record { sight = _; empty_is = refl; item_is = refl }, tt)))), tt))))

abbrev has_made : Stories → ActorStanding
has_made stories = record { lines = line_nr 3 (call.Close 0) ∷ []; tried = 0; told = []; mine = record { names = Some 1 ∷ []; socks = new_open (moment (short_order stories) 1) 1 Pull (options_with 1000) ∷ [] } }

short_is_run : (stories : Stories) → IsRun closing_script 1 every_pipe (short_run stories)
short_is_run stories = record {
  «local» = short_local stories;
  in_order = λ p counts. (_, refl);
  looks = λ p counts. looks_in 1 (pipe_capacity (control_at_end 1 (short_run stories))) (all_steps (short_run stories)) refl refl refl (omega arith) (omega arith) p;
  control = short_control stories;
  named = short_named stories;
  asked = short_asked stories;
  told = short_told stories;
  nobody_else = refl;
  links = λ o. tt;
  ended = tt;
}

short_in_turns : (stories : Stories) → IsInTurns closing_script 1 1 (short_turned stories) (short_run stories)
short_in_turns stories = record {
  workers_are = refl;
  standings = has_made stories ∷ [];
  go = (record { look = record { sight = _; empty_is = refl; item_is = refl }; goes_on = refl; asks_if = refl }, (has_made stories ∷ [], (record { rest = _; mine = _; lines_are = refl; does = record { reply = Object (id 1); made = moment (short_order stories) 1; request = record { by = 0; answered = _; item_is = refl }; no_pump = record { pump_is = refl; skips_are = refl }; call_is = refl; answer_is = refl; new_is = refl }; told_is = refl; over_is = refl; new_is = refl }, (record { sight = _; empty_is = refl; item_is = refl }, refl, refl)), refl));
  few = omega arith;
  rising = (omega arith, tt);
  asked_last = refl;
  last = record { sight = _; empty_is = refl; item_is = refl };
  over = λ h. refl;
}

short_one_thread : (stories : Stories) → IsOneThread 0 closing_script 1 (short_turned stories) (short_run stories)
short_one_thread stories = record {
  orders = (0 ∷ 1 ∷ 2 ∷ []) ∷ [];
  drawn = (0, inl (refl, refl, refl), refl);
  one_order = refl;
  exact = tt;
}

pub short : (stories : Stories) → IsRunJournal ℕ ℕ closing_script short_schedule cut_journal
short stories = record {
  run = short_run stories;
  turned = short_turned stories;
  is_run = short_is_run stories;
  in_turns = short_in_turns stories;
  one_thread = short_one_thread stories;
  all_end = all_fates _ (short_run stories) tt;
  journal_is = refl;
}

pub short_printed : journal_text cut_journal ≡ short_text
unfolding digits
short_printed = refl
