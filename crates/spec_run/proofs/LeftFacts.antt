-- The worked run of two sockets that are closed with messages left is a run, and its journal is the one by hand.
use Rattle.std.specs.Prelude.{◌≡◌, ℕ, true, List, [], ◌∷◌, Some, Option, codes, refl}
use Rattle.std.proofs.Common.{inl, arith}
use Rattle.std.specs.Fmt.{digits}
use Rattle.zq_base.specs.declared.kind.Kind.TheVariants as kind
use Rattle.spec_run.specs.declared.script.Call.TheVariants as call
use Rattle.spec_pattern.specs.PipeStep.{Commit}
use Rattle.spec_pattern.specs.Pattern.{Push}
use Rattle.spec_pattern.specs.declared.answers.SendAnswer.TheVariants as sent
use Rattle.spec_control.specs.declared.request.Reply.TheVariants.{Done, Object, Pair, Asked}
use Rattle.spec_control.specs.Control.{begun, id, end_of}
use Rattle.spec_control.specs.ControlRun.{IsControlRun}
use Rattle.spec_control.specs.Names.{AreNamed}
use Rattle.spec_control.specs.ControlExamples.{Stories}
use Rattle.spec_control.specs.Has.{AreBy}
use Rattle.spec_control.proofs.TrialLemmas.{none, acts, takes, of_root, told}
use Rattle.spec_run.specs.TextParts.{options_with, pair_nr, at_q}
use Rattle.spec_control.specs.Moments.{moments_from}
use Rattle.spec_run.specs.ExampleParts.{moment, line_nr, over_at}
use Rattle.spec_run.specs.declared.script.Line.{Line}
use Rattle.spec_run.specs.declared.answer.Answer.TheVariants as answer
use Rattle.spec_run.specs.Act.{Step, Said}
use Rattle.spec_run.specs.OpenSocket.{OpenSock, new_open, sock_after}
use Rattle.spec_run.specs.Pump.{found_empty}
use Rattle.spec_run.specs.Standing.{ActorStanding, standing_before, DoesTry, ShutsFirst}
use Rattle.spec_run.specs.Worker.{roles}
use Rattle.spec_run.specs.OwnedRun.{IsRun, every_pipe, AllWork, AreTold, AllSettledSo, control_at_end, pipe_capacity, all_steps}
use Rattle.spec_run.specs.InTurns.{IsInTurns, IsOneThread}
use Rattle.spec_run.specs.Journal.{IsRunJournal}
use Rattle.spec_run.specs.JournalText.{journal_text}
use Rattle.spec_run.specs.LeftExample.{left_script, left_order, left_turned, left_run, left_schedule, left_journal, left_text}
use Rattle.spec_run.proofs.CapacityLemmas.{looks_in}
use Rattle.spec_run.proofs.JournalLemmas.{all_fates}
use Rattle.spec_run.proofs.PlainLemmas.{never, some_none}

left_control : (stories : Stories) → IsControlRun (begun 1) (left_order stories)
left_control stories = (record { empty = tt; root = refl; live = refl; room = refl }, (record { may = (tt, refl); answered = record { joined = refl; kinds = tt; opened = refl; settled = refl; output = refl } }, (record { empty = (refl, none _); root = refl; live = refl; room = refl }, (record { empty = tt; root = refl; live = refl; room = refl }, (record { may = (tt, refl); answered = record { joined = refl; kinds = tt; opened = refl; settled = refl; output = refl } }, (record { empty = (refl, none _); root = refl; live = refl; room = refl }, (record { empty = tt; root = refl; live = refl; room = refl }, (record { empty = refl; root = refl; live = refl; room = refl }, (record { may = (record { socket = refl; open_still = refl; lives = refl }, refl); answered = record { joined = refl; kinds = tt; opened = refl; settled = refl; output = refl } }, (record { empty = (refl, none _); root = refl; live = refl; room = refl }, (record { empty = tt; root = refl; live = refl; room = refl }, (record { empty = refl; root = refl; live = refl; room = refl }, (record { may = (record { socket = refl; open_still = refl; lives = refl }, refl); answered = record { joined = refl; kinds = (tt, tt); opened = refl; settled = refl; output = refl } }, (record { empty = (refl, none _); root = refl; live = refl; room = refl }, (record { empty = tt; root = refl; live = refl; room = refl }, (record { empty = refl; root = refl; live = refl; room = refl }, (record { empty = (refl, none _); root = refl; live = refl; room = refl }, (record { empty = tt; root = refl; live = refl; room = refl }, (record { empty = refl; root = refl; live = refl; room = refl }, (record { empty = (refl, none _); root = refl; live = refl; room = refl }, (record { empty = tt; root = refl; live = refl; room = refl }, (record { may = (record { socket = refl; open_still = refl; lives = refl }, refl); answered = record { joined = refl; kinds = tt; opened = refl; settled = refl; output = refl } }, (record { may = record { behind = _; oldest = refl; held = refl }; answered = record { joined = refl; kinds = tt; opened = refl; settled = refl; output = λ h. absurd (never h) } }, (record { empty = tt; root = refl; live = refl; room = refl }, (record { may = (record { socket = refl; open_still = refl; lives = refl }, refl); answered = record { joined = refl; kinds = tt; opened = refl; settled = refl; output = refl } }, (record { may = record { behind = _; oldest = refl; held = refl }; answered = record { joined = refl; kinds = (tt, tt); opened = refl; settled = refl; output = λ h. absurd (never h) } }, (record { empty = tt; root = refl; live = refl; room = refl }, (record { may = (tt, refl); answered = record { joined = refl; kinds = tt; opened = refl; settled = refl; output = refl } }, (record { may = record { behind = _; oldest = refl; held = refl }; answered = record { joined = refl; kinds = (tt, tt); opened = refl; settled = refl; output = λ h. absurd (never h) } }, (record { empty = tt; root = refl; live = refl; room = refl }, (record { may = record { behind = _; oldest = refl; held = refl }; answered = record { joined = refl; kinds = tt; opened = refl; settled = refl; output = λ h. absurd (never h) } }, (record { empty = tt; root = refl; live = refl; room = refl }, (record { may = record { behind = _; oldest = refl; held = refl }; answered = record { joined = refl; kinds = tt; opened = refl; settled = refl; output = λ h. absurd (never h) } }, (record { empty = tt; root = refl; live = refl; room = refl }, (record { may = record { behind = _; oldest = refl; held = refl }; answered = record { joined = refl; kinds = tt; opened = refl; settled = refl; output = λ h. absurd (never h) } }, (record { empty = tt; root = refl; live = refl; room = refl }, (record { may = record { behind = _; oldest = refl; held = refl }; answered = record { joined = refl; kinds = tt; opened = refl; settled = refl; output = λ h. absurd (never h) } }, (record { empty = tt; root = refl; live = refl; room = refl }, (record { may = record { behind = _; oldest = refl; held = refl }; answered = record { joined = refl; kinds = tt; opened = refl; settled = record { adds_up = refl; read_out = λ e. absurd (some_none e) }; output = λ h. absurd (never h) } }, (record { empty = tt; root = refl; live = refl; room = refl }, (record { may = record { behind = _; oldest = refl; held = refl }; answered = record { joined = refl; kinds = tt; opened = refl; settled = refl; output = λ h. absurd (never h) } }, (record { empty = tt; root = refl; live = refl; room = refl }, (record { may = record { behind = _; oldest = refl; held = refl }; answered = record { joined = refl; kinds = tt; opened = refl; settled = record { adds_up = refl; read_out = λ e. refl }; output = λ h. absurd (never h) } }, (record { empty = tt; root = refl; live = refl; room = refl }, (record { may = record { behind = _; oldest = refl; held = refl }; answered = record { joined = refl; kinds = tt; opened = refl; settled = refl; output = λ h. absurd (never h) } }, (record { empty = tt; root = refl; live = refl; room = refl }, tt))))))))))))))))))))))))))))))))))))))))))))))

left_named : (stories : Stories) → AreNamed [] (left_order stories)
left_named stories = (none _, (none _, (none _, (none _, (none _, (none _, (none _, (none _, (none _, (none _, (none _, (none _, (told _ _ refl refl, (none _, (none _, (none _, (none _, (none _, (none _, (none _, (none _, (none _, (none _, (none _, (none _, (told _ _ refl refl, (none _, (none _, (told _ _ refl refl, (none _, (none _, (none _, (none _, (none _, (none _, (none _, (none _, (none _, (none _, (none _, (none _, (none _, (none _, (none _, (none _, (none _, tt))))))))))))))))))))))))))))))))))))))))))))))

left_asked : (stories : Stories) → AreBy [] (begun 1) (left_order stories)
left_asked stories = (tt, (takes _ _ _ _ _ refl refl refl, (tt, (tt, (takes _ _ _ _ _ refl refl refl, (tt, (tt, (tt, (acts _ _ _ _ _ refl refl refl, (tt, (tt, (tt, (acts _ _ _ _ _ refl refl refl, (tt, (tt, (tt, (tt, (tt, (tt, (tt, (tt, (acts _ _ _ _ _ refl refl refl, (takes _ _ _ _ _ refl refl refl, (tt, (acts _ _ _ _ _ refl refl refl, (takes _ _ _ _ _ refl refl refl, (tt, (of_root _ _ _ _ refl refl, (acts _ _ _ _ _ refl refl refl, (tt, (acts _ _ _ _ _ refl refl refl, (tt, (acts _ _ _ _ _ refl refl refl, (tt, (acts _ _ _ _ _ refl refl refl, (tt, (acts _ _ _ _ _ refl refl refl, (tt, (acts _ _ _ _ _ refl refl refl, (tt, (of_root _ _ _ _ refl refl, (tt, (acts _ _ _ _ _ refl refl refl, (tt, (of_root _ _ _ _ refl refl, (tt, tt))))))))))))))))))))))))))))))))))))))))))))))

left_told : (stories : Stories) → AreTold 0 (moments_from (begun 1) (left_order stories)) (left_run stories).workers
left_told stories = (refl, (refl, (refl, (refl, tt))))

-- ---- the sockets, and how the actor stands behind each of its steps

abbrev pull_made : Stories → OpenSock
pull_made stories = new_open (moment (left_order stories) 1) 1 kind.Pull (options_with 1000)

abbrev push_made : Stories → OpenSock
push_made stories = new_open (moment (left_order stories) 4) 2 kind.Push (options_with 1000)

abbrev bound : Stories → OpenSock
bound stories = sock_after (moment (left_order stories) 8) (sock_after (moment (left_order stories) 7) (pull_made stories))

abbrev joined_push : Stories → OpenSock
joined_push stories = sock_after (moment (left_order stories) 12) (sock_after (moment (left_order stories) 11) (push_made stories))

abbrev pushed_once : Stories → OpenSock
pushed_once stories = sock_after (moment (left_order stories) 15) (joined_push stories)

abbrev pushed : Stories → OpenSock
pushed stories = sock_after (moment (left_order stories) 18) (pushed_once stories)

abbrev standing : (lines : List Line) → List (Option ℕ) → List OpenSock → ActorStanding
standing lines names socks = record { lines = lines; tried = 0; told = []; mine = record { names = names; socks = socks } }

abbrev stands_1 : Stories → ActorStanding
stands_1 stories = standing (line_nr 3 (call.Socket kind.Push (options_with 1000)) ∷ line_nr 4 (call.Bind 0 at_q) ∷ line_nr 5 (call.Connect 1 at_q) ∷ line_nr 6 (call.Send 1 (codes "a" ∷ [])) ∷ line_nr 7 (call.Send 1 (codes "b" ∷ [])) ∷ line_nr 8 (call.Close 0) ∷ []) (Some 1 ∷ []) (pull_made stories ∷ [])

abbrev stands_2 : Stories → ActorStanding
stands_2 stories = standing (line_nr 4 (call.Bind 0 at_q) ∷ line_nr 5 (call.Connect 1 at_q) ∷ line_nr 6 (call.Send 1 (codes "a" ∷ [])) ∷ line_nr 7 (call.Send 1 (codes "b" ∷ [])) ∷ line_nr 8 (call.Close 0) ∷ []) (Some 1 ∷ Some 2 ∷ []) (pull_made stories ∷ push_made stories ∷ [])

abbrev stands_3 : Stories → ActorStanding
stands_3 stories = standing (line_nr 5 (call.Connect 1 at_q) ∷ line_nr 6 (call.Send 1 (codes "a" ∷ [])) ∷ line_nr 7 (call.Send 1 (codes "b" ∷ [])) ∷ line_nr 8 (call.Close 0) ∷ []) (Some 1 ∷ Some 2 ∷ []) (bound stories ∷ push_made stories ∷ [])

abbrev stands_4 : Stories → ActorStanding
stands_4 stories = standing (line_nr 6 (call.Send 1 (codes "a" ∷ [])) ∷ line_nr 7 (call.Send 1 (codes "b" ∷ [])) ∷ line_nr 8 (call.Close 0) ∷ []) (Some 1 ∷ Some 2 ∷ []) (bound stories ∷ joined_push stories ∷ [])

abbrev stands_5 : Stories → ActorStanding
stands_5 stories = standing (line_nr 7 (call.Send 1 (codes "b" ∷ [])) ∷ line_nr 8 (call.Close 0) ∷ []) (Some 1 ∷ Some 2 ∷ []) (bound stories ∷ pushed_once stories ∷ [])

abbrev stands_6 : Stories → ActorStanding
stands_6 stories = standing (line_nr 8 (call.Close 0) ∷ []) (Some 1 ∷ Some 2 ∷ []) (bound stories ∷ pushed stories ∷ [])

abbrev stands_7 : Stories → ActorStanding
stands_7 stories = standing ([]) (Some 1 ∷ Some 2 ∷ []) (pushed stories ∷ [])

abbrev stands_8 : Stories → ActorStanding
stands_8 stories = standing ([]) (Some 1 ∷ Some 2 ∷ []) ([])

-- ---- the steps

step_1 : (stories : Stories) → DoesTry (standing_before (record { name = codes "a"; lines = line_nr 2 (call.Socket kind.Pull (options_with 1000)) ∷ line_nr 3 (call.Socket kind.Push (options_with 1000)) ∷ line_nr 4 (call.Bind 0 at_q) ∷ line_nr 5 (call.Connect 1 at_q) ∷ line_nr 6 (call.Send 1 (codes "a" ∷ [])) ∷ line_nr 7 (call.Send 1 (codes "b" ∷ [])) ∷ line_nr 8 (call.Close 0) ∷ [] })) (over_at (line_nr 2 (call.Socket kind.Pull (options_with 1000))) ([]) (Said (moment (left_order stories) 1) ∷ []) (answer.Object (id 1))) (stands_1 stories)
step_1 stories = record { rest = _; mine = _; lines_are = refl; does = record { reply = Object (id 1); made = moment (left_order stories) 1; request = record { by = 0; answered = _; item_is = refl }; no_pump = record { pump_is = refl; skips_are = refl }; call_is = refl; answer_is = refl; new_is = refl }; told_is = refl; over_is = refl; new_is = refl }

step_2 : (stories : Stories) → DoesTry (stands_1 stories) (over_at (line_nr 3 (call.Socket kind.Push (options_with 1000))) ([]) (Said (moment (left_order stories) 4) ∷ []) (answer.Object (id 2))) (stands_2 stories)
step_2 stories = record { rest = _; mine = _; lines_are = refl; does = record { reply = Object (id 2); made = moment (left_order stories) 4; request = record { by = 0; answered = _; item_is = refl }; no_pump = record { pump_is = refl; skips_are = refl }; call_is = refl; answer_is = refl; new_is = refl }; told_is = refl; over_is = refl; new_is = refl }

step_3 : (stories : Stories) → DoesTry (stands_2 stories) (over_at (line_nr 4 (call.Bind 0 at_q)) (Said (moment (left_order stories) 7) ∷ []) (Said (moment (left_order stories) 8) ∷ []) answer.Done) (stands_3 stories)
step_3 stories = record { rest = _; mine = _; lines_are = refl; does = record { pumped = _; called = bound stories; pumps = record { letters = []; last = Said (moment (left_order stories) 7) ∷ []; takes = tt; ends = found_empty (moment (left_order stories) 7) (omega arith) (record { sight = _; empty_is = refl; item_is = refl }) refl; heard = sock_after (moment (left_order stories) 7) (pull_made stories); hears = (tt, refl); steps = []; pattern = _; pumps = (refl, refl); looks = []; looks_are = refl; meets = refl; acts_are = refl }; does = record { reply = Done; made = moment (left_order stories) 8; request = record { by = 0; answered = _; item_is = refl }; call_is = refl; skips_are = refl; answer_is = refl; goes = (tt, refl) }; new_is = refl }; told_is = refl; over_is = refl; new_is = refl }

step_4 : (stories : Stories) → DoesTry (stands_3 stories) (over_at (line_nr 5 (call.Connect 1 at_q)) (Said (moment (left_order stories) 11) ∷ []) (Said (moment (left_order stories) 12) ∷ []) (answer.Pair (pair_nr 1))) (stands_4 stories)
step_4 stories = record { rest = _; mine = _; lines_are = refl; does = record { pumped = _; called = joined_push stories; pumps = record { letters = []; last = Said (moment (left_order stories) 11) ∷ []; takes = tt; ends = found_empty (moment (left_order stories) 11) (omega arith) (record { sight = _; empty_is = refl; item_is = refl }) refl; heard = sock_after (moment (left_order stories) 11) (push_made stories); hears = (tt, refl); steps = []; pattern = _; pumps = (refl, refl); looks = []; looks_are = refl; meets = refl; acts_are = refl }; does = record { reply = Pair (pair_nr 1); made = moment (left_order stories) 12; request = record { by = 0; answered = _; item_is = refl }; call_is = refl; skips_are = refl; answer_is = refl; goes = ((refl, tt), refl) }; new_is = refl }; told_is = refl; over_is = refl; new_is = refl }

step_5 : (stories : Stories) → DoesTry (stands_4 stories) (over_at (line_nr 6 (call.Send 1 (codes "a" ∷ []))) (Said (moment (left_order stories) 15) ∷ []) (Step (Commit (end_of 1 true) (codes "a" ∷ [])) ∷ []) (answer.Pair (pair_nr 1))) (stands_5 stories)
step_5 stories = record { rest = _; mine = _; lines_are = refl; does = record { pumped = _; called = _; pumps = record { letters = []; last = Said (moment (left_order stories) 15) ∷ []; takes = tt; ends = found_empty (moment (left_order stories) 15) (omega arith) (record { sight = _; empty_is = refl; item_is = refl }) refl; heard = sock_after (moment (left_order stories) 15) (joined_push stories); hears = (tt, refl); steps = []; pattern = _; pumps = (refl, refl); looks = []; looks_are = refl; meets = refl; acts_are = refl }; does = record { steps = Commit (end_of 1 true) (codes "a" ∷ []) ∷ []; sent = sent.One (pair_nr 1); pattern = Push (end_of 1 true ∷ []); sends = (end_of 1 true ∷ [], record { before = []; peer = end_of 1 true; after = []; turns_are = refl; open_is = refl; steps_are = refl; to_is = refl; new_is = refl }, refl); call_is = refl; skips_are = refl; answer_is = refl; new_is = refl }; new_is = refl }; told_is = refl; over_is = refl; new_is = refl }

step_6 : (stories : Stories) → DoesTry (stands_5 stories) (over_at (line_nr 7 (call.Send 1 (codes "b" ∷ []))) (Said (moment (left_order stories) 18) ∷ []) (Step (Commit (end_of 1 true) (codes "b" ∷ [])) ∷ []) (answer.Pair (pair_nr 1))) (stands_6 stories)
step_6 stories = record { rest = _; mine = _; lines_are = refl; does = record { pumped = _; called = pushed stories; pumps = record { letters = []; last = Said (moment (left_order stories) 18) ∷ []; takes = tt; ends = found_empty (moment (left_order stories) 18) (omega arith) (record { sight = _; empty_is = refl; item_is = refl }) refl; heard = sock_after (moment (left_order stories) 18) (sock_after (moment (left_order stories) 15) (joined_push stories)); hears = (tt, refl); steps = []; pattern = _; pumps = (refl, refl); looks = []; looks_are = refl; meets = refl; acts_are = refl }; does = record { steps = Commit (end_of 1 true) (codes "b" ∷ []) ∷ []; sent = sent.One (pair_nr 1); pattern = Push (end_of 1 true ∷ []); sends = (end_of 1 true ∷ [], record { before = []; peer = end_of 1 true; after = []; turns_are = refl; open_is = refl; steps_are = refl; to_is = refl; new_is = refl }, refl); call_is = refl; skips_are = refl; answer_is = refl; new_is = refl }; new_is = refl }; told_is = refl; over_is = refl; new_is = refl }

step_7 : (stories : Stories) → DoesTry (stands_6 stories) (over_at (line_nr 8 (call.Close 0)) ([]) (Said (moment (left_order stories) 21) ∷ []) answer.Done) (stands_7 stories)
step_7 stories = record { rest = _; mine = _; lines_are = refl; does = record { no_pump = record { pump_is = refl; skips_are = refl }; closes = record { closed = moment (left_order stories) 21; request = record { by = 0; answered = _; item_is = refl }; acts_are = refl; new_is = refl }; answer_is = refl }; told_is = refl; over_is = refl; new_is = refl }

step_8 : (stories : Stories) → ShutsFirst (stands_7 stories) (Said (moment (left_order stories) 24) ∷ []) (stands_8 stories)
step_8 stories = record { first = pushed stories; others = []; mine = _; no_lines = refl; socks_are = refl; closes = record { closed = moment (left_order stories) 24; request = record { by = 0; answered = _; item_is = refl }; acts_are = refl; new_is = refl }; new_is = refl }

left_local : (stories : Stories) → AllWork (roles left_script 1) (left_run stories).workers
left_local stories = ((_, (stands_1 stories, step_1 stories, (stands_2 stories, step_2 stories, (stands_3 stories, step_3 stories, (stands_4 stories, step_4 stories, (stands_5 stories, step_5 stories, (stands_6 stories, step_6 stories, (stands_7 stories, step_7 stories, (stands_8 stories, step_8 stories, refl))))))))), ((record { sight = _; empty_is = refl; item_is = refl }, (record { sight = _; empty_is = refl; item_is = refl }, (record { sight = _; empty_is = refl; item_is = refl }, (record { sight = _; empty_is = refl; item_is = refl }, (record { sight = _; empty_is = refl; item_is = refl }, (record { sight = _; empty_is = refl; item_is = refl }, (record { takes = record { taken = moment (left_order stories) 22; letter = _; looks = []; delivery = record { by = 1; answered = _; item_is = refl }; behind = refl; acts_are = refl }; has = refl }, (record { takes = record { taken = moment (left_order stories) 25; letter = _; looks = []; delivery = record { by = 1; answered = _; item_is = refl }; behind = refl; acts_are = refl }; has = refl }, (record { takes = record { taken = moment (left_order stories) 28; letter = _; looks = []; delivery = record { by = 1; answered = _; item_is = refl }; behind = refl; acts_are = refl }; has = refl }, (record { takes = record { taken = moment (left_order stories) 30; letter = _; looks = []; delivery = record { by = 1; answered = _; item_is = refl }; behind = refl; acts_are = refl }; has = refl }, (record { takes = record { taken = moment (left_order stories) 32; letter = _; looks = []; delivery = record { by = 1; answered = _; item_is = refl }; behind = refl; acts_are = refl }; has = refl }, (record { takes = record { taken = moment (left_order stories) 34; letter = _; looks = []; delivery = record { by = 1; answered = _; item_is = refl }; behind = refl; acts_are = refl }; has = refl }, (record { takes = record { taken = moment (left_order stories) 36; letter = _; looks = []; delivery = record { by = 1; answered = _; item_is = refl }; behind = refl; acts_are = refl }; has = refl }, (record { takes = record { taken = moment (left_order stories) 38; letter = _; looks = []; delivery = record { by = 1; answered = _; item_is = refl }; behind = refl; acts_are = refl }; has = refl }, (record { takes = record { taken = moment (left_order stories) 40; letter = _; looks = []; delivery = record { by = 1; answered = _; item_is = refl }; behind = refl; acts_are = refl }; has = refl }, (record { takes = record { taken = moment (left_order stories) 42; letter = _; looks = []; delivery = record { by = 1; answered = _; item_is = refl }; behind = refl; acts_are = refl }; has = refl }, (record { takes = record { taken = moment (left_order stories) 44; letter = _; looks = []; delivery = record { by = 1; answered = _; item_is = refl }; behind = refl; acts_are = refl }; has = refl }, tt))))))))))))))))), (refl, ((tt, (record { sight = _; empty_is = refl; item_is = refl }, (tt, (record { sight = _; empty_is = refl; item_is = refl }, (tt, (record { sight = _; empty_is = refl; item_is = refl }, (tt, (record { sight = _; empty_is = refl; item_is = refl }, (tt, (record { sight = _; empty_is = refl; item_is = refl }, (tt, (record { sight = _; empty_is = refl; item_is = refl }, (tt, (record { sight = _; empty_is = refl; item_is = refl }, (tt, (record { sight = _; empty_is = refl; item_is = refl }, (tt, (record { sight = _; empty_is = refl; item_is = refl }, (record { reply = Asked; asked = moment (left_order stories) 27; request = record { by = 3; answered = _; item_is = refl }; acts_are = refl }, (tt, (record { sight = _; empty_is = refl; item_is = refl }, (tt, (record { sight = _; empty_is = refl; item_is = refl }, (tt, (record { sight = _; empty_is = refl; item_is = refl }, (tt, (record { sight = _; empty_is = refl; item_is = refl }, (tt, (record { sight = _; empty_is = refl; item_is = refl }, (tt, (record { sight = _; empty_is = refl; item_is = refl }, (tt, (record { sight = _; empty_is = refl; item_is = refl }, (tt, (record { sight = _; empty_is = refl; item_is = refl }, (tt, (record { sight = _; empty_is = refl; item_is = refl }, tt))))))))))))))))))))))))))))))))))))), tt))))

left_settled : (stories : Stories) → AllSettledSo (left_run stories) (control_at_end 1 (left_run stories)).settlements
left_settled stories = (record { sent = refl; got = refl; sum = refl; reason = λ h. refl }, (record { sent = refl; got = refl; sum = refl; reason = λ h. refl }, tt))

left_is_run : (stories : Stories) → IsRun left_script 1 every_pipe (left_run stories)
left_is_run stories = record {
  «local» = left_local stories;
  in_order = λ p counts. (_, refl);
  looks = λ p counts. looks_in 1 (pipe_capacity (control_at_end 1 (left_run stories))) (all_steps (left_run stories)) refl refl refl (omega arith) (omega arith) p;
  control = left_control stories;
  named = left_named stories;
  asked = left_asked stories;
  told = left_told stories;
  nobody_else = refl;
  links = λ o. tt;
  ended = left_settled stories;
}

left_in_turns : (stories : Stories) → IsInTurns left_script 1 17 (left_turned stories) (left_run stories)
left_in_turns stories = record {
  workers_are = refl;
  standings = stands_8 stories ∷ [];
  go = (record { look = record { sight = _; empty_is = refl; item_is = refl }; goes_on = refl; asks_if = refl }, (stands_1 stories ∷ [], (step_1 stories, (record { sight = _; empty_is = refl; item_is = refl }, refl, refl)), (record { look = record { sight = _; empty_is = refl; item_is = refl }; goes_on = refl; asks_if = refl }, (stands_2 stories ∷ [], (step_2 stories, (record { sight = _; empty_is = refl; item_is = refl }, refl, refl)), (record { look = record { sight = _; empty_is = refl; item_is = refl }; goes_on = refl; asks_if = refl }, (stands_3 stories ∷ [], (step_3 stories, (record { sight = _; empty_is = refl; item_is = refl }, refl, refl)), (record { look = record { sight = _; empty_is = refl; item_is = refl }; goes_on = refl; asks_if = refl }, (stands_4 stories ∷ [], (step_4 stories, (record { sight = _; empty_is = refl; item_is = refl }, refl, refl)), (record { look = record { sight = _; empty_is = refl; item_is = refl }; goes_on = refl; asks_if = refl }, (stands_5 stories ∷ [], (step_5 stories, (record { sight = _; empty_is = refl; item_is = refl }, refl, refl)), (record { look = record { sight = _; empty_is = refl; item_is = refl }; goes_on = refl; asks_if = refl }, (stands_6 stories ∷ [], (step_6 stories, (record { sight = _; empty_is = refl; item_is = refl }, refl, refl)), (record { look = record { sight = _; empty_is = refl; item_is = refl }; goes_on = refl; asks_if = refl }, (stands_7 stories ∷ [], (step_7 stories, (record { takes = record { taken = moment (left_order stories) 22; letter = _; looks = []; delivery = record { by = 1; answered = _; item_is = refl }; behind = refl; acts_are = refl }; first = refl }, refl, refl)), (record { look = record { sight = _; empty_is = refl; item_is = refl }; goes_on = refl; asks_if = refl }, (stands_8 stories ∷ [], (step_8 stories, (record { takes = record { taken = moment (left_order stories) 25; letter = _; looks = []; delivery = record { by = 1; answered = _; item_is = refl }; behind = refl; acts_are = refl }; first = refl }, refl, refl)), (record { look = record { sight = _; empty_is = refl; item_is = refl }; goes_on = refl; asks_if = (_, record { reply = Asked; asked = moment (left_order stories) 27; request = record { by = 3; answered = _; item_is = refl }; acts_are = refl }, refl) }, (stands_8 stories ∷ [], ((refl, refl), (record { takes = record { taken = moment (left_order stories) 28; letter = _; looks = []; delivery = record { by = 1; answered = _; item_is = refl }; behind = refl; acts_are = refl }; first = refl }, refl, refl)), (record { look = record { sight = _; empty_is = refl; item_is = refl }; goes_on = refl; asks_if = refl }, (stands_8 stories ∷ [], ((refl, refl), (record { takes = record { taken = moment (left_order stories) 30; letter = _; looks = []; delivery = record { by = 1; answered = _; item_is = refl }; behind = refl; acts_are = refl }; first = refl }, refl, refl)), (record { look = record { sight = _; empty_is = refl; item_is = refl }; goes_on = refl; asks_if = refl }, (stands_8 stories ∷ [], ((refl, refl), (record { takes = record { taken = moment (left_order stories) 32; letter = _; looks = []; delivery = record { by = 1; answered = _; item_is = refl }; behind = refl; acts_are = refl }; first = refl }, refl, refl)), (record { look = record { sight = _; empty_is = refl; item_is = refl }; goes_on = refl; asks_if = refl }, (stands_8 stories ∷ [], ((refl, refl), (record { takes = record { taken = moment (left_order stories) 34; letter = _; looks = []; delivery = record { by = 1; answered = _; item_is = refl }; behind = refl; acts_are = refl }; first = refl }, refl, refl)), (record { look = record { sight = _; empty_is = refl; item_is = refl }; goes_on = refl; asks_if = refl }, (stands_8 stories ∷ [], ((refl, refl), (record { takes = record { taken = moment (left_order stories) 36; letter = _; looks = []; delivery = record { by = 1; answered = _; item_is = refl }; behind = refl; acts_are = refl }; first = refl }, refl, refl)), (record { look = record { sight = _; empty_is = refl; item_is = refl }; goes_on = refl; asks_if = refl }, (stands_8 stories ∷ [], ((refl, refl), (record { takes = record { taken = moment (left_order stories) 38; letter = _; looks = []; delivery = record { by = 1; answered = _; item_is = refl }; behind = refl; acts_are = refl }; first = refl }, refl, refl)), (record { look = record { sight = _; empty_is = refl; item_is = refl }; goes_on = refl; asks_if = refl }, (stands_8 stories ∷ [], ((refl, refl), (record { takes = record { taken = moment (left_order stories) 40; letter = _; looks = []; delivery = record { by = 1; answered = _; item_is = refl }; behind = refl; acts_are = refl }; first = refl }, refl, refl)), (record { look = record { sight = _; empty_is = refl; item_is = refl }; goes_on = refl; asks_if = refl }, (stands_8 stories ∷ [], ((refl, refl), (record { takes = record { taken = moment (left_order stories) 42; letter = _; looks = []; delivery = record { by = 1; answered = _; item_is = refl }; behind = refl; acts_are = refl }; first = refl }, refl, refl)), (record { look = record { sight = _; empty_is = refl; item_is = refl }; goes_on = refl; asks_if = refl }, (stands_8 stories ∷ [], ((refl, refl), (record { takes = record { taken = moment (left_order stories) 44; letter = _; looks = []; delivery = record { by = 1; answered = _; item_is = refl }; behind = refl; acts_are = refl }; first = refl }, refl, refl)), refl))))))))))))))))))))))))))))))))));
  few = omega arith;
  rising = (omega arith, (omega arith, (omega arith, (omega arith, (omega arith, (omega arith, (omega arith, (omega arith, (omega arith, (omega arith, (omega arith, (omega arith, (omega arith, (omega arith, (omega arith, (omega arith, (omega arith, tt)))))))))))))))));
  asked_last = refl;
  last = record { sight = _; empty_is = refl; item_is = refl };
  over = λ h. refl;
}

left_one_thread : (stories : Stories) → IsOneThread 0 left_script 1 (left_turned stories) (left_run stories)
left_one_thread stories = record {
  orders = (0 ∷ 1 ∷ 2 ∷ []) ∷ (0 ∷ 1 ∷ 2 ∷ []) ∷ (0 ∷ 1 ∷ 2 ∷ []) ∷ (0 ∷ 1 ∷ 2 ∷ []) ∷ (0 ∷ 1 ∷ 2 ∷ []) ∷ (0 ∷ 1 ∷ 2 ∷ []) ∷ (0 ∷ 1 ∷ 2 ∷ []) ∷ (0 ∷ 1 ∷ 2 ∷ []) ∷ (0 ∷ 1 ∷ 2 ∷ []) ∷ (0 ∷ 1 ∷ 2 ∷ []) ∷ (0 ∷ 1 ∷ 2 ∷ []) ∷ (0 ∷ 1 ∷ 2 ∷ []) ∷ (0 ∷ 1 ∷ 2 ∷ []) ∷ (0 ∷ 1 ∷ 2 ∷ []) ∷ (0 ∷ 1 ∷ 2 ∷ []) ∷ (0 ∷ 1 ∷ 2 ∷ []) ∷ (0 ∷ 1 ∷ 2 ∷ []) ∷ [];
  drawn = (0, inl (refl, refl, refl), (0, inl (refl, refl, refl), (0, inl (refl, refl, refl), (0, inl (refl, refl, refl), (0, inl (refl, refl, refl), (0, inl (refl, refl, refl), (0, inl (refl, refl, refl), (0, inl (refl, refl, refl), (0, inl (refl, refl, refl), (0, inl (refl, refl, refl), (0, inl (refl, refl, refl), (0, inl (refl, refl, refl), (0, inl (refl, refl, refl), (0, inl (refl, refl, refl), (0, inl (refl, refl, refl), (0, inl (refl, refl, refl), (0, inl (refl, refl, refl), refl)))))))))))))))));
  one_order = refl;
  exact = ((omega arith, omega arith, refl), ((omega arith, omega arith, refl), (refl, (refl, tt))));
}

pub left_over : (stories : Stories) → IsRunJournal ℕ ℕ left_script left_schedule left_journal
left_over stories = record {
  run = left_run stories;
  turned = left_turned stories;
  is_run = left_is_run stories;
  in_turns = left_in_turns stories;
  one_thread = left_one_thread stories;
  all_end = all_fates _ (left_run stories) (left_settled stories);
  journal_is = refl;
}

pub left_printed : journal_text left_journal ≡ left_text
unfolding digits
left_printed = refl
