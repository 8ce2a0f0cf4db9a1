-- The worked run of two sockets that are closed with messages left is a run, and its journal is the one by hand.
use Rattle.std.specs.Prelude.{◌≡◌, ℕ, true, false, List, [], ◌∷◌, Some, Option, All, codes, refl}
use Rattle.std.proofs.Common.{inl, arith, sym, subst}
use Rattle.std.specs.Fmt.{digits}
use Rattle.zq_base.specs.declared.kind.Kind.TheVariants as kind
use Rattle.spec_run.specs.declared.script.Call.TheVariants as call
use Rattle.spec_pattern.specs.PipeStep.{PipeStep, Commit, Seal, Take, WaitingLook, DelimiterLook, AreExact}
use Rattle.spec_pattern.specs.Laws.{TakenIsPrefix}
use Rattle.spec_pattern.specs.declared.answers.RecvRefusal.TheVariants as recv
use Rattle.spec_pattern.specs.declared.answers.RecvAnswer.TheVariants as got
use Rattle.spec_pattern.specs.Pattern.{Push, Pull}
use Rattle.spec_pattern.specs.declared.answers.SendAnswer.TheVariants as sent
use Rattle.spec_control.specs.declared.request.Reply.TheVariants.{Done, Object, Pair, Asked}
use Rattle.zq_base.specs.declared.ids.ObjId.{ObjId}
use Rattle.spec_control.specs.declared.stage.Use.TheVariants.{Used}
use Rattle.spec_control.specs.Rows.{obj}
use Rattle.spec_control.specs.Control.{Control, begun, id, end_of}
use Rattle.spec_control.specs.ControlRun.{IsControlRun}
use Rattle.spec_control.specs.Moments.{moments_from}
use Rattle.spec_run.proofs.PlainLemmas.{never}
use Rattle.spec_control.specs.Names.{AreNamed}
use Rattle.spec_control.specs.ControlExamples.{Stories}
use Rattle.spec_control.specs.Has.{AreBy}
use Rattle.spec_control.proofs.TrialLemmas.{none, one, acts, takes, of_root, told}
use Rattle.spec_run.specs.TextParts.{options_with, pair_nr, at_q, got_from_1}
use Rattle.spec_run.specs.ExampleParts.{moment, line_nr, over_at}
use Rattle.spec_run.specs.declared.script.Line.{Line}
use Rattle.spec_run.specs.declared.answer.Answer.TheVariants as answer
use Rattle.spec_run.specs.Act.{Step, Said}
use Rattle.spec_run.specs.OpenSocket.{OpenSock, new_open, sock_after}
use Rattle.spec_run.specs.Event.{finds_one, finds_end}
use Rattle.spec_run.specs.Pump.{found_empty}
use Rattle.spec_run.specs.Standing.{ActorStanding, standing_before, DoesTry, ShutsFirst}
use Rattle.spec_run.specs.Worker.{roles}
use Rattle.spec_run.specs.OwnedRun.{IsRun, every_pipe, AllWork, AreTold, AllSettledSo, pipe_capacity, control_at_end, all_steps}
use Rattle.spec_run.specs.InTurns.{IsInTurns, IsOneThread}
use Rattle.spec_run.specs.Journal.{IsRunJournal}
use Rattle.spec_run.specs.JournalText.{journal_text}
use Rattle.spec_run.specs.ReadExample.{read_script, read_order, read_turned, read_run, read_schedule, read_journal, read_text}
use Rattle.spec_run.proofs.CapacityLemmas.{looks_in}
use Rattle.spec_run.proofs.JournalLemmas.{all_fates}

-- a look finds the mailbox of the one closed socket empty
one_closed : (c : Control) (o : ObjId) → c.closed ≡ o ∷ [] → c.boxes (obj c.rows o.0).slot ≡ [] → All (λ i. (obj c.rows i.0).request ≡ Used → c.boxes (obj c.rows i.0).slot ≡ []) c.closed
one_closed c o e h =
    subst (λ (os : List ObjId). All (λ i. (obj c.rows i.0).request ≡ Used → c.boxes (obj c.rows i.0).slot ≡ []) os) (sym e)
    (one (λ (i : ObjId). (obj c.rows i.0).request ≡ Used → c.boxes (obj c.rows i.0).slot ≡ []) o (λ u. h))

read_control : (stories : Stories) → IsControlRun (begun 1) (read_order stories)
read_control stories = (record { empty = tt; root = refl; live = refl; room = refl }, (record { may = (tt, refl); answered = record { joined = refl; kinds = tt; opened = refl; settled = refl; output = refl } }, (record { empty = (refl, none _); root = refl; live = refl; room = refl }, (record { empty = tt; root = refl; live = refl; room = refl }, (record { may = (tt, refl); answered = record { joined = refl; kinds = tt; opened = refl; settled = refl; output = refl } }, (record { empty = (refl, none _); root = refl; live = refl; room = refl }, (record { empty = tt; root = refl; live = refl; room = refl }, (record { empty = refl; root = refl; live = refl; room = refl }, (record { may = (record { socket = refl; open_still = refl; lives = refl }, refl); answered = record { joined = refl; kinds = tt; opened = refl; settled = refl; output = refl } }, (record { empty = (refl, none _); root = refl; live = refl; room = refl }, (record { empty = tt; root = refl; live = refl; room = refl }, (record { empty = refl; root = refl; live = refl; room = refl }, (record { may = (record { socket = refl; open_still = refl; lives = refl }, refl); answered = record { joined = refl; kinds = (tt, tt); opened = refl; settled = refl; output = refl } }, (record { empty = (refl, none _); root = refl; live = refl; room = refl }, (record { empty = tt; root = refl; live = refl; room = refl }, (record { empty = refl; root = refl; live = refl; room = refl }, (record { empty = (refl, none _); root = refl; live = refl; room = refl }, (record { empty = tt; root = refl; live = refl; room = refl }, (record { empty = refl; root = refl; live = refl; room = refl }, (record { empty = (refl, none _); root = refl; live = refl; room = refl }, (record { empty = tt; root = refl; live = refl; room = refl }, (record { may = (record { socket = refl; open_still = refl; lives = refl }, refl); answered = record { joined = refl; kinds = tt; opened = refl; settled = refl; output = refl } }, (record { may = record { behind = _; oldest = refl; held = refl }; answered = record { joined = refl; kinds = (tt, tt); opened = refl; settled = refl; output = λ h. absurd (never h) } }, (record { empty = tt; root = refl; live = refl; room = refl }, (record { may = record { behind = _; oldest = refl; held = refl }; answered = record { joined = refl; kinds = (tt, tt); opened = refl; settled = refl; output = λ h. absurd (never h) } }, (record { empty = refl; root = refl; live = refl; room = refl }, (record { may = record { behind = _; oldest = refl; held = refl }; answered = record { joined = refl; kinds = tt; opened = refl; settled = refl; output = λ h. absurd (never h) } }, (record { empty = tt; root = refl; live = refl; room = refl }, (record { may = record { behind = _; oldest = refl; held = refl }; answered = record { joined = refl; kinds = tt; opened = refl; settled = refl; output = λ h. absurd (never h) } }, (record { empty = refl; root = refl; live = refl; room = refl }, (record { empty = (refl, one_closed (moment (read_order stories) 30).found (id 2) refl refl); root = refl; live = refl; room = refl }, (record { empty = tt; root = refl; live = refl; room = refl }, (record { empty = refl; root = refl; live = refl; room = refl }, (record { may = record { looked_at = refl; held = refl }; answered = record { joined = refl; kinds = tt; opened = refl; settled = refl; output = refl } }, (record { may = record { behind = _; oldest = refl; held = refl }; answered = record { joined = refl; kinds = tt; opened = refl; settled = record { adds_up = refl; read_out = λ e. refl }; output = λ h. absurd (never h) } }, (record { empty = tt; root = refl; live = refl; room = refl }, (record { may = (record { socket = refl; open_still = refl; lives = refl }, refl); answered = record { joined = refl; kinds = tt; opened = refl; settled = refl; output = refl } }, (record { may = record { behind = _; oldest = refl; held = refl }; answered = record { joined = refl; kinds = tt; opened = refl; settled = refl; output = λ h. absurd (never h) } }, (record { empty = tt; root = refl; live = refl; room = refl }, (record { may = (tt, refl); answered = record { joined = refl; kinds = tt; opened = refl; settled = refl; output = refl } }, (record { may = record { behind = _; oldest = refl; held = refl }; answered = record { joined = refl; kinds = (tt, tt); opened = refl; settled = refl; output = λ h. absurd (never h) } }, (record { empty = tt; root = refl; live = refl; room = refl }, (record { may = record { behind = _; oldest = refl; held = refl }; answered = record { joined = refl; kinds = tt; opened = refl; settled = record { adds_up = refl; read_out = λ e. refl }; output = λ h. absurd (never h) } }, (record { empty = tt; root = refl; live = refl; room = refl }, (record { may = record { behind = _; oldest = refl; held = refl }; answered = record { joined = refl; kinds = tt; opened = refl; settled = refl; output = λ h. absurd (never h) } }, (record { empty = tt; root = refl; live = refl; room = refl }, (record { may = record { behind = _; oldest = refl; held = refl }; answered = record { joined = refl; kinds = tt; opened = refl; settled = refl; output = λ h. absurd (never h) } }, (record { empty = tt; root = refl; live = refl; room = refl }, tt))))))))))))))))))))))))))))))))))))))))))))))))

read_named : (stories : Stories) → AreNamed [] (read_order stories)
read_named stories = (none _, (none _, (none _, (none _, (none _, (none _, (none _, (none _, (none _, (none _, (none _, (none _, (told _ _ refl refl, (none _, (none _, (none _, (none _, (none _, (none _, (none _, (none _, (none _, (told _ _ refl refl, (none _, (told _ _ refl refl, (none _, (none _, (none _, (none _, (none _, (none _, (none _, (none _, (none _, (none _, (none _, (none _, (none _, (none _, (none _, (told _ _ refl refl, (none _, (none _, (none _, (none _, (none _, (none _, (none _, tt))))))))))))))))))))))))))))))))))))))))))))))))

read_asked : (stories : Stories) → AreBy [] (begun 1) (read_order stories)
read_asked stories = (tt, (takes _ _ _ _ _ refl refl refl, (tt, (tt, (takes _ _ _ _ _ refl refl refl, (tt, (tt, (tt, (acts _ _ _ _ _ refl refl refl, (tt, (tt, (tt, (acts _ _ _ _ _ refl refl refl, (tt, (tt, (tt, (tt, (tt, (tt, (tt, (tt, (acts _ _ _ _ _ refl refl refl, (takes _ _ _ _ _ refl refl refl, (tt, (acts _ _ _ _ _ refl refl refl, (tt, (acts _ _ _ _ _ refl refl refl, (tt, (acts _ _ _ _ _ refl refl refl, (tt, (tt, (tt, (tt, (acts _ _ _ _ _ refl refl refl, (acts _ _ _ _ _ refl refl refl, (tt, (acts _ _ _ _ _ refl refl refl, (of_root _ _ _ _ refl refl, (tt, (of_root _ _ _ _ refl refl, (takes _ _ _ _ _ refl refl refl, (tt, (acts _ _ _ _ _ refl refl refl, (tt, (acts _ _ _ _ _ refl refl refl, (tt, (of_root _ _ _ _ refl refl, (tt, tt))))))))))))))))))))))))))))))))))))))))))))))))

read_told : (stories : Stories) → AreTold 0 (moments_from (begun 1) (read_order stories)) (read_run stories).workers
read_told stories = (refl, (refl, (refl, (refl, tt))))

-- ---- the sockets, and how the actor stands behind each of its steps

abbrev pull_made : Stories → OpenSock
pull_made stories = new_open (moment (read_order stories) 1) 1 kind.Pull (options_with 1000)

abbrev push_made : Stories → OpenSock
push_made stories = new_open (moment (read_order stories) 4) 2 kind.Push (options_with 1000)

abbrev bound : Stories → OpenSock
bound stories = sock_after (moment (read_order stories) 8) (sock_after (moment (read_order stories) 7) (pull_made stories))

abbrev joined_push : Stories → OpenSock
joined_push stories = sock_after (moment (read_order stories) 12) (sock_after (moment (read_order stories) 11) (push_made stories))

abbrev pushed_once : Stories → OpenSock
pushed_once stories = sock_after (moment (read_order stories) 15) (joined_push stories)

abbrev pushed : Stories → OpenSock
pushed stories = sock_after (moment (read_order stories) 18) (pushed_once stories)

abbrev pull_taken : Stories → OpenSock
pull_taken stories = sock_after (moment (read_order stories) 25) (sock_after (moment (read_order stories) 24) (bound stories))

abbrev pull_reads : Stories → OpenSock
pull_reads stories = sock_after (moment (read_order stories) 29) (sock_after (moment (read_order stories) 28) (pull_taken stories))

abbrev pull_out : Stories → OpenSock
pull_out stories = sock_after (moment (read_order stories) 33) (sock_after (moment (read_order stories) 32) (pull_reads stories))

abbrev standing : (lines : List Line) → List (Option ℕ) → List OpenSock → ActorStanding
standing lines names socks = record { lines = lines; tried = 0; told = []; mine = record { names = names; socks = socks } }

abbrev stands_1 : Stories → ActorStanding
stands_1 stories = standing (line_nr 3 (call.Socket kind.Push (options_with 1000)) ∷ line_nr 4 (call.Bind 0 at_q) ∷ line_nr 5 (call.Connect 1 at_q) ∷ line_nr 6 (call.Send 1 (codes "a" ∷ [])) ∷ line_nr 7 (call.Send 1 (codes "b" ∷ [])) ∷ line_nr 8 (call.Close 1) ∷ line_nr 9 (call.Recv 0 1) ∷ line_nr 10 (call.Recv 0 1) ∷ line_nr 11 (call.Recv 0 1) ∷ []) (Some 1 ∷ []) (pull_made stories ∷ [])

abbrev stands_2 : Stories → ActorStanding
stands_2 stories = standing (line_nr 4 (call.Bind 0 at_q) ∷ line_nr 5 (call.Connect 1 at_q) ∷ line_nr 6 (call.Send 1 (codes "a" ∷ [])) ∷ line_nr 7 (call.Send 1 (codes "b" ∷ [])) ∷ line_nr 8 (call.Close 1) ∷ line_nr 9 (call.Recv 0 1) ∷ line_nr 10 (call.Recv 0 1) ∷ line_nr 11 (call.Recv 0 1) ∷ []) (Some 1 ∷ Some 2 ∷ []) (pull_made stories ∷ push_made stories ∷ [])

abbrev stands_3 : Stories → ActorStanding
stands_3 stories = standing (line_nr 5 (call.Connect 1 at_q) ∷ line_nr 6 (call.Send 1 (codes "a" ∷ [])) ∷ line_nr 7 (call.Send 1 (codes "b" ∷ [])) ∷ line_nr 8 (call.Close 1) ∷ line_nr 9 (call.Recv 0 1) ∷ line_nr 10 (call.Recv 0 1) ∷ line_nr 11 (call.Recv 0 1) ∷ []) (Some 1 ∷ Some 2 ∷ []) (bound stories ∷ push_made stories ∷ [])

abbrev stands_4 : Stories → ActorStanding
stands_4 stories = standing (line_nr 6 (call.Send 1 (codes "a" ∷ [])) ∷ line_nr 7 (call.Send 1 (codes "b" ∷ [])) ∷ line_nr 8 (call.Close 1) ∷ line_nr 9 (call.Recv 0 1) ∷ line_nr 10 (call.Recv 0 1) ∷ line_nr 11 (call.Recv 0 1) ∷ []) (Some 1 ∷ Some 2 ∷ []) (bound stories ∷ joined_push stories ∷ [])

abbrev stands_5 : Stories → ActorStanding
stands_5 stories = standing (line_nr 7 (call.Send 1 (codes "b" ∷ [])) ∷ line_nr 8 (call.Close 1) ∷ line_nr 9 (call.Recv 0 1) ∷ line_nr 10 (call.Recv 0 1) ∷ line_nr 11 (call.Recv 0 1) ∷ []) (Some 1 ∷ Some 2 ∷ []) (bound stories ∷ pushed_once stories ∷ [])

abbrev stands_6 : Stories → ActorStanding
stands_6 stories = standing (line_nr 8 (call.Close 1) ∷ line_nr 9 (call.Recv 0 1) ∷ line_nr 10 (call.Recv 0 1) ∷ line_nr 11 (call.Recv 0 1) ∷ []) (Some 1 ∷ Some 2 ∷ []) (bound stories ∷ pushed stories ∷ [])

abbrev stands_7 : Stories → ActorStanding
stands_7 stories = standing (line_nr 9 (call.Recv 0 1) ∷ line_nr 10 (call.Recv 0 1) ∷ line_nr 11 (call.Recv 0 1) ∷ []) (Some 1 ∷ Some 2 ∷ []) (bound stories ∷ [])

abbrev stands_8 : Stories → ActorStanding
stands_8 stories = standing (line_nr 10 (call.Recv 0 1) ∷ line_nr 11 (call.Recv 0 1) ∷ []) (Some 1 ∷ Some 2 ∷ []) (pull_taken stories ∷ [])

abbrev stands_9 : Stories → ActorStanding
stands_9 stories = standing (line_nr 11 (call.Recv 0 1) ∷ []) (Some 1 ∷ Some 2 ∷ []) (pull_reads stories ∷ [])

abbrev stands_10 : Stories → ActorStanding
stands_10 stories = standing ([]) (Some 1 ∷ Some 2 ∷ []) (pull_out stories ∷ [])

abbrev stands_11 : Stories → ActorStanding
stands_11 stories = standing ([]) (Some 1 ∷ Some 2 ∷ []) ([])

-- ---- the steps

step_1 : (stories : Stories) → DoesTry (standing_before (record { name = codes "a"; lines = line_nr 2 (call.Socket kind.Pull (options_with 1000)) ∷ line_nr 3 (call.Socket kind.Push (options_with 1000)) ∷ line_nr 4 (call.Bind 0 at_q) ∷ line_nr 5 (call.Connect 1 at_q) ∷ line_nr 6 (call.Send 1 (codes "a" ∷ [])) ∷ line_nr 7 (call.Send 1 (codes "b" ∷ [])) ∷ line_nr 8 (call.Close 1) ∷ line_nr 9 (call.Recv 0 1) ∷ line_nr 10 (call.Recv 0 1) ∷ line_nr 11 (call.Recv 0 1) ∷ [] })) (over_at (line_nr 2 (call.Socket kind.Pull (options_with 1000))) ([]) (Said (moment (read_order stories) 1) ∷ []) (answer.Object (id 1))) (stands_1 stories)
step_1 stories = record { rest = _; mine = _; lines_are = refl; does = record { reply = Object (id 1); made = moment (read_order stories) 1; request = record { by = 0; answered = _; item_is = refl }; no_pump = record { pump_is = refl; skips_are = refl }; call_is = refl; answer_is = refl; new_is = refl }; told_is = refl; over_is = refl; new_is = refl }

step_2 : (stories : Stories) → DoesTry (stands_1 stories) (over_at (line_nr 3 (call.Socket kind.Push (options_with 1000))) ([]) (Said (moment (read_order stories) 4) ∷ []) (answer.Object (id 2))) (stands_2 stories)
step_2 stories = record { rest = _; mine = _; lines_are = refl; does = record { reply = Object (id 2); made = moment (read_order stories) 4; request = record { by = 0; answered = _; item_is = refl }; no_pump = record { pump_is = refl; skips_are = refl }; call_is = refl; answer_is = refl; new_is = refl }; told_is = refl; over_is = refl; new_is = refl }

step_3 : (stories : Stories) → DoesTry (stands_2 stories) (over_at (line_nr 4 (call.Bind 0 at_q)) (Said (moment (read_order stories) 7) ∷ []) (Said (moment (read_order stories) 8) ∷ []) answer.Done) (stands_3 stories)
step_3 stories = record { rest = _; mine = _; lines_are = refl; does = record { pumped = _; called = bound stories; pumps = record { letters = []; last = Said (moment (read_order stories) 7) ∷ []; takes = tt; ends = found_empty (moment (read_order stories) 7) (omega arith) (record { sight = _; empty_is = refl; item_is = refl }) refl; heard = sock_after (moment (read_order stories) 7) (pull_made stories); hears = (tt, refl); steps = []; pattern = _; pumps = (refl, refl); looks = []; looks_are = refl; meets = refl; acts_are = refl }; does = record { reply = Done; made = moment (read_order stories) 8; request = record { by = 0; answered = _; item_is = refl }; call_is = refl; skips_are = refl; answer_is = refl; goes = (tt, refl) }; new_is = refl }; told_is = refl; over_is = refl; new_is = refl }

step_4 : (stories : Stories) → DoesTry (stands_3 stories) (over_at (line_nr 5 (call.Connect 1 at_q)) (Said (moment (read_order stories) 11) ∷ []) (Said (moment (read_order stories) 12) ∷ []) (answer.Pair (pair_nr 1))) (stands_4 stories)
step_4 stories = record { rest = _; mine = _; lines_are = refl; does = record { pumped = _; called = joined_push stories; pumps = record { letters = []; last = Said (moment (read_order stories) 11) ∷ []; takes = tt; ends = found_empty (moment (read_order stories) 11) (omega arith) (record { sight = _; empty_is = refl; item_is = refl }) refl; heard = sock_after (moment (read_order stories) 11) (push_made stories); hears = (tt, refl); steps = []; pattern = _; pumps = (refl, refl); looks = []; looks_are = refl; meets = refl; acts_are = refl }; does = record { reply = Pair (pair_nr 1); made = moment (read_order stories) 12; request = record { by = 0; answered = _; item_is = refl }; call_is = refl; skips_are = refl; answer_is = refl; goes = ((refl, tt), refl) }; new_is = refl }; told_is = refl; over_is = refl; new_is = refl }

step_5 : (stories : Stories) → DoesTry (stands_4 stories) (over_at (line_nr 6 (call.Send 1 (codes "a" ∷ []))) (Said (moment (read_order stories) 15) ∷ []) (Step (Commit (end_of 1 true) (codes "a" ∷ [])) ∷ []) (answer.Pair (pair_nr 1))) (stands_5 stories)
step_5 stories = record { rest = _; mine = _; lines_are = refl; does = record { pumped = _; called = _; pumps = record { letters = []; last = Said (moment (read_order stories) 15) ∷ []; takes = tt; ends = found_empty (moment (read_order stories) 15) (omega arith) (record { sight = _; empty_is = refl; item_is = refl }) refl; heard = sock_after (moment (read_order stories) 15) (joined_push stories); hears = (tt, refl); steps = []; pattern = _; pumps = (refl, refl); looks = []; looks_are = refl; meets = refl; acts_are = refl }; does = record { steps = Commit (end_of 1 true) (codes "a" ∷ []) ∷ []; sent = sent.One (pair_nr 1); pattern = Push (end_of 1 true ∷ []); sends = (end_of 1 true ∷ [], record { before = []; peer = end_of 1 true; after = []; turns_are = refl; open_is = refl; steps_are = refl; to_is = refl; new_is = refl }, refl); call_is = refl; skips_are = refl; answer_is = refl; new_is = refl }; new_is = refl }; told_is = refl; over_is = refl; new_is = refl }

step_6 : (stories : Stories) → DoesTry (stands_5 stories) (over_at (line_nr 7 (call.Send 1 (codes "b" ∷ []))) (Said (moment (read_order stories) 18) ∷ []) (Step (Commit (end_of 1 true) (codes "b" ∷ [])) ∷ []) (answer.Pair (pair_nr 1))) (stands_6 stories)
step_6 stories = record { rest = _; mine = _; lines_are = refl; does = record { pumped = _; called = pushed stories; pumps = record { letters = []; last = Said (moment (read_order stories) 18) ∷ []; takes = tt; ends = found_empty (moment (read_order stories) 18) (omega arith) (record { sight = _; empty_is = refl; item_is = refl }) refl; heard = sock_after (moment (read_order stories) 18) (sock_after (moment (read_order stories) 15) (joined_push stories)); hears = (tt, refl); steps = []; pattern = _; pumps = (refl, refl); looks = []; looks_are = refl; meets = refl; acts_are = refl }; does = record { steps = Commit (end_of 1 true) (codes "b" ∷ []) ∷ []; sent = sent.One (pair_nr 1); pattern = Push (end_of 1 true ∷ []); sends = (end_of 1 true ∷ [], record { before = []; peer = end_of 1 true; after = []; turns_are = refl; open_is = refl; steps_are = refl; to_is = refl; new_is = refl }, refl); call_is = refl; skips_are = refl; answer_is = refl; new_is = refl }; new_is = refl }; told_is = refl; over_is = refl; new_is = refl }

step_7 : (stories : Stories) → DoesTry (stands_6 stories) (over_at (line_nr 8 (call.Close 1)) ([]) (Said (moment (read_order stories) 21) ∷ []) answer.Done) (stands_7 stories)
step_7 stories = record { rest = _; mine = _; lines_are = refl; does = record { no_pump = record { pump_is = refl; skips_are = refl }; closes = record { closed = moment (read_order stories) 21; request = record { by = 0; answered = _; item_is = refl }; acts_are = refl; new_is = refl }; answer_is = refl }; told_is = refl; over_is = refl; new_is = refl }

step_8 : (stories : Stories) → DoesTry (stands_7 stories) (over_at (line_nr 9 (call.Recv 0 1)) (Said (moment (read_order stories) 24) ∷ Said (moment (read_order stories) 25) ∷ []) (Step (Take (end_of 1 true) (codes "a" ∷ [])) ∷ []) (got_from_1 (codes "a"))) (stands_8 stories)
step_8 stories = record { rest = _; mine = _; lines_are = refl; does = record { pumped = _; called = pull_taken stories; pumps = record { letters = (Said (moment (read_order stories) 24) ∷ []) ∷ []; last = Said (moment (read_order stories) 25) ∷ []; takes = (record { taken = moment (read_order stories) 24; letter = _; looks = []; delivery = record { by = 0; answered = _; item_is = refl }; behind = refl; acts_are = refl }, tt); ends = found_empty (moment (read_order stories) 25) (omega arith) (record { sight = _; empty_is = refl; item_is = refl }) refl; heard = sock_after (moment (read_order stories) 25) (sock_after (moment (read_order stories) 24) (bound stories)); hears = ((refl, tt), (tt, refl)); steps = []; pattern = _; pumps = (refl, refl); looks = []; looks_are = refl; meets = refl; acts_are = refl }; does = record { steps = Take (end_of 1 true) (codes "a" ∷ []) ∷ []; got = got.Got (pair_nr 1) (codes "a" ∷ []); pattern = Pull (end_of 1 false ∷ []); receives = (refl, (end_of 1 false ∷ [], record { before = []; peer = end_of 1 false; after = []; looks = []; turns_are = refl; looks_are = refl; steps_are = refl; from_is = refl; new_is = refl }, refl)); call_is = refl; answer_is = refl; new_is = refl }; new_is = refl }; told_is = refl; over_is = refl; new_is = refl }

step_9 : (stories : Stories) → DoesTry (stands_8 stories) (over_at (line_nr 10 (call.Recv 0 1)) (Said (moment (read_order stories) 28) ∷ Step (WaitingLook (end_of 1 true)) ∷ Said (moment (read_order stories) 29) ∷ Step (WaitingLook (end_of 1 true)) ∷ []) (Step (Take (end_of 1 true) (codes "b" ∷ [])) ∷ []) (got_from_1 (codes "b"))) (stands_9 stories)
step_9 stories = record { rest = _; mine = _; lines_are = refl; does = record { pumped = _; called = pull_reads stories; pumps = record { letters = (Said (moment (read_order stories) 28) ∷ Step (WaitingLook (end_of 1 true)) ∷ []) ∷ []; last = Said (moment (read_order stories) 29) ∷ []; takes = (record { taken = moment (read_order stories) 28; letter = _; looks = Step (WaitingLook (end_of 1 true)) ∷ []; delivery = record { by = 0; answered = _; item_is = refl }; behind = finds_one refl; acts_are = refl }, tt); ends = found_empty (moment (read_order stories) 29) (omega arith) (record { sight = _; empty_is = refl; item_is = refl }) refl; heard = pull_reads stories; hears = (tt, (tt, refl)); steps = []; pattern = _; pumps = (refl, refl); looks = Step (WaitingLook (end_of 1 true)) ∷ []; looks_are = (Step (WaitingLook (end_of 1 true)) ∷ [], [], finds_one refl, refl, refl); meets = refl; acts_are = refl }; does = record { steps = Take (end_of 1 true) (codes "b" ∷ []) ∷ []; got = got.Got (pair_nr 1) (codes "b" ∷ []); pattern = Pull (end_of 1 false ∷ []); receives = (refl, (end_of 1 false ∷ [], record { before = []; peer = end_of 1 false; after = []; looks = []; turns_are = refl; looks_are = refl; steps_are = refl; from_is = refl; new_is = refl }, refl)); call_is = refl; answer_is = refl; new_is = refl }; new_is = refl }; told_is = refl; over_is = refl; new_is = refl }

step_10 : (stories : Stories) → DoesTry (stands_9 stories) (over_at (line_nr 11 (call.Recv 0 1)) (Said (moment (read_order stories) 32) ∷ Step (DelimiterLook (end_of 1 true)) ∷ Said (moment (read_order stories) 33) ∷ []) ([]) (answer.NotReceived recv.Again)) (stands_10 stories)
step_10 stories = record { rest = _; mine = _; lines_are = refl; does = record { pumped = _; called = pull_out stories; pumps = record { letters = []; last = Said (moment (read_order stories) 32) ∷ []; takes = tt; ends = found_empty (moment (read_order stories) 32) (omega arith) (record { sight = _; empty_is = refl; item_is = refl }) refl; heard = sock_after (moment (read_order stories) 32) (pull_reads stories); hears = (tt, refl); steps = []; pattern = _; pumps = (refl, refl); looks = Step (DelimiterLook (end_of 1 true)) ∷ Said (moment (read_order stories) 33) ∷ []; looks_are = (Step (DelimiterLook (end_of 1 true)) ∷ Said (moment (read_order stories) 33) ∷ [], [], finds_end (moment (read_order stories) 33) (record { by = 0; answered = _; item_is = refl }) refl, refl, refl); meets = (tt, refl); acts_are = refl }; does = record { steps = []; got = got.Refused recv.Again; pattern = Pull []; receives = (refl, ([], (refl, record { looks_are = refl; new_is = refl }), refl)); call_is = refl; answer_is = refl; new_is = refl }; new_is = refl }; told_is = refl; over_is = refl; new_is = refl }

step_11 : (stories : Stories) → ShutsFirst (stands_10 stories) (Said (moment (read_order stories) 36) ∷ []) (stands_11 stories)
step_11 stories = record { first = pull_out stories; others = []; mine = _; no_lines = refl; socks_are = refl; closes = record { closed = moment (read_order stories) 36; request = record { by = 0; answered = _; item_is = refl }; acts_are = refl; new_is = refl }; new_is = refl }

read_local : (stories : Stories) → AllWork (roles read_script 1) (read_run stories).workers
read_local stories = ((_, (stands_1 stories, step_1 stories, (stands_2 stories, step_2 stories, (stands_3 stories, step_3 stories, (stands_4 stories, step_4 stories, (stands_5 stories, step_5 stories, (stands_6 stories, step_6 stories, (stands_7 stories, step_7 stories, (stands_8 stories, step_8 stories, (stands_9 stories, step_9 stories, (stands_10 stories, step_10 stories, (stands_11 stories, step_11 stories, refl)))))))))))), ((record { sight = _; empty_is = refl; item_is = refl }, (record { sight = _; empty_is = refl; item_is = refl }, (record { sight = _; empty_is = refl; item_is = refl }, (record { sight = _; empty_is = refl; item_is = refl }, (record { sight = _; empty_is = refl; item_is = refl }, (record { sight = _; empty_is = refl; item_is = refl }, (record { takes = record { taken = moment (read_order stories) 22; letter = _; looks = []; delivery = record { by = 1; answered = _; item_is = refl }; behind = refl; acts_are = refl }; has = refl }, (record { takes = record { taken = moment (read_order stories) 26; letter = _; looks = []; delivery = record { by = 1; answered = _; item_is = refl }; behind = refl; acts_are = refl }; has = refl }, (record { sight = _; empty_is = refl; item_is = refl }, (record { takes = record { taken = moment (read_order stories) 34; letter = _; looks = []; delivery = record { by = 1; answered = _; item_is = refl }; behind = refl; acts_are = refl }; has = refl }, (record { takes = record { taken = moment (read_order stories) 37; letter = _; looks = []; delivery = record { by = 1; answered = _; item_is = refl }; behind = refl; acts_are = refl }; has = refl }, (record { takes = record { taken = moment (read_order stories) 40; letter = _; looks = []; delivery = record { by = 1; answered = _; item_is = refl }; behind = refl; acts_are = refl }; has = refl }, (record { takes = record { taken = moment (read_order stories) 42; letter = _; looks = []; delivery = record { by = 1; answered = _; item_is = refl }; behind = refl; acts_are = refl }; has = refl }, (record { takes = record { taken = moment (read_order stories) 44; letter = _; looks = []; delivery = record { by = 1; answered = _; item_is = refl }; behind = refl; acts_are = refl }; has = refl }, (record { takes = record { taken = moment (read_order stories) 46; letter = _; looks = []; delivery = record { by = 1; answered = _; item_is = refl }; behind = refl; acts_are = refl }; has = refl }, tt))))))))))))))), (refl, ((tt, (record { sight = _; empty_is = refl; item_is = refl }, (tt, (record { sight = _; empty_is = refl; item_is = refl }, (tt, (record { sight = _; empty_is = refl; item_is = refl }, (tt, (record { sight = _; empty_is = refl; item_is = refl }, (tt, (record { sight = _; empty_is = refl; item_is = refl }, (tt, (record { sight = _; empty_is = refl; item_is = refl }, (tt, (record { sight = _; empty_is = refl; item_is = refl }, (tt, (record { sight = _; empty_is = refl; item_is = refl }, (tt, (record { sight = _; empty_is = refl; item_is = refl }, (tt, (record { sight = _; empty_is = refl; item_is = refl }, (tt, (record { sight = _; empty_is = refl; item_is = refl }, (tt, (record { sight = _; empty_is = refl; item_is = refl }, (record { reply = Asked; asked = moment (read_order stories) 39; request = record { by = 3; answered = _; item_is = refl }; acts_are = refl }, (tt, (record { sight = _; empty_is = refl; item_is = refl }, (tt, (record { sight = _; empty_is = refl; item_is = refl }, (tt, (record { sight = _; empty_is = refl; item_is = refl }, (tt, (record { sight = _; empty_is = refl; item_is = refl }, tt))))))))))))))))))))))))))))))))), tt))))

read_settled : (stories : Stories) → AllSettledSo (read_run stories) (control_at_end 1 (read_run stories)).settlements
read_settled stories = (record { sent = refl; got = refl; sum = refl; reason = λ h. refl }, (record { sent = refl; got = refl; sum = refl; reason = λ h. absurd (omega (arith, h)) }, tt))

abbrev read_steps : List PipeStep
read_steps =
    Commit (end_of 1 true) (codes "a" ∷ []) ∷ Commit (end_of 1 true) (codes "b" ∷ []) ∷ Take (end_of 1 true) (codes "a" ∷ []) ∷ Seal (end_of 1 true)
    ∷ WaitingLook (end_of 1 true) ∷ WaitingLook (end_of 1 true) ∷ Take (end_of 1 true) (codes "b" ∷ []) ∷ DelimiterLook (end_of 1 true) ∷ []

read_exact : (stories : Stories) → AreExact (pipe_capacity (control_at_end 1 (read_run stories))) [] read_steps
read_exact stories = ((omega arith, omega arith, refl), ((omega arith, omega arith, refl), (refl, (refl, (omega arith, (omega arith, (refl, ((refl, refl), tt))))))))

read_is_run : TakenIsPrefix → (stories : Stories) → IsRun read_script 1 every_pipe (read_run stories)
read_is_run taken_prefix stories = record {
  «local» = read_local stories;
  in_order = λ p counts. taken_prefix (pipe_capacity (control_at_end 1 (read_run stories))) (read_steps) (read_exact stories) p;
  looks = λ p counts. looks_in 1 (pipe_capacity (control_at_end 1 (read_run stories))) (all_steps (read_run stories)) refl refl refl (omega arith) (omega arith) p;
  control = read_control stories;
  named = read_named stories;
  asked = read_asked stories;
  told = read_told stories;
  nobody_else = refl;
  links = λ o. tt;
  ended = read_settled stories;
}

read_in_turns : (stories : Stories) → IsInTurns read_script 1 15 (read_turned stories) (read_run stories)
read_in_turns stories = record {
  workers_are = refl;
  standings = stands_11 stories ∷ [];
  go = (record { look = record { sight = _; empty_is = refl; item_is = refl }; goes_on = refl; asks_if = refl }, (stands_1 stories ∷ [], (step_1 stories, (record { sight = _; empty_is = refl; item_is = refl }, refl, refl)), (record { look = record { sight = _; empty_is = refl; item_is = refl }; goes_on = refl; asks_if = refl }, (stands_2 stories ∷ [], (step_2 stories, (record { sight = _; empty_is = refl; item_is = refl }, refl, refl)), (record { look = record { sight = _; empty_is = refl; item_is = refl }; goes_on = refl; asks_if = refl }, (stands_3 stories ∷ [], (step_3 stories, (record { sight = _; empty_is = refl; item_is = refl }, refl, refl)), (record { look = record { sight = _; empty_is = refl; item_is = refl }; goes_on = refl; asks_if = refl }, (stands_4 stories ∷ [], (step_4 stories, (record { sight = _; empty_is = refl; item_is = refl }, refl, refl)), (record { look = record { sight = _; empty_is = refl; item_is = refl }; goes_on = refl; asks_if = refl }, (stands_5 stories ∷ [], (step_5 stories, (record { sight = _; empty_is = refl; item_is = refl }, refl, refl)), (record { look = record { sight = _; empty_is = refl; item_is = refl }; goes_on = refl; asks_if = refl }, (stands_6 stories ∷ [], (step_6 stories, (record { sight = _; empty_is = refl; item_is = refl }, refl, refl)), (record { look = record { sight = _; empty_is = refl; item_is = refl }; goes_on = refl; asks_if = refl }, (stands_7 stories ∷ [], (step_7 stories, (record { takes = record { taken = moment (read_order stories) 22; letter = _; looks = []; delivery = record { by = 1; answered = _; item_is = refl }; behind = refl; acts_are = refl }; first = refl }, refl, refl)), (record { look = record { sight = _; empty_is = refl; item_is = refl }; goes_on = refl; asks_if = refl }, (stands_8 stories ∷ [], (step_8 stories, (record { takes = record { taken = moment (read_order stories) 26; letter = _; looks = []; delivery = record { by = 1; answered = _; item_is = refl }; behind = refl; acts_are = refl }; first = refl }, refl, refl)), (record { look = record { sight = _; empty_is = refl; item_is = refl }; goes_on = refl; asks_if = refl }, (stands_9 stories ∷ [], (step_9 stories, (record { sight = _; empty_is = refl; item_is = refl }, refl, refl)), (record { look = record { sight = _; empty_is = refl; item_is = refl }; goes_on = refl; asks_if = refl }, (stands_10 stories ∷ [], (step_10 stories, (record { takes = record { taken = moment (read_order stories) 34; letter = _; looks = []; delivery = record { by = 1; answered = _; item_is = refl }; behind = refl; acts_are = refl }; first = refl }, refl, refl)), (record { look = record { sight = _; empty_is = refl; item_is = refl }; goes_on = refl; asks_if = refl }, (stands_11 stories ∷ [], (step_11 stories, (record { takes = record { taken = moment (read_order stories) 37; letter = _; looks = []; delivery = record { by = 1; answered = _; item_is = refl }; behind = refl; acts_are = refl }; first = refl }, refl, refl)), (record { look = record { sight = _; empty_is = refl; item_is = refl }; goes_on = refl; asks_if = (_, record { reply = Asked; asked = moment (read_order stories) 39; request = record { by = 3; answered = _; item_is = refl }; acts_are = refl }, refl) }, (stands_11 stories ∷ [], ((refl, refl), (record { takes = record { taken = moment (read_order stories) 40; letter = _; looks = []; delivery = record { by = 1; answered = _; item_is = refl }; behind = refl; acts_are = refl }; first = refl }, refl, refl)), (record { look = record { sight = _; empty_is = refl; item_is = refl }; goes_on = refl; asks_if = refl }, (stands_11 stories ∷ [], ((refl, refl), (record { takes = record { taken = moment (read_order stories) 42; letter = _; looks = []; delivery = record { by = 1; answered = _; item_is = refl }; behind = refl; acts_are = refl }; first = refl }, refl, refl)), (record { look = record { sight = _; empty_is = refl; item_is = refl }; goes_on = refl; asks_if = refl }, (stands_11 stories ∷ [], ((refl, refl), (record { takes = record { taken = moment (read_order stories) 44; letter = _; looks = []; delivery = record { by = 1; answered = _; item_is = refl }; behind = refl; acts_are = refl }; first = refl }, refl, refl)), (record { look = record { sight = _; empty_is = refl; item_is = refl }; goes_on = refl; asks_if = refl }, (stands_11 stories ∷ [], ((refl, refl), (record { takes = record { taken = moment (read_order stories) 46; letter = _; looks = []; delivery = record { by = 1; answered = _; item_is = refl }; behind = refl; acts_are = refl }; first = refl }, refl, refl)), refl))))))))))))))))))))))))))))));
  few = omega arith;
  rising = (omega arith, (omega arith, (omega arith, (omega arith, (omega arith, (omega arith, (omega arith, (omega arith, (omega arith, (omega arith, (omega arith, (omega arith, (omega arith, (omega arith, (omega arith, tt)))))))))))))));
  asked_last = refl;
  last = record { sight = _; empty_is = refl; item_is = refl };
  over = λ h. refl;
}

read_one_thread : (stories : Stories) → IsOneThread 0 read_script 1 (read_turned stories) (read_run stories)
read_one_thread stories = record {
  orders = (0 ∷ 1 ∷ 2 ∷ []) ∷ (0 ∷ 1 ∷ 2 ∷ []) ∷ (0 ∷ 1 ∷ 2 ∷ []) ∷ (0 ∷ 1 ∷ 2 ∷ []) ∷ (0 ∷ 1 ∷ 2 ∷ []) ∷ (0 ∷ 1 ∷ 2 ∷ []) ∷ (0 ∷ 1 ∷ 2 ∷ []) ∷ (0 ∷ 1 ∷ 2 ∷ []) ∷ (0 ∷ 1 ∷ 2 ∷ []) ∷ (0 ∷ 1 ∷ 2 ∷ []) ∷ (0 ∷ 1 ∷ 2 ∷ []) ∷ (0 ∷ 1 ∷ 2 ∷ []) ∷ (0 ∷ 1 ∷ 2 ∷ []) ∷ (0 ∷ 1 ∷ 2 ∷ []) ∷ (0 ∷ 1 ∷ 2 ∷ []) ∷ [];
  drawn = (0, inl (refl, refl, refl), (0, inl (refl, refl, refl), (0, inl (refl, refl, refl), (0, inl (refl, refl, refl), (0, inl (refl, refl, refl), (0, inl (refl, refl, refl), (0, inl (refl, refl, refl), (0, inl (refl, refl, refl), (0, inl (refl, refl, refl), (0, inl (refl, refl, refl), (0, inl (refl, refl, refl), (0, inl (refl, refl, refl), (0, inl (refl, refl, refl), (0, inl (refl, refl, refl), (0, inl (refl, refl, refl), refl)))))))))))))));
  one_order = refl;
  exact = read_exact stories;
}

pub read_over : TakenIsPrefix → (stories : Stories) → IsRunJournal ℕ ℕ read_script read_schedule read_journal
read_over taken_prefix stories = record {
  run = read_run stories;
  turned = read_turned stories;
  is_run = read_is_run taken_prefix stories;
  in_turns = read_in_turns stories;
  one_thread = read_one_thread stories;
  all_end = all_fates _ (read_run stories) (read_settled stories);
  journal_is = refl;
}

pub read_printed : journal_text read_journal ≡ read_text
unfolding digits
read_printed = refl
