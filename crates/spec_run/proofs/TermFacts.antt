-- The worked run of a context that is asked to end with a message left is a run, and its journal is the one by hand.
use Rattle.std.specs.Prelude.{◌≡◌, ℕ, true, false, List, [], ◌∷◌, Some, Option, All, codes, refl}
use Rattle.std.proofs.Common.{inl, arith, sym, subst}
use Rattle.std.specs.Fmt.{digits}
use Rattle.zq_base.specs.declared.kind.Kind.TheVariants as kind
use Rattle.spec_run.specs.declared.script.Call.TheVariants as call
use Rattle.spec_pattern.specs.PipeStep.{Commit, DelimiterLook}
use Rattle.spec_pattern.specs.Pattern.{Push}
use Rattle.spec_pattern.specs.declared.answers.SendAnswer.TheVariants as sent
use Rattle.spec_pattern.specs.declared.answers.SendRefusal.TheVariants as send
use Rattle.spec_control.specs.declared.request.Reply.TheVariants.{Done, Object, Pair, Asked}
use Rattle.zq_base.specs.declared.ids.ObjId.{ObjId}
use Rattle.spec_control.specs.declared.stage.Use.TheVariants.{Used}
use Rattle.spec_control.specs.Rows.{obj}
use Rattle.spec_control.specs.Control.{Control, begun, id, end_of}
use Rattle.spec_control.specs.ControlRun.{IsControlRun}
use Rattle.spec_control.specs.Names.{AreNamed}
use Rattle.spec_control.specs.ControlExamples.{Stories}
use Rattle.spec_control.specs.Has.{AreBy}
use Rattle.spec_control.proofs.TrialLemmas.{none, one, acts, takes, of_root, told}
use Rattle.spec_run.specs.declared.answer.Answer.TheVariants as answer
use Rattle.spec_run.specs.TextParts.{options_with, pair_nr, at_q}
use Rattle.spec_control.specs.Moments.{moments_from}
use Rattle.spec_run.specs.ExampleParts.{moment, line_nr, over_at}
use Rattle.spec_run.specs.declared.script.Line.{Line}
use Rattle.spec_run.specs.Act.{Step, Said}
use Rattle.spec_run.specs.OpenSocket.{OpenSock, new_open, sock_after}
use Rattle.spec_run.specs.Event.{finds_end}
use Rattle.spec_run.specs.Pump.{found_empty}
use Rattle.spec_run.specs.Standing.{ActorStanding, standing_before, DoesTry, ShutsFirst}
use Rattle.spec_run.specs.Worker.{roles}
use Rattle.spec_run.specs.OwnedRun.{IsRun, every_pipe, AllWork, AreTold, AllSettledSo, control_at_end, pipe_capacity, all_steps}
use Rattle.spec_run.specs.InTurns.{IsInTurns, IsOneThread}
use Rattle.spec_run.specs.Journal.{IsRunJournal}
use Rattle.spec_run.specs.JournalText.{journal_text}
use Rattle.spec_run.specs.TermExample.{at_w, term_script, term_order, term_turned, term_run, term_schedule, term_journal, term_text}
use Rattle.spec_run.proofs.CapacityLemmas.{looks_in}
use Rattle.spec_run.proofs.JournalLemmas.{all_fates}
use Rattle.spec_run.proofs.PlainLemmas.{never, some_none}

-- a look finds the mailbox of the one closed socket empty
one_closed : (c : Control) (o : ObjId) → c.closed ≡ o ∷ [] → c.boxes (obj c.rows o.0).slot ≡ [] → All (λ i. (obj c.rows i.0).request ≡ Used → c.boxes (obj c.rows i.0).slot ≡ []) c.closed
one_closed c o e h =
    subst (λ (os : List ObjId). All (λ i. (obj c.rows i.0).request ≡ Used → c.boxes (obj c.rows i.0).slot ≡ []) os) (sym e)
    (one (λ (i : ObjId). (obj c.rows i.0).request ≡ Used → c.boxes (obj c.rows i.0).slot ≡ []) o (λ u. h))

term_control : (stories : Stories) → IsControlRun (begun 1) (term_order stories)
term_control stories = (record { empty = tt; root = refl; live = refl; room = refl }, (record { may = (tt, refl); answered = record { joined = refl; kinds = tt; opened = refl; settled = refl; output = refl } }, (record { may = (tt, refl); answered = record { joined = refl; kinds = tt; opened = refl; settled = refl; output = refl } }, (record { empty = (refl, none _); root = refl; live = refl; room = refl }, (record { empty = tt; root = refl; live = refl; room = refl }, (record { empty = refl; root = refl; live = refl; room = refl }, (record { may = (record { socket = refl; open_still = refl; lives = refl }, refl); answered = record { joined = refl; kinds = tt; opened = refl; settled = refl; output = refl } }, (record { empty = refl; root = refl; live = refl; room = refl }, (record { may = (record { socket = refl; open_still = refl; lives = refl }, refl); answered = record { joined = refl; kinds = tt; opened = refl; settled = refl; output = refl } }, (record { empty = (refl, none _); root = refl; live = refl; room = refl }, (record { empty = tt; root = refl; live = refl; room = refl }, (record { may = (record { socket = refl; open_still = refl; lives = refl }, refl); answered = record { joined = refl; kinds = tt; opened = refl; settled = refl; output = refl } }, (record { empty = refl; root = refl; live = refl; room = refl }, (record { may = (record { socket = refl; open_still = refl; lives = refl }, refl); answered = record { joined = refl; kinds = tt; opened = refl; settled = refl; output = refl } }, (record { may = record { behind = _; oldest = refl; held = refl }; answered = record { joined = refl; kinds = tt; opened = refl; settled = refl; output = λ h. absurd (never h) } }, (record { empty = tt; root = refl; live = refl; room = refl }, (record { empty = refl; root = refl; live = refl; room = refl }, (record { may = (record { socket = refl; open_still = refl; lives = refl }, refl); answered = record { joined = refl; kinds = (tt, tt); opened = refl; settled = refl; output = refl } }, (record { may = record { behind = _; oldest = refl; held = refl }; answered = record { joined = refl; kinds = tt; opened = refl; settled = refl; output = λ h. absurd (never h) } }, (record { empty = tt; root = refl; live = refl; room = refl }, (record { empty = refl; root = refl; live = refl; room = refl }, (record { may = record { behind = _; oldest = refl; held = refl }; answered = record { joined = refl; kinds = (tt, tt); opened = refl; settled = refl; output = λ h. absurd (never h) } }, (record { empty = tt; root = refl; live = refl; room = refl }, (record { may = (tt, refl); answered = record { joined = refl; kinds = tt; opened = refl; settled = refl; output = refl } }, (record { empty = (refl, one_closed (moment (term_order stories) 24).found (id 1) refl refl); root = refl; live = refl; room = refl }, (record { empty = tt; root = refl; live = refl; room = refl }, (record { may = record { behind = _; oldest = refl; held = refl }; answered = record { joined = refl; kinds = tt; opened = refl; settled = refl; output = λ h. absurd (never h) } }, (record { may = record { looked_at = refl; held = refl }; answered = record { joined = refl; kinds = tt; opened = refl; settled = refl; output = refl } }, (record { may = record { behind = _; oldest = refl; held = refl }; answered = record { joined = refl; kinds = tt; opened = refl; settled = refl; output = λ h. absurd (never h) } }, (record { empty = refl; root = refl; live = refl; room = refl }, (record { may = record { behind = _; oldest = refl; held = refl }; answered = record { joined = refl; kinds = tt; opened = refl; settled = record { adds_up = refl; read_out = λ e. absurd (some_none e) }; output = λ h. absurd (never h) } }, (record { empty = tt; root = refl; live = refl; room = refl }, (record { may = (record { socket = refl; open_still = refl; lives = refl }, refl); answered = record { joined = refl; kinds = tt; opened = refl; settled = refl; output = refl } }, (record { may = record { behind = _; oldest = refl; held = refl }; answered = record { joined = refl; kinds = tt; opened = refl; settled = refl; output = λ h. absurd (never h) } }, (record { empty = tt; root = refl; live = refl; room = refl }, (record { may = record { behind = _; oldest = refl; held = refl }; answered = record { joined = refl; kinds = (tt, tt); opened = refl; settled = refl; output = λ h. absurd (never h) } }, (record { empty = tt; root = refl; live = refl; room = refl }, (record { may = record { behind = _; oldest = refl; held = refl }; answered = record { joined = refl; kinds = tt; opened = refl; settled = record { adds_up = refl; read_out = λ e. refl }; output = λ h. absurd (never h) } }, (record { empty = tt; root = refl; live = refl; room = refl }, (record { may = record { behind = _; oldest = refl; held = refl }; answered = record { joined = refl; kinds = tt; opened = refl; settled = refl; output = λ h. absurd (never h) } }, (record { empty = tt; root = refl; live = refl; room = refl }, (record { may = record { behind = _; oldest = refl; held = refl }; answered = record { joined = refl; kinds = tt; opened = refl; settled = refl; output = λ h. absurd (never h) } }, (record { empty = tt; root = refl; live = refl; room = refl }, tt)))))))))))))))))))))))))))))))))))))))))))

term_named : (stories : Stories) → AreNamed [] (term_order stories)
term_named stories = (none _, (none _, (none _, (none _, (none _, (none _, (none _, (none _, (none _, (none _, (none _, (none _, (none _, (none _, (none _, (none _, (none _, (told _ _ refl refl, (none _, (none _, (none _, (told _ _ refl refl, (none _, (none _, (none _, (none _, (none _, (none _, (none _, (none _, (none _, (none _, (none _, (none _, (none _, (told _ _ refl refl, (none _, (none _, (none _, (none _, (none _, (none _, (none _, tt)))))))))))))))))))))))))))))))))))))))))))

term_asked : (stories : Stories) → AreBy [] (begun 1) (term_order stories)
term_asked stories = (tt, (takes _ _ _ _ _ refl refl refl, (takes _ _ _ _ _ refl refl refl, (tt, (tt, (tt, (acts _ _ _ _ _ refl refl refl, (tt, (acts _ _ _ _ _ refl refl refl, (tt, (tt, (acts _ _ _ _ _ refl refl refl, (tt, (acts _ _ _ _ _ refl refl refl, (takes _ _ _ _ _ refl refl refl, (tt, (tt, (acts _ _ _ _ _ refl refl refl, (acts _ _ _ _ _ refl refl refl, (tt, (tt, (acts _ _ _ _ _ refl refl refl, (tt, (of_root _ _ _ _ refl refl, (tt, (tt, (acts _ _ _ _ _ refl refl refl, (acts _ _ _ _ _ refl refl refl, (acts _ _ _ _ _ refl refl refl, (tt, (acts _ _ _ _ _ refl refl refl, (tt, (acts _ _ _ _ _ refl refl refl, (of_root _ _ _ _ refl refl, (tt, (takes _ _ _ _ _ refl refl refl, (tt, (acts _ _ _ _ _ refl refl refl, (tt, (acts _ _ _ _ _ refl refl refl, (tt, (of_root _ _ _ _ refl refl, (tt, tt)))))))))))))))))))))))))))))))))))))))))))

term_told : (stories : Stories) → AreTold 0 (moments_from (begun 1) (term_order stories)) (term_run stories).workers
term_told stories = (refl, (refl, (refl, (refl, (refl, tt)))))

-- ---- the sockets, and how the actors stand behind each of their steps

abbrev pull_made : Stories → OpenSock
pull_made stories = new_open (moment (term_order stories) 1) 1 kind.Pull (options_with 1000)

abbrev pull_bound : Stories → OpenSock
pull_bound stories = sock_after (moment (term_order stories) 6) (sock_after (moment (term_order stories) 5) (pull_made stories))

abbrev push_made : Stories → OpenSock
push_made stories = new_open (moment (term_order stories) 2) 2 kind.Push (options_with 1000)

abbrev push_bound : Stories → OpenSock
push_bound stories = sock_after (moment (term_order stories) 8) (sock_after (moment (term_order stories) 7) (push_made stories))

abbrev push_unbound : Stories → OpenSock
push_unbound stories = sock_after (moment (term_order stories) 13) (sock_after (moment (term_order stories) 12) (push_bound stories))

abbrev push_joined : Stories → OpenSock
push_joined stories = sock_after (moment (term_order stories) 17) (sock_after (moment (term_order stories) 16) (push_unbound stories))

abbrev push_sent : Stories → OpenSock
push_sent stories = sock_after (moment (term_order stories) 20) (push_joined stories)

-- the delimiter is met, and the socket is stopped
abbrev push_stopped : Stories → OpenSock
push_stopped stories = sock_after (moment (term_order stories) 29) (sock_after (moment (term_order stories) 28) (sock_after (moment (term_order stories) 27) (sock_after (moment (term_order stories) 26) (push_sent stories))))

abbrev standing : (lines : List Line) → List (Option ℕ) → List OpenSock → ActorStanding
standing lines names socks = record { lines = lines; tried = 0; told = []; mine = record { names = names; socks = socks } }

abbrev a_1 : Stories → ActorStanding
a_1 stories = standing (line_nr 3 (call.Bind 0 at_q) ∷ line_nr 4 (call.Close 0) ∷ []) (Some 1 ∷ []) (pull_made stories ∷ [])

abbrev a_2 : Stories → ActorStanding
a_2 stories = standing (line_nr 4 (call.Close 0) ∷ []) (Some 1 ∷ []) (pull_bound stories ∷ [])

abbrev a_3 : Stories → ActorStanding
a_3 stories = standing ([]) (Some 1 ∷ []) ([])

abbrev b_1 : Stories → ActorStanding
b_1 stories = standing (line_nr 7 (call.Bind 0 at_w) ∷ line_nr 8 (call.Unbind 0 at_w) ∷ line_nr 9 (call.Connect 0 at_q) ∷ line_nr 10 (call.Send 0 (codes "m" ∷ [])) ∷ line_nr 11 call.Term ∷ line_nr 12 (call.Send 0 (codes "m" ∷ [])) ∷ []) (Some 2 ∷ []) (push_made stories ∷ [])

abbrev b_2 : Stories → ActorStanding
b_2 stories = standing (line_nr 8 (call.Unbind 0 at_w) ∷ line_nr 9 (call.Connect 0 at_q) ∷ line_nr 10 (call.Send 0 (codes "m" ∷ [])) ∷ line_nr 11 call.Term ∷ line_nr 12 (call.Send 0 (codes "m" ∷ [])) ∷ []) (Some 2 ∷ []) (push_bound stories ∷ [])

abbrev b_3 : Stories → ActorStanding
b_3 stories = standing (line_nr 9 (call.Connect 0 at_q) ∷ line_nr 10 (call.Send 0 (codes "m" ∷ [])) ∷ line_nr 11 call.Term ∷ line_nr 12 (call.Send 0 (codes "m" ∷ [])) ∷ []) (Some 2 ∷ []) (push_unbound stories ∷ [])

abbrev b_4 : Stories → ActorStanding
b_4 stories = standing (line_nr 10 (call.Send 0 (codes "m" ∷ [])) ∷ line_nr 11 call.Term ∷ line_nr 12 (call.Send 0 (codes "m" ∷ [])) ∷ []) (Some 2 ∷ []) (push_joined stories ∷ [])

abbrev b_5 : Stories → ActorStanding
b_5 stories = standing (line_nr 11 call.Term ∷ line_nr 12 (call.Send 0 (codes "m" ∷ [])) ∷ []) (Some 2 ∷ []) (push_sent stories ∷ [])

abbrev b_6 : Stories → ActorStanding
b_6 stories = standing (line_nr 12 (call.Send 0 (codes "m" ∷ [])) ∷ []) (Some 2 ∷ []) (push_sent stories ∷ [])

abbrev b_7 : Stories → ActorStanding
b_7 stories = standing ([]) (Some 2 ∷ []) (push_stopped stories ∷ [])

abbrev b_8 : Stories → ActorStanding
b_8 stories = standing ([]) (Some 2 ∷ []) ([])

-- ---- the steps

a_step_1 : (stories : Stories) → DoesTry (standing_before (record { name = codes "a"; lines = line_nr 2 (call.Socket kind.Pull (options_with 1000)) ∷ line_nr 3 (call.Bind 0 at_q) ∷ line_nr 4 (call.Close 0) ∷ [] })) (over_at (line_nr 2 (call.Socket kind.Pull (options_with 1000))) ([]) (Said (moment (term_order stories) 1) ∷ []) (answer.Object (id 1))) (a_1 stories)
a_step_1 stories = record { rest = _; mine = _; lines_are = refl; does = record { reply = Object (id 1); made = moment (term_order stories) 1; request = record { by = 0; answered = _; item_is = refl }; no_pump = record { pump_is = refl; skips_are = refl }; call_is = refl; answer_is = refl; new_is = refl }; told_is = refl; over_is = refl; new_is = refl }

a_step_2 : (stories : Stories) → DoesTry (a_1 stories) (over_at (line_nr 3 (call.Bind 0 at_q)) (Said (moment (term_order stories) 5) ∷ []) (Said (moment (term_order stories) 6) ∷ []) answer.Done) (a_2 stories)
a_step_2 stories = record { rest = _; mine = _; lines_are = refl; does = record { pumped = _; called = pull_bound stories; pumps = record { letters = []; last = Said (moment (term_order stories) 5) ∷ []; takes = tt; ends = found_empty (moment (term_order stories) 5) (omega arith) (record { sight = _; empty_is = refl; item_is = refl }) refl; heard = sock_after (moment (term_order stories) 5) (pull_made stories); hears = (tt, refl); steps = []; pattern = _; pumps = (refl, refl); looks = []; looks_are = refl; meets = refl; acts_are = refl }; does = record { reply = Done; made = moment (term_order stories) 6; request = record { by = 0; answered = _; item_is = refl }; call_is = refl; skips_are = refl; answer_is = refl; goes = (tt, refl) }; new_is = refl }; told_is = refl; over_is = refl; new_is = refl }

a_step_3 : (stories : Stories) → DoesTry (a_2 stories) (over_at (line_nr 4 (call.Close 0)) ([]) (Said (moment (term_order stories) 11) ∷ []) answer.Done) (a_3 stories)
a_step_3 stories = record { rest = _; mine = _; lines_are = refl; does = record { no_pump = record { pump_is = refl; skips_are = refl }; closes = record { closed = moment (term_order stories) 11; request = record { by = 0; answered = _; item_is = refl }; acts_are = refl; new_is = refl }; answer_is = refl }; told_is = refl; over_is = refl; new_is = refl }

b_step_1 : (stories : Stories) → DoesTry (standing_before (record { name = codes "b"; lines = line_nr 6 (call.Socket kind.Push (options_with 1000)) ∷ line_nr 7 (call.Bind 0 at_w) ∷ line_nr 8 (call.Unbind 0 at_w) ∷ line_nr 9 (call.Connect 0 at_q) ∷ line_nr 10 (call.Send 0 (codes "m" ∷ [])) ∷ line_nr 11 call.Term ∷ line_nr 12 (call.Send 0 (codes "m" ∷ [])) ∷ [] })) (over_at (line_nr 6 (call.Socket kind.Push (options_with 1000))) ([]) (Said (moment (term_order stories) 2) ∷ []) (answer.Object (id 2))) (b_1 stories)
b_step_1 stories = record { rest = _; mine = _; lines_are = refl; does = record { reply = Object (id 2); made = moment (term_order stories) 2; request = record { by = 1; answered = _; item_is = refl }; no_pump = record { pump_is = refl; skips_are = refl }; call_is = refl; answer_is = refl; new_is = refl }; told_is = refl; over_is = refl; new_is = refl }

b_step_2 : (stories : Stories) → DoesTry (b_1 stories) (over_at (line_nr 7 (call.Bind 0 at_w)) (Said (moment (term_order stories) 7) ∷ []) (Said (moment (term_order stories) 8) ∷ []) answer.Done) (b_2 stories)
b_step_2 stories = record { rest = _; mine = _; lines_are = refl; does = record { pumped = _; called = push_bound stories; pumps = record { letters = []; last = Said (moment (term_order stories) 7) ∷ []; takes = tt; ends = found_empty (moment (term_order stories) 7) (omega arith) (record { sight = _; empty_is = refl; item_is = refl }) refl; heard = sock_after (moment (term_order stories) 7) (push_made stories); hears = (tt, refl); steps = []; pattern = _; pumps = (refl, refl); looks = []; looks_are = refl; meets = refl; acts_are = refl }; does = record { reply = Done; made = moment (term_order stories) 8; request = record { by = 1; answered = _; item_is = refl }; call_is = refl; skips_are = refl; answer_is = refl; goes = (tt, refl) }; new_is = refl }; told_is = refl; over_is = refl; new_is = refl }

b_step_3 : (stories : Stories) → DoesTry (b_2 stories) (over_at (line_nr 8 (call.Unbind 0 at_w)) (Said (moment (term_order stories) 12) ∷ []) (Said (moment (term_order stories) 13) ∷ []) answer.Done) (b_3 stories)
b_step_3 stories = record { rest = _; mine = _; lines_are = refl; does = record { pumped = _; called = push_unbound stories; pumps = record { letters = []; last = Said (moment (term_order stories) 12) ∷ []; takes = tt; ends = found_empty (moment (term_order stories) 12) (omega arith) (record { sight = _; empty_is = refl; item_is = refl }) refl; heard = sock_after (moment (term_order stories) 12) (push_bound stories); hears = (tt, refl); steps = []; pattern = _; pumps = (refl, refl); looks = []; looks_are = refl; meets = refl; acts_are = refl }; does = record { reply = Done; made = moment (term_order stories) 13; request = record { by = 1; answered = _; item_is = refl }; call_is = refl; skips_are = refl; answer_is = refl; goes = (tt, refl) }; new_is = refl }; told_is = refl; over_is = refl; new_is = refl }

b_step_4 : (stories : Stories) → DoesTry (b_3 stories) (over_at (line_nr 9 (call.Connect 0 at_q)) (Said (moment (term_order stories) 16) ∷ []) (Said (moment (term_order stories) 17) ∷ []) (answer.Pair (pair_nr 1))) (b_4 stories)
b_step_4 stories = record { rest = _; mine = _; lines_are = refl; does = record { pumped = _; called = push_joined stories; pumps = record { letters = []; last = Said (moment (term_order stories) 16) ∷ []; takes = tt; ends = found_empty (moment (term_order stories) 16) (omega arith) (record { sight = _; empty_is = refl; item_is = refl }) refl; heard = sock_after (moment (term_order stories) 16) (push_unbound stories); hears = (tt, refl); steps = []; pattern = _; pumps = (refl, refl); looks = []; looks_are = refl; meets = refl; acts_are = refl }; does = record { reply = Pair (pair_nr 1); made = moment (term_order stories) 17; request = record { by = 1; answered = _; item_is = refl }; call_is = refl; skips_are = refl; answer_is = refl; goes = ((refl, tt), refl) }; new_is = refl }; told_is = refl; over_is = refl; new_is = refl }

b_step_5 : (stories : Stories) → DoesTry (b_4 stories) (over_at (line_nr 10 (call.Send 0 (codes "m" ∷ []))) (Said (moment (term_order stories) 20) ∷ []) (Step (Commit (end_of 1 true) (codes "m" ∷ [])) ∷ []) (answer.Pair (pair_nr 1))) (b_5 stories)
b_step_5 stories = record { rest = _; mine = _; lines_are = refl; does = record { pumped = _; called = push_sent stories; pumps = record { letters = []; last = Said (moment (term_order stories) 20) ∷ []; takes = tt; ends = found_empty (moment (term_order stories) 20) (omega arith) (record { sight = _; empty_is = refl; item_is = refl }) refl; heard = sock_after (moment (term_order stories) 20) (push_joined stories); hears = (tt, refl); steps = []; pattern = _; pumps = (refl, refl); looks = []; looks_are = refl; meets = refl; acts_are = refl }; does = record { steps = Commit (end_of 1 true) (codes "m" ∷ []) ∷ []; sent = sent.One (pair_nr 1); pattern = Push (end_of 1 true ∷ []); sends = (end_of 1 true ∷ [], record { before = []; peer = end_of 1 true; after = []; turns_are = refl; open_is = refl; steps_are = refl; to_is = refl; new_is = refl }, refl); call_is = refl; skips_are = refl; answer_is = refl; new_is = refl }; new_is = refl }; told_is = refl; over_is = refl; new_is = refl }

b_step_6 : (stories : Stories) → DoesTry (b_5 stories) (over_at (line_nr 11 call.Term) ([]) (Said (moment (term_order stories) 23) ∷ []) answer.Done) (b_6 stories)
b_step_6 stories = record { rest = _; mine = _; lines_are = refl; does = record { reply = Asked; made = moment (term_order stories) 23; request = record { by = 1; answered = _; item_is = refl }; no_pump = record { pump_is = refl; skips_are = refl }; call_is = refl; answer_is = refl; new_is = refl }; told_is = refl; over_is = refl; new_is = refl }

b_step_7 : (stories : Stories) → DoesTry (b_6 stories) (over_at (line_nr 12 (call.Send 0 (codes "m" ∷ []))) (Said (moment (term_order stories) 26) ∷ Step (DelimiterLook (end_of 1 false)) ∷ Said (moment (term_order stories) 27) ∷ Said (moment (term_order stories) 28) ∷ Said (moment (term_order stories) 29) ∷ []) ([]) (answer.NotSent send.Term)) (b_7 stories)
b_step_7 stories = record { rest = _; mine = _; lines_are = refl; does = record { pumped = _; called = push_stopped stories; pumps = record { letters = (Said (moment (term_order stories) 26) ∷ Step (DelimiterLook (end_of 1 false)) ∷ Said (moment (term_order stories) 27) ∷ []) ∷ (Said (moment (term_order stories) 28) ∷ []) ∷ []; last = Said (moment (term_order stories) 29) ∷ []; takes = (record { taken = moment (term_order stories) 26; letter = _; looks = Step (DelimiterLook (end_of 1 false)) ∷ Said (moment (term_order stories) 27) ∷ []; delivery = record { by = 1; answered = _; item_is = refl }; behind = finds_end (moment (term_order stories) 27) (record { by = 1; answered = _; item_is = refl }) refl; acts_are = refl }, (record { taken = moment (term_order stories) 28; letter = _; looks = []; delivery = record { by = 1; answered = _; item_is = refl }; behind = refl; acts_are = refl }, tt)); ends = found_empty (moment (term_order stories) 29) (omega arith) (record { sight = _; empty_is = refl; item_is = refl }) refl; heard = push_stopped stories; hears = (tt, (tt, (tt, (tt, refl)))); steps = []; pattern = _; pumps = (refl, refl); looks = []; looks_are = refl; meets = refl; acts_are = refl }; does = record { call_is = refl; skips_are = refl; answer_is = refl; new_is = refl }; new_is = refl }; told_is = refl; over_is = refl; new_is = refl }

b_step_8 : (stories : Stories) → ShutsFirst (b_7 stories) (Said (moment (term_order stories) 32) ∷ []) (b_8 stories)
b_step_8 stories = record { first = push_stopped stories; others = []; mine = _; no_lines = refl; socks_are = refl; closes = record { closed = moment (term_order stories) 32; request = record { by = 1; answered = _; item_is = refl }; acts_are = refl; new_is = refl }; new_is = refl }

term_local : (stories : Stories) → AllWork (roles term_script 1) (term_run stories).workers
term_local stories = ((_, (a_1 stories, a_step_1 stories, (a_2 stories, a_step_2 stories, (a_3 stories, a_step_3 stories, refl)))), ((_, (b_1 stories, b_step_1 stories, (b_2 stories, b_step_2 stories, (b_3 stories, b_step_3 stories, (b_4 stories, b_step_4 stories, (b_5 stories, b_step_5 stories, (b_6 stories, b_step_6 stories, (b_7 stories, b_step_7 stories, (b_8 stories, b_step_8 stories, refl))))))))), ((record { sight = _; empty_is = refl; item_is = refl }, (record { sight = _; empty_is = refl; item_is = refl }, (record { takes = record { taken = moment (term_order stories) 14; letter = _; looks = []; delivery = record { by = 2; answered = _; item_is = refl }; behind = refl; acts_are = refl }; has = refl }, (record { takes = record { taken = moment (term_order stories) 18; letter = _; looks = []; delivery = record { by = 2; answered = _; item_is = refl }; behind = refl; acts_are = refl }; has = refl }, (record { takes = record { taken = moment (term_order stories) 21; letter = _; looks = []; delivery = record { by = 2; answered = _; item_is = refl }; behind = refl; acts_are = refl }; has = refl }, (record { sight = _; empty_is = refl; item_is = refl }, (record { takes = record { taken = moment (term_order stories) 30; letter = _; looks = []; delivery = record { by = 2; answered = _; item_is = refl }; behind = refl; acts_are = refl }; has = refl }, (record { takes = record { taken = moment (term_order stories) 33; letter = _; looks = []; delivery = record { by = 2; answered = _; item_is = refl }; behind = refl; acts_are = refl }; has = refl }, (record { takes = record { taken = moment (term_order stories) 35; letter = _; looks = []; delivery = record { by = 2; answered = _; item_is = refl }; behind = refl; acts_are = refl }; has = refl }, (record { takes = record { taken = moment (term_order stories) 37; letter = _; looks = []; delivery = record { by = 2; answered = _; item_is = refl }; behind = refl; acts_are = refl }; has = refl }, (record { takes = record { taken = moment (term_order stories) 39; letter = _; looks = []; delivery = record { by = 2; answered = _; item_is = refl }; behind = refl; acts_are = refl }; has = refl }, (record { takes = record { taken = moment (term_order stories) 41; letter = _; looks = []; delivery = record { by = 2; answered = _; item_is = refl }; behind = refl; acts_are = refl }; has = refl }, tt)))))))))))), (refl, ((tt, (record { sight = _; empty_is = refl; item_is = refl }, (tt, (record { sight = _; empty_is = refl; item_is = refl }, (tt, (record { sight = _; empty_is = refl; item_is = refl }, (tt, (record { sight = _; empty_is = refl; item_is = refl }, (tt, (record { sight = _; empty_is = refl; item_is = refl }, (tt, (record { sight = _; empty_is = refl; item_is = refl }, (tt, (record { sight = _; empty_is = refl; item_is = refl }, (tt, (record { sight = _; empty_is = refl; item_is = refl }, (tt, (record { sight = _; empty_is = refl; item_is = refl }, (tt, (record { sight = _; empty_is = refl; item_is = refl }, (tt, (record { sight = _; empty_is = refl; item_is = refl }, (tt, (record { sight = _; empty_is = refl; item_is = refl }, (tt, (record { sight = _; empty_is = refl; item_is = refl }, tt)))))))))))))))))))))))))), tt)))))

term_settled : (stories : Stories) → AllSettledSo (term_run stories) (control_at_end 1 (term_run stories)).settlements
term_settled stories = (record { sent = refl; got = refl; sum = refl; reason = λ h. refl }, (record { sent = refl; got = refl; sum = refl; reason = λ h. absurd (omega (arith, h)) }, tt))

term_is_run : (stories : Stories) → IsRun term_script 1 every_pipe (term_run stories)
term_is_run stories = record {
  «local» = term_local stories;
  in_order = λ p counts. (_, refl);
  looks = λ p counts. looks_in 1 (pipe_capacity (control_at_end 1 (term_run stories))) (all_steps (term_run stories)) refl refl refl (omega arith) (omega arith) p;
  control = term_control stories;
  named = term_named stories;
  asked = term_asked stories;
  told = term_told stories;
  nobody_else = refl;
  links = λ o. tt;
  ended = term_settled stories;
}

term_in_turns : (stories : Stories) → IsInTurns term_script 1 100 (term_turned stories) (term_run stories)
term_in_turns stories = record {
  workers_are = refl;
  standings = a_3 stories ∷ b_8 stories ∷ [];
  go = (record { look = record { sight = _; empty_is = refl; item_is = refl }; goes_on = refl; asks_if = refl }, (a_1 stories ∷ b_1 stories ∷ [], (a_step_1 stories, (b_step_1 stories, (record { sight = _; empty_is = refl; item_is = refl }, refl, refl))), (record { look = record { sight = _; empty_is = refl; item_is = refl }; goes_on = refl; asks_if = refl }, (a_2 stories ∷ b_2 stories ∷ [], (a_step_2 stories, (b_step_2 stories, (record { sight = _; empty_is = refl; item_is = refl }, refl, refl))), (record { look = record { sight = _; empty_is = refl; item_is = refl }; goes_on = refl; asks_if = refl }, (a_3 stories ∷ b_3 stories ∷ [], (a_step_3 stories, (b_step_3 stories, (record { takes = record { taken = moment (term_order stories) 14; letter = _; looks = []; delivery = record { by = 2; answered = _; item_is = refl }; behind = refl; acts_are = refl }; first = refl }, refl, refl))), (record { look = record { sight = _; empty_is = refl; item_is = refl }; goes_on = refl; asks_if = refl }, (a_3 stories ∷ b_4 stories ∷ [], ((refl, refl), (b_step_4 stories, (record { takes = record { taken = moment (term_order stories) 18; letter = _; looks = []; delivery = record { by = 2; answered = _; item_is = refl }; behind = refl; acts_are = refl }; first = refl }, refl, refl))), (record { look = record { sight = _; empty_is = refl; item_is = refl }; goes_on = refl; asks_if = refl }, (a_3 stories ∷ b_5 stories ∷ [], ((refl, refl), (b_step_5 stories, (record { takes = record { taken = moment (term_order stories) 21; letter = _; looks = []; delivery = record { by = 2; answered = _; item_is = refl }; behind = refl; acts_are = refl }; first = refl }, refl, refl))), (record { look = record { sight = _; empty_is = refl; item_is = refl }; goes_on = refl; asks_if = refl }, (a_3 stories ∷ b_6 stories ∷ [], ((refl, refl), (b_step_6 stories, (record { sight = _; empty_is = refl; item_is = refl }, refl, refl))), (record { look = record { sight = _; empty_is = refl; item_is = refl }; goes_on = refl; asks_if = refl }, (a_3 stories ∷ b_7 stories ∷ [], ((refl, refl), (b_step_7 stories, (record { takes = record { taken = moment (term_order stories) 30; letter = _; looks = []; delivery = record { by = 2; answered = _; item_is = refl }; behind = refl; acts_are = refl }; first = refl }, refl, refl))), (record { look = record { sight = _; empty_is = refl; item_is = refl }; goes_on = refl; asks_if = refl }, (a_3 stories ∷ b_8 stories ∷ [], ((refl, refl), (b_step_8 stories, (record { takes = record { taken = moment (term_order stories) 33; letter = _; looks = []; delivery = record { by = 2; answered = _; item_is = refl }; behind = refl; acts_are = refl }; first = refl }, refl, refl))), (record { look = record { sight = _; empty_is = refl; item_is = refl }; goes_on = refl; asks_if = refl }, (a_3 stories ∷ b_8 stories ∷ [], ((refl, refl), ((refl, refl), (record { takes = record { taken = moment (term_order stories) 35; letter = _; looks = []; delivery = record { by = 2; answered = _; item_is = refl }; behind = refl; acts_are = refl }; first = refl }, refl, refl))), (record { look = record { sight = _; empty_is = refl; item_is = refl }; goes_on = refl; asks_if = refl }, (a_3 stories ∷ b_8 stories ∷ [], ((refl, refl), ((refl, refl), (record { takes = record { taken = moment (term_order stories) 37; letter = _; looks = []; delivery = record { by = 2; answered = _; item_is = refl }; behind = refl; acts_are = refl }; first = refl }, refl, refl))), (record { look = record { sight = _; empty_is = refl; item_is = refl }; goes_on = refl; asks_if = refl }, (a_3 stories ∷ b_8 stories ∷ [], ((refl, refl), ((refl, refl), (record { takes = record { taken = moment (term_order stories) 39; letter = _; looks = []; delivery = record { by = 2; answered = _; item_is = refl }; behind = refl; acts_are = refl }; first = refl }, refl, refl))), (record { look = record { sight = _; empty_is = refl; item_is = refl }; goes_on = refl; asks_if = refl }, (a_3 stories ∷ b_8 stories ∷ [], ((refl, refl), ((refl, refl), (record { takes = record { taken = moment (term_order stories) 41; letter = _; looks = []; delivery = record { by = 2; answered = _; item_is = refl }; behind = refl; acts_are = refl }; first = refl }, refl, refl))), refl))))))))))))))))))))))));
  few = omega arith;
  rising = (omega arith, (omega arith, (omega arith, (omega arith, (omega arith, (omega arith, (omega arith, (omega arith, (omega arith, (omega arith, (omega arith, (omega arith, tt))))))))))));
  asked_last = refl;
  last = record { sight = _; empty_is = refl; item_is = refl };
  over = λ h. absurd (never (sym h));
}

term_one_thread : (stories : Stories) → IsOneThread 0 term_script 1 (term_turned stories) (term_run stories)
term_one_thread stories = record {
  orders = (0 ∷ 1 ∷ 2 ∷ 3 ∷ []) ∷ (0 ∷ 1 ∷ 2 ∷ 3 ∷ []) ∷ (0 ∷ 1 ∷ 2 ∷ 3 ∷ []) ∷ (0 ∷ 1 ∷ 2 ∷ 3 ∷ []) ∷ (0 ∷ 1 ∷ 2 ∷ 3 ∷ []) ∷ (0 ∷ 1 ∷ 2 ∷ 3 ∷ []) ∷ (0 ∷ 1 ∷ 2 ∷ 3 ∷ []) ∷ (0 ∷ 1 ∷ 2 ∷ 3 ∷ []) ∷ (0 ∷ 1 ∷ 2 ∷ 3 ∷ []) ∷ (0 ∷ 1 ∷ 2 ∷ 3 ∷ []) ∷ (0 ∷ 1 ∷ 2 ∷ 3 ∷ []) ∷ (0 ∷ 1 ∷ 2 ∷ 3 ∷ []) ∷ [];
  drawn = (0, inl (refl, refl, refl), (0, inl (refl, refl, refl), (0, inl (refl, refl, refl), (0, inl (refl, refl, refl), (0, inl (refl, refl, refl), (0, inl (refl, refl, refl), (0, inl (refl, refl, refl), (0, inl (refl, refl, refl), (0, inl (refl, refl, refl), (0, inl (refl, refl, refl), (0, inl (refl, refl, refl), (0, inl (refl, refl, refl), refl))))))))))));
  one_order = refl;
  exact = ((omega arith, omega arith, refl), (refl, ((refl, refl), tt)));
}

pub term_over : (stories : Stories) → IsRunJournal ℕ ℕ term_script term_schedule term_journal
term_over stories = record {
  run = term_run stories;
  turned = term_turned stories;
  is_run = term_is_run stories;
  in_turns = term_in_turns stories;
  one_thread = term_one_thread stories;
  all_end = all_fates _ (term_run stories) (term_settled stories);
  journal_is = refl;
}

pub term_printed : journal_text term_journal ≡ term_text
unfolding digits
term_printed = refl
