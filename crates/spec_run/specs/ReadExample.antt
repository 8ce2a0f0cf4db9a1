-- A worked run, by hand from the tables: a PULL and a PUSH are joined, two messages are sent, the PUSH is closed, and the PULL receives them and meets the delimiter before it is closed.
use Rattle.std.specs.Prelude.{ℕ, true, false, List, [], ◌∷◌, Some, None, codes}
use Rattle.zq_base.specs.declared.kind.Kind.TheVariants.{Push, Pull}
use Rattle.spec_run.specs.declared.script.Call.TheVariants as call
use Rattle.spec_pattern.specs.PipeStep.{Commit, Seal, Take, WaitingLook, DelimiterLook}
use Rattle.spec_pattern.specs.declared.answers.RecvRefusal.TheVariants as recv
use Rattle.spec_control.specs.declared.end.Reason.TheVariants.{Closed}
use Rattle.spec_control.specs.declared.object.ObjKind.TheVariants.{Root, Socket}
use Rattle.spec_control.specs.declared.object.ObjState.TheVariants.{Live, Asked as WasAsked, Ended}
use Rattle.spec_control.specs.declared.letter.Word.TheVariants.{Term, TermAck, Reap, PipeBind, PipeTerm, PipeTermAck}
use Rattle.spec_control.specs.declared.request.Req.TheVariants.{Socket as MakeSocket, AskTerm, Bind, Connect, Close}
use Rattle.spec_control.specs.declared.request.Reply.TheVariants.{Done, Object, Pair, Asked}
use Rattle.spec_control.specs.declared.entry.SeenEmpty.TheVariants.{Nothing, Mailbox, Reapers}
use Rattle.spec_control.specs.declared.entry.Item.{Item}
use Rattle.spec_control.specs.Control.{id, end_of}
use Rattle.spec_control.specs.ControlExamples.{Stories, silent, opened, joined, met_before, settled}
use Rattle.spec_run.specs.declared.answer.Answer.TheVariants as answer
use Rattle.spec_run.specs.Run.{Schedule}
use Rattle.spec_run.specs.TextParts.{options_with, pair_nr, at_q, row_given, got_from_1}
use Rattle.spec_run.specs.declared.journal.Journal.{Journal}
use Rattle.spec_run.specs.Script.{Script}
use Rattle.spec_run.specs.Act.{Step, Said, Tries, Shuts, Fetches, Idles, Looks, AsksRoot}
use Rattle.spec_run.specs.OwnedRun.{OwnedRun}
use Rattle.spec_run.specs.InTurns.{Turned, workers_in}
use Rattle.spec_run.specs.ExampleParts.{item_asked, item_taken, item_met, item_seen, moment, over_at, line_nr, turn_of, entry_nr, line_of_object, row_of_object}

abbrev pub read_script : Script
read_script = record {
  name = codes "a";
  lines =
      (line_nr 2 (call.Socket Pull (options_with 1000)))
      ∷ (line_nr 3 (call.Socket Push (options_with 1000)))
      ∷ (line_nr 4 (call.Bind 0 at_q))
      ∷ (line_nr 5 (call.Connect 1 at_q))
      ∷ (line_nr 6 (call.Send 1 (codes "a" ∷ [])))
      ∷ (line_nr 7 (call.Send 1 (codes "b" ∷ [])))
      ∷ (line_nr 8 (call.Close 1))
      ∷ (line_nr 9 (call.Recv 0 1))
      ∷ (line_nr 10 (call.Recv 0 1))
      ∷ (line_nr 11 (call.Recv 0 1)) ∷ [];
} ∷ []

module _ (stories : Stories) where
  -- caller 0 is the actor, 1 the reaper, 3 the conductor; the PULL's mailbox has number 2, the PUSH's 3
  abbrev pub read_order : List (Item ℕ ℕ)
  read_order =
      item_seen 3 Nothing Live 1
      ∷ item_asked 0 (MakeSocket Pull (options_with 1000)) (Object (id 1)) (silent stories)
      ∷ item_seen 1 Reapers Live 2
      ∷ item_seen 3 Nothing Live 2
      ∷ item_asked 0 (MakeSocket Push (options_with 1000)) (Object (id 2)) (silent stories)
      ∷ item_seen 1 Reapers Live 3
      ∷ item_seen 3 Nothing Live 3
      ∷ item_seen 0 (Mailbox (record { 0 = 2 })) Live 3
      ∷ item_asked 0 (Bind (id 1) at_q) Done (silent stories)
      ∷ item_seen 1 Reapers Live 3
      ∷ item_seen 3 Nothing Live 3
      ∷ item_seen 0 (Mailbox (record { 0 = 3 })) Live 3
      ∷ item_asked 0 (Connect (id 2) at_q) (Pair (pair_nr 1)) (opened stories true [])
      ∷ item_seen 1 Reapers Live 3
      ∷ item_seen 3 Nothing Live 3
      ∷ item_seen 0 (Mailbox (record { 0 = 3 })) Live 3
      ∷ item_seen 1 Reapers Live 3
      ∷ item_seen 3 Nothing Live 3
      ∷ item_seen 0 (Mailbox (record { 0 = 3 })) Live 3
      ∷ item_seen 1 Reapers Live 3
      ∷ item_seen 3 Nothing Live 3
      ∷ item_asked 0 (Close (id 2)) Done (silent stories)
      ∷ item_taken 1 0 0 (Reap (id 2)) (joined stories true [])
      ∷ item_seen 3 Nothing Live 3
      ∷ item_taken 0 2 1 (PipeBind (end_of 1 false) []) (joined stories false [])
      ∷ item_seen 0 (Mailbox (record { 0 = 2 })) Live 3
      ∷ item_taken 1 3 2 Term (silent stories)
      ∷ item_seen 3 Nothing Live 3
      ∷ item_taken 0 2 1 (PipeTerm (end_of 1 false)) (silent stories)
      ∷ item_seen 0 (Mailbox (record { 0 = 2 })) Live 3
      ∷ item_seen 1 Reapers Live 3
      ∷ item_seen 3 Nothing Live 3
      ∷ item_seen 0 (Mailbox (record { 0 = 2 })) Live 3
      ∷ item_met 0 (end_of 1 false) (silent stories)
      ∷ item_taken 1 3 2 (PipeTermAck (end_of 1 true)) (settled stories 0 0 0 false)
      ∷ item_seen 3 Nothing Live 2
      ∷ item_asked 0 (Close (id 1)) Done (silent stories)
      ∷ item_taken 1 0 0 (TermAck (id 2)) (silent stories)
      ∷ item_seen 3 Nothing Live 2
      ∷ item_asked 3 AskTerm Asked (silent stories)
      ∷ item_taken 1 0 0 (Reap (id 1)) (met_before stories)
      ∷ item_seen 3 Nothing WasAsked 2
      ∷ item_taken 1 2 1 (PipeTermAck (end_of 1 false)) (settled stories 2 2 0 false)
      ∷ item_seen 3 Nothing WasAsked 2
      ∷ item_taken 1 2 1 Term (silent stories)
      ∷ item_seen 3 Nothing WasAsked 1
      ∷ item_taken 1 0 0 (TermAck (id 1)) (silent stories)
      ∷ item_seen 3 Nothing Ended 0
      ∷ []

  abbrev pub read_turned : Turned ℕ ℕ
  read_turned = record {
    first = 0;
    turns =
        turn_of (Looks (moment read_order 0) ∷ []) ((Tries (over_at (line_nr 2 (call.Socket Pull (options_with 1000))) ([]) (Said (moment read_order 1) ∷ []) (answer.Object (id 1))) ∷ []) ∷ (Idles (moment read_order 2) ∷ []) ∷ [] ∷ []) 1
        ∷ turn_of (Looks (moment read_order 3) ∷ []) ((Tries (over_at (line_nr 3 (call.Socket Push (options_with 1000))) ([]) (Said (moment read_order 4) ∷ []) (answer.Object (id 2))) ∷ []) ∷ (Idles (moment read_order 5) ∷ []) ∷ [] ∷ []) 2
        ∷ turn_of (Looks (moment read_order 6) ∷ []) ((Tries (over_at (line_nr 4 (call.Bind 0 at_q)) (Said (moment read_order 7) ∷ []) (Said (moment read_order 8) ∷ []) answer.Done) ∷ []) ∷ (Idles (moment read_order 9) ∷ []) ∷ [] ∷ []) 3
        ∷ turn_of (Looks (moment read_order 10) ∷ []) ((Tries (over_at (line_nr 5 (call.Connect 1 at_q)) (Said (moment read_order 11) ∷ []) (Said (moment read_order 12) ∷ []) (answer.Pair (pair_nr 1))) ∷ []) ∷ (Idles (moment read_order 13) ∷ []) ∷ [] ∷ []) 4
        ∷ turn_of (Looks (moment read_order 14) ∷ []) ((Tries (over_at (line_nr 6 (call.Send 1 (codes "a" ∷ []))) (Said (moment read_order 15) ∷ []) (Step (Commit (end_of 1 true) (codes "a" ∷ [])) ∷ []) (answer.Pair (pair_nr 1))) ∷ []) ∷ (Idles (moment read_order 16) ∷ []) ∷ [] ∷ []) 5
        ∷ turn_of (Looks (moment read_order 17) ∷ []) ((Tries (over_at (line_nr 7 (call.Send 1 (codes "b" ∷ []))) (Said (moment read_order 18) ∷ []) (Step (Commit (end_of 1 true) (codes "b" ∷ [])) ∷ []) (answer.Pair (pair_nr 1))) ∷ []) ∷ (Idles (moment read_order 19) ∷ []) ∷ [] ∷ []) 6
        ∷ turn_of (Looks (moment read_order 20) ∷ []) ((Tries (over_at (line_nr 8 (call.Close 1)) ([]) (Said (moment read_order 21) ∷ []) answer.Done) ∷ []) ∷ (Fetches 0 (Said (moment read_order 22) ∷ []) ∷ []) ∷ [] ∷ []) 7
        ∷ turn_of (Looks (moment read_order 23) ∷ []) ((Tries (over_at (line_nr 9 (call.Recv 0 1)) (Said (moment read_order 24) ∷ Said (moment read_order 25) ∷ []) (Step (Take (end_of 1 true) (codes "a" ∷ [])) ∷ []) (got_from_1 (codes "a"))) ∷ []) ∷ (Fetches 3 (Said (moment read_order 26) ∷ Step (Seal (end_of 1 true)) ∷ []) ∷ []) ∷ [] ∷ []) 8
        ∷ turn_of (Looks (moment read_order 27) ∷ []) ((Tries (over_at (line_nr 10 (call.Recv 0 1)) (Said (moment read_order 28) ∷ Step (WaitingLook (end_of 1 true)) ∷ Said (moment read_order 29) ∷ Step (WaitingLook (end_of 1 true)) ∷ []) (Step (Take (end_of 1 true) (codes "b" ∷ [])) ∷ []) (got_from_1 (codes "b"))) ∷ []) ∷ (Idles (moment read_order 30) ∷ []) ∷ [] ∷ []) 9
        ∷ turn_of (Looks (moment read_order 31) ∷ []) ((Tries (over_at (line_nr 11 (call.Recv 0 1)) (Said (moment read_order 32) ∷ Step (DelimiterLook (end_of 1 true)) ∷ Said (moment read_order 33) ∷ []) ([]) (answer.NotReceived recv.Again)) ∷ []) ∷ (Fetches 3 (Said (moment read_order 34) ∷ []) ∷ []) ∷ [] ∷ []) 10
        ∷ turn_of (Looks (moment read_order 35) ∷ []) ((Shuts (Said (moment read_order 36) ∷ []) ∷ []) ∷ (Fetches 0 (Said (moment read_order 37) ∷ []) ∷ []) ∷ [] ∷ []) 11
        ∷ turn_of (Looks (moment read_order 38) ∷ AsksRoot (Said (moment read_order 39) ∷ []) ∷ []) ([] ∷ (Fetches 0 (Said (moment read_order 40) ∷ []) ∷ []) ∷ [] ∷ []) 12
        ∷ turn_of (Looks (moment read_order 41) ∷ []) ([] ∷ (Fetches 2 (Said (moment read_order 42) ∷ []) ∷ []) ∷ [] ∷ []) 13
        ∷ turn_of (Looks (moment read_order 43) ∷ []) ([] ∷ (Fetches 2 (Said (moment read_order 44) ∷ []) ∷ []) ∷ [] ∷ []) 14
        ∷ turn_of (Looks (moment read_order 45) ∷ []) ([] ∷ (Fetches 0 (Said (moment read_order 46) ∷ []) ∷ []) ∷ [] ∷ []) 15
        ∷ [];
    last = moment read_order 47;
  }

  abbrev pub read_run : OwnedRun ℕ ℕ
  read_run = record { workers = workers_in 3 read_turned; order = read_order }

abbrev pub read_schedule : Schedule
read_schedule = record { seed = 0; turns = 15 }

abbrev pub read_journal : Journal
read_journal = record {
  actors = record {
    name = codes "a";
    entries =
        entry_nr 2 (answer.Object (id 1)) ∷ entry_nr 3 (answer.Object (id 2)) ∷ entry_nr 4 answer.Done
        ∷ entry_nr 5 (answer.Pair (pair_nr 1)) ∷ entry_nr 6 (answer.Pair (pair_nr 1)) ∷ entry_nr 7 (answer.Pair (pair_nr 1))
        ∷ entry_nr 8 answer.Done ∷ entry_nr 9 (got_from_1 (codes "a")) ∷ entry_nr 10 (got_from_1 (codes "b"))
        ∷ entry_nr 11 (answer.NotReceived recv.Again) ∷ [];
  } ∷ [];
  ended = line_of_object 2 (Socket Push) ∷ line_of_object 1 (Socket Pull) ∷ line_of_object 0 Root ∷ [];
  pipes =
      Some (record { counts = row_given (end_of 1 true) 2; reason = None })
      ∷ Some (record { counts = row_given (end_of 1 false) 0; reason = Some Closed }) ∷ [];
  objects = row_of_object Root true ∷ row_of_object (Socket Pull) true ∷ row_of_object (Socket Push) true ∷ [];
  done = true;
}

abbrev pub read_text : List ℕ
read_text = codes "a 2 ok o1\na 3 ok o2\na 4 ok\na 5 ok p1\na 6 ok p1\na 7 ok p1\na 8 ok\na 9 msg p1 a\na 10 msg p1 b\na 11 again\nend o2 PUSH\nend o1 PULL\nend o0 ctx\npipe p1a sent 2 given 2 heard 0 dropped 0 written 0 lost 0 rest 0 -\npipe p1b sent 0 given 0 heard 0 dropped 0 written 0 lost 0 rest 0 -\ndone\n"
