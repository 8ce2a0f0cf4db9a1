-- A worked run, by hand from the tables: a PULL and a PUSH are joined, two messages are sent, and both sockets are closed with them left, so that both ends are asked at once.
use Rattle.std.specs.Prelude.{ℕ, true, false, List, [], ◌∷◌, Some, codes}
use Rattle.zq_base.specs.declared.kind.Kind.TheVariants.{Push, Pull}
use Rattle.spec_run.specs.declared.script.Call.TheVariants as call
use Rattle.spec_pattern.specs.PipeStep.{Commit, Seal}
use Rattle.spec_control.specs.declared.end.Reason.TheVariants.{Closed}
use Rattle.spec_control.specs.declared.object.ObjKind.TheVariants.{Root, Socket}
use Rattle.spec_control.specs.declared.object.ObjState.TheVariants.{Live, Asked as WasAsked, Ended}
use Rattle.spec_control.specs.declared.letter.Word.TheVariants.{Term, TermAck, Reap, PipeBind, PipeTerm, PipeTermAck}
use Rattle.spec_control.specs.declared.request.Req.TheVariants.{Socket as MakeSocket, AskTerm, Bind, Connect, Close}
use Rattle.spec_control.specs.declared.request.Reply.TheVariants.{Done, Object, Pair, Asked}
use Rattle.spec_control.specs.declared.entry.SeenEmpty.TheVariants.{Nothing, Mailbox, Reapers}
use Rattle.spec_control.specs.declared.entry.Item.{Item}
use Rattle.spec_control.specs.Control.{id, end_of}
use Rattle.spec_control.specs.ControlExamples.{Stories, silent, opened, joined, settled}
use Rattle.spec_run.specs.declared.answer.Answer.TheVariants as answer
use Rattle.spec_run.specs.Run.{Schedule}
use Rattle.spec_run.specs.TextParts.{options_with, pair_nr, at_q, row_given}
use Rattle.spec_run.specs.declared.journal.Journal.{Journal}
use Rattle.spec_run.specs.Script.{Script}
use Rattle.spec_run.specs.Act.{Step, Said, Tries, Shuts, Fetches, Idles, Looks, AsksRoot}
use Rattle.spec_run.specs.OwnedRun.{OwnedRun}
use Rattle.spec_run.specs.InTurns.{Turned, workers_in}
use Rattle.spec_run.specs.ExampleParts.{item_asked, item_taken, item_seen, moment, over_at, line_nr, turn_of, entry_nr, line_of_object, row_of_object}

abbrev pub left_script : Script
left_script = record {
  name = codes "a";
  lines =
      (line_nr 2 (call.Socket Pull (options_with 1000)))
      ∷ (line_nr 3 (call.Socket Push (options_with 1000)))
      ∷ (line_nr 4 (call.Bind 0 at_q))
      ∷ (line_nr 5 (call.Connect 1 at_q))
      ∷ (line_nr 6 (call.Send 1 (codes "a" ∷ [])))
      ∷ (line_nr 7 (call.Send 1 (codes "b" ∷ [])))
      ∷ (line_nr 8 (call.Close 0)) ∷ [];
} ∷ []

module _ (stories : Stories) where
  -- caller 0 is the actor, 1 the reaper, 3 the conductor; the PULL's mailbox has number 2, the PUSH's 3
  abbrev pub left_order : List (Item ℕ ℕ)
  left_order =
      item_seen 3 Nothing Live 1
      ∷ item_asked 0 (MakeSocket Pull (options_with 1000)) (Object (id 1)) (silent stories)
      ∷ item_seen 1 Reapers Live 2
      ∷ item_seen 3 Nothing Live 2
      ∷ item_asked 0 (MakeSocket Push (options_with 1000)) (Object (id 2)) (silent stories)
      ∷ item_seen 1 Reapers Live 3
      ∷ item_seen 3 Nothing Live 3
      ∷ item_seen 0 (Mailbox (record { 0 = 2 })) Live 3
      ∷ item_asked 0 (Bind (id 1) at_q) Done (silent stories)
      ∷ item_seen 1 Reapers Live 3
      ∷ item_seen 3 Nothing Live 3
      ∷ item_seen 0 (Mailbox (record { 0 = 3 })) Live 3
      ∷ item_asked 0 (Connect (id 2) at_q) (Pair (pair_nr 1)) (opened stories true [])
      ∷ item_seen 1 Reapers Live 3
      ∷ item_seen 3 Nothing Live 3
      ∷ item_seen 0 (Mailbox (record { 0 = 3 })) Live 3
      ∷ item_seen 1 Reapers Live 3
      ∷ item_seen 3 Nothing Live 3
      ∷ item_seen 0 (Mailbox (record { 0 = 3 })) Live 3
      ∷ item_seen 1 Reapers Live 3
      ∷ item_seen 3 Nothing Live 3
      ∷ item_asked 0 (Close (id 1)) Done (silent stories)
      ∷ item_taken 1 0 0 (Reap (id 1)) (silent stories)
      ∷ item_seen 3 Nothing Live 3
      ∷ item_asked 0 (Close (id 2)) Done (silent stories)
      ∷ item_taken 1 0 0 (Reap (id 2)) (joined stories true [])
      ∷ item_seen 3 Nothing Live 3
      ∷ item_asked 3 AskTerm Asked (silent stories)
      ∷ item_taken 1 2 1 (PipeBind (end_of 1 false) []) (joined stories false [])
      ∷ item_seen 3 Nothing WasAsked 3
      ∷ item_taken 1 2 1 Term (silent stories)
      ∷ item_seen 3 Nothing WasAsked 3
      ∷ item_taken 1 3 2 Term (silent stories)
      ∷ item_seen 3 Nothing WasAsked 3
      ∷ item_taken 1 2 1 (PipeTerm (end_of 1 false)) (silent stories)
      ∷ item_seen 3 Nothing WasAsked 3
      ∷ item_taken 1 3 2 (PipeTerm (end_of 1 true)) (silent stories)
      ∷ item_seen 3 Nothing WasAsked 3
      ∷ item_taken 1 2 1 (PipeTermAck (end_of 1 false)) (settled stories 2 0 2 false)
      ∷ item_seen 3 Nothing WasAsked 2
      ∷ item_taken 1 0 0 (TermAck (id 1)) (silent stories)
      ∷ item_seen 3 Nothing WasAsked 2
      ∷ item_taken 1 3 2 (PipeTermAck (end_of 1 true)) (settled stories 0 0 0 false)
      ∷ item_seen 3 Nothing WasAsked 1
      ∷ item_taken 1 0 0 (TermAck (id 2)) (silent stories)
      ∷ item_seen 3 Nothing Ended 0
      ∷ []

  abbrev pub left_turned : Turned ℕ ℕ
  left_turned = record {
    first = 0;
    turns =
        turn_of (Looks (moment left_order 0) ∷ []) ((Tries (over_at (line_nr 2 (call.Socket Pull (options_with 1000))) ([]) (Said (moment left_order 1) ∷ []) (answer.Object (id 1))) ∷ []) ∷ (Idles (moment left_order 2) ∷ []) ∷ [] ∷ []) 1
        ∷ turn_of (Looks (moment left_order 3) ∷ []) ((Tries (over_at (line_nr 3 (call.Socket Push (options_with 1000))) ([]) (Said (moment left_order 4) ∷ []) (answer.Object (id 2))) ∷ []) ∷ (Idles (moment left_order 5) ∷ []) ∷ [] ∷ []) 2
        ∷ turn_of (Looks (moment left_order 6) ∷ []) ((Tries (over_at (line_nr 4 (call.Bind 0 at_q)) (Said (moment left_order 7) ∷ []) (Said (moment left_order 8) ∷ []) answer.Done) ∷ []) ∷ (Idles (moment left_order 9) ∷ []) ∷ [] ∷ []) 3
        ∷ turn_of (Looks (moment left_order 10) ∷ []) ((Tries (over_at (line_nr 5 (call.Connect 1 at_q)) (Said (moment left_order 11) ∷ []) (Said (moment left_order 12) ∷ []) (answer.Pair (pair_nr 1))) ∷ []) ∷ (Idles (moment left_order 13) ∷ []) ∷ [] ∷ []) 4
        ∷ turn_of (Looks (moment left_order 14) ∷ []) ((Tries (over_at (line_nr 6 (call.Send 1 (codes "a" ∷ []))) (Said (moment left_order 15) ∷ []) (Step (Commit (end_of 1 true) (codes "a" ∷ [])) ∷ []) (answer.Pair (pair_nr 1))) ∷ []) ∷ (Idles (moment left_order 16) ∷ []) ∷ [] ∷ []) 5
        ∷ turn_of (Looks (moment left_order 17) ∷ []) ((Tries (over_at (line_nr 7 (call.Send 1 (codes "b" ∷ []))) (Said (moment left_order 18) ∷ []) (Step (Commit (end_of 1 true) (codes "b" ∷ [])) ∷ []) (answer.Pair (pair_nr 1))) ∷ []) ∷ (Idles (moment left_order 19) ∷ []) ∷ [] ∷ []) 6
        ∷ turn_of (Looks (moment left_order 20) ∷ []) ((Tries (over_at (line_nr 8 (call.Close 0)) ([]) (Said (moment left_order 21) ∷ []) answer.Done) ∷ []) ∷ (Fetches 0 (Said (moment left_order 22) ∷ []) ∷ []) ∷ [] ∷ []) 7
        ∷ turn_of (Looks (moment left_order 23) ∷ []) ((Shuts (Said (moment left_order 24) ∷ []) ∷ []) ∷ (Fetches 0 (Said (moment left_order 25) ∷ []) ∷ []) ∷ [] ∷ []) 8
        ∷ turn_of (Looks (moment left_order 26) ∷ AsksRoot (Said (moment left_order 27) ∷ []) ∷ []) ([] ∷ (Fetches 2 (Said (moment left_order 28) ∷ []) ∷ []) ∷ [] ∷ []) 9
        ∷ turn_of (Looks (moment left_order 29) ∷ []) ([] ∷ (Fetches 2 (Said (moment left_order 30) ∷ Step (Seal (end_of 1 false)) ∷ []) ∷ []) ∷ [] ∷ []) 10
        ∷ turn_of (Looks (moment left_order 31) ∷ []) ([] ∷ (Fetches 3 (Said (moment left_order 32) ∷ Step (Seal (end_of 1 true)) ∷ []) ∷ []) ∷ [] ∷ []) 11
        ∷ turn_of (Looks (moment left_order 33) ∷ []) ([] ∷ (Fetches 2 (Said (moment left_order 34) ∷ []) ∷ []) ∷ [] ∷ []) 12
        ∷ turn_of (Looks (moment left_order 35) ∷ []) ([] ∷ (Fetches 3 (Said (moment left_order 36) ∷ []) ∷ []) ∷ [] ∷ []) 13
        ∷ turn_of (Looks (moment left_order 37) ∷ []) ([] ∷ (Fetches 2 (Said (moment left_order 38) ∷ []) ∷ []) ∷ [] ∷ []) 14
        ∷ turn_of (Looks (moment left_order 39) ∷ []) ([] ∷ (Fetches 0 (Said (moment left_order 40) ∷ []) ∷ []) ∷ [] ∷ []) 15
        ∷ turn_of (Looks (moment left_order 41) ∷ []) ([] ∷ (Fetches 3 (Said (moment left_order 42) ∷ []) ∷ []) ∷ [] ∷ []) 16
        ∷ turn_of (Looks (moment left_order 43) ∷ []) ([] ∷ (Fetches 0 (Said (moment left_order 44) ∷ []) ∷ []) ∷ [] ∷ []) 17
        ∷ [];
    last = moment left_order 45;
  }

  abbrev pub left_run : OwnedRun ℕ ℕ
  left_run = record { workers = workers_in 3 left_turned; order = left_order }

abbrev pub left_schedule : Schedule
left_schedule = record { seed = 0; turns = 17 }

abbrev pub left_journal : Journal
left_journal = record {
  actors = record {
    name = codes "a";
    entries =
        entry_nr 2 (answer.Object (id 1)) ∷ entry_nr 3 (answer.Object (id 2)) ∷ entry_nr 4 answer.Done
        ∷ entry_nr 5 (answer.Pair (pair_nr 1)) ∷ entry_nr 6 (answer.Pair (pair_nr 1)) ∷ entry_nr 7 (answer.Pair (pair_nr 1))
        ∷ entry_nr 8 answer.Done ∷ [];
  } ∷ [];
  ended = line_of_object 1 (Socket Pull) ∷ line_of_object 2 (Socket Push) ∷ line_of_object 0 Root ∷ [];
  pipes =
      Some (record { counts = record (row_given (end_of 1 true) 2) { given = 0; rest = 2 }; reason = Some Closed })
      ∷ Some (record { counts = row_given (end_of 1 false) 0; reason = Some Closed }) ∷ [];
  objects = row_of_object Root true ∷ row_of_object (Socket Pull) true ∷ row_of_object (Socket Push) true ∷ [];
  done = true;
}

abbrev pub left_text : List ℕ
left_text = codes "a 2 ok o1\na 3 ok o2\na 4 ok\na 5 ok p1\na 6 ok p1\na 7 ok p1\na 8 ok\nend o1 PULL\nend o2 PUSH\nend o0 ctx\npipe p1a sent 2 given 0 heard 0 dropped 0 written 0 lost 0 rest 2 closed\npipe p1b sent 0 given 0 heard 0 dropped 0 written 0 lost 0 rest 0 -\ndone\n"
