-- A worked run, by hand from the tables: a PULL is closed, and a pair is made for it while it is being told to end; the context is asked to end with a message left.
use Rattle.std.specs.Prelude.{ℕ, true, false, List, [], ◌∷◌, Some, None, codes}
use Rattle.zq_base.specs.declared.endpoint.Endpoint.{Endpoint}
use Rattle.zq_base.specs.declared.endpoint.Endpoint.TheVariants.{Inproc}
use Rattle.zq_base.specs.declared.kind.Kind.TheVariants.{Push, Pull}
use Rattle.spec_run.specs.declared.script.Call.TheVariants as call
use Rattle.spec_pattern.specs.PipeStep.{Commit, DelimiterLook, Seal}
use Rattle.spec_pattern.specs.declared.answers.SendRefusal.TheVariants as send
use Rattle.spec_control.specs.declared.end.Reason.TheVariants.{Closed}
use Rattle.spec_control.specs.declared.object.ObjKind.TheVariants.{Root, Socket}
use Rattle.spec_control.specs.declared.object.ObjState.TheVariants.{Live, Asked as WasAsked, Ended}
use Rattle.spec_control.specs.declared.letter.Word.TheVariants.{Term, TermAck, Stop, Reap, PipeBind, PipeTerm, PipeTermAck}
use Rattle.spec_control.specs.declared.request.Req.TheVariants.{Socket as MakeSocket, AskTerm, Bind, Unbind, Connect, Close}
use Rattle.spec_control.specs.declared.request.Reply.TheVariants.{Done, Object, Pair, Asked}
use Rattle.zq_base.specs.declared.attached.Attached.TheVariants.{Yes}
use Rattle.spec_control.specs.declared.entry.Answered.{Answered}
use Rattle.spec_control.specs.declared.entry.SeenEmpty.TheVariants.{Nothing, Mailbox, Reapers}
use Rattle.spec_control.specs.declared.entry.Item.{Item}
use Rattle.spec_control.specs.Control.{id, end_of}
use Rattle.spec_control.specs.ControlExamples.{Stories, silent, opened, joined, settled}
use Rattle.spec_run.specs.declared.answer.Answer.TheVariants as answer
use Rattle.spec_run.specs.Run.{Schedule}
use Rattle.spec_run.specs.TextParts.{options_with, pair_nr, at_q, row_given}
use Rattle.spec_run.specs.declared.journal.Journal.{Journal}
use Rattle.spec_run.specs.Script.{Script}
use Rattle.spec_run.specs.Act.{Step, Said, Tries, Shuts, Fetches, Idles, Looks}
use Rattle.spec_run.specs.OwnedRun.{OwnedRun}
use Rattle.spec_run.specs.InTurns.{Turned, workers_in}
use Rattle.spec_run.specs.ExampleParts.{item_asked, item_taken, item_met, item_seen, moment, over_at, line_nr, turn_of, entry_nr, line_of_object, row_of_object}

abbrev pub at_w : Endpoint
at_w = Inproc (codes "w")

abbrev pub term_script : Script
term_script =
    record { name = codes "a"; lines = (line_nr 2 (call.Socket Pull (options_with 1000))) ∷ (line_nr 3 (call.Bind 0 at_q)) ∷ (line_nr 4 (call.Close 0)) ∷ [] }
    ∷ record {
      name = codes "b";
      lines =
          (line_nr 6 (call.Socket Push (options_with 1000)))
          ∷ (line_nr 7 (call.Bind 0 at_w))
          ∷ (line_nr 8 (call.Unbind 0 at_w))
          ∷ (line_nr 9 (call.Connect 0 at_q))
          ∷ (line_nr 10 (call.Send 0 (codes "m" ∷ [])))
          ∷ (line_nr 11 call.Term)
          ∷ (line_nr 12 (call.Send 0 (codes "m" ∷ [])))
          ∷ [];
    }
    ∷ []

module _ (stories : Stories) where
  -- end 1a was taken over by the reaper, which had met its delimiter before
  abbrev pub met_a : Answered ℕ ℕ
  met_a = record (silent stories) { joined = record { end = end_of 1 true; peer = []; written = 11; read = 12; answer = Yes; met = true } ∷ [] }

  -- callers 0 and 1 are the actors, 2 the reaper, 4 the conductor; the PULL's mailbox has number 2, the PUSH's 3
  abbrev pub term_order : List (Item ℕ ℕ)
  term_order =
      item_seen 4 Nothing Live 1
      ∷ item_asked 0 (MakeSocket Pull (options_with 1000)) (Object (id 1)) (silent stories)
      ∷ item_asked 1 (MakeSocket Push (options_with 1000)) (Object (id 2)) (silent stories)
      ∷ item_seen 2 Reapers Live 3
      ∷ item_seen 4 Nothing Live 3
      ∷ item_seen 0 (Mailbox (record { 0 = 2 })) Live 3
      ∷ item_asked 0 (Bind (id 1) at_q) Done (silent stories)
      ∷ item_seen 1 (Mailbox (record { 0 = 3 })) Live 3
      ∷ item_asked 1 (Bind (id 2) at_w) Done (silent stories)
      ∷ item_seen 2 Reapers Live 3
      ∷ item_seen 4 Nothing Live 3
      ∷ item_asked 0 (Close (id 1)) Done (silent stories)
      ∷ item_seen 1 (Mailbox (record { 0 = 3 })) Live 3
      ∷ item_asked 1 (Unbind (id 2) at_w) Done (silent stories)
      ∷ item_taken 2 0 0 (Reap (id 1)) (silent stories)
      ∷ item_seen 4 Nothing Live 3
      ∷ item_seen 1 (Mailbox (record { 0 = 3 })) Live 3
      ∷ item_asked 1 (Connect (id 2) at_q) (Pair (pair_nr 1)) (opened stories true [])
      ∷ item_taken 2 2 1 Term (silent stories)
      ∷ item_seen 4 Nothing Live 3
      ∷ item_seen 1 (Mailbox (record { 0 = 3 })) Live 3
      ∷ item_taken 2 2 1 (PipeBind (end_of 1 false) []) (joined stories false [])
      ∷ item_seen 4 Nothing Live 3
      ∷ item_asked 1 AskTerm Asked (silent stories)
      ∷ item_seen 2 Reapers WasAsked 3
      ∷ item_seen 4 Nothing WasAsked 3
      ∷ item_taken 1 3 2 (PipeTerm (end_of 1 true)) (silent stories)
      ∷ item_met 1 (end_of 1 true) (silent stories)
      ∷ item_taken 1 3 2 Stop (silent stories)
      ∷ item_seen 1 (Mailbox (record { 0 = 3 })) WasAsked 3
      ∷ item_taken 2 2 1 (PipeTermAck (end_of 1 false)) (settled stories 1 0 1 false)
      ∷ item_seen 4 Nothing WasAsked 2
      ∷ item_asked 1 (Close (id 2)) Done (silent stories)
      ∷ item_taken 2 0 0 (TermAck (id 1)) (silent stories)
      ∷ item_seen 4 Nothing WasAsked 2
      ∷ item_taken 2 0 0 (Reap (id 2)) met_a
      ∷ item_seen 4 Nothing WasAsked 2
      ∷ item_taken 2 3 2 (PipeTermAck (end_of 1 true)) (settled stories 0 0 0 false)
      ∷ item_seen 4 Nothing WasAsked 2
      ∷ item_taken 2 3 2 Term (silent stories)
      ∷ item_seen 4 Nothing WasAsked 1
      ∷ item_taken 2 0 0 (TermAck (id 2)) (silent stories)
      ∷ item_seen 4 Nothing Ended 0
      ∷ []

  abbrev pub term_turned : Turned ℕ ℕ
  term_turned = record {
    first = 0;
    turns =
        turn_of (Looks (moment term_order 0) ∷ []) ((Tries (over_at (line_nr 2 (call.Socket Pull (options_with 1000))) ([]) (Said (moment term_order 1) ∷ []) (answer.Object (id 1))) ∷ []) ∷ (Tries (over_at (line_nr 6 (call.Socket Push (options_with 1000))) ([]) (Said (moment term_order 2) ∷ []) (answer.Object (id 2))) ∷ []) ∷ (Idles (moment term_order 3) ∷ []) ∷ [] ∷ []) 1
        ∷ turn_of (Looks (moment term_order 4) ∷ []) ((Tries (over_at (line_nr 3 (call.Bind 0 at_q)) (Said (moment term_order 5) ∷ []) (Said (moment term_order 6) ∷ []) answer.Done) ∷ []) ∷ (Tries (over_at (line_nr 7 (call.Bind 0 at_w)) (Said (moment term_order 7) ∷ []) (Said (moment term_order 8) ∷ []) answer.Done) ∷ []) ∷ (Idles (moment term_order 9) ∷ []) ∷ [] ∷ []) 2
        ∷ turn_of (Looks (moment term_order 10) ∷ []) ((Tries (over_at (line_nr 4 (call.Close 0)) ([]) (Said (moment term_order 11) ∷ []) answer.Done) ∷ []) ∷ (Tries (over_at (line_nr 8 (call.Unbind 0 at_w)) (Said (moment term_order 12) ∷ []) (Said (moment term_order 13) ∷ []) answer.Done) ∷ []) ∷ (Fetches 0 (Said (moment term_order 14) ∷ []) ∷ []) ∷ [] ∷ []) 3
        ∷ turn_of (Looks (moment term_order 15) ∷ []) ([] ∷ (Tries (over_at (line_nr 9 (call.Connect 0 at_q)) (Said (moment term_order 16) ∷ []) (Said (moment term_order 17) ∷ []) (answer.Pair (pair_nr 1))) ∷ []) ∷ (Fetches 2 (Said (moment term_order 18) ∷ []) ∷ []) ∷ [] ∷ []) 4
        ∷ turn_of (Looks (moment term_order 19) ∷ []) ([] ∷ (Tries (over_at (line_nr 10 (call.Send 0 (codes "m" ∷ []))) (Said (moment term_order 20) ∷ []) (Step (Commit (end_of 1 true) (codes "m" ∷ [])) ∷ []) (answer.Pair (pair_nr 1))) ∷ []) ∷ (Fetches 2 (Said (moment term_order 21) ∷ Step (Seal (end_of 1 false)) ∷ []) ∷ []) ∷ [] ∷ []) 5
        ∷ turn_of (Looks (moment term_order 22) ∷ []) ([] ∷ (Tries (over_at (line_nr 11 call.Term) ([]) (Said (moment term_order 23) ∷ []) answer.Done) ∷ []) ∷ (Idles (moment term_order 24) ∷ []) ∷ [] ∷ []) 6
        ∷ turn_of (Looks (moment term_order 25) ∷ []) ([] ∷ (Tries (over_at (line_nr 12 (call.Send 0 (codes "m" ∷ []))) (Said (moment term_order 26) ∷ Step (DelimiterLook (end_of 1 false)) ∷ Said (moment term_order 27) ∷ Said (moment term_order 28) ∷ Said (moment term_order 29) ∷ []) ([]) (answer.NotSent send.Term)) ∷ []) ∷ (Fetches 2 (Said (moment term_order 30) ∷ []) ∷ []) ∷ [] ∷ []) 7
        ∷ turn_of (Looks (moment term_order 31) ∷ []) ([] ∷ (Shuts (Said (moment term_order 32) ∷ []) ∷ []) ∷ (Fetches 0 (Said (moment term_order 33) ∷ []) ∷ []) ∷ [] ∷ []) 8
        ∷ turn_of (Looks (moment term_order 34) ∷ []) ([] ∷ [] ∷ (Fetches 0 (Said (moment term_order 35) ∷ []) ∷ []) ∷ [] ∷ []) 9
        ∷ turn_of (Looks (moment term_order 36) ∷ []) ([] ∷ [] ∷ (Fetches 3 (Said (moment term_order 37) ∷ []) ∷ []) ∷ [] ∷ []) 10
        ∷ turn_of (Looks (moment term_order 38) ∷ []) ([] ∷ [] ∷ (Fetches 3 (Said (moment term_order 39) ∷ []) ∷ []) ∷ [] ∷ []) 11
        ∷ turn_of (Looks (moment term_order 40) ∷ []) ([] ∷ [] ∷ (Fetches 0 (Said (moment term_order 41) ∷ []) ∷ []) ∷ [] ∷ []) 12
        ∷ [];
    last = moment term_order 42;
  }

  abbrev pub term_run : OwnedRun ℕ ℕ
  term_run = record { workers = workers_in 4 term_turned; order = term_order }

abbrev pub term_schedule : Schedule
term_schedule = record { seed = 0; turns = 100 }

abbrev pub term_journal : Journal
term_journal = record {
  actors =
      record { name = codes "a"; entries = entry_nr 2 (answer.Object (id 1)) ∷ entry_nr 3 answer.Done ∷ entry_nr 4 answer.Done ∷ [] }
      ∷ record {
        name = codes "b";
        entries =
            entry_nr 6 (answer.Object (id 2)) ∷ entry_nr 7 answer.Done ∷ entry_nr 8 answer.Done
            ∷ entry_nr 9 (answer.Pair (pair_nr 1)) ∷ entry_nr 10 (answer.Pair (pair_nr 1)) ∷ entry_nr 11 answer.Done
            ∷ entry_nr 12 (answer.NotSent send.Term) ∷ [];
      }
      ∷ [];
  ended = line_of_object 1 (Socket Pull) ∷ line_of_object 2 (Socket Push) ∷ line_of_object 0 Root ∷ [];
  pipes =
      Some (record { counts = record (row_given (end_of 1 true) 1) { given = 0; rest = 1 }; reason = Some Closed })
      ∷ Some (record { counts = row_given (end_of 1 false) 0; reason = None }) ∷ [];
  objects = row_of_object Root true ∷ row_of_object (Socket Pull) true ∷ row_of_object (Socket Push) true ∷ [];
  done = true;
}

abbrev pub term_text : List ℕ
term_text = codes "a 2 ok o1\na 3 ok\na 4 ok\nb 6 ok o2\nb 7 ok\nb 8 ok\nb 9 ok p1\nb 10 ok p1\nb 11 ok\nb 12 term\nend o1 PULL\nend o2 PUSH\nend o0 ctx\npipe p1a sent 1 given 0 heard 0 dropped 0 written 0 lost 0 rest 1 closed\npipe p1b sent 0 given 0 heard 0 dropped 0 written 0 lost 0 rest 0 -\ndone\n"
