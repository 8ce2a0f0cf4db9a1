-- A worked run, by hand from the tables: an actor makes a PULL and closes it, the reaper ends it, and the root ends. With one turn the run is unfinished.
use Rattle.std.specs.Prelude.{ℕ, true, List, [], ◌∷◌, codes}
use Rattle.zq_base.specs.declared.kind.Kind.TheVariants.{Pull}
use Rattle.spec_control.specs.declared.object.ObjKind.TheVariants.{Root, Socket}
use Rattle.spec_control.specs.declared.object.ObjState.TheVariants.{Live, Asked as WasAsked, Ended}
use Rattle.spec_control.specs.declared.letter.Word.TheVariants.{Term, TermAck, Reap}
use Rattle.spec_control.specs.declared.request.Req.TheVariants.{Socket as MakeSocket, AskTerm, Close}
use Rattle.spec_control.specs.declared.request.Reply.TheVariants.{Done, Object, Asked}
use Rattle.spec_control.specs.declared.entry.SeenEmpty.TheVariants.{Nothing, Reapers}
use Rattle.spec_control.specs.declared.entry.Item.{Item}
use Rattle.spec_control.specs.Control.{id}
use Rattle.spec_control.specs.ControlExamples.{Stories, silent}
use Rattle.spec_run.specs.declared.answer.Answer.TheVariants as answer
use Rattle.spec_run.specs.Run.{Schedule}
use Rattle.spec_run.specs.TextParts.{options_with}
use Rattle.spec_run.specs.declared.journal.Journal.{Journal}
use Rattle.spec_run.specs.declared.script.Call.TheVariants as call
use Rattle.spec_run.specs.Script.{Script}
use Rattle.spec_run.specs.Act.{Said, Tries, Fetches, Idles, Looks, AsksRoot}
use Rattle.spec_run.specs.OwnedRun.{OwnedRun}
use Rattle.spec_run.specs.InTurns.{Turned, workers_in}
use Rattle.spec_run.specs.ExampleParts.{item_asked, item_taken, item_seen, moment, over_at, line_nr, turn_of, entry_nr, line_of_object, row_of_object}

abbrev pub closing_script : Script
closing_script = record { name = codes "a"; lines = line_nr 2 (call.Socket Pull (options_with 1000)) ∷ line_nr 3 (call.Close 0) ∷ [] } ∷ []

module _ (stories : Stories) where
  -- caller 0 is the actor, 1 the reaper, 3 the conductor; the socket's mailbox has number 2
  abbrev pub closing_order : List (Item ℕ ℕ)
  closing_order =
      item_seen 3 Nothing Live 1
      ∷ item_asked 0 (MakeSocket Pull (options_with 1000)) (Object (id 1)) (silent stories)
      ∷ item_seen 1 Reapers Live 2
      ∷ item_seen 3 Nothing Live 2
      ∷ item_asked 0 (Close (id 1)) Done (silent stories)
      ∷ item_taken 1 0 0 (Reap (id 1)) (silent stories)
      ∷ item_seen 3 Nothing Live 2
      ∷ item_asked 3 AskTerm Asked (silent stories)
      ∷ item_taken 1 2 1 Term (silent stories)
      ∷ item_seen 3 Nothing WasAsked 1
      ∷ item_taken 1 0 0 (TermAck (id 1)) (silent stories)
      ∷ item_seen 3 Nothing Ended 0
      ∷ []

  abbrev pub closing_turned : Turned ℕ ℕ
  closing_turned = record {
    first = 0;
    turns =
        turn_of (Looks (moment closing_order 0) ∷ [])
        ((Tries (over_at (line_nr 2 (call.Socket Pull (options_with 1000))) [] (Said (moment closing_order 1) ∷ []) (answer.Object (id 1))) ∷ [])
        ∷ (Idles (moment closing_order 2) ∷ []) ∷ [] ∷ []) 1
        ∷ turn_of (Looks (moment closing_order 3) ∷ [])
        ((Tries (over_at (line_nr 3 (call.Close 0)) [] (Said (moment closing_order 4) ∷ []) answer.Done) ∷ [])
        ∷ (Fetches 0 (Said (moment closing_order 5) ∷ []) ∷ []) ∷ [] ∷ []) 2
        ∷ turn_of (Looks (moment closing_order 6) ∷ AsksRoot (Said (moment closing_order 7) ∷ []) ∷ [])
        ([] ∷ (Fetches 2 (Said (moment closing_order 8) ∷ []) ∷ []) ∷ [] ∷ []) 3
        ∷ turn_of (Looks (moment closing_order 9) ∷ [])
        ([] ∷ (Fetches 0 (Said (moment closing_order 10) ∷ []) ∷ []) ∷ [] ∷ []) 4
        ∷ [];
    last = moment closing_order 11;
  }

  abbrev pub closing_run : OwnedRun ℕ ℕ
  closing_run = record { workers = workers_in 3 closing_turned; order = closing_order }

abbrev pub closing_schedule : Schedule
closing_schedule = record { seed = 0; turns = 4 }

abbrev pub closing_journal : Journal
closing_journal = record {
  actors = record { name = codes "a"; entries = entry_nr 2 (answer.Object (id 1)) ∷ entry_nr 3 answer.Done ∷ [] } ∷ [];
  ended = line_of_object 1 (Socket Pull) ∷ line_of_object 0 Root ∷ [];
  pipes = [];
  objects = row_of_object Root true ∷ row_of_object (Socket Pull) true ∷ [];
  done = true;
}

abbrev pub closing_text : List ℕ
closing_text = codes "a 2 ok o1\na 3 ok\nend o1 PULL\nend o0 ctx\ndone\n"
