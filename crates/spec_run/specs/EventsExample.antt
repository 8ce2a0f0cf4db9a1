-- A worked run by events, by hand from the tables: as the run of a socket that is made and closed, but with no looks; events that are not allowed do nothing.
use Rattle.std.specs.Prelude.{ℕ, List, [], ◌∷◌}
use Rattle.zq_base.specs.declared.kind.Kind.TheVariants.{Pull}
use Rattle.spec_run.specs.declared.script.Call.TheVariants as call
use Rattle.spec_control.specs.declared.letter.Word.TheVariants.{Term, TermAck, Reap}
use Rattle.spec_control.specs.declared.request.Req.TheVariants.{Socket as MakeSocket, AskTerm, Close}
use Rattle.spec_control.specs.declared.request.Reply.TheVariants.{Done, Object, Asked}
use Rattle.spec_control.specs.declared.entry.Item.{Item}
use Rattle.spec_control.specs.Control.{id}
use Rattle.spec_control.specs.ControlExamples.{Stories, silent}
use Rattle.spec_run.specs.declared.answer.Answer.TheVariants as answer
use Rattle.spec_run.specs.TextParts.{options_with}
use Rattle.spec_run.specs.Act.{Said, Tries, Fetches, AsksRoot, Reads}
use Rattle.spec_run.specs.OwnedRun.{OwnedRun}
use Rattle.spec_run.specs.CoreEvents.{CoreEvent, NextLine, TakeFrom, AskRoot, Tick, Made}
use Rattle.spec_run.specs.ExampleParts.{item_asked, item_taken, moment, over_at, line_nr}

-- an empty mailbox, an actor that is not there, and one that has finished have no step; the mailbox of a closed socket has none before its Reap
abbrev pub closing_events : List CoreEvent
closing_events =
    NextLine 0 ∷ TakeFrom 0 ∷ NextLine 7 ∷ NextLine 0 ∷ Tick 5 ∷ NextLine 0 ∷ TakeFrom 0 ∷ AskRoot ∷ TakeFrom 2 ∷ TakeFrom 2 ∷ TakeFrom 0 ∷ []

module _ (stories : Stories) where
  abbrev pub events_order : List (Item ℕ ℕ)
  events_order =
      item_asked 0 (MakeSocket Pull (options_with 1000)) (Object (id 1)) (silent stories)
      ∷ item_asked 0 (Close (id 1)) Done (silent stories)
      ∷ item_taken 1 0 0 (Reap (id 1)) (silent stories)
      ∷ item_asked 3 AskTerm Asked (silent stories)
      ∷ item_taken 1 2 1 Term (silent stories)
      ∷ item_taken 1 0 0 (TermAck (id 1)) (silent stories)
      ∷ []

  abbrev pub events_made : List (Made ℕ ℕ)
  events_made =
      record { worker = 0; deed = Tries (over_at (line_nr 2 (call.Socket Pull (options_with 1000))) [] (Said (moment events_order 0) ∷ []) (answer.Object (id 1))) }
      ∷ record { worker = 0; deed = Tries (over_at (line_nr 3 (call.Close 0)) [] (Said (moment events_order 1) ∷ []) answer.Done) }
      ∷ record { worker = 3; deed = Reads 5 }
      ∷ record { worker = 1; deed = Fetches 0 (Said (moment events_order 2) ∷ []) }
      ∷ record { worker = 3; deed = AsksRoot (Said (moment events_order 3) ∷ []) }
      ∷ record { worker = 1; deed = Fetches 2 (Said (moment events_order 4) ∷ []) }
      ∷ record { worker = 1; deed = Fetches 0 (Said (moment events_order 5) ∷ []) }
      ∷ []

  abbrev pub events_run : OwnedRun ℕ ℕ
  events_run = record {
    workers =
        ((Tries (over_at (line_nr 2 (call.Socket Pull (options_with 1000))) [] (Said (moment events_order 0) ∷ []) (answer.Object (id 1))) ∷ [])
        ∷ (Tries (over_at (line_nr 3 (call.Close 0)) [] (Said (moment events_order 1) ∷ []) answer.Done) ∷ []) ∷ [])
        ∷ ((Fetches 0 (Said (moment events_order 2) ∷ []) ∷ []) ∷ (Fetches 2 (Said (moment events_order 4) ∷ []) ∷ []) ∷ (Fetches 0 (Said (moment events_order 5) ∷ []) ∷ []) ∷ [])
        ∷ []
        ∷ ((Reads 5 ∷ []) ∷ (AsksRoot (Said (moment events_order 3) ∷ []) ∷ []) ∷ []) ∷ [];
    order = events_order;
  }
