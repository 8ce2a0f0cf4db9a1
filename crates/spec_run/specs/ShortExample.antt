-- A worked run, by hand from the tables: an actor makes a PULL, and there is no further turn. What has not ended is shown.
use Rattle.std.specs.Prelude.{ℕ, false, List, [], ◌∷◌, codes}
use Rattle.zq_base.specs.declared.kind.Kind.TheVariants.{Pull}
use Rattle.spec_run.specs.declared.script.Call.TheVariants as call
use Rattle.spec_control.specs.declared.object.ObjKind.TheVariants.{Root, Socket}
use Rattle.spec_control.specs.declared.object.ObjState.TheVariants.{Live}
use Rattle.spec_control.specs.declared.request.Req.TheVariants.{Socket as MakeSocket}
use Rattle.spec_control.specs.declared.request.Reply.TheVariants.{Object}
use Rattle.spec_control.specs.declared.entry.SeenEmpty.TheVariants.{Nothing, Reapers}
use Rattle.spec_control.specs.declared.entry.Item.{Item}
use Rattle.spec_control.specs.Control.{id}
use Rattle.spec_control.specs.ControlExamples.{Stories, silent}
use Rattle.spec_run.specs.declared.answer.Answer.TheVariants as answer
use Rattle.spec_run.specs.Run.{Schedule}
use Rattle.spec_run.specs.TextParts.{options_with}
use Rattle.spec_run.specs.declared.journal.Journal.{Journal}
use Rattle.spec_run.specs.Act.{Said, Tries, Idles, Looks}
use Rattle.spec_run.specs.OwnedRun.{OwnedRun}
use Rattle.spec_run.specs.InTurns.{Turned, workers_in}
use Rattle.spec_run.specs.ExampleParts.{item_asked, item_seen, moment, over_at, line_nr, turn_of, entry_nr, row_of_object}

module _ (stories : Stories) where
  abbrev pub short_order : List (Item ℕ ℕ)
  short_order =
      item_seen 3 Nothing Live 1
      ∷ item_asked 0 (MakeSocket Pull (options_with 1000)) (Object (id 1)) (silent stories)
      ∷ item_seen 1 Reapers Live 2
      ∷ item_seen 3 Nothing Live 2
      ∷ []

  abbrev pub short_turned : Turned ℕ ℕ
  short_turned = record {
    first = 0;
    turns =
        turn_of (Looks (moment short_order 0) ∷ [])
        ((Tries (over_at (line_nr 2 (call.Socket Pull (options_with 1000))) [] (Said (moment short_order 1) ∷ []) (answer.Object (id 1))) ∷ [])
        ∷ (Idles (moment short_order 2) ∷ []) ∷ [] ∷ []) 1
        ∷ [];
    last = moment short_order 3;
  }

  abbrev pub short_run : OwnedRun ℕ ℕ
  short_run = record { workers = workers_in 3 short_turned; order = short_order }

abbrev pub short_schedule : Schedule
short_schedule = record { seed = 0; turns = 1 }

abbrev pub cut_journal : Journal
cut_journal = record {
  actors = record { name = codes "a"; entries = entry_nr 2 (answer.Object (id 1)) ∷ [] } ∷ [];
  ended = [];
  pipes = [];
  objects = row_of_object Root false ∷ row_of_object (Socket Pull) false ∷ [];
  done = false;
}

abbrev pub short_text : List ℕ
short_text = codes "a 2 ok o1\nlive o0 ctx\nlive o1 PULL\nunfinished\n"
