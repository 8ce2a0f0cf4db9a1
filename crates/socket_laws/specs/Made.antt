-- The pipes that a socket's request made go by the names that its item tells (own choice).
use Rattle.std.specs.Prelude.{ℕ, List, [], ◌∷◌, ◌++◌, All, true}
use Rattle.msg_pipe.specs.Known.{Known}
use Rattle.spec_control.specs.declared.entry.Item.{Item}
use Rattle.spec_control.specs.declared.entry.Joining.{Joining}
use Rattle.spec_control.specs.declared.request.Req.{Req}
use Rattle.spec_control.specs.declared.request.Reply.{Reply}
use Rattle.spec_control.specs.Control.{Control, begun}
use Rattle.spec_control.specs.ControlRun.{after_all, after_item, FitsItem, IsControlRun}
use Rattle.spec_control.specs.Names.{name_of, joined_in, FitsNames}
use Rattle.desk.specs.Asking.{IsOfSockets}
use Rattle.desk.specs.Making.{IsMadeFor}
use Rattle.end_table.specs.declared.changes.PipeChange.{PipeChange}
use Rattle.end_table.specs.Changes.{AreMadeFor}
use Rattle.spec_run.specs.Event.{IsRequest}
use Rattle.socket_laws.specs.Changes.{NamesGoOn}

module _ {S O I N : Type 0} (K : Known S O I N) where
  -- these ends joined with halves of the pipes that were made for them last, as the request of a socket makes them
  abbrev pub AreMadeAll : Control → Req → List (PipeChange O I × S) → List (Joining N) → Type 0
  AreMadeAll c req changes js = All (λ j. AreMadeFor K (IsMadeFor c req) changes j.end j.written j.read) js

  -- so the pipes that go by names since the item are those
  abbrev pub MadeNamesGoOn : (T : Type 0) → Type 0
  MadeNamesGoOn T = (io : ℕ) (items : List (Item N T)) (item : Item N T) → IsControlRun (begun io) items → FitsItem (after_all items (begun io)) item → FitsNames items item →
      let c = after_all items (begun io) in
      (req : Req) (reply : Reply) → IsRequest req reply (record { found = c; item = item }) → IsOfSockets true req →
      (changes : List (PipeChange O I × S)) → AreMadeAll c req changes (joined_in item) → NamesGoOn K c (after_item item c) changes (name_of items) (name_of (items ++ item ∷ []))
