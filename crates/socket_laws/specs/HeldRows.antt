-- The rows of the ends that a socket holds are of pipes that go by names (own choice).
use Rattle.std.specs.Prelude.{ℕ, List, Option}
use Rattle.zq_base.specs.Ends.{PipeId}
use Rattle.msg_pipe.specs.Known.{Known}
use Rattle.end_table.specs.Rows.{Rows}
use Rattle.end_table.specs.Past.{AreNamed}
use Rattle.spec_control.specs.declared.entry.Item.{Item}
use Rattle.spec_control.specs.Control.{begun}
use Rattle.spec_control.specs.ControlRun.{after_all, IsControlRun}
use Rattle.spec_run.specs.OwnedRun.{pipe_capacity}
use Rattle.end_table.specs.declared.table.Place.{Place}
use Rattle.end_table.specs.Sound.{IsSound}
use Rattle.socket_laws.specs.Standing.{goes_in}
use Rattle.socket_laws.specs.Ends.{AreHeldFor}
use Rattle.socket_laws.specs.Messages.{AreOwned}

-- after a control run the halves in the rows of such places are of pipes that go by their names, and the rows are of ends of the object
abbrev pub HeldRowsAreNamed : {S O I N : Type 0} → Known S O I N → (T : Type 0) → Type 0
HeldRowsAreNamed {S} {O} {I} {N} K T = (io : ℕ) (items : List (Item N T)) → IsControlRun (begun io) items → let c = after_all items (begun io) in
    (names : PipeId → Option N) (o : ℕ) (pipes : S) (rows : Rows O I) (places : List (Place N I)) → IsSound K pipes rows places → AreHeldFor c names o places →
    AreNamed K (goes_in c names) (pipe_capacity c) rows × AreOwned c o rows
