-- What a call of a socket on the control plane leaves of the steps past, by its items and by what it did to the pipes (own choice, after libzmq's `pipe_t`).
use Rattle.std.specs.Prelude.{◌≡◌, ◌<◌, ◌++◌, ℕ, List, Option, Some, flat_map}
use Rattle.std.specs.List.{AllByRecursion}
use Rattle.zq_base.specs.declared.ids.EndId.{EndId}
use Rattle.zq_base.specs.Ends.{PipeId}
use Rattle.msg_pipe.specs.Known.{Known}
use Rattle.spec_pattern.specs.PipeStep.{PipeStep}
use Rattle.spec_control.specs.declared.entry.Item.{Item}
use Rattle.spec_control.specs.Control.{Control, begun, next_pair}
use Rattle.spec_control.specs.ControlRun.{after_all, IsControlRun}
use Rattle.spec_control.specs.Moments.{Moment, moments_from}
use Rattle.spec_run.specs.Act.{steps_in}
use Rattle.spec_run.specs.Event.{acts_said}
use Rattle.end_table.specs.declared.changes.PipeChange.{PipeChange}
use Rattle.end_table.specs.Changes.{sealings_in, DoesChanges}
use Rattle.end_table.specs.declared.table.Place.{Place}
use Rattle.sock_core.specs.Noted.{TellsSeals}
use Rattle.socket_laws.specs.Standing.{PastStands}
use Rattle.socket_laws.specs.Changes.{IsOfPipes, AreChangesNamed, NamesGoOn}
use Rattle.socket_laws.specs.Said.{sealed_with}
use Rattle.socket_laws.specs.Asked.{WereAsked}

module _ {S O I N : Type 0} (K : Known S O I N) where
  -- a socket's calls, from one control state to another: they did these changes at pipes that go by the names at their places, made those that go by names since, and told it to seal just what their moments tell
  pub record CallsChange {T : Type 0} (c now : Control) (names said : PipeId → Option N) (ms : List (Moment N T)) (ps : List (Place N I)) (before sealed : List EndId) (old new : S) : Type 0 where
    pub names_made : (p : PipeId) (n : N) → names p ≡ Some n → p.pair.0 < next_pair c
    pub changes : List (PipeChange O I × S)
    pub named : AreChangesNamed said ps changes
    pub names_go : NamesGoOn K c now changes names said
    pub of_pipes : AllByRecursion (λ x. IsOfPipes c now x.0) changes
    pub does : DoesChanges K ps old changes new
    pub seals : TellsSeals before (sealings_in changes) sealed
    pub grown : sealed ≡ before ++ sealed_with ms

  -- behind them the steps past stand with those of their items, and each end that it was told to seal was asked
  abbrev pub SocketCallsGoOn : (T : Type 0) → Type 0
  SocketCallsGoOn T = (io : ℕ) (items more : List (Item N T)) → IsControlRun (begun io) items → IsControlRun (after_all items (begun io)) more →
      let c = after_all items (begun io) in
      let now = after_all more c in
      let ms = moments_from c more in
      (names said : PipeId → Option N) (ps : List (Place N I)) (before sealed : List EndId) (old new : S) (past : List PipeStep) →
      CallsChange c now names said ms ps before sealed old new → WereAsked c before → PastStands K c names old past →
      PastStands K now said new (past ++ steps_in (flat_map acts_said ms)) × WereAsked now sealed
