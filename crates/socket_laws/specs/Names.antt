-- The names of all pipes, and what the calls of a socket leave of them (own choice, after libzmq's `pipe_t`).
use Rattle.std.specs.Prelude.{◌≡◌, ◌≤◌, ◌<◌, List, Option, Some}
use Rattle.zq_base.specs.Ends.{PipeId}
use Rattle.msg_pipe.specs.Known.{Known, IsThere}
use Rattle.spec_control.specs.Control.{Control, next_pair}
use Rattle.desk.specs.TakingOver.{AreDistinct}
use Rattle.end_table.specs.declared.changes.PipeChange.{PipeChange}
use Rattle.end_table.specs.declared.table.Place.{Place}
use Rattle.end_table.specs.Changes.{DoesChanges}
use Rattle.socket_laws.specs.Changes.{NamesGoOn}

module _ {S O I N : Type 0} (K : Known S O I N) where
  -- each pipe that has a name has one of its own, which is given still, and is of a pair that has its number
  pub record NamesStand (c : Control) (names : PipeId → Option N) (pipes : S) : Type 0 where
    pub there : (p : PipeId) (n : N) → names p ≡ Some n → IsThere K pipes n
    pub distinct : AreDistinct K.exact names
    pub made : (p : PipeId) (n : N) → names p ≡ Some n → p.pair.0 < next_pair c

  -- so it is behind calls that made the pipes which have names since
  abbrev pub NamesStandOn : Type 0
  NamesStandOn = (c now : Control) → next_pair c ≤ next_pair now → (names said : PipeId → Option N) (ps : List (Place N I)) (changes : List (PipeChange O I × S)) (old new : S) →
      NamesGoOn K c now changes names said → DoesChanges K ps old changes new → NamesStand c names old → NamesStand now said new

  -- and behind calls in which none got a name
  abbrev pub NamesStay : Type 0
  NamesStay = (c now : Control) → next_pair c ≤ next_pair now → (names said : PipeId → Option N) → ((p : PipeId) → said p ≡ names p) → (old new : S) →
      ((n : N) → IsThere K old n → IsThere K new n) → NamesStand c names old → NamesStand now said new
