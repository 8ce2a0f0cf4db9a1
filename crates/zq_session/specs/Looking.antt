-- A look at the front of the pipe that a session's end reads, aside from its turns (own choice).
use Rattle.std.specs.Prelude.{List, ◌++◌}
use Rattle.std.specs.List.{flat_map}
use Rattle.msg_pipe.specs.Known.{Known, IsThere}
use Rattle.spec_link.specs.History.{Basis, SessionEvent, standing}
use Rattle.spec_link.specs.Turn.{Looks}
use Rattle.zq_session.specs.LifeView.{IsReadable}
use Rattle.zq_session.specs.Halves.{StepsRun, step_at}
use Rattle.zq_session.specs.Sessions.{SessionState, HasLived}

-- its end can be read
abbrev pub HasReader : {O I : Type 0} → SessionState O I → Type 0
HasReader v = IsReadable v.course.life.state

module _ {S O I N : Type 0} (K : Known S O I N) where
  -- one look behind this history: the reading half did it, and all pipes are there still
  pub record LooksOn (b : Basis) (history : List SessionEvent) (old new : SessionState O I) (s s' : S) : Type 0 where
    pub events : List SessionEvent
    pub looks : Looks b (standing b history) events
    pub lived : HasLived b (history ++ events) new
    pub steps : StepsRun K (flat_map step_at events) s old.input old.out s' new.input new.out
    pub there : (n : N) → IsThere K s n → IsThere K s' n
