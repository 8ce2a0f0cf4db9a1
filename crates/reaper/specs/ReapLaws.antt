-- What the laws of the reaper's calls lean on (own choice).
use Rattle.msg_pipe.specs.Known.{Known}
use Rattle.desk.specs.declared.given.Given.{Given}
use Rattle.socket_laws.specs.Sides.{SidesStandOn}
use Rattle.core_laws.specs.Arriving.{NoPlugs, ReaperCallsStandSo, ReaperGoesSo, TakenAreHad}
use Rattle.core_laws.specs.ReapedCall.{ReapersCallsAreSo}
use Rattle.core_laws.specs.ReapedComing.{ClosedBindsFit, GivenMayBeTaken, ServedAreHad}
use Rattle.core_laws.specs.Ends.{GivenStay}
use Rattle.core_laws.specs.Agreeing.{OpenAgreeStill}
use Rattle.core_laws.specs.Asked.{AsksItsOwn}
use Rattle.core_laws.specs.Looked.{LooksAreShut, LooksKeep, LooksStand}
use Rattle.core_laws.specs.Reaped.{ReaperKeepsGiven, ReaperKeepsNames, ReaperKeepsUnsealed}
use Rattle.core_laws.specs.Taken.{KeepsOnlyTaken, ReaperKeepsTaken}

module _ (W : Type 0) {S N O I : Type 0} (K : Known S O I N) (T : Type 0) where
  -- the reaper may take a letter with what it has; what stands, and what is so of closed sockets and of what is on its way, goes on over the letter and over a look behind it, with the sockets that callers have open
  pub record ReapLaws : Type 0 where
    pub calls : ReapersCallsAreSo (Given N O I) N T
    pub plugs : NoPlugs (Given N O I) N T
    pub had : TakenAreHad K (Given N O I) T
    pub binds : ClosedBindsFit K (Given N O I) T
    pub takes : GivenMayBeTaken K
    pub served : ServedAreHad (Given N O I) N T
    pub stand : ReaperCallsStandSo K T
    pub goes : ReaperGoesSo K T
    pub names : ReaperKeepsNames K T
    pub unsealed : ReaperKeepsUnsealed K T
    pub given : ReaperKeepsGiven K T
    pub given_asked : GivenStay N O I T
    pub taken : ReaperKeepsTaken K T
    pub only : KeepsOnlyTaken (Given N O I) N T
    pub agree : OpenAgreeStill W T K
    pub looks : LooksKeep W T K
    pub looked : LooksStand K T
    pub shut : LooksAreShut K T
    pub asks : AsksItsOwn N O I T
    pub sides : SidesStandOn N T
