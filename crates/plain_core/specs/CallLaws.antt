-- What is so of the calls of open sockets, whichever core they are made through (own choice).
use Rattle.std.specs.Prelude.{◌≡◌, true}
use Rattle.msg_pipe.specs.Known.{Known}
use Rattle.desk.specs.declared.given.Given.{Given}
use Rattle.socket_laws.specs.Calling.{IsExact}
use Rattle.core_laws.specs.Rest.{OthersAgreeStill}
use Rattle.core_laws.specs.Told.{CallsAreTold}
use Rattle.core_laws.specs.Own.{OwnJoinStill}
use Rattle.core_laws.specs.Reaper.{AskedStay, ElseBehind, ElseStay, ReapersKeep}
use Rattle.core_laws.specs.Counting.{TablesGoOn}
use Rattle.plain_core.specs.Lending.{SocketsCanBeLent}

module _ (W : Type 0) {S N O I : Type 0} (K : Known S O I N) (T : Type 0) where
  -- such calls are told, and leave what others have, what the reaper has and what is on its way to it; sockets can be lent, and what is dropped is counted
  pub record CallLaws : Type 0 where
    pub exact : K.exact ≡ true → IsExact K
    pub lend : SocketsCanBeLent W T K
    pub told : CallsAreTold K (Given N O I) T
    pub own : OwnJoinStill W T K
    pub agree : OthersAgreeStill W T K
    pub keep : ReapersKeep (Given N O I) N T
    pub apart : ElseBehind K (Given N O I) T
    pub stay : ElseStay K (Given N O I) T
    pub asked : AskedStay (Given N O I) N T
    pub tables : TablesGoOn N T
