use Rattle.std.proofs.Common.{Option, subst}
use Rattle.std.specs.Prelude.{IfOk, IfSome, IfNone}
use Rattle.zq_base.specs.declared.options.Peer.{Peer}
use Rattle.link_side.specs.Kept.{Side}
use Rattle.link_side.specs.Silent.{IsShaken, IsUnshaken}
use Rattle.link_side.proofs.side.LinkSide.peer.Goals as goal

pub returns-clause-some : goal.returns-clause-some
returns-clause-some c =
    subst (λ (x : Side). IfOk c.peer.result (λ (o : Option Peer). IfSome o (λ (peer : Peer). IsShaken peer x.kept))) c.self.view_is c.peer.ensures.some

pub returns-clause-none : goal.returns-clause-none
returns-clause-none c =
    subst (λ (x : Side). IfOk c.peer.result (λ (o : Option Peer). IfNone o (IsUnshaken x.kept))) c.self.view_is c.peer.ensures.none
