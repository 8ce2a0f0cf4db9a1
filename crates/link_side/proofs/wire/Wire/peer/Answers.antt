use Rattle.std.proofs.Common.{sym, subst}
use Rattle.zq_base.specs.declared.options.Peer.{Peer}
use Rattle.link_side.specs.WireView.{kept}
use Rattle.link_side.specs.Silent.{IsShaken}
use Rattle.link_side.proofs.SilentLemmas.{shaken_now, unshaken_now}
use Rattle.link_side.proofs.wire.Wire.peer.Goals as goal

pub returns-in-Some-clause-some : goal.returns-in-Some-clause-some
returns-in-Some-clause-some c =
    subst (λ (x : Peer). IsShaken x (kept c.args.self.now)) (sym c.in_ok-copy-in-Some.ensures)
    (shaken_now (kept c.args.self.now) c.in-Some.peer.now c.requires.rest.fed c.requires.rest.current c.in-Some.ensures.meaning)

pub returns-in-None-clause-none : goal.returns-in-None-clause-none
returns-in-None-clause-none c = unshaken_now (kept c.args.self.now) c.requires.rest.fed c.requires.rest.current c.in-None.ensures.meaning
