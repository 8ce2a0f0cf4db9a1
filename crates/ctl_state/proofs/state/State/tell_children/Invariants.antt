use Rattle.ctl_state.specs.Children.{tell_noted, may_tell}
use Rattle.ctl_state.proofs.LoopLemmas.{GoneOn}
use Rattle.ctl_state.proofs.state.State.tell_children.Given as goal

-- so many of the children are done
abbrev pub invariant-each : goal.invariant-each
invariant-each g l = GoneOn may_tell tell_noted l.fn.self l.self l.owner l.place
