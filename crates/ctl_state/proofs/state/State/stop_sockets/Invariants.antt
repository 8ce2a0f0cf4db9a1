use Rattle.ctl_state.specs.Children.{stop_one, may_stop}
use Rattle.ctl_state.proofs.LoopLemmas.{GoneOn}
use Rattle.ctl_state.proofs.state.State.stop_sockets.Given as goal

-- so many of the children are done
abbrev pub invariant-each : goal.invariant-each
invariant-each g l = GoneOn may_stop stop_one l.fn.self l.self (record { 0 = 0 }) l.place
