-- What a connecting socket holds of its connect (zmq_connect(3)).
use Rattle.std.specs.Prelude.{None}
use Rattle.zq_base.specs.declared.endpoint.Endpoint.{Endpoint}
use Rattle.zq_base.specs.declared.ids.PairId.{PairId}
use Rattle.ctl_state.specs.declared.hold.Hold.{Hold}
use Rattle.ctl_state.specs.declared.hold.Held.TheVariants.{Joined}

-- a connect that got this pair, without a session
abbrev pub joined_at : Endpoint → PairId → Hold
joined_at at pair = record { at = at; held = Joined pair None }
