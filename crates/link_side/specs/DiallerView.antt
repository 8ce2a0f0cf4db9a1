-- What a dialler's fields stand for.
use Rattle.std.specs.Prelude.{IfSome}
use Rattle.spec_zmtp.specs.OwnCommands.{IsEngineOpts}
use Rattle.link_side.specs.declared.dialler.Dialler.TheInside.{Inside}
use Rattle.link_side.specs.Dials.{DiallerState, IsFresh}

-- all but the side that is kept for the next link
abbrev pub dialler_of : Inside → DiallerState
dialler_of d = record { object = d.object; to = d.to; opts = d.opts; interval = d.interval; dial_at = d.dial_at }

-- the side that is kept is fresh
pub record IsDialler (d : Inside) : Type 0 where
  pub opts : IsEngineOpts d.opts
  pub fresh : IfSome d.spare (IsFresh d.opts)
