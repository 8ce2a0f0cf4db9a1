-- What a closed socket's ends are noted with (own choice).
use Rattle.spec_control.specs.declared.entry.Joining.{Joining}
use Rattle.spec_control.specs.Control.{Control, met_in, place_of}
use Rattle.desk.specs.declared.given.Given.{Given}

module _ {N O I : Type 0} where
  -- an end is said to have met its delimiter where the control state has noted it
  abbrev pub noted_end : Control → Given N O I → Given N O I
  noted_end c g = record g { met = met_in (place_of c g.end) (c.reasons g.end) }

-- and so in the list of those that the reaper takes over
abbrev pub noted_join : {N : Type 0} → Control → Joining N → Joining N
noted_join c j = record j { met = met_in (place_of c j.end) (c.reasons j.end) }
