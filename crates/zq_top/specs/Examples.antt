-- Worked examples of what is said of a script that is none (own format), so that a wrong rule in the definitions does not check.
use Rattle.std.specs.Prelude.{◌≡◌, codes}
use Rattle.zq_script.specs.declared.fault.Cause.TheVariants.{BadPart, TooLong}
use Rattle.zq_top.specs.Headline.{fault_text, RefusesScript}

pub record FaultsWork : Type 0 where
  pub line : fault_text (record { line = 12; cause = BadPart }) ≡ codes "script 12 BadPart\n"
  pub whole : fault_text (record { line = 0; cause = TooLong }) ≡ codes "script 0 TooLong\n"
  -- the fault of an octet that is no line of a script is told with the first line
  pub said : RefusesScript (codes "x\n") (codes "script 1 BadWord\n")
  -- and with no other
  pub only : RefusesScript (codes "x\n") (codes "script 2 BadWord\n") → ⊥
