-- Scripts that are read (own choice).
use Rattle.std.specs.Prelude.{◌≡◌, ℕ, List, Ok}
use Rattle.spec_run.specs.Script.{Script}
use Rattle.zq_script.specs.Script.{script_of}
use Rattle.zq_world.specs.MayAsk.{MayAskScript}

-- each line of a script that is read may be asked
abbrev pub ScriptsMayBeAsked : Type 0
ScriptsMayBeAsked = (octets : List ℕ) (script : Script) → script_of octets ≡ Ok script → MayAskScript script
