-- Steps that may fail, and the answers of functions that read (own choice).
use Rattle.std.specs.Prelude.{◌≡◌, ⊤, Result, Ok, Err}
use Rattle.zq_script.specs.declared.fault.Cause.{Cause}
use Rattle.zq_script.specs.declared.fault.LineError.{LineError}
use Rattle.zq_script.specs.declared.fault.LineError.TheVariants.{Fault, OutOfMemory}
use Rattle.zq_script.specs.declared.fault.ReadScript.{ReadScript}
use Rattle.zq_script.specs.declared.fault.ReadScript.TheVariants as read
use Rattle.zq_script.specs.declared.fault.ScriptFault.{ScriptFault}

-- the second step, where the first gave a value
infixl 10 ◌>>=◌
abbrev pub ◌>>=◌ : {A B E : Type 0} → Result A E → (A → Result B E) → Result B E
Ok x >>= f = f x
Err e >>= f = Err e

-- the result is the wanted one, or memory was wanting
abbrev pub Gives : {T : Type 0} → Result T LineError → Result T Cause → Type 0
Gives (Ok x) wanted = wanted ≡ Ok x
Gives (Err (Fault cause)) wanted = wanted ≡ Err cause
Gives (Err OutOfMemory) wanted = ⊤

-- the same, where the line of the fault is told
abbrev pub Reads : {T : Type 0} → Result T ReadScript → Result T ScriptFault → Type 0
Reads (Ok x) wanted = wanted ≡ Ok x
Reads (Err (read.Fault fault)) wanted = wanted ≡ Err fault
Reads (Err read.OutOfMemory) wanted = ⊤
