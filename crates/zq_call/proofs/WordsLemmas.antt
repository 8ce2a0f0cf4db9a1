-- The command's parts.
use Rattle.std.proofs.Common.{◌≡◌, ◌∙◌, ◌≢◌, ℕ, Bool, List, [], ◌∷◌, Option, Some, None, IfSome, IfNone, true, false, refl, ap, subst, inl, inr}
use Rattle.clap.specs.Words.{HasKind, IsAmong, Kinds, is_simple_and_free, kind_of}
use Rattle.clap.specs.declared.error.Error.{Error}
use Rattle.clap.specs.declared.error.ErrorKind.TheVariants.{OutOfMemory}
use Rattle.clap.proofs.OnLiterals.{clap_on_literals}
use Rattle.zq_call.specs.Words.{program}

-- clap finds nothing in the program's commands that its function of the words doesn't speak of
pub is_simple_program : is_simple_and_free program ≡ true
unfolding clap_on_literals
is_simple_program = refl

-- where a parse failed for another cause than memory, there is a fault
pub has_fault : (kinds : Kinds) (e : Error) → HasKind kinds e → (kind_of e ≡ OutOfMemory → ⊥) → kinds ≢ []
has_fault kinds e (inl memory) other none = other memory
has_fault kinds e (inr among) other none = subst (IsAmong (kind_of e)) none among
