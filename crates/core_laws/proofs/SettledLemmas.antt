-- A pipe that no end read that is held no more was not settled.
use Rattle.std.proofs.Common.{subst}
use Rattle.std.proofs.Math.Logic.{∥∥₁_elim}
use Rattle.msg_pipe.specs.Known.{Known, IsElse}
use Rattle.core_laws.specs.Laws.{SettledWereRead}

else_prop : {N O I P : Type 0} (K : Known P O I N) (n m : N) → IsProp (IsElse K n m)
else_prop K n m = Prim.hlevel

pub settled_were_read : {N O I P : Type 0} (K : Known P O I N) → SettledWereRead K
settled_were_read {N} {O} {I} {P} K t were n apart = λ k x lt.
    ∥∥₁_elim (were k x lt) (else_prop K n _) (λ r. subst (IsElse K n) r.name_is (apart r.at r.place r.there r.gone))
