-- Facts of booleans and options.
use Rattle.std.specs.Prelude.{◌≡◌, true, false, Some, None}
use Rattle.std.proofs.Common.{arith}

pub never : false ≡ true → ⊥
never f = Prim.grind arith

pub some_none : {X : Type 0} {x : X} → Some x ≡ None → ⊥
some_none e = Prim.grind arith
