-- What may be told of a value by proofs (own choice).
use Rattle.std.specs.Prelude.{◌≡◌, List, ◌++◌}

module _ {W X : Type 0} (tells : W → List X → Type 0) where
  -- these may be told of it
  pub record TellsSome (what : W) : Type 0 where
    pub some : List X
    pub so : tells what some

  -- such stand behind what was told before
  pub record TellsMore (what : W) (old new : List X) : Type 0 where
    pub more : List X
    pub so : tells what more
    pub behind : new ≡ old ++ more
