-- Lists that have the same in another order (own choice).
use Rattle.std.specs.Prelude.{◌≡◌, ◌++◌, List, [], ◌∷◌}

-- one of these is taken out, and the rest is left
pub record Takes {X : Type 0} (x : X) (xs rest : List X) : Type 0 where
  pub before : List X
  pub behind : List X
  pub are : xs ≡ before ++ x ∷ behind
  pub left : rest ≡ before ++ behind

abbrev pub AreMixed : {X : Type 0} → List X → List X → Type 0
AreMixed [] ys = ys ≡ []
AreMixed {X} (x ∷ xs) ys = (rest : List X) × Takes x ys rest × AreMixed xs rest
