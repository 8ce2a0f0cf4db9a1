-- What is told of a desk whose order can be told (own choice).
use Rattle.std.specs.Prelude.{◌≡◌, ℕ, Bool, List, Option}
use Rattle.zq_base.specs.declared.ids.EndId.{EndId}
use Rattle.spec_control.specs.Control.{Control}
use Rattle.spec_control.specs.Names.{name_of}
use Rattle.spec_control.specs.Moments.{Moment}
use Rattle.desk.specs.declared.given.Given.{Given}
use Rattle.ctl_plane.specs.Past.{control_of}
use Rattle.plain_desk.specs.Lent.{Lent, coming_to, moments_of}
use Rattle.plain_desk.specs.Reaping.{served_by}

module _ {N O I T : Type 0} where
  -- what is told of a desk as of any is told of this order
  pub record IsTold (l : Lent (Given N O I) N T) (number : ℕ) (moments : List (Moment N T)) (served : ℕ → ℕ → Bool) (named : EndId → Option N) (coming : ℕ → EndId → Bool) (given : List (Given N O I)) (finds : Control → Type 0) : Type 0 where
    pub number_is : number ≡ l.caller
    pub moments_are : moments ≡ moments_of l
    pub served_is : (m i : ℕ) → served m i ≡ served_by l m i
    pub named_is : (e : EndId) → named e ≡ name_of l.items e
    pub coming_is : (m : ℕ) (e : EndId) → coming m e ≡ coming_to l m e
    pub given_is : given ≡ l.past.given
    pub found_is : (c : Control) → finds c → c ≡ control_of l.past
