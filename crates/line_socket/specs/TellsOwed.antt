-- A desk whose callers take turns tells its own order (own choice).
use Rattle.std.proofs.Common.{◌≡◌, refl}
use Rattle.spec_control.specs.Names.{name_of}
use Rattle.desk.specs.declared.given.Given.{Given}
use Rattle.ctl_plane.specs.Past.{control_of}
use Rattle.plain_desk.specs.Lent.{Lent, coming_to, moments_of}
use Rattle.plain_desk.specs.Reaping.{served_by}
use Rattle.line_socket.specs.Tells.{IsTold}

module _ {N O I T : Type 0} where
  pub told_so : (d : Lent (Given N O I) N T) → IsTold d d.caller (moments_of d) (served_by d) (name_of d.items) (coming_to d) d.past.given (λ c. c ≡ control_of d.past)
  told_so d = record { number_is = refl; moments_are = refl; served_is = λ m i. refl; named_is = λ e. refl; coming_is = λ m e. refl; given_is = refl; found_is = λ c h. h }
