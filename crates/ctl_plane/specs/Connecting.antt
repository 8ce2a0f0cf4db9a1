-- When a connect waits for its name (own choice, after zmq_inproc(7)).
use Rattle.std.specs.Prelude.{◌≡◌, ℕ, List, true, None}
use Rattle.zq_base.specs.declared.endpoint.Endpoint.TheVariants.{Inproc}
use Rattle.spec_control.specs.Rows.{obj}
use Rattle.spec_control.specs.Stage.{is_alive}
use Rattle.spec_control.specs.Control.{Control}
use Rattle.spec_control.specs.ControlRun.{IsOpenSocket}

-- the root was not asked, and nobody holds the name that an open socket connects to
pub record MayWait (c : Control) (i : ℕ) (name : List ℕ) : Type 0 where
  pub socket : IsOpenSocket (obj c.rows i)
  pub lives : is_alive (obj c.rows 0).stage ≡ true
  pub free : c.names.held (Inproc name) ≡ None
