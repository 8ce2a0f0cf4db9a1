-- What a session does as it lets a link go (own choice).
use Rattle.std.specs.Prelude.{◌≡◌, ℕ, Bool, false, List, ◌++◌, Some, IsSome, Contains}
use Rattle.spec_control.specs.declared.end.EndState.TheVariants.{Gone}
use Rattle.spec_control.specs.declared.end.Reason.TheVariants.{Link}
use Rattle.spec_control.specs.declared.request.Req.TheVariants.{AskEnd, AskOver}
use Rattle.spec_link.specs.declared.due.Due.{Due}
use Rattle.spec_link.specs.declared.due.Due.TheVariants.{Request}
use Rattle.spec_link.specs.History.{SessionEvent, after_all, later}
use Rattle.spec_link.specs.Turn.{DueOnce}
use Rattle.zq_session.specs.declared.life.Life.{Life}
use Rattle.zq_session.specs.declared.course.Course.{Course}
use Rattle.zq_session.specs.Lives.{Story, AreDue, basis_of, standing_of}
use Rattle.zq_session.specs.Courses.{IsOfDials}
use Rattle.zq_session.specs.LifeSteps.{IsSame, with_dues}

-- an accepted session asks its end, and asks to end
pub record AsksBy (old new : Life) (p : Story) : Type 0 where
  pub asks : List SessionEvent
  pub over : List SessionEvent
  pub dues : List Due
  pub asks_are : DueOnce (standing_of old p) ((old.dials ≡ false) × (IsSome old.state × (old.state ≡ Some Gone → ⊥))) (Request (AskEnd old.end Link)) asks
  pub over_is : DueOnce (after_all (basis_of old p) (standing_of old p) asks) (old.dials ≡ false) (Request (AskOver old.object)) over
  pub after_is : after_all (basis_of old p) (standing_of old p) (asks ++ over) ≡ standing_of new (with_dues p dues)
  pub due : AreDue new new.asked dues
  pub same : IsSame old new
  pub grows : (x : Due) → Contains p.dues x → Contains dues x
  pub shaken_is : new.asked.shaken ≡ old.asked.shaken

abbrev pub Asks : Life → Life → Type 0
Asks old new = (p : Story) → AreDue old old.asked p.dues → AsksBy old new p

-- a connecting session dials again after the interval
abbrev pub DialsLater : ℕ → Course → Course → Type 0
DialsLater now old new = (dials : Bool) (p : Story) → IsOfDials dials p old.dialler → IsOfDials dials (record p { dial_at = later now p.interval }) new.dialler
