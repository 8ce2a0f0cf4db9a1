-- Requests of a listener or a session that make nothing, and so are never refused (own choice, after libzmq's `own_t` and `session_base_t`).
use Rattle.std.specs.Prelude.{◌≡◌}
use Rattle.spec_control.specs.declared.entry.Answered.{Answered}
use Rattle.spec_control.specs.declared.entry.Did.TheVariants.{Asked}
use Rattle.spec_control.specs.declared.request.Req.{Req}
use Rattle.spec_control.specs.declared.request.Reply.TheVariants.{Done}
use Rattle.ctl_plane.specs.Past.{Past, with_event}
use Rattle.ctl_moves.specs.Processing.{IsSilent}

module _ {G N S : Type 0} where
  -- such a request was noted as done, and nothing else happened
  pub record NotesDone (request : Req) (old new : Past G N S) : Type 0 where
    pub answered : Answered N S
    pub silent : IsSilent answered
    pub step : new ≡ with_event (Asked request Done answered) old
