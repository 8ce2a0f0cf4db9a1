use Rattle.std.proofs.lemmas.Result.{IfOk-from_err}
use Rattle.ctl_moves.proofs.batch.Batch.with_room.Goals as goal

pub returns-in_err-drawn-clause-room : goal.returns-in_err-drawn-clause-room
returns-in_err-drawn-clause-room g c = IfOk-from_err _ _ c.from_residual.ensures.0

pub returns-in_err-drawn-clause-drawn : goal.returns-in_err-drawn-clause-drawn
returns-in_err-drawn-clause-drawn g c = IfOk-from_err _ _ c.from_residual.ensures.0

pub returns-in_err-drawn-clause-joined : goal.returns-in_err-drawn-clause-joined
returns-in_err-drawn-clause-joined g c = IfOk-from_err _ _ c.from_residual.ensures.0

pub returns-in_err-drawn-clause-opened : goal.returns-in_err-drawn-clause-opened
returns-in_err-drawn-clause-opened g c = IfOk-from_err _ _ c.from_residual.ensures.0

pub returns-in_err-notes-clause-room : goal.returns-in_err-notes-clause-room
returns-in_err-notes-clause-room g c = IfOk-from_err _ _ c.from_residual-in_err-notes.ensures.0

pub returns-in_err-notes-clause-drawn : goal.returns-in_err-notes-clause-drawn
returns-in_err-notes-clause-drawn g c = IfOk-from_err _ _ c.from_residual-in_err-notes.ensures.0

pub returns-in_err-notes-clause-joined : goal.returns-in_err-notes-clause-joined
returns-in_err-notes-clause-joined g c = IfOk-from_err _ _ c.from_residual-in_err-notes.ensures.0

pub returns-in_err-notes-clause-opened : goal.returns-in_err-notes-clause-opened
returns-in_err-notes-clause-opened g c = IfOk-from_err _ _ c.from_residual-in_err-notes.ensures.0
