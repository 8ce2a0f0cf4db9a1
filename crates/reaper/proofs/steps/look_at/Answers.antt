use Rattle.std.proofs.Common.{sym, ◌∙◌}
use Rattle.closed_ends.proofs.FormLemmas.{ends_two}
use Rattle.reaper.proofs.ReadLemmas.{has_so, holds_so, looks_so}
use Rattle.reaper.proofs.steps.look_at.Goals as goal

pub reads_on-requires-clause-apart : goal.reads_on-requires-clause-apart
reads_on-requires-clause-apart g c = ends_two g.P.Pipes.known c.args.pipes.now c.args.closed.now.sockets.items c.requires.fits.sound

pub look_on-requires-clause-holds : goal.look_on-requires-clause-holds
look_on-requires-clause-holds g c =
    holds_so g.P.Pipes.known c.args.desk.now c.stands.ensures.order c.args.pipes.now c.args.closed.now c.requires.fits.sound c.requires.has c.args.object.0 c.args.end (sym c.reads_on.ensures ∙ c.if-not-reads_on.false)

pub look_on-requires-clause-here : goal.look_on-requires-clause-here
look_on-requires-clause-here g c =
    has_so g.P.Pipes.known c.args.desk.now c.stands.ensures.order c.args.pipes.now c.args.closed.now c.requires.fits.sound c.requires.has c.args.object.0 c.args.end (sym c.reads_on.ensures ∙ c.if-not-reads_on.false)

pub look_on-requires-clause-reads_on : goal.look_on-requires-clause-reads_on
look_on-requires-clause-reads_on g c =
    looks_so g.P.Pipes.known c.args.desk.now c.stands.ensures.order c.args.pipes.now c.args.closed.now c.requires.fits.sound c.requires.has c.args.object.0 c.args.end (sym c.reads_on.ensures ∙ c.if-not-reads_on.false)
