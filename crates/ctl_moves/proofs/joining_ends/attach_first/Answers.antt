use Rattle.std.proofs.Common.{◌∙◌}
use Rattle.ctl_state.proofs.KeptLemmas.{so_on_err}
use Rattle.ctl_moves.proofs.AttachingLemmas.{attaches_first, keeps_twice, nowhere_still, stays_twice}
use Rattle.ctl_moves.proofs.joining_ends.attach_first.Goals as goal

pub make-requires-clause-here : goal.make-requires-clause-here
make-requires-clause-here g c = c.requires.here

pub make-requires-clause-new : goal.make-requires-clause-new
make-requires-clause-new g c = c.requires.new c.args.o.0 c.requires.here

pub make-requires-clause-written : goal.make-requires-clause-written
make-requires-clause-written g c = c.requires.written

pub make-requires-clause-read : goal.make-requires-clause-read
make-requires-clause-read g c = c.requires.read

pub make-requires-clause-may : goal.make-requires-clause-may
make-requires-clause-may g c = c.requires.may

pub returns-in-Ok-clause-calm : goal.returns-in-Ok-clause-calm
returns-in-Ok-clause-calm g c = λ came calm. c.in-Ok.ensures.calm came (c.make.ensures.calm came calm)

pub returns-in-Err-clause-heard : goal.returns-in-Err-clause-heard
returns-in-Err-clause-heard g c = c.attach.ensures.heard ∙ c.make.ensures.heard

pub returns-in-Err-clause-still : goal.returns-in-Err-clause-still
returns-in-Err-clause-still g c = λ came calm. c.in-Err.ensures.still came (c.make.ensures.calm came calm)

pub attach-requires-clause-here : goal.attach-requires-clause-here
attach-requires-clause-here g c = c.make.ensures.stays.now.objects c.args.o.0 ∙ c.requires.here

pub attach-requires-clause-fits : goal.attach-requires-clause-fits
attach-requires-clause-fits g c = c.in_ok-made.ensures.fits

pub attach-requires-clause-new : goal.attach-requires-clause-new
attach-requires-clause-new g c = nowhere_still c.args.o.0 c.args.end (g.H.Holder.holding c.args.holder.now) (g.H.Holder.holding c.make.new.self) c.make.ensures.stays c.requires.new

pub returns-in-Ok-clause-ok : goal.returns-in-Ok-clause-ok
returns-in-Ok-clause-ok g c =
    attaches_first g.P.Pipes.known.out_name g.P.Pipes.known.in_name c.args.o.0 c.args.end c.args.identity.now (g.H.Holder.holding c.args.holder.now) (g.H.Holder.holding c.make.new.self) (g.H.Holder.holding c.attach.new.self)
    _ _ _ c.names_of-told.result c.names_of-opened.result c.names_of-theirs.result c.in_ok-made.ensures.pair c.make.ensures.stays c.make.ensures.turns c.in-Ok.ensures.ok c.in-Ok.ensures.turns c.in-Ok.ensures.refuses c.in-Ok.ensures.joins (c.attach.ensures.heard ∙ c.make.ensures.heard)
    c.names_of-told.ensures.written c.names_of-told.ensures.read c.names_of-opened.ensures.written c.names_of-opened.ensures.read c.names_of-theirs.ensures.written c.names_of-theirs.ensures.read

pub returns-in-Err-clause-err : goal.returns-in-Err-clause-err
returns-in-Err-clause-err g c =
    stays_twice c.args.o.0 c.args.end (g.H.Holder.holding c.args.holder.now) (g.H.Holder.holding c.make.new.self) (g.H.Holder.holding c.attach.new.self) c.make.ensures.stays c.in-Err.ensures.err.1

pub returns-in-Err-clause-keeps : goal.returns-in-Err-clause-keeps
returns-in-Err-clause-keeps g c =
    keeps_twice c.args.o.0 c.args.end (g.H.Holder.holding c.args.holder.now) (g.H.Holder.holding c.make.new.self) (g.H.Holder.holding c.attach.new.self) c.make.ensures.turns c.in-Err.ensures.err.1 c.in-Err.ensures.err.2

pub returns-in_err-made-clause-err : goal.returns-in_err-made-clause-err
returns-in_err-made-clause-err g c = so_on_err _ c.from_residual.result c.make.ensures.stays

pub returns-in_err-made-clause-keeps : goal.returns-in_err-made-clause-keeps
returns-in_err-made-clause-keeps g c = so_on_err _ c.from_residual.result c.make.ensures.turns

pub returns-in_err-made-clause-heard : goal.returns-in_err-made-clause-heard
returns-in_err-made-clause-heard g c = so_on_err _ c.from_residual.result c.make.ensures.heard

pub returns-in_err-made-clause-still : goal.returns-in_err-made-clause-still
returns-in_err-made-clause-still g c = so_on_err _ c.from_residual.result (λ came calm. c.make.ensures.calm came calm)

pub attach-requires-clause-calm : goal.attach-requires-clause-calm
attach-requires-clause-calm g c = (c.requires.calm.0, c.make.ensures.calm c.requires.calm.0 c.requires.calm.1)
