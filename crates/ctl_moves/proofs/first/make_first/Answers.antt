use Rattle.ctl_moves.proofs.PapersLemmas.{marked_for, may_hold}
use Rattle.ctl_moves.proofs.TurnLemmas.{keeps_same}
use Rattle.ctl_state.proofs.KeptLemmas.{so_on_err}
use Rattle.std.specs.Prelude.{refl}
use Rattle.ctl_moves.proofs.TakenLemmas.{stays_itself}
use Rattle.std.proofs.lemmas.Result.{IfOk-from_err}
use Rattle.ctl_moves.proofs.first.make_first.Goals as goal

pub capacities_of-sizes-requires : goal.capacities_of-sizes-requires
capacities_of-sizes-requires g c = record { marked = marked_for c.args.state.now c.args.o c.args.first g.H.Holder.may_make c.requires.makes }

pub attach_first-requires-clause-here : goal.attach_first-requires-clause-here
attach_first-requires-clause-here g c = c.requires.here

pub attach_first-requires-clause-new : goal.attach_first-requires-clause-new
attach_first-requires-clause-new g c = c.requires.new

pub attach_first-requires-clause-written : goal.attach_first-requires-clause-written
attach_first-requires-clause-written g c = (c.capacities_of-sizes.ensures (marked_for c.args.state.now c.args.o c.args.first g.H.Holder.may_make c.requires.makes)).written_fits

pub attach_first-requires-clause-read : goal.attach_first-requires-clause-read
attach_first-requires-clause-read g c = (c.capacities_of-sizes.ensures (marked_for c.args.state.now c.args.o c.args.first g.H.Holder.may_make c.requires.makes)).read_fits

pub attach_first-requires-clause-may : goal.attach_first-requires-clause-may
attach_first-requires-clause-may g c = may_hold c.args.state.now c.args.o c.args.first g.H.Holder.may_make c.requires.makes c.capacities_of-sizes.result c.capacities_of-sizes.ensures

pub attach_first-requires-clause-calm : goal.attach_first-requires-clause-calm
attach_first-requires-clause-calm g c = c.requires.calm

pub returns-in-Ok-clause-said : goal.returns-in-Ok-clause-said
returns-in-Ok-clause-said g c = c.in_ok-said.ensures

pub returns-in-Ok-clause-ok : goal.returns-in-Ok-clause-ok
returns-in-Ok-clause-ok g c = c.in-Ok.ensures.ok

pub returns-in-Ok-clause-calm : goal.returns-in-Ok-clause-calm
returns-in-Ok-clause-calm g c = c.in-Ok.ensures.calm

pub returns-in-Err-clause-err : goal.returns-in-Err-clause-err
returns-in-Err-clause-err g c = c.in-Err.ensures.err

pub returns-in-Err-clause-keeps : goal.returns-in-Err-clause-keeps
returns-in-Err-clause-keeps g c = c.in-Err.ensures.keeps

pub returns-in-Err-clause-heard : goal.returns-in-Err-clause-heard
returns-in-Err-clause-heard g c = c.in-Err.ensures.heard

pub returns-in-Err-clause-still : goal.returns-in-Err-clause-still
returns-in-Err-clause-still g c = c.in-Err.ensures.still

pub bounds-wakers-o : goal.bounds-wakers-o
bounds-wakers-o g c = c.requires.mine

pub bounds-wakers-o-2 : goal.bounds-wakers-o-2
bounds-wakers-o-2 g c = c.requires.theirs

pub returns-in_err-said-clause-err : goal.returns-in_err-said-clause-err
returns-in_err-said-clause-err g c = so_on_err _ c.from_residual.result (stays_itself c.args.socket.0 (g.H.Holder.holding c.args.holder.now))

pub returns-in_err-said-clause-keeps : goal.returns-in_err-said-clause-keeps
returns-in_err-said-clause-keeps g c = so_on_err _ c.from_residual.result (keeps_same (g.H.Holder.holding c.args.holder.now))

pub returns-in_err-said-clause-heard : goal.returns-in_err-said-clause-heard
returns-in_err-said-clause-heard g c = so_on_err _ c.from_residual.result refl

pub returns-in_err-said-clause-still : goal.returns-in_err-said-clause-still
returns-in_err-said-clause-still g c = so_on_err _ c.from_residual.result (λ came calm. calm)

pub returns-in_err-said-clause-said : goal.returns-in_err-said-clause-said
returns-in_err-said-clause-said g c = IfOk-from_err _ _ c.from_residual.ensures.0

pub returns-in_err-said-clause-ok : goal.returns-in_err-said-clause-ok
returns-in_err-said-clause-ok g c = IfOk-from_err _ _ c.from_residual.ensures.0

pub returns-in_err-said-clause-calm : goal.returns-in_err-said-clause-calm
returns-in_err-said-clause-calm g c = IfOk-from_err _ _ c.from_residual.ensures.0
