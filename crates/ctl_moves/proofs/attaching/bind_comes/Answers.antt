use Rattle.std.specs.Prelude.{◌∷◌, [], ℕ, List, false}
use Rattle.std.proofs.Common.{ap, ◌∙◌, subst}
use Rattle.zq_base.specs.declared.ids.EndId.{EndId}
use Rattle.desk.specs.Holding.{JoinsBy, joining_with}
use Rattle.spec_control.specs.declared.entry.Joining.{Joining}
use Rattle.ctl_moves.proofs.BindingLemmas.{asks_bound, attached, fits_half, halves_brought, may_bind}
use Rattle.ctl_moves.proofs.attaching.bind_comes.Goals as goal

pub halves_of-halves-requires : goal.halves_of-halves-requires
halves_of-halves-requires g c = let w = c.requires.may in halves_brought c.args.load w.comes.half w.comes.brings

pub attach_end-requires-clause-may : goal.attach_end-requires-clause-may
attach_end-requires-clause-may g c =
    may_bind g.P.Pipes.known.out_name g.P.Pipes.known.in_name c.args.state.now (g.H.Holder.holding c.args.holder.now) c.args.letter.now.to c.args.e c.args.load c.requires.may c.halves_of-halves.result c.halves_of-halves.ensures

pub attach_end-requires-clause-fits : goal.attach_end-requires-clause-fits
attach_end-requires-clause-fits g c =
    fits_half g.P.Pipes.known.out_name g.P.Pipes.known.in_name c.args.state.now (g.H.Holder.holding c.args.holder.now) c.args.letter.now.to c.args.e c.args.load c.requires.may c.halves_of-halves.result c.halves_of-halves.ensures (λ h. (d : EndId) → g.H.Holder.fits c.args.holder.now d h) c.requires.fits c.args.e

pub greet_end-requires : goal.greet_end-requires
greet_end-requires g c =
    let may = may_bind g.P.Pipes.known.out_name g.P.Pipes.known.in_name c.args.state.now (g.H.Holder.holding c.args.holder.now) c.args.letter.now.to c.args.e c.args.load c.requires.may c.halves_of-halves.result c.halves_of-halves.ensures in
    record {
      may = asks_bound g.P.Pipes.known.out_name g.P.Pipes.known.in_name c.args.state.now (g.H.Holder.holding c.args.holder.now) c.args.letter.now.to c.args.e c.halves_of-halves.result.halves may c.attach_end.new.state (g.H.Holder.holding c.attach_end.new.holder) c.in-Ok-attach_end.answer
          (c.in-Ok-attach_end.ensures.ok may);
    }

pub returns-in-Ok-attach_end-clause-ok : goal.returns-in-Ok-attach_end-clause-ok
returns-in-Ok-attach_end-clause-ok g c = λ w peer is.
    let may = may_bind g.P.Pipes.known.out_name g.P.Pipes.known.in_name c.args.state.now (g.H.Holder.holding c.args.holder.now) c.args.letter.now.to c.args.e c.args.load w c.halves_of-halves.result c.halves_of-halves.ensures in
    let b = c.in-Ok-attach_end.ensures.ok may in
    attached g.P.Pipes.known.out_name g.P.Pipes.known.in_name c.args.state.now (g.H.Holder.holding c.args.holder.now) c.args.letter.now.to c.args.e c.args.load w c.halves_of-halves.result c.halves_of-halves.ensures
    c.attach_end.new.state c.greet_end.new.state (g.H.Holder.holding c.attach_end.new.holder) (g.H.Holder.holding c.greet_end.new.holder) c.in-Ok-attach_end.answer peer _ b
    (c.greet_end.ensures (asks_bound g.P.Pipes.known.out_name g.P.Pipes.known.in_name c.args.state.now (g.H.Holder.holding c.args.holder.now) c.args.letter.now.to c.args.e c.halves_of-halves.result.halves may c.attach_end.new.state (g.H.Holder.holding c.attach_end.new.holder) c.in-Ok-attach_end.answer b))
    (c.one_end.ensures
    ∙ ap (λ (p : List ℕ). let j : Joining g.row.P-Name.Denot = record { end = c.args.e; peer = p; written = c.halves_of-halves.result.written; read = c.halves_of-halves.result.read; answer = c.in-Ok-attach_end.answer; met = false } in j ∷ [])
    (c.in-Ok.ensures c.args.e peer is))
    (subst (λ (p : List ℕ). JoinsBy (joining_with g.P.Pipes.known.out_name g.P.Pipes.known.in_name c.args.e p c.halves_of-halves.result.halves c.in-Ok-attach_end.answer ∷ []) (g.H.Holder.holding c.args.holder.now) (g.H.Holder.holding c.attach_end.new.holder))
    (c.in-Ok.ensures c.args.e peer is) c.in-Ok-attach_end.ensures.joins) c.attach_end.ensures.heard

pub attach_end-requires-clause-calm : goal.attach_end-requires-clause-calm
attach_end-requires-clause-calm g c = c.requires.calm

pub returns-in-Err-attach_end-clause-err : goal.returns-in-Err-attach_end-clause-err
returns-in-Err-attach_end-clause-err g c = c.in-Err-attach_end.ensures.err

pub returns-in-Err-attach_end-clause-quiet : goal.returns-in-Err-attach_end-clause-quiet
returns-in-Err-attach_end-clause-quiet g c = c.in-Err-attach_end.ensures.quiet

pub returns-in-Err-attach_end-clause-unheard : goal.returns-in-Err-attach_end-clause-unheard
returns-in-Err-attach_end-clause-unheard g c = c.attach_end.ensures.heard
