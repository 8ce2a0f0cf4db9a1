use Rattle.std.specs.Prelude.{Some}
use Rattle.std.proofs.Common.{subst}
use Rattle.zq_base.specs.declared.ids.EndId.{EndId}
use Rattle.spec_control.specs.declared.letter.Word.TheVariants.{PipeBind}
use Rattle.desk.specs.declared.load.Load.TheVariants.{Halves}
use Rattle.ctl_moves.specs.Opening.{Opens}
use Rattle.ctl_moves.proofs.ShakingLemmas.{asks_first, opens_first, opens_shaken}
use Rattle.ctl_moves.proofs.shaking.open_shaken.Goals as goal

pub open_pair-requires : goal.open_pair-requires
open_pair-requires g c = record {
  may = opens_first g.P.Pipes.known.out_name g.P.Pipes.known.in_name c.args.state.now (g.H.Holder.holding c.args.holder.now) c.args.first c.args.other c.requires.may;
}

pub greet_end-requires : goal.greet_end-requires
greet_end-requires g c =
    let w = c.requires.may in
    let opened = subst (λ (e : EndId). Opens w.control c.args.first (PipeBind e c.args.identity) (Some (Halves c.args.other)) c.args.state.now c.open_pair.new.state) c.other.ensures
    (c.open_pair.ensures (opens_first g.P.Pipes.known.out_name g.P.Pipes.known.in_name c.args.state.now (g.H.Holder.holding c.args.holder.now) c.args.first c.args.other w)) in
    record {
      may = asks_first g.P.Pipes.known.out_name g.P.Pipes.known.in_name c.args.state.now (g.H.Holder.holding c.args.holder.now) c.args.first c.args.other w c.args.identity c.open_pair.new.state opened w.names w.has;
    }

pub returns : goal.returns
returns g c = λ w.
    let opened = subst (λ (e : EndId). Opens w.control c.args.first (PipeBind e c.args.identity) (Some (Halves c.args.other)) c.args.state.now c.open_pair.new.state) c.other.ensures
    (c.open_pair.ensures (opens_first g.P.Pipes.known.out_name g.P.Pipes.known.in_name c.args.state.now (g.H.Holder.holding c.args.holder.now) c.args.first c.args.other w)) in
    opens_shaken g.P.Pipes.known.out_name g.P.Pipes.known.in_name c.args.state.now (g.H.Holder.holding c.args.holder.now) c.args.first c.args.other w c.args.identity c.open_pair.new.state opened c.args.answer
    c.greet_end.new.state (g.H.Holder.holding c.greet_end.new.holder) (λ a. c.greet_end.ensures a)
