use Rattle.std.specs.Prelude.{Some}
use Rattle.std.proofs.Common.{subst}
use Rattle.zq_base.specs.Ends.{other_end}
use Rattle.zq_base.specs.declared.ids.EndId.{EndId}
use Rattle.spec_control.specs.declared.letter.Word.TheVariants.{Plug}
use Rattle.desk.specs.declared.load.Load.TheVariants.{Plug as IsPlug}
use Rattle.ctl_moves.specs.Opening.{Opens}
use Rattle.ctl_moves.proofs.JoiningLemmas.{joins_pair, may_greet, may_open, plug_loaded}
use Rattle.ctl_moves.proofs.dialing.join_dialed.Goals as goal

pub greet_first-requires : goal.greet_first-requires
greet_first-requires g c =
    let w = c.requires.may in
    let opened = subst (λ (e : EndId). Opens w.control c.args.first (Plug (Some e)) (Some (IsPlug c.args.at (Some c.args.other))) c.args.state.now c.open_pair.new.state) c.other.ensures
    (c.open_pair.ensures (may_open g.P.Pipes.known.out_name g.P.Pipes.known.in_name c.args.state.now (g.H.Holder.holding c.args.holder.now) c.args.socket.0 c.args.first c.args.other w)) in
    record {
      may = may_greet g.P.Pipes.known.out_name g.P.Pipes.known.in_name c.args.state.now (g.H.Holder.holding c.args.holder.now) c.args.socket.0 c.args.first c.args.other w c.open_pair.new.state (Plug (Some (other_end c.args.first))) (Some (IsPlug c.args.at (Some c.args.other)))
          (plug_loaded g.P.Pipes.known.out_name g.P.Pipes.known.in_name c.args.state.now (g.H.Holder.holding c.args.holder.now) c.args.socket.0 c.args.first c.args.other w c.args.at) opened;
    }

pub returns : goal.returns
returns g c = λ w.
    let opened = subst (λ (e : EndId). Opens w.control c.args.first (Plug (Some e)) (Some (IsPlug c.args.at (Some c.args.other))) c.args.state.now c.open_pair.new.state) c.other.ensures
    (c.open_pair.ensures (may_open g.P.Pipes.known.out_name g.P.Pipes.known.in_name c.args.state.now (g.H.Holder.holding c.args.holder.now) c.args.socket.0 c.args.first c.args.other w)) in
    let loaded = plug_loaded g.P.Pipes.known.out_name g.P.Pipes.known.in_name c.args.state.now (g.H.Holder.holding c.args.holder.now) c.args.socket.0 c.args.first c.args.other w c.args.at in
    joins_pair g.P.Pipes.known.out_name g.P.Pipes.known.in_name c.args.state.now (g.H.Holder.holding c.args.holder.now) c.args.socket.0 c.args.first c.args.other w c.open_pair.new.state (Plug (Some (other_end c.args.first))) (Some (IsPlug c.args.at (Some c.args.other))) loaded opened c.args.answer
    c.greet_first.new.state (g.H.Holder.holding c.greet_first.new.holder)
    (c.greet_first.ensures (may_greet g.P.Pipes.known.out_name g.P.Pipes.known.in_name c.args.state.now (g.H.Holder.holding c.args.holder.now) c.args.socket.0 c.args.first c.args.other w c.open_pair.new.state (Plug (Some (other_end c.args.first))) (Some (IsPlug c.args.at (Some c.args.other))) loaded opened))
