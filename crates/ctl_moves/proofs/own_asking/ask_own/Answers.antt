use Rattle.std.specs.Prelude.{ℕ}
use Rattle.std.proofs.Common.{arith, sym, subst}
use Rattle.spec_control.specs.After.{uses_reason}
use Rattle.ctl_state.specs.Stands.{Stands}
use Rattle.ctl_moves.proofs.OwnAskingLemmas.{asks_own_end, asks_used, session_there}
use Rattle.ctl_moves.proofs.own_asking.ask_own.Goals as goal

pub use_reason-requires : goal.use_reason-requires
use_reason-requires g c =
    let w = c.requires.may in
    let there = session_there c.args.state.now (g.H.Holder.holding c.args.holder.now) c.args.e c.args.reason w in
    let own = c.owner-owner.ensures.stands w.control w.stands in
    let many = w.stands.objects.many in
    record { there = omega (arith, there, own, many) }

pub ask_end-requires : goal.ask_end-requires
ask_end-requires g c =
    let w = c.requires.may in
    record {
      may = asks_used c.args.state.now (g.H.Holder.holding c.args.holder.now) c.args.e c.args.reason w c.use_reason.new.state
          (subst (λ (n : ℕ). Stands c.use_reason.new.state (uses_reason c.args.reason n w.control)) (sym (c.owner-owner.ensures.stands w.control w.stands)) (c.use_reason.ensures.stands w.control w.stands)) c.use_reason.ensures.boxes;
    }

pub returns : goal.returns
returns g c = λ w.
    asks_own_end c.args.state.now (g.H.Holder.holding c.args.holder.now) c.args.e c.args.reason w g.P.Pipes.known.out_name g.P.Pipes.known.in_name c.use_reason.new.state c.ask_end.new.state (g.H.Holder.holding c.ask_end.new.holder)
    c.use_reason.ensures.boxes c.use_reason.ensures.lists
    (c.ask_end.ensures (asks_used c.args.state.now (g.H.Holder.holding c.args.holder.now) c.args.e c.args.reason w c.use_reason.new.state
    (subst (λ (n : ℕ). Stands c.use_reason.new.state (uses_reason c.args.reason n w.control)) (sym (c.owner-owner.ensures.stands w.control w.stands)) (c.use_reason.ensures.stands w.control w.stands)) c.use_reason.ensures.boxes))
