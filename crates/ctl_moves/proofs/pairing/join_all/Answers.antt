use Rattle.std.specs.Prelude.{List}
use Rattle.std.proofs.Common.{sym, ◌∙◌, subst}
use Rattle.ctl_moves.specs.declared.batch.Drawn.{Drawn}
use Rattle.ctl_moves.proofs.JoinAllLemmas.{JoinsSoFar, all_joined, all_moved, all_stand, may_join_next, none_joined, nothing_left, one_joined}
use Rattle.ctl_moves.proofs.pairing.join_all.Goals as goal

pub first-init : goal.first-init
first-init g c = λ w. none_joined g.P.Pipes.known.out_name g.P.Pipes.known.in_name c.args.at.now c.args.socket c.args.drawn.items c.args.state.now (g.H.Holder.holding c.args.holder.now) w.control w.can

pub join_one-requires : goal.join_one-requires
join_one-requires g c =
    let w = c.requires.may in
    record { may = (may_join_next g.P.Pipes.known.out_name g.P.Pipes.known.in_name c.args.at.now c.args.socket c.args.drawn.items c.args.state.now (g.H.Holder.holding c.args.holder.now) w.control c.in-Some.pair c.pop_front.new.self.items c.first.state (g.H.Holder.holding c.first.holder) (subst (λ (xs : List (Drawn g.row.P-Name.Denot g.row.P-Out.Denot g.row.P-In.Denot)). JoinsSoFar g.P.Pipes.known.out_name g.P.Pipes.known.in_name c.args.at.now c.args.socket c.args.drawn.items xs c.args.state.now c.first.state (g.H.Holder.holding c.args.holder.now) (g.H.Holder.holding c.first.holder) w.control) c.in-Some.ensures.items (c.first.invariant w))) }

pub first-preserved : goal.first-preserved
first-preserved g c = λ w.
    one_joined g.P.Pipes.known.out_name g.P.Pipes.known.in_name c.args.at.now c.args.socket c.args.drawn.items c.args.state.now (g.H.Holder.holding c.args.holder.now) w.control c.in-Some.pair c.pop_front.new.self.items c.first.state (g.H.Holder.holding c.first.holder) (subst (λ (xs : List (Drawn g.row.P-Name.Denot g.row.P-Out.Denot g.row.P-In.Denot)). JoinsSoFar g.P.Pipes.known.out_name g.P.Pipes.known.in_name c.args.at.now c.args.socket c.args.drawn.items xs c.args.state.now c.first.state (g.H.Holder.holding c.args.holder.now) (g.H.Holder.holding c.first.holder) w.control) c.in-Some.ensures.items (c.first.invariant w))
    c.join_one.new.state (g.H.Holder.holding c.join_one.new.holder) (c.join_one.ensures (may_join_next g.P.Pipes.known.out_name g.P.Pipes.known.in_name c.args.at.now c.args.socket c.args.drawn.items c.args.state.now (g.H.Holder.holding c.args.holder.now) w.control c.in-Some.pair c.pop_front.new.self.items c.first.state (g.H.Holder.holding c.first.holder) (subst (λ (xs : List (Drawn g.row.P-Name.Denot g.row.P-Out.Denot g.row.P-In.Denot)). JoinsSoFar g.P.Pipes.known.out_name g.P.Pipes.known.in_name c.args.at.now c.args.socket c.args.drawn.items xs c.args.state.now c.first.state (g.H.Holder.holding c.args.holder.now) (g.H.Holder.holding c.first.holder) w.control) c.in-Some.ensures.items (c.first.invariant w))))

pub returns-clause-stands : goal.returns-clause-stands
returns-clause-stands g c = λ w.
    let none = nothing_left c.first.left.items (sym c.first.left.ok.0 ∙ c.in_default.ensures.cases.0) in
    all_stand g.P.Pipes.known.out_name g.P.Pipes.known.in_name c.args.at.now c.args.socket c.args.drawn.items c.args.state.now (g.H.Holder.holding c.args.holder.now) w.control c.first.state (g.H.Holder.holding c.first.holder) (subst (λ (xs : List (Drawn g.row.P-Name.Denot g.row.P-Out.Denot g.row.P-In.Denot)). JoinsSoFar g.P.Pipes.known.out_name g.P.Pipes.known.in_name c.args.at.now c.args.socket c.args.drawn.items xs c.args.state.now c.first.state (g.H.Holder.holding c.args.holder.now) (g.H.Holder.holding c.first.holder) w.control) none (c.first.invariant w))

pub returns-clause-joins : goal.returns-clause-joins
returns-clause-joins g c = λ w.
    let none = nothing_left c.first.left.items (sym c.first.left.ok.0 ∙ c.in_default.ensures.cases.0) in
    all_joined g.P.Pipes.known.out_name g.P.Pipes.known.in_name c.args.at.now c.args.socket c.args.drawn.items c.args.state.now (g.H.Holder.holding c.args.holder.now) w.control c.first.state (g.H.Holder.holding c.first.holder) (subst (λ (xs : List (Drawn g.row.P-Name.Denot g.row.P-Out.Denot g.row.P-In.Denot)). JoinsSoFar g.P.Pipes.known.out_name g.P.Pipes.known.in_name c.args.at.now c.args.socket c.args.drawn.items xs c.args.state.now c.first.state (g.H.Holder.holding c.args.holder.now) (g.H.Holder.holding c.first.holder) w.control) none (c.first.invariant w))

pub returns-clause-moves : goal.returns-clause-moves
returns-clause-moves g c = λ w.
    let none = nothing_left c.first.left.items (sym c.first.left.ok.0 ∙ c.in_default.ensures.cases.0) in
    all_moved g.P.Pipes.known.out_name g.P.Pipes.known.in_name c.args.at.now c.args.socket c.args.drawn.items c.args.state.now (g.H.Holder.holding c.args.holder.now) w.control c.first.state (g.H.Holder.holding c.first.holder) (subst (λ (xs : List (Drawn g.row.P-Name.Denot g.row.P-Out.Denot g.row.P-In.Denot)). JoinsSoFar g.P.Pipes.known.out_name g.P.Pipes.known.in_name c.args.at.now c.args.socket c.args.drawn.items xs c.args.state.now c.first.state (g.H.Holder.holding c.args.holder.now) (g.H.Holder.holding c.first.holder) w.control) none (c.first.invariant w))
