use Rattle.std.specs.Prelude.{◌∷◌, [], ℕ, List, false}
use Rattle.std.proofs.Common.{ap, ◌∙◌}
use Rattle.spec_control.specs.declared.entry.Joining.{Joining}
use Rattle.zq_base.specs.declared.attached.Attached.TheVariants.{Yes}
use Rattle.ctl_moves.proofs.BindingLemmas.{asks_bound, bind_away, bind_coming, bind_takes, binds}
use Rattle.ctl_moves.proofs.PlugLemmas.{both_brought, comes_new, may_join, session_taken}
use Rattle.ctl_moves.proofs.TakenInLemmas.{end_begins, end_joined, endless}
use Rattle.ctl_moves.proofs.plugging.plug_session.Goals as goal

pub dialled_of-half-requires : goal.dialled_of-half-requires
dialled_of-half-requires g c = let w = c.requires.may in both_brought c.args.load w.comes.address w.comes.half w.comes.brings

pub take_in-requires-clause-nowhere : goal.take_in-requires-clause-nowhere
take_in-requires-clause-nowhere g c =
    comes_new g.P.Pipes.known.out_name g.P.Pipes.known.in_name c.args.state.now (g.H.Holder.holding c.args.holder.now) c.args.o c.args.e c.args.load c.requires.may c.dialled_of-half.result.0 c.dialled_of-half.result.1 c.dialled_of-half.ensures

pub bind-requires-clause-away : goal.bind-requires-clause-away
bind-requires-clause-away g c =
    let h = g.H.Holder.holding c.args.holder.now in
    let k = g.H.Holder.holding c.take_in.new.holder in
    let w = c.requires.may in
    let may = may_join g.P.Pipes.known.out_name g.P.Pipes.known.in_name c.args.state.now h c.args.o c.args.e c.args.load w c.dialled_of-half.result.0 c.dialled_of-half.result.1 c.dialled_of-half.ensures c.take_in.new.state k (c.in-Ok-take_in.ensures.stands w.control w.stands) c.in-Ok-take_in.ensures.next c.in-Ok-take_in.ensures.ok in
    bind_away g.P.Pipes.known.out_name g.P.Pipes.known.in_name c.take_in.new.state (endless c.args.o.0 h k) c.args.o c.args.e c.dialled_of-half.result.1.halves may (c.needs.ensures may.control may.stands)

pub bind-requires-clause-takes_end : goal.bind-requires-clause-takes_end
bind-requires-clause-takes_end g c =
    let h = g.H.Holder.holding c.args.holder.now in
    let k = g.H.Holder.holding c.take_in.new.holder in
    let w = c.requires.may in
    let may = may_join g.P.Pipes.known.out_name g.P.Pipes.known.in_name c.args.state.now h c.args.o c.args.e c.args.load w c.dialled_of-half.result.0 c.dialled_of-half.result.1 c.dialled_of-half.ensures c.take_in.new.state k (c.in-Ok-take_in.ensures.stands w.control w.stands) c.in-Ok-take_in.ensures.next c.in-Ok-take_in.ensures.ok in
    bind_takes g.P.Pipes.known.out_name g.P.Pipes.known.in_name c.take_in.new.state (endless c.args.o.0 h k) c.args.o c.args.e c.dialled_of-half.result.1.halves may (c.needs.ensures may.control may.stands)

pub bind-requires-clause-coming : goal.bind-requires-clause-coming
bind-requires-clause-coming g c =
    let h = g.H.Holder.holding c.args.holder.now in
    let k = g.H.Holder.holding c.take_in.new.holder in
    let w = c.requires.may in
    let may = may_join g.P.Pipes.known.out_name g.P.Pipes.known.in_name c.args.state.now h c.args.o c.args.e c.args.load w c.dialled_of-half.result.0 c.dialled_of-half.result.1 c.dialled_of-half.ensures c.take_in.new.state k (c.in-Ok-take_in.ensures.stands w.control w.stands) c.in-Ok-take_in.ensures.next c.in-Ok-take_in.ensures.ok in
    bind_coming g.P.Pipes.known.out_name g.P.Pipes.known.in_name c.take_in.new.state (endless c.args.o.0 h k) c.args.o c.args.e c.dialled_of-half.result.1.halves may (c.needs.ensures may.control may.stands)

pub greet_end-requires : goal.greet_end-requires
greet_end-requires g c =
    let h = g.H.Holder.holding c.args.holder.now in
    let k = g.H.Holder.holding c.take_in.new.holder in
    let w = c.requires.may in
    let may = may_join g.P.Pipes.known.out_name g.P.Pipes.known.in_name c.args.state.now h c.args.o c.args.e c.args.load w c.dialled_of-half.result.0 c.dialled_of-half.result.1 c.dialled_of-half.ensures c.take_in.new.state k (c.in-Ok-take_in.ensures.stands w.control w.stands) c.in-Ok-take_in.ensures.next c.in-Ok-take_in.ensures.ok in
    let taken = c.in-Ok-take_in.ensures.ok in
    let bound = binds g.P.Pipes.known.out_name g.P.Pipes.known.in_name c.take_in.new.state (endless c.args.o.0 h k) c.args.o c.args.e c.dialled_of-half.result.1.halves may c.bind.new.self k Yes (c.bind.ensures.stands may.control may.stands) c.bind.ensures.next
    (end_joined g.P.Pipes.known.out_name g.P.Pipes.known.in_name c.args.o.0 h k c.args.e c.dialled_of-half.result.1.halves taken) (end_begins g.P.Pipes.known.out_name g.P.Pipes.known.in_name c.args.o.0 h k c.args.e c.dialled_of-half.result.1.halves taken) tt in
    record { may = asks_bound g.P.Pipes.known.out_name g.P.Pipes.known.in_name c.take_in.new.state (endless c.args.o.0 h k) c.args.o c.args.e c.dialled_of-half.result.1.halves may c.bind.new.self k Yes bound }

pub returns-in-Ok-take_in-clause-ok : goal.returns-in-Ok-take_in-clause-ok
returns-in-Ok-take_in-clause-ok g c = λ w.
    let h = g.H.Holder.holding c.args.holder.now in
    let k = g.H.Holder.holding c.take_in.new.holder in
    let may = may_join g.P.Pipes.known.out_name g.P.Pipes.known.in_name c.args.state.now h c.args.o c.args.e c.args.load w c.dialled_of-half.result.0 c.dialled_of-half.result.1 c.dialled_of-half.ensures c.take_in.new.state k (c.in-Ok-take_in.ensures.stands w.control w.stands) c.in-Ok-take_in.ensures.next c.in-Ok-take_in.ensures.ok in
    let taken = c.in-Ok-take_in.ensures.ok in
    let bound = binds g.P.Pipes.known.out_name g.P.Pipes.known.in_name c.take_in.new.state (endless c.args.o.0 h k) c.args.o c.args.e c.dialled_of-half.result.1.halves may c.bind.new.self k Yes (c.bind.ensures.stands may.control may.stands) c.bind.ensures.next
    (end_joined g.P.Pipes.known.out_name g.P.Pipes.known.in_name c.args.o.0 h k c.args.e c.dialled_of-half.result.1.halves taken) (end_begins g.P.Pipes.known.out_name g.P.Pipes.known.in_name c.args.o.0 h k c.args.e c.dialled_of-half.result.1.halves taken) tt in
    session_taken g.P.Pipes.known.out_name g.P.Pipes.known.in_name c.args.state.now h c.args.o c.args.e c.args.load w c.dialled_of-half.result.0 c.dialled_of-half.result.1 c.dialled_of-half.ensures c.take_in.new.state k (c.in-Ok-take_in.ensures.stands w.control w.stands) c.in-Ok-take_in.ensures.next taken
    c.bind.new.self c.greet_end.new.state (g.H.Holder.holding c.greet_end.new.holder) _ bound
    (c.greet_end.ensures (asks_bound g.P.Pipes.known.out_name g.P.Pipes.known.in_name c.take_in.new.state (endless c.args.o.0 h k) c.args.o c.args.e c.dialled_of-half.result.1.halves may c.bind.new.self k Yes bound))
    (c.one_end.ensures
    ∙ ap (λ (p : List ℕ). let j : Joining g.row.P-Name.Denot = record { end = c.args.e; peer = p; written = c.dialled_of-half.result.1.written; read = c.dialled_of-half.result.1.read; answer = Yes; met = false } in j ∷ []) c.new.ensures)
    (c.in-Ok-take_in.ensures.heard w.control w.stands)
