use Rattle.std.proofs.Common.{ap}
use Rattle.spec_control.specs.declared.stage.Use.TheVariants.{Used}
use Rattle.own_tree.specs.Changes.{change, with_request, with_told}
use Rattle.desk.specs.declared.load.Load.{Load}
use Rattle.ctl_state.specs.declared.state.State.{State}
use Rattle.ctl_moves.proofs.ReapLemmas.{reaper_has, reaper_objects, reaper_turned, living_child, request_coming, term_room, term_put}
use Rattle.ctl_moves.proofs.reaping.take_over.Goals as goal

pub reap_comes-requires-clause-child : goal.reap_comes-requires-clause-child
reap_comes-requires-clause-child g c =
    let w = c.requires.may in
    living_child g.P.Pipes.known.out_name g.P.Pipes.known.in_name c.args.state.now (g.H.Holder.holding c.args.holder.now) c.args.socket c.args.parting w (c.needs.ensures w.control w.stands)

pub reap_comes-requires-clause-coming : goal.reap_comes-requires-clause-coming
reap_comes-requires-clause-coming g c =
    request_coming g.P.Pipes.known.out_name g.P.Pipes.known.in_name c.args.state.now (g.H.Holder.holding c.args.holder.now) c.args.socket c.args.parting c.requires.may

pub reap_comes-requires-clause-room : goal.reap_comes-requires-clause-room
reap_comes-requires-clause-room g c =
    term_room g.P.Pipes.known.out_name g.P.Pipes.known.in_name c.args.state.now (g.H.Holder.holding c.args.holder.now) c.args.socket c.args.parting c.requires.may

pub returns-clause-taken : goal.returns-clause-taken
returns-clause-taken g c = λ w. record {
  stands = c.reap_comes.ensures.stands w.control w.stands;
  has = reaper_has g.P.Pipes.known.out_name g.P.Pipes.known.in_name c.args.state.now (g.H.Holder.holding c.args.holder.now) c.args.socket c.args.parting w (g.H.Holder.holding c.take_ends.new.self) (c.take_ends.ensures.all c.requires.reaps) (c.take_ends.ensures.writing c.requires.reaps) (c.take_ends.ensures.at c.requires.reaps) (c.take_ends.ensures.turns c.requires.reaps);
  puts = term_put g.P.Pipes.known.out_name g.P.Pipes.known.in_name c.args.state.now (g.H.Holder.holding c.args.holder.now) c.args.socket c.args.parting w c.reap_comes.new.self (λ t. with_told (record { 0 = 0 }) c.args.socket (change (with_request Used) c.args.socket t)) c.reap_comes.ensures.next;
  lists = ap (λ (x : State (Load g.row.P-Name.Denot g.row.P-Out.Denot g.row.P-In.Denot)). x.objects.lists) c.reap_comes.ensures.next;
  turned = reaper_turned g.P.Pipes.known.out_name g.P.Pipes.known.in_name c.args.state.now (g.H.Holder.holding c.args.holder.now) c.args.socket c.args.parting w (g.H.Holder.holding c.take_ends.new.self) (c.take_ends.ensures.all c.requires.reaps) (c.take_ends.ensures.writing c.requires.reaps) (c.take_ends.ensures.at c.requires.reaps) (c.take_ends.ensures.turns c.requires.reaps);
  joined = c.take_ends.ensures.joins;
  objects = reaper_objects g.P.Pipes.known.out_name g.P.Pipes.known.in_name c.args.state.now (g.H.Holder.holding c.args.holder.now) c.args.socket c.args.parting w (g.H.Holder.holding c.take_ends.new.self) (c.take_ends.ensures.all c.requires.reaps) (c.take_ends.ensures.writing c.requires.reaps) (c.take_ends.ensures.at c.requires.reaps) (c.take_ends.ensures.turns c.requires.reaps);
}
