use Rattle.std.proofs.Common.{sym, subst}
use Rattle.spec_control.specs.Rows.{obj}
use Rattle.spec_control.specs.ControlRun.{MayAskOver}
use Rattle.desk.specs.declared.given.Given.{Given}
use Rattle.ctl_plane.specs.Past.{Past, control_of}
use Rattle.ctl_plane.proofs.DoneLemmas.{event_now}
use Rattle.ctl_plane.proofs.PlaneLemmas.{planed_now}
use Rattle.ctl_plane.proofs.OwnAskingLemmas.{may_ask_owner, over_entry, over_given, over_plane}
use Rattle.ctl_plane.proofs.history.History.ask_over.Goals as goal

pub ask_over-requires : goal.ask_over-requires
ask_over-requires g c =
    let may = subst (λ (p : Past (Given g.row.P-Name.Denot g.row.P-Out.Denot g.row.P-In.Denot) g.row.P-Name.Denot g.row.P-Story.Denot). MayAskOver (obj (control_of p).rows c.args.id.0)) (sym c.self.view_is) c.requires.may in
    record {
      may = record {
        control = _;
        stands = c.self.invariant.history.stands;
        is = may_ask_owner g.P.Pipes.known.out_name g.P.Pipes.known.in_name c.self.inside.state _ _ c.args.id c.args.h c.self.invariant may c.requires.silent;
      };
    }

pub push-requires : goal.push-requires
push-requires g c =
    let may = subst (λ (p : Past (Given g.row.P-Name.Denot g.row.P-Out.Denot g.row.P-In.Denot) g.row.P-Name.Denot g.row.P-Story.Denot). MayAskOver (obj (control_of p).rows c.args.id.0)) (sym c.self.view_is) c.requires.may in
    record { room = over_entry g.P.Pipes.known.out_name g.P.Pipes.known.in_name c.self.inside.state _ _ c.args.id c.args.h c.self.invariant may c.requires.silent }

pub invariant_of-self : goal.invariant_of-self
invariant_of-self g c =
    let may = subst (λ (p : Past (Given g.row.P-Name.Denot g.row.P-Out.Denot g.row.P-In.Denot) g.row.P-Name.Denot g.row.P-Story.Denot). MayAskOver (obj (control_of p).rows c.args.id.0)) (sym c.self.view_is) c.requires.may in
    planed_now g.P.Pipes.known.out_name g.P.Pipes.known.in_name c.ask_over.new.state c.self.inside.workers c.self.inside.events c.push.new.self _ _ _ c.push.ensures
    (over_plane g.P.Pipes.known.out_name g.P.Pipes.known.in_name c.self.inside.state _ _ c.args.id c.args.h c.self.invariant may c.requires.silent c.ask_over.new.state
    (c.ask_over.ensures.stands _ c.self.invariant.history.stands) (c.ask_over.ensures.puts _) c.ask_over.ensures.lists)

pub returns : goal.returns
returns g c =
    let may = subst (λ (p : Past (Given g.row.P-Name.Denot g.row.P-Out.Denot g.row.P-In.Denot) g.row.P-Name.Denot g.row.P-Story.Denot). MayAskOver (obj (control_of p).rows c.args.id.0)) (sym c.self.view_is) c.requires.may in
    event_now c.args.self.now c.self.inside.workers c.self.inside.events c.push.new.self _ _ _ (sym c.self.view_is) c.push.ensures
    (over_given g.P.Pipes.known.out_name g.P.Pipes.known.in_name c.self.inside.state _ _ c.args.id c.args.h c.self.invariant may c.requires.silent c.ask_over.new.state
    (c.ask_over.ensures.stands _ c.self.invariant.history.stands) (c.ask_over.ensures.puts _) c.ask_over.ensures.lists)
