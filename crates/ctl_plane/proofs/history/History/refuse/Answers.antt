use Rattle.std.specs.Prelude.{◌≡◌, refl}
use Rattle.std.proofs.Common.{sym, subst}
use Rattle.spec_control.specs.declared.request.Reply.TheVariants.{Refused}
use Rattle.spec_control.specs.ControlRun.{MayAsk}
use Rattle.spec_control.specs.Reply.{reply_of}
use Rattle.desk.specs.declared.given.Given.{Given}
use Rattle.ctl_plane.specs.Past.{Past, control_of}
use Rattle.ctl_plane.proofs.DoneLemmas.{refuses, noted_event}
use Rattle.ctl_plane.proofs.PlaneLemmas.{planed_noted, one_plane, tells_no_names}
use Rattle.ctl_state.specs.Listed.{with_room}
use Rattle.ctl_plane.proofs.MakingLemmas.{planed_back, viewed_back}
use Rattle.ctl_state.proofs.KeptLemmas.{so_on_err}
use Rattle.ctl_plane.proofs.history.History.refuse.Goals as goal

pub invariant_of-self-2 : goal.invariant_of-self-2
invariant_of-self-2 g c =
    planed_noted g.P.Pipes.known.out_name g.P.Pipes.known.in_name c.self.inside.state c.self.inside.workers c.self.inside.events (with_room 1 c.self.inside.events) c.note.new.events _ _ _ refl c.in_ok-note.ensures.ok
    (one_plane g.P.Pipes.known.out_name g.P.Pipes.known.in_name c.self.inside.state c.self.inside.state _ _ _ _ c.self.invariant
    (refuses c.self.inside.state _ _ c.args.request c.args.refusal c.args.h c.self.invariant.history
    (subst (λ (p : Past (Given g.row.P-Name.Denot g.row.P-Out.Denot g.row.P-In.Denot) g.row.P-Name.Denot g.row.P-Story.Denot). MayAsk (control_of p) c.args.request) (sym c.self.view_is) c.requires.may)
    (subst (λ (p : Past (Given g.row.P-Name.Denot g.row.P-Out.Denot g.row.P-In.Denot) g.row.P-Name.Denot g.row.P-Story.Denot). reply_of (control_of p) c.args.request ≡ Refused c.args.refusal) (sym c.self.view_is) c.requires.refused) c.requires.silent)
    (tells_no_names _ _ c.requires.silent) c.self.invariant.carried (λ i. refl) refl)

pub invariant_of-self : goal.invariant_of-self
invariant_of-self g c =
    planed_back g.P.Pipes.known.out_name g.P.Pipes.known.in_name c.self.inside.state c.self.inside.state c.self.inside.workers c.self.inside.events c.note.new.events refl c.in_err-note.ensures.err c.self.invariant

pub returns-clause-ok : goal.returns-clause-ok
returns-clause-ok g c = noted_event c.args.self.now c.self.inside.workers c.self.inside.events (with_room 1 c.self.inside.events) c.note.new.events _ _ _ (sym c.self.view_is) refl c.in_ok-note.ensures.ok refl

pub returns-in_err-note-clause-err : goal.returns-in_err-note-clause-err
returns-in_err-note-clause-err g c =
    so_on_err _ _ (viewed_back c.args.self.now c.self.inside.state c.self.inside.state c.self.inside.workers c.self.inside.events c.note.new.events refl c.in_err-note.ensures.err c.self.view_is)
