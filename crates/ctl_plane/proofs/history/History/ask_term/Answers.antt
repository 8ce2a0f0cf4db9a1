use Rattle.std.specs.Prelude.{◌≡◌, Bool, not, if◌then◌else◌, refl}
use Rattle.std.proofs.Common.{ap, sym, ◌∙◌, subst}
use Rattle.spec_control.specs.declared.request.Reply.TheVariants.{Asked as WasAsked, Before}
use Rattle.spec_control.specs.Reply.{root_asked}
use Rattle.desk.specs.declared.given.Given.{Given}
use Rattle.ctl_plane.specs.Past.{Past, control_of}
use Rattle.ctl_plane.proofs.CarryLemmas.{told_given}
use Rattle.ctl_plane.proofs.DoneLemmas.{ask_entry, asks, asks_again, event_now, noted_event}
use Rattle.ctl_plane.proofs.PlaneLemmas.{plane_kept, planed_now, planed_noted, one_plane, tells_no_names}
use Rattle.ctl_plane.proofs.PlaneDoneLemmas.{told_plane}
use Rattle.ctl_state.specs.Listed.{with_room}
use Rattle.ctl_plane.proofs.MakingLemmas.{planed_back, viewed_back}
use Rattle.ctl_state.proofs.KeptLemmas.{so_on_err}
use Rattle.ctl_plane.proofs.history.History.ask_term.Goals as goal

pub invariant_of-self-then-not-root_lives : goal.invariant_of-self-then-not-root_lives
invariant_of-self-then-not-root_lives g c =
    planed_noted g.P.Pipes.known.out_name g.P.Pipes.known.in_name c.self.inside.state c.self.inside.workers c.self.inside.events (with_room 1 c.self.inside.events) c.note.new.events _ _ _ refl c.in_ok-note.ensures.ok
    (one_plane g.P.Pipes.known.out_name g.P.Pipes.known.in_name c.self.inside.state c.self.inside.state _ _ _ _ c.self.invariant
    (asks_again c.self.inside.state _ _ c.args.h c.self.invariant.history (sym (c.root_lives.ensures _ c.self.invariant.history.stands) ∙ c.if-not-root_lives.true) c.requires.silent)
    (tells_no_names _ _ c.requires.silent) c.self.invariant.carried (λ i. refl) refl)

pub ask_root-requires : goal.ask_root-requires
ask_root-requires g c = record {
  may = record {
    control = _;
    stands = c.self.invariant.history.stands;
    is = record {
      kept = plane_kept g.P.Pipes.known.out_name g.P.Pipes.known.in_name _ _ _ c.self.invariant;
      alive = sym (c.root_lives.ensures _ c.self.invariant.history.stands) ∙ c.if-not-root_lives.false;
      room = c.self.invariant.history.room;
    };
  };
}

pub push-requires : goal.push-requires
push-requires g c = record {
  room = ask_entry c.self.inside.state _ _ c.args.h c.self.invariant.history (sym (c.root_lives.ensures _ c.self.invariant.history.stands) ∙ c.if-not-root_lives.false) c.requires.silent;
}

pub invariant_of-self-2 : goal.invariant_of-self-2
invariant_of-self-2 g c =
    planed_now g.P.Pipes.known.out_name g.P.Pipes.known.in_name c.ask_root.new.state c.self.inside.workers c.self.inside.events c.push.new.self _ _ _ c.push.ensures
    (told_plane g.P.Pipes.known.out_name g.P.Pipes.known.in_name c.self.inside.state c.ask_root.new.state _ _ _ _ c.self.invariant
    (asks c.self.inside.state c.ask_root.new.state _ _ c.args.h c.self.invariant.history (sym (c.root_lives.ensures _ c.self.invariant.history.stands) ∙ c.if-not-root_lives.false) c.requires.silent
    c.ask_root.ensures.stands c.ask_root.ensures.only) (tells_no_names _ _ c.requires.silent) refl c.ask_root.ensures.only)

pub returns-clause-ok : goal.returns-clause-ok
returns-clause-ok g c =
    event_now c.args.self.now c.self.inside.workers c.self.inside.events c.push.new.self _ _ _ (sym c.self.view_is) c.push.ensures
    (told_given c.self.inside.state.boxes c.ask_root.new.state.boxes c.ask_root.ensures.only.bare)

pub returns-clause-reply : goal.returns-clause-reply
returns-clause-reply g c =
    subst (λ (p : Past (Given g.row.P-Name.Denot g.row.P-Out.Denot g.row.P-In.Denot) g.row.P-Name.Denot g.row.P-Story.Denot). WasAsked ≡ (if root_asked (control_of p) then Before else WasAsked)) c.self.view_is
    (sym (ap (λ (b : Bool). if not b then Before else WasAsked) (sym (c.root_lives.ensures _ c.self.invariant.history.stands) ∙ c.if-not-root_lives.false)))

pub invariant_of-self : goal.invariant_of-self
invariant_of-self g c =
    planed_back g.P.Pipes.known.out_name g.P.Pipes.known.in_name c.self.inside.state c.self.inside.state c.self.inside.workers c.self.inside.events c.note.new.events refl c.in_err-note.ensures.err c.self.invariant

pub returns-then-not-root_lives-clause-ok : goal.returns-then-not-root_lives-clause-ok
returns-then-not-root_lives-clause-ok g c = noted_event c.args.self.now c.self.inside.workers c.self.inside.events (with_room 1 c.self.inside.events) c.note.new.events _ _ _ (sym c.self.view_is) refl c.in_ok-note.ensures.ok refl

pub returns-in_err-note-clause-err : goal.returns-in_err-note-clause-err
returns-in_err-note-clause-err g c =
    so_on_err _ _ (viewed_back c.args.self.now c.self.inside.state c.self.inside.state c.self.inside.workers c.self.inside.events c.note.new.events refl c.in_err-note.ensures.err c.self.view_is)
