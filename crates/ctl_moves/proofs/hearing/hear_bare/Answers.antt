use Rattle.std.specs.Prelude.{◌<◌, Bool, None, length, refl}
use Rattle.std.proofs.Common.{ap, sym, subst, ◌∙◌, arith}
use Rattle.spec_control.specs.declared.letter.Word.{Word}
use Rattle.spec_control.specs.Row.{AckComes}
use Rattle.spec_control.specs.Control.{link}
use Rattle.desk.specs.declared.load.Load.{Load}
use Rattle.ctl_state.specs.declared.state.State.{State}
use Rattle.ctl_state.proofs.BareLemmas.{tells_not}
use Rattle.ctl_moves.proofs.HearLemmas.{bare_no_plug, own_done, request_done, ack_done, stop_done, turn_done, term_done}
use Rattle.ctl_moves.proofs.HolderLemmas.{ended_has_none, has_same}
use Rattle.control_laws.proofs.StayLemmas.{link_ends_stay}
use Rattle.ctl_moves.proofs.TurnedLemmas.{turns_none, turns_same}
use Rattle.ctl_moves.proofs.ToldLemmas.{own_told, request_told, ack_told, stop_told, turn_told, term_told}
use Rattle.ctl_moves.specs.Bare.{Hears}
use Rattle.ctl_moves.specs.Terming.{MayTerm}
use Rattle.control_laws.proofs.ListLemmas.{left}
use Rattle.ctl_moves.proofs.BareLemmas.{finished_is, not_ended}
use Rattle.desk.specs.Heard.{heard_by}
use Rattle.desk.specs.Output.{has_left}
use Rattle.ctl_moves.proofs.CameLemmas.{ack_came, none_came, own_between, parent_lives, request_between, stop_between, stop_heard, term_came, turn_between, unheard}
use Rattle.ctl_moves.specs.Processing.{HearsEnd, SaysLeft}
use Rattle.ctl_moves.proofs.hearing.hear_bare.Goals as goal

pub returns-in-Own : goal.returns-in-Own
returns-in-Own g c = λ a silent w. (
  own_done g.P.Pipes.known.out_name g.P.Pipes.known.in_name c.args.state.now c.own.new.state (g.H.Holder.holding c.args.holder.now) c.args.letter.now.to a silent w.control w.names
      c.args.letter.now.word c.in-Own.child c.in-Own.is (c.own.ensures.stands w.control w.stands) c.own.ensures.only w.has,
  own_told c.args.letter.now.to a w.control (g.H.Holder.holding c.args.holder.now) (g.H.Holder.holding c.args.holder.now) c.args.letter.now.word c.in-Own.child c.in-Own.is (turns_same (g.H.Holder.holding c.args.holder.now)),
  none_came c.args.letter.now.to a w.control (g.H.Holder.holding c.args.holder.now) (g.H.Holder.holding c.args.holder.now) c.args.letter.now.word silent.joined refl (λ i. refl) (λ i. refl)
      (own_between c.args.letter.now.to a w.control (g.H.Holder.holding c.args.holder.now) (g.H.Holder.holding c.args.holder.now) c.args.letter.now.word c.in-Own.child c.in-Own.is)
      (unheard c.args.letter.now.to a w.control (g.H.Holder.holding c.args.holder.now) (g.H.Holder.holding c.args.holder.now) c.args.letter.now.word (λ d. ap (λ (x : Word). heard_by c.args.letter.now.to x w.control d) c.in-Own.is) refl),
)

pub returns-in-TermReq : goal.returns-in-TermReq
returns-in-TermReq g c = λ a silent w.
    let hears = subst (λ (x : Word). Hears c.args.state.now c.args.letter.now.to.0 x w.control) c.in-TermReq.is w.hears in (
      request_done g.P.Pipes.known.out_name g.P.Pipes.known.in_name c.args.state.now c.request.new.state (g.H.Holder.holding c.args.holder.now) c.args.letter.now.to a silent w.control w.names
          c.args.letter.now.word c.in-TermReq.child c.in-TermReq.is (c.request.ensures.stands w.control w.stands) c.request.ensures.only w.has,
      request_told c.args.letter.now.to a w.control (g.H.Holder.holding c.args.holder.now) (g.H.Holder.holding c.args.holder.now) c.args.letter.now.word c.in-TermReq.child c.in-TermReq.is (turns_same (g.H.Holder.holding c.args.holder.now)),
      none_came c.args.letter.now.to a w.control (g.H.Holder.holding c.args.holder.now) (g.H.Holder.holding c.args.holder.now) c.args.letter.now.word silent.joined refl (λ i. refl) (λ i. refl)
          (request_between c.args.letter.now.to a w.control (g.H.Holder.holding c.args.holder.now) (g.H.Holder.holding c.args.holder.now) c.args.letter.now.word c.in-TermReq.child c.in-TermReq.is hears.comes.comes)
          (unheard c.args.letter.now.to a w.control (g.H.Holder.holding c.args.holder.now) (g.H.Holder.holding c.args.holder.now) c.args.letter.now.word (λ d. ap (λ (x : Word). heard_by c.args.letter.now.to x w.control d) c.in-TermReq.is) refl),
    )

pub process_term-requires : goal.process_term-requires
process_term-requires g c =
    let w = c.requires.may in
    let hears = subst (λ (x : Word). HearsEnd g.P.Pipes.known.out_name g.P.Pipes.known.in_name w.names w.control c.args.state.now (g.H.Holder.holding c.args.holder.now) c.args.letter.now.to.0 x None) c.in-Term.is w.ends in
    record { may = record { control = w.control; names = w.names; stands = w.stands; has = w.has; lent = w.lent (bare_no_plug c.args.letter.now.word c.requires.bare); rootless = hears.rootless; comes = hears.comes; room = hears.room } }

pub returns-in-Term : goal.returns-in-Term
returns-in-Term g c = λ a says w.
    let h = g.H.Holder.holding c.args.holder.now in
    let k = g.H.Holder.holding c.process_term.new.holder in
    let hears = subst (λ (x : Word). HearsEnd g.P.Pipes.known.out_name g.P.Pipes.known.in_name w.names w.control c.args.state.now h c.args.letter.now.to.0 x None) c.in-Term.is w.ends in
    let may : MayTerm c.args.state.now h c.args.letter.now.to.0 = record { control = w.control; names = w.names; stands = w.stands; has = w.has; lent = w.lent (bare_no_plug c.args.letter.now.word c.requires.bare); rootless = hears.rootless; comes = hears.comes; room = hears.room } in
    let done = c.process_term.ensures.terms may in
    let left = subst (λ (b : Bool). SaysLeft b a) (c.process_term.ensures.left may) says in (
      term_done g.P.Pipes.known.out_name g.P.Pipes.known.in_name c.args.state.now c.process_term.new.state h k c.args.letter.now.to a w.control w.names c.args.letter.now.word c.in-Term.is left done,
      term_told c.args.letter.now.to a w.control h k c.args.letter.now.word (has_left w.control c.args.letter.now.to.0 h) c.in-Term.is left done.turned,
      term_came c.args.letter.now.to a w.control h k c.args.letter.now.word (has_left w.control c.args.letter.now.to.0 h) c.in-Term.is left done.joined done.objects (c.process_term.ensures.heard may),
    )

pub tell_over-requires : goal.tell_over-requires
tell_over-requires g c = record {
  none = λ ended above. (let w = c.requires.may in
      let now = link AckComes c.in-TermAck.child.0 w.control in
      ended_has_none w.names now.rows now.attached now.reasons (g.H.Holder.holding c.args.holder.now) c.args.letter.now.to.0 (sym (c.acknowledgement-ended.ensures.ended w.control w.stands) ∙ ended)
      (has_same w.names w.control now (g.H.Holder.holding c.args.holder.now) (link_ends_stay AckComes c.in-TermAck.child.0 w.control) w.has c.args.letter.now.to.0 (w.lent (bare_no_plug c.args.letter.now.word c.requires.bare) above)));
}

pub returns-in-TermAck : goal.returns-in-TermAck
returns-in-TermAck g c = λ a silent w.
    let hears = subst (λ (x : Word). Hears c.args.state.now c.args.letter.now.to.0 x w.control) c.in-TermAck.is w.hears in (
      ack_done g.P.Pipes.known.out_name g.P.Pipes.known.in_name c.args.state.now c.acknowledgement-ended.new.state (g.H.Holder.holding c.args.holder.now) c.args.letter.now.to a silent w.control w.names
          (g.H.Holder.holding c.tell_over.new.holder) c.args.letter.now.word c.in-TermAck.child c.in-TermAck.is (c.acknowledgement-ended.ensures.stands w.control w.stands) c.acknowledgement-ended.ensures.only w.has (w.lent (bare_no_plug c.args.letter.now.word c.requires.bare)) c.tell_over.ensures.told c.tell_over.ensures.root,
      ack_told c.args.letter.now.to a w.control (g.H.Holder.holding c.args.holder.now) (g.H.Holder.holding c.tell_over.new.holder) c.args.letter.now.word c.in-TermAck.child c.in-TermAck.is
          (turns_none (g.H.Holder.holding c.args.holder.now) (g.H.Holder.holding c.tell_over.new.holder) c.tell_over.ensures.told.turns),
      ack_came c.args.letter.now.to a w.control (g.H.Holder.holding c.args.holder.now) (g.H.Holder.holding c.tell_over.new.holder) c.args.letter.now.word c.in-TermAck.child c.in-TermAck.is silent
          c.acknowledgement-ended.result c.tell_over.ensures.told c.tell_over.ensures.root (w.lent (bare_no_plug c.args.letter.now.word c.requires.bare)) c.tell_over.ensures.kept hears.lives
          (parent_lives w.control c.in-TermAck.child.0 c.args.letter.now.to.0 (not_ended w.control c.in-TermAck.child.0 c.args.letter.now.to.0 (finished_is _ (left _ _ hears.comes.comes)) hears.lives) hears.lives)
          (c.acknowledgement-ended.ensures.ended w.control w.stands) c.tell_over.ensures.heard,
    )

pub returns-in-PipeTerm : goal.returns-in-PipeTerm
returns-in-PipeTerm g c = λ a silent w.
    let ends = subst (λ (x : Word). HearsEnd g.P.Pipes.known.out_name g.P.Pipes.known.in_name w.names w.control c.args.state.now (g.H.Holder.holding c.args.holder.now) c.args.letter.now.to.0 x None) c.in-PipeTerm.is w.ends in
    let leads = c.turn_end.ensures (record { control = w.control; names = w.names; stands = w.stands; has = w.has; turns = ends }) in (
      turn_done g.P.Pipes.known.out_name g.P.Pipes.known.in_name c.args.state.now c.turn_end.new.state (g.H.Holder.holding c.args.holder.now) c.args.letter.now.to a silent w.control w.names
          (g.H.Holder.holding c.turn_end.new.holder) c.args.letter.now.word c.in-PipeTerm.e c.in-PipeTerm.is
          leads,
      turn_told c.args.letter.now.to a w.control (g.H.Holder.holding c.args.holder.now) (g.H.Holder.holding c.turn_end.new.holder) c.args.letter.now.word c.in-PipeTerm.e c.in-PipeTerm.is ends.within ends.listed
          leads.turned,
      none_came c.args.letter.now.to a w.control (g.H.Holder.holding c.args.holder.now) (g.H.Holder.holding c.turn_end.new.holder) c.args.letter.now.word silent.joined leads.joined leads.holds leads.kinds
          (turn_between c.args.letter.now.to a w.control (g.H.Holder.holding c.args.holder.now) (g.H.Holder.holding c.turn_end.new.holder) c.args.letter.now.word c.in-PipeTerm.e c.in-PipeTerm.is)
          (unheard c.args.letter.now.to a w.control (g.H.Holder.holding c.args.holder.now) (g.H.Holder.holding c.turn_end.new.holder) c.args.letter.now.word (λ d. ap (λ (x : Word). heard_by c.args.letter.now.to x w.control d) c.in-PipeTerm.is) leads.heard),
    )

pub returns-in-Stop : goal.returns-in-Stop
returns-in-Stop g c = λ a silent w. (
  stop_done g.P.Pipes.known.out_name g.P.Pipes.known.in_name c.args.state.now c.hear_stop.new.state (g.H.Holder.holding c.args.holder.now) c.args.letter.now.to a silent w.control w.names
      (g.H.Holder.holding c.hear_stop.new.holder) c.args.letter.now.word c.in-Stop.is (c.hear_stop.ensures.stands w.control w.stands)
      (tells_not c.args.state.now c.hear_stop.new.state (ap (λ (x : State (Load g.row.P-Name.Denot g.row.P-Out.Denot g.row.P-In.Denot)). x.boxes) c.hear_stop.ensures.next)
      (ap (λ (x : State (Load g.row.P-Name.Denot g.row.P-Out.Denot g.row.P-In.Denot)). x.objects.lists) c.hear_stop.ensures.next)) w.has c.hear_stop.ensures.stays c.hear_stop.ensures.turns,
  stop_told c.args.letter.now.to a w.control (g.H.Holder.holding c.args.holder.now) (g.H.Holder.holding c.hear_stop.new.holder) c.args.letter.now.word c.in-Stop.is (turns_none (g.H.Holder.holding c.args.holder.now) (g.H.Holder.holding c.hear_stop.new.holder) c.hear_stop.ensures.turns),
  none_came c.args.letter.now.to a w.control (g.H.Holder.holding c.args.holder.now) (g.H.Holder.holding c.hear_stop.new.holder) c.args.letter.now.word silent.joined c.hear_stop.ensures.turns.joined c.hear_stop.ensures.stays.now.objects c.hear_stop.ensures.stays.now.kinds
      (stop_between c.args.letter.now.to a w.control (g.H.Holder.holding c.args.holder.now) (g.H.Holder.holding c.hear_stop.new.holder) c.args.letter.now.word c.in-Stop.is)
      (stop_heard c.args.letter.now.to a w.control (g.H.Holder.holding c.args.holder.now) (g.H.Holder.holding c.hear_stop.new.holder) c.args.letter.now.word c.in-Stop.is c.hear_stop.ensures.heard),
)

pub turn_end-requires-clause-may : goal.turn_end-requires-clause-may
turn_end-requires-clause-may g c =
    let w = c.requires.may in
    record {
      control = w.control;
      names = w.names;
      stands = w.stands;
      has = w.has;
      turns = subst (λ (x : Word). HearsEnd g.P.Pipes.known.out_name g.P.Pipes.known.in_name w.names w.control c.args.state.now (g.H.Holder.holding c.args.holder.now) c.args.letter.now.to.0 x None) c.in-PipeTerm.is w.ends;
    }

pub hear_stop-requires : goal.hear_stop-requires
hear_stop-requires g c =
    let w = c.requires.may in
    let there : c.args.letter.now.to.0 < length w.control.rows.objects = subst (λ (x : Word). Hears c.args.state.now c.args.letter.now.to.0 x w.control) c.in-Stop.is w.hears in
    let many = w.stands.objects.many in
    omega (arith, there, many)
