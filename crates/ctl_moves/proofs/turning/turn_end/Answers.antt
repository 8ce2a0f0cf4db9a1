use Rattle.std.specs.Prelude.{◌<◌, ℕ, Bool, false, List, All, refl, if◌then◌else◌}
use Rattle.std.proofs.Common.{ap, sym, ◌∙◌, subst}
use Rattle.spec_control.specs.declared.end.EndCommands.{EndCommands}
use Rattle.spec_control.specs.EndLife.{cell, state_after, commands_of}
use Rattle.spec_control.specs.declared.end.EndState.{EndState}
use Rattle.spec_control.specs.Place.{is_here, At}
use Rattle.spec_control.specs.Control.{commands_in, owner_of, tell_other}
use Rattle.spec_control.specs.Held.{Held}
use Rattle.control_laws.proofs.AskLemmas.{end_self}
use Rattle.desk.specs.Holding.{has_end}
use Rattle.desk.specs.Lent.{has_writer, HasBothNames}
use Rattle.desk.specs.declared.load.Load.{Load}
use Rattle.ctl_state.specs.declared.state.State.{State}
use Rattle.zq_base.specs.Ends.{other_end}
use Rattle.mailbox.specs.Mail.{Mail}
use Rattle.ctl_state.specs.declared.command.Command.{Command}
use Rattle.ctl_state.specs.Pairs.{owner_at as kept_owner_at}
use Rattle.ctl_state.specs.Stands.{Stands, slot_of, stepped, tells}
use Rattle.ctl_state.specs.Boxes.{mail_at}
use Rattle.ctl_moves.specs.Turning.{yields, needs_writer, SealsFor, Turned}
use Rattle.ctl_moves.proofs.HeldLemmas.{has_here}
use Rattle.ctl_moves.proofs.TurnLemmas.{comes_here, stepped_at, writer_needed, writer_step, turned_told, told_as, ends_same, has_turned, turns_told, puts_told, lists_kept, other_slot}
use Rattle.ctl_moves.proofs.turning.turn_end.Goals as goal

pub tell_state-requires-clause-there : goal.tell_state-requires-clause-there
tell_state-requires-clause-there g c =
    let w = c.requires.may in
    record {
      control = stepped c.args.event c.args.e w.control;
      stands = c.step_end-commands.ensures.stands w.control w.stands;
      state = state_after (cell c.args.event w.turns.state) w.turns.state;
      there = stepped_at w.control c.args.event c.args.e w.turns.state w.turns.there w.turns.within;
    }

pub tell_state-requires-clause-here : goal.tell_state-requires-clause-here
tell_state-requires-clause-here g c =
    let w = c.requires.may in
    ap (λ (n : ℕ). has_end c.args.e ((g.H.Holder.holding c.args.holder.now).ends n)) (sym (c.owner-owner.ensures.stands w.control w.stands))
    ∙ has_here w.names w.control.rows.pairs w.control.attached w.control.reasons (g.H.Holder.holding c.args.holder.now) (owner_of w.control c.args.e) (w.has (owner_of w.control c.args.e) w.turns.lent) c.args.e refl
    (ap is_here w.turns.there ∙ comes_here c.args.event w.turns.state w.turns.may_come) w.turns.listed

pub give_for-load-requires-clause-here : goal.give_for-load-requires-clause-here
give_for-load-requires-clause-here g c =
    let w = c.requires.may in
    ap (has_end c.args.e) c.tell_state.ensures.stays.now.ends
    ∙ ap (λ (n : ℕ). has_end c.args.e ((g.H.Holder.holding c.args.holder.now).ends n)) (sym (c.owner-owner.ensures.stands w.control w.stands))
    ∙ has_here w.names w.control.rows.pairs w.control.attached w.control.reasons (g.H.Holder.holding c.args.holder.now) (owner_of w.control c.args.e) (w.has (owner_of w.control c.args.e) w.turns.lent) c.args.e refl
    (ap is_here w.turns.there ∙ comes_here c.args.event w.turns.state w.turns.may_come) w.turns.listed

pub give_for-load-requires-clause-writer : goal.give_for-load-requires-clause-writer
give_for-load-requires-clause-writer g c = λ needs.
    let w = c.requires.may in
    let has = w.has (owner_of w.control c.args.e) w.turns.lent in
    let here = has_here w.names w.control.rows.pairs w.control.attached w.control.reasons (g.H.Holder.holding c.args.holder.now) (owner_of w.control c.args.e) has c.args.e refl
    (ap is_here w.turns.there ∙ comes_here c.args.event w.turns.state w.turns.may_come) w.turns.listed in
    let commands = c.step_end-commands.ensures.commands w.control w.stands ∙ ap (commands_in c.args.event) w.turns.there in
    c.tell_state.ensures.stays.writers c.args.e ∙ has.writes c.args.e here ∙ ap has_writer w.turns.there
    ∙ writer_needed c.args.event w.turns.state c.requires.stays (ap needs_writer (sym commands) ∙ needs)

-- it gives its writing half away in a state that has none
pub give_for-load-requires-clause-out : goal.give_for-load-requires-clause-out
give_for-load-requires-clause-out g c = λ gives.
    let w = c.requires.may in
    let now = state_after (cell c.args.event w.turns.state) w.turns.state in
    let here = ap (λ (n : ℕ). has_end c.args.e ((g.H.Holder.holding c.args.holder.now).ends n)) (sym (c.owner-owner.ensures.stands w.control w.stands))
    ∙ has_here w.names w.control.rows.pairs w.control.attached w.control.reasons (g.H.Holder.holding c.args.holder.now) (owner_of w.control c.args.e) (w.has (owner_of w.control c.args.e) w.turns.lent) c.args.e refl
    (ap is_here w.turns.there ∙ comes_here c.args.event w.turns.state w.turns.may_come) w.turns.listed in
    let commands = c.step_end-commands.ensures.commands w.control w.stands ∙ ap (commands_in c.args.event) w.turns.there in
    let told = c.tell_state.ensures.turns (record {
      control = stepped c.args.event c.args.e w.control;
      stands = c.step_end-commands.ensures.stands w.control w.stands;
      state = now;
      there = stepped_at w.control c.args.event c.args.e w.turns.state w.turns.there w.turns.within;
    }) in
    ap (λ (s : EndState). has_writer (At s))
    (told.states c.owner-owner.result.0 c.args.e (ap (has_end c.args.e) c.tell_state.ensures.stays.now.ends ∙ here)
    ∙ ap (λ (b : Bool). if b then now else (g.H.Holder.holding c.args.holder.now).state c.args.e) (end_self c.args.e))
    ∙ writer_step c.args.event w.turns.state w.turns.may_come c.requires.stays
    ∙ ap (λ (b : Bool). if b then false else has_writer (At w.turns.state)) (ap yields (sym commands) ∙ gives)

pub returns : goal.returns
returns g c = λ w.
    let h = g.H.Holder.holding c.args.holder.now in
    let m = g.H.Holder.holding c.tell_state.new.holder in
    let k = g.H.Holder.holding c.give_for-load.new.holder in
    let mid = c.step_end-commands.new.self in
    let stands = c.step_end-commands.ensures.stands w.control w.stands in
    let told = c.step_end-commands.ensures.commands w.control w.stands in
    let commands = told ∙ ap (commands_in c.args.event) w.turns.there in
    let owner = c.owner-owner.ensures.stands w.control w.stands in
    let both = turned_told c.owner-owner.result.0 c.args.e h m k (yields c.step_end-commands.result) c.tell_state.ensures.stays c.give_for-load.ensures.turned in
    let turned = subst (λ (n : ℕ). Turned n c.args.e (yields (commands_of (cell c.args.event w.turns.state))) h k) (sym owner)
    (subst (λ (x : EndCommands). Turned c.owner-owner.result.0 c.args.e (yields x) h k) commands both) in
    let has = w.has (owner_of w.control c.args.e) w.turns.lent in
    let here = has_here w.names w.control.rows.pairs w.control.attached w.control.reasons h (owner_of w.control c.args.e) has c.args.e refl
    (ap is_here w.turns.there ∙ comes_here c.args.event w.turns.state w.turns.may_come) w.turns.listed in
    let told_one = told_as (commands_of (cell c.args.event w.turns.state)) c.args.e (state_after (cell c.args.event w.turns.state) w.turns.state) h m k
    (c.tell_state.ensures.turns (record {
      control = stepped c.args.event c.args.e w.control;
      stands = stands;
      state = state_after (cell c.args.event w.turns.state) w.turns.state;
      there = stepped_at w.control c.args.event c.args.e w.turns.state w.turns.there w.turns.within;
    }))
    (λ i. ends_same c.owner-owner.result.0 c.args.e m k (yields c.step_end-commands.result) c.give_for-load.ensures.turned i)
    (subst (λ (x : EndCommands). SealsFor x c.args.e m k) commands c.give_for-load.ensures.seals) in
    record {
      stands = subst (λ (x : EndCommands). Stands c.tell_other.new.self (tell_other x c.args.e (stepped c.args.event c.args.e w.control))) told
          (c.tell_other.ensures.stands (stepped c.args.event c.args.e w.control) stands);
      has = has_turned w.control c.args.event c.args.e w.turns.state w.turns.there w.turns.within w.turns.may_come c.requires.stays w.names h k turned w.turns.delimiter told_one w.has;
      puts = puts_told g.P.Pipes.known.out_name g.P.Pipes.known.in_name w.names c.args.state.now mid c.tell_other.new.self _ c.step_end-commands.result c.owner-owner.result.0 c.args.e _ c.give_for-load.result m
          (subst (λ (hs : List (Held g.row.P-Name.Denot)). All (HasBothNames w.names) hs) (sym (c.tell_state.ensures.stays.now.ends ∙ ap h.ends (sym owner))) (w.has (owner_of w.control c.args.e) w.turns.lent).named)
          c.give_for-load.ensures.given (ap (λ (x : State (Load g.row.P-Name.Denot g.row.P-Out.Denot g.row.P-In.Denot)). x.boxes) c.step_end-commands.ensures.next)
          (λ t. subst (λ (n : ℕ). 0 < (mail_at c.args.state.now.boxes n).spare) (sym (other_slot c.args.state.now mid w.control c.args.event c.args.e w.turns.state w.turns.there w.turns.within stands)) (w.turns.room (ap tells (sym told) ∙ t)))
          c.tell_other.ensures.told c.tell_other.ensures.kept;
      lists = lists_kept c.args.state.now mid w.control c.args.event c.args.e w.turns.state w.turns.there w.turns.within stands c.tell_other.new.self c.step_end-commands.result _ _
          (ap (λ (x : State (Load g.row.P-Name.Denot g.row.P-Out.Denot g.row.P-In.Denot)). x.objects.lists) c.step_end-commands.ensures.next) c.tell_other.ensures.told c.tell_other.ensures.kept;
      holds = turned.now.objects;
      kinds = turned.now.kinds;
      output = turned.now.output;
      joined = told_one.joined;
      heard = c.give_for-load.ensures.heard ∙ c.tell_state.ensures.heard;
      turned = turns_told w.control c.args.event c.args.e w.turns.state w.turns.there w.turns.within w.names h k (owner_of w.control c.args.e) has here w.turns.may_come told_one;
    }

pub step_end-commands-requires-clause-may : goal.step_end-commands-requires-clause-may
step_end-commands-requires-clause-may g c =
    let w = c.requires.may in
    (c.needs.ensures w.control w.stands).may_come c.args.e c.args.event w.turns.state w.turns.there w.turns.may_come

pub step_end-commands-requires-clause-stays : goal.step_end-commands-requires-clause-stays
step_end-commands-requires-clause-stays g c = c.requires.stays

pub tell_other-requires : goal.tell_other-requires
tell_other-requires g c =
    let w = c.requires.may in
    let mid = c.step_end-commands.new.self in
    let stands = c.step_end-commands.ensures.stands w.control w.stands in
    let told = c.step_end-commands.ensures.commands w.control w.stands in
    record {
      room = λ t.
          subst (λ (b : List (Mail (Command (Load g.row.P-Name.Denot g.row.P-Out.Denot g.row.P-In.Denot)))). 0 < (mail_at b (slot_of mid (kept_owner_at mid.pairs (other_end c.args.e)).0)).spare) (sym (ap (λ (x : State (Load g.row.P-Name.Denot g.row.P-Out.Denot g.row.P-In.Denot)). x.boxes) c.step_end-commands.ensures.next))
          (subst (λ (n : ℕ). 0 < (mail_at c.args.state.now.boxes n).spare) (sym (other_slot c.args.state.now mid w.control c.args.event c.args.e w.turns.state w.turns.there w.turns.within stands)) (w.turns.room (ap tells (sym told) ∙ t)));
    }
