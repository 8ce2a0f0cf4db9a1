use Rattle.std.specs.Prelude.{◌<◌, ◌≤◌, ◌+◌, ◌&&◌, ◌==◌, cond, ℕ, Bool, false, List, All, if◌then◌else◌, refl}
use Rattle.std.proofs.Common.{ap, sym, ◌∙◌, subst}
use Rattle.zq_base.specs.declared.ids.ObjId.{ObjId}
use Rattle.mailbox.specs.Mail.{Mail}
use Rattle.spec_control.specs.Stage.{has_ended}
use Rattle.spec_control.specs.Rows.{obj}
use Rattle.ctl_state.specs.declared.command.Command.{Command}
use Rattle.spec_control.specs.declared.end.EndState.{EndState}
use Rattle.spec_control.specs.declared.end.EndState.TheVariants.{Gone}
use Rattle.spec_control.specs.declared.end.EndCommands.{EndCommands}
use Rattle.spec_control.specs.declared.end.EndEvent.TheVariants.{AckCame}
use Rattle.spec_control.specs.EndLife.{cell, state_after, commands_of}
use Rattle.spec_control.specs.Place.{is_here, At}
use Rattle.spec_control.specs.Control.{commands_in, owner_of, place_of, tell_other}
use Rattle.spec_control.specs.Held.{Held}
use Rattle.control_laws.proofs.AskLemmas.{end_self}
use Rattle.desk.specs.Holding.{has_end, read_in, Left, TurnsTo}
use Rattle.desk.specs.Lent.{has_writer, HasBothNames}
use Rattle.desk.specs.declared.load.Load.{Load}
use Rattle.ctl_state.specs.declared.state.State.{State}
use Rattle.ctl_state.specs.Boxes.{mail_at}
use Rattle.ctl_state.specs.Stands.{Stands, slot_of, stepped, tells}
use Rattle.ctl_state.specs.Pairs.{owner_at as kept_owner_at}
use Rattle.zq_base.specs.Ends.{other_end}
use Rattle.ctl_moves.specs.Turning.{yields, needs_writer, seals_for, SealsFor, Turned}
use Rattle.ctl_moves.proofs.HeldLemmas.{has_here, read_is}
use Rattle.ctl_moves.proofs.TurnLemmas.{comes_here, turned_told, told_as, ends_same, turns_told, puts_told, lists_kept, other_slot}
use Rattle.ctl_moves.proofs.SettleLemmas.{met_at_ack, told_spare, and_true, ack_writer, ack_needed, ack_goes, ack_seals, left_had, told_less, none_writes, has_settled}
use Rattle.ctl_moves.proofs.settling.settle_end.Goals as goal

pub set_state-requires : goal.set_state-requires
set_state-requires g c =
    let w = c.requires.may in
    record {
      here = ap (λ (n : ℕ). has_end c.args.e ((g.H.Holder.holding c.args.holder.now).ends n)) (sym (c.owner-owner.ensures.stands w.control w.stands))
          ∙ has_here w.names w.control.rows.pairs w.control.attached w.control.reasons (g.H.Holder.holding c.args.holder.now) (owner_of w.control c.args.e) (w.has (owner_of w.control c.args.e) w.settles.lent) c.args.e refl
          (ap is_here w.settles.there ∙ comes_here AckCame w.settles.state w.settles.may_come) w.settles.listed;
    }

pub give_for-load-requires-clause-here : goal.give_for-load-requires-clause-here
give_for-load-requires-clause-here g c =
    let w = c.requires.may in
    ap (has_end c.args.e) c.set_state.ensures.stays.now.ends
    ∙ ap (λ (n : ℕ). has_end c.args.e ((g.H.Holder.holding c.args.holder.now).ends n)) (sym (c.owner-owner.ensures.stands w.control w.stands))
    ∙ has_here w.names w.control.rows.pairs w.control.attached w.control.reasons (g.H.Holder.holding c.args.holder.now) (owner_of w.control c.args.e) (w.has (owner_of w.control c.args.e) w.settles.lent) c.args.e refl
    (ap is_here w.settles.there ∙ comes_here AckCame w.settles.state w.settles.may_come) w.settles.listed

pub give_for-load-requires-clause-writer : goal.give_for-load-requires-clause-writer
give_for-load-requires-clause-writer g c = λ needs.
    let w = c.requires.may in
    let has = w.has (owner_of w.control c.args.e) w.settles.lent in
    let here = has_here w.names w.control.rows.pairs w.control.attached w.control.reasons (g.H.Holder.holding c.args.holder.now) (owner_of w.control c.args.e) has c.args.e refl
    (ap is_here w.settles.there ∙ comes_here AckCame w.settles.state w.settles.may_come) w.settles.listed in
    let commands = c.end_goes-commands.ensures.commands w.control w.stands ∙ ap (commands_in AckCame) w.settles.there in
    c.set_state.ensures.stays.writers c.args.e ∙ has.writes c.args.e here ∙ ap has_writer w.settles.there
    ∙ ack_needed w.settles.state (ap needs_writer (sym commands) ∙ needs)

pub give_for-load-requires-clause-out : goal.give_for-load-requires-clause-out
give_for-load-requires-clause-out g c = λ gives.
    let w = c.requires.may in
    let here = ap (λ (n : ℕ). has_end c.args.e ((g.H.Holder.holding c.args.holder.now).ends n)) (sym (c.owner-owner.ensures.stands w.control w.stands))
    ∙ has_here w.names w.control.rows.pairs w.control.attached w.control.reasons (g.H.Holder.holding c.args.holder.now) (owner_of w.control c.args.e) (w.has (owner_of w.control c.args.e) w.settles.lent) c.args.e refl
    (ap is_here w.settles.there ∙ comes_here AckCame w.settles.state w.settles.may_come) w.settles.listed in
    ap (λ (s : EndState). has_writer (At s))
    (c.set_state.ensures.turns.states c.owner-owner.result.0 c.args.e (ap (has_end c.args.e) c.set_state.ensures.stays.now.ends ∙ here)
    ∙ ap (λ (b : Bool). if b then Gone else (g.H.Holder.holding c.args.holder.now).state c.args.e) (end_self c.args.e))

pub settle-counts-requires-clause-yielded : goal.settle-counts-requires-clause-yielded
settle-counts-requires-clause-yielded g c =
    let w = c.requires.may in
    let has = w.has (owner_of w.control c.args.e) w.settles.lent in
    let here = has_here w.names w.control.rows.pairs w.control.attached w.control.reasons (g.H.Holder.holding c.args.holder.now) (owner_of w.control c.args.e) has c.args.e refl
    (ap is_here w.settles.there ∙ comes_here AckCame w.settles.state w.settles.may_come) w.settles.listed in
    let commands = c.end_goes-commands.ensures.commands w.control w.stands ∙ ap (commands_in AckCame) w.settles.there in
    let was = c.set_state.ensures.stays.writers c.args.e ∙ has.writes c.args.e here ∙ ap has_writer w.settles.there in
    c.give_for-load.ensures.turned.writers c.args.e
    ∙ ap (λ (x : Bool). if yields c.end_goes-commands.result && x then false else (g.H.Holder.holding c.set_state.new.self).writes c.args.e) (end_self c.args.e)
    ∙ and_true (yields c.end_goes-commands.result) ((g.H.Holder.holding c.set_state.new.self).writes c.args.e)
    ∙ ap (λ (x : EndCommands). if yields x then false else (g.H.Holder.holding c.set_state.new.self).writes c.args.e) commands
    ∙ ap (λ (x : Bool). if yields (commands_of (cell AckCame w.settles.state)) then false else x) was
    ∙ ack_writer w.settles.state w.settles.may_come

pub settle-counts-requires-clause-pipe : goal.settle-counts-requires-clause-pipe
settle-counts-requires-clause-pipe g c =
    let w = c.requires.may in
    let has = w.has (owner_of w.control c.args.e) w.settles.lent in
    let here = has_here w.names w.control.rows.pairs w.control.attached w.control.reasons (g.H.Holder.holding c.args.holder.now) (owner_of w.control c.args.e) has c.args.e refl
    (ap is_here w.settles.there ∙ comes_here AckCame w.settles.state w.settles.may_come) w.settles.listed in
    let both = turned_told c.owner-owner.result.0 c.args.e (g.H.Holder.holding c.args.holder.now) (g.H.Holder.holding c.set_state.new.self) (g.H.Holder.holding c.give_for-load.new.holder) (yields c.end_goes-commands.result)
    c.set_state.ensures.stays c.give_for-load.ensures.turned in
    ap (λ (hs : List (Held g.row.P-Name.Denot)). read_in hs c.args.e)
    (both.now.ends ∙ ap (g.H.Holder.holding c.args.holder.now).ends (sym (c.owner-owner.ensures.stands w.control w.stands)))
    ∙ read_is w.names c.args.e ((g.H.Holder.holding c.args.holder.now).ends (owner_of w.control c.args.e)) (g.P.Pipes.known.out_name c.args.writer) has.named here w.settles.pipe

pub settle-counts-requires-clause-apart : goal.settle-counts-requires-clause-apart
settle-counts-requires-clause-apart g c =
    none_writes g.P.Pipes.known.exact (g.P.Pipes.known.out_name c.args.writer) c.owner-owner.result.0 c.args.e (yields c.end_goes-commands.result) (g.H.Holder.holding c.args.holder.now) (g.H.Holder.holding c.give_for-load.new.holder)
    (turned_told c.owner-owner.result.0 c.args.e (g.H.Holder.holding c.args.holder.now) (g.H.Holder.holding c.set_state.new.self) (g.H.Holder.holding c.give_for-load.new.holder) (yields c.end_goes-commands.result)
    c.set_state.ensures.stays c.give_for-load.ensures.turned) c.requires.apart

pub returns-clause-counts : goal.returns-clause-counts
returns-clause-counts g c =
    let w = c.requires.may in
    let has = w.has (owner_of w.control c.args.e) w.settles.lent in
    let here = has_here w.names w.control.rows.pairs w.control.attached w.control.reasons (g.H.Holder.holding c.args.holder.now) (owner_of w.control c.args.e) has c.args.e refl
    (ap is_here w.settles.there ∙ comes_here AckCame w.settles.state w.settles.may_come) w.settles.listed in
    let commands = c.end_goes-commands.ensures.commands w.control w.stands ∙ ap (commands_in AckCame) w.settles.there in
    let reads = ap (λ (hs : List (Held g.row.P-Name.Denot)). read_in hs c.args.e) (ap (g.H.Holder.holding c.args.holder.now).ends (sym (c.owner-owner.ensures.stands w.control w.stands)))
    ∙ read_is w.names c.args.e ((g.H.Holder.holding c.args.holder.now).ends (owner_of w.control c.args.e)) (g.P.Pipes.known.out_name c.args.writer) has.named here w.settles.pipe in
    c.settle-counts.ensures.counts
    ∙ c.give_for-load.ensures.counts (ap (λ (x : EndCommands). seals_for x c.args.e) commands ∙ ack_seals w.settles.state c.args.e w.settles.may_come) c.args.writer
    (ap (λ (hs : List (Held g.row.P-Name.Denot)). read_in hs c.args.e) c.set_state.ensures.stays.now.ends ∙ reads)
    ∙ c.set_state.ensures.counts c.args.writer reads

pub returns-clause-settles : goal.returns-clause-settles
returns-clause-settles g c = λ w.
    let h = g.H.Holder.holding c.args.holder.now in
    let m = g.H.Holder.holding c.set_state.new.self in
    let k = g.H.Holder.holding c.give_for-load.new.holder in
    let l = g.H.Holder.holding c.settle-counts.new.self in
    let mid = c.end_goes-commands.new.self in
    let stands = c.end_goes-commands.ensures.stands w.control w.stands in
    let told = c.end_goes-commands.ensures.commands w.control w.stands in
    let commands = told ∙ ap (commands_in AckCame) w.settles.there in
    let owner = c.owner-owner.ensures.stands w.control w.stands in
    let has = w.has (owner_of w.control c.args.e) w.settles.lent in
    let here = has_here w.names w.control.rows.pairs w.control.attached w.control.reasons h (owner_of w.control c.args.e) has c.args.e refl
    (ap is_here w.settles.there ∙ comes_here AckCame w.settles.state w.settles.may_come) w.settles.listed in
    let both = turned_told c.owner-owner.result.0 c.args.e h m k (yields c.end_goes-commands.result) c.set_state.ensures.stays c.give_for-load.ensures.turned in
    let turned = subst (λ (n : ℕ). Turned n c.args.e (yields (commands_of (cell AckCame w.settles.state))) h k) (sym owner)
    (subst (λ (x : EndCommands). Turned c.owner-owner.result.0 c.args.e (yields x) h k) commands both) in
    let gone = subst (λ (n : ℕ). Left n c.args.e k l) (sym owner) c.settle-counts.ensures.gone in
    let told_one = told_less (commands_of (cell AckCame w.settles.state)) c.args.e (state_after (cell AckCame w.settles.state) w.settles.state) h k l
    (told_as (commands_of (cell AckCame w.settles.state)) c.args.e (state_after (cell AckCame w.settles.state) w.settles.state) h m k
    (subst (λ (x : EndState). TurnsTo c.args.e x h m) (sym (ack_goes w.settles.state w.settles.may_come)) c.set_state.ensures.turns)
    (λ i. ends_same c.owner-owner.result.0 c.args.e m k (yields c.end_goes-commands.result) c.give_for-load.ensures.turned i)
    (subst (λ (x : EndCommands). SealsFor x c.args.e m k) commands c.give_for-load.ensures.seals))
    (left_had c.owner-owner.result.0 c.args.e k l c.settle-counts.ensures.gone) c.settle-counts.ensures.turns in
    record {
      leads = record {
        stands = subst (λ (x : EndCommands). Stands c.tell_other.new.self (tell_other x c.args.e (stepped AckCame c.args.e w.control))) told
            (c.tell_other.ensures.stands (stepped AckCame c.args.e w.control) stands);
        has = has_settled w.control c.args.e w.settles.state w.settles.there w.settles.within w.settles.may_come w.names h k l turned gone told_one w.has;
        puts = puts_told g.P.Pipes.known.out_name g.P.Pipes.known.in_name w.names c.args.state.now mid c.tell_other.new.self _ c.end_goes-commands.result c.owner-owner.result.0 c.args.e _ c.give_for-load.result m
            (subst (λ (hs : List (Held g.row.P-Name.Denot)). All (HasBothNames w.names) hs) (sym (c.set_state.ensures.stays.now.ends ∙ ap h.ends (sym owner))) has.named)
            c.give_for-load.ensures.given (ap (λ (x : State (Load g.row.P-Name.Denot g.row.P-Out.Denot g.row.P-In.Denot)). x.boxes) c.end_goes-commands.ensures.next)
            (λ t. subst (λ (n : ℕ). 0 < (mail_at c.args.state.now.boxes n).spare) (sym (other_slot c.args.state.now mid w.control AckCame c.args.e w.settles.state w.settles.there w.settles.within stands)) (w.settles.room (ap tells (sym told) ∙ t)))
            c.tell_other.ensures.told c.tell_other.ensures.kept;
        lists = lists_kept c.args.state.now mid w.control AckCame c.args.e w.settles.state w.settles.there w.settles.within stands c.tell_other.new.self c.end_goes-commands.result _ _
            (ap (λ (x : State (Load g.row.P-Name.Denot g.row.P-Out.Denot g.row.P-In.Denot)). x.objects.lists) c.end_goes-commands.ensures.next) c.tell_other.ensures.told c.tell_other.ensures.kept;
        holds = λ i. gone.now.objects i ∙ turned.now.objects i;
        kinds = λ i. gone.now.kinds i ∙ turned.now.kinds i;
        output = λ i. gone.now.output i ∙ turned.now.output i;
        joined = told_one.joined;
        heard = c.settle-counts.ensures.heard ∙ c.give_for-load.ensures.heard ∙ c.set_state.ensures.heard;
        turned = turns_told w.control AckCame c.args.e w.settles.state w.settles.there w.settles.within w.names h l (owner_of w.control c.args.e) has here w.settles.may_come told_one;
      };
      settled = record {
        adds_up = c.settle-counts.ensures.sum;
        read_out = λ none. c.settle-counts.ensures.read_out
            (turned.now.delimiters (owner_of w.control c.args.e) c.args.e
            (ap (has_end c.args.e) turned.now.ends ∙ here)
            (has.delimiters c.args.e here (met_at_ack (place_of w.control c.args.e) (w.control.reasons c.args.e) w.settles.state w.settles.there w.settles.may_come (c.reason_fits.ensures w.control w.stands) none)));
      };
      spare = λ room_of. (let slot = other_slot c.args.state.now mid w.control AckCame c.args.e w.settles.state w.settles.there w.settles.within stands in
          subst (λ (n : ℕ). (mail_at c.args.state.now.boxes room_of).spare ≤ (mail_at c.tell_other.new.self.boxes room_of).spare + cond (tells (commands_in AckCame (place_of w.control c.args.e)) && n == room_of) 1 0) slot
          (subst (λ (x : EndCommands). (mail_at c.args.state.now.boxes room_of).spare ≤ (mail_at c.tell_other.new.self.boxes room_of).spare + cond (tells x && slot_of mid (kept_owner_at mid.pairs (other_end c.args.e)).0 == room_of) 1 0) told
          (told_spare c.args.state.now mid c.tell_other.new.self _ c.end_goes-commands.result _ (ap (λ (x : State (Load g.row.P-Name.Denot g.row.P-Out.Denot g.row.P-In.Denot)). x.boxes) c.end_goes-commands.ensures.next)
          (λ t. subst (λ (n : ℕ). 0 < (mail_at c.args.state.now.boxes n).spare) (sym slot) (w.settles.room (ap tells (sym told) ∙ t))) c.tell_other.ensures.told c.tell_other.ensures.kept room_of)));
    }

pub end_goes-commands-requires-clause-may : goal.end_goes-commands-requires-clause-may
end_goes-commands-requires-clause-may g c =
    let w = c.requires.may in
    (c.needs.ensures w.control w.stands).may_come c.args.e AckCame w.settles.state w.settles.there w.settles.may_come

pub end_goes-commands-requires-clause-unended : goal.end_goes-commands-requires-clause-unended
end_goes-commands-requires-clause-unended g c =
    let w = c.requires.may in
    let owner = c.owner-owner.ensures.stands w.control w.stands ∙ ap (λ (o : ObjId). o.0) c.owner-owner.ensures.owner in
    (c.needs.ensures w.control w.stands).unended (kept_owner_at c.args.state.now.pairs c.args.e) (ap (λ (n : ℕ). has_ended (obj w.control.rows n).stage) (sym owner) ∙ w.settles.unended)

pub end_goes-commands-requires-clause-attached : goal.end_goes-commands-requires-clause-attached
end_goes-commands-requires-clause-attached g c =
    let w = c.requires.may in
    (c.needs.ensures w.control w.stands).ends c.args.e w.settles.within (ap is_here w.settles.there ∙ comes_here AckCame w.settles.state w.settles.may_come)

pub tell_other-requires : goal.tell_other-requires
tell_other-requires g c =
    let w = c.requires.may in
    let mid = c.end_goes-commands.new.self in
    let stands = c.end_goes-commands.ensures.stands w.control w.stands in
    let told = c.end_goes-commands.ensures.commands w.control w.stands in
    record {
      room = λ t.
          subst (λ (b : List (Mail (Command (Load g.row.P-Name.Denot g.row.P-Out.Denot g.row.P-In.Denot)))). 0 < (mail_at b (slot_of mid (kept_owner_at mid.pairs (other_end c.args.e)).0)).spare) (sym (ap (λ (x : State (Load g.row.P-Name.Denot g.row.P-Out.Denot g.row.P-In.Denot)). x.boxes) c.end_goes-commands.ensures.next))
          (subst (λ (n : ℕ). 0 < (mail_at c.args.state.now.boxes n).spare) (sym (other_slot c.args.state.now mid w.control AckCame c.args.e w.settles.state w.settles.there w.settles.within stands)) (w.settles.room (ap tells (sym told) ∙ t)));
    }
