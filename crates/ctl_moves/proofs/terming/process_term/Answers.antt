use Rattle.std.specs.Prelude.{Bool, not}
use Rattle.std.proofs.Common.{ap, sym, subst, ◌∙◌}
use Rattle.spec_control.specs.declared.letter.Word.TheVariants.{Term}
use Rattle.spec_control.specs.Control.{try_end}
use Rattle.control_laws.proofs.ListLemmas.{right}
use Rattle.desk.specs.Heard.{heard_by}
use Rattle.desk.specs.Holding.{HearsMore}
use Rattle.ctl_moves.specs.Terming.{children_told, Turns}
use Rattle.desk.specs.declared.load.Load.{Load}
use Rattle.ctl_state.specs.declared.state.State.{State}
use Rattle.ctl_moves.proofs.TermLemmas.{asks_its_ends, asked_leads, asked_puts, asked_unended, asked_room, told_unended, ack_room, ends_with_none, term_heard, termed}
use Rattle.ctl_moves.proofs.terming.process_term.Goals as goal

pub ask_ends-requires : goal.ask_ends-requires
ask_ends-requires g c =
    let w = c.requires.may in
    record { may = asks_its_ends g.P.Pipes.known.out_name g.P.Pipes.known.in_name c.args.state.now (g.H.Holder.holding c.args.holder.now) c.args.at w c.drop_names.new.self (c.drop_names.ensures.stands _ (c.term_comes.ensures.stands w.control w.stands)) (ap (λ (x : State (Load g.row.P-Name.Denot g.row.P-Out.Denot g.row.P-In.Denot)). x.boxes) c.drop_names.ensures.rest ∙ ap (λ (x : State (Load g.row.P-Name.Denot g.row.P-Out.Denot g.row.P-In.Denot)). x.boxes) c.term_comes.ensures.next) }

pub tell_children-requires-clause-unended : goal.tell_children-requires-clause-unended
tell_children-requires-clause-unended g c =
    let w = c.requires.may in
    let asked = asked_leads g.P.Pipes.known.out_name g.P.Pipes.known.in_name c.args.state.now (g.H.Holder.holding c.args.holder.now) c.args.at w c.drop_names.new.self c.ask_ends.new.state (g.H.Holder.holding c.ask_ends.new.holder) _ _ (c.term_reason-reason.ensures w.control w.stands) (c.reads_on-delay.ensures w.control w.stands)
    (c.ask_ends.ensures (asks_its_ends g.P.Pipes.known.out_name g.P.Pipes.known.in_name c.args.state.now (g.H.Holder.holding c.args.holder.now) c.args.at w c.drop_names.new.self (c.drop_names.ensures.stands _ (c.term_comes.ensures.stands w.control w.stands)) (ap (λ (x : State (Load g.row.P-Name.Denot g.row.P-Out.Denot g.row.P-In.Denot)). x.boxes) c.drop_names.ensures.rest ∙ ap (λ (x : State (Load g.row.P-Name.Denot g.row.P-Out.Denot g.row.P-In.Denot)). x.boxes) c.term_comes.ensures.next))) in
    asked_unended g.P.Pipes.known.out_name g.P.Pipes.known.in_name c.args.state.now (g.H.Holder.holding c.args.holder.now) c.args.at w c.ask_ends.new.state (g.H.Holder.holding c.ask_ends.new.holder) (asked_puts g.P.Pipes.known.out_name g.P.Pipes.known.in_name c.args.state.now (g.H.Holder.holding c.args.holder.now) c.args.at w c.drop_names.new.self c.ask_ends.new.state (ap (λ (x : State (Load g.row.P-Name.Denot g.row.P-Out.Denot g.row.P-In.Denot)). x.boxes) c.drop_names.ensures.rest ∙ ap (λ (x : State (Load g.row.P-Name.Denot g.row.P-Out.Denot g.row.P-In.Denot)). x.boxes) c.term_comes.ensures.next) asked.puts) asked.stands (c.needs.ensures _ asked.stands)

pub tell_children-requires-clause-room : goal.tell_children-requires-clause-room
tell_children-requires-clause-room g c =
    let w = c.requires.may in
    let asked = asked_leads g.P.Pipes.known.out_name g.P.Pipes.known.in_name c.args.state.now (g.H.Holder.holding c.args.holder.now) c.args.at w c.drop_names.new.self c.ask_ends.new.state (g.H.Holder.holding c.ask_ends.new.holder) _ _ (c.term_reason-reason.ensures w.control w.stands) (c.reads_on-delay.ensures w.control w.stands)
    (c.ask_ends.ensures (asks_its_ends g.P.Pipes.known.out_name g.P.Pipes.known.in_name c.args.state.now (g.H.Holder.holding c.args.holder.now) c.args.at w c.drop_names.new.self (c.drop_names.ensures.stands _ (c.term_comes.ensures.stands w.control w.stands)) (ap (λ (x : State (Load g.row.P-Name.Denot g.row.P-Out.Denot g.row.P-In.Denot)). x.boxes) c.drop_names.ensures.rest ∙ ap (λ (x : State (Load g.row.P-Name.Denot g.row.P-Out.Denot g.row.P-In.Denot)). x.boxes) c.term_comes.ensures.next))) in
    asked_room g.P.Pipes.known.out_name g.P.Pipes.known.in_name c.args.state.now (g.H.Holder.holding c.args.holder.now) c.args.at w c.ask_ends.new.state (g.H.Holder.holding c.ask_ends.new.holder) (asked_puts g.P.Pipes.known.out_name g.P.Pipes.known.in_name c.args.state.now (g.H.Holder.holding c.args.holder.now) c.args.at w c.drop_names.new.self c.ask_ends.new.state (ap (λ (x : State (Load g.row.P-Name.Denot g.row.P-Out.Denot g.row.P-In.Denot)). x.boxes) c.drop_names.ensures.rest ∙ ap (λ (x : State (Load g.row.P-Name.Denot g.row.P-Out.Denot g.row.P-In.Denot)). x.boxes) c.term_comes.ensures.next) asked.puts) asked.stands (c.needs.ensures _ asked.stands)

pub try_end-ended-requires-clause-unended : goal.try_end-ended-requires-clause-unended
try_end-ended-requires-clause-unended g c =
    let w = c.requires.may in
    let asked = asked_leads g.P.Pipes.known.out_name g.P.Pipes.known.in_name c.args.state.now (g.H.Holder.holding c.args.holder.now) c.args.at w c.drop_names.new.self c.ask_ends.new.state (g.H.Holder.holding c.ask_ends.new.holder) _ _ (c.term_reason-reason.ensures w.control w.stands) (c.reads_on-delay.ensures w.control w.stands)
    (c.ask_ends.ensures (asks_its_ends g.P.Pipes.known.out_name g.P.Pipes.known.in_name c.args.state.now (g.H.Holder.holding c.args.holder.now) c.args.at w c.drop_names.new.self (c.drop_names.ensures.stands _ (c.term_comes.ensures.stands w.control w.stands)) (ap (λ (x : State (Load g.row.P-Name.Denot g.row.P-Out.Denot g.row.P-In.Denot)). x.boxes) c.drop_names.ensures.rest ∙ ap (λ (x : State (Load g.row.P-Name.Denot g.row.P-Out.Denot g.row.P-In.Denot)). x.boxes) c.term_comes.ensures.next))) in
    let told = c.tell_children.ensures.stands _ asked.stands in
    told_unended g.P.Pipes.known.out_name g.P.Pipes.known.in_name c.args.state.now (g.H.Holder.holding c.args.holder.now) c.args.at w c.ask_ends.new.state (g.H.Holder.holding c.ask_ends.new.holder) (asked_puts g.P.Pipes.known.out_name g.P.Pipes.known.in_name c.args.state.now (g.H.Holder.holding c.args.holder.now) c.args.at w c.drop_names.new.self c.ask_ends.new.state (ap (λ (x : State (Load g.row.P-Name.Denot g.row.P-Out.Denot g.row.P-In.Denot)). x.boxes) c.drop_names.ensures.rest ∙ ap (λ (x : State (Load g.row.P-Name.Denot g.row.P-Out.Denot g.row.P-In.Denot)). x.boxes) c.term_comes.ensures.next) asked.puts) asked.stands c.tell_children.new.self c.tell_children.ensures.only told (c.needs-2.ensures _ told)

pub try_end-ended-requires-clause-room : goal.try_end-ended-requires-clause-room
try_end-ended-requires-clause-room g c =
    let w = c.requires.may in
    let asked = asked_leads g.P.Pipes.known.out_name g.P.Pipes.known.in_name c.args.state.now (g.H.Holder.holding c.args.holder.now) c.args.at w c.drop_names.new.self c.ask_ends.new.state (g.H.Holder.holding c.ask_ends.new.holder) _ _ (c.term_reason-reason.ensures w.control w.stands) (c.reads_on-delay.ensures w.control w.stands)
    (c.ask_ends.ensures (asks_its_ends g.P.Pipes.known.out_name g.P.Pipes.known.in_name c.args.state.now (g.H.Holder.holding c.args.holder.now) c.args.at w c.drop_names.new.self (c.drop_names.ensures.stands _ (c.term_comes.ensures.stands w.control w.stands)) (ap (λ (x : State (Load g.row.P-Name.Denot g.row.P-Out.Denot g.row.P-In.Denot)). x.boxes) c.drop_names.ensures.rest ∙ ap (λ (x : State (Load g.row.P-Name.Denot g.row.P-Out.Denot g.row.P-In.Denot)). x.boxes) c.term_comes.ensures.next))) in
    let told = c.tell_children.ensures.stands _ asked.stands in
    ack_room g.P.Pipes.known.out_name g.P.Pipes.known.in_name c.args.state.now (g.H.Holder.holding c.args.holder.now) c.args.at w c.ask_ends.new.state (g.H.Holder.holding c.ask_ends.new.holder) (asked_puts g.P.Pipes.known.out_name g.P.Pipes.known.in_name c.args.state.now (g.H.Holder.holding c.args.holder.now) c.args.at w c.drop_names.new.self c.ask_ends.new.state (ap (λ (x : State (Load g.row.P-Name.Denot g.row.P-Out.Denot g.row.P-In.Denot)). x.boxes) c.drop_names.ensures.rest ∙ ap (λ (x : State (Load g.row.P-Name.Denot g.row.P-Out.Denot g.row.P-In.Denot)). x.boxes) c.term_comes.ensures.next) asked.puts) asked.stands c.tell_children.new.self c.tell_children.ensures.only told

pub tell_holder-requires : goal.tell_holder-requires
tell_holder-requires g c =
    let w = c.requires.may in
    let asked = asked_leads g.P.Pipes.known.out_name g.P.Pipes.known.in_name c.args.state.now (g.H.Holder.holding c.args.holder.now) c.args.at w c.drop_names.new.self c.ask_ends.new.state (g.H.Holder.holding c.ask_ends.new.holder) _ _ (c.term_reason-reason.ensures w.control w.stands) (c.reads_on-delay.ensures w.control w.stands)
    (c.ask_ends.ensures (asks_its_ends g.P.Pipes.known.out_name g.P.Pipes.known.in_name c.args.state.now (g.H.Holder.holding c.args.holder.now) c.args.at w c.drop_names.new.self (c.drop_names.ensures.stands _ (c.term_comes.ensures.stands w.control w.stands)) (ap (λ (x : State (Load g.row.P-Name.Denot g.row.P-Out.Denot g.row.P-In.Denot)). x.boxes) c.drop_names.ensures.rest ∙ ap (λ (x : State (Load g.row.P-Name.Denot g.row.P-Out.Denot g.row.P-In.Denot)). x.boxes) c.term_comes.ensures.next))) in
    let told = c.tell_children.ensures.stands _ asked.stands in
    record {
      none = λ ended above.
          ends_with_none g.P.Pipes.known.out_name g.P.Pipes.known.in_name c.args.state.now (g.H.Holder.holding c.args.holder.now) c.args.at w c.ask_ends.new.state (g.H.Holder.holding c.ask_ends.new.holder) (asked_puts g.P.Pipes.known.out_name g.P.Pipes.known.in_name c.args.state.now (g.H.Holder.holding c.args.holder.now) c.args.at w c.drop_names.new.self c.ask_ends.new.state (ap (λ (x : State (Load g.row.P-Name.Denot g.row.P-Out.Denot g.row.P-In.Denot)). x.boxes) c.drop_names.ensures.rest ∙ ap (λ (x : State (Load g.row.P-Name.Denot g.row.P-Out.Denot g.row.P-In.Denot)). x.boxes) c.term_comes.ensures.next) asked.puts) asked.stands c.tell_children.new.self c.tell_children.ensures.only told asked.has (λ up. asked.holds c.args.at.0 ∙ w.lent up)
          (right (not c.has_left-left.result) _ (sym (c.try_end-ended.ensures.answer _ told) ∙ ended)) above;
    }

pub returns-clause-terms : goal.returns-clause-terms
returns-clause-terms g c = λ w.
    let asked = asked_leads g.P.Pipes.known.out_name g.P.Pipes.known.in_name c.args.state.now (g.H.Holder.holding c.args.holder.now) c.args.at w c.drop_names.new.self c.ask_ends.new.state (g.H.Holder.holding c.ask_ends.new.holder) _ _ (c.term_reason-reason.ensures w.control w.stands) (c.reads_on-delay.ensures w.control w.stands)
    (c.ask_ends.ensures (asks_its_ends g.P.Pipes.known.out_name g.P.Pipes.known.in_name c.args.state.now (g.H.Holder.holding c.args.holder.now) c.args.at w c.drop_names.new.self (c.drop_names.ensures.stands _ (c.term_comes.ensures.stands w.control w.stands)) (ap (λ (x : State (Load g.row.P-Name.Denot g.row.P-Out.Denot g.row.P-In.Denot)). x.boxes) c.drop_names.ensures.rest ∙ ap (λ (x : State (Load g.row.P-Name.Denot g.row.P-Out.Denot g.row.P-In.Denot)). x.boxes) c.term_comes.ensures.next))) in
    let told = c.tell_children.ensures.stands _ asked.stands in
    subst (λ (b : Bool). Turns g.P.Pipes.known.out_name g.P.Pipes.known.in_name w.names w.control (try_end c.args.at.0 b (children_told c.args.at.0 w.control)) c.args.state.now c.try_end-ended.new.self (g.H.Holder.holding c.args.holder.now) (g.H.Holder.holding c.tell_holder.new.holder)) (c.has_left-left.ensures w.control w.stands)
    (termed g.P.Pipes.known.out_name g.P.Pipes.known.in_name c.args.state.now (g.H.Holder.holding c.args.holder.now) c.args.at w c.ask_ends.new.state (g.H.Holder.holding c.ask_ends.new.holder) (asked_puts g.P.Pipes.known.out_name g.P.Pipes.known.in_name c.args.state.now (g.H.Holder.holding c.args.holder.now) c.args.at w c.drop_names.new.self c.ask_ends.new.state (ap (λ (x : State (Load g.row.P-Name.Denot g.row.P-Out.Denot g.row.P-In.Denot)). x.boxes) c.drop_names.ensures.rest ∙ ap (λ (x : State (Load g.row.P-Name.Denot g.row.P-Out.Denot g.row.P-In.Denot)). x.boxes) c.term_comes.ensures.next) asked.puts) asked.stands c.tell_children.new.self c.tell_children.ensures.only told c.has_left-left.result c.try_end-ended.new.self (g.H.Holder.holding c.tell_holder.new.holder) asked.has
    (λ up. asked.holds c.args.at.0 ∙ w.lent up) (asked.lists ∙ (ap (λ (x : State (Load g.row.P-Name.Denot g.row.P-Out.Denot g.row.P-In.Denot)). x.objects.lists) c.drop_names.ensures.rest ∙ ap (λ (x : State (Load g.row.P-Name.Denot g.row.P-Out.Denot g.row.P-In.Denot)). x.objects.lists) c.term_comes.ensures.next)) c.try_end-ended.ensures.only (c.try_end-ended.ensures.stands _ told) c.tell_holder.ensures.told c.tell_holder.ensures.root
    c.try_end-ended.result c.tell_holder.ensures.kept (λ is. sym (c.try_end-ended.ensures.answer _ told) ∙ is) asked.joined asked.holds asked.kinds asked.turned)

pub returns-clause-heard : goal.returns-clause-heard
returns-clause-heard g c = λ w.
    let asked = asked_leads g.P.Pipes.known.out_name g.P.Pipes.known.in_name c.args.state.now (g.H.Holder.holding c.args.holder.now) c.args.at w c.drop_names.new.self c.ask_ends.new.state (g.H.Holder.holding c.ask_ends.new.holder) _ _ (c.term_reason-reason.ensures w.control w.stands) (c.reads_on-delay.ensures w.control w.stands)
    (c.ask_ends.ensures (asks_its_ends g.P.Pipes.known.out_name g.P.Pipes.known.in_name c.args.state.now (g.H.Holder.holding c.args.holder.now) c.args.at w c.drop_names.new.self (c.drop_names.ensures.stands _ (c.term_comes.ensures.stands w.control w.stands)) (ap (λ (x : State (Load g.row.P-Name.Denot g.row.P-Out.Denot g.row.P-In.Denot)). x.boxes) c.drop_names.ensures.rest ∙ ap (λ (x : State (Load g.row.P-Name.Denot g.row.P-Out.Denot g.row.P-In.Denot)). x.boxes) c.term_comes.ensures.next))) in
    let told = c.tell_children.ensures.stands _ asked.stands in
    subst (λ (b : Bool). HearsMore (heard_by c.args.at Term w.control (try_end c.args.at.0 b (children_told c.args.at.0 w.control))) (g.H.Holder.holding c.args.holder.now) (g.H.Holder.holding c.tell_holder.new.holder)) (c.has_left-left.ensures w.control w.stands)
    (term_heard g.P.Pipes.known.out_name g.P.Pipes.known.in_name c.args.state.now (g.H.Holder.holding c.args.holder.now) c.args.at w c.ask_ends.new.state (g.H.Holder.holding c.ask_ends.new.holder) (asked_puts g.P.Pipes.known.out_name g.P.Pipes.known.in_name c.args.state.now (g.H.Holder.holding c.args.holder.now) c.args.at w c.drop_names.new.self c.ask_ends.new.state (ap (λ (x : State (Load g.row.P-Name.Denot g.row.P-Out.Denot g.row.P-In.Denot)). x.boxes) c.drop_names.ensures.rest ∙ ap (λ (x : State (Load g.row.P-Name.Denot g.row.P-Out.Denot g.row.P-In.Denot)). x.boxes) c.term_comes.ensures.next) asked.puts) asked.stands c.tell_children.new.self c.tell_children.ensures.only told c.has_left-left.result (g.H.Holder.holding c.tell_holder.new.holder) c.try_end-ended.result (c.try_end-ended.ensures.answer _ told) asked.heard c.tell_holder.ensures.heard)
