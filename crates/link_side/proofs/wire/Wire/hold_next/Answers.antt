use Rattle.std.proofs.Common.{[], ◌++◌, Option, refl, sym, ap, subst, ◌∙◌}
use Rattle.std.specs.Prelude.{Some}
use Rattle.std.specs.Option.{option_to_list}
use Rattle.zq_base.specs.Message.{Frames}
use Rattle.zmtp_engine.specs.Conversation.{Conversation, waiting}
use Rattle.link_side.specs.declared.wire.Wire.{Wire}
use Rattle.link_side.specs.Kept.{Acts, whole}
use Rattle.link_side.specs.WireView.{kept}
use Rattle.link_side.proofs.KeptLemmas.{run_held, no_acts}
use Rattle.link_side.proofs.wire.Wire.hold_next.Goals as goal

pub returns-in-Some-next_message-clause-run : goal.returns-in-Some-next_message-clause-run
returns-in-Some-next_message-clause-run c = λ opts acts r.
    let old : Wire = c.args.self.now in
    let m = c.in-Some-next_message.message in
    run_held opts acts m (kept old) (kept (record old { engine = c.next_message.new.self; held = Some m })) refl c.in-None.is refl refl c.in-Some-next_message.ensures.some r

pub returns-in-Some-next_message-clause-keeps : goal.returns-in-Some-next_message-clause-keeps
returns-in-Some-next_message-clause-keeps c =
    let old : Wire = c.args.self.now in
    (sym (ap (λ (o : Option Frames). option_to_list o ++ waiting old.engine) c.in-None.is ∙ c.in-Some-next_message.ensures.first), refl)

pub returns-in-None-next_message-clause-run : goal.returns-in-None-next_message-clause-run
returns-in-None-next_message-clause-run c =
    let old : Wire = c.args.self.now in
    subst (λ (e : Conversation). Acts (kept old) [] (kept (record old { engine = e }))) (sym c.in-None-next_message.ensures.none.0) (no_acts (kept old))

pub returns-in-None-next_message-clause-keeps : goal.returns-in-None-next_message-clause-keeps
returns-in-None-next_message-clause-keeps c =
    let old : Wire = c.args.self.now in
    (ap (λ (e : Conversation). whole (kept (record old { engine = e }))) c.in-None-next_message.ensures.none.0, refl)
