use Rattle.std.proofs.Common.{◌++◌, ◌∷◌, [], List, ℕ, sym, ap, ◌∙◌, append-nil}
use Rattle.std.specs.Prelude.{flat_map}
use Rattle.zq_call.specs.HearText.{message_text}
use Rattle.zq_call.proofs.TellsLemmas.{message_given, fewer_left, all_given, none_given, all_told, one_more_text}
use Rattle.zq_call.proofs.speech.push_messages.Goals as goal

pub messages-init : goal.messages-init
messages-init c = ([], sym (append-nil c.args.out.now.items), λ t k. none_given t c.args.engine.now k)

pub messages-smaller : goal.messages-smaller
messages-smaller c = fewer_left c.messages.engine c.next_message.new.self c.in-Some.message c.in-Some.ensures.first

pub messages-preserved : goal.messages-preserved
messages-preserved c = (
  c.messages.invariant.0 ++ c.in-Some.message ∷ [],
  one_more_text c.args.out.now.items c.messages.out.items c.push_message.new.out.items c.messages.invariant.0 c.in-Some.message c.messages.invariant.1 c.in_ok-push_message.ensures,
  λ t k. message_given t c.messages.engine c.next_message.new.self c.messages.invariant.0 c.in-Some.message (λ p f. c.in-Some.ensures.some p f) c.next_message.ensures.current (c.messages.invariant.2 t k),
)

pub returns-clause-all : goal.returns-clause-all
returns-clause-all c = λ t k none.
    c.messages.invariant.1 ∙ ap (λ (l : List (List (List ℕ))). c.args.out.now.items ++ flat_map message_text l)
    (sym (all_told t c.messages.engine c.next_message.new.self c.messages.invariant.0 c.in_default.ensures.none none (c.messages.invariant.2 t k)))

pub returns-clause-tells : goal.returns-clause-tells
returns-clause-tells c = λ t k none.
    all_given t c.messages.engine c.next_message.new.self c.messages.invariant.0 c.in_default.ensures.none none (c.messages.invariant.2 t k)
