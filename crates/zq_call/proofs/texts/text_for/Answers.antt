use Rattle.std.proofs.Common.{Some, Err, map, string_bytes, refl, ap, ◌∙◌}
use Rattle.zq_call.proofs.Asked.{asked_short}
use Rattle.zq_call.proofs.texts.text_for.Goals as goal

pub read_and_hear-requires : goal.read_and_hear-requires
read_and_hear-requires g c = record { login = asked_short (map string_bytes c.args.words.now) c.in-Ok-Hear.kind c.in-Ok-Hear.login (c.in-Ok-Hear.ensures.ok ∙ ap Some c.in-Ok-Hear.field-0-is) }

pub returns-in-Err-Usage-clause-says : goal.returns-in-Err-Usage-clause-says
returns-in-Err-Usage-clause-says g c = rw c.in_ok-said-in-Err-Usage.ensures.0 (c.in-Err-Usage.ensures.usage (ap Err c.in-Err-Usage.field-0-is), refl, c.in_ok-said-in-Err-Usage.ensures.1)

pub returns-in-Ok-Hear-clause-says : goal.returns-in-Ok-Hear-clause-says
returns-in-Ok-Hear-clause-says g c =
    c.in_ok-said-in-Ok-Hear.ensures (map string_bytes c.args.words.now) (g.C.Clock.at c.args.clock.now) (c.in-Ok-Hear.ensures.ok ∙ ap Some c.in-Ok-Hear.field-0-is)
