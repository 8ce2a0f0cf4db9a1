use Rattle.link_side.specs.WireView.{kept}
use Rattle.link_side.proofs.SilentLemmas.{heard_none, heard_some}
use Rattle.link_side.proofs.wire.Wire.heard.Goals as goal

pub returns-in-None : goal.returns-in-None
returns-in-None c = λ rest. heard_none (kept c.args.self.now) c.saturating_add-seen.result c.waiting.result rest.fed rest.current c.in-None.is c.waiting.ensures.many c.saturating_add-seen.ensures

pub returns-in-Some : goal.returns-in-Some
returns-in-Some c = λ rest. heard_some (kept c.args.self.now) c.in-Some.field-0 c.saturating_add-seen.result c.saturating_add.result c.waiting.result rest.fed rest.current c.in-Some.is c.waiting.ensures.many c.saturating_add-seen.ensures c.saturating_add.ensures
