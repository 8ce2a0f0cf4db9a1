use Rattle.std.proofs.Common.{◌≡◌, ◌∙◌, ap, sym}
use Rattle.zq_call.specs.Call.{heard_status}
use Rattle.zq_call.proofs.texts.heard_of.Goals.{then-heard, else-heard}
use Rattle.zq_call.proofs.texts.heard_of.Goals as goal

pub returns : goal.returns
returns c =
    let status : c.if-heard.status ≡ heard_status c.in_ok-heard.heard.refused = elim c.if-heard.branch [ then-heard w ↦ w.status-is ∙ ap heard_status (sym w.if-heard.true) | else-heard w ↦ w.status-is ∙ ap heard_status (sym w.if-heard.false) ] in
    rw c.into_vec.ensures (c.in_ok-heard.heard.refused, status, c.in_ok-heard.ensures)
