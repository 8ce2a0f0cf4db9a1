use Rattle.std.specs.Prelude.{◌≡◌, ◌+◌}
use Rattle.std.proofs.Common.{arith, sym, ◌∙◌}
use Rattle.sock_calls.specs.Calls.{owner_of}
use Rattle.plain_core.proofs.LetterLemmas.{slot_viewed}
use Rattle.plain_core.proofs.context.OneCore.mailbox.Goals as goal

pub returns : goal.returns
returns g c =
    let number = c.number_in.ensures in
    let more : c.number_in.result.0 + 1 ≡ 1 + owner_of c.args.socket.now = omega (arith, number) in
    more ∙ sym (slot_viewed (1 + owner_of c.args.socket.now) c.args.socket.now)
