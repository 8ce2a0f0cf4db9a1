use Rattle.std.proofs.Common.{refl}
use Rattle.zq_script.proofs.KnownLemmas.{knows_closed, get_by-after}
use Rattle.zq_script.proofs.known.Known.forget.Goals as goal

pub returns-clause-knows : goal.returns-clause-knows
returns-clause-knows c = knows_closed c.args.self.now _ _ refl (get_by-after (λ k. k.items) _ c.args.self.now.sockets c.remove.new.self _ c.remove.ensures.updates) refl
