use Rattle.std.proofs.Common.{refl, ◌∙◌}
use Rattle.zq_script.proofs.KnownLemmas.{knows_socket, get_by-after}
use Rattle.zq_script.proofs.known.Known.add_socket.Goals as goal

pub returns-clause-knows : goal.returns-clause-knows
returns-clause-knows c = knows_socket c.args.self.now _ _ _ (c.in_ok-key.ensures.items ∙ c.as_slice.ensures) refl (get_by-after (λ k. k.items) _ c.args.self.now.sockets c.insert.new.self _ c.in_ok-insert.ensures.updates) refl
