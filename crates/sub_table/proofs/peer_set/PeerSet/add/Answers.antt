use Rattle.std.proofs.Common.{ap, ◌∙◌, ◌||◌, nat_eq}
use Rattle.sub_table.specs.View.{is_peer}
use Rattle.sub_table.proofs.SetLemmas.{is_peer-added}
use Rattle.sub_table.proofs.peer_set.PeerSet.add.Goals as goal

pub returns-clause-ok : goal.returns-clause-ok
returns-clause-ok c = λ q.
    is_peer-added c.args.peer _ _ q (c.in_ok-insert.ensures.updates.0 q)
    ∙ ap (λ peers. nat_eq c.args.peer q || is_peer peers q) c.self.view_is
