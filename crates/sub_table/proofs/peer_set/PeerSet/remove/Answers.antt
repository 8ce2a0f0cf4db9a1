use Rattle.std.proofs.Common.{ap, ◌∙◌, ◌&&◌, not, nat_eq}
use Rattle.sub_table.specs.View.{is_peer}
use Rattle.sub_table.proofs.SetLemmas.{is_peer-removed}
use Rattle.sub_table.proofs.peer_set.PeerSet.remove.Goals as goal

pub returns : goal.returns
returns c = λ q.
    is_peer-removed c.args.peer _ _ q (c.remove.ensures.updates.0 q)
    ∙ ap (λ peers. not (nat_eq c.args.peer q) && is_peer peers q) c.self.view_is
