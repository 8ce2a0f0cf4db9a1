use Rattle.std.proofs.Common.{ap, subst, sym, ◌∙◌, None, nat_eq}
use Rattle.spec_pattern.specs.Topics.{AreInOrder, topics_of}
use Rattle.sub_table.proofs.RowLemmas.{topics_of-found}
use Rattle.sub_table.proofs.ViewLemmas.{none_in_order}
use Rattle.sub_table.proofs.topics.Topics.count.Goals as goal

pub returns-in-None-clause-order : goal.returns-in-None-clause-order
returns-in-None-clause-order c =
    subst AreInOrder
    (sym (topics_of-found c.args.peer c.self.inside.peers.entries None c.in-None.ensures.value) ∙ ap (λ subs. topics_of nat_eq subs c.args.peer) c.self.view_is)
    none_in_order
