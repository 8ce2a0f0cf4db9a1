use Rattle.std.proofs.Common.{◌≡◌, ap, sym, subst, ◌∙◌, None, arith}
use Rattle.sub_table.specs.Lengths.{OneLess, number_of}
use Rattle.sub_table.proofs.LengthLemmas.{number_of-updated, OneLess-set}
use Rattle.sub_table.proofs.lengths.Lengths.remove.Goals as goal

pub returns-else-count-gt1 : goal.returns-else-count-gt1
returns-else-count-gt1 c =
    let is : c.number-count.result ≡ number_of c.self.inside.counts.entries c.args.length = c.number-count.ensures ∙ sym (ap (λ counts. number_of counts c.args.length) c.self.view_is) in
    subst (λ old. OneLess c.args.length old c.remove.new.self.entries) c.self.view_is
    (OneLess-set c.args.length 0 c.self.inside.counts.entries c.remove.new.self.entries
    (number_of-updated c.args.length c.self.inside.counts c.remove.new.self None c.remove.ensures.updates)
    (omega (arith, is, c.if-count-gt1.false)))
