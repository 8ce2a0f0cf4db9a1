use Rattle.std.proofs.Common.{◌≡◌, ◌+◌, ap, sym, subst, ◌∙◌, Some, arith}
use Rattle.sub_table.specs.Lengths.{OneMore, number_of}
use Rattle.sub_table.proofs.LengthLemmas.{number_of-updated, OneMore-set}
use Rattle.sub_table.proofs.lengths.Lengths.add.Goals as goal

pub returns-clause-ok : goal.returns-clause-ok
returns-clause-ok c =
    let is : c.number-count.result ≡ number_of c.self.inside.counts.entries c.args.length = c.number-count.ensures ∙ sym (ap (λ counts. number_of counts c.args.length) c.self.view_is) in
    subst (λ old. OneMore c.args.length old c.insert.new.self.entries) c.self.view_is
    (OneMore-set c.args.length (c.number-count.result + 1) c.self.inside.counts.entries c.insert.new.self.entries
    (number_of-updated c.args.length c.self.inside.counts c.insert.new.self (Some (c.number-count.result + 1)) c.in_ok-insert.ensures.updates)
    (omega (arith, is)))
