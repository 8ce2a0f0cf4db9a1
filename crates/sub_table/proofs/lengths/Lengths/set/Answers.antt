use Rattle.std.proofs.Common.{ap, sym, ◌∙◌, Some, cond, nat_eq}
use Rattle.std.specs.Option.{is_some}
use Rattle.sub_table.specs.Lengths.{number_of}
use Rattle.sub_table.proofs.LengthLemmas.{number_of-updated}
use Rattle.sub_table.proofs.lengths.Lengths.set.Goals as goal

pub returns-in-Some : goal.returns-in-Some
returns-in-Some c = λ n.
    number_of-updated c.args.length c.self.inside.counts (c.get_mut.follows.lender c.args.count) (Some c.args.count)
    ((c.get_mut.follows.holds c.args.count).3 (ap is_some (sym c.in-Some.ensures.value))) n
    ∙ ap (λ counts. cond (nat_eq c.args.length n) c.args.count (number_of counts n)) c.self.view_is
