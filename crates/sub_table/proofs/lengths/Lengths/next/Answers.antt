use Rattle.std.proofs.Common.{◌∙◌, ap, sym, subst, rules, None}
use Rattle.std.specs.BTreeMap.Range.{IsLeBy}
use Rattle.std.specs.List.{slice_get}
use Rattle.std.specs.Option.{IfSome}
use Rattle.std.specs.Ordering.{nat_cmp}
use Rattle.sub_table.specs.Lengths.{number_of}
use Rattle.sub_table.proofs.LengthLemmas.{not_past, none_below, number_of-found}
use Rattle.sub_table.proofs.lengths.Lengths.next.Goals as goal

pub returns-in-Some-clause-some : goal.returns-in-Some-clause-some
returns-in-Some-clause-some c =
    let range = c.range.ensures.in_range tt in (
      search rules,
      λ n l h.
          sym (ap (λ counts. number_of counts n) c.self.view_is)
          ∙ none_below c.self.inside.counts n c.in-Some.length.now
          (λ there. subst (λ r. IfSome (slice_get r 0) (λ e. IsLeBy nat_cmp e.0 n)) c.in-Some.ensures.steps (range.2 n (not_past c.args.from n l, tt) there)) h,
    )

pub returns-in-None-clause-none : goal.returns-in-None-clause-none
returns-in-None-clause-none c = λ n l.
    sym (ap (λ counts. number_of counts n) c.self.view_is)
    ∙ sym (number_of-found n c.self.inside.counts.entries None (sym ((c.range.ensures.in_range tt).5 c.in-None.ensures.steps.0 n (not_past c.args.from n l, tt))))
