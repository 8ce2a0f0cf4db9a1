use Rattle.std.proofs.Common.{◌≡◌, ◌∙◌, length, ap, sym, []}
use Rattle.std.specs.Option.{unwrap_or}
use Rattle.spec_pattern.specs.Topics.{Topic}
use Rattle.sub_table.specs.Lengths.{number_of}
use Rattle.sub_table.specs.View.{entries_of, holders_of}
use Rattle.sub_table.proofs.CountLemmas.{not_found, if_some, if_none}
use Rattle.sub_table.proofs.holders.Holders.next_length.Goals as goal

pub returns-clause-some : goal.returns-clause-some
returns-clause-some c =
    let none : (t : Topic) → number_of c.self.inside.lengths (length t) ≡ 0 → holders_of c.args.self.now t ≡ [] =
    λ t h. sym (ap (λ held. holders_of held t) c.self.view_is)
    ∙ ap (λ o. unwrap_or o []) (not_found (entries_of c.self.inside.by_topic.entries) c.self.inside.lengths c.self.invariant t h) in
    if_some c.next.result (λ n found. (found.0, λ t l h. none t (found.1 (length t) l h))) c.next.ensures.some

pub returns-clause-none : goal.returns-clause-none
returns-clause-none c =
    if_none c.next.result (λ found t l. sym (ap (λ held. holders_of held t) c.self.view_is)
    ∙ ap (λ o. unwrap_or o []) (not_found (entries_of c.self.inside.by_topic.entries) c.self.inside.lengths c.self.invariant t (found (length t) l))) c.next.ensures.none
