use Rattle.std.proofs.Common.{ap, ◌∙◌}
use Rattle.std.specs.Option.{is_some}
use Rattle.spec_pattern.specs.Wanted.{wants}
use Rattle.sub_table.proofs.ViewLemmas.{lookup-entries_of}
use Rattle.sub_table.proofs.wanted.Wanted.wants.Goals as goal

pub returns-clause-value : goal.returns-clause-value
returns-clause-value c =
    c.contains_key.ensures ∙ ap is_some (lookup-entries_of c.args.topic.now c.self.inside.counts.entries)
    ∙ ap (λ wanted. wants wanted c.args.topic.now) c.self.view_is
