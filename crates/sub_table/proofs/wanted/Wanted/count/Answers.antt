use Rattle.std.proofs.Common.{ap, ◌∙◌}
use Rattle.std.specs.Map.{lookup}
use Rattle.std.specs.Str.{bytes_eq}
use Rattle.sub_table.proofs.ViewLemmas.{lookup-entries_of}
use Rattle.sub_table.proofs.wanted.Wanted.count.Goals as goal

pub returns : goal.returns
returns c =
    c.copied.ensures ∙ c.get.ensures.value
    ∙ lookup-entries_of c.args.topic.now c.self.inside.counts.entries
    ∙ ap (lookup (bytes_eq c.args.topic.now)) c.self.view_is
