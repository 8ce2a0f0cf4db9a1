use Rattle.std.proofs.Common.{ap, ◌∙◌}
use Rattle.std.specs.Prelude.{reverse}
use Rattle.zq_script.proofs.GroupLemmas.{groups_actor}
use Rattle.zq_script.proofs.group.begin.Goals as goal

pub returns : goal.returns
returns c = λ rest h. groups_actor c.args.group.now _ rest _ _
    c.in_ok-push.ensures.items
    (c.of_vec-lines.ensures ∙ c.reverse.ensures.items ∙ ap (λ v. reverse v.items) c.replace-lines.ensures.value) (ap (λ v. v.items) c.replace-lines.ensures.after ∙ c.new.ensures.items) h
