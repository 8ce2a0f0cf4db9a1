use Rattle.std.proofs.Common.{subst}
use mathlib.Core.Bool.{beq}
use Rattle.sub_table.specs.Telling.{ToldState, IsStale}
use Rattle.sub_table.proofs.TellLemmas.{IsStale-by}
use Rattle.sub_table.proofs.told.Told.is_first_stale.Goals as goal

pub returns-in-Some : goal.returns-in-Some
returns-in-Some c =
    let inside : ToldState = record { told = c.self.inside.topics; suspects = c.self.inside.suspects; lost = c.self.inside.lost } in
    subst (λ (s : ToldState). IsStale c.args.wanted.now s (beq c.has.result c.wants.result)) c.self.view_is
    (IsStale-by c.has.result c.wants.result c.args.wanted.now inside c.in-Some.topic.now c.in-Some.ensures.first.0 c.in-Some.ensures.first.1
    c.has.ensures.order c.wants.ensures.order c.has.ensures.value c.wants.ensures.value)
