use Rattle.std.proofs.Common.{◌∙◌, ap, sym}
use Rattle.zq_outer.specs.Plan.{Hosted, number_after}
use Rattle.zq_outer.specs.declared.mem_calls.MemCalls.{MemCalls}
use Rattle.zq_outer.specs.declared.plan.CallKind.TheVariants as kind
use Rattle.zq_outer.proofs.MemHostLemmas.{same_call}
use Rattle.zq_outer.proofs.mem_host.MemHostHost.listen.Goals as goal
use Rattle.zq_outer.proofs.mem_host.MemHostHost.listen.Goals.{in-Fails, in_default}

pub returns-clause-planned : goal.returns-clause-planned
returns-clause-planned c = λ listed.
    let same = ap (λ (m : MemCalls). m.fails) c.deref.ensures ∙ ap (λ (h : Hosted). h.fails) c.self.view_is in
    let number = c.saturating_add-self-inside.ensures ∙ ap (λ (h : Hosted). number_after h.listens) c.self.view_is in
    let kept = same_call c.args.self.now.fails c.deref.result.now.fails kind.Listen (number_after c.args.self.now.listens) c.saturating_add-self-inside.result (sym same) (sym number) listed in
    elim c.match-matches.branch [ in-Fails w ↦ absurd (cc (w.matches-is, c.if-matches.false)) | in_default w ↦ absurd (w.in_default.not-Fails (c.planned-planned.ensures.fails.1 kept)) ]
