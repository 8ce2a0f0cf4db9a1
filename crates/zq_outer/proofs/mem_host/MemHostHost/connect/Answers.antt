use Rattle.std.proofs.Common.{◌∙◌, refl, ap, sym}
use Rattle.zq_outer.specs.Plan.{Hosted, number_after}
use Rattle.zq_outer.specs.declared.mem_calls.MemCalls.{MemCalls}
use Rattle.zq_outer.specs.declared.plan.CallKind.TheVariants as kind
use Rattle.zq_outer.proofs.MemHostLemmas.{by_plan}
use Rattle.zq_outer.proofs.mem_host.MemHostHost.connect.Goals as goal

pub returns-in-Goes-clause-planned : goal.returns-in-Goes-clause-planned
returns-in-Goes-clause-planned c =
    by_plan c.args.self.now c.deref.result.now.fails c.deref.result.now.stalls kind.Connect c.args.self.now.connects c.saturating_add-self-inside.result
    (ap (λ (m : MemCalls). m.fails) c.deref.ensures ∙ ap (λ (h : Hosted). h.fails) c.self.view_is)
    (ap (λ (m : MemCalls). m.stalls) c.deref.ensures ∙ ap (λ (h : Hosted). h.stalls) c.self.view_is)
    (c.saturating_add-self-inside.ensures ∙ ap (λ (h : Hosted). number_after h.connects) c.self.view_is)
    (λ listed. absurd ((c.in-Goes.ensures.goes refl).0 listed)) (λ listed. absurd ((c.in-Goes.ensures.goes refl).1 listed.1))

pub returns-in-Stalls-clause-planned : goal.returns-in-Stalls-clause-planned
returns-in-Stalls-clause-planned c =
    by_plan c.args.self.now c.deref.result.now.fails c.deref.result.now.stalls kind.Connect c.args.self.now.connects c.saturating_add-self-inside.result
    (ap (λ (m : MemCalls). m.fails) c.deref.ensures ∙ ap (λ (h : Hosted). h.fails) c.self.view_is)
    (ap (λ (m : MemCalls). m.stalls) c.deref.ensures ∙ ap (λ (h : Hosted). h.stalls) c.self.view_is)
    (c.saturating_add-self-inside.ensures ∙ ap (λ (h : Hosted). number_after h.connects) c.self.view_is)
    (λ listed. absurd ((c.in-Stalls.ensures.stalls.0 refl).0 listed)) (λ _. c.stall.ensures.answer)

pub returns-in-Fails-clause-planned : goal.returns-in-Fails-clause-planned
returns-in-Fails-clause-planned c =
    by_plan c.args.self.now c.deref.result.now.fails c.deref.result.now.stalls kind.Connect c.args.self.now.connects c.saturating_add-self-inside.result
    (ap (λ (m : MemCalls). m.fails) c.deref.ensures ∙ ap (λ (h : Hosted). h.fails) c.self.view_is)
    (ap (λ (m : MemCalls). m.stalls) c.deref.ensures ∙ ap (λ (h : Hosted). h.stalls) c.self.view_is)
    (c.saturating_add-self-inside.ensures ∙ ap (λ (h : Hosted). number_after h.connects) c.self.view_is)
    (λ _. c.fail.ensures.answer) (λ listed. absurd (listed.0 (c.in-Fails.ensures.fails.0 refl)))

pub returns-in-Goes-clause-fresh : goal.returns-in-Goes-clause-fresh
returns-in-Goes-clause-fresh c = c.connected.ensures.fresh

pub returns-in-Goes-clause-faults : goal.returns-in-Goes-clause-faults
returns-in-Goes-clause-faults c = rw (sym c.self.view_is) c.connected.ensures.faults

pub returns-in-Goes-clause-stalls : goal.returns-in-Goes-clause-stalls
returns-in-Goes-clause-stalls c = rw (sym c.self.view_is) c.connected.ensures.stalls

pub returns-in-Goes-clause-cut : goal.returns-in-Goes-clause-cut
returns-in-Goes-clause-cut c = rw (sym c.self.view_is) c.connected.ensures.cut

pub returns-in-Goes-clause-numbered : goal.returns-in-Goes-clause-numbered
returns-in-Goes-clause-numbered c = rw (sym c.self.view_is) ((ap (λ (h : Hosted). h.connects) c.connected.ensures.others ∙ c.saturating_add-self-inside.ensures, ap (λ (h : Hosted). h.links) c.connected.ensures.others))

pub returns-in-Stalls-clause-stalls : goal.returns-in-Stalls-clause-stalls
returns-in-Stalls-clause-stalls c = rw (sym c.self.view_is) c.stall.ensures.rose

pub returns-in-Fails-clause-faults : goal.returns-in-Fails-clause-faults
returns-in-Fails-clause-faults c = rw (sym c.self.view_is) c.fail.ensures.rose
