use Rattle.std.specs.Prelude.{ℕ, Option, refl}
use Rattle.std.proofs.Common.{ap, sym, ◌∙◌, subst}
use Rattle.spec_control.specs.Control.{tell_owner}
use Rattle.ctl_state.specs.Lists.{owner_number}
use Rattle.ctl_state.specs.Stands.{Stands}
use Rattle.ctl_state.proofs.state.State.tell_owner.Goals as goal
use Rattle.ctl_state.proofs.BareLemmas.{tells_one, tells_not}

pub put-requires : goal.put-requires
put-requires g c = record { room = c.requires c.in-Some.owner.0 (ap owner_number (sym c.owner.ensures ∙ c.in-Some.is)) }

pub returns-in-Some-clause-stands : goal.returns-in-Some-clause-stands
returns-in-Some-clause-stands g c = λ k o e h. subst (λ (w : Option ℕ). Stands c.put.new.self (tell_owner w c.args.id.0 k)) (sym (e ∙ ap owner_number (sym c.owner.ensures ∙ c.in-Some.is))) (c.put.ensures.stands k h)

pub returns-in-None-clause-stands : goal.returns-in-None-clause-stands
returns-in-None-clause-stands g c = λ k o e h. subst (λ (w : Option ℕ). Stands c.args.self.now (tell_owner w c.args.id.0 k)) (sym (e ∙ ap owner_number (sym c.owner.ensures ∙ c.in-None.is))) h

pub returns-in-Some-clause-only : goal.returns-in-Some-clause-only
returns-in-Some-clause-only g c =
    tells_one c.args.self.now c.args.self.now c.put.new.self _ _ refl refl (c.requires c.in-Some.owner.0 (ap owner_number (sym c.owner.ensures ∙ c.in-Some.is)))
    refl refl c.put.ensures.next

pub returns-in-None-clause-only : goal.returns-in-None-clause-only
returns-in-None-clause-only g c = tells_not c.args.self.now c.args.self.now refl refl
