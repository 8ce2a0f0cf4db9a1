use Rattle.std.specs.Prelude.{◌&&◌, Bool, if◌then◌else◌, refl}
use Rattle.std.proofs.Common.{ap, sym, ◌∙◌, subst}
use Rattle.std.proofs.lemmas.Bool.{and_from}
use Rattle.spec_control.specs.declared.letter.Word.TheVariants.{Term}
use Rattle.spec_control.specs.Row.{IsTold, link_may}
use Rattle.spec_control.specs.Rows.{obj}
use Rattle.spec_control.specs.Control.{link, put}
use Rattle.own_tree.specs.Changes.{with_told}
use Rattle.ctl_state.specs.Parts.{on_tree}
use Rattle.ctl_state.specs.Stands.{Stands}
use Rattle.ctl_state.proofs.BareLemmas.{tells_not, tells_one}
use Rattle.ctl_state.proofs.KeptLemmas.{and_last}
use Rattle.ctl_state.proofs.state.State.tell_where.Goals as goal

pub returns-clause-only : goal.returns-clause-only
returns-clause-only g c =
    tells_one c.args.self.now (on_tree (with_told c.args.owner c.args.child) c.args.self.now) c.tell.new.self _ _ refl refl
    (c.requires.room c.if-not-wanted.false (sym c.may_be_told.ensures ∙ c.if-not-may_be_told.false)) refl refl c.tell.ensures.next

pub tell-requires-clause-room : goal.tell-requires-clause-room
tell-requires-clause-room g c = c.requires.room c.if-not-wanted.false (sym c.may_be_told.ensures ∙ c.if-not-may_be_told.false)

pub returns-clause-stands : goal.returns-clause-stands
returns-clause-stands g c = λ k h.
    subst (λ (b : Bool). Stands c.tell.new.self (if b then put c.args.child.0 Term (link IsTold c.args.child.0 k) else k))
    (sym (and_from _ _ c.if-not-wanted.false (ap (link_may IsTold) (h.objects.each c.args.child.0) ∙ sym c.may_be_told.ensures ∙ c.if-not-may_be_told.false)))
    (c.tell.ensures.stands k h)

pub returns-then-not-may_be_told-clause-stands : goal.returns-then-not-may_be_told-clause-stands
returns-then-not-may_be_told-clause-stands g c = λ k h.
    subst (λ (b : Bool). Stands c.args.self.now (if b then put c.args.child.0 Term (link IsTold c.args.child.0 k) else k))
    (sym (and_last c.args.wanted _ (ap (link_may IsTold) (h.objects.each c.args.child.0) ∙ sym c.may_be_told.ensures ∙ c.if-not-may_be_told.true))) h

pub returns-then-not-wanted-clause-stands : goal.returns-then-not-wanted-clause-stands
returns-then-not-wanted-clause-stands g c = λ k h.
    subst (λ (b : Bool). Stands c.args.self.now (if b then put c.args.child.0 Term (link IsTold c.args.child.0 k) else k))
    (sym (ap (λ (b : Bool). b && link_may IsTold (obj k.rows c.args.child.0)) c.if-not-wanted.true)) h

pub returns-then-not-may_be_told-clause-only : goal.returns-then-not-may_be_told-clause-only
returns-then-not-may_be_told-clause-only g c = tells_not c.args.self.now c.args.self.now refl refl

pub returns-then-not-wanted-clause-only : goal.returns-then-not-wanted-clause-only
returns-then-not-wanted-clause-only g c = tells_not c.args.self.now c.args.self.now refl refl
