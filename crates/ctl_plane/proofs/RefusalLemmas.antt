-- Which refusal an answer is.
use Rattle.std.specs.Prelude.{◌≡◌, Bool, true, false, not, Option, Some, None, refl}
use Rattle.std.proofs.Common.{arith, sym, ap, ◌∙◌}
use Rattle.spec_control.specs.declared.request.Refusal.{Refusal}
use Rattle.spec_control.specs.declared.request.Refusal.TheVariants.{Term}
use Rattle.spec_control.specs.declared.request.Reply.{Reply}
use Rattle.spec_control.specs.declared.request.Reply.TheVariants.{Done, Object, Pair, Both, Wait, Asked, Before, Refused}
use Rattle.spec_control.specs.Rows.{obj}
use Rattle.spec_control.specs.Stage.{is_alive}
use Rattle.spec_control.specs.Control.{Control}
use Rattle.spec_control.specs.Reply.{unless, before_term}
use Rattle.ctl_moves.specs.Refusals.{refusal_in}

-- ---- where a request is not refused
-- the root was not asked
pub lives_still : (c : Control) (r : Reply) → refusal_in (before_term c r) ≡ None → is_alive (obj c.rows 0).stage ≡ true
lives_still c r = by (is_alive (obj c.rows 0).stage)
  where
    by : (b : Bool) → refusal_in (unless (not b) Term r) ≡ None → b ≡ true
    by true h = refl
    by false h = absurd (never_some h)
      where
        never_some : ◌≡◌ {A = Option Refusal} (Some Term) None → ⊥
        never_some e = cc

pub is_behind : (c : Control) (r : Reply) → refusal_in (before_term c r) ≡ None → before_term c r ≡ r
is_behind c r h = ap (λ (b : Bool). unless (not b) Term r) (lives_still c r h)

-- and a further test does not hold
pub passed : (b : Bool) (refusal : Refusal) (r : Reply) → refusal_in (unless b refusal r) ≡ None → b ≡ false
passed true refusal r h = absurd (some h)
  where
    some : ◌≡◌ {A = Option Refusal} (Some refusal) None → ⊥
    some e = cc
passed false refusal r h = refl

-- so of a request with one further test the answer is known
pub done_behind : (c : Control) (b : Bool) (refusal : Refusal) (r : Reply) → refusal_in (before_term c (unless b refusal r)) ≡ None → before_term c (unless b refusal r) ≡ r
done_behind c b refusal r free =
    let behind = is_behind c (unless b refusal r) free in
    behind ∙ ap (λ (x : Bool). unless x refusal r) (passed b refusal r (sym (ap refusal_in behind) ∙ free))

none_some : {X : Type 0} {x : X} → Some x ≡ None → ⊥
none_some h = Prim.grind arith

-- an answer that is a refusal
pub refusal_is : (r : Reply) (refusal : Refusal) → Some refusal ≡ refusal_in r → r ≡ Refused refusal
refusal_is Done refusal h = absurd (none_some h)
refusal_is (Object o) refusal h = absurd (none_some h)
refusal_is (Pair p) refusal h = absurd (none_some h)
refusal_is (Both o p) refusal h = absurd (none_some h)
refusal_is Wait refusal h = absurd (none_some h)
refusal_is Asked refusal h = absurd (none_some h)
refusal_is Before refusal h = absurd (none_some h)
refusal_is (Refused other) refusal h = ap Refused (let same : other ≡ refusal = cc in same)
