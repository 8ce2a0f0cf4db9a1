-- What the holder is told and seals at an end's event.
use Rattle.std.specs.Prelude.{◌≡◌, ◌⊎◌, Option, Some, unwrap_or}
use Rattle.std.proofs.Common.{sym, ap, subst, inl, inr}
use Rattle.zq_base.specs.declared.ids.EndId.{EndId}
use Rattle.spec_control.specs.declared.end.EndState.{EndState}
use Rattle.spec_control.specs.declared.end.EndCommands.{EndCommands}
use Rattle.spec_control.specs.declared.end.EndCommands.TheVariants.{TermAndSeal}
use Rattle.desk.specs.Holding.{Holding, Seals, TurnsTo}
use Rattle.ctl_moves.specs.Turning.{SealsFor}

-- what holds of both holds of either
pub by_either : {A : Type 0} (P : A → Type 0) {x a b : A} → (x ≡ a) ⊎ (x ≡ b) → P a → P b → P x
by_either P (inl is) p q = subst P (sym is) p
by_either P (inr is) p q = subst P (sym is) q

module _ {N : Type 0} (e : EndId) (h k : Holding N) where
  -- the end is told how far it is
  pub told_now : (now state : EndState) → Some now ≡ Some state → TurnsTo e now h k → TurnsTo e state h k
  told_now now state is told = subst (λ (s : EndState). TurnsTo e s h k) (ap (λ (o : Option EndState). unwrap_or o now) is) told

  -- the pipe of an end that is asked is sealed
  pub seals_one : (commands : EndCommands) → commands ≡ TermAndSeal → Seals e h k → SealsFor commands e h k
  seals_one commands is sealed = subst (λ (x : EndCommands). SealsFor x e h k) (sym is) (record {
    states = sealed.states;
    turns = sealed.turns;
    sealed = sealed.sealed;
    joined = sealed.joined;
  })
