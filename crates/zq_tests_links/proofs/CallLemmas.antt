-- What calls at a session ask for, whose end is gone or waits for its delimiter.
use Rattle.std.proofs.Common.{◌≡◌, [], ◌∷◌, Option, Some, None, true, refl, ap, sym, ◌∙◌, inl, inr}
use Rattle.std.specs.Prelude.{is_some}
use Rattle.spec_control.specs.declared.end.EndState.{EndState}
use Rattle.spec_control.specs.declared.end.EndState.TheVariants.{Active, WaitDelimiter, Gone}
use Rattle.msg_pipe.specs.Known.{Known, IsThere}
use Rattle.spec_link.specs.History.{Basis, Standing, EndIs}
use Rattle.zq_session.specs.LifeView.{IsReadable}
use Rattle.zq_session.specs.Sessions.{SessionState, HasLived, Happens, AreAt}

pub not_active : (state : Option EndState) → Some Gone ≡ state → state ≡ Some Active → ⊥
not_active state e d = (let c : Some Gone ≡ Some Active = e ∙ d in absurd cc)

not_waiting : (state : Option EndState) → Some Gone ≡ state → state ≡ Some WaitDelimiter → ⊥
not_waiting state e d = (let c : Some Gone ≡ Some WaitDelimiter = e ∙ d in absurd cc)

pub not_readable : (state : Option EndState) → Some Gone ≡ state → IsReadable state → ⊥
not_readable state e r = elim r as (λ _. ⊥) [
  | inl f ↦ not_active state e f
  | inr f ↦ not_waiting state e f
]

module _ {O I : Type 0} where
  pub gone_state : (b : Basis) (old new : SessionState O I) → HasLived b [] old → Happens old (EndIs Gone) new → new.course.life.state ≡ Some Gone
  gone_state b old new lived happens = sym (ap (λ (x : Standing). x.state) (happens b [] lived).2)

  pub waiting_state : (b : Basis) (old mid new : SessionState O I) → HasLived b [] old → Happens old (EndIs Active) mid → Happens mid (EndIs WaitDelimiter) new → new.course.life.state ≡ Some WaitDelimiter
  waiting_state b old mid new lived active waits = sym (ap (λ (x : Standing). x.state) (waits b (EndIs Active ∷ []) (active b [] lived)).2)

waits_only : (state : Option EndState) → Some WaitDelimiter ≡ state → state ≡ Some Active → ⊥
waits_only state e d = (let c : Some WaitDelimiter ≡ Some Active = e ∙ d in absurd cc)

the_half : {T : Type 0} (o : Option T) → is_some o ≡ true → (x : T) × (o ≡ Some x)
the_half None e = absurd cc
the_half (Some x) e = (x, refl)

module _ {S O I N : Type 0} (K : Known S O I N) where
  pub waiting_at : (s : S) (v : SessionState O I) → v.course.life.state ≡ Some WaitDelimiter → is_some v.input ≡ true → ((i : I) → IsThere K s (K.in_name i)) → AreAt K s v
  waiting_at s v e input there = record {
    reads = λ r. (let i = the_half v.input input in (i.0, i.1, there i.0));
    writes = λ w. absurd (waits_only v.course.life.state (sym e) w);
  }

  pub gone_at : (s : S) (v : SessionState O I) → v.course.life.state ≡ Some Gone → AreAt K s v
  gone_at s v e = record {
    reads = λ r. absurd (not_readable v.course.life.state (sym e) r);
    writes = λ w. absurd (not_active v.course.life.state (sym e) w);
  }
