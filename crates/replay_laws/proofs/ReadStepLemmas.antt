-- What holds of the answers of steps that may fail.
use Rattle.std.proofs.Common.{◌≡◌, Bool, true, false, refl, subst}
use Rattle.std.specs.Prelude.{Option, Some, None, Result, Ok, Err, IfOk, ok_or, if◌then◌else◌}
use Rattle.zq_script.specs.Answer.{◌>>=◌}

-- something holds of what a step gives
pub record Holds {A E : Type 0} (P : A → Type 0) (r : Result A E) : Type 0 where
  pub given : IfOk r P

module _ {A E : Type 0} where
  pub ok_holds : (P : A → Type 0) (x : A) → P x → Holds {E = E} P (Ok x)
  ok_holds P x h = record { given = h }

  pub err_holds : (P : A → Type 0) (e : E) → Holds P (Err e)
  err_holds P e = record { given = tt }

  -- by a test
  pub by_test : (P : A → Type 0) (b : Bool) (r s : Result A E) → (b ≡ true → Holds P r) → Holds P s → Holds P (if b then r else s)
  by_test P true r s h k = h refl
  by_test P false r s h k = k

  pub by_some : (P : A → Type 0) (o : Option A) (e : E) → ((x : A) → o ≡ Some x → P x) → Holds P (ok_or o e)
  by_some P None e h = record { given = tt }
  by_some P (Some x) e h = record { given = h x refl }

  -- of what was given
  pub held : (P : A → Type 0) (r : Result A E) (x : A) → Holds P r → r ≡ Ok x → P x
  held P r x h e = subst (λ s. IfOk s P) e h.given

module _ {A B E : Type 0} where
  -- behind a step of whose value something holds
  pub if_then : (Q : A → Type 0) (P : B → Type 0) (r : Result A E) (f : A → Result B E) → Holds Q r → ((x : A) → Q x → Holds P (f x)) → Holds P (r >>= f)
  if_then Q P (Ok x) f q h = h x q.given
  if_then Q P (Err e) f q h = record { given = tt }

  -- behind any step
  pub any_then : (P : B → Type 0) (r : Result A E) (f : A → Result B E) → ((x : A) → Holds P (f x)) → Holds P (r >>= f)
  any_then P (Ok x) f h = h x
  any_then P (Err e) f h = record { given = tt }
