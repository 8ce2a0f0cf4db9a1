use Rattle.std.proofs.Common.{◌≡◌, ◌-◌, ℕ, true, false, List, length, take, drop, refl, sym, subst, arith, length-drop}
use Rattle.std.specs.Prelude.{Result, Ok, Err, MatchResult, codes, nat_eq}
use Rattle.std.specs.List.{starts_with}
use Rattle.std.proofs.lemmas.List.{take_all}
use Rattle.std.proofs.lemmas.Result.{err_from_is_err_and}
use Rattle.zq_base.specs.declared.options.Options.{Options}
use Rattle.zq_script.specs.declared.fault.LineError.{LineError}
use Rattle.zq_script.specs.Answer.{Gives}
use Rattle.zq_script.specs.SocketOption.{mark_of, identity_of, with_option}
use Rattle.zq_script.proofs.AnswerLemmas.{gives_err}
use Rattle.zq_script.proofs.options.set_option.Goals as goal

-- an error is judged as an error
match_err : {A E : Type 0} (r : Result A E) (P : A → Type 0) (Q : E → Type 0) (e : E) → r ≡ Err e → Q e → MatchResult r P Q
match_err r P Q e is q = subst (λ x. MatchResult x P Q) (sym is) q

-- what is said of the octets that were read holds of those behind the option's name
behind : (P : List ℕ → Type 0) (word : List ℕ) (n : ℕ) → P (take (length word - n) (drop n word)) → P (drop n word)
behind P word n h = subst P (take_all (length word - n) (drop n word) (omega (arith, length-drop n word))) h

hwm_good : (word : List ℕ) (options : Options) (mark : ℕ) → true ≡ starts_with nat_eq word (codes "hwm=")
    → mark_of (take (length word - 4) (drop 4 word)) ≡ Ok mark → with_option word options ≡ Ok (record options { hwm = mark })
unfolding with_option
hwm_good word options mark is h = rw (← is, behind (λ (l : List ℕ). mark_of l ≡ Ok mark) word 4 h) refl

rcvhwm_good : (word : List ℕ) (options : Options) (mark : ℕ) → false ≡ starts_with nat_eq word (codes "hwm=")
    → true ≡ starts_with nat_eq word (codes "rcvhwm=")
    → mark_of (take (length word - 7) (drop 7 word)) ≡ Ok mark → with_option word options ≡ Ok (record options { rcvhwm = mark })
unfolding with_option
rcvhwm_good word options mark not_hwm is h = rw (← not_hwm, ← is, behind (λ (l : List ℕ). mark_of l ≡ Ok mark) word 7 h) refl

id_good : (word : List ℕ) (options : Options) (id : List ℕ) → false ≡ starts_with nat_eq word (codes "hwm=")
    → false ≡ starts_with nat_eq word (codes "rcvhwm=") → true ≡ starts_with nat_eq word (codes "id=")
    → identity_of (take (length word - 3) (drop 3 word)) ≡ Ok id → with_option word options ≡ Ok (record options { id = id })
unfolding with_option
id_good word options id not_hwm not_rcvhwm is h = rw (← not_hwm, ← not_rcvhwm, ← is, behind (λ (l : List ℕ). identity_of l ≡ Ok id) word 3 h) refl

hwm_bad : (word : List ℕ) (options : Options) (e : LineError) → true ≡ starts_with nat_eq word (codes "hwm=")
    → Gives {T = ℕ} (Err e) (mark_of (take (length word - 4) (drop 4 word))) → Gives {T = Options} (Err e) (with_option word options)
unfolding with_option
hwm_bad word options e is h = rw (← is) (gives_err e _ _ (behind (λ (l : List ℕ). Gives {T = ℕ} (Err e) (mark_of l)) word 4 h))

rcvhwm_bad : (word : List ℕ) (options : Options) (e : LineError) → false ≡ starts_with nat_eq word (codes "hwm=")
    → true ≡ starts_with nat_eq word (codes "rcvhwm=")
    → Gives {T = ℕ} (Err e) (mark_of (take (length word - 7) (drop 7 word))) → Gives {T = Options} (Err e) (with_option word options)
unfolding with_option
rcvhwm_bad word options e not_hwm is h = rw (← not_hwm, ← is) (gives_err e _ _ (behind (λ (l : List ℕ). Gives {T = ℕ} (Err e) (mark_of l)) word 7 h))

id_bad : (word : List ℕ) (options : Options) (e : LineError) → false ≡ starts_with nat_eq word (codes "hwm=")
    → false ≡ starts_with nat_eq word (codes "rcvhwm=") → true ≡ starts_with nat_eq word (codes "id=")
    → Gives {T = List ℕ} (Err e) (identity_of (take (length word - 3) (drop 3 word))) → Gives {T = Options} (Err e) (with_option word options)
unfolding with_option
id_bad word options e not_hwm not_rcvhwm is h = rw (← not_hwm, ← not_rcvhwm, ← is) (gives_err e _ _ (behind (λ (l : List ℕ). Gives {T = List ℕ} (Err e) (identity_of l)) word 3 h))

pub returns-then-starts_with : goal.returns-then-starts_with
returns-then-starts_with c = hwm_good c.args.word.now c.args.options.now c.in_ok-options.field-0 c.if-starts_with.ensures.value c.in_ok-options.ensures

pub returns-then-starts_with-2 : goal.returns-then-starts_with-2
returns-then-starts_with-2 c = rcvhwm_good c.args.word.now c.args.options.now c.in_ok-options-2.field-0 c.if-starts_with.ensures.value c.if-starts_with-2.ensures.value c.in_ok-options-2.ensures

pub returns-then-starts_with-3 : goal.returns-then-starts_with-3
returns-then-starts_with-3 c = id_good c.args.word.now c.args.options.now c.in_ok-options-3.field-0 c.if-starts_with.ensures.value c.if-starts_with-2.ensures.value c.if-starts_with-3.ensures.value c.in_ok-options-3.ensures

pub returns-in_err-options : goal.returns-in_err-options
returns-in_err-options c =
    let word : List ℕ = c.args.word.now in
    let options : Options = c.args.options.now in
    let p = err_from_is_err_and c.from_residual.result c.from_residual.ensures.1 in
    match_err _ _ _ p.0 p.1 (subst (λ e. Gives {T = Options} (Err e) (with_option word options)) (sym p.2)
    (hwm_bad word options c.in_err-options.field-0.0 c.if-starts_with.ensures.value c.in_err-options.ensures))

pub returns-in_err-options-2 : goal.returns-in_err-options-2
returns-in_err-options-2 c =
    let word : List ℕ = c.args.word.now in
    let options : Options = c.args.options.now in
    let p = err_from_is_err_and c.from_residual-in_err-options-2.result c.from_residual-in_err-options-2.ensures.1 in
    match_err _ _ _ p.0 p.1 (subst (λ e. Gives {T = Options} (Err e) (with_option word options)) (sym p.2)
    (rcvhwm_bad word options c.in_err-options-2.field-0.0 c.if-starts_with.ensures.value c.if-starts_with-2.ensures.value c.in_err-options-2.ensures))

pub returns-in_err-options-3 : goal.returns-in_err-options-3
returns-in_err-options-3 c =
    let word : List ℕ = c.args.word.now in
    let options : Options = c.args.options.now in
    let p = err_from_is_err_and c.from_residual-in_err-options-3.result c.from_residual-in_err-options-3.ensures.1 in
    match_err _ _ _ p.0 p.1 (subst (λ e. Gives {T = Options} (Err e) (with_option word options)) (sym p.2)
    (id_bad word options c.in_err-options-3.field-0.0 c.if-starts_with.ensures.value c.if-starts_with-2.ensures.value c.if-starts_with-3.ensures.value c.in_err-options-3.ensures))
