-- What body decodes to a command is what encodes it, and the other way round.
use Rattle.std.proofs.Common.{◌≡◌, ◌≢◌, ℕ, suc, ◌≤◌, Bool, true, false, cond, ltb, eqb, List, [], ◌∷◌, ◌++◌, length, get_or, take, drop, Option, Some, None, refl, sym, ap, subst, ◌∙◌, arith}
use Rattle.std.specs.Prelude.{◌||◌, is_some, codes}
use Rattle.std.proofs.lemmas.Option.{cond_some}
use Rattle.std.proofs.lemmas.Bool.{ltb-false, le-ltb, eqb-true, eq-eqb}
use Rattle.std.proofs.lemmas.List.{take_at, drop_at, take-append-drop, length-append, length-take-le}
use Rattle.std.proofs.lemmas.Slice.Eq.{bytes_eq-Decides}
use Rattle.zq_base.specs.declared.options.Login.{Login}
use Rattle.spec_zmtp.specs.declared.command.Command.{Command}
use Rattle.spec_zmtp.specs.Metadata.{IsOctets, counted, IsShort, encode_command, encode_login, IsLogin, is_called, IsCommand, login}
use Rattle.spec_zmtp.specs.Decoding.{is_counted, with_pass, decode_login, is_nothing, has_form, formed, decode_command}
use Rattle.spec_zmtp.proofs.MetadataLemmas.{octets_drop, fails_if, neither, not_zero, some_not_zero}

-- ---- what is counted

counted_is : (octets : List ℕ) → IsOctets octets → is_counted octets ≡ true → (r : List ℕ) × IsShort r × (octets ≡ counted r)
counted_is [] all is = absurd cc
counted_is (n ∷ r) all is = let len : length r ≡ n = eqb-true _ _ is in (r, omega (arith, all 0), ap (λ k. k ∷ r) (sym len))

counted_again : (r : List ℕ) → is_counted (counted r) ≡ true
counted_again r = eq-eqb _ _ refl

pass_is : (user octets : List ℕ) (l : Login) → IsOctets octets → with_pass user octets ≡ Some l → (pass : List ℕ) × IsShort pass × (octets ≡ counted pass) × (l ≡ login user pass)
pass_is user [] l all is = absurd cc
pass_is user (n ∷ pass) l all is =
    let a = cond_some (eqb (length pass) n) (login user pass) l is in
    let len : length pass ≡ n = eqb-true _ _ a.0 in
    (pass, omega (arith, all 0), ap (λ k. k ∷ pass) (sym len), sym a.1)

-- what is decoded encodes it
pub encode_login-decode_login : (octets : List ℕ) (l : Login) → IsOctets octets → decode_login octets ≡ Some l → IsLogin l × (octets ≡ encode_login l)
unfolding decode_login
encode_login-decode_login [] l all is = absurd cc
encode_login-decode_login (n ∷ r) l all is =
    let a = fails_if (ltb (length r) n) (with_pass (take n r) (drop n r)) l is in
    let pass = pass_is (take n r) (drop n r) l (octets_drop n r (λ i. all (suc i))) a.1 in
    let len : length (take n r) ≡ n = length-take-le n r (ltb-false _ _ a.0) in
    let whole : n ∷ r ≡ encode_login (login (take n r) pass.0) =
    ap (λ t. n ∷ t) (sym (take-append-drop n r) ∙ ap (λ t. take n r ++ t) pass.2) ∙ ap (λ k. k ∷ (take n r ++ counted pass.0)) (sym len) in
    subst (λ (x : Login). IsLogin x × (n ∷ r ≡ encode_login x)) (sym pass.3) ((omega (arith, len, all 0), pass.1), whole)

-- what encodes a login is decoded to it
pub decode_login-encode_login : (l : Login) → decode_login (encode_login l) ≡ Some l
unfolding decode_login
decode_login-encode_login l =
    let long : ltb (length (l.user ++ counted l.pass)) (length l.user) ≡ false = le-ltb _ _ (omega (arith, length-append l.user (counted l.pass))) in
    let same : eqb (length l.pass) (length l.pass) ≡ true = eq-eqb _ _ refl in
    rw (long, take_at l.user (counted l.pass) (length l.user) refl, drop_at l.user (counted l.pass) (length l.user) refl, same) refl

-- no login encodes what is not decoded
pub no_login : (octets : List ℕ) → decode_login octets ≡ None → (l : Login) → octets ≢ encode_login l
no_login octets is l e =
    let clash : None ≡ Some l = sym is ∙ ap (λ o. decode_login o) e ∙ decode_login-encode_login l in absurd cc

login_is : (octets : List ℕ) (o : Option Login) → IsOctets octets → decode_login octets ≡ o → is_some o ≡ true → (l : Login) × IsLogin l × (octets ≡ encode_login l)
login_is octets None all is some = absurd cc
login_is octets (Some l) all is some = let e = encode_login-decode_login octets l all is in (l, e.0, e.1)

nothing_is : (octets : List ℕ) → is_nothing octets ≡ true → octets ≡ []
nothing_is [] is = refl
nothing_is (octet ∷ octets) is = absurd cc

-- ---- forms

-- a name is one of two, or neither
called : (name : List ℕ) (c : Command) → (c.name ≡ name → is_called name c ≡ true) × (is_called name c ≡ true → c.name ≡ name)
called name c = let d = bytes_eq-Decides c.name name in (d.1, d.0)

true_not_false : (b : Bool) → b ≡ true → b ≡ false → ⊥
true_not_false b h k = let e : true ≡ false = sym h ∙ k in absurd cc

-- a form that is tested, behind others that are not meant
abbrev pub Forms : Command → Type 0
Forms c =
    (c.name ≡ codes "HELLO" → (l : Login) × IsLogin l × (c.content ≡ encode_login l))
    × (c.name ≡ codes "ERROR" → (reason : List ℕ) × IsShort reason × (c.content ≡ counted reason))
    × (c.name ≡ codes "WELCOME" → c.content ≡ [])

hello_not_error : codes "HELLO" ≡ codes "ERROR" → ⊥
hello_not_error e = let first : ◌≡◌ {A = ℕ} 72 69 = ap (λ l. get_or l 0 0) e in omega arith

hello_not_welcome : codes "HELLO" ≡ codes "WELCOME" → ⊥
hello_not_welcome e = let sizes : ◌≡◌ {A = ℕ} 5 7 = ap (λ l. length l) e in omega arith

error_not_welcome : codes "ERROR" ≡ codes "WELCOME" → ⊥
error_not_welcome e = let sizes : ◌≡◌ {A = ℕ} 5 7 = ap (λ l. length l) e in omega arith

form_is : (c : Command) → IsOctets c.content → has_form c ≡ true → Forms c
form_is c all is =
    let h = called (codes "HELLO") c in
    let e = called (codes "ERROR") c in
    let w = called (codes "WELCOME") c in
    let at_welcome : (b : Bool) → is_called (codes "WELCOME") c ≡ b → cond b (is_nothing c.content) true ≡ true → c.name ≡ codes "WELCOME" → c.content ≡ [] =
    λ b. elim b as (λ b. is_called (codes "WELCOME") c ≡ b → cond b (is_nothing c.content) true ≡ true → c.name ≡ codes "WELCOME" → c.content ≡ []) [
      | true ↦ λ t f n. nothing_is c.content f
      | false ↦ λ t f n. absurd (true_not_false _ (w.0 n) t)
    ] in
    let at_error : (b : Bool) → is_called (codes "ERROR") c ≡ b → cond b (is_counted c.content) (cond (is_called (codes "WELCOME") c) (is_nothing c.content) true) ≡ true → (c.name ≡ codes "HELLO" → ⊥) → Forms c =
    λ b. elim b as (λ b. is_called (codes "ERROR") c ≡ b → cond b (is_counted c.content) (cond (is_called (codes "WELCOME") c) (is_nothing c.content) true) ≡ true → (c.name ≡ codes "HELLO" → ⊥) → Forms c) [
      | true ↦ λ t f no. (λ n. absurd (no n), λ n. counted_is c.content all f, λ n. absurd (error_not_welcome (sym (e.1 t) ∙ n)))
      | false ↦ λ t f no. (λ n. absurd (no n), λ n. absurd (true_not_false _ (e.0 n) t), at_welcome (is_called (codes "WELCOME") c) refl f)
    ] in
    let at_hello : (b : Bool) → is_called (codes "HELLO") c ≡ b
    → cond b (is_some (decode_login c.content)) (cond (is_called (codes "ERROR") c) (is_counted c.content) (cond (is_called (codes "WELCOME") c) (is_nothing c.content) true)) ≡ true → Forms c =
    λ b. elim b as (λ b. is_called (codes "HELLO") c ≡ b
    → cond b (is_some (decode_login c.content)) (cond (is_called (codes "ERROR") c) (is_counted c.content) (cond (is_called (codes "WELCOME") c) (is_nothing c.content) true)) ≡ true → Forms c) [
      | true ↦ λ t f. (λ n. login_is c.content (decode_login c.content) all refl f, λ n. absurd (hello_not_error (sym (h.1 t) ∙ n)), λ n. absurd (hello_not_welcome (sym (h.1 t) ∙ n)))
      | false ↦ λ t f. at_error (is_called (codes "ERROR") c) refl f (λ n. true_not_false _ (h.0 n) t)
    ] in
    at_hello (is_called (codes "HELLO") c) refl is

form_again : (c : Command) → IsCommand c → has_form c ≡ true
form_again c is =
    let h = called (codes "HELLO") c in
    let e = called (codes "ERROR") c in
    let w = called (codes "WELCOME") c in
    let at_welcome : (b : Bool) → is_called (codes "WELCOME") c ≡ b → cond b (is_nothing c.content) true ≡ true =
    λ b. elim b as (λ b. is_called (codes "WELCOME") c ≡ b → cond b (is_nothing c.content) true ≡ true) [
      | true ↦ λ t. ap (λ l. is_nothing l) (is.welcome (w.1 t))
      | false ↦ λ t. refl
    ] in
    let at_error : (b : Bool) → is_called (codes "ERROR") c ≡ b → cond b (is_counted c.content) (cond (is_called (codes "WELCOME") c) (is_nothing c.content) true) ≡ true =
    λ b. elim b as (λ b. is_called (codes "ERROR") c ≡ b → cond b (is_counted c.content) (cond (is_called (codes "WELCOME") c) (is_nothing c.content) true) ≡ true) [
      | true ↦ λ t. let r = is.error (e.1 t) in ap (λ l. is_counted l) r.2 ∙ counted_again r.0
      | false ↦ λ t. at_welcome (is_called (codes "WELCOME") c) refl
    ] in
    let at_hello : (b : Bool) → is_called (codes "HELLO") c ≡ b
    → cond b (is_some (decode_login c.content)) (cond (is_called (codes "ERROR") c) (is_counted c.content) (cond (is_called (codes "WELCOME") c) (is_nothing c.content) true)) ≡ true =
    λ b. elim b as (λ b. is_called (codes "HELLO") c ≡ b
    → cond b (is_some (decode_login c.content)) (cond (is_called (codes "ERROR") c) (is_counted c.content) (cond (is_called (codes "WELCOME") c) (is_nothing c.content) true)) ≡ true) [
      | true ↦ λ t. let l = is.hello (h.1 t) in ap (λ o. is_some (decode_login o)) l.2 ∙ ap (λ o. is_some o) (decode_login-encode_login l.0)
      | false ↦ λ t. at_error (is_called (codes "ERROR") c) refl
    ] in
    at_hello (is_called (codes "HELLO") c) refl

-- ---- bodies

-- what encodes a command is decoded to it
pub decode_command-encode_command : (c : Command) → IsCommand c → decode_command (encode_command c) ≡ Some c
unfolding decode_command
decode_command-encode_command c is =
    let long : ltb (length (c.name ++ c.content)) (length c.name) ≡ false = le-ltb _ _ (omega (arith, length-append c.name c.content)) in
    rw (some_not_zero (length c.name) is.named, long, take_at c.name c.content (length c.name) refl, drop_at c.name c.content (length c.name) refl, form_again c is) refl

some_command : (b : Bool) (c d : Command) → cond b (Some c) None ≡ Some d → (b ≡ true) × (c ≡ d)
some_command true c d e = (refl, cc)
some_command false c d e = absurd cc

-- what is decoded encodes it
pub encode_command-decode_command : (body : List ℕ) (c : Command) → IsOctets body → decode_command body ≡ Some c → IsCommand c × (body ≡ encode_command c)
unfolding decode_command
encode_command-decode_command [] c all is = absurd cc
encode_command-decode_command (n ∷ body) c all is =
    let d : Command = record { name = take n body; content = drop n body } in
    let a = fails_if (eqb n 0 || ltb (length body) n) (formed d) c is in
    let tests = neither (eqb n 0) (ltb (length body) n) a.0 in
    let some : 1 ≤ n = not_zero n tests.0 in
    let len : length (take n body) ≡ n = length-take-le n body (ltb-false _ _ tests.1) in
    let b = some_command (has_form d) d c a.1 in
    let f : Forms d = form_is d (octets_drop n body (λ i. all (suc i))) b.0 in
    let fine : IsCommand d = record { named = omega (arith, len, some); short = omega (arith, len, all 0); hello = f.0; error = f.1; welcome = f.2 } in
    let whole : n ∷ body ≡ encode_command d = ap (λ t. n ∷ t) (sym (take-append-drop n body)) ∙ ap (λ k. k ∷ (take n body ++ drop n body)) (sym len) in
    subst (λ (x : Command). IsCommand x × (n ∷ body ≡ encode_command x)) b.1 (fine, whole)

-- no command encodes what is not decoded
pub no_command : (body : List ℕ) → decode_command body ≡ None → (c : Command) → IsCommand c → body ≢ encode_command c
no_command body is c h e =
    let clash : None ≡ Some c = sym is ∙ ap (λ l. decode_command l) e ∙ decode_command-encode_command c h in absurd cc
