-- What tests on kinds, logins and commands say.
use Rattle.std.proofs.Common.{◌≡◌, ◌≢◌, ℕ, Bool, true, false, cond, List, [], ◌∷◌, ◌++◌, length, get_or, take, drop, Option, Some, None, refl, sym, ap, ◌∙◌}
use Rattle.std.specs.Prelude.{◌&&◌, ◌||◌, IfSome, IfNone, find}
use Rattle.std.specs.List.{list_any}
use Rattle.std.specs.Str.{bytes_eq}
use Rattle.std.proofs.lemmas.Slice.Eq.{bytes_eq-Decides}
use Rattle.std.proofs.lemmas.List.{take_at, drop_at}
use Rattle.zq_base.specs.Kind.{kind_name}
use Rattle.zq_base.specs.declared.kind.Kind.{Kind}
use Rattle.zq_base.specs.declared.kind.Kind.TheVariants.{Push, Pull, Pair, Dealer, Req, Rep, Router, Pub, XPub, Sub, XSub}
use Rattle.zq_base.specs.declared.options.Login.{Login}
use Rattle.spec_zmtp.specs.Metadata.{counted, login, encode_login}
use Rattle.spec_zmtp.specs.PeerMetadata.{kind_named, kinds}
use Rattle.spec_zmtp.specs.Handshake.{is_welcome}

-- lists that differ do not test as equal
differ : (b : Bool) (xs ys : List ℕ) → bytes_eq xs ys ≡ b → xs ≢ ys → b ≡ false
differ true xs ys is apart = absurd (apart ((bytes_eq-Decides xs ys).0 is))
differ false xs ys is apart = refl

pub not_same : (xs ys : List ℕ) → xs ≢ ys → bytes_eq xs ys ≡ false
not_same xs ys apart = differ (bytes_eq xs ys) xs ys refl apart

-- ---- kinds

kind_named-kind_name : (k : Kind) → kind_named (kind_name k) ≡ Some k
kind_named-kind_name Push = refl
kind_named-kind_name Pull = refl
kind_named-kind_name Pair = refl
kind_named-kind_name Dealer = refl
kind_named-kind_name Req = refl
kind_named-kind_name Rep = refl
kind_named-kind_name Router = refl
kind_named-kind_name Pub = refl
kind_named-kind_name XPub = refl
kind_named-kind_name Sub = refl
kind_named-kind_name XSub = refl

no_kind : (name : List ℕ) → ((k : Kind) → kind_name k ≢ name) → (ks : List Kind) → None ≡ find (λ k. bytes_eq (kind_name k) name) ks
no_kind name other [] = refl
no_kind name other (k ∷ ks) = no_kind name other ks ∙ ap (λ b. cond b (Some k) (find (λ k. bytes_eq (kind_name k) name) ks)) (sym (not_same (kind_name k) name (other k)))

pub kind_read : (name : List ℕ) (r : Option Kind) → IfSome r (λ k. kind_name k ≡ name) → IfNone r ((k : Kind) → kind_name k ≢ name) → r ≡ kind_named name
kind_read name None some none = no_kind name none kinds
kind_read name (Some k) some none = sym (kind_named-kind_name k) ∙ ap (λ l. kind_named l) some

-- ---- logins

same_front : (a b x y : List ℕ) → length a ≡ length b → a ++ x ≡ b ++ y → (a ≡ b) × (x ≡ y)
same_front a b x y size e = (
  sym (take_at a x (length a) refl) ∙ ap (λ l. take (length a) l) e ∙ take_at b y (length a) (sym size),
  sym (drop_at a x (length a) refl) ∙ ap (λ l. drop (length a) l) e ∙ drop_at b y (length a) (sym size),
)

same_login : (a b : Login) → encode_login a ≡ encode_login b → (a.user ≡ b.user) × (a.pass ≡ b.pass)
same_login a b e =
    let size : length a.user ≡ length b.user = ap (λ l. get_or l 0 0) e in
    let rest = same_front a.user b.user (counted a.pass) (counted b.pass) size (ap (λ l. drop 1 l) e) in
    (rest.0, ap (λ l. drop 1 l) rest.1)

-- users and passwords are the same exactly where what encodes them is
tested : (p q : Bool) (a b : Login) → bytes_eq a.user b.user ≡ p → bytes_eq a.pass b.pass ≡ q → (p && q) ≡ bytes_eq (encode_login b) (encode_login a)
tested true true a b user pass =
    let user_is = (bytes_eq-Decides a.user b.user).0 user in
    let pass_is = (bytes_eq-Decides a.pass b.pass).0 pass in
    sym ((bytes_eq-Decides (encode_login b) (encode_login a)).1 (ap (λ l. counted l ++ counted b.pass) (sym user_is) ∙ ap (λ l. counted a.user ++ counted l) (sym pass_is)))
tested true false a b user pass =
    let apart : encode_login b ≢ encode_login a = λ e. let clash : true ≡ false = sym ((bytes_eq-Decides a.pass b.pass).1 (sym (same_login b a e).1)) ∙ pass in absurd cc in
    sym (not_same (encode_login b) (encode_login a) apart)
tested false q a b user pass =
    let apart : encode_login b ≢ encode_login a = λ e. let clash : true ≡ false = sym ((bytes_eq-Decides a.user b.user).1 (sym (same_login b a e).0)) ∙ user in absurd cc in
    sym (not_same (encode_login b) (encode_login a) apart)

pub login_tested : (a : Login) (user pass : List ℕ) → (bytes_eq a.user user && bytes_eq a.pass pass) ≡ bytes_eq (encode_login (login user pass)) (encode_login a)
login_tested a user pass = tested (bytes_eq a.user user) (bytes_eq a.pass pass) a (login user pass) refl refl

any_tested : (user pass : List ℕ) (logins : List Login) → list_any (λ l. bytes_eq l.user user && bytes_eq l.pass pass) logins ≡ list_any (λ l. bytes_eq (encode_login (login user pass)) (encode_login l)) logins
any_tested user pass [] = refl
any_tested user pass (l ∷ logins) =
    let test : Login → Bool = λ l. bytes_eq l.user user && bytes_eq l.pass pass in
    ap (λ b. b || list_any test logins) (login_tested l user pass) ∙ ap (λ b. bytes_eq (encode_login (login user pass)) (encode_login l) || b) (any_tested user pass logins)

pub welcome_some : (logins : List Login) (content user pass : List ℕ) (r : Bool) → content ≡ encode_login (login user pass) → r ≡ list_any (λ l. bytes_eq l.user user && bytes_eq l.pass pass) logins → r ≡ is_welcome logins content
unfolding is_welcome
welcome_some logins content user pass r is e = e ∙ any_tested user pass logins ∙ ap (λ c. list_any (λ l. bytes_eq c (encode_login l)) logins) (sym is)

none_of : (content : List ℕ) → ((l : Login) → content ≢ encode_login l) → (logins : List Login) → false ≡ list_any (λ l. bytes_eq content (encode_login l)) logins
none_of content other [] = refl
none_of content other (l ∷ logins) = none_of content other logins ∙ ap (λ b. b || list_any (λ l. bytes_eq content (encode_login l)) logins) (sym (not_same content (encode_login l) (other l)))

pub welcome_none : (logins : List Login) (content : List ℕ) → ((l : Login) → content ≢ encode_login l) → false ≡ is_welcome logins content
unfolding is_welcome
welcome_none logins content other = none_of content other logins
