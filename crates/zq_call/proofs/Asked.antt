-- A login that the words give is one that a HELLO can carry.
use Rattle.std.proofs.Common.{◌≡◌, ℕ, List, length, Bool, true, false, Option, Some, None, refl, ap, subst}
use Rattle.std.specs.Prelude.{codes, IfSome, ◌&&◌, if◌then◌else◌, option_map, option_and_then}
use Rattle.std.proofs.lemmas.Bool.{leb-true}
use Rattle.clap.specs.Words.{Row, first_of, subcommand_of}
use Rattle.zq_base.specs.declared.kind.Kind.{Kind}
use Rattle.zq_base.specs.declared.options.Login.{Login}
use Rattle.spec_zmtp.specs.Metadata.{IsLogin}
use Rattle.spec_zmtp.specs.PeerMetadata.{kind_named}
use Rattle.zq_call.specs.Words.{are_in_order, program, login_of, hear_of, run_of, request_of, is_short}
use Rattle.zq_call.specs.Number.{number_or}
use Rattle.zq_call.specs.declared.request.Request.{Request}
use Rattle.zq_call.specs.declared.request.Request.TheVariants as request
use Rattle.zq_call.specs.Call.{AsksHear}

some_same : {A : Type 0} (a b : A) → ◌≡◌ {A = Option A} (Some a) (Some b) → a ≡ b
some_same a b same = cc

not_some : {A : Type 0} (a : A) → ◌≡◌ {A = Option A} None (Some a) → ⊥
not_some a same = cc

-- a user and a password that the words give are short
both_short : (user pass : List ℕ) (login : Option Login) (a b : Bool) → is_short user ≡ a → is_short pass ≡ b
    → (if a && b then Some (Some (record { user = user; pass = pass })) else None) ≡ Some login → IfSome login IsLogin
both_short user pass login true true u p is = subst (λ (l : Option Login). IfSome l IsLogin) (some_same _ login is) (leb-true (length user) 255 u, leb-true (length pass) 255 p)
both_short user pass login true false u p is = absurd (not_some login is)
both_short user pass login false b u p is = absurd (not_some login is)

login_short : (user pass : Option (List ℕ)) (login : Option Login) → login_of user pass ≡ Some login → IfSome login IsLogin
login_short None None login is = subst (λ (l : Option Login). IfSome l IsLogin) (some_same None login is) tt
login_short None (Some pass) login is = absurd (not_some login is)
login_short (Some user) None login is = absurd (not_some login is)
login_short (Some user) (Some pass) login is = both_short user pass login (is_short user) (is_short pass) refl refl is

hear_parts : (a b : Kind) (l m : Option Login) → ◌≡◌ {A = Option Request} (Some (request.Hear a l)) (Some (request.Hear b m)) → l ≡ m
hear_parts a b l m same = cc

with_login : (k kind : Kind) (login : Option Login) (found : Option (Option Login)) → option_map (λ l. request.Hear k l) found ≡ Some (request.Hear kind login) → found ≡ Some login
with_login k kind login None is = absurd (not_some (request.Hear kind login) is)
with_login k kind login (Some l) is = ap Some (hear_parts k kind l login is)

hear_short : (name : Option Kind) (user pass : Option (List ℕ)) (kind : Kind) (login : Option Login)
    → option_and_then (λ k. option_map (λ l. request.Hear k l) (login_of user pass)) name ≡ Some (request.Hear kind login) → IfSome login IsLogin
hear_short None user pass kind login is = absurd (not_some (request.Hear kind login) is)
hear_short (Some k) user pass kind login is = login_short user pass login (with_login k kind login (login_of user pass) is)

not_run : (a b : ℕ) (kind : Kind) (login : Option Login) → ◌≡◌ {A = Option Request} (Some (request.Run a b)) (Some (request.Hear kind login)) → ⊥
not_run a b kind login same = cc

run_no_hear : (threads seed turns : Option ℕ) (kind : Kind) (login : Option Login)
    → option_and_then (λ _. option_and_then (λ s. option_map (λ t. request.Run s t) turns) seed) threads ≡ Some (request.Hear kind login) → ⊥
run_no_hear None seed turns kind login is = not_some (request.Hear kind login) is
run_no_hear (Some a) None turns kind login is = not_some (request.Hear kind login) is
run_no_hear (Some a) (Some s) None kind login is = not_some (request.Hear kind login) is
run_no_hear (Some a) (Some s) (Some t) kind login is = not_run s t kind login is

found_short : (name : List ℕ) (rows : List Row) (runs hears : Bool) (kind : Kind) (login : Option Login)
    → (if runs then run_of rows else (if hears then hear_of rows else None)) ≡ Some (request.Hear kind login) → IfSome login IsLogin
found_short name rows true hears kind login is = absurd (run_no_hear (number_or 0 0 0 (first_of (codes "threads") rows)) (number_or 0 0 9223372036854775807 (first_of (codes "seed") rows))
    (number_or 100000 1 1000000000 (first_of (codes "turns") rows)) kind login is)
found_short name rows false true kind login is = hear_short (option_and_then kind_named (first_of (codes "kind") rows)) (first_of (codes "user") rows) (first_of (codes "pass") rows) kind login is
found_short name rows false false kind login is = absurd (not_some (request.Hear kind login) is)

request_short : (found : Option (List ℕ × List Row)) (kind : Kind) (login : Option Login) → option_and_then request_of found ≡ Some (request.Hear kind login) → IfSome login IsLogin
request_short None kind login is = absurd (not_some (request.Hear kind login) is)
request_short (Some found) kind login is = found_short found.0 found.1 _ _ kind login is

ordered_short : (ordered : Bool) (found : Option (List ℕ × List Row)) (kind : Kind) (login : Option Login)
    → (if ordered then option_and_then request_of found else None) ≡ Some (request.Hear kind login) → IfSome login IsLogin
ordered_short true found kind login is = request_short found kind login is
ordered_short false found kind login is = absurd (not_some (request.Hear kind login) is)

-- a login that the words give is one that a HELLO can carry
pub asked_short : (words : List (List ℕ)) (kind : Kind) (login : Option Login) → AsksHear words kind login → IfSome login IsLogin
asked_short words kind login asks = ordered_short (are_in_order words) (subcommand_of program words) kind login asks
