-- What a reader has read is what octets encode.
use Rattle.std.proofs.Common.{◌≡◌, ◌≢◌, ◌↔◌, ℕ, ◌<◌, Bool, true, false, List, [], ◌∷◌, ◌++◌, length, Option, Some, None, Bor, refl, sym, ap, ◌∙◌, arith}
use Rattle.std.specs.Prelude.{option_map, is_some, IfSome, IfNone, IsTrue, All}
use Rattle.std.proofs.lemmas.List.{append-nil, length-append}
use Rattle.zq_base.specs.declared.options.Login.{Login}
use Rattle.spec_zmtp.specs.declared.command.Property.{Property}
use Rattle.spec_zmtp.specs.Metadata.{IsOctets, IsLogin, login, encode_login, IsCommand, command, encode_command, IsProperty, encode_property, encode_meta}
use Rattle.spec_zmtp.specs.Decoding.{decode_login, decode_command, property_at, decode_meta}
use Rattle.spec_zmtp.proofs.CommandLemmas.{encode_login-decode_login, no_login, encode_command-decode_command}
use Rattle.spec_zmtp.proofs.MetadataLemmas.{with_front, with_front-more, decode_none, decode_first, Begins, property_takes, decode_nothing, encode_meta-decode_meta, no_properties}

-- ---- logins

-- a login as it is lent
abbrev pub lent : Bor (List ℕ) × Bor (List ℕ) → Login
lent l = login l.0.now l.1.now

pub login_read : (content : List ℕ) (r : Option (Bor (List ℕ) × Bor (List ℕ))) → IsOctets content → option_map lent r ≡ decode_login content → IfSome r (λ l. IsLogin (lent l) × (content ≡ encode_login (lent l)))
login_read content None all is = tt
login_read content (Some l) all is = encode_login-decode_login content (lent l) all (sym is)

pub login_some : (content : List ℕ) (r : Option (Bor (List ℕ) × Bor (List ℕ))) → IsOctets content → option_map lent r ≡ decode_login content → IfSome r (λ l. content ≡ encode_login (lent l))
login_some content None all is = tt
login_some content (Some l) all is = (encode_login-decode_login content (lent l) all (sym is)).1

pub login_short : (content : List ℕ) (r : Option (Bor (List ℕ) × Bor (List ℕ))) → IsOctets content → option_map lent r ≡ decode_login content → IfSome r (λ l. IsLogin (lent l))
login_short content None all is = tt
login_short content (Some l) all is = (encode_login-decode_login content (lent l) all (sym is)).0

pub login_none : (content : List ℕ) (r : Option (Bor (List ℕ) × Bor (List ℕ))) → option_map lent r ≡ decode_login content → IfNone r ((l : Login) → content ≢ encode_login l)
login_none content None is = no_login content (sym is)
login_none content (Some l) is = tt

-- ---- commands

-- a command made of copies of what was decoded
pub command_read : (body n m x y : List ℕ) → IsOctets body → Some (command n m) ≡ decode_command body → x ≡ n → y ≡ m → IsCommand (command x y) × (body ≡ encode_command (command x y))
command_read body n m x y all is same also =
    encode_command-decode_command body (command x y) all (sym is ∙ ap (λ l. Some (command l m)) (sym same) ∙ ap (λ l. Some (command x l)) (sym also))

-- ---- metadata

pub none_behind : (content rest : List ℕ) (found : List Property) → decode_meta content ≡ with_front found (decode_meta rest) → 0 < length rest → None ≡ property_at rest → decode_meta content ≡ None
none_behind content rest found decoded some is = decoded ∙ ap (λ o. with_front found o) (decode_none rest some (sym is))

pub all_read : (content rest : List ℕ) (found : List Property) → decode_meta content ≡ with_front found (decode_meta rest) → rest ≡ [] → decode_meta content ≡ Some found
all_read content rest found decoded empty =
    decoded ∙ ap (λ l. with_front found (decode_meta l)) empty ∙ ap (λ o. with_front found o) decode_nothing ∙ ap (λ l. Some l) (append-nil found)

-- one property more, and what is left
pub record Read1 (content rest after : List ℕ) (found : List Property) (p : Property) : Type 0 where
  pub decoded : decode_meta content ≡ with_front (found ++ p ∷ []) (decode_meta after)
  pub octets : IsOctets after
  pub less : length after < length rest

pub one_read : (content rest after : List ℕ) (found : List Property) (p : Property) → decode_meta content ≡ with_front found (decode_meta rest) → IsOctets rest → Some (p, after) ≡ property_at rest → Read1 content rest after found p
one_read content rest after found p decoded all is =
    let b : Begins rest p after = property_takes rest p after all (sym is) in
    record {
      decoded = decoded ∙ ap (λ o. with_front found o) (decode_first rest after p (sym is) b.split) ∙ with_front-more found p (decode_meta after);
      octets = b.octets_left;
      less = omega (arith, ap length b.split, length-append (encode_property p) after);
    }

-- ---- metadata that is judged and not built

some_more : (p : Property) (o : Option (List Property)) → is_some (option_map (λ ps. p ∷ ps) o) ≡ is_some o
some_more p None = refl
some_more p (Some ps) = refl

-- one property was passed
pub record Passed1 (content rest after : List ℕ) : Type 0 where
  pub told : is_some (decode_meta content) ≡ is_some (decode_meta after)
  pub octets : IsOctets after
  pub less : length after < length rest

pub one_passed : (content rest after : List ℕ) (p : Property) → is_some (decode_meta content) ≡ is_some (decode_meta rest) → IsOctets rest → Some (p, after) ≡ property_at rest → Passed1 content rest after
one_passed content rest after p told all is =
    let b : Begins rest p after = property_takes rest p after all (sym is) in
    record {
      told = told ∙ ap (λ o. is_some o) (decode_first rest after p (sym is) b.split) ∙ some_more p (decode_meta after);
      octets = b.octets_left;
      less = omega (arith, ap length b.split, length-append (encode_property p) after);
    }

pub none_left : (content rest : List ℕ) → is_some (decode_meta content) ≡ is_some (decode_meta rest) → 0 < length rest → None ≡ property_at rest → false ≡ is_some (decode_meta content)
none_left content rest told some is = sym (told ∙ ap (λ o. is_some o) (decode_none rest some (sym is)))

pub all_passed : (content rest : List ℕ) → is_some (decode_meta content) ≡ is_some (decode_meta rest) → rest ≡ [] → true ≡ is_some (decode_meta content)
all_passed content rest told empty = sym (told ∙ ap (λ l. is_some (decode_meta l)) empty ∙ ap (λ o. is_some o) decode_nothing)

-- what is told is whether the content is that of some properties
pub told_as : (content : List ℕ) (o : Option (List Property)) (r : Bool) → IsOctets content → decode_meta content ≡ o → r ≡ is_some o → IsTrue r ↔ ((ps : List Property) × All IsProperty ps × (content ≡ encode_meta ps))
told_as content None r all is told = (λ t. let clash : false ≡ true = sym told ∙ t in absurd cc, λ x. absurd (no_properties content is x.0 x.1 x.2))
told_as content (Some ps) r all is told = (λ t. let e = encode_meta-decode_meta ps content all is in (ps, e.0, e.1), λ x. told)
