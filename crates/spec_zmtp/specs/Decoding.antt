-- What octets are a command or metadata (RFC 23, "Formal Grammar"; RFC 24): each decoding undoes an encoding.
use Rattle.std.specs.Prelude.{ℕ, ◌-◌, Bool, true, false, ◌||◌, ◌==◌, nat_lt, if◌then◌else◌, zero, suc, List, [], ◌∷◌, length, take, drop, Option, Some, None, is_some, option_map, codes}
use Rattle.std.specs.List.{list_all}
use Rattle.std.specs.Int.{w32, from_be_bytes}
use Rattle.zq_base.specs.declared.options.Login.{Login}
use Rattle.spec_zmtp.specs.declared.command.Command.{Command}
use Rattle.spec_zmtp.specs.declared.command.Property.{Property}
use Rattle.spec_zmtp.specs.Metadata.{is_called, is_name_octet, encode_property, command, property, login}

-- ---- commands

-- whether octets are counted by the one in front of them
abbrev pub is_counted : List ℕ → Bool
is_counted [] = false
is_counted (n ∷ octets) = length octets == n

-- the login of this user whose password is counted by the octet in front of it
abbrev pub with_pass : List ℕ → List ℕ → Option Login
with_pass user [] = None
with_pass user (n ∷ pass) = if length pass == n then Some (login user pass) else None

-- the login that a content is
unfoldable pub decode_login : List ℕ → Option Login
decode_login [] = None
decode_login (n ∷ octets) = if nat_lt (length octets) n then None else with_pass (take n octets) (drop n octets)

-- whether octets are none
abbrev pub is_nothing : List ℕ → Bool
is_nothing [] = true
is_nothing (octet ∷ octets) = false

-- whether the content of a known command has its form, metadata aside
abbrev pub has_form : Command → Bool
has_form c =
    if is_called (codes "HELLO") c then is_some (decode_login c.content) else
    if is_called (codes "ERROR") c then is_counted c.content else
    if is_called (codes "WELCOME") c then is_nothing c.content else true

-- a command, where it has its form
abbrev pub formed : Command → Option Command
formed c = if has_form c then Some c else None

-- the command whose body these octets are
unfoldable pub decode_command : List ℕ → Option Command
decode_command [] = None
decode_command (n ∷ body) =
    if (n == 0) || nat_lt (length body) n then None else formed (command (take n body) (drop n body))

-- ---- metadata

-- a value of this size at the front, and what follows it
unfoldable pub sized_at : List ℕ → ℕ → List ℕ → Option (Property × List ℕ)
sized_at name size rest =
    if nat_lt (length rest) size then None else Some (property name (take size rest), drop size rest)

-- a counted value at the front
unfoldable pub value_at : List ℕ → List ℕ → Option (Property × List ℕ)
value_at name rest =
    if nat_lt (length rest) 4 then None else sized_at name (from_be_bytes w32 (take 4 rest)) (drop 4 rest)

-- a value at the front, behind a name that is one
unfoldable pub named_at : List ℕ → List ℕ → Option (Property × List ℕ)
named_at name rest = if list_all is_name_octet name then value_at name rest else None

-- the property at the front, and what follows it
unfoldable pub property_at : List ℕ → Option (Property × List ℕ)
property_at [] = None
property_at (n ∷ rest) =
    if (n == 0) || nat_lt (length rest) n then None else named_at (take n rest) (drop n rest)

-- a first property before others
abbrev pub before_others : Option (Property × List ℕ) → (ℕ → Option (List Property)) → Option (List Property)
before_others None others = None
before_others (Some (p, rest)) others = option_map (λ ps. p ∷ ps) (others (length (encode_property p) - 1))

-- the properties of the octets behind the first n
unfoldable pub properties_behind : List ℕ → ℕ → Option (List Property)
properties_behind [] zero = Some []
properties_behind [] (suc n) = None
properties_behind (octet ∷ rest) zero = before_others (property_at (octet ∷ rest)) (λ n. properties_behind rest n)
properties_behind (octet ∷ rest) (suc n) = properties_behind rest n

-- the properties whose octets these are
abbrev pub decode_meta : List ℕ → Option (List Property)
decode_meta content = properties_behind content 0
