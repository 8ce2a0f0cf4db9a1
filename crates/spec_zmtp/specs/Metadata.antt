-- Commands and metadata, by the octets of each (RFC 23, "Formal Grammar"; RFC 24).
use Rattle.std.specs.Prelude.{◌≡◌, ℕ, ◌<◌, ◌≤◌, ◌^◌, Bool, ◌&&◌, ◌||◌, ◌==◌, nat_le, IsTrue, List, [], ◌∷◌, ◌++◌, length, codes, slice_index}
use Rattle.std.specs.List.{flat_map, list_all}
use Rattle.std.specs.Str.{bytes_eq}
use Rattle.std.specs.Int.{w32, to_be_bytes}
use Rattle.zq_base.specs.declared.options.Login.{Login}
use Rattle.spec_zmtp.specs.declared.command.Command.{Command}
use Rattle.spec_zmtp.specs.declared.command.Property.{Property}

-- ---- commands

-- numbers that are octets
abbrev pub IsOctets : List ℕ → Type 0
IsOctets octets = (i : ℕ) → slice_index octets i < 256

-- octets behind one octet that counts them
abbrev pub counted : List ℕ → List ℕ
counted octets = length octets ∷ octets

-- octets that one octet can count
abbrev pub IsShort : List ℕ → Type 0
IsShort octets = length octets ≤ 255

-- a command of this name and content
abbrev pub command : List ℕ → List ℕ → Command
command name content = record { name = name; content = content }

-- the body of a command: its name, counted, and its content
abbrev pub encode_command : Command → List ℕ
encode_command c = counted c.name ++ c.content

-- a login of this user and password
abbrev pub login : List ℕ → List ℕ → Login
login user pass = record { user = user; pass = pass }

-- the content of a HELLO: a user and a password
abbrev pub encode_login : Login → List ℕ
encode_login l = counted l.user ++ counted l.pass

-- a user and a password that a HELLO can carry
abbrev pub IsLogin : Login → Type 0
IsLogin l = IsShort l.user × IsShort l.pass

-- whether a command has this name, compared octet by octet
abbrev pub is_called : List ℕ → Command → Bool
is_called name c = bytes_eq c.name name

-- a command: it has a name, and the content of a HELLO, an ERROR or a WELCOME has its form
pub record IsCommand (c : Command) : Type 0 where
  pub named : 1 ≤ length c.name
  pub short : IsShort c.name
  pub hello : c.name ≡ codes "HELLO" → (l : Login) × IsLogin l × (c.content ≡ encode_login l)
  pub error : c.name ≡ codes "ERROR" → (reason : List ℕ) × IsShort reason × (c.content ≡ counted reason)
  pub welcome : c.name ≡ codes "WELCOME" → c.content ≡ []

-- ---- metadata

-- letters, digits, - _ . +
abbrev pub is_name_octet : ℕ → Bool
is_name_octet c =
    (nat_le 48 c && nat_le c 57) || (nat_le 65 c && nat_le c 90) || (nat_le 97 c && nat_le c 122)
    || (c == 45) || (c == 95) || (c == 46) || (c == 43)

-- a property that can be told
pub record IsProperty (p : Property) : Type 0 where
  pub named : 1 ≤ length p.name
  pub short : IsShort p.name
  pub octets : IsTrue (list_all is_name_octet p.name)
  pub fits : length p.value < 2 ^ 32

-- a property of this name and value
abbrev pub property : List ℕ → List ℕ → Property
property name value = record { name = name; value = value }

-- a property: its name, counted, and its value behind four octets that count it, in network order
abbrev pub encode_property : Property → List ℕ
encode_property p = counted p.name ++ (to_be_bytes w32 (length p.value) ++ p.value)

-- metadata: its properties, one behind the other
abbrev pub encode_meta : List Property → List ℕ
encode_meta ps = flat_map encode_property ps
