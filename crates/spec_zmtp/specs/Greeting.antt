-- The greeting of 64 octets (RFC 23, "Version Negotiation" and "Formal Grammar").
use Rattle.std.specs.Prelude.{◌≡◌, ◌≤◌, ℕ, not, ◌&&◌, ◌==◌, nat_lt, nat_le, nat_eq, if◌then◌else◌, List, [], ◌∷◌, ◌++◌, length, take, drop, replicate, slice_index, codes, Option, Some, None}
use Rattle.std.specs.List.{starts_with}
use Rattle.zq_base.specs.declared.options.Role.{Role}
use Rattle.zq_base.specs.declared.options.Role.TheVariants.{Null, PlainClient, PlainServer}
use Rattle.spec_zmtp.specs.declared.cause.Refusal.{Refusal}
use Rattle.spec_zmtp.specs.declared.cause.Cause.TheVariants as cause
use Rattle.spec_zmtp.specs.declared.greeting.Judgement.{Judgement}
use Rattle.spec_zmtp.specs.declared.greeting.Judgement.TheVariants.{NeedMore, Good, BadSignature, OldVersion, OtherMechanism}

-- the mechanism's name, filled up with octets 0 to twenty
abbrev pub mechanism_of : Role → List ℕ
mechanism_of Null = codes "NULL" ++ replicate 16 0
mechanism_of PlainClient = codes "PLAIN" ++ replicate 15 0
mechanism_of PlainServer = codes "PLAIN" ++ replicate 15 0

-- 1 from a PLAIN server, else 0
abbrev pub as_server : Role → ℕ
as_server Null = 0
as_server PlainClient = 0
as_server PlainServer = 1

-- the octet FF, eight octets 0, and the octet 7F
abbrev pub signature : List ℕ
signature = 255 ∷ replicate 8 0 ++ 127 ∷ []

-- the version that is spoken: 3.0
abbrev pub version : List ℕ
version = 3 ∷ 0 ∷ []

-- the greeting that a side of this role writes
abbrev pub greeting_of : Role → List ℕ
greeting_of role = signature ++ version ++ mechanism_of role ++ (as_server role ∷ replicate 31 0)

-- a greeting that this role accepts; octets 1 to 8, 11 and from 32 on may be any (own choice: octet 32, too)
pub record IsAccepted (role : Role) (octets : List ℕ) : Type 0 where
  pub whole : 64 ≤ length octets
  pub first : slice_index octets 0 ≡ 255
  pub tenth : slice_index octets 9 ≡ 127
  pub version : 3 ≤ slice_index octets 10
  pub mechanism : take 20 (drop 12 octets) ≡ mechanism_of role

-- What the first octets of a peer's stream say to this role: the first fault, in the order in which
-- octets come, as soon as the octets that tell it are there
abbrev pub judged : Role → List ℕ → Judgement
judged role octets =
    if nat_le 10 (length octets) && not (slice_index octets 0 == 255) then BadSignature 0 else
    if nat_le 10 (length octets) && not (slice_index octets 9 == 127) then BadSignature 9 else
    if nat_le 11 (length octets) && nat_lt (slice_index octets 10) 3 then OldVersion (slice_index octets 10) else
    if nat_le 32 (length octets) && not (starts_with nat_eq (drop 12 octets) (mechanism_of role)) then OtherMechanism else
    if nat_lt (length octets) 64 then NeedMore else Good

-- the refusal that a judgement is, if it is one
abbrev pub refusal_in : Judgement → Option Refusal
refusal_in NeedMore = None
refusal_in Good = None
refusal_in (BadSignature offset) = Some (record { cause = cause.BadSignature; offset = offset })
refusal_in (OldVersion major) = Some (record { cause = cause.OldVersion; offset = 10 })
refusal_in OtherMechanism = Some (record { cause = cause.OtherMechanism; offset = 12 })

-- the refusal of a peer's stream by its greeting
abbrev pub greeting_refusal : Role → List ℕ → Option Refusal
greeting_refusal role octets = refusal_in (judged role octets)
