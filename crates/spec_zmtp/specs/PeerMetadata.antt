-- What a peer tells of itself in its metadata (RFC 23, "Connection Metadata").
use Rattle.std.specs.Prelude.{ℕ, Bool, not, ◌&&◌, nat_le, nat_eq, if◌then◌else◌, List, [], ◌∷◌, length, find, Option, Some, None, option_map, unwrap_or, Result, Ok, Err, codes}
use Rattle.std.specs.List.{starts_with}
use Rattle.std.specs.Str.{bytes_eq, str_eq_ignore_ascii_case}
use Rattle.zq_base.specs.Kind.{kind_name, fits}
use Rattle.zq_base.specs.declared.kind.Kind.{Kind}
use Rattle.zq_base.specs.declared.kind.Kind.TheVariants.{Push, Pull, Pair, Dealer, Req, Rep, Router, Pub, XPub, Sub, XSub}
use Rattle.zq_base.specs.declared.options.Peer.{Peer}
use Rattle.spec_zmtp.specs.declared.cause.Cause.{Cause}
use Rattle.spec_zmtp.specs.declared.cause.Cause.TheVariants.{BadMeta, NoKind, BadPair, BadIdentity}
use Rattle.spec_zmtp.specs.declared.command.Property.{Property}

-- the value of the first property of this name, whatever the case of its letters
abbrev pub value_of : List ℕ → List Property → Option (List ℕ)
value_of name ps = option_map (λ p. p.value) (find (λ p. str_eq_ignore_ascii_case p.name name) ps)

-- all kinds
abbrev pub kinds : List Kind
kinds = Push ∷ Pull ∷ Pair ∷ Dealer ∷ Req ∷ Rep ∷ Router ∷ Pub ∷ XPub ∷ Sub ∷ XSub ∷ []

-- the kind of this name
abbrev pub kind_named : List ℕ → Option Kind
kind_named name = find (λ k. bytes_eq (kind_name k) name) kinds

-- whether octets may be an identity: at most 255, of which the first is not 0; none is the empty one
abbrev pub is_identity : List ℕ → Bool
is_identity octets = nat_le (length octets) 255 && not (starts_with nat_eq octets (0 ∷ []))

-- a peer of this kind and identity, where our kind takes it
abbrev pub peer_fitting : Kind → List ℕ → Option Kind → Result Peer Cause
peer_fitting ours identity None = Err NoKind
peer_fitting ours identity (Some theirs) =
    if not (fits ours theirs) then Err BadPair else
    if not (is_identity identity) then Err BadIdentity else Ok (record { kind = theirs; identity = identity })

-- the peer that these properties tell of
unfoldable pub peer_of : Kind → List Property → Result Peer Cause
peer_of ours ps =
    peer_fitting ours (unwrap_or (value_of (codes "Identity") ps) [])
    (kind_named (unwrap_or (value_of (codes "Socket-Type") ps) []))

-- the peer that these properties, where they are some, tell of
abbrev pub peer_from : Kind → Option (List Property) → Result Peer Cause
peer_from ours None = Err BadMeta
peer_from ours (Some ps) = peer_of ours ps
