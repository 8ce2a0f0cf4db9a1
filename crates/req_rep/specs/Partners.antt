-- The peer of which a REQ awaits a reply, or to which a REP owes one (RFC 28, "The REQ Socket Type", "The REP Socket Type").
use Rattle.std.specs.Prelude.{◌≡◌, ◌==◌, ℕ, Bool, true, false, if◌then◌else◌, List, [], Option, Some, None, Contains}
use Rattle.zq_base.specs.Message.{Frames}
use Rattle.spec_pattern.specs.TurnList.{End}
use Rattle.req_rep.specs.declared.partner.Partner.{Partner}
use Rattle.req_rep.specs.declared.partner.Partner.TheVariants.{Nobody, At, Gone}

-- the end of a peer
abbrev pub end_of : (ℕ → End) → Partner → Option End
end_of ends Nobody = None
end_of ends (At place) = Some (ends place)
end_of ends Gone = None

-- the partner once the end at this place is no peer any more
abbrev pub without_partner : ℕ → Partner → Partner
without_partner place Nobody = Nobody
without_partner place (At other) = if other == place then Gone else At other
without_partner place Gone = Gone

-- whether there is no partner
abbrev pub is_nobody : Partner → Bool
is_nobody Nobody = true
is_nobody (At place) = false
is_nobody Gone = false

-- this holds of the partner's place
abbrev pub IsAt : (ℕ → Type 0) → Partner → Type 0
IsAt P Nobody = Unit {0}
IsAt P (At place) = P place
IsAt P Gone = Unit {0}

-- the places that a REQ sends to are among those that it receives from, and so is the peer that it asked
pub record IsReq (outs ins : List ℕ) (asked : Partner) : Type 0 where
  pub both : (place : ℕ) → Contains outs place → Contains ins place
  pub peer : IsAt (Contains ins) asked

-- the peer to which a REP owes a reply is one of its peers, and without one there is no envelope
pub record IsRep (ins : List ℕ) (owed : Partner) (envelope : Frames) : Type 0 where
  pub peer : IsAt (Contains ins) owed
  pub none : is_nobody owed ≡ true → envelope ≡ []
