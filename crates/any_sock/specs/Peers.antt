-- A peer comes to a socket of any kind, or goes, by its place (zmq_connect(3), zmq_disconnect(3)).
use Rattle.std.specs.Prelude.{◌≡◌, ◌<◌, ℕ, true, false, List, [], ◌∷◌, ◌++◌, All, Contains, nat_eq, Result, Ok, Err}
use Rattle.zq_base.specs.declared.attached.Attached.{Attached}
use Rattle.zq_base.specs.declared.attached.Attached.TheVariants.{Yes, BadId, Second}
use Rattle.zq_base.specs.declared.ids.PairId.{PairId}
use Rattle.spec_pattern.specs.PipeStep.{same_pipe}
use Rattle.spec_pattern.specs.TurnList.{End}
use Rattle.spec_pattern.specs.Pattern.{attach_answer, attach, detach}
use Rattle.spec_pattern.specs.Peers.{pattern_kind}
use Rattle.router_dealer.specs.Named.{IsIdentity, most_drawn}
use Rattle.pub_sub.specs.Places.{is_place, AreApart, AreOthers}
use Rattle.pub_sub.specs.Publishers.{kept_without}
use Rattle.any_sock.specs.Over.{HaveSamePlaces, peer_places, partner_places, over, left_of, Leftover}
use Rattle.any_sock.specs.declared.any_sock.AnySock.{AnySock}
use Rattle.any_sock.specs.declared.any_sock.AnySock.TheVariants as sock

-- a ROUTER takes a peer under what may be an identity, while a name is left to draw; the other kinds take each peer
abbrev pub CanName : AnySock → List ℕ → Type 0
CanName (sock.Router r) identity = IsIdentity identity × (r.drawn < most_drawn)
CanName _ identity = Unit {0}

-- the places after an attach: one more, or as before where the end was refused
abbrev pub AddsPlace : Attached → ℕ → AnySock → AnySock → Type 0
AddsPlace Yes place s s' = HaveSamePlaces (peer_places s ++ place ∷ []) (peer_places s')
AddsPlace BadId place s s' = s' ≡ s
AddsPlace Second place s s' = s' ≡ s

-- the end at the place was attached, or refused, as the kind does with it, whatever ends are there
pub record AttachedOver (place : ℕ) (identity : List ℕ) (s : AnySock) (answer : Attached) (s' : AnySock) : Type 0 where
  pub answers : (ends : ℕ → End) → answer ≡ attach_answer identity (over ends s)
  pub attaches : (ends : ℕ → End) → over ends s' ≡ attach (ends place) identity (over ends s)
  pub places : AddsPlace answer place s s'
  pub left_is : left_of s' ≡ left_of s

-- the end at a peer's place is of this pair, and is no other's of the socket
pub record IsOneEnd (ends : ℕ → End) (pair : PairId) (place : ℕ) (s : AnySock) : Type 0 where
  pub known : is_place (peer_places s) place ≡ true
  pub pair_is : (ends place).pair ≡ pair
  pub apart : AreApart ends (peer_places s)
  pub partner : All (λ k. same_pipe (ends place) (ends k) ≡ nat_eq place k) (partner_places s)

-- what was left to obey of a peer goes with it; what is to be given stays
abbrev pub left_without : ℕ → Leftover → Leftover
left_without place left = record left { to_obey = kept_without place left.to_obey }

-- the end at the place, of this pair, is a peer no longer: no other place is a peer's then than before, each other peer's stays, and neither a peer nor a partner has this one
pub record DetachedOver (pair : PairId) (place : ℕ) (s s' : AnySock) : Type 0 where
  pub detaches : (ends : ℕ → End) → IsOneEnd ends pair place s → over ends s' ≡ detach (ends place) (over ends s)
  pub places : All (Contains (peer_places s)) (peer_places s')
  pub stay : (k : ℕ) → nat_eq place k ≡ false → is_place (peer_places s) k ≡ true → is_place (peer_places s') k ≡ true
  pub peers_gone : AreOthers place (peer_places s')
  pub partner_gone : AreOthers place (partner_places s')
  pub left_is : left_of s' ≡ left_without place (left_of s)
  pub kind_is : (ends : ℕ → End) → pattern_kind (over ends s') ≡ pattern_kind (over ends s)

-- the places of the turns in which a publisher hears its peers
abbrev pub heard_places : AnySock → List ℕ
heard_places (sock.Pub p) = p.ins
heard_places (sock.XPub p) = p.ins
heard_places _ = []

-- the place is none that the socket keeps: no peer's, no partner's, and none that is heard
pub record IsNoPlace (place : ℕ) (s : AnySock) : Type 0 where
  pub peers : AreOthers place (peer_places s)
  pub partner : AreOthers place (partner_places s)
  pub heard : AreOthers place (heard_places s)

-- an attach of the end at the place, which the socket didn't keep, led from the one state to the other, whatever it answered
pub record CameOver (place : ℕ) (before now : AnySock) : Type 0 where
  pub no_place : IsNoPlace place before
  pub identity : List ℕ
  pub can_name : CanName before identity
  pub attached : (ends : ℕ → End) → over ends now ≡ attach (ends place) identity (over ends before)

-- all is as it was before, whatever ends are there
pub record IsAsBefore (before s : AnySock) : Type 0 where
  pub state_is : (ends : ℕ → End) → over ends s ≡ over ends before
  pub places_are : peer_places s ≡ peer_places before

-- the end at the place is a peer no longer, and where it was attached last, or refused, all is as it was before that; of what was left it goes as with a detach
pub record TakenBackOver (place : ℕ) (s s' : AnySock) : Type 0 where
  pub undone : (before : AnySock) → CameOver place before s → IsAsBefore before s'
  pub places : All (Contains (peer_places s)) (peer_places s')
  pub stay : (k : ℕ) → nat_eq place k ≡ false → is_place (peer_places s) k ≡ true → is_place (peer_places s') k ≡ true
  pub peers_gone : AreOthers place (peer_places s')
  pub partner_gone : AreOthers place (partner_places s')
  pub left_is : left_of s' ≡ left_without place (left_of s)
  pub kind_is : (ends : ℕ → End) → pattern_kind (over ends s') ≡ pattern_kind (over ends s)

-- an attach that refuses no peer
abbrev pub as_taken : {E : Type 0} → Result (Unit {0}) E → Result Attached E
as_taken (Ok done) = Ok Yes
as_taken (Err e) = Err e
