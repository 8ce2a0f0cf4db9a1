-- A socket of any kind over its attached ends, by their places (own choice).
use Rattle.std.specs.Prelude.{ℕ, Bool, List, [], ◌∷◌, ◌++◌, map, Option, None, All, Contains}
use Rattle.std.specs.Map.{keys_of}
use Rattle.zq_base.specs.Message.{Frames}
use Rattle.spec_pattern.specs.TurnList.{End}
use Rattle.spec_pattern.specs.Pattern.{BothTurns}
use Rattle.spec_pattern.specs.Pattern as by_kind
use Rattle.spec_pattern.specs.AtPlaces.{TellsWritable}
use Rattle.req_rep.specs.Asking.{asked_duty}
use Rattle.req_rep.specs.Answering.{owed_duty}
use Rattle.req_rep.specs.declared.partner.Partner.{Partner}
use Rattle.req_rep.specs.declared.partner.Partner.TheVariants.{Nobody, At, Gone}
use Rattle.router_dealer.specs.Named.{Kept}
use Rattle.router_dealer.specs.Laws.{router_at}
use Rattle.pub_sub.specs.Places.{AreApart}
use Rattle.pub_sub.specs.Publishers.{publisher_at, meant}
use Rattle.pub_sub.specs.Subscribing.{subscriber_at}
use Rattle.any_sock.specs.declared.any_sock.AnySock.{AnySock}
use Rattle.any_sock.specs.declared.any_sock.AnySock.TheVariants as sock

-- ---- the places of a socket

-- the places of its peers: those of its turns, a ROUTER's named ones and a subscriber's told ones too, and a publisher's listed ones
abbrev pub peer_places : AnySock → List ℕ
peer_places (sock.Push turns) = turns
peer_places (sock.Pull turns) = turns
peer_places (sock.Pair turns) = turns
peer_places (sock.Dealer t) = t.outs ++ t.ins
peer_places (sock.Req r) = r.outs ++ r.ins
peer_places (sock.Rep r) = r.ins
peer_places (sock.Router r) = r.ins ++ map (λ n. n.place) r.names
peer_places (sock.Pub p) = keys_of p.subs
peer_places (sock.XPub p) = keys_of p.subs
peer_places (sock.Sub u) = u.ins ++ keys_of u.followers
peer_places (sock.XSub u) = u.ins ++ keys_of u.followers

-- the place of a partner
abbrev pub partner_place : Partner → List ℕ
partner_place Nobody = []
partner_place (At place) = place ∷ []
partner_place Gone = []

-- the place of the peer that was asked, or to which a reply is owed
abbrev pub partner_places : AnySock → List ℕ
partner_places (sock.Req r) = partner_place r.asked
partner_places (sock.Rep r) = partner_place r.owed
partner_places _ = []

-- two lists have the same places
pub record HaveSamePlaces (old new : List ℕ) : Type 0 where
  pub none_new : All (Contains old) new
  pub none_gone : All (Contains new) old

-- ---- its state

-- the turns for sending and for receiving, by the ends
abbrev pub both_at : (ℕ → End) → List ℕ → List ℕ → BothTurns
both_at ends outs ins = record { outs = map ends outs; ins = map ends ins }

-- the state of the socket, where these ends are at its places
abbrev pub over : (ℕ → End) → AnySock → by_kind.Pattern
over ends (sock.Push turns) = by_kind.Push (map ends turns)
over ends (sock.Pull turns) = by_kind.Pull (map ends turns)
over ends (sock.Pair turns) = by_kind.Pair (both_at ends turns turns)
over ends (sock.Dealer t) = by_kind.Dealer (both_at ends t.outs t.ins)
over ends (sock.Req r) = by_kind.Req (both_at ends r.outs r.ins) (asked_duty ends r.asked)
over ends (sock.Rep r) = by_kind.Rep (map ends r.ins) (owed_duty ends r.owed r.envelope)
over ends (sock.Router r) = router_at ends r
over ends (sock.Pub p) = by_kind.Pub (publisher_at ends p)
over ends (sock.XPub p) = by_kind.XPub (publisher_at ends p)
over ends (sock.Sub u) = by_kind.Sub (subscriber_at ends u)
over ends (sock.XSub u) = by_kind.XSub (subscriber_at ends u)

-- ---- what want of memory left to do

-- a message that was taken and is still to be given, and one of the peer at a place that is still to be obeyed
pub record Leftover : Type 0 where
  pub to_give : Option Kept
  pub to_obey : Option (ℕ × Frames)

abbrev pub nothing_left : Leftover
nothing_left = record { to_give = None; to_obey = None }

abbrev pub left_of : AnySock → Leftover
left_of (sock.Router r) = record { to_give = r.kept; to_obey = None }
left_of (sock.Pub p) = record { to_give = None; to_obey = p.kept }
left_of (sock.XPub p) = record { to_give = None; to_obey = p.kept }
left_of _ = nothing_left

-- the socket once it obeyed what was left, as it does before each call
abbrev pub caught_up : (ℕ → End) → AnySock → AnySock
caught_up ends (sock.Pub p) = sock.Pub (meant ends p)
caught_up ends (sock.XPub p) = sock.XPub (meant ends p)
caught_up ends s = s

-- the socket as a receive begins with it: an XPUB obeys what was left
abbrev pub as_received : (ℕ → End) → AnySock → AnySock
as_received ends (sock.XPub p) = sock.XPub (meant ends p)
as_received ends s = s

-- ---- a reading of the ends

-- the test says of the end at each place that the socket keeps whether it can be written, and no two of its peers have one end
pub record IsReadingOf (can_write : End → Bool) (ends : ℕ → End) (writable : ℕ → Bool) (s : AnySock) : Type 0 where
  pub peers : TellsWritable can_write ends writable (peer_places s)
  pub partner : TellsWritable can_write ends writable (partner_places s)
  pub apart : AreApart ends (peer_places s)
