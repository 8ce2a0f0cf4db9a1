-- A naming of the ends that tells places apart: what a socket is over it says what the socket is over each naming.
use Rattle.std.proofs.Common.{◌≡◌, ℕ, Bool, true, false, cond, List, [], ◌∷◌, ◌++◌, map, refl, sym, ap, ◌∙◌, nat_eq, eqb-true}
use Rattle.std.specs.Prelude.{Some, None}
use Rattle.std.specs.Map.{keys_of}
use Rattle.zq_base.specs.Message.{Frames}
use Rattle.zq_base.specs.declared.ids.PairId.{PairId}
use Rattle.spec_pattern.specs.PipeStep.{same_pipe}
use Rattle.spec_pattern.specs.TurnList.{End}
use Rattle.spec_pattern.specs.Duty.{Duty, Free, Asked, Owing}
use Rattle.spec_pattern.specs.Routing.{Names}
use Rattle.spec_pattern.specs.Topics.{Subscribers}
use Rattle.spec_pattern.specs.Publishing.{Publisher}
use Rattle.spec_pattern.specs.Subscribing.{Subscriber}
use Rattle.spec_pattern.specs.Pattern.{Pattern}
use Rattle.spec_pattern.specs.Pattern as by_kind
use Rattle.req_rep.specs.Asking.{asked_duty}
use Rattle.req_rep.specs.Answering.{owed_duty}
use Rattle.req_rep.specs.declared.partner.Partner.{Partner}
use Rattle.req_rep.specs.declared.partner.Partner.TheVariants.{Nobody, At, Gone}
use Rattle.router_dealer.specs.PlaceNames.{PlaceName, names_at}
use Rattle.router_dealer.specs.Named.{RouterState}
use Rattle.router_dealer.specs.Laws.{router_at}
use Rattle.router_dealer.proofs.PlaceNamesLemmas.{same_place, turned}
use Rattle.pub_sub.specs.Places.{subs_at}
use Rattle.pub_sub.specs.Publishers.{PubState, publisher_at}
use Rattle.pub_sub.specs.Subscribing.{SubState, subscriber_at}
use Rattle.any_sock.specs.Over.{both_at, over, peer_places}
use Rattle.any_sock.specs.declared.any_sock.AnySock.{AnySock}
use Rattle.any_sock.specs.declared.any_sock.AnySock.TheVariants as sock

module _ (pair : PairId) (place : ℕ) where
  -- the pair's end is at the place, and each other place has an end of the other side
  abbrev pub end_if : (here : Bool) → ℕ → End
  end_if here k = cond here (record { pair = pair; a = false }) (record { pair = record { 0 = k }; a = true })

  abbrev pub told_apart : ℕ → End
  told_apart k = end_if (nat_eq place k) k

  -- the place of an end
  abbrev pub place_in : End → ℕ
  place_in e = cond e.a e.pair.0 place

  pub place_home : (k : ℕ) → place_in (told_apart k) ≡ k
  place_home k = by (nat_eq place k) refl
    where
      by : (b : Bool) → nat_eq place k ≡ b → place_in (end_if b k) ≡ k
      by true e = eqb-true place k e
      by false e = refl

  pub pair_there : (told_apart place).pair ≡ pair
  pair_there = ap (λ (b : Bool). (end_if b place).pair) (same_place place)

  -- no two places have one end
  pub places_apart : (p q : ℕ) → same_pipe (told_apart p) (told_apart q) ≡ nat_eq p q
  places_apart p q = by (nat_eq place p) (nat_eq place q) refl refl
    where
      never : (b : Bool) → cond b false false ≡ false
      never true = refl
      never false = refl

      itself : (b : Bool) → cond b true false ≡ b
      itself true = refl
      itself false = refl

      by : (b c : Bool) → nat_eq place p ≡ b → nat_eq place q ≡ c → same_pipe (end_if b p) (end_if c q) ≡ nat_eq p q
      by true true e d =
          ap (λ b. cond b true false) (same_place pair.0)
          ∙ sym (same_place place) ∙ ap (nat_eq place) (eqb-true place q d) ∙ ap (λ k. nat_eq k q) (eqb-true place p e)
      by true false e d = never (nat_eq pair.0 q) ∙ sym (ap (λ k. nat_eq k q) (sym (eqb-true place p e)) ∙ d)
      by false true e d = never (nat_eq p pair.0) ∙ sym (ap (nat_eq p) (sym (eqb-true place q d)) ∙ turned p place ∙ e)
      by false false e d = itself (nat_eq p q)

-- ---- the socket over places that its state over ends says

module _ (g : End → ℕ) where
  abbrev pub partner_in : Duty → Partner
  partner_in Free = Nobody
  partner_in (Asked None) = Gone
  partner_in (Asked (Some e)) = At (g e)
  partner_in (Owing None envelope) = Gone
  partner_in (Owing (Some e) envelope) = At (g e)

  abbrev pub envelope_in : Duty → Frames
  envelope_in Free = []
  envelope_in (Asked peer) = []
  envelope_in (Owing peer envelope) = envelope

  abbrev pub names_in : Names → List PlaceName
  names_in names = map (λ n. record { name = n.name; place = g n.peer }) names

  abbrev pub subs_in : Subscribers End → Subscribers ℕ
  subs_in subs = map (λ s. (g s.0, s.1)) subs

  abbrev pub publisher_in : Publisher → PubState
  publisher_in p = record { ins = map g p.ins; subs = subs_in p.subs; kept = None; inbox = p.inbox; verbose = p.verbose; tells = p.tells }

  abbrev pub subscriber_in : Subscriber → SubState
  subscriber_in s = record { ins = map g s.ins; wanted = s.wanted; followers = subs_in s.followers }

  abbrev pub router_in : by_kind.RouterState → RouterState
  router_in r = record { ins = map g r.ins; names = names_in r.names; drawn = r.drawn; mandatory = r.mandatory; kept = None }

  abbrev pub sock_in : Pattern → AnySock
  sock_in (by_kind.Push outs) = sock.Push (map g outs)
  sock_in (by_kind.Pull ins) = sock.Pull (map g ins)
  sock_in (by_kind.Pair t) = sock.Pair (map g t.outs)
  sock_in (by_kind.Dealer t) = sock.Dealer (record { outs = map g t.outs; ins = map g t.ins })
  sock_in (by_kind.Req t duty) = sock.Req (record { outs = map g t.outs; ins = map g t.ins; asked = partner_in duty })
  sock_in (by_kind.Rep ins duty) = sock.Rep (record { ins = map g ins; owed = partner_in duty; envelope = envelope_in duty })
  sock_in (by_kind.Router r) = sock.Router (router_in r)
  sock_in (by_kind.Pub p) = sock.Pub (publisher_in p)
  sock_in (by_kind.XPub p) = sock.XPub (publisher_in p)
  sock_in (by_kind.Sub s) = sock.Sub (subscriber_in s)
  sock_in (by_kind.XSub s) = sock.XSub (subscriber_in s)

  module _ (f : ℕ → End) (home : (k : ℕ) → g (f k) ≡ k) where
    pub turns_home : (ks : List ℕ) → map g (map f ks) ≡ ks
    turns_home [] = refl
    turns_home (k ∷ ks) = λ i. home k i ∷ turns_home ks i

    pub names_home : (ns : List PlaceName) → names_in (names_at f ns) ≡ ns
    names_home [] = refl
    names_home (n ∷ ns) = λ i. record { name = n.name; place = home n.place i } ∷ names_home ns i

    subs_home : (subs : Subscribers ℕ) → subs_in (subs_at f subs) ≡ subs
    subs_home [] = refl
    subs_home (s ∷ subs) = λ i. (home s.0 i, s.1) ∷ subs_home subs i

    asked_home : (ends : ℕ → End) (p : Partner) → asked_duty ends (partner_in (asked_duty f p)) ≡ asked_duty ends p
    asked_home ends Nobody = refl
    asked_home ends (At k) = ap (λ n. Asked (Some (ends n))) (home k)
    asked_home ends Gone = refl

    owed_home : (ends : ℕ → End) (p : Partner) (envelope : Frames)
        → owed_duty ends (partner_in (owed_duty f p envelope)) (envelope_in (owed_duty f p envelope)) ≡ owed_duty ends p envelope
    owed_home ends Nobody envelope = refl
    owed_home ends (At k) envelope = ap (λ n. Owing (Some (ends n)) envelope) (home k)
    owed_home ends Gone envelope = refl

    -- the state over each naming
    pub over_home : (ends : ℕ → End) (s : AnySock) → over ends (sock_in (over f s)) ≡ over ends s
    over_home ends (sock.Push turns) = ap (λ l. by_kind.Push (map ends l)) (turns_home turns)
    over_home ends (sock.Pull turns) = ap (λ l. by_kind.Pull (map ends l)) (turns_home turns)
    over_home ends (sock.Pair turns) = ap (λ l. by_kind.Pair (both_at ends l l)) (turns_home turns)
    over_home ends (sock.Dealer t) = λ i. by_kind.Dealer (both_at ends (turns_home t.outs i) (turns_home t.ins i))
    over_home ends (sock.Req r) = λ i. by_kind.Req (both_at ends (turns_home r.outs i) (turns_home r.ins i)) (asked_home ends r.asked i)
    over_home ends (sock.Rep r) = λ i. by_kind.Rep (map ends (turns_home r.ins i)) (owed_home ends r.owed r.envelope i)
    over_home ends (sock.Router r) = λ i. router_at ends (record { ins = turns_home r.ins i; names = names_home r.names i; drawn = r.drawn; mandatory = r.mandatory; kept = None })
    over_home ends (sock.Pub p) = λ i. by_kind.Pub (publisher_at ends (record p { ins = turns_home p.ins i; subs = subs_home p.subs i }))
    over_home ends (sock.XPub p) = λ i. by_kind.XPub (publisher_at ends (record p { ins = turns_home p.ins i; subs = subs_home p.subs i }))
    over_home ends (sock.Sub u) = λ i. by_kind.Sub (subscriber_at ends (record { ins = turns_home u.ins i; wanted = u.wanted; followers = subs_home u.followers i }))
    over_home ends (sock.XSub u) = λ i. by_kind.XSub (subscriber_at ends (record { ins = turns_home u.ins i; wanted = u.wanted; followers = subs_home u.followers i }))

    -- and its places
    pub places_home : (s : AnySock) → peer_places (sock_in (over f s)) ≡ peer_places s
    places_home (sock.Push turns) = turns_home turns
    places_home (sock.Pull turns) = turns_home turns
    places_home (sock.Pair turns) = turns_home turns
    places_home (sock.Dealer t) = λ i. turns_home t.outs i ++ turns_home t.ins i
    places_home (sock.Req r) = λ i. turns_home r.outs i ++ turns_home r.ins i
    places_home (sock.Rep r) = turns_home r.ins
    places_home (sock.Router r) = λ i. turns_home r.ins i ++ map (λ (n : PlaceName). n.place) (names_home r.names i)
    places_home (sock.Pub p) = ap keys_of (subs_home p.subs)
    places_home (sock.XPub p) = ap keys_of (subs_home p.subs)
    places_home (sock.Sub u) = λ i. turns_home u.ins i ++ keys_of (subs_home u.followers i)
    places_home (sock.XSub u) = λ i. turns_home u.ins i ++ keys_of (subs_home u.followers i)
