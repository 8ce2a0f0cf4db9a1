-- A ROUTER that takes an attach back is, as a socket of any kind, as it was before.
use Rattle.std.proofs.Common.{◌≡◌, ℕ, Bool, true, false, cond, List, [], ◌∷◌, All, Contains, map, refl, sym, ap, subst, ◌∙◌, nat_eq, true≢false, is_some}
use Rattle.std.specs.Prelude.{Some, None, Ok}
use Rattle.std.proofs.lemmas.List.Elements.{All-nil, All-head, All-tail}
use Rattle.zq_base.specs.declared.attached.Attached.{Attached}
use Rattle.zq_base.specs.declared.attached.Attached.TheVariants.{Yes, BadId, Second}
use Rattle.zq_base.specs.declared.ids.PairId.{PairId}
use Rattle.spec_pattern.specs.TurnList.{End}
use Rattle.spec_pattern.specs.Routing.{named, Names}
use Rattle.spec_pattern.specs.Pattern.{Pattern, attach, attach_as, attach_answer, pair_answer, name_answer}
use Rattle.spec_pattern.specs.Pattern as by_kind
use Rattle.router_dealer.specs.PlaceNames.{PlaceName, name_placed}
use Rattle.router_dealer.specs.Named.{RouterState, Attaches, attached_state, detached_state}
use Rattle.router_dealer.specs.Named as router
use Rattle.router_dealer.specs.Laws.{router_at}
use Rattle.router_dealer.proofs.LawLemmas.{taken_in_at}
use Rattle.router_dealer.proofs.RouterLemmas.{same_state}
use Rattle.pub_sub.specs.Places.{is_place, AreOthers}
use Rattle.any_sock.specs.Over.{peer_places, left_of}
use Rattle.any_sock.specs.Peers.{DetachedOver, CameOver, IsAsBefore, TakenBackOver, left_without}
use Rattle.any_sock.specs.declared.any_sock.AnySock.{AnySock}
use Rattle.any_sock.specs.declared.any_sock.AnySock.TheVariants as sock
use Rattle.any_sock.proofs.PlaceLemmas.{all_front, all_behind}
use Rattle.any_sock.proofs.NamingLemmas.{told_apart, place_in, place_home, router_in, turns_home, names_home}
use Rattle.any_sock.proofs.DetachLemmas.{router_left}
use Rattle.any_sock.proofs.TakeBackLemmas.{is_router}

-- a ROUTER's part of a state
abbrev part_of : Pattern → by_kind.RouterState
part_of (by_kind.Router r) = r
part_of _ = record { ins = []; names = []; drawn = 0; mandatory = false }

-- a PAIR becomes no ROUTER
pair_stays : (a : Attached) (e : End) (identity : List ℕ) (t : by_kind.BothTurns) → is_router (attach_as a e identity (by_kind.Pair t)) ≡ false
pair_stays Yes e identity t = refl
pair_stays BadId e identity t = refl
pair_stays Second e identity t = refl

-- a place that no name has
no_name : (place : ℕ) (names : List PlaceName) → AreOthers place (map (λ n. n.place) names) → name_placed names place ≡ None
no_name place [] others = refl
no_name place (n ∷ names) others =
    let P = λ (k : ℕ). nat_eq place k ≡ false in
    let places = map (λ (n : PlaceName). n.place) names in
    ap (λ b. cond b (Some n.name) (name_placed names place)) (All-head P n.place places others) ∙ no_name place names (All-tail P n.place places others)

-- no name makes a peer a second one
never_second : (names : Names) (identity : List ℕ) → Second ≡ name_answer names identity → ⊥
never_second names [] e = cc
never_second names (octet ∷ octets) e = by (is_some (named names (octet ∷ octets))) e
  where
    by : (b : Bool) → Second ≡ cond b BadId Yes → ⊥
    by true h = cc
    by false h = cc

kept_same : (identity : List ℕ) (place : ℕ) (r : RouterState) → (attached_state identity place r).kept ≡ r.kept
kept_same [] place r = refl
kept_same (octet ∷ octets) place r = refl

module _ (pair : PairId) (place : ℕ) where
  abbrev at_places : ℕ → End
  at_places = told_apart pair place

  -- states of the same parts
  same_parts : (x y : RouterState) → router_at at_places x ≡ router_at at_places y → x.kept ≡ y.kept → x ≡ y
  same_parts x y e kept =
      let g = place_in pair place in
      let home = place_home pair place in
      let h = ap (λ p. router_in g (part_of p)) e in
      same_state y x
      (sym (turns_home g at_places home x.ins) ∙ ap (λ (r : RouterState). r.ins) h ∙ turns_home g at_places home y.ins)
      (sym (names_home g at_places home x.names) ∙ ap (λ (r : RouterState). r.names) h ∙ names_home g at_places home y.names)
      (ap (λ (r : RouterState). r.drawn) h) (ap (λ (r : RouterState). r.mandatory) h) kept

  -- what an attach did, by its answer; of a message that is kept the naming says nothing
  attached_at : (identity : List ℕ) (b r : RouterState) → b.kept ≡ r.kept → (a : Attached) → attach_answer identity (router_at at_places b) ≡ a
      → router_at at_places r ≡ attach (at_places place) identity (router_at at_places b) → Attaches {E = Unit {0}} identity place b (Ok a) r
  attached_at identity b r kept Yes is at =
      same_parts r (attached_state identity place b)
      (at ∙ ap (λ a. attach_as a (at_places place) identity (router_at at_places b)) is ∙ sym (taken_in_at at_places place identity b))
      (sym kept ∙ sym (kept_same identity place b))
  attached_at identity b r kept BadId is at =
      same_parts r b (at ∙ ap (λ a. attach_as a (at_places place) identity (router_at at_places b)) is) (sym kept)
  attached_at identity b r kept Second is at = absurd (never_second (part_of (router_at at_places b)).names identity (sym is))

  undone_router : (r r' : RouterState) → ((before : RouterState) → router.CameByAttach place before r → r' ≡ before)
      → (before : AnySock) → CameOver place before (sock.Router r) → IsAsBefore before (sock.Router r')
  undone_router r r' undone (sock.Router b) came =
      let P = λ (k : ℕ). nat_eq place k ≡ false in
      let names = map (λ (n : PlaceName). n.place) b.names in
      let kept : RouterState = record b { kept = r.kept } in
      let same = undone kept (record {
        no_peer = record {
          no_turn = all_front P b.ins names came.no_place.peers;
          no_name = no_name place b.names (all_behind P b.ins names came.no_place.peers);
        };
        identity = came.identity;
        may_be = came.can_name.0;
        answer = attach_answer came.identity (router_at at_places b);
        attached = attached_at came.identity kept r refl (attach_answer came.identity (router_at at_places b)) refl (came.attached at_places);
      }) in
      record {
        state_is = λ ends. ap (router_at ends) same;
        places_are = ap (λ q. peer_places (sock.Router q)) same;
      }
  undone_router r r' undone (sock.Push t) came = absurd (true≢false (ap is_router (came.attached at_places)))
  undone_router r r' undone (sock.Pull t) came = absurd (true≢false (ap is_router (came.attached at_places)))
  undone_router r r' undone (sock.Pair t) came =
      absurd (true≢false (ap is_router (came.attached at_places) ∙ pair_stays (pair_answer (map at_places t)) (at_places place) came.identity (record { outs = map at_places t; ins = map at_places t })))
  undone_router r r' undone (sock.Dealer t) came = absurd (true≢false (ap is_router (came.attached at_places)))
  undone_router r r' undone (sock.Req t) came = absurd (true≢false (ap is_router (came.attached at_places)))
  undone_router r r' undone (sock.Rep t) came = absurd (true≢false (ap is_router (came.attached at_places)))
  undone_router r r' undone (sock.Pub t) came = absurd (true≢false (ap is_router (came.attached at_places)))
  undone_router r r' undone (sock.XPub t) came = absurd (true≢false (ap is_router (came.attached at_places)))
  undone_router r r' undone (sock.Sub t) came = absurd (true≢false (ap is_router (came.attached at_places)))
  undone_router r r' undone (sock.XSub t) came = absurd (true≢false (ap is_router (came.attached at_places)))

  pub router_back : (s : AnySock) (r r' : RouterState) → s ≡ sock.Router r → r' ≡ record (detached_state place r) { drawn = r'.drawn }
      → ((before : RouterState) → router.CameByAttach place before r → r' ≡ before) → TakenBackOver place s (sock.Router r')
  router_back s r r' is leaves undone = subst (λ (t : AnySock). TakenBackOver place t (sock.Router r')) (sym is) (record {
    undone = undone_router r r' undone;
    places = subst (λ (q : RouterState). All (Contains (peer_places (sock.Router r))) (peer_places (sock.Router q))) (sym leaves) left.places;
    stay = λ k ne here. subst (λ (q : RouterState). is_place (peer_places (sock.Router q)) k ≡ true) (sym leaves) (left.stay k ne here);
    peers_gone = subst (λ (q : RouterState). AreOthers place (peer_places (sock.Router q))) (sym leaves) left.peers_gone;
    partner_gone = All-nil (λ k. nat_eq place k ≡ false);
    left_is = subst (λ (q : RouterState). left_of (sock.Router q) ≡ left_without place (left_of (sock.Router r))) (sym leaves) left.left_is;
    kind_is = λ ends. refl;
  })
    where
      left : DetachedOver pair place (sock.Router r) (sock.Router (detached_state place r))
      left = router_left pair place (sock.Router r) r (detached_state place r) refl refl
