-- A detach of the end that was attached last takes the attach back, but for a ROUTER's drawn name.
use Rattle.std.proofs.Common.{◌≡◌, ℕ, Bool, true, false, cond, List, [], ◌∷◌, ◌++◌, Contains, map, filter, not, refl, sym, ap, subst, ◌∙◌, nat_eq, true≢false, arith}
use Rattle.std.specs.Prelude.{Some, None, Option}
use Rattle.std.specs.Cmp.{nat_eq_equiv}
use Rattle.std.specs.Map.{keys_of, lookup}
use Rattle.std.specs.Option.{unwrap_or}
use Rattle.std.proofs.lemmas.List.{append-nil, map-append}
use Rattle.std.proofs.lemmas.List.Elements.{All-head, All-tail, All-weaker, All-contains_itself, Contains-append_left, Contains-append_right, Contains-push}
use Rattle.std.proofs.lemmas.Map.Views.{list_any-from_Contains}
use Rattle.zq_base.specs.Message.{Frames}
use Rattle.zq_base.specs.declared.attached.Attached.{Attached}
use Rattle.zq_base.specs.declared.attached.Attached.TheVariants.{Yes, BadId, Second}
use Rattle.zq_base.specs.declared.ids.PairId.{PairId}
use Rattle.spec_pattern.specs.PipeStep.{same_pipe}
use Rattle.spec_pattern.specs.TurnList.{End}
use Rattle.spec_pattern.specs.Duty.{Asked, Owing}
use Rattle.spec_pattern.specs.Topics.{Topic, Subscribers, without_peer, topics_gone, others_have}
use Rattle.spec_pattern.specs.Publishing.{cancel_of, with_subscriber, without_subscriber}
use Rattle.spec_pattern.specs.Subscribing.{with_publisher, without_publisher}
use Rattle.spec_pattern.specs.Pattern.{Pattern, attach_as, pair_answer, attach_answer, taken_in, detach, without, duty_without}
use Rattle.spec_pattern.specs.Pattern as by_kind
use Rattle.msg_pipe.specs.Turns.{without_place}
use Rattle.req_rep.specs.Asking.{asked_duty}
use Rattle.req_rep.specs.Answering.{owed_duty}
use Rattle.req_rep.specs.declared.partner.Partner.{Partner}
use Rattle.req_rep.specs.declared.partner.Partner.TheVariants.{Nobody, At, Gone}
use Rattle.router_dealer.proofs.PlaceNamesLemmas.{same_place}
use Rattle.router_dealer.proofs.TakeBackLemmas.{turns_none}
use Rattle.router_dealer.specs.Named.{RouterState}
use Rattle.pub_sub.specs.Places.{subs_at, AreOthers}
use Rattle.pub_sub.specs.Publishers.{PubState, publisher_at}
use Rattle.pub_sub.specs.Subscribing.{SubState, subscriber_at}
use Rattle.any_sock.specs.Over.{over, peer_places, partner_place, partner_places}
use Rattle.any_sock.specs.Peers.{IsOneEnd, DetachedOver, IsNoPlace, CameOver, IsAsBefore, TakenBackOver}
use Rattle.any_sock.specs.declared.any_sock.AnySock.{AnySock}
use Rattle.any_sock.specs.declared.any_sock.AnySock.TheVariants as sock
use Rattle.any_sock.proofs.PlaceLemmas.{all_front, all_behind}
use Rattle.any_sock.proofs.NamingLemmas.{told_apart, place_in, place_home, pair_there, places_apart, subs_in, sock_in, over_home, places_home}

-- ---- an end that none of these is, behind them

module _ (f : ℕ → End) (place : ℕ) (apart : (k : ℕ) → same_pipe (f place) (f k) ≡ nat_eq place k) where
  itself : same_pipe (f place) (f place) ≡ true
  itself = apart place ∙ same_place place

  turns_undone : (ks : List ℕ) → AreOthers place ks → without (f place) (map f ks ++ f place ∷ []) ≡ map f ks
  turns_undone [] others = ap (λ b. cond (not b) (f place ∷ []) []) itself
  turns_undone (k ∷ ks) others =
      let P = λ (k : ℕ). nat_eq place k ≡ false in
      let rest = without (f place) (map f ks ++ f place ∷ []) in
      ap (λ b. cond (not b) (f k ∷ rest) rest) (apart k ∙ All-head P k ks others) ∙ ap (λ l. f k ∷ l) (turns_undone ks (All-tail P k ks others))

  asked_undone : (p : Partner) → AreOthers place (partner_place p) → duty_without (f place) (asked_duty f p) ≡ asked_duty f p
  asked_undone Nobody others = refl
  asked_undone (At k) others = ap (λ b. Asked (cond b None (Some (f k)))) (apart k ∙ All-head (λ (k : ℕ). nat_eq place k ≡ false) k [] others)
  asked_undone Gone others = refl

  owed_undone : (p : Partner) (envelope : Frames) → AreOthers place (partner_place p) → duty_without (f place) (owed_duty f p envelope) ≡ owed_duty f p envelope
  owed_undone Nobody envelope others = refl
  owed_undone (At k) envelope others = ap (λ b. Owing (cond b None (Some (f k))) envelope) (apart k ∙ All-head (λ (k : ℕ). nat_eq place k ≡ false) k [] others)
  owed_undone Gone envelope others = refl

  subs_undone : (subs : Subscribers ℕ) → AreOthers place (keys_of subs) → without_peer same_pipe (f place) (subs_at f subs ++ (f place, []) ∷ []) ≡ subs_at f subs
  subs_undone [] others = ap (λ b. cond b [] ((f place, []) ∷ [])) itself
  subs_undone (s ∷ subs) others =
      let P = λ (k : ℕ). nat_eq place k ≡ false in
      let rest = subs_at f subs ++ (f place, []) ∷ [] in
      ap (λ b. cond b rest ((f s.0, s.1) ∷ without_peer same_pipe (f place) rest)) (apart s.0 ∙ All-head P s.0 (keys_of subs) others)
      ∙ ap (λ (l : Subscribers End). (f s.0, s.1) ∷ l) (subs_undone subs (All-tail P s.0 (keys_of subs) others))

  -- it has no topic
  none_listed : (subs : Subscribers ℕ) → AreOthers place (keys_of subs) → lookup (same_pipe (f place)) (subs_at f subs ++ (f place, []) ∷ []) ≡ Some []
  none_listed [] others = ap (λ (b : Bool). cond b (Some []) None) itself
  none_listed (s ∷ subs) others =
      let P = λ (k : ℕ). nat_eq place k ≡ false in
      ap (λ b. cond b (Some s.1) (lookup (same_pipe (f place)) (subs_at f subs ++ (f place, []) ∷ []))) (apart s.0 ∙ All-head P s.0 (keys_of subs) others)
      ∙ none_listed subs (All-tail P s.0 (keys_of subs) others)

  none_gone : (subs : Subscribers ℕ) → AreOthers place (keys_of subs) → topics_gone same_pipe (subs_at f subs ++ (f place, []) ∷ []) (f place) ≡ []
  none_gone subs others =
      let all = subs_at f subs ++ (f place, []) ∷ [] in
      ap (λ (o : Option (List Topic)). filter (λ t. not (others_have same_pipe all (f place) t)) (unwrap_or o [])) (none_listed subs others)

  publisher_undone : (p : PubState) → AreOthers place p.ins → AreOthers place (keys_of p.subs)
      → without_subscriber (f place) (with_subscriber (f place) (publisher_at f p)) ≡ publisher_at f p
  publisher_undone p ins subs =
      let inbox = by p.tells in
      λ i. record { ins = turns_undone p.ins ins i; subs = subs_undone p.subs subs i; inbox = inbox i; verbose = p.verbose; tells = p.tells }
    where
      gone : List Topic
      gone = topics_gone same_pipe (subs_at f p.subs ++ (f place, []) ∷ []) (f place)

      by : (b : Bool) → cond b (p.inbox ++ map (cancel_of (f place)) gone) p.inbox ≡ p.inbox
      by true = ap (λ l. p.inbox ++ map (cancel_of (f place)) l) (none_gone p.subs subs) ∙ append-nil p.inbox
      by false = refl

  subscriber_undone : (u : SubState) → AreOthers place (u.ins ++ keys_of u.followers)
      → without_publisher (f place) (with_publisher (f place) (subscriber_at f u)) ≡ subscriber_at f u
  subscriber_undone u others =
      let P = λ (k : ℕ). nat_eq place k ≡ false in
      let ins = turns_undone u.ins (all_front P u.ins (keys_of u.followers) others) in
      let followers = subs_undone u.followers (all_behind P u.ins (keys_of u.followers) others) in
      λ i. record { ins = ins i; wanted = u.wanted; followers = followers i }

-- ---- by the kind

abbrev pub is_router : Pattern → Bool
is_router (by_kind.Router r) = true
is_router _ = false

-- the kind refuses no peer
abbrev pub takes_all : Pattern → Bool
takes_all (by_kind.Pair t) = false
takes_all (by_kind.Router r) = false
takes_all _ = true

takes : (identity : List ℕ) (p : Pattern) → takes_all p ≡ true → attach_answer identity p ≡ Yes
takes identity (by_kind.Push outs) all = refl
takes identity (by_kind.Pull ins) all = refl
takes identity (by_kind.Pair t) all = absurd (true≢false (sym all))
takes identity (by_kind.Dealer t) all = refl
takes identity (by_kind.Req t duty) all = refl
takes identity (by_kind.Rep ins duty) all = refl
takes identity (by_kind.Router r) all = absurd (true≢false (sym all))
takes identity (by_kind.Pub p) all = refl
takes identity (by_kind.XPub p) all = refl
takes identity (by_kind.Sub s) all = refl
takes identity (by_kind.XSub s) all = refl

no_router : (p : Pattern) → takes_all p ≡ true → is_router p ≡ false
no_router (by_kind.Push outs) all = refl
no_router (by_kind.Pull ins) all = refl
no_router (by_kind.Pair t) all = refl
no_router (by_kind.Dealer t) all = refl
no_router (by_kind.Req t duty) all = refl
no_router (by_kind.Rep ins duty) all = refl
no_router (by_kind.Router r) all = absurd (true≢false (sym all))
no_router (by_kind.Pub p) all = refl
no_router (by_kind.XPub p) all = refl
no_router (by_kind.Sub s) all = refl
no_router (by_kind.XSub s) all = refl

module _ (pair : PairId) (place : ℕ) where
  abbrev at_places : ℕ → End
  at_places = told_apart pair place

  abbrev the_end : End
  the_end = told_apart pair place place

  -- a peer that came and goes
  undo : (s : AnySock) (identity : List ℕ) → IsNoPlace place s → is_router (taken_in the_end identity (over at_places s)) ≡ false
      → detach the_end (taken_in the_end identity (over at_places s)) ≡ over at_places s
  undo (sock.Push turns) identity none kind = ap by_kind.Push (turns_undone at_places place (places_apart pair place place) turns none.peers)
  undo (sock.Pull turns) identity none kind = ap by_kind.Pull (turns_undone at_places place (places_apart pair place place) turns none.peers)
  undo (sock.Pair turns) identity none kind =
      ap (λ l. by_kind.Pair (record { outs = l; ins = l })) (turns_undone at_places place (places_apart pair place place) turns none.peers)
  undo (sock.Dealer t) identity none kind =
      let P = λ (k : ℕ). nat_eq place k ≡ false in
      let outs = turns_undone at_places place (places_apart pair place place) t.outs (all_front P t.outs t.ins none.peers) in
      let ins = turns_undone at_places place (places_apart pair place place) t.ins (all_behind P t.outs t.ins none.peers) in
      λ i. by_kind.Dealer (record { outs = outs i; ins = ins i })
  undo (sock.Req r) identity none kind =
      let P = λ (k : ℕ). nat_eq place k ≡ false in
      let outs = turns_undone at_places place (places_apart pair place place) r.outs (all_front P r.outs r.ins none.peers) in
      let ins = turns_undone at_places place (places_apart pair place place) r.ins (all_behind P r.outs r.ins none.peers) in
      let duty = asked_undone at_places place (places_apart pair place place) r.asked none.partner in
      λ i. by_kind.Req (record { outs = outs i; ins = ins i }) (duty i)
  undo (sock.Rep r) identity none kind =
      let ins = turns_undone at_places place (places_apart pair place place) r.ins none.peers in
      let duty = owed_undone at_places place (places_apart pair place place) r.owed r.envelope none.partner in
      λ i. by_kind.Rep (ins i) (duty i)
  undo (sock.Router r) identity none kind = absurd (true≢false kind)
  undo (sock.Pub p) identity none kind = ap by_kind.Pub (publisher_undone at_places place (places_apart pair place place) p none.heard none.peers)
  undo (sock.XPub p) identity none kind = ap by_kind.XPub (publisher_undone at_places place (places_apart pair place place) p none.heard none.peers)
  undo (sock.Sub u) identity none kind = ap by_kind.Sub (subscriber_undone at_places place (places_apart pair place place) u none.peers)
  undo (sock.XSub u) identity none kind = ap by_kind.XSub (subscriber_undone at_places place (places_apart pair place place) u none.peers)

  -- ---- its place

  -- an end behind these has its place behind theirs
  turn_there : (es : List End) → Contains (map (place_in pair place) (es ++ the_end ∷ [])) place
  turn_there es =
      subst (Contains (map (place_in pair place) (es ++ the_end ∷ []))) (place_home pair place place)
      (subst (λ l. Contains l (place_in pair place the_end)) (sym (map-append (place_in pair place) es (the_end ∷ [])))
      (Contains-push (map (place_in pair place) es) (place_in pair place the_end)))

  listed_there : (subs : Subscribers End) → Contains (keys_of (subs_in (place_in pair place) (subs ++ (the_end, []) ∷ []))) place
  listed_there [] = (0, omega arith, place_home pair place place)
  listed_there (s ∷ subs) = Contains-append_right (place_in pair place s.0 ∷ []) (keys_of (subs_in (place_in pair place) (subs ++ (the_end, []) ∷ []))) place (listed_there subs)

  there : (p : Pattern) (identity : List ℕ) → is_router (taken_in the_end identity p) ≡ false → Contains (peer_places (sock_in (place_in pair place) (taken_in the_end identity p))) place
  there (by_kind.Push outs) identity kind = turn_there outs
  there (by_kind.Pull ins) identity kind = turn_there ins
  there (by_kind.Pair t) identity kind = turn_there t.outs
  there (by_kind.Dealer t) identity kind =
      Contains-append_left (map (place_in pair place) (t.outs ++ the_end ∷ [])) (map (place_in pair place) (t.ins ++ the_end ∷ [])) place (turn_there t.outs)
  there (by_kind.Req t duty) identity kind =
      Contains-append_left (map (place_in pair place) (t.outs ++ the_end ∷ [])) (map (place_in pair place) (t.ins ++ the_end ∷ [])) place (turn_there t.outs)
  there (by_kind.Rep ins duty) identity kind = turn_there ins
  there (by_kind.Router r) identity kind = absurd (true≢false kind)
  there (by_kind.Pub p) identity kind = listed_there p.subs
  there (by_kind.XPub p) identity kind = listed_there p.subs
  there (by_kind.Sub s) identity kind =
      Contains-append_left (map (place_in pair place) (s.ins ++ the_end ∷ [])) (keys_of (subs_in (place_in pair place) (s.followers ++ (the_end, []) ∷ []))) place (turn_there s.ins)
  there (by_kind.XSub s) identity kind =
      Contains-append_left (map (place_in pair place) (s.ins ++ the_end ∷ [])) (keys_of (subs_in (place_in pair place) (s.followers ++ (the_end, []) ∷ []))) place (turn_there s.ins)

  -- the same over the naming that tells places apart: the same places
  pub same_places : (s t : AnySock) → over at_places s ≡ over at_places t → peer_places s ≡ peer_places t
  same_places s t same =
      sym (places_home (place_in pair place) at_places (place_home pair place) s)
      ∙ ap (λ p. peer_places (sock_in (place_in pair place) p)) same ∙ places_home (place_in pair place) at_places (place_home pair place) t

  -- and the same state over each naming
  as_before : (before s : AnySock) → over at_places s ≡ over at_places before → IsAsBefore before s
  as_before before s same = record {
    state_is = λ ends. sym (over_home (place_in pair place) at_places (place_home pair place) ends s)
        ∙ ap (λ p. over ends (sock_in (place_in pair place) p)) same ∙ over_home (place_in pair place) at_places (place_home pair place) ends before;
    places_are = same_places s before same;
  }

  module _ (s new before : AnySock) (came : CameOver place before s) (gone : DetachedOver pair place s new) where
    -- what the attach did, by its answer
    abbrev answer_is : Attached → Type 0
    answer_is a = attach_answer came.identity (over at_places before) ≡ a

    did : (a : Attached) → answer_is a → over at_places s ≡ attach_as a the_end came.identity (over at_places before)
    did a is = came.attached at_places ∙ ap (λ a. attach_as a the_end came.identity (over at_places before)) is

    -- the end was attached, and was that of no partner
    attached_back : is_router (over at_places s) ≡ false → answer_is Yes → IsAsBefore before new
    attached_back kind is = as_before before new (gone.detaches at_places one ∙ ap (detach the_end) taken ∙ undo before came.identity came.no_place plain)
      where
        taken : over at_places s ≡ taken_in the_end came.identity (over at_places before)
        taken = did Yes is

        plain : is_router (taken_in the_end came.identity (over at_places before)) ≡ false
        plain = sym (ap is_router taken) ∙ kind

        places_are : peer_places (sock_in (place_in pair place) (taken_in the_end came.identity (over at_places before))) ≡ peer_places s
        places_are =
            sym (ap (λ p. peer_places (sock_in (place_in pair place) p)) taken) ∙ places_home (place_in pair place) at_places (place_home pair place) s

        one : IsOneEnd at_places pair place s
        one = record {
          known = list_any-from_Contains nat_eq_equiv place (peer_places s)
              (subst (λ l. Contains l place) places_are (there (over at_places before) came.identity plain));
          pair_is = pair_there pair place;
          apart = λ p q here there. places_apart pair place p q;
          partner = All-weaker (Contains (partner_places s)) (λ k. same_pipe the_end (at_places k) ≡ nat_eq place k)
              (λ k there. places_apart pair place place k) (partner_places s) (All-contains_itself (partner_places s));
        }

  -- ---- kinds that refuse no peer

  detached_back : (s t new : AnySock) → s ≡ t → takes_all (over at_places t) ≡ true → DetachedOver pair place s new → TakenBackOver place s new
  detached_back s t new is all gone = record {
    undone = λ before came. by before came (attach_answer came.identity (over at_places before)) refl;
    places = gone.places;
    stay = gone.stay;
    peers_gone = gone.peers_gone;
    partner_gone = gone.partner_gone;
    left_is = gone.left_is;
    kind_is = gone.kind_is;
  }
    where
      here : takes_all (over at_places s) ≡ true
      here = ap (λ u. takes_all (over at_places u)) is ∙ all

      yes : (before : AnySock) (identity : List ℕ) → over at_places s ≡ over at_places before → attach_answer identity (over at_places before) ≡ Yes
      yes before identity same = takes identity (over at_places before) (sym (ap takes_all same) ∙ here)

      bad : BadId ≡ Yes → ⊥
      bad e = cc

      second : Second ≡ Yes → ⊥
      second e = cc

      by : (before : AnySock) (came : CameOver place before s) (a : Attached) → attach_answer came.identity (over at_places before) ≡ a → IsAsBefore before new
      by before came Yes is = attached_back s new before came gone (no_router (over at_places s) here) is
      by before came BadId is = absurd (bad (sym is ∙ yes before came.identity (did s new before came gone BadId is)))
      by before came Second is = absurd (second (sym is ∙ yes before came.identity (did s new before came gone Second is)))

  -- all but a ROUTER and a PAIR
  take_all : (s : AnySock) → ((r : RouterState) → s ≡ sock.Router r → ⊥) → ((turns : List ℕ) → s ≡ sock.Pair turns → ⊥) → takes_all (over at_places s) ≡ true
  take_all (sock.Push x) router one = refl
  take_all (sock.Pull x) router one = refl
  take_all (sock.Pair x) router one = absurd (one x refl)
  take_all (sock.Dealer x) router one = refl
  take_all (sock.Req x) router one = refl
  take_all (sock.Rep x) router one = refl
  take_all (sock.Router x) router one = absurd (router x refl)
  take_all (sock.Pub x) router one = refl
  take_all (sock.XPub x) router one = refl
  take_all (sock.Sub x) router one = refl
  take_all (sock.XSub x) router one = refl

  pub others_back : (s new : AnySock) → ((r : RouterState) → s ≡ sock.Router r → ⊥) → ((turns : List ℕ) → s ≡ sock.Pair turns → ⊥)
      → DetachedOver pair place s new → TakenBackOver place s new
  others_back s new router one gone = detached_back s s new refl (take_all s router one) gone

  -- ---- a PAIR, which refuses a second peer

  pub pair_back : (s : AnySock) (turns turns' : List ℕ) → s ≡ sock.Pair turns → turns' ≡ without_place place turns → DetachedOver pair place s (sock.Pair turns')
      → TakenBackOver place s (sock.Pair turns')
  pair_back s turns turns' is e gone = record {
    undone = λ before came. by before came (attach_answer came.identity (over at_places before)) refl;
    places = gone.places;
    stay = gone.stay;
    peers_gone = gone.peers_gone;
    partner_gone = gone.partner_gone;
    left_is = gone.left_is;
    kind_is = gone.kind_is;
  }
    where
      never : BadId ≡ pair_answer (map at_places turns) → ⊥
      never h = both turns h
        where
          both : (ks : List ℕ) → BadId ≡ pair_answer (map at_places ks) → ⊥
          both [] h = cc
          both (k ∷ ks) h = cc

      by : (before : AnySock) (came : CameOver place before s) (a : Attached) → attach_answer came.identity (over at_places before) ≡ a → IsAsBefore before (sock.Pair turns')
      by before came Yes is' = attached_back s (sock.Pair turns') before came gone (ap (λ u. is_router (over at_places u)) is) is'
      by before came BadId is' =
          let same = did s (sock.Pair turns') before came gone BadId is' in
          absurd (never (sym is' ∙ ap (attach_answer came.identity) (sym same) ∙ ap (λ u. attach_answer came.identity (over at_places u)) is))
      by before came Second is' =
          let same = did s (sock.Pair turns') before came gone Second is' in
          let others = subst (AreOthers place) (sym (same_places s before same) ∙ ap peer_places is) came.no_place.peers in
          as_before before (sock.Pair turns') (ap (λ l. over at_places (sock.Pair l)) (e ∙ turns_none place turns others) ∙ sym (ap (over at_places) is) ∙ same)
