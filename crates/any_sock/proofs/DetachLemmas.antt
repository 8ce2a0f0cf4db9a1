-- A detach of a kind is one of a socket of any kind.
use Rattle.std.proofs.Common.{◌≡◌, ℕ, Bool, true, false, cond, List, [], ◌∷◌, ◌++◌, ◌==◌, All, Contains, not, map, filter, refl, sym, ap, subst, ◌∙◌, nat_eq}
use Rattle.std.specs.Prelude.{Some, None}
use Rattle.std.specs.Cmp.{nat_eq_equiv}
use Rattle.std.specs.Map.{keys_of}
use Rattle.std.proofs.lemmas.List.Elements.{All-append, All-nil, All-cons, All-head, All-tail, All-map, All-filter, All-contains_itself, filter-append}
use Rattle.std.proofs.lemmas.Map.Views.{All-from_any, All-map-remove_entry}
use Rattle.zq_base.specs.declared.ids.PairId.{PairId}
use Rattle.zq_base.specs.Message.{Frames}
use Rattle.spec_pattern.specs.PipeStep.{same_pipe}
use Rattle.spec_pattern.specs.TurnList.{End}
use Rattle.spec_pattern.specs.Duty.{Asked, Owing}
use Rattle.spec_pattern.specs.Topics.{Topic}
use Rattle.spec_pattern.specs.Pattern.{without, duty_without}
use Rattle.spec_pattern.specs.Pattern as by_kind
use Rattle.spec_pattern.specs.Peers.{in_turns}
use Rattle.msg_pipe.specs.Turns.{without_place}
use Rattle.msg_pipe.specs.BothTurns.{Both, without_turns}
use Rattle.req_rep.specs.Partners.{without_partner}
use Rattle.req_rep.specs.Asking.{ReqState, asked_duty}
use Rattle.req_rep.specs.Answering.{RepState, owed_duty}
use Rattle.req_rep.specs.declared.partner.Partner.{Partner}
use Rattle.req_rep.specs.declared.partner.Partner.TheVariants.{Nobody, At, Gone}
use Rattle.router_dealer.specs.PlaceNames.{PlaceName}
use Rattle.router_dealer.specs.Named.{RouterState, detached_state}
use Rattle.router_dealer.specs.Laws.{IsNoOther}
use Rattle.router_dealer.proofs.LawLemmas.{detaches_the_end}
use Rattle.router_dealer.proofs.PlaceNamesLemmas.{turned}
use Rattle.pub_sub.specs.Places.{is_place, AreApart, AreOthers}
use Rattle.pub_sub.specs.Publishers.{PubState, Detaches, without_subscriber_at, without_and_told}
use Rattle.pub_sub.specs.Subscribing.{SubState, Leaves, without_publisher_at}
use Rattle.pub_sub.proofs.SubscriberLemmas.{others_turns}
use Rattle.any_sock.specs.Over.{partner_place, left_of}
use Rattle.any_sock.specs.Peers.{DetachedOver}
use Rattle.any_sock.specs.declared.any_sock.AnySock.{AnySock}
use Rattle.any_sock.specs.declared.any_sock.AnySock.TheVariants as sock
use Rattle.any_sock.proofs.PlaceLemmas.{all_front, all_behind}
use Rattle.any_sock.proofs.StayLemmas.{stays_in, stays_named, stays_listed, stays_both}

-- a filter leaves no place that wasn't there
fewer : (f : ℕ → Bool) (xs : List ℕ) → All (Contains xs) (filter f xs)
fewer f xs = All-filter f (Contains xs) xs (All-contains_itself xs)

fewer_both : (f : ℕ → Bool) (xs ys : List ℕ) → All (Contains (xs ++ ys)) (filter f xs ++ filter f ys)
fewer_both f xs ys = subst (All (Contains (xs ++ ys))) (filter-append f xs ys) (fewer f (xs ++ ys))

module _ (ends : ℕ → End) (place : ℕ) where
  -- the end at the place is no other's of these
  no_other : (places : List ℕ) → AreApart ends places → is_place places place ≡ true → IsNoOther ends place places
  no_other places apart known = All-from_any nat_eq_equiv (λ k. same_pipe (ends place) (ends k) ≡ nat_eq place k) places (λ k there. apart place k known there)

  -- its turn goes
  turns_without : (turns : List ℕ) → IsNoOther ends place turns → map ends (without_place place turns) ≡ without (ends place) (map ends turns)
  turns_without turns one =
      ap in_turns (detaches_the_end ends place (record { ins = turns; names = []; drawn = 0; mandatory = false; kept = None }) one (All-nil (λ k. same_pipe (ends place) (ends k) ≡ nat_eq place k)))

  -- a partner that goes
  partner_goes : (p : Partner) → IsNoOther ends place (partner_place p) → asked_duty ends (without_partner place p) ≡ duty_without (ends place) (asked_duty ends p)
  partner_goes Nobody one = refl
  partner_goes Gone one = refl
  partner_goes (At other) one = by (other == place) (same_pipe (ends place) (ends other)) (turned other place ∙ sym (All-head (λ k. same_pipe (ends place) (ends k) ≡ nat_eq place k) other [] one))
    where
      by : (b c : Bool) → b ≡ c → asked_duty ends (cond b Gone (At other)) ≡ Asked (cond c None (Some (ends other)))
      by true true e = refl
      by false false e = refl
      by true false e = absurd (cc e)
      by false true e = absurd (cc e)

  owed_goes : (p : Partner) (envelope : Frames) → IsNoOther ends place (partner_place p) → owed_duty ends (without_partner place p) envelope ≡ duty_without (ends place) (owed_duty ends p envelope)
  owed_goes Nobody envelope one = refl
  owed_goes Gone envelope one = refl
  owed_goes (At other) envelope one = by (other == place) (same_pipe (ends place) (ends other)) (turned other place ∙ sym (All-head (λ k. same_pipe (ends place) (ends k) ≡ nat_eq place k) other [] one))
    where
      by : (b c : Bool) → b ≡ c → owed_duty ends (cond b Gone (At other)) envelope ≡ Owing (cond c None (Some (ends other))) envelope
      by true true e = refl
      by false false e = refl
      by true false e = absurd (cc e)
      by false true e = absurd (cc e)

-- ---- the place that goes

others_both : (place : ℕ) (outs ins : List ℕ) → AreOthers place (without_place place outs ++ without_place place ins)
others_both place outs ins =
    All-append (λ k. nat_eq place k ≡ false) (without_place place outs) (without_place place ins) (others_turns place outs) (others_turns place ins)

others_partner : (place : ℕ) (p : Partner) → AreOthers place (partner_place (without_partner place p))
others_partner place Nobody = All-nil (λ k. nat_eq place k ≡ false)
others_partner place Gone = All-nil (λ k. nat_eq place k ≡ false)
others_partner place (At other) = by (other == place) refl
  where
    by : (b : Bool) → nat_eq other place ≡ b → AreOthers place (partner_place (cond b Gone (At other)))
    by true same = All-nil (λ k. nat_eq place k ≡ false)
    by false h = All-cons (λ k. nat_eq place k ≡ false) other [] (nat_eq_equiv.symm place other ∙ h) (All-nil (λ k. nat_eq place k ≡ false))

others_named : (place : ℕ) (names : List PlaceName) → AreOthers place (map (λ n. n.place) (filter (λ n. not (nat_eq place n.place)) names))
others_named place [] = All-nil (λ k. nat_eq place k ≡ false)
others_named place (n ∷ names) = by (nat_eq place n.place) refl (others_named place names)
  where
    by : (b : Bool) → nat_eq place n.place ≡ b → AreOthers place (map (λ n. n.place) (filter (λ n. not (nat_eq place n.place)) names))
        → AreOthers place (map (λ n. n.place) (cond (not b) (n ∷ filter (λ n. not (nat_eq place n.place)) names) (filter (λ n. not (nat_eq place n.place)) names)))
    by true same rest = rest
    by false h rest = All-cons (λ k. nat_eq place k ≡ false) n.place _ h rest

module _ (pair : PairId) (place : ℕ) (s : AnySock) where
  pub push_left : (turns turns' : List ℕ) → s ≡ sock.Push turns → turns' ≡ without_place place turns → DetachedOver pair place s (sock.Push turns')
  push_left turns turns' is e = subst (λ (u : AnySock × List ℕ). DetachedOver pair place u.0 (sock.Push u.1)) (λ i. (sym is i, sym e i)) (record {
    detaches = λ ends one. ap by_kind.Push (turns_without ends place turns (no_other ends place turns one.apart one.known));
    places = fewer (λ other. not (other == place)) turns;
    stay = λ k ne. stays_in place k ne turns;
    peers_gone = others_turns place turns;
    partner_gone = All-nil (λ k. nat_eq place k ≡ false);
    left_is = refl;
    kind_is = λ ends. refl;
  })

  pub pull_left : (turns turns' : List ℕ) → s ≡ sock.Pull turns → turns' ≡ without_place place turns → DetachedOver pair place s (sock.Pull turns')
  pull_left turns turns' is e = subst (λ (u : AnySock × List ℕ). DetachedOver pair place u.0 (sock.Pull u.1)) (λ i. (sym is i, sym e i)) (record {
    detaches = λ ends one. ap by_kind.Pull (turns_without ends place turns (no_other ends place turns one.apart one.known));
    places = fewer (λ other. not (other == place)) turns;
    stay = λ k ne. stays_in place k ne turns;
    peers_gone = others_turns place turns;
    partner_gone = All-nil (λ k. nat_eq place k ≡ false);
    left_is = refl;
    kind_is = λ ends. refl;
  })

  pub pair_left : (turns turns' : List ℕ) → s ≡ sock.Pair turns → turns' ≡ without_place place turns → DetachedOver pair place s (sock.Pair turns')
  pair_left turns turns' is e = subst (λ (u : AnySock × List ℕ). DetachedOver pair place u.0 (sock.Pair u.1)) (λ i. (sym is i, sym e i)) (record {
    detaches = λ ends one. ap (λ l. by_kind.Pair (record { outs = l; ins = l })) (turns_without ends place turns (no_other ends place turns one.apart one.known));
    places = fewer (λ other. not (other == place)) turns;
    stay = λ k ne. stays_in place k ne turns;
    peers_gone = others_turns place turns;
    partner_gone = All-nil (λ k. nat_eq place k ≡ false);
    left_is = refl;
    kind_is = λ ends. refl;
  })

  pub dealer_left : (t t' : Both) → s ≡ sock.Dealer t → t' ≡ without_turns place t → DetachedOver pair place s (sock.Dealer t')
  dealer_left t t' is e = subst (λ (u : AnySock × Both). DetachedOver pair place u.0 (sock.Dealer u.1)) (λ i. (sym is i, sym e i)) (record {
    detaches = λ ends one.
        let P = λ (k : ℕ). same_pipe (ends place) (ends k) ≡ nat_eq place k in
        let all = no_other ends place (t.outs ++ t.ins) one.apart one.known in
        let outs = turns_without ends place t.outs (all_front P t.outs t.ins all) in
        let ins = turns_without ends place t.ins (all_behind P t.outs t.ins all) in
        λ i. by_kind.Dealer (record { outs = outs i; ins = ins i });
    places = fewer_both (λ other. not (other == place)) t.outs t.ins;
    stay = λ k ne. stays_both place k ne t.outs _ t.ins _ (stays_in place k ne t.outs) (stays_in place k ne t.ins);
    peers_gone = others_both place t.outs t.ins;
    partner_gone = All-nil (λ k. nat_eq place k ≡ false);
    left_is = refl;
    kind_is = λ ends. refl;
  })

  pub req_left : (q q' : ReqState) → s ≡ sock.Req q
      → q' ≡ record { outs = without_place place q.outs; ins = without_place place q.ins; asked = without_partner place q.asked } → DetachedOver pair place s (sock.Req q')
  req_left q q' is e = subst (λ (u : AnySock × ReqState). DetachedOver pair place u.0 (sock.Req u.1)) (λ i. (sym is i, sym e i)) (record {
    detaches = λ ends one.
        let P = λ (k : ℕ). same_pipe (ends place) (ends k) ≡ nat_eq place k in
        let all = no_other ends place (q.outs ++ q.ins) one.apart one.known in
        let outs = turns_without ends place q.outs (all_front P q.outs q.ins all) in
        let ins = turns_without ends place q.ins (all_behind P q.outs q.ins all) in
        let duty = partner_goes ends place q.asked one.partner in
        λ i. by_kind.Req (record { outs = outs i; ins = ins i }) (duty i);
    places = fewer_both (λ other. not (other == place)) q.outs q.ins;
    stay = λ k ne. stays_both place k ne q.outs _ q.ins _ (stays_in place k ne q.outs) (stays_in place k ne q.ins);
    peers_gone = others_both place q.outs q.ins;
    partner_gone = others_partner place q.asked;
    left_is = refl;
    kind_is = λ ends. refl;
  })

  pub rep_left : (q q' : RepState) → s ≡ sock.Rep q
      → q' ≡ record { ins = without_place place q.ins; owed = without_partner place q.owed; envelope = q.envelope } → DetachedOver pair place s (sock.Rep q')
  rep_left q q' is e = subst (λ (u : AnySock × RepState). DetachedOver pair place u.0 (sock.Rep u.1)) (λ i. (sym is i, sym e i)) (record {
    detaches = λ ends one.
        let ins = turns_without ends place q.ins (no_other ends place q.ins one.apart one.known) in
        let duty = owed_goes ends place q.owed q.envelope one.partner in
        λ i. by_kind.Rep (ins i) (duty i);
    places = fewer (λ other. not (other == place)) q.ins;
    stay = λ k ne. stays_in place k ne q.ins;
    peers_gone = others_turns place q.ins;
    partner_gone = others_partner place q.owed;
    left_is = refl;
    kind_is = λ ends. refl;
  })

  pub router_left : (q q' : RouterState) → s ≡ sock.Router q → q' ≡ detached_state place q → DetachedOver pair place s (sock.Router q')
  router_left q q' is e = subst (λ (u : AnySock × RouterState). DetachedOver pair place u.0 (sock.Router u.1)) (λ i. (sym is i, sym e i)) (record {
    detaches = λ ends one.
        let P = λ (k : ℕ). same_pipe (ends place) (ends k) ≡ nat_eq place k in
        let names = map (λ (n : PlaceName). n.place) q.names in
        let all = no_other ends place (q.ins ++ names) one.apart one.known in
        detaches_the_end ends place q (all_front P q.ins names all) (all_behind P q.ins names all);
    places =
        let names = map (λ (n : PlaceName). n.place) q.names in
        let C = Contains (q.ins ++ names) in
        let all = All-contains_itself (q.ins ++ names) in
        All-append C (without_place place q.ins) _
        (All-filter (λ other. not (other == place)) C q.ins (all_front C q.ins names all))
        (All-map C (λ (n : PlaceName). n.place) _ (All-filter (λ n. not (nat_eq place n.place)) (λ n. C n.place) q.names (names_all C q.names (all_behind C q.ins names all))));
    stay = λ k ne. stays_both place k ne q.ins _ (map (λ (n : PlaceName). n.place) q.names) _ (stays_in place k ne q.ins) (stays_named place k ne q.names);
    peers_gone = All-append (λ k. nat_eq place k ≡ false) (without_place place q.ins) _ (others_turns place q.ins) (others_named place q.names);
    partner_gone = All-nil (λ k. nat_eq place k ≡ false);
    left_is = refl;
    kind_is = λ ends. refl;
  })
    where
      names_all : (C : ℕ → Type 0) (names : List PlaceName) → All C (map (λ n. n.place) names) → All (λ n. C n.place) names
      names_all C [] all = All-nil (λ n. C n.place)
      names_all C (n ∷ names) all = All-cons (λ n. C n.place) n names (All-head C n.place _ all) (names_all C names (All-tail C n.place _ all))

  pub pub_left : (p p' : PubState) → s ≡ sock.Pub p → p' ≡ without_subscriber_at place p → ((ends : ℕ → End) → Detaches ends place p p')
      → AreOthers place (p'.ins ++ keys_of p'.subs) → DetachedOver pair place s (sock.Pub p')
  pub_left p p' is e defined others = subst (λ (t : AnySock). DetachedOver pair place t (sock.Pub p')) (sym is) (record {
    detaches = λ ends one. ap by_kind.Pub (defined ends one.apart one.known);
    places = subst (λ (z : PubState). All (Contains (keys_of p.subs)) (keys_of z.subs)) (sym e)
        (All-map-remove_entry (nat_eq place) (λ (x : ℕ × List Topic). x.0) (Contains (keys_of p.subs)) p.subs (All-contains_itself (keys_of p.subs)));
    stay = λ k ne here. subst (λ (z : PubState). is_place (keys_of z.subs) k ≡ true) (sym e) (stays_listed place k ne p.subs here);
    peers_gone = all_behind (λ k. nat_eq place k ≡ false) p'.ins (keys_of p'.subs) others;
    partner_gone = All-nil (λ k. nat_eq place k ≡ false);
    left_is = ap (λ z. left_of (sock.Pub z)) e;
    kind_is = λ ends. refl;
  })

  pub xpub_left : (p p' : PubState) → s ≡ sock.XPub p → p' ≡ without_and_told pair place p → ((ends : ℕ → End) → (ends place).pair ≡ pair → Detaches ends place p p')
      → AreOthers place (p'.ins ++ keys_of p'.subs) → DetachedOver pair place s (sock.XPub p')
  xpub_left p p' is e defined others = subst (λ (t : AnySock). DetachedOver pair place t (sock.XPub p')) (sym is) (record {
    detaches = λ ends one. ap by_kind.XPub (defined ends one.pair_is one.apart one.known);
    places = subst (λ (z : PubState). All (Contains (keys_of p.subs)) (keys_of z.subs)) (sym e)
        (All-map-remove_entry (nat_eq place) (λ (x : ℕ × List Topic). x.0) (Contains (keys_of p.subs)) p.subs (All-contains_itself (keys_of p.subs)));
    stay = λ k ne here. subst (λ (z : PubState). is_place (keys_of z.subs) k ≡ true) (sym e) (stays_listed place k ne p.subs here);
    peers_gone = all_behind (λ k. nat_eq place k ≡ false) p'.ins (keys_of p'.subs) others;
    partner_gone = All-nil (λ k. nat_eq place k ≡ false);
    left_is = ap (λ z. left_of (sock.XPub z)) e;
    kind_is = λ ends. refl;
  })

  -- no place comes with a subscriber's peer that goes
  sub_fewer : (u : SubState) → All (Contains (u.ins ++ keys_of u.followers)) (without_place place u.ins ++ keys_of (without_publisher_at place u).followers)
  sub_fewer u =
      let C = Contains (u.ins ++ keys_of u.followers) in
      let all = All-contains_itself (u.ins ++ keys_of u.followers) in
      All-append C (without_place place u.ins) _
      (All-filter (λ other. not (other == place)) C u.ins (all_front C u.ins (keys_of u.followers) all))
      (All-map-remove_entry (nat_eq place) (λ (x : ℕ × List Topic). x.0) C u.followers (all_behind C u.ins (keys_of u.followers) all))

  pub sub_left : (u u' : SubState) → s ≡ sock.Sub u → u' ≡ without_publisher_at place u → ((ends : ℕ → End) → Leaves ends place u u')
      → AreOthers place (u'.ins ++ keys_of u'.followers) → DetachedOver pair place s (sock.Sub u')
  sub_left u u' is e defined others = subst (λ (t : AnySock). DetachedOver pair place t (sock.Sub u')) (sym is) (record {
    detaches = λ ends one. ap by_kind.Sub (defined ends one.apart one.known);
    places = subst (λ (z : SubState). All (Contains (u.ins ++ keys_of u.followers)) (z.ins ++ keys_of z.followers)) (sym e) (sub_fewer u);
    stay = λ k ne here. subst (λ (z : SubState). is_place (z.ins ++ keys_of z.followers) k ≡ true) (sym e)
        (stays_both place k ne u.ins _ (keys_of u.followers) _ (stays_in place k ne u.ins) (stays_listed place k ne u.followers) here);
    peers_gone = others;
    partner_gone = All-nil (λ k. nat_eq place k ≡ false);
    left_is = refl;
    kind_is = λ ends. refl;
  })

  pub xsub_left : (u u' : SubState) → s ≡ sock.XSub u → u' ≡ without_publisher_at place u → ((ends : ℕ → End) → Leaves ends place u u')
      → AreOthers place (u'.ins ++ keys_of u'.followers) → DetachedOver pair place s (sock.XSub u')
  xsub_left u u' is e defined others = subst (λ (t : AnySock). DetachedOver pair place t (sock.XSub u')) (sym is) (record {
    detaches = λ ends one. ap by_kind.XSub (defined ends one.apart one.known);
    places = subst (λ (z : SubState). All (Contains (u.ins ++ keys_of u.followers)) (z.ins ++ keys_of z.followers)) (sym e) (sub_fewer u);
    stay = λ k ne here. subst (λ (z : SubState). is_place (z.ins ++ keys_of z.followers) k ≡ true) (sym e)
        (stays_both place k ne u.ins _ (keys_of u.followers) _ (stays_in place k ne u.ins) (stays_listed place k ne u.followers) here);
    peers_gone = others;
    partner_gone = All-nil (λ k. nat_eq place k ≡ false);
    left_is = refl;
    kind_is = λ ends. refl;
  })
