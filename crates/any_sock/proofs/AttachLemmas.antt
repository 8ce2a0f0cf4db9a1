-- An attach of a kind is one of a socket of any kind.
use Rattle.std.proofs.Common.{◌≡◌, ◌<◌, ◌↔◌, ℕ, Bool, true, false, cond, List, [], ◌∷◌, ◌++◌, ◌+◌, All, Contains, map, refl, sym, ap, subst, ◌∙◌, nat_eq, arith}
use Rattle.std.specs.Prelude.{Result, Ok, Err, IfOk, OnOk, OnErr, Some, None}
use Rattle.std.specs.declared.alloc.AllocError.{AllocError}
use Rattle.std.proofs.lemmas.List.{map-append}
use Rattle.std.proofs.lemmas.List.Elements.{All-append, All-head, All-tail, All-contains_itself}
use Rattle.std.proofs.lemmas.Map.Views.{exact_unsigned_eq}
use Rattle.std.specs.Map.{keys_of}
use Rattle.zq_base.specs.declared.attached.Attached.{Attached}
use Rattle.zq_base.specs.declared.attached.Attached.TheVariants.{Yes, BadId, Second}
use Rattle.spec_pattern.specs.TurnList.{End}
use Rattle.spec_pattern.specs.Routing.{drawn_name}
use Rattle.spec_pattern.specs.Topics.{Topic}
use Rattle.spec_pattern.specs.Pattern as by_kind
use Rattle.msg_pipe.specs.BothTurns.{Both, with_turns}
use Rattle.push_pull.specs.OnePeer as one_peer
use Rattle.req_rep.specs.Asking.{ReqState, asked_duty}
use Rattle.req_rep.specs.Answering.{RepState, owed_duty}
use Rattle.router_dealer.specs.PlaceNames.{PlaceName, name_placed}
use Rattle.router_dealer.specs.Named.{RouterState, IsTaken, Attaches, attached_state}
use Rattle.router_dealer.proofs.LawLemmas.{attaches_the_end}
use Rattle.pub_sub.specs.Publishers.{PubState, publisher_at, with_subscriber_at}
use Rattle.pub_sub.specs.Publishers as publishers
use Rattle.pub_sub.specs.Subscribing.{SubState, with_publisher_at, Joins}
use Rattle.any_sock.specs.Over.{HaveSamePlaces, peer_places, left_of}
use Rattle.any_sock.specs.Peers.{AttachedOver, AddsPlace, as_taken}
use Rattle.any_sock.specs.declared.any_sock.AnySock.{AnySock}
use Rattle.any_sock.specs.declared.any_sock.AnySock.TheVariants as sock
use Rattle.any_sock.proofs.PlaceLemmas.{all_front, all_behind, same_as}

-- ---- by the result

pub taken_ok : (r : Result (Unit {0}) AllocError) (f : Result Attached AllocError) (P : Type 0) (Q : Attached → Type 0) → f ≡ as_taken r → OnOk r P → (P → Q Yes) → IfOk f Q
taken_ok (Ok done) f P Q is p so = subst (λ x. IfOk x Q) (sym is) (so p)
taken_ok (Err e) f P Q is p so = subst (λ x. IfOk x Q) (sym is) tt

pub taken_err : (r : Result (Unit {0}) AllocError) (f : Result Attached AllocError) (P Q : Type 0) → f ≡ as_taken r → OnErr r P → (P → Q) → OnErr f Q
taken_err (Ok done) f P Q is p so = subst (λ x. OnErr x Q) (sym is) tt
taken_err (Err e) f P Q is p so = subst (λ x. OnErr x Q) (sym is) (so p)

pub taken_both : (r : Result (Unit {0}) AllocError) (f : Result Attached AllocError) (P P' : Type 0) (Q : Attached → Type 0) → f ≡ as_taken r → OnOk r P → OnOk r P' → (P → P' → Q Yes) → IfOk f Q
taken_both (Ok done) f P P' Q is p p' so = subst (λ x. IfOk x Q) (sym is) (so p p')
taken_both (Err e) f P P' Q is p p' so = subst (λ x. IfOk x Q) (sym is) tt

pub err_for : (r : Result Attached AllocError) (P Q : Type 0) → OnErr r P → (P → Q) → OnErr r Q
err_for (Ok a) P Q p so = tt
err_for (Err e) P Q p so = so p

-- ---- the places

-- one place more behind both lists of turns
pub places_both : (outs ins : List ℕ) (place : ℕ) → HaveSamePlaces ((outs ++ ins) ++ place ∷ []) ((outs ++ place ∷ []) ++ (ins ++ place ∷ []))
places_both outs ins place = record {
  none_new =
      let P = Contains ((outs ++ ins) ++ place ∷ []) in
      let all = All-contains_itself ((outs ++ ins) ++ place ∷ []) in
      let front = all_front P (outs ++ ins) (place ∷ []) all in
      let last = all_behind P (outs ++ ins) (place ∷ []) all in
      All-append P (outs ++ place ∷ []) (ins ++ place ∷ [])
      (All-append P outs (place ∷ []) (all_front P outs ins front) last)
      (All-append P ins (place ∷ []) (all_behind P outs ins front) last);
  none_gone =
      let P = Contains ((outs ++ place ∷ []) ++ (ins ++ place ∷ [])) in
      let all = All-contains_itself ((outs ++ place ∷ []) ++ (ins ++ place ∷ [])) in
      let front = all_front P (outs ++ place ∷ []) (ins ++ place ∷ []) all in
      let behind = all_behind P (outs ++ place ∷ []) (ins ++ place ∷ []) all in
      All-append P (outs ++ ins) (place ∷ [])
      (All-append P outs ins (all_front P outs (place ∷ []) front) (all_front P ins (place ∷ []) behind))
      (all_behind P ins (place ∷ []) behind);
}

-- one peer more
more : (ends : ℕ → End) (turns : List ℕ) (place : ℕ) → map ends (turns ++ place ∷ []) ≡ map ends turns ++ ends place ∷ []
more ends turns place = map-append ends turns (place ∷ [])

-- ---- the kinds

module _ (place : ℕ) (identity : List ℕ) (s : AnySock) where
  pub push_taken : (turns turns' : List ℕ) → s ≡ sock.Push turns → turns' ≡ turns ++ place ∷ [] → AttachedOver place identity s Yes (sock.Push turns')
  push_taken turns turns' is e = subst (λ (t : AnySock). AttachedOver place identity t Yes (sock.Push turns')) (sym is) (record {
    answers = λ ends. refl;
    attaches = λ ends. ap (λ l. by_kind.Push (map ends l)) e ∙ ap by_kind.Push (more ends turns place);
    places = same_as _ _ e;
    left_is = refl;
  })

  pub pull_taken : (turns turns' : List ℕ) → s ≡ sock.Pull turns → turns' ≡ turns ++ place ∷ [] → AttachedOver place identity s Yes (sock.Pull turns')
  pull_taken turns turns' is e = subst (λ (t : AnySock). AttachedOver place identity t Yes (sock.Pull turns')) (sym is) (record {
    answers = λ ends. refl;
    attaches = λ ends. ap (λ l. by_kind.Pull (map ends l)) e ∙ ap by_kind.Pull (more ends turns place);
    places = same_as _ _ e;
    left_is = refl;
  })

  pub dealer_taken : (t t' : Both) → s ≡ sock.Dealer t → t' ≡ with_turns place t → AttachedOver place identity s Yes (sock.Dealer t')
  dealer_taken t t' is e =
      subst (λ (u : AnySock × Both). AttachedOver place identity u.0 Yes (sock.Dealer u.1)) (λ i. (sym is i, sym e i)) (record {
        answers = λ ends. refl;
        attaches = λ ends. (λ i. by_kind.Dealer (record { outs = more ends t.outs place i; ins = more ends t.ins place i }));
        places = places_both t.outs t.ins place;
        left_is = refl;
      })

  pub req_taken : (q q' : ReqState) → s ≡ sock.Req q → q' ≡ record { outs = q.outs ++ place ∷ []; ins = q.ins ++ place ∷ []; asked = q.asked }
      → AttachedOver place identity s Yes (sock.Req q')
  req_taken q q' is e =
      subst (λ (u : AnySock × ReqState). AttachedOver place identity u.0 Yes (sock.Req u.1)) (λ i. (sym is i, sym e i)) (record {
        answers = λ ends. refl;
        attaches = λ ends. (λ i. by_kind.Req (record { outs = more ends q.outs place i; ins = more ends q.ins place i }) (asked_duty ends q.asked));
        places = places_both q.outs q.ins place;
        left_is = refl;
      })

  pub rep_taken : (q q' : RepState) → s ≡ sock.Rep q → q' ≡ record { ins = q.ins ++ place ∷ []; owed = q.owed; envelope = q.envelope }
      → AttachedOver place identity s Yes (sock.Rep q')
  rep_taken q q' is e =
      subst (λ (u : AnySock × RepState). AttachedOver place identity u.0 Yes (sock.Rep u.1)) (λ i. (sym is i, sym e i)) (record {
        answers = λ ends. refl;
        attaches = λ ends. ap (λ l. by_kind.Rep l (owed_duty ends q.owed q.envelope)) (more ends q.ins place);
        places = same_as _ _ refl;
        left_is = refl;
      })

  pub pub_taken : (p p' : PubState) → s ≡ sock.Pub p → p' ≡ with_subscriber_at place p → ((ends : ℕ → End) → publishers.Attaches ends place p p')
      → AttachedOver place identity s Yes (sock.Pub p')
  pub_taken p p' is e defined = subst (λ (t : AnySock). AttachedOver place identity t Yes (sock.Pub p')) (sym is) (record {
    answers = λ ends. refl;
    attaches = λ ends. ap by_kind.Pub (defined ends);
    places = same_as _ _ (ap (λ q. keys_of q.subs) e ∙ map-append (λ (x : ℕ × List Topic). x.0) p.subs ((place, []) ∷ []));
    left_is = ap (λ q. left_of (sock.Pub q)) e;
  })

  pub xpub_taken : (p p' : PubState) → s ≡ sock.XPub p → p' ≡ with_subscriber_at place p → ((ends : ℕ → End) → publishers.Attaches ends place p p')
      → AttachedOver place identity s Yes (sock.XPub p')
  xpub_taken p p' is e defined = subst (λ (t : AnySock). AttachedOver place identity t Yes (sock.XPub p')) (sym is) (record {
    answers = λ ends. refl;
    attaches = λ ends. ap by_kind.XPub (defined ends);
    places = same_as _ _ (ap (λ q. keys_of q.subs) e ∙ map-append (λ (x : ℕ × List Topic). x.0) p.subs ((place, []) ∷ []));
    left_is = ap (λ q. left_of (sock.XPub q)) e;
  })

  -- one place more behind the turns and behind the peers
  sub_places : (u : SubState) → HaveSamePlaces ((u.ins ++ keys_of u.followers) ++ place ∷ []) ((u.ins ++ place ∷ []) ++ keys_of (u.followers ++ (place, []) ∷ []))
  sub_places u =
      subst (λ (l : List ℕ). HaveSamePlaces ((u.ins ++ keys_of u.followers) ++ place ∷ []) ((u.ins ++ place ∷ []) ++ l))
      (sym (map-append (λ (x : ℕ × List Topic). x.0) u.followers ((place, []) ∷ []))) (places_both u.ins (keys_of u.followers) place)

  pub sub_taken : (u u' : SubState) → s ≡ sock.Sub u → u' ≡ with_publisher_at place u → ((ends : ℕ → End) → Joins ends place u u')
      → AttachedOver place identity s Yes (sock.Sub u')
  sub_taken u u' is e defined = subst (λ (t : AnySock). AttachedOver place identity t Yes (sock.Sub u')) (sym is) (record {
    answers = λ ends. refl;
    attaches = λ ends. ap by_kind.Sub (defined ends);
    places = subst (λ (q : SubState). HaveSamePlaces ((u.ins ++ keys_of u.followers) ++ place ∷ []) (q.ins ++ keys_of q.followers)) (sym e) (sub_places u);
    left_is = refl;
  })

  pub xsub_taken : (u u' : SubState) → s ≡ sock.XSub u → u' ≡ with_publisher_at place u → ((ends : ℕ → End) → Joins ends place u u')
      → AttachedOver place identity s Yes (sock.XSub u')
  xsub_taken u u' is e defined = subst (λ (t : AnySock). AttachedOver place identity t Yes (sock.XSub u')) (sym is) (record {
    answers = λ ends. refl;
    attaches = λ ends. ap by_kind.XSub (defined ends);
    places = subst (λ (q : SubState). HaveSamePlaces ((u.ins ++ keys_of u.followers) ++ place ∷ []) (q.ins ++ keys_of q.followers)) (sym e) (sub_places u);
    left_is = refl;
  })

  -- a PAIR takes one peer
  pair_at : (turns turns' : List ℕ) (a : Attached) → a ≡ one_peer.attach_answer turns → turns' ≡ one_peer.with_peer place turns → AttachedOver place identity (sock.Pair turns) a (sock.Pair turns')
  pair_at [] turns' a is e = subst (λ (u : Attached × List ℕ). AttachedOver place identity (sock.Pair []) u.0 (sock.Pair u.1)) (λ i. (sym is i, sym e i)) (record {
    answers = λ ends. refl;
    attaches = λ ends. refl;
    places = same_as _ _ refl;
    left_is = refl;
  })
  pair_at (peer ∷ peers) turns' a is e = subst (λ (u : Attached × List ℕ). AttachedOver place identity (sock.Pair (peer ∷ peers)) u.0 (sock.Pair u.1)) (λ i. (sym is i, sym e i)) (record {
    answers = λ ends. refl;
    attaches = λ ends. refl;
    places = refl;
    left_is = refl;
  })

  pub pair_taken : (r : Result Attached AllocError) (turns turns' : List ℕ) → s ≡ sock.Pair turns → IfOk r (λ a. a ≡ one_peer.attach_answer turns) → OnOk r (turns' ≡ one_peer.with_peer place turns)
      → IfOk r (λ a. AttachedOver place identity s a (sock.Pair turns'))
  pair_taken (Ok a) turns turns' is answer e = subst (λ (t : AnySock). AttachedOver place identity t a (sock.Pair turns')) (sym is) (pair_at turns turns' a answer e)
  pair_taken (Err x) turns turns' is answer e = tt

-- ---- a ROUTER

-- an end behind all others has no name
pub new_place : (names : List PlaceName) (place : ℕ) → All (λ k. k < place) (map (λ n. n.place) names) → name_placed names place ≡ None
new_place [] place all = refl
new_place (n ∷ names) place all = by (nat_eq place n.place) refl (new_place names place (All-tail (λ k. k < place) n.place (map (λ n. n.place) names) all))
  where
    places : List ℕ
    places = map (λ n. n.place) names

    below : n.place < place
    below = All-head (λ k. k < place) n.place places all

    by : (b : Bool) → nat_eq place n.place ≡ b → name_placed names place ≡ None → cond b (Some n.name) (name_placed names place) ≡ None
    by true same rest = absurd (omega (arith, below, exact_unsigned_eq place n.place same))
    by false other rest = rest

module _ (place : ℕ) (q : RouterState) where
  name_more : (n : PlaceName) → n.place ≡ place → map (λ n. n.place) (q.names ++ n ∷ []) ≡ map (λ n. n.place) q.names ++ place ∷ []
  name_more n is = map-append (λ (n : PlaceName). n.place) q.names (n ∷ []) ∙ ap (λ k. map (λ n. n.place) q.names ++ k ∷ []) is

  router_places : (identity : List ℕ) → HaveSamePlaces ((q.ins ++ map (λ n. n.place) q.names) ++ place ∷ []) (peer_places (sock.Router (attached_state identity place q)))
  router_places [] =
      subst (λ (l : List ℕ). HaveSamePlaces ((q.ins ++ map (λ n. n.place) q.names) ++ place ∷ []) ((q.ins ++ place ∷ []) ++ l))
      (sym (name_more (record { name = drawn_name (q.drawn + 1); place = place }) refl)) (places_both q.ins (map (λ n. n.place) q.names) place)
  router_places (octet ∷ octets) =
      subst (λ (l : List ℕ). HaveSamePlaces ((q.ins ++ map (λ n. n.place) q.names) ++ place ∷ []) ((q.ins ++ place ∷ []) ++ l))
      (sym (name_more (record { name = octet ∷ octets; place = place }) refl)) (places_both q.ins (map (λ n. n.place) q.names) place)

  router_left : (identity : List ℕ) → left_of (sock.Router (attached_state identity place q)) ≡ left_of (sock.Router q)
  router_left [] = refl
  router_left (octet ∷ octets) = refl

  router_at_ok : (identity : List ℕ) (a : Attached) (q' : RouterState) → Attaches {E = AllocError} identity place q (Ok a) q'
      → AddsPlace a place (sock.Router q) (sock.Router q') × (left_of (sock.Router q') ≡ left_of (sock.Router q))
  router_at_ok identity Yes q' did = (
    subst (λ (z : RouterState). HaveSamePlaces ((q.ins ++ map (λ n. n.place) q.names) ++ place ∷ []) (peer_places (sock.Router z))) (sym did) (router_places identity),
    ap (λ z. left_of (sock.Router z)) did ∙ router_left identity,
  )
  router_at_ok identity BadId q' did = (ap sock.Router did, ap (λ z. left_of (sock.Router z)) did)
  router_at_ok identity Second q' did = absurd did

  pub router_taken : (identity : List ℕ) (s : AnySock) (r : Result Attached AllocError) (q' : RouterState) → s ≡ sock.Router q
      → Attaches identity place q r q' → (r ≡ Ok BadId) ↔ IsTaken q.names identity → IfOk r (λ a. AttachedOver place identity s a (sock.Router q'))
  router_taken identity s (Ok a) q' is did bad = subst (λ (t : AnySock). AttachedOver place identity t a (sock.Router q')) (sym is) (record {
    answers = λ ends. (attaches_the_end ends identity place q q' (Ok a) did bad).0;
    attaches = λ ends. (attaches_the_end ends identity place q q' (Ok a) did bad).1;
    places = (router_at_ok identity a q' did).0;
    left_is = (router_at_ok identity a q' did).1;
  })
  router_taken identity s (Err e) q' is did bad = tt

  pub router_err : (identity : List ℕ) (r : Result Attached AllocError) (q' : RouterState) → Attaches identity place q r q' → OnErr r (q' ≡ q)
  router_err identity (Ok a) q' did = tt
  router_err identity (Err e) q' did = did
