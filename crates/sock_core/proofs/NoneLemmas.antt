-- An end that is none of a socket's peers leaves nothing behind.
use Rattle.std.proofs.Common.{◌≡◌, ◌∙◌, ℕ, Bool, true, false, cond, List, [], ◌∷◌, ◌++◌, All, not, map, filter, None, Some, Option, refl, ap}
use Rattle.std.specs.Option.{unwrap_or}
use Rattle.std.specs.Map.{keys_of, lookup}
use Rattle.std.proofs.lemmas.List.{append-nil}
use Rattle.std.proofs.lemmas.List.Elements.{All-head, All-tail}
use Rattle.zq_base.specs.Message.{Frames}
use Rattle.spec_pattern.specs.PipeStep.{same_pipe}
use Rattle.spec_pattern.specs.TurnList.{End}
use Rattle.spec_pattern.specs.Duty.{Asked, Owing}
use Rattle.spec_pattern.specs.Routing.{Named}
use Rattle.spec_pattern.specs.Topics.{Topic, Subscribers, without_peer, topics_gone, others_have}
use Rattle.spec_pattern.specs.Publishing.{cancel_of, without_subscriber}
use Rattle.spec_pattern.specs.Subscribing.{without_publisher}
use Rattle.spec_pattern.specs.Pattern.{detach, without, duty_without}
use Rattle.spec_pattern.specs.Pattern as by_kind
use Rattle.req_rep.specs.Asking.{asked_duty}
use Rattle.req_rep.specs.Answering.{owed_duty}
use Rattle.req_rep.specs.declared.partner.Partner.{Partner}
use Rattle.req_rep.specs.declared.partner.Partner.TheVariants.{Nobody, At, Gone}
use Rattle.router_dealer.specs.PlaceNames.{PlaceName, names_at}
use Rattle.pub_sub.specs.Places.{subs_at}
use Rattle.pub_sub.specs.Publishers.{PubState, publisher_at}
use Rattle.pub_sub.specs.Subscribing.{SubState, subscriber_at}
use Rattle.any_sock.specs.Over.{over, peer_places, partner_place}
use Rattle.any_sock.specs.Told.{IsToldByPeers}
use Rattle.any_sock.specs.declared.any_sock.AnySock.{AnySock}
use Rattle.any_sock.specs.declared.any_sock.AnySock.TheVariants as sock
use Rattle.any_sock.proofs.PlaceLemmas.{all_front, all_behind}
use Rattle.sock_core.specs.Patterns.{KnowsItsPeers, NamesWhere}
use Rattle.any_sock.specs.Peers.{CanName}
use Rattle.sock_core.proofs.PeerLemmas.{all_of}

module _ (f : ℕ → End) (e : End) where
  abbrev IsElse : ℕ → Type 0
  IsElse k = same_pipe e (f k) ≡ false

  turns_none : (ks : List ℕ) → All IsElse ks → without e (map f ks) ≡ map f ks
  turns_none [] none = refl
  turns_none (k ∷ ks) none =
      ap (λ b. cond (not b) (f k ∷ without e (map f ks)) (without e (map f ks))) (All-head IsElse k ks none)
      ∙ ap (λ l. f k ∷ l) (turns_none ks (All-tail IsElse k ks none))

  asked_none : (p : Partner) → All IsElse (partner_place p) → duty_without e (asked_duty f p) ≡ asked_duty f p
  asked_none Nobody none = refl
  asked_none (At k) none = ap (λ b. Asked (cond b None (Some (f k)))) (All-head IsElse k [] none)
  asked_none Gone none = refl

  owed_none : (p : Partner) (envelope : Frames) → All IsElse (partner_place p) → duty_without e (owed_duty f p envelope) ≡ owed_duty f p envelope
  owed_none Nobody envelope none = refl
  owed_none (At k) envelope none = ap (λ b. Owing (cond b None (Some (f k))) envelope) (All-head IsElse k [] none)
  owed_none Gone envelope none = refl

  names_none : (names : List PlaceName) → All IsElse (map (λ n. n.place) names) → filter (λ n. not (same_pipe e n.peer)) (names_at f names) ≡ names_at f names
  names_none [] none = refl
  names_none (n ∷ names) none =
      let here : Named = record { name = n.name; peer = f n.place } in
      let rest = filter (λ n. not (same_pipe e n.peer)) (names_at f names) in
      ap (λ b. cond (not b) (here ∷ rest) rest) (All-head IsElse n.place _ none)
      ∙ ap (λ l. here ∷ l) (names_none names (All-tail IsElse n.place _ none))

  subs_none : (subs : Subscribers ℕ) → All IsElse (keys_of subs) → without_peer same_pipe e (subs_at f subs) ≡ subs_at f subs
  subs_none [] none = refl
  subs_none (s ∷ subs) none =
      ap (λ b. cond b (subs_at f subs) ((f s.0, s.1) ∷ without_peer same_pipe e (subs_at f subs))) (All-head IsElse s.0 (keys_of subs) none)
      ∙ ap (λ (l : Subscribers End). (f s.0, s.1) ∷ l) (subs_none subs (All-tail IsElse s.0 (keys_of subs) none))

  none_listed : (subs : Subscribers ℕ) → All IsElse (keys_of subs) → lookup (same_pipe e) (subs_at f subs) ≡ None
  none_listed [] none = refl
  none_listed (s ∷ subs) none =
      ap (λ b. cond b (Some s.1) (lookup (same_pipe e) (subs_at f subs))) (All-head IsElse s.0 (keys_of subs) none)
      ∙ none_listed subs (All-tail IsElse s.0 (keys_of subs) none)

  none_gone : (subs : Subscribers ℕ) → All IsElse (keys_of subs) → topics_gone same_pipe (subs_at f subs) e ≡ []
  none_gone subs none =
      ap (λ (o : Option (List Topic)). filter (λ t. not (others_have same_pipe (subs_at f subs) e t)) (unwrap_or o [])) (none_listed subs none)

  publisher_none : (p : PubState) → All IsElse p.ins → All IsElse (keys_of p.subs) → without_subscriber e (publisher_at f p) ≡ publisher_at f p
  publisher_none p ins subs =
      let inbox = by p.tells in
      λ i. record { ins = turns_none p.ins ins i; subs = subs_none p.subs subs i; inbox = inbox i; verbose = p.verbose; tells = p.tells }
    where
      by : (b : Bool) → cond b (p.inbox ++ map (cancel_of e) (topics_gone same_pipe (subs_at f p.subs) e)) p.inbox ≡ p.inbox
      by true = ap (λ l. p.inbox ++ map (cancel_of e) l) (none_gone p.subs subs) ∙ append-nil p.inbox
      by false = refl

  subscriber_none : (u : SubState) → All IsElse (u.ins ++ keys_of u.followers) → without_publisher e (subscriber_at f u) ≡ subscriber_at f u
  subscriber_none u none =
      let ins = turns_none u.ins (all_front IsElse u.ins (keys_of u.followers) none) in
      let followers = subs_none u.followers (all_behind IsElse u.ins (keys_of u.followers) none) in
      λ i. record { ins = ins i; wanted = u.wanted; followers = followers i }

  detach_none : (s : AnySock) → IsToldByPeers s → All IsElse (peer_places s) → detach e (over f s) ≡ over f s
  detach_none (sock.Push turns) told none = ap by_kind.Push (turns_none turns none)
  detach_none (sock.Pull turns) told none = ap by_kind.Pull (turns_none turns none)
  detach_none (sock.Pair turns) told none = ap (λ l. by_kind.Pair (record { outs = l; ins = l })) (turns_none turns none)
  detach_none (sock.Dealer t) told none =
      let outs = turns_none t.outs (all_front IsElse t.outs t.ins none) in
      let ins = turns_none t.ins (all_behind IsElse t.outs t.ins none) in
      λ i. by_kind.Dealer (record { outs = outs i; ins = ins i })
  detach_none (sock.Req r) told none =
      let outs = turns_none r.outs (all_front IsElse r.outs r.ins none) in
      let ins = turns_none r.ins (all_behind IsElse r.outs r.ins none) in
      let duty = asked_none r.asked (all_of IsElse (r.outs ++ r.ins) (partner_place r.asked) told.partner none) in
      λ i. by_kind.Req (record { outs = outs i; ins = ins i }) (duty i)
  detach_none (sock.Rep r) told none =
      let ins = turns_none r.ins none in
      let duty = owed_none r.owed r.envelope (all_of IsElse r.ins (partner_place r.owed) told.partner none) in
      λ i. by_kind.Rep (ins i) (duty i)
  detach_none (sock.Router r) told none =
      let ins = turns_none r.ins (all_front IsElse r.ins (map (λ (n : PlaceName). n.place) r.names) none) in
      let names = names_none r.names (all_behind IsElse r.ins (map (λ (n : PlaceName). n.place) r.names) none) in
      λ i. by_kind.Router (record { ins = ins i; names = names i; drawn = r.drawn; mandatory = r.mandatory })
  detach_none (sock.Pub p) told none = ap by_kind.Pub (publisher_none p (all_of IsElse (keys_of p.subs) p.ins told.heard none) none)
  detach_none (sock.XPub p) told none = ap by_kind.XPub (publisher_none p (all_of IsElse (keys_of p.subs) p.ins told.heard none) none)
  detach_none (sock.Sub u) told none = ap by_kind.Sub (subscriber_none u none)
  detach_none (sock.XSub u) told none = ap by_kind.XSub (subscriber_none u none)

pub knows_peers : (s : AnySock) → IsToldByPeers s → KnowsItsPeers over (peer_places s) s
knows_peers s told = λ ends e none. detach_none ends e s told none

-- what can be named is named
pub names_where : (s : AnySock) → NamesWhere over CanName s
names_where (sock.Push turns) = λ ends identity can. tt
names_where (sock.Pull turns) = λ ends identity can. tt
names_where (sock.Pair turns) = λ ends identity can. tt
names_where (sock.Dealer t) = λ ends identity can. tt
names_where (sock.Req r) = λ ends identity can. tt
names_where (sock.Rep r) = λ ends identity can. tt
names_where (sock.Router r) = λ ends identity can. can
names_where (sock.Pub p) = λ ends identity can. tt
names_where (sock.XPub p) = λ ends identity can. tt
names_where (sock.Sub u) = λ ends identity can. tt
names_where (sock.XSub u) = λ ends identity can. tt
