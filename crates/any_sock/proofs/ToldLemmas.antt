-- What a socket is over its ends is told by the ends at its peers' places.
use Rattle.std.proofs.Common.{◌≡◌, ℕ, true, List, [], ◌∷◌, ◌++◌, Contains, Option, Some, None, refl, sym, ap, subst, ◌∙◌}
use Rattle.std.specs.Prelude.{map, IfSome}
use Rattle.std.specs.Map.{keys_of}
use Rattle.std.proofs.lemmas.List.Elements.{All-nil, All-head, All-tail, All-contains, All-weaker, All-contains_itself, Contains-append_right}
use Rattle.zq_base.specs.Message.{Frames}
use Rattle.spec_pattern.specs.TurnList.{End}
use Rattle.spec_pattern.specs.Topics.{Subscribers}
use Rattle.spec_pattern.specs.Routing.{Names}
use Rattle.spec_pattern.specs.Pattern.{Pattern, BothTurns}
use Rattle.spec_pattern.specs.Pattern as by_kind
use Rattle.req_rep.specs.Asking.{ReqState, asked_duty}
use Rattle.req_rep.specs.Answering.{RepState, owed_duty}
use Rattle.req_rep.specs.Partners.{IsAt}
use Rattle.req_rep.specs.declared.partner.Partner.{Partner}
use Rattle.req_rep.specs.declared.partner.Partner.TheVariants.{Nobody, At, Gone}
use Rattle.router_dealer.specs.Named.{RouterState}
use Rattle.router_dealer.specs.PlaceNames.{PlaceName, names_at}
use Rattle.pub_sub.specs.Known.{AreKnown}
use Rattle.pub_sub.specs.Places.{subs_at, is_place}
use Rattle.pub_sub.specs.Publishers.{PubState, publisher_at, resumed, meant, obeyed}
use Rattle.pub_sub.specs.Subscribing.{SubState, subscriber_at}
use Rattle.msg_pipe.specs.BothTurns.{Both}
use Rattle.pub_sub.proofs.KnownLemmas.{place_of_all, all_heard}
use Rattle.pub_sub.proofs.HearLemmas.{keys_of-meant}
use Rattle.any_sock.specs.Over.{over, both_at}
use Rattle.any_sock.specs.Told.{Agree, IsToldByPeers}
use Rattle.any_sock.specs.declared.any_sock.AnySock.{AnySock}
use Rattle.any_sock.specs.declared.any_sock.AnySock.TheVariants as sock
use Rattle.any_sock.proofs.PlaceLemmas.{all_front, all_behind, partner_among}

module _ (f g : ℕ → End) where
  same_ends : (ks : List ℕ) → Agree f g ks → map f ks ≡ map g ks
  same_ends [] all = refl
  same_ends (k ∷ ks) all =
      ap (λ (e : End). e ∷ map f ks) (All-head (λ n. f n ≡ g n) k ks all) ∙ ap (λ (l : List End). g k ∷ l) (same_ends ks (All-tail (λ n. f n ≡ g n) k ks all))

  same_subs : (subs : Subscribers ℕ) → Agree f g (keys_of subs) → subs_at f subs ≡ subs_at g subs
  same_subs [] all = refl
  same_subs (x ∷ xs) all =
      ap (λ (e : End). (e, x.1) ∷ subs_at f xs) (All-head (λ n. f n ≡ g n) x.0 (keys_of xs) all)
      ∙ ap (λ (l : Subscribers End). (g x.0, x.1) ∷ l) (same_subs xs (All-tail (λ n. f n ≡ g n) x.0 (keys_of xs) all))

  same_names : (names : List PlaceName) → Agree f g (map (λ n. n.place) names) → names_at f names ≡ names_at g names
  same_names [] all = refl
  same_names (n ∷ ns) all =
      ap (λ (e : End). record { name = n.name; peer = e } ∷ names_at f ns) (All-head (λ k. f k ≡ g k) n.place (map (λ n. n.place) ns) all)
      ∙ ap (λ (l : Names). record { name = n.name; peer = g n.place } ∷ l) (same_names ns (All-tail (λ k. f k ≡ g k) n.place (map (λ n. n.place) ns) all))

  same_both : (outs ins : List ℕ) → Agree f g outs → Agree f g ins → both_at f outs ins ≡ both_at g outs ins
  same_both outs ins o i = ap (λ (l : List End). record { outs = l; ins = map f ins }) (same_ends outs o) ∙ ap (λ (l : List End). record { outs = map g outs; ins = l }) (same_ends ins i)

  same_asked : (ks : List ℕ) (p : Partner) → Agree f g ks → IsAt (Contains ks) p → asked_duty f p ≡ asked_duty g p
  same_asked ks Nobody all at = refl
  same_asked ks (At k) all at = ap (λ (e : End). asked_duty (λ n. e) (At k)) (All-contains (λ n. f n ≡ g n) ks k all at)
  same_asked ks Gone all at = refl

  same_owed : (ks : List ℕ) (p : Partner) (envelope : Frames) → Agree f g ks → IsAt (Contains ks) p → owed_duty f p envelope ≡ owed_duty g p envelope
  same_owed ks Nobody envelope all at = refl
  same_owed ks (At k) envelope all at = ap (λ (e : End). owed_duty (λ n. e) (At k) envelope) (All-contains (λ n. f n ≡ g n) ks k all at)
  same_owed ks Gone envelope all at = refl

  same_publisher : (p : PubState) → Agree f g p.ins → Agree f g (keys_of p.subs) → publisher_at f p ≡ publisher_at g p
  same_publisher p ins subs =
      ap (λ (l : List End). record { ins = l; subs = subs_at f p.subs; inbox = p.inbox; verbose = p.verbose; tells = p.tells }) (same_ends p.ins ins)
      ∙ ap (λ (l : Subscribers End). record { ins = map g p.ins; subs = l; inbox = p.inbox; verbose = p.verbose; tells = p.tells }) (same_subs p.subs subs)

  same_subscriber : (u : SubState) → Agree f g (u.ins ++ keys_of u.followers) → subscriber_at f u ≡ subscriber_at g u
  same_subscriber u all =
      ap (λ (l : List End). record { ins = l; wanted = u.wanted; followers = subs_at f u.followers }) (same_ends u.ins (all_front (λ n. f n ≡ g n) u.ins (keys_of u.followers) all))
      ∙ ap (λ (l : Subscribers End). record { ins = map g u.ins; wanted = u.wanted; followers = l }) (same_subs u.followers (all_behind (λ n. f n ≡ g n) u.ins (keys_of u.followers) all))

  same_kept : (p : PubState) (k : Option (ℕ × Frames)) → AreKnown p → p.kept ≡ k → Agree f g (keys_of p.subs) → resumed f k p ≡ resumed g k p
  same_kept p None known is all = refl
  same_kept p (Some k) known is all = ap (λ (e : End). obeyed e.pair k.0 k.1 p)
      (place_of_all (λ n. f n ≡ g n) (keys_of p.subs) k.0 all (subst (λ (x : Option (ℕ × Frames)). IfSome x (λ k. is_place (keys_of p.subs) k.0 ≡ true)) is known.kept))

  ins_stay : (p : PubState) (k : Option (ℕ × Frames)) → (resumed g k p).ins ≡ p.ins
  ins_stay p None = refl
  ins_stay p (Some k) = refl

  same_meant : (p : PubState) → AreKnown p → Agree f g (keys_of p.subs) → publisher_at f (meant f p) ≡ publisher_at g (meant g p)
  same_meant p known all =
      ap (publisher_at f) (same_kept p p.kept known refl all)
      ∙ same_publisher (meant g p) (subst (Agree f g) (sym (ins_stay p p.kept)) (all_heard (λ n. f n ≡ g n) p known all))
      (subst (Agree f g) (sym (keys_of-meant g p)) all)

module _ (turns : List ℕ) where
  pub told_push : IsToldByPeers (sock.Push turns)
  told_push = record { state = e; received = e; caught = e; partner = All-nil (Contains turns); heard = All-nil (Contains turns) }
    where
      e : (f g : ℕ → End) → Agree f g turns → by_kind.Push (map f turns) ≡ by_kind.Push (map g turns)
      e f g all = ap by_kind.Push (same_ends f g turns all)

  pub told_pull : IsToldByPeers (sock.Pull turns)
  told_pull = record { state = e; received = e; caught = e; partner = All-nil (Contains turns); heard = All-nil (Contains turns) }
    where
      e : (f g : ℕ → End) → Agree f g turns → by_kind.Pull (map f turns) ≡ by_kind.Pull (map g turns)
      e f g all = ap by_kind.Pull (same_ends f g turns all)

  pub told_pair : IsToldByPeers (sock.Pair turns)
  told_pair = record { state = e; received = e; caught = e; partner = All-nil (Contains turns); heard = All-nil (Contains turns) }
    where
      e : (f g : ℕ → End) → Agree f g turns → by_kind.Pair (both_at f turns turns) ≡ by_kind.Pair (both_at g turns turns)
      e f g all = ap by_kind.Pair (same_both f g turns turns all all)

pub told_dealer : (t : Both) → IsToldByPeers (sock.Dealer t)
told_dealer t = record { state = e; received = e; caught = e; partner = All-nil (Contains (t.outs ++ t.ins)); heard = All-nil (Contains (t.outs ++ t.ins)) }
  where
    e : (f g : ℕ → End) → Agree f g (t.outs ++ t.ins) → by_kind.Dealer (both_at f t.outs t.ins) ≡ by_kind.Dealer (both_at g t.outs t.ins)
    e f g all = ap by_kind.Dealer (same_both f g t.outs t.ins (all_front (λ n. f n ≡ g n) t.outs t.ins all) (all_behind (λ n. f n ≡ g n) t.outs t.ins all))

pub told_req : (r : ReqState) → IsAt (Contains r.ins) r.asked → IsToldByPeers (sock.Req r)
told_req r at = record {
  state = e;
  received = e;
  caught = e;
  partner = partner_among (r.outs ++ r.ins) r.ins r.asked (All-weaker (Contains r.ins) (Contains (r.outs ++ r.ins)) (Contains-append_right r.outs r.ins) r.ins (All-contains_itself r.ins)) at;
  heard = All-nil (Contains (r.outs ++ r.ins));
}
  where
    e : (f g : ℕ → End) → Agree f g (r.outs ++ r.ins) → over f (sock.Req r) ≡ over g (sock.Req r)
    e f g all =
        let ins : Agree f g r.ins = all_behind (λ n. f n ≡ g n) r.outs r.ins all in
        ap (λ (t : BothTurns). by_kind.Req t (asked_duty f r.asked)) (same_both f g r.outs r.ins (all_front (λ n. f n ≡ g n) r.outs r.ins all) ins)
        ∙ ap (by_kind.Req (both_at g r.outs r.ins)) (same_asked f g r.ins r.asked ins at)

pub told_rep : (r : RepState) → IsAt (Contains r.ins) r.owed → IsToldByPeers (sock.Rep r)
told_rep r at = record { state = e; received = e; caught = e; partner = partner_among r.ins r.ins r.owed (All-contains_itself r.ins) at; heard = All-nil (Contains r.ins) }
  where
    e : (f g : ℕ → End) → Agree f g r.ins → over f (sock.Rep r) ≡ over g (sock.Rep r)
    e f g all =
        ap (λ (l : List End). by_kind.Rep l (owed_duty f r.owed r.envelope)) (same_ends f g r.ins all)
        ∙ ap (by_kind.Rep (map g r.ins)) (same_owed f g r.ins r.owed r.envelope all at)

pub told_router : (r : RouterState) → IsToldByPeers (sock.Router r)
told_router r = record { state = e; received = e; caught = e; partner = All-nil (Contains (r.ins ++ map (λ n. n.place) r.names)); heard = All-nil (Contains (r.ins ++ map (λ n. n.place) r.names)) }
  where
    e : (f g : ℕ → End) → Agree f g (r.ins ++ map (λ n. n.place) r.names) → over f (sock.Router r) ≡ over g (sock.Router r)
    e f g all =
        ap (λ (l : List End). by_kind.Router (record { ins = l; names = names_at f r.names; drawn = r.drawn; mandatory = r.mandatory }))
        (same_ends f g r.ins (all_front (λ n. f n ≡ g n) r.ins (map (λ n. n.place) r.names) all))
        ∙ ap (λ (l : Names). by_kind.Router (record { ins = map g r.ins; names = l; drawn = r.drawn; mandatory = r.mandatory }))
        (same_names f g r.names (all_behind (λ n. f n ≡ g n) r.ins (map (λ n. n.place) r.names) all))

module _ (p : PubState) (known : AreKnown p) where
  same_heard : (f g : ℕ → End) → Agree f g (keys_of p.subs) → publisher_at f p ≡ publisher_at g p
  same_heard f g all = same_publisher f g p (all_heard (λ n. f n ≡ g n) p known all) all

  pub told_pub : IsToldByPeers (sock.Pub p)
  told_pub = record {
    state = λ f g all. ap by_kind.Pub (same_heard f g all);
    received = λ f g all. ap by_kind.Pub (same_heard f g all);
    caught = λ f g all. ap by_kind.Pub (same_meant f g p known all);
    partner = All-nil (Contains (keys_of p.subs));
    heard = all_heard (Contains (keys_of p.subs)) p known (All-contains_itself (keys_of p.subs));
  }

  pub told_xpub : IsToldByPeers (sock.XPub p)
  told_xpub = record {
    state = λ f g all. ap by_kind.XPub (same_heard f g all);
    received = λ f g all. ap by_kind.XPub (same_meant f g p known all);
    caught = λ f g all. ap by_kind.XPub (same_meant f g p known all);
    partner = All-nil (Contains (keys_of p.subs));
    heard = all_heard (Contains (keys_of p.subs)) p known (All-contains_itself (keys_of p.subs));
  }

module _ (u : SubState) where
  pub told_sub : IsToldByPeers (sock.Sub u)
  told_sub = record { state = e; received = e; caught = e; partner = All-nil (Contains (u.ins ++ keys_of u.followers)); heard = All-nil (Contains (u.ins ++ keys_of u.followers)) }
    where
      e : (f g : ℕ → End) → Agree f g (u.ins ++ keys_of u.followers) → over f (sock.Sub u) ≡ over g (sock.Sub u)
      e f g all = ap by_kind.Sub (same_subscriber f g u all)

  pub told_xsub : IsToldByPeers (sock.XSub u)
  told_xsub = record { state = e; received = e; caught = e; partner = All-nil (Contains (u.ins ++ keys_of u.followers)); heard = All-nil (Contains (u.ins ++ keys_of u.followers)) }
    where
      e : (f g : ℕ → End) → Agree f g (u.ins ++ keys_of u.followers) → over f (sock.XSub u) ≡ over g (sock.XSub u)
      e f g all = ap by_kind.XSub (same_subscriber f g u all)

-- what holds of one socket holds of another that is the same
pub told_as : (s t : AnySock) → s ≡ t → IsToldByPeers t → IsToldByPeers s
told_as s t is told = subst IsToldByPeers (sym is) told
