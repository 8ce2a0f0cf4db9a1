-- Which ends a socket keeps where a peer comes and where one goes.
use Rattle.std.specs.Prelude.{◌≡◌, ℕ, Bool, true, false, not, cond, List, [], ◌∷◌, ◌++◌, Option, Some, None, All, Contains, if◌then◌else◌, map, filter, option_to_list, refl}
use Rattle.std.specs.List.{list_any}
use Rattle.std.specs.Map.{keys_of, lookup, remove_entry}
use Rattle.std.specs.Option.{unwrap_or}
use Rattle.std.proofs.Common.{sym, ap, ◌∙◌, subst}
use Rattle.std.proofs.lemmas.List.{append-nil, map-append}
use Rattle.std.proofs.lemmas.List.Elements.{All-nil, All-head, All-tail, All-append, All-weaker, All-filter, All-contains, filter-append, filter_passes}
use Rattle.zq_base.specs.declared.ids.EndId.{EndId}
use Rattle.zq_base.specs.declared.attached.Attached.{Attached}
use Rattle.zq_base.specs.declared.attached.Attached.TheVariants.{Yes, BadId, Second}
use Rattle.spec_pattern.specs.PipeStep.{same_pipe}
use Rattle.spec_pattern.specs.Duty.{Duty, Free, Asked, Owing}
use Rattle.spec_pattern.specs.Routing.{Names}
use Rattle.spec_pattern.specs.Topics.{Topic, Subscribers, others_have}
use Rattle.spec_pattern.specs.Publishing.{Publisher, cancel_of, without_subscriber}
use Rattle.spec_pattern.specs.Subscribing.{Subscriber, without_publisher}
use Rattle.spec_pattern.specs.Pattern.{BothTurns, RouterState, Pattern, Push, Pull, Pair, Dealer, Req, Rep, Router, Pub, XPub, Sub, XSub, attach_as, taken_in, detach, without, without_both, partner_without, duty_without, without_name}
use Rattle.spec_pattern.proofs.Exact.{same_pipes}
use Rattle.spec_control.specs.Control.{is_end}
use Rattle.control_laws.specs.AttachedOnce.{AreOnce}
use Rattle.any_sock.proofs.PlaceLemmas.{all_front, all_behind}
use Rattle.control_laws.proofs.HeldEventLemmas.{keep_all}
use Rattle.spec_pattern.specs.Peers.{out_turns, in_turns, peer_names, named_peer, listed_peers, partner_of, pattern_duty, kept_ends}
use Rattle.spec_pattern.proofs.EndsStayLemmas.{ends_stay}
use Rattle.socket_laws.specs.Peers.{IsNoPeer, PeersComeAndGo}
use Rattle.socket_laws.proofs.EndLemmas.{same_as_end, all_snoc, filter_ends, not_so, none_among, once_filter, once_snoc}

-- ---- a peer goes
module _ (x : EndId) where
  abbrev Else : EndId → Type 0
  Else y = same_pipe x y ≡ false

  listed_without : {T : Type 0} (subs : List (EndId × T)) → AreOnce (keys_of subs) → keys_of (remove_entry (same_pipe x) subs) ≡ without x (keys_of subs)
  listed_without [] once = refl
  listed_without {T = T} (s ∷ subs) once = by (same_pipe x s.0) refl (listed_without subs once.1)
    where
      by : (b : Bool) → same_pipe x s.0 ≡ b → keys_of (remove_entry (same_pipe x) subs) ≡ without x (keys_of subs) → keys_of (cond b subs (s ∷ remove_entry (same_pipe x) subs)) ≡ cond (not b) (s.0 ∷ without x (keys_of subs)) (without x (keys_of subs))
      by true is rest =
          sym (keep_all (same_pipe x) (keys_of subs)
          (All-weaker (λ y. is_end s.0 y ≡ false) Else (λ y other. same_as_end x y ∙ (ap (λ (z : EndId). is_end z y) (same_pipes x s.0 is) ∙ other)) (keys_of subs) (none_among s.0 (keys_of subs) once.0)))
      by false is rest = ap (λ (es : List EndId). s.0 ∷ es) rest

  partner_gone : (partner : Option EndId) → option_to_list (partner_without x partner) ≡ without x (option_to_list partner)
  partner_gone None = refl
  partner_gone (Some partner) = by (same_pipe x partner)
    where
      by : (b : Bool) → option_to_list (if b then None else Some partner) ≡ cond (not b) (partner ∷ []) []
      by true = refl
      by false = refl

  duty_gone : (duty : Duty) → option_to_list (partner_of (duty_without x duty)) ≡ without x (option_to_list (partner_of duty))
  duty_gone Free = refl
  duty_gone (Asked peer) = partner_gone peer
  duty_gone (Owing peer envelope) = partner_gone peer

  outs_gone : (p : Pattern) → out_turns (detach x p) ≡ without x (out_turns p)
  outs_gone (Push outs) = refl
  outs_gone (Pull ins) = refl
  outs_gone (Pair t) = refl
  outs_gone (Dealer t) = refl
  outs_gone (Req t duty) = refl
  outs_gone (Rep ins duty) = refl
  outs_gone (Router r) = refl
  outs_gone (Pub p) = refl
  outs_gone (XPub p) = refl
  outs_gone (Sub s) = refl
  outs_gone (XSub s) = refl

  ins_gone : (p : Pattern) → in_turns (detach x p) ≡ without x (in_turns p)
  ins_gone (Push outs) = refl
  ins_gone (Pull ins) = refl
  ins_gone (Pair t) = refl
  ins_gone (Dealer t) = refl
  ins_gone (Req t duty) = refl
  ins_gone (Rep ins duty) = refl
  ins_gone (Router r) = refl
  ins_gone (Pub p) = refl
  ins_gone (XPub p) = refl
  ins_gone (Sub s) = refl
  ins_gone (XSub s) = refl

  names_gone : (p : Pattern) → map named_peer (peer_names (detach x p)) ≡ without x (map named_peer (peer_names p))
  names_gone (Push outs) = refl
  names_gone (Pull ins) = refl
  names_gone (Pair t) = refl
  names_gone (Dealer t) = refl
  names_gone (Req t duty) = refl
  names_gone (Rep ins duty) = refl
  names_gone (Router r) = filter_ends named_peer (λ y. not (same_pipe x y)) r.names
  names_gone (Pub p) = refl
  names_gone (XPub p) = refl
  names_gone (Sub s) = refl
  names_gone (XSub s) = refl

  pub listed_gone : (p : Pattern) → AreOnce (listed_peers p) → listed_peers (detach x p) ≡ without x (listed_peers p)
  listed_gone (Push outs) once = refl
  listed_gone (Pull ins) once = refl
  listed_gone (Pair t) once = refl
  listed_gone (Dealer t) once = refl
  listed_gone (Req t duty) once = refl
  listed_gone (Rep ins duty) once = refl
  listed_gone (Router r) once = refl
  listed_gone (Pub p) once = listed_without p.subs once
  listed_gone (XPub p) once = listed_without p.subs once
  listed_gone (Sub s) once = listed_without s.followers once
  listed_gone (XSub s) once = listed_without s.followers once

  partner_left : (p : Pattern) → option_to_list (partner_of (pattern_duty (detach x p))) ≡ without x (option_to_list (partner_of (pattern_duty p)))
  partner_left (Push outs) = refl
  partner_left (Pull ins) = refl
  partner_left (Pair t) = refl
  partner_left (Dealer t) = refl
  partner_left (Req t duty) = duty_gone duty
  partner_left (Rep ins duty) = duty_gone duty
  partner_left (Router r) = refl
  partner_left (Pub p) = refl
  partner_left (XPub p) = refl
  partner_left (Sub s) = refl
  partner_left (XSub s) = refl

  -- the ends that are kept are those that are not it
  pub kept_gone : (p : Pattern) → AreOnce (listed_peers p) → kept_ends (detach x p) ≡ without x (kept_ends p)
  kept_gone p once =
      let f : EndId → Bool = λ y. not (same_pipe x y) in
      let names = map named_peer (peer_names p) in
      let partner = option_to_list (partner_of (pattern_duty p)) in
      let rest = names ++ (listed_peers p ++ partner) in
      ap (λ (es : List EndId). es ++ (in_turns (detach x p) ++ (map named_peer (peer_names (detach x p)) ++ (listed_peers (detach x p) ++ option_to_list (partner_of (pattern_duty (detach x p))))))) (outs_gone p)
      ∙ ap (λ (es : List EndId). without x (out_turns p) ++ (es ++ (map named_peer (peer_names (detach x p)) ++ (listed_peers (detach x p) ++ option_to_list (partner_of (pattern_duty (detach x p))))))) (ins_gone p)
      ∙ ap (λ (es : List EndId). without x (out_turns p) ++ (without x (in_turns p) ++ (es ++ (listed_peers (detach x p) ++ option_to_list (partner_of (pattern_duty (detach x p))))))) (names_gone p)
      ∙ ap (λ (es : List EndId). without x (out_turns p) ++ (without x (in_turns p) ++ (without x names ++ (es ++ option_to_list (partner_of (pattern_duty (detach x p))))))) (listed_gone p once)
      ∙ ap (λ (es : List EndId). without x (out_turns p) ++ (without x (in_turns p) ++ (without x names ++ (without x (listed_peers p) ++ es)))) (partner_left p)
      ∙ sym (filter-append f (out_turns p) (in_turns p ++ rest)
      ∙ ap (λ (es : List EndId). without x (out_turns p) ++ es) (filter-append f (in_turns p) rest
      ∙ ap (λ (es : List EndId). without x (in_turns p) ++ es) (filter-append f names (listed_peers p ++ partner)
      ∙ ap (λ (es : List EndId). without x names ++ es) (filter-append f (listed_peers p) partner))))

  pub once_gone : (p : Pattern) → AreOnce (listed_peers p) → AreOnce (listed_peers (detach x p))
  once_gone p once = subst AreOnce (sym (listed_gone p once)) (once_filter (λ y. not (same_pipe x y)) (listed_peers p) once)

  -- what is so of all stays so
  pub kept_less : (P : EndId → Type 0) (p : Pattern) → AreOnce (listed_peers p) → All P (kept_ends p) → All P (kept_ends (detach x p))
  kept_less P p once all = subst (λ (es : List EndId). All P es) (sym (kept_gone p once)) (All-filter (λ y. not (same_pipe x y)) P (kept_ends p) all)

  pub no_peer_then : (p : Pattern) → AreOnce (listed_peers p) → IsNoPeer x (detach x p)
  no_peer_then p once =
      subst (λ (es : List EndId). All Else es) (sym (kept_gone p once))
      (All-weaker (λ y. not (same_pipe x y) ≡ true) Else (λ y is. not_so (same_pipe x y) is) (without x (kept_ends p)) (filter_passes (λ y. not (same_pipe x y)) (kept_ends p)))

  -- ---- an end that is no peer
  lists_none : {T : Type 0} (subs : List (EndId × T)) → All Else (keys_of subs) → remove_entry (same_pipe x) subs ≡ subs
  lists_none [] none = refl
  lists_none {T = T} (s ∷ subs) none =
      ap (λ (b : Bool). cond b subs (s ∷ remove_entry (same_pipe x) subs)) (All-head Else s.0 (keys_of subs) none)
      ∙ ap (λ (es : List (EndId × T)). s ∷ es) (lists_none subs (All-tail Else s.0 (keys_of subs) none))

  none_found : (subs : Subscribers EndId) → All Else (keys_of subs) → lookup (same_pipe x) subs ≡ None
  none_found [] none = refl
  none_found (s ∷ subs) none =
      ap (λ (b : Bool). cond b (Some s.1) (lookup (same_pipe x) subs)) (All-head Else s.0 (keys_of subs) none) ∙ none_found subs (All-tail Else s.0 (keys_of subs) none)

  names_none : (names : Names) → All Else (map named_peer names) → filter (λ n. not (same_pipe x n.peer)) names ≡ names
  names_none [] none = refl
  names_none (n ∷ names) none =
      ap (λ (b : Bool). cond (not b) (n ∷ filter (λ m. not (same_pipe x m.peer)) names) (filter (λ m. not (same_pipe x m.peer)) names)) (All-head Else n.peer (map named_peer names) none)
      ∙ ap (λ (ns : Names). n ∷ ns) (names_none names (All-tail Else n.peer (map named_peer names) none))

  partner_none : (partner : Option EndId) → All Else (option_to_list partner) → partner_without x partner ≡ partner
  partner_none None none = refl
  partner_none (Some partner) none = ap (λ (b : Bool). if b then None else Some partner) (All-head Else partner [] none)

  duty_none : (duty : Duty) → All Else (option_to_list (partner_of duty)) → duty_without x duty ≡ duty
  duty_none Free none = refl
  duty_none (Asked peer) none = ap (λ (o : Option EndId). Asked o) (partner_none peer none)
  duty_none (Owing peer envelope) none = ap (λ (o : Option EndId). Owing o envelope) (partner_none peer none)

  turns_none : (es : List EndId) → All Else es → without x es ≡ es
  turns_none es none = keep_all (same_pipe x) es none

  both_none : (t : BothTurns) → All Else t.outs → All Else t.ins → without_both x t ≡ t
  both_none t outs ins =
      ap (λ (es : List EndId). let u : BothTurns = record { outs = es; ins = without x t.ins } in u) (turns_none t.outs outs)
      ∙ ap (λ (es : List EndId). let u : BothTurns = record { outs = t.outs; ins = es } in u) (turns_none t.ins ins)

  router_none : (r : RouterState) → All Else r.ins → All Else (map named_peer r.names) → without_name x r ≡ r
  router_none r ins names =
      ap (λ (es : List EndId). let q : RouterState = record r { ins = es; names = filter (λ n. not (same_pipe x n.peer)) r.names } in q) (turns_none r.ins ins)
      ∙ ap (λ (ns : Names). let q : RouterState = record r { names = ns } in q) (names_none r.names names)

  publisher_none : (p : Publisher) → All Else p.ins → All Else (keys_of p.subs) → without_subscriber x p ≡ p
  publisher_none p ins subs =
      ap (λ (es : List EndId). let q : Publisher = record (without_subscriber x p) { ins = es } in q) (turns_none p.ins ins)
      ∙ ap (λ (ts : Subscribers EndId). let q : Publisher = record p { subs = ts; inbox = (without_subscriber x p).inbox } in q) (lists_none p.subs subs)
      ∙ ap (λ (o : Option (List Topic)). let q : Publisher = record p { inbox = if p.tells then p.inbox ++ map (cancel_of x) (filter (λ t. not (others_have same_pipe p.subs x t)) (unwrap_or o [])) else p.inbox } in q) (none_found p.subs subs)
      ∙ by p.tells
    where
      by : (b : Bool) → record p { inbox = if b then p.inbox ++ [] else p.inbox } ≡ p
      by true = ap (λ (ns : List _). let q : Publisher = record p { inbox = ns } in q) (append-nil p.inbox)
      by false = refl

  subscriber_none : (s : Subscriber) → All Else s.ins → All Else (keys_of s.followers) → without_publisher x s ≡ s
  subscriber_none s ins subs =
      ap (λ (es : List EndId). let q : Subscriber = record (without_publisher x s) { ins = es } in q) (turns_none s.ins ins)
      ∙ ap (λ (ts : Subscribers EndId). let q : Subscriber = record s { followers = ts } in q) (lists_none s.followers subs)

-- the lists that the ends that are kept are made of
module _ (P : EndId → Type 0) (p : Pattern) (all : All P (kept_ends p)) where
  abbrev listed_on : List EndId
  listed_on = listed_peers p ++ option_to_list (partner_of (pattern_duty p))

  abbrev names_on : List EndId
  names_on = map named_peer (peer_names p) ++ listed_on

  behind_outs : All P (in_turns p ++ names_on)
  behind_outs = all_behind P (out_turns p) (in_turns p ++ names_on) all

  behind_ins : All P names_on
  behind_ins = all_behind P (in_turns p) names_on behind_outs

  behind_names : All P listed_on
  behind_names = all_behind P (map named_peer (peer_names p)) listed_on behind_ins

  pub of_outs : All P (out_turns p)
  of_outs = all_front P (out_turns p) (in_turns p ++ names_on) all

  pub of_ins : All P (in_turns p)
  of_ins = all_front P (in_turns p) names_on behind_outs

  pub of_names : All P (map named_peer (peer_names p))
  of_names = all_front P (map named_peer (peer_names p)) listed_on behind_ins

  pub of_listed : All P (listed_peers p)
  of_listed = all_front P (listed_peers p) (option_to_list (partner_of (pattern_duty p))) behind_names

  pub of_partner : All P (option_to_list (partner_of (pattern_duty p)))
  of_partner = all_behind P (listed_peers p) (option_to_list (partner_of (pattern_duty p))) behind_names

kept_of : (P : EndId → Type 0) (p : Pattern) → All P (out_turns p) → All P (in_turns p) → All P (map named_peer (peer_names p)) → All P (listed_peers p) → All P (option_to_list (partner_of (pattern_duty p))) → All P (kept_ends p)
kept_of P p outs ins names listed partner =
    All-append P (out_turns p) _ outs (All-append P (in_turns p) _ ins (All-append P (map named_peer (peer_names p)) _ names (All-append P (listed_peers p) _ listed partner)))

pub nothing_gone : (x : EndId) (p : Pattern) → IsNoPeer x p → detach x p ≡ p
nothing_gone x (Push outs) none = ap (λ (es : List EndId). Push es) (turns_none x outs (of_outs (Else x) (Push outs) none))
nothing_gone x (Pull ins) none = ap (λ (es : List EndId). Pull es) (turns_none x ins (of_ins (Else x) (Pull ins) none))
nothing_gone x (Pair t) none = ap (λ (u : BothTurns). Pair u) (both_none x t (of_outs (Else x) (Pair t) none) (of_ins (Else x) (Pair t) none))
nothing_gone x (Dealer t) none = ap (λ (u : BothTurns). Dealer u) (both_none x t (of_outs (Else x) (Dealer t) none) (of_ins (Else x) (Dealer t) none))
nothing_gone x (Req t duty) none =
    ap (λ (u : BothTurns). Req u (duty_without x duty)) (both_none x t (of_outs (Else x) (Req t duty) none) (of_ins (Else x) (Req t duty) none))
    ∙ ap (λ (d : Duty). Req t d) (duty_none x duty (of_partner (Else x) (Req t duty) none))
nothing_gone x (Rep ins duty) none =
    ap (λ (es : List EndId). Rep es (duty_without x duty)) (turns_none x ins (of_ins (Else x) (Rep ins duty) none))
    ∙ ap (λ (d : Duty). Rep ins d) (duty_none x duty (of_partner (Else x) (Rep ins duty) none))
nothing_gone x (Router r) none = ap (λ (q : RouterState). Router q) (router_none x r (of_ins (Else x) (Router r) none) (of_names (Else x) (Router r) none))
nothing_gone x (Pub p) none = ap (λ (q : Publisher). Pub q) (publisher_none x p (of_ins (Else x) (Pub p) none) (of_listed (Else x) (Pub p) none))
nothing_gone x (XPub p) none = ap (λ (q : Publisher). XPub q) (publisher_none x p (of_ins (Else x) (XPub p) none) (of_listed (Else x) (XPub p) none))
nothing_gone x (Sub s) none = ap (λ (q : Subscriber). Sub q) (subscriber_none x s (of_ins (Else x) (Sub s) none) (of_listed (Else x) (Sub s) none))
nothing_gone x (XSub s) none = ap (λ (q : Subscriber). XSub q) (subscriber_none x s (of_ins (Else x) (XSub s) none) (of_listed (Else x) (XSub s) none))

-- ---- a peer comes
module _ (P : EndId → Type 0) (x : EndId) (is : P x) where
  subs_come : {T : Type 0} (subs : List (EndId × T)) (new : T) → All P (keys_of subs) → All P (keys_of (subs ++ (x, new) ∷ []))
  subs_come subs new all = subst (λ (es : List EndId). All P es) (sym (map-append (λ s. s.0) subs ((x, new) ∷ []))) (all_snoc P x (keys_of subs) is all)

  names_come : (names : Names) (name : List ℕ) → All P (map named_peer names) → All P (map named_peer (names ++ record { name = name; peer = x } ∷ []))
  names_come names name all =
      subst (λ (es : List EndId). All P es) (sym (map-append named_peer names (record { name = name; peer = x } ∷ []))) (all_snoc P x (map named_peer names) is all)

  pub kept_more : (identity : List ℕ) (p : Pattern) → All P (kept_ends p) → All P (kept_ends (taken_in x identity p))
  kept_more identity (Push outs) all = kept_of P (Push (outs ++ x ∷ [])) (all_snoc P x outs is (of_outs P (Push outs) all)) (All-nil P) (All-nil P) (All-nil P) (All-nil P)
  kept_more identity (Pull ins) all = kept_of P (Pull (ins ++ x ∷ [])) (All-nil P) (all_snoc P x ins is (of_ins P (Pull ins) all)) (All-nil P) (All-nil P) (All-nil P)
  kept_more identity (Pair t) all =
      kept_of P (taken_in x identity (Pair t)) (all_snoc P x t.outs is (of_outs P (Pair t) all)) (all_snoc P x t.ins is (of_ins P (Pair t) all)) (All-nil P) (All-nil P) (All-nil P)
  kept_more identity (Dealer t) all =
      kept_of P (taken_in x identity (Dealer t)) (all_snoc P x t.outs is (of_outs P (Dealer t) all)) (all_snoc P x t.ins is (of_ins P (Dealer t) all)) (All-nil P) (All-nil P) (All-nil P)
  kept_more identity (Req t duty) all =
      kept_of P (taken_in x identity (Req t duty)) (all_snoc P x t.outs is (of_outs P (Req t duty) all)) (all_snoc P x t.ins is (of_ins P (Req t duty) all)) (All-nil P) (All-nil P) (of_partner P (Req t duty) all)
  kept_more identity (Rep ins duty) all = kept_of P (taken_in x identity (Rep ins duty)) (All-nil P) (all_snoc P x ins is (of_ins P (Rep ins duty) all)) (All-nil P) (All-nil P) (of_partner P (Rep ins duty) all)
  kept_more [] (Router r) all = kept_of P (taken_in x [] (Router r)) (All-nil P) (all_snoc P x r.ins is (of_ins P (Router r) all)) (names_come r.names _ (of_names P (Router r) all)) (All-nil P) (All-nil P)
  kept_more (octet ∷ octets) (Router r) all =
      kept_of P (taken_in x (octet ∷ octets) (Router r)) (All-nil P) (all_snoc P x r.ins is (of_ins P (Router r) all)) (names_come r.names (octet ∷ octets) (of_names P (Router r) all)) (All-nil P) (All-nil P)
  kept_more identity (Pub p) all = kept_of P (taken_in x identity (Pub p)) (All-nil P) (all_snoc P x p.ins is (of_ins P (Pub p) all)) (All-nil P) (subs_come p.subs [] (of_listed P (Pub p) all)) (All-nil P)
  kept_more identity (XPub p) all = kept_of P (taken_in x identity (XPub p)) (All-nil P) (all_snoc P x p.ins is (of_ins P (XPub p) all)) (All-nil P) (subs_come p.subs [] (of_listed P (XPub p) all)) (All-nil P)
  kept_more identity (Sub s) all = kept_of P (taken_in x identity (Sub s)) (All-nil P) (all_snoc P x s.ins is (of_ins P (Sub s) all)) (All-nil P) (subs_come s.followers [] (of_listed P (Sub s) all)) (All-nil P)
  kept_more identity (XSub s) all = kept_of P (taken_in x identity (XSub s)) (All-nil P) (all_snoc P x s.ins is (of_ins P (XSub s) all)) (All-nil P) (subs_come s.followers [] (of_listed P (XSub s) all)) (All-nil P)

  pub kept_answered : (answer : Attached) (identity : List ℕ) (p : Pattern) → All P (kept_ends p) → All P (kept_ends (attach_as answer x identity p))
  kept_answered Yes identity p all = kept_more identity p all
  kept_answered BadId identity p all = all
  kept_answered Second identity p all = all

once_subs : {T : Type 0} (x : EndId) (subs : List (EndId × T)) (new : T) → AreOnce (keys_of subs) → list_any (is_end x) (keys_of subs) ≡ false → AreOnce (keys_of (subs ++ (x, new) ∷ []))
once_subs x subs new once none = subst AreOnce (sym (map-append (λ s. s.0) subs ((x, new) ∷ []))) (once_snoc x (keys_of subs) once none)

once_more : (x : EndId) (identity : List ℕ) (p : Pattern) → AreOnce (listed_peers p) → list_any (is_end x) (listed_peers p) ≡ false → AreOnce (listed_peers (taken_in x identity p))
once_more x identity (Push outs) once none = tt
once_more x identity (Pull ins) once none = tt
once_more x identity (Pair t) once none = tt
once_more x identity (Dealer t) once none = tt
once_more x identity (Req t duty) once none = tt
once_more x identity (Rep ins duty) once none = tt
once_more x identity (Router r) once none = tt
once_more x identity (Pub p) once none = once_subs x p.subs [] once none
once_more x identity (XPub p) once none = once_subs x p.subs [] once none
once_more x identity (Sub s) once none = once_subs x s.followers [] once none
once_more x identity (XSub s) once none = once_subs x s.followers [] once none

pub once_answered : (answer : Attached) (x : EndId) (identity : List ℕ) (p : Pattern) → AreOnce (listed_peers p) → list_any (is_end x) (listed_peers p) ≡ false → AreOnce (listed_peers (attach_as answer x identity p))
once_answered Yes x identity p once none = once_more x identity p once none
once_answered BadId x identity p once none = once
once_answered Second x identity p once none = once

pub peers_come_and_go : PeersComeAndGo
peers_come_and_go = record {
  none = nothing_gone;
  comes = λ e x answer identity p other none. kept_answered (λ y. same_pipe e y ≡ false) x other answer identity p none;
  goes = λ e x p once none. kept_less x (λ y. same_pipe e y ≡ false) p once none;
  gone = λ e p once. no_peer_then e p once;
  calls = λ e old new keeps none. All-weaker (Contains (kept_ends old)) (λ y. same_pipe e y ≡ false) (λ y there. All-contains (λ z. same_pipe e z ≡ false) (kept_ends old) y none there) (kept_ends new) (ends_stay.stays old new keeps);
}
