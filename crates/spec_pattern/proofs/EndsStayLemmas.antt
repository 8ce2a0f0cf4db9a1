-- A socket writes none but the ends that it keeps, and keeps no further one after a call.
use Rattle.std.proofs.Common.{◌≡◌, inl, inr, ◌⊎◌, List, [], ◌++◌, Option, Some, None, All, Contains, map, refl, sym, subst}
use Rattle.std.specs.Prelude.{option_to_list}
use Rattle.std.proofs.lemmas.List.Elements.{All-nil, All-cons, All-append, All-weaker, All-contains_itself, Contains-append_left, Contains-append_right, Contains-append_cases, All-head}
use Rattle.std.proofs.lemmas.List.Sorted.{All-permutation}
use Rattle.spec_pattern.specs.TurnList.{End}
use Rattle.spec_pattern.specs.Routing.{Names}
use Rattle.spec_pattern.specs.Pattern.{Pattern, Push, Pull, Pair, Dealer, Req, Rep, Router, Pub, XPub, Sub, XSub}
use Rattle.spec_pattern.specs.Peers.{out_turns, in_turns, peer_names, named_peer, listed_peers, partner_of, pattern_duty, kept_ends, written_ends, KeepsPeers}
use Rattle.spec_pattern.specs.PeersLaw.{EndsStay}

-- each element of one part is of the whole
in_front : (part more : List End) (whole : List End) → ((e : End) → Contains (part ++ more) e → Contains whole e) → All (Contains whole) part
in_front part more whole up = All-weaker (Contains part) (Contains whole) (λ e there. up e (Contains-append_left part more e there)) part (All-contains_itself part)

module _ (p : Pattern) where
  abbrev names_on : List End
  names_on = map named_peer (peer_names p) ++ (listed_peers p ++ option_to_list (partner_of (pattern_duty p)))

  abbrev listed_on : List End
  listed_on = listed_peers p ++ option_to_list (partner_of (pattern_duty p))

  from_ins : (e : End) → Contains (in_turns p ++ names_on) e → Contains (kept_ends p) e
  from_ins e there = Contains-append_right (out_turns p) (in_turns p ++ names_on) e there

  from_names : (e : End) → Contains names_on e → Contains (kept_ends p) e
  from_names e there = from_ins e (Contains-append_right (in_turns p) names_on e there)

  from_listed : (e : End) → Contains listed_on e → Contains (kept_ends p) e
  from_listed e there = from_names e (Contains-append_right (map named_peer (peer_names p)) listed_on e there)

  outs_in : All (Contains (kept_ends p)) (out_turns p)
  outs_in = in_front (out_turns p) (in_turns p ++ names_on) (kept_ends p) (λ e there. there)

  ins_in : All (Contains (kept_ends p)) (in_turns p)
  ins_in = in_front (in_turns p) names_on (kept_ends p) from_ins

  names_in : All (Contains (kept_ends p)) (map named_peer (peer_names p))
  names_in = in_front (map named_peer (peer_names p)) listed_on (kept_ends p) from_names

  listed_in : All (Contains (kept_ends p)) (listed_peers p)
  listed_in = in_front (listed_peers p) (option_to_list (partner_of (pattern_duty p))) (kept_ends p) from_listed

  partner_in : All (Contains (kept_ends p)) (option_to_list (partner_of (pattern_duty p)))
  partner_in =
      let part = option_to_list (partner_of (pattern_duty p)) in
      All-weaker (Contains part) (Contains (kept_ends p)) (λ e there. from_listed e (Contains-append_right (listed_peers p) part e there)) part (All-contains_itself part)

written : (old : Pattern) → All (Contains (kept_ends old)) (written_ends old)
written (Push outs) = outs_in (Push outs)
written (Pull ins) = All-nil (Contains (kept_ends (Pull ins)))
written (Pair t) = outs_in (Pair t)
written (Dealer t) = outs_in (Dealer t)
written (Req t duty) = outs_in (Req t duty)
written (Rep ins duty) = partner_in (Rep ins duty)
written (Router r) = names_in (Router r)
written (Pub p) = listed_in (Pub p)
written (XPub p) = listed_in (XPub p)
written (Sub s) = listed_in (Sub s)
written (XSub s) = listed_in (XSub s)

-- who asked, or is asked, was kept
partner_stays : (old new : Pattern) → KeepsPeers old new → (peer : Option End) → partner_of (pattern_duty new) ≡ peer → All (Contains (kept_ends old)) (option_to_list peer)
partner_stays old new kept None is = All-nil (Contains (kept_ends old))
partner_stays old new kept (Some e) is = All-cons (Contains (kept_ends old)) e [] (by (kept.partner e is)) (All-nil (Contains (kept_ends old)))
  where
    turn : Contains (out_turns old) e ⊎ Contains (in_turns old) e → Contains (kept_ends old) e
    turn (inl there) = Contains-append_left (out_turns old) _ e there
    turn (inr there) = from_ins old e (Contains-append_left (in_turns old) _ e there)

    by : (partner_of (pattern_duty old) ≡ Some e) ⊎ Contains (out_turns old ++ in_turns old) e → Contains (kept_ends old) e
    by (inl was) = All-head (Contains (kept_ends old)) e [] (subst (λ o. All (Contains (kept_ends old)) (option_to_list o)) was (partner_in old))
    by (inr there) = turn (Contains-append_cases (out_turns old) (in_turns old) e there)

stays : (old new : Pattern) → KeepsPeers old new → All (Contains (kept_ends old)) (kept_ends new)
stays old new kept =
    let P : End → Type 0 = Contains (kept_ends old) in
    All-append P (out_turns new) _ (All-permutation P (out_turns old) (out_turns new) kept.outs (outs_in old))
    (All-append P (in_turns new) _ (All-permutation P (in_turns old) (in_turns new) kept.ins (ins_in old))
    (All-append P (map named_peer (peer_names new)) _ (subst (λ (n : Names). All P (map named_peer n)) (sym kept.names) (names_in old))
    (All-append P (listed_peers new) _ (subst (All P) (sym kept.listed) (listed_in old))
    (partner_stays old new kept (partner_of (pattern_duty new)) refl))))

pub ends_stay : EndsStay
ends_stay = record { written = written; stays = stays }
