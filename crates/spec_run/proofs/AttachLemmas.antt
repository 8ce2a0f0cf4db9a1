-- A further peer adds no end but its own to those that a socket keeps, and a new socket keeps none.
use Rattle.std.proofs.Common.{◌+◌, ℕ, List, [], ◌∷◌, ◌++◌, All, Contains, map, sym, subst}
use Rattle.std.specs.Prelude.{option_to_list}
use Rattle.std.specs.Map.{keys_of}
use Rattle.std.proofs.lemmas.List.{map-append}
use Rattle.std.proofs.lemmas.List.Elements.{All-nil, All-append, All-push, All-weaker, All-contains, All-contains_itself, Contains-append_left, Contains-append_right}
use Rattle.zq_base.specs.declared.kind.Kind.{Kind}
use Rattle.zq_base.specs.declared.kind.Kind.TheVariants as kinds
use Rattle.zq_base.specs.declared.options.Options.{Options}
use Rattle.spec_pattern.specs.TurnList.{End}
use Rattle.spec_pattern.specs.Topics.{Topic, Subscribers, with_peer}
use Rattle.spec_pattern.specs.Routing.{Names, Named, drawn_name}
use Rattle.zq_base.specs.declared.attached.Attached.{Attached}
use Rattle.zq_base.specs.declared.attached.Attached.TheVariants.{Yes, BadId, Second}
use Rattle.spec_pattern.specs.Pattern.{Pattern, Push, Pull, Pair, Dealer, Req, Rep, Router, Pub, XPub, Sub, XSub, attach, attach_as, attach_answer, taken_in}
use Rattle.spec_pattern.specs.Peers.{out_turns, in_turns, peer_names, named_peer, listed_peers, partner_of, pattern_duty, kept_ends}
use Rattle.spec_pattern.specs.NewSocket.{new_pattern}

-- what holds of two lists together holds of each
pub all_front : {A : Type 0} (P : A → Type 0) (xs ys : List A) → All P (xs ++ ys) → All P xs
all_front P xs ys all = All-weaker (Contains xs) P (λ x there. All-contains P (xs ++ ys) x all (Contains-append_left xs ys x there)) xs (All-contains_itself xs)

pub all_behind : {A : Type 0} (P : A → Type 0) (xs ys : List A) → All P (xs ++ ys) → All P ys
all_behind P xs ys all = All-weaker (Contains ys) P (λ x there. All-contains P (xs ++ ys) x all (Contains-append_right xs ys x there)) ys (All-contains_itself ys)

-- the ends that a socket keeps, by what it keeps them for
record AllKept (P : End → Type 0) (p : Pattern) : Type 0 where
  outs : All P (out_turns p)
  ins : All P (in_turns p)
  names : All P (map named_peer (peer_names p))
  listed : All P (listed_peers p)
  partner : All P (option_to_list (partner_of (pattern_duty p)))

module _ (P : End → Type 0) where
  apart : (p : Pattern) → All P (kept_ends p) → AllKept P p
  apart p all =
      let behind = all_behind P (out_turns p) _ all in
      let names_on = all_behind P (in_turns p) _ behind in
      let listed_on = all_behind P (map named_peer (peer_names p)) _ names_on in
      record {
        outs = all_front P (out_turns p) _ all;
        ins = all_front P (in_turns p) _ behind;
        names = all_front P (map named_peer (peer_names p)) _ names_on;
        listed = all_front P (listed_peers p) _ listed_on;
        partner = all_behind P (listed_peers p) _ listed_on;
      }

  together : (p : Pattern) → AllKept P p → All P (kept_ends p)
  together p all =
      All-append P (out_turns p) _ all.outs
      (All-append P (in_turns p) _ all.ins
      (All-append P (map named_peer (peer_names p)) _ all.names
      (All-append P (listed_peers p) _ all.listed all.partner)))

  name_more : (names : Names) (n : Named) → All P (map named_peer names) → P n.peer → All P (map named_peer (names ++ n ∷ []))
  name_more names n all one = subst (All P) (sym (map-append named_peer names (n ∷ []))) (All-push P (map named_peer names) n.peer all one)

  peer_more : (subs : Subscribers End) (e : End) → All P (keys_of subs) → P e → All P (keys_of (with_peer e subs))
  peer_more subs e all one = subst (All P) (sym (map-append (λ (s : End × List Topic). s.0) subs ((e, []) ∷ []))) (All-push P (keys_of subs) e all one)

  taken : (e : End) (identity : List ℕ) (p : Pattern) → P e → AllKept P p → AllKept P (taken_in e identity p)
  taken e identity (Push outs) one k = record { outs = All-push P outs e k.outs one; ins = k.ins; names = k.names; listed = k.listed; partner = k.partner }
  taken e identity (Pull ins) one k = record { outs = k.outs; ins = All-push P ins e k.ins one; names = k.names; listed = k.listed; partner = k.partner }
  taken e identity (Pair t) one k = record { outs = All-push P t.outs e k.outs one; ins = All-push P t.ins e k.ins one; names = k.names; listed = k.listed; partner = k.partner }
  taken e identity (Dealer t) one k = record { outs = All-push P t.outs e k.outs one; ins = All-push P t.ins e k.ins one; names = k.names; listed = k.listed; partner = k.partner }
  taken e identity (Req t duty) one k = record { outs = All-push P t.outs e k.outs one; ins = All-push P t.ins e k.ins one; names = k.names; listed = k.listed; partner = k.partner }
  taken e identity (Rep ins duty) one k = record { outs = k.outs; ins = All-push P ins e k.ins one; names = k.names; listed = k.listed; partner = k.partner }
  taken e [] (Router r) one k = record { outs = k.outs; ins = All-push P r.ins e k.ins one; names = name_more r.names (record { name = drawn_name (r.drawn + 1); peer = e }) k.names one; listed = k.listed; partner = k.partner }
  taken e (octet ∷ octets) (Router r) one k = record { outs = k.outs; ins = All-push P r.ins e k.ins one; names = name_more r.names (record { name = octet ∷ octets; peer = e }) k.names one; listed = k.listed; partner = k.partner }
  taken e identity (Pub p) one k = record { outs = k.outs; ins = All-push P p.ins e k.ins one; names = k.names; listed = peer_more p.subs e k.listed one; partner = k.partner }
  taken e identity (XPub p) one k = record { outs = k.outs; ins = All-push P p.ins e k.ins one; names = k.names; listed = peer_more p.subs e k.listed one; partner = k.partner }
  taken e identity (Sub s) one k = record { outs = k.outs; ins = All-push P s.ins e k.ins one; names = k.names; listed = peer_more s.followers e k.listed one; partner = k.partner }
  taken e identity (XSub s) one k = record { outs = k.outs; ins = All-push P s.ins e k.ins one; names = k.names; listed = peer_more s.followers e k.listed one; partner = k.partner }

  -- what holds of the ends kept, and of the new one, holds of those kept then
  pub attach_all : (e : End) (identity : List ℕ) (p : Pattern) → P e → All P (kept_ends p) → All P (kept_ends (attach e identity p))
  attach_all e identity p one all = by (attach_answer identity p)
    where
      by : (a : Attached) → All P (kept_ends (attach_as a e identity p))
      by Yes = together (taken_in e identity p) (taken e identity p one (apart p all))
      by BadId = all
      by Second = all

  -- the peers with names are among the ends kept
  pub names_kept : (p : Pattern) → All P (kept_ends p) → All P (map named_peer (peer_names p))
  names_kept p all = let k = apart p all in k.names

-- a new socket keeps no ends
pub no_ends : (P : End → Type 0) (kind : Kind) (options : Options) → All P (kept_ends (new_pattern kind options))
no_ends P kinds.Push options = All-nil P
no_ends P kinds.Pull options = All-nil P
no_ends P kinds.Pair options = All-nil P
no_ends P kinds.Dealer options = All-nil P
no_ends P kinds.Req options = All-nil P
no_ends P kinds.Rep options = All-nil P
no_ends P kinds.Router options = All-nil P
no_ends P kinds.Pub options = All-nil P
no_ends P kinds.XPub options = All-nil P
no_ends P kinds.Sub options = All-nil P
no_ends P kinds.XSub options = All-nil P
