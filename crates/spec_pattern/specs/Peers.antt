-- The ends that a socket keeps of its peers, and the names of a ROUTER's peers (RFC 28, "The ROUTER Socket Type").
use Rattle.std.specs.Prelude.{◌≡◌, ◌⊎◌, ℕ, List, [], ◌++◌, Option, Some, None, Contains, IsPermutation, map, slice_get, option_to_list}
use Rattle.std.specs.Map.{keys_of}
use Rattle.zq_base.specs.declared.kind.Kind.{Kind}
use Rattle.zq_base.specs.declared.kind.Kind.TheVariants as kind
use Rattle.spec_pattern.specs.TurnList.{End}
use Rattle.spec_pattern.specs.Duty.{Duty, Free, Asked, Owing}
use Rattle.spec_pattern.specs.Routing.{Named, Names}
use Rattle.spec_pattern.specs.Pattern.{Pattern, Push, Pull, Pair, Dealer, Req, Rep, Router, Pub, XPub, Sub, XSub}

-- ---- what a socket keeps

-- the kind of a socket in this state
abbrev pub pattern_kind : Pattern → Kind
pattern_kind (Push outs) = kind.Push
pattern_kind (Pull ins) = kind.Pull
pattern_kind (Pair t) = kind.Pair
pattern_kind (Dealer t) = kind.Dealer
pattern_kind (Req t duty) = kind.Req
pattern_kind (Rep ins duty) = kind.Rep
pattern_kind (Router r) = kind.Router
pattern_kind (Pub p) = kind.Pub
pattern_kind (XPub p) = kind.XPub
pattern_kind (Sub s) = kind.Sub
pattern_kind (XSub s) = kind.XSub

-- what is under way: nothing at a socket that neither asks nor answers
abbrev pub pattern_duty : Pattern → Duty
pattern_duty (Req t duty) = duty
pattern_duty (Rep ins duty) = duty
pattern_duty _ = Free

-- the turns for sending, where a message goes to the next peer with room
abbrev pub out_turns : Pattern → List End
out_turns (Push outs) = outs
out_turns (Pair t) = t.outs
out_turns (Dealer t) = t.outs
out_turns (Req t duty) = t.outs
out_turns _ = []

-- the turns for receiving
abbrev pub in_turns : Pattern → List End
in_turns (Push outs) = []
in_turns (Pull ins) = ins
in_turns (Pair t) = t.ins
in_turns (Dealer t) = t.ins
in_turns (Req t duty) = t.ins
in_turns (Rep ins duty) = ins
in_turns (Router r) = r.ins
in_turns (Pub p) = p.ins
in_turns (XPub p) = p.ins
in_turns (Sub s) = s.ins
in_turns (XSub s) = s.ins

-- the peers with names, of a ROUTER
abbrev pub peer_names : Pattern → Names
peer_names (Router r) = r.names
peer_names _ = []

-- the peers with topics, of a publisher or a subscriber, in the order of their attachment
abbrev pub listed_peers : Pattern → List End
listed_peers (Pub p) = keys_of p.subs
listed_peers (XPub p) = keys_of p.subs
listed_peers (Sub s) = keys_of s.followers
listed_peers (XSub s) = keys_of s.followers
listed_peers _ = []

-- the peer of what is under way
abbrev pub partner_of : Duty → Option End
partner_of Free = None
partner_of (Asked peer) = peer
partner_of (Owing peer envelope) = peer

abbrev pub named_peer : Named → End
named_peer n = n.peer

-- all ends that a socket keeps
abbrev pub kept_ends : Pattern → List End
kept_ends p =
    out_turns p
    ++ (in_turns p ++ (map named_peer (peer_names p)
    ++ (listed_peers p ++ option_to_list (partner_of (pattern_duty p)))))

-- ---- where it writes

-- the ends at which a call of the socket may write
abbrev pub written_ends : Pattern → List End
written_ends (Push outs) = outs
written_ends (Pull ins) = []
written_ends (Pair t) = t.outs
written_ends (Dealer t) = t.outs
written_ends (Req t duty) = t.outs
written_ends (Rep ins duty) = option_to_list (partner_of duty)
written_ends (Router r) = map named_peer r.names
written_ends (Pub p) = keys_of p.subs
written_ends (XPub p) = keys_of p.subs
written_ends (Sub s) = keys_of s.followers
written_ends (XSub s) = keys_of s.followers

-- ---- what stays

-- no peer stands twice among the names
abbrev pub HaveOneName : Names → Type 0
HaveOneName names = (i j : ℕ) (a b : Named) → slice_get names i ≡ Some a
    → slice_get names j ≡ Some b → a.peer ≡ b.peer → i ≡ j

-- a socket keeps its kind and its peers: each turn list has the same ends in some order, names and listed peers stay as they are, and who asked, or is asked, is a peer
pub record KeepsPeers (old new : Pattern) : Type 0 where
  pub kind_is : pattern_kind new ≡ pattern_kind old
  pub outs : IsPermutation (out_turns old) (out_turns new)
  pub ins : IsPermutation (in_turns old) (in_turns new)
  pub names : peer_names new ≡ peer_names old
  pub listed : listed_peers new ≡ listed_peers old
  pub partner : (e : End) → partner_of (pattern_duty new) ≡ Some e
      → (partner_of (pattern_duty old) ≡ Some e) ⊎ Contains (out_turns old ++ in_turns old) e
