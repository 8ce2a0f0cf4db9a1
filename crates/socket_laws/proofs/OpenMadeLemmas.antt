-- The peers of a socket at its making and in its calls; what a request is answered.
use Rattle.std.specs.Prelude.{◌≡◌, ℕ, List, [], ◌∷◌, ◌++◌, Contains}
use Rattle.std.proofs.Common.{sym, subst}
use Rattle.std.proofs.lemmas.List.Elements.{All-nil, All-weaker, All-contains}
use Rattle.zq_base.specs.declared.ids.EndId.{EndId}
use Rattle.zq_base.specs.declared.kind.Kind.{Kind}
use Rattle.zq_base.specs.declared.kind.Kind.TheVariants.{Push, Pull, Pair, Dealer, Req as IsReq, Rep, Router, Pub, XPub, Sub, XSub}
use Rattle.zq_base.specs.declared.options.Options.{Options}
use Rattle.spec_pattern.specs.Pattern.{Pattern}
use Rattle.spec_control.specs.declared.entry.Answered.{Answered}
use Rattle.spec_control.specs.declared.entry.Did.TheVariants.{Asked}
use Rattle.spec_control.specs.declared.entry.Item.{Item}
use Rattle.spec_control.specs.declared.entry.Item.TheVariants.{Event}
use Rattle.spec_control.specs.declared.request.Req.{Req}
use Rattle.spec_control.specs.declared.request.Reply.{Reply}
use Rattle.spec_control.specs.Control.{begun}
use Rattle.spec_control.specs.ControlRun.{after_all, IsControlRun}
use Rattle.spec_control.specs.Reply.{reply_of}
use Rattle.spec_control.specs.Moments.{Moment}
use Rattle.control_laws.specs.AttachedOnce.{AreOnce}
use Rattle.spec_pattern.specs.Peers.{kept_ends, KeepsPeers}
use Rattle.spec_pattern.proofs.EndsStayLemmas.{ends_stay}
use Rattle.spec_run.specs.OpenSocket.{OpenSock, new_open}
use Rattle.socket_laws.specs.Peers.{IsIn, HasItsPeers}
use Rattle.socket_laws.specs.Passes.{SocketsHaveTheirPeers}
use Rattle.socket_laws.specs.Answers.{RequestsAreAnswered}
use Rattle.socket_laws.proofs.OpenLemmas.{run_last}

module _ {N S : Type 0} (m : Moment N S) (object : ℕ) where
  made_with : (kind : Kind) (options : Options) → HasItsPeers (new_open m object kind options)
  made_with Push options = record { once = tt; peers = All-nil (IsIn (new_open m object Push options)) }
  made_with Pull options = record { once = tt; peers = All-nil (IsIn (new_open m object Pull options)) }
  made_with Pair options = record { once = tt; peers = All-nil (IsIn (new_open m object Pair options)) }
  made_with Dealer options = record { once = tt; peers = All-nil (IsIn (new_open m object Dealer options)) }
  made_with IsReq options = record { once = tt; peers = All-nil (IsIn (new_open m object IsReq options)) }
  made_with Rep options = record { once = tt; peers = All-nil (IsIn (new_open m object Rep options)) }
  made_with Router options = record { once = tt; peers = All-nil (IsIn (new_open m object Router options)) }
  made_with Pub options = record { once = tt; peers = All-nil (IsIn (new_open m object Pub options)) }
  made_with XPub options = record { once = tt; peers = All-nil (IsIn (new_open m object XPub options)) }
  made_with Sub options = record { once = tt; peers = All-nil (IsIn (new_open m object Sub options)) }
  made_with XSub options = record { once = tt; peers = All-nil (IsIn (new_open m object XSub options)) }

still_in : (s : OpenSock) (p : Pattern) (e : EndId) → IsIn s e → IsIn (record s { pattern = p }) e
still_in s p e is = record { here = is.here; in_use = is.in_use }

called : (s : OpenSock) (p : Pattern) → KeepsPeers s.pattern p → HasItsPeers s → HasItsPeers (record s { pattern = p })
called s p keeps has = record {
  once = subst AreOnce (sym keeps.listed) has.once;
  peers = All-weaker (Contains (kept_ends s.pattern)) (IsIn (record s { pattern = p })) (λ e there. still_in s p e (All-contains (IsIn s) (kept_ends s.pattern) e has.peers there)) (kept_ends p) (ends_stay.stays s.pattern p keeps);
}

pub sockets_have_their_peers : (N S : Type 0) → SocketsHaveTheirPeers N S
sockets_have_their_peers N S = record { made = λ m object kind options. made_with m object kind options; calls = called }

-- ---- answers
module _ {N S : Type 0} (io : ℕ) (before : List (Item N S)) where
  asked_so : (b : ℕ) (req : Req) (reply : Reply) (h : Answered N S) → IsControlRun (begun io) (before ++ Event (record { by = b; did = Asked req reply h }) ∷ []) → reply ≡ reply_of (after_all before (begun io)) req
  asked_so b req reply h run = (run_last before (Event (record { by = b; did = Asked req reply h })) (begun io) run).may.1

pub requests_are_answered : (N S : Type 0) → RequestsAreAnswered N S
requests_are_answered N S io before item run req reply request =
    asked_so io before request.by req reply request.answered (subst (λ (x : Item N S). IsControlRun (begun io) (before ++ x ∷ [])) request.item_is run)
