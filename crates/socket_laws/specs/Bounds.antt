-- How many ends a socket ever has, and how many names a ROUTER draws (zmq_socket(3); the limits are our own choice).
use Rattle.std.specs.Prelude.{◌≡◌, ◌≤◌, ◌+◌, ◌*◌, ℕ, Bool, List, [], ◌∷◌, ◌++◌, length}
use Rattle.zq_base.specs.Message.{Frames}
use Rattle.zq_base.specs.declared.ids.EndId.{EndId}
use Rattle.spec_pattern.specs.PatternCalls.{Change}
use Rattle.spec_pattern.specs.Topics.{Topic}
use Rattle.spec_pattern.specs.Pattern.{Pattern, Push, Pull, Pair, Dealer, Req as OfReq, Rep, Router, Pub, XPub, Sub, XSub}
use Rattle.spec_control.specs.declared.entry.Did.{Did}
use Rattle.spec_control.specs.declared.entry.Did.TheVariants.{Asked, Delivered, Delimited}
use Rattle.spec_control.specs.declared.entry.Item.{Item}
use Rattle.spec_control.specs.declared.entry.Item.TheVariants.{Event, Seen}
use Rattle.spec_control.specs.declared.request.Req.{Req}
use Rattle.spec_control.specs.declared.request.Req.TheVariants.{Socket as MakeSocket, AskTerm, Bind, Connect, Unbind, Disconnect, Close, Accepted, Shaken, AskEnd, AskOver, OutputOver}
use Rattle.spec_control.specs.Control.{Control, begun, next_pair, ends_of}
use Rattle.spec_control.specs.ControlRun.{after_all, IsControlRun}
use Rattle.spec_control.specs.Reply.{most_made_pairs}
use Rattle.spec_control.specs.Moments.{left_by}
use Rattle.desk.specs.Desk.{came_with}
use Rattle.spec_pattern.specs.Outcomes.{SendOutcome, RecvOutcome, ChangeOutcome, PumpOutcome, SendsSo, ReceivesSo, ChangesSo, PumpsSo}
use Rattle.router_dealer.specs.Named.{IsIdentity}
use Rattle.spec_run.specs.OpenSocket.{attach_all, detach_all}
use Rattle.sock_core.specs.Way.{CanJoinAll}
use Rattle.socket_laws.specs.Open.{moment_at, left_before, ComesTo}

-- two ends of each pair at the most, and so many pairs
pub record AreFew (o : ℕ) (c : Control) : Type 0 where
  pub ends : length (ends_of o c) ≤ 2 * next_pair c
  pub pairs : next_pair c ≤ most_made_pairs + 1

abbrev pub EndsAreFew : (N S : Type 0) → Type 0
EndsAreFew N S = (io : ℕ) (items : List (Item N S)) → IsControlRun (begun io) items → (o : ℕ) → AreFew o (after_all items (begun io))

-- ---- identities
-- a request tells only identities that a peer may say: a socket's own, and that of a link's other side
abbrev pub TellsIdentity : Req → Type 0
TellsIdentity (MakeSocket kind options) = IsIdentity options.id
TellsIdentity AskTerm = Unit {0}
TellsIdentity (Bind o at) = Unit {0}
TellsIdentity (Connect o at) = Unit {0}
TellsIdentity (Unbind o at) = Unit {0}
TellsIdentity (Disconnect o at) = Unit {0}
TellsIdentity (Close o) = Unit {0}
TellsIdentity (Accepted o) = Unit {0}
TellsIdentity (Shaken o peer) = IsIdentity peer.identity
TellsIdentity (AskEnd e reason) = Unit {0}
TellsIdentity (AskOver o) = Unit {0}
TellsIdentity (OutputOver o) = Unit {0}

module _ {N S : Type 0} where
  abbrev pub TellsIdentityIn : Did N S → Type 0
  TellsIdentityIn (Asked req reply h) = TellsIdentity req
  TellsIdentityIn (Delivered slot letter h) = Unit {0}
  TellsIdentityIn (Delimited e h) = Unit {0}

  -- so do these items
  abbrev pub TellIdentities : List (Item N S) → Type 0
  TellIdentities [] = Unit {0}
  TellIdentities (Event entry ∷ items) = TellsIdentityIn entry.did × TellIdentities items
  TellIdentities (Seen sight ∷ items) = TellIdentities items

-- an item of an open socket tells none
abbrev pub IdentitiesGoOn : (N S : Type 0) → Type 0
IdentitiesGoOn N S = (io : ℕ) (before : List (Item N S)) (item : Item N S) (o : ℕ) → ComesTo io before item o → TellIdentities before → TellIdentities (before ++ item ∷ [])

-- ---- drawn names
-- how many names a socket drew
abbrev pub drawn_of : Pattern → ℕ
drawn_of (Push outs) = 0
drawn_of (Pull ins) = 0
drawn_of (Pair t) = 0
drawn_of (Dealer t) = 0
drawn_of (OfReq t duty) = 0
drawn_of (Rep ins duty) = 0
drawn_of (Router r) = r.drawn
drawn_of (Pub p) = 0
drawn_of (XPub p) = 0
drawn_of (Sub s) = 0
drawn_of (XSub s) = 0

-- the ends that join an open socket in an item can be named, where it drew no more names than it has ends; and so it is behind the item
pub record CanJoin {N S : Type 0} (io : ℕ) (before : List (Item N S)) (item : Item N S) (o : ℕ) (p : Pattern) : Type 0 where
  pub all : CanJoinAll (came_with item) p
  pub drawn : (es : List EndId) → drawn_of (detach_all es (attach_all (came_with item) p)) ≤ length (ends_of o (left_by (moment_at io before item)))

abbrev pub EndsCanJoin : (N S : Type 0) → Type 0
EndsCanJoin N S = (io : ℕ) (before : List (Item N S)) (item : Item N S) (o : ℕ) → ComesTo io before item o → TellIdentities before →
    (p : Pattern) → drawn_of p ≤ length (ends_of o (left_before io before item o)) → CanJoin io before item o p

-- and a call draws none
pub record CallsDrawNone : Type 0 where
  pub sends : (can_write : EndId → Bool) (m : Frames) (old : Pattern) (x : SendOutcome) → SendsSo can_write m old x → drawn_of x.new ≡ drawn_of old
  pub receives : (old : Pattern) (x : RecvOutcome) → ReceivesSo old x → drawn_of x.new ≡ drawn_of old
  pub changes : (change : Change) (can_write : EndId → Bool) (topic : Topic) (old : Pattern) (x : ChangeOutcome) → ChangesSo change can_write topic old x → drawn_of x.new ≡ drawn_of old
  pub pumps : (can_write : EndId → Bool) (old : Pattern) (x : PumpOutcome) → PumpsSo can_write old x → drawn_of x.new ≡ drawn_of old
