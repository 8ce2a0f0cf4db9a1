-- What a socket's state always has (RFC 28): what is under way is its kind's own, and each peer of a ROUTER has one name. A name of a peer's own doesn't begin with octet 0, as drawn names do (own choice, after libzmq).
use Rattle.std.specs.Prelude.{◌≡◌, ◌≢◌, ◌⊎◌, ◌+◌, ◌<◌, ◌≤◌, ◌^◌, ℕ, Bool, false, List, [], ◌∷◌, Some, All, map}
use Rattle.zq_base.specs.Message.{Frames}
use Rattle.spec_pattern.specs.TurnList.{End}
use Rattle.spec_pattern.specs.Duty.{is_asked, is_owing}
use Rattle.spec_pattern.specs.Topics.{Topic}
use Rattle.spec_pattern.specs.Routing.{named, drawn_name, AreNames}
use Rattle.spec_pattern.specs.Pattern.{RouterState, Pattern, Req, Rep, Router, attach, detach}
use Rattle.spec_pattern.specs.PatternCalls.{Change}
use Rattle.spec_pattern.specs.Peers.{peer_names, named_peer}
use Rattle.spec_pattern.specs.Outcomes.{SendOutcome, RecvOutcome, ChangeOutcome, PumpOutcome, SendsSo, ReceivesSo, ChangesSo, PumpsSo}

-- a peer's own identity: none, or one that doesn't begin with octet 0
abbrev pub IsOwnIdentity : List ℕ → Type 0
IsOwnIdentity [] = Unit {0}
IsOwnIdentity (octet ∷ octets) = octet ≢ 0

-- a name is a peer's own, or one of so many that were drawn
abbrev pub IsNameOf : ℕ → List ℕ → Type 0
IsNameOf drawn name = IsOwnIdentity name ⊎ ((n : ℕ) × (n ≤ drawn) × (name ≡ drawn_name n))

-- each peer in the turns has a name, no name and no peer stands twice, and each name is a peer's own or was drawn
pub record RouterIsWhole (r : RouterState) : Type 0 where
  pub each_named : All (λ e. (name : List ℕ) × (named r.names name ≡ Some e)) r.ins
  pub are_names : AreNames r.names
  pub names_are : All (λ n. IsNameOf r.drawn n.name) r.names

-- a REQ owes no reply, a REP awaits none, and a ROUTER's peers have their names
abbrev pub IsWhole : Pattern → Type 0
IsWhole (Req t duty) = is_owing duty ≡ false
IsWhole (Rep ins duty) = is_asked duty ≡ false
IsWhole (Router r) = RouterIsWhole r
IsWhole _ = Unit {0}

-- a ROUTER has a name left to draw
abbrev pub MayDraw : Pattern → Type 0
MayDraw (Router r) = r.drawn + 1 < 2 ^ 32
MayDraw _ = Unit {0}

-- a socket stays whole in each call, where a further peer comes, and where one goes
pub record SocketsStayWhole : Type 0 where
  pub sends : (can_write : End → Bool) (m : Frames) (old : Pattern) (x : SendOutcome)
      → SendsSo can_write m old x → IsWhole old → IsWhole x.new
  pub receives : (old : Pattern) (x : RecvOutcome) → ReceivesSo old x → IsWhole old → IsWhole x.new
  pub changes : (change : Change) (can_write : End → Bool) (topic : Topic) (old : Pattern)
      (x : ChangeOutcome)
      → ChangesSo change can_write topic old x → IsWhole old → IsWhole x.new
  pub pumps : (can_write : End → Bool) (old : Pattern) (x : PumpOutcome)
      → PumpsSo can_write old x → IsWhole old → IsWhole x.new
  pub comes : (e : End) (identity : List ℕ) (old : Pattern)
      → All (λ p. p ≢ e) (map named_peer (peer_names old))
      → IsOwnIdentity identity → MayDraw old → IsWhole old → IsWhole (attach e identity old)
  pub goes : (e : End) (old : Pattern) → IsWhole old → IsWhole (detach e old)
