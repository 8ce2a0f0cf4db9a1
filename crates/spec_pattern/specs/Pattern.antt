-- A socket by its kind: what it keeps of its peers, and what a peer that comes or goes changes (RFCs 28 to 31; zmq_socket(3)).
use Rattle.std.specs.Prelude.{◌≡◌, ◌+◌, ℕ, Bool, true, false, not, List, [], ◌∷◌, ◌++◌, filter, is_some, Option, Some, None, nat_eq, if◌then◌else◌}
use Rattle.spec_pattern.specs.PipeStep.{same_pipe}
use Rattle.spec_pattern.specs.TurnList.{End}
use Rattle.spec_pattern.specs.Duty.{Duty, Free, Asked, Owing}
use Rattle.spec_pattern.specs.Routing.{Named, Names, named, drawn_name}
use Rattle.spec_pattern.specs.Publishing.{Publisher, with_subscriber, without_subscriber}
use Rattle.spec_pattern.specs.Subscribing.{Subscriber, with_publisher, without_publisher}
use Rattle.zq_base.specs.declared.attached.Attached.{Attached}
use Rattle.zq_base.specs.declared.attached.Attached.TheVariants.{Yes, BadId, Second}

-- the peers in the order of their turns, for sending and for receiving
pub record BothTurns : Type 0 where
  pub outs : List End
  pub ins : List End

-- what a ROUTER keeps: the turns of its peers, their names, how many names it drew, and whether a message that can't be routed is refused
pub record RouterState : Type 0 where
  pub ins : List End
  pub names : Names
  pub drawn : ℕ
  pub mandatory : Bool

-- the state of a socket, by its kind
pub data Pattern : Type 0 where
  Push : (outs : List End) → Pattern
  Pull : (ins : List End) → Pattern
  Pair : BothTurns → Pattern
  Dealer : BothTurns → Pattern
  Req : BothTurns → Duty → Pattern
  Rep : (ins : List End) → Duty → Pattern
  Router : RouterState → Pattern
  Pub : Publisher → Pattern
  XPub : Publisher → Pattern
  Sub : Subscriber → Pattern
  XSub : Subscriber → Pattern

-- ---- a peer comes

-- a ROUTER takes no second peer of one name
abbrev pub name_answer : Names → List ℕ → Attached
name_answer names [] = Yes
name_answer names (octet ∷ octets) = if is_some (named names (octet ∷ octets)) then BadId else Yes

-- a PAIR takes one peer
abbrev pub pair_answer : List End → Attached
pair_answer [] = Yes
pair_answer (e ∷ es) = Second

-- whether a peer of this identity is taken
abbrev pub attach_answer : List ℕ → Pattern → Attached
attach_answer identity (Pair turns) = pair_answer turns.outs
attach_answer identity (Router r) = name_answer r.names identity
attach_answer identity _ = Yes

-- a further peer, last in each list of turns
abbrev pub with_both : End → BothTurns → BothTurns
with_both e turns = record { outs = turns.outs ++ e ∷ []; ins = turns.ins ++ e ∷ [] }

-- a peer without an identity gets the next drawn name
abbrev pub with_named : End → List ℕ → RouterState → RouterState
with_named e [] r = record r {
  ins = r.ins ++ e ∷ [];
  names = r.names ++ record { name = drawn_name (r.drawn + 1); peer = e } ∷ [];
  drawn = r.drawn + 1;
}
with_named e (octet ∷ octets) r = record r {
  ins = r.ins ++ e ∷ [];
  names = r.names ++ record { name = octet ∷ octets; peer = e } ∷ [];
}

-- a peer that is taken
abbrev pub taken_in : End → List ℕ → Pattern → Pattern
taken_in e identity (Push outs) = Push (outs ++ e ∷ [])
taken_in e identity (Pull ins) = Pull (ins ++ e ∷ [])
taken_in e identity (Pair turns) = Pair (with_both e turns)
taken_in e identity (Dealer turns) = Dealer (with_both e turns)
taken_in e identity (Req turns duty) = Req (with_both e turns) duty
taken_in e identity (Rep ins duty) = Rep (ins ++ e ∷ []) duty
taken_in e identity (Router r) = Router (with_named e identity r)
taken_in e identity (Pub p) = Pub (with_subscriber e p)
taken_in e identity (XPub p) = XPub (with_subscriber e p)
taken_in e identity (Sub s) = Sub (with_publisher e s)
taken_in e identity (XSub s) = XSub (with_publisher e s)

-- a peer that is refused is no peer
abbrev pub attach_as : Attached → End → List ℕ → Pattern → Pattern
attach_as Yes e identity p = taken_in e identity p
attach_as BadId e identity p = p
attach_as Second e identity p = p

abbrev pub attach : End → List ℕ → Pattern → Pattern
attach e identity p = attach_as (attach_answer identity p) e identity p

-- ---- a peer goes

abbrev pub without : End → List End → List End
without e ends = filter (λ x. not (same_pipe e x)) ends

abbrev pub without_both : End → BothTurns → BothTurns
without_both e turns = record { outs = without e turns.outs; ins = without e turns.ins }

-- a partner that goes is none from then on
abbrev pub partner_without : End → Option End → Option End
partner_without e None = None
partner_without e (Some partner) = if same_pipe e partner then None else Some partner

abbrev pub duty_without : End → Duty → Duty
duty_without e Free = Free
duty_without e (Asked peer) = Asked (partner_without e peer)
duty_without e (Owing peer envelope) = Owing (partner_without e peer) envelope

-- its name is free from then on
abbrev pub without_name : End → RouterState → RouterState
without_name e r = record r {
  ins = without e r.ins;
  names = filter (λ n. not (same_pipe e n.peer)) r.names;
}

abbrev pub detach : End → Pattern → Pattern
detach e (Push outs) = Push (without e outs)
detach e (Pull ins) = Pull (without e ins)
detach e (Pair turns) = Pair (without_both e turns)
detach e (Dealer turns) = Dealer (without_both e turns)
detach e (Req turns duty) = Req (without_both e turns) (duty_without e duty)
detach e (Rep ins duty) = Rep (without e ins) (duty_without e duty)
detach e (Router r) = Router (without_name e r)
detach e (Pub p) = Pub (without_subscriber e p)
detach e (XPub p) = XPub (without_subscriber e p)
detach e (Sub s) = Sub (without_publisher e s)
detach e (XSub s) = XSub (without_publisher e s)
