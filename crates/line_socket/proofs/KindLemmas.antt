-- A call on messages leaves a socket's kind.
use Rattle.std.proofs.Common.{◌≡◌, ℕ, Bool, List, Option, refl, ap}
use Rattle.zq_base.specs.Message.{Frames}
use Rattle.zq_base.specs.declared.ids.EndId.{EndId}
use Rattle.spec_pattern.specs.PipeStep.{PipeStep}
use Rattle.spec_pattern.specs.TurnList.{End}
use Rattle.spec_pattern.specs.Topics.{Topic}
use Rattle.spec_pattern.specs.Pattern.{Pattern}
use Rattle.spec_pattern.specs.Pattern as by_kind
use Rattle.spec_pattern.specs.PatternCalls.{PatternSends, PatternReceives, PatternPumps, PatternChanges, Change, ChangeAnswer}
use Rattle.spec_pattern.specs.declared.answers.Skip.{Skip}
use Rattle.spec_pattern.specs.declared.answers.SendAnswer.{SendAnswer}
use Rattle.spec_pattern.specs.declared.answers.RecvAnswer.{RecvAnswer}
use Rattle.spec_pattern.specs.declared.answers.RecvAnswer.TheVariants as got
use Rattle.spec_pattern.specs.Peers.{pattern_kind}
use Rattle.router_dealer.specs.Named.{Kept}
use Rattle.any_sock.specs.declared.any_sock.AnySock.{AnySock}
use Rattle.any_sock.specs.declared.any_sock.AnySock.TheVariants as sock
use Rattle.any_sock.specs.Over.{over, caught_up, as_received}
use Rattle.any_sock.specs.Stopped.{StopsReceive, StopsPump, StopsSend, StopsChange}

kind_of : {p q : Pattern} → p ≡ q → pattern_kind p ≡ pattern_kind q
kind_of e = ap pattern_kind e

pub sends_kind : (test : End → Bool) (m : Frames) (old : Pattern) (steps : List PipeStep) (a : SendAnswer) (new : Pattern) → PatternSends test m old steps a new → pattern_kind new ≡ pattern_kind old
sends_kind test m (by_kind.Push x) steps a new h = kind_of h.2
sends_kind test m (by_kind.Pull x) steps a new h = kind_of h.2
sends_kind test m (by_kind.Pair x) steps a new h = kind_of h.2
sends_kind test m (by_kind.Dealer x) steps a new h = kind_of h.2
sends_kind test m (by_kind.Req x y) steps a new h = kind_of h.3
sends_kind test m (by_kind.Rep x y) steps a new h = kind_of h.2
sends_kind test m (by_kind.Router x) steps a new h = kind_of h.1
sends_kind test m (by_kind.Pub x) steps a new h = kind_of h.1
sends_kind test m (by_kind.XPub x) steps a new h = kind_of h.1
sends_kind test m (by_kind.Sub x) steps a new h = kind_of h.2
sends_kind test m (by_kind.XSub x) steps a new h = kind_of h.2

pub says_kind : (reads : (End → Bool) → Type 0) (m : Frames) (old : Pattern) (steps : List PipeStep) (new : Pattern) → StopsSend reads m old steps new → pattern_kind new ≡ pattern_kind old
says_kind reads m (by_kind.Push x) steps new h = absurd h
says_kind reads m (by_kind.Pull x) steps new h = absurd h
says_kind reads m (by_kind.Pair x) steps new h = absurd h
says_kind reads m (by_kind.Dealer x) steps new h = absurd h
says_kind reads m (by_kind.Req x y) steps new h = absurd h
says_kind reads m (by_kind.Rep x y) steps new h = absurd h
says_kind reads m (by_kind.Router x) steps new h = absurd h
says_kind reads m (by_kind.Pub x) steps new h = absurd h
says_kind reads m (by_kind.XPub x) steps new h = absurd h
says_kind reads m (by_kind.Sub x) steps new h = absurd h
says_kind reads m (by_kind.XSub x) steps new h = kind_of h.2

pub receives_kind : (old : Pattern) (steps : List PipeStep) (skips : List Skip) (a : RecvAnswer) (new : Pattern) → PatternReceives old steps skips a new → pattern_kind new ≡ pattern_kind old
receives_kind (by_kind.Push x) steps skips a new h = kind_of h.1.2
receives_kind (by_kind.Pull x) steps skips a new h = kind_of h.1.2
receives_kind (by_kind.Pair x) steps skips a new h = kind_of h.1.2
receives_kind (by_kind.Dealer x) steps skips a new h = kind_of h.1.2
receives_kind (by_kind.Req x y) steps skips a new h = kind_of h.3
receives_kind (by_kind.Rep x y) steps skips a new h = kind_of h.3
receives_kind (by_kind.Router x) steps skips a new h = kind_of h.1.2
receives_kind (by_kind.Pub x) steps skips a new h = kind_of h.1.2
receives_kind (by_kind.XPub x) steps skips a new h = kind_of h.1.2
receives_kind (by_kind.Sub x) steps skips a new h = kind_of h.2
receives_kind (by_kind.XSub x) steps skips a new h = kind_of h.1.2

pub stops_kind : (old : Pattern) (steps : List PipeStep) (skips : List Skip) (left : Option Kept) (new : Pattern) → StopsReceive old steps skips left new → pattern_kind new ≡ pattern_kind old
stops_kind (by_kind.Push x) steps skips left new h = absurd h
stops_kind (by_kind.Pull x) steps skips left new h = absurd h
stops_kind (by_kind.Pair x) steps skips left new h = absurd h
stops_kind (by_kind.Dealer x) steps skips left new h = absurd h
stops_kind (by_kind.Req x y) steps skips left new h = kind_of h.3
stops_kind (by_kind.Rep x y) steps skips left new h = kind_of h.3
stops_kind (by_kind.Router x) steps skips left new h = receives_kind (by_kind.Router x) steps skips (got.Got h.0.pair h.0.message) new h.2
stops_kind (by_kind.Pub x) steps skips left new h = absurd h
stops_kind (by_kind.XPub x) steps skips left new h = kind_of h.4
stops_kind (by_kind.Sub x) steps skips left new h = kind_of h.3
stops_kind (by_kind.XSub x) steps skips left new h = absurd h

pub pumps_kind : (test : End → Bool) (old : Pattern) (steps : List PipeStep) (new : Pattern) → PatternPumps test old steps new → pattern_kind new ≡ pattern_kind old
pumps_kind test (by_kind.Push x) steps new h = kind_of h.1
pumps_kind test (by_kind.Pull x) steps new h = kind_of h.1
pumps_kind test (by_kind.Pair x) steps new h = kind_of h.1
pumps_kind test (by_kind.Dealer x) steps new h = kind_of h.1
pumps_kind test (by_kind.Req x y) steps new h = kind_of h.1
pumps_kind test (by_kind.Rep x y) steps new h = kind_of h.1
pumps_kind test (by_kind.Router x) steps new h = kind_of h.1
pumps_kind test (by_kind.Pub x) steps new h = kind_of h.2
pumps_kind test (by_kind.XPub x) steps new h = kind_of h.2
pumps_kind test (by_kind.Sub x) steps new h = kind_of h.2
pumps_kind test (by_kind.XSub x) steps new h = kind_of h.2

pub pump_stops_kind : (reads : (End → Bool) → Type 0) (old : Pattern) (steps : List PipeStep) (new : Pattern) → StopsPump reads old steps new → pattern_kind new ≡ pattern_kind old
pump_stops_kind reads (by_kind.Push x) steps new h = absurd h
pump_stops_kind reads (by_kind.Pull x) steps new h = absurd h
pump_stops_kind reads (by_kind.Pair x) steps new h = absurd h
pump_stops_kind reads (by_kind.Dealer x) steps new h = absurd h
pump_stops_kind reads (by_kind.Req x y) steps new h = absurd h
pump_stops_kind reads (by_kind.Rep x y) steps new h = absurd h
pump_stops_kind reads (by_kind.Router x) steps new h = absurd h
pump_stops_kind reads (by_kind.Pub x) steps new h = kind_of h.2
pump_stops_kind reads (by_kind.XPub x) steps new h = kind_of h.2
pump_stops_kind reads (by_kind.Sub x) steps new h = kind_of h.2
pump_stops_kind reads (by_kind.XSub x) steps new h = kind_of h.2

pub changes_kind : (change : Change) (test : End → Bool) (topic : Topic) (old : Pattern) (steps : List PipeStep) (a : ChangeAnswer) (new : Pattern) → PatternChanges change test topic old steps a new → pattern_kind new ≡ pattern_kind old
changes_kind change test topic (by_kind.Push x) steps a new h = kind_of h.2
changes_kind change test topic (by_kind.Pull x) steps a new h = kind_of h.2
changes_kind change test topic (by_kind.Pair x) steps a new h = kind_of h.2
changes_kind change test topic (by_kind.Dealer x) steps a new h = kind_of h.2
changes_kind change test topic (by_kind.Req x y) steps a new h = kind_of h.2
changes_kind change test topic (by_kind.Rep x y) steps a new h = kind_of h.2
changes_kind change test topic (by_kind.Router x) steps a new h = kind_of h.2
changes_kind change test topic (by_kind.Pub x) steps a new h = kind_of h.2
changes_kind change test topic (by_kind.XPub x) steps a new h = kind_of h.2
changes_kind change test topic (by_kind.Sub x) steps a new h = kind_of h.2
changes_kind change test topic (by_kind.XSub x) steps a new h = kind_of h.2

pub untold_kind : (reads : (End → Bool) → Type 0) (change : Change) (topic : Topic) (old : Pattern) (steps : List PipeStep) (new : Pattern) → StopsChange reads change topic old steps new → pattern_kind new ≡ pattern_kind old
untold_kind reads change topic (by_kind.Push x) steps new h = absurd h
untold_kind reads change topic (by_kind.Pull x) steps new h = absurd h
untold_kind reads change topic (by_kind.Pair x) steps new h = absurd h
untold_kind reads change topic (by_kind.Dealer x) steps new h = absurd h
untold_kind reads change topic (by_kind.Req x y) steps new h = absurd h
untold_kind reads change topic (by_kind.Rep x y) steps new h = absurd h
untold_kind reads change topic (by_kind.Router x) steps new h = absurd h
untold_kind reads change topic (by_kind.Pub x) steps new h = absurd h
untold_kind reads change topic (by_kind.XPub x) steps new h = absurd h
untold_kind reads change topic (by_kind.Sub x) steps new h = kind_of h.2
untold_kind reads change topic (by_kind.XSub x) steps new h = kind_of h.2

-- ---- whatever the ends are called

pub any_ends : (f g : ℕ → EndId) (s : AnySock) → pattern_kind (over f s) ≡ pattern_kind (over g s)
any_ends f g (sock.Push x) = refl
any_ends f g (sock.Pull x) = refl
any_ends f g (sock.Pair x) = refl
any_ends f g (sock.Dealer x) = refl
any_ends f g (sock.Req x) = refl
any_ends f g (sock.Rep x) = refl
any_ends f g (sock.Router x) = refl
any_ends f g (sock.Pub x) = refl
any_ends f g (sock.XPub x) = refl
any_ends f g (sock.Sub x) = refl
any_ends f g (sock.XSub x) = refl

pub caught_kind : (f g : ℕ → EndId) (s : AnySock) → pattern_kind (over f (caught_up f s)) ≡ pattern_kind (over g s)
caught_kind f g (sock.Push x) = refl
caught_kind f g (sock.Pull x) = refl
caught_kind f g (sock.Pair x) = refl
caught_kind f g (sock.Dealer x) = refl
caught_kind f g (sock.Req x) = refl
caught_kind f g (sock.Rep x) = refl
caught_kind f g (sock.Router x) = refl
caught_kind f g (sock.Pub x) = refl
caught_kind f g (sock.XPub x) = refl
caught_kind f g (sock.Sub x) = refl
caught_kind f g (sock.XSub x) = refl

pub received_kind : (f g : ℕ → EndId) (s : AnySock) → pattern_kind (over f (as_received f s)) ≡ pattern_kind (over g s)
received_kind f g (sock.Push x) = refl
received_kind f g (sock.Pull x) = refl
received_kind f g (sock.Pair x) = refl
received_kind f g (sock.Dealer x) = refl
received_kind f g (sock.Req x) = refl
received_kind f g (sock.Rep x) = refl
received_kind f g (sock.Router x) = refl
received_kind f g (sock.Pub x) = refl
received_kind f g (sock.XPub x) = refl
received_kind f g (sock.Sub x) = refl
received_kind f g (sock.XSub x) = refl
