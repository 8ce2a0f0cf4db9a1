-- What is said of the parts of a lent socket is said of it, and what is so of one that is there.
use Rattle.std.proofs.Common.{◌≡◌, ◌<◌, ℕ, Bool, true, false, List, length, Option, Some, None, subst}
use Rattle.zq_base.specs.declared.endpoint.Endpoint.{Endpoint}
use Rattle.zq_base.specs.declared.endpoint.Endpoint.TheVariants.{Inproc, Tcp}
use Rattle.spec_control.specs.Reply.{root_asked}
use Rattle.ctl_plane.specs.Past.{control_of}
use Rattle.desk.specs.declared.given.Given.{Given}
use Rattle.desk.specs.Asking.{MayReach}
use Rattle.msg_pipe.specs.Known.{Known}
use Rattle.any_sock.specs.declared.any_sock.AnySock.{AnySock}
use Rattle.sock_core.specs.declared.sock.SockCore.{SockCore}
use Rattle.zq_world.specs.MayAsk.{IsLocal}
use Rattle.spec_run.specs.Act.{Act}
use Rattle.spec_run.specs.OpenSocket.{OpenSock}
use Rattle.spec_run.specs.SocketCall.{leave_asked}
use Rattle.line_calls.specs.Steps.{Passes, Takes}
use Rattle.line_calls.specs.declared.found.Found.{Found}
use Rattle.line_calls.specs.declared.found.Found.TheVariants.{Letter, Nothing}
use Rattle.plain_desk.specs.Lent.{Lent, moments_of}
use Rattle.line_socket.specs.Owned.{IsThereFor, newest}

pub may_reach : (serves : Bool) (at : Endpoint) → IsLocal at → MayReach serves at
may_reach true at is = tt
may_reach false (Inproc name) is = tt
may_reach false (Tcp address) is = absurd is

module _ {M P N S : Type 0} (f : M → P) (leads : P → List (Act N S) → P → Type 0) (as_open : P → OpenSock) where
  passes_of_parts : (old new : M) (acts : List (Act N S)) → Passes leads as_open (f old) acts (f new) → Passes (λ s acts t. leads (f s) acts (f t)) (λ s. as_open (f s)) old acts new
  passes_of_parts old new acts h = record { led = h.led; goes = h.goes }

  pub takes_of_parts : (found : Found) (old new : M) → Takes leads as_open found (f old) (f new) → Takes (λ s acts t. leads (f s) acts (f t)) (λ s. as_open (f s)) found old new
  takes_of_parts (Letter reader) old new h = record { taken = h.taken; letter = h.letter; delivery = h.delivery; behind = h.behind; passes = passes_of_parts old new _ h.passes }
  takes_of_parts Nothing old new h = record { look = h.look; look_is = h.look_is; passes = passes_of_parts old new _ h.passes }

module _ {W N O I S T : Type 0} (K : Known S O I N) (pipes : S) (d : Lent (Given N O I) N T) (n : ℕ) where
  pub there_not : (s : Option (SockCore AnySock W N O I)) → s ≡ None → IsThereFor K pipes d n s → ⊥
  there_not s is there = subst (λ (x : Option (SockCore AnySock W N O I)). IsThereFor K pipes d n x) is there

  pub there_asked : (s : Option (SockCore AnySock W N O I)) → IsThereFor K pipes d n s → 0 < length (newest n (moments_of d)) → leave_asked (newest n (moments_of d)) ≡ root_asked (control_of d.past)
  there_asked None there some = absurd there
  there_asked (Some s) there some = there.asked some
