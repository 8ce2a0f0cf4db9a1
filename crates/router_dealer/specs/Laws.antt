-- A ROUTER over places is the ROUTER of the definitions over the ends at these places (RFC 28, "The ROUTER Socket Type").
use Rattle.std.specs.Prelude.{◌≡◌, ◌↔◌, ℕ, Bool, List, [], map, nat_eq, All, IfOk, Result, Ok}
use Rattle.std.specs.declared.alloc.AllocError.{AllocError}
use Rattle.zq_base.specs.Message.{Frames}
use Rattle.zq_base.specs.declared.attached.Attached.{Attached}
use Rattle.zq_base.specs.declared.attached.Attached.TheVariants.{BadId}
use Rattle.spec_pattern.specs.PipeStep.{PipeStep, same_pipe}
use Rattle.spec_pattern.specs.TurnList.{End}
use Rattle.spec_pattern.specs.Routing.{named, RouterSends, RouterReceives}
use Rattle.spec_pattern.specs.Pattern.{Pattern, Router, attach, attach_answer, detach}
use Rattle.spec_pattern.specs.PatternCalls.{PatternSends, PatternReceives}
use Rattle.spec_pattern.specs.declared.answers.SendAnswer.{SendAnswer}
use Rattle.spec_pattern.specs.declared.answers.RecvAnswer.{RecvAnswer}
use Rattle.router_dealer.specs.PlaceNames.{names_at}
use Rattle.router_dealer.specs.Named.{RouterState, IsTaken, detached_state, Attaches}

-- the ROUTER over the ends of its places; what want of memory kept isn't in it
abbrev pub router_at : (ℕ → End) → RouterState → Pattern
router_at ends r = Router (record {
  ins = map ends r.ins;
  names = names_at ends r.names;
  drawn = r.drawn;
  mandatory = r.mandatory;
})

-- an attach at a place answers and does what that of its end does
abbrev pub AttachesTheEnd : Type 0
AttachesTheEnd = (ends : ℕ → End) (identity : List ℕ) (place : ℕ) (old new : RouterState) (result : Result Attached AllocError)
    → Attaches identity place old result new → (result ≡ Ok BadId) ↔ IsTaken old.names identity
    → IfOk result (λ answer. (answer ≡ attach_answer identity (router_at ends old))
    × (router_at ends new ≡ attach (ends place) identity (router_at ends old)))

-- the end at the place is no other's of these places
abbrev pub IsNoOther : (ℕ → End) → ℕ → List ℕ → Type 0
IsNoOther ends place places = All (λ k. same_pipe (ends place) (ends k) ≡ nat_eq place k) places

-- a detach at a place does what that of its end does
abbrev pub DetachesTheEnd : Type 0
DetachesTheEnd = (ends : ℕ → End) (place : ℕ) (r : RouterState)
    → IsNoOther ends place r.ins → IsNoOther ends place (map (λ n. n.place) r.names)
    → router_at ends (detached_state place r) ≡ detach (ends place) (router_at ends r)

-- a send's steps are those of the ROUTER's
abbrev pub SendsAsTheKind : Type 0
SendsAsTheKind = (ends : ℕ → End) (can_write : End → Bool) (m : Frames) (r : RouterState) (steps : List PipeStep) (answer : SendAnswer)
    → RouterSends r.mandatory can_write (named (names_at ends r.names)) m steps answer
    → PatternSends can_write m (router_at ends r) steps answer (router_at ends r)

-- a receive's steps are
abbrev pub ReceivesAsTheKind : Type 0
ReceivesAsTheKind = (ends : ℕ → End) (r : RouterState) (steps : List PipeStep) (answer : RecvAnswer) (turns : List ℕ)
    → RouterReceives (named (names_at ends r.names)) (map ends r.ins) steps answer (map ends turns)
    → PatternReceives (router_at ends r) steps [] answer (router_at ends (record r { ins = turns }))

pub record IsTheRouterOfItsEnds : Type 0 where
  pub attaches : AttachesTheEnd
  pub detaches : DetachesTheEnd
  pub sends : SendsAsTheKind
  pub receives : ReceivesAsTheKind
