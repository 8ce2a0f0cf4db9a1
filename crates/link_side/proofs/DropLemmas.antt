-- What is dropped is to what is kept as if it was put.
use Rattle.std.proofs.Common.{◌≡◌, ◌+◌, true, false, List, [], ◌∷◌, ◌++◌, Option, Some, None, refl, ap}
use Rattle.std.specs.Prelude.{IsSome}
use Rattle.zq_base.specs.Message.{Frames}
use Rattle.zq_base.specs.Ends.{PipeId}
use Rattle.zmtp_engine.specs.Conversation.{IsCurrent}
use Rattle.spec_pattern.specs.PipeStep.{Commit}
use Rattle.spec_link.specs.LinkAct.{LinkAct, Step}
use Rattle.spec_link.specs.Parts.{puts}
use Rattle.spec_link.specs.Rows.{count_of}
use Rattle.link_side.specs.Kept.{Kept, IsAtRest, Acts, whole}
use Rattle.link_side.specs.Single.{DropsBy}
use Rattle.link_side.proofs.KeptLemmas.{run_put}
use Rattle.link_side.proofs.PartLemmas.{drained_by}
use Rattle.link_side.proofs.RestLemmas.{some_meaning, nothing_held}

pub puts_one_more : (pipe : PipeId) (ms : List Frames) (m : Frames) → puts pipe ms ++ Step (Commit pipe m) ∷ [] ≡ puts pipe (ms ++ m ∷ [])
puts_one_more pipe [] m = refl
puts_one_more pipe (x ∷ ms) m = ap (λ (l : List LinkAct). Step (Commit pipe x) ∷ l) (puts_one_more pipe ms m)

the_held : (o : Option Frames) → IsSome o → (m : Frames) × (o ≡ Some m)
the_held None e = absurd cc
the_held (Some m) e = (m, refl)

pub drops_one : (old new : Kept) → IsSome old.held → new.held ≡ None → new.through ≡ count_of (old.through + 1) → new.engine ≡ old.engine → new.unfed ≡ old.unfed → (m : Frames) × ((pipe : PipeId) → Acts old (Step (Commit pipe m) ∷ []) new)
drops_one old new some none et ee eu =
    let m = the_held old.held some in
    (m.0, λ pipe opts acts r. run_put opts acts (Step (Commit pipe m.0)) m.0 old new refl refl refl refl eu m.1 none et ee r)

no_full : (k : Kept) → false ≡ true → IsSome k.held
no_full k e = absurd cc

pub rest_dropped : (k : Kept) → k.unfed ≡ [] → IsCurrent k.engine → whole k ≡ [] → IsAtRest k
rest_dropped k none now all = record { fed = none; current = now; drained = drained_by k false (no_full k) (λ _. all) }

pub drops_by : (old new : Kept) (ms : List Frames) → ((pipe : PipeId) → Acts old (puts pipe ms) new) → new.unfed ≡ [] → IsCurrent new.engine → whole new ≡ [] → DropsBy old new
drops_by old new ms run none now all = record {
  messages = ms;
  run = run;
  none = λ opts acts r. (
    nothing_held opts acts new none now all r,
    λ some. (let m = some_meaning opts acts new none now r in some m.0 m.1 (nothing_held opts acts new none now all r m.0 m.1)),
  );
}
