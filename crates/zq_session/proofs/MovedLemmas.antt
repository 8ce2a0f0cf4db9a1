-- Whether events moved anything.
use Rattle.std.proofs.Common.{◌≡◌, Bool, true, false, List, ◌++◌, Some, refl, sym, ap, ◌∙◌, inl, inr}
use Rattle.std.specs.Prelude.{◌||◌}
use Rattle.std.proofs.lemmas.List.Folds.{list_any-append}
use Rattle.zq_base.specs.Ends.{PipeId}
use Rattle.msg_pipe.specs.Told.{front_step}
use Rattle.msg_pipe.specs.declared.pipes.Front.{Front}
use Rattle.msg_pipe.specs.declared.pipes.Front.TheVariants as front
use Rattle.spec_link.specs.declared.due.Due.{Due}
use Rattle.spec_link.specs.History.{SessionEvent, Standing}
use Rattle.spec_link.specs.Turn.{DueOnce}
use Rattle.spec_link.specs.Moving.{moves, has_moved, step_moves}

-- events behind events
pub moved_on : (xs ys : List SessionEvent) (m n : Bool) → m ≡ has_moved xs → n ≡ has_moved ys → (m || n) ≡ has_moved (xs ++ ys)
moved_on xs ys m n em en = ap (λ (b : Bool). b || n) em ∙ ap (λ (b : Bool). has_moved xs || b) en ∙ sym (list_any-append moves xs ys)

-- a look moved exactly where it met the delimiter
pub front_moved : (pipe : PipeId) (f : Front) (met : Bool) → (met ≡ true → Some f ≡ Some front.Delimiter) → (met ≡ false → Some f ≡ Some front.Delimiter → ⊥) → met ≡ step_moves (front_step pipe f)
front_moved pipe front.Message true my mn = (let e = my refl in absurd cc)
front_moved pipe front.Message false my mn = refl
front_moved pipe front.Empty true my mn = (let e = my refl in absurd cc)
front_moved pipe front.Empty false my mn = refl
front_moved pipe front.Delimiter true my mn = refl
front_moved pipe front.Delimiter false my mn = absurd (mn refl refl)

-- and so does what became due by it
or_true : (b : Bool) → true ≡ (b || true)
or_true true = refl
or_true false = refl

pub or_none : (b : Bool) → b ≡ (b || false)
or_none true = refl
or_none false = refl

pub moved_once : (s : Standing) (met : Bool) (x : Due) (first : Bool) (dues : List SessionEvent) → met ≡ first → DueOnce s (met ≡ true) x dues → met ≡ (first || has_moved dues)
moved_once s met x first dues e (inl k) = k.0.0 ∙ or_true first ∙ ap (λ (l : List SessionEvent). first || has_moved l) (sym k.1)
moved_once s met x first dues e (inr k) = e ∙ or_none first ∙ ap (λ (l : List SessionEvent). first || has_moved l) (sym k.1)
