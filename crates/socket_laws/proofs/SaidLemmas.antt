-- The delimiters that are told with items.
use Rattle.std.specs.Prelude.{◌≡◌, ◌++◌, List, [], ◌∷◌, flat_map, map, refl}
use Rattle.std.proofs.Common.{sym, ap, ◌∙◌}
use Rattle.std.proofs.lemmas.List.Elements.{filter_map-append}
use Rattle.zq_base.specs.declared.ids.EndId.{EndId}
use Rattle.spec_pattern.specs.PipeStep.{PipeStep, Seal}
use Rattle.spec_control.specs.Moments.{Moment, left_by}
use Rattle.desk.specs.Turns.{turned_in}
use Rattle.desk.proofs.TurnsLemmas.{seal_append}
use Rattle.spec_run.specs.Act.{Act, Step, steps_in, pipe_step_of}
use Rattle.spec_run.specs.Event.{seals_in, acts_said}
use Rattle.run_laws.specs.SealsTold.{SealsAreTold}
use Rattle.socket_laws.specs.Changes.{SealsAreNew}
use Rattle.socket_laws.specs.Said.{sealed_with, StepsAreSaid}

seals_over : (es fs : List EndId) → map Seal (es ++ fs) ≡ map Seal es ++ map Seal fs
seals_over [] fs = refl
seals_over (e ∷ es) fs = ap (λ (l : List PipeStep). Seal e ∷ l) (seals_over es fs)

pub step_seals : (N T : Type 0) (es : List EndId) → steps_in (map (λ e. let a : Act N T = Step (Seal e) in a) es) ≡ map Seal es
step_seals N T [] = refl
step_seals N T (e ∷ es) = ap (λ (l : List PipeStep). Seal e ∷ l) (step_seals N T es)

module _ {N T : Type 0} where
  steps_said : SealsAreTold N T → (ms : List (Moment N T)) → map Seal (sealed_with ms) ≡ steps_in (flat_map acts_said ms)
  steps_said told [] = refl
  steps_said told (m ∷ ms) =
      ap (map Seal) (seal_append (turned_in m.found (left_by m)) (flat_map (λ n. turned_in n.found (left_by n)) ms) ∙ ap (λ (l : List EndId). l ++ sealed_with ms) (told m))
      ∙ seals_over (seals_in m) (sealed_with ms)
      ∙ ap (λ (l : List PipeStep). l ++ map Seal (sealed_with ms)) (sym (step_seals N T (seals_in m)))
      ∙ ap (λ (l : List PipeStep). steps_in (acts_said m) ++ l) (steps_said told ms)
      ∙ sym (filter_map-append pipe_step_of (acts_said m) (flat_map acts_said ms))

pub steps_are_said : (S O I N T : Type 0) → SealsAreTold N T → SealsAreNew S O I → StepsAreSaid S O I N T
steps_are_said S O I N T told new before now changes ms tells grown fresh = ap (map Seal) (new before (sealed_with ms) now changes tells grown fresh) ∙ steps_said told ms
