-- What is said of the steps past behind calls that made no pipe is said in one way, so that a proof of it may be taken out of a truncation.
use Rattle.std.proofs.Common.{◌≡◌, ◌<◌, ◌++◌, ◌∙◌, ℕ, Bool, List, [], ◌∷◌, Option, Some, true, refl, sym, ap, subst, map, append-nil, append_assoc}
use Rattle.std.specs.Prelude.{flat_map}
use Rattle.std.specs.List.{AllByRecursion}
use Rattle.std.specs.Coded.{codes, ×_prop}
use Rattle.std.proofs.Math.Logic.{∥∥₁_elim, ∥∥₁_map}
use Rattle.std.proofs.lemmas.List.Elements.{filter_map-append}
use Rattle.zq_base.specs.Message.{Frames}
use Rattle.zq_base.specs.declared.ids.EndId.{EndId}
use Rattle.zq_base.specs.Ends.{PipeId}
use Rattle.msg_pipe.specs.Known.{Known}
use Rattle.spec_pattern.specs.PipeStep.{PipeStep, Seal, sealed_in, committed_to, taken_from, Follows, AreExact}
use Rattle.spec_pattern.specs.Half.{Writing, Reading}
use Rattle.end_table.specs.Past.{Stands}
use Rattle.end_table.proofs.StepLemmas.{exact_more}
use Rattle.spec_control.specs.Control.{Control, next_pair}
use Rattle.spec_control.specs.Moments.{Moment}
use Rattle.spec_run.specs.Act.{Act, Step, steps_in, pipe_step_of}
use Rattle.spec_run.specs.Event.{seals_in, acts_said}
use Rattle.spec_run.specs.OwnedRun.{pipe_capacity}
use Rattle.run_laws.specs.CapacitiesStay.{pipe_at}
use Rattle.socket_laws.specs.Standing.{PastStands, goes_in}
use native.Mathlib.Bridge.{le_prop}

frames_set : IsSet (List Frames)
frames_set = Prim.hlevel codes

bool_set : IsSet Bool
bool_set = Prim.hlevel codes

nat_set : IsSet ℕ
nat_set = Prim.hlevel codes

-- ---- steps that only write delimiters

-- what follows at a place follows from all before it
follows_at : (capacity : PipeId → ℕ) (before xs : List PipeStep) (s : PipeStep) (ys : List PipeStep) → AreExact capacity before (xs ++ s ∷ ys) → Follows capacity (before ++ xs) s
follows_at capacity before [] s ys all = subst (λ (l : List PipeStep). Follows capacity l s) (sym (append-nil before)) all.0
follows_at capacity before (x ∷ xs) s ys all = subst (λ (l : List PipeStep). Follows capacity l s) (append_assoc before (x ∷ []) xs) (follows_at capacity (before ++ x ∷ []) xs s ys all.1)

exact_seals : (capacity : PipeId → ℕ) (past : List PipeStep) (es : List EndId) → AreExact capacity [] past → ∥ AreExact capacity [] (past ++ map Seal es) ∥₁ → AreExact capacity [] (past ++ map Seal es)
exact_seals capacity past [] was now = subst (AreExact capacity []) (sym (append-nil past)) was
exact_seals capacity past (e ∷ es) was now =
    subst (AreExact capacity []) (append_assoc past (Seal e ∷ []) (map Seal es))
    (exact_seals capacity (past ++ Seal e ∷ []) es
    (exact_more capacity [] past (Seal e) was (∥∥₁_elim now (bool_set (sealed_in e past) _) (λ all. follows_at capacity [] past (Seal e) (map Seal es) all)))
    (subst (λ (l : List PipeStep). ∥ AreExact capacity [] l ∥₁) (sym (append_assoc past (Seal e ∷ []) (map Seal es))) now))

sealed_steps : (N T : Type 0) (es : List EndId) → steps_in (map (λ e. let a : Act N T = Step (Seal e) in a) es) ≡ map Seal es
sealed_steps N T [] = refl
sealed_steps N T (e ∷ es) = ap (λ (l : List PipeStep). Seal e ∷ l) (sealed_steps N T es)

seals_over : (es fs : List EndId) → map Seal (es ++ fs) ≡ map Seal es ++ map Seal fs
seals_over [] fs = refl
seals_over (e ∷ es) fs = ap (λ (l : List PipeStep). Seal e ∷ l) (seals_over es fs)

module _ {N T : Type 0} where
  -- the steps of items only write delimiters
  pub only_seals : (ms : List (Moment N T)) → steps_in (flat_map acts_said ms) ≡ map Seal (flat_map seals_in ms)
  only_seals [] = refl
  only_seals (m ∷ ms) =
      filter_map-append pipe_step_of (acts_said m) (flat_map acts_said ms)
      ∙ ap (λ (l : List PipeStep). l ++ steps_in (flat_map acts_said ms)) (sealed_steps N T (seals_in m))
      ∙ ap (λ (l : List PipeStep). map Seal (seals_in m) ++ l) (only_seals ms)
      ∙ sym (seals_over (seals_in m) (flat_map seals_in ms))

-- ---- the steps past

made_prop : (c : Control) (steps : List PipeStep) → IsProp (AllByRecursion (λ s. (pipe_at s).pair.0 < next_pair c) steps)
made_prop c [] = Prim.hlevel
made_prop c (s ∷ steps) = ×_prop (Prim.hlevel le_prop) (made_prop c steps)

module _ {S O I N : Type 0} (K : Known S O I N) (one_out : (s : S) (o p : O) → K.out_name o ≡ K.out_name p → K.writing s o ≡ K.writing s p)
    (one_in : (s : S) (i j : I) → K.in_name i ≡ K.in_name j → K.reading s i ≡ K.reading s j)
    (c now : Control) (names said : PipeId → Option N) (old new : S) (past : List PipeStep) (es : List EndId)
    (still : (p : PipeId) (n : N) → goes_in now said p ≡ Some n → goes_in c names p ≡ Some n)
    (was : PastStands K c names old past) (exact : AreExact (pipe_capacity now) [] past) (is : ∥ PastStands K now said new (past ++ map Seal es) ∥₁) where
  abbrev steps : List PipeStep
  steps = past ++ map Seal es

  stands : (p : PipeId) (n : N) → goes_in now said p ≡ Some n → Stands K (goes_in now said) (pipe_capacity now) new steps p n
  stands p n g =
      let first = was.past_is.stands p n (still p n g) in
      let there = λ (s : PastStands K now said new steps). s.past_is.stands p n g in
      let out = λ (s : PastStands K now said new steps). one_out new first.out (there s).out (first.out_is ∙ sym (there s).out_is) in
      let input = λ (s : PastStands K now said new steps). one_in new first.input (there s).input (first.in_is ∙ sym (there s).in_is) in
      record {
        out = first.out;
        input = first.input;
        out_is = first.out_is;
        in_is = first.in_is;
        there = ∥∥₁_elim is (bool_set (K.there new n) true) (λ s. (there s).there);
        committed = ∥∥₁_elim is (frames_set (K.writing new first.out).committed (committed_to p steps)) (λ s. ap (λ (w : Writing). w.committed) (out s) ∙ (there s).committed);
        taken = ∥∥₁_elim is (frames_set (K.reading new first.input).taken (taken_from p steps)) (λ s. ap (λ (r : Reading). r.taken) (input s) ∙ (there s).taken);
        capacity_is = ∥∥₁_elim is (nat_set (K.writing new first.out).capacity (pipe_capacity now p)) (λ s. ap (λ (w : Writing). w.capacity) (out s) ∙ (there s).capacity_is);
        sealed_is = ∥∥₁_elim is (bool_set (K.writing new first.out).sealed (sealed_in p steps)) (λ s. ap (λ (w : Writing). w.sealed) (out s) ∙ (there s).sealed_is);
      }

  pub still_stands : PastStands K now said new (past ++ map Seal es)
  still_stands = record {
    past_is = record {
      stands = stands;
      exact = exact_seals (pipe_capacity now) past es exact (∥∥₁_map is (λ s. s.past_is.exact));
    };
    one_name = λ p q n x y. was.one_name p q n (still p n x) (still q n y);
    made = ∥∥₁_elim is (made_prop now (past ++ map Seal es)) (λ s. s.made);
  }
