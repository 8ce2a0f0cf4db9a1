-- Acts at a link that only looked, and what is kept behind them.
use Rattle.std.proofs.Common.{◌≡◌, Bool, List, [], ◌∷◌, ◌++◌, length, drop, Option, Some, None, refl, sym, ap, subst, ◌∙◌, inl, inr, append_assoc}
use Rattle.std.specs.Prelude.{option_map}
use Rattle.zq_base.specs.Message.{Frames}
use Rattle.zq_base.specs.Ends.{PipeId}
use Rattle.zq_base.specs.declared.options.EngineOpts.{EngineOpts}
use Rattle.msg_pipe.specs.Told.{front_step}
use Rattle.msg_pipe.specs.declared.pipes.Front.{Front}
use Rattle.msg_pipe.specs.declared.pipes.Front.TheVariants as front
use Rattle.spec_pattern.specs.PipeStep.{PipeStep, Take, WaitingLook, EmptyLook, DelimiterLook}
use Rattle.spec_link.specs.LinkAct.{LinkAct, Step, taken_by, repeated_by}
use Rattle.spec_link.specs.Rows.{ClosedLink}
use Rattle.spec_link.specs.Topics.{Topics}
use Rattle.link_side.specs.declared.behind.Behind.{Behind}
use Rattle.link_side.specs.declared.behind.Behind.TheVariants.{Nothing, Octets, Unsaid}
use Rattle.link_side.specs.Kept.{Kept, Side, KeepsActs}
use Rattle.link_side.proofs.KeptLemmas.{run_still, none_more}
use Rattle.spec_link.specs.TopicsFirst.{topics_said}
use Rattle.spec_link.specs.Turn.{IsLook, topics_taken}
use Rattle.zq_session.specs.Noting.{AreLooks, IsHeldOf, AreTopics, taken_before}
use Rattle.zq_session.specs.Courses.{IsOfLink}
use Rattle.zq_session.proofs.UnputLemmas.{does_these, does_on, does_nothing}

pub is_look : (pipe : PipeId) (f : Front) → IsLook pipe (front_step pipe f)
is_look pipe front.Message = inl refl
is_look pipe front.Empty = inr (inl refl)
is_look pipe front.Delimiter = inr (inr refl)

-- one look changes nothing that is kept
module _ (opts : EngineOpts) (k : Kept) (pipe : PipeId) where
  does_look : (step : PipeStep) → IsLook pipe step → KeepsActs opts k (Step step ∷ []) k
  does_look step (inl e) = subst (λ (s : PipeStep). KeepsActs opts k (Step s ∷ []) k) (sym e)
      (does_these opts k k (Step (WaitingLook pipe) ∷ []) refl (λ o acts r. run_still o acts (Step (WaitingLook pipe)) k k refl refl refl refl refl refl refl refl r))
  does_look step (inr (inl e)) = subst (λ (s : PipeStep). KeepsActs opts k (Step s ∷ []) k) (sym e)
      (does_these opts k k (Step (EmptyLook pipe) ∷ []) refl (λ o acts r. run_still o acts (Step (EmptyLook pipe)) k k refl refl refl refl refl refl refl refl r))
  does_look step (inr (inr e)) = subst (λ (s : PipeStep). KeepsActs opts k (Step s ∷ []) k) (sym e)
      (does_these opts k k (Step (DelimiterLook pipe) ∷ []) refl (λ o acts r. run_still o acts (Step (DelimiterLook pipe)) k k refl refl refl refl refl refl refl refl r))

-- nor do several
pub does_looks : (opts : EngineOpts) (k : Kept) (looks : List LinkAct) → AreLooks looks → KeepsActs opts k looks k
does_looks opts k [] all = does_nothing opts k
does_looks opts k (act ∷ looks) all =
    does_on opts k k k (act ∷ []) looks (subst (λ (a : LinkAct). KeepsActs opts k (a ∷ []) k) (sym all.0.3) (does_look opts k all.0.0 all.0.1 all.0.2)) (does_looks opts k looks all.1)

looks_on : (looks : List LinkAct) (act : LinkAct) → AreLooks looks → AreLooks (act ∷ []) → AreLooks (looks ++ act ∷ [])
looks_on [] act all one = one
looks_on (x ∷ looks) act all one = (all.0, looks_on looks act all.1 one)

-- what is held of the acts at a link is held of them and a look
held_looked : (opts : EngineOpts) (acts : List LinkAct) (act : LinkAct) (b : Behind) (k : Kept) → AreLooks (act ∷ []) → IsHeldOf opts acts b k → IsHeldOf opts (acts ++ act ∷ []) b k
held_looked opts acts act Nothing k one h = does_looks opts k (act ∷ []) one acts h
held_looked opts acts act Octets k one h = does_looks opts k (act ∷ []) one acts h
held_looked opts acts act (Unsaid m) k one h =
    (h.0, h.1, h.2 ++ act ∷ [], ap (λ (l : List LinkAct). l ++ act ∷ []) h.3 ∙ append_assoc h.0 (Step (Take h.1 m) ∷ h.2) (act ∷ []), looks_on h.2 act h.4 one, h.5)

-- the acts at a link, where there is one, with one more
abbrev pub with_act : LinkAct → Option (List LinkAct) → Option (List LinkAct)
with_act act link = option_map (λ acts. acts ++ act ∷ []) link

pub link_looked : (opts : EngineOpts) (link : Option (List LinkAct)) (side : Option Side) (act : LinkAct) → AreLooks (act ∷ []) → IsOfLink opts link side → IsOfLink opts (with_act act link) side
link_looked opts None None act one k = tt
link_looked opts None (Some sd) act one k = absurd k
link_looked opts (Some acts) None act one k = absurd k
link_looked opts (Some acts) (Some sd) act one k = held_looked opts acts act sd.behind sd.kept one k

-- a look takes nothing, and says nothing again
looks_take : (act : LinkAct) → AreLooks (act ∷ []) → (taken_by act ≡ []) × (repeated_by act ≡ [])
looks_take act one =
    subst (λ (a : LinkAct). (taken_by a ≡ []) × (repeated_by a ≡ [])) (sym one.0.3)
    (elim one.0.2 as (λ _. (taken_by (Step one.0.1) ≡ []) × (repeated_by (Step one.0.1) ≡ [])) [
      | inl e ↦ (ap (λ (s : PipeStep). taken_by (Step s)) e, refl)
      | inr e ↦ elim e as (λ _. (taken_by (Step one.0.1) ≡ []) × (repeated_by (Step one.0.1) ≡ [])) [
        | inl d ↦ (ap (λ (s : PipeStep). taken_by (Step s)) d, refl)
        | inr d ↦ (ap (λ (s : PipeStep). taken_by (Step s)) d, refl)
      ]
    ])

-- so the topics stay as they are
pub topics_looked : (dials : Bool) (opts : EngineOpts) (link : Option (List LinkAct)) (closed : List ClosedLink) (unsaid : List Frames) (t : Option Topics) (act : LinkAct) → AreLooks (act ∷ [])
    → AreTopics dials opts link closed unsaid t → AreTopics dials opts (with_act act link) closed unsaid t
topics_looked dials opts None closed unsaid t act one k = k
topics_looked dials opts (Some acts) closed unsaid None act one k = k
topics_looked dials opts (Some acts) closed unsaid (Some t) act one k =
    let n = k.1 in
    let still = looks_take act one in (
      k.0,
      record {
        noted = n.noted;
        all = n.all ∙ ap (λ (l : List Frames). taken_before closed ++ l) (sym (none_more taken_by acts act still.0));
        taken_is = n.taken_is;
        again_is = subst (λ (l : List Frames). t.again ≡ Some (drop (length l) (topics_said (topics_taken (taken_before closed))))) (sym (none_more repeated_by acts act still.1)) n.again_is;
      },
    )
