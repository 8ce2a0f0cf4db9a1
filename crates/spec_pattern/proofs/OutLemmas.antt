-- A message that goes out by turn goes to one end: the first that can be written and has room.
use Rattle.std.proofs.Common.{◌≡◌, ◌∙◌, inl, inr, ◌⊎◌, ℕ, List, [], ◌∷◌, ◌++◌, Bool, true, false, Option, Some, None, All, map, refl, sym, subst, ap, cond}
use Rattle.std.specs.Prelude.{filter}
use Rattle.std.proofs.lemmas.List.Elements.{All-head, All-tail}
use Rattle.std.specs.Option.{option_map}
use Rattle.zq_base.specs.Message.{Frames}
use Rattle.zq_base.specs.Ends.{PipeId}
use Rattle.zq_base.specs.declared.ids.PairId.{PairId}
use Rattle.spec_pattern.specs.PipeStep.{PipeStep, Commit, FullLook, AreExact}
use Rattle.spec_pattern.specs.TurnList.{End, turns_after, full_at, GoesOut, NoneHasRoom}
use Rattle.spec_pattern.proofs.StepLemmas.{SameEnd, IsSettled, room_or_full, step_more}

-- a place in a turn list
pub record Place : Type 0 where
  pub before : List End
  pub peer : End
  pub after : List End

-- one end more before it
abbrev pub behind : End → Place → Place
behind e p = record { before = e ∷ p.before; peer = p.peer; after = p.after }

-- the turn list once the end of this place served
abbrev pub turns_from : Place → List End
turns_from p = turns_after p.before p.peer p.after

-- a look at one end after the other, where it can be written, until one has room
abbrev pub GoesAt : Bool → Frames → End → List End → (List PipeStep → Option Place → Type 0) → List PipeStep → Option Place → Type 0
GoesAt false m t ts Rest steps place = (p : Option Place) × Rest steps p × (place ≡ option_map (behind t) p)
GoesAt true m t ts Rest steps place =
    ((steps ≡ Commit t m ∷ []) × (place ≡ Some (record { before = []; peer = t; after = ts })))
    ⊎ ((rest : List PipeStep) × (p : Option Place) × Rest rest p × (steps ≡ FullLook t ∷ rest) × (place ≡ option_map (behind t) p))

abbrev pub GoesAlong : (End → Bool) → Frames → List End → List PipeStep → Option Place → Type 0
GoesAlong w m [] steps place = (steps ≡ []) × (place ≡ None)
GoesAlong w m (t ∷ ts) steps place = GoesAt (w t) m t ts (GoesAlong w m ts) steps place

-- a message that goes out, and one that doesn't, so look along
along_to : (w : End → Bool) (m : Frames) (b : List End) (p : End) (a : List End) → w p ≡ true
    → GoesAlong w m (b ++ p ∷ a) (map full_at (filter w b) ++ Commit p m ∷ []) (Some (record { before = b; peer = p; after = a }))
along_to w m [] p a can = subst (λ x. GoesAt x m p a (GoesAlong w m a) (Commit p m ∷ []) (Some (record { before = []; peer = p; after = a }))) (sym can) (inl (refl, refl))
along_to w m (s ∷ b) p a can = by (w s) (along_to w m b p a can)
  where
    by : (x : Bool) → GoesAlong w m (b ++ p ∷ a) (map full_at (filter w b) ++ Commit p m ∷ []) (Some (record { before = b; peer = p; after = a }))
        → GoesAt x m s (b ++ p ∷ a) (GoesAlong w m (b ++ p ∷ a)) (map full_at (cond x (s ∷ filter w b) (filter w b)) ++ Commit p m ∷ []) (Some (record { before = s ∷ b; peer = p; after = a }))
    by true on = inr (_, _, on, refl, refl)
    by false on = (_, on, refl)

along_none : (w : End → Bool) (m : Frames) (ts : List End) → GoesAlong w m ts (map full_at (filter w ts)) None
along_none w m [] = (refl, refl)
along_none w m (t ∷ ts) = by (w t) (along_none w m ts)
  where
    by : (x : Bool) → GoesAlong w m ts (map full_at (filter w ts)) None → GoesAt x m t ts (GoesAlong w m ts) (map full_at (cond x (t ∷ filter w ts) (filter w ts))) None
    by true on = inr (_, _, on, refl, refl)
    by false on = (_, on, refl)

abbrev pub place_of : (w : End → Bool) (m : Frames) (turns : List End) (steps : List PipeStep) (to : PairId) (new : List End) → GoesOut w m turns steps to new → Place
place_of w m turns steps to new g = record { before = g.before; peer = g.peer; after = g.after }

out_along : (w : End → Bool) (m : Frames) (turns : List End) (steps : List PipeStep) (to : PairId) (new : List End) → (g : GoesOut w m turns steps to new)
    → GoesAlong w m turns steps (Some (place_of w m turns steps to new g))
out_along w m turns steps to new g =
    subst (λ l. GoesAlong w m l steps (Some (place_of w m turns steps to new g))) (sym g.turns_are)
    (subst (λ l. GoesAlong w m (g.before ++ g.peer ∷ g.after) l (Some (place_of w m turns steps to new g))) (sym g.steps_are) (along_to w m g.before g.peer g.after g.open_is))

none_along : (w : End → Bool) (m : Frames) (turns : List End) (steps : List PipeStep) (new : List End) → NoneHasRoom w turns steps new → GoesAlong w m turns steps None
none_along w m turns steps new g = subst (λ l. GoesAlong w m turns l None) (sym g.steps_are) (along_none w m turns)

-- two capacities, and ends at which they agree
module _ (c d : PipeId → ℕ) where
  along_settled : (w : End → Bool) (m : Frames) (ts : List End) → All (λ e. c e ≡ d e) ts → IsSettled c d (GoesAlong w m ts)
  along_settled w m [] agree past xs ys a b g h x y = record { same_steps = g.0 ∙ sym h.0; same_end = g.1 ∙ sym h.1 }
  along_settled w m (t ∷ ts) agree past xs ys a b g h x y = at (along_settled w m ts (All-tail (λ e. c e ≡ d e) t ts agree)) (w t) g h
    where
      at : IsSettled c d (GoesAlong w m ts) → (o : Bool) → GoesAt o m t ts (GoesAlong w m ts) xs a → GoesAt o m t ts (GoesAlong w m ts) ys b → SameEnd xs a ys b
      at rest_settled false (p, on, is) (q, on2, is2) =
          let same = rest_settled past xs ys p q on on2 x y in
          record { same_steps = same.same_steps; same_end = is ∙ ap (option_map (behind t)) same.same_end ∙ sym is2 }
      at rest_settled true (inl (is, at_it)) (inl (is2, at_it2)) = record { same_steps = is ∙ sym is2; same_end = at_it ∙ sym at_it2 }
      at rest_settled true (inl (is, at_it)) (inr (rest, q, on2, is2, at_it2)) =
          absurd (room_or_full c d past t m (All-head (λ e. c e ≡ d e) t ts agree) (subst (AreExact c past) is x).0 (subst (AreExact d past) is2 y).0)
      at rest_settled true (inr (rest, p, on, is, at_it)) (inl (is2, at_it2)) =
          absurd (room_or_full d c past t m (sym (All-head (λ e. c e ≡ d e) t ts agree)) (subst (AreExact d past) is2 y).0 (subst (AreExact c past) is x).0)
      at rest_settled true (inr (rest, p, on, is, at_it)) (inr (rest2, q, on2, is2, at_it2)) =
          let more = step_more c d (option_map (behind t)) past xs ys rest rest2 (FullLook t) (FullLook t) p q refl is is2
          (λ u v. rest_settled (past ++ FullLook t ∷ []) rest rest2 p q on on2 u v) x y in
          record { same_steps = more.same_steps; same_end = at_it ∙ more.same_end ∙ sym at_it2 }

  -- a send by turn: to which place, or to none
  pub out_settled : (w : End → Bool) (m : Frames) (turns : List End) → All (λ e. c e ≡ d e) turns → (past xs ys : List PipeStep) (to to2 : PairId) (new new2 : List End)
      → (g : GoesOut w m turns xs to new) → (h : GoesOut w m turns ys to2 new2) → AreExact c past xs → AreExact d past ys
      → SameEnd xs (place_of w m turns xs to new g) ys (place_of w m turns ys to2 new2 h)
  out_settled w m turns agree past xs ys to to2 new new2 g h x y =
      let one = along_settled w m turns agree past xs ys _ _ (out_along w m turns xs to new g) (out_along w m turns ys to2 new2 h) x y in
      let same = one.same_end in
      record { same_steps = one.same_steps; same_end = cc }

  pub out_or_none : (w : End → Bool) (m : Frames) (turns : List End) → All (λ e. c e ≡ d e) turns → (past xs ys : List PipeStep) (to : PairId) (new new2 : List End)
      → GoesOut w m turns xs to new → NoneHasRoom w turns ys new2 → AreExact c past xs → AreExact d past ys → ⊥
  out_or_none w m turns agree past xs ys to new new2 g h x y =
      let one = along_settled w m turns agree past xs ys _ _ (out_along w m turns xs to new g) (none_along w m turns ys new2 h) x y in
      let same = one.same_end in
      cc
