-- A message that comes by turn is one: the oldest of the first end that has any.
use Rattle.std.proofs.Common.{◌≡◌, ◌∙◌, inl, inr, ◌⊎◌, ℕ, List, [], ◌∷◌, ◌++◌, Option, Some, None, refl, sym, subst, ap}
use Rattle.std.specs.Option.{option_map}
use Rattle.zq_base.specs.Message.{Frames}
use Rattle.zq_base.specs.Ends.{PipeId}
use Rattle.zq_base.specs.declared.ids.PairId.{PairId}
use Rattle.spec_pattern.specs.PipeStep.{PipeStep, Take, read_through, AreExact}
use Rattle.spec_pattern.specs.TurnList.{End, GivesNone, EachGivesNone, ComesIn, NoneHasMessage}
use Rattle.spec_pattern.specs.Drops.{Round, Comes}
use Rattle.spec_pattern.proofs.StepLemmas.{SameEnd, IsSettled, take_or_none, one_look, one_taken, step_more}
use Rattle.spec_pattern.proofs.OutLemmas.{Place, behind, turns_from}

-- the place of the end that served, and the message that it gave
pub record Found : Type 0 where
  pub place : Place
  pub message : Frames

abbrev pub found_behind : End → Found → Found
found_behind e f = record { place = behind e f.place; message = f.message }

abbrev pub found_at : List End → End → List End → Frames → Found
found_at b p a m = record { place = record { before = b; peer = p; after = a }; message = m }

-- a look at one end after the other, until one gives a message
abbrev pub ComesAlong : List End → List PipeStep → Option Found → Type 0
ComesAlong [] steps found = (steps ≡ []) × (found ≡ None)
ComesAlong (t ∷ ts) steps found =
    ((m : Frames) × (steps ≡ Take (read_through t) m ∷ []) × (found ≡ Some (found_at [] t ts m)))
    ⊎ ((look : PipeStep) × (rest : List PipeStep) × (f : Option Found)
    × GivesNone t look × ComesAlong ts rest f × (steps ≡ look ∷ rest) × (found ≡ option_map (found_behind t) f))

-- a message that comes, and one that doesn't, so look along
along_to : (b : List End) (p : End) (a : List End) (looks : List PipeStep) (m : Frames) → EachGivesNone b looks
    → ComesAlong (b ++ p ∷ a) (looks ++ Take (read_through p) m ∷ []) (Some (found_at b p a m))
along_to [] p a looks m none = inl (m, ap (λ l. l ++ Take (read_through p) m ∷ []) none, refl)
along_to (s ∷ b) p a looks m (look, rest, is, here, others) =
    inr (look, rest ++ Take (read_through p) m ∷ [], Some (found_at b p a m), here, along_to b p a rest m others, ap (λ l. l ++ Take (read_through p) m ∷ []) is, refl)

along_none : (ts : List End) (looks : List PipeStep) → EachGivesNone ts looks → ComesAlong ts looks None
along_none [] looks none = (none, refl)
along_none (t ∷ ts) looks (look, rest, is, here, others) = inr (look, rest, None, here, along_none ts rest others, is, refl)

-- what a message that came by turn was found as
abbrev pub found_of : (turns : List End) (steps : List PipeStep) (m : Frames) (from_ : PairId) (new : List End) → ComesIn turns steps m from_ new → Found
found_of turns steps m from_ new g = found_at g.before g.peer g.after m

in_along : (turns : List End) (steps : List PipeStep) (m : Frames) (from_ : PairId) (new : List End) → (g : ComesIn turns steps m from_ new)
    → ComesAlong turns steps (Some (found_of turns steps m from_ new g))
in_along turns steps m from_ new g =
    subst (λ l. ComesAlong l steps (Some (found_of turns steps m from_ new g))) (sym g.turns_are)
    (subst (λ l. ComesAlong (g.before ++ g.peer ∷ g.after) l (Some (found_of turns steps m from_ new g))) (sym g.steps_are) (along_to g.before g.peer g.after g.looks m g.looks_are))

-- what came of a look along: the round, and the turns after
abbrev round_of : Found → Round
round_of f = record { peer = f.place.peer; message = f.message }

-- a message that came by turn, and the turns after
abbrev pub ComesBy : List End → List PipeStep → Round × List End → Type 0
ComesBy turns steps end_ = Comes turns end_.0 steps end_.1

one_round : (r s : Round) → r.peer ≡ s.peer → r.message ≡ s.message → r ≡ s
one_round r s p m = λ i. record { peer = p i; message = m i }

-- two capacities
module _ (c d : PipeId → ℕ) where
  along_settled : (ts : List End) → IsSettled c d (ComesAlong ts)
  along_settled [] past xs ys a b g h x y = record { same_steps = g.0 ∙ sym h.0; same_end = g.1 ∙ sym h.1 }
  along_settled (t ∷ ts) past xs ys a b (inl (m, is, at_it)) (inl (n, is2, at_it2)) x y =
      let same : m ≡ n = one_taken c d past (read_through t) m n (subst (AreExact c past) is x).0 (subst (AreExact d past) is2 y).0 in
      record {
        same_steps = is ∙ ap (λ k. Take (read_through t) k ∷ []) same ∙ sym is2;
        same_end = at_it ∙ ap (λ k. Some (found_at [] t ts k)) same ∙ sym at_it2;
      }
  along_settled (t ∷ ts) past xs ys a b (inl (m, is, at_it)) (inr (look, rest, f, here, on, is2, at_it2)) x y =
      absurd (take_or_none c d past t m look (subst (AreExact c past) is x).0 (subst (AreExact d past) is2 y).0 here)
  along_settled (t ∷ ts) past xs ys a b (inr (look, rest, f, here, on, is, at_it)) (inl (m, is2, at_it2)) x y =
      absurd (take_or_none d c past t m look (subst (AreExact d past) is2 y).0 (subst (AreExact c past) is x).0 here)
  along_settled (t ∷ ts) past xs ys a b (inr (look, rest, f, here, on, is, at_it)) (inr (look2, rest2, f2, here2, on2, is2, at_it2)) x y =
      let one : look ≡ look2 = one_look c d past t look look2 (subst (AreExact c past) is x).0 (subst (AreExact d past) is2 y).0 here here2 in
      let more = step_more c d (option_map (found_behind t)) past xs ys rest rest2 look look2 f f2 one is is2
      (λ u v. along_settled ts (past ++ look ∷ []) rest rest2 f f2 on on2 u v) x y in
      record { same_steps = more.same_steps; same_end = at_it ∙ more.same_end ∙ sym at_it2 }

  -- a message that came by turn: from which end, and the turns after
  pub in_settled : (turns : List End) (past xs ys : List PipeStep) (m n : Frames) (from_ from2 : PairId) (new new2 : List End)
      → (g : ComesIn turns xs m from_ new) → (h : ComesIn turns ys n from2 new2) → AreExact c past xs → AreExact d past ys
      → SameEnd xs (found_of turns xs m from_ new g) ys (found_of turns ys n from2 new2 h)
  in_settled turns past xs ys m n from_ from2 new new2 g h x y =
      let one = along_settled turns past xs ys _ _ (in_along turns xs m from_ new g) (in_along turns ys n from2 new2 h) x y in
      let same = one.same_end in
      record { same_steps = one.same_steps; same_end = cc }

  pub in_or_none : (turns : List End) (past xs ys : List PipeStep) (m : Frames) (from_ : PairId) (new new2 : List End)
      → ComesIn turns xs m from_ new → NoneHasMessage turns ys new2 → AreExact c past xs → AreExact d past ys → ⊥
  in_or_none turns past xs ys m from_ new new2 g h x y =
      let one = along_settled turns past xs ys _ _ (in_along turns xs m from_ new g) (along_none turns ys h.looks_are) x y in
      let same = one.same_end in
      cc

  -- no message
  pub none_settled : (turns : List End) → IsSettled c d (NoneHasMessage turns)
  none_settled turns past xs ys new new2 g h x y =
      let one = along_settled turns past xs ys None None (along_none turns xs g.looks_are) (along_none turns ys h.looks_are) x y in
      record { same_steps = one.same_steps; same_end = g.new_is ∙ sym h.new_is }

  pub comes_settled : (turns : List End) → IsSettled c d (ComesBy turns)
  comes_settled turns past xs ys (r, new) (s, new2) g h x y =
      let one = in_settled turns past xs ys r.message s.message r.peer.pair s.peer.pair new new2 g.by_turn h.by_turn x y in
      let round : r ≡ s = one_round r s (sym g.peer_is ∙ ap (λ (f : Found). f.place.peer) one.same_end ∙ h.peer_is) (ap (λ (f : Found). f.message) one.same_end) in
      let turns_are : new ≡ new2 = g.by_turn.new_is ∙ ap (λ (f : Found). turns_from f.place) one.same_end ∙ sym h.by_turn.new_is in
      record { same_steps = one.same_steps; same_end = λ i. (round i, turns_are i) }

  pub comes_or_none : (turns : List End) (past xs ys : List PipeStep) (r : Round) (new new2 : List End)
      → Comes turns r xs new → NoneHasMessage turns ys new2 → AreExact c past xs → AreExact d past ys → ⊥
  comes_or_none turns past xs ys r new new2 g h x y = in_or_none turns past xs ys r.message r.peer.pair new new2 g.by_turn h x y
