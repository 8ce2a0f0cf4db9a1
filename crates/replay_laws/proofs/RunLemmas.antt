-- What a run does, turn by turn, is settled by the script, the seed and the limit of turns.
use Rattle.std.specs.Prelude.{◌≡◌, ◌<◌, ◌≤◌, ◌+◌, ◌-◌, ℕ, zero, suc, Bool, true, false, List, [], ◌∷◌, ◌++◌, flat_map, length, map, refl}
use Rattle.std.proofs.Common.{arith, sym, ap, ◌∙◌, subst, append-nil, append_assoc, inl, inr}
use Rattle.std.specs.List.{range_with_len, remove}
use Rattle.std.proofs.lemmas.Bool.{ltb-true, ltb-false}
use Rattle.std.specs.Prelude.{nat_lt, slice_get, Some, None}
use Rattle.zq_base.specs.Ends.{PipeId}
use Rattle.spec_pattern.specs.PipeStep.{PipeStep}
use Rattle.spec_control.specs.declared.entry.SeenEmpty.TheVariants.{Nothing}
use Rattle.spec_control.specs.Control.{Control}
use Rattle.spec_control.specs.Reply.{root_state}
use Rattle.spec_control.specs.ControlRun.{IsSeen, FitsItem}
use Rattle.spec_run.specs.Turn.{next_number, choice, Chooses, IsOrder}
use Rattle.spec_control.specs.Moments.{Moment}
use Rattle.spec_run.specs.Act.{Act, Said, Deed, Tries, Shuts, Fetches, Idles, Works, Looks, AsksRoot, Reads, steps_in, all_acts}
use Rattle.spec_run.specs.Event.{IsLookAt}
use Rattle.spec_run.specs.Standing.{ActorStanding}
use Rattle.spec_run.specs.InTurns.{OneTurn, is_ended, Begins, AllStep, TurnsGo, turn_step, Draws, turn_sequence, turns_sequence}
use Rattle.zq_world.specs.Turning.{times}
use Rattle.zq_world.proofs.OrderLemmas.{each_once, at_most_once}
use Rattle.replay_laws.specs.Blank.{blank}
use Rattle.replay_laws.proofs.WalkLemmas.{leaves, Walks, leaves_on, walks_front, walks_behind, Reached, reached_on, Same, same_both, same_as}
use Rattle.replay_laws.proofs.LookLemmas.{behind_walks}
use Rattle.replay_laws.proofs.TryLemmas.{Ahead, ahead_before}
use Rattle.replay_laws.proofs.LineLemmas.{EachStands}
use Rattle.replay_laws.proofs.KeepLemmas.{each_aside}
use Rattle.replay_laws.proofs.StepLemmas.{bare, same_look, begins_same}
use Rattle.replay_laws.proofs.TurnLemmas.{no_actor, at_place, works_of, as_many, acts_on, workers_lock}

-- the order of a turn, and the number drawn last, are one
chosen_one : (x : ℕ) (left ws vs : List ℕ) (after after2 : ℕ) → Chooses x left ws after → Chooses x left vs after2 → (ws ≡ vs) × (after ≡ after2)
chosen_one x left [] [] after after2 g h = (refl, g.1 ∙ sym h.1)
chosen_one x left [] (v ∷ vs) after after2 g h =
    let none : slice_get left (choice (next_number x) (length left)) ≡ None = ap (λ (l : List ℕ). slice_get l (choice (next_number x) (length left))) g.0 in absurd (cc)
chosen_one x left (w ∷ ws) [] after after2 g h =
    let none : slice_get left (choice (next_number x) (length left)) ≡ None = ap (λ (l : List ℕ). slice_get l (choice (next_number x) (length left))) h.0 in absurd (cc)
chosen_one x left (w ∷ ws) (v ∷ vs) after after2 g h =
    let first : Some w ≡ Some v = sym g.0 ∙ h.0 in
    let same : w ≡ v = cc in
    let on = chosen_one (next_number x) (remove left (choice (next_number x) (length left))) ws vs after after2 g.1 h.1 in
    let rest = on.0 in
    (cc, on.1)

drawn_one : (seed x : ℕ) (workers ws vs : List ℕ) (after after2 : ℕ) → IsOrder seed x workers ws after → IsOrder seed x workers vs after2 → (ws ≡ vs) × (after ≡ after2)
drawn_one seed x workers ws vs after after2 (inl g) (inl h) = (g.1 ∙ sym h.1, g.2 ∙ sym h.2)
drawn_one seed x workers ws vs after after2 (inl g) (inr h) = absurd (h.0 g.0)
drawn_one seed x workers ws vs after after2 (inr g) (inl h) = absurd (g.0 h.0)
drawn_one seed x workers ws vs after after2 (inr g) (inr h) = chosen_one x workers ws vs after after2 g.1 h.1

-- two lists that agree at each place are one
same_places : (xs ys : List ActorStanding) → length xs ≡ length ys → ((w : ℕ) → w < length xs → at_place xs w ≡ at_place ys w) → xs ≡ ys
same_places [] [] e f = refl
same_places [] (y ∷ ys) e f = absurd (omega (arith, e))
same_places (x ∷ xs) [] e f = absurd (omega (arith, e))
same_places (x ∷ xs) (y ∷ ys) e f =
    let first : x ≡ y = f 0 (omega arith) in
    let rest = same_places xs ys (omega (arith, e)) (λ w lt. f (suc w) (omega (arith, lt))) in
    λ i. first i ∷ rest i

pub past_end : (xs : List ActorStanding) (w : ℕ) → length xs ≤ w → at_place xs w ≡ no_actor
past_end [] w le = refl
past_end (x ∷ xs) zero le = absurd (omega (arith, le))
past_end (x ∷ xs) (suc w) le = past_end xs w (omega (arith, le))

module _ {N S : Type 0} where
  -- ---- one turn
  pub record TurnSame (c d : Control) (count : ℕ) (news news2 : List ActorStanding) (order : List ℕ) (t u : OneTurn N S) : Type 0 where
    pub same : Same c d (all_acts (turn_sequence order t)) (all_acts (turn_sequence order u))
    pub standings : news ≡ news2
    pub each : (w : ℕ) → EachStands (leaves c (all_acts (turn_sequence order t))) (at_place news w).mine.socks
    pub each_too : (w : ℕ) → EachStands (leaves d (all_acts (turn_sequence order u))) (at_place news w).mine.socks
    pub begins : map bare t.begins ≡ map bare u.begins
    pub workers : (w : ℕ) → w < count → map bare (turn_step w t) ≡ map bare (turn_step w u)

  pub turn_acts : (order : List ℕ) (t : OneTurn N S) → all_acts (turn_sequence order t) ≡ all_acts t.begins ++ all_acts (flat_map (λ w. turn_step w t) order)
  turn_acts order t =
      acts_on t.begins (flat_map (λ w. turn_step w t) order ++ Reads t.reading ∷ [])
      ∙ ap (λ l. all_acts t.begins ++ l) (acts_on (flat_map (λ w. turn_step w t) order) (Reads t.reading ∷ []) ∙ append-nil (all_acts (flat_map (λ w. turn_step w t) order)))

  turn_same : (cap cup : PipeId → ℕ) (io : ℕ) (seed x after : ℕ) (order : List ℕ) (c d : Control) (past : List PipeStep) (olds news news2 : List ActorStanding) (t u : OneTurn N S) → Reached N S c → Reached N S d → blank c ≡ blank d
      → IsOrder seed x (range_with_len 0 (length olds + 1 + io)) order after
      → ((w : ℕ) → EachStands c (at_place olds w).mine.socks) → ((w : ℕ) → EachStands d (at_place olds w).mine.socks)
      → Walks cap c past (all_acts (turn_sequence order t)) → Walks cup d past (all_acts (turn_sequence order u)) → Ahead N S cap (leaves c (all_acts (turn_sequence order t))) → Ahead N S cup (leaves d (all_acts (turn_sequence order u)))
      → Begins olds t.begins → Begins olds u.begins → AllStep io olds t.steps news → AllStep io olds u.steps news2
      → TurnSame c d (length olds + 1 + io) news news2 order t u
  turn_same cap cup io seed x after order c d past olds news news2 t u r q p drawn each each_too walk walk_too ahead ahead_too begin begin2 go go2 =
      let step : ℕ → List (Deed N S) = λ w. turn_step w t in
      let step2 : ℕ → List (Deed N S) = λ w. turn_step w u in
      let is = turn_acts order t in
      let is2 = turn_acts order u in
      let xs = all_acts t.begins in
      let ys = all_acts u.begins in
      let us = all_acts (flat_map step order) in
      let vs = all_acts (flat_map step2 order) in
      let w1 = subst (Walks cap c past) is walk in
      let w2 = subst (Walks cup d past) is2 walk_too in
      let front = walks_front cap xs us c past w1 in
      let front2 = walks_front cup ys vs d past w2 in
      let behind = walks_behind cap xs us c past w1 in
      let r1 = reached_on cap xs c past r front in
      let q1 = reached_on cup ys d past q front2 in
      let first = begins_same cap cup c d past olds t.begins u.begins p front front2 begin begin2 in
      let behind2 = behind_walks cup c d past xs ys vs first.same w2 in
      let many = length olds + 1 + io in
      let lock = workers_lock cap cup order (leaves c xs) (leaves d ys) (past ++ steps_in xs) olds news news2 step step2 r1 q1 first.same.states
      (λ w. at_most_once w many seed x order after drawn)
      (λ w e. each_aside cap xs c past r front (at_place olds w).mine.socks (each w)) (λ w e. each_aside cup ys d past q front2 (at_place olds w).mine.socks (each_too w))
      behind behind2 (subst (Ahead N S cap) (ap (leaves c) is ∙ leaves_on xs us c) ahead) (subst (Ahead N S cup) (ap (leaves d) is2 ∙ leaves_on ys vs d) ahead_too)
      (works_of io olds t.steps news go) (works_of io olds u.steps news2 go2) in
      let count = as_many io olds t.steps news go in
      let count2 = as_many io olds u.steps news2 go2 in
      let once : (w : ℕ) → w < many → times w order ≡ 1 = λ w lt. each_once w many seed x order after drawn lt in
      record {
        same = same_as c d _ _ (xs ++ us) (ys ++ vs) is is2 (same_both c d xs ys us vs first.same lock.same);
        standings = same_places news news2 (count ∙ sym count2) (λ w lt. lock.news_are w (once w (omega (arith, lt, count))) (omega (arith, lt, count)));
        each = λ w. subst (λ (z : Control). EachStands z (at_place news w).mine.socks) (sym (ap (leaves c) is ∙ leaves_on xs us c))
            (all_stand (leaves (leaves c xs) us) news w (λ lt. lock.each w (once w (omega (arith, lt, count))) (omega (arith, lt, count))));
        each_too = λ w. subst (λ (z : Control). EachStands z (at_place news w).mine.socks) (sym (ap (leaves d) is2 ∙ leaves_on ys vs d))
            (all_stand (leaves (leaves d ys) vs) news w (λ lt. lock.each_too w (once w (omega (arith, lt, count))) (omega (arith, lt, count))));
        begins = first.bares;
        workers = λ w lt. lock.bares w (once w lt);
      }
    where
      all_stand : (z : Control) (standings : List ActorStanding) (w : ℕ) → (w < length standings → EachStands z (at_place standings w).mine.socks) → EachStands z (at_place standings w).mine.socks
      all_stand z standings w f = by (nat_lt w (length standings)) refl
        where
          by : (b : Bool) → nat_lt w (length standings) ≡ b → EachStands z (at_place standings w).mine.socks
          by true e = f (ltb-true w (length standings) e)
          by false e = subst (λ (k : ActorStanding). EachStands z k.mine.socks) (sym (past_end standings w (ltb-false w (length standings) e))) tt

  -- ---- all turns, and the look behind them
  pub record TurnsSame (c d : Control) (count : ℕ) (xs ys : List (Act N S)) (ts us : List (OneTurn N S)) : Type 0 where
    pub same : Same c d xs ys
    pub begins : map (λ turn. map bare turn.begins) ts ≡ map (λ turn. map bare turn.begins) us
    pub workers : (w : ℕ) → w < count → map (λ turn. map bare (turn_step w turn)) ts ≡ map (λ turn. map bare (turn_step w turn)) us

  -- a turn that begins finds that the root has not ended
  pub goes_on : (cap : PipeId → ℕ) (c : Control) (past : List PipeStep) (olds : List ActorStanding) (ds : List (Deed N S)) → Begins olds ds → Walks cap c past (all_acts ds) → is_ended (root_state c) ≡ false
  goes_on cap c past olds (Looks m ∷ asks) f w =
      let seen : IsSeen c f.look.sight = subst (FitsItem c) f.look.item_is w.1 in
      ap is_ended (sym seen.root) ∙ f.goes_on
  goes_on cap c past olds [] f w = absurd f
  goes_on cap c past olds (Tries t ∷ asks) f w = absurd f
  goes_on cap c past olds (Shuts acts ∷ asks) f w = absurd f
  goes_on cap c past olds (Fetches slot acts ∷ asks) f w = absurd f
  goes_on cap c past olds (Idles m ∷ asks) f w = absurd f
  goes_on cap c past olds (Works acts ∷ asks) f w = absurd f
  goes_on cap c past olds (AsksRoot acts ∷ asks) f w = absurd f
  goes_on cap c past olds (Reads now ∷ asks) f w = absurd f

  -- so no run stops where another of the same limit goes on
  no_stop : {A : Type 0} (cap cup : PipeId → ℕ) (c d : Control) (past : List PipeStep) (olds : List ActorStanding) (ds : List (Deed N S)) (more : List (Act N S)) (m : Moment N S) (look : IsLookAt Nothing m) (left_over count : ℕ) → blank c ≡ blank d
      → Walks cap c past (Said m ∷ []) → Walks cup d past (all_acts ds ++ more) → Begins olds ds → (is_ended look.sight.root ≡ false → zero ≡ left_over) → suc count ≤ left_over → A
  no_stop cap cup c d past olds ds more m look left_over count p w w2 begin over few =
      let seen : IsSeen c look.sight = subst (FitsItem c) look.item_is w.1 in
      let live = goes_on cup d past olds ds begin (walks_front cup (all_acts ds) more d past w2) in
      let none = over (ap is_ended (seen.root ∙ ap root_state p) ∙ live) in
      absurd (omega (arith, none, few))

  -- a turn's acts come before those of the turns behind it
  turn_first : (order : List ℕ) (t : OneTurn N S) (orders : List (List ℕ)) (ts : List (OneTurn N S)) (last : Moment N S)
      → all_acts (turns_sequence (order ∷ orders) (t ∷ ts)) ++ Said last ∷ [] ≡ all_acts (turn_sequence order t) ++ (all_acts (turns_sequence orders ts) ++ Said last ∷ [])
  turn_first order t orders ts last =
      ap (λ l. l ++ Said last ∷ []) (acts_on (turn_sequence order t) (turns_sequence orders ts)) ∙ append_assoc (all_acts (turn_sequence order t)) (all_acts (turns_sequence orders ts)) (Said last ∷ [])

  -- and what begins it comes first
  abbrev behind_begin : List ℕ → OneTurn N S → List (List ℕ) → List (OneTurn N S) → Moment N S → List (Act N S)
  behind_begin order t orders ts last = all_acts (flat_map (λ w. turn_step w t) order) ++ (all_acts (turns_sequence orders ts) ++ Said last ∷ [])

  begin_first : (order : List ℕ) (t : OneTurn N S) (orders : List (List ℕ)) (ts : List (OneTurn N S)) (last : Moment N S)
      → all_acts (turns_sequence (order ∷ orders) (t ∷ ts)) ++ Said last ∷ [] ≡ all_acts t.begins ++ behind_begin order t orders ts last
  begin_first order t orders ts last =
      turn_first order t orders ts last ∙ ap (λ l. l ++ (all_acts (turns_sequence orders ts) ++ Said last ∷ [])) (turn_acts order t)
      ∙ append_assoc (all_acts t.begins) (all_acts (flat_map (λ w. turn_step w t) order)) (all_acts (turns_sequence orders ts) ++ Said last ∷ [])

  pub turns_same : (cap cup : PipeId → ℕ) (io : ℕ) (seed x left_over : ℕ) (ts us : List (OneTurn N S)) (orders orders2 : List (List ℕ)) (c d : Control) (past : List PipeStep) (olds news news2 : List ActorStanding) (count : ℕ) (last last2 : Moment N S)
      (look : IsLookAt Nothing last) (look2 : IsLookAt Nothing last2) → count ≡ length olds → Reached N S c → Reached N S d → blank c ≡ blank d
      → ((w : ℕ) → EachStands c (at_place olds w).mine.socks) → ((w : ℕ) → EachStands d (at_place olds w).mine.socks)
      → Draws seed (range_with_len 0 (count + 1 + io)) x ts orders → Draws seed (range_with_len 0 (count + 1 + io)) x us orders2
      → Walks cap c past (all_acts (turns_sequence orders ts) ++ Said last ∷ []) → Walks cup d past (all_acts (turns_sequence orders2 us) ++ Said last2 ∷ [])
      → Ahead N S cap (leaves c (all_acts (turns_sequence orders ts) ++ Said last ∷ [])) → Ahead N S cup (leaves d (all_acts (turns_sequence orders2 us) ++ Said last2 ∷ []))
      → TurnsGo io olds ts news → TurnsGo io olds us news2
      → length ts ≤ left_over → length us ≤ left_over → (is_ended look.sight.root ≡ false → length ts ≡ left_over) → (is_ended look2.sight.root ≡ false → length us ≡ left_over)
      → TurnsSame c d (count + 1 + io) (all_acts (turns_sequence orders ts) ++ Said last ∷ []) (all_acts (turns_sequence orders2 us) ++ Said last2 ∷ []) ts us
  turns_same cap cup io seed x left_over [] [] orders orders2 c d past olds news news2 count last last2 look look2 many r q p each each_too drawn drawn2 walk walk_too ahead ahead_too go go2 few few2 over over2 =
      let none : all_acts (turns_sequence orders ts_none) ≡ [] = ap (λ o. all_acts (turns_sequence o ts_none)) drawn in
      let none2 : all_acts (turns_sequence orders2 ts_none) ≡ [] = ap (λ o. all_acts (turns_sequence o ts_none)) drawn2 in
      record {
        same = same_as c d _ _ (Said last ∷ []) (Said last2 ∷ []) (ap (λ l. l ++ Said last ∷ []) none) (ap (λ l. l ++ Said last2 ∷ []) none2) (same_look c d last last2 look.sight look2.sight look.item_is look2.item_is p);
        begins = refl;
        workers = λ w lt. refl;
      }
    where
      ts_none : List (OneTurn N S)
      ts_none = []
  turns_same cap cup io seed x left_over [] (u ∷ us) orders [] c d past olds news news2 count last last2 look look2 many r q p each each_too drawn drawn2 walk walk_too ahead ahead_too go go2 few few2 over over2 = absurd drawn2
  turns_same cap cup io seed x left_over [] (u ∷ us) orders (order2 ∷ orders2) c d past olds news news2 count last last2 look look2 many r q p each each_too drawn drawn2 walk walk_too ahead ahead_too go go2 few few2 over over2 =
      no_stop cap cup c d past olds u.begins (behind_begin order2 u orders2 us last2) last look left_over (length us) p
      (subst (Walks cap c past) (ap (λ o. all_acts (turns_sequence {N = N} {S = S} o []) ++ Said last ∷ []) drawn) walk)
      (subst (Walks cup d past) (begin_first order2 u orders2 us last2) walk_too) go2.0 over few2
  turns_same cap cup io seed x left_over (t ∷ ts) [] [] orders2 c d past olds news news2 count last last2 look look2 many r q p each each_too drawn drawn2 walk walk_too ahead ahead_too go go2 few few2 over over2 = absurd drawn
  turns_same cap cup io seed x left_over (t ∷ ts) [] (order ∷ orders) orders2 c d past olds news news2 count last last2 look look2 many r q p each each_too drawn drawn2 walk walk_too ahead ahead_too go go2 few few2 over over2 =
      no_stop cup cap d c past olds t.begins (behind_begin order t orders ts last) last2 look2 left_over (length ts) (sym p)
      (subst (Walks cup d past) (ap (λ o. all_acts (turns_sequence {N = N} {S = S} o []) ++ Said last2 ∷ []) drawn2) walk_too)
      (subst (Walks cap c past) (begin_first order t orders ts last) walk) go.0 over2 few
  turns_same cap cup io seed x left_over (t ∷ ts) (u ∷ us) [] orders2 c d past olds news news2 count last last2 look look2 many r q p each each_too drawn drawn2 walk walk_too ahead ahead_too go go2 few few2 over over2 = absurd drawn
  turns_same cap cup io seed x left_over (t ∷ ts) (u ∷ us) (order ∷ orders) [] c d past olds news news2 count last last2 look look2 many r q p each each_too drawn drawn2 walk walk_too ahead ahead_too go go2 few few2 over over2 = absurd drawn2
  turns_same cap cup io seed x left_over (t ∷ ts) (u ∷ us) (order ∷ orders) (order2 ∷ orders2) c d past olds news news2 count last last2 look look2 many r q p each each_too (after, is_order, drawn) (after2, is_order2, drawn2) walk walk_too ahead ahead_too
      (begin, (mid, step, go)) (begin2, (mid2, step2, go2)) few few2 over over2 =
      let ones = drawn_one seed x (range_with_len 0 (count + 1 + io)) order order2 after after2 is_order is_order2 in
      let xs = all_acts (turn_sequence order t) in
      let ys = all_acts (turn_sequence order u) in
      let more = all_acts (turns_sequence orders ts) ++ Said last ∷ [] in
      let more2 = all_acts (turns_sequence orders2 us) ++ Said last2 ∷ [] in
      let is : all_acts (turns_sequence (order ∷ orders) (t ∷ ts)) ++ Said last ∷ [] ≡ xs ++ more = turn_first order t orders ts last in
      let is2 : all_acts (turns_sequence (order2 ∷ orders2) (u ∷ us)) ++ Said last2 ∷ [] ≡ ys ++ more2 = turn_first order2 u orders2 us last2 ∙ ap (λ o. all_acts (turn_sequence o u) ++ more2) (sym ones.0) in
      let w1 = subst (Walks cap c past) is walk in
      let w2 = subst (Walks cup d past) is2 walk_too in
      let front = walks_front cap xs more c past w1 in
      let front2 = walks_front cup ys more2 d past w2 in
      let behind = walks_behind cap xs more c past w1 in
      let r1 = reached_on cap xs c past r front in
      let q1 = reached_on cup ys d past q front2 in
      let ahead_end = subst (Ahead N S cap) (ap (leaves c) is ∙ leaves_on xs more c) ahead in
      let ahead1 = ahead_before cap cap more (leaves c xs) (past ++ steps_in xs) behind ahead_end in
      let ahead_end2 = subst (Ahead N S cup) (ap (leaves d) is2 ∙ leaves_on ys more2 d) ahead_too in
      let ahead2 = ahead_before cup cup more2 (leaves d ys) (past ++ steps_in ys) (walks_behind cup ys more2 d past w2) ahead_end2 in
      let one = turn_same cap cup io seed x after order c d past olds mid mid2 t u r q p (subst (λ n. IsOrder seed x (range_with_len 0 (n + 1 + io)) order after) many is_order) each each_too front front2 ahead1 ahead2 begin begin2 step step2 in
      let rest = turns_same cap cup io seed after (left_over - 1) ts us orders orders2 (leaves c xs) (leaves d ys) (past ++ steps_in xs) mid news news2 count last last2 look look2
      (many ∙ sym (as_many io olds t.steps mid step)) r1 q1 one.same.states one.each one.each_too drawn (subst (λ n. Draws seed (range_with_len 0 (count + 1 + io)) n us orders2) (sym ones.1) drawn2)
      behind (behind_walks cup c d past xs ys more2 one.same w2) ahead_end ahead_end2 go (subst (λ z. TurnsGo io z us news2) (sym one.standings) go2)
      (omega (arith, few)) (omega (arith, few2)) (λ e. let h = over e in omega (arith, h)) (λ e. let h = over2 e in omega (arith, h)) in
      let begins_are = one.begins in
      record {
        same = same_as c d _ _ (xs ++ more) (ys ++ more2) is is2 (same_both c d xs ys more more2 one.same rest.same);
        begins = (let f = rest.begins in λ i. begins_are i ∷ f i);
        workers = λ w lt. (let g = one.workers w (subst (λ n. w < n + 1 + io) many lt) in let f = rest.workers w lt in λ i. g i ∷ f i);
      }
