-- A turn: each socket stays an actor's or closed, and nothing is asked over tcp.
use Rattle.std.specs.Prelude.{◌≡◌, ◌≢◌, ◌<◌, ◌≤◌, ◌⊎◌, ◌==◌, ◌+◌, ℕ, Bool, true, false, List, [], ◌∷◌, ◌++◌, flat_map, length, nat_lt, refl}
use Rattle.std.proofs.Common.{arith, sym, ap, ◌∙◌, subst, inl, inr}
use Rattle.std.proofs.lemmas.Bool.{eqb-true, eqb-false, ltb-true, ltb-false}
use Rattle.std.specs.List.{range_with_len}
use Rattle.zq_base.specs.Ends.{PipeId}
use Rattle.spec_pattern.specs.PipeStep.{PipeStep}
use Rattle.spec_control.specs.Row.{is_socket}
use Rattle.spec_control.specs.Rows.{obj}
use Rattle.spec_control.specs.Control.{Control}
use Rattle.control_laws.proofs.ListLemmas.{never}
use Rattle.spec_run.specs.Turn.{IsOrder}
use Rattle.spec_run.specs.Act.{Act, Deed, steps_in, all_acts}
use Rattle.spec_run.specs.Standing.{ActorStanding}
use Rattle.spec_run.specs.InTurns.{OneTurn, Begins, AllStep, turn_step, turn_sequence}
use Rattle.zq_world.specs.Turning.{times}
use Rattle.zq_world.proofs.OrderLemmas.{times_not, each_once}
use Rattle.replay_laws.proofs.RunLemmas.{past_end, turn_acts}
use Rattle.replay_laws.proofs.TurnLemmas.{at_place, WorksSo, acts_so, reaps_so, serves_so, works_of, as_many, acts_on}
use Rattle.replay_laws.proofs.WalkLemmas.{leaves, Walks, leaves_on, walks_front, walks_behind, Reached, reached_on}
use Rattle.replay_laws.specs.LocalScript.{are_local_lines}
use Rattle.replay_laws.specs.Resting.{IsClosed}
use Rattle.replay_laws.proofs.HoldLemmas.{Has, sockets_before, closed_on, actor_holds}
use Rattle.replay_laws.proofs.ItemLemmas.{are_local, are_plain, all_on, plain_local, actor_local, lines_stay, reaper_plain, begins_plain}
use Rattle.replay_laws.proofs.RestLemmas.{Locally, reached, locally_on}

-- an actor has an open socket of this number
abbrev pub HasOne : List ActorStanding → ℕ → Type 0
HasOne standings i = (w : ℕ) × Has (at_place standings w).mine i

-- each socket is open and an actor's, or was closed
abbrev pub AreHeld : Control → List ActorStanding → Type 0
AreHeld c standings = (i : ℕ) → is_socket (obj c.rows i).kind ≡ true → HasOne standings i ⊎ IsClosed c i

-- no actor's lines bind or connect over tcp
abbrev pub LinesLocal : List ActorStanding → Type 0
LinesLocal standings = (w : ℕ) → are_local_lines (at_place standings w).lines ≡ true

-- between two turns
pub record IsAtTurn (N S : Type 0) (c : Control) (standings : List ActorStanding) : Type 0 where
  pub came : Locally N S c
  pub lines : LinesLocal standings
  pub held : AreHeld c standings

has_place : (standings : List ActorStanding) (w i : ℕ) → Has (at_place standings w).mine i → w < length standings
has_place standings w i h = by (nat_lt w (length standings)) refl
  where
    by : (b : Bool) → nat_lt w (length standings) ≡ b → w < length standings
    by true e = ltb-true w (length standings) e
    by false e = absurd (never (subst (λ (st : ActorStanding). Has st.mine i) (past_end standings w (ltb-false w (length standings) e)) h))

-- what a worker's step does to sockets
record WorkerHolds (c d : Control) (count w : ℕ) (old new : ActorStanding) : Type 0 where
  made : (i : ℕ) → is_socket (obj d.rows i).kind ≡ true → (is_socket (obj c.rows i).kind ≡ true) ⊎ Has new.mine i
  kept : w < count → (i : ℕ) → Has old.mine i → Has new.mine i ⊎ IsClosed d i

module _ {N S : Type 0} where
  -- ---- a worker
  worker_local : (count : ℕ) (old new : ActorStanding) (w : ℕ) (ds : List (Deed N S)) → are_local_lines old.lines ≡ true → WorksSo count old new w ds → are_local (all_acts ds) ≡ true
  worker_local count old new w ds is (acts_so lt f) = actor_local old new ds f is
  worker_local count old new w ds is (reaps_so e f) = plain_local (all_acts ds) (reaper_plain ds f)
  worker_local count old new w ds is (serves_so gt e) = ap (λ (l : List (Deed N S)). are_local (all_acts l)) e

  worker_holds : (cap : PipeId → ℕ) (c : Control) (past : List PipeStep) (count : ℕ) (old new : ActorStanding) (w : ℕ) (ds : List (Deed N S)) → Reached N S c → Walks cap c past (all_acts ds) → are_local_lines old.lines ≡ true
      → WorksSo count old new w ds → WorkerHolds c (leaves c (all_acts ds)) count w old new
  worker_holds cap c past count old new w ds r walk is (acts_so lt f) =
      let h = actor_holds cap c past old new ds r walk f is in
      record { made = h.made; kept = λ x. h.kept }
  worker_holds cap c past count old new w ds r walk is (reaps_so e f) =
      record { made = λ i h. inl (sockets_before cap (all_acts ds) c past r walk (reaper_plain ds f) i h); kept = λ lt. absurd (omega (arith, lt, e)) }
  worker_holds cap c past count old new w ds r walk is (serves_so gt e) =
      record { made = λ i h. inl (sockets_before cap (all_acts ds) c past r walk (ap (λ (l : List (Deed N S)). are_plain (all_acts l)) e) i h); kept = λ lt. absurd (omega (arith, lt, gt)) }

  -- ---- the workers of a turn
  module _ (olds news : List ActorStanding) (step : ℕ → List (Deed N S)) (lines : LinesLocal olds) (works : (w : ℕ) → WorksSo (length olds) (at_place olds w) (at_place news w) w (step w)) where
    workers_local : (ws : List ℕ) → are_local (all_acts (flat_map step ws)) ≡ true
    workers_local [] = refl
    workers_local (v ∷ ws) =
        ap are_local (acts_on (step v) (flat_map step ws))
        ∙ all_on _ (all_acts (step v)) (all_acts (flat_map step ws)) (worker_local (length olds) (at_place olds v) (at_place news v) v (step v) (lines v) (works v)) (workers_local ws)

    module _ (cap : PipeId → ℕ) where
      one : (v : ℕ) (c : Control) (past : List PipeStep) → Reached N S c → Walks cap c past (all_acts (step v)) → WorkerHolds c (leaves c (all_acts (step v))) (length olds) v (at_place olds v) (at_place news v)
      one v c past r walk = worker_holds cap c past (length olds) (at_place olds v) (at_place news v) v (step v) r walk (lines v) (works v)

      first_walks : (v : ℕ) (ws : List ℕ) (c : Control) (past : List PipeStep) → Walks cap c past (all_acts (flat_map step (v ∷ ws))) → Walks cap c past (all_acts (step v))
      first_walks v ws c past walk = walks_front cap (all_acts (step v)) (all_acts (flat_map step ws)) c past (subst (Walks cap c past) (acts_on (step v) (flat_map step ws)) walk)

      others_walk : (v : ℕ) (ws : List ℕ) (c : Control) (past : List PipeStep) → Walks cap c past (all_acts (flat_map step (v ∷ ws))) → Walks cap (leaves c (all_acts (step v))) (past ++ steps_in (all_acts (step v))) (all_acts (flat_map step ws))
      others_walk v ws c past walk = walks_behind cap (all_acts (step v)) (all_acts (flat_map step ws)) c past (subst (Walks cap c past) (acts_on (step v) (flat_map step ws)) walk)

      all_leave : (v : ℕ) (ws : List ℕ) (c : Control) → leaves c (all_acts (flat_map step (v ∷ ws))) ≡ leaves (leaves c (all_acts (step v))) (all_acts (flat_map step ws))
      all_leave v ws c = ap (leaves c) (acts_on (step v) (flat_map step ws)) ∙ leaves_on (all_acts (step v)) (all_acts (flat_map step ws)) c

      made_by : (ws : List ℕ) (c : Control) (past : List PipeStep) → Reached N S c → Walks cap c past (all_acts (flat_map step ws)) → (i : ℕ) → is_socket (obj (leaves c (all_acts (flat_map step ws))).rows i).kind ≡ true
          → (is_socket (obj c.rows i).kind ≡ true) ⊎ HasOne news i
      made_by [] c past r walk i is = inl is
      made_by (v ∷ ws) c past r walk i is =
          let first = first_walks v ws c past walk in
          let d = leaves c (all_acts (step v)) in
          let there = ap (λ (x : Control). is_socket (obj x.rows i).kind) (sym (all_leave v ws c)) ∙ is in
          elim (made_by ws d (past ++ steps_in (all_acts (step v))) (reached_on cap (all_acts (step v)) c past r first) (others_walk v ws c past walk) i there) [
            | inl before ↦ earlier ((one v c past r first).made i before)
            | inr has ↦ inr has
          ]
        where
          earlier : (is_socket (obj c.rows i).kind ≡ true) ⊎ Has (at_place news v).mine i → (is_socket (obj c.rows i).kind ≡ true) ⊎ HasOne news i
          earlier (inl was) = inl was
          earlier (inr has) = inr (v, has)

      kept_by : (ws : List ℕ) (c : Control) (past : List PipeStep) → Reached N S c → Walks cap c past (all_acts (flat_map step ws)) → (w : ℕ) → times w ws ≡ 1 → w < length olds → (i : ℕ) → Has (at_place olds w).mine i
          → HasOne news i ⊎ IsClosed (leaves c (all_acts (flat_map step ws))) i
      kept_by [] c past r walk w once lt i has = absurd (let none : times w [] ≡ 0 = refl in omega (arith, once, none))
      kept_by (v ∷ ws) c past r walk w once lt i has =
          by (v == w) refl
          (λ other. kept_by ws (leaves c (all_acts (step v))) (past ++ steps_in (all_acts (step v))) (reached_on cap (all_acts (step v)) c past r (first_walks v ws c past walk)) (others_walk v ws c past walk) w (sym (times_not w v ws other) ∙ once) lt i has)
        where
          d : Control
          d = leaves c (all_acts (step v))

          first : Walks cap c past (all_acts (step v))
          first = first_walks v ws c past walk

          behind : IsClosed (leaves d (all_acts (flat_map step ws))) i → IsClosed (leaves c (all_acts (flat_map step (v ∷ ws)))) i
          behind h = subst (λ (x : Control). IsClosed x i) (sym (all_leave v ws c)) h

          own : v ≡ w → Has (at_place news v).mine i ⊎ IsClosed d i → HasOne news i ⊎ IsClosed (leaves c (all_acts (flat_map step (v ∷ ws)))) i
          own e (inl still) = inl (v, still)
          own e (inr closed) = inr (behind (closed_on (all_acts (flat_map step ws)) d i closed))

          later : HasOne news i ⊎ IsClosed (leaves d (all_acts (flat_map step ws))) i → HasOne news i ⊎ IsClosed (leaves c (all_acts (flat_map step (v ∷ ws)))) i
          later (inl still) = inl still
          later (inr closed) = inr (behind closed)

          by : (b : Bool) → (v == w) ≡ b → (v ≢ w → HasOne news i ⊎ IsClosed (leaves d (all_acts (flat_map step ws))) i) → HasOne news i ⊎ IsClosed (leaves c (all_acts (flat_map step (v ∷ ws)))) i
          by true e rest =
              let same = eqb-true v w e in
              own same ((one v c past r first).kept (omega (arith, lt, same)) i (subst (λ n. Has (at_place olds n).mine i) (sym same) has))
          by false e rest = later (rest (eqb-false v w e))

  -- ---- a turn
  abbrev pub behind_begin : List ℕ → OneTurn N S → List (Act N S)
  behind_begin order t = all_acts (flat_map (λ w. turn_step w t) order)

  pub turn_local : (io : ℕ) (olds news : List ActorStanding) (order : List ℕ) (t : OneTurn N S) → LinesLocal olds → Begins olds t.begins → AllStep io olds t.steps news → are_local (all_acts (turn_sequence order t)) ≡ true
  turn_local io olds news order t lines begin go =
      ap are_local (turn_acts order t)
      ∙ all_on _ (all_acts t.begins) (behind_begin order t) (plain_local (all_acts t.begins) (begins_plain olds t.begins begin)) (workers_local olds news (λ w. turn_step w t) lines (works_of io olds t.steps news go) order)

  pub lines_on : (io : ℕ) (olds news : List ActorStanding) (t : OneTurn N S) → LinesLocal olds → AllStep io olds t.steps news → LinesLocal news
  lines_on io olds news t lines go w = by (works_of io olds t.steps news go w)
    where
      past : length olds ≤ w → are_local_lines (at_place news w).lines ≡ true
      past le = ap (λ (st : ActorStanding). are_local_lines st.lines) (past_end news w (let many = as_many io olds t.steps news go in omega (arith, le, many)))

      by : WorksSo (length olds) (at_place olds w) (at_place news w) w (turn_step w t) → are_local_lines (at_place news w).lines ≡ true
      by (acts_so lt f) = lines_stay (at_place olds w) (at_place news w) (turn_step w t) f (lines w)
      by (reaps_so e f) = past (omega (arith, e))
      by (serves_so gt e) = past (omega (arith, gt))

  -- what begins a turn, and the workers behind it
  pub record TurnWalks (cap : PipeId → ℕ) (c : Control) (past : List PipeStep) (order : List ℕ) (t : OneTurn N S) : Type 0 where
    pub begin : Walks cap c past (all_acts t.begins)
    pub workers : Walks cap (leaves c (all_acts t.begins)) (past ++ steps_in (all_acts t.begins)) (behind_begin order t)
    pub left : leaves c (all_acts (turn_sequence order t)) ≡ leaves (leaves c (all_acts t.begins)) (behind_begin order t)

  pub turn_walks : (cap : PipeId → ℕ) (c : Control) (past : List PipeStep) (order : List ℕ) (t : OneTurn N S) → Walks cap c past (all_acts (turn_sequence order t)) → TurnWalks cap c past order t
  turn_walks cap c past order t walk =
      let is = turn_acts order t in
      let both = subst (Walks cap c past) is walk in
      record {
        begin = walks_front cap (all_acts t.begins) (behind_begin order t) c past both;
        workers = walks_behind cap (all_acts t.begins) (behind_begin order t) c past both;
        left = ap (leaves c) is ∙ leaves_on (all_acts t.begins) (behind_begin order t) c;
      }

  pub turn_goes : (cap : PipeId → ℕ) (io seed x after : ℕ) (order : List ℕ) (c : Control) (past : List PipeStep) (olds news : List ActorStanding) (t : OneTurn N S) → IsAtTurn N S c olds
      → IsOrder seed x (range_with_len 0 (length olds + 1 + io)) order after → Walks cap c past (all_acts (turn_sequence order t)) → Begins olds t.begins → AllStep io olds t.steps news
      → IsAtTurn N S (leaves c (all_acts (turn_sequence order t))) news
  turn_goes cap io seed x after order c past olds news t at drawn walk begin go =
      record { came = locally_on cap (all_acts (turn_sequence order t)) c past at.came walk (turn_local io olds news order t at.lines begin go); lines = lines_on io olds news t at.lines go; held = held }
    where
      step : ℕ → List (Deed N S)
      step w = turn_step w t

      works : (w : ℕ) → WorksSo (length olds) (at_place olds w) (at_place news w) w (step w)
      works = works_of io olds t.steps news go

      walks : TurnWalks cap c past order t
      walks = turn_walks cap c past order t walk

      d : Control
      d = leaves c (all_acts t.begins)

      now : List PipeStep
      now = past ++ steps_in (all_acts t.begins)

      r : Reached N S c
      r = reached at.came

      q : Reached N S d
      q = reached_on cap (all_acts t.begins) c past r walks.begin

      held_before : (i : ℕ) → HasOne olds i ⊎ IsClosed c i → HasOne news i ⊎ IsClosed (leaves d (behind_begin order t)) i
      held_before i (inl (w, has)) =
          let lt = has_place olds w i has in
          kept_by olds news step at.lines works cap order d now q walks.workers w (each_once w (length olds + 1 + io) seed x order after drawn (omega (arith, lt))) lt i has
      held_before i (inr closed) = inr (closed_on (behind_begin order t) d i (closed_on (all_acts t.begins) c i closed))

      held_there : (i : ℕ) → (is_socket (obj d.rows i).kind ≡ true) ⊎ HasOne news i → HasOne news i ⊎ IsClosed (leaves d (behind_begin order t)) i
      held_there i (inl was) = held_before i (at.held i (sockets_before cap (all_acts t.begins) c past r walks.begin (begins_plain olds t.begins begin) i was))
      held_there i (inr has) = inl has

      held : AreHeld (leaves c (all_acts (turn_sequence order t))) news
      held = subst (λ (x : Control). AreHeld x news) (sym walks.left) (λ i is. held_there i (made_by olds news step at.lines works cap order d now q walks.workers i is))
