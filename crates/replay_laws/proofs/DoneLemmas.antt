-- A run of a script without tcp is done in time.
use Rattle.std.specs.Prelude.{◌≡◌, ◌≤◌, ◌⊎◌, ◌+◌, ◌*◌, ℕ, zero, suc, Bool, true, false, List, [], ◌∷◌, ◌++◌, Option, cond, count_by, drop, length, map, sum_by, refl}
use Rattle.std.proofs.Common.{arith, sym, ap, ◌∙◌, subst, inl, inr, append_assoc, length-drop}
use Rattle.std.proofs.lemmas.List.{length-map}
use Rattle.std.proofs.lemmas.List.Sums.{sum_by-cons}
use Rattle.std.specs.List.{list_all, range_with_len, AllByRecursion}
use Rattle.zq_base.specs.Ends.{PipeId}
use Rattle.spec_pattern.specs.PipeStep.{PipeStep, AreExact}
use Rattle.spec_control.specs.declared.entry.Item.{Item}
use Rattle.spec_control.specs.Row.{Row, is_socket}
use Rattle.spec_control.specs.Rows.{PairRow, obj}
use Rattle.spec_control.specs.Control.{Control, begun}
use Rattle.spec_control.specs.Reply.{root_state, root_asked}
use Rattle.spec_control.specs.ControlRun.{FitsItem, IsSeen, after_item, after_all, IsControlRun}
use Rattle.control_laws.specs.Bound.{objects_made, pairs_made}
use Rattle.control_laws.proofs.BoundLemmas.{ending_is_bounded}
use Rattle.control_laws.proofs.ListLemmas.{never, left, right, and}
use Rattle.spec_control.specs.Moments.{Moment, moments_from}
use Rattle.spec_run.specs.Turn.{IsOrder}
use Rattle.spec_run.specs.declared.journal.ObjectRow.{ObjectRow}
use Rattle.spec_run.specs.declared.journal.Journal.{Journal}
use Rattle.spec_run.specs.declared.journal.SettledRow.{SettledRow}
use Rattle.spec_run.specs.Journal.{object_shown, rows_by, row_shown, run_journal}
use Rattle.spec_run.specs.declared.script.Line.{Line}
use Rattle.spec_run.specs.Script.{Script}
use Rattle.spec_run.specs.Act.{Act, Said, steps_in, moments_in, all_acts}
use Rattle.spec_run.specs.OwnedRun.{OwnedRun, IsRun, every_pipe, pipe_capacity, control_at_end}
use Rattle.spec_run.specs.Standing.{ActorStanding, standing_before, has_finished}
use Rattle.spec_run.specs.InTurns.{OneTurn, Turned, is_ended, Begins, AllStep, TurnsGo, Draws, IsInTurns, IsOneThread, turn_sequence, turns_sequence}
use Rattle.replay_laws.specs.InTime.{line_sockets, line_steps, actor_steps}
use Rattle.replay_laws.specs.Local.{is_local_item}
use Rattle.replay_laws.proofs.JournalLemmas.{walks_from, acts_of_run, sequence_acts}
use Rattle.replay_laws.proofs.TimeLemmas.{Few, step_few, all_finished, begun_few}
use Rattle.replay_laws.proofs.TurnLemmas.{as_many, acts_on}
use Rattle.replay_laws.proofs.WalkLemmas.{leaves, Walks, leaves_on, walks_front, walks_behind, Reached, reached_on}
use Rattle.replay_laws.specs.LocalScript.{are_local_lines, is_local_script, LocalScriptsRunLocally}
use Rattle.replay_laws.specs.DoneInTime.{most_tries, actor_tries, actor_sockets, script_tries, script_sockets, turns_needed, turns_shown, RunsEndInTime, RunsAreDoneInTime, JournalsAreDoneInTime}
use Rattle.replay_laws.proofs.ItemLemmas.{are_local, all_on}
use Rattle.replay_laws.proofs.MadeLemmas.{sockets_in, sockets_grow, AllEndSoon, turn_soon, soon_finished, begun_soon}
use Rattle.replay_laws.proofs.PayLemmas.{AllFinished, items_of, cost_of, items_on, cost_on, leaves_items, items_run, finished_stay, begin_asks, ended_is, turn_pays}
use Rattle.replay_laws.proofs.RestLemmas.{reached}
use Rattle.replay_laws.proofs.RoundLemmas.{LinesLocal, IsAtTurn, turn_walks, behind_begin, turn_local, lines_on, turn_goes}
use Rattle.replay_laws.proofs.DoneStayLemmas.{asked_on}

-- ---- the count of a script's tries and sockets
tries_and_sockets : (lines : List Line) → sum_by (λ (l : Line). line_steps l.call) lines ≡ sum_by (λ (l : Line). most_tries l.call) lines + sum_by (λ (l : Line). line_sockets l.call) lines
tries_and_sockets [] = refl
tries_and_sockets (l ∷ lines) =
    let rest = tries_and_sockets lines in
    let steps = sum_by-cons (λ (x : Line). line_steps x.call) l lines in
    let tries = sum_by-cons (λ (x : Line). most_tries x.call) l lines in
    let sockets = sum_by-cons (λ (x : Line). line_sockets x.call) l lines in
    omega (arith, rest, steps, tries, sockets)

each_within : (script : Script) (n : ℕ) → script_tries script + script_sockets script ≤ n → AllByRecursion (λ actor. actor_steps actor ≤ n) script
each_within [] n le = tt
each_within (actor ∷ script) n le =
    let tries = sum_by-cons actor_tries actor script in
    let sockets = sum_by-cons actor_sockets actor script in
    let own = tries_and_sockets actor.lines in
    (omega (arith, le, tries, sockets, own), each_within script n (omega (arith, le, tries, sockets)))

finished_places : (standings : List ActorStanding) → list_all has_finished standings ≡ true → AllFinished standings
finished_places [] done w = refl
finished_places (st ∷ standings) done zero = left (has_finished st) _ done
finished_places (st ∷ standings) done (suc w) = finished_places standings (right (has_finished st) _ done) w

begun_lines : (script : Script) → is_local_script script ≡ true → LinesLocal (map standing_before script)
begun_lines [] is w = refl
begun_lines (actor ∷ script) is zero = left (are_local_lines actor.lines) _ is
begun_lines (actor ∷ script) is (suc w) = begun_lines script (right (are_local_lines actor.lines) _ is) w

begun_no_socket : (i : ℕ) → is_socket (obj (begun 1).rows i).kind ≡ true → ⊥
begun_no_socket zero is = never is
begun_no_socket (suc i) is = never is

-- where what is Good at the end is so before, and each turn leads from F (suc k) to F k
record Leads (N S : Type 0) (cap : PipeId → ℕ) (io seed : ℕ) (Good : Control → Type 0) (F : ℕ → Control → List ActorStanding → Type 0) : Type 0 where
  before : (xs : List (Act N S)) (c : Control) (past : List PipeStep) → Reached N S c → Walks cap c past xs → Good (leaves c xs) → Good c
  ends : (c : Control) (standings : List ActorStanding) → Good c → F 0 c standings → list_all has_finished standings ≡ true
  goes : (k x after : ℕ) (order : List ℕ) (c : Control) (past : List PipeStep) (olds news : List ActorStanding) (t : OneTurn N S) → Reached N S c → IsOrder seed x (range_with_len 0 (length olds + 1 + io)) order after
      → Walks cap c past (all_acts (turn_sequence order t)) → AllStep io olds t.steps news → F (suc k) c olds → F k (leaves c (all_acts (turn_sequence order t))) news

module _ {N S : Type 0} where
  -- ---- what is asked
  turns_local : (io : ℕ) (ts : List (OneTurn N S)) (orders : List (List ℕ)) (olds news : List ActorStanding) → LinesLocal olds → TurnsGo io olds ts news → are_local (all_acts (turns_sequence orders ts)) ≡ true
  turns_local io ts [] olds news lines go = refl
  turns_local io [] (order ∷ orders) olds news lines go = refl
  turns_local io (t ∷ ts) (order ∷ orders) olds news lines (begin, (mid, step, go)) =
      ap are_local (acts_on (turn_sequence order t) (turns_sequence orders ts))
      ∙ all_on _ (all_acts (turn_sequence order t)) (all_acts (turns_sequence orders ts)) (turn_local io olds mid order t lines begin step)
      (turns_local io ts orders mid news (lines_on io olds mid t lines step) go)

  pub order_local : (order : List (Item N S)) (c : Control) → list_all (λ (m : Moment N S). is_local_item m.item) (moments_from c order) ≡ true → list_all is_local_item order ≡ true
  order_local [] c all = refl
  order_local (item ∷ items) c all = and _ _ (left (is_local_item item) _ all) (order_local items (after_item item c) (right (is_local_item item) _ all))

  -- ---- where the root was asked and all have finished
  rest_turns : (cap : PipeId → ℕ) (io seed x count : ℕ) (ts : List (OneTurn N S)) (orders : List (List ℕ)) (c : Control) (past : List PipeStep) (olds news : List ActorStanding) → count ≡ length olds
      → IsAtTurn N S c olds → AllFinished olds → root_asked c ≡ true → Draws seed (range_with_len 0 (count + 1 + io)) x ts orders → Walks cap c past (all_acts (turns_sequence orders ts)) → TurnsGo io olds ts news
      → length ts ≤ cost_of (all_acts (turns_sequence orders ts))
  rest_turns cap io seed x count [] orders c past olds news many at done asked drawn walk go = omega arith
  rest_turns cap io seed x count (t ∷ ts) [] c past olds news many at done asked drawn walk go = absurd drawn
  rest_turns cap io seed x count (t ∷ ts) (order ∷ orders) c past olds news many at done asked (after, is_order, drawn) walk (begin, (mid, step, go)) =
      let xs = all_acts (turn_sequence order t) in
      let ys = all_acts (turns_sequence orders ts) in
      let on = acts_on (turn_sequence order t) (turns_sequence orders ts) in
      let both = subst (Walks cap c past) on walk in
      let front = walks_front cap xs ys c past both in
      let is = subst (λ n. IsOrder seed x (range_with_len 0 (n + 1 + io)) order after) many is_order in
      let now = turn_pays cap io seed x after order c past olds mid t at done asked is front begin step in
      let later = rest_turns cap io seed after count ts orders (leaves c xs) (past ++ steps_in xs) mid news (many ∙ sym (as_many io olds t.steps mid step)) (turn_goes cap io seed x after order c past olds mid t at is front begin step)
      (finished_stay io olds mid t.steps done step) (asked_on cap xs c past (reached at.came) front asked) drawn (walks_behind cap xs ys c past both) go in
      let cost = ap cost_of on ∙ cost_on xs ys in
      omega (arith, now, later, cost)

  -- ---- within so many turns all have finished, and the root is asked in the next
  record IsCut (c : Control) (acts : List (Act N S)) (turns k : ℕ) : Type 0 where
    before : List (Act N S)
    behind : List (Act N S)
    is : acts ≡ before ++ behind
    asked : root_asked (leaves c before) ≡ true
    few : turns ≤ k + 1 + cost_of behind

  asked_turn : (cap : PipeId → ℕ) (c : Control) (past : List PipeStep) (order : List ℕ) (olds : List ActorStanding) (t : OneTurn N S) → Reached N S c → list_all has_finished olds ≡ true → Begins olds t.begins → Walks cap c past (all_acts (turn_sequence order t))
      → root_asked (leaves c (all_acts (turn_sequence order t))) ≡ true
  asked_turn cap c past order olds t r done begin walk =
      let walks = turn_walks cap c past order t walk in
      let first = begin_asks cap c past olds t.begins r done begin walks.begin in
      ap root_asked walks.left
      ∙ asked_on cap (behind_begin order t) (leaves c (all_acts t.begins)) (past ++ steps_in (all_acts t.begins)) (reached_on cap (all_acts t.begins) c past r walks.begin) walks.workers first

  module _ (cap : PipeId → ℕ) (io seed : ℕ) (Good : Control → Type 0) (F : ℕ → Control → List ActorStanding → Type 0) (leads : Leads N S cap io seed Good F) where
    first_turns : (x count k : ℕ) (ts : List (OneTurn N S)) (orders : List (List ℕ)) (c : Control) (past : List PipeStep) (olds news : List ActorStanding) → count ≡ length olds
        → IsAtTurn N S c olds → F k c olds → Draws seed (range_with_len 0 (count + 1 + io)) x ts orders → Walks cap c past (all_acts (turns_sequence orders ts)) → Good (leaves c (all_acts (turns_sequence orders ts))) → TurnsGo io olds ts news
        → (length ts ≤ k) ⊎ IsCut c (all_acts (turns_sequence orders ts)) (length ts) k
    first_turns x count k [] orders c past olds news many at few drawn walk good go = inl (omega arith)
    first_turns x count k (t ∷ ts) [] c past olds news many at few drawn walk good go = absurd drawn
    first_turns x count zero (t ∷ ts) (order ∷ orders) c past olds news many at few (after, is_order, drawn) walk good (begin, (mid, step, go)) =
        let xs = all_acts (turn_sequence order t) in
        let ys = all_acts (turns_sequence orders ts) in
        let on = acts_on (turn_sequence order t) (turns_sequence orders ts) in
        let both = subst (Walks cap c past) on walk in
        let front = walks_front cap xs ys c past both in
        let is = subst (λ n. IsOrder seed x (range_with_len 0 (n + 1 + io)) order after) many is_order in
        let done = leads.ends c olds (leads.before (all_acts (turns_sequence (order ∷ orders) (t ∷ ts))) c past (reached at.came) walk good) few in
        let asked = asked_turn cap c past order olds t (reached at.came) done begin front in
        let later = rest_turns cap io seed after count ts orders (leaves c xs) (past ++ steps_in xs) mid news (many ∙ sym (as_many io olds t.steps mid step)) (turn_goes cap io seed x after order c past olds mid t at is front begin step)
        (finished_stay io olds mid t.steps (finished_places olds done) step) asked drawn (walks_behind cap xs ys c past both) go in
        inr (record { before = xs; behind = ys; is = on; asked = asked; few = omega (arith, later) })
    first_turns x count (suc k) (t ∷ ts) (order ∷ orders) c past olds news many at few (after, is_order, drawn) walk good (begin, (mid, step, go)) =
        let xs = all_acts (turn_sequence order t) in
        let ys = all_acts (turns_sequence orders ts) in
        let on = acts_on (turn_sequence order t) (turns_sequence orders ts) in
        let both = subst (Walks cap c past) on walk in
        let front = walks_front cap xs ys c past both in
        let is = subst (λ n. IsOrder seed x (range_with_len 0 (n + 1 + io)) order after) many is_order in
        more xs ys on (first_turns after count k ts orders (leaves c xs) (past ++ steps_in xs) mid news (many ∙ sym (as_many io olds t.steps mid step)) (turn_goes cap io seed x after order c past olds mid t at is front begin step)
        (leads.goes k x after order c past olds mid t (reached at.came) is front step few) drawn (walks_behind cap xs ys c past both) (subst Good (ap (leaves c) on ∙ leaves_on xs ys c) good) go)
      where
        more : (xs ys : List (Act N S)) → all_acts (turns_sequence (order ∷ orders) (t ∷ ts)) ≡ xs ++ ys → (length ts ≤ k) ⊎ IsCut (leaves c xs) ys (length ts) k
            → (suc (length ts) ≤ suc k) ⊎ IsCut c (all_acts (turns_sequence (order ∷ orders) (t ∷ ts))) (suc (length ts)) (suc k)
        more xs ys on (inl le) = inl (omega (arith, le))
        more xs ys on (inr cut) = inr (record {
          before = xs ++ cut.before;
          behind = cut.behind;
          is = on ∙ ap (λ l. xs ++ l) cut.is ∙ sym (append_assoc xs cut.before cut.behind);
          asked = ap root_asked (leaves_on xs cut.before c) ∙ cut.asked;
          few = (let few = cut.few in omega (arith, few));
        })

  -- by the sockets that the script's lines may make, and by those that were made
  leads_by_lines : (cap : PipeId → ℕ) (io seed : ℕ) → Leads N S cap io seed (λ c. Unit {0}) (λ k c standings. AllByRecursion (Few k) standings)
  leads_by_lines cap io seed = record {
    before = λ xs c past r w good. tt;
    ends = λ c standings good few. all_finished standings few;
    goes = λ k x after order c past olds news t r drawn walk go few. step_few k io olds news t.steps go few;
  }

  leads_by_sockets : (cap : PipeId → ℕ) (io seed all : ℕ) → Leads N S cap io seed (λ c. sockets_in c ≤ all) (λ k c standings. AllEndSoon all k c standings)
  leads_by_sockets cap io seed all = record {
    before = λ xs c past r w good. let more = sockets_grow cap xs c past r w in omega (arith, more, good);
    ends = soon_finished all;
    goes = λ k x after order c past olds news t r drawn walk go soon. turn_soon cap io seed x after all k order c past olds news t r drawn walk go soon;
  }

  -- ---- the whole run
  -- the letters taken behind the asking are few
  letters_few : (cap : PipeId → ℕ) (acts : List (Act N S)) (last : Moment N S) (k turns : ℕ) → Walks cap (begun 1) [] (acts ++ Said last ∷ []) → IsCut (begun 1) acts turns k
      → let c = leaves (begun 1) (acts ++ Said last ∷ []) in turns ≤ k + 1 + (8 * objects_made c + 7 * pairs_made c)
  letters_few cap acts last k turns walk cut =
      let behind = cut.behind ++ Said last ∷ [] in
      let on : acts ++ Said last ∷ [] ≡ cut.before ++ behind = ap (λ l. l ++ Said last ∷ []) cut.is ∙ append_assoc cut.before cut.behind (Said last ∷ []) in
      let run = subst (IsControlRun (begun 1)) (items_on cut.before behind) (items_run cap (cut.before ++ behind) (begun 1) [] (subst (Walks cap (begun 1) []) on walk)) in
      let asked : root_asked (after_all (items_of cut.before) (begun 1)) ≡ true = ap root_asked (sym (leaves_items cut.before (begun 1))) ∙ cut.asked in
      let bound = ending_is_bounded N S 1 (items_of cut.before) (items_of behind) run asked in
      let at : leaves (begun 1) (acts ++ Said last ∷ []) ≡ after_all (items_of behind) (after_all (items_of cut.before) (begun 1)) =
      ap (leaves (begun 1)) on ∙ leaves_on cut.before behind (begun 1) ∙ ap (λ (x : Control). leaves x behind) (leaves_items cut.before (begun 1)) ∙ leaves_items behind (after_all (items_of cut.before) (begun 1)) in
      let objects = ap objects_made at in
      let pairs = ap pairs_made at in
      let cost = cost_on cut.behind (Said last ∷ []) in
      let few = cut.few in
      omega (arith, bound, objects, pairs, cost, few)

  pub script_local : (script : Script) (io limit seed : ℕ) (t : Turned N S) (run : OwnedRun N S) → IsInTurns script io limit t run → IsOneThread seed script io t run → is_local_script script ≡ true → list_all is_local_item run.order ≡ true
  script_local script io limit seed t run turns one is =
      let orders = one.orders in
      let look : is_local_item t.last.item ≡ true = ap is_local_item turns.last.item_is in
      let all : are_local (acts_of_run orders t) ≡ true = all_on _ (all_acts (turns_sequence orders t.turns)) (Said t.last ∷ [])
      (turns_local io t.turns orders (map standing_before script) turns.standings (begun_lines script is) turns.go) (and _ _ look refl) in
      let test : List (Moment N S) → Bool = list_all (λ (m : Moment N S). is_local_item m.item) in
      order_local run.order (begun io) (ap test (sym one.one_order ∙ ap moments_in (sequence_acts orders t)) ∙ all)

  -- the root has ended where the turns are more than those in which all have finished, and those of the letters
  module _ (script : Script) (limit seed : ℕ) (t : Turned N S) (run : OwnedRun N S) (is_run : IsRun script 1 every_pipe run) (turns : IsInTurns script 1 limit t run) (one : IsOneThread seed script 1 t run) (is : is_local_script script ≡ true) where
    abbrev cap : PipeId → ℕ
    cap = pipe_capacity (control_at_end 1 run)

    abbrev acts : List (Act N S)
    acts = all_acts (turns_sequence one.orders t.turns)

    abbrev olds : List ActorStanding
    olds = map standing_before script

    whole : Walks cap (begun 1) [] (acts ++ Said t.last ∷ []) × (leaves (begun 1) (acts ++ Said t.last ∷ []) ≡ control_at_end 1 run)
    whole =
        let same = sequence_acts one.orders t in
        walks_from cap (acts_of_run one.orders t) (begun 1) [] run.order (ap moments_in (sym same) ∙ one.one_order) is_run.control (subst (λ l. AreExact cap [] (steps_in l)) same one.exact)

    at : IsAtTurn N S (begun 1) olds
    at = record {
      came = record { items = []; run = tt; plain = refl; is = refl };
      lines = begun_lines script is;
      held = λ i socket. absurd (begun_no_socket i socket);
    }

    -- the last look leaves all as it is
    last_leaves : leaves (begun 1) (acts ++ Said t.last ∷ []) ≡ leaves (begun 1) acts
    last_leaves = leaves_on acts (Said t.last ∷ []) (begun 1) ∙ ap (λ (item : Item N S). after_item item (leaves (begun 1) acts)) turns.last.item_is

    cut_by : (k : ℕ) (Good : Control → Type 0) (F : ℕ → Control → List ActorStanding → Type 0) → Leads N S cap 1 seed Good F → F k (begun 1) olds → Good (control_at_end 1 run) → (length t.turns ≤ k) ⊎ IsCut (begun 1) acts (length t.turns) k
    cut_by k Good F leads few good =
        first_turns cap 1 seed Good F leads seed (length script) k t.turns one.orders (begun 1) [] olds turns.standings (sym (length-map script standing_before)) at few one.drawn
        (walks_front cap acts (Said t.last ∷ []) (begun 1) [] whole.0) (subst Good (sym whole.1 ∙ last_leaves) good) turns.go

    seen : root_state (control_at_end 1 run) ≡ turns.last.sight.root
    seen =
        let c = leaves (begun 1) acts in
        let behind = walks_behind cap acts (Said t.last ∷ []) (begun 1) [] whole.0 in
        let sees : IsSeen c turns.last.sight = subst (FitsItem c) turns.last.item_is behind.1 in
        ap root_state (sym whole.1 ∙ last_leaves) ∙ sym sees.root

    ends_by : (k : ℕ) → (length t.turns ≤ k) ⊎ IsCut (begun 1) acts (length t.turns) k → k + 10 * objects_made (control_at_end 1 run) + 8 * pairs_made (control_at_end 1 run) + 10 ≤ limit → is_ended (root_state (control_at_end 1 run)) ≡ true
    ends_by k cut enough = by (is_ended turns.last.sight.root) refl
      where
        too_few : length t.turns ≡ limit → (length t.turns ≤ k) ⊎ IsCut (begun 1) acts (length t.turns) k → ⊥
        too_few all (inl le) = omega (arith, le, all, enough)
        too_few all (inr c) =
            let few = letters_few cap acts t.last k (length t.turns) whole.0 c in
            let objects = ap objects_made whole.1 in
            let pairs = ap pairs_made whole.1 in
            omega (arith, few, objects, pairs, all, enough)

        by : (b : Bool) → is_ended turns.last.sight.root ≡ b → is_ended (root_state (control_at_end 1 run)) ≡ true
        by true e = ap is_ended seen ∙ e
        by false e = absurd (too_few (turns.over e) cut)

    pub ends_by_lines : turns_needed script (control_at_end 1 run) ≤ limit → is_ended (root_state (control_at_end 1 run)) ≡ true
    ends_by_lines enough =
        let k : ℕ = script_tries script + script_sockets script in
        ends_by k (cut_by k (λ c. Unit {0}) (λ n c standings. AllByRecursion (Few n) standings) (leads_by_lines cap 1 seed) (begun_few k script (each_within script k (omega arith))) tt) enough

    pub ends_by_sockets : (script_tries script + sockets_in (control_at_end 1 run)) + 10 * objects_made (control_at_end 1 run) + 8 * pairs_made (control_at_end 1 run) + 10 ≤ limit → is_ended (root_state (control_at_end 1 run)) ≡ true
    ends_by_sockets enough =
        let all : ℕ = sockets_in (control_at_end 1 run) in
        let k : ℕ = script_tries script + all in
        ends_by k (cut_by k (λ c. sockets_in c ≤ all) (λ n c standings. AllEndSoon all n c standings) (leads_by_sockets cap 1 seed all) (begun_soon all k (sockets_in (begun 1)) script (omega arith)) (omega arith)) enough

pub local_scripts : (N S : Type 0) → LocalScriptsRunLocally N S
local_scripts N S script io limit seed t run turns one is = script_local script io limit seed t run turns one is

pub end_in_time : (N S : Type 0) → RunsEndInTime N S
end_in_time N S script limit seed t run is_run turns one is enough = sym (ended_is (obj (control_at_end 1 run).rows 0).stage) ∙ ends_by_lines script limit seed t run is_run turns one is enough

pub done_in_time : (N S : Type 0) → RunsAreDoneInTime N S
done_in_time N S script schedule j is plain enough =
    ap (λ (x : Journal). x.done) is.journal_is ∙ ends_by_lines script schedule.turns schedule.seed is.turned is.run is.is_run is.in_turns is.one_thread plain enough

-- ---- what a journal shows was made
sockets_shown : (rows : List Row) → count_by (λ (o : ObjectRow). is_socket o.kind) (map object_shown rows) ≡ count_by (λ (o : Row). is_socket o.kind) rows
sockets_shown [] = refl
sockets_shown (o ∷ rows) =
    let rest = sockets_shown rows in
    let first = sum_by-cons (λ (x : ObjectRow). cond (is_socket x.kind) 1 0) (object_shown o) (map object_shown rows) in
    let other = sum_by-cons (λ (x : Row). cond (is_socket x.kind) 1 0) o rows in
    omega (arith, rest, first, other)

pipes_shown : (row : PipeId → Option SettledRow) (n : ℕ) (pairs : List PairRow) → length (rows_by row n pairs) ≡ 2 * length pairs
pipes_shown row n [] = omega arith
pipes_shown row n (p ∷ pairs) = let rest = pipes_shown row (n + 1) pairs in omega (arith, rest)

pub shown_in_time : (N S : Type 0) → JournalsAreDoneInTime N S
shown_in_time N S script schedule j is plain enough =
    let c = control_at_end 1 is.run in
    let shown : turns_shown script (run_journal script 1 is.run) ≤ schedule.turns = subst (λ (x : Journal). turns_shown script x ≤ schedule.turns) is.journal_is enough in
    let sockets = sockets_shown c.rows.objects in
    let objects = length-map c.rows.objects object_shown in
    let pipes = pipes_shown (row_shown c is.run) 1 (drop 1 c.rows.pairs) in
    let pairs = length-drop 1 c.rows.pairs in
    ap (λ (x : Journal). x.done) is.journal_is
    ∙ ends_by_sockets script schedule.turns schedule.seed is.turned is.run is.is_run is.in_turns is.one_thread plain (omega (arith, shown, sockets, objects, pipes, pairs))
