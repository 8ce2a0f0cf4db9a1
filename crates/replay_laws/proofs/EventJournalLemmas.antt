-- A journal of a run in turns is that of a run by the events that its turns choose.
use Rattle.std.specs.Prelude.{◌≡◌, ◌<◌, ◌≤◌, ◌+◌, ℕ, zero, suc, true, List, [], ◌∷◌, ◌++◌, drop, filter, flat_map, length, map, nat_lt, refl}
use Rattle.std.specs.List.{list_all, range_with_len}
use Rattle.std.proofs.Common.{arith, sym, ap, ◌∙◌, subst}
use Rattle.std.proofs.lemmas.List.{length-map}
use Rattle.std.proofs.lemmas.List.Elements.{filter-append}
use Rattle.std.proofs.lemmas.List.FromFn.{length-range_with_len, map-range_with_len_more}
use mathlib.Core.List.{IsPrefix}
use Rattle.zq_base.specs.Ends.{PipeId}
use Rattle.spec_pattern.specs.PipeStep.{AreExact, committed_to, taken_from}
use Rattle.spec_control.specs.declared.entry.Item.{Item}
use Rattle.spec_control.specs.Control.{Control, begun}
use Rattle.spec_control.specs.ControlRun.{after_all}
use Rattle.spec_control.specs.Held.{caller_of}
use Rattle.spec_control.specs.Moments.{moments_by, moments_from}
use Rattle.spec_run.specs.Run.{Schedule}
use Rattle.spec_run.specs.declared.journal.ActorLines.{ActorLines}
use Rattle.spec_run.specs.declared.journal.Journal.{Journal}
use Rattle.spec_run.specs.Script.{Script}
use Rattle.spec_run.specs.Act.{Deed, Looks, Reads, all_acts, steps_in, moments_in}
use Rattle.spec_run.specs.Standing.{ActorStanding, standing_before}
use Rattle.spec_run.specs.Worker.{EachDoes}
use Rattle.spec_run.specs.OwnedRun.{OwnedRun, IsRun, AreCountedBy, AreTold, LooksHoldAt, every_pipe, pipe_capacity, deeds_in, all_deeds, all_steps, control_at_end, settlement_of}
use Rattle.spec_run.specs.InTurns.{Turned, turn_step, conductor_steps, worker_count, sequence, turns_sequence}
use Rattle.spec_run.specs.Fate.{fates_in, fates_left, fates_of, is_heard_at, reason_left, row_of_fates}
use Rattle.spec_run.specs.CoreEvents.{Made, deeds_made, EventsGo, IsOfEvents, IsEventsJournal}
use Rattle.spec_run.specs.Journal.{actors_shown, entries_shown, row_if, rows_by, row_shown, journal_at, run_journal, IsRunJournal}
use Rattle.run_laws.proofs.GoesLemmas.{steps_by, steps_are, made_moments, events_local, placed_run}
use Rattle.run_laws.proofs.TurnLemmas.{each_more, map_length}
use Rattle.zq_world.specs.ByEvents.{run_made, AreMadeBy}
use Rattle.zq_world.proofs.AskedLemmas.{items_of, items_from}
use Rattle.zq_world.proofs.MadeLemmas.{moments_one, few_made}
use Rattle.zq_world.proofs.ToldLemmas.{all_told}
use Rattle.replay_laws.proofs.WalkLemmas.{leaves, Walks, walks_front, exact_of, Reached}
use Rattle.replay_laws.proofs.TurnLemmas.{acts_on}
use Rattle.replay_laws.proofs.JournalLemmas.{walks_from}
use Rattle.replay_laws.specs.TurnsAreEvents.{events_chosen, TurnsAreEvents}
use Rattle.replay_laws.proofs.DeedLemmas.{is_told, chosen_made, turns_made, chosen_deeds, worker_deeds, conductor_deeds}
use Rattle.replay_laws.proofs.ThinLemmas.{SeesSo, run_of_walk, found_of_walk, after_of_walk, thin_leaves, thin_walks, thin_steps, thin_fates, thin_shown}
use Rattle.replay_laws.proofs.EventNameLemmas.{Thins, thins_of, thin_named, thin_by}
use Rattle.replay_laws.proofs.OpenLemmas.{open_before}
use Rattle.replay_laws.proofs.BeginLemmas.{turns_see}
use Rattle.replay_laws.proofs.GoLemmas.{turns_go}
use Rattle.replay_laws.proofs.EventMadeLemmas.{chosen_made_by}

module _ {N S : Type 0} where
  -- ---- what workers show that do the same but for looks
  abbrev ToldIn : (few all : List (List (List (Deed N S)))) → Type 0
  ToldIn [] [] = Unit {0}
  ToldIn [] (y ∷ ys) = ⊥
  ToldIn (x ∷ xs) [] = ⊥
  ToldIn (x ∷ xs) (y ∷ ys) = (deeds_in x ≡ filter is_told (deeds_in y)) × ToldIn xs ys

  told_range : (f g : ℕ → List (List (Deed N S))) (l m : List (List (Deed N S))) (k a : ℕ) → ((w : ℕ) → a ≤ w → w < a + k → deeds_in (f w) ≡ filter is_told (deeds_in (g w))) → deeds_in l ≡ filter is_told (deeds_in m)
      → ToldIn (map f (range_with_len a k) ++ l ∷ []) (map g (range_with_len a k) ++ m ∷ [])
  told_range f g l m zero a each last = (last, tt)
  told_range f g l m (suc k) a each last = (each a (omega arith) (omega arith), told_range f g l m k (a + 1) (λ w le lt. each w (omega (arith, le)) (omega (arith, lt))) last)

  told_all : (xs ys : List (List (List (Deed N S)))) → ToldIn xs ys → flat_map deeds_in xs ≡ filter is_told (flat_map deeds_in ys)
  told_all [] [] told = refl
  told_all [] (y ∷ ys) told = absurd told
  told_all (x ∷ xs) [] told = absurd told
  told_all (x ∷ xs) (y ∷ ys) told = ap (λ l. l ++ flat_map deeds_in xs) told.0 ∙ ap (λ l. filter is_told (deeds_in y) ++ l) (told_all xs ys told.1) ∙ sym (filter-append is_told (deeds_in y) (flat_map deeds_in ys))

  told_actors : (script : Script) (xs ys : List (List (List (Deed N S)))) → ToldIn xs ys → actors_shown script xs ≡ actors_shown script ys
  told_actors [] xs ys told = refl
  told_actors (actor ∷ actors) [] [] told = refl
  told_actors (actor ∷ actors) [] (y ∷ ys) told = absurd told
  told_actors (actor ∷ actors) (x ∷ xs) [] told = absurd told
  told_actors (actor ∷ actors) (x ∷ xs) (y ∷ ys) told =
      let entries = ap entries_shown told.0 ∙ thin_shown (deeds_in y) in
      let rest = told_actors actors xs ys told.1 in
      λ i. (let a : ActorLines = record { name = actor.name; entries = entries i } in a) ∷ rest i

  same_steps : (g h : OwnedRun N S) → all_deeds g ≡ filter is_told (all_deeds h) → all_steps g ≡ all_steps h
  same_steps g h deeds = ap (λ l. steps_in (all_acts l)) deeds ∙ thin_steps (all_deeds h)

  journals : (script : Script) (g h : OwnedRun N S) → ToldIn g.workers h.workers → control_at_end 1 g ≡ control_at_end 1 h → run_journal script 1 g ≡ run_journal script 1 h
  journals script g h told ends =
      let deeds : all_deeds g ≡ filter is_told (all_deeds h) = told_all g.workers h.workers told in
      let steps = same_steps g h deeds in
      let c = control_at_end 1 h in
      let rows : (p : PipeId) → row_shown c g p ≡ row_shown c h p = λ p.
      let fates : fates_of c g p ≡ fates_of c h p = ap (λ l. l ++ fates_left (settlement_of c p)) (ap (flat_map (fates_in (is_heard_at c p) p)) deeds ∙ thin_fates (is_heard_at c p) p (all_deeds h)) in
      λ i. row_if (settlement_of c p) (row_of_fates p (length (committed_to p (steps i))) (fates i) (reason_left (settlement_of c p))) in
      let actors = told_actors script g.workers h.workers told in
      let rows_by_all : (λ p. row_shown c g p) ≡ (λ p. row_shown c h p) = λ i p. rows p i in
      ap (λ (x : Control). journal_at x script g) ends
      ∙ (λ i. record {
        actors = actors i;
        ended = (journal_at c script g).ended;
        pipes = rows_by (rows_by_all i) 1 (drop 1 c.rows.pairs);
        objects = (journal_at c script g).objects;
        done = (journal_at c script g).done;
      })

-- ---- the run by events
module _ {N S : Type 0} (script : Script) (schedule : Schedule) (j : Journal) (is : IsRunJournal N S script schedule j) where
  abbrev n : ℕ
  n = length script

  abbrev t : Turned N S
  t = is.turned

  abbrev orders : List (List ℕ)
  orders = is.one_thread.orders

  abbrev cap : PipeId → ℕ
  cap = pipe_capacity (control_at_end 1 is.run)

  abbrev deeds : List (Deed N S)
  deeds = sequence orders t

  abbrev made : List (Made N S)
  made = chosen_made n orders t

  abbrev order : List (Item N S)
  order = items_of (all_acts (filter is_told deeds))

  abbrev run : OwnedRun N S
  run = run_made script made order

  sees : EachDoes SeesSo deeds
  sees = (tt, each_more SeesSo (turns_sequence orders t.turns) (Looks t.last ∷ []) (turns_see 1 (map standing_before script) is.in_turns.standings t.turns orders is.in_turns.go) (record { sight = is.in_turns.last.sight; item_is = is.in_turns.last.item_is }, tt))

  walk : Walks cap (begun 1) [] (all_acts deeds) × (leaves (begun 1) (all_acts deeds) ≡ after_all is.run.order (begun 1))
  walk = walks_from cap (all_acts deeds) (begun 1) [] is.run.order is.one_thread.one_order is.is_run.control is.one_thread.exact

  thin : Walks cap (begun 1) [] (all_acts (filter is_told deeds))
  thin = thin_walks cap deeds (begun 1) [] sees walk.0

  ends : control_at_end 1 run ≡ control_at_end 1 is.run
  ends = after_of_walk (all_acts (filter is_told deeds)) (begun 1) ∙ thin_leaves deeds (begun 1) sees ∙ walk.1

  whole : items_of (all_acts deeds) ≡ is.run.order
  whole = ap (map (λ m. m.item)) is.one_thread.one_order ∙ items_from (begun 1) is.run.order

  thins : Thins order is.run.order
  thins = subst (Thins order) whole (thins_of deeds sees)

  acts_are : all_acts (filter is_told deeds) ≡ all_acts (deeds_made made)
  acts_are = ap all_acts (sym (chosen_deeds n orders t))

  moments : made_moments made ≡ moments_from (begun 1) order
  moments = ap moments_in (sym acts_are) ∙ found_of_walk cap (all_acts (filter is_told deeds)) (begun 1) [] thin

  by_workers : AreMadeBy made
  by_workers = chosen_made_by n (map standing_before script) is.in_turns.standings t orders (moments_from (begun 1) is.run.order) (map_length script) is.in_turns.go
      (subst (AreTold 0 (moments_from (begun 1) is.run.order)) is.in_turns.workers_are is.is_run.told)

  go : (new : List ActorStanding) × EventsGo 1 (begun 1) (events_chosen n orders t) (map standing_before script) made new
  go =
      let first : Reached N S (begun 1) = record { items = []; run = tt; is = refl } in
      let turns = turns_go cap schedule.seed schedule.seed t.turns orders (begun 1) [] n (map standing_before script) (map standing_before script) is.in_turns.standings first (map_length script) (map_length script) (open_before (begun 1) script)
      (λ w. refl) is.one_thread.drawn is.in_turns.go (walks_front cap (all_acts (turns_sequence orders t.turns)) (all_acts (Looks t.last ∷ [])) (begun 1) [] (subst (Walks cap (begun 1) []) (acts_on (turns_sequence orders t.turns) (Looks t.last ∷ [])) walk.0)) in
      let reads : List (Made N S) = record { worker = n + 1 + 1; deed = Reads t.first } ∷ [] in
      (turns.0, (map standing_before script, reads, turns_made n orders t.turns, (ap (λ (k : ℕ). record { worker = k + 1 + 1; deed = Reads t.first } ∷ []) (sym (map_length script)), refl), turns.1, refl))

  exact : AreExact (pipe_capacity (control_at_end 1 run)) [] (steps_in (all_acts (deeds_made made)))
  exact = subst (λ (c : Control). AreExact (pipe_capacity c) [] (steps_in (all_acts (deeds_made made)))) (sym ends)
      (subst (λ l. AreExact cap [] (steps_in l)) acts_are (exact_of cap (all_acts (filter is_told deeds)) (begun 1) [] thin))

  of_events : IsOfEvents script 1 (events_chosen n orders t) run
  of_events = record { made = made; standings = go.0; go = go.1; workers_are = refl; one_order = moments; exact = exact }

  -- the workers, and the conductor behind them
  workers : run.workers ≡ map (steps_by made) (range_with_len 0 (worker_count script 1)) ++ steps_by made (worker_count script 1) ∷ []
  workers = map-range_with_len_more (steps_by made) 0 (worker_count script 1) (worker_count script 1) (omega arith)

  told : ToldIn run.workers is.run.workers
  told =
      subst (λ (l : List (List (List (Deed N S)))). ToldIn l is.run.workers) (sym workers)
      (subst (ToldIn (map (steps_by made) (range_with_len 0 (worker_count script 1)) ++ steps_by made (worker_count script 1) ∷ [])) (sym is.in_turns.workers_are)
      (told_range (steps_by made) (λ w. map (turn_step w) t.turns) (steps_by made (worker_count script 1)) (conductor_steps t) (worker_count script 1) 0
      (λ w le lt. steps_are w made ∙ worker_deeds n w schedule.seed orders t is.one_thread.drawn (omega (arith, lt)))
      (steps_are (worker_count script 1) made ∙ conductor_deeds n (worker_count script 1) schedule.seed orders t refl is.one_thread.drawn)))

  steps : all_steps run ≡ all_steps is.run
  steps = same_steps run is.run (told_all run.workers is.run.workers told)

  told_so : AreTold 0 (moments_from (begun 1) order) run.workers
  told_so =
      subst (AreTold 0 (moments_from (begun 1) order)) (sym workers)
      (all_told (steps_by made) (steps_by made (worker_count script 1)) (moments_from (begun 1) order) (worker_count script 1) 0 (λ i w e lt. one w) (λ w e. subst (λ (k : ℕ). moments_in (all_acts (deeds_in (steps_by made k))) ≡ moments_by w (moments_from (begun 1) order)) (e ∙ plain (worker_count script 1)) (one w)))
    where
      plain : (k : ℕ) → 0 + k ≡ k
      plain k = omega arith

      one : (w : ℕ) → moments_in (all_acts (deeds_in (steps_by made w))) ≡ moments_by w (moments_from (begun 1) order)
      one w = ap (λ l. moments_in (all_acts l)) (steps_are w made) ∙ moments_one w made by_workers ∙ ap (moments_by w) moments

  nobody : list_all (λ item. nat_lt (caller_of item) (length run.workers)) order ≡ true
  nobody =
      let few = few_made n made by_workers (placed_run 1 (begun 1) (events_chosen n orders t) (map standing_before script) made go.0 go.1 n (sym (map_length script))) in
      let many : length run.workers ≡ n + 3 = length-map (range_with_len 0 (worker_count script 1 + 1)) (steps_by made) ∙ length-range_with_len 0 (worker_count script 1 + 1) ∙ three n in
      subst (λ (k : ℕ). list_all (λ item. nat_lt (caller_of item) k) order ≡ true) (sym many) (ap (λ l. list_all (λ item. nat_lt (caller_of item) (n + 3)) (items_of l)) acts_are ∙ few)
    where
      three : (k : ℕ) → k + 1 + 1 + 1 ≡ k + 3
      three k = omega arith

  is_run : IsRun script 1 every_pipe run
  is_run = record {
    «local» = events_local script 1 (events_chosen n orders t) run of_events;
    in_order = λ p e. subst (λ l. IsPrefix (taken_from p l) (committed_to p l)) (sym steps) (is.is_run.in_order p e);
    looks = λ p e. subst (λ l. LooksHoldAt (pipe_capacity (control_at_end 1 run) p) p l) (sym steps) (subst (λ (c : Control). LooksHoldAt (pipe_capacity c p) p (all_steps is.run)) (sym ends) (is.is_run.looks p e));
    control = run_of_walk cap (all_acts (filter is_told deeds)) (begun 1) [] thin;
    «named» = thin_named is.run.order order [] [] refl thins is.is_run.named;
    asked = thin_by is.run.order order [] [] (begun 1) (λ i. refl) thins is.is_run.asked;
    told = told_so;
    nobody_else = nobody;
    links = λ o. tt;
    ended = subst (λ l. AreCountedBy l (control_at_end 1 run).settlements) (sym steps) (subst (λ (c : Control). AreCountedBy (all_steps is.run) c.settlements) (sym ends) is.is_run.ended);
  }

  pub by_events : IsEventsJournal N S script (events_chosen n orders t) j
  by_events = record { run = run; is_run = is_run; of_events = of_events; journal_is = is.journal_is ∙ sym (journals script run is.run told ends) }

pub turns_are_events : (N S : Type 0) → TurnsAreEvents N S
turns_are_events N S script schedule j is = by_events script schedule j is
