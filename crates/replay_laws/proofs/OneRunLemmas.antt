-- A run by events is settled by its script and its events, and so is its journal.
use Rattle.std.proofs.Common.{◌≡◌, ◌+◌, ℕ, zero, suc, List, [], ◌∷◌, ◌++◌, Bool, true, false, Option, Some, None, map, refl, sym, ap, subst, ◌∙◌}
use Rattle.std.specs.Prelude.{◌==◌, cond, filter, slice_get}
use Rattle.std.specs.List.{range_with_len}
use Rattle.std.proofs.lemmas.List.{map-append}
use Rattle.zq_base.specs.Ends.{PipeId}
use Rattle.spec_pattern.specs.PipeStep.{PipeStep}
use Rattle.spec_control.specs.Control.{Control, begun}
use Rattle.spec_run.specs.Script.{Script}
use Rattle.spec_run.specs.Act.{steps_in, all_acts}
use Rattle.spec_run.specs.Standing.{ActorStanding, standing_before}
use Rattle.spec_run.specs.OwnedRun.{AreCountedBy, pipe_capacity, control_at_end, all_steps, deeds_in}
use Rattle.spec_run.specs.InTurns.{worker_count}
use Rattle.spec_run.specs.CoreEvents.{CoreEvent, Made, deeds_made, made_by_worker, EventsGo}
use Rattle.run_laws.specs.CapacitiesStay.{CapacitiesStay}
use Rattle.run_laws.proofs.GoesLemmas.{made_acts}
use Rattle.replay_laws.specs.Blank.{blank}
use Rattle.replay_laws.proofs.WalkLemmas.{leaves, Walks, leaves_on, walks_front, walks_behind, Reached, reached_on, Same, same_none, same_both, same_as}
use Rattle.replay_laws.proofs.LookLemmas.{behind_walks}
use Rattle.replay_laws.proofs.TryLemmas.{Ahead, ahead_before}
use Rattle.replay_laws.proofs.StepLemmas.{Bare, bare}
use Rattle.replay_laws.proofs.LineLemmas.{EachStands}
use Rattle.replay_laws.proofs.JournalLemmas.{walks_from, bares_of, same_steps_of, journals, counted_same, whole_again}
use Rattle.replay_laws.specs.OneEventsJournal.{EventsHaveOneJournal}
use Rattle.replay_laws.proofs.EventLemmas.{behind_is}
use Rattle.replay_laws.proofs.OneEventLemmas.{AllStand, shown_of, event_same}

none_before : (script : Script) (w : ℕ) (st : ActorStanding) → slice_get (map standing_before script) w ≡ Some st → st.mine.socks ≡ []
none_before [] w st e = absurd (nope e)
  where
    nope : ◌≡◌ {A = Option ActorStanding} None (Some st) → ⊥
    nope f = cc
none_before (actor ∷ script) zero st e = ap (λ (z : ActorStanding). z.mine.socks) (sym (same e))
  where
    same : ◌≡◌ {A = Option ActorStanding} (Some (standing_before actor)) (Some st) → standing_before actor ≡ st
    same f = cc
none_before (actor ∷ script) (suc w) st e = none_before script w st e

-- what a worker shows
abbrev shown_by : ℕ → List (ℕ × Bare) → List Bare
shown_by w shown = map (λ x. x.1) (filter (λ x. x.0 == w) shown)

module _ {N S : Type 0} where
  -- ---- events, one after another
  pub record EventsSame (c d : Control) (made made2 : List (Made N S)) : Type 0 where
    pub same : Same c d (all_acts (deeds_made made)) (all_acts (deeds_made made2))
    pub shown : map shown_of made ≡ map shown_of made2

  pub events_same : (cap cup : PipeId → ℕ) (events : List CoreEvent) (c d : Control) (past : List PipeStep) (olds : List ActorStanding) (made made2 : List (Made N S)) (news news2 : List ActorStanding) → Reached N S c → Reached N S d → blank c ≡ blank d
      → AllStand c olds → AllStand d olds → Walks cap c past (all_acts (deeds_made made)) → Walks cup d past (all_acts (deeds_made made2)) → Ahead N S cap (leaves c (all_acts (deeds_made made))) → Ahead N S cup (leaves d (all_acts (deeds_made made2)))
      → EventsGo 1 c events olds made news → EventsGo 1 d events olds made2 news2 → EventsSame c d made made2
  events_same cap cup [] c d past olds made made2 news news2 r q p stand stand_too walk walk_too ahead ahead_too f g = record {
    same = same_as c d (all_acts (deeds_made made)) (all_acts (deeds_made made2)) [] [] (ap (λ (l : List (Made N S)). all_acts (deeds_made l)) f.0) (ap (λ (l : List (Made N S)). all_acts (deeds_made l)) g.0) (same_none c d p);
    shown = ap (map shown_of) f.0 ∙ sym (ap (map shown_of) g.0);
  }
  events_same cap cup (event ∷ events) c d past olds made made2 news news2 r q p stand stand_too walk walk_too ahead ahead_too (mid, first, rest, does, go, parts) (mid2, first2, rest2, does2, go2, parts2) =
      let xs = all_acts (deeds_made first) in
      let ys = all_acts (deeds_made first2) in
      let us = all_acts (deeds_made rest) in
      let vs = all_acts (deeds_made rest2) in
      let is : all_acts (deeds_made made) ≡ xs ++ us = ap (λ (l : List (Made N S)). all_acts (deeds_made l)) parts ∙ made_acts first rest in
      let is2 : all_acts (deeds_made made2) ≡ ys ++ vs = ap (λ (l : List (Made N S)). all_acts (deeds_made l)) parts2 ∙ made_acts first2 rest2 in
      let w1 = subst (Walks cap c past) is walk in
      let w2 = subst (Walks cup d past) is2 walk_too in
      let front = walks_front cap xs us c past w1 in
      let front2 = walks_front cup ys vs d past w2 in
      let behind = walks_behind cap xs us c past w1 in
      let r1 = reached_on cap xs c past r front in
      let q1 = reached_on cup ys d past q front2 in
      let end = subst (Ahead N S cap) (ap (leaves c) is ∙ leaves_on xs us c) ahead in
      let end2 = subst (Ahead N S cup) (ap (leaves d) is2 ∙ leaves_on ys vs d) ahead_too in
      let ahead1 = ahead_before cap cap us (leaves c xs) (past ++ steps_in xs) behind end in
      let ahead2 = ahead_before cup cup vs (leaves d ys) (past ++ steps_in ys) (walks_behind cup ys vs d past w2) end2 in
      let one = event_same cap cup c d past olds first first2 mid mid2 r q p stand stand_too front front2 ahead1 ahead2 event does does2 in
      let on : EventsGo 1 (leaves c xs) events mid rest news = subst (λ (x : Control). EventsGo 1 x events mid rest news) (behind_is first c) go in
      let on2 : EventsGo 1 (leaves d ys) events mid rest2 news2 = subst (λ (l : List ActorStanding). EventsGo 1 (leaves d ys) events l rest2 news2) (sym one.news_are) (subst (λ (x : Control). EventsGo 1 x events mid2 rest2 news2) (behind_is first2 d) go2) in
      let later = events_same cap cup events (leaves c xs) (leaves d ys) (past ++ steps_in xs) mid rest rest2 news news2 r1 q1 one.same.states one.stand (subst (AllStand (leaves d ys)) (sym one.news_are) one.stand_too)
      behind (behind_walks cup c d past xs ys vs one.same w2) end end2 on on2 in
      record {
        same = same_as c d (all_acts (deeds_made made)) (all_acts (deeds_made made2)) (xs ++ us) (ys ++ vs) is is2 (same_both c d xs ys us vs one.same later.same);
        shown = ap (map shown_of) parts ∙ map-append shown_of first rest ∙ (λ i. one.shown i ++ later.shown i) ∙ sym (ap (map shown_of) parts2 ∙ map-append shown_of first2 rest2);
      }

  -- ---- what each worker shows
  worker_shows : (w : ℕ) (made : List (Made N S)) → map bare (deeds_in (map (λ m. m.deed ∷ []) (made_by_worker w made))) ≡ shown_by w (map shown_of made)
  worker_shows w [] = refl
  worker_shows w (m ∷ made) = by (m.worker == w) (worker_shows w made)
    where
      by : (b : Bool) → map bare (deeds_in (map (λ x. x.deed ∷ []) (made_by_worker w made))) ≡ shown_by w (map shown_of made)
          → map bare (deeds_in (map (λ x. x.deed ∷ []) (cond b (m ∷ made_by_worker w made) (made_by_worker w made)))) ≡ map (λ x. x.1) (cond b (shown_of m ∷ filter (λ x. x.0 == w) (map shown_of made)) (filter (λ x. x.0 == w) (map shown_of made)))
      by true rest = ap (λ (l : List Bare). bare m.deed ∷ l) rest
      by false rest = rest

  workers_show : (ws : List ℕ) (made : List (Made N S)) → bares_of (map (λ w. map (λ m. m.deed ∷ []) (made_by_worker w made)) ws) ≡ map (λ w. shown_by w (map shown_of made)) ws
  workers_show [] made = refl
  workers_show (w ∷ ws) made = let first = worker_shows w made in let rest = workers_show ws made in λ i. first i ∷ rest i

-- two journals of a script by one list of events are one
pub one_events_journal : (N S : Type 0) → CapacitiesStay N S → EventsHaveOneJournal N S
one_events_journal N S stay script events j k g h =
    let a = g.of_events in
    let b = h.of_events in
    let cap = pipe_capacity (control_at_end 1 g.run) in
    let cup = pipe_capacity (control_at_end 1 h.run) in
    let one = walks_from cap (all_acts (deeds_made a.made)) (begun 1) [] g.run.order a.one_order g.is_run.control a.exact in
    let other = walks_from cup (all_acts (deeds_made b.made)) (begun 1) [] h.run.order b.one_order h.is_run.control b.exact in
    let begins : Reached N S (begun 1) = record { items = []; run = tt; is = refl } in
    let none : AllStand (begun 1) (map standing_before script) = λ w st at. subst (EachStands (begun 1)) (sym (none_before script w st at)) tt in
    let all = events_same cap cup events (begun 1) (begun 1) [] (map standing_before script) a.made b.made a.standings b.standings begins begins refl none none one.0 other.0
    (record { more = []; run = tt; cap_is = λ e. ap (λ (x : Control). pipe_capacity x e) (sym one.1); stay = stay })
    (record { more = []; run = tt; cap_is = λ e. ap (λ (x : Control). pipe_capacity x e) (sym other.1); stay = stay }) a.go b.go in
    let ws = range_with_len 0 (worker_count script 1 + 1) in
    let bares : bares_of g.run.workers ≡ bares_of h.run.workers =
    ap bares_of a.workers_are ∙ workers_show ws a.made ∙ ap (λ (l : List (ℕ × Bare)). map (λ w. shown_by w l) ws) all.shown ∙ sym (ap bares_of b.workers_are ∙ workers_show ws b.made) in
    let states : blank (control_at_end 1 g.run) ≡ blank (control_at_end 1 h.run) = sym (ap blank one.1) ∙ all.same.states ∙ ap blank other.1 in
    let steps : all_steps g.run ≡ all_steps h.run = same_steps_of g.run h.run bares in
    let settled = counted_same (all_steps h.run) (control_at_end 1 g.run).settlements (control_at_end 1 h.run).settlements
    (subst (λ l. AreCountedBy l (control_at_end 1 g.run).settlements) steps g.is_run.ended) h.is_run.ended (ap (λ (x : Control). x.settlements) states) in
    g.journal_is ∙ journals script g.run h.run bares (whole_again (control_at_end 1 g.run) (control_at_end 1 h.run) states settled) ∙ sym h.journal_is
