-- Whatever events come, a script over inproc asks nothing over tcp.
use Rattle.std.specs.Prelude.{◌≡◌, ◌==◌, ◌+◌, ℕ, zero, suc, Bool, true, false, List, [], ◌∷◌, ◌++◌, Option, Some, None, length, map, slice_get, slice_set, refl}
use Rattle.std.proofs.Common.{sym, ap, ◌∙◌, subst, append-nil}
use Rattle.std.specs.List.{list_all, list_any}
use Rattle.control_laws.proofs.ListLemmas.{left, right}
use Rattle.spec_control.specs.Control.{Control, begun}
use Rattle.spec_control.specs.Moments.{Moment, reaper_slots}
use Rattle.spec_run.specs.Script.{Script}
use Rattle.spec_run.specs.Act.{Deed, Fetches, AsksRoot, Reads, all_acts}
use Rattle.spec_run.specs.Standing.{ActorStanding, standing_before, has_finished}
use Rattle.spec_run.specs.OwnedRun.{OwnedRun}
use Rattle.spec_run.specs.CoreEvents.{CoreEvent, NextLine, TakeFrom, AskRoot, Tick, Made, deeds_made, may_take, actor_with, control_behind, DoesNothing, StepsUnless, LineDoes, TakenBy, TakeDoes, EventDoes, EventsGo, IsOfEvents}
use Rattle.run_laws.proofs.GoesLemmas.{made_acts}
use Rattle.replay_laws.specs.Local.{is_local_item}
use Rattle.replay_laws.proofs.TurnLemmas.{set_holds}
use Rattle.replay_laws.specs.LocalScript.{are_local_lines, is_local_script}
use Rattle.replay_laws.proofs.ItemLemmas.{are_local, are_plain, all_on, plain_local, taken, actor_local, lines_stay, asks_plain}
use Rattle.replay_laws.proofs.DoneLemmas.{order_local}

-- the lines of each actor ask nothing over tcp
abbrev AllLocal : List ActorStanding → Type 0
AllLocal sts = (w : ℕ) (st : ActorStanding) → slice_get sts w ≡ Some st → are_local_lines st.lines ≡ true

begun_local : (script : Script) → is_local_script script ≡ true → AllLocal (map standing_before script)
begun_local [] is w st e = absurd (nope e)
  where
    nope : ◌≡◌ {A = Option ActorStanding} None (Some st) → ⊥
    nope f = cc
begun_local (actor ∷ script) is zero st e = ap (λ (z : ActorStanding). are_local_lines z.lines) (sym (same e)) ∙ left (are_local_lines actor.lines) _ is
  where
    same : ◌≡◌ {A = Option ActorStanding} (Some (standing_before actor)) (Some st) → standing_before actor ≡ st
    same f = cc
begun_local (actor ∷ script) is (suc w) st e = begun_local script (right (are_local_lines actor.lines) _ is) w st e

module _ {N S : Type 0} where
  -- an event asks nothing over tcp, nor will the lines behind it
  record EventLocal (made : List (Made N S)) (news : List ActorStanding) : Type 0 where
    acts : are_local (all_acts (deeds_made made)) ≡ true
    lines : AllLocal news

  module _ (olds : List ActorStanding) (made : List (Made N S)) (news : List ActorStanding) (all : AllLocal olds) where
    idle_local : DoesNothing olds made news → EventLocal made news
    idle_local f = record { acts = ap (λ (l : List (Made N S)). are_local (all_acts (deeds_made l))) f.0; lines = subst AllLocal (sym f.1) all }

    one_local : (w : ℕ) (d : Deed N S) → made ≡ record { worker = w; deed = d } ∷ [] → are_local (all_acts (d ∷ [])) ≡ true → AllLocal news → EventLocal made news
    one_local w d is local lines = record { acts = ap (λ (l : List (Made N S)). are_local (all_acts (deeds_made l))) is ∙ local; lines = lines }

    moved_local : (w : ℕ) (st next : ActorStanding) → slice_get olds w ≡ Some st → news ≡ slice_set olds w next → are_local_lines next.lines ≡ true → AllLocal news
    moved_local w st next here is local = subst AllLocal (sym is) (set_holds (λ (z : ActorStanding). are_local_lines z.lines ≡ true) olds w st next all here local)

    unless_local : (finished : Bool) (w : ℕ) (st : ActorStanding) → slice_get olds w ≡ Some st → StepsUnless finished w st olds made news → EventLocal made news
    unless_local true w st here f = idle_local f
    unless_local false w st here f =
        one_local w f.deed f.made_is (actor_local st f.next (f.deed ∷ []) f.step (all w st here)) (moved_local w st f.next here f.new_is (lines_stay st f.next (f.deed ∷ []) f.step (all w st here)))

    line_local : (w : ℕ) (found : Option ActorStanding) → slice_get olds w ≡ found → LineDoes w found olds made news → EventLocal made news
    line_local w None here f = idle_local f
    line_local w (Some st) here f = unless_local (has_finished st) w st here f

    taken_local : (found : Option ℕ) (has : Bool) (reaper slot : ℕ) → TakenBy found has reaper slot olds made news → EventLocal made news
    taken_local (Some actor) has reaper slot f =
        one_local actor (Fetches slot f.acts) f.made_is (plain_local (f.acts ++ []) (ap are_plain (append-nil f.acts) ∙ taken slot f.acts f.fetches.takes))
        (moved_local actor f.st f.next f.there f.new_is (ap (λ (z : ActorStanding). are_local_lines z.lines) f.fetches.new_is ∙ all actor f.st f.there))
    taken_local None true reaper slot f =
        one_local reaper (Fetches slot f.acts) f.made_is (plain_local (f.acts ++ []) (ap are_plain (append-nil f.acts) ∙ taken slot f.acts f.takes)) (subst AllLocal (sym f.new_is) all)
    taken_local None false reaper slot f = idle_local f

    take_local : (may : Bool) (c : Control) (reaper slot : ℕ) → TakeDoes may c reaper slot olds made news → EventLocal made news
    take_local true c reaper slot f = taken_local (actor_with slot 0 olds) (list_any (λ k. k == slot) (reaper_slots c)) reaper slot f
    take_local false c reaper slot f = idle_local f

    event_local : (io : ℕ) (c : Control) (event : CoreEvent) → EventDoes io c event olds made news → EventLocal made news
    event_local io c (NextLine w) f = line_local w (slice_get olds w) refl f
    event_local io c (TakeFrom slot) f = take_local (may_take c slot) c (length olds) slot f
    event_local io c AskRoot f = one_local (length olds + 1 + io) (AsksRoot f.acts) f.made_is (plain_local (all_acts (AsksRoot f.acts ∷ [])) (asks_plain true (AsksRoot f.acts ∷ []) (f.acts, f.asks, refl))) (subst AllLocal (sym f.new_is) all)
    event_local io c (Tick now) f = one_local (length olds + 1 + io) (Reads now) f.0 refl (subst AllLocal (sym f.1) all)

  events_local : (io : ℕ) (events : List CoreEvent) (c : Control) (olds news : List ActorStanding) (made : List (Made N S)) → AllLocal olds → EventsGo io c events olds made news → are_local (all_acts (deeds_made made)) ≡ true
  events_local io [] c olds news made all go = ap (λ (l : List (Made N S)). are_local (all_acts (deeds_made l))) go.0
  events_local io (event ∷ events) c olds news made all (mid, first, rest, does, go, parts) =
      let one = event_local olds first mid all io c event does in
      ap (λ (l : List (Made N S)). are_local (all_acts (deeds_made l))) parts ∙ ap are_local (made_acts first rest)
      ∙ all_on is_local_item (all_acts (deeds_made first)) (all_acts (deeds_made rest)) one.acts (events_local io events (control_behind first c) mid news rest one.lines go)

  pub script_local_by_events : (script : Script) (io : ℕ) (events : List CoreEvent) (run : OwnedRun N S) → IsOfEvents script io events run → is_local_script script ≡ true → list_all is_local_item run.order ≡ true
  script_local_by_events script io events run of_events is =
      let test : List (Moment N S) → Bool = list_all (λ (m : Moment N S). is_local_item m.item) in
      order_local run.order (begun io) (ap test (sym of_events.one_order) ∙ events_local io events (begun io) (map standing_before script) of_events.standings of_events.made (begun_local script is) of_events.go)
