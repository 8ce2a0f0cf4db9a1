-- What the conductor does where a turn begins, and that looks alone are left out.
use Rattle.std.specs.Prelude.{◌≡◌, ◌+◌, ◌||◌, ℕ, Bool, true, false, List, [], ◌∷◌, ◌++◌, flat_map, length, refl}
use Rattle.std.proofs.Common.{sym, ap, ◌∙◌, subst, append-nil}
use Rattle.spec_control.specs.declared.entry.Item.{Item}
use Rattle.spec_control.specs.Control.{Control}
use Rattle.spec_run.specs.Act.{Deed, Tries, Shuts, Fetches, Idles, Works, Looks, AsksRoot, Reads, all_acts}
use Rattle.spec_run.specs.Standing.{ActorStanding}
use Rattle.spec_run.specs.InTurns.{OneTurn, AsksIf, Begins, ReaperStep, ActorStep, TurnsGo, turn_step, turn_sequence, turns_sequence}
use Rattle.spec_run.specs.Worker.{EachDoes}
use Rattle.spec_run.specs.CoreEvents.{AskRoot, EventsGo}
use Rattle.run_laws.proofs.TurnLemmas.{each_more}
use Rattle.replay_laws.proofs.TurnLemmas.{at_place, WorksSo, acts_so, reaps_so, serves_so, works_of}
use Rattle.replay_laws.specs.TurnsAreEvents.{asked}
use Rattle.replay_laws.proofs.DeedLemmas.{made_of}
use Rattle.replay_laws.proofs.ThinLemmas.{SeesSo}
use Rattle.replay_laws.proofs.CloseLemmas.{closes_item, closed_by, Spares, asking_spares}
use Rattle.replay_laws.proofs.EventLemmas.{one_goes}

module _ {N S : Type 0} where
  -- ---- looks are looks
  actor_sees : (old new : ActorStanding) (ds : List (Deed N S)) → ActorStep old ds new → EachDoes SeesSo ds
  actor_sees old new [] f = tt
  actor_sees old new (Tries t ∷ []) f = (tt, tt)
  actor_sees old new (Shuts acts ∷ []) f = (tt, tt)
  actor_sees old new (Fetches slot acts ∷ []) f = absurd f
  actor_sees old new (Idles m ∷ []) f = absurd f
  actor_sees old new (Works acts ∷ []) f = absurd f
  actor_sees old new (Looks m ∷ []) f = absurd f
  actor_sees old new (AsksRoot acts ∷ []) f = absurd f
  actor_sees old new (Reads now ∷ []) f = absurd f
  actor_sees old new (d ∷ e ∷ ds) f = elim f [ ]

  reaper_sees : (ds : List (Deed N S)) → ReaperStep ds → EachDoes SeesSo ds
  reaper_sees [] f = absurd f
  reaper_sees (Tries t ∷ []) f = absurd f
  reaper_sees (Shuts acts ∷ []) f = absurd f
  reaper_sees (Fetches slot acts ∷ []) f = (tt, tt)
  reaper_sees (Idles m ∷ []) f = (record { sight = f.sight; item_is = f.item_is }, tt)
  reaper_sees (Works acts ∷ []) f = absurd f
  reaper_sees (Looks m ∷ []) f = absurd f
  reaper_sees (AsksRoot acts ∷ []) f = absurd f
  reaper_sees (Reads now ∷ []) f = absurd f
  reaper_sees (d ∷ e ∷ ds) f = elim f [ ]

  pub worker_sees : (n : ℕ) (old new : ActorStanding) (w : ℕ) (ds : List (Deed N S)) → WorksSo n old new w ds → EachDoes SeesSo ds
  worker_sees n old new w ds (acts_so lt f) = actor_sees old new ds f
  worker_sees n old new w ds (reaps_so at f) = reaper_sees ds f
  worker_sees n old new w ds (serves_so gt none) = subst (EachDoes SeesSo) (sym none) tt

  workers_see : (step : ℕ → List (Deed N S)) (ws : List ℕ) → ((w : ℕ) → EachDoes SeesSo (step w)) → EachDoes SeesSo (flat_map step ws)
  workers_see step [] so = tt
  workers_see step (w ∷ ws) so = each_more SeesSo (step w) (flat_map step ws) (so w) (workers_see step ws so)

  asks_see : (b : Bool) (asks : List (Deed N S)) → AsksIf b asks → EachDoes SeesSo asks
  asks_see true asks f = subst (EachDoes SeesSo) (sym f.2) (tt, tt)
  asks_see false asks f = subst (EachDoes SeesSo) (sym f) tt

  pub begins_see : (sts : List ActorStanding) (ds : List (Deed N S)) → Begins sts ds → EachDoes SeesSo ds
  begins_see sts [] f = absurd f
  begins_see sts (Looks m ∷ asks) f = (record { sight = f.look.sight; item_is = f.look.item_is }, asks_see _ asks f.asks_if)
  begins_see sts (Tries t ∷ asks) f = absurd f
  begins_see sts (Shuts acts ∷ asks) f = absurd f
  begins_see sts (Fetches slot acts ∷ asks) f = absurd f
  begins_see sts (Idles m ∷ asks) f = absurd f
  begins_see sts (Works acts ∷ asks) f = absurd f
  begins_see sts (AsksRoot acts ∷ asks) f = absurd f
  begins_see sts (Reads now ∷ asks) f = absurd f

  pub turns_see : (io : ℕ) (olds news : List ActorStanding) (ts : List (OneTurn N S)) (orders : List (List ℕ)) → TurnsGo io olds ts news → EachDoes SeesSo (turns_sequence orders ts)
  turns_see io olds news ts [] go = tt
  turns_see io olds news [] (order ∷ orders) go = tt
  turns_see io olds news (t ∷ ts) (order ∷ orders) go =
      each_more SeesSo (turn_sequence order t) (turns_sequence orders ts)
      (each_more SeesSo t.begins (flat_map (λ w. turn_step w t) order ++ Reads t.reading ∷ []) (begins_see olds t.begins go.0)
      (each_more SeesSo (flat_map (λ w. turn_step w t) order) (Reads t.reading ∷ [])
      (workers_see (λ w. turn_step w t) order (λ w. worker_sees (length olds) (at_place olds w) (at_place go.1.0 w) w (turn_step w t) (works_of io olds t.steps go.1.0 go.1.1 w))) (tt, tt)))
      (turns_see io go.1.0 news ts orders go.1.2)

  -- ---- a turn begins
  begun_go : (c : Control) (k : ℕ) (sts : List ActorStanding) (b : Bool) (asks : List (Deed N S)) → k ≡ length sts + 1 + 1 → AsksIf b asks → EventsGo 1 c (asked asks) sts (made_of k asks) sts
  begun_go c k sts true asks at f =
      subst (λ l. EventsGo 1 c (asked l) sts (made_of k l) sts) (sym f.2)
      (one_goes 1 AskRoot c sts sts (record { worker = k; deed = AsksRoot f.0 } ∷ [])
      (record { acts = f.0; asks = f.1; made_is = ap (λ (n : ℕ). record { worker = n; deed = AsksRoot f.0 } ∷ []) at; new_is = refl }))
  begun_go c k sts false asks at f = subst (λ l. EventsGo 1 c (asked l) sts (made_of k l) sts) (sym f) (refl, refl)

  asks_spare : (b : Bool) (asks : List (Deed N S)) → AsksIf b asks → Spares (all_acts asks)
  asks_spare true asks f i = ap (λ l. closed_by i (all_acts l)) f.2 ∙ ap (closed_by i) (append-nil f.0) ∙ asking_spares f.0 f.1 i
  asks_spare false asks f i = ap (λ l. closed_by i (all_acts l)) f

  pub record Begun (c : Control) (k : ℕ) (sts : List ActorStanding) (ds : List (Deed N S)) : Type 0 where
    pub go : EventsGo 1 c (asked ds) sts (made_of k ds) sts
    pub spares : Spares (all_acts ds)

  pub turn_begun : (c : Control) (k : ℕ) (olds sts : List ActorStanding) (ds : List (Deed N S)) → k ≡ length sts + 1 + 1 → Begins olds ds → Begun c k sts ds
  turn_begun c k olds sts [] at f = absurd f
  turn_begun c k olds sts (Looks m ∷ asks) at f = record {
    go = begun_go c k sts _ asks at f.asks_if;
    spares = λ i. ap (λ (item : Item N S). closes_item i item || closed_by i (all_acts asks)) f.look.item_is ∙ asks_spare _ asks f.asks_if i;
  }
  turn_begun c k olds sts (Tries t ∷ asks) at f = absurd f
  turn_begun c k olds sts (Shuts acts ∷ asks) at f = absurd f
  turn_begun c k olds sts (Fetches slot acts ∷ asks) at f = absurd f
  turn_begun c k olds sts (Idles m ∷ asks) at f = absurd f
  turn_begun c k olds sts (Works acts ∷ asks) at f = absurd f
  turn_begun c k olds sts (AsksRoot acts ∷ asks) at f = absurd f
  turn_begun c k olds sts (Reads now ∷ asks) at f = absurd f
