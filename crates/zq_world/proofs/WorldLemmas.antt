-- A world at its making, behind an event, and where memory was wanting.
use Rattle.std.proofs.Common.{◌≡◌, ℕ, List, [], ◌∷◌, ◌++◌, true, false, length, map, take, drop, sym, subst, ◌∙◌, true≢false}
use Rattle.std.specs.Prelude.{Result, Ok, Err, IfOk, OnOk}
use Rattle.std.specs.Result.{result_and}
use Rattle.std.proofs.lemmas.List.{map-append}
use Rattle.spec_run.specs.Script.{Script}
use Rattle.spec_run.specs.OpenSocket.{OpenSock}
use Rattle.spec_run.specs.CoreEvents.{CoreEvent}
use Rattle.zq_world.specs.MayAsk.{MayAskScript}
use Rattle.zq_world.specs.Piece.{Piece}
use Rattle.zq_world.specs.declared.actor.Actor.{Actor}
use Rattle.zq_world.specs.CoreCalls.{IsReaper}
use Rattle.zq_world.specs.Turning.{ActorsAgree}
use Rattle.zq_world.specs.Played.{AreNew}
use Rattle.zq_world.specs.declared.event.Event.{Event}
use Rattle.zq_world.specs.ByEvents.{core_event, known_of, DoesEvent, HasRun, HasDone, IsWorld}
use Rattle.zq_world.proofs.EventLemmas.{has_none, has_more, alone_run}
use Rattle.zq_world.proofs.PlayLemmas.{new_agree, written_back}

-- what both gave, where what the first tells leads to what the second has
pub both_ok : {T U E : Type 0} (r : Result T E) (s : Result U E) (Q : Type 0) (P : U → Type 0) → OnOk r Q → (Q → IfOk s P) → IfOk (result_and r s) P
both_ok (Ok x) s Q P q h = h q
both_ok (Err e) s Q P q h = tt

-- the events behind one more
pub events_then : (done : List (Event × Unit {0})) (event : Event) → map (λ (x : Event × Unit {0}). core_event x.0) (done ++ (event, tt) ∷ []) ≡ map (λ (x : Event × Unit {0}). core_event x.0) done ++ core_event event ∷ []
events_then done event = map-append (λ (x : Event × Unit {0}). core_event x.0) done ((event, tt) ∷ [])

module _ {W O N S : Type 0} (as_open : O → OpenSock) (agrees : W → ℕ → O → Type 0) (was_made : W → ℕ → Type 0) (pieces : W → List (Piece N S)) where
  pub world_new : (script : Script) (way : W) (actors : List (Actor O)) → MayAskScript script → AreNew script actors → pieces way ≡ [] → IsWorld as_open agrees was_made pieces (known_of script [] false) way actors
  world_new script way actors may new none e = record { agree = new_agree as_open agrees was_made way script actors may new; ran = has_none as_open script actors (pieces way) new none }

  pub world_more : (script : Script) (done : List (Event × Unit {0})) (event : Event) (old new : W) (actors lent : List (Actor O)) (n : ℕ) → n ≡ length actors → HasDone as_open agrees was_made pieces script (map (λ x. core_event x.0) done) old actors
      → DoesEvent as_open (core_event event) actors lent (pieces old) (pieces new) → ActorsAgree as_open agrees was_made new lent
      → IsWorld as_open agrees was_made pieces (known_of script (done ++ (event, tt) ∷ []) false) new (take n (lent ++ drop (length lent) actors))
  world_more script done event old new actors lent n many world does agree e =
      subst (λ (l : List (Actor O)). HasDone as_open agrees was_made pieces script (map (λ x. core_event x.0) (done ++ (event, tt) ∷ [])) new l) (sym (written_back n lent actors (does.count ∙ sym many)))
      (record {
        agree = agree;
        ran = subst (λ (events : List CoreEvent). HasRun as_open script events lent (pieces new)) (sym (events_then done event))
            (has_more as_open script (map (λ x. core_event x.0) done) (core_event event) actors lent (pieces old) (pieces new) world.ran does);
      })

  pub world_stops : (script : Script) (done : List (Event × Unit {0})) (way : W) (actors : List (Actor O)) → IsWorld as_open agrees was_made pieces (known_of script done true) way actors
  world_stops script done way actors e = absurd (true≢false e)

  pub world_alone : (script : Script) (events : List CoreEvent) (way : W) (actors : List (Actor O)) → HasDone as_open agrees was_made pieces script events way actors → IsReaper (length actors) (pieces way)
  world_alone script events way actors world = alone_run as_open script events actors (pieces way) world.ran
