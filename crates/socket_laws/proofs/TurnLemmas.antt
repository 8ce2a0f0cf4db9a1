-- What is told of ends in an item.
use Rattle.std.specs.Prelude.{◌≡◌, ◌∷◌, [], Bool, true, false, List, All, if◌then◌else◌, refl}
use Rattle.std.proofs.Common.{ap, ◌∙◌}
use Rattle.std.proofs.lemmas.List.Elements.{All-nil, All-cons, All-head, All-tail, All-append}
use Rattle.zq_base.specs.declared.ids.EndId.{EndId}
use Rattle.spec_control.specs.declared.end.EndState.{EndState}
use Rattle.spec_control.specs.declared.end.EndState.TheVariants.{Active, DelimiterGot, WaitDelimiter, AckSent, AskedOnce, AskedTwice, Gone}
use Rattle.spec_control.specs.Place.{Place, Unmade, Away, At}
use Rattle.spec_control.specs.Control.{place_of}
use Rattle.spec_control.specs.Moments.{left_by}
use Rattle.control_laws.proofs.ListLemmas.{never}
use Rattle.desk.specs.Holding.{is_state}
use Rattle.desk.specs.Turns.{state_before, turn_at, turned_over, turned_in, sealed_by}
use Rattle.socket_laws.specs.Ways.{TurnsAreSo}

module _ (now : EndId → Place) where
  abbrev ComesTo : EndId × EndState → Type 0
  ComesTo t = now t.0 ≡ At t.1

  turn_so : (e : EndId) (before p : Place) → now e ≡ p → All ComesTo (turn_at e before p)
  turn_so e before Unmade is = All-nil ComesTo
  turn_so e before Away is = All-nil ComesTo
  turn_so e before (At state) is = by (is_state (state_before before state) state)
    where
      by : (b : Bool) → All ComesTo (if b then [] else (e, state) ∷ [])
      by true = All-nil ComesTo
      by false = All-cons ComesTo (e, state) [] is (All-nil ComesTo)

  turns_so : (before : EndId → Place) (es : List EndId) → All ComesTo (turned_over before now es)
  turns_so before [] = All-nil ComesTo
  turns_so before (e ∷ es) = All-append ComesTo (turn_at e (before e) (now e)) (turned_over before now es) (turn_so e (before e) (now e) refl) (turns_so before es)

once_is : (s : EndState) → is_state s AskedOnce ≡ true → s ≡ AskedOnce
once_is Active h = absurd (never h)
once_is DelimiterGot h = absurd (never h)
once_is WaitDelimiter h = absurd (never h)
once_is AckSent h = absurd (never h)
once_is AskedOnce h = refl
once_is AskedTwice h = absurd (never h)
once_is Gone h = absurd (never h)

sealed_so : (now : EndId → Place) (ts : List (EndId × EndState)) → All (ComesTo now) ts → All (λ e. now e ≡ At AskedOnce) (sealed_by ts)
sealed_so now [] all = All-nil (λ e. now e ≡ At AskedOnce)
sealed_so now (t ∷ ts) all = by (is_state t.1 AskedOnce) refl (sealed_so now ts (All-tail (ComesTo now) t ts all))
  where
    by : (b : Bool) → is_state t.1 AskedOnce ≡ b → All (λ e. now e ≡ At AskedOnce) (sealed_by ts) → All (λ e. now e ≡ At AskedOnce) (if b then t.0 ∷ sealed_by ts else sealed_by ts)
    by true is rest = All-cons (λ e. now e ≡ At AskedOnce) t.0 (sealed_by ts) (All-head (ComesTo now) t ts all ∙ ap (λ (s : EndState). At s) (once_is t.1 is)) rest
    by false is rest = rest

pub turns_are_so : (N S : Type 0) → TurnsAreSo N S
turns_are_so N S m =
    let all = turns_so (place_of (left_by m)) (place_of m.found) (left_by m).attached in
    record { turns = all; sealed = sealed_so (place_of (left_by m)) (turned_in m.found (left_by m)) all }
