use Rattle.std.specs.Prelude.{◌≡◌, true, false, List, [], ◌∷◌, Option, Some, None, IsSome, refl}
use Rattle.std.specs.List.{list_any}
use Rattle.std.proofs.Common.{arith}
use Rattle.spec_control.specs.declared.end.EndState.{EndState}
use Rattle.spec_control.specs.declared.end.EndState.TheVariants.{Active, DelimiterGot, WaitDelimiter, AckSent, AskedOnce, AskedTwice, Gone}
use Rattle.spec_control.specs.declared.end.EndEvent.{EndEvent}
use Rattle.spec_control.specs.declared.end.EndEvent.TheVariants.{Asked, TermCame, DelimiterSeen, AckCame}
use Rattle.spec_control.specs.declared.end.Reason.{Reason}
use Rattle.spec_control.specs.EndLife.{Life, ReasonFits, life_after, comes, has_met}
use Rattle.spec_control.specs.EndRun.{MayAllCome, life_over, is_delimiter, MetEndsAreReadOut, UnaskedEndsAreReadOut}
use Rattle.spec_control.proofs.EndRunLemmas.{first_is_kept}

never : false ≡ true → ⊥
never h = Prim.grind arith

some_is_none : {X : Type 0} {x : X} {o : Option X} → o ≡ Some x → o ≡ None → ⊥
some_is_none h k = Prim.grind (arith, h, k)

active_is_gone : Active ≡ Gone → ⊥
active_is_gone h = Prim.grind arith

waits_is_gone : WaitDelimiter ≡ Gone → ⊥
waits_is_gone h = Prim.grind arith

-- an end that is read, and was not asked
abbrev reads : EndState → Life
reads state = record { state = state; reason = None }

while_waiting : (events : List EndEvent) → MayAllCome (reads WaitDelimiter) events →
    (life_over (reads WaitDelimiter) events).state ≡ Gone → (life_over (reads WaitDelimiter) events).reason ≡ None → list_any is_delimiter events ≡ true
while_waiting [] may gone unasked = absurd (waits_is_gone gone)
while_waiting (Asked why true ∷ events) may gone unasked = while_waiting events may.1 gone unasked
while_waiting (Asked why false ∷ events) may gone unasked =
    absurd (some_is_none (first_is_kept (life_after (Asked why false) (reads WaitDelimiter)) why events refl) unasked)
while_waiting (TermCame ∷ events) may gone unasked = absurd (never may.0)
while_waiting (DelimiterSeen ∷ events) may gone unasked = refl
while_waiting (AckCame ∷ events) may gone unasked = absurd (never may.0)

while_active : (events : List EndEvent) → MayAllCome (reads Active) events →
    (life_over (reads Active) events).state ≡ Gone → (life_over (reads Active) events).reason ≡ None → list_any is_delimiter events ≡ true
while_active [] may gone unasked = absurd (active_is_gone gone)
while_active (Asked why delay ∷ events) may gone unasked =
    absurd (some_is_none (first_is_kept (life_after (Asked why delay) (reads Active)) why events refl) unasked)
while_active (TermCame ∷ events) may gone unasked = while_waiting events may.1 gone unasked
while_active (DelimiterSeen ∷ events) may gone unasked = refl
while_active (AckCame ∷ events) may gone unasked = absurd (never may.0)

pub unasked_ends_are_read_out : UnaskedEndsAreReadOut
unasked_ends_are_read_out events may gone unasked = while_active events may gone unasked

asked_has_not : (state : EndState) (reason : Option Reason) (first : Reason) → reason ≡ Some first → has_met state reason ≡ true → ⊥
asked_has_not state None first e h = Prim.grind (arith, e)
asked_has_not state (Some reason) first e h = never h

met_while_waiting : (events : List EndEvent) → MayAllCome (reads WaitDelimiter) events →
    has_met (life_over (reads WaitDelimiter) events).state (life_over (reads WaitDelimiter) events).reason ≡ true → list_any is_delimiter events ≡ true
met_while_waiting [] may met = absurd (never met)
met_while_waiting (Asked why true ∷ events) may met = met_while_waiting events may.1 met
met_while_waiting (Asked why false ∷ events) may met =
    absurd (asked_has_not _ _ why (first_is_kept (life_after (Asked why false) (reads WaitDelimiter)) why events refl) met)
met_while_waiting (TermCame ∷ events) may met = absurd (never may.0)
met_while_waiting (DelimiterSeen ∷ events) may met = refl
met_while_waiting (AckCame ∷ events) may met = absurd (never may.0)

met_while_active : (events : List EndEvent) → MayAllCome (reads Active) events →
    has_met (life_over (reads Active) events).state (life_over (reads Active) events).reason ≡ true → list_any is_delimiter events ≡ true
met_while_active [] may met = absurd (never met)
met_while_active (Asked why delay ∷ events) may met =
    absurd (asked_has_not _ _ why (first_is_kept (life_after (Asked why delay) (reads Active)) why events refl) met)
met_while_active (TermCame ∷ events) may met = met_while_waiting events may.1 met
met_while_active (DelimiterSeen ∷ events) may met = refl
met_while_active (AckCame ∷ events) may met = absurd (never may.0)

none_is_some : {X : Type 0} (o : Option X) → o ≡ None → IsSome o → ⊥
none_is_some None e h = never h
none_is_some (Some x) e h = some_is_none refl e

settled_has_met : (state : EndState) (reason : Option Reason) → ReasonFits state reason → comes AckCame state ≡ true → reason ≡ None → has_met state reason ≡ true
settled_has_met Active reason fits may none = absurd (never may)
settled_has_met DelimiterGot reason fits may none = absurd (never may)
settled_has_met WaitDelimiter reason fits may none = absurd (never may)
settled_has_met AckSent None fits may none = refl
settled_has_met AckSent (Some reason) fits may none = absurd (some_is_none refl none)
settled_has_met AskedOnce reason fits may none = absurd (none_is_some reason none fits)
settled_has_met AskedTwice reason fits may none = absurd (none_is_some reason none fits)
settled_has_met Gone reason fits may none = absurd (never may)

pub met_ends_are_read_out : MetEndsAreReadOut
met_ends_are_read_out = record {
  met = met_while_active;
  settled = λ life fits may none. settled_has_met life.state life.reason fits may none;
}
