-- That an end is told to be sealed where its pipe gets its delimiter.
use Rattle.std.specs.Prelude.{◌≡◌, ◌&&◌, ◌++◌, ◌∷◌, [], Bool, true, false, not, cond, List, filter, if◌then◌else◌, refl}
use Rattle.std.proofs.Common.{ap, ◌∙◌}
use Rattle.zq_base.specs.declared.ids.EndId.{EndId}
use Rattle.spec_control.specs.declared.end.EndState.{EndState}
use Rattle.spec_control.specs.declared.end.EndState.TheVariants.{Active, DelimiterGot, WaitDelimiter, AckSent, AskedOnce, AskedTwice, Gone}
use Rattle.spec_control.specs.Place.{Place, Unmade, Away, At}
use Rattle.spec_control.specs.Control.{place_of}
use Rattle.spec_control.specs.Moments.{left_by}
use Rattle.desk.specs.Holding.{is_state}
use Rattle.desk.specs.Turns.{sealed_by, turn_at, turned_over}
use Rattle.desk.proofs.TurnsLemmas.{seal_append}
use Rattle.spec_run.specs.Event.{is_asked_once}
use Rattle.run_laws.specs.SealsTold.{SealsAreTold}

-- an end is sealed where it comes to be asked once
abbrev seals : Place → Place → Bool
seals before now = is_asked_once now && not (is_asked_once before)

unless_stays : (e : EndId) (s : EndState) (b : Bool) → is_state s AskedOnce ≡ false → sealed_by (if b then [] else (e, s) ∷ []) ≡ []
unless_stays e s true other = refl
unless_stays e s false other = ap (λ (x : Bool). if x then e ∷ [] else []) other

seal_one : (e : EndId) (before now : Place) → sealed_by (turn_at e before now) ≡ cond (seals before now) (e ∷ []) []
seal_one e before Unmade = refl
seal_one e before Away = refl
seal_one e before (At Active) = unless_stays e Active _ refl
seal_one e before (At DelimiterGot) = unless_stays e DelimiterGot _ refl
seal_one e before (At WaitDelimiter) = unless_stays e WaitDelimiter _ refl
seal_one e before (At AckSent) = unless_stays e AckSent _ refl
seal_one e Unmade (At AskedOnce) = refl
seal_one e Away (At AskedOnce) = refl
seal_one e (At Active) (At AskedOnce) = refl
seal_one e (At DelimiterGot) (At AskedOnce) = refl
seal_one e (At WaitDelimiter) (At AskedOnce) = refl
seal_one e (At AckSent) (At AskedOnce) = refl
seal_one e (At AskedOnce) (At AskedOnce) = refl
seal_one e (At AskedTwice) (At AskedOnce) = refl
seal_one e (At Gone) (At AskedOnce) = refl
seal_one e before (At AskedTwice) = unless_stays e AskedTwice _ refl
seal_one e before (At Gone) = unless_stays e Gone _ refl

seal_all : (before now : EndId → Place) (es : List EndId) → sealed_by (turned_over before now es) ≡ filter (λ e. seals (before e) (now e)) es
seal_all before now [] = refl
seal_all before now (e ∷ es) =
    seal_append (turn_at e (before e) (now e)) (turned_over before now es)
    ∙ ap (λ (xs : List EndId). xs ++ sealed_by (turned_over before now es)) (seal_one e (before e) (now e))
    ∙ ap (λ (xs : List EndId). cond (seals (before e) (now e)) (e ∷ []) [] ++ xs) (seal_all before now es)
    ∙ by (seals (before e) (now e))
  where
    by : (b : Bool) → cond b (e ∷ []) [] ++ filter (λ d. seals (before d) (now d)) es ≡ cond b (e ∷ filter (λ d. seals (before d) (now d)) es) (filter (λ d. seals (before d) (now d)) es)
    by true = refl
    by false = refl

pub seals_are_told : (N S : Type 0) → SealsAreTold N S
seals_are_told N S m = seal_all (place_of m.found) (place_of (left_by m)) (left_by m).attached
