-- One more actor before its first line.
use Rattle.std.proofs.Common.{◌≡◌, ◌∙◌, ◌<◌, ◌+◌, ℕ, List, [], ◌∷◌, ◌++◌, length, map, take, get_or, sym, ap, subst}
use Rattle.std.specs.List.{AllByRecursion}
use Rattle.std.proofs.lemmas.List.{map-append, take_more}
use Rattle.spec_run.specs.declared.script.ActorScript.{ActorScript}
use Rattle.spec_run.specs.Script.{Script}
use Rattle.spec_run.specs.OpenSocket.{OpenSock}
use Rattle.spec_run.specs.Standing.{standing_before}
use Rattle.zq_world.specs.Stepping.{standing_of, lines_of}
use Rattle.zq_world.specs.declared.actor.Actor.{Actor}
use Rattle.zq_world.specs.Played.{HasNone, AreNew, lines_before}

both_more : {X Y Z : Type 0} (f : X → Z) (h : Y → Z) (xs : List X) (x : X) (ys : List Y) (y : Y) → map f xs ≡ map h ys → f x ≡ h y → map f (xs ++ x ∷ []) ≡ map h (ys ++ y ∷ [])
both_more f h xs x ys y same one =
    map-append f xs (x ∷ []) ∙ (ap (λ l. l ++ f x ∷ []) same ∙ (ap (λ z. map h ys ++ z ∷ []) one ∙ sym (map-append h ys (y ∷ []))))

pub one_more : {X Y : Type 0} (f : X → Y) (xs : List X) (x : X) (ys : List Y) (y : Y) → ys ≡ map f xs → y ≡ f x → ys ++ y ∷ [] ≡ map f (xs ++ x ∷ [])
one_more f xs x ys y same one = ap (λ l. l ++ y ∷ []) same ∙ (ap (λ z. map f xs ++ z ∷ []) one ∙ sym (map-append f xs (x ∷ [])))

all_more : {X : Type 0} (P : X → Type 0) (xs : List X) (x : X) → AllByRecursion P xs → P x → AllByRecursion P (xs ++ x ∷ [])
all_more P [] x h p = (p, tt)
all_more P (y ∷ ys) x h p = (h.0, all_more P ys x h.1 p)

pub new_more : {O : Type 0} (script : Script) (i : ℕ) (a : ActorScript) (actors : List (Actor O)) (x : Actor O) → i < length script → a ≡ get_or script i a → AreNew (take i script) actors
    → ((as_open : O → OpenSock) → standing_of as_open x ≡ standing_before a) → lines_of x ≡ lines_before a → x.seats ≡ []
    → AreNew (take (i + 1) script) (actors ++ x ∷ [])
new_more script i a actors x lt is new stands says none =
    subst (λ (l : Script). AreNew l (actors ++ x ∷ [])) (sym (take_more script i a lt)) (record {
      stand = λ as_open. both_more (standing_of as_open) standing_before actors x (take i script) (get_or script i a) (new.stand as_open) (stands as_open ∙ ap standing_before is);
      said = both_more lines_of lines_before actors x (take i script) (get_or script i a) new.said (says ∙ ap lines_before is);
      each = all_more HasNone actors x new.each none;
    })
