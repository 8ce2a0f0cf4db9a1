-- What changes of state an event is told by, where one end moves or none does.
use Rattle.std.specs.Prelude.{◌≡◌, ◌||◌, ◌++◌, ◌∷◌, [], Bool, true, false, List, All, slice_index_or, if◌then◌else◌, refl}
use Rattle.std.specs.List.{list_any}
use Rattle.std.proofs.Common.{sym, ap, ◌∙◌, subst}
use Rattle.std.proofs.lemmas.List.{append-nil, append_assoc}
use Rattle.std.proofs.lemmas.List.Elements.{All-nil, All-cons, All-head, All-tail}
use Rattle.zq_base.specs.declared.ids.EndId.{EndId}
use Rattle.spec_control.specs.declared.end.EndState.{EndState}
use Rattle.spec_control.specs.declared.end.EndState.TheVariants.{Active, DelimiterGot, WaitDelimiter, AckSent, AskedOnce, AskedTwice, Gone}
use Rattle.spec_control.specs.Place.{Place, Unmade, Away, At, is_here}
use Rattle.spec_control.specs.Rows.{PairRow, no_pair, end_place}
use Rattle.spec_control.specs.Control.{Control, is_end, place_of}
use Rattle.control_laws.proofs.ListLemmas.{never}
use Rattle.control_laws.proofs.AskLemmas.{same_end, end_self}
use Rattle.desk.specs.Holding.{Holding, KeepsTurns, is_state}
use Rattle.desk.proofs.TurnsLemmas.{seal_append}
use Rattle.desk.specs.Turns.{state_before, turn_at, turned_over, turned_in, sealed_by, TurnsBy}
use Rattle.control_laws.specs.AttachedOnce.{AreOnce}

state_self : (s : EndState) → is_state (state_before (At s) s) s ≡ true
state_self Active = refl
state_self DelimiterGot = refl
state_self WaitDelimiter = refl
state_self AckSent = refl
state_self AskedOnce = refl
state_self AskedTwice = refl
state_self Gone = refl

-- an end that stays where it is has no turn
pub still_at : (e : EndId) (p : Place) → turn_at e p p ≡ []
still_at e Unmade = refl
still_at e Away = refl
still_at e (At s) = ap (λ (b : Bool). if b then [] else (e, s) ∷ []) (state_self s)

pub stays_at : (e : EndId) (p q : Place) → q ≡ p → turn_at e p q ≡ []
stays_at e p q same = ap (turn_at e p) same ∙ still_at e p

-- an end of a pair that had no number yet, or was not attached, begins Active
pub from_gone : (e : EndId) (p : Place) → is_here p ≡ true → turn_at e (At Gone) p ≡ turn_at e Unmade p
from_gone e Unmade here = refl
from_gone e Away here = refl
from_gone e (At Active) here = refl
from_gone e (At DelimiterGot) here = refl
from_gone e (At WaitDelimiter) here = refl
from_gone e (At AckSent) here = refl
from_gone e (At AskedOnce) here = refl
from_gone e (At AskedTwice) here = refl
from_gone e (At Gone) here = absurd (never here)

-- an end that is attached begins Active
pub from_unmade : (e : EndId) (p : Place) → turn_at e Unmade p ≡ turn_at e (At Active) p
from_unmade e Unmade = refl
from_unmade e Away = refl
from_unmade e (At s) = refl

pub from_away : (e : EndId) (p : Place) → turn_at e Away p ≡ turn_at e (At Active) p
from_away e Unmade = refl
from_away e Away = refl
from_away e (At s) = refl

-- ends that stay have none
pub over_still : (p q : EndId → Place) (es : List EndId) → All (λ e. q e ≡ p e) es → turned_over p q es ≡ []
over_still p q [] stay = refl
over_still p q (e ∷ es) stay =
    ap (λ (ts : List (EndId × EndState)). ts ++ turned_over p q es) (stays_at e (p e) (q e) (All-head (λ d. q d ≡ p d) e es stay))
    ∙ over_still p q es (All-tail (λ d. q d ≡ p d) e es stay)

pub over_agree : (p q r s : EndId → Place) (es : List EndId) → All (λ e. p e ≡ r e) es → All (λ e. q e ≡ s e) es → turned_over p q es ≡ turned_over r s es
over_agree p q r s [] before now = refl
over_agree p q r s (e ∷ es) before now =
    ap (λ (x : Place). turn_at e x (q e) ++ turned_over p q es) (All-head (λ d. p d ≡ r d) e es before)
    ∙ ap (λ (x : Place). turn_at e (r e) x ++ turned_over p q es) (All-head (λ d. q d ≡ s d) e es now)
    ∙ ap (λ (ts : List (EndId × EndState)). turn_at e (r e) (s e) ++ ts) (over_agree p q r s es (All-tail (λ d. p d ≡ r d) e es before) (All-tail (λ d. q d ≡ s d) e es now))

pub over_append : (p q : EndId → Place) (xs ys : List EndId) → turned_over p q (xs ++ ys) ≡ turned_over p q xs ++ turned_over p q ys
over_append p q [] ys = refl
over_append p q (x ∷ xs) ys =
    ap (λ (ts : List (EndId × EndState)). turn_at x (p x) (q x) ++ ts) (over_append p q xs ys)
    ∙ sym (append_assoc (turn_at x (p x) (q x)) (turned_over p q xs) (turned_over p q ys))

-- an end that does not stand in a list is none of it
pub none_of : (e : EndId) (es : List EndId) → list_any (is_end e) es ≡ false → All (λ d. is_end e d ≡ false) es
none_of e [] none = All-nil (λ d. is_end e d ≡ false)
none_of e (x ∷ es) none = All-cons (λ d. is_end e d ≡ false) x es (first (is_end e x) none) (none_of e es (rest (is_end e x) none))
  where
    first : (b : Bool) → (b || list_any (is_end e) es) ≡ false → b ≡ false
    first true h = h
    first false h = refl

    rest : (b : Bool) → (b || list_any (is_end e) es) ≡ false → list_any (is_end e) es ≡ false
    rest true h = absurd (never (sym h))
    rest false h = h

-- two that are not one are not one the other way round
pub not_end : (e d : EndId) → is_end e d ≡ false → is_end d e ≡ false
not_end e d other = by (is_end d e) refl
  where
    by : (b : Bool) → is_end d e ≡ b → b ≡ false
    by true same = absurd (never (sym other ∙ ap (is_end e) (same_end d e same) ∙ end_self e))
    by false same = refl

-- one end of the list moves
pub over_one : (p q : EndId → Place) (e : EndId) (es : List EndId) → AreOnce es → list_any (is_end e) es ≡ true → ((d : EndId) → is_end d e ≡ false → q d ≡ p d) → turned_over p q es ≡ turn_at e (p e) (q e)
over_one p q e [] once listed else_at = absurd (never listed)
over_one p q e (x ∷ es) once listed else_at = by (is_end e x) refl listed (λ rest. over_one p q e es once.1 rest else_at)
  where
    stay : (d : EndId) → is_end e d ≡ false → q d ≡ p d
    stay d other = else_at d (not_end e d other)

    all_stay : (ds : List EndId) → All (λ d. is_end e d ≡ false) ds → All (λ d. q d ≡ p d) ds
    all_stay ds others i d lt = stay _ (others i d lt)

    by : (b : Bool) → is_end e x ≡ b → (b || list_any (is_end e) es) ≡ true → (list_any (is_end e) es ≡ true → turned_over p q es ≡ turn_at e (p e) (q e)) → turn_at x (p x) (q x) ++ turned_over p q es ≡ turn_at e (p e) (q e)
    by true same l later =
        ap (λ (ts : List (EndId × EndState)). turn_at x (p x) (q x) ++ ts)
        (over_still p q es (all_stay es (none_of e es (subst (λ (d : EndId). list_any (is_end d) es ≡ false) (sym (same_end e x same)) once.0))))
        ∙ append-nil (turn_at x (p x) (q x)) ∙ ap (λ (d : EndId). turn_at d (p d) (q d)) (sym (same_end e x same))
    by false other l later = ap (λ (ts : List (EndId × EndState)). ts ++ turned_over p q es) (stays_at x (p x) (q x) (stay x other)) ∙ later l

-- ---- in the control state
-- one attached end moves between two places, and no end is attached
pub in_one : (c d : Control) (e : EndId) → AreOnce c.attached → d.attached ≡ c.attached → list_any (is_end e) c.attached ≡ true → ((x : EndId) → is_end x e ≡ false → place_of d x ≡ place_of c x) →
    turned_in c d ≡ turn_at e (place_of c e) (place_of d e)
in_one c d e once attached listed else_at = ap (turned_over (place_of c) (place_of d)) attached ∙ over_one (place_of c) (place_of d) e c.attached once listed else_at

all_of : {P : EndId → Type 0} → ((e : EndId) → P e) → (es : List EndId) → All P es
all_of each es i d lt = each _

-- none does
pub in_none : (c d : Control) → ((e : EndId) → place_of d e ≡ place_of c e) → turned_in c d ≡ []
in_none c d same = over_still (place_of c) (place_of d) d.attached (all_of {P = λ e. place_of d e ≡ place_of c e} same d.attached)

-- what happens behind or before moves no end
pub in_behind : (c d f : Control) → f.attached ≡ d.attached → ((e : EndId) → place_of f e ≡ place_of d e) → turned_in c f ≡ turned_in c d
in_behind c d f attached same =
    ap (turned_over (place_of c) (place_of f)) attached
    ∙ over_agree (place_of c) (place_of f) (place_of c) (place_of d) d.attached (all_of {P = λ e. place_of c e ≡ place_of c e} (λ e. refl) d.attached) (all_of {P = λ e. place_of f e ≡ place_of d e} same d.attached)

pub in_before : (b c d : Control) → ((e : EndId) → place_of c e ≡ place_of b e) → turned_in c d ≡ turned_in b d
in_before b c d same =
    over_agree (place_of c) (place_of d) (place_of b) (place_of d) d.attached (all_of {P = λ e. place_of c e ≡ place_of b e} same d.attached) (all_of {P = λ e. place_of d e ≡ place_of d e} (λ e. refl) d.attached)

-- pairs that are as before have their ends where they were
pub place_same : (c d : Control) → d.rows.pairs ≡ c.rows.pairs → (e : EndId) → place_of d e ≡ place_of c e
place_same c d same e = ap (λ (ps : List PairRow). end_place (slice_index_or ps e.pair.0 no_pair) e.a) same

-- ---- at the holder
module _ {N : Type 0} where
  pub turns_none : (h k : Holding N) → KeepsTurns h k → TurnsBy [] h k
  turns_none h k keeps = record { turns = keeps.turns ∙ sym (append-nil h.turns); sealed = keeps.sealed ∙ sym (append-nil h.sealed) }

  pub turns_same : (h : Holding N) → TurnsBy [] h h
  turns_same h = record { turns = sym (append-nil h.turns); sealed = sym (append-nil h.sealed) }

  pub turns_on : (ts us : List (EndId × EndState)) (h m k : Holding N) → TurnsBy ts h m → TurnsBy us m k → TurnsBy (ts ++ us) h k
  turns_on ts us h m k first next = record {
    turns = next.turns ∙ ap (λ (xs : List (EndId × EndState)). xs ++ us) first.turns ∙ append_assoc h.turns ts us;
    sealed = next.sealed ∙ ap (λ (xs : List EndId). xs ++ sealed_by us) first.sealed ∙ append_assoc h.sealed (sealed_by ts) (sealed_by us)
        ∙ ap (λ (xs : List EndId). h.sealed ++ xs) (sym (seal_append ts us));
  }

  -- a call more that is told of none
  pub turns_kept : (ts : List (EndId × EndState)) (h m k : Holding N) → TurnsBy ts h m → KeepsTurns m k → TurnsBy ts h k
  turns_kept ts h m k first keeps = record { turns = keeps.turns ∙ first.turns; sealed = keeps.sealed ∙ first.sealed }
