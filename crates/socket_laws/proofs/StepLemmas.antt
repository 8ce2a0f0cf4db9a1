-- How far an end that was attached goes in a move.
use Rattle.std.specs.Prelude.{◌≡◌, ◌<◌, ◌&&◌, ◌⊎◌, ℕ, Bool, true, false, not, List, length, slice_index_or, slice_set, refl}
use Rattle.std.specs.List.{list_any}
use Rattle.std.proofs.Common.{arith, sym, ap, ◌∙◌, subst, inl, inr}
use Rattle.std.proofs.lemmas.Bool.{cases_eq, eq-eqb}
use Rattle.std.proofs.lemmas.List.{get_or-set_same, get_or-set_other}
use Rattle.zq_base.specs.declared.ids.EndId.{EndId}
use Rattle.spec_control.specs.declared.end.EndEvent.{EndEvent}
use Rattle.spec_control.specs.declared.end.EndEvent.TheVariants.{Asked, TermCame, DelimiterSeen, AckCame}
use Rattle.spec_control.specs.declared.end.EndState.{EndState}
use Rattle.spec_control.specs.declared.end.EndState.TheVariants.{Active, DelimiterGot, WaitDelimiter, AckSent, AskedOnce, AskedTwice, Gone}
use Rattle.spec_control.specs.EndLife.{cell, goes, state_after}
use Rattle.spec_control.specs.Place.{Place, Unmade, Away, At, is_unmade}
use Rattle.spec_control.specs.PairPhase.{PairEvent, Opens, BindCame, Happens, may, meets, place_after, other_after}
use Rattle.spec_control.specs.Rows.{Rows, PairRow, no_pair, pair, end_place, end_half, pair_after}
use Rattle.spec_control.specs.Control.{is_end, same_side}
use Rattle.control_laws.proofs.ListLemmas.{never, right, pushed, is_old, is_new}
use Rattle.control_laws.proofs.RowLemmas.{pair_there}
use Rattle.control_laws.specs.Move.{Move, LinkMoves, EndMoves, ObjectEnds, ObjectMade, PairDrawn, LetterPut, move_rows, MayMove}
use Rattle.control_laws.proofs.SoundLemmas.{Sound}
use Rattle.control_laws.proofs.MoveLemmas.{place_in, is_at, met_there}
use Rattle.spec_run.specs.OpenSocket.{awaits_delimiter}

-- the other end's command comes to an end
abbrev is_term : PairEvent → Bool
is_term Opens = false
is_term BindCame = false
is_term (Happens (Asked reason delay)) = false
is_term (Happens TermCame) = true
is_term (Happens DelimiterSeen) = false
is_term (Happens AckCame) = false

abbrev pub term_at : EndId → Move → Bool
term_at e (LinkMoves i event) = false
term_at e (EndMoves d event) = is_end e d && is_term event
term_at e (ObjectEnds i) = false
term_at e (ObjectMade row) = false
term_at e (PairDrawn a b) = false
term_at e (LetterPut to word) = false

abbrev pub term_in : EndId → List Move → Bool
term_in e ms = list_any (term_at e) ms

-- ---- one end
-- it is Active then only where it was, and reads on only where it did or the other end's command came
pub record Back (came : Bool) (p q : Place) : Type 0 where
  pub active : q ≡ At Active → p ≡ At Active
  pub awaits : awaits_delimiter q ≡ true → (awaits_delimiter p ≡ true) ⊎ (came ≡ true)

not_active : {s : EndState} {A : Type 0} → awaits_delimiter (At s) ≡ true → At s ≡ At Active → A
not_active h e = absurd (never (sym (ap awaits_delimiter e) ∙ h))

state_back : (event : EndEvent) (s : EndState) → goes (cell event s) ≡ true → Back (is_term (Happens event)) (At s) (At (state_after (cell event s) s))
state_back (Asked reason delay) Active h = record { active = λ e. refl; awaits = λ e. absurd (never e) }
state_back (Asked reason delay) DelimiterGot h = record { active = λ e. absurd (differ e); awaits = λ e. absurd (never e) }
  where
    differ : At AskedOnce ≡ At Active → ⊥
    differ f = Prim.grind arith
state_back (Asked reason true) WaitDelimiter h = record { active = λ e. absurd (differ e); awaits = λ e. inl refl }
  where
    differ : At WaitDelimiter ≡ At Active → ⊥
    differ f = Prim.grind arith
state_back (Asked reason false) WaitDelimiter h = record { active = λ e. absurd (differ e); awaits = λ e. absurd (never e) }
  where
    differ : At AckSent ≡ At Active → ⊥
    differ f = Prim.grind arith
state_back (Asked reason delay) AckSent h = record { active = λ e. e; awaits = λ e. absurd (never e) }
state_back (Asked reason delay) AskedOnce h = record { active = λ e. e; awaits = λ e. absurd (never e) }
state_back (Asked reason delay) AskedTwice h = record { active = λ e. e; awaits = λ e. absurd (never e) }
state_back (Asked reason delay) Gone h = absurd (never h)
state_back TermCame Active h = record { active = λ e. refl; awaits = λ e. inr refl }
state_back TermCame DelimiterGot h = record { active = λ e. absurd (differ e); awaits = λ e. inr refl }
  where
    differ : At AckSent ≡ At Active → ⊥
    differ f = Prim.grind arith
state_back TermCame WaitDelimiter h = absurd (never h)
state_back TermCame AckSent h = absurd (never h)
state_back TermCame AskedOnce h = record { active = λ e. absurd (differ e); awaits = λ e. inr refl }
  where
    differ : At AskedTwice ≡ At Active → ⊥
    differ f = Prim.grind arith
state_back TermCame AskedTwice h = absurd (never h)
state_back TermCame Gone h = absurd (never h)
state_back DelimiterSeen Active h = record { active = λ e. refl; awaits = λ e. absurd (never e) }
state_back DelimiterSeen DelimiterGot h = absurd (never h)
state_back DelimiterSeen WaitDelimiter h = record { active = λ e. absurd (differ e); awaits = λ e. absurd (never e) }
  where
    differ : At AckSent ≡ At Active → ⊥
    differ f = Prim.grind arith
state_back DelimiterSeen AckSent h = absurd (never h)
state_back DelimiterSeen AskedOnce h = absurd (never h)
state_back DelimiterSeen AskedTwice h = absurd (never h)
state_back DelimiterSeen Gone h = absurd (never h)
state_back AckCame Active h = absurd (never h)
state_back AckCame DelimiterGot h = absurd (never h)
state_back AckCame WaitDelimiter h = absurd (never h)
state_back AckCame AckSent h = record { active = λ e. absurd (differ e); awaits = λ e. absurd (never e) }
  where
    differ : At Gone ≡ At Active → ⊥
    differ f = Prim.grind arith
state_back AckCame AskedOnce h = record { active = λ e. absurd (differ e); awaits = λ e. absurd (never e) }
  where
    differ : At Gone ≡ At Active → ⊥
    differ f = Prim.grind arith
state_back AckCame AskedTwice h = record { active = λ e. absurd (differ e); awaits = λ e. absurd (never e) }
  where
    differ : At Gone ≡ At Active → ⊥
    differ f = Prim.grind arith
state_back AckCame Gone h = absurd (never h)

mine_back : (event : PairEvent) (p : Place) → meets event p ≡ true → is_at p ≡ true → Back (is_term event) p (place_after event p)
mine_back Opens Unmade h at = absurd (never at)
mine_back Opens Away h at = absurd (never h)
mine_back Opens (At s) h at = absurd (never h)
mine_back BindCame Unmade h at = absurd (never h)
mine_back BindCame Away h at = absurd (never at)
mine_back BindCame (At s) h at = absurd (never h)
mine_back (Happens event) Unmade h at = absurd (never h)
mine_back (Happens event) Away h at = absurd (never h)
mine_back (Happens event) (At s) h at = state_back event s h

pub same_place : (came : Bool) (p q : Place) → q ≡ p → Back came p q
same_place came p q is = record { active = λ e. sym is ∙ e; awaits = λ e. inl (ap awaits_delimiter (sym is) ∙ e) }

not_at : (p : Place) → is_unmade p ≡ true → is_at p ≡ false
not_at Unmade h = refl
not_at Away h = refl
not_at (At s) h = absurd (never h)

-- the other end stays where it is, if it was attached
other_stays : (event : PairEvent) (theirs : Place) → (event ≡ Opens → is_unmade theirs ≡ true) → is_at theirs ≡ true → other_after event theirs ≡ theirs
other_stays Opens theirs fresh at = absurd (never (sym (not_at theirs (fresh refl)) ∙ at))
other_stays BindCame theirs fresh at = refl
other_stays (Happens event) theirs fresh at = refl

sides_back : (event : PairEvent) (p : PairRow) (x y : Bool) → meets event (end_place p y) ≡ true → (event ≡ Opens → is_unmade (end_place p (not y)) ≡ true) → is_at (end_place p x) ≡ true →
    Back (same_side x y && is_term event) (end_place p x) (end_place (pair_after event y p) x)
sides_back event p true true met fresh at = mine_back event p.a met at
sides_back event p true false met fresh at = same_place false p.a _ (other_stays event p.a fresh at)
sides_back event p false true met fresh at = same_place false p.b _ (other_stays event p.b fresh at)
sides_back event p false false met fresh at = mine_back event p.b met at

opens_fresh : (event : PairEvent) (s : Rows) (e : EndId) → may event (end_half (pair s e.pair.0) e.a) (end_half (pair s e.pair.0) (not e.a)) ≡ true → event ≡ Opens → is_unmade (end_place (pair s e.pair.0) (not e.a)) ≡ true
opens_fresh Opens s e comes is = right (is_unmade (end_place (pair s e.pair.0) e.a)) _ comes
opens_fresh BindCame s e comes is = absurd (no is)
  where
    no : BindCame ≡ Opens → ⊥
    no f = Prim.grind arith
opens_fresh (Happens event) s e comes is = absurd (no is)
  where
    no : Happens event ≡ Opens → ⊥
    no f = Prim.grind arith

-- ---- one move
end_back : (s : Rows) → Sound s → (d : EndId) (event : PairEvent) → MayMove (EndMoves d event) s → (e : EndId) → is_at (place_in s e) ≡ true → Back (term_at e (EndMoves d event)) (place_in s e) (place_in (move_rows (EndMoves d event) s) e)
end_back s sound d event may_so e at = by (cases_eq e.pair.0 d.pair.0)
  where
    now : PairRow
    now = pair_after event d.a (pair s d.pair.0)

    by : (e.pair.0 ≡ d.pair.0) ⊎ (e.pair.0 ≡ d.pair.0 → ⊥) → Back (term_at e (EndMoves d event)) (place_in s e) (place_in (move_rows (EndMoves d event) s) e)
    by (inl is) =
        let row : slice_index_or (slice_set s.pairs d.pair.0 now) e.pair.0 no_pair ≡ now = ap (λ (k : ℕ). slice_index_or (slice_set s.pairs d.pair.0 now) k no_pair) is ∙ get_or-set_same s.pairs d.pair.0 now no_pair (pair_there s d.pair.0 d.a event may_so.comes) in
        let was : pair s e.pair.0 ≡ pair s d.pair.0 = ap (pair s) is in
        let two = sides_back event (pair s d.pair.0) e.a d.a (met_there s sound d event may_so) (opens_fresh event s d may_so.comes) (ap (λ (p : PairRow). is_at (end_place p e.a)) (sym was) ∙ at) in
        subst (λ (b : Bool). Back ((b && same_side e.a d.a) && is_term event) (place_in s e) (place_in (move_rows (EndMoves d event) s) e)) (sym (eq-eqb e.pair.0 d.pair.0 is))
        (subst (λ (p : PairRow). Back (same_side e.a d.a && is_term event) (end_place p e.a) (place_in (move_rows (EndMoves d event) s) e)) (sym was)
        (subst (λ (p : PairRow). Back (same_side e.a d.a && is_term event) (end_place (pair s d.pair.0) e.a) (end_place p e.a)) (sym row) two))
    by (inr other) = same_place (term_at e (EndMoves d event)) (place_in s e) _ (ap (λ (p : PairRow). end_place p e.a) (get_or-set_other s.pairs d.pair.0 e.pair.0 now no_pair other))

pub move_back : (m : Move) (s : Rows) → Sound s → MayMove m s → (e : EndId) → e.pair.0 < length s.pairs → is_at (place_in s e) ≡ true → Back (term_at e m) (place_in s e) (place_in (move_rows m s) e)
move_back (LinkMoves i event) s sound may_so e there at = same_place false _ _ refl
move_back (EndMoves d event) s sound may_so e there at = end_back s sound d event may_so e at
move_back (ObjectEnds i) s sound may_so e there at = same_place false _ _ refl
move_back (ObjectMade row) s sound may_so e there at = same_place false _ _ refl
move_back (PairDrawn a b) s sound may_so e there at =
    elim (pushed s.pairs (record { a_owner = a; b_owner = b; a = Unmade; b = Unmade }) no_pair e.pair.0) [
      | is_old is ↦ same_place false _ _ (ap (λ (p : PairRow). end_place p e.a) is)
      | is_new last is was ↦ absurd (omega (arith, last, there))
    ]
move_back (LetterPut to word) s sound may_so e there at = same_place false _ _ refl
