-- What a move does to the ends that were attached, and to one that it attaches.
use Rattle.std.specs.Prelude.{◌≡◌, ◌<◌, ◌≤◌, ◌&&◌, ◌⊎◌, ℕ, Bool, true, false, not, List, [], ◌∷◌, length, slice_index_or, slice_set, refl}
use Rattle.std.proofs.Common.{arith, sym, ap, ◌∙◌, inl, inr}
use Rattle.std.proofs.lemmas.Bool.{cases_eq, eq-eqb, ne_eqb}
use Rattle.std.proofs.lemmas.List.{length-set, length_push, get_or-set_same, get_or-set_other}
use Rattle.zq_base.specs.declared.ids.EndId.{EndId}
use Rattle.spec_control.specs.declared.end.EndEvent.TheVariants.{Asked, TermCame, DelimiterSeen, AckCame}
use Rattle.spec_control.specs.declared.end.EndState.TheVariants.{Active, DelimiterGot, WaitDelimiter, AckSent, AskedOnce, AskedTwice, Gone}
use Rattle.spec_control.specs.Place.{Place, Unmade, Away, At, is_here, is_unmade}
use Rattle.spec_control.specs.PairPhase.{PairEvent, Opens, BindCame, Happens, may, meets, place_after, other_after}
use Rattle.spec_control.specs.Rows.{Rows, PairRow, no_pair, pair, end_place, end_owner, end_half, pair_after}
use Rattle.spec_control.specs.Control.{is_end, same_side}
use Rattle.control_laws.proofs.ListLemmas.{never, right, pushed, is_old, is_new}
use Rattle.control_laws.proofs.LinkLemmas.{moves_on}
use Rattle.control_laws.proofs.RowLemmas.{pair_there}
use Rattle.control_laws.proofs.StepLemmas.{after_owner, moves_after}
use Rattle.control_laws.specs.Move.{Move, LinkMoves, EndMoves, ObjectEnds, ObjectMade, PairDrawn, LetterPut, move_rows, MayMove}
use Rattle.control_laws.proofs.SoundLemmas.{Sound}

-- where an end is, and whose it is, by the rows
abbrev pub place_in : Rows → EndId → Place
place_in s e = end_place (pair s e.pair.0) e.a

abbrev pub owner_in : Rows → EndId → ℕ
owner_in s e = end_owner (pair s e.pair.0) e.a

-- an end was attached
abbrev pub is_at : Place → Bool
is_at Unmade = false
is_at Away = false
is_at (At state) = true

-- the end that a move attaches
abbrev pub attached_at : Move → List EndId
attached_at (LinkMoves i event) = []
attached_at (EndMoves e Opens) = e ∷ []
attached_at (EndMoves e BindCame) = e ∷ []
attached_at (EndMoves e (Happens event)) = []
attached_at (ObjectEnds i) = []
attached_at (ObjectMade row) = []
attached_at (PairDrawn a b) = []
attached_at (LetterPut to word) = []

-- this end goes with the other end's acknowledgement
abbrev pub is_ack : PairEvent → Bool
is_ack Opens = false
is_ack BindCame = false
is_ack (Happens (Asked reason delay)) = false
is_ack (Happens TermCame) = false
is_ack (Happens DelimiterSeen) = false
is_ack (Happens AckCame) = true

abbrev pub goes_at : EndId → Move → Bool
goes_at e (LinkMoves i event) = false
goes_at e (EndMoves d event) = is_end e d && is_ack event
goes_at e (ObjectEnds i) = false
goes_at e (ObjectMade row) = false
goes_at e (PairDrawn a b) = false
goes_at e (LetterPut to word) = false

-- ---- one end
-- an end that was attached is there then, unless it goes
record Goes (event : PairEvent) (place : Place) : Type 0 where
  at : is_at (place_after event place) ≡ true
  there : is_here (place_after event place) ≡ not (is_ack event)
  was : is_at place ≡ true → is_here place ≡ true

goes_on : (event : PairEvent) (place : Place) → meets event place ≡ true → Goes event place
goes_on Opens Unmade h = record { at = refl; there = refl; was = λ e. absurd (never e) }
goes_on Opens Away h = absurd (never h)
goes_on Opens (At state) h = absurd (never h)
goes_on BindCame Unmade h = absurd (never h)
goes_on BindCame Away h = record { at = refl; there = refl; was = λ e. absurd (never e) }
goes_on BindCame (At state) h = absurd (never h)
goes_on (Happens event) Unmade h = absurd (never h)
goes_on (Happens event) Away h = absurd (never h)
goes_on (Happens (Asked reason delay)) (At Active) h = record { at = refl; there = refl; was = λ e. refl }
goes_on (Happens (Asked reason delay)) (At DelimiterGot) h = record { at = refl; there = refl; was = λ e. refl }
goes_on (Happens (Asked reason true)) (At WaitDelimiter) h = record { at = refl; there = refl; was = λ e. refl }
goes_on (Happens (Asked reason false)) (At WaitDelimiter) h = record { at = refl; there = refl; was = λ e. refl }
goes_on (Happens (Asked reason delay)) (At AckSent) h = record { at = refl; there = refl; was = λ e. refl }
goes_on (Happens (Asked reason delay)) (At AskedOnce) h = record { at = refl; there = refl; was = λ e. refl }
goes_on (Happens (Asked reason delay)) (At AskedTwice) h = record { at = refl; there = refl; was = λ e. refl }
goes_on (Happens (Asked reason delay)) (At Gone) h = absurd (never h)
goes_on (Happens TermCame) (At Active) h = record { at = refl; there = refl; was = λ e. refl }
goes_on (Happens TermCame) (At DelimiterGot) h = record { at = refl; there = refl; was = λ e. refl }
goes_on (Happens TermCame) (At WaitDelimiter) h = absurd (never h)
goes_on (Happens TermCame) (At AckSent) h = absurd (never h)
goes_on (Happens TermCame) (At AskedOnce) h = record { at = refl; there = refl; was = λ e. refl }
goes_on (Happens TermCame) (At AskedTwice) h = absurd (never h)
goes_on (Happens TermCame) (At Gone) h = absurd (never h)
goes_on (Happens DelimiterSeen) (At Active) h = record { at = refl; there = refl; was = λ e. refl }
goes_on (Happens DelimiterSeen) (At DelimiterGot) h = absurd (never h)
goes_on (Happens DelimiterSeen) (At WaitDelimiter) h = record { at = refl; there = refl; was = λ e. refl }
goes_on (Happens DelimiterSeen) (At AckSent) h = absurd (never h)
goes_on (Happens DelimiterSeen) (At AskedOnce) h = absurd (never h)
goes_on (Happens DelimiterSeen) (At AskedTwice) h = absurd (never h)
goes_on (Happens DelimiterSeen) (At Gone) h = absurd (never h)
goes_on (Happens AckCame) (At Active) h = absurd (never h)
goes_on (Happens AckCame) (At DelimiterGot) h = absurd (never h)
goes_on (Happens AckCame) (At WaitDelimiter) h = absurd (never h)
goes_on (Happens AckCame) (At AckSent) h = record { at = refl; there = refl; was = λ e. refl }
goes_on (Happens AckCame) (At AskedOnce) h = record { at = refl; there = refl; was = λ e. refl }
goes_on (Happens AckCame) (At AskedTwice) h = record { at = refl; there = refl; was = λ e. refl }
goes_on (Happens AckCame) (At Gone) h = absurd (never h)

not_at : (place : Place) → is_unmade place ≡ true → is_at place ≡ false
not_at Unmade h = refl
not_at Away h = refl
not_at (At state) h = absurd (never h)

-- the other end stays where it is, if it was attached
other_stays : (event : PairEvent) (mine theirs : Place) → (event ≡ Opens → is_unmade theirs ≡ true) → is_at theirs ≡ true → other_after event theirs ≡ theirs
other_stays Opens mine theirs fresh at = absurd (never (sym (not_at theirs (fresh refl)) ∙ at))
other_stays BindCame mine theirs fresh at = refl
other_stays (Happens event) mine theirs fresh at = refl

-- ---- one move
-- what a move leaves of an end that was attached
pub record Stays (m : Move) (s : Rows) (e : EndId) : Type 0 where
  pub at : is_at (place_in (move_rows m s) e) ≡ true
  pub there : is_here (place_in (move_rows m s) e) ≡ (not (goes_at e m) && is_here (place_in s e))

same : (s : Rows) (e : EndId) (m : Move) → (move_rows m s).pairs ≡ s.pairs → goes_at e m ≡ false → is_at (place_in s e) ≡ true → Stays m s e
same s e m pairs none at = record {
  at = ap (λ (ps : List PairRow). is_at (end_place (slice_index_or ps e.pair.0 no_pair) e.a)) pairs ∙ at;
  there = ap (λ (ps : List PairRow). is_here (end_place (slice_index_or ps e.pair.0 no_pair) e.a)) pairs ∙ ap (λ (b : Bool). not b && is_here (place_in s e)) (sym none);
}

module _ (event : PairEvent) (p : PairRow) where
  -- the end of a pair that the event is of, or the other
  record Sides (x y : Bool) : Type 0 where
    at : is_at (end_place (pair_after event y p) x) ≡ true
    there : is_here (end_place (pair_after event y p) x) ≡ (not (same_side x y && is_ack event) && is_here (end_place p x))

  mine_side : (place now : Place) → now ≡ place_after event place → meets event place ≡ true → is_at place ≡ true → is_here now ≡ (not (is_ack event) && is_here place)
  mine_side place now is met at = let g = goes_on event place met in ap is_here is ∙ g.there ∙ by (not (is_ack event)) (is_here place) (g.was at)
    where
      by : (b h : Bool) → h ≡ true → b ≡ (b && h)
      by true h e = sym e
      by false h e = refl

  sides : (x y : Bool) → meets event (end_place p y) ≡ true → (event ≡ Opens → is_unmade (end_place p (not y)) ≡ true) → is_at (end_place p x) ≡ true → Sides x y
  sides true true met fresh at = record { at = (goes_on event p.a met).at; there = mine_side p.a _ refl met at }
  sides true false met fresh at = let o = other_stays event p.b p.a fresh at in record { at = ap is_at o ∙ at; there = ap is_here o }
  sides false true met fresh at = let o = other_stays event p.a p.b fresh at in record { at = ap is_at o ∙ at; there = ap is_here o }
  sides false false met fresh at = record { at = (goes_on event p.b met).at; there = mine_side p.b _ refl met at }

opens_fresh : (event : PairEvent) (s : Rows) (e : EndId) → may event (end_half (pair s e.pair.0) e.a) (end_half (pair s e.pair.0) (not e.a)) ≡ true → event ≡ Opens → is_unmade (end_place (pair s e.pair.0) (not e.a)) ≡ true
opens_fresh Opens s e comes is = right (is_unmade (end_place (pair s e.pair.0) e.a)) _ comes
opens_fresh BindCame s e comes is = absurd (no is)
  where
    no : BindCame ≡ Opens → ⊥
    no f = Prim.grind arith
opens_fresh (Happens event) s e comes is = absurd (no is)
  where
    no : Happens event ≡ Opens → ⊥
    no f = Prim.grind arith

pub met_there : (s : Rows) → Sound s → (d : EndId) (event : PairEvent) → MayMove (EndMoves d event) s → meets event (place_in s d) ≡ true
met_there s sound d event may_so = (moves_on event d.a (pair s d.pair.0) _ (sound.phases d.pair.0) (moves_after event d.a (pair s d.pair.0) (sound.phases d.pair.0) may_so.comes)).1

end_stays : (s : Rows) → Sound s → (d : EndId) (event : PairEvent) → MayMove (EndMoves d event) s → (e : EndId) → is_at (place_in s e) ≡ true → Stays (EndMoves d event) s e
end_stays s sound d event may_so e at = by (cases_eq e.pair.0 d.pair.0)
  where
    now : PairRow
    now = pair_after event d.a (pair s d.pair.0)

    by : (e.pair.0 ≡ d.pair.0) ⊎ (e.pair.0 ≡ d.pair.0 → ⊥) → Stays (EndMoves d event) s e
    by (inl is) =
        let row : slice_index_or (slice_set s.pairs d.pair.0 now) e.pair.0 no_pair ≡ now = ap (λ (k : ℕ). slice_index_or (slice_set s.pairs d.pair.0 now) k no_pair) is ∙ get_or-set_same s.pairs d.pair.0 now no_pair (pair_there s d.pair.0 d.a event may_so.comes) in
        let was : pair s e.pair.0 ≡ pair s d.pair.0 = ap (pair s) is in
        let two = sides event (pair s d.pair.0) e.a d.a (met_there s sound d event may_so) (opens_fresh event s d may_so.comes) (ap (λ (p : PairRow). is_at (end_place p e.a)) (sym was) ∙ at) in
        record {
          at = ap (λ (p : PairRow). is_at (end_place p e.a)) row ∙ two.at;
          there = ap (λ (p : PairRow). is_here (end_place p e.a)) row ∙ two.there
              ∙ ap (λ (b : Bool). not ((b && same_side e.a d.a) && is_ack event) && is_here (end_place (pair s d.pair.0) e.a)) (sym (eq-eqb e.pair.0 d.pair.0 is))
              ∙ ap (λ (p : PairRow). not (is_end e d && is_ack event) && is_here (end_place p e.a)) (sym was);
        }
    by (inr other) =
        let row = get_or-set_other s.pairs d.pair.0 e.pair.0 now no_pair other in
        record {
          at = ap (λ (p : PairRow). is_at (end_place p e.a)) row ∙ at;
          there = ap (λ (p : PairRow). is_here (end_place p e.a)) row
              ∙ ap (λ (b : Bool). not ((b && same_side e.a d.a) && is_ack event) && is_here (place_in s e)) (sym (ne_eqb e.pair.0 d.pair.0 other));
        }

pub move_stays : (m : Move) (s : Rows) → Sound s → MayMove m s → (e : EndId) → e.pair.0 < length s.pairs → is_at (place_in s e) ≡ true → Stays m s e
move_stays (LinkMoves i event) s sound may_so e there at = same s e (LinkMoves i event) refl refl at
move_stays (EndMoves d event) s sound may_so e there at = end_stays s sound d event may_so e at
move_stays (ObjectEnds i) s sound may_so e there at = same s e (ObjectEnds i) refl refl at
move_stays (ObjectMade row) s sound may_so e there at = same s e (ObjectMade row) refl refl at
move_stays (PairDrawn a b) s sound may_so e there at =
    elim (pushed s.pairs (record { a_owner = a; b_owner = b; a = Unmade; b = Unmade }) no_pair e.pair.0) [
      | is_old is ↦ record { at = ap (λ (p : PairRow). is_at (end_place p e.a)) is ∙ at; there = ap (λ (p : PairRow). is_here (end_place p e.a)) is }
      | is_new last is was ↦ absurd (omega (arith, last, there))
    ]
move_stays (LetterPut to word) s sound may_so e there at = same s e (LetterPut to word) refl refl at

-- the pairs grow
pub move_many : (m : Move) (s : Rows) → length s.pairs ≤ length (move_rows m s).pairs
move_many (LinkMoves i event) s = omega arith
move_many (EndMoves d event) s = let same_many = length-set s.pairs d.pair.0 (pair_after event d.a (pair s d.pair.0)) in omega (arith, same_many)
move_many (ObjectEnds i) s = omega arith
move_many (ObjectMade row) s = omega arith
move_many (PairDrawn a b) s = let more = length_push s.pairs (record { a_owner = a; b_owner = b; a = Unmade; b = Unmade }) in omega (arith, more)
move_many (LetterPut to word) s = omega arith

-- and whose an end is stays
pub move_owner : (m : Move) (s : Rows) → MayMove m s → (e : EndId) → e.pair.0 < length s.pairs → owner_in (move_rows m s) e ≡ owner_in s e
move_owner (LinkMoves i event) s may_so e there = refl
move_owner (EndMoves d event) s may_so e there =
    elim (cases_eq e.pair.0 d.pair.0) [
      | inl is ↦
          let now = pair_after event d.a (pair s d.pair.0) in
          ap (λ (k : ℕ). end_owner (slice_index_or (slice_set s.pairs d.pair.0 now) k no_pair) e.a) is
          ∙ ap (λ (p : PairRow). end_owner p e.a) (get_or-set_same s.pairs d.pair.0 now no_pair (pair_there s d.pair.0 d.a event may_so.comes))
          ∙ after_owner event d.a e.a (pair s d.pair.0) ∙ ap (λ (k : ℕ). end_owner (pair s k) e.a) (sym is)
      | inr other ↦ ap (λ (p : PairRow). end_owner p e.a) (get_or-set_other s.pairs d.pair.0 e.pair.0 (pair_after event d.a (pair s d.pair.0)) no_pair other)
    ]
move_owner (ObjectEnds i) s may_so e there = refl
move_owner (ObjectMade row) s may_so e there = refl
move_owner (PairDrawn a b) s may_so e there =
    elim (pushed s.pairs (record { a_owner = a; b_owner = b; a = Unmade; b = Unmade }) no_pair e.pair.0) [
      | is_old is ↦ ap (λ (p : PairRow). end_owner p e.a) is
      | is_new last is was ↦ absurd (omega (arith, last, there))
    ]
move_owner (LetterPut to word) s may_so e there = refl

-- an end that a move attaches is there
pub record Joins (t : Rows) (e : EndId) : Type 0 where
  pub within : e.pair.0 < length t.pairs
  pub at : is_at (place_in t e) ≡ true
  pub there : is_here (place_in t e) ≡ true

joins_by : (s : Rows) (e : EndId) (event : PairEvent) → e.pair.0 < length s.pairs → ((x : Place) → place_after event x ≡ At Active) → Joins (move_rows (EndMoves e event) s) e
joins_by s e event within active =
    let now = pair_after event e.a (pair s e.pair.0) in
    let row = get_or-set_same s.pairs e.pair.0 now no_pair within in
    let place : place_in (move_rows (EndMoves e event) s) e ≡ At Active = ap (λ (p : PairRow). end_place p e.a) row ∙ side e.a (pair s e.pair.0) ∙ active (end_place (pair s e.pair.0) e.a) in
    record { within = (let many = length-set s.pairs e.pair.0 now in omega (arith, many, within)); at = ap is_at place; there = ap is_here place }
  where
    side : (x : Bool) (p : PairRow) → end_place (pair_after event x p) x ≡ place_after event (end_place p x)
    side true p = refl
    side false p = refl

pub opens_joins : (s : Rows) (e : EndId) → MayMove (EndMoves e Opens) s → Joins (move_rows (EndMoves e Opens) s) e
opens_joins s e may_so = joins_by s e Opens (pair_there s e.pair.0 e.a Opens may_so.comes) (λ x. refl)

pub binds_joins : (s : Rows) (e : EndId) → MayMove (EndMoves e BindCame) s → Joins (move_rows (EndMoves e BindCame) s) e
binds_joins s e may_so = joins_by s e BindCame (pair_there s e.pair.0 e.a BindCame may_so.comes) (λ x. refl)
