-- What the moves of an event do to the ends that were attached, and to those that they attach.
use Rattle.std.specs.Prelude.{◌≡◌, ◌<◌, ◌&&◌, ◌||◌, ℕ, Bool, true, false, not, cond, List, [], ◌∷◌, ◌++◌, All, length, filter, flat_map, refl}
use Rattle.std.specs.List.{list_any}
use Rattle.std.proofs.Common.{arith, sym, ap, ◌∙◌, subst}
use Rattle.std.proofs.lemmas.List.Elements.{All-nil, All-cons, All-append, All-weaker}
use Rattle.zq_base.specs.declared.ids.EndId.{EndId}
use Rattle.spec_control.specs.declared.letter.Letter.{Letter}
use Rattle.spec_control.specs.declared.entry.Did.{Did}
use Rattle.spec_control.specs.declared.end.EndEvent.TheVariants.{Asked, TermCame, DelimiterSeen, AckCame}
use Rattle.spec_control.specs.Place.{is_here}
use Rattle.spec_control.specs.PairPhase.{Opens, BindCame, Happens}
use Rattle.spec_control.specs.Rows.{Rows}
use Rattle.spec_control.specs.Control.{Control, is_end, owner_of, place_of}
use Rattle.spec_control.specs.After.{after}
use Rattle.spec_control.specs.ControlRun.{Fits}
use Rattle.control_laws.proofs.ListLemmas.{never}
use Rattle.control_laws.specs.Kept.{Kept}
use Rattle.control_laws.specs.Move.{Move, LinkMoves, EndMoves, ObjectEnds, ObjectMade, PairDrawn, LetterPut, move_rows, move_boxes, is_named, Leads}
use Rattle.control_laws.specs.OwnMoves.{own_moves, having_taken}
use Rattle.control_laws.proofs.SoundLemmas.{Sound, sound_of, sound_move}
use Rattle.control_laws.proofs.WeighLemmas.{taken_rows}
use Rattle.control_laws.proofs.EventGoLemmas.{event_goes}
use Rattle.control_laws.proofs.MoveLemmas.{place_in, owner_in, is_at, attached_at, goes_at, move_stays, move_many, move_owner, Joins, opens_joins, binds_joins}

-- the ends that these moves attach, and whether one goes in them
abbrev pub attached_by : List Move → List EndId
attached_by ms = flat_map attached_at ms

abbrev pub goes_by : EndId → List Move → Bool
goes_by e ms = list_any (goes_at e) ms

-- what is left of an end that was attached
pub record StaysBy (ms : List Move) (s : Rows) (d : Control) (e : EndId) : Type 0 where
  pub within : e.pair.0 < length d.rows.pairs
  pub at : is_at (place_of d e) ≡ true
  pub there : is_here (place_of d e) ≡ (not (goes_by e ms) && is_here (place_in s e))
  pub owner : owner_of d e ≡ owner_in s e

neither : (a b h : Bool) → (not b && (not a && h)) ≡ (not (a || b) && h)
neither true true h = refl
neither true false h = refl
neither false true h = refl
neither false false h = refl

leads_old : (ms : List Move) (s : Rows) (boxes : ℕ → List Letter) (d : Control) → Sound s → Leads ms s boxes d → (e : EndId) → e.pair.0 < length s.pairs → is_at (place_in s e) ≡ true → StaysBy ms s d e
leads_old [] s boxes d sound h e within at =
    let rows = sym h.0 in
    record {
      within = subst (λ (r : Rows). e.pair.0 < length r.pairs) rows within;
      at = subst (λ (r : Rows). is_at (place_in r e) ≡ true) rows at;
      there = subst (λ (r : Rows). is_here (place_in r e) ≡ is_here (place_in s e)) rows refl;
      owner = subst (λ (r : Rows). owner_in r e ≡ owner_in s e) rows refl;
    }
leads_old (m ∷ ms) s boxes d sound h e within at =
    let now = move_stays m s sound h.0 e within at in
    let many = move_many m s in
    let later = leads_old ms (move_rows m s) (move_boxes m s boxes) d (sound_move m s sound h.0) h.1 e (omega (arith, within, many)) now.at in
    record {
      within = later.within;
      at = later.at;
      there = later.there ∙ ap (λ (b : Bool). not (goes_by e ms) && b) now.there ∙ neither (goes_at e m) (goes_by e ms) (is_here (place_in s e));
      owner = later.owner ∙ move_owner m s h.0 e within;
    }

-- what is so of an end that they attach
pub record New (ms : List Move) (d : Control) (e : EndId) : Type 0 where
  pub within : e.pair.0 < length d.rows.pairs
  pub at : is_at (place_of d e) ≡ true
  pub there : goes_by e ms ≡ false → is_here (place_of d e) ≡ true

no_first : (a b : Bool) → (a || b) ≡ false → b ≡ false
no_first true b h = absurd (never (sym h))
no_first false b h = h

new_later : (m : Move) (ms : List Move) (d : Control) (e : EndId) → New ms d e → New (m ∷ ms) d e
new_later m ms d e new = record { within = new.within; at = new.at; there = λ none. new.there (no_first (goes_at e m) (goes_by e ms) none) }

first_new : (m : Move) (ms : List Move) (s : Rows) (boxes : ℕ → List Letter) (d : Control) → Sound s → Leads (m ∷ ms) s boxes d → All (New (m ∷ ms) d) (attached_at m)
first_new (LinkMoves i event) ms s boxes d sound h = All-nil (New (LinkMoves i event ∷ ms) d)
first_new (EndMoves e Opens) ms s boxes d sound h =
    All-cons (New (EndMoves e Opens ∷ ms) d) e [] (joined (opens_joins s e h.0)) (All-nil (New (EndMoves e Opens ∷ ms) d))
  where
    joined : Joins (move_rows (EndMoves e Opens) s) e → New (EndMoves e Opens ∷ ms) d e
    joined j =
        let later = leads_old ms (move_rows (EndMoves e Opens) s) (move_boxes (EndMoves e Opens) s boxes) d (sound_move (EndMoves e Opens) s sound h.0) h.1 e j.within j.at in
        record { within = later.within; at = later.at; there = λ none. later.there ∙ ap (λ (b : Bool). not b && is_here (place_in (move_rows (EndMoves e Opens) s) e)) (no_first (goes_at e (EndMoves e Opens)) (goes_by e ms) none) ∙ j.there }
first_new (EndMoves e BindCame) ms s boxes d sound h =
    All-cons (New (EndMoves e BindCame ∷ ms) d) e [] (joined (binds_joins s e h.0)) (All-nil (New (EndMoves e BindCame ∷ ms) d))
  where
    joined : Joins (move_rows (EndMoves e BindCame) s) e → New (EndMoves e BindCame ∷ ms) d e
    joined j =
        let later = leads_old ms (move_rows (EndMoves e BindCame) s) (move_boxes (EndMoves e BindCame) s boxes) d (sound_move (EndMoves e BindCame) s sound h.0) h.1 e j.within j.at in
        record { within = later.within; at = later.at; there = λ none. later.there ∙ ap (λ (b : Bool). not b && is_here (place_in (move_rows (EndMoves e BindCame) s) e)) (no_first (goes_at e (EndMoves e BindCame)) (goes_by e ms) none) ∙ j.there }
first_new (EndMoves e (Happens event)) ms s boxes d sound h = All-nil (New (EndMoves e (Happens event) ∷ ms) d)
first_new (ObjectEnds i) ms s boxes d sound h = All-nil (New (ObjectEnds i ∷ ms) d)
first_new (ObjectMade row) ms s boxes d sound h = All-nil (New (ObjectMade row ∷ ms) d)
first_new (PairDrawn a b) ms s boxes d sound h = All-nil (New (PairDrawn a b ∷ ms) d)
first_new (LetterPut to word) ms s boxes d sound h = All-nil (New (LetterPut to word ∷ ms) d)

leads_new : (ms : List Move) (s : Rows) (boxes : ℕ → List Letter) (d : Control) → Sound s → Leads ms s boxes d → All (New ms d) (attached_by ms)
leads_new [] s boxes d sound h = All-nil (New [] d)
leads_new (m ∷ ms) s boxes d sound h =
    All-append (New (m ∷ ms) d) (attached_at m) (attached_by ms) (first_new m ms s boxes d sound h)
    (All-weaker (New ms d) (New (m ∷ ms) d) (new_later m ms d) (attached_by ms) (leads_new ms (move_rows m s) (move_boxes m s boxes) d (sound_move m s sound h.0) h.1))

-- ---- the moves that an event has of its own tell it
free_attached : (m : Move) → is_named m ≡ false → attached_at m ≡ []
free_attached (LinkMoves i event) h = refl
free_attached (EndMoves e Opens) h = absurd (never (sym h))
free_attached (EndMoves e BindCame) h = absurd (never (sym h))
free_attached (EndMoves e (Happens event)) h = refl
free_attached (ObjectEnds i) h = refl
free_attached (ObjectMade row) h = refl
free_attached (PairDrawn a b) h = refl
free_attached (LetterPut to word) h = refl

free_goes : (e : EndId) (m : Move) → is_named m ≡ false → goes_at e m ≡ false
free_goes e (LinkMoves i event) h = refl
free_goes e (EndMoves d Opens) h = absurd (never (sym h))
free_goes e (EndMoves d BindCame) h = absurd (never (sym h))
free_goes e (EndMoves d (Happens (Asked reason delay))) h = by (is_end e d)
  where
    by : (b : Bool) → (b && false) ≡ false
    by true = refl
    by false = refl
free_goes e (EndMoves d (Happens TermCame)) h = absurd (never (sym h))
free_goes e (EndMoves d (Happens DelimiterSeen)) h = absurd (never (sym h))
free_goes e (EndMoves d (Happens AckCame)) h = absurd (never (sym h))
free_goes e (ObjectEnds i) h = refl
free_goes e (ObjectMade row) h = refl
free_goes e (PairDrawn a b) h = refl
free_goes e (LetterPut to word) h = refl

pub attached_own : (ms : List Move) → attached_by (filter is_named ms) ≡ attached_by ms
attached_own [] = refl
attached_own (m ∷ ms) = by (is_named m) refl (attached_own ms)
  where
    by : (x : Bool) → is_named m ≡ x → attached_by (filter is_named ms) ≡ attached_by ms → attached_by (cond x (m ∷ filter is_named ms) (filter is_named ms)) ≡ attached_at m ++ attached_by ms
    by true e rest = ap (λ (es : List EndId). attached_at m ++ es) rest
    by false e rest = rest ∙ ap (λ (es : List EndId). es ++ attached_by ms) (sym (free_attached m e))

goes_own : (e : EndId) (ms : List Move) → goes_by e (filter is_named ms) ≡ goes_by e ms
goes_own e [] = refl
goes_own e (m ∷ ms) = by (is_named m) refl (goes_own e ms)
  where
    by : (x : Bool) → is_named m ≡ x → goes_by e (filter is_named ms) ≡ goes_by e ms → goes_by e (cond x (m ∷ filter is_named ms) (filter is_named ms)) ≡ (goes_at e m || goes_by e ms)
    by true h rest = ap (λ (b : Bool). goes_at e m || b) rest
    by false h rest = rest ∙ ap (λ (b : Bool). b || goes_by e ms) (sym (free_goes e m h))

module _ {N S : Type 0} (c : Control) (did : Did N S) (kept : Kept c) (fits : Fits c did) where
  sound : Sound (having_taken did c).rows
  sound = subst Sound (sym (taken_rows did c)) (sound_of c kept)

  pub record Old (e : EndId) : Type 0 where
    pub within : e.pair.0 < length (after did c).rows.pairs
    pub at : is_at (place_of (after did c) e) ≡ true
    pub there : is_here (place_of (after did c) e) ≡ (not (goes_by e (own_moves c did)) && is_here (place_of c e))
    pub owner : owner_of (after did c) e ≡ owner_of c e

  pub old_end : (e : EndId) → e.pair.0 < length c.rows.pairs → is_at (place_of c e) ≡ true → Old e
  old_end e within at =
      let g = event_goes c did kept fits in
      let rows = taken_rows did c in
      let of = leads_old g.moves (having_taken did c).rows (having_taken did c).boxes (after did c) sound g.leads e (subst (λ (r : Rows). e.pair.0 < length r.pairs) (sym rows) within) (subst (λ (r : Rows). is_at (place_in r e) ≡ true) (sym rows) at) in
      record {
        within = of.within;
        at = of.at;
        there = of.there ∙ ap (λ (b : Bool). not b && is_here (place_in (having_taken did c).rows e)) (sym (goes_own e g.moves) ∙ ap (goes_by e) g.own_are) ∙ ap (λ (r : Rows). not (goes_by e (own_moves c did)) && is_here (place_in r e)) rows;
        owner = of.owner ∙ ap (λ (r : Rows). owner_in r e) rows;
      }

  pub new_ends : All (New (own_moves c did) (after did c)) (attached_by (own_moves c did))
  new_ends =
      let g = event_goes c did kept fits in
      subst (λ (es : List EndId). All (New (own_moves c did) (after did c)) es) (sym (attached_own g.moves) ∙ ap attached_by g.own_are)
      (All-weaker (New g.moves (after did c)) (New (own_moves c did) (after did c)) own (attached_by g.moves)
      (leads_new g.moves (having_taken did c).rows (having_taken did c).boxes (after did c) sound g.leads))
    where
      own : (e : EndId) → New (event_goes c did kept fits).moves (after did c) e → New (own_moves c did) (after did c) e
      own e new =
          let g = event_goes c did kept fits in
          record { within = new.within; at = new.at; there = λ none. new.there (sym (goes_own e g.moves) ∙ ap (goes_by e) g.own_are ∙ none) }
