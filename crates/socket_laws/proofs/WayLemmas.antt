-- How far an end that was attached goes in the moves of an event.
use Rattle.std.specs.Prelude.{◌≡◌, ◌<◌, ◌&&◌, ◌||◌, ℕ, Bool, true, false, List, [], ◌∷◌, All, cond, length, filter, refl}
use Rattle.std.proofs.Common.{arith, sym, ap, ◌∙◌, subst, inl, inr}
use Rattle.std.proofs.lemmas.List.{get_or-set_same}
use Rattle.std.proofs.lemmas.List.Elements.{All-nil, All-cons, All-append, All-weaker}
use Rattle.zq_base.specs.declared.ids.EndId.{EndId}
use Rattle.spec_control.specs.declared.letter.Letter.{Letter}
use Rattle.spec_control.specs.declared.entry.Did.{Did}
use Rattle.spec_control.specs.declared.end.EndEvent.TheVariants.{Asked, TermCame, DelimiterSeen, AckCame}
use Rattle.spec_control.specs.declared.end.EndState.TheVariants.{Active}
use Rattle.spec_control.specs.Place.{Place, At}
use Rattle.spec_control.specs.PairPhase.{PairEvent, Opens, BindCame, Happens, place_after}
use Rattle.spec_control.specs.Rows.{Rows, PairRow, no_pair, pair, end_place, pair_after}
use Rattle.spec_control.specs.Control.{Control, is_end, place_of}
use Rattle.spec_control.specs.After.{after}
use Rattle.spec_control.specs.ControlRun.{Fits}
use Rattle.control_laws.proofs.ListLemmas.{never}
use Rattle.control_laws.proofs.RowLemmas.{pair_there}
use Rattle.control_laws.specs.Kept.{Kept}
use Rattle.control_laws.specs.Move.{Move, LinkMoves, EndMoves, ObjectEnds, ObjectMade, PairDrawn, LetterPut, move_rows, move_boxes, is_named, Leads}
use Rattle.control_laws.specs.OwnMoves.{own_moves, having_taken}
use Rattle.control_laws.proofs.SoundLemmas.{Sound, sound_of, sound_move}
use Rattle.control_laws.proofs.WeighLemmas.{taken_rows}
use Rattle.control_laws.proofs.EventGoLemmas.{event_goes}
use Rattle.control_laws.proofs.MoveLemmas.{place_in, is_at, attached_at, move_stays, move_many, opens_joins, binds_joins}
use Rattle.control_laws.proofs.LeadLemmas.{attached_by, attached_own}
use Rattle.spec_run.specs.OpenSocket.{awaits_delimiter}
use Rattle.socket_laws.proofs.StepLemmas.{term_at, term_in, Back, same_place, move_back}

-- ---- over moves
first_came : (a b : Bool) → a ≡ true → (a || b) ≡ true
first_came true b h = refl
first_came false b h = absurd (never h)

later_came : (a b : Bool) → b ≡ true → (a || b) ≡ true
later_came true b h = refl
later_came false b h = h

back_on : (a b : Bool) (p q r : Place) → Back a p q → Back b q r → Back (a || b) p r
back_on a b p q r one two = record {
  active = λ e. one.active (two.active e);
  awaits = λ e. elim (two.awaits e) [
    | inl was ↦ elim (one.awaits was) [
      | inl first ↦ inl first
      | inr came ↦ inr (first_came a b came)
    ]
    | inr came ↦ inr (later_came a b came)
  ];
}

leads_back : (ms : List Move) (s : Rows) (boxes : ℕ → List Letter) (d : Control) → Sound s → Leads ms s boxes d → (e : EndId) → e.pair.0 < length s.pairs → is_at (place_in s e) ≡ true → Back (term_in e ms) (place_in s e) (place_of d e)
leads_back [] s boxes d sound h e within at = same_place false _ _ (ap (λ (r : Rows). place_in r e) h.0)
leads_back (m ∷ ms) s boxes d sound h e within at =
    let now = move_stays m s sound h.0 e within at in
    let many = move_many m s in
    back_on (term_at e m) (term_in e ms) (place_in s e) (place_in (move_rows m s) e) (place_of d e) (move_back m s sound h.0 e within at)
    (leads_back ms (move_rows m s) (move_boxes m s boxes) d (sound_move m s sound h.0) h.1 e (omega (arith, within, many)) now.at)

-- an end that they attach begins Active
begins : (s : Rows) (e : EndId) (event : PairEvent) → e.pair.0 < length s.pairs → ((x : Place) → place_after event x ≡ At Active) → place_in (move_rows (EndMoves e event) s) e ≡ At Active
begins s e event within active =
    let now = pair_after event e.a (pair s e.pair.0) in
    ap (λ (p : PairRow). end_place p e.a) (get_or-set_same s.pairs e.pair.0 now no_pair within) ∙ side e.a (pair s e.pair.0) ∙ active (end_place (pair s e.pair.0) e.a)
  where
    side : (x : Bool) (p : PairRow) → end_place (pair_after event x p) x ≡ place_after event (end_place p x)
    side true p = refl
    side false p = refl

-- and reads on only where the other end's command came
abbrev NewAwaits : List Move → Control → EndId → Type 0
NewAwaits ms d e = awaits_delimiter (place_of d e) ≡ true → term_in e ms ≡ true

new_after : (m : Move) (ms : List Move) (d : Control) (e : EndId) (p : Place) → p ≡ At Active → Back (term_in e ms) p (place_of d e) → NewAwaits (m ∷ ms) d e
new_after m ms d e p active back h =
    elim (back.awaits h) [
      | inl was ↦ absurd (never (sym (ap awaits_delimiter active) ∙ was))
      | inr came ↦ later_came (term_at e m) (term_in e ms) came
    ]

first_awaits : (m : Move) (ms : List Move) (s : Rows) (boxes : ℕ → List Letter) (d : Control) → Sound s → Leads (m ∷ ms) s boxes d → All (NewAwaits (m ∷ ms) d) (attached_at m)
first_awaits (LinkMoves i event) ms s boxes d sound h = All-nil (NewAwaits (LinkMoves i event ∷ ms) d)
first_awaits (EndMoves e Opens) ms s boxes d sound h =
    let j = opens_joins s e h.0 in
    let t = move_rows (EndMoves e Opens) s in
    All-cons (NewAwaits (EndMoves e Opens ∷ ms) d) e []
    (new_after (EndMoves e Opens) ms d e (place_in t e) (begins s e Opens (pair_there s e.pair.0 e.a Opens h.0.comes) (λ x. refl))
    (leads_back ms t (move_boxes (EndMoves e Opens) s boxes) d (sound_move (EndMoves e Opens) s sound h.0) h.1 e j.within j.at)) (All-nil (NewAwaits (EndMoves e Opens ∷ ms) d))
first_awaits (EndMoves e BindCame) ms s boxes d sound h =
    let j = binds_joins s e h.0 in
    let t = move_rows (EndMoves e BindCame) s in
    All-cons (NewAwaits (EndMoves e BindCame ∷ ms) d) e []
    (new_after (EndMoves e BindCame) ms d e (place_in t e) (begins s e BindCame (pair_there s e.pair.0 e.a BindCame h.0.comes) (λ x. refl))
    (leads_back ms t (move_boxes (EndMoves e BindCame) s boxes) d (sound_move (EndMoves e BindCame) s sound h.0) h.1 e j.within j.at)) (All-nil (NewAwaits (EndMoves e BindCame ∷ ms) d))
first_awaits (EndMoves e (Happens event)) ms s boxes d sound h = All-nil (NewAwaits (EndMoves e (Happens event) ∷ ms) d)
first_awaits (ObjectEnds i) ms s boxes d sound h = All-nil (NewAwaits (ObjectEnds i ∷ ms) d)
first_awaits (ObjectMade row) ms s boxes d sound h = All-nil (NewAwaits (ObjectMade row ∷ ms) d)
first_awaits (PairDrawn a b) ms s boxes d sound h = All-nil (NewAwaits (PairDrawn a b ∷ ms) d)
first_awaits (LetterPut to word) ms s boxes d sound h = All-nil (NewAwaits (LetterPut to word ∷ ms) d)

leads_awaits : (ms : List Move) (s : Rows) (boxes : ℕ → List Letter) (d : Control) → Sound s → Leads ms s boxes d → All (NewAwaits ms d) (attached_by ms)
leads_awaits [] s boxes d sound h = All-nil (NewAwaits [] d)
leads_awaits (m ∷ ms) s boxes d sound h =
    All-append (NewAwaits (m ∷ ms) d) (attached_at m) (attached_by ms) (first_awaits m ms s boxes d sound h)
    (All-weaker (NewAwaits ms d) (NewAwaits (m ∷ ms) d) (λ e so is. later_came (term_at e m) (term_in e ms) (so is)) (attached_by ms)
    (leads_awaits ms (move_rows m s) (move_boxes m s boxes) d (sound_move m s sound h.0) h.1))

-- ---- the moves that an event has of its own tell it
free_term : (e : EndId) (m : Move) → is_named m ≡ false → term_at e m ≡ false
free_term e (LinkMoves i event) h = refl
free_term e (EndMoves d Opens) h = absurd (never (sym h))
free_term e (EndMoves d BindCame) h = absurd (never (sym h))
free_term e (EndMoves d (Happens (Asked reason delay))) h = by (is_end e d)
  where
    by : (b : Bool) → (b && false) ≡ false
    by true = refl
    by false = refl
free_term e (EndMoves d (Happens TermCame)) h = absurd (never (sym h))
free_term e (EndMoves d (Happens DelimiterSeen)) h = absurd (never (sym h))
free_term e (EndMoves d (Happens AckCame)) h = absurd (never (sym h))
free_term e (ObjectEnds i) h = refl
free_term e (ObjectMade row) h = refl
free_term e (PairDrawn a b) h = refl
free_term e (LetterPut to word) h = refl

term_own : (e : EndId) (ms : List Move) → term_in e (filter is_named ms) ≡ term_in e ms
term_own e [] = refl
term_own e (m ∷ ms) = by (is_named m) refl (term_own e ms)
  where
    by : (x : Bool) → is_named m ≡ x → term_in e (filter is_named ms) ≡ term_in e ms → term_in e (cond x (m ∷ filter is_named ms) (filter is_named ms)) ≡ (term_at e m || term_in e ms)
    by true h rest = ap (λ (b : Bool). term_at e m || b) rest
    by false h rest = rest ∙ ap (λ (b : Bool). b || term_in e ms) (sym (free_term e m h))

module _ {N S : Type 0} (c : Control) (did : Did N S) (kept : Kept c) (fits : Fits c did) where
  sound : Sound (having_taken did c).rows
  sound = subst Sound (sym (taken_rows did c)) (sound_of c kept)

  own_term : (e : EndId) → term_in e (event_goes c did kept fits).moves ≡ term_in e (own_moves c did)
  own_term e = let g = event_goes c did kept fits in sym (term_own e g.moves) ∙ ap (term_in e) g.own_are

  -- of an end that was attached
  pub old_back : (e : EndId) → e.pair.0 < length c.rows.pairs → is_at (place_of c e) ≡ true → Back (term_in e (own_moves c did)) (place_of c e) (place_of (after did c) e)
  old_back e within at =
      let g = event_goes c did kept fits in
      let rows = taken_rows did c in
      subst (λ (b : Bool). Back b (place_of c e) (place_of (after did c) e)) (own_term e)
      (subst (λ (r : Rows). Back (term_in e g.moves) (place_in r e) (place_of (after did c) e)) rows
      (leads_back g.moves (having_taken did c).rows (having_taken did c).boxes (after did c) sound g.leads e (subst (λ (r : Rows). e.pair.0 < length r.pairs) (sym rows) within) (subst (λ (r : Rows). is_at (place_in r e) ≡ true) (sym rows) at)))

  -- and of one that is
  pub new_awaits : All (NewAwaits (own_moves c did) (after did c)) (attached_by (own_moves c did))
  new_awaits =
      let g = event_goes c did kept fits in
      subst (λ (es : List EndId). All (NewAwaits (own_moves c did) (after did c)) es) (sym (attached_own g.moves) ∙ ap attached_by g.own_are)
      (All-weaker (NewAwaits g.moves (after did c)) (NewAwaits (own_moves c did) (after did c)) (λ e so is. sym (own_term e) ∙ so is) (attached_by g.moves)
      (leads_awaits g.moves (having_taken did c).rows (having_taken did c).boxes (after did c) sound g.leads))
