-- That no end is attached twice.
use Rattle.std.specs.Prelude.{◌≡◌, ◌<◌, ◌||◌, ◌⊎◌, ◌++◌, ◌∷◌, [], ℕ, Bool, true, false, List, All, length, refl}
use Rattle.std.specs.List.{list_any}
use Rattle.std.proofs.Common.{arith, sym, ap, ◌∙◌, subst, inl, inr}
use Rattle.std.proofs.lemmas.List.Elements.{All-nil, All-head, All-tail, All-append, All-weaker}
use Rattle.std.proofs.lemmas.List.Folds.{list_any-append}
use Rattle.zq_base.specs.declared.ids.EndId.{EndId}
use Rattle.spec_control.specs.declared.letter.Letter.{Letter}
use Rattle.spec_control.specs.declared.entry.Did.{Did}
use Rattle.spec_control.specs.declared.entry.Item.{Item}
use Rattle.spec_control.specs.declared.entry.Item.TheVariants.{Event, Seen}
use Rattle.spec_control.specs.Place.{Place, Unmade, Away, At}
use Rattle.spec_control.specs.PairPhase.{Opens, BindCame, Happens, meets}
use Rattle.spec_control.specs.Rows.{Rows}
use Rattle.spec_control.specs.Control.{Control, begun, is_end, next_pair, place_of}
use Rattle.spec_control.specs.After.{after}
use Rattle.spec_control.specs.ControlRun.{Fits, after_all, IsControlRun}
use Rattle.control_laws.proofs.ListLemmas.{never}
use Rattle.control_laws.specs.Kept.{Kept}
use Rattle.control_laws.proofs.AskLemmas.{same_end}
use Rattle.control_laws.proofs.RootLemmas.{begun_kept}
use Rattle.control_laws.proofs.RunLemmas.{after_kept}
use Rattle.control_laws.specs.Move.{Move, LinkMoves, EndMoves, ObjectEnds, ObjectMade, PairDrawn, LetterPut, move_rows, move_boxes, Leads}
use Rattle.control_laws.specs.OwnMoves.{own_moves, having_taken}
use Rattle.control_laws.proofs.SoundLemmas.{Sound, sound_of, sound_move}
use Rattle.control_laws.proofs.WeighLemmas.{taken_rows}
use Rattle.control_laws.proofs.EventGoLemmas.{event_goes}
use Rattle.control_laws.specs.AttachedOnce.{AreOnce, AttachedOnce}
use Rattle.control_laws.proofs.MoveLemmas.{place_in, is_at, attached_at, move_stays, move_many, met_there, opens_joins, binds_joins}
use Rattle.control_laws.proofs.LeadLemmas.{attached_by, attached_own, New, old_end, new_ends}
use Rattle.control_laws.proofs.AttachedLemmas.{attached_after}

-- an end that stands in the list has a pair, and was attached
pub record IsOld (c : Control) (e : EndId) : Type 0 where
  pub within : e.pair.0 < next_pair c
  pub at : is_at (place_of c e) ≡ true

abbrev pub AreOld : Control → Type 0
AreOld c = All (IsOld c) c.attached

module _ {N S : Type 0} (c : Control) (did : Did N S) (kept : Kept c) (fits : Fits c did) (old : AreOld c) where
  abbrev behind : Control
  behind = after did c

  abbrev own : List Move
  own = own_moves c did

  still : (e : EndId) → IsOld c e → IsOld behind e
  still e o = let s = old_end c did kept fits e o.within o.at in record { within = s.within; at = s.at }

  fresh : (e : EndId) → New own behind e → IsOld behind e
  fresh e n = record { within = n.within; at = n.at }

  -- the list goes on being so
  pub old_after : AreOld behind
  old_after =
      subst (λ (es : List EndId). All (IsOld behind) es) (sym (attached_after c did))
      (All-append (IsOld behind) c.attached (attached_by own) (All-weaker (IsOld c) (IsOld behind) still c.attached old) (All-weaker (New own behind) (IsOld behind) fresh (attached_by own) (new_ends c did kept fits)))

-- ---- what moves attach was not attached before
opens_new : (p : Place) → meets Opens p ≡ true → is_at p ≡ false
opens_new Unmade h = refl
opens_new Away h = refl
opens_new (At state) h = absurd (never h)

binds_new : (p : Place) → meets BindCame p ≡ true → is_at p ≡ false
binds_new Unmade h = refl
binds_new Away h = refl
binds_new (At state) h = absurd (never h)

or_cases : (a b : Bool) → (a || b) ≡ true → (a ≡ true) ⊎ (b ≡ true)
or_cases true b h = inl refl
or_cases false b h = inr h

either : (a b : Bool) → (a || b) ≡ true → a ≡ false → b ≡ true
either true b h f = absurd (never (sym f))
either false b h f = h

first_fresh : (m : Move) (ms : List Move) (s : Rows) (boxes : ℕ → List Letter) (d : Control) → Sound s → Leads (m ∷ ms) s boxes d → (e : EndId) → list_any (is_end e) (attached_at m) ≡ true → is_at (place_in s e) ≡ true → ⊥
first_fresh (LinkMoves i event) ms s boxes d sound h e among at = never among
first_fresh (EndMoves x Opens) ms s boxes d sound h e among at =
    let same = same_end e x (mine (is_end e x) among) in
    never (sym (opens_new (place_in s x) (met_there s sound x Opens h.0)) ∙ ap (λ (y : EndId). is_at (place_in s y)) (sym same) ∙ at)
  where
    mine : (b : Bool) → (b || false) ≡ true → b ≡ true
    mine true g = refl
    mine false g = g
first_fresh (EndMoves x BindCame) ms s boxes d sound h e among at =
    let same = same_end e x (mine (is_end e x) among) in
    never (sym (binds_new (place_in s x) (met_there s sound x BindCame h.0)) ∙ ap (λ (y : EndId). is_at (place_in s y)) (sym same) ∙ at)
  where
    mine : (b : Bool) → (b || false) ≡ true → b ≡ true
    mine true g = refl
    mine false g = g
first_fresh (EndMoves x (Happens event)) ms s boxes d sound h e among at = never among
first_fresh (ObjectEnds i) ms s boxes d sound h e among at = never among
first_fresh (ObjectMade row) ms s boxes d sound h e among at = never among
first_fresh (PairDrawn a b) ms s boxes d sound h e among at = never among
first_fresh (LetterPut to word) ms s boxes d sound h e among at = never among

leads_fresh : (ms : List Move) (s : Rows) (boxes : ℕ → List Letter) (d : Control) → Sound s → Leads ms s boxes d → (e : EndId) → e.pair.0 < length s.pairs → is_at (place_in s e) ≡ true → list_any (is_end e) (attached_by ms) ≡ true → ⊥
leads_fresh [] s boxes d sound h e within at among = never among
leads_fresh (m ∷ ms) s boxes d sound h e within at among =
    elim (or_cases (list_any (is_end e) (attached_at m)) (list_any (is_end e) (attached_by ms)) (sym (list_any-append (is_end e) (attached_at m) (attached_by ms)) ∙ among)) [
      | inl first ↦ first_fresh m ms s boxes d sound h e first at
      | inr later ↦
          let now = move_stays m s sound h.0 e within at in
          let many = move_many m s in
          leads_fresh ms (move_rows m s) (move_boxes m s boxes) d (sound_move m s sound h.0) h.1 e (omega (arith, within, many)) now.at later
    ]

not_among : (b : Bool) → (b ≡ true → ⊥) → b ≡ false
not_among true never_so = absurd (never_so refl)
not_among false never_so = refl

leads_once : (ms : List Move) (s : Rows) (boxes : ℕ → List Letter) (d : Control) → Sound s → Leads ms s boxes d → AreOnce (attached_by ms)
leads_once [] s boxes d sound h = tt
leads_once (LinkMoves i event ∷ ms) s boxes d sound h = leads_once ms _ _ d (sound_move (LinkMoves i event) s sound h.0) h.1
leads_once (EndMoves e Opens ∷ ms) s boxes d sound h =
    let j = opens_joins s e h.0 in
    let later = sound_move (EndMoves e Opens) s sound h.0 in
    (not_among _ (λ among. leads_fresh ms (move_rows (EndMoves e Opens) s) (move_boxes (EndMoves e Opens) s boxes) d later h.1 e j.within j.at among), leads_once ms _ _ d later h.1)
leads_once (EndMoves e BindCame ∷ ms) s boxes d sound h =
    let j = binds_joins s e h.0 in
    let later = sound_move (EndMoves e BindCame) s sound h.0 in
    (not_among _ (λ among. leads_fresh ms (move_rows (EndMoves e BindCame) s) (move_boxes (EndMoves e BindCame) s boxes) d later h.1 e j.within j.at among), leads_once ms _ _ d later h.1)
leads_once (EndMoves e (Happens event) ∷ ms) s boxes d sound h = leads_once ms _ _ d (sound_move (EndMoves e (Happens event)) s sound h.0) h.1
leads_once (ObjectEnds i ∷ ms) s boxes d sound h = leads_once ms _ _ d (sound_move (ObjectEnds i) s sound h.0) h.1
leads_once (ObjectMade row ∷ ms) s boxes d sound h = leads_once ms _ _ d (sound_move (ObjectMade row) s sound h.0) h.1
leads_once (PairDrawn a b ∷ ms) s boxes d sound h = leads_once ms _ _ d (sound_move (PairDrawn a b) s sound h.0) h.1
leads_once (LetterPut to word ∷ ms) s boxes d sound h = leads_once ms _ _ d (sound_move (LetterPut to word) s sound h.0) h.1

-- ---- the list
once_append : (xs ys : List EndId) → AreOnce xs → AreOnce ys → All (λ x. list_any (is_end x) ys ≡ false) xs → AreOnce (xs ++ ys)
once_append [] ys once_xs once_ys apart = once_ys
once_append (x ∷ xs) ys once_xs once_ys apart = (
  list_any-append (is_end x) xs ys ∙ ap (λ (b : Bool). b || list_any (is_end x) ys) once_xs.0 ∙ All-head (λ y. list_any (is_end y) ys ≡ false) x xs apart,
  once_append xs ys once_xs.1 once_ys (All-tail (λ y. list_any (is_end y) ys ≡ false) x xs apart),
)

once_after : {N S : Type 0} (c : Control) (did : Did N S) → Kept c → Fits c did → AreOld c → AreOnce c.attached → AreOnce (after did c).attached
once_after c did kept fits old once =
    subst AreOnce (sym (attached_after c did))
    (once_append c.attached (attached_by (own_moves c did)) once
    (subst AreOnce own (leads_once (event_goes c did kept fits).moves (having_taken did c).rows (having_taken did c).boxes (after did c) sound (event_goes c did kept fits).leads))
    (All-weaker (IsOld c) (λ x. list_any (is_end x) (attached_by (own_moves c did)) ≡ false) apart c.attached old))
  where
    own : attached_by (event_goes c did kept fits).moves ≡ attached_by (own_moves c did)
    own = sym (attached_own (event_goes c did kept fits).moves) ∙ ap attached_by (event_goes c did kept fits).own_are

    sound : Sound (having_taken did c).rows
    sound = subst Sound (sym (taken_rows did c)) (sound_of c kept)

    apart : (x : EndId) → IsOld c x → list_any (is_end x) (attached_by (own_moves c did)) ≡ false
    apart x o =
        not_among _ (λ among. leads_fresh (event_goes c did kept fits).moves (having_taken did c).rows (having_taken did c).boxes (after did c) sound (event_goes c did kept fits).leads x
        (subst (λ (r : Rows). x.pair.0 < length r.pairs) (sym (taken_rows did c)) o.within) (subst (λ (r : Rows). is_at (place_in r x) ≡ true) (sym (taken_rows did c)) o.at)
        (ap (list_any (is_end x)) own ∙ among))

module _ {N S : Type 0} where
  old_over : (items : List (Item N S)) (c : Control) → Kept c → AreOld c → IsControlRun c items → AreOld (after_all items c)
  old_over [] c kept old run = old
  old_over (Event entry ∷ items) c kept old run = old_over items (after entry.did c) (after_kept c entry.did kept run.0) (old_after c entry.did kept run.0 old) run.1
  old_over (Seen sight ∷ items) c kept old run = old_over items c kept old run.1

  pub old_run : (workers : ℕ) (items : List (Item N S)) → IsControlRun (begun workers) items → AreOld (after_all items (begun workers))
  old_run workers items run = old_over items (begun workers) (begun_kept workers) (All-nil (IsOld (begun workers))) run

  once_over : (items : List (Item N S)) (c : Control) → Kept c → AreOld c → AreOnce c.attached → IsControlRun c items → AreOnce (after_all items c).attached
  once_over [] c kept old once run = once
  once_over (Event entry ∷ items) c kept old once run =
      once_over items (after entry.did c) (after_kept c entry.did kept run.0) (old_after c entry.did kept run.0 old) (once_after c entry.did kept run.0 old once) run.1
  once_over (Seen sight ∷ items) c kept old once run = once_over items c kept old once run.1

pub ends_are_attached_once : (N S : Type 0) → AttachedOnce N S
ends_are_attached_once N S workers items run = once_over items (begun workers) (begun_kept workers) (All-nil (IsOld (begun workers))) tt run
