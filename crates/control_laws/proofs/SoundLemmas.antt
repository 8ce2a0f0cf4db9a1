-- What is so of the rows between the moves of an event: each pair is in a phase, and who owns something is there.
use Rattle.std.specs.Prelude.{◌≡◌, ◌<◌, ℕ, Bool, true, false, not, List, [], ◌∷◌, ◌++◌, Some, length, slice_set, refl}
use Rattle.std.proofs.Common.{arith, sym, ap, ◌∙◌, subst, inl, inr, length-set, length-append}
use Rattle.std.proofs.lemmas.Bool.{cases_eq}
use Rattle.zq_base.specs.declared.ids.EndId.{EndId}
use Rattle.spec_control.specs.declared.letter.Letter.{Letter}
use Rattle.spec_control.specs.declared.stage.Stage.TheVariants.{Finished}
use Rattle.spec_control.specs.Stage.{is_ending}
use Rattle.spec_control.specs.Place.{Unmade}
use Rattle.spec_control.specs.PairPhase.{PairEvent, Drawn}
use Rattle.spec_control.specs.Row.{Row, nobody, LinkEvent, OwnComes, PlugComes, IsTold, TermComes, AsksOver, RequestComes, ReapComes, AckComes, RootAsked, StopPut, StopComes, AsksForLink, AsksForLinger, link_may, link_after, is_socket}
use Rattle.spec_control.specs.Rows.{Rows, PairRow, no_pair, obj, pair, with_object, with_pair, end_owner, pair_after, IsInPhase, may_end}
use Rattle.spec_control.specs.Control.{Control}
use Rattle.control_laws.specs.Kept.{Kept}
use Rattle.control_laws.proofs.ListLemmas.{left, is_here, is_elsewhere, written, is_old, is_new, pushed, placed}
use Rattle.control_laws.proofs.LinkLemmas.{some_is, moves_on}
use Rattle.control_laws.proofs.ClosedLemmas.{has_owner}
use Rattle.control_laws.proofs.RowLemmas.{pair_there}
use Rattle.control_laws.proofs.StepLemmas.{inv_of, some_object, same_owner, same_slot, after_owner, moves_after}
use Rattle.control_laws.proofs.TellLemmas.{rows_of}
use Rattle.control_laws.proofs.EndLemmas.{kept_but}
use Rattle.control_laws.specs.Move.{Move, LinkMoves, EndMoves, ObjectEnds, ObjectMade, PairDrawn, LetterPut, move_rows, move_boxes, MayMove, Leads}

pub record Sound (s : Rows) : Type 0 where
  pub phases : (k : ℕ) → IsInPhase (pair s k)
  pub owners : (c w : ℕ) → (obj s c).owner ≡ Some w → w < length s.objects
  pub ends : (k : ℕ) (a : Bool) → end_owner (pair s k) a < length s.objects

pub socket_there : (s : Rows) (i : ℕ) → is_socket (obj s i).kind ≡ true → i < length s.objects
socket_there s i h = placed (λ (o : Row). not (is_socket o.kind)) s.objects nobody i refl (ap not h)

pub sound_of : (c : Control) → Kept c → Sound c.rows
sound_of c kept = record { phases = (inv_of (rows_of (kept_but 0 c kept))).phases; owners = owners; ends = ends }
  where
    owners : (d w : ℕ) → (obj c.rows d).owner ≡ Some w → w < length c.rows.objects
    owners d w of =
        elim (cases_eq w 0) [
          | inl zero_is ↦ subst (λ (n : ℕ). n < length c.rows.objects) (sym zero_is) (some_object c.rows kept.reached)
          | inr above ↦ socket_there c.rows w (kept.shape.owners d w of above)
        ]

    ends : (k : ℕ) (a : Bool) → end_owner (pair c.rows k) a < length c.rows.objects
    ends k a =
        elim (kept.shape.ends k a) [
          | inl w ↦ has_owner c.rows.objects w.0 (end_owner (pair c.rows k) a) w.1
          | inr none ↦ subst (λ (n : ℕ). n < length c.rows.objects) (sym (ap (λ (p : PairRow). end_owner p a) none ∙ zero_of a)) (some_object c.rows kept.reached)
        ]
      where
        zero_of : (a : Bool) → end_owner no_pair a ≡ 0
        zero_of true = refl
        zero_of false = refl

-- ---- a move leaves all that so
pub link_there : (s : Rows) (i : ℕ) (event : LinkEvent) → link_may event (obj s i) ≡ true → i < length s.objects
link_there s i event may = placed (λ (o : Row). not (link_may event o)) s.objects nobody i (by event) (ap not may)
  where
    by : (event : LinkEvent) → not (link_may event nobody) ≡ true
    by OwnComes = refl
    by PlugComes = refl
    by IsTold = refl
    by TermComes = refl
    by AsksOver = refl
    by RequestComes = refl
    by ReapComes = refl
    by AckComes = refl
    by RootAsked = refl
    by StopPut = refl
    by StopComes = refl
    by AsksForLink = refl
    by AsksForLinger = refl

pub ending_there : (s : Rows) (i : ℕ) → may_end s i ≡ true → i < length s.objects
ending_there s i may = placed (λ (o : Row). not (is_ending o.stage)) s.objects nobody i refl (ap not (left _ _ may))

-- a row is written that has the owner and the mailbox of the old one
record SameRow (s : Rows) (i : ℕ) (n : Row) : Type 0 where
  there : i < length s.objects
  owner : n.owner ≡ (obj s i).owner
  slot : n.slot ≡ (obj s i).slot

same_row_of : (s : Rows) (i : ℕ) (event : LinkEvent) → link_may event (obj s i) ≡ true → SameRow s i (link_after event (obj s i))
same_row_of s i event may = record { there = link_there s i event may; owner = same_owner event (obj s i); slot = same_slot event (obj s i) }

end_row_of : (s : Rows) (i : ℕ) → may_end s i ≡ true → SameRow s i (record (obj s i) { stage = Finished })
end_row_of s i may = record { there = ending_there s i may; owner = refl; slot = refl }

written_sound : (s : Rows) (i : ℕ) (n : Row) → SameRow s i n → Sound s → Sound (with_object i n s)
written_sound s i n row sound = record { phases = sound.phases; owners = owners; ends = λ k a. as_long _ (sound.ends k a) }
  where
    as_long : (w : ℕ) → w < length s.objects → w < length (slice_set s.objects i n)
    as_long w h = let same = length-set s.objects i n in omega (arith, same, h)

    owners : (d w : ℕ) → (obj (with_object i n s) d).owner ≡ Some w → w < length (slice_set s.objects i n)
    owners d w of =
        elim (written s.objects n nobody i d row.there) [
          | is_here here same ↦ as_long w (sound.owners i w (sym row.owner ∙ sym (ap (λ (o : Row). o.owner) same) ∙ of))
          | is_elsewhere same ↦ as_long w (sound.owners d w (sym (ap (λ (o : Row). o.owner) same) ∙ of))
        ]

moved_sound : (s : Rows) (e : EndId) (event : PairEvent) → MayMove (EndMoves e event) s → Sound s → Sound (move_rows (EndMoves e event) s)
moved_sound s e event may sound = record { phases = phases; owners = sound.owners; ends = ends }
  where
    p : PairRow
    p = pair_after event e.a (pair s e.pair.0)

    there : e.pair.0 < length s.pairs
    there = pair_there s e.pair.0 e.a event may.comes

    phases : (k : ℕ) → IsInPhase (pair (with_pair e.pair.0 (pair_after event e.a (pair s e.pair.0)) s) k)
    phases k =
        elim (written s.pairs p no_pair e.pair.0 k there) [
          | is_here here same ↦ subst IsInPhase (sym same) (moves_on event e.a (pair s e.pair.0) p (sound.phases e.pair.0) (moves_after event e.a (pair s e.pair.0) (sound.phases e.pair.0) may.comes)).0
          | is_elsewhere same ↦ subst IsInPhase (sym same) (sound.phases k)
        ]

    ends : (k : ℕ) (a : Bool) → end_owner (pair (with_pair e.pair.0 (pair_after event e.a (pair s e.pair.0)) s) k) a < length s.objects
    ends k a =
        elim (written s.pairs p no_pair e.pair.0 k there) [
          | is_here here same ↦ subst (λ (n : ℕ). n < length s.objects) (sym (ap (λ (q : PairRow). end_owner q a) same ∙ after_owner event e.a a (pair s e.pair.0))) (sound.ends e.pair.0 a)
          | is_elsewhere same ↦ subst (λ (n : ℕ). n < length s.objects) (sym (ap (λ (q : PairRow). end_owner q a) same)) (sound.ends k a)
        ]

made_sound : (s : Rows) (row : Row) → MayMove (ObjectMade row) s → Sound s → Sound (move_rows (ObjectMade row) s)
made_sound s row may sound = record { phases = sound.phases; owners = owners; ends = λ k a. longer _ (sound.ends k a) }
  where
    longer : (w : ℕ) → w < length s.objects → w < length (s.objects ++ row ∷ [])
    longer w h = let more = length-append s.objects (row ∷ []) in omega (arith, more, h)

    owners : (d w : ℕ) → (obj (move_rows (ObjectMade row) s) d).owner ≡ Some w → w < length (s.objects ++ row ∷ [])
    owners d w of =
        elim (pushed s.objects row nobody d) [
          | is_old e ↦ longer w (sound.owners d w (sym (ap (λ (o : Row). o.owner) e) ∙ of))
          | is_new at e was ↦ longer w (subst (λ (n : ℕ). n < length s.objects) (some_is may.under w (sym may.owner ∙ sym (ap (λ (o : Row). o.owner) e) ∙ of)) may.there)
        ]

drawn_sound : (s : Rows) (x y : ℕ) → MayMove (PairDrawn x y) s → Sound s → Sound (move_rows (PairDrawn x y) s)
drawn_sound s x y may sound = record { phases = phases; owners = sound.owners; ends = ends }
  where
    phases : (k : ℕ) → IsInPhase (pair (move_rows (PairDrawn x y) s) k)
    phases k =
        elim (pushed s.pairs (record { a_owner = x; b_owner = y; a = Unmade; b = Unmade }) no_pair k) [
          | is_old e ↦ subst IsInPhase (sym e) (sound.phases k)
          | is_new at e was ↦ subst IsInPhase (sym e) (record { phase = Drawn; first = true; a_is = refl; b_is = refl })
        ]

    owner : (a : Bool) → end_owner (record { a_owner = x; b_owner = y; a = Unmade; b = Unmade }) a < length s.objects
    owner true = may.0
    owner false = may.1

    ends : (k : ℕ) (a : Bool) → end_owner (pair (move_rows (PairDrawn x y) s) k) a < length s.objects
    ends k a =
        elim (pushed s.pairs (record { a_owner = x; b_owner = y; a = Unmade; b = Unmade }) no_pair k) [
          | is_old e ↦ subst (λ (n : ℕ). n < length s.objects) (sym (ap (λ (q : PairRow). end_owner q a) e)) (sound.ends k a)
          | is_new at e was ↦ subst (λ (n : ℕ). n < length s.objects) (sym (ap (λ (q : PairRow). end_owner q a) e)) (owner a)
        ]

pub sound_move : (m : Move) (s : Rows) → Sound s → MayMove m s → Sound (move_rows m s)
sound_move (LinkMoves i event) s sound may = written_sound s i (link_after event (obj s i)) (same_row_of s i event may) sound
sound_move (EndMoves e event) s sound may = moved_sound s e event may sound
sound_move (ObjectEnds i) s sound may = written_sound s i (record (obj s i) { stage = Finished }) (end_row_of s i may) sound
sound_move (ObjectMade row) s sound may = made_sound s row may sound
sound_move (PairDrawn x y) s sound may = drawn_sound s x y may sound
sound_move (LetterPut to word) s sound may = sound

-- ---- who is there stays there, with its mailbox
pub record Stays (s t : Rows) (i : ℕ) : Type 0 where
  pub there : i < length t.objects
  pub slot : (obj t i).slot ≡ (obj s i).slot

written_stays : (s : Rows) (i : ℕ) (n : Row) (j : ℕ) → SameRow s i n → j < length s.objects → Stays s (with_object i n s) j
written_stays s i n j row there = record {
  there = let same = length-set s.objects i n in omega (arith, same, there);
  slot = elim (written s.objects n nobody i j row.there) [
    | is_here here same ↦ ap (λ (o : Row). o.slot) same ∙ row.slot ∙ ap (λ (k : ℕ). (obj s k).slot) (sym here)
    | is_elsewhere same ↦ ap (λ (o : Row). o.slot) same
  ];
}

pub move_stays : (m : Move) (s : Rows) (j : ℕ) → MayMove m s → j < length s.objects → Stays s (move_rows m s) j
move_stays (LinkMoves i event) s j may there = written_stays s i (link_after event (obj s i)) j (same_row_of s i event may) there
move_stays (EndMoves e event) s j may there = record { there = there; slot = refl }
move_stays (ObjectEnds i) s j may there = written_stays s i (record (obj s i) { stage = Finished }) j (end_row_of s i may) there
move_stays (ObjectMade row) s j may there = record {
  there = let more = length-append s.objects (row ∷ []) in omega (arith, more, there);
  slot = elim (pushed s.objects row nobody j) [
    | is_old e ↦ ap (λ (o : Row). o.slot) e
    | is_new at e was ↦ absurd (omega (arith, at, there))
  ];
}
move_stays (PairDrawn x y) s j may there = record { there = there; slot = refl }
move_stays (LetterPut to word) s j may there = record { there = there; slot = refl }

pub leads_stay : (ms : List Move) (s : Rows) (boxes : ℕ → List Letter) (d : Control) (j : ℕ) → Leads ms s boxes d → j < length s.objects → Stays s d.rows j
leads_stay [] s boxes d j h there = subst (λ (r : Rows). Stays s r j) (sym h.0) (record { there = there; slot = refl })
leads_stay (m ∷ ms) s boxes d j h there =
    let now = move_stays m s j h.0 there in
    let later = leads_stay ms (move_rows m s) (move_boxes m s boxes) d j h.1 now.there in
    record { there = later.there; slot = later.slot ∙ now.slot }
