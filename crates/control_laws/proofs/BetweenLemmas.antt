-- Which events close a socket, and which bring it to the reaper.
use Rattle.std.specs.Prelude.{◌≡◌, ◌==◌, ◌&&◌, ◌||◌, ◌⊎◌, ℕ, Bool, true, false, cond, List, [], ◌∷◌, filter, slice_index_or, slice_set, refl}
use Rattle.std.specs.List.{list_any}
use Rattle.std.proofs.Common.{sym, ap, ◌∙◌, subst, inl, inr}
use Rattle.std.proofs.lemmas.Bool.{cases_eq, eq-eqb}
use Rattle.std.proofs.lemmas.List.{get_or-set_same, get_or-set_other}
use Rattle.spec_control.specs.declared.letter.Letter.{Letter}
use Rattle.spec_control.specs.declared.stage.Use.{Use}
use Rattle.spec_control.specs.declared.stage.Use.TheVariants.{Unused, OnItsWay, Used}
use Rattle.spec_control.specs.declared.stage.Stage.TheVariants.{Finished}
use Rattle.spec_control.specs.declared.entry.Did.{Did}
use Rattle.spec_control.specs.Stage.{is_unused, is_coming}
use Rattle.spec_control.specs.Row.{Row, nobody, LinkEvent, OwnComes, PlugComes, IsTold, TermComes, AsksOver, RequestComes, ReapComes, AckComes, RootAsked, StopPut, StopComes, AsksForLink, AsksForLinger, link_may, link_after, is_socket}
use Rattle.spec_control.specs.Rows.{Rows, obj}
use Rattle.spec_control.specs.Control.{Control}
use Rattle.spec_control.specs.After.{after}
use Rattle.spec_control.specs.ControlRun.{Fits, is_between}
use Rattle.control_laws.proofs.ListLemmas.{never, left, right, is_false, pushed, is_old, is_new}
use Rattle.control_laws.specs.Kept.{Kept}
use Rattle.control_laws.specs.Move.{Move, LinkMoves, EndMoves, ObjectEnds, ObjectMade, PairDrawn, LetterPut, move_rows, move_boxes, is_named, MayMove, Leads}
use Rattle.control_laws.specs.OwnMoves.{own_moves, having_taken}
use Rattle.control_laws.proofs.EventGoLemmas.{event_goes}
use Rattle.control_laws.proofs.SoundLemmas.{link_there, ending_there}
use Rattle.control_laws.proofs.WeighLemmas.{taken_rows}

-- the object asks to end, or its Reap is processed, in a move
abbrev pub asks_over : ℕ → Move → Bool
asks_over i (LinkMoves j AsksOver) = j == i
asks_over i (LinkMoves j OwnComes) = false
asks_over i (LinkMoves j PlugComes) = false
asks_over i (LinkMoves j IsTold) = false
asks_over i (LinkMoves j TermComes) = false
asks_over i (LinkMoves j RequestComes) = false
asks_over i (LinkMoves j ReapComes) = false
asks_over i (LinkMoves j AckComes) = false
asks_over i (LinkMoves j RootAsked) = false
asks_over i (LinkMoves j StopPut) = false
asks_over i (LinkMoves j StopComes) = false
asks_over i (LinkMoves j AsksForLink) = false
asks_over i (LinkMoves j AsksForLinger) = false
asks_over i (EndMoves e event) = false
asks_over i (ObjectEnds j) = false
asks_over i (ObjectMade row) = false
asks_over i (PairDrawn a b) = false
asks_over i (LetterPut to word) = false

abbrev pub reap_comes : ℕ → Move → Bool
reap_comes i (LinkMoves j ReapComes) = j == i
reap_comes i (LinkMoves j OwnComes) = false
reap_comes i (LinkMoves j PlugComes) = false
reap_comes i (LinkMoves j IsTold) = false
reap_comes i (LinkMoves j TermComes) = false
reap_comes i (LinkMoves j AsksOver) = false
reap_comes i (LinkMoves j RequestComes) = false
reap_comes i (LinkMoves j AckComes) = false
reap_comes i (LinkMoves j RootAsked) = false
reap_comes i (LinkMoves j StopPut) = false
reap_comes i (LinkMoves j StopComes) = false
reap_comes i (LinkMoves j AsksForLink) = false
reap_comes i (LinkMoves j AsksForLinger) = false
reap_comes i (EndMoves e event) = false
reap_comes i (ObjectEnds j) = false
reap_comes i (ObjectMade row) = false
reap_comes i (PairDrawn a b) = false
reap_comes i (LetterPut to word) = false

-- an object is made as a closed socket, which none is
abbrev pub made_between : Move → Bool
made_between (LinkMoves j event) = false
made_between (EndMoves e event) = false
made_between (ObjectEnds j) = false
made_between (ObjectMade row) = is_between row
made_between (PairDrawn a b) = false
made_between (LetterPut to word) = false

record Keeps (m : Move) (s : Rows) (i : ℕ) : Type 0 where
  back : is_between (obj (move_rows m s) i) ≡ true → (is_between (obj s i) ≡ true) ⊎ (asks_over i m ≡ true)
  on : is_between (obj s i) ≡ true → (is_between (obj (move_rows m s) i) ≡ true) ⊎ (reap_comes i m ≡ true)

no_and : (b : Bool) → (b && false) ≡ true → ⊥
no_and true h = never h
no_and false h = never h

coming_used : (u : Use) → is_unused u ≡ true → is_coming u ≡ true → ⊥
coming_used Unused h k = never k
coming_used OnItsWay h k = never h
coming_used Used h k = never h

-- the row of the object that the event is of
record KeepsRow (event : LinkEvent) (o : Row) : Type 0 where
  back : is_between (link_after event o) ≡ true → (is_between o ≡ true) ⊎ ((k : ℕ) → asks_over k (LinkMoves k event) ≡ true)
  on : is_between o ≡ true → (is_between (link_after event o) ≡ true) ⊎ ((k : ℕ) → reap_comes k (LinkMoves k event) ≡ true)

row_keeps : (event : LinkEvent) (o : Row) → link_may event o ≡ true → KeepsRow event o
row_keeps OwnComes o may_so = record { back = λ h. inl h; on = λ h. inl h }
row_keeps PlugComes o may_so = record { back = λ h. inl h; on = λ h. inl h }
row_keeps IsTold o may_so = record { back = λ h. inl h; on = λ h. inl h }
row_keeps TermComes o may_so = record { back = λ h. inl h; on = λ h. inl h }
row_keeps AsksOver o may_so = record { back = λ h. inr (λ k. eq-eqb k k refl); on = λ h. absurd (coming_used o.request (left (is_unused o.request) _ may_so) (right (is_socket o.kind) _ h)) }
row_keeps RequestComes o may_so = record { back = λ h. absurd (no_and (is_socket o.kind) h); on = λ h. absurd (clash (left (is_socket o.kind) _ h) (is_false (is_socket o.kind) (right o.noted _ (right (is_coming o.request) _ may_so)))) }
  where
    clash : {b : Bool} → b ≡ true → b ≡ false → ⊥
    clash h k = never (sym k ∙ h)
row_keeps ReapComes o may_so = record { back = λ h. absurd (no_and (is_socket o.kind) h); on = λ h. inr (λ k. eq-eqb k k refl) }
row_keeps AckComes o may_so = record { back = λ h. inl h; on = λ h. inl h }
row_keeps RootAsked o may_so = record { back = λ h. inl h; on = λ h. inl h }
row_keeps StopPut o may_so = record { back = λ h. inl h; on = λ h. inl h }
row_keeps StopComes o may_so = record { back = λ h. inl h; on = λ h. inl h }
row_keeps AsksForLink o may_so = record { back = λ h. inl h; on = λ h. inl h }
row_keeps AsksForLinger o may_so = record { back = λ h. inl h; on = λ h. inl h }

same_row : (m : Move) (s : Rows) (i : ℕ) → is_between (obj (move_rows m s) i) ≡ is_between (obj s i) → Keeps m s i
same_row m s i same = record { back = λ h. inl (sym same ∙ h); on = λ h. inl (same ∙ h) }

move_keeps : (m : Move) (s : Rows) → MayMove m s → made_between m ≡ false → (i : ℕ) → Keeps m s i
move_keeps (LinkMoves j event) s may_so none i = by (cases_eq i j)
  where
    now : Row
    now = link_after event (obj s j)

    of : KeepsRow event (obj s j)
    of = row_keeps event (obj s j) may_so

    here : i ≡ j → is_between (slice_index_or (slice_set s.objects j now) i nobody) ≡ is_between now
    here same = ap (λ (k : ℕ). is_between (slice_index_or (slice_set s.objects j now) k nobody)) same ∙ ap is_between (get_or-set_same s.objects j now nobody (link_there s j event may_so))

    was : i ≡ j → is_between (obj s i) ≡ is_between (obj s j)
    was same = ap (λ (k : ℕ). is_between (obj s k)) same

    by : (i ≡ j) ⊎ (i ≡ j → ⊥) → Keeps (LinkMoves j event) s i
    by (inl same) = record {
      back = λ h. elim (of.back (sym (here same) ∙ h)) [
        | inl k ↦ inl (was same ∙ k)
        | inr k ↦ inr (subst (λ (x : ℕ). asks_over x (LinkMoves j event) ≡ true) (sym same) (k j))
      ];
      on = λ h. elim (of.on (sym (was same) ∙ h)) [
        | inl k ↦ inl (here same ∙ k)
        | inr k ↦ inr (subst (λ (x : ℕ). reap_comes x (LinkMoves j event) ≡ true) (sym same) (k j))
      ];
    }
    by (inr other) = same_row (LinkMoves j event) s i (ap is_between (get_or-set_other s.objects j i now nobody other))
move_keeps (EndMoves e event) s may_so none i = same_row (EndMoves e event) s i refl
move_keeps (ObjectEnds j) s may_so none i = same_row (ObjectEnds j) s i (by (cases_eq i j))
  where
    now : Row
    now = record (obj s j) { stage = Finished }

    by : (i ≡ j) ⊎ (i ≡ j → ⊥) → is_between (slice_index_or (slice_set s.objects j now) i nobody) ≡ is_between (obj s i)
    by (inl same) =
        ap (λ (k : ℕ). is_between (slice_index_or (slice_set s.objects j now) k nobody)) same ∙ ap is_between (get_or-set_same s.objects j now nobody (ending_there s j may_so))
        ∙ ap (λ (k : ℕ). is_between (obj s k)) (sym same)
    by (inr other) = ap is_between (get_or-set_other s.objects j i now nobody other)
move_keeps (ObjectMade row) s may_so none i =
    elim (pushed s.objects row nobody i) [
      | is_old is ↦ same_row (ObjectMade row) s i (ap is_between is)
      | is_new last is was ↦ same_row (ObjectMade row) s i (ap is_between is ∙ none ∙ sym (ap is_between was))
    ]
move_keeps (PairDrawn a b) s may_so none i = same_row (PairDrawn a b) s i refl
move_keeps (LetterPut to word) s may_so none i = same_row (LetterPut to word) s i refl

-- ---- over moves
any_first : (a b : Bool) → a ≡ true → (a || b) ≡ true
any_first true b h = refl
any_first false b h = absurd (never h)

any_rest : (a b : Bool) → b ≡ true → (a || b) ≡ true
any_rest true b h = refl
any_rest false b h = h

none_first : (a b : Bool) → (a || b) ≡ false → a ≡ false
none_first true b h = h
none_first false b h = refl

none_rest : (a b : Bool) → (a || b) ≡ false → b ≡ false
none_rest true b h = absurd (never (sym h))
none_rest false b h = h

record KeepAll (ms : List Move) (s : Rows) (d : Control) (i : ℕ) : Type 0 where
  back : is_between (obj d.rows i) ≡ true → (is_between (obj s i) ≡ true) ⊎ (list_any (asks_over i) ms ≡ true)
  on : is_between (obj s i) ≡ true → (is_between (obj d.rows i) ≡ true) ⊎ (list_any (reap_comes i) ms ≡ true)

leads_keep : (ms : List Move) (s : Rows) (boxes : ℕ → List Letter) (d : Control) → Leads ms s boxes d → list_any made_between ms ≡ false → (i : ℕ) → KeepAll ms s d i
leads_keep [] s boxes d h none i =
    let same = ap (λ (r : Rows). is_between (obj r i)) h.0 in
    record { back = λ k. inl (sym same ∙ k); on = λ k. inl (same ∙ k) }
leads_keep (m ∷ ms) s boxes d h none i =
    let now = move_keeps m s h.0 (none_first (made_between m) _ none) i in
    let later = leads_keep ms (move_rows m s) (move_boxes m s boxes) d h.1 (none_rest (made_between m) _ none) i in
    record {
      back = λ k. elim (later.back k) [
        | inl x ↦ elim (now.back x) [
          | inl y ↦ inl y
          | inr y ↦ inr (any_first (asks_over i m) _ y)
        ]
        | inr x ↦ inr (any_rest (asks_over i m) _ x)
      ];
      on = λ k. elim (now.on k) [
        | inl x ↦ elim (later.on x) [
          | inl y ↦ inl y
          | inr y ↦ inr (any_rest (reap_comes i m) _ y)
        ]
        | inr x ↦ inr (any_first (reap_comes i m) _ x)
      ];
    }

-- what only named moves do, the moves of its own tell
any_named : (f : Move → Bool) → ((m : Move) → is_named m ≡ false → f m ≡ false) → (ms : List Move) → list_any f (filter is_named ms) ≡ list_any f ms
any_named f free [] = refl
any_named f free (m ∷ ms) = by (is_named m) refl (any_named f free ms)
  where
    by : (x : Bool) → is_named m ≡ x → list_any f (filter is_named ms) ≡ list_any f ms → list_any f (cond x (m ∷ filter is_named ms) (filter is_named ms)) ≡ (f m || list_any f ms)
    by true e rest = ap (λ (b : Bool). f m || b) rest
    by false e rest = rest ∙ ap (λ (b : Bool). b || list_any f ms) (sym (free m e))

pub free_asks : (i : ℕ) (m : Move) → is_named m ≡ false → asks_over i m ≡ false
free_asks i (LinkMoves j OwnComes) h = refl
free_asks i (LinkMoves j PlugComes) h = refl
free_asks i (LinkMoves j IsTold) h = refl
free_asks i (LinkMoves j TermComes) h = refl
free_asks i (LinkMoves j AsksOver) h = absurd (never (sym h))
free_asks i (LinkMoves j RequestComes) h = refl
free_asks i (LinkMoves j ReapComes) h = refl
free_asks i (LinkMoves j AckComes) h = refl
free_asks i (LinkMoves j RootAsked) h = refl
free_asks i (LinkMoves j StopPut) h = refl
free_asks i (LinkMoves j StopComes) h = refl
free_asks i (LinkMoves j AsksForLink) h = refl
free_asks i (LinkMoves j AsksForLinger) h = refl
free_asks i (EndMoves e event) h = refl
free_asks i (ObjectEnds j) h = refl
free_asks i (ObjectMade row) h = refl
free_asks i (PairDrawn a b) h = refl
free_asks i (LetterPut to word) h = refl

free_reaps : (i : ℕ) (m : Move) → is_named m ≡ false → reap_comes i m ≡ false
free_reaps i (LinkMoves j OwnComes) h = refl
free_reaps i (LinkMoves j PlugComes) h = refl
free_reaps i (LinkMoves j IsTold) h = refl
free_reaps i (LinkMoves j TermComes) h = refl
free_reaps i (LinkMoves j AsksOver) h = refl
free_reaps i (LinkMoves j RequestComes) h = refl
free_reaps i (LinkMoves j ReapComes) h = absurd (never (sym h))
free_reaps i (LinkMoves j AckComes) h = refl
free_reaps i (LinkMoves j RootAsked) h = refl
free_reaps i (LinkMoves j StopPut) h = refl
free_reaps i (LinkMoves j StopComes) h = refl
free_reaps i (LinkMoves j AsksForLink) h = refl
free_reaps i (LinkMoves j AsksForLinger) h = refl
free_reaps i (EndMoves e event) h = refl
free_reaps i (ObjectEnds j) h = refl
free_reaps i (ObjectMade row) h = refl
free_reaps i (PairDrawn a b) h = refl
free_reaps i (LetterPut to word) h = refl

free_made : (m : Move) → is_named m ≡ false → made_between m ≡ false
free_made (LinkMoves j event) h = refl
free_made (EndMoves e event) h = refl
free_made (ObjectEnds j) h = refl
free_made (ObjectMade row) h = absurd (never (sym h))
free_made (PairDrawn a b) h = refl
free_made (LetterPut to word) h = refl

module _ {N S : Type 0} (c : Control) (did : Did N S) (kept : Kept c) (fits : Fits c did) (none : list_any made_between (own_moves c did) ≡ false) (i : ℕ) where
  all : KeepAll (event_goes c did kept fits).moves (having_taken did c).rows (after did c) i
  all =
      let g = event_goes c did kept fits in
      leads_keep g.moves (having_taken did c).rows (having_taken did c).boxes (after did c) g.leads (sym (any_named made_between free_made g.moves) ∙ ap (list_any made_between) g.own_are ∙ none) i

  taken_same : is_between (obj (having_taken did c).rows i) ≡ is_between (obj c.rows i)
  taken_same = ap (λ (r : Rows). is_between (obj r i)) (taken_rows did c)

  pub between_back : is_between (obj (after did c).rows i) ≡ true → (is_between (obj c.rows i) ≡ true) ⊎ (list_any (asks_over i) (own_moves c did) ≡ true)
  between_back h =
      let g = event_goes c did kept fits in
      elim (all.back h) [
        | inl k ↦ inl (sym taken_same ∙ k)
        | inr k ↦ inr (ap (list_any (asks_over i)) (sym g.own_are) ∙ any_named (asks_over i) (free_asks i) g.moves ∙ k)
      ]

  pub between_on : is_between (obj c.rows i) ≡ true → (is_between (obj (after did c).rows i) ≡ true) ⊎ (list_any (reap_comes i) (own_moves c did) ≡ true)
  between_on h =
      let g = event_goes c did kept fits in
      elim (all.on (taken_same ∙ h)) [
        | inl k ↦ inl k
        | inr k ↦ inr (ap (list_any (reap_comes i)) (sym g.own_are) ∙ any_named (reap_comes i) (free_reaps i) g.moves ∙ k)
      ]
