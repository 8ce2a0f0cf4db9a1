-- What changes of state the ends of an object go through as they are asked.
use Rattle.std.specs.Prelude.{◌≡◌, ◌||◌, ◌++◌, ◌∷◌, [], Bool, true, false, cond, List, All, filter, if◌then◌else◌, refl}
use Rattle.std.specs.List.{list_any}
use Rattle.std.proofs.Common.{sym, ap, ◌∙◌}
use Rattle.std.proofs.lemmas.List.{append_assoc}
use Rattle.std.proofs.lemmas.List.Elements.{All-head, All-tail}
use Rattle.zq_base.specs.declared.ids.EndId.{EndId}
use Rattle.spec_control.specs.declared.end.EndEvent.TheVariants.{Asked}
use Rattle.spec_control.specs.declared.end.EndState.{EndState}
use Rattle.spec_control.specs.declared.end.Reason.{Reason}
use Rattle.spec_control.specs.Place.{Place, is_here}
use Rattle.spec_control.specs.PairPhase.{Happens}
use Rattle.spec_control.specs.Control.{Control, is_end, happens, ask, ask_all, place_of}
use Rattle.control_laws.proofs.ListLemmas.{never, clash}
use Rattle.control_laws.proofs.RowLemmas.{pair_there}
use Rattle.control_laws.proofs.AskLemmas.{end_self}
use Rattle.control_laws.proofs.HearLemmas.{end_moved}
use Rattle.desk.specs.Turns.{turn_at, turned_over}
use Rattle.control_laws.specs.AttachedOnce.{AreOnce}
use Rattle.ctl_moves.specs.Turning.{turn_of}
use Rattle.ctl_moves.proofs.TurnedLemmas.{stays_at, still_at, over_agree, none_of, not_end}
use Rattle.ctl_moves.specs.Asking.{asked_turns}

module _ (reason : Reason) (delay : Bool) where
  -- asks of others leave an end
  pub ask_else : (e d : EndId) (c : Control) → is_end d e ≡ false → place_of (ask reason delay e c) d ≡ place_of c d
  ask_else e d c other = by (is_here (place_of c e)) refl
    where
      by : (b : Bool) → is_here (place_of c e) ≡ b → place_of (if b then happens (Asked reason delay) e c else c) d ≡ place_of c d
      by true here =
          (end_moved c (Asked reason delay) e (pair_there c.rows e.pair.0 e.a (Happens (Asked reason delay)) here)).elsewhere d.pair.0 d.a
          (λ (same : d ≡ e). clash (is_end d e) (ap (λ (x : EndId). is_end x e) same ∙ end_self e) other)
      by false gone = refl

  ask_all_else : (es : List EndId) (d : EndId) (c : Control) → list_any (is_end d) es ≡ false → place_of (ask_all reason delay es c) d ≡ place_of c d
  ask_all_else [] d c none = refl
  ask_all_else (e ∷ es) d c none = ask_all_else es d (ask reason delay e c) (rest (is_end d e) none) ∙ ask_else e d c (first (is_end d e) none)
    where
      first : (b : Bool) → (b || list_any (is_end d) es) ≡ false → b ≡ false
      first true h = h
      first false h = refl

      rest : (b : Bool) → (b || list_any (is_end d) es) ≡ false → list_any (is_end d) es ≡ false
      rest true h = absurd (never (sym h))
      rest false h = h

  -- one after the other
  pub turns_append : (xs ys : List EndId) (c : Control) → asked_turns reason delay (xs ++ ys) c ≡ asked_turns reason delay xs c ++ asked_turns reason delay ys (ask_all reason delay xs c)
  turns_append [] ys c = refl
  turns_append (e ∷ xs) ys c =
      ap (λ (ts : List (EndId × EndState)). turn_of e c (ask reason delay e c) ++ ts) (turns_append xs ys (ask reason delay e c))
      ∙ sym (append_assoc (turn_of e c (ask reason delay e c)) (asked_turns reason delay xs (ask reason delay e c)) (asked_turns reason delay ys (ask_all reason delay xs (ask reason delay e c))))

  -- ends that are not there go through none
  pub turns_gone : (es : List EndId) (c : Control) → All (λ e. is_here (place_of c e) ≡ false) es → asked_turns reason delay es c ≡ []
  turns_gone [] c none = refl
  turns_gone (e ∷ es) c none =
      ap (λ (b : Bool). asked_by b) (All-head (λ x. is_here (place_of c x) ≡ false) e es none)
      ∙ ap (λ (ts : List (EndId × EndState)). ts ++ asked_turns reason delay es c) (still_at e (place_of c e))
      ∙ turns_gone es c (All-tail (λ x. is_here (place_of c x) ≡ false) e es none)
    where
      after : Bool → Control
      after b = if b then happens (Asked reason delay) e c else c

      asked_by : Bool → List (EndId × EndState)
      asked_by b = turn_at e (place_of c e) (place_of (after b) e) ++ asked_turns reason delay es (after b)

  not_kept : (own : EndId → Bool) (e : EndId) (es : List EndId) → list_any (is_end e) es ≡ false → list_any (is_end e) (filter own es) ≡ false
  not_kept own e [] none = refl
  not_kept own e (x ∷ es) none = pick (own x) (not_kept own e es (rest (is_end e x) none))
    where
      rest : (b : Bool) → (b || list_any (is_end e) es) ≡ false → list_any (is_end e) es ≡ false
      rest true h = absurd (never (sym h))
      rest false h = h

      both : (b : Bool) → (b || list_any (is_end e) es) ≡ false → list_any (is_end e) (filter own es) ≡ false → (b || list_any (is_end e) (filter own es)) ≡ false
      both true h later = absurd (never (sym h))
      both false h later = later

      pick : (b : Bool) → list_any (is_end e) (filter own es) ≡ false → list_any (is_end e) (cond b (x ∷ filter own es) (filter own es)) ≡ false
      pick true later = both (is_end e x) none later
      pick false later = later

  -- they are those of a list in which these ends stand, each once
  pub asks_over : (own : EndId → Bool) (es : List EndId) → AreOnce es → (c : Control) → turned_over (place_of c) (place_of (ask_all reason delay (filter own es) c)) es ≡ asked_turns reason delay (filter own es) c
  asks_over own [] once c = refl
  asks_over own (x ∷ es) once c = by (own x) (asks_over own es once.1)
    where
      absent : list_any (is_end x) (filter own es) ≡ false
      absent = not_kept own x es once.0

      by : (b : Bool) → ((d : Control) → turned_over (place_of d) (place_of (ask_all reason delay (filter own es) d)) es ≡ asked_turns reason delay (filter own es) d) →
          turned_over (place_of c) (place_of (ask_all reason delay (cond b (x ∷ filter own es) (filter own es)) c)) (x ∷ es) ≡ asked_turns reason delay (cond b (x ∷ filter own es) (filter own es)) c
      by true later =
          ap (λ (p : Place). turn_at x (place_of c x) p ++ turned_over (place_of c) (place_of (ask_all reason delay (filter own es) (ask reason delay x c))) es) (ask_all_else (filter own es) x (ask reason delay x c) absent)
          ∙ ap (λ (ts : List (EndId × EndState)). turn_of x c (ask reason delay x c) ++ ts)
          (over_agree (place_of c) (place_of (ask_all reason delay (filter own es) (ask reason delay x c))) (place_of (ask reason delay x c)) (place_of (ask_all reason delay (filter own es) (ask reason delay x c))) es
          (λ i d lt. sym (ask_else x _ c (not_end x _ (none_of x es once.0 i d lt)))) (λ i d lt. refl)
          ∙ later (ask reason delay x c))
      by false later =
          ap (λ (ts : List (EndId × EndState)). ts ++ turned_over (place_of c) (place_of (ask_all reason delay (filter own es) c)) es)
          (stays_at x (place_of c x) (place_of (ask_all reason delay (filter own es) c) x) (ask_all_else (filter own es) x c absent))
          ∙ later c
