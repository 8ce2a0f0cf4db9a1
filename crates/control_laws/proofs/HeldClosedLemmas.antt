-- What an event leaves of a socket's asking to end, and of an object that has ended.
use Rattle.std.specs.Prelude.{◌≡◌, ◌<◌, ℕ, Bool, true, false, List, [], ◌∷◌, length, refl}
use Rattle.std.specs.List.{list_any}
use Rattle.std.proofs.Common.{arith, sym, ap, ◌∙◌, subst}
use Rattle.std.proofs.lemmas.Bool.{eq-eqb}
use Rattle.spec_control.specs.declared.letter.Letter.{Letter}
use Rattle.spec_control.specs.declared.request.Req.{Req}
use Rattle.spec_control.specs.declared.request.Reply.{Reply}
use Rattle.spec_control.specs.declared.stage.Stage.{Stage}
use Rattle.spec_control.specs.declared.stage.Stage.TheVariants.{Alive, Told, Ending, Finished, Cleared}
use Rattle.spec_control.specs.declared.stage.Use.{Use}
use Rattle.spec_control.specs.declared.stage.Use.TheVariants.{Unused, OnItsWay, Used}
use Rattle.spec_control.specs.declared.entry.Did.{Did}
use Rattle.spec_control.specs.Stage.{has_ended, is_alive, is_coming, is_told, is_unused}
use Rattle.spec_control.specs.Row.{Row, nobody, LinkEvent, OwnComes, PlugComes, IsTold, TermComes, AsksOver, RequestComes, ReapComes, AckComes, RootAsked, StopPut, StopComes, AsksForLink, AsksForLinger, is_socket, link_may, link_after}
use Rattle.spec_control.specs.Rows.{Rows, obj}
use Rattle.spec_control.specs.Control.{Control, next_object}
use Rattle.spec_control.specs.After.{after}
use Rattle.spec_control.specs.ControlRun.{Fits, unless_refused}
use Rattle.control_laws.proofs.ListLemmas.{never, left, right, is_here, is_elsewhere, written, is_old, is_new, pushed}
use Rattle.control_laws.specs.Kept.{Kept}
use Rattle.control_laws.specs.Move.{Move, LinkMoves, EndMoves, ObjectEnds, ObjectMade, PairDrawn, LetterPut, move_rows, move_boxes, MayMove, Leads}
use Rattle.control_laws.specs.OwnMoves.{own_moves, having_taken, request_moves}
use Rattle.control_laws.proofs.EventGoLemmas.{event_goes}
use Rattle.control_laws.proofs.SoundLemmas.{ending_there, link_there, move_stays}
use Rattle.control_laws.proofs.WeighLemmas.{taken_rows}
use Rattle.control_laws.proofs.BetweenLemmas.{asks_over, free_asks}
use Rattle.control_laws.proofs.HeldEventLemmas.{asked_closes, closes}
use Rattle.control_laws.proofs.HeldRowLemmas.{event_row}

-- ---- what asks to end
coming_not : (u : Use) → is_coming u ≡ true → false ≡ is_unused u
coming_not Unused h = absurd (never h)
coming_not OnItsWay h = refl
coming_not Used h = refl

unused_stays : (event : LinkEvent) (o : Row) (i : ℕ) → link_may event o ≡ true → asks_over i (LinkMoves i event) ≡ false → is_unused (link_after event o).request ≡ is_unused o.request
unused_stays OwnComes o i may_so free = refl
unused_stays PlugComes o i may_so free = refl
unused_stays IsTold o i may_so free = refl
unused_stays TermComes o i may_so free = refl
unused_stays AsksOver o i may_so free = absurd (never (sym free ∙ eq-eqb i i refl))
unused_stays RequestComes o i may_so free = coming_not o.request (left (is_coming o.request) _ may_so)
unused_stays ReapComes o i may_so free = coming_not o.request (left (is_coming o.request) _ may_so)
unused_stays AckComes o i may_so free = refl
unused_stays RootAsked o i may_so free = refl
unused_stays StopPut o i may_so free = refl
unused_stays StopComes o i may_so free = refl
unused_stays AsksForLink o i may_so free = refl
unused_stays AsksForLinger o i may_so free = refl

pub event_unused : {N S : Type 0} (c : Control) (did : Did N S) → Kept c → Fits c did → (i : ℕ) → i < next_object c → list_any (asks_over i) (own_moves c did) ≡ false →
    is_unused (obj (after did c).rows i).request ≡ is_unused (obj c.rows i).request
event_unused c did kept fits i there free =
    event_row (λ (o : Row). is_unused o.request) asks_over unused_stays (λ o. refl) free_asks c did kept fits i there free

-- a request that closes nothing asks nothing to end
pub asked_none : (i : ℕ) (c : Control) (req : Req) (reply : Reply) → closes i req ≡ false → list_any (asks_over i) (unless_refused reply (request_moves c req)) ≡ false
asked_none i c req reply none = by (list_any (asks_over i) (unless_refused reply (request_moves c req))) refl
  where
    by : (b : Bool) → list_any (asks_over i) (unless_refused reply (request_moves c req)) ≡ b → b ≡ false
    by true e = absurd (never (sym none ∙ asked_closes i c req reply e))
    by false e = refl

-- ---- what has ended
alive_not : (s : Stage) → is_alive s ≡ true → has_ended s ≡ false
alive_not Alive h = refl
alive_not Told h = refl
alive_not Ending h = refl
alive_not Finished h = absurd (never h)
alive_not Cleared h = absurd (never h)

told_not : (s : Stage) → is_told s ≡ true → has_ended s ≡ false
told_not Alive h = refl
told_not Told h = refl
told_not Ending h = refl
told_not Finished h = absurd (never h)
told_not Cleared h = absurd (never h)

clash : {b : Bool} → b ≡ true → b ≡ false → ⊥
clash h k = never (sym k ∙ h)

link_ended : (event : LinkEvent) (o : Row) → link_may event o ≡ true → has_ended o.stage ≡ true → has_ended (link_after event o).stage ≡ true
link_ended OwnComes o may_so h = h
link_ended PlugComes o may_so h = h
link_ended IsTold o may_so h = absurd (clash h (alive_not o.stage (left (is_alive o.stage) _ may_so)))
link_ended TermComes o may_so h = absurd (clash h (told_not o.stage (left (is_told o.stage) _ may_so)))
link_ended AsksOver o may_so h = h
link_ended RequestComes o may_so h = h
link_ended ReapComes o may_so h = absurd (clash h (alive_not o.stage (left (is_alive o.stage) (is_socket o.kind) (right (is_coming o.request) _ may_so))))
link_ended AckComes o may_so h = refl
link_ended RootAsked o may_so h = absurd (clash h (alive_not o.stage (left (is_alive o.stage) _ may_so)))
link_ended StopPut o may_so h = h
link_ended StopComes o may_so h = h
link_ended AsksForLink o may_so h = h
link_ended AsksForLinger o may_so h = h

move_ended : (m : Move) (s : Rows) (i : ℕ) → MayMove m s → i < length s.objects → has_ended (obj s i).stage ≡ true → has_ended (obj (move_rows m s) i).stage ≡ true
move_ended (LinkMoves j event) s i may_so there h =
    elim (written s.objects (link_after event (obj s j)) nobody j i (link_there s j event may_so)) [
      | is_here here same ↦
          ap (λ (o : Row). has_ended o.stage) same ∙ link_ended event (obj s j) may_so (subst (λ (n : ℕ). has_ended (obj s n).stage ≡ true) here h)
      | is_elsewhere same ↦ ap (λ (o : Row). has_ended o.stage) same ∙ h
    ]
move_ended (EndMoves e event) s i may_so there h = h
move_ended (ObjectEnds j) s i may_so there h =
    elim (written s.objects (record (obj s j) { stage = Finished }) nobody j i (ending_there s j may_so)) [
      | is_here here same ↦ ap (λ (o : Row). has_ended o.stage) same
      | is_elsewhere same ↦ ap (λ (o : Row). has_ended o.stage) same ∙ h
    ]
move_ended (ObjectMade row) s i may_so there h =
    elim (pushed s.objects row nobody i) [
      | is_old e ↦ ap (λ (o : Row). has_ended o.stage) e ∙ h
      | is_new at e was ↦ absurd (omega (arith, at, there))
    ]
move_ended (PairDrawn a b) s i may_so there h = h
move_ended (LetterPut to word) s i may_so there h = h

lead_ended : (ms : List Move) (s : Rows) (boxes : ℕ → List Letter) (d : Control) (i : ℕ) → Leads ms s boxes d → i < length s.objects → has_ended (obj s i).stage ≡ true → has_ended (obj d.rows i).stage ≡ true
lead_ended [] s boxes d i h there ended = ap (λ (r : Rows). has_ended (obj r i).stage) h.0 ∙ ended
lead_ended (m ∷ ms) s boxes d i h there ended =
    lead_ended ms (move_rows m s) (move_boxes m s boxes) d i h.1 (move_stays m s i h.0 there).there (move_ended m s i h.0 there ended)

pub event_ended : {N S : Type 0} (c : Control) (did : Did N S) → Kept c → Fits c did → (i : ℕ) → i < next_object c → has_ended (obj c.rows i).stage ≡ true → has_ended (obj (after did c).rows i).stage ≡ true
event_ended c did kept fits i there ended =
    let g = event_goes c did kept fits in
    let same = taken_rows did c in
    lead_ended g.moves (having_taken did c).rows (having_taken did c).boxes (after did c) i g.leads (subst (λ (r : Rows). i < length r.objects) (sym same) there)
    (ap (λ (r : Rows). has_ended (obj r i).stage) same ∙ ended)
