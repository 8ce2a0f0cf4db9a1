-- A closed socket whose Reap is on its way stays so, and so does an object whose Plug is, whatever moves but that Reap or that Plug.
use Rattle.std.specs.Prelude.{◌≡◌, ◌<◌, ◌&&◌, ◌++◌, cond, ℕ, Bool, true, false, not, List, [], ◌∷◌, length, filter, slice_index_or, refl}
use Rattle.std.specs.List.{list_all}
use Rattle.std.proofs.Common.{arith, sym, ap, ◌∙◌, subst, inl, inr}
use Rattle.std.proofs.lemmas.Bool.{cases_eq}
use Rattle.std.proofs.lemmas.List.{get_or-set_same, get_or-set_other}
use Rattle.zq_base.specs.declared.ids.EndId.{EndId}
use Rattle.spec_control.specs.declared.end.EndCommands.{EndCommands}
use Rattle.spec_control.specs.declared.end.EndCommands.TheVariants.{Nothing, TermAndSeal, Ack, Settle, SettleAndAck}
use Rattle.spec_control.specs.declared.end.EndEvent.{EndEvent}
use Rattle.spec_control.specs.declared.letter.Letter.{Letter}
use Rattle.spec_control.specs.declared.stage.Stage.TheVariants.{Finished}
use Rattle.spec_control.specs.Row.{Row, nobody, LinkEvent, OwnComes, PlugComes, IsTold, TermComes, AsksOver, RequestComes, ReapComes, AckComes, RootAsked, StopPut, StopComes, AsksForLink, AsksForLinger, link_may, link_after, is_socket}
use Rattle.spec_control.specs.Rows.{Rows, obj, with_object}
use Rattle.spec_control.specs.Stage.{is_coming}
use Rattle.spec_control.specs.PairPhase.{Happens}
use Rattle.spec_control.specs.Control.{Control, commands_in, happens, moved, place_of, reason_in, tell_other, with_end}
use Rattle.spec_control.specs.ControlRun.{is_between}
use Rattle.desk.specs.Joins.{is_plugged_between}
use Rattle.control_laws.proofs.ListLemmas.{never, left, right, and, clash, is_false, is_old, is_new, pushed, placed}
use Rattle.control_laws.specs.Move.{Move, LinkMoves, EndMoves, ObjectEnds, ObjectMade, PairDrawn, LetterPut, move_rows, move_boxes, MayMove, Leads, is_named, is_named_link, MovesTo}

-- each row of which this was so is so still
abbrev pub Stay : (p : Row → Bool) → (s t : Rows) → Type 0
Stay p s t = (i : ℕ) → p (obj s i) ≡ true → p (obj t i) ≡ true

-- its Plug is on its way
abbrev pub is_out : Row → Bool
is_out o = not o.plugged

-- each closed socket whose Reap was on its way is so still, and so is each object whose Plug was
pub record StayBetween (s t : Rows) : Type 0 where
  pub reaps : Stay is_between s t
  pub plugs : Stay is_out s t

pub stay_here : (s : Rows) → StayBetween s s
stay_here s = record { reaps = λ i so. so; plugs = λ i so. so }

pub stay_on : (s t u : Rows) → StayBetween s t → StayBetween t u → StayBetween s u
stay_on s t u first next = record { reaps = λ i so. next.reaps i (first.reaps i so); plugs = λ i so. next.plugs i (first.plugs i so) }

-- the objects are as before
same_stay : (p : Row → Bool) (s t : Rows) → t.objects ≡ s.objects → Stay p s t
same_stay p s t same i so = ap (λ (os : List Row). p (slice_index_or os i nobody)) same ∙ so

pub same_between : (s t : Rows) → t.objects ≡ s.objects → StayBetween s t
same_between s t same = record { reaps = same_stay is_between s t same; plugs = same_stay is_out s t same }

-- none is taken in
pub none_plugged : (s t : Rows) → Stay is_out s t → (i : ℕ) → is_plugged_between (obj s i) (obj t i) ≡ false
none_plugged s t still i = by (is_plugged_between (obj s i) (obj t i)) refl
  where
    by : (b : Bool) → is_plugged_between (obj s i) (obj t i) ≡ b → b ≡ false
    by true came =
        let plugs = right (not (is_socket (obj s i).kind)) (not (obj s i).plugged && (obj t i).plugged) came in
        absurd (clash (obj t i).plugged (right (not (obj s i).plugged) (obj t i).plugged plugs) (is_false (obj t i).plugged (still i (left (not (obj s i).plugged) (obj t i).plugged plugs))))
    by false none = refl

-- ---- a move leaves each Reap and each Plug on its way, unless it is that one comes
abbrev spares_link : LinkEvent → Bool
spares_link OwnComes = true
spares_link PlugComes = false
spares_link IsTold = true
spares_link TermComes = true
spares_link AsksOver = true
spares_link RequestComes = true
spares_link ReapComes = false
spares_link AckComes = true
spares_link RootAsked = true
spares_link StopPut = true
spares_link StopComes = true
spares_link AsksForLink = true
spares_link AsksForLinger = true

abbrev pub spares : Move → Bool
spares (LinkMoves i event) = spares_link event
spares (EndMoves e event) = true
spares (ObjectEnds i) = true
spares (ObjectMade row) = true
spares (PairDrawn a b) = true
spares (LetterPut to word) = true

link_unnamed : (event : LinkEvent) → is_named_link event ≡ false → spares_link event ≡ true
link_unnamed OwnComes h = refl
link_unnamed PlugComes h = absurd (never (sym h))
link_unnamed IsTold h = refl
link_unnamed TermComes h = refl
link_unnamed AsksOver h = refl
link_unnamed RequestComes h = refl
link_unnamed ReapComes h = absurd (never (sym h))
link_unnamed AckComes h = refl
link_unnamed RootAsked h = refl
link_unnamed StopPut h = refl
link_unnamed StopComes h = refl
link_unnamed AsksForLink h = refl
link_unnamed AsksForLinger h = refl

unnamed : (m : Move) → is_named m ≡ false → spares m ≡ true
unnamed (LinkMoves i event) h = link_unnamed event h
unnamed (EndMoves e event) h = refl
unnamed (ObjectEnds i) h = refl
unnamed (ObjectMade row) h = refl
unnamed (PairDrawn a b) h = refl
unnamed (LetterPut to word) h = refl

module _ (o : Row) (between : is_between o ≡ true) where
  socket_is : is_socket o.kind ≡ true
  socket_is = left (is_socket o.kind) (is_coming o.request) between

  pub link_between : (event : LinkEvent) → link_may event o ≡ true → spares_link event ≡ true → is_between (link_after event o) ≡ true
  link_between OwnComes may h = between
  link_between PlugComes may h = absurd (never h)
  link_between IsTold may h = between
  link_between TermComes may h = between
  link_between AsksOver may h = and (is_socket o.kind) true socket_is refl
  link_between RequestComes may h =
      absurd (clash (is_socket o.kind) socket_is (is_false (is_socket o.kind) (right o.noted (not (is_socket o.kind)) (right (is_coming o.request) (o.noted && not (is_socket o.kind)) may))))
  link_between ReapComes may h = absurd (never h)
  link_between AckComes may h = between
  link_between RootAsked may h = between
  link_between StopPut may h = between
  link_between StopComes may h = between
  link_between AsksForLink may h = between
  link_between AsksForLinger may h = between

-- nor is its object taken in
link_out : (o : Row) (event : LinkEvent) → spares_link event ≡ true → (link_after event o).plugged ≡ o.plugged
link_out o OwnComes h = refl
link_out o PlugComes h = absurd (never h)
link_out o IsTold h = refl
link_out o TermComes h = refl
link_out o AsksOver h = refl
link_out o RequestComes h = refl
link_out o ReapComes h = absurd (never h)
link_out o AckComes h = refl
link_out o RootAsked h = refl
link_out o StopPut h = refl
link_out o StopComes h = refl
link_out o AsksForLink h = refl
link_out o AsksForLinger h = refl

module _ (p : Row → Bool) (none : p nobody ≡ false) (s : Rows) where
  there : (i : ℕ) → p (obj s i) ≡ true → i < length s.objects
  there i so = placed (λ (o : Row). not (p o)) s.objects nobody i (ap not none) (ap not so)

  -- one row is written
  pub written_stay : (j : ℕ) (row : Row) → (p (obj s j) ≡ true → p row ≡ true) → Stay p s (with_object j row s)
  written_stay j row mine i so =
      elim (cases_eq i j) [
        | inl same ↦
            subst (λ (n : ℕ). p (obj (with_object j row s) n) ≡ true) (sym same)
            (ap p (get_or-set_same s.objects j row nobody (subst (λ (n : ℕ). n < length s.objects) same (there i so))) ∙ mine (ap (λ (n : ℕ). p (obj s n)) (sym same) ∙ so))
        | inr other ↦ ap p (get_or-set_other s.objects j i row nobody other) ∙ so
      ]

  -- and one more is pushed
  pushed_stay : (row : Row) → Stay p s (record s { objects = s.objects ++ row ∷ [] })
  pushed_stay row i so =
      elim (pushed s.objects row nobody i) [
        | is_old e ↦ ap p e ∙ so
        | is_new at e was ↦ let lt = there i so in absurd (omega (arith, at, lt))
      ]

module _ (s : Rows) where
  pub written_between : (j : ℕ) (row : Row) → (is_between (obj s j) ≡ true → is_between row ≡ true) → row.plugged ≡ (obj s j).plugged → StayBetween s (with_object j row s)
  written_between j row mine plug = record {
    reaps = written_stay is_between refl s j row mine;
    plugs = written_stay is_out refl s j row (λ so. ap not plug ∙ so);
  }

  pub pushed_between : (row : Row) → StayBetween s (record s { objects = s.objects ++ row ∷ [] })
  pushed_between row = record { reaps = pushed_stay is_between refl s row; plugs = pushed_stay is_out refl s row }

  move_between : (m : Move) → MayMove m s → spares m ≡ true → StayBetween s (move_rows m s)
  move_between (LinkMoves j event) may h = written_between j (link_after event (obj s j)) (λ between. link_between (obj s j) between event may h) (link_out (obj s j) event h)
  move_between (EndMoves e event) may h = same_between s (move_rows (EndMoves e event) s) refl
  move_between (ObjectEnds j) may h = written_between j (record (obj s j) { stage = Finished }) (λ between. between) refl
  move_between (ObjectMade row) may h = pushed_between row
  move_between (PairDrawn a b) may h = same_between s (move_rows (PairDrawn a b) s) refl
  move_between (LetterPut to word) may h = stay_here s

-- moves of which no named one is that a Reap or a Plug comes
leads_between : (ms : List Move) (s : Rows) (boxes : ℕ → List Letter) (d : Control) → Leads ms s boxes d → list_all spares (filter is_named ms) ≡ true → StayBetween s d.rows
leads_between [] s boxes d h all = same_between s d.rows (ap (λ (r : Rows). r.objects) h.0)
leads_between (m ∷ ms) s boxes d h all =
    let both = by (is_named m) refl all in
    stay_on s (move_rows m s) d.rows (move_between s m h.0 both.0) (leads_between ms (move_rows m s) (move_boxes m s boxes) d h.1 both.1)
  where
    by : (x : Bool) → is_named m ≡ x → list_all spares (cond x (m ∷ filter is_named ms) (filter is_named ms)) ≡ true → (spares m ≡ true) × (list_all spares (filter is_named ms) ≡ true)
    by true e k = (left (spares m) (list_all spares (filter is_named ms)) k, right (spares m) (list_all spares (filter is_named ms)) k)
    by false e k = (unnamed m e, k)

pub goes_between : (own : List Move) (c d : Control) → MovesTo own c d → list_all spares own ≡ true → StayBetween c.rows d.rows
goes_between own c d goes all = leads_between goes.moves c.rows c.boxes d goes.leads (ap (list_all spares) goes.own_are ∙ all)

-- ---- an event of an end leaves the objects
told_objects : (cmds : EndCommands) (e : EndId) (d : Control) → (tell_other cmds e d).rows.objects ≡ d.rows.objects
told_objects Nothing e d = refl
told_objects TermAndSeal e d = refl
told_objects Ack e d = refl
told_objects Settle e d = refl
told_objects SettleAndAck e d = refl

pub happens_between : (event : EndEvent) (e : EndId) (c : Control) → StayBetween c.rows (happens event e c).rows
happens_between event e c =
    same_between c.rows (happens event e c).rows
    (told_objects (commands_in event (place_of c e)) e (record (moved (Happens event) e c) { reasons = with_end e (reason_in event (place_of c e) (c.reasons e)) c.reasons }))
