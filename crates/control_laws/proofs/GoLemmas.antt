-- The small updates of a control event as moves.
use Rattle.std.specs.Prelude.{◌≡◌, ◌<◌, ◌&&◌, ℕ, zero, suc, Bool, true, false, not, List, [], ◌∷◌, ◌++◌, Option, Some, None, if◌then◌else◌, length, filter, refl}
use Rattle.std.proofs.Common.{sym, ap, ◌∙◌, subst}
use Rattle.std.proofs.lemmas.List.Elements.{filter-append}
use Rattle.zq_base.specs.Ends.{other_end}
use Rattle.zq_base.specs.declared.ids.EndId.{EndId}
use Rattle.zq_base.specs.declared.attached.Attached.{Attached}
use Rattle.zq_base.specs.declared.attached.Attached.TheVariants.{Yes, BadId as IsBadId, Second as IsSecond}
use Rattle.spec_control.specs.declared.end.EndEvent.{EndEvent}
use Rattle.spec_control.specs.declared.end.EndEvent.TheVariants.{Asked}
use Rattle.spec_control.specs.declared.end.EndCommands.{EndCommands}
use Rattle.spec_control.specs.declared.end.EndCommands.TheVariants.{Nothing, TermAndSeal, Ack, Settle, SettleAndAck}
use Rattle.spec_control.specs.declared.end.Reason.{Reason}
use Rattle.spec_control.specs.declared.end.Reason.TheVariants.{Closed, BadId, Second}
use Rattle.spec_control.specs.declared.letter.Letter.{Letter}
use Rattle.spec_control.specs.declared.letter.Word.{Word}
use Rattle.spec_control.specs.declared.letter.Word.TheVariants.{Term, Stop}
use Rattle.spec_control.specs.declared.stage.Stage.TheVariants.{Finished}
use Rattle.spec_control.specs.Stage.{was_asked, has_ended}
use Rattle.spec_control.specs.Place.{is_here}
use Rattle.spec_control.specs.PairPhase.{Happens, may, PairEvent, Opens, BindCame}
use Rattle.spec_control.specs.Row.{IsTold, StopPut, link_may}
use Rattle.spec_control.specs.Rows.{Rows, obj, pair, with_object, end_half, is_owner, may_end, end_owner}
use Rattle.spec_control.specs.Control.{Control, with_end, with_value, id, place_of, owner_of, put, link, tell_where, tell_children, stop_sockets, tell_other, commands_in, reason_in, moved, happens, ask, ask_all, greet, tell_owner, finish, try_end, attach}
use Rattle.control_laws.proofs.ListLemmas.{right, never}
use Rattle.control_laws.specs.Move.{Move, LinkMoves, EndMoves, ObjectEnds, LetterPut, move_rows, move_boxes, end_letters, ack_letters, put_all, MayMove, Leads, is_named, MovesTo}

-- moves in a row
leads_on : (ms ns : List Move) (s : Rows) (boxes : ℕ → List Letter) (c d : Control) → Leads ms s boxes c → Leads ns c.rows c.boxes d → Leads (ms ++ ns) s boxes d
leads_on [] ns s boxes c d h k = subst (λ (r : Rows). Leads ns r boxes d) h.0 (subst (λ (b : ℕ → List Letter). Leads ns c.rows b d) h.1 k)
leads_on (m ∷ ms) ns s boxes c d h k = (h.0, leads_on ms ns (move_rows m s) (move_boxes m s boxes) c d h.1 k)

pub goes_on : (xs ys : List Move) (c d e : Control) → MovesTo xs c d → MovesTo ys d e → MovesTo (xs ++ ys) c e
goes_on xs ys c d e g h = record {
  moves = g.moves ++ h.moves;
  own_are = filter-append is_named g.moves h.moves ∙ ap (λ (l : List Move). l ++ filter is_named h.moves) g.own_are ∙ ap (λ (l : List Move). xs ++ l) h.own_are;
  leads = leads_on g.moves h.moves c.rows c.boxes d e g.leads h.leads;
}

-- what follows by itself
pub goes_free : (c d e : Control) → MovesTo [] c d → MovesTo [] d e → MovesTo [] c e
goes_free c d e g h = goes_on [] [] c d e g h

append_none : {X : Type 0} (xs : List X) → xs ++ [] ≡ xs
append_none [] = refl
append_none (x ∷ xs) = ap (λ (l : List _). x ∷ l) (append_none xs)

pub goes_and_free : (xs : List Move) (c d e : Control) → MovesTo xs c d → MovesTo [] d e → MovesTo xs c e
goes_and_free xs c d e g h = subst (λ (l : List Move). MovesTo l c e) (append_none xs) (goes_on xs [] c d e g h)

pub stays : (c d : Control) → d.rows ≡ c.rows → d.boxes ≡ c.boxes → MovesTo [] c d
stays c d rows boxes = record { moves = []; own_are = refl; leads = (rows, boxes) }

pub one : (m : Move) (c d : Control) → MayMove m c.rows → d.rows ≡ move_rows m c.rows → d.boxes ≡ move_boxes m c.rows c.boxes → MovesTo (filter is_named (m ∷ [])) c d
one m c d may rows boxes = record { moves = m ∷ []; own_are = refl; leads = (may, (rows, boxes)) }

-- one of two that each follow
pub either_free : (x : Bool) (c d e : Control) → (x ≡ true → MovesTo [] c d) → (x ≡ false → MovesTo [] c e) → MovesTo [] c (if x then d else e)
either_free true c d e g h = g refl
either_free false c d e g h = h refl

pub tell_where_goes : (wanted : Bool) (child : ℕ) (c : Control) → MovesTo [] c (tell_where wanted child c)
tell_where_goes wanted child c =
    either_free (wanted && link_may IsTold (obj c.rows child)) c (put child Term (link IsTold child c)) c
    (λ e. one (LinkMoves child IsTold) c (put child Term (link IsTold child c)) (right wanted _ e) refl refl) (λ e. stays c c refl refl)

pub tell_children_goes : (n owner : ℕ) (c : Control) → MovesTo [] c (tell_children n owner c)
tell_children_goes zero owner c = stays c c refl refl
tell_children_goes (suc n) owner c =
    let before = tell_children n owner c in
    goes_free c before (tell_children (suc n) owner c) (tell_children_goes n owner c) (tell_where_goes (is_owner owner (obj before.rows n).owner && (obj before.rows n).noted) n before)

pub stop_sockets_goes : (n : ℕ) (c : Control) → MovesTo [] c (stop_sockets n c)
stop_sockets_goes zero c = stays c c refl refl
stop_sockets_goes (suc n) c =
    let before = stop_sockets n c in
    goes_free c before (stop_sockets (suc n) c) (stop_sockets_goes n c)
    (either_free (link_may StopPut (obj before.rows n)) before (put n Stop (link StopPut n before)) before
    (λ e. one (LinkMoves n StopPut) before (put n Stop (link StopPut n before)) e refl refl) (λ e. stays before before refl refl))

-- a pair is made
abbrev pub is_opening : PairEvent → Bool
is_opening Opens = true
is_opening BindCame = false
is_opening (Happens event) = false

-- what an end's event tells the other end
told_so : (cmds : EndCommands) (e : EndId) (d : Control) → ((tell_other cmds e d).rows ≡ d.rows) × ((tell_other cmds e d).boxes ≡ put_all d.rows (end_letters cmds (owner_of d (other_end e)) e) d.boxes)
told_so Nothing e d = (refl, refl)
told_so TermAndSeal e d = (refl, refl)
told_so Ack e d = (refl, refl)
told_so Settle e d = (refl, refl)
told_so SettleAndAck e d = (refl, refl)

pub happens_goes : (event : EndEvent) (e : EndId) (c : Control) → may (Happens event) (end_half (pair c.rows e.pair.0) e.a) (end_half (pair c.rows e.pair.0) (not e.a)) ≡ true →
    MovesTo (filter is_named (EndMoves e (Happens event) ∷ [])) c (happens event e c)
happens_goes event e c comes =
    let so = told_so (commands_in event (place_of c e)) e (record (moved (Happens event) e c) { reasons = with_end e (reason_in event (place_of c e) (c.reasons e)) c.reasons }) in
    one (EndMoves e (Happens event)) c (happens event e c) (record { comes = comes; unended = λ opens. absurd (never (ap is_opening opens)) }) so.0 so.1

pub ask_goes : (why : Reason) (delay : Bool) (e : EndId) (c : Control) → MovesTo [] c (ask why delay e c)
ask_goes why delay e c = either_free (is_here (place_of c e)) c (happens (Asked why delay) e c) c (λ here. happens_goes (Asked why delay) e c here) (λ gone. stays c c refl refl)

pub ask_all_goes : (why : Reason) (delay : Bool) (es : List EndId) (c : Control) → MovesTo [] c (ask_all why delay es c)
ask_all_goes why delay [] c = stays c c refl refl
ask_all_goes why delay (e ∷ es) c = goes_free c (ask why delay e c) (ask_all why delay es (ask why delay e c)) (ask_goes why delay e c) (ask_all_goes why delay es (ask why delay e c))

pub greet_goes : (kind : Attached) (e : EndId) (c : Control) → MovesTo [] c (greet kind e c)
greet_goes Yes e c =
    either_free (was_asked (obj c.rows (owner_of c e)).stage) c (ask Closed false e c) (if c.struck e then ask Closed false e c else c) (λ h. ask_goes Closed false e c)
    (λ h. either_free (c.struck e) c (ask Closed false e c) c (λ k. ask_goes Closed false e c) (λ k. stays c c refl refl))
greet_goes IsBadId e c = ask_goes BadId false e c
greet_goes IsSecond e c = ask_goes Second false e c

-- an object that ends
tells_owner : (owner : Option ℕ) (i : ℕ) (d : Control) → ((tell_owner owner i d).rows ≡ d.rows) × ((tell_owner owner i d).boxes ≡ put_all d.rows (ack_letters owner i) d.boxes)
tells_owner None i d = (refl, refl)
tells_owner (Some owner) i d = (refl, refl)

pub finish_goes : (i : ℕ) (c : Control) → may_end c.rows i ≡ true → MovesTo [] c (finish i c)
finish_goes i c may =
    let so = tells_owner (obj c.rows i).owner i (record c { rows = with_object i (record (obj c.rows i) { stage = Finished }) c.rows; ended = c.ended ++ id i ∷ [] }) in
    one (ObjectEnds i) c (finish i c) may so.0 so.1

pub try_end_goes : (i : ℕ) (out : Bool) (c : Control) → MovesTo [] c (try_end i out c)
try_end_goes i out c =
    let now = record c { output_left = with_value i out c.output_left } in
    goes_free c now (try_end i out c) (stays c now refl refl)
    (either_free (may_end c.rows i) now (if out then now else finish i now) now
    (λ e. either_free out now now (finish i now) (λ x. stays now now refl refl) (λ x. finish_goes i now e)) (λ e. stays now now refl refl))

-- an end is bound
pub bound_goes : (e : EndId) (c : Control) → may BindCame (end_half (pair c.rows e.pair.0) e.a) (end_half (pair c.rows e.pair.0) (not e.a)) ≡ true → MovesTo (EndMoves e BindCame ∷ []) c (attach BindCame e c)
bound_goes e c comes = one (EndMoves e BindCame) c (attach BindCame e c) (record { comes = comes; unended = λ opens. absurd (never (ap is_opening opens)) }) refl refl

-- a pair is made whose ends' owners live
pub opened_goes : (e : EndId) (c : Control) → may Opens (end_half (pair c.rows e.pair.0) e.a) (end_half (pair c.rows e.pair.0) (not e.a)) ≡ true → ((x : Bool) → has_ended (obj c.rows (end_owner (pair c.rows e.pair.0) x)).stage ≡ false) →
    MovesTo (EndMoves e Opens ∷ []) c (attach Opens e c)
opened_goes e c comes unended = one (EndMoves e Opens) c (attach Opens e c) (record { comes = comes; unended = λ opens. unended }) refl refl

-- a command that is put
pub puts_goes : (to at : ℕ) (word : Word) (c : Control) → to ≡ at → at < length c.rows.objects → MovesTo (LetterPut at word ∷ []) c (put to word c)
puts_goes to at word c same there =
    subst (λ (i : ℕ). MovesTo (LetterPut at word ∷ []) c (put i word c)) (sym same) (one (LetterPut at word) c (put at word c) there refl refl)
