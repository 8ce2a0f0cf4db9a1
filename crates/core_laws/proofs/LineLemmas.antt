-- The acts of a line on a lent socket are calls on that socket alone.
use Rattle.std.specs.Prelude.{◌≡◌, ◌≢◌, ◌<◌, ◌+◌, ◌++◌, ◌∷◌, [], ℕ, zero, suc, false, All, List, None, Option, Some, refl}
use Rattle.std.proofs.Common.{arith, sym, ap, ◌∙◌, subst}
use Rattle.spec_pattern.specs.declared.answers.Skip.{Skip}
use Rattle.spec_control.specs.Control.{id}
use Rattle.spec_control.specs.declared.request.Req.TheVariants.{Close}
use Rattle.spec_control.specs.declared.request.Reply.TheVariants.{Done}
use Rattle.spec_control.specs.Moments.{Moment, moments_from}
use Rattle.any_sock.specs.declared.any_sock.AnySock.{AnySock}
use Rattle.msg_pipe.specs.Known.{Known}
use Rattle.sock_core.specs.declared.sock.SockCore.{SockCore}
use Rattle.desk.specs.Desk.{slot_after}
use Rattle.sock_calls.specs.Calls.{owner_of}
use Rattle.line_socket.specs.View.{open_view}
use Rattle.spec_run.specs.declared.answer.Answer.{Answer}
use Rattle.spec_run.specs.declared.script.Call.{Call}
use Rattle.spec_run.specs.declared.script.Line.{Line}
use Rattle.spec_run.specs.Act.{Act, Try, moments_in}
use Rattle.spec_run.specs.Event.{acts_said}
use Rattle.spec_run.specs.OpenSocket.{OpenSock}
use Rattle.line_calls.specs.Lines.{CallsLine}
use Rattle.line_calls.specs.Steps.{ClosesOpen}
use Rattle.plain_desk.specs.Lent.{moments_of, GrowsBy, IsOneOrder}
use Rattle.socket_laws.proofs.LastLemmas.{grown}
use Rattle.socket_laws.proofs.SocketLemmas.{is_in}
use Rattle.line_socket.specs.Leads.{Leads}
use Rattle.line_socket.specs.Owned.{Agrees, IsLentTo, LentParts, box_of, view_of}
use Rattle.line_socket.proofs.StandLemmas.{said_once}
use Rattle.core_laws.specs.Calls.{AreCallsOn}
use Rattle.core_laws.specs.Lines.{ClosesAreOn, LinesAreOn}
use Rattle.core_laws.proofs.ActLemmas.{IsOn, line_on, one_on, request_on, said_on}
use Rattle.core_laws.proofs.ChainLemmas.{Follow}
use Rattle.plain_desk.proofs.StayLemmas.{found_by}
use Rattle.core_laws.proofs.GrownLemmas.{follows}
use Rattle.std.proofs.lemmas.List.{append_cancel_left}

above : (n : ℕ) → n ≢ 0 → 0 < n
above zero ne = absurd (ne refl)
above (suc n) ne = omega arith

module _ (W T : Type 0) {P N O I : Type 0} (K : Known P O I N) (old new : LentParts W N O I P T) (behind : IsOneOrder new.desk) where
  -- acts whose moments are of the socket
  led_on : (before : IsOneOrder old.desk) (o : ℕ) (acts : List (Act N T)) → Leads K old acts new → All (IsOn o) (moments_in acts) → AreCallsOn o old.desk new.desk
  led_on before o acts led each = record { before = before; behind = behind; grows = led.grows; more = moments_in acts; moments = led.moments; each = each }

  module _ (s : SockCore AnySock W N O I) (is : old.socket ≡ Some s) (lent : IsLentTo K old.pipes old.desk old.since s) where
    abbrev o : ℕ
    o = s.number.0

    module _ (acts : List (Act N T)) (led : Leads K old acts new) where
      abbrev grows : GrowsBy old.desk new.desk
      grows = led.grows

      so : Follow old.desk.past.workers o (found_by old.desk new.desk behind grows) (moments_in acts)
      so =
          let c = found_by old.desk new.desk behind grows in
          let owned = lent.owned in
          subst (λ (l : List (Moment N T)). Follow old.desk.past.workers o c l)
          (sym (append_cancel_left (moments_of old.desk) (moments_in acts) (moments_from c grows.more) (sym led.moments ∙ grown old.desk new.desk grows)))
          (follows old.desk new.desk behind grows lent.order o owned.is_open)

    object_is : (view_of old).object ≡ o
    object_is = ap (λ (x : Option (SockCore AnySock W N O I)). let v : OpenSock = open_view (box_of old) x in v.object) is

    view_slot : (x : Option (SockCore AnySock W N O I)) → (let v : OpenSock = view_of (record old { socket = x }) in v.slot) ≡ (slot_after (owner_of x) (moments_of old.desk)).0
    view_slot None = refl
    view_slot (Some x) = refl

    slot_is : (view_of old).slot ≡ old.desk.past.workers + o
    slot_is =
        let owned = lent.owned in
        view_slot old.socket ∙ ap (λ (y : Option (SockCore AnySock W N O I)). (slot_after (owner_of y) (moments_of old.desk)).0) is ∙ (is_in old.desk lent.order o owned.is_open).slot

    more : 0 < o
    more = (let owned = lent.owned in above o (is_in old.desk lent.order o owned.is_open).more)

    line : (asks : Call) (answer : Answer) (told told_now : List Skip) → CallsLine (Leads K) view_of asks answer told told_now old new → AreCallsOn o old.desk new.desk
    line asks answer told told_now calls =
        let at : Line = record { number = 0; call = asks } in
        let t : Try N T = record { line = at; pump = calls.pump; call = calls.acts; skips = calls.skips; told = told_now; answer = answer; over = false } in
        let c = found_by old.desk new.desk behind (let led = calls.led in led.grows) in
        led_on lent.order o (calls.pump ++ calls.acts) calls.led
        (line_on o old.desk.past.workers more (view_of old) calls.pump calls.pumped t (view_of new) asks c object_is slot_is calls.pumps (calls.does at told_now false) (so (calls.pump ++ calls.acts) calls.led))

    close : ClosesOpen (Leads K) view_of old new → AreCallsOn o old.desk new.desk
    close closes =
        led_on lent.order o (acts_said closes.closed) closes.led
        (said_on o (acts_said closes.closed) (closes.closed ∷ []) (said_once closes.closed)
        (one_on o closes.closed (request_on o (Close (id (view_of old).object)) Done closes.closed closes.request (ap (λ (k : ℕ). Some k) object_is))))

  -- the socket that is there
  module _ (Goal : ℕ → Type 0) (so : (s : SockCore AnySock W N O I) → old.socket ≡ Some s → IsLentTo K old.pipes old.desk old.since s → Goal s.number.0) where
    there : (x : Option (SockCore AnySock W N O I)) → old.socket ≡ x → Agrees K (record old { socket = x }) → Goal (owner_of x)
    there None is agrees = absurd agrees
    there (Some s) is agrees = so s is agrees

pub lines_are_on : (W T : Type 0) {P N O I : Type 0} (K : Known P O I N) → LinesAreOn W T K
lines_are_on W T K old new agrees behind asks answer told told_now calls =
    there W T K old new behind (λ o. AreCallsOn o old.desk new.desk) (λ s is lent. line W T K old new behind s is lent asks answer told told_now calls) old.socket refl agrees

pub closes_are_on : (W T : Type 0) {P N O I : Type 0} (K : Known P O I N) → ClosesAreOn W T K
closes_are_on W T K old new agrees behind closes =
    there W T K old new behind (λ o. AreCallsOn o old.desk new.desk) (λ s is lent. close W T K old new behind s is lent closes) old.socket refl agrees
