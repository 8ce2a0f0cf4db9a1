-- Which object the acts of a lent socket's line or close are of, and which ends they put on their way (own choice).
use Rattle.std.specs.Prelude.{◌≡◌, ◌<◌, ℕ, true, List}
use Rattle.zq_base.specs.declared.ids.EndId.{EndId}
use Rattle.spec_pattern.specs.declared.answers.Skip.{Skip}
use Rattle.spec_control.specs.Control.{id, next_object, next_pair}
use Rattle.msg_pipe.specs.Known.{Known}
use Rattle.ctl_plane.specs.Past.{control_of}
use Rattle.desk.specs.Desk.{slot_after}
use Rattle.sock_calls.specs.Calls.{owner_of}
use Rattle.spec_run.specs.declared.answer.Answer.{Answer}
use Rattle.spec_run.specs.declared.script.Call.{Call}
use Rattle.line_calls.specs.Lines.{CallsLine}
use Rattle.line_calls.specs.Steps.{ClosesOpen}
use Rattle.line_socket.specs.Leads.{Leads}
use Rattle.line_socket.specs.Owned.{Agrees, LentParts, view_of}
use Rattle.plain_desk.specs.Lent.{coming_to, moments_of, GrowsBy, HasSocket, IsOneOrder, Lent}
use Rattle.core_laws.specs.Calls.{AreCallsOn, for_caller}
use Rattle.core_laws.specs.Coming.{HasNoneMade, SendsNoneTo, WasComing}

-- the acts of a pump and of the call behind it are of the socket that is lent
abbrev pub LinesAreOn : (W T : Type 0) → {P N O I : Type 0} → Known P O I N → Type 0
LinesAreOn W T {P} {N} {O} {I} K = (old new : LentParts W N O I P T) → Agrees K old → IsOneOrder new.desk →
    (asks : Call) (answer : Answer) (told told_now : List Skip) → CallsLine (Leads K) view_of asks answer told told_now old new → AreCallsOn (owner_of old.socket) old.desk new.desk

-- and so are those of its close
abbrev pub ClosesAreOn : (W T : Type 0) → {P N O I : Type 0} → Known P O I N → Type 0
ClosesAreOn W T {P} {N} {O} {I} K = (old new : LentParts W N O I P T) → Agrees K old → IsOneOrder new.desk → ClosesOpen (Leads K) view_of old new → AreCallsOn (owner_of old.socket) old.desk new.desk

-- behind calls of a socket, an end on its way whose pair was there before was on its way before, under the same names
abbrev pub OldEndsCame : (G N S : Type 0) → Type 0
OldEndsCame G N S = (old new : Lent G N S) (o : ℕ) → AreCallsOn o old new → HasSocket old (id o) →
    (slot : ℕ) (e : EndId) → e.pair.0 < next_pair (control_of old.past) → coming_to new slot e ≡ true → WasComing slot old new e

-- calls that made no pair with an open socket sent it nothing
abbrev pub SendsNoOther : (G N S : Type 0) → Type 0
SendsNoOther G N S = (old new : Lent G N S) (o : ℕ) → AreCallsOn o old new → HasSocket old (id o) →
    (j u : ℕ) → HasSocket (for_caller j old) (id u) → HasNoneMade u old new → SendsNoneTo (slot_after u (moments_of (for_caller j old))).0 old new

-- each object that was made is there still
abbrev pub ObjectsStay : (G N S : Type 0) → Type 0
ObjectsStay G N S = (old new : Lent G N S) → IsOneOrder old → IsOneOrder new → GrowsBy old new → (i : ℕ) → i < next_object (control_of old.past) → i < next_object (control_of new.past)
