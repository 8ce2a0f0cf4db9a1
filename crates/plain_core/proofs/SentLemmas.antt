-- The ends that a close sends, and whose pipes are told to be sealed, were asked.
use Rattle.std.specs.Prelude.{List, Option, Some, None}
use Rattle.std.proofs.Common.{sym, ◌∙◌, subst}
use Rattle.std.proofs.lemmas.List.{append_cancel_left}
use Rattle.msg_pipe.specs.Known.{Known}
use Rattle.spec_control.specs.declared.request.Req.{Req}
use Rattle.spec_run.specs.Act.{Act}
use Rattle.desk.specs.declared.given.Given.{Given}
use Rattle.ctl_plane.specs.Past.{control_of}
use Rattle.desk.specs.Coming.{SendsEnds}
use Rattle.any_sock.specs.declared.any_sock.AnySock.{AnySock}
use Rattle.sock_core.specs.declared.sock.SockCore.{SockCore}
use Rattle.sock_calls.specs.Calls.{holding_of}
use Rattle.line_socket.specs.Standing.{kind_told}
use Rattle.plain_desk.specs.Lent.{Lent}
use Rattle.line_socket.specs.Owned.{LentParts, parts, Agrees}
use Rattle.line_socket.specs.Leads.{Leads}
use Rattle.core_laws.specs.Sealed.{AllAsked}
use Rattle.core_laws.proofs.SealedLemmas.{all_asked_told}
use Rattle.core_laws.specs.Reaper.{AskedStay}
use Rattle.plain_core.specs.Calling.{SendsAsked}

pub sends_asked : {W S N O I T : Type 0} (K : Known S O I N) → AskedStay (Given N O I) N T → (pipes now : S) (d : Lent (Given N O I) N T) (since : List (Unit {0} × Unit {0})) (s : Option (SockCore AnySock W N O I)) (acts : List (Act N T)) (new : LentParts W N O I S T)
    → Agrees K (parts pipes d s since) → Leads K (parts pipes d s since) acts new → (req : Req) → SendsEnds K now (holding_of kind_told s) req d.past.given new.desk.past.given → SendsAsked d new.desk
sends_asked K stay pipes now d since None acts new agrees led req sent = absurd agrees
sends_asked {N = N} {O = O} {I = I} K stay pipes now d since (Some s) acts new agrees led req sent = λ ends same.
    subst (λ (gs : List (Given N O I)). AllAsked (control_of new.desk.past) gs) (append_cancel_left d.past.given sent.ends ends (sym sent.behind ∙ same))
    (all_asked_told (control_of new.desk.past) (holding_of kind_told (Some s)).sealed (stay d new.desk agrees.order (led.standing.order agrees.order) led.grows (holding_of kind_told (Some s)).sealed agrees.were_asked) sent.ends sent.sealed)
