-- The steps past go on over calls of a socket on the control plane, with the steps of their items.
use Rattle.std.specs.Prelude.{◌++◌, List}
use Rattle.std.proofs.Common.{sym, ap, subst}
use Rattle.msg_pipe.specs.Known.{Known}
use Rattle.spec_pattern.specs.PipeStep.{PipeStep}
use Rattle.spec_control.specs.Control.{begun}
use Rattle.spec_control.specs.ControlRun.{after_all}
use Rattle.spec_control.specs.Moments.{moments_from}
use Rattle.socket_laws.specs.Standing.{PastStands}
use Rattle.socket_laws.specs.Changes.{ChangesGoOn}
use Rattle.socket_laws.specs.Said.{StepsAreSaid}
use Rattle.socket_laws.specs.Asked.{WereAsked, EndsAreSealedOnce}
use Rattle.socket_laws.specs.Calls.{SocketCallsGoOn}

pub socket_calls_go_on : {S O I N : Type 0} (K : Known S O I N) (T : Type 0) → ChangesGoOn K T → StepsAreSaid S O I N T → EndsAreSealedOnce N T → SocketCallsGoOn K T
socket_calls_go_on K T go said_so once io items more run on names said ps before sealed old new past h asked stands =
    let c = after_all items (begun io) in
    let now = after_all more c in
    let ms = moments_from c more in
    let new_ones = once io items more run on before asked in
    let goes = go io items more run on names said h.names_made ps h.changes h.named old new past h.names_go h.of_pipes h.does stands in
    let steps = said_so before sealed h.changes ms h.seals h.grown new_ones.0 in
    (subst (λ (l : List PipeStep). PastStands K now said new l) (ap (λ (l : List PipeStep). past ++ l) steps) goes, subst (WereAsked now) (sym h.grown) new_ones.1)
