use Rattle.std.proofs.Common.{Option, ◌∙◌, sym, ap, subst}
use Rattle.any_sock.specs.declared.any_sock.AnySock.{AnySock}
use Rattle.any_sock.specs.Over.{peer_places}
use Rattle.sock_core.specs.declared.sock.SockCore.{SockCore}
use Rattle.sock_core.proofs.FormLemmas.{sound_of}
use Rattle.sock_core.proofs.SteadyLemmas.{looked_so}
use Rattle.sock_calls.specs.Calls.{LeavesOthers}
use Rattle.line_socket.specs.View.{open_view}
use Rattle.line_socket.specs.Standing.{IsStanding, Stands, IsWhole}
use Rattle.line_socket.specs.Looking.{HasWhole, LooksSo}
use Rattle.line_socket.proofs.ViewLemmas.{there, came, steady_of, fits_of}
use Rattle.line_socket.proofs.LookLemmas.{looks_so, view_met, whole_met, stands_met, keeps_but}
use Rattle.line_socket.proofs.looks.look.Goals as goal

pub look_in-requires-clause-sound : goal.look_in-requires-clause-sound
look_in-requires-clause-sound g c =
    let s = c.in-Some.core in
    let stand : IsStanding g.P.Pipes.known c.args.pipes.now s = there g.P.Pipes.known c.args.pipes.now c.args.socket.now s c.in-Some.is c.requires.stands in
    sound_of g.P.Pipes.known c.args.pipes.now s.ends.rows.items s.ends.places.items stand.fits.sound

pub look_in-requires-clause-writes : goal.look_in-requires-clause-writes
look_in-requires-clause-writes g c = subst (λ (x : Option (SockCore AnySock _ _ _ _)). HasWhole c.args.end x) c.in-Some.is c.requires.held

pub returns-in-Some-clause-looks : goal.returns-in-Some-clause-looks
returns-in-Some-clause-looks g c =
    let K = g.P.Pipes.known in
    let p = c.args.pipes.now in
    let q = c.look_in.new.pipes in
    let s = c.in-Some.core in
    let ends = c.look_in.new.ends in
    came K (LooksSo K c.args.end c.look_in.result) p q c.args.socket.now s (record s { ends = ends }) c.in-Some.is
    (looks_so K p q s (record s { ends = ends }) c.args.end c.look_in.result c.look_in.ensures.looked (keeps_but s ends))

pub returns-in-Some-clause-view : goal.returns-in-Some-clause-view
returns-in-Some-clause-view g c = λ slot.
    let s = c.in-Some.core in
    let ends = c.look_in.new.ends in
    view_met g.P.Pipes.known c.args.pipes.now c.look_in.new.pipes s (record s { ends = ends }) c.args.end c.look_in.result c.look_in.ensures.looked (keeps_but s ends) slot ∙ ap (open_view slot) (sym c.in-Some.is)

pub returns-in-Some-clause-whole : goal.returns-in-Some-clause-whole
returns-in-Some-clause-whole g c = λ w.
    let s = c.in-Some.core in
    let ends = c.look_in.new.ends in
    whole_met g.P.Pipes.known c.args.pipes.now c.look_in.new.pipes s (record s { ends = ends }) c.args.end c.look_in.result c.look_in.ensures.looked (keeps_but s ends)
    (subst (λ (x : Option (SockCore AnySock _ _ _ _)). IsWhole x) c.in-Some.is w)

pub returns-in-Some-clause-stands : goal.returns-in-Some-clause-stands
returns-in-Some-clause-stands g c =
    let K = g.P.Pipes.known in
    let p = c.args.pipes.now in
    let q = c.look_in.new.pipes in
    let s = c.in-Some.core in
    let ends = c.look_in.new.ends in
    let stand : IsStanding K p s = there K p c.args.socket.now s c.in-Some.is c.requires.stands in
    stands_met K p q s (record s { ends = ends }) c.args.end c.look_in.result c.look_in.ensures.looked (keeps_but s ends) stand
    (fits_of K q (record s { ends = ends }) (looked_so K peer_places p q s ends c.args.end c.look_in.result c.look_in.ensures.looked c.look_in.ensures.sound c.look_in.ensures.settled c.look_in.ensures.others (steady_of K p s stand.fits)))

pub returns-in-Some-clause-others : goal.returns-in-Some-clause-others
returns-in-Some-clause-others g c =
    let K = g.P.Pipes.known in
    let s = c.in-Some.core in
    came K (λ a o b n. LeavesOthers K o n a b) c.args.pipes.now c.look_in.new.pipes c.args.socket.now s (record s { ends = c.look_in.new.ends }) c.in-Some.is c.look_in.ensures.others

pub unreachable-requires : goal.unreachable-requires
unreachable-requires g c = subst (λ (x : Option (SockCore AnySock _ _ _ _)). Stands g.P.Pipes.known c.args.pipes.now x) c.in-None.is c.requires.stands
