use Rattle.std.proofs.Common.{◌∙◌, length, refl, ap}
use Rattle.spec_run.specs.SocketCall.{step_acts, ReceivesOpen}
use Rattle.line_calls.specs.Steps.{CallsSo, LeadsSome}
use Rattle.line_socket.specs.View.{open_view}
use Rattle.line_socket.specs.Owned.{parts, box_of, view_of, moments_since}
use Rattle.line_socket.specs.Leads.{Leads}
use Rattle.line_socket.proofs.MailLemmas.{keeps_on, leads_on, there_on, box_on, got_ok, got_err}
use Rattle.plain_desk.specs.Lent.{moments_of}
use Rattle.line_socket.specs.Standing.{IsWhole}
use Rattle.line_socket.specs.Ready.{HavePeers}
use Rattle.line_socket.proofs.KeepLemmas.{ok_both, got_on, receives_peers}
use Rattle.line_socket.proofs.lent_mails.recv.Goals as goal

pub returns-clause-ok : goal.returns-clause-ok
returns-clause-ok g c =
    let K = g.P.Pipes.known in
    let l = c.args.lent.now in
    let m = c.recv.new in
    let n = length l.since.items in
    let on = keeps_on l.socket.core m.socket c.recv.ensures.keeps in
    got_ok c.recv.result c.got_reply.result _ _
    (λ answer. CallsSo (Leads K) view_of moments_since ReceivesOpen answer c.args.told.now.items m.told.items (parts l.pipes (g.D.LentDesk.lent l.desk) l.socket.core l.since.items) (parts m.pipes (g.D.LentDesk.lent l.desk) m.socket l.since.items))
    c.recv.ensures.step c.got_reply.ensures
    (λ a h. let x = h (box_of (parts l.pipes (g.D.LentDesk.lent l.desk) l.socket.core l.since.items)) in record {
      acts = step_acts x.steps;
      skips = x.skips;
      does = λ line pump all over ends. record { steps = x.steps; got = a; pattern = x.pattern; receives = x.receives; call_is = refl; answer_is = refl; new_is = ap (λ b. open_view b m.socket) (box_on K (g.D.LentDesk.lent l.desk) n l.pipes m.pipes l.socket.core m.socket on) ∙ x.new_is };
      tells = x.tells;
      led = leads_on K (g.D.LentDesk.lent l.desk) n l.pipes m.pipes l.socket.core m.socket x.steps x.makes c.requires.agrees c.recv.ensures.others on;
    })

pub returns-clause-err : goal.returns-clause-err
returns-clause-err g c =
    let K = g.P.Pipes.known in
    let l = c.args.lent.now in
    let m = c.recv.new in
    let n = length l.since.items in
    let on = keeps_on l.socket.core m.socket c.recv.ensures.keeps in
    got_err c.recv.result c.got_reply.result _ _ (LeadsSome (Leads K) (parts l.pipes (g.D.LentDesk.lent l.desk) l.socket.core l.since.items) (parts m.pipes (g.D.LentDesk.lent l.desk) m.socket l.since.items)) c.recv.ensures.step c.got_reply.ensures
    (λ h. record { acts = step_acts h.steps; led = leads_on K (g.D.LentDesk.lent l.desk) n l.pipes m.pipes l.socket.core m.socket h.steps h.makes c.requires.agrees c.recv.ensures.others on })

pub returns-clause-agrees : goal.returns-clause-agrees
returns-clause-agrees g c =
    let K = g.P.Pipes.known in
    let l = c.args.lent.now in
    let m = c.recv.new in
    let n = length l.since.items in
    let on = keeps_on l.socket.core m.socket c.recv.ensures.keeps in
    there_on K (g.D.LentDesk.lent l.desk) n l.pipes m.pipes l.socket.core m.socket c.requires.agrees c.recv.ensures.stands on

pub returns-clause-ready : goal.returns-clause-ready
returns-clause-ready g c =
    let K = g.P.Pipes.known in
    let l = c.args.lent.now in
    let m = c.recv.new in
    let on = keeps_on l.socket.core m.socket c.recv.ensures.keeps in
    ok_both c.got_reply.result (λ whole peers. record { whole = whole; peers = peers })
    (got_on c.recv.result c.got_reply.result _ _ (IsWhole m.socket) c.recv.ensures.whole c.got_reply.ensures (λ a h. h))
    (got_on c.recv.result c.got_reply.result _ _ (HavePeers (moments_of (g.D.LentDesk.lent l.desk)) m.socket) c.recv.ensures.step c.got_reply.ensures
    (λ a h. receives_peers (moments_of (g.D.LentDesk.lent l.desk)) K l.pipes m.pipes c.args.told.now.items m.told.items a l.socket.core m.socket on (h 0) c.requires.ready.peers))
