use Rattle.std.proofs.Common.{◌∙◌, length, ap}
use Rattle.spec_run.specs.SocketCall.{step_acts}
use Rattle.line_socket.specs.View.{open_view}
use Rattle.line_socket.proofs.ViewLemmas.{ok_more, err_more}
use Rattle.line_socket.specs.Owned.{parts, box_of}
use Rattle.line_socket.proofs.MailLemmas.{keeps_on, leads_on, there_on, box_on}
use Rattle.plain_desk.specs.Lent.{moments_of}
use Rattle.line_socket.proofs.KeepLemmas.{ok_both, pumps_peers}
use Rattle.line_socket.proofs.lent_mails.pump_kind.Goals as goal

pub returns-clause-ok : goal.returns-clause-ok
returns-clause-ok g c =
    let K = g.P.Pipes.known in
    let l = c.args.lent.now in
    let m = c.pump.new in
    let n = length l.since.items in
    let on = keeps_on l.socket.core m.socket c.pump.ensures.keeps in
    ok_more c.pump.result (λ h. let x = h (box_of (parts l.pipes (g.D.LentDesk.lent l.desk) l.socket.core l.since.items)) in record {
      steps = x.steps;
      pattern = x.pattern;
      pumps = x.pumps;
      led = leads_on K (g.D.LentDesk.lent l.desk) n l.pipes m.pipes l.socket.core m.socket x.steps x.makes c.requires.agrees c.pump.ensures.others on;
      new_is = ap (λ b. open_view b m.socket) (box_on K (g.D.LentDesk.lent l.desk) n l.pipes m.pipes l.socket.core m.socket on) ∙ x.new_is;
    }) c.pump.ensures.ok

pub returns-clause-err : goal.returns-clause-err
returns-clause-err g c =
    let K = g.P.Pipes.known in
    let l = c.args.lent.now in
    let m = c.pump.new in
    let n = length l.since.items in
    let on = keeps_on l.socket.core m.socket c.pump.ensures.keeps in
    err_more c.pump.result (λ h. record { acts = step_acts h.steps; led = leads_on K (g.D.LentDesk.lent l.desk) n l.pipes m.pipes l.socket.core m.socket h.steps h.makes c.requires.agrees c.pump.ensures.others on }) c.pump.ensures.err

pub returns-clause-agrees : goal.returns-clause-agrees
returns-clause-agrees g c =
    let K = g.P.Pipes.known in
    let l = c.args.lent.now in
    let m = c.pump.new in
    let n = length l.since.items in
    let on = keeps_on l.socket.core m.socket c.pump.ensures.keeps in
    there_on K (g.D.LentDesk.lent l.desk) n l.pipes m.pipes l.socket.core m.socket c.requires.agrees c.pump.ensures.stands on

pub returns-clause-ready : goal.returns-clause-ready
returns-clause-ready g c =
    let K = g.P.Pipes.known in
    let l = c.args.lent.now in
    let m = c.pump.new in
    let on = keeps_on l.socket.core m.socket c.pump.ensures.keeps in
    ok_both c.pump.result (λ h whole was. record {
      whole = whole was.whole;
      peers = pumps_peers (moments_of (g.D.LentDesk.lent l.desk)) K l.pipes m.pipes l.socket.core m.socket on (h 0) was.peers;
    }) c.pump.ensures.ok c.pump.ensures.whole
