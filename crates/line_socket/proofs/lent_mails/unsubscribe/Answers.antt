use Rattle.std.proofs.Common.{◌∙◌, List, [], append-nil, length, refl, sym, ap}
use Rattle.spec_pattern.specs.PatternCalls.{Unsubscribe}
use Rattle.spec_pattern.specs.declared.answers.Skip.{Skip}
use Rattle.spec_run.specs.SocketCall.{step_acts, ChangesOpen}
use Rattle.line_calls.specs.Steps.{CallsSo, LeadsSome}
use Rattle.line_socket.specs.View.{open_view}
use Rattle.line_socket.specs.Owned.{parts, box_of, view_of, moments_since}
use Rattle.line_socket.specs.Leads.{Leads}
use Rattle.line_socket.proofs.MailLemmas.{keeps_on, leads_on, there_on, box_on, changed_ok, changed_err}
use Rattle.plain_desk.specs.Lent.{moments_of}
use Rattle.line_socket.specs.Ready.{IsReady}
use Rattle.line_socket.proofs.KeepLemmas.{changed_on, changes_peers}
use Rattle.line_socket.proofs.lent_mails.unsubscribe.Goals as goal

pub returns-clause-ok : goal.returns-clause-ok
returns-clause-ok g c =
    let K = g.P.Pipes.known in
    let l = c.args.lent.now in
    let m = c.unsubscribe.new in
    let n = length l.since.items in
    let on = keeps_on l.socket.core m.socket c.unsubscribe.ensures.keeps in
    changed_ok c.unsubscribe.result c.changed_reply.result _ _ _
    (λ answer. (told : List Skip) → CallsSo (Leads K) view_of moments_since (ChangesOpen Unsubscribe c.args.topic.now) answer told told (parts l.pipes (g.D.LentDesk.lent l.desk) l.socket.core l.since.items) (parts m.pipes (g.D.LentDesk.lent l.desk) m.socket l.since.items))
    c.unsubscribe.ensures.step c.changed_reply.ensures
    (λ a h told. let x = h (box_of (parts l.pipes (g.D.LentDesk.lent l.desk) l.socket.core l.since.items)) in record {
      acts = step_acts x.steps;
      skips = [];
      does = λ line pump all over ends. record { steps = x.steps; changed = a; pattern = x.pattern; changes = x.changes; call_is = refl; skips_are = refl; answer_is = refl; new_is = ap (λ b. open_view b m.socket) (box_on K (g.D.LentDesk.lent l.desk) n l.pipes m.pipes l.socket.core m.socket on) ∙ x.new_is };
      tells = sym (append-nil told);
      led = leads_on K (g.D.LentDesk.lent l.desk) n l.pipes m.pipes l.socket.core m.socket x.steps x.makes c.requires.agrees c.unsubscribe.ensures.others on;
    })

pub returns-clause-err : goal.returns-clause-err
returns-clause-err g c =
    let K = g.P.Pipes.known in
    let l = c.args.lent.now in
    let m = c.unsubscribe.new in
    let n = length l.since.items in
    let on = keeps_on l.socket.core m.socket c.unsubscribe.ensures.keeps in
    changed_err c.unsubscribe.result c.changed_reply.result _ _ _ (LeadsSome (Leads K) (parts l.pipes (g.D.LentDesk.lent l.desk) l.socket.core l.since.items) (parts m.pipes (g.D.LentDesk.lent l.desk) m.socket l.since.items)) c.unsubscribe.ensures.step c.changed_reply.ensures
    (λ h. record { acts = step_acts h.steps; led = leads_on K (g.D.LentDesk.lent l.desk) n l.pipes m.pipes l.socket.core m.socket h.steps h.makes c.requires.agrees c.unsubscribe.ensures.others on }) (λ h. record { acts = step_acts h.steps; led = leads_on K (g.D.LentDesk.lent l.desk) n l.pipes m.pipes l.socket.core m.socket h.steps h.makes c.requires.agrees c.unsubscribe.ensures.others on })

pub returns-clause-agrees : goal.returns-clause-agrees
returns-clause-agrees g c =
    let K = g.P.Pipes.known in
    let l = c.args.lent.now in
    let m = c.unsubscribe.new in
    let n = length l.since.items in
    let on = keeps_on l.socket.core m.socket c.unsubscribe.ensures.keeps in
    there_on K (g.D.LentDesk.lent l.desk) n l.pipes m.pipes l.socket.core m.socket c.requires.agrees c.unsubscribe.ensures.stands on

pub returns-clause-ready : goal.returns-clause-ready
returns-clause-ready g c =
    let K = g.P.Pipes.known in
    let l = c.args.lent.now in
    let m = c.unsubscribe.new in
    let on = keeps_on l.socket.core m.socket c.unsubscribe.ensures.keeps in
    changed_on c.unsubscribe.result c.changed_reply.result _ _ _ (IsReady (parts m.pipes (g.D.LentDesk.lent l.desk) m.socket l.since.items)) c.unsubscribe.ensures.step c.changed_reply.ensures (λ a h. record {
      whole = c.unsubscribe.ensures.whole;
      peers = changes_peers (moments_of (g.D.LentDesk.lent l.desk)) K l.pipes m.pipes Unsubscribe c.args.topic.now a l.socket.core m.socket on (h 0) c.requires.ready.peers;
    })
