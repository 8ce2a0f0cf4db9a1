use Rattle.std.proofs.Common.{◌≡◌, true, List, length, sym, ap, subst}
use Rattle.std.proofs.lemmas.Result.{IfOk-at_ok}
use Rattle.zq_base.specs.declared.log.Log.{Log}
use Rattle.spec_pattern.specs.declared.answers.Skip.{Skip}
use Rattle.spec_control.specs.declared.request.Reply.{Reply}
use Rattle.spec_run.specs.declared.answer.Answer.{Answer}
use Rattle.desk.specs.Desk.{AsksOnce}
use Rattle.sock_calls.specs.Calls.{owner_of}
use Rattle.line_calls.specs.Steps.{RequestsSo}
use Rattle.plain_desk.specs.Lent.{moments_of}
use Rattle.line_socket.specs.Owned.{parts, view_of, moments_since}
use Rattle.line_socket.specs.Leads.{Leads}
use Rattle.line_socket.proofs.AskLemmas.{has_asked, has_stayed, opens_made, one_longer, at_err}
use Rattle.line_socket.proofs.RequestedLemmas.{naming_own, naming_free, naming_sockets}
use Rattle.line_socket.proofs.asks.ask.Goals as goal

pub returns-in-Ok-clause-ok : goal.returns-in-Ok-clause-ok
returns-in-Ok-clause-ok g c =
    let l = c.args.lent.now in
    let x = c.call_ask in
    let m = x.new.lent in
    let own = naming_own (owner_of l.socket.core) c.args.request c.requires.asks in
    subst (λ (a : Answer). (told : List Skip) → RequestsSo (Leads g.P.Pipes.known) view_of moments_since c.args.request a told
    (parts l.pipes (g.D.LentDesk.lent l.desk) l.socket.core l.since.items) (parts m.pipes (g.D.LentDesk.lent m.desk) m.socket.core c.and-lent.result.items)) (sym c.reply_answer.ensures)
    (has_asked g.P.Pipes.known l.pipes m.pipes (g.D.LentDesk.lent l.desk) (g.D.LentDesk.lent m.desk) (length l.since.items) l.socket.core m.socket.core c.requires.agrees c.is_told.ensures c.requires.ready x.ensures.called x.ensures.given x.ensures.whole x.ensures.passes
    c.args.request c.in-Ok.reply own (naming_free (owner_of l.socket.core) c.args.request c.requires.asks) (IfOk-at_ok (λ (r : Reply). AsksOnce (g.D.LentDesk.lent l.desk).caller c.args.request r (moments_of (g.D.LentDesk.lent l.desk)) (moments_of (g.D.LentDesk.lent m.desk))) c.in-Ok.is x.ensures.ok)
    (opens_made (g.D.LentDesk.lent l.desk) (owner_of l.socket.core) c.args.request c.in-Ok.reply (naming_sockets true (owner_of l.socket.core) c.args.request c.requires.asks) own)
    (length c.and-lent.result.items) (one_longer l.since.items m.since.items c.and-lent.result.items _ c.and-lent.ensures (ap (λ (y : Log (Unit {0}) (Unit {0})). y.items) x.ensures.since))).asks

pub returns-in-Ok-clause-ready : goal.returns-in-Ok-clause-ready
returns-in-Ok-clause-ready g c =
    let l = c.args.lent.now in
    let x = c.call_ask in
    let m = x.new.lent in
    let own = naming_own (owner_of l.socket.core) c.args.request c.requires.asks in
    (has_asked g.P.Pipes.known l.pipes m.pipes (g.D.LentDesk.lent l.desk) (g.D.LentDesk.lent m.desk) (length l.since.items) l.socket.core m.socket.core c.requires.agrees c.is_told.ensures c.requires.ready x.ensures.called x.ensures.given x.ensures.whole x.ensures.passes
    c.args.request c.in-Ok.reply own (naming_free (owner_of l.socket.core) c.args.request c.requires.asks) (IfOk-at_ok (λ (r : Reply). AsksOnce (g.D.LentDesk.lent l.desk).caller c.args.request r (moments_of (g.D.LentDesk.lent l.desk)) (moments_of (g.D.LentDesk.lent m.desk))) c.in-Ok.is x.ensures.ok)
    (opens_made (g.D.LentDesk.lent l.desk) (owner_of l.socket.core) c.args.request c.in-Ok.reply (naming_sockets true (owner_of l.socket.core) c.args.request c.requires.asks) own)
    (length c.and-lent.result.items) (one_longer l.since.items m.since.items c.and-lent.result.items _ c.and-lent.ensures (ap (λ (y : Log (Unit {0}) (Unit {0})). y.items) x.ensures.since))).ready

pub returns-in-Ok-clause-agrees : goal.returns-in-Ok-clause-agrees
returns-in-Ok-clause-agrees g c =
    let l = c.args.lent.now in
    let x = c.call_ask in
    let m = x.new.lent in
    let own = naming_own (owner_of l.socket.core) c.args.request c.requires.asks in
    (has_asked g.P.Pipes.known l.pipes m.pipes (g.D.LentDesk.lent l.desk) (g.D.LentDesk.lent m.desk) (length l.since.items) l.socket.core m.socket.core c.requires.agrees c.is_told.ensures c.requires.ready x.ensures.called x.ensures.given x.ensures.whole x.ensures.passes
    c.args.request c.in-Ok.reply own (naming_free (owner_of l.socket.core) c.args.request c.requires.asks) (IfOk-at_ok (λ (r : Reply). AsksOnce (g.D.LentDesk.lent l.desk).caller c.args.request r (moments_of (g.D.LentDesk.lent l.desk)) (moments_of (g.D.LentDesk.lent m.desk))) c.in-Ok.is x.ensures.ok)
    (opens_made (g.D.LentDesk.lent l.desk) (owner_of l.socket.core) c.args.request c.in-Ok.reply (naming_sockets true (owner_of l.socket.core) c.args.request c.requires.asks) own)
    (length c.and-lent.result.items) (one_longer l.since.items m.since.items c.and-lent.result.items _ c.and-lent.ensures (ap (λ (y : Log (Unit {0}) (Unit {0})). y.items) x.ensures.since))).agrees

pub returns-in-Err-clause-err : goal.returns-in-Err-clause-err
returns-in-Err-clause-err g c =
    let l = c.args.lent.now in
    let x = c.call_ask in
    let m = x.new.lent in
    (has_stayed g.P.Pipes.known l.pipes m.pipes (g.D.LentDesk.lent l.desk) (g.D.LentDesk.lent m.desk) (length l.since.items) l.socket.core m.socket.core c.requires.agrees c.is_told.ensures c.requires.ready x.ensures.called x.ensures.given x.ensures.whole x.ensures.passes
    (at_err (moments_of (g.D.LentDesk.lent m.desk) ≡ moments_of (g.D.LentDesk.lent l.desk)) c.in-Err.is x.ensures.err) (length m.since.items) (ap (λ (y : Log (Unit {0}) (Unit {0})). length y.items) x.ensures.since)).some

pub returns-in-Err-clause-ready : goal.returns-in-Err-clause-ready
returns-in-Err-clause-ready g c =
    let l = c.args.lent.now in
    let x = c.call_ask in
    let m = x.new.lent in
    (has_stayed g.P.Pipes.known l.pipes m.pipes (g.D.LentDesk.lent l.desk) (g.D.LentDesk.lent m.desk) (length l.since.items) l.socket.core m.socket.core c.requires.agrees c.is_told.ensures c.requires.ready x.ensures.called x.ensures.given x.ensures.whole x.ensures.passes
    (at_err (moments_of (g.D.LentDesk.lent m.desk) ≡ moments_of (g.D.LentDesk.lent l.desk)) c.in-Err.is x.ensures.err) (length m.since.items) (ap (λ (y : Log (Unit {0}) (Unit {0})). length y.items) x.ensures.since)).ready

pub returns-in-Err-clause-agrees : goal.returns-in-Err-clause-agrees
returns-in-Err-clause-agrees g c =
    let l = c.args.lent.now in
    let x = c.call_ask in
    let m = x.new.lent in
    (has_stayed g.P.Pipes.known l.pipes m.pipes (g.D.LentDesk.lent l.desk) (g.D.LentDesk.lent m.desk) (length l.since.items) l.socket.core m.socket.core c.requires.agrees c.is_told.ensures c.requires.ready x.ensures.called x.ensures.given x.ensures.whole x.ensures.passes
    (at_err (moments_of (g.D.LentDesk.lent m.desk) ≡ moments_of (g.D.LentDesk.lent l.desk)) c.in-Err.is x.ensures.err) (length m.since.items) (ap (λ (y : Log (Unit {0}) (Unit {0})). length y.items) x.ensures.since)).agrees
