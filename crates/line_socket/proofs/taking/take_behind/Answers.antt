use Rattle.std.proofs.Common.{◌≡◌, length, ap}
use Rattle.std.proofs.lemmas.Result.{IfOk-at_ok}
use Rattle.zq_base.specs.declared.log.Log.{Log}
use Rattle.desk.specs.declared.delivery.Delivery.{Delivery}
use Rattle.desk.specs.Desk.{GivesOrNot, slot_after}
use Rattle.sock_calls.specs.Calls.{owner_of}
use Rattle.plain_desk.specs.Lent.{moments_of}
use Rattle.line_socket.proofs.AskLemmas.{has_stayed, one_longer, at_err}
use Rattle.line_socket.proofs.BeganLemmas.{fits_began}
use Rattle.line_socket.proofs.MayLemmas.{still_may}
use Rattle.line_socket.proofs.TakeLemmas.{has_taken}
use Rattle.line_socket.proofs.taking.take_behind.Goals as goal

pub found_now-requires : goal.found_now-requires
found_now-requires g c = let m = c.call_take.new.lent in record { began = fits_began g.P.Pipes.known m.pipes m.socket.core c.call_take.ensures.called.fits }

pub returns-in-Ok-clause-ok : goal.returns-in-Ok-clause-ok
returns-in-Ok-clause-ok g c =
    let l = c.args.lent.now in
    let x = c.call_take in
    let m = x.new.lent in
    (has_taken g.P.Pipes.known l.pipes m.pipes (g.D.LentDesk.lent l.desk) (g.D.LentDesk.lent m.desk) (length l.since.items) l.socket.core m.socket.core c.requires.agrees c.requires.told c.requires.ready x.ensures.called x.ensures.given x.ensures.whole x.ensures.passes x.ensures.counts
    c.in-Ok.delivery (IfOk-at_ok (λ (found : Delivery). GivesOrNot (g.D.LentDesk.lent l.desk).caller (slot_after (owner_of l.socket.core) (moments_of (g.D.LentDesk.lent l.desk))) found (moments_of (g.D.LentDesk.lent l.desk)) (moments_of (g.D.LentDesk.lent m.desk))) c.in-Ok.is x.ensures.ok)
    c.args.before.now c.requires.before c.found_now.result c.found_now.ensures
    (length c.and-lent.result.items) (one_longer l.since.items m.since.items c.and-lent.result.items _ c.and-lent.ensures (ap (λ (y : Log (Unit {0}) (Unit {0})). y.items) x.ensures.since))).takes

pub returns-in-Ok-clause-reader : goal.returns-in-Ok-clause-reader
returns-in-Ok-clause-reader g c =
    let l = c.args.lent.now in
    let x = c.call_take in
    let m = x.new.lent in
    (has_taken g.P.Pipes.known l.pipes m.pipes (g.D.LentDesk.lent l.desk) (g.D.LentDesk.lent m.desk) (length l.since.items) l.socket.core m.socket.core c.requires.agrees c.requires.told c.requires.ready x.ensures.called x.ensures.given x.ensures.whole x.ensures.passes x.ensures.counts
    c.in-Ok.delivery (IfOk-at_ok (λ (found : Delivery). GivesOrNot (g.D.LentDesk.lent l.desk).caller (slot_after (owner_of l.socket.core) (moments_of (g.D.LentDesk.lent l.desk))) found (moments_of (g.D.LentDesk.lent l.desk)) (moments_of (g.D.LentDesk.lent m.desk))) c.in-Ok.is x.ensures.ok)
    c.args.before.now c.requires.before c.found_now.result c.found_now.ensures
    (length c.and-lent.result.items) (one_longer l.since.items m.since.items c.and-lent.result.items _ c.and-lent.ensures (ap (λ (y : Log (Unit {0}) (Unit {0})). y.items) x.ensures.since))).reader

pub returns-in-Ok-clause-ready : goal.returns-in-Ok-clause-ready
returns-in-Ok-clause-ready g c =
    let l = c.args.lent.now in
    let x = c.call_take in
    let m = x.new.lent in
    (has_taken g.P.Pipes.known l.pipes m.pipes (g.D.LentDesk.lent l.desk) (g.D.LentDesk.lent m.desk) (length l.since.items) l.socket.core m.socket.core c.requires.agrees c.requires.told c.requires.ready x.ensures.called x.ensures.given x.ensures.whole x.ensures.passes x.ensures.counts
    c.in-Ok.delivery (IfOk-at_ok (λ (found : Delivery). GivesOrNot (g.D.LentDesk.lent l.desk).caller (slot_after (owner_of l.socket.core) (moments_of (g.D.LentDesk.lent l.desk))) found (moments_of (g.D.LentDesk.lent l.desk)) (moments_of (g.D.LentDesk.lent m.desk))) c.in-Ok.is x.ensures.ok)
    c.args.before.now c.requires.before c.found_now.result c.found_now.ensures
    (length c.and-lent.result.items) (one_longer l.since.items m.since.items c.and-lent.result.items _ c.and-lent.ensures (ap (λ (y : Log (Unit {0}) (Unit {0})). y.items) x.ensures.since))).ready

pub returns-in-Ok-clause-agrees : goal.returns-in-Ok-clause-agrees
returns-in-Ok-clause-agrees g c =
    let l = c.args.lent.now in
    let x = c.call_take in
    let m = x.new.lent in
    (has_taken g.P.Pipes.known l.pipes m.pipes (g.D.LentDesk.lent l.desk) (g.D.LentDesk.lent m.desk) (length l.since.items) l.socket.core m.socket.core c.requires.agrees c.requires.told c.requires.ready x.ensures.called x.ensures.given x.ensures.whole x.ensures.passes x.ensures.counts
    c.in-Ok.delivery (IfOk-at_ok (λ (found : Delivery). GivesOrNot (g.D.LentDesk.lent l.desk).caller (slot_after (owner_of l.socket.core) (moments_of (g.D.LentDesk.lent l.desk))) found (moments_of (g.D.LentDesk.lent l.desk)) (moments_of (g.D.LentDesk.lent m.desk))) c.in-Ok.is x.ensures.ok)
    c.args.before.now c.requires.before c.found_now.result c.found_now.ensures
    (length c.and-lent.result.items) (one_longer l.since.items m.since.items c.and-lent.result.items _ c.and-lent.ensures (ap (λ (y : Log (Unit {0}) (Unit {0})). y.items) x.ensures.since))).agrees

pub returns-in-Ok-clause-may : goal.returns-in-Ok-clause-may
returns-in-Ok-clause-may g c =
    let l = c.args.lent.now in
    let x = c.call_take in
    let m = x.new.lent in
    (has_taken g.P.Pipes.known l.pipes m.pipes (g.D.LentDesk.lent l.desk) (g.D.LentDesk.lent m.desk) (length l.since.items) l.socket.core m.socket.core c.requires.agrees c.requires.told c.requires.ready x.ensures.called x.ensures.given x.ensures.whole x.ensures.passes x.ensures.counts
    c.in-Ok.delivery (IfOk-at_ok (λ (found : Delivery). GivesOrNot (g.D.LentDesk.lent l.desk).caller (slot_after (owner_of l.socket.core) (moments_of (g.D.LentDesk.lent l.desk))) found (moments_of (g.D.LentDesk.lent l.desk)) (moments_of (g.D.LentDesk.lent m.desk))) c.in-Ok.is x.ensures.ok)
    c.args.before.now c.requires.before c.found_now.result c.found_now.ensures
    (length c.and-lent.result.items) (one_longer l.since.items m.since.items c.and-lent.result.items _ c.and-lent.ensures (ap (λ (y : Log (Unit {0}) (Unit {0})). y.items) x.ensures.since))).may c.requires.may

pub returns-in-Err-clause-err : goal.returns-in-Err-clause-err
returns-in-Err-clause-err g c =
    let l = c.args.lent.now in
    let x = c.call_take in
    let m = x.new.lent in
    (has_stayed g.P.Pipes.known l.pipes m.pipes (g.D.LentDesk.lent l.desk) (g.D.LentDesk.lent m.desk) (length l.since.items) l.socket.core m.socket.core c.requires.agrees c.requires.told c.requires.ready x.ensures.called x.ensures.given x.ensures.whole x.ensures.passes
    (at_err (moments_of (g.D.LentDesk.lent m.desk) ≡ moments_of (g.D.LentDesk.lent l.desk)) c.in-Err.is x.ensures.err) (length m.since.items) (ap (λ (y : Log (Unit {0}) (Unit {0})). length y.items) x.ensures.since)).some

pub returns-in-Err-clause-ready : goal.returns-in-Err-clause-ready
returns-in-Err-clause-ready g c =
    let l = c.args.lent.now in
    let x = c.call_take in
    let m = x.new.lent in
    (has_stayed g.P.Pipes.known l.pipes m.pipes (g.D.LentDesk.lent l.desk) (g.D.LentDesk.lent m.desk) (length l.since.items) l.socket.core m.socket.core c.requires.agrees c.requires.told c.requires.ready x.ensures.called x.ensures.given x.ensures.whole x.ensures.passes
    (at_err (moments_of (g.D.LentDesk.lent m.desk) ≡ moments_of (g.D.LentDesk.lent l.desk)) c.in-Err.is x.ensures.err) (length m.since.items) (ap (λ (y : Log (Unit {0}) (Unit {0})). length y.items) x.ensures.since)).ready

pub returns-in-Err-clause-agrees : goal.returns-in-Err-clause-agrees
returns-in-Err-clause-agrees g c =
    let l = c.args.lent.now in
    let x = c.call_take in
    let m = x.new.lent in
    (has_stayed g.P.Pipes.known l.pipes m.pipes (g.D.LentDesk.lent l.desk) (g.D.LentDesk.lent m.desk) (length l.since.items) l.socket.core m.socket.core c.requires.agrees c.requires.told c.requires.ready x.ensures.called x.ensures.given x.ensures.whole x.ensures.passes
    (at_err (moments_of (g.D.LentDesk.lent m.desk) ≡ moments_of (g.D.LentDesk.lent l.desk)) c.in-Err.is x.ensures.err) (length m.since.items) (ap (λ (y : Log (Unit {0}) (Unit {0})). length y.items) x.ensures.since)).agrees

pub returns-in-Err-clause-may : goal.returns-in-Err-clause-may
returns-in-Err-clause-may g c =
    let l = c.args.lent.now in
    let x = c.call_take in
    let m = x.new.lent in
    still_may g.P.Pipes.known l.pipes m.pipes (g.D.LentDesk.lent l.desk) (g.D.LentDesk.lent m.desk) (length l.since.items) l.socket.core m.socket.core c.requires.agrees x.ensures.called
    (at_err (moments_of (g.D.LentDesk.lent m.desk) ≡ moments_of (g.D.LentDesk.lent l.desk)) c.in-Err.is x.ensures.err) c.requires.may (length m.since.items)
