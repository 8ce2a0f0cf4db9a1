use Rattle.std.proofs.Common.{◌≡◌, ◌∙◌, [], length, refl, sym, subst}
use Rattle.std.proofs.lemmas.Result.{IfOk-at_ok}
use Rattle.desk.specs.declared.given.Given.{Given}
use Rattle.plain_desk.specs.Lent.{Lent}
use Rattle.line_socket.specs.Leads.{Leads}
use Rattle.line_socket.specs.LeadsOwed.{led_none}
use Rattle.line_socket.specs.Owned.{parts}
use Rattle.line_socket.specs.Readers.{readers_from}
use Rattle.line_socket.proofs.AskLemmas.{one_longer}
use Rattle.line_socket.proofs.BeganLemmas.{agrees_began}
use Rattle.line_socket.proofs.LookedLemmas.{has_looked}
use Rattle.line_socket.proofs.taking.take.Goals as goal

pub returns-in-true-clause-ok : goal.returns-in-true-clause-ok
returns-in-true-clause-ok g c =
    let l = c.args.lent.now in
    let d = g.D.LentDesk.lent c.finds_empty.new.desk in
    (has_looked g.P.Pipes.known l.pipes (g.D.LentDesk.lent l.desk) d (length l.since.items) c.is_of_one_order.ensures l.socket.core c.requires.agrees c.is_told.ensures c.requires.ready (c.finds_empty.ensures.empty c.in-true.is)
    (length c.and-lent.result.items) (one_longer l.since.items l.since.items c.and-lent.result.items (tt, tt) c.and-lent.ensures refl)).takes

pub returns-in-true-clause-ready : goal.returns-in-true-clause-ready
returns-in-true-clause-ready g c =
    let l = c.args.lent.now in
    let d = g.D.LentDesk.lent c.finds_empty.new.desk in
    (has_looked g.P.Pipes.known l.pipes (g.D.LentDesk.lent l.desk) d (length l.since.items) c.is_of_one_order.ensures l.socket.core c.requires.agrees c.is_told.ensures c.requires.ready (c.finds_empty.ensures.empty c.in-true.is)
    (length c.and-lent.result.items) (one_longer l.since.items l.since.items c.and-lent.result.items (tt, tt) c.and-lent.ensures refl)).ready

pub returns-in-true-clause-agrees : goal.returns-in-true-clause-agrees
returns-in-true-clause-agrees g c =
    let l = c.args.lent.now in
    let d = g.D.LentDesk.lent c.finds_empty.new.desk in
    (has_looked g.P.Pipes.known l.pipes (g.D.LentDesk.lent l.desk) d (length l.since.items) c.is_of_one_order.ensures l.socket.core c.requires.agrees c.is_told.ensures c.requires.ready (c.finds_empty.ensures.empty c.in-true.is)
    (length c.and-lent.result.items) (one_longer l.since.items l.since.items c.and-lent.result.items (tt, tt) c.and-lent.ensures refl)).agrees

pub returns-in-true-clause-may : goal.returns-in-true-clause-may
returns-in-true-clause-may g c =
    let l = c.args.lent.now in
    let d = g.D.LentDesk.lent c.finds_empty.new.desk in
    (has_looked g.P.Pipes.known l.pipes (g.D.LentDesk.lent l.desk) d (length l.since.items) c.is_of_one_order.ensures l.socket.core c.requires.agrees c.is_told.ensures c.requires.ready (c.finds_empty.ensures.empty c.in-true.is)
    (length c.and-lent.result.items) (one_longer l.since.items l.since.items c.and-lent.result.items (tt, tt) c.and-lent.ensures refl)).may c.requires.may

pub ends_reading-requires : goal.ends_reading-requires
ends_reading-requires g c = let l = c.args.lent.now in record { began = agrees_began g.P.Pipes.known l.pipes (g.D.LentDesk.lent l.desk) (length l.since.items) l.socket.core c.requires.agrees }

pub take_behind-requires-clause-before : goal.take_behind-requires-clause-before
take_behind-requires-clause-before g c = c.deref.ensures.value ∙ IfOk-at_ok (λ ends. ends.items ≡ readers_from c.args.lent.now.socket.core 0) c.in-Ok.is c.ends_reading.ensures

pub returns-in-Err-clause-err : goal.returns-in-Err-clause-err
returns-in-Err-clause-err g c =
    let K = g.P.Pipes.known in
    let l = c.args.lent.now in
    record {
      acts = [];
      led = subst (λ (d : Lent (Given _ _ _) _ _). Leads K (parts l.pipes (g.D.LentDesk.lent l.desk) l.socket.core l.since.items) [] (parts l.pipes d l.socket.core l.since.items)) (sym (c.finds_empty.ensures.waits c.in-false.is)) (led_none K (parts l.pipes (g.D.LentDesk.lent l.desk) l.socket.core l.since.items));
    }
