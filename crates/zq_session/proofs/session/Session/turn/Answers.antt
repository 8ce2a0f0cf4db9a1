use Rattle.std.proofs.Common.{sym, ◌∙◌}
use Rattle.link_side.proofs.PartLemmas.{on_err}
use Rattle.zq_session.proofs.UnlinkedLemmas.{on_errs}
use Rattle.zq_session.proofs.NextLemmas.{if_ok_on}
use Rattle.zq_session.proofs.PartsLemmas.{turns_dialled, cuts_dialled, turns_both, cuts_writing, cuts_reading}
use Rattle.zq_session.proofs.session.Session.turn.Goals as goal

pub returns-then-is_none-clause-did : goal.returns-then-is_none-clause-did
returns-then-is_none-clause-did g c =
    if_ok_on c.dial.result _ _ (λ turned f. turns_dialled g.P.Pipes.known _ _ _ _ _ turned c.args.now c.args.self.now c.dial.new.self _ _ _ _ (sym c.requires.linked ∙ c.if-is_none.ensures) f) c.dial.ensures.did

pub returns-then-is_none-clause-cut : goal.returns-then-is_none-clause-cut
returns-then-is_none-clause-cut g c =
    on_errs c.dial.result _ _ (λ f. cuts_dialled g.P.Pipes.known _ _ _ _ _ c.args.now c.args.self.now c.dial.new.self _ _ _ _ (sym c.requires.linked ∙ c.if-is_none.ensures) f) c.dial.ensures.cut

pub returns-clause-did : goal.returns-clause-did
returns-clause-did g c =
    turns_both g.P.Pipes.known _ _ _ _ _ c.one_of.result c.in_ok-wrote.wrote c.in_ok-read.read c.args.now c.args.self.now c.write_part.new.self c.read_part.new.self _ _ _ _ _ _ c.one_of.ensures (sym c.requires.linked ∙ c.if-is_none.ensures) c.if-is_none.ensures c.write_part.ensures.linked c.read_part.ensures.none
    c.in_ok-wrote.ensures.did c.in_ok-read.ensures.did

pub returns-in_err-wrote-clause-cut : goal.returns-in_err-wrote-clause-cut
returns-in_err-wrote-clause-cut g c = on_err _ _ (cuts_writing g.P.Pipes.known _ _ _ _ _ c.args.now c.args.self.now c.write_part.new.self _ _ _ _ (sym c.requires.linked ∙ c.if-is_none.ensures) c.in_err-wrote.ensures.cut)

pub returns-in_err-read-clause-cut : goal.returns-in_err-read-clause-cut
returns-in_err-read-clause-cut g c =
    on_err _ _ (cuts_reading g.P.Pipes.known _ _ _ _ _ c.in_ok-wrote.wrote c.args.now c.args.self.now c.write_part.new.self c.read_part.new.self _ _ _ _ _ _ (sym c.requires.linked ∙ c.if-is_none.ensures) c.if-is_none.ensures c.write_part.ensures.linked c.read_part.ensures.none c.in_ok-wrote.ensures.ease
    c.in_ok-wrote.ensures.did c.in_err-read.ensures.cut)
