use Rattle.std.proofs.Common.{rules, sym, subst, ◌∙◌, refl}
use Rattle.std.proofs.lemmas.Result.{on_ok_weaker}
use Rattle.zq_world.specs.MayAsk.{MayAskLines}
use Rattle.zq_world.specs.Seats.{AllAgree}
use Rattle.zq_world.proofs.ActorStepLemmas.{steps_not, steps_shut, steps_try}
use Rattle.zq_world.proofs.actor.Actor.step.Goals as goal

pub returns-then-not-has_open-clause-ok : goal.returns-then-not-has_open-clause-ok
returns-then-not-has_open-clause-ok g c =
    steps_not g.W.Sockets.as_open c.args.number c.args.self.now (g.W.Sockets.pieces c.args.way.now) c.in_default.ensures.cases (sym c.has_open.ensures ∙ c.if-not-has_open.true)

pub returns-in_default-clause-ok : goal.returns-in_default-clause-ok
returns-in_default-clause-ok g c =
    on_ok_weaker c.shut_first.result (λ h. steps_shut g.W.Sockets.as_open c.args.number c.args.self.now c.shut_first.new.self (g.W.Sockets.pieces c.args.way.now) (g.W.Sockets.pieces c.shut_first.new.way) c.in_default.ensures.cases h) c.shut_first.ensures.ok

pub returns-clause-ok : goal.returns-clause-ok
returns-clause-ok g c =
    on_ok_weaker c.end_try.result
    (λ h. steps_try g.W.Sockets.as_open c.args.number c.args.self.now
    (record { name = c.args.self.now.name; lines = c.args.self.now.lines; tried = c.args.self.now.tried; told = c.ask.new.told; entries = c.args.self.now.entries; seats = c.ask.new.seats })
    c.end_try.new.self c.in-Some.line.now c.in-Some.rest.now c.in_ok-answer.answer (g.W.Sockets.pieces c.args.way.now) (g.W.Sockets.pieces c.ask.new.way)
    (search rules) refl refl refl refl c.in_ok-answer.ensures.ok h c.end_try.ensures.seats)
    c.end_try.ensures.ok

pub ask-requires-clause-agree : goal.ask-requires-clause-agree
ask-requires-clause-agree g c = c.requires.agrees.sockets

pub returns-clause-others : goal.returns-clause-others
returns-clause-others g c = c.ask.ensures.others

pub returns-in_err-answer-clause-agrees : goal.returns-in_err-answer-clause-agrees
returns-in_err-answer-clause-agrees g c = record { sockets = c.ask.ensures.agree; may = c.requires.agrees.may }

pub returns-in_err-answer-clause-others : goal.returns-in_err-answer-clause-others
returns-in_err-answer-clause-others g c = c.ask.ensures.others

pub returns-in_default-clause-agrees : goal.returns-in_default-clause-agrees
returns-in_default-clause-agrees g c = record { sockets = c.shut_first.ensures.agree; may = c.requires.agrees.may }

pub returns-in_default-clause-others : goal.returns-in_default-clause-others
returns-in_default-clause-others g c = c.shut_first.ensures.others

pub ask-requires-clause-may : goal.ask-requires-clause-may
ask-requires-clause-may g c = (subst MayAskLines c.in-Some.ensures.cases.0 c.requires.agrees.may).0

pub end_try-requires-clause-rest : goal.end_try-requires-clause-rest
end_try-requires-clause-rest g c = (subst MayAskLines c.in-Some.ensures.cases.0 c.requires.agrees.may).1

pub end_try-requires-clause-lines : goal.end_try-requires-clause-lines
end_try-requires-clause-lines g c = c.requires.agrees.may

pub shut_first-requires-clause-agree : goal.shut_first-requires-clause-agree
shut_first-requires-clause-agree g c = c.requires.agrees.sockets

pub returns-clause-agrees : goal.returns-clause-agrees
returns-clause-agrees g c = record {
  sockets = subst (AllAgree g.W.Sockets.as_open g.W.Sockets.agrees g.W.Sockets.was_made c.ask.new.way c.args.number) (sym c.end_try.ensures.seats) c.ask.ensures.agree;
  may = c.end_try.ensures.may;
}
