use Rattle.std.proofs.Common.{inl, inr}
use Rattle.link_side.specs.WireView.{kept}
use Rattle.link_side.proofs.SayLemmas.{looked_alone, looked_with}
use Rattle.link_side.proofs.wire.Wire.look_part.Goals as goal

pub returns-then-is_over-clause-looks : goal.returns-then-is_over-clause-looks
returns-then-is_over-clause-looks g c =
    let f = c.write_due-put.ensures.run in
    looked_alone g.P.Pipes.known (kept c.args.self.now) (kept c.write_due-put.new.self) c.write_due-put.result f.0 _ _ _ _ f.2 f.3 f.1 c.write_due-put.ensures.due (inl (c.is_over.ensures.yes c.if-is_over.true))

pub returns-then-not-may_take-clause-looks : goal.returns-then-not-may_take-clause-looks
returns-then-not-may_take-clause-looks g c =
    let f = c.write_due-put.ensures.run in
    looked_alone g.P.Pipes.known (kept c.args.self.now) (kept c.write_due-put.new.self) c.write_due-put.result f.0 _ _ _ _ f.2 f.3 f.1 c.write_due-put.ensures.due (inr (c.may_take.ensures.wait c.if-not-may_take.true))

pub returns-clause-looks : goal.returns-clause-looks
returns-clause-looks g c =
    let f = c.write_due-put.ensures.run in
    let t = c.take-found.ensures in
    looked_with g.P.Pipes.known (kept c.args.self.now) (kept c.write_due-put.new.self) c.write_due-put.result f.0 _ _ _ _ _ _ c.take-found.result f.2 f.3 f.1
    (record { takes = t.take; exact = t.exact; keeps = t.keeps }) c.write_due-put.ensures.due (c.is_over.ensures.no c.if-is_over.false) (c.may_take.ensures.due c.if-not-may_take.false)

pub returns-then-is_over-clause-sound : goal.returns-then-is_over-clause-sound
returns-then-is_over-clause-sound g c = c.write_due-put.ensures.sound

pub returns-then-is_over-clause-rest : goal.returns-then-is_over-clause-rest
returns-then-is_over-clause-rest g c = c.write_due-put.ensures.rest

pub returns-then-is_over-clause-others : goal.returns-then-is_over-clause-others
returns-then-is_over-clause-others g c = c.write_due-put.ensures.others

pub returns-then-is_over-clause-counts : goal.returns-then-is_over-clause-counts
returns-then-is_over-clause-counts g c = c.write_due-put.ensures.counts

pub returns-then-not-may_take-clause-sound : goal.returns-then-not-may_take-clause-sound
returns-then-not-may_take-clause-sound g c = c.write_due-put.ensures.sound

pub returns-then-not-may_take-clause-rest : goal.returns-then-not-may_take-clause-rest
returns-then-not-may_take-clause-rest g c = c.write_due-put.ensures.rest

pub returns-then-not-may_take-clause-others : goal.returns-then-not-may_take-clause-others
returns-then-not-may_take-clause-others g c = c.write_due-put.ensures.others

pub returns-then-not-may_take-clause-counts : goal.returns-then-not-may_take-clause-counts
returns-then-not-may_take-clause-counts g c = c.write_due-put.ensures.counts

pub returns-clause-sound : goal.returns-clause-sound
returns-clause-sound g c = c.write_due-put.ensures.sound

pub returns-clause-rest : goal.returns-clause-rest
returns-clause-rest g c = c.write_due-put.ensures.rest

pub returns-clause-others : goal.returns-clause-others
returns-clause-others g c = c.write_due-put.ensures.others

pub returns-clause-counts : goal.returns-clause-counts
returns-clause-counts g c = c.write_due-put.ensures.counts

pub returns-clause-idle : goal.returns-clause-idle
returns-clause-idle g c = λ m e. c.may_take.ensures.yes c.if-not-may_take.false
