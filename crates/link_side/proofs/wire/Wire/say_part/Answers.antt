use Rattle.std.proofs.Common.{inl, inr, refl}
use Rattle.spec_link.specs.LinkAct.{Wire as OnWire, Repeats}
use Rattle.link_side.specs.WireView.{kept}
use Rattle.link_side.proofs.SayLemmas.{says_alone, says_one}
use Rattle.link_side.proofs.wire.Wire.say_part.Goals as goal

pub returns-then-is_over-clause-says : goal.returns-then-is_over-clause-says
returns-then-is_over-clause-says g c =
    let f = c.write_due-put.ensures.run in
    says_alone (kept c.args.self.now) (kept c.write_due-put.new.self) c.write_due-put.result f.0 _ _ c.args.topics.now f.2 f.3 f.1 c.write_due-put.ensures.due (inl (c.is_over.ensures.yes c.if-is_over.true))

pub returns-then-not-may_take-clause-says : goal.returns-then-not-may_take-clause-says
returns-then-not-may_take-clause-says g c =
    let f = c.write_due-put.ensures.run in
    says_alone (kept c.args.self.now) (kept c.write_due-put.new.self) c.write_due-put.result f.0 _ _ c.args.topics.now f.2 f.3 f.1 c.write_due-put.ensures.due (inr (c.may_take.ensures.wait c.if-not-may_take.true))

pub returns-in-Some-clause-says : goal.returns-in-Some-clause-says
returns-in-Some-clause-says g c =
    let f = c.write_due-put.ensures.run in
    says_one (kept c.args.self.now) (kept c.write_due-put.new.self) (kept c.say.new.self) c.write_due-put.result f.0 _ _ c.args.topics.now c.next.new.self c.in-Some.message f.2 f.3 f.1
    (c.say.ensures.run (OnWire (Repeats c.in-Some.message)) (record { said = refl; heard = refl; offered = refl; put = refl })) c.write_due-put.ensures.due (c.is_over.ensures.no c.if-is_over.false) (c.may_take.ensures.due c.if-not-may_take.false) c.in-Some.ensures

pub unreachable-requires : goal.unreachable-requires
unreachable-requires g c =
    let left = c.requires.left in
    absurd (c.in-None.ensures.1 left.0 left.1 left.2)

pub returns-in-Some-clause-sound : goal.returns-in-Some-clause-sound
returns-in-Some-clause-sound g c = c.say.ensures.sound

pub returns-in-Some-clause-rest : goal.returns-in-Some-clause-rest
returns-in-Some-clause-rest g c = c.say.ensures.rest c.write_due-put.ensures.rest

pub returns-in-Some-clause-others : goal.returns-in-Some-clause-others
returns-in-Some-clause-others g c = c.write_due-put.ensures.others

pub returns-in-Some-clause-counts : goal.returns-in-Some-clause-counts
returns-in-Some-clause-counts g c = c.write_due-put.ensures.counts
