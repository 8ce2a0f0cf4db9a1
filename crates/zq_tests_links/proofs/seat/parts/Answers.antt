use Rattle.spec_control.specs.declared.end.EndState.TheVariants.{Gone}
use Rattle.spec_link.specs.History.{EndIs}
use Rattle.zq_tests_links.proofs.SeatLemmas.{lived_on, gone_unread, gone_unwritten, parted}
use Rattle.zq_tests_links.proofs.seat.parts.Goals as goal

pub returns-clause-lived : goal.returns-clause-lived
returns-clause-lived g c =
    lived_on c.settle-settled.new.self c.set_state-2.new.self (EndIs Gone) c.set_state-2.ensures.happens
    (parted c.output_left-left.result c.args.session.now c.told.new.self c.set_state.new.self c.tried.new.self c.yield_writer.new.self c.settle-settled.new.self c.told.ensures.happens c.set_state.ensures.happens c.tried.ensures.happens c.yield_writer.ensures.keeps c.settle-settled.ensures.keeps c.requires.lived)

pub returns-clause-unread : goal.returns-clause-unread
returns-clause-unread g c =
    gone_unread c.settle-settled.new.self c.set_state-2.new.self c.set_state-2.ensures.happens
    (parted c.output_left-left.result c.args.session.now c.told.new.self c.set_state.new.self c.tried.new.self c.yield_writer.new.self c.settle-settled.new.self c.told.ensures.happens c.set_state.ensures.happens c.tried.ensures.happens c.yield_writer.ensures.keeps c.settle-settled.ensures.keeps c.requires.lived)

pub returns-clause-unwritten : goal.returns-clause-unwritten
returns-clause-unwritten g c =
    gone_unwritten c.settle-settled.new.self c.set_state-2.new.self c.set_state-2.ensures.happens
    (parted c.output_left-left.result c.args.session.now c.told.new.self c.set_state.new.self c.tried.new.self c.yield_writer.new.self c.settle-settled.new.self c.told.ensures.happens c.set_state.ensures.happens c.tried.ensures.happens c.yield_writer.ensures.keeps c.settle-settled.ensures.keeps c.requires.lived)
