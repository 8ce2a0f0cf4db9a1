use Rattle.zq_session.proofs.CourseLemmas.{asks_by}
use Rattle.zq_session.proofs.course.Course.end_link.Goals as goal

pub returns-clause-asks : goal.returns-clause-asks
returns-clause-asks c = asks_by c.args.self.now.life c.ask_link.new.self c.ask_over.new.self c.ask_link.ensures.does c.ask_over.ensures.does
