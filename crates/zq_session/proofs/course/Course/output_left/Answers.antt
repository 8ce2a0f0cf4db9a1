use Rattle.zq_session.specs.Lives.{basis_of, standing_of}
use Rattle.zq_session.proofs.NotingLemmas.{free_by}
use Rattle.zq_session.proofs.HandLemmas.{left_up, left_unlinked, left_written, left_some}
use Rattle.zq_session.proofs.course.Course.output_left.Goals as goal

pub returns-then-up-clause-no : goal.returns-then-up-clause-no
returns-then-up-clause-no c = λ e p keeps left.
    let l = c.args.self.now.life in
    left_up (basis_of l p) (standing_of l p) c.if-up.true left

pub returns-then-lingers_not-clause-no : goal.returns-then-lingers_not-clause-no
returns-then-lingers_not-clause-no c = λ e p keeps left. left.lingers (c.lingers_not.ensures.yes c.if-lingers_not.true)

pub returns-in-None-clause-no : goal.returns-in-None-clause-no
returns-in-None-clause-no c = λ e p keeps left.
    let l = c.args.self.now.life in
    left_unlinked (basis_of l p) (standing_of l p) c.args.self.now.side c.in-None.is keeps.link left

pub returns-in-Some-clause-no : goal.returns-in-Some-clause-no
returns-in-Some-clause-no c = λ e p keeps left.
    let l = c.args.self.now.life in
    left_written (basis_of l p) (standing_of l p) c.args.self.now.side c.in-Some.side c.in-Some.is (free_by c.in-Some.side.behind (c.is_behind.ensures.no c.if-is_behind.false)) (c.has_output.ensures.no e) keeps.link left

pub returns-in-Some-clause-yes : goal.returns-in-Some-clause-yes
returns-in-Some-clause-yes c = λ e ease p keeps.
    let l = c.args.self.now.life in
    left_some (basis_of l p) (standing_of l p) c.args.self.now.side c.in-Some.side c.in-Some.is (free_by c.in-Some.side.behind (c.is_behind.ensures.no c.if-is_behind.false)) (c.has_output.ensures.yes e) c.if-up.false (c.lingers_not.ensures.no c.if-lingers_not.false) keeps.link
