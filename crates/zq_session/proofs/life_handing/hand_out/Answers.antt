use Rattle.zq_session.proofs.DueLemmas.{hands_linger, hands_output, hands_delimiter, hands_link, hands_over}
use Rattle.zq_session.proofs.life_handing.hand_out.Goals as goal

pub returns-then-waits-clause-some : goal.returns-then-waits-clause-some
returns-then-waits-clause-some c =
    let w = c.waits.ensures.yes c.if-waits.true in
    hands_linger c.args.life.now c.args.given.now w.0 w.1

pub returns-then-waits-2-clause-some : goal.returns-then-waits-2-clause-some
returns-then-waits-2-clause-some c =
    let w = c.waits-2.ensures.yes c.if-waits-2.true in
    hands_output c.args.life.now c.args.given.now w.0 w.1

pub returns-then-waits-3-clause-some : goal.returns-then-waits-3-clause-some
returns-then-waits-3-clause-some c =
    let w = c.waits-3.ensures.yes c.if-waits-3.true in
    hands_delimiter c.args.life.now c.args.given.now w.0 w.1

pub returns-then-waits-4-clause-some : goal.returns-then-waits-4-clause-some
returns-then-waits-4-clause-some c =
    let w = c.waits-4.ensures.yes c.if-waits-4.true in
    hands_link c.args.life.now c.args.given.now w.0 w.1

pub returns-then-waits-5-clause-some : goal.returns-then-waits-5-clause-some
returns-then-waits-5-clause-some c =
    let w = c.waits-5.ensures.yes c.if-waits-5.true in
    hands_over c.args.life.now c.args.given.now w.0 w.1
