use Rattle.std.proofs.Common.{arith, sym, ◌∙◌}
use Rattle.ctl_plane.specs.Past.{control_of}
use Rattle.control_laws.specs.Closed.{waits}
use Rattle.control_laws.proofs.ReapLemmas.{find_at, find_past}
use Rattle.plain_desk.proofs.queue.first_of.Goals as goal

pub returns-then-is_waiting-clause-first : goal.returns-then-is_waiting-clause-first
returns-then-is_waiting-clause-first g c =
    sym (find_at (waits (control_of c.args.history.now)) c.args.closed.now c.each.place (record { 0 = 0 }) (let below = c.each-test.true in omega (arith, below)) c.each.invariant (sym c.is_waiting.ensures ∙ c.if-is_waiting.true))

pub each-preserved : goal.each-preserved
each-preserved g c =
    find_past (waits (control_of c.args.history.now)) c.args.closed.now c.each.place (record { 0 = 0 }) (let below = c.each-test.true in omega (arith, below)) c.each.invariant (sym c.is_waiting.ensures ∙ c.if-is_waiting.false)
