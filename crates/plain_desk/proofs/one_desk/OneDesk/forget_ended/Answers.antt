use Rattle.std.specs.Prelude.{◌≤◌, ℕ}
use Rattle.std.proofs.Common.{sym, ◌∙◌, subst}
use Rattle.ctl_plane.specs.Past.{control_of}
use Rattle.control_laws.specs.Closed.{unclosed}
use Rattle.plain_desk.proofs.one_desk.OneDesk.forget_ended.Goals as goal

pub invariant_of-self : goal.invariant_of-self
invariant_of-self g c =
    let reaps = c.self.invariant.1 in (
      c.self.invariant.0,
      record {
        same = c.thin.ensures.living ∙ reaps.same;
        sockets = c.thin.ensures.sockets (control_of c.self.inside.history) reaps.sockets;
        closed_sockets = reaps.closed_sockets;
        room = subst (λ (n : ℕ). unclosed (control_of c.self.inside.history) ≤ n) (sym c.thin.ensures.spare) reaps.room;
      },
    )
