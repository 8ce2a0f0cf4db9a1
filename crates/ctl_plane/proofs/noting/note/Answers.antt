use Rattle.std.proofs.Common.{arith, ap, ◌∙◌}
use Rattle.ctl_state.specs.Listed.{Listed, with_last}
use Rattle.ctl_state.proofs.KeptLemmas.{so_on_err}
use Rattle.ctl_plane.proofs.noting.note.Goals as goal

pub push-requires : goal.push-requires
push-requires g c =
    let more = ap (λ (l : Listed g.row.D.Denot). l.spare) c.in_ok-reserve.ensures.ok in
    record { room = omega (arith, more) }

pub returns-clause-ok : goal.returns-clause-ok
returns-clause-ok g c = c.push.ensures ∙ ap (with_last c.args.did) c.in_ok-reserve.ensures.ok

pub returns-in_err-reserve-clause-err : goal.returns-in_err-reserve-clause-err
returns-in_err-reserve-clause-err g c = so_on_err _ _ c.in_err-reserve.ensures.err
