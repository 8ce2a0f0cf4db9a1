use Rattle.ctl_moves.proofs.answering.with_counts.Goals as goal

pub returns : goal.returns
returns g c = assumption
