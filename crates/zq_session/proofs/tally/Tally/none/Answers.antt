use Rattle.std.proofs.Common.{refl}
use Rattle.zq_session.proofs.SumLemmas.{none_counts}
use Rattle.zq_session.proofs.tally.Tally.none.Goals as goal

pub returns : goal.returns
returns c = record { links_is = none_counts; heard_is = none_counts; put_is = none_counts; written_is = none_counts; lost_is = none_counts; last_is = refl; taken_is = (refl, refl) }
