-- Each settled pipe of a run whose settlements count their pipes has a fate for each message.
use Rattle.std.specs.Prelude.{◌≡◌, Option, Some, None, IsSome, refl}
use Rattle.zq_base.specs.Ends.{PipeId}
use Rattle.spec_control.specs.Control.{Control, Settlement}
use Rattle.spec_run.specs.OwnedRun.{OwnedRun, AllSettledSo, settlement_of}
use Rattle.spec_run.specs.Fate.{HaveOneFate}
use Rattle.spec_run.specs.Journal.{WasSettled}
use Rattle.spec_run.proofs.FateLemmas.{one_fate}
use Rattle.spec_run.proofs.PlainLemmas.{never}

pub all_fates : {N S : Type 0} (c : Control) (run : OwnedRun N S) → AllSettledSo run c.settlements → (p : PipeId) → WasSettled c p → HaveOneFate c run p
all_fates c run all p settled = by (settlement_of c p) refl settled
  where
    by : (o : Option Settlement) → settlement_of c p ≡ o → IsSome o → HaveOneFate c run p
    by None e h = absurd (never h)
    by (Some s) e h = one_fate c run all p s e
