-- In a journal of a run, the counts of each settled pipe's row add up.
use Rattle.std.specs.Prelude.{◌≡◌, ◌≤◌, ◌+◌, ℕ, true, false, List, [], ◌∷◌, Option, Some, None, All, drop, refl}
use Rattle.std.proofs.Common.{sym, subst}
use Rattle.std.proofs.lemmas.List.Elements.{All-nil, All-cons, All-contains}
use Rattle.zq_base.specs.Ends.{PipeId}
use Rattle.spec_control.specs.Rows.{PairRow}
use Rattle.spec_control.specs.Control.{Control, Settlement, end_of}
use Rattle.spec_run.specs.declared.journal.SettledRow.{SettledRow}
use Rattle.spec_run.specs.declared.journal.Journal.{Journal}
use Rattle.spec_run.specs.OwnedRun.{OwnedRun, AllSettledSo, settlement_of, control_at_end}
use Rattle.spec_run.specs.Fate.{HaveOneFate, AddsUp, most_unfated, settled_row}
use Rattle.spec_run.specs.RunLaws.{RowsOfRunsAddUp}
use Rattle.spec_run.specs.Journal.{row_if, row_shown, rows_shown, run_journal}
use Rattle.spec_run.proofs.FateLemmas.{one_fate}

abbrev RowAdds : Control → SettledRow → Type 0
RowAdds c row = (unfated : ℕ) × (unfated ≤ most_unfated c row.counts.pipe) × AddsUp row unfated

-- where there is one
abbrev RowIfAdds : Control → Option SettledRow → Type 0
RowIfAdds c None = Unit {0}
RowIfAdds c (Some row) = RowAdds c row

row_adds : {N S : Type 0} (c : Control) (run : OwnedRun N S) → AllSettledSo run c.settlements → (p : PipeId) → RowIfAdds c (row_shown c run p)
row_adds c run all p = by (settlement_of c p) refl
  where
    by : (o : Option Settlement) → settlement_of c p ≡ o → RowIfAdds c (row_if o (settled_row c run p))
    by None e = tt
    by (Some s) e = let fates : HaveOneFate c run p = one_fate c run all p s e in (fates.unfated, fates.few, fates.sum)

rows_add : {N S : Type 0} (c : Control) (run : OwnedRun N S) → AllSettledSo run c.settlements → (n : ℕ) (pairs : List PairRow) → All (RowIfAdds c) (rows_shown c run n pairs)
rows_add c run all n [] = All-nil (RowIfAdds c)
rows_add c run all n (pair ∷ pairs) =
    All-cons (RowIfAdds c) (row_shown c run (end_of n true)) (row_shown c run (end_of n false) ∷ rows_shown c run (n + 1) pairs) (row_adds c run all (end_of n true))
    (All-cons (RowIfAdds c) (row_shown c run (end_of n false)) (rows_shown c run (n + 1) pairs) (row_adds c run all (end_of n false)) (rows_add c run all (n + 1) pairs))

pub rows_add_up : {N S : Type 0} → RowsOfRunsAddUp N S
rows_add_up script schedule j is row held =
    let c = control_at_end 1 is.run in
    let rows : All (RowIfAdds (control_at_end 1 is.run)) (run_journal script 1 is.run).pipes = rows_add c is.run is.is_run.ended 1 (drop 1 c.rows.pairs) in
    All-contains (RowIfAdds c) j.pipes (Some row) (subst (λ (k : Journal). All (RowIfAdds (control_at_end 1 is.run)) k.pipes) (sym is.journal_is) rows) held
