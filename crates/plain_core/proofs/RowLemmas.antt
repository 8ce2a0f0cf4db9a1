-- The row of a settled pipe is that of its counts and its reason.
use Rattle.std.specs.Prelude.{◌≡◌, ℕ, Bool, true, false, Option, refl}
use Rattle.std.proofs.Common.{◌∙◌, ap, subst, sym}
use Rattle.zq_base.specs.Ends.{PipeId}
use Rattle.spec_control.specs.declared.end.Reason.{Reason}
use Rattle.spec_control.specs.Control.{Settlement}
use Rattle.spec_run.specs.declared.journal.PipeRow.{PipeRow}
use Rattle.spec_run.specs.declared.journal.SettledRow.{SettledRow}
use Rattle.core_laws.specs.Drops.{row_dropped}

reason_of : (hears : Bool) (p : PipeId) (drops : ℕ) (s : Settlement) → (row_dropped hears p drops s).reason ≡ s.reason
reason_of true p drops s = refl
reason_of false p drops s = refl

abbrev row_with : PipeRow → Option Reason → SettledRow
row_with counts reason = record { counts = counts; reason = reason }

same_row : (row : SettledRow) (counts : PipeRow) (reason : Option Reason) → counts ≡ row.counts → reason ≡ row.reason
    → ◌≡◌ {A = SettledRow} (record { counts = counts; reason = reason }) row
same_row row counts reason e f =
    ap (λ (x : PipeRow). row_with x reason) e ∙ ap (λ (x : Option Reason). row_with row.counts x) f

pub row_is : (b hears : Bool) (p : PipeId) (drops : ℕ) (s : Settlement) (counts : PipeRow) (reason : Option Reason) → b ≡ hears → counts ≡ (row_dropped b p drops s).counts → s.reason ≡ reason
    → ◌≡◌ {A = SettledRow} (record { counts = counts; reason = reason }) (row_dropped hears p drops s)
row_is b hears p drops s counts reason e is because =
    subst (λ (x : Bool). ◌≡◌ {A = SettledRow} (record { counts = counts; reason = reason }) (row_dropped x p drops s)) e
    (same_row (row_dropped b p drops s) counts reason is (sym because ∙ sym (reason_of b p drops s)))
