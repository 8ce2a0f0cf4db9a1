use Rattle.std.proofs.Common.{◌∙◌, ℕ, Bool, None, ap, sym, slice_index_or}
use Rattle.zq_base.specs.declared.ids.EndId.{EndId}
use Rattle.spec_run.specs.Fate.{is_heard_at}
use Rattle.ctl_plane.specs.Past.{control_of}
use Rattle.core_laws.specs.Drops.{row_dropped}
use Rattle.core_laws.specs.Table.{place_in}
use Rattle.plain_core.proofs.PipeLemmas.{row_some}
use Rattle.plain_core.proofs.pipes.row_of.Goals as goal

pub returns-in-Some : goal.returns-in-Some
returns-in-Some g c =
    row_some (control_of c.args.desk.now.past) c.args.drops.now c.args.pipe c.in-Some.counts c.row_shown.result c.requires.reasons
    (sym c.in-Some.is ∙ c.counts_of.ensures ∙ ap (λ (e : EndId). slice_index_or c.args.table.now (place_in e) None) c.other-reader.ensures ∙ c.requires.table c.args.pipe c.requires.numbered)
    (λ s e f. c.row_shown.ensures s e (f ∙ sym (c.reason.ensures ∙ ap (control_of c.args.desk.now.past).reasons c.other-reader.ensures))
    ∙ ap (λ (b : Bool). row_dropped b c.args.pipe c.drops_of-dropped.result s) c.is_heard-hears.ensures
    ∙ ap (λ (n : ℕ). row_dropped (is_heard_at (control_of c.args.desk.now.past) c.args.pipe) c.args.pipe n s) c.drops_of-dropped.ensures)
