use Rattle.std.proofs.Common.{refl, inr}
use Rattle.std.specs.Box.{with_value}
use Rattle.spec_pattern.specs.PipeStep.{read_through}
use Rattle.end_table.specs.Rows.{row_at, end_of, can_write_of}
use Rattle.end_table.proofs.RowLemmas.{view_kept}
use Rattle.end_table.proofs.HeldLemmas.{in_holds, row_stays}
use Rattle.end_table.proofs.EndLemmas.{row_here, take_done, take_unsealing}
use Rattle.end_table.proofs.ends.EndsPeers.take.Goals as goal

pub take-requires : goal.take-requires
take-requires g c =
    let s = c.args.self.now in
    let r = c.deref_mut.result.now in
    let here = row_here s.rows.now.items c.args.place c.index_mut.result.now c.in-Some.row r c.index_mut.ensures.value c.in-Some.is c.deref_mut.ensures.value c.requires.there.1 in
    record { here = (c.requires.there.0.each c.args.place r here).input }

pub returns-in-Some-clause-runs : goal.returns-in-Some-clause-runs
returns-in-Some-clause-runs g c =
    let s = c.args.self.now in
    let r = c.deref_mut.result.now in
    let here = row_here s.rows.now.items c.args.place c.index_mut.result.now c.in-Some.row r c.index_mut.ensures.value c.in-Some.is c.deref_mut.ensures.value c.requires.there.1 in
    let done = take_done g.P.Pipes.known s.pipes.now c.take.new.self s.rows.now.items c.args.place c.in-Some.row r c.take.new.i c.take.result here c.take.ensures.take c.take.ensures.exact c.take.ensures.keeps in
    ((_, inr done, refl), refl, refl, take_unsealing (read_through (end_of (row_at s.rows.now.items c.args.place))) c.take.result)

pub returns-in-Some-clause-keeps : goal.returns-in-Some-clause-keeps
returns-in-Some-clause-keeps g c =
    let s = c.args.self.now in
    let r = c.deref_mut.result.now in
    let here = row_here s.rows.now.items c.args.place c.index_mut.result.now c.in-Some.row r c.index_mut.ensures.value c.in-Some.is c.deref_mut.ensures.value c.requires.there.1 in
    let done = take_done g.P.Pipes.known s.pipes.now c.take.new.self s.rows.now.items c.args.place c.in-Some.row r c.take.new.i c.take.result here c.take.ensures.take c.take.ensures.exact c.take.ensures.keeps in
    let back = with_value c.in-Some.row (record r { input = c.take.new.i }) in
    record {
      stay = λ k h. (in_holds g.P.Pipes.known _ _ _ done h.0, row_stays g.P.Pipes.known _ _ _ (inr done) k h.1.0 h.1.1);
      ends = λ i k. view_kept end_of s.rows.now.items c.args.place k r back here refl i;
      states = λ i k. view_kept can_write_of s.rows.now.items c.args.place k r back here refl i;
    }
