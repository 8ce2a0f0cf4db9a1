use Rattle.std.proofs.Common.{ap, refl, sym, ◌∙◌, inl}
use Rattle.std.specs.Box.{with_value}
use Rattle.end_table.specs.Rows.{row_at, end_of, can_write_of}
use Rattle.end_table.proofs.RowLemmas.{view_kept}
use Rattle.end_table.proofs.HeldLemmas.{out_holds, row_stays}
use Rattle.end_table.proofs.EndLemmas.{row_here, room_done, room_unsealing}
use Rattle.end_table.proofs.ends.EndsPeers.room.Goals as goal

pub room-requires-clause-open : goal.room-requires-clause-open
room-requires-clause-open g c =
    let s = c.args.self.now in
    let r = c.deref_mut.result.now in
    let here = row_here s.rows.now.items c.args.place c.index_mut.result.now c.in-Some.row r c.index_mut.ensures.value c.in-Some.is c.deref_mut.ensures.value c.requires.there.1 in
    (c.requires.there.0.each c.args.place r here).unsealed (sym (ap can_write_of here) ∙ c.requires.«open»)

pub returns-in-Some-clause-runs : goal.returns-in-Some-clause-runs
returns-in-Some-clause-runs g c =
    let s = c.args.self.now in
    let r = c.deref_mut.result.now in
    let here = row_here s.rows.now.items c.args.place c.index_mut.result.now c.in-Some.row r c.index_mut.ensures.value c.in-Some.is c.deref_mut.ensures.value c.requires.there.1 in
    let done = room_done g.P.Pipes.known s.pipes.now c.room.new.self s.rows.now.items c.args.place c.in-Some.row r c.room.new.o c.room.result here ((c.requires.there.0.each c.args.place r here).unsealed (sym (ap can_write_of here) ∙ c.requires.«open»)) c.room.ensures.room c.room.ensures.exact c.room.ensures.keeps in
    ((_, inl done, refl), refl, refl, room_unsealing (end_of (row_at s.rows.now.items c.args.place)) c.room.result)

pub returns-in-Some-clause-keeps : goal.returns-in-Some-clause-keeps
returns-in-Some-clause-keeps g c =
    let s = c.args.self.now in
    let r = c.deref_mut.result.now in
    let here = row_here s.rows.now.items c.args.place c.index_mut.result.now c.in-Some.row r c.index_mut.ensures.value c.in-Some.is c.deref_mut.ensures.value c.requires.there.1 in
    let done = room_done g.P.Pipes.known s.pipes.now c.room.new.self s.rows.now.items c.args.place c.in-Some.row r c.room.new.o c.room.result here ((c.requires.there.0.each c.args.place r here).unsealed (sym (ap can_write_of here) ∙ c.requires.«open»)) c.room.ensures.room c.room.ensures.exact c.room.ensures.keeps in
    let back = with_value c.in-Some.row (record r { out = c.room.new.o }) in
    record {
      stay = λ k h. (out_holds g.P.Pipes.known _ _ _ done h.0, row_stays g.P.Pipes.known _ _ _ (inl done) k h.1.0 h.1.1);
      ends = λ i k. view_kept end_of s.rows.now.items c.args.place k r back here refl i;
      states = λ i k. view_kept can_write_of s.rows.now.items c.args.place k r back here refl i;
    }
