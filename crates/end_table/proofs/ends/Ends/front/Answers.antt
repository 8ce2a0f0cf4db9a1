use Rattle.std.proofs.Common.{refl, inr}
use Rattle.end_table.proofs.EndLemmas.{row_here, front_done}
use Rattle.end_table.proofs.ends.Ends.front.Goals as goal

pub front-requires : goal.front-requires
front-requires g c =
    let s = c.args.self.now in
    let r = c.deref_mut.result.now in
    let here = row_here s.rows.now.items c.args.place c.index_mut.result.now c.in-Some.row r c.index_mut.ensures.value c.in-Some.is c.deref_mut.ensures.value c.requires.there in
    record { here = (c.requires.held.each c.args.place r here).input }

pub returns-in-Some-clause-runs : goal.returns-in-Some-clause-runs
returns-in-Some-clause-runs g c =
    let s = c.args.self.now in
    let r = c.deref_mut.result.now in
    let here = row_here s.rows.now.items c.args.place c.index_mut.result.now c.in-Some.row r c.index_mut.ensures.value c.in-Some.is c.deref_mut.ensures.value c.requires.there in
    (_, inr (front_done g.P.Pipes.known s.pipes.now c.front.new.self s.rows.now.items c.args.place c.in-Some.row r c.front.new.i c.front.result here c.front.ensures.front c.front.ensures.exact c.front.ensures.keeps), refl)
