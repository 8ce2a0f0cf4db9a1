use Rattle.std.proofs.Common.{◌<◌, sym, ap, ◌∙◌, subst, arith, List, ◌++◌, ◌∷◌, [], ◌+◌, length}
use Rattle.spec_control.specs.declared.entry.Joining.{Joining}
use Rattle.desk.specs.declared.given.Given.{Given}
use Rattle.end_table.specs.declared.table.Place.{Place}
use Rattle.end_table.proofs.PlaceLemmas.{place_found}
use Rattle.end_table.proofs.EndsLemmas.{some_place}
use Rattle.end_table.proofs.GivingLemmas.{Giving, gives_not, gives_one, all_given}
use Rattle.end_table.proofs.OthersLemmas.{leaves_on}
use Rattle.end_table.proofs.giving.give_ends.Goals as goal

pub each-preserved-then-not-index : goal.each-preserved-then-not-index
each-preserved-then-not-index g c =
    let lt : c.each.place < length c.each.table.places.items = (let t = c.each-test.true in let n = c.len-many.ensures in let k = c.each.invariant.so_far.count in omega (arith, t, n, k)) in
    let p = some_place c.each.table.places.items c.each.place lt in
    record {
      so_far = gives_not g.P.Pipes.known c.args.pipes.now c.args.table.now.places.items c.each.place c.each.table.rows.items c.each.table.places.items c.each.given.items c.each.joined.items p.0
          c.each.invariant.so_far p.1 (sym (ap (λ (x : Place _ _). x.held) (place_found c.each.table.places.items c.each.place p.0 c.index.result.now p.1 c.index.ensures)) ∙ c.if-not-index.true);
      given = c.each.invariant.given;
      joined = c.each.invariant.joined;
      settled = c.each.invariant.settled;
      others = c.each.invariant.others;
    }

pub give_end-end-requires-clause-there : goal.give_end-end-requires-clause-there
give_end-end-requires-clause-there g c =
    let lt : c.each.place < length c.each.table.places.items = (let t = c.each-test.true in let n = c.len-many.ensures in let k = c.each.invariant.so_far.count in omega (arith, t, n, k)) in
    let p = some_place c.each.table.places.items c.each.place lt in
    record {
      place = p.0;
      there = p.1;
      held = sym (ap (λ (x : Place _ _). x.held) (place_found c.each.table.places.items c.each.place p.0 c.index.result.now p.1 c.index.ensures)) ∙ c.if-not-index.false;
    }

pub each-preserved : goal.each-preserved
each-preserved g c =
    let lt : c.each.place < length c.each.table.places.items = (let t = c.each-test.true in let n = c.len-many.ensures in let k = c.each.invariant.so_far.count in omega (arith, t, n, k)) in
    let p = some_place c.each.table.places.items c.each.place lt in
    let K = g.P.Pipes.known in
    let joined = c.push_reserved.ensures.items ∙ ap (λ (x : Joining _). c.each.joined.items ++ x ∷ []) c.noted.ensures in
    record {
      so_far =
          subst (λ (l : List (Given _ _ _)). Giving K c.args.pipes.now c.args.table.now.places.items (c.each.place + 1) c.give_end-end.new.table.rows.items c.give_end-end.new.table.places.items l c.push_reserved.new.self.items) (sym c.push_reserved-in-each.ensures.items)
          (subst (λ (l : List (Joining _)). Giving K c.args.pipes.now c.args.table.now.places.items (c.each.place + 1) c.give_end-end.new.table.rows.items c.give_end-end.new.table.places.items (c.each.given.items ++ c.give_end-end.result ∷ []) l) (sym joined)
          (gives_one K c.args.pipes.now c.args.table.now.places.items c.each.place c.each.table.rows.items c.give_end-end.new.table.rows.items c.each.table.places.items c.give_end-end.new.table.places.items c.each.given.items c.each.joined.items c.give_end-end.result p.0
          c.each.invariant.so_far p.1 (sym (ap (λ (x : Place _ _). x.held) (place_found c.each.table.places.items c.each.place p.0 c.index.result.now p.1 c.index.ensures)) ∙ c.if-not-index.false) c.give_end-end.ensures.sound c.give_end-end.ensures.given));
      given = c.push_reserved-in-each.ensures.capacity ∙ c.each.invariant.given;
      joined = c.push_reserved.ensures.capacity ∙ c.each.invariant.joined;
      settled = c.give_end-end.ensures.settled ∙ c.each.invariant.settled;
      others = leaves_on K c.args.pipes.now c.args.pipes.now c.args.pipes.now c.args.table.now c.each.table c.give_end-end.new.table c.each.invariant.others c.give_end-end.ensures.others;
    }

pub returns-clause-gone : goal.returns-clause-gone
returns-clause-gone g c =
    (all_given g.P.Pipes.known c.args.pipes.now c.args.table.now.places.items c.each.place c.each.table.rows.items c.each.table.places.items c.each.given.items c.each.joined.items
    c.each.invariant.so_far (let t = c.each-test.false in let n = c.len-many.ensures in omega (arith, t, n))).0

pub returns-clause-given : goal.returns-clause-given
returns-clause-given g c =
    (all_given g.P.Pipes.known c.args.pipes.now c.args.table.now.places.items c.each.place c.each.table.rows.items c.each.table.places.items c.each.given.items c.each.joined.items
    c.each.invariant.so_far (let t = c.each-test.false in let n = c.len-many.ensures in omega (arith, t, n))).1

pub returns-clause-others : goal.returns-clause-others
returns-clause-others g c = c.each.invariant.others

pub returns-clause-settled : goal.returns-clause-settled
returns-clause-settled g c = c.each.invariant.settled

pub index-requires : goal.index-requires
index-requires g c = let t = c.each-test.true in let n = c.len-many.ensures in let k = c.each.invariant.so_far.count in omega (arith, t, n, k)
