use Rattle.std.specs.Prelude.{◌≡◌, List, length, ◌+◌, ◌<◌, ◌^◌}
use Rattle.std.proofs.Common.{rules, ap, sym, subst, ◌∙◌, arith}
use Rattle.std.specs.declared.vec.Vec.{Vec}
use Rattle.std.specs.declared.alloc.Global.{Global}
use Rattle.zq_base.specs.declared.ids.ObjId.{ObjId}
use Rattle.spec_control.specs.OwnershipTree.{Makes}
use Rattle.own_tree.specs.declared.row.Row.{Row}
use Rattle.own_tree.specs.declared.tally.Tally.{Tally}
use Rattle.own_tree.specs.Rows.{tree_of, lives, is_unnoted, row_at}
use Rattle.own_tree.specs.Changes.{with_made}
use Rattle.own_tree.specs.Tallies.{lists_of, with_counted, with_listed, tally_at}
use Rattle.own_tree.proofs.MakeLemmas.{made_in}
use Rattle.own_tree.proofs.RowLemmas.{makes_from, has_row}
use Rattle.std.proofs.lemmas.List.{length-map}
use Rattle.own_tree.proofs.ListLemmas.{holds_on_err}
use Rattle.own_tree.proofs.SumLemmas.{where_few, live_few}
use Rattle.own_tree.proofs.KeptLemmas.{tallied_alike}
use Rattle.own_tree.proofs.tree.OwnTree.make.Goals as goal

pub invariant_of-self-2 : goal.invariant_of-self-2
invariant_of-self-2 c =
    let rows_grew = c.make_room.ensures.rows in
    let number : c.len.result ≡ length c.self.inside.rows.items = search (rules, c.len.ensures, ap (λ (l : List Row). length l) rows_grew) in
    made_in _ _ _ _ _ _ _ _ c.args.owner (record { 0 = c.len.result }) c.args.kind c.args.slot c.args.plug c.self.view_is c.self.invariant c.requires.unended c.requires.fits c.requires.room number
    (c.push_made.ensures ∙ ap (λ (l : List Row). with_made c.args.owner c.args.kind c.args.slot c.args.plug l) rows_grew)
    (c.count_made.ensures ∙ ap (λ (l : List Tally). with_counted c.args.owner c.args.kind l) c.make_room.ensures.tallies)
    (c.in_ok-list_made.ensures.ok ∙ ap (λ (l : List (Vec ObjId Global)). with_listed c.args.owner (record { 0 = c.len.result }) (lists_of l)) c.make_room.ensures.lists)

pub returns-clause-moves : goal.returns-clause-moves
returns-clause-moves c =
    subst (λ (l : List Row). Makes c.args.owner (tree_of c.args.self.now) (tree_of l)) (sym c.push_made.ensures)
    (makes_from _ _ c.args.owner c.args.kind c.args.slot c.args.plug (c.make_room.ensures.rows ∙ c.self.view_is) c.requires.unended)

pub returns-clause-ok : goal.returns-clause-ok
returns-clause-ok c = c.push_made.ensures ∙ ap (λ (l : List Row). with_made c.args.owner c.args.kind c.args.slot c.args.plug l) (c.make_room.ensures.rows ∙ c.self.view_is)

pub invariant_of-self : goal.invariant_of-self
invariant_of-self c =
    tallied_alike _ _ _ _ _ _ _ c.make_room.ensures.rows c.make_room.ensures.tallies (ap (λ (l : List (Vec ObjId Global)). lists_of l) c.make_room.ensures.lists) c.self.invariant

pub invariant_of-self-in_err-list_made : goal.invariant_of-self-in_err-list_made
invariant_of-self-in_err-list_made c =
    tallied_alike _ _ _ _ _ _ _ c.make_room.ensures.rows c.make_room.ensures.tallies (c.in_err-list_made.ensures.err ∙ ap (λ (l : List (Vec ObjId Global)). lists_of l) c.make_room.ensures.lists) c.self.invariant

pub returns-in_err-make_room-clause-err : goal.returns-in_err-make_room-clause-err
returns-in_err-make_room-clause-err c =
    holds_on_err _ (c.make_room.ensures.rows ∙ c.self.view_is)

pub returns-in_err-list_made-clause-err : goal.returns-in_err-list_made-clause-err
returns-in_err-list_made-clause-err c =
    holds_on_err _ (c.make_room.ensures.rows ∙ c.self.view_is)

pub list_made-requires-clause-owner : goal.list_made-requires-clause-owner
list_made-requires-clause-owner c =
    let there = has_row c.args.self.now c.args.owner c.requires.unended in
    let same = ap (λ (l : List Row). length l) c.self.view_is in
    let listed = c.self.invariant.listed in
    let many = length-map c.self.inside.children.items (λ (v : Vec ObjId Global). v.items) in
    let len = ap (λ (l : List (Vec ObjId Global)). length l) c.make_room.ensures.lists in
    omega (arith, there, same, listed, many, len)

pub list_made-requires-clause-room : goal.list_made-requires-clause-room
list_made-requires-clause-room c =
    let room = c.in_ok-make_room.ensures.list_room in omega (arith, room)

pub count_made-requires-clause-owner : goal.count_made-requires-clause-owner
count_made-requires-clause-owner c =
    let there = has_row c.args.self.now c.args.owner c.requires.unended in
    let same = ap (λ (l : List Row). length l) c.self.view_is in
    let tallied = c.self.invariant.tallied in
    let len = ap (λ (l : List Tally). length l) c.make_room.ensures.tallies in
    omega (arith, there, same, tallied, len)

pub count_made-requires-clause-room : goal.count_made-requires-clause-room
count_made-requires-clause-room c =
    let room = c.in_ok-make_room.ensures.tally_room in omega (arith, room)

pub count_made-requires-clause-living : goal.count_made-requires-clause-living
count_made-requires-clause-living c =
    let each = (c.self.invariant.each c.args.owner).living in
    let few = c.self.invariant.few in
    let le = where_few lives c.self.inside.rows.items c.args.owner in
    let is = ap (λ (l : List Tally). (tally_at l c.args.owner).living) c.make_room.ensures.tallies in
    omega (arith, each, few, le, is)

pub count_made-requires-clause-unnoted : goal.count_made-requires-clause-unnoted
count_made-requires-clause-unnoted c =
    let each = (c.self.invariant.each c.args.owner).unnoted in
    let few = c.self.invariant.few in
    let le = where_few is_unnoted c.self.inside.rows.items c.args.owner in
    let is = ap (λ (l : List Tally). (tally_at l c.args.owner).unnoted) c.make_room.ensures.tallies in
    omega (arith, each, few, le, is)

pub push_made-requires-clause-owner : goal.push_made-requires-clause-owner
push_made-requires-clause-owner c =
    let there = has_row c.args.self.now c.args.owner c.requires.unended in
    let same = ap (λ (l : List Row). length l) c.self.view_is in
    let len = ap (λ (l : List Row). length l) c.make_room.ensures.rows in
    omega (arith, there, same, len)

pub push_made-requires-clause-room : goal.push_made-requires-clause-room
push_made-requires-clause-room c =
    let room = c.in_ok-make_room.ensures.row_room in omega (arith, room)

pub push_made-requires-clause-fits : goal.push_made-requires-clause-fits
push_made-requires-clause-fits c =
    subst (λ (l : List Row). (row_at l c.args.owner).sent + 1 < 2 ^ 64) (sym (c.make_room.ensures.rows ∙ c.self.view_is)) c.requires.fits

pub overflow_add-self : goal.overflow_add-self
overflow_add-self c =
    let live = c.self.invariant.live in
    let few = c.self.invariant.few in
    let le = live_few c.self.inside.rows.items in
    omega (arith, live, few, le)
