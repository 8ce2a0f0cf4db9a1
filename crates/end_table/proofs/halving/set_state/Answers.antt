use Rattle.std.proofs.Common.{sym, ap, ◌∙◌, subst, arith, set, Some, Bool, refl}
use Rattle.std.specs.Box.{with_value}
use Rattle.end_table.specs.declared.row.EndRow.{EndRow}
use Rattle.end_table.specs.declared.table.Place.{Place}
use Rattle.end_table.specs.Sound.{IsSound, can_write}
use Rattle.end_table.proofs.PlaceLemmas.{place_within, place_found}
use Rattle.end_table.proofs.HalfLemmas.{within, found_row, never_none, stated_sound, read_sound}
use Rattle.end_table.proofs.OthersLemmas.{leaves_changed}
use Rattle.end_table.specs.Counting.{half_at}
use Rattle.end_table.specs.Rows.{row_at}
use Rattle.end_table.specs.Places.{place_at}
use Rattle.end_table.proofs.HalfLemmas.{reading_there}
use Rattle.end_table.proofs.CountLemmas.{half_in_row, half_in_place}
use Rattle.end_table.proofs.halving.set_state.Goals as goal

pub index-requires : goal.index-requires
index-requires g c = let w = place_within c.args.table.now.places.items c.args.place c.requires.there.place c.requires.there.there in omega (arith, w)

pub index_mut-requires : goal.index_mut-requires
index_mut-requires g c = let w = place_within c.args.table.now.places.items c.args.place c.requires.there.place c.requires.there.there in omega (arith, w)

pub returns-then-not-index-clause-sound : goal.returns-then-not-index-clause-sound
returns-then-not-index-clause-sound g c =
    let here = place_found c.args.table.now.places.items c.args.place c.requires.there.place c.index.result.now c.requires.there.there c.index.ensures in
    let same = place_found c.args.table.now.places.items c.args.place c.requires.there.place c.index_mut.result.now c.requires.there.there c.index_mut.ensures.value in
    subst (λ (x : Place _ _). IsSound g.P.Pipes.known c.args.pipes.now c.args.table.now.rows.items (set c.args.table.now.places.items c.args.place x)) (sym (c.turn.ensures.turned ∙ ap (λ (x : Place _ _). record x { state = c.args.state; peer = c.args.peer }) same))
    (read_sound g.P.Pipes.known c.args.pipes.now c.args.table.now.rows.items c.args.table.now.places.items c.args.place c.requires.there.place c.requires.sound c.requires.there.there c.requires.there.held c.args.state c.args.peer (sym (ap (λ (x : Place _ _). x.writes) here) ∙ c.if-not-index.true))

pub returns-then-not-index-clause-stated : goal.returns-then-not-index-clause-stated
returns-then-not-index-clause-stated g c =
    let same = place_found c.args.table.now.places.items c.args.place c.requires.there.place c.index_mut.result.now c.requires.there.there c.index_mut.ensures.value in
    record {
      place = c.requires.there.place;
      there = c.requires.there.there;
      now = ap (λ (x : Place _ _). set c.args.table.now.places.items c.args.place x) (c.turn.ensures.turned ∙ ap (λ (x : Place _ _). record x { state = c.args.state; peer = c.args.peer }) same);
    }

pub index_mut-requires-2 : goal.index_mut-requires-2
index_mut-requires-2 g c = let w = place_within c.args.table.now.places.items c.args.place c.requires.there.place c.requires.there.there in omega (arith, w)

pub index_mut-requires-3 : goal.index_mut-requires-3
index_mut-requires-3 g c = let w = within g.P.Pipes.known c.args.pipes.now c.args.table.now.rows.items c.args.table.now.places.items c.args.place c.requires.there.place c.requires.sound c.requires.there.there c.requires.there.held in omega (arith, w)

pub returns-in-Some-clause-sound : goal.returns-in-Some-clause-sound
returns-in-Some-clause-sound g c =
    let here = place_found c.args.table.now.places.items c.args.place c.requires.there.place c.index.result.now c.requires.there.there c.index.ensures in
    let writes = sym (ap (λ (x : Place _ _). x.writes) here) ∙ c.if-not-index.false in
    let f = found_row g.P.Pipes.known c.args.pipes.now c.args.table.now.rows.items c.args.table.now.places.items c.args.place c.requires.there.place c.requires.sound c.requires.there.there c.requires.there.held c.index_mut-3.result.now c.in-Some.row c.deref_mut.result.now writes c.index_mut-3.ensures.value c.in-Some.is c.deref_mut.ensures.value in
    let same = place_found c.args.table.now.places.items c.args.place c.requires.there.place c.index_mut-2.result.now c.requires.there.there c.index_mut-2.ensures.value in
    let now = c.turn-writable.ensures.turned ∙ ap (λ (x : Place _ _). record x { state = c.args.state; peer = c.args.peer }) same in
    let open_is = c.turn-writable.ensures.writable ∙ ap can_write now in
    subst (λ (x : Place _ _). IsSound g.P.Pipes.known c.args.pipes.now (set c.args.table.now.rows.items c.args.place (Some (with_value c.in-Some.row c.open_or_shut.new.row))) (set c.args.table.now.places.items c.args.place x)) (sym now)
    (stated_sound g.P.Pipes.known c.args.pipes.now c.args.table.now.rows.items c.args.table.now.places.items c.args.place c.requires.there.place c.requires.sound c.requires.there.there c.requires.there.held c.args.state c.args.peer c.deref_mut.result.now (with_value c.in-Some.row c.open_or_shut.new.row) writes f.0 f.1
    (c.open_or_shut.ensures ∙ ap (λ (b : Bool). let x : EndRow _ _ = record c.deref_mut.result.now { writable = b } in x) open_is))

pub returns-in-Some-clause-stated : goal.returns-in-Some-clause-stated
returns-in-Some-clause-stated g c =
    let same = place_found c.args.table.now.places.items c.args.place c.requires.there.place c.index_mut-2.result.now c.requires.there.there c.index_mut-2.ensures.value in
    record {
      place = c.requires.there.place;
      there = c.requires.there.there;
      now = ap (λ (x : Place _ _). set c.args.table.now.places.items c.args.place x) (c.turn-writable.ensures.turned ∙ ap (λ (x : Place _ _). record x { state = c.args.state; peer = c.args.peer }) same);
    }

pub unreachable-requires : goal.unreachable-requires
unreachable-requires g c =
    let here = place_found c.args.table.now.places.items c.args.place c.requires.there.place c.index.result.now c.requires.there.there c.index.ensures in
    let writes = sym (ap (λ (x : Place _ _). x.writes) here) ∙ c.if-not-index.false in
    never_none g.P.Pipes.known c.args.pipes.now c.args.table.now.rows.items c.args.table.now.places.items c.args.place c.requires.there.place c.requires.sound c.requires.there.there c.requires.there.held c.index_mut-3.result.now writes c.index_mut-3.ensures.value c.in-None.is

pub returns-then-not-index-clause-others : goal.returns-then-not-index-clause-others
returns-then-not-index-clause-others g c =
    let p = c.requires.there.place in
    let same = place_found c.args.table.now.places.items c.args.place p c.index_mut.result.now c.requires.there.there c.index_mut.ensures.value in
    leaves_changed g.P.Pipes.known c.args.pipes.now c.args.table.now _ c.args.place p (record p { state = c.args.state; peer = c.args.peer }) c.requires.there.there
    (record { end_is = refl; written_is = refl; read_is = refl; held = λ h. h; writes = λ w. w })
    (ap (set c.args.table.now.places.items c.args.place) (c.turn.ensures.turned ∙ ap (λ (x : Place _ _). record x { state = c.args.state; peer = c.args.peer }) same)) refl

pub returns-in-Some-clause-others : goal.returns-in-Some-clause-others
returns-in-Some-clause-others g c =
    let p = c.requires.there.place in
    let same = place_found c.args.table.now.places.items c.args.place p c.index_mut-2.result.now c.requires.there.there c.index_mut-2.ensures.value in
    leaves_changed g.P.Pipes.known c.args.pipes.now c.args.table.now _ c.args.place p (record p { state = c.args.state; peer = c.args.peer }) c.requires.there.there
    (record { end_is = refl; written_is = refl; read_is = refl; held = λ h. h; writes = λ w. w })
    (ap (set c.args.table.now.places.items c.args.place) (c.turn-writable.ensures.turned ∙ ap (λ (x : Place _ _). record x { state = c.args.state; peer = c.args.peer }) same)) refl

pub returns-then-not-index-clause-half : goal.returns-then-not-index-clause-half
returns-then-not-index-clause-half g c =
    let p = c.requires.there.place in
    let here = place_found c.args.table.now.places.items c.args.place p c.index.result.now c.requires.there.there c.index.ensures in
    let same = place_found c.args.table.now.places.items c.args.place p c.index_mut.result.now c.requires.there.there c.index_mut.ensures.value in
    let none = (reading_there g.P.Pipes.known c.args.pipes.now c.args.table.now.rows.items c.args.table.now.places.items c.args.place p c.requires.sound c.requires.there.there c.requires.there.held (sym (ap (λ (x : Place _ _). x.writes) here) ∙ c.if-not-index.true)).1 in
    ap (λ (x : Place _ _). half_at (row_at c.args.table.now.rows.items c.args.place) (place_at (set c.args.table.now.places.items c.args.place x) c.args.place))
    (c.turn.ensures.turned ∙ ap (λ (x : Place _ _). record x { state = c.args.state; peer = c.args.peer }) same)
    ∙ half_in_place g.P.Pipes.known c.args.pipes.now c.args.table.now.rows.items c.args.table.now.places.items c.args.place p c.requires.sound c.requires.there.there c.requires.there.held (record p { state = c.args.state; peer = c.args.peer }) none refl

pub returns-in-Some-clause-half : goal.returns-in-Some-clause-half
returns-in-Some-clause-half g c =
    let p = c.requires.there.place in
    let here = place_found c.args.table.now.places.items c.args.place p c.index.result.now c.requires.there.there c.index.ensures in
    let writes = sym (ap (λ (x : Place _ _). x.writes) here) ∙ c.if-not-index.false in
    let f = found_row g.P.Pipes.known c.args.pipes.now c.args.table.now.rows.items c.args.table.now.places.items c.args.place p c.requires.sound c.requires.there.there c.requires.there.held c.index_mut-3.result.now c.in-Some.row c.deref_mut.result.now writes c.index_mut-3.ensures.value c.in-Some.is c.deref_mut.ensures.value in
    half_in_row g.P.Pipes.known c.args.pipes.now c.args.table.now.rows.items c.args.table.now.places.items c.args.place p c.requires.sound c.requires.there.there c.requires.there.held c.deref_mut.result.now (with_value c.in-Some.row c.open_or_shut.new.row) _ f.0
    (ap (λ (r : EndRow _ _). r.input) c.open_or_shut.ensures)
