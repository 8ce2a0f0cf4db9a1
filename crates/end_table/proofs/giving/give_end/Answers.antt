use Rattle.std.proofs.Common.{sym, ap, ◌∙◌, subst, arith, set, Some, None, ◌≡◌, refl, true≢false}
use Rattle.desk.specs.declared.given.Given.{Given}
use Rattle.end_table.specs.declared.table.Place.{Place}
use Rattle.end_table.specs.Sound.{IsSound}
use Rattle.end_table.specs.Giving.{GivenAt, given_of, gone_place}
use Rattle.end_table.proofs.PlaceLemmas.{place_within, place_found}
use Rattle.end_table.proofs.SoundLemmas.{one_some}
use Rattle.end_table.proofs.HalfLemmas.{within, found_row, row_writes, none_yielded, reading_there, given_sound, given_both, given_half}
use Rattle.end_table.proofs.OthersLemmas.{leaves_changed}
use Rattle.end_table.proofs.giving.give_end.Goals as goal

pub index_mut-requires : goal.index_mut-requires
index_mut-requires g c = let w = within g.P.Pipes.known c.args.pipes.now c.args.table.now.rows.items c.args.table.now.places.items c.args.place c.requires.there.place c.requires.sound c.requires.there.there c.requires.there.held in omega (arith, w)

pub index_mut-requires-in-Some : goal.index_mut-requires-in-Some
index_mut-requires-in-Some g c = let w = place_within c.args.table.now.places.items c.args.place c.requires.there.place c.requires.there.there in omega (arith, w)

pub index_mut-requires-in-None : goal.index_mut-requires-in-None
index_mut-requires-in-None g c = let w = place_within c.args.table.now.places.items c.args.place c.requires.there.place c.requires.there.there in omega (arith, w)

pub returns-in-Some-clause-sound : goal.returns-in-Some-clause-sound
returns-in-Some-clause-sound g c =
    let same = place_found c.args.table.now.places.items c.args.place c.requires.there.place c.index_mut-in-Some.result.now c.requires.there.there c.index_mut-in-Some.ensures.value in
    subst (λ (x : Place _ _). IsSound g.P.Pipes.known c.args.pipes.now (set c.args.table.now.rows.items c.args.place c.take.new.self) (set c.args.table.now.places.items c.args.place x)) (sym (c.part_with.ensures.gone ∙ ap gone_place same))
    (given_sound g.P.Pipes.known c.args.pipes.now c.args.table.now.rows.items c.args.table.now.places.items c.args.place c.requires.there.place c.requires.sound c.requires.there.there c.requires.there.held c.take.new.self c.take.ensures.after)

pub returns-in-Some-clause-given : goal.returns-in-Some-clause-given
returns-in-Some-clause-given g c =
    let same = place_found c.args.table.now.places.items c.args.place c.requires.there.place c.index_mut-in-Some.result.now c.requires.there.there c.index_mut-in-Some.ensures.value in
    let is = sym c.take.ensures.value ∙ c.in-Some.is in
    let writes = row_writes g.P.Pipes.known c.args.pipes.now c.args.table.now.rows.items c.args.table.now.places.items c.args.place c.requires.there.place c.requires.sound c.requires.there.there c.requires.there.held c.index_mut.result.now c.in-Some.row c.index_mut.ensures.value is in
    let f = found_row g.P.Pipes.known c.args.pipes.now c.args.table.now.rows.items c.args.table.now.places.items c.args.place c.requires.there.place c.requires.sound c.requires.there.there c.requires.there.held c.index_mut.result.now c.in-Some.row c.into_inner-out.result writes c.index_mut.ensures.value is c.into_inner-out.ensures in
    subst (λ (x : Place _ _). GivenAt g.P.Pipes.known c.args.pipes.now c.args.place c.part_with.result c.args.table.now.places.items (set c.args.table.now.places.items c.args.place x)) (sym (c.part_with.ensures.gone ∙ ap gone_place same))
    (subst (λ (x : Given _ _ _). GivenAt g.P.Pipes.known c.args.pipes.now c.args.place x c.args.table.now.places.items (set c.args.table.now.places.items c.args.place (gone_place c.requires.there.place))) (sym (c.part_with.ensures.given ∙ ap (λ (x : Place _ _). given_of x (Some c.into_inner-out.result.out) c.into_inner-out.result.input) same))
    (given_both g.P.Pipes.known c.args.pipes.now c.args.table.now.rows.items c.args.table.now.places.items c.args.place c.requires.there.place c.requires.sound c.requires.there.there c.requires.there.held c.into_inner-out.result writes f.1))

pub returns-in-Some-part_reading-clause-sound : goal.returns-in-Some-part_reading-clause-sound
returns-in-Some-part_reading-clause-sound g c =
    let same = place_found c.args.table.now.places.items c.args.place c.requires.there.place c.index_mut-in-None.result.now c.requires.there.there c.index_mut-in-None.ensures.value in
    let yielded = none_yielded g.P.Pipes.known c.args.pipes.now c.args.table.now.rows.items c.args.table.now.places.items c.args.place c.requires.there.place c.requires.sound c.requires.there.there c.requires.there.held c.index_mut.result.now c.index_mut.ensures.value (sym c.take.ensures.value ∙ c.in-None.is) in
    let s = reading_there g.P.Pipes.known c.args.pipes.now c.args.table.now.rows.items c.args.table.now.places.items c.args.place c.requires.there.place c.requires.sound c.requires.there.there c.requires.there.held yielded in
    let e = c.part_reading.ensures s.0 (ap (λ (x : Place _ _). x.input) same ∙ s.2) in
    subst (λ (x : Place _ _). IsSound g.P.Pipes.known c.args.pipes.now (set c.args.table.now.rows.items c.args.place c.take.new.self) (set c.args.table.now.places.items c.args.place x)) (sym (e.1 ∙ ap gone_place same))
    (given_sound g.P.Pipes.known c.args.pipes.now c.args.table.now.rows.items c.args.table.now.places.items c.args.place c.requires.there.place c.requires.sound c.requires.there.there c.requires.there.held c.take.new.self c.take.ensures.after)

pub returns-in-Some-part_reading-clause-given : goal.returns-in-Some-part_reading-clause-given
returns-in-Some-part_reading-clause-given g c =
    let same = place_found c.args.table.now.places.items c.args.place c.requires.there.place c.index_mut-in-None.result.now c.requires.there.there c.index_mut-in-None.ensures.value in
    let yielded = none_yielded g.P.Pipes.known c.args.pipes.now c.args.table.now.rows.items c.args.table.now.places.items c.args.place c.requires.there.place c.requires.sound c.requires.there.there c.requires.there.held c.index_mut.result.now c.index_mut.ensures.value (sym c.take.ensures.value ∙ c.in-None.is) in
    let s = reading_there g.P.Pipes.known c.args.pipes.now c.args.table.now.rows.items c.args.table.now.places.items c.args.place c.requires.there.place c.requires.sound c.requires.there.there c.requires.there.held yielded in
    let e = c.part_reading.ensures s.0 (ap (λ (x : Place _ _). x.input) same ∙ s.2) in
    let end = one_some c.in-Some-part_reading.end _ (sym c.in-Some-part_reading.is ∙ e.0) in
    subst (λ (x : Place _ _). GivenAt g.P.Pipes.known c.args.pipes.now c.args.place c.in-Some-part_reading.end c.args.table.now.places.items (set c.args.table.now.places.items c.args.place x)) (sym (e.1 ∙ ap gone_place same))
    (subst (λ (x : Given _ _ _). GivenAt g.P.Pipes.known c.args.pipes.now c.args.place x c.args.table.now.places.items (set c.args.table.now.places.items c.args.place (gone_place c.requires.there.place))) (sym (end ∙ ap (λ (x : Place _ _). given_of x None s.0) same))
    (given_half g.P.Pipes.known c.args.pipes.now c.args.table.now.rows.items c.args.table.now.places.items c.args.place c.requires.there.place c.requires.sound c.requires.there.there c.requires.there.held s.0 yielded s.3))

pub unreachable-requires : goal.unreachable-requires
unreachable-requires g c =
    let same = place_found c.args.table.now.places.items c.args.place c.requires.there.place c.index_mut-in-None.result.now c.requires.there.there c.index_mut-in-None.ensures.value in
    let yielded = none_yielded g.P.Pipes.known c.args.pipes.now c.args.table.now.rows.items c.args.table.now.places.items c.args.place c.requires.there.place c.requires.sound c.requires.there.there c.requires.there.held c.index_mut.result.now c.index_mut.ensures.value (sym c.take.ensures.value ∙ c.in-None.is) in
    let s = reading_there g.P.Pipes.known c.args.pipes.now c.args.table.now.rows.items c.args.table.now.places.items c.args.place c.requires.there.place c.requires.sound c.requires.there.there c.requires.there.held yielded in
    let e = c.part_reading.ensures s.0 (ap (λ (x : Place _ _). x.input) same ∙ s.2) in
    none_some _ (sym c.in-None-part_reading.is ∙ e.0)
  where
    none_some : {X : Type 0} (x : X) → None ≡ Some x → ⊥
    none_some x f = grind arith

pub returns-in-Some-clause-others : goal.returns-in-Some-clause-others
returns-in-Some-clause-others g c =
    let p = c.requires.there.place in
    let same = place_found c.args.table.now.places.items c.args.place p c.index_mut-in-Some.result.now c.requires.there.there c.index_mut-in-Some.ensures.value in
    leaves_changed g.P.Pipes.known c.args.pipes.now c.args.table.now _ c.args.place p (gone_place p) c.requires.there.there
    (record { end_is = refl; written_is = refl; read_is = refl; held = λ h. absurd (true≢false (sym h)); writes = λ w. absurd (true≢false (sym w)) })
    (ap (set c.args.table.now.places.items c.args.place) (c.part_with.ensures.gone ∙ ap gone_place same)) refl

pub returns-in-Some-part_reading-clause-others : goal.returns-in-Some-part_reading-clause-others
returns-in-Some-part_reading-clause-others g c =
    let p = c.requires.there.place in
    let same = place_found c.args.table.now.places.items c.args.place p c.index_mut-in-None.result.now c.requires.there.there c.index_mut-in-None.ensures.value in
    let yielded = none_yielded g.P.Pipes.known c.args.pipes.now c.args.table.now.rows.items c.args.table.now.places.items c.args.place p c.requires.sound c.requires.there.there c.requires.there.held c.index_mut.result.now c.index_mut.ensures.value (sym c.take.ensures.value ∙ c.in-None.is) in
    let s = reading_there g.P.Pipes.known c.args.pipes.now c.args.table.now.rows.items c.args.table.now.places.items c.args.place p c.requires.sound c.requires.there.there c.requires.there.held yielded in
    let e = c.part_reading.ensures s.0 (ap (λ (x : Place _ _). x.input) same ∙ s.2) in
    leaves_changed g.P.Pipes.known c.args.pipes.now c.args.table.now _ c.args.place p (gone_place p) c.requires.there.there
    (record { end_is = refl; written_is = refl; read_is = refl; held = λ h. absurd (true≢false (sym h)); writes = λ w. absurd (true≢false (sym w)) })
    (ap (set c.args.table.now.places.items c.args.place) (e.1 ∙ ap gone_place same)) refl
