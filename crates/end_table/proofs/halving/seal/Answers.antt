use Rattle.std.proofs.Common.{sym, ap, ◌∙◌, subst, arith, set, Some, true, refl}
use Rattle.std.specs.Box.{with_value}
use Rattle.msg_pipe.specs.Known.{IsThere}
use Rattle.end_table.specs.declared.table.Place.{Place}
use Rattle.end_table.specs.Sound.{IsSound}
use Rattle.end_table.proofs.PlaceLemmas.{place_within, place_found}
use Rattle.end_table.proofs.HalfLemmas.{found_row, never_none, within, sealed_sound, sealed_already}
use Rattle.end_table.proofs.OthersLemmas.{place_now, leaves_out}
use Rattle.end_table.proofs.OthersLemmas.{places_stay}
use Rattle.end_table.proofs.ChangeLemmas.{seals_again, seals_first}
use Rattle.end_table.proofs.MadeLemmas.{none_made}
use Rattle.end_table.specs.declared.changes.PipeChange.TheVariants.{Sealed, SealedAgain}
use Rattle.end_table.proofs.halving.seal.Goals as goal

pub index-requires : goal.index-requires
index-requires g c = let w = place_within c.args.table.now.places.items c.args.place c.requires.writes.place c.requires.writes.there in omega (arith, w)

pub returns-then-index-clause-sealed : goal.returns-then-index-clause-sealed
returns-then-index-clause-sealed g c =
    let p = c.requires.writes.place in
    let same = place_found c.args.table.now.places.items c.args.place p c.index-2.result.now c.requires.writes.there c.index-2.ensures in
    record {
      place = p;
      there = c.requires.writes.there;
      now = sealed_already c.args.table.now.places.items c.args.place p c.requires.writes.there (sym (ap (λ (x : Place _ _). x.sealed) same) ∙ c.if-index.true);
    }

pub index_mut-requires : goal.index_mut-requires
index_mut-requires g c = let w = within g.P.Pipes.known c.args.pipes.now c.args.table.now.rows.items c.args.table.now.places.items c.args.place c.requires.writes.place c.requires.sound c.requires.writes.there c.requires.writes.held in omega (arith, w)

pub seal_row-requires-clause-here : goal.seal_row-requires-clause-here
seal_row-requires-clause-here g c =
    let p = c.requires.writes.place in
    let f = found_row g.P.Pipes.known c.args.pipes.now c.args.table.now.rows.items c.args.table.now.places.items c.args.place p c.requires.sound c.requires.writes.there c.requires.writes.held
    c.index_mut.result.now c.in-Some.row c.deref_mut.result.now c.requires.writes.writes c.index_mut.ensures.value c.in-Some.is c.deref_mut.ensures.value in
    subst (IsThere g.P.Pipes.known c.args.pipes.now) (sym f.1.name_is) f.1.there

pub seal_row-requires-clause-unsealed : goal.seal_row-requires-clause-unsealed
seal_row-requires-clause-unsealed g c =
    let p = c.requires.writes.place in
    let f = found_row g.P.Pipes.known c.args.pipes.now c.args.table.now.rows.items c.args.table.now.places.items c.args.place p c.requires.sound c.requires.writes.there c.requires.writes.held
    c.index_mut.result.now c.in-Some.row c.deref_mut.result.now c.requires.writes.writes c.index_mut.ensures.value c.in-Some.is c.deref_mut.ensures.value in
    let same = place_found c.args.table.now.places.items c.args.place p c.index-2.result.now c.requires.writes.there c.index-2.ensures in
    f.1.unsealed (sym (ap (λ (x : Place _ _). x.sealed) same) ∙ c.if-index.false)

pub unreachable-requires : goal.unreachable-requires
unreachable-requires g c =
    never_none g.P.Pipes.known c.args.pipes.now c.args.table.now.rows.items c.args.table.now.places.items c.args.place c.requires.writes.place c.requires.sound c.requires.writes.there c.requires.writes.held
    c.index_mut.result.now c.requires.writes.writes c.index_mut.ensures.value c.in-None.is

pub index_mut-requires-2 : goal.index_mut-requires-2
index_mut-requires-2 g c = let w = place_within c.args.table.now.places.items c.args.place c.requires.writes.place c.requires.writes.there in omega (arith, w)

pub returns-clause-sound : goal.returns-clause-sound
returns-clause-sound g c =
    let p = c.requires.writes.place in
    let f = found_row g.P.Pipes.known c.args.pipes.now c.args.table.now.rows.items c.args.table.now.places.items c.args.place p c.requires.sound c.requires.writes.there c.requires.writes.held
    c.index_mut.result.now c.in-Some.row c.deref_mut.result.now c.requires.writes.writes c.index_mut.ensures.value c.in-Some.is c.deref_mut.ensures.value in
    let same = place_found c.args.table.now.places.items c.args.place p c.index_mut-2.result.now c.requires.writes.there c.index_mut-2.ensures.value in
    subst (λ (x : Place _ _). IsSound g.P.Pipes.known c.seal_row.new.pipes (set c.args.table.now.rows.items c.args.place (Some (with_value c.in-Some.row c.seal_row.new.row))) (set c.args.table.now.places.items c.args.place (record x { sealed = true }))) (sym same)
    (sealed_sound g.P.Pipes.known c.args.pipes.now c.args.table.now.rows.items c.args.table.now.places.items c.args.place p c.requires.sound c.requires.writes.there c.requires.writes.held
    c.seal_row.new.pipes c.deref_mut.result.now c.seal_row.new.row.out (with_value c.in-Some.row c.seal_row.new.row) c.requires.writes.writes f.0 f.1 c.seal_row.ensures.seals c.seal_row.ensures.keeps c.seal_row.ensures.row)

pub returns-clause-sealed : goal.returns-clause-sealed
returns-clause-sealed g c =
    let p = c.requires.writes.place in
    let same = place_found c.args.table.now.places.items c.args.place p c.index_mut-2.result.now c.requires.writes.there c.index_mut-2.ensures.value in
    record {
      place = p;
      there = c.requires.writes.there;
      now = ap (λ (x : Place _ _). set c.args.table.now.places.items c.args.place (record x { sealed = true })) same;
    }

pub returns-clause-others : goal.returns-clause-others
returns-clause-others g c =
    let p = c.requires.writes.place in
    let f = found_row g.P.Pipes.known c.args.pipes.now c.args.table.now.rows.items c.args.table.now.places.items c.args.place p c.requires.sound c.requires.writes.there c.requires.writes.held
    c.index_mut.result.now c.in-Some.row c.deref_mut.result.now c.requires.writes.writes c.index_mut.ensures.value c.in-Some.is c.deref_mut.ensures.value in
    let same = place_found c.args.table.now.places.items c.args.place p c.index_mut-2.result.now c.requires.writes.there c.index_mut-2.ensures.value in
    leaves_out g.P.Pipes.known c.args.pipes.now c.seal_row.new.pipes c.args.table.now _ c.args.place p c.requires.writes.there c.requires.writes.held
    (place_now c.args.table.now.places.items _ c.args.place p (record p { sealed = true }) c.requires.writes.there
    (record { end_is = refl; written_is = refl; read_is = refl; held = λ h. h; writes = λ w. w })
    (ap (λ (x : Place _ _). set c.args.table.now.places.items c.args.place (record x { sealed = true })) same))
    c.deref_mut.result.now.out c.seal_row.new.row.out c.requires.writes.writes f.1.name_is c.seal_row.ensures.keeps refl

pub index-requires-2 : goal.index-requires-2
index-requires-2 g c = let w = place_within c.args.table.now.places.items c.args.place c.requires.writes.place c.requires.writes.there in omega (arith, w)

pub returns-then-index-clause-changes : goal.returns-then-index-clause-changes
returns-then-index-clause-changes g c =
    let p = c.requires.writes.place in
    let here = place_found c.args.table.now.places.items c.args.place p c.index.result.now c.requires.writes.there c.index.ensures in
    let same = place_found c.args.table.now.places.items c.args.place p c.index-2.result.now c.requires.writes.there c.index-2.ensures in
    seals_again g.P.Pipes.known c.args.table.now.places.items c.args.table.now.places.items (places_stay c.args.table.now.places.items c.args.table.now.places.items refl) c.args.place p c.requires.writes.there c.requires.writes.held c.index.result.now.end (ap (λ (x : Place _ _). x.end) (sym here))
    c.args.did.now.items c.and.result.items c.args.pipes.now c.args.pipes.now c.requires.writes.writes (sym (ap (λ (x : Place _ _). x.sealed) same) ∙ c.if-index.true) refl c.and.ensures

pub returns-clause-changes : goal.returns-clause-changes
returns-clause-changes g c =
    let p = c.requires.writes.place in
    let here = place_found c.args.table.now.places.items c.args.place p c.index.result.now c.requires.writes.there c.index.ensures in
    let first = place_found c.args.table.now.places.items c.args.place p c.index-2.result.now c.requires.writes.there c.index-2.ensures in
    let f = found_row g.P.Pipes.known c.args.pipes.now c.args.table.now.rows.items c.args.table.now.places.items c.args.place p c.requires.sound c.requires.writes.there c.requires.writes.held
    c.index_mut.result.now c.in-Some.row c.deref_mut.result.now c.requires.writes.writes c.index_mut.ensures.value c.in-Some.is c.deref_mut.ensures.value in
    let same = place_found c.args.table.now.places.items c.args.place p c.index_mut-2.result.now c.requires.writes.there c.index_mut-2.ensures.value in
    let open_still = sym (ap (λ (x : Place _ _). x.sealed) first) ∙ c.if-index.false in
    seals_first g.P.Pipes.known c.args.table.now.places.items _
    (place_now c.args.table.now.places.items _ c.args.place p (record p { sealed = true }) c.requires.writes.there
    (record { end_is = refl; written_is = refl; read_is = refl; held = λ h. h; writes = λ w. w })
    (ap (λ (x : Place _ _). set c.args.table.now.places.items c.args.place (record x { sealed = true })) same))
    c.args.place p c.requires.writes.there c.requires.writes.held c.index.result.now.end (ap (λ (x : Place _ _). x.end) (sym here)) c.args.did.now.items c.seal_row.new.did.items c.args.pipes.now c.seal_row.new.pipes
    c.deref_mut.result.now.out c.seal_row.new.row.out c.requires.writes.writes open_still c.seal_row.ensures.noted f.1.name_is (subst (IsThere g.P.Pipes.known c.args.pipes.now) (sym f.1.name_is) f.1.there) (f.1.unsealed open_still) c.seal_row.ensures.seals c.seal_row.ensures.keeps

pub returns-then-index-clause-none_made : goal.returns-then-index-clause-none_made
returns-then-index-clause-none_made g c = none_made (SealedAgain c.args.place c.index.result.now.end) c.args.did.now.items c.and.result.items c.args.pipes.now c.and.ensures (λ e. refl)

pub returns-clause-none_made : goal.returns-clause-none_made
returns-clause-none_made g c =
    let n = c.seal_row.ensures.noted in
    none_made (Sealed c.args.place c.index.result.now.end n.half) c.args.did.now.items c.seal_row.new.did.items c.seal_row.new.pipes n.noted (λ e. refl)
