use Rattle.std.proofs.Common.{sym, ap, ◌∙◌, subst, arith, set, Option, None, false, refl, true≢false}
use Rattle.std.specs.Prelude.{Box}
use Rattle.std.specs.declared.alloc.Global.{Global}
use Rattle.end_table.specs.declared.row.EndRow.{EndRow}
use Rattle.end_table.specs.declared.table.Place.{Place}
use Rattle.end_table.specs.Sound.{IsSound}
use Rattle.end_table.proofs.PlaceLemmas.{place_within, place_found}
use Rattle.end_table.proofs.HalfLemmas.{found_row, never_none, within, taken_sound}
use Rattle.end_table.proofs.OthersLemmas.{leaves_changed}
use Rattle.end_table.proofs.placing.take_back.Goals as goal

pub index_mut-requires : goal.index_mut-requires
index_mut-requires g c = let w = within g.P.Pipes.known c.args.pipes.now c.args.table.now.rows.items c.args.table.now.places.items c.args.place c.requires.writes.place c.requires.sound c.requires.writes.there c.requires.writes.held in omega (arith, w)

pub index_mut-requires-in-Some : goal.index_mut-requires-in-Some
index_mut-requires-in-Some g c = let w = place_within c.args.table.now.places.items c.args.place c.requires.writes.place c.requires.writes.there in omega (arith, w)

pub returns-in-Some-clause-sound : goal.returns-in-Some-clause-sound
returns-in-Some-clause-sound g c =
    let same = place_found c.args.table.now.places.items c.args.place c.requires.writes.place c.index_mut-in-Some.result.now c.requires.writes.there c.index_mut-in-Some.ensures.value in
    subst (λ (x : Option (Box (EndRow _ _) Global)). IsSound g.P.Pipes.known c.args.pipes.now (set c.args.table.now.rows.items c.args.place x) (set c.args.table.now.places.items c.args.place c.forget.new.place)) (sym c.take.ensures.after)
    (subst (λ (x : Place _ _). IsSound g.P.Pipes.known c.args.pipes.now (set c.args.table.now.rows.items c.args.place None) (set c.args.table.now.places.items c.args.place x))
    (sym (c.forget.ensures ∙ ap (λ (x : Place _ _). record x { held = false; writes = false }) same))
    (taken_sound g.P.Pipes.known c.args.pipes.now c.args.table.now.rows.items c.args.table.now.places.items c.args.place c.requires.writes.place c.requires.sound c.requires.writes.there c.requires.writes.held))

pub returns-in-Some-clause-back : goal.returns-in-Some-clause-back
returns-in-Some-clause-back g c =
    let f = found_row g.P.Pipes.known c.args.pipes.now c.args.table.now.rows.items c.args.table.now.places.items c.args.place c.requires.writes.place c.requires.sound c.requires.writes.there c.requires.writes.held
    c.index_mut.result.now c.in-Some.row c.into_inner-out.result c.requires.writes.writes c.index_mut.ensures.value (sym c.take.ensures.value ∙ c.in-Some.is) c.into_inner-out.ensures in
    let same = place_found c.args.table.now.places.items c.args.place c.requires.writes.place c.index_mut-in-Some.result.now c.requires.writes.there c.index_mut-in-Some.ensures.value in
    record {
      place = c.requires.writes.place;
      there = c.requires.writes.there;
      written_is = sym f.1.name_is;
      read_is = sym f.1.reads.name_is;
      now = ap (λ (x : Place _ _). set c.args.table.now.places.items c.args.place x)
          (c.forget.ensures ∙ ap (λ (x : Place _ _). record x { held = false; writes = false }) same);
    }

pub unreachable-requires : goal.unreachable-requires
unreachable-requires g c =
    never_none g.P.Pipes.known c.args.pipes.now c.args.table.now.rows.items c.args.table.now.places.items c.args.place c.requires.writes.place c.requires.sound c.requires.writes.there c.requires.writes.held c.index_mut.result.now c.requires.writes.writes c.index_mut.ensures.value (sym c.take.ensures.value ∙ c.in-None.is)

pub returns-in-Some-clause-others : goal.returns-in-Some-clause-others
returns-in-Some-clause-others g c =
    let p = c.requires.writes.place in
    let same = place_found c.args.table.now.places.items c.args.place p c.index_mut-in-Some.result.now c.requires.writes.there c.index_mut-in-Some.ensures.value in
    leaves_changed g.P.Pipes.known c.args.pipes.now c.args.table.now _ c.args.place p (record p { held = false; writes = false }) c.requires.writes.there
    (record { end_is = refl; written_is = refl; read_is = refl; held = λ h. absurd (true≢false (sym h)); writes = λ w. absurd (true≢false (sym w)) })
    (ap (set c.args.table.now.places.items c.args.place) (c.forget.ensures ∙ ap (λ (x : Place _ _). record x { held = false; writes = false }) same)) refl
