use Rattle.std.proofs.Common.{sym, ap, ◌∙◌, subst, arith, set, Option, Some, None, false, refl, true≢false}
use Rattle.std.specs.Prelude.{Box}
use Rattle.std.specs.declared.alloc.Global.{Global}
use Rattle.end_table.specs.declared.row.EndRow.{EndRow}
use Rattle.msg_pipe.specs.Known.{IsThere}
use Rattle.end_table.specs.declared.table.Place.{Place}
use Rattle.end_table.specs.Sound.{IsSound}
use Rattle.end_table.proofs.PlaceLemmas.{place_within, place_found}
use Rattle.end_table.proofs.HalfLemmas.{found_row, never_none, within, yielded_sound}
use Rattle.end_table.proofs.OthersLemmas.{place_now, leaves_out}
use Rattle.end_table.specs.Counting.{half_at}
use Rattle.end_table.specs.Rows.{row_at}
use Rattle.end_table.specs.Places.{place_at}
use Rattle.end_table.proofs.CountLemmas.{half_moves, yields_counts}
use Rattle.end_table.proofs.SoundLemmas.{one_some}
use Rattle.end_table.proofs.ChangeLemmas.{parts_once}
use Rattle.end_table.proofs.MadeLemmas.{none_made}
use Rattle.end_table.specs.declared.changes.PipeChange.TheVariants.{Parted}
use Rattle.end_table.proofs.halving.yield_writer.Goals as goal

pub index_mut-requires : goal.index_mut-requires
index_mut-requires g c = let w = within g.P.Pipes.known c.args.pipes.now c.args.table.now.rows.items c.args.table.now.places.items c.args.place c.requires.writes.place c.requires.sound c.requires.writes.there c.requires.writes.held in omega (arith, w)

pub forget_parts-requires : goal.forget_parts-requires
forget_parts-requires g c =
    let f = found_row g.P.Pipes.known c.args.pipes.now c.args.table.now.rows.items c.args.table.now.places.items c.args.place c.requires.writes.place c.requires.sound c.requires.writes.there c.requires.writes.held
    c.index_mut.result.now c.in-Some.row c.into_inner-out.result c.requires.writes.writes c.index_mut.ensures.value (sym c.take.ensures.value ∙ c.in-Some.is) c.into_inner-out.ensures in
    record { here = subst (IsThere g.P.Pipes.known c.args.pipes.now) (sym f.1.name_is) f.1.there }

pub index_mut-requires-in-Some : goal.index_mut-requires-in-Some
index_mut-requires-in-Some g c = let w = place_within c.args.table.now.places.items c.args.place c.requires.writes.place c.requires.writes.there in omega (arith, w)

pub returns-in-Some-clause-sound : goal.returns-in-Some-clause-sound
returns-in-Some-clause-sound g c =
    let f = found_row g.P.Pipes.known c.args.pipes.now c.args.table.now.rows.items c.args.table.now.places.items c.args.place c.requires.writes.place c.requires.sound c.requires.writes.there c.requires.writes.held
    c.index_mut.result.now c.in-Some.row c.into_inner-out.result c.requires.writes.writes c.index_mut.ensures.value (sym c.take.ensures.value ∙ c.in-Some.is) c.into_inner-out.ensures in
    let same = place_found c.args.table.now.places.items c.args.place c.requires.writes.place c.index_mut-in-Some.result.now c.requires.writes.there c.index_mut-in-Some.ensures.value in
    subst (λ (x : Option (Box (EndRow _ _) Global)). IsSound g.P.Pipes.known c.forget_parts.new.pipes (set c.args.table.now.rows.items c.args.place x) (set c.args.table.now.places.items c.args.place c.keep_reading.new.place)) (sym c.take.ensures.after)
    (subst (λ (x : Place _ _). IsSound g.P.Pipes.known c.forget_parts.new.pipes (set c.args.table.now.rows.items c.args.place None) (set c.args.table.now.places.items c.args.place x))
    (sym (c.keep_reading.ensures ∙ ap (λ (x : Place _ _). record x { writes = false; peer = false; input = Some c.into_inner-out.result.input }) same))
    (yielded_sound g.P.Pipes.known c.args.pipes.now c.args.table.now.rows.items c.args.table.now.places.items c.args.place c.requires.writes.place c.requires.sound c.requires.writes.there c.requires.writes.held c.forget_parts.new.pipes c.into_inner-out.result c.forget_parts.new.out c.requires.writes.writes f.0 f.1 c.forget_parts.ensures.keeps))

pub returns-in-Some-clause-yielded : goal.returns-in-Some-clause-yielded
returns-in-Some-clause-yielded g c =
    let f = found_row g.P.Pipes.known c.args.pipes.now c.args.table.now.rows.items c.args.table.now.places.items c.args.place c.requires.writes.place c.requires.sound c.requires.writes.there c.requires.writes.held
    c.index_mut.result.now c.in-Some.row c.into_inner-out.result c.requires.writes.writes c.index_mut.ensures.value (sym c.take.ensures.value ∙ c.in-Some.is) c.into_inner-out.ensures in
    let same = place_found c.args.table.now.places.items c.args.place c.requires.writes.place c.index_mut-in-Some.result.now c.requires.writes.there c.index_mut-in-Some.ensures.value in
    record {
      place = c.requires.writes.place;
      input = c.into_inner-out.result.input;
      there = c.requires.writes.there;
      name_is = sym (c.forget_parts.ensures.keeps.name_is ∙ f.1.name_is);
      now = ap (λ (x : Place _ _). set c.args.table.now.places.items c.args.place x)
          (c.keep_reading.ensures ∙ ap (λ (x : Place _ _). record x { writes = false; peer = false; input = Some c.into_inner-out.result.input }) same);
    }

pub unreachable-requires : goal.unreachable-requires
unreachable-requires g c =
    never_none g.P.Pipes.known c.args.pipes.now c.args.table.now.rows.items c.args.table.now.places.items c.args.place c.requires.writes.place c.requires.sound c.requires.writes.there c.requires.writes.held c.index_mut.result.now c.requires.writes.writes c.index_mut.ensures.value (sym c.take.ensures.value ∙ c.in-None.is)

pub returns-in-Some-clause-others : goal.returns-in-Some-clause-others
returns-in-Some-clause-others g c =
    let p = c.requires.writes.place in
    let r = c.into_inner-out.result in
    let f = found_row g.P.Pipes.known c.args.pipes.now c.args.table.now.rows.items c.args.table.now.places.items c.args.place p c.requires.sound c.requires.writes.there c.requires.writes.held
    c.index_mut.result.now c.in-Some.row r c.requires.writes.writes c.index_mut.ensures.value (sym c.take.ensures.value ∙ c.in-Some.is) c.into_inner-out.ensures in
    let same = place_found c.args.table.now.places.items c.args.place p c.index_mut-in-Some.result.now c.requires.writes.there c.index_mut-in-Some.ensures.value in
    leaves_out g.P.Pipes.known c.args.pipes.now c.forget_parts.new.pipes c.args.table.now _ c.args.place p c.requires.writes.there c.requires.writes.held
    (place_now c.args.table.now.places.items _ c.args.place p (record p { writes = false; peer = false; input = Some r.input }) c.requires.writes.there
    (record { end_is = refl; written_is = refl; read_is = refl; held = λ h. h; writes = λ w. absurd (true≢false (sym w)) })
    (ap (set c.args.table.now.places.items c.args.place) (c.keep_reading.ensures ∙ ap (λ (x : Place _ _). record x { writes = false; peer = false; input = Some r.input }) same)))
    r.out c.forget_parts.new.out c.requires.writes.writes f.1.name_is c.forget_parts.ensures.keeps refl

pub returns-in-Some-clause-counts : goal.returns-in-Some-clause-counts
returns-in-Some-clause-counts g c = λ writer q at name.
    let p = c.requires.writes.place in
    let r = c.into_inner-out.result in
    let f = found_row g.P.Pipes.known c.args.pipes.now c.args.table.now.rows.items c.args.table.now.places.items c.args.place p c.requires.sound c.requires.writes.there c.requires.writes.held
    c.index_mut.result.now c.in-Some.row r c.requires.writes.writes c.index_mut.ensures.value (sym c.take.ensures.value ∙ c.in-Some.is) c.into_inner-out.ensures in
    let same = place_found c.args.table.now.places.items c.args.place p c.index_mut-in-Some.result.now c.requires.writes.there c.index_mut-in-Some.ensures.value in
    yields_counts g.P.Pipes.known c.args.pipes.now c.args.table.now.rows.items c.args.table.now.places.items c.args.place p c.requires.sound c.requires.writes.there c.requires.writes.held c.forget_parts.new.pipes r c.forget_parts.new.out _ writer c.requires.writes.writes f.0 f.1 c.forget_parts.ensures.keeps
    (ap (λ (x : Option (Box (EndRow _ _) Global)). half_at (row_at (set c.args.table.now.rows.items c.args.place x) c.args.place) (place_at (set c.args.table.now.places.items c.args.place c.keep_reading.new.place) c.args.place)) c.take.ensures.after
    ∙ half_moves g.P.Pipes.known c.args.pipes.now c.args.table.now.rows.items c.args.table.now.places.items c.args.place p c.requires.sound c.requires.writes.there c.requires.writes.held r c.keep_reading.new.place f.0 (ap (λ (x : Place _ _). x.input) c.keep_reading.ensures))
    (name ∙ ap (λ (x : Place _ _). x.read) (one_some q p (sym at ∙ c.requires.writes.there)))

pub returns-in-Some-clause-changes : goal.returns-in-Some-clause-changes
returns-in-Some-clause-changes g c =
    let p = c.requires.writes.place in
    let r = c.into_inner-out.result in
    let f = found_row g.P.Pipes.known c.args.pipes.now c.args.table.now.rows.items c.args.table.now.places.items c.args.place p c.requires.sound c.requires.writes.there c.requires.writes.held
    c.index_mut.result.now c.in-Some.row r c.requires.writes.writes c.index_mut.ensures.value (sym c.take.ensures.value ∙ c.in-Some.is) c.into_inner-out.ensures in
    let same = place_found c.args.table.now.places.items c.args.place p c.index_mut-in-Some.result.now c.requires.writes.there c.index_mut-in-Some.ensures.value in
    parts_once g.P.Pipes.known c.args.table.now.places.items _
    (place_now c.args.table.now.places.items _ c.args.place p (record p { writes = false; peer = false; input = Some r.input }) c.requires.writes.there
    (record { end_is = refl; written_is = refl; read_is = refl; held = λ h. h; writes = λ w. absurd (true≢false (sym w)) })
    (ap (set c.args.table.now.places.items c.args.place) (c.keep_reading.ensures ∙ ap (λ (x : Place _ _). record x { writes = false; peer = false; input = Some r.input }) same)))
    c.args.place p c.requires.writes.there c.requires.writes.held r.end (sym f.1.end_is) c.args.did.now.items c.forget_parts.new.did.items c.args.pipes.now c.forget_parts.new.pipes r.out c.forget_parts.new.out
    c.requires.writes.writes c.forget_parts.ensures.noted f.1.name_is c.forget_parts.ensures.forgets c.forget_parts.ensures.keeps

pub returns-in-Some-clause-none_made : goal.returns-in-Some-clause-none_made
returns-in-Some-clause-none_made g c =
    let n = c.forget_parts.ensures.noted in
    none_made (Parted c.args.place c.into_inner-out.result.end n.half) c.args.did.now.items c.forget_parts.new.did.items c.forget_parts.new.pipes n.noted (λ e. refl)

pub returns-in-Some-clause-parted : goal.returns-in-Some-clause-parted
returns-in-Some-clause-parted g c = ap (λ v. v.parts) c.forget_parts.ensures.forgets
