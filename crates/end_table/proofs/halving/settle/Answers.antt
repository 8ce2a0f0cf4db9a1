use Rattle.std.proofs.Common.{sym, ap, ◌∙◌, subst, arith, set, None, false, refl, true≢false, ◌++◌, ◌∷◌, []}
use Rattle.msg_pipe.specs.Known.{IsThere}
use Rattle.end_table.specs.declared.table.Place.{Place}
use Rattle.end_table.specs.Sound.{IsSound}
use Rattle.end_table.proofs.PlaceLemmas.{place_within, place_found}
use Rattle.end_table.proofs.SoundLemmas.{one_some}
use Rattle.end_table.proofs.HalfLemmas.{reading_there, settled_sound, adds_up, nothing_left, no_input}
use Rattle.end_table.proofs.OthersLemmas.{place_now, leaves_settled}
use Rattle.end_table.specs.Counting.{counts_with}
use Rattle.end_table.proofs.CountLemmas.{half_read, told_counts}
use Rattle.end_table.proofs.PlaceLemmas.{place_there}
use Rattle.end_table.proofs.ChangeLemmas.{settles_once}
use Rattle.end_table.proofs.MadeLemmas.{none_made}
use Rattle.end_table.specs.declared.changes.PipeChange.TheVariants.{Settled}
use Rattle.end_table.proofs.halving.settle.Goals as goal

pub index_mut-requires : goal.index_mut-requires
index_mut-requires g c = let w = place_within c.args.table.now.places.items c.args.place c.requires.reads.place c.requires.reads.there in omega (arith, w)

pub settle-counts-requires-clause-here : goal.settle-counts-requires-clause-here
settle-counts-requires-clause-here g c =
    let s = reading_there g.P.Pipes.known c.args.pipes.now c.args.table.now.rows.items c.args.table.now.places.items c.args.place c.requires.reads.place c.requires.sound c.requires.reads.there c.requires.reads.held c.requires.reads.yielded in
    subst (IsThere g.P.Pipes.known c.args.pipes.now) c.requires.reads.pipe s.3.there

pub settle-counts-requires-clause-pair : goal.settle-counts-requires-clause-pair
settle-counts-requires-clause-pair g c =
    let s = reading_there g.P.Pipes.known c.args.pipes.now c.args.table.now.rows.items c.args.table.now.places.items c.args.place c.requires.reads.place c.requires.sound c.requires.reads.there c.requires.reads.held c.requires.reads.yielded in
    let same = place_found c.args.table.now.places.items c.args.place c.requires.reads.place c.index_mut.result.now c.requires.reads.there c.index_mut.ensures.value in
    let half = one_some c.in-Some.input s.0 (sym c.in-Some.is ∙ c.give_reading.ensures.half ∙ ap (λ (x : Place _ _). x.input) same ∙ s.2) in
    ap g.P.Pipes.known.in_name half ∙ s.3.name_is ∙ c.requires.reads.pipe

pub returns-in-Some-clause-sound : goal.returns-in-Some-clause-sound
returns-in-Some-clause-sound g c =
    let same = place_found c.args.table.now.places.items c.args.place c.requires.reads.place c.index_mut.result.now c.requires.reads.there c.index_mut.ensures.value in
    subst (λ (x : Place _ _). IsSound g.P.Pipes.known c.settle-counts.new.self c.args.table.now.rows.items (set c.args.table.now.places.items c.args.place x))
    (sym (c.give_reading.ensures.gone ∙ ap (λ (x : Place _ _). record x { held = false; input = None }) same))
    (settled_sound g.P.Pipes.known c.args.pipes.now c.args.table.now.rows.items c.args.table.now.places.items c.args.place c.requires.reads.place c.requires.sound c.requires.reads.there c.requires.reads.held c.settle-counts.new.self (g.P.Pipes.known.out_name c.args.writer) c.requires.reads.yielded (sym c.requires.reads.pipe) c.settle-counts.ensures.keeps)

pub returns-in-Some-clause-settled : goal.returns-in-Some-clause-settled
returns-in-Some-clause-settled g c =
    let s = reading_there g.P.Pipes.known c.args.pipes.now c.args.table.now.rows.items c.args.table.now.places.items c.args.place c.requires.reads.place c.requires.sound c.requires.reads.there c.requires.reads.held c.requires.reads.yielded in
    let same = place_found c.args.table.now.places.items c.args.place c.requires.reads.place c.index_mut.result.now c.requires.reads.there c.index_mut.ensures.value in
    let half = one_some c.in-Some.input s.0 (sym c.in-Some.is ∙ c.give_reading.ensures.half ∙ ap (λ (x : Place _ _). x.input) same ∙ s.2) in
    record {
      place = c.requires.reads.place;
      there = c.requires.reads.there;
      sum = adds_up _ _ c.settle-counts.result c.settle-counts.ensures.halves c.settle-counts.ensures.sent c.settle-counts.ensures.got c.settle-counts.ensures.rest;
      read_out = λ m. nothing_left _ _ c.settle-counts.result c.settle-counts.ensures.halves
          (ap (λ (i : _). (g.P.Pipes.known.reading c.args.pipes.now i).ended) half ∙ s.3.met m)
          c.settle-counts.ensures.sent c.settle-counts.ensures.got c.settle-counts.ensures.rest;
      now = ap (λ (x : Place _ _). set c.args.table.now.places.items c.args.place x)
          (c.give_reading.ensures.gone ∙ ap (λ (x : Place _ _). record x { held = false; input = None }) same);
    }

pub unreachable-requires : goal.unreachable-requires
unreachable-requires g c =
    let s = reading_there g.P.Pipes.known c.args.pipes.now c.args.table.now.rows.items c.args.table.now.places.items c.args.place c.requires.reads.place c.requires.sound c.requires.reads.there c.requires.reads.held c.requires.reads.yielded in
    let same = place_found c.args.table.now.places.items c.args.place c.requires.reads.place c.index_mut.result.now c.requires.reads.there c.index_mut.ensures.value in
    no_input s.0 c.give_reading.result c.in-None.is (c.give_reading.ensures.half ∙ ap (λ (x : Place _ _). x.input) same ∙ s.2)

pub returns-in-Some-clause-others : goal.returns-in-Some-clause-others
returns-in-Some-clause-others g c =
    let p = c.requires.reads.place in
    let same = place_found c.args.table.now.places.items c.args.place p c.index_mut.result.now c.requires.reads.there c.index_mut.ensures.value in
    leaves_settled g.P.Pipes.known c.args.pipes.now c.settle-counts.new.self c.args.table.now _ c.args.place p c.requires.reads.there c.requires.reads.held
    (place_now c.args.table.now.places.items _ c.args.place p (record p { held = false; input = None }) c.requires.reads.there
    (record { end_is = refl; written_is = refl; read_is = refl; held = λ h. absurd (true≢false (sym h)); writes = λ w. w })
    (ap (set c.args.table.now.places.items c.args.place) (c.give_reading.ensures.gone ∙ ap (λ (x : Place _ _). record x { held = false; input = None }) same)))
    (g.P.Pipes.known.out_name c.args.writer) (sym c.requires.reads.pipe) c.settle-counts.ensures.keeps
    (c.and-table.ensures ∙ ap (λ (n : _). c.args.table.now.settled.items ++ (n, tt) ∷ []) c.name-name.ensures)

pub returns-in-Some-clause-counts : goal.returns-in-Some-clause-counts
returns-in-Some-clause-counts g c =
    let s = reading_there g.P.Pipes.known c.args.pipes.now c.args.table.now.rows.items c.args.table.now.places.items c.args.place c.requires.reads.place c.requires.sound c.requires.reads.there c.requires.reads.held c.requires.reads.yielded in
    let same = place_found c.args.table.now.places.items c.args.place c.requires.reads.place c.index_mut.result.now c.requires.reads.there c.index_mut.ensures.value in
    told_counts (g.P.Pipes.known.writing c.args.pipes.now c.args.writer) (g.P.Pipes.known.reading c.args.pipes.now c.in-Some.input) c.settle-counts.result c.settle-counts.ensures.sent c.settle-counts.ensures.got c.settle-counts.ensures.rest
    ∙ ap (counts_with g.P.Pipes.known c.args.pipes.now c.args.writer)
    (sym c.in-Some.is ∙ c.give_reading.ensures.half ∙ ap (λ (x : Place _ _). x.input) same
    ∙ sym (half_read g.P.Pipes.known c.args.pipes.now c.args.table.now.rows.items c.args.table.now.places.items c.args.place c.requires.reads.place c.requires.sound c.requires.reads.there c.requires.reads.held s.1))

pub returns-in-Some-clause-noted : goal.returns-in-Some-clause-noted
returns-in-Some-clause-noted g c = c.and-table.ensures ∙ ap (λ (n : _). c.args.table.now.settled.items ++ (n, tt) ∷ []) c.name-name.ensures

pub index-requires : goal.index-requires
index-requires g c = let w = place_within c.args.table.now.places.items c.args.place c.requires.reads.place c.requires.reads.there in omega (arith, w)

pub returns-in-Some-clause-changes : goal.returns-in-Some-clause-changes
returns-in-Some-clause-changes g c =
    let p = c.requires.reads.place in
    let here = place_found c.args.table.now.places.items c.args.place p c.index.result.now c.requires.reads.there c.index.ensures in
    let same = place_found c.args.table.now.places.items c.args.place p c.index_mut.result.now c.requires.reads.there c.index_mut.ensures.value in
    settles_once g.P.Pipes.known c.args.table.now.places.items _
    (place_now c.args.table.now.places.items _ c.args.place p (record p { held = false; input = None }) c.requires.reads.there
    (record { end_is = refl; written_is = refl; read_is = refl; held = λ h. absurd (true≢false (sym h)); writes = λ w. w })
    (ap (set c.args.table.now.places.items c.args.place) (c.give_reading.ensures.gone ∙ ap (λ (x : Place _ _). record x { held = false; input = None }) same)))
    c.args.place p c.requires.reads.there c.requires.reads.held c.index.result.now.end (ap (λ (x : Place _ _). x.end) (sym here)) c.args.did.now.items c.and.result.items c.args.pipes.now c.settle-counts.new.self
    (g.P.Pipes.known.out_name c.args.writer) c.and.ensures (sym c.requires.reads.pipe)
    (λ q at. ap (λ (x : Place _ _). x.held) (one_some q c.give_reading.new.place (sym at ∙ place_there c.args.table.now.places.items c.args.place p c.give_reading.new.place c.requires.reads.there) ∙ c.give_reading.ensures.gone))
    c.settle-counts.ensures.keeps

pub returns-in-Some-clause-none_made : goal.returns-in-Some-clause-none_made
returns-in-Some-clause-none_made g c = none_made (Settled c.args.place c.index.result.now.end) c.args.did.now.items c.and.result.items c.settle-counts.new.self c.and.ensures (λ e. refl)
