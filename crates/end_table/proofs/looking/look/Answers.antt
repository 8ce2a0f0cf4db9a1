use Rattle.std.proofs.Common.{◌∷◌, [], set, sym, ap, ◌∙◌, subst, arith, refl}
use Rattle.spec_pattern.specs.PipeStep.{read_through}
use Rattle.msg_pipe.specs.Told.{front_step}
use Rattle.zq_base.specs.Ends.{PipeId}
use Rattle.end_table.specs.Rows.{table, row_at, end_of}
use Rattle.end_table.specs.Runs.{DoesAll}
use Rattle.end_table.specs.declared.table.Place.{Place}
use Rattle.end_table.specs.Sound.{IsSound}
use Rattle.end_table.specs.Looking.{met_after}
use Rattle.end_table.proofs.PlaceLemmas.{place_within, place_found}
use Rattle.end_table.proofs.EndsLemmas.{ends_held}
use Rattle.end_table.proofs.LookLemmas.{row_of, look_sound, front_unsealed}
use Rattle.end_table.proofs.CallLemmas.{calls_leave}
use Rattle.end_table.proofs.OthersLemmas.{leaves_on, leaves_changed}
use Rattle.end_table.proofs.looking.look.Goals as goal

pub front_at-found-requires-clause-held : goal.front_at-found-requires-clause-held
front_at-found-requires-clause-held g c = ends_held g.P.Pipes.known c.args.pipes.now c.args.table.now.rows.items c.args.table.now.places.items c.requires.sound

pub front_at-found-requires-clause-there : goal.front_at-found-requires-clause-there
front_at-found-requires-clause-there g c =
    let w = c.requires.writes in
    let r = row_of g.P.Pipes.known c.args.pipes.now c.args.table.now.rows.items c.args.table.now.places.items c.args.place w.place c.requires.sound w.there w.held w.writes in
    (r.0, r.1)

pub index_mut-requires : goal.index_mut-requires
index_mut-requires g c = let w = place_within c.args.table.now.places.items c.args.place c.requires.writes.place c.requires.writes.there in omega (arith, w)

pub returns-clause-sound : goal.returns-clause-sound
returns-clause-sound g c =
    let t = c.args.table.now in
    let w = c.requires.writes in
    let r = row_of g.P.Pipes.known c.args.pipes.now t.rows.items t.places.items c.args.place w.place c.requires.sound w.there w.held w.writes in
    let found = c.front_at-found.result in
    let does : DoesAll g.P.Pipes.known (table c.args.pipes.now t.rows.items) (front_step (read_through w.place.end) found ∷ []) (table c.front_at-found.new.pipes c.front_at-found.new.rows.items) =
    subst (λ (e : PipeId). DoesAll g.P.Pipes.known (table c.args.pipes.now t.rows.items) (front_step (read_through e) found ∷ []) (table c.front_at-found.new.pipes c.front_at-found.new.rows.items))
    (ap end_of r.1 ∙ r.2.end_is) c.front_at-found.ensures in
    let same = place_found t.places.items c.args.place w.place c.index_mut.result.now w.there c.index_mut.ensures.value in
    let now = c.meet.ensures ∙ ap (λ (p : Place _ _). record p { met = met_after found p.met }) same in
    subst (λ (p : Place _ _). IsSound g.P.Pipes.known c.front_at-found.new.pipes c.front_at-found.new.rows.items (set t.places.items c.args.place p)) (sym now)
    (look_sound g.P.Pipes.known c.args.pipes.now c.front_at-found.new.pipes t.rows.items c.front_at-found.new.rows.items t.places.items c.args.place w.place c.requires.sound w.there w.held w.writes found does)

pub returns-clause-looked : goal.returns-clause-looked
returns-clause-looked g c =
    let t = c.args.table.now in
    let w = c.requires.writes in
    let r = row_of g.P.Pipes.known c.args.pipes.now t.rows.items t.places.items c.args.place w.place c.requires.sound w.there w.held w.writes in
    let found = c.front_at-found.result in
    let does : DoesAll g.P.Pipes.known (table c.args.pipes.now t.rows.items) (front_step (read_through w.place.end) found ∷ []) (table c.front_at-found.new.pipes c.front_at-found.new.rows.items) =
    subst (λ (e : PipeId). DoesAll g.P.Pipes.known (table c.args.pipes.now t.rows.items) (front_step (read_through e) found ∷ []) (table c.front_at-found.new.pipes c.front_at-found.new.rows.items))
    (ap end_of r.1 ∙ r.2.end_is) c.front_at-found.ensures in
    let same = place_found t.places.items c.args.place w.place c.index_mut.result.now w.there c.index_mut.ensures.value in
    let now = c.meet.ensures ∙ ap (λ (p : Place _ _). record p { met = met_after found p.met }) same in
    record { place = w.place; there = w.there; does = does; now = ap (set t.places.items c.args.place) now }

pub returns-clause-others : goal.returns-clause-others
returns-clause-others g c =
    let t = c.args.table.now in
    let w = c.requires.writes in
    let found = c.front_at-found.result in
    let same = place_found t.places.items c.args.place w.place c.index_mut.result.now w.there c.index_mut.ensures.value in
    leaves_on g.P.Pipes.known c.args.pipes.now c.front_at-found.new.pipes c.front_at-found.new.pipes t t _
    (calls_leave g.P.Pipes.known (front_step (read_through (end_of (row_at t.rows.items c.args.place))) found ∷ []) (table c.args.pipes.now t.rows.items) (table c.front_at-found.new.pipes c.front_at-found.new.rows.items) t t c.front_at-found.ensures (front_unsealed (read_through (end_of (row_at t.rows.items c.args.place))) found) c.requires.sound refl refl)
    (leaves_changed g.P.Pipes.known c.front_at-found.new.pipes t _ c.args.place w.place (record w.place { met = met_after found w.place.met }) w.there
    (record { end_is = refl; written_is = refl; read_is = refl; held = λ h. h; writes = λ w. w })
    (ap (set t.places.items c.args.place) (c.meet.ensures ∙ ap (λ (p : Place _ _). record p { met = met_after found p.met }) same)) refl)
