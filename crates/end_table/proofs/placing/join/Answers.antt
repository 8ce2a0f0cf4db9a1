use Rattle.std.proofs.Common.{sym, ap, ◌∙◌, ◌++◌, ◌∷◌, [], List, subst, Some, refl}
use Rattle.end_table.specs.Rows.{Rows}
use Rattle.end_table.specs.declared.row.EndRow.{EndRow}
use Rattle.end_table.specs.declared.table.Place.{Place}
use Rattle.end_table.specs.Attaching.{new_place}
use Rattle.end_table.specs.Sound.{IsSound}
use Rattle.end_table.proofs.AttachLemmas.{attached_sound}
use Rattle.end_table.specs.Others.{KeepsPlaces}
use Rattle.end_table.proofs.OthersLemmas.{place_comes, leaves_pipes}
use Rattle.end_table.proofs.placing.join.Goals as goal

pub returns-clause-sound : goal.returns-clause-sound
returns-clause-sound g c =
    let K = g.P.Pipes.known in
    let place = c.placed-place.ensures ∙ ap (λ (r : EndRow _ _). new_place r.end (K.out_name r.out) (K.in_name r.input) c.args.peer) c.deref.ensures in
    let places = c.push_reserved-2.ensures.items ∙ ap (λ (q : Place _ _). c.args.table.now.places.items ++ q ∷ []) place in
    subst (λ (l : Rows _ _). IsSound K c.args.pipes.now l c.push_reserved-2.new.self.items) (sym c.push_reserved.ensures.items)
    (subst (λ (l : List (Place _ _)). IsSound K c.args.pipes.now (c.args.table.now.rows.items ++ Some c.args.row ∷ []) l) (sym places)
    (attached_sound K c.args.pipes.now c.args.table.now.rows.items c.args.table.now.places.items c.args.row c.args.peer
    c.requires.sound c.requires.fits c.requires.new c.requires.writable))

pub returns-clause-others : goal.returns-clause-others
returns-clause-others g c =
    leaves_pipes g.P.Pipes.known c.args.pipes.now c.args.table.now _
    (subst (KeepsPlaces c.args.table.now.places.items) (sym c.push_reserved-2.ensures.items) (place_comes c.args.table.now.places.items c.placed-place.result))
    refl
