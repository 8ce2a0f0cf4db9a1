use Rattle.std.proofs.Common.{List, sym, ap, subst, ◌∙◌}
use Rattle.std.specs.List.{position}
use Rattle.end_table.specs.declared.table.Place.{Place}
use Rattle.end_table.specs.Places.{IsOnce, is_of}
use Rattle.sock_core.proofs.FindLemmas.{found, not_found, alone_of, once_of, held_is, never}
use Rattle.sock_core.proofs.HolderLemmas.{flag_at}
use Rattle.sock_core.proofs.LentLemmas.{writer_held}
use Rattle.sock_core.proofs.looks.look_in.Goals as goal

pub find-requires : goal.find-requires
find-requires g c =
    let t = c.args.ends.now in
    record {
      once = subst (IsOnce c.args.end) (sym c.deref.ensures.value)
          (once_of g.P.Pipes.known c.args.pipes.now t.rows.items t.places.items c.args.end c.requires.sound);
    }

pub look-requires-clause-writes : goal.look-requires-clause-writes
look-requires-clause-writes g c =
    let t = c.args.ends.now in
    let f = found (is_of c.args.end) t.places.items c.in-Some.place (sym c.in-Some.is ∙ c.find.ensures ∙ ap (λ (l : List (Place _ _)). position (is_of c.args.end) l) c.deref.ensures.value) in
    record {
      place = f.0;
      there = f.1;
      held = held_is c.args.end f.0 f.2;
      writes = flag_at t.places.items c.in-Some.place f.0 c.args.end f.1 f.2 (alone_of g.P.Pipes.known c.args.pipes.now t.rows.items t.places.items c.in-Some.place f.0 c.args.end c.requires.sound f.1 f.2) (λ (r : Place _ _). r.writes) c.requires.writes;
    }

pub unreachable-requires : goal.unreachable-requires
unreachable-requires g c =
    let t = c.args.ends.now in
    never (sym (writer_held c.args.end t.places.items c.requires.writes)
    ∙ not_found (is_of c.args.end) t.places.items (sym c.in-None.is ∙ c.find.ensures ∙ ap (λ (l : List (Place _ _)). position (is_of c.args.end) l) c.deref.ensures.value))

pub returns-in-Some-clause-looked : goal.returns-in-Some-clause-looked
returns-in-Some-clause-looked g c =
    let f = found (is_of c.args.end) c.args.ends.now.places.items c.in-Some.place (sym c.in-Some.is ∙ c.find.ensures ∙ ap (λ (l : List (Place _ _)). position (is_of c.args.end) l) c.deref.ensures.value) in
    record { place = c.in-Some.place; is_held = record { place = f.0; there = f.1; is = f.2 }; looks = c.look.ensures.looked }
