use Rattle.std.specs.Prelude.{◌++◌, ◌∷◌, [], Bool, true, false, List}
use Rattle.std.proofs.Common.{arith, ap, ◌∙◌}
use Rattle.std.proofs.lemmas.List.{append_assoc}
use Rattle.zq_base.specs.declared.ids.EndId.{EndId}
use Rattle.spec_control.specs.declared.entry.PipeName.{PipeName}
use Rattle.spec_control.specs.Control.{end_of}
use Rattle.ctl_moves.specs.JoinNoting.{a_name}
use Rattle.ctl_moves.proofs.notes.Notes.note.Goals as goal

pub push_reserved-requires : goal.push_reserved-requires
push_reserved-requires g c = let room = c.requires.room.joined in omega (arith, room)

pub push_reserved-requires-2 : goal.push_reserved-requires-2
push_reserved-requires-2 g c = let room = c.requires.room.opened in omega (arith, room)

pub push_reserved-requires-3 : goal.push_reserved-requires-3
push_reserved-requires-3 g c =
    let room = c.requires.room.opened in
    let len = c.push_reserved-2.ensures.len in
    let capacity = c.push_reserved-2.ensures.capacity in
    omega (arith, room, len, capacity)

pub returns-clause-joined : goal.returns-clause-joined
returns-clause-joined g c = c.push_reserved.ensures.items

pub returns-clause-room : goal.returns-clause-room
returns-clause-room g c = λ n h.
    let room = h.joined in
    let opened = h.opened in
    let len = c.push_reserved.ensures.len in
    let capacity = c.push_reserved.ensures.capacity in
    let len_a = c.push_reserved-2.ensures.len in
    let capacity_a = c.push_reserved-2.ensures.capacity in
    let len_b = c.push_reserved-3.ensures.len in
    let capacity_b = c.push_reserved-3.ensures.capacity in
    record {
      joined = omega (arith, room, len, capacity);
      opened = omega (arith, opened, len_a, capacity_a, len_b, capacity_b);
    }

abbrev pipe_named : {N : Type 0} → EndId → Bool → N → PipeName N
pipe_named first a name = record { pipe = end_of first.pair.0 a; name = name }

pub returns-clause-opened : goal.returns-clause-opened
returns-clause-opened g c =
    let had = c.args.self.now.opened.items in
    c.push_reserved-3.ensures.items
    ∙ ap (λ (xs : List (PipeName g.row.N.Denot)). xs ++ pipe_named c.args.first false c.by_side-a.result.1 ∷ []) c.push_reserved-2.ensures.items
    ∙ append_assoc had (pipe_named c.args.first true c.by_side-a.result.0 ∷ []) (pipe_named c.args.first false c.by_side-a.result.1 ∷ [])
    ∙ ap (λ (n : g.row.N.Denot). had ++ pipe_named c.args.first true n ∷ pipe_named c.args.first false c.by_side-a.result.1 ∷ []) c.by_side-a.ensures.a
    ∙ ap (λ (n : g.row.N.Denot). had ++ pipe_named c.args.first true (a_name c.args.first.a c.args.opened) ∷ pipe_named c.args.first false n ∷ []) c.by_side-a.ensures.b
