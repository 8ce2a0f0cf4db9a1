use Rattle.std.specs.Prelude.{◌++◌, ◌∷◌, [], ℕ, List}
use Rattle.std.proofs.Common.{ap, sym, ◌∙◌}
use Rattle.spec_control.specs.Control.{owner_of}
use Rattle.spec_control.specs.declared.entry.Joining.{Joining}
use Rattle.spec_control.specs.declared.entry.PipeName.{PipeName}
use Rattle.ctl_moves.specs.JoinNoting.{joins_named, pipes_named}
use Rattle.ctl_moves.proofs.ShakeLemmas.{have_places, is_marked, marked_still, may_make_sizes, may_open_shaken, shaken_new, shakes}
use Rattle.ctl_moves.proofs.shaking.shake.Goals as goal

pub inward_of-sizes-requires : goal.inward_of-sizes-requires
inward_of-sizes-requires g c =
    let w = c.requires.may in
    record { marked = is_marked c.args.state.now (g.H.Holder.holding c.args.holder.now) c.args.session c.args.first w c.keep_shake_room.new.state (c.in-Ok-keep_shake_room.ensures.ok w.control w.stands) }

pub attach_alone-requires-clause-new : goal.attach_alone-requires-clause-new
attach_alone-requires-clause-new g c = shaken_new c.args.state.now (g.H.Holder.holding c.args.holder.now) c.args.session c.args.first c.requires.may

pub attach_alone-requires-clause-written : goal.attach_alone-requires-clause-written
attach_alone-requires-clause-written g c =
    let w = c.requires.may in
    (c.inward_of-sizes.ensures (is_marked c.args.state.now (g.H.Holder.holding c.args.holder.now) c.args.session c.args.first w c.keep_shake_room.new.state (c.in-Ok-keep_shake_room.ensures.ok w.control w.stands)) c.args.first).written_fits

pub attach_alone-requires-clause-read : goal.attach_alone-requires-clause-read
attach_alone-requires-clause-read g c =
    let w = c.requires.may in
    (c.inward_of-sizes.ensures (is_marked c.args.state.now (g.H.Holder.holding c.args.holder.now) c.args.session c.args.first w c.keep_shake_room.new.state (c.in-Ok-keep_shake_room.ensures.ok w.control w.stands)) c.args.first).read_fits

pub attach_alone-requires-clause-may : goal.attach_alone-requires-clause-may
attach_alone-requires-clause-may g c =
    let m = c.requires.makes in
    may_make_sizes c.args.state.now c.args.session c.args.first g.H.Holder.may_make m c.inward_of-sizes.result
    (c.inward_of-sizes.ensures (marked_still c.args.state.now c.args.session c.args.first g.H.Holder.may_make m c.keep_shake_room.new.state (c.in-Ok-keep_shake_room.ensures.ok m.control m.stands)) c.args.first)

pub keep_shake_room-requires : goal.keep_shake_room-requires
keep_shake_room-requires g c =
    let w = c.requires.may in
    let are = c.of-o.ensures w.control w.stands in
    let last_is = ap (owner_of w.control) (sym c.other.ensures) ∙ c.owner-last.ensures.stands w.control w.stands in
    record { there = have_places c.args.state.now (g.H.Holder.holding c.args.holder.now) c.args.session c.args.first w c.of-o.result c.owner-last.result are last_is }

pub open_shaken-requires : goal.open_shaken-requires
open_shaken-requires g c =
    let w = c.requires.may in
    let are = c.of-o.ensures w.control w.stands in
    let last_is = ap (owner_of w.control) (sym c.other.ensures) ∙ c.owner-last.ensures.stands w.control w.stands in
    record {
      may = may_open_shaken c.args.state.now (g.H.Holder.holding c.args.holder.now) c.args.session c.args.first w c.of-o.result c.owner-last.result are last_is c.keep_shake_room.new.state c.in-Ok-keep_shake_room.ensures.next (c.in-Ok-keep_shake_room.ensures.ok w.control w.stands)
          g.P.Pipes.known.out_name g.P.Pipes.known.in_name c.in-Ok-attach_alone.end (g.H.Holder.holding c.attach_alone.new.holder) c.in-Ok-attach_alone.ensures.ok;
    }

pub returns-in-Ok-attach_alone-clause-ok : goal.returns-in-Ok-attach_alone-clause-ok
returns-in-Ok-attach_alone-clause-ok g c = λ w.
    let are = c.of-o.ensures w.control w.stands in
    let last_is = ap (owner_of w.control) (sym c.other.ensures) ∙ c.owner-last.ensures.stands w.control w.stands in
    shakes c.args.state.now (g.H.Holder.holding c.args.holder.now) c.args.session c.args.first w c.of-o.result c.owner-last.result are last_is c.keep_shake_room.new.state c.in-Ok-keep_shake_room.ensures.next (c.in-Ok-keep_shake_room.ensures.ok w.control w.stands)
    g.P.Pipes.known.out_name g.P.Pipes.known.in_name c.in-Ok-attach_alone.end (g.H.Holder.holding c.attach_alone.new.holder) c.in-Ok-attach_alone.ensures.ok
    c.args.identity c.open_shaken.new.state (g.H.Holder.holding c.open_shaken.new.holder) c.note.new.self
    (c.open_shaken.ensures (may_open_shaken c.args.state.now (g.H.Holder.holding c.args.holder.now) c.args.session c.args.first w c.of-o.result c.owner-last.result are last_is c.keep_shake_room.new.state c.in-Ok-keep_shake_room.ensures.next (c.in-Ok-keep_shake_room.ensures.ok w.control w.stands)
    g.P.Pipes.known.out_name g.P.Pipes.known.in_name c.in-Ok-attach_alone.end (g.H.Holder.holding c.attach_alone.new.holder) c.in-Ok-attach_alone.ensures.ok))
    (c.note.ensures.joined ∙ ap (λ (peer : List ℕ). c.in-Ok.notes.joined.items ++ joins_named c.args.first peer c.in-Ok-attach_alone.end.answer c.in-Ok-attach_alone.end.told ∷ []) c.new.ensures
    ∙ ap (λ (xs : List (Joining g.row.P-Name.Denot)). xs ++ joins_named c.args.first [] c.in-Ok-attach_alone.end.answer c.in-Ok-attach_alone.end.told ∷ []) c.in-Ok.ensures.joined)
    (c.note.ensures.opened ∙ ap (λ (xs : List (PipeName g.row.P-Name.Denot)). xs ++ pipes_named c.args.first c.in-Ok-attach_alone.end.opened) c.in-Ok.ensures.opened)

pub give_shake_room_back-requires : goal.give_shake_room_back-requires
give_shake_room_back-requires g c =
    let w = c.requires.may in
    let are = c.of-o.ensures w.control w.stands in
    let last_is = ap (owner_of w.control) (sym c.other.ensures) ∙ c.owner-last.ensures.stands w.control w.stands in
    record { kept = record { before = c.args.state.now; places = have_places c.args.state.now (g.H.Holder.holding c.args.holder.now) c.args.session c.args.first w c.of-o.result c.owner-last.result are last_is; is = c.in-Ok-keep_shake_room.ensures.next } }

pub returns-in-Err-attach_alone-clause-err : goal.returns-in-Err-attach_alone-clause-err
returns-in-Err-attach_alone-clause-err g c =
    let w = c.requires.may in
    let are = c.of-o.ensures w.control w.stands in
    let last_is = ap (owner_of w.control) (sym c.other.ensures) ∙ c.owner-last.ensures.stands w.control w.stands in
    c.give_shake_room_back.ensures (record { before = c.args.state.now; places = have_places c.args.state.now (g.H.Holder.holding c.args.holder.now) c.args.session c.args.first w c.of-o.result c.owner-last.result are last_is; is = c.in-Ok-keep_shake_room.ensures.next })
