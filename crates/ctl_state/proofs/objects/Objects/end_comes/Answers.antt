use Rattle.std.specs.Prelude.{◌≢◌, ◌<◌, ◌+◌, ◌^◌, ℕ}
use Rattle.std.proofs.Common.{sym, subst}
use Rattle.std.proofs.lemmas.List.{get_or_read}
use Rattle.spec_control.specs.declared.object.ObjState.TheVariants.{Ended}
use Rattle.own_tree.specs.Rows.{state_at}
use Rattle.ctl_state.specs.declared.belongings.Belongings.{Belongings}
use Rattle.ctl_state.specs.Lists.{belongings_at, no_belongings}
use Rattle.ctl_state.specs.Objects.{ObjectRows, tree_row}
use Rattle.ctl_state.proofs.ListedLemmas.{room_placed}
use Rattle.ctl_state.proofs.objects.Objects.end_comes.Goals as goal

pub owe-requires-clause-unended : goal.owe-requires-clause-unended
owe-requires-clause-unended c = subst (λ (o : ObjectRows). state_at o.tree c.args.id ≢ Ended) (sym c.self.view_is) c.requires.unended

pub owe-requires-clause-fits : goal.owe-requires-clause-fits
owe-requires-clause-fits c = subst (λ (o : ObjectRows). (tree_row o c.args.id.0).ends + 1 < 2 ^ 32) (sym c.self.view_is) c.requires.fits

pub index_mut-requires : goal.index_mut-requires
index_mut-requires c = subst (λ (n : ℕ). c.args.id.0 < n) (sym c.self.inside.lists.ok.0)
    (room_placed c.self.inside.lists.items c.args.id.0 (subst (λ (o : ObjectRows). 0 < (belongings_at o.lists c.args.id.0).ends.spare) (sym c.self.view_is) c.requires.room))

pub push-requires : goal.push-requires
push-requires c =
    let room = subst (λ (o : ObjectRows). 0 < (belongings_at o.lists c.args.id.0).ends.spare) (sym c.self.view_is) c.requires.room in
    record {
      room = subst (λ (b : Belongings). 0 < b.ends.spare)
          (sym (get_or_read c.self.inside.lists.items c.args.id.0 c.index_mut.result.now (room_placed c.self.inside.lists.items c.args.id.0 room) c.index_mut.ensures.value no_belongings)) room;
    }
