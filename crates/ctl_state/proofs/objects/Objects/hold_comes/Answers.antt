use Rattle.std.specs.Prelude.{◌<◌, ℕ}
use Rattle.std.proofs.Common.{sym, ◌∙◌, subst}
use Rattle.std.proofs.lemmas.List.{length-set, get_or_read}
use Rattle.ctl_state.specs.declared.belongings.Belongings.{Belongings}
use Rattle.ctl_state.specs.Listed.{with_last}
use Rattle.ctl_state.specs.Lists.{belongings_at, no_belongings}
use Rattle.ctl_state.specs.Objects.{ObjectRows}
use Rattle.ctl_state.proofs.ListedLemmas.{hold_placed}
use Rattle.ctl_state.proofs.KeptLemmas.{holds_written}
use Rattle.ctl_state.proofs.objects.Objects.hold_comes.Goals as goal

pub index_mut-requires : goal.index_mut-requires
index_mut-requires c = subst (λ (n : ℕ). c.args.id.0 < n) (sym c.self.inside.lists.ok.0)
    (hold_placed c.self.inside.lists.items c.args.id.0 (subst (λ (o : ObjectRows). 0 < (belongings_at o.lists c.args.id.0).holds.spare) (sym c.self.view_is) c.requires.room))

pub push-requires : goal.push-requires
push-requires c = record {
  room = subst (λ (b : Belongings). 0 < b.holds.spare) (sym (get_or_read c.self.inside.lists.items c.args.id.0 c.index_mut.result.now (hold_placed c.self.inside.lists.items c.args.id.0 (subst (λ (o : ObjectRows). 0 < (belongings_at o.lists c.args.id.0).holds.spare) (sym c.self.view_is) c.requires.room)) c.index_mut.ensures.value no_belongings))
      (subst (λ (o : ObjectRows). 0 < (belongings_at o.lists c.args.id.0).holds.spare) (sym c.self.view_is) c.requires.room);
}

pub invariant_of-self : goal.invariant_of-self
invariant_of-self c = (c.self.invariant.0, length-set c.self.inside.lists.items c.args.id.0 _ ∙ c.self.invariant.1)

pub returns : goal.returns
returns c = holds_written (with_last c.args.hold) c.args.id.0 _ _ c.index_mut.result.now _ c.self.view_is
    (get_or_read c.self.inside.lists.items c.args.id.0 c.index_mut.result.now (hold_placed c.self.inside.lists.items c.args.id.0 (subst (λ (o : ObjectRows). 0 < (belongings_at o.lists c.args.id.0).holds.spare) (sym c.self.view_is) c.requires.room)) c.index_mut.ensures.value no_belongings) c.push.ensures
