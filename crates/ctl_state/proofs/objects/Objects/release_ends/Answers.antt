use Rattle.std.specs.Prelude.{◌<◌, ℕ, length}
use Rattle.std.proofs.Common.{sym, subst}
use Rattle.ctl_state.specs.Objects.{ObjectRows}
use Rattle.ctl_state.proofs.objects.Objects.release_ends.Goals as goal

pub index_mut-requires : goal.index_mut-requires
index_mut-requires c = subst (λ (n : ℕ). c.args.id.0 < n) (sym c.self.inside.lists.ok.0)
    (subst (λ (o : ObjectRows). c.args.id.0 < length o.lists) (sym c.self.view_is) c.requires.there)
