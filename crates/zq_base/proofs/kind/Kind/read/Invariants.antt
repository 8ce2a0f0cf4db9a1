use Rattle.std.proofs.Common.{◌≢◌, ◌<◌, ℕ, get_or}
use Rattle.zq_base.specs.declared.kind.Kind.{Kind}
use Rattle.zq_base.specs.Kind.{kind_name}
use Rattle.zq_base.proofs.kind.Kind.read.Given as goal

-- none of the kinds so far has this name
abbrev pub invariant-loop-kind : goal.invariant-loop-kind
invariant-loop-kind l = (i : ℕ) (d : Kind) → i < l.kind-index → kind_name (get_or l.kind-items i d) ≢ l.name
