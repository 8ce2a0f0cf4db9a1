-- A socket of a kind without peers is one of any kind.
use Rattle.std.proofs.Common.{◌≡◌, sym, subst}
use Rattle.zq_base.specs.declared.kind.Kind.{Kind}
use Rattle.zq_base.specs.declared.options.Options.{Options}
use Rattle.any_sock.specs.Fresh.{IsWithoutPeers}
use Rattle.any_sock.specs.declared.any_sock.AnySock.{AnySock}

-- the same of a kind and a socket that are these
pub fresh_as : (options : Options) (k k' : Kind) (s t : AnySock) → k ≡ k' → s ≡ t → IsWithoutPeers k' options t → IsWithoutPeers k options s
fresh_as options k k' s t e f h = subst (λ (u : Kind × AnySock). IsWithoutPeers u.0 options u.1) (λ i. (sym e i, sym f i)) h
