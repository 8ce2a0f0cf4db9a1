use Rattle.std.proofs.Common.{arith, length, ◌≤◌, subst, sym}
use Rattle.push_pull.proofs.OnePeerLemmas.{shorter}
use Rattle.push_pull.proofs.pair_sock.PairSock.detach.Goals as goal

pub invariant_of-self : goal.invariant_of-self
invariant_of-self c =
    let few = shorter c.args.place c.self.inside.turns in
    let one = c.self.invariant in
    subst (λ l. length l ≤ 1) (sym c.remove.ensures) (omega (arith, few, one))
