use Rattle.std.proofs.Common.{arith, ◌≢◌, ◌<◌, ℕ, List, [], ◌∷◌, get_or}
use Rattle.zq_base.specs.Kind.{kind_name}
use Rattle.zq_base.specs.declared.kind.Kind.{Kind}
use Rattle.zq_base.specs.declared.kind.Kind.TheVariants.{Push, Pull, Pair, Dealer, Req, Rep, Router, Pub, XPub, Sub, XSub}
use Rattle.zq_base.proofs.kind.Kind.read.Goals as goal

abbrev kinds : List Kind
kinds = Push ∷ Pull ∷ Pair ∷ Dealer ∷ Req ∷ Rep ∷ Router ∷ Pub ∷ XPub ∷ Sub ∷ XSub ∷ []

-- what holds at each place holds of each kind
each_kind : (P : Kind → Type 0) → ((i : ℕ) (d : Kind) → i < 11 → P (get_or kinds i d)) → (k : Kind) → P k
each_kind P h Push = h 0 Push (omega arith)
each_kind P h Pull = h 1 Push (omega arith)
each_kind P h Pair = h 2 Push (omega arith)
each_kind P h Dealer = h 3 Push (omega arith)
each_kind P h Req = h 4 Push (omega arith)
each_kind P h Rep = h 5 Push (omega arith)
each_kind P h Router = h 6 Push (omega arith)
each_kind P h Pub = h 7 Push (omega arith)
each_kind P h XPub = h 8 Push (omega arith)
each_kind P h Sub = h 9 Push (omega arith)
each_kind P h XSub = h 10 Push (omega arith)

pub returns-clause-none : goal.returns-clause-none
returns-clause-none c = each_kind (λ k. kind_name k ≢ c.args.name.now) (λ i d inside. c.loop-kind.invariant i d (let done = c.loop-kind-test.false in omega (arith, done)))
