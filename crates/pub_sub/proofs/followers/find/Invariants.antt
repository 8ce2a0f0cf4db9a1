use Rattle.std.proofs.Common.{◌≡◌, false, nat_eq, take, All}
use Rattle.pub_sub.proofs.followers.find.Given as goal

-- none so far is at this place
abbrev pub invariant-loop-index : goal.invariant-loop-index
invariant-loop-index l = All (λ f. nat_eq l.place f.place ≡ false) (take l.index l.followers)
