use Rattle.router_dealer.specs.NameTable.{state_of}
use Rattle.router_dealer.proofs.RouterLemmas.{IsReady-new}
use Rattle.router_dealer.proofs.router.Router.new.Goals as goal

pub invariant_of-result : goal.invariant_of-result
invariant_of-result c =
    IsReady-new (state_of c.new.result c.new-2.result 0 c.args.mandatory c.new-3.result.kept)
    c.new-3.result.room c.new-4.result.items c.new.ensures c.new-2.ensures c.new-4.ensures.items
