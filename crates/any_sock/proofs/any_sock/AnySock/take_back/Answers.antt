use Rattle.any_sock.proofs.DetachLemmas.{pair_left}
use Rattle.any_sock.proofs.TakeBackLemmas.{others_back, pair_back}
use Rattle.any_sock.proofs.RouterBackLemmas.{router_back}
use Rattle.any_sock.proofs.any_sock.AnySock.take_back.Goals as goal

pub returns-in-Router : goal.returns-in-Router
returns-in-Router c = router_back c.args.pair c.args.place c.args.self.now c.in-Router.router c.take_back.new.self c.in-Router.is c.take_back.ensures.leaves c.take_back.ensures.undone

pub returns-in-Pair : goal.returns-in-Pair
returns-in-Pair c =
    pair_back c.args.pair c.args.place c.args.self.now c.in-Pair.peer c.detach.new.self c.in-Pair.is c.detach.ensures
    (pair_left c.args.pair c.args.place c.args.self.now c.in-Pair.peer c.detach.new.self c.in-Pair.is c.detach.ensures)

pub returns-in_default : goal.returns-in_default
returns-in_default c =
    others_back c.args.pair c.args.place c.args.self.now c.detach-in_default.new.self c.in_default.not-Router c.in_default.not-Pair c.detach-in_default.ensures
