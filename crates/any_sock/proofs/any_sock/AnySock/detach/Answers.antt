use Rattle.any_sock.proofs.DetachLemmas.{push_left, pull_left, pair_left, dealer_left, req_left, rep_left, router_left, pub_left, xpub_left, sub_left, xsub_left}
use Rattle.any_sock.proofs.any_sock.AnySock.detach.Goals as goal

pub returns-in-Push : goal.returns-in-Push
returns-in-Push c = push_left _ _ c.args.self.now c.in-Push.push c.detach.new.self c.in-Push.is c.detach.ensures

pub returns-in-Pull : goal.returns-in-Pull
returns-in-Pull c = pull_left _ _ c.args.self.now c.in-Pull.pull c.detach-in-Pull.new.self c.in-Pull.is c.detach-in-Pull.ensures

pub returns-in-Pair : goal.returns-in-Pair
returns-in-Pair c = pair_left _ _ c.args.self.now c.in-Pair.peer c.detach-in-Pair.new.self c.in-Pair.is c.detach-in-Pair.ensures

pub returns-in-Dealer : goal.returns-in-Dealer
returns-in-Dealer c = dealer_left _ _ c.args.self.now c.in-Dealer.dealer c.detach-in-Dealer.new.self c.in-Dealer.is c.detach-in-Dealer.ensures

pub returns-in-Req : goal.returns-in-Req
returns-in-Req c = req_left _ _ c.args.self.now c.in-Req.req c.detach-in-Req.new.self c.in-Req.is c.detach-in-Req.ensures

pub returns-in-Rep : goal.returns-in-Rep
returns-in-Rep c = rep_left _ _ c.args.self.now c.in-Rep.rep c.detach-in-Rep.new.self c.in-Rep.is c.detach-in-Rep.ensures

pub returns-in-Router : goal.returns-in-Router
returns-in-Router c = router_left _ _ c.args.self.now c.in-Router.router c.detach-in-Router.new.self c.in-Router.is c.detach-in-Router.ensures

pub returns-in-Pub : goal.returns-in-Pub
returns-in-Pub c = pub_left _ _ c.args.self.now c.in-Pub.publisher c.detach-in-Pub.new.self c.in-Pub.is c.detach-in-Pub.ensures.gone c.detach-in-Pub.ensures.defined c.detach-in-Pub.ensures.others

pub returns-in-XPub : goal.returns-in-XPub
returns-in-XPub c = xpub_left _ _ c.args.self.now c.in-XPub.publisher c.detach-in-XPub.new.self c.in-XPub.is c.detach-in-XPub.ensures.gone c.detach-in-XPub.ensures.defined c.detach-in-XPub.ensures.others

pub returns-in-Sub : goal.returns-in-Sub
returns-in-Sub c = sub_left _ _ c.args.self.now c.in-Sub.subscriber c.detach-in-Sub.new.self c.in-Sub.is c.detach-in-Sub.ensures.gone c.detach-in-Sub.ensures.defined c.detach-in-Sub.ensures.others

pub returns-in-XSub : goal.returns-in-XSub
returns-in-XSub c = xsub_left _ _ c.args.self.now c.in-XSub.subscriber c.detach-in-XSub.new.self c.in-XSub.is c.detach-in-XSub.ensures.gone c.detach-in-XSub.ensures.defined c.detach-in-XSub.ensures.others
