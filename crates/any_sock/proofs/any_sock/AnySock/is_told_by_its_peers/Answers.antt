use Rattle.any_sock.proofs.ToldLemmas.{told_as, told_push, told_pull, told_pair, told_dealer, told_req, told_rep, told_router, told_pub, told_xpub, told_sub, told_xsub}
use Rattle.any_sock.proofs.any_sock.AnySock.is_told_by_its_peers.Goals as goal

pub returns-in-Push : goal.returns-in-Push
returns-in-Push c = told_as _ _ c.in-Push.is (told_push _)

pub returns-in-Pull : goal.returns-in-Pull
returns-in-Pull c = told_as _ _ c.in-Pull.is (told_pull _)

pub returns-in-Pair : goal.returns-in-Pair
returns-in-Pair c = told_as _ _ c.in-Pair.is (told_pair _)

pub returns-in-Dealer : goal.returns-in-Dealer
returns-in-Dealer c = told_as _ _ c.in-Dealer.is (told_dealer _)

pub returns-in-Req : goal.returns-in-Req
returns-in-Req c = told_as _ _ c.in-Req.is (told_req _ c.has_asked_a_peer.ensures)

pub returns-in-Rep : goal.returns-in-Rep
returns-in-Rep c = told_as _ _ c.in-Rep.is (told_rep _ c.owes_a_peer.ensures)

pub returns-in-Router : goal.returns-in-Router
returns-in-Router c = told_as _ _ c.in-Router.is (told_router _)

pub returns-in-Pub : goal.returns-in-Pub
returns-in-Pub c = told_as _ _ c.in-Pub.is (told_pub _ c.hears_its_peers.ensures)

pub returns-in-XPub : goal.returns-in-XPub
returns-in-XPub c = told_as _ _ c.in-XPub.is (told_xpub _ c.hears_its_peers-in-XPub.ensures)

pub returns-in-Sub : goal.returns-in-Sub
returns-in-Sub c = told_as _ _ c.in-Sub.is (told_sub _)

pub returns-in-XSub : goal.returns-in-XSub
returns-in-XSub c = told_as _ _ c.in-XSub.is (told_xsub _)
