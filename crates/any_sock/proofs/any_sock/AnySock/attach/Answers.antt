use Rattle.std.proofs.Common.{sym, ap, subst, ◌∙◌}
use Rattle.std.specs.Prelude.{◌<◌, All}
use Rattle.any_sock.specs.Over.{peer_places}
use Rattle.any_sock.specs.declared.any_sock.AnySock.{AnySock}
use Rattle.any_sock.specs.declared.any_sock.AnySock.TheVariants as sock
use Rattle.any_sock.proofs.PlaceLemmas.{all_behind}
use Rattle.any_sock.proofs.AttachLemmas.{taken_ok, taken_both, taken_err, err_for, push_taken, pull_taken, pair_taken, dealer_taken, req_taken, rep_taken, router_taken, router_err, pub_taken, xpub_taken, sub_taken, xsub_taken, new_place}
use Rattle.any_sock.proofs.any_sock.AnySock.attach.Goals as goal

pub returns-in-Push-clause-ok : goal.returns-in-Push-clause-ok
returns-in-Push-clause-ok c = taken_ok c.attach.result c.taken.result _ _ c.taken.ensures c.attach.ensures.ok (push_taken _ _ c.args.self.now c.in-Push.push c.attach.new.self c.in-Push.is)

pub returns-in-Push-clause-err : goal.returns-in-Push-clause-err
returns-in-Push-clause-err c = taken_err c.attach.result c.taken.result _ _ c.taken.ensures c.attach.ensures.err (λ same. ap sock.Push same ∙ sym c.in-Push.is)

pub returns-in-Pull-clause-ok : goal.returns-in-Pull-clause-ok
returns-in-Pull-clause-ok c = taken_ok c.attach-in-Pull.result c.taken-in-Pull.result _ _ c.taken-in-Pull.ensures c.attach-in-Pull.ensures.ok (pull_taken _ _ c.args.self.now c.in-Pull.pull c.attach-in-Pull.new.self c.in-Pull.is)

pub returns-in-Pull-clause-err : goal.returns-in-Pull-clause-err
returns-in-Pull-clause-err c = taken_err c.attach-in-Pull.result c.taken-in-Pull.result _ _ c.taken-in-Pull.ensures c.attach-in-Pull.ensures.err (λ same. ap sock.Pull same ∙ sym c.in-Pull.is)

pub returns-in-Dealer-clause-ok : goal.returns-in-Dealer-clause-ok
returns-in-Dealer-clause-ok c = taken_ok c.attach-in-Dealer.result c.taken-in-Dealer.result _ _ c.taken-in-Dealer.ensures c.attach-in-Dealer.ensures.ok (dealer_taken _ _ c.args.self.now c.in-Dealer.dealer c.attach-in-Dealer.new.self c.in-Dealer.is)

pub returns-in-Dealer-clause-err : goal.returns-in-Dealer-clause-err
returns-in-Dealer-clause-err c = taken_err c.attach-in-Dealer.result c.taken-in-Dealer.result _ _ c.taken-in-Dealer.ensures c.attach-in-Dealer.ensures.err (λ same. ap sock.Dealer same ∙ sym c.in-Dealer.is)

pub returns-in-Req-clause-ok : goal.returns-in-Req-clause-ok
returns-in-Req-clause-ok c = taken_ok c.attach-in-Req.result c.taken-in-Req.result _ _ c.taken-in-Req.ensures c.attach-in-Req.ensures.ok (req_taken _ _ c.args.self.now c.in-Req.req c.attach-in-Req.new.self c.in-Req.is)

pub returns-in-Req-clause-err : goal.returns-in-Req-clause-err
returns-in-Req-clause-err c = taken_err c.attach-in-Req.result c.taken-in-Req.result _ _ c.taken-in-Req.ensures c.attach-in-Req.ensures.err (λ same. ap sock.Req same ∙ sym c.in-Req.is)

pub returns-in-Rep-clause-ok : goal.returns-in-Rep-clause-ok
returns-in-Rep-clause-ok c = taken_ok c.attach-in-Rep.result c.taken-in-Rep.result _ _ c.taken-in-Rep.ensures c.attach-in-Rep.ensures.ok (rep_taken _ _ c.args.self.now c.in-Rep.rep c.attach-in-Rep.new.self c.in-Rep.is)

pub returns-in-Rep-clause-err : goal.returns-in-Rep-clause-err
returns-in-Rep-clause-err c = taken_err c.attach-in-Rep.result c.taken-in-Rep.result _ _ c.taken-in-Rep.ensures c.attach-in-Rep.ensures.err (λ same. ap sock.Rep same ∙ sym c.in-Rep.is)

pub returns-in-Pub-clause-ok : goal.returns-in-Pub-clause-ok
returns-in-Pub-clause-ok c = taken_both c.attach-in-Pub.result c.taken-in-Pub.result _ _ _ c.taken-in-Pub.ensures c.attach-in-Pub.ensures.ok c.attach-in-Pub.ensures.defined (pub_taken _ _ c.args.self.now c.in-Pub.publisher c.attach-in-Pub.new.self c.in-Pub.is)

pub returns-in-Pub-clause-err : goal.returns-in-Pub-clause-err
returns-in-Pub-clause-err c = taken_err c.attach-in-Pub.result c.taken-in-Pub.result _ _ c.taken-in-Pub.ensures c.attach-in-Pub.ensures.err (λ same. ap sock.Pub same ∙ sym c.in-Pub.is)

pub returns-in-XPub-clause-ok : goal.returns-in-XPub-clause-ok
returns-in-XPub-clause-ok c = taken_both c.attach-in-XPub.result c.taken-in-XPub.result _ _ _ c.taken-in-XPub.ensures c.attach-in-XPub.ensures.ok c.attach-in-XPub.ensures.defined (xpub_taken _ _ c.args.self.now c.in-XPub.publisher c.attach-in-XPub.new.self c.in-XPub.is)

pub returns-in-XPub-clause-err : goal.returns-in-XPub-clause-err
returns-in-XPub-clause-err c = taken_err c.attach-in-XPub.result c.taken-in-XPub.result _ _ c.taken-in-XPub.ensures c.attach-in-XPub.ensures.err (λ same. ap sock.XPub same ∙ sym c.in-XPub.is)

pub returns-in-Pair-clause-ok : goal.returns-in-Pair-clause-ok
returns-in-Pair-clause-ok c = pair_taken _ _ c.args.self.now c.attach-in-Pair.result c.in-Pair.pair c.attach-in-Pair.new.self c.in-Pair.is c.attach-in-Pair.ensures.answer c.attach-in-Pair.ensures.ok

pub attach-requires-in-Router-clause-new : goal.attach-requires-in-Router-clause-new
attach-requires-in-Router-clause-new c =
    let last = subst (λ (q : AnySock). All (λ k. k < c.args.place) (peer_places q)) c.in-Router.is c.requires.last in
    new_place c.in-Router.router.names c.args.place (all_behind (λ k. k < c.args.place) c.in-Router.router.ins _ last)

pub returns-in-Router-clause-ok : goal.returns-in-Router-clause-ok
returns-in-Router-clause-ok c = router_taken _ c.in-Router.router _ c.args.self.now c.attach-in-Router.result c.attach-in-Router.new.self c.in-Router.is c.attach-in-Router.ensures.attaches c.attach-in-Router.ensures.bad_id

pub returns-in-Router-clause-err : goal.returns-in-Router-clause-err
returns-in-Router-clause-err c = err_for c.attach-in-Router.result _ _ (router_err _ c.in-Router.router _ c.attach-in-Router.result c.attach-in-Router.new.self c.attach-in-Router.ensures.attaches) (λ same. ap sock.Router same ∙ sym c.in-Router.is)

pub returns-in-Sub-clause-ok : goal.returns-in-Sub-clause-ok
returns-in-Sub-clause-ok c = taken_both c.attach-in-Sub.result c.taken-in-Sub.result _ _ _ c.taken-in-Sub.ensures c.attach-in-Sub.ensures.ok c.attach-in-Sub.ensures.defined (sub_taken _ _ c.args.self.now c.in-Sub.subscriber c.attach-in-Sub.new.self c.in-Sub.is)

pub returns-in-Sub-clause-err : goal.returns-in-Sub-clause-err
returns-in-Sub-clause-err c = taken_err c.attach-in-Sub.result c.taken-in-Sub.result _ _ c.taken-in-Sub.ensures c.attach-in-Sub.ensures.err (λ same. ap sock.Sub same ∙ sym c.in-Sub.is)

pub returns-in-XSub-clause-ok : goal.returns-in-XSub-clause-ok
returns-in-XSub-clause-ok c = taken_both c.attach-in-XSub.result c.taken-in-XSub.result _ _ _ c.taken-in-XSub.ensures c.attach-in-XSub.ensures.ok c.attach-in-XSub.ensures.defined (xsub_taken _ _ c.args.self.now c.in-XSub.subscriber c.attach-in-XSub.new.self c.in-XSub.is)

pub returns-in-XSub-clause-err : goal.returns-in-XSub-clause-err
returns-in-XSub-clause-err c = taken_err c.attach-in-XSub.result c.taken-in-XSub.result _ _ c.taken-in-XSub.ensures c.attach-in-XSub.ensures.err (λ same. ap sock.XSub same ∙ sym c.in-XSub.is)

pub attach-requires-in-Sub : goal.attach-requires-in-Sub
attach-requires-in-Sub c =
    let last = subst (λ (q : AnySock). All (λ k. k < c.args.place) (peer_places q)) c.in-Sub.is c.requires.last in
    record { last = all_behind (λ k. k < c.args.place) c.in-Sub.subscriber.ins _ last }

pub attach-requires-in-XSub : goal.attach-requires-in-XSub
attach-requires-in-XSub c =
    let last = subst (λ (q : AnySock). All (λ k. k < c.args.place) (peer_places q)) c.in-XSub.is c.requires.last in
    record { last = all_behind (λ k. k < c.args.place) c.in-XSub.subscriber.ins _ last }
