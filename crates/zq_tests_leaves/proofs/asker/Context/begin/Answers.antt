use Rattle.std.proofs.Common.{ap, subst}
use Rattle.spec_control.specs.declared.request.Reply.{Reply}
use Rattle.spec_control.specs.declared.request.Reply.TheVariants.{Object}
use Rattle.spec_control.specs.declared.request.Req.TheVariants.{Socket as MakeSocket}
use Rattle.plain_desk.specs.Lent.{Asks}
use Rattle.plain_desk.proofs.GrowLemmas.{asks_grow}
use Rattle.zq_tests_leaves.proofs.AskerLemmas.{made_says}
use Rattle.zq_tests_leaves.proofs.LaterLemmas.{first_lent, none_behind, none_lent, same_caller}
use Rattle.zq_tests_leaves.proofs.asker.Context.begin.Goals as goal

pub invariant_of-result : goal.invariant_of-result
invariant_of-result g c =
    let holder = c.new-holder.result in
    let a = c.self.inside in
    let lent = c.lend.new.self in
    let made = c.make_socket.new.self in
    let asks : Asks (MakeSocket c.args.kind c.args.options) (Object c.in-Ok-Object.object) lent made =
    subst (λ (reply : Reply). Asks (MakeSocket c.args.kind c.args.options) reply lent made) c.in-Ok-Object.field-0-is c.in-Ok-Object.ensures.ok in
    let grows = asks_grow lent made (MakeSocket c.args.kind c.args.options) (Object c.in-Ok-Object.object) asks in
    let is = ap (λ d. d.caller) c.lend.ensures in (
      record {
        sound = holder.sound;
        peers_are = holder.peers;
        room = holder.room;
        gone = holder.gone;
        stopped_is = holder.stopped;
        flagged = holder.flagged;
        in_use = holder.in_use;
        settled_are = holder.settled_are;
        sealed_are = holder.sealed_are;
      },
      made_says g.C.Joins.kind c.args.state c.args.kind c.requires.kind c.args.options c.args.number.0 c.requires.some holder.core c.new-holder.ensures.socket
          c.in-Ok-Object.object c.if-object-number.true lent made (first_lent a.next a.desk lent c.lend.ensures c.self.invariant) asks,
      same_caller a.next lent made grows is,
      none_behind a.next lent made grows is (none_lent a.next a.desk lent c.lend.ensures c.self.invariant),
    )
