use Rattle.std.proofs.Common.{cond, ap, sym, subst}
use Rattle.pub_sub.specs.Notes.{InboxState}
use Rattle.pub_sub.specs.Audiences.{CanTell}
use Rattle.pub_sub.proofs.RoomLemmas.{CanTell-last, CanTell-gone, CanTell-unknown, CanTell-silent_cancel, has_spare, cancel-last, cancel-gone, cancel-unknown}
use Rattle.pub_sub.proofs.audience.Audience.cancel.Goals as goal

pub returns-in-Last-clause-can : goal.returns-in-Last-clause-can
returns-in-Last-clause-can c =
    subst (λ l. CanTell c.args.self.now.tells c.args.self.now.inbox.spare l (cond c.args.self.now.tells 1 0)) (sym c.in-Last.ensures.next)
    (CanTell-last c.args.self.now.tells c.args.self.now.inbox.spare c.args.place c.args.topic.now c.args.self.now.topics c.args.self.now.verbose
    c.requires.can c.requires.known (cancel-last c.args.self.now.verbose c.args.place c.args.topic.now c.args.self.now.topics c.in-Last.ensures.reply))

pub release-requires : goal.release-requires
release-requires c =
    has_spare c.args.self.now.tells c.args.self.now.inbox.spare c.args.place c.args.topic.now c.args.self.now.topics c.args.self.now.verbose
    c.requires.can c.requires.known (cancel-gone c.args.self.now.verbose c.args.place c.args.topic.now c.args.self.now.topics c.in-Gone.ensures.reply) c.if-self.true

pub returns-then-self-clause-can : goal.returns-then-self-clause-can
returns-then-self-clause-can c =
    subst (λ l. CanTell c.args.self.now.tells c.release.new.self.spare l 0) (sym c.in-Gone.ensures.next)
    (CanTell-gone c.args.self.now.tells c.args.self.now.inbox.spare c.args.place c.args.topic.now c.args.self.now.topics c.args.self.now.verbose c.release.new.self.spare
    c.requires.can c.requires.known (cancel-gone c.args.self.now.verbose c.args.place c.args.topic.now c.args.self.now.topics c.in-Gone.ensures.reply) c.if-self.true
    (ap (λ (i : InboxState). i.spare) c.release.ensures))

pub returns-in-Unknown-clause-can : goal.returns-in-Unknown-clause-can
returns-in-Unknown-clause-can c =
    subst (λ l. CanTell c.args.self.now.tells c.args.self.now.inbox.spare l 0) (sym c.in-Unknown.ensures.next)
    (CanTell-unknown c.args.self.now.tells c.args.self.now.inbox.spare c.args.place c.args.topic.now c.args.self.now.topics c.args.self.now.verbose
    c.requires.can c.requires.known (cancel-unknown c.args.self.now.verbose c.args.place c.args.topic.now c.args.self.now.topics c.in-Unknown.ensures.reply))

pub returns-else-self-clause-can : goal.returns-else-self-clause-can
returns-else-self-clause-can c =
    subst (λ l. CanTell c.args.self.now.tells c.args.self.now.inbox.spare l 0) (sym c.in-Gone.ensures.next)
    (CanTell-silent_cancel c.args.self.now.tells c.args.self.now.inbox.spare c.args.place c.args.topic.now c.args.self.now.topics c.requires.can c.if-self.false)
