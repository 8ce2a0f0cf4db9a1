use Rattle.std.proofs.Common.{◌∙◌, ◌+◌, nat_eq, cond, ap, sym, subst}
use Rattle.spec_pattern.specs.Topics.{after_add}
use Rattle.sub_table.proofs.AnyLemmas.{row_is_key}
use Rattle.pub_sub.specs.declared.audience.Audience.{Audience}
use Rattle.pub_sub.specs.Notes.{InboxState}
use Rattle.pub_sub.specs.Audiences.{CanTell, gain_of}
use Rattle.pub_sub.proofs.RoomLemmas.{CanTell-silent_add, CanTell-add, CanTell-as}
use Rattle.pub_sub.proofs.audience.Audience.add.Goals as goal

pub add-requires : goal.add-requires
add-requires c = row_is_key c.args.place c.args.self.now.topics ∙ c.requires.known

pub add-requires-2 : goal.add-requires-2
add-requires-2 c = row_is_key c.args.place c.args.self.now.topics ∙ c.requires.known

pub returns-in-Ok-clause-can : goal.returns-in-Ok-clause-can
returns-in-Ok-clause-can c =
    CanTell-as c.args.self.now.tells c.take_in.new.self.tells c.take_in.new.self.inbox.spare (after_add nat_eq c.args.place c.args.topic.now c.args.self.now.topics) c.take_in.new.self.topics
    (cond c.take_in.result 1 0) (ap (λ (a : Audience). a.tells) c.take_in.ensures.ok) (ap (λ (a : Audience). a.topics) c.take_in.ensures.ok ∙ c.in-Ok.ensures.ok)
    (CanTell-add c.args.self.now.tells c.args.self.now.inbox.spare c.args.place c.args.topic.now c.args.self.now.topics c.in-Ok.added c.take_in.result c.take_in.new.self.inbox.spare
    c.requires.can c.requires.short c.requires.known c.in-Ok.ensures.reply
    (c.take_in.ensures.room ∙ ap (λ (i : InboxState). i.spare + (gain_of c.in-Ok.added + cond c.take_in.result 1 0)) c.in_ok-reserve.ensures.ok))

pub returns-then-not-self-clause-can : goal.returns-then-not-self-clause-can
returns-then-not-self-clause-can c =
    subst (λ l. CanTell c.args.self.now.tells c.args.self.now.inbox.spare l 0) (sym c.in_ok-add.ensures.ok)
    (CanTell-silent_add c.args.self.now.tells c.args.self.now.inbox.spare c.args.place c.args.topic.now c.args.self.now.topics c.requires.can c.requires.short c.if-not-self.true)
