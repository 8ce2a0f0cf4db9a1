use Rattle.std.proofs.Common.{◌≡◌, ◌∙◌, ◌+◌, ◌-◌, ◌≤◌, ◌++◌, ◌∷◌, [], length, nat_eq, ap, sym, refl, suc, append_assoc, arith}
use Rattle.std.proofs.lemmas.List.Elements.{All-rest}
use Rattle.spec_pattern.specs.Topics.{topics_of, topics_gone, without_peer, IsTopic}
use Rattle.sub_table.proofs.GoneLemmas.{without_peer-only}
use Rattle.pub_sub.specs.Notes.{InboxState, notice, cancel}
use Rattle.pub_sub.specs.Publishers.{cancels_of}
use Rattle.pub_sub.proofs.RoomLemmas.{room_of, room_gone, short_gone, CanTell-without, CanTell-as}
use Rattle.pub_sub.proofs.audience.Audience.leave.Goals as goal

pub overflow_sub-rest : goal.overflow_sub-rest
overflow_sub-rest c =
    let r : length (topics_of nat_eq c.args.self.now.topics c.args.place) ≤ c.args.self.now.inbox.spare =
    room_of c.args.self.now.tells c.args.self.now.inbox.spare c.args.place c.args.self.now.topics c.requires.can c.requires.tells in
    omega arith

pub topics-init : goal.topics-init
topics-init c = record {
  others = refl;
  told = refl;
  room =
      let r : length (topics_of nat_eq c.args.self.now.topics c.args.place) ≤ c.args.self.now.inbox.spare =
      room_of c.args.self.now.tells c.args.self.now.inbox.spare c.args.place c.args.self.now.topics c.requires.can c.requires.tells in
      let g : length (topics_gone nat_eq c.args.self.now.topics c.args.place) ≤ length (topics_of nat_eq c.args.self.now.topics c.args.place) = room_gone c.args.place c.args.self.now.topics in
      omega arith;
  short = short_gone c.args.place c.args.self.now.topics c.requires.can.short;
  verbose_is = refl;
  tells_is = refl;
}

pub topics-preserved : goal.topics-preserved
topics-preserved c = record {
  others = without_peer-only c.args.place c.topics.self.topics c.next_gone.new.self c.in-Some.ensures.only ∙ c.topics.invariant.others;
  told =
      ap (λ (i : InboxState). i.notices ++ cancels_of c.args.pair (topics_gone nat_eq c.next_gone.new.self c.args.place)) c.push_cancel.ensures
      ∙ append_assoc c.topics.self.inbox.notices (notice c.args.pair (cancel c.in-Some.topic.items) ∷ []) (cancels_of c.args.pair (topics_gone nat_eq c.next_gone.new.self c.args.place))
      ∙ ap (λ l. c.topics.self.inbox.notices ++ cancels_of c.args.pair l) (sym c.in-Some.ensures.gone)
      ∙ c.topics.invariant.told;
  room =
      let p : c.push_cancel.new.self.spare ≡ c.topics.self.inbox.spare - 1 = ap (λ (i : InboxState). i.spare) c.push_cancel.ensures in
      let g : length (topics_gone nat_eq c.topics.self.topics c.args.place) ≡ suc (length (topics_gone nat_eq c.next_gone.new.self c.args.place)) = ap length c.in-Some.ensures.gone in
      let i : (c.spare.result - c.count.result) + length (topics_gone nat_eq c.topics.self.topics c.args.place) ≤ c.topics.self.inbox.spare = c.topics.invariant.room in
      omega arith;
  short = All-rest IsTopic c.in-Some.topic.items (topics_gone nat_eq c.next_gone.new.self c.args.place) (topics_gone nat_eq c.topics.self.topics c.args.place) c.in-Some.ensures.gone c.topics.invariant.short;
  verbose_is = c.topics.invariant.verbose_is;
  tells_is = c.topics.invariant.tells_is;
}

pub returns-clause-can : goal.returns-clause-can
returns-clause-can c =
    CanTell-as c.args.self.now.tells c.topics.self.tells c.release.new.self.spare (without_peer nat_eq c.args.place c.args.self.now.topics) c.next_gone.new.self 0
    c.topics.invariant.tells_is (c.in_default.ensures.1 ∙ c.topics.invariant.others)
    (CanTell-without c.args.self.now.tells c.args.self.now.inbox.spare c.release.new.self.spare c.args.place c.args.self.now.topics c.requires.can c.requires.tells
    (let r : c.release.new.self.spare ≡ c.topics.self.inbox.spare - (c.spare-spare.result - (c.spare.result - c.count.result)) = ap (λ (i : InboxState). i.spare) c.release.ensures in
    let i : (c.spare.result - c.count.result) + length (topics_gone nat_eq c.topics.self.topics c.args.place) ≤ c.topics.self.inbox.spare = c.topics.invariant.room in
    omega arith))
