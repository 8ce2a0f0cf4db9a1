use Rattle.std.proofs.Common.{◌∙◌, All, refl, ap, sym, subst}
use Rattle.spec_pattern.specs.Topics.{without_topic, IsTopic}
use Rattle.pub_sub.proofs.TellLemmas.{short_after, without-with, fresh_change}
use Rattle.pub_sub.proofs.TellLemmas.{short_change}
use Rattle.pub_sub.proofs.follower.Follower.tell_new.Goals as goal

pub one_frame-requires : goal.one_frame-requires
one_frame-requires g c = short_change c.args.wanted.now c.args.self.now.told.told (1, c.args.topic.now) c.requires.change.follows.wanted_are c.requires.change.follows.told_are c.requires.change.differs

pub returns-in-Ok-clause-same : goal.returns-in-Ok-clause-same
returns-in-Ok-clause-same g c = record {
  place_is = refl;
  follows = record {
    known = c.in_ok-add.ensures.known c.requires.change.follows.known;
    wanted_are = c.requires.change.follows.wanted_are;
    told_are = subst (All IsTopic) (sym c.in_ok-add.ensures.ok)
        (short_after (1, c.args.topic.now) c.args.self.now.told.told
        (short_change c.args.wanted.now c.args.self.now.told.told (1, c.args.topic.now) c.requires.change.follows.wanted_are c.requires.change.follows.told_are c.requires.change.differs)
        c.requires.change.follows.told_are);
  };
}

pub returns-in-Full-clause-told : goal.returns-in-Full-clause-told
returns-in-Full-clause-told g c = record {
  runs_are = c.in-Full.ensures.runs;
  told_is =
      c.cancel.ensures.told ∙ ap (without_topic c.args.topic.now) c.in_ok-add.ensures.ok
      ∙ without-with c.args.topic.now c.args.self.now.told.told (fresh_change c.args.wanted.now c.args.self.now.told.told c.args.topic.now c.requires.change.differs);
}

pub returns-in-Full-clause-same : goal.returns-in-Full-clause-same
returns-in-Full-clause-same g c = record {
  place_is = refl;
  follows = record {
    known = c.cancel.ensures.known (c.in_ok-add.ensures.known c.requires.change.follows.known);
    wanted_are = c.requires.change.follows.wanted_are;
    told_are = subst (All IsTopic)
        (sym (c.cancel.ensures.told ∙ ap (without_topic c.args.topic.now) c.in_ok-add.ensures.ok
        ∙ without-with c.args.topic.now c.args.self.now.told.told (fresh_change c.args.wanted.now c.args.self.now.told.told c.args.topic.now c.requires.change.differs)))
        c.requires.change.follows.told_are;
  };
}
