use Rattle.std.proofs.Common.{All, refl, sym, subst}
use Rattle.spec_pattern.specs.Topics.{IsTopic}
use Rattle.pub_sub.proofs.TellLemmas.{short_after}
use Rattle.pub_sub.proofs.TellLemmas.{short_change}
use Rattle.pub_sub.proofs.follower.Follower.tell_gone.Goals as goal

pub one_frame-requires : goal.one_frame-requires
one_frame-requires g c = short_change c.args.wanted.now c.args.self.now.told.told (0, c.args.topic.now) c.requires.change.follows.wanted_are c.requires.change.follows.told_are c.requires.change.differs

pub returns-in-Ok-clause-same : goal.returns-in-Ok-clause-same
returns-in-Ok-clause-same g c = record {
  place_is = refl;
  follows = record {
    known = c.cancel.ensures.known c.requires.change.follows.known;
    wanted_are = c.requires.change.follows.wanted_are;
    told_are = subst (All IsTopic) (sym c.cancel.ensures.told)
        (short_after (0, c.args.topic.now) c.args.self.now.told.told
        (short_change c.args.wanted.now c.args.self.now.told.told (0, c.args.topic.now) c.requires.change.follows.wanted_are c.requires.change.follows.told_are c.requires.change.differs)
        c.requires.change.follows.told_are);
  };
}
