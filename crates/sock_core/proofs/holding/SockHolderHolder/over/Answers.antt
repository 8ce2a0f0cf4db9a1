use Rattle.std.proofs.Common.{refl, sym, ◌∙◌}
use Rattle.sock_core.proofs.holding.SockHolderHolder.over.Goals as goal

pub invariant_of-self : goal.invariant_of-self
invariant_of-self g c = record {
  sound = c.args.self.now.sound;
  peers = c.args.self.now.peers;
  room = c.args.self.now.room;
  gone = c.args.self.now.gone;
  flagged = c.args.self.now.flagged;
  in_use = c.args.self.now.in_use;
  settled_are = c.args.self.now.settled_are;
  sealed_are = c.args.self.now.sealed_are;
  others = c.args.self.now.others;
  stopped = c.args.self.now.stopped ∙ sym c.note_heard.ensures.stopped;
  number = c.args.self.now.number;
  done = c.args.self.now.done;
  tied = c.args.self.now.tied;
  came = c.args.self.now.came;
  way = c.args.self.now.way;
  rest = c.args.self.now.rest;
}

pub returns-clause-heard : goal.returns-clause-heard
returns-clause-heard g c = c.note_heard.ensures.noted

pub returns-clause-told : goal.returns-clause-told
returns-clause-told g c = record {
  ends = λ i. refl;
  writes = λ d. refl;
  kinds = λ i. refl;
  objects = λ i ne. refl;
  output = λ i ne. refl;
  delimiters = λ e met. met;
  turns = record { states = λ i d has. refl; turns = refl; sealed = refl; joined = refl };
}
