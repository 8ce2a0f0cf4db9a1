use Rattle.std.proofs.Common.{Bool, true, false, [], ◌∷◌, ◌++◌, refl, sym, ap, subst, ◌∙◌}
use Rattle.std.proofs.lemmas.List.{append-nil}
use Rattle.zq_base.specs.Ends.{PipeId}
use Rattle.msg_pipe.specs.Told.{put_step}
use Rattle.zmtp_engine.specs.Conversation.{Conversation, IsCurrent}
use Rattle.spec_pattern.specs.PipeStep.{Commit, FullLook}
use Rattle.spec_link.specs.LinkAct.{Step}
use Rattle.link_side.specs.Calls.{put_found, put_acts}
use Rattle.link_side.specs.WireView.{kept}
use Rattle.link_side.proofs.KeptLemmas.{acts_on, acts_same, no_acts, stays_alive}
use Rattle.link_side.proofs.PartLemmas.{here_after, puts_more, puts_full, put_acts_more, put_acts_full, some_more, step_went, step_full, some_pipe}
use Rattle.link_side.proofs.wire.Wire.commit.Goals as goal

pub messages-init : goal.messages-init
messages-init g c = record {
  sound = c.requires.sound;
  alive = c.requires.alive;
  current = c.requires.current;
  here = c.requires.here;
  unsealed = c.requires.open;
  unfed_is = refl;
  run = ([], (refl, refl), (λ pipe. no_acts (kept c.args.self.now)), refl);
}

pub put_held-requires-clause-alive : goal.put_held-requires-clause-alive
put_held-requires-clause-alive g c = stays_alive (kept c.messages.self) (kept c.hold_next.new.self) [] c.hold_next.ensures.run c.messages.invariant.alive

pub returns-then-not-put_held-clause-run : goal.returns-then-not-put_held-clause-run
returns-then-not-put_held-clause-run g c =
    let K = g.P.Pipes.known in
    let i = c.messages.invariant.run in
    let k = c.put_held.ensures.run in
    let is = k.4 ∙ ap (λ (b : Bool). put_found b k.0) (c.if-not-put_held.true) in (
      i.0,
      puts_full K i.0 k.0 k.1 _ _ _ _ _ _ is i.1 k.2,
      (λ pipe. acts_same (kept c.args.self.now) (kept c.put_held.new.self) (put_acts pipe i.0 false ++ Step (FullLook pipe) ∷ []) (put_acts pipe i.0 true) (put_acts_full pipe i.0)
          (acts_on (kept c.args.self.now) (kept c.messages.self) (kept c.put_held.new.self) (put_acts pipe i.0 false) (Step (FullLook pipe) ∷ []) (i.2 pipe)
          (step_full (kept c.messages.self) (kept c.hold_next.new.self) (kept c.put_held.new.self) k.0 k.1 pipe is c.hold_next.ensures.run (k.3 pipe)))),
      i.3,
    )

pub messages-preserved : goal.messages-preserved
messages-preserved g c =
    let K = g.P.Pipes.known in
    let i = c.messages.invariant.run in
    let k = c.put_held.ensures.run in
    let is = k.4 ∙ ap (λ (b : Bool). put_found b k.0) (c.if-not-put_held.false) in
    let step = λ (pipe : PipeId). step_went (kept c.messages.self) (kept c.hold_next.new.self) (kept c.put_held.new.self) k.0 k.1 pipe is c.hold_next.ensures.run (k.3 pipe) in
    record {
      sound = c.put_held.ensures.sound;
      alive = stays_alive (kept c.hold_next.new.self) (kept c.put_held.new.self) (Step (put_step some_pipe k.0 k.1) ∷ []) (k.3 some_pipe) (stays_alive (kept c.messages.self) (kept c.hold_next.new.self) [] c.hold_next.ensures.run c.messages.invariant.alive);
      current = subst (λ (x : Conversation). IsCurrent x) (sym c.put_held.ensures.keeps.0) (c.hold_next.ensures.current c.messages.invariant.current);
      here = here_after K _ _ _ _ k.0 k.1 k.2 c.messages.invariant.here;
      unsealed = c.put_held.ensures.open;
      unfed_is = c.put_held.ensures.keeps.1 ∙ c.hold_next.ensures.keeps.1 ∙ c.messages.invariant.unfed_is;
      run = (
        i.0 ++ k.0 ∷ [],
        puts_more K i.0 k.0 k.1 _ _ _ _ _ _ is i.1 k.2,
        (λ pipe. acts_same (kept c.args.self.now) (kept c.put_held.new.self) (put_acts pipe i.0 false ++ Step (Commit pipe k.0) ∷ []) (put_acts pipe (i.0 ++ k.0 ∷ []) false) (put_acts_more pipe i.0 k.0)
            (acts_on (kept c.args.self.now) (kept c.messages.self) (kept c.put_held.new.self) (put_acts pipe i.0 false) (Step (Commit pipe k.0) ∷ []) (i.2 pipe) (step pipe))),
        some_more i.0 k.0,
      );
    }

pub returns-clause-run : goal.returns-clause-run
returns-clause-run g c =
    let i = c.messages.invariant.run in (
      i.0,
      i.1,
      (λ pipe. acts_same (kept c.args.self.now) (kept c.hold_next.new.self) (put_acts pipe i.0 false ++ []) (put_acts pipe i.0 false) (append-nil (put_acts pipe i.0 false))
          (acts_on (kept c.args.self.now) (kept c.messages.self) (kept c.hold_next.new.self) (put_acts pipe i.0 false) [] (i.2 pipe) c.hold_next.ensures.run)),
      i.3,
    )

pub put_held-requires-clause-sound : goal.put_held-requires-clause-sound
put_held-requires-clause-sound g c = c.hold_next.ensures.sound

pub put_held-requires-clause-current : goal.put_held-requires-clause-current
put_held-requires-clause-current g c = c.hold_next.ensures.current c.messages.invariant.current

pub put_held-requires-clause-here : goal.put_held-requires-clause-here
put_held-requires-clause-here g c = c.messages.invariant.here

pub put_held-requires-clause-open : goal.put_held-requires-clause-open
put_held-requires-clause-open g c = c.messages.invariant.unsealed

pub returns-then-not-put_held-clause-sound : goal.returns-then-not-put_held-clause-sound
returns-then-not-put_held-clause-sound g c = c.put_held.ensures.sound

pub returns-then-not-put_held-clause-current : goal.returns-then-not-put_held-clause-current
returns-then-not-put_held-clause-current g c = subst (λ (x : Conversation). IsCurrent x) (sym c.put_held.ensures.keeps.0) (c.hold_next.ensures.current c.messages.invariant.current)

pub returns-then-not-put_held-clause-full : goal.returns-then-not-put_held-clause-full
returns-then-not-put_held-clause-full g c = λ _. c.put_held.ensures.stays c.if-not-put_held.true

pub returns-then-not-put_held-clause-unfed : goal.returns-then-not-put_held-clause-unfed
returns-then-not-put_held-clause-unfed g c = c.put_held.ensures.keeps.1 ∙ c.hold_next.ensures.keeps.1 ∙ c.messages.invariant.unfed_is

pub returns-clause-sound : goal.returns-clause-sound
returns-clause-sound g c = c.hold_next.ensures.sound

pub returns-clause-current : goal.returns-clause-current
returns-clause-current g c = c.hold_next.ensures.current c.messages.invariant.current

pub returns-clause-unfed : goal.returns-clause-unfed
returns-clause-unfed g c = c.hold_next.ensures.keeps.1 ∙ c.messages.invariant.unfed_is
