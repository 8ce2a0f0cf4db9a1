use Rattle.std.proofs.Common.{[], ◌∷◌, ◌++◌, refl, sym, subst, ◌∙◌}
use Rattle.std.proofs.lemmas.List.{append-nil}
use Rattle.zmtp_engine.specs.Conversation.{Conversation, IsCurrent}
use Rattle.spec_pattern.specs.PipeStep.{Commit}
use Rattle.spec_link.specs.LinkAct.{Step}
use Rattle.spec_link.specs.Parts.{puts}
use Rattle.link_side.specs.WireView.{kept}
use Rattle.link_side.proofs.KeptLemmas.{acts_on, acts_same, no_acts}
use Rattle.link_side.proofs.DropLemmas.{puts_one_more}
use Rattle.link_side.proofs.wire.Wire.drop_whole.Goals as goal

pub messages-init : goal.messages-init
messages-init c = record {
  sound = c.requires.sound;
  current = c.requires.current;
  unfed_is = refl;
  run = ([], λ pipe. no_acts (kept c.args.self.now));
}

pub messages-preserved : goal.messages-preserved
messages-preserved c =
    let i = c.messages.invariant.run in
    let k = c.drop_held.ensures.run in
    record {
      sound = c.drop_held.ensures.sound;
      current = subst (λ (x : Conversation). IsCurrent x) (sym c.drop_held.ensures.keeps.0) (c.hold_next.ensures.current c.messages.invariant.current);
      unfed_is = c.drop_held.ensures.keeps.1 ∙ c.hold_next.ensures.keeps.1 ∙ c.messages.invariant.unfed_is;
      run = (
        i.0 ++ k.0 ∷ [],
        λ pipe. acts_same (kept c.args.self.now) (kept c.drop_held.new.self) (puts pipe i.0 ++ Step (Commit pipe k.0) ∷ []) (puts pipe (i.0 ++ k.0 ∷ [])) (puts_one_more pipe i.0 k.0)
            (acts_on (kept c.args.self.now) (kept c.messages.self) (kept c.drop_held.new.self) (puts pipe i.0) (Step (Commit pipe k.0) ∷ []) (i.1 pipe)
            (acts_on (kept c.messages.self) (kept c.hold_next.new.self) (kept c.drop_held.new.self) [] (Step (Commit pipe k.0) ∷ []) c.hold_next.ensures.run (k.1 pipe))),
      );
    }

pub returns-clause-run : goal.returns-clause-run
returns-clause-run c =
    let i = c.messages.invariant.run in (
      i.0,
      λ pipe. acts_same (kept c.args.self.now) (kept c.hold_next.new.self) (puts pipe i.0 ++ []) (puts pipe i.0) (append-nil (puts pipe i.0))
          (acts_on (kept c.args.self.now) (kept c.messages.self) (kept c.hold_next.new.self) (puts pipe i.0) [] (i.1 pipe) c.hold_next.ensures.run),
    )
