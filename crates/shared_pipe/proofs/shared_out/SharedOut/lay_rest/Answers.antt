use Rattle.std.proofs.Common.{List, ◌∙◌, sym, subst, All}
use Rattle.std.proofs.lemmas.List.Elements.{All-drop}
use Rattle.zq_base.specs.Message.{Frames}
use Rattle.spec_pattern.specs.Pipe.{IsCommittable}
use Rattle.shared_pipe.specs.Halves.{writing_of}
use Rattle.shared_pipe.proofs.BatchLemmas.{LaysSome, lays_one}
use Rattle.shared_pipe.proofs.shared_out.SharedOut.lay_rest.Goals as goal

pub messages-preserved : goal.messages-preserved
messages-preserved c =
    let u = writing_of c.messages.self in
    let v = writing_of c.args.self.now in
    let before = subst (λ (ms : List Frames). LaysSome v c.args.messages.now.items c.messages.count ms u) c.in-Some.ensures.items c.messages.invariant.lays in
    record {
      lays = lays_one v u (writing_of c.lay_more.new.self) c.args.messages.now.items c.messages.count c.in-Some.message c.pop_front.new.self.items before c.in-Ok.ensures.more;
      open_ = c.in-Ok.ensures.more.sealed ∙ c.messages.invariant.open_;
      whole = subst (λ (ms : List Frames). All IsCommittable ms) (sym c.pop_front.ensures.rest) (All-drop IsCommittable 1 c.messages.messages.items c.messages.invariant.whole);
      same = c.lay_more.ensures.name ∙ c.messages.invariant.same;
    }
