use Rattle.std.proofs.Common.{List, sym, subst, All}
use Rattle.std.proofs.lemmas.List.Elements.{All-drop}
use Rattle.zq_base.specs.Message.{Frames}
use Rattle.spec_pattern.specs.Pipe.{IsCommittable}
use Rattle.shared_pipe.proofs.shared_out.SharedOut.put_many.Goals as goal

pub lay_rest-more-requires-clause-whole : goal.lay_rest-more-requires-clause-whole
lay_rest-more-requires-clause-whole c = subst (λ (ms : List Frames). All IsCommittable ms) (sym c.pop_front.ensures.rest) (All-drop IsCommittable 1 c.args.messages.now.items c.requires.whole)
