use Rattle.std.proofs.Common.{[], ◌∙◌}
use Rattle.link_side.specs.WireView.{kept}
use Rattle.link_side.proofs.KeptLemmas.{acts_on, unfed_none}
use Rattle.link_side.proofs.PartLemmas.{drained_by}
use Rattle.link_side.proofs.wire.Wire.catch_up.Goals as goal

pub returns-clause-run : goal.returns-clause-run
returns-clause-run c = acts_on (kept c.args.self.now) (kept c.hear.new.self) (kept c.hold_next.new.self) [] [] c.hear.ensures.run c.hold_next.ensures.run

pub returns-clause-rest : goal.returns-clause-rest
returns-clause-rest c =
    let fed = c.hear.new.self in
    record {
      fed = c.hold_next.ensures.keeps.1 ∙ unfed_none fed.octets.items fed.fed fed.read c.in_ok-hear.ensures.fed;
      current = c.hold_next.ensures.current c.in_ok-hear.ensures.current;
      drained = drained_by (kept c.hold_next.new.self) c.hold_next.result c.hold_next.ensures.holds c.hold_next.ensures.none;
    }
