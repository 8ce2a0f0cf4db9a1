use Rattle.std.proofs.Common.{[], ◌++◌, refl, ◌∙◌}
use Rattle.spec_link.specs.Parts.{read_acts}
use Rattle.link_side.specs.Kept.{IsAtRest}
use Rattle.link_side.specs.WireView.{kept}
use Rattle.link_side.proofs.KeptLemmas.{acts_on, stays_alive, unfed_none}
use Rattle.link_side.proofs.PartLemmas.{on_err, reads_by, wants_by, drained_by}
use Rattle.link_side.proofs.wire.Wire.read_part.Goals as goal

pub returns-in_err-hear-clause-err : goal.returns-in_err-hear-clause-err
returns-in_err-hear-clause-err g c =
    let f = c.read_due-got.ensures.run in
    on_err c.from_residual.result _ (refl, refl, wants_by (kept c.args.self.now) (kept c.read_due-got.new.self) (kept c.hear.new.self) c.read_due-got.result f.0 _ _ _ f.1 c.hear.ensures.run f.2 f.3 c.read_due-got.ensures.due c.read_due-got.ensures.counts)

pub commit-commits-requires-clause-alive : goal.commit-commits-requires-clause-alive
commit-commits-requires-clause-alive g c =
    let f = c.read_due-got.ensures.run in
    let reads = read_acts c.read_due-got.result f.0 in
    stays_alive (kept c.args.self.now) (kept c.hear.new.self) (reads ++ []) (acts_on (kept c.args.self.now) (kept c.read_due-got.new.self) (kept c.hear.new.self) reads [] f.1 c.hear.ensures.run) c.requires.alive

pub returns-clause-ok : goal.returns-clause-ok
returns-clause-ok g c =
    let f = c.read_due-got.ensures.run in
    let k = c.commit-commits.ensures.run in
    let fed = c.hear.new.self in
    let rest : IsAtRest (kept c.commit-commits.new.self) = record {
      fed = c.commit-commits.ensures.unfed ∙ unfed_none fed.octets.items fed.fed fed.read c.in_ok-hear.ensures.fed;
      current = c.commit-commits.ensures.current;
      drained = drained_by (kept c.commit-commits.new.self) c.commit-commits.result.full c.commit-commits.ensures.full c.commit-commits.ensures.all;
    } in
    reads_by g.P.Pipes.known (kept c.args.self.now) (kept c.read_due-got.new.self) (kept fed) (kept c.commit-commits.new.self) c.read_due-got.result c.commit-commits.result.some f.0 k.0 c.commit-commits.result.full _ _ _ _ _ _
    k.3 f.2 f.3 k.1 f.1 c.hear.ensures.run k.2 rest c.commit-commits.ensures.full c.commit-commits.ensures.all c.read_due-got.ensures.due

pub returns-clause-rest : goal.returns-clause-rest
returns-clause-rest g c =
    let fed = c.hear.new.self in
    record {
      fed = c.commit-commits.ensures.unfed ∙ unfed_none fed.octets.items fed.fed fed.read c.in_ok-hear.ensures.fed;
      current = c.commit-commits.ensures.current;
      drained = drained_by (kept c.commit-commits.new.self) c.commit-commits.result.full c.commit-commits.ensures.full c.commit-commits.ensures.all;
    }

pub commit-commits-requires-clause-sound : goal.commit-commits-requires-clause-sound
commit-commits-requires-clause-sound g c = c.hear.ensures.sound

pub commit-commits-requires-clause-current : goal.commit-commits-requires-clause-current
commit-commits-requires-clause-current g c = c.in_ok-hear.ensures.current

pub commit-commits-requires-clause-here : goal.commit-commits-requires-clause-here
commit-commits-requires-clause-here g c = c.requires.here

pub commit-commits-requires-clause-open : goal.commit-commits-requires-clause-open
commit-commits-requires-clause-open g c = c.requires.open

pub returns-in_err-hear-clause-sound : goal.returns-in_err-hear-clause-sound
returns-in_err-hear-clause-sound g c = c.hear.ensures.sound

pub returns-in_err-hear-clause-others : goal.returns-in_err-hear-clause-others
returns-in_err-hear-clause-others g c = c.read_due-got.ensures.others

pub returns-clause-sound : goal.returns-clause-sound
returns-clause-sound g c = c.commit-commits.ensures.sound

pub returns-clause-others : goal.returns-clause-others
returns-clause-others g c = c.read_due-got.ensures.others

pub returns-clause-counts : goal.returns-clause-counts
returns-clause-counts g c = c.read_due-got.ensures.counts
