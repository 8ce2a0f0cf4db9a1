use Rattle.std.specs.Prelude.{[]}
use Rattle.std.proofs.Common.{ap, ◌∙◌}
use Rattle.sock_core.specs.declared.joint.JoinNote.TheVariants.{TakenBack}
use Rattle.sock_core.specs.Standing.{standing_joins}
use Rattle.sock_core.specs.Way.{no_way, way_in}
use Rattle.sock_core.proofs.StandingLemmas.{standing_more}
use Rattle.sock_core.proofs.WayLemmas.{way_more}
use Rattle.sock_core.proofs.joint.note_back.Goals as goal

pub returns-clause-joins : goal.returns-clause-joins
returns-clause-joins g c = ap standing_joins c.and-2.ensures ∙ standing_more [] c.args.joins.now.items (TakenBack, _)

pub returns-clause-way : goal.returns-clause-way
returns-clause-way g c = ap way_in c.and-4.ensures ∙ way_more no_way c.args.way.now.items (TakenBack, _)
