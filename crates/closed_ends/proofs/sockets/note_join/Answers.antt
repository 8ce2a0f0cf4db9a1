use Rattle.std.specs.Prelude.{[]}
use Rattle.std.proofs.Common.{ap, ◌∙◌}
use Rattle.zq_base.specs.declared.attached.Attached.TheVariants.{Yes}
use Rattle.sock_core.specs.declared.joint.JoinNote.TheVariants.{Joined}
use Rattle.sock_core.specs.Standing.{standing_joins}
use Rattle.sock_core.proofs.StandingLemmas.{standing_more}
use Rattle.closed_ends.proofs.sockets.note_join.Goals as goal

pub returns : goal.returns
returns g c = ap standing_joins c.and.ensures ∙ standing_more [] c.args.joins.now.items (Joined c.args.joint Yes, c.args.peer.now)
