use Rattle.std.proofs.Common.{Bool, sym, ap, ◌∙◌, if◌then◌else◌}
use Rattle.sock_core.specs.declared.joint.JoinNote.TheVariants.{Turned}
use Rattle.sock_core.specs.Way.{no_way, way_in, with_turned}
use Rattle.sock_core.proofs.WayLemmas.{way_more}
use Rattle.sock_core.proofs.joint.note_turn.Goals as goal

pub returns : goal.returns
returns g c =
    let was = way_in c.args.way.now.items in
    ap way_in c.and-2.ensures ∙ way_more no_way c.args.way.now.items (Turned c.args.end c.args.state, _)
    ∙ sym (ap (λ (b : Bool). if b then was else with_turned c.args.end c.args.state was) (sym c.is_same.ensures ∙ c.if-is_same.false))
