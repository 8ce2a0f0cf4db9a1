use Rattle.std.proofs.Common.{arith, ap, ◌∙◌}
use Rattle.std.proofs.lemmas.List.{take_all}
use Rattle.ctl_plane.specs.Settled.{settled_of, settled_in}
use Rattle.ctl_plane.proofs.WalkLemmas.{noted_more}
use Rattle.ctl_plane.proofs.settled.note_all.Goals as goal

pub events-preserved : goal.events-preserved
events-preserved g c =
    let test = c.events-test.true in
    record { so_far = noted_more settled_of c.args.events.now c.events.notes.items c.note_event.new.notes.items c.events.did-index c.did-item.result (omega (arith, test)) c.did-item.is c.events.invariant.so_far c.in_ok-note_event.ensures }

pub returns : goal.returns
returns g c =
    let test = c.events-test.false in
    c.of_vec.ensures ∙ c.events.invariant.so_far ∙ ap settled_in (take_all c.events.did-index c.args.events.now (omega (arith, test)))
