use Rattle.std.specs.Prelude.{ℕ, false, length}
use Rattle.std.proofs.Common.{subst}
use Rattle.std.proofs.lemmas.List.{length-set}
use Rattle.spec_control.specs.declared.stage.Stage.TheVariants.{Ending}
use Rattle.spec_control.specs.Row.{RootAsked}
use Rattle.spec_control.specs.Control.{link, stop_sockets, try_end}
use Rattle.own_tree.specs.Changes.{change, in_stage}
use Rattle.ctl_state.specs.Stands.{Stands}
use Rattle.ctl_state.proofs.BareLemmas.{tells_on}
use Rattle.ctl_moves.proofs.RootLemmas.{root_may, root_sockets, root_room, root_unended, root_tells_nobody}
use Rattle.ctl_moves.proofs.BareLemmas.{tree_boxes, tree_tells}
use Rattle.ctl_moves.proofs.ending.ask_root.Goals as goal

pub root_asked-requires : goal.root_asked-requires
root_asked-requires g c =
    let w = c.requires.may in
    record { alive = root_may c.args.state.now w.control w.is w.stands }

pub stop_sockets-requires : goal.stop_sockets-requires
stop_sockets-requires g c =
    let w = c.requires.may in
    let stands = c.root_asked.ensures.stands w.control w.stands in
    let met = c.needs-2.ensures (link RootAsked 0 w.control) stands in
    let boxes = tree_boxes c.args.state.now c.root_asked.new.self (change (in_stage Ending) (record { 0 = 0 })) c.root_asked.ensures.next in
    record {
      sockets = root_sockets c.args.state.now w.control w.is w.stands c.root_asked.new.self met boxes;
      room = root_room c.args.state.now w.control w.is w.stands c.root_asked.new.self met boxes;
    }

pub try_end-ended-requires : goal.try_end-ended-requires
try_end-ended-requires g c =
    let w = c.requires.may in
    let n = length (link RootAsked 0 w.control).rows.objects in
    let stands = c.stop_sockets.ensures.stands (link RootAsked 0 w.control) (c.root_asked.ensures.stands w.control w.stands) in
    let met = c.needs-3.ensures (stop_sockets n (link RootAsked 0 w.control)) stands in
    record {
      unended = root_unended c.args.state.now w.control w.is w.stands n c.stop_sockets.new.self met;
      room = root_tells_nobody c.args.state.now w.control w.is w.stands n c.stop_sockets.new.self stands;
    }

pub returns-clause-stands : goal.returns-clause-stands
returns-clause-stands g c = λ k h.
    subst (λ (n : ℕ). Stands c.try_end-ended.new.self (try_end 0 false (stop_sockets n (link RootAsked 0 k)))) (length-set k.rows.objects 0 _)
    (c.try_end-ended.ensures.stands (stop_sockets (length (link RootAsked 0 k).rows.objects) (link RootAsked 0 k)) (c.stop_sockets.ensures.stands (link RootAsked 0 k) (c.root_asked.ensures.stands k h)))

pub returns-clause-only : goal.returns-clause-only
returns-clause-only g c =
    tells_on c.args.state.now c.root_asked.new.self c.try_end-ended.new.self (tree_tells c.args.state.now c.root_asked.new.self (change (in_stage Ending) (record { 0 = 0 })) c.root_asked.ensures.next)
    (tells_on c.root_asked.new.self c.stop_sockets.new.self c.try_end-ended.new.self c.stop_sockets.ensures.only c.try_end-ended.ensures.only)
