use Rattle.std.proofs.Common.{ap, sym, ◌∙◌}
use Rattle.spec_control.specs.PairPhase.{Opens}
use Rattle.spec_control.specs.Control.{attach, owner_of}
use Rattle.ctl_moves.proofs.OpeningLemmas.{bind_room, mine_unmade, opens, takes_bind, takes_end, theirs_unmade}
use Rattle.ctl_moves.proofs.opening.open_pair.Goals as goal

pub open-requires : goal.open-requires
open-requires g c =
    let w = c.requires.may in
    let met = c.needs.ensures w.control w.stands in
    record {
      unmade = mine_unmade c.args.state.now c.args.first w met;
      other_unmade = theirs_unmade c.args.state.now c.args.first w met;
      takes_end = takes_end c.args.state.now c.args.first w met;
      takes_bind = takes_bind c.args.state.now c.args.first w met;
    }

pub put-requires : goal.put-requires
put-requires g c =
    let w = c.requires.may in
    let now = attach Opens c.args.first w.control in
    let stands = c.open.ensures.stands w.control w.stands in
    record { room = bind_room c.args.state.now c.args.first w c.open.new.self c.open.ensures.next stands c.owner-owner.result (ap (owner_of now) (sym c.other.ensures) ∙ c.owner-owner.ensures.stands now stands) }

pub returns : goal.returns
returns g c = λ w.
    let now = attach Opens c.args.first w.control in
    let stands = c.open.ensures.stands w.control w.stands in
    opens c.args.state.now c.args.first w c.open.new.self c.open.ensures.next stands c.owner-owner.result (ap (owner_of now) (sym c.other.ensures) ∙ c.owner-owner.ensures.stands now stands)
    (c.needs.ensures w.control w.stands) c.put.new.self c.args.bind c.args.load c.put.ensures.stands c.put.ensures.next
