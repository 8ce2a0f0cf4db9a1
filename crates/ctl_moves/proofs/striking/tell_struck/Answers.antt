use Rattle.std.specs.Prelude.{Bool, Option, refl}
use Rattle.std.proofs.Common.{sym, subst, ◌∙◌}
use Rattle.zq_base.specs.declared.ids.ObjId.{ObjId}
use Rattle.spec_control.specs.Control.{tell_where}
use Rattle.spec_control.specs.After.{tell_struck}
use Rattle.ctl_state.specs.Lists.{owner_number}
use Rattle.ctl_state.specs.Stands.{Stands}
use Rattle.ctl_state.proofs.BareLemmas.{bare_not}
use Rattle.ctl_moves.proofs.StrikeLemmas.{struck_child, struck_room}
use Rattle.ctl_moves.proofs.striking.tell_struck.Goals as goal

pub tell_where-requires-clause-child : goal.tell_where-requires-clause-child
tell_where-requires-clause-child g c =
    let w = c.requires.may in
    let mine = sym (c.is_child.ensures w.control w.stands) ∙ c.if-not-is_child.false in
    let met = c.needs.ensures w.control w.stands in
    struck_child c.args.state.now c.args.socket c.in-Some.child w met mine

pub tell_where-requires-clause-room : goal.tell_where-requires-clause-room
tell_where-requires-clause-room g c = λ wanted may.
    let w = c.requires.may in
    let mine = sym (c.is_child.ensures w.control w.stands) ∙ c.if-not-is_child.false in
    let met = c.needs.ensures w.control w.stands in
    struck_room c.args.state.now c.args.socket c.in-Some.child w met mine may

pub returns-then-not-is_child-clause-stands : goal.returns-then-not-is_child-clause-stands
returns-then-not-is_child-clause-stands g c = λ k h.
    subst (λ (o : Option ObjId). Stands c.args.state.now (tell_struck c.args.socket.0 (owner_number o) k)) (sym c.in-Some.is)
    (subst (λ (b : Bool). Stands c.args.state.now (tell_where b c.in-Some.child.0 k)) (sym c.if-not-is_child.true ∙ c.is_child.ensures k h) h)

pub returns-then-not-is_child-clause-only : goal.returns-then-not-is_child-clause-only
returns-then-not-is_child-clause-only g c = record { bare = bare_not c.args.state.now.boxes; lists = refl }

pub returns-in-Some-clause-stands : goal.returns-in-Some-clause-stands
returns-in-Some-clause-stands g c = λ k h.
    subst (λ (o : Option ObjId). Stands c.tell_where.new.self (tell_struck c.args.socket.0 (owner_number o) k)) (sym c.in-Some.is)
    (subst (λ (b : Bool). Stands c.tell_where.new.self (tell_where b c.in-Some.child.0 k)) (sym c.if-not-is_child.false ∙ c.is_child.ensures k h) (c.tell_where.ensures.stands k h))

pub returns-in-Some-clause-only : goal.returns-in-Some-clause-only
returns-in-Some-clause-only g c = c.tell_where.ensures.only

pub returns-in-None-clause-stands : goal.returns-in-None-clause-stands
returns-in-None-clause-stands g c = λ k h. subst (λ (o : Option ObjId). Stands c.args.state.now (tell_struck c.args.socket.0 (owner_number o) k)) (sym c.in-None.is) h

pub returns-in-None-clause-only : goal.returns-in-None-clause-only
returns-in-None-clause-only g c = record { bare = bare_not c.args.state.now.boxes; lists = refl }
