use Rattle.std.specs.Prelude.{List, Some, length, map, slice_index_or}
use Rattle.std.proofs.Common.{sym, ap, ◌∙◌}
use Rattle.zq_base.specs.declared.ids.ObjId.{ObjId}
use Rattle.control_laws.proofs.ListLemmas.{never}
use Rattle.ctl_state.specs.Listed.{Listed}
use Rattle.ctl_plane.specs.Past.{control_of}
use Rattle.plain_desk.proofs.FirstLemmas.{closed_first, none_first, root_first, slots_there}
use Rattle.plain_desk.proofs.LentLemmas.{kept_of}
use Rattle.plain_desk.proofs.RootLemmas.{root_there}
use Rattle.plain_desk.proofs.one_desk.OneDesk.first_slot.Goals as goal

pub is_empty-requires : goal.is_empty-requires
is_empty-requires g c = record { there = root_there (map (λ x. x.0) c.self.inside.order.items) c.self.inside.history (length c.self.inside.wakers.items) c.self.invariant.0 }

pub returns-then-not-is_empty-clause-some : goal.returns-then-not-is_empty-clause-some
returns-then-not-is_empty-clause-some g c =
    root_first (map (λ x. x.0) c.self.inside.order.items) c.self.inside.history (length c.self.inside.wakers.items) c.self.inside.caller c.args.self.now c.self.view_is c.self.invariant.0 (λ none. never (sym c.if-not-is_empty.true ∙ c.is_empty.ensures.1 none))

pub returns-in-Some-clause-some : goal.returns-in-Some-clause-some
returns-in-Some-clause-some g c =
    closed_first (map (λ x. x.0) c.self.inside.order.items) c.self.inside.history (length c.self.inside.wakers.items) c.self.inside.caller c.args.self.now c.self.view_is c.self.invariant.0 c.self.inside.closed c.self.invariant.1 (c.is_empty.ensures.0 c.if-not-is_empty.false) _ c.slot.result
    (sym c.in-Some.ensures.first
    ∙ ap (λ (os : List ObjId). Some (slice_index_or os c.in-Some.place (record { 0 = 0 }))) (sym (c.as_slice.ensures ∙ ap (λ (l : Listed ObjId). l.items) c.first.ensures.stays))) c.slot.ensures

pub returns-in-None-clause-none : goal.returns-in-None-clause-none
returns-in-None-clause-none g c =
    none_first (map (λ x. x.0) c.self.inside.order.items) c.self.inside.history (length c.self.inside.wakers.items) c.self.inside.caller c.args.self.now c.self.view_is c.self.invariant.0 c.self.inside.closed c.self.invariant.1 (c.is_empty.ensures.0 c.if-not-is_empty.false)
    (sym c.in-None.ensures.first)

pub first-requires-clause-there : goal.first-requires-clause-there
first-requires-clause-there g c = slots_there c.self.inside.history.workers (control_of c.self.inside.history) (kept_of (map (λ x. x.0) c.self.inside.order.items) c.self.inside.history (length c.self.inside.wakers.items) c.self.invariant.0) c.self.invariant.0.boxes c.self.inside.closed.items c.self.invariant.1.sockets

pub first-requires-clause-boxes : goal.first-requires-clause-boxes
first-requires-clause-boxes g c = c.self.invariant.0.boxes

pub first-requires-clause-sockets : goal.first-requires-clause-sockets
first-requires-clause-sockets g c = c.self.invariant.1.sockets
