use Rattle.std.specs.Prelude.{◌≡◌, ◌<◌, ◌+◌, ℕ, List, length, not, slice_index_or}
use Rattle.std.proofs.Common.{arith, sym, ap, ◌∙◌, subst}
use Rattle.std.proofs.lemmas.List.{get_or_default}
use Rattle.std.proofs.lemmas.List.Filters.{FiltersInPlace, FiltersInPlace-more_no, FiltersInPlace-more_set}
use Rattle.zq_base.specs.declared.ids.ObjId.{ObjId}
use Rattle.ctl_state.specs.Listed.{Listed}
use Rattle.ctl_plane.specs.Past.{control_of}
use Rattle.control_laws.specs.Closed.{lives}
use Rattle.plain_desk.proofs.queue.keep_living.Goals as goal

-- the socket that stands there
stands : (os items : List ObjId) (k : ℕ) → os ≡ items → k < length items → slice_index_or os k (record { 0 = 0 }) ≡ slice_index_or items k (slice_index_or os k (record { 0 = 0 }))
stands os items k same within = ap (λ (l : List ObjId). slice_index_or l k (record { 0 = 0 })) same ∙ get_or_default items k (record { 0 = 0 }) (slice_index_or os k (record { 0 = 0 })) within

pub each-preserved-then-has_ended : goal.each-preserved-then-has_ended
each-preserved-then-has_ended g c =
    let below = c.each-test.true in
    let many = ap length c.as_slice-many.ensures in
    let long = c.each.invariant.living.long in
    let within : c.each.from < length c.each.closed.items = omega (arith, below, many, long) in
    record {
      living = FiltersInPlace-more_no c.each.invariant.living within (ap not (sym c.has_ended.ensures ∙ c.if-has_ended.true)) (stands c.as_slice.result.now c.each.closed.items c.each.from c.as_slice.ensures within);
      spare = c.each.invariant.spare;
    }

pub each-preserved : goal.each-preserved
each-preserved g c =
    let below = c.each-test.true in
    let many = ap length c.as_slice-many.ensures in
    let long = c.each.invariant.living.long in
    let within : c.each.from < length c.each.closed.items = omega (arith, below, many, long) in
    let living = FiltersInPlace-more_set c.each.invariant.living within (ap not (sym c.has_ended.ensures ∙ c.if-has_ended.false)) (stands c.as_slice.result.now c.each.closed.items c.each.from c.as_slice.ensures within) in
    subst (λ (l : Listed ObjId). record {
      living : FiltersInPlace (lives (control_of c.args.history.now)) c.args.closed.now.items l.items (c.each.to + 1) (c.each.from + 1);
      spare : l.spare ≡ c.args.closed.now.spare;
    }) (sym c.set.ensures) (record { living = living; spare = c.each.invariant.spare })
