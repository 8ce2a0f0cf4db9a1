use Rattle.std.proofs.Common.{◌≡◌, ℕ, List, ◌+◌, length, sym, ap, ◌∙◌, subst}
use mathlib.Core.Option.{none}
use Rattle.atomic_table.specs.Table.{Allows, step}
use Rattle.shared_pipe.specs.Rule.{Slot, IsSomePipe}
use Rattle.shared_pipe.specs.Steps.{looks_at_room, looks_at_limit}
use Rattle.shared_pipe.proofs.PlacesLemmas.{place_lt}
use Rattle.shared_pipe.proofs.LookLemmas.{sees, limits}
use Rattle.shared_pipe.proofs.shared_out.SharedOut.room.Goals as goal

pub load-requires : goal.load-requires
load-requires c =
    let h = c.args.self.now in
    let key : c.deref.result.now.shared.key ≡ h.capacity = ap (λ t. t.shared.key) c.deref.ensures ∙ h.ties.1 in
    let words = ap (λ t. t.shared.table_id.words) c.deref.ensures ∙ h.places.0 in
    let slots = ap (λ t. t.shared.table_id.slots) c.deref.ensures ∙ h.places.1 in
    let v = h.seat.me.0 in
    let i = c.after-after.result in (
      h.ties.0 ∙ ap (λ t. t.shared.table_id) (sym c.deref.ensures),
      rw (words, c.after-after.ensures) (place_lt (length v.writing.committed + 1) h.capacity),
      subst (λ (x : ℕ × ℕ × List (ℕ × Slot)). Allows (IsSomePipe x.0) x.1 h.seat.id (v, x.2) i (λ n. n) (looks_at_limit (step x.1 i 0 0 none) (v, x.2)))
          (λ k. (sym key k, sym slots k, sym h.idle.2 k))
          (limits h.capacity h.seat.id i v h.idle.0),
    )

pub load-requires-2 : goal.load-requires-2
load-requires-2 c =
    let h = c.args.self.now in
    let key : c.deref.result.now.shared.key ≡ h.capacity = ap (λ t. t.shared.key) c.deref.ensures ∙ h.ties.1 in
    let words = ap (λ t. t.shared.table_id.words) c.deref.ensures ∙ h.places.0 in
    let slots = ap (λ t. t.shared.table_id.slots) c.deref.ensures ∙ h.places.1 in
    let v = h.seat.me.0 in
    let i = c.after-after.result in (
      h.ties.0 ∙ ap (λ t. t.shared.table_id) (sym c.deref.ensures),
      rw (words, c.after-after.ensures) (place_lt (length v.writing.committed + 1) h.capacity),
      subst (λ (x : ℕ × ℕ × List (ℕ × Slot)). Allows (IsSomePipe x.0) x.1 h.seat.id (v, x.2) i (λ n. n) (looks_at_room (step x.1 i 0 0 none) (v, x.2)))
          (λ k. (sym key k, sym slots k, sym h.idle.2 k))
          (sees h.capacity h.seat.id i v h.small.0 h.idle.0 c.after-after.ensures),
    )
