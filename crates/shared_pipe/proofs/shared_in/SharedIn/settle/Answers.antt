use Rattle.std.proofs.Common.{◌≡◌, ℕ, List, [], sym, arith, ap, ◌∙◌, subst}
use mathlib.Core.Option.{none}
use Rattle.atomic_table.specs.Table.{Allows, Joins, step}
use Rattle.shared_pipe.specs.Rule.{Slot, IsSomePipe, both_of, no_view}
use Rattle.shared_pipe.specs.Steps.{SeatHas, compares}
use Rattle.shared_pipe.proofs.HalvesLemmas.{meets, compared}
use Rattle.shared_pipe.proofs.shared_in.SharedIn.settle.Goals as goal

pub join_seat-requires : goal.join_seat-requires
join_seat-requires c =
    let h = c.args.self in
    let g = c.args.out in
    let key : c.deref.result.now.shared.key ≡ h.capacity = ap (λ t. t.shared.key) c.deref.ensures ∙ h.ties.1 in
    let words = ap (λ t. t.shared.table_id.words) c.deref.ensures ∙ h.places.0 in
    let same = h.ties.0 ∙ ap (λ t. t.shared.table_id) (sym c.deref.ensures) in (
      same,
      sym c.requires.pair ∙ same,
      g.idle.2,
      rw words (omega arith),
      subst (λ (x : ℕ). Joins (IsSomePipe x) h.seat.id h.seat.me.0 g.seat.id g.seat.me.0 (both_of h.seat.me.0 g.seat.me.0) no_view) (sym key) (meets h.capacity h.seat.id g.seat.id h.seat.me.0 g.seat.me.0 h.idle.0 g.idle.0),
    )

pub load-requires : goal.load-requires
load-requires c =
    let h = c.args.self in
    let g = c.args.out in
    let key : c.deref-2.result.now.shared.key ≡ h.capacity = ap (λ t. t.shared.key) c.deref-2.ensures ∙ h.ties.1 in
    let words = ap (λ t. t.shared.table_id.words) c.deref-2.ensures ∙ h.places.0 in
    let slots = ap (λ t. t.shared.table_id.slots) c.deref-2.ensures ∙ h.places.1 in
    let v = both_of h.seat.me.0 g.seat.me.0 in
    let me : c.join_seat.new.seat.me ≡ (v, []) = c.join_seat.ensures.2 ∙ ap (λ (l : List (ℕ × Slot)). (v, l)) h.idle.2 in (
      c.join_seat.ensures.0 ∙ h.ties.0 ∙ ap (λ t. t.shared.table_id) (sym c.deref-2.ensures),
      rw words (omega arith),
      subst (λ (x : ℕ × ℕ × SeatHas). Allows (IsSomePipe x.0) x.1 c.join_seat.new.seat.id x.2 0 (λ n. n) (compares (step x.1 0 0 0 none) x.2))
          (λ k. (sym key k, sym slots k, sym me k))
          (compared h.capacity c.join_seat.new.seat.id 0 v h.idle.0 g.idle.0),
    )
