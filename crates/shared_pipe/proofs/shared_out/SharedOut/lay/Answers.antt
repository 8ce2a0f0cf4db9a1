use Rattle.std.proofs.Common.{◌≡◌, ℕ, List, ◌+◌, length, arith, sym, ap, ◌∙◌, subst}
use mathlib.Core.Option.{none}
use Rattle.atomic_table.specs.Table.{Allows, step}
use Rattle.shared_pipe.specs.Rule.{Slot, IsSomePipe}
use Rattle.shared_pipe.specs.Steps.{FoundRoom, FoundFull, looks_for_room, looks_at_limit, fills}
use Rattle.shared_pipe.proofs.PlacesLemmas.{place_lt}
use Rattle.shared_pipe.proofs.LookLemmas.{looks, limits, if_free}
use Rattle.shared_pipe.proofs.WriterLemmas.{fills_lent}
use Rattle.shared_pipe.proofs.shared_out.SharedOut.lay.Goals as goal

pub load-requires : goal.load-requires
load-requires c =
    let h = c.args.self.now in
    let key : c.deref.result.now.shared.key ≡ h.capacity = ap (λ t. t.shared.key) c.deref.ensures ∙ h.ties.1 in
    let words = ap (λ t. t.shared.table_id.words) c.deref.ensures ∙ h.places.0 in
    let slots = ap (λ t. t.shared.table_id.slots) c.deref.ensures ∙ h.places.1 in
    let v = h.seat.me.0 in
    let i = c.after-after.result in (
      h.ties.0 ∙ ap (λ t. t.shared.table_id) (sym c.deref.ensures),
      rw (words, c.after-after.ensures) (place_lt (length v.writing.committed + 1) h.capacity),
      subst (λ (x : ℕ × ℕ × List (ℕ × Slot)). Allows (IsSomePipe x.0) x.1 h.seat.id (v, x.2) i (λ n. n) (looks_at_limit (step x.1 i 0 0 none) (v, x.2)))
          (λ k. (sym key k, sym slots k, sym h.idle.2 k))
          (limits h.capacity h.seat.id i v h.idle.0),
    )

pub load-requires-2 : goal.load-requires-2
load-requires-2 c =
    let h = c.args.self.now in
    let key : c.deref.result.now.shared.key ≡ h.capacity = ap (λ t. t.shared.key) c.deref.ensures ∙ h.ties.1 in
    let words = ap (λ t. t.shared.table_id.words) c.deref.ensures ∙ h.places.0 in
    let slots = ap (λ t. t.shared.table_id.slots) c.deref.ensures ∙ h.places.1 in
    let v = h.seat.me.0 in
    let i = c.after-after.result in (
      h.ties.0 ∙ ap (λ t. t.shared.table_id) (sym c.deref.ensures),
      rw (words, c.after-after.ensures) (place_lt (length v.writing.committed + 1) h.capacity),
      subst (λ (x : ℕ × ℕ × List (ℕ × Slot)). Allows (IsSomePipe x.0) x.1 h.seat.id (v, x.2) i (λ n. n) (looks_for_room (step x.1 i 0 0 none) (v, x.2)))
          (λ k. (sym key k, sym slots k, sym h.idle.2 k))
          (looks h.capacity h.seat.id i v h.small.0 h.idle.0 h.idle.1 c.after-after.ensures),
    )

pub store-requires : goal.store-requires
store-requires c =
    let h = c.args.self.now in
    let key : c.deref.result.now.shared.key ≡ h.capacity = ap (λ t. t.shared.key) c.deref.ensures ∙ h.ties.1 in
    let words = ap (λ t. t.shared.table_id.words) c.deref.ensures ∙ h.places.0 in
    let slots = ap (λ t. t.shared.table_id.slots) c.deref.ensures ∙ h.places.1 in
    let n = c.deref.result.now.shared.table_id.slots in
    let room = if_free (FoundRoom n h.seat.me c.load-2.new.seat.me) (FoundFull n h.seat.me c.load-2.new.seat.me) c.load-2.result c.if-load-ne-FREE.false c.load-2.ensures.2 in (
      c.exchange.ensures.0 ∙ c.load-2.ensures.0 ∙ h.ties.0 ∙ ap (λ t. t.shared.table_id) (sym c.deref.ensures),
      rw (words, h.place) (place_lt (length h.seat.me.0.writing.committed) h.capacity),
      subst (λ (x : ℕ). Allows (IsSomePipe x) n c.exchange.new.seat.id c.exchange.new.seat.me h.next (λ _. 1) (λ _. fills (step n h.next 1 0 none) c.exchange.new.seat.me 1))
          (sym key)
          (fills_lent h.capacity n c.exchange.new.seat.id h.next c.args.message h.seat.me c.load-2.new.seat.me c.exchange.new.seat.me h.small.0 slots h.idle c.requires.open c.requires.whole h.place (let k = h.counted.1 in let e = h.counted.0 in let ne = c.if-self-eq-MOST.false in omega (arith, k, e, ne)) room c.exchange.ensures.3),
    )
