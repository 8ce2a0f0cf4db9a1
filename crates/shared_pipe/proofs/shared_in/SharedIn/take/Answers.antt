use Rattle.std.proofs.Common.{◌≡◌, ℕ, List, [], ◌∷◌, ◌++◌, ◌+◌, ◌≤◌, length, refl, arith, sym, ap, ◌∙◌, subst}
use Rattle.std.specs.Prelude.{Some, None}
use mathlib.Core.Option.{none}
use Rattle.std.proofs.lemmas.List.{length-append}
use Rattle.atomic_table.specs.Table.{Allows, step, rest}
use Rattle.shared_pipe.specs.Rule.{Slot, IsSomePipe}
use Rattle.shared_pipe.specs.Steps.{SeatHas, with_reader, drawing, looks_for_item, vacates}
use Rattle.shared_pipe.proofs.PlacesLemmas.{place_lt, prefix_length}
use Rattle.shared_pipe.proofs.ReaderLemmas.{looks_in, pulls, item_found, held_at}
use Rattle.shared_pipe.proofs.shared_in.SharedIn.take.Goals as goal

pub load-found-requires : goal.load-found-requires
load-found-requires c =
    let h = c.args.self.now in
    let key : c.deref.result.now.shared.key ≡ h.capacity = ap (λ t. t.shared.key) c.deref.ensures ∙ h.ties.1 in
    let words = ap (λ t. t.shared.table_id.words) c.deref.ensures ∙ h.places.0 in
    let slots = ap (λ t. t.shared.table_id.slots) c.deref.ensures ∙ h.places.1 in
    let v = h.seat.me.0 in (
      h.ties.0 ∙ ap (λ t. t.shared.table_id) (sym c.deref.ensures),
      rw (words, h.place) (place_lt (length v.reading.taken) h.capacity),
      subst (λ (x : ℕ × ℕ × List (ℕ × Slot)). Allows (IsSomePipe x.0) x.1 h.seat.id (v, x.2) h.next (λ n. n) (looks_for_item (step x.1 h.next 0 0 none) (v, x.2)))
          (λ k. (sym key k, sym slots k, sym h.idle.2 k))
          (looks_in h.capacity h.seat.id h.next v h.idle.0 h.idle.1 h.place),
    )

pub exchange-item-requires : goal.exchange-item-requires
exchange-item-requires c =
    let h = c.args.self.now in
    let slots = ap (λ t. t.shared.table_id.slots) c.deref.ensures ∙ h.places.1 in
    let waits = item_found c.deref.result.now.shared.table_id.slots c.load-found.result h.seat.me c.load-found.new.seat.me c.if-found-eq-FREE.false c.if-found-eq-SEALED.false c.load-found.ensures.2 in
    let held = waits.after ∙ held_at (with_reader h.seat.me.0 (drawing h.seat.me.0.reading waits.saw)) waits.item (length h.seat.me.0.reading.taken) _ h.capacity h.next h.seat.me.1 slots h.place h.idle.2 in
    (c.load-found.ensures.0 ∙ h.ties.0 ∙ ap (λ t. t.shared.table_id) (sym c.deref.ensures), (Some waits.item, ap (λ (x : SeatHas). x.1) held ∙ ap (λ (x : SeatHas). (h.next, Some waits.item) ∷ rest x.1) (sym held)))

pub store-requires : goal.store-requires
store-requires c =
    let h = c.args.self.now in
    let v = h.seat.me.0 in
    let slots = ap (λ t. t.shared.table_id.slots) c.deref.ensures ∙ h.places.1 in
    let waits = item_found c.deref.result.now.shared.table_id.slots c.load-found.result h.seat.me c.load-found.new.seat.me c.if-found-eq-FREE.false c.if-found-eq-SEALED.false c.load-found.ensures.2 in
    let w = with_reader v (drawing v.reading waits.saw) in
    let held = waits.after ∙ held_at w waits.item (length v.reading.taken) _ h.capacity h.next h.seat.me.1 slots h.place h.idle.2 in
    let key : c.deref.result.now.shared.key ≡ h.capacity = ap (λ t. t.shared.key) c.deref.ensures ∙ h.ties.1 in
    let words = ap (λ t. t.shared.table_id.words) c.deref.ensures ∙ h.places.0 in
    let me : c.exchange-item.new.seat.me ≡ (w, (h.next, None) ∷ []) = c.exchange-item.ensures.3 ∙ ap (λ (x : SeatHas). (x.0, (h.next, None) ∷ rest x.1)) held in
    let longer : length v.reading.taken + 1 ≤ length waits.saw = let e = length-append v.reading.taken (waits.item ∷ []) in let p = prefix_length (v.reading.taken ++ waits.item ∷ []) waits.saw waits.waits.within in omega (arith, e, p) in (
      c.exchange-item.ensures.0 ∙ c.load-found.ensures.0 ∙ h.ties.0 ∙ ap (λ t. t.shared.table_id) (sym c.deref.ensures),
      rw (words, h.place) (place_lt (length v.reading.taken) h.capacity),
      subst (λ (x : ℕ × ℕ × SeatHas). Allows (IsSomePipe x.0) x.1 c.exchange-item.new.seat.id x.2 h.next (λ _. 0) (λ _. vacates (step x.1 h.next 0 0 none) x.2 0))
          (λ k. (sym key k, sym slots k, sym me k))
          (pulls h.capacity c.exchange-item.new.seat.id h.next w h.idle.0 refl h.place longer),
    )
