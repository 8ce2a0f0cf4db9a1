use Rattle.std.proofs.Common.{◌≡◌, ℕ, List, length, sym, ap, ◌∙◌, subst}
use mathlib.Core.Option.{none}
use Rattle.atomic_table.specs.Table.{Allows, step}
use Rattle.shared_pipe.specs.Rule.{Slot, IsSomePipe}
use Rattle.shared_pipe.specs.Steps.{shuts}
use Rattle.shared_pipe.proofs.PlacesLemmas.{place_lt}
use Rattle.shared_pipe.proofs.WriterLemmas.{closes}
use Rattle.shared_pipe.proofs.shared_out.SharedOut.seal.Goals as goal

pub store-requires : goal.store-requires
store-requires c =
    let h = c.args.self.now in
    let key : c.deref.result.now.shared.key ≡ h.capacity = ap (λ t. t.shared.key) c.deref.ensures ∙ h.ties.1 in
    let words = ap (λ t. t.shared.table_id.words) c.deref.ensures ∙ h.places.0 in
    let slots = ap (λ t. t.shared.table_id.slots) c.deref.ensures ∙ h.places.1 in
    let v = h.seat.me.0 in (
      h.ties.0 ∙ ap (λ t. t.shared.table_id) (sym c.deref.ensures),
      rw (words, h.place) (place_lt (length v.writing.committed) h.capacity),
      subst (λ (x : ℕ × ℕ × List (ℕ × Slot)). Allows (IsSomePipe x.0) x.1 h.seat.id (v, x.2) h.next (λ _. 2) (λ _. shuts (step x.1 h.next 2 0 none) (v, x.2) 2))
          (λ k. (sym key k, sym slots k, sym h.idle.2 k))
          (closes h.capacity h.seat.id h.next v h.idle.0 h.place),
    )
