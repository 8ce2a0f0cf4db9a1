use Rattle.std.proofs.Common.{◌≡◌, ℕ, List, [], length, arith, sym, ap, ◌∙◌}
use Rattle.shared_pipe.specs.Rule.{Slot, fresh_view, writer_of, reader_of}
use Rattle.shared_pipe.specs.declared.view.View.{View}
use Rattle.shared_pipe.proofs.HalvesLemmas.{parts}
use Rattle.shared_pipe.proofs.making.make.Goals as goal

pub split_seat-reading-requires : goal.split_seat-reading-requires
split_seat-reading-requires c =
    let t = c.in_ok-table.ensures in
    let d = c.deref.ensures ∙ c.in_ok-table-2.ensures.0 in
    let reads = ap (λ (m : View × List (ℕ × Slot)). m.0.reads) t.seat.1 in (
      t.seat.0 ∙ ap (λ t. t.shared.table_id) (sym d),
      rw (ap (λ t. t.shared.table_id.words) d ∙ t.places.0) (omega arith),
      parts c.deref.result.now.shared.key c.in_ok-table.seat.id c.in_ok-table.seat.me.0 reads,
    )

pub returns-clause-wakers : goal.returns-clause-wakers
returns-clause-wakers c = (c.in_ok-writer.ensures.1, c.in_ok-writer.ensures.0)

pub invariant_of-out : goal.invariant_of-out
invariant_of-out c =
    let t = c.in_ok-table.ensures in
    let same = c.in_ok-table-2.ensures.0 in
    let s = c.split_seat-reading.ensures in
    let me : c.split_seat-reading.new.seat.me ≡ (writer_of fresh_view, []) = s.2 ∙ ap (λ (m : View × List (ℕ × Slot)). (writer_of m.0, m.1)) t.seat.1 in
    record {
      ties = (s.0 ∙ t.seat.0 ∙ ap (λ t. t.shared.table_id) (sym same), ap (λ t. t.shared.key) same ∙ t.key);
      places = (ap (λ t. t.shared.table_id.words) same ∙ t.places.0, ap (λ t. t.shared.table_id.slots) same ∙ t.places.1);
      small = (omega (arith, c.requires.some), c.requires.few);
      counted = (sym (ap (λ (m : View × List (ℕ × Slot)). length m.0.writing.committed) me), omega arith);
      place = rw (ap (λ (m : View × List (ℕ × Slot)). length m.0.writing.committed) me) (omega arith);
      idle = (ap (λ (m : View × List (ℕ × Slot)). m.0.writes) me, ap (λ (m : View × List (ℕ × Slot)). m.0.writing.lent) me, ap (λ (m : View × List (ℕ × Slot)). m.1) me);
    }

pub invariant_of-input : goal.invariant_of-input
invariant_of-input c =
    let t = c.in_ok-table.ensures in
    let same = c.in_ok-table-2.ensures.1 in
    let s = c.split_seat-reading.ensures in
    let me : c.split_seat-reading.result.me ≡ (reader_of fresh_view, []) = s.4 ∙ ap (λ (m : View × List (ℕ × Slot)). (reader_of m.0, [])) t.seat.1 in
    record {
      ties = (s.3 ∙ t.seat.0 ∙ ap (λ t. t.shared.table_id) (sym same), ap (λ t. t.shared.key) same ∙ t.key);
      places = (ap (λ t. t.shared.table_id.words) same ∙ t.places.0, ap (λ t. t.shared.table_id.slots) same ∙ t.places.1);
      small = (omega (arith, c.requires.some), c.requires.few);
      counted = (sym (ap (λ (m : View × List (ℕ × Slot)). length m.0.reading.taken) me), omega arith);
      place = rw (ap (λ (m : View × List (ℕ × Slot)). length m.0.reading.taken) me) (omega arith);
      idle = (ap (λ (m : View × List (ℕ × Slot)). m.0.reads) me, ap (λ (m : View × List (ℕ × Slot)). m.0.reading.drawn) me, ap (λ (m : View × List (ℕ × Slot)). m.1) me);
    }
