use Rattle.std.proofs.Common.{◌≡◌}
use Rattle.plain_desk.proofs.NoteLemmas.{AreDropped}
use Rattle.plain_desk.proofs.notes.drop_notes.Given as goal

-- those so far are not noted
abbrev pub invariant-each : goal.invariant-each
invariant-each l = record {
  workers : l.notes.workers ≡ l.fn.notes.workers;
  whole : l.notes.whole ≡ l.fn.notes.whole;
  dropped : AreDropped l.fn.notes.workers l.closed l.place l.fn.notes.places.items l.notes.places.items l.fn.notes.waits.items l.notes.waits.items;
}
