use Rattle.std.proofs.Common.{◌∙◌, sym, refl}
use Rattle.ctl_state.specs.Bits.{as_bit}
use Rattle.plain_desk.proofs.NoteLemmas.{noted_at, noted_nowhere}
use Rattle.plain_desk.proofs.followed.note.Goals as goal

pub returns-in-Some-clause-keeps : goal.returns-in-Some-clause-keeps
returns-in-Some-clause-keeps c = noted_at c.args.notes.now
    (record { workers = c.args.notes.now.workers; first = c.args.notes.now.first; places = c.args.notes.now.places; seen = c.set_bit.new.words; waits = c.set_bit-in-Some.new.words; whole = c.args.notes.now.whole })
    c.args.mailbox (as_bit c.args.waits) refl refl refl refl c.set_bit.ensures.long c.set_bit.ensures.each c.in-Some.place (sym c.place_noted.ensures ∙ c.in-Some.is) c.set_bit-in-Some.ensures.each

pub returns-in-None-clause-keeps : goal.returns-in-None-clause-keeps
returns-in-None-clause-keeps c = noted_nowhere c.args.notes.now
    (record { workers = c.args.notes.now.workers; first = c.args.notes.now.first; places = c.args.notes.now.places; seen = c.set_bit.new.words; waits = c.args.notes.now.waits; whole = c.args.notes.now.whole })
    c.args.mailbox (as_bit c.args.waits) refl refl refl refl c.set_bit.ensures.long c.set_bit.ensures.each (sym c.place_noted.ensures ∙ c.in-None.is) refl
