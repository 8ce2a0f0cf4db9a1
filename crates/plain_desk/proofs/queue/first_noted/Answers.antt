use Rattle.std.proofs.Common.{◌≡◌, ◌+◌, ◌*◌, ℕ, List, arith, sym, subst}
use Rattle.ctl_state.specs.Bits.{bit_in}
use Rattle.ctl_plane.specs.Past.{control_of}
use Rattle.plain_desk.specs.Lent.{HaveOwnBoxes}
use Rattle.plain_desk.proofs.NoteLemmas.{first_is_noted, none_noted}
use Rattle.plain_desk.proofs.queue.first_noted.Goals as goal

pub returns-then-is_waiting_at-clause-first : goal.returns-then-is_waiting_at-clause-first
returns-then-is_waiting_at-clause-first g c =
    let whole = c.if-not-notes.false in
    first_is_noted (control_of c.args.history.now) c.follow.new.notes.workers c.follow.new.notes.first
    (subst (λ (w : ℕ). HaveOwnBoxes w (control_of c.args.history.now)) (sym (c.follow.ensures.workers whole)) c.requires.boxes)
    c.args.closed.now c.requires.sockets c.follow.new.notes.places.items c.follow.new.notes.seen.items c.follow.new.notes.waits.items
    (c.follow.ensures.noted whole) (c.follow.ensures.seen whole)
    (c.in-Some.word * 64 + c.in-Some.bit) (c.is_waiting_at.ensures.there c.if-is_waiting_at.true)
    (λ k within below. subst (λ (ws : List ℕ). bit_in ws k ≡ 0) c.deref.ensures.value (c.in-Some.ensures.some k within (omega (arith, below))))
    (c.is_waiting_at.ensures.waits c.if-is_waiting_at.true)

pub returns-in-None-clause-first : goal.returns-in-None-clause-first
returns-in-None-clause-first g c =
    let whole = c.if-not-notes.false in
    none_noted (control_of c.args.history.now) c.follow.new.notes.workers c.follow.new.notes.first
    (subst (λ (w : ℕ). HaveOwnBoxes w (control_of c.args.history.now)) (sym (c.follow.ensures.workers whole)) c.requires.boxes)
    c.args.closed.now c.requires.sockets c.follow.new.notes.places.items c.follow.new.notes.seen.items c.follow.new.notes.waits.items
    (c.follow.ensures.noted whole) (c.follow.ensures.seen whole)
    (λ k within. subst (λ (ws : List ℕ). bit_in ws k ≡ 0) c.deref.ensures.value (c.in-None.ensures.none k within))

pub follow-requires : goal.follow-requires
follow-requires g c = record { noted = c.requires.noted }

pub first_of-requires : goal.first_of-requires
first_of-requires g c = record { there = c.requires.there }

pub first_of-requires-in-Some : goal.first_of-requires-in-Some
first_of-requires-in-Some g c = record { there = c.requires.there }

pub first_of-requires-then-word-ge-MOST_WORDS : goal.first_of-requires-then-word-ge-MOST_WORDS
first_of-requires-then-word-ge-MOST_WORDS g c = record { there = c.requires.there }

pub is_waiting_at-requires : goal.is_waiting_at-requires
is_waiting_at-requires g c = record { there = c.requires.there }

pub returns-in-None-clause-noted : goal.returns-in-None-clause-noted
returns-in-None-clause-noted g c = c.follow.ensures.noted

pub returns-in-Some-clause-noted : goal.returns-in-Some-clause-noted
returns-in-Some-clause-noted g c = c.follow.ensures.noted

pub returns-then-is_waiting_at-clause-noted : goal.returns-then-is_waiting_at-clause-noted
returns-then-is_waiting_at-clause-noted g c = c.follow.ensures.noted

pub returns-then-not-notes-clause-noted : goal.returns-then-not-notes-clause-noted
returns-then-not-notes-clause-noted g c = c.follow.ensures.noted

pub returns-then-word-ge-MOST_WORDS-clause-noted : goal.returns-then-word-ge-MOST_WORDS-clause-noted
returns-then-word-ge-MOST_WORDS-clause-noted g c = c.follow.ensures.noted

pub returns-then-not-notes-clause-first : goal.returns-then-not-notes-clause-first
returns-then-not-notes-clause-first g c = c.first_of.ensures.first

pub returns-then-not-notes-clause-there : goal.returns-then-not-notes-clause-there
returns-then-not-notes-clause-there g c = c.first_of.ensures.there

pub returns-in-Some-clause-first : goal.returns-in-Some-clause-first
returns-in-Some-clause-first g c = c.first_of-in-Some.ensures.first

pub returns-in-Some-clause-there : goal.returns-in-Some-clause-there
returns-in-Some-clause-there g c = c.first_of-in-Some.ensures.there

pub returns-then-word-ge-MOST_WORDS-clause-first : goal.returns-then-word-ge-MOST_WORDS-clause-first
returns-then-word-ge-MOST_WORDS-clause-first g c = c.first_of-then-word-ge-MOST_WORDS.ensures.first

pub returns-then-word-ge-MOST_WORDS-clause-there : goal.returns-then-word-ge-MOST_WORDS-clause-there
returns-then-word-ge-MOST_WORDS-clause-there g c = c.first_of-then-word-ge-MOST_WORDS.ensures.there

pub returns-then-is_waiting_at-clause-there : goal.returns-then-is_waiting_at-clause-there
returns-then-is_waiting_at-clause-there g c = c.is_waiting_at.ensures.there c.if-is_waiting_at.true
