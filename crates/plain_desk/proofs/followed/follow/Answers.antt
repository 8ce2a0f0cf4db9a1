use Rattle.std.specs.Prelude.{◌+◌, ℕ}
use Rattle.std.proofs.Common.{sym, subst}
use Rattle.std.proofs.lemmas.Bool.{false≢true}
use Rattle.ctl_plane.specs.Past.{control_of}
use Rattle.plain_desk.specs.Notes.{object_at, AreFollowed, IsFollowed}
use Rattle.plain_desk.proofs.followed.follow.Goals as goal

pub returns-then-notes-workers-clause-noted : goal.returns-then-notes-workers-clause-noted
returns-then-notes-workers-clause-noted g c = λ e. absurd (false≢true e)

pub returns-then-notes-workers-clause-workers : goal.returns-then-notes-workers-clause-workers
returns-then-notes-workers-clause-workers g c = λ e. absurd (false≢true e)

pub returns-then-notes-workers-clause-seen : goal.returns-then-notes-workers-clause-seen
returns-then-notes-workers-clause-seen g c = λ e. absurd (false≢true e)

pub returns-then-closed-saturating_sub-clause-noted : goal.returns-then-closed-saturating_sub-clause-noted
returns-then-closed-saturating_sub-clause-noted g c = c.follow_each.ensures.keeps.noted c.args.closed.now c.requires.noted

pub returns-then-closed-saturating_sub-clause-seen : goal.returns-then-closed-saturating_sub-clause-seen
returns-then-closed-saturating_sub-clause-seen g c = λ whole.
    subst (λ (w : ℕ). AreFollowed (control_of c.args.history.now) c.args.closed.now w c.follow_each.new.notes.seen.items) (sym c.follow_each.ensures.keeps.workers) (c.follow_each.ensures.seen whole)

pub returns-clause-noted : goal.returns-clause-noted
returns-clause-noted g c = c.follow_words.ensures.keeps.noted c.args.closed.now c.requires.noted

pub returns-clause-seen : goal.returns-clause-seen
returns-clause-seen g c = λ whole k within.
    let was = c.requires.noted (c.follow_words.ensures.keeps.whole whole) in
    let placed = was.placed k within in
    subst (λ (w : ℕ). IsFollowed (control_of c.args.history.now) c.follow_words.new.notes.seen.items (w + object_at c.args.closed.now k)) (sym c.follow_words.ensures.keeps.workers)
    (c.follow_words.ensures.seen whole _ (was.first_there _ k placed) (was.seen_there _ k placed))
