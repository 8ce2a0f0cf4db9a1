use Rattle.std.proofs.Common.{◌∙◌, List, Option, ℕ, arith, refl, ap}
use Rattle.plain_desk.specs.Notes.{place_of}
use Rattle.plain_desk.proofs.NoteLemmas.{keeps_alike, keeps_on, place_more}
use Rattle.plain_desk.proofs.notes.more_places.Goals as goal

pub returns-clause-keeps : goal.returns-clause-keeps
returns-clause-keeps c =
    keeps_on c.args.notes.now c.more_words.new.notes (record { workers = c.more_words.new.notes.workers; first = c.more_words.new.notes.first; places = c.push.new.self; seen = c.more_words.new.notes.seen; waits = c.more_words.new.notes.waits; whole = c.more_words.new.notes.whole }) c.in_ok-more_words.ensures.keeps
    (keeps_alike c.more_words.new.notes (record { workers = c.more_words.new.notes.workers; first = c.more_words.new.notes.first; places = c.push.new.self; seen = c.more_words.new.notes.seen; waits = c.more_words.new.notes.waits; whole = c.more_words.new.notes.whole }) refl refl refl
    (λ k. ap (λ (ps : List (Option ℕ)). place_of ps k) c.in_ok-push.ensures.items ∙ place_more c.more_words.new.notes.places.items k)
    (λ k. refl) (omega arith) (λ k. refl))
