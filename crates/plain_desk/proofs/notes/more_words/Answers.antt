use Rattle.std.proofs.Common.{◌∙◌, List, ℕ, arith, refl, ap, length}
use Rattle.std.proofs.lemmas.List.{length_push}
use Rattle.ctl_state.specs.Bits.{bit_in}
use Rattle.plain_desk.proofs.NoteLemmas.{keeps_alike, word_more}
use Rattle.plain_desk.proofs.notes.more_words.Goals as goal

pub returns-in_err-push-2-clause-keeps : goal.returns-in_err-push-2-clause-keeps
returns-in_err-push-2-clause-keeps c =
    keeps_alike c.args.notes.now (record { workers = c.args.notes.now.workers; first = c.args.notes.now.first; places = c.args.notes.now.places; seen = c.push-2.new.self; waits = c.push.new.self; whole = c.args.notes.now.whole }) refl refl refl (λ k. refl)
    (λ k. ap (λ (ws : List ℕ). bit_in ws k) c.in_err-push-2.ensures.items)
    (let same = ap (λ (ws : List ℕ). length ws) c.in_err-push-2.ensures.items in omega (arith, same))
    (λ k. ap (λ (ws : List ℕ). bit_in ws k) c.in_ok-push.ensures.items ∙ word_more c.args.notes.now.waits.items k)

pub returns-clause-keeps : goal.returns-clause-keeps
returns-clause-keeps c =
    keeps_alike c.args.notes.now (record { workers = c.args.notes.now.workers; first = c.args.notes.now.first; places = c.args.notes.now.places; seen = c.push-2.new.self; waits = c.push.new.self; whole = c.args.notes.now.whole }) refl refl refl (λ k. refl)
    (λ k. ap (λ (ws : List ℕ). bit_in ws k) c.in_ok-push-2.ensures.items ∙ word_more c.args.notes.now.seen.items k)
    (let more = ap (λ (ws : List ℕ). length ws) c.in_ok-push-2.ensures.items ∙ length_push c.args.notes.now.seen.items 0 in omega (arith, more))
    (λ k. ap (λ (ws : List ℕ). bit_in ws k) c.in_ok-push.ensures.items ∙ word_more c.args.notes.now.waits.items k)
