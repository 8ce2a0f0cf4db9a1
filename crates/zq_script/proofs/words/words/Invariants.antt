use Rattle.std.proofs.Common.{◌≡◌, take}
use Rattle.std.specs.Prelude.{map, filter}
use Rattle.zq_script.specs.Words.{is_some_word}
use Rattle.zq_script.proofs.words.words.Given as goal

abbrev pub invariant-loop-piece : goal.invariant-loop-piece
invariant-loop-piece l = map (λ x. x.now) l.words.items ≡ filter is_some_word (map (λ x. x.now) (take l.piece-index l.piece-items))
