use Rattle.std.proofs.Common.{◌≡◌, ◌≤◌, ◌++◌, drop, length, Ok, vec_capacity}
use Rattle.std.specs.Prelude.{map}
use Rattle.zq_script.specs.Answer.{◌>>=◌}
use Rattle.zq_script.specs.Part.{parts_of}
use Rattle.zq_script.proofs.part.read_parts.Given as goal

-- the parts of the other words follow those so far, and there is room for them
abbrev pub invariant-loop-word : goal.invariant-loop-word
invariant-loop-word l = record {
  parts : parts_of (map (λ x. x.now) l.words) ≡ (parts_of (map (λ x. x.now) (drop l.word-index l.words)) >>= λ more. Ok (l.parts.items ++ more));
  so_far : length l.parts.items ≡ l.word-index;
  room : length l.words ≤ vec_capacity l.parts;
}
