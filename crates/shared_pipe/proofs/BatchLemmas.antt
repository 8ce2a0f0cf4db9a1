-- The messages of one call, one after the other.
use Rattle.std.proofs.Common.{◌≡◌, ℕ, ◌+◌, List, [], ◌∷◌, ◌++◌, length, ap, ◌∙◌, arith}
use Rattle.std.proofs.lemmas.List.{length-append, append_assoc}
use Rattle.zq_base.specs.Message.{Frames}
use Rattle.spec_pattern.specs.Half.{Writing, Commits, CommitsMany}

-- so many are committed, from the first, and the rest is left
pub record LaysSome (v : Writing) (ms : List Frames) (n : ℕ) (rest : List Frames) (w : Writing) : Type 0 where
  pub laid : List Frames
  pub all : laid ++ rest ≡ ms
  pub count : n ≡ length laid
  pub commits : CommitsMany v laid w

pub lays_one : (v u w : Writing) (ms : List Frames) (n : ℕ) (m : Frames) (rest : List Frames) → LaysSome v ms n (m ∷ rest) u → Commits u m w → LaysSome v ms (n + 1) rest w
lays_one v u w ms n m rest l c = record {
  laid = l.laid ++ m ∷ [];
  all = append_assoc l.laid (m ∷ []) rest ∙ l.all;
  count = omega (arith, l.count, length-append l.laid (m ∷ []));
  commits = record {
    committed = c.committed ∙ ap (λ (xs : List Frames). xs ++ m ∷ []) l.commits.committed ∙ append_assoc v.committed l.laid (m ∷ []);
    parts = c.parts ∙ l.commits.parts;
    sealed = c.sealed ∙ l.commits.sealed;
    capacity = c.capacity ∙ l.commits.capacity;
    freed = omega (arith, c.freed, l.commits.freed);
    room = c.room;
    few = c.few;
    full_looks = c.full_looks ∙ l.commits.full_looks;
  };
}
