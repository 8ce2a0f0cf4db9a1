-- What a put of many messages leaves.
use Rattle.std.proofs.Common.{ℕ, zero, suc, List, [], ◌∷◌, All, sym, subst}
use Rattle.std.proofs.lemmas.List.Elements.{All-drop}
use Rattle.zq_base.specs.Message.{Frames}
use Rattle.spec_pattern.specs.Pipe.{IsCommittable}
use Rattle.spec_pattern.specs.Half.{Writing}
use Rattle.msg_pipe.specs.Told.{PutsMany}

-- the rest fits a pipe
pub rest_whole : (v w : Writing) (ms : List Frames) (n : ℕ) (rest : List Frames) → PutsMany v ms n rest w → All IsCommittable ms → All IsCommittable rest
rest_whole v w [] n rest p h = subst (λ (xs : List Frames). All IsCommittable xs) (sym p.1) h
rest_whole v w (m ∷ ms) zero rest p h = subst (λ (xs : List Frames). All IsCommittable xs) (sym p.0) h
rest_whole v w (m ∷ ms) (suc n) rest p h = subst (λ (xs : List Frames). All IsCommittable xs) (sym p.rest_is) (All-drop IsCommittable (suc n) (m ∷ ms) h)
