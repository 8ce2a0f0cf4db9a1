use Rattle.std.proofs.Common.{ℕ, zero, suc, List, [], ◌∷◌, All, sym, subst}
use Rattle.std.proofs.lemmas.List.Elements.{All-drop}
use Rattle.zq_base.specs.Message.{Frames}
use Rattle.spec_pattern.specs.Pipe.{IsCommittable}
use Rattle.spec_pattern.specs.Half.{Writing}
use Rattle.msg_pipe.specs.Told.{PutsMany}
use Rattle.zq_tests_leaves.proofs.many_messages.Both.put.Goals as goal

-- what is left of messages that fit a pipe fits it
rest_whole : (v w : Writing) (ms rest : List Frames) (n : ℕ) → All IsCommittable ms → PutsMany v ms n rest w → All IsCommittable rest
rest_whole v w [] rest n all puts = subst (All IsCommittable) (sym puts.1) all
rest_whole v w (m ∷ ms) rest zero all puts = subst (All IsCommittable) (sym puts.0) all
rest_whole v w (m ∷ ms) rest (suc n) all puts = subst (All IsCommittable) (sym puts.rest_is) (All-drop IsCommittable (suc n) (m ∷ ms) all)

pub returns : goal.returns
returns g c = rest_whole _ _ c.args.messages.now.items _ c.put_many.result c.requires c.put_many.ensures.many
