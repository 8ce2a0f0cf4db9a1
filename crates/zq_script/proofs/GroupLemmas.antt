-- Statements grouped by actors, from the last to the first.
use Rattle.std.proofs.Common.{◌≡◌, ap, ◌∙◌, ◌++◌, List, [], ◌∷◌, ℕ}
use Rattle.std.specs.Prelude.{reverse}
use Rattle.std.proofs.lemmas.List.{reverse-append}
use Rattle.spec_run.specs.declared.script.Line.{Line}
use Rattle.zq_script.specs.declared.group.Group.{Group}
use Rattle.zq_script.specs.declared.statement.Statement.{Statement}
use Rattle.zq_script.specs.declared.statement.Statement.TheVariants.{Actor, Socket, Closed, Other}
use Rattle.zq_script.specs.Groups.{Groups}
use Rattle.zq_script.specs.Script.{actors_of, leading_lines}

-- of no statements
pub groups_none : (group : Group) → group.actors.items ≡ [] → group.lines.items ≡ [] → Groups group []
unfolding actors_of leading_lines
groups_none group a l = record { actors = ap reverse a; lines = ap reverse l }

module _ (old new : Group) (rest : List Statement) where
  -- with a line before them that names a socket
  pub groups_socket : (name : List ℕ) (line : Line) → new.actors.items ≡ old.actors.items → new.lines.items ≡ old.lines.items ++ line ∷ [] → Groups old rest → Groups new (Socket name line ∷ rest)
  unfolding actors_of leading_lines
  groups_socket name line a l h = record { actors = ap reverse a ∙ h.actors; lines = ap reverse l ∙ reverse-append old.lines.items (line ∷ []) ∙ ap (λ ls. line ∷ ls) h.lines }

  -- with a line before them that closes a socket
  pub groups_closed : (name : List ℕ) (line : Line) → new.actors.items ≡ old.actors.items → new.lines.items ≡ old.lines.items ++ line ∷ [] → Groups old rest → Groups new (Closed name line ∷ rest)
  unfolding actors_of leading_lines
  groups_closed name line a l h = record { actors = ap reverse a ∙ h.actors; lines = ap reverse l ∙ reverse-append old.lines.items (line ∷ []) ∙ ap (λ ls. line ∷ ls) h.lines }

  -- with another line before them
  pub groups_other : (line : Line) → new.actors.items ≡ old.actors.items → new.lines.items ≡ old.lines.items ++ line ∷ [] → Groups old rest → Groups new (Other line ∷ rest)
  unfolding actors_of leading_lines
  groups_other line a l h = record { actors = ap reverse a ∙ h.actors; lines = ap reverse l ∙ reverse-append old.lines.items (line ∷ []) ∙ ap (λ ls. line ∷ ls) h.lines }

  -- with an actor before them
  pub groups_actor : (name : List ℕ) (lines : List Line) → new.actors.items ≡ old.actors.items ++ record { name = name; lines = lines } ∷ [] → lines ≡ reverse old.lines.items
      → new.lines.items ≡ [] → Groups old rest → Groups new (Actor name ∷ rest)
  unfolding actors_of leading_lines
  groups_actor name lines a l n h = record {
    actors = ap reverse a ∙ reverse-append old.actors.items (record { name = name; lines = lines } ∷ [])
        ∙ ap (λ (ls : List Line). record { name = name; lines = ls } ∷ reverse old.actors.items) (l ∙ h.lines)
        ∙ ap (λ actors. record { name = name; lines = leading_lines rest } ∷ actors) h.actors;
    lines = ap reverse n;
  }
