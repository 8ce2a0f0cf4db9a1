use Rattle.std.specs.Prelude.{◌≡◌, List, [], ◌∷◌, map, refl}
use Rattle.std.proofs.Common.{arith, sym, ap, ◌∙◌}
use Rattle.ctl_state.specs.declared.command.Command.{Command}
use Rattle.ctl_state.proofs.state.State.is_empty.Goals as goal

no_cons : {Y : Type 0} {y : Y} {ys : List Y} → y ∷ ys ≡ [] → ⊥
no_cons h = Prim.grind arith

none_mapped : {X Y : Type 0} (f : X → Y) (xs : List X) → map f xs ≡ [] → xs ≡ []
none_mapped f [] e = refl
none_mapped f (x ∷ xs) e = absurd (no_cons e)

pub returns : goal.returns
returns g c d stands =
    let each = stands.boxes.each c.args.slot.0 in (
      λ yes. sym each ∙ ap (λ (cs : List (Command g.row.L.Denot)). map (λ (x : Command g.row.L.Denot). x.letter) cs) (c.is_empty.ensures.0 yes),
      λ none. c.is_empty.ensures.1 (none_mapped (λ (x : Command g.row.L.Denot). x.letter) _ (each ∙ none)),
    )
