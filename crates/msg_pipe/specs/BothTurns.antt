-- The turns of a socket that sends by turn and receives by turn (own choice: each direction has its own order).
use Rattle.std.specs.Prelude.{ℕ, List, [], ◌∷◌, ◌++◌}
use Rattle.msg_pipe.specs.Turns.{without_place}

-- the places that are sent to and those that are received from, each in the order of their turns
pub record Both : Type 0 where
  pub outs : List ℕ
  pub ins : List ℕ

-- no places
abbrev pub no_turns : Both
no_turns = record { outs = []; ins = [] }

-- one place more, whose turns come last
abbrev pub with_turns : ℕ → Both → Both
with_turns place t = record { outs = t.outs ++ place ∷ []; ins = t.ins ++ place ∷ [] }

-- the other places, in their orders
abbrev pub without_turns : ℕ → Both → Both
without_turns place t = record { outs = without_place place t.outs; ins = without_place place t.ins }
