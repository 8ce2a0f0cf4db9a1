-- A mailbox, by the commands that wait in it (own choice; libzmq's `mailbox` is its counterpart).
use Rattle.std.specs.Prelude.{ℕ, Bool, false, List, [], ◌∷◌, ◌++◌, ◌-◌}

-- the commands that wait, oldest first, how many more may be sent without memory, and whether the place of a command that was taken is still free for it
pub record Mail (C : Type 0) : Type 0 where
  pub commands : List C
  pub spare : ℕ
  pub freed : Bool

module _ {C : Type 0} where
  -- a mailbox at its making
  abbrev pub no_mail : Mail C
  no_mail = record { commands = []; spare = 0; freed = false }

  -- the same commands, with this much room
  abbrev pub with_spare : ℕ → Mail C → Mail C
  with_spare n mail = record mail { spare = n }

  -- a command more at the end, in room that was kept
  abbrev pub with_sent : C → Mail C → Mail C
  with_sent command mail =
      record { commands = mail.commands ++ command ∷ []; spare = mail.spare - 1; freed = mail.freed }

  -- a command that was taken is the oldest again
  abbrev pub with_put_back : C → Mail C → Mail C
  with_put_back command mail =
      record { commands = command ∷ mail.commands; spare = mail.spare; freed = false }
