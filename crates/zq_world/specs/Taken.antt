-- What the taking of one letter of any mailbox of the reaper's does (own choice, after libzmq's `reaper_t`).
use Rattle.std.specs.Prelude.{◌==◌, ℕ, Bool, true, List, []}
use Rattle.std.specs.List.{list_any}
use Rattle.spec_control.specs.Control.{Control}
use Rattle.spec_control.specs.Moments.{reaper_slots}
use Rattle.spec_run.specs.Act.{Act}
use Rattle.spec_run.specs.Event.{TakesLetter}
use Rattle.zq_world.specs.Piece.{Piece, AddsPiece}

-- a mailbox is one of the reaper's: the root's, or that of a closed socket that it took over
abbrev pub is_reapers : Control → ℕ → Bool
is_reapers c slot = list_any (λ k. k == slot) (reaper_slots c)

module _ {N S : Type 0} where
  -- one letter of a mailbox is taken by the reaper, with the look behind it
  pub record ReapsAt (caller slot : ℕ) (before after : List (Piece N S)) : Type 0 where
    pub acts : List (Act N S)
    pub takes : TakesLetter slot acts
    pub adds : AddsPiece caller true acts [] before after
