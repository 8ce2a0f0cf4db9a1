-- What a run on one thread asks of its core beside sockets (own choice, after libzmq's `reaper_t` and zmq_ctx_term(3)).
use Rattle.std.specs.Prelude.{◌≡◌, ℕ, true, List, [], ◌∷◌}
use Rattle.std.specs.List.{AllByRecursion}
use Rattle.spec_control.specs.declared.object.ObjState.{ObjState}
use Rattle.spec_control.specs.declared.entry.SeenEmpty.TheVariants.{Nothing}
use Rattle.spec_control.specs.Moments.{Moment}
use Rattle.spec_run.specs.Act.{Act, Said, Deed, acts_of}
use Rattle.spec_run.specs.Event.{IsLookAt}
use Rattle.spec_run.specs.Worker.{AsksTheRoot}
use Rattle.spec_run.specs.InTurns.{ReaperStep}
use Rattle.zq_world.specs.Piece.{Piece, AddsPiece, AddsActs}

module _ {N S : Type 0} where
  -- no other caller took a letter in the place of closed sockets; so who took one over has it still
  abbrev pub IsOnlyReaper : (caller : ℕ) → List (Piece N S) → Type 0
  IsOnlyReaper caller pieces = AllByRecursion (λ x. x.reaps ≡ true → x.by ≡ caller) pieces

  -- this caller did nothing else; so it has no socket
  abbrev pub OnlyReaps : (caller : ℕ) → List (Piece N S) → Type 0
  OnlyReaps caller pieces = AllByRecursion (λ x. x.by ≡ caller → x.reaps ≡ true) pieces

  -- who takes letters in the place of closed sockets, and does nothing else
  pub record IsReaper (caller : ℕ) (pieces : List (Piece N S)) : Type 0 where
    pub only : IsOnlyReaper caller pieces
    pub reaps : OnlyReaps caller pieces

  -- the reaper's step
  pub record ReapsOne (caller : ℕ) (before after : List (Piece N S)) : Type 0 where
    pub deed : Deed N S
    pub step : ReaperStep (deed ∷ [])
    pub adds : AddsPiece caller true (acts_of deed) [] before after

  -- a look at the root
  pub record LooksOnce (caller : ℕ) (root : ObjState) (before after : List (Piece N S)) : Type 0 where
    pub seen : Moment N S
    pub look : IsLookAt Nothing seen
    pub root_is : look.sight.root ≡ root
    pub adds : AddsActs caller (Said seen ∷ []) [] before after

  -- the root is asked
  pub record AsksOnce (caller : ℕ) (before after : List (Piece N S)) : Type 0 where
    pub acts : List (Act N S)
    pub asks : AsksTheRoot acts
    pub adds : AddsActs caller acts [] before after
