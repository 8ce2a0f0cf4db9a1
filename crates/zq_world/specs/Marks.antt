-- What was done through a core, by what a tale tells and the items of the control plane (own choice).
use Rattle.std.specs.Prelude.{◌≡◌, ◌+◌, ℕ, suc, Bool, List, [], ◌∷◌, ◌++◌, drop, length}
use Rattle.spec_pattern.specs.PipeStep.{PipeStep, Commit, FullLook, RoomLook, Take, EmptyLook, DelimiterLook, WaitingLook, Seal}
use Rattle.spec_pattern.specs.declared.answers.Skip.{Skip}
use Rattle.spec_control.specs.Moments.{Moment}
use Rattle.spec_run.specs.Act.{Act, Step, Said, moments_in}
use Rattle.zq_world.specs.Piece.{Piece, piece_of, acts_in}
use Rattle.zq_world.specs.declared.marks.StepMark.{StepMark}
use Rattle.zq_world.specs.declared.marks.StepMark.TheVariants as told
use Rattle.zq_world.specs.declared.marks.ActMark.{ActMark}
use Rattle.zq_world.specs.declared.marks.ActMark.TheVariants.{AtPipe, NextItem}
use Rattle.zq_world.specs.declared.marks.PieceMark.{PieceMark}

-- the step that is told, and how a step is told
abbrev pub step_of : StepMark → PipeStep
step_of (told.Commit p m) = Commit p m
step_of (told.FullLook p) = FullLook p
step_of (told.RoomLook p) = RoomLook p
step_of (told.Take p m) = Take p m
step_of (told.EmptyLook p) = EmptyLook p
step_of (told.DelimiterLook p) = DelimiterLook p
step_of (told.WaitingLook p) = WaitingLook p
step_of (told.Seal p) = Seal p

abbrev pub step_mark : PipeStep → StepMark
step_mark (Commit p m) = told.Commit p m
step_mark (FullLook p) = told.FullLook p
step_mark (RoomLook p) = told.RoomLook p
step_mark (Take p m) = told.Take p m
step_mark (EmptyLook p) = told.EmptyLook p
step_mark (DelimiterLook p) = told.DelimiterLook p
step_mark (WaitingLook p) = told.WaitingLook p
step_mark (Seal p) = told.Seal p

-- how many items acts tell, and calls
abbrev pub items_told : List ActMark → ℕ
items_told [] = 0
items_told (AtPipe s ∷ xs) = items_told xs
items_told (NextItem ∷ xs) = suc (items_told xs)

abbrev pub all_told : List PieceMark → ℕ
all_told [] = 0
all_told (x ∷ xs) = items_told x.acts + all_told xs

module _ {N S : Type 0} where
  -- the acts that are told, with these items from the first on
  abbrev pub acts_told : List ActMark → List (Moment N S) → List (Act N S)
  acts_told [] moments = []
  acts_told (AtPipe s ∷ xs) moments = Step (step_of s) ∷ acts_told xs moments
  acts_told (NextItem ∷ xs) [] = acts_told xs []
  acts_told (NextItem ∷ xs) (m ∷ moments) = Said m ∷ acts_told xs moments

  -- the calls that are told
  abbrev pub pieces_told : List PieceMark → List (Moment N S) → List (Piece N S)
  pieces_told [] moments = []
  pieces_told (x ∷ xs) moments =
      record { by = x.by; reaps = x.reaps; acts = acts_told x.acts moments; skips = x.skips } ∷ pieces_told xs (drop (items_told x.acts) moments)

  -- how acts are told, and a call
  abbrev pub act_mark : Act N S → ActMark
  act_mark (Step s) = AtPipe (step_mark s)
  act_mark (Said m) = NextItem

  abbrev pub act_marks : List (Act N S) → List ActMark
  act_marks [] = []
  act_marks (act ∷ acts) = act_mark act ∷ act_marks acts

  abbrev pub piece_marks : ℕ → (reaps : Bool) → List (Act N S) → List Skip → List PieceMark
  piece_marks k reaps [] skips = []
  piece_marks k reaps (act ∷ acts) skips = record { by = k; reaps = reaps; acts = act_marks (act ∷ acts); skips = skips } ∷ []

-- all these items are told; a call that did this stands behind the calls that were told, with its items behind theirs
abbrev pub TalesGoOn : (N S : Type 0) → Type 0
TalesGoOn N S = (marks : List PieceMark) (moments : List (Moment N S)) (k : ℕ) (reaps : Bool) (acts : List (Act N S)) (skips : List Skip) → all_told marks ≡ length moments →
    (pieces_told (marks ++ piece_marks k reaps acts skips) (moments ++ moments_in acts) ≡ pieces_told marks moments ++ piece_of k reaps acts skips)
    × (all_told (marks ++ piece_marks k reaps acts skips) ≡ length (moments ++ moments_in acts))

-- the items of all calls are these in order
abbrev pub TalesTellAll : (N S : Type 0) → Type 0
TalesTellAll N S = (marks : List PieceMark) (moments : List (Moment N S)) → all_told marks ≡ length moments → moments_in (acts_in (pieces_told marks moments)) ≡ moments
