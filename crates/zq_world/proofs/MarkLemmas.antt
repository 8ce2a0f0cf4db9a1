-- A tale is told item by item.
use Rattle.std.specs.Prelude.{◌≡◌, ◌≤◌, ◌+◌, ℕ, Bool, List, [], ◌∷◌, ◌++◌, drop, take, length, refl}
use Rattle.std.proofs.Common.{arith, ap, ◌∙◌, length-append, length-drop}
use Rattle.std.proofs.lemmas.List.{drop-append-le, take-append-drop}
use Rattle.std.proofs.lemmas.List.Elements.{filter_map-append}
use Rattle.spec_pattern.specs.PipeStep.{PipeStep, Commit, FullLook, RoomLook, Take, EmptyLook, DelimiterLook, WaitingLook, Seal}
use Rattle.spec_pattern.specs.declared.answers.Skip.{Skip}
use Rattle.spec_control.specs.Moments.{Moment}
use Rattle.spec_run.specs.Act.{Act, Step, Said, moment_of, moments_in}
use Rattle.zq_world.specs.Piece.{Piece, piece_of, acts_in}
use Rattle.zq_world.specs.declared.marks.ActMark.{ActMark}
use Rattle.zq_world.specs.declared.marks.ActMark.TheVariants.{AtPipe, NextItem}
use Rattle.zq_world.specs.declared.marks.PieceMark.{PieceMark}
use Rattle.zq_world.specs.Marks.{step_of, step_mark, items_told, all_told, acts_told, pieces_told, act_marks, piece_marks, TalesGoOn, TalesTellAll}

step_back : (s : PipeStep) → step_of (step_mark s) ≡ s
step_back (Commit p m) = refl
step_back (FullLook p) = refl
step_back (RoomLook p) = refl
step_back (Take p m) = refl
step_back (EmptyLook p) = refl
step_back (DelimiterLook p) = refl
step_back (WaitingLook p) = refl
step_back (Seal p) = refl

told_more : (marks new : List PieceMark) → all_told (marks ++ new) ≡ all_told marks + all_told new
told_more [] new = omega arith
told_more (x ∷ xs) new = omega (arith, told_more xs new)

module _ {N S : Type 0} where
  acts_back : (acts : List (Act N S)) → acts_told (act_marks acts) (moments_in acts) ≡ acts
  acts_back [] = refl
  acts_back (Step s ∷ acts) = ap (λ t. Step t ∷ acts_told (act_marks acts) (moments_in acts)) (step_back s) ∙ ap (λ r. Step s ∷ r) (acts_back acts)
  acts_back (Said m ∷ acts) = ap (λ r. Said m ∷ r) (acts_back acts)

  all_items : (acts : List (Act N S)) → items_told (act_marks acts) ≡ length (moments_in acts)
  all_items [] = refl
  all_items (Step s ∷ acts) = all_items acts
  all_items (Said m ∷ acts) = omega (arith, all_items acts)

  acts_more : (xs : List ActMark) (moments more : List (Moment N S)) → items_told xs ≤ length moments → acts_told xs (moments ++ more) ≡ acts_told xs moments
  acts_more [] moments more few = refl
  acts_more (AtPipe s ∷ xs) moments more few = ap (λ r. Step (step_of s) ∷ r) (acts_more xs moments more few)
  acts_more (NextItem ∷ xs) [] more few = absurd (omega arith)
  acts_more (NextItem ∷ xs) (m ∷ moments) more few = ap (λ r. Said m ∷ r) (acts_more xs moments more (omega arith))

  moments_told : (xs : List ActMark) (moments : List (Moment N S)) → items_told xs ≤ length moments → moments_in (acts_told xs moments) ≡ take (items_told xs) moments
  moments_told [] moments few = refl
  moments_told (AtPipe s ∷ xs) moments few = moments_told xs moments few
  moments_told (NextItem ∷ xs) [] few = absurd (omega arith)
  moments_told (NextItem ∷ xs) (m ∷ moments) few = ap (λ r. m ∷ r) (moments_told xs moments (omega arith))

  pieces_more : (marks new : List PieceMark) (moments more : List (Moment N S)) → all_told marks ≡ length moments →
      pieces_told (marks ++ new) (moments ++ more) ≡ pieces_told marks moments ++ pieces_told new more
  pieces_more [] new [] more are = refl
  pieces_more [] new (m ∷ moments) more are = absurd (omega arith)
  pieces_more (x ∷ xs) new moments more are =
      let n = items_told x.acts in
      let few : n ≤ length moments = omega arith in
      let one = λ (acts : List (Act N S)). let p : Piece N S = record { by = x.by; reaps = x.reaps; acts = acts; skips = x.skips } in p in
      ap (λ acts. one acts ∷ pieces_told (xs ++ new) (drop n (moments ++ more))) (acts_more x.acts moments more few)
      ∙ ap (λ r. one (acts_told x.acts moments) ∷ pieces_told (xs ++ new) r) (drop-append-le n moments more few)
      ∙ ap (λ r. one (acts_told x.acts moments) ∷ r) (pieces_more xs new (drop n moments) more (omega (arith, length-drop n moments)))

  piece_back : (k : ℕ) (reaps : Bool) (acts : List (Act N S)) (skips : List Skip) → pieces_told (piece_marks k reaps acts skips) (moments_in acts) ≡ piece_of k reaps acts skips
  piece_back k reaps [] skips = refl
  piece_back k reaps (act ∷ acts) skips = ap (λ r. let p : Piece N S = record { by = k; reaps = reaps; acts = r; skips = skips } in p ∷ []) (acts_back (act ∷ acts))

  piece_items : (k : ℕ) (reaps : Bool) (acts : List (Act N S)) (skips : List Skip) → all_told (piece_marks k reaps acts skips) ≡ length (moments_in acts)
  piece_items k reaps [] skips = refl
  piece_items k reaps (act ∷ acts) skips = omega (arith, all_items (act ∷ acts))

  all_back : (marks : List PieceMark) (moments : List (Moment N S)) → all_told marks ≡ length moments → moments_in (acts_in (pieces_told marks moments)) ≡ moments
  all_back [] [] are = refl
  all_back [] (m ∷ moments) are = absurd (omega arith)
  all_back (x ∷ xs) moments are =
      let n = items_told x.acts in
      let few : n ≤ length moments = omega arith in
      filter_map-append moment_of (acts_told x.acts moments) (acts_in (pieces_told xs (drop n moments)))
      ∙ ap (λ r. r ++ moments_in (acts_in (pieces_told xs (drop n moments)))) (moments_told x.acts moments few)
      ∙ ap (λ r. take n moments ++ r) (all_back xs (drop n moments) (omega (arith, length-drop n moments)))
      ∙ take-append-drop n moments

pub goes_on : (N S : Type 0) → TalesGoOn N S
goes_on N S marks moments k reaps acts skips are = (
  pieces_more marks (piece_marks k reaps acts skips) moments (moments_in acts) are ∙ ap (λ r. pieces_told marks moments ++ r) (piece_back k reaps acts skips),
  omega (arith, told_more marks (piece_marks k reaps acts skips), piece_items k reaps acts skips, length-append moments (moments_in acts)),
)

pub tells_all : (N S : Type 0) → TalesTellAll N S
tells_all N S marks moments are = all_back marks moments are
