-- The reaper's number is the only one that takes letters in the place of closed sockets, and does nothing else.
use Rattle.std.proofs.Common.{◌≡◌, ◌+◌, ℕ, List, [], ◌∷◌, ◌++◌, Bool, true, false, length, refl, sym, subst, true≢false, arith}
use Rattle.std.specs.Prelude.{◌==◌, flat_map}
use Rattle.std.proofs.lemmas.Bool.{eqb-true, eq-eqb}
use Rattle.zq_outer.specs.Readings.{ClockAt}
use Rattle.spec_pattern.specs.declared.answers.Skip.{Skip}
use Rattle.spec_run.specs.Act.{Act, Deed, acts_of}
use Rattle.spec_run.specs.Fate.{skips_of}
use Rattle.spec_run.specs.OpenSocket.{OpenSock}
use Rattle.spec_run.specs.InTurns.{OneTurn, turn_step}
use Rattle.zq_world.specs.Piece.{Piece, piece_of, deed_pieces}
use Rattle.zq_world.specs.declared.actor.Actor.{Actor}
use Rattle.zq_world.specs.CoreCalls.{IsReaper}
use Rattle.zq_world.specs.Turning.{standings, HaveStepped, BeginsTurn, turn_pieces, turns_pieces}
use Rattle.zq_world.proofs.RiseLemmas.{all_both}
use Rattle.zq_world.proofs.RunLemmas.{Within}

module _ {N S : Type 0} where
  pub both : (n : ℕ) (xs ys : List (Piece N S)) → IsReaper n xs → IsReaper n ys → IsReaper n (xs ++ ys)
  both n xs ys one two = record {
    only = all_both (λ (x : Piece N S). x.reaps ≡ true → x.by ≡ n) xs ys one.only two.only;
    reaps = all_both (λ (x : Piece N S). x.by ≡ n → x.reaps ≡ true) xs ys one.reaps two.reaps;
  }

  pub only_piece : (n k : ℕ) (reaps : Bool) (acts : List (Act N S)) (skips : List Skip) → (reaps ≡ true → k ≡ n) → (k ≡ n → reaps ≡ true) → IsReaper n (piece_of k reaps acts skips)
  only_piece n k reaps [] skips is so = record { only = tt; reaps = tt }
  only_piece n k reaps (act ∷ acts) skips is so = record { only = (is, tt); reaps = (so, tt) }

  only_deeds : (n k : ℕ) (reaps : Bool) (ds : List (Deed N S)) → (reaps ≡ true → k ≡ n) → (k ≡ n → reaps ≡ true) → IsReaper n (deed_pieces k reaps ds)
  only_deeds n k reaps [] is so = record { only = tt; reaps = tt }
  only_deeds n k reaps (d ∷ ds) is so =
      both n (piece_of k reaps (acts_of d) (skips_of d)) (deed_pieces k reaps ds) (only_piece n k reaps (acts_of d) (skips_of d) is so) (only_deeds n k reaps ds is so)

  only_stepped : (n : ℕ) (steps : ℕ → List (Deed N S)) (order : List ℕ) → IsReaper n (flat_map (λ w. deed_pieces w (w == n) (steps w)) order)
  only_stepped n steps [] = record { only = tt; reaps = tt }
  only_stepped n steps (w ∷ order) =
      both n (deed_pieces w (w == n) (steps w)) (flat_map (λ v. deed_pieces v (v == n) (steps v)) order) (only_deeds n w (w == n) (steps w) (λ e. eqb-true w n e) (λ e. eq-eqb w n e)) (only_stepped n steps order)

  only_conducted : (n k : ℕ) → k ≡ n + 2 → (ds : List (Deed N S)) → IsReaper n (deed_pieces k false ds)
  only_conducted n k place ds = only_deeds n k false ds (λ e. absurd (true≢false (sym e))) (λ e. absurd (omega (arith, place, e)))

  only_turns : (n : ℕ) (os : List (List ℕ)) (ts : List (OneTurn N S)) → IsReaper n (turns_pieces n os ts)
  only_turns n [] ts = record { only = tt; reaps = tt }
  only_turns n (o ∷ os) [] = record { only = tt; reaps = tt }
  only_turns n (o ∷ os) (t ∷ ts) =
      both n (turn_pieces n o t) (turns_pieces n os ts)
      (both n (deed_pieces (n + 2) false t.begins) (flat_map (λ w. deed_pieces w (w == n) (turn_step w t)) o) (only_conducted n (n + 2) refl t.begins) (only_stepped n (λ w. turn_step w t) o))
      (only_turns n os ts)

module _ {O N S : Type 0} (as_open : O → OpenSock) where
  -- so it is within a turn
  pub alone_stepped : (done : List ℕ) (old now : List (Actor O)) (before after : List (Piece N S)) → HaveStepped as_open done old now before after → IsReaper (length old) before → IsReaper (length now) after
  alone_stepped done old now before after h alone =
      subst (λ n. IsReaper n after) (sym h.count)
      (subst (IsReaper (length old)) (sym h.adds) (both (length old) before (flat_map (λ w. deed_pieces w (w == length old) (h.steps w)) done) alone (only_stepped (length old) h.steps done)))

  -- and where a turn begins
  pub alone_begun : (seed limit drawn left conductor : ℕ) (old mid : List (Actor O)) (first before between : List (Piece N S)) (clock clock_now : ClockAt) → conductor ≡ length old + 2
      → Within as_open seed limit drawn left old mid first before clock clock_now
      → BeginsTurn conductor (standings as_open mid) before between → IsReaper (length old) first → IsReaper (length mid) between
  alone_begun seed limit drawn left conductor old mid first before between clock clock_now place come begins alone =
      subst (λ n. IsReaper n between) (sym come.2.count)
      (subst (IsReaper (length old)) (sym begins.adds.added)
      (both (length old) before (deed_pieces conductor false begins.begins)
      (subst (IsReaper (length old)) (sym come.2.pieces_are) (both (length old) first (turns_pieces (length old) come.1 come.0) alone (only_turns (length old) come.1 come.0)))
      (only_conducted (length old) conductor place begins.begins)))
