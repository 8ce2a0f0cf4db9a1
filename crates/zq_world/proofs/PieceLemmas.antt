-- The acts of pieces are those of the deeds that they tell.
use Rattle.std.proofs.Common.{◌≡◌, ◌+◌, ℕ, List, [], ◌∷◌, ◌++◌, Bool, false, length, refl, sym, ap, ◌∙◌, append-nil}
use Rattle.std.specs.Prelude.{◌==◌, flat_map}
use Rattle.std.proofs.lemmas.Grind.{flat_map-append}
use Rattle.spec_pattern.specs.declared.answers.Skip.{Skip}
use Rattle.spec_run.specs.Act.{Act, Deed, Looks, Reads, acts_of, all_acts}
use Rattle.spec_run.specs.Fate.{skips_of}
use Rattle.spec_run.specs.OpenSocket.{OpenSock}
use Rattle.spec_run.specs.InTurns.{OneTurn, Turned, turn_step, turn_sequence, turns_sequence, sequence}
use Rattle.zq_world.specs.Piece.{Piece, piece_of, deed_pieces, acts_in}
use Rattle.zq_world.specs.declared.actor.Actor.{Actor}
use Rattle.zq_world.specs.Turning.{RunsSo, turn_pieces, turns_pieces, sequence_pieces}
use Rattle.zq_world.proofs.StepLemmas.{all_acts-append}

module _ {N S : Type 0} where
  pub acts_in-append : (xs ys : List (Piece N S)) → acts_in (xs ++ ys) ≡ acts_in xs ++ acts_in ys
  acts_in-append xs ys = flat_map-append (λ (x : Piece N S). x.acts) xs ys

  pub acts_one : (k : ℕ) (reaps : Bool) (acts : List (Act N S)) (skips : List Skip) → acts_in (piece_of k reaps acts skips) ≡ acts
  acts_one k reaps [] skips = refl
  acts_one k reaps (act ∷ acts) skips = append-nil (act ∷ acts)

  acts_deeds : (k : ℕ) (reaps : Bool) (ds : List (Deed N S)) → acts_in (deed_pieces k reaps ds) ≡ all_acts ds
  acts_deeds k reaps [] = refl
  acts_deeds k reaps (d ∷ ds) =
      acts_in-append (piece_of k reaps (acts_of d) (skips_of d)) (deed_pieces k reaps ds)
      ∙ ap (λ l. l ++ acts_in (deed_pieces k reaps ds)) (acts_one k reaps (acts_of d) (skips_of d)) ∙ ap (λ l. acts_of d ++ l) (acts_deeds k reaps ds)

  acts_order : (n : ℕ) (order : List ℕ) (t : OneTurn N S) → acts_in (flat_map (λ w. deed_pieces w (w == n) (turn_step w t)) order) ≡ all_acts (flat_map (λ w. turn_step w t) order)
  acts_order n [] t = refl
  acts_order n (w ∷ order) t =
      acts_in-append (deed_pieces w (w == n) (turn_step w t)) (flat_map (λ v. deed_pieces v (v == n) (turn_step v t)) order)
      ∙ ap (λ l. l ++ acts_in (flat_map (λ v. deed_pieces v (v == n) (turn_step v t)) order)) (acts_deeds w (w == n) (turn_step w t))
      ∙ ap (λ l. all_acts (turn_step w t) ++ l) (acts_order n order t)
      ∙ sym (all_acts-append (turn_step w t) (flat_map (λ v. turn_step v t) order))

  acts_turn : (n : ℕ) (order : List ℕ) (t : OneTurn N S) → acts_in (turn_pieces n order t) ≡ all_acts (turn_sequence order t)
  acts_turn n order t =
      acts_in-append (deed_pieces (n + 2) false t.begins) (flat_map (λ w. deed_pieces w (w == n) (turn_step w t)) order)
      ∙ ap (λ l. l ++ acts_in (flat_map (λ w. deed_pieces w (w == n) (turn_step w t)) order)) (acts_deeds (n + 2) false t.begins)
      ∙ ap (λ l. all_acts t.begins ++ l) (acts_order n order t ∙ sym (append-nil (all_acts (flat_map (λ w. turn_step w t) order))) ∙ sym (all_acts-append (flat_map (λ w. turn_step w t) order) (Reads t.reading ∷ [])))
      ∙ sym (all_acts-append t.begins (flat_map (λ w. turn_step w t) order ++ Reads t.reading ∷ []))

  acts_turns : (n : ℕ) (os : List (List ℕ)) (ts : List (OneTurn N S)) → acts_in (turns_pieces n os ts) ≡ all_acts (turns_sequence os ts)
  acts_turns n [] ts = refl
  acts_turns n (o ∷ os) [] = refl
  acts_turns n (o ∷ os) (t ∷ ts) =
      acts_in-append (turn_pieces n o t) (turns_pieces n os ts)
      ∙ ap (λ l. l ++ acts_in (turns_pieces n os ts)) (acts_turn n o t) ∙ ap (λ l. all_acts (turn_sequence o t) ++ l) (acts_turns n os ts)
      ∙ sym (all_acts-append (turn_sequence o t) (turns_sequence os ts))

  acts_sequence : (n : ℕ) (os : List (List ℕ)) (t : Turned N S) → acts_in (sequence_pieces n os t) ≡ all_acts (sequence os t)
  acts_sequence n os t =
      acts_in-append (turns_pieces n os t.turns) (deed_pieces (n + 2) false (Looks t.last ∷ []))
      ∙ ap (λ l. l ++ acts_in (deed_pieces (n + 2) false (Looks t.last ∷ []))) (acts_turns n os t.turns)
      ∙ sym (all_acts-append (turns_sequence os t.turns) (Looks t.last ∷ []))

module _ {O N S : Type 0} (as_open : O → OpenSock) where
  -- what was done in a run, in the order of making
  pub runs_acts : (seed limit : ℕ) (done : Bool) (old new : List (Actor O)) (pieces : List (Piece N S)) (runs : RunsSo as_open seed limit done old new [] pieces)
      → acts_in pieces ≡ all_acts (sequence runs.orders runs.turned)
  runs_acts seed limit done old new pieces runs = ap acts_in runs.pieces_are ∙ acts_sequence (length old) runs.orders runs.turned
