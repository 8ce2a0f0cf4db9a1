-- The reaper stays the only one that takes letters in the place of closed sockets, step by step.
use Rattle.std.proofs.Common.{◌≡◌, ◌≢◌, ℕ, List, [], ◌∷◌, true, false, length, refl, sym, subst, true≢false}
use Rattle.spec_run.specs.Act.{Act}
use Rattle.spec_run.specs.OpenSocket.{OpenSock}
use Rattle.zq_world.specs.Piece.{Piece, piece_of}
use Rattle.zq_world.specs.declared.actor.Actor.{Actor}
use Rattle.zq_world.specs.CoreCalls.{IsReaper, AsksOnce}
use Rattle.zq_world.specs.Turning.{WorkerSteps}
use Rattle.zq_world.proofs.RiseLemmas.{all_both}
use Rattle.zq_world.proofs.ReaperLemmas.{alone_stepped}
use Rattle.zq_world.proofs.StepLemmas.{have_more, have_none}

module _ {N S : Type 0} where
  -- another's call is none of the reaper's
  else_alone : (n k : ℕ) (acts : List (Act N S)) → k ≢ n → IsReaper n (piece_of k false acts [])
  else_alone n k [] ne = record { only = tt; reaps = tt }
  else_alone n k (act ∷ acts) ne = record { only = ((λ e. absurd (true≢false (sym e))), tt); reaps = ((λ e. absurd (ne e)), tt) }

  pub alone_asked : (n k : ℕ) (before after : List (Piece N S)) → k ≢ n → IsReaper n before → AsksOnce k before after → IsReaper n after
  alone_asked n k before after ne alone asked =
      let one = else_alone n k asked.acts ne in
      subst (IsReaper n) (sym asked.adds.added) (record {
        only = all_both (λ (x : Piece N S). x.reaps ≡ true → x.by ≡ n) before (piece_of k false asked.acts []) alone.only one.only;
        reaps = all_both (λ (x : Piece N S). x.by ≡ n → x.reaps ≡ true) before (piece_of k false asked.acts []) alone.reaps one.reaps;
      })

module _ {O N S : Type 0} (as_open : O → OpenSock) where
  -- a worker's step
  pub alone_then : (w : ℕ) (old new : List (Actor O)) (before after : List (Piece N S)) → WorkerSteps as_open w old new before after → IsReaper (length old) before → IsReaper (length new) after
  alone_then w old new before after one alone =
      alone_stepped as_open (w ∷ []) old new before after (have_more as_open w [] old old new before before after refl (have_none as_open old before) one) alone
