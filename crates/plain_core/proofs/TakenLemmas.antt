-- What the reaper has goes on over a call of another caller's.
use Rattle.std.specs.Prelude.{◌≡◌, ◌≢◌, ◌+◌, ◌++◌, ℕ, true, false, List, [], ◌∷◌, refl}
use Rattle.std.specs.List.{AllByRecursion}
use Rattle.std.proofs.Common.{append-nil, arith, sym, ap, ◌∙◌, true≢false}
use Rattle.std.proofs.lemmas.List.Elements.{All-nil}
use Rattle.spec_pattern.specs.declared.answers.Skip.{Skip}
use Rattle.spec_control.specs.declared.entry.Item.{Item}
use Rattle.spec_control.specs.Control.{Control}
use Rattle.spec_control.specs.ControlRun.{after_item}
use Rattle.spec_control.specs.Held.{caller_of}
use Rattle.spec_control.specs.Moments.{items_in, moments_from}
use Rattle.spec_run.specs.Act.{Act}
use Rattle.zq_world.specs.Piece.{Piece, piece_of}
use Rattle.zq_world.specs.CoreCalls.{OnlyReaps}
use Rattle.plain_desk.specs.Lent.{GrowsBy, IsOneOrder, Lent}
use Rattle.core_laws.specs.Calls.{for_caller}
use Rattle.core_laws.proofs.SilentLemmas.{one_order_of}
use Rattle.core_laws.specs.ReapedComing.{HasOnlyTaken}
use Rattle.core_laws.specs.Asides.{IsOneItem}
use Rattle.core_laws.proofs.OnlyLemmas.{keeps_only_taken}

-- what is so of each of these is so of each of the first of them
pub first_all : {X : Type 0} (Q : X → Type 0) (xs ys : List X) → AllByRecursion Q (xs ++ ys) → AllByRecursion Q xs
first_all Q [] ys all = tt
first_all Q (x ∷ xs) ys all = (all.0, first_all Q xs ys all.1)

module _ {N T : Type 0} where
  -- the items of the moments from a control plane on
  pub items_back : (items : List (Item N T)) (c : Control) → items_in (moments_from c items) ≡ items
  items_back [] c = refl
  items_back (x ∷ items) c = ap (λ (xs : List (Item N T)). x ∷ xs) (items_back items (after_item x c))

  -- who only reaps did not make a call that takes no letter for closed sockets
  another : (j k : ℕ) (xs : List (Piece N T)) (act : Act N T) (acts : List (Act N T)) (skips : List Skip) → OnlyReaps j (xs ++ piece_of k false (act ∷ acts) skips) → j ≢ k
  another j k [] act acts skips only = λ same. true≢false (sym (only.0 (sym same)))
  another j k (x ∷ xs) act acts skips only = another j k xs act acts skips only.1

module _ {G N T : Type 0} (old new : Lent G N T) (was : IsOneOrder old) (is : IsOneOrder new) where
  -- where nothing was done
  idle_apart : new.past.workers ≡ old.past.workers → new.items ≡ old.items → (j : ℕ) → HasOnlyTaken j old → HasOnlyTaken j new
  idle_apart workers items j =
      (keeps_only_taken G N T).others (for_caller (1 + j) old) (for_caller (1 + j) new) (one_order_of (1 + j) old was) (one_order_of (1 + j) new is)
      (record { caller = refl; workers = workers; more = []; items = items ∙ sym (append-nil old.items); by = All-nil (λ (x : Item N T). caller_of x ≡ 1 + j) }) j (λ same. omega (arith, same))

  -- what a caller has that only reaps are closed sockets that were taken over, behind a call that takes no letter for them
  pub apart_still : (grows : GrowsBy old new) (j : ℕ) (pieces : List (Piece N T)) (skips : List Skip) (acts : List (Act N T)) → (acts ≡ [] → grows.more ≡ []) →
      OnlyReaps j (pieces ++ piece_of old.caller false acts skips) → (OnlyReaps j pieces → HasOnlyTaken j old) → HasOnlyTaken j new
  apart_still grows j pieces skips [] idle only had =
      idle_apart grows.workers (grows.items ∙ ap (λ (xs : List (Item N T)). old.items ++ xs) (idle refl) ∙ append-nil old.items) j
      (had (first_all (λ (x : Piece N T). x.by ≡ j → x.reaps ≡ true) pieces [] only))
  apart_still grows j pieces skips (act ∷ acts) idle only had =
      (keeps_only_taken G N T).others old new was is grows j (another j old.caller pieces act acts skips only)
      (had (first_all (λ (x : Piece N T). x.by ≡ j → x.reaps ≡ true) pieces (piece_of old.caller false (act ∷ acts) skips) only))

  -- one item more of a caller's, in a context with one I/O worker
  pub one_item : (k : ℕ) (item : Item N T) → old.past.workers ≡ 1 → new.past.workers ≡ 1 → new.items ≡ old.items ++ item ∷ [] → caller_of item ≡ k → IsOneItem (for_caller k old) (for_caller k new) item
  one_item k item one one_now items by = record {
    before = one_order_of k old was;
    behind = one_order_of k new is;
    one = one;
    workers = one_now ∙ sym one;
    caller = refl;
    items = items;
    by = by;
  }
