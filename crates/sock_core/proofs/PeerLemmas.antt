-- The peers of a socket's kind are ends that have their writing halves.
use Rattle.std.proofs.Common.{◌≡◌, ◌≢◌, ◌&&◌, ◌∙◌, ◌<◌, ℕ, zero, suc, Bool, true, false, List, [], ◌∷◌, ◌++◌, All, Contains, length, set, Some, refl, sym, ap, subst, arith, nat_eq, eqb-true, true≢false}
use Rattle.std.specs.Prelude.{slice_index_or}
use Rattle.std.proofs.lemmas.Bool.{eq-eqb}
use Rattle.std.proofs.lemmas.List.Elements.{All-append, All-nil, All-cons, All-contains, All-contains_itself}
use Rattle.zq_base.specs.declared.attached.Attached.{Attached}
use Rattle.zq_base.specs.declared.attached.Attached.TheVariants.{Yes, BadId, Second}
use Rattle.end_table.specs.declared.table.Place.{Place}
use Rattle.end_table.specs.Places.{place_at}
use Rattle.end_table.proofs.SoundLemmas.{one_some}
use Rattle.pub_sub.specs.Places.{AreOthers}
use Rattle.sock_core.specs.Peers.{AddsPeer, Parts, StaysPeer, ArePeers, peer_of, peer_at, is_taken}

-- what holds of each of these holds of those among them
pub all_of : {X : Type 0} (P : X → Type 0) (was now : List X) → All (Contains was) now → All P was → All P now
all_of P was now from all = λ k d lt. All-contains P was (slice_index_or now k d) all (from k d lt)

and_false : (b : Bool) → (b && false) ≡ false
and_false true = refl
and_false false = refl

module _ {N I : Type 0} where
  pub peer_here : (ps : List (Place N I)) (k : ℕ) (p : Place N I) → place_at ps k ≡ Some p → peer_at ps k ≡ peer_of p
  peer_here [] k p at = cc
  peer_here (x ∷ xs) zero p at = ap peer_of (one_some x p at)
  peer_here (x ∷ xs) (suc k) p at = peer_here xs k p at

  pub peer_within : (ps : List (Place N I)) (k : ℕ) → peer_at ps k ≡ true → k < length ps
  peer_within [] k h = absurd (true≢false (sym h))
  peer_within (x ∷ xs) zero h = omega arith
  peer_within (x ∷ xs) (suc k) h = let r = peer_within xs k h in omega (arith, r)

  peer_else : (ps : List (Place N I)) (k j : ℕ) (q : Place N I) → j ≢ k → peer_at (set ps k q) j ≡ peer_at ps j
  peer_else [] k j q ne = refl
  peer_else (x ∷ xs) zero zero q ne = absurd (ne refl)
  peer_else (x ∷ xs) zero (suc j) q ne = refl
  peer_else (x ∷ xs) (suc k) zero q ne = refl
  peer_else (x ∷ xs) (suc k) (suc j) q ne = peer_else xs k j q (λ e. ne (ap suc e))

  peer_same : (ps : List (Place N I)) (k j : ℕ) (p q : Place N I) → place_at ps k ≡ Some p → peer_of q ≡ peer_of p → peer_at (set ps k q) j ≡ peer_at ps j
  peer_same [] k j p q at same = refl
  peer_same (x ∷ xs) zero zero p q at same = same ∙ ap peer_of (sym (one_some x p at))
  peer_same (x ∷ xs) zero (suc j) p q at same = refl
  peer_same (x ∷ xs) (suc k) zero p q at same = refl
  peer_same (x ∷ xs) (suc k) (suc j) p q at same = peer_same xs k j p q at same

  peer_before : (ps : List (Place N I)) (q : Place N I) (k : ℕ) → peer_at ps k ≡ true → peer_at (ps ++ q ∷ []) k ≡ true
  peer_before [] q k h = absurd (true≢false (sym h))
  peer_before (x ∷ xs) q zero h = h
  peer_before (x ∷ xs) q (suc k) h = peer_before xs q k h

  pub peer_none : (ps : List (Place N I)) → peer_at ps (length ps) ≡ false
  peer_none [] = refl
  peer_none (x ∷ xs) = peer_none xs

  peer_last : (ps : List (Place N I)) (q : Place N I) → peer_at (ps ++ q ∷ []) (length ps) ≡ peer_of q
  peer_last [] q = refl
  peer_last (x ∷ xs) q = peer_last xs q

  module _ (ps : List (Place N I)) (was : List ℕ) (all : ArePeers ps was) where
    -- the peers are those that were, and no place is less of a peer
    kept : (qs : List (Place N I)) (now : List ℕ) → All (Contains was) now → ((j : ℕ) → peer_at ps j ≡ true → peer_at qs j ≡ true) → ArePeers qs now
    kept qs now from more = all_of (λ k. peer_at qs k ≡ true) was now from (λ k d lt. more (slice_index_or was k d) (all k d lt))

    pub kept_same : (k : ℕ) (p q : Place N I) (now : List ℕ) → place_at ps k ≡ Some p → peer_of q ≡ peer_of p → All (Contains was) now → ArePeers (set ps k q) now
    kept_same k p q now at same from = kept (set ps k q) now from (λ j h. peer_same ps k j p q at same ∙ h)

    -- one at this place is none any more
    kept_gone : (k : ℕ) (q : Place N I) (now : List ℕ) → All (Contains was) now → AreOthers k now → ArePeers (set ps k q) now
    kept_gone k q now from gone = λ j d lt.
        let other : slice_index_or now j d ≢ k = (λ same. true≢false (sym (eq-eqb k (slice_index_or now j d) (sym same)) ∙ gone j d lt)) in
        peer_else ps k (slice_index_or now j d) q other ∙ all_of (λ n. peer_at ps n ≡ true) was now from all j d lt

    pub below : All (λ k. k < length ps) was
    below = λ k d lt. peer_within ps (slice_index_or was k d) (all k d lt)

    -- a place that is no peer's is none of them
    pub none_at : (k : ℕ) → peer_at ps k ≡ false → AreOthers k was
    none_at k off = λ j d lt. by (slice_index_or was j d) (nat_eq k (slice_index_or was j d)) refl (all j d lt)
      where
        by : (n : ℕ) (b : Bool) → nat_eq k n ≡ b → peer_at ps n ≡ true → b ≡ false
        by n true same h = absurd (true≢false (sym h ∙ ap (peer_at ps) (sym (eqb-true k n same)) ∙ off))
        by n false other h = refl

    pub kept_off : (k : ℕ) (q : Place N I) (now : List ℕ) → peer_at ps k ≡ false → All (Contains was) now → ArePeers (set ps k q) now
    kept_off k q now off from = kept_gone k q now from (all_of (λ j. nat_eq k j ≡ false) was now from (none_at k off))

    module _ (k : ℕ) (p : Place N I) (at : place_at ps k ≡ Some p) where
      not_peer : p.peer ≡ false → peer_at ps k ≡ false
      not_peer off = peer_here ps k p at ∙ ap (λ (b : Bool). p.held && (p.writes && b)) off ∙ ap (λ (b : Bool). p.held && b) (and_false p.writes) ∙ and_false p.held

      not_writing : p.writes ≡ false → peer_at ps k ≡ false
      not_writing off = peer_here ps k p at ∙ ap (λ (b : Bool). p.held && (b && p.peer)) off ∙ and_false p.held

      pub kept_settled : (q : Place N I) → p.writes ≡ false → ArePeers (set ps k q) was
      kept_settled q off = kept_off k q was (not_writing off) (All-contains_itself was)

      pub kept_parted : (b : Bool) (q : Place N I) (now : List ℕ) → b ≡ p.peer → Parts b k was now → ArePeers (set ps k q) now
      kept_parted true q now is parts = kept_gone k q now parts.none_new (parts.gone refl)
      kept_parted false q now is parts = kept_off k q now (not_peer (sym is)) parts.none_new

      pub kept_stated : (a b : Bool) (q : Place N I) (now : List ℕ) → a ≡ p.peer → q.held ≡ p.held → q.writes ≡ p.writes → q.peer ≡ b → StaysPeer a b k was now → ArePeers (set ps k q) now
      kept_stated a true q now is held writes peer stays =
          kept_same k p q now at
          (ap (λ (b : Bool). b && (q.writes && q.peer)) held ∙ ap (λ (b : Bool). p.held && (b && q.peer)) writes ∙ ap (λ (b : Bool). p.held && (p.writes && b)) (peer ∙ sym (stays.none_back refl) ∙ is)) stays.none_new
      kept_stated true false q now is held writes peer stays = kept_gone k q now stays.none_new (stays.gone refl refl)
      kept_stated false false q now is held writes peer stays = kept_off k q now (not_peer (sym is)) stays.none_new

    -- an end was attached behind the others
    pub kept_more : (a : Attached) (q : Place N I) (now : List ℕ) → q.held ≡ true → q.writes ≡ true → q.peer ≡ is_taken a → AddsPeer a (length ps) was now → ArePeers (ps ++ q ∷ []) now
    kept_more a q now held writes peer adds = by a peer adds
      where
        before : All (λ k. peer_at (ps ++ q ∷ []) k ≡ true) was
        before = λ k d lt. peer_before ps q (slice_index_or was k d) (all k d lt)

        is_peer : q.peer ≡ true → peer_of q ≡ true
        is_peer p = ap (λ (b : Bool). b && (q.writes && q.peer)) held ∙ ap (λ (b : Bool). b && q.peer) writes ∙ p

        by : (b : Attached) → q.peer ≡ is_taken b → AddsPeer b (length ps) was now → ArePeers (ps ++ q ∷ []) now
        by Yes p from = all_of (λ k. peer_at (ps ++ q ∷ []) k ≡ true) (was ++ length ps ∷ []) now from.none_new
            (All-append (λ k. peer_at (ps ++ q ∷ []) k ≡ true) was (length ps ∷ []) before
            (All-cons (λ k. peer_at (ps ++ q ∷ []) k ≡ true) (length ps) [] (peer_last ps q ∙ is_peer p) (All-nil (λ k. peer_at (ps ++ q ∷ []) k ≡ true))))
        by BadId p same = subst (ArePeers (ps ++ q ∷ [])) (sym same) before
        by Second p same = subst (ArePeers (ps ++ q ∷ [])) (sym same) before
