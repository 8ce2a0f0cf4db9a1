-- What leaves the ends of all holders: the same pairs, and a pair more whose ends are not made yet.
use Rattle.std.specs.Prelude.{◌≡◌, ◌<◌, ◌+◌, ◌==◌, ◌++◌, ◌∷◌, [], ℕ, Bool, List, Option, All, cond, filter, length, slice_index_or, refl}
use Rattle.std.proofs.Common.{arith, sym, ap, ◌∙◌, subst}
use Rattle.std.proofs.Math.ListN.{get_or-append}
use Rattle.std.proofs.lemmas.List.{length-append}
use Rattle.std.proofs.lemmas.List.Elements.{All-head, All-tail, All-weaker}
use Rattle.zq_base.specs.declared.ids.EndId.{EndId}
use Rattle.spec_control.specs.Rows.{PairRow, end_owner, end_place, no_pair, pair}
use Rattle.spec_control.specs.Control.{Control, next_pair, owner_of, place_of}
use Rattle.control_laws.specs.Spared.{Known, Spared, shown}
use Rattle.control_laws.proofs.HeldOthersLemmas.{spares_holder}
use Rattle.control_laws.proofs.StayLemmas.{SameEnds}
use Rattle.desk.specs.Holding.{Holding}
use Rattle.desk.specs.Lent.{HasAll, HasEnds}
use Rattle.desk.specs.Turns.{turned_in}
use Rattle.ctl_moves.proofs.TurnedLemmas.{in_none, over_still}

-- each holder has what it had, and no end changed its state
pub record LeavesEnds (N : Type 0) (c d : Control) : Type 0 where
  pub has : (names : EndId → Option N) (h : Holding N) → HasAll names c h → HasAll names d h
  pub turned : turned_in c d ≡ []

pub same_leaves : {N : Type 0} (c d : Control) → SameEnds c d → LeavesEnds N c d
same_leaves {N} c d same = record {
  has = λ names h all i holds.
      subst (λ (ps : List PairRow). HasEnds names ps d.attached d.reasons h i) (sym same.pairs)
      (subst (λ (es : List EndId). HasEnds names c.rows.pairs es d.reasons h i) (sym same.attached) (subst (λ r. HasEnds names c.rows.pairs c.attached r h i) (sym same.reasons) (all i holds)));
  turned = in_none c d (λ e. ap (λ (ps : List PairRow). end_place (slice_index_or ps e.pair.0 no_pair) e.a) same.pairs);
}

same_filter : (f g : EndId → Bool) (es : List EndId) → All (λ e. f e ≡ g e) es → filter f es ≡ filter g es
same_filter f g [] all = refl
same_filter f g (e ∷ es) all =
    ap (λ (b : Bool). cond b (e ∷ filter f es) (filter f es)) (All-head (λ x. f x ≡ g x) e es all)
    ∙ ap (λ (ys : List EndId). cond (g e) (e ∷ ys) ys) (same_filter f g es (All-tail (λ x. f x ≡ g x) e es all))

-- ---- a pair more
module _ (c d : Control) (p : PairRow) (pairs : d.rows.pairs ≡ c.rows.pairs ++ p ∷ []) (attached : d.attached ≡ c.attached) (reasons : d.reasons ≡ c.reasons) (known : Known c) where
  pair_same : (k : ℕ) → k < next_pair c → pair d.rows k ≡ pair c.rows k
  pair_same k within = ap (λ (ps : List PairRow). slice_index_or ps k no_pair) pairs ∙ get_or-append c.rows.pairs (p ∷ []) no_pair k within

  owner_same : (e : EndId) → e.pair.0 < next_pair c → owner_of d e ≡ owner_of c e
  owner_same e within = ap (λ (q : PairRow). end_owner q e.a) (pair_same e.pair.0 within)

  place_same : (e : EndId) → e.pair.0 < next_pair c → place_of d e ≡ place_of c e
  place_same e within = ap (λ (q : PairRow). end_place q e.a) (pair_same e.pair.0 within)

  more : next_pair d ≡ next_pair c + 1
  more = ap (λ (ps : List PairRow). length ps) pairs ∙ length-append c.rows.pairs (p ∷ [])

  spared : (i : ℕ) → Spared i c d
  spared i = record {
    grows = (let count = more in omega (arith, count));
    owners = owner_same;
    places = λ e within own. ap shown (place_same e within);
    reasons = λ e within own. ap (λ r. r e) reasons;
    attached =
        ap (filter (λ e. owner_of d e == i)) attached
        ∙ same_filter (λ e. owner_of d e == i) (λ e. owner_of c e == i) c.attached
        (All-weaker (λ e. e.pair.0 < next_pair c) (λ e. (owner_of d e == i) ≡ (owner_of c e == i)) (λ e within. ap (λ (n : ℕ). n == i) (owner_same e within)) c.attached known);
    known =
        subst (λ (es : List EndId). All (λ e. e.pair.0 < next_pair d) es) (sym attached)
        (All-weaker (λ e. e.pair.0 < next_pair c) (λ e. e.pair.0 < next_pair d) (λ e within. (let count = more in omega (arith, count, within))) c.attached known);
  }

  pub drawn_leaves : {N : Type 0} → LeavesEnds N c d
  drawn_leaves = record {
    has = λ names h all i holds. spares_holder names c d i known (spared i) h (all i holds);
    turned = over_still (place_of c) (place_of d) d.attached
        (subst (λ (es : List EndId). All (λ e. place_of d e ≡ place_of c e) es) (sym attached)
        (All-weaker (λ e. e.pair.0 < next_pair c) (λ e. place_of d e ≡ place_of c e) (λ e within. place_same e within) c.attached known));
  }
