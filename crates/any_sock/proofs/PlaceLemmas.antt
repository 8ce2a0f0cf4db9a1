-- The places of a socket, before and after a call.
use Rattle.std.proofs.Common.{◌≡◌, ℕ, List, [], ◌++◌, All, Contains, sym, subst}
use Rattle.std.specs.Prelude.{IsPermutation}
use Rattle.req_rep.specs.Partners.{IsAt}
use Rattle.req_rep.specs.declared.partner.Partner.{Partner}
use Rattle.req_rep.specs.declared.partner.Partner.TheVariants.{Nobody, At, Gone}
use Rattle.std.proofs.lemmas.List.Elements.{All-nil, All-cons, All-weaker, All-contains, All-contains_itself, Contains-append_left, Contains-append_right}
use Rattle.std.proofs.lemmas.List.Sorted.{All-permutation, IsPermutation-sym, IsPermutation-refl, IsPermutation-append}
use Rattle.std.specs.Map.{keys_of}
use Rattle.pub_sub.specs.Subscribing.{SubState, KeepsFollowers}
use Rattle.any_sock.specs.Over.{HaveSamePlaces, partner_place}

-- what holds of two lists together holds of each
pub all_front : {A : Type 0} (P : A → Type 0) (xs ys : List A) → All P (xs ++ ys) → All P xs
all_front P xs ys all = All-weaker (Contains xs) P (λ x there. All-contains P (xs ++ ys) x all (Contains-append_left xs ys x there)) xs (All-contains_itself xs)

pub all_behind : {A : Type 0} (P : A → Type 0) (xs ys : List A) → All P (xs ++ ys) → All P ys
all_behind P xs ys all = All-weaker (Contains ys) P (λ x there. All-contains P (xs ++ ys) x all (Contains-append_right xs ys x there)) ys (All-contains_itself ys)

-- the same list has the same places, and so has one in another order
pub same_by_order : (xs ys : List ℕ) → IsPermutation xs ys → HaveSamePlaces xs ys
same_by_order xs ys order = record {
  none_new = All-permutation (Contains xs) xs ys order (All-contains_itself xs);
  none_gone = All-permutation (Contains ys) ys xs (IsPermutation-sym xs ys order) (All-contains_itself ys);
}

pub same_as : (xs ys : List ℕ) → ys ≡ xs → HaveSamePlaces xs ys
same_as xs ys same = subst (HaveSamePlaces xs) (sym same) (same_by_order xs xs (IsPermutation-refl xs))

pub same_both : (xs xs' ys ys' : List ℕ) → IsPermutation xs xs' → IsPermutation ys ys' → HaveSamePlaces (xs ++ ys) (xs' ++ ys')
same_both xs xs' ys ys' x y = same_by_order (xs ++ ys) (xs' ++ ys') (IsPermutation-append xs xs' ys ys' x y)

pub order_as : (xs ys : List ℕ) → ys ≡ xs → IsPermutation xs ys
order_as xs ys same = subst (IsPermutation xs) (sym same) (IsPermutation-refl xs)

-- a subscriber whose peers stay has the same places
pub same_followers : (u u' : SubState) → KeepsFollowers u u' → HaveSamePlaces (u.ins ++ keys_of u.followers) (u'.ins ++ keys_of u'.followers)
same_followers u u' same = same_as _ _ (λ i. same.ins_are i ++ same.places_are i)

-- a partner that is one of its peers
pub partner_among : (peers ins : List ℕ) (p : Partner) → All (Contains peers) ins → IsAt (Contains ins) p → All (Contains peers) (partner_place p)
partner_among peers ins Nobody all at = All-nil (Contains peers)
partner_among peers ins (At place) all at = All-cons (Contains peers) place [] (All-contains (Contains peers) ins place all at) (All-nil (Contains peers))
partner_among peers ins Gone all at = All-nil (Contains peers)
