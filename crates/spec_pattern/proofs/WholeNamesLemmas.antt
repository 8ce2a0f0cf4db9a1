-- The peers of a ROUTER keep their names where a peer comes and where one goes.
use Rattle.std.proofs.Common.{◌≡◌, ◌≢◌, ◌∙◌, ◌+◌, ◌<◌, ◌≤◌, ◌^◌, inl, inr, ℕ, List, [], ◌∷◌, ◌++◌, Bool, true, false, not, Option, Some, None, All, cond, if◌then◌else◌, map, refl, sym, ap, arith, true≢false}
use Rattle.std.proofs.lemmas.Option.{none-some}
use Rattle.std.specs.Prelude.{filter, find, is_some}
use Rattle.std.specs.Int.{w32, to_be_bytes, from_be_bytes}
use Rattle.std.specs.Str.{bytes_eq}
use Rattle.std.specs.Option.{option_map}
use Rattle.std.proofs.lemmas.Nat.{from_be_bytes-to_be_bytes_4}
use Rattle.std.proofs.lemmas.Slice.Eq.{bytes_eq-Decides}
use Rattle.std.proofs.lemmas.List.Elements.{All-nil, All-cons, All-head, All-tail, All-push, All-weaker, All-filter}
use Rattle.spec_pattern.specs.PipeStep.{same_pipe}
use Rattle.spec_pattern.specs.TurnList.{End}
use Rattle.spec_pattern.specs.Routing.{Named, Names, named, drawn_name, AreNames}
use Rattle.spec_pattern.specs.Pattern.{RouterState, Router, without, without_name, name_answer, attach_as}
use Rattle.zq_base.specs.declared.attached.Attached.TheVariants.{Yes, BadId}
use Rattle.spec_pattern.specs.Peers.{named_peer}
use Rattle.spec_pattern.specs.Whole.{IsOwnIdentity, IsNameOf, RouterIsWhole, IsWhole}
use Rattle.spec_pattern.proofs.OnceLemmas.{unmapped, once_filter, once_more}

-- the name of an entry
abbrev name_at : Named → List ℕ
name_at n = n.name

abbrev HasName : Names → End → Type 0
HasName names e = (name : List ℕ) × (named names name ≡ Some e)

-- what the first of these finds, or the others
abbrev looked : Bool → Named → Names → List ℕ → Option End
looked b n ns name = option_map named_peer (cond b (Some n) (find (λ (x : Named). bytes_eq x.name name) ns))

same_name : (x y : List ℕ) → bytes_eq x y ≡ true → x ≡ y
same_name x y e = (bytes_eq-Decides x y).0 e

other_name : (x y : List ℕ) → x ≢ y → bytes_eq x y ≡ false
other_name x y other = by (bytes_eq x y) refl
  where
    by : (b : Bool) → bytes_eq x y ≡ b → bytes_eq x y ≡ false
    by true e = absurd (other (same_name x y e))
    by false e = e

-- ---- a name that isn't there

none_named : (names : Names) (name : List ℕ) → named names name ≡ None → All (λ n. name_at n ≢ name) names
none_named [] name none = All-nil (λ n. name_at n ≢ name)
none_named (n ∷ ns) name none = by (bytes_eq n.name name) refl none (none_named ns name)
  where
    by : (b : Bool) → bytes_eq n.name name ≡ b → looked b n ns name ≡ None → (named ns name ≡ None → All (λ k. name_at k ≢ name) ns) → All (λ k. name_at k ≢ name) (n ∷ ns)
    by true e is rec = absurd (none-some n.peer (sym is))
    by false e is rec = All-cons (λ k. name_at k ≢ name) n ns (λ same. true≢false (sym ((bytes_eq-Decides n.name name).1 same) ∙ e)) (rec is)

not_named : (names : Names) (name : List ℕ) → All (λ n. name_at n ≢ name) names → named names name ≡ None
not_named [] name others = refl
not_named (n ∷ ns) name others =
    ap (λ b. looked b n ns name) (other_name n.name name (All-head (λ k. name_at k ≢ name) n ns others)) ∙ not_named ns name (All-tail (λ k. name_at k ≢ name) n ns others)

-- ---- one entry more

find_more : (names : Names) (k : Named) (name : List ℕ) (e : End) → named names name ≡ Some e → named (names ++ k ∷ []) name ≡ Some e
find_more [] k name e is = absurd (none-some e is)
find_more (n ∷ ns) k name e is = by (bytes_eq n.name name) is (find_more ns k name e)
  where
    by : (b : Bool) → looked b n ns name ≡ Some e → (named ns name ≡ Some e → named (ns ++ k ∷ []) name ≡ Some e) → looked b n (ns ++ k ∷ []) name ≡ Some e
    by true is rec = is
    by false is rec = rec is

find_last : (names : Names) (k : Named) → All (λ n. name_at n ≢ k.name) names → named (names ++ k ∷ []) k.name ≡ Some k.peer
find_last [] k others = ap (λ b. looked b k [] k.name) ((bytes_eq-Decides k.name k.name).1 refl)
find_last (n ∷ ns) k others =
    ap (λ b. looked b n (ns ++ k ∷ []) k.name) (other_name n.name k.name (All-head (λ x. name_at x ≢ k.name) n ns others)) ∙ find_last ns k (All-tail (λ x. name_at x ≢ k.name) n ns others)

names_more : (names : Names) (k : Named) → All (λ n. name_at n ≢ k.name) names → All (λ n. named_peer n ≢ k.peer) names → AreNames names → AreNames (names ++ k ∷ [])
names_more names k other_names other_peers are = record {
  names_differ = once_more name_at names k other_names are.names_differ;
  peers_differ = once_more named_peer names k other_peers are.peers_differ;
}

-- a further peer under a name that isn't there
one_more : (r : RouterState) (k : Named) (drawn : ℕ) → r.drawn ≤ drawn → All (λ n. name_at n ≢ k.name) r.names → All (λ n. named_peer n ≢ k.peer) r.names
    → IsNameOf drawn k.name → RouterIsWhole r → RouterIsWhole (record { ins = r.ins ++ k.peer ∷ []; names = r.names ++ k ∷ []; drawn = drawn; mandatory = r.mandatory })
one_more r k drawn more other_names other_peers name whole =
    let names : Names = r.names ++ k ∷ [] in
    record {
      each_named = All-push (HasName names) r.ins k.peer (All-weaker (HasName r.names) (HasName names) (λ e has. (has.0, find_more r.names k has.0 e has.1)) r.ins whole.each_named)
          (k.name, find_last r.names k other_names);
      are_names = names_more r.names k other_names other_peers whole.are_names;
      names_are = All-push (λ n. IsNameOf drawn (name_at n)) r.names k (All-weaker (λ n. IsNameOf r.drawn (name_at n)) (λ n. IsNameOf drawn (name_at n)) (λ n is. later (name_at n) is) r.names whole.names_are) name;
    }
  where
    later : (name : List ℕ) → IsNameOf r.drawn name → IsNameOf drawn name
    later name (inl own) = inl own
    later name (inr (n, few, is)) = inr (n, omega (arith, few, more), is)

-- ---- drawn names

drawn_apart : (n m : ℕ) → n < 2 ^ 32 → m < 2 ^ 32 → drawn_name n ≡ drawn_name m → n ≡ m
drawn_apart n m small small2 same =
    let octets : to_be_bytes w32 n ≡ to_be_bytes w32 m = cc in
    sym (from_be_bytes-to_be_bytes_4 n small) ∙ ap (from_be_bytes w32) octets ∙ from_be_bytes-to_be_bytes_4 m small2

own_apart : (name : List ℕ) (n : ℕ) → IsOwnIdentity name → name ≡ drawn_name n → ⊥
own_apart [] n own same = cc
own_apart (octet ∷ octets) n own same = let first : octet ≡ 0 = cc in own first

next_is_new : (drawn : ℕ) → drawn + 1 < 2 ^ 32 → (name : List ℕ) → IsNameOf drawn name → name ≢ drawn_name (drawn + 1)
next_is_new drawn few name (inl own) same = own_apart name (drawn + 1) own same
next_is_new drawn few name (inr (n, before, is)) same =
    let one : n ≡ drawn + 1 = drawn_apart n (drawn + 1) (omega (arith, before, few)) few (sym is ∙ same) in
    omega (arith, one, before)

-- a peer comes
pub router_comes : (e : End) (identity : List ℕ) (r : RouterState) → All (λ p. p ≢ e) (map named_peer r.names) → IsOwnIdentity identity → r.drawn + 1 < 2 ^ 32
    → RouterIsWhole r → IsWhole (attach_as (name_answer r.names identity) e identity (Router r))
router_comes e [] r others own few whole =
    one_more r (record { name = drawn_name (r.drawn + 1); peer = e }) (r.drawn + 1) (omega arith)
    (All-weaker (λ n. IsNameOf r.drawn (name_at n)) (λ n. name_at n ≢ drawn_name (r.drawn + 1)) (λ n. next_is_new r.drawn few (name_at n)) r.names whole.names_are)
    (unmapped (λ p. p ≢ e) named_peer r.names others) (inr (r.drawn + 1, omega arith, refl)) whole
router_comes e (octet ∷ octets) r others own few whole = by (named r.names (octet ∷ octets)) refl
  where
    by : (x : Option End) → named r.names (octet ∷ octets) ≡ x → IsWhole (attach_as (if is_some x then BadId else Yes) e (octet ∷ octets) (Router r))
    by None none =
        one_more r (record { name = octet ∷ octets; peer = e }) r.drawn (omega arith) (none_named r.names (octet ∷ octets) none)
        (unmapped (λ p. p ≢ e) named_peer r.names others) (inl own) whole
    by (Some p) held = whole

-- ---- a peer goes

abbrev kept_names : End → Names → Names
kept_names e names = filter (λ (n : Named). not (same_pipe e n.peer)) names

named_filter : (e p : End) (names : Names) (name : List ℕ) → not (same_pipe e p) ≡ true → named names name ≡ Some p → named (kept_names e names) name ≡ Some p
named_filter e p [] name stays is = is
named_filter e p (n ∷ ns) name stays is = by (bytes_eq n.name name) refl is (named_filter e p ns name stays)
  where
    skipped : (b : Bool) → bytes_eq n.name name ≡ false → named (kept_names e ns) name ≡ Some p → named (cond b (n ∷ kept_names e ns) (kept_names e ns)) name ≡ Some p
    skipped true other found = ap (λ z. looked z n (kept_names e ns) name) other ∙ found
    skipped false other found = found

    by : (b : Bool) → bytes_eq n.name name ≡ b → looked b n ns name ≡ Some p → (named ns name ≡ Some p → named (kept_names e ns) name ≡ Some p)
        → named (cond (not (same_pipe e n.peer)) (n ∷ kept_names e ns) (kept_names e ns)) name ≡ Some p
    by true same is rec =
        let peer : n.peer ≡ p = cc in
        let kept : not (same_pipe e n.peer) ≡ true = ap (λ q. not (same_pipe e q)) peer ∙ stays in
        ap (λ z. named (cond z (n ∷ kept_names e ns) (kept_names e ns)) name) kept ∙ ap (λ z. looked z n (kept_names e ns) name) same ∙ is
    by false other is rec = skipped (not (same_pipe e n.peer)) other (rec is)

each_stays : (e : End) (names : Names) (ins : List End) → All (HasName names) ins → All (HasName (kept_names e names)) (without e ins)
each_stays e names [] all = All-nil (HasName (kept_names e names))
each_stays e names (x ∷ xs) all = by (not (same_pipe e x)) refl (each_stays e names xs (All-tail (HasName names) x xs all))
  where
    by : (b : Bool) → not (same_pipe e x) ≡ b → All (HasName (kept_names e names)) (without e xs) → All (HasName (kept_names e names)) (cond b (x ∷ without e xs) (without e xs))
    by true stays more =
        let has = All-head (HasName names) x xs all in
        All-cons (HasName (kept_names e names)) x (without e xs) (has.0, named_filter e x names has.0 stays has.1) more
    by false goes more = more

pub router_goes : (e : End) (r : RouterState) → RouterIsWhole r → RouterIsWhole (without_name e r)
router_goes e r whole = record {
  each_named = each_stays e r.names r.ins whole.each_named;
  are_names = record {
    names_differ = once_filter name_at (λ n. not (same_pipe e n.peer)) r.names whole.are_names.names_differ;
    peers_differ = once_filter named_peer (λ n. not (same_pipe e n.peer)) r.names whole.are_names.peers_differ;
  };
  names_are = All-filter (λ n. not (same_pipe e n.peer)) (λ n. IsNameOf r.drawn (name_at n)) r.names whole.names_are;
}
