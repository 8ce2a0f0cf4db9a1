-- What keeps a ROUTER's state one: no ends, an end more, an end fewer.
use Rattle.std.proofs.Common.{nat_eq, ◌≡◌, ◌==◌, ◌≤◌, ◌<◌, ◌+◌, ◌^◌, ◌⊎◌, ℕ, zero, suc, Bool, true, false, cond, not, filter, List, [], ◌∷◌, ◌++◌, length, Option, None, Some, All, refl, sym, ap, subst, ◌∙◌, inl, inr, arith}
use Rattle.std.proofs.lemmas.List.Elements.{All-nil, All-cons, All-head, All-tail, All-push, All-weaker, Contains-append_left, Contains-append_right, Contains-append_cases, Contains-push}
use Rattle.std.proofs.lemmas.Nat.{from_be_bytes-to_be_bytes_4}
use Rattle.std.specs.Int.{w32, from_be_bytes}
use Rattle.std.specs.Cmp.Lexicographic.{bytes_decides}
use Rattle.std.specs.Prelude.{Contains}
use Rattle.std.specs.Str.{bytes_eq}
use Rattle.spec_pattern.specs.Routing.{drawn_name}
use Rattle.msg_pipe.specs.Turns.{without_place}
use Rattle.router_dealer.specs.PlaceNames.{PlaceName, place_named, AreApart, without_name_at}
use Rattle.router_dealer.specs.Named.{most_drawn, RouterState, HasName, IsOwn, IsDrawn, AreOwnOrDrawn, IsRouter}
use Rattle.router_dealer.specs.NameTable.{HasRoom, IsReady}
use Rattle.router_dealer.proofs.PlaceNamesLemmas.{no_some, same_some, turned, place_named-given, kept_at, place_named-without}

the_one : (x y : ℕ) → Contains (y ∷ []) x → y ≡ x
the_one x y (zero, within, is) = is
the_one x y (suc k, within, is) = absurd (omega (arith, within))

-- what is in a list and passes the test is among those that pass
Contains-filter : (p : ℕ → Bool) (xs : List ℕ) (x : ℕ) → Contains xs x → p x ≡ true → Contains (filter p xs) x
Contains-filter p [] x (k, within, is) passes = absurd (omega (arith, within))
Contains-filter p (y ∷ ys) x h passes = by (λ there. Contains-filter p ys x there passes) (Contains-append_cases (y ∷ []) ys x h)
  where
    skip : (b : Bool) → Contains (filter p ys) x → Contains (cond b (y ∷ filter p ys) (filter p ys)) x
    skip true there = Contains-append_right (y ∷ []) (filter p ys) x there
    skip false there = there

    first : (b : Bool) → b ≡ true → y ≡ x → Contains (cond b (y ∷ filter p ys) (filter p ys)) x
    first true e same = subst (λ z. Contains (y ∷ filter p ys) z) same (0, omega arith, refl)
    first false e same = absurd (cc e)

    by : (Contains ys x → Contains (filter p ys) x) → Contains (y ∷ []) x ⊎ Contains ys x → Contains (cond (p y) (y ∷ filter p ys) (filter p ys)) x
    by rest (inl here) = first (p y) (ap p (the_one x y here) ∙ passes) (the_one x y here)
    by rest (inr there) = skip (p y) (rest there)

-- of no names none has a place
pub no_name : (m : List PlaceName) → m ≡ [] → (name : List ℕ) (place : ℕ) → place_named m name ≡ Some place → ⊥
no_name m is name place h = no_some (ap (λ n. place_named n name) (sym is) ∙ h)

-- a router without ends
pub IsReady-new : (r : RouterState) (room : ℕ) (back : List (List ℕ)) → r.ins ≡ [] → r.names ≡ [] → back ≡ [] → IsReady r room back
IsReady-new r room back no_ins no_names no_frames = record {
  router = record {
    apart = subst AreApart (sym no_names) tt;
    named = subst (All (HasName r.names)) (sym no_ins) (All-nil (HasName r.names));
    have_turns = λ name place h. absurd (no_name r.names no_names name place h);
    own_or_drawn = λ name place h. absurd (no_name r.names no_names name place h);
  };
  has_room = λ name place h. absurd (no_name r.names no_names name place h);
  no_frames = no_frames;
}

-- ---- a name more

module _ (m : List PlaceName) (name : List ℕ) (place : ℕ) (free : place_named m name ≡ None) where
  -- the names with the new one
  abbrev pub given : List PlaceName
  given = m ++ record { name = name; place = place } ∷ []

  -- a name of the greater map is the new one, or was there
  pub given_or_there : (q : List ℕ) (p : ℕ) → place_named given q ≡ Some p → (q ≡ name) ⊎ (place_named m q ≡ Some p)
  given_or_there q p h = by (bytes_eq q name) refl (sym (place_named-given name place m free q) ∙ h)
    where
      by : (b : Bool) → bytes_eq q name ≡ b → cond b (Some place) (place_named m q) ≡ Some p → (q ≡ name) ⊎ (place_named m q ≡ Some p)
      by true e is = inl ((bytes_decides q name).0 e)
      by false e is = inr is

  -- the new name stands for its place
  pub given_here : place_named given name ≡ Some place
  given_here = place_named-given name place m free name ∙ ap (λ b. cond b (Some place) (place_named m name)) ((bytes_decides name name).1 refl)

  -- and the others for theirs
  still_there : (q : List ℕ) (p : ℕ) → place_named m q ≡ Some p → place_named given q ≡ Some p
  still_there q p h = place_named-given name place m free q ∙ by (bytes_eq q name) refl
    where
      by : (b : Bool) → bytes_eq q name ≡ b → cond b (Some place) (place_named m q) ≡ Some p
      by true e = absurd (no_some (sym free ∙ ap (place_named m) (sym ((bytes_decides q name).0 e)) ∙ h))
      by false e = h

-- a name that was drawn is still one when more are
drawn_more : (drawn drawn' : ℕ) (name : List ℕ) → drawn ≤ drawn' → IsOwn name ⊎ IsDrawn drawn name → IsOwn name ⊎ IsDrawn drawn' name
drawn_more drawn drawn' name le (inl own) = inl own
drawn_more drawn drawn' name le (inr d) = inr (d.0, d.1, omega (arith, d.2), d.3)

module _ (r r' : RouterState) (name : List ℕ) (place : ℕ) (is_router : IsRouter r) (free : place_named r.names name ≡ None)
    (names_are : r'.names ≡ r.names ++ record { name = name; place = place } ∷ []) where
  -- a name of the greater state
  new_or_there : (q : List ℕ) (p : ℕ) → place_named r'.names q ≡ Some p → (q ≡ name) ⊎ (place_named r.names q ≡ Some p)
  new_or_there q p h = given_or_there r.names name place free q p (ap (λ m. place_named m q) (sym names_are) ∙ h)

  -- a router with an end more
  pub IsRouter-entered : r'.ins ≡ r.ins ++ place ∷ [] → r.drawn ≤ r'.drawn → IsOwn name ⊎ IsDrawn r'.drawn name → AreApart r'.names → IsRouter r'
  IsRouter-entered ins_are more kind apart = record {
    apart = apart;
    named = subst (All (HasName r'.names)) (sym ins_are) (All-push (HasName r'.names) r.ins place
        (All-weaker (HasName r.names) (HasName r'.names)
        (λ p h. (h.0, ap (λ m. place_named m h.0) names_are ∙ still_there r.names name place free h.0 p h.1)) r.ins is_router.named)
        (name, ap (λ m. place_named m name) names_are ∙ given_here r.names name place free));
    have_turns = λ q p h. turns q p h (new_or_there q p h);
    own_or_drawn = λ q p h. by q p (new_or_there q p h);
  }
    where
      turns : (q : List ℕ) (p : ℕ) → place_named r'.names q ≡ Some p → (q ≡ name) ⊎ (place_named r.names q ≡ Some p) → Contains r'.ins p
      turns q p h (inl e) =
          let here : place_named r'.names name ≡ Some place = ap (λ m. place_named m name) names_are ∙ given_here r.names name place free in
          let same : place ≡ p = same_some (sym here ∙ ap (place_named r'.names) (sym e) ∙ h) in
          subst (Contains r'.ins) same (subst (λ l. Contains l place) (sym ins_are) (Contains-push r.ins place))
      turns q p h (inr there) = subst (λ l. Contains l p) (sym ins_are) (Contains-append_left r.ins (place ∷ []) p (is_router.have_turns q p there))

      by : (q : List ℕ) (p : ℕ) → (q ≡ name) ⊎ (place_named r.names q ≡ Some p) → IsOwn q ⊎ IsDrawn r'.drawn q
      by q p (inl e) = subst (λ n. IsOwn n ⊎ IsDrawn r'.drawn n) (sym e) kind
      by q p (inr h) = drawn_more r.drawn r'.drawn q more (is_router.own_or_drawn q p h)

  -- with room for its name
  pub HasRoom-entered : (room room' : ℕ) → HasRoom room r.names → room ≤ room' → length name ≤ room' → HasRoom room' r'.names
  HasRoom-entered room room' has more fits q p h = by (new_or_there q p h)
    where
      by : (q ≡ name) ⊎ (place_named r.names q ≡ Some p) → length q ≤ room'
      by (inl e) = subst (λ n. length n ≤ room') (sym e) fits
      by (inr there) = (let k = has q p there in omega (arith, k, more))

-- ---- a name fewer

-- a name that is left stands for what it stood for
pub left_some : (place : ℕ) (o : Option ℕ) (p : ℕ) → kept_at place o ≡ Some p → o ≡ Some p
left_some place None p h = h
left_some place (Some other) p h = by (nat_eq place other) h
  where
    by : (b : Bool) → cond b None (Some other) ≡ Some p → Some other ≡ Some p
    by true e = absurd (no_some e)
    by false e = e

-- it stands for another place
pub left_apart : (place : ℕ) (o : Option ℕ) (p : ℕ) → kept_at place o ≡ Some p → (p == place) ≡ false
left_apart place None p h = absurd (no_some h)
left_apart place (Some other) p h = by (nat_eq place other) refl h
  where
    by : (b : Bool) → nat_eq place other ≡ b → cond b None (Some other) ≡ Some p → (p == place) ≡ false
    by true e f = absurd (no_some f)
    by false e f = turned p place ∙ subst (λ x. nat_eq place x ≡ false) (same_some f) e

-- and one that stood for another place is left
left_other : (place other : ℕ) → (other == place) ≡ false → (o : Option ℕ) → o ≡ Some other → kept_at place o ≡ Some other
left_other place other e o is = ap (kept_at place) is ∙ ap (λ b. cond b None (Some other)) (turned place other ∙ e)

-- each name but that of the place stands for what it stood for
abbrev pub IsWithout : ℕ → List PlaceName → List PlaceName → Type 0
IsWithout place m m' = (q : List ℕ) → place_named m' q ≡ kept_at place (place_named m q)

-- places that are left have their names
named_left : (m m' : List PlaceName) (place : ℕ) → IsWithout place m m' → (places : List ℕ) → All (HasName m) places → All (HasName m') (without_place place places)
named_left m m' place without [] all = All-nil (HasName m')
named_left m m' place without (k ∷ places) all =
    by (k == place) refl (All-head (HasName m) k places all) (named_left m m' place without places (All-tail (HasName m) k places all))
  where
    by : (b : Bool) → (k == place) ≡ b → HasName m k → All (HasName m') (without_place place places)
        → All (HasName m') (cond (not b) (k ∷ without_place place places) (without_place place places))
    by true e h rest = rest
    by false e h rest = All-cons (HasName m') k (without_place place places)
        (h.0, without h.0 ∙ left_other place k e (place_named m h.0) h.1) rest

module _ (r r' : RouterState) (place : ℕ) (is_router : IsRouter r) (names_are : r'.names ≡ without_name_at place r.names) where
  pub without : IsWithout place r.names r'.names
  without q = ap (λ m. place_named m q) names_are ∙ place_named-without place r.names is_router.apart q

  -- a router with an end fewer
  pub IsRouter-left : r'.ins ≡ without_place place r.ins → r'.drawn ≡ r.drawn → AreApart r'.names → IsRouter r'
  IsRouter-left ins_are drawn_is apart = record {
    apart = apart;
    named = subst (All (HasName r'.names)) (sym ins_are) (named_left r.names r'.names place without r.ins is_router.named);
    have_turns = λ q p h.
        let kept = sym (without q) ∙ h in
        subst (λ l. Contains l p) (sym ins_are)
        (Contains-filter (λ k. not (k == place)) r.ins p (is_router.have_turns q p (left_some place (place_named r.names q) p kept)) (ap not (left_apart place (place_named r.names q) p kept)));
    own_or_drawn = λ q p h. drawn_more r.drawn r'.drawn q (omega (arith, drawn_is))
        (is_router.own_or_drawn q p (left_some place (place_named r.names q) p (sym (without q) ∙ h)));
  }

  pub HasRoom-left : (room : ℕ) → HasRoom room r.names → HasRoom room r'.names
  HasRoom-left room has q p h = has q p (left_some place (place_named r.names q) p (sym (without q) ∙ h))

-- ---- the next name that is drawn

behind_first : List ℕ → List ℕ
behind_first [] = []
behind_first (octet ∷ octets) = octets

-- names of different numbers differ
drawn_apart : (a b : ℕ) → a < 2 ^ 32 → b < 2 ^ 32 → drawn_name a ≡ drawn_name b → a ≡ b
unfolding behind_first
drawn_apart a b small also e =
    sym (from_be_bytes-to_be_bytes_4 a small)
    ∙ ap (λ l. from_be_bytes w32 (behind_first l)) e
    ∙ from_be_bytes-to_be_bytes_4 b also

-- the next is free
pub next_is_free : (m : List PlaceName) (drawn : ℕ) → AreOwnOrDrawn drawn m → drawn < most_drawn → place_named m (drawn_name (drawn + 1)) ≡ None
next_is_free m drawn all few = by (place_named m (drawn_name (drawn + 1))) refl
  where
    none : IsOwn (drawn_name (drawn + 1)) ⊎ IsDrawn drawn (drawn_name (drawn + 1)) → ⊥
    none (inl own) = own refl
    none (inr d) =
        let le = d.2 in
        let same = drawn_apart (drawn + 1) d.0 (omega (arith, few)) (omega (arith, few, le)) d.3 in
        absurd (omega (arith, same, le))

    by : (o : Option ℕ) → place_named m (drawn_name (drawn + 1)) ≡ o → o ≡ None
    by None e = refl
    by (Some place) e = absurd (none (all (drawn_name (drawn + 1)) place e))

-- ---- a state whose parts are those of another

pub same_state : (r r' : RouterState) → r'.ins ≡ r.ins → r'.names ≡ r.names → r'.drawn ≡ r.drawn → r'.mandatory ≡ r.mandatory → r'.kept ≡ r.kept → r' ≡ r
same_state r r' ins names drawn mandatory kept = λ i. record { ins = ins i; names = names i; drawn = drawn i; mandatory = mandatory i; kept = kept i }

pub IsReady-same : (r r' : RouterState) (room room' : ℕ) (back : List (List ℕ)) → IsReady r room back
    → r'.ins ≡ r.ins → r'.names ≡ r.names → r'.drawn ≡ r.drawn → room ≤ room' → IsReady r' room' back
IsReady-same r r' room room' back ready ins names drawn more = record {
  router = record {
    apart = subst AreApart (sym names) ready.router.apart;
    named = subst (λ m. All (HasName m) r'.ins) (sym names) (subst (All (HasName r.names)) (sym ins) ready.router.named);
    have_turns = λ q p h. subst (λ l. Contains l p) (sym ins) (ready.router.have_turns q p (ap (λ m. place_named m q) (sym names) ∙ h));
    own_or_drawn = subst (AreOwnOrDrawn r'.drawn) (sym names) (subst (λ n. AreOwnOrDrawn n r.names) (sym drawn) ready.router.own_or_drawn);
  };
  has_room = λ q p h. (let k = ready.has_room q p (ap (λ m. place_named m q) (sym names) ∙ h) in omega (arith, k, more));
  no_frames = ready.no_frames;
}
