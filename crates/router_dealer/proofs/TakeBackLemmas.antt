-- What takes an attach back: the state is that before it, and its drawn name is drawn again.
use Rattle.std.proofs.Common.{nat_eq, ◌≡◌, ◌≢◌, ◌≤◌, ◌+◌, ◌-◌, ◌⊎◌, ℕ, false, cond, not, List, [], ◌∷◌, ◌++◌, None, Some, All, refl, sym, ap, ◌∙◌, inl, inr, arith, true≢false}
use Rattle.std.proofs.lemmas.List.Elements.{All-head, All-tail}
use Rattle.zq_base.specs.declared.attached.Attached.{Attached}
use Rattle.zq_base.specs.declared.attached.Attached.TheVariants.{Yes, BadId, Second}
use Rattle.spec_pattern.specs.Routing.{drawn_name}
use Rattle.std.specs.Prelude.{Ok}
use Rattle.msg_pipe.specs.Turns.{without_place}
use Rattle.router_dealer.specs.PlaceNames.{PlaceName, place_named, name_placed, AreApart, without_name_at}
use Rattle.router_dealer.specs.Named.{RouterState, IsOwn, IsDrawn, IsRouter, IsIdentity, detached_state, Attaches, IsNoPeer, CameByAttach}
use Rattle.router_dealer.proofs.PlaceNamesLemmas.{no_some, same_some, same_place, turned, failed, apart_tied, kept_at, name_placed-given, without_none}
use Rattle.router_dealer.proofs.RouterLemmas.{left_some, left_apart, without, same_state}

module _ (place : ℕ) where
  -- turns of others, and the place behind them
  pub turns_before : (ins : List ℕ) → All (λ k. nat_eq place k ≡ false) ins → without_place place (ins ++ place ∷ []) ≡ ins
  turns_before [] others = ap (λ b. cond (not b) (place ∷ []) []) (same_place place)
  turns_before (k ∷ ins) others =
      let P = λ (k : ℕ). nat_eq place k ≡ false in
      let rest = without_place place (ins ++ place ∷ []) in
      ap (λ b. cond (not b) (k ∷ rest) rest) (turned k place ∙ All-head P k ins others) ∙ ap (λ l. k ∷ l) (turns_before ins (All-tail P k ins others))

  -- turns of others alone
  pub turns_none : (ins : List ℕ) → All (λ k. nat_eq place k ≡ false) ins → without_place place ins ≡ ins
  turns_none [] others = refl
  turns_none (k ∷ ins) others =
      let P = λ (k : ℕ). nat_eq place k ≡ false in
      let rest = without_place place ins in
      ap (λ b. cond (not b) (k ∷ rest) rest) (turned k place ∙ All-head P k ins others) ∙ ap (λ l. k ∷ l) (turns_none ins (All-tail P k ins others))

  -- names of others, and that of the place behind them
  names_before : (ns : List PlaceName) (name : List ℕ) → name_placed ns place ≡ None
      → without_name_at place (ns ++ record { name = name; place = place } ∷ []) ≡ ns
  names_before [] name h =
      let new : PlaceName = record { name = name; place = place } in
      ap (λ b. cond (not b) (new ∷ []) []) (same_place place)
  names_before (n ∷ ns) name h =
      let f = failed (nat_eq place n.place) n.name (name_placed ns place) h in
      let rest = without_name_at place (ns ++ record { name = name; place = place } ∷ []) in
      ap (λ b. cond (not b) (n ∷ rest) rest) f.0 ∙ ap (λ l. n ∷ l) (names_before ns name f.1)

  -- the name that the place was given last is its name
  named_last : (ns : List PlaceName) (name : List ℕ) → name_placed ns place ≡ None
      → name_placed (ns ++ record { name = name; place = place } ∷ []) place ≡ Some name
  named_last ns name none = name_placed-given name place ns none place ∙ ap (λ b. cond b (Some name) (name_placed ns place)) (same_place place)

first_of : List ℕ → ℕ
first_of [] = 1
first_of (octet ∷ octets) = octet

-- a name of a peer's own is none that was drawn
own_apart : (octet : ℕ) (octets : List ℕ) (n : ℕ) → octet ≢ 0 → Some (octet ∷ octets) ≡ Some (drawn_name n) → ⊥
unfolding first_of
own_apart octet octets n own e = own (ap first_of (same_some e))

module _ (place : ℕ) (before r : RouterState) (apart : AreApart r.names) (no_peer : IsNoPeer place before) where
  -- its parts are as before
  parts_before : (name : List ℕ) (s : RouterState) → s.ins ≡ before.ins ++ place ∷ [] → s.names ≡ before.names ++ record { name = name; place = place } ∷ []
      → s.drawn ≡ before.drawn → s.mandatory ≡ before.mandatory → s.kept ≡ before.kept → detached_state place s ≡ before
  parts_before name s ins names drawn mandatory kept =
      same_state before (detached_state place s)
      (ap (without_place place) ins ∙ turns_before place before.ins no_peer.no_turn)
      (ap (without_name_at place) names ∙ names_before place before.names name no_peer.no_name)
      drawn mandatory kept

  -- the name of the place is the one that was drawn last
  undrawn : (identity : List ℕ) (answer : Attached) → IsIdentity identity → Attaches {E = Unit {0}} identity place before (Ok answer) r
      → place_named r.names (drawn_name r.drawn) ≡ Some place → record (detached_state place r) { drawn = r.drawn - 1 } ≡ before
  undrawn [] Yes may at last =
      let drawn = ap (λ (s : RouterState). s.drawn) at in
      parts_before (drawn_name (before.drawn + 1)) (record r { drawn = r.drawn - 1 })
      (ap (λ (s : RouterState). s.ins) at) (ap (λ (s : RouterState). s.names) at) (omega (arith, drawn))
      (ap (λ (s : RouterState). s.mandatory) at) (ap (λ (s : RouterState). s.kept) at)
  undrawn (octet ∷ octets) Yes may at last =
      absurd (own_apart octet octets r.drawn may.0
      (sym (ap (λ (s : RouterState). name_placed s.names place) at ∙ named_last place before.names (octet ∷ octets) no_peer.no_name)
      ∙ (apart_tied r.names apart (drawn_name r.drawn) place).0 last))
  undrawn identity BadId may at last =
      absurd (no_some (sym (ap (λ (s : RouterState). name_placed s.names place) at ∙ no_peer.no_name)
      ∙ (apart_tied r.names apart (drawn_name r.drawn) place).0 last))
  undrawn identity Second may at last = absurd at

  -- it is another one, or there is none
  unnamed : (identity : List ℕ) (answer : Attached) → IsIdentity identity → Attaches {E = Unit {0}} identity place before (Ok answer) r
      → (place_named r.names (drawn_name r.drawn) ≡ Some place → ⊥) → detached_state place r ≡ before
  unnamed [] Yes may at other =
      absurd (other ((apart_tied r.names apart (drawn_name r.drawn) place).1
      (ap (λ (s : RouterState). name_placed s.names place) at ∙ named_last place before.names (drawn_name (before.drawn + 1)) no_peer.no_name
      ∙ ap (λ (s : RouterState). Some (drawn_name s.drawn)) (sym at))))
  unnamed (octet ∷ octets) Yes may at other =
      parts_before (octet ∷ octets) r
      (ap (λ (s : RouterState). s.ins) at) (ap (λ (s : RouterState). s.names) at) (ap (λ (s : RouterState). s.drawn) at)
      (ap (λ (s : RouterState). s.mandatory) at) (ap (λ (s : RouterState). s.kept) at)
  unnamed identity BadId may at other =
      ap (detached_state place) at
      ∙ same_state before (detached_state place before) (turns_none place before.ins no_peer.no_turn) (without_none place before.names no_peer.no_name) refl refl refl
  unnamed identity Second may at other = absurd at

-- ---- by whether the name was drawn last

pub undone_drawn : (place : ℕ) (r : RouterState) → AreApart r.names → place_named r.names (drawn_name r.drawn) ≡ Some place
    → (before : RouterState) → CameByAttach place before r → record (detached_state place r) { drawn = r.drawn - 1 } ≡ before
undone_drawn place r apart last before came = undrawn place before r apart came.no_peer came.identity came.answer came.may_be came.attached last

pub undone_other : (place : ℕ) (r : RouterState) → AreApart r.names → (place_named r.names (drawn_name r.drawn) ≡ Some place → ⊥)
    → (before : RouterState) → CameByAttach place before r → detached_state place r ≡ before
undone_other place r apart other before came = unnamed place before r apart came.no_peer came.identity came.answer came.may_be came.attached other

-- ---- what is always so of a ROUTER whose last drawn name is free again

module _ (place : ℕ) (r : RouterState) (is_router : IsRouter r) (last : place_named r.names (drawn_name r.drawn) ≡ Some place) where
  -- some name was drawn
  pub some_drawn : 1 ≤ r.drawn
  some_drawn = by (is_router.own_or_drawn (drawn_name r.drawn) place last)
    where
      by : IsOwn (drawn_name r.drawn) ⊎ IsDrawn r.drawn (drawn_name r.drawn) → 1 ≤ r.drawn
      by (inl own) = absurd (own refl)
      by (inr d) = (let some = d.1 in let le = d.2 in omega (arith, some, le))

  -- the others are of those that were drawn before
  pub drawn_before : (r' : RouterState) → r'.names ≡ without_name_at place r.names → (q : List ℕ) (p : ℕ) → place_named r'.names q ≡ Some p
      → IsOwn q ⊎ IsDrawn (r.drawn - 1) q
  drawn_before r' names_are q p h = by (is_router.own_or_drawn q p there)
    where
      kept : kept_at place (place_named r.names q) ≡ Some p
      kept = sym (without r r' place is_router names_are q) ∙ h

      there : place_named r.names q ≡ Some p
      there = left_some place (place_named r.names q) p kept

      not_last : q ≡ drawn_name r.drawn → ⊥
      not_last e =
          let same : place ≡ p = same_some (sym last ∙ ap (place_named r.names) (sym e) ∙ there) in
          true≢false (sym (same_place place) ∙ ap (λ k. nat_eq k place) same ∙ left_apart place (place_named r.names q) p kept)

      less : (n : ℕ) → n ≤ r.drawn → (n ≡ r.drawn → ⊥) → n ≤ r.drawn - 1
      less n le other = (let some = some_drawn in omega (arith, le, other, some))

      by : IsOwn q ⊎ IsDrawn r.drawn q → IsOwn q ⊎ IsDrawn (r.drawn - 1) q
      by (inl own) = inl own
      by (inr d) = inr (d.0, d.1, less d.0 d.2 (λ e. not_last (d.3 ∙ ap drawn_name e)), d.3)
