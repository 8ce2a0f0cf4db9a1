-- What is found, struck and joined among the holds of a socket.
use Rattle.std.specs.Prelude.{◌≡◌, ◌<◌, ◌+◌, ◌||◌, ℕ, Bool, true, false, not, cond, if◌then◌else◌, List, [], ◌∷◌, Option, Some, None, find, is_some, length, map, option_map, position, nat_lt, slice_get, slice_index_or, slice_set, refl}
use Rattle.std.specs.List.{list_any, position_or_len}
use Rattle.std.proofs.Common.{arith, sym, ap, ◌∙◌, subst, one-add}
use Rattle.std.proofs.lemmas.Bool.{false≢true}
use Rattle.std.proofs.lemmas.Bool.Decides.{Decides-ltb}
use Rattle.std.proofs.lemmas.List.Folds.{find_at}
use Rattle.std.proofs.lemmas.Option.{cond_some, slice_get_read}
use Rattle.std.proofs.lemmas.Slice.Eq.{bytes_eq-Decides}
use Rattle.zq_base.specs.declared.endpoint.Address.{Address}
use Rattle.zq_base.specs.declared.endpoint.Endpoint.{Endpoint}
use Rattle.zq_base.specs.declared.endpoint.Endpoint.TheVariants.{Inproc, Tcp}
use Rattle.zq_base.specs.declared.ids.PairId.{PairId}
use Rattle.spec_control.specs.EndpointBook.{numbers_of, is_endpoint, without_first}
use Rattle.spec_control.specs.Hold.{Hold as HoldSaid, Joined as IsJoined, waits_for, fulfil}
use Rattle.endpoint_book.proofs.WaitingLemmas.{any_found, none_found}
use Rattle.ctl_state.specs.declared.hold.Held.{Held}
use Rattle.ctl_state.specs.declared.hold.Held.TheVariants.{Bound, Waits, Joined}
use Rattle.ctl_state.specs.declared.hold.Hold.{Hold}
use Rattle.ctl_state.specs.declared.hold.Sought.TheVariants.{Waiting}
use Rattle.ctl_state.specs.Holds.{hold_of, hold_at, no_hold, seeks, joined, joined_first}

same_address : (a b : Address) → numbers_of a ≡ numbers_of b → a ≡ b
same_address a b e =
    let port : a.port ≡ b.port = cc in
    let octets : a.octets ≡ b.octets = cc in
    ap (λ (n : ℕ). let x : Address = record { octets = a.octets; port = n } in x) port
    ∙ ap (λ (o : List ℕ). let x : Address = record { octets = o; port = b.port } in x) octets

-- what is one endpoint is the same
pub same_endpoint : (a b : Endpoint) → is_endpoint a b ≡ true → a ≡ b
same_endpoint (Inproc a) (Inproc b) h = ap Inproc ((bytes_eq-Decides a b).0 h)
same_endpoint (Inproc a) (Tcp b) h = absurd (false≢true h)
same_endpoint (Tcp a) (Inproc b) h = absurd (false≢true h)
same_endpoint (Tcp a) (Tcp b) h = ap Tcp (same_address a b ((bytes_eq-Decides (numbers_of a) (numbers_of b)).0 h))

module _ {X : Type 0} (test : X → Bool) where
  none_there : (xs : List X) → list_any test xs ≡ false → find test xs ≡ None
  none_there [] h = refl
  none_there (x ∷ xs) h = at (none_there xs) (test x) h
    where
      at : (list_any test xs ≡ false → find test xs ≡ None) → (b : Bool) → (b || list_any test xs) ≡ false → cond b (Some x) (find test xs) ≡ None
      at rest true e = absurd (false≢true (sym e))
      at rest false e = rest e

  -- the place of the first that passes
  pub place_within : (xs : List X) (p : ℕ) → Some p ≡ position test xs → p < length xs
  place_within xs p e =
      let found = cond_some (nat_lt (position_or_len test xs) (length xs)) (position_or_len test xs) p (sym e) in
      subst (λ (n : ℕ). n < length xs) found.1 ((Decides-ltb (position_or_len test xs) (length xs)).0 found.0)

  place_is : (xs : List X) (p : ℕ) → Some p ≡ position test xs → p ≡ position_or_len test xs
  place_is xs p e = sym (cond_some (nat_lt (position_or_len test xs) (length xs)) (position_or_len test xs) p (sym e)).1

  -- what stands there is what is found
  pub found_there : (xs : List X) (p : ℕ) (x : X) → Some p ≡ position test xs → x ≡ slice_index_or xs p x → Some x ≡ find test xs
  found_there xs p x e is = sym (find_at test xs ∙ ap (slice_get xs) (sym (place_is xs p e)) ∙ slice_get_read xs (length xs) p x refl (place_within xs p e) is)

  pub found_none : (xs : List X) → None ≡ position test xs → None ≡ find test xs
  found_none xs e = sym (none_there xs (none_found test xs e))

  -- one stands somewhere where one passes
  pub is_placed : (xs : List X) → is_some (position test xs) ≡ list_any test xs
  is_placed xs = by (position test xs) refl
    where
      by : (r : Option ℕ) → r ≡ position test xs → is_some r ≡ list_any test xs
      by None e = sym (none_found test xs e)
      by (Some p) e = sym (any_found test xs p e)

module _ (test : HoldSaid → Bool) where
  abbrev passes : Hold → Bool
  passes h = test (hold_of h)

  -- what is found, struck and there among the holds is so among those of the control state
  pub found_in : (xs : List Hold) → find test (map hold_of xs) ≡ option_map hold_of (find passes xs)
  found_in [] = refl
  found_in (x ∷ xs) = at (found_in xs) (test (hold_of x))
    where
      at : find test (map hold_of xs) ≡ option_map hold_of (find passes xs) → (b : Bool) →
          cond b (Some (hold_of x)) (find test (map hold_of xs)) ≡ option_map hold_of (cond b (Some x) (find passes xs))
      at rest true = refl
      at rest false = rest

  pub struck_in : (xs : List Hold) → without_first test (map hold_of xs) ≡ map hold_of (without_first passes xs)
  struck_in [] = refl
  struck_in (x ∷ xs) = at (struck_in xs) (test (hold_of x))
    where
      at : without_first test (map hold_of xs) ≡ map hold_of (without_first passes xs) → (b : Bool) → (if b then map hold_of xs else hold_of x ∷ without_first test (map hold_of xs)) ≡ map hold_of (if b then xs else x ∷ without_first passes xs)
      at rest true = refl
      at rest false = ap (λ (ys : List HoldSaid). hold_of x ∷ ys) rest

  pub any_in : (xs : List Hold) → list_any passes xs ≡ is_some (find test (map hold_of xs))
  any_in [] = refl
  any_in (x ∷ xs) = at (any_in xs) (test (hold_of x))
    where
      at : list_any passes xs ≡ is_some (find test (map hold_of xs)) → (b : Bool) → (b || list_any passes xs) ≡ is_some (cond b (Some (hold_of x)) (find test (map hold_of xs)))
      at rest true = refl
      at rest false = rest

module _ (at : Endpoint) (pair : PairId) where
  -- a hold that waits for the endpoint is of that endpoint
  joined_is : (at' : Endpoint) (held : Held) → waits_for at (hold_at at' held) ≡ true → IsJoined at' pair.0 None ≡ IsJoined at pair.0 None
  joined_is at' (Bound listener) h = absurd (false≢true h)
  joined_is at' Waits h = ap (λ (e : Endpoint). IsJoined e pair.0 None) (same_endpoint at' at h)
  joined_is at' (Joined p session) h = absurd (false≢true h)

  -- the first that waits has got the pair
  pub joined_in : (xs : List Hold) → map hold_of (joined_first at pair xs) ≡ fulfil at pair.0 (map hold_of xs)
  joined_in [] = refl
  joined_in (x ∷ xs) = by (seeks Waiting at x) refl (joined_in xs)
    where
      by : (b : Bool) → seeks Waiting at x ≡ b → map hold_of (joined_first at pair xs) ≡ fulfil at pair.0 (map hold_of xs)
          → map hold_of (cond b (joined pair x ∷ xs) (x ∷ joined_first at pair xs)) ≡ (if b then IsJoined at pair.0 None ∷ map hold_of xs else hold_of x ∷ fulfil at pair.0 (map hold_of xs))
      by true w rest = ap (λ (y : HoldSaid). y ∷ map hold_of xs) (joined_is x.at x.held w)
      by false w rest = ap (λ (ys : List HoldSaid). hold_of x ∷ ys) rest

  joined_at : (xs : List Hold) (i : ℕ) → i ≡ position_or_len (seeks Waiting at) xs → i < length xs →
      slice_set xs i (joined pair (slice_index_or xs i no_hold)) ≡ joined_first at pair xs
  joined_at [] i e h = absurd (omega arith)
  joined_at (x ∷ xs) i e h = by (seeks Waiting at x) i e h (joined_at xs (position_or_len (seeks Waiting at) xs) refl)
    where
      by : (b : Bool) → (i : ℕ) → i ≡ cond (not b) (1 + position_or_len (seeks Waiting at) xs) 0 → i < length (x ∷ xs) →
          (position_or_len (seeks Waiting at) xs < length xs → slice_set xs (position_or_len (seeks Waiting at) xs) (joined pair (slice_index_or xs (position_or_len (seeks Waiting at) xs) no_hold)) ≡ joined_first at pair xs) →
          slice_set (x ∷ xs) i (joined pair (slice_index_or (x ∷ xs) i no_hold)) ≡ (if b then joined pair x ∷ xs else x ∷ joined_first at pair xs)
      by true i e h rest = subst (λ (n : ℕ). slice_set (x ∷ xs) n (joined pair (slice_index_or (x ∷ xs) n no_hold)) ≡ joined pair x ∷ xs) (sym e) refl
      by false i e h rest =
          subst (λ (n : ℕ). slice_set (x ∷ xs) n (joined pair (slice_index_or (x ∷ xs) n no_hold)) ≡ x ∷ joined_first at pair xs)
          (sym (e ∙ one-add (position_or_len (seeks Waiting at) xs)))
          (ap (λ (ys : List Hold). x ∷ ys) (rest (omega (arith, e, h))))

  pub joined_there : (xs : List Hold) (p : ℕ) → Some p ≡ position (seeks Waiting at) xs → slice_set xs p (joined pair (slice_index_or xs p no_hold)) ≡ joined_first at pair xs
  joined_there xs p e = joined_at xs p (place_is (seeks Waiting at) xs p e) (place_within (seeks Waiting at) xs p e)

  none_joined : (xs : List Hold) → list_any (seeks Waiting at) xs ≡ false → xs ≡ joined_first at pair xs
  none_joined [] h = refl
  none_joined (x ∷ xs) h = by (none_joined xs) (seeks Waiting at x) h
    where
      by : (list_any (seeks Waiting at) xs ≡ false → xs ≡ joined_first at pair xs) → (b : Bool) → (b || list_any (seeks Waiting at) xs) ≡ false → x ∷ xs ≡ (if b then joined pair x ∷ xs else x ∷ joined_first at pair xs)
      by rest true e = absurd (false≢true (sym e))
      by rest false e = ap (λ (ys : List Hold). x ∷ ys) (rest e)

  pub joined_none : (xs : List Hold) → None ≡ position (seeks Waiting at) xs → xs ≡ joined_first at pair xs
  joined_none xs e = none_joined xs (none_found (seeks Waiting at) xs e)
