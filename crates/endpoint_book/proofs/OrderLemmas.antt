-- What changes of the connects that wait are at each key.
use Rattle.std.proofs.Common.{◌≡◌, ◌∙◌, ℕ, Bool, true, false, cond, not, ◌&&◌, ◌||◌, Option, List, [], ◌∷◌, ◌++◌, filter, refl, sym, ap, true≢false}
use Rattle.std.proofs.lemmas.List.Elements.{filter-append}
use Rattle.std.specs.Cmp.Lexicographic.{bytes_decides}
use Rattle.std.specs.List.{list_any}
use Rattle.std.specs.Map.{lookup}
use Rattle.std.specs.Option.{unwrap_or}
use Rattle.std.specs.Str.{bytes_eq}
use Rattle.zq_base.specs.declared.endpoint.Address.{Address}
use Rattle.zq_base.specs.declared.endpoint.Endpoint.{Endpoint}
use Rattle.zq_base.specs.declared.endpoint.Endpoint.TheVariants.{Inproc, Tcp}
use Rattle.zq_base.specs.declared.ids.ObjId.{ObjId}
use Rattle.spec_control.specs.declared.book.Binding.{Binding}
use Rattle.spec_control.specs.declared.book.Waiting.{Waiting}
use Rattle.spec_control.specs.EndpointBook.{is_endpoint, numbers_of, is_waiter, waits_for, is_fulfilled, is_connect_of, without_first}
use Rattle.endpoint_book.specs.Lines.{address_line}
use Rattle.endpoint_book.specs.WaitLists.{Lists, Sets, KeepOthers, AreLists, line_of, stands_at, list_at, after_change, after_all}
use Rattle.endpoint_book.specs.declared.change.Change.{Change}

module _ {X : Type 0} where
  -- a filter behind a wider one
  pub filter_within : (p q : X → Bool) → ((x : X) → p x ≡ true → q x ≡ true) → (xs : List X) → filter p (filter q xs) ≡ filter p xs
  filter_within p q within [] = refl
  filter_within p q within (x ∷ xs) = by (q x) (p x) refl refl (within x) (filter_within p q within xs)
    where
      by : (b c : Bool) → q x ≡ b → p x ≡ c → (p x ≡ true → q x ≡ true) → filter p (filter q xs) ≡ filter p xs
          → filter p (cond b (x ∷ filter q xs) (filter q xs)) ≡ cond c (x ∷ filter p xs) (filter p xs)
      by true true hq hp w rest = ap (λ b. cond b (x ∷ filter p (filter q xs)) (filter p (filter q xs))) hp ∙ ap (λ l. x ∷ l) rest
      by true false hq hp w rest = ap (λ b. cond b (x ∷ filter p (filter q xs)) (filter p (filter q xs))) hp ∙ rest
      by false true hq hp w rest = absurd (true≢false (sym (w hp) ∙ hq))
      by false false hq hp w rest = rest

  -- two filters in either order
  pub filter_swap : (p q : X → Bool) (xs : List X) → filter p (filter q xs) ≡ filter q (filter p xs)
  filter_swap p q [] = refl
  filter_swap p q (x ∷ xs) = by (p x) (q x) refl refl (filter_swap p q xs)
    where
      by : (b c : Bool) → p x ≡ b → q x ≡ c → filter p (filter q xs) ≡ filter q (filter p xs)
          → filter p (cond c (x ∷ filter q xs) (filter q xs)) ≡ filter q (cond b (x ∷ filter p xs) (filter p xs))
      by true true hp hq rest =
          ap (λ b. cond b (x ∷ filter p (filter q xs)) (filter p (filter q xs))) hp ∙ ap (λ l. x ∷ l) rest
          ∙ sym (ap (λ b. cond b (x ∷ filter q (filter p xs)) (filter q (filter p xs))) hq)
      by true false hp hq rest = rest ∙ sym (ap (λ b. cond b (x ∷ filter q (filter p xs)) (filter q (filter p xs))) hq)
      by false true hp hq rest = ap (λ b. cond b (x ∷ filter p (filter q xs)) (filter p (filter q xs))) hp ∙ rest
      by false false hp hq rest = rest

  -- a filter that what is left out doesn't pass
  pub filter_others : (p q : X → Bool) → ((x : X) → q x ≡ true → p x ≡ false) → (xs : List X) → filter q (filter (λ x. not (p x)) xs) ≡ filter q xs
  filter_others p q apart = filter_within q (λ x. not (p x)) (λ x h. ap not (apart x h))

  -- the first that passes is the first of a wider filter
  pub first_within : (r q : X → Bool) → ((x : X) → r x ≡ true → q x ≡ true) → (xs : List X) → without_first r (filter q xs) ≡ filter q (without_first r xs)
  first_within r q within [] = refl
  first_within r q within (x ∷ xs) = by (r x) (q x) refl refl (within x) (first_within r q within xs)
    where
      by : (b c : Bool) → r x ≡ b → q x ≡ c → (r x ≡ true → q x ≡ true) → without_first r (filter q xs) ≡ filter q (without_first r xs)
          → without_first r (cond c (x ∷ filter q xs) (filter q xs)) ≡ filter q (cond b xs (x ∷ without_first r xs))
      by true true hr hq w rest = ap (λ b. cond b (filter q xs) (x ∷ without_first r (filter q xs))) hr
      by true false hr hq w rest = absurd (true≢false (sym (w hr) ∙ hq))
      by false true hr hq w rest =
          ap (λ b. cond b (filter q xs) (x ∷ without_first r (filter q xs))) hr ∙ ap (λ l. x ∷ l) rest
          ∙ sym (ap (λ b. cond b (x ∷ filter q (without_first r xs)) (filter q (without_first r xs))) hq)
      by false false hr hq w rest = rest ∙ sym (ap (λ b. cond b (x ∷ filter q (without_first r xs)) (filter q (without_first r xs))) hq)

  -- a filter that the first doesn't pass
  pub first_others : (r q : X → Bool) → ((x : X) → q x ≡ true → r x ≡ false) → (xs : List X) → filter q (without_first r xs) ≡ filter q xs
  first_others r q apart [] = refl
  first_others r q apart (x ∷ xs) = by (r x) (q x) refl refl (apart x) (first_others r q apart xs)
    where
      by : (b c : Bool) → r x ≡ b → q x ≡ c → (q x ≡ true → r x ≡ false) → filter q (without_first r xs) ≡ filter q xs
          → filter q (cond b xs (x ∷ without_first r xs)) ≡ cond c (x ∷ filter q xs) (filter q xs)
      by true true hr hq a rest = absurd (true≢false (sym hr ∙ a hq))
      by true false hr hq a rest = refl
      by false true hr hq a rest = ap (λ b. cond b (x ∷ filter q (without_first r xs)) (filter q (without_first r xs))) hq ∙ ap (λ l. x ∷ l) rest
      by false false hr hq a rest = ap (λ b. cond b (x ∷ filter q (without_first r xs)) (filter q (without_first r xs))) hq ∙ rest

  -- whether one passes
  pub any_within : (r q : X → Bool) → ((x : X) → r x ≡ true → q x ≡ true) → (xs : List X) → list_any r (filter q xs) ≡ list_any r xs
  any_within r q within [] = refl
  any_within r q within (x ∷ xs) = by (r x) (q x) refl refl (within x) (any_within r q within xs)
    where
      by : (b c : Bool) → r x ≡ b → q x ≡ c → (r x ≡ true → q x ≡ true) → list_any r (filter q xs) ≡ list_any r xs
          → list_any r (cond c (x ∷ filter q xs) (filter q xs)) ≡ (b || list_any r xs)
      by true true hr hq w rest = ap (λ b. b || list_any r (filter q xs)) hr
      by true false hr hq w rest = absurd (true≢false (sym (w hr) ∙ hq))
      by false true hr hq w rest = ap (λ b. b || list_any r (filter q xs)) hr ∙ rest
      by false false hr hq w rest = rest

  -- where none passes, none goes
  pub first_none : (r : X → Bool) (xs : List X) → list_any r xs ≡ false → without_first r xs ≡ xs
  first_none r [] none = refl
  first_none r (x ∷ xs) none = by (r x) none (first_none r xs)
    where
      by : (b : Bool) → (b || list_any r xs) ≡ false → (list_any r xs ≡ false → without_first r xs ≡ xs) → cond b xs (x ∷ without_first r xs) ≡ x ∷ xs
      by true none rest = absurd (true≢false none)
      by false none rest = ap (λ l. x ∷ l) (rest none)

-- both of two tests are met
both : (a b : Bool) → (a && b) ≡ true → (a ≡ true) × (b ≡ true)
both true b h = (refl, h)
both false b h = absurd (true≢false (sym h))

-- one endpoint is searched for by the same octets
same_line : (a b : Endpoint) → is_endpoint a b ≡ true → line_of a ≡ line_of b
same_line (Inproc a) (Inproc b) h = (bytes_decides a b).0 h
same_line (Inproc a) (Tcp b) h = absurd (true≢false (sym h))
same_line (Tcp a) (Inproc b) h = absurd (true≢false (sym h))
same_line (Tcp a) (Tcp b) h = same ((bytes_decides (numbers_of a) (numbers_of b)).0 h)
  where
    of_numbers : List ℕ → Address → Address
    of_numbers [] other = other
    of_numbers (port ∷ octets) other = record { octets = octets; port = port }

    same : numbers_of a ≡ numbers_of b → address_line a ≡ address_line b
    same e = ap (λ l. address_line (of_numbers l a)) e

-- a connect that waits for the endpoint is searched for as it is
pub stands_there : (at : Endpoint) (w : Waiting) → waits_for at w ≡ true → stands_at (line_of at) w ≡ true
stands_there at w h = (bytes_decides (line_of at) (line_of w.at)).1 (sym (same_line w.at at h))

-- so do those that a bind fulfils, and those that an object takes back
pub fulfilled_there : (at : Endpoint) (binding : Binding) (w : Waiting) → is_fulfilled at binding w ≡ true → stands_at (line_of at) w ≡ true
fulfilled_there at binding w h = stands_there at w ((both _ _ h).0)

pub connect_there : (object : ObjId) (at : Endpoint) (w : Waiting) → is_connect_of object at w ≡ true → stands_at (line_of at) w ≡ true
connect_there object at w h = stands_there at w ((both _ _ h).1)

-- those that a bind fulfils are among those that stand where it is searched for
pub fulfilled-found : (at : Endpoint) (binding : Binding) (waits : List Waiting) (lists : Lists) → AreLists waits lists
    → (found : Option (List Waiting)) → found ≡ lookup (bytes_eq (line_of at)) lists
    → filter (is_fulfilled at binding) (unwrap_or found []) ≡ filter (is_fulfilled at binding) waits
fulfilled-found at binding waits lists are found h =
    ap (filter (is_fulfilled at binding)) (ap (λ o. unwrap_or o []) h ∙ are (line_of at))
    ∙ filter_within (is_fulfilled at binding) (stands_at (line_of at)) (fulfilled_there at binding) waits

-- what is searched for as the endpoint is not searched for otherwise
elsewhere : (p : Waiting → Bool) (line l : List ℕ) → ((w : Waiting) → p w ≡ true → stands_at line w ≡ true) → bytes_eq line l ≡ false
    → (w : Waiting) → stands_at l w ≡ true → p w ≡ false
elsewhere p line l there other w h = by (p w) refl
  where
    by : (b : Bool) → p w ≡ b → b ≡ false
    by true hp =
        let here = (bytes_decides line (line_of w.at)).0 (there w hp) in
        absurd (true≢false (sym ((bytes_decides line l).1 (here ∙ sym ((bytes_decides l (line_of w.at)).0 h))) ∙ other))
    by false hp = refl

-- those that pass a test went, where they stand
pub AreLists-without : (p : Waiting → Bool) (line : List ℕ) (waits : List Waiting) (old new : Lists) → ((w : Waiting) → p w ≡ true → stands_at line w ≡ true)
    → AreLists waits old → Sets line (filter (λ w. not (p w)) (list_at old line)) old new → AreLists (filter (λ w. not (p w)) waits) new
AreLists-without p line waits old new there lists sets l = sets l ∙ by (bytes_eq line l) refl
  where
    by : (b : Bool) → bytes_eq line l ≡ b → cond b (filter (λ w. not (p w)) (list_at old line)) (list_at old l) ≡ filter (stands_at l) (filter (λ w. not (p w)) waits)
    by true same =
        ap (filter (λ w. not (p w))) (lists line) ∙ filter_swap (λ w. not (p w)) (stands_at line) waits
        ∙ ap (λ q. filter (stands_at q) (filter (λ w. not (p w)) waits)) ((bytes_decides line l).0 same)
    by false other = lists l ∙ sym (filter_others p (stands_at l) (elsewhere p line l there other) waits)

-- the first that passes went
pub AreLists-first : (r : Waiting → Bool) (line : List ℕ) (waits : List Waiting) (old new : Lists) → ((w : Waiting) → r w ≡ true → stands_at line w ≡ true)
    → AreLists waits old → Sets line (without_first r (list_at old line)) old new → AreLists (without_first r waits) new
AreLists-first r line waits old new there lists sets l = sets l ∙ by (bytes_eq line l) refl
  where
    by : (b : Bool) → bytes_eq line l ≡ b → cond b (without_first r (list_at old line)) (list_at old l) ≡ filter (stands_at l) (without_first r waits)
    by true same =
        ap (without_first r) (lists line) ∙ first_within r (stands_at line) there waits
        ∙ ap (λ q. filter (stands_at q) (without_first r waits)) ((bytes_decides line l).0 same)
    by false other = lists l ∙ sym (first_others r (stands_at l) (elsewhere r line l there other) waits)

-- one more waits
pub AreLists-more : (w : Waiting) (waits : List Waiting) (old new : Lists) → AreLists waits old
    → Sets (line_of w.at) (list_at old (line_of w.at) ++ w ∷ []) old new → AreLists (waits ++ w ∷ []) new
AreLists-more w waits old new lists sets l = sets l ∙ by (bytes_eq (line_of w.at) l) refl
  where
    here : (q : List ℕ) → line_of w.at ≡ q → stands_at q w ≡ true
    here q e = (bytes_decides q (line_of w.at)).1 (sym e)

    gone : bytes_eq (line_of w.at) l ≡ false → stands_at l w ≡ false
    gone other = from (stands_at l w) refl
      where
        from : (b : Bool) → stands_at l w ≡ b → b ≡ false
        from true h = absurd (true≢false (sym ((bytes_decides (line_of w.at) l).1 (sym ((bytes_decides l (line_of w.at)).0 h))) ∙ other))
        from false h = refl

    nothing_more : (xs : List Waiting) → xs ++ [] ≡ xs
    nothing_more [] = refl
    nothing_more (x ∷ xs) = ap (λ l. x ∷ l) (nothing_more xs)

    by : (b : Bool) → bytes_eq (line_of w.at) l ≡ b → cond b (list_at old (line_of w.at) ++ w ∷ []) (list_at old l) ≡ filter (stands_at l) (waits ++ w ∷ [])
    by true same =
        let e = (bytes_decides (line_of w.at) l).0 same in
        ap (λ q. list_at old q ++ w ∷ []) e ∙ ap (λ xs. xs ++ w ∷ []) (lists l)
        ∙ ap (λ b. filter (stands_at l) waits ++ cond b (w ∷ []) []) (sym (here l e))
        ∙ sym (filter-append (stands_at l) waits (w ∷ []))
    by false other =
        lists l ∙ sym (nothing_more (filter (stands_at l) waits))
        ∙ ap (λ b. filter (stands_at l) waits ++ cond b (w ∷ []) []) (sym (gone other))
        ∙ sym (filter-append (stands_at l) waits (w ∷ []))

-- those of an object went
pub AreLists-kept : (object : ObjId) (waits : List Waiting) (old new : Lists) → AreLists waits old → KeepOthers object old new
    → AreLists (filter (λ w. not (is_waiter object w)) waits) new
AreLists-kept object waits old new lists kept l =
    kept l ∙ ap (filter (λ w. not (is_waiter object w))) (lists l) ∙ filter_swap (λ w. not (is_waiter object w)) (stands_at l) waits

-- a change more
after_all-more : (waits : List Waiting) (cs : List (Endpoint × Change)) (c : Endpoint × Change) → after_all waits (cs ++ c ∷ []) ≡ after_change c (after_all waits cs)
after_all-more waits [] c = refl
after_all-more waits (d ∷ cs) c = after_all-more (after_change d waits) cs c

-- after one more, as the history has it
pub after_one : (past more : List (Endpoint × Change)) (c : Endpoint × Change) → more ≡ past ++ c ∷ [] → after_all [] more ≡ after_change c (after_all [] past)
after_one past more c is = ap (after_all []) is ∙ after_all-more [] past c
