-- That where an object waits is noted under it, as connects come and go.
use Rattle.std.proofs.Common.{◌≡◌, ◌∙◌, ℕ, Bool, true, false, cond, not, ◌&&◌, ◌||◌, ◌<◌, List, [], ◌∷◌, ◌++◌, length, filter, refl, sym, ap, subst, arith, true≢false}
use Rattle.std.proofs.lemmas.Bool.{eqb-true}
use Rattle.std.proofs.lemmas.Map.Views.{any-filter_same}
use Rattle.std.specs.Cmp.{IsEquivalence}
use Rattle.std.specs.Cmp.Lexicographic.{bytes_decides, nat_list_eq_equiv}
use Rattle.std.specs.List.{list_all, list_any}
use Rattle.std.specs.Map.{IsKeyTest, AreApart}
use Rattle.std.specs.Str.{bytes_eq}
use Rattle.std.specs.declared.vec.Vec.{Vec}
use Rattle.indexmap.specs.IndexSet.{insert_key}
use Rattle.zq_base.specs.declared.endpoint.Endpoint.{Endpoint}
use Rattle.zq_base.specs.declared.ids.ObjId.{ObjId}
use Rattle.spec_control.specs.declared.book.Binding.{Binding}
use Rattle.spec_control.specs.declared.book.Waiting.{Waiting}
use Rattle.spec_control.specs.EndpointBook.{is_object, is_waiter, is_fulfilled, without_first}
use Rattle.endpoint_book.specs.Owned.{KeySets, keys_under, PutsUnder, KeepsUnder}
use Rattle.endpoint_book.specs.WaitLists.{Lists, Sets, KeepOthers, AreLists, line_of, stands_at, list_at}
use Rattle.endpoint_book.specs.NotedWaits.{is_waiter_at, is_line, same_line, IsAmongLines, AreWaitsNoted, KeepsElsewhere, KeepsNoted, KeepsUnfulfilled}
use Rattle.endpoint_book.proofs.OrderLemmas.{filter_swap, filter_within}
use Rattle.endpoint_book.proofs.HeldLemmas.{any_last, not_both, noted_more, noted_there}

module _ {X : Type 0} where
  -- one that passes two tests is one of those that pass the second
  any_and : (p q : X → Bool) (xs : List X) → list_any (λ x. p x && q x) xs ≡ list_any p (filter q xs)
  any_and p q [] = refl
  any_and p q (x ∷ xs) = by (p x) (q x) refl (any_and p q xs)
    where
      by : (b c : Bool) → p x ≡ b → list_any (λ x. p x && q x) xs ≡ list_any p (filter q xs)
          → ((b && c) || list_any (λ x. p x && q x) xs) ≡ list_any p (cond c (x ∷ filter q xs) (filter q xs))
      by true true h rest = sym (ap (λ b. b || list_any p (filter q xs)) h)
      by true false h rest = rest
      by false true h rest = rest ∙ sym (ap (λ b. b || list_any p (filter q xs)) h)
      by false false h rest = rest

  -- one of those that stay was there
  any_filter : (q keep : X → Bool) (xs : List X) → list_any q (filter keep xs) ≡ true → list_any q xs ≡ true
  any_filter q keep [] h = h
  any_filter q keep (x ∷ xs) h = by (keep x) (q x) refl h (any_filter q keep xs)
    where
      by : (k b : Bool) → q x ≡ b → list_any q (cond k (x ∷ filter keep xs) (filter keep xs)) ≡ true → (list_any q (filter keep xs) ≡ true → list_any q xs ≡ true) → (b || list_any q xs) ≡ true
      by k true e h rest = refl
      by true false e h rest = rest (ap (λ b. b || list_any q (filter keep xs)) (sym e) ∙ h)
      by false false e h rest = rest h

  any_first : (q r : X → Bool) (xs : List X) → list_any q (without_first r xs) ≡ true → list_any q xs ≡ true
  any_first q r [] h = h
  any_first q r (x ∷ xs) h = by (r x) (q x) refl h (any_first q r xs)
    where
      by : (k b : Bool) → q x ≡ b → list_any q (cond k xs (x ∷ without_first r xs)) ≡ true → (list_any q (without_first r xs) ≡ true → list_any q xs ≡ true) → (b || list_any q xs) ≡ true
      by k true e h rest = refl
      by true false e h rest = h
      by false false e h rest = rest (ap (λ b. b || list_any q (without_first r xs)) (sym e) ∙ h)

  -- where none passes, all stay
  all_kept : (p : X → Bool) (xs : List X) → list_any p xs ≡ false → filter (λ x. not (p x)) xs ≡ xs
  all_kept p [] h = refl
  all_kept p (x ∷ xs) h = by (p x) h (all_kept p xs)
    where
      by : (b : Bool) → (b || list_any p xs) ≡ false → (list_any p xs ≡ false → filter (λ x. not (p x)) xs ≡ xs) → cond (not b) (x ∷ filter (λ x. not (p x)) xs) (filter (λ x. not (p x)) xs) ≡ x ∷ xs
      by true h rest = absurd (true≢false h)
      by false h rest = ap (λ l. x ∷ l) (rest h)

  -- where all pass, none fails
  none_others : (p : X → Bool) (xs : List X) → list_all p xs ≡ true → filter (λ x. not (p x)) xs ≡ []
  none_others p [] h = refl
  none_others p (x ∷ xs) h = by (p x) h (none_others p xs)
    where
      by : (b : Bool) → (b && list_all p xs) ≡ true → (list_all p xs ≡ true → filter (λ x. not (p x)) xs ≡ []) → cond (not b) (x ∷ filter (λ x. not (p x)) xs) (filter (λ x. not (p x)) xs) ≡ []
      by true h rest = rest h
      by false h rest = absurd (true≢false (sym h))

  -- none of those that fail passes
  none_kept : (p : X → Bool) (xs : List X) → list_any p (filter (λ x. not (p x)) xs) ≡ false
  none_kept p xs = any-filter_same p (λ x. not (p x)) false (λ x h. ap not h) xs

-- a list from which nothing can be taken is empty
pub nothing_there : {X : Type 0} (xs : List X) → (0 < length xs → false ≡ true) → xs ≡ []
nothing_there [] h = refl
nothing_there (x ∷ xs) h = absurd (true≢false (sym (h (omega arith))))

-- one of two tests is met
either : (a b : Bool) → (a || b) ≡ true → (a ≡ false → b ≡ true)
either true b h other = absurd (true≢false other)
either false b h other = h

module _ {A : Type 0} where
  lines_equiv : IsEquivalence (same_line {A = A})
  lines_equiv = record {
    refl = λ x. nat_list_eq_equiv.refl x.items;
    symm = λ x y. nat_list_eq_equiv.symm x.items y.items;
    congr = λ x y z h. nat_list_eq_equiv.congr x.items y.items z.items h;
  }

  -- octets test keys as a key does
  tests_lines : (line : List ℕ) → IsKeyTest (same_line {A = A}) (is_line line)
  tests_lines line x y h = nat_list_eq_equiv.congr line x.items y.items h

  -- other octets are of no key of these
  lines_apart : (line l : List ℕ) → bytes_eq line l ≡ false → AreApart (is_line {A = A} line) (is_line l)
  lines_apart line l other k h = nat_list_eq_equiv.symm l k.items ∙ sym (nat_list_eq_equiv.congr line k.items l h) ∙ other

module _ {A S T : Type 0} where
  -- fewer connects wait
  AreWaitsNoted-filter : (keep : Waiting → Bool) (waits : List Waiting) (sets : KeySets (Vec ℕ A) S T) → AreWaitsNoted waits sets → AreWaitsNoted (filter keep waits) sets
  AreWaitsNoted-filter keep waits sets noted o line h = noted o line (any_filter (is_waiter_at o line) keep waits h)

  -- those that a bind fulfils went, and what is noted where the others wait stayed
  pub AreWaitsNoted-fulfilled : (at : Endpoint) (binding : Binding) (waits : List Waiting) (lists : Lists) (old new : KeySets (Vec ℕ A) S T) → AreLists waits lists
      → KeepsUnfulfilled at binding lists old new → AreWaitsNoted waits old → AreWaitsNoted (filter (λ w. not (is_fulfilled at binding w)) waits) new
  AreWaitsNoted-fulfilled at binding waits lists old new are keeps noted o l h =
      let others : Waiting → Bool = λ w. not (is_fulfilled at binding w) in
      keeps o l (ap (λ ws. list_any (is_waiter o) (filter others ws)) (are l) ∙ ap (list_any (is_waiter o)) (filter_swap others (stands_at l) waits)
      ∙ sym (any_and (is_waiter o) (stands_at l) (filter others waits)) ∙ h)
      ∙ AreWaitsNoted-filter others waits old noted o l h

  -- one key more went where the octets are these
  pub KeepsElsewhere-more : (object : ObjId) (line : List ℕ) (old now new : KeySets (Vec ℕ A) S T) → KeepsElsewhere line old now → KeepsUnder same_line object (is_line line) now new
      → KeepsElsewhere line old new
  KeepsElsewhere-more object line old now new keeps struck o l other = struck o (is_line l) (tests_lines l) (λ same. lines_apart line l other) ∙ keeps o l other

  -- a bind fulfils all that wait there
  pub KeepsUnfulfilled-all : (at : Endpoint) (binding : Binding) (line : List ℕ) (lists : Lists) (old new : KeySets (Vec ℕ A) S T)
      → list_all (is_fulfilled at binding) (list_at lists line) ≡ true → KeepsElsewhere line old new → KeepsUnfulfilled at binding lists old new
  KeepsUnfulfilled-all at binding line lists old new all keeps o l h = keeps o l (not_both (bytes_eq line l) (λ here.
      sym (ap (list_any (is_waiter o)) (none_others (is_fulfilled at binding) (list_at lists line) all))
      ∙ ap (λ q. list_any (is_waiter o) (filter (λ w. not (is_fulfilled at binding w)) (list_at lists q))) ((bytes_decides line l).0 here) ∙ h))

  -- a key more is noted
  pub AreWaitsNoted-noted : (waits : List Waiting) (object : ObjId) (line : Vec ℕ A) (old new : KeySets (Vec ℕ A) S T)
      → PutsUnder object (insert_key same_line (keys_under old object) line) old new → AreWaitsNoted waits old → AreWaitsNoted waits new
  AreWaitsNoted-noted waits object line old new puts noted o l h = noted_more lines_equiv object line old new puts o (is_line l) (noted o l h)

  -- and a connect more waits there
  pub AreWaitsNoted-more : (waits : List Waiting) (w : Waiting) (line : Vec ℕ A) (old new : KeySets (Vec ℕ A) S T) → line.items ≡ line_of w.at
      → PutsUnder w.waiter (insert_key same_line (keys_under old w.waiter) line) old new → AreWaitsNoted waits old → AreWaitsNoted (waits ++ w ∷ []) new
  AreWaitsNoted-more waits w line old new is puts noted o l h = by (list_any (is_waiter_at o l) waits) refl
    where
      one : list_any (is_waiter_at o l) waits ≡ false → is_waiter_at o l w ≡ true
      one = either (list_any (is_waiter_at o l) waits) (is_waiter_at o l w) (sym (any_last (is_waiter_at o l) waits w) ∙ h)

      both : (a b : Bool) → (a && b) ≡ true → (a ≡ true) × (b ≡ true)
      both true b h = (refl, h)
      both false b h = absurd (true≢false (sym h))

      by : (b : Bool) → list_any (is_waiter_at o l) waits ≡ b → list_any (is_line l) (keys_under new o) ≡ true
      by true h = AreWaitsNoted-noted waits w.waiter line old new puts noted o l h
      by false h =
          let met = both (is_waiter o w) (stands_at l w) (one h) in
          noted_there lines_equiv w.waiter line old new puts o met.0 (is_line l) (tests_lines l) (ap (bytes_eq l) is ∙ met.1)

  -- the first went, and what is noted where an object waits stayed
  pub AreWaitsNoted-first : (r : Waiting → Bool) (waits : List Waiting) (lists : Lists) (old new : KeySets (Vec ℕ A) S T) → AreLists (without_first r waits) lists
      → KeepsNoted lists old new → AreWaitsNoted waits old → AreWaitsNoted (without_first r waits) new
  AreWaitsNoted-first r waits lists old new are keeps noted o l h =
      keeps o l (ap (list_any (is_waiter o)) (are l) ∙ sym (any_and (is_waiter o) (stands_at l) (without_first r waits)) ∙ h)
      ∙ noted o l (any_first (is_waiter_at o l) r waits h)

  -- a key where the object doesn't wait may go
  pub KeepsNoted-struck : (object : ObjId) (line : List ℕ) (lists : Lists) (old new : KeySets (Vec ℕ A) S T) → list_any (is_waiter object) (list_at lists line) ≡ false
      → KeepsUnder same_line object (is_line line) old new → KeepsNoted lists old new
  KeepsNoted-struck object line lists old new none keeps o l waits = keeps o (is_line l) (tests_lines l) (λ same. lines_apart line l (not_both (bytes_eq line l) (there same)))
    where
      there : is_object object o ≡ true → bytes_eq line l ≡ true → false ≡ true
      there same here =
          sym none ∙ ap (λ q. list_any (is_waiter object) (list_at lists q)) ((bytes_decides line l).0 here)
          ∙ ap (λ n. let x : ObjId = record { 0 = n } in list_any (is_waiter x) (list_at lists l)) (eqb-true object.0 o.0 same) ∙ waits

  -- where an object waits is among what is noted under it
  pub IsAmongLines-noted : (object : ObjId) (waits : List Waiting) (lists : Lists) (sets : KeySets (Vec ℕ A) S T) → AreLists waits lists → AreWaitsNoted waits sets
      → IsAmongLines object (keys_under sets object) lists
  IsAmongLines-noted object waits lists sets are noted l h =
      noted object l (any_and (is_waiter object) (stands_at l) waits ∙ sym (ap (list_any (is_waiter object)) (are l)) ∙ h)

  -- the connects of an object went
  pub AreWaitsNoted-dropped : (object : ObjId) (waits : List Waiting) (old new : KeySets (Vec ℕ A) S T) → PutsUnder object [] old new → AreWaitsNoted waits old
      → AreWaitsNoted (filter (λ w. not (is_waiter object w)) waits) new
  AreWaitsNoted-dropped object waits old new puts noted o l h = by (is_object object o) refl (puts o)
    where
      others : Waiting → Bool
      others w = not (is_waiter object w)

      by : (b : Bool) → is_object object o ≡ b → keys_under new o ≡ cond b [] (keys_under old o) → list_any (is_line l) (keys_under new o) ≡ true
      by true same is =
          absurd (true≢false (sym h ∙ any_and (is_waiter o) (stands_at l) (filter others waits)
          ∙ not_both (list_any (is_waiter o) (filter (stands_at l) (filter others waits))) (λ found. sym (none_kept (is_waiter object) waits)
          ∙ ap (λ n. let x : ObjId = record { 0 = n } in list_any (is_waiter x) (filter others waits)) (eqb-true object.0 o.0 same)
          ∙ any_filter (is_waiter o) (stands_at l) (filter others waits) found)))
      by false other is = ap (list_any (is_line l)) is ∙ AreWaitsNoted-filter others waits old noted o l h

-- some of an object's connects went, and where it waits still is among these keys
pub record DropsSome {A : Type 0} (object : ObjId) (keys : List (Vec ℕ A)) (old new : Lists) : Type 0 where
  pub among : IsAmongLines object keys new
  pub others : (l : List ℕ) → filter (λ w. not (is_waiter object w)) (list_at new l) ≡ filter (λ w. not (is_waiter object w)) (list_at old l)

module _ {A : Type 0} where
  -- those at one key more went
  pub DropsSome-more : (object : ObjId) (keys rest : List (Vec ℕ A)) (key : Vec ℕ A) (old now new : Lists) → keys ≡ rest ++ key ∷ [] → DropsSome object keys old now
      → Sets key.items (filter (λ w. not (is_waiter object w)) (list_at now key.items)) now new → DropsSome object rest old new
  DropsSome-more object keys rest key old now new is some sets = record { among = among; others = λ l. by l (bytes_eq key.items l) refl (sets l) ∙ some.others l }
    where
      mine : Waiting → Bool
      mine w = is_waiter object w

      others : Waiting → Bool
      others w = not (is_waiter object w)

      by : (l : List ℕ) (b : Bool) → bytes_eq key.items l ≡ b → list_at new l ≡ cond b (filter others (list_at now key.items)) (list_at now l)
          → filter others (list_at new l) ≡ filter others (list_at now l)
      by l true same e =
          ap (filter others) e ∙ filter_within others others (λ x h. h) (list_at now key.items)
          ∙ ap (λ q. filter others (list_at now q)) ((bytes_decides key.items l).0 same)
      by l false other e = ap (filter others) e

      among : IsAmongLines object rest new
      among l h = from (bytes_eq key.items l) refl (sets l)
        where
          here : (a b : Bool) → (a || b) ≡ true → b ≡ false → a ≡ true
          here true b h other = refl
          here false b h other = absurd (true≢false (sym h ∙ other))

          from : (b : Bool) → bytes_eq key.items l ≡ b → list_at new l ≡ cond b (filter others (list_at now key.items)) (list_at now l) → list_any (is_line l) rest ≡ true
          from true same e = absurd (true≢false (sym h ∙ ap (list_any mine) e ∙ none_kept mine (list_at now key.items)))
          from false other e =
              here (list_any (is_line l) rest) (is_line l key)
              (sym (any_last (is_line l) rest key) ∙ ap (list_any (is_line l)) (sym is) ∙ some.among l (ap (list_any mine) (sym e) ∙ h))
              (nat_list_eq_equiv.symm l key.items ∙ other)

  -- where no key is left, all went
  pub DropsSome-all : (object : ObjId) (old new : Lists) → DropsSome {A = A} object [] old new → KeepOthers object old new
  DropsSome-all object old new some l = sym (all_kept (is_waiter object) (list_at new l) (not_both (list_any (is_waiter object) (list_at new l)) (some.among l))) ∙ some.others l

  -- where no key is noted, none of the object waits
  pub KeepOthers-none : (object : ObjId) (keys : List (Vec ℕ A)) (lists : Lists) → [] ≡ keys → IsAmongLines object keys lists → KeepOthers object lists lists
  KeepOthers-none object keys lists none among =
      DropsSome-all object lists lists (record { among = subst (λ ks. IsAmongLines object ks lists) (sym none) among; others = λ l. refl })
