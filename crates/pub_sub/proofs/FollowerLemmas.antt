-- All peers are told, one after the other.
use Rattle.std.proofs.Common.{◌≡◌, ◌∙◌, ◌+◌, ◌<◌, ◌≤◌, ℕ, zero, suc, Bool, true, false, cond, ◌&&◌, ◌||◌, List, [], ◌∷◌, ◌++◌, length, map, filter, get_or, set, remove, take, nat_eq, All, refl, sym, ap, subst, arith, add-one, append_assoc, length-append}
use Rattle.std.proofs.lemmas.List.{append-nil, map-append, take_more}
use Rattle.std.proofs.lemmas.List.Elements.{All-cons, All-head, All-tail, All-push, All-set, All-get_or, filter-append}
use Rattle.std.proofs.lemmas.List.Folds.{list_any-append}
use Rattle.std.specs.Cmp.{nat_eq_equiv}
use Rattle.std.specs.Map.{keys_of, remove_entry}
use Rattle.spec_pattern.specs.PipeStep.{PipeStep}
use Rattle.spec_pattern.specs.TurnList.{End}
use Rattle.spec_pattern.specs.Topics.{Topic, Subscribers, IsTopic}
use Rattle.spec_pattern.specs.Wanted.{Wanted}
use Rattle.spec_pattern.specs.Subscribing.{TellsWhere, TellsAll}
use Rattle.sub_table.specs.Telling.{IsKnown, WantsAlike}
use Rattle.pub_sub.specs.Places.{subs_at, is_place}
use Rattle.pub_sub.specs.Telling.{IsTelling, TellsAt, IsFollower, StaysFollower}
use Rattle.pub_sub.specs.Followers.{row_of, rows_of, places_of, StayFollowers, TellsRows, StopsRows, IsTellingAll, IsNoting}
use Rattle.pub_sub.specs.declared.follower.Follower.{Follower}

-- a list that has an element where its front ends, and what it is once that is written
record Split {A : Type 0} (before behind : List A) (x y : A) : Type 0 where
  pub rest : List A
  pub is : behind ≡ x ∷ rest
  pub written : set (before ++ behind) (length before) y ≡ before ++ y ∷ rest

split_at : {A : Type 0} (before behind : List A) (x y : A) → length before < length (before ++ behind) → x ≡ get_or (before ++ behind) (length before) x → Split before behind x y
split_at [] [] x y lt is = absurd (omega arith)
split_at [] (b ∷ bs) x y lt is = record { rest = bs; is = ap (λ z. z ∷ bs) (sym is); written = refl }
split_at (a ∷ l) behind x y lt is =
    let r = split_at l behind x y (omega arith) is in
    record { rest = r.rest; is = r.is; written = ap (λ m. a ∷ m) r.written }

-- what is written leaves what it leaves alone
pub map-written : {A B : Type 0} (f : A → B) (xs : List A) (i : ℕ) (x y : A) → i < length xs → x ≡ get_or xs i x → f y ≡ f x → map f (set xs i y) ≡ map f xs
map-written f [] i x y lt is same = absurd (omega arith)
map-written f (a ∷ l) zero x y lt is same = ap (λ z. z ∷ map f l) (same ∙ ap f is)
map-written f (a ∷ l) (suc i) x y lt is same = ap (λ m. f a ∷ m) (map-written f l i x y (omega arith) is same)

-- what holds of all is so of one
pub one_of : (P : ℕ → Type 0) (fs : List Follower) (i : ℕ) (x : Follower) → i < length fs → x ≡ get_or fs i x → All P (places_of fs) → P x.place
one_of P [] i x lt is all = absurd (omega arith)
one_of P (f ∷ fs) zero x lt is all = subst (λ (y : Follower). P y.place) (sym is) (All-head P f.place (places_of fs) all)
one_of P (f ∷ fs) (suc i) x lt is all = one_of P fs i x (omega arith) is (All-tail P f.place (places_of fs) all)

pub follows_one : (wanted : Wanted) (fs : List Follower) (i : ℕ) (x : Follower) → i < length fs → x ≡ get_or fs i x → All (IsFollower wanted) fs → IsFollower wanted x
follows_one wanted fs i x lt is all = subst (IsFollower wanted) (sym is) (All-get_or (IsFollower wanted) fs i x lt all)

-- nothing is left behind
pub whole : {A : Type 0} (xs before behind : List A) (i : ℕ) → xs ≡ before ++ behind → length before ≡ i → length xs ≤ i → xs ≡ before
whole {A = A} xs before behind i is count most = is ∙ by behind (ap length is) ∙ append-nil before
  where
    by : (bs : List A) → length xs ≡ length (before ++ bs) → before ++ bs ≡ before ++ []
    by [] e = refl
    by (b ∷ bs) e = absurd (let n : length (before ++ b ∷ bs) ≡ length before + suc (length bs) = length-append before (b ∷ bs) in omega arith)

-- all that is taken is all there is
pub take_all : {A : Type 0} (xs : List A) (i : ℕ) → length xs ≤ i → take i xs ≡ xs
take_all [] zero most = refl
take_all [] (suc i) most = refl
take_all (x ∷ xs) zero most = absurd (omega arith)
take_all (x ∷ xs) (suc i) most = ap (λ l. x ∷ l) (take_all xs i (omega arith))

-- one more peer is told
TellsAll-more : (can_write : End → Bool) (wanted : Wanted) (fs : Subscribers End) (steps : List PipeStep) (fs' : Subscribers End) (e : End) (told : List Topic) (one : List PipeStep) (told' : List Topic)
    → TellsAll can_write wanted fs steps fs' → TellsWhere (can_write e) wanted e told one told'
    → TellsAll can_write wanted (fs ++ (e, told) ∷ []) (steps ++ one) (fs' ++ (e, told') ∷ [])
TellsAll-more can_write wanted [] steps fs' e told one told' h w = (
  told',
  [],
  one,
  [],
  w,
  (refl, refl),
  ap (λ l. l ++ one) h.0 ∙ sym (append-nil one),
  ap (λ l. l ++ (e, told') ∷ []) h.1,
)
TellsAll-more can_write wanted (f ∷ fs) steps fs' e told one told' h w = (
  h.0,
  h.1 ++ (e, told') ∷ [],
  h.2,
  h.3 ++ one,
  h.4,
  TellsAll-more can_write wanted fs h.3 h.1 e told one told' h.5 w,
  ap (λ l. l ++ one) h.6 ∙ append_assoc h.2 h.3 one,
  ap (λ l. l ++ (e, told') ∷ []) h.7,
)

or_true : (b : Bool) → (b || true) ≡ true
or_true true = refl
or_true false = refl

keys-push : (rows : Subscribers ℕ) (place : ℕ) (told : List Topic) → keys_of (rows ++ (place, told) ∷ []) ≡ keys_of rows ++ place ∷ []
keys-push rows place told = map-append (λ (s : ℕ × List Topic). s.0) rows ((place, told) ∷ [])

there_before : (rows : Subscribers ℕ) (place : ℕ) (told : List Topic) (q : ℕ) → is_place (keys_of rows) q ≡ true → is_place (keys_of (rows ++ (place, told) ∷ [])) q ≡ true
there_before rows place told q in_ =
    ap (λ l. is_place l q) (keys-push rows place told) ∙ list_any-append (nat_eq q) (keys_of rows) (place ∷ []) ∙ ap (λ b. b || is_place (place ∷ []) q) in_

there_last : (rows : Subscribers ℕ) (place : ℕ) (told : List Topic) → is_place (keys_of (rows ++ (place, told) ∷ [])) place ≡ true
there_last rows place told =
    ap (λ l. is_place l place) (keys-push rows place told) ∙ list_any-append (nat_eq place) (keys_of rows) (place ∷ [])
    ∙ ap (λ b. is_place (keys_of rows) place || (b || false)) (nat_eq_equiv.refl place) ∙ or_true (is_place (keys_of rows) place)

module _ {S : Type 0} (runs : S → List PipeStep → S → Type 0) (ends : ℕ → End) (writable : ℕ → Bool) (wanted : Wanted) where
  -- no peer was told yet
  pub TellsRows-none : (s : S) → runs s [] s → TellsRows runs ends writable wanted s s [] []
  TellsRows-none s none = record { steps = []; runs_are = none; tells = λ can_write tells. (refl, refl) }

  pub IsTellingAll-none : (s : S) (fs : List Follower) → runs s [] s → IsTellingAll runs ends writable wanted s s fs fs 0
  IsTellingAll-none s fs none = record {
    before = [];
    before' = [];
    behind = fs;
    first_is = refl;
    now_is = refl;
    count_is = refl;
    tells = TellsRows-none s none;
  }

  -- telling stops at a peer
  pub StopsRows-at : (start now next : S) (first fs : List Follower) (i : ℕ) (x y : Follower) → i < length fs → x ≡ get_or fs i x → y.place ≡ x.place
      → IsTellingAll runs ends writable wanted start now first fs i → IsTelling runs ends now next wanted x.place x.told.told y.told.told
      → StopsRows runs ends writable wanted start next (rows_of first) (rows_of (set fs i y))
  StopsRows-at start now next first fs i x y lt is same h telling =
      let r = split_at h.before' h.behind x y (subst (λ n. n < length (h.before' ++ h.behind)) (sym h.count_is) (subst (λ l. i < length l) h.now_is lt))
      (subst (λ n. x ≡ get_or (h.before' ++ h.behind) n x) (sym h.count_is) (subst (λ l. x ≡ get_or l i x) h.now_is is)) in
      record {
        before = rows_of h.before;
        before' = rows_of h.before';
        place = x.place;
        told = x.told.told;
        told' = y.told.told;
        behind = rows_of r.rest;
        rows_are = ap rows_of (h.first_is ∙ ap (λ l. h.before ++ l) r.is) ∙ map-append row_of h.before (x ∷ r.rest);
        rows_new =
            ap rows_of ((λ j. set (h.now_is j) (sym h.count_is j) y) ∙ r.written) ∙ map-append row_of h.before' (y ∷ r.rest)
            ∙ ap (λ p. rows_of h.before' ++ (p, y.told.told) ∷ rows_of r.rest) same;
        mid = now;
        tells = h.tells;
        telling = telling;
      }

module _ {S : Type 0} (runs : S → List PipeStep → S → Type 0)
    (on : (s t u : S) (before after : List PipeStep) → runs s before t → runs t after u → runs s (before ++ after) u)
    (ends : ℕ → End) (writable : ℕ → Bool) (wanted : Wanted) (start now next : S) where
  -- one more peer was told
  TellsRows-more : (rows rows' : Subscribers ℕ) (place : ℕ) (told told' : List Topic) → TellsRows runs ends writable wanted start now rows rows' → TellsAt runs ends (writable place) now next wanted place told told'
      → TellsRows runs ends writable wanted start next (rows ++ (place, told) ∷ []) (rows' ++ (place, told') ∷ [])
  TellsRows-more rows rows' place told told' h one = record {
    steps = h.steps ++ one.steps;
    runs_are = on start now next h.steps one.steps h.runs_are one.runs_are;
    tells = λ can_write tells.
        subst (λ l. TellsAll can_write wanted l (h.steps ++ one.steps) (subs_at ends (rows' ++ (place, told') ∷ []))) (sym (map-append (λ (s : ℕ × List Topic). (ends s.0, s.1)) rows ((place, told) ∷ [])))
        (subst (TellsAll can_write wanted (subs_at ends rows ++ (ends place, told) ∷ []) (h.steps ++ one.steps)) (sym (map-append (λ (s : ℕ × List Topic). (ends s.0, s.1)) rows' ((place, told') ∷ [])))
        (TellsAll-more can_write wanted (subs_at ends rows) h.steps (subs_at ends rows') (ends place) told one.steps told'
        (h.tells can_write (λ p in_. tells p (there_before rows place told p in_)))
        (subst (λ b. TellsWhere b wanted (ends place) told one.steps told') (sym (tells place (there_last rows place told))) one.tells)));
  }

  pub IsTellingAll-more : (first fs : List Follower) (i : ℕ) (x y : Follower) → i < length fs → x ≡ get_or fs i x → y.place ≡ x.place
      → IsTellingAll runs ends writable wanted start now first fs i → TellsAt runs ends (writable x.place) now next wanted x.place x.told.told y.told.told
      → IsTellingAll runs ends writable wanted start next first (set fs i y) (i + 1)
  IsTellingAll-more first fs i x y lt is same h one =
      let r = split_at h.before' h.behind x y (subst (λ n. n < length (h.before' ++ h.behind)) (sym h.count_is) (subst (λ l. i < length l) h.now_is lt))
      (subst (λ n. x ≡ get_or (h.before' ++ h.behind) n x) (sym h.count_is) (subst (λ l. x ≡ get_or l i x) h.now_is is)) in
      record {
        before = h.before ++ x ∷ [];
        before' = h.before' ++ y ∷ [];
        behind = r.rest;
        first_is = h.first_is ∙ ap (λ l. h.before ++ l) r.is ∙ sym (append_assoc h.before (x ∷ []) r.rest);
        now_is = (λ j. set (h.now_is j) (sym h.count_is j) y) ∙ r.written ∙ sym (append_assoc h.before' (y ∷ []) r.rest);
        count_is = length-append h.before' (y ∷ []) ∙ ap (λ n. n + 1) h.count_is;
        tells =
            subst (λ l. TellsRows runs ends writable wanted start next l (rows_of (h.before' ++ y ∷ []))) (sym (map-append row_of h.before (x ∷ [])))
            (subst (TellsRows runs ends writable wanted start next (rows_of h.before ++ row_of x ∷ [])) (ap (λ p. rows_of h.before' ++ (p, y.told.told) ∷ []) (sym same) ∙ sym (map-append row_of h.before' (y ∷ [])))
            (TellsRows-more (rows_of h.before) (rows_of h.before') x.place x.told.told y.told.told h.tells one));
      }

-- a peer that was told follows as before
pub StayFollowers-written : (wanted : Wanted) (first fs : List Follower) (i : ℕ) (x y : Follower) → i < length fs → x ≡ get_or fs i x → StaysFollower wanted x y → StayFollowers wanted first fs
    → StayFollowers wanted first (set fs i y)
StayFollowers-written wanted first fs i x y lt is stays h = record {
  places_are = map-written (λ (f : Follower). f.place) fs i x y lt is stays.place_is ∙ h.places_are;
  follow = All-set (IsFollower wanted) fs i y stays.follows h.follow;
}

-- where both of two tests are met
pub both_true : (a b : Bool) → (a && b) ≡ true → (a ≡ true) × (b ≡ true)
both_true true b h = (refl, h)
both_true false b h = absurd (cc)

-- one more has nothing left to be told
told_next : (P : Follower → Type 0) (fs : List Follower) (i : ℕ) (y : Follower) → i < length fs → All P (take i fs) → P y → All P (take (suc i) (set fs i y))
told_next P [] i y lt all one = absurd (omega arith)
told_next P (f ∷ fs) zero y lt all one = All-push P [] y all one
told_next P (f ∷ fs) (suc i) y lt all one =
    All-cons P f (take (suc i) (set fs i y)) (All-head P f (take i fs) all) (told_next P fs i y (omega arith) (All-tail P f (take i fs) all) one)

pub told_more : (P : Follower → Type 0) (fs : List Follower) (i : ℕ) (y : Follower) → i < length fs → All P (take i fs) → P y → All P (take (i + 1) (set fs i y))
told_more P fs i y lt all one = subst (λ n. All P (take n (set fs i y))) (sym (add-one i)) (told_next P fs i y lt all one)

-- ---- noting

pub IsNoting-none : (topic : Topic) (fs : List Follower) → IsNoting topic fs fs 0
IsNoting-none topic fs = record {
  before = [];
  behind = fs;
  now_is = refl;
  count_is = refl;
  rows_are = refl;
  follow = λ v w alike short all. ((λ k d lt. absurd (omega arith)), all);
}

pub IsNoting-more : (topic : Topic) (first fs : List Follower) (i : ℕ) (x y : Follower) → i < length fs → x ≡ get_or fs i x → y.place ≡ x.place → y.told.told ≡ x.told.told
    → ((v w : Wanted) → WantsAlike topic v w → IsKnown v x.told → IsKnown w y.told) → IsNoting topic first fs i → IsNoting topic first (set fs i y) (i + 1)
IsNoting-more topic first fs i x y lt is place_is told_is known h =
    let r = split_at h.before h.behind x y (subst (λ n. n < length (h.before ++ h.behind)) (sym h.count_is) (subst (λ l. i < length l) h.now_is lt))
    (subst (λ n. x ≡ get_or (h.before ++ h.behind) n x) (sym h.count_is) (subst (λ l. x ≡ get_or l i x) h.now_is is)) in
    record {
      before = h.before ++ y ∷ [];
      behind = r.rest;
      now_is = (λ j. set (h.now_is j) (sym h.count_is j) y) ∙ r.written ∙ sym (append_assoc h.before (y ∷ []) r.rest);
      count_is = length-append h.before (y ∷ []) ∙ ap (λ n. n + 1) h.count_is;
      rows_are = map-written row_of fs i x y lt is (λ j. (place_is j, told_is j)) ∙ h.rows_are;
      follow = λ v w alike short all.
          let both = h.follow v w alike short all in
          let mine : All (IsFollower v) (x ∷ r.rest) = subst (All (IsFollower v)) r.is both.1 in
          let one = All-head (IsFollower v) x r.rest mine in (
            All-push (IsFollower w) h.before y both.0 (record {
              known = known v w alike one.known;
              wanted_are = short;
              told_are = subst (All IsTopic) (sym told_is) one.told_are;
            }),
            All-tail (IsFollower v) x r.rest mine,
          );
    }

-- ---- finding

-- the first peer at a place goes
pub row_goes : (place : ℕ) (fs : List Follower) (i : ℕ) (x : Follower) → i < length fs → x ≡ get_or fs i x → All (λ f. nat_eq place f.place ≡ false) (take i fs) → nat_eq place x.place ≡ true
    → remove_entry (nat_eq place) (rows_of fs) ≡ rows_of (remove fs i)
row_goes place [] i x lt is before here = absurd (omega arith)
row_goes place (f ∷ fs) zero x lt is before here =
    ap (λ b. cond b (rows_of fs) (row_of f ∷ remove_entry (nat_eq place) (rows_of fs))) (subst (λ (y : Follower). nat_eq place y.place ≡ true) is here)
row_goes place (f ∷ fs) (suc i) x lt is before here =
    ap (λ b. cond b (rows_of fs) (row_of f ∷ remove_entry (nat_eq place) (rows_of fs))) (All-head (λ (y : Follower). nat_eq place y.place ≡ false) f (take i fs) before)
    ∙ ap (λ l. row_of f ∷ l) (row_goes place fs i x (omega arith) is (All-tail (λ (y : Follower). nat_eq place y.place ≡ false) f (take i fs) before) here)

-- no peer is at a place
pub no_row : (place : ℕ) (fs : List Follower) → All (λ f. nat_eq place f.place ≡ false) fs → remove_entry (nat_eq place) (rows_of fs) ≡ rows_of fs
no_row place [] none = refl
no_row place (f ∷ fs) none =
    ap (λ b. cond b (rows_of fs) (row_of f ∷ remove_entry (nat_eq place) (rows_of fs))) (All-head (λ (y : Follower). nat_eq place y.place ≡ false) f fs none)
    ∙ ap (λ l. row_of f ∷ l) (no_row place fs (All-tail (λ (y : Follower). nat_eq place y.place ≡ false) f fs none))

-- the places of one peer more that pass a test
pub places-more : (test : ℕ → Bool) (fs : List Follower) (i : ℕ) (x : Follower) → i < length fs → x ≡ get_or fs i x
    → filter test (places_of (take i fs)) ++ filter test (x.place ∷ []) ≡ filter test (places_of (take (i + 1) fs))
places-more test fs i x within is =
    sym (filter-append test (places_of (take i fs)) (x.place ∷ []))
    ∙ ap (filter test) (sym (map-append (λ (f : Follower). f.place) (take i fs) (x ∷ []))
    ∙ ap places_of ((λ j. take i fs ++ is j ∷ []) ∙ sym (take_more fs i x within)))
