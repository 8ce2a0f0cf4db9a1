-- Lemmas on the seats of an actor.
use Rattle.std.proofs.Common.{◌≡◌, ◌≢◌, ◌≤◌, ◌<◌, ◌+◌, ℕ, zero, suc, List, [], ◌∷◌, ◌++◌, Bool, true, false, Option, Some, None, length, map, refl, sym, ap, subst, ◌∙◌, arith, true≢false}
use Rattle.std.specs.Prelude.{◌==◌, ◌||◌, not, filter, find, slice_get, slice_set, slice_index_or, nat_lt, if◌then◌else◌}
use Rattle.std.specs.List.{list_any, AllByRecursion}
use Rattle.std.proofs.lemmas.Bool.{eq-eqb, ne_eqb}
use Rattle.std.proofs.lemmas.List.{map-append}
use Rattle.std.proofs.lemmas.Option.{slice_get_read, slice_get_within}
use Rattle.zq_base.specs.declared.ids.ObjId.{ObjId}
use Rattle.spec_control.specs.OwnAsks.{is_none}
use Rattle.spec_run.specs.OpenSocket.{OpenSock}
use Rattle.spec_run.specs.Standing.{object_named, open_numbered}
use Rattle.zq_world.specs.Way.{KeepsOthers, KeepsAll}
use Rattle.zq_world.specs.Seats.{name_of, is_open, is_open_in, is_open_at, shut_before, has_open, stands_for, IsAlone, AreApart, socks_in, SeatAgrees, AllAgree}
use Rattle.zq_world.specs.Stepping.{LeavesOthers}
use Rattle.zq_world.specs.declared.seats.Seat.{Seat}
use Rattle.zq_world.specs.declared.seats.Seat.TheVariants as seat

or_false : (a b : Bool) → (a || b) ≡ false → (a ≡ false) × (b ≡ false)
or_false true b e = elim (true≢false e) [ ]
or_false false b e = (refl, e)

pub some_is : {X : Type 0} (x y : X) → ◌≡◌ {A = Option X} (Some x) (Some y) → x ≡ y
some_is x y e = cc

pub no_more : {X : Type 0} (x : X) → ◌≡◌ {A = Option X} None (Some x) → ⊥
no_more x e = cc

suc_is : (n : ℕ) → suc n ≡ n + 1
suc_is n = omega arith

suc_less : (n m : ℕ) → nat_lt n m ≡ nat_lt (n + 1) (suc m)
suc_less n m = grind arith

-- whether a list is empty, by its length
pub none_by_length : {X : Type 0} (xs : List X) → (length xs == 0) ≡ is_none xs
none_by_length [] = refl
none_by_length (x ∷ xs) = ne_eqb (suc (length xs)) 0 (λ e. omega (arith, e))

module _ {O : Type 0} where
  -- how many seats come before the first that is open
  pub shut_within : (seats : List (Seat O)) → shut_before seats ≤ length seats
  shut_within [] = omega arith
  shut_within (seat.Refused ∷ seats) = let h = shut_within seats in omega (arith, h)
  shut_within (seat.Closed object ∷ seats) = let h = shut_within seats in omega (arith, h)
  shut_within (seat.Open object socket ∷ seats) = omega arith

  pub shut_step : (seats : List (Seat O)) (k : ℕ) (x : Seat O) → slice_get seats k ≡ Some x → is_open x ≡ false → k ≤ shut_before seats → k + 1 ≤ shut_before seats
  shut_step [] k x e shut le = elim (no_more x e) [ ]
  shut_step (seat.Refused ∷ seats) zero x e shut le = omega arith
  shut_step (seat.Refused ∷ seats) (suc k) x e shut le = let h : k + 1 ≤ shut_before seats = shut_step seats k x e shut (omega (arith, le)) in omega (arith, h)
  shut_step (seat.Closed object ∷ seats) zero x e shut le = omega arith
  shut_step (seat.Closed object ∷ seats) (suc k) x e shut le = let h : k + 1 ≤ shut_before seats = shut_step seats k x e shut (omega (arith, le)) in omega (arith, h)
  shut_step (seat.Open object socket ∷ seats) zero x e shut le = elim (true≢false (ap is_open (some_is (seat.Open object socket) x e) ∙ shut)) [ ]
  shut_step (seat.Open object socket ∷ seats) (suc k) x e shut le = omega (arith, le)

  pub not_open : (x : Seat O) → ((object : ObjId) (socket : O) → x ≡ seat.Open object socket → ⊥) → is_open x ≡ false
  not_open seat.Refused not = refl
  not_open (seat.Closed object) not = refl
  not_open (seat.Open object socket) not = elim (not object socket refl) [ ]

  pub shut_open : (seats : List (Seat O)) (k : ℕ) (x : Seat O) → slice_get seats k ≡ Some x → is_open x ≡ true → shut_before seats ≤ k
  shut_open [] k x e opened = elim (no_more x e) [ ]
  shut_open (seat.Refused ∷ seats) zero x e opened = elim (true≢false (sym (ap is_open (some_is seat.Refused x e) ∙ opened))) [ ]
  shut_open (seat.Refused ∷ seats) (suc k) x e opened = let h : shut_before seats ≤ k = shut_open seats k x e opened in omega (arith, h)
  shut_open (seat.Closed object ∷ seats) zero x e opened = elim (true≢false (sym (ap is_open (some_is (seat.Closed object) x e) ∙ opened))) [ ]
  shut_open (seat.Closed object ∷ seats) (suc k) x e opened = let h : shut_before seats ≤ k = shut_open seats k x e opened in omega (arith, h)
  shut_open (seat.Open object socket ∷ seats) k x e opened = omega arith

  pub shut_push : (seats : List (Seat O)) (x : Seat O) → shut_before seats ≤ shut_before (seats ++ x ∷ [])
  shut_push [] x = omega arith
  shut_push (seat.Refused ∷ seats) x = let h = shut_push seats x in omega (arith, h)
  shut_push (seat.Closed object ∷ seats) x = let h = shut_push seats x in omega (arith, h)
  shut_push (seat.Open object socket ∷ seats) x = omega arith

  shut_more : (y : Seat O) (seats : List (Seat O)) → shut_before (y ∷ seats) ≤ shut_before seats + 1
  shut_more seat.Refused seats = omega arith
  shut_more (seat.Closed object) seats = omega arith
  shut_more (seat.Open object socket) seats = omega arith

  pub shut_closed : (seats : List (Seat O)) (k : ℕ) (x : Seat O) → is_open x ≡ false → shut_before seats ≤ shut_before (slice_set seats k x)
  shut_closed [] k x shut = omega arith
  shut_closed (y ∷ seats) zero seat.Refused shut = shut_more y seats
  shut_closed (y ∷ seats) zero (seat.Closed object) shut = shut_more y seats
  shut_closed (y ∷ seats) zero (seat.Open object socket) shut = elim (true≢false shut) [ ]
  shut_closed (seat.Refused ∷ seats) (suc k) x shut = let h = shut_closed seats k x shut in omega (arith, h)
  shut_closed (seat.Closed object ∷ seats) (suc k) x shut = let h = shut_closed seats k x shut in omega (arith, h)
  shut_closed (seat.Open object socket ∷ seats) (suc k) x shut = omega arith

  open_first : (y : Seat O) (seats : List (Seat O)) → is_open y ≡ true → shut_before (y ∷ seats) ≡ 0
  open_first seat.Refused seats opens = elim (true≢false (sym opens)) [ ]
  open_first (seat.Closed object) seats opens = elim (true≢false (sym opens)) [ ]
  open_first (seat.Open object socket) seats opens = refl

  pub shut_same : (seats : List (Seat O)) (k : ℕ) (x y : Seat O) → slice_get seats k ≡ Some x → is_open x ≡ true → is_open y ≡ true → shut_before (slice_set seats k y) ≡ shut_before seats
  shut_same [] k x y e opened opens = refl
  shut_same (z ∷ seats) zero x y e opened opens = open_first y seats opens ∙ sym (open_first z seats (ap is_open (some_is z x e) ∙ opened))
  shut_same (seat.Refused ∷ seats) (suc k) x y e opened opens = ap (λ n. n + 1) (shut_same seats k x y e opened opens)
  shut_same (seat.Closed object ∷ seats) (suc k) x y e opened opens = ap (λ n. n + 1) (shut_same seats k x y e opened opens)
  shut_same (seat.Open object socket ∷ seats) (suc k) x y e opened opens = refl

  pub has_open_is : (seats : List (Seat O)) → nat_lt (shut_before seats) (length seats) ≡ has_open seats
  has_open_is [] = refl
  has_open_is (seat.Refused ∷ seats) = sym (suc_less (shut_before seats) (length seats)) ∙ has_open_is seats
  has_open_is (seat.Closed object ∷ seats) = sym (suc_less (shut_before seats) (length seats)) ∙ has_open_is seats
  has_open_is (seat.Open object socket ∷ seats) = grind arith

  pub first_is_open : (seats : List (Seat O)) → has_open seats ≡ true → is_open_at seats (shut_before seats) ≡ true
  first_is_open [] some = elim (true≢false (sym some)) [ ]
  first_is_open (seat.Refused ∷ seats) some = subst (λ n. is_open_at (seat.Refused ∷ seats) n ≡ true) (suc_is (shut_before seats)) (first_is_open seats some)
  first_is_open (seat.Closed object ∷ seats) some = subst (λ n. is_open_at (seat.Closed object ∷ seats) n ≡ true) (suc_is (shut_before seats)) (first_is_open seats some)
  first_is_open (seat.Open object socket ∷ seats) some = refl

  -- what a place has once it was given something else
  pub set_twice : (xs : List (Seat O)) (k : ℕ) (x y : Seat O) → slice_set (slice_set xs k x) k y ≡ slice_set xs k y
  set_twice [] k x y = refl
  set_twice (z ∷ xs) zero x y = refl
  set_twice (z ∷ xs) (suc k) x y = ap (λ l. z ∷ l) (set_twice xs k x y)

  pub set_itself : (xs : List (Seat O)) (k : ℕ) (x : Seat O) → slice_get xs k ≡ Some x → slice_set xs k x ≡ xs
  set_itself [] k x e = refl
  set_itself (z ∷ xs) zero x e = ap (λ y. y ∷ xs) (sym (some_is z x e))
  set_itself (z ∷ xs) (suc k) x e = ap (λ l. z ∷ l) (set_itself xs k x e)

  -- an open seat as it is found at a place
  pub open_seat : (found : Option (Seat O)) → is_open_in found ≡ true → (object : ObjId) × (socket : O) × (found ≡ Some (seat.Open object socket))
  open_seat None opened = elim (true≢false (sym opened)) [ ]
  open_seat (Some seat.Refused) opened = elim (true≢false (sym opened)) [ ]
  open_seat (Some (seat.Closed object)) opened = elim (true≢false (sym opened)) [ ]
  open_seat (Some (seat.Open object socket)) opened = (object, socket, refl)

  -- names stay where a seat keeps its own
  pub names_set : (seats : List (Seat O)) (k : ℕ) (x y : Seat O) → slice_get seats k ≡ Some x → name_of y ≡ name_of x → map name_of (slice_set seats k y) ≡ map name_of seats
  names_set [] k x y e same = refl
  names_set (z ∷ seats) zero x y e same = ap (λ n. n ∷ map name_of seats) (same ∙ ap name_of (sym (some_is z x e)))
  names_set (z ∷ seats) (suc k) x y e same = ap (λ l. name_of z ∷ l) (names_set seats k x y e same)

  name_at : (seats : List (Seat O)) (k : ℕ) (x : Seat O) → slice_get seats k ≡ Some x → slice_get (map name_of seats) k ≡ Some (name_of x)
  name_at [] k x e = elim (no_more x e) [ ]
  name_at (z ∷ seats) zero x e = ap (λ y. Some (name_of y)) (some_is z x e)
  name_at (z ∷ seats) (suc k) x e = name_at seats k x e

  no_name_at : (seats : List (Seat O)) (k : ℕ) → slice_get seats k ≡ None → slice_get (map name_of seats) k ≡ None
  no_name_at [] k e = refl
  no_name_at (z ∷ seats) zero e = elim (no_more z (sym e)) [ ]
  no_name_at (z ∷ seats) (suc k) e = no_name_at seats k e

-- what an element that was read says of its place
pub read_at : {X : Type 0} (xs : List X) (k : ℕ) (x : X) → k < length xs → x ≡ slice_index_or xs k x → slice_get xs k ≡ Some x
read_at xs k x lt is = slice_get_read xs (length xs) k x refl lt is

-- an element that was read at an open place
pub open_read : {O : Type 0} (seats : List (Seat O)) (place : ℕ) (x : Seat O) → is_open_at seats place ≡ true → x ≡ slice_index_or seats place x → slice_get seats place ≡ Some x
open_read seats place x opened is =
    let here = open_seat (slice_get seats place) opened in
    read_at seats place x (slice_get_within seats place (seat.Open here.0 here.1) here.2) is

pub open_at_here : {O : Type 0} (place : ℕ) (items seats : List (Seat O)) (x : Seat O) (object : ObjId) (s : O) → items ≡ seats → is_open_at seats place ≡ true → x ≡ slice_index_or items place x → x ≡ seat.Open object s
    → slice_get items place ≡ Some (seat.Open object s)
open_at_here {O} place items seats x object s whole opened read is =
    open_read items place x (subst (λ (l : List (Seat O)). is_open_at l place ≡ true) (sym whole) opened) read ∙ ap (λ y. Some y) is

pub not_shut : {O : Type 0} (seats : List (Seat O)) (place : ℕ) (x : Seat O) → is_open_at seats place ≡ true → x ≡ slice_index_or seats place x → ((object : ObjId) (socket : O) → x ≡ seat.Open object socket → ⊥) → ⊥
not_shut seats place x opened is not = true≢false (sym opened ∙ (ap is_open_in (open_read seats place x opened is) ∙ not_open x not))

pub not_shut_in : {O : Type 0} (place : ℕ) (items seats : List (Seat O)) (x : Seat O) → items ≡ seats → is_open_at seats place ≡ true → x ≡ slice_index_or items place x
    → ((object : ObjId) (socket : O) → x ≡ seat.Open object socket → ⊥) → ⊥
not_shut_in {O} place items seats x whole opened read not =
    not_shut items place x (subst (λ (l : List (Seat O)). is_open_at l place ≡ true) (sym whole) opened) read not

-- a seat was added where room was kept
pub pushed_on : {X : Type 0} (items kept seats new : List X) (x : X) → kept ≡ items → items ≡ seats → new ≡ kept ++ x ∷ [] → new ≡ seats ++ x ∷ []
pushed_on items kept seats new x same whole pushed = pushed ∙ ap (λ l. l ++ x ∷ []) (same ∙ whole)

-- a name that stands alone is not that of another place
alone_at : (object : ℕ) (names : List (Option ℕ)) (k other : ℕ) → list_any (stands_for object) names ≡ false → slice_get names k ≡ Some (Some other) → object ≢ other
alone_at object [] k other alone e = λ same. no_more (Some other) e
alone_at object (n ∷ names) zero other alone e = λ same.
    true≢false (sym (eq-eqb object other same) ∙ (ap (stands_for object) (sym (some_is n (Some other) e)) ∙ (or_false (stands_for object n) (list_any (stands_for object) names) alone).0))
alone_at object (n ∷ names) (suc k) other alone e = alone_at object names k other (or_false (stands_for object n) (list_any (stands_for object) names) alone).1 e

any_push : {X : Type 0} (test : X → Bool) (xs : List X) (x : X) → list_any test xs ≡ false → test x ≡ false → list_any test (xs ++ x ∷ []) ≡ false
any_push test [] x none e = rw e refl
any_push test (y ∷ xs) x none e = let both = or_false (test y) (list_any test xs) none in rw both.0 (any_push test xs x both.1 e)

-- a further name, of an object that none stands for
pub apart_push : (names : List (Option ℕ)) (object : ℕ) → AreApart names → ((k : ℕ) → slice_get names k ≡ Some (Some object) → ⊥) → AreApart (names ++ Some object ∷ [])
apart_push [] object apart fresh = (refl, tt)
apart_push (None ∷ names) object apart fresh = (tt, apart_push names object apart.1 (λ k. fresh (suc k)))
apart_push (Some other ∷ names) object apart fresh =
    (any_push (stands_for other) names (Some object) apart.0 (ne_eqb other object (λ same. fresh 0 (ap (λ (o : ℕ). Some (Some o)) same))), apart_push names object apart.1 (λ k. fresh (suc k)))

pub apart_none : (names : List (Option ℕ)) → AreApart names → AreApart (names ++ None ∷ [])
apart_none [] apart = (tt, tt)
apart_none (None ∷ names) apart = (tt, apart_none names apart.1)
apart_none (Some other ∷ names) apart = (any_push (stands_for other) names None apart.0 refl, apart_none names apart.1)

-- sockets none of which has this number
abbrev HaveNot : ℕ → List OpenSock → Type 0
HaveNot object xs = AllByRecursion (λ (x : OpenSock). (x.object == object) ≡ false) xs

find_none : (object : ℕ) (xs : List OpenSock) → HaveNot object xs → find (λ (s : OpenSock). s.object == object) xs ≡ None
find_none object [] none = refl
find_none object (x ∷ xs) none = rw none.0 (find_none object xs none.1)

map_none : (y : OpenSock) (xs : List OpenSock) → HaveNot y.object xs → map (λ (old : OpenSock). if old.object == y.object then y else old) xs ≡ xs
map_none y [] none = refl
map_none y (x ∷ xs) none = rw none.0 (ap (λ l. x ∷ l) (map_none y xs none.1))

filter_none : (object : ℕ) (xs : List OpenSock) → HaveNot object xs → filter (λ (s : OpenSock). not (s.object == object)) xs ≡ xs
filter_none object [] none = refl
filter_none object (x ∷ xs) none = rw none.0 (ap (λ l. x ∷ l) (filter_none object xs none.1))

module _ {O : Type 0} (as_open : O → OpenSock) where
  -- each open socket has the number of its seat
  abbrev pub Fits : Seat O → Type 0
  Fits seat.Refused = Unit {0}
  Fits (seat.Closed object) = Unit {0}
  Fits (seat.Open object socket) = (as_open socket).object ≡ object.0

  abbrev pub open_in : Option (Seat O) → Option OpenSock
  open_in None = None
  open_in (Some seat.Refused) = None
  open_in (Some (seat.Closed object)) = None
  open_in (Some (seat.Open object socket)) = Some (as_open socket)

  have_not : (object : ℕ) (seats : List (Seat O)) → AllByRecursion Fits seats → list_any (stands_for object) (map name_of seats) ≡ false → HaveNot object (socks_in as_open seats)
  have_not object [] fit alone = tt
  have_not object (seat.Refused ∷ seats) fit alone = have_not object seats fit.1 alone
  have_not object (seat.Closed other ∷ seats) fit alone = have_not object seats fit.1 (or_false (object == other.0) _ alone).1
  have_not object (seat.Open other socket ∷ seats) fit alone =
      (ne_eqb (as_open socket).object object (λ same. true≢false (sym (eq-eqb object other.0 (sym same ∙ fit.0)) ∙ (or_false (object == other.0) _ alone).0)), have_not object seats fit.1 (or_false (object == other.0) _ alone).1)

  open_here : (x : Seat O) (seats : List (Seat O)) → Fits x → AllByRecursion Fits seats → IsAlone (name_of x) (map name_of seats)
      → open_numbered (object_named (Some (name_of x))) (socks_in as_open (x ∷ seats)) ≡ open_in (Some x)
  open_here seat.Refused seats fit fits alone = refl
  open_here (seat.Closed object) seats fit fits alone = find_none object.0 (socks_in as_open seats) (have_not object.0 seats fits alone)
  open_here (seat.Open object socket) seats fit fits alone = rw (eq-eqb (as_open socket).object object.0 fit) refl

  open_later : (x : Seat O) (seats : List (Seat O)) (n : Option ℕ) → Fits x → ((object : ℕ) → n ≡ Some object → (other : ℕ) → name_of x ≡ Some other → other ≢ object)
      → open_numbered n (socks_in as_open (x ∷ seats)) ≡ open_numbered n (socks_in as_open seats)
  open_later seat.Refused seats n fit apart = refl
  open_later (seat.Closed object) seats n fit apart = refl
  open_later (seat.Open object socket) seats None fit apart = refl
  open_later (seat.Open object socket) seats (Some other) fit apart = rw (ne_eqb (as_open socket).object other (λ same. apart other refl object.0 refl (sym fit ∙ same))) refl

  named_in : (found : Option (Option ℕ)) (object : ℕ) → object_named found ≡ Some object → found ≡ Some (Some object)
  named_in None object e = elim (no_more object e) [ ]
  named_in (Some n) object e = ap (λ m. Some m) e

  else_named : (x : Seat O) (names : List (Option ℕ)) (k : ℕ) → IsAlone (name_of x) names → (object : ℕ) → object_named (slice_get names k) ≡ Some object → (other : ℕ) → name_of x ≡ Some other → other ≢ object
  else_named x names k alone object e other is = alone_at other names k object (subst (λ n. IsAlone n names) is alone) (named_in (slice_get names k) object e)

  -- the open socket that the name of a place stands for is that of its seat
  pub open_found : (seats : List (Seat O)) (k : ℕ) → AllByRecursion Fits seats → AreApart (map name_of seats)
      → open_numbered (object_named (slice_get (map name_of seats) k)) (socks_in as_open seats) ≡ open_in (slice_get seats k)
  open_found [] k fit apart = refl
  open_found (x ∷ seats) zero fit apart = open_here x seats fit.0 fit.1 apart.0
  open_found (x ∷ seats) (suc k) fit apart =
      open_later x seats (object_named (slice_get (map name_of seats) k)) fit.0 (else_named x (map name_of seats) k apart.0) ∙ open_found seats k fit.1 apart.1

  -- a socket changes in its seat
  pub with_at : (seats : List (Seat O)) (k : ℕ) (object : ObjId) (s t : O) → slice_get seats k ≡ Some (seat.Open object s) → AllByRecursion Fits seats → AreApart (map name_of seats)
      → (as_open t).object ≡ object.0 → socks_in as_open (slice_set seats k (seat.Open object t)) ≡ map (λ (old : OpenSock). if old.object == (as_open t).object then as_open t else old) (socks_in as_open seats)
  with_at [] k object s t e fit apart same = refl
  with_at (x ∷ seats) zero object s t e fit apart same =
      subst (λ (y : Seat O). Fits y → IsAlone (name_of y) (map name_of seats) → as_open t ∷ socks_in as_open seats ≡ map (λ (old : OpenSock). if old.object == (as_open t).object then as_open t else old) (socks_in as_open (y ∷ seats)))
      (sym (some_is x (seat.Open object s) e))
      (λ fits alone. rw (eq-eqb (as_open s).object (as_open t).object (fits ∙ sym same))
      (ap (λ l. as_open t ∷ l) (sym (map_none (as_open t) (socks_in as_open seats) (have_not (as_open t).object seats fit.1 (subst (λ n. list_any (stands_for n) (map name_of seats) ≡ false) (sym same) alone))))))
      fit.0 apart.0
  with_at (seat.Refused ∷ seats) (suc k) object s t e fit apart same = with_at seats k object s t e fit.1 apart.1 same
  with_at (seat.Closed other ∷ seats) (suc k) object s t e fit apart same = with_at seats k object s t e fit.1 apart.1 same
  with_at (seat.Open other r ∷ seats) (suc k) object s t e fit apart same =
      rw (ne_eqb (as_open r).object (as_open t).object (λ one. alone_at other.0 (map name_of seats) k object.0 apart.0 (name_at seats k (seat.Open object s) e) (sym fit.0 ∙ (one ∙ same))))
      (ap (λ l. as_open r ∷ l) (with_at seats k object s t e fit.1 apart.1 same))

  pub fit_at : (seats : List (Seat O)) (k : ℕ) (object : ObjId) (s : O) → slice_get seats k ≡ Some (seat.Open object s) → AllByRecursion Fits seats → (as_open s).object ≡ object.0
  fit_at [] k object s e fit = elim (no_more (seat.Open object s) e) [ ]
  fit_at (x ∷ seats) zero object s e fit = subst Fits (some_is x (seat.Open object s) e) fit.0
  fit_at (x ∷ seats) (suc k) object s e fit = fit_at seats k object s e fit.1

  -- a socket leaves its seat
  pub without_at : (seats : List (Seat O)) (k : ℕ) (object : ObjId) (s : O) → slice_get seats k ≡ Some (seat.Open object s) → AllByRecursion Fits seats → AreApart (map name_of seats)
      → socks_in as_open (slice_set seats k (seat.Closed object)) ≡ filter (λ (x : OpenSock). not (x.object == (as_open s).object)) (socks_in as_open seats)
  without_at [] k object s e fit apart = refl
  without_at (x ∷ seats) zero object s e fit apart =
      subst (λ (y : Seat O). Fits y → IsAlone (name_of y) (map name_of seats) → socks_in as_open seats ≡ filter (λ (z : OpenSock). not (z.object == (as_open s).object)) (socks_in as_open (y ∷ seats)))
      (sym (some_is x (seat.Open object s) e))
      (λ fits alone. rw (eq-eqb (as_open s).object (as_open s).object refl)
      (sym (filter_none (as_open s).object (socks_in as_open seats) (have_not (as_open s).object seats fit.1 (subst (λ n. list_any (stands_for n) (map name_of seats) ≡ false) (sym fits) alone)))))
      fit.0 apart.0
  without_at (seat.Refused ∷ seats) (suc k) object s e fit apart = without_at seats k object s e fit.1 apart.1
  without_at (seat.Closed other ∷ seats) (suc k) object s e fit apart = without_at seats k object s e fit.1 apart.1
  without_at (seat.Open other r ∷ seats) (suc k) object s e fit apart =
      rw (ne_eqb (as_open r).object (as_open s).object (λ one. alone_at other.0 (map name_of seats) k object.0 apart.0 (name_at seats k (seat.Open object s) e) (sym fit.0 ∙ (one ∙ fit_at seats k object s e fit.1))))
      (ap (λ l. as_open r ∷ l) (without_at seats k object s e fit.1 apart.1))

  -- one seat more
  pub socks_push : (seats : List (Seat O)) (x : Seat O) → socks_in as_open (seats ++ x ∷ []) ≡ socks_in as_open seats ++ socks_in as_open (x ∷ [])
  socks_push [] x = refl
  socks_push (seat.Refused ∷ seats) x = socks_push seats x
  socks_push (seat.Closed object ∷ seats) x = socks_push seats x
  socks_push (seat.Open object socket ∷ seats) x = ap (λ l. as_open socket ∷ l) (socks_push seats x)

  -- no socket is open where no seat is
  pub none_open : (seats : List (Seat O)) → is_none (socks_in as_open seats) ≡ not (has_open seats)
  none_open [] = refl
  none_open (seat.Refused ∷ seats) = none_open seats
  none_open (seat.Closed object ∷ seats) = none_open seats
  none_open (seat.Open object socket ∷ seats) = refl

  opens_same : (a b : ObjId) (r s : O) → ◌≡◌ {A = Seat O} (seat.Open a r) (seat.Open b s) → r ≡ s
  opens_same a b r s e = cc

  opens : (a b : ObjId) (r s : O) → ◌≡◌ {A = Seat O} (seat.Open a r) (seat.Open b s) → as_open r ≡ as_open s
  opens a b r s e = ap as_open (opens_same a b r s e)

  -- the first open seat has the first socket
  pub first_sock : (seats : List (Seat O)) (object : ObjId) (s : O) → slice_get seats (shut_before seats) ≡ Some (seat.Open object s)
      → (rest : List OpenSock) × (socks_in as_open seats ≡ as_open s ∷ rest)
  first_sock [] object s e = elim (no_more (seat.Open object s) e) [ ]
  first_sock (seat.Refused ∷ seats) object s e = first_sock seats object s (subst (λ n. slice_get (seat.Refused ∷ seats) n ≡ Some (seat.Open object s)) (sym (suc_is (shut_before seats))) e)
  first_sock (seat.Closed other ∷ seats) object s e = first_sock seats object s (subst (λ n. slice_get (seat.Closed other ∷ seats) n ≡ Some (seat.Open object s)) (sym (suc_is (shut_before seats))) e)
  first_sock (seat.Open other r ∷ seats) object s e = (socks_in as_open seats, ap (λ l. l ∷ socks_in as_open seats) (opens other object r s (some_is (seat.Open other r) (seat.Open object s) e)))

module _ {W O : Type 0} (as_open : O → OpenSock) (agrees : W → ℕ → O → Type 0) (was_made : W → ℕ → Type 0) where
  -- the sockets of other callers agree still
  pub others_left : (caller object : ℕ) (old new : W) → KeepsOthers as_open agrees was_made caller object old new → LeavesOthers agrees was_made caller old new
  others_left caller object old new keeps = record {
    sockets = λ k s other h. keeps.sockets k s h (λ same. elim (other same) [ ]);
    numbers = keeps.numbers;
  }

  fits_so : (way : W) (caller : ℕ) (x : Seat O) → SeatAgrees as_open agrees was_made way caller x → Fits as_open x
  fits_so way caller seat.Refused h = tt
  fits_so way caller (seat.Closed object) h = tt
  fits_so way caller (seat.Open object socket) h = h.1.1

  pub all_fit : (way : W) (caller : ℕ) (seats : List (Seat O)) → AllByRecursion (SeatAgrees as_open agrees was_made way caller) seats → AllByRecursion (Fits as_open) seats
  all_fit way caller [] h = tt
  all_fit way caller (x ∷ seats) h = (fits_so way caller x h.0, all_fit way caller seats h.1)

  -- seats of other objects agree still
  seat_stays : (caller object : ℕ) (old new : W) (x : Seat O) → KeepsOthers as_open agrees was_made caller object old new → ((other : ℕ) → name_of x ≡ Some other → other ≢ object)
      → SeatAgrees as_open agrees was_made old caller x → SeatAgrees as_open agrees was_made new caller x
  seat_stays caller object old new seat.Refused keeps other h = tt
  seat_stays caller object old new (seat.Closed o) keeps other h = keeps.numbers o.0 h
  seat_stays caller object old new (seat.Open o s) keeps other h = (keeps.numbers o.0 h.0, (keeps.sockets caller s h.1.0 (λ mine same. other o.0 refl (sym h.1.1 ∙ same)), h.1.1))

  not_among : (object : ℕ) (x : Seat O) (seats : List (Seat O)) → list_any (stands_for object) (map name_of (x ∷ seats)) ≡ false → (other : ℕ) → name_of x ≡ Some other → other ≢ object
  not_among object x seats alone other is same =
      true≢false (sym (ap (stands_for object) is ∙ eq-eqb object other (sym same)) ∙ (or_false (stands_for object (name_of x)) _ alone).0)

  seats_stay : (caller object : ℕ) (old new : W) (seats : List (Seat O)) → KeepsOthers as_open agrees was_made caller object old new → list_any (stands_for object) (map name_of seats) ≡ false
      → AllByRecursion (SeatAgrees as_open agrees was_made old caller) seats → AllByRecursion (SeatAgrees as_open agrees was_made new caller) seats
  seats_stay caller object old new [] keeps alone h = tt
  seats_stay caller object old new (x ∷ seats) keeps alone h =
      (seat_stays caller object old new x keeps (not_among object x seats alone) h.0, seats_stay caller object old new seats keeps (or_false (stands_for object (name_of x)) _ alone).1 h.1)

  agree_at : (caller : ℕ) (object : ObjId) (old new : W) (seats : List (Seat O)) (k : ℕ) (s : O) (y : Seat O) → KeepsOthers as_open agrees was_made caller object.0 old new
      → slice_get seats k ≡ Some (seat.Open object s) → AreApart (map name_of seats) → SeatAgrees as_open agrees was_made new caller y
      → AllByRecursion (SeatAgrees as_open agrees was_made old caller) seats → AllByRecursion (SeatAgrees as_open agrees was_made new caller) (slice_set seats k y)
  agree_at caller object old new [] k s y keeps e apart now h = elim (no_more (seat.Open object s) e) [ ]
  agree_at caller object old new (x ∷ seats) zero s y keeps e apart now h =
      (now, seats_stay caller object.0 old new seats keeps (subst (λ n. IsAlone n (map name_of seats)) (ap name_of (some_is x (seat.Open object s) e)) apart.0) h.1)
  agree_at caller object old new (x ∷ seats) (suc k) s y keeps e apart now h = (
    seat_stays caller object.0 old new x keeps (λ other is. alone_at other (map name_of seats) k object.0 (subst (λ n. IsAlone n (map name_of seats)) is apart.0) (name_at seats k (seat.Open object s) e)) h.0,
    agree_at caller object old new seats k s y keeps e apart.1 now h.1,
  )

  -- one seat is another, of the same name
  pub agrees_at : (caller : ℕ) (object : ObjId) (old new : W) (seats : List (Seat O)) (k : ℕ) (s : O) (y : Seat O) → KeepsOthers as_open agrees was_made caller object.0 old new
      → slice_get seats k ≡ Some (seat.Open object s) → name_of y ≡ Some object.0 → SeatAgrees as_open agrees was_made new caller y
      → AllAgree as_open agrees was_made old caller seats → AllAgree as_open agrees was_made new caller (slice_set seats k y)
  agrees_at caller object old new seats k s y keeps e named now all = record {
    agree = agree_at caller object old new seats k s y keeps e all.apart now all.agree;
    apart = subst AreApart (sym (names_set seats k (seat.Open object s) y e named)) all.apart;
  }

  one_more : (way : W) (caller : ℕ) (seats : List (Seat O)) (y : Seat O) → AllByRecursion (SeatAgrees as_open agrees was_made way caller) seats → SeatAgrees as_open agrees was_made way caller y
      → AllByRecursion (SeatAgrees as_open agrees was_made way caller) (seats ++ y ∷ [])
  one_more way caller [] y h now = (now, tt)
  one_more way caller (x ∷ seats) y h now = (h.0, one_more way caller seats y h.1 now)

  seat_kept : (caller : ℕ) (old new : W) (x : Seat O) → KeepsAll agrees was_made old new → SeatAgrees as_open agrees was_made old caller x → SeatAgrees as_open agrees was_made new caller x
  seat_kept caller old new seat.Refused keeps h = tt
  seat_kept caller old new (seat.Closed o) keeps h = keeps.numbers o.0 h
  seat_kept caller old new (seat.Open o s) keeps h = (keeps.numbers o.0 h.0, (keeps.sockets caller s h.1.0, h.1.1))

  seats_kept : (caller : ℕ) (old new : W) (seats : List (Seat O)) → KeepsAll agrees was_made old new
      → AllByRecursion (SeatAgrees as_open agrees was_made old caller) seats → AllByRecursion (SeatAgrees as_open agrees was_made new caller) seats
  seats_kept caller old new [] keeps h = tt
  seats_kept caller old new (x ∷ seats) keeps h = (seat_kept caller old new x keeps h.0, seats_kept caller old new seats keeps h.1)

  pub all_kept : (caller : ℕ) (old new : W) (seats : List (Seat O)) → KeepsAll agrees was_made old new → AllAgree as_open agrees was_made old caller seats → AllAgree as_open agrees was_made new caller seats
  all_kept caller old new seats keeps all = record { agree = seats_kept caller old new seats keeps all.agree; apart = all.apart }

  seat_left : (w caller : ℕ) (old new : W) (x : Seat O) → (caller ≢ w) → LeavesOthers agrees was_made w old new → SeatAgrees as_open agrees was_made old caller x → SeatAgrees as_open agrees was_made new caller x
  seat_left w caller old new seat.Refused ne others h = tt
  seat_left w caller old new (seat.Closed o) ne others h = others.numbers o.0 h
  seat_left w caller old new (seat.Open o s) ne others h = (others.numbers o.0 h.0, (others.sockets caller s ne h.1.0, h.1.1))

  seats_left : (w caller : ℕ) (old new : W) (seats : List (Seat O)) → (caller ≢ w) → LeavesOthers agrees was_made w old new
      → AllByRecursion (SeatAgrees as_open agrees was_made old caller) seats → AllByRecursion (SeatAgrees as_open agrees was_made new caller) seats
  seats_left w caller old new [] ne others h = tt
  seats_left w caller old new (x ∷ seats) ne others h = (seat_left w caller old new x ne others h.0, seats_left w caller old new seats ne others h.1)

  -- another caller's call leaves them
  pub all_left : (w caller : ℕ) (old new : W) (seats : List (Seat O)) → (caller ≢ w) → LeavesOthers agrees was_made w old new → AllAgree as_open agrees was_made old caller seats → AllAgree as_open agrees was_made new caller seats
  all_left w caller old new seats ne others all = record { agree = seats_left w caller old new seats ne others all.agree; apart = all.apart }

  seat_made : (way : W) (caller : ℕ) (x : Seat O) (object : ℕ) → SeatAgrees as_open agrees was_made way caller x → name_of x ≡ Some object → was_made way object
  seat_made way caller seat.Refused object h e = elim (no_more object e) [ ]
  seat_made way caller (seat.Closed o) object h e = subst (was_made way) (some_is o.0 object e) h
  seat_made way caller (seat.Open o s) object h e = subst (was_made way) (some_is o.0 object e) h.0

  named_made : (way : W) (caller : ℕ) (seats : List (Seat O)) (k object : ℕ) → AllByRecursion (SeatAgrees as_open agrees was_made way caller) seats → slice_get (map name_of seats) k ≡ Some (Some object) → was_made way object
  named_made way caller [] k object h e = elim (no_more (Some object) e) [ ]
  named_made way caller (x ∷ seats) zero object h e = seat_made way caller x object h.0 (some_is (name_of x) (Some object) e)
  named_made way caller (x ∷ seats) (suc k) object h e = named_made way caller seats k object h.1 e

  pub open_made : (way : W) (caller : ℕ) (seats : List (Seat O)) (k : ℕ) (object : ObjId) (s : O) → slice_get seats k ≡ Some (seat.Open object s)
      → AllByRecursion (SeatAgrees as_open agrees was_made way caller) seats → was_made way object.0
  open_made way caller seats k object s e h = named_made way caller seats k object.0 h (name_at seats k (seat.Open object s) e)

  -- a seat more, of an object that none had
  pub all_with : (caller : ℕ) (old new : W) (seats : List (Seat O)) (object : ObjId) (s : O) → KeepsAll agrees was_made old new → (was_made old object.0 → ⊥)
      → was_made new object.0 → agrees new caller s → (as_open s).object ≡ object.0 → AllAgree as_open agrees was_made old caller seats
      → AllAgree as_open agrees was_made new caller (seats ++ seat.Open object s ∷ [])
  all_with caller old new seats object s keeps fresh now agree same all = record {
    agree = one_more new caller seats (seat.Open object s) (seats_kept caller old new seats keeps all.agree) (now, (agree, same));
    apart = subst AreApart (sym (map-append name_of seats (seat.Open object s ∷ [])))
        (apart_push (map name_of seats) object.0 all.apart (λ k e. fresh (named_made old caller seats k object.0 all.agree e)));
  }

  pub all_refused : (caller : ℕ) (old new : W) (seats : List (Seat O)) → KeepsAll agrees was_made old new → AllAgree as_open agrees was_made old caller seats
      → AllAgree as_open agrees was_made new caller (seats ++ seat.Refused ∷ [])
  all_refused caller old new seats keeps all = record {
    agree = one_more new caller seats seat.Refused (seats_kept caller old new seats keeps all.agree) tt;
    apart = subst AreApart (sym (map-append name_of seats (seat.Refused ∷ []))) (apart_none (map name_of seats) all.apart);
  }
