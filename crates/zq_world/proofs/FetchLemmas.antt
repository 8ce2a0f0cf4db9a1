-- A letter is taken for the first open socket with a mailbox.
use Rattle.std.proofs.Common.{◌≡◌, ◌≤◌, ◌+◌, ℕ, zero, suc, List, [], ◌∷◌, Bool, true, false, Option, Some, None, drop, length, refl, sym, ap, subst, ◌∙◌, arith, true≢false}
use Rattle.std.specs.Prelude.{◌==◌, ◌||◌, cond, find, slice_get, slice_set, slice_index_or}
use Rattle.std.proofs.lemmas.Bool.{eqb-true}
use Rattle.std.proofs.lemmas.List.{drop_all}
use Rattle.zq_base.specs.declared.ids.ObjId.{ObjId}
use Rattle.spec_run.specs.Event.{TakesLetter}
use Rattle.spec_run.specs.OpenSocket.{OpenSock}
use Rattle.zq_world.specs.Piece.{Piece}
use Rattle.spec_run.specs.Standing.{Sockets}
use Rattle.zq_world.specs.Seats.{is_open_in, is_open_at, socks_in, sockets_of, AllAgree}
use Rattle.zq_world.specs.Stepping.{standing_of}
use Rattle.zq_world.specs.Taking.{has_slot, seat_has, IsFirstWith, FetchesLetter, FetchesAt, FetchesSo}
use Rattle.zq_world.specs.declared.seats.Seat.{Seat}
use Rattle.zq_world.specs.declared.seats.Seat.TheVariants as seat
use Rattle.zq_world.specs.declared.actor.Actor.{Actor}
use Rattle.zq_world.proofs.SeatLemmas.{some_is, no_more, all_fit, fit_at, open_at_here}
use Rattle.zq_world.proofs.LineLemmas.{with_seat}

-- what is left from a place on
pub drop_here : {X : Type 0} (xs : List X) (k : ℕ) (x : X) → slice_get xs k ≡ Some x → drop k xs ≡ x ∷ drop (suc k) xs
drop_here [] k x e = absurd (no_more x e)
drop_here (z ∷ xs) zero x e = ap (λ y. y ∷ xs) (some_is z x e)
drop_here (z ∷ xs) (suc k) x e = drop_here xs k x e

-- the first socket with a mailbox, if there is one
abbrev pub first_with : ℕ → List OpenSock → Option OpenSock
first_with slot socks = find (λ s. s.slot == slot) socks

pub none_has : (slot : ℕ) (socks : List OpenSock) → first_with slot socks ≡ None → has_slot slot socks ≡ false
none_has slot [] e = refl
none_has slot (s ∷ socks) e = by (s.slot == slot) refl (λ h. none_has slot socks h)
  where
    by : (b : Bool) → (s.slot == slot) ≡ b → (first_with slot socks ≡ None → has_slot slot socks ≡ false) → has_slot slot (s ∷ socks) ≡ false
    by true f rest = absurd (no_more s (sym (subst (λ (b : Bool). cond b (Some s) (first_with slot socks) ≡ None) f e)))
    by false f rest = ap (λ (b : Bool). b || has_slot slot socks) f ∙ rest (subst (λ (b : Bool). cond b (Some s) (first_with slot socks) ≡ None) f e)

pub one_has : (slot : ℕ) (socks : List OpenSock) (x : OpenSock) → first_with slot socks ≡ Some x → has_slot slot socks ≡ true
one_has slot [] x e = absurd (no_more x e)
one_has slot (s ∷ socks) x e = by (s.slot == slot) refl (λ h. one_has slot socks x h)
  where
    or_so : (a b : Bool) → b ≡ true → (a || b) ≡ true
    or_so true b h = refl
    or_so false b h = h

    by : (b : Bool) → (s.slot == slot) ≡ b → (first_with slot socks ≡ Some x → has_slot slot socks ≡ true) → has_slot slot (s ∷ socks) ≡ true
    by true f rest = ap (λ (b : Bool). b || has_slot slot socks) f
    by false f rest = or_so (s.slot == slot) (has_slot slot socks) (rest (subst (λ (b : Bool). cond b (Some s) (first_with slot socks) ≡ Some x) f e))

module _ {O : Type 0} (as_open : O → OpenSock) where
  -- no seat before this place has a socket with the mailbox
  abbrev pub IsPassed : (slot place : ℕ) → List (Seat O) → Type 0
  IsPassed slot place seats = first_with slot (socks_in as_open (drop place seats)) ≡ first_with slot (socks_in as_open seats)

  pass_seat : (slot : ℕ) (x : Seat O) (seats : List (Seat O)) → seat_has as_open slot x ≡ false → first_with slot (socks_in as_open (x ∷ seats)) ≡ first_with slot (socks_in as_open seats)
  pass_seat slot seat.Refused seats not = refl
  pass_seat slot (seat.Closed object) seats not = refl
  pass_seat slot (seat.Open object s) seats not = rw not refl

  pub pass_one : (slot place : ℕ) (seats : List (Seat O)) (x : Seat O) → IsPassed slot place seats → slice_get seats place ≡ Some x → seat_has as_open slot x ≡ false → IsPassed slot (place + 1) seats
  pass_one slot place seats x passed here not =
      let next : suc place ≡ place + 1 = omega arith in
      subst (λ (n : ℕ). IsPassed slot n seats) next
      (sym (ap (λ (l : List (Seat O)). first_with slot (socks_in as_open l)) (drop_here seats place x here) ∙ pass_seat slot x (drop (suc place) seats) not) ∙ passed)

  found_seat : (slot : ℕ) (x : Seat O) (seats : List (Seat O)) → seat_has as_open slot x ≡ true
      → (object : ObjId) × (s : O) × (x ≡ seat.Open object s) × ((as_open s).slot ≡ slot) × (first_with slot (socks_in as_open (x ∷ seats)) ≡ Some (as_open s))
  found_seat slot seat.Refused seats has = absurd (true≢false (sym has))
  found_seat slot (seat.Closed object) seats has = absurd (true≢false (sym has))
  found_seat slot (seat.Open object s) seats has = (object, s, refl, eqb-true (as_open s).slot slot has, rw has refl)

  pub first_here : (slot place : ℕ) (seats : List (Seat O)) (x : Seat O) → IsPassed slot place seats → slice_get seats place ≡ Some x → seat_has as_open slot x ≡ true → IsFirstWith as_open slot place seats
  first_here slot place seats x passed here has =
      let found = found_seat slot x (drop (suc place) seats) has in
      record {
        object = found.0;
        socket = found.1;
        here = here ∙ ap (λ (y : Seat O). Some y) found.2;
        slot_is = found.3;
        finds = sym passed ∙ ap (λ (l : List (Seat O)). first_with slot (socks_in as_open l)) (drop_here seats place x here) ∙ found.4;
      }

  pub none_passed : (slot place : ℕ) (seats : List (Seat O)) → IsPassed slot place seats → length seats ≤ place → first_with slot (socks_in as_open seats) ≡ None
  none_passed slot place seats passed le = sym passed ∙ ap (λ (l : List (Seat O)). first_with slot (socks_in as_open l)) (drop_all place seats le)

  pub is_open_first : (slot place : ℕ) (seats : List (Seat O)) → IsFirstWith as_open slot place seats → is_open_at seats place ≡ true
  is_open_first slot place seats first = ap is_open_in first.here

  open_is : (o p : ObjId) (s t : O) → ◌≡◌ {A = Option (Seat O)} (Some (seat.Open o s)) (Some (seat.Open p t)) → s ≡ t
  open_is o p s t e = cc

  -- the socket of that seat has the mailbox, as the code reads the seat
  pub slot_in : (slot place : ℕ) (items seats : List (Seat O)) (x : Seat O) (object : ObjId) (s : O) → items ≡ seats → IsFirstWith as_open slot place seats → x ≡ slice_index_or items place x → x ≡ seat.Open object s
      → (as_open s).slot ≡ slot
  slot_in slot place items seats x object s whole first read is =
      let there = open_at_here place items seats x object s whole (is_open_first slot place seats first) read is in
      let here : slice_get seats place ≡ Some (seat.Open object s) = subst (λ (l : List (Seat O)). slice_get l place ≡ Some (seat.Open object s)) whole there in
      ap (λ (z : O). (as_open z).slot) (sym (open_is first.object object first.socket s (sym first.here ∙ here))) ∙ first.slot_is

module _ {W O N S : Type 0} (as_open : O → OpenSock) (agrees : W → ℕ → O → Type 0) (was_made : W → ℕ → Type 0) where
  -- a letter is taken for the socket of an open seat, as the code reads and writes the seat
  pub fetches_in : (caller slot place : ℕ) (items seats : List (Seat O)) (x : Seat O) (object : ObjId) (s t : O) (way : W) (before after : List (Piece N S))
      → items ≡ seats → IsFirstWith as_open slot place seats → x ≡ slice_index_or items place x → x ≡ seat.Open object s → AllAgree as_open agrees was_made way caller seats
      → (as_open t).object ≡ (as_open s).object → FetchesLetter caller (as_open s) (as_open t) before after
      → FetchesAt as_open caller slot seats (slice_set items place (seat.Open object t)) before after
  fetches_in caller slot place items seats x object s t way before after whole first read is all same h =
      let there = open_at_here place items seats x object s whole (is_open_first as_open slot place seats first) read is in
      let here : slice_get seats place ≡ Some (seat.Open object s) = subst (λ (l : List (Seat O)). slice_get l place ≡ Some (seat.Open object s)) whole there in
      let one : first.socket ≡ s = open_is as_open first.object object first.socket s (sym first.here ∙ here) in
      let fit = all_fit as_open agrees was_made way caller seats all.agree in
      record {
        socket = as_open s;
        next = as_open t;
        acts = h.acts;
        finds = first.finds ∙ ap (λ (z : O). Some (as_open z)) one;
        takes = subst (λ n. TakesLetter n h.acts) (ap (λ (z : O). (as_open z).slot) (sym one) ∙ first.slot_is) h.takes;
        goes = h.goes;
        mine = ap (λ (l : List (Seat O)). sockets_of as_open (slice_set l place (seat.Open object t))) whole
            ∙ with_seat as_open place seats object s t here fit all.apart (same ∙ fit_at as_open seats place object s here fit);
        adds = h.adds;
      }

module _ {O N S : Type 0} (as_open : O → OpenSock) where
  -- and so for its actor
  pub fetched_so : (number slot : ℕ) (old : Actor O) (new : List (Seat O)) (before after : List (Piece N S)) → FetchesAt as_open number slot old.seats new before after
      → FetchesSo as_open number slot old (record old { seats = new }) before after
  fetched_so number slot old new before after h = record {
    acts = h.acts;
    fetches = record {
      socket = h.socket;
      now = h.next;
      finds = h.finds;
      takes = h.takes;
      goes = h.goes;
      new_is = ap (λ (mine : Sockets). record (standing_of as_open old) { mine = mine }) h.mine;
    };
    adds = h.adds;
    says = refl;
    name = refl;
  }
