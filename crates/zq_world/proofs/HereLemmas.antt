-- What is known of a seat that is read, and of what a socket line made.
use Rattle.std.proofs.Common.{◌≡◌, ℕ, ◌<◌, zero, suc, List, [], ◌∷◌, ◌++◌, true, Option, Some, None, length, sym, subst}
use Rattle.std.specs.Prelude.{slice_get, slice_index_or}
use Rattle.std.specs.List.{AllByRecursion}
use Rattle.std.proofs.lemmas.Option.{slice_get_within}
use Rattle.zq_base.specs.declared.ids.ObjId.{ObjId}
use Rattle.zq_base.specs.declared.kind.Kind.{Kind}
use Rattle.zq_base.specs.declared.options.Options.{Options}
use Rattle.spec_run.specs.declared.script.Call.TheVariants as call
use Rattle.spec_pattern.specs.declared.answers.Skip.{Skip}
use Rattle.spec_run.specs.declared.script.Call.{Call}
use Rattle.spec_run.specs.OpenSocket.{OpenSock}
use Rattle.zq_world.specs.Piece.{Piece}
use Rattle.zq_world.specs.Way.{AsksSocket, MakesOne, IsNew, KeepsAll}
use Rattle.zq_world.specs.Seats.{is_open_at, SeatAgrees, AllAgree}
use Rattle.zq_world.specs.Seated.{seat_made, answer_made}
use Rattle.zq_world.specs.Stepping.{called_place, at_seats, DoesAsked, LeavesOthers}
use Rattle.zq_world.specs.declared.made.Made.{Made}
use Rattle.zq_world.specs.declared.made.Made.TheVariants as made
use Rattle.zq_world.specs.declared.seats.Seat.{Seat}
use Rattle.zq_world.specs.declared.seats.Seat.TheVariants as seat
use Rattle.zq_world.proofs.SeatLemmas.{some_is, no_more, open_seat, open_at_here, all_refused}
use Rattle.zq_world.proofs.LineLemmas.{asked_socket, asked_refused, made_agrees}

no_place : (place : ℕ) → ◌≡◌ {A = Option ℕ} None (Some place) → ⊥
no_place place e = cc

-- a line that names a place is a call of a socket
pub asks_socket : (asks : Call) (place : ℕ) → called_place asks ≡ Some place → AsksSocket asks
asks_socket (call.Socket kind options) place e = elim (no_place place e) [ ]
asks_socket (call.Bind p at) place e = tt
asks_socket (call.Connect p to) place e = tt
asks_socket (call.Send p m) place e = tt
asks_socket (call.Recv p tries) place e = tt
asks_socket (call.Subscribe p topic) place e = tt
asks_socket (call.Unsubscribe p topic) place e = tt
asks_socket (call.Unbind p at) place e = tt
asks_socket (call.Disconnect p at) place e = tt
asks_socket (call.Close p) place e = elim (no_place place e) [ ]
asks_socket call.Term place e = elim (no_place place e) [ ]

-- an open seat is there
pub within_open : {O : Type 0} (place : ℕ) (items seats : List (Seat O)) → items ≡ seats → is_open_at seats place ≡ true → place < length items
within_open {O} place items seats whole opened =
    let here = open_seat (slice_get items place) (subst (λ (l : List (Seat O)). is_open_at l place ≡ true) (sym whole) opened) in
    slice_get_within items place (seat.Open here.0 here.1) here.2

module _ {W O : Type 0} (agrees : W → ℕ → O → Type 0) (was_made : W → ℕ → Type 0) where
  -- the sockets of other callers agree still, as all do
  pub others_kept : (caller : ℕ) (old new : W) → KeepsAll agrees was_made old new → LeavesOthers agrees was_made caller old new
  others_kept caller old new keeps = record { sockets = λ k s other h. keeps.sockets k s h; numbers = keeps.numbers }

  -- nothing was done
  pub others_stay : (caller : ℕ) (way : W) → LeavesOthers agrees was_made caller way way
  others_stay caller way = record { sockets = λ k s other h. h; numbers = λ o h. h }

module _ {W O : Type 0} (as_open : O → OpenSock) (agrees : W → ℕ → O → Type 0) (was_made : W → ℕ → Type 0) where
  agreed_at : (way : W) (caller : ℕ) (seats : List (Seat O)) (k : ℕ) (object : ObjId) (s : O) → slice_get seats k ≡ Some (seat.Open object s)
      → AllByRecursion (SeatAgrees as_open agrees was_made way caller) seats → agrees way caller s
  agreed_at way caller [] k object s e h = elim (no_more (seat.Open object s) e) [ ]
  agreed_at way caller (x ∷ seats) zero object s e h = (subst (SeatAgrees as_open agrees was_made way caller) (some_is x (seat.Open object s) e) h.0).1.0
  agreed_at way caller (x ∷ seats) (suc k) object s e h = agreed_at way caller seats k object s e h.1

  -- the socket of an open seat agrees, as the code reads the seat
  pub agreed_in : (caller place : ℕ) (items seats : List (Seat O)) (x : Seat O) (object : ObjId) (s : O) (way : W)
      → items ≡ seats → is_open_at seats place ≡ true → x ≡ slice_index_or items place x → x ≡ seat.Open object s → AllAgree as_open agrees was_made way caller seats → agrees way caller s
  agreed_in caller place items seats x object s way whole opened read is all =
      agreed_at way caller seats place object s
      (subst (λ (l : List (Seat O)). slice_get l place ≡ Some (seat.Open object s)) whole (open_at_here place items seats x object s whole opened read is)) all.agree

module _ {W O N S : Type 0} (as_open : O → OpenSock) (agrees : W → ℕ → O → Type 0) (was_made : W → ℕ → Type 0) where
  -- a line makes a socket, or is refused
  pub asked_made : (caller : ℕ) (kind : Kind) (options : Options) (seats : List (Seat O)) (m : Made O) (told : List Skip) (before after : List (Piece N S))
      → MakesOne as_open caller kind options m before after
      → DoesAsked caller (call.Socket kind options) (answer_made m) (at_seats as_open seats told before) (at_seats as_open (seats ++ seat_made m ∷ []) told after)
  asked_made caller kind options seats (made.Socket object s) told before after h = asked_socket as_open caller kind options seats object s told before after h
  asked_made caller kind options seats (made.Refused refusal) told before after h = asked_refused as_open caller kind options seats refusal told before after h

  -- the seats agree behind it
  pub seated_agrees : (caller : ℕ) (kind : Kind) (options : Options) (seats : List (Seat O)) (m : Made O) (old new : W) (before after : List (Piece N S))
      → MakesOne as_open caller kind options m before after → IsNew as_open agrees was_made caller m old new → KeepsAll agrees was_made old new
      → AllAgree as_open agrees was_made old caller seats → AllAgree as_open agrees was_made new caller (seats ++ seat_made m ∷ [])
  seated_agrees caller kind options seats (made.Socket object s) old new before after h fresh keeps all = made_agrees as_open agrees was_made caller kind options seats object s old new before after h fresh keeps all
  seated_agrees caller kind options seats (made.Refused refusal) old new before after h fresh keeps all = all_refused as_open agrees was_made caller old new seats keeps all
