-- Lemmas on what lines do to an actor's seats.
use Rattle.std.proofs.Common.{◌≡◌, ℕ, List, [], ◌∷◌, ◌++◌, Bool, true, false, Option, Some, None, length, map, refl, sym, ap, subst, ◌∙◌, append-nil, true≢false}
use Rattle.std.specs.Prelude.{◌==◌, ◌&&◌, not, slice_get, slice_set, slice_index_or}
use Rattle.std.specs.List.{AllByRecursion}
use Rattle.std.proofs.lemmas.List.{map-append}
use Rattle.zq_base.specs.declared.ids.ObjId.{ObjId}
use Rattle.zq_base.specs.declared.kind.Kind.{Kind}
use Rattle.zq_base.specs.declared.options.Options.{Options}
use Rattle.spec_run.specs.declared.script.Call.TheVariants as call
use Rattle.spec_pattern.specs.PatternCalls.{Subscribe, Unsubscribe}
use Rattle.spec_pattern.specs.declared.answers.Skip.{Skip}
use Rattle.spec_control.specs.OwnAsks.{is_none}
use Rattle.spec_control.specs.declared.request.Refusal.{Refusal}
use Rattle.spec_control.specs.declared.request.Reply.TheVariants as reply
use Rattle.spec_run.specs.declared.answer.Answer.TheVariants as answer
use Rattle.spec_run.specs.declared.answer.Answer.{Answer}
use Rattle.spec_run.specs.declared.script.Call.{Call}
use Rattle.spec_run.specs.declared.script.Line.{Line}
use Rattle.spec_run.specs.ControlAnswer.{reply_answer}
use Rattle.spec_run.specs.Act.{Try}
use Rattle.spec_run.specs.OpenSocket.{OpenSock}
use Rattle.spec_run.specs.Pump.{Pumps}
use Rattle.spec_run.specs.SocketCall.{SendsCall, ReceivesCall, ChangesCall, BindsCall, ConnectsCall, UnbindsCall, DisconnectsCall}
use Rattle.spec_run.specs.Standing.{Sockets, open_at, with_open, without_open, CallsOpen, ClosesLine, OnFound, DoesLine}
use Rattle.zq_world.specs.Piece.{Piece, AddsActs}
use Rattle.zq_world.specs.Way.{AsksOpen, CallsOne, ClosesSo, AsksToEnd, MakesOne, KeepsOthers, KeepsLent, KeepsAll, IsNew}
use Rattle.zq_world.specs.Seats.{name_of, is_open_in, is_open_at, has_open, AreApart, socks_in, sockets_of, AllAgree}
use Rattle.zq_world.specs.Stepping.{called_place, at_seats, DoesAsked, ShutsAt}
use Rattle.zq_world.specs.declared.made.Made.TheVariants as made
use Rattle.zq_world.specs.declared.seats.Seat.{Seat}
use Rattle.zq_world.specs.declared.seats.Seat.TheVariants as seat
use Rattle.zq_world.proofs.SeatLemmas.{Fits, open_in, open_found, with_at, without_at, socks_push, names_set, fit_at, open_read, none_open, none_by_length, all_fit, agrees_at, open_made, all_with}

sockets_are : (a b : List (Option ℕ)) (xs ys : List OpenSock) → a ≡ b → xs ≡ ys → ◌≡◌ {A = Sockets} (record { names = a; socks = xs }) (record { names = b; socks = ys })
sockets_are a b xs ys e f = cc

the_place : (p place : ℕ) → ◌≡◌ {A = Option ℕ} (Some p) (Some place) → place ≡ p
the_place p place e = cc

no_place : (place : ℕ) → ◌≡◌ {A = Option ℕ} None (Some place) → ⊥
no_place place e = cc

module _ {N S : Type 0} where
  -- a try that does nothing
  abbrev idle_try : Line → List Skip → Answer → Bool → Try N S
  idle_try line all said over = record { line = line; pump = []; call = []; skips = []; told = all; answer = said; over = over }

  on_none : (Does : OpenSock → Sockets → Try N S → Sockets → Type 0) (found : Option OpenSock) (mine : Sockets) (line : Line) (all : List Skip) (over : Bool) → found ≡ None
      → OnFound Does found mine (idle_try line all answer.NoSocket over) mine
  on_none Does found mine line all over none =
      subst (λ f. OnFound Does f mine (idle_try line all answer.NoSocket over) mine) (sym none)
      (record { no_pump = record { pump_is = refl; skips_are = refl }; call_is = refl; answer_is = refl; new_is = refl })

  on_open : (Does : OpenSock → Try N S → OpenSock → Type 0) (found : Option OpenSock) (mine : Sockets) (s pumped called : OpenSock) (t : Try N S) → found ≡ Some s
      → Pumps s t.pump pumped → Does pumped t called → OnFound (CallsOpen Does) found mine t (with_open called mine)
  on_open Does found mine s pumped called t is pumps does =
      subst (λ f. OnFound (CallsOpen Does) f mine t (with_open called mine)) (sym is)
      (record { pumped = pumped; called = called; pumps = pumps; does = does; new_is = refl })

  -- a call of an open socket
  pub calls_open : (asks : Call) (place : ℕ) (mine : Sockets) (s pumped called : OpenSock) (t : Try N S) → called_place asks ≡ Some place → open_at mine place ≡ Some s
      → Pumps s t.pump pumped → AsksOpen asks pumped t called → DoesLine asks mine t (with_open called mine)
  calls_open (call.Socket kind options) place mine s pumped called t is found pumps does = elim (no_place place is) [ ]
  calls_open (call.Bind p at) place mine s pumped called t is found pumps does = on_open (BindsCall at) (open_at mine p) mine s pumped called t (subst (λ q. open_at mine q ≡ Some s) (the_place p place is) found) pumps does
  calls_open (call.Connect p to) place mine s pumped called t is found pumps does = on_open (ConnectsCall to) (open_at mine p) mine s pumped called t (subst (λ q. open_at mine q ≡ Some s) (the_place p place is) found) pumps does
  calls_open (call.Send p m) place mine s pumped called t is found pumps does = on_open (SendsCall m) (open_at mine p) mine s pumped called t (subst (λ q. open_at mine q ≡ Some s) (the_place p place is) found) pumps does
  calls_open (call.Recv p tries) place mine s pumped called t is found pumps does = on_open ReceivesCall (open_at mine p) mine s pumped called t (subst (λ q. open_at mine q ≡ Some s) (the_place p place is) found) pumps does
  calls_open (call.Subscribe p topic) place mine s pumped called t is found pumps does = on_open (ChangesCall Subscribe topic) (open_at mine p) mine s pumped called t (subst (λ q. open_at mine q ≡ Some s) (the_place p place is) found) pumps does
  calls_open (call.Unsubscribe p topic) place mine s pumped called t is found pumps does = on_open (ChangesCall Unsubscribe topic) (open_at mine p) mine s pumped called t (subst (λ q. open_at mine q ≡ Some s) (the_place p place is) found) pumps does
  calls_open (call.Unbind p at) place mine s pumped called t is found pumps does = on_open (UnbindsCall at) (open_at mine p) mine s pumped called t (subst (λ q. open_at mine q ≡ Some s) (the_place p place is) found) pumps does
  calls_open (call.Disconnect p at) place mine s pumped called t is found pumps does = on_open (DisconnectsCall at) (open_at mine p) mine s pumped called t (subst (λ q. open_at mine q ≡ Some s) (the_place p place is) found) pumps does
  calls_open (call.Close p) place mine s pumped called t is found pumps does = elim (no_place place is) [ ]
  calls_open call.Term place mine s pumped called t is found pumps does = elim (no_place place is) [ ]

  adds_none : (caller : ℕ) (pieces : List (Piece N S)) → AddsActs caller [] [] pieces pieces
  adds_none caller pieces = record { added = sym (append-nil pieces); by = tt }

  -- a caller asks the context to end
  pub asked_term : (caller : ℕ) (said : Answer) (mine : Sockets) (told : List Skip) (before after : List (Piece N S)) → AsksToEnd caller said before after
      → DoesAsked caller call.Term said (record { mine = mine; told = told; pieces = before }) (record { mine = mine; told = told; pieces = after })
  asked_term caller said mine told before after h = record {
    pump = [];
    acts = _;
    skips = [];
    does = λ line all over. record {
      reply = h.replied;
      made = h.asked;
      request = h.request;
      no_pump = record { pump_is = refl; skips_are = refl };
      call_is = refl;
      answer_is = h.answer_is;
      new_is = refl;
    };
    tells = sym (append-nil told);
    adds = h.adds;
  }

module _ (N S : Type 0) where
  -- a call of a name that stands for no open socket
  pub calls_none : (asks : Call) (place : ℕ) (mine : Sockets) (line : Line) (all : List Skip) (over : Bool) → called_place asks ≡ Some place → open_at mine place ≡ None
      → DoesLine asks mine (idle_try {N = N} {S = S} line all answer.NoSocket over) mine
  calls_none (call.Socket kind options) place mine line all over is none = elim (no_place place is) [ ]
  calls_none (call.Bind p at) place mine line all over is none = on_none {N = N} {S = S} (CallsOpen (BindsCall at)) (open_at mine p) mine line all over (subst (λ q. open_at mine q ≡ None) (the_place p place is) none)
  calls_none (call.Connect p to) place mine line all over is none = on_none {N = N} {S = S} (CallsOpen (ConnectsCall to)) (open_at mine p) mine line all over (subst (λ q. open_at mine q ≡ None) (the_place p place is) none)
  calls_none (call.Send p m) place mine line all over is none = on_none {N = N} {S = S} (CallsOpen (SendsCall m)) (open_at mine p) mine line all over (subst (λ q. open_at mine q ≡ None) (the_place p place is) none)
  calls_none (call.Recv p tries) place mine line all over is none = on_none {N = N} {S = S} (CallsOpen ReceivesCall) (open_at mine p) mine line all over (subst (λ q. open_at mine q ≡ None) (the_place p place is) none)
  calls_none (call.Subscribe p topic) place mine line all over is none = on_none {N = N} {S = S} (CallsOpen (ChangesCall Subscribe topic)) (open_at mine p) mine line all over (subst (λ q. open_at mine q ≡ None) (the_place p place is) none)
  calls_none (call.Unsubscribe p topic) place mine line all over is none = on_none {N = N} {S = S} (CallsOpen (ChangesCall Unsubscribe topic)) (open_at mine p) mine line all over (subst (λ q. open_at mine q ≡ None) (the_place p place is) none)
  calls_none (call.Unbind p at) place mine line all over is none = on_none {N = N} {S = S} (CallsOpen (UnbindsCall at)) (open_at mine p) mine line all over (subst (λ q. open_at mine q ≡ None) (the_place p place is) none)
  calls_none (call.Disconnect p at) place mine line all over is none = on_none {N = N} {S = S} (CallsOpen (DisconnectsCall at)) (open_at mine p) mine line all over (subst (λ q. open_at mine q ≡ None) (the_place p place is) none)
  calls_none (call.Close p) place mine line all over is none = elim (no_place place is) [ ]
  calls_none call.Term place mine line all over is none = elim (no_place place is) [ ]

module _ {O : Type 0} (as_open : O → OpenSock) where
  none_in : (found : Option (Seat O)) → is_open_in found ≡ false → open_in as_open found ≡ None
  none_in None shut = refl
  none_in (Some seat.Refused) shut = refl
  none_in (Some (seat.Closed object)) shut = refl
  none_in (Some (seat.Open object socket)) shut = elim (true≢false shut) [ ]

  found_here : (place : ℕ) (seats : List (Seat O)) (object : ObjId) (s : O) → slice_get seats place ≡ Some (seat.Open object s)
      → AllByRecursion (Fits as_open) seats → AreApart (map name_of seats) → open_at (sockets_of as_open seats) place ≡ Some (as_open s)
  found_here place seats object s here fit apart = open_found as_open seats place fit apart ∙ ap (open_in as_open) here

  pub with_seat : (place : ℕ) (seats : List (Seat O)) (object : ObjId) (s t : O) → slice_get seats place ≡ Some (seat.Open object s) → AllByRecursion (Fits as_open) seats → AreApart (map name_of seats)
      → (as_open t).object ≡ object.0 → sockets_of as_open (slice_set seats place (seat.Open object t)) ≡ with_open (as_open t) (sockets_of as_open seats)
  with_seat place seats object s t here fit apart same =
      sockets_are _ _ _ _ (names_set seats place (seat.Open object s) (seat.Open object t) here refl) (with_at as_open seats place object s t here fit apart same)

  without_seat : (place : ℕ) (seats : List (Seat O)) (object : ObjId) (s : O) → slice_get seats place ≡ Some (seat.Open object s) → AllByRecursion (Fits as_open) seats → AreApart (map name_of seats)
      → sockets_of as_open (slice_set seats place (seat.Closed object)) ≡ without_open (as_open s).object (sockets_of as_open seats)
  without_seat place seats object s here fit apart =
      sockets_are _ _ _ _ (names_set seats place (seat.Open object s) (seat.Closed object) here refl) (without_at as_open seats place object s here fit apart)

  -- lines are over, and no seat is open
  pub finished_so : {X : Type 0} (lines : List X) (seats : List (Seat O)) (opened : Bool) → (length lines == 0) ≡ true → opened ≡ has_open seats
      → not opened ≡ (is_none lines && is_none (socks_in as_open seats))
  finished_so lines seats opened none is =
      ap not is ∙ (sym (none_open as_open seats) ∙ ap (λ b. b && is_none (socks_in as_open seats)) (sym none ∙ none_by_length lines))

module _ {O N S : Type 0} (as_open : O → OpenSock) where
  -- a line calls a seat that is not open
  pub asked_none : (caller place : ℕ) (asks : Call) (seats : List (Seat O)) (told : List Skip) (pieces : List (Piece N S)) → called_place asks ≡ Some place → is_open_at seats place ≡ false
      → AllByRecursion (Fits as_open) seats → AreApart (map name_of seats)
      → DoesAsked caller asks answer.NoSocket (at_seats as_open seats told pieces) (at_seats as_open seats told pieces)
  asked_none caller place asks seats told pieces is shut fit apart = record {
    pump = [];
    acts = [];
    skips = [];
    does = λ line all over. calls_none N S asks place (sockets_of as_open seats) line all over is (open_found as_open seats place fit apart ∙ none_in as_open (slice_get seats place) shut);
    tells = sym (append-nil told);
    adds = adds_none caller pieces;
  }

  pub closes_none : (caller place : ℕ) (seats : List (Seat O)) (told : List Skip) (pieces : List (Piece N S)) → is_open_at seats place ≡ false
      → AllByRecursion (Fits as_open) seats → AreApart (map name_of seats)
      → DoesAsked caller (call.Close place) answer.NoSocket (at_seats as_open seats told pieces) (at_seats as_open seats told pieces)
  closes_none caller place seats told pieces shut fit apart = record {
    pump = [];
    acts = [];
    skips = [];
    does = λ line all over. on_none ClosesLine (open_at (sockets_of as_open seats) place) (sockets_of as_open seats) line all over (open_found as_open seats place fit apart ∙ none_in as_open (slice_get seats place) shut);
    tells = sym (append-nil told);
    adds = adds_none caller pieces;
  }

  -- a line calls the socket of an open seat
  pub asked_open : (caller place : ℕ) (asks : Call) (said : Answer) (seats : List (Seat O)) (object : ObjId) (s t : O) (told told_now : List Skip) (before after : List (Piece N S))
      → called_place asks ≡ Some place → slice_get seats place ≡ Some (seat.Open object s) → AllByRecursion (Fits as_open) seats → AreApart (map name_of seats) → (as_open t).object ≡ object.0
      → CallsOne caller asks (as_open s) (as_open t) said told told_now before after
      → DoesAsked caller asks said (at_seats as_open seats told before) (at_seats as_open (slice_set seats place (seat.Open object t)) told_now after)
  asked_open caller place asks said seats object s t told told_now before after is here fit apart same h = record {
    pump = h.pump;
    acts = h.acts;
    skips = h.skips;
    does = λ line all over.
        subst (λ (new : Sockets). DoesLine asks (sockets_of as_open seats) (record { line = line; pump = h.pump; call = h.acts; skips = h.skips; told = all; answer = said; over = over }) new)
        (sym (with_seat as_open place seats object s t here fit apart same))
        (calls_open asks place (sockets_of as_open seats) (as_open s) h.pumped (as_open t)
        (record { line = line; pump = h.pump; call = h.acts; skips = h.skips; told = all; answer = said; over = over })
        is (found_here as_open place seats object s here fit apart) h.pumps (h.does line all over));
    tells = h.tells;
    adds = h.adds;
  }

  -- the socket of an open seat is closed
  pub shuts_at : (caller place : ℕ) (seats : List (Seat O)) (object : ObjId) (s : O) (before after : List (Piece N S)) → slice_get seats place ≡ Some (seat.Open object s)
      → AllByRecursion (Fits as_open) seats → AreApart (map name_of seats) → ClosesSo caller (as_open s).object before after
      → ShutsAt as_open caller place seats (slice_set seats place (seat.Closed object)) before after
  shuts_at caller place seats object s before after here fit apart h = record {
    object = object;
    socket = s;
    here = here;
    acts = _;
    closes = record { closed = h.closed; request = h.request; acts_are = refl; new_is = without_seat as_open place seats object s here fit apart };
    adds = h.adds;
  }

  -- a line closes the socket of an open seat
  pub closes_open : (caller place : ℕ) (seats new : List (Seat O)) (told : List Skip) (before after : List (Piece N S)) → AllByRecursion (Fits as_open) seats → AreApart (map name_of seats)
      → ShutsAt as_open caller place seats new before after → DoesAsked caller (call.Close place) answer.Done (at_seats as_open seats told before) (at_seats as_open new told after)
  closes_open caller place seats new told before after fit apart h = record {
    pump = [];
    acts = h.acts;
    skips = [];
    does = λ line all over.
        subst (λ f. OnFound ClosesLine f (sockets_of as_open seats) (record { line = line; pump = []; call = h.acts; skips = []; told = all; answer = answer.Done; over = over }) (sockets_of as_open new))
        (sym (found_here as_open place seats h.object h.socket h.here fit apart))
        (record { no_pump = record { pump_is = refl; skips_are = refl }; closes = h.closes; answer_is = refl });
    tells = sym (append-nil told);
    adds = h.adds;
  }

  -- a line makes a socket, or is refused
  pub asked_socket : (caller : ℕ) (kind : Kind) (options : Options) (seats : List (Seat O)) (object : ObjId) (s : O) (told : List Skip) (before after : List (Piece N S))
      → MakesOne as_open caller kind options (made.Socket object s) before after
      → DoesAsked caller (call.Socket kind options) (answer.Object object) (at_seats as_open seats told before) (at_seats as_open (seats ++ seat.Open object s ∷ []) told after)
  asked_socket caller kind options seats object s told before after h = record {
    pump = [];
    acts = _;
    skips = [];
    does = λ line all over. record {
      reply = reply.Object object;
      made = h.asked;
      request = h.request;
      no_pump = record { pump_is = refl; skips_are = refl };
      call_is = refl;
      answer_is = refl;
      new_is = sockets_are _ _ _ _ (map-append name_of seats (seat.Open object s ∷ []))
          (socks_push as_open seats (seat.Open object s) ∙ ap (λ x. socks_in as_open seats ++ x ∷ []) h.at_making);
    };
    tells = sym (append-nil told);
    adds = h.adds;
  }

  pub asked_refused : (caller : ℕ) (kind : Kind) (options : Options) (seats : List (Seat O)) (refusal : Refusal) (told : List Skip) (before after : List (Piece N S))
      → MakesOne as_open caller kind options (made.Refused refusal) before after
      → DoesAsked caller (call.Socket kind options) (reply_answer (reply.Refused refusal)) (at_seats as_open seats told before) (at_seats as_open (seats ++ seat.Refused ∷ []) told after)
  asked_refused caller kind options seats refusal told before after h = record {
    pump = [];
    acts = _;
    skips = [];
    does = λ line all over. record {
      reply = reply.Refused refusal;
      made = h.asked;
      request = h.request;
      no_pump = record { pump_is = refl; skips_are = refl };
      call_is = refl;
      answer_is = refl;
      new_is = sockets_are _ _ _ _ (map-append name_of seats (seat.Refused ∷ [])) (socks_push as_open seats seat.Refused ∙ append-nil (socks_in as_open seats));
    };
    tells = sym (append-nil told);
    adds = h.adds;
  }

module _ {W O N S : Type 0} (as_open : O → OpenSock) (agrees : W → ℕ → O → Type 0) (was_made : W → ℕ → Type 0) where
  -- a call goes to the socket of an open seat, as the code reads and writes the seat
  pub calls_in : (caller place : ℕ) (asks : Call) (said : Answer) (items seats : List (Seat O)) (x : Seat O) (object : ObjId) (s t : O) (way : W) (told told_now : List Skip) (before after : List (Piece N S))
      → items ≡ seats → is_open_at seats place ≡ true → x ≡ slice_index_or items place x → x ≡ seat.Open object s → called_place asks ≡ Some place → AllAgree as_open agrees was_made way caller seats
      → (as_open t).object ≡ (as_open s).object → CallsOne caller asks (as_open s) (as_open t) said told told_now before after
      → DoesAsked caller asks said (at_seats as_open seats told before) (at_seats as_open (slice_set items place (seat.Open object t)) told_now after)
  calls_in caller place asks said items seats x object s t way told told_now before after whole opened read is named all same h =
      let read_so : x ≡ slice_index_or seats place x = subst (λ (l : List (Seat O)). x ≡ slice_index_or l place x) whole read in
      let here : slice_get seats place ≡ Some (seat.Open object s) = open_read seats place x opened read_so ∙ ap (λ y. Some y) is in
      let fit = all_fit as_open agrees was_made way caller seats all.agree in
      subst (λ (l : List (Seat O)). DoesAsked caller asks said (at_seats as_open seats told before) (at_seats as_open (slice_set l place (seat.Open object t)) told_now after)) (sym whole)
      (asked_open as_open caller place asks said seats object s t told told_now before after named here fit all.apart (same ∙ fit_at as_open seats place object s here fit) h)

  -- the socket of an open seat is closed, as the code takes it out
  pub shuts_in : (caller place : ℕ) (items seats : List (Seat O)) (x : Seat O) (object : ObjId) (s : O) (way : W) (before after : List (Piece N S))
      → items ≡ seats → is_open_at seats place ≡ true → x ≡ slice_index_or items place x → x ≡ seat.Open object s → AllAgree as_open agrees was_made way caller seats
      → ClosesSo caller (as_open s).object before after → ShutsAt as_open caller place seats (slice_set items place (seat.Closed object)) before after
  shuts_in caller place items seats x object s way before after whole opened read is all h =
      let read_so : x ≡ slice_index_or seats place x = subst (λ (l : List (Seat O)). x ≡ slice_index_or l place x) whole read in
      let here : slice_get seats place ≡ Some (seat.Open object s) = open_read seats place x opened read_so ∙ ap (λ z. Some z) is in
      subst (λ (l : List (Seat O)). ShutsAt as_open caller place seats (slice_set l place (seat.Closed object)) before after) (sym whole)
      (shuts_at as_open caller place seats object s before after here (all_fit as_open agrees was_made way caller seats all.agree) all.apart h)

module _ {W O : Type 0} (as_open : O → OpenSock) (agrees : W → ℕ → O → Type 0) (was_made : W → ℕ → Type 0) where
  -- the seats agree behind a call
  pub agrees_in : (caller place : ℕ) (items seats : List (Seat O)) (x : Seat O) (object : ObjId) (s t : O) (old new : W)
      → items ≡ seats → is_open_at seats place ≡ true → x ≡ slice_index_or items place x → x ≡ seat.Open object s → AllAgree as_open agrees was_made old caller seats
      → KeepsLent as_open agrees caller s t new → KeepsOthers as_open agrees was_made caller (as_open s).object old new
      → AllAgree as_open agrees was_made new caller (slice_set items place (seat.Open object t))
  agrees_in caller place items seats x object s t old new whole opened read is all lent keeps =
      let read_so : x ≡ slice_index_or seats place x = subst (λ (l : List (Seat O)). x ≡ slice_index_or l place x) whole read in
      let here : slice_get seats place ≡ Some (seat.Open object s) = open_read seats place x opened read_so ∙ ap (λ y. Some y) is in
      let fit = fit_at as_open seats place object s here (all_fit as_open agrees was_made old caller seats all.agree) in
      subst (λ (l : List (Seat O)). AllAgree as_open agrees was_made new caller (slice_set l place (seat.Open object t))) (sym whole)
      (agrees_at as_open agrees was_made caller object old new seats place s (seat.Open object t) (subst (λ n. KeepsOthers as_open agrees was_made caller n old new) fit keeps) here refl
      (keeps.numbers object.0 (open_made as_open agrees was_made old caller seats place object s here all.agree), (lent.agrees_now, lent.same ∙ fit)) all)

  -- and behind a close
  pub shut_agrees_in : (caller place : ℕ) (items seats : List (Seat O)) (x : Seat O) (object : ObjId) (s : O) (old new : W)
      → items ≡ seats → is_open_at seats place ≡ true → x ≡ slice_index_or items place x → x ≡ seat.Open object s → AllAgree as_open agrees was_made old caller seats
      → KeepsOthers as_open agrees was_made caller (as_open s).object old new
      → AllAgree as_open agrees was_made new caller (slice_set items place (seat.Closed object))
  shut_agrees_in caller place items seats x object s old new whole opened read is all keeps =
      let read_so : x ≡ slice_index_or seats place x = subst (λ (l : List (Seat O)). x ≡ slice_index_or l place x) whole read in
      let here : slice_get seats place ≡ Some (seat.Open object s) = open_read seats place x opened read_so ∙ ap (λ y. Some y) is in
      let fit = fit_at as_open seats place object s here (all_fit as_open agrees was_made old caller seats all.agree) in
      subst (λ (l : List (Seat O)). AllAgree as_open agrees was_made new caller (slice_set l place (seat.Closed object))) (sym whole)
      (agrees_at as_open agrees was_made caller object old new seats place s (seat.Closed object) (subst (λ n. KeepsOthers as_open agrees was_made caller n old new) fit keeps) here refl
      (keeps.numbers object.0 (open_made as_open agrees was_made old caller seats place object s here all.agree)) all)

module _ {W O N S : Type 0} (as_open : O → OpenSock) (agrees : W → ℕ → O → Type 0) (was_made : W → ℕ → Type 0) where
  -- the seats agree behind the making of a socket
  pub made_agrees : (caller : ℕ) (kind : Kind) (options : Options) (seats : List (Seat O)) (object : ObjId) (s : O) (old new : W) (before after : List (Piece N S))
      → MakesOne as_open caller kind options (made.Socket object s) before after → IsNew as_open agrees was_made caller (made.Socket object s) old new → KeepsAll agrees was_made old new
      → AllAgree as_open agrees was_made old caller seats → AllAgree as_open agrees was_made new caller (seats ++ seat.Open object s ∷ [])
  made_agrees caller kind options seats object s old new before after h fresh keeps all =
      all_with as_open agrees was_made caller old new seats object s keeps fresh.0 fresh.1.0 fresh.1.1 (ap (λ (x : OpenSock). x.object) h.at_making) all
