-- What an event does to the ends that a caller reads off its items.
use Rattle.std.specs.Prelude.{◌≡◌, ◌+◌, ◌==◌, ◌&&◌, ◌||◌, ℕ, Bool, true, false, not, List, [], ◌∷◌, ◌++◌, Option, Some, None, All, map, filter, cond, refl}
use Rattle.std.specs.List.{list_any}
use Rattle.std.proofs.Common.{arith, sym, ap, ◌∙◌, inl, inr}
use Rattle.std.proofs.lemmas.Bool.{cases_eq, eq-eqb, ne_eqb}
use Rattle.std.proofs.lemmas.List.{map-append}
use Rattle.std.proofs.lemmas.List.Elements.{All-nil, All-cons, All-head, All-tail}
use Rattle.zq_base.specs.declared.endpoint.Endpoint.TheVariants.{Inproc, Tcp}
use Rattle.zq_base.specs.declared.ids.EndId.{EndId}
use Rattle.spec_control.specs.declared.book.Binding.{Binding}
use Rattle.spec_control.specs.declared.book.Waiting.{Waiting}
use Rattle.spec_control.specs.declared.end.Reason.TheVariants.{Closed, BadId, Second, Linger, Link}
use Rattle.spec_control.specs.declared.letter.Word.{Word}
use Rattle.spec_control.specs.declared.letter.Word.TheVariants.{Own, Plug, TermReq, Term, TermAck, PipeBind, PipeTerm, PipeTermAck, Stop, Reap}
use Rattle.spec_control.specs.declared.entry.Joining.{Joining}
use Rattle.spec_control.specs.declared.request.Req.{Req}
use Rattle.spec_control.specs.declared.request.Req.TheVariants.{Socket as MakeSocket, AskTerm, Bind, Connect, Unbind, Disconnect, Close, Accepted, Shaken, AskEnd, AskOver, OutputOver}
use Rattle.spec_control.specs.declared.request.Reply.{Reply}
use Rattle.spec_control.specs.declared.request.Reply.TheVariants.{Done, Object, Pair, Both, Wait, Asked as WasAsked, Before, Refused}
use Rattle.spec_control.specs.Register.{fulfilled_by}
use Rattle.spec_control.specs.Control.{Control, is_end, same_side, next_pair}
use Rattle.spec_control.specs.After.{binding_by}
use Rattle.spec_control.specs.ControlRun.{Joins, unless_refused}
use Rattle.spec_control.specs.Held.{Held, held_as}
use Rattle.control_laws.specs.Move.{Move}
use Rattle.control_laws.specs.OwnMoves.{fulfil_moves, connect_moves, request_moves, word_moves}
use Rattle.control_laws.proofs.LeadLemmas.{goes_by}
use Rattle.control_laws.proofs.AttachedLemmas.{ends_of_joins}
use Rattle.control_laws.proofs.BetweenLemmas.{asks_over, reap_comes, made_between}

-- ---- what the moves of a request are not
pub no_and : (b : Bool) → (b && false) ≡ false
no_and true = refl
no_and false = refl

pub or_none : (a b : Bool) → a ≡ false → b ≡ false → (a || b) ≡ false
or_none true b h k = h
or_none false b h k = k

module _ (f : Move → Bool) where
  -- none of them passes this test
  NonePass : List Move → Type 0
  NonePass ms = list_any f ms ≡ false

  unless_none : (reply : Reply) (ms : List Move) → list_any f ms ≡ false → list_any f (unless_refused reply ms) ≡ false
  unless_none Done ms h = h
  unless_none (Object o) ms h = h
  unless_none (Pair p) ms h = h
  unless_none (Both o p) ms h = h
  unless_none Wait ms h = h
  unless_none WasAsked ms h = h
  unless_none Before ms h = refl
  unless_none (Refused refusal) ms h = refl

fulfil_stay : (e : EndId) (c : Control) (i k : ℕ) (ws : List Waiting) → goes_by e (fulfil_moves c i k ws) ≡ false
fulfil_stay e c i k [] = refl
fulfil_stay e c i k (w ∷ ws) = or_none _ _ (no_and _) (fulfil_stay e c i (k + 1) ws)

connect_stay : (e : EndId) (c : Control) (i : ℕ) (held : Option Binding) → goes_by e (connect_moves c i held) ≡ false
connect_stay e c i None = refl
connect_stay e c i (Some binding) = or_none _ _ (no_and _) refl

request_stay : (e : EndId) (c : Control) (req : Req) → goes_by e (request_moves c req) ≡ false
request_stay e c (MakeSocket kind options) = refl
request_stay e c AskTerm = refl
request_stay e c (Bind o (Inproc name)) = fulfil_stay e c o.0 (next_pair c) (fulfilled_by (Inproc name) (binding_by o.0 c) c.names)
request_stay e c (Bind o (Tcp address)) = refl
request_stay e c (Connect o (Inproc name)) = connect_stay e c o.0 (c.names.held (Inproc name))
request_stay e c (Connect o (Tcp address)) = or_none _ _ (no_and _) refl
request_stay e c (Unbind o at) = refl
request_stay e c (Disconnect o at) = refl
request_stay e c (Close o) = refl
request_stay e c (Accepted o) = refl
request_stay e c (Shaken o peer) = or_none _ _ (no_and _) refl
request_stay e c (AskEnd d Closed) = refl
request_stay e c (AskEnd d BadId) = refl
request_stay e c (AskEnd d Second) = refl
request_stay e c (AskEnd d Linger) = refl
request_stay e c (AskEnd d Link) = refl
request_stay e c (AskOver o) = refl
request_stay e c (OutputOver o) = refl

pub asked_stay : (e : EndId) (c : Control) (req : Req) (reply : Reply) → goes_by e (unless_refused reply (request_moves c req)) ≡ false
asked_stay e c req reply = unless_none _ reply (request_moves c req) (request_stay e c req)

fulfil_made : (c : Control) (i k : ℕ) (ws : List Waiting) → list_any made_between (fulfil_moves c i k ws) ≡ false
fulfil_made c i k [] = refl
fulfil_made c i k (w ∷ ws) = fulfil_made c i (k + 1) ws

connect_made : (c : Control) (i : ℕ) (held : Option Binding) → list_any made_between (connect_moves c i held) ≡ false
connect_made c i None = refl
connect_made c i (Some binding) = refl

request_made : (c : Control) (req : Req) → list_any made_between (request_moves c req) ≡ false
request_made c (MakeSocket kind options) = refl
request_made c AskTerm = refl
request_made c (Bind o (Inproc name)) = fulfil_made c o.0 (next_pair c) (fulfilled_by (Inproc name) (binding_by o.0 c) c.names)
request_made c (Bind o (Tcp address)) = refl
request_made c (Connect o (Inproc name)) = connect_made c o.0 (c.names.held (Inproc name))
request_made c (Connect o (Tcp address)) = refl
request_made c (Unbind o at) = refl
request_made c (Disconnect o at) = refl
request_made c (Close o) = refl
request_made c (Accepted o) = refl
request_made c (Shaken o peer) = refl
request_made c (AskEnd d Closed) = refl
request_made c (AskEnd d BadId) = refl
request_made c (AskEnd d Second) = refl
request_made c (AskEnd d Linger) = refl
request_made c (AskEnd d Link) = refl
request_made c (AskOver o) = refl
request_made c (OutputOver o) = refl

pub asked_made : (c : Control) (req : Req) (reply : Reply) → list_any made_between (unless_refused reply (request_moves c req)) ≡ false
asked_made c req reply = unless_none made_between reply (request_moves c req) (request_made c req)

pub word_made : (at : ℕ) (word : Word) → list_any made_between (word_moves at word) ≡ false
word_made at (Own child) = refl
word_made at (Plug None) = refl
word_made at (Plug (Some e)) = refl
word_made at (TermReq child) = refl
word_made at Term = refl
word_made at (TermAck child) = refl
word_made at (PipeBind e peer) = refl
word_made at (PipeTerm e) = refl
word_made at (PipeTermAck e) = refl
word_made at Stop = refl
word_made at (Reap socket) = refl

fulfil_asks : (x : ℕ) (c : Control) (i k : ℕ) (ws : List Waiting) → list_any (asks_over x) (fulfil_moves c i k ws) ≡ false
fulfil_asks x c i k [] = refl
fulfil_asks x c i k (w ∷ ws) = fulfil_asks x c i (k + 1) ws

connect_asks : (x : ℕ) (c : Control) (i : ℕ) (held : Option Binding) → list_any (asks_over x) (connect_moves c i held) ≡ false
connect_asks x c i None = refl
connect_asks x c i (Some binding) = refl

fulfil_reaps : (x : ℕ) (c : Control) (i k : ℕ) (ws : List Waiting) → list_any (reap_comes x) (fulfil_moves c i k ws) ≡ false
fulfil_reaps x c i k [] = refl
fulfil_reaps x c i k (w ∷ ws) = fulfil_reaps x c i (k + 1) ws

connect_reaps : (x : ℕ) (c : Control) (i : ℕ) (held : Option Binding) → list_any (reap_comes x) (connect_moves c i held) ≡ false
connect_reaps x c i None = refl
connect_reaps x c i (Some binding) = refl

-- the object that a request closes, or that asks to end in it
abbrev pub closes : ℕ → Req → Bool
closes i (MakeSocket kind options) = false
closes i AskTerm = false
closes i (Bind o at) = false
closes i (Connect o at) = false
closes i (Unbind o at) = false
closes i (Disconnect o at) = false
closes i (Close o) = o.0 == i
closes i (Accepted o) = false
closes i (Shaken o peer) = false
closes i (AskEnd e reason) = false
closes i (AskOver o) = o.0 == i
closes i (OutputOver o) = false

pub or_false : (b : Bool) → (b || false) ≡ b
or_false true = refl
or_false false = refl

request_closes : (i : ℕ) (c : Control) (req : Req) → list_any (asks_over i) (request_moves c req) ≡ closes i req
request_closes i c (MakeSocket kind options) = refl
request_closes i c AskTerm = refl
request_closes i c (Bind o (Inproc name)) = fulfil_asks i c o.0 (next_pair c) (fulfilled_by (Inproc name) (binding_by o.0 c) c.names)
request_closes i c (Bind o (Tcp address)) = refl
request_closes i c (Connect o (Inproc name)) = connect_asks i c o.0 (c.names.held (Inproc name))
request_closes i c (Connect o (Tcp address)) = refl
request_closes i c (Unbind o at) = refl
request_closes i c (Disconnect o at) = refl
request_closes i c (Close o) = or_false (o.0 == i)
request_closes i c (Accepted o) = refl
request_closes i c (Shaken o peer) = refl
request_closes i c (AskEnd d Closed) = refl
request_closes i c (AskEnd d BadId) = refl
request_closes i c (AskEnd d Second) = refl
request_closes i c (AskEnd d Linger) = refl
request_closes i c (AskEnd d Link) = refl
request_closes i c (AskOver o) = or_false (o.0 == i)
request_closes i c (OutputOver o) = refl

-- a request that is refused closes nothing
pub asked_closes : (i : ℕ) (c : Control) (req : Req) (reply : Reply) → list_any (asks_over i) (unless_refused reply (request_moves c req)) ≡ true → closes i req ≡ true
asked_closes i c req reply h = by reply h
  where
    of : list_any (asks_over i) (request_moves c req) ≡ true → closes i req ≡ true
    of k = sym (request_closes i c req) ∙ k

    by : (reply : Reply) → list_any (asks_over i) (unless_refused reply (request_moves c req)) ≡ true → closes i req ≡ true
    by Done k = of k
    by (Object o) k = of k
    by (Pair p) k = of k
    by (Both o p) k = of k
    by Wait k = of k
    by WasAsked k = of k
    by Before k = absurd (never k)
      where
        never : false ≡ true → ⊥
        never f = Prim.grind arith
    by (Refused refusal) k = absurd (never k)
      where
        never : false ≡ true → ⊥
        never f = Prim.grind arith

request_reaps : (i : ℕ) (c : Control) (req : Req) → list_any (reap_comes i) (request_moves c req) ≡ false
request_reaps i c (MakeSocket kind options) = refl
request_reaps i c AskTerm = refl
request_reaps i c (Bind o (Inproc name)) = fulfil_reaps i c o.0 (next_pair c) (fulfilled_by (Inproc name) (binding_by o.0 c) c.names)
request_reaps i c (Bind o (Tcp address)) = refl
request_reaps i c (Connect o (Inproc name)) = connect_reaps i c o.0 (c.names.held (Inproc name))
request_reaps i c (Connect o (Tcp address)) = refl
request_reaps i c (Unbind o at) = refl
request_reaps i c (Disconnect o at) = refl
request_reaps i c (Close o) = refl
request_reaps i c (Accepted o) = refl
request_reaps i c (Shaken o peer) = refl
request_reaps i c (AskEnd d Closed) = refl
request_reaps i c (AskEnd d BadId) = refl
request_reaps i c (AskEnd d Second) = refl
request_reaps i c (AskEnd d Linger) = refl
request_reaps i c (AskEnd d Link) = refl
request_reaps i c (AskOver o) = refl
request_reaps i c (OutputOver o) = refl

pub asked_reaps : (i : ℕ) (c : Control) (req : Req) (reply : Reply) → list_any (reap_comes i) (unless_refused reply (request_moves c req)) ≡ false
asked_reaps i c req reply = unless_none (reap_comes i) reply (request_moves c req) (request_reaps i c req)

-- the socket that a command brings to the reaper, and no command closes one
abbrev pub reaps : ℕ → Word → Bool
reaps i (Own child) = false
reaps i (Plug end) = false
reaps i (TermReq child) = false
reaps i Term = false
reaps i (TermAck child) = false
reaps i (PipeBind e peer) = false
reaps i (PipeTerm e) = false
reaps i (PipeTermAck e) = false
reaps i Stop = false
reaps i (Reap socket) = socket.0 == i

pub word_reaps : (i at : ℕ) (word : Word) → list_any (reap_comes i) (word_moves at word) ≡ reaps i word
word_reaps i at (Own child) = refl
word_reaps i at (Plug None) = refl
word_reaps i at (Plug (Some e)) = refl
word_reaps i at (TermReq child) = refl
word_reaps i at Term = refl
word_reaps i at (TermAck child) = refl
word_reaps i at (PipeBind e peer) = refl
word_reaps i at (PipeTerm e) = refl
word_reaps i at (PipeTermAck e) = refl
word_reaps i at Stop = refl
word_reaps i at (Reap socket) = or_false (socket.0 == i)

pub word_closes : (i at : ℕ) (word : Word) → list_any (asks_over i) (word_moves at word) ≡ false
word_closes i at (Own child) = refl
word_closes i at (Plug None) = refl
word_closes i at (Plug (Some e)) = refl
word_closes i at (TermReq child) = refl
word_closes i at Term = refl
word_closes i at (TermAck child) = refl
word_closes i at (PipeBind e peer) = refl
word_closes i at (PipeTerm e) = refl
word_closes i at (PipeTermAck e) = refl
word_closes i at Stop = refl
word_closes i at (Reap socket) = refl

-- ---- the ends that are read off
module _ {N : Type 0} where
  abbrev pub of_held : List (Held N) → List EndId
  of_held hs = map (λ x. x.end) hs

  -- an end that joins is told as the event wants it
  abbrev pub told : List (Joining N) → List Joins
  told js = map (λ j. let x : Joins = record { end = j.end; peer = j.peer; met = j.met } in x) js

  pub ends_told : (js : List (Joining N)) → of_held (map held_as js) ≡ ends_of_joins (told js)
  ends_told [] = refl
  ends_told (j ∷ js) = ap (λ (es : List EndId). j.end ∷ es) (ends_told js)

  pub with_joins : (hs : List (Held N)) (js : List (Joining N)) (new : List EndId) → ends_of_joins (told js) ≡ new → of_held (hs ++ map held_as js) ≡ of_held hs ++ new
  with_joins hs js new is = map-append (λ (x : Held N). x.end) hs (map held_as js) ∙ ap (λ (es : List EndId). of_held hs ++ es) (ends_told js ∙ is)

  pub without : (e : EndId) (hs : List (Held N)) → of_held (filter (λ x. not (is_end e x.end)) hs) ≡ filter (λ d. not (is_end e d)) (of_held hs)
  without e [] = refl
  without e (h ∷ hs) = by (is_end e h.end) (without e hs)
    where
      by : (b : Bool) → of_held (filter (λ x. not (is_end e x.end)) hs) ≡ filter (λ d. not (is_end e d)) (of_held hs) →
          of_held (cond (not b) (h ∷ filter (λ x. not (is_end e x.end)) hs) (filter (λ x. not (is_end e x.end)) hs)) ≡ cond (not b) (h.end ∷ filter (λ d. not (is_end e d)) (of_held hs)) (filter (λ d. not (is_end e d)) (of_held hs))
      by true rest = rest
      by false rest = ap (λ (es : List EndId). h.end ∷ es) rest

-- ---- of a list all are left, or the same
pub keep_all : (g : EndId → Bool) (es : List EndId) → All (λ e. g e ≡ false) es → filter (λ e. not (g e)) es ≡ es
keep_all g [] all = refl
keep_all g (e ∷ es) all =
    ap (λ (b : Bool). cond (not b) (e ∷ filter (λ x. not (g x)) es) (filter (λ x. not (g x)) es)) (All-head (λ x. g x ≡ false) e es all)
    ∙ ap (λ (ys : List EndId). e ∷ ys) (keep_all g es (All-tail (λ x. g x ≡ false) e es all))

pub none_of : (g : EndId → Bool) → ((e : EndId) → g e ≡ false) → (es : List EndId) → All (λ e. g e ≡ false) es
none_of g none [] = All-nil (λ e. g e ≡ false)
none_of g none (e ∷ es) = All-cons (λ e. g e ≡ false) e es (none e) (none_of g none es)

same_left : (f g : EndId → Bool) → ((e : EndId) → f e ≡ g e) → (es : List EndId) → filter (λ e. not (f e)) es ≡ filter (λ e. not (g e)) es
same_left f g same [] = refl
same_left f g same (e ∷ es) =
    ap (λ (b : Bool). cond (not b) (e ∷ filter (λ x. not (f x)) es) (filter (λ x. not (f x)) es)) (same e)
    ∙ ap (λ (ys : List EndId). cond (not (g e)) (e ∷ ys) ys) (same_left f g same es)

eqb_turned : (m n : ℕ) → (m == n) ≡ (n == m)
eqb_turned m n =
    elim (cases_eq m n) [
      | inl same ↦ eq-eqb m n same ∙ sym (eq-eqb n m (sym same))
      | inr other ↦ ne_eqb m n other ∙ sym (ne_eqb n m (λ same. other (sym same)))
    ]

end_turned : (d e : EndId) → is_end d e ≡ is_end e d
end_turned d e = ap (λ (b : Bool). b && same_side d.a e.a) (eqb_turned d.pair.0 e.pair.0) ∙ ap (λ (b : Bool). e.pair.0 == d.pair.0 && b) (sides d.a e.a)
  where
    sides : (x y : Bool) → same_side x y ≡ same_side y x
    sides true true = refl
    sides true false = refl
    sides false true = refl
    sides false false = refl

-- an end that is acknowledged goes
pub acked : (e : EndId) (at : ℕ) (d : EndId) → is_end e d ≡ goes_by d (word_moves at (PipeTermAck e))
acked e at d = end_turned e d ∙ by (is_end d e)
  where
    by : (b : Bool) → b ≡ ((b && true) || false)
    by true = refl
    by false = refl

pub without_acked : (e : EndId) (at : ℕ) (es : List EndId) → filter (λ d. not (is_end e d)) es ≡ filter (λ d. not (goes_by d (word_moves at (PipeTermAck e)))) es
without_acked e at es = same_left (is_end e) (λ d. goes_by d (word_moves at (PipeTermAck e))) (acked e at) es
