-- What an event leaves of the numbers of workers and mailboxes, and of the list of closed sockets.
use Rattle.std.specs.Prelude.{◌≡◌, ◌+◌, ℕ, true, false, not, List, [], ◌∷◌, ◌++◌, Option, Some, None, filter, length, refl}
use Rattle.std.proofs.Common.{arith, sym, ap, ◌∙◌, append-nil}
use Rattle.zq_base.specs.declared.ids.Settled.{Settled}
use Rattle.zq_base.specs.declared.ids.ObjId.{ObjId}
use Rattle.zq_base.specs.declared.ids.EndId.{EndId}
use Rattle.zq_base.specs.declared.endpoint.Address.{Address}
use Rattle.zq_base.specs.declared.endpoint.Endpoint.{Endpoint}
use Rattle.zq_base.specs.declared.endpoint.Endpoint.TheVariants.{Inproc, Tcp}
use Rattle.spec_control.specs.declared.end.EndEvent.TheVariants.{DelimiterSeen}
use Rattle.spec_control.specs.declared.letter.Word.{Word}
use Rattle.spec_control.specs.declared.letter.Word.TheVariants.{Own, Plug, PipeBind}
use Rattle.spec_control.specs.declared.request.Req.{Req}
use Rattle.spec_control.specs.declared.request.Req.TheVariants.{Socket as MakeSocket, AskTerm, Bind, Connect, Unbind, Disconnect, Close, Accepted, Shaken, AskEnd, AskOver, OutputOver}
use Rattle.spec_control.specs.Hold.{Bound, Joined, is_bind_to, is_connect_to}
use Rattle.spec_control.specs.EndpointBook.{is_fulfilled}
use Rattle.spec_control.specs.Register.{fulfilled_by, waiting_now}
use Rattle.spec_control.specs.Row.{RootAsked}
use Rattle.spec_control.specs.Rows.{obj}
use Rattle.spec_control.specs.Control.{Control, end_of, id, next_object, next_pair, put, makes, draws, open_pair, owner_of, link, stop_sockets, happens, ask, try_end}
use Rattle.spec_control.specs.After.{Answers, with_hold, named, binding_by, binds, connects, session_row, pair_or_none, uses_reason, requested, settle, strikes_first, processed}
use Rattle.replay_laws.proofs.EraseLemmas as small

-- workers, mailboxes and closed sockets stay
pub record Framed (c d : Control) : Type 0 where
  pub workers : d.workers ≡ c.workers
  pub slots : d.slots ≡ c.slots
  pub closed : d.closed ≡ c.closed

-- the control plane with those of another
abbrev framed_as : Control → Control → Control
framed_as c d = record d { workers = c.workers; slots = c.slots; closed = c.closed }

of_framed : (c d : Control) → framed_as c d ≡ d → Framed c d
of_framed c d p = record { workers = sym (ap (λ (x : Control). x.workers) p); slots = sym (ap (λ (x : Control). x.slots) p); closed = sym (ap (λ (x : Control). x.closed) p) }

abbrev same : {A : Type 0} → A → A
same x = x

settled_so : (c : Control) (e : EndId) (counts : Option Settled) (d : Control) → framed_as c (settle e counts d) ≡ settle e counts (framed_as c d)
settled_so c e None d = refl
settled_so c e (Some counts) d = refl

module _ (c : Control) where
  abbrev ws : ℕ → ℕ
  ws x = c.workers

  abbrev ss : ℕ → ℕ
  ss x = c.slots

  abbrev cs : List ObjId → List ObjId
  cs x = c.closed

  pub processed_framed : (at : ℕ) (word : Word) (h : Answers) → Framed c (processed at word h c)
  processed_framed at word h = of_framed c (processed at word h c) (small.was_processed ws ss cs same same (settled_so c) at word h c)

  pub delimited_framed : (e : EndId) → Framed c (happens DelimiterSeen e c)
  delimited_framed e = of_framed c (happens DelimiterSeen e c) (small.happened ws ss cs same same DelimiterSeen e c)

  bound : (h : Answers) (i : ℕ) (name : List ℕ) → Framed c (binds i (Inproc name) h c)
  bound h i name =
      let at : Endpoint = Inproc name in
      let held : Control = with_hold i (Bound at None) (named i at (binding_by i c) c) in
      of_framed c (binds i at h c) (small.fulfilled ws ss cs same same h i at (fulfilled_by at (binding_by i c) c.names)
      (record held { names = waiting_now (filter (λ w. not (is_fulfilled at (binding_by i c) w)) held.names.waiting) held.names }))

  connected : (h : Answers) (i : ℕ) (name : List ℕ) → Framed c (connects i (Inproc name) h c)
  connected h i name = of_framed c (connects i (Inproc name) h c) (small.connected_to ws ss cs same same h i (Inproc name) (c.names.held (Inproc name)) c)

  -- with a mailbox more
  dialled : (h : Answers) (i : ℕ) (address : Address) → Framed (record c { slots = c.slots + 1 }) (connects i (Tcp address) h c)
  dialled h i address =
      let at : Endpoint = Tcp address in
      let more : Control = record c { slots = c.slots + 1 } in
      let child : ℕ = next_object c in
      let mine : EndId = end_of (next_pair c) true in
      let made : Control = draws i child (makes (session_row i c) (with_hold i (Joined at (next_pair c) (Some child)) c)) in
      of_framed more (connects i at h c) (small.greeted (λ x. c.workers) (λ x. c.slots + 1) (λ x. c.closed) same same (h.kind mine) mine (open_pair mine (Plug (Some (end_of (next_pair c) false))) (put i (Own (id child)) made)))

-- a listener or a session is made for this endpoint
abbrev pub boxes_at : Endpoint → ℕ
boxes_at (Inproc name) = 0
boxes_at (Tcp address) = 1

-- the mailboxes that a request makes, one with each object, and the sockets that it closes
abbrev pub boxes_made : Req → ℕ
boxes_made (MakeSocket kind options) = 1
boxes_made AskTerm = 0
boxes_made (Bind o at) = boxes_at at
boxes_made (Connect o at) = boxes_at at
boxes_made (Unbind o at) = 0
boxes_made (Disconnect o at) = 0
boxes_made (Close o) = 0
boxes_made (Accepted o) = 1
boxes_made (Shaken o peer) = 0
boxes_made (AskEnd e reason) = 0
boxes_made (AskOver o) = 0
boxes_made (OutputOver o) = 0

abbrev pub closings : Req → List ObjId
closings (MakeSocket kind options) = []
closings AskTerm = []
closings (Bind o at) = []
closings (Connect o at) = []
closings (Unbind o at) = []
closings (Disconnect o at) = []
closings (Close o) = o ∷ []
closings (Accepted o) = []
closings (Shaken o peer) = []
closings (AskEnd e reason) = []
closings (AskOver o) = []
closings (OutputOver o) = []

-- what a request does to them
pub record Requested (req : Req) (c d : Control) : Type 0 where
  pub workers : d.workers ≡ c.workers
  pub slots : d.slots ≡ c.slots + boxes_made req
  pub closed : d.closed ≡ c.closed ++ closings req

plainly : (req : Req) (c d : Control) → boxes_made req ≡ 0 → closings req ≡ [] → Framed c d → Requested req c d
plainly req c d none no_one f = record {
  workers = f.workers;
  slots = (let s = f.slots in omega (arith, s, none));
  closed = f.closed ∙ sym (append-nil c.closed) ∙ ap (λ l. c.closed ++ l) (sym no_one);
}

plainly_more : (req : Req) (c d : Control) → boxes_made req ≡ 1 → closings req ≡ [] → Framed (record c { slots = c.slots + 1 }) d → Requested req c d
plainly_more req c d one no_one f = record {
  workers = f.workers;
  slots = (let s = f.slots in omega (arith, s, one));
  closed = f.closed ∙ sym (append-nil c.closed) ∙ ap (λ l. c.closed ++ l) (sym no_one);
}

pub requested_framed : (req : Req) (h : Answers) (c : Control) → Requested req c (requested req h c)
requested_framed (MakeSocket kind options) h c = record { workers = refl; slots = refl; closed = sym (append-nil c.closed) }
requested_framed AskTerm h c =
    let asked : Control = link RootAsked 0 c in
    let told : Control = stop_sockets (length c.rows.objects) asked in
    plainly AskTerm c (requested AskTerm h c) refl refl
    (of_framed c (try_end 0 h.left told)
    (small.tried (ws c) (ss c) (cs c) same same 0 h.left told ∙ ap (try_end 0 h.left) (small.stopped (ws c) (ss c) (cs c) same same (length c.rows.objects) asked)))
requested_framed (Bind o (Inproc name)) h c = (let req : Req = Bind o (Inproc name) in plainly req c (requested req h c) refl refl (bound c h o.0 name))
requested_framed (Bind o (Tcp address)) h c = record { workers = refl; slots = refl; closed = sym (append-nil c.closed) }
requested_framed (Connect o (Inproc name)) h c = (let req : Req = Connect o (Inproc name) in plainly req c (requested req h c) refl refl (connected c h o.0 name))
requested_framed (Connect o (Tcp address)) h c = (let req : Req = Connect o (Tcp address) in plainly_more req c (requested req h c) refl refl (dialled c h o.0 address))
requested_framed (Unbind o at) h c =
    plainly (Unbind o at) c (requested (Unbind o at) h c) refl refl (of_framed c (strikes_first o.0 at (is_bind_to at) c) (small.struck_first (ws c) (ss c) (cs c) same same o.0 at (is_bind_to at) c))
requested_framed (Disconnect o at) h c =
    plainly (Disconnect o at) c (requested (Disconnect o at) h c) refl refl (of_framed c (strikes_first o.0 at (is_connect_to at) c) (small.struck_first (ws c) (ss c) (cs c) same same o.0 at (is_connect_to at) c))
requested_framed (Close o) h c = record { workers = refl; slots = omega arith; closed = refl }
requested_framed (Accepted o) h c = record { workers = refl; slots = refl; closed = sym (append-nil c.closed) }
requested_framed (Shaken o peer) h c =
    let mine : EndId = end_of (pair_or_none (obj c.rows o.0).pair) true in
    plainly (Shaken o peer) c (requested (Shaken o peer) h c) refl refl
    (of_framed c (requested (Shaken o peer) h c) (small.greeted (ws c) (ss c) (cs c) same same (h.kind mine) mine (open_pair mine (PipeBind (end_of mine.pair.0 false) peer.identity) c)))
requested_framed (AskEnd e reason) h c =
    plainly (AskEnd e reason) c (requested (AskEnd e reason) h c) refl refl
    (of_framed c (requested (AskEnd e reason) h c) (small.asked_one (ws c) (ss c) (cs c) same same reason false e (uses_reason reason (owner_of c e) c)
    ∙ ap (ask reason false e) (small.used_reason (ws c) (ss c) (cs c) same same reason (owner_of c e) c)))
requested_framed (AskOver o) h c = plainly (AskOver o) c (requested (AskOver o) h c) refl refl (record { workers = refl; slots = refl; closed = refl })
requested_framed (OutputOver o) h c = plainly (OutputOver o) c (requested (OutputOver o) h c) refl refl (of_framed c (requested (OutputOver o) h c) (small.tried (ws c) (ss c) (cs c) same same o.0 h.left c))
