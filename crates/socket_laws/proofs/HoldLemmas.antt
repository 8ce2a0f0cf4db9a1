-- The pipes that a socket's request makes hold the messages that they hold in a run.
use Rattle.std.specs.Prelude.{◌≡◌, ◌≤◌, ◌<◌, ◌+◌, ◌++◌, ℕ, zero, suc, Bool, true, false, not, cond, List, [], ◌∷◌, Option, Some, None, All, filter, find, length, slice_get, slice_index_or, refl}
use Rattle.std.proofs.Common.{arith, sym, ap, ◌∙◌, subst, length-set, length-append, true≢false}
use Rattle.std.proofs.Math.ListN.{get_or-append}
use Rattle.std.proofs.lemmas.List.{get_or_push}
use Rattle.std.proofs.lemmas.List.Elements.{All-head, All-tail}
use Rattle.zq_base.specs.declared.endpoint.Address.{Address}
use Rattle.zq_base.specs.declared.endpoint.Endpoint.{Endpoint}
use Rattle.zq_base.specs.declared.endpoint.Endpoint.TheVariants.{Inproc, Tcp}
use Rattle.zq_base.specs.declared.ids.EndId.{EndId}
use Rattle.zq_base.specs.Ends.{PipeId, other_end}
use Rattle.spec_control.specs.declared.book.Binding.{Binding}
use Rattle.spec_control.specs.declared.book.Waiting.{Waiting}
use Rattle.spec_control.specs.declared.entry.Did.TheVariants.{Asked as DidAsk}
use Rattle.spec_control.specs.declared.entry.Item.{Item}
use Rattle.spec_control.specs.declared.letter.Word.TheVariants.{Own, PipeBind, Plug}
use Rattle.spec_control.specs.declared.object.ObjKind.{ObjKind}
use Rattle.spec_control.specs.declared.object.ObjKind.TheVariants.{Root, Socket, Listener, Session}
use Rattle.spec_control.specs.declared.request.Req.{Req}
use Rattle.spec_control.specs.declared.request.Req.TheVariants.{Socket as MakeSocket, AskTerm, Bind, Connect, Unbind, Disconnect, Close, Accepted, Shaken, AskEnd, AskOver, OutputOver}
use Rattle.spec_control.specs.declared.request.Reply.{Reply}
use Rattle.spec_control.specs.declared.request.Reply.TheVariants.{Done, Object, Pair, Both, Wait, Asked, Before, Refused}
use Rattle.spec_control.specs.Hold.{Joined, fulfil}
use Rattle.spec_control.specs.Place.{Unmade}
use Rattle.spec_control.specs.PairPhase.{Opens}
use Rattle.spec_control.specs.Register.{fulfilled_by}
use Rattle.spec_control.specs.Row.{Row, nobody, is_socket, is_session}
use Rattle.spec_control.specs.Rows.{PairRow, no_pair, obj, end_owner, pair, pair_after}
use Rattle.spec_control.specs.Control.{Control, Settlement, begun, with_value, is_end, end_of, id, makes, next_object, next_pair, owner_of, draws, open_pair, put}
use Rattle.spec_control.specs.After.{Answers, answers_in, with_hold, binding_by, joins, fulfil_all, connects_to, requested, answered, session_row}
use Rattle.spec_control.specs.ControlRun.{after_all, after_item, Fits, FitsItem, MayAsk}
use Rattle.control_laws.specs.Kept.{Kept, IsUnasked}
use Rattle.control_laws.proofs.AttachLemmas.{attach_moved, greets}
use Rattle.control_laws.proofs.RootLemmas.{runs_are_kept}
use Rattle.control_laws.proofs.FateLemmas.{answered_same}
use Rattle.control_laws.proofs.GoLemmas.{greet_goes}
use Rattle.control_laws.proofs.JoinGoLemmas.{free_pairs, joins_objects, joins_pairs}
use Rattle.control_laws.proofs.SlotLemmas.{dial_objects}
use Rattle.control_laws.proofs.SoundLemmas.{socket_there}
use Rattle.desk.specs.Asking.{IsOfSockets}
use Rattle.desk.specs.Making.{between, bind_makes, capacity_between, connect_makes, outward, request_makes, MadeEnd}
use Rattle.socket_laws.specs.Hold.{is_done, HoldSo, MadePipesHold}
use Rattle.spec_run.specs.OwnedRun.{marks_between, marks_by_sort, pipe_capacity}

not_not : (b : Bool) → not (not b) ≡ b
not_not true = refl
not_not false = refl

other_twice : (e : EndId) → other_end (other_end e) ≡ e
other_twice e = ap (end_of e.pair.0) (not_not e.a)

-- ---- whose the ends are of pairs that are made

drawn_owner : (x y : ℕ) (a : Bool) → end_owner (record { a_owner = x; b_owner = y; a = Unmade; b = Unmade }) a ≡ cond a x y
drawn_owner x y true = refl
drawn_owner x y false = refl

joins_owner : (c : Control) (x y : ℕ) (a : Bool) (h : Answers) (e : EndId) → owner_of (joins x y a h c) e ≡ owner_of (draws x y c) e
joins_owner c x y a h e =
    (greets true (h.kind first) first (open_pair first (PipeBind (end_of (next_pair c) (not a)) (obj c.rows (owner_of (draws x y c) first)).options.id) (draws x y c))).leaves.owners e
    ∙ (attach_moved (draws x y c) Opens first (let n = length-append c.rows.pairs (record { a_owner = x; b_owner = y; a = Unmade; b = Unmade } ∷ []) in omega (arith, n))).owners e
  where
    first : EndId
    first = end_of (next_pair c) a

joins_old : (c : Control) (x y : ℕ) (a : Bool) (h : Answers) (e : EndId) → e.pair.0 < next_pair c → owner_of (joins x y a h c) e ≡ owner_of c e
joins_old c x y a h e lt = joins_owner c x y a h e ∙ ap (λ (p : PairRow). end_owner p e.a) (get_or-append c.rows.pairs (record { a_owner = x; b_owner = y; a = Unmade; b = Unmade } ∷ []) no_pair e.pair.0 lt)

joins_new : (c : Control) (x y : ℕ) (a : Bool) (h : Answers) (b : Bool) → owner_of (joins x y a h c) (end_of (next_pair c) b) ≡ cond b x y
joins_new c x y a h b =
    joins_owner c x y a h (end_of (next_pair c) b)
    ∙ ap (λ (p : PairRow). end_owner p b) (get_or_push c.rows.pairs (record { a_owner = x; b_owner = y; a = Unmade; b = Unmade }) no_pair (next_pair c) refl) ∙ drawn_owner x y b

-- behind a bind that fulfils these connects
record Fulfils (i : ℕ) (ws : List Waiting) (c d : Control) : Type 0 where
  objects : d.rows.objects ≡ c.rows.objects
  pairs : next_pair d ≡ next_pair c + length ws
  old : (e : EndId) → e.pair.0 < next_pair c → owner_of d e ≡ owner_of c e
  new : (n : ℕ) (w : Waiting) (b : Bool) → slice_get ws n ≡ Some w → owner_of d (end_of (next_pair c + n) b) ≡ cond b w.waiter.0 i

none_some : {X : Type 0} {x : X} → None ≡ Some x → ⊥
none_some e = Prim.grind arith

some_is : {X : Type 0} {x y : X} → Some x ≡ Some y → x ≡ y
some_is e = Prim.grind (arith, e)

module _ (i : ℕ) (at : Endpoint) (h : Answers) where
  abbrev joined_now : Waiting → Control → Control
  joined_now w c = let joined : Control = joins w.waiter.0 i false h c in record joined { holds = with_value w.waiter.0 (fulfil at (next_pair c) (joined.holds w.waiter.0)) joined.holds }

  one_more : (w : Waiting) (ws : List Waiting) (c d : Control) → Fulfils i ws (joined_now w c) d → Fulfils i (w ∷ ws) c d
  one_more w ws c d rest = record {
    objects = rest.objects ∙ joins_objects c w.waiter.0 i false h;
    pairs = let p = rest.pairs in omega (arith, p, one);
    old = λ e lt. rest.old e (omega (arith, lt, one)) ∙ joins_old c w.waiter.0 i false h e lt;
    new = new;
  }
    where
      one : next_pair (joined_now w c) ≡ next_pair c + 1
      one = joins_pairs c w.waiter.0 i false h

      new : (n : ℕ) (v : Waiting) (b : Bool) → slice_get (w ∷ ws) n ≡ Some v → owner_of d (end_of (next_pair c + n) b) ≡ cond b v.waiter.0 i
      new zero v b g =
          ap (λ (k : ℕ). owner_of d (end_of k b)) (omega arith)
          ∙ rest.old (end_of (next_pair c) b) (omega (arith, one)) ∙ joins_new c w.waiter.0 i false h b ∙ ap (λ (x : Waiting). cond b x.waiter.0 i) (some_is g)
      new (suc n) v b g = ap (λ (k : ℕ). owner_of d (end_of k b)) (omega (arith, one)) ∙ rest.new n v b g

  fulfils : (ws : List Waiting) (c : Control) → Fulfils i ws c (fulfil_all i at ws h c)
  fulfils [] c = record { objects = refl; pairs = omega arith; old = λ e lt. refl; new = λ n w b g. absurd (none_some g) }
  fulfils (w ∷ ws) c = one_more w ws c (fulfil_all i at ws h (joined_now w c)) (fulfils ws (joined_now w c))

-- ---- how many messages their pipes hold

no_session : (k : ObjKind) → is_socket k ≡ true → is_session k ≡ false
no_session Root h = refl
no_session (Socket kind) h = refl
no_session Listener h = refl
no_session Session h = absurd (true≢false (sym h))

marks_of_sockets : (writer reader : Row) → is_socket writer.kind ≡ true → is_socket reader.kind ≡ true → marks_between writer reader ≡ writer.options.hwm + reader.options.rcvhwm
marks_of_sockets writer reader w r = by (is_session writer.kind) (is_session reader.kind) refl refl
  where
    by : (x y : Bool) → is_session writer.kind ≡ x → is_session reader.kind ≡ y → marks_between writer reader ≡ writer.options.hwm + reader.options.rcvhwm
    by true y f g = absurd (true≢false (sym f ∙ no_session writer.kind w))
    by false true f g = absurd (true≢false (sym g ∙ no_session reader.kind r))
    by false false f g = rw f (rw g refl)

-- the pipe between two sockets
holds_between : (c d : Control) (p : PipeId) (writer reader : ℕ) → d.rows.objects ≡ c.rows.objects → owner_of d p ≡ writer → owner_of d (other_end p) ≡ reader → is_socket (obj c.rows writer).kind ≡ true → is_socket (obj c.rows reader).kind ≡ true
    → capacity_between c writer reader ≡ pipe_capacity d p
holds_between c d p writer reader same w r w_socket r_socket = sym (
    ap (λ (n : ℕ). marks_between (obj d.rows n) (obj d.rows (owner_of d (other_end p)))) w ∙ ap (λ (n : ℕ). marks_between (obj d.rows writer) (obj d.rows n)) r
    ∙ ap (λ (l : List Row). marks_between (slice_index_or l writer nobody) (slice_index_or l reader nobody)) same ∙ marks_of_sockets (obj c.rows writer) (obj c.rows reader) w_socket r_socket)

-- a pair of a socket and its peer, which got its number
record IsJoined (c d : Control) (o : ℕ) (e : EndId) (peer : ℕ) : Type 0 where
  objects : d.rows.objects ≡ c.rows.objects
  drawn : next_pair c ≤ e.pair.0
  numbered : e.pair.0 < next_pair d
  mine : owner_of d e ≡ o
  theirs : owner_of d (other_end e) ≡ peer
  is_peer : is_socket (obj c.rows peer).kind ≡ true

-- ---- which pairs a request makes

record Waits (c : Control) (o k : ℕ) (ws : List Waiting) (n : ℕ) (x : MadeEnd) : Type 0 where
  waiting : Waiting
  there : slice_get ws n ≡ Some waiting
  made_is : x ≡ between c (end_of (k + n) false) o waiting.waiter.0

waits : (c : Control) (o k : ℕ) (ws : List Waiting) (n : ℕ) (x : MadeEnd) → slice_get (bind_makes c o k ws) n ≡ Some x → Waits c o k ws n x
waits c o k [] n x g = absurd (none_some g)
waits c o k (w ∷ ws) zero x g = record {
  waiting = w;
  there = refl;
  made_is = sym (some_is g) ∙ ap (λ (n : ℕ). between c (end_of n false) o w.waiter.0) (omega arith);
}
waits c o k (w ∷ ws) (suc n) x g =
    let rest = waits c o (k + 1) ws n x g in
    record { waiting = rest.waiting; there = rest.there; made_is = rest.made_is ∙ ap (λ (m : ℕ). between c (end_of m false) o rest.waiting.waiter.0) (omega arith) }

within : {X : Type 0} (xs : List X) (n : ℕ) (x : X) → slice_get xs n ≡ Some x → n < length xs
within [] n x g = absurd (none_some g)
within (y ∷ xs) zero x g = omega arith
within (y ∷ xs) (suc n) x g = let lt = within xs n x g in omega (arith, lt)

among : {X : Type 0} (P : X → Type 0) (f : X → Bool) (xs : List X) → All P xs → (n : ℕ) (x : X) → slice_get (filter f xs) n ≡ Some x → P x
among P f [] all n x g = absurd (none_some g)
among {X = X} P f (y ∷ xs) all n x g = by (among P f xs (All-tail P y xs all)) (f y) n g
  where
    by : ((m : ℕ) (z : X) → slice_get (filter f xs) m ≡ Some z → P z) → (b : Bool) (n : ℕ) → slice_get (cond b (y ∷ filter f xs) (filter f xs)) n ≡ Some x → P x
    by rest true zero h = subst P (some_is h) (All-head P y xs all)
    by rest true (suc m) h = rest m x h
    by rest false m h = rest m x h

-- the pair of an end that was made got its number, and its pipes hold so many messages behind the request
record HoldsBehind (c now : Control) (x : MadeEnd) : Type 0 where
  drawn : next_pair c ≤ x.end.pair.0
  numbered : x.end.pair.0 < next_pair now
  written_is : x.written ≡ pipe_capacity now x.end
  read_is : x.read ≡ pipe_capacity now (other_end x.end)

between_holds : (c now : Control) (o : ℕ) (e : EndId) (peer : ℕ) → is_socket (obj c.rows o).kind ≡ true → IsJoined c now o e peer → HoldsBehind c now (between c e o peer)
between_holds c now o e peer own all = record {
  drawn = all.drawn;
  numbered = all.numbered;
  written_is = holds_between c now e o peer all.objects all.mine all.theirs own all.is_peer;
  read_is = holds_between c now (other_end e) peer o all.objects all.theirs (ap (owner_of now) (other_twice e) ∙ all.mine) all.is_peer own;
}

module _ (c : Control) (kept : Kept c) (h : Answers) where
  bind_holds : (i : ℕ) (name : List ℕ) (n : ℕ) (x : MadeEnd) → is_socket (obj c.rows i).kind ≡ true → slice_get (bind_makes c i (next_pair c) (fulfilled_by (Inproc name) (binding_by i c) c.names)) n ≡ Some x → HoldsBehind c (requested (Bind (id i) (Inproc name)) h c) x
  bind_holds i name n x own g = subst (HoldsBehind c now) (sym is.made_is) (between_holds c now i (end_of (next_pair c + n) false) is.waiting.waiter.0 own joined)
    where
      now : Control
      now = requested (Bind (id i) (Inproc name)) h c

      ws : List Waiting
      ws = fulfilled_by (Inproc name) (binding_by i c) c.names

      is : Waits c i (next_pair c) ws n x
      is = waits c i (next_pair c) ws n x g

      all : Fulfils i ws c now
      all = let done = fulfils i (Inproc name) h ws _ in record { objects = done.objects; pairs = done.pairs; old = done.old; new = done.new }

      joined : IsJoined c now i (end_of (next_pair c + n) false) is.waiting.waiter.0
      joined = record {
        objects = all.objects;
        drawn = omega arith;
        numbered = let p = all.pairs in let lt = within ws n is.waiting is.there in omega (arith, p, lt);
        mine = all.new n is.waiting false is.there;
        theirs = all.new n is.waiting true is.there;
        is_peer = (among (λ (w : Waiting). IsUnasked c.rows w.waiter.0) _ c.names.waiting kept.names.waiters n is.waiting is.there).socket;
      }

  connect_holds : (i : ℕ) (name : List ℕ) (n : ℕ) (x : MadeEnd) → is_socket (obj c.rows i).kind ≡ true → slice_get (connect_makes c i (c.names.held (Inproc name))) n ≡ Some x → HoldsBehind c (requested (Connect (id i) (Inproc name)) h c) x
  connect_holds i name n x own g = by (c.names.held (Inproc name)) n refl g
    where
      by : (b : Option Binding) (n : ℕ) → c.names.held (Inproc name) ≡ b → slice_get (connect_makes c i b) n ≡ Some x → HoldsBehind c (connects_to i (Inproc name) b h c) x
      by None n held g = absurd (none_some g)
      by (Some binding) (suc n) held g = absurd (none_some g)
      by (Some binding) zero held g = subst (HoldsBehind c (connects_to i (Inproc name) (Some binding) h c)) (some_is g)
          (between_holds c (connects_to i (Inproc name) (Some binding) h c) i (end_of (next_pair c) true) binding.holder.0 own joined)
        where
          found : Control
          found = with_hold i (Joined (Inproc name) (next_pair c) None) c

          joined : IsJoined c (connects_to i (Inproc name) (Some binding) h c) i (end_of (next_pair c) true) binding.holder.0
          joined = record {
            objects = joins_objects found i binding.holder.0 true h;
            drawn = omega arith;
            numbered = let p = joins_pairs found i binding.holder.0 true h in omega (arith, p);
            mine = joins_new found i binding.holder.0 true h true;
            theirs = joins_new found i binding.holder.0 true h false;
            is_peer = (kept.names.holders (Inproc name) binding held).socket;
          }

  -- between a socket and its session
  module _ (i : ℕ) (address : Address) (own : is_socket (obj c.rows i).kind ≡ true) where
    abbrev child : ℕ
    child = next_object c

    abbrev mine : EndId
    mine = end_of (next_pair c) true

    abbrev drawn_now : Control
    drawn_now = put i (Own (id (next_object c))) (draws i (next_object c) (makes (session_row i c) (with_hold i (Joined (Tcp address) (next_pair c) (Some (next_object c))) c)))

    abbrev opened : Control
    opened = open_pair (end_of (next_pair c) true) (Plug (Some (end_of (next_pair c) false))) drawn_now

    abbrev now : Control
    now = requested (Connect (id i) (Tcp address)) h c

    there : next_pair c < length drawn_now.rows.pairs
    there = let n = length-append c.rows.pairs (record { a_owner = i; b_owner = next_object c; a = Unmade; b = Unmade } ∷ []) in omega (arith, n)

    owned : (b : Bool) → owner_of (requested (Connect (id i) (Tcp address)) h c) (end_of (next_pair c) b) ≡ cond b i (next_object c)
    owned b =
        (greets true (h.kind mine) mine opened).leaves.owners (end_of (next_pair c) b)
        ∙ (attach_moved drawn_now Opens mine there).owners (end_of (next_pair c) b)
        ∙ ap (λ (p : PairRow). end_owner p b) (get_or_push c.rows.pairs (record { a_owner = i; b_owner = next_object c; a = Unmade; b = Unmade }) no_pair (next_pair c) refl)
        ∙ drawn_owner i (next_object c) b

    -- the socket's row is as it was, and the session's is there
    objects : (requested (Connect (id i) (Tcp address)) h c).rows.objects ≡ c.rows.objects ++ session_row i c ∷ []
    objects = dial_objects i address h c

    socket_is : obj (requested (Connect (id i) (Tcp address)) h c).rows i ≡ obj c.rows i
    socket_is = ap (λ (os : List Row). slice_index_or os i nobody) objects ∙ get_or-append c.rows.objects (session_row i c ∷ []) nobody i (socket_there c.rows i own)

    session_is : obj (requested (Connect (id i) (Tcp address)) h c).rows (next_object c) ≡ session_row i c
    session_is = ap (λ (os : List Row). slice_index_or os (next_object c) nobody) objects ∙ get_or_push c.rows.objects (session_row i c) nobody (next_object c) refl

    dial_holds : HoldsBehind c (requested (Connect (id i) (Tcp address)) h c) (outward (obj c.rows i).options (end_of (next_pair c) true))
    dial_holds = record {
      drawn = omega arith;
      numbered =
          let pairs = free_pairs opened now (greet_goes (h.kind mine) mine opened) in
          let set = length-set drawn_now.rows.pairs (next_pair c) (pair_after Opens true (pair drawn_now.rows (next_pair c))) in
          let n = length-append c.rows.pairs (record { a_owner = i; b_owner = next_object c; a = Unmade; b = Unmade } ∷ []) in
          omega (arith, pairs, set, n);
      written_is = sym (
          ap (λ (n : ℕ). marks_between (obj now.rows n) (obj now.rows (owner_of now (end_of (next_pair c) false)))) (owned true)
          ∙ ap (λ (n : ℕ). marks_between (obj now.rows i) (obj now.rows n)) (owned false)
          ∙ ap (λ (o : Row). marks_between o (obj now.rows (next_object c))) socket_is
          ∙ ap (λ (o : Row). marks_between (obj c.rows i) o) session_is
          ∙ outward_marks);
      read_is = sym (
          ap (λ (n : ℕ). marks_between (obj now.rows n) (obj now.rows (owner_of now (end_of (next_pair c) true)))) (owned false)
          ∙ ap (λ (n : ℕ). marks_between (obj now.rows (next_object c)) (obj now.rows n)) (owned true)
          ∙ ap (λ (o : Row). marks_between o (obj now.rows i)) session_is
          ∙ ap (λ (o : Row). marks_between (session_row i c) o) socket_is);
    }
      where
        outward_marks : marks_between (obj c.rows i) (session_row i c) ≡ (obj c.rows i).options.hwm
        outward_marks = ap (λ (b : Bool). marks_by_sort b true (obj c.rows i).options (obj c.rows i).options) (no_session (obj c.rows i).kind own)

  alone : (P : MadeEnd → Type 0) (y : MadeEnd) → P y → (n : ℕ) (x : MadeEnd) → slice_get (y ∷ []) n ≡ Some x → P x
  alone P y is zero x g = subst P (some_is g) is
  alone P y is (suc n) x g = absurd (none_some g)

  request_holds : (req : Req) (n : ℕ) (x : MadeEnd) → IsOfSockets true req → MayAsk c req → slice_get (request_makes c req) n ≡ Some x → HoldsBehind c (requested req h c) x
  request_holds (Bind i (Inproc name)) n x of may g = bind_holds i.0 name n x may.socket g
  request_holds (Connect i (Inproc name)) n x of may g = connect_holds i.0 name n x may.socket g
  request_holds (Bind i (Tcp address)) n x of may g = absurd (none_some g)
  request_holds (Connect i (Tcp address)) n x of may g = alone (HoldsBehind c (requested (Connect i (Tcp address)) h c)) (outward (obj c.rows i.0).options (end_of (next_pair c) true)) (dial_holds i.0 address may.socket) n x g
  request_holds (MakeSocket kind options) n x of may g = absurd (none_some g)
  request_holds AskTerm n x of may g = absurd (none_some g)
  request_holds (Unbind i at) n x of may g = absurd (none_some g)
  request_holds (Disconnect i at) n x of may g = absurd (none_some g)
  request_holds (Close i) n x of may g = absurd (none_some g)
  request_holds (Accepted i) n x of may g = absurd of
  request_holds (Shaken i peer) n x of may g = absurd of
  request_holds (AskEnd e reason) n x of may g = absurd of
  request_holds (AskOver i) n x of may g = absurd of
  request_holds (OutputOver i) n x of may g = absurd of

done_so : (req : Req) (reply : Reply) (h : Answers) (c : Control) → is_done reply ≡ true → answered req reply h c ≡ requested req h c
done_so req Done h c g = refl
done_so req (Object o) h c g = refl
done_so req (Pair p) h c g = refl
done_so req (Both o p) h c g = refl
done_so req Wait h c g = refl
done_so req Asked h c g = refl
done_so req Before h c g = absurd (true≢false (sym g))
done_so req (Refused refusal) h c g = absurd (true≢false (sym g))

pub made_pipes_hold : (N T : Type 0) → MadePipesHold N T
made_pipes_hold N T io items item run fits req reply is granted of e written read made =
    subst (λ (x : Item N T). FitsItem (after_all items (begun io)) x → HoldSo (after_all items (begun io)) (after_item x (after_all items (begun io))) e written read) (sym is.item_is) holds fits
  where
    c : Control
    c = after_all items (begun io)

    kept : Kept c
    kept = runs_are_kept N T io items run

    holds : Fits c (DidAsk req reply is.answered) → HoldSo c (answered req reply (answers_in is.answered) c) e written read
    holds ok = record {
      drawn = all.drawn;
      numbered = all.numbered;
      written_is = all.written_is;
      read_is = all.read_is;
      settles_none = λ q none. ap (λ (ss : List Settlement). find (λ (s : Settlement). is_end (other_end q) s.end) ss) (answered_same req reply (answers_in is.answered) c) ∙ none;
    }
      where
        all : HoldsBehind c (answered req reply (answers_in is.answered) c) (record { end = e; written = written; read = read })
        all = subst (λ (d : Control). HoldsBehind c d (record { end = e; written = written; read = read })) (sym (done_so req reply (answers_in is.answered) c granted))
            (request_holds c kept (answers_in is.answered) req made.place (record { end = e; written = written; read = read }) of ok.may.0 made.among)
