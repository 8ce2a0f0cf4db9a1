-- The ends that join an open socket can be named.
use Rattle.std.specs.Prelude.{◌≡◌, ◌<◌, ◌≤◌, ◌+◌, ℕ, Bool, true, List, [], ◌∷◌, ◌++◌, Some, All, length, map, refl}
use Rattle.std.proofs.Common.{arith, sym, ap, ◌∙◌, subst}
use Rattle.std.proofs.lemmas.List.{length-map, length-append}
use Rattle.std.proofs.lemmas.List.Elements.{All-head, All-tail}
use Rattle.zq_base.specs.Message.{Frames}
use Rattle.zq_base.specs.declared.ids.EndId.{EndId}
use Rattle.zq_base.specs.declared.attached.Attached.{Attached}
use Rattle.zq_base.specs.declared.attached.Attached.TheVariants.{Yes, BadId, Second}
use Rattle.spec_pattern.specs.Pattern.{Pattern, Push, Pull, Pair, Dealer, Req as OfReq, Rep, Router, Pub, XPub, Sub, XSub, attach_as, taken_in, detach}
use Rattle.spec_pattern.specs.PatternCalls.{Change}
use Rattle.spec_pattern.specs.Topics.{Topic}
use Rattle.spec_control.specs.declared.entry.Joining.{Joining}
use Rattle.spec_control.specs.declared.entry.Did.{Did}
use Rattle.spec_control.specs.declared.entry.Did.TheVariants.{Asked, Delivered, Delimited}
use Rattle.spec_control.specs.declared.entry.Item.{Item}
use Rattle.spec_control.specs.declared.entry.Item.TheVariants.{Event, Seen}
use Rattle.spec_control.specs.declared.request.Req.{Req}
use Rattle.spec_control.specs.declared.request.Req.TheVariants.{Socket as MakeSocket, AskTerm, Bind, Connect, Unbind, Disconnect, Close, Accepted, Shaken, AskEnd, AskOver, OutputOver}
use Rattle.spec_control.specs.Row.{is_socket}
use Rattle.spec_control.specs.Rows.{obj}
use Rattle.spec_control.specs.Held.{asker}
use Rattle.control_laws.proofs.ListLemmas.{never}
use Rattle.control_laws.proofs.LawLemmas.{session_is}
use Rattle.spec_control.specs.Control.{Control, begun, ends_of}
use Rattle.spec_control.specs.ControlRun.{Fits, MayAsk, after_all}
use Rattle.spec_control.specs.Moments.{left_by}
use Rattle.control_laws.proofs.RootLemmas.{begun_kept}
use Rattle.desk.specs.Desk.{came_with}
use Rattle.spec_pattern.specs.Outcomes.{SendOutcome, RecvOutcome, ChangeOutcome, PumpOutcome, SendsSo, ReceivesSo, ChangesSo, PumpsSo}
use Rattle.router_dealer.specs.Named.{IsIdentity, most_drawn}
use Rattle.spec_run.specs.OpenSocket.{attach_all, detach_all}
use Rattle.sock_core.specs.Patterns.{CanJoin as CanJoinOne}
use Rattle.sock_core.specs.Way.{CanJoinAll}
use Rattle.socket_laws.specs.Open.{IsOf, moment_at, left_before, ComesTo}
use Rattle.socket_laws.specs.Bounds.{AreFew, TellsIdentity, TellsIdentityIn, TellIdentities, IdentitiesGoOn, drawn_of, CanJoin, EndsCanJoin, CallsDrawNone}
use Rattle.socket_laws.proofs.OpenLemmas.{none_some, some_is, had, after_more, run_before, run_last}
use Rattle.socket_laws.proofs.GoLemmas.{open_before, item_goes}
use Rattle.socket_laws.proofs.FewLemmas.{ends_are_few}
use Rattle.socket_laws.proofs.IdentityLemmas.{begun_says, says_over, item_tells}

-- ---- one end
can_join : (identity : List ℕ) (p : Pattern) → IsIdentity identity → drawn_of p < most_drawn → CanJoinOne identity p
can_join identity (Push outs) is few = tt
can_join identity (Pull ins) is few = tt
can_join identity (Pair t) is few = tt
can_join identity (Dealer t) is few = tt
can_join identity (OfReq t duty) is few = tt
can_join identity (Rep ins duty) is few = tt
can_join identity (Router r) is few = (is, few)
can_join identity (Pub p) is few = tt
can_join identity (XPub p) is few = tt
can_join identity (Sub s) is few = tt
can_join identity (XSub s) is few = tt

drawn_taken : (e : EndId) (identity : List ℕ) (p : Pattern) → drawn_of (taken_in e identity p) ≤ drawn_of p + 1
drawn_taken e identity (Push outs) = omega arith
drawn_taken e identity (Pull ins) = omega arith
drawn_taken e identity (Pair t) = omega arith
drawn_taken e identity (Dealer t) = omega arith
drawn_taken e identity (OfReq t duty) = omega arith
drawn_taken e identity (Rep ins duty) = omega arith
drawn_taken e [] (Router r) = omega arith
drawn_taken e (octet ∷ octets) (Router r) = omega arith
drawn_taken e identity (Pub p) = omega arith
drawn_taken e identity (XPub p) = omega arith
drawn_taken e identity (Sub s) = omega arith
drawn_taken e identity (XSub s) = omega arith

drawn_attached : (answer : Attached) (e : EndId) (identity : List ℕ) (p : Pattern) → drawn_of (attach_as answer e identity p) ≤ drawn_of p + 1
drawn_attached Yes e identity p = drawn_taken e identity p
drawn_attached BadId e identity p = omega arith
drawn_attached Second e identity p = omega arith

drawn_gone : (e : EndId) (p : Pattern) → drawn_of (detach e p) ≡ drawn_of p
drawn_gone e (Push outs) = refl
drawn_gone e (Pull ins) = refl
drawn_gone e (Pair t) = refl
drawn_gone e (Dealer t) = refl
drawn_gone e (OfReq t duty) = refl
drawn_gone e (Rep ins duty) = refl
drawn_gone e (Router r) = refl
drawn_gone e (Pub p) = refl
drawn_gone e (XPub p) = refl
drawn_gone e (Sub s) = refl
drawn_gone e (XSub s) = refl

drawn_left : (es : List EndId) (p : Pattern) → drawn_of (detach_all es p) ≡ drawn_of p
drawn_left [] p = refl
drawn_left (e ∷ es) p = drawn_left es (detach e p) ∙ drawn_gone e p

-- ---- ends in order
module _ {N : Type 0} where
  all_join : (js : List (Joining N)) (p : Pattern) → All (λ j. IsIdentity j.peer) js → drawn_of p + length js ≤ most_drawn → CanJoinAll js p
  all_join [] p tell few = tt
  all_join (j ∷ js) p tell few =
      let one = drawn_attached j.answer j.end j.peer p in (
        can_join j.peer p (All-head (λ x. IsIdentity x.peer) j js tell) (omega (arith, few)),
        all_join js (attach_as j.answer j.end j.peer p) (All-tail (λ x. IsIdentity x.peer) j js tell) (omega (arith, few, one)),
      )

  drawn_all : (js : List (Joining N)) (p : Pattern) → drawn_of (attach_all js p) ≤ drawn_of p + length js
  drawn_all [] p = omega arith
  drawn_all (j ∷ js) p =
      let one = drawn_attached j.answer j.end j.peer p in
      let rest = drawn_all js (attach_as j.answer j.end j.peer p) in
      omega (arith, one, rest)

module _ {N S : Type 0} (io : ℕ) (before : List (Item N S)) (item : Item N S) (o : ℕ) (comes_so : ComesTo io before item o) where
  many : length (ends_of o (left_by (moment_at io before item))) ≡ length (ends_of o (left_before io before item o)) + length (came_with item)
  many =
      ap (λ (es : List EndId). length es) (item_goes io before item o comes_so).ends
      ∙ length-append (ends_of o (left_before io before item o)) (map (λ j. j.end) (came_with item))
      ∙ ap (λ (n : ℕ). length (ends_of o (left_before io before item o)) + n) (length-map (came_with item) (λ j. j.end))

  few : AreFew o (left_by (moment_at io before item))
  few = subst (AreFew o) (after_more before item (begun io)) (ends_are_few N S io (before ++ item ∷ []) comes_so.run o)

  ends_join : TellIdentities before → (p : Pattern) → drawn_of p ≤ length (ends_of o (left_before io before item o)) → CanJoin io before item o p
  ends_join tell p drawn = record {
    all = all_join (came_with item) p
        (item_tells (after_all before (begun io)) (says_over before (begun io) (begun_kept io) (run_before before item (begun io) comes_so.run) tell (begun_says io)) item (run_last before item (begun io) comes_so.run))
        (let joined = many in let ends = few.ends in let pairs = few.pairs in omega (arith, drawn, joined, ends, pairs));
    drawn = λ es. (let same = drawn_left es (attach_all (came_with item) p) in let more = drawn_all (came_with item) p in let joined = many in omega (arith, same, more, joined, drawn));
  }

pub ends_can_join : (N S : Type 0) → EndsCanJoin N S
ends_can_join N S io before item o comes_so tell p drawn = ends_join io before item o comes_so tell p drawn

-- ---- calls
sends_none : (can_write : EndId → Bool) (m : Frames) (old : Pattern) (x : SendOutcome) → SendsSo can_write m old x → drawn_of x.new ≡ drawn_of old
sends_none can_write m (Push outs) x h = ap drawn_of h.2
sends_none can_write m (Pull ins) x h = ap drawn_of h.2
sends_none can_write m (Pair t) x h = ap drawn_of h.2
sends_none can_write m (Dealer t) x h = ap drawn_of h.2
sends_none can_write m (OfReq t duty) x h = ap drawn_of h.3
sends_none can_write m (Rep ins duty) x h = ap drawn_of h.2
sends_none can_write m (Router r) x h = ap drawn_of h.1
sends_none can_write m (Pub p) x h = ap drawn_of h.1
sends_none can_write m (XPub p) x h = ap drawn_of h.1
sends_none can_write m (Sub s) x h = ap drawn_of h.2
sends_none can_write m (XSub s) x h = ap drawn_of h.2

receives_none : (old : Pattern) (x : RecvOutcome) → ReceivesSo old x → drawn_of x.new ≡ drawn_of old
receives_none (Push outs) x h = ap drawn_of h.1.2
receives_none (Pull ins) x h = ap drawn_of h.1.2
receives_none (Pair t) x h = ap drawn_of h.1.2
receives_none (Dealer t) x h = ap drawn_of h.1.2
receives_none (OfReq t duty) x h = ap drawn_of h.3
receives_none (Rep ins duty) x h = ap drawn_of h.3
receives_none (Router r) x h = ap drawn_of h.1.2
receives_none (Pub p) x h = ap drawn_of h.1.2
receives_none (XPub p) x h = ap drawn_of h.1.2
receives_none (Sub s) x h = ap drawn_of h.2
receives_none (XSub s) x h = ap drawn_of h.1.2

changes_none : (change : Change) (can_write : EndId → Bool) (topic : Topic) (old : Pattern) (x : ChangeOutcome) → ChangesSo change can_write topic old x → drawn_of x.new ≡ drawn_of old
changes_none change can_write topic (Push outs) x h = ap drawn_of h.2
changes_none change can_write topic (Pull ins) x h = ap drawn_of h.2
changes_none change can_write topic (Pair t) x h = ap drawn_of h.2
changes_none change can_write topic (Dealer t) x h = ap drawn_of h.2
changes_none change can_write topic (OfReq t duty) x h = ap drawn_of h.2
changes_none change can_write topic (Rep ins duty) x h = ap drawn_of h.2
changes_none change can_write topic (Router r) x h = ap drawn_of h.2
changes_none change can_write topic (Pub p) x h = ap drawn_of h.2
changes_none change can_write topic (XPub p) x h = ap drawn_of h.2
changes_none change can_write topic (Sub s) x h = ap drawn_of h.2
changes_none change can_write topic (XSub s) x h = ap drawn_of h.2

pumps_none : (can_write : EndId → Bool) (old : Pattern) (x : PumpOutcome) → PumpsSo can_write old x → drawn_of x.new ≡ drawn_of old
pumps_none can_write (Push outs) x h = ap drawn_of h.1
pumps_none can_write (Pull ins) x h = ap drawn_of h.1
pumps_none can_write (Pair t) x h = ap drawn_of h.1
pumps_none can_write (Dealer t) x h = ap drawn_of h.1
pumps_none can_write (OfReq t duty) x h = ap drawn_of h.1
pumps_none can_write (Rep ins duty) x h = ap drawn_of h.1
pumps_none can_write (Router r) x h = ap drawn_of h.1
pumps_none can_write (Pub p) x h = ap drawn_of h.2
pumps_none can_write (XPub p) x h = ap drawn_of h.2
pumps_none can_write (Sub s) x h = ap drawn_of h.2
pumps_none can_write (XSub s) x h = ap drawn_of h.2

pub calls_draw_none : CallsDrawNone
calls_draw_none = record { sends = sends_none; receives = receives_none; changes = changes_none; pumps = pumps_none }

-- ---- an item of an open socket makes none and shakes no hand
asks_none : (c : Control) (o : ℕ) (req : Req) → is_socket (obj c.rows o).kind ≡ true → asker req ≡ Some o → MayAsk c req → TellsIdentity req
asks_none c o (MakeSocket kind options) socket is may_ask = absurd (none_some is)
asks_none c o AskTerm socket is may_ask = tt
asks_none c o (Bind p at) socket is may_ask = tt
asks_none c o (Connect p at) socket is may_ask = tt
asks_none c o (Unbind p at) socket is may_ask = tt
asks_none c o (Disconnect p at) socket is may_ask = tt
asks_none c o (Close p) socket is may_ask = tt
asks_none c o (Accepted p) socket is may_ask = tt
asks_none c o (Shaken p peer) socket is may_ask =
    absurd (never (sym (session_is (obj c.rows p.0).kind may_ask.session) ∙ (ap (λ (n : ℕ). is_socket (obj c.rows n).kind) (some_is is) ∙ socket)))
asks_none c o (AskEnd e reason) socket is may_ask = tt
asks_none c o (AskOver p) socket is may_ask = tt
asks_none c o (OutputOver p) socket is may_ask = tt

module _ {N S : Type 0} where
  tells_snoc : (items : List (Item N S)) (item : Item N S) → TellIdentities items → TellIdentities (item ∷ []) → TellIdentities (items ++ item ∷ [])
  tells_snoc [] item tell one = one
  tells_snoc (Event entry ∷ items) item tell one = (tell.0, tells_snoc items item tell.1 one)
  tells_snoc (Seen sight ∷ items) item tell one = tells_snoc items item tell one

  did_none : (c : Control) (o : ℕ) (did : Did N S) → is_socket (obj c.rows o).kind ≡ true → IsOf o c did → Fits c did → TellsIdentityIn did
  did_none c o (Asked req reply h) socket is fits_so = asks_none c o req socket is fits_so.may.0
  did_none c o (Delivered slot letter h) socket is fits_so = tt
  did_none c o (Delimited e h) socket is fits_so = tt

  item_none : (io : ℕ) (before : List (Item N S)) (item : Item N S) (o : ℕ) → ComesTo io before item o → TellIdentities (item ∷ [])
  item_none io before (Event entry) o comes_so =
      (did_none (after_all before (begun io)) o entry.did (had io before entry.by o (open_before io before (Event entry) o comes_so)).open_socket.socket comes_so.of_it (run_last before (Event entry) (begun io) comes_so.run), tt)
  item_none io before (Seen sight) o comes_so = tt

pub identities_go_on : (N S : Type 0) → IdentitiesGoOn N S
identities_go_on N S io before item o comes_so tell = tells_snoc before item tell (item_none io before item o comes_so)
