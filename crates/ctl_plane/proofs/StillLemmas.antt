-- A closed socket whose Reap is on its way stays so by what an open socket or the context asks, and so does an object whose Plug is.
use Rattle.std.specs.Prelude.{◌≡◌, ◌==◌, ◌∷◌, [], if◌then◌else◌, ℕ, Bool, true, false, List, Option, Some, None, filter, find, length, not, refl}
use Rattle.std.proofs.Common.{◌∙◌}
use Rattle.zq_base.specs.declared.endpoint.Endpoint.{Endpoint}
use Rattle.zq_base.specs.declared.endpoint.Endpoint.TheVariants.{Inproc}
use Rattle.zq_base.specs.declared.ids.EndId.{EndId}
use Rattle.zq_base.specs.declared.ids.ObjId.{ObjId}
use Rattle.zq_base.specs.declared.kind.Kind.{Kind}
use Rattle.zq_base.specs.declared.options.Options.{Options}
use Rattle.spec_control.specs.declared.book.Binding.{Binding}
use Rattle.spec_control.specs.declared.book.Waiting.{Waiting}
use Rattle.spec_control.specs.declared.end.Reason.TheVariants.{Closed}
use Rattle.spec_control.specs.declared.request.Req.{Req}
use Rattle.spec_control.specs.declared.request.Req.TheVariants.{Socket as MakeSocket, AskTerm, Bind, Connect, Unbind, Disconnect}
use Rattle.spec_control.specs.declared.request.Reply.{Reply}
use Rattle.spec_control.specs.declared.request.Reply.TheVariants.{Done, Object, Pair, Both, Wait, Asked, Before, Refused}
use Rattle.spec_control.specs.EndpointBook.{is_fulfilled, without_first}
use Rattle.spec_control.specs.Hold.{Hold, Bound, Waits, Joined, fulfil, is_bind_to, is_connect_to}
use Rattle.spec_control.specs.Place.{is_away}
use Rattle.spec_control.specs.Register.{fulfilled_by, waiting_now, without_holder}
use Rattle.spec_control.specs.Row.{RootAsked, link_after}
use Rattle.spec_control.specs.Rows.{is_owner, obj}
use Rattle.spec_control.specs.Control.{Control, ask, end_of, link, next_pair, owner_of, place_of, stop_sockets, try_end, with_end, with_value}
use Rattle.spec_control.specs.After.{Answers, answered, binding_by, connects_to, fulfil_all, joins, named, requested, socket_row, strike_end, strikes, tell_struck, with_hold}
use Rattle.control_laws.proofs.GoLemmas.{ask_goes, stop_sockets_goes, tell_where_goes, try_end_goes}
use Rattle.control_laws.proofs.JoinGoLemmas.{joins_objects}
use Rattle.ctl_moves.proofs.BetweenLemmas.{StayBetween, goes_between, pushed_between, same_between, stay_here, stay_on, written_between}

-- whatever the answer
pub answered_still : (req : Req) (reply : Reply) (h : Answers) (c : Control) → StayBetween c.rows (requested req h c).rows → StayBetween c.rows (answered req reply h c).rows
answered_still req Done h c still = still
answered_still req (Object o) h c still = still
answered_still req (Pair p) h c still = still
answered_still req (Both o p) h c still = still
answered_still req Wait h c still = still
answered_still req Asked h c still = still
answered_still req Before h c still = stay_here c.rows
answered_still req (Refused refusal) h c still = stay_here c.rows

pub make_still : (kind : Kind) (options : Options) (reply : Reply) (h : Answers) (c : Control) → StayBetween c.rows (answered (MakeSocket kind options) reply h c).rows
make_still kind options reply h c = answered_still (MakeSocket kind options) reply h c (pushed_between c.rows (socket_row kind options c))

pub term_still : (reply : Reply) (h : Answers) (c : Control) → StayBetween c.rows (answered AskTerm reply h c).rows
term_still reply h c =
    let asked = link RootAsked 0 c in
    let stopped = stop_sockets (length c.rows.objects) asked in
    answered_still AskTerm reply h c
    (stay_on c.rows stopped.rows (try_end 0 h.left stopped).rows
    (stay_on c.rows asked.rows stopped.rows (written_between c.rows 0 (link_after RootAsked (obj c.rows 0)) (λ b. b) refl) (goes_between [] asked stopped (stop_sockets_goes (length c.rows.objects) asked) refl))
    (goes_between [] stopped (try_end 0 h.left stopped) (try_end_goes 0 h.left stopped) refl))

-- ---- connects and binds by name leave the objects
pub connect_still : (o : ObjId) (name : List ℕ) (h : Answers) (c : Control) → StayBetween c.rows (requested (Connect o (Inproc name)) h c).rows
connect_still o name h c = same_between c.rows (requested (Connect o (Inproc name)) h c).rows (to (c.names.held (Inproc name)))
  where
    to : (binding : Option Binding) → (connects_to o.0 (Inproc name) binding h c).rows.objects ≡ c.rows.objects
    to None = refl
    to (Some binding) = joins_objects (with_hold o.0 (Joined (Inproc name) (next_pair c) None) c) o.0 binding.holder.0 true h

fulfilled_objects : (i : ℕ) (at : Endpoint) (ws : List Waiting) (h : Answers) (c : Control) → (fulfil_all i at ws h c).rows.objects ≡ c.rows.objects
fulfilled_objects i at [] h c = refl
fulfilled_objects i at (w ∷ ws) h c =
    let joined = joins w.waiter.0 i false h c in
    fulfilled_objects i at ws h (record joined { holds = with_value w.waiter.0 (fulfil at (next_pair c) (joined.holds w.waiter.0)) joined.holds })
    ∙ joins_objects c w.waiter.0 i false h

pub bind_still : (o : ObjId) (name : List ℕ) (h : Answers) (c : Control) → StayBetween c.rows (requested (Bind o (Inproc name)) h c).rows
bind_still o name h c =
    let at = Inproc name in
    let binding = binding_by o.0 c in
    let held = with_hold o.0 (Bound at None) (named o.0 at binding c) in
    same_between c.rows (requested (Bind o at) h c).rows
    (fulfilled_objects o.0 at (fulfilled_by at binding c.names) h (record held { names = waiting_now (filter (λ w. not (is_fulfilled at binding w)) held.names.waiting) held.names }))

-- ---- a hold is struck
struck_still : (i : ℕ) (child : Option ℕ) (c : Control) → StayBetween c.rows (tell_struck i child c).rows
struck_still i None c = stay_here c.rows
struck_still i (Some child) c = goes_between [] c (tell_struck i (Some child) c) (tell_where_goes (is_owner i (obj c.rows child).owner) child c) refl

strike_still : (i : ℕ) (e : EndId) (c : Control) → StayBetween c.rows (strike_end i e c).rows
strike_still i e c = by (is_away (place_of c e)) (owner_of c e == i)
  where
    by : (away mine : Bool) → StayBetween c.rows (if away then record c { struck = with_end e true c.struck } else (if mine then ask Closed false e c else c)).rows
    by true mine = stay_here c.rows
    by false true = goes_between [] c (ask Closed false e c) (ask_goes Closed false e c) refl
    by false false = stay_here c.rows

hold_still : (i : ℕ) (at : Endpoint) (hold : Option Hold) (c : Control) → StayBetween c.rows (strikes i at hold c).rows
hold_still i at None c = stay_here c.rows
hold_still i at (Some (Bound name listener)) c = struck_still i listener (record c { names = without_holder at c.names })
hold_still i at (Some (Waits name)) c = stay_here c.rows
hold_still i at (Some (Joined name k session)) c =
    let struck = strike_end i (end_of k true) c in
    stay_on c.rows struck.rows (tell_struck i session struck).rows (strike_still i (end_of k true) c) (struck_still i session struck)

pub unbind_still : (o : ObjId) (at : Endpoint) (reply : Reply) (h : Answers) (c : Control) → StayBetween c.rows (answered (Unbind o at) reply h c).rows
unbind_still o at reply h c = answered_still (Unbind o at) reply h c (hold_still o.0 at (find (is_bind_to at) (c.holds o.0)) (record c { holds = with_value o.0 (without_first (is_bind_to at) (c.holds o.0)) c.holds }))

pub disconnect_still : (o : ObjId) (at : Endpoint) (h : Answers) (c : Control) → StayBetween c.rows (requested (Disconnect o at) h c).rows
disconnect_still o at h c = hold_still o.0 at (find (is_connect_to at) (c.holds o.0)) (record c { holds = with_value o.0 (without_first (is_connect_to at) (c.holds o.0)) c.holds })
