-- Which calls put no end on its way, and what stretches of calls put on its way together.
use Rattle.std.specs.Prelude.{◌≡◌, ◌<◌, ◌+◌, ◌==◌, ◌++◌, [], Bool, true, false, not, List, refl}
use Rattle.std.specs.List.{list_any}
use Rattle.std.proofs.Common.{arith, sym, ap, ◌∙◌, subst}
use Rattle.std.proofs.lemmas.Bool.{eq-eqb}
use Rattle.std.proofs.lemmas.List.{append-nil}
use Rattle.zq_base.specs.Ends.{other_end}
use Rattle.zq_base.specs.declared.ids.EndId.{EndId}
use Rattle.spec_control.specs.declared.entry.Did.{Did}
use Rattle.spec_control.specs.declared.entry.Did.TheVariants.{Asked, Delivered, Delimited}
use Rattle.spec_control.specs.declared.entry.Item.{Item}
use Rattle.spec_control.specs.declared.entry.Item.TheVariants.{Event, Seen}
use Rattle.spec_control.specs.declared.request.Req.{Req}
use Rattle.spec_control.specs.declared.request.Req.TheVariants.{Socket as MakeSocket, AskTerm, Bind, Connect, Unbind, Disconnect, Close, Accepted, Shaken, AskEnd, AskOver, OutputOver}
use Rattle.spec_control.specs.declared.request.Reply.{Reply}
use Rattle.spec_control.specs.declared.request.Reply.TheVariants.{Done, Object, Pair, Both, Wait, Asked as WasAsked, Before, Refused}
use Rattle.spec_control.specs.Place.{is_away}
use Rattle.spec_control.specs.Rows.{PairRow, end_place, no_pair, obj}
use Rattle.spec_control.specs.Control.{Control, is_end, next_pair, owner_of, place_of}
use Rattle.spec_control.specs.ControlRun.{after_item, unless_refused}
use Rattle.control_laws.proofs.ListLemmas.{never, and, left, placed}
use Rattle.control_laws.proofs.AttachedLemmas.{attached_after}
use Rattle.control_laws.proofs.LeadLemmas.{attached_by}
use Rattle.control_laws.proofs.AttachedOnceLemmas.{AreOld, IsOld, old_run}
use Rattle.control_laws.specs.OwnMoves.{own_moves, request_moves}
use Rattle.ctl_plane.specs.Past.{control_of}
use Rattle.plain_desk.specs.Lent.{IsOneOrder}
use Rattle.socket_laws.proofs.LastLemmas.{moments_are_last}
use Rattle.socket_laws.proofs.NewLemmas.{any_of}
use Rattle.socket_laws.proofs.SocketLemmas.{kept_now}
use Rattle.core_laws.specs.Coming.{ends_some, is_ending, is_ending_did}
use Rattle.core_laws.specs.Rest.{EndingsSendNone, NoneIsSent}
use Rattle.core_laws.proofs.OppositeLemmas.{other_here}

-- ---- an end on its way is of a pair that was made
none_away : (a : Bool) → not (is_away (end_place no_pair a)) ≡ true
none_away true = refl
none_away false = refl

away_within : (c : Control) (e : EndId) → is_away (place_of c e) ≡ true → e.pair.0 < next_pair c
away_within c e away = placed (λ (p : PairRow). not (is_away (end_place p e.a))) c.rows.pairs no_pair e.pair.0 (none_away e.a) (ap not away)

pub none_is_sent : (G N S : Type 0) → NoneIsSent G N S
none_is_sent G N S old new none e sent =
    let d = control_of new.past in
    let slot = (obj d.rows (owner_of d e)).slot in
    let came = none.coming slot e (and (is_away (place_of d e)) (slot == slot) sent.away (eq-eqb slot slot refl)) in
    let within = away_within (control_of old.past) e (left (is_away (place_of (control_of old.past) e)) _ came) in
    let since = sent.since in
    absurd (omega (arith, within, since))

-- ---- a request that attaches no end
module _ (c : Control) where
  unless_attached : (reply : Reply) (req : Req) → attached_by (request_moves c req) ≡ [] → attached_by (unless_refused reply (request_moves c req)) ≡ []
  unless_attached Done req h = h
  unless_attached (Object o) req h = h
  unless_attached (Pair p) req h = h
  unless_attached (Both o p) req h = h
  unless_attached Wait req h = h
  unless_attached WasAsked req h = h
  unless_attached Before req h = refl
  unless_attached (Refused refusal) req h = refl

  request_attaches : (req : Req) → ends_some req ≡ true → attached_by (request_moves c req) ≡ []
  request_attaches (MakeSocket kind options) is = absurd (never is)
  request_attaches AskTerm is = absurd (never is)
  request_attaches (Bind o at) is = absurd (never is)
  request_attaches (Connect o at) is = absurd (never is)
  request_attaches (Unbind o at) is = refl
  request_attaches (Disconnect o at) is = refl
  request_attaches (Close o) is = refl
  request_attaches (Accepted o) is = absurd (never is)
  request_attaches (Shaken o peer) is = absurd (never is)
  request_attaches (AskEnd e reason) is = absurd (never is)
  request_attaches (AskOver o) is = absurd (never is)
  request_attaches (OutputOver o) is = absurd (never is)

module _ {N S : Type 0} (c : Control) where
  did_attaches : (did : Did N S) → is_ending_did did ≡ true → attached_by (own_moves c did) ≡ []
  did_attaches (Asked req reply h) is = unless_attached c reply req (request_attaches c req is)
  did_attaches (Delivered slot letter h) is = absurd (never is)
  did_attaches (Delimited e h) is = absurd (never is)

  item_attaches : (item : Item N S) → is_ending item ≡ true → (after_item item c).attached ≡ c.attached
  item_attaches (Event entry) is = attached_after c entry.did ∙ ap (λ (es : List EndId). c.attached ++ es) (did_attaches entry.did is) ∙ append-nil c.attached
  item_attaches (Seen sight) is = refl

pub endings_send_none : (G N S : Type 0) → EndingsSendNone G N S
endings_send_none G N S old new m call is e sent =
    let c = control_of old.past in
    let d = control_of new.past in
    let before : IsOneOrder old = call.before in
    let order = before.order in
    let last = moments_are_last G N S old new m call in
    let same : d.attached ≡ c.attached = ap (λ (x : Control). x.attached) (sym last.left ∙ ap (after_item m.item) last.found) ∙ item_attaches c m.item is in
    let kept = kept_now new call.behind in
    let here = kept.listed e.pair.0 (not e.a) (other_here d kept e sent.away) in
    let was_old : AreOld c = subst AreOld (sym before.control) (old_run old.past.workers old.items order.run) in
    let is_old : IsOld c (other_end e) = any_of (IsOld c) c.attached (other_end e) was_old (ap (list_any (is_end (other_end e))) (sym same) ∙ here) in
    let within = is_old.within in
    let since = sent.since in
    absurd (omega (arith, within, since))
