-- No small update of the control plane reads how many workers and mailboxes there are, which sockets are closed, or what was settled.
use Rattle.std.specs.Prelude.{◌≡◌, ◌==◌, ◌&&◌, ℕ, zero, suc, Bool, true, false, not, List, [], ◌∷◌, Option, Some, None, if◌then◌else◌, length, find, refl}
use Rattle.std.proofs.Common.{ap, ◌∙◌}
use Rattle.zq_base.specs.declared.ids.Settled.{Settled}
use Rattle.zq_base.specs.declared.ids.ObjId.{ObjId}
use Rattle.zq_base.specs.declared.endpoint.Endpoint.{Endpoint}
use Rattle.zq_base.specs.declared.ids.EndId.{EndId}
use Rattle.zq_base.specs.declared.attached.Attached.{Attached}
use Rattle.zq_base.specs.declared.attached.Attached.TheVariants.{Yes, BadId as IsBadId, Second as IsSecond}
use Rattle.spec_control.specs.declared.book.Binding.{Binding}
use Rattle.spec_control.specs.declared.book.Waiting.{Waiting}
use Rattle.spec_control.specs.declared.end.EndEvent.{EndEvent}
use Rattle.spec_control.specs.declared.end.EndEvent.TheVariants.{Asked, TermCame, AckCame}
use Rattle.spec_control.specs.declared.end.EndCommands.{EndCommands}
use Rattle.spec_control.specs.declared.end.EndCommands.TheVariants.{Nothing, TermAndSeal, Ack, Settle, SettleAndAck}
use Rattle.spec_control.specs.declared.end.Reason.{Reason}
use Rattle.spec_control.specs.declared.end.Reason.TheVariants.{Closed, BadId, Second, Linger, Link}
use Rattle.spec_control.specs.declared.letter.Word.{Word}
use Rattle.spec_control.specs.declared.letter.Word.TheVariants.{Own, Plug, TermReq, Term, TermAck, PipeBind, PipeTerm, PipeTermAck, Stop, Reap}
use Rattle.spec_control.specs.Stage.{was_asked}
use Rattle.spec_control.specs.Hold.{Hold, Bound, Waits, Joined, fulfil}
use Rattle.spec_control.specs.Place.{is_here, is_away}
use Rattle.spec_control.specs.PairPhase.{BindCame, Happens}
use Rattle.spec_control.specs.Row.{IsTold, StopPut, TermComes, OwnComes, RequestComes, AckComes, PlugComes, link_may}
use Rattle.spec_control.specs.Rows.{obj, is_owner, may_end}
use Rattle.spec_control.specs.Control.{Control, Settlement, with_value, with_end, end_of, next_pair, put, place_of, owner_of, ends_of, link, moved, tell_where, tell_children, stop_sockets, tell_other, commands_in, reason_in, happens, ask, ask_all, attach, greet, tell_owner, finish, try_end}
use Rattle.spec_control.specs.After.{Answers, with_hold, joins, fulfil_all, connects_to, tell_struck, strike_end, strikes, strikes_first, uses_reason, settle, term_reason, term_delay, without_names, processed}

-- what is told, with other counts, and the control plane where what no small update reads is another
module _ (of_workers of_slots : ℕ → ℕ) (of_closed : List ObjId → List ObjId) (of_settled : List Settlement → List Settlement) (of_counts : Option Settled → Option Settled) where
  abbrev pub told : Answers → Answers
  told h = record h { counts = of_counts h.counts }

  abbrev pub erase : Control → Control
  erase c = record c { workers = of_workers c.workers; slots = of_slots c.slots; closed = of_closed c.closed; settlements = of_settled c.settlements }

  pub either : (b : Bool) (x y u v : Control) → erase x ≡ u → erase y ≡ v → erase (if b then x else y) ≡ (if b then u else v)
  either true x y u v p q = p
  either false x y u v p q = q

  pub told_where : (wanted : Bool) (child : ℕ) (c : Control) → erase (tell_where wanted child c) ≡ tell_where wanted child (erase c)
  told_where wanted child c = either (wanted && link_may IsTold (obj c.rows child)) _ _ _ _ refl refl

  pub told_children : (n owner : ℕ) (c : Control) → erase (tell_children n owner c) ≡ tell_children n owner (erase c)
  told_children zero owner c = refl
  told_children (suc n) owner c =
      told_where _ n (tell_children n owner c)
      ∙ ap (λ (d : Control). tell_where (is_owner owner (obj d.rows n).owner && (obj d.rows n).noted) n d) (told_children n owner c)

  pub stopped : (n : ℕ) (c : Control) → erase (stop_sockets n c) ≡ stop_sockets n (erase c)
  stopped zero c = refl
  stopped (suc n) c =
      either (link_may StopPut (obj (stop_sockets n c).rows n)) _ _ _ _ refl refl
      ∙ ap (λ (d : Control). if link_may StopPut (obj d.rows n) then put n Stop (link StopPut n d) else d) (stopped n c)

  pub told_other : (commands : EndCommands) (e : EndId) (c : Control) → erase (tell_other commands e c) ≡ tell_other commands e (erase c)
  told_other Nothing e c = refl
  told_other TermAndSeal e c = refl
  told_other Ack e c = refl
  told_other Settle e c = refl
  told_other SettleAndAck e c = refl

  pub happened : (event : EndEvent) (e : EndId) (c : Control) → erase (happens event e c) ≡ happens event e (erase c)
  happened event e c =
      told_other (commands_in event (place_of c e)) e
      (record (moved (Happens event) e c) { reasons = with_end e (reason_in event (place_of c e) (c.reasons e)) c.reasons })

  pub asked_one : (reason : Reason) (delay : Bool) (e : EndId) (c : Control) → erase (ask reason delay e c) ≡ ask reason delay e (erase c)
  asked_one reason delay e c = either (is_here (place_of c e)) _ _ _ _ (happened (Asked reason delay) e c) refl

  pub asked_all : (reason : Reason) (delay : Bool) (es : List EndId) (c : Control) → erase (ask_all reason delay es c) ≡ ask_all reason delay es (erase c)
  asked_all reason delay [] c = refl
  asked_all reason delay (e ∷ es) c =
      asked_all reason delay es (ask reason delay e c) ∙ ap (ask_all reason delay es) (asked_one reason delay e c)

  pub greeted : (kind : Attached) (e : EndId) (c : Control) → erase (greet kind e c) ≡ greet kind e (erase c)
  greeted Yes e c =
      either (was_asked (obj c.rows (owner_of c e)).stage) _ _ _ _ (asked_one Closed false e c)
      (either (c.struck e) _ _ _ _ (asked_one Closed false e c) refl)
  greeted IsBadId e c = asked_one BadId false e c
  greeted IsSecond e c = asked_one Second false e c

  pub told_owner : (owner : Option ℕ) (i : ℕ) (c : Control) → erase (tell_owner owner i c) ≡ tell_owner owner i (erase c)
  told_owner None i c = refl
  told_owner (Some owner) i c = refl

  pub finished : (i : ℕ) (c : Control) → erase (finish i c) ≡ finish i (erase c)
  finished i c = told_owner (obj c.rows i).owner i _

  pub tried : (i : ℕ) (left : Bool) (c : Control) → erase (try_end i left c) ≡ try_end i left (erase c)
  tried i left c =
      let now : Control = record c { output_left = with_value i left c.output_left } in
      either (may_end c.rows i) _ _ _ _ (either left _ _ _ _ refl (finished i now)) refl

  -- ---- requests

  module _ (h : Answers) where
    pub joined : (x y : ℕ) (a : Bool) (c : Control) → erase (joins x y a h c) ≡ joins x y a (told h) (erase c)
    joined x y a c = greeted (h.kind (end_of (next_pair c) a)) (end_of (next_pair c) a) _

    pub fulfilled : (i : ℕ) (at : Endpoint) (ws : List Waiting) (c : Control) → erase (fulfil_all i at ws h c) ≡ fulfil_all i at ws (told h) (erase c)
    fulfilled i at [] c = refl
    fulfilled i at (w ∷ ws) c =
        fulfilled i at ws _
        ∙ ap (λ (d : Control). fulfil_all i at ws (told h) (record d { holds = with_value w.waiter.0 (fulfil at (next_pair c) (d.holds w.waiter.0)) d.holds })) (joined w.waiter.0 i false c)

    pub connected_to : (i : ℕ) (at : Endpoint) (b : Option Binding) (c : Control) → erase (connects_to i at b h c) ≡ connects_to i at b (told h) (erase c)
    connected_to i at None c = refl
    connected_to i at (Some b) c = joined i b.holder.0 true (with_hold i (Joined at (next_pair c) None) c)

  pub told_struck : (i : ℕ) (child : Option ℕ) (c : Control) → erase (tell_struck i child c) ≡ tell_struck i child (erase c)
  told_struck i None c = refl
  told_struck i (Some child) c = told_where _ child c

  pub struck_end : (i : ℕ) (e : EndId) (c : Control) → erase (strike_end i e c) ≡ strike_end i e (erase c)
  struck_end i e c = either (is_away (place_of c e)) _ _ _ _ refl (either (owner_of c e == i) _ _ _ _ (asked_one Closed false e c) refl)

  pub struck_hold : (i : ℕ) (to : Endpoint) (hold : Option Hold) (c : Control) → erase (strikes i to hold c) ≡ strikes i to hold (erase c)
  struck_hold i to None c = refl
  struck_hold i to (Some (Bound at listener)) c = told_struck i listener _
  struck_hold i to (Some (Waits at)) c = refl
  struck_hold i to (Some (Joined at k session)) c = told_struck i session (strike_end i (end_of k true) c) ∙ ap (tell_struck i session) (struck_end i (end_of k true) c)

  pub struck_first : (i : ℕ) (to : Endpoint) (test : Hold → Bool) (c : Control) → erase (strikes_first i to test c) ≡ strikes_first i to test (erase c)
  struck_first i to test c = struck_hold i to (find test (c.holds i)) _

  pub used_reason : (reason : Reason) (i : ℕ) (c : Control) → erase (uses_reason reason i c) ≡ uses_reason reason i (erase c)
  used_reason Closed i c = refl
  used_reason BadId i c = refl
  used_reason Second i c = refl
  used_reason Linger i c = refl
  used_reason Link i c = refl

  -- ---- commands

  pub was_processed : ((e : EndId) (counts : Option Settled) (c : Control) → erase (settle e counts c) ≡ settle e (of_counts counts) (erase c)) → (at : ℕ) (word : Word) (h : Answers) (c : Control) → erase (processed at word h c) ≡ processed at word (told h) (erase c)
  was_processed settles at (Own child) h c = told_where (was_asked (obj c.rows at).stage) child.0 (link OwnComes child.0 c)
  was_processed settles at (Plug None) h c = refl
  was_processed settles at (Plug (Some e)) h c = greeted (h.kind e) e (attach BindCame e (link PlugComes at c))
  was_processed settles at (TermReq child) h c = told_where (not (was_asked (obj c.rows at).stage)) child.0 (link RequestComes child.0 c)
  was_processed settles at Term h c =
      let named_out : Control = without_names at (link TermComes at c) in
      let why = term_reason (obj c.rows at).kind in
      let delay = term_delay (obj c.rows at) in
      let asked_ends : Control = ask_all why delay (ends_of at named_out) named_out in
      tried at h.left (tell_children (length asked_ends.rows.objects) at asked_ends)
      ∙ ap (try_end at h.left) (told_children (length asked_ends.rows.objects) at asked_ends)
      ∙ ap (λ (d : Control). try_end at h.left (tell_children (length d.rows.objects) at d)) (asked_all why delay (ends_of at named_out) named_out)
  was_processed settles at (TermAck child) h c = tried at h.left (link AckComes child.0 c)
  was_processed settles at (PipeBind e peer) h c = greeted (h.kind e) e (attach BindCame e c)
  was_processed settles at (PipeTerm e) h c = happened TermCame e c
  was_processed settles at (PipeTermAck e) h c =
      tried at h.left (settle e h.counts (happens AckCame e c))
      ∙ ap (try_end at h.left) (settles e h.counts (happens AckCame e c))
      ∙ ap (λ (d : Control). try_end at h.left (settle e (of_counts h.counts) d)) (happened AckCame e c)
  was_processed settles at Stop h c = refl
  was_processed settles at (Reap socket) h c = refl
