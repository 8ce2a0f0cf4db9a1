-- What an event leaves of the output of an object, and that an object which has ended has none left.
use Rattle.std.specs.Prelude.{◌≡◌, ◌≢◌, ◌≤◌, ◌⊎◌, ◌==◌, ◌&&◌, ◌++◌, ℕ, zero, suc, Bool, true, false, not, List, [], ◌∷◌, Option, Some, None, find, if◌then◌else◌, length, slice_index_or, slice_set, refl}
use Rattle.std.proofs.Common.{arith, sym, ap, ◌∙◌, subst, inl, inr}
use Rattle.std.proofs.lemmas.Bool.{cases_order, eq-eqb}
use Rattle.std.proofs.lemmas.List.{get_or-set_other, set_past}
use Rattle.zq_base.specs.declared.attached.Attached.{Attached}
use Rattle.zq_base.specs.declared.endpoint.Endpoint.{Endpoint}
use Rattle.zq_base.specs.declared.endpoint.Endpoint.TheVariants.{Inproc, Tcp}
use Rattle.zq_base.specs.declared.ids.EndId.{EndId}
use Rattle.zq_base.specs.declared.ids.Settled.{Settled}
use Rattle.spec_control.specs.declared.end.EndEvent.{EndEvent}
use Rattle.spec_control.specs.declared.end.EndEvent.TheVariants.{Asked, TermCame, DelimiterSeen, AckCame}
use Rattle.spec_control.specs.declared.end.EndCommands.{EndCommands}
use Rattle.spec_control.specs.declared.end.EndCommands.TheVariants.{Nothing, TermAndSeal, Ack, Settle, SettleAndAck}
use Rattle.spec_control.specs.declared.end.Reason.{Reason}
use Rattle.spec_control.specs.declared.end.Reason.TheVariants.{Closed, BadId, Second, Linger, Link}
use Rattle.spec_control.specs.declared.letter.Word.{Word}
use Rattle.spec_control.specs.declared.letter.Word.TheVariants.{Own, Plug, TermReq, Term, TermAck, PipeBind, PipeTerm, PipeTermAck, Stop, Reap}
use Rattle.spec_control.specs.declared.request.Req.{Req}
use Rattle.spec_control.specs.declared.request.Req.TheVariants.{Socket as MakeSocket, AskTerm, Bind, Connect, Unbind, Disconnect, Close, Accepted, Shaken, AskEnd, AskOver, OutputOver}
use Rattle.spec_control.specs.declared.book.Binding.{Binding}
use Rattle.spec_control.specs.declared.book.Waiting.{Waiting}
use Rattle.spec_control.specs.declared.stage.Stage.{Stage}
use Rattle.spec_control.specs.declared.stage.Stage.TheVariants.{Alive, Told, Ending, Finished, Cleared}
use Rattle.spec_control.specs.EndpointBook.{without_first}
use Rattle.spec_control.specs.Register.{fulfilled_by, without_holder, waiting_now}
use Rattle.spec_control.specs.Hold.{Hold, Bound, Waits, Joined, is_bind_to, is_connect_to, fulfil}
use Rattle.spec_control.specs.Place.{is_here, is_away}
use Rattle.spec_control.specs.PairPhase.{Happens, BindCame}
use Rattle.spec_control.specs.Stage.{has_ended, is_finished, was_asked}
use Rattle.spec_control.specs.Row.{Row, nobody, LinkEvent, IsTold, StopPut, PlugComes, OwnComes, RootAsked, RequestComes, ReapComes, StopComes, TermComes, AsksOver, AckComes, AsksForLink, AsksForLinger, link_may, link_after}
use Rattle.spec_control.specs.Rows.{obj, is_owner, may_end, with_object}
use Rattle.spec_control.specs.Control.{Control, with_value, with_end, id, end_of, place_of, owner_of, next_object, next_pair, commands_in, reason_in, moved, tell_other, put, link, makes, draws, tell_where, tell_children, stop_sockets, happens, ask, ask_all, attach, open_pair, greet, ends_of, tell_owner, finish, try_end}
use Rattle.spec_control.specs.After.{Answers, settle, tell_struck, strike_end, strikes, joins, fulfil_all, binds, binding_by, named, with_hold, connects, connects_to, uses_reason, requested, processed, pair_or_none, without_names, term_reason, term_delay, socket_row, listener_row, session_row, accepted_row}
use Rattle.spec_control.specs.ControlRun.{tries_end}
use Rattle.control_laws.proofs.AttachLemmas.{greets}
use Rattle.control_laws.proofs.ListLemmas.{never, left, is_here as here_is, is_elsewhere, written, is_old, is_new, pushed}
use Rattle.control_laws.proofs.MailLemmas.{value_here, value_else}

module _ (i : ℕ) where
  -- its output is as before, and it has not ended since
  pub record Rests (c d : Control) : Type 0 where
    pub output : d.output_left i ≡ c.output_left i
    pub ended : has_ended (obj d.rows i).stage ≡ true → has_ended (obj c.rows i).stage ≡ true

  rests : (c : Control) → Rests c c
  rests c = record { output = refl; ended = λ h. h }

  rests_on : (c d e : Control) → Rests c d → Rests d e → Rests c e
  rests_on c d e x y = record { output = y.output ∙ x.output; ended = λ h. x.ended (y.ended h) }

  same_rests : (c d : Control) → d.output_left ≡ c.output_left → d.rows.objects ≡ c.rows.objects → Rests c d
  same_rests c d out objects = record {
    output = ap (λ (f : ℕ → Bool). f i) out;
    ended = λ h. sym (ap (λ (os : List Row). has_ended (slice_index_or os i nobody).stage) objects) ∙ h;
  }

  -- an object more lives
  grown_rests : (row : Row) (c d : Control) → d.output_left ≡ c.output_left → d.rows.objects ≡ c.rows.objects ++ row ∷ [] → has_ended row.stage ≡ false → Rests c d
  grown_rests row c d out objects alive = record { output = ap (λ (f : ℕ → Bool). f i) out; ended = by }
    where
      by : has_ended (obj d.rows i).stage ≡ true → has_ended (obj c.rows i).stage ≡ true
      by h =
          let now = sym (ap (λ (os : List Row). has_ended (slice_index_or os i nobody).stage) objects) ∙ h in
          elim (pushed c.rows.objects row nobody i) [
            | is_old e ↦ sym (ap (λ (o : Row). has_ended o.stage) e) ∙ now
            | is_new at e was ↦ absurd (never (sym alive ∙ sym (ap (λ (o : Row). has_ended o.stage) e) ∙ now))
          ]

  -- a row is written
  written_rests : (j : ℕ) (n : Row) (c d : Control) → d.output_left ≡ c.output_left → d.rows.objects ≡ slice_set c.rows.objects j n → (has_ended n.stage ≡ true → has_ended (obj c.rows j).stage ≡ true) → Rests c d
  written_rests j n c d out objects so = record { output = ap (λ (f : ℕ → Bool). f i) out; ended = by }
    where
      by : has_ended (obj d.rows i).stage ≡ true → has_ended (obj c.rows i).stage ≡ true
      by h =
          let now = sym (ap (λ (os : List Row). has_ended (slice_index_or os i nobody).stage) objects) ∙ h in
          elim (cases_order j (length c.rows.objects)) [
            | inl same ↦ past (omega (arith, same)) now
            | inr (inl below) ↦ elim (written c.rows.objects n nobody j i below) [
              | here_is here same ↦ subst (λ (k : ℕ). has_ended (obj c.rows k).stage ≡ true) (sym here) (so (sym (ap (λ (o : Row). has_ended o.stage) same) ∙ now))
              | is_elsewhere same ↦ sym (ap (λ (o : Row). has_ended o.stage) same) ∙ now
            ]
            | inr (inr above) ↦ past (omega (arith, above)) now
          ]
        where
          past : length c.rows.objects ≤ j → has_ended (slice_index_or (slice_set c.rows.objects j n) i nobody).stage ≡ true → has_ended (obj c.rows i).stage ≡ true
          past far now = sym (ap (λ (os : List Row). has_ended (slice_index_or os i nobody).stage) (set_past c.rows.objects j n far)) ∙ now

  link_rests : (event : LinkEvent) (j : ℕ) (c : Control) → (has_ended (link_after event (obj c.rows j)).stage ≡ true → has_ended (obj c.rows j).stage ≡ true) → Rests c (link event j c)
  link_rests event j c so = written_rests j (link_after event (obj c.rows j)) c (link event j c) refl refl so

  tell_rests : (wanted : Bool) (child : ℕ) (c : Control) → Rests c (tell_where wanted child c)
  tell_rests wanted child c = by (wanted && link_may IsTold (obj c.rows child))
    where
      by : (b : Bool) → Rests c (if b then put child Term (link IsTold child c) else c)
      by true = rests_on c (link IsTold child c) _ (link_rests IsTold child c (λ h. absurd (never h))) (same_rests (link IsTold child c) (put child Term (link IsTold child c)) refl refl)
      by false = rests c

  children_rest : (n at : ℕ) (c : Control) → Rests c (tell_children n at c)
  children_rest zero at c = rests c
  children_rest (suc n) at c =
      let before = tell_children n at c in
      rests_on c before _ (children_rest n at c) (tell_rests (is_owner at (obj before.rows n).owner && (obj before.rows n).noted) n before)

  sockets_rest : (n : ℕ) (c : Control) → Rests c (stop_sockets n c)
  sockets_rest zero c = rests c
  sockets_rest (suc n) c = rests_on c (stop_sockets n c) _ (sockets_rest n c) (by (link_may StopPut (obj (stop_sockets n c).rows n)))
    where
      by : (b : Bool) → Rests (stop_sockets n c) (if b then put n Stop (link StopPut n (stop_sockets n c)) else stop_sockets n c)
      by true =
          let d = link StopPut n (stop_sockets n c) in
          rests_on (stop_sockets n c) d _ (link_rests StopPut n (stop_sockets n c) (λ h. h)) (same_rests d (put n Stop d) refl refl)
      by false = rests (stop_sockets n c)

  other_rests : (commands : EndCommands) (e : EndId) (c : Control) → Rests c (tell_other commands e c)
  other_rests Nothing e c = rests c
  other_rests TermAndSeal e c = same_rests c (tell_other TermAndSeal e c) refl refl
  other_rests Ack e c = same_rests c (tell_other Ack e c) refl refl
  other_rests Settle e c = rests c
  other_rests SettleAndAck e c = same_rests c (tell_other SettleAndAck e c) refl refl

  happened_rests : (event : EndEvent) (e : EndId) (c : Control) → Rests c (happens event e c)
  happened_rests event e c =
      let d = record (moved (Happens event) e c) { reasons = with_end e (reason_in event (place_of c e) (c.reasons e)) c.reasons } in
      rests_on c d (happens event e c) (same_rests c d refl refl) (other_rests (commands_in event (place_of c e)) e d)

  ask_rests : (why : Reason) (delay : Bool) (e : EndId) (c : Control) → Rests c (ask why delay e c)
  ask_rests why delay e c = by (is_here (place_of c e))
    where
      by : (b : Bool) → Rests c (if b then happens (Asked why delay) e c else c)
      by true = happened_rests (Asked why delay) e c
      by false = rests c

  all_rest : (why : Reason) (delay : Bool) (es : List EndId) (c : Control) → Rests c (ask_all why delay es c)
  all_rest why delay [] c = rests c
  all_rest why delay (e ∷ es) c = rests_on c (ask why delay e c) _ (ask_rests why delay e c) (all_rest why delay es (ask why delay e c))

  greet_rests : (kind : Attached) (e : EndId) (c : Control) → Rests c (greet kind e c)
  greet_rests kind e c = let g = (greets true kind e c).leaves in same_rests c (greet kind e c) g.output g.objects

  settle_rests : (e : EndId) (counts : Option Settled) (c : Control) → Rests c (settle e counts c)
  settle_rests e None c = rests c
  settle_rests e (Some counts) c = same_rests c (settle e (Some counts) c) refl refl

  owner_rests : (owner : Option ℕ) (j : ℕ) (c : Control) → Rests c (tell_owner owner j c)
  owner_rests None j c = rests c
  owner_rests (Some w) j c = same_rests c (tell_owner (Some w) j c) refl refl

  -- ---- an object tries to end
  -- another one
  pub try_rests : (j : ℕ) (out : Bool) (c : Control) → i ≢ j → Rests c (try_end j out c)
  try_rests j out c apart = by (may_end c.rows j) out
    where
      now : Control
      now = record c { output_left = with_value j out c.output_left }

      other : Rests c now
      other = record { output = value_else j i out c.output_left apart; ended = λ h. h }

      over : Control
      over = record now { rows = with_object j (record (obj c.rows j) { stage = Finished }) c.rows; ended = c.ended ++ id j ∷ [] }

      by : (b l : Bool) → Rests c (if b then (if l then now else finish j now) else now)
      by true true = other
      by true false =
          rests_on c over _ (record {
            output = value_else j i out c.output_left apart;
            ended = λ h. sym (ap (λ (o : Row). has_ended o.stage) (get_or-set_other c.rows.objects j i (record (obj c.rows j) { stage = Finished }) nobody apart)) ∙ h;
          }) (owner_rests (obj c.rows j).owner j over)
      by false l = other

  -- itself: it has ended since only where no output is left
  pub record Tries (out : Bool) (c d : Control) : Type 0 where
    pub output : d.output_left i ≡ out
    pub ended : has_ended (obj d.rows i).stage ≡ true → (has_ended (obj c.rows i).stage ≡ true) ⊎ (out ≡ false)

  pub tries : (out : Bool) (c : Control) → Tries out c (try_end i out c)
  tries out c = by (may_end c.rows i) out refl
    where
      now : Bool → Control
      now x = record c { output_left = with_value i x c.output_left }

      over : Bool → Control
      over x = record (now x) { rows = with_object i (record (obj c.rows i) { stage = Finished }) c.rows; ended = c.ended ++ id i ∷ [] }

      by : (b l : Bool) → l ≡ out → Tries l c (if b then (if l then now l else finish i (now l)) else now l)
      by true true e = record { output = value_here i true c.output_left; ended = λ h. inl h }
      by true false e = record {
        output = (owner_rests (obj c.rows i).owner i (over false)).output ∙ value_here i false c.output_left;
        ended = λ h. inr refl;
      }
      by false l e = record { output = value_here i l c.output_left; ended = λ h. inl h }

  -- behind what rests
  pub rests_then_tries : (out : Bool) (c d e : Control) → Rests c d → Tries out d e → Tries out c e
  rests_then_tries out c d e x y = record {
    output = y.output;
    ended = λ h. elim (y.ended h) [
      | inl was ↦ inl (x.ended was)
      | inr none ↦ inr none
    ];
  }

  -- ---- requests
  joins_rest : (x y : ℕ) (a : Bool) (h : Answers) (c : Control) → Rests c (joins x y a h c)
  joins_rest x y a h c =
      let first = end_of (next_pair c) a in
      let d = open_pair first (PipeBind (end_of (next_pair c) (not a)) (obj c.rows (owner_of (draws x y c) first)).options.id) (draws x y c) in
      rests_on c d _ (same_rests c d refl refl) (greet_rests (h.kind first) first d)

  fulfil_rests : (o : ℕ) (at : Endpoint) (ws : List Waiting) (h : Answers) (c : Control) → Rests c (fulfil_all o at ws h c)
  fulfil_rests o at [] h c = rests c
  fulfil_rests o at (w ∷ ws) h c =
      let now = joins w.waiter.0 o false h c in
      let next = record now { holds = with_value w.waiter.0 (fulfil at (next_pair c) (now.holds w.waiter.0)) now.holds } in
      rests_on c now _ (joins_rest w.waiter.0 o false h c) (rests_on now next _ (same_rests now next refl refl) (fulfil_rests o at ws h next))

  bind_rests : (o : ℕ) (at : Endpoint) (h : Answers) (c : Control) → Rests c (binds o at h c)
  bind_rests o (Inproc name) h c =
      let at = Inproc name in
      let held = with_hold o (Bound at None) (named o at (binding_by o c) c) in
      let free = record held { names = waiting_now _ held.names } in
      rests_on c free _ (same_rests c free refl refl) (fulfil_rests o at (fulfilled_by at (binding_by o c) c.names) h free)
  bind_rests o (Tcp address) h c = grown_rests (listener_row o c) c (binds o (Tcp address) h c) refl refl refl

  connect_rests : (o : ℕ) (at : Endpoint) (h : Answers) (c : Control) → Rests c (connects o at h c)
  connect_rests o (Inproc name) h c = by (c.names.held (Inproc name))
    where
      by : (held : Option Binding) → Rests c (connects_to o (Inproc name) held h c)
      by None = same_rests c (connects_to o (Inproc name) None h c) refl refl
      by (Some binding) =
          let d = with_hold o (Joined (Inproc name) (next_pair c) None) c in
          rests_on c d _ (same_rests c d refl refl) (joins_rest o binding.holder.0 true h d)
  connect_rests o (Tcp address) h c =
      let child = next_object c in
      let mine = end_of (next_pair c) true in
      let made = draws o child (makes (session_row o c) (with_hold o (Joined (Tcp address) (next_pair c) (Some child)) c)) in
      let d = open_pair mine (Plug (Some (end_of (next_pair c) false))) (put o (Own (id child)) made) in
      rests_on c d _ (grown_rests (session_row o c) c d refl refl refl) (greet_rests (h.kind mine) mine d)

  struck_rests : (o : ℕ) (child : Option ℕ) (c : Control) → Rests c (tell_struck o child c)
  struck_rests o None c = rests c
  struck_rests o (Some child) c = tell_rests (is_owner o (obj c.rows child).owner) child c

  end_rests : (o : ℕ) (e : EndId) (c : Control) → Rests c (strike_end o e c)
  end_rests o e c = by (is_away (place_of c e)) (owner_of c e == o)
    where
      by : (a m : Bool) → Rests c (if a then record c { struck = with_end e true c.struck } else (if m then ask Closed false e c else c))
      by true m = same_rests c (record c { struck = with_end e true c.struck }) refl refl
      by false true = ask_rests Closed false e c
      by false false = rests c

  strikes_rest : (o : ℕ) (to : Endpoint) (hold : Option Hold) (c : Control) → Rests c (strikes o to hold c)
  strikes_rest o to None c = rests c
  strikes_rest o to (Some (Bound at listener)) c =
      let d = record c { names = without_holder to c.names } in
      rests_on c d _ (same_rests c d refl refl) (struck_rests o listener d)
  strikes_rest o to (Some (Waits at)) c = same_rests c (strikes o to (Some (Waits at)) c) refl refl
  strikes_rest o to (Some (Joined at k session)) c =
      rests_on c (strike_end o (end_of k true) c) _ (end_rests o (end_of k true) c) (struck_rests o session (strike_end o (end_of k true) c))

  first_rests : (o : ℕ) (to : Endpoint) (test : Hold → Bool) (c : Control) → Rests c (strikes o to (find test (c.holds o)) (record c { holds = with_value o (without_first test (c.holds o)) c.holds }))
  first_rests o to test c =
      let d = record c { holds = with_value o (without_first test (c.holds o)) c.holds } in
      rests_on c d _ (same_rests c d refl refl) (strikes_rest o to (find test (c.holds o)) d)

  reason_rests : (reason : Reason) (j : ℕ) (c : Control) → Rests c (uses_reason reason j c)
  reason_rests Closed j c = rests c
  reason_rests BadId j c = rests c
  reason_rests Second j c = rests c
  reason_rests Linger j c = link_rests AsksForLinger j c (λ h. h)
  reason_rests Link j c = link_rests AsksForLink j c (λ h. h)

  -- the object that says in a request that its output is over
  abbrev pub says_over : Req → Bool
  says_over (MakeSocket kind options) = false
  says_over AskTerm = false
  says_over (Bind o at) = false
  says_over (Connect o at) = false
  says_over (Unbind o at) = false
  says_over (Disconnect o at) = false
  says_over (Close o) = false
  says_over (Accepted o) = false
  says_over (Shaken o peer) = false
  says_over (AskEnd e reason) = false
  says_over (AskOver o) = false
  says_over (OutputOver o) = o.0 == i

  pub request_rests : (c : Control) (req : Req) (h : Answers) → i ≢ 0 → says_over req ≡ false → Rests c (requested req h c)
  request_rests c (MakeSocket kind options) h more none = grown_rests (socket_row kind options c) c (requested (MakeSocket kind options) h c) refl refl refl
  request_rests c AskTerm h more none =
      let asked = link RootAsked 0 c in
      let told = stop_sockets (length c.rows.objects) asked in
      rests_on c asked _ (link_rests RootAsked 0 c (λ x. absurd (never x)))
      (rests_on asked told _ (sockets_rest (length c.rows.objects) asked) (try_rests 0 h.left told more))
  request_rests c (Bind o at) h more none = bind_rests o.0 at h c
  request_rests c (Connect o at) h more none = connect_rests o.0 at h c
  request_rests c (Unbind o at) h more none = first_rests o.0 at (is_bind_to at) c
  request_rests c (Disconnect o at) h more none = first_rests o.0 at (is_connect_to at) c
  request_rests c (Close o) h more none = written_rests o.0 (link_after AsksOver (obj c.rows o.0)) c (requested (Close o) h c) refl refl (λ x. x)
  request_rests c (Accepted o) h more none = grown_rests (accepted_row o.0 c) c (requested (Accepted o) h c) refl refl refl
  request_rests c (Shaken o peer) h more none =
      let mine = end_of (pair_or_none (obj c.rows o.0).pair) true in
      let d = open_pair mine (PipeBind (end_of mine.pair.0 false) peer.identity) c in
      rests_on c d _ (same_rests c d refl refl) (greet_rests (h.kind mine) mine d)
  request_rests c (AskEnd e reason) h more none =
      let d = uses_reason reason (owner_of c e) c in
      rests_on c d _ (reason_rests reason (owner_of c e) c) (ask_rests reason false e d)
  request_rests c (AskOver o) h more none = written_rests o.0 (link_after AsksOver (obj c.rows o.0)) c (requested (AskOver o) h c) refl refl (λ x. x)
  request_rests c (OutputOver o) h more none = try_rests o.0 h.left c (λ same. never (sym none ∙ eq-eqb o.0 i (sym same)))

  -- ---- commands
  -- the ends and the children of an object that gets its Term
  abbrev pub asked_all : ℕ → Control → Control
  asked_all at c =
      let asked : Control = without_names at (link TermComes at c) in
      let ends_asked : Control = ask_all (term_reason (obj c.rows at).kind) (term_delay (obj c.rows at)) (ends_of at asked) asked in
      tell_children (length ends_asked.rows.objects) at ends_asked

  pub term_rests : (c : Control) (at : ℕ) → Rests c (asked_all at c)
  term_rests c at =
      let came = link TermComes at c in
      let asked = without_names at came in
      let ends_asked = ask_all (term_reason (obj c.rows at).kind) (term_delay (obj c.rows at)) (ends_of at asked) asked in
      rests_on c came _ (link_rests TermComes at c (λ x. absurd (never x)))
      (rests_on came asked _ (same_rests came asked refl refl)
      (rests_on asked ends_asked _ (all_rest (term_reason (obj c.rows at).kind) (term_delay (obj c.rows at)) (ends_of at asked) asked) (children_rest (length ends_asked.rows.objects) at ends_asked)))

  finished_ended : (s : Stage) → is_finished s ≡ true → has_ended s ≡ true
  finished_ended Alive h = absurd (never h)
  finished_ended Told h = absurd (never h)
  finished_ended Ending h = absurd (never h)
  finished_ended Finished h = refl
  finished_ended Cleared h = absurd (never h)

  pub ack_rests : (c : Control) (child : ℕ) → link_may AckComes (obj c.rows child) ≡ true → Rests c (link AckComes child c)
  ack_rests c child may = link_rests AckComes child c (λ x. finished_ended (obj c.rows child).stage (left (is_finished (obj c.rows child).stage) _ may))

  pub acked_rests : (c : Control) (e : EndId) (counts : Option Settled) → Rests c (settle e counts (happens AckCame e c))
  acked_rests c e counts = rests_on c (happens AckCame e c) _ (happened_rests AckCame e c) (settle_rests e counts (happens AckCame e c))

  pub delimited_rests : (c : Control) (e : EndId) → Rests c (happens DelimiterSeen e c)
  delimited_rests c e = happened_rests DelimiterSeen e c

  -- what a TermAck wants
  abbrev pub AckMay : Control → Word → Type 0
  AckMay c (Own child) = Unit {0}
  AckMay c (Plug end) = Unit {0}
  AckMay c (TermReq child) = Unit {0}
  AckMay c Term = Unit {0}
  AckMay c (TermAck child) = link_may AckComes (obj c.rows child.0) ≡ true
  AckMay c (PipeBind e peer) = Unit {0}
  AckMay c (PipeTerm e) = Unit {0}
  AckMay c (PipeTermAck e) = Unit {0}
  AckMay c Stop = Unit {0}
  AckMay c (Reap socket) = Unit {0}

  -- of another object, or one at which no object tries to end
  pub word_rests : (c : Control) (at : ℕ) (word : Word) (h : Answers) → AckMay c word → (tries_end word ≡ true → i ≢ at) → Rests c (processed at word h c)
  word_rests c at (Own child) h may other =
      let d = link OwnComes child.0 c in
      rests_on c d _ (link_rests OwnComes child.0 c (λ x. x)) (tell_rests (was_asked (obj c.rows at).stage) child.0 d)
  word_rests c at (Plug None) h may other = link_rests PlugComes at c (λ x. x)
  word_rests c at (Plug (Some e)) h may other =
      let d = link PlugComes at c in
      let now = attach BindCame e d in
      rests_on c d _ (link_rests PlugComes at c (λ x. x)) (rests_on d now _ (same_rests d now refl refl) (greet_rests (h.kind e) e now))
  word_rests c at (TermReq child) h may other =
      let d = link RequestComes child.0 c in
      rests_on c d _ (link_rests RequestComes child.0 c (λ x. x)) (tell_rests (not (was_asked (obj c.rows at).stage)) child.0 d)
  word_rests c at Term h may other = rests_on c (asked_all at c) _ (term_rests c at) (try_rests at h.left (asked_all at c) (other refl))
  word_rests c at (TermAck child) h may other = rests_on c (link AckComes child.0 c) _ (ack_rests c child.0 may) (try_rests at h.left (link AckComes child.0 c) (other refl))
  word_rests c at (PipeBind e peer) h may other = let d = attach BindCame e c in rests_on c d _ (same_rests c d refl refl) (greet_rests (h.kind e) e d)
  word_rests c at (PipeTerm e) h may other = happened_rests TermCame e c
  word_rests c at (PipeTermAck e) h may other =
      let d = settle e h.counts (happens AckCame e c) in
      rests_on c d _ (acked_rests c e h.counts) (try_rests at h.left d (other refl))
  word_rests c at Stop h may other = link_rests StopComes at c (λ x. x)
  word_rests c at (Reap socket) h may other =
      let d = link ReapComes socket.0 c in
      rests_on c d _ (link_rests ReapComes socket.0 c (λ x. absurd (never x))) (same_rests d (put socket.0 Term d) refl refl)

  -- at a command of its own it tries
  pub word_tries : (c : Control) (word : Word) (h : Answers) → AckMay c word → tries_end word ≡ true → Tries h.left c (processed i word h c)
  word_tries c (Own child) h may is = absurd (never is)
  word_tries c (Plug end) h may is = absurd (never is)
  word_tries c (TermReq child) h may is = absurd (never is)
  word_tries c Term h may is = rests_then_tries h.left c (asked_all i c) _ (term_rests c i) (tries h.left (asked_all i c))
  word_tries c (TermAck child) h may is = rests_then_tries h.left c (link AckComes child.0 c) _ (ack_rests c child.0 may) (tries h.left (link AckComes child.0 c))
  word_tries c (PipeBind e peer) h may is = absurd (never is)
  word_tries c (PipeTerm e) h may is = absurd (never is)
  word_tries c (PipeTermAck e) h may is =
      let d = settle e h.counts (happens AckCame e c) in
      rests_then_tries h.left c d _ (acked_rests c e h.counts) (tries h.left d)
  word_tries c Stop h may is = absurd (never is)
  word_tries c (Reap socket) h may is = absurd (never is)
