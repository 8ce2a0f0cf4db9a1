-- What each event leaves of the ends of the objects that it is not one of.
use Rattle.std.specs.Prelude.{◌≡◌, ◌≢◌, ◌<◌, ◌==◌, ◌&&◌, ◌++◌, ◌∷◌, [], ℕ, suc, Bool, true, false, not, cond, List, Option, Some, None, filter, find, length, slice_index_or, if◌then◌else◌, refl}
use Rattle.std.proofs.Common.{arith, sym, ap, ◌∙◌, subst}
use Rattle.std.proofs.lemmas.Bool.{eqb-true}
use Rattle.std.proofs.lemmas.List.{get_or_push, length_push}
use Rattle.std.proofs.lemmas.List.Elements.{All-nil, All-weaker, filter_passes}
use Rattle.zq_base.specs.declared.ids.EndId.{EndId}
use Rattle.zq_base.specs.declared.endpoint.Endpoint.{Endpoint}
use Rattle.zq_base.specs.declared.endpoint.Endpoint.TheVariants.{Inproc, Tcp}
use Rattle.zq_base.specs.declared.options.Peer.{Peer}
use Rattle.zq_base.specs.declared.attached.Attached.{Attached}
use Rattle.spec_control.specs.declared.book.Binding.{Binding}
use Rattle.spec_control.specs.declared.book.Waiting.{Waiting}
use Rattle.spec_control.specs.declared.end.EndEvent.TheVariants.{TermCame, DelimiterSeen, AckCame}
use Rattle.spec_control.specs.declared.end.Reason.{Reason}
use Rattle.spec_control.specs.declared.end.Reason.TheVariants.{Closed, BadId, Second, Linger, Link}
use Rattle.spec_control.specs.declared.entry.Did.{Did}
use Rattle.spec_control.specs.declared.entry.Did.TheVariants.{Asked, Delivered, Delimited}
use Rattle.spec_control.specs.declared.entry.Item.{Item}
use Rattle.spec_control.specs.declared.entry.Item.TheVariants.{Event, Seen}
use Rattle.spec_control.specs.declared.letter.Letter.{Letter}
use Rattle.spec_control.specs.declared.letter.Word.{Word}
use Rattle.spec_control.specs.declared.letter.Word.TheVariants.{Own, Plug, TermReq, Term, TermAck, PipeBind, PipeTerm, PipeTermAck, Stop, Reap}
use Rattle.spec_control.specs.declared.request.Req.{Req}
use Rattle.spec_control.specs.declared.request.Req.TheVariants.{Socket as MakeSocket, AskTerm, Bind, Connect, Unbind, Disconnect, Close, Accepted, Shaken, AskEnd, AskOver, OutputOver}
use Rattle.spec_control.specs.declared.request.Reply.{Reply}
use Rattle.spec_control.specs.declared.request.Reply.TheVariants.{Done, Object, Pair as PairMade, Both, Wait, Asked as WasAsked, Before, Refused}
use Rattle.spec_control.specs.EndpointBook.{is_fulfilled, without_first}
use Rattle.spec_control.specs.Register.{fulfilled_by, waiting_now, without_holder}
use Rattle.spec_control.specs.Hold.{Hold, Bound, Waits, Joined, is_bind_to, is_connect_to, fulfil}
use Rattle.spec_control.specs.Stage.{was_asked}
use Rattle.spec_control.specs.Place.{Place, Unmade, Away, At, is_unmade, is_away}
use Rattle.spec_control.specs.PairPhase.{PairEvent, Opens, BindCame, Happens}
use Rattle.spec_control.specs.Row.{OwnComes, PlugComes, TermComes, RequestComes, AckComes, RootAsked}
use Rattle.spec_control.specs.Rows.{PairRow, no_pair, obj, pair, end_place, end_owner, is_owner}
use Rattle.spec_control.specs.Control.{Control, begun, with_value, with_end, id, end_of, put, link, makes, draws, tell_children, stop_sockets, happens, ask, ask_all, attach, open_pair, greet, ends_of, try_end, owner_of, place_of, next_object, next_pair}
use Rattle.spec_control.specs.After.{Answers, answers_in, settle, term_reason, term_delay, without_names, processed, without_front, session_row, accepted_row, owner_or_root, with_hold, named, binding_by, joins, fulfil_all, binds, connects_to, connects, tell_struck, strike_end, strikes, strikes_first, accepts, pair_or_none, shakes, uses_reason, requested, answered, after}
use Rattle.spec_control.specs.ControlRun.{Fits, FitsItem, MayShake, MayAsk, after_all, after_item, IsControlRun}
use Rattle.spec_control.specs.Has.{acts_in_request}
use Rattle.control_laws.proofs.ListLemmas.{never, right}
use Rattle.control_laws.proofs.RowLemmas.{pair_there}
use Rattle.control_laws.proofs.StepLemmas.{inv_of}
use Rattle.control_laws.specs.Kept.{Kept}
use Rattle.control_laws.proofs.EndLemmas.{kept_but}
use Rattle.control_laws.proofs.OpenLemmas.{may_open}
use Rattle.control_laws.proofs.RootLemmas.{runs_are_kept}
use Rattle.control_laws.proofs.TellLemmas.{rows_of}
use Rattle.control_laws.specs.Coming.{ComesToEnd}
use Rattle.control_laws.specs.Met.{EndMeets, met_by}
use Rattle.control_laws.proofs.GuardLemmas.{may_come}
use Rattle.control_laws.specs.Spared.{shown, Known, Spared, touched_in, OtherEndsStay}
use Rattle.control_laws.proofs.StayLemmas.{SameEnds, ends_stay, ends_on, where_told, tried, own_ends_stay, ack_ends_stay, children_told, sockets_stopped, is_settled}
use Rattle.control_laws.proofs.SparedLemmas.{spared_on, spared_same, spared_not, spared_happens, spared_ask, spared_ask_all, spared_attach, spared_greet, spared_draws}

other_unmade : (x y : Place) → (is_unmade x && is_unmade y) ≡ true → Away ≡ shown y
other_unmade x Unmade h = refl
other_unmade x Away h = absurd (never (right (is_unmade x) false h))
other_unmade x (At state) h = absurd (never (right (is_unmade x) false h))

some_end : {x y : EndMeets} → Some x ≡ Some y → x ≡ y
some_end {x} h = ap (λ (o : Option EndMeets). end_or x o) h
  where
    end_or : EndMeets → Option EndMeets → EndMeets
    end_or d None = d
    end_or d (Some m) = m

none_some : {x : EndMeets} → None ≡ Some x → ⊥
none_some h = Prim.grind arith

-- an end that a command finds is its object's, and one of a pair
pub record IsOfPair (c : Control) (at : ℕ) (e : EndId) : Type 0 where
  pub owner : owner_of c e ≡ at
  pub within : e.pair.0 < next_pair c

module _ (c : Control) (kept : Kept c) (slot : ℕ) (rest : List Letter) (at : ℕ) where
  of_pair : (e : EndId) (event : PairEvent) → ComesToEnd c at e event → IsOfPair c at e
  of_pair e event comes_to = record { owner = comes_to.owner; within = pair_there c.rows e.pair.0 e.a event comes_to.comes }

  met_end : (word : Word) → c.boxes slot ≡ record { to = id at; word = word } ∷ rest → (m : EndMeets) → met_by word ≡ Some m → IsOfPair c at m.end
  met_end (Own child) is m h = absurd (none_some h)
  met_end (Plug None) is m h = absurd (none_some h)
  met_end (Plug (Some e)) is m h = subst (λ (x : EndMeets). IsOfPair c at x.end) (some_end h) (of_pair e BindCame (may_come c kept slot rest at (Plug (Some e)) is).1)
  met_end (TermReq child) is m h = absurd (none_some h)
  met_end Term is m h = absurd (none_some h)
  met_end (TermAck child) is m h = absurd (none_some h)
  met_end (PipeBind e peer) is m h = subst (λ (x : EndMeets). IsOfPair c at x.end) (some_end h) (of_pair e BindCame (may_come c kept slot rest at (PipeBind e peer) is))
  met_end (PipeTerm e) is m h = subst (λ (x : EndMeets). IsOfPair c at x.end) (some_end h) (of_pair e (Happens TermCame) (may_come c kept slot rest at (PipeTerm e) is))
  met_end (PipeTermAck e) is m h = subst (λ (x : EndMeets). IsOfPair c at x.end) (some_end h) (of_pair e (Happens AckCame) (may_come c kept slot rest at (PipeTermAck e) is))
  met_end Stop is m h = absurd (none_some h)
  met_end (Reap socket) is m h = absurd (none_some h)

module _ (i : ℕ) where
  -- ---- a command is processed
  module _ (at : ℕ) (other : at ≢ i) (h : Answers) where
    binds_it : (e : EndId) (c : Control) → Known c → IsOfPair c at e → Spared i c (greet (h.kind e) e (attach BindCame e c))
    binds_it e c known of =
        let one = spared_attach i BindCame e c (λ z. other (sym of.owner ∙ z)) of.within refl known in
        spared_on i c (attach BindCame e c) _ one (spared_greet i (h.kind e) e (attach BindCame e c) (λ z. other (sym of.owner ∙ (sym (one.owners e of.within) ∙ z))) one.known)

    acknowledged : (e : EndId) (c : Control) → Known c → owner_of c e ≡ at → Spared i c (try_end at h.left (settle e h.counts (happens AckCame e c)))
    acknowledged e c known mine =
        let one = spared_happens i AckCame e c (λ z. other (sym mine ∙ z)) known in
        let d = happens AckCame e c in
        spared_on i c d _ one (spared_same i d _ one.known (ends_on d (settle e h.counts d) _ (is_settled e h.counts d) (tried at h.left (settle e h.counts d))))

    term_comes : (c : Control) → Known c → Spared i c (processed at Term h c)
    term_comes c known =
        let asked = without_names at (link TermComes at c) in
        let reason = term_reason (obj c.rows at).kind in
        let delay = term_delay (obj c.rows at) in
        let es = ends_of at asked in
        let first = spared_same i c asked known (record { pairs = refl; attached = refl; reasons = refl }) in
        let mine = All-weaker (λ x. (owner_of asked x == at) ≡ true) (λ x. owner_of asked x ≢ i) (λ x is z. other (sym (eqb-true (owner_of asked x) at is) ∙ z)) es (filter_passes (λ x. owner_of asked x == at) asked.attached) in
        let one = spared_ask_all i reason delay es asked mine first.known in
        let d = ask_all reason delay es asked in
        spared_on i c asked _ first (spared_on i asked d _ one
        (spared_same i d _ one.known (ends_on d (tell_children (length d.rows.objects) at d) _ (children_told (length d.rows.objects) at d) (tried at h.left (tell_children (length d.rows.objects) at d)))))

    pub spared_word : (word : Word) (c : Control) → Known c → ((m : EndMeets) → met_by word ≡ Some m → IsOfPair c at m.end) → Spared i c (processed at word h c)
    spared_word (Own child) c known ends = spared_same i c _ known (own_ends_stay (was_asked (obj c.rows at).stage) OwnComes child.0 c)
    spared_word (Plug None) c known ends = spared_same i c _ known (record { pairs = refl; attached = refl; reasons = refl })
    spared_word (Plug (Some e)) c known ends =
        let plugged = link PlugComes at c in
        let first = spared_same i c plugged known (record { pairs = refl; attached = refl; reasons = refl }) in
        let of = ends (record { end = e; event = BindCame }) refl in
        spared_on i c plugged _ first (binds_it e plugged first.known (record { owner = of.owner; within = of.within }))
    spared_word (TermReq child) c known ends = spared_same i c _ known (own_ends_stay (not (was_asked (obj c.rows at).stage)) RequestComes child.0 c)
    spared_word Term c known ends = term_comes c known
    spared_word (TermAck child) c known ends = spared_same i c _ known (ack_ends_stay at h.left AckComes child.0 c)
    spared_word (PipeBind e peer) c known ends = binds_it e c known (ends (record { end = e; event = BindCame }) refl)
    spared_word (PipeTerm e) c known ends = spared_happens i TermCame e c (λ z. other (sym (ends (record { end = e; event = Happens TermCame }) refl).owner ∙ z)) known
    spared_word (PipeTermAck e) c known ends = acknowledged e c known (ends (record { end = e; event = Happens AckCame }) refl).owner
    spared_word Stop c known ends = spared_same i c _ known (record { pairs = refl; attached = refl; reasons = refl })
    spared_word (Reap socket) c known ends = spared_same i c _ known (record { pairs = refl; attached = refl; reasons = refl })

  -- ---- a request is answered
  -- a pair is made whose first end is another object's
  opens_it : (e : EndId) (bind : Word) (kind : Attached) (c : Control) → owner_of c e ≢ i → e.pair.0 < next_pair c → Away ≡ shown (end_place (pair c.rows e.pair.0) (not e.a)) → Known c → Spared i c (greet kind e (open_pair e bind c))
  opens_it e bind kind c other within unmade known =
      let now = attach Opens e c in
      let opened = open_pair e bind c in
      let one = spared_attach i Opens e c other within unmade known in
      let two = spared_on i c now opened one (spared_same i now opened one.known (record { pairs = refl; attached = refl; reasons = refl })) in
      spared_on i c opened _ two (spared_greet i kind e opened (λ z. other (sym (two.owners e within) ∙ z)) two.known)

  module _ (connecting bound : ℕ) (c : Control) where
    drawn_row : PairRow
    drawn_row = record { a_owner = connecting; b_owner = bound; a = Unmade; b = Unmade }

    row_is : pair (draws connecting bound c).rows (next_pair c) ≡ record { a_owner = connecting; b_owner = bound; a = Unmade; b = Unmade }
    row_is = get_or_push c.rows.pairs (record { a_owner = connecting; b_owner = bound; a = Unmade; b = Unmade }) no_pair (next_pair c) refl

    drawn_owner : (a : Bool) → owner_of (draws connecting bound c) (end_of (next_pair c) a) ≡ cond a connecting bound
    drawn_owner true = ap (λ (p : PairRow). end_owner p true) row_is
    drawn_owner false = ap (λ (p : PairRow). end_owner p false) row_is

    drawn_unmade : (a : Bool) → Away ≡ shown (end_place (pair (draws connecting bound c).rows (next_pair c)) a)
    drawn_unmade true = sym (ap (λ (p : PairRow). shown (end_place p true)) row_is)
    drawn_unmade false = sym (ap (λ (p : PairRow). shown (end_place p false)) row_is)

    drawn_within : next_pair c < next_pair (draws connecting bound c)
    drawn_within = let more = length_push c.rows.pairs (record { a_owner = connecting; b_owner = bound; a = Unmade; b = Unmade }) in omega (arith, more)

    -- a pair is drawn and made
    opens_drawn : (a : Bool) (bind : Word) (kind : Attached) → cond a connecting bound ≢ i → Known c → Spared i c (greet kind (end_of (next_pair c) a) (open_pair (end_of (next_pair c) a) bind (draws connecting bound c)))
    opens_drawn a bind kind other known =
        let one = spared_draws i connecting bound c known in
        spared_on i c (draws connecting bound c) _ one
        (opens_it (end_of (next_pair c) a) bind kind (draws connecting bound c) (λ z. other (sym (drawn_owner a) ∙ z)) drawn_within (drawn_unmade (not a)) one.known)

  spared_joins : (connecting bound : ℕ) (a : Bool) (h : Answers) (c : Control) → cond a connecting bound ≢ i → Known c → Spared i c (joins connecting bound a h c)
  spared_joins connecting bound a h c other known =
      opens_drawn connecting bound c a (PipeBind (end_of (next_pair c) (not a)) (obj c.rows (owner_of (draws connecting bound c) (end_of (next_pair c) a))).options.id) (h.kind (end_of (next_pair c) a)) other known

  module _ (o : ℕ) (other : o ≢ i) (h : Answers) where
    spared_fulfil : (at : Endpoint) (ws : List Waiting) (c : Control) → Known c → Spared i c (fulfil_all o at ws h c)
    spared_fulfil at [] c known = spared_not i c known
    spared_fulfil at (w ∷ ws) c known =
        let joined = joins w.waiter.0 o false h c in
        let one = spared_joins w.waiter.0 o false h c other known in
        let held = record joined { holds = with_value w.waiter.0 (fulfil at (next_pair c) (joined.holds w.waiter.0)) joined.holds } in
        let two = spared_on i c joined held one (spared_same i joined held one.known (record { pairs = refl; attached = refl; reasons = refl })) in
        spared_on i c held _ two (spared_fulfil at ws held two.known)

    spared_binds : (at : Endpoint) (c : Control) → Known c → Spared i c (binds o at h c)
    spared_binds (Inproc name) c known =
        let at = Inproc name in
        let binding = binding_by o c in
        let held = with_hold o (Bound at None) (named o at binding c) in
        let now = record held { names = waiting_now (filter (λ w. not (is_fulfilled at binding w)) held.names.waiting) held.names } in
        let one = spared_same i c now known (record { pairs = refl; attached = refl; reasons = refl }) in
        spared_on i c now _ one (spared_fulfil at (fulfilled_by at binding c.names) now one.known)
    spared_binds (Tcp address) c known = spared_same i c _ known (record { pairs = refl; attached = refl; reasons = refl })

    spared_connects_to : (at : Endpoint) (binding : Option Binding) (c : Control) → Known c → Spared i c (connects_to o at binding h c)
    spared_connects_to at None c known = spared_same i c _ known (record { pairs = refl; attached = refl; reasons = refl })
    spared_connects_to at (Some binding) c known =
        let held = with_hold o (Joined at (next_pair c) None) c in
        let one = spared_same i c held known (record { pairs = refl; attached = refl; reasons = refl }) in
        spared_on i c held _ one (spared_joins o binding.holder.0 true h held other one.known)

    spared_connects : (at : Endpoint) (c : Control) → Known c → Spared i c (connects o at h c)
    spared_connects (Inproc name) c known = spared_connects_to (Inproc name) (c.names.held (Inproc name)) c known
    spared_connects (Tcp address) c known =
        let child = next_object c in
        let mine = end_of (next_pair c) true in
        let held = makes (session_row o c) (with_hold o (Joined (Tcp address) (next_pair c) (Some child)) c) in
        let first = spared_same i c held known (record { pairs = refl; attached = refl; reasons = refl }) in
        let drawn = draws o child held in
        let two = spared_on i c held drawn first (spared_draws i o child held first.known) in
        let told = put o (Own (id child)) drawn in
        let three = spared_on i c drawn told two (spared_same i drawn told two.known (record { pairs = refl; attached = refl; reasons = refl })) in
        spared_on i c told _ three
        (opens_it mine (Plug (Some (end_of (next_pair c) false))) (h.kind mine) told (λ z. other (sym (drawn_owner o child held true) ∙ z)) (drawn_within o child held) (drawn_unmade o child held false) three.known)

    spared_struck : (child : Option ℕ) (c : Control) → Known c → Spared i c (tell_struck o child c)
    spared_struck None c known = spared_not i c known
    spared_struck (Some child) c known = spared_same i c _ known (where_told (is_owner o (obj c.rows child).owner) child c)

    spared_strike_end : (e : EndId) (c : Control) → Known c → Spared i c (strike_end o e c)
    spared_strike_end e c known = by (is_away (place_of c e)) (owner_of c e == o) refl
      where
        by : (x y : Bool) → (owner_of c e == o) ≡ y → Spared i c (if x then record c { struck = with_end e true c.struck } else (if y then ask Closed false e c else c))
        by true y h2 = spared_same i c _ known (record { pairs = refl; attached = refl; reasons = refl })
        by false true mine = spared_ask i Closed false e c (λ z. other (sym (eqb-true (owner_of c e) o mine) ∙ z)) known
        by false false h2 = spared_not i c known

    spared_strikes : (to : Endpoint) (hold : Option Hold) (c : Control) → Known c → Spared i c (strikes o to hold c)
    spared_strikes to None c known = spared_not i c known
    spared_strikes to (Some (Bound at listener)) c known =
        let named_off = record c { names = without_holder to c.names } in
        let one = spared_same i c named_off known (record { pairs = refl; attached = refl; reasons = refl }) in
        spared_on i c named_off _ one (spared_struck listener named_off one.known)
    spared_strikes to (Some (Waits at)) c known = spared_same i c _ known (record { pairs = refl; attached = refl; reasons = refl })
    spared_strikes to (Some (Joined at k session)) c known =
        let struck = strike_end o (end_of k true) c in
        let one = spared_strike_end (end_of k true) c known in
        spared_on i c struck _ one (spared_struck session struck one.known)

    spared_strikes_first : (to : Endpoint) (test : Hold → Bool) (c : Control) → Known c → Spared i c (strikes_first o to test c)
    spared_strikes_first to test c known =
        let now = record c { holds = with_value o (without_first test (c.holds o)) c.holds } in
        let one = spared_same i c now known (record { pairs = refl; attached = refl; reasons = refl }) in
        spared_on i c now _ one (spared_strikes to (find test (c.holds o)) now one.known)

  spared_accepts : (listener : ℕ) (c : Control) → Known c → Spared i c (accepts listener c)
  spared_accepts listener c known =
      let child = next_object c in
      let socket = owner_or_root (obj c.rows listener).owner in
      let made = makes (accepted_row listener c) c in
      let first = spared_same i c made known (record { pairs = refl; attached = refl; reasons = refl }) in
      let drawn = draws child socket made in
      let two = spared_on i c made drawn first (spared_draws i child socket made first.known) in
      spared_on i c drawn _ two (spared_same i drawn _ two.known (record { pairs = refl; attached = refl; reasons = refl }))

  spared_shakes : (o : ℕ) (peer : Peer) (h : Answers) (c : Control) → Kept c → Known c → MayShake c o → o ≢ i → Spared i c (shakes o peer h c)
  spared_shakes o peer h c kept known m other =
      let k = pair_or_none (obj c.rows o).pair in
      let may_it = may_open c.rows k true (inv_of (rows_of (kept_but 0 c kept))) m.unmade in
      opens_it (end_of k true) (PipeBind (end_of k false) peer.identity) (h.kind (end_of k true)) c (λ z. other (sym (kept.pairs o m.accepted).0 ∙ z)) (pair_there c.rows k true Opens may_it)
      (other_unmade _ _ may_it) known

  reason_used : (reason : Reason) (o : ℕ) (c : Control) → SameEnds c (uses_reason reason o c)
  reason_used Closed o c = ends_stay c
  reason_used BadId o c = ends_stay c
  reason_used Second o c = ends_stay c
  reason_used Linger o c = record { pairs = refl; attached = refl; reasons = refl }
  reason_used Link o c = record { pairs = refl; attached = refl; reasons = refl }

  spared_ask_end : (e : EndId) (reason : Reason) (c : Control) → Known c → owner_of c e ≢ i → Spared i c (ask reason false e (uses_reason reason (owner_of c e) c))
  spared_ask_end e reason c known other =
      let now = uses_reason reason (owner_of c e) c in
      let same = reason_used reason (owner_of c e) c in
      let one = spared_same i c now known same in
      spared_on i c now _ one (spared_ask i reason false e now (λ z. other (sym (ap (λ (ps : List PairRow). end_owner (slice_index_or ps e.pair.0 no_pair) e.a) same.pairs) ∙ z)) one.known)

  spared_request : (req : Req) (h : Answers) (c : Control) → Kept c → Known c → MayAsk c req → acts_in_request c req ≢ Some i → Spared i c (requested req h c)
  spared_request (MakeSocket kind options) h c kept known may_it other = spared_same i c _ known (record { pairs = refl; attached = refl; reasons = refl })
  spared_request AskTerm h c kept known may_it other =
      let asked = link RootAsked 0 c in
      spared_same i c _ known (ends_on c asked _ (record { pairs = refl; attached = refl; reasons = refl })
      (ends_on asked (stop_sockets (length c.rows.objects) asked) _ (sockets_stopped (length c.rows.objects) asked) (tried 0 h.left (stop_sockets (length c.rows.objects) asked))))
  spared_request (Bind o at) h c kept known may_it other = spared_binds o.0 (λ z. other (ap (λ (n : ℕ). Some n) z)) h at c known
  spared_request (Connect o at) h c kept known may_it other = spared_connects o.0 (λ z. other (ap (λ (n : ℕ). Some n) z)) h at c known
  spared_request (Unbind o at) h c kept known may_it other = spared_strikes_first o.0 (λ z. other (ap (λ (n : ℕ). Some n) z)) h at (is_bind_to at) c known
  spared_request (Disconnect o at) h c kept known may_it other = spared_strikes_first o.0 (λ z. other (ap (λ (n : ℕ). Some n) z)) h at (is_connect_to at) c known
  spared_request (Close o) h c kept known may_it other = spared_same i c _ known (record { pairs = refl; attached = refl; reasons = refl })
  spared_request (Accepted o) h c kept known may_it other = spared_accepts o.0 c known
  spared_request (Shaken o peer) h c kept known may_it other = spared_shakes o.0 peer h c kept known may_it (λ z. other (ap (λ (n : ℕ). Some n) z))
  spared_request (AskEnd e reason) h c kept known may_it other = spared_ask_end e reason c known (λ z. other (ap (λ (n : ℕ). Some n) z))
  spared_request (AskOver o) h c kept known may_it other = spared_same i c _ known (record { pairs = refl; attached = refl; reasons = refl })
  spared_request (OutputOver o) h c kept known may_it other = spared_same i c _ known (tried o.0 h.left c)

  spared_answered : (req : Req) (reply : Reply) (h : Answers) (c : Control) → Known c → Spared i c (requested req h c) → Spared i c (answered req reply h c)
  spared_answered req Done h c known all = all
  spared_answered req (Object o) h c known all = all
  spared_answered req (PairMade p) h c known all = all
  spared_answered req (Both o p) h c known all = all
  spared_answered req Wait h c known all = all
  spared_answered req WasAsked h c known all = all
  spared_answered req Before h c known all = spared_not i c known
  spared_answered req (Refused refusal) h c known all = spared_not i c known

  -- ---- whatever the event
  module _ {N S : Type 0} (c : Control) (kept : Kept c) (known : Known c) where
    pub others_spared : (did : Did N S) → Fits c did → touched_in c did ≢ Some i → Spared i c (after did c)
    others_spared (Asked req reply h) fits other = spared_answered req reply (answers_in h) c known (spared_request req (answers_in h) c kept known fits.may.0 other)
    others_spared (Delivered slot letter h) fits other =
        let taken = without_front slot.0 c in
        let one = spared_same i c taken known (record { pairs = refl; attached = refl; reasons = refl }) in
        spared_on i c taken _ one
        (spared_word letter.to.0 (λ z. other (ap (λ (n : ℕ). Some n) z)) (answers_in h) letter.word taken one.known
        (λ m is. (let of = met_end c kept slot.0 fits.may.behind letter.to.0 letter.word fits.may.oldest m is in record { owner = of.owner; within = of.within })))
    others_spared (Delimited e h) fits other = spared_happens i DelimiterSeen e c (λ z. other (ap (λ (n : ℕ). Some n) z)) known

-- ---- in each run
abbrev number_or : Option ℕ → ℕ
number_or None = 0
number_or (Some n) = n

-- some object is none of those that an event touches
untouched : (t : Option ℕ) → t ≢ Some (suc (number_or t))
untouched None h = Prim.grind arith
untouched (Some n) h = (let same : n ≡ suc n = ap number_or h in omega (arith, same))

module _ {N S : Type 0} where
  after_more : (items : List (Item N S)) (item : Item N S) (c : Control) → after_all (items ++ item ∷ []) c ≡ after_item item (after_all items c)
  after_more [] item c = refl
  after_more (x ∷ items) item c = after_more items item (after_item x c)

  run_more : (items : List (Item N S)) (item : Item N S) (c : Control) → IsControlRun c items → FitsItem (after_all items c) item → IsControlRun c (items ++ item ∷ [])
  run_more [] item c run fits = (fits, tt)
  run_more (x ∷ items) item c run fits = (run.0, run_more items item (after_item x c) run.1 fits)

  known_on : (workers : ℕ) (past items : List (Item N S)) → IsControlRun (begun workers) past → Known (after_all past (begun workers)) → IsControlRun (after_all past (begun workers)) items →
      Known (after_all items (after_all past (begun workers)))
  known_on workers past [] run known on = known
  known_on workers past (Event entry ∷ items) run known on =
      let c = after_all past (begun workers) in
      let kept = runs_are_kept N S workers past run in
      let t = touched_in c entry.did in
      let one = others_spared (suc (number_or t)) c kept known entry.did on.0 (untouched t) in
      subst (λ (d : Control). Known (after_all items d)) (after_more past (Event entry) (begun workers))
      (known_on workers (past ++ Event entry ∷ []) items (run_more past (Event entry) (begun workers) run on.0)
      (subst Known (sym (after_more past (Event entry) (begun workers))) one.known)
      (subst (λ (d : Control). IsControlRun d items) (sym (after_more past (Event entry) (begun workers))) on.1))
  known_on workers past (Seen sight ∷ items) run known on =
      subst (λ (d : Control). Known (after_all items d)) (after_more past (Seen sight) (begun workers))
      (known_on workers (past ++ Seen sight ∷ []) items (run_more past (Seen sight) (begun workers) run on.0)
      (subst Known (sym (after_more past (Seen sight) (begun workers))) known)
      (subst (λ (d : Control). IsControlRun d items) (sym (after_more past (Seen sight) (begun workers))) on.1))

pub other_ends_stay : (N S : Type 0) → OtherEndsStay N S
other_ends_stay N S workers items run did fits i other =
    others_spared i (after_all items (begun workers)) (runs_are_kept N S workers items run) (known_on workers [] items tt (All-nil (λ x. x.pair.0 < next_pair (begun workers))) run) did fits other
