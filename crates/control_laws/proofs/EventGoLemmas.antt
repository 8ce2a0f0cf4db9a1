-- Each control event as moves.
use Rattle.std.specs.Prelude.{◌≡◌, ◌<◌, ◌==◌, ◌&&◌, if◌then◌else◌, ℕ, Bool, true, false, not, cond, List, [], ◌∷◌, ◌++◌, Option, Some, None, filter, find, length, refl, ◌≢◌}
use Rattle.std.proofs.Common.{arith, sym, ap, ◌∙◌, length-append, subst}
use Rattle.std.proofs.lemmas.List.{get_or_push}
use Rattle.control_laws.proofs.TermLemmas.{all_filter}
use Rattle.zq_base.specs.declared.endpoint.Endpoint.{Endpoint}
use Rattle.zq_base.specs.declared.endpoint.Endpoint.TheVariants.{Inproc, Tcp}
use Rattle.zq_base.specs.declared.endpoint.Address.{Address}
use Rattle.zq_base.specs.declared.ids.EndId.{EndId}
use Rattle.zq_base.specs.declared.ids.ObjId.{ObjId}
use Rattle.zq_base.specs.declared.options.Peer.{Peer}
use Rattle.spec_control.specs.declared.book.Binding.{Binding}
use Rattle.spec_control.specs.declared.book.Waiting.{Waiting}
use Rattle.spec_control.specs.declared.end.EndEvent.TheVariants.{DelimiterSeen}
use Rattle.spec_control.specs.declared.end.Reason.{Reason}
use Rattle.spec_control.specs.declared.end.Reason.TheVariants.{Closed, BadId, Second, Linger, Link}
use Rattle.spec_control.specs.declared.letter.Letter.{Letter}
use Rattle.spec_control.specs.declared.letter.Word.{Word}
use Rattle.spec_control.specs.declared.letter.Word.TheVariants.{Own, Plug, TermReq, PipeBind, Reap}
use Rattle.spec_control.specs.declared.request.Req.{Req}
use Rattle.spec_control.specs.declared.request.Req.TheVariants.{Socket as MakeSocket, AskTerm, Bind, Connect, Unbind, Disconnect, Close, Accepted, Shaken, AskEnd, AskOver, OutputOver}
use Rattle.spec_control.specs.declared.request.Reply.{Reply}
use Rattle.spec_control.specs.declared.request.Reply.TheVariants.{Done, Object, Pair as PairMade, Both, Wait, Asked as WasAsked, Before, Refused}
use Rattle.spec_control.specs.declared.entry.Did.{Did}
use Rattle.spec_control.specs.declared.entry.Did.TheVariants.{Asked as DidAsk, Delivered, Delimited}
use Rattle.spec_control.specs.declared.stage.Use.TheVariants.{Unused}
use Rattle.spec_control.specs.Hold.{Hold, Bound, Waits, Joined, is_bind_to, is_connect_to}
use Rattle.spec_control.specs.EndpointBook.{is_fulfilled, without_first}
use Rattle.spec_control.specs.Register.{fulfilled_by, waiting_now, without_holder}
use Rattle.spec_control.specs.Place.{Unmade, is_away}
use Rattle.spec_control.specs.PairPhase.{Opens, may}
use Rattle.spec_control.specs.Row.{Row, AsksOver, RootAsked, AsksForLink, AsksForLinger, link_may, link_after, root_fits, socket_fits, is_socket, is_unowned, nobody, is_listener, owner_fits}
use Rattle.spec_control.specs.Rows.{Rows, PairRow, no_pair, obj, pair, with_object, end_half, end_owner, is_owner}
use Rattle.spec_control.specs.Control.{Control, with_value, with_end, id, end_of, place_of, owner_of, next_object, next_pair, put, link, makes, draws, stop_sockets, ask, attach, open_pair}
use Rattle.spec_control.specs.After.{Answers, answers_in, socket_row, listener_row, session_row, accepted_row, owner_or_root, pair_or_none, with_hold, named, binding_by, joins, binds, connects, connects_to, accepts, tell_struck, strike_end, strikes, uses_reason, requested, answered, after}
use Rattle.spec_control.specs.Reply.{reply_of}
use Rattle.spec_control.specs.ControlRun.{IsOpenSocket, MayShake, MayGive, MayAskEnd, MayAskOver, MayAsk, Fits, unless_refused, IsTakenIn}
use Rattle.spec_control.specs.Stage.{is_alive, has_ended, is_unused, is_used}
use Rattle.control_laws.specs.Kept.{IsUnasked, Kept}
use Rattle.control_laws.proofs.ListLemmas.{never, left, right, and}
use Rattle.control_laws.proofs.LinkLemmas.{root_is, at_owner, at_root, at_socket, alive_is}
use Rattle.control_laws.proofs.ClosedLemmas.{Inv, none_is_some}
use Rattle.control_laws.proofs.RowLemmas.{pair_there}
use Rattle.control_laws.proofs.QuietLemmas.{socket_owner}
use Rattle.control_laws.proofs.StepLemmas.{inv_of, some_object}
use Rattle.control_laws.proofs.TellLemmas.{rows_of}
use Rattle.control_laws.proofs.EndLemmas.{kept_but}
use Rattle.control_laws.proofs.RequestLemmas.{unused_facts}
use Rattle.control_laws.proofs.StrikeLemmas.{unused_not_coming}
use Rattle.control_laws.proofs.OpenLemmas.{may_open, owner_lives, unended_uncleared}
use Rattle.control_laws.proofs.RunLemmas.{is_granted, asked_alive, granted_alive}
use Rattle.control_laws.specs.Move.{LinkMoves, EndMoves, ObjectMade, PairDrawn, LetterPut, one_letter, link_letters, put_all, MovesTo, IsMadeUnder}
use Rattle.control_laws.specs.OwnMoves.{join_moves, fulfil_moves, connect_moves, reason_moves, request_moves, own_moves, having_taken}
use Rattle.control_laws.proofs.GoLemmas.{either_free, goes_on, goes_free, goes_and_free, stays, one, tell_where_goes, stop_sockets_goes, happens_goes, ask_goes, greet_goes, try_end_goes, puts_goes, opened_goes}
use Rattle.control_laws.proofs.SoundLemmas.{socket_there, sound_of}
use Rattle.control_laws.proofs.JoinGoLemmas.{drawn_opens, opened_owner, joins_goes, fulfil_goes}
use Rattle.std.proofs.Math.ListN.{get_or-append}
use Rattle.spec_control.specs.declared.object.ObjKind.{ObjKind}
use Rattle.spec_control.specs.declared.object.ObjKind.TheVariants.{Root, Socket as IsSocket, Listener, Session}
use Rattle.control_laws.proofs.JoinLemmas.{open_is, unasked_lives}
use Rattle.control_laws.proofs.MakeMoreLemmas.{above_zero, not_zero_fits}
use Rattle.control_laws.proofs.WordGoLemmas.{word_goes}

-- ---- a hold that is struck
tell_struck_goes : (i : ℕ) (child : Option ℕ) (c : Control) → MovesTo [] c (tell_struck i child c)
tell_struck_goes i None c = stays c c refl refl
tell_struck_goes i (Some child) c = tell_where_goes (is_owner i (obj c.rows child).owner) child c

strike_end_goes : (i : ℕ) (e : EndId) (c : Control) → MovesTo [] c (strike_end i e c)
strike_end_goes i e c =
    either_free (is_away (place_of c e)) c (record c { struck = with_end e true c.struck }) (if owner_of c e == i then ask Closed false e c else c) (λ x. stays c (record c { struck = with_end e true c.struck }) refl refl)
    (λ x. either_free (owner_of c e == i) c (ask Closed false e c) c (λ y. ask_goes Closed false e c) (λ y. stays c c refl refl))

strikes_goes : (i : ℕ) (to : Endpoint) (hold : Option Hold) (c d : Control) → d.rows ≡ c.rows → d.boxes ≡ c.boxes → MovesTo [] c (strikes i to hold d)
strikes_goes i to None c d rows boxes = stays c d rows boxes
strikes_goes i to (Some (Bound at listener)) c d rows boxes =
    let free = record d { names = without_holder to d.names } in
    goes_free c free (tell_struck i listener free) (stays c free rows boxes) (tell_struck_goes i listener free)
strikes_goes i to (Some (Waits at)) c d rows boxes = stays c (strikes i to (Some (Waits at)) d) rows boxes
strikes_goes i to (Some (Joined at k session)) c d rows boxes =
    let struck = strike_end i (end_of k true) d in
    goes_free c d (tell_struck i session struck) (stays c d rows boxes) (goes_free d struck (tell_struck i session struck) (strike_end_goes i (end_of k true) d) (tell_struck_goes i session struck))

-- ---- a request that is granted
module _ (c : Control) (kept : Kept c) (h : Answers) where
  fits : Inv c.rows
  fits = inv_of (rows_of (kept_but 0 c kept))

  some : 0 < length c.rows.objects
  some = some_object c.rows kept.reached

  one_more : (o : Row) (i : ℕ) → i < length c.rows.objects → i < length (c.rows.objects ++ o ∷ [])
  one_more o i there = let more = length-append c.rows.objects (o ∷ []) in omega (arith, more, there)

  last_there : (o : Row) → length c.rows.objects < length (c.rows.objects ++ o ∷ [])
  last_there o = let more = length-append c.rows.objects (o ∷ []) in omega (arith, more)

  root_may : is_alive (obj c.rows 0).stage ≡ true → link_may RootAsked (obj c.rows 0) ≡ true
  root_may alive = and _ _ alive (and _ _ unowned (and _ _ (left _ _ (right (obj c.rows 0).noted _ known)) (ap not (unused_not_coming (obj c.rows 0).stop no_stop))))
    where
      unowned : is_unowned (obj c.rows 0).owner ≡ true
      unowned = ap is_unowned kept.shape.root

      known : ((obj c.rows 0).noted && ((obj c.rows 0).plugged && is_used (obj c.rows 0).request)) ≡ true
      known = by (is_unowned (obj c.rows 0).owner) unowned (at_root (obj c.rows 0) (fits.fits 0))
        where
          by : (u : Bool) → u ≡ true → root_fits u ((obj c.rows 0).noted && ((obj c.rows 0).plugged && is_used (obj c.rows 0).request)) ≡ true → ((obj c.rows 0).noted && ((obj c.rows 0).plugged && is_used (obj c.rows 0).request)) ≡ true
          by true e g = g
          by false e g = absurd (never e)

      no_stop : is_unused (obj c.rows 0).stop ≡ true
      no_stop = by (is_socket (obj c.rows 0).kind) (root_is (obj c.rows 0).kind (obj c.rows 0).owner (at_owner (obj c.rows 0) (fits.fits 0)) unowned) (at_socket (obj c.rows 0) (fits.fits 0))
        where
          by : (k : Bool) → k ≡ false → socket_fits k (is_alive (obj c.rows 0).stage) (is_used (obj c.rows 0).request) (is_unused (obj c.rows 0).stop) ≡ true → is_unused (obj c.rows 0).stop ≡ true
          by false e g = g
          by true e g = absurd (never (sym e))

  ask_term_goes : is_alive (obj c.rows 0).stage ≡ true → MovesTo (LinkMoves 0 RootAsked ∷ []) c (requested AskTerm h c)
  ask_term_goes alive =
      let asked = link RootAsked 0 c in
      let stopped = stop_sockets (length c.rows.objects) asked in
      goes_and_free _ c asked (requested AskTerm h c) (one (LinkMoves 0 RootAsked) c asked (root_may alive) refl refl)
      (goes_free asked stopped (requested AskTerm h c) (stop_sockets_goes (length c.rows.objects) asked) (try_end_goes 0 h.left stopped))

  not_root : (i : ℕ) → IsUnasked c.rows i → i ≢ 0
  not_root i mine same =
      none_is_some 0 (sym kept.shape.root ∙ subst (λ (j : ℕ). (obj c.rows j).owner ≡ Some 0) same (socket_owner (obj c.rows i).kind (obj c.rows i).owner (at_owner (obj c.rows i) (fits.fits i)) mine.socket))

  bind_name_goes : (i : ℕ) (name : List ℕ) → IsUnasked c.rows i → MovesTo (fulfil_moves c i (next_pair c) (fulfilled_by (Inproc name) (binding_by i c) c.names)) c (binds i (Inproc name) h c)
  bind_name_goes i name mine =
      let at = Inproc name in
      let binding = binding_by i c in
      let held = with_hold i (Bound at None) (named i at binding c) in
      let ready = record held { names = waiting_now (filter (λ w. not (is_fulfilled at binding w)) held.names.waiting) held.names } in
      goes_on [] (fulfil_moves c i (next_pair c) (fulfilled_by (Inproc name) (binding_by i c) c.names)) c ready (binds i (Inproc name) h c) (stays c ready refl refl)
      (fulfil_goes c i at h (fulfilled_by at binding c.names) ready (next_pair c) refl refl mine
      (all_filter (λ (w : Waiting). IsUnasked c.rows w.waiter.0) (λ (w : Waiting). IsUnasked c.rows w.waiter.0) (is_fulfilled (Inproc name) (binding_by i c)) (λ w g t. g) c.names.waiting kept.names.waiters))

  listener_goes : (i : ℕ) (address : Address) → IsUnasked c.rows i →
      MovesTo (ObjectMade (listener_row i c) ∷ LetterPut i (Own (id (next_object c))) ∷ LetterPut (next_object c) (Plug None) ∷ []) c (binds i (Tcp address) h c)
  listener_goes i address mine =
      let there = socket_there c.rows i mine.socket in
      let child = next_object c in
      let made = makes (listener_row i c) (with_hold i (Bound (Tcp address) (Some child)) (named i (Tcp address) (binding_by i c) c)) in
      let owned = put i (Own (id child)) made in
      goes_on (ObjectMade (listener_row i c) ∷ []) (LetterPut i (Own (id child)) ∷ LetterPut child (Plug None) ∷ []) c made (binds i (Tcp address) h c) (one (ObjectMade (listener_row i c)) c made (record { under = i; owner = refl; there = there; unended = unasked_lives (obj c.rows i).stage mine.unasked; alive = refl; row_fits = ap (λ (b : Bool). b && true) (not_zero_fits i (not_root i mine)).0 }) refl refl)
      (goes_on (LetterPut i (Own (id child)) ∷ []) (LetterPut child (Plug None) ∷ []) made owned (binds i (Tcp address) h c)
      (puts_goes i i (Own (id child)) made refl (one_more (listener_row i c) i there)) (puts_goes child child (Plug None) owned refl (last_there (listener_row i c))))

  connect_name_goes : (i : ℕ) (name : List ℕ) → IsUnasked c.rows i → MovesTo (connect_moves c i (c.names.held (Inproc name))) c (connects_to i (Inproc name) (c.names.held (Inproc name)) h c)
  connect_name_goes i name mine = by (c.names.held (Inproc name)) refl
    where
      by : (b : Option Binding) → c.names.held (Inproc name) ≡ b → MovesTo (connect_moves c i b) c (connects_to i (Inproc name) b h c)
      by None e = stays c (connects_to i (Inproc name) None h c) refl refl
      by (Some binding) e =
          let held = with_hold i (Joined (Inproc name) (next_pair c) None) c in
          goes_on [] (join_moves c (next_pair c) i binding.holder.0 true) c held (joins i binding.holder.0 true h held) (stays c held refl refl)
          (joins_goes held i binding.holder.0 true h mine (kept.names.holders (Inproc name) binding e))

  session_goes : (i : ℕ) (address : Address) → IsUnasked c.rows i → MovesTo (request_moves c (Connect (id i) (Tcp address))) c (connects i (Tcp address) h c)
  session_goes i address open_so =
      goes_and_free (request_moves c (Connect (id i) (Tcp address))) c opened (connects i (Tcp address) h c)
      (goes_on (ObjectMade (session_row i c) ∷ []) (PairDrawn i child ∷ LetterPut i (Own (id child)) ∷ EndMoves mine Opens ∷ LetterPut child (Plug (Some (end_of k false))) ∷ []) c made opened (one (ObjectMade (session_row i c)) c made (record { under = i; owner = refl; there = there; unended = unasked_lives (obj c.rows i).stage open_so.unasked; alive = refl; row_fits = ap (λ (b : Bool). b && true) (not_zero_fits i (not_root i open_so)).1 }) refl refl)
      (goes_on (PairDrawn i child ∷ []) (LetterPut i (Own (id child)) ∷ EndMoves mine Opens ∷ LetterPut child (Plug (Some (end_of k false))) ∷ []) made drawn opened (one (PairDrawn i child) made drawn (there_too, child_there) refl refl)
      (goes_on (LetterPut i (Own (id child)) ∷ []) (EndMoves mine Opens ∷ LetterPut child (Plug (Some (end_of k false))) ∷ []) drawn owned opened (puts_goes i i (Own (id child)) drawn refl there_too)
      (goes_on (EndMoves mine Opens ∷ []) (LetterPut child (Plug (Some (end_of k false))) ∷ []) owned now opened (opened_goes mine owned comes unended)
      (puts_goes (owner_of now (end_of k false)) child (Plug (Some (end_of k false))) now theirs child_there)))))
      (greet_goes (h.kind mine) mine opened)
    where
      child : ℕ
      child = next_object c

      k : ℕ
      k = next_pair c

      mine : EndId
      mine = end_of (next_pair c) true

      made : Control
      made = makes (session_row i c) (with_hold i (Joined (Tcp address) (next_pair c) (Some (next_object c))) c)

      drawn : Control
      drawn = draws i (next_object c) (makes (session_row i c) (with_hold i (Joined (Tcp address) (next_pair c) (Some (next_object c))) c))

      owned : Control
      owned = put i (Own (id (next_object c))) (draws i (next_object c) (makes (session_row i c) (with_hold i (Joined (Tcp address) (next_pair c) (Some (next_object c))) c)))

      now : Control
      now = attach Opens (end_of (next_pair c) true) (put i (Own (id (next_object c))) (draws i (next_object c) (makes (session_row i c) (with_hold i (Joined (Tcp address) (next_pair c) (Some (next_object c))) c))))

      opened : Control
      opened = open_pair (end_of (next_pair c) true) (Plug (Some (end_of (next_pair c) false))) (put i (Own (id (next_object c))) (draws i (next_object c) (makes (session_row i c) (with_hold i (Joined (Tcp address) (next_pair c) (Some (next_object c))) c))))

      there : i < length c.rows.objects
      there = socket_there c.rows i open_so.socket

      there_too : i < length (c.rows.objects ++ session_row i c ∷ [])
      there_too = one_more (session_row i c) i there

      child_there : length c.rows.objects < length (c.rows.objects ++ session_row i c ∷ [])
      child_there = last_there (session_row i c)

      row : pair owned.rows (next_pair c) ≡ record { a_owner = i; b_owner = next_object c; a = Unmade; b = Unmade }
      row = get_or_push c.rows.pairs (record { a_owner = i; b_owner = next_object c; a = Unmade; b = Unmade }) no_pair (next_pair c) refl

      comes : may Opens (end_half (pair owned.rows (next_pair c)) true) (end_half (pair owned.rows (next_pair c)) false) ≡ true
      comes = drawn_opens owned.rows (next_pair c) i (next_object c) true row

      unended : (x : Bool) → has_ended (obj owned.rows (end_owner (pair owned.rows (next_pair c)) x)).stage ≡ false
      unended true =
          ap (λ (p : PairRow). has_ended (obj owned.rows p.a_owner).stage) row
          ∙ ap (λ (o : Row). has_ended o.stage) (get_or-append c.rows.objects (session_row i c ∷ []) nobody i there) ∙ unasked_lives (obj c.rows i).stage open_so.unasked
      unended false =
          ap (λ (p : PairRow). has_ended (obj owned.rows p.b_owner).stage) row
          ∙ ap (λ (o : Row). has_ended o.stage) (get_or_push c.rows.objects (session_row i c) nobody (next_object c) refl)

      theirs : owner_of now (end_of (next_pair c) false) ≡ next_object c
      theirs = opened_owner owned (end_of (next_pair c) true) (pair_there owned.rows (next_pair c) true Opens comes) ∙ ap (λ (p : PairRow). end_owner p false) row

  -- a request of an object about itself
  over_goes : (i w : ℕ) (word : Word) (d : Control) → (obj c.rows i).request ≡ Unused → has_ended (obj c.rows i).stage ≡ false → owner_or_root (obj c.rows i).owner ≡ w → cond (is_socket (obj c.rows i).kind) (Reap (id i)) (TermReq (id i)) ≡ word →
      d.rows ≡ c.rows → d.boxes ≡ c.boxes → MovesTo (LinkMoves i AsksOver ∷ []) c (put w word (link AsksOver i d))
  over_goes i w word d unused lives owner is rows boxes = one (LinkMoves i AsksOver) c (put w word (link AsksOver i d)) (and _ _ (unused_facts (obj c.rows i).request unused).0 (ap not lives)) (ap (λ (r : Rows). with_object i (link_after AsksOver (obj r i)) r) rows) puts
    where
      puts : (put w word (link AsksOver i d)).boxes ≡ put_all (with_object i (link_after AsksOver (obj c.rows i)) c.rows) (link_letters AsksOver i (obj c.rows i)) c.boxes
      puts =
          ap (λ (r : Rows). let slot = (obj (with_object i (link_after AsksOver (obj r i)) r) w).slot in with_value slot (d.boxes slot ++ record { to = id w; word = word } ∷ []) d.boxes) rows
          ∙ ap (λ (b : ℕ → List Letter). let slot = (obj (with_object i (link_after AsksOver (obj c.rows i)) c.rows) w).slot in with_value slot (b slot ++ record { to = id w; word = word } ∷ []) b) boxes
          ∙ sym (ap (λ (v : ℕ). put_all (with_object i (link_after AsksOver (obj c.rows i)) c.rows) (one_letter v (cond (is_socket (obj c.rows i).kind) (Reap (id i)) (TermReq (id i)))) c.boxes) owner
          ∙ ap (λ (v : Word). put_all (with_object i (link_after AsksOver (obj c.rows i)) c.rows) (one_letter w v) c.boxes) is)

  close_goes : (o : ObjId) → IsOpenSocket (obj c.rows o.0) → MovesTo (LinkMoves o.0 AsksOver ∷ []) c (requested (Close o) h c)
  close_goes o open_so =
      over_goes o.0 0 (Reap o) (record c { closed = c.closed ++ o ∷ [] }) open_so.open_still open_so.lives (ap owner_or_root (socket_owner (obj c.rows o.0).kind (obj c.rows o.0).owner (at_owner (obj c.rows o.0) (fits.fits o.0)) open_so.socket))
      (ap (λ (k : Bool). cond k (Reap o) (TermReq o)) open_so.socket) refl refl

  ask_over_goes : (o : ObjId) → MayAskOver (obj c.rows o.0) → MovesTo (LinkMoves o.0 AsksOver ∷ []) c (requested (AskOver o) h c)
  ask_over_goes o may_ask =
      over_goes o.0 (owner_or_root (obj c.rows o.0).owner) (TermReq o) c may_ask.first_time may_ask.taken_in.lives refl (ap (λ (k : Bool). cond k (Reap o) (TermReq o)) may_ask.no_socket) refl refl

  owner_there : (i : ℕ) → owner_or_root (obj c.rows i).owner < length c.rows.objects
  owner_there i = by (obj c.rows i).owner refl
    where
      by : (v : Option ℕ) → (obj c.rows i).owner ≡ v → owner_or_root v < length c.rows.objects
      by None e = some
      by (Some w) e = (sound_of c kept).owners i w e

  accepted_made : (listener : ℕ) → is_listener (obj c.rows listener).kind ≡ true → IsTakenIn (obj c.rows listener) → IsMadeUnder c.rows (accepted_row listener c)
  accepted_made listener is taken_in = by (obj c.rows listener).owner refl
    where
      none_owned : (k : ObjKind) → is_listener k ≡ true → owner_fits k None ≡ true → ⊥
      none_owned Listener e g = never g
      none_owned Root e g = never e
      none_owned (IsSocket kind) e g = never e
      none_owned Session e g = never e

      no_socket : (k : ObjKind) → is_listener k ≡ true → is_socket k ≡ false
      no_socket Listener e = refl
      no_socket Root e = refl
      no_socket (IsSocket kind) e = absurd (never e)
      no_socket Session e = refl

      by : (v : Option ℕ) → (obj c.rows listener).owner ≡ v → IsMadeUnder c.rows (accepted_row listener c)
      by None e = absurd (none_owned (obj c.rows listener).kind is (ap (owner_fits (obj c.rows listener).kind) (sym e) ∙ at_owner (obj c.rows listener) (fits.fits listener)))
      by (Some w) e =
          let below = above_zero (obj c.rows listener).kind w (ap (owner_fits (obj c.rows listener).kind) (sym e) ∙ at_owner (obj c.rows listener) (fits.fits listener)) (no_socket (obj c.rows listener).kind is) in
          let at = ap owner_or_root e in
          record {
            under = owner_or_root (obj c.rows listener).owner;
            owner = refl;
            there = owner_there listener;
            unended = ap (λ (j : ℕ). has_ended (obj c.rows j).stage) at ∙ owner_lives c.rows listener w fits e (unended_uncleared (obj c.rows listener).stage taken_in.lives);
            alive = refl;
            row_fits = ap (λ (v : ℕ). owner_fits Session (Some v) && true) at ∙ ap (λ (b : Bool). b && true) (not_zero_fits w below).1;
          }

  accepted_goes : (listener : ℕ) → is_listener (obj c.rows listener).kind ≡ true → IsTakenIn (obj c.rows listener) → MovesTo (request_moves c (Accepted (id listener))) c (accepts listener c)
  accepted_goes listener is taken_in =
      let child = next_object c in
      let socket = owner_or_root (obj c.rows listener).owner in
      let made = makes (accepted_row listener c) c in
      let drawn = draws child socket made in
      goes_on (ObjectMade (accepted_row listener c) ∷ []) (PairDrawn child socket ∷ LetterPut socket (Own (id child)) ∷ []) c made (accepts listener c)
      (one (ObjectMade (accepted_row listener c)) c made (accepted_made listener is taken_in) refl refl)
      (goes_on (PairDrawn child socket ∷ []) (LetterPut socket (Own (id child)) ∷ []) made drawn (accepts listener c)
      (one (PairDrawn child socket) made drawn (last_there (accepted_row listener c), one_more (accepted_row listener c) socket (owner_there listener)) refl refl)
      (puts_goes socket socket (Own (id child)) drawn refl (one_more (accepted_row listener c) socket (owner_there listener))))

  shaken_unended : (o : ObjId) → MayShake c o.0 → (x : Bool) → has_ended (obj c.rows (end_owner (pair c.rows (pair_or_none (obj c.rows o.0).pair)) x)).stage ≡ false
  shaken_unended o may_shake true = ap (λ (i : ℕ). has_ended (obj c.rows i).stage) (kept.pairs o.0 may_shake.accepted).0 ∙ may_shake.taken_in.lives
  shaken_unended o may_shake false =
      owner_lives c.rows o.0 (pair c.rows (pair_or_none (obj c.rows o.0).pair)).b_owner fits (kept.pairs o.0 may_shake.accepted).1 (unended_uncleared (obj c.rows o.0).stage may_shake.taken_in.lives)

  shaken_goes : (o : ObjId) (peer : Peer) → MayShake c o.0 → MovesTo (request_moves c (Shaken o peer)) c (requested (Shaken o peer) h c)
  shaken_goes o peer may_shake =
      let k = pair_or_none (obj c.rows o.0).pair in
      let mine = end_of k true in
      let comes = may_open c.rows k true fits may_shake.unmade in
      let now = attach Opens mine c in
      let opened = open_pair mine (PipeBind (end_of k false) peer.identity) c in
      goes_and_free (request_moves c (Shaken o peer)) c opened (requested (Shaken o peer) h c)
      (goes_on (EndMoves mine Opens ∷ []) (LetterPut (owner_of c (end_of k false)) (PipeBind (end_of k false) peer.identity) ∷ []) c now opened (opened_goes mine c comes (shaken_unended o may_shake))
      (puts_goes (owner_of now (end_of k false)) (owner_of c (end_of k false)) (PipeBind (end_of k false) peer.identity) now (opened_owner c mine (pair_there c.rows k true Opens comes)) ((sound_of c kept).ends k false)))
      (greet_goes (h.kind mine) mine opened)

  ask_end_goes : (e : EndId) (why : Reason) → MayAskEnd c e why → MovesTo (reason_moves why (owner_of c e)) c (requested (AskEnd e why) h c)
  ask_end_goes e why may_ask = by why may_ask.gives
    where
      lives : not (has_ended (obj c.rows (owner_of c e)).stage) ≡ true
      lives = ap not may_ask.taken_in.lives

      by : (r : Reason) → MayGive r (obj c.rows (owner_of c e)) → MovesTo (reason_moves r (owner_of c e)) c (ask why false e (uses_reason r (owner_of c e) c))
      by Closed g = absurd g
      by BadId g = absurd g
      by Second g = absurd g
      by Linger g =
          let d = link AsksForLinger (owner_of c e) c in
          goes_and_free _ c d (ask why false e d) (one (LinkMoves (owner_of c e) AsksForLinger) c d (and _ _ (ap not g.1) lives) refl refl) (ask_goes why false e d)
      by Link g =
          let d = link AsksForLink (owner_of c e) c in
          goes_and_free _ c d (ask why false e d) (one (LinkMoves (owner_of c e) AsksForLink) c d (and _ _ (ap not g.1) lives) refl refl) (ask_goes why false e d)

  request_goes : (req : Req) → MayAsk c req → is_granted (reply_of c req) ≡ true → MovesTo (request_moves c req) c (requested req h c)
  request_goes (MakeSocket kind options) may_ask granted =
      one (ObjectMade (socket_row kind options c)) c (requested (MakeSocket kind options) h c)
      (record { under = 0; owner = refl; there = some; unended = (alive_is (obj c.rows 0).stage (granted_alive c _ granted)).1; alive = refl; row_fits = refl }) refl refl
  request_goes AskTerm may_ask granted = ask_term_goes (asked_alive c granted)
  request_goes (Bind o (Inproc name)) may_ask granted = bind_name_goes o.0 name (open_is c o.0 kept may_ask)
  request_goes (Bind o (Tcp address)) may_ask granted = listener_goes o.0 address (open_is c o.0 kept may_ask)
  request_goes (Connect o (Inproc name)) may_ask granted = connect_name_goes o.0 name (open_is c o.0 kept may_ask)
  request_goes (Connect o (Tcp address)) may_ask granted = session_goes o.0 address (open_is c o.0 kept may_ask)
  request_goes (Unbind o at) may_ask granted = strikes_goes o.0 at (find (is_bind_to at) (c.holds o.0)) c (record c { holds = with_value o.0 (without_first (is_bind_to at) (c.holds o.0)) c.holds }) refl refl
  request_goes (Disconnect o at) may_ask granted = strikes_goes o.0 at (find (is_connect_to at) (c.holds o.0)) c (record c { holds = with_value o.0 (without_first (is_connect_to at) (c.holds o.0)) c.holds }) refl refl
  request_goes (Close o) may_ask granted = close_goes o may_ask
  request_goes (Accepted o) may_ask granted = accepted_goes o.0 may_ask.0 may_ask.1
  request_goes (Shaken o peer) may_ask granted = shaken_goes o peer may_ask
  request_goes (AskEnd e why) may_ask granted = ask_end_goes e why may_ask
  request_goes (AskOver o) may_ask granted = ask_over_goes o may_ask
  request_goes (OutputOver o) may_ask granted = try_end_goes o.0 h.left c

answered_goes : (c : Control) (req : Req) (reply : Reply) (h : Answers) → Kept c → MayAsk c req → reply ≡ reply_of c req → MovesTo (unless_refused reply (request_moves c req)) c (answered req reply h c)
answered_goes c req Done h kept may_ask is = request_goes c kept h req may_ask (ap is_granted (sym is))
answered_goes c req (Object o) h kept may_ask is = request_goes c kept h req may_ask (ap is_granted (sym is))
answered_goes c req (PairMade p) h kept may_ask is = request_goes c kept h req may_ask (ap is_granted (sym is))
answered_goes c req (Both o p) h kept may_ask is = request_goes c kept h req may_ask (ap is_granted (sym is))
answered_goes c req Wait h kept may_ask is = request_goes c kept h req may_ask (ap is_granted (sym is))
answered_goes c req WasAsked h kept may_ask is = request_goes c kept h req may_ask (ap is_granted (sym is))
answered_goes c req Before h kept may_ask is = stays c c refl refl
answered_goes c req (Refused refusal) h kept may_ask is = stays c c refl refl

-- each event that fits is made of its own moves and of such as follow from them
pub event_goes : {N S : Type 0} (c : Control) (did : Did N S) → Kept c → Fits c did → MovesTo (own_moves c did) (having_taken did c) (after did c)
event_goes c (DidAsk req reply h) kept fits = answered_goes c req reply (answers_in h) kept fits.may.0 fits.may.1
event_goes c (Delivered slot letter h) kept fits = word_goes c kept slot.0 fits.may.behind letter.to.0 (answers_in h) letter.word fits.may.oldest
event_goes c (Delimited e h) kept fits = happens_goes DelimiterSeen e c fits.may.looked_at
