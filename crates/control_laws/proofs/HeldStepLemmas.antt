-- The ends that are read off the items are those that are there, one item after the other.
use Rattle.std.specs.Prelude.{◌≡◌, ◌<◌, ◌&&◌, ◌||◌, ℕ, Bool, true, false, not, List, [], ◌∷◌, ◌++◌, Some, None, if◌then◌else◌, All, map, filter, refl}
use Rattle.std.specs.List.{list_any}
use Rattle.std.proofs.Common.{arith, sym, ap, ◌∙◌, subst}
use Rattle.std.proofs.lemmas.List.{append-nil, get_or-set_same}
use Rattle.std.proofs.lemmas.List.Elements.{All-nil, All-weaker}
use Rattle.zq_base.specs.declared.ids.EndId.{EndId}
use Rattle.zq_base.specs.declared.ids.ObjId.{ObjId}
use Rattle.zq_base.specs.declared.ids.SlotId.{SlotId}
use Rattle.spec_control.specs.declared.letter.Word.{Word}
use Rattle.spec_control.specs.declared.letter.Word.TheVariants.{Own, Plug, TermReq, Term, TermAck, PipeBind, PipeTerm, PipeTermAck, Stop, Reap}
use Rattle.spec_control.specs.declared.entry.Answered.{Answered}
use Rattle.spec_control.specs.declared.entry.Did.{Did}
use Rattle.spec_control.specs.declared.entry.Did.TheVariants.{Asked as DidAsk, Delivered, Delimited}
use Rattle.spec_control.specs.declared.entry.Item.{Item}
use Rattle.spec_control.specs.declared.entry.Item.TheVariants.{Event, Seen}
use Rattle.spec_control.specs.declared.request.Req.{Req}
use Rattle.spec_control.specs.declared.request.Req.TheVariants.{Socket as MakeSocket, AskTerm, Bind, Connect, Unbind, Disconnect, Close, Accepted, Shaken, AskEnd, AskOver, OutputOver}
use Rattle.spec_control.specs.declared.request.Reply.{Reply}
use Rattle.spec_control.specs.declared.request.Reply.TheVariants.{Done, Object, Pair, Both, Wait, Asked as WasAsked, Before, Refused}
use Rattle.spec_control.specs.Stage.{is_alive, is_coming, has_ended}
use Rattle.spec_control.specs.Place.{is_here}
use Rattle.spec_control.specs.Row.{Row, nobody, AsksOver, ReapComes, link_may, link_after, is_socket}
use Rattle.spec_control.specs.Rows.{obj, is_owner}
use Rattle.spec_control.specs.Control.{Control, begun, next_pair, is_end, place_of, ends_of}
use Rattle.spec_control.specs.After.{after}
use Rattle.spec_control.specs.ControlRun.{Fits, Joins, taken_over, request_joins, unless_refused, is_between, after_all, IsControlRun}
use Rattle.spec_control.specs.Held.{Held, asker, held_as, heard_of, subject_of, ends_at_request, ends_at_word, ends_in, ends_then, ends_over}
use Rattle.control_laws.proofs.ListLemmas.{never, left, right, and, placed}
use Rattle.control_laws.specs.Kept.{Kept}
use Rattle.control_laws.proofs.RunLemmas.{after_kept}
use Rattle.control_laws.proofs.RootLemmas.{begun_kept}
use Rattle.control_laws.specs.Move.{Move}
use Rattle.control_laws.specs.OwnMoves.{request_moves, word_moves}
use Rattle.control_laws.proofs.GuardLemmas.{may_come}
use Rattle.control_laws.proofs.SoundLemmas.{link_there}
use Rattle.control_laws.specs.Spared.{Known}
use Rattle.desk.specs.Lent.{here_ends}
use Rattle.control_laws.specs.HeldLaws.{EndsAreHere}
use Rattle.control_laws.proofs.LawLemmas.{Knows, owned_by, owns, no_and, no_socket, listener_is, session_is, open_not, heard_not, others_know, mine_know, not_closed}
use Rattle.control_laws.proofs.LeadLemmas.{attached_by, goes_by}
use Rattle.control_laws.proofs.AttachedLemmas.{ends_of_joins, asked_ends}
use Rattle.control_laws.proofs.HereLemmas.{here_mine}
use Rattle.control_laws.proofs.AttachedOnceLemmas.{IsOld, AreOld, old_after, old_run}
use Rattle.control_laws.proofs.BetweenLemmas.{asks_over}
use Rattle.control_laws.proofs.HeldEventLemmas.{of_held, ends_told, with_joins, without, keep_all, none_of, without_acked, asked_stay, closes, asked_closes, word_closes}

some_is : {x y : ℕ} → Some x ≡ Some y → x ≡ y
some_is f = Prim.grind arith

none_some : {y : ℕ} → None ≡ Some y → ⊥
none_some f = Prim.grind arith

no_end : (b : Bool) → ((b && false) || false) ≡ false
no_end true = refl
no_end false = refl

over_ends : (c : Control) (js : List EndId) → ends_of_joins (map (λ e. taken_over c e) js) ≡ js
over_ends c [] = refl
over_ends c (e ∷ es) = ap (λ (ys : List EndId). e ∷ ys) (over_ends c es)

-- its row is not between a close and its Reap
free_at : (c : Control) (i : ℕ) (o : ObjId) → Some o.0 ≡ Some i → is_between (obj c.rows o.0) ≡ false → is_between (obj c.rows i) ≡ false
free_at c i o mine free = ap (λ (n : ℕ). is_between (obj c.rows n)) (sym (some_is mine)) ∙ free

module _ {N S : Type 0} (c : Control) (kept : Kept c) (old : AreOld c) (i : ℕ) (hs : List (Held N)) (knows : Knows c i hs) where
  -- ---- a request
  module _ (req : Req) (reply : Reply) (h : Answered N S) (fits : Fits c (DidAsk req reply h)) (mine : asker req ≡ Some i) where
    abbrev did : Did N S
    did = DidAsk req reply h

    abbrev own : List Move
    own = unless_refused reply (request_moves c req)

    stay_all : (es : List EndId) → All (λ e. goes_by e own ≡ false) es
    stay_all es = none_of (λ e. goes_by e own) (λ e. asked_stay e c req reply) es

    kept_all : (es : List EndId) → filter (λ e. not (goes_by e own)) es ≡ es
    kept_all es = keep_all (λ e. goes_by e own) es (stay_all es)

    closes_none : closes i req ≡ false → list_any (asks_over i) own ≡ false
    closes_none none = by (list_any (asks_over i) own) refl
      where
        by : (b : Bool) → list_any (asks_over i) own ≡ b → b ≡ false
        by true any = sym (asked_closes i c req reply any) ∙ none
        by false any = refl

    new_ends : (js : List Joins) → request_joins c req ≡ js → ends_of_joins (unless_refused reply js) ≡ attached_by own
    new_ends js is = ap (λ (xs : List Joins). ends_of_joins (unless_refused reply xs)) (sym is) ∙ asked_ends c req reply

    nothing : (r : Reply) → unless_refused {X = Joins} r [] ≡ []
    nothing Done = refl
    nothing (Object o) = refl
    nothing (Pair p) = refl
    nothing (Both o p) = refl
    nothing Wait = refl
    nothing WasAsked = refl
    nothing Before = refl
    nothing (Refused refusal) = refl

    -- no end joins in it
    plain_with : request_joins c req ≡ [] → is_between (obj c.rows i) ≡ false → is_between (obj (after did c).rows i) ≡ false → Knows (after did c) i hs
    plain_with joins free stays =
        let none : attached_by own ≡ [] = sym (new_ends [] joins) ∙ ap ends_of_joins (nothing reply) in
        mine_know c kept old did fits i hs knows hs mine free stays (stay_all (attached_by own))
        (sym (ap (λ (es : List EndId). filter (λ e. not (goes_by e own)) (of_held hs) ++ es) none ∙ append-nil (filter (λ e. not (goes_by e own)) (of_held hs)) ∙ kept_all (of_held hs)))

    plain : request_joins c req ≡ [] → closes i req ≡ false → is_between (obj c.rows i) ≡ false → Knows (after did c) i hs
    plain joins none free = plain_with joins free (not_closed c kept old did fits i hs knows (closes_none none) free)

    -- ends join in it
    joined : closes i req ≡ false → is_between (obj c.rows i) ≡ false → Knows (after did c) i (hs ++ map held_as h.joined)
    joined none free =
        mine_know c kept old did fits i hs knows (hs ++ map held_as h.joined) mine free (not_closed c kept old did fits i hs knows (closes_none none) free) (stay_all (attached_by own))
        (with_joins hs h.joined (attached_by own) (ap ends_of_joins fits.answered.joined ∙ asked_ends c req reply) ∙ ap (λ (es : List EndId). es ++ attached_by own) (sym (kept_all (of_held hs))))

  -- the socket is closed
  module _ (o : ObjId) (reply : Reply) (h : Answered N S) (fits : Fits c (DidAsk (Close o) reply h)) (mine : Some o.0 ≡ Some i) where
    now_between : is_between (obj (after (DidAsk (Close o) reply h) c).rows i) ≡ true
    now_between =
        let row = link_after AsksOver (obj c.rows o.0) in
        let there = placed (λ (r : Row). not (is_socket r.kind)) c.rows.objects nobody o.0 refl (ap not fits.may.0.socket) in
        ap (λ (n : ℕ). is_between (obj (after (DidAsk (Close o) reply h) c).rows n)) (sym (some_is mine))
        ∙ ap (λ (r : Reply). is_between (obj (after (DidAsk (Close o) r h) c).rows o.0)) fits.may.1
        ∙ ap is_between (get_or-set_same c.rows.objects o.0 row nobody there)
        ∙ ap (λ (b : Bool). b && true) fits.may.0.socket

    closed_know : Knows {N = N} (after (DidAsk (Close o) reply h) c) i []
    closed_know = record { here = λ f. absurd (never (sym f ∙ now_between)); gone = λ b. refl }

  -- a listener or session asks to end
  over_know : (o : ObjId) (reply : Reply) (h : Answered N S) → Fits c (DidAsk (AskOver o) reply h) → Some o.0 ≡ Some i → Knows (after (DidAsk (AskOver o) reply h) c) i hs
  over_know o reply h fits mine =
      plain_with (AskOver o) reply h fits mine refl (free_at c i o mine (no_socket (obj c.rows o.0) fits.may.0.no_socket))
      (let row = link_after AsksOver (obj c.rows o.0) in
      let there = placed (λ (r : Row). has_ended r.stage) c.rows.objects nobody o.0 refl fits.may.0.taken_in.lives in
      ap (λ (n : ℕ). is_between (obj (after (DidAsk (AskOver o) reply h) c).rows n)) (sym (some_is mine))
      ∙ ap (λ (r : Reply). is_between (obj (after (DidAsk (AskOver o) r h) c).rows o.0)) fits.may.1
      ∙ ap is_between (get_or-set_same c.rows.objects o.0 row nobody there)
      ∙ no_socket row fits.may.0.no_socket)

  request_know : (req : Req) (reply : Reply) (h : Answered N S) → Fits c (DidAsk req reply h) → asker req ≡ Some i → Knows (after (DidAsk req reply h) c) i (ends_at_request req h.joined hs)
  request_know (MakeSocket kind options) reply h fits mine = absurd (none_some mine)
  request_know AskTerm reply h fits mine = absurd (none_some mine)
  request_know (Bind o at) reply h fits mine = joined (Bind o at) reply h fits mine refl (free_at c i o mine (open_not (obj c.rows o.0) fits.may.0))
  request_know (Connect o at) reply h fits mine = joined (Connect o at) reply h fits mine refl (free_at c i o mine (open_not (obj c.rows o.0) fits.may.0))
  request_know (Unbind o at) reply h fits mine = plain (Unbind o at) reply h fits mine refl refl (free_at c i o mine (open_not (obj c.rows o.0) fits.may.0))
  request_know (Disconnect o at) reply h fits mine = plain (Disconnect o at) reply h fits mine refl refl (free_at c i o mine (open_not (obj c.rows o.0) fits.may.0))
  request_know (Close o) reply h fits mine = closed_know o reply h fits mine
  request_know (Accepted o) reply h fits mine = plain (Accepted o) reply h fits mine refl refl (free_at c i o mine (no_socket (obj c.rows o.0) (listener_is (obj c.rows o.0).kind fits.may.0.0)))
  request_know (Shaken o peer) reply h fits mine = joined (Shaken o peer) reply h fits mine refl (free_at c i o mine (no_socket (obj c.rows o.0) (session_is (obj c.rows o.0).kind fits.may.0.session)))
  request_know (AskEnd e reason) reply h fits mine = absurd (none_some mine)
  request_know (AskOver o) reply h fits mine = over_know o reply h fits mine
  request_know (OutputOver o) reply h fits mine = plain (OutputOver o) reply h fits mine refl refl (free_at c i o mine (no_socket (obj c.rows o.0) (session_is (obj c.rows o.0).kind fits.may.0.session)))

  -- ---- a command
  module _ (slot : SlotId) (to : ObjId) (word : Word) (h : Answered N S) (fits : Fits c (Delivered slot (record { to = to; word = word }) h)) (mine : Some (heard_of to.0 word) ≡ Some i) where
    abbrev heard : Did N S
    heard = Delivered slot (record { to = to; word = word }) h

    told_so : (now : List (Held N)) → is_between (obj c.rows i) ≡ false → ((e : EndId) → goes_by e (word_moves to.0 word) ≡ false) → of_held now ≡ of_held hs ++ attached_by (word_moves to.0 word) → Knows (after heard c) i now
    told_so now free none is =
        mine_know c kept old heard fits i hs knows now mine free (not_closed c kept old heard fits i hs knows (word_closes i to.0 word) free) (none_of (λ e. goes_by e (word_moves to.0 word)) none (attached_by (word_moves to.0 word)))
        (is ∙ ap (λ (es : List EndId). es ++ attached_by (word_moves to.0 word)) (sym (keep_all (λ e. goes_by e (word_moves to.0 word)) (of_held hs) (none_of (λ e. goes_by e (word_moves to.0 word)) none (of_held hs)))))

    goes_away : (e : EndId) → is_between (obj c.rows i) ≡ false → attached_by (word_moves to.0 word) ≡ [] → (now : List (Held N)) → of_held now ≡ filter (λ d. not (goes_by d (word_moves to.0 word))) (of_held hs) → Knows (after heard c) i now
    goes_away e free none now is =
        mine_know c kept old heard fits i hs knows now mine free (not_closed c kept old heard fits i hs knows (word_closes i to.0 word) free)
        (subst (λ (es : List EndId). All (λ d. goes_by d (word_moves to.0 word) ≡ false) es) (sym none) (All-nil (λ d. goes_by d (word_moves to.0 word) ≡ false)))
        (is ∙ sym (append-nil (filter (λ d. not (goes_by d (word_moves to.0 word))) (of_held hs))) ∙ ap (λ (es : List EndId). filter (λ d. not (goes_by d (word_moves to.0 word))) (of_held hs) ++ es) (sym none))

  -- a closed socket comes to the reaper
  module _ (slot : SlotId) (to socket : ObjId) (h : Answered N S) (fits : Fits c (Delivered slot (record { to = to; word = Reap socket }) h)) (mine : Some socket.0 ≡ Some i) where
    abbrev reaped : Did N S
    reaped = Delivered slot (record { to = to; word = Reap socket }) h

    comes : link_may ReapComes (obj c.rows socket.0) ≡ true
    comes = (may_come c kept slot.0 fits.may.behind to.0 (Reap socket) fits.may.oldest).comes

    was_between : is_between (obj c.rows socket.0) ≡ true
    was_between =
        and (is_socket (obj c.rows socket.0).kind) (is_coming (obj c.rows socket.0).request) (right (is_alive (obj c.rows socket.0).stage) _ (right (is_coming (obj c.rows socket.0).request) _ comes))
        (left (is_coming (obj c.rows socket.0).request) _ comes)

    none_held : hs ≡ []
    none_held = knows.gone (ap (λ (n : ℕ). is_between (obj c.rows n)) (sym (some_is mine)) ∙ was_between)

    now_free : is_between (obj (after reaped c).rows i) ≡ false
    now_free =
        let row = link_after ReapComes (obj c.rows socket.0) in
        ap (λ (n : ℕ). is_between (obj (after reaped c).rows n)) (sym (some_is mine))
        ∙ ap is_between (get_or-set_same c.rows.objects socket.0 row nobody (link_there c.rows socket.0 ReapComes comes))
        ∙ no_and (is_socket (obj c.rows socket.0).kind)

    reap_know : Knows (after reaped c) i (hs ++ map held_as h.joined)
    reap_know = record {
      here = λ f. ap (λ (xs : List (Held N)). of_held (xs ++ map held_as h.joined)) none_held ∙ ends_told h.joined ∙ ap ends_of_joins fits.answered.joined
          ∙ over_ends c (filter (λ e. is_here (place_of c e)) (ends_of socket.0 c)) ∙ ap (λ (n : ℕ). here_ends c.rows.pairs c.attached n) (some_is mine)
          ∙ sym (here_mine c reaped kept fits old i mine (All-nil (λ e. goes_by e (word_moves to.0 (Reap socket)) ≡ false)) ∙ append-nil (filter (λ e. not false) (here_ends c.rows.pairs c.attached i)) ∙ keep_all (λ e. false) (here_ends c.rows.pairs c.attached i) (none_of (λ e. false) (λ e. refl) (here_ends c.rows.pairs c.attached i)));
      gone = λ b. absurd (never (sym now_free ∙ b));
    }

  word_know : (slot : SlotId) (to : ObjId) (word : Word) (h : Answered N S) → Fits c (Delivered slot (record { to = to; word = word }) h) → Some (heard_of to.0 word) ≡ Some i → Knows (after (Delivered slot (record { to = to; word = word }) h) c) i (ends_at_word word h.joined hs)
  word_know slot to (Own child) h fits mine = told_so slot to (Own child) h fits mine hs (heard_not c kept slot.0 i (record { to = to; word = Own child }) fits.may (some_is mine)) (λ e. refl) (sym (append-nil (of_held hs)))
  word_know slot to (Plug None) h fits mine =
      told_so slot to (Plug None) h fits mine (hs ++ map held_as h.joined) (heard_not c kept slot.0 i (record { to = to; word = Plug None }) fits.may (some_is mine)) (λ e. refl)
      (with_joins hs h.joined [] (ap ends_of_joins fits.answered.joined))
  word_know slot to (Plug (Some e)) h fits mine =
      told_so slot to (Plug (Some e)) h fits mine (hs ++ map held_as h.joined) (heard_not c kept slot.0 i (record { to = to; word = Plug (Some e) }) fits.may (some_is mine)) (λ d. no_end (is_end d e))
      (with_joins hs h.joined (e ∷ []) (ap ends_of_joins fits.answered.joined))
  word_know slot to (TermReq child) h fits mine = told_so slot to (TermReq child) h fits mine hs (heard_not c kept slot.0 i (record { to = to; word = TermReq child }) fits.may (some_is mine)) (λ e. refl) (sym (append-nil (of_held hs)))
  word_know slot to Term h fits mine = told_so slot to Term h fits mine hs (heard_not c kept slot.0 i (record { to = to; word = Term }) fits.may (some_is mine)) (λ e. refl) (sym (append-nil (of_held hs)))
  word_know slot to (TermAck child) h fits mine = told_so slot to (TermAck child) h fits mine hs (heard_not c kept slot.0 i (record { to = to; word = TermAck child }) fits.may (some_is mine)) (λ e. refl) (sym (append-nil (of_held hs)))
  word_know slot to (PipeBind e peer) h fits mine =
      told_so slot to (PipeBind e peer) h fits mine (hs ++ map held_as h.joined) (heard_not c kept slot.0 i (record { to = to; word = PipeBind e peer }) fits.may (some_is mine)) (λ d. no_end (is_end d e))
      (with_joins hs h.joined (e ∷ []) (ap ends_of_joins fits.answered.joined))
  word_know slot to (PipeTerm e) h fits mine = told_so slot to (PipeTerm e) h fits mine hs (heard_not c kept slot.0 i (record { to = to; word = PipeTerm e }) fits.may (some_is mine)) (λ d. no_end (is_end d e)) (sym (append-nil (of_held hs)))
  word_know slot to (PipeTermAck e) h fits mine =
      goes_away slot to (PipeTermAck e) h fits mine e (heard_not c kept slot.0 i (record { to = to; word = PipeTermAck e }) fits.may (some_is mine)) refl (filter (λ x. not (is_end e x.end)) hs)
      (without e hs ∙ without_acked e to.0 (of_held hs))
  word_know slot to Stop h fits mine = told_so slot to Stop h fits mine hs (heard_not c kept slot.0 i (record { to = to; word = Stop }) fits.may (some_is mine)) (λ e. refl) (sym (append-nil (of_held hs)))
  word_know slot to (Reap socket) h fits mine = reap_know slot to socket h fits mine

  -- ---- an event
  did_know : (did : Did N S) → Fits c did → subject_of did ≡ Some i → Knows (after did c) i (ends_in did hs)
  did_know (DidAsk req reply h) fits mine = request_know req reply h fits mine
  did_know (Delivered slot letter h) fits mine = word_know slot letter.to letter.word h fits mine
  did_know (Delimited e h) fits mine = absurd (none_some mine)

  pub step_knows : (did : Did N S) → Fits c did → Knows (after did c) i (if is_owner i (subject_of did) then ends_in did hs else hs)
  step_knows did fits = by (is_owner i (subject_of did)) refl
    where
      by : (b : Bool) → is_owner i (subject_of did) ≡ b → Knows (after did c) i (if b then ends_in did hs else hs)
      by true is = did_know did fits (owned_by i (subject_of did) is)
      by false is = others_know c kept old did fits i hs knows (λ e. never (sym is ∙ owns i (subject_of did) e))

module _ {N S : Type 0} where
  over_knows : (items : List (Item N S)) (c : Control) → Kept c → AreOld c → IsControlRun c items → (i : ℕ) (hs : List (Held N)) → Knows c i hs → Knows (after_all items c) i (ends_over i hs items)
  over_knows [] c kept old run i hs knows = knows
  over_knows (Event entry ∷ items) c kept old run i hs knows =
      over_knows items (after entry.did c) (after_kept c entry.did kept run.0) (old_after c entry.did kept run.0 old) run.1 i (ends_then i (Event entry) hs) (step_knows c kept old i hs knows entry.did run.0)
  over_knows (Seen sight ∷ items) c kept old run i hs knows = over_knows items c kept old run.1 i hs knows

  pub known_after : (workers : ℕ) (items : List (Item N S)) → IsControlRun (begun workers) items → Known (after_all items (begun workers))
  known_after workers items run =
      All-weaker (IsOld (after_all items (begun workers))) (λ e. e.pair.0 < next_pair (after_all items (begun workers))) (λ e o. o.within) (after_all items (begun workers)).attached (old_run workers items run)

pub ends_are_here : (N S : Type 0) → EndsAreHere N S
ends_are_here N S workers items run i free =
    (over_knows items (begun workers) (begun_kept workers) (All-nil (IsOld (begun workers))) run i [] (record { here = λ f. refl; gone = λ b. refl })).here free
