-- A command that is processed, as moves.
use Rattle.std.specs.Prelude.{◌≡◌, ℕ, not, List, [], ◌∷◌, Option, Some, None, length, refl}
use Rattle.zq_base.specs.declared.ids.EndId.{EndId}
use Rattle.zq_base.specs.declared.ids.Settled.{Settled}
use Rattle.spec_control.specs.declared.end.EndEvent.TheVariants.{TermCame, AckCame}
use Rattle.spec_control.specs.declared.letter.Letter.{Letter}
use Rattle.spec_control.specs.declared.letter.Word.{Word}
use Rattle.spec_control.specs.declared.letter.Word.TheVariants.{Own, Plug, TermReq, Term, TermAck, PipeBind, PipeTerm, PipeTermAck, Stop, Reap}
use Rattle.spec_control.specs.PairPhase.{BindCame}
use Rattle.spec_control.specs.Row.{OwnComes, PlugComes, TermComes, RequestComes, ReapComes, AckComes, StopComes}
use Rattle.spec_control.specs.Rows.{obj}
use Rattle.spec_control.specs.Control.{Control, id, link, tell_children, happens, ask_all, attach, ends_of}
use Rattle.spec_control.specs.After.{Answers, settle, term_reason, term_delay, without_names, processed, without_front}
use Rattle.spec_control.specs.Stage.{was_asked}
use Rattle.control_laws.specs.Kept.{Kept}
use Rattle.control_laws.specs.Move.{LinkMoves, EndMoves, MovesTo}
use Rattle.control_laws.specs.OwnMoves.{word_moves}
use Rattle.control_laws.proofs.GuardLemmas.{own_may, request_may, reap_may, ack_may, plug_may, stop_may, term_may, bind_may, term_came_may, ack_came_may, plug_end_may}
use Rattle.control_laws.proofs.GoLemmas.{goes_on, goes_free, goes_and_free, stays, one, tell_where_goes, tell_children_goes, happens_goes, ask_all_goes, greet_goes, try_end_goes, bound_goes}

-- ---- a command that is processed
settle_goes : (e : EndId) (counts : Option Settled) (c : Control) → MovesTo [] c (settle e counts c)
settle_goes e None c = stays c c refl refl
settle_goes e (Some counts) c = stays c (settle e (Some counts) c) refl refl

module _ (c : Control) (kept : Kept c) (slot : ℕ) (rest : List Letter) (at : ℕ) (h : Answers) where
  abbrev pub from : Control
  from = without_front slot c

  pub word_goes : (word : Word) → c.boxes slot ≡ record { to = id at; word = word } ∷ rest → MovesTo (word_moves at word) (without_front slot c) (processed at word h (without_front slot c))
  word_goes (Own child) is =
      let d = link OwnComes child.0 from in
      goes_and_free _ from d (processed at (Own child) h from) (one (LinkMoves child.0 OwnComes) from d (own_may c kept slot rest at child is) refl refl) (tell_where_goes (was_asked (obj from.rows at).stage) child.0 d)
  word_goes (Plug None) is = one (LinkMoves at PlugComes) from (link PlugComes at from) (plug_may c kept slot rest at is) refl refl
  word_goes (Plug (Some e)) is =
      let both = plug_end_may c kept slot rest at e is in
      let plugged = link PlugComes at from in
      let bound = attach BindCame e plugged in
      goes_and_free _ from bound (processed at (Plug (Some e)) h from)
      (goes_on (LinkMoves at PlugComes ∷ []) (EndMoves e BindCame ∷ []) from plugged bound (one (LinkMoves at PlugComes) from plugged both.0 refl refl) (bound_goes e plugged both.1))
      (greet_goes (h.kind e) e bound)
  word_goes (TermReq child) is =
      let d = link RequestComes child.0 from in
      goes_and_free _ from d (processed at (TermReq child) h from) (one (LinkMoves child.0 RequestComes) from d (request_may c kept slot rest at child is) refl refl) (tell_where_goes (not (was_asked (obj from.rows at).stage)) child.0 d)
  word_goes Term is =
      let asked = without_names at (link TermComes at from) in
      let ends_asked = ask_all (term_reason (obj from.rows at).kind) (term_delay (obj from.rows at)) (ends_of at asked) asked in
      let told = tell_children (length ends_asked.rows.objects) at ends_asked in
      goes_and_free _ from asked (processed at Term h from) (one (LinkMoves at TermComes) from asked (term_may c kept slot rest at is) refl refl)
      (goes_free asked ends_asked (processed at Term h from) (ask_all_goes (term_reason (obj from.rows at).kind) (term_delay (obj from.rows at)) (ends_of at asked) asked)
      (goes_free ends_asked told (processed at Term h from) (tell_children_goes (length ends_asked.rows.objects) at ends_asked) (try_end_goes at h.left told)))
  word_goes (TermAck child) is =
      let d = link AckComes child.0 from in
      goes_and_free _ from d (processed at (TermAck child) h from) (one (LinkMoves child.0 AckComes) from d (ack_may c kept slot rest at child is) refl refl) (try_end_goes at h.left d)
  word_goes (PipeBind e peer) is =
      let bound = attach BindCame e from in
      goes_and_free _ from bound (processed at (PipeBind e peer) h from) (bound_goes e from (bind_may c kept slot rest at e peer is)) (greet_goes (h.kind e) e bound)
  word_goes (PipeTerm e) is = happens_goes TermCame e from (term_came_may c kept slot rest at e is)
  word_goes (PipeTermAck e) is =
      let heard = happens AckCame e from in
      let settled = settle e h.counts heard in
      goes_and_free _ from heard (processed at (PipeTermAck e) h from) (happens_goes AckCame e from (ack_came_may c kept slot rest at e is))
      (goes_free heard settled (processed at (PipeTermAck e) h from) (settle_goes e h.counts heard) (try_end_goes at h.left settled))
  word_goes Stop is = one (LinkMoves at StopComes) from (link StopComes at from) (stop_may c kept slot rest at is) refl refl
  word_goes (Reap socket) is = one (LinkMoves socket.0 ReapComes) from (processed at (Reap socket) h from) (reap_may c kept slot rest at socket is) refl refl
