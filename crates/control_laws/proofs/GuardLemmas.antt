-- What the oldest command of a mailbox is about may happen.
use Rattle.std.specs.Prelude.{◌≡◌, Bool, [], ℕ, true, not, ◌&&◌, List, ◌∷◌, Some, None, refl, map, Option}
use Rattle.std.proofs.Common.{arith, ap, sym, ◌∙◌}
use Rattle.zq_base.specs.declared.ids.EndId.{EndId}
use Rattle.zq_base.specs.declared.ids.ObjId.{ObjId}
use Rattle.spec_control.specs.declared.letter.Letter.{Letter}
use Rattle.spec_control.specs.declared.letter.Word.TheVariants.{Own, Plug, TermReq, Term, TermAck, PipeBind, PipeTerm, PipeTermAck, Stop, Reap}
use Rattle.spec_control.specs.declared.end.EndEvent.TheVariants.{TermCame, AckCame}
use Rattle.spec_control.specs.Stage.{is_alive, is_told, is_coming, is_finished, is_used, is_unused}
use Rattle.spec_control.specs.PairPhase.{BindCame, Happens, may}
use Rattle.spec_control.specs.Row.{OwnComes, PlugComes, TermComes, RequestComes, ReapComes, AckComes, StopComes, link_may, is_socket, is_unowned}
use Rattle.spec_control.specs.Rows.{obj, pair, end_half, end_owner}
use Rattle.spec_control.specs.Control.{Control, id, begun, owner_of}
use Rattle.spec_control.specs.After.{owner_or_root}
use Rattle.control_laws.specs.Mail.{OwnSign, RequestSign, ReapSign, AckSign, PlugSign, StopSign, TermSign, BindSign, PipeTermSign, PipeAckSign, UpLink, DownLink, EndLink, queue, slot_of, Mark, end_mark}
use Rattle.control_laws.specs.Kept.{Kept}
use Rattle.control_laws.proofs.ListLemmas.{left, and, never, right}
use Rattle.control_laws.proofs.LinkLemmas.{at_socket}
use Rattle.control_laws.proofs.MailLemmas.{take_two}
use Rattle.control_laws.proofs.FrontLemmas.{own_front, request_front, reap_front, ack_front, plug_front, stop_front, term_front, bind_front, pipe_term_front, pipe_ack_front}
use Rattle.control_laws.proofs.ChildLemmas.{coming_is, closing_alive, owner_some, and_false}
use Rattle.control_laws.proofs.DeliverLemmas.{inv, first_of}
use Rattle.spec_control.specs.declared.letter.Word.{Word}
use Rattle.spec_control.specs.Place.{EndWord, Binds, Terms, Acks}
use Rattle.spec_control.specs.ControlRun.{after_all}
use Rattle.control_laws.proofs.RootLemmas.{runs_are_kept}
use Rattle.control_laws.specs.Coming.{MayCome, OldestMayCome}

module _ (c : Control) (kept : Kept c) (slot : ℕ) (rest : List Letter) (at : ℕ) where
  pub own_may : (child : ObjId) → c.boxes slot ≡ record { to = id at; word = Own child } ∷ rest → link_may OwnComes (obj c.rows child.0) ≡ true
  own_may child is =
      let o = obj c.rows child.0 in
      let first = first_of c kept slot rest (record { to = id at; word = Own child }) is (UpLink child.0) (record { to = at; sign = OwnSign }) (λ link. refl) in
      ap not (own_front (is_socket o.kind) (owner_or_root o.owner) o.noted (is_coming o.request) (is_finished o.stage && not (is_unowned o.owner)) at first.behind first.is_first).0

  pub request_may : (child : ObjId) → c.boxes slot ≡ record { to = id at; word = TermReq child } ∷ rest → link_may RequestComes (obj c.rows child.0) ≡ true
  request_may child is =
      let o = obj c.rows child.0 in
      let first = first_of c kept slot rest (record { to = id at; word = TermReq child }) is (UpLink child.0) (record { to = at; sign = RequestSign }) (λ link. refl) in
      let front = request_front (is_socket o.kind) (owner_or_root o.owner) o.noted (is_coming o.request) (is_finished o.stage && not (is_unowned o.owner)) at first.behind first.is_first in
      and _ _ front.1 (and _ _ front.0 (ap not front.2))

  pub reap_may : (socket : ObjId) → c.boxes slot ≡ record { to = id at; word = Reap socket } ∷ rest → link_may ReapComes (obj c.rows socket.0) ≡ true
  reap_may socket is =
      let o = obj c.rows socket.0 in
      let first = first_of c kept slot rest (record { to = id at; word = Reap socket }) is (UpLink socket.0) (record { to = at; sign = ReapSign }) (λ link. refl) in
      let front = reap_front (is_socket o.kind) (owner_or_root o.owner) o.noted (is_coming o.request) (is_finished o.stage && not (is_unowned o.owner)) at first.behind first.is_first in
      let alive = closing_alive (is_socket o.kind) (is_alive o.stage) (is_used o.request) (is_unused o.stop) (at_socket o ((inv c kept slot rest).fits socket.0)) front.2 (coming_is o.request front.1) in
      and _ _ front.1 (and _ _ alive front.2)

  pub ack_may : (child : ObjId) → c.boxes slot ≡ record { to = id at; word = TermAck child } ∷ rest → link_may AckComes (obj c.rows child.0) ≡ true
  ack_may child is =
      let o = obj c.rows child.0 in
      let first = first_of c kept slot rest (record { to = id at; word = TermAck child }) is (UpLink child.0) (record { to = at; sign = AckSign }) (λ link. refl) in
      let front = ack_front (is_socket o.kind) (owner_or_root o.owner) o.noted (is_coming o.request) (is_finished o.stage && not (is_unowned o.owner)) at first.behind first.is_first in
      and _ _ (left (is_finished o.stage) _ front.2) (and _ _ front.0 (ap not front.1))

  pub plug_may : c.boxes slot ≡ record { to = id at; word = Plug None } ∷ rest → link_may PlugComes (obj c.rows at) ≡ true
  plug_may is =
      let o = obj c.rows at in
      let first = first_of c kept slot rest (record { to = id at; word = Plug None }) is (DownLink at) (record { to = at; sign = PlugSign }) (λ link. refl) in
      ap not (plug_front at o.plugged (is_coming o.stop) (is_told o.stage) at first.behind first.is_first).0

  pub stop_may : c.boxes slot ≡ record { to = id at; word = Stop } ∷ rest → link_may StopComes (obj c.rows at) ≡ true
  stop_may is =
      let o = obj c.rows at in
      let first = first_of c kept slot rest (record { to = id at; word = Stop }) is (DownLink at) (record { to = at; sign = StopSign }) (λ link. refl) in
      let front = stop_front at o.plugged (is_coming o.stop) (is_told o.stage) at first.behind first.is_first in
      and _ _ front.1 front.0

  pub term_may : c.boxes slot ≡ record { to = id at; word = Term } ∷ rest → link_may TermComes (obj c.rows at) ≡ true
  term_may is =
      let o = obj c.rows at in
      let first = first_of c kept slot rest (record { to = id at; word = Term }) is (DownLink at) (record { to = at; sign = TermSign }) (λ link. refl) in
      let front = term_front at o.plugged (is_coming o.stop) (is_told o.stage) at first.behind first.is_first in
      and _ _ front.2 (and _ _ front.0 (ap not front.1))

  pub bind_may : (e : EndId) (peer : List ℕ) → c.boxes slot ≡ record { to = id at; word = PipeBind e peer } ∷ rest → may BindCame (end_half (pair c.rows e.pair.0) e.a) (end_half (pair c.rows e.pair.0) (not e.a)) ≡ true
  bind_may e peer is =
      let first = first_of c kept slot rest (record { to = id at; word = PipeBind e peer }) is (EndLink e.pair.0 e.a) (record { to = at; sign = BindSign }) (λ link. refl) in
      (bind_front (end_owner (pair c.rows e.pair.0) e.a) (end_half (pair c.rows e.pair.0) e.a).mail at first.behind first.is_first).0

  pub term_came_may : (e : EndId) → c.boxes slot ≡ record { to = id at; word = PipeTerm e } ∷ rest → may (Happens TermCame) (end_half (pair c.rows e.pair.0) e.a) (end_half (pair c.rows e.pair.0) (not e.a)) ≡ true
  term_came_may e is =
      let first = first_of c kept slot rest (record { to = id at; word = PipeTerm e }) is (EndLink e.pair.0 e.a) (record { to = at; sign = PipeTermSign }) (λ link. refl) in
      (pipe_term_front (end_owner (pair c.rows e.pair.0) e.a) (end_half (pair c.rows e.pair.0) e.a).mail at first.behind first.is_first).0

  pub ack_came_may : (e : EndId) → c.boxes slot ≡ record { to = id at; word = PipeTermAck e } ∷ rest → may (Happens AckCame) (end_half (pair c.rows e.pair.0) e.a) (end_half (pair c.rows e.pair.0) (not e.a)) ≡ true
  ack_came_may e is =
      let first = first_of c kept slot rest (record { to = id at; word = PipeTermAck e }) is (EndLink e.pair.0 e.a) (record { to = at; sign = PipeAckSign }) (λ link. refl) in
      (pipe_ack_front (end_owner (pair c.rows e.pair.0) e.a) (end_half (pair c.rows e.pair.0) e.a).mail at first.behind first.is_first).0

  -- a Plug that brings a session its end
  pub plug_end_may : (e : EndId) → c.boxes slot ≡ record { to = id at; word = Plug (Some e) } ∷ rest →
      (link_may PlugComes (obj c.rows at) ≡ true) × (may BindCame (end_half (pair c.rows e.pair.0) e.a) (end_half (pair c.rows e.pair.0) (not e.a)) ≡ true)
  plug_end_may e is =
      let o = obj c.rows at in
      let first = take_two (slot_of c.rows) (queue c.rows) c.boxes slot (record { to = id at; word = Plug (Some e) }) rest (DownLink at) (EndLink e.pair.0 e.a) (record { to = at; sign = PlugSign }) (record { to = at; sign = BindSign })
      kept.delivered is refl refl (λ link. refl) in (
        ap not (plug_front at o.plugged (is_coming o.stop) (is_told o.stage) at first.behind first.is_first).0,
        (bind_front (end_owner (pair c.rows e.pair.0) e.a) (end_half (pair c.rows e.pair.0) e.a).mail at first.behind_also first.is_first_also).0,
      )

-- whose the command is
module _ (c : Control) (kept : Kept c) (slot : ℕ) (rest : List Letter) (at : ℕ) where
  own_owner : (child : ObjId) → c.boxes slot ≡ record { to = id at; word = Own child } ∷ rest → (obj c.rows child.0).owner ≡ Some at
  own_owner child is =
      let o = obj c.rows child.0 in
      let first = first_of c kept slot rest (record { to = id at; word = Own child }) is (UpLink child.0) (record { to = at; sign = OwnSign }) (λ link. refl) in
      let front = own_front (is_socket o.kind) (owner_or_root o.owner) o.noted (is_coming o.request) (is_finished o.stage && not (is_unowned o.owner)) at first.behind first.is_first in
      owner_some o at ((inv c kept slot rest).fits child.0) (ap (λ (n : Bool). n && (o.plugged && is_used o.request)) front.0) front.1

  request_owner : (child : ObjId) → c.boxes slot ≡ record { to = id at; word = TermReq child } ∷ rest → (obj c.rows child.0).owner ≡ Some at
  request_owner child is =
      let o = obj c.rows child.0 in
      let first = first_of c kept slot rest (record { to = id at; word = TermReq child }) is (UpLink child.0) (record { to = at; sign = RequestSign }) (λ link. refl) in
      let front = request_front (is_socket o.kind) (owner_or_root o.owner) o.noted (is_coming o.request) (is_finished o.stage && not (is_unowned o.owner)) at first.behind first.is_first in
      owner_some o at ((inv c kept slot rest).fits child.0) (and_false o.noted o.plugged (is_used o.request) (coming_is o.request front.1)) front.3

  reap_owner : (socket : ObjId) → c.boxes slot ≡ record { to = id at; word = Reap socket } ∷ rest → (obj c.rows socket.0).owner ≡ Some at
  reap_owner socket is =
      let o = obj c.rows socket.0 in
      let first = first_of c kept slot rest (record { to = id at; word = Reap socket }) is (UpLink socket.0) (record { to = at; sign = ReapSign }) (λ link. refl) in
      let front = reap_front (is_socket o.kind) (owner_or_root o.owner) o.noted (is_coming o.request) (is_finished o.stage && not (is_unowned o.owner)) at first.behind first.is_first in
      owner_some o at ((inv c kept slot rest).fits socket.0) (and_false o.noted o.plugged (is_used o.request) (coming_is o.request front.1)) front.3

  ack_owner : (child : ObjId) → c.boxes slot ≡ record { to = id at; word = TermAck child } ∷ rest → (obj c.rows child.0).owner ≡ Some at
  ack_owner child is =
      let o = obj c.rows child.0 in
      let first = first_of c kept slot rest (record { to = id at; word = TermAck child }) is (UpLink child.0) (record { to = at; sign = AckSign }) (λ link. refl) in
      let front = ack_front (is_socket o.kind) (owner_or_root o.owner) o.noted (is_coming o.request) (is_finished o.stage && not (is_unowned o.owner)) at first.behind first.is_first in
      by o.owner front.3 (right (is_finished o.stage) _ front.2)
    where
      by : (v : Option ℕ) → owner_or_root v ≡ at → not (is_unowned v) ≡ true → v ≡ Some at
      by None e n = absurd (never n)
      by (Some v) e n = ap (λ (w : ℕ). Some w) e

  end_to : (e : EndId) (word : EndWord) (behind : List Mark) → queue c.rows (EndLink e.pair.0 e.a) ≡ end_mark at word ∷ behind → owner_of c e ≡ at
  end_to e word behind is = by (end_half (pair c.rows e.pair.0) e.a).mail is
    where
      first_is : {x y : Mark} {xs ys : List Mark} → x ∷ xs ≡ y ∷ ys → x ≡ y
      first_is e = Prim.grind arith

      no : {y : Mark} {ys : List Mark} → [] ≡ y ∷ ys → ⊥
      no e = Prim.grind arith

      to_of : (w : ℕ) (x : EndWord) → (end_mark w x).to ≡ w
      to_of w Binds = refl
      to_of w Terms = refl
      to_of w Acks = refl

      by : (ws : List EndWord) → map (end_mark (end_owner (pair c.rows e.pair.0) e.a)) ws ≡ end_mark at word ∷ behind → end_owner (pair c.rows e.pair.0) e.a ≡ at
      by [] h = absurd (no h)
      by (x ∷ ws) h = sym (to_of (end_owner (pair c.rows e.pair.0) e.a) x) ∙ ap (λ (m : Mark). m.to) (first_is h) ∙ to_of at word

  pub may_come : (word : Word) → c.boxes slot ≡ record { to = id at; word = word } ∷ rest → MayCome c at word
  may_come (Own child) is = record { comes = own_may c kept slot rest at child is; owner = own_owner child is }
  may_come (Plug None) is = plug_may c kept slot rest at is
  may_come (Plug (Some e)) is =
      let both = plug_end_may c kept slot rest at e is in
      let first = take_two (slot_of c.rows) (queue c.rows) c.boxes slot (record { to = id at; word = Plug (Some e) }) rest (DownLink at) (EndLink e.pair.0 e.a) (record { to = at; sign = PlugSign }) (record { to = at; sign = BindSign })
      kept.delivered is refl refl (λ link. refl) in
      (both.0, record { comes = both.1; owner = end_to e Binds first.behind_also first.is_first_also })
  may_come (TermReq child) is = record { comes = request_may c kept slot rest at child is; owner = request_owner child is }
  may_come Term is = term_may c kept slot rest at is
  may_come (TermAck child) is = record { comes = ack_may c kept slot rest at child is; owner = ack_owner child is }
  may_come (PipeBind e peer) is =
      let first = first_of c kept slot rest (record { to = id at; word = PipeBind e peer }) is (EndLink e.pair.0 e.a) (record { to = at; sign = BindSign }) (λ link. refl) in
      record { comes = bind_may c kept slot rest at e peer is; owner = end_to e Binds first.behind first.is_first }
  may_come (PipeTerm e) is =
      let first = first_of c kept slot rest (record { to = id at; word = PipeTerm e }) is (EndLink e.pair.0 e.a) (record { to = at; sign = PipeTermSign }) (λ link. refl) in
      record { comes = term_came_may c kept slot rest at e is; owner = end_to e Terms first.behind first.is_first }
  may_come (PipeTermAck e) is =
      let first = first_of c kept slot rest (record { to = id at; word = PipeTermAck e }) is (EndLink e.pair.0 e.a) (record { to = at; sign = PipeAckSign }) (λ link. refl) in
      record { comes = ack_came_may c kept slot rest at e is; owner = end_to e Acks first.behind first.is_first }
  may_come Stop is = stop_may c kept slot rest at is
  may_come (Reap socket) is = record { comes = reap_may c kept slot rest at socket is; owner = reap_owner socket is }

pub oldest_may_come : (N S : Type 0) → OldestMayCome N S
oldest_may_come N S workers items run slot letter may_deliver =
    may_come (after_all items (begun workers)) (runs_are_kept N S workers items run) slot may_deliver.behind letter.to.0 letter.word may_deliver.oldest
