-- Who gets a command had its Plug, but for that of a Plug; and what a Plug needs that is the oldest command of a mailbox.
use Rattle.std.specs.Prelude.{◌≡◌, ◌≢◌, ◌<◌, ◌≤◌, ◌&&◌, ◌||◌, ◌^◌, ◌∷◌, [], ℕ, Bool, true, false, not, List, Option, Some, None, length, sum_by, refl}
use Rattle.std.specs.List.{list_any}
use Rattle.std.proofs.Common.{arith, sym, ap, ◌∙◌, subst}
use Rattle.std.proofs.lemmas.List.Elements.{All-head, All-tail}
use Rattle.zq_base.specs.declared.ids.EndId.{EndId}
use Rattle.spec_control.specs.declared.end.EndEvent.{EndEvent}
use Rattle.spec_control.specs.declared.end.EndEvent.TheVariants.{TermCame, AckCame}
use Rattle.spec_control.specs.declared.letter.Letter.{Letter}
use Rattle.spec_control.specs.declared.letter.Word.{Word}
use Rattle.spec_control.specs.declared.letter.Word.TheVariants.{Own, Plug, TermReq, Term, TermAck, PipeBind, PipeTerm, PipeTermAck, Stop, Reap}
use Rattle.spec_control.specs.Place.{is_here}
use Rattle.spec_control.specs.PairPhase.{BindCame, Happens, Opens}
use Rattle.spec_control.specs.Row.{LinkEvent, OwnComes, PlugComes, RequestComes, ReapComes, AckComes, link_may}
use Rattle.spec_control.specs.Rows.{obj, of_ends, bind_waits}
use Rattle.spec_control.specs.Stage.{has_ended, is_coming, is_told}
use Rattle.spec_control.specs.Control.{Control, is_end, owner_of, place_of}
use Rattle.spec_control.specs.After.{without_front}
use Rattle.control_laws.specs.Coming.{ComesToEnd, ComesToOwner}
use Rattle.control_laws.specs.Kept.{Kept}
use Rattle.control_laws.specs.Move.{EndMoves, LinkMoves, MovesTo}
use Rattle.control_laws.specs.Room.{to_come}
use Rattle.control_laws.proofs.AskLemmas.{same_end}
use Rattle.control_laws.proofs.AttachedOnceLemmas.{AreOld}
use Rattle.control_laws.proofs.GuardLemmas.{may_come}
use Rattle.control_laws.proofs.ListLemmas.{never, is_false, left, right}
use Rattle.control_laws.proofs.MetLemmas.{meets_cell}
use Rattle.control_laws.proofs.PluggedLemmas.{AreForSockets, IsForSocket}
use Rattle.control_laws.proofs.RoomLemmas.{goes_room}
use Rattle.control_laws.proofs.RootLemmas.{oldest_lives}
use Rattle.control_laws.proofs.SoundLemmas.{sound_of}
use Rattle.control_laws.proofs.UnpluggedLemmas.{ArePlugged, Serves, no_end_yet}
use Rattle.desk.specs.declared.load.Load.{Load}
use Rattle.desk.specs.declared.load.Load.TheVariants.{Halves as IsHalves, Plug as IsPlug, Writer, Ends}
use Rattle.desk.specs.Holding.{Holding}
use Rattle.desk.specs.Load.{BringsPlugOf}
use Rattle.ctl_state.specs.declared.state.State.{State}
use Rattle.ctl_state.specs.Boxes.{mail_at}
use Rattle.ctl_state.specs.Lists.{belongings_at}
use Rattle.ctl_moves.specs.Plugging.{PlugsAt, PlugsListener, PlugsSession, PlugsWith, end_plugged}
use Rattle.ctl_moves.specs.Processing.{is_plug}
use Rattle.ctl_moves.proofs.FindLemmas.{finds_at}
use Rattle.ctl_moves.proofs.TurnLemmas.{comes_here}
use Rattle.ctl_plane.specs.Hearing.{HasPlugged}
use Rattle.ctl_plane.proofs.OldestBindLemmas.{way_at, way_taken}

-- a command is a Plug or not
pub by_plug : {X : Type 0} (word : Word) → is_plug word ≡ true → ((end : Option EndId) → word ≡ Plug end → X) → X
by_plug (Own child) is f = absurd (never is)
by_plug (Plug end) is f = f end refl
by_plug (TermReq child) is f = absurd (never is)
by_plug Term is f = absurd (never is)
by_plug (TermAck child) is f = absurd (never is)
by_plug (PipeBind e peer) is f = absurd (never is)
by_plug (PipeTerm e) is f = absurd (never is)
by_plug (PipeTermAck e) is f = absurd (never is)
by_plug Stop is f = absurd (never is)
by_plug (Reap socket) is f = absurd (never is)

pub plug_first : {ls behind : List Letter} (letter : Letter) → ls ≡ letter ∷ behind → (end : Option EndId) → letter.word ≡ Plug end → ls ≡ record { to = letter.to; word = Plug end } ∷ behind
plug_first {behind = behind} letter is end same = is ∙ ap (λ (w : Word). let l : Letter = record { to = letter.to; word = w } in l ∷ behind) same

-- ---- who gets another command had its Plug
listed_plugged : (c : Control) (e : EndId) (es : List EndId) → list_any (is_end e) es ≡ true → ArePlugged c es → (obj c.rows (owner_of c e)).plugged ≡ true
listed_plugged c e [] among all = absurd (never among)
listed_plugged c e (d ∷ es) among all = by (is_end e d) refl among (λ later. listed_plugged c e es later (All-tail (λ x. (obj c.rows (owner_of c x)).plugged ≡ true) d es all))
  where
    by : (b : Bool) → is_end e d ≡ b → (b || list_any (is_end e) es) ≡ true → (list_any (is_end e) es ≡ true → (obj c.rows (owner_of c e)).plugged ≡ true) → (obj c.rows (owner_of c e)).plugged ≡ true
    by true same h rest = ap (λ (x : EndId). (obj c.rows (owner_of c x)).plugged) (same_end e d same) ∙ All-head (λ x. (obj c.rows (owner_of c x)).plugged ≡ true) d es all
    by false other h rest = rest h

module _ (c : Control) (kept : Kept c) (serves : Serves c) where
  owner_plugged : (to child : ℕ) (event : LinkEvent) → ComesToOwner c to child event → to ≢ 0 → (obj c.rows to).plugged ≡ true
  owner_plugged to child event comes above = serves.sockets.plugged to (kept.shape.owners child to comes.owner above)

  end_is_plugged : (to : ℕ) (e : EndId) (event : EndEvent) → ComesToEnd c to e (Happens event) → (obj c.rows to).plugged ≡ true
  end_is_plugged to e event comes =
      let found = finds_at event (place_of c e) (meets_cell c kept e (Happens event) comes.comes) in
      let here = ap is_here found.is ∙ comes_here event found.state found.may_come in
      subst (λ (n : ℕ). (obj c.rows n).plugged ≡ true) comes.owner (listed_plugged c e c.attached (kept.listed e.pair.0 e.a here) serves.ends)

  pub gets_plugged : (slot : ℕ) (rest : List Letter) (to : ℕ) (word : Word) → c.boxes slot ≡ record { to = record { 0 = to }; word = word } ∷ rest → is_plug word ≡ false → to ≢ 0 → (obj c.rows to).plugged ≡ true
  gets_plugged slot rest to (Own child) is none above = owner_plugged to child.0 OwnComes (may_come c kept slot rest to (Own child) is) above
  gets_plugged slot rest to (Plug end) is none above = absurd (never (sym none))
  gets_plugged slot rest to (TermReq child) is none above = owner_plugged to child.0 RequestComes (may_come c kept slot rest to (TermReq child) is) above
  gets_plugged slot rest to Term is none above =
      let o = obj c.rows to in
      left o.plugged (not (is_coming o.stop)) (right (is_told o.stage) (o.plugged && not (is_coming o.stop)) (may_come c kept slot rest to Term is))
  gets_plugged slot rest to (TermAck child) is none above = owner_plugged to child.0 AckComes (may_come c kept slot rest to (TermAck child) is) above
  gets_plugged slot rest to (PipeBind e peer) is none above =
      serves.sockets.plugged to
      (All-head (λ l. IsForSocket c.rows l.to.0 l.word) (record { to = record { 0 = to }; word = PipeBind e peer }) rest (subst (AreForSockets c.rows) is (serves.sockets.binds slot)))
  gets_plugged slot rest to (PipeTerm e) is none above = end_is_plugged to e TermCame (may_come c kept slot rest to (PipeTerm e) is)
  gets_plugged slot rest to (PipeTermAck e) is none above = end_is_plugged to e AckCame (may_come c kept slot rest to (PipeTermAck e) is)
  gets_plugged slot rest to Stop is none above = right (is_coming (obj c.rows to).stop) (obj c.rows to).plugged (may_come c kept slot rest to Stop is)
  gets_plugged slot rest to (Reap socket) is none above = owner_plugged to socket.0 ReapComes (may_come c kept slot rest to (Reap socket) is) above

  -- ---- a Plug comes
  module _ {N O I : Type 0} (out_name : O → N) (in_name : I → N) (names : EndId → Option N) (s : State (Load N O I)) (h : Holding N) (plugged : HasPlugged c h) (slot to : ℕ) (rest : List Letter) where
    plugs_at : link_may PlugComes (obj c.rows to) ≡ true → has_ended (obj c.rows to).stage ≡ false → PlugsAt (without_front slot c) h to
    plugs_at comes lives =
        let waits = is_false (obj c.rows to).plugged comes in
        let alone = no_end_yet c serves to waits in
        record { comes = comes; no_socket = alone.no_socket; lives = lives; free = plugged to waits; none = alone.none }

    listener : (load : Option (Load N O I)) → BringsPlugOf out_name in_name names None load → PlugsAt (without_front slot c) h to → PlugsListener (without_front slot c) h to load
    listener (Some (IsHalves x)) brings at = absurd brings
    listener (Some (IsPlug address None)) brings at = record { address = address; brings = refl; plugs = at }
    listener (Some (IsPlug address (Some x))) brings at = absurd brings
    listener (Some (Writer o)) brings at = absurd brings
    listener (Some (Ends p)) brings at = absurd brings
    listener None brings at = absurd brings

    module _ (old : AreOld c) (few : length c.rows.pairs < 2 ^ 30) (fit : (i : ℕ) → sum_by (of_ends bind_waits i) c.rows.pairs ≤ (belongings_at s.objects.lists i).ends.spare) (room : (m : ℕ) → to_come c m ≤ (mail_at s.boxes m).spare) where
      -- no more may come of what it takes in than before
      room_plugged : (e : EndId) → link_may PlugComes (obj c.rows to) ≡ true → ComesToEnd c to e BindCame → (m : ℕ) → to_come (end_plugged to e (without_front slot c)) m ≤ (mail_at s.boxes m).spare
      room_plugged e comes bind m =
          let all = goes_room (LinkMoves to PlugComes ∷ EndMoves e BindCame ∷ []) (without_front slot c) (end_plugged to e (without_front slot c)) (sound_of c kept) moves m in
          let most = room m in
          omega (arith, all, most)
        where
          other : BindCame ≡ Opens → ⊥
          other f = Prim.grind arith

          moves : MovesTo (LinkMoves to PlugComes ∷ EndMoves e BindCame ∷ []) (without_front slot c) (end_plugged to e (without_front slot c))
          moves = record { moves = LinkMoves to PlugComes ∷ EndMoves e BindCame ∷ []; own_are = refl; leads = (comes, (record { comes = bind.comes; unended = λ f x. absurd (other f) }, (refl, refl))) }

      session : (e : EndId) (load : Option (Load N O I)) → BringsPlugOf out_name in_name names (Some e) load → PlugsAt (without_front slot c) h to → ComesToEnd c to e BindCame →
          PlugsSession out_name in_name names (without_front slot c) s h to e load
      session e (Some (IsHalves x)) brings at bind = absurd brings
      session e (Some (IsPlug address None)) brings at bind = absurd brings
      session e (Some (IsPlug address (Some x))) brings at bind = record {
        address = address;
        half = x;
        brings = refl;
        are = brings;
        plugs = at;
        way = way_taken slot c s to e (way_at c kept to e bind s old few fit);
        room = room_plugged e at.comes bind;
      }
      session e (Some (Writer o)) brings at bind = absurd brings
      session e (Some (Ends p)) brings at bind = absurd brings
      session e None brings at bind = absurd brings

      pub plugs_with : (end : Option EndId) (load : Option (Load N O I)) → c.boxes slot ≡ record { to = record { 0 = to }; word = Plug end } ∷ rest → BringsPlugOf out_name in_name names end load →
          PlugsWith out_name in_name names (without_front slot c) s h to end load
      plugs_with None load is brings = listener load brings (plugs_at (may_come c kept slot rest to (Plug None) is) (oldest_lives c kept slot to (Plug None) rest is).1)
      plugs_with (Some e) load is brings =
          let comes = may_come c kept slot rest to (Plug (Some e)) is in
          session e load brings (plugs_at comes.0 (oldest_lives c kept slot to (Plug (Some e)) rest is).1) comes.1
