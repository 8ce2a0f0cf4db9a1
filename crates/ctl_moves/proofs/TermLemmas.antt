-- What an object needs to process its Term, one step after the other.
use Rattle.std.specs.Prelude.{◌≡◌, ◌≢◌, ◌<◌, ◌≤◌, ◌+◌, ◌&&◌, ◌==◌, ◌⊎◌, ◌++◌, ◌∷◌, [], ℕ, zero, suc, Bool, true, false, not, cond, List, Option, Some, IsTrue, length, slice_index_or, sum_by, if◌then◌else◌, refl}
use Rattle.std.proofs.Common.{arith, sym, ap, ◌∙◌, subst, inl, inr}
use Rattle.std.proofs.lemmas.Bool.{cases_eq, eq-eqb}
use Rattle.std.proofs.lemmas.List.{get_or-set_same, get_or-set_other}
use Rattle.std.proofs.lemmas.List.Sums.{get_or-le-sum_by, sum_by-le-sum_by}
use Rattle.zq_base.specs.declared.ids.ObjId.{ObjId}
use Rattle.mailbox.specs.Mail.{Mail}
use Rattle.spec_control.specs.declared.end.Reason.{Reason}
use Rattle.spec_control.specs.declared.object.ObjState.TheVariants.{Ended}
use Rattle.spec_control.specs.declared.stage.Stage.{Stage}
use Rattle.spec_control.specs.declared.stage.Stage.TheVariants.{Alive, Told, Ending, Finished, Cleared}
use Rattle.spec_control.specs.Stage.{has_ended, is_alive, is_told, is_unused}
use Rattle.spec_control.specs.Row.{Row, nobody, is_socket, is_unowned, TermComes, StopPut, IsTold as ChildTold, link_may, link_after}
use Rattle.spec_control.specs.Rows.{obj, is_owner, may_end}
use Rattle.spec_control.specs.Control.{Control, link, put, ask_all, ends_of, tell_where, tell_children, try_end, owner_of, place_of}
use Rattle.spec_control.specs.declared.letter.Word.TheVariants.{Term}
use Rattle.spec_control.specs.After.{owner_or_root, term_reason, term_delay}
use Rattle.control_laws.proofs.ListLemmas.{never, left, clash, placed}
use Rattle.control_laws.proofs.AskLemmas.{ask_all_leaves}
use Rattle.control_laws.specs.Move.{LinkMoves, MovesTo}
use Rattle.control_laws.proofs.GoLemmas.{goes_and_free, one, ask_all_goes, tell_children_goes, try_end_goes}
use Rattle.control_laws.proofs.SoundLemmas.{link_there}
use Rattle.control_laws.specs.Room.{up_to_come, row_to_come, for_slot, slots_of, to_come}
use Rattle.control_laws.proofs.StayLemmas.{SameEnds, ends_on, children_told as children_stay, tried}
use Rattle.own_tree.specs.Rows.{state_at, children_of, tree_of, may_be_asked, asked_from}
use Rattle.desk.specs.declared.load.Load.{Load}
use Rattle.desk.specs.declared.notice.Notice.{Notice}
use Rattle.desk.specs.Holding.{HearsMore, HearsNone, Holding, IsTold}
use Rattle.desk.specs.Heard.{heard_by, term_with}
use Rattle.desk.specs.Lent.{HasAll}
use Rattle.desk.specs.Turns.{turned_in, turned_over, TurnsBy}
use Rattle.control_laws.specs.AttachedOnce.{AreOnce}
use Rattle.zq_base.specs.declared.ids.EndId.{EndId}
use Rattle.spec_control.specs.declared.end.EndState.{EndState}
use Rattle.ctl_state.specs.declared.state.State.{State}
use Rattle.ctl_state.specs.declared.command.Command.{Command}
use Rattle.ctl_state.specs.Boxes.{mail_at}
use Rattle.ctl_state.specs.Children.{HaveRoom, may_tell}
use Rattle.ctl_state.specs.Needs.{AreMet}
use Rattle.ctl_state.specs.Objects.{tree_row}
use Rattle.ctl_state.specs.Parts.{Tells}
use Rattle.ctl_state.specs.Stands.{Stands, HasRoomForAck}
use Rattle.ctl_moves.specs.Turning.{PutsLoaded, Leads}
use Rattle.ctl_moves.proofs.MailLemmas.{puts_on}
use Rattle.ctl_moves.proofs.TurnedLemmas.{turns_kept, in_behind, place_same}
use Rattle.ctl_moves.specs.Asking.{MayAskAll, asked_turns}
use Rattle.ctl_moves.specs.Terming.{names_left, ends_asked, children_told, MayTerm, Turns}
use Rattle.ctl_moves.proofs.AskLemmas.{room_led}
use Rattle.ctl_moves.proofs.AskedLemmas.{asks_over}
use Rattle.ctl_moves.proofs.HeardLemmas.{end_between}
use Rattle.ctl_moves.proofs.BetweenLemmas.{goes_between}
use Rattle.ctl_moves.proofs.KeepLemmas.{ended_now, told_kept, told_lives}
use Rattle.ctl_moves.proofs.HolderLemmas.{has_same, has_told, bare_loaded, ended_has_none}

-- ---- who was told may be asked
told_asked : (t : Stage) (w : Option ObjId) → is_told t ≡ true → IsTrue (asked_from t w)
told_asked Told w h = refl
told_asked Alive w h = absurd (never h)
told_asked Ending w h = absurd (never h)
told_asked Finished w h = absurd (never h)
told_asked Cleared w h = absurd (never h)

-- ---- the Terms of the children have their part in the sums
tell_part : (n a k b : Bool) (x y : ℕ) → cond ((n && (a && not k)) && b) 1 0 ≤ cond b (cond a 1 0 + x) 0 + y
tell_part true true true b x y = omega arith
tell_part true true false true x y = omega arith
tell_part true true false false x y = omega arith
tell_part true false k b x y = omega arith
tell_part false a k b x y = omega arith

abbrev told_at : ℕ → Row → ℕ
told_at k o = cond (may_tell o && o.slot == k) 1 0

terms_to_come : (c : Control) (k : ℕ) → sum_by (told_at k) c.rows.objects ≤ to_come c k
terms_to_come c k =
    let parts = sum_by-le-sum_by (told_at k) (row_to_come (slots_of c.rows) k) c.rows.objects
    (λ x. tell_part x.noted (is_alive x.stage) (is_socket x.kind) (x.slot == k) (cond (link_may StopPut x) 1 0) (for_slot (slots_of c.rows) k (owner_or_root x.owner) (up_to_come x))) in
    omega (arith, parts)

-- the acknowledgement of an object that has not ended has its part
module _ (c : Control) (i : ℕ) (there : i < length c.rows.objects) where
  pub ack_to_come : (w : ℕ) → (obj c.rows i).owner ≡ Some w → has_ended (obj c.rows i).stage ≡ false → 1 ≤ to_come c (obj c.rows w).slot
  ack_to_come w of lives =
      let o = obj c.rows i in
      let mine = ap (λ (x : Option ℕ). for_slot (slots_of c.rows) (obj c.rows w).slot (owner_or_root x) (up_to_come o)) of in
      let here = ap {B = ℕ} (λ (b : Bool). cond b (up_to_come o) 0) (eq-eqb (obj c.rows w).slot (obj c.rows w).slot refl) in
      let part = get_or-le-sum_by (row_to_come (slots_of c.rows) (obj c.rows w).slot) c.rows.objects i nobody there in
      let ended = ap {B = ℕ} (λ (b : Bool). cond b 0 (cond (is_unused o.request) 1 0 + cond (is_unowned o.owner) 0 1)) lives in
      let owned = ap {B = ℕ} (λ (x : Option ℕ). cond (is_unowned x) 0 1) of in
      omega (arith, mine, here, part, ended, owned)

-- ---- an object that was told before is not told again
one_told : (n at : ℕ) (before : Control) (i : ℕ) → is_alive (obj before.rows i).stage ≡ false → obj (tell_where (is_owner at (obj before.rows n).owner && (obj before.rows n).noted) n before).rows i ≡ obj before.rows i
one_told n at before i off = by (is_owner at (obj before.rows n).owner && (obj before.rows n).noted) (link_may ChildTold (obj before.rows n)) refl
  where
    no_alive : link_may ChildTold (obj before.rows n) ≡ true → i ≡ n → ⊥
    no_alive may same =
        clash (is_alive (obj before.rows n).stage) (left (is_alive (obj before.rows n).stage) (not (is_socket (obj before.rows n).kind)) may) (ap (λ (j : ℕ). is_alive (obj before.rows j).stage) (sym same) ∙ off)

    by : (w m : Bool) → link_may ChildTold (obj before.rows n) ≡ m → obj (if w && m then put n Term (link ChildTold n before) else before).rows i ≡ obj before.rows i
    by true true may = get_or-set_other before.rows.objects n i (link_after ChildTold (obj before.rows n)) nobody (no_alive may)
    by true false may = refl
    by false m may = refl

told_same : (n at : ℕ) (c : Control) (i : ℕ) → is_alive (obj c.rows i).stage ≡ false → obj (tell_children n at c).rows i ≡ obj c.rows i
told_same zero at c i off = refl
told_same (suc n) at c i off =
    let rest = told_same n at c i off in
    one_told n at (tell_children n at c) i (ap (λ (o : Row). is_alive o.stage) rest ∙ off) ∙ rest

module _ {N O I : Type 0} (out_name : O → N) (in_name : I → N) (s : State (Load N O I)) (h : Holding N) (at : ObjId) (w : MayTerm s h at.0) where
  abbrev c : Control
  c = w.control

  there : at.0 < length w.control.rows.objects
  there = link_there w.control.rows at.0 TermComes w.comes

  pub may_ask : IsTrue (may_be_asked (tree_row s.objects at.0))
  may_ask =
      told_asked (tree_row s.objects at.0).stage (tree_row s.objects at.0).owner
      (sym (ap (λ (o : Row). is_told o.stage) (w.stands.objects.each at.0)) ∙ left (is_told (obj w.control.rows at.0).stage) _ w.comes)

  pub left_goes : MovesTo (LinkMoves at.0 TermComes ∷ []) w.control (names_left at.0 w.control)
  left_goes = one (LinkMoves at.0 TermComes) w.control (names_left at.0 w.control) w.comes refl refl

  -- its ends may be asked
  abbrev pub asks_its_ends : (t : State (Load N O I)) → Stands t (names_left at.0 w.control) → t.boxes ≡ s.boxes → MayAskAll t h at.0
  asks_its_ends t stands boxes = record {
    control = names_left at.0 w.control;
    names = w.names;
    stands = stands;
    has = has_same w.names w.control (names_left at.0 w.control) h (record { pairs = refl; attached = refl; reasons = refl }) w.has;
    lent = w.lent;
    rootless = w.rootless;
    room = λ d moves m.
        (let most = w.room d (goes_and_free (LinkMoves at.0 TermComes ∷ []) w.control (names_left at.0 w.control) d left_goes moves) m in
        let same = ap (λ (b : List (Mail (Command (Load N O I)))). (mail_at b m).spare) boxes in
        omega (arith, most, same));
  }

  -- they were asked for the reason that its kind has
  pub asked_leads : (t u : State (Load N O I)) (k : Holding N) (reason : Reason) (delay : Bool) → reason ≡ term_reason (obj w.control.rows at.0).kind → delay ≡ term_delay (obj w.control.rows at.0) →
      Leads out_name in_name w.names (asked_turns reason delay (ends_of at.0 (names_left at.0 w.control)) (names_left at.0 w.control)) (ask_all reason delay (ends_of at.0 (names_left at.0 w.control)) (names_left at.0 w.control)) t u h k →
      Leads out_name in_name w.names (asked_turns (term_reason (obj w.control.rows at.0).kind) (term_delay (obj w.control.rows at.0)) (ends_of at.0 (names_left at.0 w.control)) (names_left at.0 w.control)) (ends_asked at.0 w.control) t u h k
  asked_leads t u k reason delay why how leads =
      subst (λ (r : Reason). Leads out_name in_name w.names (asked_turns r (term_delay (obj w.control.rows at.0)) (ends_of at.0 (names_left at.0 w.control)) (names_left at.0 w.control))
      (ask_all r (term_delay (obj w.control.rows at.0)) (ends_of at.0 (names_left at.0 w.control)) (names_left at.0 w.control)) t u h k) why
      (subst (λ (d : Bool). Leads out_name in_name w.names (asked_turns reason d (ends_of at.0 (names_left at.0 w.control)) (names_left at.0 w.control))
      (ask_all reason d (ends_of at.0 (names_left at.0 w.control)) (names_left at.0 w.control)) t u h k) how leads)

  pub asked_puts : (t u : State (Load N O I)) → t.boxes ≡ s.boxes → PutsLoaded out_name in_name w.names t.boxes u.boxes → PutsLoaded out_name in_name w.names s.boxes u.boxes
  asked_puts t u same puts = subst (λ (b : List (Mail (Command (Load N O I)))). PutsLoaded out_name in_name w.names b u.boxes) same puts

  -- ---- behind the asking
  module _ (t : State (Load N O I)) (k : Holding N) (boxes : PutsLoaded out_name in_name w.names s.boxes t.boxes) (stands : Stands t (ends_asked at.0 w.control)) where
    asked_goes : MovesTo (LinkMoves at.0 TermComes ∷ []) w.control (ends_asked at.0 w.control)
    asked_goes =
        goes_and_free (LinkMoves at.0 TermComes ∷ []) w.control (names_left at.0 w.control) (ends_asked at.0 w.control) left_goes
        (ask_all_goes (term_reason (obj w.control.rows at.0).kind) (term_delay (obj w.control.rows at.0)) (ends_of at.0 (names_left at.0 w.control)) (names_left at.0 w.control))

    asked_row : obj (ends_asked at.0 w.control).rows at.0 ≡ link_after TermComes (obj w.control.rows at.0)
    asked_row =
        ap (λ (os : List Row). slice_index_or os at.0 nobody)
        (ask_all_leaves (term_reason (obj w.control.rows at.0).kind) (term_delay (obj w.control.rows at.0)) true (λ e. refl) (ends_of at.0 (names_left at.0 w.control)) (names_left at.0 w.control)).objects
        ∙ get_or-set_same w.control.rows.objects at.0 (link_after TermComes (obj w.control.rows at.0)) nobody there

    pub asked_unended : AreMet t (ends_asked at.0 w.control) → state_at t.objects.tree at ≢ Ended
    asked_unended met = met.unended at (ap (λ (o : Row). has_ended o.stage) asked_row)

    pub asked_room : AreMet t (ends_asked at.0 w.control) → HaveRoom may_tell t (children_of (tree_of t.objects.tree) at)
    asked_room met = met.children may_tell at (λ m.
        (let some = terms_to_come (ends_asked at.0 w.control) m in
        let most = room_led out_name in_name (LinkMoves at.0 TermComes ∷ []) w.names w.control (ends_asked at.0 w.control) s t w.stands stands boxes w.room asked_goes m in
        omega (arith, some, most)))

    -- ---- behind the telling
    module _ (u : State (Load N O I)) (tells : Tells t u) (told : Stands u (children_told at.0 w.control)) where
      told_row : obj (children_told at.0 w.control).rows at.0 ≡ link_after TermComes (obj w.control.rows at.0)
      told_row = told_same (length (ends_asked at.0 w.control).rows.objects) at.0 (ends_asked at.0 w.control) at.0 (ap (λ (o : Row). is_alive o.stage) asked_row) ∙ asked_row

      told_puts : PutsLoaded out_name in_name w.names s.boxes u.boxes
      told_puts = puts_on out_name in_name w.names s.boxes t.boxes u.boxes boxes (bare_loaded out_name in_name w.names t.boxes u.boxes tells.bare)

      told_goes : MovesTo (LinkMoves at.0 TermComes ∷ []) w.control (children_told at.0 w.control)
      told_goes =
          goes_and_free (LinkMoves at.0 TermComes ∷ []) w.control (ends_asked at.0 w.control) (children_told at.0 w.control) asked_goes
          (tell_children_goes (length (ends_asked at.0 w.control).rows.objects) at.0 (ends_asked at.0 w.control))

      told_there : at.0 < length (children_told at.0 w.control).rows.objects
      told_there = placed (λ (o : Row). has_ended o.stage) (children_told at.0 w.control).rows.objects nobody at.0 refl (ap (λ (o : Row). has_ended o.stage) told_row)

      pub told_unended : AreMet u (children_told at.0 w.control) → state_at u.objects.tree at ≢ Ended
      told_unended met = met.unended at (ap (λ (o : Row). has_ended o.stage) told_row)

      pub ack_room : HasRoomForAck u at.0
      ack_room v of =
          let c3 = children_told at.0 w.control in
          let some = ack_to_come c3 at.0 told_there v (ap (λ (o : Row). o.owner) (told.objects.each at.0) ∙ of) (ap (λ (o : Row). has_ended o.stage) told_row) in
          let most = room_led out_name in_name (LinkMoves at.0 TermComes ∷ []) w.names w.control c3 s u w.stands told told_puts w.room told_goes (obj c3.rows v).slot in
          let slot = ap (λ (o : Row). o.slot) (told.objects.each v) in
          subst (λ (n : ℕ). 0 < (mail_at u.boxes n).spare) slot (omega (arith, some, most))

      told_ends : SameEnds (ends_asked at.0 w.control) (children_told at.0 w.control)
      told_ends = children_stay (length (ends_asked at.0 w.control).rows.objects) at.0 (ends_asked at.0 w.control)

      -- an object that ends has no end
      pub ends_with_none : (has : HasAll w.names (ends_asked at.0 w.control) k) → (at.0 ≢ 0 → k.holds at.0 ≡ true) → may_end (children_told at.0 w.control).rows at.0 ≡ true → at.0 ≢ 0 → k.ends at.0 ≡ []
      ends_with_none has lent may_it above =
          let c3 = children_told at.0 w.control in
          ended_has_none w.names c3.rows c3.attached c3.reasons k at.0 may_it (has_same w.names (ends_asked at.0 w.control) c3 k told_ends has at.0 (lent above))

      -- the holder hears of the Term, and whether the object ended
      pub term_heard : (left : Bool) (l : Holding N) (ended : Bool) → ended ≡ (not left && may_end (children_told at.0 w.control).rows at.0) → HearsNone h k → HearsMore (term_with at ended) k l →
          HearsMore (heard_by at Term w.control (try_end at.0 left (children_told at.0 w.control))) h l
      term_heard left l ended is asked told =
          told ∙ ap (λ (ns : List Notice). ns ++ term_with at ended) asked
          ∙ ap (λ (b : Bool). h.heard ++ term_with at b)
          (is ∙ sym (end_between at.0 left (obj w.control.rows at.0) (children_told at.0 w.control) (told_lives (obj w.control.rows at.0).stage _ w.comes) (ap (λ (o : Row). has_ended o.stage) told_row)))

      -- ---- behind the ending
      pub termed : (left : Bool) (v : State (Load N O I)) (l : Holding N) → HasAll w.names (ends_asked at.0 w.control) k → (at.0 ≢ 0 → k.holds at.0 ≡ true) → t.objects.lists ≡ s.objects.lists → Tells u v → Stands v (try_end at.0 left (children_told at.0 w.control)) →
          IsTold at.0 k l → (at.0 ≡ 0 → l ≡ k) → (ended : Bool) → (ended ≡ false → l.holds at.0 ≡ k.holds at.0) → (ended ≡ true → (not left && may_end (children_told at.0 w.control).rows at.0) ≡ true) →
          k.joined ≡ h.joined → ((i : ℕ) → k.holds i ≡ h.holds i) → ((i : ℕ) → k.kind i ≡ h.kind i) →
          TurnsBy (asked_turns (term_reason (obj w.control.rows at.0).kind) (term_delay (obj w.control.rows at.0)) (ends_of at.0 (names_left at.0 w.control)) (names_left at.0 w.control)) h k →
          Turns out_name in_name w.names w.control (try_end at.0 left (children_told at.0 w.control)) s v h l
      termed left v l has lent lists ends now is_told root ended kept gone joined holds kinds asked = record {
        stands = now;
        has = holder_has (cases_eq at.0 0);
        puts = puts_on out_name in_name w.names s.boxes u.boxes v.boxes told_puts (bare_loaded out_name in_name w.names u.boxes v.boxes ends.bare);
        lists = ends.lists ∙ tells.lists ∙ lists;
        turned = λ once. turns_kept (turned_in w.control last) h k l (subst (λ (ts : List (EndId × EndState)). TurnsBy ts h k) (sym (they_are once)) asked) is_told.turns;
        joined = is_told.turns.joined ∙ joined;
        objects = told_kept w.control last at.0 ended h k l holds kinds is_told root w.lent kept (told_lives (obj w.control.rows at.0).stage _ w.comes) (λ is. ended_now at.0 left (children_told at.0 w.control) (gone is))
            (goes_between (LinkMoves at.0 TermComes ∷ []) w.control last (goes_and_free (LinkMoves at.0 TermComes ∷ []) w.control (children_told at.0 w.control) last told_goes (try_end_goes at.0 left (children_told at.0 w.control))) refl);
      }
        where
          last : Control
          last = try_end at.0 left (children_told at.0 w.control)

          behind : SameEnds (ends_asked at.0 w.control) last
          behind = ends_on (ends_asked at.0 w.control) (children_told at.0 w.control) _ told_ends (tried at.0 left (children_told at.0 w.control))

          they_are : AreOnce w.control.attached →
              turned_in w.control last ≡ asked_turns (term_reason (obj w.control.rows at.0).kind) (term_delay (obj w.control.rows at.0)) (ends_of at.0 (names_left at.0 w.control)) (names_left at.0 w.control)
          they_are once =
              in_behind w.control (ends_asked at.0 w.control) last behind.attached (place_same (ends_asked at.0 w.control) last behind.pairs)
              ∙ ap (turned_over (place_of w.control) (place_of (ends_asked at.0 w.control)))
              (ask_all_leaves (term_reason (obj w.control.rows at.0).kind) (term_delay (obj w.control.rows at.0)) true (λ e. refl) (ends_of at.0 (names_left at.0 w.control)) (names_left at.0 w.control)).attached
              ∙ asks_over (term_reason (obj w.control.rows at.0).kind) (term_delay (obj w.control.rows at.0)) (λ e. owner_of (names_left at.0 w.control) e == at.0) w.control.attached once (names_left at.0 w.control)

          has_then : HasAll w.names (try_end at.0 left (children_told at.0 w.control)) k
          has_then = has_same w.names (ends_asked at.0 w.control) (try_end at.0 left (children_told at.0 w.control)) k (ends_on (ends_asked at.0 w.control) (children_told at.0 w.control) _ told_ends (tried at.0 left (children_told at.0 w.control))) has

          holder_has : (at.0 ≡ 0) ⊎ (at.0 ≡ 0 → ⊥) → HasAll w.names (try_end at.0 left (children_told at.0 w.control)) l
          holder_has (inl zero_is) = subst (λ (x : Holding N). HasAll w.names (try_end at.0 left (children_told at.0 w.control)) x) (sym (root zero_is)) has_then
          holder_has (inr above) = has_told w.names (try_end at.0 left (children_told at.0 w.control)) k l at.0 (lent above) is_told has_then
