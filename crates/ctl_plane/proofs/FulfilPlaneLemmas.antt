-- That a bind that fulfils connects leaves a control plane, with a holder that has what the events say.
use Rattle.std.specs.Prelude.{◌≡◌, ◌<◌, ◌≤◌, ◌+◌, ◌*◌, ◌==◌, ◌++◌, ◌∷◌, [], ℕ, Bool, true, false, cond, List, Option, None, All, flat_map, length, map, slice_index_or, sum_by, refl}
use Rattle.std.proofs.Common.{arith, sym, ap, ◌∙◌, subst, inl, inr}
use Rattle.std.proofs.lemmas.Bool.{cases_eq}
use Rattle.std.proofs.lemmas.List.{append-nil, get_or_past, map-append}
use Rattle.std.proofs.lemmas.List.Elements.{All-head, All-map, All-tail, All-weaker}
use Rattle.std.proofs.lemmas.List.Sums.{sum_by-append, sum_by-cons}
use Rattle.zq_base.specs.declared.endpoint.Endpoint.TheVariants.{Inproc}
use Rattle.zq_base.specs.declared.ids.EndId.{EndId}
use Rattle.zq_base.specs.declared.ids.ObjId.{ObjId}
use Rattle.spec_control.specs.declared.book.Waiting.{Waiting}
use Rattle.spec_control.specs.declared.entry.Answered.{Answered}
use Rattle.spec_control.specs.declared.entry.Did.{Did}
use Rattle.spec_control.specs.declared.entry.Did.TheVariants.{Asked}
use Rattle.spec_control.specs.declared.entry.Item.{Item}
use Rattle.spec_control.specs.declared.entry.Joining.{Joining}
use Rattle.spec_control.specs.declared.request.Req.TheVariants.{Bind}
use Rattle.spec_control.specs.declared.request.Reply.TheVariants.{Done}
use Rattle.spec_control.specs.EndpointBook.{waiters}
use Rattle.spec_control.specs.Names.{name_of}
use Rattle.spec_control.specs.Row.{Row, nobody}
use Rattle.spec_control.specs.declared.end.EndState.{EndState}
use Rattle.spec_control.specs.declared.end.EndState.TheVariants.{Gone}
use Rattle.spec_control.specs.Place.{Place, At, Unmade, is_here}
use Rattle.spec_control.specs.Rows.{PairRow, no_pair, end_place, obj, of_ends, bind_waits}
use Rattle.spec_control.specs.After.{after}
use Rattle.spec_control.specs.Control.{Control, next_pair, place_of}
use Rattle.spec_control.specs.ControlRun.{Fits}
use Rattle.spec_control.specs.Reply.{reply_of}
use Rattle.control_laws.specs.Room.{move_room, reserved, slots_of, took_from}
use Rattle.spec_control.specs.Held.{Held, held_as}
use Rattle.spec_control.proofs.NamedLemmas.{later}
use Rattle.control_laws.specs.Kept.{Kept}
use Rattle.control_laws.specs.Move.{Move}
use Rattle.control_laws.specs.OwnMoves.{fulfil_moves, join_moves}
use Rattle.desk.specs.Holding.{Holding, has_end}
use Rattle.desk.specs.Lent.{HasAll, HasBothNames}
use Rattle.desk.specs.Turns.{HasTurned, TurnsBy, turn_at, turned_over}
use Rattle.ctl_moves.proofs.TurnedLemmas.{from_gone}
use Rattle.ctl_moves.specs.Joined.{Attaches}
use Rattle.desk.specs.declared.given.Given.{Given}
use Rattle.desk.specs.declared.load.Load.{Load}
use Rattle.desk.specs.Load.{given_by}
use Rattle.ctl_moves.specs.Turning.{PutsLoaded}
use Rattle.ctl_state.specs.declared.command.Command.{Command}
use Rattle.ctl_state.specs.declared.state.State.{State}
use Rattle.ctl_state.specs.Stands.{Stands}
use Rattle.ctl_moves.specs.declared.notes.Notes.{Notes}
use Rattle.ctl_moves.proofs.JoinedLemmas.{has_more, held_known}
use Rattle.ctl_moves.specs.declared.batch.Drawn.{Drawn}
use Rattle.ctl_moves.specs.Batch.{drawn_all, first_of, held_of}
use Rattle.ctl_moves.specs.Drawing.{IsBack, IsDrawn}
use Rattle.ctl_moves.specs.Pairing.{fulfilled_all}
use Rattle.ctl_moves.proofs.AnswerLemmas.{ends_held, held_joined}
use Rattle.ctl_moves.proofs.FulfilLemmas.{AreFor}
use Rattle.ctl_moves.proofs.ReadyLemmas.{drawn_commands, drawn_spare, room_in}
use Rattle.ctl_moves.proofs.TakenLemmas.{all_from, drawn_boxes}
use Rattle.ctl_moves.specs.Naming.{bound_now}
use Rattle.ctl_plane.specs.Carried.{given_in, AreCarried, BindsFit, IsCarried, IsPlane}
use Rattle.ctl_plane.specs.Fulfilling.{Fulfils}
use Rattle.ctl_plane.specs.Hearing.{HasWhat}
use Rattle.ctl_plane.specs.Joining.{IsNoted, Lends}
use Rattle.ctl_plane.specs.Past.{Past, as_item, control_of, items_of, with_event, IsHistory}
use Rattle.ctl_moves.specs.Refusals.{refusal_in}
use Rattle.ctl_plane.proofs.BindLemmas.{enough_pairs}
use Rattle.ctl_moves.proofs.CapacityLemmas.{capacity}
use Rattle.ctl_plane.proofs.CarryLemmas.{carries_later}
use Rattle.ctl_plane.proofs.DeliverLemmas.{has_later, loaded_carried, loaded_given}
use Rattle.ctl_moves.proofs.FindLemmas.{loaded_capacity}
use Rattle.ctl_plane.proofs.EventLemmas.{control_more, kept_past, one_more, objects_made}
use Rattle.ctl_plane.proofs.FreshLemmas.{fulfils_draw}
use Rattle.ctl_plane.proofs.FulfilEventLemmas.{are, event_fits, leads_to, made, names_fit, names_then, objects_stay, waits_for_it}
use Rattle.ctl_plane.proofs.NamedPlaneLemmas.{plane_named}
use Rattle.ctl_plane.proofs.ReapLemmas.{carried_later}
use Rattle.ctl_moves.proofs.OnceLemmas.{told_more}

-- ends of pairs that had no number yet begin Active
over_new : (p q : EndId → Place) (es : List EndId) → All (λ e. p e ≡ At Gone) es → All (λ e. is_here (q e) ≡ true) es → turned_over p q es ≡ turned_over (λ e. Unmade) q es
over_new p q [] gone here = refl
over_new p q (e ∷ es) gone here =
    ap (λ (x : Place). turn_at e x (q e) ++ turned_over p q es) (All-head (λ d. p d ≡ At Gone) e es gone)
    ∙ ap (λ (ts : List (EndId × EndState)). ts ++ turned_over p q es) (from_gone e (q e) (All-head (λ d. is_here (q d) ≡ true) e es here))
    ∙ ap (λ (ts : List (EndId × EndState)). turn_at e Unmade (q e) ++ ts) (over_new p q es (All-tail (λ d. p d ≡ At Gone) e es gone) (All-tail (λ d. is_here (q d) ≡ true) e es here))

-- what no move of a pair's making has, all of a bind have not
moves_none : (f : Move → ℕ) → ((c : Control) (k a b : ℕ) → sum_by f (join_moves c k a b false) ≡ 0) → (c : Control) (i k : ℕ) (ws : List Waiting) → sum_by f (fulfil_moves c i k ws) ≡ 0
moves_none f none c i k [] = refl
moves_none f none c i k (w ∷ ws) =
    let one = none c k w.waiter.0 i in
    let rest = moves_none f none c i (k + 1) ws in
    let all = sum_by-append f (join_moves c k w.waiter.0 i false) (fulfil_moves c i (k + 1) ws) in
    omega (arith, one, rest, all)

-- the room that the moves take is that which was kept
moves_room : {N O I : Type 0} (slots : ℕ → ℕ) (m : ℕ) (c : Control) (i k : ℕ) (ws : List Waiting) (ds : List (Drawn N O I)) → AreFor ws ds → All (λ d. slots i ≡ d.o.first_slot.0) ds →
    All (λ d. slots d.o.last.0 ≡ d.o.last_slot.0) ds → sum_by (move_room slots m) (fulfil_moves c i k ws) ≡ sum_by (room_in m) ds
moves_room slots m c i k [] [] are firsts lasts = refl
moves_room slots m c i k [] (d ∷ ds) are firsts lasts = absurd are
moves_room slots m c i k (w ∷ ws) [] are firsts lasts = absurd are
moves_room slots m c i k (w ∷ ws) (d ∷ ds) are firsts lasts =
    let all = sum_by-append (move_room slots m) (join_moves c k w.waiter.0 i false) (fulfil_moves c i (k + 1) ws) in
    let rest = moves_room slots m c i (k + 1) ws ds are.1 (All-tail (λ x. slots i ≡ x.o.first_slot.0) d ds firsts) (All-tail (λ x. slots x.o.last.0 ≡ x.o.last_slot.0) d ds lasts) in
    let room = sum_by-cons (room_in m) d ds in
    let mine = ap {B = ℕ} (λ (n : ℕ). cond (n == m) 2 0) (All-head (λ x. slots i ≡ x.o.first_slot.0) d ds firsts) in
    let last = ap slots (ap (λ (x : ObjId). x.0) (sym are.0)) ∙ All-head (λ x. slots x.o.last.0 ≡ x.o.last_slot.0) d ds lasts in
    let theirs = ap {B = ℕ} (λ (n : ℕ). cond (n == m) 2 0) last in
    let bind = ap {B = ℕ} (λ (n : ℕ). cond (n == m) 1 0) last in
    let three = two_one (d.o.last_slot.0 == m) in
    omega (arith, all, rest, room, mine, theirs, bind, three)
  where
    two_one : (b : Bool) → ◌≡◌ {A = ℕ} (cond b 2 0 + cond b 1 0) (cond b 3 0)
    two_one true = refl
    two_one false = refl

module _ {N O I S : Type 0} (out_name : O → N) (in_name : I → N) (s : State (Load N O I)) (p : Past (Given N O I) N S) (spare : ℕ) (o : ObjId) (name : List ℕ) (plane : IsPlane out_name in_name s p spare) (h : Holding N)
    (lends : Lends (control_of p) o.0 h) (allowed : refusal_in (reply_of (control_of p) (Bind o (Inproc name))) ≡ None) (notes : Notes N) (t : State (Load N O I)) (k : Holding N)
    (fulfils : Fulfils out_name in_name (control_of p) o (Inproc name) (waiters (waits_for_it (control_of p) o name)) notes s t h k) (a : Answered N S) (noted : IsNoted notes a) where
  abbrev c : Control
  c = control_of p

  abbrev ws : List Waiting
  ws = waits_for_it (control_of p) o name

  abbrev ds : List (Drawn N O I)
  ds = fulfils.drawn

  abbrev did : Did N S
  did = Asked (Bind o (Inproc name)) Done a

  abbrev items_then : List (Item N S)
  items_then = items_of p ++ as_item did ∷ []

  abbrev held : Control
  held = bound_now o.0 (Inproc name) (control_of p)

  leads : after (Asked (Bind o (Inproc name)) Done a) (control_of p) ≡ fulfilled_all (Inproc name) fulfils.drawn (bound_now o.0 (Inproc name) (control_of p))
  leads = leads_to out_name in_name s p spare o name plane h lends allowed notes t k fulfils a noted

  fits_it : Fits (control_of p) (Asked (Bind o (Inproc name)) Done a)
  fits_it = event_fits out_name in_name s p spare o name plane h lends allowed notes t k fulfils a noted

  stands_it : Stands t (after (Asked (Bind o (Inproc name)) Done a) (control_of p))
  stands_it = subst (λ (d : Control). Stands t d) (sym leads) fulfils.stands

  puts_it : PutsLoaded out_name in_name (name_of (items_of p ++ as_item (Asked (Bind o (Inproc name)) Done a) ∷ [])) (drawn_all fulfils.drawn s).boxes t.boxes
  puts_it = fulfils.puts (name_of items_then) (names_then out_name in_name s p spare o name plane h lends allowed notes t k fulfils a noted)

  -- ---- room
  drawn_capacity : (m : ℕ) → capacity (drawn_all fulfils.drawn s).boxes m ≡ capacity s.boxes m + sum_by (room_in m) fulfils.drawn
  drawn_capacity m =
      let more = drawn_spare ds s fulfils.places m in
      let same = ap (λ (xs : List (Command (Load N O I))). length xs) (drawn_commands ds s m) in
      omega (arith, more, same)

  slot_same : (i : ℕ) → slots_of (after (Asked (Bind o (Inproc name)) Done a) (control_of p)).rows i ≡ (obj (control_of p).rows i).slot
  slot_same i = ap (λ (rows : List Row). (slice_index_or rows i nobody).slot) (objects_stay out_name in_name s p spare o name plane h lends allowed notes t k fulfils a noted)

  room : (m : ℕ) → capacity s.boxes m + reserved (control_of p) (Asked (Bind o (Inproc name)) Done a) m ≤ capacity t.boxes m + took_from (Asked (Bind o (Inproc name)) Done a) m
  room m =
      let kept_free = drawn_capacity m in
      let put = loaded_capacity out_name in_name (name_of items_then) (drawn_all ds s).boxes t.boxes puts_it m in
      let moves = moves_room (slots_of (after did c).rows) m c o.0 (next_pair c) ws ds (are out_name in_name s p spare o name plane h lends allowed notes t k fulfils a noted)
      (All-weaker (IsDrawn out_name in_name c o (h.kind o.0)) (λ (d : Drawn N O I). slots_of (after did c).rows o.0 ≡ d.o.first_slot.0) (λ d is. slot_same o.0 ∙ is.owners.first_slot) ds fulfils.each)
      (All-weaker (IsDrawn out_name in_name c o (h.kind o.0)) (λ (d : Drawn N O I). slots_of (after did c).rows d.o.last.0 ≡ d.o.last_slot.0) (λ d is. slot_same d.o.last.0 ∙ is.owners.last_slot) ds fulfils.each) in
      omega (arith, kept_free, put, moves)

  none_made : sum_by objects_made (fulfil_moves (control_of p) o.0 (next_pair (control_of p)) (waits_for_it (control_of p) o name)) ≡ 0
  none_made = moves_none objects_made (λ d j x y. refl) c o.0 (next_pair c) ws

  pub history_bound : (later : ℕ) → spare + 8 * length (waits_for_it (control_of p) o name) ≤ later → IsHistory t (with_event (Asked (Bind o (Inproc name)) Done a) p) later
  history_bound later enough = one_more s t p did spare later plane.history (record {
    fits = fits_it;
    stands = stands_it;
    room = room;
    entries = omega (arith, enough);
    objects = (let none = none_made in let few = plane.history.objects in omega (arith, none, few));
    pairs = (let drawn = fulfils_draw c o.0 (next_pair c) ws in let few = enough_pairs c o name allowed in omega (arith, drawn, few));
    boxes = (let many = drawn_boxes ds s in let put = puts_it.many in let none = none_made in omega (arith, many, put, none));
  })

  -- ---- what is carried
  carried : (later_spare : ℕ) → IsHistory t (with_event (Asked (Bind o (Inproc name)) Done a) p) later_spare → AreCarried out_name in_name (items_of p ++ as_item (Asked (Bind o (Inproc name)) Done a) ∷ []) (after (Asked (Bind o (Inproc name)) Done a) (control_of p)) t.boxes
  carried later_spare history =
      carried_later out_name in_name items_then c did t (kept_past p plane.history.run) (subst Kept (control_more p did) (kept_past (with_event did p) history.run)) plane.history.stands.lists.known fits_it stands_it
      (loaded_carried out_name in_name items_then c (drawn_all ds s).boxes t.boxes puts_it roomier)
    where
      named_then : AreCarried out_name in_name (items_of p ++ as_item (Asked (Bind o (Inproc name)) Done a) ∷ []) (control_of p) s.boxes
      named_then m = λ j x lt.
          (let one = plane.carried m j x lt in record {
            carries = carries_later out_name in_name (name_of (items_of p)) (name_of items_then) (later (items_of p) (as_item did ∷ [])) _ _ one.carries;
            reaps = one.reaps;
          })

      roomier : AreCarried out_name in_name (items_of p ++ as_item (Asked (Bind o (Inproc name)) Done a) ∷ []) (control_of p) (drawn_all fulfils.drawn s).boxes
      roomier m = subst (λ (xs : List (Command (Load N O I))). All (IsCarried out_name in_name items_then c) xs) (sym (drawn_commands ds s m)) (named_then m)

  -- ---- what is on its way
  binds_fit : BindsFit (after (Asked (Bind o (Inproc name)) Done a) (control_of p)) t.objects.lists
  binds_fit j =
      let same = ap (λ (d : Control). sum_by (of_ends bind_waits j) d.rows.pairs) leads in
      let more = (made out_name in_name s p spare o name plane h lends allowed notes t k fulfils a noted).binds j in
      let were = plane.binds j in
      let fit = fulfils.fits j in
      omega (arith, same, more, were, fit)

  pub plane_bound : (later : ℕ) → spare + 8 * length (waits_for_it (control_of p) o name) ≤ later → IsPlane out_name in_name t (with_event (Asked (Bind o (Inproc name)) Done a) p) later
  plane_bound later enough =
      plane_named out_name in_name s t p did spare later plane (history_bound later enough) (names_fit out_name in_name s p spare o name plane h lends allowed notes t k fulfils a noted)
      (carried later (history_bound later enough)) binds_fit

  pub given_bound : given_in t.boxes ≡ given_in s.boxes
  given_bound =
      loaded_given out_name in_name (name_of items_then) (drawn_all ds s).boxes t.boxes puts_it
      ∙ ap (λ (xs : List (Command (Load N O I))). flat_map (λ (x : Command (Load N O I)). given_by x.load) xs) (drawn_commands ds s 0)

  -- ---- the holder
  pub keeps_bound : HasWhat p h → HasWhat (with_event (Asked (Bind o (Inproc name)) Done a) p) k
  keeps_bound has =
      subst (λ (d : Control). HasAll (name_of (items_of (with_event did p))) d k) (sym (control_more p did))
      (subst (λ (items : List (Item N S)). HasAll (name_of items) (after did c) k) (sym (map-append as_item p.events (did ∷ [])))
      (subst (λ (d : Control). HasAll (name_of items_then) d k) (sym leads)
      (has_more held (fulfilled_all (Inproc name) ds held) o.0 (map first_of ds) (made out_name in_name s p spare o name plane h lends allowed notes t k fulfils a noted).attaches plane.history.stands.lists.known
      (name_of items_then) (map held_of ds) h k fulfils.gets (ends_held ds) both_names fulfils.states (has_later (name_of (items_of p)) (name_of items_then) (later (items_of p) (as_item did ∷ [])) c h has))))
    where
      both_names : All (HasBothNames (name_of (items_of p ++ as_item (Asked (Bind o (Inproc name)) Done a) ∷ []))) (map held_of fulfils.drawn)
      both_names = All-map (HasBothNames (name_of items_then)) held_of ds (λ j y lt.
          let named = names_then out_name in_name s p spare o name plane h lends allowed notes t k fulfils a noted j y lt in record { written = named.1; read = named.0 })

  -- and was told of its ends
  pub told_fulfilled : HasTurned (control_of p) (control_of (with_event (Asked (Bind o (Inproc name)) Done a) p)) h k
  told_fulfilled =
      subst (λ (d : Control). HasTurned (control_of p) d h k) (sym (control_more p did))
      (subst (λ (d : Control). HasTurned (control_of p) d h k) (sym leads)
      (told_more held (fulfilled_all (Inproc name) ds held) (map first_of ds) h k attached.attached (λ i x lt. attached.places (slice_index_or c.attached i x) (plane.history.stands.lists.known i x lt))
      (subst (λ (ts : List (EndId × EndState)). TurnsBy ts h k) (sym (over_new (place_of held) (place_of (fulfilled_all (Inproc name) ds held)) (map first_of ds) new (λ j y lt. (attached.fresh j y lt).here))) fulfils.turned)))
    where
      attached : Attaches (bound_now o.0 (Inproc name) (control_of p)) (fulfilled_all (Inproc name) fulfils.drawn (bound_now o.0 (Inproc name) (control_of p))) o.0 (map first_of fulfils.drawn)
      attached = (made out_name in_name s p spare o name plane h lends allowed notes t k fulfils a noted).attaches

      new : All (λ (e : EndId). place_of (bound_now o.0 (Inproc name) (control_of p)) e ≡ At Gone) (map first_of fulfils.drawn)
      new = All-map (λ (e : EndId). place_of held e ≡ At Gone) first_of ds (λ j y lt.
          ap (λ (r : PairRow). end_place r false) (get_or_past c.rows.pairs (slice_index_or ds j y).pair.0 no_pair (all_from (next_pair c) ds fulfils.numbers (next_pair c) (omega arith) j y lt)))

  pub ends_bound : k.ends o.0 ≡ h.ends o.0 ++ map held_as a.joined
  ends_bound = fulfils.gets.ends ∙ ap (λ (hs : List (Held N)). h.ends o.0 ++ hs) (sym (ap (λ (js : List (Joining N)). map held_as js) (noted.joined ∙ fulfils.joined) ∙ held_joined c ds))

-- ---- a holder whose ends are back has what it had
module _ {N : Type 0} where
  pub back_told : (n o : ℕ) (h k : Holding N) → IsBack n o h k → TurnsBy [] h k
  back_told n o h k back = record { turns = back.turns ∙ sym (append-nil h.turns); sealed = back.sealed ∙ sym (append-nil h.sealed) }

  -- a holder with which nothing was done
  pub back_itself : (n o : ℕ) (h : Holding N) → IsBack n o h h
  back_itself n o h = record {
    now = record { ends = refl; others = λ i other. refl; objects = λ i. refl; kinds = λ i. refl; output = λ i. refl; delimiters = λ i e has at. at };
    writers = λ e below. refl;
    states = λ i e below has. refl;
    turns = refl;
    sealed = refl;
    joined = refl;
    heard = refl;
  }

  pub has_back : (names : EndId → Option N) (c : Control) (o : ℕ) (h k : Holding N) → All (λ (e : EndId). e.pair.0 < length c.rows.pairs) c.attached → IsBack (length c.rows.pairs) o h k → HasAll names c h → HasAll names c k
  has_back names c o h k known back has i holds =
      let was = has i (sym (back.now.objects i) ∙ holds) in
      record {
        ends = ap (λ (hs : List (Held N)). map (λ x. x.end) hs) (same i) ∙ was.ends;
        named = subst (λ (hs : List (Held N)). All (HasBothNames names) hs) (sym (same i)) was.named;
        writes = λ e here. (let there = sym (ap (has_end e) (same i)) ∙ here in back.writers e (held_known names c h i known was e there) ∙ was.writes e there);
        delimiters = λ e here met. back.now.delimiters i e here (was.delimiters e (sym (ap (has_end e) (same i)) ∙ here) met);
        states = λ e here. (let there = sym (ap (has_end e) (same i)) ∙ here in was.states e there ∙ ap At (sym (back.states i e (held_known names c h i known was e there) here)));
      }
    where
      same : (j : ℕ) → k.ends j ≡ h.ends j
      same j =
          elim (cases_eq j o) [
            | inl is ↦ subst (λ (n : ℕ). k.ends n ≡ h.ends n) (sym is) back.now.ends
            | inr other ↦ back.now.others j other
          ]
