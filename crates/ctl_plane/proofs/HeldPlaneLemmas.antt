-- That a connect to the holder of a name leaves a control plane, with a holder that has what the events say.
use Rattle.std.specs.Prelude.{◌≡◌, ◌<◌, ◌≤◌, ◌+◌, ◌-◌, ◌*◌, ◌==◌, ◌||◌, ◌++◌, ◌∷◌, [], ℕ, Bool, true, false, cond, List, Option, Some, None, All, flat_map, is_some, length, map, slice_index_or, sum_by, refl}
use Rattle.std.proofs.Common.{arith, sym, ap, ◌∙◌, subst}
use Rattle.std.proofs.lemmas.List.{get_or_past, length-set, map-append}
use Rattle.std.proofs.lemmas.List.Elements.{All-cons, All-nil}
use Rattle.mailbox.specs.Mail.{Mail, no_mail, with_spare}
use Rattle.zq_base.specs.declared.endpoint.Endpoint.{Endpoint}
use Rattle.zq_base.specs.declared.endpoint.Endpoint.TheVariants.{Inproc}
use Rattle.zq_base.specs.declared.ids.EndId.{EndId}
use Rattle.zq_base.specs.declared.ids.ObjId.{ObjId}
use Rattle.zq_base.specs.declared.ids.PairId.{PairId}
use Rattle.spec_control.specs.declared.book.Binding.{Binding}
use Rattle.spec_control.specs.declared.entry.Answered.{Answered}
use Rattle.spec_control.specs.declared.entry.Did.{Did}
use Rattle.spec_control.specs.declared.entry.Did.TheVariants.{Asked}
use Rattle.spec_control.specs.declared.entry.Item.{Item}
use Rattle.spec_control.specs.declared.entry.Joining.{Joining}
use Rattle.spec_control.specs.declared.letter.Word.TheVariants.{PipeBind}
use Rattle.spec_control.specs.declared.request.Req.TheVariants.{Connect}
use Rattle.spec_control.specs.declared.request.Reply.TheVariants.{Pair}
use Rattle.spec_control.specs.Hold.{Joined as IsJoined}
use Rattle.spec_control.specs.Names.{name_of}
use Rattle.spec_control.specs.Place.{At}
use Rattle.spec_control.specs.Row.{Row, nobody}
use Rattle.spec_control.specs.Rows.{PairRow, no_pair, end_place, obj, of_ends, bind_waits}
use Rattle.spec_control.specs.After.{after, with_hold}
use Rattle.spec_control.specs.Control.{Control, end_of, is_end, place_of}
use Rattle.spec_control.specs.ControlRun.{Fits}
use Rattle.spec_control.specs.Reply.{reply_of}
use Rattle.control_laws.specs.Room.{move_room, reserved, slots_of, took_from}
use Rattle.spec_control.specs.Held.{Held, held_as}
use Rattle.control_laws.specs.Kept.{Kept}
use Rattle.control_laws.proofs.AskLemmas.{same_end}
use Rattle.control_laws.proofs.ListLemmas.{never}
use Rattle.spec_control.proofs.NamedLemmas.{later}
use Rattle.control_laws.specs.OwnMoves.{connect_moves}
use Rattle.desk.specs.Holding.{Holding}
use Rattle.desk.specs.Turns.{HasTurned}
use Rattle.desk.specs.Lent.{HasAll, HasBothNames}
use Rattle.desk.specs.declared.given.Given.{Given}
use Rattle.desk.specs.declared.load.Load.{Load}
use Rattle.desk.specs.Load.{given_by}
use Rattle.ctl_moves.specs.Turning.{PutsLoaded}
use Rattle.ctl_state.specs.declared.command.Command.{Command}
use Rattle.ctl_state.specs.declared.state.State.{State}
use Rattle.ctl_state.specs.Boxes.{mail_at}
use Rattle.ctl_state.specs.Stands.{Stands}
use Rattle.ctl_state.proofs.ReadLemmas.{read_kept}
use Rattle.ctl_moves.specs.declared.notes.Notes.{Notes}
use Rattle.ctl_moves.specs.declared.owners.Owners.{Owners}
use Rattle.ctl_moves.specs.Connecting.{connected_now, Connects, MayConnect}
use Rattle.ctl_moves.specs.Room.{AreOwners, HavePlaces, with_commands, with_more}
use Rattle.ctl_moves.proofs.JoinedLemmas.{has_more}
use Rattle.ctl_moves.proofs.PairLemmas.{opened_binds}
use Rattle.ctl_plane.specs.Carried.{given_in, AreCarried, BindsFit, IsCarried, IsPlane}
use Rattle.ctl_plane.specs.Hearing.{HasWhat}
use Rattle.ctl_plane.specs.Joining.{IsNoted, Lends}
use Rattle.ctl_plane.specs.Past.{Past, as_item, control_of, items_of, with_event, IsHistory}
use Rattle.ctl_moves.specs.Refusals.{refusal_in}
use Rattle.ctl_moves.proofs.CapacityLemmas.{capacity, set_capacity}
use Rattle.ctl_plane.proofs.CarryLemmas.{carries_later}
use Rattle.ctl_plane.proofs.DeliverLemmas.{has_later, loaded_carried, loaded_given}
use Rattle.ctl_moves.proofs.FindLemmas.{loaded_capacity}
use Rattle.ctl_plane.proofs.EventLemmas.{control_more, kept_past, one_more, objects_made, pairs_drawn}
use Rattle.ctl_plane.proofs.HeldEventLemmas.{event_fits, leads_to, names_fit, names_read, names_written, objects_stay, pair_attached, was_greeted}
use Rattle.ctl_plane.proofs.JoinHeldLemmas.{held_reply, one_pair}
use Rattle.ctl_plane.proofs.NamedPlaneLemmas.{plane_named}
use Rattle.ctl_plane.proofs.ReapLemmas.{carried_later}
use Rattle.ctl_plane.proofs.ToldLemmas.{told_attached}

module _ {L : Type 0} (s : State L) (o : Owners) (places : HavePlaces s o) where
  -- a pair's room, in each mailbox
  pub room_capacity : (m : ℕ) → capacity (with_commands o s).boxes m ≡ capacity s.boxes m + cond (o.first_slot.0 == m) 2 0 + cond (o.last_slot.0 == m) 3 0
  room_capacity m =
      let first = set_capacity s.boxes o.first_slot.0 2 first_mail places.first_box (omega arith) m in
      let last = set_capacity (with_more o.first_slot.0 2 s).boxes o.last_slot.0 3 last_mail (subst (λ (n : ℕ). o.last_slot.0 < n) (sym (length-set s.boxes o.first_slot.0 first_mail)) places.last_box) (omega arith) m in
      omega (arith, first, last)
    where
      first_mail : Mail (Command L)
      first_mail = with_spare ((mail_at s.boxes o.first_slot.0).spare + 2) (mail_at s.boxes o.first_slot.0)

      last_mail : Mail (Command L)
      last_mail = with_spare ((mail_at (with_more o.first_slot.0 2 s).boxes o.last_slot.0).spare + 3) (mail_at (with_more o.first_slot.0 2 s).boxes o.last_slot.0)

  -- the mailboxes have what they had
  pub room_commands : (m : ℕ) → (mail_at (with_commands o s).boxes m).commands ≡ (mail_at s.boxes m).commands
  room_commands m =
      read_kept (λ (x : Mail (Command L)). x.commands) (with_more o.first_slot.0 2 s).boxes o.last_slot.0 m _ no_mail refl
      ∙ read_kept (λ (x : Mail (Command L)). x.commands) s.boxes o.first_slot.0 m _ no_mail refl

  pub room_many : length (with_commands o s).boxes ≡ length s.boxes
  room_many = length-set (with_more o.first_slot.0 2 s).boxes o.last_slot.0 _ ∙ length-set s.boxes o.first_slot.0 _

module _ {N O I S : Type 0} (out_name : O → N) (in_name : I → N) (s : State (Load N O I)) (p : Past (Given N O I) N S) (spare : ℕ) (o : ObjId) (name : List ℕ) (binding : Binding) (plane : IsPlane out_name in_name s p spare) (h : Holding N)
    (lends : Lends (control_of p) o.0 h) (held : (control_of p).names.held (Inproc name) ≡ Some binding) (free : refusal_in (reply_of (control_of p) (Connect o (Inproc name))) ≡ None)
    (owners : Owners) (are : AreOwners (control_of p) o binding.holder owners) (wakers : ℕ) (w : MayConnect s h owners wakers) (same_control : w.control ≡ control_of p)
    (at : Endpoint) (at_is : at ≡ Inproc name) (pair : PairId) (notes : Notes N) (t : State (Load N O I)) (k : Holding N) (connected : Connects out_name in_name (control_of p) owners at pair notes s t h k) (a : Answered N S) (noted : IsNoted notes a) where
  abbrev c : Control
  c = control_of p

  abbrev did : Did N S
  did = Asked (Connect o (Inproc name)) (Pair pair) a

  abbrev items_then : List (Item N S)
  items_then = items_of p ++ as_item did ∷ []

  abbrev now : Control
  now = connected_now c owners at pair.0 connected.answer

  leads : after (Asked (Connect o (Inproc name)) (Pair pair) a) (control_of p) ≡ connected_now (control_of p) owners at pair.0 connected.answer
  leads = leads_to out_name in_name s p spare o name binding plane h lends held free owners are wakers w same_control at at_is pair notes t k connected a noted

  fits_it : Fits (control_of p) (Asked (Connect o (Inproc name)) (Pair pair) a)
  fits_it = event_fits out_name in_name s p spare o name binding plane h lends held free owners are wakers w same_control at at_is pair notes t k connected a noted

  stands_it : Stands t (after (Asked (Connect o (Inproc name)) (Pair pair) a) (control_of p))
  stands_it = subst (λ (d : Control). Stands t d) (sym leads) connected.stands

  puts_it : PutsLoaded out_name in_name (name_of (items_of p ++ as_item (Asked (Connect o (Inproc name)) (Pair pair) a) ∷ [])) (with_commands owners s).boxes t.boxes
  puts_it =
      connected.puts (name_of items_then)
      (names_read out_name in_name s p spare o name binding plane h lends held free owners are wakers w same_control at at_is pair notes t k connected a noted)
      (names_written out_name in_name s p spare o name binding plane h lends held free owners are wakers w same_control at at_is pair notes t k connected a noted)

  -- ---- room
  room : (m : ℕ) → capacity s.boxes m + reserved (control_of p) (Asked (Connect o (Inproc name)) (Pair pair) a) m ≤ capacity t.boxes m + took_from (Asked (Connect o (Inproc name)) (Pair pair) a) m
  room m =
      let kept_free = room_capacity s owners w.places m in
      let put = loaded_capacity out_name in_name (name_of items_then) (with_commands owners s).boxes t.boxes puts_it m in
      let asked = ap (λ (x : Option Binding). sum_by (move_room (slots_of (after did c).rows) m) (connect_moves c o.0 x)) held in
      let mine = ap {B = ℕ} (λ (n : ℕ). cond (n == m) 2 0) (slot_of_row o.0 ∙ are.first_slot) in
      let theirs = ap {B = ℕ} (λ (n : ℕ). cond (n == m) 2 0) (slot_of_row binding.holder.0 ∙ are.last_slot) in
      let bind = ap {B = ℕ} (λ (n : ℕ). cond (n == m) 1 0) (slot_of_row binding.holder.0 ∙ are.last_slot) in
      let three = two_one (owners.last_slot.0 == m) in
      omega (arith, kept_free, put, asked, mine, theirs, bind, three)
    where
      slot_of_row : (i : ℕ) → (obj (after (Asked (Connect o (Inproc name)) (Pair pair) a) (control_of p)).rows i).slot ≡ (obj (control_of p).rows i).slot
      slot_of_row i =
          ap (λ (rows : List Row). (slice_index_or rows i nobody).slot)
          (objects_stay out_name in_name s p spare o name binding plane h lends held free owners are wakers w same_control at at_is pair notes t k connected a noted)

      two_one : (b : Bool) → ◌≡◌ {A = ℕ} (cond b 2 0 + cond b 1 0) (cond b 3 0)
      two_one true = refl
      two_one false = refl

  pub history_held : IsHistory t (with_event (Asked (Connect o (Inproc name)) (Pair pair) a) p) (spare + 9 - 1)
  history_held = one_more s t p did spare (spare + 9 - 1) plane.history (record {
    fits = fits_it;
    stands = stands_it;
    room = room;
    entries = (let eight = ap (λ (x : Option Binding). 1 * cond (is_some x) 8 0) held in omega (arith, eight));
    objects = (let none = ap (λ (x : Option Binding). sum_by objects_made (connect_moves c o.0 x)) held in let few = plane.history.objects in omega (arith, none, few));
    pairs = (let one = ap (λ (x : Option Binding). sum_by pairs_drawn (connect_moves c o.0 x)) held in let few = one_pair c o name binding held free in omega (arith, one, few));
    boxes = (let many = room_many s owners w.places in let put = puts_it.many in let none = ap (λ (x : Option Binding). sum_by objects_made (connect_moves c o.0 x)) held in omega (arith, many, put, none));
  })

  -- ---- what is carried
  carried : AreCarried out_name in_name (items_of p ++ as_item (Asked (Connect o (Inproc name)) (Pair pair) a) ∷ []) (after (Asked (Connect o (Inproc name)) (Pair pair) a) (control_of p)) t.boxes
  carried =
      carried_later out_name in_name items_then c did t (kept_past p plane.history.run) (subst Kept (control_more p did) (kept_past (with_event did p) history_held.run)) plane.history.stands.lists.known fits_it stands_it
      (loaded_carried out_name in_name items_then c (with_commands owners s).boxes t.boxes puts_it roomier)
    where
      named_then : AreCarried out_name in_name (items_of p ++ as_item (Asked (Connect o (Inproc name)) (Pair pair) a) ∷ []) (control_of p) s.boxes
      named_then m = λ j x lt.
          (let one = plane.carried m j x lt in record {
            carries = carries_later out_name in_name (name_of (items_of p)) (name_of items_then) (later (items_of p) (as_item did ∷ [])) _ _ one.carries;
            reaps = one.reaps;
          })

      roomier : AreCarried out_name in_name (items_of p ++ as_item (Asked (Connect o (Inproc name)) (Pair pair) a) ∷ []) (control_of p) (with_commands owners s).boxes
      roomier m = subst (λ (xs : List (Command (Load N O I))). All (IsCarried out_name in_name items_then c) xs) (sym (room_commands s owners w.places m)) (named_then m)

  -- ---- what is on its way
  binds : BindsFit (after (Asked (Connect o (Inproc name)) (Pair pair) a) (control_of p)) t.objects.lists
  binds i =
      let same = ap (λ (d : Control). sum_by (of_ends bind_waits i) d.rows.pairs) leads in
      let less = (was_greeted out_name in_name s p spare o name binding plane h lends held free owners are wakers w same_control at at_is pair notes t k connected a noted).binds i in
      let one = opened_binds (with_hold owners.first.0 (IsJoined at pair.0 None) c) owners.first.0 owners.last.0 (end_of pair.0 true) connected.number (PipeBind (end_of pair.0 false) (obj c.rows owners.first.0).options.id) i in
      let were = plane.binds i in
      let fit = connected.places i in
      omega (arith, same, less, one, were, fit)

  pub plane_held : IsPlane out_name in_name t (with_event (Asked (Connect o (Inproc name)) (Pair pair) a) p) (spare + 9 - 1)
  plane_held =
      plane_named out_name in_name s t p did spare (spare + 9 - 1) plane history_held
      (names_fit out_name in_name s p spare o name binding plane h lends held free owners are wakers w same_control at at_is pair notes t k connected a noted)
      carried binds

  -- ---- what is answered
  pub reply_held : Pair pair ≡ reply_of (control_of p) (Connect o (Inproc name))
  reply_held = ap (λ (n : ℕ). Pair (record { 0 = n })) connected.number ∙ sym (held_reply (control_of p) o name binding held free)

  pub given_held : given_in t.boxes ≡ given_in s.boxes
  given_held =
      loaded_given out_name in_name (name_of items_then) (with_commands owners s).boxes t.boxes puts_it
      ∙ ap (λ (xs : List (Command (Load N O I))). flat_map (λ (x : Command (Load N O I)). given_by x.load) xs) (room_commands s owners w.places 0)

  -- ---- the holder
  pub keeps_held : HasWhat p h → HasWhat (with_event (Asked (Connect o (Inproc name)) (Pair pair) a) p) k
  keeps_held has =
      subst (λ (d : Control). HasAll (name_of (items_of (with_event did p))) d k) (sym (control_more p did))
      (subst (λ (items : List (Item N S)). HasAll (name_of items) (after did c) k) (sym (map-append as_item p.events (did ∷ [])))
      (subst (λ (d : Control). HasAll (name_of items_then) d k) (sym leads)
      (has_more (with_hold owners.first.0 (IsJoined at pair.0 None) c) now owners.first.0 (end_of pair.0 true ∷ [])
      (pair_attached out_name in_name s p spare o name binding plane h lends held free owners are wakers w same_control at at_is pair notes t k connected a noted) plane.history.stands.lists.known
      (name_of items_then) (mine ∷ []) h k connected.gets refl (All-cons (HasBothNames (name_of items_then)) mine [] both (All-nil (HasBothNames (name_of items_then))))
      (λ e here. stated e (is_end e (end_of pair.0 true)) refl here)
      (has_later (name_of (items_of p)) (name_of items_then) (later (items_of p) (as_item did ∷ [])) c h has))))
    where
      mine : Held N
      mine = record { end = end_of pair.0 true; written = connected.told.written; read = connected.told.read }

      stated : (e : EndId) (b : Bool) → is_end e (end_of pair.0 true) ≡ b → (b || false) ≡ true → place_of (connected_now (control_of p) owners at pair.0 connected.answer) e ≡ At (k.state e)
      stated e true same here = subst (λ (d : EndId). place_of (connected_now (control_of p) owners at pair.0 connected.answer) d ≡ At (k.state d)) (sym (same_end e (end_of pair.0 true) same)) connected.mine
      stated e false same here = absurd (never here)

      both : HasBothNames (name_of (items_of p ++ as_item (Asked (Connect o (Inproc name)) (Pair pair) a) ∷ [])) mine
      both = record {
        written = names_written out_name in_name s p spare o name binding plane h lends held free owners are wakers w same_control at at_is pair notes t k connected a noted;
        read = names_read out_name in_name s p spare o name binding plane h lends held free owners are wakers w same_control at at_is pair notes t k connected a noted;
      }

  -- and was told of its end
  pub told_held : HasTurned (control_of p) (control_of (with_event (Asked (Connect o (Inproc name)) (Pair pair) a) p)) h k
  told_held =
      subst (λ (d : Control). HasTurned (control_of p) d h k) (sym (control_more p did))
      (subst (λ (d : Control). HasTurned (control_of p) d h k) (sym leads)
      (told_attached (with_hold owners.first.0 (IsJoined at pair.0 None) c) now owners.first.0 (end_of pair.0 true) h k
      (pair_attached out_name in_name s p spare o name binding plane h lends held free owners are wakers w same_control at at_is pair notes t k connected a noted) plane.history.stands.lists.known
      (ap (λ (r : PairRow). end_place r true) (get_or_past c.rows.pairs pair.0 no_pair (let number = connected.number in omega (arith, number)))) connected.turned))

  pub ends_held : k.ends o.0 ≡ h.ends o.0 ++ map held_as a.joined
  ends_held =
      ap (λ (x : ObjId). k.ends x.0) (sym are.first) ∙ connected.gets.ends ∙ ap (λ (x : ObjId). h.ends x.0 ++ mine ∷ []) are.first
      ∙ ap (λ (js : List (Joining N)). h.ends o.0 ++ map held_as js) (sym (noted.joined ∙ connected.joined))
    where
      mine : Held N
      mine = record { end = end_of pair.0 true; written = connected.told.written; read = connected.told.read }
