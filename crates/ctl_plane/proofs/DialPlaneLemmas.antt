-- That a control plane goes on being one where a connect over tcp makes its session, and that the holder has the end.
use Rattle.std.specs.Prelude.{◌≡◌, ◌<◌, ◌≤◌, ◌+◌, ◌-◌, ◌==◌, ◌||◌, ◌++◌, ◌∷◌, [], ℕ, Bool, true, false, cond, List, All, flat_map, map, sum_by, refl}
use Rattle.std.proofs.Common.{arith, sym, ap, ◌∙◌, subst}
use Rattle.std.proofs.lemmas.List.{get_or_past, get_or_push, map-append}
use Rattle.std.proofs.lemmas.List.Elements.{All-cons, All-nil}
use Rattle.zq_base.specs.declared.endpoint.Address.{Address}
use Rattle.zq_base.specs.declared.endpoint.Endpoint.TheVariants.{Tcp}
use Rattle.zq_base.specs.declared.ids.EndId.{EndId}
use Rattle.zq_base.specs.declared.ids.ObjId.{ObjId}
use Rattle.spec_control.specs.declared.entry.Did.{Did}
use Rattle.spec_control.specs.declared.entry.Did.TheVariants.{Asked}
use Rattle.spec_control.specs.declared.entry.Item.{Item}
use Rattle.spec_control.specs.declared.entry.Joining.{Joining}
use Rattle.spec_control.specs.declared.request.Req.TheVariants.{Connect}
use Rattle.spec_control.specs.declared.request.Reply.TheVariants.{Both}
use Rattle.spec_control.specs.Held.{Held, held_as}
use Rattle.spec_control.specs.Names.{name_of}
use Rattle.spec_control.specs.Place.{At}
use Rattle.spec_control.specs.Row.{Row, nobody}
use Rattle.spec_control.specs.Rows.{PairRow, bind_waits, end_place, no_pair, obj, of_ends}
use Rattle.spec_control.specs.After.{after, session_row}
use Rattle.spec_control.specs.Control.{Control, end_of, is_end, next_object, place_of}
use Rattle.spec_control.specs.ControlRun.{Fits}
use Rattle.spec_control.proofs.NamedLemmas.{later}
use Rattle.control_laws.specs.Kept.{Kept}
use Rattle.control_laws.specs.Room.{reserved, took_from}
use Rattle.control_laws.proofs.AskLemmas.{same_end}
use Rattle.control_laws.proofs.ListLemmas.{never}
use Rattle.desk.specs.declared.given.Given.{Given}
use Rattle.desk.specs.declared.load.Load.{Load}
use Rattle.desk.specs.Holding.{Holding}
use Rattle.desk.specs.Lent.{HasAll, HasBothNames}
use Rattle.desk.specs.Load.{given_by}
use Rattle.desk.specs.Turns.{HasTurned}
use Rattle.ctl_state.specs.declared.command.Command.{Command}
use Rattle.ctl_state.specs.declared.state.State.{State}
use Rattle.ctl_state.specs.Stands.{Stands}
use Rattle.ctl_moves.specs.Listening.{with_box}
use Rattle.ctl_moves.specs.Room.{with_both}
use Rattle.ctl_moves.specs.Turning.{PutsLoaded}
use Rattle.ctl_moves.proofs.BetweenLemmas.{StayBetween, pushed_between, same_between, stay_on}
use Rattle.ctl_moves.proofs.CapacityLemmas.{capacity}
use Rattle.ctl_moves.proofs.DialingLemmas.{seats}
use Rattle.ctl_moves.proofs.FindLemmas.{loaded_capacity}
use Rattle.ctl_moves.proofs.JoinedLemmas.{has_more}
use Rattle.ctl_moves.proofs.PairLemmas.{opened_binds}
use Rattle.ctl_plane.specs.Carried.{given_in, AreCarried, BindsFit, IsCarried, IsPlane}
use Rattle.ctl_plane.specs.Coming.{ComesWith}
use Rattle.ctl_plane.specs.Hearing.{HasWhat}
use Rattle.ctl_plane.specs.Past.{Past, as_item, control_of, items_of, with_event, IsHistory}
use Rattle.ctl_plane.proofs.CarryLemmas.{carries_later}
use Rattle.ctl_plane.proofs.ComeLemmas.{event_comes}
use Rattle.ctl_plane.proofs.DeliverLemmas.{has_later, loaded_carried, loaded_given}
use Rattle.ctl_plane.proofs.DialEventLemmas.{Dialed, base, bind, dial_attached, dial_fits, dial_greeted, dial_leads, dial_names, dial_read, dial_written, dialed, has_both, objects_more, row_before}
use Rattle.ctl_plane.proofs.EventLemmas.{control_more, kept_past, one_more}
use Rattle.ctl_plane.proofs.NamedPlaneLemmas.{plane_named}
use Rattle.ctl_plane.proofs.ReapLemmas.{carried_later}
use Rattle.ctl_plane.proofs.ServedLemmas.{served_capacity, served_commands, served_many}
use Rattle.ctl_plane.proofs.ToldLemmas.{told_attached}

module _ {N O I S : Type 0} (out_name : O → N) (in_name : I → N) (s : State (Load N O I)) (p : Past (Given N O I) N S) (spare : ℕ) (socket : ObjId) (at : Address) (h : Holding N) (d : Dialed out_name in_name s p spare socket at h) where
  abbrev c : Control
  c = control_of p

  abbrev did : Did N S
  did = Asked (Connect socket (Tcp at)) (Both d.child d.pair) d.a

  abbrev first : EndId
  first = end_of d.pair.0 true

  abbrev items_then : List (Item N S)
  items_then = items_of p ++ as_item (Asked (Connect socket (Tcp at)) (Both d.child d.pair) d.a) ∷ []

  abbrev before : Control
  before = base out_name in_name s p spare socket at h d

  abbrev now : Control
  now = dialed out_name in_name s p spare socket at h d

  leads : after (Asked (Connect socket (Tcp at)) (Both d.child d.pair) d.a) (control_of p) ≡ now
  leads = dial_leads out_name in_name s p spare socket at h d

  fits_it : Fits (control_of p) (Asked (Connect socket (Tcp at)) (Both d.child d.pair) d.a)
  fits_it = dial_fits out_name in_name s p spare socket at h d

  stands_it : Stands d.t (after (Asked (Connect socket (Tcp at)) (Both d.child d.pair) d.a) (control_of p))
  stands_it = subst (λ (x : Control). Stands d.t x) (sym leads) d.dials.stands

  puts_it : PutsLoaded out_name in_name (name_of (items_of p ++ as_item (Asked (Connect socket (Tcp at)) (Both d.child d.pair) d.a) ∷ [])) (with_box (with_both 5 4 d.o s)).boxes d.t.boxes
  puts_it = d.dials.puts (name_of items_then) (dial_read out_name in_name s p spare socket at h d) (dial_written out_name in_name s p spare socket at h d)

  there : d.o.first.0 < next_object (control_of p)
  there = subst (λ (x : Control). d.o.first.0 < next_object x) d.same_control d.may.takes.there

  -- ---- room
  slot_mine : (obj (after (Asked (Connect socket (Tcp at)) (Both d.child d.pair) d.a) (control_of p)).rows socket.0).slot ≡ d.o.first_slot.0
  slot_mine =
      ap (λ (rows : List Row). (obj (record { objects = rows; pairs = [] }) socket.0).slot) (objects_more out_name in_name s p spare socket at h d)
      ∙ ap (λ (r : Row). r.slot) (row_before out_name in_name s p spare socket at h d socket.0 (subst (λ (x : ObjId). x.0 < next_object c) d.are.first there)) ∙ d.are.first_slot

  slot_theirs : (obj (after (Asked (Connect socket (Tcp at)) (Both d.child d.pair) d.a) (control_of p)).rows (next_object (control_of p))).slot ≡ d.o.last_slot.0
  slot_theirs =
      ap (λ (rows : List Row). (obj (record { objects = rows; pairs = [] }) (next_object c)).slot) (objects_more out_name in_name s p spare socket at h d)
      ∙ ap (λ (r : Row). r.slot) (get_or_push c.rows.objects (session_row d.o.first.0 c) nobody (next_object c) refl) ∙ d.are.last_slot

  room : (m : ℕ) → capacity s.boxes m + reserved (control_of p) (Asked (Connect socket (Tcp at)) (Both d.child d.pair) d.a) m ≤ capacity d.t.boxes m + took_from (Asked (Connect socket (Tcp at)) (Both d.child d.pair) d.a) m
  room m =
      let kept_free = served_capacity s d.o 5 4 (seats s h d.o d.may) m in
      let put = loaded_capacity out_name in_name (name_of items_then) (with_box (with_both 5 4 d.o s)).boxes d.t.boxes puts_it m in
      let made_row = ap {B = ℕ} (λ (n : ℕ). cond (n == m) 1 0) d.are.last_slot in
      let mine_two = ap {B = ℕ} (λ (n : ℕ). cond (n == m) 2 0) slot_mine in
      let mine_one = ap {B = ℕ} (λ (n : ℕ). cond (n == m) 1 0) slot_mine in
      let their_two = ap {B = ℕ} (λ (n : ℕ). cond (n == m) 2 0) slot_theirs in
      let their_one = ap {B = ℕ} (λ (n : ℕ). cond (n == m) 1 0) slot_theirs in
      let five = to_five (d.o.first_slot.0 == m) in
      let four = to_four (d.o.last_slot.0 == m) in
      omega (arith, kept_free, put, made_row, mine_two, mine_one, their_two, their_one, five, four)
    where
      to_five : (b : Bool) → ◌≡◌ {A = ℕ} (cond b 2 0 + cond b 2 0 + cond b 1 0) (cond b 5 0)
      to_five true = refl
      to_five false = refl

      to_four : (b : Bool) → ◌≡◌ {A = ℕ} (cond b 1 0 + cond b 2 0 + cond b 1 0) (cond b 4 0)
      to_four true = refl
      to_four false = refl

  history_dialed : IsHistory d.t (with_event (Asked (Connect socket (Tcp at)) (Both d.child d.pair) d.a) p) (spare + 17 - 1)
  history_dialed = one_more s d.t p did spare (spare + 17 - 1) d.plane.history (record {
    fits = fits_it;
    stands = stands_it;
    room = room;
    entries = omega arith;
    objects = (has_both c socket at d.free).object;
    pairs = (has_both c socket at d.free).pair;
    boxes = (let many = served_many s d.o 5 4 (seats s h d.o d.may) in let put = puts_it.many in omega (arith, many, put));
  })

  -- ---- what is carried
  carried : AreCarried out_name in_name (items_of p ++ as_item (Asked (Connect socket (Tcp at)) (Both d.child d.pair) d.a) ∷ []) (after (Asked (Connect socket (Tcp at)) (Both d.child d.pair) d.a) (control_of p)) d.t.boxes
  carried =
      carried_later out_name in_name items_then c did d.t (kept_past p d.plane.history.run) (subst Kept (control_more p did) (kept_past (with_event did p) history_dialed.run)) d.plane.history.stands.lists.known fits_it stands_it
      (loaded_carried out_name in_name items_then c (with_box (with_both 5 4 d.o s)).boxes d.t.boxes puts_it roomier)
    where
      named_then : AreCarried out_name in_name (items_of p ++ as_item (Asked (Connect socket (Tcp at)) (Both d.child d.pair) d.a) ∷ []) (control_of p) s.boxes
      named_then m = λ j x lt.
          (let one = d.plane.carried m j x lt in record {
            carries = carries_later out_name in_name (name_of (items_of p)) (name_of items_then) (later (items_of p) (as_item did ∷ [])) _ _ one.carries;
            reaps = one.reaps;
          })

      roomier : AreCarried out_name in_name (items_of p ++ as_item (Asked (Connect socket (Tcp at)) (Both d.child d.pair) d.a) ∷ []) (control_of p) (with_box (with_both 5 4 d.o s)).boxes
      roomier m = subst (λ (xs : List (Command (Load N O I))). All (IsCarried out_name in_name items_then c) xs) (sym (served_commands s d.o 5 4 (seats s h d.o d.may) m)) (named_then m)

  -- ---- what is on its way
  binds : BindsFit (after (Asked (Connect socket (Tcp at)) (Both d.child d.pair) d.a) (control_of p)) d.t.objects.lists
  binds i =
      let same = ap (λ (x : Control). sum_by (of_ends bind_waits i) x.rows.pairs) leads in
      let less = (dial_greeted out_name in_name s p spare socket at h d).binds i in
      let one = opened_binds before d.o.first.0 d.child.0 first d.dials.number (bind out_name in_name s p spare socket at h d) i in
      let were = d.plane.binds i in
      let fit = d.dials.places i in
      omega (arith, same, less, one, were, fit)

  pub plane_dialed : IsPlane out_name in_name d.t (with_event (Asked (Connect socket (Tcp at)) (Both d.child d.pair) d.a) p) (spare + 17 - 1)
  plane_dialed = plane_named out_name in_name s d.t p did spare (spare + 17 - 1) d.plane history_dialed (dial_names out_name in_name s p spare socket at h d) carried binds

  pub given_dialed : given_in d.t.boxes ≡ given_in s.boxes
  given_dialed =
      loaded_given out_name in_name (name_of items_then) (with_box (with_both 5 4 d.o s)).boxes d.t.boxes puts_it
      ∙ ap (λ (xs : List (Command (Load N O I))). flat_map (λ (x : Command (Load N O I)). given_by x.load) xs) (served_commands s d.o 5 4 (seats s h d.o d.may) 0)

  -- ---- the holder
  abbrev held : Held N
  held = record { end = end_of d.pair.0 true; written = d.dials.told.written; read = d.dials.told.read }

  pub keeps_dialed : HasWhat p h → HasWhat (with_event (Asked (Connect socket (Tcp at)) (Both d.child d.pair) d.a) p) d.k
  keeps_dialed has =
      subst (λ (x : Control). HasAll (name_of (items_of (with_event did p))) x d.k) (sym (control_more p did))
      (subst (λ (items : List (Item N S)). HasAll (name_of items) (after did c) d.k) (sym (map-append as_item p.events (did ∷ [])))
      (subst (λ (x : Control). HasAll (name_of items_then) x d.k) (sym leads)
      (has_more before now d.o.first.0 (first ∷ []) (dial_attached out_name in_name s p spare socket at h d) d.plane.history.stands.lists.known
      (name_of items_then) (held ∷ []) h d.k d.dials.gets refl (All-cons (HasBothNames (name_of items_then)) held [] both (All-nil (HasBothNames (name_of items_then))))
      (λ e here. stated e (is_end e first) refl here)
      (has_later (name_of (items_of p)) (name_of items_then) (later (items_of p) (as_item did ∷ [])) c h has))))
    where
      stated : (e : EndId) (b : Bool) → is_end e (end_of d.pair.0 true) ≡ b → (b || false) ≡ true → place_of now e ≡ At (d.k.state e)
      stated e true same here = subst (λ (x : EndId). place_of now x ≡ At (d.k.state x)) (sym (same_end e (end_of d.pair.0 true) same)) d.dials.mine
      stated e false same here = absurd (never here)

      both : HasBothNames (name_of (items_of p ++ as_item (Asked (Connect socket (Tcp at)) (Both d.child d.pair) d.a) ∷ [])) held
      both = record { written = dial_written out_name in_name s p spare socket at h d; read = dial_read out_name in_name s p spare socket at h d }

  -- and was told of its end
  pub told_dialed : HasTurned (control_of p) (control_of (with_event (Asked (Connect socket (Tcp at)) (Both d.child d.pair) d.a) p)) h d.k
  told_dialed =
      subst (λ (x : Control). HasTurned (control_of p) x h d.k) (sym (control_more p did))
      (subst (λ (x : Control). HasTurned (control_of p) x h d.k) (sym leads)
      (told_attached before now d.o.first.0 first h d.k (dial_attached out_name in_name s p spare socket at h d) d.plane.history.stands.lists.known
      (ap (λ (r : PairRow). end_place r true) (get_or_past c.rows.pairs d.pair.0 no_pair (let number = d.dials.number in omega (arith, number)))) d.dials.turned))

  pub ends_dialed : d.k.ends socket.0 ≡ h.ends socket.0 ++ map held_as d.a.joined
  ends_dialed =
      ap (λ (x : ObjId). d.k.ends x.0) (sym d.are.first) ∙ d.dials.gets.ends ∙ ap (λ (x : ObjId). h.ends x.0 ++ held ∷ []) d.are.first
      ∙ ap (λ (js : List (Joining N)). h.ends socket.0 ++ map held_as js) (sym (d.noted.joined ∙ d.dials.joined))

  -- the end joined, and the holder's objects are what they were
  pub comes_dialed : ComesWith p (with_event (Asked (Connect socket (Tcp at)) (Both d.child d.pair) d.a) p) h d.k
  comes_dialed =
      event_comes p did h d.k (d.dials.came ∙ ap (λ (js : List (Joining N)). h.joined ++ js) (sym d.noted.joined)) d.dials.gets.objects d.dials.gets.kinds
      still (λ b n. refl) d.dials.heard
    where
      still : StayBetween (control_of p).rows (after (Asked (Connect socket (Tcp at)) (Both d.child d.pair) d.a) (control_of p)).rows
      still =
          stay_on c.rows (record c.rows { objects = c.rows.objects ++ session_row d.o.first.0 c ∷ [] }) (after did c).rows (pushed_between c.rows (session_row d.o.first.0 c))
          (same_between (record c.rows { objects = c.rows.objects ++ session_row d.o.first.0 c ∷ [] }) (after did c).rows (objects_more out_name in_name s p spare socket at h d))
