-- That a bind over tcp adds its event.
use Rattle.std.specs.Prelude.{◌≡◌, ◌≤◌, ◌+◌, ◌-◌, ◌==◌, ◌∷◌, [], ℕ, Bool, true, false, not, cond, List, Option, Some, None, All, flat_map, is_some, refl}
use Rattle.std.proofs.Common.{arith, sym, ap, ◌∙◌, subst}
use Rattle.std.proofs.lemmas.Bool.Decides.{Decides-ltb}
use Rattle.std.proofs.lemmas.List.{get_or_append_left, get_or_push}
use Rattle.zq_base.specs.declared.endpoint.Address.{Address}
use Rattle.zq_base.specs.declared.endpoint.Endpoint.TheVariants.{Tcp}
use Rattle.zq_base.specs.declared.ids.ObjId.{ObjId}
use Rattle.spec_control.specs.declared.book.Binding.{Binding}
use Rattle.spec_control.specs.declared.entry.Answered.{Answered}
use Rattle.spec_control.specs.declared.entry.Did.{Did}
use Rattle.spec_control.specs.declared.entry.Did.TheVariants.{Asked}
use Rattle.spec_control.specs.declared.request.Req.TheVariants.{Bind}
use Rattle.spec_control.specs.declared.request.Refusal.TheVariants.{InUse, TooMany}
use Rattle.spec_control.specs.declared.request.Reply.{Reply}
use Rattle.spec_control.specs.declared.request.Reply.TheVariants.{Object}
use Rattle.spec_control.specs.Names.{name_of}
use Rattle.spec_control.specs.Row.{Row, nobody}
use Rattle.spec_control.specs.Rows.{obj}
use Rattle.spec_control.specs.Control.{Control, id, next_object}
use Rattle.spec_control.specs.ControlRun.{IsOpenSocket}
use Rattle.spec_control.specs.After.{after, answers_in, binds, listener_row}
use Rattle.spec_control.specs.Reply.{bind_reply, has_object, most_objects, reply_of, unless}
use Rattle.control_laws.specs.Room.{reserved, took_from}
use Rattle.control_laws.proofs.ListLemmas.{never}
use Rattle.desk.specs.declared.given.Given.{Given}
use Rattle.desk.specs.declared.load.Load.{Load}
use Rattle.desk.specs.Load.{given_by}
use Rattle.ctl_state.specs.declared.command.Command.{Command}
use Rattle.ctl_state.specs.declared.state.State.{State}
use Rattle.ctl_state.specs.Needs.{AreMet}
use Rattle.ctl_state.specs.Stands.{Stands}
use Rattle.ctl_moves.specs.declared.owners.Owners.{Owners}
use Rattle.ctl_moves.specs.Listening.{Listens, MayListen, TakesServed, with_box}
use Rattle.ctl_moves.specs.Processing.{IsSilent}
use Rattle.ctl_moves.specs.Refusals.{refusal_in}
use Rattle.ctl_moves.specs.Room.{with_both}
use Rattle.ctl_moves.specs.Serving.{AreServed, HasWorkers}
use Rattle.ctl_moves.specs.Turning.{PutsLoaded}
use Rattle.ctl_moves.proofs.CapacityLemmas.{capacity}
use Rattle.ctl_moves.proofs.FindLemmas.{loaded_capacity}
use Rattle.ctl_moves.proofs.ListeningLemmas.{seats}
use Rattle.ctl_plane.specs.Carried.{given_in, AreCarried, IsCarried, IsPlane}
use Rattle.ctl_plane.specs.Past.{Past, control_of, items_of, with_event, IsHistory}
use Rattle.ctl_plane.proofs.DeliverLemmas.{loaded_carried, loaded_given}
use Rattle.ctl_plane.proofs.EventLemmas.{one_more}
use Rattle.ctl_plane.proofs.PlaneLemmas.{one_plane, tells_no_names}
use Rattle.ctl_plane.proofs.RefusalLemmas.{is_behind, passed}
use Rattle.ctl_plane.proofs.ServedLemmas.{served_capacity, served_commands, served_many, takes_served}
use Rattle.ctl_plane.proofs.SilentLemmas.{silent_answered}

-- ---- the answer
module _ (c : Control) (socket : ObjId) (at : Address) (free : refusal_in (reply_of c (Bind socket (Tcp at))) ≡ None) where
  abbrev made : Reply
  made = Object (id (next_object c))

  abbrev in_use : Bool
  in_use = is_some (c.names.held (Tcp at))

  abbrev too_many : Bool
  too_many = not (has_object c)

  behind : reply_of c (Bind socket (Tcp at)) ≡ bind_reply socket.0 (Tcp at) c
  behind = is_behind c (bind_reply socket.0 (Tcp at) c) free

  unused : is_some (c.names.held (Tcp at)) ≡ false
  unused = passed in_use InUse (unless too_many TooMany made) (sym (ap refusal_in behind) ∙ free)

  few : not (has_object c) ≡ false
  few = passed too_many TooMany made (sym (ap (λ (b : Bool). refusal_in (unless b InUse (unless too_many TooMany made))) unused) ∙ sym (ap refusal_in behind) ∙ free)

  pub listened_reply : reply_of c (Bind socket (Tcp at)) ≡ Object (id (next_object c))
  listened_reply = behind ∙ ap (λ (b : Bool). unless b InUse (unless too_many TooMany made)) unused ∙ ap (λ (b : Bool). unless b TooMany made) few

  pub nobody_holds : c.names.held (Tcp at) ≡ None
  nobody_holds = by (c.names.held (Tcp at)) unused
    where
      by : (x : Option Binding) → is_some x ≡ false → x ≡ None
      by None is = refl
      by (Some binding) is = absurd (never (sym is))

  pub one_object : next_object c + 1 ≤ most_objects
  one_object = by (has_object c) refl few
    where
      by : (b : Bool) → has_object c ≡ b → not b ≡ false → next_object c + 1 ≤ most_objects
      by true is e = let less = (Decides-ltb (next_object c) most_objects).0 is in omega (arith, less)
      by false is e = absurd (never (sym e))

module _ {N O I S : Type 0} (out_name : O → N) (in_name : I → N) (s : State (Load N O I)) (p : Past (Given N O I) N S) (spare : ℕ) (plane : IsPlane out_name in_name s p spare) (socket : ObjId) (at : Address)
    (is_open : IsOpenSocket (obj (control_of p).rows socket.0)) (workers : HasWorkers (control_of p)) (free : refusal_in (reply_of (control_of p) (Bind socket (Tcp at))) ≡ None) (o : Owners) (are : AreServed (control_of p) socket o) (met : AreMet s (control_of p)) where
  -- what the making of the listener needs
  abbrev pub may_listen : MayListen s o at
  may_listen = record {
    control = control_of p;
    stands = plane.history.stands;
    served = subst (λ (x : ObjId). AreServed (control_of p) x o) (sym are.first) are;
    takes = subst (λ (x : ObjId). TakesServed s (control_of p) x) (sym are.first) (takes_served s p spare plane.history socket is_open met workers);
    free = nobody_holds (control_of p) socket at free;
  }

  module _ (t : State (Load N O I)) (child : ObjId) (listens : Listens (control_of p) o at child s t) (a : Answered N S) (silent : IsSilent a) where
    abbrev c : Control
    c = control_of p

    abbrev did : Did N S
    did = Asked (Bind socket (Tcp at)) (Object child) a

    abbrev row : Row
    row = listener_row socket.0 c

    pub listener_is : Object child ≡ reply_of (control_of p) (Bind socket (Tcp at))
    listener_is = ap (λ (n : ℕ). Object (id n)) listens.number ∙ sym (listened_reply c socket at free)

    puts_it : PutsLoaded out_name in_name (name_of (items_of p)) (with_box (with_both 3 2 o s)).boxes t.boxes
    puts_it = listens.puts out_name in_name (name_of (items_of p))

    slot_mine : (obj (after did c).rows socket.0).slot ≡ o.first_slot.0
    slot_mine = ap (λ (r : Row). r.slot) (get_or_append_left c.rows.objects (row ∷ []) nobody socket.0 (takes_served s p spare plane.history socket is_open met workers).there) ∙ are.first_slot

    slot_theirs : (obj (after did c).rows (next_object c)).slot ≡ o.last_slot.0
    slot_theirs = ap (λ (r : Row). r.slot) (get_or_push c.rows.objects row nobody (next_object c) refl) ∙ are.last_slot

    room : (m : ℕ) → capacity s.boxes m + reserved c did m ≤ capacity t.boxes m + took_from did m
    room m =
        let kept_free = served_capacity s o 3 2 (seats s o at may_listen) m in
        let put = loaded_capacity out_name in_name (name_of (items_of p)) (with_box (with_both 3 2 o s)).boxes t.boxes puts_it m in
        let made_row = ap {B = ℕ} (λ (n : ℕ). cond (n == m) 1 0) are.last_slot in
        let made_mine = ap {B = ℕ} (λ (n : ℕ). cond (n == m) 2 0) slot_mine in
        let own = ap {B = ℕ} (λ (n : ℕ). cond (n == m) 1 0) slot_mine in
        let plug = ap {B = ℕ} (λ (n : ℕ). cond (n == m) 1 0) slot_theirs in
        let three = two_one (o.first_slot.0 == m) in
        let two = one_one (o.last_slot.0 == m) in
        omega (arith, kept_free, put, made_row, made_mine, own, plug, three, two)
      where
        two_one : (b : Bool) → ◌≡◌ {A = ℕ} (cond b 2 0 + cond b 1 0) (cond b 3 0)
        two_one true = refl
        two_one false = refl

        one_one : (b : Bool) → ◌≡◌ {A = ℕ} (cond b 1 0 + cond b 1 0) (cond b 2 0)
        one_one true = refl
        one_one false = refl

    history_listens : IsHistory t (with_event (Asked (Bind socket (Tcp at)) (Object child) a) p) (spare + 7 - 1)
    history_listens = one_more s t p did spare (spare + 7 - 1) plane.history (record {
      fits = record { may = (is_open, listener_is); answered = silent_answered c did silent refl refl silent.settled silent.output };
      stands = subst (λ (x : ObjId). Stands t (binds x.0 (Tcp at) (answers_in a) c)) are.first (listens.stands (answers_in a));
      room = room;
      entries = omega arith;
      objects = one_object c socket at free;
      pairs = let few = plane.history.pairs in omega (arith, few);
      boxes = (let many = served_many s o 3 2 (seats s o at may_listen) in let put = puts_it.many in omega (arith, many, put));
    })

    roomier : AreCarried out_name in_name (items_of p) (control_of p) (with_box (with_both 3 2 o s)).boxes
    roomier m = subst (λ (xs : List (Command (Load N O I))). All (IsCarried out_name in_name (items_of p) c) xs) (sym (served_commands s o 3 2 (seats s o at may_listen) m)) (plane.carried m)

    pub plane_listens : IsPlane out_name in_name t (with_event (Asked (Bind socket (Tcp at)) (Object child) a) p) (spare + 7 - 1)
    plane_listens =
        one_plane out_name in_name s t p did spare (spare + 7 - 1) plane history_listens (tells_no_names (items_of p) did silent)
        (loaded_carried out_name in_name (items_of p) c (with_box (with_both 3 2 o s)).boxes t.boxes puts_it roomier) listens.ends refl

    pub given_listens : given_in t.boxes ≡ given_in s.boxes
    given_listens =
        loaded_given out_name in_name (name_of (items_of p)) (with_box (with_both 3 2 o s)).boxes t.boxes puts_it
        ∙ ap (λ (xs : List (Command (Load N O I))). flat_map (λ (x : Command (Load N O I)). given_by x.load) xs) (served_commands s o 3 2 (seats s o at may_listen) 0)
