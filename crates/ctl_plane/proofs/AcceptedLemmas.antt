-- That an accepted link adds its event: a session, the number of its pair, and its Own.
use Rattle.std.specs.Prelude.{◌≡◌, ◌<◌, ◌≤◌, ◌+◌, ◌-◌, ◌==◌, ◌∷◌, [], ℕ, Bool, true, false, not, cond, List, Option, Some, None, All, length, flat_map, refl}
use Rattle.std.proofs.Common.{arith, sym, ap, ◌∙◌, subst}
use Rattle.std.proofs.lemmas.Bool.Decides.{Decides-ltb}
use Rattle.std.proofs.lemmas.List.{get_or_append_left, get_or_push}
use Rattle.zq_base.specs.declared.ids.ObjId.{ObjId}
use Rattle.zq_base.specs.declared.ids.PairId.{PairId}
use Rattle.spec_control.specs.declared.entry.Answered.{Answered}
use Rattle.spec_control.specs.declared.entry.Did.{Did}
use Rattle.spec_control.specs.declared.entry.Did.TheVariants.{Asked}
use Rattle.spec_control.specs.declared.object.ObjKind.{ObjKind}
use Rattle.spec_control.specs.declared.object.ObjKind.TheVariants.{Root, Socket, Listener, Session}
use Rattle.spec_control.specs.declared.request.Req.TheVariants.{Accepted}
use Rattle.spec_control.specs.declared.request.Refusal.TheVariants.{TooMany}
use Rattle.spec_control.specs.declared.request.Reply.TheVariants.{Both}
use Rattle.spec_control.specs.Names.{name_of}
use Rattle.spec_control.specs.Stage.{has_ended}
use Rattle.spec_control.specs.Row.{Row, nobody, is_listener, owner_fits}
use Rattle.spec_control.specs.Rows.{obj}
use Rattle.spec_control.specs.Control.{Control, id, next_object, next_pair}
use Rattle.spec_control.specs.After.{accepted_row, after, owner_or_root}
use Rattle.spec_control.specs.Reply.{has_object, has_pairs, has_room, most_made_pairs, most_objects, reply_of, unless}
use Rattle.spec_control.specs.ControlRun.{Fits, IsTakenIn, MayAsk}
use Rattle.control_laws.proofs.EndLemmas.{kept_but}
use Rattle.control_laws.proofs.ListLemmas.{never, left, right, placed}
use Rattle.control_laws.proofs.OpenLemmas.{owner_lives, unended_uncleared}
use Rattle.control_laws.proofs.SoundLemmas.{sound_of}
use Rattle.control_laws.proofs.StepLemmas.{inv_of}
use Rattle.control_laws.proofs.TellLemmas.{rows_of}
use Rattle.control_laws.specs.Kept.{Kept}
use Rattle.control_laws.specs.Room.{reserved, took_from}
use Rattle.desk.specs.declared.given.Given.{Given}
use Rattle.desk.specs.declared.load.Load.{Load}
use Rattle.desk.specs.Load.{given_by}
use Rattle.ctl_state.specs.declared.belongings.Belongings.{Belongings}
use Rattle.ctl_state.specs.declared.command.Command.{Command}
use Rattle.ctl_state.specs.declared.state.State.{State}
use Rattle.ctl_state.proofs.StandLemmas.{roomy}
use Rattle.ctl_moves.specs.Accepting.{Accepts, MayAccept}
use Rattle.ctl_moves.specs.Naming.{SameEndLists}
use Rattle.ctl_moves.specs.Processing.{IsSilent}
use Rattle.ctl_moves.proofs.BareLemmas.{ack_to_come}
use Rattle.ctl_moves.proofs.CapacityLemmas.{capacity}
use Rattle.ctl_moves.proofs.FindLemmas.{loaded_capacity}
use Rattle.ctl_moves.proofs.RootLemmas.{all_fit}
use Rattle.ctl_plane.specs.Carried.{given_in, AreCarried, IsCarried, IsPlane}
use Rattle.ctl_plane.specs.Past.{Past, control_of, items_of, with_event, IsHistory}
use Rattle.ctl_plane.proofs.DeliverLemmas.{loaded_carried, loaded_given}
use Rattle.ctl_plane.proofs.EventLemmas.{kept_past, one_more}
use Rattle.ctl_plane.proofs.OwedLemmas.{made_aside}
use Rattle.ctl_plane.proofs.PlaneLemmas.{one_plane, tells_no_names}
use Rattle.ctl_plane.proofs.SilentLemmas.{silent_answered}

-- a listener has an owner
owned_listener : (k : ObjKind) (v : Option ℕ) → is_listener k ≡ true → owner_fits k v ≡ true → v ≡ None → ⊥
owned_listener Listener None is fits none = never fits
owned_listener Listener (Some w) is fits none = some_none none
  where
    some_none : Some w ≡ None → ⊥
    some_none f = Prim.grind arith
owned_listener Root v is fits none = never is
owned_listener (Socket kind) v is fits none = never is
owned_listener Session v is fits none = never is

module _ (c : Control) (kept : Kept c) (i : ℕ) (listener : is_listener (obj c.rows i).kind ≡ true) (taken_in : IsTakenIn (obj c.rows i)) where
  there : i < length c.rows.objects
  there = placed (λ (r : Row). not (is_listener r.kind)) c.rows.objects nobody i refl (ap not listener)

  -- its socket, which has not ended
  record HasSocket : Type 0 where
    pub socket : ℕ
    pub owner : (obj c.rows i).owner ≡ Some socket
    pub within : socket < length c.rows.objects
    pub lives : has_ended (obj c.rows socket).stage ≡ false

  has_socket : HasSocket
  has_socket = by (obj c.rows i).owner refl
    where
      by : (v : Option ℕ) → (obj c.rows i).owner ≡ v → HasSocket
      by None e = absurd (owned_listener (obj c.rows i).kind (obj c.rows i).owner listener (all_fit c.rows kept.reached i) e)
      by (Some w) e = record {
        socket = w;
        owner = e;
        within = (sound_of c kept).owners i w e;
        lives = owner_lives c.rows i w (inv_of (rows_of (kept_but 0 c kept))) e (unended_uncleared (obj c.rows i).stage taken_in.lives);
      }

-- what three moves take is what is kept
room_sums : (x y : Bool) → cond x 1 0 + cond y 2 0 + (cond x 2 0 + cond y 2 0 + (cond y 1 0 + 0)) ≤ cond x 3 0 + cond y 5 0
room_sums true true = omega arith
room_sums true false = omega arith
room_sums false true = omega arith
room_sums false false = omega arith

module _ {L G N S : Type 0} (s : State L) (p : Past G N S) (spare : ℕ) (h : IsHistory s p spare) (i : ObjId) (may : MayAsk (control_of p) (Accepted i)) (box : (obj (control_of p).rows i.0).slot < (control_of p).slots) where
  abbrev c : Control
  c = control_of p

  kept : Kept (control_of p)
  kept = kept_past p h.run

  socket_of : HasSocket (control_of p) (kept_past p h.run) i.0 may.0 may.1
  socket_of = has_socket (control_of p) (kept_past p h.run) i.0 may.0 may.1

  at : owner_or_root (obj (control_of p).rows i.0).owner ≡ socket_of.socket
  at = ap owner_or_root socket_of.owner

  pub may_accept : MayAccept s i.0 (control_of p)
  may_accept = record {
    there = there (control_of p) (kept_past p h.run) i.0 may.0 may.1;
    owner_there = subst (λ (n : ℕ). n < length (control_of p).rows.objects) (sym at) socket_of.within;
    unended = ap (λ (n : ℕ). has_ended (obj (control_of p).rows n).stage) at ∙ socket_of.lives;
    box = (let same = h.stands.slots in omega (arith, box, same));
    owner_box = subst (λ (n : ℕ). (obj (control_of p).rows n).slot < length s.boxes) (sym at)
        (roomy s.boxes (obj (control_of p).rows socket_of.socket).slot
        (let one = ack_to_come (control_of p) i.0 (there (control_of p) (kept_past p h.run) i.0 may.0 may.1) socket_of.socket socket_of.owner may.1.lives in
        let most = h.room (obj (control_of p).rows socket_of.socket).slot in
        omega (arith, one, most)));
    few_objects = (let few = h.objects in omega (arith, few));
    few_pairs = (let few = h.pairs in omega (arith, few));
    few_boxes = (let few = h.few in let most = h.boxes in let objects = h.objects in omega (arith, few, most, objects));
  }

  module _ (room : has_room (control_of p) ≡ true) where
    object_fits : next_object (control_of p) + 1 ≤ most_objects
    object_fits = let less = (Decides-ltb (next_object (control_of p)) most_objects).0 (left (has_object c) (has_pairs 1 c) room) in omega (arith, less)

    pair_fits : next_pair (control_of p) + 1 ≤ most_made_pairs + 1
    pair_fits = let less = (Decides-ltb (next_pair (control_of p) + 1) (most_made_pairs + 2)).0 (right (has_object c) (has_pairs 1 c) room) in omega (arith, less)

    pub both_is : (session : ObjId) (pair : PairId) → session.0 ≡ next_object (control_of p) → pair.0 ≡ next_pair (control_of p) → Both session pair ≡ reply_of (control_of p) (Accepted i)
    both_is session pair number drawn =
        ap (λ (n : ℕ). Both (id n) pair) number ∙ ap (λ (n : ℕ). Both (id (next_object c)) (record { 0 = n })) drawn
        ∙ sym (ap (λ (b : Bool). unless (not b) TooMany (Both (id (next_object c)) (record { 0 = next_pair c }))) room)

module _ {N O I S : Type 0} (out_name : O → N) (in_name : I → N) (s t : State (Load N O I)) (p : Past (Given N O I) N S) (spare : ℕ) (plane : IsPlane out_name in_name s p spare) (i : ObjId) (may : MayAsk (control_of p) (Accepted i))
    (box : (obj (control_of p).rows i.0).slot < (control_of p).slots) (room : has_room (control_of p) ≡ true) (a : Answered N S) (silent : IsSilent a) (session : ObjId) (pair : PairId) (made : Accepts out_name in_name (control_of p) i.0 session pair s t) where
  abbrev did : Did N S
  did = Asked (Accepted i) (Both session pair) a

  abbrev now : Control
  now = control_of p

  fits : Fits (control_of p) did
  fits = record {
    may = (may, both_is s p spare plane.history i may box room session pair made.number made.drawn);
    answered = silent_answered (control_of p) did silent refl refl silent.settled silent.output;
  }

  socket : ℕ
  socket = owner_or_root (obj (control_of p).rows i.0).owner

  row : Row
  row = accepted_row i.0 (control_of p)

  slot_made : (obj (after did (control_of p)).rows (next_object (control_of p))).slot ≡ (obj (control_of p).rows i.0).slot
  slot_made = ap (λ (r : Row). r.slot) (get_or_push (control_of p).rows.objects (accepted_row i.0 (control_of p)) nobody (next_object (control_of p)) refl)

  slot_socket : (obj (after did (control_of p)).rows (owner_or_root (obj (control_of p).rows i.0).owner)).slot ≡ (obj (control_of p).rows (owner_or_root (obj (control_of p).rows i.0).owner)).slot
  slot_socket =
      ap (λ (r : Row). r.slot)
      (get_or_append_left (control_of p).rows.objects (accepted_row i.0 (control_of p) ∷ []) nobody (owner_or_root (obj (control_of p).rows i.0).owner) (may_accept s p spare plane.history i may box).owner_there)

  reserved_is : (m : ℕ) → reserved (control_of p) did m ≤ cond ((obj (control_of p).rows i.0).slot == m) 3 0 + cond ((obj (control_of p).rows (owner_or_root (obj (control_of p).rows i.0).owner)).slot == m) 5 0
  reserved_is m =
      let mine = ap {B = ℕ} (λ (n : ℕ). cond (n == m) 2 0) slot_made in
      let two = ap {B = ℕ} (λ (n : ℕ). cond (n == m) 2 0) slot_socket in
      let one = ap {B = ℕ} (λ (n : ℕ). cond (n == m) 1 0) slot_socket in
      let sums = room_sums ((obj (control_of p).rows i.0).slot == m) ((obj (control_of p).rows (owner_or_root (obj (control_of p).rows i.0).owner)).slot == m) in
      omega (arith, mine, two, one, sums)

  room_is : (m : ℕ) → capacity s.boxes m + reserved (control_of p) did m ≤ capacity t.boxes m + took_from did m
  room_is m =
      let put = loaded_capacity out_name in_name (name_of (items_of p)) made.roomy t.boxes (made.puts (name_of (items_of p))) m in
      let spare_now = made.room.spare m in
      let same = ap (λ (xs : List (Command (Load N O I))). length xs) (made.room.commands m) in
      let most = reserved_is m in
      omega (arith, put, spare_now, same, most)

  pub accepts_history : IsHistory t (with_event did p) (spare + 17 - 1)
  accepts_history = one_more s t p did spare (spare + 17 - 1) plane.history (record {
    fits = fits;
    stands = made.stands;
    room = room_is;
    entries = omega arith;
    objects = object_fits s p spare plane.history i may box room;
    pairs = pair_fits s p spare plane.history i may box room;
    boxes = (let many = (made.puts (name_of (items_of p))).many in let more = made.room.many in omega (arith, many, more));
  })

  -- what waits in the mailboxes carries what it carried
  carried : AreCarried out_name in_name (items_of p) (control_of p) made.roomy
  carried m = subst (λ (xs : List (Command (Load N O I))). All (IsCarried out_name in_name (items_of p) (control_of p)) xs) (sym (made.room.commands m)) (plane.carried m)

  pub accepts_plane : IsPlane out_name in_name t (with_event did p) (spare + 17 - 1)
  accepts_plane =
      one_plane out_name in_name s t p did spare (spare + 17 - 1) plane accepts_history (tells_no_names (items_of p) did silent)
      (loaded_carried out_name in_name (items_of p) (control_of p) made.roomy t.boxes (made.puts (name_of (items_of p))) carried)
      (subst (λ (ls : List Belongings). SameEndLists s.objects.lists ls) (sym made.lists) (made_aside s.objects.lists)) refl

  pub accepts_given : given_in t.boxes ≡ given_in s.boxes
  accepts_given =
      loaded_given out_name in_name (name_of (items_of p)) made.roomy t.boxes (made.puts (name_of (items_of p)))
      ∙ ap (λ (xs : List (Command (Load N O I))). flat_map (λ (x : Command (Load N O I)). given_by x.load) xs) (made.room.commands 0)
