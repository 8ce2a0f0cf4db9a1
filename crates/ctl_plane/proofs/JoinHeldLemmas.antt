-- That a connect to the holder of a name adds its event.
use Rattle.std.specs.Prelude.{◌≡◌, ◌<◌, ◌≤◌, ◌+◌, ◌||◌, ℕ, Bool, true, false, not, List, Option, Some, None, length, slice_get, refl}
use Rattle.std.proofs.Common.{arith, sym, ap, ◌∙◌, subst}
use Rattle.std.proofs.lemmas.Bool.Decides.{Decides-ltb}
use Rattle.zq_base.specs.Kind.{fits}
use Rattle.zq_base.specs.declared.attached.Attached.{Attached}
use Rattle.zq_base.specs.declared.attached.Attached.TheVariants.{Yes, BadId, Second}
use Rattle.zq_base.specs.declared.endpoint.Endpoint.TheVariants.{Inproc}
use Rattle.zq_base.specs.declared.ids.EndId.{EndId}
use Rattle.zq_base.specs.declared.ids.ObjId.{ObjId}
use Rattle.zq_base.specs.declared.kind.Kind.{Kind}
use Rattle.zq_base.specs.declared.kind.Kind.TheVariants.{Router, Pair as IsPair}
use Rattle.spec_control.specs.declared.book.Binding.{Binding}
use Rattle.spec_control.specs.declared.object.ObjKind.{ObjKind}
use Rattle.spec_control.specs.declared.object.ObjKind.TheVariants.{Root, Socket, Listener, Session}
use Rattle.spec_control.specs.declared.request.Req.TheVariants.{Connect}
use Rattle.spec_control.specs.declared.request.Refusal.TheVariants.{BadPair, TooMany}
use Rattle.spec_control.specs.declared.request.Reply.{Reply}
use Rattle.spec_control.specs.declared.request.Reply.TheVariants.{Pair}
use Rattle.spec_control.specs.declared.stage.Use.TheVariants.{Unused, Used}
use Rattle.spec_control.specs.EndpointBook.{is_object}
use Rattle.spec_control.specs.Stage.{was_asked}
use Rattle.spec_control.specs.Names.{name_of}
use Rattle.spec_control.specs.Row.{Row, is_socket}
use Rattle.spec_control.specs.Rows.{obj}
use Rattle.spec_control.specs.After.{kind_of}
use Rattle.spec_control.specs.Control.{Control, end_of, next_pair}
use Rattle.spec_control.specs.ControlRun.{MayAnswer}
use Rattle.spec_control.specs.Reply.{reply_of, unless, connect_reply_at, has_pairs, most_made_pairs}
use Rattle.control_laws.specs.Kept.{Kept, IsUnasked}
use Rattle.control_laws.proofs.JoinLemmas.{open_is}
use Rattle.control_laws.proofs.SoundLemmas.{socket_there}
use Rattle.control_laws.proofs.ListLemmas.{never}
use Rattle.desk.specs.Holding.{Holding, MayRefuse}
use Rattle.desk.specs.Making.{MakesSo, capacity_between, connect_makes}
use Rattle.ctl_state.specs.declared.state.State.{State}
use Rattle.ctl_state.specs.Needs.{AreMet}
use Rattle.desk.specs.declared.load.Load.{Load}
use Rattle.desk.specs.declared.given.Given.{Given}
use Rattle.ctl_moves.specs.declared.owners.Owners.{Owners}
use Rattle.ctl_moves.specs.Connecting.{MayConnect}
use Rattle.ctl_moves.specs.Papers.{HasMarks, MayMake}
use Rattle.ctl_moves.specs.Room.{AreOwners}
use Rattle.ctl_plane.specs.Carried.{IsPlane}
use Rattle.ctl_plane.specs.Hearing.{HasWhat}
use Rattle.ctl_plane.specs.Joining.{Lends}
use Rattle.ctl_plane.specs.Past.{Past, control_of, items_of}
use Rattle.ctl_moves.specs.Refusals.{refusal_in}
use Rattle.ctl_plane.proofs.EventLemmas.{kept_past}
use Rattle.ctl_plane.proofs.OwnerLemmas.{box_there}
use Rattle.ctl_plane.proofs.RefusalLemmas.{is_behind, passed}

-- ---- the answer
module _ (c : Control) (o : ObjId) (name : List ℕ) (binding : Binding) (held : c.names.held (Inproc name) ≡ Some binding) (free : refusal_in (reply_of c (Connect o (Inproc name))) ≡ None) where
  abbrev bad : Bool
  bad = is_object binding.holder o || not (fits binding.kind (kind_of (obj c.rows o.0).kind))

  abbrev too_many : Bool
  too_many = not (has_pairs 1 c)

  abbrev made : Reply
  made = Pair (record { 0 = next_pair c })

  behind : reply_of c (Connect o (Inproc name)) ≡ connect_reply_at o.0 (Some binding) c
  behind = is_behind c (connect_reply_at o.0 (c.names.held (Inproc name)) c) free ∙ ap (λ (x : Option Binding). connect_reply_at o.0 x c) held

  fine : refusal_in (connect_reply_at o.0 (Some binding) c) ≡ None
  fine = sym (ap refusal_in behind) ∙ free

  fitting : (is_object binding.holder o || not (fits binding.kind (kind_of (obj c.rows o.0).kind))) ≡ false
  fitting = passed bad BadPair (unless too_many TooMany made) fine

  few : not (has_pairs 1 c) ≡ false
  few = passed too_many TooMany made (sym (ap (λ (b : Bool). refusal_in (unless b BadPair (unless too_many TooMany made))) fitting) ∙ fine)

  pub held_reply : reply_of c (Connect o (Inproc name)) ≡ Pair (record { 0 = next_pair c })
  held_reply = behind ∙ ap (λ (b : Bool). unless b BadPair (unless too_many TooMany made)) fitting ∙ ap (λ (b : Bool). unless b TooMany made) few

  pub one_pair : next_pair c + 1 ≤ most_made_pairs + 1
  one_pair = by (has_pairs 1 c) refl few
    where
      by : (b : Bool) → has_pairs 1 c ≡ b → not b ≡ false → next_pair c + 1 ≤ most_made_pairs + 1
      by true is e = let less = (Decides-ltb (next_pair c + 1) (most_made_pairs + 2)).0 is in omega (arith, less)
      by false is e = absurd (never (sym e))

-- ---- the kinds
-- a holder that may refuse an end has the kind for it
pub may_answer : (o d : Row) (kind : Option Kind) (answer : Attached) → d ≡ o → is_socket o.kind ≡ true → o.request ≡ Unused → kind ≡ Some (kind_of o.kind) → MayRefuse kind answer → MayAnswer d answer
may_answer o d kind answer same socket unused is may = subst (λ (r : Row). MayAnswer r answer) (sym same) (by answer may)
  where
    some_is : (k : Kind) → Some (kind_of o.kind) ≡ Some k → kind_of o.kind ≡ k
    some_is k e = cc

    of_kind : (k : ObjKind) (n : Kind) → is_socket k ≡ true → kind_of k ≡ n → k ≡ Socket n
    of_kind Root n h e = absurd (never h)
    of_kind (Socket m) n h e = ap Socket e
    of_kind Listener n h e = absurd (never h)
    of_kind Session n h e = absurd (never h)

    not_used : o.request ≡ Used → ⊥
    not_used e = other (sym unused ∙ e)
      where
        other : Unused ≡ Used → ⊥
        other f = grind arith

    by : (a : Attached) → MayRefuse kind a → MayAnswer o a
    by Yes m = tt
    by BadId m = (of_kind o.kind Router socket (some_is Router (sym is ∙ m)), not_used)
    by Second m = (of_kind o.kind IsPair socket (some_is IsPair (sym is ∙ m)), not_used)

module _ {N O I S : Type 0} (out_name : O → N) (in_name : I → N) (s : State (Load N O I)) (p : Past (Given N O I) N S) (spare : ℕ) (o : ObjId) (name : List ℕ) (binding : Binding) (plane : IsPlane out_name in_name s p spare) (h : Holding N)
    (lends : Lends (control_of p) o.0 h) (held : (control_of p).names.held (Inproc name) ≡ Some binding) (free : refusal_in (reply_of (control_of p) (Connect o (Inproc name))) ≡ None) where
  pub kept : Kept (control_of p)
  kept = kept_past p plane.history.run

  pub mine : IsUnasked (control_of p).rows o.0
  mine = open_is (control_of p) o.0 kept lends.socket

  pub theirs : IsUnasked (control_of p).rows binding.holder.0
  theirs = kept.names.holders (Inproc name) binding held

  -- what the making of the pair needs
  abbrev pub may_connect : AreMet s (control_of p) → (owners : Owners) → AreOwners (control_of p) o binding.holder owners → (wakers : ℕ) → (control_of p).slots ≤ wakers → HasWhat p h → MayConnect s h owners wakers
  may_connect met owners are wakers all has = record {
    control = control_of p;
    names = name_of (items_of p);
    stands = plane.history.stands;
    has = has;
    lent = ap (λ (x : ObjId). h.holds x.0) are.first ∙ lends.lent;
    places = record {
      first_box = subst (λ (n : ℕ). n < length s.boxes) are.first_slot (box_there s (control_of p) kept plane.history.stands plane.history.room o.0 mine);
      last_box = subst (λ (n : ℕ). n < length s.boxes) are.last_slot (box_there s (control_of p) kept plane.history.stands plane.history.room binding.holder.0 theirs);
      first_list = subst (λ (x : ObjId). x.0 < length s.objects.lists) (sym are.first) (met.listed o.0 (socket_there (control_of p).rows o.0 mine.socket));
      last_list = subst (λ (x : ObjId). x.0 < length s.objects.lists) (sym are.last) (met.listed binding.holder.0 (socket_there (control_of p).rows binding.holder.0 theirs.socket));
    };
    last_slot = ap (λ (x : ObjId). (obj (control_of p).rows x.0).slot) are.last ∙ are.last_slot;
    unasked = ap (λ (x : ObjId). was_asked (obj (control_of p).rows x.0).stage) are.first ∙ mine.unasked;
    last_unasked = ap (λ (x : ObjId). was_asked (obj (control_of p).rows x.0).stage) are.last ∙ theirs.unasked;
    first_marks = subst (λ (x : ObjId). HasMarks (obj (control_of p).rows x.0)) (sym are.first) (lends.marked o.0 mine.socket);
    last_marks = subst (λ (x : ObjId). HasMarks (obj (control_of p).rows x.0)) (sym are.last) (lends.marked binding.holder.0 theirs.socket);
    few_objects = (let few_made = plane.history.objects in omega (arith, few_made));
    few_pairs = (let few_drawn = plane.history.pairs in omega (arith, few_drawn));
    wakers_there = (let there = plane.history.stands.slots in omega (arith, there, all));
  }

  -- the connecting socket's end may be made
  pub may_make_held : (owners : Owners) → AreOwners (control_of p) o binding.holder owners → (may_make : EndId → ℕ → ℕ → Type 0) → MakesSo (control_of p) (Connect o (Inproc name)) may_make →
      MayMake s owners.first owners.last (end_of (length s.pairs) true) may_make
  may_make_held owners are may_make makes = record {
    control = control_of p;
    stands = plane.history.stands;
    first_marks = subst (λ (x : ObjId). HasMarks (obj (control_of p).rows x.0)) (sym are.first) (lends.marked o.0 mine.socket);
    last_marks = subst (λ (x : ObjId). HasMarks (obj (control_of p).rows x.0)) (sym are.last) (lends.marked binding.holder.0 theirs.socket);
    makes =
        subst (λ (x : ObjId). may_make (end_of (length s.pairs) true) (capacity_between (control_of p) x.0 owners.last.0) (capacity_between (control_of p) owners.last.0 x.0)) (sym are.first)
        (subst (λ (x : ObjId). may_make (end_of (length s.pairs) true) (capacity_between (control_of p) o.0 x.0) (capacity_between (control_of p) x.0 o.0)) (sym are.last)
        (subst (λ (n : ℕ). may_make (end_of n true) (capacity_between (control_of p) o.0 binding.holder.0) (capacity_between (control_of p) binding.holder.0 o.0)) plane.history.stands.pairs.many
        (makes (end_of (next_pair (control_of p)) true) _ _ (record { place = 0; among = ap (λ (b : Option Binding). slice_get (connect_makes (control_of p) o.0 b) 0) held }))));
  }
