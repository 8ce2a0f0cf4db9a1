-- What a command that concerns no end needs, and what it does.
use Rattle.std.specs.Prelude.{◌≡◌, ◌≢◌, ◌<◌, ◌≤◌, ◌+◌, ℕ, Bool, true, false, cond, List, ◌∷◌, Option, Some, length, refl}
use Rattle.std.proofs.Common.{arith, sym, ap, ◌∙◌, subst}
use Rattle.std.proofs.lemmas.Bool.{eq-eqb}
use Rattle.std.proofs.lemmas.List.{get_or-set_other}
use Rattle.std.proofs.lemmas.List.Sums.{get_or-le-sum_by}
use Rattle.zq_base.specs.declared.ids.ObjId.{ObjId}
use Rattle.mailbox.specs.Mail.{Mail}
use Rattle.spec_control.specs.declared.letter.Letter.{Letter}
use Rattle.spec_control.specs.declared.letter.Word.{Word}
use Rattle.spec_control.specs.declared.letter.Word.TheVariants.{Own, Plug, TermReq, Term, TermAck, PipeBind, PipeTerm, PipeTermAck, Stop, Reap}
use Rattle.spec_control.specs.declared.stage.Stage.{Stage}
use Rattle.spec_control.specs.declared.stage.Stage.TheVariants.{Alive, Told, Ending, Finished, Cleared}
use Rattle.spec_control.specs.declared.object.ObjState.TheVariants.{Ended}
use Rattle.spec_control.specs.declared.stage.Use.{Use}
use Rattle.spec_control.specs.declared.stage.Use.TheVariants.{Unused, OnItsWay, Used}
use Rattle.spec_control.specs.Stage.{is_alive, is_finished, has_ended, is_unused, is_coming}
use Rattle.spec_control.specs.Row.{Row, nobody, LinkEvent, OwnComes, RequestComes, AckComes, StopComes, IsTold, link_may, link_after, is_unowned}
use Rattle.spec_control.specs.Rows.{obj}
use Rattle.spec_control.specs.Control.{Control, link}
use Rattle.spec_control.specs.After.{owner_or_root, without_front}
use Rattle.control_laws.proofs.ListLemmas.{never, left}
use Rattle.control_laws.proofs.ClosedLemmas.{has_owner}
use Rattle.control_laws.proofs.StepLemmas.{same_owner, same_slot}
use Rattle.control_laws.specs.Kept.{Kept}
use Rattle.control_laws.proofs.RootLemmas.{oldest_lives}
use Rattle.control_laws.specs.Coming.{ComesToOwner}
use Rattle.control_laws.proofs.SoundLemmas.{link_there}
use Rattle.control_laws.proofs.GuardLemmas.{may_come}
use Rattle.control_laws.specs.Room.{down_to_come, up_to_come, row_to_come, for_slot, slots_of, to_come}
use Rattle.own_tree.specs.Rows.{state_at}
use Rattle.own_tree.specs.declared.row.Row.{Row as TreeRow}
use Rattle.ctl_state.specs.declared.command.Command.{Command}
use Rattle.ctl_state.specs.declared.state.State.{State}
use Rattle.ctl_state.specs.Boxes.{mail_at, Takes}
use Rattle.ctl_state.specs.Needs.{AreMet}
use Rattle.ctl_state.specs.Objects.{kept_row, IsChild}
use Rattle.ctl_state.specs.Parts.{on_tree, Tells}
use Rattle.ctl_state.specs.Stands.{Stands, slot_of, HasRoomForAck}
use Rattle.ctl_state.proofs.BareLemmas.{tells_not}
use Rattle.ctl_state.proofs.ReadLemmas.{read_kept}
use Rattle.ctl_moves.specs.Bare.{HearsOf, Hears}
use Rattle.ctl_moves.proofs.CapacityLemmas.{taken_spare}

-- ---- what may still come has its part in the sums
module _ (c : Control) (i : ℕ) (there : i < length c.rows.objects) where
  part : (m : ℕ) → row_to_come (slots_of c.rows) m (obj c.rows i) ≤ to_come c m
  part m = let one = get_or-le-sum_by (row_to_come (slots_of c.rows) m) c.rows.objects i nobody there in omega (arith, one)

  -- the Term of an object that lives and was not told
  pub term_to_come : is_alive (obj c.rows i).stage ≡ true → 1 ≤ to_come c (obj c.rows i).slot
  term_to_come alive =
      let o = obj c.rows i in
      let own = ap {B = ℕ} (λ (b : Bool). cond b (down_to_come o) 0) (eq-eqb o.slot o.slot refl) in
      let one = ap {B = ℕ} (λ (b : Bool). cond b 1 0) alive in
      let all = part o.slot in
      omega (arith, own, one, all)

  -- what an object that has not ended may still tell its owner
  pub owner_to_come : (w : ℕ) → (obj c.rows i).owner ≡ Some w → up_to_come (obj c.rows i) ≤ to_come c (obj c.rows w).slot
  owner_to_come w of =
      let o = obj c.rows i in
      let mine = ap (λ (x : Option ℕ). for_slot (slots_of c.rows) (obj c.rows w).slot (owner_or_root x) (up_to_come o)) of in
      let here = ap {B = ℕ} (λ (b : Bool). cond b (up_to_come o) 0) (eq-eqb (obj c.rows w).slot (obj c.rows w).slot refl) in
      let all = part (obj c.rows w).slot in
      omega (arith, mine, here, all)

  pub ack_to_come : (w : ℕ) → (obj c.rows i).owner ≡ Some w → has_ended (obj c.rows i).stage ≡ false → 1 ≤ to_come c (obj c.rows w).slot
  ack_to_come w of lives =
      let o = obj c.rows i in
      let most = owner_to_come w of in
      let ended = ap {B = ℕ} (λ (b : Bool). cond b 0 (cond (is_unused o.request) 1 0 + cond (is_unowned o.owner) 0 1)) lives in
      let owned = ap {B = ℕ} (λ (x : Option ℕ). cond (is_unowned x) 0 1) of in
      omega (arith, most, ended, owned)

-- ---- an event between an object and its owner leaves what the next step asks
module _ {L : Type 0} (s t : State L) (event : LinkEvent) (at child : ObjId) (c : Control) (h : HearsOf s event at.0 child.0 c)
    (stands : Stands t (link event child.0 c)) (met : AreMet t (link event child.0 c)) where
  same_owner_at : (j : ℕ) → (obj (link event child.0 c).rows j).owner ≡ (obj c.rows j).owner
  same_owner_at j = read_kept (λ (o : Row). o.owner) c.rows.objects child.0 j (link_after event (obj c.rows child.0)) nobody (same_owner event (obj c.rows child.0))

  same_slot_at : (j : ℕ) → (obj (link event child.0 c).rows j).slot ≡ (obj c.rows j).slot
  same_slot_at j = read_kept (λ (o : Row). o.slot) c.rows.objects child.0 j (link_after event (obj c.rows child.0)) nobody (same_slot event (obj c.rows child.0))

  same_stage_at : ((o : Row) → (link_after event o).stage ≡ o.stage) → (j : ℕ) → (obj (link event child.0 c).rows j).stage ≡ (obj c.rows j).stage
  same_stage_at same j = read_kept (λ (o : Row). o.stage) c.rows.objects child.0 j (link_after event (obj c.rows child.0)) nobody (same (obj c.rows child.0))

  pub told_child : ((o : Row) → (link_after event o).stage ≡ o.stage) → IsChild t.objects at child
  told_child same = record {
    unended = met.unended at (ap has_ended (same_stage_at same at.0) ∙ h.lives);
    owned = met.owned child.0 at (same_owner_at child.0 ∙ h.comes.owner);
  }

  pub told_room : ((o : Row) → (link_after event o).stage ≡ o.stage) → t.boxes ≡ s.boxes → link_may IsTold (kept_row t.objects child.0) ≡ true → 0 < (mail_at t.boxes (slot_of t child.0)).spare
  told_room same boxes may =
      let alive : is_alive (obj c.rows child.0).stage ≡ true =
      ap is_alive (sym (same_stage_at same child.0) ∙ ap (λ (o : Row). o.stage) (stands.objects.each child.0)) ∙ left _ _ may in
      let slot : (obj c.rows child.0).slot ≡ slot_of t child.0 =
      sym (same_slot_at child.0) ∙ ap (λ (o : Row). o.slot) (stands.objects.each child.0) in
      subst (λ (b : List (Mail (Command L))). 0 < (mail_at b (slot_of t child.0)).spare) (sym boxes)
      (subst (λ (n : ℕ). 0 < (mail_at s.boxes n).spare) slot (h.room alive))

  pub ack_unended : child.0 ≢ at.0 → state_at t.objects.tree at ≢ Ended
  ack_unended other =
      met.unended at (ap (λ (o : Row). has_ended o.stage) (get_or-set_other c.rows.objects child.0 at.0 (link_after event (obj c.rows child.0)) nobody (λ e. other (sym e))) ∙ h.lives)

  pub ack_has_room : t.boxes ≡ s.boxes → HasRoomForAck t at.0
  ack_has_room boxes w of =
      let owner : (obj c.rows at.0).owner ≡ Some w =
      sym (same_owner_at at.0) ∙ ap (λ (o : Row). o.owner) (stands.objects.each at.0) ∙ of in
      let slot : (obj c.rows w).slot ≡ (kept_row t.objects w).slot =
      sym (same_slot_at w) ∙ ap (λ (o : Row). o.slot) (stands.objects.each w) in
      subst (λ (b : List (Mail (Command L))). 0 < (mail_at b (kept_row t.objects w).slot).spare) (sym boxes)
      (subst (λ (n : ℕ). 0 < (mail_at s.boxes n).spare) slot (h.ack_room w owner))

pub finished_is : (t : Stage) → is_finished t ≡ true → t ≡ Finished
finished_is Alive h = absurd (never h)
finished_is Told h = absurd (never h)
finished_is Ending h = absurd (never h)
finished_is Finished h = refl
finished_is Cleared h = absurd (never h)

pub coming_is_so : (r : Use) → is_coming r ≡ true → r ≡ OnItsWay
coming_is_so Unused h = absurd (never h)
coming_is_so OnItsWay h = refl
coming_is_so Used h = absurd (never h)

-- who has ended is another than who has not
pub not_ended : (c : Control) (i j : ℕ) → (obj c.rows i).stage ≡ Finished → has_ended (obj c.rows j).stage ≡ false → i ≢ j
not_ended c i j ended lives e =
    never (sym lives ∙ ap (λ (n : ℕ). has_ended (obj c.rows n).stage) (sym e) ∙ ap has_ended ended)

-- ---- a tree that changed
module _ {L : Type 0} where
  pub tree_boxes : (s t : State L) (f : List TreeRow → List TreeRow) → t ≡ on_tree f s → t.boxes ≡ s.boxes
  tree_boxes s t f is = ap (λ (x : State L). x.boxes) is

  pub tree_tells : (s t : State L) (f : List TreeRow → List TreeRow) → t ≡ on_tree f s → Tells s t
  tree_tells s t f is = tells_not s t (ap (λ (x : State L). x.boxes) is) (ap (λ (x : State L). x.objects.lists) is)

-- ---- a command that was taken
module _ {L : Type 0} (s t : State L) (c : Control) (kept : Kept c) (room : (m : ℕ) → to_come c m ≤ (mail_at s.boxes m).spare)
    (slot : ℕ) (command : Command L) (took : Takes slot command s.boxes t.boxes) where
  spare_at : (m n : ℕ) → n ≤ to_come c m → n ≤ (mail_at t.boxes m).spare
  spare_at m n less = let most = room m in let same = taken_spare slot command s.boxes t.boxes took m in omega (arith, less, most, same)

  of_owner : (at : ℕ) (child : ObjId) (event : LinkEvent) → ComesToOwner c at child.0 event → has_ended (obj c.rows at).stage ≡ false → HearsOf t event at child.0 (without_front slot c)
  of_owner at child event comes lives = record {
    comes = record { comes = comes.comes; owner = comes.owner };
    lives = lives;
    room = λ alive. spare_at (obj c.rows child.0).slot 1 (term_to_come c child.0 (link_there c.rows child.0 event comes.comes) alive);
    ack_room = λ w of. spare_at (obj c.rows w).slot 1 (ack_to_come c at (has_owner c.rows.objects w at of) w of lives);
  }

  pub hears : (at : ℕ) (word : Word) (rest : List Letter) → c.boxes slot ≡ record { to = record { 0 = at }; word = word } ∷ rest → Hears t at word (without_front slot c)
  hears at (Own child) rest is = of_owner at child OwnComes (may_come c kept slot rest at (Own child) is) (oldest_lives c kept slot at (Own child) rest is).1
  hears at (Plug end) rest is = tt
  hears at (TermReq child) rest is = of_owner at child RequestComes (may_come c kept slot rest at (TermReq child) is) (oldest_lives c kept slot at (TermReq child) rest is).1
  hears at Term rest is = tt
  hears at (TermAck child) rest is = of_owner at child AckComes (may_come c kept slot rest at (TermAck child) is) (oldest_lives c kept slot at (TermAck child) rest is).1
  hears at (PipeBind e peer) rest is = tt
  hears at (PipeTerm e) rest is = tt
  hears at (PipeTermAck e) rest is = tt
  hears at Stop rest is = link_there c.rows at StopComes (may_come c kept slot rest at Stop is)
  hears at (Reap socket) rest is = tt
