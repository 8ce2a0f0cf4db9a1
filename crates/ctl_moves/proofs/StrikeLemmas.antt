-- What the striking of a bind or a connect needs, and what it does.
use Rattle.std.specs.Prelude.{◌≡◌, ◌<◌, ℕ, Bool, true, false, cond, List, [], ◌∷◌, Option, Some, None, find, refl}
use Rattle.std.proofs.Common.{arith, sym, ap, ◌∙◌, subst}
use Rattle.zq_base.specs.declared.ids.ObjId.{ObjId}
use Rattle.mailbox.specs.Mail.{Mail}
use Rattle.spec_control.specs.Row.{Row, IsTold, link_may}
use Rattle.spec_control.specs.Rows.{Rows, obj, is_owner}
use Rattle.spec_control.specs.Stage.{is_alive, has_ended}
use Rattle.spec_control.specs.Control.{Control}
use Rattle.control_laws.proofs.ListLemmas.{left}
use Rattle.control_laws.proofs.ClosedLemmas.{has_owner}
use Rattle.control_laws.proofs.StrikeLemmas.{owned_by}
use Rattle.control_laws.specs.Room.{all_to_come, slots_of}
use Rattle.ctl_state.specs.declared.command.Command.{Command}
use Rattle.ctl_state.specs.declared.state.State.{State}
use Rattle.ctl_state.specs.Boxes.{mail_at}
use Rattle.ctl_state.specs.Needs.{AreMet}
use Rattle.ctl_state.specs.Objects.{kept_row, IsChild}
use Rattle.ctl_state.specs.Stands.{Stands, slot_of}
use Rattle.ctl_moves.specs.Bare.{Somewhere}
use Rattle.ctl_moves.specs.Striking.{MayStrike}
use Rattle.ctl_moves.proofs.BareLemmas.{term_to_come}

-- what is found passes the test
module _ {X : Type 0} (test : X → Bool) where
  pub found_passes : (xs : List X) (x : X) → find test xs ≡ Some x → test x ≡ true
  found_passes [] x e = absurd (none e)
    where
      none : ◌≡◌ {A = Option X} None (Some x) → ⊥
      none k = cc
  found_passes (y ∷ ys) x e = by (found_passes ys x) (test y) refl e
    where
      by : (find test ys ≡ Some x → test x ≡ true) → (b : Bool) → test y ≡ b → cond b (Some y) (find test ys) ≡ Some x → test x ≡ true
      by rest true is k = let same : y ≡ x = cc in subst (λ (z : X). test z ≡ true) same is
      by rest false is k = rest k

module _ {L : Type 0} where
  -- what concerns neither rows nor mailboxes leaves what is needed
  pub may_still : (s t : State L) (i : ℕ) (c d : Control) → t.boxes ≡ s.boxes → c.rows ≡ d.rows → Stands t d → MayStrike s i c → Somewhere t (MayStrike t i)
  may_still s t i c d boxes rows stands h = record {
    control = d;
    stands = stands;
    is = record {
      lives = ap (λ (r : Rows). has_ended (obj r i).stage) (sym rows) ∙ h.lives;
      room = λ m. (let same = ap (λ (r : Rows). all_to_come (slots_of r) m r) rows in let most = h.room m in let now = ap (λ (b : List (Mail (Command L))). (mail_at b m).spare) boxes in omega (arith, same, most, now));
    };
  }

  module _ (s : State L) (i child : ObjId) (w : Somewhere s (MayStrike s i.0)) (met : AreMet s w.control) (mine : is_owner i.0 (obj w.control.rows child.0).owner ≡ true) where
    owner : (obj w.control.rows child.0).owner ≡ Some i.0
    owner = owned_by i.0 (obj w.control.rows child.0).owner mine

    pub struck_child : IsChild s.objects i child
    struck_child = record { unended = met.unended i w.is.lives; owned = met.owned child.0 i owner }

    pub struck_room : link_may IsTold (kept_row s.objects child.0) ≡ true → 0 < (mail_at s.boxes (slot_of s child.0)).spare
    struck_room may =
        let alive : is_alive (obj w.control.rows child.0).stage ≡ true = ap (λ (o : Row). is_alive o.stage) (w.stands.objects.each child.0) ∙ left _ _ may in
        let one = term_to_come w.control child.0 (has_owner w.control.rows.objects i.0 child.0 owner) alive in
        let most = w.is.room (obj w.control.rows child.0).slot in
        let slot : (obj w.control.rows child.0).slot ≡ slot_of s child.0 = ap (λ (o : Row). o.slot) (w.stands.objects.each child.0) in
        subst (λ (n : ℕ). 0 < (mail_at s.boxes n).spare) slot (omega (arith, one, most))

-- an unbind that is not refused
