-- That a pair is made, in the control state.
use Rattle.std.specs.Prelude.{◌≡◌, ◌<◌, ◌^◌, ℕ, false, List, Option, refl}
use Rattle.std.proofs.Common.{arith, sym, ap, ◌∙◌, subst}
use Rattle.zq_base.specs.Ends.{other_end}
use Rattle.zq_base.specs.declared.ids.EndId.{EndId}
use Rattle.zq_base.specs.declared.ids.ObjId.{ObjId}
use Rattle.mailbox.specs.Mail.{Mail, with_sent}
use Rattle.spec_control.specs.declared.letter.Word.{Word}
use Rattle.spec_control.specs.Stage.{has_ended}
use Rattle.spec_control.specs.PairPhase.{Opens as IsOpened}
use Rattle.spec_control.specs.Row.{Row}
use Rattle.spec_control.specs.Rows.{PairRow, no_pair, obj, pair, pair_after, end_owner}
use Rattle.spec_control.specs.Control.{Control, attach, owner_of, put}
use Rattle.control_laws.proofs.StepLemmas.{after_owner}
use Rattle.ctl_state.specs.declared.command.Command.{Command}
use Rattle.ctl_state.specs.declared.pair.Spot.TheVariants.{Unmade}
use Rattle.ctl_state.specs.declared.state.State.{State}
use Rattle.ctl_state.specs.Boxes.{mail_at, with_mail}
use Rattle.ctl_state.specs.Listed.{with_last}
use Rattle.ctl_state.specs.Lists.{belongings_at, with_ends}
use Rattle.ctl_state.specs.Needs.{AreMet}
use Rattle.ctl_state.specs.Objects.{TakesBind, TakesEnd}
use Rattle.ctl_state.specs.Pairs.{owner_at, spot_at}
use Rattle.ctl_state.specs.Parts.{opened, sent_to}
use Rattle.ctl_state.specs.Stands.{Stands, Updates, letter_for, slot_of}
use Rattle.ctl_state.proofs.EndLemmas.{owner_stands}
use Rattle.ctl_state.proofs.ReadLemmas.{read_kept}
use Rattle.ctl_moves.specs.Opening.{MayOpen, Opens}

-- a pair's making leaves its owners
pub opened_owner : (c : Control) (first d : EndId) → owner_of (attach IsOpened first c) d ≡ owner_of c d
opened_owner c first d =
    read_kept (λ (p : PairRow). end_owner p d.a) c.rows.pairs first.pair.0 d.pair.0 (pair_after IsOpened first.a (pair c.rows first.pair.0)) no_pair
    (after_owner IsOpened first.a d.a (pair c.rows first.pair.0))

module _ {L : Type 0} (s : State L) (first : EndId) (w : MayOpen s first) where
  module _ (met : AreMet s w.control) where
    owner_is : owner_of w.control first ≡ (owner_at s.pairs first).0
    owner_is = owner_stands s first w.control w.stands

    other_is : owner_of w.control (other_end first) ≡ (owner_at s.pairs (other_end first)).0
    other_is = owner_stands s (other_end first) w.control w.stands

    pub mine_unmade : spot_at s.pairs first ≡ Unmade
    mine_unmade = met.unmade first w.mine

    pub theirs_unmade : spot_at s.pairs (other_end first) ≡ Unmade
    theirs_unmade = met.unmade (other_end first) w.theirs

    pub takes_end : TakesEnd s.objects (owner_at s.pairs first)
    takes_end = record {
      unended = met.unended (owner_at s.pairs first) (subst (λ (n : ℕ). has_ended (obj w.control.rows n).stage ≡ false) owner_is w.lives);
      fits = met.ends_fit (owner_at s.pairs first).0 w.few_pairs;
      room = subst (λ (n : ℕ). 0 < (belongings_at s.objects.lists n).ends.spare) owner_is w.place;
    }

    pub takes_bind : TakesBind s.objects (owner_at s.pairs (other_end first))
    takes_bind = record {
      unended = met.unended (owner_at s.pairs (other_end first)) (subst (λ (n : ℕ). has_ended (obj w.control.rows n).stage ≡ false) other_is w.other_lives);
      fits = met.sent_fits (owner_at s.pairs (other_end first)).0 w.few_objects (few_more w.few_pairs);
    }
      where
        few_more : {n : ℕ} → n < 2 ^ 30 → n < 2 ^ 62
        few_more h = omega (arith, h)

  module _ (mid : State L) (is : mid ≡ opened first s) (stands : Stands mid (attach IsOpened first w.control)) (owner : ObjId) (of : owner_of (attach IsOpened first w.control) (other_end first) ≡ owner.0) where
    -- the mailbox of the other end's owner, behind the making
    slot_is : slot_of mid owner.0 ≡ (obj w.control.rows (owner_of w.control (other_end first))).slot
    slot_is =
        sym (ap (λ (r : Row). r.slot) (stands.objects.each owner.0))
        ∙ ap (λ (n : ℕ). (obj w.control.rows n).slot) (sym of ∙ opened_owner w.control first (other_end first))

    boxes_are : mid.boxes ≡ s.boxes
    boxes_are = ap (λ (x : State L). x.boxes) is

    pub bind_room : 0 < (mail_at mid.boxes (slot_of mid owner.0)).spare
    bind_room =
        subst (λ (b : List (Mail (Command L))). 0 < (mail_at b (slot_of mid owner.0)).spare) (sym boxes_are)
        (subst (λ (n : ℕ). 0 < (mail_at s.boxes n).spare) (sym slot_is) w.room)

    pub opens : (met : AreMet s w.control) (t : State L) (bind : Word) (load : Option L) → Updates (put owner.0 bind) mid t → t ≡ sent_to (slot_of mid owner.0) (letter_for owner bind load) mid → Opens w.control first bind load s t
    opens met t bind load updates next = record {
      stands = subst (λ (n : ℕ). Stands t (put n bind (attach IsOpened first w.control))) (sym of) (updates (attach IsOpened first w.control) stands);
      puts = record {
        place = slot_of mid owner.0;
        command = letter_for owner bind load;
        word_is = refl;
        load_is = refl;
        room = subst (λ (b : List (Mail (Command L))). 0 < (mail_at b (slot_of mid owner.0)).spare) boxes_are bind_room;
        is = subst (λ (b : List (Mail (Command L))). t.boxes ≡ put_in b) boxes_are (ap (λ (x : State L). x.boxes) next);
      };
      lists =
          ap (λ (x : State L). x.objects.lists) next ∙ ap (λ (x : State L). x.objects.lists) is
          ∙ ap (λ (n : ℕ). with_ends (with_last first) n s.objects.lists) (sym (owner_is met));
    }
      where
        put_in : List (Mail (Command L)) → List (Mail (Command L))
        put_in b = with_mail (slot_of mid owner.0) (with_sent (letter_for owner bind load) (mail_at b (slot_of mid owner.0))) b
