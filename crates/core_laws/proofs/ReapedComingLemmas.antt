-- What is on its way to closed sockets fits them.
use Rattle.std.specs.Prelude.{◌≡◌, ℕ, true, Some, All}
use Rattle.std.proofs.Common.{sym, ap, ◌∙◌, subst}
use Rattle.zq_base.specs.Ends.{other_end, PipeId}
use Rattle.zq_base.specs.declared.ids.EndId.{EndId}
use Rattle.msg_pipe.specs.Known.{Known, IsThere}
use Rattle.spec_control.specs.Place.{Place, Unmade, Away, At, is_away, is_here}
use Rattle.spec_control.specs.Control.{Control, place_of}
use Rattle.spec_control.specs.Names.{name_of}
use Rattle.control_laws.proofs.ListLemmas.{left, never}
use Rattle.ctl_moves.proofs.HeldLemmas.{other_twice}
use Rattle.desk.specs.declared.given.Given.{Given}
use Rattle.desk.specs.declared.halves.Halves.{Halves}
use Rattle.desk.specs.Lent.{HasAll}
use Rattle.desk.specs.TakingOver.{AreDistinct}
use Rattle.ctl_plane.specs.Past.{control_of}
use Rattle.desk.specs.Desk.{HasWhatTheySay}
use Rattle.control_laws.proofs.HaveLemmas.{lent_holders_have_it}
use Rattle.closed_ends.specs.declared.sockets.ClosedSockets.{ClosedSockets}
use Rattle.closed_ends.specs.Has.{all_ends, holding_in}
use Rattle.closed_ends.specs.Sound.{AreSound, IsElseOf, MayJoin}
use Rattle.core_laws.proofs.HereLemmas.{all_here, IsHere}
use Rattle.plain_desk.specs.Lent.{coming_to, moments_of, IsOneOrder, Lent}
use Rattle.core_laws.specs.ReapedComing.{AwayUnsealed, ClosedBindsFit}

pub here_not_away : (p : Place) → is_here p ≡ true → is_away p ≡ true → ⊥
here_not_away Unmade here away = never away
here_not_away Away here away = never here
here_not_away (At state) here away = never away

module _ {S O I N : Type 0} (K : Known S O I N) {G T : Type 0} (d : Lent G N T) (order : IsOneOrder d) (pipes : S) (closed : ClosedSockets N O I) (sound : AreSound K pipes closed.sockets.items)
    (say : HasWhatTheySay d.caller (moments_of d) (holding_in K.out_name K.in_name closed)) where
  -- the reaper has what the control state says
  pub has_now : HasAll (name_of d.items) (control_of d.past) (holding_in K.out_name K.in_name closed)
  has_now =
      let all = order.order in
      subst (λ (x : Control). HasAll (name_of d.items) x (holding_in K.out_name K.in_name closed)) (sym order.control)
      (lent_holders_have_it N T d.past.workers d.items all.run all.named all.by d.caller (holding_in K.out_name K.in_name closed) say)

  pub ends_here : All (IsHere K.in_name (control_of d.past) (name_of d.items)) (all_ends closed.sockets.items)
  ends_here = all_here K (control_of d.past) (name_of d.items) pipes closed sound has_now

  module _ (distinct : AreDistinct K.exact (name_of d.items)) (there : (p : PipeId) (n : N) → name_of d.items p ≡ Some n → IsThere K pipes n) (free : AwayUnsealed K d pipes)
      (m : ℕ) (e : EndId) (x : Halves O I) (coming : coming_to d m e ≡ true) (written : name_of d.items e ≡ Some (K.out_name x.out)) (read : name_of d.items (other_end e) ≡ Some (K.in_name x.input)) where
    away : is_away (place_of (control_of d.past) e) ≡ true
    away = left (is_away (place_of (control_of d.past) e)) _ coming

    another : (g : Given N O I) → IsHere K.in_name (control_of d.past) (name_of d.items) g → g.end ≡ e → ⊥
    another g is same = here_not_away (place_of (control_of d.past) e) (subst (λ (y : EndId). is_here (place_of (control_of d.past) y) ≡ true) same is.here) away

    else_of : (g : Given N O I) → IsHere K.in_name (control_of d.past) (name_of d.items) g → IsElseOf K g x
    else_of g is = record {
      written = λ exact same. another g is (distinct exact g.end e (K.out_name x.out) (is.written ∙ ap (λ (n : N). Some n) same) written);
      read = λ exact same. another g is (sym (other_twice g.end) ∙ ap other_end (distinct exact (other_end g.end) (other_end e) (K.in_name x.input) (is.read ∙ ap (λ (n : N). Some n) same) read) ∙ other_twice e);
    }

    pub may_join : MayJoin K pipes closed x
    may_join = record {
      out_there = there e (K.out_name x.out) written;
      in_there = there (other_end e) (K.in_name x.input) read;
      unsealed = free e x.out away written;
      others = λ k g lt. else_of _ (ends_here k g lt);
    }

pub closed_binds_fit : {S O I N : Type 0} (K : Known S O I N) (G T : Type 0) → ClosedBindsFit K G T
closed_binds_fit K G T d order distinct pipes there free closed sound say m i served e x coming written read =
    may_join K d order pipes closed sound say distinct there free m e x coming written read
