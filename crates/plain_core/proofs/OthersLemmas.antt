-- A call of one open socket of a core leaves the others.
use Rattle.std.specs.Prelude.{◌≡◌, ◌≢◌, ◌<◌, ℕ, false, Option, Some, None}
use Rattle.std.proofs.Common.{sym, ap, ◌∙◌, subst}
use Rattle.spec_control.specs.Rows.{obj}
use Rattle.spec_control.specs.Control.{Control, begun, next_object}
use Rattle.spec_control.specs.ControlRun.{after_all}
use Rattle.msg_pipe.specs.Known.{Known}
use Rattle.desk.specs.declared.given.Given.{Given}
use Rattle.ctl_plane.specs.Past.{control_of}
use Rattle.any_sock.specs.declared.any_sock.AnySock.{AnySock}
use Rattle.sock_core.specs.declared.sock.SockCore.{SockCore}
use Rattle.plain_desk.specs.Lent.{moments_of, IsOneOrder, Lent}
use Rattle.core_laws.specs.Agrees.{AgreesIn}
use Rattle.core_laws.specs.Calls.{for_caller, AreCallsOn, SaySame}
use Rattle.core_laws.proofs.GrownLemmas.{objects_are_there}
use Rattle.core_laws.proofs.SilentLemmas.{others_say_the_same}
use Rattle.zq_world.specs.Way.{KeepsOthers}
use Rattle.plain_core.specs.Agreeing.{as_open, was_made, Agrees}
use Rattle.plain_core.specs.Sound.{Core}
use Rattle.plain_core.proofs.KeepLemmas.{ready_still}

-- what a control plane with one worker made, by its order
pub control_one : {G N T : Type 0} (d : Lent G N T) → IsOneOrder d → d.past.workers ≡ 1 → control_of d.past ≡ after_all d.items (begun 1)
control_one d order one = order.control ∙ ap (λ (n : ℕ). after_all d.items (begun n)) one

module _ (W : Type 0) {S N O I T : Type 0} (K : Known S O I N) (k o : ℕ) (v w : Core S (Given N O I) N T) (calls : AreCallsOn o (for_caller k v.desk) w.desk) (one : v.desk.past.workers ≡ 1)
    (wanted : w.wanted ≡ false → v.wanted ≡ false)
    (agree : (j : ℕ) (t : SockCore AnySock W N O I) → (j ≡ k → t.number.0 ≢ o) → AgreesIn K v.desk j v.pipes t → AgreesIn K w.desk j w.pipes t) where
  say : (j : ℕ) (t : SockCore AnySock W N O I) → (j ≡ k → t.number.0 ≢ o) → AgreesIn K v.desk j v.pipes t → SaySame t.number.0 (moments_of (for_caller j v.desk)) (moments_of (for_caller j w.desk))
  say j t other is = others_say_the_same (Given N O I) N T (for_caller k v.desk) w.desk o calls j t.number.0 other is.owned.is_open

  one_keeps : (j : ℕ) (s : Option (SockCore AnySock W N O I)) → Agrees W K v j s → (j ≡ k → (as_open s).object ≢ o) → Agrees W K w j s
  one_keeps j None is other = is
  one_keeps j (Some t) is other = let same = say j t other is.agrees in record {
    agrees = agree j t other is.agrees;
    box = ap (λ (c : Control). (obj c.rows t.number.0).slot) same.left ∙ is.box;
    ready = ready_still W K v w j t wanted same.left is.ready;
  }

  made_still : (i : ℕ) → was_made v i → was_made w i
  made_still i made =
      subst (λ (c : Control). i < next_object c) (control_one w.desk calls.behind (calls.grows.workers ∙ one))
      (objects_are_there (Given N O I) N T (for_caller k v.desk) w.desk calls.before calls.behind calls.grows i
      (subst (λ (c : Control). i < next_object c) (sym (control_one (for_caller k v.desk) calls.before one)) made))

  pub others_kept : KeepsOthers as_open (Agrees W K) was_made k o v w
  others_kept = record { sockets = one_keeps; numbers = made_still }
