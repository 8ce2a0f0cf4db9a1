-- A socket is closed, and its ends are on their way.
use Rattle.std.specs.Prelude.{◌≡◌, ◌≢◌, ◌==◌, ◌++◌, ◌∷◌, [], ℕ, Bool, true, false, List, None, if◌then◌else◌, refl}
use Rattle.std.specs.List.{list_any}
use Rattle.std.proofs.Common.{sym, ap, ◌∙◌, subst, inl}
use Rattle.std.proofs.lemmas.Bool.{ne_eqb}
use Rattle.zq_base.specs.declared.ids.ObjId.{ObjId}
use Rattle.spec_control.specs.declared.entry.Answered.{Answered}
use Rattle.spec_control.specs.declared.entry.Did.{Did}
use Rattle.spec_control.specs.declared.entry.Did.TheVariants.{Asked}
use Rattle.spec_control.specs.declared.request.Req.TheVariants.{Close}
use Rattle.spec_control.specs.declared.request.Reply.TheVariants.{Done}
use Rattle.spec_control.specs.Control.{Control, begun}
use Rattle.spec_control.specs.ControlRun.{after_all}
use Rattle.spec_control.specs.Names.{AreNamed}
use Rattle.spec_control.specs.Has.{IsBy}
use Rattle.control_laws.specs.OwnMoves.{own_moves}
use Rattle.control_laws.proofs.ListLemmas.{never}
use Rattle.desk.specs.declared.given.Given.{Given}
use Rattle.desk.specs.Holding.{HasGiven, Holding}
use Rattle.msg_pipe.specs.Known.{Known}
use Rattle.ctl_plane.specs.Closing.{Closes}
use Rattle.ctl_plane.specs.Past.{Past, control_of, items_of, with_event, with_given, IsPast}
use Rattle.control_laws.proofs.HeldRowLemmas.{makes_object}
use Rattle.plain_desk.specs.declared.mark.Mark.{Mark}
use Rattle.plain_desk.specs.declared.mark.Mark.TheVariants.{Event}
use Rattle.plain_desk.specs.Order.{order_of, AreMarked}
use Rattle.plain_desk.specs.Lent.{lent_to, ClosesOnce, IsLent}
use Rattle.plain_desk.proofs.HoldLemmas.{Leaves}
use Rattle.plain_desk.proofs.LentLemmas.{lent_more}
use Rattle.plain_desk.proofs.OrderLemmas.{event_more}

module _ {G N S : Type 0} (ms ms' : List Mark) (by wakers : ℕ) (old new : Past G N S) (gs : List G) (did : Did N S) (marks : ms' ≡ ms ++ Event by ∷ []) (step : new ≡ with_given gs (with_event did old)) where
  pub lent_closed : IsLent ms old wakers → IsPast new → AreNamed [] (items_of new) →
      IsBy (order_of ms old.events) (after_all (order_of ms old.events) (begun old.workers)) did by → list_any makes_object (own_moves (control_of old) did) ≡ false → IsLent ms' new wakers
  lent_closed lent run named is none =
      let mid = lent_more ms ms' by wakers old (with_event did old) did marks refl lent (subst (λ (p : Past G N S). IsPast p) step run) (subst (λ (p : Past G N S). AreNamed [] (items_of p)) step named) is none in
      subst (λ (p : Past G N S). IsLent ms' p wakers) (sym step) (record { marked = mid.marked; order = mid.order; options = mid.options; wakers = mid.wakers; boxes = mid.boxes })

-- the holder of the socket has no more of it
pub leaves_closed : {N S : Type 0} (c : Control) (socket : ObjId) (a : Answered N S) (h k : Holding N) → HasGiven socket.0 h k → Leaves c (Asked (Close socket) Done a) h k
leaves_closed c socket a h k gives = record {
  objects = λ i e. inl (sym (gives.others i (other i e)).0 ∙ e, (gives.others i (other i e)).1.1);
  same = λ i e x. ap (λ (b : Bool). if b then None else x) (apart i e);
  stays = λ i e. apart i e;
}
  where
    other : (i : ℕ) → k.holds i ≡ true → i ≢ socket.0
    other i e same = never (sym gives.gone ∙ ap k.holds (sym same) ∙ e)

    apart : (i : ℕ) → k.holds i ≡ true → (socket.0 == i) ≡ false
    apart i e = ne_eqb socket.0 i (λ same. other i e (sym same))

module _ {P N O I S : Type 0} (K : Known P O I N) (ms ms' : List Mark) (by : ℕ) (old new : Past (Given N O I) N S) (pipes : P) (h : Holding N) (socket : ObjId) (marks : ms' ≡ ms ++ Event by ∷ []) (closes : Closes K pipes h socket old new) (marked : AreMarked ms old.events) where
  pub closes_more : ClosesOnce K pipes h socket (lent_to by ms old) (lent_to by ms' new)
  closes_more = record {
    ends = closes.ends;
    given = closes.given;
    sealed = closes.sealed;
    all = closes.all;
    answered = closes.answered;
    past = closes.step;
    items = ap (λ (xs : List Mark). order_of xs new.events) marks ∙ ap (λ (p : Past (Given N O I) N S). order_of (ms ++ Event by ∷ []) p.events) closes.step
        ∙ event_more ms old.events by (Asked (Close socket) Done closes.answered) marked;
    caller = refl;
  }
