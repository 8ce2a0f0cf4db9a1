-- Behind the oldest command of a mailbox that brings no end of a closed socket.
use Rattle.std.specs.Prelude.{◌≡◌, ◌++◌, ◌∷◌, [], ℕ, false, List, refl}
use Rattle.std.proofs.Common.{sym, ap, ◌∙◌, subst}
use Rattle.zq_base.specs.declared.ids.SlotId.{SlotId}
use Rattle.spec_control.specs.declared.entry.Did.{Did}
use Rattle.spec_control.specs.declared.entry.Did.TheVariants.{Delivered}
use Rattle.spec_control.specs.Control.{begun}
use Rattle.spec_control.specs.ControlRun.{after_all}
use Rattle.spec_control.specs.Names.{AreNamed}
use Rattle.spec_control.specs.Has.{IsBy}
use Rattle.desk.specs.declared.given.Given.{Given}
use Rattle.desk.specs.Holding.{Holding}
use Rattle.desk.specs.Load.{brings_ends}
use Rattle.desk.specs.Turns.{HasTurned}
use Rattle.desk.specs.Desk.{HasWhatTheySay, KeepsUp}
use Rattle.ctl_plane.specs.Coming.{ComesWith}
use Rattle.ctl_plane.specs.Hearing.{HasWhat, TakesOldest}
use Rattle.ctl_plane.specs.Past.{IsPast, Past, control_of, items_of, only_given, with_event}
use Rattle.plain_desk.specs.declared.mark.Mark.{Mark}
use Rattle.plain_desk.specs.declared.mark.Mark.TheVariants.{Event}
use Rattle.plain_desk.specs.Order.{order_of}
use Rattle.plain_desk.specs.Lent.{Hears, IsLent, IsOfSocket, Lent, lent_to, moments_of}
use Rattle.plain_desk.proofs.DeliverLemmas.{deliver_brings, deliver_by, word_none}
use Rattle.plain_desk.proofs.HoldLemmas.{desk_happens}
use Rattle.plain_desk.proofs.LentLemmas.{lent_more}
use Rattle.plain_desk.proofs.OrderLemmas.{event_more}

-- whoever may take it
module _ {N O I S : Type 0} (out_name : O → N) (in_name : I → N) (ms ms' : List Mark) (past new : Past (Given N O I) N S) (wakers by : ℕ) (l : Lent (Given N O I) N S) (seen : lent_to by ms past ≡ l) (lent : IsLent ms past wakers)
    (slot : SlotId) (marks : ms' ≡ ms ++ Event by ∷ []) (took : TakesOldest out_name in_name slot past new) (run : IsPast new) (named : AreNamed [] (items_of new)) (none : brings_ends took.letter.word ≡ false)
    (is_by : IsBy (order_of ms past.events) (after_all (order_of ms past.events) (begun past.workers)) (let did : Did N S = Delivered slot took.letter took.answered in did) by) where
  abbrev did : Did N S
  did = Delivered slot took.letter took.answered

  stays : new.given ≡ past.given
  stays = sym (took.brings.first ∙ ap (λ (gs : List (Given N O I)). gs ++ new.given) (took.brings.others none))

  pub took_step : new ≡ with_event (Delivered slot took.letter took.answered) past
  took_step = took.step ∙ ap (λ (gs : List (Given N O I)). only_given gs (with_event did past)) stays

  pub took_lent : IsLent ms' new wakers
  took_lent = lent_more ms ms' by wakers past new did marks took_step lent run named is_by (word_none took.letter.to.0 took.letter.word)

  pub took_done : Hears slot l (lent_to by ms' new)
  took_done =
      subst (λ (d : Lent (Given N O I) N S). Hears slot d (lent_to by ms' new)) seen (record {
        letter = took.letter;
        behind = took.behind;
        oldest = took.oldest;
        answered = took.answered;
        past = took_step;
        items = ap (λ (xs : List Mark). order_of xs new.events) marks ∙ ap (λ (p : Past (Given N O I) N S). order_of (ms ++ Event by ∷ []) p.events) took_step ∙ event_more ms past.events by did lent.marked;
        caller = refl;
      })

  pub took_keeps : (h k : Holding N) → HasWhatTheySay l.caller (moments_of l) h → HasWhat new k → HasTurned (control_of past) (control_of new) h k → ComesWith past new h k → KeepsUp by (moments_of l) (moments_of (lent_to by ms' new)) h k
  took_keeps h k say all turned comes =
      desk_happens ms past wakers by l seen lent h say ms' wakers new did k marks (ap (λ (p : Past (Given N O I) N S). p.workers) took_step) (ap (λ (p : Past (Given N O I) N S). p.events) took_step) took_lent run (λ i x. refl) (λ i. refl) all turned comes

-- who has the socket whose mailbox it is
module _ {N O I S : Type 0} (out_name : O → N) (in_name : I → N) (ms ms' : List Mark) (past new : Past (Given N O I) N S) (wakers by : ℕ) (l : Lent (Given N O I) N S) (seen : lent_to by ms past ≡ l) (lent : IsLent ms past wakers)
    (h k : Holding N) (say : HasWhatTheySay l.caller (moments_of l) h) (slot : SlotId) (mine : IsOfSocket slot.0 l h) (marks : ms' ≡ ms ++ Event by ∷ [])
    (took : TakesOldest out_name in_name slot past new) (run : IsPast new) (named : AreNamed [] (items_of new)) where
  none : brings_ends took.letter.word ≡ false
  none = deliver_brings ms past wakers by l seen lent h say slot.0 mine took.letter took.behind took.oldest

  its_by : IsBy (order_of ms past.events) (after_all (order_of ms past.events) (begun past.workers)) (let did : Did N S = Delivered slot took.letter took.answered in did) by
  its_by = deliver_by ms past wakers by l seen lent h say slot.0 mine took.letter took.behind took.oldest took.answered

  pub heard_lent : IsLent ms' new wakers
  heard_lent = took_lent out_name in_name ms ms' past new wakers by l seen lent slot marks took run named none its_by

  pub heard_done : Hears slot l (lent_to by ms' new)
  heard_done = took_done out_name in_name ms ms' past new wakers by l seen lent slot marks took run named none its_by

  pub heard_keeps : HasWhat new k → HasTurned (control_of past) (control_of new) h k → ComesWith past new h k → KeepsUp by (moments_of l) (moments_of (lent_to by ms' new)) h k
  heard_keeps all turned comes = took_keeps out_name in_name ms ms' past new wakers by l seen lent slot marks took run named none its_by h k say all turned comes
