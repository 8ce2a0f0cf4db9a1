-- PUSH, PULL, PAIR and DEALER: a send and a receive by turn have one outcome.
use Rattle.std.proofs.Common.{◌≡◌, ◌∙◌, ℕ, List, Bool, Option, Some, None, All, sym, ap}
use Rattle.zq_base.specs.Message.{Frames}
use Rattle.zq_base.specs.Ends.{PipeId}
use Rattle.zq_base.specs.declared.kind.Kind.{Kind}
use Rattle.zq_base.specs.declared.kind.Kind.TheVariants.{Push, Pull, Pair, Dealer}
use Rattle.spec_pattern.specs.PipeStep.{PipeStep}
use Rattle.spec_pattern.specs.TurnList.{End}
use Rattle.spec_pattern.specs.Duty.{Free}
use Rattle.spec_pattern.specs.Refusals.{send_refusal, recv_refusal}
use Rattle.spec_pattern.specs.Pipeline.{PushSends, PullReceives}
use Rattle.spec_pattern.specs.Call.{KindSends, KindReceives, SendsUnless, ReceivesUnless, SendStep, RecvStep}
use Rattle.spec_pattern.specs.declared.answers.SendRefusal.{SendRefusal}
use Rattle.spec_pattern.specs.declared.answers.RecvRefusal.{RecvRefusal}
use Rattle.spec_pattern.specs.declared.answers.SendAnswer.{SendAnswer}
use Rattle.spec_pattern.specs.declared.answers.SendAnswer.TheVariants as sent
use Rattle.spec_pattern.specs.declared.answers.RecvAnswer.{RecvAnswer}
use Rattle.spec_pattern.specs.declared.answers.RecvAnswer.TheVariants as got
use Rattle.spec_pattern.proofs.StepLemmas.{IsSettled}
use Rattle.spec_pattern.proofs.OutLemmas.{Place, turns_from, out_settled, out_or_none}
use Rattle.spec_pattern.proofs.InLemmas.{Found, in_settled, in_or_none, none_settled}

-- what comes of a send of these turns, and of a receive: the answer and the turns after
abbrev pub SendsBy : ((List PipeStep → SendAnswer → List End → Type 0)) → List PipeStep → SendAnswer × List End → Type 0
SendsBy Step steps end_ = Step steps end_.0 end_.1

abbrev pub ReceivesBy : ((List PipeStep → RecvAnswer → List End → Type 0)) → List PipeStep → RecvAnswer × List End → Type 0
ReceivesBy Step steps end_ = Step steps end_.0 end_.1

-- two capacities that agree somewhere agree the other way round
pub agree_back : (c d : PipeId → ℕ) (ends : List End) → All (λ e. c e ≡ d e) ends → All (λ e. d e ≡ c e) ends
agree_back c d ends agree = λ k e less. sym (agree k e less)

module _ (c d : PipeId → ℕ) where
  pub push_settled : (w : End → Bool) (m : Frames) (turns : List End) → All (λ e. c e ≡ d e) turns → IsSettled c d (SendsBy (PushSends w m turns))
  push_settled w m turns agree past xs ys (sent.One to, new) (sent.One to2, new2) g h x y =
      let one = out_settled c d w m turns agree past xs ys to to2 new new2 g h x y in
      let to_one : to ≡ to2 = g.to_is ∙ ap (λ (p : Place). p.peer.pair) one.same_end ∙ sym h.to_is in
      let new_one : new ≡ new2 = g.new_is ∙ ap turns_from one.same_end ∙ sym h.new_is in
      record { same_steps = one.same_steps; same_end = λ i. (sent.One (to_one i), new_one i) }
  push_settled w m turns agree past xs ys (sent.One to, new) (sent.Refused r, new2) g (again, none) x y =
      absurd (out_or_none c d w m turns agree past xs ys to new new2 g none x y)
  push_settled w m turns agree past xs ys (sent.Refused r, new) (sent.One to, new2) (again, none) h x y =
      absurd (out_or_none d c w m turns (agree_back c d turns agree) past ys xs to new2 new h none y x)
  push_settled w m turns agree past xs ys (sent.Refused r, new) (sent.Refused r2, new2) (again, none) (again2, none2) x y =
      let refused : r ≡ r2 = again ∙ sym again2 in
      let same : new ≡ new2 = none.new_is ∙ sym none2.new_is in
      record { same_steps = none.steps_are ∙ sym none2.steps_are; same_end = λ i. (sent.Refused (refused i), same i) }
  push_settled w m turns agree past xs ys (sent.Many report, new) b g h x y = elim g [ ]
  push_settled w m turns agree past xs ys (sent.Subscribed, new) b g h x y = elim g [ ]
  push_settled w m turns agree past xs ys (sent.Dropped rule, new) b g h x y = elim g [ ]
  push_settled w m turns agree past xs ys (sent.One to, new) (sent.Many report, new2) g h x y = elim h [ ]
  push_settled w m turns agree past xs ys (sent.One to, new) (sent.Subscribed, new2) g h x y = elim h [ ]
  push_settled w m turns agree past xs ys (sent.One to, new) (sent.Dropped rule, new2) g h x y = elim h [ ]
  push_settled w m turns agree past xs ys (sent.Refused r, new) (sent.Many report, new2) g h x y = elim h [ ]
  push_settled w m turns agree past xs ys (sent.Refused r, new) (sent.Subscribed, new2) g h x y = elim h [ ]
  push_settled w m turns agree past xs ys (sent.Refused r, new) (sent.Dropped rule, new2) g h x y = elim h [ ]

  pub pull_settled : (turns : List End) → IsSettled c d (ReceivesBy (PullReceives turns))
  pull_settled turns past xs ys (got.Got from_ m, new) (got.Got from2 n, new2) g h x y =
      let one = in_settled c d turns past xs ys m n from_ from2 new new2 g h x y in
      let from_one : from_ ≡ from2 = g.from_is ∙ ap (λ (f : Found). f.place.peer.pair) one.same_end ∙ sym h.from_is in
      let message : m ≡ n = ap (λ (f : Found). f.message) one.same_end in
      let new_one : new ≡ new2 = g.new_is ∙ ap (λ (f : Found). turns_from f.place) one.same_end ∙ sym h.new_is in
      record { same_steps = one.same_steps; same_end = λ i. (got.Got (from_one i) (message i), new_one i) }
  pull_settled turns past xs ys (got.Got from_ m, new) (got.Refused r, new2) g (again, none) x y =
      absurd (in_or_none c d turns past xs ys m from_ new new2 g none x y)
  pull_settled turns past xs ys (got.Refused r, new) (got.Got from_ m, new2) (again, none) h x y =
      absurd (in_or_none d c turns past ys xs m from_ new2 new h none y x)
  pull_settled turns past xs ys (got.Refused r, new) (got.Refused r2, new2) (again, none) (again2, none2) x y =
      let one = none_settled c d turns past xs ys new new2 none none2 x y in
      let refused : r ≡ r2 = again ∙ sym again2 in
      record { same_steps = one.same_steps; same_end = λ i. (got.Refused (refused i), one.same_end i) }

  -- a kind that sends by turn, and one that receives by turn
  kind_sends : (kind : Kind) (w : End → Bool) (m : Frames) (turns : List End) → All (λ e. c e ≡ d e) turns → IsSettled c d (SendsBy (KindSends kind w m turns))
  kind_sends Push w m turns agree past xs ys a b g h x y = push_settled w m turns agree past xs ys a b g h x y
  kind_sends Pair w m turns agree past xs ys a b g h x y = push_settled w m turns agree past xs ys a b g h x y
  kind_sends Dealer w m turns agree past xs ys a b g h x y = push_settled w m turns agree past xs ys a b g h x y
  kind_sends _ w m turns agree past xs ys a b g h x y = elim g [ ]

  kind_receives : (kind : Kind) (turns : List End) → IsSettled c d (ReceivesBy (KindReceives kind turns))
  kind_receives Pull turns past xs ys a b g h x y = pull_settled turns past xs ys a b g h x y
  kind_receives Pair turns past xs ys a b g h x y = pull_settled turns past xs ys a b g h x y
  kind_receives Dealer turns past xs ys a b g h x y = pull_settled turns past xs ys a b g h x y
  kind_receives _ turns past xs ys a b g h x y = elim g [ ]

  send_unless : (refusal : Option SendRefusal) (kind : Kind) (w : End → Bool) (m : Frames) (turns : List End) → All (λ e. c e ≡ d e) turns
      → IsSettled c d (SendsBy (SendsUnless refusal (KindSends kind w m turns) turns))
  send_unless None kind w m turns agree past xs ys a b g h x y = kind_sends kind w m turns agree past xs ys a b g h x y
  send_unless (Some r) kind w m turns agree past xs ys a b g h x y =
      let answer = g.0 ∙ sym h.0 in
      let new = g.2 ∙ sym h.2 in
      record { same_steps = g.1 ∙ sym h.1; same_end = λ i. (answer i, new i) }

  receive_unless : (refusal : Option RecvRefusal) (kind : Kind) (turns : List End) → IsSettled c d (ReceivesBy (ReceivesUnless refusal (KindReceives kind turns) turns))
  receive_unless None kind turns past xs ys a b g h x y = kind_receives kind turns past xs ys a b g h x y
  receive_unless (Some r) kind turns past xs ys a b g h x y =
      let answer = g.0 ∙ sym h.0 in
      let new = g.2 ∙ sym h.2 in
      record { same_steps = g.1 ∙ sym h.1; same_end = λ i. (answer i, new i) }

  pub send_step_settled : (kind : Kind) (w : End → Bool) (m : Frames) (turns : List End) → All (λ e. c e ≡ d e) turns → IsSettled c d (SendsBy (SendStep kind w m turns))
  send_step_settled kind w m turns agree past xs ys a b g h x y = send_unless (send_refusal kind Free m) kind w m turns agree past xs ys a b g h x y

  pub recv_step_settled : (kind : Kind) (turns : List End) → IsSettled c d (ReceivesBy (RecvStep kind turns))
  recv_step_settled kind turns past xs ys a b g h x y = receive_unless (recv_refusal kind Free) kind turns past xs ys a b g h x y
