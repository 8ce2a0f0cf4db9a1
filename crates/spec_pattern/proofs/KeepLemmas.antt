-- A call by turn keeps the turn list's ends, in some order.
use Rattle.std.proofs.Common.{◌≡◌, ◌∙◌, ℕ, List, [], ◌∷◌, ◌++◌, Bool, Option, Some, None, Contains, IsPermutation, refl, sym, subst, append_assoc, arith}
use Rattle.std.proofs.lemmas.List.Sorted.{IsPermutation-refl, IsPermutation-sym, IsPermutation-trans, IsPermutation-append_comm, Contains-permutation}
use Rattle.std.proofs.lemmas.List.Elements.{Contains-append_right}
use Rattle.zq_base.specs.Message.{Frames}
use Rattle.zq_base.specs.declared.ids.PairId.{PairId}
use Rattle.zq_base.specs.declared.kind.Kind.{Kind}
use Rattle.zq_base.specs.declared.kind.Kind.TheVariants.{Push, Pull, Pair, Dealer}
use Rattle.spec_pattern.specs.PipeStep.{PipeStep}
use Rattle.spec_pattern.specs.TurnList.{End, turns_after, GoesOut, ComesIn}
use Rattle.spec_pattern.specs.Duty.{Duty, Free}
use Rattle.spec_pattern.specs.Drops.{Round, Given, Comes, ComeByTurn, EndsReceive, given, again, busy, ReceivesDropping}
use Rattle.spec_pattern.specs.Refusals.{send_refusal, recv_refusal}
use Rattle.spec_pattern.specs.Pipeline.{PushSends, PullReceives}
use Rattle.spec_pattern.specs.Call.{KindSends, KindReceives, SendsUnless, ReceivesUnless, SendStep, RecvStep}
use Rattle.spec_pattern.specs.declared.answers.Rule.{Rule}
use Rattle.spec_pattern.specs.declared.answers.Skip.{Skip}
use Rattle.spec_pattern.specs.declared.answers.SendRefusal.{SendRefusal}
use Rattle.spec_pattern.specs.declared.answers.RecvRefusal.{RecvRefusal}
use Rattle.spec_pattern.specs.declared.answers.SendAnswer.{SendAnswer}
use Rattle.spec_pattern.specs.declared.answers.SendAnswer.TheVariants as sent
use Rattle.spec_pattern.specs.declared.answers.RecvAnswer.{RecvAnswer}
use Rattle.spec_pattern.specs.declared.answers.RecvAnswer.TheVariants as got

pub stays : (old new : List End) → new ≡ old → IsPermutation old new
stays old new same = subst (IsPermutation old) (sym same) (IsPermutation-refl old)

-- the turns after one served
turned : (b : List End) (p : End) (a old new : List End) → old ≡ b ++ p ∷ a → new ≡ turns_after b p a → IsPermutation old new
turned b p a old new is new_is =
    let whole : (b ++ p ∷ []) ++ a ≡ old = append_assoc b (p ∷ []) a ∙ sym is in
    subst (λ l. IsPermutation l new) whole (subst (IsPermutation ((b ++ p ∷ []) ++ a)) (sym new_is) (IsPermutation-append_comm (b ++ p ∷ []) a))

pub out_turned : (w : End → Bool) (m : Frames) (turns : List End) (steps : List PipeStep) (to : PairId) (new : List End) → GoesOut w m turns steps to new → IsPermutation turns new
out_turned w m turns steps to new g = turned g.before g.peer g.after turns new g.turns_are g.new_is

pub in_turned : (turns : List End) (steps : List PipeStep) (m : Frames) (from_ : PairId) (new : List End) → ComesIn turns steps m from_ new → IsPermutation turns new
in_turned turns steps m from_ new g = turned g.before g.peer g.after turns new g.turns_are g.new_is

-- the one that served is among them
first_there : (p : End) (a : List End) → Contains (p ∷ a) p
first_there p a = (0, omega arith, refl)

pub is_there : (b : List End) (p : End) (a old : List End) → old ≡ b ++ p ∷ a → Contains old p
is_there b p a old is = subst (λ l. Contains l p) (sym is) (Contains-append_right b (p ∷ a) p (first_there p a))

push_turned : (w : End → Bool) (m : Frames) (turns : List End) (steps : List PipeStep) (answer : SendAnswer) (new : List End) → PushSends w m turns steps answer new → IsPermutation turns new
push_turned w m turns steps (sent.One to) new g = out_turned w m turns steps to new g
push_turned w m turns steps (sent.Refused r) new (again_is, none) = stays turns new none.new_is
push_turned w m turns steps _ new g = elim g [ ]

pub pull_turned : (turns : List End) (steps : List PipeStep) (answer : RecvAnswer) (new : List End) → PullReceives turns steps answer new → IsPermutation turns new
pull_turned turns steps (got.Got from_ m) new g = in_turned turns steps m from_ new g
pull_turned turns steps (got.Refused r) new (again_is, none) = stays turns new none.new_is

kind_sends : (kind : Kind) (w : End → Bool) (m : Frames) (turns : List End) (steps : List PipeStep) (answer : SendAnswer) (new : List End) → KindSends kind w m turns steps answer new → IsPermutation turns new
kind_sends Push w m turns steps answer new g = push_turned w m turns steps answer new g
kind_sends Pair w m turns steps answer new g = push_turned w m turns steps answer new g
kind_sends Dealer w m turns steps answer new g = push_turned w m turns steps answer new g
kind_sends _ w m turns steps answer new g = elim g [ ]

kind_receives : (kind : Kind) (turns : List End) (steps : List PipeStep) (answer : RecvAnswer) (new : List End) → KindReceives kind turns steps answer new → IsPermutation turns new
kind_receives Pull turns steps answer new g = pull_turned turns steps answer new g
kind_receives Pair turns steps answer new g = pull_turned turns steps answer new g
kind_receives Dealer turns steps answer new g = pull_turned turns steps answer new g
kind_receives _ turns steps answer new g = elim g [ ]

send_unless : (refusal : Option SendRefusal) (kind : Kind) (w : End → Bool) (m : Frames) (turns : List End) (steps : List PipeStep) (answer : SendAnswer) (new : List End)
    → SendsUnless refusal (KindSends kind w m turns) turns steps answer new → IsPermutation turns new
send_unless None kind w m turns steps answer new g = kind_sends kind w m turns steps answer new g
send_unless (Some r) kind w m turns steps answer new g = stays turns new g.2

receive_unless : (refusal : Option RecvRefusal) (kind : Kind) (turns : List End) (steps : List PipeStep) (answer : RecvAnswer) (new : List End)
    → ReceivesUnless refusal (KindReceives kind turns) turns steps answer new → IsPermutation turns new
receive_unless None kind turns steps answer new g = kind_receives kind turns steps answer new g
receive_unless (Some r) kind turns steps answer new g = stays turns new g.2

pub send_step_turned : (kind : Kind) (w : End → Bool) (m : Frames) (turns : List End) (steps : List PipeStep) (answer : SendAnswer) (new : List End) → SendStep kind w m turns steps answer new → IsPermutation turns new
send_step_turned kind w m turns steps answer new g = send_unless (send_refusal kind Free m) kind w m turns steps answer new g

pub recv_step_turned : (kind : Kind) (turns : List End) (steps : List PipeStep) (answer : RecvAnswer) (new : List End) → RecvStep kind turns steps answer new → IsPermutation turns new
recv_step_turned kind turns steps answer new g = receive_unless (recv_refusal kind Free) kind turns steps answer new g

-- ---- a receive that drops

pub comes_turned : (turns : List End) (r : Round) (steps : List PipeStep) (new : List End) → Comes turns r steps new → IsPermutation turns new
comes_turned turns r steps new g = in_turned turns steps r.message r.peer.pair new g.by_turn

came_turned : (turns : List End) (rs : List Round) (steps : List PipeStep) (new : List End) → ComeByTurn turns rs steps new → IsPermutation turns new
came_turned turns [] steps new g = stays turns new g.1
came_turned turns (r ∷ rs) steps new (first, rest, mid, comes, on, whole) =
    IsPermutation-trans turns mid new (comes_turned turns r first mid comes) (came_turned mid rs rest new on)

-- what is under way after a receive is what was before, or what the message of a peer gave
pub data IsDutyAfter (gives : End → Frames → Option Given) (turns : List End) (old duty : Duty) : Type 0 where
  as_before : duty ≡ old → IsDutyAfter gives turns old duty
  from_peer : (peer : End) → (m body : Frames) → Contains turns peer → gives peer m ≡ Some (record { message = body; duty = duty }) → IsDutyAfter gives turns old duty

-- what a receive that drops keeps
pub record Dropping (gives : End → Frames → Option Given) (turns new : List End) (old duty : Duty) : Type 0 where
  pub turned : IsPermutation turns new
  pub duty_is : IsDutyAfter gives turns old duty

end_turned : (gives : End → Frames → Option Given) (count : ℕ) (turns : List End) (steps : List PipeStep) (answer : RecvAnswer) (new : List End) (old duty : Duty)
    → EndsReceive gives count turns steps answer new old duty → Dropping gives turns new old duty
end_turned gives count turns steps answer new old duty (given less one) =
    let there = is_there one.comes.by_turn.before one.comes.by_turn.peer one.comes.by_turn.after turns one.comes.by_turn.turns_are in
    record {
      turned = comes_turned turns one.round steps new one.comes;
      duty_is = from_peer one.round.peer one.round.message one.message (subst (Contains turns) one.comes.peer_is there) one.gives_it;
    }
end_turned gives count turns steps answer new old duty (again less none same) = record { turned = stays turns new none.0.new_is; duty_is = as_before same }
end_turned gives count turns steps answer new old duty (busy all no_steps refused same_turns same) = record { turned = stays turns new same_turns; duty_is = as_before same }

pub dropping_turned : (gives : End → Frames → Option Given) (rule : Rule) (turns : List End) (steps : List PipeStep) (skips : List Skip) (answer : RecvAnswer) (new : List End) (old duty : Duty)
    → ReceivesDropping gives rule turns steps skips answer new old duty → Dropping gives turns new old duty
dropping_turned gives rule turns steps skips answer new old duty g =
    let front = came_turned turns g.dropped g.front g.mid g.drops.came in
    let last = end_turned gives _ g.mid g.last answer new old duty g.ends in
    record { turned = IsPermutation-trans turns g.mid new front last.turned; duty_is = by front last.duty_is }
  where
    by : IsPermutation turns g.mid → IsDutyAfter gives g.mid old duty → IsDutyAfter gives turns old duty
    by front (as_before same) = as_before same
    by front (from_peer peer m body there one) = from_peer peer m body (Contains-permutation g.mid turns peer (IsPermutation-sym turns g.mid front) there) one
