-- REQ and REP: a send and a receive have one outcome.
use Rattle.std.proofs.Common.{◌≡◌, ◌∙◌, ◌+◌, ℕ, List, [], ◌∷◌, ◌++◌, Bool, true, false, Option, Some, All, length, nat_le, sym, ap}
use Rattle.zq_base.specs.Message.{Frames, max_committed}
use Rattle.zq_base.specs.Ends.{PipeId}
use Rattle.spec_pattern.specs.PipeStep.{PipeStep, AreExact}
use Rattle.spec_pattern.specs.TurnList.{End}
use Rattle.spec_pattern.specs.Duty.{Duty, Free, Asked, Owing}
use Rattle.spec_pattern.specs.RequestReply.{ReqAsks, ReqFreeSends, ReqSends, ReqReceives, RepReceives, RepReplies, RepSends, Refuses, RefusesReceive, reply_of, request_of}
use Rattle.spec_pattern.specs.declared.answers.Rule.TheVariants.{ReplyGone, RouteFull, Stray, BadEnv}
use Rattle.spec_pattern.specs.declared.answers.Skip.{Skip}
use Rattle.spec_pattern.specs.declared.answers.SendAnswer.{SendAnswer}
use Rattle.spec_pattern.specs.declared.answers.SendAnswer.TheVariants as sent
use Rattle.spec_pattern.specs.declared.answers.RecvAnswer.{RecvAnswer}
use Rattle.spec_pattern.specs.Peers.{partner_of}
use Rattle.spec_pattern.proofs.StepLemmas.{SameEnd, IsSettled}
use Rattle.spec_pattern.proofs.OutLemmas.{Place, turns_from, out_settled, out_or_none}
use Rattle.spec_pattern.proofs.ByTurnLemmas.{agree_back}
use Rattle.spec_pattern.proofs.RouteLemmas.{routes_settled}
use Rattle.spec_pattern.proofs.DropLemmas.{Ended, dropping_settled}

-- what comes of a send, or a receive, of a REQ or a REP: the answer, the turns after, and what is under way then
pub record AskEnd : Type 0 where
  pub answer : SendAnswer
  pub turns : List End
  pub duty : Duty

pub record ReplyEnd : Type 0 where
  pub answer : SendAnswer
  pub duty : Duty

abbrev pub AsksBy : (List PipeStep → SendAnswer → List End → Duty → Type 0) → List PipeStep → AskEnd → Type 0
AsksBy Step steps e = Step steps e.answer e.turns e.duty

abbrev pub RepliesBy : (List PipeStep → SendAnswer → Duty → Type 0) → List PipeStep → ReplyEnd → Type 0
RepliesBy Step steps e = Step steps e.answer e.duty

abbrev pub HearsBy : (List PipeStep → List Skip → RecvAnswer → List End → Duty → Type 0) → List PipeStep → List Skip × Ended → Type 0
HearsBy Step steps o = Step steps o.0 o.1.answer o.1.turns o.1.duty

one_end : (a b : SendAnswer) (t u : List End) (v w : Duty) → a ≡ b → t ≡ u → v ≡ w
    → ◌≡◌ {A = AskEnd} (record { answer = a; turns = t; duty = v }) (record { answer = b; turns = u; duty = w })
one_end a b t u v w x y z = λ i. record { answer = x i; turns = y i; duty = z i }

one_reply : (a b : SendAnswer) (v w : Duty) → a ≡ b → v ≡ w → ◌≡◌ {A = ReplyEnd} (record { answer = a; duty = v }) (record { answer = b; duty = w })
one_reply a b v w x z = λ i. record { answer = x i; duty = z i }

module _ (c d : PipeId → ℕ) where
  -- the two answers of a REQ that is free, by what they are
  ask_settled : (w : End → Bool) (m : Frames) (outs : List End) → All (λ e. c e ≡ d e) outs → (past xs ys : List PipeStep) (a b : SendAnswer) (t u : List End) (v z : Duty)
      → ReqAsks w m outs xs a t v → ReqAsks w m outs ys b u z → AreExact c past xs → AreExact d past ys
      → SameEnd {A = AskEnd} xs (record { answer = a; turns = t; duty = v }) ys (record { answer = b; turns = u; duty = z })
  ask_settled w m outs agree past xs ys (sent.One to) (sent.One to2) t u v z g h x y =
      let one = out_settled c d w ([] ∷ m) outs agree past xs ys to to2 t u g.goes h.goes x y in
      let to_one : to ≡ to2 = g.goes.to_is ∙ ap (λ (p : Place). p.peer.pair) one.same_end ∙ sym h.goes.to_is in
      let new_one : t ≡ u = g.goes.new_is ∙ ap turns_from one.same_end ∙ sym h.goes.new_is in
      let duty_one : v ≡ z = g.duty_is ∙ ap (λ (p : Place). Asked (Some p.peer)) one.same_end ∙ sym h.duty_is in
      record { same_steps = one.same_steps; same_end = one_end (sent.One to) (sent.One to2) t u v z (ap sent.One to_one) new_one duty_one }
  ask_settled w m outs agree past xs ys (sent.One to) (sent.Refused r) t u v z g (again, none, free) x y =
      absurd (out_or_none c d w ([] ∷ m) outs agree past xs ys to t u g.goes none x y)
  ask_settled w m outs agree past xs ys (sent.Refused r) (sent.One to) t u v z (again, none, free) h x y =
      absurd (out_or_none d c w ([] ∷ m) outs (agree_back c d outs agree) past ys xs to u t h.goes none y x)
  ask_settled w m outs agree past xs ys (sent.Refused r) (sent.Refused r2) t u v z (again, none, free) (again2, none2, free2) x y = record {
    same_steps = none.steps_are ∙ sym none2.steps_are;
    same_end = one_end (sent.Refused r) (sent.Refused r2) t u v z (ap sent.Refused (again ∙ sym again2)) (none.new_is ∙ sym none2.new_is) (free ∙ sym free2);
  }
  ask_settled w m outs agree past xs ys (sent.Many report) b t u v z g h x y = elim g [ ]
  ask_settled w m outs agree past xs ys sent.Subscribed b t u v z g h x y = elim g [ ]
  ask_settled w m outs agree past xs ys (sent.Dropped rule) b t u v z g h x y = elim g [ ]
  ask_settled w m outs agree past xs ys (sent.One to) (sent.Many report) t u v z g h x y = elim h [ ]
  ask_settled w m outs agree past xs ys (sent.One to) sent.Subscribed t u v z g h x y = elim h [ ]
  ask_settled w m outs agree past xs ys (sent.One to) (sent.Dropped rule) t u v z g h x y = elim h [ ]
  ask_settled w m outs agree past xs ys (sent.Refused r) (sent.Many report) t u v z g h x y = elim h [ ]
  ask_settled w m outs agree past xs ys (sent.Refused r) sent.Subscribed t u v z g h x y = elim h [ ]
  ask_settled w m outs agree past xs ys (sent.Refused r) (sent.Dropped rule) t u v z g h x y = elim h [ ]

  refuses_settled : (refused : SendAnswer) (turns : List End) (old : Duty) → IsSettled c d (AsksBy (Refuses refused turns old))
  refuses_settled refused turns old past xs ys a b g h x y = record {
    same_steps = g.1 ∙ sym h.1;
    same_end = one_end a.answer b.answer a.turns b.turns a.duty b.duty (g.0 ∙ sym h.0) (g.2 ∙ sym h.2) (g.3 ∙ sym h.3);
  }

  free_settled : (fits : Bool) (w : End → Bool) (m : Frames) (outs : List End) → All (λ e. c e ≡ d e) outs → IsSettled c d (AsksBy (ReqFreeSends w m fits outs))
  free_settled true w m outs agree past xs ys a b g h x y = ask_settled w m outs agree past xs ys a.answer b.answer a.turns b.turns a.duty b.duty g h x y
  free_settled false w m outs agree past xs ys a b g h x y = refuses_settled _ outs Free past xs ys a b g h x y

  pub req_send_settled : (w : End → Bool) (m : Frames) (outs : List End) (old : Duty) → All (λ e. c e ≡ d e) outs → IsSettled c d (AsksBy (ReqSends w m outs old))
  req_send_settled w m outs Free agree past xs ys a b g h x y = free_settled (nat_le (length m + 1) max_committed) w m outs agree past xs ys a b g h x y
  req_send_settled w m outs (Asked peer) agree past xs ys a b g h x y = refuses_settled _ outs (Asked peer) past xs ys a b g h x y
  req_send_settled w m outs (Owing peer envelope) agree past xs ys a b g h x y = elim g [ ]

  refused_settled : (refused : RecvAnswer) (turns : List End) (old : Duty) → IsSettled c d (HearsBy (RefusesReceive refused turns old))
  refused_settled refused turns old past xs ys (s, e) (s2, f) g h x y =
      let skips : s ≡ s2 = g.2 ∙ sym h.2 in
      let answer : e.answer ≡ f.answer = g.0 ∙ sym h.0 in
      let new : e.turns ≡ f.turns = g.3 ∙ sym h.3 in
      let duty : e.duty ≡ f.duty = g.4 ∙ sym h.4 in
      record { same_steps = g.1 ∙ sym h.1; same_end = λ i. (skips i, record { answer = answer i; turns = new i; duty = duty i }) }

  pub req_recv_settled : (ins : List End) (old : Duty) → IsSettled c d (HearsBy (ReqReceives ins old))
  req_recv_settled ins Free past xs ys a b g h x y = refused_settled _ ins Free past xs ys a b g h x y
  req_recv_settled ins (Asked peer) past xs ys a b g h x y = dropping_settled c d (reply_of peer) Stray (Asked peer) ins past xs ys a b g h x y
  req_recv_settled ins (Owing peer envelope) past xs ys a b g h x y = elim g [ ]

  pub rep_recv_settled : (ins : List End) (old : Duty) → IsSettled c d (HearsBy (RepReceives ins old))
  rep_recv_settled ins Free past xs ys a b g h x y = dropping_settled c d request_of BadEnv Free ins past xs ys a b g h x y
  rep_recv_settled ins (Asked peer) past xs ys a b g h x y = elim g [ ]
  rep_recv_settled ins (Owing peer envelope) past xs ys a b g h x y = refused_settled _ ins (Owing peer envelope) past xs ys a b g h x y

  replies_settled : (fits : Bool) (w : End → Bool) (m : Frames) (peer : Option End) (envelope : Frames) → ((e : End) → peer ≡ Some e → c e ≡ d e)
      → IsSettled c d (RepliesBy (RepReplies w m peer envelope fits))
  replies_settled true w m peer envelope agree past xs ys a b g h x y =
      let one = routes_settled c d (sent.Dropped ReplyGone) (sent.Dropped RouteFull) w (envelope ++ m) peer agree past xs ys a.answer b.answer g.0 h.0 x y in
      record { same_steps = one.same_steps; same_end = one_reply a.answer b.answer a.duty b.duty one.same_end (g.1 ∙ sym h.1) }
  replies_settled false w m peer envelope agree past xs ys a b g h x y =
      record { same_steps = g.1 ∙ sym h.1; same_end = one_reply a.answer b.answer a.duty b.duty (g.0 ∙ sym h.0) (g.2 ∙ sym h.2) }

  pub rep_send_settled : (w : End → Bool) (m : Frames) (old : Duty) → ((e : End) → partner_of old ≡ Some e → c e ≡ d e) → IsSettled c d (RepliesBy (RepSends w m old))
  rep_send_settled w m Free agree past xs ys a b g h x y =
      record { same_steps = g.1 ∙ sym h.1; same_end = one_reply a.answer b.answer a.duty b.duty (g.0 ∙ sym h.0) (g.2 ∙ sym h.2) }
  rep_send_settled w m (Asked peer) agree past xs ys a b g h x y = elim g [ ]
  rep_send_settled w m (Owing peer envelope) agree past xs ys a b g h x y =
      replies_settled (nat_le (length (envelope ++ m)) max_committed) w m peer envelope agree past xs ys a b g h x y
