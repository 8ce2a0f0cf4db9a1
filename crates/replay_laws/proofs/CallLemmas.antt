-- What a call of an open socket does is settled by what it found, by the socket's state, and by the steps past.
use Rattle.std.specs.Prelude.{◌≡◌, ◌||◌, ℕ, Bool, true, false, List, [], Some, if◌then◌else◌, refl}
use Rattle.std.proofs.Common.{sym, ap, ◌∙◌, subst}
use Rattle.zq_base.specs.Message.{Frames}
use Rattle.zq_base.specs.Ends.{PipeId}
use Rattle.zq_base.specs.declared.endpoint.Endpoint.{Endpoint}
use Rattle.spec_pattern.specs.PipeStep.{PipeStep, AreExact}
use Rattle.spec_pattern.specs.Topics.{Topic}
use Rattle.spec_pattern.specs.PatternCalls.{Change}
use Rattle.spec_pattern.specs.Peers.{kept_ends, peer_names, HaveOneName}
use Rattle.spec_pattern.specs.Outcomes.{SendOutcome, RecvOutcome, ChangeOutcome}
use Rattle.spec_pattern.specs.WholeLaws.{AgreeOn}
use Rattle.spec_pattern.proofs.SendLemmas.{a_send_has_one}
use Rattle.spec_pattern.proofs.ReceiveLemmas.{a_receive_has_one}
use Rattle.spec_pattern.proofs.PumpLemmas.{a_change_has_one}
use Rattle.spec_pattern.proofs.PumpedLemmas.{all_written}
use Rattle.spec_control.specs.declared.request.Req.{Req}
use Rattle.spec_control.specs.declared.request.Req.TheVariants.{Bind, Connect, Unbind, Disconnect}
use Rattle.spec_control.specs.declared.request.Reply.{Reply}
use Rattle.spec_control.specs.declared.entry.Did.TheVariants.{Asked}
use Rattle.spec_control.specs.declared.entry.Item.{Item}
use Rattle.spec_control.specs.declared.entry.Item.TheVariants.{Event}
use Rattle.spec_control.specs.Control.{Control, id}
use Rattle.spec_control.specs.ControlRun.{Fits, FitsItem, after_item}
use Rattle.spec_run.specs.declared.answer.Answer.TheVariants as answer
use Rattle.spec_run.specs.Line.{sent_answer, got_answer, changed_answer}
use Rattle.spec_control.specs.Has.{acts_in_request}
use Rattle.spec_control.specs.Moments.{Moment}
use Rattle.spec_run.specs.declared.answer.Answer.{Answer}
use Rattle.spec_run.specs.ControlAnswer.{reply_answer}
use Rattle.spec_run.specs.Act.{Try, moments_in}
use Rattle.spec_run.specs.OpenSocket.{OpenSock, can_write, joins_of, sock_after, AreAnswered}
use Rattle.spec_run.specs.Event.{acts_said}
use Rattle.spec_run.specs.SocketCall.{step_acts, RefusesCall, SendsOpen, ReceivesOpen, ChangesOpen, RequestsOnce, UnlessStopped, SendsCall, ReceivesCall, ChangesCall, BindsCall, leave_asked, ConnectsWhere, takes_connect, ConnectsCall, UnbindsCall, DisconnectsCall}
use Rattle.replay_laws.specs.Blank.{blank}
use Rattle.replay_laws.proofs.WalkLemmas.{Walks, Reached, Same, same_none, same_as, same_steps, said_same}
use Rattle.replay_laws.proofs.AlikeLemmas.{replies_alike}
use Rattle.replay_laws.proofs.LetterLemmas.{one_request}
use Rattle.replay_laws.proofs.LookLemmas.{moment_is}
use Rattle.replay_laws.proofs.PumpLemmas.{exact_steps}

module _ {N S : Type 0} where
  -- the two calls are one
  pub record CallSame (c d : Control) (t x : Try N S) (u v : OpenSock) : Type 0 where
    pub same : Same c d t.call x.call
    pub skips : t.skips ≡ x.skips
    pub answer : t.answer ≡ x.answer
    pub socks : u ≡ v

  -- what a call is made from: two states, capacities and steps past
  pub record From (cap cup : PipeId → ℕ) (c d : Control) (past : List PipeStep) (s : OpenSock) (t x : Try N S) : Type 0 where
    pub one : Reached N S c
    pub other : Reached N S d
    pub states : blank c ≡ blank d
    pub walk : Walks cap c past t.call
    pub walk_too : Walks cup d past x.call
    pub agree : AgreeOn cap cup (kept_ends s.pattern)
    pub names : HaveOneName (peer_names s.pattern)
    pub root : leave_asked (moments_in t.pump) ≡ leave_asked (moments_in x.pump)

  module _ (cap cup : PipeId → ℕ) (c d : Control) (past : List PipeStep) (s : OpenSock) (t x : Try N S) (from_here : From cap cup c d past s t x) (u v : OpenSock) where
    refused : (said_so said_too : Answer) → said_so ≡ said_too → RefusesCall said_so s t u → RefusesCall said_too s x v → CallSame c d t x u v
    refused said_so said_too e f g = record {
      same = same_as c d t.call x.call [] [] f.call_is g.call_is (same_none c d from_here.states);
      skips = f.skips_are ∙ sym g.skips_are;
      answer = f.answer_is ∙ e ∙ sym g.answer_is;
      socks = f.new_is ∙ sym g.new_is;
    }

    steps_same : (xs ys : List PipeStep) → t.call ≡ step_acts xs → x.call ≡ step_acts ys → xs ≡ ys → Same c d t.call x.call
    steps_same xs ys p q e = same_as c d t.call x.call (step_acts xs) (step_acts ys) p q (same_steps c d xs ys from_here.states e)

    exact_one : (xs : List PipeStep) → t.call ≡ step_acts xs → AreExact cap past xs
    exact_one xs p = exact_steps N S cap xs c past (subst (Walks cap c past) p from_here.walk)

    exact_other : (xs : List PipeStep) → x.call ≡ step_acts xs → AreExact cup past xs
    exact_other xs p = exact_steps N S cup xs d past (subst (Walks cup d past) p from_here.walk_too)

    sends : (m : Frames) → SendsOpen m s t u → SendsOpen m s x v → CallSame c d t x u v
    sends m f g =
        let one : ◌≡◌ {A = SendOutcome} (record { steps = f.steps; answer = f.sent; new = f.pattern }) (record { steps = g.steps; answer = g.sent; new = g.pattern }) =
        a_send_has_one cap cup past (can_write s) m s.pattern (record { steps = f.steps; answer = f.sent; new = f.pattern }) (record { steps = g.steps; answer = g.sent; new = g.pattern })
        (all_written (λ e. cap e ≡ cup e) s.pattern from_here.agree) f.sends g.sends (record { one = exact_one f.steps f.call_is; other = exact_other g.steps g.call_is }) in
        record {
          same = steps_same f.steps g.steps f.call_is g.call_is (ap (λ (o : SendOutcome). o.steps) one);
          skips = f.skips_are ∙ sym g.skips_are;
          answer = f.answer_is ∙ ap (λ (o : SendOutcome). sent_answer o.answer) one ∙ sym g.answer_is;
          socks = f.new_is ∙ ap (λ (o : SendOutcome). let z : OpenSock = record s { pattern = o.new } in z) one ∙ sym g.new_is;
        }

    receives : ReceivesOpen s t u → ReceivesOpen s x v → CallSame c d t x u v
    receives f g =
        let one : ◌≡◌ {A = RecvOutcome} (record { steps = f.steps; skips = t.skips; answer = f.got; new = f.pattern }) (record { steps = g.steps; skips = x.skips; answer = g.got; new = g.pattern }) =
        a_receive_has_one cap cup past s.pattern (record { steps = f.steps; skips = t.skips; answer = f.got; new = f.pattern }) (record { steps = g.steps; skips = x.skips; answer = g.got; new = g.pattern })
        from_here.names f.receives g.receives (record { one = exact_one f.steps f.call_is; other = exact_other g.steps g.call_is }) in
        record {
          same = steps_same f.steps g.steps f.call_is g.call_is (ap (λ (o : RecvOutcome). o.steps) one);
          skips = ap (λ (o : RecvOutcome). o.skips) one;
          answer = f.answer_is ∙ ap (λ (o : RecvOutcome). got_answer o.answer) one ∙ sym g.answer_is;
          socks = f.new_is ∙ ap (λ (o : RecvOutcome). let z : OpenSock = record s { pattern = o.new } in z) one ∙ sym g.new_is;
        }

    changes : (change : Change) (topic : Topic) → ChangesOpen change topic s t u → ChangesOpen change topic s x v → CallSame c d t x u v
    changes change topic f g =
        let one : ◌≡◌ {A = ChangeOutcome} (record { steps = f.steps; answer = f.changed; new = f.pattern }) (record { steps = g.steps; answer = g.changed; new = g.pattern }) =
        a_change_has_one cap cup past change (can_write s) topic s.pattern (record { steps = f.steps; answer = f.changed; new = f.pattern }) (record { steps = g.steps; answer = g.changed; new = g.pattern })
        (all_written (λ e. cap e ≡ cup e) s.pattern from_here.agree) f.changes g.changes (record { one = exact_one f.steps f.call_is; other = exact_other g.steps g.call_is }) in
        record {
          same = steps_same f.steps g.steps f.call_is g.call_is (ap (λ (o : ChangeOutcome). o.steps) one);
          skips = f.skips_are ∙ sym g.skips_are;
          answer = f.answer_is ∙ ap (λ (o : ChangeOutcome). changed_answer o.answer) one ∙ sym g.answer_is;
          socks = f.new_is ∙ ap (λ (o : ChangeOutcome). let z : OpenSock = record s { pattern = o.new } in z) one ∙ sym g.new_is;
        }

    requests : (req : Req) → ((z : Control) → acts_in_request z req ≡ Some s.object) → RequestsOnce req s t u → RequestsOnce req s x v → CallSame c d t x u v
    requests req mine f g =
        let m = f.made in
        let n = g.made in
        let w = subst (Walks cap c past) f.call_is from_here.walk in
        let w2 = subst (Walks cup d past) g.call_is from_here.walk_too in
        let a = f.request.answered in
        let b = g.request.answered in
        let fits : Fits c (Asked req f.reply a) = subst (FitsItem c) f.request.item_is w.1 in
        let fits2 : Fits d (Asked req g.reply b) = subst (FitsItem d) g.request.item_is w2.1 in
        let reply : g.reply ≡ f.reply = fits2.may.1 ∙ sym (replies_alike req c d from_here.states) ∙ sym fits.may.1 in
        let also : Fits d (Asked req f.reply b) = subst (λ r. Fits d (Asked req r b)) reply fits2 in
        let m_is = moment_is m c f.request.by (Asked req f.reply a) w.0 f.request.item_is in
        let n_is = moment_is n d g.request.by (Asked req f.reply b) w2.0
        (g.request.item_is ∙ ap (λ (r : Reply). let it : Item N S = Event (record { by = g.request.by; did = Asked req r b }) in it) reply) in
        let event = one_request c d f.request.by g.request.by req f.reply a b s from_here.one from_here.other from_here.states (mine c) (mine d) fits also
        (subst (λ k. AreAnswered (joins_of s.object k) s.pattern) m_is f.goes.0) (subst (λ k. AreAnswered (joins_of s.object k) s.pattern) n_is g.goes.0) in
        let states : blank (after_item m.item c) ≡ blank (after_item n.item d) = ap (λ (k : Moment N S). blank (after_item k.item c)) m_is ∙ event.states ∙ sym (ap (λ (k : Moment N S). blank (after_item k.item d)) n_is) in
        record {
          same = same_as c d t.call x.call (acts_said m) (acts_said n) f.call_is g.call_is (said_same cap cup c d past m n w w2 from_here.states states);
          skips = f.skips_are ∙ sym g.skips_are;
          answer = f.answer_is ∙ ap reply_answer (sym reply) ∙ sym g.answer_is;
          socks = f.goes.1 ∙ ap (λ k. sock_after k s) m_is ∙ event.socks ∙ sym (ap (λ k. sock_after k s) n_is) ∙ sym g.goes.1;
        }

    unless_stopped : (stopped : Bool) (said_so : Answer) (Does : OpenSock → Try N S → OpenSock → Type 0) → (Does s t u → Does s x v → CallSame c d t x u v)
        → UnlessStopped stopped said_so Does s t u → UnlessStopped stopped said_so Does s x v → CallSame c d t x u v
    unless_stopped true said_so Does same f g = refused said_so said_so refl f g
    unless_stopped false said_so Does same f g = same f g

    pub sends_call : (m : Frames) → SendsCall m s t u → SendsCall m s x v → CallSame c d t x u v
    sends_call m f g = unless_stopped s.stopped _ (SendsOpen m) (sends m) f g

    pub receives_call : ReceivesCall s t u → ReceivesCall s x v → CallSame c d t x u v
    receives_call f g = unless_stopped s.stopped _ ReceivesOpen receives f g

    pub changes_call : (change : Change) (topic : Topic) → ChangesCall change topic s t u → ChangesCall change topic s x v → CallSame c d t x u v
    changes_call change topic f g = unless_stopped s.stopped answer.Term (ChangesOpen change topic) (changes change topic) f g

    connects_where : (takes stopped : Bool) (to : Endpoint) → ConnectsWhere takes stopped to s t u → ConnectsWhere takes stopped to s x v → CallSame c d t x u v
    connects_where true stopped to f g = requests (Connect (id s.object) to) (λ z. refl) f g
    connects_where false stopped to f g =
        refused _ _ (ap (λ (b : Bool). let a : Answer = if stopped || b then answer.Term else answer.NotSupported in a) from_here.root) f g

    pub binds_call : (at : Endpoint) → BindsCall at s t u → BindsCall at s x v → CallSame c d t x u v
    binds_call at f g = requests (Bind (id s.object) at) (λ z. refl) f g

    pub connects_call : (to : Endpoint) → ConnectsCall to s t u → ConnectsCall to s x v → CallSame c d t x u v
    connects_call to f g = connects_where (takes_connect s.pattern to) s.stopped to f g

    pub unbinds_call : (at : Endpoint) → UnbindsCall at s t u → UnbindsCall at s x v → CallSame c d t x u v
    unbinds_call at f g = requests (Unbind (id s.object) at) (λ z. refl) f g

    pub disconnects_call : (at : Endpoint) → DisconnectsCall at s t u → DisconnectsCall at s x v → CallSame c d t x u v
    disconnects_call at f g = requests (Disconnect (id s.object) at) (λ z. refl) f g
