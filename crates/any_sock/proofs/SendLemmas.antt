-- A send of a kind is one of a socket of any kind.
use Rattle.std.proofs.Common.{◌≡◌, ℕ, Bool, true, false, List, [], ◌∷◌, ◌++◌, All, map, refl, sym, ap, subst}
use Rattle.std.specs.Prelude.{Result, Ok, Err, Some, if◌then◌else◌}
use Rattle.std.specs.Map.{keys_of}
use Rattle.std.specs.Str.{bytes_eq}
use Rattle.std.proofs.lemmas.List.Elements.{All-head, All-tail}
use Rattle.zq_base.specs.Message.{Frames}
use Rattle.zq_base.specs.declared.kind.Kind.TheVariants as kind
use Rattle.spec_pattern.specs.PipeStep.{PipeStep}
use Rattle.spec_pattern.specs.TurnList.{End}
use Rattle.spec_pattern.specs.Pattern as by_kind
use Rattle.spec_pattern.specs.Results.{SendResult, MatchSend, IfBack, answer_of}
use Rattle.spec_pattern.specs.declared.answers.SendAnswer.{SendAnswer}
use Rattle.spec_pattern.specs.declared.answers.SendAnswer.TheVariants as sent
use Rattle.spec_pattern.specs.declared.answers.SendFault.TheVariants as send
use Rattle.spec_pattern.specs.AtPlaces.{Sends, TellsWritable}
use Rattle.msg_pipe.specs.BothTurns.{Both}
use Rattle.req_rep.specs.Asking.{ReqState, ReqSent, asked_duty}
use Rattle.req_rep.specs.Answering.{RepState, RepSent, TellsPartner, owed_duty}
use Rattle.req_rep.specs.declared.partner.Partner.{Partner}
use Rattle.req_rep.specs.declared.partner.Partner.TheVariants.{Nobody, At, Gone}
use Rattle.router_dealer.specs.PlaceNames.{PlaceName, place_named}
use Rattle.router_dealer.specs.Named.{RouterState, RouterSent, SendsNamed}
use Rattle.spec_pattern.specs.Publishing.{Saying, Adds, Cancels, Other, saying_of}
use Rattle.spec_pattern.specs.PatternCalls.{Subscribe, Unsubscribe}
use Rattle.spec_pattern.specs.declared.answers.SendRefusal.TheVariants.{NotSupported}
use Rattle.spec_pattern.specs.declared.answers.Sent.{Sent}
use Rattle.pub_sub.specs.Publishers.{PubState, Publishes}
use Rattle.pub_sub.specs.Subscribing.{SubState, subscriber_at, wanting, wanted_by}
use Rattle.pub_sub.specs.XSubs.{MatchXSend, IfXBack, passed_on, SaysUntold, XSubSent}
use Rattle.pub_sub.specs.declared.xsend_fault.XSendFault.{XSendFault}
use Rattle.pub_sub.specs.declared.xsend_fault.XSendFault.TheVariants as xfault
use Rattle.any_sock.specs.Over.{partner_place, both_at}
use Rattle.any_sock.specs.Stopped.{SaysSome}
use Rattle.any_sock.specs.Calls.{SentOver, SendUndone, SaidUntold}
use Rattle.any_sock.specs.declared.any_sock.AnySock.{AnySock}
use Rattle.any_sock.specs.declared.any_sock.AnySock.TheVariants as sock
use Rattle.router_dealer.proofs.PlaceNamesLemmas.{same_some, no_some}
use Rattle.pub_sub.proofs.KnownLemmas.{place_of_all}
use Rattle.pub_sub.proofs.XSubLemmas.{MatchXSend-passed, IfXBack-passed}
use Rattle.any_sock.proofs.PlaceLemmas.{all_front, all_behind}
use Rattle.any_sock.proofs.PumpLemmas.{told_some, steps_told, runs_told}

-- what holds of each answer, and where memory was wanting
pub send_each : (r : SendResult) (M N : Type 0) (P Q : SendAnswer → Type 0) → MatchSend r M P → (M → N) → ((answer : SendAnswer) → P answer → Q answer) → MatchSend r N Q
send_each (Ok s) M N P Q h memory each = each (answer_of s) h
send_each (Err (send.Refused refusal back)) M N P Q h memory each = each (sent.Refused refusal) h
send_each (Err (send.OutOfMemory back)) M N P Q h memory each = memory h

-- what holds of a result, where it is passed on
pub passes : (x : Result Sent XSendFault) (r : SendResult) (memory untold : Type 0) (P : SendAnswer → Type 0) → x ≡ passed_on r → MatchSend r memory P → MatchXSend x memory untold P
passes x r memory untold P is h = subst (λ (y : Result Sent XSendFault). MatchXSend y memory untold P) (sym is) (MatchXSend-passed r memory untold P h)

pub passes_back : (x : Result Sent XSendFault) (r : SendResult) (P : Frames → Type 0) → x ≡ passed_on r → IfBack r P → IfXBack x P
passes_back x r P is h = subst (λ (y : Result Sent XSendFault). IfXBack y P) (sym is) (IfXBack-passed r P h)

-- what is told of the place of each name
pub told_named : (P : ℕ → Type 0) (names : List PlaceName) → All P (map (λ n. n.place) names) → (name : List ℕ) (place : ℕ) → place_named names name ≡ Some place → P place
told_named P [] all name place e = absurd (no_some e)
told_named P (n ∷ names) all name place e = by (bytes_eq name n.name) e (λ h. told_named P names (All-tail P n.place (map (λ n. n.place) names) all) name place h)
  where
    places : List ℕ
    places = map (λ n. n.place) names

    by : (b : Bool) → (if b then Some n.place else place_named names name) ≡ Some place → (place_named names name ≡ Some place → P place) → P place
    by true h rest = subst P (same_some h) (All-head P n.place places all)
    by false h rest = rest h

-- what is told of a partner's place
pub told_partner : (can_write : End → Bool) (ends : ℕ → End) (writable : ℕ → Bool) (p : Partner) → TellsWritable can_write ends writable (partner_place p) → TellsPartner can_write ends writable p
told_partner can_write ends writable Nobody all = tt
told_partner can_write ends writable (At place) all = All-head (λ k. can_write (ends k) ≡ writable k) place [] all
told_partner can_write ends writable Gone all = tt

module _ {S : Type 0} (runs : S → List PipeStep → S → Type 0) (ends : ℕ → End) (writable : ℕ → Bool) (m : Frames) (old new : S) (r : SendResult) (s : AnySock) where
  pub push_sent : (turns turns' : List ℕ) → s ≡ sock.Push turns
      → MatchSend r ⊥ (λ answer. Sends runs ends writable kind.Push m old new turns answer turns')
      → MatchSend r (SendUndone old new s (sock.Push turns')) (λ answer. SentOver runs ends writable m old new s answer (sock.Push turns'))
  push_sent turns turns' is h =
      subst (λ (t : AnySock). MatchSend r (SendUndone old new t (sock.Push turns')) (λ answer. SentOver runs ends writable m old new t answer (sock.Push turns'))) (sym is)
      (send_each r ⊥ _ _ _ h (λ no. absurd no) (λ answer x. record { steps = x.steps; runs_are = x.runs_are; step = λ w reads. (map ends turns', x.step w reads.peers, refl) }))

  pub pull_sent : (turns turns' : List ℕ) → s ≡ sock.Pull turns
      → MatchSend r ⊥ (λ answer. Sends runs ends writable kind.Pull m old new turns answer turns')
      → MatchSend r (SendUndone old new s (sock.Pull turns')) (λ answer. SentOver runs ends writable m old new s answer (sock.Pull turns'))
  pull_sent turns turns' is h =
      subst (λ (t : AnySock). MatchSend r (SendUndone old new t (sock.Pull turns')) (λ answer. SentOver runs ends writable m old new t answer (sock.Pull turns'))) (sym is)
      (send_each r ⊥ _ _ _ h (λ no. absurd no) (λ answer x. record { steps = x.steps; runs_are = x.runs_are; step = λ w reads. (map ends turns', x.step w reads.peers, refl) }))

  pub pair_sent : (turns turns' : List ℕ) → s ≡ sock.Pair turns → turns' ≡ turns
      → MatchSend r ⊥ (λ answer. Sends runs ends writable kind.Pair m old new turns answer turns')
      → MatchSend r (SendUndone old new s (sock.Pair turns')) (λ answer. SentOver runs ends writable m old new s answer (sock.Pair turns'))
  pair_sent turns turns' is same h =
      subst (λ (t : AnySock). MatchSend r (SendUndone old new t (sock.Pair turns')) (λ answer. SentOver runs ends writable m old new t answer (sock.Pair turns'))) (sym is)
      (send_each r ⊥ _ _ _ h (λ no. absurd no) (λ answer x. record {
        steps = x.steps;
        runs_are = x.runs_are;
        step = λ w reads. (map ends turns', x.step w reads.peers, ap (λ l. by_kind.Pair (both_at ends turns' l)) same);
      }))

  pub dealer_sent : (t t' : Both) → s ≡ sock.Dealer t → t'.ins ≡ t.ins
      → MatchSend r ⊥ (λ answer. Sends runs ends writable kind.Dealer m old new t.outs answer t'.outs)
      → MatchSend r (SendUndone old new s (sock.Dealer t')) (λ answer. SentOver runs ends writable m old new s answer (sock.Dealer t'))
  dealer_sent t t' is same h =
      subst (λ (q : AnySock). MatchSend r (SendUndone old new q (sock.Dealer t')) (λ answer. SentOver runs ends writable m old new q answer (sock.Dealer t'))) (sym is)
      (send_each r ⊥ _ _ _ h (λ no. absurd no) (λ answer x. record {
        steps = x.steps;
        runs_are = x.runs_are;
        step = λ w reads. (
          map ends t'.outs,
          x.step w (all_front (λ k. w (ends k) ≡ writable k) t.outs t.ins reads.peers),
          ap (λ l. by_kind.Dealer (both_at ends t'.outs l)) same,
        );
      }))

  pub req_sent : (q q' : ReqState) → s ≡ sock.Req q → q'.ins ≡ q.ins
      → MatchSend r ((q' ≡ q) × (new ≡ old)) (λ answer. ReqSent runs ends writable m old new q answer q')
      → MatchSend r (SendUndone old new s (sock.Req q')) (λ answer. SentOver runs ends writable m old new s answer (sock.Req q'))
  req_sent q q' is same h =
      subst (λ (t : AnySock). MatchSend r (SendUndone old new t (sock.Req q')) (λ answer. SentOver runs ends writable m old new t answer (sock.Req q'))) (sym is)
      (send_each r _ _ _ _ h (λ none. record { needs = tt; stays = ap sock.Req none.0; peers_stay = none.1 }) (λ answer x. record {
        steps = x.steps;
        runs_are = x.runs_are;
        step = λ w reads. (
          map ends q'.outs,
          asked_duty ends q'.asked,
          x.step w (all_front (λ k. w (ends k) ≡ writable k) q.outs q.ins reads.peers),
          ap (λ l. by_kind.Req (both_at ends q'.outs l) (asked_duty ends q'.asked)) same,
        );
      }))

  pub rep_sent : (q q' : RepState) → s ≡ sock.Rep q → q'.ins ≡ q.ins
      → MatchSend r ((q' ≡ q) × (new ≡ old)) (λ answer. RepSent runs ends writable m old new q answer q')
      → MatchSend r (SendUndone old new s (sock.Rep q')) (λ answer. SentOver runs ends writable m old new s answer (sock.Rep q'))
  rep_sent q q' is same h =
      subst (λ (t : AnySock). MatchSend r (SendUndone old new t (sock.Rep q')) (λ answer. SentOver runs ends writable m old new t answer (sock.Rep q'))) (sym is)
      (send_each r _ _ _ _ h (λ none. record { needs = tt; stays = ap sock.Rep none.0; peers_stay = none.1 }) (λ answer x. record {
        steps = x.steps;
        runs_are = x.runs_are;
        step = λ w reads. (
          owed_duty ends q'.owed q'.envelope,
          x.step w (told_partner w ends writable q.owed reads.partner),
          ap (λ l. by_kind.Rep (map ends l) (owed_duty ends q'.owed q'.envelope)) same,
        );
      }))

  pub pub_sent : (p : PubState) → s ≡ sock.Pub p
      → MatchSend r (new ≡ old) (λ answer. Publishes runs ends writable m old new p answer)
      → MatchSend r (SendUndone old new s (sock.Pub p)) (λ answer. SentOver runs ends writable m old new s answer (sock.Pub p))
  pub_sent p is h =
      subst (λ (t : AnySock). MatchSend r (SendUndone old new t (sock.Pub p)) (λ answer. SentOver runs ends writable m old new t answer (sock.Pub p))) (sym is)
      (send_each r _ _ _ _ h (λ none. record { needs = tt; stays = refl; peers_stay = none }) (λ answer x. record {
        steps = x.steps;
        runs_are = x.runs_are;
        step = λ w reads. (x.step w (λ q there. place_of_all (λ k. w (ends k) ≡ writable k) (keys_of p.subs) q reads.peers there) reads.apart, refl);
      }))

  pub xpub_sent : (p : PubState) → s ≡ sock.XPub p
      → MatchSend r (new ≡ old) (λ answer. Publishes runs ends writable m old new p answer)
      → MatchSend r (SendUndone old new s (sock.XPub p)) (λ answer. SentOver runs ends writable m old new s answer (sock.XPub p))
  xpub_sent p is h =
      subst (λ (t : AnySock). MatchSend r (SendUndone old new t (sock.XPub p)) (λ answer. SentOver runs ends writable m old new t answer (sock.XPub p))) (sym is)
      (send_each r _ _ _ _ h (λ none. record { needs = tt; stays = refl; peers_stay = none }) (λ answer x. record {
        steps = x.steps;
        runs_are = x.runs_are;
        step = λ w reads. (x.step w (λ q there. place_of_all (λ k. w (ends k) ≡ writable k) (keys_of p.subs) q reads.peers there) reads.apart, refl);
      }))

  pub sub_sent : (u : SubState) → s ≡ sock.Sub u → runs old [] new
      → MatchSend r ⊥ (λ answer. answer ≡ sent.Refused NotSupported)
      → MatchSend r (SendUndone old new s (sock.Sub u)) (λ answer. SentOver runs ends writable m old new s answer (sock.Sub u))
  sub_sent u is none h =
      subst (λ (t : AnySock). MatchSend r (SendUndone old new t (sock.Sub u)) (λ answer. SentOver runs ends writable m old new t answer (sock.Sub u))) (sym is)
      (send_each r ⊥ _ _ _ h (λ no. absurd no) (λ answer x. record { steps = []; runs_are = none; step = λ w reads. (x, refl, refl) }))

-- an XSUB's result
module _ {S : Type 0} (runs : S → List PipeStep → S → Type 0) (ends : ℕ → End) (writable : ℕ → Bool) (m : Frames) (old new : S) (u u' : SubState)
    (on : (s t u : S) (before after : List PipeStep) → runs s before t → runs t after u → runs s (before ++ after) u) where
  xsub_answered : (answer : SendAnswer) → XSubSent runs ends writable m old new u answer u' → SentOver runs ends writable m old new (sock.XSub u) answer (sock.XSub u')
  xsub_answered answer x = record {
    steps = x.steps;
    runs_are = x.runs_are;
    step = λ w reads.
        let P = λ (k : ℕ). w (ends k) ≡ writable k in (
          subscriber_at ends u',
          x.step w (λ q there. place_of_all P (keys_of u.followers) q (all_behind P u.ins (keys_of u.followers) reads.peers) there),
          refl,
        );
  }

  -- what was said was obeyed, and wasn't told whole
  says_some : (saying : Saying) → SaysUntold runs ends writable saying old new u u'
      → (steps : List PipeStep) × (runs old steps new)
      × SaysSome (λ can_write. TellsWritable can_write ends writable (u.ins ++ keys_of u.followers)) saying (subscriber_at ends u) steps (subscriber_at ends u')
  says_some (Adds topic) x =
      let v = wanting (wanted_by Subscribe topic u.wanted) u in
      (steps_told runs ends writable old new v u' x.stops, runs_told runs ends writable old new v u' on x.stops, (x.made, told_some runs ends writable old new v u' x.stops))
  says_some (Cancels topic) x =
      let v = wanting (wanted_by Unsubscribe topic u.wanted) u in
      (steps_told runs ends writable old new v u' x.stops, runs_told runs ends writable old new v u' on x.stops, (x.made, told_some runs ends writable old new v u' x.stops))
  says_some Other x = absurd x

  xsub_by : (r : Result Sent XSendFault)
      → MatchXSend r ((u' ≡ u) × (new ≡ old)) (SaysUntold runs ends writable (saying_of m) old new u u') (λ answer. XSubSent runs ends writable m old new u answer u')
      → MatchXSend r (SendUndone old new (sock.XSub u) (sock.XSub u')) (SaidUntold runs ends writable m old new (sock.XSub u) (sock.XSub u'))
      (λ answer. SentOver runs ends writable m old new (sock.XSub u) answer (sock.XSub u'))
  xsub_by (Ok s) h = xsub_answered (answer_of s) h
  xsub_by (Err (xfault.Refused refusal back)) h = xsub_answered (sent.Refused refusal) h
  xsub_by (Err (xfault.OutOfMemory back)) h = record { needs = tt; stays = ap sock.XSub h.0; peers_stay = h.1 }
  xsub_by (Err xfault.Untold) h =
      let some = says_some (saying_of m) h in
      record { steps = some.0; runs_are = some.1; step = (subscriber_at ends u', some.2, refl) }

  pub xsub_sent : (r : Result Sent XSendFault) (s : AnySock) → s ≡ sock.XSub u
      → MatchXSend r ((u' ≡ u) × (new ≡ old)) (SaysUntold runs ends writable (saying_of m) old new u u') (λ answer. XSubSent runs ends writable m old new u answer u')
      → MatchXSend r (SendUndone old new s (sock.XSub u')) (SaidUntold runs ends writable m old new s (sock.XSub u'))
      (λ answer. SentOver runs ends writable m old new s answer (sock.XSub u'))
  xsub_sent r s is h =
      subst (λ (t : AnySock). MatchXSend r (SendUndone old new t (sock.XSub u')) (SaidUntold runs ends writable m old new t (sock.XSub u'))
      (λ answer. SentOver runs ends writable m old new t answer (sock.XSub u'))) (sym is) (xsub_by r h)

-- a ROUTER's result
module _ {S : Type 0} (runs : S → List PipeStep → S → Type 0) (ends : ℕ → End) (writable : ℕ → Bool) (m : Frames) (old new : S) (q q' : RouterState) (same : q' ≡ q) where
  routed : (answer : SendAnswer) → RouterSent runs ends writable m old new q answer → SentOver runs ends writable m old new (sock.Router q) answer (sock.Router q')
  routed answer x = subst (λ (z : RouterState). SentOver runs ends writable m old new (sock.Router q) answer (sock.Router z)) (sym same) (record {
    steps = x.steps;
    runs_are = x.runs_are;
    step = λ w reads. (
      x.step w (told_named (λ k. w (ends k) ≡ writable k) q.names (all_behind (λ k. w (ends k) ≡ writable k) q.ins (map (λ n. n.place) q.names) reads.peers)),
      refl,
    );
  })

  by_result : (r : SendResult) → SendsNamed runs ends writable m old new q r
      → MatchSend r (SendUndone old new (sock.Router q) (sock.Router q')) (λ answer. SentOver runs ends writable m old new (sock.Router q) answer (sock.Router q'))
  by_result (Ok s) h = routed (answer_of s) h
  by_result (Err (send.Refused refusal back)) h = routed (sent.Refused refusal) h.0
  by_result (Err (send.OutOfMemory back)) h = record { needs = h.0; stays = ap sock.Router same; peers_stay = h.2 }

  pub router_sent : (r : SendResult) (s : AnySock) → s ≡ sock.Router q → SendsNamed runs ends writable m old new q r
      → MatchSend r (SendUndone old new s (sock.Router q')) (λ answer. SentOver runs ends writable m old new s answer (sock.Router q'))
  router_sent r s is h =
      subst (λ (t : AnySock). MatchSend r (SendUndone old new t (sock.Router q')) (λ answer. SentOver runs ends writable m old new t answer (sock.Router q'))) (sym is) (by_result r h)

pub router_back : {S : Type 0} (runs : S → List PipeStep → S → Type 0) (ends : ℕ → End) (writable : ℕ → Bool) (m : Frames) (old new : S) (q : RouterState) (r : SendResult)
    → SendsNamed runs ends writable m old new q r → IfBack r (λ back. back ≡ m)
router_back runs ends writable m old new q (Ok s) h = tt
router_back runs ends writable m old new q (Err (send.Refused refusal back)) h = h.1
router_back runs ends writable m old new q (Err (send.OutOfMemory back)) h = h.1
