-- A change of topics at a subscriber is one of a socket of any kind.
use Rattle.std.proofs.Common.{◌≡◌, ℕ, Bool, List, [], ◌++◌, refl, sym, ap, subst}
use Rattle.std.specs.Prelude.{Result, Ok, Err}
use Rattle.spec_pattern.specs.PipeStep.{PipeStep}
use Rattle.spec_pattern.specs.TurnList.{End}
use Rattle.spec_pattern.specs.Topics.{Topic}
use Rattle.spec_pattern.specs.Subscribing.{SubAnswer, Done, Limit, NotSub}
use Rattle.spec_pattern.specs.PatternCalls.{Change, Changed, NoTopics, PatternChanges}
use Rattle.pub_sub.specs.Subscribing.{SubState, subscriber_at, wanting, wanted_by, MatchChange, ChangesAt, ChangesUntold}
use Rattle.pub_sub.specs.declared.change_fault.ChangeFault as followed
use Rattle.pub_sub.specs.declared.change_fault.ChangeFault.TheVariants as follow
use Rattle.any_sock.specs.Calls.{MatchChanged, of_subscriber, ChangeUndone, ChangeUntold, ChangedOver}
use Rattle.any_sock.specs.Over.{over}
use Rattle.any_sock.specs.declared.any_sock.AnySock.{AnySock}
use Rattle.any_sock.specs.declared.any_sock.AnySock.TheVariants as sock
use Rattle.any_sock.specs.declared.change_fault.ChangeFault.{ChangeFault}
use Rattle.any_sock.proofs.PumpLemmas.{told_followers, told_some, steps_told, runs_told}

module _ {S : Type 0} (runs : S → List PipeStep → S → Type 0) (ends : ℕ → End) (writable : ℕ → Bool) (change : Change) (topic : Topic) (old new : S) (u u' : SubState)
    (on : (s t u : S) (before after : List PipeStep) → runs s before t → runs t after u → runs s (before ++ after) u) where
  -- what is to be shown of a socket and its result
  abbrev Becomes : AnySock → AnySock → Result (Unit {0}) ChangeFault → Type 0
  Becomes s s' x = MatchChanged x (ChangeUndone old new s s') (ChangeUntold runs ends writable change topic old new s s') (λ answer. ChangedOver runs ends writable change topic old new s answer s')

  -- what was answered by a subscriber
  abbrev Was : Result (Unit {0}) followed.ChangeFault → Type 0
  Was r = MatchChange r ((u' ≡ u) × (new ≡ old)) (ChangesUntold runs ends writable change topic old new u u') (λ answer. ChangesAt runs ends writable change topic old new u answer u')

  sub_answered : (answer : SubAnswer) → ChangesAt runs ends writable change topic old new u answer u'
      → ChangedOver runs ends writable change topic old new (sock.Sub u) (Changed answer) (sock.Sub u')
  sub_answered answer x = record {
    steps = x.steps;
    runs_are = x.runs_are;
    step = λ w reads. (subscriber_at ends u', x.step w (told_followers w ends writable u reads.peers), refl);
  }

  sub_by : (r : Result (Unit {0}) followed.ChangeFault) → Was r → Becomes (sock.Sub u) (sock.Sub u') (of_subscriber r)
  sub_by (Ok done) h = sub_answered Done h
  sub_by (Err follow.SubLimit) h = sub_answered Limit h
  sub_by (Err follow.NotSub) h = sub_answered NotSub h
  sub_by (Err follow.OutOfMemory) h = record { needs = tt; stays = ap sock.Sub h.0; peers_stay = h.1 }
  sub_by (Err follow.Untold) h =
      let v = wanting (wanted_by change topic u.wanted) u in
      record {
        steps = steps_told runs ends writable old new v u' h.stops;
        runs_are = runs_told runs ends writable old new v u' on h.stops;
        step = (subscriber_at ends u', (h.made, told_some runs ends writable old new v u' h.stops), refl);
      }

  pub sub_changed : (x : Result (Unit {0}) ChangeFault) (r : Result (Unit {0}) followed.ChangeFault) (s : AnySock) → x ≡ of_subscriber r → s ≡ sock.Sub u → Was r → Becomes s (sock.Sub u') x
  sub_changed x r s made is h = subst (λ (p : AnySock × Result (Unit {0}) ChangeFault). Becomes p.0 (sock.Sub u') p.1) (λ i. (sym is i, sym made i)) (sub_by r h)

  xsub_answered : (answer : SubAnswer) → ChangesAt runs ends writable change topic old new u answer u'
      → ChangedOver runs ends writable change topic old new (sock.XSub u) (Changed answer) (sock.XSub u')
  xsub_answered answer x = record {
    steps = x.steps;
    runs_are = x.runs_are;
    step = λ w reads. (subscriber_at ends u', x.step w (told_followers w ends writable u reads.peers), refl);
  }

  xsub_by : (r : Result (Unit {0}) followed.ChangeFault) → Was r → Becomes (sock.XSub u) (sock.XSub u') (of_subscriber r)
  xsub_by (Ok done) h = xsub_answered Done h
  xsub_by (Err follow.SubLimit) h = xsub_answered Limit h
  xsub_by (Err follow.NotSub) h = xsub_answered NotSub h
  xsub_by (Err follow.OutOfMemory) h = record { needs = tt; stays = ap sock.XSub h.0; peers_stay = h.1 }
  xsub_by (Err follow.Untold) h =
      let v = wanting (wanted_by change topic u.wanted) u in
      record {
        steps = steps_told runs ends writable old new v u' h.stops;
        runs_are = runs_told runs ends writable old new v u' on h.stops;
        step = (subscriber_at ends u', (h.made, told_some runs ends writable old new v u' h.stops), refl);
      }

  pub xsub_changed : (x : Result (Unit {0}) ChangeFault) (r : Result (Unit {0}) followed.ChangeFault) (s : AnySock) → x ≡ of_subscriber r → s ≡ sock.XSub u → Was r → Becomes s (sock.XSub u') x
  xsub_changed x r s made is h = subst (λ (p : AnySock × Result (Unit {0}) ChangeFault). Becomes p.0 (sock.XSub u') p.1) (λ i. (sym is i, sym made i)) (xsub_by r h)

-- a socket that is no subscriber has no topics
pub no_topics : {S : Type 0} (runs : S → List PipeStep → S → Type 0) (ends : ℕ → End) (writable : ℕ → Bool) (change : Change) (topic : Topic) (peers : S) (s : AnySock)
    → ((u : SubState) → s ≡ sock.Sub u → ⊥) → ((u : SubState) → s ≡ sock.XSub u → ⊥) → runs peers [] peers
    → ChangedOver runs ends writable change topic peers peers s NoTopics s
no_topics runs ends writable change topic peers s not_sub not_xsub none = record { steps = []; runs_are = none; step = λ w reads. by w s refl }
  where
    by : (w : End → Bool) (t : AnySock) → s ≡ t → PatternChanges change w topic (over ends t) [] NoTopics (over ends t)
    by w (sock.Sub u) is = absurd (not_sub u is)
    by w (sock.XSub u) is = absurd (not_xsub u is)
    by w (sock.Push turns) is = (refl, refl, refl)
    by w (sock.Pull turns) is = (refl, refl, refl)
    by w (sock.Pair turns) is = (refl, refl, refl)
    by w (sock.Dealer t) is = (refl, refl, refl)
    by w (sock.Req q) is = (refl, refl, refl)
    by w (sock.Rep q) is = (refl, refl, refl)
    by w (sock.Router q) is = (refl, refl, refl)
    by w (sock.Pub p) is = (refl, refl, refl)
    by w (sock.XPub p) is = (refl, refl, refl)
