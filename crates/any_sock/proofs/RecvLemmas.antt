-- A receive of a kind is one of a socket of any kind.
use Rattle.std.proofs.Common.{◌≡◌, ℕ, List, [], ◌++◌, map, ◌≤◌, refl, sym, ap, subst, ◌∙◌, inl, inr}
use Rattle.std.proofs.lemmas.List.{append-nil}
use Rattle.std.specs.Prelude.{Ok, Err, Option, Some, None}
use Rattle.zq_base.specs.declared.kind.Kind.TheVariants as kind
use Rattle.spec_pattern.specs.PipeStep.{PipeStep}
use Rattle.spec_pattern.specs.TurnList.{End}
use Rattle.zq_base.specs.Message.{Frames}
use Rattle.spec_pattern.specs.Drops.{Drops}
use Rattle.spec_pattern.specs.Publishing.{Hears}
use Rattle.spec_pattern.specs.RequestReply.{reply_of}
use Rattle.spec_pattern.specs.Routing.{named, RouterReceives}
use Rattle.spec_pattern.specs.PatternCalls.{PatternReceives}
use Rattle.spec_pattern.specs.Pattern as by_kind
use Rattle.spec_pattern.specs.Results.{RecvResult, MatchRecv}
use Rattle.spec_pattern.specs.declared.answers.Rule.TheVariants.{Stray}
use Rattle.spec_pattern.specs.declared.answers.Skip.{Skip}
use Rattle.spec_pattern.specs.declared.answers.RecvRefusal.TheVariants.{NotSupported}
use Rattle.spec_pattern.specs.declared.answers.RecvAnswer.{RecvAnswer}
use Rattle.spec_pattern.specs.declared.answers.RecvAnswer.TheVariants as got
use Rattle.spec_pattern.specs.declared.answers.RecvFault.TheVariants as fault
use Rattle.spec_pattern.specs.Peers.{partner_of}
use Rattle.spec_pattern.specs.AtPlaces.{Receives}
use Rattle.msg_pipe.specs.BothTurns.{Both}
use Rattle.req_rep.specs.Partners.{end_of}
use Rattle.req_rep.specs.Asking.{ReqState, ReqGot, ReqStopped, asked_duty}
use Rattle.req_rep.specs.Answering.{RepState, RepGot, RepStopped, owed_duty}
use Rattle.req_rep.specs.declared.partner.Partner.{Partner}
use Rattle.req_rep.specs.declared.partner.Partner.TheVariants.{Nobody, At, Gone}
use Rattle.router_dealer.specs.PlaceNames.{names_at}
use Rattle.router_dealer.specs.Named.{Kept, RouterState, RouterGot, TakesNamed, ReceivesNamed}
use Rattle.router_dealer.specs.Laws.{router_at}
use Rattle.pub_sub.specs.Hearing.{XPubGives, XPubStops, in_hearing, in_giving}
use Rattle.pub_sub.specs.Publishers.{PubState, publisher_at, meant, resumed}
use Rattle.pub_sub.specs.Subscribing.{SubState, subscriber_at, SubGives, SubStops}
use Rattle.pub_sub.specs.XSubs.{XSubGives}
use Rattle.any_sock.specs.Over.{Leftover, both_at, left_of}
use Rattle.any_sock.specs.Calls.{GotOver, RecvStopped, RecvDone}
use Rattle.any_sock.specs.declared.any_sock.AnySock.{AnySock}
use Rattle.any_sock.specs.declared.any_sock.AnySock.TheVariants as sock

-- what holds of each answer, and where memory was wanting
pub recv_each : (r : RecvResult) (M N : Type 0) (P Q : RecvAnswer → Type 0) → MatchRecv r M P → (M → N) → ((answer : RecvAnswer) → P answer → Q answer) → MatchRecv r N Q
recv_each (Ok item) M N P Q h memory each = each (got.Got item.0 item.1) h
recv_each (Err (fault.Refused refusal)) M N P Q h memory each = each (got.Refused refusal) h
recv_each (Err fault.OutOfMemory) M N P Q h memory each = memory h

-- once nothing is kept, nothing is to be obeyed
pub nothing_meant : (ends : ℕ → End) (p : PubState) → p.kept ≡ None → meant ends p ≡ p
nothing_meant ends p none = ap (λ k. resumed ends k p) none

pub none_kept : (ends : ℕ → End) (p : PubState) → (meant ends p).kept ≡ None
none_kept ends p = by p.kept refl
  where
    by : (k : Option (ℕ × Frames)) → p.kept ≡ k → (resumed ends k p).kept ≡ None
    by None e = e
    by (Some k) e = refl

-- what is left where this is
abbrev still_obeys : Option (ℕ × Frames) → Leftover
still_obeys k = record { to_give = None; to_obey = k }

abbrev still_gives : Option Kept → Leftover
still_gives k = record { to_give = k; to_obey = None }

-- the partner of what is under way
asked_partner : (ends : ℕ → End) (p : Partner) → partner_of (asked_duty ends p) ≡ end_of ends p
asked_partner ends Nobody = refl
asked_partner ends (At place) = refl
asked_partner ends Gone = refl

module _ {S : Type 0} (runs : S → List PipeStep → S → Type 0) (ends : ℕ → End) (old new : S) (told told' : List Skip) (r : RecvResult) (s : AnySock) where
  none_told : told' ≡ told → told' ≡ told ++ []
  none_told same = subst (λ (l : List Skip). told' ≡ l) (sym (append-nil told)) same

  pub push_got : (turns turns' : List ℕ) → s ≡ sock.Push turns → told' ≡ told
      → MatchRecv r ⊥ (λ answer. Receives runs ends kind.Push old new turns answer turns')
      → RecvDone runs ends (left_of s).to_give old new told told' s r (sock.Push turns')
  push_got turns turns' is same h =
      subst (λ (t : AnySock). RecvDone runs ends (left_of t).to_give old new told told' t r (sock.Push turns')) (sym is)
      (recv_each r ⊥ _ _ _ h (λ no. absurd no) (λ answer x. record {
        steps = x.steps;
        runs_are = x.runs_are;
        skips = [];
        step = λ apart. (refl, (map ends turns', x.step, refl));
        told_are = none_told same;
        left_is = refl;
      }))

  pub pull_got : (turns turns' : List ℕ) → s ≡ sock.Pull turns → told' ≡ told
      → MatchRecv r ⊥ (λ answer. Receives runs ends kind.Pull old new turns answer turns')
      → RecvDone runs ends (left_of s).to_give old new told told' s r (sock.Pull turns')
  pull_got turns turns' is same h =
      subst (λ (t : AnySock). RecvDone runs ends (left_of t).to_give old new told told' t r (sock.Pull turns')) (sym is)
      (recv_each r ⊥ _ _ _ h (λ no. absurd no) (λ answer x. record {
        steps = x.steps;
        runs_are = x.runs_are;
        skips = [];
        step = λ apart. (refl, (map ends turns', x.step, refl));
        told_are = none_told same;
        left_is = refl;
      }))

  pub pair_got : (turns turns' : List ℕ) → s ≡ sock.Pair turns → turns' ≡ turns → told' ≡ told
      → MatchRecv r ⊥ (λ answer. Receives runs ends kind.Pair old new turns answer turns')
      → RecvDone runs ends (left_of s).to_give old new told told' s r (sock.Pair turns')
  pair_got turns turns' is peer same h =
      subst (λ (t : AnySock). RecvDone runs ends (left_of t).to_give old new told told' t r (sock.Pair turns')) (sym is)
      (recv_each r ⊥ _ _ _ h (λ no. absurd no) (λ answer x. record {
        steps = x.steps;
        runs_are = x.runs_are;
        skips = [];
        step = λ apart. (refl, (map ends turns', x.step, ap (λ l. by_kind.Pair (both_at ends l turns')) peer));
        told_are = none_told same;
        left_is = refl;
      }))

  pub dealer_got : (t t' : Both) → s ≡ sock.Dealer t → t'.outs ≡ t.outs → told' ≡ told
      → MatchRecv r ⊥ (λ answer. Receives runs ends kind.Dealer old new t.ins answer t'.ins)
      → RecvDone runs ends (left_of s).to_give old new told told' s r (sock.Dealer t')
  dealer_got t t' is outs same h =
      subst (λ (q : AnySock). RecvDone runs ends (left_of q).to_give old new told told' q r (sock.Dealer t')) (sym is)
      (recv_each r ⊥ _ _ _ h (λ no. absurd no) (λ answer x. record {
        steps = x.steps;
        runs_are = x.runs_are;
        skips = [];
        step = λ apart. (refl, (map ends t'.ins, x.step, ap (λ l. by_kind.Dealer (both_at ends l t'.ins)) outs));
        told_are = none_told same;
        left_is = refl;
      }))

  req_stopped : (q q' : ReqState) → q'.outs ≡ q.outs → ReqStopped runs ends old new told told' q q'
      → RecvStopped runs ends old new told told' (sock.Req q) (sock.Req q')
  req_stopped q q' outs x = record {
    steps = x.dropped.drops.steps;
    runs_are = x.dropped.drops.runs_are;
    skips = x.dropped.drops.skips;
    step = λ apart. (
      refl,
      map ends q'.ins,
      record {
        dropped = x.dropped.drops.dropped;
        few = subst (λ (n : ℕ). n ≤ 256) (sym x.dropped.drops.count_is) x.dropped.few;
        drops = subst (λ (p : Option End). Drops (reply_of p) Stray (map ends q.ins) x.dropped.drops.dropped x.dropped.drops.steps x.dropped.drops.skips (map ends q'.ins))
            (sym (asked_partner ends q.asked)) x.dropped.drops.drops;
      },
      (λ i. by_kind.Req (both_at ends (outs i) q'.ins) (asked_duty ends (x.asked_is i))),
    );
    told_are = x.dropped.drops.told_are;
  }

  pub req_got : (q q' : ReqState) → s ≡ sock.Req q → q'.outs ≡ q.outs
      → MatchRecv r (ReqStopped runs ends old new told told' q q') (λ answer. ReqGot runs ends old new told told' q answer q')
      → RecvDone runs ends (left_of s).to_give old new told told' s r (sock.Req q')
  req_got q q' is outs h =
      subst (λ (t : AnySock). RecvDone runs ends (left_of t).to_give old new told told' t r (sock.Req q')) (sym is)
      (recv_each r _ _ _ _ h (req_stopped q q' outs) (λ answer x. record {
        steps = x.steps;
        runs_are = x.runs_are;
        skips = x.skips;
        step = λ apart. (
          map ends q'.ins,
          asked_duty ends q'.asked,
          x.step,
          ap (λ l. by_kind.Req (both_at ends l q'.ins) (asked_duty ends q'.asked)) outs,
        );
        told_are = x.told_are;
        left_is = refl;
      }))

  rep_stopped : (q q' : RepState) → RepStopped runs ends old new told told' q q'
      → RecvStopped runs ends old new told told' (sock.Rep q) (sock.Rep q')
  rep_stopped q q' x = record {
    steps = x.dropped.drops.steps;
    runs_are = x.dropped.drops.runs_are;
    skips = x.dropped.drops.skips;
    step = λ apart. (
      refl,
      map ends q'.ins,
      record {
        dropped = x.dropped.drops.dropped;
        few = subst (λ (n : ℕ). n ≤ 256) (sym x.dropped.drops.count_is) x.dropped.few;
        drops = x.dropped.drops.drops;
      },
      (λ i. by_kind.Rep (map ends q'.ins) (owed_duty ends (x.owed_is i) (x.envelope_is i))),
    );
    told_are = x.dropped.drops.told_are;
  }

  pub rep_got : (q q' : RepState) → s ≡ sock.Rep q
      → MatchRecv r (RepStopped runs ends old new told told' q q') (λ answer. RepGot runs ends old new told told' q answer q')
      → RecvDone runs ends (left_of s).to_give old new told told' s r (sock.Rep q')
  rep_got q q' is h =
      subst (λ (t : AnySock). RecvDone runs ends (left_of t).to_give old new told told' t r (sock.Rep q')) (sym is)
      (recv_each r _ _ _ _ h (rep_stopped q q') (λ answer x. record {
        steps = x.steps;
        runs_are = x.runs_are;
        skips = x.skips;
        step = λ apart. (map ends q'.ins, owed_duty ends q'.owed q'.envelope, x.step, refl);
        told_are = x.told_are;
        left_is = refl;
      }))

  pub pub_got : (p : PubState) → s ≡ sock.Pub p → told' ≡ told → runs old [] new
      → MatchRecv r ⊥ (λ answer. answer ≡ got.Refused NotSupported)
      → RecvDone runs ends (left_of s).to_give old new told told' s r (sock.Pub p)
  pub_got p is same none h =
      subst (λ (t : AnySock). RecvDone runs ends (left_of t).to_give old new told told' t r (sock.Pub p)) (sym is)
      (recv_each r ⊥ _ _ _ h (λ no. absurd no) (λ answer x. record {
        steps = [];
        runs_are = none;
        skips = [];
        step = λ apart. (refl, (x, refl, refl));
        told_are = none_told same;
        left_is = refl;
      }))

  xpub_stopped : (p p' : PubState) → told' ≡ told → XPubStops runs ends old new p p'
      → RecvStopped runs ends old new told told' (sock.XPub p) (sock.XPub p')
  xpub_stopped p p' same (in_hearing x) = record {
    steps = x.steps;
    runs_are = x.runs_are;
    skips = [];
    step = λ apart. (refl, refl, publisher_at ends (meant ends p'), inl (x.rounds, x.hears apart), refl);
    told_are = none_told same;
  }
  xpub_stopped p p' same (in_giving x) = record {
    steps = x.steps;
    runs_are = x.runs_are;
    skips = [];
    step = λ apart. (refl, refl, publisher_at ends (meant ends p'), inr (subst (λ (q : PubState). Hears (publisher_at ends (meant ends p)) x.steps (publisher_at ends q)) (sym (nothing_meant ends p' x.kept_is)) (x.hears apart)), refl);
    told_are = none_told same;
  }

  pub xpub_got : (p p' : PubState) → s ≡ sock.XPub p → told' ≡ told
      → MatchRecv r (XPubStops runs ends old new p p') (λ answer. XPubGives runs ends old new p answer p')
      → RecvDone runs ends (left_of s).to_give old new told told' s r (sock.XPub p')
  xpub_got p p' is same h =
      subst (λ (t : AnySock). RecvDone runs ends (left_of t).to_give old new told told' t r (sock.XPub p')) (sym is)
      (recv_each r _ _ _ _ h (xpub_stopped p p' same) (λ answer x. record {
        steps = x.steps;
        runs_are = x.runs_are;
        skips = [];
        step = λ apart. (refl, (publisher_at ends p', x.gives apart, refl));
        told_are = none_told same;
        left_is = ap still_obeys (x.kept_is ∙ sym (none_kept ends p));
      }))

  sub_stopped : (u u' : SubState) → SubStops runs ends old new told told' u u'
      → RecvStopped runs ends old new told told' (sock.Sub u) (sock.Sub u')
  sub_stopped u u' x = record {
    steps = x.dropped.drops.steps;
    runs_are = x.dropped.drops.runs_are;
    skips = x.dropped.drops.skips;
    step = λ apart. (
      refl,
      map ends u'.ins,
      record {
        dropped = x.dropped.drops.dropped;
        few = subst (λ (n : ℕ). n ≤ 256) (sym x.dropped.drops.count_is) x.dropped.few;
        drops = x.dropped.drops.drops;
      },
      ap (λ v. by_kind.Sub (subscriber_at ends v)) x.new_is,
    );
    told_are = x.dropped.drops.told_are;
  }

  pub sub_got : (u u' : SubState) → s ≡ sock.Sub u
      → MatchRecv r (SubStops runs ends old new told told' u u') (λ answer. SubGives runs ends old new told told' u answer u')
      → RecvDone runs ends (left_of s).to_give old new told told' s r (sock.Sub u')
  sub_got u u' is h =
      subst (λ (t : AnySock). RecvDone runs ends (left_of t).to_give old new told told' t r (sock.Sub u')) (sym is)
      (recv_each r _ _ _ _ h (sub_stopped u u') (λ answer x. record {
        steps = x.steps;
        runs_are = x.runs_are;
        skips = x.skips;
        step = λ apart. (subscriber_at ends u', x.step, refl);
        told_are = x.told_are;
        left_is = refl;
      }))

  pub xsub_got : (u u' : SubState) → s ≡ sock.XSub u → told' ≡ told
      → MatchRecv r ⊥ (λ answer. XSubGives runs ends old new u answer u')
      → RecvDone runs ends (left_of s).to_give old new told told' s r (sock.XSub u')
  xsub_got u u' is same h =
      subst (λ (t : AnySock). RecvDone runs ends (left_of t).to_give old new told told' t r (sock.XSub u')) (sym is)
      (recv_each r ⊥ _ _ _ h (λ no. absurd no) (λ answer x. record {
        steps = x.steps;
        runs_are = x.runs_are;
        skips = [];
        step = λ apart. (refl, (subscriber_at ends u', x.step, refl));
        told_are = none_told same;
        left_is = refl;
      }))

-- a ROUTER's
module _ {S : Type 0} (runs : S → List PipeStep → S → Type 0) (ends : ℕ → End) (old new : S) (told told' : List Skip) (same : told' ≡ told) (q q' : RouterState)
    (names : q'.names ≡ q.names) (drawn : q'.drawn ≡ q.drawn) (mandatory : q'.mandatory ≡ q.mandatory) where
  router_step : (steps : List PipeStep) (answer : RecvAnswer) → RouterReceives (named (names_at ends q.names)) (map ends q.ins) steps answer (map ends q'.ins)
      → PatternReceives (router_at ends q) steps [] answer (router_at ends q')
  router_step steps answer step =
      (refl, (map ends q'.ins, step, λ i. by_kind.Router (record { ins = map ends q'.ins; names = names_at ends (names i); drawn = drawn i; mandatory = mandatory i })))

  router_took : q.kept ≡ None → q'.kept ≡ None → (answer : RecvAnswer) → RouterGot runs ends old new q answer q'.ins
      → GotOver runs ends old new told told' (sock.Router q) answer (sock.Router q')
  router_took was is answer x = record {
    steps = x.steps;
    runs_are = x.runs_are;
    skips = [];
    step = λ apart. router_step x.steps answer x.step;
    told_are = subst (λ (l : List Skip). told' ≡ l) (sym (append-nil told)) same;
    left_is = ap still_gives (is ∙ sym was);
  }

  router_by : (r : RecvResult) → q.kept ≡ None → TakesNamed runs ends old new q r q'
      → MatchRecv r (RecvStopped runs ends old new told told' (sock.Router q) (sock.Router q')) (λ answer. GotOver runs ends old new told told' (sock.Router q) answer (sock.Router q'))
  router_by (Ok item) was h = router_took was h.1 (got.Got item.0 item.1) h.0
  router_by (Err (fault.Refused refusal)) was h = router_took was h.1 (got.Refused refusal) h.0
  router_by (Err fault.OutOfMemory) was h = record {
    steps = h.1.steps;
    runs_are = h.1.runs_are;
    skips = [];
    step = λ apart. (h.0, h.2, router_step h.1.steps (got.Got h.0.pair h.0.message) h.1.step);
    told_are = subst (λ (l : List Skip). told' ≡ l) (sym (append-nil told)) same;
  }

  router_kept : (r : RecvResult) (k : Option Kept) → q.kept ≡ k → ReceivesNamed runs ends old new q k r q' → RecvDone runs ends k old new told told' (sock.Router q) r (sock.Router q')
  router_kept r None was h = router_by r was h
  router_kept r (Some k) was h = record {
    peers_stay = h.0;
    told_stay = same;
    stays = λ i. by_kind.Router (record { ins = map ends (h.1 i); names = names_at ends (names i); drawn = drawn i; mandatory = mandatory i });
    gives = h.2;
  }

  pub router_got : (r : RecvResult) (s : AnySock) → s ≡ sock.Router q → ReceivesNamed runs ends old new q q.kept r q'
      → RecvDone runs ends (left_of s).to_give old new told told' s r (sock.Router q')
  router_got r s is h =
      subst (λ (t : AnySock). RecvDone runs ends (left_of t).to_give old new told told' t r (sock.Router q')) (sym is) (router_kept r q.kept refl h)
