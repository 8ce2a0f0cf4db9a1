-- What a receive takes: the messages that it drops, and behind them the one that it gives.
use Rattle.std.specs.Prelude.{◌≡◌, ℕ, suc, Bool, true, false, List, [], ◌∷◌, ◌++◌, Option, Some, None, length, refl}
use Rattle.std.proofs.Common.{sym, ap, ◌∙◌, subst, inl, inr, append-nil, true≢false}
use Rattle.std.proofs.lemmas.List.{length-map}
use Rattle.std.proofs.lemmas.List.Elements.{filter_map-append}
use Rattle.zq_base.specs.Message.{Frames}
use Rattle.zq_base.specs.declared.attached.Attached.{Attached}
use Rattle.zq_base.specs.declared.attached.Attached.TheVariants.{Yes, BadId, Second}
use Rattle.zq_base.specs.declared.ids.PairId.{PairId}
use Rattle.zq_base.specs.Ends.{PipeId}
use Rattle.spec_pattern.specs.PipeStep.{PipeStep, Take, read_through}
use Rattle.spec_pattern.specs.TurnList.{End, GivesNone, EachGivesNone, ComesIn}
use Rattle.spec_pattern.specs.Duty.{Duty, Free, Asked, Owing}
use Rattle.spec_pattern.specs.Drops.{Round, Given, ComeByTurn, skip_of, EndsReceive, given, again, busy, ReceivesDropping}
use Rattle.spec_pattern.specs.Pipeline.{PullReceives}
use Rattle.spec_pattern.specs.RequestReply.{ReqReceives, RepReceives}
use Rattle.spec_pattern.specs.Routing.{named, RouterReceives}
use Rattle.spec_pattern.specs.Topics.{Topic, Subscribers}
use Rattle.spec_pattern.specs.Wanted.{Wanted, difference}
use Rattle.spec_pattern.specs.Subscribing.{EndsTelling, TellsOn, TellsWhere, TellsAll, told_after}
use Rattle.spec_pattern.specs.Pattern.{Pattern, Push, Pull, Pair, Dealer, Req, Rep, Router, Pub, XPub, Sub, XSub, taken_in, attach_as, detach}
use Rattle.spec_pattern.specs.PatternCalls.{PatternReceives, PatternPumps}
use Rattle.spec_pattern.specs.declared.answers.Rule.{Rule}
use Rattle.spec_pattern.specs.declared.answers.Skip.{Skip}
use Rattle.spec_pattern.specs.declared.answers.RecvRefusal.{RecvRefusal}
use Rattle.spec_pattern.specs.declared.answers.RecvRefusal.TheVariants as recv
use Rattle.spec_pattern.specs.declared.answers.RecvAnswer.{RecvAnswer}
use Rattle.spec_pattern.specs.declared.answers.RecvAnswer.TheVariants as got
use Rattle.spec_pattern.specs.Peers.{pattern_kind}
use Rattle.spec_run.specs.Fate.{is_publisher_kind}
use Rattle.socket_laws.specs.Given.{pipe_taken, pipes_taken}

-- of the pipes that a receive took from the last is that of what it gave, and the others are those of what it dropped
abbrev pub TakesSo : List PipeStep → List Skip → RecvAnswer → Type 0
TakesSo steps skips (got.Got from_ m) =
    (dropped : List PipeId) × (q : PipeId) × (pipes_taken steps ≡ dropped ++ q ∷ []) × (length dropped ≡ length skips) × (q.pair ≡ from_)
TakesSo steps skips (got.Refused refusal) = length (pipes_taken steps) ≡ length skips

pub taken_both : (xs ys : List PipeStep) → pipes_taken (xs ++ ys) ≡ pipes_taken xs ++ pipes_taken ys
taken_both xs ys = filter_map-append pipe_taken xs ys

pub none_both : (xs ys : List PipeStep) → pipes_taken xs ≡ [] → pipes_taken ys ≡ [] → pipes_taken (xs ++ ys) ≡ []
none_both xs ys e f = taken_both xs ys ∙ ap (λ (l : List PipeId). l ++ pipes_taken ys) e ∙ f

look_none : (e : End) (look : PipeStep) (rest : List PipeStep) → GivesNone e look → pipes_taken rest ≡ [] → pipes_taken (look ∷ rest) ≡ []
look_none e look rest (inl is) none = ap (λ (s : PipeStep). pipes_taken (s ∷ rest)) is ∙ none
look_none e look rest (inr is) none = ap (λ (s : PipeStep). pipes_taken (s ∷ rest)) is ∙ none

each_none : (es : List End) (looks : List PipeStep) → EachGivesNone es looks → pipes_taken looks ≡ []
each_none [] looks all = ap pipes_taken all
each_none (e ∷ es) looks (look, rest, is, gives, all) = ap pipes_taken is ∙ look_none e look rest gives (each_none es rest all)

pub one_taken : (turns : List End) (steps : List PipeStep) (m : Frames) (from_ : PairId) (new : List End) (c : ComesIn turns steps m from_ new) → pipes_taken steps ≡ read_through c.peer ∷ []
one_taken turns steps m from_ new c =
    ap pipes_taken c.steps_are ∙ taken_both c.looks (Take (read_through c.peer) m ∷ [])
    ∙ ap (λ (l : List PipeId). l ++ read_through c.peer ∷ []) (each_none c.before c.looks c.looks_are)

comes_in : (turns : List End) (steps : List PipeStep) (m given_so : Frames) (from_ : PairId) (new : List End) → ComesIn turns steps m from_ new → TakesSo steps [] (got.Got from_ given_so)
comes_in turns steps m given_so from_ new c = ([], read_through c.peer, one_taken turns steps m from_ new c, refl, sym c.from_is)

no_steps : (steps : List PipeStep) (skips : List Skip) (answer : RecvAnswer) (refusal : RecvRefusal) → answer ≡ got.Refused refusal → steps ≡ [] → skips ≡ [] → TakesSo steps skips answer
no_steps steps skips answer refusal e f g =
    subst (TakesSo steps skips) (sym e) (ap (λ (l : List PipeStep). length (pipes_taken l)) f ∙ sym (ap length g))

pull_takes : (turns : List End) (steps : List PipeStep) (answer : RecvAnswer) (new : List End) → PullReceives turns steps answer new → TakesSo steps [] answer
pull_takes turns steps (got.Got from_ m) new is = comes_in turns steps m m from_ new is
pull_takes turns steps (got.Refused refusal) new is = ap length (each_none turns steps is.1.looks_are)

router_takes : (names : List ℕ → Option End) (ins : List End) (steps : List PipeStep) (answer : RecvAnswer) (new : List End) → RouterReceives names ins steps answer new → TakesSo steps [] answer
router_takes names ins steps (got.Got from_ m) new is = comes_in ins steps is.body m from_ new is.by_turn
router_takes names ins steps (got.Refused refusal) new is = ap length (each_none ins steps is.1.looks_are)

-- ---- a receive that drops

rounds_taken : (turns : List End) (rounds : List Round) (steps : List PipeStep) (new : List End) → ComeByTurn turns rounds steps new → length (pipes_taken steps) ≡ length rounds
rounds_taken turns [] steps new is = ap (λ (l : List PipeStep). length (pipes_taken l)) is.0
rounds_taken turns (r ∷ rounds) steps new (first, rest, mid, comes, all, steps_are) =
    let one = one_taken turns first r.message r.peer.pair mid comes.by_turn in
    ap (λ (l : List PipeStep). length (pipes_taken l)) steps_are ∙ ap length (taken_both first rest)
    ∙ ap (λ (l : List PipeId). length (l ++ pipes_taken rest)) one ∙ ap suc (rounds_taken mid rounds rest new all)

dropping_takes : (gives : End → Frames → Option Given) (rule : Rule) (turns : List End) (steps : List PipeStep) (skips : List Skip) (answer : RecvAnswer) (new : List End) (old duty : Duty)
    → ReceivesDropping gives rule turns steps skips answer new old duty → TakesSo steps skips answer
dropping_takes gives rule turns steps skips answer new old duty r = by r.ends
  where
    dropped : length (pipes_taken r.front) ≡ length skips
    dropped = rounds_taken turns r.dropped r.front r.mid r.drops.came ∙ sym (length-map r.dropped (skip_of rule)) ∙ sym (ap length r.drops.skips_are)

    whole : pipes_taken steps ≡ pipes_taken r.front ++ pipes_taken r.last
    whole = ap pipes_taken r.steps_are ∙ taken_both r.front r.last

    refused : (refusal : RecvRefusal) → pipes_taken r.last ≡ [] → answer ≡ got.Refused refusal → TakesSo steps skips answer
    refused refusal none is =
        subst (TakesSo steps skips) (sym is)
        (ap length (whole ∙ ap (λ (l : List PipeId). pipes_taken r.front ++ l) none ∙ append-nil (pipes_taken r.front)) ∙ dropped)

    by : EndsReceive gives (length r.dropped) r.mid r.last answer new old duty → TakesSo steps skips answer
    by (given few one) =
        subst (TakesSo steps skips) (sym one.answer_is) (
          pipes_taken r.front,
          read_through one.comes.by_turn.peer,
          whole ∙ ap (λ (l : List PipeId). pipes_taken r.front ++ l) (one_taken r.mid r.last one.round.message one.round.peer.pair new one.comes.by_turn),
          dropped,
          sym one.comes.by_turn.from_is,
        )
    by (again few none same) = refused recv.Again (each_none r.mid r.last none.0.looks_are) none.1
    by (busy all steps_are is new_is same) = refused recv.Busy (ap pipes_taken steps_are) is

req_takes : (ins : List End) (duty : Duty) (steps : List PipeStep) (skips : List Skip) (answer : RecvAnswer) (new : List End) (later : Duty) → ReqReceives ins duty steps skips answer new later → TakesSo steps skips answer
req_takes ins Free steps skips answer new later is = no_steps steps skips answer recv.Fsm is.0 is.1 is.2
req_takes ins (Asked peer) steps skips answer new later is = dropping_takes _ _ ins steps skips answer new (Asked peer) later is
req_takes ins (Owing peer envelope) steps skips answer new later is = elim is [ ]

rep_takes : (ins : List End) (duty : Duty) (steps : List PipeStep) (skips : List Skip) (answer : RecvAnswer) (new : List End) (later : Duty) → RepReceives ins duty steps skips answer new later → TakesSo steps skips answer
rep_takes ins Free steps skips answer new later is = dropping_takes _ _ ins steps skips answer new Free later is
rep_takes ins (Asked peer) steps skips answer new later is = elim is [ ]
rep_takes ins (Owing peer envelope) steps skips answer new later is = no_steps steps skips answer recv.Fsm is.0 is.1 is.2

skipless : (steps : List PipeStep) (skips : List Skip) (answer : RecvAnswer) → skips ≡ [] → TakesSo steps [] answer → TakesSo steps skips answer
skipless steps skips answer e takes = subst (λ (l : List Skip). TakesSo steps l answer) (sym e) takes

never : {X : Type 0} → true ≡ false → X
never e = absurd (true≢false e)

pub pattern_takes : (old : Pattern) (steps : List PipeStep) (skips : List Skip) (answer : RecvAnswer) (new : Pattern) → is_publisher_kind (pattern_kind old) ≡ false → PatternReceives old steps skips answer new → TakesSo steps skips answer
pattern_takes (Push outs) steps skips answer new plain (e, (outs', is, same)) = no_steps steps skips answer recv.NotSupported is.0 is.1 e
pattern_takes (Pull ins) steps skips answer new plain (e, (ins', is, same)) = skipless steps skips answer e (pull_takes ins steps answer ins' is)
pattern_takes (Pair t) steps skips answer new plain (e, (ins', is, same)) = skipless steps skips answer e (pull_takes t.ins steps answer ins' is)
pattern_takes (Dealer t) steps skips answer new plain (e, (ins', is, same)) = skipless steps skips answer e (pull_takes t.ins steps answer ins' is)
pattern_takes (Req t duty) steps skips answer new plain (ins', later, is, same) = req_takes t.ins duty steps skips answer ins' later is
pattern_takes (Rep ins duty) steps skips answer new plain (ins', later, is, same) = rep_takes ins duty steps skips answer ins' later is
pattern_takes (Router r) steps skips answer new plain (e, (ins', is, same)) = skipless steps skips answer e (router_takes (named r.names) r.ins steps answer ins' is)
pattern_takes (Pub p) steps skips answer new plain is = never plain
pattern_takes (XPub p) steps skips answer new plain is = never plain
pattern_takes (Sub s) steps skips answer new plain (s', (turns, is, same), e) = dropping_takes _ _ s.ins steps skips answer turns Free Free is
pattern_takes (XSub s) steps skips answer new plain (e, (s', (turns, is, same), same')) = skipless steps skips answer e (pull_takes s.ins steps answer turns is)

-- ---- what comes before a call takes nothing, unless the socket publishes

telling_none : (change : Option (ℕ × Topic)) (e : End) (steps : List PipeStep) → EndsTelling change e steps → pipes_taken steps ≡ []
telling_none None e steps is = ap pipes_taken is
telling_none (Some change) e steps is = ap pipes_taken is

tells_on_none : (wanted : Wanted) (e : End) (told : List Topic) (changes : List (ℕ × Topic)) (steps : List PipeStep) (now : List Topic) → TellsOn wanted e told changes steps now → pipes_taken steps ≡ []
tells_on_none wanted e told [] steps now is = telling_none (difference told wanted) e steps is.0
tells_on_none wanted e told (change ∷ changes) steps now (first, rest, is, steps_are) = ap pipes_taken steps_are ∙ tells_on_none wanted e (told_after change told) changes rest now is

tells_where_none : (b : Bool) (wanted : Wanted) (e : End) (told : List Topic) (steps : List PipeStep) (now : List Topic) → TellsWhere b wanted e told steps now → pipes_taken steps ≡ []
tells_where_none true wanted e told steps now is = tells_on_none wanted e told is.0 steps now is.1
tells_where_none false wanted e told steps now is = ap pipes_taken is.0

tells_all_none : (can_write : End → Bool) (wanted : Wanted) (fs : Subscribers End) (steps : List PipeStep) (new : Subscribers End) → TellsAll can_write wanted fs steps new → pipes_taken steps ≡ []
tells_all_none can_write wanted [] steps new is = ap pipes_taken is.0
tells_all_none can_write wanted (f ∷ fs) steps new (told, fs', first, rest, tells, all, steps_are, new_is) =
    ap pipes_taken steps_are ∙ none_both first rest (tells_where_none (can_write f.0) wanted f.0 f.1 first told tells) (tells_all_none can_write wanted fs rest fs' all)

-- what a socket hears or tells before a call, and that its kind stays
pub pump_none : (can_write : End → Bool) (old : Pattern) (steps : List PipeStep) (new : Pattern) → is_publisher_kind (pattern_kind old) ≡ false → PatternPumps can_write old steps new
    → (pipes_taken steps ≡ []) × (pattern_kind new ≡ pattern_kind old)
pump_none can_write (Push outs) steps new plain is = (ap pipes_taken is.0, ap pattern_kind is.1)
pump_none can_write (Pull ins) steps new plain is = (ap pipes_taken is.0, ap pattern_kind is.1)
pump_none can_write (Pair t) steps new plain is = (ap pipes_taken is.0, ap pattern_kind is.1)
pump_none can_write (Dealer t) steps new plain is = (ap pipes_taken is.0, ap pattern_kind is.1)
pump_none can_write (Req t duty) steps new plain is = (ap pipes_taken is.0, ap pattern_kind is.1)
pump_none can_write (Rep ins duty) steps new plain is = (ap pipes_taken is.0, ap pattern_kind is.1)
pump_none can_write (Router r) steps new plain is = (ap pipes_taken is.0, ap pattern_kind is.1)
pump_none can_write (Pub p) steps new plain is = never plain
pump_none can_write (XPub p) steps new plain is = never plain
pump_none can_write (Sub s) steps new plain (s', tells, is) = (tells_all_none can_write s.wanted s.followers steps tells.followers tells.tells, ap pattern_kind is)
pump_none can_write (XSub s) steps new plain (s', tells, is) = (tells_all_none can_write s.wanted s.followers steps tells.followers tells.tells, ap pattern_kind is)

-- a peer that comes or goes leaves the kind
taken_kind : (e : End) (identity : List ℕ) (p : Pattern) → pattern_kind (taken_in e identity p) ≡ pattern_kind p
taken_kind e identity (Push outs) = refl
taken_kind e identity (Pull ins) = refl
taken_kind e identity (Pair t) = refl
taken_kind e identity (Dealer t) = refl
taken_kind e identity (Req t duty) = refl
taken_kind e identity (Rep ins duty) = refl
taken_kind e identity (Router r) = refl
taken_kind e identity (Pub p) = refl
taken_kind e identity (XPub p) = refl
taken_kind e identity (Sub s) = refl
taken_kind e identity (XSub s) = refl

pub attached_kind : (a : Attached) (e : End) (identity : List ℕ) (p : Pattern) → pattern_kind (attach_as a e identity p) ≡ pattern_kind p
attached_kind Yes e identity p = taken_kind e identity p
attached_kind BadId e identity p = refl
attached_kind Second e identity p = refl

pub detached_kind : (e : End) (p : Pattern) → pattern_kind (detach e p) ≡ pattern_kind p
detached_kind e (Push outs) = refl
detached_kind e (Pull ins) = refl
detached_kind e (Pair t) = refl
detached_kind e (Dealer t) = refl
detached_kind e (Req t duty) = refl
detached_kind e (Rep ins duty) = refl
detached_kind e (Router r) = refl
detached_kind e (Pub p) = refl
detached_kind e (XPub p) = refl
detached_kind e (Sub s) = refl
detached_kind e (XSub s) = refl
