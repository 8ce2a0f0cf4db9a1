-- What a call drops is of the pipes that its socket reads of the pairs that it tells.
use Rattle.std.specs.Prelude.{◌≡◌, ◌+◌, ◌==◌, ℕ, suc, Bool, true, false, not, List, [], ◌∷◌, ◌++◌, Option, filter, flat_map, length, map, nat_eq, take, if◌then◌else◌, refl}
use Rattle.std.specs.List.{AllByRecursion}
use Rattle.std.proofs.Common.{sym, ap, ◌∙◌, subst, true≢false}
use Rattle.std.proofs.lemmas.Bool.{eq-eqb, eqb-true}
use Rattle.std.proofs.lemmas.List.Elements.{filter_map-append}
use Rattle.zq_base.specs.Ends.{PipeId, other_end}
use Rattle.zq_base.specs.Message.{Frames}
use Rattle.zq_base.specs.declared.endpoint.Endpoint.{Endpoint}
use Rattle.zq_base.specs.declared.ids.PairId.{PairId}
use Rattle.spec_run.specs.declared.script.Call.TheVariants as call
use Rattle.spec_pattern.specs.PipeStep.{PipeStep, Commit, FullLook, RoomLook, Take, EmptyLook, DelimiterLook, WaitingLook, Seal, read_through, same_pipe, same_side}
use Rattle.spec_pattern.specs.TurnList.{End}
use Rattle.spec_pattern.specs.Drops.{Given, Round, ComeByTurn, skip_of, ReceivesDropping}
use Rattle.spec_pattern.specs.Duty.{Duty, Free, Asked, Owing}
use Rattle.spec_pattern.specs.RequestReply.{ReqReceives, RepReceives}
use Rattle.spec_pattern.specs.Pattern.{Pattern, Push, Pull, Pair, Dealer, Req, Rep, Router, Pub, XPub, Sub, XSub}
use Rattle.spec_pattern.specs.PatternCalls.{PatternReceives, PatternPumps, Subscribe, Unsubscribe}
use Rattle.spec_pattern.specs.declared.answers.RecvAnswer.{RecvAnswer}
use Rattle.spec_pattern.specs.declared.answers.Rule.{Rule}
use Rattle.spec_pattern.specs.declared.answers.Skip.{Skip}
use Rattle.spec_pattern.proofs.Exact.{same_pipes}
use Rattle.spec_pattern.specs.Peers.{pattern_kind}
use Rattle.spec_control.specs.Rows.{PairRow, pair, end_owner}
use Rattle.spec_control.specs.Control.{Control, begun, owner_of}
use Rattle.spec_control.specs.ControlRun.{after_all}
use Rattle.spec_run.specs.declared.answer.Answer.{Answer}
use Rattle.spec_run.specs.declared.script.Call.{Call}
use Rattle.spec_run.specs.Act.{Act, Try, moments_in, pipe_step_of, steps_in}
use Rattle.spec_run.specs.Fate.{is_publisher_kind}
use Rattle.spec_run.specs.OpenSocket.{OpenSock, can_write}
use Rattle.spec_run.specs.Pump.{Pumps}
use Rattle.spec_run.specs.SocketCall.{SendsOpen, ReceivesOpen, ChangesOpen, UnlessStopped, ConnectsWhere, takes_connect}
use Rattle.zq_world.specs.Way.{AsksOpen}
use Rattle.control_laws.proofs.AwayLemmas.{joins_self, pairs_are_apart}
use Rattle.socket_laws.specs.Given.{pipes_taken}
use Rattle.socket_laws.specs.Sides.{AreAtEnds, IsDoneAt}
use Rattle.socket_laws.proofs.CallLemmas.{passed_kind, pumped_none, steps_back}
use Rattle.socket_laws.proofs.ReceiveLemmas.{one_taken, taken_both}
use Rattle.core_laws.specs.Drops.{drops_at, drops_told, is_told_of, CallsTellDrops}
use Rattle.core_laws.proofs.CountingLemmas.{count_of, drops_more}

never : {X : Type 0} → true ≡ false → X
never e = absurd (true≢false e)

-- ---- the pipes that a receive drops messages of are of the pairs that it tells

-- pipes of the pairs of these drops, one for each
abbrev AreToldOf : List PipeId → List Skip → Type 0
AreToldOf [] [] = Unit {0}
AreToldOf [] (skip ∷ skips) = ⊥
AreToldOf (q ∷ qs) [] = ⊥
AreToldOf (q ∷ qs) (skip ∷ skips) = (q.pair ≡ skip.pair) × AreToldOf qs skips

-- the first pipes that steps took messages from are those of the drops
record DropsFirst (steps : List PipeStep) (skips : List Skip) : Type 0 where
  first : List PipeId
  rest : List PipeId
  taken : pipes_taken steps ≡ first ++ rest
  told : AreToldOf first skips

none_first : (steps : List PipeStep) (skips : List Skip) → skips ≡ [] → DropsFirst steps skips
none_first steps skips e = subst (DropsFirst steps) (sym e) (record { first = []; rest = pipes_taken steps; taken = refl; told = tt })

rounds_told : (rule : Rule) (turns : List End) (rounds : List Round) (steps : List PipeStep) (new : List End) → ComeByTurn turns rounds steps new
    → AreToldOf (pipes_taken steps) (map (skip_of rule) rounds)
rounds_told rule turns [] steps new is = subst (λ (l : List PipeStep). AreToldOf (pipes_taken l) []) (sym is.0) tt
rounds_told rule turns (r ∷ rounds) steps new (first, rest, mid, comes, all, steps_are) =
    let one = one_taken turns first r.message r.peer.pair mid comes.by_turn in
    let taken : pipes_taken steps ≡ read_through comes.by_turn.peer ∷ pipes_taken rest =
    ap pipes_taken steps_are ∙ taken_both first rest ∙ ap (λ (l : List PipeId). l ++ pipes_taken rest) one in
    subst (λ (l : List PipeId). AreToldOf l (map (skip_of rule) (r ∷ rounds))) (sym taken)
    (sym comes.by_turn.from_is, rounds_told rule mid rounds rest new all)

dropping_first : (gives : End → Frames → Option Given) (rule : Rule) (turns : List End) (steps : List PipeStep) (skips : List Skip) (answer : RecvAnswer) (new : List End) (old duty : Duty)
    → ReceivesDropping gives rule turns steps skips answer new old duty → DropsFirst steps skips
dropping_first gives rule turns steps skips answer new old duty r = record {
  first = pipes_taken r.front;
  rest = pipes_taken r.last;
  taken = ap pipes_taken r.steps_are ∙ taken_both r.front r.last;
  told = subst (AreToldOf (pipes_taken r.front)) (sym r.drops.skips_are) (rounds_told rule turns r.dropped r.front r.mid r.drops.came);
}

req_first : (ins : List End) (duty : Duty) (steps : List PipeStep) (skips : List Skip) (answer : RecvAnswer) (new : List End) (later : Duty) → ReqReceives ins duty steps skips answer new later → DropsFirst steps skips
req_first ins Free steps skips answer new later is = none_first steps skips is.2
req_first ins (Asked peer) steps skips answer new later is = dropping_first _ _ ins steps skips answer new (Asked peer) later is
req_first ins (Owing peer envelope) steps skips answer new later is = elim is [ ]

rep_first : (ins : List End) (duty : Duty) (steps : List PipeStep) (skips : List Skip) (answer : RecvAnswer) (new : List End) (later : Duty) → RepReceives ins duty steps skips answer new later → DropsFirst steps skips
rep_first ins Free steps skips answer new later is = dropping_first _ _ ins steps skips answer new Free later is
rep_first ins (Asked peer) steps skips answer new later is = elim is [ ]
rep_first ins (Owing peer envelope) steps skips answer new later is = none_first steps skips is.2

pattern_first : (old : Pattern) (steps : List PipeStep) (skips : List Skip) (answer : RecvAnswer) (new : Pattern) → PatternReceives old steps skips answer new → DropsFirst steps skips
pattern_first (Push outs) steps skips answer new is = none_first steps skips is.0
pattern_first (Pull ins) steps skips answer new is = none_first steps skips is.0
pattern_first (Pair t) steps skips answer new is = none_first steps skips is.0
pattern_first (Dealer t) steps skips answer new is = none_first steps skips is.0
pattern_first (Req t duty) steps skips answer new (ins', later, is, same) = req_first t.ins duty steps skips answer ins' later is
pattern_first (Rep ins duty) steps skips answer new (ins', later, is, same) = rep_first ins duty steps skips answer ins' later is
pattern_first (Router r) steps skips answer new is = none_first steps skips is.0
pattern_first (Pub p) steps skips answer new is = none_first steps skips is.0
pattern_first (XPub p) steps skips answer new is = none_first steps skips is.0
pattern_first (Sub s) steps skips answer new (s', (turns, is, same), e) = dropping_first _ _ s.ins steps skips answer turns Free Free is
pattern_first (XSub s) steps skips answer new is = none_first steps skips is.0

-- a publisher drops nothing
publishers_drop_none : (old : Pattern) (steps : List PipeStep) (skips : List Skip) (answer : RecvAnswer) (new : Pattern) → is_publisher_kind (pattern_kind old) ≡ true → PatternReceives old steps skips answer new → skips ≡ []
publishers_drop_none (Push outs) steps skips answer new hears is = is.0
publishers_drop_none (Pull ins) steps skips answer new hears is = is.0
publishers_drop_none (Pair t) steps skips answer new hears is = is.0
publishers_drop_none (Dealer t) steps skips answer new hears is = is.0
publishers_drop_none (Req t duty) steps skips answer new hears is = never (sym hears)
publishers_drop_none (Rep ins duty) steps skips answer new hears is = never (sym hears)
publishers_drop_none (Router r) steps skips answer new hears is = is.0
publishers_drop_none (Pub p) steps skips answer new hears is = is.0
publishers_drop_none (XPub p) steps skips answer new hears is = is.0
publishers_drop_none (Sub s) steps skips answer new hears is = never (sym hears)
publishers_drop_none (XSub s) steps skips answer new hears is = is.0

-- what a socket hears or tells before a call leaves its kind
pump_kind : (can_write : End → Bool) (old : Pattern) (steps : List PipeStep) (new : Pattern) → PatternPumps can_write old steps new → pattern_kind new ≡ pattern_kind old
pump_kind can_write (Push outs) steps new is = ap pattern_kind is.1
pump_kind can_write (Pull ins) steps new is = ap pattern_kind is.1
pump_kind can_write (Pair t) steps new is = ap pattern_kind is.1
pump_kind can_write (Dealer t) steps new is = ap pattern_kind is.1
pump_kind can_write (Req t duty) steps new is = ap pattern_kind is.1
pump_kind can_write (Rep ins duty) steps new is = ap pattern_kind is.1
pump_kind can_write (Router r) steps new is = ap pattern_kind is.1
pump_kind can_write (Pub p) steps new (p', hears, is) = ap pattern_kind is
pump_kind can_write (XPub p) steps new (p', hears, is) = ap pattern_kind is
pump_kind can_write (Sub s) steps new (s', tells, is) = ap pattern_kind is
pump_kind can_write (XSub s) steps new (s', tells, is) = ap pattern_kind is

-- ---- calls

module _ {N S : Type 0} where
  pumped_kind : (old : OpenSock) (acts : List (Act N S)) (new : OpenSock) → Pumps old acts new → pattern_kind new.pattern ≡ pattern_kind old.pattern
  pumped_kind old acts new u =
      passed_kind (moments_in u.looks) (record u.heard { pattern = u.pattern }) new u.meets
      ∙ pump_kind (can_write u.heard) u.heard.pattern u.steps u.pattern u.pumps
      ∙ passed_kind (moments_in (flat_map (λ x. x) u.letters ++ u.last)) old u.heard u.hears

  -- behind acts that take nothing
  behind_first : (pump acts : List (Act N S)) (skips : List Skip) → pipes_taken (steps_in pump) ≡ [] → DropsFirst (steps_in acts) skips → DropsFirst (steps_in (pump ++ acts)) skips
  behind_first pump acts skips none d = record {
    first = d.first;
    rest = d.rest;
    taken = ap pipes_taken (filter_map-append pipe_step_of pump acts) ∙ taken_both (steps_in pump) (steps_in acts)
        ∙ ap (λ (l : List PipeId). l ++ pipes_taken (steps_in acts)) none ∙ d.taken;
    told = d.told;
  }

  receive_first : (old : OpenSock) (t : Try N S) (new : OpenSock) → ReceivesOpen old t new → DropsFirst (steps_in t.call) t.skips
  receive_first old t new r =
      subst (λ (l : List PipeStep). DropsFirst l t.skips) (sym (ap steps_in r.call_is ∙ steps_back N S r.steps))
      (pattern_first old.pattern r.steps t.skips r.got r.pattern r.receives)

  received_first : (old : OpenSock) (t : Try N S) (new : OpenSock) (stopped : Bool) (refused : Answer) → UnlessStopped stopped refused ReceivesOpen old t new → DropsFirst (steps_in t.call) t.skips
  received_first old t new true refused is = none_first (steps_in t.call) t.skips is.skips_are
  received_first old t new false refused is = receive_first old t new is

  published_none : (old : OpenSock) (t : Try N S) (new : OpenSock) (stopped : Bool) (refused : Answer) → is_publisher_kind (pattern_kind old.pattern) ≡ true → UnlessStopped stopped refused ReceivesOpen old t new → t.skips ≡ []
  published_none old t new true refused hears is = is.skips_are
  published_none old t new false refused hears is = publishers_drop_none old.pattern is.steps t.skips is.got is.pattern hears is.receives

  -- a pump and a receive behind it
  pumped_receive : (old : OpenSock) (t : Try N S) (pumped new : OpenSock) (stopped : Bool) (refused : Answer) → Pumps old t.pump pumped → UnlessStopped stopped refused ReceivesOpen pumped t new
      → DropsFirst (steps_in (t.pump ++ t.call)) t.skips
  pumped_receive old t pumped new stopped refused pumps is = by (is_publisher_kind (pattern_kind old.pattern)) refl
    where
      by : (b : Bool) → is_publisher_kind (pattern_kind old.pattern) ≡ b → DropsFirst (steps_in (t.pump ++ t.call)) t.skips
      by true hears = none_first (steps_in (t.pump ++ t.call)) t.skips (published_none pumped t new stopped refused (ap is_publisher_kind (pumped_kind old t.pump pumped pumps) ∙ hears) is)
      by false plain = behind_first t.pump t.call t.skips (pumped_none old t.pump pumped plain pumps).0 (received_first pumped t new stopped refused is)

  unless_none : (Does : OpenSock → Try N S → OpenSock → Type 0) → ((old : OpenSock) (t : Try N S) (new : OpenSock) → Does old t new → t.skips ≡ []) → (old : OpenSock) (t : Try N S) (new : OpenSock) (stopped : Bool) (refused : Answer)
      → UnlessStopped stopped refused Does old t new → t.skips ≡ []
  unless_none Does none old t new true refused is = is.skips_are
  unless_none Does none old t new false refused is = none old t new is

  connect_none : (takes stopped : Bool) (to : Endpoint) (old : OpenSock) (t : Try N S) (new : OpenSock) → ConnectsWhere takes stopped to old t new → t.skips ≡ []
  connect_none true stopped to old t new is = is.skips_are
  connect_none false stopped to old t new is = is.skips_are

  -- a pump and any call behind it
  pumped_call : (asks : Call) (old : OpenSock) (t : Try N S) (pumped new : OpenSock) → Pumps old t.pump pumped → AsksOpen asks pumped t new → DropsFirst (steps_in (t.pump ++ t.call)) t.skips
  pumped_call (call.Socket kind options) old t pumped new pumps is = elim is [ ]
  pumped_call (call.Bind place at) old t pumped new pumps is = none_first _ _ is.skips_are
  pumped_call (call.Connect place to) old t pumped new pumps is = none_first _ _ (connect_none (takes_connect pumped.pattern to) pumped.stopped to pumped t new is)
  pumped_call (call.Send place m) old t pumped new pumps is = none_first _ _ (unless_none (SendsOpen m) (λ a x b does. does.skips_are) pumped t new pumped.stopped _ is)
  pumped_call (call.Recv place tries) old t pumped new pumps is = pumped_receive old t pumped new pumped.stopped _ pumps is
  pumped_call (call.Subscribe place topic) old t pumped new pumps is = none_first _ _ (unless_none (ChangesOpen Subscribe topic) (λ a x b does. does.skips_are) pumped t new pumped.stopped _ is)
  pumped_call (call.Unsubscribe place topic) old t pumped new pumps is = none_first _ _ (unless_none (ChangesOpen Unsubscribe topic) (λ a x b does. does.skips_are) pumped t new pumped.stopped _ is)
  pumped_call (call.Unbind place at) old t pumped new pumps is = none_first _ _ is.skips_are
  pumped_call (call.Disconnect place at) old t pumped new pumps is = none_first _ _ is.skips_are
  pumped_call (call.Close place) old t pumped new pumps is = elim is [ ]
  pumped_call call.Term old t pumped new pumps is = elim is [ ]

-- pipes that an object reads
abbrev AreReadBy : Control → ℕ → List PipeId → Type 0
AreReadBy c o qs = AllByRecursion (λ q. (owner_of c (other_end q) == o) ≡ true) qs

-- each message taken is read at the end where the step is
taken_at : (c : Control) (o : ℕ) (steps : List PipeStep) → AllByRecursion (IsDoneAt c (λ i. (i == o) ≡ true)) steps → AreReadBy c o (pipes_taken steps)
taken_at c o [] all = tt
taken_at c o (Commit q m ∷ steps) all = taken_at c o steps all.1
taken_at c o (FullLook q ∷ steps) all = taken_at c o steps all.1
taken_at c o (RoomLook q ∷ steps) all = taken_at c o steps all.1
taken_at c o (Take q m ∷ steps) all = (all.0.owner refl, taken_at c o steps all.1)
taken_at c o (EmptyLook q ∷ steps) all = taken_at c o steps all.1
taken_at c o (DelimiterLook q ∷ steps) all = taken_at c o steps all.1
taken_at c o (WaitingLook q ∷ steps) all = taken_at c o steps all.1
taken_at c o (Seal q ∷ steps) all = taken_at c o steps all.1

read_front : (c : Control) (o : ℕ) (qs rest : List PipeId) → AreReadBy c o (qs ++ rest) → AreReadBy c o qs
read_front c o [] rest all = tt
read_front c o (q ∷ qs) rest all = (all.0, read_front c o qs rest all.1)

-- who reads both pipes of a pair is joined with itself
both_sides : (x y : Bool) (r : PairRow) (o : ℕ) → same_side x y ≡ false → (end_owner r (not x) == o) ≡ true → (end_owner r (not y) == o) ≡ true → joins_self o r ≡ true
both_sides true true r o e f g = never e
both_sides true false r o e f g = rw (f, g) refl
both_sides false true r o e f g = rw (f, g) refl
both_sides false false r o e f g = never e

module _ (c : Control) (o : ℕ) (apart : (k : ℕ) → joins_self o (pair c.rows k) ≡ false) (p : PipeId) where
  not_both : (q : PipeId) → nat_eq p.pair.0 q.pair.0 ≡ true → same_pipe p q ≡ false → (owner_of c (other_end p) == o) ≡ true → (owner_of c (other_end q) == o) ≡ true → ⊥
  not_both q same differ mine theirs =
      let here : p.pair.0 ≡ q.pair.0 = eqb-true p.pair.0 q.pair.0 same in
      let side : same_side p.a q.a ≡ false = sym (ap (λ (b : Bool). if b then same_side p.a q.a else false) same) ∙ differ in
      true≢false (sym (both_sides p.a q.a (pair c.rows q.pair.0) o side (subst (λ (k : ℕ). (end_owner (pair c.rows k) (not p.a) == o) ≡ true) here mine) theirs) ∙ apart q.pair.0)

  -- a pipe read by the object is this one if its pair is told and the object reads this one
  same_told : (q : PipeId) (skip : Skip) → q.pair ≡ skip.pair → (owner_of c (other_end q) == o) ≡ true → (owner_of c (other_end p) == o) ≡ true → same_pipe p q ≡ is_told_of p skip
  same_told q skip of theirs mine = by (same_pipe p q) refl (is_told_of p skip) refl
    where
      by : (a : Bool) → same_pipe p q ≡ a → (b : Bool) → is_told_of p skip ≡ b → a ≡ b
      by true e true f = refl
      by true e false f = absurd (true≢false (sym (eq-eqb skip.pair.0 p.pair.0 (ap (λ (k : PairId). k.0) (sym of) ∙ sym (ap (λ (k : PipeId). k.pair.0) (same_pipes p q e)))) ∙ f))
      by false e true f = absurd (not_both q (eq-eqb p.pair.0 q.pair.0 (sym (eqb-true skip.pair.0 p.pair.0 f) ∙ sym (ap (λ (k : PairId). k.0) of))) e mine theirs)
      by false e false f = refl

  not_mine : (q : PipeId) → (owner_of c (other_end q) == o) ≡ true → (owner_of c (other_end p) == o) ≡ false → same_pipe p q ≡ false
  not_mine q theirs none = by (same_pipe p q) refl
    where
      by : (a : Bool) → same_pipe p q ≡ a → a ≡ false
      by true e = absurd (true≢false (sym theirs ∙ sym (ap (λ (k : PipeId). owner_of c (other_end k) == o) (same_pipes p q e)) ∙ none))
      by false e = refl

  count_mine : (qs : List PipeId) (skips : List Skip) → AreToldOf qs skips → AreReadBy c o qs → (owner_of c (other_end p) == o) ≡ true → count_of p qs ≡ length (filter (is_told_of p) skips)
  count_mine [] [] told read mine = refl
  count_mine [] (skip ∷ skips) told read mine = elim told [ ]
  count_mine (q ∷ qs) [] told read mine = elim told [ ]
  count_mine (q ∷ qs) (skip ∷ skips) told read mine = by (is_told_of p skip) refl (same_told q skip told.0 read.0 mine) (count_mine qs skips told.1 read.1 mine)
    where
      by : (b : Bool) → is_told_of p skip ≡ b → same_pipe p q ≡ is_told_of p skip → count_of p qs ≡ length (filter (is_told_of p) skips) → count_of p (q ∷ qs) ≡ length (filter (is_told_of p) (skip ∷ skips))
      by true e f rest = rw (f, e) (ap suc rest)
      by false e f rest = rw (f, e) rest

  count_other : (qs : List PipeId) → AreReadBy c o qs → (owner_of c (other_end p) == o) ≡ false → count_of p qs ≡ 0
  count_other [] read none = refl
  count_other (q ∷ qs) read none = rw (not_mine q read.0 none) (count_other qs read.1 none)

  count_told : (qs : List PipeId) (skips : List Skip) → AreToldOf qs skips → AreReadBy c o qs → count_of p qs ≡ drops_told c o p skips
  count_told qs skips told read = by (owner_of c (other_end p) == o) refl
    where
      by : (b : Bool) → (owner_of c (other_end p) == o) ≡ b → count_of p qs ≡ drops_told c o p skips
      by true e = rw e (count_mine qs skips told read e)
      by false e = rw e (count_other qs read e)

told_many : (qs : List PipeId) (skips : List Skip) → AreToldOf qs skips → length skips ≡ length qs
told_many [] [] told = refl
told_many [] (skip ∷ skips) told = elim told [ ]
told_many (q ∷ qs) [] told = elim told [ ]
told_many (q ∷ qs) (skip ∷ skips) told = ap suc (told_many qs skips told.1)

take_front : (xs ys : List PipeId) → take (length xs) (xs ++ ys) ≡ xs
take_front [] ys = refl
take_front (x ∷ xs) ys = ap (λ (l : List PipeId). x ∷ l) (take_front xs ys)

module _ {N S : Type 0} where
  one_call : (c : Control) (o : ℕ) → ((k : ℕ) → joins_self o (pair c.rows k) ≡ false) → (acts : List (Act N S)) (skips : List Skip) → DropsFirst (steps_in acts) skips → AreAtEnds c (λ i. i == o) acts
      → (p : PipeId) → count_of p (take (length skips) (pipes_taken (steps_in acts))) ≡ drops_told c o p skips
  one_call c o apart acts skips d at p =
      let front : take (length skips) (pipes_taken (steps_in acts)) ≡ d.first =
      ap (λ (n : ℕ). take n (pipes_taken (steps_in acts))) (told_many d.first skips d.told) ∙ ap (take (length d.first)) d.taken ∙ take_front d.first d.rest in
      let read = read_front c o d.first d.rest (subst (AreReadBy c o) d.taken (taken_at c o (steps_in acts) at)) in
      ap (count_of p) front ∙ count_told c o apart p d.first skips d.told read

  call_tells : CallsTellDrops N S
  call_tells workers items run o other caller asks old new answer told told_now before after calls at p =
      let c = after_all items (begun workers) in
      let d = pumped_call asks old (record { line = record { number = 0; call = asks }; pump = calls.pump; call = calls.acts; skips = calls.skips; told = []; answer = answer; over = false }) calls.pumped new calls.pumps
      (calls.does (record { number = 0; call = asks }) [] false) in
      ap (drops_at p) calls.adds.added ∙ drops_more p before caller false (calls.pump ++ calls.acts) calls.skips
      ∙ ap (λ (n : ℕ). drops_at p before + n) (one_call c o (λ k. pairs_are_apart k o workers items run other) (calls.pump ++ calls.acts) calls.skips d at p)

pub calls_tell_drops : (N S : Type 0) → CallsTellDrops N S
calls_tell_drops N S = call_tells
