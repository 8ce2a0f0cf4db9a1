-- What a receive of an open socket counts at pipes.
use Rattle.std.specs.Prelude.{◌≡◌, ◌+◌, ℕ, zero, suc, Bool, true, false, List, [], ◌∷◌, ◌++◌, drop, filter, flat_map, length, map, if◌then◌else◌, refl}
use Rattle.std.proofs.Common.{arith, sym, ap, ◌∙◌, subst, append-nil}
use Rattle.std.proofs.lemmas.List.Elements.{filter_map-append}
use Rattle.std.proofs.lemmas.List.Sums.{sum_by-append, sum_by-cons}
use Rattle.zq_base.specs.declared.ids.EndId.{EndId}
use Rattle.zq_base.specs.Ends.{PipeId}
use Rattle.spec_run.specs.declared.script.Call.TheVariants as call
use Rattle.spec_pattern.specs.PipeStep.{PipeStep, Seal, same_pipe, taken_from}
use Rattle.spec_pattern.specs.Pattern.{Pattern, attach_as, detach}
use Rattle.spec_pattern.specs.declared.answers.Skip.{Skip}
use Rattle.spec_pattern.specs.declared.answers.RecvRefusal.TheVariants as recv
use Rattle.spec_pattern.specs.declared.answers.RecvAnswer.{RecvAnswer}
use Rattle.spec_pattern.specs.declared.answers.RecvAnswer.TheVariants as got
use Rattle.spec_pattern.specs.Peers.{pattern_kind}
use Rattle.spec_control.specs.declared.entry.Joining.{Joining}
use Rattle.spec_control.specs.declared.letter.Word.{Word}
use Rattle.spec_control.specs.declared.letter.Word.TheVariants.{Own, Plug, TermReq, Term, TermAck, PipeBind, PipeTerm, PipeTermAck, Stop, Reap}
use Rattle.spec_control.specs.Control.{Control, place_of}
use Rattle.spec_control.specs.Moments.{Moment, left_by}
use Rattle.spec_run.specs.Line.{got_answer}
use Rattle.spec_run.specs.declared.answer.Answer.{Answer}
use Rattle.spec_run.specs.Act.{Act, Step, Try, steps_in, moments_in, pipe_step_of}
use Rattle.spec_run.specs.Event.{seals_in, acts_said, LooksFront, finds_none, finds_one, finds_end, LooksFronts, LooksWhere, LooksBehind, TakesLetters}
use Rattle.spec_run.specs.Fate.{is_publisher_kind}
use Rattle.spec_run.specs.OpenSocket.{OpenSock, attach_all, detach_all, awaits_delimiter, joins_of, leaves_in, sock_after, PassesItems, can_write, waiting_ends}
use Rattle.spec_run.specs.Pump.{EndsTaking, took_all, found_empty, Pumps}
use Rattle.spec_run.specs.SocketCall.{ReceivesOpen, UnlessStopped}
use Rattle.zq_world.specs.Piece.{Piece, piece_of}
use Rattle.zq_world.specs.Way.{CallsOne}
use Rattle.socket_laws.specs.Given.{pipes_taken, given_of_call, given_at}
use Rattle.socket_laws.specs.Receives.{CountsGiven, CallsAreCounted}
use Rattle.socket_laws.proofs.GivenLemmas.{given_steps, given_few}
use Rattle.socket_laws.proofs.ReceiveLemmas.{TakesSo, taken_both, none_both, pattern_takes, pump_none, attached_kind, detached_kind}

-- ---- lists

drop_front : (xs ys : List PipeId) (n : ℕ) → length xs ≡ n → drop n (xs ++ ys) ≡ ys
drop_front [] ys n e = subst (λ (k : ℕ). drop k ys ≡ ys) e refl
drop_front (x ∷ xs) ys n e = subst (λ (k : ℕ). drop k (x ∷ (xs ++ ys)) ≡ ys) e (drop_front xs ys (length xs) refl)

at_one : (p q : PipeId) → length (filter (same_pipe p) (q ∷ [])) ≡ (if same_pipe p q then 1 else 0)
at_one p q = by (same_pipe p q) refl
  where
    by : (b : Bool) → same_pipe p q ≡ b → length (filter (same_pipe p) (q ∷ [])) ≡ (if same_pipe p q then 1 else 0)
    by true e = rw e refl
    by false e = rw e refl

none_left : (p : PipeId) (n : ℕ) → length (filter (same_pipe p) (drop n [])) ≡ 0
none_left p zero = refl
none_left p (suc n) = refl

-- ---- the kind of a socket stays

joined_kind : {N : Type 0} (js : List (Joining N)) (p : Pattern) → pattern_kind (attach_all js p) ≡ pattern_kind p
joined_kind [] p = refl
joined_kind (j ∷ js) p = joined_kind js (attach_as j.answer j.end j.peer p) ∙ attached_kind j.answer j.end j.peer p

left_kind : (es : List EndId) (p : Pattern) → pattern_kind (detach_all es p) ≡ pattern_kind p
left_kind [] p = refl
left_kind (e ∷ es) p = left_kind es (detach e p) ∙ detached_kind e p

-- the steps of a kind, and delimiters, as acts
pub steps_back : (N S : Type 0) (steps : List PipeStep) → steps_in {N = N} {S = S} (map (λ s. Step s) steps) ≡ steps
steps_back N S [] = refl
steps_back N S (s ∷ steps) = ap (λ (l : List PipeStep). s ∷ l) (steps_back N S steps)

seals_none : (N S : Type 0) (es : List EndId) → pipes_taken (steps_in {N = N} {S = S} (map (λ e. Step (Seal e)) es)) ≡ []
seals_none N S [] = refl
seals_none N S (e ∷ es) = seals_none N S es

module _ {N S : Type 0} where
  -- acts that take nothing
  abbrev TakeNone : List (Act N S) → Type 0
  TakeNone acts = pipes_taken (steps_in acts) ≡ []

  acts_none : (xs ys : List (Act N S)) → TakeNone xs → TakeNone ys → TakeNone (xs ++ ys)
  acts_none xs ys e f = ap pipes_taken (filter_map-append pipe_step_of xs ys) ∙ none_both (steps_in xs) (steps_in ys) e f

  said_none : (m : Moment N S) → TakeNone (acts_said m)
  said_none m = seals_none N S (seals_in m)

  front_none : (e : EndId) (acts : List (Act N S)) → LooksFront e acts → TakeNone acts
  front_none e acts (finds_none is) = ap (λ (l : List (Act N S)). pipes_taken (steps_in l)) is
  front_none e acts (finds_one is) = ap (λ (l : List (Act N S)). pipes_taken (steps_in l)) is
  front_none e acts (finds_end m met is) = ap (λ (l : List (Act N S)). pipes_taken (steps_in l)) is ∙ said_none m

  fronts_none : (es : List EndId) (acts : List (Act N S)) → LooksFronts es acts → TakeNone acts
  fronts_none [] acts is = ap (λ (l : List (Act N S)). pipes_taken (steps_in l)) is
  fronts_none (e ∷ es) acts (first, rest, one, all, is) =
      ap (λ (l : List (Act N S)). pipes_taken (steps_in l)) is ∙ acts_none first rest (front_none e first one) (fronts_none es rest all)

  where_none : (b : Bool) (e : EndId) (acts : List (Act N S)) → LooksWhere b e acts → TakeNone acts
  where_none true e acts is = front_none e acts is
  where_none false e acts is = ap (λ (l : List (Act N S)). pipes_taken (steps_in l)) is

  behind_none : (c : Control) (word : Word) (acts : List (Act N S)) → LooksBehind c word acts → TakeNone acts
  behind_none c (PipeTerm e) acts is = where_none (awaits_delimiter (place_of c e)) e acts is
  behind_none c (Own child) acts is = ap (λ (l : List (Act N S)). pipes_taken (steps_in l)) is
  behind_none c (Plug end) acts is = ap (λ (l : List (Act N S)). pipes_taken (steps_in l)) is
  behind_none c (TermReq child) acts is = ap (λ (l : List (Act N S)). pipes_taken (steps_in l)) is
  behind_none c Term acts is = ap (λ (l : List (Act N S)). pipes_taken (steps_in l)) is
  behind_none c (TermAck child) acts is = ap (λ (l : List (Act N S)). pipes_taken (steps_in l)) is
  behind_none c (PipeBind e peer) acts is = ap (λ (l : List (Act N S)). pipes_taken (steps_in l)) is
  behind_none c (PipeTermAck e) acts is = ap (λ (l : List (Act N S)). pipes_taken (steps_in l)) is
  behind_none c Stop acts is = ap (λ (l : List (Act N S)). pipes_taken (steps_in l)) is
  behind_none c (Reap socket) acts is = ap (λ (l : List (Act N S)). pipes_taken (steps_in l)) is

  letters_none : (slot : ℕ) (letters : List (List (Act N S))) → TakesLetters slot letters → TakeNone (flat_map (λ x. x) letters)
  letters_none slot [] all = refl
  letters_none slot (acts ∷ letters) (one, all) =
      acts_none acts (flat_map (λ x. x) letters)
      (ap (λ (l : List (Act N S)). pipes_taken (steps_in l)) one.acts_are ∙ acts_none (acts_said one.taken) one.looks (said_none one.taken) (behind_none (left_by one.taken) one.letter.word one.looks one.behind))
      (letters_none slot letters all)

  ends_none : (slot taken : ℕ) (acts : List (Act N S)) → EndsTaking slot taken acts → TakeNone acts
  ends_none slot taken acts (took_all all is) = ap (λ (l : List (Act N S)). pipes_taken (steps_in l)) is
  ends_none slot taken acts (found_empty m few look is) = ap (λ (l : List (Act N S)). pipes_taken (steps_in l)) is

  -- and so in items
  pub passed_kind : (ms : List (Moment N S)) (old new : OpenSock) → PassesItems ms old new → pattern_kind new.pattern ≡ pattern_kind old.pattern
  passed_kind [] old new is = ap (λ (s : OpenSock). pattern_kind s.pattern) is
  passed_kind (m ∷ ms) old new is =
      passed_kind ms (sock_after m old) new is.1
      ∙ left_kind (leaves_in m old) (attach_all (joins_of old.object m) old.pattern)
      ∙ joined_kind (joins_of old.object m) old.pattern

  -- what is done before a call takes nothing
  pub pumped_none : (old : OpenSock) (acts : List (Act N S)) (new : OpenSock) → is_publisher_kind (pattern_kind old.pattern) ≡ false → Pumps old acts new → TakeNone acts × (pattern_kind new.pattern ≡ pattern_kind old.pattern)
  pumped_none old acts new plain u =
      let heard = passed_kind (moments_in (flat_map (λ x. x) u.letters ++ u.last)) old u.heard u.hears in
      let pumps = pump_none (can_write u.heard) u.heard.pattern u.steps u.pattern (ap is_publisher_kind heard ∙ plain) u.pumps in (
        ap (λ (l : List (Act N S)). pipes_taken (steps_in l)) u.acts_are
            ∙ acts_none (flat_map (λ x. x) u.letters ++ u.last) (map (λ s. Step s) u.steps ++ u.looks)
            (acts_none (flat_map (λ x. x) u.letters) u.last (letters_none old.slot u.letters u.takes) (ends_none old.slot (length u.letters) u.last u.ends))
            (acts_none (map (λ s. Step s) u.steps) u.looks (ap pipes_taken (steps_back N S u.steps) ∙ pumps.0) (fronts_none (waiting_ends u.heard) u.looks u.looks_are)),
        passed_kind (moments_in u.looks) (record u.heard { pattern = u.pattern }) new u.meets ∙ pumps.1 ∙ heard,
      )

  -- ---- counts

  given_piece : (p : PipeId) (k : ℕ) (reaps : Bool) (acts : List (Act N S)) (skips : List Skip)
      → given_at p (piece_of k reaps acts skips) ≡ length (filter (same_pipe p) (drop (length skips) (pipes_taken (steps_in acts))))
  given_piece p k reaps [] skips = sym (none_left p (length skips))
  given_piece p k reaps (act ∷ acts) skips =
      let x : Piece N S = record { by = k; reaps = reaps; acts = act ∷ acts; skips = skips } in
      let one = sum_by-cons (given_of_call p) x [] in
      let is = given_steps p (steps_in (act ∷ acts)) skips in
      omega (arith, one, is)

  given_more : (p : PipeId) (pieces : List (Piece N S)) (k : ℕ) (reaps : Bool) (acts : List (Act N S)) (skips : List Skip) (n : ℕ)
      → length (filter (same_pipe p) (drop (length skips) (pipes_taken (steps_in acts)))) ≡ n → given_at p (pieces ++ piece_of k reaps acts skips) ≡ given_at p pieces + n
  given_more p pieces k reaps acts skips n is = sum_by-append (given_of_call p) pieces (piece_of k reaps acts skips) ∙ ap (λ (m : ℕ). given_at p pieces + m) (given_piece p k reaps acts skips ∙ is)

  none_given : (p : PipeId) (pieces : List (Piece N S)) (k : ℕ) (reaps : Bool) (acts : List (Act N S)) (skips : List Skip) → taken_from p (steps_in acts) ≡ [] → given_at p (pieces ++ piece_of k reaps acts skips) ≡ given_at p pieces
  none_given p pieces k reaps acts skips none =
      let few = given_few p (steps_in acts) skips in
      let is = given_steps p (steps_in acts) skips in
      let zero_is = ap length none in
      let more = given_more p pieces k reaps acts skips _ refl in
      omega (arith, few, is, zero_is, more)

  whole : (pump acts : List (Act N S)) → TakeNone pump → pipes_taken (steps_in (pump ++ acts)) ≡ pipes_taken (steps_in acts)
  whole pump acts none =
      ap pipes_taken (filter_map-append pipe_step_of pump acts) ∙ taken_both (steps_in pump) (steps_in acts) ∙ ap (λ (l : List PipeId). l ++ pipes_taken (steps_in acts)) none

  counts : (a : RecvAnswer) (k : ℕ) (pump acts : List (Act N S)) (skips : List Skip) (before after : List (Piece N S)) → after ≡ before ++ piece_of k false (pump ++ acts) skips → TakeNone pump → TakesSo (steps_in acts) skips a
      → CountsGiven a (steps_in (pump ++ acts)) before after
  counts (got.Got from_ m) k pump acts skips before after is none (dropped, q, takes, few, of) = (
    dropped,
    q,
    whole pump acts none ∙ takes,
    of,
    λ p. ap (given_at p) is ∙ given_more p before k false (pump ++ acts) skips (if same_pipe p q then 1 else 0)
        (ap (λ (l : List PipeId). length (filter (same_pipe p) (drop (length skips) l))) (whole pump acts none ∙ takes)
        ∙ ap (λ (l : List PipeId). length (filter (same_pipe p) l)) (drop_front dropped (q ∷ []) (length skips) few) ∙ at_one p q),
  )
  counts (got.Refused refusal) k pump acts skips before after is none takes = λ p.
      let all : drop (length skips) (pipes_taken (steps_in acts)) ≡ [] =
      ap (drop (length skips)) (sym (append-nil (pipes_taken (steps_in acts)))) ∙ drop_front (pipes_taken (steps_in acts)) [] (length skips) takes in
      let more = given_more p before k false (pump ++ acts) skips 0
      (ap (λ (l : List PipeId). length (filter (same_pipe p) (drop (length skips) l))) (whole pump acts none) ∙ ap (λ (l : List PipeId). length (filter (same_pipe p) l)) all) in
      let same = ap (given_at p) is in
      omega (arith, more, same)

  -- ---- a receive

  received : (old : OpenSock) (t : Try N S) (new : OpenSock) (stopped : Bool) → is_publisher_kind (pattern_kind old.pattern) ≡ false
      → UnlessStopped stopped (got_answer (got.Refused recv.Term)) ReceivesOpen old t new → (a : RecvAnswer) × (t.answer ≡ got_answer a) × TakesSo (steps_in t.call) t.skips a
  received old t new true plain is = (
    got.Refused recv.Term,
    is.answer_is,
    ap (λ (l : List (Act N S)). length (pipes_taken (steps_in l))) is.call_is ∙ sym (ap length is.skips_are),
  )
  received old t new false plain is = (
    is.got,
    is.answer_is,
    subst (λ (l : List PipeStep). TakesSo l t.skips is.got) (sym (ap steps_in is.call_is ∙ steps_back N S is.steps)) (pattern_takes old.pattern is.steps t.skips is.got is.pattern plain is.receives),
  )

  receives : (caller place tries : ℕ) (old new : OpenSock) (answer : Answer) (told told_now : List Skip) (before after : List (Piece N S))
      → (calls : CallsOne caller (call.Recv place tries) old new answer told told_now before after) → is_publisher_kind (pattern_kind old.pattern) ≡ false
      → (a : RecvAnswer) × (answer ≡ got_answer a) × CountsGiven a (steps_in (calls.pump ++ calls.acts)) before after
  receives caller place tries old new answer told told_now before after c plain =
      let pumped = pumped_none old c.pump c.pumped plain c.pumps in
      let is = received c.pumped _ new c.pumped.stopped (ap is_publisher_kind pumped.1 ∙ plain) (c.does (record { number = 0; call = call.Recv place tries }) [] false) in
      (is.0, is.1, counts is.0 caller c.pump c.acts c.skips before after c.adds.added pumped.0 is.2)

pub calls_are_counted : (N S : Type 0) → CallsAreCounted N S
calls_are_counted N S = record { none = none_given; receives = receives }
