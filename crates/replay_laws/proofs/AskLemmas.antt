-- What the deeds of workers ask is within what the lines of the actors ask.
use Rattle.std.specs.Prelude.{◌≡◌, ◌<◌, ◌≤◌, ◌+◌, ◌||◌, ℕ, zero, suc, Bool, true, false, not, nat_le, List, [], ◌∷◌, ◌++◌, Option, Some, None, flat_map, map, replicate, sum_by, refl}
use Rattle.std.proofs.Common.{arith, sym, ap, ◌∙◌, subst}
use Rattle.std.proofs.lemmas.Bool.{le-leb}
use Rattle.std.proofs.lemmas.List.Sums.{sum_by-cons, sum_by-append}
use Rattle.zq_base.specs.Message.{Frames}
use Rattle.zq_base.specs.declared.endpoint.Endpoint.{Endpoint}
use Rattle.zq_base.specs.declared.ids.EndId.{EndId}
use Rattle.zq_base.specs.declared.ids.ObjId.{ObjId}
use Rattle.zq_base.specs.declared.kind.Kind.{Kind}
use Rattle.zq_base.specs.declared.options.Options.{Options}
use Rattle.spec_run.specs.declared.script.Call.TheVariants as call
use Rattle.spec_pattern.specs.PatternCalls.{Change, Subscribe, Unsubscribe}
use Rattle.spec_pattern.specs.PipeStep.{PipeStep, Seal}
use Rattle.spec_pattern.specs.Topics.{Topic}
use Rattle.spec_control.specs.declared.letter.Word.{Word}
use Rattle.spec_control.specs.declared.letter.Word.TheVariants.{Own, Plug, TermReq, Term, TermAck, PipeBind, PipeTerm, PipeTermAck, Stop, Reap}
use Rattle.spec_control.specs.declared.request.Req.{Req}
use Rattle.spec_control.specs.declared.request.Req.TheVariants.{Socket as MakeSocket, AskTerm, Bind, Connect, Unbind, Disconnect, Close}
use Rattle.spec_control.specs.declared.entry.Did.{Did}
use Rattle.spec_control.specs.declared.entry.Did.TheVariants.{Asked, Delivered, Delimited}
use Rattle.spec_control.specs.declared.entry.Item.{Item}
use Rattle.spec_control.specs.declared.entry.Item.TheVariants.{Event, Seen}
use Rattle.spec_control.specs.Control.{Control, id}
use Rattle.control_laws.proofs.ListLemmas.{never}
use Rattle.spec_control.specs.Moments.{Moment, left_by}
use Rattle.spec_run.specs.declared.answer.Answer.{Answer}
use Rattle.spec_run.specs.declared.answer.Answer.TheVariants as answer
use Rattle.spec_run.specs.declared.script.Call.{Call}
use Rattle.spec_run.specs.declared.script.Line.{Line}
use Rattle.spec_run.specs.Script.{Script, line_tries, is_tried_again}
use Rattle.spec_run.specs.Act.{Act, Step, Try, Deed, Tries, Shuts, Fetches, Idles, Works, Looks, AsksRoot, Reads, acts_of, all_acts, moments_in}
use Rattle.spec_run.specs.OpenSocket.{OpenSock, waiting_ends}
use Rattle.spec_run.specs.Event.{LooksFront, finds_none, finds_one, finds_end, LooksFronts, LooksWhere, LooksBehind, TakesLetter, TakesLetters, seals_in, acts_said}
use Rattle.spec_run.specs.Pump.{EndsTaking, took_all, found_empty, Pumps}
use Rattle.spec_run.specs.SocketCall.{RefusesCall, SendsOpen, ReceivesOpen, ChangesOpen, RequestsOnce, UnlessStopped, SendsCall, ReceivesCall, ChangesCall, BindsCall, ConnectsWhere, takes_connect, ConnectsCall, UnbindsCall, DisconnectsCall}
use Rattle.spec_run.specs.Standing.{Sockets, ActorStanding, standing_before, NoPump, CallsOpen, ClosesOne, ClosesLine, HasNoSocket, open_at, OnFound, DoesLine, DoesTry, DoesDeed, LocalRun, standing_after}
use Rattle.spec_run.specs.Worker.{Role, ActsBy, Reaps, Serves, Conducts, roles, ReapsSo, ConductsSo, EachDoes, IsWorkOf}
use Rattle.spec_run.specs.OwnedRun.{AllWork, deeds_in}
use Rattle.replay_laws.proofs.WalkLemmas.{moments_on, no_moments, no_moments_sealed}

-- a weight of requests, and one of lines that is no less than that of what they ask; a line that weighs anything is tried once
pub record Weighs (w : Req → ℕ) (v : Call → ℕ) : Type 0 where
  pub sockets : (kind : Kind) (options : Options) → w (MakeSocket kind options) ≤ v (call.Socket kind options)
  pub binds : (o : ObjId) (place : ℕ) (at : Endpoint) → w (Bind o at) ≤ v (call.Bind place at)
  pub connects : (o : ObjId) (place : ℕ) (to : Endpoint) → w (Connect o to) ≤ v (call.Connect place to)
  pub unbinds : (o : ObjId) (place : ℕ) (at : Endpoint) → w (Unbind o at) ≤ v (call.Unbind place at)
  pub disconnects : (o : ObjId) (place : ℕ) (at : Endpoint) → w (Disconnect o at) ≤ v (call.Disconnect place at)
  pub closes : (o : ObjId) → w (Close o) ≡ 0
  pub terms : w AskTerm ≡ 0
  pub once : (line : Call) → 0 < v line → line_tries line ≡ 1

abbrev pub weight_did : {N S : Type 0} → (Req → ℕ) → Did N S → ℕ
weight_did w (Asked req reply h) = w req
weight_did w (Delivered slot letter h) = 0
weight_did w (Delimited e h) = 0

abbrev pub weight_item : {N S : Type 0} → (Req → ℕ) → Item N S → ℕ
weight_item w (Event entry) = weight_did w entry.did
weight_item w (Seen sight) = 0

-- what is asked in moments, and in acts
abbrev pub weight_moments : {N S : Type 0} → (Req → ℕ) → List (Moment N S) → ℕ
weight_moments w ms = sum_by (λ m. weight_item w m.item) ms

abbrev pub weight_acts : {N S : Type 0} → (Req → ℕ) → List (Act N S) → ℕ
weight_acts w acts = weight_moments w (moments_in acts)

-- what lines may ask
abbrev pub weight_lines : (Call → ℕ) → List Line → ℕ
weight_lines v [] = 0
weight_lines v (line ∷ lines) = v line.call + weight_lines v lines

-- what the actors of a script may ask
abbrev pub weight_script : (Call → ℕ) → Script → ℕ
weight_script v [] = 0
weight_script v (actor ∷ script) = weight_lines v actor.lines + weight_script v script

-- what all workers ask
abbrev pub weight_workers : {N S : Type 0} → (Req → ℕ) → List (List (List (Deed N S))) → ℕ
weight_workers w [] = 0
weight_workers w (steps ∷ more) = weight_acts w (all_acts (deeds_in steps)) + weight_workers w more

-- a line that weighs anything is over behind its first try
or_true : (b : Bool) → (b || true) ≡ true
or_true true = refl
or_true false = refl

is_over : (v : Call → ℕ) → ((line : Call) → 0 < v line → line_tries line ≡ 1) → (line : Call) (tried : ℕ) (answer : Answer) → 0 < v line → (not (is_tried_again answer) || nat_le (line_tries line) (tried + 1)) ≡ true
is_over v once line tried answer some =
    let one = once line some in
    ap (λ (b : Bool). not (is_tried_again answer) || b) (le-leb (line_tries line) (tried + 1) (omega (arith, one))) ∙ or_true (not (is_tried_again answer))

-- what a role may ask
abbrev weight_role : (Call → ℕ) → Role → ℕ
weight_role v (ActsBy actor) = weight_lines v actor.lines
weight_role v Reaps = 0
weight_role v Serves = 0
weight_role v Conducts = 0

abbrev weight_roles : (Call → ℕ) → List Role → ℕ
weight_roles v [] = 0
weight_roles v (role ∷ more) = weight_role v role + weight_roles v more

serving : (v : Call → ℕ) (io : ℕ) → weight_roles v (replicate io Serves ++ Conducts ∷ []) ≡ 0
serving v zero = omega arith
serving v (suc io) = let rest = serving v io in omega (arith, rest)

all_roles : (v : Call → ℕ) (script : Script) (io : ℕ) → weight_roles v (roles script io) ≡ weight_script v script
all_roles v [] io = let rest = serving v io in omega (arith, rest)
all_roles v (actor ∷ script) io = let rest = all_roles v script io in omega (arith, rest)

module _ {N S : Type 0} (w : Req → ℕ) (v : Call → ℕ) (weighs : Weighs w v) where
  abbrev asked : List (Act N S) → ℕ
  asked acts = weight_acts w acts

  asked_on : (xs ys : List (Act N S)) → asked (xs ++ ys) ≡ asked xs + asked ys
  asked_on xs ys =
      ap (weight_moments w) (moments_on xs ys) ∙ sum_by-append (λ (m : Moment N S). weight_item w m.item) (moments_in xs) (moments_in ys)

  both_none : (xs ys : List (Act N S)) → asked xs ≡ 0 → asked ys ≡ 0 → asked (xs ++ ys) ≡ 0
  both_none xs ys f g = let on = asked_on xs ys in omega (arith, on, f, g)

  asked_said : (m : Moment N S) → asked (acts_said m) ≡ weight_item w m.item
  asked_said m =
      let all = sum_by-cons (λ (x : Moment N S). weight_item w x.item) m (moments_in (map (λ e. let a : Act N S = Step (Seal e) in a) (seals_in m))) in
      let none = ap (weight_moments w) (no_moments_sealed N S (seals_in m)) in omega (arith, all, none)

  none : (acts : List (Act N S)) → acts ≡ [] → asked acts ≡ 0
  none acts e = ap asked e

  asked_steps : (acts : List (Act N S)) (steps : List PipeStep) → acts ≡ map (λ step. let a : Act N S = Step step in a) steps → asked acts ≡ 0
  asked_steps acts steps is = ap asked is ∙ ap (weight_moments w) (no_moments N S steps)

  -- ---- a pump asks nothing
  front : (e : EndId) (acts : List (Act N S)) → LooksFront e acts → asked acts ≡ 0
  front e acts (finds_none f) = ap asked f
  front e acts (finds_one f) = ap asked f
  front e acts (finds_end m said f) = ap asked f ∙ (asked_said m ∙ ap (weight_item w) said.item_is)

  fronts : (es : List EndId) (acts : List (Act N S)) → LooksFronts es acts → asked acts ≡ 0
  fronts [] acts f = none acts f
  fronts (e ∷ es) acts (a, b, f, fs, is) = ap asked is ∙ both_none a b (front e a f) (fronts es b fs)

  fronts_where : (b : Bool) (e : EndId) (acts : List (Act N S)) → LooksWhere b e acts → asked acts ≡ 0
  fronts_where true e acts f = front e acts f
  fronts_where false e acts f = none acts f

  behind : (c : Control) (word : Word) (acts : List (Act N S)) → LooksBehind c word acts → asked acts ≡ 0
  behind c (PipeTerm e) acts f = fronts_where _ e acts f
  behind c (Own child) acts f = none acts f
  behind c (Plug end) acts f = none acts f
  behind c (TermReq child) acts f = none acts f
  behind c Term acts f = none acts f
  behind c (TermAck child) acts f = none acts f
  behind c (PipeBind e peer) acts f = none acts f
  behind c (PipeTermAck e) acts f = none acts f
  behind c Stop acts f = none acts f
  behind c (Reap socket) acts f = none acts f

  taken : (slot : ℕ) (acts : List (Act N S)) → TakesLetter slot acts → asked acts ≡ 0
  taken slot acts t =
      ap asked t.acts_are
      ∙ both_none (acts_said t.taken) t.looks (asked_said t.taken ∙ ap (weight_item w) t.delivery.item_is) (behind (left_by t.taken) t.letter.word t.looks t.behind)

  all_taken : (slot : ℕ) (ls : List (List (Act N S))) → TakesLetters slot ls → asked (flat_map (λ x. x) ls) ≡ 0
  all_taken slot [] t = refl
  all_taken slot (x ∷ ls) t = both_none x (flat_map (λ y. y) ls) (taken slot x t.0) (all_taken slot ls t.1)

  taken_last : (slot k : ℕ) (acts : List (Act N S)) → EndsTaking slot k acts → asked acts ≡ 0
  taken_last slot k acts (took_all all is) = none acts is
  taken_last slot k acts (found_empty m few look is) =
      let one = sum_by-cons (λ (x : Moment N S). weight_item w x.item) m [] in
      let seen = ap (weight_item w) look.item_is in
      ap asked is ∙ omega (arith, one, seen)

  pumped : (s u : OpenSock) (acts : List (Act N S)) → Pumps s acts u → asked acts ≡ 0
  pumped s u acts p =
      let letters = flat_map (λ x. x) p.letters in
      let steps : List (Act N S) = map (λ step. Step step) p.steps in
      ap asked p.acts_are
      ∙ both_none (letters ++ p.last) (steps ++ p.looks)
      (both_none letters p.last (all_taken s.slot p.letters p.takes) (taken_last s.slot _ p.last p.ends))
      (both_none steps p.looks (asked_steps steps p.steps refl) (fronts (waiting_ends p.heard) p.looks p.looks_are))

  -- ---- a call asks so much at the most
  abbrev CallWeighs : ℕ → (OpenSock → Try N S → OpenSock → Type 0) → Type 0
  CallWeighs n Does = (s u : OpenSock) (t : Try N S) → Does s t u → asked t.call ≤ n

  refused : (n : ℕ) (said_so : Answer) → CallWeighs n (RefusesCall said_so)
  refused n said_so s u t f = let zero_so = none t.call f.call_is in omega (arith, zero_so)

  of_steps : (n : ℕ) (t : Try N S) (steps : List PipeStep) → t.call ≡ map (λ step. let a : Act N S = Step step in a) steps → asked t.call ≤ n
  of_steps n t steps is = let zero_so = asked_steps t.call steps is in omega (arith, zero_so)

  requested : (n : ℕ) (req : OpenSock → Req) → ((s : OpenSock) → w (req s) ≤ n) → CallWeighs n (λ s. RequestsOnce (req s) s)
  requested n req is s u t f =
      let all : asked t.call ≡ w (req s) = ap asked f.call_is ∙ (asked_said f.made ∙ ap (weight_item w) f.request.item_is) in
      let few = is s in omega (arith, all, few)

  unless_stopped : (n : ℕ) (stopped : Bool) (said_so : Answer) (Does : OpenSock → Try N S → OpenSock → Type 0) → CallWeighs n Does → CallWeighs n (UnlessStopped stopped said_so Does)
  unless_stopped n true said_so Does does s u t f = refused n said_so s u t f
  unless_stopped n false said_so Does does s u t f = does s u t f

  sends : (n : ℕ) (m : Frames) → CallWeighs n (SendsCall m)
  sends n m s u t f = unless_stopped n s.stopped _ (SendsOpen m) (λ s v t g. of_steps n t g.steps g.call_is) s u t f

  receives : (n : ℕ) → CallWeighs n ReceivesCall
  receives n s u t f = unless_stopped n s.stopped _ ReceivesOpen (λ s v t g. of_steps n t g.steps g.call_is) s u t f

  changes : (n : ℕ) (change : Change) (topic : Topic) → CallWeighs n (ChangesCall change topic)
  changes n change topic s u t f = unless_stopped n s.stopped answer.Term (ChangesOpen change topic) (λ s v t g. of_steps n t g.steps g.call_is) s u t f

  connects_where : (n : ℕ) (takes stopped : Bool) (to : Endpoint) → ((o : ObjId) → w (Connect o to) ≤ n) → CallWeighs n (ConnectsWhere takes stopped to)
  connects_where n true stopped to few s u t f = requested n (λ x. Connect (id x.object) to) (λ x. few (id x.object)) s u t f
  connects_where n false stopped to few s u t f = refused n _ s u t f

  -- ---- a line
  not_pumped : (t : Try N S) (acts : List (Act N S)) → NoPump t → t.call ≡ acts → t.pump ++ t.call ≡ acts
  not_pumped t acts f e = ap (λ l. l ++ t.call) f.pump_is ∙ e

  on_none : (n : ℕ) (old u : Sockets) (t : Try N S) → HasNoSocket old t u → asked (t.pump ++ t.call) ≤ n
  on_none n old u t f = let zero_so = none (t.pump ++ t.call) (not_pumped t [] f.no_pump f.call_is) in omega (arith, zero_so)

  on_socket : (n : ℕ) (Does : OpenSock → Try N S → OpenSock → Type 0) → CallWeighs n Does → (place : ℕ) (old u : Sockets) (t : Try N S) → OnFound (CallsOpen Does) (open_at old place) old t u → asked (t.pump ++ t.call) ≤ n
  on_socket n Does does place old u t f = by (open_at old place) f
    where
      by : (found : Option OpenSock) → OnFound (CallsOpen Does) found old t u → asked (t.pump ++ t.call) ≤ n
      by None g = on_none n old u t g
      by (Some s) g =
          let on = asked_on t.pump t.call in
          let pump = pumped s g.pumped t.pump g.pumps in
          let few = does g.pumped g.called t g.does in omega (arith, on, pump, few)

  closes : (s : OpenSock) (acts : List (Act N S)) (old u : Sockets) → ClosesOne s acts old u → asked acts ≡ 0
  closes s acts old u f = ap asked f.acts_are ∙ (asked_said f.closed ∙ (ap (weight_item w) f.request.item_is ∙ weighs.closes (id s.object)))

  on_closed : (n place : ℕ) (old u : Sockets) (t : Try N S) → OnFound ClosesLine (open_at old place) old t u → asked (t.pump ++ t.call) ≤ n
  on_closed n place old u t f = by (open_at old place) f
    where
      by : (found : Option OpenSock) → OnFound ClosesLine found old t u → asked (t.pump ++ t.call) ≤ n
      by None g = on_none n old u t g
      by (Some s) g = let zero_so : asked (t.pump ++ t.call) ≡ 0 = ap asked (not_pumped t t.call g.no_pump refl) ∙ closes s t.call old u g.closes in omega (arith, zero_so)

  line_asks : (line : Call) (old u : Sockets) (t : Try N S) → DoesLine line old t u → asked (t.pump ++ t.call) ≤ v line
  line_asks (call.Socket kind options) old u t f =
      let all : asked (t.pump ++ t.call) ≡ w (MakeSocket kind options) =
      ap asked (not_pumped t (acts_said f.made) f.no_pump f.call_is) ∙ (asked_said f.made ∙ ap (weight_item w) f.request.item_is) in
      let few = weighs.sockets kind options in omega (arith, all, few)
  line_asks (call.Bind place at) old u t f =
      on_socket (v (call.Bind place at)) (BindsCall at) (requested _ (λ x. Bind (id x.object) at) (λ x. weighs.binds (id x.object) place at)) place old u t f
  line_asks (call.Connect place to) old u t f =
      on_socket (v (call.Connect place to)) (ConnectsCall to) (λ s z y g. connects_where (v (call.Connect place to)) (takes_connect s.pattern to) s.stopped to (λ o. weighs.connects o place to) s z y g) place old u t f
  line_asks (call.Send place m) old u t f = on_socket _ (SendsCall m) (sends _ m) place old u t f
  line_asks (call.Recv place tries) old u t f = on_socket _ ReceivesCall (receives _) place old u t f
  line_asks (call.Subscribe place topic) old u t f = on_socket _ (ChangesCall Subscribe topic) (changes _ Subscribe topic) place old u t f
  line_asks (call.Unsubscribe place topic) old u t f = on_socket _ (ChangesCall Unsubscribe topic) (changes _ Unsubscribe topic) place old u t f
  line_asks (call.Unbind place at) old u t f =
      on_socket (v (call.Unbind place at)) (UnbindsCall at) (requested _ (λ x. Unbind (id x.object) at) (λ x. weighs.unbinds (id x.object) place at)) place old u t f
  line_asks (call.Disconnect place at) old u t f =
      on_socket (v (call.Disconnect place at)) (DisconnectsCall at) (requested _ (λ x. Disconnect (id x.object) at) (λ x. weighs.disconnects (id x.object) place at)) place old u t f
  line_asks (call.Close place) old u t f = on_closed _ place old u t f
  line_asks call.Term old u t f =
      let zero_so : asked (t.pump ++ t.call) ≡ 0 =
      ap asked (not_pumped t (acts_said f.made) f.no_pump f.call_is) ∙ (asked_said f.made ∙ (ap (weight_item w) f.request.item_is ∙ weighs.terms)) in omega (arith, zero_so)

  -- ---- an actor's deeds ask what its lines may ask
  try_asks : (old new : ActorStanding) (t : Try N S) → DoesTry old t new → asked (t.pump ++ t.call) + weight_lines v new.lines ≤ weight_lines v old.lines
  try_asks old new t f = subst (λ (st : ActorStanding). asked (t.pump ++ t.call) + weight_lines v st.lines ≤ weight_lines v old.lines) (sym f.new_is) (by t.over refl)
    where
      few : asked (t.pump ++ t.call) ≤ v t.line.call
      few = line_asks t.line.call old.mine f.mine t f.does

      lines : weight_lines v old.lines ≡ v t.line.call + weight_lines v f.rest
      lines = ap (weight_lines v) f.lines_are

      free : t.over ≡ false → (x : ℕ) → v t.line.call ≡ x → v t.line.call ≡ 0
      free e zero is = is
      free e (suc x) is = absurd (never (sym e ∙ (f.over_is ∙ is_over v weighs.once t.line.call old.tried t.answer (omega (arith, is)))))

      by : (b : Bool) → t.over ≡ b → asked (t.pump ++ t.call) + weight_lines v (standing_after b f.rest t.told f.mine old).lines ≤ weight_lines v old.lines
      by true e = omega (arith, few, lines)
      by false e = let nothing = free e (v t.line.call) refl in omega (arith, few, nothing)

  deed_asks : (old new : ActorStanding) (d : Deed N S) → DoesDeed old d new → asked (acts_of d) + weight_lines v new.lines ≤ weight_lines v old.lines
  deed_asks old new (Tries t) f = try_asks old new t f
  deed_asks old new (Shuts acts) f =
      let zero_so = closes f.first acts old.mine f.mine f.closes in
      let same = ap (λ (st : ActorStanding). weight_lines v st.lines) f.new_is in omega (arith, zero_so, same)
  deed_asks old new (Fetches slot acts) f =
      let zero_so = taken slot acts f.takes in
      let same = ap (λ (st : ActorStanding). weight_lines v st.lines) f.new_is in omega (arith, zero_so, same)
  deed_asks old new (Idles m) f = absurd f
  deed_asks old new (Works acts) f = absurd f
  deed_asks old new (Looks m) f = absurd f
  deed_asks old new (AsksRoot acts) f = absurd f
  deed_asks old new (Reads now) f = absurd f

  run_asks : (old new : ActorStanding) (ds : List (Deed N S)) → LocalRun old ds new → asked (all_acts ds) + weight_lines v new.lines ≤ weight_lines v old.lines
  run_asks old new [] f = let same = ap (λ (st : ActorStanding). weight_lines v st.lines) f in omega (arith, same)
  run_asks old new (d ∷ ds) (mid, first, rest) =
      let one = deed_asks old mid d first in
      let more = run_asks mid new ds rest in
      let on = asked_on (acts_of d) (all_acts ds) in omega (arith, one, more, on)

  -- ---- and other workers ask nothing that weighs
  reaper_asks : (ds : List (Deed N S)) → EachDoes ReapsSo ds → asked (all_acts ds) ≡ 0
  reaper_asks [] f = refl
  reaper_asks (d ∷ ds) f = both_none (acts_of d) (all_acts ds) (by d f.0) (reaper_asks ds f.1)
    where
      by : (d : Deed N S) → ReapsSo d → asked (acts_of d) ≡ 0
      by (Fetches slot acts) g = taken slot acts g.takes
      by (Idles m) g = let one = sum_by-cons (λ (x : Moment N S). weight_item w x.item) m [] in let seen = ap (weight_item w) g.item_is in omega (arith, one, seen)
      by (Tries t) g = absurd g
      by (Shuts acts) g = absurd g
      by (Works acts) g = absurd g
      by (Looks m) g = absurd g
      by (AsksRoot acts) g = absurd g
      by (Reads now) g = absurd g

  conductor_asks : (ds : List (Deed N S)) → EachDoes ConductsSo ds → asked (all_acts ds) ≡ 0
  conductor_asks [] f = refl
  conductor_asks (d ∷ ds) f = both_none (acts_of d) (all_acts ds) (by d f.0) (conductor_asks ds f.1)
    where
      by : (d : Deed N S) → ConductsSo d → asked (acts_of d) ≡ 0
      by (Looks m) g = let one = sum_by-cons (λ (x : Moment N S). weight_item w x.item) m [] in let seen = ap (weight_item w) g.item_is in omega (arith, one, seen)
      by (AsksRoot acts) g = ap asked g.acts_are ∙ (asked_said g.asked ∙ (ap (weight_item w) g.request.item_is ∙ weighs.terms))
      by (Reads now) g = refl
      by (Tries t) g = absurd g
      by (Shuts acts) g = absurd g
      by (Fetches slot acts) g = absurd g
      by (Idles m) g = absurd g
      by (Works acts) g = absurd g

  role_asks : (role : Role) (ds : List (Deed N S)) → IsWorkOf role ds → asked (all_acts ds) ≤ weight_role v role
  role_asks (ActsBy actor) ds (end, run) = let all = run_asks (standing_before actor) end ds run in omega (arith, all)
  role_asks Reaps ds f = let zero_so = reaper_asks ds f in omega (arith, zero_so)
  role_asks Serves ds f = let zero_so = ap (λ (l : List (Deed N S)). asked (all_acts l)) f in omega (arith, zero_so)
  role_asks Conducts ds f = let zero_so = conductor_asks ds f in omega (arith, zero_so)

  all_ask : (roles : List Role) (workers : List (List (List (Deed N S)))) → AllWork roles workers → weight_workers w workers ≤ weight_roles v roles
  all_ask [] [] f = omega arith
  all_ask [] (steps ∷ more) f = absurd f
  all_ask (role ∷ others) [] f = absurd f
  all_ask (role ∷ others) (steps ∷ more) f =
      let one = role_asks role (deeds_in steps) f.0 in
      let rest = all_ask others more f.1 in omega (arith, one, rest)

  pub workers_ask : (script : Script) (io : ℕ) (workers : List (List (List (Deed N S)))) → AllWork (roles script io) workers → weight_workers w workers ≤ weight_script v script
  workers_ask script io workers f = let all = all_ask (roles script io) workers f in let same = all_roles v script io in omega (arith, all, same)
