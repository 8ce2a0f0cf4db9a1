-- What a script without tcp asks: nothing over tcp, and a socket by a socket line alone.
use Rattle.std.specs.Prelude.{◌≡◌, ◌&&◌, ℕ, Bool, true, false, not, List, [], ◌∷◌, ◌++◌, Option, Some, None, flat_map, map, refl}
use Rattle.std.proofs.Common.{arith, sym, ap, ◌∙◌, append-nil}
use Rattle.std.proofs.lemmas.List.Folds.{list_all-append}
use Rattle.std.specs.List.{list_all}
use Rattle.zq_base.specs.declared.endpoint.Endpoint.{Endpoint}
use Rattle.zq_base.specs.declared.ids.EndId.{EndId}
use Rattle.spec_run.specs.declared.script.Call.TheVariants as call
use Rattle.spec_pattern.specs.PatternCalls.{Subscribe, Unsubscribe, Change}
use Rattle.spec_pattern.specs.PipeStep.{PipeStep}
use Rattle.spec_pattern.specs.Topics.{Topic}
use Rattle.zq_base.specs.Message.{Frames}
use Rattle.spec_control.specs.declared.letter.Word.{Word}
use Rattle.spec_control.specs.declared.letter.Word.TheVariants.{Own, Plug, TermReq, Term, TermAck, PipeBind, PipeTerm, PipeTermAck, Stop, Reap}
use Rattle.spec_control.specs.declared.request.Req.{Req}
use Rattle.spec_control.specs.declared.request.Req.TheVariants.{Socket as MakeSocket, AskTerm, Bind, Connect, Unbind, Disconnect, Close, Accepted, Shaken, AskEnd, AskOver, OutputOver}
use Rattle.spec_control.specs.declared.entry.Did.{Did}
use Rattle.spec_control.specs.declared.entry.Did.TheVariants.{Asked, Delivered, Delimited}
use Rattle.spec_control.specs.declared.entry.Item.{Item}
use Rattle.spec_control.specs.declared.entry.Item.TheVariants.{Event, Seen}
use Rattle.spec_control.specs.Control.{Control, id}
use Rattle.control_laws.proofs.ListLemmas.{left, right, and}
use Rattle.spec_control.specs.Moments.{Moment, left_by}
use Rattle.spec_run.specs.declared.answer.Answer.{Answer}
use Rattle.spec_run.specs.declared.answer.Answer.TheVariants as answer
use Rattle.spec_run.specs.declared.script.Call.{Call}
use Rattle.spec_run.specs.Act.{Act, Step, Try, Deed, Tries, Shuts, Fetches, Idles, Works, Looks, AsksRoot, Reads, moments_in, all_acts}
use Rattle.spec_run.specs.OpenSocket.{OpenSock, waiting_ends}
use Rattle.spec_run.specs.Event.{LooksFront, finds_none, finds_one, finds_end, LooksFronts, LooksWhere, LooksBehind, TakesLetter, TakesLetters, seals_in, acts_said}
use Rattle.spec_run.specs.Pump.{EndsTaking, took_all, found_empty, Pumps}
use Rattle.spec_run.specs.SocketCall.{RefusesCall, SendsOpen, ReceivesOpen, ChangesOpen, RequestsOnce, UnlessStopped, SendsCall, ReceivesCall, ChangesCall, BindsCall, ConnectsWhere, takes_connect, ConnectsCall, UnbindsCall, DisconnectsCall}
use Rattle.spec_run.specs.Standing.{Sockets, ActorStanding, NoPump, CallsOpen, ClosesOne, ClosesLine, HasNoSocket, open_at, OnFound, DoesLine, ShutsFirst, standing_after}
use Rattle.spec_run.specs.InTurns.{AsksIf, Begins, ActorStep, ReaperStep}
use Rattle.replay_laws.specs.InTime.{line_sockets}
use Rattle.replay_laws.specs.Local.{is_inproc, is_local, is_local_did, is_local_item}
use Rattle.replay_laws.proofs.WalkLemmas.{moments_on, no_moments, no_moments_sealed}
use Rattle.replay_laws.specs.LocalScript.{is_local_line, are_local_lines}

-- the request makes a socket
abbrev makes_socket : Req → Bool
makes_socket (MakeSocket kind options) = true
makes_socket AskTerm = false
makes_socket (Bind o at) = false
makes_socket (Connect o at) = false
makes_socket (Unbind o at) = false
makes_socket (Disconnect o at) = false
makes_socket (Close o) = false
makes_socket (Accepted o) = false
makes_socket (Shaken o peer) = false
makes_socket (AskEnd e reason) = false
makes_socket (AskOver o) = false
makes_socket (OutputOver o) = false

-- it makes no object at all
abbrev pub is_plain : Req → Bool
is_plain req = is_local req && not (makes_socket req)

abbrev pub is_plain_did : {N S : Type 0} → Did N S → Bool
is_plain_did (Asked req reply h) = is_plain req
is_plain_did (Delivered slot letter h) = true
is_plain_did (Delimited e h) = true

abbrev pub is_plain_item : {N S : Type 0} → Item N S → Bool
is_plain_item (Event entry) = is_plain_did entry.did
is_plain_item (Seen sight) = true

inproc_plain : (b : Bool) → b ≡ true → (b && not false) ≡ true
inproc_plain b is = and b true is refl

module _ {N S : Type 0} where
  abbrev all_items : (Item N S → Bool) → List (Act N S) → Bool
  all_items p acts = list_all (λ (m : Moment N S). p m.item) (moments_in acts)

  -- acts in which nothing is asked over tcp, and those that make no object
  abbrev pub are_local : List (Act N S) → Bool
  are_local acts = all_items is_local_item acts

  abbrev pub are_plain : List (Act N S) → Bool
  are_plain acts = all_items is_plain_item acts

  pub all_on : (p : Item N S → Bool) (xs ys : List (Act N S)) → all_items p xs ≡ true → all_items p ys ≡ true → all_items p (xs ++ ys) ≡ true
  all_on p xs ys f g =
      let q : Moment N S → Bool = λ m. p m.item in
      ap (list_all q) (moments_on xs ys) ∙ list_all-append q (moments_in xs) (moments_in ys) ∙ and _ _ f g

  pub all_said : (p : Item N S → Bool) (m : Moment N S) → p m.item ≡ true → all_items p (acts_said m) ≡ true
  all_said p m h = and (p m.item) _ h (ap (list_all (λ (x : Moment N S). p x.item)) (no_moments_sealed N S (seals_in m)))

  did_local : (did : Did N S) → is_plain_did did ≡ true → is_local_did did ≡ true
  did_local (Asked req reply h) is = left (is_local req) _ is
  did_local (Delivered slot letter h) is = refl
  did_local (Delimited e h) is = refl

  item_local : (item : Item N S) → is_plain_item item ≡ true → is_local_item item ≡ true
  item_local (Event entry) is = did_local entry.did is
  item_local (Seen sight) is = refl

  moments_local : (ms : List (Moment N S)) → list_all (λ m. is_plain_item m.item) ms ≡ true → list_all (λ m. is_local_item m.item) ms ≡ true
  moments_local [] all = refl
  moments_local (m ∷ ms) all = and _ _ (item_local m.item (left _ _ all)) (moments_local ms (right (is_plain_item m.item) _ all))

  pub plain_local : (acts : List (Act N S)) → are_plain acts ≡ true → are_local acts ≡ true
  plain_local acts all = moments_local (moments_in acts) all

module _ (N S : Type 0) where
  steps_plain : (steps : List PipeStep) → are_plain (map (λ step. let a : Act N S = Step step in a) steps) ≡ true
  steps_plain steps = ap (list_all (λ (m : Moment N S). is_plain_item m.item)) (no_moments N S steps)

module _ {N S : Type 0} where
  -- ---- a pump
  none : (acts : List (Act N S)) → acts ≡ [] → are_plain acts ≡ true
  none acts e = ap are_plain e

  front : (e : EndId) (acts : List (Act N S)) → LooksFront e acts → are_plain acts ≡ true
  front e acts (finds_none f) = ap are_plain f
  front e acts (finds_one f) = ap are_plain f
  front e acts (finds_end m said f) = ap are_plain f ∙ all_said is_plain_item m (ap is_plain_item said.item_is)

  fronts : (es : List EndId) (acts : List (Act N S)) → LooksFronts es acts → are_plain acts ≡ true
  fronts [] acts f = none acts f
  fronts (e ∷ es) acts (a, b, f, fs, is) = ap are_plain is ∙ all_on is_plain_item a b (front e a f) (fronts es b fs)

  fronts_where : (b : Bool) (e : EndId) (acts : List (Act N S)) → LooksWhere b e acts → are_plain acts ≡ true
  fronts_where true e acts f = front e acts f
  fronts_where false e acts f = none acts f

  behind : (c : Control) (word : Word) (acts : List (Act N S)) → LooksBehind c word acts → are_plain acts ≡ true
  behind c (PipeTerm e) acts f = fronts_where _ e acts f
  behind c (Own child) acts f = none acts f
  behind c (Plug end) acts f = none acts f
  behind c (TermReq child) acts f = none acts f
  behind c Term acts f = none acts f
  behind c (TermAck child) acts f = none acts f
  behind c (PipeBind e peer) acts f = none acts f
  behind c (PipeTermAck e) acts f = none acts f
  behind c Stop acts f = none acts f
  behind c (Reap socket) acts f = none acts f

  pub taken : (slot : ℕ) (acts : List (Act N S)) → TakesLetter slot acts → are_plain acts ≡ true
  taken slot acts t =
      ap are_plain t.acts_are
      ∙ all_on is_plain_item (acts_said t.taken) t.looks (all_said is_plain_item t.taken (ap is_plain_item t.delivery.item_is)) (behind (left_by t.taken) t.letter.word t.looks t.behind)

  all_taken : (slot : ℕ) (ls : List (List (Act N S))) → TakesLetters slot ls → are_plain (flat_map (λ x. x) ls) ≡ true
  all_taken slot [] t = refl
  all_taken slot (x ∷ ls) t = all_on is_plain_item x (flat_map (λ y. y) ls) (taken slot x t.0) (all_taken slot ls t.1)

  taken_last : (slot k : ℕ) (acts : List (Act N S)) → EndsTaking slot k acts → are_plain acts ≡ true
  taken_last slot k acts (took_all all is) = none acts is
  taken_last slot k acts (found_empty m few look is) = ap are_plain is ∙ and _ _ (ap is_plain_item look.item_is) refl

  pumped : (s u : OpenSock) (acts : List (Act N S)) → Pumps s acts u → are_plain acts ≡ true
  pumped s u acts p =
      let letters = flat_map (λ x. x) p.letters in
      let steps : List (Act N S) = map (λ step. Step step) p.steps in
      ap are_plain p.acts_are
      ∙ all_on is_plain_item (letters ++ p.last) (steps ++ p.looks)
      (all_on is_plain_item letters p.last (all_taken s.slot p.letters p.takes) (taken_last s.slot _ p.last p.ends))
      (all_on is_plain_item steps p.looks (steps_plain N S p.steps) (fronts (waiting_ends p.heard) p.looks p.looks_are))

  -- ---- a call
  abbrev PlainCall : (OpenSock → Try N S → OpenSock → Type 0) → Type 0
  PlainCall Does = (s u : OpenSock) (t : Try N S) → Does s t u → are_plain t.call ≡ true

  refused : (said_so : Answer) → PlainCall (RefusesCall said_so)
  refused said_so s u t f = none t.call f.call_is

  requested : (req : OpenSock → Req) → ((s : OpenSock) → is_plain (req s) ≡ true) → PlainCall (λ s. RequestsOnce (req s) s)
  requested req is s u t f = ap are_plain f.call_is ∙ all_said is_plain_item f.made (ap is_plain_item f.request.item_is ∙ is s)

  unless_stopped : (stopped : Bool) (said_so : Answer) (Does : OpenSock → Try N S → OpenSock → Type 0) → PlainCall Does → PlainCall (UnlessStopped stopped said_so Does)
  unless_stopped true said_so Does does s u t f = refused said_so s u t f
  unless_stopped false said_so Does does s u t f = does s u t f

  sends : (m : Frames) → PlainCall (SendsCall m)
  sends m s u t f = unless_stopped s.stopped _ (SendsOpen m) (λ s v t g. ap are_plain g.call_is ∙ steps_plain N S g.steps) s u t f

  receives : PlainCall ReceivesCall
  receives s u t f = unless_stopped s.stopped _ ReceivesOpen (λ s v t g. ap are_plain g.call_is ∙ steps_plain N S g.steps) s u t f

  changes : (change : Change) (topic : Topic) → PlainCall (ChangesCall change topic)
  changes change topic s u t f = unless_stopped s.stopped answer.Term (ChangesOpen change topic) (λ s v t g. ap are_plain g.call_is ∙ steps_plain N S g.steps) s u t f

  binds : (at : Endpoint) → is_inproc at ≡ true → PlainCall (BindsCall at)
  binds at is s u t f = requested (λ x. Bind (id x.object) at) (λ x. inproc_plain (is_inproc at) is) s u t f

  connects_where : (takes stopped : Bool) (to : Endpoint) → is_inproc to ≡ true → PlainCall (ConnectsWhere takes stopped to)
  connects_where true stopped to is s u t f = requested (λ x. Connect (id x.object) to) (λ x. inproc_plain (is_inproc to) is) s u t f
  connects_where false stopped to is s u t f = refused _ s u t f

  connects : (to : Endpoint) → is_inproc to ≡ true → PlainCall (ConnectsCall to)
  connects to is s u t f = connects_where (takes_connect s.pattern to) s.stopped to is s u t f

  unbinds : (at : Endpoint) → PlainCall (UnbindsCall at)
  unbinds at s u t f = requested (λ x. Unbind (id x.object) at) (λ x. refl) s u t f

  disconnects : (at : Endpoint) → PlainCall (DisconnectsCall at)
  disconnects at s u t f = requested (λ x. Disconnect (id x.object) at) (λ x. refl) s u t f

  -- ---- a line
  not_pumped : (t : Try N S) (acts : List (Act N S)) → NoPump t → t.call ≡ acts → t.pump ++ t.call ≡ acts
  not_pumped t acts f e = ap (λ l. l ++ t.call) f.pump_is ∙ e

  on_none : (old u : Sockets) (t : Try N S) → HasNoSocket old t u → are_plain (t.pump ++ t.call) ≡ true
  on_none old u t f = none (t.pump ++ t.call) (not_pumped t [] f.no_pump f.call_is)

  on_socket : (Does : OpenSock → Try N S → OpenSock → Type 0) → PlainCall Does → (place : ℕ) (old u : Sockets) (t : Try N S) → OnFound (CallsOpen Does) (open_at old place) old t u → are_plain (t.pump ++ t.call) ≡ true
  on_socket Does does place old u t f = by (open_at old place) f
    where
      by : (found : Option OpenSock) → OnFound (CallsOpen Does) found old t u → are_plain (t.pump ++ t.call) ≡ true
      by None g = on_none old u t g
      by (Some s) g = all_on is_plain_item t.pump t.call (pumped s g.pumped t.pump g.pumps) (does g.pumped g.called t g.does)

  closes : (s : OpenSock) (acts : List (Act N S)) (old u : Sockets) → ClosesOne s acts old u → are_plain acts ≡ true
  closes s acts old u f = ap are_plain f.acts_are ∙ all_said is_plain_item f.closed (ap is_plain_item f.request.item_is)

  on_closed : (place : ℕ) (old u : Sockets) (t : Try N S) → OnFound ClosesLine (open_at old place) old t u → are_plain (t.pump ++ t.call) ≡ true
  on_closed place old u t f = by (open_at old place) f
    where
      by : (found : Option OpenSock) → OnFound ClosesLine found old t u → are_plain (t.pump ++ t.call) ≡ true
      by None g = on_none old u t g
      by (Some s) g = ap are_plain (not_pumped t t.call g.no_pump refl) ∙ closes s t.call old u g.closes

  -- a line that makes no socket
  pub line_plain : (line : Call) (old u : Sockets) (t : Try N S) → DoesLine line old t u → is_local_line line ≡ true → line_sockets line ≡ 0 → are_plain (t.pump ++ t.call) ≡ true
  line_plain (call.Socket kind options) old u t f is few = absurd (omega (arith, few))
  line_plain (call.Bind place at) old u t f is few = on_socket (BindsCall at) (binds at is) place old u t f
  line_plain (call.Connect place to) old u t f is few = on_socket (ConnectsCall to) (connects to is) place old u t f
  line_plain (call.Send place m) old u t f is few = on_socket (SendsCall m) (sends m) place old u t f
  line_plain (call.Recv place tries) old u t f is few = on_socket ReceivesCall receives place old u t f
  line_plain (call.Subscribe place topic) old u t f is few = on_socket (ChangesCall Subscribe topic) (changes Subscribe topic) place old u t f
  line_plain (call.Unsubscribe place topic) old u t f is few = on_socket (ChangesCall Unsubscribe topic) (changes Unsubscribe topic) place old u t f
  line_plain (call.Unbind place at) old u t f is few = on_socket (UnbindsCall at) (unbinds at) place old u t f
  line_plain (call.Disconnect place at) old u t f is few = on_socket (DisconnectsCall at) (disconnects at) place old u t f
  line_plain (call.Close place) old u t f is few = on_closed place old u t f
  line_plain call.Term old u t f is few = ap are_plain (not_pumped t (acts_said f.made) f.no_pump f.call_is) ∙ all_said is_plain_item f.made (ap is_plain_item f.request.item_is)

  line_local : (line : Call) (old u : Sockets) (t : Try N S) → DoesLine line old t u → is_local_line line ≡ true → are_local (t.pump ++ t.call) ≡ true
  line_local (call.Socket kind options) old u t f is = ap are_local (not_pumped t (acts_said f.made) f.no_pump f.call_is) ∙ all_said is_local_item f.made (ap is_local_item f.request.item_is)
  line_local (call.Bind place at) old u t f is = plain_local (t.pump ++ t.call) (line_plain (call.Bind place at) old u t f is refl)
  line_local (call.Connect place to) old u t f is = plain_local (t.pump ++ t.call) (line_plain (call.Connect place to) old u t f is refl)
  line_local (call.Send place m) old u t f is = plain_local (t.pump ++ t.call) (line_plain (call.Send place m) old u t f is refl)
  line_local (call.Recv place tries) old u t f is = plain_local (t.pump ++ t.call) (line_plain (call.Recv place tries) old u t f is refl)
  line_local (call.Subscribe place topic) old u t f is = plain_local (t.pump ++ t.call) (line_plain (call.Subscribe place topic) old u t f is refl)
  line_local (call.Unsubscribe place topic) old u t f is = plain_local (t.pump ++ t.call) (line_plain (call.Unsubscribe place topic) old u t f is refl)
  line_local (call.Unbind place at) old u t f is = plain_local (t.pump ++ t.call) (line_plain (call.Unbind place at) old u t f is refl)
  line_local (call.Disconnect place at) old u t f is = plain_local (t.pump ++ t.call) (line_plain (call.Disconnect place at) old u t f is refl)
  line_local (call.Close place) old u t f is = plain_local (t.pump ++ t.call) (line_plain (call.Close place) old u t f is refl)
  line_local call.Term old u t f is = plain_local (t.pump ++ t.call) (line_plain call.Term old u t f is refl)

  -- ---- a worker's step
  pub shut_plain : (old u : ActorStanding) (acts : List (Act N S)) → ShutsFirst old acts u → are_plain (acts ++ []) ≡ true
  shut_plain old u acts f = ap are_plain (append-nil acts) ∙ closes f.first acts old.mine f.mine f.closes

  pub actor_local : (old u : ActorStanding) (ds : List (Deed N S)) → ActorStep old ds u → are_local_lines old.lines ≡ true → are_local (all_acts ds) ≡ true
  actor_local old u [] f is = refl
  actor_local old u (Tries t ∷ []) f is =
      ap are_local (append-nil (t.pump ++ t.call)) ∙ line_local t.line.call old.mine f.mine t f.does (left (is_local_line t.line.call) _ (sym (ap are_local_lines f.lines_are) ∙ is))
  actor_local old u (Shuts acts ∷ []) f is = plain_local (acts ++ []) (shut_plain old u acts f)
  actor_local old u (Fetches slot acts ∷ []) f is = absurd f
  actor_local old u (Idles m ∷ []) f is = absurd f
  actor_local old u (Works acts ∷ []) f is = absurd f
  actor_local old u (Looks m ∷ []) f is = absurd f
  actor_local old u (AsksRoot acts ∷ []) f is = absurd f
  actor_local old u (Reads now ∷ []) f is = absurd f
  actor_local old u (d ∷ e ∷ ds) f is = elim f [ ]

  -- what is left of its lines goes over no tcp either
  pub lines_stay : (old u : ActorStanding) (ds : List (Deed N S)) → ActorStep old ds u → are_local_lines old.lines ≡ true → are_local_lines u.lines ≡ true
  lines_stay old u [] f is = ap (λ (st : ActorStanding). are_local_lines st.lines) f.1 ∙ is
  lines_stay old u (Tries t ∷ []) f is = ap (λ (st : ActorStanding). are_local_lines st.lines) f.new_is ∙ by t.over
    where
      by : (b : Bool) → are_local_lines (standing_after b f.rest t.told f.mine old).lines ≡ true
      by true = right (is_local_line t.line.call) _ (sym (ap are_local_lines f.lines_are) ∙ is)
      by false = is
  lines_stay old u (Shuts acts ∷ []) f is = ap (λ (st : ActorStanding). are_local_lines st.lines) f.new_is ∙ is
  lines_stay old u (Fetches slot acts ∷ []) f is = absurd f
  lines_stay old u (Idles m ∷ []) f is = absurd f
  lines_stay old u (Works acts ∷ []) f is = absurd f
  lines_stay old u (Looks m ∷ []) f is = absurd f
  lines_stay old u (AsksRoot acts ∷ []) f is = absurd f
  lines_stay old u (Reads now ∷ []) f is = absurd f
  lines_stay old u (d ∷ e ∷ ds) f is = elim f [ ]

  pub reaper_plain : (ds : List (Deed N S)) → ReaperStep ds → are_plain (all_acts ds) ≡ true
  reaper_plain [] f = absurd f
  reaper_plain (Fetches slot acts ∷ []) f = ap are_plain (append-nil acts) ∙ taken slot acts f.takes
  reaper_plain (Idles m ∷ []) f = and _ _ (ap is_plain_item f.item_is) refl
  reaper_plain (Tries t ∷ []) f = absurd f
  reaper_plain (Shuts acts ∷ []) f = absurd f
  reaper_plain (Works acts ∷ []) f = absurd f
  reaper_plain (Looks m ∷ []) f = absurd f
  reaper_plain (AsksRoot acts ∷ []) f = absurd f
  reaper_plain (Reads now ∷ []) f = absurd f
  reaper_plain (d ∷ e ∷ ds) f = elim f [ ]

  -- what begins a turn
  pub asks_plain : (b : Bool) (asks : List (Deed N S)) → AsksIf b asks → are_plain (all_acts asks) ≡ true
  asks_plain true asks (acts, f, is) = ap (λ (l : List (Deed N S)). are_plain (all_acts l)) is ∙ ap are_plain (append-nil acts ∙ f.acts_are) ∙ all_said is_plain_item f.asked (ap is_plain_item f.request.item_is)
  asks_plain false asks is = ap (λ (l : List (Deed N S)). are_plain (all_acts l)) is

  pub begins_plain : (olds : List ActorStanding) (ds : List (Deed N S)) → Begins olds ds → are_plain (all_acts ds) ≡ true
  begins_plain olds [] f = absurd f
  begins_plain olds (Looks m ∷ asks) f = and _ _ (ap is_plain_item f.look.item_is) (asks_plain _ asks f.asks_if)
  begins_plain olds (Tries t ∷ asks) f = absurd f
  begins_plain olds (Shuts acts ∷ asks) f = absurd f
  begins_plain olds (Fetches slot acts ∷ asks) f = absurd f
  begins_plain olds (Idles m ∷ asks) f = absurd f
  begins_plain olds (Works acts ∷ asks) f = absurd f
  begins_plain olds (AsksRoot acts ∷ asks) f = absurd f
  begins_plain olds (Reads now ∷ asks) f = absurd f
