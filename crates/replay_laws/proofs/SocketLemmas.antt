-- An actor's step makes at the most one open socket, with a new number, or closes one; others stay open.
use Rattle.std.specs.Prelude.{◌≡◌, ◌⊎◌, ◌==◌, ◌||◌, ℕ, Bool, true, false, not, List, [], ◌∷◌, ◌++◌, Option, Some, None, map, nat_lt, slice_index_or, refl}
use Rattle.std.proofs.Common.{sym, ap, ◌∙◌, subst, append-nil, inl, inr}
use Rattle.std.proofs.lemmas.Bool.{eq-eqb, eqb-true}
use Rattle.std.proofs.Math.Seq.{get_or-append_seam}
use Rattle.zq_base.specs.Ends.{PipeId}
use Rattle.zq_base.specs.Message.{Frames}
use Rattle.zq_base.specs.declared.endpoint.Endpoint.{Endpoint}
use Rattle.zq_base.specs.declared.kind.Kind.{Kind}
use Rattle.zq_base.specs.declared.options.Options.{Options}
use Rattle.spec_run.specs.declared.script.Call.TheVariants as call
use Rattle.spec_pattern.specs.PipeStep.{PipeStep}
use Rattle.spec_pattern.specs.PatternCalls.{Change, Subscribe, Unsubscribe}
use Rattle.spec_pattern.specs.Topics.{Topic}
use Rattle.spec_control.specs.declared.request.Req.{Req}
use Rattle.spec_control.specs.declared.request.Req.TheVariants.{Socket as MakeSocket, AskTerm, Bind, Connect, Unbind, Disconnect, Close}
use Rattle.spec_control.specs.declared.request.Reply.{Reply}
use Rattle.spec_control.specs.declared.request.Reply.TheVariants.{Done, Object, Pair, Both, Wait, Asked as WasAsked, Before, Refused}
use Rattle.spec_control.specs.declared.entry.Answered.{Answered}
use Rattle.spec_control.specs.declared.entry.Did.TheVariants.{Asked}
use Rattle.spec_control.specs.declared.entry.Item.{Item}
use Rattle.spec_control.specs.declared.entry.Item.TheVariants.{Event}
use Rattle.spec_control.specs.Stage.{is_unused}
use Rattle.spec_control.specs.Row.{Row, nobody, is_socket}
use Rattle.spec_control.specs.Rows.{obj}
use Rattle.spec_control.specs.Control.{Control, id, next_object}
use Rattle.spec_control.specs.After.{socket_row}
use Rattle.spec_control.specs.Reply.{most_living_sockets, living_sockets, has_object, root_asked}
use Rattle.spec_control.specs.ControlRun.{Fits, FitsItem, after_item}
use Rattle.spec_control.specs.Moments.{Moment}
use Rattle.control_laws.proofs.ListLemmas.{never}
use Rattle.control_laws.proofs.HeldEventLemmas.{closes}
use Rattle.spec_run.specs.declared.answer.Answer.{Answer}
use Rattle.spec_run.specs.declared.answer.Answer.TheVariants as answer
use Rattle.spec_run.specs.declared.script.Call.{Call}
use Rattle.spec_run.specs.declared.script.Line.{Line}
use Rattle.spec_pattern.specs.declared.answers.Skip.{Skip}
use Rattle.spec_run.specs.Act.{Act, Step, Try, Deed, Tries, Shuts, Fetches, Idles, Works, Looks, AsksRoot, Reads, all_acts}
use Rattle.spec_run.specs.OpenSocket.{OpenSock, new_open}
use Rattle.spec_run.specs.Event.{IsRequest, seals_in, acts_said}
use Rattle.spec_run.specs.SocketCall.{SendsOpen, ReceivesOpen, ChangesOpen, RequestsOnce, UnlessStopped, SendsCall, ReceivesCall, ChangesCall, BindsCall, ConnectsWhere, takes_connect, ConnectsCall, UnbindsCall, DisconnectsCall}
use Rattle.spec_run.specs.Standing.{Sockets, ActorStanding, open_at, made_so, MakesSocket, AsksTerm, CallsOpen, ClosesOne, ClosesLine, OnFound, DoesLine, standing_after}
use Rattle.spec_run.specs.InTurns.{ActorStep}
use Rattle.replay_laws.proofs.WalkLemmas.{leaves, Walks, seals_alone}
use Rattle.replay_laws.proofs.KeepLemmas.{made_number}
use Rattle.replay_laws.proofs.AmongLemmas.{has_sock, has_with, has_push, has_without, has_at}
use Rattle.replay_laws.proofs.CloseLemmas.{closed_by, Spares, spares_both, spares_none, steps_spare, request_closes, pump_spares}

-- the row of an open socket
pub record IsOpenRow (o : Row) : Type 0 where
  pub socket : is_socket o.kind ≡ true
  pub unused : is_unused o.request ≡ true

-- an object was made between two states, and is an open socket
pub record IsMade (c d : Control) (i : ℕ) : Type 0 where
  pub number : i ≡ next_object c
  pub row : IsOpenRow (obj d.rows i)

-- what acts do to an actor's open sockets: each that it has then it had before, and it was not closed, or is new; and it closes its own alone
pub record Changes {N S : Type 0} (c : Control) (acts : List (Act N S)) (old new : List OpenSock) : Type 0 where
  pub own : (i : ℕ) → has_sock i new ≡ true → ((has_sock i old ≡ true) × (closed_by i acts ≡ false)) ⊎ IsMade c (leaves c acts) i
  pub closed : (i : ℕ) → closed_by i acts ≡ true → has_sock i old ≡ true

after_socks : (over : Bool) (rest : List Line) (told : List Skip) (mine : Sockets) (old : ActorStanding) → (standing_after over rest told mine old).mine ≡ mine
after_socks true rest told mine old = refl
after_socks false rest told mine old = refl

module _ {N S : Type 0} where
  -- acts that close nothing, where the sockets have the same numbers
  pub stays_so : (c : Control) (acts : List (Act N S)) (old new : List OpenSock) → Spares acts → ((i : ℕ) → has_sock i new ≡ true → has_sock i old ≡ true) → Changes c acts old new
  stays_so c acts old new spares same = record { own = λ i h. inl (same i h, spares i); closed = λ i h. absurd (never (sym (spares i) ∙ h)) }

  as_before : (c : Control) (acts : List (Act N S)) (old new : Sockets) → Spares acts → new ≡ old → Changes c acts old.socks new.socks
  as_before c acts old new spares e = stays_so c acts old.socks new.socks spares (λ i h. ap (λ (x : Sockets). has_sock i x.socks) (sym e) ∙ h)

  -- ---- a call
  module _ (s u : OpenSock) (t : Try N S) where
    stepped : (steps : List PipeStep) → t.call ≡ map (λ step. Step step) steps → Spares t.call
    stepped steps e i = ap (closed_by i) e ∙ steps_spare N S steps i

    requests : (req : Req) → ((i : ℕ) → closes i req ≡ false) → RequestsOnce req s t u → Spares t.call
    requests req none f i = ap (closed_by i) f.call_is ∙ request_closes i req f.reply f.made f.request ∙ none i

    unless_stopped : (stopped : Bool) (said_so : Answer) (Does : OpenSock → Try N S → OpenSock → Type 0) → (Does s t u → Spares t.call) → UnlessStopped stopped said_so Does s t u → Spares t.call
    unless_stopped true said_so Does does f = spares_none t.call f.call_is
    unless_stopped false said_so Does does f = does f

    sends_spares : (m : Frames) → SendsCall m s t u → Spares t.call
    sends_spares m f = unless_stopped s.stopped _ (SendsOpen m) (λ g. stepped g.steps g.call_is) f

    receives_spares : ReceivesCall s t u → Spares t.call
    receives_spares f = unless_stopped s.stopped _ ReceivesOpen (λ g. stepped g.steps g.call_is) f

    changes_spares : (change : Change) (topic : Topic) → ChangesCall change topic s t u → Spares t.call
    changes_spares change topic f = unless_stopped s.stopped answer.Term (ChangesOpen change topic) (λ g. stepped g.steps g.call_is) f

    connects_spares : (takes stopped : Bool) (to : Endpoint) → ConnectsWhere takes stopped to s t u → Spares t.call
    connects_spares true stopped to f = requests (Connect (id s.object) to) (λ i. refl) f
    connects_spares false stopped to f = spares_none t.call f.call_is

  -- ---- a line
  module _ (cap : PipeId → ℕ) (c : Control) (past : List PipeStep) (t : Try N S) (w : Walks cap c past (t.pump ++ t.call)) (old u : Sockets) where
    abbrev Changed : Type 0
    Changed = Changes c (t.pump ++ t.call) old.socks u.socks

    no_socket : t.pump ≡ [] → t.call ≡ [] → u ≡ old → Changed
    no_socket pump call same = as_before c (t.pump ++ t.call) old u (spares_both t.pump t.call (spares_none t.pump pump) (spares_none t.call call)) same

    on_socket : (Does : OpenSock → Try N S → OpenSock → Type 0) (place : ℕ) → ((s v : OpenSock) → Does s t v → Spares t.call) → OnFound (CallsOpen Does) (open_at old place) old t u → Changed
    on_socket Does place spares f = by (open_at old place) f
      where
        by : (found : Option OpenSock) → OnFound (CallsOpen Does) found old t u → Changed
        by None g = no_socket g.no_pump.pump_is g.call_is g.new_is
        by (Some s) g =
            stays_so c (t.pump ++ t.call) old.socks u.socks (spares_both t.pump t.call (pump_spares s g.pumped t.pump g.pumps) (spares g.pumped g.called g.does))
            (λ i h. sym (has_with i g.called old.socks) ∙ ap (λ (x : Sockets). has_sock i x.socks) (sym g.new_is) ∙ h)

  pub closing : (c : Control) (acts : List (Act N S)) (s : OpenSock) (old new : Sockets) → has_sock s.object old.socks ≡ true → ClosesOne s acts old new → Changes c acts old.socks new.socks
  closing c acts s old new has f = record {
    own = λ i h.
        let rest = has_without i s.object old.socks (ap (λ (x : Sockets). has_sock i x.socks) (sym f.new_is) ∙ h) in
        inl (rest.0, closed i ∙ rest.1);
    closed = λ i h. subst (λ (n : ℕ). has_sock n old.socks ≡ true) (eqb-true s.object i (sym (closed i) ∙ h)) has;
  }
    where
      closed : (i : ℕ) → closed_by i acts ≡ (s.object == i)
      closed i = ap (closed_by i) f.acts_are ∙ request_closes i (Close (id s.object)) Done f.closed f.request

  module _ (cap : PipeId → ℕ) (c : Control) (past : List PipeStep) (t : Try N S) (w : Walks cap c past (t.pump ++ t.call)) (old u : Sockets) where
    asked_so : (req : Req) (reply : Reply) (made : Moment N S) → IsRequest req reply made → ((i : ℕ) → closes i req ≡ false) → t.pump ≡ [] → t.call ≡ acts_said made → Spares (t.pump ++ t.call)
    asked_so req reply made is none pump call = spares_both t.pump t.call (spares_none t.pump pump) (λ i. ap (closed_by i) call ∙ request_closes i req reply made is ∙ none i)

    makes : (kind : Kind) (options : Options) → MakesSocket kind options old t u → Changes c (t.pump ++ t.call) old.socks u.socks
    makes kind options f =
        let m = f.made in
        let acts_are : t.pump ++ t.call ≡ acts_said m = ap (λ l. l ++ t.call) f.no_pump.pump_is ∙ f.call_is in
        let said = subst (Walks cap c past) acts_are w in
        let at : leaves c (t.pump ++ t.call) ≡ after_item m.item c = ap (leaves c) acts_are ∙ seals_alone N S (seals_in m) (after_item m.item c) in
        let spares = asked_so (MakeSocket kind options) f.reply m f.request (λ i. refl) f.no_pump.pump_is f.call_is in
        subst (λ (x : Sockets). Changes c (t.pump ++ t.call) old.socks x.socks) (sym f.new_is) (by f.reply f.request.answered f.request.by f.request.item_is at said.1 spares)
      where
        by : (reply : Reply) (g : Answered N S) (k : ℕ) → f.made.item ≡ Event (record { by = k; did = Asked (MakeSocket kind options) reply g }) → leaves c (t.pump ++ t.call) ≡ after_item f.made.item c → FitsItem c f.made.item → Spares (t.pump ++ t.call)
            → Changes c (t.pump ++ t.call) old.socks (made_so reply f.made kind options old).socks
        by (Object o) g k is at fits spares = record { own = own; closed = λ i h. absurd (never (sym (spares i) ∙ h)) }
          where
            fit : Fits c (Asked (MakeSocket kind options) (Object o) g)
            fit = subst (FitsItem c) is fits

            number : o.0 ≡ next_object c
            number = made_number (root_asked c) (not (nat_lt (living_sockets c) most_living_sockets) || not (has_object c)) (next_object c) o fit.may.1

            row : obj (leaves c (t.pump ++ t.call)).rows o.0 ≡ socket_row kind options c
            row =
                ap (λ (x : Control). obj x.rows o.0) (at ∙ ap (λ (x : Item N S). after_item x c) is)
                ∙ ap (λ n. slice_index_or (c.rows.objects ++ socket_row kind options c ∷ []) n nobody) number ∙ get_or-append_seam c.rows.objects (socket_row kind options c) [] nobody

            made_so_far : IsMade c (leaves c (t.pump ++ t.call)) o.0
            made_so_far = record { number = number; row = record { socket = ap (λ (x : Row). is_socket x.kind) row; unused = ap (λ (x : Row). is_unused x.request) row } }

            own : (i : ℕ) → has_sock i (old.socks ++ new_open f.made o.0 kind options ∷ []) ≡ true → ((has_sock i old.socks ≡ true) × (closed_by i (t.pump ++ t.call) ≡ false)) ⊎ IsMade c (leaves c (t.pump ++ t.call)) i
            own i h = elim (has_push i (new_open f.made o.0 kind options) old.socks h) [
              | inl before ↦ inl (before, spares i)
              | inr same ↦ inr (subst (IsMade c (leaves c (t.pump ++ t.call))) same made_so_far)
            ]
        by Done g k is at fits spares = stays_so c (t.pump ++ t.call) old.socks old.socks spares (λ i h. h)
        by (Pair p) g k is at fits spares = stays_so c (t.pump ++ t.call) old.socks old.socks spares (λ i h. h)
        by (Both o p) g k is at fits spares = stays_so c (t.pump ++ t.call) old.socks old.socks spares (λ i h. h)
        by Wait g k is at fits spares = stays_so c (t.pump ++ t.call) old.socks old.socks spares (λ i h. h)
        by WasAsked g k is at fits spares = stays_so c (t.pump ++ t.call) old.socks old.socks spares (λ i h. h)
        by Before g k is at fits spares = stays_so c (t.pump ++ t.call) old.socks old.socks spares (λ i h. h)
        by (Refused refusal) g k is at fits spares = stays_so c (t.pump ++ t.call) old.socks old.socks spares (λ i h. h)

    closes_line : (place : ℕ) → OnFound ClosesLine (open_at old place) old t u → Changes c (t.pump ++ t.call) old.socks u.socks
    closes_line place f = by (open_at old place) refl f
      where
        by : (found : Option OpenSock) → open_at old place ≡ found → OnFound ClosesLine found old t u → Changes c (t.pump ++ t.call) old.socks u.socks
        by None e g = no_socket cap c past t w old u g.no_pump.pump_is g.call_is g.new_is
        by (Some s) e g =
            subst (λ (l : List (Act N S)). Changes c l old.socks u.socks) (sym (ap (λ l. l ++ t.call) g.no_pump.pump_is))
            (closing c t.call s old u (has_at old place s e) g.closes)

    asks_term : AsksTerm old t u → Changes c (t.pump ++ t.call) old.socks u.socks
    asks_term f = as_before c (t.pump ++ t.call) old u (asked_so AskTerm f.reply f.made f.request (λ i. refl) f.no_pump.pump_is f.call_is) f.new_is

    pub line_changes : (line : Call) → DoesLine line old t u → Changes c (t.pump ++ t.call) old.socks u.socks
    line_changes (call.Socket kind options) f = makes kind options f
    line_changes (call.Bind place at) f = on_socket cap c past t w old u (BindsCall at) place (λ s v g. requests s v t (Bind (id s.object) at) (λ i. refl) g) f
    line_changes (call.Connect place to) f = on_socket cap c past t w old u (ConnectsCall to) place (λ s v g. connects_spares s v t (takes_connect s.pattern to) s.stopped to g) f
    line_changes (call.Send place m) f = on_socket cap c past t w old u (SendsCall m) place (λ s v g. sends_spares s v t m g) f
    line_changes (call.Recv place tries) f = on_socket cap c past t w old u ReceivesCall place (λ s v g. receives_spares s v t g) f
    line_changes (call.Subscribe place topic) f = on_socket cap c past t w old u (ChangesCall Subscribe topic) place (λ s v g. changes_spares s v t Subscribe topic g) f
    line_changes (call.Unsubscribe place topic) f = on_socket cap c past t w old u (ChangesCall Unsubscribe topic) place (λ s v g. changes_spares s v t Unsubscribe topic g) f
    line_changes (call.Unbind place at) f = on_socket cap c past t w old u (UnbindsCall at) place (λ s v g. requests s v t (Unbind (id s.object) at) (λ i. refl) g) f
    line_changes (call.Disconnect place at) f = on_socket cap c past t w old u (DisconnectsCall at) place (λ s v g. requests s v t (Disconnect (id s.object) at) (λ i. refl) g) f
    line_changes (call.Close place) f = closes_line place f
    line_changes call.Term f = asks_term f

  -- ---- an actor's step
  pub step_changes : (cap : PipeId → ℕ) (c : Control) (past : List PipeStep) (old u : ActorStanding) (ds : List (Deed N S)) → Walks cap c past (all_acts ds) → ActorStep old ds u → Changes c (all_acts ds) old.mine.socks u.mine.socks
  step_changes cap c past old u [] w f = as_before c [] old.mine u.mine (λ i. refl) (ap (λ (x : ActorStanding). x.mine) f.1)
  step_changes cap c past old u (Tries t ∷ []) w f =
      let is = append-nil (t.pump ++ t.call) in
      let walk = subst (Walks cap c past) is w in
      let mine : u.mine ≡ f.mine = ap (λ (x : ActorStanding). x.mine) f.new_is ∙ after_socks t.over f.rest t.told f.mine old in
      subst (λ l. Changes c l old.mine.socks u.mine.socks) (sym is)
      (subst (λ (x : Sockets). Changes c (t.pump ++ t.call) old.mine.socks x.socks) (sym mine) (line_changes cap c past t walk old.mine f.mine t.line.call f.does))
  step_changes cap c past old u (Shuts acts ∷ []) w f =
      let has : has_sock f.first.object old.mine.socks ≡ true = ap (has_sock f.first.object) f.socks_are ∙ ap (λ (b : Bool). b || has_sock f.first.object f.others) (eq-eqb f.first.object f.first.object refl) in
      let mine : u.mine ≡ f.mine = ap (λ (x : ActorStanding). x.mine) f.new_is in
      subst (λ l. Changes c l old.mine.socks u.mine.socks) (sym (append-nil acts))
      (subst (λ (x : Sockets). Changes c acts old.mine.socks x.socks) (sym mine) (closing c acts f.first old.mine f.mine has f.closes))
  step_changes cap c past old u (Fetches slot acts ∷ []) w f = absurd f
  step_changes cap c past old u (Idles m ∷ []) w f = absurd f
  step_changes cap c past old u (Works acts ∷ []) w f = absurd f
  step_changes cap c past old u (Looks m ∷ []) w f = absurd f
  step_changes cap c past old u (AsksRoot acts ∷ []) w f = absurd f
  step_changes cap c past old u (Reads now ∷ []) w f = absurd f
  step_changes cap c past old u (a ∷ b ∷ ds) w f = elim f [ ]
