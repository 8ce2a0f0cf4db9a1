-- What a line does is settled by what it found, by the actor's sockets, and by the steps past.
use Rattle.std.specs.Prelude.{◌≡◌, ◌==◌, ℕ, Bool, true, false, List, [], ◌∷◌, ◌++◌, Option, Some, None, find, if◌then◌else◌, slice_get, refl}
use Rattle.std.proofs.Common.{sym, ap, ◌∙◌, subst}
use Rattle.zq_base.specs.Ends.{PipeId}
use Rattle.zq_base.specs.declared.kind.Kind.{Kind}
use Rattle.zq_base.specs.declared.options.Options.{Options}
use Rattle.spec_run.specs.declared.script.Call.TheVariants as call
use Rattle.spec_pattern.specs.PipeStep.{PipeStep}
use Rattle.spec_pattern.specs.PatternCalls.{Subscribe, Unsubscribe}
use Rattle.spec_control.specs.declared.request.Req.{Req}
use Rattle.spec_control.specs.declared.request.Req.TheVariants.{Socket as MakeSocket, AskTerm, Close}
use Rattle.spec_control.specs.declared.request.Reply.{Reply}
use Rattle.spec_control.specs.declared.request.Reply.TheVariants.{Done, Object, Pair, Both, Wait, Asked as WasAsked, Before, Refused}
use Rattle.spec_control.specs.declared.entry.Did.TheVariants.{Asked}
use Rattle.spec_control.specs.declared.entry.Item.{Item}
use Rattle.spec_control.specs.Rows.{obj}
use Rattle.spec_control.specs.Control.{Control, id}
use Rattle.spec_pattern.specs.NewSocket.{new_pattern}
use Rattle.spec_control.specs.After.{after}
use Rattle.spec_control.specs.ControlRun.{Joins, Fits, FitsItem, request_joins, unless_refused, after_item}
use Rattle.spec_control.specs.Moments.{Moment, left_by}
use Rattle.spec_run.specs.declared.script.Call.{Call}
use Rattle.spec_run.specs.ControlAnswer.{reply_answer}
use Rattle.spec_run.specs.Act.{Act, Try}
use Rattle.spec_run.specs.OpenSocket.{OpenSock, new_open}
use Rattle.spec_run.specs.Event.{IsRequest, acts_said}
use Rattle.spec_run.specs.SocketCall.{SendsCall, ReceivesCall, ChangesCall, BindsCall, ConnectsCall, UnbindsCall, DisconnectsCall}
use Rattle.spec_run.specs.Standing.{Sockets, open_at, open_numbered, object_named, made_so, MakesSocket, AsksTerm, HasNoSocket, CallsOpen, ClosesLine, OnFound, DoesLine}
use Rattle.replay_laws.specs.Blank.{blank}
use Rattle.replay_laws.proofs.WalkLemmas.{Walks, Same, same_none, same_as, said_same}
use Rattle.replay_laws.proofs.AlikeLemmas.{replies_alike}
use Rattle.replay_laws.proofs.LetterLemmas.{plain_request}
use Rattle.replay_laws.proofs.StandLemmas.{Stands}
use Rattle.replay_laws.proofs.CallLemmas.{CallSame, From, sends_call, receives_call, changes_call, binds_call, connects_call, unbinds_call, disconnects_call}
use Rattle.replay_laws.proofs.TryLemmas.{TrySame, Tries, open_same}

-- each of these sockets stands
abbrev pub EachStands : Control → List OpenSock → Type 0
EachStands c [] = Unit {0}
EachStands c (s ∷ socks) = Stands c s × EachStands c socks

pub found_stands : (c : Control) (test : OpenSock → Bool) (socks : List OpenSock) (s : OpenSock) → EachStands c socks → find test socks ≡ Some s → Stands c s
found_stands c test [] s each e = absurd (nope e)
  where
    nope : ◌≡◌ {A = Option OpenSock} None (Some s) → ⊥
    nope f = cc
found_stands c test (x ∷ socks) s each e = by (test x) e (found_stands c test socks s each.1)
  where
    by : (b : Bool) → (if b then Some x else find test socks) ≡ Some s → (find test socks ≡ Some s → Stands c s) → Stands c s
    by true f rest = subst (Stands c) (let same : x ≡ s = cc in same) each.0
    by false f rest = rest f

pub open_stands : (c : Control) (mine : Sockets) (place : ℕ) (s : OpenSock) → EachStands c mine.socks → open_at mine place ≡ Some s → Stands c s
open_stands c mine place s each e = by (object_named (slice_get mine.names place)) e
  where
    by : (o : Option ℕ) → open_numbered o mine.socks ≡ Some s → Stands c s
    by None f = absurd (nope f)
      where
        nope : ◌≡◌ {A = Option OpenSock} None (Some s) → ⊥
        nope g = cc
    by (Some o) f = found_stands c (λ x. x.object == o) mine.socks s each f

none_refused : (reply : Reply) → ◌≡◌ {A = List Joins} (unless_refused reply []) []
none_refused Done = refl
none_refused (Object o) = refl
none_refused (Pair p) = refl
none_refused (Both o p) = refl
none_refused Wait = refl
none_refused WasAsked = refl
none_refused Before = refl
none_refused (Refused refusal) = refl

abbrev new_from : Control → (object : ℕ) → Kind → Options → OpenSock
new_from c object kind options = record {
  object = object;
  slot = (obj c.rows object).slot;
  stopped = false;
  pattern = new_pattern kind options;
  ends = [];
}

module _ {N S : Type 0} where
  -- ---- a request in which no end joins
  pub record PlainSame (c d : Control) (r q : Reply) (m n : Moment N S) : Type 0 where
    pub reply : r ≡ q
    pub same : Same c d (acts_said m) (acts_said n)
    pub left : blank (left_by m) ≡ blank (left_by n)

  pub plain_same : (cap cup : PipeId → ℕ) (c d : Control) (past : List PipeStep) (req : Req) (r q : Reply) (m n : Moment N S) → blank c ≡ blank d → ((z : Control) → request_joins z req ≡ [])
      → IsRequest req r m → IsRequest req q n → Walks cap c past (acts_said m) → Walks cup d past (acts_said n) → PlainSame c d r q m n
  plain_same cap cup c d past req r q m n p none f g w v =
      let a = f.answered in
      let b = g.answered in
      let fits : Fits c (Asked req r a) = subst (FitsItem c) f.item_is w.1 in
      let fits2 : Fits d (Asked req q b) = subst (FitsItem d) g.item_is v.1 in
      let reply : r ≡ q = fits.may.1 ∙ replies_alike req c d p ∙ sym fits2.may.1 in
      let also : Fits d (Asked req r b) = subst (λ z. Fits d (Asked req z b)) (sym reply) fits2 in
      let done : blank (after (Asked req r a) c) ≡ blank (after (Asked req r b) d) = plain_request c d req r a b p (ap (unless_refused r) (none c) ∙ none_refused r) fits also in
      let one : ◌≡◌ {A = Control} (after_item m.item c) (after (Asked req r a) c) = ap (λ (k : Item N S). after_item k c) f.item_is in
      let other : ◌≡◌ {A = Control} (after_item n.item d) (after (Asked req r b) d) = ap (λ (k : Item N S). after_item k d) g.item_is ∙ ap (λ (z : Reply). after (Asked req z b) d) (sym reply) in
      let states : blank (after_item m.item c) ≡ blank (after_item n.item d) = ap blank one ∙ done ∙ sym (ap blank other) in
      record {
        reply = reply;
        same = said_same cap cup c d past m n w v p states;
        left = ap (λ (x : Control). blank (after_item m.item x)) w.0 ∙ states ∙ sym (ap (λ (x : Control). blank (after_item n.item x)) v.0);
      }

  no_pump : (acts pump call : List (Act N S)) → pump ≡ [] → call ≡ acts → pump ++ call ≡ acts
  no_pump acts pump call p q = ap (λ l. l ++ call) p ∙ q

  -- ---- the sockets behind a socket line
  made_same : (r : Reply) (m n : Moment N S) (kind : Kind) (options : Options) (old : Sockets) → blank (left_by m) ≡ blank (left_by n) → made_so r m kind options old ≡ made_so r n kind options old
  made_same (Object o) m n kind options old p =
      ap (λ (z : OpenSock). let k : Sockets = record { names = old.names ++ Some o.0 ∷ []; socks = old.socks ++ z ∷ [] } in k) (new_same o.0)
    where
      new_same : (object : ℕ) → new_open m object kind options ≡ new_open n object kind options
      new_same object = λ i. new_from (p i) object kind options
  made_same Done m n kind options old p = refl
  made_same (Pair q) m n kind options old p = refl
  made_same (Both o q) m n kind options old p = refl
  made_same Wait m n kind options old p = refl
  made_same WasAsked m n kind options old p = refl
  made_same Before m n kind options old p = refl
  made_same (Refused refusal) m n kind options old p = refl

  module _ (cap cup : PipeId → ℕ) (c d : Control) (past : List PipeStep) (t x : Try N S) (from_here : Tries cap cup c d past t x) (old u v : Sockets) where
    both_walk : (acts acts2 : List (Act N S)) → t.pump ++ t.call ≡ acts → x.pump ++ x.call ≡ acts2 → Walks cap c past acts × Walks cup d past acts2
    both_walk acts acts2 p q = (subst (Walks cap c past) p from_here.walk, subst (Walks cup d past) q from_here.walk_too)

    makes_same : (kind : Kind) (options : Options) → MakesSocket kind options old t u → MakesSocket kind options old x v → TrySame c d t x u v
    makes_same kind options f g =
        let one = no_pump (acts_said f.made) t.pump t.call f.no_pump.pump_is f.call_is in
        let other = no_pump (acts_said g.made) x.pump x.call g.no_pump.pump_is g.call_is in
        let w = both_walk (acts_said f.made) (acts_said g.made) one other in
        let plain = plain_same cap cup c d past (MakeSocket kind options) f.reply g.reply f.made g.made from_here.states (λ z. refl) f.request g.request w.0 w.1 in
        record {
          same = same_as c d _ _ (acts_said f.made) (acts_said g.made) one other plain.same;
          skips = f.no_pump.skips_are ∙ sym g.no_pump.skips_are;
          answer = f.answer_is ∙ ap reply_answer plain.reply ∙ sym g.answer_is;
          socks = f.new_is ∙ made_same f.reply f.made g.made kind options old plain.left ∙ ap (λ r. made_so r g.made kind options old) plain.reply ∙ sym g.new_is;
        }

    asks_same : AsksTerm old t u → AsksTerm old x v → TrySame c d t x u v
    asks_same f g =
        let one = no_pump (acts_said f.made) t.pump t.call f.no_pump.pump_is f.call_is in
        let other = no_pump (acts_said g.made) x.pump x.call g.no_pump.pump_is g.call_is in
        let w = both_walk (acts_said f.made) (acts_said g.made) one other in
        let plain = plain_same cap cup c d past AskTerm f.reply g.reply f.made g.made from_here.states (λ z. refl) f.request g.request w.0 w.1 in
        record {
          same = same_as c d _ _ (acts_said f.made) (acts_said g.made) one other plain.same;
          skips = f.no_pump.skips_are ∙ sym g.no_pump.skips_are;
          answer = f.answer_is ∙ ap reply_answer plain.reply ∙ sym g.answer_is;
          socks = f.new_is ∙ sym g.new_is;
        }

    none_same : HasNoSocket old t u → HasNoSocket old x v → TrySame c d t x u v
    none_same f g =
        record {
          same = same_as c d _ _ [] [] (no_pump [] t.pump t.call f.no_pump.pump_is f.call_is) (no_pump [] x.pump x.call g.no_pump.pump_is g.call_is) (same_none c d from_here.states);
          skips = f.no_pump.skips_are ∙ sym g.no_pump.skips_are;
          answer = f.answer_is ∙ sym g.answer_is;
          socks = f.new_is ∙ sym g.new_is;
        }

    closes_same : (s : OpenSock) → ClosesLine s old t u → ClosesLine s old x v → TrySame c d t x u v
    closes_same s f g =
        let m = f.closes.closed in
        let n = g.closes.closed in
        let one = no_pump (acts_said m) t.pump t.call f.no_pump.pump_is f.closes.acts_are in
        let other = no_pump (acts_said n) x.pump x.call g.no_pump.pump_is g.closes.acts_are in
        let w = both_walk (acts_said m) (acts_said n) one other in
        let plain = plain_same cap cup c d past (Close (id s.object)) Done Done m n from_here.states (λ z. refl) f.closes.request g.closes.request w.0 w.1 in
        record {
          same = same_as c d _ _ (acts_said m) (acts_said n) one other plain.same;
          skips = f.no_pump.skips_are ∙ sym g.no_pump.skips_are;
          answer = f.answer_is ∙ sym g.answer_is;
          socks = f.closes.new_is ∙ sym g.closes.new_is;
        }

    -- ---- a line on a socket
    module _ (each : EachStands c old.socks) (each_too : EachStands d old.socks) where
      found_same : (Does : OpenSock → Sockets → Try N S → Sockets → Type 0) (found : Option OpenSock) → ((s : OpenSock) → found ≡ Some s → Does s old t u → Does s old x v → TrySame c d t x u v)
          → OnFound Does found old t u → OnFound Does found old x v → TrySame c d t x u v
      found_same Does None does f g = none_same f g
      found_same Does (Some s) does f g = does s refl f g

      socket_same : (Does : OpenSock → Try N S → OpenSock → Type 0) (place : ℕ)
          → ((c1 d1 : Control) (now : List PipeStep) (s : OpenSock) (t1 x1 : Try N S) → From cap cup c1 d1 now s t1 x1 → (a b : OpenSock) → Does s t1 a → Does s x1 b → CallSame c1 d1 t1 x1 a b)
          → OnFound (CallsOpen Does) (open_at old place) old t u → OnFound (CallsOpen Does) (open_at old place) old x v → TrySame c d t x u v
      socket_same Does place does f g =
          found_same (CallsOpen Does) (open_at old place)
          (λ s here. open_same cap cup Does does c d past t x from_here s (open_stands c old place s each here) (open_stands d old place s each_too here) old u v) f g

      pub line_same : (line : Call) → DoesLine line old t u → DoesLine line old x v → TrySame c d t x u v
      line_same (call.Socket kind options) f g = makes_same kind options f g
      line_same (call.Bind place at) f g = socket_same (BindsCall at) place (λ c1 d1 now s t1 x1 h a b. binds_call cap cup c1 d1 now s t1 x1 h a b at) f g
      line_same (call.Connect place to) f g = socket_same (ConnectsCall to) place (λ c1 d1 now s t1 x1 h a b. connects_call cap cup c1 d1 now s t1 x1 h a b to) f g
      line_same (call.Send place m) f g = socket_same (SendsCall m) place (λ c1 d1 now s t1 x1 h a b. sends_call cap cup c1 d1 now s t1 x1 h a b m) f g
      line_same (call.Recv place tries) f g = socket_same ReceivesCall place (λ c1 d1 now s t1 x1 h a b. receives_call cap cup c1 d1 now s t1 x1 h a b) f g
      line_same (call.Subscribe place topic) f g = socket_same (ChangesCall Subscribe topic) place (λ c1 d1 now s t1 x1 h a b. changes_call cap cup c1 d1 now s t1 x1 h a b Subscribe topic) f g
      line_same (call.Unsubscribe place topic) f g = socket_same (ChangesCall Unsubscribe topic) place (λ c1 d1 now s t1 x1 h a b. changes_call cap cup c1 d1 now s t1 x1 h a b Unsubscribe topic) f g
      line_same (call.Unbind place at) f g = socket_same (UnbindsCall at) place (λ c1 d1 now s t1 x1 h a b. unbinds_call cap cup c1 d1 now s t1 x1 h a b at) f g
      line_same (call.Disconnect place at) f g = socket_same (DisconnectsCall at) place (λ c1 d1 now s t1 x1 h a b. disconnects_call cap cup c1 d1 now s t1 x1 h a b at) f g
      line_same (call.Close place) f g = found_same ClosesLine (open_at old place) (λ s here. closes_same s) f g
      line_same call.Term f g = asks_same f g
