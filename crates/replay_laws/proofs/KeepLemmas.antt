-- An actor's sockets go on standing, whatever it or another does.
use Rattle.std.specs.Prelude.{◌≡◌, ◌==◌, ◌||◌, ℕ, Bool, true, false, not, List, [], ◌∷◌, ◌++◌, Option, Some, None, cond, filter, if◌then◌else◌, map, nat_lt, slice_index_or, refl}
use Rattle.std.proofs.Common.{sym, ap, ◌∙◌, subst}
use Rattle.zq_base.specs.Ends.{PipeId}
use Rattle.zq_base.specs.declared.endpoint.Endpoint.{Endpoint}
use Rattle.zq_base.specs.declared.ids.ObjId.{ObjId}
use Rattle.zq_base.specs.declared.kind.Kind.{Kind}
use Rattle.zq_base.specs.declared.kind.Kind.TheVariants as kinds
use Rattle.zq_base.specs.declared.options.Options.{Options}
use Rattle.spec_run.specs.declared.script.Call.TheVariants as call
use Rattle.spec_pattern.specs.PipeStep.{PipeStep}
use Rattle.spec_pattern.specs.PatternCalls.{Subscribe, Unsubscribe, Change}
use Rattle.spec_pattern.specs.Topics.{Topic}
use Rattle.zq_base.specs.Message.{Frames}
use Rattle.spec_pattern.specs.Peers.{peer_names, HaveOneName}
use Rattle.spec_pattern.proofs.KeepCallLemmas.{calls_keep_peers}
use Rattle.spec_control.specs.declared.request.Req.{Req}
use Rattle.spec_control.specs.declared.request.Req.TheVariants.{Socket as MakeSocket, Bind, Connect, Unbind, Disconnect}
use Rattle.spec_control.specs.declared.request.Refusal.TheVariants.{Term as RefusesTerm, TooMany}
use Rattle.spec_control.specs.declared.request.Reply.{Reply}
use Rattle.spec_control.specs.declared.request.Reply.TheVariants.{Done, Object, Pair, Both, Wait, Asked as WasAsked, Before, Refused}
use Rattle.spec_control.specs.declared.entry.Answered.{Answered}
use Rattle.spec_control.specs.declared.entry.Did.TheVariants.{Asked}
use Rattle.spec_control.specs.declared.entry.Item.{Item}
use Rattle.spec_control.specs.declared.entry.Item.TheVariants.{Event}
use Rattle.spec_control.specs.Row.{Row, nobody, is_socket}
use Rattle.spec_control.specs.Rows.{obj}
use Rattle.spec_control.specs.Control.{Control, id, next_object}
use Rattle.spec_control.specs.After.{socket_row, after}
use Rattle.spec_control.specs.Reply.{most_living_sockets, living_sockets, has_object, unless, root_asked}
use Rattle.spec_control.specs.ControlRun.{Fits, FitsItem, after_item}
use Rattle.spec_pattern.specs.NewSocket.{new_pattern}
use Rattle.spec_run.proofs.AttachLemmas.{no_ends}
use Rattle.std.proofs.Math.Seq.{get_or-append_seam}
use Rattle.spec_control.specs.Has.{acts_in_request}
use Rattle.spec_control.specs.Moments.{Moment, left_by}
use Rattle.spec_run.specs.declared.answer.Answer.{Answer}
use Rattle.spec_run.specs.declared.answer.Answer.TheVariants as answer
use Rattle.spec_run.specs.declared.script.Call.{Call}
use Rattle.spec_run.specs.Act.{Act, Step, Said, Try, steps_in, moments_in}
use Rattle.spec_run.specs.OpenSocket.{OpenSock, can_write, new_open, PassesItems}
use Rattle.spec_run.specs.Event.{seals_in, acts_said}
use Rattle.spec_run.specs.SocketCall.{step_acts, RefusesCall, SendsOpen, ReceivesOpen, ChangesOpen, RequestsOnce, UnlessStopped, SendsCall, ReceivesCall, ChangesCall, BindsCall, ConnectsWhere, takes_connect, ConnectsCall, UnbindsCall, DisconnectsCall}
use Rattle.spec_run.specs.Standing.{Sockets, open_at, made_so, MakesSocket, CallsOpen, ClosesLine, OnFound, DoesLine}
use Rattle.replay_laws.proofs.WalkLemmas.{leaves, Walks, leaves_on, walks_front, walks_behind, steps_alone, seals_alone, no_moments_sealed, Reached, reached_item, reached_on}
use Rattle.replay_laws.proofs.StandLemmas.{IsIn, Stands, OwnItems, its_request, stands_aside, stands_on, stands_called}
use Rattle.replay_laws.proofs.TryLemmas.{pumped_stands}
use Rattle.replay_laws.proofs.LineLemmas.{EachStands, open_stands}

pub each_filter : (c : Control) (test : OpenSock → Bool) (socks : List OpenSock) → EachStands c socks → EachStands c (filter test socks)
each_filter c test [] each = tt
each_filter c test (s ∷ socks) each = by (test s) (each_filter c test socks each.1)
  where
    by : (b : Bool) → EachStands c (filter test socks) → EachStands c (cond b (s ∷ filter test socks) (filter test socks))
    by true rest = (each.0, rest)
    by false rest = rest

pub each_with : (c : Control) (s : OpenSock) (socks : List OpenSock) → Stands c s → EachStands c socks → EachStands c (map (λ old. if old.object == s.object then s else old) socks)
each_with c s [] stands each = tt
each_with c s (x ∷ socks) stands each = (by (x.object == s.object), each_with c s socks stands each.1)
  where
    by : (b : Bool) → Stands c (if b then s else x)
    by true = stands
    by false = each.0

each_push : (c : Control) (s : OpenSock) (socks : List OpenSock) → Stands c s → EachStands c socks → EachStands c (socks ++ s ∷ [])
each_push c s [] stands each = (stands, tt)
each_push c s (x ∷ socks) stands each = (each.0, each_push c s socks stands each.1)

no_names_yet : (kind : Kind) (options : Options) → peer_names (new_pattern kind options) ≡ []
no_names_yet kinds.Push options = refl
no_names_yet kinds.Pull options = refl
no_names_yet kinds.Pair options = refl
no_names_yet kinds.Dealer options = refl
no_names_yet kinds.Req options = refl
no_names_yet kinds.Rep options = refl
no_names_yet kinds.Router options = refl
no_names_yet kinds.Pub options = refl
no_names_yet kinds.XPub options = refl
no_names_yet kinds.Sub options = refl
no_names_yet kinds.XSub options = refl

none_once : HaveOneName []
none_once = λ i j a b e. cc

pub made_number : (a b : Bool) (n : ℕ) (o : ObjId) → ◌≡◌ {A = Reply} (Object o) (unless a RefusesTerm (unless b TooMany (Object (id n)))) → o.0 ≡ n
made_number true b n o e = absurd (nope e)
  where
    nope : ◌≡◌ {A = Reply} (Object o) (Refused RefusesTerm) → ⊥
    nope f = cc
made_number false true n o e = absurd (nope e)
  where
    nope : ◌≡◌ {A = Reply} (Object o) (Refused TooMany) → ⊥
    nope f = cc
made_number false false n o e = let same : o ≡ id n = cc in ap (λ (x : ObjId). x.0) same

module _ {N S : Type 0} where
  pub each_aside : (cap : PipeId → ℕ) (xs : List (Act N S)) (c : Control) (past : List PipeStep) → Reached N S c → Walks cap c past xs → (socks : List OpenSock) → EachStands c socks → EachStands (leaves c xs) socks
  each_aside cap [] c past r w socks each = each
  each_aside cap (Step x ∷ xs) c past r w socks each = each_aside cap xs c (past ++ x ∷ []) r w.1 socks each
  each_aside cap (Said m ∷ xs) c past r w socks each = each_aside cap xs (after_item m.item c) past (reached_item m.item c r w.1) w.2 socks (all_aside socks each)
    where
      all_aside : (ss : List OpenSock) → EachStands c ss → EachStands (after_item m.item c) ss
      all_aside [] e = tt
      all_aside (s ∷ ss) e = (stands_aside m.item c r w.1 s e.0, all_aside ss e.1)

  -- ---- a call
  module _ (cap : PipeId → ℕ) (c : Control) (past : List PipeStep) (s u : OpenSock) (t : Try N S) (r : Reached N S c) (w : Walks cap c past t.call) (stands : Stands c s) where
    stepped : (steps : List PipeStep) → t.call ≡ step_acts steps → Stands c u → Stands (leaves c t.call) u
    stepped steps e st = subst (λ (x : Control). Stands x u) (sym (ap (leaves c) e ∙ steps_alone N S steps c)) st

    refused : (said_so : Answer) → RefusesCall said_so s t u → Stands (leaves c t.call) u
    refused said_so f = subst (λ z. Stands (leaves c t.call) z) (sym f.new_is) (subst (λ l. Stands (leaves c l) s) (sym f.call_is) stands)

    sends : (m : Frames) → SendsOpen m s t u → Stands (leaves c t.call) u
    sends m f =
        stepped f.steps f.call_is (subst (Stands c) (sym f.new_is) (stands_called c s f.pattern (calls_keep_peers.sends (can_write s) m s.pattern (record { steps = f.steps; answer = f.sent; new = f.pattern }) f.sends) stands))

    receives : ReceivesOpen s t u → Stands (leaves c t.call) u
    receives f =
        stepped f.steps f.call_is (subst (Stands c) (sym f.new_is) (stands_called c s f.pattern (calls_keep_peers.receives s.pattern (record { steps = f.steps; skips = t.skips; answer = f.got; new = f.pattern }) f.receives) stands))

    changes : (change : Change) (topic : Topic) → ChangesOpen change topic s t u → Stands (leaves c t.call) u
    changes change topic f =
        stepped f.steps f.call_is (subst (Stands c) (sym f.new_is)
        (stands_called c s f.pattern (calls_keep_peers.changes change (can_write s) topic s.pattern (record { steps = f.steps; answer = f.changed; new = f.pattern }) f.changes) stands))

    requests : (req : Req) → ((z : Control) → acts_in_request z req ≡ Some s.object) → RequestsOnce req s t u → Stands (leaves c t.call) u
    requests req mine f =
        let m = f.made in
        let moments : moments_in (acts_said m) ≡ m ∷ [] = ap (λ l. m ∷ l) (no_moments_sealed N S (seals_in m)) in
        subst (λ l. Stands (leaves c l) u) (sym f.call_is)
        (stands_on cap (acts_said m) c past s u r (subst (Walks cap c past) f.call_is w)
        (subst (λ l. OwnItems s.slot s.object l) (sym moments) (its_request f.request.by req f.reply f.request.answered mine f.request.item_is, tt))
        (subst (λ l. PassesItems l s u) (sym moments) f.goes) stands)

    unless_stopped : (stopped : Bool) (said_so : Answer) (Does : OpenSock → Try N S → OpenSock → Type 0) → (Does s t u → Stands (leaves c t.call) u) → UnlessStopped stopped said_so Does s t u → Stands (leaves c t.call) u
    unless_stopped true said_so Does does f = refused said_so f
    unless_stopped false said_so Does does f = does f

    connects_where : (takes stopped : Bool) (to : Endpoint) → ConnectsWhere takes stopped to s t u → Stands (leaves c t.call) u
    connects_where true stopped to f = requests (Connect (id s.object) to) (λ z. refl) f
    connects_where false stopped to f = refused _ f

    pub sends_stands : (m : Frames) → SendsCall m s t u → Stands (leaves c t.call) u
    sends_stands m f = unless_stopped s.stopped _ (SendsOpen m) (sends m) f

    pub receives_stands : ReceivesCall s t u → Stands (leaves c t.call) u
    receives_stands f = unless_stopped s.stopped _ ReceivesOpen receives f

    pub changes_stands : (change : Change) (topic : Topic) → ChangesCall change topic s t u → Stands (leaves c t.call) u
    changes_stands change topic f = unless_stopped s.stopped answer.Term (ChangesOpen change topic) (changes change topic) f

    pub binds_stands : (at : Endpoint) → BindsCall at s t u → Stands (leaves c t.call) u
    binds_stands at f = requests (Bind (id s.object) at) (λ z. refl) f

    pub connects_stands : (to : Endpoint) → ConnectsCall to s t u → Stands (leaves c t.call) u
    connects_stands to f = connects_where (takes_connect s.pattern to) s.stopped to f

    pub unbinds_stands : (at : Endpoint) → UnbindsCall at s t u → Stands (leaves c t.call) u
    unbinds_stands at f = requests (Unbind (id s.object) at) (λ z. refl) f

    pub disconnects_stands : (at : Endpoint) → DisconnectsCall at s t u → Stands (leaves c t.call) u
    disconnects_stands at f = requests (Disconnect (id s.object) at) (λ z. refl) f

  -- ---- a socket that was just made
  new_stands : (c : Control) (kind : Kind) (options : Options) (o : ObjId) (g : Answered N S) (m : Moment N S) → Fits c (Asked (MakeSocket kind options) (Object o) g) → left_by m ≡ after (Asked (MakeSocket kind options) (Object o) g) c
      → Stands (left_by m) (new_open m o.0 kind options)
  new_stands c kind options o g m fits is =
      let number : o.0 ≡ next_object c = made_number (root_asked c) (not (nat_lt (living_sockets c) most_living_sockets) || not (has_object c)) (next_object c) o fits.may.1 in
      let row : obj (left_by m).rows o.0 ≡ socket_row kind options c =
      ap (λ (x : Control). obj x.rows o.0) is ∙ ap (λ n. slice_index_or (c.rows.objects ++ socket_row kind options c ∷ []) n nobody) number ∙ get_or-append_seam c.rows.objects (socket_row kind options c) [] nobody in
      record {
        sits = record { socket = ap (λ (x : Row). is_socket x.kind) row; slot = refl };
        keeps = record { ends = no_ends (IsIn (left_by m).attached) kind options; names = subst HaveOneName (sym (no_names_yet kind options)) none_once };
      }

  -- ---- a line
  module _ (cap : PipeId → ℕ) (c : Control) (past : List PipeStep) (t : Try N S) (r : Reached N S c) (w : Walks cap c past (t.pump ++ t.call)) (old u : Sockets) (each : EachStands c old.socks) where
    aside : EachStands (leaves c (t.pump ++ t.call)) old.socks
    aside = each_aside cap (t.pump ++ t.call) c past r w old.socks each

    as_before : u ≡ old → EachStands (leaves c (t.pump ++ t.call)) u.socks
    as_before e = subst (λ (x : Sockets). EachStands (leaves c (t.pump ++ t.call)) x.socks) (sym e) aside

    calls : (Does : OpenSock → Try N S → OpenSock → Type 0)
        → ((c1 : Control) (now : List PipeStep) (s v : OpenSock) → Reached N S c1 → Walks cap c1 now t.call → Stands c1 s → Does s t v → Stands (leaves c1 t.call) v)
        → (s : OpenSock) → Stands c s → CallsOpen Does s old t u → EachStands (leaves c (t.pump ++ t.call)) u.socks
    calls Does does s stands f =
        let front = walks_front cap t.pump t.call c past w in
        let pumped = pumped_stands cap c past s f.pumped t.pump r front stands f.pumps in
        let called = does (leaves c t.pump) (past ++ steps_in t.pump) f.pumped f.called (reached_on cap t.pump c past r front) (walks_behind cap t.pump t.call c past w) pumped f.does in
        subst (λ (x : Sockets). EachStands (leaves c (t.pump ++ t.call)) x.socks) (sym f.new_is)
        (each_with (leaves c (t.pump ++ t.call)) f.called old.socks (subst (λ (x : Control). Stands x f.called) (sym (leaves_on t.pump t.call c)) called) aside)

    on_socket : (Does : OpenSock → Try N S → OpenSock → Type 0) (place : ℕ)
        → ((c1 : Control) (now : List PipeStep) (s v : OpenSock) → Reached N S c1 → Walks cap c1 now t.call → Stands c1 s → Does s t v → Stands (leaves c1 t.call) v)
        → OnFound (CallsOpen Does) (open_at old place) old t u → EachStands (leaves c (t.pump ++ t.call)) u.socks
    on_socket Does place does f = by (open_at old place) (λ s here. open_stands c old place s each here) f
      where
        by : (found : Option OpenSock) → ((s : OpenSock) → found ≡ Some s → Stands c s) → OnFound (CallsOpen Does) found old t u → EachStands (leaves c (t.pump ++ t.call)) u.socks
        by None st g = as_before g.new_is
        by (Some s) st g = calls Does does s (st s refl) g

    makes : (kind : Kind) (options : Options) → MakesSocket kind options old t u → EachStands (leaves c (t.pump ++ t.call)) u.socks
    makes kind options f =
        let m = f.made in
        let acts_are : t.pump ++ t.call ≡ acts_said m = ap (λ l. l ++ t.call) f.no_pump.pump_is ∙ f.call_is in
        let said = subst (Walks cap c past) acts_are w in
        let at : left_by m ≡ leaves c (t.pump ++ t.call) = ap (after_item m.item) said.0 ∙ sym (seals_alone N S (seals_in m) (after_item m.item c)) ∙ sym (ap (leaves c) acts_are) in
        subst (λ (x : Sockets). EachStands (leaves c (t.pump ++ t.call)) x.socks) (sym f.new_is) (by f.reply f.request.answered f.request.by f.request.item_is at said.0 (said.1))
      where
        by : (reply : Reply) (g : Answered N S) (k : ℕ) → f.made.item ≡ Event (record { by = k; did = Asked (MakeSocket kind options) reply g }) → left_by f.made ≡ leaves c (t.pump ++ t.call) → f.made.found ≡ c → FitsItem c f.made.item
            → EachStands (leaves c (t.pump ++ t.call)) (made_so reply f.made kind options old).socks
        by (Object o) g k is at found fits =
            let fit : Fits c (Asked (MakeSocket kind options) (Object o) g) = subst (FitsItem c) is fits in
            let left : left_by f.made ≡ after (Asked (MakeSocket kind options) (Object o) g) c = ap (after_item f.made.item) found ∙ ap (λ (x : Item N S). after_item x c) is in
            each_push (leaves c (t.pump ++ t.call)) (new_open f.made o.0 kind options) old.socks (subst (λ (x : Control). Stands x (new_open f.made o.0 kind options)) at (new_stands c kind options o g f.made fit left)) aside
        by Done g k is at found fits = aside
        by (Pair p) g k is at found fits = aside
        by (Both o p) g k is at found fits = aside
        by Wait g k is at found fits = aside
        by WasAsked g k is at found fits = aside
        by Before g k is at found fits = aside
        by (Refused refusal) g k is at found fits = aside

    closes : (place : ℕ) → OnFound ClosesLine (open_at old place) old t u → EachStands (leaves c (t.pump ++ t.call)) u.socks
    closes place f = by (open_at old place) f
      where
        by : (found : Option OpenSock) → OnFound ClosesLine found old t u → EachStands (leaves c (t.pump ++ t.call)) u.socks
        by None g = as_before g.new_is
        by (Some s) g =
            subst (λ (x : Sockets). EachStands (leaves c (t.pump ++ t.call)) x.socks) (sym g.closes.new_is) (each_filter (leaves c (t.pump ++ t.call)) (λ z. not (z.object == s.object)) old.socks aside)

    pub line_stands : (line : Call) → DoesLine line old t u → EachStands (leaves c (t.pump ++ t.call)) u.socks
    line_stands (call.Socket kind options) f = makes kind options f
    line_stands (call.Bind place at) f = on_socket (BindsCall at) place (λ c1 now s v q v1 st g. binds_stands cap c1 now s v t q v1 st at g) f
    line_stands (call.Connect place to) f = on_socket (ConnectsCall to) place (λ c1 now s v q v1 st g. connects_stands cap c1 now s v t q v1 st to g) f
    line_stands (call.Send place m) f = on_socket (SendsCall m) place (λ c1 now s v q v1 st g. sends_stands cap c1 now s v t q v1 st m g) f
    line_stands (call.Recv place tries) f = on_socket ReceivesCall place (λ c1 now s v q v1 st g. receives_stands cap c1 now s v t q v1 st g) f
    line_stands (call.Subscribe place topic) f = on_socket (ChangesCall Subscribe topic) place (λ c1 now s v q v1 st g. changes_stands cap c1 now s v t q v1 st Subscribe topic g) f
    line_stands (call.Unsubscribe place topic) f = on_socket (ChangesCall Unsubscribe topic) place (λ c1 now s v q v1 st g. changes_stands cap c1 now s v t q v1 st Unsubscribe topic g) f
    line_stands (call.Unbind place at) f = on_socket (UnbindsCall at) place (λ c1 now s v q v1 st g. unbinds_stands cap c1 now s v t q v1 st at g) f
    line_stands (call.Disconnect place at) f = on_socket (DisconnectsCall at) place (λ c1 now s v q v1 st g. disconnects_stands cap c1 now s v t q v1 st at g) f
    line_stands (call.Close place) f = closes place f
    line_stands call.Term f = as_before f.new_is
