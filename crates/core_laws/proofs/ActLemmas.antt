-- The moments in the acts of an open socket's line are of that socket.
use Rattle.std.specs.Prelude.{◌≡◌, ◌<◌, ◌+◌, ◌++◌, ◌∷◌, [], ℕ, Bool, true, false, All, List, Some, filter, flat_map, length, map, refl}
use Rattle.std.proofs.Common.{arith, sym, ap, ◌∙◌, subst}
use Rattle.std.proofs.lemmas.List.Elements.{All-append, All-cons, All-filter, All-head, All-map, All-nil, All-tail, All-weaker}
use Rattle.zq_base.specs.declared.endpoint.Endpoint.{Endpoint}
use Rattle.zq_base.specs.declared.ids.EndId.{EndId}
use Rattle.spec_run.specs.declared.script.Call.TheVariants as call
use Rattle.spec_pattern.specs.PipeStep.{PipeStep, Seal}
use Rattle.spec_pattern.specs.PatternCalls.{Change, Subscribe, Unsubscribe}
use Rattle.spec_pattern.specs.Topics.{Topic}
use Rattle.spec_control.specs.declared.letter.Word.{Word}
use Rattle.spec_control.specs.declared.letter.Word.TheVariants.{Own, Plug, TermReq, Term, TermAck, PipeBind, PipeTerm, PipeTermAck, Stop, Reap}
use Rattle.spec_control.specs.declared.request.Req.{Req}
use Rattle.spec_control.specs.declared.request.Req.TheVariants.{Bind, Connect, Unbind, Disconnect}
use Rattle.spec_control.specs.declared.request.Reply.{Reply}
use Rattle.spec_control.specs.declared.entry.Did.{Did}
use Rattle.spec_control.specs.declared.entry.Did.TheVariants.{Delivered}
use Rattle.spec_control.specs.declared.entry.Item.{Item}
use Rattle.spec_control.specs.declared.entry.SeenEmpty.{SeenEmpty}
use Rattle.spec_control.specs.Control.{Control, ends_of, id, owner_of, place_of}
use Rattle.spec_control.specs.ControlRun.{FitsItem, Fits, after_item}
use Rattle.spec_control.specs.Held.{asker}
use Rattle.spec_control.specs.Moments.{Moment, left_by}
use Rattle.spec_run.specs.Act.{Act, Step, Try, moments_in}
use Rattle.spec_run.specs.OpenSocket.{OpenSock, SockEnd, PassesItems, awaits_delimiter, sock_after, waiting_ends}
use Rattle.spec_run.specs.Event.{IsRequest, IsDelimited, IsLookAt, LooksBehind, LooksFront, LooksFronts, LooksWhere, TakesLetter, TakesLetters, acts_said, seals_in, finds_none, finds_one, finds_end}
use Rattle.spec_run.specs.Pump.{EndsTaking, Pumps, took_all, found_empty}
use Rattle.spec_run.specs.SocketCall.{ChangesCall, ChangesOpen, ConnectsWhere, ReceivesOpen, RefusesCall, RequestsOnce, SendsOpen, UnlessStopped, step_acts, takes_connect}
use Rattle.spec_run.specs.declared.answer.Answer.{Answer}
use Rattle.spec_run.specs.declared.answer.Answer.TheVariants as answer
use Rattle.spec_run.specs.declared.script.Call.{Call}
use Rattle.zq_world.specs.Way.{AsksOpen}
use Rattle.socket_laws.specs.Open.{IsOfItem}
use Rattle.line_calls.proofs.StepLemmas.{moments_more, no_moments}
use Rattle.line_socket.proofs.StandLemmas.{said_once}
use Rattle.core_laws.proofs.ChainLemmas.{Follow, IsOwn, first, for_it, led_by, own_ends, own_led, own_then, split, term_own}

none_one : {X : Type 0} {x : X} → [] ≡ x ∷ [] → ⊥
none_one e = Prim.grind arith

waiting_own : (o : ℕ) (c : Control) (s : OpenSock) → All (λ x. IsOwn o c x.end) s.ends → All (IsOwn o c) (waiting_ends s)
waiting_own o c s own = All-map (IsOwn o c) (λ (x : SockEnd). x.end) (filter (λ (x : SockEnd). awaits_delimiter x.place) s.ends) (All-filter (λ (x : SockEnd). awaits_delimiter x.place) (λ (x : SockEnd). IsOwn o c x.end) s.ends own)

module _ {N S : Type 0} (o : ℕ) where
  abbrev pub IsOn : Moment N S → Type 0
  IsOn m = IsOfItem o m.found m.item

  -- ---- one item
  pub request_on : (req : Req) (reply : Reply) (m : Moment N S) → IsRequest req reply m → asker req ≡ Some o → IsOn m
  request_on req reply m is asks = subst (λ (x : Item N S). IsOfItem o m.found x) (sym is.item_is) asks

  look_on : (empty : SeenEmpty) (m : Moment N S) → IsLookAt empty m → IsOn m
  look_on empty m is = subst (λ (x : Item N S). IsOfItem o m.found x) (sym is.item_is) tt

  delimited_on : (e : EndId) (m : Moment N S) → IsDelimited e m → owner_of m.found e ≡ o → IsOn m
  delimited_on e m is own = subst (λ (x : Item N S). IsOfItem o m.found x) (sym is.item_is) own

  pub one_on : (m : Moment N S) → IsOn m → All IsOn (m ∷ [])
  one_on m is = All-cons IsOn m [] is (All-nil IsOn)

  -- the same acts in other words
  pub said_on : (acts : List (Act N S)) (ms : List (Moment N S)) → moments_in acts ≡ ms → All IsOn ms → All IsOn (moments_in acts)
  said_on acts ms same all = subst (λ (l : List (Moment N S)). All IsOn l) (sym same) all

  pub none_on : (acts : List (Act N S)) → acts ≡ [] → All IsOn (moments_in acts)
  none_on acts none = said_on acts [] (ap moments_in none) (All-nil IsOn)

  -- ---- a call
  module _ (s : OpenSock) (t : Try N S) (n : OpenSock) where
    requests_on : (req : Req) → asker req ≡ Some o → RequestsOnce req s t n → All IsOn (moments_in t.call)
    requests_on req asks r = said_on t.call (r.made ∷ []) (ap moments_in r.call_is ∙ said_once r.made) (one_on r.made (request_on req r.reply r.made r.request asks))

    steps_on : (steps : List PipeStep) → t.call ≡ step_acts steps → All IsOn (moments_in t.call)
    steps_on steps is = said_on t.call [] (ap moments_in is ∙ no_moments steps) (All-nil IsOn)

    refuses_on : (said : Answer) → RefusesCall said s t n → All IsOn (moments_in t.call)
    refuses_on said r = none_on t.call r.call_is

    unless_on : (stopped : Bool) (said : Answer) (Does : OpenSock → Try N S → OpenSock → Type 0) → (Does s t n → All IsOn (moments_in t.call)) → UnlessStopped stopped said Does s t n → All IsOn (moments_in t.call)
    unless_on true said Does on does = refuses_on said does
    unless_on false said Does on does = on does

    connects_on : (takes stopped : Bool) (to : Endpoint) → s.object ≡ o → ConnectsWhere takes stopped to s t n → All IsOn (moments_in t.call)
    connects_on true stopped to is does = requests_on (Connect (id s.object) to) (ap (λ (k : ℕ). Some k) is) does
    connects_on false stopped to is does = refuses_on _ does

    changes_on : (change : Change) (topic : Topic) → ChangesCall change topic s t n → All IsOn (moments_in t.call)
    changes_on change topic does = unless_on s.stopped answer.Term (ChangesOpen change topic) (λ c. steps_on c.steps c.call_is) does

    pub call_on : (asks : Call) → s.object ≡ o → AsksOpen asks s t n → All IsOn (moments_in t.call)
    call_on (call.Socket kind options) is does = absurd does
    call_on (call.Bind place at) is does = requests_on (Bind (id s.object) at) (ap (λ (k : ℕ). Some k) is) does
    call_on (call.Connect place to) is does = connects_on (takes_connect s.pattern to) s.stopped to is does
    call_on (call.Send place m) is does = unless_on s.stopped _ (SendsOpen m) (λ c. steps_on c.steps c.call_is) does
    call_on (call.Recv place tries) is does = unless_on s.stopped _ ReceivesOpen (λ c. steps_on c.steps c.call_is) does
    call_on (call.Subscribe place topic) is does = changes_on Subscribe topic does
    call_on (call.Unsubscribe place topic) is does = changes_on Unsubscribe topic does
    call_on (call.Unbind place at) is does = requests_on (Unbind (id s.object) at) (ap (λ (k : ℕ). Some k) is) does
    call_on (call.Disconnect place at) is does = requests_on (Disconnect (id s.object) at) (ap (λ (k : ℕ). Some k) is) does
    call_on (call.Close place) is does = absurd does
    call_on call.Term is does = absurd does

  -- ---- a socket in its items
  object_stays : (ms : List (Moment N S)) (s t : OpenSock) → PassesItems ms s t → t.object ≡ s.object
  object_stays [] s t goes = ap (λ (x : OpenSock). x.object) goes
  object_stays (m ∷ ms) s t goes = object_stays ms (sock_after m s) t goes.1

  module _ (w : ℕ) (more : 0 < o) where
    -- the moments of these acts, and of those behind them
    record AreBoth (c : Control) (xs ys : List (Act N S)) : Type 0 where
      before : Follow w o c (moments_in xs)
      behind : Follow w o (led_by c (moments_in xs)) (moments_in ys)

    both : (c : Control) (xs ys acts : List (Act N S)) → acts ≡ xs ++ ys → Follow w o c (moments_in acts) → AreBoth c xs ys
    both c xs ys acts is f =
        let so = split w o (moments_in xs) (moments_in ys) c (subst (Follow w o c) (ap moments_in is ∙ moments_more xs ys) f) in
        record { before = so.0; behind = so.1 }

    both_on : (xs ys acts : List (Act N S)) → acts ≡ xs ++ ys → All IsOn (moments_in xs) → All IsOn (moments_in ys) → All IsOn (moments_in acts)
    both_on xs ys acts is one other = said_on acts (moments_in xs ++ moments_in ys) (ap moments_in is ∙ moments_more xs ys) (All-append IsOn (moments_in xs) (moments_in ys) one other)

    -- ---- looks at fronts
    front_on : (e : EndId) (acts : List (Act N S)) (c : Control) → LooksFront e acts → Follow w o c (moments_in acts) → IsOwn o c e → All IsOn (moments_in acts)
    front_on e acts c (finds_none is) f own = said_on acts [] (ap moments_in is) (All-nil IsOn)
    front_on e acts c (finds_one is) f own = said_on acts [] (ap moments_in is) (All-nil IsOn)
    front_on e acts c (finds_end m is are) f own =
        let same : moments_in acts ≡ m ∷ [] = ap moments_in are ∙ said_once m in
        let g = subst (Follow w o c) same f in
        let next = g.0 in
        said_on acts (m ∷ []) same (one_on m (delimited_on e m is (ap (λ (x : Control). owner_of x e) next.found ∙ own.own)))

    fronts_on : (es : List EndId) (acts : List (Act N S)) (c : Control) → LooksFronts es acts → Follow w o c (moments_in acts) → All (IsOwn o c) es → All IsOn (moments_in acts)
    fronts_on [] acts c looks f own = none_on acts looks
    fronts_on (e ∷ es) acts c looks f own =
        let so = both c looks.0 looks.1 acts looks.4 f in
        let d = led_by c (moments_in looks.0) in
        both_on looks.0 looks.1 acts looks.4 (front_on e looks.0 c looks.2 so.before (All-head (IsOwn o c) e es own))
        (fronts_on es looks.1 d looks.3 so.behind (All-weaker (IsOwn o c) (IsOwn o d) (own_led w o (moments_in looks.0) c so.before) es (All-tail (IsOwn o c) e es own)))

    where_on : (b : Bool) (e : EndId) (acts : List (Act N S)) (c : Control) → LooksWhere b e acts → Follow w o c (moments_in acts) → IsOwn o c e → All IsOn (moments_in acts)
    where_on true e acts c looks f own = front_on e acts c looks f own
    where_on false e acts c looks f own = none_on acts looks

    behind_on : (c d : Control) (word : Word) (acts : List (Act N S)) → LooksBehind c word acts → Follow w o d (moments_in acts) → ((e : EndId) → word ≡ PipeTerm e → IsOwn o d e) → All IsOn (moments_in acts)
    behind_on c d (PipeTerm e) acts looks f own = where_on (awaits_delimiter (place_of c e)) e acts d looks f (own e refl)
    behind_on c d (Own child) acts looks f own = none_on acts looks
    behind_on c d (Plug end) acts looks f own = none_on acts looks
    behind_on c d (TermReq child) acts looks f own = none_on acts looks
    behind_on c d Term acts looks f own = none_on acts looks
    behind_on c d (TermAck child) acts looks f own = none_on acts looks
    behind_on c d (PipeBind e peer) acts looks f own = none_on acts looks
    behind_on c d (PipeTermAck e) acts looks f own = none_on acts looks
    behind_on c d Stop acts looks f own = none_on acts looks
    behind_on c d (Reap socket) acts looks f own = none_on acts looks

    -- ---- letters
    letter_on : (slot : ℕ) (acts : List (Act N S)) (c : Control) → slot ≡ w + o → TakesLetter slot acts → Follow w o c (moments_in acts) → All IsOn (moments_in acts)
    letter_on slot acts c at t f =
        let m = t.taken in
        let same : moments_in acts ≡ m ∷ moments_in t.looks = ap moments_in t.acts_are ∙ moments_more (acts_said m) t.looks ∙ ap (λ (l : List (Moment N S)). l ++ moments_in t.looks) (said_once m) in
        let g = subst (Follow w o c) same f in
        let next = g.0 in
        let sound = next.sound in
        let is = t.delivery in
        let did : Did N S = Delivered (record { 0 = slot }) t.letter is.answered in
        let fits : Fits c did = subst (FitsItem c) is.item_is next.fits in
        let mine = for_it w o c sound slot t.letter fits.may more at in
        said_on acts (m ∷ moments_in t.looks) same
        (All-cons IsOn m (moments_in t.looks) (subst (λ (x : Item N S). IsOfItem o m.found x) (sym is.item_is) mine)
        (behind_on (left_by m) (after_item m.item c) t.letter.word t.looks t.behind g.1 (λ e term. own_then m.item c sound.kept next.fits o e (term_own w o c sound slot t.letter fits.may e term mine))))

    letters_on : (slot : ℕ) (ls : List (List (Act N S))) (c : Control) → slot ≡ w + o → TakesLetters slot ls → Follow w o c (moments_in (flat_map (λ x. x) ls)) → All IsOn (moments_in (flat_map (λ x. x) ls))
    letters_on slot [] c at t f = All-nil IsOn
    letters_on slot (l ∷ ls) c at t f =
        let rest = flat_map (λ x. x) ls in
        let so = both c l rest (l ++ rest) refl f in
        both_on l rest (l ++ rest) refl (letter_on slot l c at t.0 so.before) (letters_on slot ls (led_by c (moments_in l)) at t.1 so.behind)

    last_on : (slot taken : ℕ) (acts : List (Act N S)) → EndsTaking slot taken acts → All IsOn (moments_in acts)
    last_on slot taken acts (took_all all none) = none_on acts none
    last_on slot taken acts (found_empty m less is are) = said_on acts (m ∷ []) (ap moments_in are) (one_on m (look_on _ m is))

    -- ---- the ends of a socket behind its letters
    item_ends : (m : Moment N S) (ms : List (Moment N S)) (c : Control) (s : OpenSock) → s.object ≡ o → Follow w o c (m ∷ ms) → All (λ x. IsOwn o (after_item m.item c) x.end) (sock_after m s).ends
    item_ends m ms c s is f =
        let next = f.0 in
        let d = after_item m.item c in
        let sound = first w o ms d f.1 in
        let same : left_by m ≡ d = ap (after_item m.item) next.found in
        All-map (λ (x : SockEnd). IsOwn o d x.end) (λ e. record { end = e; place = place_of (left_by m) e }) (ends_of s.object (left_by m))
        (subst (λ (i : ℕ). All (IsOwn o d) (ends_of i (left_by m))) (sym is) (subst (λ (x : Control). All (IsOwn o d) (ends_of o x)) (sym same) (own_ends o d sound.old)))

    pass_ends : (ms : List (Moment N S)) (c : Control) (s t : OpenSock) → s.object ≡ o → Follow w o c ms → PassesItems ms s t → All (λ x. IsOwn o c x.end) s.ends → All (λ x. IsOwn o (led_by c ms) x.end) t.ends
    pass_ends [] c s t is f goes own = subst (λ (x : OpenSock). All (λ (y : SockEnd). IsOwn o c y.end) x.ends) (sym goes) own
    pass_ends (m ∷ ms) c s t is f goes own = pass_ends ms (after_item m.item c) (sock_after m s) t is f.1 goes.1 (item_ends m ms c s is f)

    -- there is a moment among these
    record IsSome (ms : List (Moment N S)) : Type 0 where
      head : Moment N S
      tail : List (Moment N S)
      are : ms ≡ head ∷ tail

    some_taken : (slot : ℕ) (ls : List (List (Act N S))) (last : List (Act N S)) → TakesLetters slot ls → EndsTaking slot (length ls) last → IsSome (moments_in (flat_map (λ x. x) ls ++ last))
    some_taken slot [] last t (took_all all none) = absurd (omega (arith, all))
    some_taken slot [] last t (found_empty m less is are) = record { head = m; tail = []; are = ap moments_in are }
    some_taken slot (l ∷ ls) last t ends =
        let one = t.0 in
        record {
          head = one.taken;
          tail = moments_in (((map (λ e. Step (Seal e)) (seals_in one.taken) ++ one.looks) ++ flat_map (λ x. x) ls) ++ last);
          are = ap (λ (acts : List (Act N S)). moments_in ((acts ++ flat_map (λ x. x) ls) ++ last)) one.acts_are;
        }

    heard_own : (ms : List (Moment N S)) (c : Control) (s t : OpenSock) → IsSome ms → s.object ≡ o → Follow w o c ms → PassesItems ms s t → All (λ x. IsOwn o (led_by c ms) x.end) t.ends
    heard_own ms c s t some is f goes =
        let g = subst (Follow w o c) some.are f in
        let on = subst (λ (l : List (Moment N S)). PassesItems l s t) some.are goes in
        subst (λ (l : List (Moment N S)). All (λ (x : SockEnd). IsOwn o (led_by c l) x.end) t.ends) (sym some.are)
        (pass_ends some.tail (after_item some.head.item c) (sock_after some.head s) t is g.1 on.1 (item_ends some.head some.tail c s is g))

    -- ---- a pump, and a line
    pump_on : (s : OpenSock) (acts : List (Act N S)) (t : OpenSock) (c : Control) → s.object ≡ o → s.slot ≡ w + o → Pumps s acts t → Follow w o c (moments_in acts) → All IsOn (moments_in acts)
    pump_on s acts t c is at p f =
        let letters = flat_map (λ x. x) p.letters in
        let heard = letters ++ p.last in
        let told = step_acts p.steps ++ p.looks in
        let so = both c heard told acts p.acts_are f in
        let d = led_by c (moments_in heard) in
        let hears = both c letters p.last heard refl so.before in
        let same : moments_in told ≡ moments_in p.looks = moments_more (step_acts p.steps) p.looks ∙ ap (λ (l : List (Moment N S)). l ++ moments_in p.looks) (no_moments p.steps) in
        let own = waiting_own o d p.heard (heard_own (moments_in heard) c s p.heard (some_taken s.slot p.letters p.last p.takes p.ends) is so.before p.hears) in
        both_on heard told acts p.acts_are (both_on letters p.last heard refl (letters_on s.slot p.letters c at p.takes hears.before) (last_on s.slot (length p.letters) p.last p.ends))
        (said_on told (moments_in p.looks) same (fronts_on (waiting_ends p.heard) p.looks d p.looks_are (subst (Follow w o d) same so.behind) own))

    pumped_object : (s : OpenSock) (acts : List (Act N S)) (t : OpenSock) → Pumps s acts t → t.object ≡ s.object
    pumped_object s acts t p =
        object_stays (moments_in p.looks) (record p.heard { pattern = p.pattern }) t p.meets
        ∙ object_stays (moments_in (flat_map (λ x. x) p.letters ++ p.last)) s p.heard p.hears

    pub line_on : (s : OpenSock) (pump : List (Act N S)) (p : OpenSock) (t : Try N S) (n : OpenSock) (asks : Call) (c : Control) → s.object ≡ o → s.slot ≡ w + o → Pumps s pump p → AsksOpen asks p t n →
        Follow w o c (moments_in (pump ++ t.call)) → All IsOn (moments_in (pump ++ t.call))
    line_on s pump p t n asks c is at pumps does f =
        let so = both c pump t.call (pump ++ t.call) refl f in
        both_on pump t.call (pump ++ t.call) refl (pump_on s pump p c is at pumps so.before) (call_on p t n asks (pumped_object s pump p pumps ∙ is) does)
