-- What stays so of an object, whatever events come: that it was asked, and that it was closed.
use Rattle.std.specs.Prelude.{◌≡◌, ◌<◌, ℕ, zero, suc, Bool, true, false, not, List, [], ◌∷◌, ◌++◌, Option, Some, None, All, if◌then◌else◌, length, slice_index_or, slice_set, refl}
use Rattle.std.proofs.Common.{arith, sym, ap, ◌∙◌, subst, append-nil, length-set, length-append}
use Rattle.std.proofs.lemmas.List.{get_or-set_same}
use Rattle.std.proofs.lemmas.List.Elements.{All-nil, All-cons, All-append, All-weaker}
use Rattle.zq_base.specs.Ends.{PipeId}
use Rattle.zq_base.specs.declared.ids.ObjId.{ObjId}
use Rattle.spec_pattern.specs.PipeStep.{PipeStep}
use Rattle.spec_control.specs.declared.stage.Stage.TheVariants.{Finished}
use Rattle.spec_control.specs.declared.letter.Word.TheVariants.{Stop}
use Rattle.spec_control.specs.declared.request.Req.{Req}
use Rattle.spec_control.specs.declared.request.Req.TheVariants.{Socket as MakeSocket, AskTerm, Bind, Connect, Unbind, Disconnect, Close, Accepted, Shaken, AskEnd, AskOver, OutputOver}
use Rattle.spec_control.specs.declared.request.Reply.{Reply}
use Rattle.spec_control.specs.declared.request.Reply.TheVariants.{Done, Object, Pair, Both, Wait, Asked as WasAsked, Before, Refused}
use Rattle.spec_control.specs.declared.entry.Did.{Did}
use Rattle.spec_control.specs.declared.entry.Did.TheVariants.{Asked, Delivered, Delimited}
use Rattle.spec_control.specs.declared.entry.Item.{Item}
use Rattle.spec_control.specs.declared.entry.Item.TheVariants.{Event, Seen}
use Rattle.spec_control.specs.Stage.{is_alive, is_unused}
use Rattle.spec_control.specs.Row.{Row, LinkEvent, OwnComes, PlugComes, IsTold, TermComes, AsksOver, RequestComes, ReapComes, AckComes, RootAsked, StopPut, StopComes, AsksForLink, AsksForLinger, nobody, link_may, link_after}
use Rattle.spec_control.specs.Rows.{Rows, obj, with_object, may_end, Step, makes_object, draws_pair, opens_pair, link_moves, pair_moves, object_ends}
use Rattle.spec_control.specs.Control.{Control, begun, with_value, put, link, stop_sockets, tell_owner, finish, try_end}
use Rattle.spec_control.specs.After.{Answers, answers_in, requested, answered, without_front, after}
use Rattle.spec_control.specs.Reply.{root_asked}
use Rattle.spec_control.specs.ControlRun.{IsOpenSocket, MayAsk, Fits, FitsItem, unless_refused, after_item, after_all, IsControlRun}
use Rattle.control_laws.proofs.ListLemmas.{is_false}
use Rattle.control_laws.proofs.StepLemmas.{some_object}
use Rattle.control_laws.specs.Steps.{Steps, no_step, one_more}
use Rattle.control_laws.proofs.SoundLemmas.{socket_there}
use Rattle.control_laws.proofs.StepsLemmas.{events_are_steps}
use Rattle.spec_run.specs.Act.{Act, Step as DoesStep, Said}
use Rattle.replay_laws.proofs.FrameLemmas.{closings, requested_framed, processed_framed, delimited_framed}
use Rattle.replay_laws.proofs.LetterLemmas.{kept_of}
use Rattle.replay_laws.proofs.WalkLemmas.{leaves, Walks, Reached, reached_item}

-- an object that is there, and is so
pub record IsThere (P : Row → Type 0) (s : Rows) (i : ℕ) : Type 0 where
  pub there : i < length s.objects
  pub so : P (obj s i)

module _ (P : Row → Type 0) (links : (e : LinkEvent) (o : Row) → link_may e o ≡ true → P o → P (link_after e o)) (ends : (o : Row) → P o → P (record o { stage = Finished })) where
  set_stays : (xs : List Row) (c : ℕ) (o : Row) (i : ℕ) → (P (slice_index_or xs c nobody) → P o) → P (slice_index_or xs i nobody) → P (slice_index_or (slice_set xs c o) i nobody)
  set_stays [] c o i keeps so = so
  set_stays (x ∷ xs) zero o zero keeps so = keeps so
  set_stays (x ∷ xs) zero o (suc i) keeps so = so
  set_stays (x ∷ xs) (suc c) o zero keeps so = so
  set_stays (x ∷ xs) (suc c) o (suc i) keeps so = set_stays xs c o i keeps so

  push_stays : (xs : List Row) (o : Row) (i : ℕ) → i < length xs → P (slice_index_or xs i nobody) → P (slice_index_or (xs ++ o ∷ []) i nobody)
  push_stays [] o i lt so = absurd (omega (arith, lt))
  push_stays (x ∷ xs) o zero lt so = so
  push_stays (x ∷ xs) o (suc i) lt so = push_stays xs o i (omega (arith, lt)) so

  written_stays : (s : Rows) (c : ℕ) (o : Row) (i : ℕ) → (P (obj s c) → P o) → IsThere P s i → IsThere P (record s { objects = slice_set s.objects c o }) i
  written_stays s c o i keeps h = record { there = (let lt = h.there in let same = length-set s.objects c o in omega (arith, lt, same)); so = set_stays s.objects c o i keeps h.so }

  step_stays : (old new : Rows) → Step old new → (i : ℕ) → IsThere P old i → IsThere P new i
  step_stays old new (makes_object w o unended owner alive fits e) i h =
      subst (λ (s : Rows). IsThere P s i) (sym e)
      (record { there = (let lt = h.there in let more = length-append old.objects (o ∷ []) in omega (arith, lt, more)); so = push_stays old.objects o i h.there h.so })
  step_stays old new (draws_pair p a b e) i h = subst (λ (s : Rows). IsThere P s i) (sym e) (record { there = h.there; so = h.so })
  step_stays old new (opens_pair k a p moves x y e) i h = subst (λ (s : Rows). IsThere P s i) (sym e) (record { there = h.there; so = h.so })
  step_stays old new (link_moves c event may e) i h = subst (λ (s : Rows). IsThere P s i) (sym e) (written_stays old c (link_after event (obj old c)) i (links event (obj old c) may) h)
  step_stays old new (pair_moves k a event p other moves e) i h = subst (λ (s : Rows). IsThere P s i) (sym e) (record { there = h.there; so = h.so })
  step_stays old new (object_ends c may e) i h = subst (λ (s : Rows). IsThere P s i) (sym e) (written_stays old c (record (obj old c) { stage = Finished }) i (ends (obj old c)) h)

  steps_stay : (s t : Rows) → Steps s t → (i : ℕ) → IsThere P s i → IsThere P t i
  steps_stay s t no_step i h = h
  steps_stay s t (one_more m v steps step) i h = step_stays m t step i (steps_stay s m steps i h)

  module _ {N S : Type 0} where
    item_stays : (item : Item N S) (c : Control) → Reached N S c → FitsItem c item → (i : ℕ) → IsThere P c.rows i → IsThere P (after_item item c).rows i
    item_stays (Event entry) c r fits i h =
        steps_stay c.rows (after entry.did c).rows (subst (λ x. Fits x entry.did → Steps x.rows (after entry.did x).rows) r.is (events_are_steps N S 1 r.items r.run entry.did) fits) i h
    item_stays (Seen sight) c r fits i h = h

    stays_on : (cap : PipeId → ℕ) (xs : List (Act N S)) (c : Control) (past : List PipeStep) → Reached N S c → Walks cap c past xs → (i : ℕ) → IsThere P c.rows i → IsThere P (leaves c xs).rows i
    stays_on cap [] c past r w i h = h
    stays_on cap (DoesStep x ∷ xs) c past r w i h = stays_on cap xs c (past ++ x ∷ []) r w.1 i h
    stays_on cap (Said m ∷ xs) c past r w i h = stays_on cap xs (after_item m.item c) past (reached_item m.item c r w.1) w.2 i (item_stays m.item c r w.1 i h)

-- ---- the root was asked
abbrev pub WasTold : Row → Type 0
WasTold o = is_alive o.stage ≡ false

told_link : (e : LinkEvent) (o : Row) → link_may e o ≡ true → WasTold o → WasTold (link_after e o)
told_link OwnComes o may told = told
told_link PlugComes o may told = told
told_link IsTold o may told = refl
told_link TermComes o may told = refl
told_link AsksOver o may told = told
told_link RequestComes o may told = told
told_link ReapComes o may told = refl
told_link AckComes o may told = refl
told_link RootAsked o may told = refl
told_link StopPut o may told = told
told_link StopComes o may told = told
told_link AsksForLink o may told = told
told_link AsksForLinger o may told = told

told_end : (o : Row) → WasTold o → WasTold (record o { stage = Finished })
told_end o told = refl

asked_of : (c : Control) → IsThere WasTold c.rows 0 → root_asked c ≡ true
asked_of c h = ap not h.so

-- the root is asked where it was not before
stop_stays : (n : ℕ) (c : Control) → IsThere WasTold c.rows 0 → IsThere WasTold (stop_sockets n c).rows 0
stop_stays zero c h = h
stop_stays (suc n) c h = by (link_may StopPut (obj (stop_sockets n c).rows n)) (stop_stays n c h)
  where
    by : (b : Bool) → IsThere WasTold (stop_sockets n c).rows 0 → IsThere WasTold (if b then put n Stop (link StopPut n (stop_sockets n c)) else stop_sockets n c).rows 0
    by true g = written_stays WasTold told_link told_end (stop_sockets n c).rows n (link_after StopPut (obj (stop_sockets n c).rows n)) 0 (λ x. x) g
    by false g = g

told_rows : (owner : Option ℕ) (i : ℕ) (c : Control) → (tell_owner owner i c).rows ≡ c.rows
told_rows None i c = refl
told_rows (Some owner) i c = refl

finished_rows : (i : ℕ) (c : Control) → (finish i c).rows ≡ with_object i (record (obj c.rows i) { stage = Finished }) c.rows
finished_rows i c = told_rows (obj c.rows i).owner i _

tried_stays : (left : Bool) (c : Control) → IsThere WasTold c.rows 0 → IsThere WasTold (try_end 0 left c).rows 0
tried_stays left c h = by (may_end c.rows 0) left
  where
    now : Bool → Control
    now x = record c { output_left = with_value 0 x c.output_left }

    by : (b x : Bool) → IsThere WasTold (if b then (if x then now left else finish 0 (now left)) else now left).rows 0
    by true true = record { there = h.there; so = h.so }
    by true false =
        subst (λ (s : Rows). IsThere WasTold s 0) (sym (finished_rows 0 (now left)))
        (written_stays WasTold told_link told_end c.rows 0 (record (obj c.rows 0) { stage = Finished }) 0 (λ x. refl) h)
    by false x = record { there = h.there; so = h.so }

module _ {N S : Type 0} where
  root_there : (c : Control) → Reached N S c → 0 < length c.rows.objects
  root_there c r = some_object c.rows (kept_of c r).reached

  pub asked_on : (cap : PipeId → ℕ) (xs : List (Act N S)) (c : Control) (past : List PipeStep) → Reached N S c → Walks cap c past xs → root_asked c ≡ true → root_asked (leaves c xs) ≡ true
  asked_on cap xs c past r w asked = asked_of (leaves c xs) (stays_on WasTold told_link told_end cap xs c past r w 0 (record { there = root_there c r; so = is_false (is_alive (obj c.rows 0).stage) asked }))

  pub asking_asks : (c : Control) (h : Answers) → Reached N S c → root_asked (requested AskTerm h c) ≡ true
  asking_asks c h r =
      let within = root_there c r in
      let row = link_after RootAsked (obj c.rows 0) in
      let asked : IsThere WasTold (link RootAsked 0 c).rows 0 = record {
        there = (let same = length-set c.rows.objects 0 row in omega (arith, within, same));
        so = ap (λ (o : Row). is_alive o.stage) (get_or-set_same c.rows.objects 0 row nobody within);
      } in
      asked_of (requested AskTerm h c) (tried_stays h.left _ (stop_stays (length c.rows.objects) (link RootAsked 0 c) asked))

-- ---- what was closed
abbrev pub WasClosed : Row → Type 0
WasClosed o = is_unused o.request ≡ false

closed_link : (e : LinkEvent) (o : Row) → link_may e o ≡ true → WasClosed o → WasClosed (link_after e o)
closed_link OwnComes o may closed = closed
closed_link PlugComes o may closed = closed
closed_link IsTold o may closed = closed
closed_link TermComes o may closed = closed
closed_link AsksOver o may closed = refl
closed_link RequestComes o may closed = refl
closed_link ReapComes o may closed = refl
closed_link AckComes o may closed = closed
closed_link RootAsked o may closed = closed
closed_link StopPut o may closed = closed
closed_link StopComes o may closed = closed
closed_link AsksForLink o may closed = closed
closed_link AsksForLinger o may closed = closed

closed_end : (o : Row) → WasClosed o → WasClosed (record o { stage = Finished })
closed_end o closed = closed

-- what an event closes
abbrev pub closes_in : {N S : Type 0} → Did N S → List ObjId
closes_in (Asked req reply h) = unless_refused reply (closings req)
closes_in (Delivered slot letter h) = []
closes_in (Delimited e h) = []

pub closed_after : {N S : Type 0} (c : Control) (did : Did N S) → (after did c).closed ≡ c.closed ++ closes_in did
closed_after c (Asked req reply h) = by reply
  where
    by : (r : Reply) → (answered req r (answers_in h) c).closed ≡ c.closed ++ unless_refused r (closings req)
    by Done = (requested_framed req (answers_in h) c).closed
    by (Object o) = (requested_framed req (answers_in h) c).closed
    by (Pair p) = (requested_framed req (answers_in h) c).closed
    by (Both o p) = (requested_framed req (answers_in h) c).closed
    by Wait = (requested_framed req (answers_in h) c).closed
    by WasAsked = (requested_framed req (answers_in h) c).closed
    by Before = sym (append-nil c.closed)
    by (Refused refusal) = sym (append-nil c.closed)
closed_after c (Delivered slot letter h) = (processed_framed (without_front slot.0 c) letter.to.0 letter.word (answers_in h)).closed ∙ sym (append-nil c.closed)
closed_after c (Delimited e h) = (delimited_framed c e).closed ∙ sym (append-nil c.closed)

-- each of these is there, and was closed
abbrev AllWereClosed : Rows → List ObjId → Type 0
AllWereClosed s os = All (λ o. IsThere WasClosed s o.0) os

nothing_closed : (s : Rows) (reply : Reply) → AllWereClosed s (unless_refused reply [])
nothing_closed s Done = All-nil _
nothing_closed s (Object o) = All-nil _
nothing_closed s (Pair p) = All-nil _
nothing_closed s (Both o p) = All-nil _
nothing_closed s Wait = All-nil _
nothing_closed s WasAsked = All-nil _
nothing_closed s Before = All-nil _
nothing_closed s (Refused refusal) = All-nil _

closing : (c : Control) (o : ObjId) (h : Answers) → IsOpenSocket (obj c.rows o.0) → AllWereClosed (requested (Close o) h c).rows (o ∷ [])
closing c o h is_open =
    let within = socket_there c.rows o.0 is_open.socket in
    let row = link_after AsksOver (obj c.rows o.0) in
    let IsSo : ObjId → Type 0 = λ (x : ObjId). IsThere WasClosed (requested (Close o) h c).rows x.0 in
    All-cons IsSo o []
    (record { there = (let same = length-set c.rows.objects o.0 row in omega (arith, within, same)); so = ap (λ (x : Row). is_unused x.request) (get_or-set_same c.rows.objects o.0 row nobody within) })
    (All-nil IsSo)

closing_by : (c : Control) (o : ObjId) (reply : Reply) (h : Answers) → IsOpenSocket (obj c.rows o.0) → AllWereClosed (answered (Close o) reply h c).rows (unless_refused reply (o ∷ []))
closing_by c o Done h is_open = closing c o h is_open
closing_by c o (Object x) h is_open = closing c o h is_open
closing_by c o (Pair p) h is_open = closing c o h is_open
closing_by c o (Both x p) h is_open = closing c o h is_open
closing_by c o Wait h is_open = closing c o h is_open
closing_by c o WasAsked h is_open = closing c o h is_open
closing_by c o Before h is_open = All-nil _
closing_by c o (Refused refusal) h is_open = All-nil _

asked_closes : (c d : Control) (req : Req) (reply : Reply) (h : Answers) → d ≡ answered req reply h c → MayAsk c req → AllWereClosed d.rows (unless_refused reply (closings req))
asked_closes c d (Close o) reply h is may = subst (λ (x : Control). AllWereClosed x.rows (unless_refused reply (o ∷ []))) (sym is) (closing_by c o reply h may)
asked_closes c d (MakeSocket kind options) reply h is may = nothing_closed d.rows reply
asked_closes c d AskTerm reply h is may = nothing_closed d.rows reply
asked_closes c d (Bind o at) reply h is may = nothing_closed d.rows reply
asked_closes c d (Connect o at) reply h is may = nothing_closed d.rows reply
asked_closes c d (Unbind o at) reply h is may = nothing_closed d.rows reply
asked_closes c d (Disconnect o at) reply h is may = nothing_closed d.rows reply
asked_closes c d (Accepted o) reply h is may = nothing_closed d.rows reply
asked_closes c d (Shaken o peer) reply h is may = nothing_closed d.rows reply
asked_closes c d (AskEnd e reason) reply h is may = nothing_closed d.rows reply
asked_closes c d (AskOver o) reply h is may = nothing_closed d.rows reply
asked_closes c d (OutputOver o) reply h is may = nothing_closed d.rows reply

module _ {N S : Type 0} where
  did_closes : (c : Control) (did : Did N S) → Fits c did → AllWereClosed (after did c).rows (closes_in did)
  did_closes c (Asked req reply h) fits = asked_closes c (after (Asked req reply h) c) req reply (answers_in h) refl fits.may.0
  did_closes c (Delivered slot letter h) fits = All-nil _
  did_closes c (Delimited e h) fits = All-nil _

  closed_over : (items : List (Item N S)) (c : Control) → Reached N S c → AllWereClosed c.rows c.closed → IsControlRun c items → AllWereClosed (after_all items c).rows (after_all items c).closed
  closed_over [] c r all run = all
  closed_over (Event entry ∷ items) c r all run =
      let d = after entry.did c in
      let was : (o : ObjId) → IsThere WasClosed c.rows o.0 → IsThere WasClosed d.rows o.0 = λ o. item_stays WasClosed closed_link closed_end (Event entry) c r run.0 o.0 in
      let now = All-append (λ (o : ObjId). IsThere WasClosed d.rows o.0) c.closed (closes_in entry.did)
      (All-weaker (λ (o : ObjId). IsThere WasClosed c.rows o.0) (λ (o : ObjId). IsThere WasClosed d.rows o.0) was c.closed all) (did_closes c entry.did run.0) in
      closed_over items d (reached_item (Event entry) c r run.0) (subst (AllWereClosed d.rows) (sym (closed_after c entry.did)) now) run.1
  closed_over (Seen sight ∷ items) c r all run = closed_over items c (reached_item (Seen sight) c r run.0) all run.1

  -- those that were closed are there, and asked to be reaped
  pub were_closed : (c : Control) → Reached N S c → All (λ o. IsThere WasClosed c.rows o.0) c.closed
  were_closed c r =
      subst (λ (x : Control). AllWereClosed x.rows x.closed) r.is
      (closed_over r.items (begun 1) (record { items = []; run = tt; is = refl }) (All-nil _) r.run)
