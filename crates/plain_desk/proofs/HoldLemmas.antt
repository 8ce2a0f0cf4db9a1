-- A holder that is lent for an event of a caller has what the caller's moments say, before it and behind it.
use Rattle.std.specs.Prelude.{◌≡◌, ◌==◌, ◌&&◌, ◌⊎◌, ◌++◌, ◌∷◌, [], ℕ, Bool, true, false, cond, List, Option, Some, None, if◌then◌else◌, All, flat_map, map, not, refl}
use Rattle.std.specs.List.{list_any}
use Rattle.std.proofs.Common.{arith, sym, ap, ◌∙◌, subst, inl, inr}
use Rattle.std.proofs.lemmas.Bool.{eq-eqb, eqb-true}
use Rattle.std.proofs.lemmas.List.{append-nil, append_cancel_left}
use Rattle.std.proofs.lemmas.List.Elements.{filter-append}
use Rattle.zq_base.specs.declared.kind.Kind.{Kind}
use Rattle.zq_base.specs.declared.ids.EndId.{EndId}
use Rattle.spec_control.specs.declared.end.EndState.{EndState}
use Rattle.spec_control.specs.declared.entry.Did.{Did}
use Rattle.spec_control.specs.declared.entry.Did.TheVariants.{Asked, Delivered, Delimited}
use Rattle.spec_control.specs.declared.letter.Word.{Word}
use Rattle.spec_control.specs.declared.letter.Word.TheVariants.{Own, Plug, TermReq, Term, TermAck, PipeBind, PipeTerm, PipeTermAck, Stop, Reap}
use Rattle.spec_control.specs.declared.entry.Item.{Item}
use Rattle.spec_control.specs.declared.entry.Item.TheVariants.{Event as IsEvent, Seen as IsSeen}
use Rattle.spec_control.specs.declared.entry.PipeName.{PipeName}
use Rattle.spec_control.specs.declared.entry.Sight.{Sight}
use Rattle.spec_control.specs.declared.object.ObjKind.{ObjKind}
use Rattle.spec_control.specs.Stage.{is_alive, is_coming, is_unused, is_used}
use Rattle.spec_control.specs.Row.{Row, is_socket, owner_fits, socket_fits, stage_fits}
use Rattle.spec_control.specs.Rows.{is_owner, obj}
use Rattle.spec_control.specs.Control.{Control, begun, owner_of, place_of}
use Rattle.spec_control.specs.After.{after, kind_of}
use Rattle.spec_control.specs.ControlRun.{Fits, IsControlRun, IsOpenSocket, after_all, is_between}
use Rattle.spec_control.specs.Names.{name_in, name_of}
use Rattle.spec_control.specs.Held.{caller_of, items_by}
use Rattle.spec_control.specs.Has.{given_up, has_after, has_over, has_then, taken_by_word, taken_in}
use Rattle.spec_control.specs.OwnAsks.{known_after}
use Rattle.spec_control.specs.Moments.{Moment, items_in, left_after, left_by, moments_by, moments_from}
use Rattle.spec_control.proofs.OwnLemmas.{own_has}
use Rattle.control_laws.proofs.ListLemmas.{is_false, never, left, right}
use Rattle.control_laws.proofs.QuietLemmas.{socket_owner}
use Rattle.control_laws.proofs.SoundLemmas.{socket_there}
use Rattle.control_laws.proofs.StepLemmas.{inv_of}
use Rattle.control_laws.specs.Kept.{Kept}
use Rattle.control_laws.proofs.EndLemmas.{kept_but}
use Rattle.control_laws.proofs.RootLemmas.{begun_kept}
use Rattle.control_laws.proofs.TellLemmas.{rows_of}
use Rattle.control_laws.specs.OwnMoves.{own_moves}
use Rattle.control_laws.specs.Spared.{Known}
use Rattle.desk.specs.Holding.{HearsMore, Holding, JoinsBy, has_end}
use Rattle.desk.specs.Joins.{IsReaped, IsTakenIn, KeepsObjects, is_plugged_between}
use Rattle.desk.specs.Lent.{HasAll}
use Rattle.desk.specs.Turns.{HasTurned, TurnsBy, turned_in}
use Rattle.ctl_moves.proofs.TurnedLemmas.{in_none}
use Rattle.desk.specs.Desk.{heard_with, HasWhatTheySay, KeepsUp, came_with}
use Rattle.desk.specs.Kinds.{kind_after, kind_in, kind_over}
use Rattle.ctl_plane.specs.Coming.{ComesWith}
use Rattle.ctl_plane.specs.Hearing.{HasWhat}
use Rattle.ctl_plane.specs.Joining.{IsOfSame, Lends}
use Rattle.ctl_plane.specs.Past.{IsPast, Past, as_item, control_of, items_of}
use Rattle.control_laws.proofs.BetweenLemmas.{between_on, reap_comes}
use Rattle.control_laws.proofs.HeldEventLemmas.{asked_reaps, reaps, word_reaps}
use Rattle.control_laws.proofs.HaveLemmas.{lent_holders_have_it}
use Rattle.control_laws.proofs.LawLemmas.{made_none, open_not, owns}
use Rattle.control_laws.proofs.MomentLemmas.{own_moments}
use Rattle.control_laws.proofs.NobodyLemmas.{nobody_over}
use Rattle.control_laws.proofs.HeldOthersLemmas.{IsIts, among, its_here}
use Rattle.control_laws.proofs.HeldStepLemmas.{known_after as known_now}
use Rattle.control_laws.proofs.SayLemmas.{holders_have_what_is_said}
use Rattle.control_laws.proofs.HeldOpenLemmas.{sockets_are_open}
use Rattle.plain_desk.specs.declared.mark.Mark.{Mark}
use Rattle.plain_desk.specs.declared.mark.Mark.TheVariants.{Event, Seen}
use Rattle.plain_desk.specs.Order.{order_of}
use Rattle.plain_desk.specs.Lent.{lent_to, moments_of, IsLent, Lent}
use Rattle.plain_desk.proofs.FitLemmas.{last_fits, order_names}
use Rattle.plain_desk.proofs.LentLemmas.{control_is, control_next, kept_of, opens}
use Rattle.desk.specs.Heard.{heard_in}
use Rattle.desk.specs.declared.notice.Notice.{Notice}
use Rattle.plain_desk.proofs.OrderLemmas.{event_more, look_more, own_more}
use Rattle.plain_desk.proofs.BoxLemmas.{socket_above}
use Rattle.plain_desk.proofs.PluggedLemmas.{comes_with_plug}
use Rattle.plain_desk.proofs.RowLemmas.{root_plugged}
use Rattle.control_laws.proofs.UnpluggedLemmas.{sockets_are_plugged}

none_more : {X : Type 0} {x : X} {xs : List X} → [] ≡ x ∷ xs → ⊥
none_more f = Prim.grind arith

same_one : {X : Type 0} {x y : X} → x ∷ [] ≡ y ∷ [] → x ≡ y
same_one f = Prim.grind arith

module _ {N S : Type 0} where
  has_snoc : (i : ℕ) (had : Option ℕ) (past : List (Item N S)) (item : Item N S) → has_over i had (past ++ item ∷ []) ≡ has_then i item (has_over i had past)
  has_snoc i had [] item = refl
  has_snoc i had (x ∷ past) item = has_snoc i (has_then i x had) past item

  kind_snoc : (i : ℕ) (k : Option Kind) (past : List (Item N S)) (by : ℕ) (did : Did N S) → kind_over i k (past ++ IsEvent (record { by = by; did = did }) ∷ []) ≡ kind_in i did (kind_over i k past)
  kind_snoc i k [] by did = refl
  kind_snoc i k (IsEvent entry ∷ past) by did = kind_snoc i (kind_in i entry.did k) past by did
  kind_snoc i k (IsSeen sight ∷ past) by did = kind_snoc i k past by did

  own_snoc : (by : ℕ) (items : List (Item N S)) (did : Did N S) → items_by by (items ++ IsEvent (record { by = by; did = did }) ∷ []) ≡ items_by by items ++ IsEvent (record { by = by; did = did }) ∷ []
  own_snoc by items did =
      filter-append (λ (item : Item N S). caller_of item == by) items (IsEvent (record { by = by; did = did }) ∷ [])
      ∙ ap (λ (b : Bool). items_by by items ++ cond b (IsEvent (record { by = by; did = did }) ∷ []) []) (eq-eqb by by refl)

-- no Plug came between a row and itself
pub no_plug_between : (o : Row) → is_plugged_between o o ≡ false
no_plug_between o = by (not (is_socket o.kind)) o.plugged
  where
    by : (a b : Bool) → (a && (not b && b)) ≡ false
    by true true = refl
    by true false = refl
    by false b = refl

-- the root is no socket
pub root_free : (c : Control) → Kept c → is_between (obj c.rows 0) ≡ false
root_free c kept = by_case (is_between (obj c.rows 0)) refl
  where
    none_some : {n : ℕ} → None ≡ Some n → ⊥
    none_some e = Prim.grind arith

    by_case : (b : Bool) → is_between (obj c.rows 0) ≡ b → b ≡ false
    by_case true e =
        let o = obj c.rows 0 in
        let row = (inv_of (rows_of (kept_but 0 c kept))).fits 0 in
        let owner = socket_owner o.kind o.owner (left (owner_fits o.kind o.owner) _ (right (socket_fits (is_socket o.kind) (is_alive o.stage) (is_used o.request) (is_unused o.stop)) _ (right (stage_fits o.stage o.noted o.plugged o.request o.stop) _ row)))
        (left (is_socket o.kind) (is_coming o.request) e) in
        absurd (none_some (sym kept.shape.root ∙ owner))
    by_case false e = refl

-- who has no kind: a closed socket whose Reap is on its way, and an object whose Plug is
pub data IsFree (o : Row) : Type 0 where
  is_given : is_between o ≡ true → IsFree o
  is_new : o.plugged ≡ false → IsFree o

-- it is taken in, and has no kind then
pub record Takes {N S : Type 0} (c : Control) (did : Did N S) (i : ℕ) (kind : Option Kind) : Type 0 where
  pub taken : taken_in did ≡ Some i
  pub free : IsFree (obj c.rows i)
  pub none : kind ≡ None

-- what a call leaves of a holder's objects
pub record Leaves {N S : Type 0} (c : Control) (did : Did N S) (h k : Holding N) : Type 0 where
  pub objects : (i : ℕ) → k.holds i ≡ true → ((h.holds i ≡ true) × (k.kind i ≡ h.kind i)) ⊎ Takes c did i (k.kind i)
  pub same : (i : ℕ) → k.holds i ≡ true → (x : Option Kind) → kind_in i did x ≡ x
  pub stays : (i : ℕ) → k.holds i ≡ true → is_owner i (given_up did) ≡ false

module _ {G N S : Type 0} (ms : List Mark) (by wakers : ℕ) (past : Past G N S) (lent : IsLent ms past wakers) where
  abbrev items : List (Item N S)
  items = order_of ms past.events

  pub lent_has : (h : Holding N) → HasWhatTheySay by (moments_of (lent_to by ms past)) h → HasWhat past h
  lent_has h say =
      let order = lent.order in
      let all = lent_holders_have_it N S past.workers items order.run order.named order.by by h say in
      subst (λ (c : Control). HasAll (name_of (items_of past)) c h) (control_is ms past wakers lent)
      (subst (λ (ns : List (PipeName N)). HasAll (λ e. name_in e ns) (after_all items (begun past.workers)) h) (order_names ms past.events lent.marked) all)

  pub says : (h : Holding N) → h.holds 0 ≡ false → ((i : ℕ) → h.holds i ≡ true → has_after i items ≡ Some by) → ((i : ℕ) → h.holds i ≡ true → h.kind i ≡ kind_after i (items_by by items)) → HasWhat past h →
      HasWhatTheySay by (moments_of (lent_to by ms past)) h
  says h no_root has kinds all =
      let order = lent.order in
      holders_have_what_is_said N S past.workers items order.run order.named order.by by h no_root has kinds
      (subst (λ (ns : List (PipeName N)). HasAll (λ e. name_in e ns) (after_all items (begun past.workers)) h) (sym (order_names ms past.events lent.marked))
      (subst (λ (c : Control). HasAll (name_of (items_of past)) c h) (sym (control_is ms past wakers lent)) all))

  own : items_in (moments_of (lent_to by ms past)) ≡ items_by by items
  own = own_moments by items (begun past.workers)

  module _ (h : Holding N) (say : HasWhatTheySay by (moments_of (lent_to by ms past)) h) where
    pub said_has : (i : ℕ) → h.holds i ≡ true → has_after i items ≡ Some by
    said_has i holds =
        let order = lent.order in
        own_has (begun past.workers) items order.by i by (λ e. never (sym say.no_root ∙ ap h.holds (sym e) ∙ holds)) (ap (has_after i) (sym own) ∙ say.objects i holds)

    pub said_kind : (i : ℕ) → h.holds i ≡ true → h.kind i ≡ kind_after i (items_by by items)
    said_kind i holds = say.kinds i holds ∙ ap (kind_after i) own

    -- a socket that nobody has is none that it made and did not close
    pub no_kind : (i : ℕ) → IsFree (obj (control_of past).rows i) → kind_after i (items_by by items) ≡ None
    no_kind i free = by_case (kind_after i (items_by by items)) refl
      where
        by_case : (kind : Option Kind) → kind_after i (items_by by items) ≡ kind → kind ≡ None
        by_case None e = refl
        by_case (Some kind) e =
            let order = lent.order in
            let open_now = sockets_are_open N S past.workers items order.run order.by by i kind e in
            let socket = open_now.open_socket in
            of free (subst (λ (c : Control). IsOpenSocket (obj c.rows i)) (control_is ms past wakers lent) socket)
            (ap (λ (c : Control). (obj c.rows i).plugged) (sym (control_is ms past wakers lent)) ∙ sockets_are_plugged past.workers items order.run i socket.socket)
          where
            of : IsFree (obj (control_of past).rows i) → IsOpenSocket (obj (control_of past).rows i) → (obj (control_of past).rows i).plugged ≡ true → Some kind ≡ None
            of (is_given between) is plugged = absurd (never (sym (open_not (obj (control_of past).rows i) is) ∙ between))
            of (is_new out) is plugged = absurd (never (sym out ∙ plugged))

    -- no socket that is on its way to the reaper is had
    pub said_free : (i : ℕ) → h.holds i ≡ true → is_between (obj (control_of past).rows i) ≡ false
    said_free i holds = by_case (is_between (obj (control_of past).rows i)) refl
      where
        none_some : None ≡ Some by → ⊥
        none_some e = Prim.grind arith

        by_case : (b : Bool) → is_between (obj (control_of past).rows i) ≡ b → b ≡ false
        by_case true e =
            let order = lent.order in
            absurd (none_some (sym (nobody_over i items (begun past.workers) None (begun_kept past.workers) order.run (λ x. refl)
            (subst (λ (c : Control). is_between (obj c.rows i) ≡ true) (sym (control_is ms past wakers lent)) e)) ∙ said_has i holds))
        by_case false e = refl

    root_is : (k : Holding N) → (k.holds 0 ≡ true → (h.holds 0 ≡ true) ⊎ (is_between (obj (control_of past).rows 0) ≡ true)) → k.holds 0 ≡ false
    root_is k objects = by_case (k.holds 0) refl
      where
        by_case : (b : Bool) → k.holds 0 ≡ b → b ≡ false
        by_case true e =
            elim (objects e) [
              | inl had ↦ sym had ∙ say.no_root
              | inr between ↦ sym between ∙ root_free (control_of past) (kept_of ms past wakers lent)
            ]
        by_case false e = refl

    -- nothing happened
    pub keeps_still : (k : Holding N) → ComesWith past past h k → HasWhat past k → HasTurned (control_of past) (control_of past) h k →
        KeepsUp by (moments_of (lent_to by ms past)) (moments_of (lent_to by ms past)) h k
    keeps_still k comes all turned = record {
      has = says k (root_is k (λ holds. inl (sym (stay_holds 0) ∙ holds))) (λ i holds. said_has i (sym (stay_holds i) ∙ holds)) (λ i holds. stay_kinds i ∙ said_kind i (sym (stay_holds i) ∙ holds)) all;
      turned = λ more e. subst (λ (xs : List (Moment N S)). TurnsBy (flat_map (λ m. turned_in m.found (left_by m)) xs) h k) (empty more e)
          (subst (λ (ts : List (EndId × EndState)). TurnsBy ts h k) (in_none (control_of past) (control_of past) (λ e. refl)) turned);
      came = λ more e. subst (λ (xs : List (Moment N S)). JoinsBy (flat_map (λ m. came_with m.item) xs) h k) (empty more e) (comes.0 [] (sym (append-nil past.events)));
      objects = record {
        one = λ m e. absurd (none_more (empty (m ∷ []) e));
        none = λ e i. (stay_holds i, stay_kinds i);
      };
      heard = λ more e. subst (λ (xs : List (Moment N S)). HearsMore (flat_map (λ m. heard_with m.item m.found (left_by m)) xs) h k) (empty more e)
          (comes.2.none refl ∙ sym (append-nil h.heard));
    }
      where
        empty : (more : List (Moment N S)) → moments_of (lent_to by ms past) ≡ moments_of (lent_to by ms past) ++ more → [] ≡ more
        empty more e = append_cancel_left (moments_of (lent_to by ms past)) [] more (append-nil (moments_of (lent_to by ms past)) ∙ e)

        stay_holds : (i : ℕ) → k.holds i ≡ h.holds i
        stay_holds i = comes.1.holds i (record { ended = λ e. e; plug = no_plug_between (obj (control_of past).rows i); way = refl })

        stay_kinds : (i : ℕ) → k.kind i ≡ h.kind i
        stay_kinds i = comes.1.kinds i (record { ended = λ e. e; plug = no_plug_between (obj (control_of past).rows i); way = refl })

-- a look more
module _ {G N S : Type 0} (ms ms' : List Mark) (by wakers : ℕ) (past : Past G N S) (sight : Sight) (marks : ms' ≡ ms ++ Seen sight ∷ []) (caller : sight.by ≡ by) (lent : IsLent ms past wakers) (lent_now : IsLent ms' past wakers)
    (h k : Holding N) (say : HasWhatTheySay by (moments_of (lent_to by ms past)) h) where
  looked : order_of ms' past.events ≡ order_of ms past.events ++ IsSeen sight ∷ []
  looked = ap (λ (xs : List Mark). order_of xs past.events) marks ∙ look_more ms past.events sight lent.marked

  abbrev look : Moment N S
  look = record { found = after_all (order_of ms past.events) (begun past.workers); item = IsSeen sight }

  seen_more : moments_of (lent_to by ms' past) ≡ moments_of (lent_to by ms past) ++ look ∷ []
  seen_more = ap (λ (xs : List (Item N S)). moments_by by (moments_from (begun past.workers) xs)) looked ∙ own_more by past.workers (order_of ms past.events) (IsSeen sight) caller

  kind_look : (i : ℕ) (kind : Option Kind) (xs : List (Item N S)) → kind_over i kind (xs ++ IsSeen sight ∷ []) ≡ kind_over i kind xs
  kind_look i kind [] = refl
  kind_look i kind (IsEvent entry ∷ xs) = kind_look i (kind_in i entry.did kind) xs
  kind_look i kind (IsSeen other ∷ xs) = kind_look i kind xs

  own_look : items_by by (order_of ms past.events ++ IsSeen sight ∷ []) ≡ items_by by (order_of ms past.events) ++ IsSeen sight ∷ []
  own_look =
      filter-append (λ (item : Item N S). caller_of item == by) (order_of ms past.events) (IsSeen sight ∷ [])
      ∙ ap (λ (b : Bool). items_by by (order_of ms past.events) ++ cond b (IsSeen sight ∷ []) []) (eq-eqb sight.by by caller)

  pub keeps_look : ComesWith past past h k → HasWhat past k → HasTurned (control_of past) (control_of past) h k → KeepsUp by (moments_of (lent_to by ms past)) (moments_of (lent_to by ms' past)) h k
  keeps_look comes all turned = record {
    has = says ms' by wakers past lent_now k (root_is ms by wakers past lent h say k (λ holds. inl (sym (stay_holds 0) ∙ holds)))
        (λ i holds. ap (has_after i) looked ∙ has_snoc i None (order_of ms past.events) (IsSeen sight) ∙ said_has ms by wakers past lent h say i (sym (stay_holds i) ∙ holds))
        (λ i holds. stay_kinds i ∙ said_kind ms by wakers past lent h say i (sym (stay_holds i) ∙ holds)
        ∙ sym (ap (kind_after i) (ap (items_by by) looked ∙ own_look) ∙ kind_look i None (items_by by (order_of ms past.events)))) all;
    turned = λ more e. subst (λ (xs : List (Moment N S)). TurnsBy (flat_map (λ m. turned_in m.found (left_by m)) xs) h k) (one more e)
        (subst (λ (ts : List (EndId × EndState)). TurnsBy ts h k) same turned);
    came = λ more e. subst (λ (xs : List (Moment N S)). JoinsBy (flat_map (λ m. came_with m.item) xs) h k) (one more e) (comes.0 [] (sym (append-nil past.events)));
    objects = record {
      one = λ m e. subst (λ (x : Moment N S). KeepsObjects x.found (left_by x) h k) (same_one (one (m ∷ []) e))
          (subst (λ (c : Control). KeepsObjects c c h k) (sym (control_is ms past wakers lent)) comes.1);
      none = λ e. absurd (none_more (sym (one [] (e ∙ sym (append-nil (moments_of (lent_to by ms past)))))));
    };
    heard = λ more e. subst (λ (xs : List (Moment N S)). HearsMore (flat_map (λ m. heard_with m.item m.found (left_by m)) xs) h k) (one more e)
        (comes.2.none refl ∙ sym (append-nil h.heard));
  }
    where
      one : (more : List (Moment N S)) → moments_of (lent_to by ms' past) ≡ moments_of (lent_to by ms past) ++ more → look ∷ [] ≡ more
      one more e = append_cancel_left (moments_of (lent_to by ms past)) (look ∷ []) more (sym seen_more ∙ e)

      stay_holds : (i : ℕ) → k.holds i ≡ h.holds i
      stay_holds i = comes.1.holds i (record { ended = λ e. e; plug = no_plug_between (obj (control_of past).rows i); way = refl })

      stay_kinds : (i : ℕ) → k.kind i ≡ h.kind i
      stay_kinds i = comes.1.kinds i (record { ended = λ e. e; plug = no_plug_between (obj (control_of past).rows i); way = refl })

      same : turned_in (control_of past) (control_of past) ≡ turned_in look.found (left_by look) ++ []
      same =
          in_none (control_of past) (control_of past) (λ e. refl)
          ∙ sym (in_none look.found look.found (λ e. refl))
          ∙ sym (append-nil (turned_in look.found (left_by look)))

-- an event happened
module _ {G N S : Type 0} (ms ms' : List Mark) (by wakers many : ℕ) (old new : Past G N S) (did : Did N S) (marks : ms' ≡ ms ++ Event by ∷ []) (workers : new.workers ≡ old.workers) (events : new.events ≡ old.events ++ did ∷ []) (lent : IsLent ms old wakers) (lent_now : IsLent ms' new many)
    (h k : Holding N) (say : HasWhatTheySay by (moments_of (lent_to by ms old)) h) (leaves : Leaves (control_of old) did h k) where
  abbrev item : Item N S
  item = IsEvent (record { by = by; did = did })

  grown : order_of ms' new.events ≡ order_of ms old.events ++ item ∷ []
  grown = ap (λ (xs : List Mark). order_of xs new.events) marks ∙ ap (order_of (ms ++ Event by ∷ [])) events ∙ event_more ms old.events by did lent.marked

  has_now : (i : ℕ) → k.holds i ≡ true → has_after i (order_of ms' new.events) ≡ Some by
  has_now i holds = ap (has_after i) grown ∙ has_snoc i None (order_of ms old.events) item ∙ of (leaves.objects i holds)
    where
      by_case : (t : Bool) → (if is_owner i (given_up did) then None else has_after i (order_of ms old.events)) ≡ Some by → (if t then Some by else (if is_owner i (given_up did) then None else has_after i (order_of ms old.events))) ≡ Some by
      by_case true rest = refl
      by_case false rest = rest

      of : ((h.holds i ≡ true) × (k.kind i ≡ h.kind i)) ⊎ Takes (control_of old) did i (k.kind i) → (if is_owner i (taken_in did) then Some by else (if is_owner i (given_up did) then None else has_after i (order_of ms old.events))) ≡ Some by
      of (inl had) =
          by_case (is_owner i (taken_in did)) (ap (λ (g : Bool). if g then None else has_after i (order_of ms old.events)) (leaves.stays i holds) ∙ said_has ms by wakers old lent h say i had.0)
      of (inr takes) = ap (λ (t : Bool). if t then Some by else (if is_owner i (given_up did) then None else has_after i (order_of ms old.events))) (owns i (taken_in did) takes.taken)

  kind_now : (i : ℕ) → k.holds i ≡ true → k.kind i ≡ kind_after i (items_by by (order_of ms' new.events))
  kind_now i holds =
      of (leaves.objects i holds)
      ∙ sym (leaves.same i holds (kind_after i (items_by by (order_of ms old.events))))
      ∙ sym (kind_snoc i None (items_by by (order_of ms old.events)) by did)
      ∙ ap (kind_after i) (sym (ap (items_by by) grown ∙ own_snoc by (order_of ms old.events) did))
    where
      of : ((h.holds i ≡ true) × (k.kind i ≡ h.kind i)) ⊎ Takes (control_of old) did i (k.kind i) → k.kind i ≡ kind_after i (items_by by (order_of ms old.events))
      of (inl had) = had.1 ∙ said_kind ms by wakers old lent h say i had.0
      of (inr takes) = takes.none ∙ sym (no_kind ms by wakers old lent h say i takes.free)

  abbrev moment : Moment N S
  moment = record { found = after_all (order_of ms old.events) (begun old.workers); item = item }

  one_more : moments_of (lent_to by ms' new) ≡ moments_of (lent_to by ms old) ++ moment ∷ []
  one_more =
      ap (λ (w : ℕ). moments_by by (moments_from (begun w) (order_of ms' new.events))) workers
      ∙ ap (λ (xs : List (Item N S)). moments_by by (moments_from (begun old.workers) xs)) grown
      ∙ own_more by old.workers (order_of ms old.events) item refl

  control_then : after did (control_of old) ≡ control_of new
  control_then =
      sym (control_next old did)
      ∙ ap (λ (w : ℕ). control_of (let p : Past G N S = record { workers = w; events = old.events ++ did ∷ []; given = new.given } in p)) (sym workers)
      ∙ ap (λ (es : List (Did N S)). control_of (let p : Past G N S = record { workers = new.workers; events = es; given = new.given } in p)) (sym events)

  pub keeps_up : HasWhat new k → HasTurned (control_of old) (control_of new) h k → ComesWith old new h k → KeepsUp by (moments_of (lent_to by ms old)) (moments_of (lent_to by ms' new)) h k
  keeps_up all turned comes = record {
    has = says ms' by many new lent_now k (root_is ms by wakers old lent h say k (λ holds. root_had (leaves.objects 0 holds))) has_now kind_now all;
    turned = λ more e. subst (λ (xs : List (Moment N S)). TurnsBy (flat_map (λ m. turned_in m.found (left_by m)) xs) h k) (one more e)
        (subst (λ (ts : List (EndId × EndState)). TurnsBy ts h k) same turned);
    came = λ more e. subst (λ (xs : List (Moment N S)). JoinsBy (flat_map (λ m. came_with m.item) xs) h k) (one more e) (comes.0 (did ∷ []) events);
    objects = record {
      one = λ m e. subst (λ (x : Moment N S). KeepsObjects x.found (left_by x) h k) (same_one (one (m ∷ []) e))
          (subst (λ (c : Control). KeepsObjects c (after did c) h k) (sym (control_is ms old wakers lent)) (subst (λ (c : Control). KeepsObjects (control_of old) c h k) (sym control_then) comes.1));
      none = λ e. absurd (none_more (sym (one [] (e ∙ sym (append-nil (moments_of (lent_to by ms old)))))));
    };
    heard = λ more e. subst (λ (xs : List (Moment N S)). HearsMore (flat_map (λ m. heard_with m.item m.found (left_by m)) xs) h k) (one more e)
        (comes.2.one did events ∙ ap (λ (ns : List Notice). h.heard ++ ns) told);
  }
    where
      one : (more : List (Moment N S)) → moments_of (lent_to by ms' new) ≡ moments_of (lent_to by ms old) ++ more → moment ∷ [] ≡ more
      one more e = append_cancel_left (moments_of (lent_to by ms old)) (moment ∷ []) more (sym one_more ∙ e)

      root_had : ((h.holds 0 ≡ true) × (k.kind 0 ≡ h.kind 0)) ⊎ Takes (control_of old) did 0 (k.kind 0) → (h.holds 0 ≡ true) ⊎ (is_between (obj (control_of old).rows 0) ≡ true)
      root_had (inl had) = inl had.0
      root_had (inr takes) = of takes.free
        where
          of : IsFree (obj (control_of old).rows 0) → (h.holds 0 ≡ true) ⊎ (is_between (obj (control_of old).rows 0) ≡ true)
          of (is_given between) = inr between
          of (is_new out) = absurd (never (sym out ∙ root_plugged (control_of old) (kept_of ms old wakers lent)))

      told : heard_in did (control_of old) (control_of new) ≡ heard_with moment.item moment.found (left_by moment) ++ []
      told =
          ap (heard_in did (control_of old)) (sym control_then)
          ∙ ap (λ (c : Control). heard_in did c (after did c)) (sym (control_is ms old wakers lent))
          ∙ sym (append-nil (heard_with moment.item moment.found (left_by moment)))

      same : turned_in (control_of old) (control_of new) ≡ turned_in moment.found (left_by moment) ++ []
      same =
          ap (turned_in (control_of old)) (sym control_then)
          ∙ ap (λ (c : Control). turned_in c (after did c)) (sym (control_is ms old wakers lent))
          ∙ sym (append-nil (turned_in moment.found (left_by moment)))

pub leaves_same : {N S : Type 0} (c : Control) (did : Did N S) (h k : Holding N) → IsOfSame h k → ((i : ℕ) (x : Option Kind) → kind_in i did x ≡ x) → ((i : ℕ) → is_owner i (given_up did) ≡ false) → Leaves c did h k
leaves_same c did h k same kinds given = record {
  objects = λ i e. inl (sym (same.objects i) ∙ e, same.kinds i);
  same = λ i e x. kinds i x;
  stays = λ i e. given i;
}

-- whose Reap comes is taken over
reap_takes : {N S : Type 0} (c : Control) (did : Did N S) (i : ℕ) → list_any (reap_comes i) (own_moves c did) ≡ true → taken_in did ≡ Some i
reap_takes c (Asked req reply h) i any = absurd (never (sym (asked_reaps i c req reply) ∙ any))
reap_takes c (Delimited e h) i any = absurd (never any)
reap_takes c (Delivered slot letter h) i any = of letter.word (sym (word_reaps i letter.to.0 letter.word) ∙ any)
  where
    of : (word : Word) → reaps i word ≡ true → taken_by_word letter.to.0 word ≡ Some i
    of (Own child) r = absurd (never r)
    of (Plug end) r = absurd (never r)
    of (TermReq child) r = absurd (never r)
    of Term r = absurd (never r)
    of (TermAck child) r = absurd (never r)
    of (PipeBind end peer) r = absurd (never r)
    of (PipeTerm end) r = absurd (never r)
    of (PipeTermAck end) r = absurd (never r)
    of Stop r = absurd (never r)
    of (Reap socket) r = ap (λ (n : ℕ). Some n) (eqb-true socket.0 i r)

-- an event that neither makes nor closes a socket
pub leaves_kept : {N S : Type 0} (c : Control) (did : Did N S) (h k : Holding N) → Kept c → Fits c did → KeepsObjects c (after did c) h k → ((i : ℕ) (x : Option Kind) → kind_in i did x ≡ x) → ((i : ℕ) → is_owner i (given_up did) ≡ false) → Leaves c did h k
leaves_kept c did h k kept fits keeps kinds given = record {
  objects = λ i e. of i (keeps.had i e);
  same = λ i e x. kinds i x;
  stays = λ i e. given i;
}
  where
    of : (i : ℕ) → ((h.holds i ≡ true) × (k.kind i ≡ h.kind i)) ⊎ (IsReaped (obj c.rows i) (obj (after did c).rows i) (k.kind i) ⊎ IsTakenIn (obj c.rows i) (obj (after did c).rows i) (k.kind i)) → ((h.holds i ≡ true) × (k.kind i ≡ h.kind i)) ⊎ Takes c did i (k.kind i)
    of i (inl had) = inl had
    of i (inr (inl reaped)) =
        elim (between_on c did kept fits (made_none c kept did) i reaped.between) [
          | inl still ↦ absurd (never (sym reaped.taken ∙ still))
          | inr any ↦ inr (record { taken = reap_takes c did i any; free = is_given reaped.between; none = reaped.none })
        ]
    of i (inr (inr came)) =
        let turned = right (not (is_socket (obj c.rows i).kind)) _ came.came in
        let out = is_false (obj c.rows i).plugged (left (not (obj c.rows i).plugged) _ turned) in
        inr (record { taken = comes_with_plug c did kept fits i out (right (not (obj c.rows i).plugged) _ turned); free = is_new out; none = came.none })

-- ---- as the desk is seen
module _ {G N S : Type 0} (ms : List Mark) (past : Past G N S) (wakers by : ℕ) (l : Lent G N S) (seen : lent_to by ms past ≡ l) (lent : IsLent ms past wakers) (h : Holding N) (say : HasWhatTheySay l.caller (moments_of l) h) where
  here : HasWhatTheySay by (moments_of (lent_to by ms past)) h
  here = subst (λ (d : Lent G N S). HasWhatTheySay d.caller (moments_of d) h) (sym seen) say

  pub desk_has : HasWhat past h
  desk_has = lent_has ms by wakers past lent h here

  pub desk_lends : (i : ℕ) → (known_after i (items_in (moments_of l))).open_socket ≡ true → h.holds i ≡ true → Lends (control_of past) i h
  desk_lends i known holds =
      let shown = opens ms past wakers by i lent (subst (λ (d : Lent G N S). (known_after i (items_in (moments_of d))).open_socket ≡ true) (sym seen) known) in
      let row = shown.is in
      record {
        socket = subst (λ (c : Control). IsOpenSocket (obj c.rows i)) (control_is ms past wakers lent) row.open_socket;
        lent = holds;
        kind =
            said_kind ms by wakers past lent h here i holds ∙ shown.known
            ∙ ap (λ (k : ObjKind). Some (kind_of k)) (sym row.kind_is)
            ∙ ap (λ (c : Control). Some (kind_of (obj c.rows i).kind)) (control_is ms past wakers lent);
        marked = λ j socket. lent.options j (socket_above past.workers (control_of past) lent.boxes j socket) (socket_there (control_of past).rows j socket);
      }

  pub desk_still : (new : Past G N S) (k : Holding N) → new ≡ past → HasWhat new k → HasTurned (control_of past) (control_of new) h k → ComesWith past new h k → KeepsUp by (moments_of l) (moments_of (lent_to by ms new)) h k
  desk_still new k stays all turned comes =
      subst (λ (d : Lent G N S). KeepsUp by (moments_of d) (moments_of (lent_to by ms new)) h k) seen
      (subst (λ (p : Past G N S). KeepsUp by (moments_of (lent_to by ms past)) (moments_of (lent_to by ms p)) h k) (sym stays)
      (keeps_still ms by wakers past lent h here k (subst (λ (p : Past G N S). ComesWith past p h k) stays comes) (subst (λ (p : Past G N S). HasWhat p k) stays all)
      (subst (λ (p : Past G N S). HasTurned (control_of past) (control_of p) h k) stays turned)))

  pub desk_keeps : (ms' : List Mark) (many : ℕ) (new : Past G N S) (did : Did N S) (k : Holding N) → ms' ≡ ms ++ Event by ∷ [] → new.workers ≡ past.workers → new.events ≡ past.events ++ did ∷ [] → IsLent ms' new many → Leaves (control_of past) did h k →
      HasWhat new k → HasTurned (control_of past) (control_of new) h k → ComesWith past new h k → KeepsUp by (moments_of l) (moments_of (lent_to by ms' new)) h k
  desk_keeps ms' many new did k marks workers events now leaves all turned comes =
      subst (λ (d : Lent G N S). KeepsUp by (moments_of d) (moments_of (lent_to by ms' new)) h k) seen
      (keeps_up ms ms' by wakers many past new did marks workers events lent now h k here leaves all turned comes)

  -- an event that neither makes nor closes a socket
  module _ (ms' : List Mark) (many : ℕ) (new : Past G N S) (did : Did N S) (k : Holding N) (marks : ms' ≡ ms ++ Event by ∷ []) (workers : new.workers ≡ past.workers) (events : new.events ≡ past.events ++ did ∷ []) where
    fits_then : IsPast new → Fits (control_of past) did
    fits_then run =
        last_fits past.events did (begun past.workers)
        (subst (λ (w : ℕ). IsControlRun (begun w) (map as_item (past.events ++ did ∷ []))) workers (subst (λ (es : List (Did N S)). IsControlRun (begun new.workers) (map as_item es)) events run))

    then_is : control_of new ≡ after did (control_of past)
    then_is =
        ap (λ (w : ℕ). control_of (let p : Past G N S = record { workers = w; events = new.events; given = new.given } in p)) workers
        ∙ ap (λ (es : List (Did N S)). control_of (let p : Past G N S = record { workers = past.workers; events = es; given = new.given } in p)) events
        ∙ control_next past did

    pub desk_happens : IsLent ms' new many → IsPast new → ((i : ℕ) (x : Option Kind) → kind_in i did x ≡ x) → ((i : ℕ) → is_owner i (given_up did) ≡ false) →
        HasWhat new k → HasTurned (control_of past) (control_of new) h k → ComesWith past new h k → KeepsUp by (moments_of l) (moments_of (lent_to by ms' new)) h k
    desk_happens now run kinds given all turned comes =
        desk_keeps ms' many new did k marks workers events now
        (leaves_kept (control_of past) did h k (kept_of ms past wakers lent) (fits_then run) (subst (λ (c : Control). KeepsObjects (control_of past) c h k) then_is comes.1) kinds given) all turned comes

  -- a look more
  pub desk_looks : (ms' : List Mark) (new : Past G N S) (sight : Sight) (k : Holding N) → ms' ≡ ms ++ Seen sight ∷ [] → sight.by ≡ by → new ≡ past → IsLent ms' past wakers →
      HasWhat new k → HasTurned (control_of past) (control_of new) h k → ComesWith past new h k → KeepsUp by (moments_of l) (moments_of (lent_to by ms' new)) h k
  desk_looks ms' new sight k marks caller stays now all turned comes =
      subst (λ (d : Lent G N S). KeepsUp by (moments_of d) (moments_of (lent_to by ms' new)) h k) seen
      (subst (λ (p : Past G N S). KeepsUp by (moments_of (lent_to by ms past)) (moments_of (lent_to by ms' p)) h k) (sym stays)
      (keeps_look ms ms' by wakers past sight marks caller lent now h k here (subst (λ (p : Past G N S). ComesWith past p h k) stays comes) (subst (λ (p : Past G N S). HasWhat p k) stays all)
      (subst (λ (p : Past G N S). HasTurned (control_of past) (control_of p) h k) stays turned)))

  -- ---- an end of the holder
  pub desk_free : (i : ℕ) → h.holds i ≡ true → is_between (obj (control_of past).rows i) ≡ false
  desk_free = said_free ms by wakers past lent h here

  pub desk_owner : (e : EndId) (i : ℕ) → h.holds i ≡ true → has_end e (h.ends i) ≡ true → owner_of (control_of past) e ≡ i
  desk_owner e i holds is =
      let order = lent.order in
      let known = subst Known (control_is ms past wakers lent) (known_now past.workers (order_of ms past.events) order.run) in
      let ends = desk_has i holds in
      (among (IsIts (control_of past) i) (h.ends i) (subst (λ (es : List EndId). All (IsIts (control_of past) i) es) (sym ends.ends) (its_here (control_of past) i known)) e is).own

  -- it is where the holder's moments left it
  pub desk_place : (e : EndId) (i : ℕ) → h.holds i ≡ true → has_end e (h.ends i) ≡ true → place_of (left_after i (moments_of l)) e ≡ place_of (control_of past) e
  desk_place e i holds is = (let ends = desk_has i holds in say.states i e holds is ∙ sym (ends.states e is))

  pub desk_had : (i : ℕ) → h.holds i ≡ true → has_after i (order_of ms past.events) ≡ Some by
  desk_had = said_has ms by wakers past lent h here

  pub desk_kind : (i : ℕ) → h.holds i ≡ true → h.kind i ≡ kind_after i (items_by by (order_of ms past.events))
  desk_kind = said_kind ms by wakers past lent h here
