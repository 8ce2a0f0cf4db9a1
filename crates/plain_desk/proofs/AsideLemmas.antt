-- Events of which no holder is told leave what it has.
use Rattle.std.specs.Prelude.{◌≡◌, ◌++◌, ◌∷◌, [], ℕ, Bool, true, false, List, Option, Some, None, if◌then◌else◌, find, flat_map, length, map, refl}
use Rattle.std.proofs.Common.{arith, sym, ap, ◌∙◌, subst, inl}
use Rattle.std.proofs.lemmas.Grind.{flat_map-append}
use Rattle.std.proofs.lemmas.List.{append-nil, append_cancel_left, map-append}
use Rattle.std.proofs.lemmas.List.Elements.{All-weaker}
use Rattle.zq_base.specs.Ends.{other_end}
use Rattle.zq_base.specs.declared.endpoint.Address.{Address}
use Rattle.zq_base.specs.declared.endpoint.Endpoint.{Endpoint}
use Rattle.zq_base.specs.declared.endpoint.Endpoint.TheVariants.{Tcp}
use Rattle.zq_base.specs.declared.ids.EndId.{EndId}
use Rattle.zq_base.specs.declared.ids.ObjId.{ObjId}
use Rattle.zq_base.specs.declared.kind.Kind.{Kind}
use Rattle.zq_base.specs.declared.options.Options.{Options}
use Rattle.spec_control.specs.declared.end.EndState.{EndState}
use Rattle.spec_control.specs.declared.entry.Answered.{Answered}
use Rattle.spec_control.specs.declared.entry.Did.{Did}
use Rattle.spec_control.specs.declared.entry.Did.TheVariants.{Asked}
use Rattle.spec_control.specs.declared.entry.PipeName.{PipeName}
use Rattle.spec_control.specs.declared.entry.Sight.{Sight}
use Rattle.spec_control.specs.declared.request.Req.TheVariants.{Socket as MakeSocket, AskTerm, Bind, Unbind, Accepted, AskOver}
use Rattle.spec_control.specs.declared.request.Reply.{Reply}
use Rattle.spec_control.specs.declared.request.Reply.TheVariants.{Done, Object, Pair, Both, Wait, Asked as WasAsked, Before, Refused}
use Rattle.spec_control.specs.Hold.{Hold, Bound, Waits, Joined, is_bind_to}
use Rattle.spec_control.specs.Register.{without_holder}
use Rattle.spec_control.specs.Row.{AsksOver, RootAsked, link_after}
use Rattle.spec_control.specs.Rows.{is_owner, obj}
use Rattle.spec_control.specs.Control.{Control, begun, is_end, link, stop_sockets, try_end}
use Rattle.spec_control.specs.After.{accepted_row, after, answers_in, listener_row, requested, strikes, tell_struck}
use Rattle.spec_control.specs.ControlRun.{Fits, is_between}
use Rattle.spec_control.specs.Names.{name_in, name_of, named_in}
use Rattle.spec_control.specs.Has.{given_up, made_by}
use Rattle.control_laws.proofs.StayLemmas.{SameEnds, ends_on, ends_stay, link_ends_stay, sockets_stopped, tried, where_told}
use Rattle.control_laws.proofs.ListLemmas.{never, clash}
use Rattle.desk.specs.Holding.{HearsMore, Holding, JoinsBy}
use Rattle.desk.specs.Heard.{heard_in}
use Rattle.desk.specs.Joins.{came_in, is_plugged_between}
use Rattle.desk.specs.Lent.{HasAll, HasBothNames}
use Rattle.desk.specs.Turns.{HasTurned, TurnsBy}
use Rattle.ctl_moves.proofs.TurnedLemmas.{in_none}
use Rattle.ctl_moves.specs.Processing.{IsSilent}
use Rattle.desk.specs.Desk.{HasWhatTheySay, KeepsUp}
use Rattle.desk.specs.Kinds.{kind_in}
use Rattle.ctl_moves.proofs.BetweenLemmas.{StayBetween, none_plugged, pushed_between, written_between}
use Rattle.ctl_plane.proofs.StillLemmas.{answered_still, make_still, term_still, unbind_still}
use Rattle.ctl_plane.specs.Past.{IsPast, Past, as_item, control_of, items_of, with_event}
use Rattle.plain_desk.specs.declared.mark.Mark.{Mark}
use Rattle.plain_desk.specs.declared.mark.Mark.TheVariants.{Event, Seen}
use Rattle.control_laws.proofs.LawLemmas.{owned_by}
use Rattle.plain_desk.specs.Lent.{IsLent, KeepsAside, Lent, lent_to, moments_of}
use Rattle.plain_desk.proofs.TellLemmas.{none_more, same_one}
use Rattle.plain_desk.proofs.FitLemmas.{last_fits}
use Rattle.plain_desk.proofs.HoldLemmas.{desk_had, desk_has, desk_keeps, desk_looks, desk_still, no_plug_between}
use Rattle.plain_desk.proofs.LentLemmas.{control_is, control_next, made_by_one}
use Rattle.plain_desk.proofs.MakeLemmas.{either_done}
use Rattle.plain_desk.proofs.SparedLemmas.{LeavesEnds, drawn_leaves, same_leaves}
use Rattle.control_laws.specs.Spared.{Known}
use Rattle.control_laws.proofs.HeldStepLemmas.{known_after as known_now}
use Rattle.plain_desk.specs.Order.{order_of}

-- ---- the ends stay
found_passes : {X : Type 0} (test : X → Bool) (xs : List X) (x : X) → find test xs ≡ Some x → test x ≡ true
found_passes {X = X} test [] x e = absurd (none_some e)
  where
    none_some : None ≡ Some x → ⊥
    none_some f = Prim.grind arith
found_passes {X = X} test (y ∷ xs) x e = by (test y) refl (found_passes test xs x) e
  where
    some_is : {y : X} → Some y ≡ Some x → y ≡ x
    some_is f = Prim.grind arith

    by : (b : Bool) → test y ≡ b → (find test xs ≡ Some x → test x ≡ true) → (if b then Some y else find test xs) ≡ Some x → test x ≡ true
    by true is rest h = subst (λ (z : X). test z ≡ true) (some_is h) is
    by false is rest h = rest h

struck_stays : (i : ℕ) (session : Option ℕ) (c d : Control) → SameEnds c d → SameEnds c (tell_struck i session d)
struck_stays i None c d same = same
struck_stays i (Some child) c d same = ends_on c d (tell_struck i (Some child) d) same (where_told (is_owner i (obj d.rows child).owner) child d)

module _ {N S : Type 0} (c : Control) (h : Answered N S) where
  asked : SameEnds c (try_end 0 h.output_left (stop_sockets (length c.rows.objects) (link RootAsked 0 c)))
  asked =
      let now : Control = link RootAsked 0 c in
      ends_on c (stop_sockets (length c.rows.objects) now) (try_end 0 h.output_left (stop_sockets (length c.rows.objects) now))
      (ends_on c now (stop_sockets (length c.rows.objects) now) (link_ends_stay RootAsked 0 c) (sockets_stopped (length c.rows.objects) now))
      (tried 0 h.output_left (stop_sockets (length c.rows.objects) now))

  pub term_stays : (reply : Reply) → SameEnds c (after (Asked AskTerm reply h) c)
  term_stays Done = asked
  term_stays (Object o) = asked
  term_stays (Pair p) = asked
  term_stays (Both o p) = asked
  term_stays Wait = asked
  term_stays WasAsked = asked
  term_stays Before = ends_stay c
  term_stays (Refused refusal) = ends_stay c

  made : (kind : Kind) (options : Options) → SameEnds c (after (Asked (MakeSocket kind options) Done h) c)
  made kind options = record { pairs = refl; attached = refl; reasons = refl }

  pub make_stays : (kind : Kind) (options : Options) (reply : Reply) → SameEnds c (after (Asked (MakeSocket kind options) reply h) c)
  make_stays kind options Done = made kind options
  make_stays kind options (Object o) = made kind options
  make_stays kind options (Pair p) = made kind options
  make_stays kind options (Both o p) = made kind options
  make_stays kind options Wait = made kind options
  make_stays kind options WasAsked = made kind options
  make_stays kind options Before = ends_stay c
  make_stays kind options (Refused refusal) = ends_stay c

  listened : (o : ObjId) (address : Address) → SameEnds c (after (Asked (Bind o (Tcp address)) Done h) c)
  listened o address = record { pairs = refl; attached = refl; reasons = refl }

  pub listen_stays : (o : ObjId) (address : Address) (reply : Reply) → SameEnds c (after (Asked (Bind o (Tcp address)) reply h) c)
  listen_stays o address Done = listened o address
  listen_stays o address (Object p) = listened o address
  listen_stays o address (Pair p) = listened o address
  listen_stays o address (Both p q) = listened o address
  listen_stays o address Wait = listened o address
  listen_stays o address WasAsked = listened o address
  listen_stays o address Before = ends_stay c
  listen_stays o address (Refused refusal) = ends_stay c

  pub over_stays : (o : ObjId) → SameEnds c (after (Asked (AskOver o) Done h) c)
  over_stays o = record { pairs = refl; attached = refl; reasons = refl }

  struck : (i : ℕ) (at : Endpoint) (d : Control) → SameEnds c d → (hold : Option Hold) → ((x : Hold) → hold ≡ Some x → is_bind_to at x ≡ true) → SameEnds c (strikes i at hold d)
  struck i at d same None is = same
  struck i at d same (Some (Bound to listener)) is = struck_stays i listener c (record d { names = without_holder at d.names }) (record { pairs = same.pairs; attached = same.attached; reasons = same.reasons })
  struck i at d same (Some (Waits to)) is = absurd (never (is (Waits to) refl))
  struck i at d same (Some (Joined to k session)) is = absurd (never (is (Joined to k session) refl))

  unbound : (o : ObjId) (at : Endpoint) → SameEnds c (after (Asked (Unbind o at) Done h) c)
  unbound o at = struck o.0 at _ (record { pairs = refl; attached = refl; reasons = refl }) (find (is_bind_to at) (c.holds o.0)) (λ x e. found_passes (is_bind_to at) (c.holds o.0) x e)

  pub unbind_stays : (o : ObjId) (at : Endpoint) (reply : Reply) → SameEnds c (after (Asked (Unbind o at) reply h) c)
  unbind_stays o at Done = unbound o at
  unbind_stays o at (Object p) = unbound o at
  unbind_stays o at (Pair p) = unbound o at
  unbind_stays o at (Both p q) = unbound o at
  unbind_stays o at Wait = unbound o at
  unbind_stays o at WasAsked = unbound o at
  unbind_stays o at Before = ends_stay c
  unbind_stays o at (Refused refusal) = ends_stay c

-- ---- names
pub name_stays : {N : Type 0} (e : EndId) (xs ys : List (PipeName N)) (n : N) → name_in e xs ≡ Some n → name_in e (xs ++ ys) ≡ Some n
name_stays e [] ys n h = absurd (none_some h)
  where
    none_some : None ≡ Some n → ⊥
    none_some f = Prim.grind arith
name_stays e (x ∷ xs) ys n h = by (is_end e x.pipe) (name_stays e xs ys n) h
  where
    by : (b : Bool) → (name_in e xs ≡ Some n → name_in e (xs ++ ys) ≡ Some n) → (if b then Some x.name else name_in e xs) ≡ Some n → (if b then Some x.name else name_in e (xs ++ ys)) ≡ Some n
    by true rest k = k
    by false rest k = rest k

-- ---- a holder
has_more : {N : Type 0} (names more : EndId → Option N) (c : Control) (h : Holding N) → ((e : EndId) (n : N) → names e ≡ Some n → more e ≡ Some n) → HasAll names c h → HasAll more c h
has_more names more c h grows all i holds =
    let has = all i holds in
    record {
      ends = has.ends;
      named = All-weaker (HasBothNames names) (HasBothNames more) (λ x both. record { written = grows x.end x.written both.written; read = grows (other_end x.end) x.read both.read }) (h.ends i) has.named;
      writes = has.writes;
      delimiters = has.delimiters;
      states = has.states;
    }

module _ {G N S : Type 0} (ms : List Mark) (past : Past G N S) (wakers by : ℕ) (l : Lent G N S) (seen : lent_to by ms past ≡ l) (lent : IsLent ms past wakers) (h : Holding N) (say : HasWhatTheySay l.caller (moments_of l) h)
    (ms' : List Mark) (many : ℕ) (new : Past G N S) (did : Did N S) (marks : ms' ≡ ms ++ Event by ∷ []) (step : new ≡ with_event did past) (now : IsLent ms' new many) (silent : came_in did ≡ []) (same : LeavesEnds N (control_of past) (after did (control_of past)))
    (still : StayBetween (control_of past).rows (after did (control_of past)).rows) where
  then_is : control_of new ≡ after did (control_of past)
  then_is = ap (λ (p : Past G N S). control_of p) step ∙ control_next past did

  names_more : (e : EndId) (n : N) → name_of (items_of past) e ≡ Some n → name_of (items_of new) e ≡ Some n
  names_more e n is =
      ap (λ (p : Past G N S). name_of (items_of p) e) step
      ∙ ap (name_in e) (ap (flat_map named_in) (map-append as_item past.events (did ∷ [])) ∙ flat_map-append named_in (map as_item past.events) (as_item did ∷ []))
      ∙ name_stays e (flat_map named_in (map as_item past.events)) (flat_map named_in (as_item did ∷ [])) n is

  pub desk_aside : ((i : ℕ) → h.holds i ≡ true → (x : Option Kind) → kind_in i did x ≡ x) → ((i : ℕ) → is_owner i (given_up did) ≡ false) → ((c d : Control) → heard_in did c d ≡ []) → KeepsUp by (moments_of l) (moments_of (lent_to by ms' new)) h h
  desk_aside kinds given unheard =
      desk_keeps ms past wakers by l seen lent h say ms' many new did h marks (ap (λ (p : Past G N S). p.workers) step) (ap (λ (p : Past G N S). p.events) step) now
      (record { objects = λ i e. inl (e, refl); same = kinds; stays = λ i e. given i })
      (has_more (name_of (items_of past)) (name_of (items_of new)) (control_of new) h names_more
      (subst (λ (c : Control). HasAll (name_of (items_of past)) c h) (sym then_is) (same.has (name_of (items_of past)) h (desk_has ms past wakers by l seen lent h say))))
      (subst (λ (c : Control). HasTurned (control_of past) c h h) (sym then_is)
      (subst (λ (ts : List (EndId × EndState)). TurnsBy ts h h) (sym same.turned) (record { turns = sym (append-nil h.turns); sealed = sym (append-nil h.sealed) })))
      (came, record { holds = λ i stays. refl; kinds = λ i stays. refl; had = λ i e. inl (e, refl); reaped = λ i between taken lives. absurd (clash _ (still_then i between) taken); taken_in = λ i came. absurd (clash _ came (untaken i)) }, record { one = told; none = λ e. refl })
    where
      still_then : (i : ℕ) → is_between (obj (control_of past).rows i) ≡ true → is_between (obj (control_of new).rows i) ≡ true
      still_then i between = ap (λ (c : Control). is_between (obj c.rows i)) then_is ∙ still.reaps i between

      untaken : (i : ℕ) → is_plugged_between (obj (control_of past).rows i) (obj (control_of new).rows i) ≡ false
      untaken i = ap (λ (c : Control). is_plugged_between (obj (control_of past).rows i) (obj c.rows i)) then_is ∙ none_plugged (control_of past).rows (after did (control_of past)).rows still.plugs i

      came : (more : List (Did N S)) → new.events ≡ past.events ++ more → JoinsBy (flat_map came_in more) h h
      came more e =
          subst (λ (ds : List (Did N S)). JoinsBy (flat_map came_in ds) h h) (append_cancel_left past.events (did ∷ []) more (sym (ap (λ (p : Past G N S). p.events) step) ∙ e))
          (sym (append-nil h.joined) ∙ ap (λ js. h.joined ++ (js ++ [])) (sym silent))

      told : (d : Did N S) → new.events ≡ past.events ++ d ∷ [] → HearsMore (heard_in d (control_of past) (control_of new)) h h
      told d e =
          subst (λ (x : Did N S). HearsMore (heard_in x (control_of past) (control_of new)) h h) (same_one (append_cancel_left past.events (did ∷ []) (d ∷ []) (sym (ap (λ (p : Past G N S). p.events) step) ∙ e)))
          (sym (append-nil h.heard) ∙ ap (λ ns. h.heard ++ ns) (sym (unheard (control_of past) (control_of new))))

-- ---- as the desk is seen
module _ {G N S : Type 0} (ms : List Mark) (past : Past G N S) (wakers by : ℕ) (l : Lent G N S) (seen : lent_to by ms past ≡ l) (lent : IsLent ms past wakers) where
  -- nothing happened
  pub desk_same : (new : Past G N S) → new ≡ past → KeepsAside l (lent_to by ms new)
  desk_same new stays = λ h say.
      subst (λ (p : Past G N S). KeepsUp by (moments_of l) (moments_of (lent_to by ms p)) h h) (sym stays)
      (desk_still ms past wakers by l seen lent h say past h refl (desk_has ms past wakers by l seen lent h say)
      (subst (λ (ts : List (EndId × EndState)). TurnsBy ts h h) (sym (in_none (control_of past) (control_of past) (λ e. refl))) (record { turns = sym (append-nil h.turns); sealed = sym (append-nil h.sealed) }))
      (λ more e. sym (append-nil h.joined) ∙ ap (λ (ds : List (Did N S)). h.joined ++ flat_map came_in ds) (append_cancel_left past.events [] more (append-nil past.events ∙ e)), record { holds = λ i stays. refl; kinds = λ i stays. refl; had = λ i e. inl (e, refl); reaped = λ i between taken lives. absurd (clash _ between taken); taken_in = λ i came. absurd (clash _ came (no_plug_between (obj (control_of past).rows i))) }, record { one = λ did e. absurd (none_more (append_cancel_left past.events [] (did ∷ []) (append-nil past.events ∙ e))); none = λ e. refl }))

  -- the context is asked to end
  pub desk_asked : (ms' : List Mark) (many : ℕ) (new : Past G N S) (reply : Reply) (h : Answered N S) → ms' ≡ ms ++ Event by ∷ [] → new ≡ with_event (Asked AskTerm reply h) past → IsLent ms' new many → IsSilent h → KeepsAside l (lent_to by ms' new)
  desk_asked ms' many new reply h marks step now silent = λ holder say.
      desk_aside ms past wakers by l seen lent holder say ms' many new (Asked AskTerm reply h) marks step now silent.joined (same_leaves (control_of past) (after (Asked AskTerm reply h) (control_of past)) (term_stays (control_of past) h reply)) (term_still reply (answers_in h) (control_of past)) (λ i e x. refl) (λ i. refl) (λ c d. refl)

  -- a socket strikes a bind
  pub desk_unbound : (ms' : List Mark) (many : ℕ) (new : Past G N S) (o : ObjId) (at : Endpoint) (reply : Reply) (h : Answered N S) → ms' ≡ ms ++ Event by ∷ [] → new ≡ with_event (Asked (Unbind o at) reply h) past → IsLent ms' new many → IsSilent h → KeepsAside l (lent_to by ms' new)
  desk_unbound ms' many new o at reply h marks step now silent = λ holder say.
      desk_aside ms past wakers by l seen lent holder say ms' many new (Asked (Unbind o at) reply h) marks step now silent.joined (same_leaves (control_of past) (after (Asked (Unbind o at) reply h) (control_of past)) (unbind_stays (control_of past) h o at reply)) (unbind_still o at reply (answers_in h) (control_of past)) (λ i e x. refl) (λ i. refl) (λ c d. refl)

  -- a socket is made, which nobody had
  pub desk_made : (ms' : List Mark) (many : ℕ) (new : Past G N S) (kind : Kind) (options : Options) (reply : Reply) (h : Answered N S) → ms' ≡ ms ++ Event by ∷ [] → new ≡ with_event (Asked (MakeSocket kind options) reply h) past → IsPast new → IsLent ms' new many → IsSilent h → KeepsAside l (lent_to by ms' new)
  desk_made ms' many new kind options reply h marks step run now silent = λ holder say.
      desk_aside ms past wakers by l seen lent holder say ms' many new (Asked (MakeSocket kind options) reply h) marks step now silent.joined (same_leaves (control_of past) (after (Asked (MakeSocket kind options) reply h) (control_of past)) (make_stays (control_of past) h kind options reply)) (make_still kind options reply (answers_in h) (control_of past)) (λ i e x. kept holder say i e x) (λ i. refl) (λ c d. refl)
    where
      fits : Fits (control_of past) (Asked (MakeSocket kind options) reply h)
      fits = last_fits past.events (Asked (MakeSocket kind options) reply h) (begun past.workers) (subst (λ (p : Past G N S). IsPast p) step run)

      none_some : None ≡ Some by → ⊥
      none_some f = Prim.grind arith

      kept : (holder : Holding N) → HasWhatTheySay l.caller (moments_of l) holder → (i : ℕ) → holder.holds i ≡ true → (x : Option Kind) → (if is_owner i (made_by reply) then Some kind else x) ≡ x
      kept holder say i e x = of (is_owner i (made_by reply)) refl
        where
          of : (b : Bool) → is_owner i (made_by reply) ≡ b → (if b then Some kind else x) ≡ x
          of true is = absurd (none_some (sym ((made_by_one ms wakers past kind options reply h by lent fits).takes i (owned_by i (made_by reply) is)) ∙ desk_had ms past wakers by l seen lent holder say i e))
          of false is = refl

  -- a socket gets a listener
  pub desk_listened : (ms' : List Mark) (many : ℕ) (new : Past G N S) (o : ObjId) (address : Address) (reply : Reply) (h : Answered N S) → ms' ≡ ms ++ Event by ∷ [] → new ≡ with_event (Asked (Bind o (Tcp address)) reply h) past → IsLent ms' new many → IsSilent h → KeepsAside l (lent_to by ms' new)
  desk_listened ms' many new o address reply h marks step now silent = λ holder say.
      desk_aside ms past wakers by l seen lent holder say ms' many new (Asked (Bind o (Tcp address)) reply h) marks step now silent.joined (same_leaves (control_of past) (after (Asked (Bind o (Tcp address)) reply h) (control_of past)) (listen_stays (control_of past) h o address reply))
      (answered_still (Bind o (Tcp address)) reply (answers_in h) (control_of past) (pushed_between (control_of past).rows (listener_row o.0 (control_of past)))) (λ i e x. refl) (λ i. refl) (λ c d. refl)

  -- a listener gets a session, with a pair that is not made yet
  pub desk_accepted : (ms' : List Mark) (many : ℕ) (new : Past G N S) (o : ObjId) (reply : Reply) (h : Answered N S) → ms' ≡ ms ++ Event by ∷ [] → new ≡ with_event (Asked (Accepted o) reply h) past → IsLent ms' new many → IsSilent h → KeepsAside l (lent_to by ms' new)
  desk_accepted ms' many new o reply h marks step now silent = λ holder say.
      desk_aside ms past wakers by l seen lent holder say ms' many new (Asked (Accepted o) reply h) marks step now silent.joined
      (either_done (Accepted o) h (control_of past) (λ d. LeavesEnds N (control_of past) d) reply (λ some. drawn_leaves (control_of past) (requested (Accepted o) (answers_in h) (control_of past)) _ refl refl refl known) (same_leaves (control_of past) (control_of past) (ends_stay (control_of past))))
      (answered_still (Accepted o) reply (answers_in h) (control_of past) (record { reaps = made.reaps; plugs = made.plugs })) (λ i e x. refl) (λ i. refl) (λ c d. refl)
    where
      known : Known (control_of past)
      known = (let order = lent.order in subst Known (control_is ms past wakers lent) (known_now past.workers (order_of ms past.events) order.run))

      made : StayBetween (control_of past).rows (record (control_of past).rows { objects = (control_of past).rows.objects ++ accepted_row o.0 (control_of past) ∷ [] })
      made = pushed_between (control_of past).rows (accepted_row o.0 (control_of past))

  -- a listener or a session asks to end
  pub desk_over : (ms' : List Mark) (many : ℕ) (new : Past G N S) (o : ObjId) (h : Answered N S) → ms' ≡ ms ++ Event by ∷ [] → new ≡ with_event (Asked (AskOver o) Done h) past → IsLent ms' new many → IsSilent h → is_between (obj (control_of past).rows o.0) ≡ false → KeepsAside l (lent_to by ms' new)
  desk_over ms' many new o h marks step now silent out = λ holder say.
      desk_aside ms past wakers by l seen lent holder say ms' many new (Asked (AskOver o) Done h) marks step now silent.joined (same_leaves (control_of past) (after (Asked (AskOver o) Done h) (control_of past)) (over_stays (control_of past) h o))
      (written_between (control_of past).rows o.0 (link_after AsksOver (obj (control_of past).rows o.0)) (λ between. absurd (clash _ between out)) refl) (λ i e x. refl) (λ i. refl) (λ c d. refl)

  -- the caller looks
  pub desk_looked : (ms' : List Mark) (sight : Sight) → ms' ≡ ms ++ Seen sight ∷ [] → sight.by ≡ by → IsLent ms' past wakers → KeepsAside l (lent_to by ms' past)
  desk_looked ms' sight marks caller now = λ h say.
      desk_looks ms past wakers by l seen lent h say ms' past sight h marks caller refl now (desk_has ms past wakers by l seen lent h say)
      (subst (λ (ts : List (EndId × EndState)). TurnsBy ts h h) (sym (in_none (control_of past) (control_of past) (λ e. refl))) (record { turns = sym (append-nil h.turns); sealed = sym (append-nil h.sealed) }))
      (λ more e. sym (append-nil h.joined) ∙ ap (λ (ds : List (Did N S)). h.joined ++ flat_map came_in ds) (append_cancel_left past.events [] more (append-nil past.events ∙ e)), record { holds = λ i stays. refl; kinds = λ i stays. refl; had = λ i e. inl (e, refl); reaped = λ i between taken lives. absurd (clash _ between taken); taken_in = λ i came. absurd (clash _ came (no_plug_between (obj (control_of past).rows i))) }, record { one = λ did e. absurd (none_more (append_cancel_left past.events [] (did ∷ []) (append-nil past.events ∙ e))); none = λ e. refl })
