-- What one call of an open socket leaves of the steps past.
use Rattle.std.proofs.Common.{◌≡◌, ◌≤◌, ◌==◌, ◌∙◌, ◌++◌, ℕ, Bool, true, false, List, [], ◌∷◌, All, Some, length, append-nil, append_assoc, refl, sym, ap, subst, inl, inr, arith}
use Rattle.std.specs.Prelude.{flat_map}
use Rattle.std.specs.List.{AllByRecursion}
use Rattle.std.proofs.lemmas.List.Elements.{All-head, All-tail}
use Rattle.zq_base.specs.declared.ids.EndId.{EndId}
use Rattle.zq_base.specs.declared.kind.Kind.{Kind}
use Rattle.zq_base.specs.Ends.{other_end}
use Rattle.msg_pipe.specs.Known.{Known, IsThere}
use Rattle.spec_pattern.specs.PipeStep.{PipeStep}
use Rattle.spec_control.specs.declared.entry.Did.{Did}
use Rattle.spec_control.specs.declared.entry.Did.TheVariants.{Asked as DidAsk, Delivered, Delimited}
use Rattle.spec_control.specs.declared.entry.Item.{Item}
use Rattle.spec_control.specs.declared.entry.Item.TheVariants.{Event, Seen}
use Rattle.spec_control.specs.declared.entry.Joining.{Joining}
use Rattle.spec_control.specs.declared.request.Req.{Req}
use Rattle.spec_control.specs.declared.request.Reply.{Reply}
use Rattle.spec_control.specs.Control.{Control, begun}
use Rattle.spec_control.specs.ControlRun.{FitsItem, after_all, after_item}
use Rattle.spec_control.specs.Names.{name_of, joined_in, AreNamed, FitsNames, IsTold}
use Rattle.spec_control.specs.Held.{Held, ends_over, ends_then}
use Rattle.spec_control.specs.Moments.{Moment, items_in, moments_from}
use Rattle.ctl_plane.specs.Past.{control_of}
use Rattle.desk.specs.declared.given.Given.{Given}
use Rattle.desk.specs.Holding.{Holding, read_in}
use Rattle.desk.specs.Making.{IsMadeFor}
use Rattle.desk.specs.Desk.{came_with, counts_with}
use Rattle.spec_run.specs.Act.{Act, steps_in}
use Rattle.spec_run.specs.Event.{acts_said, seals_in, IsRequest}
use Rattle.spec_run.specs.OwnedRun.{AreCountedBy}
use Rattle.end_table.proofs.RowLemmas.{some_same}
use Rattle.end_table.specs.Changes.{AreMakings, AreMadeFor}
use Rattle.end_table.specs.Counting.{counts_of}
use Rattle.sock_core.specs.declared.sock.SockCore.{SockCore}
use Rattle.sock_core.specs.Came.{IsOneOf, AreChangedAt}
use Rattle.sock_core.specs.Has.{holding_in}
use Rattle.sock_calls.specs.Calls.{counts_by}
use Rattle.plain_desk.specs.Lent.{Lent, IsOneOrder, moments_of}
use Rattle.socket_laws.specs.Behind.{IsAsBefore, IsLastItem}
use Rattle.socket_laws.proofs.LastLemmas.{moments_are_last}
use Rattle.socket_laws.proofs.SendLemmas.{no_moment_no_item}
use Rattle.socket_laws.specs.Open.{IsOf, IsOfItem}
use Rattle.socket_laws.specs.Sides.{AreAtEnds}
use Rattle.socket_laws.proofs.SideLemmas.{sides_stand_on}
use Rattle.socket_laws.specs.Standing.{PastStands}
use Rattle.socket_laws.specs.Ends.{AreHeldFor}
use Rattle.socket_laws.specs.Places.{IsOwnPlace}
use Rattle.socket_laws.specs.OwnQuiet.{may_pair_by}
use Rattle.socket_laws.proofs.HoldLemmas.{made_pipes_hold}
use Rattle.socket_laws.proofs.PlaceLemmas.{places_are_held}
use Rattle.socket_laws.proofs.OwnQuietLemmas.{others_make_none}
use Rattle.socket_laws.specs.Changes.{IsOfPipes, IsPlaceNamed, AreChangesNamed, NamesGoOn}
use Rattle.socket_laws.specs.Made.{AreMadeAll}
use Rattle.socket_laws.proofs.CountLemmas.{Counts, TellsIn, TellsCounts, item_counted, still_counted}
use Rattle.socket_laws.proofs.MadeLemmas.{made_names_go_on}
use Rattle.socket_laws.proofs.QuietLemmas.{quiet_calls_go_on}
use Rattle.socket_laws.proofs.SaidLemmas.{step_seals}
use Rattle.socket_laws.specs.Calling.{IsExact, OpensBy, opens_none, opens_some, PastAt, StandsOver, IsCalledBy, AddsItem, AddsNone, LeavesIt}
use Rattle.socket_laws.specs.CallLaws.{SocketCallsStand, StillCallsStand, ClosesStand}
use Rattle.socket_laws.proofs.ChangedLemmas.{makings_changed, makings_of_pipes}
use Rattle.socket_laws.proofs.HalfLemmas.{half_counted}
use Rattle.socket_laws.proofs.DeskJoinLemmas.{Behind, came_behind}
use Rattle.socket_laws.proofs.JoinedLemmas.{all_of, made_for}
use Rattle.socket_laws.proofs.LawLemmas.{settled}
use Rattle.socket_laws.proofs.OverLemmas as over
use Rattle.socket_laws.proofs.ThereLemmas.{changes_there}

-- ---- lists

one_at : {A : Type 0} (P : A → Type 0) (xs : List A) → All P xs → (a : A) → IsOneOf xs a → P a
one_at P [] all a one = absurd one
one_at P (x ∷ xs) all a (inl same) = subst P same (All-head P x xs all)
one_at P (x ∷ xs) all a (inr rest) = one_at P xs (All-tail P x xs all) a rest

module _ {N T : Type 0} where
  -- the ends of an object behind an item more
  ends_more : (o : ℕ) (hs : List (Held N)) (xs : List (Moment N T)) (m : Moment N T) → ends_over o hs (items_in (xs ++ m ∷ [])) ≡ ends_then o m.item (ends_over o hs (items_in xs))
  ends_more o hs [] m = refl
  ends_more o hs (x ∷ xs) m = ends_more o (ends_then o x.item hs) xs m

  -- the last of named items tells the names as they were given
  last_named : (past items : List (Item N T)) (item : Item N T) → AreNamed past (items ++ item ∷ []) → FitsNames (past ++ items) item
  last_named past [] item named = subst (λ (l : List (Item N T)). FitsNames l item) (sym (append-nil past)) named.0
  last_named past (x ∷ items) item named = subst (λ (l : List (Item N T)). FitsNames l item) (append_assoc past (x ∷ []) items) (last_named (past ++ x ∷ []) items item named.1)

module _ (C W : Type 0) {S O I N : Type 0} (K : Known S O I N) (kind : C → Kind) (T : Type 0) (made : Bool) (may_make : EndId → ℕ → ℕ → Type 0) (d : Lent (Given N O I) N T) (first : S) (a : SockCore C W N O I) (e : Lent (Given N O I) N T) (now : S) (b : SockCore C W N O I)
    (called : IsCalledBy K kind made may_make d first a e now b) where
  abbrev o : ℕ
  o = a.number.0

  abbrev c : Control
  c = after_all d.items (begun d.past.workers)

  abbrev had : Holding N
  had = holding_in (kind a.kind) a

  abbrev has : Holding N
  has = holding_in (kind b.kind) b

  there : (n : N) → IsThere K first n → IsThere K now n
  there = changes_there K b.ends.places.items called.does.changes first now called.does.does

  -- ---- over an item

  module _ (m : Moment N T) (adds : AddsItem K kind made may_make d first a e m) where
    before : IsOneOrder d
    before = adds.call.before

    behind : IsOneOrder e
    behind = adds.call.behind

    last : IsLastItem d e m
    last = moments_are_last (Given N O I) N T d e m adds.call

    found : m.found ≡ after_all d.items (begun d.past.workers)
    found = last.found ∙ before.control

    workers : e.past.workers ≡ d.past.workers
    workers = adds.call.grows.workers

    is_it : m ≡ record { found = after_all d.items (begun d.past.workers); item = m.item }
    is_it = ap (λ (x : Control). let y : Moment N T = record { found = x; item = m.item } in y) found

    moments : moments_of e ≡ moments_of d ++ moments_from (after_all d.items (begun d.past.workers)) (m.item ∷ [])
    moments = adds.call.one_more ∙ ap (λ (x : Moment N T). moments_of d ++ x ∷ []) is_it

    few : length (m.item ∷ []) ≤ 1
    few = omega arith

    fits : FitsItem (after_all d.items (begun d.past.workers)) m.item
    fits = (over.rest d e before behind workers (m.item ∷ []) last.items).0

    of_it : IsOfItem a.number.0 (after_all d.items (begun d.past.workers)) m.item
    of_it = subst (λ (x : Control). IsOfItem a.number.0 x m.item) found adds.of_it

    acts_are : flat_map acts_said (moments_from (after_all d.items (begun d.past.workers)) (m.item ∷ [])) ≡ acts_said m
    acts_are = append-nil (acts_said (record { found = after_all d.items (begun d.past.workers); item = m.item })) ∙ ap acts_said (sym is_it)

    fits_names : FitsNames d.items m.item
    fits_names = last_named [] d.items m.item (subst (AreNamed []) last.items behind.order.named)

    held : AreHeldFor (after_all d.items (begun d.past.workers)) (name_of d.items) a.number.0 a.ends.places.items
    held = places_are_held N T I d.past.workers d.items before.order.run (name_of d.items) o had
        (over.had_ends K kind made may_make d first a e now b called before behind workers (m.item ∷ []) last.items few moments) a.ends.places.items (over.own_places kind a o refl)

    -- an acknowledgement tells the counts of the steps past
    tells : IsExact K → (past : List PipeStep) → PastStands K (after_all d.items (begun d.past.workers)) (name_of d.items) first past → TellsCounts past m.item
    tells exact steps stands = by m.item of_it adds.counts
      where
        by_did : (did : Did N T) → IsOf o c did → counts_with K.out_name (counts_by K first (Some a)) had (Event (record { by = 0; did = did })) → TellsIn steps did
        by_did (DidAsk req reply h) of counts = tt
        by_did (Delivered slot letter h) of counts = λ x told word settles.
            let k = counts x word in
            subst (Counts steps x) (some_same (counts_of K first a.ends x k.writer) told (sym k.told_is ∙ settles))
            (half_counted K first a.ends called.sound T (settled N T) exact.one_out exact.one_in d.past.workers d.items before.order.run (name_of d.items) o held steps stands x k.writer
            (ap (λ (hs : List (Held N)). read_in hs x) (sym (over.own_places kind a o refl).ends) ∙ ap (λ (i : ℕ). read_in (had.ends i) x) (sym of) ∙ k.pipe))
        by_did (Delimited x h) of counts = tt

        by : (item : Item N T) → IsOfItem o c item → counts_with K.out_name (counts_by K first (Some a)) had item → TellsCounts steps item
        by (Event entry) of counts = by_did entry.did of counts
        by (Seen sight) of counts = tt

    counted : IsExact K → (past : List PipeStep) → PastAt K d first past → AreCountedBy past (control_of d.past).settlements → AreCountedBy (past ++ steps_in (acts_said m)) (control_of e.past).settlements
    counted exact steps stands all =
        subst (λ (l : List PipeStep). AreCountedBy (steps ++ l) (control_of e.past).settlements) (sym (step_seals N T (seals_in m)))
        (still_counted steps (seals_in m) (control_of e.past).settlements
        (subst (λ (x : Control). AreCountedBy steps x.settlements) (sym (over.control_now d e before behind workers (m.item ∷ []) last.items))
        (item_counted steps c m.item fits (tells exact steps (subst (λ (x : Control). PastStands K x (name_of d.items) first steps) before.control stands))
        (subst (λ (x : Control). AreCountedBy steps x.settlements) before.control all))))

    at_ends : AreAtEnds (control_of e.past) (λ i. i == a.number.0) (acts_said m)
    at_ends = subst (λ (x : Control). AreAtEnds x (λ i. i == o) (acts_said m)) (sym behind.control)
        ((sides_stand_on N T).said e.past.workers e.items behind.order.run m (last.left ∙ behind.control) (λ i. i == o))

    -- by what was done to the pipes
    stands_by : AllByRecursion (λ x. IsOfPipes (after_all d.items (begun d.past.workers)) (after_item m.item (after_all d.items (begun d.past.workers))) x.0) called.does.changes → AreChangesNamed (name_of e.items) b.ends.places.items called.does.changes
        → NamesGoOn K (after_all d.items (begun d.past.workers)) (after_item m.item (after_all d.items (begun d.past.workers))) called.does.changes (name_of d.items) (name_of e.items)
        → AreChangedAt (λ k p. IsOwnPlace (control_of e.past) (name_of e.items) a.number.0 p) 0 b.ends.places.items called.does.changes
        → StandsOver K a.number.0 d first (acts_said m) e now × LeavesIt K kind a.number.0 d e b called.does.changes
    stands_by of_them named names_go places = (
      record {
        there = there;
        past = λ exact steps stands. subst (λ (acts : List (Act N T)). PastAt K e now (steps ++ steps_in acts)) acts_are
            (over.past_goes K kind made may_make d first a e now b called before behind workers (m.item ∷ []) last.items few moments of_them named names_go exact steps stands);
        counted = counted;
        at_ends = at_ends;
      },
      record {
        were_asked = over.were_asked K kind made may_make d first a e now b called before behind workers (m.item ∷ []) last.items few moments;
        places = places;
        names_go = subst (λ (x : Control). NamesGoOn K x (control_of e.past) called.does.changes (name_of d.items) (name_of e.items)) (sym before.control)
            (subst (λ (x : Control). NamesGoOn K c x called.does.changes (name_of d.items) (name_of e.items)) (sym (over.control_now d e before behind workers (m.item ∷ []) last.items)) names_go);
      },
    )

    quiet_names : may_pair_by m.item ≡ false → NamesGoOn K (after_all d.items (begun d.past.workers)) (after_item m.item (after_all d.items (begun d.past.workers))) called.does.changes (name_of d.items) (name_of (d.items ++ m.item ∷ []))
    quiet_names quiet = quiet_calls_go_on K c (after_item m.item c) (name_of d.items) (name_of (d.items ++ m.item ∷ [])) (others_make_none N T d.past.workers d.items m.item before.order.run fits quiet).1 called.does.changes

    -- where no more was done to the pipes than to make some
    closed_stands : AreMakings called.does.changes → may_pair_by m.item ≡ false → StandsOver K a.number.0 d first (acts_said m) e now × LeavesIt K kind a.number.0 d e b called.does.changes
    closed_stands makings quiet = stands_by (makings_of_pipes c (after_item m.item c) called.does.changes makings)
        (makings_changed (λ k p. IsPlaceNamed (name_of e.items) p) 0 b.ends.places.items called.does.changes makings)
        (subst (λ (l : List (Item N T)). NamesGoOn K c (after_item m.item c) called.does.changes (name_of d.items) (name_of l)) (sym last.items) (quiet_names quiet))
        (makings_changed (λ k p. IsOwnPlace (control_of e.past) (name_of e.items) o p) 0 b.ends.places.items called.does.changes makings)

    -- where the socket is open still
    module _ (holds : (holding_in (kind b.kind) b).holds a.number.0 ≡ true) where
      ends_now : (holding_in (kind b.kind) b).ends a.number.0 ≡ ends_then a.number.0 m.item ((holding_in (kind a.kind) a).ends a.number.0)
      ends_now =
          called.keeps.has.ends o holds ∙ ap (λ (l : List (Moment N T)). ends_over o [] (items_in l)) adds.call.one_more ∙ ends_more o [] (moments_of d) m
          ∙ ap (ends_then o m.item) (sym (called.has.ends o called.holds))

      is_behind : Behind (flat_map (λ x. came_with x.item) (moments_from (after_all d.items (begun d.past.workers)) (m.item ∷ []))) ((holding_in (kind a.kind) a).ends a.number.0) ((holding_in (kind b.kind) b).ends a.number.0)
      is_behind = subst (λ (js : List (Joining N)). Behind js (had.ends o) (has.ends o)) (sym (append-nil (came_with m.item)))
          (subst (Behind (came_with m.item) (had.ends o)) (sym ends_now) (came_behind o c m.item fits of_it (had.ends o)))

      -- the ends that a request joined, each with halves of the pipes that were made for it
      made_all : (req : Req) (reply : Reply) → IsRequest req reply m → made ≡ true → ((x : EndId) (written read : ℕ) → may_make x written read → IsMadeFor (after_all d.items (begun d.past.workers)) req x written read)
          → AreMadeAll K (after_all d.items (begun d.past.workers)) req called.does.changes (joined_in m.item)
      made_all req reply is is_made may = subst (λ (x : Item N T). All Q (joined_in x)) (sym is.item_is) (all_of Q is.answered.joined each)
        where
          Q : Joining N → Type 0
          Q j = AreMadeFor K (IsMadeFor c req) called.does.changes j.end j.written j.read

          those : flat_map (λ x. came_with x.item) (moments_from c (m.item ∷ [])) ≡ is.answered.joined
          those = append-nil (came_with m.item) ∙ ap came_with is.item_is

          each : (j : Joining N) → IsOneOf is.answered.joined j → Q j
          each j one =
              let told : IsTold (d.items ++ m.item ∷ []) j = one_at (IsTold (d.items ++ m.item ∷ [])) is.answered.joined (subst (λ (x : Item N T). All (IsTold (d.items ++ m.item ∷ [])) (joined_in x)) is.item_is fits_names) j one in
              made_for d.past.workers d.items (m.item ∷ []) before.order.run (over.on K kind made may_make d first a e now b called before behind workers (m.item ∷ []) last.items few moments) o (name_of d.items) (name_of e.items) had has
              (over.had_ends K kind made may_make d first a e now b called before behind workers (m.item ∷ []) last.items few moments)
              (over.has_ends K kind made may_make d first a e now b called before behind workers (m.item ∷ []) last.items few moments holds is_behind)
              a.ends.places.items b.ends.places.items (over.own_places kind a o refl) (over.own_places kind b o called.number) called.others.places
              (flat_map (λ x. came_with x.item) (moments_from c (m.item ∷ [])))
              (over.joined K kind made may_make d first a e now b called before behind workers (m.item ∷ []) last.items few moments holds is_behind)
              K may_make (IsMadeFor c req) called.does.changes (called.does.tied is_made) may j (subst (λ (l : List (Joining N)). IsOneOf l j) (sym those) one)
              (ap (λ (l : List (Item N T)). name_of l j.end) last.items ∙ told.written) (ap (λ (l : List (Item N T)). name_of l (other_end j.end)) last.items ∙ told.read)

      names_go : NamesGoOn K (after_all d.items (begun d.past.workers)) (after_item m.item (after_all d.items (begun d.past.workers))) called.does.changes (name_of d.items) (name_of e.items)
      names_go = subst (λ (l : List (Item N T)). NamesGoOn K c (after_item m.item c) called.does.changes (name_of d.items) (name_of l)) (sym last.items) (by adds.opens)
        where
          by : OpensBy made may_make o m → NamesGoOn K c (after_item m.item c) called.does.changes (name_of d.items) (name_of (d.items ++ m.item ∷ []))
          by (opens_none quiet) = quiet_names quiet
          by (opens_some is_made req reply is socket asks may) =
              made_names_go_on K T (made_pipes_hold N T) d.past.workers d.items m.item before.order.run fits fits_names req reply (record { by = is.by; answered = is.answered; item_is = is.item_is }) socket called.does.changes
              (made_all req reply is is_made (λ x written read may_be. subst (λ (y : Control). IsMadeFor y req x written read) found (may x written read may_be)))

      item_stands : StandsOver K a.number.0 d first (acts_said m) e now × LeavesIt K kind a.number.0 d e b called.does.changes
      item_stands = stands_by
          (over.of_them K kind made may_make d first a e now b called before behind workers (m.item ∷ []) last.items few moments holds is_behind)
          (over.named K kind made may_make d first a e now b called before behind workers (m.item ∷ []) last.items few moments holds is_behind) names_go
          (over.places K kind made may_make d first a e now b called before behind workers (m.item ∷ []) last.items few moments holds is_behind)

  -- ---- where the order has no item more

  module _ (holds : (holding_in (kind b.kind) b).holds a.number.0 ≡ true) (adds : AddsNone d e) where
    same_as : IsAsBefore d e
    same_as = no_moment_no_item (Given N O I) N T d e adds.before adds.behind adds.grows adds.same

    no_items : e.items ≡ d.items ++ []
    no_items = same_as.items ∙ sym (append-nil d.items)

    no_moments : moments_of e ≡ moments_of d ++ moments_from (after_all d.items (begun d.past.workers)) []
    no_moments = adds.same ∙ sym (append-nil (moments_of d))

    none_few : length {A = Item N T} [] ≤ 1
    none_few = omega arith

    same_ends : (holding_in (kind b.kind) b).ends a.number.0 ≡ (holding_in (kind a.kind) a).ends a.number.0
    same_ends = called.keeps.has.ends o holds ∙ ap (λ (l : List (Moment N T)). ends_over o [] (items_in l)) adds.same ∙ sym (called.has.ends o called.holds)

    none_behind : Behind [] ((holding_in (kind a.kind) a).ends a.number.0) ((holding_in (kind b.kind) b).ends a.number.0)
    none_behind = inl refl

    same_names : NamesGoOn K (after_all d.items (begun d.past.workers)) (after_all d.items (begun d.past.workers)) called.does.changes (name_of d.items) (name_of e.items)
    same_names = quiet_calls_go_on K c c (name_of d.items) (name_of e.items) (λ p. ap (λ (l : List (Item N T)). name_of l p) same_as.items) called.does.changes

    none_stands : StandsOver K a.number.0 d first [] e now × LeavesIt K kind a.number.0 d e b called.does.changes
    none_stands = (
      record {
        there = there;
        past = λ exact steps stands.
            over.past_goes K kind made may_make d first a e now b called adds.before adds.behind adds.grows.workers [] no_items none_few no_moments
            (over.of_them K kind made may_make d first a e now b called adds.before adds.behind adds.grows.workers [] no_items none_few no_moments holds none_behind)
            (over.named K kind made may_make d first a e now b called adds.before adds.behind adds.grows.workers [] no_items none_few no_moments holds none_behind) same_names exact steps stands;
        counted = λ exact steps stands all. subst (λ (l : List PipeStep). AreCountedBy l (control_of e.past).settlements) (sym (append-nil steps)) (subst (λ (x : Control). AreCountedBy steps x.settlements) (sym same_as.control) all);
        at_ends = tt;
      },
      record {
        were_asked = over.were_asked K kind made may_make d first a e now b called adds.before adds.behind adds.grows.workers [] no_items none_few no_moments;
        places = over.places K kind made may_make d first a e now b called adds.before adds.behind adds.grows.workers [] no_items none_few no_moments holds none_behind;
        names_go = subst (λ (x : Control). NamesGoOn K x (control_of e.past) called.does.changes (name_of d.items) (name_of e.items)) (sym adds.before.control)
            (subst (λ (x : Control). NamesGoOn K c x called.does.changes (name_of d.items) (name_of e.items)) (sym (same_as.control ∙ adds.before.control)) same_names);
      },
    )

pub socket_calls_stand : (C W : Type 0) {S O I N : Type 0} (K : Known S O I N) (kind : C → Kind) (T : Type 0) (made : Bool) (may_make : EndId → ℕ → ℕ → Type 0) → SocketCallsStand C W K kind T made may_make
socket_calls_stand C W K kind T made may_make d first a e now b called holds m adds = item_stands C W K kind T made may_make d first a e now b called m adds holds

pub still_calls_stand : (C W : Type 0) {S O I N : Type 0} (K : Known S O I N) (kind : C → Kind) (T : Type 0) (made : Bool) (may_make : EndId → ℕ → ℕ → Type 0) → StillCallsStand C W K kind T made may_make
still_calls_stand C W K kind T made may_make d first a e now b called holds adds = none_stands C W K kind T made may_make d first a e now b called holds adds

pub closes_stand : (C W : Type 0) {S O I N : Type 0} (K : Known S O I N) (kind : C → Kind) (T : Type 0) (made : Bool) (may_make : EndId → ℕ → ℕ → Type 0) → ClosesStand C W K kind T made may_make
closes_stand C W K kind T made may_make d first a e now b called makings m adds quiet = closed_stands C W K kind T made may_make d first a e now b called m adds makings quiet
