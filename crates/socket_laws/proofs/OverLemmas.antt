-- A call of a socket on the control plane, over the items that it added: what it did to pipes was done to such as may be, at places of ends of its, and the steps past stand with those of the items.
use Rattle.std.proofs.Common.{◌≡◌, ◌≤◌, ◌∙◌, ◌==◌, ◌++◌, ℕ, Bool, true, false, List, [], Some, filter, length, map, refl, sym, ap, subst, eq-eqb, if◌then◌else◌}
use Rattle.std.specs.Prelude.{flat_map}
use Rattle.std.specs.List.{AllByRecursion}
use Rattle.std.proofs.Math.Logic.{∥∥₁_elim}
use Rattle.std.proofs.lemmas.List.{append_cancel_left}
use Rattle.std.proofs.lemmas.Grind.{flat_map-append}
use Rattle.zq_base.specs.declared.ids.EndId.{EndId}
use Rattle.zq_base.specs.declared.kind.Kind.{Kind}
use Rattle.msg_pipe.specs.Known.{Known}
use Rattle.spec_pattern.specs.PipeStep.{PipeStep}
use Rattle.spec_control.specs.declared.entry.Item.{Item}
use Rattle.spec_control.specs.declared.entry.Joining.{Joining}
use Rattle.spec_control.specs.Place.{is_here}
use Rattle.spec_control.specs.Control.{Control, begun, owner_of, place_of}
use Rattle.spec_control.specs.ControlRun.{IsControlRun, after_all}
use Rattle.spec_control.specs.Names.{name_in, name_of, named_in}
use Rattle.control_laws.specs.AttachedOnce.{AreOnce}
use Rattle.control_laws.proofs.AttachedOnceLemmas.{ends_are_attached_once}
use Rattle.control_laws.proofs.BoundLemmas.{run_splits}
use Rattle.spec_control.specs.Held.{Held}
use Rattle.spec_control.specs.Moments.{Moment, moments_from}
use Rattle.ctl_plane.specs.Past.{control_of}
use Rattle.desk.specs.declared.given.Given.{Given}
use Rattle.desk.specs.Holding.{Holding}
use Rattle.desk.specs.Lent.{HasEnds}
use Rattle.desk.specs.Desk.{came_with}
use Rattle.control_laws.proofs.HaveLemmas.{lent_holders_have_it}
use Rattle.spec_run.specs.Act.{steps_in}
use Rattle.spec_run.specs.Event.{acts_said}
use Rattle.end_table.specs.declared.table.Place.{Place}
use Rattle.end_table.specs.Places.{place_at, held_in}
use Rattle.sock_core.specs.declared.sock.SockCore.{SockCore}
use Rattle.sock_core.specs.Came.{JoinedAt, AreChangedAt, HasCome}
use Rattle.sock_core.specs.Has.{holding_in}
use Rattle.sock_core.specs.Standing.{standing_joins}
use Rattle.sock_core.specs.Way.{oldest_first}
use Rattle.plain_desk.specs.Lent.{Lent, IsOneOrder, moments_of}
use Rattle.socket_laws.specs.Standing.{PastStands}
use Rattle.socket_laws.specs.Places.{is_end_of, IsOwnPlace, AreItsPlaces, HasPlaces, Keeps}
use Rattle.socket_laws.proofs.PlaceLemmas.{led_on, own_places_stay, own_places_go_on}
use Rattle.socket_laws.specs.Asked.{WereAsked}
use Rattle.socket_laws.specs.Changes.{IsOfPipes, IsPlaceNamed, AreChangesNamed, NamesGoOn}
use Rattle.socket_laws.specs.OfPipes.{AreHeldSince}
use Rattle.socket_laws.specs.Said.{sealed_with}
use Rattle.socket_laws.proofs.MadeLemmas.{name_kept}
use Rattle.socket_laws.proofs.NamedLemmas.{names_are_made}
use Rattle.socket_laws.specs.Calling.{IsExact, PastAt, IsCalledBy, told_to_seal}
use Rattle.socket_laws.proofs.ChangedLemmas.{bool_set, all_changed_prop, changed_stood, changed_there}
use Rattle.socket_laws.proofs.DeskJoinLemmas.{Behind, AreJoined, are_joined}
use Rattle.socket_laws.proofs.JoinedLemmas.{joined_held, joined_other}
use Rattle.socket_laws.proofs.LawLemmas.{calls_go, of_pipes, sealed_once}
use Rattle.socket_laws.proofs.OnceLemmas.{once_filter}

-- ---- the order

module _ {G N T : Type 0} (d e : Lent G N T) (before : IsOneOrder d) (behind : IsOneOrder e) (workers : e.past.workers ≡ d.past.workers) (more : List (Item N T)) (items : e.items ≡ d.items ++ more) where
  abbrev pub led : Control
  led = after_all d.items (begun d.past.workers)

  pub whole : IsControlRun (begun d.past.workers) (d.items ++ more)
  whole = subst (λ (l : List (Item N T)). IsControlRun (begun d.past.workers) l) items (subst (λ (n : ℕ). IsControlRun (begun n) e.items) workers behind.order.run)

  pub rest : IsControlRun (after_all d.items (begun d.past.workers)) more
  rest = (run_splits d.items more (begun d.past.workers) whole).1

  pub state : after_all e.items (begun e.past.workers) ≡ after_all more (after_all d.items (begun d.past.workers))
  state = ap (λ (n : ℕ). after_all e.items (begun n)) workers ∙ ap (λ (l : List (Item N T)). after_all l (begun d.past.workers)) items ∙ led_on d.items more (begun d.past.workers)

  pub control_now : control_of e.past ≡ after_all more (after_all d.items (begun d.past.workers))
  control_now = behind.control ∙ state

  -- a pipe keeps its name
  pub names_stay : Keeps (name_of d.items) (name_of e.items)
  names_stay p n h =
      ap (λ (l : List (Item N T)). name_of l p) items ∙ ap (name_in p) (flat_map-append named_in d.items more)
      ∙ name_kept p (flat_map named_in d.items) (flat_map named_in more) n h

-- ---- the call

-- a socket's ends are at its places
pub own_places : {C W N O I : Type 0} (kind : C → Kind) (s : SockCore C W N O I) (o : ℕ) → s.number.0 ≡ o → HasPlaces (holding_in (kind s.kind) s) o s.ends.places.items
own_places kind s o is = record { ends = ap (λ (b : Bool). if b then held_in s.ends.places.items else []) (eq-eqb o s.number.0 (sym is)); writes = λ e. refl }

module _ {C W N O I S T : Type 0} (K : Known S O I N) (kind : C → Kind) where
  module _ (made : Bool) (may_make : EndId → ℕ → ℕ → Type 0) (d : Lent (Given N O I) N T) (first : S) (a : SockCore C W N O I) (e : Lent (Given N O I) N T) (now : S) (b : SockCore C W N O I) (called : IsCalledBy K kind made may_make d first a e now b)
      (before : IsOneOrder d) (behind : IsOneOrder e) (workers : e.past.workers ≡ d.past.workers) (more : List (Item N T)) (items : e.items ≡ d.items ++ more) (few : length more ≤ 1)
      (moments : moments_of e ≡ moments_of d ++ moments_from (after_all d.items (begun d.past.workers)) more) where
    abbrev pub c : Control
    c = after_all d.items (begun d.past.workers)

    abbrev pub c_now : Control
    c_now = after_all more (after_all d.items (begun d.past.workers))

    abbrev pub o : ℕ
    o = a.number.0

    abbrev pub had : Holding N
    had = holding_in (kind a.kind) a

    abbrev pub has : Holding N
    has = holding_in (kind b.kind) b

    abbrev pub ms : List (Moment N T)
    ms = moments_from (after_all d.items (begun d.past.workers)) more

    -- the ends that joined in the items
    abbrev pub js : List (Joining N)
    js = flat_map (λ m. came_with m.item) (moments_from (after_all d.items (begun d.past.workers)) more)

    pub on : IsControlRun (after_all d.items (begun d.past.workers)) more
    on = rest d e before behind workers more items

    pub had_ends : HasEnds (name_of d.items) (after_all d.items (begun d.past.workers)).rows.pairs (after_all d.items (begun d.past.workers)).attached (after_all d.items (begun d.past.workers)).reasons (holding_in (kind a.kind) a) a.number.0
    had_ends = lent_holders_have_it N T d.past.workers d.items before.order.run before.order.named before.order.by d.caller (holding_in (kind a.kind) a) called.has a.number.0 called.holds

    pub joins : standing_joins b.joins.items ≡ standing_joins a.joins.items ++ flat_map (λ m. came_with m.item) (moments_from (after_all d.items (begun d.past.workers)) more)
    joins = called.keeps.came ms moments

    grown : told_to_seal b ≡ told_to_seal a ++ sealed_with (moments_from (after_all d.items (begun d.past.workers)) more)
    grown = (called.keeps.turned ms moments).sealed

    asked : WereAsked (after_all d.items (begun d.past.workers)) (told_to_seal a)
    asked = subst (λ (x : Control). WereAsked x (told_to_seal a)) before.control called.were_asked

    pub were_asked : WereAsked (control_of e.past) (told_to_seal b)
    were_asked =
        subst (λ (x : Control). WereAsked x (told_to_seal b)) (sym (control_now d e before behind workers more items))
        (subst (WereAsked (after_all more (after_all d.items (begun d.past.workers)))) (sym grown) (sealed_once N T d.past.workers d.items more before.order.run on (told_to_seal a) asked).1)

    -- where the changes were of such pipes as may be, and of such names, the steps past go on
    pub past_goes : AllByRecursion (λ x. IsOfPipes (after_all d.items (begun d.past.workers)) (after_all more (after_all d.items (begun d.past.workers))) x.0) called.does.changes
        → AreChangesNamed (name_of e.items) b.ends.places.items called.does.changes
        → NamesGoOn K (after_all d.items (begun d.past.workers)) (after_all more (after_all d.items (begun d.past.workers))) called.does.changes (name_of d.items) (name_of e.items)
        → IsExact K → (past : List PipeStep) → PastAt K d first past → PastAt K e now (past ++ steps_in (flat_map acts_said (moments_from (after_all d.items (begun d.past.workers)) more)))
    past_goes of_them named names_go exact past stands =
        subst (λ (x : Control). PastStands K x (name_of e.items) now (past ++ steps_in (flat_map acts_said ms))) (sym (control_now d e before behind workers more items))
        (calls_go K T exact d.past.workers d.items more before.order.run on (name_of d.items) (name_of e.items) b.ends.places.items (told_to_seal a) (told_to_seal b) first now past
        (record {
          names_made = names_are_made N T d.past.workers d.items before.order.run;
          changes = called.does.changes;
          named = named;
          names_go = names_go;
          of_pipes = of_them;
          does = called.does.does;
          seals = called.does.seals;
          grown = grown;
        }) asked (subst (λ (x : Control). PastStands K x (name_of d.items) first past) before.control stands)).0

    -- a socket that is open still
    module _ (holds : (holding_in (kind b.kind) b).holds a.number.0 ≡ true) (is_behind : Behind (flat_map (λ m. came_with m.item) (moments_from (after_all d.items (begun d.past.workers)) more)) ((holding_in (kind a.kind) a).ends a.number.0) ((holding_in (kind b.kind) b).ends a.number.0)) where
      pub has_ends : HasEnds (name_of e.items) (after_all more (after_all d.items (begun d.past.workers))).rows.pairs (after_all more (after_all d.items (begun d.past.workers))).attached
          (after_all more (after_all d.items (begun d.past.workers))).reasons (holding_in (kind b.kind) b) a.number.0
      has_ends = subst (λ (x : Control). HasEnds (name_of e.items) x.rows.pairs x.attached x.reasons has o) (state d e before behind workers more items)
          (lent_holders_have_it N T e.past.workers e.items behind.order.run behind.order.named behind.order.by e.caller has called.keeps.has o holds)

      once_had : AreOnce (map (λ (x : Held N). x.end) ((holding_in (kind b.kind) b).ends a.number.0))
      once_had = subst AreOnce (sym has_ends.ends)
          (once_filter (λ x. is_here (place_of c_now x)) (filter (λ x. owner_of c_now x == o) c_now.attached)
          (once_filter (λ x. owner_of c_now x == o) c_now.attached
          (subst (λ (x : Control). AreOnce x.attached) (led_on d.items more (begun d.past.workers)) (ends_are_attached_once N T d.past.workers (d.items ++ more) (whole d e before behind workers more items)))))

      pub joined : AreJoined (flat_map (λ m. came_with m.item) (moments_from (after_all d.items (begun d.past.workers)) more)) ((holding_in (kind a.kind) a).ends a.number.0) ((holding_in (kind b.kind) b).ends a.number.0)
      joined = are_joined js (had.ends o) (has.ends o) is_behind once_had

      are_those : (xs : List (Joining N × ℕ)) → HasCome K made false first (length a.ends.places.items) (standing_joins a.joins.items) xs (standing_joins b.joins.items) called.does.changes b.ends.places.items
          → oldest_first xs ≡ flat_map (λ m. came_with m.item) (moments_from (after_all d.items (begun d.past.workers)) more)
      are_those xs come = append_cancel_left (standing_joins a.joins.items) (oldest_first xs) js (sym come.joins_are ∙ joins)

      -- an end that is held at a place that came since is none that it had
      others_came : (k : ℕ) (p : Place N I) → length a.ends.places.items ≤ k → place_at b.ends.places.items k ≡ Some p → p.held ≡ true → is_end_of a.number.0 (after_all d.items (begun d.past.workers)) p.end ≡ false
      others_came k p le at held = ∥∥₁_elim called.does.stands (bool_set (is_end_of o c p.end) false) (λ x.
          joined_other d.past.workers d.items more before.order.run on o (name_of d.items) (name_of e.items) had has had_ends has_ends a.ends.places.items b.ends.places.items
          (own_places kind a o refl) (own_places kind b o called.number) called.others.places js joined K made first (standing_joins a.joins.items) (standing_joins b.joins.items) x.0 called.does.changes
          (are_those x.0 x.1) x.1 k p le at (x.1.held k p le at held))

      -- and what was changed at such places was changed at such that are held
      held_since : AreHeldSince (length a.ends.places.items) b.ends.places.items called.does.changes
      held_since = ∥∥₁_elim called.does.stands (all_changed_prop (λ k p. p.held ≡ true) (length a.ends.places.items) b.ends.places.items (λ k p. bool_set p.held true) called.does.changes) (λ x.
          changed_there (JoinedAt x.0) (λ k p. p.held ≡ true) (length a.ends.places.items) b.ends.places.items
          (joined_held d.past.workers d.items more before.order.run on o (name_of d.items) (name_of e.items) had has had_ends has_ends a.ends.places.items b.ends.places.items
          (own_places kind a o refl) (own_places kind b o called.number) called.others.places js joined K made first (standing_joins a.joins.items) (standing_joins b.joins.items) x.0 called.does.changes
          (are_those x.0 x.1) x.1) called.does.changes x.1.changed)

      its_places : AreItsPlaces (after_all d.items (begun d.past.workers)) (after_all more (after_all d.items (begun d.past.workers))) (name_of d.items) (name_of e.items) a.number.0 (holding_in (kind a.kind) a) (holding_in (kind b.kind) b)
          a.ends.places.items b.ends.places.items
      its_places = record {
        names_stay = names_stay d e before behind workers more items;
        had_ends = had_ends;
        has_ends = has_ends;
        had_places = own_places kind a o refl;
        has_places = own_places kind b o called.number;
        keeps = called.others.places;
        once = λ j k p q ne at_j at_k held_p held_q. (called.sound.apart j k p q ne at_j at_k held_p held_q).ends;
        others = others_came;
      }

      pub of_them : AllByRecursion (λ x. IsOfPipes (after_all d.items (begun d.past.workers)) (after_all more (after_all d.items (begun d.past.workers))) x.0) called.does.changes
      of_them = of_pipes K T d.past.workers d.items more before.order.run on few a.ends.places.items b.ends.places.items
          (own_places_go_on N T I d.past.workers d.items more before.order.run on (name_of d.items) (name_of e.items) o had has a.ends.places.items b.ends.places.items its_places)
          called.does.changes first now called.does.were_held held_since called.does.does (told_to_seal a) (told_to_seal b) called.does.seals grown

      places_now : AreChangedAt (λ k p. IsOwnPlace (after_all more (after_all d.items (begun d.past.workers))) (name_of e.items) a.number.0 p) 0 b.ends.places.items called.does.changes
      places_now = changed_stood (λ k p. IsOwnPlace c_now (name_of e.items) o p) a.ends.places.items b.ends.places.items
          (own_places_stay N T I d.past.workers d.items more before.order.run on (name_of d.items) (name_of e.items) o had has a.ends.places.items b.ends.places.items its_places)
          called.does.changes called.does.were_held held_since

      pub places : AreChangedAt (λ k p. IsOwnPlace (control_of e.past) (name_of e.items) a.number.0 p) 0 b.ends.places.items called.does.changes
      places = subst (λ (x : Control). AreChangedAt (λ k p. IsOwnPlace x (name_of e.items) o p) 0 b.ends.places.items called.does.changes) (sym (control_now d e before behind workers more items)) places_now

      pub named : AreChangesNamed (name_of e.items) b.ends.places.items called.does.changes
      named = changed_there (λ k p. IsOwnPlace c_now (name_of e.items) o p) (λ k p. IsPlaceNamed (name_of e.items) p) 0 b.ends.places.items (λ k p le at is. (is.written, is.read)) called.does.changes places_now
