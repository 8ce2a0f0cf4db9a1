-- That the control state gives what the calls need.
use Rattle.std.specs.Prelude.{◌≡◌, ◌≢◌, ◌<◌, ◌≤◌, ◌+◌, ◌^◌, ◌==◌, ℕ, zero, suc, Bool, true, false, cond, Option, Some, None, length, slice_index_or, refl}
use Rattle.std.proofs.Common.{arith, sym, ap, ◌∙◌}
use Rattle.std.proofs.lemmas.Bool.{false≢true, eq-eqb, ne_eqb}
use Rattle.std.proofs.lemmas.List.Sums.{get_or-le-sum_by, sum_by-le}
use Rattle.zq_base.specs.declared.ids.EndId.{EndId}
use Rattle.zq_base.specs.declared.ids.ObjId.{ObjId}
use Rattle.spec_control.specs.declared.end.EndState.{EndState}
use Rattle.spec_control.specs.declared.end.EndState.TheVariants.{Gone}
use Rattle.spec_control.specs.declared.end.EndEvent.{EndEvent}
use Rattle.spec_control.specs.declared.end.EndEvent.TheVariants.{Asked as WasAsked, TermCame, DelimiterSeen, AckCame}
use Rattle.spec_control.specs.declared.object.ObjKind.{ObjKind}
use Rattle.spec_control.specs.declared.object.ObjKind.TheVariants.{Root, Socket, Listener, Session}
use Rattle.spec_control.specs.declared.object.ObjState.TheVariants.{Live, Asked, Ended}
use Rattle.spec_control.specs.declared.stage.Stage.{Stage}
use Rattle.spec_control.specs.declared.stage.Stage.TheVariants.{Alive, Told, Ending, Finished, Cleared}
use Rattle.spec_control.specs.EndLife.{comes}
use Rattle.spec_control.specs.Stage.{has_ended}
use Rattle.spec_control.specs.Place.{Place, Unmade as IsUnmade, Away as IsAway, At as IsAt, is_here}
use Rattle.spec_control.specs.Row.{Row, is_socket, owner_fits}
use Rattle.spec_control.specs.Rows.{PairRow, no_pair, obj, is_owner as is_owner_by, end_place, end_owner, of_ends, bind_waits, end_waits}
use Rattle.spec_control.specs.Control.{Control, place_of}
use Rattle.own_tree.specs.Rows.{state_of, state_at}
use Rattle.ctl_state.specs.declared.pair.Spot.{Spot}
use Rattle.ctl_state.specs.declared.pair.Spot.TheVariants.{Unmade, Away, At, Over}
use Rattle.ctl_state.specs.declared.state.State.{State}
use Rattle.ctl_state.specs.Lists.{owner_number}
use Rattle.ctl_state.specs.Objects.{Counts, tree_row, RootOwnsSockets}
use Rattle.ctl_state.specs.Pairs.{place_at, spot_comes, owner_at, spot_at}
use Rattle.ctl_state.specs.Stands.{Stands, made_once}
use Rattle.ctl_state.proofs.EndLemmas.{owner_stands, place_stands}
use Rattle.ctl_state.proofs.EndingLemmas.{same_owner}
use Rattle.ctl_state.specs.Needs.{AreMet}
use Rattle.ctl_state.proofs.ChildLemmas.{children_have_room}

ended_stage : (t : Stage) → has_ended t ≡ false → state_of t ≢ Ended
ended_stage Alive e k = absurd (other k)
  where
    other : Live ≡ Ended → ⊥
    other j = Prim.grind arith
ended_stage Told e k = absurd (other k)
  where
    other : Live ≡ Ended → ⊥
    other j = Prim.grind arith
ended_stage Ending e k = absurd (other k)
  where
    other : Asked ≡ Ended → ⊥
    other j = Prim.grind arith
ended_stage Finished e k = absurd (false≢true (sym e))
ended_stage Cleared e k = absurd (false≢true (sym e))

owner_by : (w : Option ObjId) (o : ObjId) → owner_number w ≡ Some o.0 → w ≡ Some o
owner_by None o e = absurd (other e)
  where
    other : ◌≡◌ {A = Option ℕ} None (Some o.0) → ⊥
    other k = cc
owner_by (Some w) o e = ap (λ (n : ℕ). let x : Option ObjId = Some (record { 0 = n }) in x) (let same : w.0 ≡ o.0 = cc in same)

spot_by : (event : EndEvent) (spot : Spot) (state : EndState) → place_at spot ≡ IsAt state → comes event state ≡ true → spot_comes event spot ≡ true
spot_by event Unmade state e h = absurd (other e)
  where
    other : IsUnmade ≡ IsAt state → ⊥
    other k = cc
spot_by event Away state e h = absurd (other e)
  where
    other : IsAway ≡ IsAt state → ⊥
    other k = cc
spot_by event (At life) state e h = ap (comes event) (let same : life.state ≡ state = cc in same) ∙ h
spot_by event Over state e h = absurd (never event (ap (comes event) (let same : Gone ≡ state = cc in same) ∙ h))
  where
    never : (event : EndEvent) → comes event Gone ≡ true → ⊥
    never (WasAsked reason delay) k = false≢true k
    never TermCame k = false≢true k
    never DelimiterSeen k = false≢true k
    never AckCame k = false≢true k

away_spot : (spot : Spot) → place_at spot ≡ IsAway → spot ≡ Away
away_spot Unmade e = absurd (other e)
  where
    other : IsUnmade ≡ IsAway → ⊥
    other k = cc
away_spot Away e = refl
away_spot (At life) e = absurd (other e)
  where
    other : IsAt life.state ≡ IsAway → ⊥
    other k = cc
away_spot Over e = absurd (other e)
  where
    other : IsAt Gone ≡ IsAway → ⊥
    other k = cc

unmade_spot : (spot : Spot) → place_at spot ≡ IsUnmade → spot ≡ Unmade
unmade_spot Unmade e = refl
unmade_spot Away e = absurd (other e)
  where
    other : IsAway ≡ IsUnmade → ⊥
    other k = cc
unmade_spot (At life) e = absurd (other e)
  where
    other : IsAt life.state ≡ IsUnmade → ⊥
    other k = cc
unmade_spot Over e = absurd (other e)
  where
    other : IsAt Gone ≡ IsUnmade → ⊥
    other k = cc

-- a pair with an end that counts is there, and counts for its owner
counts_for : (f : Place → ℕ) (i : ℕ) (a : Bool) (p : PairRow) → end_owner p a ≡ i → f (end_place p a) ≡ 1 → 1 ≤ of_ends f i p
counts_for f i true p owner one =
    let here : cond (p.a_owner == i) (f p.a) 0 ≡ 1 = ap {B = ℕ} (λ (b : Bool). cond b (f p.a) 0) (eq-eqb p.a_owner i owner) ∙ one in
    omega (arith, here)
counts_for f i false p owner one =
    let here : cond (p.b_owner == i) (f p.b) 0 ≡ 1 = ap {B = ℕ} (λ (b : Bool). cond b (f p.b) 0) (eq-eqb p.b_owner i owner) ∙ one in
    omega (arith, here)

no_root : (n : ℕ) → suc n ≡ 0 → ⊥
no_root n e = omega (arith, e)

root_owns : (kind : ObjKind) (owner : Option ℕ) → owner_fits kind owner ≡ true → is_socket kind ≡ is_owner_by 0 owner
root_owns Root None h = refl
root_owns Root (Some owner) h = absurd (false≢true h)
root_owns (Socket kind) None h = absurd (false≢true h)
root_owns (Socket kind) (Some zero) h = refl
root_owns (Socket kind) (Some (suc n)) h = absurd (false≢true h)
root_owns Listener None h = absurd (false≢true h)
root_owns Listener (Some zero) h = absurd (false≢true h)
root_owns Listener (Some (suc n)) h = sym (ne_eqb (suc n) 0 (λ e. absurd (no_root n e)))
root_owns Session None h = absurd (false≢true h)
root_owns Session (Some zero) h = absurd (false≢true h)
root_owns Session (Some (suc n)) h = sym (ne_eqb (suc n) 0 (λ e. absurd (no_root n e)))

few_ends : (i : ℕ) (p : PairRow) → of_ends end_waits i p ≤ 2
few_ends i p =
    let x = one (p.a_owner == i) (is_here p.a) in
    let y = one (p.b_owner == i) (is_here p.b) in
    omega (arith, x, y)
  where
    one : (b t : Bool) → cond b (cond t 1 0) 0 ≤ 1
    one true true = omega arith
    one true false = omega arith
    one false t = omega arith

made_few : (p : PairRow) → made_once p ≤ 1
made_few p = grind arith

module _ {L : Type 0} (s : State L) (c : Control) (h : Stands s c) where
  unended_by : (i : ObjId) → has_ended (obj c.rows i.0).stage ≡ false → state_at s.objects.tree i ≢ Ended
  unended_by i e = ended_stage (tree_row s.objects i.0).stage (sym (ap (λ (r : Row). has_ended r.stage) (h.objects.each i.0)) ∙ e)

  owned_by : (i : ℕ) (w : ObjId) → (obj c.rows i).owner ≡ Some w.0 → (tree_row s.objects i).owner ≡ Some w
  owned_by i w e = owner_by (tree_row s.objects i).owner w (sym (ap (λ (r : Row). r.owner) (h.objects.each i)) ∙ e)

  comes_by : (e : EndId) (event : EndEvent) (state : EndState) → place_of c e ≡ IsAt state → comes event state ≡ true → spot_comes event (spot_at s.pairs e) ≡ true
  comes_by e event state is may = spot_by event (spot_at s.pairs e) state (sym (place_stands s e c h) ∙ is) may

  away_by : (e : EndId) → place_of c e ≡ IsAway → spot_at s.pairs e ≡ Away
  away_by e is = away_spot (spot_at s.pairs e) (sym (place_stands s e c h) ∙ is)

  unmade_by : (e : EndId) → place_of c e ≡ IsUnmade → spot_at s.pairs e ≡ Unmade
  unmade_by e is = unmade_spot (spot_at s.pairs e) (sym (place_stands s e c h) ∙ is)

  binds_by : (e : EndId) → e.pair.0 < length c.rows.pairs → place_of c e ≡ IsAway → 0 < (tree_row s.objects (owner_at s.pairs e).0).binds
  binds_by e within is =
      let one = counts_for bind_waits (owner_at s.pairs e).0 e.a (slice_index_or c.rows.pairs e.pair.0 no_pair) (owner_stands s e c h) (ap bind_waits is) in
      let part = get_or-le-sum_by (of_ends bind_waits (owner_at s.pairs e).0) c.rows.pairs e.pair.0 no_pair within in
      let all = ap (λ (n : Counts). n.binds) (h.counted (owner_at s.pairs e).0) in
      omega (arith, one, part, all)

  ends_by : (e : EndId) → e.pair.0 < length c.rows.pairs → is_here (place_of c e) ≡ true → 0 < (tree_row s.objects (owner_at s.pairs e).0).ends
  ends_by e within is =
      let one = counts_for end_waits (owner_at s.pairs e).0 e.a (slice_index_or c.rows.pairs e.pair.0 no_pair) (owner_stands s e c h) (ap {B = ℕ} (λ (b : Bool). cond b 1 0) is) in
      let part = get_or-le-sum_by (of_ends end_waits (owner_at s.pairs e).0) c.rows.pairs e.pair.0 no_pair within in
      let all = ap (λ (n : Counts). n.ends) (h.counted (owner_at s.pairs e).0) in
      omega (arith, one, part, all)

  ends_fit_by : (i : ℕ) → length c.rows.pairs < 2 ^ 30 → (tree_row s.objects i).ends + 1 < 2 ^ 32
  ends_fit_by i few =
      let all = ap (λ (n : Counts). n.ends) (h.counted i) in
      let most = sum_by-le (of_ends end_waits i) 2 c.rows.pairs (λ k d within. few_ends i (slice_index_or c.rows.pairs k d)) in
      omega (arith, few, all, most)

  sent_fits_by : (i : ℕ) → length c.rows.objects < 2 ^ 62 → length c.rows.pairs < 2 ^ 62 → (tree_row s.objects i).sent + 1 < 2 ^ 64
  sent_fits_by i few few_pairs =
      let most = h.sent i in
      let made = sum_by-le made_once 1 c.rows.pairs (λ k d within. made_few (slice_index_or c.rows.pairs k d)) in
      omega (arith, few, few_pairs, most, made)

  root_owns_by : ((i : ℕ) → owner_fits (obj c.rows i).kind (obj c.rows i).owner ≡ true) → RootOwnsSockets s.objects
  root_owns_by fits = record {
    each = λ i. sym (ap (λ (r : Row). is_socket r.kind) (h.objects.each i)) ∙ root_owns (obj c.rows i).kind (obj c.rows i).owner (fits i)
        ∙ ap (λ (r : Row). is_owner_by 0 r.owner) (h.objects.each i) ∙ same_owner 0 (tree_row s.objects i).owner;
  }

  pub all_met : length s.objects.lists ≡ length s.objects.tree → AreMet s c
  all_met even = record {
    listed = λ i within. (let many = h.objects.many in omega (arith, within, many, even));
    unended = unended_by;
    owned = owned_by;
    row = h.objects.each;
    may_come = comes_by;
    away = away_by;
    unmade = unmade_by;
    binds = binds_by;
    ends = ends_by;
    ends_fit = ends_fit_by;
    sent_fits = sent_fits_by;
    children = children_have_room s c h;
    sockets = root_owns_by;
  }
