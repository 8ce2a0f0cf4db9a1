-- That a bind gets its name and its pairs.
use Rattle.std.specs.Prelude.{◌≡◌, ◌<◌, ◌≤◌, ◌+◌, ◌^◌, ◌||◌, ◌++◌, ◌∷◌, [], ℕ, zero, suc, Bool, true, false, List, Some, None, All, length, map, slice_get, refl}
use Rattle.std.proofs.Common.{arith, sym, ap, ◌∙◌, subst}
use Rattle.std.proofs.lemmas.List.{length-map}
use Rattle.std.proofs.lemmas.List.Elements.{All-filter, All-head, All-map, All-tail, All-weaker}
use Rattle.zq_base.specs.declared.endpoint.Endpoint.{Endpoint}
use Rattle.zq_base.specs.declared.endpoint.Endpoint.TheVariants.{Inproc}
use Rattle.zq_base.specs.declared.ids.EndId.{EndId}
use Rattle.zq_base.specs.declared.ids.ObjId.{ObjId}
use Rattle.spec_control.specs.declared.book.Waiting.{Waiting}
use Rattle.spec_control.specs.declared.request.Req.TheVariants.{Bind}
use Rattle.spec_control.specs.EndpointBook.{is_fulfilled, waiters}
use Rattle.spec_control.specs.Names.{name_of}
use Rattle.spec_control.specs.Stage.{has_ended}
use Rattle.spec_control.specs.Rows.{obj}
use Rattle.spec_control.specs.After.{binding_by}
use Rattle.spec_control.specs.declared.end.EndState.{EndState}
use Rattle.spec_control.specs.Place.{At, Unmade}
use Rattle.spec_control.specs.Control.{Control, end_of, is_end, next_pair, place_of}
use Rattle.spec_control.specs.Reply.{reply_of}
use Rattle.control_laws.specs.Kept.{Kept, IsUnasked}
use Rattle.control_laws.proofs.JoinLemmas.{open_is, unasked_lives}
use Rattle.control_laws.proofs.SoundLemmas.{socket_there}
use Rattle.desk.specs.declared.given.Given.{Given}
use Rattle.desk.specs.declared.load.Load.{Load}
use Rattle.desk.specs.Holding.{Holding, has_end}
use Rattle.desk.specs.Making.{MakesSo, between, bind_makes}
use Rattle.desk.specs.Turns.{sealed_by, turned_over}
use Rattle.control_laws.proofs.ListLemmas.{never}
use Rattle.control_laws.proofs.AskLemmas.{same_end}
use Rattle.ctl_state.specs.declared.state.State.{State}
use Rattle.ctl_state.specs.Needs.{AreMet}
use Rattle.ctl_state.specs.Stands.{Stands, Updates}
use Rattle.ctl_moves.specs.declared.notes.Notes.{Notes}
use Rattle.ctl_moves.specs.Joined.{Gets}
use Rattle.ctl_moves.proofs.JoinedLemmas.{gets_stays}
use Rattle.ctl_moves.specs.Turning.{PutsLoaded}
use Rattle.mailbox.specs.Mail.{Mail}
use Rattle.ctl_state.specs.declared.command.Command.{Command}
use Rattle.ctl_moves.specs.declared.batch.Drawn.{Drawn}
use Rattle.ctl_moves.specs.Batch.{behind, first_of, held_of, row_of}
use Rattle.ctl_moves.specs.Drawing.{Draws, HasPlace}
use Rattle.ctl_moves.specs.Pairing.{JoinsAll, MayJoinAll, MovesAll, fulfilled_all}
use Rattle.ctl_moves.proofs.ReadyLemmas.{can_join, none_struck, numbers_are, places_left}
use Rattle.ctl_moves.specs.Naming.{bound_now, SameEndLists}
use Rattle.ctl_plane.specs.Carried.{IsPlane}
use Rattle.ctl_plane.specs.Fulfilling.{Fulfils, MayFulfil, MayFulfilAll, MayMakeFor}
use Rattle.ctl_plane.specs.Hearing.{HasWhat}
use Rattle.ctl_plane.specs.Joining.{Lends}
use Rattle.ctl_plane.specs.Past.{Past, control_of, items_of}
use Rattle.ctl_moves.specs.Refusals.{refusal_in}
use Rattle.ctl_plane.proofs.BindLemmas.{enough_pairs, name_is_free}
use Rattle.ctl_plane.proofs.EventLemmas.{kept_past}
use Rattle.ctl_plane.proofs.FulfilEventLemmas.{waits_for_it}
use Rattle.ctl_plane.proofs.OwnerLemmas.{box_there}

-- what is so of each first end is so of an end that is among those at the holder
held_so : {N O I : Type 0} (P : EndId → Type 0) (ds : List (Drawn N O I)) → All (λ (d : Drawn N O I). P (first_of d)) ds → (e : EndId) → has_end e (map held_of ds) ≡ true → P e
held_so P [] all e here = absurd (never here)
held_so P (d ∷ ds) all e here = by (is_end e (first_of d)) refl here (λ rest. held_so P ds (All-tail (λ (x : Drawn _ _ _). P (first_of x)) d ds all) e rest)
  where
    by : (b : Bool) → is_end e (first_of d) ≡ b → (b || has_end e (map held_of ds)) ≡ true → (has_end e (map held_of ds) ≡ true → P e) → P e
    by true same h rest = subst P (sym (same_end e (first_of d) same)) (All-head (λ (x : Drawn _ _ _). P (first_of x)) d ds all)
    by false other h rest = rest h

-- ---- once the pairs are drawn and the name is taken
module _ {N O I : Type 0} (out_name : O → N) (in_name : I → N) (s : State (Load N O I)) (h : Holding N) (i : ObjId) (at : Endpoint) (ws : List ObjId) (wakers : ℕ) (w : MayFulfil s h i at ws wakers)
    (ds : List (Drawn N O I)) (notes : Notes N) (t u : State (Load N O I)) (k : Holding N) (draws : Draws out_name in_name w.draw.control i ws ds notes s t h k)
    (updates : Updates (bound_now i.0 at) t u) (boxes : u.boxes ≡ t.boxes) (ends : SameEndLists t.objects.lists u.objects.lists) where
  abbrev c : Control
  c = w.draw.control

  abbrev now : Control
  now = bound_now i.0 at w.draw.control

  pub stands : Stands u (behind (map row_of ds) (bound_now i.0 at w.draw.control))
  stands = updates (behind (map row_of ds) c) draws.stands

  abbrev pub may_join_all : MayJoinAll out_name in_name u k i ds
  may_join_all = record {
    control = bound_now i.0 at w.draw.control;
    can = can_join out_name in_name c now i ws ds notes s t u h k draws w.draw.stands stands refl (λ e. refl) boxes ends w.unasked w.lives w.few_objects w.draw.few_pairs;
  }

  pub fulfils : (v : State (Load N O I)) (l : Holding N) → Stands v (fulfilled_all at ds (bound_now i.0 at w.draw.control)) → JoinsAll out_name in_name i.0 ds u v k l →
      MovesAll (next_pair (bound_now i.0 at w.draw.control)) (fulfilled_all at ds (bound_now i.0 at w.draw.control)) ds k l → Fulfils out_name in_name w.draw.control i at ws notes s v h l
  fulfils v l stand joins moves = record {
    drawn = ds;
    numbers = numbers_are out_name in_name c now i ws ds notes s t u h k draws w.draw.stands stands refl (λ e. refl) boxes ends;
    places = draws.taken.places;
    waiters = draws.waiters;
    each = draws.drawn;
    unstruck = none_struck out_name in_name c now i ws ds notes s t u h k draws w.draw.stands stands refl (λ e. refl) boxes ends;
    joined = draws.joined;
    came = moves.joined ∙ draws.came;
    heard = moves.heard ∙ draws.taken.heard;
    opened = draws.opened;
    stands = stand;
    gets = subst (λ (n : ℕ). Gets n i.0 (map held_of ds) h l) (sym w.draw.stands.pairs.many) (gets_stays (length s.pairs) i.0 (map held_of ds) h k l draws.taken.gets joins.stays
        (λ j e less here. moves.others j e (let many = w.draw.stands.pairs.many in omega (arith, many, less)) here));
    states = held_so (λ (e : EndId). place_of (fulfilled_all at ds now) e ≡ At (l.state e)) ds moves.mine;
    turned = record {
      turns = moves.turned.turns ∙ ap (λ (ts : List (EndId × EndState)). ts ++ turned_over (λ e. Unmade) (place_of (fulfilled_all at ds now)) (map first_of ds)) draws.taken.turns;
      sealed = moves.turned.sealed ∙ ap (λ (es : List EndId). es ++ sealed_by (turned_over (λ e. Unmade) (place_of (fulfilled_all at ds now)) (map first_of ds))) draws.taken.sealed;
    };
    puts = λ names named. subst (λ (b : List (Mail (Command (Load N O I)))). PutsLoaded out_name in_name names b v.boxes) (boxes ∙ ap (λ (x : State (Load N O I)). x.boxes) draws.taken.is) (joins.puts names named);
    fits = places_left out_name in_name c now i ws ds notes s t u h k draws w.draw.stands stands refl (λ e. refl) boxes ends v joins.places;
  }

-- these are all that are to be fulfilled
module _ {N O I : Type 0} (out_name : O → N) (in_name : I → N) (s t : State (Load N O I)) (h k : Holding N) (i : ObjId) (at : Endpoint) (wakers : ℕ) (notes : Notes N) (w : MayFulfilAll s h i at wakers) where
  pub all_fulfilled : (ws : List ObjId) → ws ≡ w.waiters → ((v : MayFulfil s h i at ws wakers) → Fulfils out_name in_name v.draw.control i at ws notes s t h k) → Fulfils out_name in_name w.may.draw.control i at w.waiters notes s t h k
  all_fulfilled ws same =
      subst (λ (xs : List ObjId). ((v : MayFulfil s h i at xs wakers) → Fulfils out_name in_name v.draw.control i at xs notes s t h k) → Fulfils out_name in_name w.may.draw.control i at w.waiters notes s t h k) (sym same) (λ f. f w.may)

-- ---- the ends that a bind makes
some_none : {X : Type 0} {x : X} → None ≡ Some x → ⊥
some_none e = grind arith

same_waiter : {w j : ObjId} → Some w ≡ Some j → w ≡ j
same_waiter e = cc

-- for the connect at a place, one with a number so much further
makes_at : (c : Control) (o n : ℕ) (ws : List Waiting) (k : ℕ) (j : ObjId) → slice_get (waiters ws) k ≡ Some j → slice_get (bind_makes c o n ws) k ≡ Some (between c (end_of (n + k) false) o j.0)
makes_at c o n [] k j is = absurd (some_none is)
makes_at c o n (w ∷ ws) zero j is =
    ap (λ (x : ObjId). Some (between c (end_of n false) o x.0)) (same_waiter is) ∙ ap (λ (m : ℕ). Some (between c (end_of m false) o j.0)) none_more
  where
    none_more : n ≡ n + 0
    none_more = omega arith
makes_at c o n (w ∷ ws) (suc k) j is = makes_at c o (n + 1) ws k j is ∙ ap (λ (m : ℕ). Some (between c (end_of m false) o j.0)) one_more
  where
    one_more : n + 1 + k ≡ n + suc k
    one_more = omega arith

-- ---- what a bind needs that is not refused
module _ {N O I S : Type 0} (out_name : O → N) (in_name : I → N) (s : State (Load N O I)) (p : Past (Given N O I) N S) (spare : ℕ) (o : ObjId) (name : List ℕ) (plane : IsPlane out_name in_name s p spare) (h : Holding N)
    (lends : Lends (control_of p) o.0 h) (allowed : refusal_in (reply_of (control_of p) (Bind o (Inproc name))) ≡ None) (met : AreMet s (control_of p)) where
  abbrev q : Control
  q = control_of p

  pub kept : Kept (control_of p)
  kept = kept_past p plane.history.run

  pub mine : IsUnasked (control_of p).rows o.0
  mine = open_is q o.0 kept lends.socket

  pub theirs : All (λ (w : Waiting). IsUnasked (control_of p).rows w.waiter.0) (waits_for_it (control_of p) o name)
  theirs = All-filter (is_fulfilled (Inproc name) (binding_by o.0 q)) (λ (w : Waiting). IsUnasked q.rows w.waiter.0) q.names.waiting kept.names.waiters

  pub has_place : (j : ObjId) → IsUnasked (control_of p).rows j.0 → HasPlace s (control_of p) j
  has_place j unasked = record {
    box = box_there s q kept plane.history.stands plane.history.room j.0 unasked;
    list = met.listed j.0 (socket_there q.rows j.0 unasked.socket);
    marks = lends.marked j.0 unasked.socket;
  }

  -- as many numbers of pairs as are wanted
  pub few_waiters : (ids : List ObjId) → ids ≡ waiters (waits_for_it (control_of p) o name) → length (control_of p).rows.pairs + length ids < 2 ^ 30
  few_waiters ids are =
      let enough = enough_pairs q o name allowed in
      let many = ap (λ (xs : List ObjId). length xs) are ∙ length-map (waits_for_it q o name) (λ (w : Waiting). w.waiter) in
      omega (arith, enough, many)

  abbrev pub may_fulfil : (wakers : ℕ) → (control_of p).slots ≤ wakers → HasWhat p h → (ids : List ObjId) → ids ≡ waiters (waits_for_it (control_of p) o name) → MayFulfil s h o (Inproc name) ids wakers
  may_fulfil wakers all has ids are = record {
    draw = record {
      control = control_of p;
      names = name_of (items_of p);
      stands = plane.history.stands;
      has = has;
      lent = lends.lent;
      mine = has_place o mine;
      theirs = subst (λ (xs : List ObjId). All (HasPlace s q) xs) (sym are) (All-map (HasPlace s q) (λ (w : Waiting). w.waiter) (waits_for_it q o name)
          (All-weaker (λ (w : Waiting). IsUnasked q.rows w.waiter.0) (λ (w : Waiting). HasPlace s q w.waiter) (λ w is. has_place w.waiter is) (waits_for_it q o name) theirs));
      few_pairs = few_waiters ids are;
      wakers_there = (let there = plane.history.stands.slots in omega (arith, there, all));
    };
    free = name_is_free q o name allowed;
    unasked = mine.unasked;
    lives = subst (λ (xs : List ObjId). All (λ (x : ObjId). has_ended (obj q.rows x.0).stage ≡ false) xs) (sym are) (All-map (λ (x : ObjId). has_ended (obj q.rows x.0).stage ≡ false) (λ (w : Waiting). w.waiter) (waits_for_it q o name)
        (All-weaker (λ (w : Waiting). IsUnasked q.rows w.waiter.0) (λ (w : Waiting). has_ended (obj q.rows w.waiter.0).stage ≡ false) (λ w is. unasked_lives (obj q.rows w.waiter.0).stage is.unasked) (waits_for_it q o name) theirs));
    few_objects = (let few = plane.history.objects in omega (arith, few));
  }

  abbrev pub may_fulfil_all : (wakers : ℕ) → (control_of p).slots ≤ wakers → HasWhat p h → MayFulfilAll s h o (Inproc name) wakers
  may_fulfil_all wakers all has = record {
    waiters = waiters (waits_for_it (control_of p) o name);
    may = may_fulfil wakers all has (waiters (waits_for_it (control_of p) o name)) refl;
    all = refl;
  }

  -- and what it makes
  pub may_make_for : (wakers : ℕ) (all : (control_of p).slots ≤ wakers) (has : HasWhat p h) (may_make : EndId → ℕ → ℕ → Type 0) → MakesSo (control_of p) (Bind o (Inproc name)) may_make → MayMakeFor s h o (Inproc name) wakers may_make
  may_make_for wakers all has may_make makes = record {
    all = may_fulfil_all wakers all has;
    makes = λ k j is. makes (end_of (next_pair q + k) false) _ _ (record { place = k; among = makes_at q o.0 (next_pair q) (waits_for_it q o name) k j is });
  }
