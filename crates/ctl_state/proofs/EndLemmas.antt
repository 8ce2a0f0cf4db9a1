-- That what is kept goes on standing for a control state, at what happens to an end.
use Rattle.std.specs.Prelude.{◌≡◌, ◌≢◌, ◌<◌, ◌+◌, ◌==◌, ℕ, Bool, true, false, not, cond, List, length, sum_by, slice_index_or, slice_set, refl, ◌++◌, ◌∷◌, [], ◌≤◌, ◌&&◌}
use Rattle.std.proofs.Common.{arith, sym, ap, ◌∙◌, subst}
use Rattle.std.proofs.lemmas.List.{length-set}
use Rattle.zq_base.specs.Ends.{other_end}
use Rattle.zq_base.specs.declared.ids.EndId.{EndId}
use Rattle.zq_base.specs.declared.ids.ObjId.{ObjId}
use Rattle.spec_control.specs.declared.end.EndState.TheVariants.{Active}
use Rattle.spec_control.specs.declared.end.EndEvent.{EndEvent}
use Rattle.spec_control.specs.declared.end.EndEvent.TheVariants.{AckCame}
use Rattle.spec_control.specs.declared.object.ObjState.TheVariants.{Ended}
use Rattle.spec_control.specs.EndLife.{new_life}
use Rattle.spec_control.specs.Place.{Place, Unmade as IsUnmade, Away as IsAway, At as IsAt, is_unmade}
use Rattle.spec_control.specs.PairPhase.{PairEvent, Opens, BindCame, Happens, place_after, other_after}
use Rattle.spec_control.specs.Rows.{PairRow, no_pair, with_places, end_place, end_owner, pair_after, of_ends, bind_waits, end_waits}
use Rattle.spec_control.specs.Control.{Control, attach, owner_of, place_of}
use Rattle.own_tree.specs.declared.row.Row.{Row as TreeRow}
use Rattle.own_tree.specs.Rows.{no_row, row_at, state_of, state_at}
use Rattle.own_tree.specs.Changes.{change, with_bind_sent, with_bind_processed, with_end as with_end_more, without_end}
use Rattle.ctl_state.specs.declared.pair.Spot.{Spot}
use Rattle.ctl_state.specs.declared.pair.Spot.TheVariants.{Unmade, Away, At}
use Rattle.ctl_state.specs.declared.pair.Entry.{Entry}
use Rattle.ctl_state.specs.declared.state.State.{State}
use Rattle.ctl_state.specs.Objects.{ObjectRows, Counts, tree_row, with_tree, with_attached, TakesEnd}
use Rattle.ctl_state.specs.Pairs.{place_at, spot_comes, spot_after, entry_at, entry_open, entry_struck, owner_at, spot_at, with_spot, pair_row}
use Rattle.ctl_state.specs.Stands.{Stands, stepped, struck_now, made_once}
use Rattle.ctl_state.proofs.ReadLemmas.{read_kept, read_more, read_less, placed_where}
use Rattle.ctl_state.proofs.ObjectLemmas.{quiet_stand, lists_aside}
use Rattle.ctl_state.proofs.ListedLemmas.{owners_same, room_placed, moved_listed, attached_listed}
use Rattle.ctl_state.proofs.PairLemmas.{coming_placed, row_place, row_owner, step_at, step_pairs, bind_pairs, open_pairs, strike_pairs}
use Rattle.ctl_state.proofs.CountLemmas.{binds_stay, ends_stay, end_was, end_went, sum_end, sum_both}
use Rattle.ctl_state.specs.Lists.{belongings_at, with_ends, AreListed}
use Rattle.ctl_state.specs.Listed.{with_last}
use Rattle.std.proofs.lemmas.List.Sums.{sum_by-set}

counts_are : (b c d e : ℕ) → b ≡ c → d ≡ e → ◌≡◌ {A = Counts} (record { binds = b; ends = d }) (record { binds = c; ends = e })
counts_are b c d e h k = ap (λ (n : ℕ). let x : Counts = record { binds = n; ends = d } in x) h ∙ ap (λ (n : ℕ). let x : Counts = record { binds = c; ends = n } in x) k

no_more : (b : Bool) → ◌≡◌ {A = ℕ} (cond b 0 0) 0
no_more true = refl
no_more false = refl

-- an object that has not ended has a row
has_row : (tree : List TreeRow) (o : ObjId) → state_at tree o ≢ Ended → o.0 < length tree
has_row tree o unended = placed_where (λ (t : TreeRow). state_of t.stage) tree o.0 no_row unended

-- the counts of the tree behind a change
module _ (tree : List TreeRow) (o : ObjId) (i : ℕ) (there : o.0 < length tree) where
  ends_more : (slice_index_or (change with_end_more o tree) i no_row).ends ≡ (slice_index_or tree i no_row).ends + cond (o.0 == i) 1 0
  ends_more = read_more (λ (t : TreeRow). t.ends) tree o.0 i (with_end_more (row_at tree o)) no_row 1 there refl

  ends_less : 0 < (row_at tree o).ends → (slice_index_or (change without_end o tree) i no_row).ends + cond (o.0 == i) 1 0 ≡ (slice_index_or tree i no_row).ends
  ends_less some = read_less (λ (t : TreeRow). t.ends) tree o.0 i (without_end (row_at tree o)) no_row there (omega (arith, some))

  binds_more : (slice_index_or (change with_bind_sent o tree) i no_row).binds ≡ (slice_index_or tree i no_row).binds + cond (o.0 == i) 1 0
  binds_more = read_more (λ (t : TreeRow). t.binds) tree o.0 i (with_bind_sent (row_at tree o)) no_row 1 there refl

  binds_less : 0 < (row_at tree o).binds → (slice_index_or (change with_bind_processed o tree) i no_row).binds + cond (o.0 == i) 1 0 ≡ (slice_index_or tree i no_row).binds
  binds_less some = read_less (λ (t : TreeRow). t.binds) tree o.0 i (with_bind_processed (row_at tree o)) no_row there (omega (arith, some))

module _ (f : Place → ℕ) (i : ℕ) (es : List Entry) (rows : List PairRow) (e : EndId) (within : e.pair.0 < length rows)
    (same : (k : ℕ) → slice_index_or rows k no_pair ≡ pair_row (entry_at es k)) where
  abbrev row : PairRow
  row = slice_index_or rows e.pair.0 no_pair

  owner : (a : Bool) → end_owner row a ≡ (owner_at es (record { pair = e.pair; a = a })).0
  owner a = ap (λ (r : PairRow). end_owner r a) (same e.pair.0) ∙ row_owner (entry_at es e.pair.0) a

  place : (a : Bool) → end_place row a ≡ place_at (spot_at es (record { pair = e.pair; a = a }))
  place a = ap (λ (r : PairRow). end_place r a) (same e.pair.0) ∙ row_place (entry_at es e.pair.0) a

  -- the sum over the pairs where one end is elsewhere
  sum_spot : (m : Place) (x y : ℕ) → f (place_at (spot_at es e)) ≡ x → f m ≡ y →
      sum_by (of_ends f i) (slice_set rows e.pair.0 (with_places e.a m (end_place row (not e.a)) row)) + cond ((owner_at es e).0 == i) x 0
      ≡ sum_by (of_ends f i) rows + cond ((owner_at es e).0 == i) y 0
  sum_spot m x y was is =
      let h = sum_end f i e.a m rows e.pair.0 row within refl in
      let a = ap (λ (n : ℕ). cond (n == i) (f (end_place row e.a)) 0) (owner e.a) ∙ ap (λ (w : Place). cond ((owner_at es e).0 == i) (f w) 0) (place e.a) ∙ ap (λ (n : ℕ). cond ((owner_at es e).0 == i) n 0) was in
      let b = ap (λ (n : ℕ). cond (n == i) (f m) 0) (owner e.a) ∙ ap (λ (n : ℕ). cond ((owner_at es e).0 == i) n 0) is in
      omega (arith, h, a, b)

  -- and where both are that counted for nothing
  sum_open : (m t : Place) (x y : ℕ) → f (place_at (spot_at es e)) ≡ 0 → f (place_at (spot_at es (other_end e))) ≡ 0 → f m ≡ x → f t ≡ y →
      sum_by (of_ends f i) (slice_set rows e.pair.0 (with_places e.a m t row))
      ≡ sum_by (of_ends f i) rows + (cond ((owner_at es e).0 == i) x 0 + cond ((owner_at es (other_end e)).0 == i) y 0)
  sum_open m t x y mine theirs is os =
      let h = sum_both f i e.a m t rows e.pair.0 row within refl (ap f (place e.a) ∙ mine) (ap f (place (not e.a)) ∙ theirs) in
      let a = ap (λ (n : ℕ). cond (n == i) (f m) 0) (owner e.a) ∙ ap (λ (n : ℕ). cond ((owner_at es e).0 == i) n 0) is in
      let b = ap (λ (n : ℕ). cond (n == i) (f t) 0) (owner (not e.a)) ∙ ap (λ (n : ℕ). cond ((owner_at es (other_end e)).0 == i) n 0) os in
      omega (arith, h, a, b)

one_at_most : (b : Bool) → cond b 1 0 ≤ 1
one_at_most true = omega arith
one_at_most false = omega arith

-- a pair counts as made from its opening on
unmade_stays : (event : EndEvent) (w : Place) → is_unmade (place_after (Happens event) w) ≡ is_unmade w
unmade_stays event IsUnmade = refl
unmade_stays event IsAway = refl
unmade_stays event (IsAt state) = refl

made_step : (event : EndEvent) (a : Bool) (p : PairRow) → made_once (pair_after (Happens event) a p) ≡ made_once p
made_step event true p = ap {B = ℕ} (λ (b : Bool). cond (b && is_unmade p.b) 0 1) (unmade_stays event p.a)
made_step event false p = ap {B = ℕ} (λ (b : Bool). cond (is_unmade p.a && b) 0 1) (unmade_stays event p.b)

and_no : (b : Bool) → (b && false) ≡ false
and_no true = refl
and_no false = refl

made_bound : (a : Bool) (p : PairRow) → end_place p a ≡ IsAway → made_once (pair_after BindCame a p) ≡ made_once p
made_bound true p away = sym (ap {B = ℕ} (λ (w : Place). cond (is_unmade w && is_unmade p.b) 0 1) away)
made_bound false p away =
    ap {B = ℕ} (λ (b : Bool). cond b 0 1) (and_no (is_unmade p.a)) ∙ sym (ap {B = ℕ} (λ (b : Bool). cond b 0 1) (and_no (is_unmade p.a)))
    ∙ sym (ap {B = ℕ} (λ (w : Place). cond (is_unmade p.a && is_unmade w) 0 1) away)

made_opened : (a : Bool) (p : PairRow) → made_once (pair_after Opens a p) ≡ 1
made_opened true p = refl
made_opened false p = refl

made_none : (p : PairRow) (a : Bool) → end_place p a ≡ IsUnmade → end_place p (not a) ≡ IsUnmade → made_once p ≡ 0
made_none p true mine theirs = ap {B = ℕ} (λ (w : Place). cond (is_unmade w && is_unmade p.b) 0 1) mine ∙ ap {B = ℕ} (λ (w : Place). cond (is_unmade w) 0 1) theirs
made_none p false mine theirs = ap {B = ℕ} (λ (w : Place). cond (is_unmade w && is_unmade p.b) 0 1) theirs ∙ ap {B = ℕ} (λ (w : Place). cond (is_unmade w) 0 1) mine

module _ {L : Type 0} (old : State L) (e : EndId) (c : Control) (h : Stands old c) where
  abbrev k : ℕ
  k = e.pair.0

  in_rows : k < length old.pairs → k < length c.rows.pairs
  in_rows within = subst (λ (n : ℕ). k < n) (sym h.pairs.many) within

  binds_were : (i : ℕ) → (tree_row old.objects i).binds ≡ sum_by (of_ends bind_waits i) c.rows.pairs
  binds_were i = ap (λ (n : Counts). n.binds) (h.counted i)

  ends_were : (i : ℕ) → (tree_row old.objects i).ends ≡ sum_by (of_ends end_waits i) c.rows.pairs
  ends_were i = ap (λ (n : Counts). n.ends) (h.counted i)

  pub owner_stands : owner_of c e ≡ (owner_at old.pairs e).0
  owner_stands = ap (λ (r : PairRow). end_owner r e.a) (h.pairs.each k) ∙ row_owner (entry_at old.pairs k) e.a

  pub place_stands : place_of c e ≡ place_at (spot_at old.pairs e)
  place_stands = ap (λ (r : PairRow). end_place r e.a) (h.pairs.each k) ∙ row_place (entry_at old.pairs k) e.a

  other_place : end_place (slice_index_or c.rows.pairs k no_pair) (not e.a) ≡ place_at (spot_at old.pairs (other_end e))
  other_place = ap (λ (r : PairRow). end_place r (not e.a)) (h.pairs.each k) ∙ row_place (entry_at old.pairs k) (not e.a)

  -- the pairs that were made are as many as before
  made_stays : (event : PairEvent) → k < length old.pairs → made_once (pair_after event e.a (slice_index_or c.rows.pairs k no_pair)) ≡ made_once (slice_index_or c.rows.pairs k no_pair) →
      sum_by made_once (slice_set c.rows.pairs k (pair_after event e.a (slice_index_or c.rows.pairs k no_pair))) ≡ sum_by made_once c.rows.pairs
  made_stays event within same =
      let sums = sum_by-set made_once c.rows.pairs k (pair_after event e.a (slice_index_or c.rows.pairs k no_pair)) no_pair (in_rows within) in
      omega (arith, sums, same)

  -- the ends of the owner of an end that is attached
  attached_now : (event : PairEvent) → k < length old.pairs → 0 < (belongings_at old.objects.lists (owner_at old.pairs e).0).ends.spare →
      AreListed (with_ends (with_last e) (owner_at old.pairs e).0 old.objects.lists)
      (slice_set c.rows.pairs k (pair_after event e.a (slice_index_or c.rows.pairs k no_pair))) (c.attached ++ e ∷ []) c.holds
  attached_now event within room =
      attached_listed old.objects.lists _ c.attached c.holds
      (moved_listed old.objects.lists c.rows.pairs c.attached c.holds h.lists k e.a (place_after event (end_place was e.a)) (other_after event (end_place was (not e.a))))
      e (owner_at old.pairs e).0
      (read_kept (λ (p : PairRow). end_owner p e.a) c.rows.pairs k k (pair_after event e.a was) no_pair (owners_same e.a e.a _ _ was) ∙ owner_stands)
      (subst (λ (n : ℕ). k < n) (sym (length-set c.rows.pairs k (pair_after event e.a was))) (in_rows within))
      (room_placed old.objects.lists (owner_at old.pairs e).0 room)
    where
      was : PairRow
      was = slice_index_or c.rows.pairs k no_pair

  -- an event of an end that stays
  pub step_stands : (new : State L) (event : EndEvent) → spot_comes event (spot_at old.pairs e) ≡ true → event ≢ AckCame →
      new.pairs ≡ with_spot e (spot_after event (spot_at old.pairs e)) old.pairs → new.objects ≡ old.objects → new.boxes ≡ old.boxes → new.book ≡ old.book → new.workers ≡ old.workers →
      Stands new (stepped event e c)
  step_stands new event may stays is objects boxes book workers = record {
    objects = rw objects h.objects;
    pairs = rw is (step_pairs old.pairs c.rows.pairs c.reasons c.struck e within h.pairs event);
    counted = λ i. rw objects (counts_are _ _ _ _ (binds_now i) (ends_now i));
    sent = λ i. rw objects (let was = h.sent i in let same = made_stays (Happens event) within (made_step event e.a (slice_index_or c.rows.pairs k no_pair)) in omega (arith, was, same));
    lists = rw objects (moved_listed old.objects.lists c.rows.pairs c.attached c.holds h.lists k e.a _ _);
    boxes = rw boxes h.boxes;
    slots = rw boxes h.slots;
    workers = workers ∙ h.workers;
    names = rw book h.names;
  }
    where
      within : k < length old.pairs
      within = coming_placed event e.a old.pairs k may

      there : Place
      there = place_after (Happens event) (end_place (slice_index_or c.rows.pairs k no_pair) e.a)

      is_there : there ≡ place_at (spot_after event (spot_at old.pairs e))
      is_there = step_at old.pairs c.rows.pairs c.reasons c.struck e within h.pairs event

      binds_now : (i : ℕ) → (tree_row old.objects i).binds ≡ sum_by (of_ends bind_waits i) (slice_set c.rows.pairs k (pair_after (Happens event) e.a (slice_index_or c.rows.pairs k no_pair)))
      binds_now i =
          let sums = sum_spot bind_waits i old.pairs c.rows.pairs e (in_rows within) h.pairs.each there _ (bind_waits (place_at (spot_at old.pairs e))) refl
          (ap bind_waits is_there ∙ binds_stay event (spot_at old.pairs e) may) in
          let were = binds_were i in
          omega (arith, sums, were)

      ends_now : (i : ℕ) → (tree_row old.objects i).ends ≡ sum_by (of_ends end_waits i) (slice_set c.rows.pairs k (pair_after (Happens event) e.a (slice_index_or c.rows.pairs k no_pair)))
      ends_now i =
          let sums = sum_spot end_waits i old.pairs c.rows.pairs e (in_rows within) h.pairs.each there _ (end_waits (place_at (spot_at old.pairs e))) refl
          (ap end_waits is_there ∙ ends_stay event (spot_at old.pairs e) may stays) in
          let were = ends_were i in
          omega (arith, sums, were)

  -- an end is gone
  pub end_goes_stands : (new : State L) → spot_comes AckCame (spot_at old.pairs e) ≡ true →
      state_at old.objects.tree (owner_at old.pairs e) ≢ Ended → 0 < (tree_row old.objects (owner_at old.pairs e).0).ends →
      new.pairs ≡ with_spot e (spot_after AckCame (spot_at old.pairs e)) old.pairs →
      new.objects ≡ with_tree (change without_end (owner_at old.pairs e) old.objects.tree) old.objects → new.boxes ≡ old.boxes → new.book ≡ old.book → new.workers ≡ old.workers →
      Stands new (stepped AckCame e c)
  end_goes_stands new may unended some is objects boxes book workers = record {
    objects = rw objects (quiet_stand without_end o old.objects c.rows.objects (λ t d. refl) h.objects);
    pairs = rw is (step_pairs old.pairs c.rows.pairs c.reasons c.struck e within h.pairs AckCame);
    counted = λ i. rw objects (counts_are _ _ _ _ (binds_now i) (ends_now i));
    sent = λ i. rw objects (let was = h.sent i in let same = made_stays (Happens AckCame) within (made_step AckCame e.a (slice_index_or c.rows.pairs k no_pair)) in
        let kept = read_kept (λ (t : TreeRow). t.sent) old.objects.tree o.0 i (without_end (row_at old.objects.tree o)) no_row refl in omega (arith, was, same, kept));
    lists = rw objects (moved_listed old.objects.lists c.rows.pairs c.attached c.holds h.lists k e.a _ _);
    boxes = rw boxes h.boxes;
    slots = rw boxes h.slots;
    workers = workers ∙ h.workers;
    names = rw book h.names;
  }
    where
      o : ObjId
      o = owner_at old.pairs e

      within : k < length old.pairs
      within = coming_placed AckCame e.a old.pairs k may

      there : Place
      there = place_after (Happens AckCame) (end_place (slice_index_or c.rows.pairs k no_pair) e.a)

      is_there : there ≡ place_at (spot_after AckCame (spot_at old.pairs e))
      is_there = step_at old.pairs c.rows.pairs c.reasons c.struck e within h.pairs AckCame

      binds_now : (i : ℕ) → (slice_index_or (change without_end o old.objects.tree) i no_row).binds
          ≡ sum_by (of_ends bind_waits i) (slice_set c.rows.pairs k (pair_after (Happens AckCame) e.a (slice_index_or c.rows.pairs k no_pair)))
      binds_now i =
          let sums = sum_spot bind_waits i old.pairs c.rows.pairs e (in_rows within) h.pairs.each there _ (bind_waits (place_at (spot_at old.pairs e))) refl
          (ap bind_waits is_there ∙ binds_stay AckCame (spot_at old.pairs e) may) in
          let were = binds_were i in
          let kept = read_kept (λ (t : TreeRow). t.binds) old.objects.tree o.0 i (without_end (row_at old.objects.tree o)) no_row refl in
          omega (arith, sums, were, kept)

      ends_now : (i : ℕ) → (slice_index_or (change without_end o old.objects.tree) i no_row).ends
          ≡ sum_by (of_ends end_waits i) (slice_set c.rows.pairs k (pair_after (Happens AckCame) e.a (slice_index_or c.rows.pairs k no_pair)))
      ends_now i =
          let sums = sum_spot end_waits i old.pairs c.rows.pairs e (in_rows within) h.pairs.each there 1 0 (end_was (spot_at old.pairs e) may)
          (ap end_waits is_there ∙ end_went (spot_at old.pairs e) may) in
          let were = ends_were i in
          let less = ends_less old.objects.tree o i (has_row old.objects.tree o unended) some in
          let none = no_more (o.0 == i) in
          omega (arith, sums, were, less, none)

  -- an end's bind comes
  pub bind_stands : (new : State L) → k < length old.pairs → spot_at old.pairs e ≡ Away →
      TakesEnd old.objects (owner_at old.pairs e) → 0 < (tree_row old.objects (owner_at old.pairs e).0).binds →
      new.pairs ≡ with_spot e (At new_life) old.pairs →
      new.objects ≡ with_attached (owner_at old.pairs e) e (with_tree (change with_bind_processed (owner_at old.pairs e) old.objects.tree) old.objects) →
      new.boxes ≡ old.boxes → new.book ≡ old.book → new.workers ≡ old.workers → Stands new (attach BindCame e c)
  bind_stands new within away takes some is objects boxes book workers = record {
    objects = rw objects (lists_aside (with_ends (with_last e) o.0 old.objects.lists) (with_tree (change with_end_more o mid) old.objects) c.rows.objects
        (quiet_stand with_end_more o (with_tree mid old.objects) c.rows.objects (λ t d. refl)
        (quiet_stand with_bind_processed o old.objects c.rows.objects (λ t d. refl) h.objects)));
    pairs = rw is (bind_pairs old.pairs c.rows.pairs c.reasons c.struck e within h.pairs away);
    counted = λ i. rw objects (counts_are _ _ _ _ (binds_now i) (ends_now i));
    sent = λ i. rw objects (let was = h.sent i in let same = made_stays BindCame within (made_bound e.a (slice_index_or c.rows.pairs k no_pair) (place_stands ∙ ap place_at away)) in
        let first = read_kept (λ (t : TreeRow). t.sent) old.objects.tree o.0 i (with_bind_processed (row_at old.objects.tree o)) no_row refl in
        let last = read_kept (λ (t : TreeRow). t.sent) mid o.0 i (with_end_more (row_at mid o)) no_row refl in omega (arith, was, same, first, last));
    lists = rw objects (attached_now BindCame within takes.room);
    boxes = rw boxes h.boxes;
    slots = rw boxes h.slots;
    workers = workers ∙ h.workers;
    names = rw book h.names;
  }
    where
      o : ObjId
      o = owner_at old.pairs e

      mid : List TreeRow
      mid = change with_bind_processed o old.objects.tree

      placed : o.0 < length old.objects.tree
      placed = has_row old.objects.tree o takes.unended

      placed_mid : o.0 < length mid
      placed_mid = subst (λ (n : ℕ). o.0 < n) (sym (length-set old.objects.tree o.0 (with_bind_processed (row_at old.objects.tree o)))) placed

      binds_now : (i : ℕ) → (slice_index_or (change with_end_more o mid) i no_row).binds
          ≡ sum_by (of_ends bind_waits i) (slice_set c.rows.pairs k (pair_after BindCame e.a (slice_index_or c.rows.pairs k no_pair)))
      binds_now i =
          let sums = sum_spot bind_waits i old.pairs c.rows.pairs e (in_rows within) h.pairs.each (IsAt Active) 1 0 (ap (λ (s : Spot). bind_waits (place_at s)) away) refl in
          let were = binds_were i in
          let less = binds_less old.objects.tree o i placed some in
          let kept = read_kept (λ (t : TreeRow). t.binds) mid o.0 i (with_end_more (row_at mid o)) no_row refl in
          let none = no_more (o.0 == i) in
          omega (arith, sums, were, less, kept, none)

      ends_now : (i : ℕ) → (slice_index_or (change with_end_more o mid) i no_row).ends
          ≡ sum_by (of_ends end_waits i) (slice_set c.rows.pairs k (pair_after BindCame e.a (slice_index_or c.rows.pairs k no_pair)))
      ends_now i =
          let sums = sum_spot end_waits i old.pairs c.rows.pairs e (in_rows within) h.pairs.each (IsAt Active) 0 1 (ap (λ (s : Spot). end_waits (place_at s)) away) refl in
          let were = ends_were i in
          let more = ends_more mid o i placed_mid in
          let kept = read_kept (λ (t : TreeRow). t.ends) old.objects.tree o.0 i (with_bind_processed (row_at old.objects.tree o)) no_row refl in
          let none = no_more (o.0 == i) in
          omega (arith, sums, were, more, kept, none)

  -- a pair is made
  pub open_stands : (new : State L) → k < length old.pairs → spot_at old.pairs e ≡ Unmade → spot_at old.pairs (other_end e) ≡ Unmade →
      TakesEnd old.objects (owner_at old.pairs e) → state_at old.objects.tree (owner_at old.pairs (other_end e)) ≢ Ended →
      new.pairs ≡ slice_set old.pairs k (entry_open e.a (entry_at old.pairs k)) →
      new.objects ≡ with_tree (change with_bind_sent (owner_at old.pairs (other_end e)) (change with_end_more (owner_at old.pairs e) old.objects.tree))
      (with_attached (owner_at old.pairs e) e old.objects) →
      new.boxes ≡ old.boxes → new.book ≡ old.book → new.workers ≡ old.workers → Stands new (attach Opens e c)
  open_stands new within unmade other_unmade takes other_unended is objects boxes book workers = record {
    objects = rw objects (quiet_stand with_bind_sent t (with_attached o e old.objects) c.rows.objects (λ t d. refl)
        (lists_aside (with_ends (with_last e) o.0 old.objects.lists) (with_tree mid old.objects) c.rows.objects
        (quiet_stand with_end_more o old.objects c.rows.objects (λ t d. refl) h.objects)));
    pairs = rw is (open_pairs old.pairs c.rows.pairs c.reasons c.struck e within h.pairs unmade other_unmade);
    counted = λ i. rw objects (counts_are _ _ _ _ (binds_now i) (ends_now i));
    sent = λ i. rw objects (let was = h.sent i in
        let sums = sum_by-set made_once c.rows.pairs k (pair_after Opens e.a (slice_index_or c.rows.pairs k no_pair)) no_pair (in_rows within) in
        let one = made_opened e.a (slice_index_or c.rows.pairs k no_pair) in
        let none = made_none (slice_index_or c.rows.pairs k no_pair) e.a (place_stands ∙ ap place_at unmade) (other_place ∙ ap place_at other_unmade) in
        let first = read_kept (λ (t : TreeRow). t.sent) old.objects.tree o.0 i (with_end_more (row_at old.objects.tree o)) no_row refl in
        let last = read_more (λ (t : TreeRow). t.sent) mid t.0 i (with_bind_sent (row_at mid t)) no_row 1 placed_mid refl in
        let few = one_at_most (t.0 == i) in
        omega (arith, was, sums, one, none, first, last, few));
    lists = rw objects (attached_now Opens within takes.room);
    boxes = rw boxes h.boxes;
    slots = rw boxes h.slots;
    workers = workers ∙ h.workers;
    names = rw book h.names;
  }
    where
      o : ObjId
      o = owner_at old.pairs e

      t : ObjId
      t = owner_at old.pairs (other_end e)

      mid : List TreeRow
      mid = change with_end_more o old.objects.tree

      placed_mid : t.0 < length mid
      placed_mid = subst (λ (n : ℕ). t.0 < n) (sym (length-set old.objects.tree o.0 (with_end_more (row_at old.objects.tree o)))) (has_row old.objects.tree t other_unended)

      binds_now : (i : ℕ) → (slice_index_or (change with_bind_sent t mid) i no_row).binds
          ≡ sum_by (of_ends bind_waits i) (slice_set c.rows.pairs k (pair_after Opens e.a (slice_index_or c.rows.pairs k no_pair)))
      binds_now i =
          let sums = sum_open bind_waits i old.pairs c.rows.pairs e (in_rows within) h.pairs.each (IsAt Active) IsAway 0 1
          (ap (λ (s : Spot). bind_waits (place_at s)) unmade) (ap (λ (s : Spot). bind_waits (place_at s)) other_unmade) refl refl in
          let were = binds_were i in
          let more = binds_more mid t i placed_mid in
          let kept = read_kept (λ (t : TreeRow). t.binds) old.objects.tree o.0 i (with_end_more (row_at old.objects.tree o)) no_row refl in
          let none = no_more (o.0 == i) in
          omega (arith, sums, were, more, kept, none)

      ends_now : (i : ℕ) → (slice_index_or (change with_bind_sent t mid) i no_row).ends
          ≡ sum_by (of_ends end_waits i) (slice_set c.rows.pairs k (pair_after Opens e.a (slice_index_or c.rows.pairs k no_pair)))
      ends_now i =
          let sums = sum_open end_waits i old.pairs c.rows.pairs e (in_rows within) h.pairs.each (IsAt Active) IsAway 1 0
          (ap (λ (s : Spot). end_waits (place_at s)) unmade) (ap (λ (s : Spot). end_waits (place_at s)) other_unmade) refl refl in
          let were = ends_were i in
          let more = ends_more old.objects.tree o i (has_row old.objects.tree o takes.unended) in
          let kept = read_kept (λ (t : TreeRow). t.ends) mid t.0 i (with_bind_sent (row_at mid t)) no_row refl in
          let none = no_more (t.0 == i) in
          omega (arith, sums, were, more, kept, none)

  -- the connect of an end is struck
  pub strike_stands : (new : State L) → k < length old.pairs → new.pairs ≡ slice_set old.pairs k (entry_struck e.a (entry_at old.pairs k)) →
      new.objects ≡ old.objects → new.boxes ≡ old.boxes → new.book ≡ old.book → new.workers ≡ old.workers → Stands new (struck_now e c)
  strike_stands new within is objects boxes book workers = record {
    objects = rw objects h.objects;
    pairs = rw is (strike_pairs old.pairs c.rows.pairs c.reasons c.struck e within h.pairs);
    counted = λ i. rw objects (h.counted i);
    sent = λ i. rw objects (h.sent i);
    lists = rw objects h.lists;
    boxes = rw boxes h.boxes;
    slots = rw boxes h.slots;
    workers = workers ∙ h.workers;
    names = rw book h.names;
  }

-- the objects behind the calls of a bind, and of a pair's making
pub bound_objects : (old mid new : ObjectRows) (e : EndId) (o owner : ObjId) → owner ≡ o → mid ≡ with_tree (change with_bind_processed owner old.tree) old →
    new ≡ with_attached owner e mid → new ≡ with_attached o e (with_tree (change with_bind_processed o old.tree) old)
bound_objects old mid new e o owner same first second =
    second ∙ ap (λ (m : ObjectRows). with_attached owner e m) first
    ∙ ap (λ (w : ObjId). with_attached w e (with_tree (change with_bind_processed w old.tree) old)) same

pub opened_objects : (old mid new : ObjectRows) (e : EndId) (o t owner other : ObjId) → owner ≡ o → other ≡ t → mid ≡ with_attached owner e old →
    new ≡ with_tree (change with_bind_sent other mid.tree) mid → new ≡ with_tree (change with_bind_sent t (change with_end_more o old.tree)) (with_attached o e old)
opened_objects old mid new e o t owner other same same_other first second =
    second ∙ ap (λ (m : ObjectRows). with_tree (change with_bind_sent other m.tree) m) first
    ∙ ap (λ (w : ObjId). with_tree (change with_bind_sent other (change with_end_more w old.tree)) (with_attached w e old)) same
    ∙ ap (λ (w : ObjId). with_tree (change with_bind_sent w (change with_end_more o old.tree)) (with_attached o e old)) same_other
