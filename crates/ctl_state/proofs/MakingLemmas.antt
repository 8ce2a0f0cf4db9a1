-- That what is kept goes on standing for a control state, where an object is made or a pair's number drawn.
use Rattle.std.specs.Prelude.{◌≡◌, ◌<◌, ◌+◌, ◌⊎◌, ◌==◌, ◌++◌, ◌∷◌, [], ℕ, Bool, true, false, cond, List, length, sum_by, slice_index_or, refl, ◌≤◌}
use Rattle.std.proofs.Common.{arith, sym, ap, ◌∙◌, subst, inl, inr, length-append}
use Rattle.std.proofs.lemmas.Bool.{cases_order, cases_eq, cases_lt}
use Rattle.std.proofs.lemmas.List.{length-set, length_push, get_or_past, get_or_push, get_or_append_left, get_or-set_same, get_or-set_other, set_past}
use Rattle.std.proofs.lemmas.List.Sums.{sum_by_push}
use Rattle.zq_base.specs.declared.ids.ObjId.{ObjId}
use Rattle.spec_control.specs.Place.{Place, Unmade as IsUnmade}
use Rattle.spec_control.specs.Row.{Row, nobody}
use Rattle.spec_control.specs.Rows.{PairRow, no_pair, of_ends, bind_waits, end_waits}
use Rattle.spec_control.specs.Control.{Control, draws, makes}
use Rattle.ctl_state.specs.declared.pair.Entry.{Entry}
use Rattle.ctl_state.specs.declared.state.State.{State}
use Rattle.ctl_state.specs.declared.detail.Detail.{Detail}
use Rattle.ctl_state.specs.declared.detail.Made.{Made}
use Rattle.own_tree.specs.declared.row.Row.{Row as TreeRow}
use Rattle.own_tree.specs.Rows.{no_row, row_at}
use Rattle.own_tree.specs.Changes.{change, made_row, with_made, with_own, owns_of}
use Rattle.ctl_state.specs.Lists.{room_for}
use Rattle.ctl_state.specs.Objects.{ObjectRows, Counts, no_detail, row_of, row_made, kept_row, counts_of, MakesRow}
use Rattle.ctl_state.specs.Pairs.{no_entry, entry_drawn, reason_at, spot_in, struck_in, pair_row}
use Rattle.ctl_state.specs.Stands.{ends_counted, slot_more, Stands, made_once}
use Rattle.ctl_state.proofs.ReadLemmas.{read_kept, pushed_read, pushed_same, pushed_other}
use Rattle.ctl_state.proofs.ListedLemmas.{made_listed, drawn_listed}
use Rattle.spec_control.specs.declared.object.ObjKind.{ObjKind}
use Rattle.spec_control.specs.declared.object.ObjKind.TheVariants.{Root, Socket, Listener, Session}

no_more : (b : Bool) → ◌≡◌ {A = ℕ} (cond b 0 0) 0
no_more true = refl
no_more false = refl

module _ {L : Type 0} where
  -- an object more, behind its mailbox
  pub make_stands : (old new : State L) (ends : ℕ) (row : Row) → MakesRow ends row old.objects new.objects → new.pairs ≡ old.pairs → new.boxes ≡ old.boxes → new.book ≡ old.book → new.workers ≡ old.workers →
      (c : Control) → Stands old (slot_more c) → Stands new (makes row c)
  make_stands old new ends row m pairs boxes book workers c h = record {
    objects = record { each = λ j. at j (cases_order j (length old.objects.tree)); many = length-append c.rows.objects (row ∷ []) ∙ ap (λ (n : ℕ). n + 1) h.objects.many ∙ sym m.many };
    pairs = rw pairs h.pairs;
    counted = λ j. m.counts j ∙ h.counted j;
    sent = λ j. let was = h.sent j in let more = m.sent j in let many = length_push c.rows.objects row in omega (arith, was, more, many);
    lists = rw m.lists (made_listed old.objects.lists c.rows.pairs c.attached c.holds h.lists ends);
    boxes = rw boxes h.boxes;
    slots = rw boxes h.slots;
    workers = workers ∙ h.workers;
    names = rw book h.names;
  }
    where
      at : (j : ℕ) → (j ≡ length old.objects.tree) ⊎ ((j < length old.objects.tree) ⊎ (length old.objects.tree < j)) → slice_index_or (c.rows.objects ++ row ∷ []) j nobody ≡ kept_row new.objects j
      at j (inl is) = get_or_push c.rows.objects row nobody j (h.objects.many ∙ sym is) ∙ sym (ap (kept_row new.objects) is ∙ m.here)
      at j (inr (inl below)) =
          get_or_append_left c.rows.objects (row ∷ []) nobody j (subst (λ (n : ℕ). j < n) (sym h.objects.many) below) ∙ h.objects.each j
          ∙ sym (m.elsewhere j (λ e. omega (arith, e, below)))
      at j (inr (inr above)) =
          get_or_past (c.rows.objects ++ row ∷ []) j nobody (omega (arith, above, h.objects.many, length-append c.rows.objects (row ∷ [])))
          ∙ sym (get_or_past c.rows.objects j nobody (omega (arith, above, h.objects.many))) ∙ h.objects.each j ∙ sym (m.elsewhere j (λ e. omega (arith, e, above)))

  -- a pair's number more
  pub draw_stands : (old new : State L) (a b : ObjId) → new.pairs ≡ old.pairs ++ entry_drawn a b ∷ [] → new.objects ≡ old.objects → new.boxes ≡ old.boxes → new.book ≡ old.book → new.workers ≡ old.workers →
      (c : Control) → Stands old c → Stands new (draws a.0 b.0 c)
  draw_stands old new a b is objects boxes book workers c h = record {
    objects = rw objects h.objects;
    pairs = rw is (record {
      each = λ j. pushed_read (λ (r : PairRow). r) pair_row c.rows.pairs old.pairs row no_pair drawn no_entry j h.pairs.many refl refl (h.pairs.each j);
      many = length-append c.rows.pairs (row ∷ []) ∙ ap (λ (n : ℕ). n + 1) h.pairs.many ∙ sym (length-append old.pairs (drawn ∷ []));
      reasons_are = λ d. h.pairs.reasons_are d ∙ sym (pushed_same (λ (x : Entry). reason_at (spot_in x d.a)) old.pairs drawn no_entry d.pair.0 (no_reason d.a));
      struck_are = λ d. h.pairs.struck_are d ∙ sym (pushed_same (λ (x : Entry). struck_in x d.a) old.pairs drawn no_entry d.pair.0 (not_struck d.a));
    });
    counted = λ i. rw objects (h.counted i ∙ sums i);
    sent = λ i. rw objects (let was = h.sent i in let push = sum_by_push made_once c.rows.pairs row in omega (arith, was, push));
    lists = rw objects (drawn_listed old.objects.lists c.rows.pairs c.attached c.holds h.lists row);
    boxes = rw boxes h.boxes;
    slots = rw boxes h.slots;
    workers = workers ∙ h.workers;
    names = rw book h.names;
  }
    where
      drawn : Entry
      drawn = entry_drawn a b

      row : PairRow
      row = pair_row drawn

      no_reason : (s : Bool) → reason_at (spot_in drawn s) ≡ reason_at (spot_in no_entry s)
      no_reason true = refl
      no_reason false = refl

      not_struck : (s : Bool) → struck_in drawn s ≡ struck_in no_entry s
      not_struck true = refl
      not_struck false = refl

      sum_same : (f : Place → ℕ) (i : ℕ) → f IsUnmade ≡ 0 → sum_by (of_ends f i) c.rows.pairs ≡ sum_by (of_ends f i) (c.rows.pairs ++ row ∷ [])
      sum_same f i none =
          let push = sum_by_push (of_ends f i) c.rows.pairs row in
          let x = ap (λ (n : ℕ). cond (a.0 == i) n 0) none ∙ no_more (a.0 == i) in
          let y = ap (λ (n : ℕ). cond (b.0 == i) n 0) none ∙ no_more (b.0 == i) in
          omega (arith, push, x, y)

      sums : (i : ℕ) → ends_counted c.rows.pairs i ≡ ends_counted (c.rows.pairs ++ row ∷ []) i
      sums i = ap (λ (n : ℕ). let x : Counts = record { binds = n; ends = sum_by (of_ends end_waits i) c.rows.pairs } in x) (sum_same bind_waits i refl)
          ∙ ap (λ (n : ℕ). let x : Counts = record { binds = sum_by (of_ends bind_waits i) (c.rows.pairs ++ row ∷ []); ends = n } in x) (sum_same end_waits i refl)

-- the objects behind the making of one
pub makes_row : (ends : ℕ) (owner : ObjId) (made : Made) (inside old new : ObjectRows) → inside ≡ old → length inside.details ≡ length inside.tree →
    new.tree ≡ with_made owner made.kind made.slot made.plug inside.tree → new.details ≡ inside.details ++ made.detail ∷ [] →
    new.lists ≡ inside.lists ++ room_for ends ∷ [] → MakesRow ends (row_made owner made) old new
makes_row ends owner made inside old new same even tree details lists = subst (λ (o : ObjectRows). MakesRow ends (row_made owner made) o new) same (record {
  here = rw (tree, details) (ap (λ (t : TreeRow). row_of t (slice_index_or (inside.details ++ made.detail ∷ []) n no_detail)) (get_or_push changed row no_row n as_many)
      ∙ ap (λ (d : Detail). row_of row d) (get_or_push inside.details made.detail no_detail n even));
  elsewhere = λ j other. rw (tree, details)
      (ap (λ (t : TreeRow). row_of t (slice_index_or (inside.details ++ made.detail ∷ []) j no_detail)) (pushed_other changed row no_row j (λ e. other (e ∙ as_many)))
      ∙ read_kept (λ (t : TreeRow). row_of t (slice_index_or (inside.details ++ made.detail ∷ []) j no_detail)) inside.tree owner.0 j (with_own made.kind (row_at inside.tree owner)) no_row refl
      ∙ ap (λ (d : Detail). row_of (slice_index_or inside.tree j no_row) d) (pushed_other inside.details made.detail no_detail j (λ e. other (e ∙ even))));
  many = rw tree (length_push changed row ∙ ap (λ (k : ℕ). k + 1) as_many);
  counts = λ j. rw tree (pushed_same counts_of changed row no_row j refl ∙ read_kept counts_of inside.tree owner.0 j (with_own made.kind (row_at inside.tree owner)) no_row refl);
  sent = λ j. rw tree (sent_at j (cases_eq j n));
  lists = lists;
})
  where
    n : ℕ
    n = length inside.tree

    changed : List TreeRow
    changed = change (with_own made.kind) owner inside.tree

    row : TreeRow
    row = made_row owner made.kind made.slot made.plug

    as_many : length changed ≡ length inside.tree
    as_many = length-set inside.tree owner.0 (with_own made.kind (row_at inside.tree owner))

    few : (kind : ObjKind) → owns_of kind ≤ 1
    few Root = omega arith
    few (Socket kind) = omega arith
    few Listener = omega arith
    few Session = omega arith

    plug_few : (b : Bool) → cond b 1 0 ≤ 1
    plug_few true = omega arith
    plug_few false = omega arith

    changed_sent : (j : ℕ) → (j ≡ owner.0) ⊎ (j ≡ owner.0 → ⊥) → (slice_index_or changed j no_row).sent ≤ (slice_index_or inside.tree j no_row).sent + 1
    changed_sent j (inl same) = own_sent (cases_lt owner.0 (length inside.tree))
      where
        own_sent : (owner.0 < length inside.tree) ⊎ (length inside.tree ≤ owner.0) → (slice_index_or changed j no_row).sent ≤ (slice_index_or inside.tree j no_row).sent + 1
        own_sent (inl within) =
            let here = ap (λ (k : ℕ). (slice_index_or changed k no_row).sent) same
            ∙ ap (λ (t : TreeRow). t.sent) (get_or-set_same inside.tree owner.0 (with_own made.kind (row_at inside.tree owner)) no_row within) in
            let was = ap (λ (k : ℕ). (slice_index_or inside.tree k no_row).sent) same in
            let one = few made.kind in
            omega (arith, here, was, one)
        own_sent (inr past) =
            let here = ap (λ (ts : List TreeRow). (slice_index_or ts j no_row).sent) (set_past inside.tree owner.0 (with_own made.kind (row_at inside.tree owner)) past) in
            omega (arith, here)
    changed_sent j (inr other) =
        let here = ap (λ (t : TreeRow). t.sent) (get_or-set_other inside.tree owner.0 j (with_own made.kind (row_at inside.tree owner)) no_row other) in
        omega (arith, here)

    sent_at : (j : ℕ) → (j ≡ n) ⊎ (j ≡ n → ⊥) → (slice_index_or (changed ++ row ∷ []) j no_row).sent ≤ (slice_index_or inside.tree j no_row).sent + 1
    sent_at j (inl same) =
        let here = ap (λ (k : ℕ). (slice_index_or (changed ++ row ∷ []) k no_row).sent) same ∙ ap (λ (t : TreeRow). t.sent) (get_or_push changed row no_row n as_many) in
        let one = plug_few made.plug in
        omega (arith, here, one)
    sent_at j (inr other) =
        let here = ap (λ (t : TreeRow). t.sent) (pushed_other changed row no_row j (λ e. other (e ∙ as_many))) in
        let mine = changed_sent j (cases_eq j owner.0) in
        omega (arith, here, mine)
