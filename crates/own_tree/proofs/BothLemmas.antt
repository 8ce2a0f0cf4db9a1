-- What is kept beside the rows stays right where a child and its owner change.
use Rattle.std.specs.Prelude.{◌≡◌, ◌≢◌, ◌<◌, ◌≤◌, ◌+◌, ◌-◌, ◌^◌, ℕ, Bool, false, not, cond, List, length, Some, slice_index_or, slice_set, refl}
use Rattle.std.proofs.Common.{arith, sym, ap, ◌∙◌, subst, length-set}
use Rattle.zq_base.specs.declared.ids.ObjId.{ObjId}
use Rattle.spec_control.specs.declared.object.ObjState.TheVariants.{Ended}
use Rattle.spec_control.specs.declared.stage.Stage.TheVariants.{Alive, Told, Finished, Cleared}
use Rattle.own_tree.specs.declared.row.Row.{Row}
use Rattle.own_tree.specs.declared.tally.Tally.{Tally}
use Rattle.own_tree.specs.Rows.{no_row, row_at, state_at, tree_of, lives, lives_in, is_unnoted, is_awaited, awaited_in, children_of, children_where, living_children, unnoted_children, awaited_children, live_objects, plugs_coming, AllAddUp}
use Rattle.own_tree.specs.Changes.{change, in_stage, as_noted, one_more_processed, one_more_owed, one_less_owed, with_noted, with_told, with_cleared}
use Rattle.own_tree.specs.Tallies.{no_tally, tally_at, IsTally, AreTallied}
use Rattle.own_tree.proofs.WriteLemmas.{one_if_owner, reads_same, reads_more, reads_less, read_within}
use Rattle.own_tree.proofs.SumLemmas.{where_same, where_less, where_more, where_some, live-set, children-set}
use Rattle.own_tree.proofs.RowLemmas.{has_row, owned_has_row, tree_of-with_noted, tree_of-with_told, tree_of-with_cleared}

-- a number of the rows behind the writes of a child and of its owner
module _ (g : Row → ℕ) (rows : List Row) (child owner id : ObjId) (c o : Row) (hc : child.0 < length rows) (ho : owner.0 < length rows) (ec : g c ≡ g (row_at rows child)) where
  within : owner.0 < length (slice_set rows child.0 c)
  within = subst (λ n. owner.0 < n) (sym (length-set rows child.0 c)) ho

  pub both_same : g o ≡ g (row_at (slice_set rows child.0 c) owner) → g (row_at (slice_set (slice_set rows child.0 c) owner.0 o) id) ≡ g (row_at rows id)
  both_same e = reads_same no_row g (slice_set rows child.0 c) owner id o within e ∙ reads_same no_row g rows child id c hc ec

  pub both_more : g o ≡ g (row_at (slice_set rows child.0 c) owner) + 1 → g (row_at (slice_set (slice_set rows child.0 c) owner.0 o) id) ≡ g (row_at rows id) + one_if_owner id owner
  both_more e = reads_more no_row g (slice_set rows child.0 c) owner id o within 1 e ∙ ap (λ n. n + one_if_owner id owner) (reads_same no_row g rows child id c hc ec)

  pub both_less : g o + 1 ≡ g (row_at (slice_set rows child.0 c) owner) → g (row_at (slice_set (slice_set rows child.0 c) owner.0 o) id) + one_if_owner id owner ≡ g (row_at rows id)
  both_less e = reads_less no_row g (slice_set rows child.0 c) owner id o within e ∙ reads_same no_row g rows child id c hc ec

-- how many children are so, behind the write of their owner
pub owner_same : (test : Row → Bool) (rows : List Row) (child owner id : ObjId) (c o : Row) → owner.0 < length rows →
    o.owner ≡ (row_at (slice_set rows child.0 c) owner).owner → test o ≡ test (row_at (slice_set rows child.0 c) owner) →
    children_where test (slice_set (slice_set rows child.0 c) owner.0 o) id ≡ children_where test (slice_set rows child.0 c) id
owner_same test rows child owner id c o ho oo oe =
    where_same test (slice_set rows child.0 c) owner o (subst (λ n. owner.0 < n) (sym (length-set rows child.0 c)) ho) oo oe id

-- what the two writes keep in any case
pub record BothKeep (rows new : List Row) : Type 0 where
  pub count : length new ≡ length rows
  pub children : (id : ObjId) → children_of (tree_of new) id ≡ children_of (tree_of rows) id
  pub living : (id : ObjId) → living_children new id ≡ living_children rows id
  pub live : live_objects new ≡ live_objects rows

pub both_keep : (f g : Row → Row) (rows : List Row) (owner child : ObjId) → owner.0 < length rows → child.0 < length rows →
    ((r : Row) → (f r).owner ≡ r.owner) → ((r : Row) → (g r).owner ≡ r.owner) → ((r : Row) → lives (f r) ≡ lives r) →
    lives (g (row_at rows child)) ≡ lives (row_at rows child) → BothKeep rows (change f owner (change g child rows))
both_keep f g rows owner child ho hc fo go fl gl =
    record {
      count = length-set mid owner.0 o ∙ length-set rows child.0 c;
      children = λ id. children-set 0 mid owner.0 o id (fo (row_at mid owner)) ∙ children-set 0 rows child.0 c id (go (row_at rows child));
      living = λ id. where_same lives mid owner o hm (fo (row_at mid owner)) (fl (row_at mid owner)) id ∙ where_same lives rows child c hc (go (row_at rows child)) gl id;
      live = both;
    }
  where
    c : Row
    c = g (row_at rows child)

    mid : List Row
    mid = slice_set rows child.0 c

    o : Row
    o = f (row_at mid owner)

    hm : owner.0 < length mid
    hm = subst (λ n. owner.0 < n) (sym (length-set rows child.0 c)) ho

    both : live_objects (slice_set mid owner.0 o) ≡ live_objects rows
    both =
        let a = live-set mid owner o hm in
        let b = live-set rows child c hc in
        let e = ap {B = ℕ} (λ (t : Bool). cond t 1 0) (fl (row_at mid owner)) in
        let k = ap {B = ℕ} (λ (t : Bool). cond t 1 0) gl in
        omega (arith, a, b, e, k)

-- rows and tallies behind the two writes, where the counts add up there
pub tallied_both : (rows new : List Row) (tallies more : List Tally) (lists : List (List ObjId)) (count : ℕ) → AreTallied rows tallies lists count →
    BothKeep rows new → length more ≡ length tallies → ((id : ObjId) → IsTally new id (tally_at more id)) → AllAddUp new → AreTallied new more lists count
tallied_both rows new tallies more lists count all keep size each adds =
    record {
      tallied = size ∙ all.tallied ∙ sym keep.count;
      listed = all.listed ∙ sym keep.count;
      few = subst (λ n. n ≤ 2 ^ 32) (sym keep.count) all.few;
      each = each;
      children = λ id. all.children id ∙ sym (keep.children id);
      live = all.live ∙ sym keep.live;
      add_up = adds;
    }

-- the owner of a child that has ended and has not acknowledged is owed something
pub owed_some : (rows : List Row) (owner child : ObjId) → AllAddUp rows → (row_at rows child).owner ≡ Some owner → (row_at rows child).stage ≡ Finished →
    1 ≤ (row_at rows owner).owed
owed_some rows owner child all o finished =
    let some = where_some is_awaited rows child owner (owned_has_row rows child owner o) o (ap awaited_in finished) in
    let up = (all owner).owed in
    omega (arith, some, up)

-- a child was noted
pub noted_kept : (rows : List Row) (tallies : List Tally) (lists : List (List ObjId)) (count : ℕ) (owner child : ObjId) (t : Tally) →
    AreTallied rows tallies lists count → owner.0 < length rows → (row_at rows child).owner ≡ Some owner → (row_at rows child).noted ≡ false →
    t.living ≡ (tally_at tallies owner).living → t.unnoted + 1 ≡ (tally_at tallies owner).unnoted →
    AreTallied (with_noted owner child rows) (slice_set tallies owner.0 t) lists count
noted_kept rows tallies lists count owner child t all ho o n tl tu =
    tallied_both rows _ tallies _ lists count all
    (both_keep one_more_processed as_noted rows owner child ho hc (λ r. refl) (λ r. refl) (λ r. refl) refl)
    (length-set tallies owner.0 t) each adds
  where
    hc : child.0 < length rows
    hc = owned_has_row rows child owner o

    ht : owner.0 < length tallies
    ht = subst (λ n. owner.0 < n) (sym all.tallied) ho

    c : Row
    c = as_noted (row_at rows child)

    ro : Row
    ro = one_more_processed (row_at (slice_set rows child.0 c) owner)

    unnoted : (id : ObjId) → unnoted_children (with_noted owner child rows) id + one_if_owner id owner ≡ unnoted_children rows id
    unnoted id =
        let a = owner_same is_unnoted rows child owner id c ro ho refl refl in
        let b = where_less is_unnoted rows child c hc owner o (ap not n) refl id in
        omega (arith, a, b)

    awaited : (id : ObjId) → awaited_children (with_noted owner child rows) id ≡ awaited_children rows id
    awaited id = owner_same is_awaited rows child owner id c ro ho refl refl ∙ where_same is_awaited rows child c hc refl refl id

    living : (id : ObjId) → living_children (with_noted owner child rows) id ≡ living_children rows id
    living id = owner_same lives rows child owner id c ro ho refl refl ∙ where_same lives rows child c hc refl refl id

    each : (id : ObjId) → IsTally (with_noted owner child rows) id (tally_at (slice_set tallies owner.0 t) id)
    each id =
        let u = unnoted id in
        let v = reads_less no_tally (λ (w : Tally). w.unnoted) tallies owner id t ht tu in
        let was = (all.each id).unnoted in
        record {
          living = reads_same no_tally (λ (w : Tally). w.living) tallies owner id t ht tl ∙ (all.each id).living ∙ sym (living id);
          unnoted = omega (arith, u, v, was);
        }

    adds : AllAddUp (with_noted owner child rows)
    adds id =
        let was = all.add_up id in
        let ws = was.sent in
        let wo = was.owed in
        let u = unnoted id in
        let w = awaited id in
        let s = both_same (λ (r : Row). r.sent) rows child owner id c ro hc ho refl refl in
        let p = both_more (λ (r : Row). r.processed) rows child owner id c ro hc ho refl refl in
        let b = both_same (λ (r : Row). r.binds) rows child owner id c ro hc ho refl refl in
        let g = both_same plugs_coming rows child owner id c ro hc ho refl refl in
        let d = both_same (λ (r : Row). r.owed) rows child owner id c ro hc ho refl refl in
        let e = both_same (λ (r : Row). r.ends) rows child owner id c ro hc ho refl refl in
        record {
          sent = omega (arith, ws, u, s, p, b, g);
          owed = omega (arith, wo, w, d, e);
          sent_fits = subst (λ k. k < 2 ^ 64) (sym s) was.sent_fits;
          ends_fit = subst (λ k. k < 2 ^ 32) (sym e) was.ends_fit;
        }

-- a child was told
pub told_kept : (rows : List Row) (tallies : List Tally) (lists : List (List ObjId)) (count : ℕ) (owner child : ObjId) →
    AreTallied rows tallies lists count → owner.0 < length rows → (row_at rows child).owner ≡ Some owner → (row_at rows child).stage ≡ Alive →
    AreTallied (with_told owner child rows) tallies lists count
told_kept rows tallies lists count owner child all ho o alive =
    tallied_both rows _ tallies tallies lists count all keep refl each adds
  where
    hc : child.0 < length rows
    hc = owned_has_row rows child owner o

    c : Row
    c = in_stage Told (row_at rows child)

    ro : Row
    ro = one_more_owed (row_at (slice_set rows child.0 c) owner)

    keep : BothKeep rows (with_told owner child rows)
    keep = both_keep one_more_owed (in_stage Told) rows owner child ho hc (λ r. refl) (λ r. refl) (λ r. refl) (sym (ap lives_in alive))

    unnoted : (id : ObjId) → unnoted_children (with_told owner child rows) id ≡ unnoted_children rows id
    unnoted id = owner_same is_unnoted rows child owner id c ro ho refl refl ∙ where_same is_unnoted rows child c hc refl refl id

    awaited : (id : ObjId) → awaited_children (with_told owner child rows) id ≡ awaited_children rows id + one_if_owner id owner
    awaited id =
        let a = owner_same is_awaited rows child owner id c ro ho refl refl in
        let b = where_more is_awaited rows child c hc owner o (ap awaited_in alive) refl id in
        omega (arith, a, b)

    each : (id : ObjId) → IsTally (with_told owner child rows) id (tally_at tallies id)
    each id = record { living = (all.each id).living ∙ sym (keep.living id); unnoted = (all.each id).unnoted ∙ sym (unnoted id) }

    adds : AllAddUp (with_told owner child rows)
    adds id =
        let was = all.add_up id in
        let ws = was.sent in
        let wo = was.owed in
        let u = unnoted id in
        let w = awaited id in
        let s = both_same (λ (r : Row). r.sent) rows child owner id c ro hc ho refl refl in
        let p = both_same (λ (r : Row). r.processed) rows child owner id c ro hc ho refl refl in
        let b = both_same (λ (r : Row). r.binds) rows child owner id c ro hc ho refl refl in
        let g = both_same plugs_coming rows child owner id c ro hc ho refl refl in
        let d = both_more (λ (r : Row). r.owed) rows child owner id c ro hc ho refl refl in
        let e = both_same (λ (r : Row). r.ends) rows child owner id c ro hc ho refl refl in
        record {
          sent = omega (arith, ws, u, s, p, b, g);
          owed = omega (arith, wo, w, d, e);
          sent_fits = subst (λ k. k < 2 ^ 64) (sym s) was.sent_fits;
          ends_fit = subst (λ k. k < 2 ^ 32) (sym e) was.ends_fit;
        }

-- the acknowledgement of a child was processed
pub cleared_kept : (rows : List Row) (tallies : List Tally) (lists : List (List ObjId)) (count : ℕ) (owner child : ObjId) →
    AreTallied rows tallies lists count → owner.0 < length rows → (row_at rows child).owner ≡ Some owner → (row_at rows child).stage ≡ Finished →
    AreTallied (with_cleared owner child rows) tallies lists count
cleared_kept rows tallies lists count owner child all ho o finished =
    tallied_both rows _ tallies tallies lists count all keep refl each adds
  where
    hc : child.0 < length rows
    hc = owned_has_row rows child owner o

    c : Row
    c = in_stage Cleared (row_at rows child)

    ro : Row
    ro = one_less_owed (row_at (slice_set rows child.0 c) owner)

    keep : BothKeep rows (with_cleared owner child rows)
    keep = both_keep one_less_owed (in_stage Cleared) rows owner child ho hc (λ r. refl) (λ r. refl) (λ r. refl) (sym (ap lives_in finished))

    unnoted : (id : ObjId) → unnoted_children (with_cleared owner child rows) id ≡ unnoted_children rows id
    unnoted id = owner_same is_unnoted rows child owner id c ro ho refl refl ∙ where_same is_unnoted rows child c hc refl refl id

    awaited : (id : ObjId) → awaited_children (with_cleared owner child rows) id + one_if_owner id owner ≡ awaited_children rows id
    awaited id =
        let a = owner_same is_awaited rows child owner id c ro ho refl refl in
        let b = where_less is_awaited rows child c hc owner o (ap awaited_in finished) refl id in
        omega (arith, a, b)

    each : (id : ObjId) → IsTally (with_cleared owner child rows) id (tally_at tallies id)
    each id = record { living = (all.each id).living ∙ sym (keep.living id); unnoted = (all.each id).unnoted ∙ sym (unnoted id) }

    -- what the owner is owed is at least that child's acknowledgement
    fewer : ro.owed + 1 ≡ (row_at (slice_set rows child.0 c) owner).owed
    fewer =
        let some = owed_some rows owner child all.add_up o finished in
        let same = reads_same no_row (λ (r : Row). r.owed) rows child owner c hc refl in
        omega (arith, some, same)

    adds : AllAddUp (with_cleared owner child rows)
    adds id =
        let was = all.add_up id in
        let ws = was.sent in
        let wo = was.owed in
        let u = unnoted id in
        let w = awaited id in
        let s = both_same (λ (r : Row). r.sent) rows child owner id c ro hc ho refl refl in
        let p = both_same (λ (r : Row). r.processed) rows child owner id c ro hc ho refl refl in
        let b = both_same (λ (r : Row). r.binds) rows child owner id c ro hc ho refl refl in
        let g = both_same plugs_coming rows child owner id c ro hc ho refl refl in
        let d = both_less (λ (r : Row). r.owed) rows child owner id c ro hc ho refl fewer in
        let e = both_same (λ (r : Row). r.ends) rows child owner id c ro hc ho refl refl in
        record {
          sent = omega (arith, ws, u, s, p, b, g);
          owed = omega (arith, wo, w, d, e);
          sent_fits = subst (λ k. k < 2 ^ 64) (sym s) was.sent_fits;
          ends_fit = subst (λ k. k < 2 ^ 32) (sym e) was.ends_fit;
        }

-- the tally of an owner of which a child is not noted
pub noted_tally : (rows now : List Row) (tallies : List Tally) (lists : List (List ObjId)) (count : ℕ) (owner child : ObjId) (t : Tally) →
    rows ≡ now → AreTallied rows tallies lists count → state_at now owner ≢ Ended → (row_at now child).owner ≡ Some owner →
    (row_at now child).noted ≡ false → t ≡ slice_index_or tallies owner.0 t → (t ≡ tally_at tallies owner) × (1 ≤ t.unnoted)
noted_tally rows now tallies lists count owner child t same all unended o n read =
    (is, omega (arith, some, counted, u))
  where
    now_all : AreTallied now tallies lists count
    now_all = subst (λ (l : List Row). AreTallied l tallies lists count) same all

    is : t ≡ tally_at tallies owner
    is = read_within tallies owner.0 t no_tally (subst (λ n. owner.0 < n) (sym now_all.tallied) (has_row now owner unended)) read

    u : t.unnoted ≡ (tally_at tallies owner).unnoted
    u = ap (λ (w : Tally). w.unnoted) is

    counted : (tally_at tallies owner).unnoted ≡ unnoted_children now owner
    counted = (now_all.each owner).unnoted

    some : 1 ≤ unnoted_children now owner
    some = where_some is_unnoted now child owner (owned_has_row now child owner o) o (ap not n)

-- the same as a call leaves it
pub noted_in : (rows now new : List Row) (tallies : List Tally) (lists : List (List ObjId)) (count : ℕ) (owner child : ObjId) (t : Tally) →
    rows ≡ now → new ≡ with_noted owner child rows → AreTallied rows tallies lists count → state_at now owner ≢ Ended →
    (row_at now child).owner ≡ Some owner → (row_at now child).noted ≡ false → t ≡ slice_index_or tallies owner.0 t →
    AreTallied new (slice_set tallies owner.0 (record { living = t.living; unnoted = t.unnoted - 1 })) lists count
noted_in rows now new tallies lists count owner child t same new_is all unended o n read =
    subst (λ (l : List Row). AreTallied l (slice_set tallies owner.0 (record { living = t.living; unnoted = t.unnoted - 1 })) lists count) (sym (new_is ∙ ap (λ (l : List Row). with_noted owner child l) same))
    (noted_kept now tallies lists count owner child _ (subst (λ (l : List Row). AreTallied l tallies lists count) same all) (has_row now owner unended) o n
    (ap (λ (w : Tally). w.living) tally.0) (omega (arith, some, u)))
  where
    tally : (t ≡ tally_at tallies owner) × (1 ≤ t.unnoted)
    tally = noted_tally rows now tallies lists count owner child t same all unended o n read

    some : 1 ≤ t.unnoted
    some = tally.1

    u : t.unnoted ≡ (tally_at tallies owner).unnoted
    u = ap (λ (w : Tally). w.unnoted) tally.0

pub told_in : (rows now new : List Row) (tallies : List Tally) (lists : List (List ObjId)) (count : ℕ) (owner child : ObjId) →
    rows ≡ now → new ≡ with_told owner child rows → AreTallied rows tallies lists count → state_at now owner ≢ Ended →
    (row_at now child).owner ≡ Some owner → (row_at now child).stage ≡ Alive → AreTallied new tallies lists count
told_in rows now new tallies lists count owner child same new_is all unended o alive =
    subst (λ (l : List Row). AreTallied l tallies lists count) (sym (new_is ∙ ap (λ (l : List Row). with_told owner child l) same))
    (told_kept now tallies lists count owner child (subst (λ (l : List Row). AreTallied l tallies lists count) same all) (has_row now owner unended) o alive)

pub cleared_in : (rows now new : List Row) (tallies : List Tally) (lists : List (List ObjId)) (count : ℕ) (owner child : ObjId) →
    rows ≡ now → new ≡ with_cleared owner child rows → AreTallied rows tallies lists count → state_at now owner ≢ Ended →
    (row_at now child).owner ≡ Some owner → (row_at now child).stage ≡ Finished → AreTallied new tallies lists count
cleared_in rows now new tallies lists count owner child same new_is all unended o finished =
    subst (λ (l : List Row). AreTallied l tallies lists count) (sym (new_is ∙ ap (λ (l : List Row). with_cleared owner child l) same))
    (cleared_kept now tallies lists count owner child (subst (λ (l : List Row). AreTallied l tallies lists count) same all) (has_row now owner unended) o finished)

-- none of the three makes a move
pub noting_moves : (rows now new : List Row) (owner child : ObjId) → rows ≡ now → new ≡ with_noted owner child rows → tree_of new ≡ tree_of now
noting_moves rows now new owner child same new_is = ap tree_of new_is ∙ tree_of-with_noted owner child rows ∙ ap tree_of same

pub telling_moves : (rows now new : List Row) (owner child : ObjId) → rows ≡ now → new ≡ with_told owner child rows → (row_at now child).stage ≡ Alive → tree_of new ≡ tree_of now
telling_moves rows now new owner child same new_is alive =
    ap tree_of (new_is ∙ ap (λ (l : List Row). with_told owner child l) same) ∙ tree_of-with_told owner child now alive

pub clearing_moves : (rows now new : List Row) (owner child : ObjId) → rows ≡ now → new ≡ with_cleared owner child rows → (row_at now child).stage ≡ Finished → tree_of new ≡ tree_of now
clearing_moves rows now new owner child same new_is finished =
    ap tree_of (new_is ∙ ap (λ (l : List Row). with_cleared owner child l) same) ∙ tree_of-with_cleared owner child now finished
