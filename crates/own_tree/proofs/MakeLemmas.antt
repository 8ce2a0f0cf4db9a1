-- What is kept beside the rows, once an object was made.
use Rattle.std.specs.Prelude.{◌≡◌, ◌≢◌, ◌<◌, ◌≤◌, ◌+◌, ◌^◌, ◌==◌, ◌&&◌, ℕ, Bool, true, false, cond, List, [], ◌∷◌, ◌++◌, length, slice_index_or, slice_set, refl}
use Rattle.std.proofs.Common.{arith, sym, ap, ◌∙◌, subst, length-append, length-set}
use Rattle.std.proofs.lemmas.Bool.{ne_eqb}
use Rattle.std.proofs.lemmas.List.{get_or_past, get_or-set_same, get_or-set_other, map-append, length-map, append-nil}
use Rattle.zq_base.specs.declared.ids.ObjId.{ObjId}
use Rattle.zq_base.specs.declared.ids.SlotId.{SlotId}
use Rattle.spec_control.specs.declared.object.ObjKind.{ObjKind}
use Rattle.spec_control.specs.declared.object.ObjKind.TheVariants.{Root, Socket, Listener, Session}
use Rattle.spec_control.specs.declared.object.ObjState.TheVariants.{Ended}
use Rattle.spec_control.specs.OwnershipTree.{Tree}
use Rattle.spec_control.proofs.OwnershipTreeLemmas.{is_old, is_new, is_past, pushed}
use Rattle.own_tree.specs.declared.row.Row.{Row}
use Rattle.own_tree.specs.declared.tally.Tally.{Tally}
use Rattle.own_tree.specs.Rows.{no_row, row_at, state_at, object_of, tree_of, children_of, lives, is_unnoted, is_awaited, living_children, unnoted_children, awaited_children, live_objects, plugs_coming, AddsUp, AllAddUp}
use Rattle.own_tree.specs.Changes.{owns_of, made_row, with_own, with_made}
use Rattle.own_tree.specs.Tallies.{no_tally, tally_at, list_at, with_counted, with_listed, IsTally, AreTallied}
use Rattle.own_tree.proofs.WriteLemmas.{one_if_owner, is_it, is_other, owner_cases, reads_same, reads_more}
use Rattle.own_tree.proofs.SumLemmas.{one_of, counts, counts_not, where_same, where_push, live-set, live_push, child_if, children-set, children-push}
use Rattle.own_tree.proofs.RowLemmas.{has_row}
use Rattle.own_tree.proofs.KeptLemmas.{Adds, adds_at}

-- what stands for the rest may be pushed
read_push : {X : Type 0} (d : X) (xs : List X) (k : ℕ) → slice_index_or (xs ++ d ∷ []) k d ≡ slice_index_or xs k d
read_push d xs k =
    elim (pushed xs d d k) [
      | is_old below same ↦ same
      | is_new here same was ↦ same ∙ sym was
      | is_past same was ↦ same ∙ sym was
    ]

owns_le : (kind : ObjKind) → owns_of kind ≤ 1
owns_le Root = omega arith
owns_le (Socket kind) = omega arith
owns_le Listener = omega arith
owns_le Session = omega arith

-- how an object that was made counts for its owner as not noted
made_unnoted : (id owner : ObjId) (kind : ObjKind) (slot : SlotId) (plug : Bool) → one_of is_unnoted id (made_row owner kind slot plug) ≡ cond (owner.0 == id.0) (owns_of kind) 0
made_unnoted id owner Root slot plug = none (owner.0 == id.0)
  where
    none : (b : Bool) → ◌≡◌ {A = ℕ} (cond (b && false) 1 0) (cond b 0 0)
    none true = refl
    none false = refl
made_unnoted id owner (Socket kind) slot plug = none (owner.0 == id.0)
  where
    none : (b : Bool) → ◌≡◌ {A = ℕ} (cond (b && false) 1 0) (cond b 0 0)
    none true = refl
    none false = refl
made_unnoted id owner Listener slot plug = one (owner.0 == id.0)
  where
    one : (b : Bool) → ◌≡◌ {A = ℕ} (cond (b && true) 1 0) (cond b 1 0)
    one true = refl
    one false = refl
made_unnoted id owner Session slot plug = one (owner.0 == id.0)
  where
    one : (b : Bool) → ◌≡◌ {A = ℕ} (cond (b && true) 1 0) (cond b 1 0)
    one true = refl
    one false = refl

-- an object that was made adds up, with no children
made_adds : (owner : ObjId) (kind : ObjKind) (slot : SlotId) (plug : Bool) → Adds (made_row owner kind slot plug) 0 0
made_adds owner kind slot true = record { sent = refl; owed = refl; sent_fits = omega arith; ends_fit = omega arith }
made_adds owner kind slot false = record { sent = refl; owed = refl; sent_fits = omega arith; ends_fit = omega arith }

module _ (rows : List Row) (tallies : List Tally) (lists : List (List ObjId)) (count : ℕ) (owner child : ObjId) (kind : ObjKind) (slot : SlotId) (plug : Bool)
    (all : AreTallied rows tallies lists count) (h : owner.0 < length rows) (fits : (row_at rows owner).sent + 1 < 2 ^ 64) (number : child.0 ≡ length rows) where
  abbrev made : Row
  made = made_row owner kind slot plug

  abbrev own : Row
  own = with_own kind (row_at rows owner)

  abbrev mid : List Row
  mid = slice_set rows owner.0 own

  abbrev new : List Row
  new = mid ++ made ∷ []

  long : length new ≡ length rows + 1
  long = length-append mid (made ∷ []) ∙ ap (λ n. n + 1) (length-set rows owner.0 own)

  unnoted : (id : ObjId) → unnoted_children new id ≡ unnoted_children rows id + cond (owner.0 == id.0) (owns_of kind) 0
  unnoted id =
      let p = where_push is_unnoted mid made id in
      let s = where_same is_unnoted rows owner own h refl refl id in
      let m = made_unnoted id owner kind slot plug in
      omega (arith, p, s, m)

  awaited : (id : ObjId) → awaited_children new id ≡ awaited_children rows id
  awaited id =
      let p = where_push is_awaited mid made id in
      let s = where_same is_awaited rows owner own h refl refl id in
      let m = counts_not is_awaited id made refl in
      omega (arith, p, s, m)

  living : (id : ObjId) → living_children new id ≡ living_children rows id + one_if_owner id owner
  living id =
      let p = where_push lives mid made id in
      let s = where_same lives rows owner own h refl refl id in
      let m = counts lives id owner made refl refl in
      omega (arith, p, s, m)

  -- the counts of an object that was there
  adds_old : (id : ObjId) → row_at new id ≡ row_at mid id → AddsUp new id
  adds_old id same =
      let up = all.add_up id in
      let ws = up.sent in
      let wo = up.owed in
      let u = unnoted id in
      let a = awaited id in
      let s = reads_more no_row (λ (r : Row). r.sent) rows owner id own h (owns_of kind) refl in
      let p = reads_same no_row (λ (r : Row). r.processed) rows owner id own h refl in
      let b = reads_same no_row (λ (r : Row). r.binds) rows owner id own h refl in
      let g = reads_same no_row plugs_coming rows owner id own h refl in
      let d = reads_same no_row (λ (r : Row). r.owed) rows owner id own h refl in
      let e = reads_same no_row (λ (r : Row). r.ends) rows owner id own h refl in
      adds_at new id (row_at mid id) _ _ same refl refl (record {
        sent = omega (arith, ws, u, s, p, b, g);
        owed = omega (arith, wo, a, d, e);
        sent_fits = few id s;
        ends_fit = subst (λ k. k < 2 ^ 32) (sym e) up.ends_fit;
      })
    where
      few : (id : ObjId) → (row_at mid id).sent ≡ (row_at rows id).sent + cond (owner.0 == id.0) (owns_of kind) 0 → (row_at mid id).sent < 2 ^ 64
      few id s =
          elim (owner_cases id owner) [
            | is_it is test one ↦
                let o = ap (λ (k : ObjId). (row_at rows k).sent) is in
                let c : cond (owner.0 == id.0) (owns_of kind) 0 ≡ owns_of kind = ap (λ b. cond b (owns_of kind) 0) test in
                let l = owns_le kind in
                omega (arith, s, o, c, l, fits)
            | is_other other test none ↦
                let c : cond (owner.0 == id.0) (owns_of kind) 0 ≡ 0 = ap (λ b. cond b (owns_of kind) 0) test in
                let w = (all.add_up id).sent_fits in
                omega (arith, s, c, w)
          ]

  -- and of the one that was made
  adds_new : (id : ObjId) → id.0 ≡ length rows → row_at new id ≡ made → AddsUp new id
  adds_new id here same =
      adds_at new id made 0 0 same none_unnoted none_awaited (made_adds owner kind slot plug)
    where
      nothing : row_at rows id ≡ no_row
      nothing = get_or_past rows id.0 no_row (omega (arith, here))

      none_unnoted : unnoted_children new id ≡ 0
      none_unnoted =
          let up = (all.add_up id).sent in
          let s = ap (λ (r : Row). r.sent) nothing in
          let u = unnoted id in
          let c : cond (owner.0 == id.0) (owns_of kind) 0 ≡ 0 = ap (λ b. cond b (owns_of kind) 0) (ne_eqb owner.0 id.0 (apart id here)) in
          omega (arith, up, s, u, c)
        where
          apart : (id : ObjId) → id.0 ≡ length rows → owner.0 ≢ id.0
          apart id here e = omega (arith, e, here, h)

      none_awaited : awaited_children new id ≡ 0
      none_awaited =
          let up = (all.add_up id).owed in
          let s = ap (λ (r : Row). r.owed) nothing in
          let a = awaited id in
          omega (arith, up, s, a)

  adds : AllAddUp new
  adds id =
      elim (pushed mid made no_row id.0) [
        | is_old below same ↦ adds_old id same
        | is_new here same was ↦ adds_new id (here ∙ length-set rows owner.0 own) same
        | is_past same was ↦ adds_old id (same ∙ sym was)
      ]

  held : owner.0 < length tallies
  held = subst (λ n. owner.0 < n) (sym all.tallied) h

  abbrev counted : Tally
  counted = record { living = (tally_at tallies owner).living + 1; unnoted = (tally_at tallies owner).unnoted + owns_of kind }

  each : (id : ObjId) → IsTally new id (tally_at (with_counted owner kind tallies) id)
  each id =
      let pushed = read_push no_tally (slice_set tallies owner.0 counted) id.0 in
      let pl = ap (λ (w : Tally). w.living) pushed in
      let pu = ap (λ (w : Tally). w.unnoted) pushed in
      let l = reads_more no_tally (λ (w : Tally). w.living) tallies owner id counted held 1 refl in
      let u = reads_more no_tally (λ (w : Tally). w.unnoted) tallies owner id counted held (owns_of kind) refl in
      let wl = (all.each id).living in
      let wu = (all.each id).unnoted in
      let nl = living id in
      let nu = unnoted id in
      record { living = omega (arith, pl, l, wl, nl); unnoted = omega (arith, pu, u, wu, nu) }

  list_held : owner.0 < length lists
  list_held = subst (λ n. owner.0 < n) (sym all.listed) h

  -- the children by the tree
  by_tree : (id : ObjId) → children_of (tree_of new) id ≡ list_at lists id ++ child_if (owner.0 == id.0) child.0
  by_tree id =
      ap (λ (t : Tree). children_of t id) (map-append object_of mid (made ∷ []))
      ∙ children-push 0 (tree_of mid) (object_of made) id
      ∙ ap (λ (l : List ObjId). l ++ child_if (owner.0 == id.0) (0 + length (tree_of mid))) (children-set 0 rows owner.0 own id refl ∙ sym (all.children id))
      ∙ ap (λ (n : ℕ). list_at lists id ++ child_if (owner.0 == id.0) n) place
    where
      place : 0 + length (tree_of mid) ≡ child.0
      place =
          let a = length-map mid object_of in
          let b = length-set rows owner.0 own in
          omega (arith, a, b, number)

  children : (id : ObjId) → list_at (with_listed owner child lists) id ≡ children_of (tree_of new) id
  children id =
      read_push [] (slice_set lists owner.0 (list_at lists owner ++ child ∷ [])) id.0
      ∙ elim (owner_cases id owner) [
        | is_it same test one ↦
            ap (λ (k : ObjId). list_at (slice_set lists owner.0 (list_at lists owner ++ child ∷ [])) k) same
            ∙ get_or-set_same lists owner.0 (list_at lists owner ++ child ∷ []) [] list_held
            ∙ ap (λ (k : ObjId). list_at lists k ++ child ∷ []) (sym same)
            ∙ ap (λ b. list_at lists id ++ child_if b child.0) (sym test)
        | is_other other test none ↦
            get_or-set_other lists owner.0 id.0 (list_at lists owner ++ child ∷ []) [] other
            ∙ sym (append-nil (list_at lists id))
            ∙ ap (λ b. list_at lists id ++ child_if b child.0) (sym test)
      ]
      ∙ sym (by_tree id)

  more : count + 1 ≡ live_objects new
  more =
      let was = all.live in
      let p = live_push mid made in
      let s = live-set rows owner own h in
      omega (arith, was, p, s)

  pub made_kept : length rows < 2 ^ 32 → AreTallied new (with_counted owner kind tallies) (with_listed owner child lists) (count + 1)
  made_kept room =
      record {
        tallied = length-append (slice_set tallies owner.0 counted) (no_tally ∷ []) ∙ ap (λ n. n + 1) (length-set tallies owner.0 counted ∙ all.tallied) ∙ sym long;
        listed = length-append (slice_set lists owner.0 (list_at lists owner ++ child ∷ [])) ([] ∷ []) ∙ ap (λ n. n + 1) (length-set lists owner.0 (list_at lists owner ++ child ∷ []) ∙ all.listed) ∙ sym long;
        few = omega (arith, long, room);
        each = each;
        children = children;
        live = more;
        add_up = adds;
      }

-- the same as a call leaves it
pub made_in : (rows now new_rows : List Row) (tallies new_tallies : List Tally) (lists new_lists : List (List ObjId)) (count : ℕ) (owner child : ObjId) (kind : ObjKind) (slot : SlotId) (plug : Bool) →
    rows ≡ now → AreTallied rows tallies lists count → state_at now owner ≢ Ended → (row_at now owner).sent + 1 < 2 ^ 64 → length now < 2 ^ 32 → child.0 ≡ length rows →
    new_rows ≡ with_made owner kind slot plug rows → new_tallies ≡ with_counted owner kind tallies → new_lists ≡ with_listed owner child lists →
    AreTallied new_rows new_tallies new_lists (count + 1)
made_in rows now new_rows tallies new_tallies lists new_lists count owner child kind slot plug same all unended fits room number rows_are tallies_are lists_are =
    subst (λ (l : List Row). AreTallied l new_tallies new_lists (count + 1)) (sym (rows_are ∙ ap (λ (l : List Row). with_made owner kind slot plug l) same))
    (subst (λ (l : List Tally). AreTallied (with_made owner kind slot plug now) l new_lists (count + 1)) (sym tallies_are)
    (subst (λ (l : List (List ObjId)). AreTallied (with_made owner kind slot plug now) (with_counted owner kind tallies) l (count + 1)) (sym lists_are)
    (made_kept now tallies lists count owner child kind slot plug (subst (λ (l : List Row). AreTallied l tallies lists count) same all) (has_row now owner unended) fits (number ∙ ap (λ (l : List Row). length l) same) room)))
