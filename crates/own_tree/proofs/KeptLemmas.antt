-- What is kept beside the rows stays right where a call changes them.
use Rattle.std.specs.Prelude.{◌≡◌, ◌<◌, ◌≤◌, ◌+◌, ◌^◌, ℕ, Bool, true, false, not, cond, ◌&&◌, IsTrue, List, length, Option, Some, None, slice_index_or, slice_set, refl}
use Rattle.std.proofs.Common.{arith, sym, ap, ◌∙◌, subst, length-set}
use Rattle.std.proofs.lemmas.List.{get_or-set_same, get_or-set_other}
use Rattle.zq_base.specs.declared.ids.ObjId.{ObjId}
use Rattle.spec_control.specs.declared.stage.Stage.{Stage}
use Rattle.spec_control.specs.declared.stage.Stage.TheVariants.{Alive, Told, Ending, Finished, Cleared}
use Rattle.own_tree.specs.declared.row.Row.{Row}
use Rattle.own_tree.specs.declared.tally.Tally.{Tally}
use Rattle.own_tree.specs.Rows.{no_row, row_at, lives, lives_in, is_unnoted, is_awaited, awaited_in, unnoted_children, awaited_children, live_objects, plugs_coming, AddsUp, AllAddUp, is_owner, asked_from, may_be_asked}
use Rattle.own_tree.specs.Changes.{in_stage, as_plugged}
use Rattle.own_tree.specs.Tallies.{AreTallied}
use Rattle.own_tree.proofs.WriteLemmas.{is_it, is_other, owner_cases}
use Rattle.own_tree.proofs.SumLemmas.{one_of, where_alike, where_same, where_few, live-set, children-set}
use Rattle.own_tree.proofs.RowLemmas.{row_read}

-- a row that adds up with these children not noted and awaited
pub record Adds (r : Row) (unnoted awaited : ℕ) : Type 0 where
  pub sent : r.sent ≡ r.processed + (r.binds + (plugs_coming r + unnoted))
  pub owed : r.owed ≡ r.ends + awaited
  pub sent_fits : r.sent < 2 ^ 64
  pub ends_fit : r.ends < 2 ^ 32

pub adds_at : (rows : List Row) (id : ObjId) (r : Row) (u a : ℕ) → row_at rows id ≡ r → unnoted_children rows id ≡ u →
    awaited_children rows id ≡ a → Adds r u a → AddsUp rows id
adds_at rows id r u a is ui ai adds =
    let here = subst (λ (w : Row). Adds w u a) (sym is) adds in
    let both = subst (λ (m : ℕ). Adds (row_at rows id) m a) (sym ui) here in
    let all = subst (λ (m : ℕ). Adds (row_at rows id) (unnoted_children rows id) m) (sym ai) both in
    record { sent = all.sent; owed = all.owed; sent_fits = all.sent_fits; ends_fit = all.ends_fit }

pub adds_of : (rows : List Row) (id : ObjId) → AddsUp rows id → Adds (row_at rows id) (unnoted_children rows id) (awaited_children rows id)
adds_of rows id up = record { sent = up.sent; owed = up.owed; sent_fits = up.sent_fits; ends_fit = up.ends_fit }

-- a row that counts for its owner as another does
pub record CountsAlike (a b : Row) : Type 0 where
  pub owner : b.owner ≡ a.owner
  pub noted : b.noted ≡ a.noted
  pub awaited : (id : ObjId) → one_of is_awaited id b ≡ one_of is_awaited id a

-- counts that add up do so behind a write that counts alike
pub adds-set : (rows : List Row) (i : ObjId) (r : Row) → AllAddUp rows → i.0 < length rows → CountsAlike (row_at rows i) r →
    ((u a : ℕ) → Adds (row_at rows i) u a → Adds r u a) → AllAddUp (slice_set rows i.0 r)
adds-set rows i r all h alike adds id =
    elim (owner_cases id i) [
      | is_it same test one ↦ subst (λ (k : ObjId). AddsUp (slice_set rows i.0 r) k) (sym same) at_it
      | is_other other test none ↦
          adds_at _ id (row_at rows id) _ _ (get_or-set_other rows i.0 id.0 r no_row other) (unnoted id) (awaited id) (adds_of rows id (all id))
    ]
  where
    unnoted : (k : ObjId) → unnoted_children (slice_set rows i.0 r) k ≡ unnoted_children rows k
    unnoted = where_same is_unnoted rows i r h alike.owner (ap not alike.noted)

    awaited : (k : ObjId) → awaited_children (slice_set rows i.0 r) k ≡ awaited_children rows k
    awaited = where_alike is_awaited rows i r h alike.awaited

    at_it : AddsUp (slice_set rows i.0 r) i
    at_it = adds_at _ i r _ _ (get_or-set_same rows i.0 r no_row h) (unnoted i) (awaited i) (adds _ _ (adds_of rows i (all i)))

-- a write that counts alike, of an object that lives as before
pub kept-set : (rows : List Row) (tallies : List Tally) (lists : List (List ObjId)) (count : ℕ) (i : ObjId) (r : Row) →
    AreTallied rows tallies lists count → i.0 < length rows → CountsAlike (row_at rows i) r → lives r ≡ lives (row_at rows i) →
    ((u a : ℕ) → Adds (row_at rows i) u a → Adds r u a) → AreTallied (slice_set rows i.0 r) tallies lists count
kept-set rows tallies lists count i r all h alike live adds =
    record {
      tallied = all.tallied ∙ sym (length-set rows i.0 r);
      listed = all.listed ∙ sym (length-set rows i.0 r);
      few = subst (λ n. n ≤ 2 ^ 32) (sym (length-set rows i.0 r)) all.few;
      each = λ id. record {
        living = (all.each id).living ∙ sym (where_same lives rows i r h alike.owner live id);
        unnoted = (all.each id).unnoted ∙ sym (where_same is_unnoted rows i r h alike.owner (ap not alike.noted) id);
      };
      children = λ id. all.children id ∙ sym (children-set 0 rows i.0 r id alike.owner);
      live = still;
      add_up = adds-set rows i r all.add_up h alike adds;
    }
  where
    still : count ≡ live_objects (slice_set rows i.0 r)
    still =
        let was = all.live in
        let s = live-set rows i r h in
        let e = ap {B = ℕ} (λ (b : Bool). cond b 1 0) live in
        omega (arith, was, s, e)

-- the same, of a row that a call reads and changes
pub kept_in : (f : Row → Row) (rows now : List Row) (tallies : List Tally) (lists : List (List ObjId)) (count : ℕ) (id : ObjId) (x : Row) →
    rows ≡ now → id.0 < length now → x ≡ slice_index_or rows id.0 x → AreTallied rows tallies lists count →
    CountsAlike (row_at now id) (f (row_at now id)) → lives (f (row_at now id)) ≡ lives (row_at now id) →
    ((u a : ℕ) → Adds (row_at now id) u a → Adds (f (row_at now id)) u a) → AreTallied (slice_set rows id.0 (f x)) tallies lists count
kept_in f rows now tallies lists count id x same h read all alike live adds =
    subst (λ (w : Row). AreTallied (slice_set rows id.0 (f w)) tallies lists count) (sym (row_read rows now id x same h read))
    (subst (λ (l : List Row). AreTallied (slice_set l id.0 (f (row_at now id))) tallies lists count) (sym same)
    (kept-set now tallies lists count id (f (row_at now id)) (subst (λ (l : List Row). AreTallied l tallies lists count) same all) h alike live adds))

-- a row whose Plug was processed
pub plugged_adds : (r : Row) (u a : ℕ) → r.plugged ≡ false → Adds r u a → Adds (as_plugged r) u a
plugged_adds r u a e h =
    let s = h.sent in
    let one = ap {B = ℕ} (λ (b : Bool). cond b 0 1) e in
    record { sent = omega (arith, s, one); owed = h.owed; sent_fits = h.sent_fits; ends_fit = h.ends_fit }

-- a row that is asked counts for its owner as before
pub asked_alike : (r : Row) → IsTrue (may_be_asked r) → (id : ObjId) → one_of is_awaited id (in_stage Ending r) ≡ one_of is_awaited id r
asked_alike r h id = by r.stage r.owner h
  where
    never : IsTrue false → ⊥
    never k = grind arith

    by : (s : Stage) (o : Option ObjId) → IsTrue (asked_from s o) → ◌≡◌ {A = ℕ} (cond (is_owner id o && true) 1 0) (cond (is_owner id o && awaited_in s) 1 0)
    by Alive None h = refl
    by Alive (Some owner) h = absurd (never h)
    by Told o h = refl
    by Ending o h = refl
    by Finished o h = refl
    by Cleared o h = absurd (never h)

-- and lives as before
pub asked_lives_on : (r : Row) → IsTrue (may_be_asked r) → lives (in_stage Ending r) ≡ lives r
asked_lives_on r h = by r.stage r.owner h
  where
    never : IsTrue false → ⊥
    never k = grind arith

    by : (s : Stage) (o : Option ObjId) → IsTrue (asked_from s o) → true ≡ lives_in s
    by Alive o h = refl
    by Told o h = refl
    by Ending o h = refl
    by Finished o h = absurd (never h)
    by Cleared o h = absurd (never h)

-- nothing of what is kept has changed
pub tallied_alike : (rows new_rows : List Row) (tallies new_tallies : List Tally) (lists new_lists : List (List ObjId)) (count : ℕ) →
    new_rows ≡ rows → new_tallies ≡ tallies → new_lists ≡ lists → AreTallied rows tallies lists count → AreTallied new_rows new_tallies new_lists count
tallied_alike rows new_rows tallies new_tallies lists new_lists count rows_are tallies_are lists_are all =
    subst (λ (l : List Row). AreTallied l new_tallies new_lists count) (sym rows_are)
    (subst (λ (l : List Tally). AreTallied rows l new_lists count) (sym tallies_are)
    (subst (λ (l : List (List ObjId)). AreTallied rows tallies l count) (sym lists_are) all))

-- an object's counts add up, as a call finds them
pub now_adds : (rows now : List Row) (tallies : List Tally) (lists : List (List ObjId)) (count : ℕ) (id : ObjId) → rows ≡ now → AreTallied rows tallies lists count → AddsUp now id
now_adds rows now tallies lists count id same all = (subst (λ (l : List Row). AreTallied l tallies lists count) same all).add_up id

-- no more children are awaited than there may be
pub awaited_few : (rows now : List Row) (tallies : List Tally) (lists : List (List ObjId)) (count : ℕ) (id : ObjId) → rows ≡ now → AreTallied rows tallies lists count → awaited_children now id ≤ 2 ^ 32
awaited_few rows now tallies lists count id same all =
    let few = (subst (λ (l : List Row). AreTallied l tallies lists count) same all).few in
    let le = where_few is_awaited now id in
    omega (arith, few, le)
