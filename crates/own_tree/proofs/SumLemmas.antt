-- How many children of an object are so, behind a write or a push of a row.
use Rattle.std.specs.Prelude.{◌≡◌, ◌<◌, ◌≤◌, ◌+◌, ◌==◌, ◌&&◌, ℕ, zero, suc, Bool, true, false, not, cond, List, [], ◌∷◌, ◌++◌, length, Option, Some, None, slice_index_or, slice_set, if◌then◌else◌, refl}
use Rattle.std.proofs.Common.{arith, ap, ◌∙◌}
use Rattle.std.proofs.lemmas.List.Sums.{sum_by-set, sum_by_push, sum_by-cons, get_or-le-sum_by, sum_by-le-sum_by, count_by-le-length}
use Rattle.zq_base.specs.declared.ids.ObjId.{ObjId}
use Rattle.spec_control.specs.OwnershipTree.{Object, Tree}
use Rattle.own_tree.specs.declared.row.Row.{Row}
use Rattle.own_tree.specs.Rows.{no_row, row_at, tree_of, is_owner, children_from, children_where, live_objects, lives, is_unnoted, is_known_to_live, noted_living, living_children, unnoted_children}
use Rattle.own_tree.proofs.WriteLemmas.{one_if_owner, one_if_it}

-- 1 for a child of this object that is so
abbrev pub one_of : (Row → Bool) → ObjId → Row → ℕ
one_of test id row = cond (is_owner id row.owner && test row) 1 0

pub and_true : (b : Bool) → (b && true) ≡ b
and_true true = refl
and_true false = refl

pub and_false : (b : Bool) → (b && false) ≡ false
and_false true = refl
and_false false = refl

-- a child that is so counts for its owner alone
pub counts : (test : Row → Bool) (id owner : ObjId) (row : Row) → row.owner ≡ Some owner → test row ≡ true → one_of test id row ≡ one_if_owner id owner
counts test id owner row o e =
    ap (λ (w : Option ObjId). cond (is_owner id w && test row) 1 0) o
    ∙ ap (λ (b : Bool). cond ((owner.0 == id.0) && b) 1 0) e
    ∙ ap (λ (b : Bool). cond b 1 0) (and_true (owner.0 == id.0))

-- one that is not so counts for nobody
pub counts_not : (test : Row → Bool) (id : ObjId) (row : Row) → test row ≡ false → one_of test id row ≡ 0
counts_not test id row e =
    ap (λ (b : Bool). cond (is_owner id row.owner && b) 1 0) e
    ∙ ap (λ (b : Bool). cond b 1 0) (and_false (is_owner id row.owner))

-- nor does a row that nobody owns
pub counts_unowned : (test : Row → Bool) (id : ObjId) (row : Row) → row.owner ≡ None → one_of test id row ≡ 0
counts_unowned test id row o = ap {B = ℕ} (λ (w : Option ObjId). cond (is_owner id w && test row) 1 0) o

pub counts_alike : (test : Row → Bool) (id : ObjId) (a b : Row) → b.owner ≡ a.owner → test b ≡ test a → one_of test id b ≡ one_of test id a
counts_alike test id a b o e =
    ap (λ (w : Option ObjId). cond (is_owner id w && test b) 1 0) o
    ∙ ap (λ (t : Bool). cond (is_owner id a.owner && t) 1 0) e

module _ (test : Row → Bool) (rows : List Row) (i : ObjId) (r : Row) (h : i.0 < length rows) where
  pub where-set : (id : ObjId) → children_where test (slice_set rows i.0 r) id + one_of test id (row_at rows i) ≡ children_where test rows id + one_of test id r
  where-set id = sum_by-set (one_of test id) rows i.0 r no_row h

  -- the write counts alike for each owner
  pub where_alike : ((id : ObjId) → one_of test id r ≡ one_of test id (row_at rows i)) → (id : ObjId) → children_where test (slice_set rows i.0 r) id ≡ children_where test rows id
  where_alike e id =
      let s = where-set id in
      let a = e id in
      omega (arith, s, a)

  -- the write leaves the count
  pub where_same : r.owner ≡ (row_at rows i).owner → test r ≡ test (row_at rows i) → (id : ObjId) → children_where test (slice_set rows i.0 r) id ≡ children_where test rows id
  where_same o e id =
      let s = where-set id in
      let a = counts_alike test id (row_at rows i) r o e in
      omega (arith, s, a)

  -- a child is so no more
  pub where_less : (owner : ObjId) → (row_at rows i).owner ≡ Some owner → test (row_at rows i) ≡ true → test r ≡ false → (id : ObjId) →
      children_where test (slice_set rows i.0 r) id + one_if_owner id owner ≡ children_where test rows id
  where_less owner o was is id =
      let s = where-set id in
      let a = counts test id owner (row_at rows i) o was in
      let b = counts_not test id r is in
      omega (arith, s, a, b)

  -- a child is so from now on
  pub where_more : (owner : ObjId) → r.owner ≡ Some owner → test (row_at rows i) ≡ false → test r ≡ true → (id : ObjId) →
      children_where test (slice_set rows i.0 r) id ≡ children_where test rows id + one_if_owner id owner
  where_more owner o was is id =
      let s = where-set id in
      let a = counts_not test id (row_at rows i) was in
      let b = counts test id owner r o is in
      omega (arith, s, a, b)

pub where_push : (test : Row → Bool) (rows : List Row) (r : Row) (id : ObjId) → children_where test (rows ++ r ∷ []) id ≡ children_where test rows id + one_of test id r
where_push test rows r id = sum_by_push (one_of test id) rows r

-- a child that is so is among those of its owner
pub where_some : (test : Row → Bool) (rows : List Row) (child owner : ObjId) → child.0 < length rows →
    (row_at rows child).owner ≡ Some owner → test (row_at rows child) ≡ true → 1 ≤ children_where test rows owner
where_some test rows child owner h o e =
    let one = counts test owner owner (row_at rows child) o e in
    let it = one_if_it owner in
    let le = get_or-le-sum_by (one_of test owner) rows child.0 no_row h in
    omega (arith, one, it, le)

pub where_few : (test : Row → Bool) (rows : List Row) (id : ObjId) → children_where test rows id ≤ length rows
where_few test rows id = count_by-le-length (λ (row : Row). is_owner id row.owner && test row) rows

-- no more objects live than there are
pub live_few : (rows : List Row) → live_objects rows ≤ length rows
live_few rows = count_by-le-length lives rows

-- how many objects live, behind a write and a push
pub live-set : (rows : List Row) (i : ObjId) (r : Row) → i.0 < length rows →
    live_objects (slice_set rows i.0 r) + cond (lives (row_at rows i)) 1 0 ≡ live_objects rows + cond (lives r) 1 0
live-set rows i r h = sum_by-set (λ (row : Row). cond (lives row) 1 0) rows i.0 r no_row h

pub live_push : (rows : List Row) (r : Row) → live_objects (rows ++ r ∷ []) ≡ live_objects rows + cond (lives r) 1 0
live_push rows r = sum_by_push (λ (row : Row). cond (lives row) 1 0) rows r

-- a list of children behind a write that leaves the owner
pub children-set : (first : ℕ) (rows : List Row) (i : ℕ) (r : Row) (id : ObjId) → r.owner ≡ (slice_index_or rows i no_row).owner →
    children_from first (tree_of (slice_set rows i r)) id ≡ children_from first (tree_of rows) id
children-set first [] i r id o = refl
children-set first (x ∷ rows) zero r id o =
    ap (λ (w : Option ObjId). if is_owner id w then record { 0 = first } ∷ children_from (first + 1) (tree_of rows) id else children_from (first + 1) (tree_of rows) id) o
children-set first (x ∷ rows) (suc i) r id o =
    ap (λ (l : List ObjId). if is_owner id x.owner then record { 0 = first } ∷ l else l) (children-set (first + 1) rows i r id o)

-- the list of one object, where it is a child of this one
abbrev pub child_if : Bool → ℕ → List ObjId
child_if b n = if b then record { 0 = n } ∷ [] else []

-- and behind a push
pub children-push : (first : ℕ) (tree : Tree) (o : Object) (id : ObjId) →
    children_from first (tree ++ o ∷ []) id ≡ children_from first tree id ++ child_if (is_owner id o.owner) (first + length tree)
children-push first [] o id = by (is_owner id o.owner)
  where
    by : (b : Bool) → (if b then record { 0 = first } ∷ [] else []) ≡ child_if b (first + 0)
    by true = ap (λ (n : ℕ). let x : ObjId = record { 0 = n } in x ∷ []) (omega arith)
    by false = refl
children-push first (x ∷ tree) o id =
    by (is_owner id x.owner)
    (children-push (first + 1) tree o id
    ∙ ap (λ (n : ℕ). children_from (first + 1) tree id ++ child_if (is_owner id o.owner) n) (add first (length tree)))
  where
    add : (a b : ℕ) → a + 1 + b ≡ a + suc b
    add a b = omega arith

    by : (b : Bool) → children_from (first + 1) (tree ++ o ∷ []) id ≡ children_from (first + 1) tree id ++ child_if (is_owner id o.owner) (first + length (x ∷ tree)) →
        (if b then record { 0 = first } ∷ children_from (first + 1) (tree ++ o ∷ []) id else children_from (first + 1) (tree ++ o ∷ []) id)
        ≡ (if b then record { 0 = first } ∷ children_from (first + 1) tree id else children_from (first + 1) tree id) ++ child_if (is_owner id o.owner) (first + length (x ∷ tree))
    by true rest = ap (λ (l : List ObjId). record { 0 = first } ∷ l) rest
    by false rest = rest

-- a child that lives is noted or not
noted_or_not : (id : ObjId) (row : Row) → one_of lives id row ≤ one_of is_known_to_live id row + one_of is_unnoted id row
noted_or_not id row = by (is_owner id row.owner) (lives row) row.noted
  where
    by : (a b c : Bool) → cond (a && b) 1 0 ≤ cond (a && (b && c)) 1 0 + cond (a && not c) 1 0
    by true true true = omega arith
    by true true false = omega arith
    by true false c = omega arith
    by false b c = omega arith

-- a noted child that lives is a child that lives
noted_is_living : (id : ObjId) (row : Row) → one_of is_known_to_live id row ≤ one_of lives id row
noted_is_living id row = by (is_owner id row.owner) (lives row) row.noted
  where
    by : (a b c : Bool) → cond (a && (b && c)) 1 0 ≤ cond (a && b) 1 0
    by true true true = omega arith
    by true true false = omega arith
    by true false c = omega arith
    by false b c = omega arith

pub living_le : (id : ObjId) (rows : List Row) → living_children rows id ≤ noted_living rows id + unnoted_children rows id
living_le id [] = omega arith
living_le id (row ∷ rows) =
    let one = noted_or_not id row in
    let rest = living_le id rows in
    let l = sum_by-cons (one_of lives id) row rows in
    let n = sum_by-cons (one_of is_known_to_live id) row rows in
    let u = sum_by-cons (one_of is_unnoted id) row rows in
    add _ _ _ _ _ _ _ _ _ one rest l n u
  where
    add : (a b c x y z l n u : ℕ) → a ≤ b + c → x ≤ y + z → l ≡ a + x → n ≡ b + y → u ≡ c + z → l ≤ n + u
    add a b c x y z l n u h k el en eu = omega arith

pub noted_le : (id : ObjId) (rows : List Row) → noted_living rows id ≤ living_children rows id
noted_le id rows = sum_by-le-sum_by (one_of is_known_to_live id) (one_of lives id) rows (noted_is_living id)
