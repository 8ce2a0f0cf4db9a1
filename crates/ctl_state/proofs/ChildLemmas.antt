-- That what is done for the children of an object, one by one, is what the definitions do over all objects.
use Rattle.std.specs.Prelude.{◌≡◌, ◌<◌, ◌+◌, ◌&&◌, ℕ, zero, suc, Bool, true, false, cond, if◌then◌else◌, List, [], ◌∷◌, ◌++◌, All, Option, Some, None, length, slice_index_or, refl, ◌≤◌, sum_by, take, ◌==◌}
use Rattle.std.proofs.Common.{arith, sym, ap, ◌∙◌, subst}
use Rattle.std.proofs.lemmas.Bool.{false≢true, eqb-true}
use Rattle.std.proofs.lemmas.List.{append-nil, append_assoc, take_all}
use Rattle.std.proofs.lemmas.List.Elements.{All-nil, All-cons, All-append, All-get_or, All-same}
use Rattle.zq_base.specs.declared.ids.ObjId.{ObjId}
use Rattle.spec_control.specs.declared.letter.Word.TheVariants.{Term, Stop}
use Rattle.spec_control.specs.Stage.{is_alive, is_unused}
use Rattle.spec_control.specs.Row.{Row, nobody, is_socket, IsTold, StopPut, link_may, link_after}
use Rattle.spec_control.specs.Rows.{obj, is_owner}
use Rattle.spec_control.specs.Control.{Control, id as control_id, put, link, tell_where, tell_children, stop_sockets}
use Rattle.own_tree.specs.declared.row.Row.{Row as TreeRow}
use Rattle.own_tree.specs.Rows.{no_row, is_owner as is_owner_of, children_from, children_of, tree_of}
use Rattle.ctl_state.specs.declared.state.State.{State}
use Rattle.ctl_state.specs.Children.{done_for, tell_noted, stop_one, command_for, HaveRoom}
use Rattle.ctl_state.specs.Objects.{tree_row, RootOwnsSockets}
use Rattle.ctl_state.specs.Stands.{Stands}
use Rattle.ctl_state.proofs.ReadLemmas.{read_kept}
use Rattle.ctl_state.proofs.EndingLemmas.{same_owner}
use Rattle.std.proofs.lemmas.List.Sums.{sum_by-append, sum_by_more}
use Rattle.ctl_state.specs.Boxes.{mail_at}

-- what is done for each number below n
abbrev done_below : (ℕ → Control → Control) → ℕ → Control → Control
done_below f zero c = c
done_below f (suc n) c = f n (done_below f n c)

-- the objects below n that pass
abbrev below : (ℕ → Bool) → ℕ → List ObjId
below own zero = []
below own (suc n) = below own n ++ cond (own n) (control_id n ∷ []) []

pub done_for-append : (f : ℕ → Control → Control) (xs ys : List ObjId) (c : Control) → done_for f (xs ++ ys) c ≡ done_for f ys (done_for f xs c)
done_for-append f [] ys c = refl
done_for-append f (x ∷ xs) ys c = done_for-append f xs ys (f x.0 c)

module _ (f g : ℕ → Control → Control) (own : ℕ → Bool) (I : Control → Type 0) (kept : (n : ℕ) (c : Control) → I c → I (f n c))
    (mine : (n : ℕ) (c : Control) → I c → own n ≡ true → f n c ≡ g n c) (others : (n : ℕ) (c : Control) → I c → own n ≡ false → f n c ≡ c) where
  holds_below : (n : ℕ) (c : Control) → I c → I (done_below f n c)
  holds_below zero c h = h
  holds_below (suc n) c h = kept n (done_below f n c) (holds_below n c h)

  -- where nothing is done for those that don't pass
  below_is : (n : ℕ) (c : Control) → I c → done_below f n c ≡ done_for g (below own n) c
  below_is zero c h = refl
  below_is (suc n) c h = at (below_is n c h) (own n) refl
    where
      at : done_below f n c ≡ done_for g (below own n) c → (b : Bool) → own n ≡ b →
          f n (done_below f n c) ≡ done_for g (below own n ++ cond (own n) (control_id n ∷ []) []) c
      at so_far true e =
          mine n (done_below f n c) (holds_below n c h) e ∙ ap (g n) so_far
          ∙ sym (done_for-append g (below own n) (control_id n ∷ []) c)
          ∙ ap (λ (b : Bool). done_for g (below own n ++ cond b (control_id n ∷ []) []) c) (sym e)
      at so_far false e =
          others n (done_below f n c) (holds_below n c h) e ∙ so_far
          ∙ ap (λ (ids : List ObjId). done_for g ids c) (sym (append-nil (below own n)))
          ∙ ap (λ (b : Bool). done_for g (below own n ++ cond b (control_id n ∷ []) []) c) (sym e)

all_pass : (own : ℕ → Bool) (n : ℕ) → All (λ i. own i.0 ≡ true) (below own n)
all_pass own zero = All-nil (λ (i : ObjId). own i.0 ≡ true)
all_pass own (suc n) = All-append (λ (i : ObjId). own i.0 ≡ true) (below own n) (cond (own n) (control_id n ∷ []) []) (all_pass own n) (at (own n) refl)
  where
    at : (b : Bool) → own n ≡ b → All (λ (i : ObjId). own i.0 ≡ true) (cond (own n) (control_id n ∷ []) [])
    at true e = All-same (λ (i : ObjId). own i.0 ≡ true) _ (control_id n ∷ []) (ap (λ (b : Bool). cond b (control_id n ∷ []) []) e)
        (All-cons (λ (i : ObjId). own i.0 ≡ true) (control_id n) [] e (All-nil (λ (i : ObjId). own i.0 ≡ true)))
    at false e = All-same (λ (i : ObjId). own i.0 ≡ true) _ [] (ap (λ (b : Bool). cond b (control_id n ∷ []) []) e) (All-nil (λ (i : ObjId). own i.0 ≡ true))

-- the tree's children are those that pass
glue : (b : Bool) (xs : List ObjId) (x : ObjId) (rest : List ObjId) → (xs ++ cond b (x ∷ []) []) ++ rest ≡ xs ++ (if b then x ∷ rest else rest)
glue true xs x rest = append_assoc xs (x ∷ []) rest
glue false xs x rest = ap (λ (ys : List ObjId). ys ++ rest) (append-nil xs)

children_cut : (own : ℕ → Bool) (o : ObjId) (ts : List TreeRow) (first : ℕ) → ((j : ℕ) → own (first + j) ≡ is_owner_of o (slice_index_or ts j no_row).owner) →
    below own (first + length ts) ≡ below own first ++ children_from first (tree_of ts) o
children_cut own o [] first h =
    let same : first + 0 ≡ first = omega arith in
    ap (below own) same ∙ sym (append-nil (below own first))
children_cut own o (t ∷ ts) first h =
    let here : first + 0 ≡ first = omega arith in
    let next : first + 1 ≡ suc first = omega arith in
    let many : first + suc (length ts) ≡ (first + 1) + length ts = omega arith in
    ap (below own) many
    ∙ children_cut own o ts (first + 1) (λ j. (let e : (first + 1) + j ≡ first + suc j = omega arith in ap own e) ∙ h (suc j))
    ∙ ap (λ (ids : List ObjId). ids ++ children_from (first + 1) (tree_of ts) o) (ap (below own) next)
    ∙ ap (λ (b : Bool). (below own first ++ cond b (control_id first ∷ []) []) ++ children_from (first + 1) (tree_of ts) o) (ap own (sym here) ∙ h 0)
    ∙ glue (is_owner_of o t.owner) (below own first) (control_id first) (children_from (first + 1) (tree_of ts) o)

children_below : (own : ℕ → Bool) (o : ObjId) (ts : List TreeRow) → ((j : ℕ) → own j ≡ is_owner_of o (slice_index_or ts j no_row).owner) →
    below own (length ts) ≡ children_of (tree_of ts) o
children_below own o ts h =
    let all : length ts ≡ 0 + length ts = omega arith in
    ap (below own) all ∙ children_cut own o ts 0 (λ j. (let e : 0 + j ≡ j = omega arith in ap own e) ∙ h j)

owner_is : (o : ObjId) (w : Option ObjId) → is_owner_of o w ≡ true → w ≡ Some o
owner_is o None e = absurd (false≢true e)
owner_is o (Some w) e = ap (λ (n : ℕ). let x : Option ObjId = Some (record { 0 = n }) in x) (eqb-true w.0 o.0 e)

-- a child of an object is owned by it
pub child_owned : (ts : List TreeRow) (o : ObjId) (place : ℕ) (child : ObjId) → place < length (children_of (tree_of ts) o) →
    child ≡ slice_index_or (children_of (tree_of ts) o) place child → (slice_index_or ts child.0 no_row).owner ≡ Some o
child_owned ts o place child within is =
    owner_is o (slice_index_or ts child.0 no_row).owner
    (subst (λ (i : ObjId). own i.0 ≡ true) (sym is)
    (All-get_or (λ (i : ObjId). own i.0 ≡ true) (children_of (tree_of ts) o) place child within
    (All-same (λ (i : ObjId). own i.0 ≡ true) (children_of (tree_of ts) o) (below own (length ts)) (sym (children_below own o ts (λ j. refl))) (all_pass own (length ts)))))
  where
    own : ℕ → Bool
    own j = is_owner_of o (slice_index_or ts j no_row).owner

-- each noted child is told
module _ {L : Type 0} (s : State L) (c : Control) (h : Stands s c) where
  pub tell_all : (owner : ObjId) → tell_children (length c.rows.objects) owner.0 c ≡ done_for tell_noted (children_of (tree_of s.objects.tree) owner) c
  tell_all owner =
      as_below (length c.rows.objects)
      ∙ below_is f tell_noted own I kept mine others (length c.rows.objects) c (λ j. refl)
      ∙ ap (λ (n : ℕ). done_for tell_noted (below own n) c) h.objects.many
      ∙ ap (λ (ids : List ObjId). done_for tell_noted ids c)
      (children_below own owner s.objects.tree (λ j. ap (λ (r : Row). is_owner owner.0 r.owner) (h.objects.each j) ∙ same_owner owner.0 (tree_row s.objects j).owner))
    where
      f : ℕ → Control → Control
      f n b = tell_where (is_owner owner.0 (obj b.rows n).owner && (obj b.rows n).noted) n b

      own : ℕ → Bool
      own j = is_owner owner.0 (obj c.rows j).owner

      I : Control → Type 0
      I b = (j : ℕ) → is_owner owner.0 (obj b.rows j).owner ≡ own j

      as_below : (n : ℕ) → tell_children n owner.0 c ≡ done_below f n c
      as_below zero = refl
      as_below (suc n) = ap (f n) (as_below n)

      kept : (n : ℕ) (b : Control) → I b → I (f n b)
      kept n b i = at ((is_owner owner.0 (obj b.rows n).owner && (obj b.rows n).noted) && link_may IsTold (obj b.rows n))
        where
          at : (x : Bool) → I (if x then put n Term (link IsTold n b) else b)
          at true = λ j. read_kept (λ (r : Row). is_owner owner.0 r.owner) b.rows.objects n j (link_after IsTold (obj b.rows n)) nobody refl ∙ i j
          at false = i

      mine : (n : ℕ) (b : Control) → I b → own n ≡ true → f n b ≡ tell_noted n b
      mine n b i e = ap (λ (t : Bool). tell_where (t && (obj b.rows n).noted) n b) (i n ∙ e)

      others : (n : ℕ) (b : Control) → I b → own n ≡ false → f n b ≡ b
      others n b i e = ap (λ (t : Bool). tell_where (t && (obj b.rows n).noted) n b) (i n ∙ e)

  -- each socket that is not closed gets a Stop
  pub stop_all : RootOwnsSockets s.objects → stop_sockets (length c.rows.objects) c ≡ done_for stop_one (children_of (tree_of s.objects.tree) (control_id 0)) c
  stop_all sockets =
      as_below (length c.rows.objects)
      ∙ below_is stop_one stop_one own I kept (λ n b i e. refl) others (length c.rows.objects) c starts
      ∙ ap (λ (n : ℕ). done_for stop_one (below own n) c) h.objects.many
      ∙ ap (λ (ids : List ObjId). done_for stop_one ids c)
      (children_below own (control_id 0) s.objects.tree (λ j. ap (λ (r : Row). is_owner 0 r.owner) (h.objects.each j) ∙ same_owner 0 (tree_row s.objects j).owner))
    where
      own : ℕ → Bool
      own j = is_owner 0 (obj c.rows j).owner

      I : Control → Type 0
      I b = (j : ℕ) → own j ≡ false → is_socket (obj b.rows j).kind ≡ false

      as_below : (n : ℕ) → stop_sockets n c ≡ done_below stop_one n c
      as_below zero = refl
      as_below (suc n) = ap (stop_one n) (as_below n)

      starts : I c
      starts j e =
          ap (λ (r : Row). is_socket r.kind) (h.objects.each j) ∙ sockets.each j ∙ sym (same_owner 0 (tree_row s.objects j).owner)
          ∙ sym (ap (λ (r : Row). is_owner 0 r.owner) (h.objects.each j)) ∙ e

      kept : (n : ℕ) (b : Control) → I b → I (stop_one n b)
      kept n b i = at (link_may StopPut (obj b.rows n))
        where
          at : (x : Bool) → I (if x then put n Stop (link StopPut n b) else b)
          at true = λ j e. read_kept (λ (r : Row). is_socket r.kind) b.rows.objects n j (link_after StopPut (obj b.rows n)) nobody refl ∙ i j e
          at false = i

      no_and : (a b : Bool) → (a && (b && false)) ≡ false
      no_and true true = refl
      no_and true false = refl
      no_and false b = refl

      others : (n : ℕ) (b : Control) → I b → own n ≡ false → stop_one n b ≡ b
      others n b i e =
          ap (λ (t : Bool). if t then put n Stop (link StopPut n b) else b)
          (ap (λ (t : Bool). is_unused (obj b.rows n).stop && (is_unused (obj b.rows n).request && (t && is_alive (obj b.rows n).stage))) (i n e)
          ∙ no_and (is_unused (obj b.rows n).stop) (is_unused (obj b.rows n).request))

-- a sum over the numbers below n
abbrev up : (ℕ → ℕ) → ℕ → ℕ
up g zero = 0
up g (suc n) = up g n + g n

below_sum : (g : ℕ → ℕ) (own : ℕ → Bool) (n : ℕ) → sum_by (λ (i : ObjId). g i.0) (below own n) ≤ up g n
below_sum g own zero = omega arith
below_sum g own (suc n) =
    let so_far = below_sum g own n in
    let all = sum_by-append (λ (i : ObjId). g i.0) (below own n) (cond (own n) (control_id n ∷ []) []) in
    let last = at (own n) in
    omega (arith, so_far, all, last)
  where
    at : (b : Bool) → sum_by (λ (i : ObjId). g i.0) (cond b (control_id n ∷ []) []) ≤ g n
    at true = omega arith
    at false = omega arith

up_same : (f g : ℕ → ℕ) → ((i : ℕ) → f i ≡ g i) → (n : ℕ) → up f n ≡ up g n
up_same f g same zero = refl
up_same f g same (suc n) = let so_far = up_same f g same n in let last = same n in omega (arith, so_far, last)

up_is : (f : Row → ℕ) (rows : List Row) (n : ℕ) → n ≤ length rows → up (λ i. f (slice_index_or rows i nobody)) n ≡ sum_by f (take n rows)
up_is f rows zero h = refl
up_is f rows (suc n) h =
    let so_far = up_is f rows n (omega (arith, h)) in
    let within : n < length rows = omega (arith, h) in
    let more = sum_by_more f rows n nobody within in
    let next : ◌≡◌ {A = ℕ} (n + 1) (suc n) = omega arith in
    let all = ap (λ (k : ℕ). sum_by f (take k rows)) next in
    omega (arith, so_far, more, all)

-- the commands of an object's children are not more than those of all objects
pub children_have_room : {L : Type 0} (s : State L) (c : Control) → Stands s c → (test : Row → Bool) (owner : ObjId) →
    ((k : ℕ) → sum_by (λ o. cond (test o && o.slot == k) 1 0) c.rows.objects ≤ (mail_at s.boxes k).spare) → HaveRoom test s (children_of (tree_of s.objects.tree) owner)
children_have_room s c h test owner room = record { each = at }
  where
    own : ℕ → Bool
    own j = is_owner_of owner (tree_row s.objects j).owner

    at : (k : ℕ) → sum_by (command_for test s.objects k) (children_of (tree_of s.objects.tree) owner) ≤ (mail_at s.boxes k).spare
    at k =
        let kids = ap (λ (ids : List ObjId). sum_by (command_for test s.objects k) ids) (sym (children_below own owner s.objects.tree (λ j. refl))) in
        let most = below_sum (λ i. command_for test s.objects k (control_id i)) own (length s.objects.tree) in
        let same = up_same (λ i. command_for test s.objects k (control_id i)) (λ i. f (slice_index_or c.rows.objects i nobody))
        (λ i. ap f (sym (h.objects.each i))) (length s.objects.tree) in
        let many : length s.objects.tree ≤ length c.rows.objects = omega (arith, h.objects.many) in
        let sums = up_is f c.rows.objects (length s.objects.tree) many in
        let whole = ap (λ (n : ℕ). sum_by f (take n c.rows.objects)) (sym h.objects.many) ∙ ap (sum_by f) (take_all (length c.rows.objects) c.rows.objects (omega arith)) in
        let enough = room k in
        omega (arith, kids, most, same, sums, whole, enough)
      where
        f : Row → ℕ
        f o = cond (test o && o.slot == k) 1 0
