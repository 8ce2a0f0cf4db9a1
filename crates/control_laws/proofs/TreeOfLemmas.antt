-- Each step of the rows is a move of their tree, or leaves it.
use Rattle.std.specs.Prelude.{◌≡◌, ◌⊎◌, ◌==◌, ℕ, zero, suc, Bool, true, false, cond, List, [], ◌∷◌, ◌++◌, map, Option, Some, None, sum_by, slice_index_or, slice_set, refl}
use Rattle.std.proofs.Common.{arith, sym, ap, ◌∙◌, subst, inl, inr}
use Rattle.std.proofs.lemmas.Bool.{eqb-true}
use Rattle.std.proofs.lemmas.List.{map-set, map-append, set-get_or}
use Rattle.std.proofs.lemmas.List.Sums.{sum_by-cons}
use Rattle.zq_base.specs.declared.ids.ObjId.{ObjId}
use Rattle.spec_control.specs.declared.object.ObjState.{ObjState}
use Rattle.spec_control.specs.declared.object.ObjState.TheVariants.{Live, Asked, Ended}
use Rattle.spec_control.specs.declared.stage.Stage.{Stage}
use Rattle.spec_control.specs.declared.stage.Stage.TheVariants.{Alive, Told, Ending, Finished, Cleared}
use Rattle.spec_control.specs.OwnershipTree.{Object, Tree, object_at, with_state, IsMove, makes, asks, ends}
use Rattle.spec_control.specs.Stage.{is_alive, is_told, has_ended, is_finished, is_cleared}
use Rattle.spec_control.specs.Row.{Row, nobody, LinkEvent, OwnComes, PlugComes, IsTold, TermComes, AsksOver, RequestComes, ReapComes, AckComes, RootAsked, StopPut, StopComes, AsksForLink, AsksForLinger, link_may, link_after}
use Rattle.spec_control.specs.Rows.{Rows, PairRow, no_pair, obj, pair, of_ends, makes_object, draws_pair, opens_pair, link_moves, pair_moves, object_ends, MayEnd}
use Rattle.spec_control.specs.Control.{id}
use Rattle.spec_control.specs.Reply.{state_of}
use Rattle.control_laws.specs.TreeOf.{owner_id, object_of, tree_of, is_left, ends_left, StepsAreMoves}
use Rattle.control_laws.proofs.ListLemmas.{never, left, right}
use Rattle.control_laws.proofs.ClosedLemmas.{Inv, Closed, may_end_closed}
use Rattle.control_laws.proofs.RowLemmas.{holds}

-- an object of the tree is a row of the rows
at_row : (objects : List Row) (i : ℕ) → slice_index_or (map object_of objects) i (record { owner = None; state = Ended }) ≡ object_of (slice_index_or objects i nobody)
at_row [] i = refl
at_row (o ∷ objects) zero = refl
at_row (o ∷ objects) (suc i) = at_row objects i

object_is : (s : Rows) (i : ObjId) → object_at (tree_of s) i ≡ object_of (obj s i.0)
object_is s i = at_row s.objects i.0

state_is : (s : Rows) (i : ℕ) → (object_at (tree_of s) (id i)).state ≡ state_of (obj s i).stage
state_is s i = ap (λ (o : Object). o.state) (object_is s (id i))

-- ---- an object is made
not_ended : (stage : Stage) → has_ended stage ≡ false → state_of stage ≡ Ended → ⊥
not_ended Alive h e = no e
  where
    no : Live ≡ Ended → ⊥
    no e = Prim.grind arith
not_ended Told h e = no e
  where
    no : Live ≡ Ended → ⊥
    no e = Prim.grind arith
not_ended Ending h e = no e
  where
    no : Asked ≡ Ended → ⊥
    no e = Prim.grind arith
not_ended Finished h e = never (sym h)
not_ended Cleared h e = never (sym h)

made : (s : Rows) (w : ℕ) (o : Row) → has_ended (obj s w).stage ≡ false → o.owner ≡ Some w → o.stage ≡ Alive → IsMove (ends_left s) (tree_of s) (map object_of (s.objects ++ o ∷ []))
made s w o unended owner alive = makes (id w) (record {
  unended = λ e. not_ended (obj s w).stage unended (sym (state_is s w) ∙ e);
  added = map-append object_of s.objects (o ∷ []) ∙ ap (λ (x : Object). map object_of s.objects ++ x ∷ [])
      (ap (λ (v : Option ℕ). record { owner = owner_id v; state = state_of o.stage }) owner ∙ ap (λ (t : Stage). record { owner = Some (id w); state = state_of t }) alive);
})

-- ---- a row is written
with_row : (s : Rows) (c : ℕ) (n : Row) (state : ObjState) → n.owner ≡ (obj s c).owner → state_of n.stage ≡ state → map object_of (slice_set s.objects c n) ≡ with_state state (id c) (tree_of s)
with_row s c n state owner is =
    map-set object_of s.objects c n
    ∙ ap (λ (x : Object). slice_set (map object_of s.objects) c x)
    (ap (λ (v : Option ℕ). record { owner = owner_id v; state = state_of n.stage }) owner
    ∙ ap (λ (t : ObjState). record { owner = owner_id (obj s c).owner; state = t }) is
    ∙ ap (λ (x : Object). record x { state = state }) (sym (object_is s (id c))))

same_tree : (s : Rows) (c : ℕ) (n : Row) → n.owner ≡ (obj s c).owner → state_of n.stage ≡ state_of (obj s c).stage → map object_of (slice_set s.objects c n) ≡ tree_of s
same_tree s c n owner is =
    map-set object_of s.objects c n
    ∙ ap (λ (x : Object). slice_set (map object_of s.objects) c x)
    (ap (λ (v : Option ℕ). record { owner = owner_id v; state = state_of n.stage }) owner ∙ ap (λ (t : ObjState). record { owner = owner_id (obj s c).owner; state = t }) is ∙ sym (object_is s (id c)))
    ∙ set-get_or (map object_of s.objects) c (record { owner = None; state = Ended })

alive_state : (stage : Stage) → is_alive stage ≡ true → state_of stage ≡ Live
alive_state Alive h = refl
alive_state Told h = absurd (never h)
alive_state Ending h = absurd (never h)
alive_state Finished h = absurd (never h)
alive_state Cleared h = absurd (never h)

told_state : (stage : Stage) → is_told stage ≡ true → state_of stage ≡ Live
told_state Told h = refl
told_state Alive h = absurd (never h)
told_state Ending h = absurd (never h)
told_state Finished h = absurd (never h)
told_state Cleared h = absurd (never h)

finished_state : (stage : Stage) → is_finished stage ≡ true → state_of stage ≡ Ended
finished_state Finished h = refl
finished_state Alive h = absurd (never h)
finished_state Told h = absurd (never h)
finished_state Ending h = absurd (never h)
finished_state Cleared h = absurd (never h)

linked : (s : Rows) (c : ℕ) (e : LinkEvent) → link_may e (obj s c) ≡ true → (map object_of (slice_set s.objects c (link_after e (obj s c))) ≡ tree_of s) ⊎ IsMove (ends_left s) (tree_of s) (map object_of (slice_set s.objects c (link_after e (obj s c))))
linked s c OwnComes may = inl (same_tree s c (link_after OwnComes (obj s c)) refl refl)
linked s c PlugComes may = inl (same_tree s c (link_after PlugComes (obj s c)) refl refl)
linked s c IsTold may = inl (same_tree s c (link_after IsTold (obj s c)) refl (sym (alive_state (obj s c).stage (left _ _ may))))
linked s c TermComes may = inr (asks (id c) (record { live = state_is s c ∙ told_state (obj s c).stage (left _ _ may); asked = with_row s c (link_after TermComes (obj s c)) Asked refl refl }))
linked s c AsksOver may = inl (same_tree s c (link_after AsksOver (obj s c)) refl refl)
linked s c RequestComes may = inl (same_tree s c (link_after RequestComes (obj s c)) refl refl)
linked s c ReapComes may = inl (same_tree s c (link_after ReapComes (obj s c)) refl (sym (alive_state (obj s c).stage (left _ _ (right _ _ may)))))
linked s c AckComes may = inl (same_tree s c (link_after AckComes (obj s c)) refl (sym (finished_state (obj s c).stage (left _ _ may))))
linked s c RootAsked may = inr (asks (id c) (record { live = state_is s c ∙ alive_state (obj s c).stage (left _ _ may); asked = with_row s c (link_after RootAsked (obj s c)) Asked refl refl }))
linked s c StopPut may = inl (same_tree s c (link_after StopPut (obj s c)) refl refl)
linked s c StopComes may = inl (same_tree s c (link_after StopComes (obj s c)) refl refl)
linked s c AsksForLink may = inl (same_tree s c (link_after AsksForLink (obj s c)) refl refl)
linked s c AsksForLinger may = inl (same_tree s c (link_after AsksForLinger (obj s c)) refl refl)

-- ---- an object ends
cleared_state : (stage : Stage) → is_cleared stage ≡ true → state_of stage ≡ Ended
cleared_state Cleared h = refl
cleared_state Alive h = absurd (never h)
cleared_state Told h = absurd (never h)
cleared_state Ending h = absurd (never h)
cleared_state Finished h = absurd (never h)

owner_is : (v : Option ℕ) (i : ℕ) → owner_id v ≡ Some (id i) → v ≡ Some i
owner_is None i h = absurd (no h)
  where
    no : {X : Type 0} {x : X} → None ≡ Some x → ⊥
    no e = Prim.grind arith
owner_is (Some v) i h = ap (λ (n : ℕ). Some n) (ap (λ (x : ObjId). x.0) (same h))
  where
    same : {X : Type 0} {x y : X} → Some x ≡ Some y → x ≡ y
    same e = Prim.grind arith

none_left : (b : Bool) → b ≡ true → ◌≡◌ {A = ℕ} (cond b 0 1) 0
none_left true h = refl
none_left false h = absurd (never h)

-- an end that the object owns is past
of_none : (s : Rows) (i k : ℕ) → Closed s i → of_ends is_left i (pair s k) ≡ 0
of_none s i k closed =
    let a = part (pair s k).a_owner (is_left (pair s k).a) (λ e. none_left _ (left _ _ (closed.ends k true e))) in
    let b = part (pair s k).b_owner (is_left (pair s k).b) (λ e. none_left _ (left _ _ (closed.ends k false e))) in
    omega (arith, a, b)
  where
    part : (owner n : ℕ) → (owner ≡ i → n ≡ 0) → cond (owner == i) n 0 ≡ 0
    part owner n none = by (owner == i) (λ e. none (eqb-true owner i e))
      where
        by : (b : Bool) → (b ≡ true → n ≡ 0) → cond b n 0 ≡ 0
        by true h = h refl
        by false h = refl

sum_none : (f : PairRow → ℕ) (ps : List PairRow) → ((k : ℕ) → f (slice_index_or ps k no_pair) ≡ 0) → sum_by f ps ≡ 0
sum_none f [] h = refl
sum_none f (p ∷ ps) h = let a = sum_by-cons f p ps in let first = h zero in let rest = sum_none f ps (λ k. h (suc k)) in omega (arith, a, first, rest)

ended : (s : Rows) (c : ℕ) → Inv s → MayEnd s c → IsMove (ends_left s) (tree_of s) (map object_of (slice_set s.objects c (record (obj s c) { stage = Finished })))
ended s c inv m =
    let closed = may_end_closed s c inv m in
    ends (id c) (record {
      asked = state_is s c ∙ ap state_of m.asked;
      children = λ child of. state_is s child.0 ∙ cleared_state (obj s child.0).stage
          (left _ _ (closed.children child.0 (owner_is (obj s child.0).owner c (sym (ap (λ (o : Object). o.owner) (object_is s child)) ∙ of))));
      gone = sum_none (of_ends is_left c) s.pairs (λ k. of_none s c k closed);
      ended = with_row s c (record (obj s c) { stage = Finished }) Ended refl refl;
    })

pub steps_are_moves : StepsAreMoves
steps_are_moves old new reached (makes_object w o unended owner alive fits is) = inr (subst (λ (t : Tree). IsMove (ends_left old) (tree_of old) t) (sym (ap tree_of is)) (made old w o unended owner alive))
steps_are_moves old new reached (draws_pair p a b is) = inl (ap tree_of is)
steps_are_moves old new reached (opens_pair k a p m x y is) = inl (ap tree_of is)
steps_are_moves old new reached (link_moves c e may is) =
    subst (λ (t : Tree). (t ≡ tree_of old) ⊎ IsMove (ends_left old) (tree_of old) t) (sym (ap tree_of is)) (linked old c e may)
steps_are_moves old new reached (pair_moves k a e p other m is) = inl (ap tree_of is)
steps_are_moves old new reached (object_ends c m is) = inr (subst (λ (t : Tree). IsMove (ends_left old) (tree_of old) t) (sym (ap tree_of is)) (ended old c (holds old reached) m))
