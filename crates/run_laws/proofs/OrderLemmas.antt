-- The objects in the order of their ending: kept by each event of a run.
use Rattle.std.specs.Prelude.{◌≡◌, ◌<◌, ◌≤◌, ◌+◌, ◌==◌, ◌||◌, ℕ, zero, suc, Bool, true, false, cond, List, [], ◌∷◌, ◌++◌, Option, Some, None, count_by, length, slice_index_or, refl}
use Rattle.std.specs.List.{list_any}
use Rattle.std.proofs.Common.{arith, sym, ap, ◌∙◌, subst}
use Rattle.std.proofs.lemmas.Bool.{eqb-true, eq-eqb}
use Rattle.std.proofs.lemmas.List.Folds.{list_any-append}
use Rattle.std.proofs.lemmas.List.Sums.{sum_by-append}
use Rattle.zq_base.specs.declared.ids.ObjId.{ObjId}
use Rattle.spec_control.specs.declared.entry.Did.{Did}
use Rattle.spec_control.specs.declared.entry.Item.{Item}
use Rattle.spec_control.specs.declared.entry.Item.TheVariants.{Event, Seen}
use Rattle.spec_control.specs.Stage.{has_ended}
use Rattle.spec_control.specs.Row.{Row, nobody}
use Rattle.spec_control.specs.Rows.{obj}
use Rattle.spec_control.specs.Control.{Control, begun, id}
use Rattle.spec_control.specs.After.{after}
use Rattle.spec_control.specs.ControlRun.{Fits, FitsItem, after_item, after_all, IsControlRun}
use Rattle.control_laws.proofs.ListLemmas.{never}
use Rattle.control_laws.proofs.RowLemmas.{all_is_over}
use Rattle.control_laws.specs.Kept.{Kept}
use Rattle.control_laws.proofs.RootLemmas.{runs_are_kept, delivered_to_living}
use Rattle.control_laws.proofs.GuardLemmas.{oldest_may_come}
use Rattle.control_laws.proofs.StepsLemmas.{events_are_steps}
use Rattle.run_laws.specs.EndOrder.{actor_of, is_numbered, EndInOrder}
use Rattle.run_laws.proofs.OverLemmas.{row_in, over, is_over, ended_is, over_there, living_there, there_row}
use Rattle.run_laws.proofs.KeepLemmas.{Keeps, EndsOne}
use Rattle.run_laws.proofs.EventLemmas.{EventOut, none_ends, one_ends, event_out}
use Rattle.run_laws.proofs.StayLemmas.{steps_stay}
use Rattle.run_laws.proofs.DoneLemmas.{not_its_own}

-- ---- lists of objects

any_left : (x : ℕ) (xs ys : List ObjId) → list_any (is_numbered x) xs ≡ true → list_any (is_numbered x) (xs ++ ys) ≡ true
any_left x xs ys h = list_any-append (is_numbered x) xs ys ∙ ap (λ (b : Bool). b || list_any (is_numbered x) ys) h

or_true : (a b : Bool) → b ≡ true → (a || b) ≡ true
or_true true b h = refl
or_true false b h = h

any_right : (x : ℕ) (xs ys : List ObjId) → list_any (is_numbered x) ys ≡ true → list_any (is_numbered x) (xs ++ ys) ≡ true
any_right x xs ys h = list_any-append (is_numbered x) xs ys ∙ or_true (list_any (is_numbered x) xs) _ h

or_false : (b : Bool) → (b || false) ≡ b
or_false true = refl
or_false false = refl

-- the last of a list is this one, or the object is before it
any_last : (x b : ℕ) (xs : List ObjId) → list_any (is_numbered x) (xs ++ id b ∷ []) ≡ (list_any (is_numbered x) xs || x == b)
any_last x b xs = list_any-append (is_numbered x) xs (id b ∷ []) ∙ ap (λ (c : Bool). list_any (is_numbered x) xs || c) (or_false (x == b))

none_counts : (x : ℕ) (xs : List ObjId) → list_any (is_numbered x) xs ≡ false → count_by (is_numbered x) xs ≡ 0
none_counts x [] h = refl
none_counts x (o ∷ xs) h = by (x == o.0) refl (λ rest. none_counts x xs rest)
  where
    by : (b : Bool) → (x == o.0) ≡ b → (list_any (is_numbered x) xs ≡ false → count_by (is_numbered x) xs ≡ 0) → count_by (is_numbered x) (o ∷ xs) ≡ 0
    by true e rest = absurd (never (sym h ∙ ap (λ (b : Bool). b || list_any (is_numbered x) xs) e))
    by false e rest = rw e (rest (sym (ap (λ (b : Bool). b || list_any (is_numbered x) xs) e) ∙ h))

counts_last : (x b : ℕ) (xs : List ObjId) → count_by (is_numbered x) (xs ++ id b ∷ []) ≡ count_by (is_numbered x) xs + cond (x == b) 1 0
counts_last x b xs =
    let last : ◌≡◌ {A = ℕ} (0 + cond (x == b) 1 0) (cond (x == b) 1 0) = omega arith in
    sum_by-append (λ (o : ObjId). cond (is_numbered x o) 1 0) xs (id b ∷ []) ∙ ap (λ (n : ℕ). count_by (is_numbered x) xs + n) last

-- a list with one more at its end, split
data Split (xs : List ObjId) (b o : ObjId) (before after : List ObjId) : Type 0 where
  at_end : after ≡ [] → o ≡ b → Split xs b o before after
  earlier : (rest : List ObjId) → after ≡ rest ++ b ∷ [] → xs ≡ before ++ o ∷ rest → Split xs b o before after

head_is : {x y : ObjId} {xs ys : List ObjId} → x ∷ xs ≡ y ∷ ys → x ≡ y
head_is e = Prim.grind arith

tail_is : {x y : ObjId} {xs ys : List ObjId} → x ∷ xs ≡ y ∷ ys → xs ≡ ys
tail_is e = Prim.grind arith

nil_cons : {x : ObjId} {xs : List ObjId} → [] ≡ x ∷ xs → ⊥
nil_cons e = Prim.grind arith

nil_more : (before : List ObjId) (x : ObjId) (xs : List ObjId) → [] ≡ before ++ x ∷ xs → ⊥
nil_more [] x xs e = nil_cons e
nil_more (y ∷ before) x xs e = nil_cons e

split : (xs : List ObjId) (b o : ObjId) (before after : List ObjId) → xs ++ b ∷ [] ≡ before ++ o ∷ after → Split xs b o before after
split [] b o [] after e = at_end (sym (tail_is e)) (sym (head_is e))
split [] b o (y ∷ before) after e = absurd (nil_more before o after (tail_is e))
split (x ∷ xs) b o [] after e = earlier xs (sym (tail_is e)) (ap (λ (y : ObjId). y ∷ xs) (head_is e))
split (x ∷ xs) b o (y ∷ before) after e = more (split xs b o before after (tail_is e))
  where
    more : Split xs b o before after → Split (x ∷ xs) b o (y ∷ before) after
    more (at_end h k) = at_end h k
    more (earlier rest h k) = earlier rest h (ap (λ (ys : List ObjId). x ∷ ys) k ∙ ap (λ (z : ObjId). z ∷ (before ++ o ∷ rest)) (head_is e))

-- ---- what is so between two events

record InOrder (c : Control) : Type 0 where
  once : (x : ℕ) → count_by (is_numbered x) c.ended ≤ 1
  there : (x : ℕ) → over c x ≡ true → list_any (is_numbered x) c.ended ≡ true
  only : (x : ℕ) → list_any (is_numbered x) c.ended ≡ true → over c x ≡ true
  first : (before after : List ObjId) (o : ObjId) → c.ended ≡ before ++ o ∷ after → (x : ℕ) → (row_in c.rows.objects x).owner ≡ Some o.0 →
      list_any (is_numbered x) after ≡ false

-- what is over stays so
abbrev Stays : Control → Control → Type 0
Stays c d = (x : ℕ) → over c x ≡ true → over d x ≡ true

-- who stands behind another has the owner that it had
behind_owner : (c d : Control) → InOrder c → ((x : ℕ) → x < length c.rows.objects → (row_in d.rows.objects x).owner ≡ (row_in c.rows.objects x).owner)
    → (before after : List ObjId) (o : ObjId) → c.ended ≡ before ++ o ∷ after → (x : ℕ) → (row_in d.rows.objects x).owner ≡ Some o.0 → list_any (is_numbered x) after ≡ false
behind_owner c d inv owners before after o e x owner = by (list_any (is_numbered x) after) refl
  where
    by : (b : Bool) → list_any (is_numbered x) after ≡ b → list_any (is_numbered x) after ≡ false
    by false h = h
    by true h =
        let listed : list_any (is_numbered x) c.ended ≡ true = ap (list_any (is_numbered x)) e ∙ any_right x before (o ∷ after) (or_true (is_numbered x o) _ h) in
        inv.first before after o e x (sym (owners x (over_there c.rows.objects x (inv.only x listed))) ∙ owner)

keeps_order : (c d : Control) → Keeps c d → Stays c d → InOrder c → InOrder d
keeps_order c d k stays inv = record {
  once = λ x. subst (λ (es : List ObjId). count_by (is_numbered x) es ≤ 1) (sym k.ended) (inv.once x);
  there = λ x h. subst (λ (es : List ObjId). list_any (is_numbered x) es ≡ true) (sym k.ended) (inv.there x (k.lives x h));
  only = λ x h. stays x (inv.only x (subst (λ (es : List ObjId). list_any (is_numbered x) es ≡ true) k.ended h));
  first = λ before after o e x owner. behind_owner c d inv k.owners before after o (sym k.ended ∙ e) x owner;
}

-- the one that ends is owned by none that has ended
none_owns : (c : Control) → InOrder c → (b : ℕ) → has_ended (obj c.rows b).stage ≡ false → ((i : ℕ) → has_ended (obj c.rows i).stage ≡ true → (x : ℕ) → (obj c.rows x).owner ≡ Some i → has_ended (obj c.rows x).stage ≡ true)
    → (before after : List ObjId) (o : ObjId) → c.ended ≡ before ++ o ∷ after → (row_in c.rows.objects b).owner ≡ Some o.0 → ⊥
none_owns c inv b lives children before after o e owner =
    let listed : list_any (is_numbered o.0) c.ended ≡ true = ap (list_any (is_numbered o.0)) e ∙ any_right o.0 before (o ∷ after) (ap (λ (x : Bool). x || list_any (is_numbered o.0) after) (eq-eqb o.0 o.0 refl)) in
    let ended : has_ended (obj c.rows o.0).stage ≡ true = ended_is c.rows.objects o.0 (inv.only o.0 listed) in
    let mine : (obj c.rows b).owner ≡ Some o.0 = ap (λ (r : Row). r.owner) (sym (there_row c.rows.objects b (living_there c.rows.objects b lives))) ∙ owner in
    never (sym lives ∙ children o.0 ended b mine)

ends_order : (c d : Control) (b : ℕ) → EndsOne b c d → has_ended (obj c.rows b).stage ≡ false → Stays c d
    → ((i : ℕ) → has_ended (obj c.rows i).stage ≡ true → (x : ℕ) → (obj c.rows x).owner ≡ Some i → has_ended (obj c.rows x).stage ≡ true) → InOrder c → InOrder d
ends_order c d b k lives stays children inv = record {
  once = λ x. subst (λ (es : List ObjId). count_by (is_numbered x) es ≤ 1) (sym k.ended) (once x (x == b) refl);
  there = λ x h. subst (λ (es : List ObjId). list_any (is_numbered x) es ≡ true) (sym k.ended) (there x h (x == b) refl);
  only = λ x h. only x (x == b) refl (sym (any_last x b c.ended) ∙ subst (λ (es : List ObjId). list_any (is_numbered x) es ≡ true) k.ended h);
  first = λ before after o e x owner. first before after o x owner (split c.ended (id b) o before after (sym k.ended ∙ e));
}
  where
    not_there : list_any (is_numbered b) c.ended ≡ false
    not_there = by (list_any (is_numbered b) c.ended) refl
      where
        by : (v : Bool) → list_any (is_numbered b) c.ended ≡ v → list_any (is_numbered b) c.ended ≡ false
        by false h = h
        by true h = absurd (never (sym lives ∙ ended_is c.rows.objects b (inv.only b h)))

    once : (x : ℕ) (v : Bool) → (x == b) ≡ v → count_by (is_numbered x) (c.ended ++ id b ∷ []) ≤ 1
    once x true e =
        let same : x ≡ b = eqb-true x b e in
        let zero : count_by (is_numbered x) c.ended ≡ 0 = none_counts x c.ended (subst (λ (n : ℕ). list_any (is_numbered n) c.ended ≡ false) (sym same) not_there) in
        let all = counts_last x b c.ended in
        let more : ◌≡◌ {A = ℕ} (cond (x == b) 1 0) 1 = ap {B = ℕ} (λ (v : Bool). cond v 1 0) e in omega (arith, zero, all, more)
    once x false e =
        let few = inv.once x in
        let all = counts_last x b c.ended in
        let more : ◌≡◌ {A = ℕ} (cond (x == b) 1 0) 0 = ap {B = ℕ} (λ (v : Bool). cond v 1 0) e in omega (arith, few, all, more)

    there : (x : ℕ) → over d x ≡ true → (v : Bool) → (x == b) ≡ v → list_any (is_numbered x) (c.ended ++ id b ∷ []) ≡ true
    there x h true e = any_last x b c.ended ∙ or_true (list_any (is_numbered x) c.ended) (x == b) e
    there x h false e = any_left x c.ended (id b ∷ []) (inv.there x (k.lives x (λ same. never (sym e ∙ eq-eqb x b same)) h))

    only : (x : ℕ) (v : Bool) → (x == b) ≡ v → (list_any (is_numbered x) c.ended || x == b) ≡ true → over d x ≡ true
    only x true e h = subst (λ (n : ℕ). over d n ≡ true) (sym (eqb-true x b e)) k.now
    only x false e h = stays x (inv.only x (sym (or_false (list_any (is_numbered x) c.ended)) ∙ (ap (λ (v : Bool). list_any (is_numbered x) c.ended || v) (sym e) ∙ h)))

    first : (before after : List ObjId) (o : ObjId) (x : ℕ) → (row_in d.rows.objects x).owner ≡ Some o.0 → Split c.ended (id b) o before after → list_any (is_numbered x) after ≡ false
    first before after o x owner (at_end e same) = ap (list_any (is_numbered x)) e
    first before after o x owner (earlier rest e is) =
        ap (list_any (is_numbered x)) e ∙ (any_last x b rest ∙ (ap (λ (v : Bool). v || x == b) (behind_owner c d inv k.owners before rest o is x owner) ∙ by (x == b) refl))
      where
        by : (v : Bool) → (x == b) ≡ v → (x == b) ≡ false
        by false h = h
        by true h =
            let same : x ≡ b = eqb-true x b h in
            let mine : (row_in d.rows.objects b).owner ≡ Some o.0 = subst (λ (n : ℕ). (row_in d.rows.objects n).owner ≡ Some o.0) same owner in
            absurd (none_owns c inv b lives children before rest o is (sym (k.owners b (living_there c.rows.objects b lives)) ∙ mine))

-- ---- a run

pub more_run : {N S : Type 0} (past : List (Item N S)) (item : Item N S) (c : Control) → IsControlRun c past → FitsItem (after_all past c) item → IsControlRun c (past ++ item ∷ [])
more_run [] item c run fits = (fits, tt)
more_run (x ∷ past) item c run fits = (run.0, more_run past item (after_item x c) run.1 fits)

pub more_state : {N S : Type 0} (past : List (Item N S)) (item : Item N S) (c : Control) → after_all (past ++ item ∷ []) c ≡ after_item item (after_all past c)
more_state [] item c = refl
more_state (x ∷ past) item c = more_state past item (after_item x c)

out_order : (b : ℕ) (c d : Control) → EventOut b c d → Stays c d → ((i : ℕ) → has_ended (obj c.rows i).stage ≡ true → (x : ℕ) → (obj c.rows x).owner ≡ Some i → has_ended (obj c.rows x).stage ≡ true) → InOrder c → InOrder d
out_order b c d (none_ends k) stays children inv = keeps_order c d k stays inv
out_order b c d (one_ends k lives) stays children inv = ends_order c d b k lives stays children inv

-- none ends in an event of a run, or its object that lived
pub run_event_out : {N S : Type 0} (workers : ℕ) (past : List (Item N S)) (did : Did N S) → IsControlRun (begun workers) past → let c = after_all past (begun workers) in Fits c did → EventOut (actor_of did) c (after did c)
run_event_out workers past did run fits =
    event_out (after_all past (begun workers)) did fits
    (λ slot letter may. record { comes = oldest_may_come _ _ workers past run slot letter may; lives = (delivered_to_living _ _ workers past run slot letter may).lives })

item_order : {N S : Type 0} (workers : ℕ) (past : List (Item N S)) (item : Item N S) → IsControlRun (begun workers) past → FitsItem (after_all past (begun workers)) item
    → InOrder (after_all past (begun workers)) → InOrder (after_item item (after_all past (begun workers)))
item_order workers past (Event entry) run fits inv =
    let c = after_all past (begun workers) in
    let kept = runs_are_kept _ _ workers past run in
    out_order (actor_of entry.did) c (after entry.did c)
    (run_event_out workers past entry.did run fits)
    (steps_stay c.rows (after entry.did c).rows (events_are_steps _ _ workers past run entry.did fits))
    (λ i ended x owner. (all_is_over c.rows i kept.reached ended).children x owner) inv
item_order workers past (Seen sight) run fits inv = inv

run_order : {N S : Type 0} (workers : ℕ) (items past : List (Item N S)) → IsControlRun (begun workers) past → IsControlRun (after_all past (begun workers)) items
    → InOrder (after_all past (begun workers)) → InOrder (after_all items (after_all past (begun workers)))
run_order workers [] past before run inv = inv
run_order workers (item ∷ items) past before run inv =
    let same = more_state past item (begun workers) in
    subst (λ (c : Control). InOrder (after_all items c)) same
    (run_order workers items (past ++ item ∷ []) (more_run past item (begun workers) before run.0) (subst (λ (c : Control). IsControlRun c items) (sym same) run.1)
    (subst InOrder (sym same) (item_order workers past item before run.0 inv)))

begun_over : (workers x : ℕ) → over (begun workers) x ≡ true → ⊥
begun_over workers zero h = never h
begun_over workers (suc x) h = never h

begun_order : (workers : ℕ) → InOrder (begun workers)
begun_order workers = record {
  once = λ x. omega arith;
  there = λ x h. absurd (begun_over workers x h);
  only = λ x h. absurd (never h);
  first = λ before after o e x owner. absurd (nil_more before o after e);
}

owned_there : (rows : List Row) (x w : ℕ) → (slice_index_or rows x nobody).owner ≡ Some w → row_in rows x ≡ slice_index_or rows x nobody
owned_there [] x w e = absurd (none_some e)
  where
    none_some : {n : ℕ} → ◌≡◌ {A = Option ℕ} None (Some n) → ⊥
    none_some e = Prim.grind arith
owned_there (r ∷ rows) zero w e = refl
owned_there (r ∷ rows) (suc x) w e = owned_there rows x w e

owned_below : (rows : List Row) (x w : ℕ) → (slice_index_or rows x nobody).owner ≡ Some w → x < length rows
owned_below [] x w e = absurd (none_some e)
  where
    none_some : {n : ℕ} → ◌≡◌ {A = Option ℕ} None (Some n) → ⊥
    none_some e = Prim.grind arith
owned_below (r ∷ rows) zero w e = omega arith
owned_below (r ∷ rows) (suc x) w e = let below = owned_below rows x w e in omega (arith, below)

-- who is in a list, is not this one and not behind it, is before it
in_before : (x : ℕ) (before after : List ObjId) (o : ObjId) → is_numbered x o ≡ false → list_any (is_numbered x) after ≡ false
    → list_any (is_numbered x) (before ++ o ∷ after) ≡ true → list_any (is_numbered x) before ≡ true
in_before x before after o other behind h =
    sym (or_false (list_any (is_numbered x) before))
    ∙ (ap (λ (b : Bool). list_any (is_numbered x) before || b) (sym (ap (λ (b : Bool). b || list_any (is_numbered x) after) other ∙ behind))
    ∙ (sym (list_any-append (is_numbered x) before (o ∷ after)) ∙ h))

end_in_order : (c : Control) → Kept c → InOrder c → EndInOrder c
end_in_order c kept inv = record {
  once = inv.once;
  there = λ i lt h. inv.there i (is_over c.rows.objects i lt h);
  only = λ i h. ended_is c.rows.objects i (inv.only i h);
  owned_first = λ before after o e i owner. first before after o e i owner (i == o.0) refl;
}
  where
    first : (before after : List ObjId) (o : ObjId) → c.ended ≡ before ++ o ∷ after → (i : ℕ) → (obj c.rows i).owner ≡ Some o.0 → (b : Bool) → (i == o.0) ≡ b
        → list_any (is_numbered i) before ≡ true
    first before after o e i owner true same = absurd (not_its_own c kept i (owner ∙ ap (λ (n : ℕ). Some n) (sym (eqb-true i o.0 same))))
    first before after o e i owner false other =
        let listed : list_any (is_numbered o.0) c.ended ≡ true = ap (list_any (is_numbered o.0)) e ∙ any_right o.0 before (o ∷ after) (ap (λ (x : Bool). x || list_any (is_numbered o.0) after) (eq-eqb o.0 o.0 refl)) in
        let ended : has_ended (obj c.rows o.0).stage ≡ true = ended_is c.rows.objects o.0 (inv.only o.0 listed) in
        let child : has_ended (obj c.rows i).stage ≡ true = (all_is_over c.rows o.0 kept.reached ended).children i owner in
        let there : list_any (is_numbered i) c.ended ≡ true = inv.there i (is_over c.rows.objects i (owned_below c.rows.objects i o.0 owner) child) in
        let behind : list_any (is_numbered i) after ≡ false = inv.first before after o e i (ap (λ (r : Row). r.owner) (owned_there c.rows.objects i o.0 owner) ∙ owner) in
        in_before i before after o other behind (sym (ap (list_any (is_numbered i)) e) ∙ there)

pub runs_end_in_order : {N S : Type 0} (workers : ℕ) (items : List (Item N S)) → IsControlRun (begun workers) items → EndInOrder (after_all items (begun workers))
runs_end_in_order workers items run =
    end_in_order (after_all items (begun workers)) (runs_are_kept _ _ workers items run) (run_order workers items [] tt run (begun_order workers))
