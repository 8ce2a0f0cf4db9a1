-- When an object may end, and what is kept beside the rows once it has.
use Rattle.std.specs.Prelude.{◌≡◌, ◌≢◌, ◌<◌, ◌≤◌, ◌+◌, ◌-◌, ◌^◌, ℕ, true, false, cond, List, length, Option, Some, None, slice_index_or, slice_set, refl}
use Rattle.std.proofs.Common.{arith, sym, ap, ◌∙◌, subst, inl, inr, length-set}
use Rattle.std.proofs.lemmas.Bool.{cases_order, cases_eq, cases_Bool, eq-eqb, ne_eqb}
use Rattle.std.proofs.lemmas.List.{get_or_past}
use Rattle.zq_base.specs.declared.ids.ObjId.{ObjId}
use Rattle.spec_control.specs.declared.object.ObjState.{ObjState}
use Rattle.spec_control.specs.declared.object.ObjState.TheVariants.{Live, Asked, Ended}
use Rattle.spec_control.specs.declared.stage.Stage.{Stage}
use Rattle.spec_control.specs.declared.stage.Stage.TheVariants.{Alive, Told, Ending, Finished, Cleared}
use Rattle.spec_control.specs.OwnershipTree.{Object, Ends}
use Rattle.own_tree.specs.declared.row.Row.{Row}
use Rattle.own_tree.specs.declared.tally.Tally.{Tally}
use Rattle.own_tree.specs.Rows.{row_at, state_of, state_at, tree_of, lives, lives_in, is_unnoted, is_awaited, awaited_in, living_children, noted_living, live_objects, owing, IsUpToDate}
use Rattle.own_tree.specs.Changes.{in_stage}
use Rattle.own_tree.specs.Tallies.{no_tally, tally_at, AreTallied}
use Rattle.own_tree.proofs.WriteLemmas.{read_within, reads_same, reads_less}
use Rattle.own_tree.proofs.SumLemmas.{counts_unowned, counts_alike, where_alike, where_same, where_less, where_some, live-set, children-set, living_le, noted_le}
use Rattle.own_tree.proofs.RowLemmas.{has_row, owned_has_row, row_read, object_at-tree_of, tree_of-set}
use Rattle.own_tree.proofs.KeptLemmas.{adds-set}

-- an object that neither lives nor has ended was asked
asked_then : (s : ObjState) → (s ≡ Live → ⊥) → s ≢ Ended → s ≡ Asked
asked_then Live h k = absurd (h refl)
asked_then Asked h k = refl
asked_then Ended h k = absurd (k refl)

pub asked_is_not_ended : (s : ObjState) → s ≡ Asked → s ≡ Ended → ⊥
asked_is_not_ended s h k = grind arith

-- only in one stage an object is asked and has not ended
asked_is_ending : (s : Stage) → state_of s ≡ Asked → s ≡ Ending
asked_is_ending Alive h = absurd (never h)
  where
    never : Live ≡ Asked → ⊥
    never k = grind arith
asked_is_ending Told h = absurd (never h)
  where
    never : Live ≡ Asked → ⊥
    never k = grind arith
asked_is_ending Ending h = refl
asked_is_ending Finished h = absurd (never h)
  where
    never : Ended ≡ Asked → ⊥
    never k = grind arith
asked_is_ending Cleared h = absurd (never h)
  where
    never : Ended ≡ Asked → ⊥
    never k = grind arith

-- what does not live has ended
ended_where : (s : Stage) → lives_in s ≡ false → state_of s ≡ Ended
ended_where Alive h = absurd (never h)
  where
    never : true ≡ false → ⊥
    never k = grind arith
ended_where Told h = absurd (never h)
  where
    never : true ≡ false → ⊥
    never k = grind arith
ended_where Ending h = absurd (never h)
  where
    never : true ≡ false → ⊥
    never k = grind arith
ended_where Finished h = refl
ended_where Cleared h = refl

-- each living child of an object that is not behind is noted
all_noted : (rows : List Row) (tallies : List Tally) (lists : List (List ObjId)) (count : ℕ) (id : ObjId) → AreTallied rows tallies lists count →
    (row_at rows id).sent ≡ (row_at rows id).processed → noted_living rows id ≡ living_children rows id
all_noted rows tallies lists count id all level =
    let up = (all.add_up id).sent in
    let l = living_le id rows in
    let n = noted_le id rows in
    omega (arith, up, level, l, n)

-- what an object that is owed nothing waits for
owing_children : (rows : List Row) (id : ObjId) → (row_at rows id).owed ≡ 0 → owing rows id ≡ noted_living rows id
owing_children rows id e = ap (λ b. cond b (noted_living rows id) (row_at rows id).owed) (eq-eqb (row_at rows id).owed 0 e)

-- what an object owes: nothing, where it may end
owing_nothing : (rows : List Row) (id : ObjId) → owing rows id ≡ 0 → ((row_at rows id).owed ≡ 0) × (noted_living rows id ≡ 0)
owing_nothing rows id e =
    elim (cases_eq (row_at rows id).owed 0) [
      | inl none ↦ (none, sym (owing_children rows id none) ∙ e)
      | inr some ↦ absurd (some (sym (ap (λ b. cond b (noted_living rows id) (row_at rows id).owed) (ne_eqb (row_at rows id).owed 0 some)) ∙ e))
    ]

-- where no child lives each child has ended
no_child_lives : (rows : List Row) (id child : ObjId) → living_children rows id ≡ 0 → (row_at rows child).owner ≡ Some id → state_at rows child ≡ Ended
no_child_lives rows id child none o =
    elim (cases_Bool (lives (row_at rows child))) [
      | inl living ↦ absurd (both (where_some lives rows child id (owned_has_row rows child id o) o living))
      | inr ended ↦ ended_where _ ended
    ]
  where
    both : 1 ≤ living_children rows id → ⊥
    both h = omega (arith, none, h)

-- what an object waits for that was asked, is not behind and is owed nothing: its children that live
pub waits_for_children : (rows now : List Row) (tallies : List Tally) (lists : List (List ObjId)) (count : ℕ) (id : ObjId) (x : Row) (t : Tally) (s : ObjState) →
    rows ≡ now → AreTallied rows tallies lists count → state_at now id ≢ Ended → x ≡ slice_index_or rows id.0 x → s ≡ state_of x.stage → (s ≡ Live → ⊥) →
    x.sent ≡ x.processed → x.owed ≡ 0 → t ≡ slice_index_or tallies id.0 t → IsUpToDate (row_at now id) × (t.living ≡ owing now id)
waits_for_children rows now tallies lists count id x t s same all unended read s_is lives level owed t_read = (
  record { asked = asked; level = level' },
  ap (λ (w : Tally). w.living) t_is ∙ (now_all.each id).living ∙ sym (all_noted now tallies lists count id now_all level') ∙ sym (owing_children now id owed'),
)
  where
    h : id.0 < length now
    h = has_row now id unended

    is : x ≡ row_at now id
    is = row_read rows now id x same h read

    now_all : AreTallied now tallies lists count
    now_all = subst (λ (l : List Row). AreTallied l tallies lists count) same all

    t_is : t ≡ tally_at tallies id
    t_is = read_within tallies id.0 t no_tally (subst (λ n. id.0 < n) (sym now_all.tallied) h) t_read

    asked : state_at now id ≡ Asked
    asked = asked_then (state_at now id) (λ k. lives (s_is ∙ ap (λ (w : Row). state_of w.stage) is ∙ k)) unended

    level' : (row_at now id).sent ≡ (row_at now id).processed
    level' = sym (ap (λ (w : Row). w.sent) is) ∙ level ∙ ap (λ (w : Row). w.processed) is

    owed' : (row_at now id).owed ≡ 0
    owed' = sym (ap (λ (w : Row). w.owed) is) ∙ owed

-- an object that may end does so after its children and its ends
pub ends_from : (rows now : List Row) (tallies : List Tally) (lists : List (List ObjId)) (count : ℕ) (id : ObjId) (r x : Row) → rows ≡ now →
    AreTallied rows tallies lists count → IsUpToDate (row_at now id) → owing now id ≡ 0 → x ≡ slice_index_or rows id.0 x → r.owner ≡ x.owner → state_of r.stage ≡ Ended →
    Ends (row_at now id).ends id (tree_of now) (tree_of (slice_set rows id.0 r))
ends_from rows now tallies lists count id r x same all ready none read o s =
    record {
      asked = ap (λ (w : Object). w.state) (object_at-tree_of now id) ∙ ready.asked;
      children = λ child owned. ap (λ (w : Object). w.state) (object_at-tree_of now child)
          ∙ no_child_lives now id child none_lives (sym (ap (λ (w : Object). w.owner) (object_at-tree_of now child)) ∙ owned);
      gone = gone;
      ended = ap (λ (l : List Row). tree_of (slice_set l id.0 r)) same ∙ tree_of-set now id r Ended (o ∙ ap (λ (w : Row). w.owner) is) s;
    }
  where
    is : x ≡ row_at now id
    is = row_read rows now id x same (has_row now id (λ h. asked_is_not_ended _ ready.asked h)) read

    now_all : AreTallied now tallies lists count
    now_all = subst (λ (l : List Row). AreTallied l tallies lists count) same all

    none_lives : living_children now id ≡ 0
    none_lives = sym (all_noted now tallies lists count id now_all ready.level) ∙ (owing_nothing now id none).1

    gone : (row_at now id).ends ≡ 0
    gone =
        let nothing = (owing_nothing now id none).0 in
        let up = (now_all.add_up id).owed in
        omega (arith, nothing, up)

-- what is known of an object that ends
pub record EndingRow (now : List Row) (count : ℕ) (id : ObjId) (x : Row) : Type 0 where
  pub there : id.0 < length now
  pub is : x ≡ row_at now id
  pub stage : (row_at now id).stage ≡ Ending
  pub counted : 1 ≤ count

pub ending_row : (rows now : List Row) (tallies : List Tally) (lists : List (List ObjId)) (count : ℕ) (id : ObjId) (x : Row) → rows ≡ now →
    AreTallied rows tallies lists count → IsUpToDate (row_at now id) → x ≡ slice_index_or rows id.0 x → EndingRow now count id x
ending_row rows now tallies lists count id x same all ready read =
    record { there = there; is = row_read rows now id x same there read; stage = stage; counted = counted }
  where
    there : id.0 < length now
    there = has_row now id (λ h. asked_is_not_ended _ ready.asked h)

    stage : (row_at now id).stage ≡ Ending
    stage = asked_is_ending _ ready.asked

    counted : 1 ≤ count
    counted =
        let was = (subst (λ (l : List Row). AreTallied l tallies lists count) same all).live in
        let s = live-set now id (in_stage Finished (row_at now id)) there in
        let one = ap {B = ℕ} (λ (g : Stage). cond (lives_in g) 1 0) stage in
        omega (arith, was, s, one)

-- an object with a living child has a tally
has_tally : (ts : List Tally) (i : ℕ) → 1 ≤ (slice_index_or ts i no_tally).living → i < length ts
has_tally ts i k =
    elim (cases_order i (length ts)) [
      | inl same ↦ absurd (none (get_or_past ts i no_tally (omega (arith, same))))
      | inr (inl below) ↦ below
      | inr (inr above) ↦ absurd (none (get_or_past ts i no_tally (omega (arith, above))))
    ]
  where
    none : slice_index_or ts i no_tally ≡ no_tally → ⊥
    none e = let z = ap (λ (w : Tally). w.living) e in omega (arith, k, z)

-- the tally of the owner of an object that ends
pub ending_tally : (rows now : List Row) (tallies : List Tally) (lists : List (List ObjId)) (count : ℕ) (id owner : ObjId) (x : Row) → rows ≡ now →
    AreTallied rows tallies lists count → IsUpToDate (row_at now id) → x ≡ slice_index_or rows id.0 x → x.owner ≡ Some owner →
    (owner.0 < length tallies) × (1 ≤ (tally_at tallies owner).living)
ending_tally rows now tallies lists count id owner x same all ready read o =
    (held, omega (arith, some, is))
  where
    row : EndingRow now count id x
    row = ending_row rows now tallies lists count id x same all ready read

    now_all : AreTallied now tallies lists count
    now_all = subst (λ (l : List Row). AreTallied l tallies lists count) same all

    some : 1 ≤ living_children now owner
    some = where_some lives now id owner row.there (sym (ap (λ (w : Row). w.owner) row.is) ∙ o) (ap lives_in row.stage)

    is : (tally_at tallies owner).living ≡ living_children now owner
    is = (now_all.each owner).living

    held : owner.0 < length tallies
    held = has_tally tallies owner.0 (omega (arith, some, is))

-- what is kept beside the rows, once an object ended
ended_parts : (now : List Row) (tallies more : List Tally) (lists : List (List ObjId)) (count : ℕ) (id : ObjId) → AreTallied now tallies lists count →
    id.0 < length now → (row_at now id).stage ≡ Ending → length more ≡ length tallies →
    ((k : ObjId) → (tally_at more k).living ≡ living_children (slice_set now id.0 (in_stage Finished (row_at now id))) k) →
    ((k : ObjId) → (tally_at more k).unnoted ≡ (tally_at tallies k).unnoted) →
    AreTallied (slice_set now id.0 (in_stage Finished (row_at now id))) more lists (count - 1)
ended_parts now tallies more lists count id all h stage size living unnoted =
    record {
      tallied = size ∙ all.tallied ∙ sym (length-set now id.0 r);
      listed = all.listed ∙ sym (length-set now id.0 r);
      few = subst (λ n. n ≤ 2 ^ 32) (sym (length-set now id.0 r)) all.few;
      each = λ k. record {
        living = living k;
        unnoted = unnoted k ∙ (all.each k).unnoted ∙ sym (where_same is_unnoted now id r h refl refl k);
      };
      children = λ k. all.children k ∙ sym (children-set 0 now id.0 r k refl);
      live = fewer;
      add_up = adds-set now id r all.add_up h
          (record { owner = refl; noted = refl; awaited = λ k. counts_alike is_awaited k (row_at now id) r refl (sym (ap awaited_in stage)) })
          (λ u a w. record { sent = w.sent; owed = w.owed; sent_fits = w.sent_fits; ends_fit = w.ends_fit });
    }
  where
    r : Row
    r = in_stage Finished (row_at now id)

    fewer : count - 1 ≡ live_objects (slice_set now id.0 r)
    fewer =
        let was = all.live in
        let s = live-set now id r h in
        let one = ap {B = ℕ} (λ (g : Stage). cond (lives_in g) 1 0) stage in
        omega (arith, was, s, one)

-- an object with an owner ended
pub ended_in : (rows now : List Row) (tallies : List Tally) (lists : List (List ObjId)) (count : ℕ) (id owner : ObjId) (x : Row) (t : Tally) → rows ≡ now →
    AreTallied rows tallies lists count → IsUpToDate (row_at now id) → x ≡ slice_index_or rows id.0 x → x.owner ≡ Some owner → t ≡ slice_index_or tallies owner.0 t →
    AreTallied (slice_set rows id.0 (in_stage Finished x)) (slice_set tallies owner.0 (record { living = t.living - 1; unnoted = t.unnoted })) lists (count - 1)
ended_in rows now tallies lists count id owner x t same all ready read o t_read =
    subst (λ (w : Row). AreTallied (slice_set rows id.0 (in_stage Finished w)) more lists (count - 1)) (sym row.is)
    (subst (λ (l : List Row). AreTallied (slice_set l id.0 r) more lists (count - 1)) (sym same)
    (ended_parts now tallies more lists count id now_all row.there row.stage (length-set tallies owner.0 fewer) living (λ k. reads_same no_tally (λ (w : Tally). w.unnoted) tallies owner k fewer held.0 (ap (λ (w : Tally). w.unnoted) t_is))))
  where
    row : EndingRow now count id x
    row = ending_row rows now tallies lists count id x same all ready read

    now_all : AreTallied now tallies lists count
    now_all = subst (λ (l : List Row). AreTallied l tallies lists count) same all

    held : (owner.0 < length tallies) × (1 ≤ (tally_at tallies owner).living)
    held = ending_tally rows now tallies lists count id owner x same all ready read o

    r : Row
    r = in_stage Finished (row_at now id)

    fewer : Tally
    fewer = record { living = t.living - 1; unnoted = t.unnoted }

    more : List Tally
    more = slice_set tallies owner.0 fewer

    t_is : t ≡ tally_at tallies owner
    t_is = read_within tallies owner.0 t no_tally held.0 t_read

    one_less : t.living - 1 + 1 ≡ (tally_at tallies owner).living
    one_less =
        let e = ap (λ (w : Tally). w.living) t_is in
        let s = held.1 in
        omega (arith, e, s)

    living : (k : ObjId) → (tally_at more k).living ≡ living_children (slice_set now id.0 r) k
    living k =
        let a = reads_less no_tally (λ (w : Tally). w.living) tallies owner k fewer held.0 one_less in
        let b = where_less lives now id r row.there owner (sym (ap (λ (w : Row). w.owner) row.is) ∙ o) (ap lives_in row.stage) refl k in
        let was = (now_all.each k).living in
        omega (arith, a, b, was)

-- an object without an owner ended
pub root_ended_in : (rows now : List Row) (tallies : List Tally) (lists : List (List ObjId)) (count : ℕ) (id : ObjId) (x : Row) → rows ≡ now →
    AreTallied rows tallies lists count → IsUpToDate (row_at now id) → x ≡ slice_index_or rows id.0 x → x.owner ≡ None →
    AreTallied (slice_set rows id.0 (in_stage Finished x)) tallies lists (count - 1)
root_ended_in rows now tallies lists count id x same all ready read o =
    subst (λ (w : Row). AreTallied (slice_set rows id.0 (in_stage Finished w)) tallies lists (count - 1)) (sym row.is)
    (subst (λ (l : List Row). AreTallied (slice_set l id.0 r) tallies lists (count - 1)) (sym same)
    (ended_parts now tallies tallies lists count id now_all row.there row.stage refl (λ k. (now_all.each k).living ∙ sym (living k)) (λ k. refl)))
  where
    row : EndingRow now count id x
    row = ending_row rows now tallies lists count id x same all ready read

    now_all : AreTallied now tallies lists count
    now_all = subst (λ (l : List Row). AreTallied l tallies lists count) same all

    r : Row
    r = in_stage Finished (row_at now id)

    unowned : (row_at now id).owner ≡ None
    unowned = sym (ap (λ (w : Row). w.owner) row.is) ∙ o

    living : (k : ObjId) → living_children (slice_set now id.0 r) k ≡ living_children now k
    living k = where_alike lives now id r row.there (λ j. counts_unowned lives j r unowned ∙ sym (counts_unowned lives j (row_at now id) unowned)) k

-- what is no owner is none
pub unowned : (o : Option ObjId) → ((owner : ObjId) → o ≡ Some owner → ⊥) → o ≡ None
unowned None h = refl
unowned (Some owner) h = absurd (h owner refl)
