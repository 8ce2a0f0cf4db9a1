-- That an object may end by the tree where it may end by the control state.
use Rattle.std.specs.Prelude.{◌≡◌, ◌≢◌, ◌<◌, ◌+◌, ◌⊎◌, ◌++◌, ◌==◌, ◌&&◌, ℕ, suc, Bool, true, false, not, cond, if◌then◌else◌, List, [], ◌∷◌, Option, Some, None, length, sum_by, slice_get, slice_index_or, slice_set, refl}
use Rattle.std.proofs.Common.{arith, sym, ap, ◌∙◌, subst, inl, inr}
use Rattle.std.proofs.lemmas.Bool.{false≢true, cases_Bool, cases_eq, ne_eqb, eq-eqb, eqb-true, and_parts, and_from}
use Rattle.std.proofs.lemmas.List.Sums.{sum_by-cons}
use Rattle.zq_base.specs.declared.ids.ObjId.{ObjId}
use Rattle.spec_control.specs.declared.object.ObjState.TheVariants.{Live, Asked, Ended}
use Rattle.spec_control.specs.declared.stage.Stage.{Stage}
use Rattle.spec_control.specs.declared.stage.Stage.TheVariants.{Alive, Told, Ending, Finished, Cleared}
use Rattle.spec_control.specs.Stage.{has_ended, is_ending}
use Rattle.spec_control.specs.Row.{Row, nobody, is_socket}
use Rattle.spec_control.specs.Rows.{obj, with_object, is_owner, of_child, own_waits, ack_at, ack_waits, lives_noted, behind, owed, living, may_end}
use Rattle.spec_control.specs.Control.{Control, with_value, id as control_id, finish, tell_owner, try_end}
use Rattle.spec_control.specs.Reply.{root_state, live_count, state_of as state_by_control, living_sockets}
use Rattle.own_tree.specs.declared.row.Row.{Row as TreeRow}
use Rattle.own_tree.specs.declared.ending.Ending.{Ending as Answer}
use Rattle.own_tree.specs.declared.ending.Ending.TheVariants.{Ended as DidEnd, Owes, Behind, NotAsked}
use Rattle.own_tree.specs.Rows.{no_row, row_at, state_of, is_owner as is_owner_of, lives_in, awaited_in, live_objects, unnoted_children, awaited_children, noted_living, AddsUp, IsRight, living_children}
use Rattle.ctl_state.specs.declared.detail.Detail.{Detail}
use Rattle.ctl_state.specs.declared.state.State.{State}
use Rattle.ctl_state.specs.Boxes.{mail_at}
use Rattle.ctl_state.specs.Lists.{owner_number}
use Rattle.ctl_state.specs.Objects.{ObjectRows, Becomes, AreObjects, Counts, tree_row, detail_at, row_of, kept_row, RootOwnsSockets}
use Rattle.ctl_state.specs.Stands.{Stands, HasRoomForAck}
use Rattle.ctl_state.proofs.ObjectLemmas.{past, becomes_stand}
use Rattle.std.proofs.lemmas.List.{length-set}

-- a sum over the control state's rows, by the tree's
sums_at : (f : Row → ℕ) (g : TreeRow → ℕ) (xs : List Row) (ts : List TreeRow) → length xs ≡ length ts →
    ((i : ℕ) → f (slice_index_or xs i nobody) ≡ g (slice_index_or ts i no_row)) → sum_by f xs ≡ sum_by g ts
sums_at f g [] [] n h = refl
sums_at f g [] (t ∷ ts) n h = absurd (none n)
  where
    none : 0 ≡ suc (length ts) → ⊥
    none e = omega (arith, e)
sums_at f g (x ∷ xs) [] n h = absurd (none n)
  where
    none : suc (length xs) ≡ 0 → ⊥
    none e = omega (arith, e)
sums_at f g (x ∷ xs) (t ∷ ts) n h =
    let there = sums_at f g xs ts (omega (arith, n)) (λ i. h (suc i)) in
    sum_by-cons f x xs ∙ ap (λ (n : ℕ). n + sum_by f xs) (h 0) ∙ ap (λ (n : ℕ). g t + n) there ∙ sym (sum_by-cons g t ts)

sums : (f : Row → ℕ) (g : TreeRow → ℕ) → ((t : TreeRow) (d : Detail) → f (row_of t d) ≡ g t) → (xs : List Row) (ts : List TreeRow) (ds : ℕ → Detail) →
    length xs ≡ length ts → ((i : ℕ) → slice_index_or xs i nobody ≡ row_of (slice_index_or ts i no_row) (ds i)) → sum_by f xs ≡ sum_by g ts
sums f g same xs ts ds n h = sums_at f g xs ts n (λ i. ap f (h i) ∙ same (slice_index_or ts i no_row) (ds i))

both_own : (b n : Bool) → ◌≡◌ {A = ℕ} (cond b (cond n 0 1) 0) (cond (b && not n) 1 0)
both_own true true = refl
both_own true false = refl
both_own false true = refl
both_own false false = refl

both_ack : (b : Bool) (s : Stage) → ◌≡◌ {A = ℕ} (cond b (ack_at s) 0) (cond (b && awaited_in s) 1 0)
both_ack true Alive = refl
both_ack true Told = refl
both_ack true Ending = refl
both_ack true Finished = refl
both_ack true Cleared = refl
both_ack false Alive = refl
both_ack false Told = refl
both_ack false Ending = refl
both_ack false Finished = refl
both_ack false Cleared = refl

both_live : (b n : Bool) (s : Stage) → ◌≡◌ {A = ℕ} (cond b (cond n (cond (has_ended s) 0 1) 0) 0) (cond (b && (lives_in s && n)) 1 0)
both_live true true Alive = refl
both_live true true Told = refl
both_live true true Ending = refl
both_live true true Finished = refl
both_live true true Cleared = refl
both_live true false Alive = refl
both_live true false Told = refl
both_live true false Ending = refl
both_live true false Finished = refl
both_live true false Cleared = refl
both_live false true s = refl
both_live false false s = refl

pub same_owner : (i : ℕ) (o : Option ObjId) → is_owner i (owner_number o) ≡ is_owner_of (record { 0 = i }) o
same_owner i None = refl
same_owner i (Some owner) = refl

module _ {L : Type 0} (s : State L) (c : Control) (h : Stands s c) (id : ObjId) (adds : AddsUp s.objects.tree id) where
  sum_of : (f : Row → ℕ) (g : TreeRow → ℕ) → ((t : TreeRow) (d : Detail) → f (row_of t d) ≡ g t) → sum_by f c.rows.objects ≡ sum_by g s.objects.tree
  sum_of f g same = sums f g same c.rows.objects s.objects.tree (detail_at s.objects) h.objects.many h.objects.each

  own_sum : sum_by (of_child own_waits id.0) c.rows.objects ≡ unnoted_children s.objects.tree id
  own_sum = sum_of (of_child own_waits id.0) (λ t. cond (is_owner_of id t.owner && not t.noted) 1 0)
      (λ t d. ap {B = ℕ} (λ (b : Bool). cond b (cond t.noted 0 1) 0) (same_owner id.0 t.owner) ∙ both_own (is_owner_of id t.owner) t.noted)

  ack_sum : sum_by (of_child ack_waits id.0) c.rows.objects ≡ awaited_children s.objects.tree id
  ack_sum = sum_of (of_child ack_waits id.0) (λ t. cond (is_owner_of id t.owner && awaited_in t.stage) 1 0)
      (λ t d. ap {B = ℕ} (λ (b : Bool). cond b (ack_at t.stage) 0) (same_owner id.0 t.owner) ∙ both_ack (is_owner_of id t.owner) t.stage)

  live_sum : living c.rows id.0 ≡ noted_living s.objects.tree id
  live_sum = sum_of (of_child lives_noted id.0) (λ t. cond (is_owner_of id t.owner && (lives_in t.stage && t.noted)) 1 0)
      (λ t d. ap {B = ℕ} (λ (b : Bool). cond b (cond t.noted (cond (has_ended t.stage) 0 1) 0) 0) (same_owner id.0 t.owner) ∙ both_live (is_owner_of id t.owner) t.noted t.stage)

  stage_is : (obj c.rows id.0).stage ≡ (row_at s.objects.tree id).stage
  stage_is = ap (λ (r : Row). r.stage) (h.objects.each id.0)

  -- what is behind and owed, by the tree's counts
  behind_is : (row_at s.objects.tree id).sent ≡ (row_at s.objects.tree id).processed + behind c.rows id.0
  behind_is =
      let sent = adds.sent in
      let plug = ap {B = ℕ} (λ (r : Row). cond r.plugged 0 1) (h.objects.each id.0) in
      let binds = ap (λ (n : Counts). n.binds) (h.counted id.0) in
      let own = own_sum in
      omega (arith, sent, plug, binds, own)

  owed_is : (row_at s.objects.tree id).owed ≡ owed c.rows id.0
  owed_is =
      let was = adds.owed in
      let ends = ap (λ (n : Counts). n.ends) (h.counted id.0) in
      let acks = ack_sum in
      omega (arith, was, ends, acks)

  ending_stage : (t : Stage) → state_of t ≡ Asked → is_ending t ≡ true
  ending_stage Alive e = absurd (other e)
    where
      other : Live ≡ Asked → ⊥
      other k = Prim.grind arith
  ending_stage Told e = absurd (other e)
    where
      other : Live ≡ Asked → ⊥
      other k = Prim.grind arith
  ending_stage Ending e = refl
  ending_stage Finished e = absurd (other e)
    where
      other : Ended ≡ Asked → ⊥
      other k = Prim.grind arith
  ending_stage Cleared e = absurd (other e)
    where
      other : Ended ≡ Asked → ⊥
      other k = Prim.grind arith

  asked_stage : (t : Stage) → is_ending t ≡ true → state_of t ≡ Asked
  asked_stage Alive e = absurd (false≢true e)
  asked_stage Told e = absurd (false≢true e)
  asked_stage Ending e = refl
  asked_stage Finished e = absurd (false≢true e)
  asked_stage Cleared e = absurd (false≢true e)

  -- what is owing is nothing where nothing is owed and no noted child lives
  owing_parts : (o n : ℕ) → (if o == 0 then n else o) ≡ 0 → (o ≡ 0) × (n ≡ 0)
  owing_parts o n e =
      elim (cases_eq o 0) [
        | inl z ↦ (z, sym (ap (λ (b : Bool). if b then n else o) (eq-eqb o 0 z)) ∙ e)
        | inr nz ↦ absurd (nz (sym (ap (λ (b : Bool). if b then n else o) (ne_eqb o 0 nz)) ∙ e))
      ]

  owing_none : (o n : ℕ) → o ≡ 0 → n ≡ 0 → (if o == 0 then n else o) ≡ 0
  owing_none o n e k = ap (λ (b : Bool). if b then n else o) (eq-eqb o 0 e) ∙ k

  pub may_end_where : IsRight s.objects.tree id DidEnd → may_end c.rows id.0 ≡ true
  may_end_where right =
      let parts = owing_parts (row_at s.objects.tree id).owed (noted_living s.objects.tree id) right.1 in
      let level = right.0.level in
      let was = behind_is in
      let no_behind : behind c.rows id.0 ≡ 0 = omega (arith, level, was) in
      and_from _ _ (ap is_ending stage_is ∙ ending_stage (row_at s.objects.tree id).stage right.0.asked)
      (and_from _ _ (eq-eqb (behind c.rows id.0) 0 no_behind)
      (and_from _ _ (eq-eqb (owed c.rows id.0) 0 (sym owed_is ∙ parts.0)) (eq-eqb (living c.rows id.0) 0 (live_sum ∙ parts.1))))

  pub right_where : may_end c.rows id.0 ≡ true → IsRight s.objects.tree id DidEnd
  right_where may =
      let asked = and_parts _ _ may in
      let level = and_parts _ _ asked.1 in
      let rest = and_parts _ _ level.1 in
      let no_behind = eqb-true (behind c.rows id.0) 0 level.0 in
      let was = behind_is in (
        record { asked = asked_stage (row_at s.objects.tree id).stage (sym (ap is_ending stage_is) ∙ asked.0); level = omega (arith, no_behind, was) },
        owing_none (row_at s.objects.tree id).owed (noted_living s.objects.tree id) (owed_is ∙ eqb-true (owed c.rows id.0) 0 rest.0) (sym live_sum ∙ eqb-true (living c.rows id.0) 0 rest.1),
      )

  pub may_not_end : (IsRight s.objects.tree id DidEnd → ⊥) → may_end c.rows id.0 ≡ false
  may_not_end never =
      elim (cases_Bool (may_end c.rows id.0)) [
        | inl may ↦ absurd (never (right_where may))
        | inr none ↦ none
      ]

-- an answer that is right where the object does not end
pub not_ended : (rows : List TreeRow) (id : ObjId) (answer : Answer) → IsRight rows id answer → answer ≢ DidEnd → IsRight rows id DidEnd → ⊥
not_ended rows id NotAsked right never ends = absurd (other (sym right ∙ ends.0.asked))
  where
    other : Live ≡ Asked → ⊥
    other k = Prim.grind arith
not_ended rows id (Behind sent processed) right never ends = absurd (right.1 (right.2 ∙ ends.0.level ∙ sym right.3))
not_ended rows id (Owes n) right never ends = absurd (none (right.1 ∙ ends.1) right.2)
  where
    none : n ≡ 0 → 0 < n → ⊥
    none e k = omega (arith, e, k)
not_ended rows id DidEnd right never ends = absurd (never refl)

-- the answer of a call on the tree, of the objects
pub right_ended : (inside old : ObjectRows) (id : ObjId) (answer : Answer) → inside ≡ old → IsRight inside.tree id answer → answer ≡ DidEnd → IsRight old.tree id DidEnd
right_ended inside old id answer same right is = subst (λ (o : ObjectRows). IsRight o.tree id DidEnd) same (subst (λ (a : Answer). IsRight inside.tree id a) is right)

pub right_not_ended : (inside old : ObjectRows) (id : ObjId) (answer : Answer) → inside ≡ old → IsRight inside.tree id answer → answer ≢ DidEnd → IsRight old.tree id DidEnd → ⊥
right_not_ended inside old id answer same right never ends =
    not_ended inside.tree id answer right never (subst (λ (o : ObjectRows). IsRight o.tree id DidEnd) (sym same) ends)

pub no_owner : (inside old : ObjectRows) (r : Option TreeRow) (i : ℕ) → inside ≡ old → r ≡ slice_get inside.tree i → r ≡ None → None ≡ (tree_row old i).owner
no_owner inside old r i same is none =
    ap (λ (t : TreeRow). t.owner) (sym (past inside.tree i (sym is ∙ none))) ∙ ap (λ (o : ObjectRows). (tree_row o i).owner) same

-- the control state in which an object has ended and told nobody
abbrev pub ended_now : ℕ → Control → Control
ended_now i c = record c {
  rows = with_object i (record (obj c.rows i) { stage = Finished }) c.rows;
  ended = c.ended ++ control_id i ∷ [];
  output_left = with_value i false c.output_left;
}

module _ {L : Type 0} where
  -- what an object has left to write is not kept
  tried : (s : State L) (c : Control) (i : ℕ) (left : Bool) → Stands s c → Stands s (record c { output_left = with_value i left c.output_left })
  tried s c i left h = record {
    objects = h.objects;
    pairs = h.pairs;
    counted = h.counted;
    sent = h.sent;
    lists = h.lists;
    boxes = h.boxes;
    slots = h.slots;
    workers = h.workers;
    names = h.names;
  }

  -- with output left nothing ends
  pub left_stands : (s : State L) (c : Control) (i : ℕ) (left : Bool) → left ≡ true → Stands s c → Stands s (try_end i left c)
  left_stands s c i true e h = at (may_end c.rows i)
    where
      now : Control
      now = record c { output_left = with_value i true c.output_left }

      at : (b : Bool) → Stands s (if b then now else now)
      at true = tried s c i true h
      at false = tried s c i true h
  left_stands s c i false e h = absurd (false≢true e)

  -- what something keeps stays
  pub kept_stands : (s : State L) (c : Control) (id : ObjId) (left : Bool) → AddsUp s.objects.tree id → (IsRight s.objects.tree id DidEnd → ⊥) → Stands s c → Stands s (try_end id.0 left c)
  kept_stands s c id left adds never h =
      elim (cases_Bool (may_end c.rows id.0)) [
        | inl may ↦ absurd (never (right_where s c h id adds may))
        | inr not_yet ↦ subst (λ (b : Bool). Stands s (if b then (if left then now else finish id.0 now) else now)) (sym not_yet) (tried s c id.0 left h)
      ]
    where
      now : Control
      now = record c { output_left = with_value id.0 left c.output_left }

  -- the same, kept elsewhere
  pub same_stands : (old new : State L) → new.objects ≡ old.objects → new.pairs ≡ old.pairs → new.boxes ≡ old.boxes → new.book ≡ old.book → new.workers ≡ old.workers → (c : Control) → Stands old c → Stands new c
  same_stands old new objects pairs boxes book workers c h = record {
    objects = rw objects h.objects;
    pairs = rw pairs h.pairs;
    counted = λ i. rw objects (h.counted i);
    sent = λ i. rw objects (h.sent i);
    lists = rw objects h.lists;
    boxes = rw boxes h.boxes;
    slots = rw boxes h.slots;
    workers = workers ∙ h.workers;
    names = rw book h.names;
  }

  pub ends_stands : (old mid : State L) (i : ℕ) → Becomes i (record (kept_row old.objects i) { stage = Finished }) old.objects mid.objects →
      mid.pairs ≡ old.pairs → mid.boxes ≡ old.boxes → mid.book ≡ old.book → mid.workers ≡ old.workers → (c : Control) → Stands old c → Stands mid (ended_now i c)
  ends_stands old mid i b pairs boxes book workers c h = record {
    objects = subst (λ (r : Row). AreObjects mid.objects (slice_set c.rows.objects i (record r { stage = Finished }))) (sym (h.objects.each i))
        (becomes_stand i (record (kept_row old.objects i) { stage = Finished }) old.objects mid.objects c.rows.objects b h.objects);
    pairs = rw pairs h.pairs;
    counted = λ j. b.counts j ∙ h.counted j;
    sent = λ j. let was = h.sent j in let same = b.sent j in let many = length-set c.rows.objects i (record (obj c.rows i) { stage = Finished }) in omega (arith, was, same, many);
    lists = rw b.lists h.lists;
    boxes = rw boxes h.boxes;
    slots = rw boxes h.slots;
    workers = workers ∙ h.workers;
    names = rw book h.names;
  }

  -- the object ends
  pub ended_stands : (old new : State L) (c : Control) (id : ObjId) (left : Bool) → left ≡ false → AddsUp old.objects.tree id → IsRight old.objects.tree id DidEnd → Stands old c →
      Stands new (tell_owner (obj c.rows id.0).owner id.0 (ended_now id.0 c)) → Stands new (try_end id.0 left c)
  ended_stands old new c id true e adds right h told = absurd (false≢true (sym e))
  ended_stands old new c id false e adds right h told =
      subst (λ (b : Bool). Stands new (if b then finish id.0 now else now)) (sym (may_end_where old c h id adds right)) told
    where
      now : Control
      now = record c { output_left = with_value id.0 false c.output_left }

  -- the room for the acknowledgement is there still
  pub ack_room : (old mid : State L) (i : ℕ) → Becomes i (record (kept_row old.objects i) { stage = Finished }) old.objects mid.objects → mid.boxes ≡ old.boxes →
      HasRoomForAck old i → HasRoomForAck mid i
  ack_room old mid i b boxes room owner is =
      rw boxes (subst (λ (k : ℕ). 0 < (mail_at old.boxes k).spare) (sym (slot (cases_eq owner i))) (room owner (sym (ap (λ (r : Row). r.owner) b.here) ∙ is)))
    where
      slot : (owner ≡ i) ⊎ (owner ≡ i → ⊥) → (kept_row mid.objects owner).slot ≡ (kept_row old.objects owner).slot
      slot (inl same) = subst (λ (n : ℕ). (kept_row mid.objects n).slot ≡ (kept_row old.objects n).slot) (sym same) (ap (λ (r : Row). r.slot) b.here)
      slot (inr other) = ap (λ (r : Row). r.slot) (b.elsewhere owner other)

-- how many objects have not ended, and how far the root is, by the tree
lives_or_not : (t : Stage) → ◌≡◌ {A = ℕ} (cond (not (has_ended t)) 1 0) (cond (lives_in t) 1 0)
lives_or_not Alive = refl
lives_or_not Told = refl
lives_or_not Ending = refl
lives_or_not Finished = refl
lives_or_not Cleared = refl

pub live_stands : {L : Type 0} (s : State L) (c : Control) → Stands s c → live_objects s.objects.tree ≡ live_count c
live_stands s c h = sym (sums (λ o. cond (not (has_ended o.stage)) 1 0) (λ t. cond (lives_in t.stage) 1 0) (λ t d. lives_or_not t.stage)
    c.rows.objects s.objects.tree (detail_at s.objects) h.objects.many h.objects.each)

same_state : (t : Stage) → state_of t ≡ state_by_control t
same_state Alive = refl
same_state Told = refl
same_state Ending = refl
same_state Finished = refl
same_state Cleared = refl

pub root_stands : {L : Type 0} (s : State L) (c : Control) → Stands s c → state_of (tree_row s.objects 0).stage ≡ root_state c
root_stands s c h = same_state (tree_row s.objects 0).stage ∙ ap (λ (r : Row). state_by_control r.stage) (sym (h.objects.each 0))

pub no_state : (inside old : ObjectRows) (r : Option TreeRow) (i : ℕ) → inside ≡ old → r ≡ slice_get inside.tree i → r ≡ None → Ended ≡ state_of (tree_row old i).stage
no_state inside old r i same is none =
    ap (λ (t : TreeRow). state_of t.stage) (sym (past inside.tree i (sym is ∙ none))) ∙ ap (λ (o : ObjectRows). state_of (tree_row o i).stage) same

-- the sockets that live, by the tree's children of the root
socket_lives : (b : Bool) (t : Stage) → ◌≡◌ {A = ℕ} (cond (b && not (has_ended t)) 1 0) (cond (b && lives_in t) 1 0)
socket_lives false t = refl
socket_lives true Alive = refl
socket_lives true Told = refl
socket_lives true Ending = refl
socket_lives true Finished = refl
socket_lives true Cleared = refl

pub sockets_stand : {L : Type 0} (s : State L) (c : Control) → Stands s c → RootOwnsSockets s.objects → living_children s.objects.tree (record { 0 = 0 }) ≡ living_sockets c
sockets_stand s c h sockets = sym (sums_at (λ o. cond (is_socket o.kind && not (has_ended o.stage)) 1 0)
    (λ t. cond (is_owner_of (record { 0 = 0 }) t.owner && lives_in t.stage) 1 0) c.rows.objects s.objects.tree h.objects.many
    (λ i. ap {B = ℕ} (λ (o : Row). cond (is_socket o.kind && not (has_ended o.stage)) 1 0) (h.objects.each i)
    ∙ ap {B = ℕ} (λ (b : Bool). cond (b && not (has_ended (tree_row s.objects i).stage)) 1 0) (sockets.each i)
    ∙ socket_lives (is_owner_of (record { 0 = 0 }) (tree_row s.objects i).owner) (tree_row s.objects i).stage))
