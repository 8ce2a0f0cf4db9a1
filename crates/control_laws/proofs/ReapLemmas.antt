-- Which of the closed sockets live, for which of them a command waits, and how many may still be closed.
use Rattle.std.specs.Prelude.{◌≡◌, ◌<◌, ◌+◌, ◌&&◌, ◌++◌, ◌∷◌, [], ℕ, zero, suc, Bool, true, false, cond, not, List, Option, Some, None, All, count_by, filter, find, length, map, slice_index_or, sum_by, take, refl}
use Rattle.std.specs.List.{list_any}
use Rattle.std.proofs.Common.{arith, sym, ap, ◌∙◌, subst}
use Rattle.std.proofs.lemmas.List.{ext_get_or, get_or-map, length-map}
use Rattle.std.proofs.lemmas.List.Elements.{All-head, All-tail}
use Rattle.std.proofs.lemmas.List.Sums.{sum-map, sum_by-set, sum_by_push}
use Rattle.zq_base.specs.declared.ids.ObjId.{ObjId}
use Rattle.zq_base.specs.declared.kind.Kind.{Kind}
use Rattle.zq_base.specs.declared.options.Options.{Options}
use Rattle.spec_control.specs.declared.letter.Letter.{Letter}
use Rattle.spec_control.specs.declared.object.ObjKind.{ObjKind}
use Rattle.spec_control.specs.declared.stage.Use.{Use}
use Rattle.spec_control.specs.declared.stage.Use.TheVariants.{Used}
use Rattle.spec_control.specs.declared.entry.Did.{Did}
use Rattle.spec_control.specs.Stage.{has_ended, is_unused, is_used}
use Rattle.spec_control.specs.Row.{Row, AsksOver, is_socket, link_after, nobody}
use Rattle.spec_control.specs.Rows.{obj, with_object}
use Rattle.spec_control.specs.Control.{Control, next_object}
use Rattle.spec_control.specs.After.{after, socket_row}
use Rattle.spec_control.specs.ControlRun.{Fits}
use Rattle.spec_control.specs.OwnAsks.{is_none}
use Rattle.spec_control.specs.Moments.{first_waiting}
use Rattle.control_laws.proofs.ListLemmas.{never}
use Rattle.control_laws.specs.Kept.{Kept}
use Rattle.control_laws.specs.OwnMoves.{own_moves}
use Rattle.control_laws.proofs.BetweenLemmas.{asks_over}
use Rattle.control_laws.specs.Closed.{is_unclosed, lives, unclosed, waits}
use Rattle.control_laws.proofs.HeldClosedLemmas.{event_ended, event_unused}
use Rattle.control_laws.proofs.HeldRowLemmas.{event_count, event_keeps, makes_object}

none_some : {X : Type 0} {x : X} → None ≡ Some x → ⊥
none_some e = Prim.grind arith

-- ---- lists
module _ {X : Type 0} (p q : X → Bool) (within : (x : X) → p x ≡ true → q x ≡ true) where
  fails : (x : X) → q x ≡ false → p x ≡ false
  fails x out = by (p x) refl
    where
      by : (b : Bool) → p x ≡ b → b ≡ false
      by true e = absurd (never (sym out ∙ within x e))
      by false e = refl

  -- a look for what passes a second test too finds the same among those that pass it
  pub find_within : (xs : List X) → find p (filter q xs) ≡ find p xs
  find_within [] = refl
  find_within (x ∷ xs) = by (q x) refl (find_within xs)
    where
      by : (b : Bool) → q x ≡ b → find p (filter q xs) ≡ find p xs → find p (cond b (x ∷ filter q xs) (filter q xs)) ≡ cond (p x) (Some x) (find p xs)
      by true e rest = ap (λ (r : Option X). cond (p x) (Some x) r) rest
      by false e rest = rest ∙ sym (ap (λ (b : Bool). cond b (Some x) (find p xs)) (fails x e))

module _ {X : Type 0} (p : X → Bool) where
  pub find_at : (xs : List X) (k : ℕ) (d : X) → k < length xs → find p (take k xs) ≡ None → p (slice_index_or xs k d) ≡ true → find p xs ≡ Some (slice_index_or xs k d)
  find_at [] k d within none is = absurd (omega (arith, within))
  find_at (x ∷ xs) zero d within none is = ap (λ (b : Bool). cond b (Some x) (find p xs)) is
  find_at (x ∷ xs) (suc k) d within none is = by (p x) none (λ n. find_at xs k d (omega (arith, within)) n is)
    where
      by : (b : Bool) → cond b (Some x) (find p (take k xs)) ≡ None → (find p (take k xs) ≡ None → find p xs ≡ Some (slice_index_or xs k d)) → cond b (Some x) (find p xs) ≡ Some (slice_index_or xs k d)
      by true n rest = absurd (none_some (sym n))
      by false n rest = rest n

  pub find_past : (xs : List X) (k : ℕ) (d : X) → k < length xs → find p (take k xs) ≡ None → p (slice_index_or xs k d) ≡ false → find p (take (k + 1) xs) ≡ None
  find_past [] k d within none is = absurd (omega (arith, within))
  find_past (x ∷ xs) zero d within none is = ap (λ (b : Bool). cond b (Some x) None) is
  find_past (x ∷ xs) (suc k) d within none is =
      let on : suc k + 1 ≡ suc (k + 1) = omega arith in
      ap (λ (n : ℕ). find p (take n (x ∷ xs))) on ∙ by (p x) none (λ n. find_past xs k d (omega (arith, within)) n is)
    where
      by : (b : Bool) → cond b (Some x) (find p (take k xs)) ≡ None → (find p (take k xs) ≡ None → find p (take (k + 1) xs) ≡ None) → cond b (Some x) (find p (take (k + 1) xs)) ≡ None
      by true n rest = absurd (none_some (sym n))
      by false n rest = rest n

  pub none_found : (xs : List X) → find p xs ≡ None → All (λ x. p x ≡ false) xs
  none_found [] none k d within = absurd (omega (arith, within))
  none_found (x ∷ xs) none zero d within = by (p x) refl none
    where
      by : (b : Bool) → p x ≡ b → cond b (Some x) (find p xs) ≡ None → b ≡ false
      by true e n = absurd (none_some (sym n))
      by false e n = refl
  none_found (x ∷ xs) none (suc k) d within = none_found xs (by (p x) none) k d (omega (arith, within))
    where
      by : (b : Bool) → cond b (Some x) (find p xs) ≡ None → find p xs ≡ None
      by true n = absurd (none_some (sym n))
      by false n = n

  -- what is found stands somewhere
  pub found_stands : (xs : List X) (x : X) → find p xs ≡ Some x → (p x ≡ true) × ((P : X → Type 0) → All P xs → P x)
  found_stands [] x e = absurd (none_some e)
  found_stands (y ∷ ys) x e = by (p y) refl e (found_stands ys x)
    where
      some_is : Some y ≡ Some x → y ≡ x
      some_is f = Prim.grind arith

      by : (b : Bool) → p y ≡ b → cond b (Some y) (find p ys) ≡ Some x → (find p ys ≡ Some x → (p x ≡ true) × ((P : X → Type 0) → All P ys → P x)) → (p x ≡ true) × ((P : X → Type 0) → All P (y ∷ ys) → P x)
      by true is f rest = (subst (λ (z : X). p z ≡ true) (some_is f) is, λ P all. subst P (some_is f) (All-head P y ys all))
      by false is f rest = ((rest f).0, λ P all. (rest f).1 P (All-tail P y ys all))

-- ---- the first of the reaper's mailboxes
module _ {X Y : Type 0} (g : X → Y) (u : X → Bool) (w : Y → Bool) where
  -- what is made of what was found
  abbrev pub found : Option X → Option Y
  found None = None
  found (Some x) = Some (g x)

  first_of : (xs : List X) → find w (map g (filter u xs)) ≡ found (find (λ x. u x && w (g x)) xs)
  first_of [] = refl
  first_of (x ∷ xs) = by (u x) (first_of xs)
    where
      take_it : (b : Bool) → find w (map g (filter u xs)) ≡ found (find (λ x. u x && w (g x)) xs) → cond b (Some (g x)) (find w (map g (filter u xs))) ≡ found (cond b (Some x) (find (λ x. u x && w (g x)) xs))
      take_it true rest = refl
      take_it false rest = rest

      by : (b : Bool) → find w (map g (filter u xs)) ≡ found (find (λ x. u x && w (g x)) xs) → find w (map g (cond b (x ∷ filter u xs) (filter u xs))) ≡ found (cond (b && w (g x)) (Some x) (find (λ x. u x && w (g x)) xs))
      by true rest = take_it (w (g x)) rest
      by false rest = rest

module _ (c : Control) where
  some_first : (b : Bool) → is_none (c.boxes 0) ≡ b → b ≡ false → first_waiting c ≡ Some 0
  some_first b is out = ap (λ (x : Bool). cond (not x) (Some 0) (find (λ slot. not (is_none (c.boxes slot))) (map (λ o. (obj c.rows o.0).slot) (filter (λ o. is_used (obj c.rows o.0).request) c.closed)))) (is ∙ out)

  -- a command waits in the root's mailbox
  pub root_waits : (letter : Letter) (behind : List Letter) → c.boxes 0 ≡ letter ∷ behind → first_waiting c ≡ Some 0
  root_waits letter behind is = some_first false (ap (λ (ls : List Letter). is_none ls) is) refl

  -- none does, and the first of the closed sockets for which one does is this
  rest_is : c.boxes 0 ≡ [] → first_waiting c ≡ found (λ o. (obj c.rows o.0).slot) (λ o. is_used (obj c.rows o.0).request) (λ slot. not (is_none (c.boxes slot))) (find (waits c) c.closed)
  rest_is none =
      ap (λ (ls : List Letter). cond (not (is_none ls)) (Some 0) (find (λ slot. not (is_none (c.boxes slot))) (map (λ o. (obj c.rows o.0).slot) (filter (λ o. is_used (obj c.rows o.0).request) c.closed)))) none
      ∙ first_of (λ o. (obj c.rows o.0).slot) (λ o. is_used (obj c.rows o.0).request) (λ slot. not (is_none (c.boxes slot))) c.closed

  pub socket_waits : (o : ObjId) → c.boxes 0 ≡ [] → find (waits c) c.closed ≡ Some o → first_waiting c ≡ Some (obj c.rows o.0).slot
  socket_waits o none is =
      rest_is none ∙ ap (λ (x : Option ObjId). found (λ o. (obj c.rows o.0).slot) (λ o. is_used (obj c.rows o.0).request) (λ slot. not (is_none (c.boxes slot))) x) is

  -- nothing waits for those that the reaper took over
  pub all_empty : find (waits c) c.closed ≡ None → All (λ o. (obj c.rows o.0).request ≡ Used → c.boxes (obj c.rows o.0).slot ≡ []) c.closed
  all_empty none k d within = λ used.
      empty _ (out (is_none (c.boxes (obj c.rows (slice_index_or c.closed k d).0).slot))
      (sym (ap (λ (u : Use). is_used u && not (is_none (c.boxes (obj c.rows (slice_index_or c.closed k d).0).slot))) used) ∙ none_found (waits c) c.closed none k d within))
    where
      out : (b : Bool) → not b ≡ false → b ≡ true
      out true e = refl
      out false e = absurd (never (sym e))

      empty : (ls : List Letter) → is_none ls ≡ true → ls ≡ []
      empty [] e = refl
      empty (l ∷ ls) e = absurd (never e)

-- ---- who lives
module _ (c d : Control) (on : (o : ObjId) → o.0 < next_object c → lives d o ≡ true → lives c o ≡ true) where
  twice : (xs : List ObjId) → All (λ o. o.0 < next_object c) xs → filter (lives d) (filter (lives c) xs) ≡ filter (lives d) xs
  twice [] there = refl
  twice (x ∷ xs) there = by (lives c x) refl (twice xs (All-tail (λ (o : ObjId). o.0 < next_object c) x xs there))
    where
      dead : lives c x ≡ false → (b : Bool) → lives d x ≡ b → b ≡ false
      dead out true e = absurd (never (sym out ∙ on x (All-head (λ (o : ObjId). o.0 < next_object c) x xs there) e))
      dead out false e = refl

      by : (b : Bool) → lives c x ≡ b → filter (lives d) (filter (lives c) xs) ≡ filter (lives d) xs → filter (lives d) (cond b (x ∷ filter (lives c) xs) (filter (lives c) xs)) ≡ cond (lives d x) (x ∷ filter (lives d) xs) (filter (lives d) xs)
      by true e rest = ap (λ (ys : List ObjId). cond (lives d x) (x ∷ ys) ys) rest
      by false e rest = rest ∙ sym (ap (λ (b : Bool). cond b (x ∷ filter (lives d) xs) (filter (lives d) xs)) (dead e (lives d x) refl))

  -- two lists that have the same living sockets have them still
  pub lives_on : (xs ys : List ObjId) → All (λ o. o.0 < next_object c) xs → All (λ o. o.0 < next_object c) ys → filter (lives c) xs ≡ filter (lives c) ys → filter (lives d) xs ≡ filter (lives d) ys
  lives_on xs ys one other same = sym (twice xs one) ∙ ap (filter (lives d)) same ∙ twice ys other

-- ---- behind an event
module _ {N S : Type 0} (c : Control) (did : Did N S) (kept : Kept c) (fits : Fits c did) where
  pub event_lives : (o : ObjId) → o.0 < next_object c → lives (after did c) o ≡ true → lives c o ≡ true
  event_lives o there is = by (has_ended (obj c.rows o.0).stage) refl
    where
      by : (b : Bool) → has_ended (obj c.rows o.0).stage ≡ b → not b ≡ true
      by true e = absurd (never (ap not (sym (event_ended c did kept fits o.0 there e)) ∙ is))
      by false e = refl

  pub event_unclosed : list_any makes_object (own_moves c did) ≡ false → ((i : ℕ) → list_any (asks_over i) (own_moves c did) ≡ false) → unclosed (after did c) ≡ unclosed c
  event_unclosed none free =
      let count = event_count c did kept fits none in
      let now = (after did c).rows.objects in
      let was = c.rows.objects in
      sym (sum-map weight now)
      ∙ ap (λ (ns : List ℕ). sum_by (λ n. n) ns) (ext_get_or 0 (map weight now) (map weight was) (lengths count) (λ i within. each i within count))
      ∙ sum-map weight was
    where
      weight : Row → ℕ
      weight o = cond (is_unclosed o) 1 0

      lengths : next_object (after did c) ≡ next_object c → length (map weight (after did c).rows.objects) ≡ length (map weight c.rows.objects)
      lengths count = length-map (after did c).rows.objects weight ∙ count ∙ sym (length-map c.rows.objects weight)

      each : (i : ℕ) → i < length (map weight (after did c).rows.objects) → next_object (after did c) ≡ next_object c → slice_index_or (map weight (after did c).rows.objects) i 0 ≡ slice_index_or (map weight c.rows.objects) i 0
      each i within count =
          let many : length (map weight (after did c).rows.objects) ≡ next_object (after did c) = length-map (after did c).rows.objects weight in
          let there : i < next_object c = omega (arith, many, count, within) in
          get_or-map weight (after did c).rows.objects i nobody 0 (omega (arith, many, within))
          ∙ ap (λ (k : ObjKind). cond (is_socket k && is_unused (obj (after did c).rows i).request) 1 0) (event_keeps c did kept fits i there).kind
          ∙ ap (λ (b : Bool). cond (is_socket (obj c.rows i).kind && b) 1 0) (event_unused c did kept fits i there (free i))
          ∙ sym (get_or-map weight c.rows.objects i nobody 0 there)

-- a socket that is closed is one fewer
pub closed_one : (c d : Control) (i : ℕ) → d.rows ≡ with_object i (link_after AsksOver (obj c.rows i)) c.rows → i < next_object c → is_unclosed (obj c.rows i) ≡ true → unclosed d + 1 ≡ unclosed c
closed_one c d i rows there is =
    let now = ap (λ r. count_by is_unclosed r.objects) rows in
    let sums = sum_by-set (λ (o : Row). cond (is_unclosed o) 1 0) c.rows.objects i (link_after AsksOver (obj c.rows i)) nobody there in
    let one = ap {B = ℕ} (λ (b : Bool). cond b 1 0) is in
    let none = ap {B = ℕ} (λ (b : Bool). cond b 1 0) (no_and (is_socket (obj c.rows i).kind)) in
    omega (arith, now, sums, one, none)
  where
    no_and : (b : Bool) → (b && false) ≡ false
    no_and true = refl
    no_and false = refl

-- and one that is open is counted
pub some_unclosed : (c : Control) (i : ℕ) → i < next_object c → is_unclosed (obj c.rows i) ≡ true → 0 < unclosed c
some_unclosed c i there is =
    let sums = sum_by-set (λ (o : Row). cond (is_unclosed o) 1 0) c.rows.objects i (link_after AsksOver (obj c.rows i)) nobody there in
    let one = ap {B = ℕ} (λ (b : Bool). cond b 1 0) is in
    let none = ap {B = ℕ} (λ (b : Bool). cond b 1 0) (no_and (is_socket (obj c.rows i).kind)) in
    omega (arith, sums, one, none)
  where
    no_and : (b : Bool) → (b && false) ≡ false
    no_and true = refl
    no_and false = refl

-- one that is made is one more
pub made_one : (c d : Control) (kind : Kind) (options : Options) → d.rows.objects ≡ c.rows.objects ++ socket_row kind options c ∷ [] → unclosed d ≡ unclosed c + 1
made_one c d kind options rows = ap (count_by is_unclosed) rows ∙ sum_by_push (λ (o : Row). cond (is_unclosed o) 1 0) c.rows.objects (socket_row kind options c)
