-- What is noted of closed sockets goes on being so, and tells the first for which a command waits.
use Rattle.std.specs.Prelude.{◌≡◌, ◌<◌, ◌≤◌, ◌⊎◌, ◌+◌, ◌/◌, ◌%◌, ◌==◌, ◌&&◌, ◌++◌, ◌∷◌, [], ℕ, Bool, true, false, not, List, Option, Some, None, ⊤, cond, find, length, take, slice_index_or, slice_set, refl}
use Rattle.std.proofs.Common.{arith, sym, ap, ◌∙◌, subst, inl, inr, zero, suc}
use Rattle.std.proofs.lemmas.Bool.{cases_eq, cases_lt, eq-eqb, ne_eqb}
use Rattle.std.proofs.lemmas.List.{length_push, get_or-set_same, get_or-set_other, get_or_append_left, get_or_past, get_or_push, take_all}
use Rattle.zq_base.specs.declared.ids.ObjId.{ObjId}
use Rattle.spec_control.specs.declared.letter.Letter.{Letter}
use Rattle.spec_control.specs.Rows.{obj}
use Rattle.spec_control.specs.Stage.{is_used}
use Rattle.spec_control.specs.Control.{Control}
use Rattle.spec_control.specs.OwnAsks.{is_none}
use Rattle.std.specs.Int.{bit_at}
use Rattle.ctl_state.specs.Bits.{bit_in, some_bit}
use Rattle.ctl_state.proofs.BitLemmas.{past_words}
use Rattle.ctl_state.proofs.ReadLemmas.{pushed_same}
use Rattle.control_laws.specs.Closed.{waits}
use Rattle.control_laws.proofs.ReapLemmas.{find_at, find_past}
use Rattle.plain_desk.specs.declared.notes.Notes.{Notes}
use Rattle.control_laws.proofs.SoundLemmas.{socket_there}
use Rattle.plain_desk.specs.Lent.{AreSockets, HaveOwnBoxes}
use Rattle.plain_desk.specs.Notes.{object_at, place_of, AreFollowed, AreNoted, KeepsNotes, MayNote, Noted}

some_one : {X : Type 0} (x y : X) → Some x ≡ Some y → x ≡ y
some_one {X = X} x y e = subst (λ (o : Option X). known o) e refl
  where
    known : Option X → Type 0
    known (Some z) = x ≡ z
    known None = ⊥

none_some : {X : Type 0} (x : X) → None ≡ Some x → ⊥
none_some {X = X} x e = subst known e tt
  where
    known : Option X → Type 0
    known (Some z) = ⊥
    known None = ⊤

pub not_both : {b : Bool} → b ≡ false → b ≡ true → ⊥
not_both {b = b} f t = subst known (sym f ∙ t) tt
  where
    known : Bool → Type 0
    known true = ⊥
    known false = ⊤

-- where not all are noted nothing is said
pub lost_notes : (n m : Notes) → m.workers ≡ n.workers → m.whole ≡ false → KeepsNotes n m
lost_notes n m workers lost = record {
  workers = workers;
  whole = λ w. absurd (not_both lost w);
  noted = λ os h w. absurd (not_both lost w);
}

pub keeps_on : (a b c : Notes) → KeepsNotes a b → KeepsNotes b c → KeepsNotes a c
keeps_on a b c f g = record {
  workers = g.workers ∙ f.workers;
  whole = λ w. f.whole (g.whole w);
  noted = λ os h. g.noted os (f.noted os h);
}

pub keeps_none : (n : Notes) → KeepsNotes n n
keeps_none n = record { workers = refl; whole = λ w. w; noted = λ os h. h }

-- more room, and the same notes
pub keeps_alike : (n m : Notes) → m.workers ≡ n.workers → m.first ≡ n.first → m.whole ≡ n.whole → ((k : ℕ) → place_of m.places.items k ≡ place_of n.places.items k) →
    ((k : ℕ) → bit_in m.seen.items k ≡ bit_in n.seen.items k) → length n.seen.items ≤ length m.seen.items → ((k : ℕ) → bit_in m.waits.items k ≡ bit_in n.waits.items k) → KeepsNotes n m
keeps_alike n m workers first whole places seen long waits_are = record {
  workers = workers;
  whole = λ w. sym whole ∙ w;
  noted = λ os h w. (
      let a = h (sym whole ∙ w) in
      record {
        some = a.some;
        placed = λ k within. places (m.workers + object_at os k) ∙ ap (λ (x : ℕ). place_of n.places.items (x + object_at os k)) workers ∙ a.placed k within;
        within = λ b k is. a.within b k (sym (places b) ∙ is);
        named = λ b k is. ap (λ (x : ℕ). x + object_at os k) workers ∙ a.named b k (sym (places b) ∙ is);
        first_there = λ b k is. (let there = a.first_there b k (sym (places b) ∙ is) in omega (arith, there, first));
        seen_there = λ b k is. (let there = a.seen_there b k (sym (places b) ∙ is) in omega (arith, there, long));
        alike = λ b k is. waits_are k ∙ a.alike b k (sym (places b) ∙ is) ∙ sym (seen b);
        past = λ k out. waits_are k ∙ a.past k out;
      });
}

-- whether a command waits in one mailbox was noted
module _ (n m : Notes) (mailbox bit : ℕ) (workers : m.workers ≡ n.workers) (first : m.first ≡ n.first) (whole : m.whole ≡ n.whole) (places : m.places ≡ n.places) (long : length m.seen.items ≡ length n.seen.items)
    (seen : (k : ℕ) → bit_in m.seen.items k ≡ cond (k == mailbox) bit (bit_in n.seen.items k)) where
  seen_same : (k : ℕ) → k ≡ mailbox → bit_in m.seen.items k ≡ bit
  seen_same k same = seen k ∙ ap (λ (b : Bool). cond b bit (bit_in n.seen.items k)) (eq-eqb k mailbox same)

  pub seen_other : (k : ℕ) → (k ≡ mailbox → ⊥) → bit_in m.seen.items k ≡ bit_in n.seen.items k
  seen_other k other = seen k ∙ ap (λ (b : Bool). cond b bit (bit_in n.seen.items k)) (ne_eqb k mailbox other)

  keeps_by : ((os : List ObjId) → AreNoted n.workers n.first os n.places.items n.seen.items n.waits.items → (b k : ℕ) → place_of n.places.items b ≡ Some k → bit_in m.waits.items k ≡ bit_in m.seen.items b) →
      ((os : List ObjId) → AreNoted n.workers n.first os n.places.items n.seen.items n.waits.items → (k : ℕ) → length os ≤ k → bit_in m.waits.items k ≡ 0) → KeepsNotes n m
  keeps_by alike past = record {
    workers = workers;
    whole = λ w. sym whole ∙ w;
    noted = λ os h w. (
        let a = h (sym whole ∙ w) in
        let at : (b : ℕ) → place_of m.places.items b ≡ place_of n.places.items b = λ b. ap (λ x. place_of x.items b) places in
        record {
          some = a.some;
          placed = λ k within. at (m.workers + object_at os k) ∙ ap (λ (x : ℕ). place_of n.places.items (x + object_at os k)) workers ∙ a.placed k within;
          within = λ b k is. a.within b k (sym (at b) ∙ is);
          named = λ b k is. ap (λ (x : ℕ). x + object_at os k) workers ∙ a.named b k (sym (at b) ∙ is);
          first_there = λ b k is. (let there = a.first_there b k (sym (at b) ∙ is) in omega (arith, there, first));
          seen_there = λ b k is. (let there = a.seen_there b k (sym (at b) ∙ is) in omega (arith, there, long));
          alike = λ b k is. alike os a b k (sym (at b) ∙ is);
          past = past os a;
        });
  }

  -- of one at whose mailbox a place is noted
  pub noted_at : (place : ℕ) → place_of n.places.items mailbox ≡ Some place → ((k : ℕ) → bit_in m.waits.items k ≡ cond (k == place) bit (bit_in n.waits.items k)) → KeepsNotes n m
  noted_at place at set = keeps_by (λ os a b k is. by os a b k is (cases_eq b mailbox))
      (λ os a k out.
      set k ∙ ap (λ (x : Bool). cond x bit (bit_in n.waits.items k)) (ne_eqb k place (λ its. (let below = a.within mailbox place at in omega (arith, its, below, out)))) ∙ a.past k out)
    where
      by : (os : List ObjId) → AreNoted n.workers n.first os n.places.items n.seen.items n.waits.items → (b k : ℕ) → place_of n.places.items b ≡ Some k → (b ≡ mailbox) ⊎ (b ≡ mailbox → ⊥) → bit_in m.waits.items k ≡ bit_in m.seen.items b
      by os a b k is (inl same) =
          let its : k ≡ place = some_one k place (sym is ∙ ap (place_of n.places.items) same ∙ at) in
          set k ∙ ap (λ (x : Bool). cond x bit (bit_in n.waits.items k)) (eq-eqb k place its) ∙ sym (seen_same b same)
      by os a b k is (inr other) =
          set k ∙ ap (λ (x : Bool). cond x bit (bit_in n.waits.items k)) (ne_eqb k place (λ its. other (sym (a.named b k is) ∙ ap (λ (x : ℕ). n.workers + object_at os x) its ∙ a.named mailbox place at)))
          ∙ a.alike b k is ∙ sym (seen_other b other)

  -- of one at which none is
  pub noted_nowhere : place_of n.places.items mailbox ≡ None → m.waits ≡ n.waits → KeepsNotes n m
  noted_nowhere at stays = keeps_by (λ os a b k is. by os a b k is (cases_eq b mailbox)) (λ os a k out. ap (λ x. bit_in x.items k) stays ∙ a.past k out)
    where
      by : (os : List ObjId) → AreNoted n.workers n.first os n.places.items n.seen.items n.waits.items → (b k : ℕ) → place_of n.places.items b ≡ Some k → (b ≡ mailbox) ⊎ (b ≡ mailbox → ⊥) → bit_in m.waits.items k ≡ bit_in m.seen.items b
      by os a b k is (inl same) = absurd (none_some k (sym at ∙ sym (ap (place_of n.places.items) same) ∙ is))
      by os a b k is (inr other) = ap (λ x. bit_in x.items k) stays ∙ a.alike b k is ∙ sym (seen_other b other)

-- a socket more was noted
module _ (n m : Notes) (socket : ObjId) (place : ℕ) (may : MayNote socket place n) (workers : m.workers ≡ n.workers) (whole : m.whole ≡ n.whole)
    (places : m.places.items ≡ slice_set n.places.items (n.workers + socket.0) (Some place)) (long : length m.seen.items ≡ length n.seen.items)
    (seen : (k : ℕ) → bit_in m.seen.items k ≡ cond (k == n.workers + socket.0) 0 (bit_in n.seen.items k))
    (waiting : (k : ℕ) → bit_in m.waits.items k ≡ cond (k == place) 0 (bit_in n.waits.items k)) (first : m.first ≤ n.first) (lowest : m.first ≤ (n.workers + socket.0) / 64) where
  abbrev box : ℕ
  box = n.workers + socket.0

  its_place : place_of m.places.items box ≡ Some place
  its_place = ap (λ (ps : List (Option ℕ)). place_of ps box) places ∙ get_or-set_same n.places.items box (Some place) None may.here

  other_place : (b : ℕ) → (b ≡ box → ⊥) → place_of m.places.items b ≡ place_of n.places.items b
  other_place b other = ap (λ (ps : List (Option ℕ)). place_of ps b) places ∙ get_or-set_other n.places.items box b (Some place) None other

  pub closed_noted : (os : List ObjId) → length os ≡ place → Noted os n → Noted (os ++ socket ∷ []) m
  closed_noted os many h w = record {
    some = λ k within. on k (λ x. 0 < x) within (λ below. a.some k below) may.some;
    placed = λ k within. placed k within (cases_lt k (length os));
    within = λ b k is. within b k is (cases_eq b box);
    named = λ b k is. named b k is (cases_eq b box);
    first_there = λ b k is. first_there b k is (cases_eq b box);
    seen_there = λ b k is. seen_there b k is (cases_eq b box);
    alike = λ b k is. alike b k is (cases_eq b box);
    past = λ k out. waiting k ∙ ap (λ (x : Bool). cond x 0 (bit_in n.waits.items k)) (ne_eqb k place (λ same. omega (arith, out, same, many, more))) ∙ a.past k (omega (arith, out, more));
  }
    where
      a : AreNoted n.workers n.first os n.places.items n.seen.items n.waits.items
      a = h (sym whole ∙ w)

      more : length (os ++ socket ∷ []) ≡ length os + 1
      more = length_push os socket

      old_at : (k : ℕ) → k < length os → object_at (os ++ socket ∷ []) k ≡ object_at os k
      old_at k below = ap (λ (o : ObjId). o.0) (get_or_append_left os (socket ∷ []) (record { 0 = 0 }) k below)

      new_at : (k : ℕ) → k ≡ length os → object_at (os ++ socket ∷ []) k ≡ socket.0
      new_at k same = ap (λ (o : ObjId). o.0) (get_or_push os socket (record { 0 = 0 }) k (sym same))

      on : (k : ℕ) (P : ℕ → Type 0) → k < length (os ++ socket ∷ []) → (k < length os → P (object_at os k)) → P socket.0 → P (object_at (os ++ socket ∷ []) k)
      on k P within old new =
          elim (cases_lt k (length os)) [
            | inl below ↦ subst P (sym (old_at k below)) (old below)
            | inr out ↦ subst P (sym (new_at k (omega (arith, within, out, more)))) new
          ]

      placed : (k : ℕ) → k < length (os ++ socket ∷ []) → (k < length os) ⊎ (length os ≤ k) → place_of m.places.items (m.workers + object_at (os ++ socket ∷ []) k) ≡ Some k
      placed k within (inl below) =
          ap (λ (x : ℕ). place_of m.places.items (x + object_at (os ++ socket ∷ []) k)) workers
          ∙ ap (λ (x : ℕ). place_of m.places.items (n.workers + x)) (old_at k below)
          ∙ other_place (n.workers + object_at os k) (λ same. none_some k (sym may.free ∙ sym (ap (place_of n.places.items) same) ∙ a.placed k below))
          ∙ a.placed k below
      placed k within (inr out) =
          let same : k ≡ length os = omega (arith, within, out, more) in
          ap (λ (x : ℕ). place_of m.places.items (x + object_at (os ++ socket ∷ []) k)) workers
          ∙ ap (λ (x : ℕ). place_of m.places.items (n.workers + x)) (new_at k same)
          ∙ its_place
          ∙ ap (λ (x : ℕ). Some x) (sym many ∙ sym same)

      is_last : (b k : ℕ) → place_of m.places.items b ≡ Some k → b ≡ box → k ≡ length os
      is_last b k is same = some_one k place (sym is ∙ ap (place_of m.places.items) same ∙ its_place) ∙ sym many

      was : (b k : ℕ) → place_of m.places.items b ≡ Some k → (b ≡ box → ⊥) → place_of n.places.items b ≡ Some k
      was b k is other = sym (other_place b other) ∙ is

      within : (b k : ℕ) → place_of m.places.items b ≡ Some k → (b ≡ box) ⊎ (b ≡ box → ⊥) → k < length (os ++ socket ∷ [])
      within b k is (inl same) = let last = is_last b k is same in omega (arith, last, more)
      within b k is (inr other) = let below = a.within b k (was b k is other) in omega (arith, below, more)

      named : (b k : ℕ) → place_of m.places.items b ≡ Some k → (b ≡ box) ⊎ (b ≡ box → ⊥) → m.workers + object_at (os ++ socket ∷ []) k ≡ b
      named b k is (inl same) = ap (λ (x : ℕ). x + object_at (os ++ socket ∷ []) k) workers ∙ ap (λ (x : ℕ). n.workers + x) (new_at k (is_last b k is same)) ∙ sym same
      named b k is (inr other) = ap (λ (x : ℕ). x + object_at (os ++ socket ∷ []) k) workers ∙ ap (λ (x : ℕ). n.workers + x) (old_at k (a.within b k (was b k is other))) ∙ a.named b k (was b k is other)

      first_there : (b k : ℕ) → place_of m.places.items b ≡ Some k → (b ≡ box) ⊎ (b ≡ box → ⊥) → m.first ≤ b / 64
      first_there b k is (inl same) = subst (λ (x : ℕ). m.first ≤ x / 64) (sym same) lowest
      first_there b k is (inr other) = let there = a.first_there b k (was b k is other) in omega (arith, there, first)

      seen_there : (b k : ℕ) → place_of m.places.items b ≡ Some k → (b ≡ box) ⊎ (b ≡ box → ⊥) → b / 64 < length m.seen.items
      seen_there b k is (inl same) = subst (λ (x : ℕ). x / 64 < length m.seen.items) (sym same) (let there = may.seen in omega (arith, there, long))
      seen_there b k is (inr other) = let there = a.seen_there b k (was b k is other) in omega (arith, there, long)

      alike : (b k : ℕ) → place_of m.places.items b ≡ Some k → (b ≡ box) ⊎ (b ≡ box → ⊥) → bit_in m.waits.items k ≡ bit_in m.seen.items b
      alike b k is (inl same) =
          waiting k ∙ ap (λ (x : Bool). cond x 0 (bit_in n.waits.items k)) (eq-eqb k place (is_last b k is same ∙ many))
          ∙ sym (seen b ∙ ap (λ (x : Bool). cond x 0 (bit_in n.seen.items b)) (eq-eqb b box same))
      alike b k is (inr other) =
          waiting k ∙ ap (λ (x : Bool). cond x 0 (bit_in n.waits.items k)) (ne_eqb k place (λ same. (let below = a.within b k (was b k is other) in omega (arith, below, same, many))))
          ∙ a.alike b k (was b k is other)
          ∙ sym (seen b ∙ ap (λ (x : Bool). cond x 0 (bit_in n.seen.items b)) (ne_eqb b box other))

no_bit : (ls : List Letter) → some_bit ls ≡ 0 → is_none ls ≡ true
no_bit [] e = refl
no_bit (l ∷ ls) e = absurd (omega (arith, e))

and_false : (b : Bool) → (b && false) ≡ false
and_false true = refl
and_false false = refl

-- what is noted tells for which none waits
module _ (c : Control) (workers first : ℕ) (boxes : HaveOwnBoxes workers c) (os : List ObjId) (sockets : AreSockets c os) (places : List (Option ℕ)) (seen waiting : List ℕ)
    (noted : AreNoted workers first os places seen waiting) (followed : AreFollowed c os workers seen) where
  none_at : (k : ℕ) → k < length os → bit_in waiting k ≡ 0 → waits c (slice_index_or os k (record { 0 = 0 })) ≡ false
  none_at k within zeros =
      let box = workers + object_at os k in
      let empty : some_bit (c.boxes box) ≡ 0 = sym (followed k within) ∙ sym (noted.alike box k (noted.placed k within)) ∙ zeros in
      let is = sockets k (record { 0 = 0 }) within in
      let slot = boxes.own (object_at os k) (socket_there c.rows (object_at os k) is) is in
      ap (λ (b : Bool). is_used (obj c.rows (object_at os k)).request && not b) (ap (λ (x : ℕ). is_none (c.boxes x)) slot ∙ no_bit (c.boxes box) empty)
      ∙ and_false (is_used (obj c.rows (object_at os k)).request)

  pub none_before : (p : ℕ) → p ≤ length os → ((k : ℕ) → k < p → bit_in waiting k ≡ 0) → find (waits c) (take p os) ≡ None
  none_before zero few zeros = refl
  none_before (suc p) few zeros =
      let on : suc p ≡ p + 1 = omega arith in
      ap (λ (n : ℕ). find (waits c) (take n os)) on
      ∙ find_past (waits c) os p (record { 0 = 0 }) (omega (arith, few))
      (none_before p (omega (arith, few)) (λ k below. zeros k (omega (arith, below))))
      (none_at p (omega (arith, few)) (zeros p (omega arith)))

  pub none_noted : ((k : ℕ) → k < length os → bit_in waiting k ≡ 0) → None ≡ find (waits c) os
  none_noted zeros = sym (ap (find (waits c)) (sym (take_all (length os) os (omega arith))) ∙ none_before (length os) (omega arith) zeros)

  pub first_is_noted : (place : ℕ) → place < length os → ((k : ℕ) → k < length os → k < place → bit_in waiting k ≡ 0) → waits c (slice_index_or os place (record { 0 = 0 })) ≡ true → Some (slice_index_or os place (record { 0 = 0 })) ≡ find (waits c) os
  first_is_noted place there zeros is =
      sym (find_at (waits c) os place (record { 0 = 0 }) there (none_before place (omega (arith, there)) (λ k below. zeros k (omega (arith, below, there)) below)) is)

-- no closed socket is noted where no place is, and no bit of a place is set
pub noted_none : (n : Notes) → ((b k : ℕ) → place_of n.places.items b ≡ Some k → ⊥) → ((k : ℕ) → bit_in n.waits.items k ≡ 0) → Noted [] n
noted_none n nowhere zeros w = record {
  some = λ k within. absurd (omega (arith, within));
  placed = λ k within. absurd (omega (arith, within));
  within = λ b k is. absurd (nowhere b k is);
  named = λ b k is. absurd (nowhere b k is);
  first_there = λ b k is. absurd (nowhere b k is);
  seen_there = λ b k is. absurd (nowhere b k is);
  alike = λ b k is. absurd (nowhere b k is);
  past = λ k out. zeros k;
}

-- as at first
pub noted_begins : (n : Notes) → n.places.items ≡ [] → n.waits.items ≡ [] → Noted [] n
noted_begins n places waiting = noted_none n
    (λ b k is. none_some k (sym (ap (λ (ps : List (Option ℕ)). place_of ps b) places ∙ get_or_past [] b None (omega arith)) ∙ is))
    (λ k. ap (λ (ws : List ℕ). bit_in ws k) waiting ∙ past_words [] k (omega arith))

-- so many of the closed sockets were dropped
pub record AreDropped (workers : ℕ) (os : List ObjId) (done : ℕ) (places places_now : List (Option ℕ)) (waiting waiting_now : List ℕ) : Type 0 where
  pub was : (b k : ℕ) → place_of places_now b ≡ Some k → place_of places b ≡ Some k
  pub gone : (j : ℕ) → j < done → place_of places_now (workers + object_at os j) ≡ None
  pub clear : (k : ℕ) → k < done → bit_in waiting_now k ≡ 0
  pub rest : (k : ℕ) → done ≤ k → bit_in waiting_now k ≡ bit_in waiting k

-- all were
pub all_dropped : (n m : Notes) (os : List ObjId) (done : ℕ) → length os ≤ done → Noted os n → AreDropped n.workers os done n.places.items m.places.items n.waits.items m.waits.items → m.whole ≡ n.whole → Noted [] m
all_dropped n m os done all h dropped whole w = noted_none m
    (λ b k is. (
    let was = dropped.was b k is in
    none_some k (sym (dropped.gone k (let below = a.within b k was in omega (arith, below, all))) ∙ ap (place_of m.places.items) (a.named b k was) ∙ is)))
    (λ k. zero_at k (cases_lt k done)) w
  where
    a : AreNoted n.workers n.first os n.places.items n.seen.items n.waits.items
    a = h (sym whole ∙ w)

    zero_at : (k : ℕ) → (k < done) ⊎ (done ≤ k) → bit_in m.waits.items k ≡ 0
    zero_at k (inl below) = dropped.clear k below
    zero_at k (inr above) = dropped.rest k above ∙ a.past k (omega (arith, above, all))

-- a word, or a place, more
pub word_more : (words : List ℕ) (k : ℕ) → bit_in (words ++ 0 ∷ []) k ≡ bit_in words k
word_more words k = pushed_same (λ (w : ℕ). bit_at w (k % 64)) words 0 0 (k / 64) refl

pub place_more : (places : List (Option ℕ)) (k : ℕ) → place_of (places ++ None ∷ []) k ≡ place_of places k
place_more places k = pushed_same (λ (o : Option ℕ). o) places None None k refl
