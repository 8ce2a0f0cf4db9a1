-- The steps past, where pipes are made, sealed and settled.
use Rattle.std.specs.Prelude.{◌≡◌, ◌≢◌, ◌||◌, ℕ, Bool, true, false, List, [], ◌∷◌, ◌++◌, Option, Some, None, refl}
use Rattle.std.proofs.Common.{arith, sym, ap, ◌∙◌, subst, append-nil, true≢false}
use Rattle.std.proofs.lemmas.List.Elements.{filter_map-append}
use Rattle.std.proofs.lemmas.List.Folds.{list_any-append}
use Rattle.zq_base.specs.declared.ids.EndId.{EndId}
use Rattle.zq_base.specs.Ends.{PipeId}
use Rattle.spec_pattern.specs.PipeStep.{PipeStep, Commit, FullLook, RoomLook, Take, EmptyLook, DelimiterLook, WaitingLook, Seal, same_pipe, committed_by, taken_by, sealed_by, committed_to, taken_from, sealed_in, AreExact}
use Rattle.spec_pattern.specs.Half.{Writing, Reading, with_delimiter, without_parts}
use Rattle.spec_pattern.proofs.Exact.{same_pipes}
use Rattle.msg_pipe.specs.Known.{Known, IsThere, KeepsAll, KeepsButOut, KeepsButPipe, MakesPipe}
use Rattle.end_table.specs.Past.{OneName, Stands, IsPast}
use Rattle.end_table.proofs.RowLemmas.{some_same}
use Rattle.end_table.proofs.StepLemmas.{own_pipe, or_false, exact_more}
use Rattle.spec_control.specs.Control.{begun, is_end}
use Rattle.control_laws.proofs.AskLemmas.{end_self, same_end}
use Rattle.spec_control.specs.ControlRun.{after_all}
use Rattle.spec_run.specs.OwnedRun.{pipe_capacity}
use Rattle.run_laws.specs.CapacitiesStay.{CapacitiesStay, StepsStayExact}
use Rattle.socket_laws.specs.Past.{HasNoStep, goes_without, goes_with, AreFewer, PastGoesOn, PastStaysOver}

none_some : {X : Type 0} {x : X} → None ≡ Some x → ⊥
none_some e = Prim.grind arith

-- ---- names

module _ {N : Type 0} where
  -- what a name without a pipe's, or with it, says
  without_said : (p q : PipeId) (goes : PipeId → Option N) (n : N) → goes_without p goes q ≡ Some n → (is_end q p ≡ false) × (goes q ≡ Some n)
  without_said p q goes n e = by (is_end q p) refl
    where
      by : (b : Bool) → is_end q p ≡ b → (is_end q p ≡ false) × (goes q ≡ Some n)
      by true h = absurd (none_some (subst (λ (o : Option N). o ≡ Some n) (rw h refl) e))
      by false h = (h, subst (λ (o : Option N). o ≡ Some n) (rw h refl) e)

  one_without : (p : PipeId) (goes : PipeId → Option N) → OneName goes → OneName (goes_without p goes)
  one_without p goes one q r n x y = one q r n (without_said p q goes n x).1 (without_said p r goes n y).1

  data Says (p q : PipeId) (m : N) (goes : PipeId → Option N) (n : N) : Type 0 where
    here : q ≡ p → n ≡ m → Says p q m goes n
    else_where : is_end q p ≡ false → goes q ≡ Some n → Says p q m goes n

  with_said : (p q : PipeId) (m : N) (goes : PipeId → Option N) (n : N) → goes_with p m goes q ≡ Some n → Says p q m goes n
  with_said p q m goes n e = by (is_end q p) refl
    where
      by : (b : Bool) → is_end q p ≡ b → Says p q m goes n
      by true h = here (same_end q p h) (sym (some_same m n (subst (λ (o : Option N). o ≡ Some n) (rw h refl) e)))
      by false h = else_where h (subst (λ (o : Option N). o ≡ Some n) (rw h refl) e)

  one_with : (p : PipeId) (m : N) (goes : PipeId → Option N) → OneName goes → ((q : PipeId) (n : N) → goes q ≡ Some n → n ≢ m) → OneName (goes_with p m goes)
  one_with p m goes one new q r n x y = by (with_said p q m goes n x) (with_said p r m goes n y)
    where
      by : Says p q m goes n → Says p r m goes n → q ≡ r
      by (here e f) (here g h) = e ∙ sym g
      by (here e f) (else_where g h) = absurd (new r n h f)
      by (else_where e f) (here g h) = absurd (new q n f h)
      by (else_where e f) (else_where g h) = one q r n f h

  -- another pipe goes by another name
  other_name : (goes : PipeId → Option N) (p : PipeId) (n : N) → OneName goes → goes p ≡ Some n → (q : PipeId) (m : N) → same_pipe q p ≡ false → goes q ≡ Some m → m ≢ n
  other_name goes p n one named q m apart gq same =
      let is_p : q ≡ p = one q p m gq (named ∙ ap Some (sym same)) in
      absurd (true≢false (sym (own_pipe p) ∙ ap (λ (x : PipeId). same_pipe x p) (sym is_p) ∙ apart))

-- ---- no step was made at a pipe that is new

none_past : (p : PipeId) (past : List PipeStep) → HasNoStep p past → (committed_to p past ≡ []) × ((taken_from p past ≡ []) × (sealed_in p past ≡ false))
none_past p [] all = (refl, (refl, refl))
none_past p (Commit q m ∷ past) all = rw all.0 (none_past p past all.1)
none_past p (FullLook q ∷ past) all = none_past p past all.1
none_past p (RoomLook q ∷ past) all = none_past p past all.1
none_past p (Take q m ∷ past) all = rw all.0 (none_past p past all.1)
none_past p (EmptyLook q ∷ past) all = none_past p past all.1
none_past p (DelimiterLook q ∷ past) all = none_past p past all.1
none_past p (WaitingLook q ∷ past) all = none_past p past all.1
none_past p (Seal q ∷ past) all = rw all.0 (none_past p past all.1)

module _ {S O I N : Type 0} (K : Known S O I N) where
  -- a pipe stands still where what its halves know is as before
  stands_still : (goes more : PipeId → Option N) (capacity now : PipeId → ℕ) (old new : S) (past : List PipeStep) (p : PipeId) (n : N) (was : Stands K goes capacity old past p n) →
      IsThere K new n → K.writing new was.out ≡ K.writing old was.out → K.reading new was.input ≡ K.reading old was.input → now p ≡ capacity p → Stands K more now new past p n
  stands_still goes more capacity now old new past p n was there writes reads same = record {
    out = was.out;
    input = was.input;
    out_is = was.out_is;
    in_is = was.in_is;
    there = there;
    committed = ap (λ (w : Writing). w.committed) writes ∙ was.committed;
    taken = ap (λ (r : Reading). r.taken) reads ∙ was.taken;
    capacity_is = ap (λ (w : Writing). w.capacity) writes ∙ was.capacity_is ∙ sym same;
    sealed_is = ap (λ (w : Writing). w.sealed) writes ∙ was.sealed_is;
  }

  out_there : (goes : PipeId → Option N) (capacity : PipeId → ℕ) (old : S) (past : List PipeStep) (p : PipeId) (n : N) (was : Stands K goes capacity old past p n) → IsThere K old (K.out_name was.out)
  out_there goes capacity old past p n was = subst (IsThere K old) (sym was.out_is) was.there

  in_there : (goes : PipeId → Option N) (capacity : PipeId → ℕ) (old : S) (past : List PipeStep) (p : PipeId) (n : N) (was : Stands K goes capacity old past p n) → IsThere K old (K.in_name was.input)
  in_there goes capacity old past p n was = subst (IsThere K old) (sym was.in_is) was.there

  past_kept : (goes : PipeId → Option N) (capacity : PipeId → ℕ) (old new : S) (past : List PipeStep) → KeepsAll K old new → IsPast K goes capacity old past → IsPast K goes capacity new past
  past_kept goes capacity old new past keeps is = record { stands = stands; exact = is.exact }
    where
      stands : (p : PipeId) (n : N) → goes p ≡ Some n → Stands K goes capacity new past p n
      stands p n g =
          let was = is.stands p n g in
          stands_still goes goes capacity capacity old new past p n was (keeps.there n was.there)
          (keeps.outs was.out (out_there goes capacity old past p n was)) (keeps.ins was.input (in_there goes capacity old past p n was)) refl

  past_fewer : (goes fewer : PipeId → Option N) (capacity : PipeId → ℕ) (old new : S) (past : List PipeStep) (gone : N) → AreFewer goes fewer gone → KeepsButPipe K gone old new
      → IsPast K goes capacity old past → IsPast K fewer capacity new past
  past_fewer goes fewer capacity old new past gone are keeps is = record { stands = stands; exact = is.exact }
    where
      stands : (p : PipeId) (n : N) → fewer p ≡ Some n → Stands K fewer capacity new past p n
      stands p n g =
          let was = is.stands p n (are.were p n g) in
          stands_still goes fewer capacity capacity old new past p n was (keeps.there n was.there)
          (keeps.outs was.out (out_there goes capacity old past p n was) (λ exact same. are.others p n g (sym was.out_is ∙ same)))
          (keeps.ins was.input (in_there goes capacity old past p n was) (λ exact same. are.others p n g (sym was.in_is ∙ same))) refl

  past_settled : (goes : PipeId → Option N) (capacity : PipeId → ℕ) (old new : S) (past : List PipeStep) (p : PipeId) (n : N) → OneName goes → goes p ≡ Some n → KeepsButPipe K n old new
      → IsPast K goes capacity old past → IsPast K (goes_without p goes) capacity new past × OneName (goes_without p goes)
  past_settled goes capacity old new past p n one g keeps is =
      (past_fewer goes (goes_without p goes) capacity old new past n (record { were = λ q m e. (without_said p q goes m e).1; others = others }) keeps is, one_without p goes one)
    where
      others : (q : PipeId) (m : N) → goes_without p goes q ≡ Some m → m ≢ n
      others q m e same =
          let said = without_said p q goes m e in
          let is_p : q ≡ p = one q p m said.1 (g ∙ ap Some (sym same)) in
          absurd (true≢false (sym (end_self p) ∙ ap (λ (d : EndId). is_end d p) (sym is_p) ∙ said.0))

  past_capacities : (goes : PipeId → Option N) (capacity now : PipeId → ℕ) (pipes : S) (past : List PipeStep) → ((p : PipeId) (n : N) → goes p ≡ Some n → now p ≡ capacity p) → AreExact now [] past
      → IsPast K goes capacity pipes past → IsPast K goes now pipes past
  past_capacities goes capacity now pipes past same exact is = record {
    stands = λ p n g. stands_still goes goes capacity now pipes pipes past p n (is.stands p n g) (is.stands p n g).there refl refl (same p n g);
    exact = exact;
  }

  module _ (is_exact : K.exact ≡ true) where
    past_made : (goes : PipeId → Option N) (capacity : PipeId → ℕ) (old new : S) (past : List PipeStep) (p : PipeId) (o : O) (i : I) → OneName goes → MakesPipe K (capacity p) o i old new → KeepsAll K old new
        → HasNoStep p past → IsPast K goes capacity old past → IsPast K (goes_with p (K.out_name o) goes) capacity new past × OneName (goes_with p (K.out_name o) goes)
    past_made goes capacity old new past p o i one makes keeps untouched is =
        (record { stands = λ q n e. stands q n (with_said p q (K.out_name o) goes n e); exact = is.exact }, one_with p (K.out_name o) goes one new_name)
      where
        new_name : (q : PipeId) (n : N) → goes q ≡ Some n → n ≢ K.out_name o
        new_name q n g same = makes.is_new is_exact (subst (IsThere K old) same (is.stands q n g).there)

        none : (committed_to p past ≡ []) × ((taken_from p past ≡ []) × (sealed_in p past ≡ false))
        none = none_past p past untouched

        first : Stands K (goes_with p (K.out_name o) goes) capacity new past p (K.out_name o)
        first = record {
          out = o;
          input = i;
          out_is = refl;
          in_is = makes.one_name;
          there = makes.there;
          committed = ap (λ (w : Writing). w.committed) makes.writing_is ∙ sym none.0;
          taken = ap (λ (r : Reading). r.taken) makes.reading_is ∙ sym none.1.0;
          capacity_is = ap (λ (w : Writing). w.capacity) makes.writing_is;
          sealed_is = ap (λ (w : Writing). w.sealed) makes.writing_is ∙ sym none.1.1;
        }

        stands : (q : PipeId) (n : N) → Says p q (K.out_name o) goes n → Stands K (goes_with p (K.out_name o) goes) capacity new past q n
        stands q n (here e f) =
            subst (λ (r : PipeId). Stands K (goes_with p (K.out_name o) goes) capacity new past r n) (sym e)
            (subst (Stands K (goes_with p (K.out_name o) goes) capacity new past p) (sym f) first)
        stands q n (else_where e g) =
            let was = is.stands q n g in
            stands_still goes (goes_with p (K.out_name o) goes) capacity capacity old new past q n was (keeps.there n was.there)
            (keeps.outs was.out (out_there goes capacity old past q n was)) (keeps.ins was.input (in_there goes capacity old past q n was)) refl

    past_pair : (goes : PipeId → Option N) (capacity : PipeId → ℕ) (old mid new : S) (past : List PipeStep) (p q : PipeId) (o u : O) (i j : I) → OneName goes
        → MakesPipe K (capacity p) o i old mid → KeepsAll K old mid → MakesPipe K (capacity q) u j mid new → KeepsAll K mid new → HasNoStep p past → HasNoStep q past → IsPast K goes capacity old past
        → IsPast K (goes_with q (K.out_name u) (goes_with p (K.out_name o) goes)) capacity new past × OneName (goes_with q (K.out_name u) (goes_with p (K.out_name o) goes))
    past_pair goes capacity old mid new past p q o u i j one first kept then kept_then none none_then is =
        let a = past_made goes capacity old mid past p o i one first kept none is in
        past_made (goes_with p (K.out_name o) goes) capacity mid new past q u j a.1 then kept_then none_then a.0

    past_sealed : (one_out : (s : S) (o p : O) → K.out_name o ≡ K.out_name p → K.writing s o ≡ K.writing s p)
        → (goes : PipeId → Option N) (capacity : PipeId → ℕ) (old new : S) (past : List PipeStep) (p : PipeId) (lent back : O) → OneName goes → goes p ≡ Some (K.out_name lent)
        → (K.writing old lent).sealed ≡ false → K.writing new back ≡ with_delimiter (K.writing old lent) → KeepsButOut K lent back old new
        → IsPast K goes capacity old past → IsPast K goes capacity new (past ++ Seal p ∷ [])
    past_sealed one_out goes capacity old new past p lent back one named unsealed seals keeps is = record {
      stands = λ q n g. stands q n (same_pipe q p) refl g;
      exact = exact_more capacity [] past (Seal p) is.exact (sym mine.sealed_is ∙ ap (λ (w : Writing). w.sealed) (one_out old mine.out lent mine.out_is) ∙ unsealed);
    }
      where
        mine : Stands K goes capacity old past p (K.out_name lent)
        mine = is.stands p (K.out_name lent) named

        -- what a pipe holds is as before, and one is sealed
        goes_on : (q : PipeId) (n : N) (was : Stands K goes capacity old past q n) → (K.writing new was.out).committed ≡ (K.writing old was.out).committed → (K.writing new was.out).capacity ≡ (K.writing old was.out).capacity
            → K.reading new was.input ≡ K.reading old was.input → (K.writing new was.out).sealed ≡ ((K.writing old was.out).sealed || same_pipe q p) → Stands K goes capacity new (past ++ Seal p ∷ []) q n
        goes_on q n was commits fits reads sealed = record {
          out = was.out;
          input = was.input;
          out_is = was.out_is;
          in_is = was.in_is;
          there = keeps.there n was.there;
          committed = commits ∙ was.committed ∙ sym (append-nil (committed_to q past)) ∙ sym (filter_map-append (committed_by q) past (Seal p ∷ []));
          taken = ap (λ (r : Reading). r.taken) reads ∙ was.taken ∙ sym (append-nil (taken_from q past)) ∙ sym (filter_map-append (taken_by q) past (Seal p ∷ []));
          capacity_is = fits ∙ was.capacity_is;
          sealed_is = sealed ∙ ap (λ (b : Bool). b || same_pipe q p) was.sealed_is ∙ ap (λ (b : Bool). sealed_in q past || b) (sym (or_false (same_pipe q p))) ∙ sym (list_any-append (sealed_by q) past (Seal p ∷ []));
        }

        or_true : (b : Bool) → (b || true) ≡ true
        or_true true = refl
        or_true false = refl

        stands : (q : PipeId) (n : N) (b : Bool) → same_pipe q p ≡ b → goes q ≡ Some n → Stands K goes capacity new (past ++ Seal p ∷ []) q n
        stands q n true h g =
            let was = is.stands q n g in
            let name : n ≡ K.out_name lent = some_same n (K.out_name lent) (sym g ∙ ap goes (same_pipes q p h) ∙ named) in
            let before : K.writing old was.out ≡ K.writing old lent = one_out old was.out lent (was.out_is ∙ name) in
            let now : K.writing new was.out ≡ with_delimiter (K.writing old lent) = one_out new was.out back (was.out_is ∙ name ∙ sym keeps.name_is) ∙ seals in
            goes_on q n was (ap (λ (w : Writing). w.committed) now ∙ ap (λ (w : Writing). w.committed) (sym before)) (ap (λ (w : Writing). w.capacity) now ∙ ap (λ (w : Writing). w.capacity) (sym before))
            (keeps.ins was.input (in_there goes capacity old past q n was))
            (ap (λ (w : Writing). w.sealed) now ∙ sym (or_true (K.writing old was.out).sealed) ∙ ap (λ (b : Bool). (K.writing old was.out).sealed || b) (sym h))
        stands q n false h g =
            let was = is.stands q n g in
            let writes = keeps.outs was.out (out_there goes capacity old past q n was) (λ exact same. other_name goes p (K.out_name lent) one named q n h g (sym was.out_is ∙ same)) in
            goes_on q n was (ap (λ (w : Writing). w.committed) writes) (ap (λ (w : Writing). w.capacity) writes) (keeps.ins was.input (in_there goes capacity old past q n was))
            (ap (λ (w : Writing). w.sealed) writes ∙ sym (or_false (K.writing old was.out).sealed) ∙ ap (λ (b : Bool). (K.writing old was.out).sealed || b) (sym h))

    past_parted : (one_out : (s : S) (o p : O) → K.out_name o ≡ K.out_name p → K.writing s o ≡ K.writing s p)
        → (goes : PipeId → Option N) (capacity : PipeId → ℕ) (old new : S) (past : List PipeStep) (p : PipeId) (lent back : O) → OneName goes → goes p ≡ Some (K.out_name lent)
        → K.writing new back ≡ without_parts (K.writing old lent) → KeepsButOut K lent back old new
        → IsPast K goes capacity old past → IsPast K goes capacity new past
    past_parted one_out goes capacity old new past p lent back one named parts keeps is = record { stands = λ q n g. stands q n (same_pipe q p) refl g; exact = is.exact }
      where
        -- but for its parts, a writing half knows what it knew
        goes_on : (q : PipeId) (n : N) (was : Stands K goes capacity old past q n) → (K.writing new was.out).committed ≡ (K.writing old was.out).committed → (K.writing new was.out).capacity ≡ (K.writing old was.out).capacity
            → (K.writing new was.out).sealed ≡ (K.writing old was.out).sealed → Stands K goes capacity new past q n
        goes_on q n was commits fits sealed = record {
          out = was.out;
          input = was.input;
          out_is = was.out_is;
          in_is = was.in_is;
          there = keeps.there n was.there;
          committed = commits ∙ was.committed;
          taken = ap (λ (r : Reading). r.taken) (keeps.ins was.input (in_there goes capacity old past q n was)) ∙ was.taken;
          capacity_is = fits ∙ was.capacity_is;
          sealed_is = sealed ∙ was.sealed_is;
        }

        stands : (q : PipeId) (n : N) (b : Bool) → same_pipe q p ≡ b → goes q ≡ Some n → Stands K goes capacity new past q n
        stands q n true h g =
            let was = is.stands q n g in
            let name : n ≡ K.out_name lent = some_same n (K.out_name lent) (sym g ∙ ap goes (same_pipes q p h) ∙ named) in
            let before : K.writing old was.out ≡ K.writing old lent = one_out old was.out lent (was.out_is ∙ name) in
            let now : K.writing new was.out ≡ without_parts (K.writing old lent) = one_out new was.out back (was.out_is ∙ name ∙ sym keeps.name_is) ∙ parts in
            goes_on q n was (ap (λ (w : Writing). w.committed) now ∙ ap (λ (w : Writing). w.committed) (sym before)) (ap (λ (w : Writing). w.capacity) now ∙ ap (λ (w : Writing). w.capacity) (sym before))
            (ap (λ (w : Writing). w.sealed) now ∙ ap (λ (w : Writing). w.sealed) (sym before))
        stands q n false h g =
            let was = is.stands q n g in
            let writes = keeps.outs was.out (out_there goes capacity old past q n was) (λ exact same. other_name goes p (K.out_name lent) one named q n h g (sym was.out_is ∙ same)) in
            goes_on q n was (ap (λ (w : Writing). w.committed) writes) (ap (λ (w : Writing). w.capacity) writes) (ap (λ (w : Writing). w.sealed) writes)

    pub past_goes_on : ((s : S) (o p : O) → K.out_name o ≡ K.out_name p → K.writing s o ≡ K.writing s p) → PastGoesOn K
    past_goes_on one_out = record {
      kept = past_kept;
      settled = past_settled;
      fewer = past_fewer;
      made = past_made;
      sealed = past_sealed one_out;
      parted = past_parted one_out;
      pair = past_pair;
      capacities = past_capacities;
    }

-- ---- where the control plane goes on
pub past_stays_over : {S O I N : Type 0} (K : Known S O I N) (M T : Type 0) → CapacitiesStay M T → StepsStayExact M T → PastStaysOver K M T
past_stays_over K M T capacities exact io items more run on goes pipes past named made is =
    past_capacities K goes (pipe_capacity (after_all items (begun io))) (pipe_capacity (after_all more (after_all items (begun io)))) pipes past
    (λ p n g. capacities io items more run on p (named p n g)) (exact io items more run on past made is.exact) is
