-- The steps past go on over calls of a socket on the control plane, change by change.
use Rattle.std.specs.Prelude.{◌≡◌, ◌≢◌, ◌≤◌, ◌<◌, ◌++◌, ℕ, Bool, zero, suc, true, false, List, [], ◌∷◌, Option, Some, None, is_some, length, map, refl, if◌then◌else◌}
use Rattle.std.specs.List.{AllByRecursion}
use Rattle.std.specs.Option.{option_or}
use Rattle.std.proofs.Common.{arith, sym, ap, ◌∙◌, subst, append-nil, append_assoc, true≢false}
use Rattle.zq_base.specs.declared.ids.EndId.{EndId}
use Rattle.zq_base.specs.Ends.{PipeId}
use Rattle.msg_pipe.specs.Known.{Known, IsThere, KeepsAll, KeepsButPipe, MakesPipe}
use Rattle.spec_pattern.specs.PipeStep.{PipeStep, Seal, same_pipe, read_through}
use Rattle.spec_pattern.proofs.Exact.{same_pipes}
use Rattle.end_table.specs.Past.{OneName, Stands, IsPast}
use Rattle.end_table.proofs.RowLemmas.{some_same}
use Rattle.spec_control.specs.Control.{Control, Settlement, begun, is_end, next_pair}
use Rattle.spec_control.specs.ControlRun.{after_all}
use Rattle.control_laws.proofs.AskLemmas.{end_self, same_end}
use Rattle.spec_run.specs.OwnedRun.{settlement_of, pipe_capacity}
use Rattle.run_laws.specs.CapacitiesStay.{pipe_at}
use Rattle.end_table.specs.declared.table.Place.{Place}
use Rattle.end_table.specs.Places.{place_at}
use Rattle.end_table.specs.declared.changes.PipeChange.{PipeChange}
use Rattle.end_table.specs.declared.changes.PipeChange.TheVariants.{Kept, Made, Sealed, SealedAgain, Parted, Settled}
use Rattle.end_table.specs.Changes.{IsPlaced, MadeWith, SealedBy, PartedBy, SettlesPipe, made_with, made_last, DoesChanges}
use Rattle.zq_world.proofs.RiseLemmas.{all_both}
use Rattle.socket_laws.specs.Past.{HasNoStep, goes_with, PastGoesOn, PastStaysOver}
use Rattle.socket_laws.proofs.SideLemmas.{begun_is, grows}
use Rattle.socket_laws.specs.Standing.{unless_settled, goes_in}
use Rattle.socket_laws.specs.Changes.{delimited_in, IsOfPipes, IsPlaceNamed, ArePlacesNamed, AreChangesNamed, IsMade, NamesGoOn, ChangesGoOn}
use Rattle.socket_laws.proofs.SettledLemmas.{settled_stay}

-- ---- places

module _ {N I : Type 0} where
  pub record Stood (ps : List (Place N I)) (k : ℕ) : Type 0 where
    pub place : Place N I
    pub there : place_at ps k ≡ Some place

  pub stood : (ps : List (Place N I)) (k : ℕ) → k < length ps → Stood ps k
  stood [] k lt = absurd (omega (arith, lt))
  stood (p ∷ ps) zero lt = record { place = p; there = refl }
  stood (p ∷ ps) (suc k) lt = let rest = stood ps k (omega (arith, lt)) in record { place = rest.place; there = rest.there }

  written_is : (names : PipeId → Option N) (ps : List (Place N I)) (k : ℕ) (e : EndId) → IsPlaced ps k e → ((p : Place N I) → place_at ps k ≡ Some p → IsPlaceNamed names p) → (n : N) → ((p : Place N I) → place_at ps k ≡ Some p → n ≡ p.written) → names e ≡ Some n
  written_is names ps k e at here n is =
      let s = stood ps k at.within in
      subst (λ (d : EndId). names d ≡ Some n) (at.end_is s.place s.there) ((here s.place s.there).0 ∙ ap Some (sym (is s.place s.there)))

-- where all are named those are
pub changes_named : {N O I S : Type 0} (names : PipeId → Option N) (ps : List (Place N I)) → ArePlacesNamed names ps → (xs : List (PipeChange O I × S)) → AreChangesNamed names ps xs
changes_named names ps all [] = tt
changes_named names ps all ((Kept, s) ∷ xs) = (tt, changes_named names ps all xs)
changes_named names ps all ((Made e capacity halves, s) ∷ xs) = (tt, changes_named names ps all xs)
changes_named names ps all ((Sealed k e half, s) ∷ xs) = ((λ le. all k), changes_named names ps all xs)
changes_named names ps all ((SealedAgain k e, s) ∷ xs) = ((λ le. all k), changes_named names ps all xs)
changes_named names ps all ((Parted k e half, s) ∷ xs) = ((λ le. all k), changes_named names ps all xs)
changes_named names ps all ((Settled k e, s) ∷ xs) = ((λ le. all k), changes_named names ps all xs)

-- ---- names

none_some : {X : Type 0} {x : X} → None ≡ Some x → ⊥
none_some e = Prim.grind arith

pairs_same : {X Y : Type 0} (x y : X × Y) → Some x ≡ Some y → (x.0 ≡ y.0) × (x.1 ≡ y.1)
pairs_same {X} {Y} x y e = let p = some_same x y e in (ap (λ (z : X × Y). z.0) p, ap (λ (z : X × Y). z.1) p)

or_none : {X : Type 0} (o : Option X) → option_or o None ≡ o
or_none None = refl
or_none (Some x) = refl

other_way : (d e : EndId) → is_end d e ≡ false → is_end e d ≡ false
other_way d e h = by (is_end e d) refl
  where
    by : (b : Bool) → is_end e d ≡ b → b ≡ false
    by false g = refl
    by true g = absurd (true≢false (sym (end_self d) ∙ ap (is_end d) (sym (same_end e d g)) ∙ h))

-- the name that a pipe goes by, unless it is to be made still
abbrev unless_to_make : {X N : Type 0} → Option X → (had has : Option N) → Option N
unless_to_make None had has = has
unless_to_make (Some x) None has = None
unless_to_make (Some x) (Some n) has = has

-- fewer pipes go by names
fewer_past : {S O I N : Type 0} (K : Known S O I N) (goes fewer : PipeId → Option N) (capacity : PipeId → ℕ) (pipes : S) (past : List PipeStep) → ((p : PipeId) (n : N) → fewer p ≡ Some n → goes p ≡ Some n)
    → IsPast K goes capacity pipes past → IsPast K fewer capacity pipes past
fewer_past K goes fewer capacity pipes past were is = record { stands = λ p n g. same_stands (is.stands p n (were p n g)); exact = is.exact }
  where
    same_stands : {p : PipeId} {n : _} → Stands K goes capacity pipes past p n → Stands K fewer capacity pipes past p n
    same_stands was = record {
      out = was.out;
      input = was.input;
      out_is = was.out_is;
      in_is = was.in_is;
      there = was.there;
      committed = was.committed;
      taken = was.taken;
      capacity_is = was.capacity_is;
      sealed_is = was.sealed_is;
    }

module _ {N : Type 0} where
  -- a pipe that goes by a name was given it, and was not settled
  pub goes_said : (c : Control) (names : PipeId → Option N) (p : PipeId) (n : N) → goes_in c names p ≡ Some n → (settlement_of c p ≡ None) × (names p ≡ Some n)
  goes_said c names p n e = by (settlement_of c p) refl e
    where
      by : (s : Option Settlement) → settlement_of c p ≡ s → unless_settled s (names p) ≡ Some n → (settlement_of c p ≡ None) × (names p ≡ Some n)
      by None h g = (h, g)
      by (Some s) h g = absurd (none_some g)

  pub goes_so : (c : Control) (names : PipeId → Option N) (p : PipeId) (n : N) → settlement_of c p ≡ None → names p ≡ Some n → goes_in c names p ≡ Some n
  goes_so c names p n h g = ap (λ (s : Option Settlement). unless_settled s (names p)) h ∙ g

  -- a pipe of an end goes by its name and by no other
  pub one_fewer : (goes fewer : PipeId → Option N) → ((p : PipeId) (n : N) → fewer p ≡ Some n → goes p ≡ Some n) → OneName goes → OneName fewer
  one_fewer goes fewer were one p q n x y = one p q n (were p n x) (were q n y)

-- ---- change by change

module _ {S O I N : Type 0} (K : Known S O I N) (is_exact : K.exact ≡ true) (law : PastGoesOn K) (c now : Control) (names said : PipeId → Option N) (changes : List (PipeChange O I × S))
    (stay : (p : PipeId) → settlement_of now p ≡ None → settlement_of c p ≡ None) (pairs : next_pair c ≤ next_pair now) (names_made : (p : PipeId) (n : N) → names p ≡ Some n → p.pair.0 < next_pair c)
    (go : NamesGoOn K c now changes names said) (one : OneName (goes_in c names)) (ps : List (Place N I)) where
  -- an end at this place has pipes of the names that stand there
  abbrev IsNamedAt : ℕ → Type 0
  IsNamedAt k = (p : Place N I) → place_at ps k ≡ Some p → IsPlaceNamed said p

  abbrev capacity : PipeId → ℕ
  capacity = pipe_capacity now

  -- the names that pipes go by while these changes are to come
  abbrev goes : List (PipeChange O I × S) → PipeId → Option N
  goes xs p = unless_settled (settlement_of now p) (unless_to_make (made_last p xs) (names p) (said p))

  -- a pipe that goes by a name had it before, or was made since
  data Had (xs : List (PipeChange O I × S)) (p : PipeId) (n : N) : Type 0 where
    before : names p ≡ Some n → Had xs p n
    since : IsMade K c now changes p n → made_last p xs ≡ None → Had xs p n

  record Goes (xs : List (PipeChange O I × S)) (p : PipeId) (n : N) : Type 0 where
    unsettled : settlement_of now p ≡ None
    said_so : said p ≡ Some n
    had : Had xs p n

  going : (xs : List (PipeChange O I × S)) (p : PipeId) (n : N) → goes xs p ≡ Some n → Goes xs p n
  going xs p n e = by (settlement_of now p) (made_last p xs) (names p) refl refl refl e
    where
      by : (s : Option Settlement) (m : Option (ℕ × O)) (h : Option N) → settlement_of now p ≡ s → made_last p xs ≡ m → names p ≡ h → unless_settled s (unless_to_make m h (said p)) ≡ Some n → Goes xs p n
      by (Some s) m h es em eh g = absurd (none_some g)
      by None None None es em eh g = record { unsettled = es; said_so = g; had = since (go.more p n eh g) em }
      by None None (Some k) es em eh g = record { unsettled = es; said_so = g; had = before (eh ∙ sym (go.kept p k eh) ∙ g) }
      by None (Some x) None es em eh g = absurd (none_some g)
      by None (Some x) (Some k) es em eh g = record { unsettled = es; said_so = g; had = before (eh ∙ sym (go.kept p k eh) ∙ g) }

  goes_made : (xs : List (PipeChange O I × S)) (p : PipeId) (n : N) → settlement_of now p ≡ None → made_last p xs ≡ None → said p ≡ Some n → goes xs p ≡ Some n
  goes_made xs p n es em e = ap (λ (s : Option Settlement). unless_settled s (unless_to_make (made_last p xs) (names p) (said p))) es ∙ ap (λ (m : Option (ℕ × O)). unless_to_make m (names p) (said p)) em ∙ e

  goes_had : (xs : List (PipeChange O I × S)) (p : PipeId) (k n : N) → settlement_of now p ≡ None → names p ≡ Some k → said p ≡ Some n → goes xs p ≡ Some n
  goes_had xs p k n es eh e = by (made_last p xs) refl
    where
      by : (m : Option (ℕ × O)) → made_last p xs ≡ m → goes xs p ≡ Some n
      by None em = goes_made xs p n es em e
      by (Some x) em =
          ap (λ (s : Option Settlement). unless_settled s (unless_to_make (made_last p xs) (names p) (said p))) es
          ∙ ap (λ (m : Option (ℕ × O)). unless_to_make m (names p) (said p)) em ∙ ap (λ (h : Option N). unless_to_make (Some x) h (said p)) eh ∙ e

  same_goes : (xs ys : List (PipeChange O I × S)) (p : PipeId) → made_last p ys ≡ made_last p xs → goes ys p ≡ goes xs p
  same_goes xs ys p e = ap (λ (m : Option (ℕ × O)). unless_settled (settlement_of now p) (unless_to_make m (names p) (said p))) e

  -- the name of a pipe that is settled by now, and was not before, is that of no other
  gone_name : (xs : List (PipeChange O I × S)) (e : EndId) (m : N) → said e ≡ Some m → settlement_of c e ≡ None → (s : Settlement) → settlement_of now e ≡ Some s → (q : PipeId) (n : N) → goes xs q ≡ Some n → n ≢ m
  gone_name xs e m is unsettled s settled q n g same = by (going xs q n g).had (names e) refl
    where
      never : (settlement_of now e ≡ None) → ⊥
      never none = none_some (sym none ∙ settled)

      by : Had xs q n → (h : Option N) → names e ≡ h → ⊥
      by (since made em) h eh = never (made.settles_none e unsettled)
      by (before eq) None eh = never ((go.more e m eh is).settles_none e unsettled)
      by (before eq) (Some k) eh =
          let none = (going xs q n g).unsettled in
          let is_m : names e ≡ Some m = eh ∙ sym (go.kept e k eh) ∙ is in
          let is_e : q ≡ e = one q e n (goes_so c names q n (stay q none) eq) (goes_so c names e n unsettled (is_m ∙ ap Some (sym same))) in
          never (ap (settlement_of now) (sym is_e) ∙ none)

  -- a change that settles no pipe leaves all there
  sealed_keeps : (k : ℕ) (d : EndId) (items : List (O × Unit {0})) (old new : S) (n : N) → SealedBy K ps k d items old new → IsThere K old n → IsThere K new n
  sealed_keeps k d (lent ∷ back ∷ []) old new n puts there = puts.keeps.there n there
  sealed_keeps k d [] old new n puts there = absurd puts
  sealed_keeps k d (x ∷ []) old new n puts there = absurd puts
  sealed_keeps k d (x ∷ z ∷ w ∷ ws) old new n puts there = absurd puts

  parted_keeps : (k : ℕ) (d : EndId) (items : List (O × Unit {0})) (old new : S) (n : N) → PartedBy K ps k d items old new → IsThere K old n → IsThere K new n
  parted_keeps k d (lent ∷ back ∷ []) old new n puts there = puts.keeps.there n there
  parted_keeps k d [] old new n puts there = absurd puts
  parted_keeps k d (x ∷ []) old new n puts there = absurd puts
  parted_keeps k d (x ∷ z ∷ w ∷ ws) old new n puts there = absurd puts

  made_keeps : (held : ℕ) (items : List (O × I)) (old new : S) (n : N) → MadeWith K held items old new → IsThere K old n → IsThere K new n
  made_keeps held [] old new n puts there = absurd puts
  made_keeps held (x ∷ xs) old new n puts there = puts.1.there n there

  -- a pipe whose name is there is not made later, while none is settled
  module _ (kept : (q : PipeId) → settlement_of c q ≡ None → settlement_of now q ≡ None) (e : EndId) (y : ℕ × O) (n : N) (is : K.out_name y.1 ≡ n) (new : S) where
    not_made : (xs : List (PipeChange O I × S)) (d : EndId) (held : ℕ) (items : List (O × I)) (old s : S) → MadeWith K held items old s
        → option_or (made_last e xs) (if is_end d e then made_with held items else None) ≡ Some y → IsThere K old n → (made_last e xs ≡ Some y → ⊥) → ⊥
    not_made xs d held [] old s puts made there later = absurd puts
    not_made xs d held (z ∷ zs) old s puts made there later = by (made_last e xs) (is_end d e) refl made
      where
        by : (m : Option (ℕ × O)) (b : Bool) → made_last e xs ≡ m → option_or m (if b then Some (held, z.0) else None) ≡ Some y → ⊥
        by (Some x) b em g = later (em ∙ g)
        by None true em g = puts.0.is_new is_exact (subst (IsThere K old) (sym is ∙ ap K.out_name (sym (pairs_same (held, z.0) y g).1)) there)
        by None false em g = none_some g

    not_later : (xs : List (PipeChange O I × S)) (old : S) → AllByRecursion (λ x. IsOfPipes c now x.0) xs → DoesChanges K ps old xs new → made_last e xs ≡ Some y → IsThere K old n → ⊥
    not_later [] old are does made there = none_some made
    not_later ((Kept, s) ∷ xs) old are does made there = not_later xs s are.1 does.1 (sym (or_none (made_last e xs)) ∙ made) (does.0.there n there)
    not_later ((Made d held halves, s) ∷ xs) old are does made there =
        not_made xs d held halves.items old s does.0 made there (λ m. not_later xs s are.1 does.1 m (made_keeps held halves.items old s n does.0 there))
    not_later ((Sealed k d half, s) ∷ xs) old are does made there = not_later xs s are.1 does.1 (sym (or_none (made_last e xs)) ∙ made) (sealed_keeps k d half.items old s n does.0 there)
    not_later ((SealedAgain k d, s) ∷ xs) old are does made there = not_later xs s are.1 does.1 (sym (or_none (made_last e xs)) ∙ made) (subst (λ (u : S). IsThere K u n) (sym does.0.stays) there)
    not_later ((Parted k d half, s) ∷ xs) old are does made there = not_later xs s are.1 does.1 (sym (or_none (made_last e xs)) ∙ made) (parted_keeps k d half.items old s n does.0 there)
    not_later ((Settled k d, s) ∷ xs) old are does made there = true≢false (sym are.0.1 ∙ ap is_some (kept (read_through d) are.0.0))

  -- so a pipe of a pair that had no number got its delimiter once it was made: it is not made afterwards
  seal_first : (k : ℕ) (e : EndId) (xs : List (PipeChange O I × S)) (items : List (O × Unit {0})) (old s behind : S) → AllByRecursion (λ x. IsOfPipes c now x.0) xs → DoesChanges K ps s xs behind
      → ((p : PipeId) (y : ℕ × O) → made_last p xs ≡ Some y → made_last p changes ≡ Some y) → SealedBy K ps k e items old s → IsNamedAt k → next_pair c ≤ e.pair.0 → made_last e xs ≡ None
  seal_first k e xs (lent ∷ back ∷ []) old s behind are does rest puts here le = by (names e) (made_last e xs) refl refl
    where
      n : N
      n = K.out_name lent.0

      says : said e ≡ Some n
      says = written_is said ps k e puts.placed here n puts.pipe_is

      by : (h : Option N) (m : Option (ℕ × O)) → names e ≡ h → made_last e xs ≡ m → made_last e xs ≡ None
      by (Some m) y eh em = absurd (let lt = names_made e m eh in omega (arith, lt, le))
      by None None eh em = em
      by None (Some y) eh em =
          let mine = go.more e n eh says in
          let is_it = some_same y (mine.capacity, mine.half) (sym (rest e y em) ∙ mine.made) in
          absurd (not_later mine.settles_none e y n (ap (λ (z : ℕ × O). K.out_name z.1) is_it ∙ mine.name_is) behind xs s are does em (puts.keeps.there n puts.there))
  seal_first k e xs [] old s behind are does rest puts here le = absurd puts
  seal_first k e xs (x ∷ []) old s behind are does rest puts here le = absurd puts
  seal_first k e xs (x ∷ y ∷ z ∷ zs) old s behind are does rest puts here le = absurd puts

  -- the steps past, by the pipes that go by names while these changes are to come, are at pipes of pairs that have their numbers, and at none that is to be made
  record Went (xs : List (PipeChange O I × S)) (pipes : S) (past : List PipeStep) : Type 0 where
    one_name : OneName (goes xs)
    past_is : IsPast K (goes xs) capacity pipes past
    made : AllByRecursion (λ s. (pipe_at s).pair.0 < next_pair now) past
    untouched : (p : PipeId) (y : ℕ × O) → next_pair c ≤ p.pair.0 → made_last p xs ≡ Some y → HasNoStep p past
    rest : (p : PipeId) (y : ℕ × O) → made_last p xs ≡ Some y → made_last p changes ≡ Some y

  -- a change that makes no pipe
  went_on : (x : PipeChange O I × S) (xs : List (PipeChange O I × S)) (pipes : S) (past : List PipeStep) → ((p : PipeId) → made_last p (x ∷ xs) ≡ option_or (made_last p xs) None) → Went (x ∷ xs) pipes past → Went xs pipes past
  went_on x xs pipes past none went = record {
    one_name = one_fewer (goes (x ∷ xs)) (goes xs) were went.one_name;
    past_is = fewer_past K (goes (x ∷ xs)) (goes xs) capacity pipes past were went.past_is;
    made = went.made;
    untouched = λ p y lt e. went.untouched p y lt (same p ∙ e);
    rest = λ p y e. went.rest p y (same p ∙ e);
  }
    where
      same : (p : PipeId) → made_last p (x ∷ xs) ≡ made_last p xs
      same p = none p ∙ or_none (made_last p xs)

      were : (p : PipeId) (n : N) → goes xs p ≡ Some n → goes (x ∷ xs) p ≡ Some n
      were p n g = same_goes xs (x ∷ xs) p (same p) ∙ g

  with_past : (xs : List (PipeChange O I × S)) (old new : S) (past : List PipeStep) → IsPast K (goes xs) capacity new past → Went xs old past → Went xs new past
  with_past xs old new past is went = record { one_name = went.one_name; past_is = is; made = went.made; untouched = went.untouched; rest = went.rest }

  -- a pipe is made
  module _ (e : EndId) (held : ℕ) (halves : List (O × I)) (x : PipeChange O I × S) (xs : List (PipeChange O I × S)) (old new : S) (past : List PipeStep)
      (lasts : (p : PipeId) → made_last p (x ∷ xs) ≡ option_or (made_last p xs) (if is_end e p then made_with held halves else None)) (went : Went (x ∷ xs) old past) where
    elsewhere : (p : PipeId) → is_end e p ≡ false → made_last p (x ∷ xs) ≡ made_last p xs
    elsewhere p h = lasts p ∙ ap (λ (b : Bool). option_or (made_last p xs) (if b then made_with held halves else None)) h ∙ or_none (made_last p xs)

    still_made : (p : PipeId) (y : ℕ × O) → made_last p xs ≡ Some y → made_last p (x ∷ xs) ≡ Some y
    still_made p y h = lasts p ∙ ap (λ (m : Option (ℕ × O)). option_or m (if is_end e p then made_with held halves else None)) h

    made_so : (more : PipeId → Option N) → ((p : PipeId) (n : N) → goes xs p ≡ Some n → more p ≡ Some n) → OneName more → IsPast K more capacity new past → Went xs new past
    made_so more were is_one is = record {
      one_name = one_fewer more (goes xs) were is_one;
      past_is = fewer_past K more (goes xs) capacity new past were is;
      made = went.made;
      untouched = λ p y lt h. went.untouched p y lt (still_made p y h);
      rest = λ p y h. went.rest p y (still_made p y h);
    }

    -- it is one that goes by a name no more than before
    no_name : KeepsAll K old new → ((n : N) → goes xs e ≡ Some n → goes (x ∷ xs) e ≡ Some n) → Went xs new past
    no_name keeps here = made_so (goes (x ∷ xs)) were went.one_name (law.kept (goes (x ∷ xs)) capacity old new past keeps went.past_is)
      where
        were : (p : PipeId) (n : N) → goes xs p ≡ Some n → goes (x ∷ xs) p ≡ Some n
        were p n g = by (is_end e p) refl
          where
            by : (b : Bool) → is_end e p ≡ b → goes (x ∷ xs) p ≡ Some n
            by true h = subst (λ (q : PipeId). goes (x ∷ xs) q ≡ Some n) (same_end e p h) (here n (subst (λ (q : PipeId). goes xs q ≡ Some n) (sym (same_end e p h)) g))
            by false h = same_goes xs (x ∷ xs) p (elsewhere p h) ∙ g

    -- or goes by its name from now on
    with_name : (half : O × I) → made_with held halves ≡ Some (held, half.0) → MakesPipe K held half.0 half.1 old new → KeepsAll K old new → made_last e xs ≡ None → (n : N) → said e ≡ Some n → IsMade K c now changes e n → Went xs new past
    with_name half is makes keeps last n says mine = made_so (goes_with e (K.out_name half.0) (goes (x ∷ xs))) were both.1 both.0
      where
        made_now : made_last e (x ∷ xs) ≡ Some (held, half.0)
        made_now =
            lasts e ∙ ap (λ (m : Option (ℕ × O)). option_or m (if is_end e e then made_with held halves else None)) last
            ∙ ap (λ (b : Bool). if b then made_with held halves else None) (end_self e) ∙ is

        is_it : (held ≡ mine.capacity) × (half.0 ≡ mine.half)
        is_it = pairs_same (held, half.0) (mine.capacity, mine.half) (sym (went.rest e (held, half.0) made_now) ∙ mine.made)

        name : K.out_name half.0 ≡ n
        name = ap K.out_name is_it.1 ∙ mine.name_is

        both : IsPast K (goes_with e (K.out_name half.0) (goes (x ∷ xs))) capacity new past × OneName (goes_with e (K.out_name half.0) (goes (x ∷ xs)))
        both = law.made (goes (x ∷ xs)) capacity old new past e half.0 half.1 went.one_name (subst (λ (m : ℕ). MakesPipe K m half.0 half.1 old new) (is_it.0 ∙ mine.holds) makes) keeps
            (went.untouched e (held, half.0) mine.drawn made_now) went.past_is

        were : (p : PipeId) (m : N) → goes xs p ≡ Some m → goes_with e (K.out_name half.0) (goes (x ∷ xs)) p ≡ Some m
        were p m g = by (is_end p e) refl
          where
            by : (b : Bool) → is_end p e ≡ b → (if b then Some (K.out_name half.0) else goes (x ∷ xs) p) ≡ Some m
            by true h = ap Some (name ∙ some_same n m (sym says ∙ ap said (sym (same_end p e h)) ∙ (going xs p m g).said_so))
            by false h = same_goes xs (x ∷ xs) p (elsewhere p (other_way p e h)) ∙ g

  make_goes : (e : EndId) (held : ℕ) (halves : List (O × I)) (x : PipeChange O I × S) (xs : List (PipeChange O I × S)) (old new : S) (past : List PipeStep)
      → ((p : PipeId) → made_last p (x ∷ xs) ≡ option_or (made_last p xs) (if is_end e p then made_with held halves else None)) → MadeWith K held halves old new → Went (x ∷ xs) old past → Went xs new past
  make_goes e held [] x xs old new past lasts makes went = absurd makes
  make_goes e held (half ∷ halves) x xs old new past lasts makes went = by (made_last e xs) (names e) (said e) refl refl refl
    where
      no_more : ((n : N) → goes xs e ≡ Some n → goes (x ∷ xs) e ≡ Some n) → Went xs new past
      no_more = no_name e held (half ∷ halves) x xs old new past lasts went makes.1

      by : (m : Option (ℕ × O)) (h s : Option N) → made_last e xs ≡ m → names e ≡ h → said e ≡ s → Went xs new past
      by (Some y) h s em eh es = no_more (λ n g. same_goes xs (x ∷ xs) e (still_made e held (half ∷ halves) x xs old new past lasts went e y em ∙ sym em) ∙ g)
      by None (Some k) s em eh es = no_more (λ n g. let is = going xs e n g in goes_had (x ∷ xs) e k n is.unsettled eh is.said_so)
      by None None None em eh es = no_more (λ n g. absurd (none_some (sym es ∙ (going xs e n g).said_so)))
      by None None (Some n) em eh es = with_name e held (half ∷ halves) x xs old new past lasts went half refl makes.0 makes.1 em n es (go.more e n eh es)

  -- a delimiter is written
  seal_goes : (k : ℕ) (e : EndId) (xs : List (PipeChange O I × S)) (items : List (O × Unit {0})) (old new : S) (past : List PipeStep) → settlement_of now e ≡ None → (next_pair c ≤ e.pair.0 → made_last e xs ≡ None)
      → SealedBy K ps k e items old new → IsNamedAt k → Went xs old past → Went xs new (past ++ Seal e ∷ [])
  seal_goes k e xs (lent ∷ back ∷ []) old new past unsettled first puts here went = record {
    one_name = went.one_name;
    past_is = law.sealed (goes xs) capacity old new past e lent.0 back.0 went.one_name goes_now.0 puts.unsealed puts.delimiter puts.keeps went.past_is;
    made = all_both (λ s. (pipe_at s).pair.0 < next_pair now) past (Seal e ∷ []) went.made (goes_now.1, tt);
    untouched = λ p y lt h. all_both (λ s. same_pipe p (pipe_at s) ≡ false) past (Seal e ∷ []) (went.untouched p y lt h) (apart p y lt h (same_pipe p e) refl, tt);
    rest = went.rest;
  }
    where
      n : N
      n = K.out_name lent.0

      says : said e ≡ Some n
      says = written_is said ps k e puts.placed here n puts.pipe_is

      goes_now : (goes xs e ≡ Some n) × (e.pair.0 < next_pair now)
      goes_now = by (names e) refl
        where
          by : (h : Option N) → names e ≡ h → (goes xs e ≡ Some n) × (e.pair.0 < next_pair now)
          by (Some m) eh = (goes_had xs e m n unsettled eh says, let lt = names_made e m eh in omega (arith, lt, pairs))
          by None eh = let is = go.more e n eh says in (goes_made xs e n unsettled (first is.drawn) says, is.numbered)

      apart : (p : PipeId) (y : ℕ × O) → next_pair c ≤ p.pair.0 → made_last p xs ≡ Some y → (b : Bool) → same_pipe p e ≡ b → b ≡ false
      apart p y lt h false g = refl
      apart p y lt h true g = let is_e = same_pipes p e g in absurd (none_some (sym (first (subst (λ (q : PipeId). next_pair c ≤ q.pair.0) is_e lt)) ∙ ap (λ (q : PipeId). made_last q xs) (sym is_e) ∙ h))
  seal_goes k e xs [] old new past unsettled first puts here went = absurd puts
  seal_goes k e xs (x ∷ []) old new past unsettled first puts here went = absurd puts
  seal_goes k e xs (x ∷ y ∷ z ∷ zs) old new past unsettled first puts here went = absurd puts

  -- parts are rolled back, of a pipe that goes by its name or does not
  parts_go : (k : ℕ) (e : EndId) (xs : List (PipeChange O I × S)) (items : List (O × Unit {0})) (old new behind : S) (past : List PipeStep) → settlement_of c e ≡ None → AllByRecursion (λ x. IsOfPipes c now x.0) xs → DoesChanges K ps new xs behind
      → PartedBy K ps k e items old new → IsNamedAt k → Went xs old past → Went xs new past
  parts_go k e xs (lent ∷ back ∷ []) old new behind past unsettled are rest puts here went = with_past xs old new past (by (settlement_of now e) (names e) (made_last e xs) refl refl refl) went
    where
      n : N
      n = K.out_name lent.0

      says : said e ≡ Some n
      says = written_is said ps k e puts.placed here n puts.pipe_is

      but_pipe : KeepsButPipe K n old new
      but_pipe = record { there = puts.keeps.there; outs = puts.keeps.outs; ins = λ i there other. puts.keeps.ins i there }

      with_it : goes xs e ≡ Some n → IsPast K (goes xs) capacity new past
      with_it g = law.parted (goes xs) capacity old new past e lent.0 back.0 went.one_name g puts.forgets puts.keeps went.past_is

      without_it : ((q : PipeId) (m : N) → goes xs q ≡ Some m → m ≢ n) → IsPast K (goes xs) capacity new past
      without_it others = law.fewer (goes xs) (goes xs) capacity old new past n (record { were = λ q m g. g; others = others }) but_pipe went.past_is

      by : (s : Option Settlement) (h : Option N) (m : Option (ℕ × O)) → settlement_of now e ≡ s → names e ≡ h → made_last e xs ≡ m → IsPast K (goes xs) capacity new past
      by (Some s) h m es eh em = without_it (gone_name xs e n says unsettled s es)
      by None (Some j) m es eh em = with_it (goes_had xs e j n es eh says)
      by None None None es eh em = with_it (goes_made xs e n es em says)
      by None None (Some y) es eh em =
          let mine = go.more e n eh says in
          let is_it = some_same y (mine.capacity, mine.half) (sym (went.rest e y em) ∙ mine.made) in
          without_it (λ q m g same. not_later mine.settles_none e y n (ap (λ (z : ℕ × O). K.out_name z.1) is_it ∙ mine.name_is) behind xs new are rest em (puts.keeps.there n (subst (IsThere K old) same (went.past_is.stands q m g).there)))
  parts_go k e xs [] old new behind past unsettled are rest puts here went = absurd puts
  parts_go k e xs (x ∷ []) old new behind past unsettled are rest puts here went = absurd puts
  parts_go k e xs (x ∷ y ∷ z ∷ zs) old new behind past unsettled are rest puts here went = absurd puts

  -- a pipe is settled
  settle_goes : (k : ℕ) (e : EndId) (xs : List (PipeChange O I × S)) (old new : S) (past : List PipeStep) → settlement_of c (read_through e) ≡ None → is_some (settlement_of now (read_through e)) ≡ true → SettlesPipe K ps k e old new
      → IsNamedAt k → Went xs old past → Went xs new past
  settle_goes k e xs old new past unsettled settled does here went = with_past xs old new past (by (settlement_of now (read_through e)) refl settled) went
    where
      at : Stood ps k
      at = stood ps k does.placed.within

      name : said (read_through e) ≡ Some at.place.read
      name = subst (λ (d : EndId). said (read_through d) ≡ Some at.place.read) (does.placed.end_is at.place at.there) (here at.place at.there).1

      by : (s : Option Settlement) → settlement_of now (read_through e) ≡ s → is_some s ≡ true → IsPast K (goes xs) capacity new past
      by None h some = absurd (true≢false (sym some))
      by (Some s) h some = law.fewer (goes xs) (goes xs) capacity old new past at.place.read
          (record { were = λ q n g. g; others = gone_name xs (read_through e) at.place.read name unsettled s h }) (does.keeps at.place at.there) went.past_is

  all_go : (xs : List (PipeChange O I × S)) (old new : S) (past : List PipeStep) → AllByRecursion (λ x. IsOfPipes c now x.0) xs → AreChangesNamed said ps xs → DoesChanges K ps old xs new → Went xs old past → Went [] new (past ++ map Seal (delimited_in xs))
  all_go [] old new past are names_are does went = subst (λ (l : List PipeStep). Went [] new l) (sym (append-nil past)) (subst (λ (s : S). Went [] s past) (sym does) went)
  all_go ((Kept, s) ∷ xs) old new past are names_are does went =
      let on = went_on (Kept, s) xs old past (λ p. refl) went in
      all_go xs s new past are.1 names_are.1 does.1 (with_past xs old s past (law.kept (goes xs) capacity old s past does.0 on.past_is) on)
  all_go ((Made e n halves, s) ∷ xs) old new past are names_are does went =
      all_go xs s new past are.1 names_are.1 does.1 (make_goes e n halves.items (Made e n halves, s) xs old s past (λ p. refl) does.0 went)
  all_go ((Sealed k e half, s) ∷ xs) old new past are names_are does went =
      let on = went_on (Sealed k e half, s) xs old past (λ p. refl) went in
      subst (λ (l : List PipeStep). Went [] new l) (append_assoc past (Seal e ∷ []) (map Seal (delimited_in xs)))
      (all_go xs s new (past ++ Seal e ∷ []) are.1 names_are.1 does.1 (seal_goes k e xs half.items old s past are.0 (seal_first k e xs half.items old s new are.1 does.1 on.rest does.0 (names_are.0 (omega arith))) does.0 (names_are.0 (omega arith)) on))
  all_go ((SealedAgain k e, s) ∷ xs) old new past are names_are does went =
      all_go xs s new past are.1 names_are.1 does.1 (subst (λ (t : S). Went xs t past) (sym does.0.stays) (went_on (SealedAgain k e, s) xs old past (λ p. refl) went))
  all_go ((Parted k e half, s) ∷ xs) old new past are names_are does went =
      all_go xs s new past are.1 names_are.1 does.1 (parts_go k e xs half.items old s new past are.0 are.1 does.1 does.0 (names_are.0 (omega arith)) (went_on (Parted k e half, s) xs old past (λ p. refl) went))
  all_go ((Settled k e, s) ∷ xs) old new past are names_are does went =
      all_go xs s new past are.1 names_are.1 does.1 (settle_goes k e xs old s past are.0.0 are.0.1 does.0 (names_are.0 (omega arith)) (went_on (Settled k e, s) xs old past (λ p. refl) went))

  -- ---- before the first of them

  had_before : (p : PipeId) (n : N) → goes changes p ≡ Some n → (goes_in c names p ≡ Some n) × (names p ≡ Some n)
  had_before p n g = by (going changes p n g).had
    where
      by : Had changes p n → (goes_in c names p ≡ Some n) × (names p ≡ Some n)
      by (before h) = (goes_so c names p n (stay p (going changes p n g).unsettled) h, h)
      by (since is none) = absurd (none_some (sym none ∙ is.made))

-- pairs that have their numbers have them still
still_numbered : {X : Type 0} (f : X → ℕ) (m n : ℕ) → m ≤ n → (xs : List X) → AllByRecursion (λ x. f x < m) xs → AllByRecursion (λ x. f x < n) xs
still_numbered f m n le [] all = tt
still_numbered f m n le (x ∷ xs) all = (let a = all.0 in omega (arith, a, le), still_numbered f m n le xs all.1)

-- no step was made at a pipe of a pair without a number
none_at : (n : ℕ) (p : PipeId) → n ≤ p.pair.0 → (past : List PipeStep) → AllByRecursion (λ s. (pipe_at s).pair.0 < n) past → HasNoStep p past
none_at n p le [] all = tt
none_at n p le (s ∷ past) all = (by (same_pipe p (pipe_at s)) refl, none_at n p le past all.1)
  where
    by : (b : Bool) → same_pipe p (pipe_at s) ≡ b → b ≡ false
    by false g = refl
    by true g = let lt = subst (λ (q : PipeId). q.pair.0 < n) (sym (same_pipes p (pipe_at s) g)) all.0 in absurd (omega (arith, lt, le))

pub changes_go_on : {S O I N : Type 0} (K : Known S O I N) (T : Type 0) → K.exact ≡ true → PastGoesOn K → PastStaysOver K N T → ChangesGoOn K T
changes_go_on {S} {O} {I} {N} K T is_exact law over io items more run on names said names_made ps changes named old new past go are does stands =
    record { past_is = went.past_is; one_name = went.one_name; made = went.made }
  where
    c : Control
    c = after_all items (begun io)

    now : Control
    now = after_all more c

    pairs : next_pair c ≤ next_pair now
    pairs = (grows more c (grows items (begun io) (begun_is io) run).1 on).0.pairs

    had : (p : PipeId) (n : N) → goes K is_exact law c now names said changes (settled_stay more c) pairs names_made go stands.one_name ps changes p ≡ Some n → (goes_in c names p ≡ Some n) × (names p ≡ Some n)
    had = had_before K is_exact law c now names said changes (settled_stay more c) pairs names_made go stands.one_name ps

    begins : Went K is_exact law c now names said changes (settled_stay more c) pairs names_made go stands.one_name ps changes old past
    begins = record {
      one_name = λ p q n x y. stands.one_name p q n (had p n x).0 (had q n y).0;
      past_is = over io items more run on _ old past (λ p n g. names_made p n (had p n g).1) stands.made (fewer_past K (goes_in c names) _ (pipe_capacity c) old past (λ p n g. (had p n g).0) stands.past_is);
      made = still_numbered (λ s. (pipe_at s).pair.0) (next_pair c) (next_pair now) pairs past stands.made;
      untouched = λ p y le e. none_at (next_pair c) p le past stands.made;
      rest = λ p y e. e;
    }

    went : Went K is_exact law c now names said changes (settled_stay more c) pairs names_made go stands.one_name ps [] new (past ++ map Seal (delimited_in changes))
    went = all_go K is_exact law c now names said changes (settled_stay more c) pairs names_made go stands.one_name ps changes old new past are named does begins
