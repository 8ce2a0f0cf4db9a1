-- Each message of a settled pipe has one named fate where the settlement counts the takes and what is left, and the counts of its row add up.
use Rattle.std.proofs.Common.{◌≡◌, ◌∙◌, ◌+◌, ℕ, zero, suc, List, [], ◌∷◌, ◌++◌, Bool, true, false, not, length, drop, refl, sym, subst, ap, arith, length-append}
use Rattle.std.specs.Prelude.{◌==◌, ◌&&◌, ◌<◌, ◌≤◌, Option, Some, None, IsSome, cond, find, filter, flat_map, map, replicate}
use Rattle.std.specs.List.{list_all}
use Rattle.std.proofs.lemmas.Bool.{eqb-true}
use Rattle.std.proofs.lemmas.List.{length-replicate}
use Rattle.std.proofs.lemmas.List.Elements.{filter_map-append}
use Rattle.std.proofs.lemmas.List.Folds.{list_all-append}
use Rattle.zq_base.specs.Message.{Frames}
use Rattle.zq_base.specs.Ends.{PipeId, other_end}
use Rattle.zq_base.specs.declared.ids.EndId.{EndId}
use Rattle.spec_pattern.specs.PipeStep.{PipeStep, Commit, FullLook, RoomLook, Take, EmptyLook, DelimiterLook, WaitingLook, Seal, same_pipe, committed_to, taken_from, taken_by}
use Rattle.spec_pattern.specs.declared.answers.Skip.{Skip}
use Rattle.spec_control.specs.declared.end.Reason.{Reason}
use Rattle.spec_control.specs.Control.{Control, Settlement, is_end, end_of, same_side}
use Rattle.spec_run.specs.Act.{Deed, acts_of, all_acts, steps_in, pipe_step_of}
use Rattle.spec_run.specs.OwnedRun.{OwnedRun, all_deeds, all_steps, settlement_of, IsSettledSo, AllSettledSo}
use Rattle.spec_run.specs.Fate.{Fate, IsGiven, IsHeard, IsDropped, IsWritten, IsLost, IsLeft, fate_taken, fates_taken, skips_of, rest_of, most_unfated, is_named_fate, fates_in, fates_left, fates_of, is_heard_at, count_sent, is_fate_given, is_fate_heard, is_fate_dropped, is_fate_written, is_fate_lost, is_fate_left, HaveOneFate}
use Rattle.spec_run.proofs.PlainLemmas.{never}

-- each fate is counted once
fates_counted : (fs : List Fate) → length fs ≡ length (filter is_fate_given fs) + length (filter is_fate_heard fs)
    + length (filter is_fate_dropped fs) + length (filter is_fate_written fs) + length (filter is_fate_lost fs) + length (filter is_fate_left fs)
fates_counted [] = refl
fates_counted (IsGiven ∷ fs) = omega (arith, fates_counted fs)
fates_counted (IsHeard ∷ fs) = omega (arith, fates_counted fs)
fates_counted (IsDropped rule ∷ fs) = omega (arith, fates_counted fs)
fates_counted (IsWritten ∷ fs) = omega (arith, fates_counted fs)
fates_counted (IsLost ∷ fs) = omega (arith, fates_counted fs)
fates_counted (IsLeft reason ∷ fs) = omega (arith, fates_counted fs)

-- one fate for each message taken
fates_length : (hears : Bool) (p : PipeId) (steps : List PipeStep) (skips : List Skip) → length (fates_taken hears p steps skips) ≡ length (taken_from p steps)
fates_length hears p [] skips = refl
fates_length hears p (Commit q m ∷ steps) skips = fates_length hears p steps skips
fates_length hears p (FullLook q ∷ steps) skips = fates_length hears p steps skips
fates_length hears p (RoomLook q ∷ steps) skips = fates_length hears p steps skips
fates_length hears p (Take q m ∷ steps) skips = by (same_pipe p q) refl (fates_length hears p steps (drop 1 skips))
  where
    by : (b : Bool) → same_pipe p q ≡ b → length (fates_taken hears p steps (drop 1 skips)) ≡ length (taken_from p steps)
        → length (fates_taken hears p (Take q m ∷ steps) skips) ≡ length (taken_from p (Take q m ∷ steps))
    by true e rest = rw e (ap suc rest)
    by false e rest = rw e rest
fates_length hears p (EmptyLook q ∷ steps) skips = fates_length hears p steps skips
fates_length hears p (DelimiterLook q ∷ steps) skips = fates_length hears p steps skips
fates_length hears p (WaitingLook q ∷ steps) skips = fates_length hears p steps skips
fates_length hears p (Seal q ∷ steps) skips = fates_length hears p steps skips

deeds_length : {N S : Type 0} (hears : Bool) (p : PipeId) (ds : List (Deed N S)) → length (flat_map (fates_in hears p) ds) ≡ length (taken_from p (steps_in (all_acts ds)))
deeds_length hears p [] = refl
deeds_length hears p (d ∷ ds) =
    rw (length-append, filter_map-append pipe_step_of (acts_of d) (all_acts ds), filter_map-append (taken_by p) (steps_in (acts_of d)) (steps_in (all_acts ds)), length-append, fates_length hears p (steps_in (acts_of d)), deeds_length hears p ds) refl

-- ---- what is taken has a name and is not left, and what is left has its reason

named_taken : (hears : Bool) (skips : List Skip) → is_named_fate (fate_taken hears skips) ≡ true
named_taken true skips = refl
named_taken false [] = refl
named_taken false (skip ∷ skips) = refl

taken_unleft : (hears : Bool) (skips : List Skip) → is_fate_left (fate_taken hears skips) ≡ false
taken_unleft true skips = refl
taken_unleft false [] = refl
taken_unleft false (skip ∷ skips) = refl

fates_named : (hears : Bool) (p : PipeId) (steps : List PipeStep) (skips : List Skip) → list_all is_named_fate (fates_taken hears p steps skips) ≡ true
fates_named hears p [] skips = refl
fates_named hears p (Commit q m ∷ steps) skips = fates_named hears p steps skips
fates_named hears p (FullLook q ∷ steps) skips = fates_named hears p steps skips
fates_named hears p (RoomLook q ∷ steps) skips = fates_named hears p steps skips
fates_named hears p (Take q m ∷ steps) skips = by (same_pipe p q) refl (fates_named hears p steps (drop 1 skips))
  where
    by : (b : Bool) → same_pipe p q ≡ b → list_all is_named_fate (fates_taken hears p steps (drop 1 skips)) ≡ true
        → list_all is_named_fate (fates_taken hears p (Take q m ∷ steps) skips) ≡ true
    by true e rest = rw e (ap (λ (b : Bool). b && list_all is_named_fate (fates_taken hears p steps (drop 1 skips))) (named_taken hears skips) ∙ rest)
    by false e rest = rw e rest
fates_named hears p (EmptyLook q ∷ steps) skips = fates_named hears p steps skips
fates_named hears p (DelimiterLook q ∷ steps) skips = fates_named hears p steps skips
fates_named hears p (WaitingLook q ∷ steps) skips = fates_named hears p steps skips
fates_named hears p (Seal q ∷ steps) skips = fates_named hears p steps skips

deeds_named : {N S : Type 0} (hears : Bool) (p : PipeId) (ds : List (Deed N S)) → list_all is_named_fate (flat_map (fates_in hears p) ds) ≡ true
deeds_named hears p [] = refl
deeds_named hears p (d ∷ ds) =
    list_all-append is_named_fate (fates_in hears p d) (flat_map (fates_in hears p) ds)
    ∙ (ap (λ (b : Bool). b && list_all is_named_fate (flat_map (fates_in hears p) ds)) (fates_named hears p (steps_in (acts_of d)) (skips_of d)) ∙ deeds_named hears p ds)

left_named : (n : ℕ) (reason : Option Reason) → (0 < n → IsSome reason) → list_all is_named_fate (replicate n (IsLeft reason)) ≡ true
left_named zero reason h = refl
left_named (suc n) None h = absurd (never (h (omega arith)))
left_named (suc n) (Some reason) h = left_named n (Some reason) (λ lt. refl)

-- a message that was taken is not left
abbrev never_left : Frames → Bool
never_left m = false

map_over : {X Y : Type 0} (f : X → Y) (xs ys : List X) → map f (xs ++ ys) ≡ map f xs ++ map f ys
map_over f [] ys = refl
map_over {Y = Y} f (x ∷ xs) ys = ap (λ (zs : List Y). f x ∷ zs) (map_over f xs ys)

fates_unleft : (hears : Bool) (p : PipeId) (steps : List PipeStep) (skips : List Skip) → map is_fate_left (fates_taken hears p steps skips) ≡ map never_left (taken_from p steps)
fates_unleft hears p [] skips = refl
fates_unleft hears p (Commit q m ∷ steps) skips = fates_unleft hears p steps skips
fates_unleft hears p (FullLook q ∷ steps) skips = fates_unleft hears p steps skips
fates_unleft hears p (RoomLook q ∷ steps) skips = fates_unleft hears p steps skips
fates_unleft hears p (Take q m ∷ steps) skips = by (same_pipe p q) refl (fates_unleft hears p steps (drop 1 skips))
  where
    by : (b : Bool) → same_pipe p q ≡ b → map is_fate_left (fates_taken hears p steps (drop 1 skips)) ≡ map never_left (taken_from p steps)
        → map is_fate_left (fates_taken hears p (Take q m ∷ steps) skips) ≡ map never_left (taken_from p (Take q m ∷ steps))
    by true e rest =
        rw e (ap (λ (b : Bool). b ∷ map is_fate_left (fates_taken hears p steps (drop 1 skips))) (taken_unleft hears skips) ∙ ap (λ (bs : List Bool). false ∷ bs) rest)
    by false e rest = rw e rest
fates_unleft hears p (EmptyLook q ∷ steps) skips = fates_unleft hears p steps skips
fates_unleft hears p (DelimiterLook q ∷ steps) skips = fates_unleft hears p steps skips
fates_unleft hears p (WaitingLook q ∷ steps) skips = fates_unleft hears p steps skips
fates_unleft hears p (Seal q ∷ steps) skips = fates_unleft hears p steps skips

deeds_unleft : {N S : Type 0} (hears : Bool) (p : PipeId) (ds : List (Deed N S)) → map is_fate_left (flat_map (fates_in hears p) ds) ≡ map never_left (taken_from p (steps_in (all_acts ds)))
deeds_unleft hears p [] = refl
deeds_unleft hears p (d ∷ ds) =
    rw (map_over is_fate_left (fates_in hears p d) (flat_map (fates_in hears p) ds), filter_map-append pipe_step_of (acts_of d) (all_acts ds), filter_map-append (taken_by p) (steps_in (acts_of d)) (steps_in (all_acts ds)), map_over never_left (taken_from p (steps_in (acts_of d))) (taken_from p (steps_in (all_acts ds))), fates_unleft hears p (steps_in (acts_of d)) (skips_of d), deeds_unleft hears p ds) refl

all_unleft : (ms : List Frames) → map never_left ms ≡ replicate (length ms) false
all_unleft [] = refl
all_unleft (m ∷ ms) = ap (λ (bs : List Bool). false ∷ bs) (all_unleft ms)

all_left : (n : ℕ) (reason : Option Reason) → map is_fate_left (replicate n (IsLeft reason)) ≡ replicate n true
all_left zero reason = refl
all_left (suc n) reason = ap (λ (bs : List Bool). true ∷ bs) (all_left n reason)

-- ---- the settlement that is found

none_some : {X : Type 0} {x : X} → None ≡ Some x → ⊥
none_some e = Prim.grind arith

some_is : {X : Type 0} {x y : X} → Some x ≡ Some y → x ≡ y
some_is e = Prim.grind arith

both : (a b : Bool) → (a && b) ≡ true → (a ≡ true) × (b ≡ true)
both true true h = (refl, refl)
both true false h = absurd (never h)
both false b h = absurd (never h)

side_is : (a b : Bool) → same_side a b ≡ true → a ≡ b
side_is true true h = refl
side_is true false h = absurd (never h)
side_is false true h = absurd (never h)
side_is false false h = refl

not_twice : (a : Bool) → not (not a) ≡ a
not_twice true = refl
not_twice false = refl

-- the test of two ends tells that they are one
is_one_end : (d e : EndId) → is_end d e ≡ true → d ≡ e
is_one_end d e h =
    let sides = both (d.pair.0 == e.pair.0) (same_side d.a e.a) h in
    ap (λ (n : ℕ). end_of n d.a) (eqb-true d.pair.0 e.pair.0 sides.0) ∙ ap (end_of e.pair.0) (side_is d.a e.a sides.1)

other_twice : (p : PipeId) → other_end (other_end p) ≡ p
other_twice p = ap (λ (a : Bool). end_of p.pair.0 a) (not_twice p.a)

-- a settlement of this pipe, among those that count their pipes' steps
record IsFound {N S : Type 0} (run : OwnedRun N S) (p : PipeId) (s : Settlement) : Type 0 where
  of_pipe : is_end (other_end p) s.end ≡ true
  counts : IsSettledSo run s

found_in : {N S : Type 0} (run : OwnedRun N S) (p : PipeId) (ss : List Settlement) → AllSettledSo run ss → (s : Settlement)
    → find (λ x. is_end (other_end p) x.end) ss ≡ Some s → IsFound run p s
found_in run p [] all s e = absurd (none_some e)
found_in run p (x ∷ xs) all s e = by (is_end (other_end p) x.end) refl (λ h. found_in run p xs all.1 s h)
  where
    by : (b : Bool) → is_end (other_end p) x.end ≡ b → (find (λ y. is_end (other_end p) y.end) xs ≡ Some s → IsFound run p s) → IsFound run p s
    by true h rest =
        let same : x ≡ s = some_is (subst (λ (b : Bool). cond b (Some x) (find (λ y. is_end (other_end p) y.end) xs) ≡ Some s) h e) in
        subst (IsFound run p) same (record { of_pipe = h; counts = all.0 })
    by false h rest = rest (subst (λ (b : Bool). cond b (Some x) (find (λ y. is_end (other_end p) y.end) xs) ≡ Some s) h e)

-- as many fates as messages, where the settlement is this one
fates_are : {N S : Type 0} (c : Control) (run : OwnedRun N S) (p : PipeId) (s : Settlement) → IsFound run p s
    → length (flat_map (fates_in (is_heard_at c p) p) (all_deeds run) ++ fates_left (Some s)) ≡ count_sent run p
fates_are c run p s f =
    let same : other_end s.end ≡ p = ap other_end (sym (is_one_end (other_end p) s.end f.of_pipe)) ∙ other_twice p in
    let sent : s.counts.sent ≡ length (committed_to p (all_steps run)) = f.counts.sent ∙ ap (λ (q : PipeId). length (committed_to q (all_steps run))) same in
    let got : s.counts.got ≡ length (taken_from p (all_steps run)) = f.counts.got ∙ ap (λ (q : PipeId). length (taken_from q (all_steps run))) same in
    let sum = f.counts.sum in
    let taken = deeds_length (is_heard_at c p) p (all_deeds run) in
    let left = length-replicate s.counts.rest (IsLeft s.reason) in
    let whole = length-append (flat_map (fates_in (is_heard_at c p) p) (all_deeds run)) (fates_left (Some s)) in
    omega (arith, sent, got, sum, taken, left, whole)

-- each has a name, where the settlement is this one
all_named : {N S : Type 0} (c : Control) (run : OwnedRun N S) (p : PipeId) (s : Settlement) → IsSettledSo run s
    → list_all is_named_fate (flat_map (fates_in (is_heard_at c p) p) (all_deeds run) ++ fates_left (Some s)) ≡ true
all_named c run p s counts =
    list_all-append is_named_fate (flat_map (fates_in (is_heard_at c p) p) (all_deeds run)) (fates_left (Some s))
    ∙ (ap (λ (b : Bool). b && list_all is_named_fate (fates_left (Some s))) (deeds_named (is_heard_at c p) p (all_deeds run)) ∙ left_named s.counts.rest s.reason counts.reason)

-- and exactly what is counted as left is left
rest_left : {N S : Type 0} (c : Control) (run : OwnedRun N S) (p : PipeId) (s : Settlement)
    → map is_fate_left (flat_map (fates_in (is_heard_at c p) p) (all_deeds run) ++ fates_left (Some s)) ≡ replicate (length (taken_from p (all_steps run))) false ++ replicate s.counts.rest true
rest_left c run p s =
    map_over is_fate_left (flat_map (fates_in (is_heard_at c p) p) (all_deeds run)) (fates_left (Some s))
    ∙ (ap (λ (bs : List Bool). bs ++ map is_fate_left (fates_left (Some s))) (deeds_unleft (is_heard_at c p) p (all_deeds run) ∙ all_unleft (taken_from p (all_steps run)))
    ∙ ap (λ (bs : List Bool). replicate (length (taken_from p (all_steps run))) false ++ bs) (all_left s.counts.rest s.reason))

plus_none : (n : ℕ) → n ≡ n + 0
plus_none n = omega arith

at_least_none : (n : ℕ) → 0 ≤ n
at_least_none n = omega arith

-- each message of a settled pipe has one named fate
pub one_fate : {N S : Type 0} (c : Control) (run : OwnedRun N S) → AllSettledSo run c.settlements → (p : PipeId) (s : Settlement) → settlement_of c p ≡ Some s → HaveOneFate c run p
one_fate c run all p s e =
    let found : IsFound run p s = found_in run p c.settlements all s e in
    let each : length (fates_of c run p) ≡ count_sent run p =
    subst (λ (o : Option Settlement). length (flat_map (fates_in (is_heard_at c p) p) (all_deeds run) ++ fates_left o) ≡ count_sent run p) (sym e) (fates_are c run p s found) in
    record {
      fated = length (taken_from p (all_steps run));
      unfated = 0;
      taken = plus_none (length (taken_from p (all_steps run)));
      few = at_least_none (most_unfated c p);
      each = sym each ∙ plus_none (length (fates_of c run p));
      «named» = subst (λ (o : Option Settlement). list_all is_named_fate (flat_map (fates_in (is_heard_at c p) p) (all_deeds run) ++ fates_left o) ≡ true) (sym e) (all_named c run p s found.counts);
      left = subst
          (λ (o : Option Settlement). map is_fate_left (flat_map (fates_in (is_heard_at c p) p) (all_deeds run) ++ fates_left o) ≡ replicate (length (taken_from p (all_steps run))) false ++ replicate (rest_of o) true)
          (sym e) (rest_left c run p s);
      sum = (sym each ∙ fates_counted (fates_of c run p)) ∙ plus_none _;
    }
