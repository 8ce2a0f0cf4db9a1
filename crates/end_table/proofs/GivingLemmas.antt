-- The ends of an owner are given one after another.
use Rattle.std.proofs.Common.{◌≡◌, ◌≢◌, ⊎_elim, ℕ, zero, suc, ◌<◌, ◌≤◌, ◌+◌, Bool, true, false, List, [], ◌∷◌, ◌++◌, All, length, length-append, length-set, set, map, Some, refl, sym, ap, ◌∙◌, subst, arith, if◌then◌else◌}
use Rattle.std.proofs.lemmas.Bool.{cases_eq}
use Rattle.std.proofs.lemmas.List.Elements.{All-append, All-nil, All-cons}
use Rattle.spec_control.specs.declared.entry.Joining.{Joining}
use Rattle.msg_pipe.specs.Known.{Known}
use Rattle.end_table.specs.Rows.{Rows}
use Rattle.desk.specs.declared.given.Given.{Given}
use Rattle.desk.specs.Holding.{given_as}
use Rattle.desk.specs.TakingOver.{IsGivenWith, AreGivenWith}
use Rattle.end_table.specs.declared.table.Place.{Place}
use Rattle.end_table.specs.Places.{place_at}
use Rattle.end_table.specs.Sound.{IsSound}
use Rattle.end_table.specs.Giving.{Said, said_of, said_in, said_by, AreGone, AreGiven, GivenAt, gone_place}
use Rattle.end_table.proofs.PlaceLemmas.{place_there, place_else, place_within}
use Rattle.end_table.proofs.SoundLemmas.{one_some}

module _ {N I : Type 0} where
  -- no place before this number has an end
  abbrev pub NoneBefore : ℕ → List (Place N I) → Type 0
  NoneBefore k ps = (j : ℕ) (p : Place N I) → j < k → place_at ps j ≡ Some p → p.held ≡ false

  -- the first end that is held comes first
  said_first : (ps : List (Place N I)) (k : ℕ) (p q : Place N I) → place_at ps k ≡ Some p → p.held ≡ true → q.held ≡ false
      → ((j : ℕ) (r : Place N I) → j < k → place_at ps j ≡ Some r → r.held ≡ false) → said_in ps ≡ said_of p ∷ said_in (set ps k q)
  said_first [] k p q at held gone before = cc
  said_first (x ∷ xs) zero p q at held gone before =
      ap (λ (y : Place N I). if y.held then said_of y ∷ said_in xs else said_in xs) (one_some x p at)
      ∙ ap (λ (b : Bool). if b then said_of p ∷ said_in xs else said_in xs) held
      ∙ sym (ap (λ (b : Bool). said_of p ∷ (if b then said_of q ∷ said_in xs else said_in xs)) gone)
  said_first (x ∷ xs) (suc k) p q at held gone before =
      let off = before 0 x (omega arith) refl in
      ap (λ (b : Bool). if b then said_of x ∷ said_in xs else said_in xs) off
      ∙ said_first xs k p q at held gone (λ j r lt a. before (suc j) r (omega (arith, lt)) a)
      ∙ sym (ap (λ (b : Bool). said_of p ∷ (if b then said_of x ∷ said_in (set xs k q) else said_in (set xs k q))) off)

  said_none : (ps : List (Place N I)) → ((j : ℕ) (p : Place N I) → place_at ps j ≡ Some p → p.held ≡ false) → said_in ps ≡ []
  said_none [] gone = refl
  said_none (x ∷ xs) gone = ap (λ (b : Bool). if b then said_of x ∷ said_in xs else said_in xs) (gone 0 x refl) ∙ said_none xs (λ j p at. gone (suc j) p at)

  all_gone : (ps : List (Place N I)) → ((j : ℕ) (p : Place N I) → place_at ps j ≡ Some p → p.held ≡ false) → AreGone ps
  all_gone [] gone = All-nil (λ (p : Place N I). p.held ≡ false)
  all_gone (x ∷ xs) gone = All-cons (λ (p : Place N I). p.held ≡ false) x xs (gone 0 x refl) (all_gone xs (λ j p at. gone (suc j) p at))

pub map_more : {A B : Type 0} (f : A → B) (xs : List A) (y : A) → map f (xs ++ y ∷ []) ≡ map f xs ++ f y ∷ []
map_more f [] y = refl
map_more f (x ∷ xs) y = ap (λ l. f x ∷ l) (map_more f xs y)

one_behind : {A : Type 0} (xs : List A) (y : A) (zs : List A) → (xs ++ y ∷ []) ++ zs ≡ xs ++ y ∷ zs
one_behind [] y zs = refl
one_behind (x ∷ xs) y zs = ap (λ l. x ∷ l) (one_behind xs y zs)

none_behind : {A : Type 0} (xs : List A) → xs ++ [] ≡ xs
none_behind [] = refl
none_behind (x ∷ xs) = ap (λ l. x ∷ l) (none_behind xs)

all_more : {A : Type 0} (P : A → Type 0) (xs : List A) (y : A) → All P xs → P y → All P (xs ++ y ∷ [])
all_more P xs y all one = All-append P xs (y ∷ []) all (All-cons P y [] one (All-nil P))

module _ {S O I N : Type 0} (K : Known S O I N) (pipes : S) (first : List (Place N I)) where
  -- the ends before this number were given
  pub record Giving (k : ℕ) (rows : Rows O I) (places : List (Place N I)) (given : List (Given N O I)) (joined : List (Joining N)) : Type 0 where
    pub sound : IsSound K pipes rows places
    pub count : length places ≡ length first
    pub before : NoneBefore k places
    pub said : map (said_by K.in_name) given ++ said_in places ≡ said_in first
    pub few : length given ≤ k
    pub halves : AreGivenWith K pipes given
    pub listed : joined ≡ map (given_as K.out_name K.in_name) given

  pub gives_none : (rows : Rows O I) → IsSound K pipes rows first → Giving 0 rows first [] []
  gives_none rows sound = record {
    sound = sound;
    count = refl;
    before = λ j p lt at. absurd (omega (arith, lt));
    said = refl;
    few = omega arith;
    halves = All-nil (IsGivenWith K pipes);
    listed = refl;
  }

  none_now : (k : ℕ) (places : List (Place N I)) (q : Place N I) → NoneBefore k places → place_at places k ≡ Some q → q.held ≡ false → NoneBefore (k + 1) places
  none_now k places q before here gone j p lt at = ⊎_elim
      (λ (same : j ≡ k). ap (λ (x : Place N I). x.held) (one_some p q (sym at ∙ ap (place_at places) same ∙ here)) ∙ gone)
      (λ (other : j ≢ k). before j p (grind arith) at)
      (cases_eq j k)

  pub gives_not : (k : ℕ) (rows : Rows O I) (places : List (Place N I)) (given : List (Given N O I)) (joined : List (Joining N)) (p : Place N I)
      → Giving k rows places given joined → place_at places k ≡ Some p → p.held ≡ false → Giving (k + 1) rows places given joined
  gives_not k rows places given joined p so_far here gone = record {
    sound = so_far.sound;
    count = so_far.count;
    before = none_now k places p so_far.before here gone;
    said = so_far.said;
    few = let f = so_far.few in omega (arith, f);
    halves = so_far.halves;
    listed = so_far.listed;
  }

  pub gives_one : (k : ℕ) (rows rows' : Rows O I) (places places' : List (Place N I)) (given : List (Given N O I)) (joined : List (Joining N)) (g : Given N O I) (p : Place N I)
      → Giving k rows places given joined → place_at places k ≡ Some p → p.held ≡ true → IsSound K pipes rows' places' → GivenAt K pipes k g places places'
      → Giving (k + 1) rows' places' (given ++ g ∷ []) (joined ++ given_as K.out_name K.in_name g ∷ [])
  gives_one k rows rows' places places' given joined g p so_far here held sound gives =
      let same : gives.place ≡ p = one_some gives.place p (sym gives.there ∙ here) in
      let now : places' ≡ set places k (gone_place p) = gives.now ∙ ap (λ (x : Place N I). set places k (gone_place x)) same in
      record {
        sound = sound;
        count = ap length now ∙ length-set places k (gone_place p) ∙ so_far.count;
        before = subst (NoneBefore (k + 1)) (sym now) (none_now k (set places k (gone_place p)) (gone_place p)
            (λ j r lt at. so_far.before j r lt (sym (place_else places k j (gone_place p) (λ (e : j ≡ k). grind arith)) ∙ at)) (place_there places k p (gone_place p) here) refl);
        said =
            ap (λ l. l ++ said_in places') (map_more (said_by K.in_name) given g)
            ∙ one_behind (map (said_by K.in_name) given) (said_by K.in_name g) (said_in places')
            ∙ ap (λ (x : Said N). map (said_by K.in_name) given ++ x ∷ said_in places') (gives.said ∙ ap (λ (x : Place N I). said_of x) same)
            ∙ ap (λ (l : List (Place N I)). map (said_by K.in_name) given ++ said_of p ∷ said_in l) now
            ∙ ap (λ (l : List (Said N)). map (said_by K.in_name) given ++ l) (sym (said_first places k p (gone_place p) here held refl so_far.before))
            ∙ so_far.said;
        few = let f = so_far.few in let a = length-append given (g ∷ []) in omega (arith, f, a);
        halves = all_more (IsGivenWith K pipes) given g so_far.halves gives.halves;
        listed = ap (λ l. l ++ given_as K.out_name K.in_name g ∷ []) so_far.listed ∙ sym (map_more (given_as K.out_name K.in_name) given g);
      }

  gone_at : (k : ℕ) (rows : Rows O I) (places : List (Place N I)) (given : List (Given N O I)) (joined : List (Joining N)) → Giving k rows places given joined → length first ≤ k
      → (j : ℕ) (p : Place N I) → place_at places j ≡ Some p → p.held ≡ false
  gone_at k rows places given joined so_far all j p at =
      so_far.before j p (let w = place_within places j p at in let c = so_far.count in omega (arith, w, c, all)) at

  pub all_given : (k : ℕ) (rows : Rows O I) (places : List (Place N I)) (given : List (Given N O I)) (joined : List (Joining N)) → Giving k rows places given joined → length first ≤ k
      → AreGone places × AreGiven K pipes (said_in first) given joined
  all_given k rows places given joined so_far all =
      let gone = gone_at k rows places given joined so_far all in (
        all_gone places gone,
        record {
          ends =
              sym (none_behind (map (said_by K.in_name) given))
              ∙ ap (λ (l : List (Said N)). map (said_by K.in_name) given ++ l) (sym (said_none places gone))
              ∙ so_far.said;
          halves = so_far.halves;
          listed = so_far.listed;
        },
      )
