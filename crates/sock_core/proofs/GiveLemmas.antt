-- What the control plane is told of a socket's ends as they are given away.
use Rattle.std.proofs.Common.{◌≡◌, ◌≢◌, ◌==◌, ◌&&◌, ◌∙◌, ℕ, suc, Bool, true, false, List, [], ◌∷◌, All, map, Some, None, refl, sym, ap, subst, if◌then◌else◌, eqb-true, true≢false}
use Rattle.std.specs.List.{list_any}
use Rattle.std.proofs.lemmas.List.Elements.{All-nil, All-cons, All-head, All-tail}
use Rattle.zq_base.specs.declared.ids.EndId.{EndId}
use Rattle.zq_base.specs.declared.kind.Kind.{Kind}
use Rattle.spec_control.specs.Held.{Held}
use Rattle.spec_control.specs.Control.{is_end}
use Rattle.msg_pipe.specs.Known.{Known}
use Rattle.end_table.specs.Rows.{Rows}
use Rattle.desk.specs.declared.given.Given.{Given}
use Rattle.desk.specs.Holding.{HasGiven, KeepsTurns, AllSealed, AllTold, AllWriting, AllStated, held_given, has_end}
use Rattle.end_table.specs.declared.table.Place.{Place}
use Rattle.end_table.specs.Places.{place_at, held_of, held_in, is_of, writes_in, met_in}
use Rattle.end_table.specs.Sound.{IsSound}
use Rattle.end_table.specs.Giving.{Said, said_of, said_in, said_by, AreGone}
use Rattle.sock_core.specs.Has.{Told, state_in, has}
use Rattle.sock_core.specs.Noted.{AreSealed}
use Rattle.sock_core.proofs.FindLemmas.{never, end_self, alone_of, one_passes}
use Rattle.sock_core.proofs.HolderLemmas.{flag_at, state_at}

-- what holds of each that is said holds of each of whom it is said
from_map : {A B : Type 0} (P : B → Type 0) (f : A → B) (xs : List A) → All P (map f xs) → All (λ x. P (f x)) xs
from_map P f [] all = All-nil (λ x. P (f x))
from_map P f (x ∷ xs) all = All-cons (λ y. P (f y)) x xs (All-head P (f x) (map f xs) all) (from_map P f xs (All-tail P (f x) (map f xs) all))

-- an end as it is held, by what is said of it
abbrev pub held_by : {N : Type 0} → Said N → Held N
held_by s = record { end = s.end; written = s.written; read = s.read }

module _ {N I : Type 0} where
  all_said : (P : Said N → Type 0) (ps : List (Place N I)) → ((k : ℕ) (p : Place N I) → place_at ps k ≡ Some p → p.held ≡ true → P (said_of p)) → All P (said_in ps)
  all_said P [] each = All-nil P
  all_said P (x ∷ xs) each = by (all_said P xs (λ k p at h. each (suc k) p at h)) x.held refl
    where
      by : All P (said_in xs) → (b : Bool) → x.held ≡ b → All P (if b then said_of x ∷ said_in xs else said_in xs)
      by rest true h = All-cons P (said_of x) (said_in xs) (each 0 x refl h) rest
      by rest false h = rest

  held_said : (ps : List (Place N I)) → map held_by (said_in ps) ≡ held_in ps
  held_said [] = refl
  held_said (x ∷ xs) = by x.held (held_said xs)
    where
      by : (b : Bool) → map held_by (said_in xs) ≡ held_in xs → map held_by (if b then said_of x ∷ said_in xs else said_in xs) ≡ (if b then held_of x ∷ held_in xs else held_in xs)
      by true rest = ap (λ (l : List (Held N)). held_of x ∷ l) rest
      by false rest = rest

  -- none is held any more
  held_none : (ps : List (Place N I)) → AreGone ps → held_in ps ≡ []
  held_none [] gone = refl
  held_none (x ∷ xs) gone =
      ap (λ (b : Bool). if b then held_of x ∷ held_in xs else held_in xs) (All-head (λ (p : Place N I). p.held ≡ false) x xs gone)
      ∙ held_none xs (All-tail (λ (p : Place N I). p.held ≡ false) x xs gone)

module _ {S O I N : Type 0} (K : Known S O I N) (pipes : S) (rows : Rows O I) (ps : List (Place N I)) (sound : IsSound K pipes rows ps) where
  module _ (k : ℕ) (p : Place N I) (at : place_at ps k ≡ Some p) (held : p.held ≡ true) where
    is : is_of p.end p ≡ true
    is = ap (λ (b : Bool). b && is_end p.end p.end) held ∙ end_self p.end

    alone : (j : ℕ) (r : Place N I) → j ≢ k → place_at ps j ≡ Some r → is_of p.end r ≡ false
    alone = alone_of K pipes rows ps k p p.end sound at is

    flag_is : (flag : Place N I → Bool) → flag p ≡ list_any (λ r. flag r && is_of p.end r) ps
    flag_is flag = by (flag p) (list_any (λ r. flag r && is_of p.end r) ps) refl refl
      where
        by : (a b : Bool) → flag p ≡ a → list_any (λ r. flag r && is_of p.end r) ps ≡ b → a ≡ b
        by true true f l = refl
        by false false f l = refl
        by true false f l = never (sym (one_passes (λ r. flag r && is_of p.end r) ps k p at (ap (λ (b : Bool). b && is_of p.end p) f ∙ is)) ∙ l)
        by false true f l = never (sym (flag_at ps k p p.end at is alone flag l) ∙ f)

    state_is : p.state ≡ state_in ps p.end
    state_is = sym (state_at ps k p p.end at is alone)

  module _ (given : List (Given N O I)) (ends : map (said_by K.in_name) given ≡ said_in ps) where
    said_each : (P : Said N → Type 0) → All P (said_in ps) → All (λ g. P (said_by K.in_name g)) given
    said_each P all = from_map P (said_by K.in_name) given (subst (λ (l : List (Said N)). All P l) (sym ends) all)

    pub told_of : AllTold (met_in ps) given
    told_of = said_each (λ s. s.met ≡ met_in ps s.end) (all_said (λ s. s.met ≡ met_in ps s.end) ps (λ k p at held. flag_is k p at held (λ r. r.met)))

    pub writing_of : AllWriting (writes_in ps) given
    writing_of = said_each (λ s. s.writes ≡ writes_in ps s.end) (all_said (λ s. s.writes ≡ writes_in ps s.end) ps (λ k p at held. flag_is k p at held (λ r. r.writes)))

    pub stated_of : AllStated (state_in ps) given
    stated_of = said_each (λ s. s.state ≡ state_in ps s.end) (all_said (λ s. s.state ≡ state_in ps s.end) ps (λ k p at held. state_is k p at held))

    pub sealed_of : (told : List EndId) → AreSealed ps told → AllSealed told given
    sealed_of told are = said_each (λ s. s.sealed ≡ true → list_any (is_end s.end) told ≡ true) (all_said (λ s. s.sealed ≡ true → list_any (is_end s.end) told ≡ true) ps are)

    pub ends_of : map (held_given K.out_name K.in_name) given ≡ held_in ps
    ends_of = twice given ∙ ap (map held_by) ends ∙ held_said ps
      where
        twice : (gs : List (Given N O I)) → map (held_given K.out_name K.in_name) gs ≡ map held_by (map (said_by K.in_name) gs)
        twice [] = refl
        twice (g ∷ gs) = ap (λ (l : List (Held N)). held_given K.out_name K.in_name g ∷ l) (twice gs)

module _ {N I : Type 0} (n o : ℕ) (is_open : Bool) (kind : Kind) (t : Told N) (ps qs : List (Place N I)) (gone : AreGone qs) where
  none_there : (b : Bool) → (if b then held_in qs else []) ≡ []
  none_there true = held_none qs gone
  none_there false = refl

  never_there : (b : Bool) (e : EndId) → has_end e (if b then held_in qs else []) ≡ true → ⊥
  never_there b e h = true≢false (sym h ∙ ap (has_end e) (none_there b))

  and_false : (b : Bool) → (b && false) ≡ false
  and_false true = refl
  and_false false = refl

  pub given_all : (o == n) ≡ true → HasGiven o (has n is_open kind t ps) (has n false kind t qs)
  given_all mine = record {
    none = none_there (o == n);
    gone = refl;
    others = λ i ne. other i (i == n) refl ne;
    writers = λ i e here. absurd (never_there (i == n) e here);
    delimiters = λ i e here at. absurd (never_there (i == n) e here);
    output = λ i ne. refl;
  }
    where
      other : (i : ℕ) (b : Bool) → (i == n) ≡ b → i ≢ o
          → (false ≡ (is_open && b)) × (((if b then held_in qs else []) ≡ (if b then held_in ps else [])) × (None ≡ (if is_open && b then Some kind else None)))
      other i true same ne = absurd (ne (eqb-true i n same ∙ sym (eqb-true o n mine)))
      other i false off ne = (sym (and_false is_open), (refl, sym (ap (λ (b : Bool). if b then Some kind else None) (and_false is_open))))

  pub given_turns : KeepsTurns (has n is_open kind t ps) (has n false kind t qs)
  given_turns = record {
    states = λ i d here. absurd (never_there (i == n) d here);
    turns = refl;
    sealed = refl;
    joined = refl;
  }
