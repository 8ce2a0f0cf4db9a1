-- What the calls of one owner leave to the others.
use Rattle.std.proofs.Common.{◌≡◌, ◌≢◌, ⊎_elim, ◌&&◌, ℕ, zero, suc, Bool, true, false, List, [], ◌∷◌, ◌++◌, All, length, length-append, set, length-set, Some, refl, sym, ap, ◌∙◌, subst, arith, true≢false}
use Rattle.std.proofs.lemmas.Bool.{cases_eq}
use Rattle.std.proofs.lemmas.List.Elements.{All-nil, All-cons, All-head, All-tail}
use Rattle.spec_pattern.specs.Half.{Writing}
use Rattle.msg_pipe.specs.Known.{Known, IsThere, IsElse, KeepsButOut, KeepsButIn, KeepsButPipe}
use Rattle.end_table.specs.Rows.{row_at}
use Rattle.end_table.specs.declared.table.Place.{Place}
use Rattle.end_table.specs.declared.table.EndTable.{EndTable}
use Rattle.end_table.specs.Places.{place_at}
use Rattle.end_table.specs.Sound.{StandsSo}
use Rattle.end_table.specs.Attaching.{Unchanged}
use Rattle.end_table.specs.Others.{had_at, wrote_at, IsLess, KeepsPlaces, IsNoneWritten, IsNoneRead, IsUnsettled, Leaves, LeavesSound, LeavesFitting, LeavesOn}
use Rattle.end_table.proofs.PlaceLemmas.{place_there, place_else, place_within}
use Rattle.end_table.proofs.SoundLemmas.{one_some, Carries, carried}
use Rattle.end_table.proofs.EndsLemmas.{some_place}

both : (a b : Bool) → a ≡ true → b ≡ true → (a && b) ≡ true
both true b ea eb = eb
both false b ea eb = absurd (true≢false (sym ea))

first_of : (a b : Bool) → (a && b) ≡ true → a ≡ true
first_of true b e = refl
first_of false b e = absurd (true≢false (sym e))

second_of : (a b : Bool) → (a && b) ≡ true → b ≡ true
second_of true b e = e
second_of false b e = absurd (true≢false (sym e))

module _ {N I : Type 0} where
  same_less : (p : Place N I) → IsLess p p
  same_less p = record { end_is = refl; written_is = refl; read_is = refl; held = λ h. h; writes = λ w. w }

  less_on : (p q r : Place N I) → IsLess p q → IsLess q r → IsLess p r
  less_on p q r a b = record {
    end_is = b.end_is ∙ a.end_is;
    written_is = b.written_is ∙ a.written_is;
    read_is = b.read_is ∙ a.read_is;
    held = λ h. a.held (b.held h);
    writes = λ w. a.writes (b.writes w);
  }

  -- ---- places that stay

  pub places_stay : (ps qs : List (Place N I)) → qs ≡ ps → KeepsPlaces ps qs
  places_stay ps qs same = record {
    count = let n = ap length same in omega (arith, n);
    each = λ k p q a b. subst (IsLess p) (one_some p q (sym a ∙ ap (λ (l : List (Place N I)). place_at l k) (sym same) ∙ b)) (same_less p);
  }

  pub places_on : (ps qs rs : List (Place N I)) → KeepsPlaces ps qs → KeepsPlaces qs rs → KeepsPlaces ps rs
  places_on ps qs rs a b = record {
    count = let x = a.count in let y = b.count in omega (arith, x, y);
    each = λ k p r at there.
        let q = some_place qs k (let w = place_within ps k p at in let n = a.count in omega (arith, w, n)) in
        less_on p q.0 r (a.each k p q.0 at q.1) (b.each k q.0 r q.1 there);
  }

  -- one changed
  pub place_changes : (ps : List (Place N I)) (k : ℕ) (p q : Place N I) → place_at ps k ≡ Some p → IsLess p q → KeepsPlaces ps (set ps k q)
  place_changes ps k p q at less = record {
    count = let n = length-set ps k q in omega (arith, n);
    each = λ j a b was now. ⊎_elim
        (λ (same : j ≡ k).
        let is_p : p ≡ a = one_some p a (sym at ∙ ap (place_at ps) (sym same) ∙ was) in
        let is_q : q ≡ b = one_some q b (sym (place_there ps k p q at) ∙ ap (place_at (set ps k q)) (sym same) ∙ now) in
        subst (λ (x : Place N I). IsLess x b) is_p (subst (IsLess p) is_q less))
        (λ (other : j ≢ k). subst (IsLess a) (one_some a b (sym was ∙ sym (place_else ps k j q other) ∙ now)) (same_less a))
        (cases_eq j k);
  }

  pub place_now : (ps qs : List (Place N I)) (k : ℕ) (p q : Place N I) → place_at ps k ≡ Some p → IsLess p q → qs ≡ set ps k q → KeepsPlaces ps qs
  place_now ps qs k p q at less now = subst (KeepsPlaces ps) (sym now) (place_changes ps k p q at less)

  before_more : (ps : List (Place N I)) (q : Place N I) (k : ℕ) (p : Place N I) → place_at ps k ≡ Some p → place_at (ps ++ q ∷ []) k ≡ Some p
  before_more [] q k p at = cc
  before_more (x ∷ xs) q zero p at = at
  before_more (x ∷ xs) q (suc k) p at = before_more xs q k p at

  -- one came
  pub place_comes : (ps : List (Place N I)) (q : Place N I) → KeepsPlaces ps (ps ++ q ∷ [])
  place_comes ps q = record {
    count = let n = length-append ps (q ∷ []) in omega (arith, n);
    each = λ k a b was now. subst (IsLess a) (one_some a b (sym (before_more ps q k a was) ∙ now)) (same_less a);
  }

  -- ---- what was held and written

  had_is : (ps : List (Place N I)) (k : ℕ) (p : Place N I) → place_at ps k ≡ Some p → had_at ps k ≡ p.held
  had_is [] k p at = cc
  had_is (x ∷ xs) zero p at = ap (λ (y : Place N I). y.held) (one_some x p at)
  had_is (x ∷ xs) (suc k) p at = had_is xs k p at

  had_by : (ps : List (Place N I)) (k : ℕ) → ((p : Place N I) → place_at ps k ≡ Some p → p.held ≡ true) → had_at ps k ≡ true
  had_by [] k so = refl
  had_by (x ∷ xs) zero so = so x refl
  had_by (x ∷ xs) (suc k) so = had_by xs k so

  wrote_is : (ps : List (Place N I)) (k : ℕ) (p : Place N I) → place_at ps k ≡ Some p → wrote_at ps k ≡ (p.held && p.writes)
  wrote_is [] k p at = cc
  wrote_is (x ∷ xs) zero p at = ap (λ (y : Place N I). y.held && y.writes) (one_some x p at)
  wrote_is (x ∷ xs) (suc k) p at = wrote_is xs k p at

  wrote_by : (ps : List (Place N I)) (k : ℕ) → ((p : Place N I) → place_at ps k ≡ Some p → (p.held && p.writes) ≡ true) → wrote_at ps k ≡ true
  wrote_by [] k so = refl
  wrote_by (x ∷ xs) zero so = so x refl
  wrote_by (x ∷ xs) (suc k) so = wrote_by xs k so

  -- what is had later was had before
  had_before : (ps qs : List (Place N I)) (k : ℕ) → KeepsPlaces ps qs → had_at qs k ≡ true → had_at ps k ≡ true
  had_before ps qs k keeps had = had_by ps k (λ p at.
      let q = some_place qs k (let w = place_within ps k p at in let n = keeps.count in omega (arith, w, n)) in
      (keeps.each k p q.0 at q.1).held (sym (had_is qs k q.0 q.1) ∙ had))

  wrote_before : (ps qs : List (Place N I)) (k : ℕ) → KeepsPlaces ps qs → wrote_at qs k ≡ true → wrote_at ps k ≡ true
  wrote_before ps qs k keeps wrote = wrote_by ps k (λ p at.
      let q = some_place qs k (let w = place_within ps k p at in let n = keeps.count in omega (arith, w, n)) in
      let less = keeps.each k p q.0 at q.1 in
      let is = sym (wrote_is qs k q.0 q.1) ∙ wrote in
      both p.held p.writes (less.held (first_of q.0.held q.0.writes is)) (less.writes (second_of q.0.held q.0.writes is)))

  pub had_here : (ps : List (Place N I)) (k : ℕ) (p : Place N I) → place_at ps k ≡ Some p → p.held ≡ true → had_at ps k ≡ true
  had_here ps k p at held = had_is ps k p at ∙ held

  pub wrote_here : (ps : List (Place N I)) (k : ℕ) (p : Place N I) → place_at ps k ≡ Some p → p.held ≡ true → p.writes ≡ true → wrote_at ps k ≡ true
  wrote_here ps k p at held writes = wrote_is ps k p at ∙ both p.held p.writes held writes

-- the first of a list, and the last
all_front : {A : Type 0} (P : A → Type 0) (xs ys : List A) → All P (xs ++ ys) → All P xs
all_front P [] ys h = All-nil P
all_front P (x ∷ xs) ys h = All-cons P x xs (All-head P x (xs ++ ys) h) (all_front P xs ys (All-tail P x (xs ++ ys) h))

all_last : {A : Type 0} (P : A → Type 0) (xs : List A) (y : A) → All P (xs ++ y ∷ []) → P y
all_last P [] y h = All-head P y [] h
all_last P (x ∷ xs) y h = all_last P xs y (All-tail P x (xs ++ y ∷ []) h)

module _ {S O I N : Type 0} (K : Known S O I N) where
  -- ---- one stretch behind another

  module _ (a b c : EndTable N O I) (ab : KeepsPlaces a.places.items b.places.items) (bc : KeepsPlaces b.places.items c.places.items) (n : N) where
    later : (k : ℕ) (q : Place N I) → place_at b.places.items k ≡ Some q → (r : Place N I) × (place_at c.places.items k ≡ Some r) × IsLess q r
    later k q at =
        let r = some_place c.places.items k (let w = place_within b.places.items k q at in let m = bc.count in omega (arith, w, m)) in
        (r.0, r.1, bc.each k q r.0 at r.1)

    written_first : IsNoneWritten K a c n → IsNoneWritten K a b n
    written_first none k q at wrote ex same = let r = later k q at in none k r.0 r.1 wrote ex (same ∙ sym r.2.written_is)

    written_then : IsNoneWritten K a c n → IsNoneWritten K b c n
    written_then none k q at wrote = none k q at (wrote_before a.places.items b.places.items k ab wrote)

    read_first : IsNoneRead K a c n → IsNoneRead K a b n
    read_first none k q at had ex same = let r = later k q at in none k r.0 r.1 had ex (same ∙ sym r.2.read_is)

    read_then : IsNoneRead K a c n → IsNoneRead K b c n
    read_then none k q at had = none k q at (had_before a.places.items b.places.items k ab had)

  pub leaves_on : LeavesOn K
  leaves_on old mid new a b c first then = record {
    written = λ n u t. then.written n u (first.written n (then.settled n u) t);
    read = λ n r t. then.read n (read_then a b c first.places then.places n r) (first.read n (read_first a b c first.places then.places n r) t);
    outs = λ h t w u.
        then.outs h (first.written (K.out_name h) (then.settled (K.out_name h) u) t) (written_then a b c first.places then.places (K.out_name h) w) u
        ∙ first.outs h t (written_first a b c first.places then.places (K.out_name h) w) (then.settled (K.out_name h) u);
    ins = λ h t r.
        then.ins h (first.read (K.in_name h) (read_first a b c first.places then.places (K.in_name h) r) t) (read_then a b c first.places then.places (K.in_name h) r)
        ∙ first.ins h t (read_first a b c first.places then.places (K.in_name h) r);
    places = places_on a.places.items b.places.items c.places.items first.places then.places;
    settled = λ n u. first.settled n (then.settled n u);
  }

  -- ---- one call

  settled_same : (from to : EndTable N O I) → to.settled.items ≡ from.settled.items → (n : N) → IsUnsettled K to n → IsUnsettled K from n
  settled_same from to same n = subst (λ (l : List (N × Unit {0})). All (λ (x : N × Unit {0}). IsElse K n x.0) l) same

  -- the pipes are as they were
  pub leaves_pipes : (pipes : S) (from to : EndTable N O I) → KeepsPlaces from.places.items to.places.items → to.settled.items ≡ from.settled.items → Leaves K pipes from pipes to
  leaves_pipes pipes from to places same = record {
    written = λ n u t. t;
    read = λ n r t. t;
    outs = λ h t w u. refl;
    ins = λ h t r. refl;
    places = places;
    settled = settled_same from to same;
  }

  -- nor did the ends change
  pub leaves_unchanged : (pipes : S) (from to : EndTable N O I) → Unchanged from to → Leaves K pipes from pipes to
  leaves_unchanged pipes from to u = leaves_pipes pipes from to (places_stay from.places.items to.places.items u.places) u.settled

  -- but one
  pub leaves_changed : (pipes : S) (from to : EndTable N O I) (k : ℕ) (p q : Place N I) → place_at from.places.items k ≡ Some p → IsLess p q
      → to.places.items ≡ set from.places.items k q → to.settled.items ≡ from.settled.items → Leaves K pipes from pipes to
  leaves_changed pipes from to k p q at less now = leaves_pipes pipes from to (place_now from.places.items to.places.items k p q at less now)

  module _ (old new : S) (from to : EndTable N O I) (k : ℕ) (p : Place N I) (at : place_at from.places.items k ≡ Some p) (held : p.held ≡ true) (places : KeepsPlaces from.places.items to.places.items) where
    here : (q : Place N I) × (place_at to.places.items k ≡ Some q) × IsLess p q
    here =
        let q = some_place to.places.items k (let w = place_within from.places.items k p at in let m = places.count in omega (arith, w, m)) in
        (q.0, q.1, places.each k p q.0 at q.1)

    not_written : (n : N) → p.writes ≡ true → IsNoneWritten K from to n → IsElse K n p.written
    not_written n writes none ex same = none k here.0 here.1 (wrote_here from.places.items k p at held writes) ex (same ∙ sym here.2.written_is)

    not_read : (n : N) → IsNoneRead K from to n → IsElse K n p.read
    not_read n none ex same = none k here.0 here.1 (had_here from.places.items k p at held) ex (same ∙ sym here.2.read_is)

    -- the writing half of an end was lent
    pub leaves_out : (o o' : O) → p.writes ≡ true → K.out_name o ≡ p.written → KeepsButOut K o o' old new → to.settled.items ≡ from.settled.items → Leaves K old from new to
    leaves_out o o' writes name keeps same = record {
      written = λ n u t. keeps.there n t;
      read = λ n r t. keeps.there n t;
      outs = λ h t w u. keeps.outs h t (λ ex e. not_written (K.out_name h) writes w ex (e ∙ name));
      ins = λ h t r. keeps.ins h t;
      places = places;
      settled = settled_same from to same;
    }

    -- or its reading half
    pub leaves_in : (i i' : I) → K.in_name i ≡ p.read → KeepsButIn K i i' old new → to.settled.items ≡ from.settled.items → Leaves K old from new to
    leaves_in i i' name keeps same = record {
      written = λ n u t. keeps.there n t;
      read = λ n r t. keeps.there n t;
      outs = λ h t w u. keeps.outs h t;
      ins = λ h t r. keeps.ins h t (λ ex e. not_read (K.in_name h) r ex (e ∙ name));
      places = places;
      settled = settled_same from to same;
    }

    -- the pipe that it read was settled
    pub leaves_settled : (n : N) → n ≡ p.read → KeepsButPipe K n old new → to.settled.items ≡ from.settled.items ++ (n, tt) ∷ [] → Leaves K old from new to
    leaves_settled n name keeps one = record {
      written = λ m u t. keeps.there m t;
      read = λ m r t. keeps.there m t;
      outs = λ h t w u. keeps.outs h t (last (K.out_name h) u);
      ins = λ h t r. keeps.ins h t (λ ex e. not_read (K.in_name h) r ex (e ∙ name));
      places = places;
      settled = λ m u. all_front (λ (x : N × Unit {0}). IsElse K m x.0) from.settled.items ((n, tt) ∷ []) (all m u);
    }
      where
        all : (m : N) → IsUnsettled K to m → All (λ (x : N × Unit {0}). IsElse K m x.0) (from.settled.items ++ (n, tt) ∷ [])
        all m = subst (λ (l : List (N × Unit {0})). All (λ (x : N × Unit {0}). IsElse K m x.0) l) one

        last : (m : N) → IsUnsettled K to m → IsElse K m n
        last m u = all_last (λ (x : N × Unit {0}). IsElse K m x.0) from.settled.items (n, tt) (all m u)

  -- ---- the others

  pub others_sound : LeavesSound K
  others_sound old new from to rows places leaves apart sound = record {
    count = sound.count;
    stands = λ k p at. by k p at p.held refl;
    apart = sound.apart;
    crossed = sound.crossed;
  }
    where
      carries : (k : ℕ) (p : Place N I) → place_at places k ≡ Some p → p.held ≡ true → Carries K old new p
      carries k p at held =
          let a = apart k p at held in
          record {
            there_out = λ h w t. leaves.written p.written (a.unsettled w) t;
            there_in = λ h t. leaves.read p.read a.ins t;
            outs = λ h w o e t. leaves.outs o (subst (IsThere K old) (sym e) t) (subst (IsNoneWritten K from to) (sym e) (a.outs w)) (subst (IsUnsettled K to) (sym e) (a.unsettled w));
            ins = λ h i e t. leaves.ins i (subst (IsThere K old) (sym e) t) (subst (IsNoneRead K from to) (sym e) a.ins);
          }

      by : (k : ℕ) (p : Place N I) → place_at places k ≡ Some p → (h : Bool) → p.held ≡ h → StandsSo K new (row_at rows k) p p.held p.writes
      by k p at true e = carried K old new (row_at rows k) p (carries k p at e) p.held p.writes refl refl (sound.stands k p at)
      by k p at false e =
          subst (λ (h : Bool). StandsSo K new (row_at rows k) p h p.writes) (sym e)
          (subst (λ (h : Bool). StandsSo K old (row_at rows k) p h p.writes) e (sound.stands k p at))

  pub halves_fitting : LeavesFitting K
  halves_fitting old new from to before now h leaves apart others fits = record {
    out_there = leaves.written (K.out_name h.out) apart.unsettled fits.out_there;
    in_there = leaves.read (K.in_name h.input) apart.ins fits.in_there;
    unsealed = ap (λ (v : Writing). v.sealed) (leaves.outs h.out fits.out_there apart.outs apart.unsettled) ∙ fits.unsealed;
    crossed = fits.crossed;
    others = others;
  }
