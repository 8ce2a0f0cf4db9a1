-- What the control plane is told of a socket's ends, after one of them changed.
use Rattle.std.proofs.Common.{◌≡◌, ◌≢◌, ⊎_elim, ◌==◌, ◌&&◌, ◌||◌, ◌∙◌, ℕ, zero, suc, Bool, true, false, List, [], ◌∷◌, ◌++◌, set, Option, None, Some, refl, sym, ap, if◌then◌else◌, eqb-true, not, arith}
use Rattle.std.proofs.lemmas.Bool.{cases_eq}
use Rattle.std.specs.List.{list_any}
use Rattle.zq_base.specs.declared.ids.EndId.{EndId}
use Rattle.zq_base.specs.declared.kind.Kind.{Kind}
use Rattle.spec_control.specs.declared.end.EndState.{EndState}
use Rattle.spec_control.specs.Control.{is_end}
use Rattle.spec_control.specs.Held.{Held}
use Rattle.desk.specs.Holding.{BeginsNone, Yielded, Left, KeepsTurns, TurnsTo, Seals, IsLast, is_state, has_end, without_end, read_in, written_in}
use Rattle.end_table.specs.declared.table.Place.{Place}
use Rattle.end_table.specs.Places.{place_at, held_of, held_in, is_of, writes_of, writes_in, met_of}
use Rattle.end_table.proofs.SoundLemmas.{one_some}
use Rattle.end_table.proofs.PlaceLemmas.{place_there, place_else}
use Rattle.sock_core.specs.Has.{Told, state_in, has}
use Rattle.sock_core.proofs.FindLemmas.{never, same_end, held_is, end_is, some_passes, one_passes, none_passes, has_here}
use Rattle.sock_core.proofs.SeenLemmas.{any_same, held_same, state_same}

and_left : (a b : Bool) → (a && b) ≡ true → a ≡ true
and_left true b h = refl
and_left false b h = never (sym h)

and_right : (a b : Bool) → (a && b) ≡ true → b ≡ true
and_right true b h = h
and_right false b h = never (sym h)

and_false : (b : Bool) → (b && false) ≡ false
and_false true = refl
and_false false = refl

module _ {N I : Type 0} where
  -- an end of the object is one of the socket
  pub owned : (b : Bool) (e : EndId) (ps : List (Place N I)) → has_end e (if b then held_in ps else []) ≡ true → (b ≡ true) × (list_any (is_of e) ps ≡ true)
  owned true e ps h = (refl, sym (has_here e ps) ∙ h)
  owned false e ps h = never (sym h)

  pub owned_read : (b : Bool) (e : EndId) (ps : List (Place N I)) (n : N) → read_in (if b then held_in ps else []) e ≡ Some n → b ≡ true
  owned_read true e ps n h = refl
  owned_read false e ps n h = absurd (none_some h)
    where
      none_some : None ≡ Some n → ⊥
      none_some f = grind arith

  pub reads_here : (e : EndId) (ps : List (Place N I)) (n : N) → read_in (held_in ps) e ≡ Some n → list_any (is_of e) ps ≡ true
  reads_here e [] n h = absurd (none_some h)
    where
      none_some : None ≡ Some n → ⊥
      none_some f = grind arith
  reads_here e (x ∷ xs) n h = by (λ k. reads_here e xs n k) x.held (is_end e x.end) refl refl h
    where
      or_true : (b : Bool) → (b || true) ≡ true
      or_true true = refl
      or_true false = refl

      later : list_any (is_of e) xs ≡ true → list_any (is_of e) (x ∷ xs) ≡ true
      later r = ap (λ (b : Bool). is_of e x || b) r ∙ or_true (is_of e x)

      by : (read_in (held_in xs) e ≡ Some n → list_any (is_of e) xs ≡ true) → (b c : Bool) → x.held ≡ b → is_end e x.end ≡ c → read_in (if b then held_of x ∷ held_in xs else held_in xs) e ≡ Some n → list_any (is_of e) (x ∷ xs) ≡ true
      by rest true true eb ec k = one_passes (is_of e) (x ∷ xs) 0 x refl (ap (λ (b : Bool). b && is_end e x.end) eb ∙ ec)
      by rest true false eb ec k =
          let r = rest (sym (ap (λ (c : Bool). if c then Some x.read else read_in (held_in xs) e) ec) ∙ k) in
          later r
      by rest false c eb ec k = later (rest k)

  -- the names of an end's pipes
  pub names_at : (ps : List (Place N I)) (k : ℕ) (p : Place N I) (e : EndId) → place_at ps k ≡ Some p → is_of e p ≡ true
      → ((j : ℕ) (r : Place N I) → j ≢ k → place_at ps j ≡ Some r → is_of e r ≡ false) → (written_in (held_in ps) e ≡ Some p.written) × (read_in (held_in ps) e ≡ Some p.read)
  names_at [] k p e at is alone = cc
  names_at (x ∷ xs) zero p e at is alone =
      let x_is : is_of e x ≡ true = ap (is_of e) (one_some x p at) ∙ is in
      let held = held_is e x x_is in
      let end = and_right x.held (is_end e x.end) x_is in (
        ap (λ (b : Bool). written_in (if b then held_of x ∷ held_in xs else held_in xs) e) held ∙ ap (λ (b : Bool). if b then Some x.written else written_in (held_in xs) e) end ∙ ap (λ (y : Place N I). Some y.written) (one_some x p at),
        ap (λ (b : Bool). read_in (if b then held_of x ∷ held_in xs else held_in xs) e) held ∙ ap (λ (b : Bool). if b then Some x.read else read_in (held_in xs) e) end ∙ ap (λ (y : Place N I). Some y.read) (one_some x p at),
      )
  names_at (x ∷ xs) (suc k) p e at is alone =
      let rest = names_at xs k p e at is (λ j r ne a. alone (suc j) r (λ (same : suc j ≡ suc k). ne (grind arith)) a) in
      (skip_written x.held refl ∙ rest.0, skip_read x.held refl ∙ rest.1)
    where
      other : x.held ≡ true → is_end e x.end ≡ false
      other h = sym (ap (λ (b : Bool). b && is_end e x.end) h) ∙ alone 0 x (λ (same : 0 ≡ suc k). grind arith) refl

      skip_written : (b : Bool) → x.held ≡ b → written_in (if b then held_of x ∷ held_in xs else held_in xs) e ≡ written_in (held_in xs) e
      skip_written true h = ap (λ (c : Bool). if c then Some x.written else written_in (held_in xs) e) (other h)
      skip_written false h = refl

      skip_read : (b : Bool) → x.held ≡ b → read_in (if b then held_of x ∷ held_in xs else held_in xs) e ≡ read_in (held_in xs) e
      skip_read true h = ap (λ (c : Bool). if c then Some x.read else read_in (held_in xs) e) (other h)
      skip_read false h = refl

  module _ (ps : List (Place N I)) (k : ℕ) (p : Place N I) (e : EndId) (there : place_at ps k ≡ Some p) (is : is_of e p ≡ true)
      (alone : (j : ℕ) (r : Place N I) → j ≢ k → place_at ps j ≡ Some r → is_of e r ≡ false) where
    -- what is said of the end is said of its place
    pub flag_at : (flag : Place N I → Bool) → list_any (λ r. flag r && is_of e r) ps ≡ true → flag p ≡ true
    flag_at flag h =
        let s = some_passes (λ r. flag r && is_of e r) ps h in
        ⊎_elim
        (λ (same : s.0 ≡ k). ap flag (one_some p s.1 (sym there ∙ ap (place_at ps) (sym same) ∙ s.2)) ∙ and_left (flag s.1) (is_of e s.1) s.3)
        (λ (other : s.0 ≢ k). never (sym (and_right (flag s.1) (is_of e s.1) s.3) ∙ alone s.0 s.1 other s.2))
        (cases_eq s.0 k)

    pub flag_not : (flag : Place N I → Bool) → list_any (λ r. flag r && is_of e r) ps ≡ false → flag p ≡ false
    flag_not flag h = by (flag p) refl
      where
        by : (b : Bool) → flag p ≡ b → b ≡ false
        by true f = never (sym (one_passes (λ r. flag r && is_of e r) ps k p there (ap (λ (b : Bool). b && is_of e p) f ∙ is)) ∙ h)
        by false f = refl

    -- another end is not at the place
    else_of : (d : EndId) → is_end d e ≡ false → is_of d p ≡ false
    else_of d other = ap (λ (x : EndId). p.held && is_end d x) (sym (end_is e p is)) ∙ ap (λ (b : Bool). p.held && b) other ∙ and_false p.held

    module _ (q : Place N I) (silent : (d : EndId) → writes_of d q ≡ false) where
      -- the writing half of the end is not there any more
      pub writes_but : (d : EndId) → writes_in (set ps k q) d ≡ (if is_end d e then false else writes_in ps d)
      writes_but d = by (is_end d e) refl
        where
          by : (b : Bool) → is_end d e ≡ b → writes_in (set ps k q) d ≡ (if b then false else writes_in ps d)
          by false other = any_same (writes_of d) ps k p q there (silent d ∙ sym (ap (λ (b : Bool). p.writes && b) (else_of d other) ∙ and_false p.writes))
          by true same = none_passes (writes_of d) (set ps k q) (λ j r at. ⊎_elim
              (λ (here : j ≡ k). ap (writes_of d) (one_some r q (sym at ∙ ap (place_at (set ps k q)) here ∙ place_there ps k p q there)) ∙ silent d)
              (λ (other : j ≢ k). ap (λ (b : Bool). r.writes && b) (ap (λ (x : EndId). is_of x r) (same_end d e same) ∙ alone j r other (sym (place_else ps k j q other) ∙ at)) ∙ and_false r.writes)
              (cases_eq j k))

    -- the end gave its writing half away
    pub yielded_of : (n o : ℕ) (is_open : Bool) (kind : Kind) (t : Told N) (i : Option I)
        → Yielded o e (has n is_open kind t ps) (has n is_open kind t (set ps k (record p { writes = false; peer = false; input = i })))
    yielded_of n o is_open kind t i = record {
      now = record {
        ends = ap (λ (l : List (Held N)). if o == n then l else []) held;
        others = λ j ne. ap (λ (l : List (Held N)). if j == n then l else []) held;
        objects = λ j. refl;
        kinds = λ j. refl;
        output = λ j. refl;
        delimiters = λ j d here at. any_same (met_of d) ps k p after there refl ∙ at;
      };
      writers = writes_but after (λ d. refl);
    }
      where
        after : Place N I
        after = record p { writes = false; peer = false; input = i }

        held : held_in (set ps k (record p { writes = false; peer = false; input = i })) ≡ held_in ps
        held = held_same ps k p (record p { writes = false; peer = false; input = i }) there refl refl

  pub turns_kept : (n : ℕ) (is_open : Bool) (kind : Kind) (t : Told N) (ps : List (Place N I)) (k : ℕ) (p q : Place N I) → place_at ps k ≡ Some p → q.held ≡ p.held → q.end ≡ p.end → q.state ≡ p.state
      → KeepsTurns (has n is_open kind t ps) (has n is_open kind t (set ps k q))
  turns_kept n is_open kind t ps k p q there held end state = record {
    states = λ i d here. state_same ps k p q d there (ap (λ (b : Bool). b && is_end d q.end) held ∙ ap (λ (x : EndId). p.held && is_end d x) end) state;
    turns = refl;
    sealed = refl;
    joined = refl;
  }

  -- the pipe of an end was to be sealed
  pub seals_of : (n : ℕ) (is_open : Bool) (kind : Kind) (t u : Told N) (e : EndId) (ps : List (Place N I)) (k : ℕ) (p q : Place N I) → place_at ps k ≡ Some p → q.held ≡ p.held → q.end ≡ p.end → q.state ≡ p.state
      → u.turns ≡ t.turns → u.sealed ≡ t.sealed ++ e ∷ [] → u.joined ≡ t.joined → Seals e (has n is_open kind t ps) (has n is_open kind u (set ps k q))
  seals_of n is_open kind t u e ps k p q there held end state same more joined = record {
    states = λ i d here. state_same ps k p q d there (ap (λ (b : Bool). b && is_end d q.end) held ∙ ap (λ (x : EndId). p.held && is_end d x) end) state;
    turns = same;
    sealed = more;
    joined = joined;
  }

  module _ (ps : List (Place N I)) (k : ℕ) (p : Place N I) (e : EndId) (there : place_at ps k ≡ Some p) (is : is_of e p ≡ true)
      (alone : (j : ℕ) (r : Place N I) → j ≢ k → place_at ps j ≡ Some r → is_of e r ≡ false) (q : Place N I) (gone : q.held ≡ false) where
    -- none is this end any more
    none_is : list_any (is_of e) (set ps k q) ≡ false
    none_is = none_passes (is_of e) (set ps k q) (λ j r at. ⊎_elim
        (λ (here : j ≡ k). ap (is_of e) (one_some r q (sym at ∙ ap (place_at (set ps k q)) here ∙ place_there ps k p q there)) ∙ ap (λ (b : Bool). b && is_end e q.end) gone)
        (λ (other : j ≢ k). alone j r other (sym (place_else ps k j q other) ∙ at))
        (cases_eq j k))

    -- an end that is held still is another
    pub is_other : (b : Bool) (d : EndId) → has_end d (if b then held_in (set ps k q) else []) ≡ true → is_end d e ≡ false
    is_other b d h = by (is_end d e) refl
      where
        by : (c : Bool) → is_end d e ≡ c → c ≡ false
        by true same = never (sym (owned b d (set ps k q) h).1 ∙ ap (λ (x : EndId). list_any (is_of x) (set ps k q)) (same_end d e same) ∙ none_is)
        by false other = refl

    same_of : (d : EndId) → is_end d e ≡ false → is_of d q ≡ is_of d p
    same_of d other = ap (λ (b : Bool). b && is_end d q.end) gone ∙ sym (else_of ps k p e there is alone d other)

    pub less_left : held_in (set ps k q) ≡ without_end e (held_in ps)
    less_left = less ps k p there is alone
      where
        kept : (xs : List (Place N I)) → list_any (is_of e) xs ≡ false → held_in xs ≡ without_end e (held_in xs)
        kept [] h = refl
        kept (x ∷ xs) h = by (kept xs (later (is_of e x) (list_any (is_of e) xs) h)) x.held refl
          where
            later : (a b : Bool) → (a || b) ≡ false → b ≡ false
            later true b h = never h
            later false b h = h

            first : (a b : Bool) → (a || b) ≡ false → a ≡ false
            first true b h = h
            first false b h = refl

            by : held_in xs ≡ without_end e (held_in xs) → (b : Bool) → x.held ≡ b → (if b then held_of x ∷ held_in xs else held_in xs) ≡ without_end e (if b then held_of x ∷ held_in xs else held_in xs)
            by rest true eb =
                ap (λ (l : List (Held N)). held_of x ∷ l) rest
                ∙ ap (λ (c : Bool). if not c then held_of x ∷ without_end e (held_in xs) else without_end e (held_in xs))
                (sym (sym (ap (λ (b : Bool). b && is_end e x.end) eb) ∙ first (is_of e x) (list_any (is_of e) xs) h))
            by rest false eb = rest

        none_else : (xs : List (Place N I)) → ((j : ℕ) (r : Place N I) → place_at xs j ≡ Some r → is_of e r ≡ false) → list_any (is_of e) xs ≡ false
        none_else xs h = none_passes (is_of e) xs h

        less : (xs : List (Place N I)) (m : ℕ) (x : Place N I) → place_at xs m ≡ Some x → is_of e x ≡ true
            → ((j : ℕ) (r : Place N I) → j ≢ m → place_at xs j ≡ Some r → is_of e r ≡ false) → held_in (set xs m q) ≡ without_end e (held_in xs)
        less [] m x at i al = cc
        less (y ∷ ys) zero x at i al =
            let y_is : is_of e y ≡ true = ap (is_of e) (one_some y x at) ∙ i in
            ap (λ (b : Bool). if b then held_of q ∷ held_in ys else held_in ys) gone
            ∙ kept ys (none_else ys (λ j r a. al (suc j) r (λ (z : suc j ≡ 0). grind arith) a))
            ∙ sym (ap (λ (b : Bool). without_end e (if b then held_of y ∷ held_in ys else held_in ys)) (held_is e y y_is)
            ∙ ap (λ (c : Bool). if not c then held_of y ∷ without_end e (held_in ys) else without_end e (held_in ys)) (and_right y.held (is_end e y.end) y_is))
        less (y ∷ ys) (suc m) x at i al = by (less ys m x at i (λ j r ne a. al (suc j) r (λ (z : suc j ≡ suc m). ne (grind arith)) a)) y.held refl
          where
            other : y.held ≡ true → is_end e y.end ≡ false
            other h = sym (ap (λ (b : Bool). b && is_end e y.end) h) ∙ al 0 y (λ (z : 0 ≡ suc m). grind arith) refl

            by : held_in (set ys m q) ≡ without_end e (held_in ys) → (b : Bool) → y.held ≡ b → (if b then held_of y ∷ held_in (set ys m q) else held_in (set ys m q)) ≡ without_end e (if b then held_of y ∷ held_in ys else held_in ys)
            by rest true eb =
                ap (λ (l : List (Held N)). held_of y ∷ l) rest
                ∙ ap (λ (c : Bool). if not c then held_of y ∷ without_end e (held_in ys) else without_end e (held_in ys)) (sym (other eb))
            by rest false eb = rest

    -- the end left
    pub left_of : (n o : ℕ) (is_open : Bool) (kind : Kind) (t u : Told N) → (o == n) ≡ true → Left o e (has n is_open kind t ps) (has n is_open kind u (set ps k q))
    left_of n o is_open kind t u mine = record {
      now = record {
        ends = ap (λ (b : Bool). if b then held_in (set ps k q) else []) mine ∙ less_left ∙ sym (ap (λ (b : Bool). without_end e (if b then held_in ps else [])) mine);
        others = λ i ne. other i ne (i == n) refl;
        objects = λ i. refl;
        kinds = λ i. refl;
        output = λ i. refl;
        delimiters = λ i d here at.
            any_same (met_of d) ps k p q there
            (ap (λ (b : Bool). q.met && b) (ap (λ (b : Bool). b && is_end d q.end) gone) ∙ and_false q.met
            ∙ sym (ap (λ (b : Bool). p.met && b) (else_of ps k p e there is alone d (is_other (i == n) d here)) ∙ and_false p.met))
            ∙ at;
      };
      writers = writes_but ps k p e there is alone q (λ d. ap (λ (b : Bool). q.writes && b) (ap (λ (b : Bool). b && is_end d q.end) gone) ∙ and_false q.writes);
    }
      where
        other : (i : ℕ) → i ≢ o → (b : Bool) → (i == n) ≡ b → (if b then held_in (set ps k q) else []) ≡ (if b then held_in ps else [])
        other i ne true same = absurd (ne (eqb-true i n same ∙ sym (eqb-true o n mine)))
        other i ne false off = refl

    -- and was taken back
    pub left_begins : (n : ℕ) (is_open : Bool) (kind : Kind) (t u : Told N) → u.turns ≡ t.turns → u.sealed ≡ t.sealed → BeginsNone (has n is_open kind t ps) (has n is_open kind u (set ps k q))
    left_begins n is_open kind t u turns sealed = record {
      states = λ i d here. gone_state ps k p q d there (same_of d (is_other (i == n) d here)) (else_of ps k p e there is alone d (is_other (i == n) d here));
      turns = turns;
      sealed = sealed;
    }
      where
        gone_state : (xs : List (Place N I)) (m : ℕ) (x y : Place N I) (d : EndId) → place_at xs m ≡ Some x → is_of d y ≡ is_of d x → is_of d x ≡ false → state_in (set xs m y) d ≡ state_in xs d
        gone_state [] m x y d at same off = refl
        gone_state (z ∷ zs) zero x y d at same off =
            ap (λ (b : Bool). if b then y.state else state_in zs d) (same ∙ off)
            ∙ sym (ap (λ (b : Bool). if b then z.state else state_in zs d) (ap (is_of d) (one_some z x at) ∙ off))
        gone_state (z ∷ zs) (suc m) x y d at same off = ap (λ (s : EndState). if is_of d z then z.state else s) (gone_state zs m x y d at same off)

    pub left_turns : (n : ℕ) (is_open : Bool) (kind : Kind) (t : Told N) → KeepsTurns (has n is_open kind t ps) (has n is_open kind t (set ps k q))
    left_turns n is_open kind t = record { states = (left_begins n is_open kind t t refl refl).states; turns = refl; sealed = refl; joined = refl }

  -- how far an end is, by its place
  pub state_at : (xs : List (Place N I)) (m : ℕ) (x : Place N I) (e : EndId) → place_at xs m ≡ Some x → is_of e x ≡ true
      → ((j : ℕ) (r : Place N I) → j ≢ m → place_at xs j ≡ Some r → is_of e r ≡ false) → state_in xs e ≡ x.state
  state_at [] m x e at is alone = cc
  state_at (z ∷ zs) zero x e at is alone =
      ap (λ (b : Bool). if b then z.state else state_in zs e) (ap (is_of e) (one_some z x at) ∙ is) ∙ ap (λ (y : Place N I). y.state) (one_some z x at)
  state_at (z ∷ zs) (suc m) x e at is alone =
      ap (λ (b : Bool). if b then z.state else state_in zs e) (alone 0 z (λ (same : 0 ≡ suc m). grind arith) refl)
      ∙ state_at zs m x e at is (λ j r ne a. alone (suc j) r (λ (same : suc j ≡ suc m). ne (grind arith)) a)

  state_else : (xs : List (Place N I)) (m : ℕ) (x y : Place N I) (d : EndId) → place_at xs m ≡ Some x → is_of d y ≡ false → is_of d x ≡ false → state_in (set xs m y) d ≡ state_in xs d
  state_else [] m x y d at off was_off = refl
  state_else (z ∷ zs) zero x y d at off was_off =
      ap (λ (b : Bool). if b then y.state else state_in zs d) off
      ∙ sym (ap (λ (b : Bool). if b then z.state else state_in zs d) (ap (is_of d) (one_some z x at) ∙ was_off))
  state_else (z ∷ zs) (suc m) x y d at off was_off = ap (λ (s : EndState). if is_of d z then z.state else s) (state_else zs m x y d at off was_off)

  -- an end was told of a state
  pub turned_of : (ps : List (Place N I)) (k : ℕ) (p : Place N I) (e : EndId) → place_at ps k ≡ Some p → is_of e p ≡ true
      → ((j : ℕ) (r : Place N I) → j ≢ k → place_at ps j ≡ Some r → is_of e r ≡ false)
      → (n : ℕ) (is_open : Bool) (kind now : Kind) (t u : Told N) (state : EndState) (peer : Bool) → u.turns ≡ t.turns ++ (if is_state p.state state then [] else (e, state) ∷ []) → u.sealed ≡ t.sealed → u.joined ≡ t.joined
      → TurnsTo e state (has n is_open kind t ps) (has n is_open now u (set ps k (record p { state = state; peer = peer })))
  turned_of ps k p e there is alone n is_open kind now t u state peer more kept joined = record {
    sealed = kept;
    joined = joined;
    states = λ i d here. by d (is_end d e) refl;
    turns = more ∙ ap (λ (s : EndState). t.turns ++ (if is_state s state then [] else (e, state) ∷ [])) (sym (state_at ps k p e there is alone));
  }
    where
      after : Place N I
      after = record p { state = state; peer = peer }

      there_now : place_at (set ps k (record p { state = state; peer = peer })) k ≡ Some (record p { state = state; peer = peer })
      there_now = place_there ps k p (record p { state = state; peer = peer }) there

      by : (d : EndId) (b : Bool) → is_end d e ≡ b → state_in (set ps k (record p { state = state; peer = peer })) d ≡ (if b then state else state_in ps d)
      by d true same =
          ap (state_in (set ps k (record p { state = state; peer = peer }))) (same_end d e same)
          ∙ state_at (set ps k (record p { state = state; peer = peer })) k (record p { state = state; peer = peer }) e there_now is
          (λ j r ne at. alone j r ne (sym (place_else ps k j (record p { state = state; peer = peer }) ne) ∙ at))
      by d false other =
          let off = else_of ps k p e there is alone d other in
          state_else ps k p (record p { state = state; peer = peer }) d there off off

  -- the last of an object's ends is one of the socket
  pub owned_last : (b : Bool) (e : EndId) (ps : List (Place N I)) → IsLast e (if b then held_in ps else []) → (b ≡ true) × (list_any (is_of e) ps ≡ true)
  owned_last true e ps l = (refl, sym (has_here e ps) ∙ ap (has_end e) l.are ∙ has_last l.before)
    where
      or_true : (b : Bool) → (b || true) ≡ true
      or_true true = refl
      or_true false = refl

      has_last : (hs : List (Held N)) → has_end e (hs ++ l.last ∷ []) ≡ true
      has_last [] = ap (λ (b : Bool). b || false) l.end
      has_last (x ∷ xs) = ap (λ (b : Bool). is_end e x.end || b) (has_last xs) ∙ or_true (is_end e x.end)
  owned_last false e ps l = absurd (no_list l.before l.are)
    where
      no_list : (hs : List (Held N)) → [] ≡ hs ++ l.last ∷ [] → ⊥
      no_list [] f = grind arith
      no_list (x ∷ xs) f = grind arith
