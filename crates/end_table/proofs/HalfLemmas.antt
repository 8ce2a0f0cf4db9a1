-- What is done to the halves of one end keeps the ends of its owner sound.
use Rattle.std.proofs.Common.{◌≡◌, ◌+◌, ◌-◌, ◌&&◌, not, ℕ, zero, suc, ◌<◌, Bool, true, false, List, [], ◌∷◌, length, length-append, set, length-set, Option, Some, None, refl, sym, ap, ◌∙◌, subst, arith, true≢false}
use Rattle.std.specs.Prelude.{Box, slice_index_or}
use Rattle.std.specs.declared.alloc.Global.{Global}
use Rattle.spec_pattern.specs.Half.{Writing, Reading, AreHalves, with_delimiter}
use Rattle.zq_base.specs.declared.ids.Settled.{Settled}
use Rattle.spec_control.specs.declared.end.EndState.{EndState}
use Rattle.msg_pipe.specs.Known.{Known, IsThere, KeepsButOut, KeepsButPipe}
use Rattle.end_table.specs.declared.row.EndRow.{EndRow}
use Rattle.end_table.specs.Rows.{Rows, unboxed, row_at}
use Rattle.end_table.specs.declared.table.Place.{Place}
use Rattle.end_table.specs.Places.{place_at}
use Rattle.end_table.specs.Giving.{GivenAt, given_of, gone_place}
use Rattle.end_table.specs.Sound.{is_active, ReadsSo, WritesSo, StandsSo, IsSound}
use Rattle.end_table.proofs.PlaceLemmas.{row_there, row_else, row_found, place_within}
use Rattle.end_table.proofs.SoundLemmas.{one_some, all_carried, updated, others_written, others_settled}

-- a place that is sealed is left
pub sealed_already : {N I : Type 0} (ps : List (Place N I)) (k : ℕ) (p : Place N I) → place_at ps k ≡ Some p → p.sealed ≡ true → ps ≡ set ps k (record p { sealed = true })
sealed_already [] k p h e = refl
sealed_already (x ∷ xs) zero p h e =
    ap (λ (y : Place _ _). y ∷ xs) (one_some x p h ∙ ap (λ (b : Bool). record p { sealed = b }) e)
sealed_already (x ∷ xs) (suc k) p h e = ap (λ (l : List (Place _ _)). x ∷ l) (sealed_already xs k p h e)

and_false : (b : Bool) → (b && false) ≡ false
and_false true = refl
and_false false = refl

-- two halves of one pipe: what was committed is what was taken and what is left
pub adds_up : (v : Writing) (r : Reading) (c : Settled) → AreHalves v r → c.sent ≡ length v.committed → c.got ≡ length r.taken → c.rest ≡ c.sent - c.got → c.sent ≡ c.got + c.rest
adds_up v r c halves sent got rest =
    let n = length-append r.taken halves.taken.0 in
    let e = ap length halves.taken.1 in
    omega (arith, n, e, sent, got, rest)

-- and nothing is left where the delimiter was met
pub nothing_left : (v : Writing) (r : Reading) (c : Settled) → AreHalves v r → r.ended ≡ true → c.sent ≡ length v.committed → c.got ≡ length r.taken → c.rest ≡ c.sent - c.got → c.rest ≡ 0
nothing_left v r c halves ended sent got rest = let e = ap length (halves.ended ended).1 in omega (arith, e, sent, got, rest)

pub no_input : {I : Type 0} (i : I) (x : Option I) → x ≡ None → x ≡ Some i → ⊥
no_input i x none some = absurd (clash (sym none ∙ some))
  where
    clash : None ≡ Some i → ⊥
    clash f = grind arith

module _ {S O I N : Type 0} (K : Known S O I N) where
  -- both halves of an end whose writing half is there stand in a row
  pub stands_writing : (pipes : S) (row : Option (EndRow O I)) (p : Place N I) (h w : Bool) → h ≡ true → w ≡ true → StandsSo K pipes row p h w → (r : EndRow O I) × (row ≡ Some r) × WritesSo K pipes r p
  stands_writing pipes row p true true eh ew s = s
  stands_writing pipes row p true false eh ew s = absurd (true≢false (sym ew))
  stands_writing pipes row p false w eh ew s = absurd (true≢false (sym eh))

  -- and else its reading half stands at the place
  pub stands_reading : (pipes : S) (row : Option (EndRow O I)) (p : Place N I) (h w : Bool) → h ≡ true → w ≡ false → StandsSo K pipes row p h w → (i : I) × (row ≡ None) × (p.input ≡ Some i) × ReadsSo K pipes i p
  stands_reading pipes row p true true eh ew s = absurd (true≢false ew)
  stands_reading pipes row p true false eh ew s = s
  stands_reading pipes row p false w eh ew s = absurd (true≢false (sym eh))

  module _ (pipes : S) (rows : Rows O I) (places : List (Place N I)) (k : ℕ) (p : Place N I)
      (sound : IsSound K pipes rows places) (there : place_at places k ≡ Some p) (held : p.held ≡ true) where
    pub within : k < length rows
    within = let w = place_within places k p there in let c = sound.count in omega (arith, w, c)

    -- the row that the code finds at a place
    pub found_row : (x : Option (Box (EndRow O I) Global)) (b : Box (EndRow O I) Global) (r : EndRow O I) → p.writes ≡ true
        → x ≡ slice_index_or rows k x → x ≡ Some b → r ≡ b.value → (row_at rows k ≡ Some r) × WritesSo K pipes r p
    found_row x b r writes e is value =
        let s = stands_writing pipes (row_at rows k) p p.held p.writes held writes (sound.stands k p there) in
        let here : row_at rows k ≡ Some r = sym (row_found rows k x within e) ∙ ap unboxed is ∙ ap Some (sym value) in
        (here, subst (λ (z : EndRow O I). WritesSo K pipes z p) (one_some s.0 r (sym s.1 ∙ here)) s.2)

    -- there is one
    pub never_none : (x : Option (Box (EndRow O I) Global)) → p.writes ≡ true → x ≡ slice_index_or rows k x → x ≡ None → ⊥
    never_none x writes e is =
        let s = stands_writing pipes (row_at rows k) p p.held p.writes held writes (sound.stands k p there) in
        let bad : None ≡ Some s.0 = ap unboxed (sym is) ∙ row_found rows k x within e ∙ s.1 in
        none_some s.0 bad
      where
        none_some : (r : EndRow O I) → None ≡ Some r → ⊥
        none_some r f = grind arith

    pub sealed_sound : (pipes' : S) (r : EndRow O I) (o : O) (b : Box (EndRow O I) Global) → p.writes ≡ true → row_at rows k ≡ Some r → WritesSo K pipes r p
        → K.writing pipes' o ≡ with_delimiter (K.writing pipes r.out) → KeepsButOut K r.out o pipes pipes' → b.value ≡ record r { out = o; writable = false }
        → IsSound K pipes' (set rows k (Some b)) (set places k (record p { sealed = true }))
    sealed_sound pipes' r o b writes here stands seals keeps value =
        updated K pipes pipes' rows (set rows k (Some b)) places k p (record p { sealed = true }) sound there
        (record { end_is = refl; written_is = refl; read_is = refl; held = λ h. h; writes = λ h. h })
        (length-set rows k (Some b))
        (again p.held p.writes held writes)
        (λ j ne. row_else rows k j (Some b) ne)
        (others_written K pipes pipes' rows places k p r.out o sound there held writes stands.name_is keeps)
      where
        now : EndRow O I
        now = record r { out = o; writable = false }

        after : Place N I
        after = record p { sealed = true }

        again : (h w : Bool) → h ≡ true → w ≡ true → StandsSo K pipes' (row_at (set rows k (Some b)) k) after h w
        again true true eh ew = (
          now,
          row_there rows k (Some b) within ∙ ap Some value,
          record {
            end_is = stands.end_is;
            name_is = keeps.name_is ∙ stands.name_is;
            there = keeps.there p.written stands.there;
            unsealed = λ no. absurd (true≢false no);
            writable_is = sym (and_false (is_active p.state));
            reads = record {
              name_is = stands.reads.name_is;
              there = keeps.there p.read stands.reads.there;
              met = λ m. ap (λ (x : Reading). x.ended) (keeps.ins r.input (subst (IsThere K pipes) (sym stands.reads.name_is) stands.reads.there)) ∙ stands.reads.met m;
            };
          },
        )
        again true false eh ew = absurd (true≢false (sym ew))
        again false w eh ew = absurd (true≢false (sym eh))

    pub yielded_sound : (pipes' : S) (r : EndRow O I) (o : O) → p.writes ≡ true → row_at rows k ≡ Some r → WritesSo K pipes r p
        → KeepsButOut K r.out o pipes pipes'
        → IsSound K pipes' (set rows k None) (set places k (record p { writes = false; peer = false; input = Some r.input }))
    yielded_sound pipes' r o writes here stands keeps =
        updated K pipes pipes' rows (set rows k None) places k p after sound there
        (record { end_is = refl; written_is = refl; read_is = refl; held = λ h. h; writes = λ h. absurd (true≢false (sym h)) })
        (length-set rows k None)
        (again p.held held)
        (λ j ne. row_else rows k j None ne)
        (others_written K pipes pipes' rows places k p r.out o sound there held writes stands.name_is keeps)
      where
        after : Place N I
        after = record p { writes = false; peer = false; input = Some r.input }

        again : (h : Bool) → h ≡ true → StandsSo K pipes' (row_at (set rows k None) k) after h false
        again true eh = (
          r.input,
          row_there rows k None within,
          refl,
          record {
            name_is = stands.reads.name_is;
            there = keeps.there p.read stands.reads.there;
            met = λ m. ap (λ (x : Reading). x.ended) (keeps.ins r.input (subst (IsThere K pipes) (sym stands.reads.name_is) stands.reads.there)) ∙ stands.reads.met m;
          },
        )
        again false eh = absurd (true≢false (sym eh))

    -- what stands at the place of an end that gave its writing half away
    pub reading_there : p.writes ≡ false → (i : I) × (row_at rows k ≡ None) × (p.input ≡ Some i) × ReadsSo K pipes i p
    reading_there yielded = stands_reading pipes (row_at rows k) p p.held p.writes held yielded (sound.stands k p there)

    pub settled_sound : (pipes' : S) (n : N) → p.writes ≡ false → n ≡ p.read → KeepsButPipe K n pipes pipes'
        → IsSound K pipes' rows (set places k (record p { held = false; input = None }))
    settled_sound pipes' n yielded name keeps =
        updated K pipes pipes' rows rows places k p (record p { held = false; input = None }) sound there
        (record { end_is = refl; written_is = refl; read_is = refl; held = λ h. absurd (true≢false (sym h)); writes = λ h. h })
        refl
        (reading_there yielded).1
        (λ j ne. refl)
        (others_settled K pipes pipes' rows places k p n sound there held name keeps)

    -- an end goes to a state, and is written or not by it
    pub stated_sound : (state : EndState) (peer : Bool) (r : EndRow O I) (b : Box (EndRow O I) Global) → p.writes ≡ true → row_at rows k ≡ Some r → WritesSo K pipes r p
        → b.value ≡ record r { writable = is_active state && not p.sealed }
        → IsSound K pipes (set rows k (Some b)) (set places k (record p { state = state; peer = peer }))
    stated_sound state peer r b writes here stands value =
        updated K pipes pipes rows (set rows k (Some b)) places k p after sound there
        (record { end_is = refl; written_is = refl; read_is = refl; held = λ h. h; writes = λ h. h })
        (length-set rows k (Some b))
        (again p.held p.writes held writes)
        (λ j ne. row_else rows k j (Some b) ne)
        (λ j r ne at. all_carried K pipes r)
      where
        after : Place N I
        after = record p { state = state; peer = peer }

        now : EndRow O I
        now = record r { writable = is_active state && not p.sealed }

        again : (h w : Bool) → h ≡ true → w ≡ true → StandsSo K pipes (row_at (set rows k (Some b)) k) after h w
        again true true eh ew = (
          now,
          row_there rows k (Some b) within ∙ ap Some value,
          record {
            end_is = stands.end_is;
            name_is = stands.name_is;
            there = stands.there;
            unsealed = stands.unsealed;
            writable_is = refl;
            reads = record { name_is = stands.reads.name_is; there = stands.reads.there; met = stands.reads.met };
          },
        )
        again true false eh ew = absurd (true≢false (sym ew))
        again false w eh ew = absurd (true≢false (sym eh))

    -- one without its writing half has no row
    pub read_sound : (state : EndState) (peer : Bool) → p.writes ≡ false → IsSound K pipes rows (set places k (record p { state = state; peer = peer }))
    read_sound state peer yielded =
        updated K pipes pipes rows rows places k p after sound there
        (record { end_is = refl; written_is = refl; read_is = refl; held = λ h. h; writes = λ h. h })
        refl
        (again p.held p.writes held yielded)
        (λ j ne. refl)
        (λ j r ne at. all_carried K pipes r)
      where
        after : Place N I
        after = record p { state = state; peer = peer }

        again : (h w : Bool) → h ≡ true → w ≡ false → StandsSo K pipes (row_at rows k) after h w
        again true true eh ew = absurd (true≢false ew)
        again true false eh ew =
            let s = reading_there yielded in
            (s.0, s.1, s.2, record { name_is = s.3.name_is; there = s.3.there; met = s.3.met })
        again false w eh ew = absurd (true≢false (sym eh))

    -- no row is found where the writing half is gone
    pub never_row : (x : Option (Box (EndRow O I) Global)) (b : Box (EndRow O I) Global) → p.writes ≡ false → x ≡ slice_index_or rows k x → x ≡ Some b → ⊥
    never_row x b yielded e is =
        let bad : Some b.value ≡ None = ap unboxed (sym is) ∙ row_found rows k x within e ∙ (reading_there yielded).1 in
        clash b.value bad
      where
        clash : (r : EndRow O I) → Some r ≡ None → ⊥
        clash r f = grind arith

    -- an end is gone with its halves
    pub taken_sound : IsSound K pipes (set rows k None) (set places k (record p { held = false; writes = false }))
    taken_sound =
        updated K pipes pipes rows (set rows k None) places k p (record p { held = false; writes = false }) sound there
        (record { end_is = refl; written_is = refl; read_is = refl; held = λ h. absurd (true≢false (sym h)); writes = λ h. absurd (true≢false (sym h)) })
        (length-set rows k None)
        (row_there rows k None within)
        (λ j ne. row_else rows k j None ne)
        (λ j r ne at. all_carried K pipes r)

    -- where a row is found the writing half is there, and else it is gone
    pub row_writes : (x : Option (Box (EndRow O I) Global)) (b : Box (EndRow O I) Global) → x ≡ slice_index_or rows k x → x ≡ Some b → p.writes ≡ true
    row_writes x b e is = by p.writes refl
      where
        by : (w : Bool) → p.writes ≡ w → w ≡ true
        by true h = refl
        by false h = absurd (never_row x b h e is)

    pub none_yielded : (x : Option (Box (EndRow O I) Global)) → x ≡ slice_index_or rows k x → x ≡ None → p.writes ≡ false
    none_yielded x e is = by p.writes refl
      where
        by : (w : Bool) → p.writes ≡ w → w ≡ false
        by true h = absurd (never_none x h e is)
        by false h = refl

    -- an end that was given is gone with its halves
    pub given_sound : (x : Option (Box (EndRow O I) Global)) → x ≡ None → IsSound K pipes (set rows k x) (set places k (gone_place p))
    given_sound x none = subst (λ (y : Option (Box (EndRow O I) Global)). IsSound K pipes (set rows k y) (set places k (gone_place p))) (sym none) (
        updated K pipes pipes rows (set rows k None) places k p (gone_place p) sound there
        (record { end_is = refl; written_is = refl; read_is = refl; held = λ h. absurd (true≢false (sym h)); writes = λ h. absurd (true≢false (sym h)) })
        (length-set rows k None)
        (row_there rows k None within)
        (λ j ne. row_else rows k j None ne)
        (λ j r ne at. all_carried K pipes r)
        )

    -- with both halves, or the reading half alone
    pub given_both : (r : EndRow O I) → p.writes ≡ true → WritesSo K pipes r p → GivenAt K pipes k (given_of p (Some r.out) r.input) places (set places k (gone_place p))
    given_both r writes stands = record {
      place = p;
      there = there;
      said = λ i. record { end = p.end; written = p.written; read = stands.reads.name_is i; writes = sym writes i; met = p.met; sealed = p.sealed; state = p.state };
      halves = record {
        read_there = subst (IsThere K pipes) (sym stands.reads.name_is) stands.reads.there;
        met = stands.reads.met;
        out_is = λ o e. ap K.out_name (sym (one_some r.out o e)) ∙ stands.name_is;
        written_there = λ o e. stands.there;
        unsealed = λ o e s. ap (λ (x : O). (K.writing pipes x).sealed) (sym (one_some r.out o e)) ∙ stands.unsealed s;
      };
      now = refl;
    }

    pub given_half : (i : I) → p.writes ≡ false → ReadsSo K pipes i p → GivenAt K pipes k (given_of {O = O} p None i) places (set places k (gone_place p))
    given_half i yielded reads = record {
      place = p;
      there = there;
      said = λ j. record { end = p.end; written = p.written; read = reads.name_is j; writes = sym yielded j; met = p.met; sealed = p.sealed; state = p.state };
      halves = record {
        read_there = subst (IsThere K pipes) (sym reads.name_is) reads.there;
        met = reads.met;
        out_is = λ o e. absurd (none_some o e);
        written_there = λ o e. absurd (none_some o e);
        unsealed = λ o e s. absurd (none_some o e);
      };
      now = refl;
    }
      where
        none_some : (o : O) → None ≡ Some o → ⊥
        none_some o f = grind arith
