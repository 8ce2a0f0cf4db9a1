-- One end of an owner changes, and the others stand as they did.
use Rattle.std.proofs.Common.{◌≡◌, ◌≢◌, ⊎_elim, ℕ, Bool, true, false, List, length, set, length-set, Option, Some, None, refl, sym, ap, ◌∙◌, subst}
use Rattle.std.proofs.lemmas.Bool.{cases_eq}
use Rattle.spec_pattern.specs.Half.{Writing, Reading}
use Rattle.msg_pipe.specs.Known.{Known, IsThere, KeepsAll, KeepsButOut, KeepsButPipe}
use Rattle.end_table.specs.declared.row.EndRow.{EndRow}
use Rattle.end_table.specs.Rows.{Rows, row_at}
use Rattle.end_table.specs.declared.table.Place.{Place}
use Rattle.end_table.specs.Places.{place_at}
use Rattle.end_table.specs.Sound.{ReadsSo, StandsSo, IsSound}
use Rattle.end_table.specs.Others.{IsLess}
use Rattle.end_table.proofs.PlaceLemmas.{place_there, place_else}

some_or : {A : Type 0} → A → Option A → A
some_or d (Some a) = a
some_or d None = d

pub one_some : {A : Type 0} (a b : A) → Some a ≡ Some b → a ≡ b
unfolding some_or
one_some a b e = ap (some_or a) e

module _ {S O I N : Type 0} (K : Known S O I N) where
  -- pipes changed, and what is known of the halves at a place did not
  pub record Carries (pipes pipes' : S) (r : Place N I) : Type 0 where
    pub there_out : r.held ≡ true → r.writes ≡ true → IsThere K pipes r.written → IsThere K pipes' r.written
    pub there_in : r.held ≡ true → IsThere K pipes r.read → IsThere K pipes' r.read
    pub outs : r.held ≡ true → r.writes ≡ true → (o : O) → K.out_name o ≡ r.written → IsThere K pipes r.written → K.writing pipes' o ≡ K.writing pipes o
    pub ins : r.held ≡ true → (i : I) → K.in_name i ≡ r.read → IsThere K pipes r.read → K.reading pipes' i ≡ K.reading pipes i

  pub all_carried : (pipes : S) (r : Place N I) → Carries pipes pipes r
  all_carried pipes r = record { there_out = λ h w t. t; there_in = λ h t. t; outs = λ h w o e t. refl; ins = λ h i e t. refl }

  reads_on : (pipes pipes' : S) (r : Place N I) → Carries pipes pipes' r → r.held ≡ true → (i : I) → ReadsSo K pipes i r → ReadsSo K pipes' i r
  reads_on pipes pipes' r c held i s = record {
    name_is = s.name_is;
    there = c.there_in held s.there;
    met = λ m. ap (λ (x : Reading). x.ended) (c.ins held i s.name_is s.there) ∙ s.met m;
  }

  pub carried : (pipes pipes' : S) (row : Option (EndRow O I)) (r : Place N I) → Carries pipes pipes' r → (h w : Bool) → r.held ≡ h → r.writes ≡ w → StandsSo K pipes row r h w → StandsSo K pipes' row r h w
  carried pipes pipes' row r c false w eh ew s = s
  carried pipes pipes' row r c true true eh ew s = (
    s.0,
    s.1,
    record {
      end_is = s.2.end_is;
      name_is = s.2.name_is;
      there = c.there_out eh ew s.2.there;
      unsealed = λ n. ap (λ (x : Writing). x.sealed) (c.outs eh ew s.0.out s.2.name_is s.2.there) ∙ s.2.unsealed n;
      writable_is = s.2.writable_is;
      reads = reads_on pipes pipes' r c eh s.0.input s.2.reads;
    },
  )
  carried pipes pipes' row r c true false eh ew s = (s.0, s.1, s.2, reads_on pipes pipes' r c eh s.0 s.3)

  module _ (pipes pipes' : S) (rows rows' : Rows O I) (places : List (Place N I)) (k : ℕ) (p q : Place N I)
      (sound : IsSound K pipes rows places) (there : place_at places k ≡ Some p) (less : IsLess p q) where
    -- the place that stands at a number now was there before
    was : (j : ℕ) (r : Place N I) → place_at (set places k q) j ≡ Some r → (s : Place N I) × (place_at places j ≡ Some s) × IsLess s r
    was j r now = ⊎_elim
        (λ (same : j ≡ k). (p, ap (place_at places) same ∙ there, subst (IsLess p) (one_some q r (sym (place_there places k p q there) ∙ ap (place_at (set places k q)) (sym same) ∙ now)) less))
        (λ (other : j ≢ k). (r, sym (place_else places k j q other) ∙ now, record { end_is = refl; written_is = refl; read_is = refl; held = λ h. h; writes = λ h. h }))
        (cases_eq j k)

    -- the ends are sound where the one that changed stands so, and the others are carried
    pub updated : length rows' ≡ length rows → StandsSo K pipes' (row_at rows' k) q q.held q.writes
        → ((j : ℕ) → j ≢ k → row_at rows' j ≡ row_at rows j)
        → ((j : ℕ) (r : Place N I) → j ≢ k → place_at places j ≡ Some r → Carries pipes pipes' r)
        → IsSound K pipes' rows' (set places k q)
    updated count stands others carries = record {
      count = count ∙ sound.count ∙ sym (length-set places k q);
      stands = λ j r now. ⊎_elim
          (λ (same : j ≡ k).
          let is : q ≡ r = one_some q r (sym (place_there places k p q there) ∙ ap (place_at (set places k q)) (sym same) ∙ now) in
          subst (λ (n : ℕ). StandsSo K pipes' (row_at rows' n) r r.held r.writes) (sym same)
          (subst (λ (x : Place N I). StandsSo K pipes' (row_at rows' k) x x.held x.writes) is stands))
          (λ (other : j ≢ k).
          let before : place_at places j ≡ Some r = sym (place_else places k j q other) ∙ now in
          subst (λ (x : Option (EndRow O I)). StandsSo K pipes' x r r.held r.writes) (sym (others j other))
          (carried pipes pipes' (row_at rows j) r (carries j r other before) r.held r.writes refl refl (sound.stands j r before)))
          (cases_eq j k);
      apart = λ i j a b ne ia jb ha hb.
          let x = was i a ia in
          let y = was j b jb in
          let old = sound.apart i j x.0 y.0 ne x.1 y.1 (x.2.held ha) (y.2.held hb) in
          record {
            ends = λ e. old.ends (sym x.2.end_is ∙ e ∙ y.2.end_is);
            outs = λ wa wb ex e. old.outs (x.2.writes wa) (y.2.writes wb) ex (sym x.2.written_is ∙ e ∙ y.2.written_is);
            ins = λ ex e. old.ins ex (sym x.2.read_is ∙ e ∙ y.2.read_is);
          };
      crossed = λ i j a b ia jb ha wa hb ex e.
          let x = was i a ia in
          let y = was j b jb in
          sound.crossed i j x.0 y.0 x.1 y.1 (x.2.held ha) (x.2.writes wa) (y.2.held hb) ex (sym x.2.written_is ∙ e ∙ y.2.read_is);
    }

  -- a call on the writing half of one end leaves the others
  pub others_written : (pipes pipes' : S) (rows : Rows O I) (places : List (Place N I)) (k : ℕ) (p : Place N I) (o o' : O)
      → IsSound K pipes rows places → place_at places k ≡ Some p → p.held ≡ true → p.writes ≡ true → K.out_name o ≡ p.written → KeepsButOut K o o' pipes pipes'
      → (j : ℕ) (r : Place N I) → j ≢ k → place_at places j ≡ Some r → Carries pipes pipes' r
  others_written pipes pipes' rows places k p o o' sound there held writes name keeps j r ne at = record {
    there_out = λ h w t. keeps.there r.written t;
    there_in = λ h t. keeps.there r.read t;
    outs = λ h w x e t. keeps.outs x (subst (IsThere K pipes) (sym e) t) (λ ex same. (sound.apart j k r p ne at there h held).outs w writes ex (sym e ∙ same ∙ name));
    ins = λ h i e t. keeps.ins i (subst (IsThere K pipes) (sym e) t);
  }

  -- the pipe that one end read is gone, and the others are left
  pub others_settled : (pipes pipes' : S) (rows : Rows O I) (places : List (Place N I)) (k : ℕ) (p : Place N I) (n : N)
      → IsSound K pipes rows places → place_at places k ≡ Some p → p.held ≡ true → n ≡ p.read → KeepsButPipe K n pipes pipes'
      → (j : ℕ) (r : Place N I) → j ≢ k → place_at places j ≡ Some r → Carries pipes pipes' r
  others_settled pipes pipes' rows places k p n sound there held name keeps j r ne at = record {
    there_out = λ h w t. keeps.there r.written t;
    there_in = λ h t. keeps.there r.read t;
    outs = λ h w x e t. keeps.outs x (subst (IsThere K pipes) (sym e) t) (λ ex same. sound.crossed j k r p at there h w held ex (sym e ∙ same ∙ name));
    ins = λ h i e t. keeps.ins i (subst (IsThere K pipes) (sym e) t) (λ ex same. (sound.apart j k r p ne at there h held).ins ex (sym e ∙ same ∙ name));
  }

  -- a pipe was made, and all ends are left
  pub all_kept : (pipes pipes' : S) (rows : Rows O I) (places : List (Place N I)) → KeepsAll K pipes pipes' → IsSound K pipes rows places → IsSound K pipes' rows places
  all_kept pipes pipes' rows places keeps sound = record {
    count = sound.count;
    stands = λ k p at. carried pipes pipes' (row_at rows k) p (record {
      there_out = λ h w t. keeps.there p.written t;
      there_in = λ h t. keeps.there p.read t;
      outs = λ h w o e t. keeps.outs o (subst (IsThere K pipes) (sym e) t);
      ins = λ h i e t. keeps.ins i (subst (IsThere K pipes) (sym e) t);
    }) p.held p.writes refl refl (sound.stands k p at);
    apart = sound.apart;
    crossed = sound.crossed;
  }
