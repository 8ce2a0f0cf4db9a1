-- Sound ends whose writing halves are there are held with the pipes.
use Rattle.std.proofs.Common.{◌≡◌, ◌&&◌, not, ℕ, zero, suc, ◌<◌, Bool, true, false, List, [], ◌∷◌, length, Some, None, refl, sym, ap, ◌∙◌, subst, arith, true≢false}
use Rattle.msg_pipe.specs.Known.{Known, IsThere}
use Rattle.end_table.specs.declared.row.EndRow.{EndRow}
use Rattle.end_table.specs.Rows.{Rows, table, row_at}
use Rattle.end_table.specs.Held.{IsHeld}
use Rattle.end_table.specs.declared.table.Place.{Place}
use Rattle.end_table.specs.Places.{place_at}
use Rattle.end_table.specs.Sound.{is_active, WritesSo, StandsSo, IsSound}
use Rattle.end_table.proofs.SoundLemmas.{one_some}

row_within : {O I : Type 0} (rows : Rows O I) (k : ℕ) (row : EndRow O I) → row_at rows k ≡ Some row → k < length rows
row_within [] k row here = cc
row_within (y ∷ ys) zero row here = omega arith
row_within (y ∷ ys) (suc k) row here = let r = row_within ys k row here in omega (arith, r)

pub some_place : {N I : Type 0} (ps : List (Place N I)) (k : ℕ) → k < length ps → (p : Place N I) × (place_at ps k ≡ Some p)
some_place [] k lt = absurd (omega arith)
some_place (x ∷ xs) zero lt = (x, refl)
some_place (x ∷ xs) (suc k) lt = some_place xs k (omega arith)

module _ {S O I N : Type 0} (K : Known S O I N) (pipes : S) (rows : Rows O I) (places : List (Place N I)) (sound : IsSound K pipes rows places) where
  -- the place of a row
  pub record IsOfRow (k : ℕ) (row : EndRow O I) : Type 0 where
    pub place : Place N I
    pub at : place_at places k ≡ Some place
    pub held : place.held ≡ true
    pub writes : place.writes ≡ true
    pub stands : WritesSo K pipes row place

  pub of_row : (k : ℕ) (row : EndRow O I) → row_at rows k ≡ Some row → IsOfRow k row
  of_row k row here =
      let p = some_place places k (let w = row_within rows k row here in let c = sound.count in omega (arith, w, c)) in
      by p.0 p.1 p.0.held p.0.writes refl refl (sound.stands k p.0 p.1)
    where
      none_some : None ≡ Some row → ⊥
      none_some f = grind arith

      by : (p : Place N I) → place_at places k ≡ Some p → (h w : Bool) → p.held ≡ h → p.writes ≡ w → StandsSo K pipes (row_at rows k) p h w → IsOfRow k row
      by p at false w eh ew s = absurd (none_some (sym s ∙ here))
      by p at true true eh ew s = record { place = p; at = at; held = eh; writes = ew; stands = subst (λ (x : EndRow O I). WritesSo K pipes x p) (one_some s.0 row (sym s.1 ∙ here)) s.2 }
      by p at true false eh ew s = absurd (none_some (sym s.1 ∙ here))

  and_false : (b : Bool) → (b && false) ≡ false
  and_false true = refl
  and_false false = refl

  open_row : (row : EndRow O I) (p : Place N I) → WritesSo K pipes row p → row.writable ≡ true → (b : Bool) → p.sealed ≡ b → (K.writing pipes row.out).sealed ≡ false
  open_row row p s w true e = absurd (true≢false (sym w ∙ s.writable_is ∙ ap (λ (b : Bool). is_active p.state && not b) e ∙ and_false (is_active p.state)))
  open_row row p s w false e = s.unsealed e

  pub ends_held : IsHeld K (table pipes rows)
  ends_held = record {
    each = λ k row here.
        let r = of_row k row here in
        record {
          out = subst (IsThere K pipes) (sym r.stands.name_is) r.stands.there;
          input = subst (IsThere K pipes) (sym r.stands.reads.name_is) r.stands.reads.there;
          unsealed = λ w. open_row row r.place r.stands w r.place.sealed refl;
        };
    two = λ j k a b ne ja kb.
        let x = of_row j a ja in
        let y = of_row k b kb in
        let t = sound.apart j k x.place y.place ne x.at y.at x.held y.held in
        record {
          ends = λ same. t.ends (sym x.stands.end_is ∙ same ∙ y.stands.end_is);
          outs = λ ex same. t.outs x.writes y.writes ex (sym x.stands.name_is ∙ same ∙ y.stands.name_is);
          ins = λ ex same. t.ins ex (sym x.stands.reads.name_is ∙ same ∙ y.stands.reads.name_is);
        };
  }
