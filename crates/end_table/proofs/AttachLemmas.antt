-- An end is attached behind the others.
use Rattle.std.proofs.Common.{◌≡◌, ◌==◌, ◌≢◌, ◌⊎◌, inl, inr, ⊎_elim, ◌&&◌, ◌||◌, ℕ, zero, suc, ◌<◌, Bool, true, false, List, [], ◌∷◌, ◌++◌, length, length-append, Option, Some, refl, sym, ap, ◌∙◌, subst, arith, true≢false}
use Rattle.std.proofs.lemmas.Bool.{eq-eqb}
use Rattle.std.specs.List.{list_any}
use Rattle.std.specs.Prelude.{Box}
use Rattle.std.specs.declared.alloc.Global.{Global}
use Rattle.zq_base.specs.declared.ids.EndId.{EndId}
use Rattle.spec_control.specs.Control.{is_end}
use Rattle.msg_pipe.specs.Known.{Known, IsElse}
use Rattle.end_table.specs.declared.row.EndRow.{EndRow}
use Rattle.end_table.specs.Rows.{Rows, row_at}
use Rattle.end_table.specs.declared.table.Place.{Place}
use Rattle.end_table.specs.Places.{place_at, is_of}
use Rattle.end_table.specs.Attaching.{new_place, halves_of}
use Rattle.end_table.specs.Sound.{StandsSo, IsSound, Fits, AreApart}
use Rattle.end_table.proofs.PlaceLemmas.{place_within}
use Rattle.end_table.proofs.SoundLemmas.{one_some}

pub end_self : (e : EndId) → is_end e e ≡ true
end_self e = by e.a
  where
    number : (n : ℕ) → (n == n) ≡ true
    number n = eq-eqb n n refl

    by : (b : Bool) → is_end (record { pair = e.pair; a = b }) (record { pair = e.pair; a = b }) ≡ true
    by true = ap (λ (x : Bool). x && true) (number e.pair.0)
    by false = ap (λ (x : Bool). x && true) (number e.pair.0)

-- a test that none passes, at one of them
none_passes : {N I : Type 0} (test : Place N I → Bool) (ps : List (Place N I)) (k : ℕ) (p : Place N I) → list_any test ps ≡ false → place_at ps k ≡ Some p → test p ≡ false
none_passes test [] k p none at = cc
none_passes test (x ∷ xs) zero p none at = ap test (sym (one_some x p at)) ∙ first (test x) (list_any test xs) none
  where
    first : (a b : Bool) → (a || b) ≡ false → a ≡ false
    first true b h = h
    first false b h = refl
none_passes test (x ∷ xs) (suc k) p none at = none_passes test xs k p (rest (test x) (list_any test xs) none) at
  where
    rest : (a b : Bool) → (a || b) ≡ false → b ≡ false
    rest true b h = absurd (true≢false h)
    rest false b h = h

place_more : {N I : Type 0} (ps : List (Place N I)) (q : Place N I) (k : ℕ) (p : Place N I) → place_at (ps ++ q ∷ []) k ≡ Some p → (place_at ps k ≡ Some p) ⊎ ((k ≡ length ps) × (q ≡ p))
place_more [] q zero p at = inr (refl, one_some q p at)
place_more [] q (suc k) p at = cc
place_more (x ∷ xs) q zero p at = inl at
place_more (x ∷ xs) q (suc k) p at = ⊎_elim (λ h. inl h) (λ h. inr (ap suc h.0, h.1)) (place_more xs q k p at)

row_before : {O I : Type 0} (rows : Rows O I) (x : Option (Box (EndRow O I) Global)) (k : ℕ) → k < length rows → row_at (rows ++ x ∷ []) k ≡ row_at rows k
row_before [] x k lt = absurd (omega arith)
row_before (r ∷ rs) x zero lt = refl
row_before (r ∷ rs) x (suc k) lt = row_before rs x k (omega arith)

row_last : {O I : Type 0} (rows : Rows O I) (b : Box (EndRow O I) Global) → row_at (rows ++ Some b ∷ []) (length rows) ≡ Some b.value
row_last [] b = refl
row_last (r ∷ rs) b = row_last rs b

module _ {S O I N : Type 0} (K : Known S O I N) (pipes : S) (rows : Rows O I) (places : List (Place N I)) (b : Box (EndRow O I) Global) (peer : Bool)
    (sound : IsSound K pipes rows places) (fits : Fits K pipes places (halves_of b.value)) (new : list_any (is_of b.value.end) places ≡ false) (writable : b.value.writable ≡ true) where
  abbrev pub last : Place N I
  last = new_place b.value.end (K.out_name b.value.out) (K.in_name b.value.input) peer

  other_end : (k : ℕ) (p : Place N I) → place_at places k ≡ Some p → p.held ≡ true → b.value.end ≢ p.end
  other_end k p at held same =
      true≢false (sym (ap (λ (x : Bool). x && is_end b.value.end p.end) held ∙ ap (is_end b.value.end) (sym same) ∙ end_self b.value.end) ∙ none_passes (is_of b.value.end) places k p new at)

  apart_from : (k : ℕ) (p : Place N I) → place_at places k ≡ Some p → p.held ≡ true → AreApart K p last × AreApart K last p
  apart_from k p at held =
      let o = fits.others k p at held in (
        record { ends = λ same. other_end k p at held (sym same); outs = λ w _. (o.outs w).0; ins = o.ins.0 },
        record { ends = other_end k p at held; outs = λ _ w. (o.outs w).1; ins = o.ins.1 },
      )

  pub attached_sound : IsSound K pipes (rows ++ Some b ∷ []) (places ++ last ∷ [])
  attached_sound = record {
    count = let a = length-append rows (Some b ∷ []) in let c = length-append places (last ∷ []) in let s = sound.count in omega (arith, a, c, s);
    stands = λ k p at. ⊎_elim
        (λ (was : place_at places k ≡ Some p).
        let w : k < length rows = (let i = place_within places k p was in let s = sound.count in omega (arith, i, s)) in
        subst (λ (x : Option (EndRow O I)). StandsSo K pipes x p p.held p.writes) (sym (row_before rows (Some b) k w)) (sound.stands k p was))
        (λ (is : (k ≡ length places) × (last ≡ p)).
        subst (λ (x : Place N I). StandsSo K pipes (row_at (rows ++ Some b ∷ []) k) x x.held x.writes) is.1 (
          b.value,
          ap (row_at (rows ++ Some b ∷ [])) (is.0 ∙ sym sound.count) ∙ row_last rows b,
          record {
            end_is = refl;
            name_is = refl;
            there = fits.out_there;
            unsealed = λ _. fits.unsealed;
            writable_is = writable;
            reads = record { name_is = refl; there = fits.in_there; met = λ no. absurd (true≢false (sym no)) };
          },
        ))
        (place_more places last k p at);
    apart = λ j k p q ne ja kb hp hq. ⊎_elim
        (λ (a : place_at places j ≡ Some p). ⊎_elim
        (λ (c : place_at places k ≡ Some q). sound.apart j k p q ne a c hp hq)
        (λ (c : (k ≡ length places) × (last ≡ q)). subst (λ (x : Place N I). AreApart K p x) c.1 (apart_from j p a hp).0)
        (place_more places last k q kb))
        (λ (a : (j ≡ length places) × (last ≡ p)). ⊎_elim
        (λ (c : place_at places k ≡ Some q). subst (λ (x : Place N I). AreApart K x q) a.1 (apart_from k q c hq).1)
        (λ (c : (k ≡ length places) × (last ≡ q)). absurd (ne (a.0 ∙ sym c.0)))
        (place_more places last k q kb))
        (place_more places last j p ja);
    crossed = λ j k p q ja kb hp wp hq. ⊎_elim
        (λ (a : place_at places j ≡ Some p). ⊎_elim
        (λ (c : place_at places k ≡ Some q). sound.crossed j k p q a c hp wp hq)
        (λ (c : (k ≡ length places) × (last ≡ q)). subst (λ (x : Place N I). IsElse K p.written x.read) c.1 ((fits.others j p a hp).writes wp))
        (place_more places last k q kb))
        (λ (a : (j ≡ length places) × (last ≡ p)). ⊎_elim
        (λ (c : place_at places k ≡ Some q). subst (λ (x : Place N I). IsElse K x.written q.read) a.1 (fits.others k q c hq).reads)
        (λ (c : (k ≡ length places) × (last ≡ q)). subst (λ (x : Place N I). IsElse K x.written q.read) a.1 (subst (λ (x : Place N I). IsElse K last.written x.read) c.1 fits.crossed))
        (place_more places last k q kb))
        (place_more places last j p ja);
  }
