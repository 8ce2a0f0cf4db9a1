-- What the logs of a socket say of its ends, after a call on one of them.
use Rattle.std.proofs.Common.{◌≡◌, ◌∙◌, ◌&&◌, ◌||◌, ℕ, Bool, true, false, List, [], ◌∷◌, ◌++◌, set, Some, refl, sym, ap, subst, arith, true≢false}
use Rattle.std.specs.List.{list_any}
use Rattle.std.proofs.Math.Logic.{∥∥₁_map}
use Rattle.std.proofs.lemmas.List.Elements.{All-push}
use Rattle.zq_base.specs.declared.ids.EndId.{EndId}
use Rattle.spec_control.specs.Control.{is_end}
use Rattle.end_table.specs.declared.table.Place.{Place}
use Rattle.end_table.specs.Places.{place_at, is_of}
use Rattle.end_table.specs.Giving.{AreGone}
use Rattle.end_table.specs.Others.{KeepsPlaces}
use Rattle.end_table.proofs.ChangeLemmas.{not_back}
use Rattle.end_table.proofs.EndsLemmas.{some_place}
use Rattle.end_table.proofs.PlaceLemmas.{place_within}
use Rattle.sock_core.specs.Noted.{ReadsNoMore, WereRead, AreSealed}
use Rattle.sock_core.proofs.FindLemmas.{end_is}
use Rattle.sock_core.proofs.FlagLemmas.{at_set, at_more}
use Rattle.sock_core.proofs.GoneLemmas.{gone_at}

second_of : (a b : Bool) → a && b ≡ true → b ≡ true
second_of true b h = h
second_of false b h = absurd (true≢false (sym h))

or_last : (b : Bool) → (b || true) ≡ true
or_last true = refl
or_last false = refl

any_before : (e : EndId) (xs ys : List EndId) → list_any (is_end e) xs ≡ true → list_any (is_end e) (xs ++ ys) ≡ true
any_before e [] ys h = absurd (true≢false (sym h))
any_before e (x ∷ xs) ys h = by (any_before e xs ys) (is_end e x) h
  where
    by : (list_any (is_end e) xs ≡ true → list_any (is_end e) (xs ++ ys) ≡ true) → (b : Bool) → (b || list_any (is_end e) xs) ≡ true → (b || list_any (is_end e) (xs ++ ys)) ≡ true
    by rest true h = refl
    by rest false h = rest h

any_last : (e x : EndId) (xs : List EndId) → is_end e x ≡ true → list_any (is_end e) (xs ++ x ∷ []) ≡ true
any_last e x [] h = ap (λ (b : Bool). b || false) h
any_last e x (y ∷ ys) h = ap (λ (b : Bool). is_end e y || b) (any_last e x ys h) ∙ or_last (is_end e y)

module _ {N I : Type 0} where
  -- ---- what was settled

  no_more : (ps qs : List (Place N I)) (n : N) → KeepsPlaces ps qs → ReadsNoMore ps n → ReadsNoMore qs n
  no_more ps qs n keeps r =
      let q = some_place qs r.at (let w = place_within ps r.at r.place r.there in let m = keeps.count in omega (arith, w, m)) in
      let less = keeps.each r.at r.place q.0 r.there q.1 in
      record { at = r.at; place = q.0; there = q.1; gone = not_back r.place.held q.0.held less.held r.gone; name_is = less.read_is ∙ r.name_is }

  were_read_kept : (ps qs : List (Place N I)) (xs : List (N × Unit {0})) → KeepsPlaces ps qs → WereRead ps xs → WereRead qs xs
  were_read_kept ps qs xs keeps h = λ k d lt. ∥∥₁_map (h k d lt) (no_more ps qs _ keeps)

  -- none was settled
  pub were_read_on : (ps qs : List (Place N I)) (xs ys : List (N × Unit {0})) → KeepsPlaces ps qs → ys ≡ xs → WereRead ps xs → WereRead qs ys
  were_read_on ps qs xs ys keeps same h = subst (WereRead qs) (sym same) (were_read_kept ps qs xs keeps h)

  -- one was, that this end read
  pub were_read_more : (ps qs : List (Place N I)) (xs ys : List (N × Unit {0})) (n : N) → KeepsPlaces ps qs → ys ≡ xs ++ (n, tt) ∷ [] → ReadsNoMore qs n → WereRead ps xs → WereRead qs ys
  were_read_more ps qs xs ys n keeps more one h =
      subst (WereRead qs) (sym more) (All-push (λ (x : N × Unit {0}). ∥ ReadsNoMore qs x.0 ∥₁) xs (n, tt) (were_read_kept ps qs xs keeps h) ∣ one ∣₁)

  -- ---- what was sealed

  pub sealed_set : (ps : List (Place N I)) (k : ℕ) (p q : Place N I) (es : List EndId) → AreSealed ps es → place_at ps k ≡ Some p
      → (q.held ≡ true → p.held ≡ true) → q.end ≡ p.end → q.sealed ≡ p.sealed → AreSealed (set ps k q) es
  sealed_set ps k p q es are there held end sealed = λ j r at had was.
      at_set ps k j p q r there at
      (λ e same. ap (λ (x : EndId). list_any (is_end x) es) (ap (λ (x : Place N I). x.end) same ∙ end)
      ∙ are k p there (held (ap (λ (x : Place N I). x.held) (sym same) ∙ had)) (sym sealed ∙ ap (λ (x : Place N I). x.sealed) (sym same) ∙ was))
      (λ off was_at. are j r was_at had was)

  pub end_same : (e : EndId) (p : Place N I) → is_of e p ≡ true → is_end p.end e ≡ true
  end_same e p is =
      let same = end_is e p is in
      subst (λ (x : EndId). is_end x e ≡ true) same (subst (λ (x : EndId). is_end e x ≡ true) (sym same) (second_of p.held (is_end e p.end) is))

  -- one more end was sealed
  pub sealed_one : (ps : List (Place N I)) (k : ℕ) (p q : Place N I) (e : EndId) (es fs : List EndId) → AreSealed ps es → place_at ps k ≡ Some p
      → is_end q.end e ≡ true → fs ≡ es ++ e ∷ [] → AreSealed (set ps k q) fs
  sealed_one ps k p q e es fs are there end more = subst (AreSealed (set ps k q)) (sym more) (λ j r at had was.
      at_set ps k j p q r there at
      (λ at_k same. ap (λ (x : Place N I). list_any (is_end x.end) (es ++ e ∷ [])) same ∙ any_last q.end e es end)
      (λ off was_at. any_before r.end es (e ∷ []) (are j r was_at had was)))

  pub sealed_more : (ps : List (Place N I)) (q : Place N I) (es : List EndId) → AreSealed ps es → q.sealed ≡ false → AreSealed (ps ++ q ∷ []) es
  sealed_more ps q es are not_yet = λ j r at had was.
      at_more ps q r j at
      (λ e same. absurd (true≢false (sym was ∙ ap (λ (x : Place N I). x.sealed) same ∙ not_yet)))
      (λ was_at. are j r was_at had was)

  -- where none is held there is none
  pub sealed_gone : (ps : List (Place N I)) (es : List EndId) → AreGone ps → AreSealed ps es
  sealed_gone ps es gone = λ k p at held sealed. absurd (true≢false (sym held ∙ gone_at ps k p gone at))
