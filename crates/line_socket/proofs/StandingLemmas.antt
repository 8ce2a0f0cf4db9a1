-- The ends that a socket holds are told where they are, where its caller's moments say so.
use Rattle.std.proofs.Common.{◌≡◌, ◌≢◌, ◌∙◌, ◌&&◌, ◌||◌, ℕ, zero, suc, Bool, true, false, List, [], ◌∷◌, map, Option, Some, None, refl, sym, ap, true≢false, if◌then◌else◌, arith}
use Rattle.std.specs.List.{list_any}
use Rattle.zq_base.specs.declared.ids.EndId.{EndId}
use Rattle.spec_control.specs.Place.{At, is_here}
use Rattle.spec_control.specs.Control.{Control, is_end, place_of, ends_of}
use Rattle.spec_control.specs.Held.{Held}
use Rattle.control_laws.proofs.AskLemmas.{end_self}
use Rattle.desk.specs.Holding.{Holding, has_end}
use Rattle.desk.specs.Lent.{HasEnds}
use Rattle.end_table.specs.declared.table.Place.{Place}
use Rattle.end_table.specs.Places.{place_at, held_in}
use Rattle.sock_core.specs.Has.{state_in}
use Rattle.sock_core.proofs.FindLemmas.{same_end}
use Rattle.spec_run.specs.OpenSocket.{place_in}
use Rattle.line_socket.specs.ReadersOwed.{told_where}
use Rattle.line_socket.proofs.ReadingLemmas.{has_held}
use Rattle.line_socket.proofs.StandLemmas.{among_filter}

or_elim : (b c : Bool) → b || c ≡ true → b ≡ false → c ≡ true
or_elim false c h e = h
or_elim true c h e = absurd (true≢false e)

-- an end that is among these is found where it is
pub place_found : (c : Control) (es : List EndId) (e : EndId) → list_any (is_end e) es ≡ true → place_in (map (told_where c) es) e ≡ place_of c e
place_found c [] e h = absurd (true≢false (sym h))
place_found c (d ∷ es) e h = by (λ k. place_found c es e k) (is_end e d) refl where
  by : (list_any (is_end e) es ≡ true → place_in (map (told_where c) es) e ≡ place_of c e) → (b : Bool) → is_end e d ≡ b → (if is_end e d then place_of c d else place_in (map (told_where c) es) e) ≡ place_of c e
  by rest true is = ap (λ (b : Bool). if b then place_of c d else place_in (map (told_where c) es) e) is ∙ ap (place_of c) (sym (same_end e d is))
  by rest false is = ap (λ (b : Bool). if b then place_of c d else place_in (map (told_where c) es) e) is ∙ rest (or_elim (is_end e d) (list_any (is_end e) es) h is)

pub among_held : {N : Type 0} (hs : List (Held N)) (e : EndId) → has_end e hs ≡ list_any (is_end e) (map (λ (x : Held N). x.end) hs)
among_held [] e = refl
among_held (h ∷ hs) e = ap (λ (b : Bool). is_end e h.end || b) (among_held hs e)

module _ {N I : Type 0} where
  -- how far the end at a place is, which stands at no other
  pub state_at : (ps : List (Place N I)) (k : ℕ) (p : Place N I) → place_at ps k ≡ Some p → p.held ≡ true → ((j : ℕ) (q : Place N I) → j ≢ k → place_at ps j ≡ Some q → q.held ≡ true → p.end ≢ q.end) → state_in ps p.end ≡ p.state
  state_at [] k p at h alone = absurd (none_some at) where
    none_some : {x : Place N I} → None ≡ Some x → ⊥
    none_some e = Prim.grind arith
  state_at (x ∷ xs) zero p at h alone =
      let e : x ≡ p = some_eq at in
      ap (λ (y : Place N I). if y.held && is_end p.end y.end then y.state else state_in xs p.end) e
      ∙ ap (λ (b : Bool). if b && is_end p.end p.end then p.state else state_in xs p.end) h ∙ ap (λ (b : Bool). if b then p.state else state_in xs p.end) (end_self p.end)
    where
      some_eq : {x y : Place N I} → Some x ≡ Some y → x ≡ y
      some_eq e = Prim.grind arith
  state_at (x ∷ xs) (suc k) p at h alone = by (state_at xs k p at h (λ j q ne there. alone (suc j) q (λ z. ne (suc_eq z)) there)) (x.held && is_end p.end x.end) refl where
    suc_eq : {a b : ℕ} → suc a ≡ suc b → a ≡ b
    suc_eq z = omega (arith, z)

    front : (b c : Bool) → b && c ≡ true → b ≡ true
    front true c y = refl
    front false c y = absurd (true≢false (sym y))

    back : (b c : Bool) → b && c ≡ true → c ≡ true
    back true c y = y
    back false c y = absurd (true≢false (sym y))

    by : state_in xs p.end ≡ p.state → (b : Bool) → (x.held && is_end p.end x.end) ≡ b → (if x.held && is_end p.end x.end then x.state else state_in xs p.end) ≡ p.state
    by rest true is = absurd (alone zero x (λ z. absurd (zero_suc z)) refl (front x.held (is_end p.end x.end) is) (same_end p.end x.end (back x.held (is_end p.end x.end) is))) where
      zero_suc : zero ≡ suc k → ⊥
      zero_suc z = omega (arith, z)
    by rest false is = ap (λ (b : Bool). if b then x.state else state_in xs p.end) is ∙ rest

  -- an end that is held is told where it is
  pub told_at : (c : Control) (o : ℕ) (names : EndId → Option N) (h : Holding N) (ps : List (Place N I)) → HasEnds names c.rows.pairs c.attached c.reasons h o → h.ends o ≡ held_in ps → ((e : EndId) → h.state e ≡ state_in ps e)
      → (k : ℕ) (p : Place N I) → place_at ps k ≡ Some p → p.held ≡ true → ((j : ℕ) (q : Place N I) → j ≢ k → place_at ps j ≡ Some q → q.held ≡ true → p.end ≢ q.end)
      → place_in (map (told_where c) (ends_of o c)) p.end ≡ At p.state
  told_at c o names h ps has own states k p at held alone =
      let here : has_end p.end (h.ends o) ≡ true = ap (has_end p.end) own ∙ has_held ps k p at held in
      let among = among_filter (λ e. is_here (place_of c e)) (ends_of o c) p.end (ap (list_any (is_end p.end)) (sym has.ends) ∙ sym (among_held (h.ends o) p.end) ∙ here) in
      place_found c (ends_of o c) p.end among ∙ has.states p.end here ∙ ap At (states p.end ∙ state_at ps k p at held alone)
