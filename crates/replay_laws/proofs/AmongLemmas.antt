-- The numbers of open sockets.
use Rattle.std.specs.Prelude.{◌≡◌, ◌⊎◌, ◌==◌, ◌||◌, ℕ, Bool, true, false, not, cond, List, [], ◌∷◌, ◌++◌, Option, Some, None, filter, find, if◌then◌else◌, map, slice_get, refl}
use Rattle.std.specs.List.{list_any}
use Rattle.std.proofs.Common.{sym, ap, ◌∙◌, inl, inr}
use Rattle.std.proofs.lemmas.Bool.{eq-eqb, eqb-true}
use Rattle.control_laws.proofs.ListLemmas.{never}
use Rattle.spec_run.specs.OpenSocket.{OpenSock}
use Rattle.spec_run.specs.Standing.{Sockets, object_named, open_numbered, open_at}

-- an object is one of these open sockets
abbrev pub has_sock : ℕ → List OpenSock → Bool
has_sock i socks = list_any (λ s. s.object == i) socks

pub has_with : (i : ℕ) (s : OpenSock) (socks : List OpenSock) → has_sock i (map (λ old. if old.object == s.object then s else old) socks) ≡ has_sock i socks
has_with i s [] = refl
has_with i s (x ∷ socks) = by (x.object == s.object) refl (has_with i s socks)
  where
    by : (b : Bool) → (x.object == s.object) ≡ b → has_sock i (map (λ old. if old.object == s.object then s else old) socks) ≡ has_sock i socks → (((if b then s else x).object == i) || has_sock i (map (λ old. if old.object == s.object then s else old) socks)) ≡ ((x.object == i) || has_sock i socks)
    by true e rest = ap (λ (n : ℕ). (n == i) || has_sock i (map (λ old. if old.object == s.object then s else old) socks)) (sym (eqb-true x.object s.object e)) ∙ ap (λ (b : Bool). (x.object == i) || b) rest
    by false e rest = ap (λ (b : Bool). (x.object == i) || b) rest

pub has_push : (i : ℕ) (s : OpenSock) (socks : List OpenSock) → has_sock i (socks ++ s ∷ []) ≡ true → (has_sock i socks ≡ true) ⊎ (s.object ≡ i)
has_push i s [] h = inr (eqb-true s.object i (plain (s.object == i) h))
  where
    plain : (b : Bool) → (b || false) ≡ true → b ≡ true
    plain true e = refl
    plain false e = e
has_push i s (x ∷ socks) h = by (x.object == i) h (has_push i s socks)
  where
    by : (b : Bool) → (b || has_sock i (socks ++ s ∷ [])) ≡ true → (has_sock i (socks ++ s ∷ []) ≡ true → (has_sock i socks ≡ true) ⊎ (s.object ≡ i)) → ((b || has_sock i socks) ≡ true) ⊎ (s.object ≡ i)
    by true e later = inl refl
    by false e later = later e

-- of sockets without one of a number, each is one of them, and not that
pub has_without : (i o : ℕ) (socks : List OpenSock) → has_sock i (filter (λ s. not (s.object == o)) socks) ≡ true → (has_sock i socks ≡ true) × ((o == i) ≡ false)
has_without i o [] h = absurd (never h)
has_without i o (x ∷ socks) h = by (x.object == o) refl h (has_without i o socks)
  where
    or_left : (a b : Bool) → a ≡ true → (a || b) ≡ true
    or_left true b e = refl
    or_left false b e = absurd (never e)

    or_right : (a b : Bool) → b ≡ true → (a || b) ≡ true
    or_right true b e = refl
    or_right false b e = e

    by : (b : Bool) → (x.object == o) ≡ b → has_sock i (cond (not b) (x ∷ filter (λ s. not (s.object == o)) socks) (filter (λ s. not (s.object == o)) socks)) ≡ true → (has_sock i (filter (λ s. not (s.object == o)) socks) ≡ true → (has_sock i socks ≡ true) × ((o == i) ≡ false)) → (((x.object == i) || has_sock i socks) ≡ true) × ((o == i) ≡ false)
    by true e f later = let rest = later f in (or_right (x.object == i) (has_sock i socks) rest.0, rest.1)
    by false e f later = here (x.object == i) refl f
      where
        here : (b : Bool) → (x.object == i) ≡ b → (b || has_sock i (filter (λ s. not (s.object == o)) socks)) ≡ true → (((x.object == i) || has_sock i socks) ≡ true) × ((o == i) ≡ false)
        here true same g = (
          or_left (x.object == i) (has_sock i socks) same,
          other (o == i) refl,
        )
          where
            other : (b : Bool) → (o == i) ≡ b → b ≡ false
            other true is = absurd (never (sym e ∙ eq-eqb x.object o (eqb-true x.object i same ∙ sym (eqb-true o i is))))
            other false is = refl
        here false same g = let rest = later g in (or_right (x.object == i) (has_sock i socks) rest.0, rest.1)

has_found : (o : ℕ) (socks : List OpenSock) (s : OpenSock) → find (λ x. x.object == o) socks ≡ Some s → has_sock s.object socks ≡ true
has_found o [] s e = absurd (nope e)
  where
    nope : ◌≡◌ {A = Option OpenSock} None (Some s) → ⊥
    nope f = cc
has_found o (x ∷ socks) s e = by (x.object == o) e (has_found o socks s)
  where
    by : (b : Bool) → (if b then Some x else find (λ y. y.object == o) socks) ≡ Some s → (find (λ y. y.object == o) socks ≡ Some s → has_sock s.object socks ≡ true) → ((x.object == s.object) || has_sock s.object socks) ≡ true
    by true f more = let same : x ≡ s = cc in ap (λ (b : Bool). b || has_sock s.object socks) (eq-eqb x.object s.object (ap (λ (y : OpenSock). y.object) same))
    by false f more = later (x.object == s.object) (more f)
      where
        later : (a : Bool) → has_sock s.object socks ≡ true → (a || has_sock s.object socks) ≡ true
        later true g = refl
        later false g = g

pub has_at : (mine : Sockets) (place : ℕ) (s : OpenSock) → open_at mine place ≡ Some s → has_sock s.object mine.socks ≡ true
has_at mine place s e = by (object_named (slice_get mine.names place)) e
  where
    by : (o : Option ℕ) → open_numbered o mine.socks ≡ Some s → has_sock s.object mine.socks ≡ true
    by None f = absurd (nope f)
      where
        nope : ◌≡◌ {A = Option OpenSock} None (Some s) → ⊥
        nope g = cc
    by (Some o) f = has_found o mine.socks s f
