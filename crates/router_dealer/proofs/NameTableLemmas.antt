-- What changes of a table of names are in the names that it has.
use Rattle.std.proofs.Common.{◌≡◌, ◌++◌, ℕ, Bool, true, false, cond, List, [], ◌∷◌, Option, None, Some, refl, sym, ap, ◌∙◌, nat_eq}
use Rattle.std.specs.Str.{bytes_eq}
use Rattle.std.specs.Map.{lookup, remove_entry}
use Rattle.std.specs.declared.vec.Vec.{Vec}
use Rattle.router_dealer.specs.PlaceNames.{PlaceName, place_named, name_placed, without_name_at, without_named}
use Rattle.router_dealer.specs.NameTable.{names_of, IsNameTable}
use Rattle.router_dealer.proofs.PlaceNamesLemmas.{turned, name_placed-given, name_placed-without, apart_given, apart_without}

module _ {A : Type 0} where
  -- a name's test of a key
  abbrev pub is_named : List ℕ → Vec ℕ A → Bool
  is_named name key = bytes_eq name key.items

  -- the entries answer what the names do
  pub lookup-names_of : (es : List (Vec ℕ A × ℕ)) (q : List ℕ) → lookup (is_named q) es ≡ place_named (names_of es) q
  lookup-names_of [] q = refl
  lookup-names_of (e ∷ es) q = ap (cond (bytes_eq q e.0.items) (Some e.1)) (lookup-names_of es q)

  -- an entry more is a name more
  pub names_of-push : (es : List (Vec ℕ A × ℕ)) (key : Vec ℕ A) (place : ℕ)
      → names_of (es ++ (key, place) ∷ []) ≡ names_of es ++ record { name = key.items; place = place } ∷ []
  names_of-push [] key place = refl
  names_of-push (e ∷ es) key place = ap (λ (l : List PlaceName). record { name = e.0.items; place = e.1 } ∷ l) (names_of-push es key place)

  -- an entry fewer is a name fewer
  pub names_of-removed : (es : List (Vec ℕ A × ℕ)) (q : List ℕ) → names_of (remove_entry (is_named q) es) ≡ without_named q (names_of es)
  names_of-removed [] q = refl
  names_of-removed (e ∷ es) q = by (bytes_eq q e.0.items) (names_of-removed es q)
    where
      first : PlaceName
      first = record { name = e.0.items; place = e.1 }

      by : (b : Bool) → names_of (remove_entry (is_named q) es) ≡ without_named q (names_of es)
          → names_of (cond b es (e ∷ remove_entry (is_named q) es)) ≡ cond b (names_of es) (first ∷ without_named q (names_of es))
      by true rest = refl
      by false rest = ap (λ l. first ∷ l) rest

-- ---- a table

module _ (ns : List PlaceName) (f g : ℕ → Option (List ℕ)) (table : IsNameTable ns f) where
  -- with a name more
  pub given_table : (name : List ℕ) (place : ℕ) → place_named ns name ≡ None → name_placed ns place ≡ None
      → ((p : ℕ) → g p ≡ cond (nat_eq place p) (Some name) (f p))
      → IsNameTable (ns ++ record { name = name; place = place } ∷ []) g
  given_table name place free nameless given = record {
    apart = apart_given name place ns table.apart free nameless;
    told = λ p. given p ∙ both p (nat_eq place p) (nat_eq p place) (turned place p) ∙ sym (name_placed-given name place ns nameless p);
  }
    where
      both : (p : ℕ) (b c : Bool) → b ≡ c → cond b (Some name) (f p) ≡ cond c (Some name) (name_placed ns p)
      both p b c e = ap (λ d. cond d (Some name) (f p)) e ∙ ap (cond c (Some name)) (table.told p)

  -- without a place
  pub gone_table : (place : ℕ) → ((p : ℕ) → g p ≡ cond (nat_eq place p) None (f p)) → IsNameTable (without_name_at place ns) g
  gone_table place gone = record {
    apart = apart_without place ns table.apart;
    told = λ p. gone p ∙ both p (nat_eq place p) (nat_eq p place) (turned place p) ∙ sym (name_placed-without place ns p);
  }
    where
      both : (p : ℕ) (b c : Bool) → b ≡ c → cond b None (f p) ≡ cond c None (name_placed ns p)
      both p b c e = ap (λ d. cond d None (f p)) e ∙ ap (cond c None) (table.told p)
