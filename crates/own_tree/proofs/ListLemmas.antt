-- The lists of children behind the write of one.
use Rattle.std.specs.Prelude.{◌≡◌, ◌<◌, ℕ, List, [], ◌∷◌, ◌++◌, length, Result, Ok, Err, OnErr, slice_index_or, slice_set}
use Rattle.std.proofs.Common.{sym, ap, ◌∙◌}
use Rattle.std.proofs.lemmas.List.{map-set, set-get_or, get_or-map}
use Rattle.std.specs.declared.vec.Vec.{Vec}
use Rattle.zq_base.specs.declared.ids.ObjId.{ObjId}
use Rattle.own_tree.specs.Tallies.{lists_of}

pub holds_on_err : {T E P : Type 0} (r : Result T E) → P → OnErr r P
holds_on_err (Ok x) p = tt
holds_on_err (Err e) p = p

module _ {A : Type 0} (xs : List (Vec ObjId A)) (i : ℕ) (x v : Vec ObjId A) (h : i < length xs) (read : x ≡ slice_index_or xs i x) where
  written : lists_of (slice_set xs i v) ≡ slice_set (lists_of xs) i v.items
  written = map-set (λ (w : Vec ObjId A). w.items) xs i v

  was : x.items ≡ slice_index_or (lists_of xs) i []
  was = ap (λ (w : Vec ObjId A). w.items) read ∙ sym (get_or-map (λ (w : Vec ObjId A). w.items) xs i x [] h)

  -- the list that was written is what it was
  pub lists_same : v.items ≡ x.items → lists_of (slice_set xs i v) ≡ lists_of xs
  lists_same e =
      written ∙ ap (λ (l : List ObjId). slice_set (lists_of xs) i l) (e ∙ was) ∙ set-get_or (lists_of xs) i []

  -- the list that was written grew by a child
  pub lists_grow : (child : ObjId) → v.items ≡ x.items ++ child ∷ [] →
      lists_of (slice_set xs i v) ≡ slice_set (lists_of xs) i (slice_index_or (lists_of xs) i [] ++ child ∷ [])
  lists_grow child e =
      written ∙ ap (λ (l : List ObjId). slice_set (lists_of xs) i l) (e ∙ ap (λ (l : List ObjId). l ++ child ∷ []) was)
