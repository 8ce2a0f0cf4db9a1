-- The ends that a socket is told to seal for the first time.
use Rattle.std.specs.Prelude.{◌≡◌, ◌++◌, ◌&&◌, Bool, true, false, List, [], ◌∷◌, map, refl}
use Rattle.std.specs.List.{list_any}
use Rattle.std.proofs.Common.{arith, sym, ap, ◌∙◌, subst, true≢false}
use Rattle.zq_base.specs.declared.ids.EndId.{EndId}
use Rattle.spec_control.specs.Control.{is_end}
use Rattle.end_table.specs.declared.changes.PipeChange.{PipeChange}
use Rattle.end_table.specs.declared.changes.PipeChange.TheVariants.{Kept, Made, Sealed, SealedAgain, Parted, Settled}
use Rattle.end_table.specs.Changes.{sealings_in}
use Rattle.sock_core.specs.Noted.{were_told}
use Rattle.socket_laws.specs.Changes.{delimited_in, AreNew, SealsAreNew}

-- what is behind one front is one list
pub same_behind : (xs ys zs : List EndId) → xs ++ ys ≡ xs ++ zs → ys ≡ zs
same_behind [] ys zs e = e
same_behind (x ∷ xs) ys zs e = same_behind xs ys zs (tails e)
  where
    tails : {a b : List EndId} → x ∷ a ≡ x ∷ b → a ≡ b
    tails h = Prim.grind (arith, h)

both_true : (a b : Bool) → (a && b) ≡ true → (a ≡ true) × (b ≡ true)
both_true true true e = (refl, refl)
both_true true false e = (refl, e)
both_true false b e = (e, Prim.grind (arith, e))

module _ {S O I : Type 0} where
  -- none that is new was sealed before
  first_time : (before : List EndId) (xs : List (PipeChange O I × S)) → were_told before (sealings_in xs) ≡ true → AreNew before (map (λ x. x.0) (sealings_in xs)) → delimited_in xs ≡ map (λ x. x.0) (sealings_in xs)
  first_time before [] told fresh = refl
  first_time before ((Kept, s) ∷ xs) told fresh = first_time before xs told fresh
  first_time before ((Made e capacity halves, s) ∷ xs) told fresh = first_time before xs told fresh
  first_time before ((Sealed k e half, s) ∷ xs) told fresh = ap (λ (l : List EndId). e ∷ l) (first_time (before ++ e ∷ []) xs told fresh.1)
  first_time before ((SealedAgain k e, s) ∷ xs) told fresh =
      absurd (true≢false (sym (both_true (list_any (is_end e) before) (were_told (before ++ e ∷ []) (sealings_in xs)) told).0 ∙ fresh.0))
  first_time before ((Parted k e half, s) ∷ xs) told fresh = first_time before xs told fresh
  first_time before ((Settled k e, s) ∷ xs) told fresh = first_time before xs told fresh

pub seals_are_new : (S O I : Type 0) → SealsAreNew S O I
seals_are_new S O I before es now changes tells grown fresh =
    let told : map (λ x. x.0) (sealings_in changes) ≡ es = same_behind before (map (λ x. x.0) (sealings_in changes)) es (sym tells.all ∙ grown) in
    first_time before changes tells.again (subst (AreNew before) (sym told) fresh) ∙ told
