-- What is noted under each object once a key of one went.
use Rattle.std.proofs.Common.{◌≡◌, ◌∙◌, ℕ, Bool, true, false, cond, Option, Some, [], refl, ap, nat_eq}
use Rattle.std.proofs.lemmas.Bool.{eqb-true}
use Rattle.std.specs.HashSet.{HashSet}
use Rattle.std.specs.List.{list_any}
use Rattle.std.specs.Map.{lookup}
use Rattle.std.specs.Option.{option_map_or}
use Rattle.std.specs.Set as set
use Rattle.zq_base.specs.declared.ids.ObjId.{ObjId}
use Rattle.endpoint_book.specs.Owned.{KeySets, keys_under, KeepsUnder}

module _ {K S T : Type 0} (eq : K → K → Bool) where
  pub KeepsUnder-struck : (t : K → Bool) (object : ObjId) (old new : KeySets K S T) (was now : HashSet K S)
      → ((n : ℕ) → lookup (nat_eq n) new.entries ≡ cond (nat_eq object.0 n) (Some now) (lookup (nat_eq n) old.entries))
      → Some was ≡ lookup (nat_eq object.0) old.entries → set.KeepsOthers eq t was.keys now.keys → KeepsUnder eq object t old new
  unfolding set.KeepsOthers
  KeepsUnder-struck t object old new was now at found keeps o p hp apart = by (nat_eq object.0 o.0) refl (at o.0)
    where
      any_in : Option (HashSet K S) → Bool
      any_in r = list_any p (option_map_or (λ s. s.keys) r [])

      by : (b : Bool) → nat_eq object.0 o.0 ≡ b → lookup (nat_eq o.0) new.entries ≡ cond b (Some now) (lookup (nat_eq o.0) old.entries)
          → list_any p (keys_under new o) ≡ list_any p (keys_under old o)
      by true same is = ap any_in is ∙ keeps p hp (apart same) ∙ ap any_in (found ∙ ap (λ n. lookup (nat_eq n) old.entries) (eqb-true object.0 o.0 same))
      by false other is = ap any_in is
