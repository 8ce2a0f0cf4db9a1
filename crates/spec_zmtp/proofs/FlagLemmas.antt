-- A flags octet says what it was written for, and no other octet says it.
use Rattle.std.proofs.Common.{◌≡◌, ℕ, Bool, true, false, cond, eqb, Option, Some, inl, inr, refl, subst, ◌∙◌}
use Rattle.std.specs.Prelude.{◌⊎◌}
use Rattle.std.proofs.lemmas.Bool.{eqb-true}
use Rattle.spec_zmtp.specs.declared.flags.FrameKind.{FrameKind}
use Rattle.spec_zmtp.specs.declared.flags.FrameKind.TheVariants.{Last, More, Command}
use Rattle.spec_zmtp.specs.declared.flags.Flags.{Flags}
use Rattle.spec_zmtp.specs.FrameFlags.{flags_octet, flags_at}

-- the flags of this kind and size
abbrev pub flags_of : FrameKind → Bool → Flags
flags_of kind long = record { kind = kind; long = long }

-- the flags octet of what it says
pub flags_at-flags_octet : (kind : FrameKind) (long : Bool) → flags_at (flags_octet kind long) ≡ Some (flags_of kind long)
flags_at-flags_octet Last true = refl
flags_at-flags_octet Last false = refl
flags_at-flags_octet More true = refl
flags_at-flags_octet More false = refl
flags_at-flags_octet Command true = refl
flags_at-flags_octet Command false = refl

-- which way a test went
chosen : {A : Type 0} (b : Bool) (x z : A) (y : Option A) → cond b (Some x) y ≡ Some z → ((b ≡ true) × (x ≡ z)) ⊎ (y ≡ Some z)
chosen true x z y e = inl (refl, cc)
chosen false x z y e = inr e

got : (octet n : ℕ) (k : FrameKind) (l : Bool) (f : Flags) → n ≡ flags_octet k l → (eqb octet n ≡ true) × (flags_of k l ≡ f) → octet ≡ flags_octet f.kind f.long
got octet n k l f e h = subst (λ (p : Flags). octet ≡ flags_octet p.kind p.long) h.1 (eqb-true _ _ h.0 ∙ e)

-- the one octet that says these flags
pub octet_of_flags : (octet : ℕ) (f : Flags) → flags_at octet ≡ Some f → octet ≡ flags_octet f.kind f.long
octet_of_flags octet f e =
    elim (chosen (eqb octet 0) (flags_of Last false) f _ e) [
      | inl h ↦ got octet 0 Last false f refl h
      | inr e ↦
          elim (chosen (eqb octet 1) (flags_of More false) f _ e) [
            | inl h ↦ got octet 1 More false f refl h
            | inr e ↦
                elim (chosen (eqb octet 2) (flags_of Last true) f _ e) [
                  | inl h ↦ got octet 2 Last true f refl h
                  | inr e ↦
                      elim (chosen (eqb octet 3) (flags_of More true) f _ e) [
                        | inl h ↦ got octet 3 More true f refl h
                        | inr e ↦
                            elim (chosen (eqb octet 4) (flags_of Command false) f _ e) [
                              | inl h ↦ got octet 4 Command false f refl h
                              | inr e ↦
                                  elim (chosen (eqb octet 6) (flags_of Command true) f _ e) [ inl h ↦ got octet 6 Command true f refl h | inr e ↦ absurd cc ]
                            ]
                      ]
                ]
          ]
    ]
