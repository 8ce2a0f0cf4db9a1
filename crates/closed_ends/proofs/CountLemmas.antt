-- What joining the halves of a pipe tells, once parts of a message were rolled back.
use Rattle.std.proofs.Common.{◌≡◌, ◌==◌, ◌∙◌, ◌-◌, ℕ, Bool, true, false, Some, length, refl, sym, ap, eqb-true, true≢false}
use Rattle.std.proofs.lemmas.Bool.{eq-eqb}
use Rattle.zq_base.specs.declared.ids.Settled.{Settled}
use Rattle.spec_pattern.specs.Half.{Writing, Reading, without_parts}
use Rattle.msg_pipe.specs.Known.{Known, IsThere, KeepsButOut}
use Rattle.end_table.specs.Counting.{counted, counts_with}

module _ {S O I N : Type 0} (K : Known S O I N)
    (one_out : K.exact ≡ true → (s : S) (o p : O) → K.out_name o ≡ K.out_name p → K.writing s o ≡ K.writing s p)
    (old new : S) (lent back writer : O) (keeps : KeepsButOut K lent back old new) (forgets : K.writing new back ≡ without_parts (K.writing old lent)) (there : IsThere K old (K.out_name writer)) where
  abbrev sent_in : S → ℕ
  sent_in s = length (K.writing s writer).committed

  -- a half of the same pipe knows the same, where names tell pipes apart
  sent_alike : K.exact ≡ true → K.out_name writer ≡ K.out_name lent → sent_in new ≡ sent_in old
  sent_alike exact name =
      ap (λ (v : Writing). length v.committed) (one_out exact new writer back (name ∙ sym keeps.name_is) ∙ forgets)
      ∙ sym (ap (λ (v : Writing). length v.committed) (one_out exact old writer lent name))

  sent_still : sent_in new ≡ sent_in old
  sent_still = by (sent_in new == sent_in old) (λ same. eq-eqb (sent_in new) (sent_in old) same) (λ h. eqb-true (sent_in new) (sent_in old) h)
    where
      by : (b : Bool) → (sent_in new ≡ sent_in old → b ≡ true) → (b ≡ true → sent_in new ≡ sent_in old) → sent_in new ≡ sent_in old
      by true tests told = told refl
      by false tests told = ap (λ (v : Writing). length v.committed) (keeps.outs writer there (λ exact name. absurd (true≢false (sym (tests (sent_alike exact name))))))

  pub rolled_counts : (i : I) → IsThere K old (K.in_name i) → counts_with K new writer (Some i) ≡ counts_with K old writer (Some i)
  rolled_counts i read =
      ap (λ (n : ℕ). let s : Settled = record { sent = n; got = length (K.reading new i).taken; rest = n - length (K.reading new i).taken } in s) sent_still
      ∙ ap (λ (r : Reading). counted (K.writing old writer) r) (keeps.ins i read)
