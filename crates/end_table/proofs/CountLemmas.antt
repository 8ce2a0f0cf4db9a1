-- What joining the halves of a pipe tells, where its end stays.
use Rattle.std.proofs.Common.{◌≡◌, ◌∙◌, ◌+◌, ◌-◌, ℕ, zero, suc, Bool, true, cond, not, List, [], ◌∷◌, length, length-set, set, Option, Some, None, refl, sym, ap, subst, nat_lt}
use Rattle.std.specs.Prelude.{Box, position}
use Rattle.std.specs.List.{position_or_len}
use Rattle.std.specs.declared.alloc.Global.{Global}
use Rattle.zq_base.specs.declared.ids.Settled.{Settled}
use Rattle.spec_pattern.specs.Half.{Writing, Reading}
use Rattle.msg_pipe.specs.Known.{Known, IsThere, KeepsButOut}
use Rattle.end_table.specs.declared.row.EndRow.{EndRow}
use Rattle.end_table.specs.Rows.{Rows, row_at}
use Rattle.end_table.specs.declared.table.Place.{Place}
use Rattle.end_table.specs.Places.{place_at}
use Rattle.end_table.specs.Sound.{WritesSo, IsSound}
use Rattle.end_table.specs.Counting.{counted, half_at, counts_with}
use Rattle.end_table.proofs.PlaceLemmas.{row_there, place_there}
use Rattle.end_table.proofs.SoundLemmas.{one_some}
use Rattle.end_table.proofs.HalfLemmas.{within}

module _ {N I : Type 0} (test : Place N I → Bool) where
  -- the first place that passes a test is where it was
  or_len_same : (ps : List (Place N I)) (k : ℕ) (p q : Place N I) → place_at ps k ≡ Some p → test q ≡ test p → position_or_len test (set ps k q) ≡ position_or_len test ps
  or_len_same [] k p q at h = refl
  or_len_same (x ∷ xs) zero p q at h = ap (λ (b : Bool). cond (not b) (1 + position_or_len test xs) 0) (h ∙ ap test (sym (one_some x p at)))
  or_len_same (x ∷ xs) (suc k) p q at h = ap (λ (n : ℕ). cond (not (test x)) (1 + n) 0) (or_len_same xs k p q at h)

  pub position_same : (ps : List (Place N I)) (k : ℕ) (p q : Place N I) → place_at ps k ≡ Some p → test q ≡ test p → position test (set ps k q) ≡ position test ps
  position_same ps k p q at h =
      ap (λ (n : ℕ). cond (nat_lt n (length (set ps k q))) (Some n) None) (or_len_same ps k p q at h)
      ∙ ap (λ (n : ℕ). cond (nat_lt (position_or_len test ps) n) (Some (position_or_len test ps)) None) (length-set ps k q)

-- the counts that are told one by one
pub told_counts : (v : Writing) (r : Reading) (c : Settled) → c.sent ≡ length v.committed → c.got ≡ length r.taken → c.rest ≡ c.sent - c.got → c ≡ counted v r
told_counts v r c sent got rest =
    ap (λ (n : ℕ). let s : Settled = record { sent = c.sent; got = c.got; rest = n } in s) rest
    ∙ ap (λ (n : ℕ). let s : Settled = record { sent = n; got = c.got; rest = n - c.got } in s) sent
    ∙ ap (λ (n : ℕ). let s : Settled = record { sent = length v.committed; got = n; rest = length v.committed - n } in s) got

module _ {S O I N : Type 0} (K : Known S O I N) (pipes : S) (rows : Rows O I) (places : List (Place N I)) (k : ℕ) (p : Place N I)
    (sound : IsSound K pipes rows places) (there : place_at places k ≡ Some p) (held : p.held ≡ true) where
  -- the reading half of an end stands in its row still
  pub half_in_row : (r : EndRow O I) (b : Box (EndRow O I) Global) (x : Option (Place N I)) → row_at rows k ≡ Some r → b.value.input ≡ r.input →
      half_at (row_at (set rows k (Some b)) k) x ≡ half_at (row_at rows k) (place_at places k)
  half_in_row r b x here same =
      ap (λ (y : Option (EndRow O I)). half_at y x) (row_there rows k (Some b) (within K pipes rows places k p sound there held))
      ∙ ap Some same ∙ sym (ap (λ (y : Option (EndRow O I)). half_at y (place_at places k)) here)

  -- it stands at its place where there is no row
  pub half_read : row_at rows k ≡ None → half_at (row_at rows k) (place_at places k) ≡ p.input
  half_read here =
      ap (λ (y : Option (EndRow O I)). half_at y (place_at places k)) here ∙ ap (half_at {N = N} {O = O} {I = I} None) there

  -- and there still
  pub half_in_place : (q : Place N I) → row_at rows k ≡ None → q.input ≡ p.input → half_at (row_at rows k) (place_at (set places k q) k) ≡ half_at (row_at rows k) (place_at places k)
  half_in_place q here same =
      ap (λ (y : Option (EndRow O I)). half_at y (place_at (set places k q) k)) here
      ∙ ap (half_at {N = N} {O = O} {I = I} None) (place_there places k p q there) ∙ same ∙ sym (half_read here)

  -- and goes from the row to the place where the writing half is given away
  pub half_moves : (r : EndRow O I) (q : Place N I) → row_at rows k ≡ Some r → q.input ≡ Some r.input → half_at (row_at (set rows k None) k) (place_at (set places k q) k) ≡ Some r.input
  half_moves r q here same =
      ap (λ (y : Option (EndRow O I)). half_at y (place_at (set places k q) k)) (row_there rows k None (within K pipes rows places k p sound there held))
      ∙ ap (half_at {N = N} {O = O} {I = I} None) (place_there places k p q there) ∙ same

  -- a rollback of the pipe that an end writes leaves the counts of the one that it reads
  pub yields_counts : (new : S) (r : EndRow O I) (o : O) (half : Option I) (writer : O) → p.writes ≡ true → row_at rows k ≡ Some r → WritesSo K pipes r p → KeepsButOut K r.out o pipes new →
      half ≡ Some r.input → K.out_name writer ≡ p.read → counts_with K new writer half ≡ counts_with K pipes writer (half_at (row_at rows k) (place_at places k))
  yields_counts new r o half writer writes here stands keeps is name =
      ap (counts_with K new writer) is
      ∙ ap (λ (v : Writing). counted v (K.reading new r.input)) (keeps.outs writer (subst (IsThere K pipes) (sym name) stands.reads.there)
      (λ exact same. sound.crossed k k p p there there held writes held exact (sym stands.name_is ∙ sym same ∙ name)))
      ∙ ap (counted (K.writing pipes writer)) (keeps.ins r.input (subst (IsThere K pipes) (sym stands.reads.name_is) stands.reads.there))
      ∙ sym (ap (λ (y : Option (EndRow O I)). counts_with K pipes writer (half_at y (place_at places k))) here)
