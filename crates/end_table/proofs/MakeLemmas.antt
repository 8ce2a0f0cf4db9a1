-- Halves of pipes that were just made fit the ends of their owner.
use Rattle.std.proofs.Common.{◌≡◌, ℕ, Bool, true, false, List, Option, Some, sym, ap, ◌∙◌, subst, true≢false}
use Rattle.spec_pattern.specs.Half.{Writing}
use Rattle.msg_pipe.specs.Known.{Known, IsThere, KeepsAll, MakesPipe}
use Rattle.end_table.specs.declared.row.EndRow.{EndRow}
use Rattle.end_table.specs.Rows.{Rows, row_at}
use Rattle.end_table.specs.declared.table.Place.{Place}
use Rattle.end_table.specs.Places.{place_at}
use Rattle.end_table.specs.Sound.{StandsSo, IsSound, Fits}

module _ {S O I N : Type 0} (K : Known S O I N) where
  -- the pipes of an end that is held are there
  reads_there : (pipes : S) (row : Option (EndRow O I)) (p : Place N I) (h w : Bool) → h ≡ true → StandsSo K pipes row p h w → IsThere K pipes p.read
  reads_there pipes row p false w e s = absurd (true≢false (sym e))
  reads_there pipes row p true true e s = s.2.reads.there
  reads_there pipes row p true false e s = s.3.there

  writes_there : (pipes : S) (row : Option (EndRow O I)) (p : Place N I) (h w : Bool) → h ≡ true → w ≡ true → StandsSo K pipes row p h w → IsThere K pipes p.written
  writes_there pipes row p false w e f s = absurd (true≢false (sym e))
  writes_there pipes row p true true e f s = s.2.there
  writes_there pipes row p true false e f s = absurd (true≢false (sym f))

  pub made_fits : (before mid after : S) (rows : Rows O I) (places : List (Place N I)) (out back : O) (away input : I) (written read : ℕ)
      → IsSound K before rows places
      → MakesPipe K written out away before mid → KeepsAll K before mid
      → MakesPipe K read back input mid after → KeepsAll K mid after
      → Fits K after places (record { out = out; input = input })
  made_fits before mid after rows places out back away input written read sound first kept then kept_then = record {
    out_there = kept_then.there (K.out_name out) first.there;
    in_there = subst (IsThere K after) (sym then.one_name) then.there;
    unsealed = ap (λ (v : Writing). v.sealed) (kept_then.outs out first.there ∙ first.writing_is);
    crossed = λ ex same. new_then ex (K.out_name out) first.there same;
    others = λ k p at held.
        let reads = reads_there before (row_at rows k) p p.held p.writes held (sound.stands k p at) in
        record {
          outs = λ w. (
            (λ ex same. first.is_new ex (subst (IsThere K before) same (writes k p at held w))),
            (λ ex same. first.is_new ex (subst (IsThere K before) (sym same) (writes k p at held w))),
          );
          ins = (
            (λ ex same. new_then ex p.read (kept.there p.read reads) same),
            (λ ex same. new_then ex p.read (kept.there p.read reads) (sym same)),
          );
          reads = λ ex same. first.is_new ex (subst (IsThere K before) (sym same) reads);
          writes = λ w ex same. new_then ex p.written (kept.there p.written (writes k p at held w)) same;
        };
  }
    where
      writes : (k : ℕ) (p : Place N I) → place_at places k ≡ Some p → p.held ≡ true → p.writes ≡ true → IsThere K before p.written
      writes k p at held w = writes_there before (row_at rows k) p p.held p.writes held w (sound.stands k p at)

      -- what was there is not the second pipe
      new_then : K.exact ≡ true → (n : N) → IsThere K mid n → n ≡ K.in_name input → ⊥
      new_then ex n there same = then.is_new ex (subst (IsThere K mid) (same ∙ then.one_name) there)
