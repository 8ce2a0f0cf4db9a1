use Rattle.std.proofs.Common.{◌≡◌, ℕ, List, slice_index_or, refl, ap, arith}
use Rattle.std.specs.Fmt.{digits}
use Rattle.hex.specs.Hex.{encode_with}
use Rattle.spec_zmtp.specs.DecodedStream.{Unfinished}
use Rattle.zq_call.specs.Examples.{TextsWork}
use Rattle.zq_call.specs.HearText.{outcome_text}
use Rattle.zq_call.proofs.laws.texts_work.Goals as goal

counted : outcome_text (Unfinished 1) ≡ outcome_text (Unfinished 2) → ⊥
unfolding digits
counted same =
    let e : ◌≡◌ {A = ℕ} 49 50 = ap (λ (text : List ℕ). slice_index_or text 5 0) same in
    omega (arith, e)

works : TextsWork
unfolding digits encode_with
works = record {
  nothing = refl;
  heard = refl;
  frames = refl;
  named = refl;
  refused = refl;
  counted = counted;
}

pub returns : goal.returns
returns c = works
