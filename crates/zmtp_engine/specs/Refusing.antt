-- How many octets a refusal takes: those up to the one with which a rule is broken (own choice).
use Rattle.std.specs.Prelude.{◌≡◌, ℕ, List, [], ◌∷◌, ◌++◌}
use Rattle.zq_base.specs.declared.options.EngineOpts.{EngineOpts}
use Rattle.spec_zmtp.specs.declared.cause.Refusal.{Refusal}
use Rattle.spec_zmtp.specs.FrameEncoding.{WireFrame}
use Rattle.spec_zmtp.specs.FrameRules.{AllKeep, IsCutFrame}
use Rattle.spec_zmtp.specs.DecodedStream.{Decoded, Decodes, Unfinished, Refused, stream_of}

-- with these octets taken behind those heard the stream is refused, and without the last of them it is not
pub record BreaksAt (opts : EngineOpts) (heard taken : List ℕ) : Type 0 where
  pub refused : (d : Decoded) × (r : Refusal) × Decodes opts (heard ++ taken) d × (d.outcome ≡ Refused r)
  pub before : (front : List ℕ) (octet : ℕ) → taken ≡ front ++ octet ∷ [] →
      (d : Decoded) × (n : ℕ) × Decodes opts (heard ++ front) d × (d.outcome ≡ Unfinished n)

-- behind these octets, the last one aside, are frames that keep all rules and one that is cut
pub record JustBroken (opts : EngineOpts) (octets : List ℕ) : Type 0 where
  pub frames : List WireFrame
  pub front : List ℕ
  pub octet : ℕ
  pub all : octets ≡ stream_of frames ++ (front ++ octet ∷ [])
  pub keep : AllKeep opts [] frames
  pub cut : IsCutFrame opts frames front
