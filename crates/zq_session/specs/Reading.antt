-- How a session reads (own choice).
use Rattle.std.specs.Prelude.{◌≡◌, ℕ, Option, None, IsSome}
use Rattle.zq_base.specs.declared.kind.Kind.{Kind}
use Rattle.zq_base.specs.declared.kind.Kind.TheVariants.{Push}
use Rattle.spec_control.specs.declared.end.EndState.{EndState}
use Rattle.zq_session.specs.declared.life.ReadMode.{ReadMode}
use Rattle.zq_session.specs.declared.life.ReadMode.TheVariants as mode
use Rattle.zq_session.specs.LifeView.{IsWritable}

-- how a session reads: it was told before its pair was made, or it drops what it hears, or its end can be written, or it can't
abbrev pub IsReading : Kind → Option EndState → Option ℕ → ReadMode → Type 0
IsReading kind state told mode.Nothing = IsSome told × (state ≡ None)
IsReading kind state told mode.Puts = (kind ≡ Push → ⊥) × IsWritable state
IsReading kind state told mode.Holds = ((IsSome told × (state ≡ None)) → ⊥) × ((kind ≡ Push → ⊥) × (IsWritable state → ⊥))
IsReading kind state told mode.Drops = ((IsSome told × (state ≡ None)) → ⊥) × (kind ≡ Push)
