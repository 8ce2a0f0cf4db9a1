-- What a side's fields stand for.
use Rattle.std.specs.Prelude.{◌≡◌}
use Rattle.zq_base.specs.Message.{Frames}
use Rattle.zmtp_engine.specs.Conversation.{CanOffer}
use Rattle.link_side.specs.declared.side.LinkSide.TheInside.{Inside}
use Rattle.link_side.specs.declared.behind.Behind.TheVariants.{Nothing, Unsaid}
use Rattle.link_side.specs.Kept.{Side, IsAlive, IsAtRest}
use Rattle.link_side.specs.WireView.{kept, IsSound}

-- what is kept of the link, and what memory left undone
abbrev pub side_of : Inside → Side
side_of s = record { kept = kept s.wire; behind = s.behind }

-- what is kept is of some acts, and at rest where nothing is undone; a message that isn't offered yet can be
pub record IsSide (s : Inside) : Type 0 where
  pub sound : IsSound s.wire
  pub alive : IsAlive (kept s.wire)
  pub rest : s.behind ≡ Nothing → IsAtRest (kept s.wire)
  pub unsaid : (m : Frames) → s.behind ≡ Unsaid m → IsAtRest (kept s.wire) × CanOffer s.wire.engine
