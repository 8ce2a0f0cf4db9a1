-- What a wire's fields stand for.
use Rattle.std.specs.Prelude.{◌≡◌, ℕ, ◌-◌, ◌≤◌, List, take, drop, vec_len}
use Rattle.link_side.specs.declared.wire.Wire.{Wire}
use Rattle.link_side.specs.Kept.{Kept}

-- the octets that were read and aren't fed
abbrev pub unfed : Wire → List ℕ
unfed w = take (w.read - w.fed) (drop w.fed w.octets.items)

abbrev pub kept : Wire → Kept
kept w = record { engine = w.engine; unfed = unfed w; held = w.held; through = w.through }

-- what was heard, and what waits, is as it was
pub record KeepsHeard (old new : Wire) : Type 0 where
  pub listening : new.engine.listening ≡ old.engine.listening
  pub held : new.held ≡ old.held
  pub unfed_is : unfed new ≡ unfed old

-- the places in the buffer are in order, and there is room
pub record IsSound (w : Wire) : Type 0 where
  pub fed : w.fed ≤ w.read
  pub read : w.read ≤ vec_len w.octets
  pub room : vec_len w.octets ≡ 8192
