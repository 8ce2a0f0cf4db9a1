-- What a read of an end of a link in memory answers: as its plan, its cut, its pieces and what waits for it have it (own choice).
use Rattle.std.specs.Prelude.{◌≡◌, ◌≤◌, ◌⊎◌, ℕ, [], length, min, Option, Some, None, option_map}
use Rattle.std.specs.Arc.{arc_value}
use Rattle.std.specs.declared.sync.Arc.{Arc}
use Rattle.zq_outer.specs.declared.link.LinkGot.{LinkGot}
use Rattle.zq_outer.specs.declared.link.LinkGot.TheVariants as got
use Rattle.zq_outer.specs.declared.mem_calls.MemCalls.{MemCalls}
use Rattle.zq_outer.specs.declared.mem_link.MemLink.{MemLink}
use Rattle.zq_outer.specs.declared.plan.CallKind.TheVariants as kind
use Rattle.zq_outer.specs.Mates.{said_at, waiting_at, cut_at}
use Rattle.zq_outer.specs.Pace.{Paced, paced_room, after_read, after_given}
use Rattle.zq_outer.specs.Plan.{IsListed}

-- it has written all up to its cut
abbrev pub IsCutOff : MemLink → Type 0
IsCutOff l = cut_at l ≡ Some (length (said_at l))

-- a read is listed to fail
abbrev pub ListsAFault : {Z : Type 0} → Option (Arc MemCalls Z) → Type 0
ListsAFault None = ⊥
ListsAFault (Some calls) = (n : ℕ) × IsListed (arc_value calls).fails kind.Read n

-- a read is listed to stall
abbrev pub ListsAStall : {Z : Type 0} → Option (Arc MemCalls Z) → Type 0
ListsAStall None = ⊥
ListsAStall (Some calls) = (n : ℕ) × IsListed (arc_value calls).stalls kind.Read n

-- its pieces let a read give none
abbrev pub HoldsBack : Option Paced → Type 0
HoldsBack None = ⊥
HoldsBack (Some p) = paced_room p ≡ 0

-- how many of so many octets its pieces let a read give
abbrev pub paced_most : Option Paced → ℕ → ℕ
paced_most None most = most
paced_most (Some p) most = min most (paced_room p)

-- how many octets a read gives at most, in a buffer of so many
abbrev pub read_most : MemLink → ℕ → ℕ
read_most l room = paced_most l.pace (min room l.most)

-- a read gives all that waits or all that it may, and nothing past a cut
pub record Gives (n room : ℕ) (old new : MemLink) : Type 0 where
  pub uncut : IsCutOff old → ⊥
  pub within : n ≤ read_most old room
  pub all : (n ≡ read_most old room) ⊎ (waiting_at new ≡ [])
  pub paced : new.pace ≡ option_map (after_given n) old.pace

-- a read finds nothing that waits, or its pieces hold it back
pub record Finds (old new : MemLink) : Type 0 where
  pub uncut : IsCutOff old → ⊥
  pub none : HoldsBack old.pace ⊎ (waiting_at new ≡ [])
  pub paced : new.pace ≡ option_map after_read old.pace

-- A read ends at its cut, or where nothing waits that could be read. It stalls and fails where the plan
-- has it, and stalls where it finds nothing.
abbrev pub IsReadAt : LinkGot → ℕ → MemLink → MemLink → Type 0
IsReadAt (got.Bytes n) room old new = Gives n room old new
IsReadAt got.NotReady room old new = (ListsAStall old.calls × (new.pace ≡ old.pace)) ⊎ Finds old new
IsReadAt got.Ended room old new =
    (new.pace ≡ old.pace) × (IsCutOff old ⊎ ((HoldsBack old.pace → ⊥) × (waiting_at new ≡ [])))
IsReadAt got.Failed room old new = (new.pace ≡ old.pace) × ListsAFault old.calls
