-- What the acts of a session and of a listener add up to: messages written and lost, and their rows (own choice).
use Rattle.std.specs.Prelude.{◌≡◌, ℕ, Bool, ◌+◌, ◌-◌, ◌^◌, min, nat_le, if◌then◌else◌, List, [], ◌∷◌, length, Option, Some, None}
use mathlib.Core.List.{IsPrefix}
use Rattle.zq_base.specs.declared.options.EngineOpts.{EngineOpts}
use Rattle.spec_zmtp.specs.Put.{Put, message_in, encode_put}
use Rattle.spec_zmtp.specs.DecodedStream.{Decoded, Decodes}
use Rattle.spec_link.specs.declared.row.LinkEnd.{LinkEnd}
use Rattle.spec_link.specs.declared.row.SessionRow.{SessionRow}
use Rattle.spec_link.specs.LinkAct.{LinkAct, said_of, heard_of, repeated_of, taken_of, put_of}
use Rattle.spec_link.specs.LinkRun.{AreToSay, IsLinkRun, octets_to_say}

-- ---- written and lost, at one link

-- how many messages of these puts lie wholly in so many octets
abbrev pub whole_in : ℕ → List Put → ℕ
whole_in room [] = 0
whole_in room (p ∷ puts) =
    (if nat_le (length (encode_put p)) room then length (message_in p) else 0) + whole_in (room - length (encode_put p)) puts

-- so many messages that were taken are written at a link on which this was heard: of all that lie wholly in what the link took behind our greeting, those said again aren't counted
abbrev pub IsWritten : EngineOpts → Decoded → List LinkAct → ℕ → Type 0
IsWritten opts d acts n =
    (puts : List Put) × AreToSay opts acts d puts × IsPrefix (said_of acts) (octets_to_say opts.role puts)
    × (n ≡ whole_in (length (said_of acts) - 64) puts - length (repeated_of acts))

-- so many messages a link that is over has lost: taken from the pipe, and not written
abbrev pub IsLost : EngineOpts → Decoded → List LinkAct → ℕ → Type 0
IsLost opts d acts n = (w : ℕ) × IsWritten opts d acts w × (n ≡ length (taken_of acts) - w)

-- ---- over all links of a session

-- a link that is over, and why
pub record ClosedLink : Type 0 where
  pub acts : List LinkAct
  pub why : LinkEnd

-- at each of these links the octets mean something, such a number is of it, and these add up to this
abbrev pub AddUp : (Decoded → List LinkAct → ℕ → Type 0) → EngineOpts → List (List LinkAct) → ℕ → Type 0
AddUp R opts [] n = n ≡ 0
AddUp R opts (acts ∷ links) n =
    (d : Decoded) × (k m : ℕ) × Decodes opts (heard_of acts) d × R d acts k × AddUp R opts links m × (n ≡ k + m)

-- a count stays at the greatest 64-bit number
abbrev pub count_of : ℕ → ℕ
count_of n = min n (2 ^ 64 - 1)

-- a count of what these links add up to
abbrev pub Counts : (Decoded → List LinkAct → ℕ → Type 0) → EngineOpts → List (List LinkAct) → ℕ → Type 0
Counts R opts links n = (total : ℕ) × AddUp R opts links total × (n ≡ count_of total)

-- so many messages were heard at a link, and so many put
abbrev pub AreHeard : Decoded → List LinkAct → ℕ → Type 0
AreHeard d acts n = n ≡ length d.messages

abbrev pub ArePut : Decoded → List LinkAct → ℕ → Type 0
ArePut d acts n = n ≡ length (put_of acts)

-- each of these links is a link run
abbrev pub AreLinkRuns : EngineOpts → List (List LinkAct) → Type 0
AreLinkRuns opts [] = Unit {0}
AreLinkRuns opts (acts ∷ links) = ((d : Decoded) × IsLinkRun opts acts d) × AreLinkRuns opts links

-- the acts at all links: those that are over, and the one that stands
abbrev pub acts_at : List ClosedLink → Option (List LinkAct) → List (List LinkAct)
acts_at [] None = []
acts_at [] (Some acts) = acts ∷ []
acts_at (link ∷ closed) now = link.acts ∷ acts_at closed now

-- why the last of these links ended
abbrev pub last_of : List ClosedLink → Option LinkEnd
last_of [] = None
last_of (link ∷ []) = Some link.why
last_of (link ∷ next ∷ closed) = last_of (next ∷ closed)

-- a session's row, by its links that are over and the one that stands
pub record IsSessionRow (opts : EngineOpts) (closed : List ClosedLink) (now : Option (List LinkAct)) (row : SessionRow) : Type 0 where
  pub links : row.links ≡ count_of (length (acts_at closed now))
  pub heard : Counts AreHeard opts (acts_at closed now) row.heard
  pub put : Counts ArePut opts (acts_at closed now) row.put
  pub last : row.last ≡ last_of closed

-- of the pipe that a session reads: so many messages were written and so many lost; one that gave up loses what its link hasn't wholly taken
pub record AreFates (opts : EngineOpts) (closed : List ClosedLink) (now : Option (List LinkAct)) (gave_up : Bool) (written lost : ℕ) : Type 0 where
  pub written_is : Counts (IsWritten opts) opts (acts_at closed now) written
  pub lost_is : Counts (IsLost opts) opts (acts_at closed (if gave_up then now else None)) lost
