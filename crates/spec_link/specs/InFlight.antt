-- How many messages of a link are written, and that one at most is between the pipe and the link (own choice).
use Rattle.std.specs.Prelude.{◌≡◌, ℕ, List, [], ◌∷◌, ◌++◌, length, All}
use Rattle.zq_base.specs.Message.{Frames}
use Rattle.zq_base.specs.Ends.{PipeId}
use Rattle.zq_base.specs.declared.options.EngineOpts.{EngineOpts}
use Rattle.spec_pattern.specs.PipeStep.{Take}
use Rattle.spec_zmtp.specs.Put.{IsSendable}
use Rattle.spec_zmtp.specs.DecodedStream.{Decoded}
use Rattle.spec_link.specs.LinkAct.{LinkAct, Step, offered_of, taken_of}
use Rattle.spec_link.specs.LinkRun.{IsSaid, IsAllSaid}
use Rattle.spec_link.specs.Rows.{IsWritten, IsLost}

-- In whatever order commands and messages stand, the octets that the link took tell how many messages are written, and how many a link that ends there has lost.
pub record CountsAreOne : Type 0 where
  pub written : (opts : EngineOpts) (acts : List LinkAct) (d : Decoded) (n m : ℕ) → All IsSendable (offered_of acts) → IsWritten opts d acts n → IsWritten opts d acts m → n ≡ m
  pub lost : (opts : EngineOpts) (acts : List LinkAct) (d : Decoded) (n m : ℕ) → All IsSendable (offered_of acts) → IsLost opts d acts n → IsLost opts d acts m → n ≡ m

-- where all is said, each message that was taken is written, and a link that ends there has lost none
abbrev pub AllIsWritten : Type 0
AllIsWritten = (opts : EngineOpts) (acts : List LinkAct) (d : Decoded) → All IsSendable (offered_of acts) → IsAllSaid opts d acts →
    IsWritten opts d acts (length (taken_of acts)) × IsLost opts d acts 0

-- Where all was said when a message was taken, nothing was offered since, and not all of it is said: that message isn't written, and each before it is. A link that ends there has lost one.
abbrev pub OneIsInFlight : Type 0
OneIsInFlight = (opts : EngineOpts) (before behind : List LinkAct) (pipe : PipeId) (m : Frames) (d : Decoded) →
    All IsSendable (offered_of (before ++ Step (Take pipe m) ∷ behind)) →
    IsAllSaid opts d before → offered_of behind ≡ [] →
    IsSaid opts d (before ++ Step (Take pipe m) ∷ behind) →
    (IsAllSaid opts d (before ++ Step (Take pipe m) ∷ behind) → ⊥) →
    IsWritten opts d (before ++ Step (Take pipe m) ∷ behind) (length (taken_of before))
    × IsLost opts d (before ++ Step (Take pipe m) ∷ behind) 1
