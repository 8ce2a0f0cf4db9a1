-- How far an engine that only hears has told what it heard.
use Rattle.std.specs.Prelude.{◌≡◌, ℕ, List, [], ◌++◌}
use Rattle.zq_base.specs.declared.options.EngineOpts.{EngineOpts}
use Rattle.spec_zmtp.specs.Put.{says}
use Rattle.spec_zmtp.specs.DecodedStream.{Decoded, Decodes}
use Rattle.zmtp_engine.specs.Answers.{Standing, IsShaking, IsRunning, IsRefused}
use Rattle.zmtp_engine.specs.Conversation.{Past, Conversation, Follows, IsCurrent}

-- what an engine heard and what that means, the messages that it gave, and the octets of it that were written
pub record Told : Type 0 where
  pub opts : EngineOpts
  pub heard : List ℕ
  pub means : Decoded
  pub given : List (List (List ℕ))
  pub written : List ℕ

-- what these octets mean, before any of it was told
abbrev pub untold : EngineOpts → List ℕ → Decoded → Told
untold opts octets d = record { opts = opts; heard = octets; means = d; given = []; written = [] }

-- nothing was given or written yet
abbrev pub IsUntold : Told → Type 0
IsUntold t = (t.given ≡ []) × (t.written ≡ [])

-- what the engine went through, where it was offered nothing
abbrev pub past_of : Told → Past
past_of t = record { opts = t.opts; heard = t.heard; given = t.given; put = says t.means.said; written = t.written }

-- more octets were written
abbrev pub with_written : List ℕ → Told → Told
with_written octets t = record t { written = t.written ++ octets }

-- more messages were given
abbrev pub with_given : List (List (List ℕ)) → Told → Told
with_given messages t = record t { given = t.given ++ messages }

-- an engine has told this
pub record Tells (t : Told) (c : Conversation) : Type 0 where
  pub decodes : Decodes t.opts t.heard t.means
  pub follows : Follows (past_of t) c
  pub current : IsCurrent c

-- an engine that only hears
abbrev pub OnlyHears : Conversation → Type 0
OnlyHears c = (t : Told) × Tells t c

-- what is no refusal
abbrev pub IsOpen : Standing → Type 0
IsOpen IsShaking = Unit {0}
IsOpen (IsRunning peer) = Unit {0}
IsOpen (IsRefused refusal) = ⊥
