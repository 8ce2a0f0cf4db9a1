-- What an engine's fields stand for.
use Rattle.std.specs.Prelude.{◌≡◌, ◌≤◌, [], None, vec_capacity}
use Rattle.zmtp_engine.specs.declared.engine.Engine.TheInside.{Inside}
use Rattle.zmtp_engine.specs.StreamView.{listening_of}
use Rattle.zmtp_engine.specs.WriterView.{output_of, IsWriter}
use Rattle.zmtp_engine.specs.Conversation.{Past, Conversation, Follows, unwritten}

-- what is kept, without where it lies in memory
abbrev pub conversation_of : Inside → Conversation
conversation_of e = record { listening = listening_of e.stream; output = output_of e.writer }

-- nothing is left where nothing is lent
pub record IsSpent (c : Conversation) : Type 0 where
  pub unwritten : unwritten c ≡ []
  pub idle : c.output.later ≡ None

-- what is kept is of some past, and something is lent where anything is left
pub record IsEngine (e : Inside) : Type 0 where
  pub room : 64 ≤ vec_capacity e.stream.greeting
  pub writer : IsWriter e.writer
  pub past : Past
  pub follows : Follows past (conversation_of e)
  pub lends : (conversation_of e).output.run ≡ [] → IsSpent (conversation_of e)
