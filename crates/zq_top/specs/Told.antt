-- What the story of a plain pipe is made of.
use Rattle.std.specs.Prelude.{Bool}
use Rattle.zq_base.specs.declared.log.Log.{Log}
use Rattle.msg_pipe.specs.declared.plain_pipe.PlainPipe.{PlainPipe}

-- what plain pipes tell of themselves
abbrev pub Told : Type 0
Told = Log PlainPipe Bool
