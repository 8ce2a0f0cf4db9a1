-- Calls of a socket that make no pipe (own choice, after libzmq's `pipe_t`).
use Rattle.std.specs.Prelude.{◌≡◌, List, Option}
use Rattle.zq_base.specs.Ends.{PipeId}
use Rattle.msg_pipe.specs.Known.{Known}
use Rattle.spec_control.specs.Control.{Control}
use Rattle.end_table.specs.declared.changes.PipeChange.{PipeChange}
use Rattle.socket_laws.specs.Changes.{NamesGoOn}

-- calls in which no pipe got a name made none that goes by a name
abbrev pub QuietCallsGoOn : {S O I N : Type 0} → Known S O I N → Type 0
QuietCallsGoOn {S} {O} {I} {N} K = (c now : Control) (names said : PipeId → Option N) → ((p : PipeId) → said p ≡ names p) →
    (changes : List (PipeChange O I × S)) → NamesGoOn K c now changes names said
