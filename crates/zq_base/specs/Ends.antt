-- The two ends of a pair (own choice: a pair is numbered, its ends are a and b).
use Rattle.std.specs.Prelude.{not}
use Rattle.zq_base.specs.declared.ids.EndId.{EndId}

-- a pipe, by the end that writes it
abbrev pub PipeId : Type 0
PipeId = EndId

-- the other end of the pair
abbrev pub other_end : EndId → EndId
other_end e = record { pair = e.pair; a = not e.a }
