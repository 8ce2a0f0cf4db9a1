-- What the worked examples are made of.
use Rattle.std.specs.Prelude.{ℕ, List, [], ◌∷◌, Bool, true, false, codes, negsuc}
use Rattle.zq_base.specs.declared.ids.PairId.{PairId}
use Rattle.zq_base.specs.declared.options.Options.{Options}
use Rattle.zq_base.specs.declared.options.Role.TheVariants.{Null}
use Rattle.zq_base.specs.declared.endpoint.Endpoint.{Endpoint}
use Rattle.zq_base.specs.declared.endpoint.Endpoint.TheVariants.{Inproc}
use Rattle.zq_base.specs.Ends.{PipeId}
use Rattle.spec_pattern.specs.TurnList.{End}
use Rattle.spec_pattern.specs.declared.answers.Skip.{Skip}
use Rattle.spec_pattern.specs.declared.answers.Rule.{Rule}
use Rattle.spec_run.specs.declared.answer.Answer.{Answer}
use Rattle.spec_run.specs.declared.answer.Answer.TheVariants as answer
use Rattle.spec_run.specs.declared.journal.PipeRow.{PipeRow}

-- options that are as usual but for the mark
abbrev pub options_with : ℕ → Options
options_with mark = record { hwm = mark; rcvhwm = mark; linger = negsuc 0; reconnect = 100; id = []; mandatory = false; verbose = false; role = Null; logins = [] }

-- the pair of this number, and its ends
abbrev pub pair_nr : ℕ → PairId
pair_nr n = record { 0 = n }

abbrev pub end_a : ℕ → End
end_a n = record { pair = pair_nr n; a = true }

abbrev pub end_b : ℕ → End
end_b n = record { pair = pair_nr n; a = false }

-- all ends can be written
abbrev pub open_to_all : End → Bool
open_to_all e = true

-- the endpoint of all examples
abbrev pub at_q : Endpoint
at_q = Inproc (codes "q")

-- what is answered where a message of one part came by pair 1
abbrev pub got_from_1 : List ℕ → Answer
got_from_1 part = answer.Got (pair_nr 1) (part ∷ [])

-- a message that this rule dropped, at the pair of this number
abbrev pub skip_at : Rule → ℕ → Skip
skip_at rule n = record { rule = rule; pair = pair_nr n }

-- a row of which all messages were given
abbrev pub row_given : PipeId → ℕ → PipeRow
row_given p n = record { pipe = p; sent = n; given = n; heard = 0; dropped = 0; written = 0; lost = 0; rest = 0 }
