-- Worked examples of messages that a receive drops: a REP drops a message without an envelope (RFC 28, "The REP Socket Type"), and a REQ one that is no reply of the peer that it asked ("The REQ Socket Type").
use Rattle.std.specs.Prelude.{List, [], ◌∷◌, Some, codes}
use Rattle.spec_pattern.specs.PipeStep.{Take, EmptyLook}
use Rattle.spec_pattern.specs.TurnList.{End}
use Rattle.spec_pattern.specs.Duty.{Duty, Free, Asked, Owing}
use Rattle.spec_pattern.specs.Pattern.{Pattern, Rep, Req}
use Rattle.spec_pattern.specs.PatternCalls.{PatternReceives}
use Rattle.spec_pattern.specs.declared.answers.Rule.TheVariants.{Stray, BadEnv}
use Rattle.spec_pattern.specs.declared.answers.RecvRefusal.TheVariants as recv
use Rattle.spec_pattern.specs.declared.answers.RecvAnswer.TheVariants as got
use Rattle.spec_run.specs.TextParts.{pair_nr, end_a, end_b, skip_at}

-- a REP of one peer, with what is under way
abbrev pub rep : Duty → Pattern
rep duty = Rep (end_b 1 ∷ []) duty

-- a reply to its peer is under way
abbrev pub owing_1 : Duty
owing_1 = Owing (Some (end_b 1)) ([] ∷ [])

-- the two peers of a REQ, in the order of their turns, and once the first of them served
abbrev pub both_peers : List End
both_peers = end_a 1 ∷ end_a 2 ∷ []

abbrev pub turned_peers : List End
turned_peers = end_a 2 ∷ end_a 1 ∷ []

-- it asked the first
abbrev pub asked_1 : Duty
asked_1 = Asked (Some (end_a 1))

-- a REQ that sent to the first, with these turns for receiving
abbrev pub req : List End → Duty → Pattern
req ins duty = Req (record { outs = turned_peers; ins = ins }) duty

-- A REP drops a message without an envelope and gives a request; a REQ drops what another peer sent, though it looks like a reply, and gives the reply of the one that it asked.
pub record DropRules : Type 0 where
  pub rep_drops : PatternReceives (rep Free) (Take (end_a 1) (codes "x" ∷ []) ∷ EmptyLook (end_a 1) ∷ []) (skip_at BadEnv 1 ∷ []) (got.Refused recv.Again) (rep Free)
  pub rep_gives : PatternReceives (rep Free) (Take (end_a 1) ([] ∷ codes "r" ∷ []) ∷ []) [] (got.Got (pair_nr 1) (codes "r" ∷ [])) (rep owing_1)
  pub req_drops : PatternReceives (req both_peers asked_1) (EmptyLook (end_b 1) ∷ Take (end_b 2) ([] ∷ codes "x" ∷ []) ∷ EmptyLook (end_b 1) ∷ EmptyLook (end_b 2) ∷ []) (skip_at Stray 2 ∷ []) (got.Refused recv.Again) (req both_peers asked_1)
  pub req_gives : PatternReceives (req both_peers asked_1) (Take (end_b 1) ([] ∷ codes "yes" ∷ []) ∷ []) [] (got.Got (pair_nr 1) (codes "yes" ∷ [])) (req turned_peers Free)
