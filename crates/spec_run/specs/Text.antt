-- How answers, messages that were dropped and pipes are shown (own format).
use Rattle.std.specs.Prelude.{ℕ, List, [], ◌∷◌, ◌++◌, Bool, true, false, codes, decimal, flat_map}
use Rattle.spec_run.specs.PartText.{parts_text}
use Rattle.zq_base.specs.Ends.{PipeId}
use Rattle.zq_base.specs.declared.ids.PairId.{PairId}
use Rattle.spec_pattern.specs.declared.answers.Report.{Report}
use Rattle.spec_pattern.specs.declared.answers.SendRefusal.{SendRefusal}
use Rattle.spec_pattern.specs.declared.answers.SendRefusal.TheVariants as send
use Rattle.spec_pattern.specs.declared.answers.RecvRefusal.{RecvRefusal}
use Rattle.spec_pattern.specs.declared.answers.RecvRefusal.TheVariants as recv
use Rattle.spec_pattern.specs.declared.answers.Skip.{Skip}
use Rattle.spec_pattern.specs.declared.answers.Rule.{Rule}
use Rattle.spec_pattern.specs.declared.answers.Rule.TheVariants as rule
use Rattle.spec_run.specs.declared.answer.Answer.{Answer}
use Rattle.spec_run.specs.declared.answer.Answer.TheVariants as answer

abbrev pub send_refusal_text : SendRefusal → List ℕ
send_refusal_text send.Term = codes "term"
send_refusal_text send.NotSupported = codes "notsup"
send_refusal_text send.Fsm = codes "fsm"
send_refusal_text send.NoBody = codes "nobody"
send_refusal_text send.TooLarge = codes "toolarge"
send_refusal_text send.SubLimit = codes "limit"
send_refusal_text send.Unreachable = codes "unreachable"
send_refusal_text send.Again = codes "again"

abbrev pub recv_refusal_text : RecvRefusal → List ℕ
recv_refusal_text recv.Term = codes "term"
recv_refusal_text recv.NotSupported = codes "notsup"
recv_refusal_text recv.Fsm = codes "fsm"
recv_refusal_text recv.Again = codes "again"
recv_refusal_text recv.Busy = codes "busy"

abbrev pub rule_text : Rule → List ℕ
rule_text rule.NoMatch = codes "nomatch"
rule_text rule.PubFull = codes "pubfull"
rule_text rule.Unroutable = codes "unroutable"
rule_text rule.RouteFull = codes "routefull"
rule_text rule.ReplyGone = codes "replygone"
rule_text rule.NoSub = codes "nosub"
rule_text rule.Stray = codes "stray"
rule_text rule.BadEnv = codes "badenv"
rule_text rule.Filtered = codes "filtered"

-- these pairs, each behind a comma
abbrev pub others_text : List PairId → List ℕ
others_text pairs = flat_map (λ p. codes ",p" ++ decimal p.0) pairs

-- these pairs, with commas between them
abbrev pub pairs_text : List PairId → List ℕ
pairs_text [] = []
pairs_text (p ∷ ps) = codes "p" ++ decimal p.0 ++ others_text ps

-- the pairs without room for a copy, where there are some
abbrev pub full_text : List PairId → List ℕ
full_text [] = []
full_text (p ∷ ps) = codes " full " ++ pairs_text (p ∷ ps)

-- the pairs to which copies of a message went, and those without room for one
abbrev pub report_text : Report PairId → List ℕ
report_text report = codes "ok " ++ pairs_text report.put ++ full_text report.full

-- what a line was answered
abbrev pub answer_text : Answer → List ℕ
answer_text (answer.Object o) = codes "ok o" ++ decimal o.0
answer_text answer.Done = codes "ok"
answer_text answer.Wait = codes "wait"
answer_text answer.Term = codes "term"
answer_text answer.NoSocket = codes "nosock"
answer_text answer.NotSupported = codes "notsup"
answer_text answer.InUse = codes "inuse"
answer_text answer.NotBound = codes "notbound"
answer_text answer.BadPair = codes "badpair"
answer_text answer.TooMany = codes "toomany"
answer_text answer.Limit = codes "limit"
answer_text answer.NotSub = codes "notsub"
answer_text (answer.Pair p) = codes "ok p" ++ decimal p.0
answer_text (answer.Both o p) = codes "ok o" ++ decimal o.0 ++ codes " p" ++ decimal p.0
answer_text (answer.Many report) = report_text report
answer_text (answer.Got p m) = codes "msg p" ++ decimal p.0 ++ parts_text m
answer_text (answer.Dropped rule) = codes "drop " ++ rule_text rule
answer_text (answer.NotSent refusal) = send_refusal_text refusal
answer_text (answer.NotReceived refusal) = recv_refusal_text refusal

-- a message that was dropped: by its rule, at its pair
abbrev pub skip_text : Skip → List ℕ
skip_text s = codes " !" ++ rule_text s.rule ++ codes "@p" ++ decimal s.pair.0

abbrev pub skips_text : List Skip → List ℕ
skips_text skips = flat_map skip_text skips

abbrev pub side_text : Bool → List ℕ
side_text true = codes "a"
side_text false = codes "b"

-- a pipe by its pair and the end that writes it
abbrev pub pipe_text : PipeId → List ℕ
pipe_text p = codes "p" ++ decimal p.pair.0 ++ side_text p.a
