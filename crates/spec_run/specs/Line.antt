-- What is answered to a line, by what its socket answers.
use Rattle.spec_pattern.specs.Subscribing.{Done, Limit, NotSub}
use Rattle.spec_pattern.specs.PatternCalls.{ChangeAnswer, NoTopics, Changed}
use Rattle.spec_pattern.specs.declared.answers.SendAnswer.{SendAnswer}
use Rattle.spec_pattern.specs.declared.answers.SendAnswer.TheVariants as sent
use Rattle.spec_pattern.specs.declared.answers.RecvAnswer.{RecvAnswer}
use Rattle.spec_pattern.specs.declared.answers.RecvAnswer.TheVariants as got
use Rattle.spec_run.specs.declared.answer.Answer.{Answer}
use Rattle.spec_run.specs.declared.answer.Answer.TheVariants as answer

-- what is answered to a line whose socket answered so
abbrev pub sent_answer : SendAnswer → Answer
sent_answer (sent.One to) = answer.Pair to
sent_answer (sent.Many report) = answer.Many report
sent_answer sent.Subscribed = answer.Done
sent_answer (sent.Dropped rule) = answer.Dropped rule
sent_answer (sent.Refused refusal) = answer.NotSent refusal

abbrev pub got_answer : RecvAnswer → Answer
got_answer (got.Got from_ m) = answer.Got from_ m
got_answer (got.Refused refusal) = answer.NotReceived refusal

abbrev pub changed_answer : ChangeAnswer → Answer
changed_answer NoTopics = answer.NotSupported
changed_answer (Changed Done) = answer.Done
changed_answer (Changed Limit) = answer.Limit
changed_answer (Changed NotSub) = answer.NotSub
