-- What a line is answered where the control plane answered so (zmq_bind(3), zmq_connect(3), zmq_unbind(3), zmq_disconnect(3), zmq_ctx_term(3)).
use Rattle.spec_control.specs.declared.request.Refusal.TheVariants as refusal
use Rattle.spec_control.specs.declared.request.Reply.{Reply}
use Rattle.spec_control.specs.declared.request.Reply.TheVariants as reply
use Rattle.spec_run.specs.declared.answer.Answer.TheVariants as answer
use Rattle.spec_run.specs.declared.answer.Answer.{Answer}

-- the root that is asked by the line is asked well; one that was asked before is ending
abbrev pub reply_answer : Reply → Answer
reply_answer reply.Done = answer.Done
reply_answer (reply.Object o) = answer.Object o
reply_answer (reply.Pair p) = answer.Pair p
reply_answer (reply.Both o p) = answer.Both o p
reply_answer reply.Wait = answer.Wait
reply_answer reply.Asked = answer.Done
reply_answer reply.Before = answer.Term
reply_answer (reply.Refused refusal.Term) = answer.Term
reply_answer (reply.Refused refusal.InUse) = answer.InUse
reply_answer (reply.Refused refusal.NotBound) = answer.NotBound
reply_answer (reply.Refused refusal.BadPair) = answer.BadPair
reply_answer (reply.Refused refusal.TooMany) = answer.TooMany
