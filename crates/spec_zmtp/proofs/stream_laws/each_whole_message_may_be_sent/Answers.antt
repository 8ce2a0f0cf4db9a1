use Rattle.spec_zmtp.proofs.WholeLemmas.{all_sendable}
use Rattle.spec_zmtp.proofs.stream_laws.each_whole_message_may_be_sent.Goals as goal

pub returns : goal.returns
returns c = all_sendable
