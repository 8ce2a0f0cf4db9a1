use Rattle.std.proofs.Common.{◌∙◌, sym}
use Rattle.any_sock.proofs.any_sock.AnySock.recv.Goals as goal

pub recv_pipeline-requires-clause-kind : goal.recv_pipeline-requires-clause-kind
recv_pipeline-requires-clause-kind g c = sym c.group.ensures ∙ c.in-Pipeline.is

pub recv_pipeline-requires-clause-there : goal.recv_pipeline-requires-clause-there
recv_pipeline-requires-clause-there g c = c.requires.there

pub returns-in-Pipeline-clause-step : goal.returns-in-Pipeline-clause-step
returns-in-Pipeline-clause-step g c = c.recv_pipeline.ensures.step c.args.skips.now.items

pub returns-in-Pipeline-clause-places : goal.returns-in-Pipeline-clause-places
returns-in-Pipeline-clause-places g c = c.recv_pipeline.ensures.places

pub returns-in-Pipeline-clause-keeps : goal.returns-in-Pipeline-clause-keeps
returns-in-Pipeline-clause-keeps g c = c.recv_pipeline.ensures.keeps

pub recv_request_reply-requires-clause-kind : goal.recv_request_reply-requires-clause-kind
recv_request_reply-requires-clause-kind g c = sym c.group.ensures ∙ c.in-RequestReply.is

pub recv_request_reply-requires-clause-there : goal.recv_request_reply-requires-clause-there
recv_request_reply-requires-clause-there g c = c.requires.there

pub returns-in-RequestReply-clause-step : goal.returns-in-RequestReply-clause-step
returns-in-RequestReply-clause-step g c = c.recv_request_reply.ensures.step

pub returns-in-RequestReply-clause-places : goal.returns-in-RequestReply-clause-places
returns-in-RequestReply-clause-places g c = c.recv_request_reply.ensures.places

pub returns-in-RequestReply-clause-keeps : goal.returns-in-RequestReply-clause-keeps
returns-in-RequestReply-clause-keeps g c = c.recv_request_reply.ensures.keeps

pub recv_publish_subscribe-requires-clause-kind : goal.recv_publish_subscribe-requires-clause-kind
recv_publish_subscribe-requires-clause-kind g c = sym c.group.ensures ∙ c.in-PublishSubscribe.is

pub recv_publish_subscribe-requires-clause-there : goal.recv_publish_subscribe-requires-clause-there
recv_publish_subscribe-requires-clause-there g c = c.requires.there

pub returns-in-PublishSubscribe-clause-step : goal.returns-in-PublishSubscribe-clause-step
returns-in-PublishSubscribe-clause-step g c = c.recv_publish_subscribe.ensures.step

pub returns-in-PublishSubscribe-clause-places : goal.returns-in-PublishSubscribe-clause-places
returns-in-PublishSubscribe-clause-places g c = c.recv_publish_subscribe.ensures.places

pub returns-in-PublishSubscribe-clause-keeps : goal.returns-in-PublishSubscribe-clause-keeps
returns-in-PublishSubscribe-clause-keeps g c = c.recv_publish_subscribe.ensures.keeps
