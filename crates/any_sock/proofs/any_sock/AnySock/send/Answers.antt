use Rattle.std.proofs.Common.{◌∙◌, sym}
use Rattle.any_sock.proofs.any_sock.AnySock.send.Goals as goal

pub send_pipeline-requires-clause-kind : goal.send_pipeline-requires-clause-kind
send_pipeline-requires-clause-kind g c = sym c.group.ensures ∙ c.in-Pipeline.is

pub send_pipeline-requires-clause-there : goal.send_pipeline-requires-clause-there
send_pipeline-requires-clause-there g c = c.requires.there

pub returns-in-Pipeline-clause-step : goal.returns-in-Pipeline-clause-step
returns-in-Pipeline-clause-step g c = c.send_pipeline.ensures.step

pub returns-in-Pipeline-clause-back : goal.returns-in-Pipeline-clause-back
returns-in-Pipeline-clause-back g c = c.send_pipeline.ensures.back

pub returns-in-Pipeline-clause-places : goal.returns-in-Pipeline-clause-places
returns-in-Pipeline-clause-places g c = c.send_pipeline.ensures.places

pub returns-in-Pipeline-clause-partner : goal.returns-in-Pipeline-clause-partner
returns-in-Pipeline-clause-partner g c = c.send_pipeline.ensures.partner

pub returns-in-Pipeline-clause-left : goal.returns-in-Pipeline-clause-left
returns-in-Pipeline-clause-left g c = c.send_pipeline.ensures.left

pub returns-in-Pipeline-clause-keeps : goal.returns-in-Pipeline-clause-keeps
returns-in-Pipeline-clause-keeps g c = c.send_pipeline.ensures.keeps

pub send_request_reply-requires-clause-kind : goal.send_request_reply-requires-clause-kind
send_request_reply-requires-clause-kind g c = sym c.group.ensures ∙ c.in-RequestReply.is

pub send_request_reply-requires-clause-there : goal.send_request_reply-requires-clause-there
send_request_reply-requires-clause-there g c = c.requires.there

pub returns-in-RequestReply-clause-step : goal.returns-in-RequestReply-clause-step
returns-in-RequestReply-clause-step g c = c.send_request_reply.ensures.step

pub returns-in-RequestReply-clause-back : goal.returns-in-RequestReply-clause-back
returns-in-RequestReply-clause-back g c = c.send_request_reply.ensures.back

pub returns-in-RequestReply-clause-places : goal.returns-in-RequestReply-clause-places
returns-in-RequestReply-clause-places g c = c.send_request_reply.ensures.places

pub returns-in-RequestReply-clause-partner : goal.returns-in-RequestReply-clause-partner
returns-in-RequestReply-clause-partner g c = c.send_request_reply.ensures.partner

pub returns-in-RequestReply-clause-left : goal.returns-in-RequestReply-clause-left
returns-in-RequestReply-clause-left g c = c.send_request_reply.ensures.left

pub returns-in-RequestReply-clause-keeps : goal.returns-in-RequestReply-clause-keeps
returns-in-RequestReply-clause-keeps g c = c.send_request_reply.ensures.keeps

pub send_publish_subscribe-requires-clause-kind : goal.send_publish_subscribe-requires-clause-kind
send_publish_subscribe-requires-clause-kind g c = sym c.group.ensures ∙ c.in-PublishSubscribe.is

pub send_publish_subscribe-requires-clause-there : goal.send_publish_subscribe-requires-clause-there
send_publish_subscribe-requires-clause-there g c = c.requires.there

pub returns-in-PublishSubscribe-clause-step : goal.returns-in-PublishSubscribe-clause-step
returns-in-PublishSubscribe-clause-step g c = c.send_publish_subscribe.ensures.step

pub returns-in-PublishSubscribe-clause-back : goal.returns-in-PublishSubscribe-clause-back
returns-in-PublishSubscribe-clause-back g c = c.send_publish_subscribe.ensures.back

pub returns-in-PublishSubscribe-clause-places : goal.returns-in-PublishSubscribe-clause-places
returns-in-PublishSubscribe-clause-places g c = c.send_publish_subscribe.ensures.places

pub returns-in-PublishSubscribe-clause-partner : goal.returns-in-PublishSubscribe-clause-partner
returns-in-PublishSubscribe-clause-partner g c = c.send_publish_subscribe.ensures.partner

pub returns-in-PublishSubscribe-clause-left : goal.returns-in-PublishSubscribe-clause-left
returns-in-PublishSubscribe-clause-left g c = c.send_publish_subscribe.ensures.left

pub returns-in-PublishSubscribe-clause-keeps : goal.returns-in-PublishSubscribe-clause-keeps
returns-in-PublishSubscribe-clause-keeps g c = c.send_publish_subscribe.ensures.keeps
