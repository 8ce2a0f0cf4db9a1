use Rattle.pub_sub.proofs.SubscriberLemmas.{Joins-ok}
use Rattle.pub_sub.proofs.sub_socket.SubSocket.attach.Goals as goal

pub returns-clause-defined : goal.returns-clause-defined
returns-clause-defined g c = Joins-ok c.attach.result c.args.place c.self.inside.subscriber c.args.self.now c.attach.new.self c.self.view_is c.attach.ensures.ok
