use Rattle.pub_sub.proofs.SubscriberLemmas.{Leaves-gone}
use Rattle.pub_sub.proofs.sub_socket.SubSocket.detach.Goals as goal

pub returns-clause-defined : goal.returns-clause-defined
returns-clause-defined g c = Leaves-gone c.args.place c.self.inside.subscriber c.args.self.now c.leave.new.self c.self.view_is c.leave.ensures.gone
