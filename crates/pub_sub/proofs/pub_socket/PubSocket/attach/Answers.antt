use Rattle.pub_sub.proofs.PeerLemmas.{Attaches-ok}
use Rattle.pub_sub.proofs.pub_socket.PubSocket.attach.Goals as goal

pub returns-clause-defined : goal.returns-clause-defined
returns-clause-defined g c = Attaches-ok c.attach.result c.args.place c.self.inside.publisher c.args.self.now c.attach.new.self c.self.view_is c.attach.ensures.ok
