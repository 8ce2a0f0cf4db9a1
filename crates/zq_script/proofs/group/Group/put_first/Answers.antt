use Rattle.std.proofs.Common.{refl}
use Rattle.zq_script.proofs.GroupLemmas.{groups_socket, groups_closed, groups_other}
use Rattle.zq_script.proofs.group.Group.put_first.Goals as goal

pub returns-clause-socket : goal.returns-clause-socket
returns-clause-socket c = λ rest name h. groups_socket c.args.self.now _ rest name _ refl c.in_ok-push.ensures.items h

pub returns-clause-closed : goal.returns-clause-closed
returns-clause-closed c = λ rest name h. groups_closed c.args.self.now _ rest name _ refl c.in_ok-push.ensures.items h

pub returns-clause-other : goal.returns-clause-other
returns-clause-other c = λ rest h. groups_other c.args.self.now _ rest _ refl c.in_ok-push.ensures.items h
