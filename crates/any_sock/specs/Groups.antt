-- The kinds of a socket by their patterns: pipeline and exclusive pair, request and reply, publish and subscribe (zmq_socket(3)).
use Rattle.any_sock.specs.declared.group.Group.{Group}
use Rattle.any_sock.specs.declared.group.Group.TheVariants.{Pipeline, RequestReply, PublishSubscribe}
use Rattle.any_sock.specs.declared.any_sock.AnySock.{AnySock}
use Rattle.any_sock.specs.declared.any_sock.AnySock.TheVariants as sock

abbrev pub group_of : AnySock → Group
group_of (sock.Push turns) = Pipeline
group_of (sock.Pull turns) = Pipeline
group_of (sock.Pair turns) = Pipeline
group_of (sock.Dealer t) = RequestReply
group_of (sock.Req r) = RequestReply
group_of (sock.Rep r) = RequestReply
group_of (sock.Router r) = RequestReply
group_of (sock.Pub p) = PublishSubscribe
group_of (sock.XPub p) = PublishSubscribe
group_of (sock.Sub u) = PublishSubscribe
group_of (sock.XSub u) = PublishSubscribe
