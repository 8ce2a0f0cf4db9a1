-- A socket of any kind that has no peers yet (zmq_socket(3); zmq_setsockopt(3), "ZMQ_ROUTER_MANDATORY", "ZMQ_XPUB_VERBOSE").
use Rattle.std.specs.Prelude.{◌≡◌, ℕ, []}
use Rattle.zq_base.specs.declared.kind.Kind.{Kind}
use Rattle.zq_base.specs.declared.options.Options.{Options}
use Rattle.spec_pattern.specs.TurnList.{End}
use Rattle.spec_pattern.specs.NewSocket.{new_pattern}
use Rattle.any_sock.specs.Over.{peer_places, over, left_of, nothing_left}
use Rattle.any_sock.specs.declared.any_sock.AnySock.{AnySock}

-- the socket is one of the kind without peers
pub record IsWithoutPeers (kind : Kind) (options : Options) (s : AnySock) : Type 0 where
  pub state_is : (ends : ℕ → End) → over ends s ≡ new_pattern kind options
  pub places_are : peer_places s ≡ []
  pub left_is : left_of s ≡ nothing_left
