-- The state of a new socket, by its kind (zmq_socket(3), zmq_setsockopt(3)).
use Rattle.std.specs.Prelude.{Bool, true, false, []}
use Rattle.zq_base.specs.declared.kind.Kind.{Kind}
use Rattle.zq_base.specs.declared.kind.Kind.TheVariants.{Push, Pull, Pair, Dealer, Req, Rep, Router, Pub, XPub, Sub, XSub}
use Rattle.zq_base.specs.declared.options.Options.{Options}
use Rattle.spec_pattern.specs.Pattern.{Pattern}
use Rattle.spec_pattern.specs.Pattern as by_kind
use Rattle.spec_pattern.specs.Duty.{Free}
use Rattle.spec_pattern.specs.Publishing.{Publisher}

-- a publisher without peers; an XPUB has a user who hears of subscriptions, of each or of news alone
abbrev pub new_publisher : Bool → Bool → Publisher
new_publisher verbose tells = record { ins = []; subs = []; inbox = []; verbose = verbose; tells = tells }

-- the state of a new socket, which has no peers (zmq_setsockopt(3), ZMQ_ROUTER_MANDATORY and ZMQ_XPUB_VERBOSE)
abbrev pub new_pattern : Kind → Options → Pattern
new_pattern Push options = by_kind.Push []
new_pattern Pull options = by_kind.Pull []
new_pattern Pair options = by_kind.Pair (record { outs = []; ins = [] })
new_pattern Dealer options = by_kind.Dealer (record { outs = []; ins = [] })
new_pattern Req options = by_kind.Req (record { outs = []; ins = [] }) Free
new_pattern Rep options = by_kind.Rep [] Free
new_pattern Router options = by_kind.Router (record { ins = []; names = []; drawn = 0; mandatory = options.mandatory })
new_pattern Pub options = by_kind.Pub (new_publisher false false)
new_pattern XPub options = by_kind.XPub (new_publisher options.verbose true)
new_pattern Sub options = by_kind.Sub (record { ins = []; wanted = []; followers = [] })
new_pattern XSub options = by_kind.XSub (record { ins = []; wanted = []; followers = [] })
