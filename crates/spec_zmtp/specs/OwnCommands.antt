-- What a side with given options says in a handshake (RFC 23, "The NULL Security Mechanism"; RFC 24).
use Rattle.std.specs.Prelude.{◌≡◌, Bool, true, false, if◌then◌else◌, IsTrue, List, [], ◌∷◌, length, All, codes}
use Rattle.zq_base.specs.Kind.{kind_name}
use Rattle.zq_base.specs.declared.kind.Kind.{Kind}
use Rattle.zq_base.specs.declared.kind.Kind.TheVariants.{Push, Pull, Pair, Dealer, Req, Rep, Router, Pub, XPub, Sub, XSub}
use Rattle.zq_base.specs.declared.options.EngineOpts.{EngineOpts}
use Rattle.zq_base.specs.declared.options.Login.{Login}
use Rattle.zq_base.specs.declared.options.Role.TheVariants.{PlainClient}
use Rattle.spec_zmtp.specs.declared.command.Command.{Command}
use Rattle.spec_zmtp.specs.declared.command.Property.{Property}
use Rattle.spec_zmtp.specs.Metadata.{encode_meta, encode_login, IsLogin, counted, command, property}
use Rattle.spec_zmtp.specs.PeerMetadata.{is_identity}

-- options of an engine: an identity, logins that can be said, and of a PLAIN client one
pub record IsEngineOpts (opts : EngineOpts) : Type 0 where
  pub identity : IsTrue (is_identity opts.id)
  pub logins : All IsLogin opts.logins
  pub client : opts.role ≡ PlainClient → length opts.logins ≡ 1

-- whether a kind tells its identity
abbrev pub tells_identity : Kind → Bool
tells_identity Push = false
tells_identity Pull = false
tells_identity Pair = false
tells_identity Dealer = true
tells_identity Req = true
tells_identity Rep = false
tells_identity Router = true
tells_identity Pub = false
tells_identity XPub = false
tells_identity Sub = false
tells_identity XSub = false

-- what we tell of ourselves
abbrev pub own_properties : EngineOpts → List Property
own_properties opts =
    property (codes "Socket-Type") (kind_name opts.kind)
    ∷ (if tells_identity opts.kind then property (codes "Identity") opts.id ∷ [] else [])

-- the first login, which a PLAIN client has
abbrev pub own_login : List Login → Login
own_login [] = record { user = []; pass = [] }
own_login (login ∷ logins) = login

-- READY, with our metadata
abbrev pub our_ready : EngineOpts → Command
our_ready opts = command (codes "READY") (encode_meta (own_properties opts))

-- INITIATE, with our metadata
abbrev pub our_initiate : EngineOpts → Command
our_initiate opts = command (codes "INITIATE") (encode_meta (own_properties opts))

-- HELLO, with our user and password
abbrev pub our_hello : EngineOpts → Command
our_hello opts = command (codes "HELLO") (encode_login (own_login opts.logins))

-- WELCOME
abbrev pub our_welcome : Command
our_welcome = command (codes "WELCOME") []

-- ERROR to a client that is not welcome (own choice of the reason)
abbrev pub our_error : Command
our_error = command (codes "ERROR") (counted (codes "Not-welcome"))
