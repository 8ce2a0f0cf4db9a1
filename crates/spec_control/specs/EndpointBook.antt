-- The names that sockets are bound to, and the connects that wait for one (zmq_inproc(7), zmq_tcp(7), zmq_bind(3), zmq_connect(3); the order of waiting is our own choice).
use Rattle.std.specs.Prelude.{◌==◌, ℕ, Bool, false, if◌then◌else◌, not, ◌&&◌, List, [], ◌∷◌, map, filter, Option}
use Rattle.std.specs.List.{list_any}
use Rattle.std.specs.Ordering.{nat_cmp}
use Rattle.std.specs.Cmp.Lexicographic.{slice_cmp}
use Rattle.std.specs.Option.{option_map_or}
use Rattle.std.specs.FinMap as finite
use Rattle.std.specs.Str.{bytes_eq}
use Rattle.zq_base.specs.Kind.{fits}
use Rattle.zq_base.specs.declared.endpoint.Address.{Address}
use Rattle.zq_base.specs.declared.endpoint.Endpoint.{Endpoint}
use Rattle.zq_base.specs.declared.endpoint.Endpoint.TheVariants.{Inproc, Tcp}
use Rattle.zq_base.specs.declared.ids.ObjId.{ObjId}
use Rattle.spec_control.specs.declared.book.Binding.{Binding}
use Rattle.spec_control.specs.declared.book.Waiting.{Waiting}

-- what is held, by the octets of an inproc name or the numbers of an address, each by one socket
abbrev pub Names : Type 0
Names = finite.FinMap (slice_cmp nat_cmp) Binding

-- the names that are held over inproc and over tcp, and the connects that wait, the longest waiting first
pub record Book : Type 0 where
  pub names : Names
  pub addresses : Names
  pub waiting : List Waiting

-- nothing is held and nothing waits
abbrev pub empty_book : Book
empty_book = record { names = finite.empty; addresses = finite.empty; waiting = [] }

-- the numbers of an address
abbrev pub numbers_of : Address → List ℕ
numbers_of address = address.port ∷ address.octets

-- the two are one endpoint: an inproc name is none over tcp, whatever it reads
abbrev pub is_endpoint : Endpoint → Endpoint → Bool
is_endpoint (Inproc a) (Inproc b) = bytes_eq a b
is_endpoint (Inproc a) (Tcp b) = false
is_endpoint (Tcp a) (Inproc b) = false
is_endpoint (Tcp a) (Tcp b) = bytes_eq (numbers_of a) (numbers_of b)

-- what an endpoint is known by among those of its transport
abbrev pub key_of : Endpoint → List ℕ
key_of (Inproc name) = name
key_of (Tcp address) = numbers_of address

-- the one over inproc, or the one over tcp
abbrev pub by_transport : {X : Type 0} → Endpoint → X → X → X
by_transport (Inproc name) inproc tcp = inproc
by_transport (Tcp address) inproc tcp = tcp

-- who holds the endpoint
abbrev pub binding_of : Book → Endpoint → Option Binding
binding_of book at = finite.get (by_transport at book.names book.addresses) (key_of at)

-- the two are one object
abbrev pub is_object : ObjId → ObjId → Bool
is_object a b = a.0 == b.0

-- the binding is there, and the object's
abbrev pub is_held_by : ObjId → Option Binding → Bool
is_held_by object binding = option_map_or (λ b. is_object b.holder object) binding false

-- the endpoint is the object's
abbrev pub holds : Book → ObjId → Endpoint → Bool
holds book object at = is_held_by object (binding_of book at)

-- the connect waits for the endpoint
abbrev pub waits_for : Endpoint → Waiting → Bool
waits_for at wait = is_endpoint wait.at at

-- a bind of the endpoint fulfils the connect: it waits for it, is another socket's, and its kind fits
abbrev pub is_fulfilled : Endpoint → Binding → Waiting → Bool
is_fulfilled at binding wait =
    waits_for at wait && (not (is_object wait.waiter binding.holder) && fits binding.kind wait.kind)

-- the connects that a bind of the endpoint fulfils, the longest waiting first
abbrev pub fulfilled : Endpoint → Binding → Book → List Waiting
fulfilled at binding book = filter (is_fulfilled at binding) book.waiting

-- the sockets of these connects
abbrev pub waiters : List Waiting → List ObjId
waiters waits = map (λ w. w.waiter) waits

-- the connect is the object's
abbrev pub is_waiter : ObjId → Waiting → Bool
is_waiter object wait = is_object wait.waiter object

-- the connect is the object's, and waits for the endpoint
abbrev pub is_connect_of : ObjId → Endpoint → Waiting → Bool
is_connect_of object at wait = is_waiter object wait && waits_for at wait

-- a connect of the object waits for the endpoint
abbrev pub waits : Book → ObjId → Endpoint → Bool
waits book object at = list_any (is_connect_of object at) book.waiting

-- the list without the first that passes the test
abbrev pub without_first : {X : Type 0} → (X → Bool) → List X → List X
without_first test [] = []
without_first test (x ∷ xs) = if test x then xs else x ∷ without_first test xs

-- the book once the socket holds the endpoint
abbrev pub with_name : Endpoint → Binding → Book → Book
with_name at binding book = record book {
  names = by_transport at (finite.insert book.names (key_of at) binding) book.names;
  addresses = by_transport at book.addresses (finite.insert book.addresses (key_of at) binding);
}

-- the book once nobody holds the endpoint
abbrev pub without_name : Endpoint → Book → Book
without_name at book = record book {
  names = by_transport at (finite.remove book.names (key_of at)) book.names;
  addresses = by_transport at book.addresses (finite.remove book.addresses (key_of at));
}

-- the book, with these connects waiting
abbrev pub with_waiting : List Waiting → Book → Book
with_waiting waits book = record book { waiting = waits }

-- what is held, without that of the object
abbrev pub names_without : ObjId → Names → Names
names_without object held = finite.retain_keys held (λ name. not (is_held_by object (finite.get held name)))

-- the book without the names and the waiting connects of the object
abbrev pub without_object : ObjId → Book → Book
without_object object book = record {
  names = names_without object book.names;
  addresses = names_without object book.addresses;
  waiting = filter (λ w. not (is_waiter object w)) book.waiting;
}
