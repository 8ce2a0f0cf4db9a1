-- The names that sockets hold and the connects that wait, as a state that is only replayed (zmq_bind(3), zmq_connect(3)): the book in the code says the same of each endpoint.
use Rattle.std.specs.Prelude.{◌≡◌, not, List, [], filter, Option, Some, None, if◌then◌else◌}
use Rattle.zq_base.specs.declared.endpoint.Endpoint.{Endpoint}
use Rattle.zq_base.specs.declared.ids.ObjId.{ObjId}
use Rattle.spec_control.specs.declared.book.Binding.{Binding}
use Rattle.spec_control.specs.declared.book.Waiting.{Waiting}
use Rattle.spec_control.specs.EndpointBook.{Book, binding_of, is_endpoint, is_object, is_waiter, is_fulfilled}

-- who holds each endpoint, and the connects that wait, the longest waiting first
pub record Register : Type 0 where
  pub held : Endpoint → Option Binding
  pub waiting : List Waiting

-- nothing is held and nothing waits
abbrev pub no_names : Register
no_names = record { held = λ _. None; waiting = [] }

-- the socket holds the endpoint
abbrev pub with_holder : Endpoint → Binding → Register → Register
with_holder at binding r = record r { held = λ other. if is_endpoint other at then Some binding else r.held other }

-- nobody holds the endpoint
abbrev pub without_holder : Endpoint → Register → Register
without_holder at r = record r { held = λ other. if is_endpoint other at then None else r.held other }

-- these connects wait
abbrev pub waiting_now : List Waiting → Register → Register
waiting_now waits r = record r { waiting = waits }

-- a binding, unless it is the object's
abbrev pub unless_held_by : ObjId → Option Binding → Option Binding
unless_held_by object None = None
unless_held_by object (Some binding) = if is_object binding.holder object then None else Some binding

-- without the endpoints and the waiting connects of the object
abbrev pub without_names_of : ObjId → Register → Register
without_names_of object r = record {
  held = λ at. unless_held_by object (r.held at);
  waiting = filter (λ w. not (is_waiter object w)) r.waiting;
}

-- the connects that a bind of the endpoint fulfils, the longest waiting first
abbrev pub fulfilled_by : Endpoint → Binding → Register → List Waiting
fulfilled_by at binding r = filter (is_fulfilled at binding) r.waiting

-- a book says the same
pub record IsRegister (book : Book) (r : Register) : Type 0 where
  pub same_holders : (at : Endpoint) → binding_of book at ≡ r.held at
  pub same_waiting : book.waiting ≡ r.waiting
