-- What a socket has bound and connected, in order: a later unbind or disconnect strikes the first of its endpoint (zmq_unbind(3), zmq_disconnect(3)).
use Rattle.std.specs.Prelude.{ℕ, Bool, false, List, [], ◌∷◌, Option, None, if◌then◌else◌}
use Rattle.zq_base.specs.declared.endpoint.Endpoint.{Endpoint}
use Rattle.spec_control.specs.EndpointBook.{is_endpoint}

-- a bind or a connect that a socket holds
pub data Hold : Type 0 where
  -- a bind, over tcp with its listener
  Bound : (at : Endpoint) → (listener : Option ℕ) → Hold
  -- a connect that waits for its name
  Waits : (at : Endpoint) → Hold
  -- a connect with its pair, over tcp with its session
  Joined : (at : Endpoint) → (pair : ℕ) → (session : Option ℕ) → Hold

-- it is a bind to this endpoint
abbrev pub is_bind_to : Endpoint → Hold → Bool
is_bind_to to (Bound at listener) = is_endpoint at to
is_bind_to to (Waits at) = false
is_bind_to to (Joined at pair session) = false

-- it is a connect to this endpoint
abbrev pub is_connect_to : Endpoint → Hold → Bool
is_connect_to to (Bound at listener) = false
is_connect_to to (Waits at) = is_endpoint at to
is_connect_to to (Joined at pair session) = is_endpoint at to

-- it is a connect to this endpoint, and waits
abbrev pub waits_for : Endpoint → Hold → Bool
waits_for to (Bound at listener) = false
waits_for to (Waits at) = is_endpoint at to
waits_for to (Joined at pair session) = false

-- the longest waiting connect to this endpoint has got this pair
abbrev pub fulfil : Endpoint → ℕ → List Hold → List Hold
fulfil at pair [] = []
fulfil at pair (hold ∷ holds) =
    if waits_for at hold then Joined at pair None ∷ holds else hold ∷ fulfil at pair holds
