-- A bind over inproc, before its pairs are made (own choice, after zmq_inproc(7)).
use Rattle.std.specs.Prelude.{◌≡◌, List, ℕ, None, filter, not}
use Rattle.zq_base.specs.declared.endpoint.Endpoint.{Endpoint}
use Rattle.spec_control.specs.EndpointBook.{is_fulfilled}
use Rattle.spec_control.specs.Hold.{Bound}
use Rattle.spec_control.specs.Register.{waiting_now}
use Rattle.spec_control.specs.Control.{Control}
use Rattle.ctl_state.specs.declared.belongings.Belongings.{Belongings}
use Rattle.ctl_state.specs.Lists.{belongings_at}
use Rattle.spec_control.specs.After.{binding_by, named, with_hold}

-- the socket holds the name, and the connects that it fulfils wait no longer
abbrev pub bound_now : ℕ → Endpoint → Control → Control
bound_now i at c =
    let held : Control = with_hold i (Bound at None) (named i at (binding_by i c) c) in
    record held { names = waiting_now (filter (λ w. not (is_fulfilled at (binding_by i c) w)) held.names.waiting) held.names }

-- the list of an object's ends is as before, and so is the room in it
abbrev pub SameEndLists : (old new : List Belongings) → Type 0
SameEndLists old new = (i : ℕ) → (belongings_at new i).ends ≡ (belongings_at old i).ends
