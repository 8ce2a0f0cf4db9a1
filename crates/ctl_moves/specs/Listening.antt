-- A socket binds over tcp: it holds the address with a listener on an I/O worker (zmq_bind(3), zmq_tcp(7)).
use Rattle.std.specs.Prelude.{◌≡◌, ◌<◌, ◌^◌, ◌++◌, ◌∷◌, [], Option, None, length}
use Rattle.zq_base.specs.declared.endpoint.Address.{Address}
use Rattle.zq_base.specs.declared.endpoint.Endpoint.{Endpoint}
use Rattle.zq_base.specs.declared.endpoint.Endpoint.TheVariants.{Tcp}
use Rattle.zq_base.specs.declared.ids.EndId.{EndId}
use Rattle.zq_base.specs.declared.ids.ObjId.{ObjId}
use Rattle.mailbox.specs.Mail.{no_mail}
use Rattle.spec_control.specs.Register.{with_holder}
use Rattle.spec_control.specs.Rows.{obj}
use Rattle.spec_control.specs.Control.{Control, makes, next_object}
use Rattle.spec_control.specs.After.{Answers, binding_by, binds}
use Rattle.desk.specs.declared.load.Load.{Load}
use Rattle.ctl_state.specs.declared.detail.Made.{Made}
use Rattle.ctl_state.specs.declared.state.State.{State}
use Rattle.ctl_state.specs.Lists.{no_belongings}
use Rattle.ctl_state.specs.Objects.{row_made, TakesChild}
use Rattle.ctl_state.specs.Parts.{on_boxes}
use Rattle.ctl_state.specs.Stands.{Stands, Updates, names_by}
use Rattle.ctl_moves.specs.declared.owners.Owners.{Owners}
use Rattle.ctl_moves.specs.Naming.{SameEndLists}
use Rattle.ctl_moves.specs.Room.{with_both}
use Rattle.ctl_moves.specs.Serving.{AreServed, HasWorkers}
use Rattle.ctl_moves.specs.Turning.{PutsLoaded}

module _ {L : Type 0} where
  -- a socket may get a listener or session more
  pub record TakesServed (s : State L) (c : Control) (socket : ObjId) : Type 0 where
    pub workers : HasWorkers c
    pub there : socket.0 < next_object c
    pub few : next_object c < 2 ^ 32
    pub box : (obj c.rows socket.0).slot < length s.boxes
    pub list : socket.0 < length s.objects.lists
    pub takes : TakesChild s.objects socket
    pub few_boxes : length s.boxes < 2 ^ 32

  -- and nobody holds the address
  pub record MayListen (s : State L) (o : Owners) (at : Address) : Type 0 where
    pub control : Control
    pub stands : Stands s control
    pub served : AreServed control o.first o
    pub takes : TakesServed s control o.first
    pub free : control.names.held (Tcp at) ≡ None

  -- the mailbox that is made with a listener or session
  abbrev pub with_box : State L → State L
  with_box s = on_boxes (λ b. b ++ no_mail ∷ []) s

  -- a listener was made, and its socket holds the name
  pub record MakesListener (socket : ObjId) (at : Endpoint) (made : Made) (s t : State L) : Type 0 where
    pub stands : Updates (λ c. makes (row_made socket made) (names_by (with_holder at (binding_by socket.0 c)) c)) s t
    pub boxes : t.boxes ≡ (with_box s).boxes
    pub lists : t.objects.lists ≡ s.objects.lists ++ no_belongings ∷ []

-- the socket holds the address with the listener that was made, whose Own and Plug were put
pub record Listens {N O I : Type 0} (c : Control) (o : Owners) (at : Address) (child : ObjId) (s t : State (Load N O I)) : Type 0 where
  pub number : child.0 ≡ next_object c
  pub stands : (h : Answers) → Stands t (binds o.first.0 (Tcp at) h c)
  pub puts : (out_name : O → N) (in_name : I → N) (names : EndId → Option N) → PutsLoaded out_name in_name names (with_box (with_both 3 2 o s)).boxes t.boxes
  pub ends : SameEndLists s.objects.lists t.objects.lists
