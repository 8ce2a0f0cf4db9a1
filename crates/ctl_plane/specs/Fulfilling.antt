-- A bind that fulfils the connects that wait for its name, with the holder of its socket's ends (zmq_bind(3), zmq_inproc(7)).
use Rattle.std.specs.Prelude.{◌≡◌, ◌≤◌, ◌<◌, ◌+◌, ◌^◌, ℕ, true, false, List, Option, Some, None, All, flat_map, map, length, slice_get, sum_by}
use Rattle.zq_base.specs.declared.endpoint.Endpoint.{Endpoint}
use Rattle.zq_base.specs.declared.ids.EndId.{EndId}
use Rattle.zq_base.specs.declared.ids.ObjId.{ObjId}
use Rattle.spec_control.specs.EndpointBook.{waiters as waiters_of}
use Rattle.spec_control.specs.Register.{fulfilled_by}
use Rattle.spec_control.specs.After.{binding_by}
use Rattle.spec_control.specs.Stage.{has_ended, was_asked}
use Rattle.spec_control.specs.Rows.{obj}
use Rattle.spec_control.specs.Place.{At, Unmade}
use Rattle.spec_control.specs.Control.{Control, end_of, next_pair, place_of}
use Rattle.desk.specs.declared.load.Load.{Load}
use Rattle.desk.specs.Holding.{HearsNone, Holding, JoinsBy, has_end}
use Rattle.desk.specs.Making.{capacity_between}
use Rattle.desk.specs.Turns.{TurnsBy, turned_over}
use Rattle.ctl_moves.specs.Turning.{PutsLoaded}
use Rattle.ctl_state.specs.declared.state.State.{State}
use Rattle.ctl_state.specs.Lists.{belongings_at}
use Rattle.ctl_state.specs.Stands.{Stands}
use Rattle.ctl_moves.specs.declared.notes.Notes.{Notes}
use Rattle.ctl_moves.specs.Joined.{Gets}
use Rattle.ctl_moves.specs.Room.{HavePlaces}
use Rattle.ctl_moves.specs.declared.batch.Drawn.{Drawn}
use Rattle.ctl_moves.specs.Batch.{AreNames, AreNumbered, drawn_all, first_of, held_of, joins_of, opened_of}
use Rattle.ctl_moves.specs.Drawing.{IsDrawn, MayDraw}
use Rattle.ctl_moves.specs.Pairing.{bind_for, fulfilled_all}
use Rattle.ctl_moves.specs.Naming.{bound_now}

module _ {N O I : Type 0} where
  -- nobody holds the name, neither its new holder nor any of these sockets was asked or has ended, and pairs may be drawn between them
  pub record MayFulfil (s : State (Load N O I)) (h : Holding N) (i : ObjId) (at : Endpoint) (ws : List ObjId) (wakers : ℕ) : Type 0 where
    pub draw : MayDraw s h i ws wakers
    pub free : draw.control.names.held at ≡ None
    pub unasked : was_asked (obj draw.control.rows i.0).stage ≡ false
    pub lives : All (λ w. has_ended (obj draw.control.rows w.0).stage ≡ false) ws
    pub few_objects : length draw.control.rows.objects < 2 ^ 62

  -- and these are all whose connects a bind of the name fulfils, the longest waiting first
  pub record MayFulfilAll (s : State (Load N O I)) (h : Holding N) (i : ObjId) (at : Endpoint) (wakers : ℕ) : Type 0 where
    pub waiters : List ObjId
    pub may : MayFulfil s h i at waiters wakers
    pub all : waiters ≡ waiters_of (fulfilled_by at (binding_by i.0 may.draw.control) may.draw.control.names)

  -- the socket's end of each of these pairs may be made with pipes that hold what the marks of the two sockets say
  pub record MayMakeFor (s : State (Load N O I)) (h : Holding N) (i : ObjId) (at : Endpoint) (wakers : ℕ) (may_make : EndId → ℕ → ℕ → Type 0) : Type 0 where
    pub all : MayFulfilAll s h i at wakers
    pub makes : (k : ℕ) (j : ObjId) → slice_get all.waiters k ≡ Some j → may_make (end_of (next_pair all.may.draw.control + k) false) (capacity_between all.may.draw.control i.0 j.0) (capacity_between all.may.draw.control j.0 i.0)

  -- the socket holds the name, and a pair was made with each of these sockets, in this order; each is noted with the names that its holder has
  pub record Fulfils (out_name : O → N) (in_name : I → N) (c : Control) (i : ObjId) (at : Endpoint) (ws : List ObjId) (notes : Notes N) (s t : State (Load N O I)) (h k : Holding N) : Type 0 where
    pub drawn : List (Drawn N O I)
    pub numbers : AreNumbered (next_pair c) drawn
    pub places : All (λ d. HavePlaces s d.o) drawn
    pub waiters : map (λ d. d.o.last) drawn ≡ ws
    pub each : All (IsDrawn out_name in_name c i (h.kind i.0)) drawn
    pub unstruck : (e : EndId) → next_pair c ≤ e.pair.0 → c.struck e ≡ false
    pub joined : notes.joined.items ≡ map (joins_of c) drawn
    pub came : JoinsBy notes.joined.items h k
    pub heard : HearsNone h k
    pub opened : notes.opened.items ≡ flat_map opened_of drawn
    pub stands : Stands t (fulfilled_all at drawn (bound_now i.0 at c))
    pub gets : Gets (next_pair c) i.0 (map held_of drawn) h k
    pub states : (e : EndId) → has_end e (map held_of drawn) ≡ true → place_of (fulfilled_all at drawn (bound_now i.0 at c)) e ≡ At (k.state e)
    pub turned : TurnsBy (turned_over (λ e. Unmade) (place_of (fulfilled_all at drawn (bound_now i.0 at c))) (map first_of drawn)) h k
    pub puts : (names : EndId → Option N) → AreNames names drawn → PutsLoaded out_name in_name names (drawn_all drawn s).boxes t.boxes
    -- an end more for each of these pairs fits into the other socket's list
    pub fits : (j : ℕ) → (belongings_at s.objects.lists j).ends.spare + sum_by (bind_for j) drawn ≤ (belongings_at t.objects.lists j).ends.spare
