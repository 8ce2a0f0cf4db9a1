-- The drawing of a bind's pairs with the holder of its ends, and that it is undone (own choice, after zmq_inproc(7)).
use Rattle.std.specs.Prelude.{◌≡◌, ◌≤◌, ◌<◌, ◌+◌, ◌^◌, ◌++◌, ◌∷◌, [], ℕ, true, false, List, Option, Some, All, flat_map, map, length, slice_get}
use Rattle.zq_base.specs.declared.ids.EndId.{EndId}
use Rattle.zq_base.specs.declared.ids.ObjId.{ObjId}
use Rattle.zq_base.specs.declared.kind.Kind.{Kind}
use Rattle.spec_control.specs.declared.end.EndState.TheVariants.{Active}
use Rattle.spec_control.specs.declared.entry.Joining.{Joining}
use Rattle.spec_control.specs.Rows.{obj}
use Rattle.spec_control.specs.Control.{Control, end_of, next_pair}
use Rattle.desk.specs.declared.load.Load.{Load}
use Rattle.desk.specs.Holding.{HasNowhere, HearsNone, Holding, HoldsNow, JoinsBy, MayRefuse, has_end}
use Rattle.desk.specs.Lent.{HasAll}
use Rattle.desk.specs.Making.{capacity_between}
use Rattle.ctl_state.specs.declared.state.State.{State}
use Rattle.ctl_state.specs.Stands.{Stands}
use Rattle.ctl_moves.specs.declared.notes.Notes.{Notes}
use Rattle.ctl_moves.specs.Joined.{Gets}
use Rattle.ctl_moves.specs.Joining.{AreNamedHalves}
use Rattle.ctl_moves.specs.Papers.{HasMarks}
use Rattle.ctl_moves.specs.Room.{AreOwners, HavePlaces}
use Rattle.ctl_moves.specs.declared.batch.Drawn.{Drawn}
use Rattle.ctl_moves.specs.declared.batch.Batch.{Batch}
use Rattle.ctl_moves.specs.Batch.{AreNumbered, FitsMore, behind, drawn_all, held_of, joins_of, opened_of, row_of}

-- an object with a mailbox, a list of its ends, and the marks of a socket
pub record HasPlace {L : Type 0} (s : State L) (c : Control) (i : ObjId) : Type 0 where
  pub box : (obj c.rows i.0).slot < length s.boxes
  pub list : i.0 < length s.objects.lists
  pub marks : HasMarks (obj c.rows i.0)

module _ {N : Type 0} where
  -- so many ends more joined
  pub record HasJoinedMore (n : ℕ) (h k : Holding N) : Type 0 where
    pub more : List (Joining N)
    pub joined : JoinsBy more h k
    pub count : length more ≡ n

  -- an object's ends are as before, and the writing halves of the ends of all pairs below this number; the ends that joined are those that had
  pub record IsBack (n o : ℕ) (h k : Holding N) : Type 0 where
    pub now : HoldsNow o (h.ends o) h k
    pub writers : (e : EndId) → e.pair.0 < n → k.writes e ≡ h.writes e
    pub states : (i : ℕ) (e : EndId) → e.pair.0 < n → has_end e (k.ends i) ≡ true → k.state e ≡ h.state e
    pub turns : k.turns ≡ h.turns
    pub sealed : k.sealed ≡ h.sealed
    pub joined : k.joined ≡ h.joined
    pub heard : HearsNone h k

module _ {N O I : Type 0} where
  -- pairs may be drawn between a socket whose holder is lent and each of these, and there is a waker for each mailbox
  pub record MayDraw (s : State (Load N O I)) (h : Holding N) (i : ObjId) (ws : List ObjId) (wakers : ℕ) : Type 0 where
    pub control : Control
    pub names : EndId → Option N
    pub stands : Stands s control
    pub has : HasAll names control h
    pub lent : h.holds i.0 ≡ true
    pub mine : HasPlace s control i
    pub theirs : All (HasPlace s control) ws
    pub few_pairs : length control.rows.pairs + length ws < 2 ^ 30
    pub wakers_there : length s.boxes ≤ wakers

  -- the socket's end of each pair, whose numbers go on from the next one, may be made with pipes that hold what the marks of the two sockets say
  pub record MayMakeAll (s : State (Load N O I)) (h : Holding N) (i : ObjId) (ws : List ObjId) (wakers : ℕ) (may_make : EndId → ℕ → ℕ → Type 0) : Type 0 where
    pub may : MayDraw s h i ws wakers
    pub makes : (k : ℕ) (j : ObjId) → slice_get ws k ≡ Some j → may_make (end_of (next_pair may.control + k) false) (capacity_between may.control i.0 j.0) (capacity_between may.control j.0 i.0)

  -- from a state and a holder these pairs were drawn, and each first end is at the holder and Active, which was told of no change
  pub record AreTaken (i : ℕ) (ds : List (Drawn N O I)) (s t : State (Load N O I)) (h k : Holding N) : Type 0 where
    pub is : t ≡ drawn_all ds s
    pub places : All (λ d. HavePlaces s d.o) ds
    pub numbers : AreNumbered (length s.pairs) ds
    pub fresh : (e : EndId) → length s.pairs ≤ e.pair.0 → has_end e (h.ends i) ≡ false
    pub elsewhere : (e : EndId) → length s.pairs ≤ e.pair.0 → HasNowhere e h
    pub gets : Gets (length s.pairs) i (map held_of ds) h k
    pub active : (e : EndId) → has_end e (map held_of ds) ≡ true → k.state e ≡ Active
    pub turns : k.turns ≡ h.turns
    pub sealed : k.sealed ≡ h.sealed
    pub came : HasJoinedMore (length ds) h k
    pub heard : HearsNone h k

  module _ (out_name : O → N) (in_name : I → N) where
    -- a pair drawn between these sockets, of which the kind has answered
    pub record IsDrawn (c : Control) (i : ObjId) (kind : Option Kind) (d : Drawn N O I) : Type 0 where
      pub owners : AreOwners c i d.o.last d.o
      pub identity : d.identity ≡ (obj c.rows i.0).options.id
      pub refuses : MayRefuse kind d.answer
      pub halves : AreNamedHalves out_name in_name d.other

    -- a pair was drawn with each of these sockets, and noted as its first end joined
    pub record Draws (c : Control) (i : ObjId) (ws : List ObjId) (ds : List (Drawn N O I)) (notes : Notes N) (s t : State (Load N O I)) (h k : Holding N) : Type 0 where
      pub taken : AreTaken i.0 ds s t h k
      pub stands : Stands t (behind (map row_of ds) c)
      pub waiters : map (λ d. d.o.last) ds ≡ ws
      pub drawn : All (IsDrawn c i (h.kind i.0)) ds
      pub joined : notes.joined.items ≡ map (joins_of c) ds
      pub came : JoinsBy notes.joined.items h k
      pub opened : notes.opened.items ≡ flat_map opened_of ds

    -- some were, and there is one more to be drawn
    pub record MayDrawNext (s : State (Load N O I)) (h : Holding N) (i w : ObjId) (b : Batch N O I) (wakers : ℕ) : Type 0 where
      pub before : State (Load N O I)
      pub had : Holding N
      pub done : List ObjId
      pub may : MayDraw before had i (done ++ w ∷ []) wakers
      pub draws : Draws may.control i done b.drawn.items b.notes before s had h
      pub fits : FitsMore 1 b

  -- some pairs were taken, and are to be undone
  pub record WereTaken (s : State (Load N O I)) (h : Holding N) (i : ℕ) (ds : List (Drawn N O I)) : Type 0 where
    pub before : State (Load N O I)
    pub had : Holding N
    pub taken : AreTaken i ds before s had h

  -- the last of which is this one
  pub record WasTaken (s : State (Load N O I)) (h : Holding N) (i : ℕ) (d : Drawn N O I) : Type 0 where
    pub before : State (Load N O I)
    pub had : Holding N
    pub rest : List (Drawn N O I)
    pub taken : AreTaken i (rest ++ d ∷ []) before s had h
