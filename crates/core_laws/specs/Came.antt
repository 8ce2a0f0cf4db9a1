-- Which ends came to the reaper in a call, and which it was told to seal, by its moments (own choice, after libzmq's `reaper_t`).
use Rattle.std.specs.Prelude.{◌≡◌, ◌⊎◌, ◌++◌, ℕ, true, false, List, [], ◌∷◌, All, flat_map, map}
use Rattle.zq_base.specs.declared.ids.ObjId.{ObjId}
use Rattle.msg_pipe.specs.Known.{Known}
use Rattle.spec_control.specs.declared.entry.Joining.{Joining}
use Rattle.spec_control.specs.Rows.{obj}
use Rattle.spec_control.specs.Control.{Control}
use Rattle.spec_control.specs.ControlRun.{is_between}
use Rattle.spec_control.specs.Moments.{Moment}
use Rattle.desk.specs.declared.given.Given.{Given}
use Rattle.desk.specs.Holding.{held_given}
use Rattle.desk.specs.Joins.{is_plugged_between, KeepsObjects}
use Rattle.desk.specs.TakingOver.{AllTwo}
use Rattle.desk.specs.Desk.{came_with, JoinsWith, TurnsWith}
use Rattle.socket_laws.specs.Said.{sealed_with}
use Rattle.closed_ends.specs.declared.sockets.ClosedSockets.{ClosedSockets}
use Rattle.closed_ends.specs.Coming.{HasCome, IsAsJoined, IsBrought}
use Rattle.closed_ends.specs.Finding.{came_given}
use Rattle.closed_ends.specs.Has.{holding_in}
use Rattle.closed_ends.specs.Sound.{AreSound}
use Rattle.core_laws.specs.ReaperCalls.{told_since}

-- no listener or session was taken in between the two
abbrev pub TakesNoneIn : Control → Control → Type 0
TakesNoneIn c now = (i : ℕ) → is_plugged_between (obj c.rows i) (obj now.rows i) ≡ false

module _ {S O I N : Type 0} (K : Known S O I N) where
  -- one end came: it joined
  pub record CameOne (j : Joining N) (from to : ClosedSockets N O I) : Type 0 where
    pub end : Given N O I
    pub joined : IsAsJoined K.in_name j end
    pub came : to.came.items ≡ from.came.items ++ came_given K.in_name end ∷ []

  -- those of one closed socket came, two by two different, each as that socket may bring it
  pub record CameAll (brings : ℕ → Given N O I → Type 0) (o : ℕ) (from to : ClosedSockets N O I) : Type 0 where
    pub ends : List (Given N O I)
    pub two : AllTwo K.exact (map (held_given K.out_name K.in_name) ends)
    pub brought : All (brings o) ends
    pub came : to.came.items ≡ from.came.items ++ map (came_given K.in_name) ends

  -- these closed sockets came, behind those that the reaper had
  abbrev pub SocketsCame : (from to : ClosedSockets N O I) → List ObjId → Type 0
  SocketsCame from to os = map (λ s. s.number) to.sockets.items ≡ map (λ s. s.number) from.sockets.items ++ os

  -- over moments in which no end joins and no closed socket comes, none came; where one joins, it alone; where one closed socket comes, its ends
  pub record CameByMoments {T : Type 0} (more : List (Moment N T)) (brings : ℕ → Given N O I → Type 0) (from to : ClosedSockets N O I) : Type 0 where
    pub none : flat_map (λ m. came_with m.item) more ≡ [] → SocketsCame from to [] → to.came.items ≡ from.came.items
    pub one : (j : Joining N) → flat_map (λ m. came_with m.item) more ≡ j ∷ [] → SocketsCame from to [] → CameOne j from to
    pub all : (o : ObjId) → flat_map (λ m. came_with m.item) more ≡ [] → SocketsCame from to (o ∷ []) → CameAll brings o.0 from to

  -- the ends that came of those that were on their way are so, and the reaper was told to seal just what its moments tell
  abbrev pub ReaperEndsCame : (T : Type 0) → Type 0
  ReaperEndsCame T = (old new more : List (Moment N T)) (found : Control) (given : List (Given N O I)) (from to : ClosedSockets N O I) → new ≡ old ++ more →
      (JoinsWith old new (holding_in K.out_name K.in_name from) (holding_in K.out_name K.in_name to) → HasCome K (IsBrought found given) from to → CameByMoments more (IsBrought found given) from to)
      × (TurnsWith old new (holding_in K.out_name K.in_name from) (holding_in K.out_name K.in_name to) → told_since from to ≡ sealed_with more)

  -- where no object's Reap was processed and no listener or session was taken in, no closed socket came
  abbrev pub NoSocketComes : Type 0
  NoSocketComes = (c now found : Control) (given : List (Given N O I)) (pipes : S) (from to : ClosedSockets N O I) → HasCome K (IsBrought found given) from to → AreSound K pipes to.sockets.items →
      KeepsObjects c now (holding_in K.out_name K.in_name from) (holding_in K.out_name K.in_name to) → TakesNoneIn c now → ((i : ℕ) → is_between (obj c.rows i) ≡ true → is_between (obj now.rows i) ≡ true) → SocketsCame from to []

  -- and one at the most where the Reap of one alone was
  abbrev pub OneSocketComes : Type 0
  OneSocketComes = (c now found : Control) (given : List (Given N O I)) (pipes : S) (from to : ClosedSockets N O I) → HasCome K (IsBrought found given) from to → AreSound K pipes to.sockets.items →
      KeepsObjects c now (holding_in K.out_name K.in_name from) (holding_in K.out_name K.in_name to) → TakesNoneIn c now → (r : ℕ) → ((i : ℕ) → is_between (obj c.rows i) ≡ true → is_between (obj now.rows i) ≡ false → i ≡ r) →
      SocketsCame from to [] ⊎ ((o : ObjId) × (o.0 ≡ r) × SocketsCame from to (o ∷ []))
