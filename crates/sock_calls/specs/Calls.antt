-- A socket between its calls, without the pipes of its ends (own choice).
use Rattle.std.specs.Prelude.{◌≡◌, ◌≢◌, ◌≤◌, ◌++◌, ◌⊎◌, ℕ, Bool, true, false, List, [], ◌∷◌, Option, Some, None, length, map}
use Rattle.zq_base.specs.declared.ids.EndId.{EndId}
use Rattle.zq_base.specs.declared.ids.Settled.{Settled}
use Rattle.zq_base.specs.declared.kind.Kind.{Kind}
use Rattle.spec_control.specs.declared.end.EndState.TheVariants.{Gone}
use Rattle.msg_pipe.specs.Known.{Known}
use Rattle.desk.specs.declared.halves.Halves.{Halves}
use Rattle.desk.specs.Holding.{Holding}
use Rattle.end_table.specs.Counting.{counts_of}
use Rattle.end_table.specs.Sound.{Fits}
use Rattle.end_table.specs.Giving.{AreGone}
use Rattle.end_table.specs.Others.{Leaves}
use Rattle.sock_core.specs.declared.sock.SockCore.{SockCore}
use Rattle.sock_core.specs.Has.{IsStopped, holding_in}
use Rattle.end_table.specs.declared.changes.PipeChange.{PipeChange}
use Rattle.end_table.specs.Changes.{sealings_in, AreMakings, WereHeld, IsMadeAt, DoesChanges}
use Rattle.end_table.specs.declared.table.Place.{Place}
use Rattle.end_table.specs.Places.{place_at}
use Rattle.spec_control.specs.declared.entry.Joining.{Joining}
use Rattle.sock_core.specs.Came.{IsOneOf, HasJoined, IsOfNew, AreChangedAt, HasCome}
use Rattle.sock_core.specs.Standing.{standing_joins}
use Rattle.sock_core.specs.Noted.{WereRead, AreSealed, TellsSeals}
use Rattle.sock_core.specs.Sound.{AreSound, KeepsRoom}
use Rattle.sock_core.specs.Peers.{ArePeers, AreFlagged, AreInUse}

-- no two of these are of one end
abbrev pub AreEndsApart : {N : Type 0} → List (Joining N) → Type 0
AreEndsApart [] = Unit {0}
AreEndsApart (j ∷ js) = ((d : Joining _) → IsOneOf js d → j.end ≢ d.end) × AreEndsApart js

-- nothing is had
abbrev pub nothing : {N : Type 0} → Holding N
nothing = record {
  holds = λ i. false;
  ends = λ i. [];
  writes = λ e. false;
  at_delimiter = λ e. false;
  kind = λ i. None;
  output_left = λ i. false;
  state = λ e. Gone;
  turns = [];
  sealed = [];
  joined = [];
  heard = [];
}

module _ {N O I S : Type 0} (K : Known S O I N) where
  -- The ends that stand at the places behind so many are those of these joins, which were not taken back; where pipes are made there may be others, which were, and whose pipes were not there before. Pipes were changed at places of those that joined alone.
  pub record HaveComeBy (made : Bool) (before : S) (many : ℕ) (js : List (Joining N)) (changes : List (PipeChange O I × S)) (ps : List (Place N I)) : Type 0 where
    pub held : (k : ℕ) (p : Place N I) → many ≤ k → place_at ps k ≡ Some p → p.held ≡ true → ∥ HasJoined js p ∥₁
    pub each : (k : ℕ) (p : Place N I) → many ≤ k → place_at ps k ≡ Some p → ∥ HasJoined js p ⊎ ((made ≡ true) × IsOfNew K before p) ∥₁
    pub changed : AreChangedAt (λ k p. ∥ HasJoined js p ∥₁) many ps changes
    -- no two of them are of one end, where no end joined twice
    pub once : made ≡ false → AreEndsApart js → (i k : ℕ) (p q : Place N I) → i ≢ k → many ≤ i → many ≤ k → place_at ps i ≡ Some p → place_at ps k ≡ Some q → p.end ≢ q.end

module _ {C W N O I : Type 0} where
  -- the number of the socket that is there
  abbrev pub owner_of : Option (SockCore C W N O I) → ℕ
  owner_of None = 0
  owner_of (Some s) = s.number.0

  -- what it has, whose kind's states are of these kinds
  abbrev pub holding_of : (kind : C → Kind) → Option (SockCore C W N O I) → Holding N
  holding_of kind None = nothing
  holding_of kind (Some s) = holding_in (kind s.kind) s

  -- want of memory left the kind of the socket that is there nothing to do
  abbrev pub RestsThere : (rests : C → Type 0) → Option (SockCore C W N O I) → Type 0
  RestsThere rests None = ⊥
  RestsThere rests (Some s) = rests s.kind

  -- the socket that is there was closed, and has no end
  abbrev pub HasNone : Option (SockCore C W N O I) → Type 0
  HasNone None = ⊥
  HasNone (Some s) = (s.is_open ≡ false) × AreGone s.ends.places.items

  module _ {S : Type 0} (K : Known S O I N) where
    -- its ends are of these pipes, those at the places of its kind's peers are its peers and no others, which are in use, it has room to give them away, and none where it was closed; it is stopped where it was told so, and an end of it reads on only where one began to
    pub record FitsCore (peers : C → List ℕ) (pipes : S) (s : SockCore C W N O I) : Type 0 where
      pub sound : AreSound K pipes s.ends.rows.items s.ends.places.items
      pub peers_are : s.is_open ≡ true → ArePeers s.ends.places.items (peers s.kind)
      pub room : KeepsRoom s.is_open (length s.ends.places.items) s.room
      pub gone : s.is_open ≡ false → AreGone s.ends.places.items
      pub stopped_is : IsStopped s.stopped s.heard.items
      pub flagged : AreFlagged s.ends.places.items (peers s.kind)
      pub in_use : AreInUse s.reads s.ends.places.items
      -- each pipe that was settled was read by an end that is held no more, and each end that is held and sealed was told to seal its pipe
      pub settled_are : WereRead s.ends.places.items s.ends.settled.items
      pub sealed_are : AreSealed s.ends.places.items (map (λ x. x.0) s.sealed.items)

    -- a socket is there, and fits
    abbrev pub FitsPipes : (peers : C → List ℕ) → S → Option (SockCore C W N O I) → Type 0
    FitsPipes peers pipes None = ⊥
    FitsPipes peers pipes (Some s) = FitsCore peers pipes s

    -- halves may join its ends
    abbrev pub MayJoin : S → Option (SockCore C W N O I) → Halves O I → Type 0
    MayJoin pipes None h = ⊥
    MayJoin pipes (Some s) h = Fits K pipes s.ends.places.items h

    -- what joining the half by which one of its ends reads with a writing half of its pipe tells
    abbrev pub counts_by : S → Option (SockCore C W N O I) → EndId → O → Settled
    counts_by pipes None e writer = record { sent = 0; got = 0; rest = 0 }
    counts_by pipes (Some s) e writer = counts_of K pipes s.ends e writer

    -- its calls left the pipes of others
    abbrev pub LeavesOthers : (old new : Option (SockCore C W N O I)) → (before now : S) → Type 0
    LeavesOthers None new before now = ⊥
    LeavesOthers (Some a) None before now = ⊥
    LeavesOthers (Some a) (Some b) before now = Leaves K before a.ends now b.ends

    -- what its calls did to the pipes, change by change, to ends that were held before, and the ends that they told it to seal; which ends joined; where pipes were made, each has halves of those that were made for it
    pub record DoesSo (made : Bool) (may_make : EndId → ℕ → ℕ → Type 0) (before : S) (a : SockCore C W N O I) (now : S) (b : SockCore C W N O I) : Type 0 where
      pub changes : List (PipeChange O I × S)
      pub does : DoesChanges K b.ends.places.items before changes now
      pub seals : TellsSeals (map (λ x. x.0) a.sealed.items) (sealings_in changes) (map (λ x. x.0) b.sealed.items)
      pub were_held : WereHeld a.ends.places.items changes
      pub came : (js : List (Joining N)) → standing_joins b.joins.items ≡ standing_joins a.joins.items ++ js → HaveComeBy K made before (length a.ends.places.items) js changes b.ends.places.items
      -- the same by the places at which the ends joined
      pub stands : ∥ ((xs : List (Joining N × ℕ)) × HasCome K made false before (length a.ends.places.items) (standing_joins a.joins.items) xs (standing_joins b.joins.items) changes b.ends.places.items) ∥₁
      pub tied : made ≡ true → (k : ℕ) (p : Place N I) → length a.ends.places.items ≤ k → place_at b.ends.places.items k ≡ Some p → p.held ≡ true → IsMadeAt K may_make changes p

    abbrev pub HaveDone : (made : Bool) → (may_make : EndId → ℕ → ℕ → Type 0) → (old new : Option (SockCore C W N O I)) → (before now : S) → Type 0
    HaveDone made may_make None new before now = ⊥
    HaveDone made may_make (Some a) None before now = ⊥
    HaveDone made may_make (Some a) (Some b) before now = DoesSo made may_make before a now b

    -- and they did no more to the pipes than to make some
    abbrev pub OnlyMake : (made : Bool) → (may_make : EndId → ℕ → ℕ → Type 0) → (old new : Option (SockCore C W N O I)) → (before now : S) → HaveDone made may_make old new before now → Type 0
    OnlyMake made may_make None new before now h = ⊥
    OnlyMake made may_make (Some a) None before now h = ⊥
    OnlyMake made may_make (Some a) (Some b) before now h = AreMakings h.changes
