-- What acts of a lent socket leave of all pipes: their names, the steps past, the counts of settled ones, and what others have of them (own choice, after libzmq's `pipe_t`).
use Rattle.std.specs.Prelude.{◌≡◌, ◌==◌, ◌++◌, ℕ, true, false, All, List, Some, None}
use Rattle.zq_base.specs.Ends.{other_end}
use Rattle.zq_base.specs.declared.ids.EndId.{EndId}
use Rattle.spec_pattern.specs.PipeStep.{PipeStep}
use Rattle.spec_control.specs.declared.end.EndState.TheVariants.{Gone}
use Rattle.spec_control.specs.Place.{At}
use Rattle.spec_control.specs.Control.{Control, place_of}
use Rattle.spec_control.specs.Names.{name_of}
use Rattle.msg_pipe.specs.Known.{Known, IsElse, IsThere}
use Rattle.ctl_plane.specs.Past.{control_of}
use Rattle.spec_run.specs.Act.{Act, moments_in, steps_in}
use Rattle.spec_run.specs.OwnedRun.{AreCountedBy}
use Rattle.sock_calls.specs.Calls.{owner_of}
use Rattle.socket_laws.specs.Open.{IsOfItem}
use Rattle.plain_desk.specs.Lent.{IsOneOrder, Lent}
use Rattle.socket_laws.specs.Sides.{AreAtEnds}
use Rattle.socket_laws.specs.Standing.{PastStands}
use Rattle.socket_laws.specs.Places.{is_end_of}
use Rattle.socket_laws.specs.Names.{NamesStand}
use Rattle.socket_laws.specs.Calling.{IsExact}
use Rattle.line_socket.specs.Owned.{LentParts}

module _ {S O I N : Type 0} (K : Known S O I N) {G T : Type 0} where
  -- each pipe of this state that has a name has one of its own, which is given still
  abbrev pub NamesStandIn : Lent G N T → S → Type 0
  NamesStandIn d pipes = NamesStand K (control_of d.past) (name_of d.items) pipes

  -- the steps past made its pipes what they are
  abbrev pub PastStandsIn : Lent G N T → S → List PipeStep → Type 0
  PastStandsIn d pipes past = PastStands K (control_of d.past) (name_of d.items) pipes past

  module _ (o : ℕ) (d : Lent G N T) (n : N) where
    -- the pipe of this name is none that an end of the object writes
    abbrev pub IsNoneItWrites : Type 0
    IsNoneItWrites = (e : EndId) (w : N) → is_end_of o (control_of d.past) e ≡ true → name_of d.items e ≡ Some w → IsElse K n w

    -- or reads
    abbrev pub IsNoneItReads : Type 0
    IsNoneItReads = (e : EndId) (r : N) → is_end_of o (control_of d.past) e ≡ true → name_of d.items (other_end e) ≡ Some r → IsElse K n r

    -- or one read that is gone by this control state
    abbrev pub IsNoneItSettled : Control → Type 0
    IsNoneItSettled now = (e : EndId) (r : N) → is_end_of o (control_of d.past) e ≡ true → place_of now e ≡ At Gone → name_of d.items (other_end e) ≡ Some r → IsElse K n r

  -- Calls of an object that has or had these ends left all pipes there. Of a writing half they changed nothing but of the pipes that its ends write, or ones read that are gone by then, and of a reading half nothing but of the pipes that its ends read.
  pub record LeavesPipes (o : ℕ) (d : Lent G N T) (now : Control) (before behind : S) : Type 0 where
    pub there : (n : N) → IsThere K before n → IsThere K behind n
    pub outs : (h : O) → IsThere K before (K.out_name h) → IsNoneItWrites o d (K.out_name h) → IsNoneItSettled o d (K.out_name h) now → K.writing behind h ≡ K.writing before h
    pub ins : (h : I) → IsThere K before (K.in_name h) → IsNoneItReads o d (K.in_name h) → K.reading behind h ≡ K.reading before h

  -- So did calls of an open socket. No pipe is sealed that got its name in them, unless an end of the socket writes it, or the end that read it is gone.
  pub record TellsRest (o : ℕ) (old new : Lent G N T) (before behind : S) : Type 0 where
    pub pipes : LeavesPipes o new (control_of new.past) before behind
    pub unsealed : IsExact K → NamesStandIn old before → (e : EndId) → name_of old.items e ≡ None → is_end_of o (control_of new.past) e ≡ false →
        (place_of (control_of new.past) (other_end e) ≡ At Gone → ⊥) → (h : O) → name_of new.items e ≡ Some (K.out_name h) → (K.writing behind h).sealed ≡ false

module _ {W N O I S T : Type 0} (K : Known S O I N) where
  -- What acts of a lent socket leave standing, from one state to another. The one order goes on, and its new items are of the socket; all pipes are there still, and keep names of their own; the acts' steps are at the socket's ends.
  pub record LeavesStanding (old : LentParts W N O I S T) (acts : List (Act N T)) (new : LentParts W N O I S T) : Type 0 where
    pub order : IsOneOrder old.desk → IsOneOrder new.desk
    pub owner : owner_of new.socket ≡ owner_of old.socket
    pub each : All (λ m. IsOfItem (owner_of old.socket) m.found m.item) (moments_in acts)
    pub there : (n : N) → IsThere K old.pipes n → IsThere K new.pipes n
    pub named : K.exact ≡ true → NamesStandIn K old.desk old.pipes → NamesStandIn K new.desk new.pipes
    pub at_ends : IsOneOrder old.desk → AreAtEnds (control_of new.desk.past) (λ i. i == owner_of old.socket) acts
    -- the steps past stand with theirs, settled pipes have their counts, and others have what they had
    pub past : IsExact K → (past : List PipeStep) → PastStandsIn K old.desk old.pipes past → PastStandsIn K new.desk new.pipes (past ++ steps_in acts)
    pub counted : IsExact K → (past : List PipeStep) → PastStandsIn K old.desk old.pipes past →
        AreCountedBy past (control_of old.desk.past).settlements → AreCountedBy (past ++ steps_in acts) (control_of new.desk.past).settlements
    pub rest : IsOneOrder old.desk → TellsRest K (owner_of old.socket) old.desk new.desk old.pipes new.pipes
