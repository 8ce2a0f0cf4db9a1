-- The pair of an accepted session is made, whose number was drawn at its accepting (ZMTP 3.1, the handshake; own choice, after libzmq's `session_base_t`).
use Rattle.std.specs.Prelude.{◌≡◌, ◌<◌, ◌≤◌, ◌+◌, ◌^◌, ◌==◌, ◌∷◌, [], ℕ, true, false, cond, List, Option, Some, All, length}
use Rattle.mailbox.specs.Mail.{Mail}
use Rattle.zq_base.specs.Ends.{other_end}
use Rattle.zq_base.specs.declared.attached.Attached.{Attached}
use Rattle.zq_base.specs.declared.ids.EndId.{EndId}
use Rattle.zq_base.specs.declared.ids.ObjId.{ObjId}
use Rattle.spec_control.specs.declared.letter.Word.TheVariants.{PipeBind}
use Rattle.spec_control.specs.PairPhase.{Opens}
use Rattle.spec_control.specs.Place.{Unmade}
use Rattle.spec_control.specs.Stage.{has_ended}
use Rattle.spec_control.specs.Rows.{obj}
use Rattle.spec_control.specs.Control.{Control, attach, greet, is_end, open_pair, owner_of, place_of}
use Rattle.control_laws.specs.Room.{to_come}
use Rattle.desk.specs.declared.halves.NamedHalves.{NamedHalves}
use Rattle.desk.specs.declared.load.Load.{Load}
use Rattle.desk.specs.Holding.{HearsNone, Holding, JoinsBy, MayRefuse}
use Rattle.desk.specs.Lent.{HasAll}
use Rattle.desk.specs.Making.{inward}
use Rattle.desk.specs.Turns.{TurnsBy, turn_at}
use Rattle.ctl_state.specs.declared.command.Command.{Command}
use Rattle.ctl_state.specs.declared.state.State.{State}
use Rattle.ctl_state.specs.Boxes.{mail_at}
use Rattle.ctl_state.specs.Listed.{with_last}
use Rattle.ctl_state.specs.Lists.{belongings_at, with_ends}
use Rattle.ctl_state.specs.Stands.{Stands}
use Rattle.ctl_moves.specs.declared.joining_ends.Names.{Names}
use Rattle.ctl_moves.specs.declared.notes.Notes.{Notes}
use Rattle.ctl_moves.specs.declared.owners.Owners.{Owners}
use Rattle.ctl_moves.specs.Joining.{AreNamedHalves}
use Rattle.ctl_moves.specs.JoinNoting.{joins_named, pipes_named}
use Rattle.ctl_moves.specs.Papers.{HasMarks}
use Rattle.ctl_moves.specs.Room.{HavePlaces, with_both, with_places}
use Rattle.ctl_moves.specs.Turning.{PutsLoaded}

module _ {L : Type 0} where
  -- room for the bind of the last owner's end, and for both ends in their owners' lists
  abbrev pub with_shake_room : Owners → State L → State L
  with_shake_room o s = with_places o (with_both 0 1 o s)

  -- so it was kept
  pub record KeepsShakeRoom (s : State L) (o : Owners) : Type 0 where
    pub before : State L
    pub places : HavePlaces before o
    pub is : s ≡ with_shake_room o before

  -- the session's end may be made with pipes that hold what its socket's marks say
  pub record MayMakeIn (s : State L) (session : ObjId) (first : EndId) (may_make : EndId → ℕ → ℕ → Type 0) : Type 0 where
    pub control : Control
    pub stands : Stands s control
    pub marks : HasMarks (obj control.rows session.0)
    pub makes : may_make first (inward (obj control.rows session.0).options first).written (inward (obj control.rows session.0).options first).read

-- an end is none of a pair's
pub record IsApart (first x : EndId) : Type 0 where
  pub mine : is_end x first ≡ false
  pub theirs : is_end x (other_end first) ≡ false

-- the control state once a pair is made by a PipeBind with this identity
abbrev pub shaken_now : Control → EndId → List ℕ → Attached → Control
shaken_now c first identity answer = greet answer first (open_pair first (PipeBind (other_end first) identity) c)

module _ {N O I : Type 0} where
  -- the number of a pair was drawn of which no end was attached yet; both owners live, that of the first end is lent with all that it has, and there is room for what may still come
  pub record MayShakeAt (s : State (Load N O I)) (h : Holding N) (o : ℕ) (first : EndId) : Type 0 where
    pub control : Control
    pub names : EndId → Option N
    pub stands : Stands s control
    pub has : HasAll names control h
    pub lent : h.holds o ≡ true
    pub owner : owner_of control first ≡ o
    pub mine : place_of control first ≡ Unmade
    pub theirs : place_of control (other_end first) ≡ Unmade
    pub lives : has_ended (obj control.rows o).stage ≡ false
    pub other_lives : has_ended (obj control.rows (owner_of control (other_end first))).stage ≡ false
    pub apart : All (λ x. IsApart first x) control.attached
    pub few_objects : length control.rows.objects < 2 ^ 62
    pub few_pairs : length control.rows.pairs < 2 ^ 30
    pub box : (obj control.rows o).slot < length s.boxes
    pub other_box : (obj control.rows (owner_of control (other_end first))).slot < length s.boxes
    pub list : o < length s.objects.lists
    pub other_list : owner_of control (other_end first) < length s.objects.lists
    pub room : (m : ℕ) → to_come (attach Opens first control) m ≤ (mail_at s.boxes m).spare
    pub marks : HasMarks (obj control.rows o)

  -- the pair's number was drawn, its first end is attached at the holder, and there is room for the bind and for what may still come
  pub record MayOpenShaken (out_name : O → N) (in_name : I → N) (s : State (Load N O I)) (h : Holding N) (first : EndId) (other : NamedHalves N O I) : Type 0 where
    pub control : Control
    pub names : EndId → Option N
    pub stands : Stands s control
    pub has : HasAll names (attach Opens first control) h
    pub written : names (other_end first) ≡ Some other.written
    pub read : names first ≡ Some other.read
    pub lent : h.holds (owner_of control first) ≡ true
    pub mine : place_of control first ≡ Unmade
    pub theirs : place_of control (other_end first) ≡ Unmade
    pub lives : has_ended (obj control.rows (owner_of control first)).stage ≡ false
    pub other_lives : has_ended (obj control.rows (owner_of control (other_end first))).stage ≡ false
    pub few_objects : length control.rows.objects < 2 ^ 62
    pub few_pairs : length control.rows.pairs < 2 ^ 30
    pub place : 0 < (belongings_at s.objects.lists (owner_of control first)).ends.spare
    pub room : (m : ℕ) → to_come (attach Opens first control) m + cond ((obj control.rows (owner_of control (other_end first))).slot == m) 1 0 ≤ (mail_at s.boxes m).spare
    pub halves : AreNamedHalves out_name in_name other

  -- the pair is made, with whatever names its pipes have; of its ends the holder was told the change of the first one
  pub record OpensShaken (out_name : O → N) (in_name : I → N) (c : Control) (first : EndId) (identity : List ℕ) (answer : Attached) (other : NamedHalves N O I) (s t : State (Load N O I)) (h k : Holding N) : Type 0 where
    pub stands : Stands t (shaken_now c first identity answer)
    pub has : (names : EndId → Option N) → HasAll names (attach Opens first c) h → names (other_end first) ≡ Some other.written → names first ≡ Some other.read → HasAll names (shaken_now c first identity answer) k
    pub puts : (names : EndId → Option N) → HasAll names (attach Opens first c) h → names (other_end first) ≡ Some other.written → names first ≡ Some other.read → PutsLoaded out_name in_name names s.boxes t.boxes
    pub lists : t.objects.lists ≡ with_ends (with_last first) (owner_of c first) s.objects.lists
    pub turned : TurnsBy (turn_at first Unmade (place_of (shaken_now c first identity answer) first)) h k
    pub joined : k.joined ≡ h.joined
    pub heard : HearsNone h k
    pub holds : (i : ℕ) → k.holds i ≡ h.holds i
    pub kinds : (i : ℕ) → k.kind i ≡ h.kind i
    pub output : (i : ℕ) → k.output_left i ≡ h.output_left i

  -- these mailboxes have the same commands, with room for one more in this one
  pub record HasBindRoom (slot : ℕ) (old new : List (Mail (Command (Load N O I)))) : Type 0 where
    pub commands : (m : ℕ) → (mail_at new m).commands ≡ (mail_at old m).commands
    pub spare : (m : ℕ) → (mail_at new m).spare ≡ (mail_at old m).spare + cond (slot == m) 1 0
    pub many : length new ≡ length old

module _ {N O I : Type 0} (out_name : O → N) (in_name : I → N) where
  -- the pair is made, and noted with the names that the first end's holder has: these are given to its pipes
  pub record Shakes (c : Control) (o : ℕ) (first : EndId) (identity : List ℕ) (notes : Notes N) (s t : State (Load N O I)) (h k : Holding N) : Type 0 where
    pub answer : Attached
    pub told : Names N
    pub refuses : MayRefuse (h.kind o) answer
    pub joined : notes.joined.items ≡ joins_named first [] answer told ∷ []
    pub opened : notes.opened.items ≡ pipes_named first told
    pub stands : Stands t (shaken_now c first identity answer)
    pub has : (names : EndId → Option N) → HasAll names c h → names first ≡ Some told.written → names (other_end first) ≡ Some told.read → HasAll names (shaken_now c first identity answer) k
    pub roomy : List (Mail (Command (Load N O I)))
    pub room : HasBindRoom (obj c.rows (owner_of c (other_end first))).slot s.boxes roomy
    pub puts : (names : EndId → Option N) → HasAll names c h → names first ≡ Some told.written → names (other_end first) ≡ Some told.read → PutsLoaded out_name in_name names roomy t.boxes
    pub turned : TurnsBy (turn_at first Unmade (place_of (shaken_now c first identity answer) first)) h k
    pub came : JoinsBy notes.joined.items h k
    pub heard : HearsNone h k
    pub holds : (i : ℕ) → k.holds i ≡ h.holds i
    pub kinds : (i : ℕ) → k.kind i ≡ h.kind i
    pub output : (i : ℕ) → k.output_left i ≡ h.output_left i
    -- an end more fits into the last owner's list
    pub places : (i : ℕ) → (belongings_at s.objects.lists i).ends.spare + cond (owner_of c (other_end first) == i) 1 0 ≤ (belongings_at t.objects.lists i).ends.spare
