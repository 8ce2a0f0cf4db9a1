-- A pair is made, of which the first end was attached at its holder before (own choice, after libzmq's `pipe_t`).
use Rattle.std.specs.Prelude.{◌≡◌, ◌≤◌, ◌<◌, ◌+◌, ◌^◌, ℕ, true, false, Option, Some, length}
use Rattle.zq_base.specs.Ends.{other_end}
use Rattle.zq_base.specs.declared.ids.EndId.{EndId}
use Rattle.spec_control.specs.Stage.{has_ended, was_asked}
use Rattle.spec_control.specs.declared.end.EndState.TheVariants.{Active}
use Rattle.spec_control.specs.Place.{Unmade}
use Rattle.spec_control.specs.Rows.{obj}
use Rattle.spec_control.specs.Control.{Control, owner_of, place_of}
use Rattle.desk.specs.declared.halves.NamedHalves.{NamedHalves}
use Rattle.desk.specs.declared.load.Load.{Load}
use Rattle.desk.specs.Holding.{Holding, Stays, has_end}
use Rattle.ctl_moves.specs.Turning.{PutsLoaded}
use Rattle.ctl_state.specs.declared.state.State.{State}
use Rattle.ctl_state.specs.Boxes.{mail_at}
use Rattle.ctl_state.specs.Listed.{with_last}
use Rattle.ctl_state.specs.Lists.{belongings_at, with_ends}
use Rattle.ctl_state.specs.Stands.{Stands}
use Rattle.ctl_moves.specs.Greeting.{MovesOne}

module _ {N O I : Type 0} (out_name : O → N) (in_name : I → N) where
  -- each half is of the pipe that is named
  pub record AreNamedHalves (x : NamedHalves N O I) : Type 0 where
    pub out : out_name x.halves.out ≡ x.written
    pub input : in_name x.halves.input ≡ x.read

  -- the pair's number was drawn, neither owner was asked, the holder has the first end, and there is room for what the making puts
  pub record MayJoin (s : State (Load N O I)) (h : Holding N) (o : ℕ) (first : EndId) (other : NamedHalves N O I) : Type 0 where
    pub control : Control
    pub stands : Stands s control
    pub mine : place_of control first ≡ Unmade
    pub theirs : place_of control (other_end first) ≡ Unmade
    pub unasked : was_asked (obj control.rows (owner_of control first)).stage ≡ false
    pub other_lives : has_ended (obj control.rows (owner_of control (other_end first))).stage ≡ false
    pub unstruck : control.struck first ≡ false
    pub few_objects : length control.rows.objects < 2 ^ 62
    pub few_pairs : length control.rows.pairs < 2 ^ 30
    pub place : 0 < (belongings_at s.objects.lists (owner_of control first)).ends.spare
    pub room : 2 ≤ (mail_at s.boxes (obj control.rows (owner_of control (other_end first))).slot).spare
    pub has : has_end first (h.ends o) ≡ true
    pub writes : h.writes first ≡ true
    pub state : h.state first ≡ Active
    pub halves : AreNamedHalves other

  -- the state was changed so with the holder, which has the same ends; the other end's bind was put with its halves, and a PipeTerm at the most
  pub record JoinsPair (c now : Control) (o : ℕ) (first : EndId) (other : NamedHalves N O I) (s t : State (Load N O I)) (h k : Holding N) : Type 0 where
    pub stands : Stands t now
    pub stays : Stays o h k
    pub puts : (names : EndId → Option N) → names (other_end first) ≡ Some other.written → names first ≡ Some other.read → PutsLoaded out_name in_name names s.boxes t.boxes
    pub spare : (m : ℕ) → (mail_at s.boxes m).spare ≤ (mail_at t.boxes m).spare + 2
    pub lists : t.objects.lists ≡ with_ends (with_last first) (owner_of c first) s.objects.lists
    pub moves : MovesOne first (place_of c first) (place_of now first) h k
