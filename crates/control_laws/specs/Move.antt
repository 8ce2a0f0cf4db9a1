-- The moves that a control event is made of: each changes one row or makes one, and puts one command at the most (own choice, after libzmq's `command_t`).
use Rattle.std.specs.Prelude.{◌≡◌, ◌<◌, ℕ, Bool, true, false, not, cond, List, [], ◌∷◌, ◌++◌, Option, Some, None, length, filter}
use Rattle.zq_base.specs.Ends.{other_end}
use Rattle.zq_base.specs.declared.ids.EndId.{EndId}
use Rattle.spec_control.specs.declared.end.EndEvent.TheVariants.{Asked, TermCame, DelimiterSeen, AckCame}
use Rattle.spec_control.specs.declared.end.EndCommands.{EndCommands}
use Rattle.spec_control.specs.declared.end.EndCommands.TheVariants.{Nothing, TermAndSeal, Ack, Settle, SettleAndAck}
use Rattle.spec_control.specs.declared.letter.Letter.{Letter}
use Rattle.spec_control.specs.declared.letter.Word.{Word}
use Rattle.spec_control.specs.declared.letter.Word.TheVariants.{TermReq, Term, TermAck, PipeTerm, PipeTermAck, Stop, Reap}
use Rattle.spec_control.specs.declared.stage.Stage.TheVariants.{Alive, Finished}
use Rattle.spec_control.specs.Stage.{has_ended}
use Rattle.spec_control.specs.Place.{Place, Unmade}
use Rattle.spec_control.specs.PairPhase.{PairEvent, Opens, BindCame, Happens, may}
use Rattle.spec_control.specs.Row.{Row, LinkEvent, OwnComes, PlugComes, IsTold, TermComes, AsksOver, RequestComes, ReapComes, AckComes, RootAsked, StopPut, StopComes, AsksForLink, AsksForLinger, link_may, link_after, is_socket, link_fits}
use Rattle.spec_control.specs.Rows.{Rows, obj, pair, with_object, with_pair, end_owner, end_place, end_half, pair_after, may_end}
use Rattle.spec_control.specs.Control.{Control, with_value, id, commands_in}
use Rattle.spec_control.specs.After.{owner_or_root}

-- one change of one row
pub data Move : Type 0 where
  -- this happens between an object and its owner
  LinkMoves : ℕ → LinkEvent → Move
  -- this happens to an end
  EndMoves : EndId → PairEvent → Move
  -- an object ends
  ObjectEnds : ℕ → Move
  -- an object is made, and a pair's number is drawn
  ObjectMade : Row → Move
  PairDrawn : (a_owner b_owner : ℕ) → Move
  -- an object gets a command about what was just made
  LetterPut : ℕ → Word → Move

-- the rows after a move
abbrev pub move_rows : Move → Rows → Rows
move_rows (LinkMoves i event) s = with_object i (link_after event (obj s i)) s
move_rows (EndMoves e event) s = with_pair e.pair.0 (pair_after event e.a (pair s e.pair.0)) s
move_rows (ObjectEnds i) s = with_object i (record (obj s i) { stage = Finished }) s
move_rows (ObjectMade row) s = record s { objects = s.objects ++ row ∷ [] }
move_rows (PairDrawn a b) s = record s { pairs = s.pairs ++ record { a_owner = a; b_owner = b; a = Unmade; b = Unmade } ∷ [] }
move_rows (LetterPut to word) s = s

-- one command for this object
abbrev pub one_letter : ℕ → Word → List Letter
one_letter to word = record { to = id to; word = word } ∷ []

-- what an event between an object and its owner puts
abbrev pub link_letters : LinkEvent → ℕ → Row → List Letter
link_letters OwnComes i o = []
link_letters PlugComes i o = []
link_letters IsTold i o = one_letter i Term
link_letters TermComes i o = []
link_letters AsksOver i o = one_letter (owner_or_root o.owner) (cond (is_socket o.kind) (Reap (id i)) (TermReq (id i)))
link_letters RequestComes i o = []
link_letters ReapComes i o = one_letter i Term
link_letters AckComes i o = []
link_letters RootAsked i o = []
link_letters StopPut i o = one_letter i Stop
link_letters StopComes i o = []
link_letters AsksForLink i o = []
link_letters AsksForLinger i o = []

-- what the commands of an end's event put for the other end's owner
abbrev pub end_letters : EndCommands → (owner : ℕ) → EndId → List Letter
end_letters Nothing owner e = []
end_letters TermAndSeal owner e = one_letter owner (PipeTerm (other_end e))
end_letters Ack owner e = one_letter owner (PipeTermAck (other_end e))
end_letters Settle owner e = []
end_letters SettleAndAck owner e = one_letter owner (PipeTermAck (other_end e))

-- and what an event of an end puts, by where the end is
abbrev pub pair_letters : PairEvent → Place → (owner : ℕ) → EndId → List Letter
pair_letters Opens place owner e = []
pair_letters BindCame place owner e = []
pair_letters (Happens event) place owner e = end_letters (commands_in event place) owner e

-- what an object that ended tells its owner
abbrev pub ack_letters : Option ℕ → ℕ → List Letter
ack_letters None i = []
ack_letters (Some owner) i = one_letter owner (TermAck (id i))

-- the commands that a move puts, one at the most
abbrev pub move_letters : Move → Rows → List Letter
move_letters (LinkMoves i event) s = link_letters event i (obj s i)
move_letters (EndMoves e event) s =
    pair_letters event (end_place (pair s e.pair.0) e.a) (end_owner (pair (with_pair e.pair.0 (pair_after event e.a (pair s e.pair.0)) s) e.pair.0) (not e.a)) e
move_letters (ObjectEnds i) s = ack_letters (obj s i).owner i
move_letters (ObjectMade row) s = []
move_letters (PairDrawn a b) s = []
move_letters (LetterPut to word) s = one_letter to word

-- the mailboxes with these commands put, each into that of the object that it is for
abbrev pub put_all : Rows → List Letter → (ℕ → List Letter) → ℕ → List Letter
put_all s [] boxes = boxes
put_all s (l ∷ ls) boxes = put_all s ls (with_value (obj s l.to.0).slot (boxes (obj s l.to.0).slot ++ l ∷ []) boxes)

-- the mailboxes after a move
abbrev pub move_boxes : Move → Rows → (ℕ → List Letter) → ℕ → List Letter
move_boxes m s boxes = put_all (move_rows m s) (move_letters m s) boxes

-- an object that is made lives, and its owner has not ended
pub record IsMadeUnder (s : Rows) (row : Row) : Type 0 where
  pub under : ℕ
  pub owner : row.owner ≡ Some under
  pub there : under < length s.objects
  pub unended : has_ended (obj s under).stage ≡ false
  pub alive : row.stage ≡ Alive
  pub row_fits : link_fits row ≡ true

-- the event may come to the end, and a pair is made while its ends' owners live
pub record MayEndMove (s : Rows) (e : EndId) (event : PairEvent) : Type 0 where
  pub comes : may event (end_half (pair s e.pair.0) e.a) (end_half (pair s e.pair.0) (not e.a)) ≡ true
  pub unended : event ≡ Opens → (x : Bool) → has_ended (obj s (end_owner (pair s e.pair.0) x)).stage ≡ false

-- the move is possible: what it is about is there, and commands come in their order
abbrev pub MayMove : Move → Rows → Type 0
MayMove (LinkMoves i event) s = link_may event (obj s i) ≡ true
MayMove (EndMoves e event) s = MayEndMove s e event
MayMove (ObjectEnds i) s = may_end s i ≡ true
MayMove (ObjectMade row) s = IsMadeUnder s row
MayMove (PairDrawn a b) s = (a < length s.objects) × (b < length s.objects)
MayMove (LetterPut to word) s = to < length s.objects

-- these moves lead from these rows and mailboxes to those of this state
abbrev pub Leads : List Move → Rows → (ℕ → List Letter) → Control → Type 0
Leads [] s boxes d = (d.rows ≡ s) × (d.boxes ≡ boxes)
Leads (m ∷ ms) s boxes d = MayMove m s × Leads ms (move_rows m s) (move_boxes m s boxes) d

-- the event has a request or a command of its own; that an object is told and that a Stop is put follow from another
abbrev pub is_named_link : LinkEvent → Bool
is_named_link OwnComes = true
is_named_link PlugComes = true
is_named_link IsTold = false
is_named_link TermComes = true
is_named_link AsksOver = true
is_named_link RequestComes = true
is_named_link ReapComes = true
is_named_link AckComes = true
is_named_link RootAsked = true
is_named_link StopPut = false
is_named_link StopComes = true
is_named_link AsksForLink = true
is_named_link AsksForLinger = true

-- and of an end: that it is asked follows from another
abbrev pub is_named_pair : PairEvent → Bool
is_named_pair Opens = true
is_named_pair BindCame = true
is_named_pair (Happens (Asked reason delay)) = false
is_named_pair (Happens TermCame) = true
is_named_pair (Happens DelimiterSeen) = true
is_named_pair (Happens AckCame) = true

-- the move has a request or a command of its own
abbrev pub is_named : Move → Bool
is_named (LinkMoves i event) = is_named_link event
is_named (EndMoves e event) = is_named_pair event
is_named (ObjectEnds i) = false
is_named (ObjectMade row) = true
is_named (PairDrawn a b) = true
is_named (LetterPut to word) = true

-- moves lead from one state to another, and those that do not follow from others are these
pub record MovesTo (own : List Move) (c d : Control) : Type 0 where
  pub moves : List Move
  pub own_are : filter is_named moves ≡ own
  pub leads : Leads moves c.rows c.boxes d
