-- A core on one thread, and what is always so of it (own choice).
use Rattle.std.specs.Prelude.{◌≡◌, ◌++◌, ℕ, Bool, true, false, List, [], ◌∷◌, Some, length}
use Rattle.zq_base.specs.Ends.{PipeId}
use Rattle.msg_pipe.specs.Known.{Known, IsThere}
use Rattle.spec_control.specs.declared.entry.Answered.{Answered}
use Rattle.spec_control.specs.declared.entry.Did.TheVariants.{Asked}
use Rattle.spec_control.specs.declared.entry.Item.{Item}
use Rattle.spec_control.specs.declared.entry.Item.TheVariants.{Event}
use Rattle.spec_control.specs.declared.request.Req.{Req}
use Rattle.spec_control.specs.declared.request.Reply.{Reply}
use Rattle.spec_control.specs.Control.{begun}
use Rattle.spec_control.specs.ControlRun.{after_all}
use Rattle.spec_control.specs.Names.{name_of}
use Rattle.spec_control.specs.Moments.{Moment, left_by, moments_from}
use Rattle.spec_run.specs.Event.{IsRequest, acts_said}
use Rattle.zq_world.specs.Piece.{Piece, AddsActs}
use Rattle.zq_world.specs.declared.marks.PieceMark.{PieceMark}
use Rattle.zq_world.specs.Marks.{all_told, pieces_told}
use Rattle.socket_laws.specs.Standing.{CoreStands}
use Rattle.plain_desk.specs.Lent.{IsOneOrder, Lent}
use Rattle.socket_laws.specs.Bounds.{TellIdentities}
use Rattle.desk.specs.declared.given.Given.{Given}
use Rattle.desk.specs.TakingOver.{AreDistinct, AreGivenWith}
use Rattle.ctl_plane.specs.Past.{control_of}
use Rattle.desk.specs.Desk.{HasWhatTheySay}
use Rattle.zq_world.specs.CoreCalls.{IsOnlyReaper, OnlyReaps}
use Rattle.core_laws.specs.Counting.{CountsDrops}
use Rattle.core_laws.specs.Sealed.{AllAsked}
use Rattle.core_laws.specs.ReapedComing.{AwayUnsealed, HasOnlyTaken, HasTaken}
use Rattle.closed_ends.specs.declared.sockets.ClosedSockets.{ClosedSockets}
use Rattle.closed_ends.specs.Finding.{AreIndexed}
use Rattle.closed_ends.specs.Has.{all_ends, holding_in}
use Rattle.closed_ends.specs.Sound.{AreSound}
use Rattle.plain_core.specs.Leaving.{moments_at}

-- the desk, the pipes of all sockets, how what was done is told, and whether a call wanted memory that there was not
pub record Core (W G N S : Type 0) : Type 0 where
  pub desk : Lent G N S
  pub pipes : W
  pub marks : List PieceMark
  pub wanted : Bool

module _ {W G N S : Type 0} where
  abbrev pub core_of : Lent G N S → W → List PieceMark → Bool → Core W G N S
  core_of desk pipes marks wanted = record { desk = desk; pipes = pipes; marks = marks; wanted = wanted }

  -- what was done through it, call by call
  abbrev pub pieces_in : Core W G N S → List (Piece N S)
  pieces_in v = pieces_told v.marks (moments_from (begun 1) v.desk.items)

  -- nothing was done through it
  pub record IsNewCore (pipes : W) (v : Core W G N S) : Type 0 where
    pub pipes_are : v.pipes ≡ pipes
    pub no_items : v.desk.items ≡ []
    pub no_pieces : pieces_in v ≡ []
    pub not_wanted : v.wanted ≡ false

  -- it is lent to some caller, and else as it was
  pub record IsLentOn (old new : Core W G N S) : Type 0 where
    pub caller : ℕ
    pub same : new ≡ record old { desk = record old.desk { caller = caller } }

  -- it has one I/O worker, each item is told, and what was done stands; names tell pipes apart, each pipe has a name of its own, and what has a name was made; each identity that was told is one that a peer may say; nothing was sealed in a pipe whose writing half is on its way
  pub record IsCore {O I : Type 0} (K : Known W O I N) (v : Core W G N S) : Type 0 where
    pub one : v.desk.past.workers ≡ 1
    pub all : all_told v.marks ≡ length v.desk.items
    pub stands : CoreStands K v.desk.items v.pipes (pieces_in v)
    pub exact : K.exact ≡ true
    pub distinct : AreDistinct K.exact (name_of v.desk.items)
    pub there : (p : PipeId) (n : N) → name_of v.desk.items p ≡ Some n → IsThere K v.pipes n
    pub identities : TellIdentities v.desk.items
    pub unsealed : AwayUnsealed K v.desk v.pipes

  -- each message that was dropped is counted, unless memory was wanting
  abbrev pub HasDrops : Core W G N S → List ℕ → Type 0
  HasDrops v drops = v.wanted ≡ false → CountsDrops drops (pieces_in v)

module _ {N S : Type 0} where
  -- no other caller than this one, if any, took a letter in the place of closed sockets
  pub record HasReaper (pieces : List (Piece N S)) : Type 0 where
    pub caller : ℕ
    pub only : IsOnlyReaper caller pieces

module _ {W N O I S : Type 0} (K : Known W O I N) where
  -- the reaper, who is some caller, has of closed sockets what its moments say; each of their ends is with its halves, and so is each that is on its way to it; each of them whose pipe is told to be sealed was asked; it has each closed socket that it took over and that lives, and what it has are such
  pub record HasClosed (v : Core W (Given N O I) N S) (closed : ClosedSockets N O I) : Type 0 where
    pub some_reaper : HasReaper (pieces_in v)
    pub reaper : (k : ℕ) → IsOnlyReaper k (pieces_in v) → HasWhatTheySay k (moments_at k v.desk) (holding_in K.out_name K.in_name closed)
    pub sound : AreSound K v.pipes closed.sockets.items
    pub indexed : AreIndexed closed
    pub given : AreGivenWith K v.pipes v.desk.past.given
    pub asked : AllAsked (control_of v.desk.past) (all_ends closed.sockets.items)
    pub given_asked : AllAsked (control_of v.desk.past) v.desk.past.given
    pub taken : HasTaken (control_of v.desk.past) (holding_in K.out_name K.in_name closed)
    pub apart : (k : ℕ) → OnlyReaps k (pieces_in v) → HasOnlyTaken k v.desk

  -- all of it
  abbrev pub IsSound : Core W (Given N O I) N S → ClosedSockets N O I → (drops : List ℕ) → Type 0
  IsSound v closed drops = IsCore K v × (HasClosed v closed × HasDrops v drops)

module _ {N S : Type 0} where
  -- a caller makes a request of the context, which replies; it leads to where these items lead
  pub record Requests (caller : ℕ) (req : Req) (replied : Reply) (now : List (Item N S)) (before after : List (Piece N S)) : Type 0 where
    pub asked : Moment N S
    pub request : IsRequest req replied asked
    pub left : left_by asked ≡ after_all now (begun 1)
    pub adds : AddsActs caller (acts_said asked) [] before after

module _ {G N S : Type 0} where
  -- the caller's request is the last item of the one order, with one I/O worker
  pub record IsAsked (k : ℕ) (req : Req) (reply : Reply) (old new : Lent G N S) : Type 0 where
    pub answered : Answered N S
    pub items : new.items ≡ old.items ++ Event (record { by = k; did = Asked req reply answered }) ∷ []
    pub order : IsOneOrder new
    pub one : new.past.workers ≡ 1
