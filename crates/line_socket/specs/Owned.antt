-- A socket that is lent to its caller for a call, with its pipes and the control plane (own choice).
use Rattle.std.specs.Prelude.{◌≡◌, ◌-◌, ◌<◌, ℕ, true, false, Bool, List, Option, Some, None, length, drop, map}
use Rattle.std.specs.List.{list_any}
use Rattle.zq_base.specs.declared.ids.EndId.{EndId}
use Rattle.spec_control.specs.Names.{name_of}
use Rattle.spec_control.specs.Place.{Place}
use Rattle.spec_control.specs.Reply.{root_asked}
use Rattle.spec_control.specs.Control.{is_end, place_of, ends_of}
use Rattle.spec_control.specs.Moments.{Moment, items_in, left_after}
use Rattle.spec_control.specs.OwnAsks.{known_after}
use Rattle.desk.specs.declared.given.Given.{Given}
use Rattle.ctl_plane.specs.Past.{control_of}
use Rattle.desk.specs.Coming.{AreDistinct, BindsFit}
use Rattle.desk.specs.Desk.{HasWhatTheySay, slot_after}
use Rattle.msg_pipe.specs.Known.{Known}
use Rattle.any_sock.specs.declared.any_sock.AnySock.{AnySock}
use Rattle.end_table.specs.Places.{met_in}
use Rattle.sock_core.specs.declared.sock.SockCore.{SockCore}
use Rattle.sock_core.specs.Has.{holding_in}
use Rattle.sock_core.specs.Standing.{standing_joins}
use Rattle.sock_calls.specs.Calls.{owner_of, MayJoin}
use Rattle.spec_run.specs.OpenSocket.{OpenSock, is_active}
use Rattle.spec_run.specs.SocketCall.{leave_asked}
use Rattle.line_socket.specs.declared.sock.LentSock.{LentSock}
use Rattle.line_socket.specs.View.{ends_told, open_view}
use Rattle.line_socket.specs.Standing.{IsStanding, kind_told}
use Rattle.socket_laws.specs.Bounds.{TellIdentities}
use Rattle.socket_laws.specs.Open.{ends_at}
use Rattle.socket_laws.specs.Asked.{WereAsked}
use Rattle.plain_desk.specs.Lent.{Lent, IsOneOrder, coming_to, moments_of}

-- an end is among these, and can't be written where it is
pub record IsOut (es : List EndId) (e : EndId) (at : Place) : Type 0 where
  pub among : list_any (is_end e) es ≡ true
  pub inactive : is_active at ≡ false

-- the last of them, so many
abbrev pub newest : {X : Type 0} → ℕ → List X → List X
newest n xs = drop (length xs - n) xs

-- one of the ends of a socket that is there has met its delimiter
abbrev pub has_met_in : {W N O I : Type 0} → Option (SockCore AnySock W N O I) → EndId → Bool
has_met_in None e = false
has_met_in (Some s) e = met_in s.ends.places.items e

-- a socket with the pipes that it is lent and its caller's desk, and how many moments the caller had since
pub record LentParts (W N O I S T : Type 0) : Type 0 where
  pub pipes : S
  pub desk : Lent (Given N O I) N T
  pub socket : Option (SockCore AnySock W N O I)
  pub since : ℕ

module _ {W N O I S T : Type 0} where
  abbrev pub parts : S → Lent (Given N O I) N T → Option (SockCore AnySock W N O I) → List (Unit {0} × Unit {0}) → LentParts W N O I S T
  parts pipes desk socket since = record { pipes = pipes; desk = desk; socket = socket; since = length since }

  -- those of a lent socket, whose desk tells this order
  abbrev pub parts_of : {D : Type 0} → (order : D → Lent (Given N O I) N T) → LentSock S D O I W N T → LentParts W N O I S T
  parts_of order l = parts l.pipes (order l.desk) l.socket.core l.since.items

  -- its mailbox, as its caller's moments left it
  abbrev pub box_of : LentParts W N O I S T → ℕ
  box_of l = (slot_after (owner_of l.socket) (moments_of l.desk)).0

  -- the socket, as a run tells it
  abbrev pub view_of : LentParts W N O I S T → OpenSock
  view_of l = open_view (box_of l) l.socket

  -- what its caller did and saw since it was lent
  abbrev pub moments_since : LentParts W N O I S T → List (Moment N T)
  moments_since l = newest l.since (moments_of l.desk)

  module _ (K : Known S O I N) where
    -- a socket that its caller has open, as its caller's moments left it
    pub record IsOwned (by : ℕ) (moments : List (Moment N T)) (pipes : S) (s : SockCore AnySock W N O I) : Type 0 where
      pub stands : IsStanding K pipes s
      pub has : HasWhatTheySay by moments (holding_in (kind_told s.kind) s)
      pub held : (holding_in (kind_told s.kind) s).holds s.number.0 ≡ true
      pub is_open : (known_after s.number.0 (items_in moments)).open_socket ≡ true
      -- the ends that joined it, in order, each where it is
      pub ends_are : ends_told (standing_joins s.joins.items) s.ends.places.items ≡ ends_at s.number.0 (left_after s.number.0 moments)
      -- each end that it was to seal is one of them, and Active no more
      pub sealed_out : (e : EndId) → list_any (is_end e) (map (λ x. x.0) s.sealed.items) ≡ true → IsOut (ends_of s.number.0 (left_after s.number.0 moments)) e (place_of (left_after s.number.0 moments) e)

    -- it is so by the one order of all callers; and if its caller had a moment since it was lent, the last of them left the root as it is
    pub record IsLentTo (pipes : S) (d : Lent (Given N O I) N T) (since : ℕ) (s : SockCore AnySock W N O I) : Type 0 where
      pub owned : IsOwned d.caller (moments_of d) pipes s
      pub order : IsOneOrder d
      -- each identity that was told is one that a peer may say
      pub told : TellIdentities d.items
      pub asked : 0 < length (newest since (moments_of d)) → leave_asked (newest since (moments_of d)) ≡ root_asked (control_of d.past)
      -- each end that it was told to seal was asked
      pub were_asked : WereAsked (control_of d.past) (map (λ x. x.0) s.sealed.items)

    -- a socket is there, and is so
    abbrev pub IsThereFor : S → Lent (Given N O I) N T → ℕ → Option (SockCore AnySock W N O I) → Type 0
    IsThereFor pipes d since None = ⊥
    IsThereFor pipes d since (Some s) = IsLentTo pipes d since s

    abbrev pub Agrees : LentParts W N O I S T → Type 0
    Agrees l = IsThereFor l.pipes l.desk l.since l.socket

    -- each end that is on its way to it may join it, known by the names of its pipes
    pub record MayTakeEnds (l : LentParts W N O I S T) : Type 0 where
      pub distinct : AreDistinct K.exact (name_of l.desk.items)
      pub binds : BindsFit K.out_name K.in_name (name_of l.desk.items) (coming_to l.desk (box_of l)) (MayJoin K l.pipes l.socket)
