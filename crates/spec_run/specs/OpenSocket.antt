-- An open socket: its mailbox, its kind's state, and its ends with their places as the control plane had them at its last item (zmq_socket(3); own choice, after libzmq's `socket_base_t`).
use Rattle.std.specs.Prelude.{◌≡◌, ◌==◌, ◌&&◌, ◌||◌, ℕ, Bool, true, false, not, List, [], ◌∷◌, filter, if◌then◌else◌, map}
use Rattle.zq_base.specs.declared.kind.Kind.{Kind}
use Rattle.zq_base.specs.declared.options.Options.{Options}
use Rattle.zq_base.specs.declared.ids.EndId.{EndId}
use Rattle.spec_pattern.specs.Pattern.{Pattern, attach_answer, attach_as, detach}
use Rattle.spec_control.specs.declared.end.EndState.TheVariants.{Active, DelimiterGot, WaitDelimiter, AckSent, AskedOnce, AskedTwice, Gone}
use Rattle.spec_control.specs.declared.letter.Word.{Word}
use Rattle.spec_control.specs.declared.letter.Word.TheVariants.{Own, Plug, TermReq, Term, TermAck, PipeBind, PipeTerm, PipeTermAck, Stop, Reap}
use Rattle.spec_control.specs.declared.entry.Joining.{Joining}
use Rattle.spec_control.specs.declared.entry.Did.{Did}
use Rattle.spec_control.specs.declared.entry.Did.TheVariants.{Asked, Delivered, Delimited}
use Rattle.spec_control.specs.declared.entry.Item.{Item}
use Rattle.spec_control.specs.declared.entry.Item.TheVariants.{Event, Seen}
use Rattle.spec_control.specs.Place.{Place, Unmade, Away, At, looks}
use Rattle.spec_control.specs.Rows.{obj}
use Rattle.spec_control.specs.Control.{is_end, place_of, owner_of, ends_of}
use Rattle.spec_control.specs.Names.{joined_in}
use Rattle.spec_pattern.specs.NewSocket.{new_pattern}
use Rattle.spec_control.specs.Moments.{Moment, left_by}

-- an end of a socket, and where it is
pub record SockEnd : Type 0 where
  pub end : EndId
  pub place : Place

pub record OpenSock : Type 0 where
  pub object : ℕ
  pub slot : ℕ
  -- it processed its Stop
  pub stopped : Bool
  pub pattern : Pattern
  -- its ends in the order of their attachment
  pub ends : List SockEnd

-- where an end is, if it is one of these
abbrev pub place_in : List SockEnd → EndId → Place
place_in [] e = Unmade
place_in (x ∷ xs) e = if is_end e x.end then x.place else place_in xs e

-- an end can be written
abbrev pub is_active : Place → Bool
is_active Unmade = false
is_active Away = false
is_active (At Active) = true
is_active (At DelimiterGot) = false
is_active (At WaitDelimiter) = false
is_active (At AckSent) = false
is_active (At AskedOnce) = false
is_active (At AskedTwice) = false
is_active (At Gone) = false

-- an end reads on to its delimiter
abbrev pub awaits_delimiter : Place → Bool
awaits_delimiter Unmade = false
awaits_delimiter Away = false
awaits_delimiter (At Active) = false
awaits_delimiter (At DelimiterGot) = false
awaits_delimiter (At WaitDelimiter) = true
awaits_delimiter (At AckSent) = false
awaits_delimiter (At AskedOnce) = false
awaits_delimiter (At AskedTwice) = false
awaits_delimiter (At Gone) = false

-- an end was attached, and is neither written nor read any more
abbrev pub is_out : Place → Bool
is_out Unmade = false
is_out Away = false
is_out (At state) = not (looks (At state))

abbrev pub can_write : OpenSock → EndId → Bool
can_write s e = is_active (place_in s.ends e)

-- an end that the socket has is out of use
abbrev pub had_out : OpenSock → EndId → Bool
had_out s e = is_out (place_in s.ends e)

abbrev pub waiting_ends : OpenSock → List EndId
waiting_ends s = map (λ x. x.end) (filter (λ x. awaits_delimiter x.place) s.ends)

-- a command is a socket's Stop
abbrev pub is_stop_word : Word → Bool
is_stop_word (Own child) = false
is_stop_word (Plug end) = false
is_stop_word (TermReq child) = false
is_stop_word Term = false
is_stop_word (TermAck child) = false
is_stop_word (PipeBind e peer) = false
is_stop_word (PipeTerm e) = false
is_stop_word (PipeTermAck e) = false
is_stop_word Stop = true
is_stop_word (Reap socket) = false

-- a peer that leaves its turns and is free to come again under its name
abbrev pub detach_all : List EndId → Pattern → Pattern
detach_all [] p = p
detach_all (e ∷ es) p = detach_all es (detach e p)

module _ {N : Type 0} where
  -- the state of a kind once these ends joined, as it is told that it answered
  abbrev pub attach_all : List (Joining N) → Pattern → Pattern
  attach_all [] p = p
  attach_all (j ∷ js) p = attach_all js (attach_as j.answer j.end j.peer p)

  -- each end that joins is answered as the kind answers it
  abbrev pub AreAnswered : List (Joining N) → Pattern → Type 0
  AreAnswered [] p = Unit {0}
  AreAnswered (j ∷ js) p = (j.answer ≡ attach_answer j.peer p) × AreAnswered js (attach_as j.answer j.end j.peer p)

module _ {N S : Type 0} where
  abbrev pub stops_in : ℕ → Did N S → Bool
  stops_in o (Asked req reply h) = false
  stops_in o (Delivered slot letter h) = is_stop_word letter.word && letter.to.0 == o
  stops_in o (Delimited e h) = false

  -- an item stops a socket
  abbrev pub stops : ℕ → Item N S → Bool
  stops o (Event entry) = stops_in o entry.did
  stops o (Seen sight) = false

  -- the ends that join a socket in an item, in order
  abbrev pub joins_of : ℕ → Moment N S → List (Joining N)
  joins_of o m = filter (λ j. owner_of (left_by m) j.end == o) (joined_in m.item)

  -- the ends of a socket that an item puts out of use: those that it had in use before, and those that join in it
  abbrev pub leaves_in : Moment N S → OpenSock → List EndId
  leaves_in m s = filter (λ e. is_out (place_of (left_by m) e) && not (had_out s e)) (ends_of s.object (left_by m))

  -- the ends of a socket behind an item
  abbrev pub ends_left : ℕ → Moment N S → List SockEnd
  ends_left o m = map (λ e. record { end = e; place = place_of (left_by m) e }) (ends_of o (left_by m))

  -- a socket after an item
  abbrev pub sock_after : Moment N S → OpenSock → OpenSock
  sock_after m s = record s {
    stopped = s.stopped || stops s.object m.item;
    pattern = detach_all (leaves_in m s) (attach_all (joins_of s.object m) s.pattern);
    ends = ends_left s.object m;
  }

  -- a socket goes through these items
  abbrev pub PassesItems : List (Moment N S) → OpenSock → OpenSock → Type 0
  PassesItems [] old new = new ≡ old
  PassesItems (m ∷ ms) old new = AreAnswered (joins_of old.object m) old.pattern × PassesItems ms (sock_after m old) new

  -- a socket at its making
  abbrev pub new_open : Moment N S → (object : ℕ) → Kind → Options → OpenSock
  new_open m object kind options = record {
    object = object;
    slot = (obj (left_by m).rows object).slot;
    stopped = false;
    pattern = new_pattern kind options;
    ends = [];
  }
