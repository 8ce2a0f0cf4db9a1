-- What waits in the mailboxes is, link by link, what the rows say is on its way (own choice).
use Rattle.std.specs.Prelude.{◌≡◌, ◌==◌, ◌&&◌, ℕ, Bool, false, cond, List, [], ◌∷◌, ◌++◌, Some, None, map, flat_map}
use Rattle.spec_control.specs.declared.letter.Letter.{Letter}
use Rattle.spec_control.specs.declared.letter.Word.{Word}
use Rattle.spec_control.specs.declared.letter.Word.TheVariants.{Own, Plug, TermReq, Term, TermAck, PipeBind, PipeTerm, PipeTermAck, Stop, Reap}
use Rattle.spec_control.specs.Place.{EndWord, Binds, Terms, Acks}
use Rattle.spec_control.specs.Row.{Row, is_socket, Up, GivesOwn, Requests, GivesAck, Down, GetsPlug, GetsStop, GetsTerm, up_queue, down_queue}
use Rattle.spec_control.specs.Rows.{Rows, PairRow, obj, pair, end_owner, end_half}
use Rattle.spec_control.specs.Control.{same_side}
use Rattle.spec_control.specs.After.{owner_or_root}

-- what a command is on its link
pub data Sign : Type 0 where
  OwnSign : Sign
  RequestSign : Sign
  ReapSign : Sign
  AckSign : Sign
  PlugSign : Sign
  StopSign : Sign
  TermSign : Sign
  BindSign : Sign
  PipeTermSign : Sign
  PipeAckSign : Sign

-- a command on its link, and the number of the object that it is for
pub record Mark : Type 0 where
  pub to : ℕ
  pub sign : Sign

-- a link and its direction: from an object to its owner, to an object, to an end
pub data Link : Type 0 where
  UpLink : ℕ → Link
  DownLink : ℕ → Link
  EndLink : ℕ → Bool → Link

-- the two are one link
abbrev pub is_link : Link → Link → Bool
is_link (UpLink c) (UpLink d) = c == d
is_link (UpLink c) (DownLink d) = false
is_link (UpLink c) (EndLink k a) = false
is_link (DownLink c) (UpLink d) = false
is_link (DownLink c) (DownLink d) = c == d
is_link (DownLink c) (EndLink k a) = false
is_link (EndLink k a) (UpLink d) = false
is_link (EndLink k a) (DownLink d) = false
is_link (EndLink k a) (EndLink j b) = k == j && same_side a b

-- one mark, where the link is this one
abbrev pub mark_at : Link → Link → ℕ → Sign → List Mark
mark_at link own to sign = cond (is_link link own) (record { to = to; sign = sign } ∷ []) []

-- what a command is on a link: a Plug that brings an end stands on two
abbrev pub word_marks : Link → ℕ → Word → List Mark
word_marks link to (Own child) = mark_at link (UpLink child.0) to OwnSign
word_marks link to (TermReq child) = mark_at link (UpLink child.0) to RequestSign
word_marks link to (TermAck child) = mark_at link (UpLink child.0) to AckSign
word_marks link to (Reap socket) = mark_at link (UpLink socket.0) to ReapSign
word_marks link to (Plug None) = mark_at link (DownLink to) to PlugSign
word_marks link to (Plug (Some e)) = mark_at link (DownLink to) to PlugSign ++ mark_at link (EndLink e.pair.0 e.a) to BindSign
word_marks link to Term = mark_at link (DownLink to) to TermSign
word_marks link to Stop = mark_at link (DownLink to) to StopSign
word_marks link to (PipeBind e peer) = mark_at link (EndLink e.pair.0 e.a) to BindSign
word_marks link to (PipeTerm e) = mark_at link (EndLink e.pair.0 e.a) to PipeTermSign
word_marks link to (PipeTermAck e) = mark_at link (EndLink e.pair.0 e.a) to PipeAckSign

abbrev pub marks : Link → Letter → List Mark
marks link letter = word_marks link letter.to.0 letter.word

-- the part of a mailbox that is of one link
abbrev pub on_way : Link → List Letter → List Mark
on_way link letters = flat_map (marks link) letters

-- what the rows say is on its way
abbrev pub up_mark : (socket : Bool) → ℕ → Up → Mark
up_mark socket owner GivesOwn = record { to = owner; sign = OwnSign }
up_mark socket owner Requests = record { to = owner; sign = cond socket ReapSign RequestSign }
up_mark socket owner GivesAck = record { to = owner; sign = AckSign }

abbrev pub down_mark : ℕ → Down → Mark
down_mark c GetsPlug = record { to = c; sign = PlugSign }
down_mark c GetsStop = record { to = c; sign = StopSign }
down_mark c GetsTerm = record { to = c; sign = TermSign }

abbrev pub end_mark : ℕ → EndWord → Mark
end_mark owner Binds = record { to = owner; sign = BindSign }
end_mark owner Terms = record { to = owner; sign = PipeTermSign }
end_mark owner Acks = record { to = owner; sign = PipeAckSign }

abbrev pub up_marks : Row → List Mark
up_marks o = map (up_mark (is_socket o.kind) (owner_or_root o.owner)) (up_queue o)

abbrev pub down_marks : ℕ → Row → List Mark
down_marks c o = map (down_mark c) (down_queue o)

abbrev pub end_marks : PairRow → Bool → List Mark
end_marks p a = map (end_mark (end_owner p a)) (end_half p a).mail

abbrev pub queue : Rows → Link → List Mark
queue s (UpLink c) = up_marks (obj s c)
queue s (DownLink c) = down_marks c (obj s c)
queue s (EndLink k a) = end_marks (pair s k) a

-- whose mailbox a link's commands go to, and that mailbox
abbrev pub addressee : Rows → Link → ℕ
addressee s (UpLink c) = owner_or_root (obj s c).owner
addressee s (DownLink c) = c
addressee s (EndLink k a) = end_owner (pair s k) a

abbrev pub slot_of : Rows → Link → ℕ
slot_of s link = (obj s (addressee s link)).slot

-- each mailbox has, of each link, what is on its way where it is the link's, and else nothing
abbrev pub Delivers : (slot : Link → ℕ) → (queue : Link → List Mark) → (boxes : ℕ → List Letter) → Type 0
Delivers slot queue boxes = (m : ℕ) (link : Link) → on_way link (boxes m) ≡ cond (slot link == m) (queue link) []

abbrev pub IsDelivered : Rows → (ℕ → List Letter) → Type 0
IsDelivered s boxes = Delivers (slot_of s) (queue s) boxes

-- the queues with another one on this link
abbrev pub with_queue : Link → List Mark → (Link → List Mark) → Link → List Mark
with_queue own marks_now queues link = cond (is_link link own) marks_now (queues link)
