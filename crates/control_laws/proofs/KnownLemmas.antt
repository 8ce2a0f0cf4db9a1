-- A caller's own items say the kind of the sockets that they say are open.
use Rattle.std.specs.Prelude.{◌≡◌, ◌==◌, ℕ, Bool, true, false, List, [], ◌∷◌, Option, Some, None, if◌then◌else◌, is_some, refl}
use Rattle.zq_base.specs.declared.kind.Kind.{Kind}
use Rattle.spec_control.specs.declared.letter.Word.{Word}
use Rattle.spec_control.specs.declared.letter.Word.TheVariants.{Own, Plug, TermReq, Term, TermAck, PipeBind, PipeTerm, PipeTermAck, Stop, Reap}
use Rattle.spec_control.specs.declared.request.Req.{Req}
use Rattle.spec_control.specs.declared.request.Req.TheVariants.{Socket as MakeSocket, AskTerm, Bind, Connect, Unbind, Disconnect, Close, Accepted, Shaken, AskEnd, AskOver, OutputOver}
use Rattle.spec_control.specs.declared.request.Reply.{Reply}
use Rattle.spec_control.specs.declared.entry.Did.{Did}
use Rattle.spec_control.specs.declared.entry.Did.TheVariants.{Asked, Delivered, Delimited}
use Rattle.spec_control.specs.declared.entry.Item.{Item}
use Rattle.spec_control.specs.declared.entry.Item.TheVariants.{Event, Seen}
use Rattle.spec_control.specs.Rows.{is_owner}
use Rattle.spec_control.specs.Has.{made_by}
use Rattle.std.proofs.Common.{◌∙◌}
use Rattle.spec_control.specs.OwnAsks.{Known, unknown, known_at_request, known_at_word, known_in, known_over}
use Rattle.desk.specs.Kinds.{kind_at_request, kind_in, kind_over}
use Rattle.control_laws.specs.SocketLaws.{KnownSocketsHaveKinds}

asked : (i : ℕ) (req : Req) (reply : Reply) (k : Known) (kind : Option Kind) → k.open_socket ≡ is_some kind → (known_at_request i req reply k).open_socket ≡ is_some (kind_at_request i req reply kind)
asked i (MakeSocket kind options) reply k old same = by (is_owner i (made_by reply))
  where
    by : (b : Bool) → (if b then record k { open_socket = true } else k).open_socket ≡ is_some (if b then Some kind else old)
    by true = refl
    by false = same
asked i AskTerm reply k old same = same
asked i (Bind o at) reply k old same = same
asked i (Connect o at) reply k old same = same
asked i (Unbind o at) reply k old same = same
asked i (Disconnect o at) reply k old same = same
asked i (Close o) reply k old same = by (o.0 == i)
  where
    by : (b : Bool) → (if b then record k { open_socket = false } else k).open_socket ≡ is_some (if b then None else old)
    by true = refl
    by false = same
asked i (Accepted o) reply k old same = by (is_owner i (made_by reply))
  where
    by : (b : Bool) → (if b then record k { session = true; accepted = true } else k).open_socket ≡ is_some old
    by true = same
    by false = same
asked i (Shaken o peer) reply k old same = by (o.0 == i)
  where
    by : (b : Bool) → (if b then record k { shaken = true } else k).open_socket ≡ is_some old
    by true = same
    by false = same
asked i (AskEnd e reason) reply k old same = same
asked i (AskOver o) reply k old same = by (o.0 == i)
  where
    by : (b : Bool) → (if b then record k { asked_over = true } else k).open_socket ≡ is_some old
    by true = same
    by false = same
asked i (OutputOver o) reply k old same = by (o.0 == i)
  where
    by : (b : Bool) → (if b then record k { output_left = false } else k).open_socket ≡ is_some old
    by true = same
    by false = same

word_open : (word : Word) (left : Bool) (k : Known) → (known_at_word word left k).open_socket ≡ k.open_socket
word_open (Own child) left k = refl
word_open (Plug None) left k = refl
word_open (Plug (Some e)) left k = refl
word_open (TermReq child) left k = refl
word_open Term left k = refl
word_open (TermAck child) left k = refl
word_open (PipeBind e peer) left k = refl
word_open (PipeTerm e) left k = refl
word_open (PipeTermAck e) left k = refl
word_open Stop left k = refl
word_open (Reap socket) left k = refl

module _ {N S : Type 0} where
  did_so : (i : ℕ) (did : Did N S) (k : Known) (kind : Option Kind) → k.open_socket ≡ is_some kind → (known_in i did k).open_socket ≡ is_some (kind_in i did kind)
  did_so i (Asked req reply h) k kind same = asked i req reply k kind same
  did_so i (Delivered slot letter h) k kind same = by (letter.to.0 == i)
    where
      by : (b : Bool) → (if b then known_at_word letter.word h.output_left k else k).open_socket ≡ is_some kind
      by true = word_open letter.word h.output_left k ∙ same
      by false = same
  did_so i (Delimited e h) k kind same = same

  over_so : (i : ℕ) (items : List (Item N S)) (k : Known) (kind : Option Kind) → k.open_socket ≡ is_some kind → (known_over i k items).open_socket ≡ is_some (kind_over i kind items)
  over_so i [] k kind same = same
  over_so i (Event entry ∷ items) k kind same = over_so i items (known_in i entry.did k) (kind_in i entry.did kind) (did_so i entry.did k kind same)
  over_so i (Seen sight ∷ items) k kind same = over_so i items k kind same

pub known_sockets_have_kinds : (N S : Type 0) → KnownSocketsHaveKinds N S
known_sockets_have_kinds N S items i = over_so i items unknown None refl
