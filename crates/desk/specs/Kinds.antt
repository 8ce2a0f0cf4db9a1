-- The kind of a socket, as far as a caller's own items say it (own choice).
use Rattle.std.specs.Prelude.{◌==◌, ℕ, List, [], ◌∷◌, Option, Some, None, if◌then◌else◌}
use Rattle.zq_base.specs.declared.kind.Kind.{Kind}
use Rattle.spec_control.specs.declared.request.Req.{Req}
use Rattle.spec_control.specs.declared.request.Req.TheVariants.{Socket as MakeSocket, AskTerm, Bind, Connect, Unbind, Disconnect, Close, Accepted, Shaken, AskEnd, AskOver, OutputOver}
use Rattle.spec_control.specs.declared.request.Reply.{Reply}
use Rattle.spec_control.specs.declared.entry.Did.{Did}
use Rattle.spec_control.specs.declared.entry.Did.TheVariants.{Asked, Delivered, Delimited}
use Rattle.spec_control.specs.declared.entry.Item.{Item}
use Rattle.spec_control.specs.declared.entry.Item.TheVariants.{Event, Seen}
use Rattle.spec_control.specs.Rows.{is_owner}
use Rattle.spec_control.specs.Has.{made_by}

-- of object i, behind a request
abbrev pub kind_at_request : ℕ → Req → Reply → Option Kind → Option Kind
kind_at_request i (MakeSocket kind options) reply k = if is_owner i (made_by reply) then Some kind else k
kind_at_request i AskTerm reply k = k
kind_at_request i (Bind o at) reply k = k
kind_at_request i (Connect o at) reply k = k
kind_at_request i (Unbind o at) reply k = k
kind_at_request i (Disconnect o at) reply k = k
kind_at_request i (Close o) reply k = if o.0 == i then None else k
kind_at_request i (Accepted o) reply k = k
kind_at_request i (Shaken o peer) reply k = k
kind_at_request i (AskEnd e reason) reply k = k
kind_at_request i (AskOver o) reply k = k
kind_at_request i (OutputOver o) reply k = k

module _ {N S : Type 0} where
  abbrev pub kind_in : ℕ → Did N S → Option Kind → Option Kind
  kind_in i (Asked req reply h) k = kind_at_request i req reply k
  kind_in i (Delivered slot letter h) k = k
  kind_in i (Delimited e h) k = k

  abbrev pub kind_over : ℕ → Option Kind → List (Item N S) → Option Kind
  kind_over i k [] = k
  kind_over i k (Event entry ∷ items) = kind_over i (kind_in i entry.did k) items
  kind_over i k (Seen sight ∷ items) = kind_over i k items

  -- the kind of a socket that the caller made and did not close
  abbrev pub kind_after : ℕ → List (Item N S) → Option Kind
  kind_after i items = kind_over i None items
