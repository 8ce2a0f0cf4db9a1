-- Items that give no pair its number and no pipe a name (own choice).
use Rattle.std.specs.Prelude.{◌≡◌, ℕ, Bool, true, false, List, [], ◌∷◌, ◌++◌}
use Rattle.zq_base.specs.Ends.{PipeId}
use Rattle.spec_control.specs.declared.entry.Did.{Did}
use Rattle.spec_control.specs.declared.entry.Did.TheVariants.{Asked, Delivered, Delimited}
use Rattle.spec_control.specs.declared.entry.Item.{Item}
use Rattle.spec_control.specs.declared.entry.Item.TheVariants.{Event, Seen}
use Rattle.spec_control.specs.declared.request.Req.{Req}
use Rattle.spec_control.specs.declared.request.Req.TheVariants.{Socket as MakeSocket, AskTerm, Bind, Connect, Unbind, Disconnect, Close, Accepted, Shaken, AskEnd, AskOver, OutputOver}
use Rattle.spec_control.specs.Control.{begun, next_pair}
use Rattle.spec_control.specs.ControlRun.{FitsItem, IsControlRun, after_all, after_item}
use Rattle.spec_control.specs.Names.{name_of}

-- a request that may draw a pair's number, or make a pair
abbrev pub may_pair : Req → Bool
may_pair (MakeSocket kind options) = false
may_pair AskTerm = false
may_pair (Bind o at) = true
may_pair (Connect o at) = true
may_pair (Unbind o at) = false
may_pair (Disconnect o at) = false
may_pair (Close o) = false
may_pair (Accepted o) = true
may_pair (Shaken o peer) = true
may_pair (AskEnd e reason) = false
may_pair (AskOver o) = false
may_pair (OutputOver o) = false

module _ {N S : Type 0} where
  abbrev pub may_pair_in : Did N S → Bool
  may_pair_in (Asked req reply h) = may_pair req
  may_pair_in (Delivered slot letter h) = false
  may_pair_in (Delimited e h) = false

  abbrev pub may_pair_by : Item N S → Bool
  may_pair_by (Event entry) = may_pair_in entry.did
  may_pair_by (Seen sight) = false

-- behind any other item there are the pairs and the names that there were
abbrev pub OthersMakeNone : (N S : Type 0) → Type 0
OthersMakeNone N S = (io : ℕ) (items : List (Item N S)) (item : Item N S) → IsControlRun (begun io) items → FitsItem (after_all items (begun io)) item → may_pair_by item ≡ false →
    let c = after_all items (begun io) in
    (next_pair (after_item item c) ≡ next_pair c) × ((p : PipeId) → name_of (items ++ item ∷ []) p ≡ name_of items p)
