-- Items that leave all pipes aside: a look, the asking of the root, and the making of a socket (zmq_ctx_term(3), zmq_socket(3); own choice).
use Rattle.std.specs.Prelude.{◌≡◌, ◌++◌, ℕ, false, List, [], ◌∷◌}
use Rattle.zq_base.specs.declared.kind.Kind.{Kind}
use Rattle.zq_base.specs.declared.options.Options.{Options}
use Rattle.msg_pipe.specs.Known.{Known}
use Rattle.spec_control.specs.declared.entry.Answered.{Answered}
use Rattle.spec_control.specs.declared.entry.Did.TheVariants.{Asked as DidAsk}
use Rattle.spec_control.specs.declared.entry.Item.{Item}
use Rattle.spec_control.specs.declared.entry.Item.TheVariants.{Event, Seen}
use Rattle.spec_control.specs.declared.entry.Sight.{Sight}
use Rattle.spec_control.specs.declared.request.Req.TheVariants.{AskTerm, Socket as MakeSocket}
use Rattle.spec_control.specs.declared.request.Reply.{Reply}
use Rattle.spec_control.specs.Control.{begun}
use Rattle.spec_control.specs.ControlRun.{after_all, after_item, Fits, FitsItem, IsControlRun}
use Rattle.spec_control.specs.Names.{named_in}
use Rattle.spec_control.specs.Moments.{Moment}
use Rattle.spec_run.specs.Event.{acts_said}
use Rattle.zq_world.specs.Piece.{Piece, piece_of}
use Rattle.socket_laws.specs.Sides.{OpensGoOn}
use Rattle.socket_laws.specs.Standing.{CoreStands, opens_in}

module _ {N T : Type 0} where
  -- the moment of an item behind these
  abbrev pub next_moment : List (Item N T) → Item N T → Moment N T
  next_moment items item = record { found = after_all items (begun 1); item = item }

  -- an item behind these changes no pair, settles no pipe, makes none, and opens no socket again
  pub record IsAside (items : List (Item N T)) (item : Item N T) : Type 0 where
    pub pairs : (after_item item (after_all items (begun 1))).rows.pairs ≡ (after_all items (begun 1)).rows.pairs
    pub settlements : (after_item item (after_all items (begun 1))).settlements ≡ (after_all items (begun 1)).settlements
    pub names : named_in item ≡ []
    pub opens : OpensGoOn (after_all items (begun 1)) (opens_in items) (opens_in (items ++ item ∷ []))

-- what stands goes on over such an item, a call of some caller's
abbrev pub AsidesGoOn : {S O I N : Type 0} → Known S O I N → (T : Type 0) → Type 0
AsidesGoOn {S} {O} {I} {N} K T = (items : List (Item N T)) (item : Item N T) (k : ℕ) (pipes : S) (pieces : List (Piece N T)) →
    IsControlRun (begun 1) items → FitsItem (after_all items (begun 1)) item → IsAside items item → CoreStands K items pipes pieces →
    CoreStands K (items ++ item ∷ []) pipes (pieces ++ piece_of k false (acts_said (next_moment items item)) [])

-- a look is one
abbrev pub LooksAreAsides : (N T : Type 0) → Type 0
LooksAreAsides N T = (items : List (Item N T)) (sight : Sight) → IsAside items (Seen sight)

-- and the asking of the root
abbrev pub RootAsksAreAsides : (N T : Type 0) → Type 0
RootAsksAreAsides N T = (items : List (Item N T)) (by : ℕ) (reply : Reply) (h : Answered N T) → Fits (after_all items (begun 1)) (DidAsk AskTerm reply h) → IsAside items (Event (record { by = by; did = DidAsk AskTerm reply h }))

-- and the making of a socket
abbrev pub MakingsAreAsides : (N T : Type 0) → Type 0
MakingsAreAsides N T = (items : List (Item N T)) (by : ℕ) (kind : Kind) (options : Options) (reply : Reply) (h : Answered N T) →
    Fits (after_all items (begun 1)) (DidAsk (MakeSocket kind options) reply h) → IsAside items (Event (record { by = by; did = DidAsk (MakeSocket kind options) reply h }))
