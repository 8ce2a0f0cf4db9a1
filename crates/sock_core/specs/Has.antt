-- What a socket has, as the control plane is told (own choice, after libzmq's `socket_base_t`).
use Rattle.std.specs.Prelude.{◌≡◌, ◌==◌, ◌&&◌, ℕ, Bool, true, false, List, [], ◌∷◌, Some, None, map, if◌then◌else◌}
use Rattle.zq_base.specs.declared.ids.EndId.{EndId}
use Rattle.zq_base.specs.declared.kind.Kind.{Kind}
use Rattle.spec_control.specs.declared.end.EndState.{EndState}
use Rattle.spec_control.specs.declared.end.EndState.TheVariants.{Gone}
use Rattle.desk.specs.Holding.{Holding}
use Rattle.end_table.specs.declared.table.Place.{Place}
use Rattle.end_table.specs.Places.{held_in, is_of, writes_in, met_in}
use Rattle.spec_control.specs.declared.entry.Joining.{Joining}
use Rattle.sock_core.specs.declared.joint.JoinNote.{JoinNote}
use Rattle.sock_core.specs.declared.sock.SockCore.{SockCore}
use Rattle.desk.specs.declared.notice.Notice.{Notice}
use Rattle.desk.specs.declared.notice.Notice.TheVariants.{Plug, Stop, Term, Over}
use Rattle.std.specs.List.{list_any}
use Rattle.sock_core.specs.Standing.{standing_joins}

-- what a socket was told: the changes of its ends' states, the ends whose pipes it was to seal, those that joined, and its Stop, its Term and its end
pub record Told (N : Type 0) : Type 0 where
  pub turns : List (EndId × EndState)
  pub sealed : List EndId
  pub joined : List (Joining N)
  pub heard : List Notice

-- as its logs have it
abbrev pub told_in : {N : Type 0} → List (EndId × EndState) → List (EndId × Unit {0}) → List (JoinNote N × List ℕ) → List (Notice × Unit {0}) → Told N
told_in turns sealed joins heard = record { turns = turns; sealed = map (λ x. x.0) sealed; joined = standing_joins joins; heard = map (λ x. x.0) heard }

module _ {N I : Type 0} where
  -- how far an end is; one that is not held is gone
  abbrev pub state_in : List (Place N I) → EndId → EndState
  state_in [] e = Gone
  state_in (p ∷ ps) e = if is_of e p then p.state else state_in ps e

  -- a socket of this number and kind with its ends by places, which was told this; it gives all away when it is closed
  abbrev pub has : (number : ℕ) → (is_open : Bool) → Kind → Told N → List (Place N I) → Holding N
  has number is_open kind told ps = record {
    holds = λ i. is_open && i == number;
    ends = λ i. if i == number then held_in ps else [];
    writes = writes_in ps;
    at_delimiter = met_in ps;
    kind = λ i. if is_open && i == number then Some kind else None;
    output_left = λ i. false;
    state = state_in ps;
    turns = told.turns;
    sealed = told.sealed;
    joined = told.joined;
    heard = told.heard;
  }

-- what a socket has, whose kind is this
abbrev pub holding_in : {C W N O I : Type 0} → Kind → SockCore C W N O I → Holding N
holding_in kind s = has s.number.0 s.is_open kind (told_in s.turns.items s.sealed.items s.joins.items s.heard.items) s.ends.places.items

-- an open socket of this number and kind, without ends, that was told nothing
pub record IsNew {C W N O I : Type 0} (number : ℕ) (kind : C) (s : SockCore C W N O I) : Type 0 where
  pub number_is : s.number.0 ≡ number
  pub is_open : s.is_open ≡ true
  pub not_stopped : s.stopped ≡ false
  pub kind_is : s.kind ≡ kind
  pub no_ends : s.ends.places.items ≡ []
  pub no_turns : s.turns.items ≡ []
  pub no_seals : s.sealed.items ≡ []
  pub no_joins : s.joins.items ≡ []
  pub no_notices : s.heard.items ≡ []
  pub no_way : s.way.items ≡ []

-- a Stop was processed
abbrev pub is_stop : Notice → Bool
is_stop (Plug o kind options) = false
is_stop (Stop o) = true
is_stop (Term o) = false
is_stop (Over o) = false

-- it is said of a socket that it processed its Stop where it was told of one
abbrev pub IsStopped : (stopped : Bool) → List (Notice × Unit {0}) → Type 0
IsStopped stopped heard = stopped ≡ list_any (λ x. is_stop x.0) heard
