-- The ends of an open socket, as its caller's moments left them and as an item of it leaves them (own choice, after libzmq's `socket_base_t` and `pipe_t`).
use Rattle.std.specs.Prelude.{◌≡◌, ℕ, true, List, ◌++◌, All, if◌then◌else◌, map}
use Rattle.zq_base.specs.declared.ids.EndId.{EndId}
use Rattle.spec_control.specs.declared.end.EndState.{EndState}
use Rattle.spec_control.specs.declared.end.EndState.TheVariants.{Gone}
use Rattle.spec_control.specs.declared.entry.Item.{Item}
use Rattle.spec_control.specs.Place.{At}
use Rattle.spec_control.specs.Control.{Control, begun, place_of, ends_of}
use Rattle.spec_control.specs.ControlRun.{after_all}
use Rattle.spec_control.specs.Moments.{Moment, left_after, left_by}
use Rattle.desk.specs.Holding.{Holding, has_end}
use Rattle.desk.specs.Turns.{turned_in, turned_over}
use Rattle.desk.specs.Desk.{HasWhatTheySay, came_with}
use Rattle.spec_run.specs.OpenSocket.{joins_of}
use Rattle.socket_laws.specs.Open.{ends_at, moments_of, HasOpen, moment_at, left_before, ComesTo}

-- the ends of an object are the same, each where it was
pub record AreLeft (o : ℕ) (was now : Control) : Type 0 where
  pub ends : ends_of o was ≡ ends_of o now
  pub places : All (λ e. place_of was e ≡ place_of now e) (ends_of o now)
  pub told : ends_at o was ≡ ends_at o now

-- whoever has a socket open: no event of others moved its ends since the last moment of it, or attached one
abbrev pub OpenEndsAreLeft : (N S : Type 0) → Type 0
OpenEndsAreLeft N S = (io : ℕ) (items : List (Item N S)) (by o : ℕ) → HasOpen io items by o → AreLeft o (left_after o (moments_of io items by)) (after_all items (begun io))

-- an item goes on from ends as they were left, those in their order with what joins, and is told of them alone
pub record GoesOn {N S : Type 0} (o : ℕ) (was : Control) (m : Moment N S) : Type 0 where
  pub joins : joins_of o m ≡ came_with m.item
  pub ends : ends_of o (left_by m) ≡ ends_of o was ++ map (λ j. j.end) (came_with m.item)
  pub turns : turned_in m.found (left_by m) ≡ turned_over (place_of m.found) (place_of (left_by m)) (ends_of o (left_by m))

abbrev pub EndsGoOn : (N S : Type 0) → Type 0
EndsGoOn N S = (io : ℕ) (before : List (Item N S)) (item : Item N S) (o : ℕ) → ComesTo io before item o → GoesOn o (left_before io before item o) (moment_at io before item)

-- how far an end is that a holder has for an object; one that it has not is gone
abbrev pub state_held : {N : Type 0} → Holding N → ℕ → EndId → EndState
state_held h o e = if has_end e (h.ends o) then h.state e else Gone

-- a holder that has what its caller's moments say has each end of an open socket that is not gone, and how far it is
abbrev pub ToldEndsAreLeft : (N S : Type 0) → Type 0
ToldEndsAreLeft N S = (io : ℕ) (items : List (Item N S)) (by o : ℕ) → HasOpen io items by o → (h : Holding N) → HasWhatTheySay by (moments_of io items by) h → h.holds o ≡ true →
    ends_at o (after_all items (begun io)) ≡ map (λ e. record { end = e; place = At (state_held h o e) }) (ends_of o (left_after o (moments_of io items by)))
