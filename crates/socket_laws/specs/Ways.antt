-- How the ends of an open socket go on in an item of it (own choice, after libzmq's `pipe_t`).
use Rattle.std.specs.Prelude.{◌≡◌, ℕ, true, false, List, [], All}
use Rattle.spec_control.specs.declared.end.EndState.TheVariants.{Active, AskedOnce}
use Rattle.spec_control.specs.declared.letter.Letter.{Letter}
use Rattle.spec_control.specs.declared.letter.Word.TheVariants.{PipeTerm}
use Rattle.spec_control.specs.declared.entry.Item.{Item}
use Rattle.spec_control.specs.Place.{At}
use Rattle.spec_control.specs.Control.{place_of, ends_of}
use Rattle.spec_control.specs.Moments.{Moment, left_by}
use Rattle.desk.specs.Turns.{sealed_by, turned_in}
use Rattle.spec_run.specs.OpenSocket.{awaits_delimiter}
use Rattle.spec_run.specs.Event.{IsDelivery, LooksBehind}
use Rattle.socket_laws.specs.Open.{moment_at, left_before, ComesTo}

-- an end that the socket had before is Active behind an item only where it was so
abbrev pub ActiveEndsStay : (N S : Type 0) → Type 0
ActiveEndsStay N S = (io : ℕ) (before : List (Item N S)) (item : Item N S) (o : ℕ) → ComesTo io before item o →
    let m = moment_at io before item in All (λ e. place_of (left_by m) e ≡ At Active → place_of m.found e ≡ At Active) (ends_of o (left_before io before item o))

-- the end that comes to read on is the one that the command tells; where none does, none is to be looked at behind it
pub record ReadsOn {N S : Type 0} (o : ℕ) (letter : Letter) (m : Moment N S) : Type 0 where
  pub one : All (λ e. awaits_delimiter (place_of (left_by m) e) ≡ true → awaits_delimiter (place_of m.found e) ≡ false → letter.word ≡ PipeTerm e) (ends_of o (left_by m))
  pub none : All (λ e. awaits_delimiter (place_of (left_by m) e) ≡ true → awaits_delimiter (place_of m.found e) ≡ true) (ends_of o (left_by m)) → LooksBehind {N = N} {S = S} (left_by m) letter.word []

abbrev pub OneEndReadsOn : (N S : Type 0) → Type 0
OneEndReadsOn N S = (io : ℕ) (before : List (Item N S)) (item : Item N S) (o : ℕ) → ComesTo io before item o →
    let m = moment_at io before item in (slot : ℕ) (letter : Letter) → IsDelivery slot letter m → ReadsOn o letter m

-- what is told in an item: each end is then where it is told to come, and those that are to be sealed were asked once, and are not Active
pub record IsToldSo {N S : Type 0} (m : Moment N S) : Type 0 where
  pub turns : All (λ t. place_of (left_by m) t.0 ≡ At t.1) (turned_in m.found (left_by m))
  pub sealed : All (λ e. place_of (left_by m) e ≡ At AskedOnce) (sealed_by (turned_in m.found (left_by m)))

abbrev pub TurnsAreSo : (N S : Type 0) → Type 0
TurnsAreSo N S = (m : Moment N S) → IsToldSo m
