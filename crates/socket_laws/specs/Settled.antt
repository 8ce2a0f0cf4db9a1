-- Which pipes are settled, by where their ends are (own choice, after libzmq's `pipe_t`).
use Rattle.std.specs.Prelude.{◌≡◌, ◌≤◌, ◌<◌, ℕ, Bool, true, false, List, None, is_some}
use Rattle.zq_base.specs.declared.ids.EndId.{EndId}
use Rattle.zq_base.specs.Ends.{PipeId, other_end}
use Rattle.spec_pattern.specs.PipeStep.{read_through}
use Rattle.spec_control.specs.declared.end.EndState.TheVariants.{Active, DelimiterGot, WaitDelimiter, AckSent, AskedOnce, AskedTwice, Gone}
use Rattle.spec_control.specs.declared.entry.Item.{Item}
use Rattle.spec_control.specs.Place.{Place, Unmade, Away, At, is_gone}
use Rattle.spec_control.specs.Control.{begun, next_pair, place_of}
use Rattle.spec_control.specs.ControlRun.{after_all, IsControlRun}
use Rattle.spec_run.specs.OwnedRun.{settlement_of}

-- after a control run, a settled pipe is of a pair that has its number, and the end that read it is gone
abbrev pub SettledEndsAreGone : (N T : Type 0) → Type 0
SettledEndsAreGone N T = (io : ℕ) (items : List (Item N T)) → IsControlRun (begun io) items → let c = after_all items (begun io) in
    (p : PipeId) → is_some (settlement_of c p) ≡ true → (p.pair.0 < next_pair c) × (place_of c (other_end p) ≡ At Gone)

-- the end that writes a pipe has not told the other end that it is done with it
abbrev pub writes_on : Place → Bool
writes_on Unmade = true
writes_on Away = true
writes_on (At Active) = true
writes_on (At DelimiterGot) = true
writes_on (At WaitDelimiter) = true
writes_on (At AckSent) = false
writes_on (At AskedOnce) = true
writes_on (At AskedTwice) = false
writes_on (At Gone) = false

-- where a pipe is settled, and where not: not before its pair has its number, nor while its writer writes on or its reader is there, and where its reader, of a pair that has its number, is gone
pub record PipesAreSettled (N T : Type 0) : Type 0 where
  pub unnumbered : (io : ℕ) (items : List (Item N T)) → IsControlRun (begun io) items → let c = after_all items (begun io) in
      (p : PipeId) → next_pair c ≤ p.pair.0 → settlement_of c p ≡ None
  pub written : (io : ℕ) (items : List (Item N T)) → IsControlRun (begun io) items → let c = after_all items (begun io) in
      (p : PipeId) → writes_on (place_of c p) ≡ true → settlement_of c p ≡ None
  pub read : (io : ℕ) (items : List (Item N T)) → IsControlRun (begun io) items → let c = after_all items (begun io) in
      (e : EndId) → is_gone (place_of c e) ≡ false → settlement_of c (read_through e) ≡ None
  pub gone : (io : ℕ) (items : List (Item N T)) → IsControlRun (begun io) items → let c = after_all items (begun io) in
      (e : EndId) → 0 < e.pair.0 → e.pair.0 < next_pair c → place_of c e ≡ At Gone → is_some (settlement_of c (read_through e)) ≡ true
