-- What became of each message that was committed to a settled pipe: each has one named fate.
use Rattle.std.specs.Prelude.{◌≡◌, ◌≤◌, ◌+◌, ◌&&◌, not, ℕ, Bool, true, false, List, [], ◌∷◌, ◌++◌, Option, Some, None, drop, filter, flat_map, if◌then◌else◌, length, map, replicate}
use Rattle.std.specs.List.{list_all}
use Rattle.zq_base.specs.Ends.{PipeId, other_end}
use Rattle.zq_base.specs.declared.kind.Kind.{Kind}
use Rattle.zq_base.specs.declared.kind.Kind.TheVariants.{Push, Pull, Pair, Dealer, Req, Rep, Router, Pub, XPub, Sub, XSub}
use Rattle.spec_pattern.specs.PipeStep.{PipeStep, Commit, FullLook, RoomLook, Take, EmptyLook, DelimiterLook, WaitingLook, Seal, same_pipe, committed_to, taken_from}
use Rattle.spec_pattern.specs.declared.answers.Rule.{Rule}
use Rattle.spec_pattern.specs.declared.answers.Skip.{Skip}
use Rattle.spec_control.specs.declared.end.Reason.{Reason}
use Rattle.spec_control.specs.declared.object.ObjKind.{ObjKind}
use Rattle.spec_control.specs.declared.object.ObjKind.TheVariants.{Root, Socket, Listener, Session}
use Rattle.spec_control.specs.Row.{is_session}
use Rattle.spec_control.specs.Rows.{obj}
use Rattle.spec_control.specs.Stage.{has_ended}
use Rattle.spec_control.specs.Control.{Control, Settlement, owner_of}
use Rattle.spec_run.specs.declared.journal.SettledRow.{SettledRow}
use Rattle.spec_run.specs.Act.{Deed, Tries, Shuts, Fetches, Idles, Works, Looks, AsksRoot, Reads, acts_of, steps_in}
use Rattle.spec_run.specs.OwnedRun.{OwnedRun, all_deeds, all_steps, settlement_of}

-- given by the receive that shows it, heard by a publisher, dropped by a rule that its receive tells, written to a link, lost by a link, left at the settlement of its pipe, whose end was asked for this reason
pub data Fate : Type 0 where
  IsGiven : Fate
  IsHeard : Fate
  IsDropped : Rule → Fate
  IsWritten : Fate
  IsLost : Fate
  IsLeft : Option Reason → Fate

-- publishers hear what they take
abbrev pub is_publisher_kind : Kind → Bool
is_publisher_kind Push = false
is_publisher_kind Pull = false
is_publisher_kind Pair = false
is_publisher_kind Dealer = false
is_publisher_kind Req = false
is_publisher_kind Rep = false
is_publisher_kind Router = false
is_publisher_kind Pub = true
is_publisher_kind XPub = true
is_publisher_kind Sub = false
is_publisher_kind XSub = false

abbrev pub is_publisher : ObjKind → Bool
is_publisher Root = false
is_publisher (Socket kind) = is_publisher_kind kind
is_publisher Listener = false
is_publisher Session = false

-- the reader of a pipe publishes
abbrev pub is_heard_at : Control → PipeId → Bool
is_heard_at c p = is_publisher (obj c.rows (owner_of c (other_end p))).kind

-- where the root has not ended, one message that a session took may have no fate yet
abbrev pub most_unfated : Control → PipeId → ℕ
most_unfated c p = if is_session (obj c.rows (owner_of c (other_end p))).kind && not (has_ended (obj c.rows 0).stage) then 1 else 0

-- what became of a message taken, where these are the drops that are left to tell
abbrev pub fate_taken : (hears : Bool) → List Skip → Fate
fate_taken true skips = IsHeard
fate_taken false [] = IsGiven
fate_taken false (skip ∷ skips) = IsDropped skip.rule

-- what became of the messages that steps took from the pipe: of all that they took, the first were dropped, as many as were told
abbrev pub fates_taken : (hears : Bool) → PipeId → List PipeStep → List Skip → List Fate
fates_taken hears p [] skips = []
fates_taken hears p (Commit q m ∷ steps) skips = fates_taken hears p steps skips
fates_taken hears p (FullLook q ∷ steps) skips = fates_taken hears p steps skips
fates_taken hears p (RoomLook q ∷ steps) skips = fates_taken hears p steps skips
fates_taken hears p (Take q m ∷ steps) skips =
    if same_pipe p q then fate_taken hears skips ∷ fates_taken hears p steps (drop 1 skips) else fates_taken hears p steps (drop 1 skips)
fates_taken hears p (EmptyLook q ∷ steps) skips = fates_taken hears p steps skips
fates_taken hears p (DelimiterLook q ∷ steps) skips = fates_taken hears p steps skips
fates_taken hears p (WaitingLook q ∷ steps) skips = fates_taken hears p steps skips
fates_taken hears p (Seal q ∷ steps) skips = fates_taken hears p steps skips

-- messages are left as many as the settlement counted
abbrev pub fates_left : Option Settlement → List Fate
fates_left None = []
fates_left (Some s) = replicate s.counts.rest (IsLeft s.reason)

abbrev pub reason_left : Option Settlement → Option Reason
reason_left None = None
reason_left (Some s) = s.reason

-- how many messages a settlement counted as left
abbrev pub rest_of : Option Settlement → ℕ
rest_of None = 0
rest_of (Some s) = s.counts.rest

abbrev pub is_fate_given : Fate → Bool
is_fate_given IsGiven = true
is_fate_given IsHeard = false
is_fate_given (IsDropped rule) = false
is_fate_given IsWritten = false
is_fate_given IsLost = false
is_fate_given (IsLeft reason) = false

abbrev pub is_fate_heard : Fate → Bool
is_fate_heard IsGiven = false
is_fate_heard IsHeard = true
is_fate_heard (IsDropped rule) = false
is_fate_heard IsWritten = false
is_fate_heard IsLost = false
is_fate_heard (IsLeft reason) = false

abbrev pub is_fate_dropped : Fate → Bool
is_fate_dropped IsGiven = false
is_fate_dropped IsHeard = false
is_fate_dropped (IsDropped rule) = true
is_fate_dropped IsWritten = false
is_fate_dropped IsLost = false
is_fate_dropped (IsLeft reason) = false

abbrev pub is_fate_written : Fate → Bool
is_fate_written IsGiven = false
is_fate_written IsHeard = false
is_fate_written (IsDropped rule) = false
is_fate_written IsWritten = true
is_fate_written IsLost = false
is_fate_written (IsLeft reason) = false

abbrev pub is_fate_lost : Fate → Bool
is_fate_lost IsGiven = false
is_fate_lost IsHeard = false
is_fate_lost (IsDropped rule) = false
is_fate_lost IsWritten = false
is_fate_lost IsLost = true
is_fate_lost (IsLeft reason) = false

abbrev pub is_fate_left : Fate → Bool
is_fate_left IsGiven = false
is_fate_left IsHeard = false
is_fate_left (IsDropped rule) = false
is_fate_left IsWritten = false
is_fate_left IsLost = false
is_fate_left (IsLeft reason) = true

-- what is left has its reason; each other fate is named by itself
abbrev pub is_named_fate : Fate → Bool
is_named_fate IsGiven = true
is_named_fate IsHeard = true
is_named_fate (IsDropped rule) = true
is_named_fate IsWritten = true
is_named_fate IsLost = true
is_named_fate (IsLeft None) = false
is_named_fate (IsLeft (Some reason)) = true

-- the counts of a row add up where so many messages have no fate
abbrev pub AddsUp : SettledRow → ℕ → Type 0
AddsUp row unfated = let r = row.counts in r.sent ≡ r.given + r.heard + r.dropped + r.written + r.lost + r.rest + unfated

-- the row of a pipe to which so many messages were committed, with these fates, whose end was asked for this reason
abbrev pub row_of_fates : PipeId → ℕ → List Fate → Option Reason → SettledRow
row_of_fates p count fates_of reason = record {
  counts = record {
    pipe = p;
    sent = count;
    given = length (filter is_fate_given fates_of);
    heard = length (filter is_fate_heard fates_of);
    dropped = length (filter is_fate_dropped fates_of);
    written = length (filter is_fate_written fates_of);
    lost = length (filter is_fate_lost fates_of);
    rest = length (filter is_fate_left fates_of);
  };
  reason = reason;
}

module _ {N S : Type 0} where
  -- the drops that a deed tells
  abbrev pub skips_of : Deed N S → List Skip
  skips_of (Tries t) = t.skips
  skips_of (Shuts acts) = []
  skips_of (Fetches slot acts) = []
  skips_of (Idles m) = []
  skips_of (Works acts) = []
  skips_of (Looks m) = []
  skips_of (AsksRoot acts) = []
  skips_of (Reads now) = []

  -- what became of the messages that a deed took from the pipe
  abbrev pub fates_in : (hears : Bool) → PipeId → Deed N S → List Fate
  fates_in hears p d = fates_taken hears p (steps_in (acts_of d)) (skips_of d)

  abbrev pub count_sent : OwnedRun N S → PipeId → ℕ
  count_sent run p = length (committed_to p (all_steps run))

  -- of each message committed to the pipe, in order, what became of it by the end c
  abbrev pub fates_of : Control → OwnedRun N S → PipeId → List Fate
  fates_of c run p = flat_map (fates_in (is_heard_at c p) p) (all_deeds run) ++ fates_left (settlement_of c p)

  -- the row of a pipe
  abbrev pub settled_row : Control → OwnedRun N S → PipeId → SettledRow
  settled_row c run p = row_of_fates p (count_sent run p) (fates_of c run p) (reason_left (settlement_of c p))

  -- each message committed to the pipe has one named fate, but for the last that a session took where its run goes on; those that were taken are the first and none of them is left, behind them as many are left as the settlement counted, and the counts of the row add up
  pub record HaveOneFate (c : Control) (run : OwnedRun N S) (p : PipeId) : Type 0 where
    pub fated : ℕ
    pub unfated : ℕ
    pub taken : length (taken_from p (all_steps run)) ≡ fated + unfated
    pub few : unfated ≤ most_unfated c p
    pub each : count_sent run p ≡ length (fates_of c run p) + unfated
    pub «named» : list_all is_named_fate (fates_of c run p) ≡ true
    pub left : map is_fate_left (fates_of c run p) ≡ replicate fated false ++ replicate (rest_of (settlement_of c p)) true
    pub sum : AddsUp (settled_row c run p) unfated
