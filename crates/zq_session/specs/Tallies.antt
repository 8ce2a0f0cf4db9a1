-- What a session counts, and the exact numbers that its counts tell (own choice).
use Rattle.std.specs.Prelude.{◌≡◌, ℕ, ◌+◌, ◌-◌, Bool, true, false, ◌&&◌, if◌then◌else◌, List, [], ◌∷◌, length, Option, Some, None, All}
use Rattle.zq_base.specs.declared.options.EngineOpts.{EngineOpts}
use Rattle.spec_pattern.specs.Topics.{Topic}
use Rattle.spec_zmtp.specs.Put.{IsSendable}
use Rattle.spec_link.specs.declared.row.LinkEnd.{LinkEnd}
use Rattle.spec_link.specs.LinkAct.{LinkAct, offered_of}
use Rattle.spec_link.specs.Rows.{ClosedLink, AddUp, AreHeard, ArePut, IsWritten, IsLost, AreLinkRuns, count_of, acts_at, last_of}
use Rattle.spec_link.specs.Turn.{subscribes, topics_taken}
use Rattle.spec_link.specs.OneByOne.{TakesOneByOne}
use Rattle.zq_session.specs.Noting.{taken_before, taken_now}
use Rattle.zq_session.specs.declared.tally.Tally.{Tally}

-- ---- the numbers that a tally tells

-- the links; over those that are over the messages heard, put, written and lost, and why the last one ended; and the messages taken at the link that stands
pub record Totals : Type 0 where
  pub links : ℕ
  pub heard : ℕ
  pub put : ℕ
  pub written : ℕ
  pub lost : ℕ
  pub last : Option LinkEnd
  pub taken : ℕ

abbrev pub no_totals : Totals
no_totals = record { links = 0; heard = 0; put = 0; written = 0; lost = 0; last = None; taken = 0 }

-- so many messages were taken: those before the last one, which are settled, and that one
abbrev pub AreTaken : (flying : Bool) → (settled taken : ℕ) → Type 0
AreTaken true settled taken = (before : ℕ) × (taken ≡ before + 1) × (settled ≡ count_of before)
AreTaken false settled taken = (taken ≡ 0) × (settled ≡ 0)

-- a tally tells these numbers
pub record IsTallyOf (x : Totals) (t : Tally) : Type 0 where
  pub links_is : t.links ≡ count_of x.links
  pub heard_is : t.heard ≡ count_of x.heard
  pub put_is : t.put ≡ count_of x.put
  pub written_is : t.written ≡ count_of x.written
  pub lost_is : t.lost ≡ count_of x.lost
  pub last_is : t.last ≡ x.last
  pub taken_is : AreTaken t.flying t.settled x.taken

-- a link is given, or so many messages are taken
abbrev pub with_link : Totals → Totals
with_link x = record x { links = x.links + 1; taken = 0 }

abbrev pub with_takes : ℕ → Totals → Totals
with_takes n x = record x { taken = x.taken + n }

-- of so many messages taken at a link all are written, or, where something is left to be said, all but the last one, which is lost where the link ends
abbrev pub written_by : (left : Bool) → ℕ → ℕ
written_by true n = n - 1
written_by false n = n

abbrev pub lost_by : (left : Bool) → ℕ → ℕ
lost_by true n = n - (n - 1)
lost_by false n = 0

-- a link is over at which so many messages were heard and put
abbrev pub with_end : (heard put : ℕ) (left : Bool) (why : LinkEnd) → Totals → Totals
with_end heard put left why x = record {
  links = x.links;
  heard = x.heard + heard;
  put = x.put + put;
  written = x.written + written_by left x.taken;
  lost = x.lost + lost_by left x.taken;
  last = Some why;
  taken = 0;
}

-- the same tally behind each of these, whatever it tells
abbrev pub TalliesNext : (Totals → Totals) → Tally → Tally → Type 0
TalliesNext next old new = (x : Totals) → IsTallyOf x old → IsTallyOf (next x) new

-- ---- what a session's links add up to

-- all messages that were offered at these links may be sent
abbrev pub AreSendable : List (List LinkAct) → Type 0
AreSendable [] = Unit {0}
AreSendable (acts ∷ links) = All IsSendable (offered_of acts) × AreSendable links

-- the topics that are due at a link
abbrev pub due_at : (dials : Bool) → EngineOpts → List ClosedLink → List Topic
due_at dials opts closed = if dials && subscribes opts.kind then topics_taken (taken_before closed) else []

-- at the link that stands messages are taken one by one
abbrev pub AreOneByOne : EngineOpts → (due : List Topic) → Option (List LinkAct) → Type 0
AreOneByOne opts due None = Unit {0}
AreOneByOne opts due (Some acts) = TakesOneByOne opts due acts

-- these links, of which those that are over are link runs, add up to these numbers; written and lost are counted of messages that may be sent
pub record AreTotals (dials : Bool) (opts : EngineOpts) (link : Option (List LinkAct)) (closed : List ClosedLink) (x : Totals) : Type 0 where
  pub runs : AreLinkRuns opts (acts_at closed None)
  pub links_are : x.links ≡ length (acts_at closed link)
  pub heard_is : AddUp AreHeard opts (acts_at closed None) x.heard
  pub put_is : AddUp ArePut opts (acts_at closed None) x.put
  pub written_is : AreSendable (acts_at closed None) → AddUp (IsWritten opts) opts (acts_at closed None) x.written
  pub lost_is : AreSendable (acts_at closed None) → AddUp (IsLost opts) opts (acts_at closed None) x.lost
  pub last_is : x.last ≡ last_of closed
  pub taken_is : x.taken ≡ length (taken_now link)
  pub one_by_one : AreOneByOne opts (due_at dials opts closed) link

-- a tally is of these links
abbrev pub HasTally : (dials : Bool) → EngineOpts → Option (List LinkAct) → List ClosedLink → Tally → Type 0
HasTally dials opts link closed t = (x : Totals) × AreTotals dials opts link closed x × IsTallyOf x t
