-- Where nothing is on its way and nobody waits, and how much may still come until then (own choice).
use Rattle.std.specs.Prelude.{◌≡◌, ◌≢◌, ◌+◌, ℕ, Bool, true, false, cond, [], length, sum_by}
use Rattle.spec_control.specs.declared.end.EndState.TheVariants.{WaitDelimiter}
use Rattle.spec_control.specs.declared.stage.Stage.{Stage}
use Rattle.spec_control.specs.declared.stage.Stage.TheVariants.{Alive, Told, Ending, Finished, Cleared}
use Rattle.spec_control.specs.declared.stage.Use.{Use}
use Rattle.spec_control.specs.declared.stage.Use.TheVariants.{Unused, OnItsWay, Used}
use Rattle.spec_control.specs.declared.request.Reply.{Reply}
use Rattle.spec_control.specs.declared.request.Reply.TheVariants.{Done, Object, Pair, Both, Wait, Asked, Before, Refused}
use Rattle.spec_control.specs.declared.entry.Did.{Did}
use Rattle.spec_control.specs.declared.entry.Did.TheVariants.{Asked as DidAsk, Delivered, Delimited}
use Rattle.spec_control.specs.declared.entry.Item.{Item}
use Rattle.spec_control.specs.declared.entry.Item.TheVariants.{Event, Seen}
use Rattle.spec_control.specs.Place.{At, waiting, to_put, is_unmade}
use Rattle.spec_control.specs.Row.{Row, is_socket, is_session, reads_on}
use Rattle.spec_control.specs.Rows.{Rows, PairRow, obj}
use Rattle.spec_control.specs.Control.{Control, end_of, place_of, owner_of}
use Rattle.spec_control.specs.Reply.{root_asked}
use Rattle.spec_control.specs.Stage.{is_unused, is_ending, was_asked}

-- the root was asked, every socket is closed, each object's mailbox is empty, and no session waits for its output, its delimiter or its linger
pub record IsQuiescent (c : Control) : Type 0 where
  pub asked : root_asked c ≡ true
  pub closed : (i : ℕ) → is_socket (obj c.rows i).kind ≡ true → is_unused (obj c.rows i).request ≡ false
  pub empty : (i : ℕ) → c.boxes (obj c.rows i).slot ≡ []
  pub no_output : (i : ℕ) → is_ending (obj c.rows i).stage ≡ true → c.output_left i ≡ false
  pub no_delimiter : (k : ℕ) (a : Bool) → let e = end_of k a in
      was_asked (obj c.rows (owner_of c e)).stage ≡ true → reads_on (obj c.rows (owner_of c e)) ≡ true → place_of c e ≢ At WaitDelimiter

-- a Term and a TermAck to be processed, and of a session its word that its output is over
abbrev pub stage_tokens : Bool → Stage → ℕ
stage_tokens session Alive = 2 + cond session 1 0
stage_tokens session Told = 2 + cond session 1 0
stage_tokens session Ending = 1 + cond session 1 0
stage_tokens session Finished = 1
stage_tokens session Cleared = 0

-- a request to be made and its command to be processed
abbrev pub use_tokens : Use → ℕ
use_tokens Unused = 2
use_tokens OnItsWay = 1
use_tokens Used = 0

-- a Stop to be processed: once the root was asked no further one is put
abbrev pub stop_tokens : Use → ℕ
stop_tokens Unused = 0
stop_tokens OnItsWay = 1
stop_tokens Used = 0

-- how many commands may still be processed for an object, and how many requests accepted of it, once the root was asked
abbrev pub object_tokens : Row → ℕ
object_tokens o = stage_tokens (is_session o.kind) o.stage
    + (use_tokens o.request + (stop_tokens o.stop + (cond o.noted 0 1 + (cond o.plugged 0 1 + (cond o.asked_link 0 1 + cond o.asked_linger 0 1)))))

-- and for a pair: what is on its way, what its ends may still put, and of a pair that is not made the handshake and the bind
abbrev pub pair_tokens : PairRow → ℕ
pair_tokens p = (length (waiting p.a p.b) + to_put p.b) + ((length (waiting p.b p.a) + to_put p.a) + cond (is_unmade p.a) 2 0)

abbrev pub tokens_left : Rows → ℕ
tokens_left s = sum_by object_tokens s.objects + sum_by pair_tokens s.pairs

-- 1 for a command that is processed and for a request that is accepted
abbrev pub reply_costs : Reply → ℕ
reply_costs Done = 1
reply_costs (Object o) = 1
reply_costs (Pair p) = 1
reply_costs (Both o p) = 1
reply_costs Wait = 1
reply_costs Asked = 1
reply_costs Before = 0
reply_costs (Refused refusal) = 0

abbrev pub costs : {N S : Type 0} → Did N S → ℕ
costs (DidAsk req reply h) = reply_costs reply
costs (Delivered slot letter h) = 1
costs (Delimited e h) = 0

abbrev pub item_costs : {N S : Type 0} → Item N S → ℕ
item_costs (Event entry) = costs entry.did
item_costs (Seen sight) = 0
