-- Which ends join a holder in an event, and of which objects it is behind it (own choice, after libzmq's `socket_base_t`).
use Rattle.std.specs.Prelude.{◌≡◌, ◌⊎◌, ◌++◌, ◌&&◌, ℕ, Bool, true, false, not, List, [], Option, None, flat_map}
use Rattle.zq_base.specs.declared.kind.Kind.{Kind}
use Rattle.spec_control.specs.declared.letter.Word.{Word}
use Rattle.spec_control.specs.declared.letter.Word.TheVariants.{Own, Plug, TermReq, Term, TermAck, PipeBind, PipeTerm, PipeTermAck, Stop, Reap}
use Rattle.spec_control.specs.declared.entry.Joining.{Joining}
use Rattle.spec_control.specs.declared.entry.Did.{Did}
use Rattle.spec_control.specs.declared.entry.Did.TheVariants.{Asked, Delivered, Delimited}
use Rattle.spec_control.specs.Stage.{has_ended}
use Rattle.spec_control.specs.Row.{Row, is_socket}
use Rattle.spec_control.specs.Rows.{obj}
use Rattle.spec_control.specs.Control.{Control}
use Rattle.spec_control.specs.ControlRun.{is_between}
use Rattle.desk.specs.Holding.{Holding, JoinsBy}

module _ {N : Type 0} where
  -- of the ends that a command tells, those that join: what a Reap brings had joined its socket before
  abbrev pub come_by : Word → List (Joining N) → List (Joining N)
  come_by (Own child) js = js
  come_by (Plug end) js = js
  come_by (TermReq child) js = js
  come_by Term js = js
  come_by (TermAck child) js = js
  come_by (PipeBind e peer) js = js
  come_by (PipeTerm e) js = js
  come_by (PipeTermAck e) js = js
  come_by Stop js = js
  come_by (Reap socket) js = []

  module _ {S : Type 0} where
    -- the ends that join in an event
    abbrev pub came_in : Did N S → List (Joining N)
    came_in (Asked req reply h) = h.joined
    came_in (Delivered slot letter h) = come_by letter.word h.joined
    came_in (Delimited e h) = h.joined

    -- the ends that join in the events more are those that joined their holder, each with its answer
    abbrev pub JoinsIn : (before now : List (Did N S)) → (old new : Holding N) → Type 0
    JoinsIn before now old new = (more : List (Did N S)) → now ≡ before ++ more → JoinsBy (flat_map came_in more) old new

-- a listener or session came with its Plug
abbrev pub is_plugged_between : (was now : Row) → Bool
is_plugged_between was now = not (is_socket was.kind) && (not was.plugged && now.plugged)

-- an object did not end, did not come with its Plug, and did not go to the reaper or come to it
pub record StaysHad (was now : Row) : Type 0 where
  pub ended : has_ended now.stage ≡ true → has_ended was.stage ≡ true
  pub plug : is_plugged_between was now ≡ false
  pub way : is_between now ≡ is_between was

-- a closed socket came with its Reap, and has no kind that ends join
pub record IsReaped (was now : Row) (kind : Option Kind) : Type 0 where
  pub between : is_between was ≡ true
  pub taken : is_between now ≡ false
  pub none : kind ≡ None

-- a listener or session came with its Plug, and has no kind that ends join
pub record IsTakenIn (was now : Row) (kind : Option Kind) : Type 0 where
  pub came : is_plugged_between was now ≡ true
  pub none : kind ≡ None

-- such objects are held as before, with their kinds; what is held was held before, with its kind, or came with its Reap or its Plug
pub record KeepsObjects {N : Type 0} (before now : Control) (old new : Holding N) : Type 0 where
  pub holds : (i : ℕ) → StaysHad (obj before.rows i) (obj now.rows i) → new.holds i ≡ old.holds i
  pub kinds : (i : ℕ) → StaysHad (obj before.rows i) (obj now.rows i) → new.kind i ≡ old.kind i
  pub had : (i : ℕ) → new.holds i ≡ true → ((old.holds i ≡ true) × (new.kind i ≡ old.kind i)) ⊎ (IsReaped (obj before.rows i) (obj now.rows i) (new.kind i) ⊎ IsTakenIn (obj before.rows i) (obj now.rows i) (new.kind i))
  -- what came with its Reap and lives is held
  pub reaped : (i : ℕ) → is_between (obj before.rows i) ≡ true → is_between (obj now.rows i) ≡ false → has_ended (obj now.rows i).stage ≡ false → new.holds i ≡ true
  -- and so is what came with its Plug
  pub taken_in : (i : ℕ) → is_plugged_between (obj before.rows i) (obj now.rows i) ≡ true → new.holds i ≡ true
