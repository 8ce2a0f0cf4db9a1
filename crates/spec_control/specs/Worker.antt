-- What an I/O worker's own items say of its session, by hand from the tables: the session reads on to its delimiter and has output left when it tries to end.
use Rattle.std.specs.Prelude.{◌≡◌, ℕ, true, false, List, [], ◌∷◌, take, length}
use Rattle.spec_control.specs.declared.request.Req.TheVariants.{Close, AskOver, OutputOver}
use Rattle.spec_control.specs.declared.entry.Item.{Item}
use Rattle.spec_control.specs.Control.{begun, id}
use Rattle.spec_control.specs.ControlExamples.{Stories, session_run}
use Rattle.spec_control.specs.Held.{ends_after, items_by}
use Rattle.spec_control.specs.Has.{AreBy}
use Rattle.spec_control.specs.OwnAsks.{unknown, known_after, is_over, MayAskOwn}
use Rattle.spec_control.specs.Trial.{with_callers}

-- caller 0 has the socket, object 1, until it closes it; caller 1 is the worker, and its session is object 2; caller 2 is the reaper, caller 3 the context
abbrev pub session_callers : List ℕ
session_callers = 0 ∷ 0 ∷ 1 ∷ 0 ∷ 0 ∷ 3 ∷ 2 ∷ 2 ∷ 1 ∷ 1 ∷ 1 ∷ 2 ∷ 1 ∷ 1 ∷ 2 ∷ 2 ∷ []

module _ (stories : Stories) where
  abbrev pub session_trial : List (Item ℕ ℕ)
  session_trial = with_callers session_callers (session_run stories)

  -- a caller's own items of so many of the order
  abbrev pub own : (n caller : ℕ) → List (Item ℕ ℕ)
  own n caller = items_by caller (take n session_trial)

  pub record WorkerIsSo : Type 0 where
    pub callers_may : AreBy [] (begun 1) session_trial
    -- the socket is its maker's until it is closed, and the reaper asks nothing for it
    pub open_socket : MayAskOwn (own 2 0) (Close (id 1))
    pub closed : (known_after 1 (own 8 0)).open_socket ≡ false
    pub reaped : (known_after 1 (own 8 2)).open_socket ≡ false
    -- the Plug takes the session in, which may then ask to end
    pub taken_in : known_after 2 (own 3 1) ≡ record unknown { session = true }
    pub may_ask_over : MayAskOwn (own 3 1) (AskOver (id 2))
    -- told, it still has its end, at its delimiter too
    pub told : (known_after 2 (own 11 1)).told ≡ true
    pub has_end : length (ends_after 2 (own 11 1)) ≡ 1
    -- its end is gone, and it waits for its output alone
    pub waits : MayAskOwn (own 13 1) (OutputOver (id 2))
    pub not_over : is_over 2 (own 13 1) ≡ false
    pub over : is_over 2 (own 14 1) ≡ true

-- whatever the holder tells
abbrev pub WorkerComesOut : Type 0
WorkerComesOut = (stories : Stories) → WorkerIsSo stories
