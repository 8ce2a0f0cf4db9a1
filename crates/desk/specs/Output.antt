-- Whether a session that tries to end has output left to write, by what its holder said of it before the event (own choice, after libzmq's `session_base_t`).
use Rattle.std.specs.Prelude.{◌≡◌, ◌++◌, ◌∷◌, ◌&&◌, [], ℕ, Bool, false, List}
use Rattle.spec_control.specs.declared.letter.Word.{Word}
use Rattle.spec_control.specs.declared.letter.Word.TheVariants.{Own, Plug, TermReq, Term, TermAck, PipeBind, PipeTerm, PipeTermAck, Stop, Reap}
use Rattle.spec_control.specs.declared.entry.Did.{Did}
use Rattle.spec_control.specs.declared.entry.Did.TheVariants.{Asked, Delivered, Delimited}
use Rattle.spec_control.specs.Row.{is_session}
use Rattle.spec_control.specs.Rows.{obj}
use Rattle.spec_control.specs.Control.{Control}
use Rattle.desk.specs.Holding.{Holding}

module _ {N : Type 0} where
  -- a session has output left
  abbrev pub has_left : Control → (at : ℕ) → Holding N → Bool
  has_left c at h = is_session (obj c.rows at).kind && h.output_left at

  -- a session tries to end at its Term, and where its end is acknowledged
  abbrev pub left_by : Control → (at : ℕ) → Word → Holding N → Bool
  left_by c at (Own child) h = false
  left_by c at (Plug end) h = false
  left_by c at (TermReq child) h = false
  left_by c at Term h = has_left c at h
  left_by c at (TermAck child) h = false
  left_by c at (PipeBind e peer) h = false
  left_by c at (PipeTerm e) h = false
  left_by c at (PipeTermAck e) h = has_left c at h
  left_by c at Stop h = false
  left_by c at (Reap socket) h = false

  module _ {S : Type 0} where
    -- an event tells it as the holder had it
    abbrev pub LeavesIn : Control → Holding N → Did N S → Type 0
    LeavesIn c h (Asked req reply a) = a.output_left ≡ false
    LeavesIn c h (Delivered slot letter a) = a.output_left ≡ left_by c letter.to.0 letter.word h
    LeavesIn c h (Delimited e a) = a.output_left ≡ false

    -- and so does the event that is one more, where there is one
    abbrev pub LeavesOnce : Control → (before now : List (Did N S)) → Holding N → Type 0
    LeavesOnce c before now h = (did : Did N S) → now ≡ before ++ did ∷ [] → LeavesIn c h did
