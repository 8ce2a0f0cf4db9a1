-- What happened to a session and is not kept as it was, and what became due of it (own choice).
use Rattle.std.specs.Prelude.{ℕ, Bool, true, false, List, Option, Contains}
use Rattle.zq_base.specs.declared.options.EngineOpts.{EngineOpts}
use Rattle.zq_base.specs.declared.options.Peer.{Peer}
use Rattle.spec_control.specs.declared.end.Reason.TheVariants.{Linger, Link}
use Rattle.spec_control.specs.declared.request.Req.TheVariants.{Shaken, AskEnd, AskOver, OutputOver}
use Rattle.spec_link.specs.declared.due.Due.{Due}
use Rattle.spec_link.specs.declared.due.Due.TheVariants.{Request, Delimiter}
use Rattle.spec_link.specs.LinkAct.{LinkAct}
use Rattle.spec_link.specs.Rows.{ClosedLink}
use Rattle.spec_link.specs.History.{Basis, Standing}
use Rattle.zq_session.specs.declared.life.Asked.{Asked}
use Rattle.zq_session.specs.declared.life.Life.{Life}

-- what happened and isn't kept as it was: the options and the interval, the acts at the link and at those that are over, the moment from which a dial is due, all that became due, and all of it that was handed to the plane
pub record Story : Type 0 where
  pub opts : EngineOpts
  pub interval : ℕ
  pub link : Option (List LinkAct)
  pub closed : List ClosedLink
  pub dial_at : ℕ
  pub dues : List Due
  pub handed : List Due

abbrev pub basis_of : Life → Story → Basis
basis_of l p = record { object = l.object; end = l.end; opts = p.opts; dials = l.dials; interval = p.interval; linger = l.linger }

abbrev pub standing_of : Life → Story → Standing
standing_of l p = record { link = p.link; closed = p.closed; dial_at = p.dial_at; told = l.told; state = l.state; waits = l.waits; gave_up = l.gave_up; dues = p.dues; handed = p.handed }

-- a flag tells whether this is so
abbrev pub Tells : Bool → Type 0 → Type 0
Tells true X = X
Tells false X = X → ⊥

-- each flag tells whether that became due
pub record AreDue (l : Life) (asked : Asked) (dues : List Due) : Type 0 where
  pub linger : Tells asked.linger (Contains dues (Request (AskEnd l.end Linger)))
  pub link : Tells asked.link (Contains dues (Request (AskEnd l.end Link)))
  pub over : Tells asked.over (Contains dues (Request (AskOver l.object)))
  pub output : Tells asked.output (Contains dues (Request (OutputOver l.object)))
  pub delimiter : Tells asked.delimiter (Contains dues (Delimiter l.end))
  pub shaken : Tells asked.shaken ((peer : Peer) × Contains dues (Request (Shaken l.object peer)))
