-- What a session counts as its links come and go, whatever happened before (own choice).
use Rattle.std.specs.Prelude.{◌≡◌, ℕ, ◌+◌, Bool, true, false, List, [], ◌∷◌, ◌++◌, length, Option, Some, None}
use Rattle.zq_base.specs.declared.options.EngineOpts.{EngineOpts}
use Rattle.spec_zmtp.specs.DecodedStream.{Decoded}
use Rattle.spec_link.specs.declared.row.LinkEnd.{LinkEnd}
use Rattle.spec_link.specs.declared.row.SessionRow.{SessionRow}
use Rattle.spec_link.specs.LinkAct.{LinkAct, put_of}
use Rattle.spec_link.specs.LinkRun.{IsLinkRun}
use Rattle.spec_link.specs.Parts.{SomethingToWrite, NothingToWrite}
use Rattle.spec_link.specs.Rows.{ClosedLink, count_of}
use Rattle.link_side.specs.Kept.{Kept, Side, IsKeptOf}
use Rattle.zq_session.specs.declared.life.Life.{Life}
use Rattle.zq_session.specs.declared.tally.Tally.{Tally}
use Rattle.zq_session.specs.Tallies.{Totals, HasTally}

-- what a side of a link at rest tells of it: that it is a link run, and so many messages heard and put
pub record CountsAt (opts : EngineOpts) (acts : List LinkAct) (heard put : ℕ) : Type 0 where
  pub meant : Decoded
  pub run : IsLinkRun opts acts meant
  pub heard_is : heard ≡ count_of (length meant.messages)
  pub put_is : put ≡ count_of (length (put_of acts))

-- whether something is left to be said at it
pub record IsLeftAt (opts : EngineOpts) (acts : List LinkAct) (left : Bool) : Type 0 where
  pub some : left ≡ true → SomethingToWrite opts acts
  pub none : left ≡ false → NothingToWrite opts acts

-- the link whose side keeps this is over
abbrev pub TallyEnds : Life → Kept → LinkEnd → Tally → Tally → Type 0
TallyEnds l k why old new = (dials : Bool) (opts : EngineOpts) (acts : List LinkAct) (closed : List ClosedLink) → opts.kind ≡ l.kind → IsKeptOf opts acts k →
    HasTally dials opts (Some acts) closed old → HasTally dials opts None (closed ++ record { acts = acts; why = why } ∷ []) new

-- the link is over that has this side, if any
abbrev pub CountsEnd : Life → Option Side → LinkEnd → Tally → Tally → Type 0
CountsEnd l side why old new = (sd : Side) → side ≡ Some sd → TallyEnds l sd.kept why old new

-- a row tells these numbers, with those of the link that stands
pub record IsRowOf (x : Totals) (heard put : ℕ) (row : SessionRow) : Type 0 where
  pub links_is : row.links ≡ count_of x.links
  pub heard_is : row.heard ≡ count_of (x.heard + heard)
  pub put_is : row.put ≡ count_of (x.put + put)
  pub last_is : row.last ≡ x.last
