-- The worked runs.
use Rattle.std.specs.Prelude.{◌≡◌, refl, codes}
use Rattle.std.specs.Fmt.{digits}
use Rattle.spec_pattern.specs.Laws.{TakenIsPrefix, LooksHoldWhereExact}
use Rattle.spec_run.specs.WorkedRuns.{row_example, RunTexts, WorkedRunsOfScripts}
use Rattle.spec_run.specs.JournalText.{settled_row_text}
use Rattle.spec_run.proofs.ClosingFacts.{closing, closing_printed}
use Rattle.spec_run.proofs.ShortFacts.{short, short_printed}
use Rattle.spec_run.proofs.LeftFacts.{left_over, left_printed}
use Rattle.spec_run.proofs.EventFacts.{by_events}
use Rattle.spec_run.proofs.ReadFacts.{read_over, read_printed}
use Rattle.spec_run.proofs.TermFacts.{term_over, term_printed}

row_printed : settled_row_text row_example ≡ codes "pipe p12b sent 21 given 1 heard 2 dropped 3 written 4 lost 5 rest 6 closed\n"
unfolding digits
row_printed = refl

texts : RunTexts
texts = record {
  closing = closing_printed;
  short = short_printed;
  left = left_printed;
  read = read_printed;
  term = term_printed;
  row = row_printed;
  done = refl;
  unfinished = refl;
}

pub worked : TakenIsPrefix → LooksHoldWhereExact → WorkedRunsOfScripts
worked taken_prefix looks_hold = record {
  closing = closing taken_prefix looks_hold;
  short = short;
  left = left_over;
  read = read_over taken_prefix;
  term = term_over;
  by_events = by_events;
  texts = texts;
}
