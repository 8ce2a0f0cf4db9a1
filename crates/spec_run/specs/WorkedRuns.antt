-- The worked runs: each journal is that of its script, and has its text and status.
use Rattle.std.specs.Prelude.{◌≡◌, ℕ, false, Some, codes}
use Rattle.spec_control.specs.Control.{end_of}
use Rattle.spec_control.specs.ControlExamples.{Stories}
use Rattle.spec_control.specs.declared.end.Reason.TheVariants.{Closed}
use Rattle.spec_run.specs.CoreEvents.{IsEventsJournal}
use Rattle.spec_run.specs.EventsExample.{closing_events}
use Rattle.spec_run.specs.Journal.{IsRunJournal, status_of_run}
use Rattle.spec_run.specs.declared.journal.SettledRow.{SettledRow}
use Rattle.spec_run.specs.JournalText.{journal_text, settled_row_text}
use Rattle.spec_run.specs.ClosingExample.{closing_script, closing_schedule, closing_journal, closing_text}
use Rattle.spec_run.specs.ShortExample.{short_schedule, cut_journal, short_text}
use Rattle.spec_run.specs.LeftExample.{left_script, left_schedule, left_journal, left_text}
use Rattle.spec_run.specs.ReadExample.{read_script, read_schedule, read_journal, read_text}
use Rattle.spec_run.specs.TermExample.{term_script, term_schedule, term_journal, term_text}

-- a row whose counts differ
abbrev pub row_example : SettledRow
row_example = record {
  counts = record { pipe = end_of 12 false; sent = 21; given = 1; heard = 2; dropped = 3; written = 4; lost = 5; rest = 6 };
  reason = Some Closed;
}

-- the texts, and the status of a run that is done and of one that is not
pub record RunTexts : Type 0 where
  pub closing : journal_text closing_journal ≡ closing_text
  pub short : journal_text cut_journal ≡ short_text
  pub left : journal_text left_journal ≡ left_text
  pub read : journal_text read_journal ≡ read_text
  pub term : journal_text term_journal ≡ term_text
  pub row : settled_row_text row_example ≡ codes "pipe p12b sent 21 given 1 heard 2 dropped 3 written 4 lost 5 rest 6 closed\n"
  pub done : status_of_run closing_journal ≡ 0
  pub unfinished : status_of_run cut_journal ≡ 8

-- whatever stories the holders tell
pub record WorkedRunsOfScripts : Type 0 where
  -- a socket is made and closed, and by one turn alone
  pub closing : Stories → IsRunJournal ℕ ℕ closing_script closing_schedule closing_journal
  pub short : Stories → IsRunJournal ℕ ℕ closing_script short_schedule cut_journal
  -- two sockets are closed with messages left, and both ends are asked at once
  pub left : Stories → IsRunJournal ℕ ℕ left_script left_schedule left_journal
  -- a socket is closed, and the other reads on to the delimiter
  pub read : Stories → IsRunJournal ℕ ℕ read_script read_schedule read_journal
  -- a pair is made for a socket that is told to end, and the context is asked to end with a message left
  pub term : Stories → IsRunJournal ℕ ℕ term_script term_schedule term_journal
  -- a socket is made and closed by events, of which some are not allowed: with the journal of the run in turns
  pub by_events : Stories → IsEventsJournal ℕ ℕ closing_script closing_events closing_journal
  pub texts : RunTexts
