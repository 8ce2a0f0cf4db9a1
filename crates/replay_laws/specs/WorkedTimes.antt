-- How many turns worked runs need, by hand (own choice).
use Rattle.std.specs.Prelude.{◌≡◌, ◌≤◌, ◌<◌, true}
use Rattle.spec_control.specs.ControlExamples.{Stories}
use Rattle.spec_run.specs.OwnedRun.{control_at_end}
use Rattle.spec_run.specs.ClosingExample.{closing_script, closing_run, closing_journal}
use Rattle.spec_run.specs.ShortExample.{short_schedule}
use Rattle.spec_run.specs.TermExample.{term_script, term_run, term_schedule, term_journal}
use Rattle.replay_laws.specs.LocalScript.{is_local_script}
use Rattle.replay_laws.specs.DoneInTime.{turns_needed, turns_shown}

module _ (stories : Stories) where
  pub record TimesAreSo : Type 0 where
    -- two tries, a socket, two objects and no pair: 2 + 1 + 10 * 2 + 10
    pub closing_local : is_local_script closing_script ≡ true
    pub closing : turns_needed closing_script (control_at_end 1 (closing_run stories)) ≡ 33
    -- ten tries, two sockets, three objects and a pair: 10 + 2 + 10 * 3 + 8 + 10
    pub term_local : is_local_script term_script ≡ true
    pub term : turns_needed term_script (control_at_end 1 (term_run stories)) ≡ 60
    -- by the journals, whose pairs show two pipes each: 2 + 1 + 10 * 2 + 10, and 10 + 2 + 10 * 3 + 4 * 2 + 10
    pub closing_shown : turns_shown closing_script closing_journal ≡ 33
    pub term_shown : turns_shown term_script term_journal ≡ 60
    -- so the worked run may take as many, and the one that is unfinished may not
    pub term_in_time : turns_needed term_script (control_at_end 1 (term_run stories)) ≤ term_schedule.turns
    pub short_cut : short_schedule.turns < turns_needed closing_script (control_at_end 1 (closing_run stories))

-- whatever stories the holders tell
abbrev pub WorkedRunsHaveTheirTimes : Type 0
WorkedRunsHaveTheirTimes = (stories : Stories) → TimesAreSo stories
