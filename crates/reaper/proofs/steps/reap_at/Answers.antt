use Rattle.reaper.specs.Steps.{reap_parts}
use Rattle.reaper.proofs.steps.reap_at.Goals as goal

pub returns-in-Ok-clause-ok : goal.returns-in-Ok-clause-ok
returns-in-Ok-clause-ok g c =
    let x = c.deliver_at in record {
      mid = reap_parts x.new.desk x.new.pipes x.new.closed;
      hears = record { mine = c.requires.waits.mine; hears = c.in-Ok.ensures.ok };
      delivers = record { counts = x.ensures.counts; given = x.ensures.given; keeps = x.ensures.keeps; changes = x.ensures.changes; stands = c.stands.ensures };
      looks = c.look_behind.ensures;
    }

pub returns-in-Err-clause-ok : goal.returns-in-Err-clause-ok
returns-in-Err-clause-ok g c = tt
