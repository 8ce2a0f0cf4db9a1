use Rattle.std.proofs.Common.{refl, subst}
use Rattle.desk.specs.declared.delivery.Delivery.{Delivery}
use Rattle.desk.specs.declared.delivery.Delivery.TheVariants.{Done, Empty}
use Rattle.plain_desk.specs.Reaping.{FindsFirst}
use Rattle.reaper.specs.Steps.{reap_parts}
use Rattle.reaper.proofs.steps.reap_once.Goals as goal

pub returns-in-Ok-Done-clause-ok : goal.returns-in-Ok-Done-clause-ok
returns-in-Ok-Done-clause-ok g c =
    let x = c.deliver_first in record {
      found = Done;
      mid = reap_parts x.new.desk x.new.pipes x.new.closed;
      finds = subst (λ (found : Delivery). FindsFirst found c.args.desk.now x.new.desk) c.in-Ok-Done.field-0-is c.in-Ok-Done.ensures.ok;
      delivers = record { counts = x.ensures.counts; given = x.ensures.given; keeps = x.ensures.keeps; changes = x.ensures.changes; stands = c.stands.ensures };
      looks = c.look_behind.ensures;
    }

pub returns-in-Ok-Empty-clause-ok : goal.returns-in-Ok-Empty-clause-ok
returns-in-Ok-Empty-clause-ok g c =
    let x = c.deliver_first in record {
      found = Empty;
      mid = reap_parts x.new.desk x.new.pipes x.new.closed;
      finds = subst (λ (found : Delivery). FindsFirst found c.args.desk.now x.new.desk) c.in-Ok-Empty.field-0-is c.in-Ok-Empty.ensures.ok;
      delivers = record { counts = x.ensures.counts; given = x.ensures.given; keeps = x.ensures.keeps; changes = x.ensures.changes; stands = c.stands-in-Ok-Empty.ensures };
      looks = refl;
    }

pub returns-in-Err-clause-ok : goal.returns-in-Err-clause-ok
returns-in-Err-clause-ok g c = tt
