use Rattle.std.specs.Prelude.{refl}
use Rattle.plain_desk.proofs.looks.sight_of.Goals as goal

pub returns-clause-seen : goal.returns-clause-seen
returns-clause-seen g c = record { empty = c.requires.empty; root = c.root.ensures; live = c.live.ensures; room = c.room.ensures }

pub returns-clause-by : goal.returns-clause-by
returns-clause-by g c = refl

pub returns-clause-looked_at : goal.returns-clause-looked_at
returns-clause-looked_at g c = refl
