use Rattle.std.proofs.Common.{◌≡◌, length, false}
use Rattle.sub_table.specs.Telling.{IsKnown}
use Rattle.sub_table.proofs.told.Told.settle.Given as goal

-- what differs is still suspected
abbrev pub invariant-suspects : goal.invariant-suspects
invariant-suspects l = record {
  told : l.self.told ≡ l.fn.self.told;
  found : l.self.lost ≡ false;
  known : IsKnown l.wanted l.self;
}

abbrev pub decreases-suspects : goal.decreases-suspects
decreases-suspects l = length l.self.suspects
