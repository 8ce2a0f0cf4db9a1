use Rattle.std.proofs.Common.{◌≡◌, ◌≤◌, take}
use Rattle.std.specs.Str.Parse.{digits_value}
use Rattle.zq_base.proofs.number.number_in.Given as goal

-- the value is that of the digits so far
abbrev pub invariant-loop-digit : goal.invariant-loop-digit
invariant-loop-digit l = record {
  value : l.value ≡ digits_value 10 (take l.digit-index l.word);
  small : l.value ≤ l.most;
}
