-- What stands is what a run asks of its core.
use Rattle.msg_pipe.specs.Known.{Known}
use Rattle.socket_laws.specs.Standing.{CoresAreOrderly}

pub orderly : {S O I N : Type 0} (K : Known S O I N) (T : Type 0) → CoresAreOrderly K T
orderly K T items pipes pieces run names by small is = record {
  same = is.told;
  control = run;
  named = names;
  asked = by;
  exact = is.past.past_is.exact;
  small = small;
  sided = is.sided;
  settled = is.counted;
}
