use Rattle.std.proofs.Common.{◌≡◌}
use Rattle.shared_pipe.specs.Halves.{name_of_in}
use Rattle.zq_tests_threads.proofs.two_threads.read_all.Given as goal

abbrev pub invariant-numbers : goal.invariant-numbers
invariant-numbers g l = name_of_in l.input ≡ name_of_in l.initial.input
