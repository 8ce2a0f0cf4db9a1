use Rattle.std.proofs.Common.{◌≡◌}
use Rattle.shared_pipe.specs.Halves.{name_of_in}
use Rattle.zq_tests_threads.proofs.two_threads.read_to_the_end.Given as goal

abbrev pub invariant-messages : goal.invariant-messages
invariant-messages g l = name_of_in l.input ≡ name_of_in l.initial.input
