use Rattle.std.proofs.Common.{◌≡◌}
use Rattle.shared_pipe.specs.Halves.{name_of_in}
use Rattle.zq_tests_threads.proofs.waiting.take_or_wait.Given as goal

abbrev pub invariant-empty : goal.invariant-empty
invariant-empty g l = name_of_in l.input ≡ name_of_in l.initial.input
