use Rattle.std.proofs.Common.{◌≡◌, false}
use Rattle.shared_pipe.specs.Halves.{writing_of, name_of_out}
use Rattle.zq_tests_threads.proofs.two_threads.write_all.Given as goal

abbrev pub invariant-numbers : goal.invariant-numbers
invariant-numbers g l = record {
  open_ : (writing_of l.out).sealed ≡ false;
  same : name_of_out l.out ≡ name_of_out l.initial.out;
}
