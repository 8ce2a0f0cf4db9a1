use Rattle.std.proofs.Common.{◌≡◌, false}
use Rattle.spec_pattern.specs.Pipe.{IsCommittable}
use Rattle.shared_pipe.specs.Halves.{writing_of, name_of_out}
use Rattle.zq_tests_threads.proofs.waiting.put_or_wait.Given as goal

abbrev pub invariant-full : goal.invariant-full
invariant-full g l = record {
  open_ : (writing_of l.out).sealed ≡ false;
  whole : IsCommittable l.message;
  same : name_of_out l.out ≡ name_of_out l.initial.out;
}
