use Rattle.std.specs.Prelude.{◌≡◌, All, false, length}
use Rattle.spec_pattern.specs.Pipe.{IsCommittable}
use Rattle.shared_pipe.specs.Halves.{writing_of, name_of_out}
use Rattle.shared_pipe.proofs.BatchLemmas.{LaysSome}
use Rattle.shared_pipe.proofs.shared_out.SharedOut.lay_rest.Given as goal

-- some are committed, and the others are left
abbrev pub invariant-messages : goal.invariant-messages
invariant-messages l = record {
  lays : LaysSome (writing_of l.fn.self) l.fn.messages.items l.count l.messages.items (writing_of l.self);
  open_ : (writing_of l.self).sealed ≡ false;
  whole : All IsCommittable l.messages.items;
  same : name_of_out l.self ≡ name_of_out l.fn.self;
}

abbrev pub decreases-messages : goal.decreases-messages
decreases-messages l = length l.messages.items
