use Rattle.std.proofs.Common.{rules}
use Rattle.shared_pipe.proofs.shared_pipes.SharedPipesPipes.story_in.Goals as goal

pub returns : goal.returns
returns c = search rules
