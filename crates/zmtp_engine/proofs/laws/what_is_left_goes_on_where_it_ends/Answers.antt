use Rattle.zmtp_engine.proofs.Calls.{has_left}
use Rattle.zmtp_engine.proofs.laws.what_is_left_goes_on_where_it_ends.Goals as goal

pub returns : goal.returns
returns c = λ p x d f is. has_left p x d f is
