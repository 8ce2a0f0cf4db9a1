use Rattle.std.proofs.Common.{refl, inr}
use Rattle.zq_tests_links.proofs.CallLemmas.{waiting_at}
use Rattle.zq_tests_links.proofs.looks.meets_at.Goals as goal

pub look-requires-clause-reads : goal.look-requires-clause-reads
look-requires-clause-reads c = inr c.requires.state

pub look-requires-clause-there : goal.look-requires-clause-there
look-requires-clause-there c = waiting_at _ _ c.args.session.now c.requires.state c.requires.input (λ i. refl)
