use Rattle.std.proofs.Common.{rules, ◌++◌, ◌∙◌, List, ℕ, take, ap}
use Rattle.zq_outer.specs.Mates.{heard_at, waiting_at}
use Rattle.zq_outer.proofs.MemLinkLemmas.{came_on}
use Rattle.zq_outer.proofs.mem_link.MemLink.take_waiting.Goals as goal

pub returns-clause-same : goal.returns-clause-same
returns-clause-same c =
    let old = c.args.self.now in
    let looked = c.is_closing-over.ensures.looked in
    let pop = c.pop_partial_slice-count in
    let given : List ℕ = take pop.result pop.new.slice in
    record {
      to = search rules;
      from = search rules;
      calls = search rules;
      most = search rules;
      came = came_on (heard_at old) (waiting_at old) (waiting_at c.is_closing-over.new.self) given _ _ looked.2 (pop.ensures.received.1 ∙ ap (λ (l : List ℕ). l ++ given) looked.1) pop.ensures.known;
    }
