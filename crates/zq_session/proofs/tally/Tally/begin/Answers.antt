use Rattle.std.proofs.Common.{refl, ◌∙◌}
use Rattle.zq_session.proofs.SumLemmas.{sum_of, one_counts}
use Rattle.zq_session.proofs.tally.Tally.begin.Goals as goal

pub returns : goal.returns
returns c = λ x k. record {
  links_is = c.saturating_add-self.ensures ∙ sum_of c.args.self.now.links 1 x.links 1 k.links_is one_counts;
  heard_is = k.heard_is;
  put_is = k.put_is;
  written_is = k.written_is;
  lost_is = k.lost_is;
  last_is = k.last_is;
  taken_is = (refl, refl);
}
