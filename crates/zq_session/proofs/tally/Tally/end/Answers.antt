use Rattle.std.proofs.Common.{refl, ◌∙◌}
use Rattle.zq_session.specs.declared.tally.Tally.{Tally}
use Rattle.zq_session.specs.Tallies.{written_by, lost_by}
use Rattle.zq_session.proofs.SumLemmas.{sum_of}
use Rattle.zq_session.proofs.tally.Tally.end.Goals as goal

pub returns : goal.returns
returns c = λ h p eh ep x k.
    let t : Tally = c.args.self.now in
    record {
      links_is = k.links_is;
      heard_is = c.saturating_add-self-3.ensures ∙ sum_of t.heard c.args.heard x.heard h k.heard_is eh;
      put_is = c.saturating_add-self-4.ensures ∙ sum_of t.put c.args.put x.put p k.put_is ep;
      written_is = c.saturating_add-self.ensures ∙ sum_of t.written c.landed-landed.result x.written (written_by c.args.left x.taken) k.written_is (c.landed-landed.ensures x k);
      lost_is = c.saturating_add-self-2.ensures ∙ sum_of t.lost c.adrift-adrift.result x.lost (lost_by c.args.left x.taken) k.lost_is (c.adrift-adrift.ensures x k);
      last_is = refl;
      taken_is = (refl, refl);
    }
