use Rattle.zq_session.specs.declared.tally.Tally.{Tally}
use Rattle.zq_session.proofs.SumLemmas.{took_more, took_first}
use Rattle.zq_session.proofs.tally.Tally.take.Goals as goal

pub returns-then-flying : goal.returns-then-flying
returns-then-flying c = λ x k.
    let t : Tally = c.args.self.now in
    record {
      links_is = k.links_is;
      heard_is = k.heard_is;
      put_is = k.put_is;
      written_is = k.written_is;
      lost_is = k.lost_is;
      last_is = k.last_is;
      taken_is = took_more t.flying t.settled c.saturating_add-self.result x.taken c.if-flying.true c.saturating_add-self.ensures k.taken_is;
    }

pub returns : goal.returns
returns c = λ x k.
    let t : Tally = c.args.self.now in
    record {
      links_is = k.links_is;
      heard_is = k.heard_is;
      put_is = k.put_is;
      written_is = k.written_is;
      lost_is = k.lost_is;
      last_is = k.last_is;
      taken_is = took_first t.flying t.settled x.taken c.if-flying.false k.taken_is;
    }
