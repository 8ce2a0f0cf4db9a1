use Rattle.req_rep.proofs.PartnersLemmas.{IsReq-added}
use Rattle.req_rep.proofs.req.Req.attach.Goals as goal

pub invariant_of-self : goal.invariant_of-self
invariant_of-self c =
    IsReq-added c.add.result c.args.place c.self.inside.turns c.add.new.self c.self.inside.asked c.add.ensures.ok c.add.ensures.err c.self.invariant
