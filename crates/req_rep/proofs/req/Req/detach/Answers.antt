use Rattle.req_rep.proofs.PartnersLemmas.{IsReq-detached}
use Rattle.req_rep.proofs.req.Req.detach.Goals as goal

pub invariant_of-self : goal.invariant_of-self
invariant_of-self c =
    IsReq-detached c.args.place c.self.inside.turns c.remove.new.self c.self.inside.asked c.without-self-inside.result c.remove.ensures c.without-self-inside.ensures c.self.invariant
