use Rattle.req_rep.proofs.PartnersLemmas.{IsRep-detached}
use Rattle.req_rep.proofs.rep.Rep.detach.Goals as goal

pub invariant_of-self : goal.invariant_of-self
invariant_of-self c =
    IsRep-detached c.args.place c.self.inside.ins c.remove.new.self c.self.inside.owed c.without-self-inside.result c.self.inside.envelope.frames.items
    c.remove.ensures c.without-self-inside.ensures c.self.invariant
