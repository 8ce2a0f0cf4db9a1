use Rattle.std.proofs.Common.{sym, subst}
use Rattle.plain_desk.specs.Lent.{moments_of}
use Rattle.zq_tests_leaves.specs.Asking.{IsOpenAs}
use Rattle.zq_tests_leaves.proofs.AskerLemmas.{its_held, its_marks, its_may, its_own, its_sockets}
use Rattle.zq_tests_leaves.proofs.LaterLemmas.{none_still, same_caller}
use Rattle.zq_tests_leaves.proofs.asker.Asker.request.Goals as goal

pub ask-requires-clause-may : goal.ask-requires-clause-may
ask-requires-clause-may g c =
    let a = c.self.inside in
    its_may g.C.Joins.kind c.args.number.0 a.desk.caller (moments_of a.desk) a.socket.core (subst (IsOpenAs c.args.number.0) (sym c.self.view_is) c.requires.there) c.self.invariant.1 c.args.request c.requires.its

pub ask-requires-clause-options : goal.ask-requires-clause-options
ask-requires-clause-options g c = its_marks c.args.number.0 c.args.request c.requires.its

pub ask-requires-clause-sockets : goal.ask-requires-clause-sockets
ask-requires-clause-sockets g c = its_sockets c.args.number.0 c.args.request c.requires.its

pub ask-requires-clause-asks : goal.ask-requires-clause-asks
ask-requires-clause-asks g c = its_own g.C.Joins.kind c.args.number.0 c.self.inside.socket.core (subst (IsOpenAs c.args.number.0) (sym c.self.view_is) c.requires.there) c.args.request c.requires.its

pub ask-requires-clause-held : goal.ask-requires-clause-held
ask-requires-clause-held g c = its_held g.C.Joins.kind c.args.number.0 c.self.inside.socket.core (subst (IsOpenAs c.args.number.0) (sym c.self.view_is) c.requires.there)

pub invariant_of-self : goal.invariant_of-self
invariant_of-self g c =
    let a = c.self.inside in
    let before = c.self.invariant in
    let grows = c.ask.ensures.grows in (
      c.ask.ensures.fits,
      c.ask.ensures.keeps.1.has,
      same_caller a.caller a.desk c.ask.new.desk grows before.2,
      none_still a.caller a.desk c.ask.new.desk grows before.2 before.3,
    )
