use Rattle.std.proofs.Common.{ap, arith}
use Rattle.link_side.specs.Dials.{DiallerState}
use Rattle.link_side.proofs.dialler.Dialler.dial.Goals as goal

pub ask-requires-clause-moment : goal.ask-requires-clause-moment
ask-requires-clause-moment g c =
    let at = λ (d : DiallerState). d.dial_at in
    omega (arith, c.if-now-self.false, ap at c.next_side.ensures.keeps, ap at c.self.view_is)
