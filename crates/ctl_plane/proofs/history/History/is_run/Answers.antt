use Rattle.std.specs.Prelude.{[]}
use Rattle.std.proofs.Common.{subst}
use Rattle.spec_control.specs.Names.{AreNamed}
use Rattle.desk.specs.declared.given.Given.{Given}
use Rattle.ctl_plane.specs.Past.{Past, IsPast, items_of}
use Rattle.ctl_plane.proofs.history.History.is_run.Goals as goal

pub returns-clause-run : goal.returns-clause-run
returns-clause-run g c = subst (λ (p : Past (Given g.row.P-Name.Denot g.row.P-Out.Denot g.row.P-In.Denot) g.row.P-Name.Denot g.row.P-Story.Denot). IsPast p) c.self.view_is c.self.invariant.history.run

pub returns-clause-named : goal.returns-clause-named
returns-clause-named g c = subst (λ (p : Past (Given g.row.P-Name.Denot g.row.P-Out.Denot g.row.P-In.Denot) g.row.P-Name.Denot g.row.P-Story.Denot). AreNamed [] (items_of p)) c.self.view_is c.self.invariant.named
