use Rattle.std.proofs.Common.{subst}
use Rattle.zq_base.specs.declared.endpoint.Endpoint.{Endpoint}
use Rattle.spec_control.specs.declared.request.Req.TheVariants.{Connect}
use Rattle.desk.specs.Making.{MakesSo}
use Rattle.ctl_plane.specs.Past.{control_of}
use Rattle.plain_desk.proofs.one_desk.OneDesk.connect_at.Goals as goal

pub connect-requires-clause-makes : goal.connect-requires-clause-makes
connect-requires-clause-makes g c = subst (λ (e : Endpoint). MakesSo (control_of c.args.self.now.past) (Connect c.args.socket e) g.H.Holder.may_make) c.in-Inproc.is c.requires.makes

pub connect_tcp-requires-clause-makes : goal.connect_tcp-requires-clause-makes
connect_tcp-requires-clause-makes g c = subst (λ (e : Endpoint). MakesSo (control_of c.args.self.now.past) (Connect c.args.socket e) g.H.Holder.may_make) c.in-Tcp.is c.requires.makes
