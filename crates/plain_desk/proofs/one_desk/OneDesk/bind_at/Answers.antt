use Rattle.std.proofs.Common.{subst}
use Rattle.zq_base.specs.declared.endpoint.Endpoint.{Endpoint}
use Rattle.spec_control.specs.declared.request.Req.TheVariants.{Bind}
use Rattle.desk.specs.Making.{MakesSo}
use Rattle.ctl_plane.specs.Past.{control_of}
use Rattle.plain_desk.proofs.one_desk.OneDesk.bind_at.Goals as goal

pub bind-requires-clause-makes : goal.bind-requires-clause-makes
bind-requires-clause-makes g c = subst (λ (e : Endpoint). MakesSo (control_of c.args.self.now.past) (Bind c.args.socket e) g.H.Holder.may_make) c.in-Inproc.is c.requires.makes

pub returns-in-Tcp-clause-keeps : goal.returns-in-Tcp-clause-keeps
returns-in-Tcp-clause-keeps g c = c.bind_tcp.ensures.keeps (g.H.Holder.holding c.args.holder.now) c.requires.has
