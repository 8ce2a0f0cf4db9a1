use Rattle.std.proofs.Common.{List, subst}
use Rattle.spec_link.specs.History.{Basis, SessionEvent, Standing, standing}
use Rattle.spec_link.specs.Rows.{IsSessionRow}
use Rattle.zq_session.specs.Courses.{IsAtEase}
use Rattle.zq_session.specs.Sessions.{SessionState, HasLived}
use Rattle.zq_session.proofs.RowLemmas.{lived_as}
use Rattle.zq_session.proofs.session.Session.row.Goals as goal

pub returns : goal.returns
returns g c =
    let v = c.self.inside in
    record {
      row = subst (λ (x : SessionState _ _). IsAtEase x.course → (b : Basis) (history : List SessionEvent) → HasLived b history x → IsSessionRow b.opts (standing b history).closed (standing b history).link c.row.result) c.self.view_is
          (λ ease. lived_as (λ (b : Basis) (s : Standing). IsSessionRow b.opts s.closed s.link c.row.result) v.course v.given v.input v.out (c.row.ensures ease));
    }
