use Rattle.std.proofs.Common.{List, subst}
use Rattle.spec_link.specs.History.{Basis, SessionEvent, Standing, standing}
use Rattle.spec_link.specs.Rows.{AreFates, acts_at}
use Rattle.zq_session.specs.Courses.{IsAtEase}
use Rattle.zq_session.specs.Sessions.{SessionState, HasLived}
use Rattle.zq_session.specs.Tallies.{AreSendable}
use Rattle.zq_session.proofs.RowLemmas.{lived_as}
use Rattle.zq_session.proofs.session.Session.carried.Goals as goal

pub returns : goal.returns
returns g c =
    let v = c.self.inside in
    let w = c.carried.result.written in
    let l = c.carried.result.lost in
    record {
      fates = subst (λ (x : SessionState _ _). IsAtEase x.course → (b : Basis) (history : List SessionEvent) → HasLived b history x → AreSendable (acts_at (standing b history).closed (standing b history).link)
          → AreFates b.opts (standing b history).closed (standing b history).link (standing b history).gave_up w l) c.self.view_is
          (λ ease. lived_as (λ (b : Basis) (s : Standing). AreSendable (acts_at s.closed s.link) → AreFates b.opts s.closed s.link s.gave_up w l) v.course v.given v.input v.out (c.carried.ensures ease));
    }
