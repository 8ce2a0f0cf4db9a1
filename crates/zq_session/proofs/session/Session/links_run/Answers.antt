use Rattle.std.proofs.Common.{List, None, subst}
use Rattle.spec_link.specs.History.{Basis, SessionEvent, Standing, standing}
use Rattle.spec_link.specs.Rows.{AreLinkRuns, acts_at}
use Rattle.zq_session.specs.Courses.{IsAtEase}
use Rattle.zq_session.specs.Sessions.{SessionState, HasLived}
use Rattle.zq_session.proofs.RowLemmas.{lived_as, story_runs}
use Rattle.zq_session.proofs.session.Session.links_run.Goals as goal

pub returns-clause-over : goal.returns-clause-over
returns-clause-over g c =
    let v = c.self.inside in
    subst (λ (x : SessionState _ _). (b : Basis) (history : List SessionEvent) → HasLived b history x → AreLinkRuns b.opts (acts_at (standing b history).closed None)) c.self.view_is
    (lived_as (λ (b : Basis) (s : Standing). AreLinkRuns b.opts (acts_at s.closed None)) v.course v.given v.input v.out (λ p keeps. keeps.tally.1.runs))

pub returns-clause-all : goal.returns-clause-all
returns-clause-all g c =
    let v = c.self.inside in
    subst (λ (x : SessionState _ _). IsAtEase x.course → (b : Basis) (history : List SessionEvent) → HasLived b history x → AreLinkRuns b.opts (acts_at (standing b history).closed (standing b history).link)) c.self.view_is
    (λ ease. lived_as (λ (b : Basis) (s : Standing). AreLinkRuns b.opts (acts_at s.closed s.link)) v.course v.given v.input v.out (λ p keeps. story_runs v.course p keeps ease (c.rests.ensures ease)))
