use Rattle.std.proofs.Common.{List, subst}
use Rattle.spec_link.specs.History.{Basis, SessionEvent, standing}
use Rattle.spec_link.specs.Handing.{HasOutputLeft}
use Rattle.zq_session.specs.Courses.{IsAtEase}
use Rattle.zq_session.specs.Sessions.{SessionState, HasLived}
use Rattle.zq_session.proofs.HandLemmas.{left_lived, not_left_lived}
use Rattle.zq_session.proofs.session.Session.output_left.Goals as goal

pub returns-clause-yes : goal.returns-clause-yes
returns-clause-yes g c = λ e.
    let v = c.self.inside in
    subst (λ (x : SessionState _ _). IsAtEase x.course → (b : Basis) (history : List SessionEvent) → HasLived b history x → HasOutputLeft b (standing b history)) c.self.view_is
    (λ ease. left_lived v.course v.given v.input v.out (c.output_left.ensures.yes e ease))

pub returns-clause-no : goal.returns-clause-no
returns-clause-no g c = λ e.
    let v = c.self.inside in
    subst (λ (x : SessionState _ _). (b : Basis) (history : List SessionEvent) → HasLived b history x → HasOutputLeft b (standing b history) → ⊥) c.self.view_is
    (not_left_lived v.course v.given v.input v.out (c.output_left.ensures.no e))
