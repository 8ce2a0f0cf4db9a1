use Rattle.std.proofs.Common.{List, [], ◌∷◌, ◌++◌, subst}
use Rattle.spec_link.specs.History.{Basis, SessionEvent, Handed, standing}
use Rattle.spec_link.specs.Handing.{MayHand}
use Rattle.zq_session.specs.Sessions.{SessionState, HasLived}
use Rattle.zq_session.proofs.SessionLemmas.{the_state}
use Rattle.zq_session.proofs.HandLemmas.{hands_shaken, hands_out, hands_none, if_some_on, if_none_on}
use Rattle.zq_session.proofs.session.Session.due.Goals as goal

pub returns-in-Some-clause-some : goal.returns-in-Some-clause-some
returns-in-Some-clause-some g c =
    let v = c.self.inside in
    let h = c.hand_shaken.new in
    subst (λ (x : SessionState _ _). (b : Basis) (history : List SessionEvent) → HasLived b history x → MayHand (standing b history) c.in-Some.due × HasLived b (history ++ Handed c.in-Some.due ∷ []) (the_state h.course h.given v.input v.out)) c.self.view_is
    (hands_shaken v.course h.course v.given h.given v.input v.out c.in-Some.due c.in-Some.ensures.some)

pub returns-clause-some : goal.returns-clause-some
returns-clause-some g c =
    let v = c.self.inside in
    let h = c.hand_shaken.new in
    let n = c.in-None.ensures.none in
    if_some_on c.hand_out.result _ _ (λ due hands. subst (λ (x : SessionState _ _). (b : Basis) (history : List SessionEvent) → HasLived b history x → MayHand (standing b history) due × HasLived b (history ++ Handed due ∷ []) (the_state h.course c.hand_out.new.given v.input v.out)) c.self.view_is
    (hands_out v.course h.course v.given h.given c.hand_out.new.given v.input v.out due n.0 n.1.0 hands c.hand_out.ensures.shaken)) c.hand_out.ensures.some

pub returns-clause-none : goal.returns-clause-none
returns-clause-none g c =
    let v = c.self.inside in
    let h = c.hand_shaken.new in
    let n = c.in-None.ensures.none in
    if_none_on c.hand_out.result _ _ (λ k. hands_none v.course h.course v.given h.given c.hand_out.new.given v.input v.out c.args.self.now c.self.view_is n.0 n.1.0 n.1.1 k) c.hand_out.ensures.none
