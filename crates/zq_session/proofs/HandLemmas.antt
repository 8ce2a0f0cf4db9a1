-- What a session hands to the plane, and the output that it has left.
use Rattle.std.proofs.Common.{◌≡◌, true, false, List, [], ◌∷◌, ◌++◌, Option, Some, None, sym, ap, subst, ◌∙◌}
use Rattle.std.specs.Prelude.{Contains, IfSome, IfNone}
use Rattle.zq_base.specs.declared.options.Peer.{Peer}
use Rattle.spec_control.specs.declared.request.Req.TheVariants.{Shaken}
use Rattle.spec_link.specs.declared.due.Due.{Due}
use Rattle.spec_link.specs.declared.due.Due.TheVariants.{Request}
use Rattle.spec_link.specs.LinkAct.{LinkAct}
use Rattle.spec_link.specs.History.{Basis, SessionEvent, Handed, Standing, standing}
use Rattle.spec_link.specs.Handing.{MayHand, IsAllHanded, HasOutputLeft}
use Rattle.zq_session.specs.declared.life.Asked.{Asked}
use Rattle.zq_session.specs.declared.course.Course.{Course}
use Rattle.link_side.specs.Kept.{Side}
use Rattle.link_side.specs.Silent.{HasOutput, HasNone}
use Rattle.zq_session.specs.Lives.{Story, AreDue, basis_of, standing_of}
use Rattle.zq_session.specs.Courses.{IsOfLink, HasStory}
use Rattle.zq_session.specs.Sessions.{SessionState, HasLived}
use Rattle.zq_session.specs.Dues.{Hands, IsAllGiven}
use Rattle.zq_session.specs.Handings.{HandsShaken}
use Rattle.link_side.specs.Says.{IsFree}
use Rattle.zq_session.proofs.LifeLemmas.{due_shaken}
use Rattle.zq_session.proofs.DueLemmas.{tells_false}
use Rattle.zq_session.proofs.UnlinkedLemmas.{link_gone}
use Rattle.zq_session.proofs.UnputLemmas.{output_of}
use Rattle.zq_session.proofs.CourseLemmas.{link_some}
use Rattle.zq_session.proofs.BeginLemmas.{gone_written}
use Rattle.zq_session.proofs.SessionLemmas.{the_state, hands_one, all_handed}

the_peer : (x y : Peer) → Some x ≡ Some y → x ≡ y
the_peer x y e = cc

true_false : {X : Type 0} → true ≡ false → X
true_false e = absurd cc

pub hands_shaken : {O I : Type 0} (c d : Course) (g g' : Asked) (i : Option I) (o : Option O) (due : Due) → HandsShaken c d g g' due
    → (b : Basis) (history : List SessionEvent) → HasLived b history (the_state c g i o) → MayHand (standing b history) due × HasLived b (history ++ Handed due ∷ []) (the_state d g' i o)
hands_shaken c d g g' i o due k = hands_one c d g g' i o due k.life_is k.side_is k.dialler_is k.topics_is k.tally_is (λ p keeps h.
    let x = Request (Shaken c.life.object k.peer) in
    let was = h.peer k.asked k.once in
    let same : was.0 ≡ k.peer = the_peer was.0 k.peer (sym was.1 ∙ k.was) in
    let never = tells_false g.shaken ((q : Peer) × Contains p.handed (Request (Shaken c.life.object q))) k.once h.given_is.shaken in (
      (
        subst (λ (y : Due). Contains p.dues y) (sym k.due_is) (subst (λ (q : Peer). Contains p.dues (Request (Shaken c.life.object q))) same was.2),
        λ c2. never (k.peer, subst (λ (y : Due). Contains p.handed y) k.due_is c2),
      ),
      (
        subst (λ (y : Due). AreDue c.life g' (p.handed ++ y ∷ [])) (sym k.due_is) (subst (λ (a : Asked). AreDue c.life a (p.handed ++ x ∷ [])) (sym k.given_is) (due_shaken c.life g p.handed h.given_is k.peer)),
        λ asked once. true_false (sym (ap (λ (a : Asked). a.shaken) k.given_is) ∙ once),
      ),
    ))

pub hands_out : {O I : Type 0} (c d : Course) (g m g' : Asked) (i : Option I) (o : Option O) (due : Due) → d ≡ c → m ≡ g → Hands d.life m g' due → g'.shaken ≡ m.shaken
    → (b : Basis) (history : List SessionEvent) → HasLived b history (the_state c g i o) → MayHand (standing b history) due × HasLived b (history ++ Handed due ∷ []) (the_state d g' i o)
hands_out c d g m g' i o due ed em hands shaken =
    let hands2 : Hands c.life g g' due = subst (λ (x : Course). Hands x.life g g' due) ed (subst (λ (a : Asked). Hands d.life a g' due) em hands) in
    hands_one c d g g' i o due (ap (λ (x : Course). x.life) ed) (ap (λ (x : Course). x.side) ed) (ap (λ (x : Course). x.dialler) ed) (ap (λ (x : Course). x.topics) ed) (ap (λ (x : Course). x.tally) ed) (λ p keeps h.
    let k = hands2 p.dues p.handed keeps.due h.given_is in
    ((k.0, k.1), (k.2, λ asked once. (sym (shaken ∙ ap (λ (a : Asked). a.shaken) em) ∙ once, ap (λ (x : Course). x.peer) ed))))

pub if_some_on : {T : Type 0} (o : Option T) (P Q : T → Type 0) → ((x : T) → P x → Q x) → IfSome o P → IfSome o Q
if_some_on None P Q f k = tt
if_some_on (Some x) P Q f k = f x k

pub if_none_on : {T : Type 0} (o : Option T) (P Q : Type 0) → (P → Q) → IfNone o P → IfNone o Q
if_none_on None P Q f k = f k
if_none_on (Some x) P Q f k = tt

-- nothing is handed out
pub hands_none : {O I : Type 0} (c d : Course) (g m g' : Asked) (i : Option I) (o : Option O) (x : SessionState O I) → the_state c g i o ≡ x → d ≡ c → m ≡ g → (c.life.asked.shaken ≡ true → g.shaken ≡ false → c.peer ≡ None)
    → (g' ≡ m) × IsAllGiven d.life.asked m → (the_state d g' i o ≡ x) × ((b : Basis) (history : List SessionEvent) → HasLived b history x → IsAllHanded b (standing b history))
hands_none c d g m g' i o x view ed em none k =
    let all : IsAllGiven c.life.asked g = subst (λ (y : Course). IsAllGiven y.life.asked g) ed (subst (λ (a : Asked). IsAllGiven d.life.asked a) em k.1) in (
      ap (λ (y : Course). the_state y g' i o) ed ∙ ap (λ (a : Asked). the_state c a i o) (k.0 ∙ em) ∙ view,
      subst (λ (y : SessionState _ _). (b : Basis) (history : List SessionEvent) → HasLived b history y → IsAllHanded b (standing b history)) view (all_handed c g i o all none),
    )

-- ---- output

-- that it is left, or isn't, by a history
pub left_lived : {O I : Type 0} (c : Course) (g : Asked) (i : Option I) (o : Option O) → ((p : Story) → HasStory c p → HasOutputLeft (basis_of c.life p) (standing_of c.life p))
    → (b : Basis) (history : List SessionEvent) → HasLived b history (the_state c g i o) → HasOutputLeft b (standing b history)
left_lived c g i o f b history lived =
    let p = lived.0 in
    subst (λ (s : Standing). HasOutputLeft b s) (sym lived.2) (subst (λ (x : Basis). HasOutputLeft x (standing_of c.life p)) lived.1 (f p lived.3))

pub not_left_lived : {O I : Type 0} (c : Course) (g : Asked) (i : Option I) (o : Option O) → ((p : Story) → HasStory c p → HasOutputLeft (basis_of c.life p) (standing_of c.life p) → ⊥)
    → (b : Basis) (history : List SessionEvent) → HasLived b history (the_state c g i o) → HasOutputLeft b (standing b history) → ⊥
not_left_lived c g i o f b history lived left =
    let p = lived.0 in
    f p lived.3 (subst (λ (x : Basis). HasOutputLeft x (standing_of c.life p)) (sym lived.1) (subst (λ (s : Standing). HasOutputLeft b s) lived.2 left))

pub left_up : (b : Basis) (s : Standing) → s.gave_up ≡ true → HasOutputLeft b s → ⊥
left_up b s up k = true_false (sym up ∙ k.up)

some_none : (o : Option (List LinkAct)) (acts : List LinkAct) → o ≡ Some acts → o ≡ None → ⊥
some_none o acts e d = absurd cc

pub left_unlinked : (b : Basis) (s : Standing) (side : Option Side) → side ≡ None → IsOfLink b.opts s.link side → HasOutputLeft b s → ⊥
left_unlinked b s side e k left = some_none s.link left.acts left.link (link_gone b.opts s.link side e k)

pub left_written : (b : Basis) (s : Standing) (side : Option Side) (sd : Side) → side ≡ Some sd → IsFree sd.behind → HasNone sd.kept → IsOfLink b.opts s.link side → HasOutputLeft b s → ⊥
left_written b s side sd e free none k left = gone_written s.link b.opts side sd e free none k left.acts left.link left.some

pub left_some : (b : Basis) (s : Standing) (side : Option Side) (sd : Side) → side ≡ Some sd → IsFree sd.behind → HasOutput sd.kept → s.gave_up ≡ false → (b.linger ≡ Some 0 → ⊥) → IsOfLink b.opts s.link side → HasOutputLeft b s
left_some b s side sd e free some up lingers k =
    let l = link_some b.opts s.link side sd e free k in
    record { up = up; lingers = lingers; acts = l.0; link = l.1; some = output_of b.opts l.0 sd.kept l.2 some }
