-- XPUB: a receive has one outcome, what waits first or what it heard.
use Rattle.std.proofs.Common.{◌≡◌, ◌∙◌, ℕ, List, [], ◌∷◌, length, sym, subst}
use Rattle.zq_base.specs.Ends.{PipeId}
use Rattle.spec_pattern.specs.PipeStep.{PipeStep}
use Rattle.spec_pattern.specs.Publishing.{Publisher, Notice, GivesFirst, XPubReceivesWhere, XPubReceives}
use Rattle.spec_pattern.specs.declared.answers.RecvAnswer.{RecvAnswer}
use Rattle.spec_pattern.proofs.StepLemmas.{IsSettled}
use Rattle.spec_pattern.proofs.PublishLemmas.{Heard, hears_settled}

-- what comes of a receive: the answer, and the publisher after
abbrev pub GivesBy : (List PipeStep → RecvAnswer → Publisher → Type 0) → List PipeStep → RecvAnswer × Publisher → Type 0
GivesBy Step steps o = Step steps o.0 o.1

-- what waits first is one
gives_one : (count : ℕ) (p : Publisher) (ns : List Notice) (a b : RecvAnswer) (new new2 : Publisher) → GivesFirst count p ns a new → GivesFirst count p ns b new2
    → ◌≡◌ {A = RecvAnswer × Publisher} (a, new) (b, new2)
gives_one count p [] a b new new2 g h =
    let answer = g.0 ∙ sym h.0 in
    let same = g.1 ∙ sym h.1 in
    λ i. (answer i, same i)
gives_one count p (n ∷ ns) a b new new2 g h =
    let answer = g.0 ∙ sym h.0 in
    let same = g.1 ∙ sym h.1 in
    λ i. (answer i, same i)

module _ (c d : PipeId → ℕ) where
  gives_settled : (ns : List Notice) (p : Publisher) → IsSettled c d (GivesBy (XPubReceivesWhere ns p))
  gives_settled [] p past xs ys (a, new) (b, new2) (rs, mid, hears, gives) (rs2, mid2, hears2, gives2) x y =
      let one = hears_settled c d rs rs2 0 p past xs ys mid mid2 hears hears2 x y in
      let there = subst (λ (o : Heard). GivesFirst (length o.rounds) o.new o.new.inbox b new2) (sym one.same_end) gives2 in
      record { same_steps = one.same_steps; same_end = gives_one (length rs) mid mid.inbox a b new new2 gives there }
  gives_settled (n ∷ ns) p past xs ys (a, new) (b, new2) g h x y =
      record { same_steps = g.0 ∙ sym h.0; same_end = gives_one 0 p (n ∷ ns) a b new new2 g.1 h.1 }

  pub xpub_recv_settled : (p : Publisher) → IsSettled c d (GivesBy (XPubReceives p))
  xpub_recv_settled p past xs ys a b g h x y = gives_settled p.inbox p past xs ys a b g h x y
