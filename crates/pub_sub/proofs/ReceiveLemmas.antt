-- An XPUB gives what waits first, or hears before that.
use Rattle.std.proofs.Common.{◌≡◌, ◌∙◌, ℕ, Bool, List, [], ◌∷◌, Option, Some, None, MatchOption, refl, sym, ap, subst, length}
use Rattle.std.specs.Prelude.{nat_le, if◌then◌else◌, Ok, Err}
use Rattle.std.specs.Map.{keys_of}
use Rattle.zq_base.specs.Message.{Frames}
use Rattle.zq_base.specs.declared.ids.PairId.{PairId}
use Rattle.spec_pattern.specs.PipeStep.{PipeStep}
use Rattle.spec_pattern.specs.TurnList.{End}
use Rattle.spec_pattern.specs.Publishing.{Hears, most_heard, GivesFirst, XPubReceives, XPubReceivesWhere}
use Rattle.spec_pattern.specs.Results.{MatchRecv, RecvResult}
use Rattle.spec_pattern.specs.declared.answers.RecvAnswer.{RecvAnswer}
use Rattle.spec_pattern.specs.declared.answers.RecvAnswer.TheVariants as got
use Rattle.spec_pattern.specs.declared.answers.RecvRefusal.TheVariants.{Again, Busy}
use Rattle.spec_pattern.specs.declared.answers.RecvFault.TheVariants as recv
use Rattle.pub_sub.specs.Notes.{notice}
use Rattle.pub_sub.specs.Places.{AreApart}
use Rattle.pub_sub.specs.Publishers.{PubState, publisher_at, meant}
use Rattle.pub_sub.specs.Hearing.{refusal_of, HearsThrough, HearsAll, HearsSome, XPubGives, XPubStops, in_hearing, in_giving}
use Rattle.pub_sub.proofs.HearLemmas.{meant-none, kept-meant, keys_of-meant, HearsPeers-after, StopsHearing-after}

-- what was taken out from before a user, and that nothing was
pub given_some : (p q : PubState) (found : Option (PairId × Frames)) (n : PairId × Frames) → found ≡ Some n
    → MatchOption found ((p.inbox ≡ []) × (q ≡ p)) (λ n. (p.inbox ≡ notice n.0 n.1 ∷ q.inbox) × (q ≡ record p { inbox = q.inbox }))
    → (p.inbox ≡ notice n.0 n.1 ∷ q.inbox) × (q ≡ record p { inbox = q.inbox })
given_some p q found n is given =
    subst (λ o. MatchOption o ((p.inbox ≡ []) × (q ≡ p)) (λ n. (p.inbox ≡ notice n.0 n.1 ∷ q.inbox) × (q ≡ record p { inbox = q.inbox }))) is given

pub given_none : (p q : PubState) (found : Option (PairId × Frames)) → found ≡ None
    → MatchOption found ((p.inbox ≡ []) × (q ≡ p)) (λ n. (p.inbox ≡ notice n.0 n.1 ∷ q.inbox) × (q ≡ record p { inbox = q.inbox }))
    → (p.inbox ≡ []) × (q ≡ p)
given_none p q found is given =
    subst (λ o. MatchOption o ((p.inbox ≡ []) × (q ≡ p)) (λ n. (p.inbox ≡ notice n.0 n.1 ∷ q.inbox) × (q ≡ record p { inbox = q.inbox }))) is given

module _ {S : Type 0} (runs : S → List PipeStep → S → Type 0) (ends : ℕ → End) where
  -- something waits
  pub XPubGives-first : (s : S) (p mid q : PubState) (pair : PairId) (m : Frames) → runs s [] s → mid ≡ meant ends p → mid.inbox ≡ notice pair m ∷ q.inbox
      → q ≡ record mid { inbox = q.inbox } → XPubGives runs ends s s p (got.Got pair m) q
  XPubGives-first s p mid q pair m none is waits q_is = record {
    steps = [];
    runs_are = none;
    kept_is = ap (λ (x : PubState). x.kept) q_is ∙ ap (λ (x : PubState). x.kept) is ∙ kept-meant ends p;
    gives = λ apart.
        subst (λ (x : PubState). XPubReceives (publisher_at ends x) [] (got.Got pair m) (publisher_at ends q)) is
        (subst (λ l. XPubReceivesWhere l (publisher_at ends mid) [] (got.Got pair m) (publisher_at ends q)) (sym waits)
        (refl, (refl, ap (publisher_at ends) q_is)));
  }

  module _ (old new : S) (p mid q : PubState) (most : Bool) where
    -- nothing waited, and it heard
    heard_then : (answer : RecvAnswer) → p.kept ≡ None → p.inbox ≡ [] → HearsAll runs ends old new p most mid → q.kept ≡ None
        → ((count : ℕ) → nat_le most_heard count ≡ most → GivesFirst count (publisher_at ends mid) mid.inbox answer (publisher_at ends q))
        → XPubGives runs ends old new p answer q
    heard_then answer none nothing h kept gives = record {
      steps = h.steps;
      runs_are = h.runs_are;
      kept_is = kept;
      gives = λ apart.
          subst (λ (x : PubState). XPubReceives (publisher_at ends x) h.steps answer (publisher_at ends q)) (sym (meant-none ends p none))
          (subst (λ l. XPubReceivesWhere l (publisher_at ends p) h.steps answer (publisher_at ends q)) (sym nothing)
          (h.rounds, publisher_at ends mid, h.hears apart, gives (length h.rounds) h.counted));
    }

    -- something waits then
    pub XPubGives-heard : (pair : PairId) (m : Frames) → p.kept ≡ None → p.inbox ≡ [] → HearsAll runs ends old new p most mid → mid.inbox ≡ notice pair m ∷ q.inbox
        → q ≡ record mid { inbox = q.inbox } → XPubGives runs ends old new p (got.Got pair m) q
    XPubGives-heard pair m none nothing h waits q_is =
        heard_then (got.Got pair m) none nothing h (ap (λ (x : PubState). x.kept) q_is ∙ h.kept_is)
        (λ count counted. subst (λ l. GivesFirst count (publisher_at ends mid) l (got.Got pair m) (publisher_at ends q)) (sym waits) (refl, ap (publisher_at ends) q_is))

    -- nothing waits then
    pub XPubGives-nothing : p.kept ≡ None → p.inbox ≡ [] → HearsAll runs ends old new p most mid → mid.inbox ≡ [] → q ≡ mid
        → XPubGives runs ends old new p (got.Refused (refusal_of most)) q
    XPubGives-nothing none nothing h empty q_is =
        heard_then (got.Refused (refusal_of most)) none nothing h (ap (λ (x : PubState). x.kept) q_is ∙ h.kept_is)
        (λ count counted. subst (λ l. GivesFirst count (publisher_at ends mid) l (got.Refused (refusal_of most)) (publisher_at ends q)) (sym empty)
        (ap (λ b. got.Refused (if b then Busy else Again)) (sym counted), ap (publisher_at ends) q_is))

    -- memory wants behind a hearing
    pub XPubStops-giving : p.kept ≡ None → HearsAll runs ends old new p most mid → q ≡ mid → XPubStops runs ends old new p q
    XPubStops-giving none h q_is = in_giving (HearsPeers-after runs ends old new p p q most (sym (meant-none ends p none)) (subst (HearsAll runs ends old new p most) (sym q_is) h))

  module _ (old new : S) (p mid q : PubState) where
    -- memory wants in a hearing
    pub XPubStops-hearing : p.kept ≡ None → HearsSome runs ends old new p q → XPubStops runs ends old new p q
    XPubStops-hearing none h = in_hearing (StopsHearing-after runs ends old new p p q (sym (meant-none ends p none)) h)

    same_meant : mid ≡ meant ends p → meant ends mid ≡ meant ends p
    same_meant is = meant-none ends mid (ap (λ (x : PubState). x.kept) is ∙ kept-meant ends p) ∙ is

    same_peers : mid ≡ meant ends p → keys_of mid.subs ≡ keys_of p.subs
    same_peers is = ap (λ (x : PubState). keys_of x.subs) is ∙ keys_of-meant ends p

    -- behind what was kept
    pub XPubGives-after : (answer : RecvAnswer) → mid ≡ meant ends p → XPubGives runs ends old new mid answer q → XPubGives runs ends old new p answer q
    XPubGives-after answer is h = record {
      steps = h.steps;
      runs_are = h.runs_are;
      kept_is = h.kept_is;
      gives = λ apart.
          subst (λ (x : PubState). XPubReceives (publisher_at ends x) h.steps answer (publisher_at ends q)) (same_meant is)
          (h.gives (subst (AreApart ends) (sym (same_peers is)) apart));
    }

    pub XPubStops-after : mid ≡ meant ends p → XPubStops runs ends old new mid q → XPubStops runs ends old new p q
    XPubStops-after is (in_hearing h) = in_hearing (record {
      rounds = h.rounds;
      steps = h.steps;
      runs_are = h.runs_are;
      hears = λ apart.
          subst (λ (x : PubState). HearsThrough 0 (publisher_at ends x) h.rounds h.steps (publisher_at ends (meant ends q))) (same_meant is)
          (h.hears (subst (AreApart ends) (sym (same_peers is)) apart));
    })
    XPubStops-after is (in_giving h) = in_giving (record {
      steps = h.steps;
      runs_are = h.runs_are;
      kept_is = h.kept_is;
      hears = λ apart.
          subst (λ (x : PubState). Hears (publisher_at ends x) h.steps (publisher_at ends q)) (same_meant is)
          (h.hears (subst (AreApart ends) (sym (same_peers is)) apart));
    })

    -- the receive that follows what was kept
    pub receive-after : (result : RecvResult) → mid ≡ meant ends p → MatchRecv result (XPubStops runs ends old new mid q) (λ answer. XPubGives runs ends old new mid answer q)
        → MatchRecv result (XPubStops runs ends old new p q) (λ answer. XPubGives runs ends old new p answer q)
    receive-after (Ok item) is h = XPubGives-after (got.Got item.0 item.1) is h
    receive-after (Err (recv.Refused refusal)) is h = XPubGives-after (got.Refused refusal) is h
    receive-after (Err recv.OutOfMemory) is h = XPubStops-after is h
