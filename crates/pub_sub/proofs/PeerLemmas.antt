-- A peer that comes or goes, by place and by end.
use Rattle.std.proofs.Common.{◌≡◌, ◌∙◌, ℕ, Bool, true, false, not, cond, ◌++◌, List, [], ◌∷◌, filter, map, nat_eq, refl, sym, ap, subst}
use Rattle.std.proofs.lemmas.List.{map-append}
use Rattle.std.specs.Cmp.{nat_eq_equiv}
use Rattle.std.specs.Map.{keys_of}
use Rattle.std.specs.Prelude.{if◌then◌else◌, Result, Ok, Err, OnOk}
use Rattle.std.specs.declared.alloc.AllocError.{AllocError}
use Rattle.zq_base.specs.declared.ids.PairId.{PairId}
use Rattle.spec_pattern.specs.PipeStep.{same_pipe}
use Rattle.spec_pattern.specs.TurnList.{End}
use Rattle.spec_pattern.specs.Topics.{Topic, Subscribers, topics_gone, without_peer}
use Rattle.spec_pattern.specs.Publishing.{cancel_of, with_subscriber, without_subscriber}
use Rattle.msg_pipe.specs.Turns.{without_place}
use Rattle.pub_sub.specs.Notes.{notice, cancel}
use Rattle.pub_sub.specs.Places.{subs_at, is_place, AreApart}
use Rattle.pub_sub.specs.Known.{AreKnown}
use Rattle.pub_sub.specs.Publishers.{PubState, publisher_at, with_subscriber_at, without_subscriber_at, without_and_told, Attaches, Detaches}
use Rattle.pub_sub.proofs.PlaceLemmas.{here, later, filter-alike, filter-ends, topics_of-subs_at, others_have-subs_at}

-- a peer comes
pub with-at : (ends : ℕ → End) (place : ℕ) (p : PubState) → publisher_at ends (with_subscriber_at place p) ≡ with_subscriber (ends place) (publisher_at ends p)
with-at ends place p = λ j. record {
  ins = map-append ends p.ins (place ∷ []) j;
  subs = map-append (λ (s : ℕ × List Topic). (ends s.0, s.1)) p.subs ((place, []) ∷ []) j;
  inbox = p.inbox;
  verbose = p.verbose;
  tells = p.tells;
}

-- its row goes
pub without-subs_at : (ends : ℕ → End) (p : ℕ) (subs : Subscribers ℕ) → ((k : ℕ) → is_place (keys_of subs) k ≡ true → same_pipe (ends p) (ends k) ≡ nat_eq p k)
    → without_peer same_pipe (ends p) (subs_at ends subs) ≡ subs_at ends (without_peer nat_eq p subs)
without-subs_at ends p [] apart = refl
without-subs_at ends p (s ∷ subs) apart =
    ap (λ b. cond b (subs_at ends subs) ((ends s.0, s.1) ∷ without_peer same_pipe (ends p) (subs_at ends subs))) (apart s.0 (here s.0 (keys_of subs)))
    ∙ by (nat_eq p s.0) (without-subs_at ends p subs (λ k there. apart k (later s.0 k (keys_of subs) there)))
  where
    by : (b : Bool) → without_peer same_pipe (ends p) (subs_at ends subs) ≡ subs_at ends (without_peer nat_eq p subs)
        → cond b (subs_at ends subs) ((ends s.0, s.1) ∷ without_peer same_pipe (ends p) (subs_at ends subs)) ≡ subs_at ends (cond b subs (s ∷ without_peer nat_eq p subs))
    by true rest = refl
    by false rest = ap (λ l. (ends s.0, s.1) ∷ l) rest

-- its turn goes
pub without-ins : (ends : ℕ → End) (p : ℕ) (ins : List ℕ) → ((k : ℕ) → is_place ins k ≡ true → same_pipe (ends p) (ends k) ≡ nat_eq p k)
    → filter (λ x. not (same_pipe (ends p) x)) (map ends ins) ≡ map ends (without_place p ins)
without-ins ends p ins apart =
    filter-ends ends (λ x. not (same_pipe (ends p) x)) ins
    ∙ ap (map ends) (filter-alike (λ k. not (same_pipe (ends p) (ends k))) (λ k. not (nat_eq k p)) ins (λ k there. ap (λ b. not b) (apart k there ∙ nat_eq_equiv.symm p k)))

-- the topics that go with it
gone-subs_at : (ends : ℕ → End) (p : ℕ) (subs : Subscribers ℕ) → AreApart ends (keys_of subs) → is_place (keys_of subs) p ≡ true
    → topics_gone same_pipe (subs_at ends subs) (ends p) ≡ topics_gone nat_eq subs p
gone-subs_at ends p subs apart there = λ j. filter (λ t. not (others_have-subs_at ends p t subs apart there j)) (topics_of-subs_at ends p subs apart there j)

-- a peer goes, and there is no user
pub without-at : (ends : ℕ → End) (place : ℕ) (p : PubState) → AreKnown p → p.tells ≡ false → AreApart ends (keys_of p.subs) → is_place (keys_of p.subs) place ≡ true
    → publisher_at ends (without_subscriber_at place p) ≡ without_subscriber (ends place) (publisher_at ends p)
without-at ends place p known silent apart there = λ j. record {
  ins = sym (without-ins ends place p.ins (λ k in_. apart place k there (known.ins k in_))) j;
  subs = sym (without-subs_at ends place p.subs (λ k in_. apart place k there in_)) j;
  inbox = ap (λ b. if b then p.inbox ++ map (cancel_of (ends place)) (topics_gone same_pipe (subs_at ends p.subs) (ends place)) else p.inbox) (sym silent) j;
  verbose = p.verbose;
  tells = p.tells;
}

-- a peer goes, and the user is told
pub without_and_told-at : (ends : ℕ → End) (pair : PairId) (place : ℕ) (p : PubState) → AreKnown p → p.tells ≡ true → AreApart ends (keys_of p.subs) → is_place (keys_of p.subs) place ≡ true
    → (ends place).pair ≡ pair → publisher_at ends (without_and_told pair place p) ≡ without_subscriber (ends place) (publisher_at ends p)
without_and_told-at ends pair place p known tells apart there is = λ j. record {
  ins = sym (without-ins ends place p.ins (λ k in_. apart place k there (known.ins k in_))) j;
  subs = sym (without-subs_at ends place p.subs (λ k in_. apart place k there in_)) j;
  inbox =
      ((λ i. p.inbox ++ map (λ t. notice (sym is i) (cancel t)) (sym (gone-subs_at ends place p.subs apart there) i))
      ∙ ap (λ b. if b then p.inbox ++ map (cancel_of (ends place)) (topics_gone same_pipe (subs_at ends p.subs) (ends place)) else p.inbox) (sym tells)) j;
  verbose = p.verbose;
  tells = p.tells;
}

-- what is so of a state in which nobody is told is what is defined
pub Detaches-silent : (place : ℕ) (v p q : PubState) → v ≡ p → AreKnown v → v.tells ≡ false → q ≡ without_subscriber_at place v → (ends : ℕ → End) → Detaches ends place p q
Detaches-silent place v p q is known silent gone ends =
    subst (λ x. Detaches ends place x q) is (λ apart there. ap (publisher_at ends) gone ∙ without-at ends place v known silent apart there)

-- and where the user is told
pub Detaches-told : (pair : PairId) (place : ℕ) (v p q : PubState) → v ≡ p → AreKnown v → v.tells ≡ true → q ≡ without_and_told pair place v
    → (ends : ℕ → End) → (ends place).pair ≡ pair → Detaches ends place p q
Detaches-told pair place v p q is known tells gone ends pair_is =
    subst (λ x. Detaches ends place x q) is (λ apart there. ap (publisher_at ends) gone ∙ without_and_told-at ends pair place v known tells apart there pair_is)

pub Attaches-ok : (r : Result (Unit {0}) AllocError) (place : ℕ) (v p q : PubState) → v ≡ p → OnOk r (q ≡ with_subscriber_at place v) → OnOk r ((ends : ℕ → End) → Attaches ends place p q)
Attaches-ok (Ok x) place v p q same is = λ ends. subst (λ x. Attaches ends place x q) same (ap (publisher_at ends) is ∙ with-at ends place v)
Attaches-ok (Err e) place v p q same is = tt
