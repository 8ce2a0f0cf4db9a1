-- Hearing goes on by one message, and ends.
use Rattle.std.proofs.Common.{◌≡◌, ◌∙◌, ℕ, suc, ◌<◌, ◌||◌, Bool, true, false, List, [], ◌∷◌, ◌++◌, map, nat_eq, Option, Some, None, refl, sym, ap, subst, append_assoc, add-one, cond, ◌+◌, ◌≤◌, length, arith, le-leb}
use Rattle.std.proofs.lemmas.Bool.{lt-leb}
use Rattle.std.proofs.lemmas.List.{append-nil, map-append}
use Rattle.std.proofs.lemmas.Map.{keys-set_value}
use Rattle.std.specs.Prelude.{nat_le}
use Rattle.std.specs.Map.{keys_of, set_value}
use Rattle.zq_base.specs.Message.{Frames}
use Rattle.spec_pattern.specs.PipeStep.{PipeStep}
use Rattle.spec_pattern.specs.TurnList.{End, NoneHasMessage}
use Rattle.spec_pattern.specs.Drops.{Round, Comes}
use Rattle.spec_pattern.specs.Topics.{Subscribers, topics_of, is_among, with_topic, without_topic, max_topics}
use Rattle.spec_pattern.specs.Publishing.{Saying, Adds, Cancels, Other, Publisher, saying_of, heard, stops_hearing, EndsHearing, HearsFrom}
use Rattle.fair_queue.specs.FairQueue.{ServesNext, FindsNone}
use Rattle.pub_sub.specs.Places.{subs_at, is_place, AreApart}
use Rattle.pub_sub.specs.Publishers.{PubState, KeepsPeers, publisher_at, subs_after_at, obeyed, resumed, meant}
use Rattle.pub_sub.specs.Hearing.{HearsThrough, round_at, count_after, HearsOne, KeepsOne, HearsNone, HearsAll, HearsSome, HearsPeers, StopsHearing, IsHearing}
use Rattle.pub_sub.proofs.PlaceLemmas.{subs_after-subs_at, inbox_after-subs_at}

-- one more
pub count_after-more : (count : ℕ) (rs : List Round) (r : Round) → count_after count (rs ++ r ∷ []) ≡ suc (count_after count rs)
count_after-more count [] r = refl
count_after-more count (x ∷ rs) r = count_after-more (suc count) rs r

-- one message more is heard
pub HearsThrough-more : (count : ℕ) (p mid : Publisher) (rs : List Round) (steps first : List PipeStep) (r : Round) (turns : List End)
    → HearsThrough count p rs steps mid → stops_hearing (count_after count rs) mid ≡ false → Comes mid.ins r first turns
    → HearsThrough count p (rs ++ r ∷ []) (steps ++ first) (heard r turns mid)
HearsThrough-more count p mid [] steps first r turns h goes comes = (
  subst (λ (q : Publisher). stops_hearing count q ≡ false) h.1 goes,
  turns,
  first,
  [],
  subst (λ (q : Publisher). Comes q.ins r first turns) h.1 comes,
  (refl, ap (heard r turns) h.1),
  ap (λ l. l ++ first) h.0 ∙ sym (append-nil first),
)
HearsThrough-more count p mid (x ∷ rs) steps first r turns h goes comes = (
  h.0,
  h.1,
  h.2,
  h.3 ++ first,
  h.4,
  HearsThrough-more (suc count) (heard x h.1 p) mid rs h.3 first r turns h.5 goes comes,
  ap (λ l. l ++ first) h.6 ∙ append_assoc h.2 h.3 first,
)

-- hearing is over
pub HearsThrough-ends : (count : ℕ) (p mid new : Publisher) (rs : List Round) (steps last : List PipeStep)
    → HearsThrough count p rs steps mid → EndsHearing (stops_hearing (count_after count rs) mid) mid last new
    → HearsFrom count p rs (steps ++ last) new
HearsThrough-ends count p mid new [] steps last h ends =
    subst (λ l. EndsHearing (stops_hearing count p) p (l ++ last) new) (sym h.0)
    (subst (λ (q : Publisher). EndsHearing (stops_hearing count q) q last new) h.1 ends)
HearsThrough-ends count p mid new (x ∷ rs) steps last h ends = (
  h.0,
  h.1,
  h.2,
  h.3 ++ last,
  h.4,
  HearsThrough-ends (suc count) (heard x h.1 p) mid new rs h.3 last h.5 ends,
  ap (λ l. l ++ last) h.6 ∙ append_assoc h.2 h.3 last,
)

-- a message that came by turn at a place came from the end that is there
pub Comes-place : (ends : ℕ → End) (turns new : List ℕ) (steps : List PipeStep) (place : ℕ) (m : Frames)
    → ServesNext ends turns steps place m new → Comes (map ends turns) (round_at ends place m) steps (map ends new)
Comes-place ends turns new steps place m s = record {
  by_turn = record {
    before = map ends s.before;
    peer = ends place;
    after = map ends s.after;
    looks = s.looks;
    turns_are = ap (map ends) s.turns_are ∙ map-append ends s.before (place ∷ s.after);
    looks_are = s.looks_are;
    steps_are = s.steps_are;
    from_is = refl;
    new_is = ap (map ends) s.new_is ∙ map-append ends s.after (s.before ++ place ∷ []) ∙ ap (λ l. map ends s.after ++ l) (map-append ends s.before (place ∷ []));
  };
  peer_is = refl;
}

-- where no place had a message, no end had
pub NoneHasMessage-places : (ends : ℕ → End) (turns new : List ℕ) (steps : List PipeStep) → FindsNone ends turns steps new → NoneHasMessage (map ends turns) steps (map ends new)
NoneHasMessage-places ends turns new steps f = record { looks_are = f.looks_are; new_is = ap (map ends) f.new_is }

-- a publisher that obeys a place's message heard that of its end
pub heard-obeyed : (ends : ℕ → End) (place : ℕ) (m : Frames) (turns : List ℕ) (p : PubState) → AreApart ends (keys_of p.subs) → is_place (keys_of p.subs) place ≡ true
    → heard (round_at ends place m) (map ends turns) (publisher_at ends p) ≡ publisher_at ends (obeyed (ends place).pair place m (record p { ins = turns }))
heard-obeyed ends place m turns p apart there = λ j. record {
  ins = map ends turns;
  subs = subs_after-subs_at ends place (saying_of m) p.subs apart there j;
  inbox = inbox_after-subs_at ends place m p apart there j;
  verbose = p.verbose;
  tells = p.tells;
}

-- a publisher goes on hearing until it heard as many as it may, or as many wait as may
pub goes_on : (ends : ℕ → End) (p : PubState) (count : ℕ) → count < 256 → length p.inbox < 1000 → stops_hearing count (publisher_at ends p) ≡ false
goes_on ends p count few room = (λ j. lt-leb 256 count few j || nat_le 1000 (length p.inbox)) ∙ lt-leb 1000 (length p.inbox) room

pub stops : (ends : ℕ → End) (p : PubState) (count : ℕ) → count ≡ 256 → stops_hearing count (publisher_at ends p) ≡ true
stops ends p count all = ap (λ n. stops_hearing n (publisher_at ends p)) all

pub stops_full : (ends : ℕ → End) (p : PubState) (count : ℕ) → count < 256 → 1000 ≤ length p.inbox → stops_hearing count (publisher_at ends p) ≡ true
stops_full ends p count few full = (λ j. lt-leb 256 count few j || nat_le 1000 (length p.inbox)) ∙ le-leb 1000 (length p.inbox) full

-- the peers stay, whatever one of them says
pub keys_of-subs_after : (place : ℕ) (saying : Saying) (subs : Subscribers ℕ) → keys_of (subs_after_at place saying subs) ≡ keys_of subs
keys_of-subs_after place (Adds topic) subs = by (is_among (topics_of nat_eq subs place) topic || nat_le max_topics (length (topics_of nat_eq subs place)))
  where
    by : (b : Bool) → keys_of (cond b subs (set_value (nat_eq place) subs (with_topic topic (topics_of nat_eq subs place)))) ≡ keys_of subs
    by true = refl
    by false = keys-set_value (nat_eq place) subs (with_topic topic (topics_of nat_eq subs place))
keys_of-subs_after place (Cancels topic) subs = keys-set_value (nat_eq place) subs (without_topic topic (topics_of nat_eq subs place))
keys_of-subs_after place Other subs = refl

-- what had to be kept is kept no longer
pub kept-meant : (ends : ℕ → End) (p : PubState) → (meant ends p).kept ≡ None
kept-meant ends p = by p.kept refl
  where
    by : (k : Option (ℕ × Frames)) → p.kept ≡ k → (resumed ends k p).kept ≡ None
    by None is = is
    by (Some k) is = refl

pub keys_of-meant : (ends : ℕ → End) (p : PubState) → keys_of (meant ends p).subs ≡ keys_of p.subs
keys_of-meant ends p = by p.kept
  where
    by : (k : Option (ℕ × Frames)) → keys_of (resumed ends k p).subs ≡ keys_of p.subs
    by None = refl
    by (Some k) = keys_of-subs_after k.0 (saying_of k.1) p.subs

pub KeepsPeers-meant : (ends : ℕ → End) (p q : PubState) → q ≡ meant ends p → KeepsPeers p q
KeepsPeers-meant ends p q is = record {
  peers = ap (λ (s : PubState). keys_of s.subs) is ∙ keys_of-meant ends p;
  verbose_is = ap (λ (s : PubState). s.verbose) is ∙ verbose p.kept;
  tells_is = ap (λ (s : PubState). s.tells) is ∙ tells p.kept;
}
  where
    verbose : (k : Option (ℕ × Frames)) → (resumed ends k p).verbose ≡ p.verbose
    verbose None = refl
    verbose (Some k) = refl

    tells : (k : Option (ℕ × Frames)) → (resumed ends k p).tells ≡ p.tells
    tells None = refl
    tells (Some k) = refl

-- what is kept at each step is kept at both
pub KeepsPeers-on : (p q r : PubState) → KeepsPeers p q → KeepsPeers q r → KeepsPeers p r
KeepsPeers-on p q r h k = record {
  peers = k.peers ∙ h.peers;
  verbose_is = k.verbose_is ∙ h.verbose_is;
  tells_is = k.tells_is ∙ h.tells_is;
}

pub KeepsPeers-same : (p q : PubState) → q ≡ p → KeepsPeers p q
KeepsPeers-same p q is = record {
  peers = ap (λ (s : PubState). keys_of s.subs) is;
  verbose_is = ap (λ (s : PubState). s.verbose) is;
  tells_is = ap (λ (s : PubState). s.tells) is;
}

pub KeepsPeers-given : (p q : PubState) → q ≡ record p { inbox = q.inbox } → KeepsPeers p q
KeepsPeers-given p q is = record {
  peers = ap (λ (s : PubState). keys_of s.subs) is;
  verbose_is = ap (λ (s : PubState). s.verbose) is;
  tells_is = ap (λ (s : PubState). s.tells) is;
}

module _ {S : Type 0} (runs : S → List PipeStep → S → Type 0) (ends : ℕ → End) (old new : S) (p q : PubState) where
  pub KeepsPeers-one : HearsOne runs ends old new p q → KeepsPeers p q
  KeepsPeers-one one = record {
    peers = ap (λ (s : PubState). keys_of s.subs) one.new_is ∙ keys_of-subs_after one.place (saying_of one.message) p.subs;
    verbose_is = ap (λ (s : PubState). s.verbose) one.new_is;
    tells_is = ap (λ (s : PubState). s.tells) one.new_is;
  }

  pub KeepsPeers-kept : KeepsOne runs ends old new p q → KeepsPeers p q
  KeepsPeers-kept one = record {
    peers = ap (λ (s : PubState). keys_of s.subs) one.new_is;
    verbose_is = ap (λ (s : PubState). s.verbose) one.new_is;
    tells_is = ap (λ (s : PubState). s.tells) one.new_is;
  }

-- with nothing kept, a publisher is what it means
pub meant-none : (ends : ℕ → End) (p : PubState) → p.kept ≡ None → meant ends p ≡ p
meant-none ends p none = ap (λ k. resumed ends k p) none

-- as many were heard as came
pub count_after-length : (count : ℕ) (rs : List Round) → count_after count rs ≡ length rs + count
count_after-length count [] = omega arith
count_after-length count (r ∷ rs) = let e : count_after (suc count) rs ≡ length rs + suc count = count_after-length (suc count) rs in omega arith

module _ {S : Type 0} (runs : S → List PipeStep → S → Type 0) (ends : ℕ → End) where
  -- nothing was heard yet
  pub IsHearing-none : (start : S) (first : PubState) → runs start [] start → first.kept ≡ None → IsHearing runs ends start start first first 0
  IsHearing-none start first none kept = record {
    rounds = [];
    steps = [];
    runs_are = none;
    counted = refl;
    kept_is = kept;
    same = record { peers = refl; verbose_is = refl; tells_is = refl };
    through = λ apart. (refl, refl);
  }

  -- as many were heard as may be
  pub HearsAll-full : (start now : S) (first p : PubState) → IsHearing runs ends start now first p 256 → HearsAll runs ends start now first true p
  HearsAll-full start now first p h = record {
    rounds = h.rounds;
    steps = h.steps;
    runs_are = h.runs_are;
    counted = le-leb 256 (length h.rounds) (let e : count_after 0 h.rounds ≡ length h.rounds + 0 = count_after-length 0 h.rounds in let c : count_after 0 h.rounds ≡ 256 = h.counted in omega arith);
    kept_is = h.kept_is;
    hears = λ apart.
        subst (λ l. HearsFrom 0 (publisher_at ends first) h.rounds l (publisher_at ends p)) (append-nil h.steps)
        (HearsThrough-ends 0 (publisher_at ends first) (publisher_at ends p) (publisher_at ends p) h.rounds h.steps [] (h.through apart)
        (subst (λ b. EndsHearing b (publisher_at ends p) [] (publisher_at ends p)) (sym (stops ends p (count_after 0 h.rounds) h.counted)) (refl, refl)));
  }

  few_heard : (count : ℕ) (rs : List Round) → count_after 0 rs ≡ count → count < 256 → nat_le 256 (length rs) ≡ false
  few_heard count rs counted few = lt-leb 256 (length rs) (let e : count_after 0 rs ≡ length rs + 0 = count_after-length 0 rs in omega arith)

  -- as many wait as may
  pub HearsAll-waiting : (start now : S) (first p : PubState) (count : ℕ) → count < 256 → 1000 ≤ length p.inbox → IsHearing runs ends start now first p count → HearsAll runs ends start now first false p
  HearsAll-waiting start now first p count few full h = record {
    rounds = h.rounds;
    steps = h.steps;
    runs_are = h.runs_are;
    counted = few_heard count h.rounds h.counted few;
    kept_is = h.kept_is;
    hears = λ apart.
        subst (λ l. HearsFrom 0 (publisher_at ends first) h.rounds l (publisher_at ends p)) (append-nil h.steps)
        (HearsThrough-ends 0 (publisher_at ends first) (publisher_at ends p) (publisher_at ends p) h.rounds h.steps [] (h.through apart)
        (subst (λ b. EndsHearing b (publisher_at ends p) [] (publisher_at ends p))
        (sym (ap (λ n. stops_hearing n (publisher_at ends p)) h.counted ∙ stops_full ends p count few full)) (refl, refl)));
  }

module _ {S : Type 0} (runs : S → List PipeStep → S → Type 0)
    (on : (s t u : S) (before after : List PipeStep) → runs s before t → runs t after u → runs s (before ++ after) u)
    (ends : ℕ → End) (start now next : S) (first p new : PubState) where
  -- one message more came, and is obeyed in this state
  more_through : (count : ℕ) (turns : List ℕ) (place : ℕ) (m : Frames) (steps : List PipeStep) → count < 256 → length p.inbox < 1000
      → (h : IsHearing runs ends start now first p count) → ServesNext ends p.ins steps place m turns → is_place (keys_of p.subs) place ≡ true
      → AreApart ends (keys_of first.subs)
      → HearsThrough 0 (publisher_at ends first) (h.rounds ++ round_at ends place m ∷ []) (h.steps ++ steps) (publisher_at ends (obeyed (ends place).pair place m (record p { ins = turns })))
  more_through count turns place m steps few room h comes known apart =
      let near : AreApart ends (keys_of p.subs) = subst (AreApart ends) (sym h.same.peers) apart in
      subst (λ (q : Publisher). HearsThrough 0 (publisher_at ends first) (h.rounds ++ round_at ends place m ∷ []) (h.steps ++ steps) q)
      (heard-obeyed ends place m turns p near known)
      (HearsThrough-more 0 (publisher_at ends first) (publisher_at ends p) h.rounds h.steps steps (round_at ends place m) (map ends turns)
      (h.through apart) (ap (λ n. stops_hearing n (publisher_at ends p)) h.counted ∙ goes_on ends p count few room)
      (Comes-place ends p.ins turns steps place m comes))

  -- one message more
  pub IsHearing-more : (count : ℕ) → count < 256 → length p.inbox < 1000 → IsHearing runs ends start now first p count → HearsOne runs ends now next p new → IsHearing runs ends start next first new (count + 1)
  IsHearing-more count few room h one = record {
    rounds = h.rounds ++ round_at ends one.place one.message ∷ [];
    steps = h.steps ++ one.steps;
    runs_are = on start now next h.steps one.steps h.runs_are one.runs_are;
    counted = count_after-more 0 h.rounds (round_at ends one.place one.message) ∙ ap (λ n. suc n) h.counted ∙ sym (add-one count);
    kept_is = ap (λ (q : PubState). q.kept) one.new_is;
    same = KeepsPeers-on first p new h.same (KeepsPeers-one runs ends now next p new one);
    through = λ apart.
        subst (λ (q : PubState). HearsThrough 0 (publisher_at ends first) (h.rounds ++ round_at ends one.place one.message ∷ []) (h.steps ++ one.steps) (publisher_at ends q)) (sym one.new_is)
        (more_through count one.turns one.place one.message one.steps few room h one.comes one.known apart);
  }

  -- one message more came, and is kept
  pub HearsSome-kept : (count : ℕ) → count < 256 → length p.inbox < 1000 → IsHearing runs ends start now first p count → KeepsOne runs ends now next p new → HearsSome runs ends start next first new
  HearsSome-kept count few room h one = record {
    rounds = h.rounds ++ round_at ends one.place one.message ∷ [];
    steps = h.steps ++ one.steps;
    runs_are = on start now next h.steps one.steps h.runs_are one.runs_are;
    hears = λ apart.
        subst (λ (q : PubState). HearsThrough 0 (publisher_at ends first) (h.rounds ++ round_at ends one.place one.message ∷ []) (h.steps ++ one.steps) (publisher_at ends (meant ends q))) (sym one.new_is)
        (more_through count one.turns one.place one.message one.steps few room h one.comes one.known apart);
  }

  -- none is left
  pub HearsAll-none : (count : ℕ) → count < 256 → length p.inbox < 1000 → IsHearing runs ends start now first p count → HearsNone runs ends now next p new → HearsAll runs ends start next first false new
  HearsAll-none count few room h none = record {
    rounds = h.rounds;
    steps = h.steps ++ none.steps;
    runs_are = on start now next h.steps none.steps h.runs_are none.runs_are;
    counted = few_heard runs ends count h.rounds h.counted few;
    kept_is = ap (λ (q : PubState). q.kept) none.new_is ∙ h.kept_is;
    hears = λ apart.
        HearsThrough-ends 0 (publisher_at ends first) (publisher_at ends p) (publisher_at ends new) h.rounds h.steps none.steps (h.through apart)
        (subst (λ b. EndsHearing b (publisher_at ends p) none.steps (publisher_at ends new)) (sym (ap (λ n. stops_hearing n (publisher_at ends p)) h.counted ∙ goes_on ends p count few room)) (
          map ends new.ins,
          NoneHasMessage-places ends p.ins new.ins none.steps none.none,
          λ j. record {
            ins = map ends new.ins;
            subs = subs_at ends (none.new_is j).subs;
            inbox = (none.new_is j).inbox;
            verbose = (none.new_is j).verbose;
            tells = (none.new_is j).tells;
          },
        ));
  }

module _ {S : Type 0} (runs : S → List PipeStep → S → Type 0) (ends : ℕ → End) (old new : S) (p q p' : PubState) where
  -- a hearing behind what was kept
  pub HearsPeers-after : (most : Bool) → q ≡ meant ends p → HearsAll runs ends old new q most p' → HearsPeers runs ends old new p p'
  HearsPeers-after most is h = record {
    steps = h.steps;
    runs_are = h.runs_are;
    kept_is = h.kept_is;
    hears = λ apart. (
      h.rounds,
      subst (λ (s : PubState). HearsFrom 0 (publisher_at ends s) h.rounds h.steps (publisher_at ends p')) is
          (h.hears (subst (AreApart ends) (sym (ap (λ (s : PubState). keys_of s.subs) is ∙ keys_of-meant ends p)) apart)),
    );
  }

  pub StopsHearing-after : q ≡ meant ends p → HearsSome runs ends old new q p' → StopsHearing runs ends old new p p'
  StopsHearing-after is h = record {
    rounds = h.rounds;
    steps = h.steps;
    runs_are = h.runs_are;
    hears = λ apart.
        subst (λ (s : PubState). HearsThrough 0 (publisher_at ends s) h.rounds h.steps (publisher_at ends (meant ends p'))) is
        (h.hears (subst (AreApart ends) (sym (ap (λ (s : PubState). keys_of s.subs) is ∙ keys_of-meant ends p)) apart));
  }

  -- what was kept is kept still, or was obeyed, and nothing else was heard
  pub StopsHearing-before : runs old [] new → meant ends p' ≡ meant ends p → StopsHearing runs ends old new p p'
  StopsHearing-before none same = record {
    rounds = [];
    steps = [];
    runs_are = none;
    hears = λ apart. (refl, ap (publisher_at ends) same);
  }
