-- What topics match over places is what they match over the ends that are there.
use Rattle.std.proofs.Common.{◌≡◌, ◌∙◌, ℕ, Bool, true, false, not, cond, ◌||◌, ◌&&◌, ◌++◌, List, [], ◌∷◌, filter, map, nat_eq, length, Some, refl, ap}
use Rattle.std.specs.Prelude.{nat_le}
use Rattle.std.specs.Cmp.{nat_eq_equiv}
use Rattle.std.specs.List.{list_any}
use Rattle.std.specs.Map.{keys_of, lookup, set_value}
use Rattle.std.specs.Option.{unwrap_or}
use Rattle.spec_pattern.specs.PipeStep.{same_pipe}
use Rattle.spec_pattern.specs.TurnList.{End}
use Rattle.zq_base.specs.Message.{Frames}
use Rattle.spec_pattern.specs.Topics.{Topic, Subscribers, is_among, with_topic, without_topic, max_topics, topics_of, has_topic, others_have, matches, matching}
use Rattle.spec_pattern.specs.Publishing.{Saying, Adds, Cancels, Other, saying_of, subs_after, takers, is_news, inbox_after}
use Rattle.pub_sub.specs.Places.{subs_at, is_place, AreApart, TellsOf}
use Rattle.pub_sub.specs.Notes.{notice}
use Rattle.pub_sub.specs.Publishers.{PubState, publisher_at, subs_after_at, is_news_at, inbox_after_at}

or_true : (b : Bool) → (b || true) ≡ true
or_true true = refl
or_true false = refl

-- a place at the front, and those behind it
pub here : (p : ℕ) (ps : List ℕ) → is_place (p ∷ ps) p ≡ true
here p ps = ap (λ b. b || is_place ps p) (nat_eq_equiv.refl p)

pub later : (p q : ℕ) (ps : List ℕ) → is_place ps q ≡ true → is_place (p ∷ ps) q ≡ true
later p q ps there = ap (λ b. nat_eq q p || b) there ∙ or_true (nat_eq q p)

-- the ends of the peers
pub keys_of-subs_at : (ends : ℕ → End) (subs : Subscribers ℕ) → keys_of (subs_at ends subs) ≡ map ends (keys_of subs)
keys_of-subs_at ends [] = refl
keys_of-subs_at ends (s ∷ subs) = ap (λ l. ends s.0 ∷ l) (keys_of-subs_at ends subs)

-- a look-up by end is one by place, where ends are told apart as places are
pub lookup-subs_at : (ends : ℕ → End) (p : ℕ) (subs : Subscribers ℕ) → ((k : ℕ) → is_place (keys_of subs) k ≡ true → same_pipe (ends p) (ends k) ≡ nat_eq p k)
    → lookup (same_pipe (ends p)) (subs_at ends subs) ≡ lookup (nat_eq p) subs
lookup-subs_at ends p [] apart = refl
lookup-subs_at ends p (s ∷ subs) apart = λ j.
    cond (apart s.0 (here s.0 (keys_of subs)) j) (Some s.1) (lookup-subs_at ends p subs (λ k there. apart k (later s.0 k (keys_of subs) there)) j)

-- tests that answer alike at each place keep the same places
pub filter-alike : (f g : ℕ → Bool) (ps : List ℕ) → ((p : ℕ) → is_place ps p ≡ true → f p ≡ g p) → filter f ps ≡ filter g ps
filter-alike f g [] alike = refl
filter-alike f g (p ∷ ps) alike = λ j.
    cond (alike p (here p ps) j) (p ∷ filter-alike f g ps (λ q there. alike q (later p q ps there)) j) (filter-alike f g ps (λ q there. alike q (later p q ps there)) j)

-- a filter of the ends at places
pub filter-ends : (ends : ℕ → End) (f : End → Bool) (ps : List ℕ) → filter f (map ends ps) ≡ map ends (filter (λ p. f (ends p)) ps)
filter-ends ends f [] = refl
filter-ends ends f (p ∷ ps) = by (f (ends p)) (filter-ends ends f ps)
  where
    by : (b : Bool) → filter f (map ends ps) ≡ map ends (filter (λ p. f (ends p)) ps)
        → cond b (ends p ∷ filter f (map ends ps)) (filter f (map ends ps)) ≡ map ends (cond b (p ∷ filter (λ p. f (ends p)) ps) (filter (λ p. f (ends p)) ps))
    by true rest = ap (λ l. ends p ∷ l) rest
    by false rest = rest

-- what is kept was there
kept_place : (f : ℕ → Bool) (ps : List ℕ) (q : ℕ) → is_place (filter f ps) q ≡ true → is_place ps q ≡ true
kept_place f [] q there = there
kept_place f (p ∷ ps) q there = by (f p) there (λ h. kept_place f ps q h)
  where
    first_or : (a b c : Bool) → (b ≡ true → c ≡ true) → (a || b) ≡ true → (a || c) ≡ true
    first_or true b c more h = refl
    first_or false b c more h = more h

    by : (b : Bool) → is_place (cond b (p ∷ filter f ps) (filter f ps)) q ≡ true → (is_place (filter f ps) q ≡ true → is_place ps q ≡ true) → is_place (p ∷ ps) q ≡ true
    by true there rest = first_or (nat_eq q p) (is_place (filter f ps) q) (is_place ps q) rest there
    by false there rest = later p q ps (rest there)

-- the peers that match, by end and by place
matching-subs_at : (ends : ℕ → End) (subs : Subscribers ℕ) (octets : List ℕ) → AreApart ends (keys_of subs)
    → matching same_pipe (subs_at ends subs) octets ≡ map ends (matching nat_eq subs octets)
matching-subs_at ends subs octets apart =
    ap (filter (λ e. matches (topics_of same_pipe (subs_at ends subs) e) octets)) (keys_of-subs_at ends subs)
    ∙ filter-ends ends (λ e. matches (topics_of same_pipe (subs_at ends subs) e) octets) (keys_of subs)
    ∙ ap (map ends) (filter-alike (λ p. matches (topics_of same_pipe (subs_at ends subs) (ends p)) octets) (λ p. matches (topics_of nat_eq subs p) octets) (keys_of subs)
    (λ p there. ap (λ o. matches (unwrap_or o []) octets) (lookup-subs_at ends p subs (λ k in_. apart p k there in_))))

-- the takers of a message, by end and by place
pub takers-subs_at : (ends : ℕ → End) (can_write : End → Bool) (writable : ℕ → Bool) (subs : Subscribers ℕ) (frame : List ℕ) (frames : List (List ℕ))
    → TellsOf can_write ends writable (keys_of subs) → AreApart ends (keys_of subs)
    → takers can_write (subs_at ends subs) (frame ∷ frames) ≡ map ends (filter writable (matching nat_eq subs frame))
takers-subs_at ends can_write writable subs frame frames tells apart =
    ap (filter can_write) (matching-subs_at ends subs frame apart)
    ∙ filter-ends ends can_write (matching nat_eq subs frame)
    ∙ ap (map ends) (filter-alike (λ p. can_write (ends p)) writable (matching nat_eq subs frame)
    (λ p there. tells p (kept_place (λ q. matches (topics_of nat_eq subs q) frame) (keys_of subs) p there)))

-- ---- what a peer says, by end and by place

-- a row that is set, by end and by place
set_value-subs_at : (ends : ℕ → End) (p : ℕ) (topics : List Topic) (subs : Subscribers ℕ) → ((k : ℕ) → is_place (keys_of subs) k ≡ true → same_pipe (ends p) (ends k) ≡ nat_eq p k)
    → set_value (same_pipe (ends p)) (subs_at ends subs) topics ≡ subs_at ends (set_value (nat_eq p) subs topics)
set_value-subs_at ends p topics [] apart = refl
set_value-subs_at ends p topics (s ∷ subs) apart =
    ap (λ b. cond b ((ends s.0, topics) ∷ subs_at ends subs) ((ends s.0, s.1) ∷ set_value (same_pipe (ends p)) (subs_at ends subs) topics)) (apart s.0 (here s.0 (keys_of subs)))
    ∙ by (nat_eq p s.0) (set_value-subs_at ends p topics subs (λ k there. apart k (later s.0 k (keys_of subs) there)))
  where
    by : (b : Bool) → set_value (same_pipe (ends p)) (subs_at ends subs) topics ≡ subs_at ends (set_value (nat_eq p) subs topics)
        → cond b ((ends s.0, topics) ∷ subs_at ends subs) ((ends s.0, s.1) ∷ set_value (same_pipe (ends p)) (subs_at ends subs) topics)
        ≡ subs_at ends (cond b ((s.0, topics) ∷ subs) (s ∷ set_value (nat_eq p) subs topics))
    by true rest = refl
    by false rest = ap (λ l. (ends s.0, s.1) ∷ l) rest

-- the subscriptions once the peer at this place said this
pub subs_after-subs_at : (ends : ℕ → End) (p : ℕ) (saying : Saying) (subs : Subscribers ℕ) → AreApart ends (keys_of subs) → is_place (keys_of subs) p ≡ true
    → subs_after (ends p) saying (subs_at ends subs) ≡ subs_at ends (subs_after_at p saying subs)
subs_after-subs_at ends p (Adds topic) subs apart there =
    (λ j. by_topics (same j)) ∙ choose (is_among (topics_of nat_eq subs p) topic || nat_le max_topics (length (topics_of nat_eq subs p)))
  where
    mine : (k : ℕ) → is_place (keys_of subs) k ≡ true → same_pipe (ends p) (ends k) ≡ nat_eq p k
    mine k in_ = apart p k there in_

    same : topics_of same_pipe (subs_at ends subs) (ends p) ≡ topics_of nat_eq subs p
    same = ap (λ o. unwrap_or o []) (lookup-subs_at ends p subs mine)

    by_topics : List Topic → Subscribers End
    by_topics topics =
        cond (is_among topics topic || nat_le max_topics (length topics)) (subs_at ends subs) (set_value (same_pipe (ends p)) (subs_at ends subs) (with_topic topic topics))

    choose : (b : Bool) → cond b (subs_at ends subs) (set_value (same_pipe (ends p)) (subs_at ends subs) (with_topic topic (topics_of nat_eq subs p)))
        ≡ subs_at ends (cond b subs (set_value (nat_eq p) subs (with_topic topic (topics_of nat_eq subs p))))
    choose true = refl
    choose false = set_value-subs_at ends p (with_topic topic (topics_of nat_eq subs p)) subs mine
subs_after-subs_at ends p (Cancels topic) subs apart there =
    ap (λ topics. set_value (same_pipe (ends p)) (subs_at ends subs) (without_topic topic topics)) (ap (λ o. unwrap_or o []) (lookup-subs_at ends p subs (λ k in_. apart p k there in_)))
    ∙ set_value-subs_at ends p (without_topic topic (topics_of nat_eq subs p)) subs (λ k in_. apart p k there in_)
subs_after-subs_at ends p Other subs apart there = refl

-- ---- what the user is told, by end and by place

-- tests that answer alike at each place find one alike
list_any-alike : (f g : ℕ → Bool) (ps : List ℕ) → ((p : ℕ) → is_place ps p ≡ true → f p ≡ g p) → list_any f ps ≡ list_any g ps
list_any-alike f g [] alike = refl
list_any-alike f g (p ∷ ps) alike = λ j. alike p (here p ps) j || list_any-alike f g ps (λ q there. alike q (later p q ps there)) j

-- a test of the ends at places
list_any-ends : (ends : ℕ → End) (f : End → Bool) (ps : List ℕ) → list_any f (map ends ps) ≡ list_any (λ p. f (ends p)) ps
list_any-ends ends f [] = refl
list_any-ends ends f (p ∷ ps) = ap (λ b. f (ends p) || b) (list_any-ends ends f ps)

-- the topics of a peer
pub topics_of-subs_at : (ends : ℕ → End) (p : ℕ) (subs : Subscribers ℕ) → AreApart ends (keys_of subs) → is_place (keys_of subs) p ≡ true
    → topics_of same_pipe (subs_at ends subs) (ends p) ≡ topics_of nat_eq subs p
topics_of-subs_at ends p subs apart there = ap (λ o. unwrap_or o []) (lookup-subs_at ends p subs (λ k in_. apart p k there in_))

-- whether others have a topic
pub others_have-subs_at : (ends : ℕ → End) (p : ℕ) (topic : Topic) (subs : Subscribers ℕ) → AreApart ends (keys_of subs) → is_place (keys_of subs) p ≡ true
    → others_have same_pipe (subs_at ends subs) (ends p) topic ≡ others_have nat_eq subs p topic
others_have-subs_at ends p topic subs apart there =
    ap (list_any (λ q. not (same_pipe (ends p) q) && has_topic same_pipe (subs_at ends subs) q topic)) (keys_of-subs_at ends subs)
    ∙ list_any-ends ends (λ q. not (same_pipe (ends p) q) && has_topic same_pipe (subs_at ends subs) q topic) (keys_of subs)
    ∙ list_any-alike (λ q. not (same_pipe (ends p) (ends q)) && has_topic same_pipe (subs_at ends subs) (ends q) topic) (λ q. not (nat_eq p q) && has_topic nat_eq subs q topic) (keys_of subs)
    (λ q in_. λ j. not (apart p q there in_ j) && is_among (topics_of-subs_at ends q subs apart in_ j) topic)

-- whether the user hears what a peer said
is_news-subs_at : (ends : ℕ → End) (place : ℕ) (saying : Saying) (p : PubState) → AreApart ends (keys_of p.subs) → is_place (keys_of p.subs) place ≡ true
    → is_news (publisher_at ends p) (ends place) saying ≡ is_news_at p.verbose p.subs place saying
is_news-subs_at ends place (Adds topic) p apart there = λ j.
    not (is_among (topics_of-subs_at ends place p.subs apart there j) topic || nat_le max_topics (length (topics_of-subs_at ends place p.subs apart there j)))
    && (p.verbose || not (others_have-subs_at ends place topic p.subs apart there j))
is_news-subs_at ends place (Cancels topic) p apart there = λ j.
    is_among (topics_of-subs_at ends place p.subs apart there j) topic && not (others_have-subs_at ends place topic p.subs apart there j)
is_news-subs_at ends place Other p apart there = refl

-- what waits for the user once a peer said this
pub inbox_after-subs_at : (ends : ℕ → End) (place : ℕ) (m : Frames) (p : PubState) → AreApart ends (keys_of p.subs) → is_place (keys_of p.subs) place ≡ true
    → inbox_after (publisher_at ends p) (ends place) m ≡ inbox_after_at (ends place).pair place m p
inbox_after-subs_at ends place m p apart there = λ j.
    cond (p.tells && is_news-subs_at ends place (saying_of m) p apart there j) (p.inbox ++ notice (ends place).pair m ∷ []) p.inbox
