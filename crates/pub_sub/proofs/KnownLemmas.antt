-- What a publisher hears comes from its peers.
use Rattle.std.proofs.Common.{◌≡◌, ◌∙◌, ℕ, Bool, true, false, cond, not, ◌||◌, ◌&&◌, List, [], ◌∷◌, ◌++◌, nat_eq, Option, Some, None, refl, sym, ap, subst, All}
use Rattle.std.proofs.lemmas.List.{map-append}
use Rattle.std.proofs.lemmas.List.Elements.{All-head, All-tail}
use Rattle.std.proofs.lemmas.List.Folds.{list_any-append}
use Rattle.std.proofs.lemmas.List.Sorted.{list_any-IsPermutation}
use Rattle.std.proofs.lemmas.Map.Views.{All-from_any, exact_unsigned_eq}
use Rattle.std.specs.Prelude.{if◌then◌else◌, Result, Ok, Err, OnErr}
use Rattle.zq_base.specs.Ends.{PipeId}
use Rattle.msg_pipe.specs.Places.{KeepsPlaces}
use Rattle.std.specs.Cmp.{nat_eq_equiv}
use Rattle.std.specs.List.Sorted.{IsPermutation}
use Rattle.std.specs.Map.{keys_of}
use Rattle.std.specs.Option.{IfSome}
use Rattle.zq_base.specs.Message.{Frames}
use Rattle.spec_pattern.specs.Topics.{Topic, Subscribers, with_peer, without_peer}
use Rattle.spec_pattern.specs.Publishing.{saying_of}
use Rattle.msg_pipe.specs.Turns.{without_place}
use Rattle.pub_sub.specs.Places.{is_place}
use Rattle.zq_base.specs.declared.ids.PairId.{PairId}
use Rattle.pub_sub.specs.Publishers.{PubState, kept_without, no_subscribers, with_subscriber_at, without_subscriber_at, subs_after_at, is_news_at, obeyed}
use Rattle.pub_sub.specs.Known.{AreKnown}
use Rattle.pub_sub.specs.Audiences.{CanTell, IsPublisher}
use Rattle.pub_sub.specs.Notes.{notice}
use Rattle.pub_sub.proofs.HearLemmas.{keys_of-subs_after}

clash : {P : Type 0} → false ≡ true → P
clash e = absurd (cc)

-- no peers
pub AreKnown-none : (verbose tells : Bool) → AreKnown (no_subscribers verbose tells)
AreKnown-none verbose tells = record { ins = λ q there. clash there; kept = tt }

-- one place more in both
push_in : (xs ys : List ℕ) (p : ℕ) → ((q : ℕ) → is_place xs q ≡ true → is_place ys q ≡ true) → (q : ℕ) → is_place (xs ++ p ∷ []) q ≡ true → is_place (ys ++ p ∷ []) q ≡ true
push_in xs ys p within q there =
    list_any-append (nat_eq q) ys (p ∷ []) ∙ by (is_place xs q) refl (within q) (sym (list_any-append (nat_eq q) xs (p ∷ [])) ∙ there)
  where
    or_true : (b : Bool) → (b || true) ≡ true
    or_true true = refl
    or_true false = refl

    by : (b : Bool) → is_place xs q ≡ b → (is_place xs q ≡ true → is_place ys q ≡ true) → (is_place xs q || is_place (p ∷ []) q) ≡ true → (is_place ys q || is_place (p ∷ []) q) ≡ true
    by true is go h = ap (λ c. c || is_place (p ∷ []) q) (go is)
    by false is go h = ap (λ c. is_place ys q || c) (ap (λ c. c || is_place (p ∷ []) q) (sym is) ∙ h) ∙ or_true (is_place ys q)

push_kept : (ys : List ℕ) (p q : ℕ) → is_place ys q ≡ true → is_place (ys ++ p ∷ []) q ≡ true
push_kept ys p q there = list_any-append (nat_eq q) ys (p ∷ []) ∙ ap (λ c. c || is_place (p ∷ []) q) there

-- a further peer
pub AreKnown-with : (place : ℕ) (p : PubState) → AreKnown p → AreKnown (with_subscriber_at place p)
AreKnown-with place p known = record {
  ins = λ q there. ap (λ keys. is_place keys q) (map-append (λ (s : ℕ × List Topic). s.0) p.subs ((place, []) ∷ [])) ∙ push_in p.ins (keys_of p.subs) place known.ins q there;
  kept = by p.kept known.kept;
}
  where
    by : (k : Option (ℕ × Frames)) → IfSome k (λ v. is_place (keys_of p.subs) v.0 ≡ true) → IfSome k (λ v. is_place (keys_of (with_peer place p.subs)) v.0 ≡ true)
    by None h = tt
    by (Some k) h = ap (λ keys. is_place keys k.0) (map-append (λ (s : ℕ × List Topic). s.0) p.subs ((place, []) ∷ [])) ∙ push_kept (keys_of p.subs) place k.0 h

-- another place stays
stays : (place q : ℕ) (subs : Subscribers ℕ) → nat_eq q place ≡ false → is_place (keys_of subs) q ≡ true → is_place (keys_of (without_peer nat_eq place subs)) q ≡ true
stays place q [] other there = there
stays place q (s ∷ subs) other there = by (nat_eq place s.0) refl (nat_eq q s.0) refl there (λ h. stays place q subs other h)
  where
    by : (a : Bool) → nat_eq place s.0 ≡ a → (b : Bool) → nat_eq q s.0 ≡ b → (b || is_place (keys_of subs) q) ≡ true
        → (is_place (keys_of subs) q ≡ true → is_place (keys_of (without_peer nat_eq place subs)) q ≡ true)
        → is_place (keys_of (cond a subs (s ∷ without_peer nat_eq place subs))) q ≡ true
    by true here true same h rest =
        clash (sym other ∙ ap (nat_eq q) (exact_unsigned_eq place s.0 here) ∙ same)
    by true here false is h rest = h
    by false here true same h rest = ap (λ b. b || is_place (keys_of (without_peer nat_eq place subs)) q) same
    by false here false is h rest = ap (λ b. b || is_place (keys_of (without_peer nat_eq place subs)) q) is ∙ rest h

-- one of the others is another, and was there
others : (place q : ℕ) (ins : List ℕ) → is_place (without_place place ins) q ≡ true → (is_place ins q ≡ true) × (nat_eq q place ≡ false)
others place q [] there = clash there
others place q (x ∷ xs) there = by (nat_eq x place) refl (nat_eq q x) refl there (λ h. others place q xs h)
  where
    or_later : (b c : Bool) → c ≡ true → (b || c) ≡ true
    or_later true c h = refl
    or_later false c h = h

    by : (a : Bool) → nat_eq x place ≡ a → (b : Bool) → nat_eq q x ≡ b → is_place (cond (not a) (x ∷ without_place place xs) (without_place place xs)) q ≡ true
        → (is_place (without_place place xs) q ≡ true → (is_place xs q ≡ true) × (nat_eq q place ≡ false)) → (is_place (x ∷ xs) q ≡ true) × (nat_eq q place ≡ false)
    by true here b is h rest = let r = rest h in (or_later (nat_eq q x) (is_place xs q) r.0, r.1)
    by false here true same h rest = (ap (λ b. b || is_place xs q) same, ap (λ k. nat_eq k place) (exact_unsigned_eq q x same) ∙ here)
    by false here false is h rest = let r = rest (sym (ap (λ b. b || is_place (without_place place xs) q) is) ∙ h) in (or_later (nat_eq q x) (is_place xs q) r.0, r.1)

-- a peer goes
pub AreKnown-without : (place : ℕ) (p : PubState) → AreKnown p → AreKnown (without_subscriber_at place p)
AreKnown-without place p known = record {
  ins = λ q there. let r = others place q p.ins there in stays place q p.subs r.1 (known.ins q r.0);
  kept = by p.kept known.kept;
}
  where
    choose : (k : ℕ × Frames) (b : Bool) → nat_eq k.0 place ≡ b → is_place (keys_of p.subs) k.0 ≡ true
        → IfSome (cond b None (Some k)) (λ v. is_place (keys_of (without_peer nat_eq place p.subs)) v.0 ≡ true)
    choose k true same h = tt
    choose k false other h = stays place k.0 p.subs other h

    by : (k : Option (ℕ × Frames)) → IfSome k (λ v. is_place (keys_of p.subs) v.0 ≡ true) → IfSome (kept_without place k) (λ v. is_place (keys_of (without_peer nat_eq place p.subs)) v.0 ≡ true)
    by None h = tt
    by (Some k) h = choose k (nat_eq k.0 place) refl h

-- the turns move
pub AreKnown-turned : (turns : List ℕ) (p : PubState) → IsPermutation p.ins turns → AreKnown p → AreKnown (record p { ins = turns })
AreKnown-turned turns p moved known = record { ins = λ q there. known.ins q (list_any-IsPermutation (nat_eq q) p.ins turns moved ∙ there); kept = known.kept }

-- a message is kept
pub AreKnown-kept : (place : ℕ) (m : Frames) (p : PubState) → is_place (keys_of p.subs) place ≡ true → AreKnown p → AreKnown (record p { kept = Some (place, m) })
AreKnown-kept place m p there known = record { ins = known.ins; kept = there }

-- nothing is kept
pub AreKnown-free : (p : PubState) → AreKnown p → AreKnown (record p { kept = None })
AreKnown-free p known = record { ins = known.ins; kept = tt }

-- what holds at all places holds at one of them
pub place_of_all : (P : ℕ → Type 0) (ps : List ℕ) (q : ℕ) → All P ps → is_place ps q ≡ true → P q
place_of_all P [] q all there = clash there
place_of_all P (p ∷ ps) q all there = by (nat_eq q p) refl there (λ h. place_of_all P ps q (All-tail P p ps all) h)
  where
    by : (b : Bool) → nat_eq q p ≡ b → (b || is_place ps q) ≡ true → (is_place ps q ≡ true → P q) → P q
    by true same h rest = subst P (sym (exact_unsigned_eq q p same)) (All-head P p ps all)
    by false other h rest = rest h

-- what holds at all peers holds at all that are heard
pub all_heard : (P : ℕ → Type 0) (p : PubState) → AreKnown p → All P (keys_of p.subs) → All P p.ins
all_heard P p known all = All-from_any nat_eq_equiv P p.ins (λ q there. place_of_all P (keys_of p.subs) q all (known.ins q there))

-- the place that served is among the turns
pub serving_place : (turns before after : List ℕ) (place : ℕ) → turns ≡ before ++ place ∷ after → is_place turns place ≡ true
serving_place turns before after place is =
    ap (λ l. is_place l place) is ∙ list_any-append (nat_eq place) before (place ∷ after)
    ∙ ap (λ b. is_place before place || (b || is_place after place)) (nat_eq_equiv.refl place) ∙ or_true (is_place before place)
  where
    or_true : (b : Bool) → (b || true) ≡ true
    or_true true = refl
    or_true false = refl

-- ---- a publisher stays one

-- what is always so speaks of the turns, the topics, what is kept, and whether there is a user
pub IsPublisher-as : (p q : PubState) (spare : ℕ) → AreKnown p → q.ins ≡ p.ins → keys_of q.subs ≡ keys_of p.subs → q.kept ≡ p.kept
    → CanTell q.tells spare q.subs 0 → IsPublisher q spare
IsPublisher-as p q spare known ins keys kept can = record {
  known = record {
    ins = λ x there. ap (λ l. is_place l x) keys ∙ known.ins x (ap (λ l. is_place l x) (sym ins) ∙ there);
    kept = subst (λ k. IfSome k (λ v. is_place (keys_of q.subs) v.0 ≡ true)) (sym kept) (subst (λ l. IfSome p.kept (λ v. is_place l v.0 ≡ true)) (sym keys) known.kept);
  };
  can_tell = can;
}

-- a peer goes
pub IsPublisher-without : (place : ℕ) (p q : PubState) (spare : ℕ) → AreKnown p → q.ins ≡ without_place place p.ins → q.subs ≡ without_peer nat_eq place p.subs
    → q.kept ≡ kept_without place p.kept → CanTell q.tells spare q.subs 0 → IsPublisher q spare
IsPublisher-without place p q spare known ins subs kept can =
    IsPublisher-as (without_subscriber_at place p) q spare (AreKnown-without place p known) ins (ap keys_of subs) kept can

-- what a peer said is obeyed
pub IsPublisher-obeyed : (place : ℕ) (m : Frames) (p q : PubState) (spare : ℕ) → AreKnown p → q.ins ≡ p.ins → q.subs ≡ subs_after_at place (saying_of m) p.subs
    → q.kept ≡ p.kept → CanTell q.tells spare q.subs 0 → IsPublisher q spare
IsPublisher-obeyed place m p q spare known ins subs kept can =
    IsPublisher-as p q spare known ins (ap keys_of subs ∙ keys_of-subs_after place (saying_of m) p.subs) kept can

-- the publisher that told its user of a message
pub obeyed-told : (pair : PairId) (place : ℕ) (m : Frames) (p q : PubState) (told : Bool) → q.ins ≡ p.ins → q.subs ≡ subs_after_at place (saying_of m) p.subs → q.kept ≡ None
    → q.inbox ≡ (if told then p.inbox ++ notice pair m ∷ [] else p.inbox) → q.verbose ≡ p.verbose → q.tells ≡ p.tells
    → told ≡ (p.tells && is_news_at p.verbose p.subs place (saying_of m)) → q ≡ obeyed pair place m p
obeyed-told pair place m p q told ins subs kept inbox verbose tells news = λ j. record {
  ins = ins j;
  subs = subs j;
  kept = kept j;
  inbox = (inbox ∙ ap (λ b. if b then p.inbox ++ notice pair m ∷ [] else p.inbox) news) j;
  verbose = verbose j;
  tells = tells j;
}

-- of an error, what holds anyway
pub on_err : {A E : Type 0} (r : Result A E) (P : Type 0) → P → OnErr r P
on_err (Ok x) P h = tt
on_err (Err e) P h = h

-- places that were kept twice
pub KeepsPlaces-on : {S : Type 0} (here : S → ℕ → Type 0) (end_at : S → ℕ → PipeId) (writable : S → ℕ → Bool) (s t u : S)
    → KeepsPlaces here end_at writable s t → KeepsPlaces here end_at writable t u → KeepsPlaces here end_at writable s u
KeepsPlaces-on here end_at writable s t u h k = record {
  stay = λ x there. k.stay x (h.stay x there);
  ends = k.ends ∙ h.ends;
  states = k.states ∙ h.states;
}
