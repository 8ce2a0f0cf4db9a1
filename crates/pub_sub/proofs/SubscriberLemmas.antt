-- What a subscriber wants changes, and its peers follow.
use Rattle.std.proofs.Common.{◌≡◌, ◌∙◌, ◌+◌, ◌-◌, ◌<◌, ◌==◌, not, ℕ, zero, suc, Bool, true, false, cond, ◌||◌, List, [], ◌∷◌, ◌++◌, map, remove, nat_eq, min, Some, All, refl, sym, ap, subst, arith}
use Rattle.std.proofs.lemmas.List.{map-append}
use Rattle.std.proofs.lemmas.List.Elements.{All-head, All-tail, All-nil, All-cons, All-push, All-append}
use Rattle.std.proofs.lemmas.Map.{keys-set_value}
use Rattle.std.proofs.lemmas.Map.Keys.{IsDistinct-head, IsDistinct-tail, IsDistinct-cons}
use Rattle.std.proofs.lemmas.Map.Views.{All-keys-insert_entry, All-map-remove_entry, exact_unsigned_eq}
use Rattle.std.proofs.lemmas.List.Folds.{list_any-append}
use Rattle.std.specs.BTreeMap.{insert_entry}
use Rattle.std.specs.Cmp.{nat_eq_equiv}
use Rattle.std.specs.Cmp.Lexicographic.{slice_cmp, bytes_decides, nat_list_eq_equiv}
use Rattle.std.specs.List.{IsDistinct, AllByRecursion}
use Rattle.std.specs.Map.{keys_of, lookup, set_value, remove_entry}
use Rattle.std.specs.Option.{is_some}
use Rattle.std.specs.Ordering.{nat_cmp, match_ordering}
use Rattle.std.specs.Prelude.{Result, Ok, Err, OnOk, nat_le}
use Rattle.std.specs.Str.{bytes_eq}
use Rattle.std.specs.declared.alloc.AllocError.{AllocError}
use Rattle.std.specs.declared.cmp.Ordering.{Ordering}
use Rattle.std.specs.declared.cmp.Ordering.TheVariants.{Less, Equal, Greater}
use Rattle.zq_base.specs.Message.{Frames}
use Rattle.spec_pattern.specs.PipeStep.{PipeStep}
use Rattle.spec_pattern.specs.TurnList.{End}
use Rattle.spec_pattern.specs.Duty.{Free}
use Rattle.spec_pattern.specs.Drops.{ReceivesDropping}
use Rattle.spec_pattern.specs.Results.{MatchRecv}
use Rattle.spec_pattern.specs.Topics.{Topic, topic_cmp, is_among, IsTopic}
use Rattle.spec_pattern.specs.Wanted.{Wanted, wants, count_of, most_equal, with_one_more, with_one_less}
use Rattle.spec_pattern.specs.Subscribing.{EndsTelling, TellsWhere, TellsAll, wanted_of}
use Rattle.spec_pattern.specs.declared.answers.Rule.TheVariants.{Filtered}
use Rattle.spec_pattern.specs.declared.answers.Skip.{Skip}
use Rattle.spec_pattern.specs.declared.answers.RecvRefusal.{RecvRefusal}
use Rattle.spec_pattern.specs.declared.answers.RecvFault.{RecvFault}
use Rattle.spec_pattern.specs.declared.answers.RecvFault.TheVariants as recv
use Rattle.spec_pattern.specs.declared.answers.RecvAnswer.{RecvAnswer}
use Rattle.spec_pattern.specs.declared.answers.RecvAnswer.TheVariants as got
use Rattle.spec_pattern.specs.Dropping.{receiving, DropsFew, ReceivesOver, MatchDropping}
use Rattle.sub_table.specs.Telling.{WantsAlike}
use Rattle.sub_table.proofs.GoneLemmas.{others-left}
use Rattle.msg_pipe.specs.Turns.{without_place}
use Rattle.pub_sub.specs.Places.{is_place, subs_at, AreOthers}
use Rattle.pub_sub.specs.Telling.{IsFollower, IsTold}
use Rattle.pub_sub.specs.Followers.{rows_of, places_of}
use Rattle.pub_sub.specs.Subscribing.{SubState, subscriber_at, with_publisher_at, without_publisher_at, Joins, Leaves, AreFollowed, TellsPeers, SubGives, SubStops}
use Rattle.pub_sub.specs.declared.follower.Follower.{Follower}
use Rattle.pub_sub.proofs.PeerLemmas.{without-subs_at, without-ins}

-- the places of the rows
pub keys_rows : (fs : List Follower) → keys_of (rows_of fs) ≡ places_of fs
keys_rows [] = refl
keys_rows (f ∷ fs) = ap (λ l. f.place ∷ l) (keys_rows fs)

-- ---- what is wanted

wants_keys : (w : Wanted) (t : Topic) → wants w t ≡ is_among (keys_of w) t
wants_keys [] t = refl
wants_keys (e ∷ es) t = by (bytes_eq t e.0) (wants_keys es t)
  where
    by : (b : Bool) → wants es t ≡ is_among (keys_of es) t → is_some (cond b (Some e.1) (lookup (bytes_eq t) es)) ≡ (b || is_among (keys_of es) t)
    by true rest = refl
    by false rest = rest

insert_other : (k t : Topic) (v : ℕ) (es : Wanted) → bytes_eq t k ≡ false → is_among (keys_of (insert_entry (slice_cmp nat_cmp) es k v)) t ≡ is_among (keys_of es) t
insert_other k t v [] other = ap (λ b. b || false) other
insert_other k t v (e ∷ es) other = by (slice_cmp nat_cmp k e.0) (insert_other k t v es other)
  where
    by : (o : Ordering) → is_among (keys_of (insert_entry (slice_cmp nat_cmp) es k v)) t ≡ is_among (keys_of es) t
        → is_among (keys_of (match_ordering o ((k, v) ∷ e ∷ es) ((e.0, v) ∷ es) (e ∷ insert_entry (slice_cmp nat_cmp) es k v))) t ≡ is_among (keys_of (e ∷ es)) t
    by Less rest = ap (λ b. b || (bytes_eq t e.0 || is_among (keys_of es) t)) other
    by Equal rest = refl
    by Greater rest = ap (λ b. bytes_eq t e.0 || b) rest

remove_other : (k t : Topic) (es : Wanted) → bytes_eq t k ≡ false → is_among (keys_of (remove_entry (bytes_eq k) es)) t ≡ is_among (keys_of es) t
remove_other k t [] other = refl
remove_other k t (e ∷ es) other = by (bytes_eq k e.0) refl (remove_other k t es other)
  where
    by : (b : Bool) → bytes_eq k e.0 ≡ b → is_among (keys_of (remove_entry (bytes_eq k) es)) t ≡ is_among (keys_of es) t
        → is_among (keys_of (cond b es (e ∷ remove_entry (bytes_eq k) es))) t ≡ is_among (keys_of (e ∷ es)) t
    by true same rest = sym (ap (λ b. b || is_among (keys_of es) t) (ap (bytes_eq t) (sym ((bytes_decides k e.0).0 same)) ∙ other))
    by false differs rest = ap (λ b. bytes_eq t e.0 || b) rest

-- one more subscription changes nothing of the other topics
pub alike-more : (topic : Topic) (v w : Wanted) → w ≡ with_one_more topic v → WantsAlike topic v w
alike-more topic v w is = λ t other.
    ap (λ l. wants l t) is ∙ wants_keys (with_one_more topic v) t
    ∙ by (wants v topic) t (nat_list_eq_equiv.symm t topic ∙ other) ∙ sym (wants_keys v t)
  where
    by : (b : Bool) (t : Topic) → bytes_eq t topic ≡ false
        → is_among (keys_of (cond b (set_value (bytes_eq topic) v (min (count_of v topic + 1) most_equal)) (insert_entry topic_cmp v topic 1))) t ≡ is_among (keys_of v) t
    by true t other = ap (λ l. is_among l t) (keys-set_value (bytes_eq topic) v (min (count_of v topic + 1) most_equal))
    by false t other = insert_other topic t 1 v other

pub short-more : (topic : Topic) (v w : Wanted) → w ≡ with_one_more topic v → IsTopic topic → All IsTopic (keys_of v) → All IsTopic (keys_of w)
short-more topic v w is short all = subst (λ l. All IsTopic (keys_of l)) (sym is) (by (wants v topic))
  where
    by : (b : Bool) → All IsTopic (keys_of (cond b (set_value (bytes_eq topic) v (min (count_of v topic + 1) most_equal)) (insert_entry topic_cmp v topic 1)))
    by true = subst (All IsTopic) (sym (keys-set_value (bytes_eq topic) v (min (count_of v topic + 1) most_equal))) all
    by false = All-keys-insert_entry topic_cmp topic 1 IsTopic v all short

-- nor does one less
pub alike-less : (topic : Topic) (v w : Wanted) → w ≡ with_one_less topic v → WantsAlike topic v w
alike-less topic v w is = λ t other.
    ap (λ l. wants l t) is ∙ wants_keys (with_one_less topic v) t
    ∙ by (nat_le (count_of v topic) 1) t (nat_list_eq_equiv.symm t topic ∙ other) ∙ sym (wants_keys v t)
  where
    by : (b : Bool) (t : Topic) → bytes_eq t topic ≡ false
        → is_among (keys_of (cond b (remove_entry (bytes_eq topic) v) (set_value (bytes_eq topic) v (count_of v topic - 1)))) t ≡ is_among (keys_of v) t
    by true t other = remove_other topic t v other
    by false t other = ap (λ l. is_among l t) (keys-set_value (bytes_eq topic) v (count_of v topic - 1))

pub short-less : (topic : Topic) (v w : Wanted) → w ≡ with_one_less topic v → All IsTopic (keys_of v) → All IsTopic (keys_of w)
short-less topic v w is all = subst (λ l. All IsTopic (keys_of l)) (sym is) (by (nat_le (count_of v topic) 1))
  where
    by : (b : Bool) → All IsTopic (keys_of (cond b (remove_entry (bytes_eq topic) v) (set_value (bytes_eq topic) v (count_of v topic - 1))))
    by true = All-map-remove_entry (bytes_eq topic) (λ (e : Topic × ℕ). e.0) IsTopic v all
    by false = subst (All IsTopic) (sym (keys-set_value (bytes_eq topic) v (count_of v topic - 1))) all

-- ---- peers come and go

-- a place above the others is none of them
differs : (q p : ℕ) → q < p → nat_eq q p ≡ false
differs q p below = by (nat_eq q p) refl
  where
    by : (b : Bool) → nat_eq q p ≡ b → nat_eq q p ≡ false
    by false e = e
    by true e = let same : q ≡ p = exact_unsigned_eq q p e in absurd (omega (arith, same, below))

all_pushed : (q p : ℕ) (fs : List Follower) (f : Follower) → f.place ≡ p → AllByRecursion (λ k. nat_eq q k ≡ false) (places_of fs) → nat_eq q p ≡ false
    → AllByRecursion (λ k. nat_eq q k ≡ false) (places_of (fs ++ f ∷ []))
all_pushed q p [] f is all new = (ap (nat_eq q) is ∙ new, tt)
all_pushed q p (g ∷ fs) f is all new = (all.0, all_pushed q p fs f is all.1 new)

apart_none : IsDistinct nat_eq []
unfolding IsDistinct
apart_none = tt

-- nothing is wanted, and there are no peers
pub AreFollowed-none : AreFollowed [] [] true
AreFollowed-none = record {
  short = All-nil IsTopic;
  apart = apart_none;
  follow = All-nil (IsFollower []);
  none_left = λ quiet. All-nil (IsTold []);
}

apart_pushed : (fs : List Follower) (f : Follower) → IsDistinct nat_eq (places_of fs) → All (λ q. q < f.place) (places_of fs) → IsDistinct nat_eq (places_of (fs ++ f ∷ []))
apart_pushed [] f apart last = IsDistinct-cons nat_eq f.place [] tt apart_none
apart_pushed (g ∷ fs) f apart last =
    IsDistinct-cons nat_eq g.place (places_of (fs ++ f ∷ []))
    (all_pushed g.place f.place fs f refl (IsDistinct-head nat_eq g.place (places_of fs) apart) (differs g.place f.place (All-head (λ q. q < f.place) g.place (places_of fs) last)))
    (apart_pushed fs f (IsDistinct-tail nat_eq g.place (places_of fs) apart) (All-tail (λ q. q < f.place) g.place (places_of fs) last))

all_removed : (q : ℕ) (fs : List Follower) (i : ℕ) → AllByRecursion (λ k. nat_eq q k ≡ false) (places_of fs) → AllByRecursion (λ k. nat_eq q k ≡ false) (places_of (remove fs i))
all_removed q [] zero all = all
all_removed q [] (suc i) all = all
all_removed q (f ∷ fs) zero all = all.1
all_removed q (f ∷ fs) (suc i) all = (all.0, all_removed q fs i all.1)

apart_removed : (fs : List Follower) (i : ℕ) → IsDistinct nat_eq (places_of fs) → IsDistinct nat_eq (places_of (remove fs i))
apart_removed [] zero apart = apart
apart_removed [] (suc i) apart = apart
apart_removed (f ∷ fs) zero apart = IsDistinct-tail nat_eq f.place (places_of fs) apart
apart_removed (f ∷ fs) (suc i) apart =
    IsDistinct-cons nat_eq f.place (places_of (remove fs i)) (all_removed f.place fs i (IsDistinct-head nat_eq f.place (places_of fs) apart))
    (apart_removed fs i (IsDistinct-tail nat_eq f.place (places_of fs) apart))

-- the rows have the places that the peers have
pub apart_rows : (fs gs : List Follower) → rows_of gs ≡ rows_of fs → IsDistinct nat_eq (places_of fs) → IsDistinct nat_eq (places_of gs)
apart_rows fs gs same apart = subst (IsDistinct nat_eq) (sym (keys_rows fs) ∙ ap keys_of (sym same) ∙ keys_rows gs) apart

-- a turn that goes leaves no other of its place
pub others_turns : (place : ℕ) (turns : List ℕ) → AreOthers place (without_place place turns)
others_turns place [] = All-nil (λ k. nat_eq place k ≡ false)
others_turns place (k ∷ ks) = by (k == place) refl (others_turns place ks)
  where
    other : nat_eq k place ≡ false → nat_eq place k ≡ false
    other h = nat_eq_equiv.symm place k ∙ h

    by : (b : Bool) → nat_eq k place ≡ b → AreOthers place (without_place place ks) → AreOthers place (cond (not b) (k ∷ without_place place ks) (without_place place ks))
    by true same rest = rest
    by false h rest = All-cons (λ k. nat_eq place k ≡ false) k (without_place place ks) (other h) rest

-- no peer has the place of one that went
pub others_follow : (place : ℕ) (ins : List ℕ) (fs : List Follower) → IsDistinct nat_eq (places_of fs)
    → AreOthers place (without_place place ins ++ keys_of (remove_entry (nat_eq place) (rows_of fs)))
others_follow place ins fs apart =
    All-append (λ k. nat_eq place k ≡ false) (without_place place ins) (keys_of (remove_entry (nat_eq place) (rows_of fs))) (others_turns place ins)
    (others-left place (rows_of fs) (subst (IsDistinct nat_eq) (sym (keys_rows fs)) apart))

pub AreFollowed-with : (wanted : Wanted) (fs : List Follower) (f : Follower) (quiet : Bool) → AreFollowed wanted fs quiet → All (λ q. q < f.place) (places_of fs)
    → f.told.told ≡ [] → f.told.lost ≡ true → AreFollowed wanted (fs ++ f ∷ []) false
AreFollowed-with wanted fs f quiet h last told lost = record {
  short = h.short;
  apart = apart_pushed fs f h.apart last;
  follow = All-push (IsFollower wanted) fs f h.follow (record {
    known = λ t found new. absurd (cc);
    wanted_are = h.short;
    told_are = subst (All IsTopic) (sym told) (λ k d lt. absurd (omega arith));
  });
  none_left = λ e. absurd (cc);
}

All-removed : (P : Follower → Type 0) (fs : List Follower) (i : ℕ) → All P fs → All P (remove fs i)
All-removed P [] zero all = all
All-removed P [] (suc i) all = all
All-removed P (f ∷ fs) zero all = All-tail P f fs all
All-removed P (f ∷ fs) (suc i) all = All-cons P f (remove fs i) (All-head P f fs all) (All-removed P fs i (All-tail P f fs all))

pub AreFollowed-without : (wanted : Wanted) (fs : List Follower) (i : ℕ) (quiet : Bool) → AreFollowed wanted fs quiet → AreFollowed wanted (remove fs i) quiet
AreFollowed-without wanted fs i quiet h = record {
  short = h.short;
  apart = apart_removed fs i h.apart;
  follow = All-removed (IsFollower wanted) fs i h.follow;
  none_left = λ e. All-removed (IsTold wanted) fs i (h.none_left e);
}

-- where nobody has anything left to be told, telling all makes no step
none_told : (can_write : End → Bool) (ends : ℕ → End) (wanted : Wanted) (fs : List Follower) → All (IsTold wanted) fs
    → TellsAll can_write wanted (subs_at ends (rows_of fs)) [] (subs_at ends (rows_of fs))
none_told can_write ends wanted [] told = (refl, refl)
none_told can_write ends wanted (f ∷ fs) told = (
  f.told.told,
  subs_at ends (rows_of fs),
  [],
  [],
  by (can_write (ends f.place)),
  none_told can_write ends wanted fs (All-tail (IsTold wanted) f fs told),
  refl,
  refl,
)
  where
    by : (b : Bool) → TellsWhere b wanted (ends f.place) f.told.told [] f.told.told
    by true = ([], (subst (λ d. EndsTelling d (ends f.place) []) (sym (All-head (IsTold wanted) f fs told)) refl, refl))
    by false = (refl, refl)

pub TellsPeers-none : {S : Type 0} (runs : S → List PipeStep → S → Type 0) (ends : ℕ → End) (writable : ℕ → Bool) (peers : S) (ins : List ℕ) (wanted : Wanted) (fs : List Follower)
    → runs peers [] peers → All (IsTold wanted) fs
    → TellsPeers runs ends writable peers peers (record { ins = ins; wanted = wanted; followers = rows_of fs }) (record { ins = ins; wanted = wanted; followers = rows_of fs })
TellsPeers-none runs ends writable peers ins wanted fs none told = record {
  steps = [];
  runs_are = none;
  step = λ can_write tells. record { followers = subs_at ends (rows_of fs); tells = none_told can_write ends wanted fs told; new_is = refl };
}

or_true : (b : Bool) → (b || true) ≡ true
or_true true = refl
or_true false = refl

-- a place of either list is one of both
pub in_first : (ps qs : List ℕ) (q : ℕ) → is_place ps q ≡ true → is_place (ps ++ qs) q ≡ true
in_first ps qs q there = list_any-append (nat_eq q) ps qs ∙ ap (λ b. b || is_place qs q) there

pub in_second : (ps qs : List ℕ) (q : ℕ) → is_place qs q ≡ true → is_place (ps ++ qs) q ≡ true
in_second ps qs q there = list_any-append (nat_eq q) ps qs ∙ ap (λ b. is_place ps q || b) there ∙ or_true (is_place ps q)

-- a peer comes
joins-at : (ends : ℕ → End) (place : ℕ) (s : SubState) → Joins ends place s (with_publisher_at place s)
joins-at ends place s = λ j. record {
  ins = map-append ends s.ins (place ∷ []) j;
  wanted = s.wanted;
  followers = map-append (λ (f : ℕ × List Topic). (ends f.0, f.1)) s.followers ((place, []) ∷ []) j;
}

pub Joins-ok : (r : Result (Unit {0}) AllocError) (place : ℕ) (v p q : SubState) → v ≡ p → OnOk r (q ≡ with_publisher_at place v) → OnOk r ((ends : ℕ → End) → Joins ends place p q)
Joins-ok (Ok x) place v p q same is = λ ends. subst (λ x. Joins ends place x q) same (ap (subscriber_at ends) is ∙ joins-at ends place v)
Joins-ok (Err e) place v p q same is = tt

-- a peer goes
leaves-at : (ends : ℕ → End) (place : ℕ) (s : SubState) → Leaves ends place s (without_publisher_at place s)
leaves-at ends place s = λ apart there j. record {
  ins =
      sym (without-ins ends place s.ins
      (λ k in_. apart place k there (in_first s.ins (keys_of s.followers) k in_))) j;
  wanted = s.wanted;
  followers =
      sym (without-subs_at ends place s.followers
      (λ k in_. apart place k there (in_second s.ins (keys_of s.followers) k in_))) j;
}

pub Leaves-gone : (place : ℕ) (v p q : SubState) → v ≡ p → q ≡ without_publisher_at place v → (ends : ℕ → End) → Leaves ends place p q
Leaves-gone place v p q is gone ends = subst (λ x. Leaves ends place x q) is (λ apart there. ap (subscriber_at ends) gone ∙ leaves-at ends place v apart there)

-- ---- receiving

-- a receive that drops and gives nothing, by its cause
pub MatchRecv-fault : (D memory : Type 0) (P : ℕ → Frames → Type 0) (Q : RecvRefusal → Type 0) (R : RecvAnswer → Type 0) (f : RecvFault)
    → (D → memory) → ((refusal : RecvRefusal) → Q refusal → R (got.Refused refusal)) → MatchDropping (Err f) D P Q → MatchRecv (Err f) memory R
MatchRecv-fault D memory P Q R (recv.Refused refusal) stopped refused h = refused refusal h
MatchRecv-fault D memory P Q R recv.OutOfMemory stopped refused h = stopped h

module _ {S : Type 0} (runs : S → List PipeStep → S → Type 0) (ends : ℕ → End) (old new : S) (s0 s : SubState) (is : s0 ≡ s) (told told' : List Skip) (ins' : List ℕ) where
  -- what was received by turn
  pub SubGives-over : (answer answer' : RecvAnswer) → answer' ≡ answer
      → ReceivesOver runs ends (wanted_of s0.wanted) Filtered (receiving old s0.ins told) (receiving new ins' told') answer Free Free
      → SubGives runs ends old new told told' s answer' (record s0 { ins = ins' })
  SubGives-over answer answer' same over =
      subst (λ (q : SubState). SubGives runs ends old new told told' q answer' (record s0 { ins = ins' })) is (record {
        steps = over.steps;
        runs_are = over.runs_are;
        skips = over.skips;
        step = (
          map ends ins',
          subst (λ a. ReceivesDropping (wanted_of s0.wanted) Filtered (map ends s0.ins) over.steps over.skips a (map ends ins') Free Free) (sym same) over.receives,
          refl,
        );
        told_are = over.told_are;
      })

  -- memory was wanting
  pub SubStops-few : DropsFew runs ends (wanted_of s0.wanted) Filtered (receiving old s0.ins told) (receiving new ins' told')
      → SubStops runs ends old new told told' s (record s0 { ins = ins' })
  SubStops-few few =
      subst (λ (q : SubState). SubStops runs ends old new told told' q (record s0 { ins = ins' })) is (record { dropped = few; new_is = refl })
