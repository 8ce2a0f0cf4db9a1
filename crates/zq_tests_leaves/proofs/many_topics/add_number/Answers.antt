use Rattle.std.proofs.Common.{◌≡◌, ◌∙◌, ◌||◌, ℕ, Bool, true, false, cond, List, nat_eq, is_some, sym, ap, Result, Ok, Err, OnOk, OnErr}
use Rattle.std.specs.Map.{lookup, set_value}
use Rattle.std.proofs.lemmas.Map.{keys-set_value}
use Rattle.std.proofs.lemmas.Map.Made.{is_some-lookup}
use Rattle.std.specs.List.{list_any}
use Rattle.spec_pattern.specs.Topics.{Topic, Subscribers, with_topic, topics_of, has_topic, is_full, after_add}
use Rattle.zq_tests_leaves.proofs.many_topics.add_number.Goals as goal

there_still : (t : Topic) (subs : Subscribers ℕ) → is_some (lookup (nat_eq 0) subs) ≡ true → is_some (lookup (nat_eq 0) (after_add nat_eq 0 t subs)) ≡ true
there_still t subs there = by (has_topic nat_eq subs 0 t || is_full nat_eq subs 0)
  where
    more : List Topic
    more = with_topic t (topics_of nat_eq subs 0)

    by : (b : Bool) → is_some (lookup (nat_eq 0) (cond b subs (set_value (nat_eq 0) subs more))) ≡ true
    by true = there
    by false =
        is_some-lookup (nat_eq 0) (set_value (nat_eq 0) subs more)
        ∙ ap (λ keys. list_any (nat_eq 0) keys) (keys-set_value (nat_eq 0) subs more)
        ∙ sym (is_some-lookup (nat_eq 0) subs) ∙ there

kept : {R E : Type 0} (r : Result R E) (t : Topic) (old new : Subscribers ℕ) → is_some (lookup (nat_eq 0) old) ≡ true → OnOk r (new ≡ after_add nat_eq 0 t old) → OnErr r (new ≡ old) → is_some (lookup (nat_eq 0) new) ≡ true
kept (Ok _) t old new there ok err = ap (λ subs. is_some (lookup (nat_eq 0) subs)) ok ∙ there_still t old there
kept (Err _) t old new there ok err = ap (λ subs. is_some (lookup (nat_eq 0) subs)) err ∙ there

pub returns : goal.returns
returns c = kept c.add.result _ _ _ c.requires c.add.ensures.ok c.add.ensures.err
