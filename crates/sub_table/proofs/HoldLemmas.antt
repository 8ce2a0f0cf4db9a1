-- What a change of one topic's peers does to who has which topic.
use Rattle.std.proofs.Common.{◌≡◌, ◌∙◌, ℕ, Bool, true, false, not, cond, ◌||◌, ◌&&◌, List, [], nat_eq, Option, Some, None, refl, sym, ap}
use Rattle.std.specs.BTreeMap.{BTreeMap, UpdatesBy}
use Rattle.std.specs.Cmp.Lexicographic.{slice_cmp, bytes_decides}
use Rattle.std.specs.Map.{lookup, KeepsOthers}
use Rattle.std.specs.Option.{unwrap_or}
use Rattle.std.specs.Ordering.{nat_cmp}
use Rattle.std.specs.Str.{bytes_eq}
use Rattle.std.specs.declared.vec.Vec.{Vec}
use Rattle.spec_pattern.specs.Topics.{Topic}
use Rattle.sub_table.specs.View.{entries_of, is_peer, holders_of, holds, Gains, Loses}
use Rattle.sub_table.proofs.ViewLemmas.{at_key, key_cmp, lookup-entries_of, is_key_test, are_apart}

module _ {A X : Type 0} where
  -- what a tree finds after one topic was set or taken out
  pub lookup-updated : (topic t : Topic) (m n : BTreeMap (Vec ℕ A) X) (w : Option X) → UpdatesBy key_cmp (λ k. slice_cmp nat_cmp topic k.items) m n w
      → lookup (bytes_eq t) (entries_of n.entries) ≡ cond (bytes_eq topic t) w (lookup (bytes_eq t) (entries_of m.entries))
  unfolding KeepsOthers
  lookup-updated topic t m n w u = by (bytes_eq topic t) refl
    where
      by : (b : Bool) → bytes_eq topic t ≡ b → lookup (bytes_eq t) (entries_of n.entries) ≡ cond b w (lookup (bytes_eq t) (entries_of m.entries))
      by true same = ap (λ q. lookup (bytes_eq q) (entries_of n.entries)) (sym ((bytes_decides topic t).0 same)) ∙ sym (lookup-entries_of topic n.entries) ∙ u.1
      by false other = sym (lookup-entries_of t n.entries) ∙ u.3 (at_key {A = A} t) (is_key_test {A = A} t) (are_apart {A = A} topic t other) ∙ lookup-entries_of t m.entries

-- a topic's peers after one topic's were set
abbrev pub SetsPeers : Topic → Option (List ℕ) → List (Topic × List ℕ) → List (Topic × List ℕ) → Type 0
SetsPeers topic w old new = (t : Topic) → lookup (bytes_eq t) new ≡ cond (bytes_eq topic t) w (lookup (bytes_eq t) old)

-- a look-up is what it was
same_lookup : (topic t : Topic) (held : List (Topic × List ℕ)) → lookup (bytes_eq t) held ≡ cond (bytes_eq topic t) (lookup (bytes_eq topic) held) (lookup (bytes_eq t) held)
same_lookup topic t held = by (bytes_eq topic t) refl
  where
    by : (b : Bool) → bytes_eq topic t ≡ b → lookup (bytes_eq t) held ≡ cond b (lookup (bytes_eq topic) held) (lookup (bytes_eq t) held)
    by true same = ap (λ l. lookup (bytes_eq l) held) (sym ((bytes_decides topic t).0 same))
    by false other = refl

-- who has which topic, where the peers of one were set
holds-set : (topic : Topic) (w : Option (List ℕ)) (old new : List (Topic × List ℕ)) → SetsPeers topic w old new
    → (change : Bool → Bool → Bool → Bool) → ((b : Bool) (q : ℕ) → change false b (holds old topic q) ≡ holds old topic q)
    → (f : ℕ → Bool) → ((q : ℕ) → is_peer (unwrap_or w []) q ≡ change true (f q) (holds old topic q))
    → ((b c : Bool) → change false b c ≡ c)
    → (t : Topic) (q : ℕ) → holds new t q ≡ change (bytes_eq topic t) (f q) (holds old t q)
holds-set topic w old new sets change _ f here there t q = by (bytes_eq topic t) refl
  where
    by : (b : Bool) → bytes_eq topic t ≡ b → holds new t q ≡ change b (f q) (holds old t q)
    by true same =
        ap (λ o. is_peer (unwrap_or o []) q) (sets t ∙ ap (λ b. cond b w (lookup (bytes_eq t) old)) same)
        ∙ here q ∙ ap (λ l. change true (f q) (holds old l q)) ((bytes_decides topic t).0 same)
    by false other =
        ap (λ o. is_peer (unwrap_or o []) q) (sets t ∙ ap (λ b. cond b w (lookup (bytes_eq t) old)) other)
        ∙ sym (there (f q) (holds old t q))

-- a peer more
pub Gains-set : (topic : Topic) (peer : ℕ) (w : List ℕ) (old new : List (Topic × List ℕ)) → SetsPeers topic (Some w) old new
    → ((q : ℕ) → is_peer w q ≡ (nat_eq peer q || holds old topic q)) → Gains topic peer old new
Gains-set topic peer w old new sets here =
    holds-set topic (Some w) old new sets (λ a b c. (a && b) || c) (λ b q. refl) (nat_eq peer) here (λ b c. refl)

-- a peer less, where some are left or none
pub Loses-set : (topic : Topic) (peer : ℕ) (w : Option (List ℕ)) (old new : List (Topic × List ℕ)) → SetsPeers topic w old new
    → ((q : ℕ) → is_peer (unwrap_or w []) q ≡ (not (nat_eq peer q) && holds old topic q)) → Loses topic peer old new
Loses-set topic peer w old new sets here =
    holds-set topic w old new sets (λ a b c. not (a && b) && c) (λ b q. refl) (nat_eq peer) here (λ b c. refl)

-- where a topic has no peers, none is lost
pub Loses-none : (topic : Topic) (peer : ℕ) (held : List (Topic × List ℕ)) → holders_of held topic ≡ [] → Loses topic peer held held
Loses-none topic peer held none =
    holds-set topic (lookup (bytes_eq topic) held) held held (λ t. same_lookup topic t held) (λ a b c. not (a && b) && c) (λ b q. refl) (nat_eq peer)
    (λ q. ap (λ l. is_peer l q) none ∙ sym (and_false (not (nat_eq peer q))) ∙ ap (λ l. not (nat_eq peer q) && is_peer l q) (sym none)) (λ b c. refl)
  where
    and_false : (b : Bool) → (b && false) ≡ false
    and_false true = refl
    and_false false = refl

module _ {A : Type 0} where
  -- a topic's peers, once they were set
  pub holders_of-updated : (topic : Topic) (m n : BTreeMap (Vec ℕ A) (List ℕ)) (w : Option (List ℕ)) → UpdatesBy key_cmp (λ k. slice_cmp nat_cmp topic k.items) m n w
      → holders_of (entries_of n.entries) topic ≡ unwrap_or w []
  holders_of-updated topic m n w u = ap (λ o. unwrap_or o []) (sym (lookup-entries_of topic n.entries) ∙ u.1)

  -- a topic's peers, as the tree finds them
  pub holders_of-found : (topic : Topic) (m : BTreeMap (Vec ℕ A) (List ℕ)) (w : Option (List ℕ)) → w ≡ lookup (at_key topic) m.entries
      → holders_of (entries_of m.entries) topic ≡ unwrap_or w []
  holders_of-found topic m w found = ap (λ o. unwrap_or o []) (sym (found ∙ lookup-entries_of topic m.entries))

-- where a topic has lost its last peer, its entry may go
pub Loses-emptied : (topic : Topic) (peer : ℕ) (old mid new : List (Topic × List ℕ)) → Loses topic peer old mid → holders_of mid topic ≡ []
    → SetsPeers topic None mid new → Loses topic peer old new
Loses-emptied topic peer old mid new lost none sets t q =
    holds-set topic None mid new sets (λ a b c. c) (λ b q. refl) (nat_eq peer) (λ q. ap (λ l. is_peer l q) (sym none)) (λ b c. refl) t q ∙ lost t q

-- where a topic's peers are set to what they were, all is held that was
pub holds-kept : (topic : Topic) (w : List ℕ) (old new : List (Topic × List ℕ)) → SetsPeers topic (Some w) old new → w ≡ holders_of old topic
    → (t : Topic) (q : ℕ) → holds new t q ≡ holds old t q
holds-kept topic w old new sets same =
    holds-set topic (Some w) old new sets (λ a b c. c) (λ b q. refl) (λ q. false) (λ q. ap (λ l. is_peer l q) same) (λ b c. refl)
