-- What look-ups find, and what is noted, once a key is held or free.
use Rattle.std.proofs.Common.{◌≡◌, ◌∙◌, Bool, true, false, cond, ◌||◌, Option, None, Some, List, [], ◌∷◌, ◌++◌, refl, sym, ap, subst, true≢false}
use Rattle.std.proofs.lemmas.Bool.{eqb-true}
use Rattle.std.proofs.lemmas.List.Folds.{list_any-append}
use Rattle.std.proofs.lemmas.Map.Entries.{place_from_lookup}
use Rattle.std.specs.Cmp.{IsEquivalence}
use Rattle.std.specs.List.{list_any}
use Rattle.std.specs.Map.{lookup, AreApart, IsKeyTest, KeepsOthers}
use Rattle.indexmap.specs.IndexSet.{insert_key}
use Rattle.zq_base.specs.declared.ids.ObjId.{ObjId}
use Rattle.spec_control.specs.declared.book.Binding.{Binding}
use Rattle.spec_control.specs.EndpointBook.{is_object, is_held_by}
use Rattle.endpoint_book.specs.Owned.{KeySets, keys_under, PutsUnder, KeepsUnder}
use Rattle.endpoint_book.specs.Held.{Holders, of_others, PutsHolder, IsAmongKeys, AreNoted, FreesAll, FreesKey}

-- what isn't both is not
pub not_both : (b : Bool) → (b ≡ true → false ≡ true) → b ≡ false
not_both true h = absurd (true≢false (sym (h refl)))
not_both false h = refl

-- tests that agree find the same
same_lookup : {K X : Type 0} (p q : K → Bool) → ((k : K) → p k ≡ q k) → (es : List (K × X)) → lookup p es ≡ lookup q es
same_lookup p q same [] = refl
same_lookup p q same (e ∷ es) = ap (λ b. cond b (Some e.1) (lookup p es)) (same e.0) ∙ ap (cond (q e.0) (Some e.1)) (same_lookup p q same es)

same_any : {K : Type 0} (p q : K → Bool) → ((k : K) → p k ≡ q k) → (ks : List K) → list_any p ks ≡ list_any q ks
same_any p q same [] = refl
same_any p q same (k ∷ ks) = ap (λ b. b || list_any p ks) (same k) ∙ ap (λ b. q k || b) (same_any p q same ks)

-- one more at the end
pub any_last : {K : Type 0} (p : K → Bool) (ks : List K) (k : K) → list_any p (ks ++ k ∷ []) ≡ (list_any p ks || p k)
any_last p ks k = list_any-append p ks (k ∷ []) ∙ ap (λ b. list_any p ks || b) (bare (p k))
  where
    bare : (b : Bool) → (b || false) ≡ b
    bare true = refl
    bare false = refl

-- what is of others is not the object's
others_not_held : (object : ObjId) (o : Option Binding) → is_held_by object (of_others object o) ≡ false
others_not_held object None = refl
others_not_held object (Some b) = by (is_object b.holder object) refl
  where
    by : (c : Bool) → is_object b.holder object ≡ c → is_held_by object (cond c None (Some b)) ≡ false
    by true e = refl
    by false e = e

-- what the object holds is not of others
pub none_of_others : (object : ObjId) (o : Option Binding) → is_held_by object o ≡ true → of_others object o ≡ None
none_of_others object None h = refl
none_of_others object (Some b) h = ap (λ c. cond c None (Some b)) h

-- what it doesn't hold is
pub all_of_others : (object : ObjId) (o : Option Binding) → is_held_by object o ≡ false → of_others object o ≡ o
all_of_others object None h = refl
all_of_others object (Some b) h = ap (λ c. cond c None (Some b)) h

-- one that is the other's is of the object of that number
pub same_object : {K S T : Type 0} (sets : KeySets K S T) (a b : ObjId) → is_object a b ≡ true → keys_under sets a ≡ keys_under sets b
same_object sets a b h = ap (λ n. let o : ObjId = record { 0 = n } in keys_under sets o) (eqb-true a.0 b.0 h)

module _ {K : Type 0} {eq : K → K → Bool} where
  -- a test that one key fails which another passes is apart from that
  apart_at : (t p : K → Bool) → IsKeyTest eq t → IsKeyTest eq p → (k : K) → p k ≡ true → t k ≡ false → AreApart t p
  apart_at t p ht hp k pk tk x tx = not_both (p x) (λ px. sym tk ∙ ht x k tx ∙ sym (hp x k px) ∙ pk)

  -- a key that is held is not free
  freed_others : {X : Type 0} (t p : K → Bool) → IsKeyTest eq t → IsKeyTest eq p → (es : List (K × X)) (x : X) → lookup t es ≡ None → lookup p es ≡ Some x → AreApart t p
  freed_others {X = X} t p ht hp es x none some = by (t k) refl
    where
      k : K
      k = (place_from_lookup p es x some).1

      pk : p k ≡ true
      pk = (place_from_lookup p es x some).3

      found : Option X → Bool
      found None = false
      found (Some x) = true

      by : (b : Bool) → t k ≡ b → AreApart t p
      by true tk = absurd (true≢false (ap found (sym some ∙ same_lookup p t (λ y. hp k y pk ∙ sym (ht k y tk)) es ∙ none)))
      by false tk = apart_at t p ht hp k pk tk

module _ {K : Type 0} {eq : K → K → Bool} (laws : IsEquivalence eq) where
  -- a key that a test fails is apart from it
  apart_from : (key : K) (p : K → Bool) → IsKeyTest eq p → p key ≡ false → AreApart (eq key) p
  apart_from key p hp other x same = not_both (p x) (λ px. sym other ∙ hp x key px ∙ laws.symm x key ∙ same)

  -- what each key has once one was put
  pub lookup-put : (key : K) (w : Option Binding) (es fs : Holders K) → PutsHolder eq (eq key) w es fs
      → (p : K → Bool) → IsKeyTest eq p → lookup p fs ≡ cond (p key) w (lookup p es)
  unfolding KeepsOthers
  lookup-put key w es fs puts p hp = by (p key) refl
    where
      by : (b : Bool) → p key ≡ b → lookup p fs ≡ cond b w (lookup p es)
      by true pk = same_lookup p (eq key) (λ y. hp key y pk) fs ∙ puts.0
      by false pk = puts.1 p hp (apart_from key p hp pk)

  -- the keys that were there are there still
  any-inserted : (ks : List K) (key : K) (p : K → Bool) → list_any p ks ≡ true → list_any p (insert_key eq ks key) ≡ true
  any-inserted ks key p h = by (list_any (eq key) ks)
    where
      by : (b : Bool) → list_any p (cond b ks (ks ++ key ∷ [])) ≡ true
      by true = h
      by false = any_last p ks key ∙ ap (λ b. b || p key) h

  -- and that one is
  inserted_there : (ks : List K) (key : K) (p : K → Bool) → IsKeyTest eq p → p key ≡ true → list_any p (insert_key eq ks key) ≡ true
  inserted_there ks key p hp pk = by (list_any (eq key) ks) refl
    where
      either : (b : Bool) → (b || true) ≡ true
      either true = refl
      either false = refl

      by : (b : Bool) → list_any (eq key) ks ≡ b → list_any p (cond b ks (ks ++ key ∷ [])) ≡ true
      by true e = same_any p (eq key) (λ y. hp key y pk) ks ∙ e
      by false e = any_last p ks key ∙ ap (λ b. list_any p ks || b) pk ∙ either (list_any p ks)

  module _ {S T : Type 0} where
    -- what was noted is, once a key more is
    pub noted_more : (object : ObjId) (key : K) (old new : KeySets K S T) → PutsUnder object (insert_key eq (keys_under old object) key) old new
        → (o : ObjId) (p : K → Bool) → list_any p (keys_under old o) ≡ true → list_any p (keys_under new o) ≡ true
    noted_more object key old new puts o p h = by (is_object object o) refl (puts o)
      where
        by : (b : Bool) → is_object object o ≡ b → keys_under new o ≡ cond b (insert_key eq (keys_under old object) key) (keys_under old o) → list_any p (keys_under new o) ≡ true
        by true same is = ap (list_any p) is ∙ any-inserted (keys_under old object) key p (ap (list_any p) (same_object old object o same) ∙ h)
        by false other is = ap (list_any p) is ∙ h

    -- and that key is
    pub noted_there : (object : ObjId) (key : K) (old new : KeySets K S T) → PutsUnder object (insert_key eq (keys_under old object) key) old new
        → (o : ObjId) → is_object object o ≡ true → (p : K → Bool) → IsKeyTest eq p → p key ≡ true → list_any p (keys_under new o) ≡ true
    noted_there object key old new puts o same p hp pk =
        ap (list_any p) (puts o ∙ ap (λ b. cond b (insert_key eq (keys_under old object) key) (keys_under old o)) same)
        ∙ inserted_there (keys_under old object) key p hp pk

    -- what is held is noted once a key more is held
    pub AreNoted-held : (key noted : K) (binding : Binding) (es fs : Holders K) (old new : KeySets K S T) → eq key noted ≡ true → AreNoted eq es old
        → PutsHolder eq (eq key) (Some binding) es fs → PutsUnder binding.holder (insert_key eq (keys_under old binding.holder) noted) old new → AreNoted eq fs new
    AreNoted-held key noted binding es fs old new same are puts under o p hp held = by (p key) refl (lookup-put key (Some binding) es fs puts p hp)
      where
        by : (b : Bool) → p key ≡ b → lookup p fs ≡ cond b (Some binding) (lookup p es) → list_any p (keys_under new o) ≡ true
        by true pk is = noted_there binding.holder noted old new under o (ap (is_held_by o) (sym is) ∙ held) p hp (hp key noted pk ∙ same)
        by false pk is = noted_more binding.holder noted old new under o p (are o p hp (ap (is_held_by o) (sym is) ∙ held))

    -- and once one is free
    pub AreNoted-freed : (object : ObjId) (t : K → Bool) (es fs : Holders K) (old new : KeySets K S T) → IsKeyTest eq t → AreNoted eq es old
        → PutsHolder eq t None es fs → KeepsUnder eq object t old new → AreNoted eq fs new
    unfolding KeepsOthers
    AreNoted-freed object t es fs old new ht are puts keeps o p hp held = by (lookup p fs) refl
      where
        by : (r : Option Binding) → lookup p fs ≡ r → list_any p (keys_under new o) ≡ true
        by None e = absurd (true≢false (sym held ∙ ap (is_held_by o) e))
        by (Some b) e =
            let apart = freed_others t p ht hp fs b puts.0 e in
            keeps o p hp (λ _. apart) ∙ are o p hp (ap (is_held_by o) (sym (puts.1 p hp apart)) ∙ held)

  -- a key of the object's is free
  pub FreesKey-freed : (key : K) (object : ObjId) (es fs : Holders K) (b : Bool) → b ≡ is_held_by object (lookup (eq key) es) → b ≡ true → PutsHolder eq (eq key) None es fs → FreesKey eq key object es fs
  FreesKey-freed key object es fs b is met puts p hp = lookup-put key None es fs puts p hp ∙ by (p key) refl
    where
      by : (b : Bool) → p key ≡ b → cond b None (lookup p es) ≡ cond b (of_others object (lookup p es)) (lookup p es)
      by true pk = sym (ap (of_others object) (same_lookup p (eq key) (λ y. hp key y pk) es) ∙ none_of_others object (lookup (eq key) es) (sym is ∙ met))
      by false pk = refl

-- some keys of an object are free, and what it holds is among these
pub record FreesSome {K : Type 0} (eq : K → K → Bool) (object : ObjId) (keys : List K) (old new : Holders K) : Type 0 where
  pub among : IsAmongKeys eq object keys new
  pub others : (p : K → Bool) → IsKeyTest eq p → of_others object (lookup p new) ≡ of_others object (lookup p old)

module _ {K : Type 0} {eq : K → K → Bool} where
  -- one key more is free
  pub FreesSome-more : (object : ObjId) (keys rest : List K) (key : K) (old now new : Holders K) → keys ≡ rest ++ key ∷ [] → FreesSome eq object keys old now → FreesKey eq key object now new
      → FreesSome eq object rest old new
  FreesSome-more object keys rest key old now new is some frees = record { among = among; others = λ p hp. ap (of_others object) (frees p hp) ∙ twice (p key) (lookup p now) ∙ some.others p hp }
    where
      twice : (b : Bool) (r : Option Binding) → of_others object (cond b (of_others object r) r) ≡ of_others object r
      twice true r = all_of_others object (of_others object r) (others_not_held object r)
      twice false r = refl

      here : (a : Bool) → (a || false) ≡ true → a ≡ true
      here true h = refl
      here false h = h

      among : IsAmongKeys eq object rest new
      among p hp held = by (p key) refl (frees p hp)
        where
          by : (b : Bool) → p key ≡ b → lookup p new ≡ cond b (of_others object (lookup p now)) (lookup p now) → list_any p rest ≡ true
          by true pk e = absurd (true≢false (sym held ∙ ap (is_held_by object) e ∙ others_not_held object (lookup p now)))
          by false pk e =
              here (list_any p rest) (ap (λ b. list_any p rest || b) (sym pk) ∙ sym (any_last p rest key) ∙ ap (list_any p) (sym is) ∙ some.among p hp (ap (is_held_by object) (sym e) ∙ held))

  -- where nothing is among the keys any more, all is free
  pub FreesSome-all : (object : ObjId) (old new : Holders K) → FreesSome eq object [] old new → FreesAll eq object old new
  FreesSome-all object old new some p hp = sym (all_of_others object (lookup p new) (not_both (is_held_by object (lookup p new)) (some.among p hp))) ∙ some.others p hp

  -- where nothing is noted, nothing is held
  pub FreesAll-none : {S T : Type 0} (object : ObjId) (es : Holders K) (sets : KeySets K S T) → AreNoted eq es sets → [] ≡ keys_under sets object → FreesAll eq object es es
  FreesAll-none object es sets are none =
      FreesSome-all object es es (record { among = subst (λ ks. IsAmongKeys eq object ks es) (sym none) (are object); others = λ p hp. refl })
