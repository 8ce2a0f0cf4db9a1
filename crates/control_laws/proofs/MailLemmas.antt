-- Mailboxes: a command that is put is the newest of its link, and the oldest of a mailbox is the oldest of its link.
use Rattle.std.specs.Prelude.{◌≡◌, ◌≢◌, ◌⊎◌, ◌<◌, ◌==◌, ◌&&◌, ℕ, Bool, true, false, cond, List, [], ◌∷◌, ◌++◌, length, refl}
use Rattle.std.proofs.Common.{arith, sym, ap, ◌∙◌, inl, inr, append_assoc}
use Rattle.std.proofs.lemmas.List.{get_or-set_same, get_or-set_other}
use Rattle.std.proofs.lemmas.Bool.{eq-eqb, eqb-true, ne_eqb, cases_eq}
use Rattle.spec_control.specs.declared.letter.Letter.{Letter}
use Rattle.spec_control.specs.PairPhase.{behind_first}
use Rattle.spec_control.specs.Row.{Row, nobody}
use Rattle.spec_control.specs.Rows.{Rows, PairRow, no_pair, obj, pair, with_object, with_pair, end_owner}
use Rattle.spec_control.specs.Control.{same_side, with_value}
use Rattle.spec_control.specs.After.{owner_or_root}
use Rattle.control_laws.specs.Mail.{Mark, Link, UpLink, DownLink, EndLink, is_link, marks, on_way, up_marks, down_marks, end_marks, queue, addressee, slot_of, Delivers, IsDelivered, with_queue}
use Rattle.control_laws.proofs.ListLemmas.{never, is_here as here_is, is_elsewhere, written}

nil_right : {X : Type 0} (xs : List X) → xs ++ [] ≡ xs
nil_right [] = refl
nil_right (x ∷ xs) = ap (λ (l : List _). x ∷ l) (nil_right xs)

pub full : {X : Type 0} (x : X) (xs : List X) → [] ≡ x ∷ xs → ⊥
full x xs h = Prim.grind arith

-- which link is meant
side_self : (a : Bool) → same_side a a ≡ true
side_self true = refl
side_self false = refl

side_is : (a b : Bool) → same_side a b ≡ true → a ≡ b
side_is true true h = refl
side_is true false h = absurd (never h)
side_is false true h = absurd (never h)
side_is false false h = refl

left : (a b : Bool) → (a && b) ≡ true → a ≡ true
left true b h = refl
left false b h = absurd (never h)

right : (a b : Bool) → (a && b) ≡ true → b ≡ true
right true b h = h
right false b h = absurd (never h)

pub link_self : (l : Link) → is_link l l ≡ true
link_self (UpLink c) = eq-eqb c c refl
link_self (DownLink c) = eq-eqb c c refl
link_self (EndLink k a) = ap (λ (b : Bool). b && same_side a a) (eq-eqb k k refl) ∙ side_self a

pub link_is : (l m : Link) → is_link l m ≡ true → l ≡ m
link_is (UpLink c) (UpLink d) h = ap (λ (n : ℕ). UpLink n) (eqb-true c d h)
link_is (UpLink c) (DownLink d) h = absurd (never h)
link_is (UpLink c) (EndLink k a) h = absurd (never h)
link_is (DownLink c) (UpLink d) h = absurd (never h)
link_is (DownLink c) (DownLink d) h = ap (λ (n : ℕ). DownLink n) (eqb-true c d h)
link_is (DownLink c) (EndLink k a) h = absurd (never h)
link_is (EndLink k a) (UpLink d) h = absurd (never h)
link_is (EndLink k a) (DownLink d) h = absurd (never h)
link_is (EndLink k a) (EndLink j b) h = ap (λ (n : ℕ). EndLink n a) (eqb-true k j (left (k == j) (same_side a b) h)) ∙ ap (EndLink j) (side_is a b (right (k == j) (same_side a b) h))

pub with_here : (l : Link) (q : List Mark) (queues : Link → List Mark) → with_queue l q queues l ≡ q
with_here l q queues = ap (λ (b : Bool). cond b q (queues l)) (link_self l)

pub with_else : (l m : Link) (q : List Mark) (queues : Link → List Mark) → m ≢ l → with_queue l q queues m ≡ queues m
with_else l m q queues other = by (is_link m l) refl
  where
    by : (b : Bool) → is_link m l ≡ b → cond (is_link m l) q (queues m) ≡ queues m
    by true e = absurd (other (link_is m l e))
    by false e = ap (λ (b : Bool). cond b q (queues m)) e

pub value_here : {X : Type 0} (m : ℕ) (x : X) (f : ℕ → X) → with_value m x f m ≡ x
value_here m x f = ap (λ (b : Bool). cond b x (f m)) (eq-eqb m m refl)

pub value_else : {X : Type 0} (m n : ℕ) (x : X) (f : ℕ → X) → n ≢ m → with_value m x f n ≡ f n
value_else m n x f other = ap (λ (b : Bool). cond b x (f n)) (ne_eqb n m other)

-- a mailbox that gains a command
way_gains : (link : Link) (ls : List Letter) (l : Letter) → on_way link (ls ++ l ∷ []) ≡ on_way link ls ++ marks link l
way_gains link [] l = nil_right (marks link l)
way_gains link (d ∷ ls) l = ap (λ (q : List Mark). marks link d ++ q) (way_gains link ls l) ∙ sym (append_assoc (marks link d) (on_way link ls) (marks link l))

cancel : {X : Type 0} (xs ys zs : List X) → xs ++ ys ≡ xs ++ zs → ys ≡ zs
cancel [] ys zs h = h
cancel (x ∷ xs) ys zs h = cancel xs ys zs (ap behind_first h)

-- a letter on one link: it is put
pub put_one : (slot : Link → ℕ) (queues : Link → List Mark) (boxes : ℕ → List Letter) (l : Letter) (own : Link) (mark : Mark) → Delivers slot queues boxes →
    ((link : Link) → marks link l ≡ cond (is_link link own) (mark ∷ []) []) →
    Delivers slot (with_queue own (queues own ++ mark ∷ []) queues) (with_value (slot own) (boxes (slot own) ++ l ∷ []) boxes)
put_one slot queues boxes l own mark all is m link =
    elim (cases_eq m (slot own)) [
      | inl here ↦
          ap (on_way link) (ap (with_value (slot own) (boxes (slot own) ++ l ∷ []) boxes) here ∙ value_here (slot own) (boxes (slot own) ++ l ∷ []) boxes)
          ∙ way_gains link (boxes (slot own)) l
          ∙ ap (λ (q : List Mark). on_way link (boxes (slot own)) ++ q) (is link)
          ∙ ap (λ (q : List Mark). q ++ cond (is_link link own) (mark ∷ []) []) (all (slot own) link)
          ∙ at_own (is_link link own) refl
          ∙ ap (λ (n : ℕ). cond (slot link == n) (with_queue own (queues own ++ mark ∷ []) queues link) []) (sym here)
      | inr other ↦
          ap (on_way link) (value_else (slot own) m (boxes (slot own) ++ l ∷ []) boxes other) ∙ all m link ∙ elsewhere (is_link link own) refl other
    ]
  where
    at_own : (b : Bool) → is_link link own ≡ b → cond (slot link == slot own) (queues link) [] ++ cond b (mark ∷ []) [] ≡ cond (slot link == slot own) (cond b (queues own ++ mark ∷ []) (queues link)) []
    at_own true e =
        let same = link_is link own e in
        let here : (slot link == slot own) ≡ true = eq-eqb (slot link) (slot own) (ap slot same) in
        ap (λ (b : Bool). cond b (queues link) [] ++ mark ∷ []) here ∙ ap (λ (x : Link). queues x ++ mark ∷ []) same ∙ ap (λ (b : Bool). cond b (queues own ++ mark ∷ []) []) (sym here)
    at_own false e = nil_right (cond (slot link == slot own) (queues link) [])

    elsewhere : (b : Bool) → is_link link own ≡ b → m ≢ slot own → cond (slot link == m) (queues link) [] ≡ cond (slot link == m) (cond b (queues own ++ mark ∷ []) (queues link)) []
    elsewhere true e other =
        let there : (slot link == m) ≡ false = ne_eqb (slot link) m (λ (h : slot link ≡ m). other (sym h ∙ ap slot (link_is link own e))) in
        ap (λ (b : Bool). cond b (queues link) []) there ∙ ap (λ (b : Bool). cond b (queues own ++ mark ∷ []) []) (sym there)
    elsewhere false e other = refl

-- what is known of the oldest letter of a mailbox, where it is on one link
pub record Oldest (slot : Link → ℕ) (queues : Link → List Mark) (boxes : ℕ → List Letter) (m : ℕ) (rest : List Letter) (own : Link) (mark : Mark) : Type 0 where
  pub behind : List Mark
  pub is_first : queues own ≡ mark ∷ behind
  pub here : slot own ≡ m
  pub left_over : Delivers slot (with_queue own behind queues) (with_value m rest boxes)

-- the front of a link's queue that a mailbox shows
pub shown : (b : Bool) (q : List Mark) (x : Mark) (xs : List Mark) → x ∷ xs ≡ cond b q [] → (b ≡ true) × (q ≡ x ∷ xs)
shown true q x xs h = (refl, sym h)
shown false q x xs h = absurd (full x xs (sym h))

pub take_one : (slot : Link → ℕ) (queues : Link → List Mark) (boxes : ℕ → List Letter) (m : ℕ) (l : Letter) (rest : List Letter) (own : Link) (mark : Mark) → Delivers slot queues boxes →
    boxes m ≡ l ∷ rest → ((link : Link) → marks link l ≡ cond (is_link link own) (mark ∷ []) []) → Oldest slot queues boxes m rest own mark
take_one slot queues boxes m l rest own mark all is on = record { behind = on_way own rest; is_first = front.1; here = eqb-true (slot own) m front.0; left_over = left_over }
  where
    here : marks own l ≡ mark ∷ []
    here = on own ∙ ap (λ (b : Bool). cond b (mark ∷ []) []) (link_self own)

    front : ((slot own == m) ≡ true) × (queues own ≡ mark ∷ on_way own rest)
    front = shown (slot own == m) (queues own) mark (on_way own rest) (ap (λ (q : List Mark). q ++ on_way own rest) (sym here) ∙ ap (on_way own) (sym is) ∙ all m own)

    nothing : (link : Link) → is_link link own ≡ false → marks link l ≡ []
    nothing link e = on link ∙ ap (λ (b : Bool). cond b (mark ∷ []) []) e

    left_over : Delivers slot (with_queue own (on_way own rest) queues) (with_value m rest boxes)
    left_over n link =
        elim (cases_eq n m) [
          | inl same ↦
              ap (on_way link) (ap (with_value m rest boxes) same ∙ value_here m rest boxes)
              ∙ at_m (is_link link own) refl
              ∙ ap (λ (j : ℕ). cond (slot link == j) (with_queue own (on_way own rest) queues link) []) (sym same)
          | inr other ↦ ap (on_way link) (value_else m n rest boxes other) ∙ all n link ∙ elsewhere (is_link link own) refl other
        ]
      where
        at_m : (b : Bool) → is_link link own ≡ b → on_way link rest ≡ cond (slot link == m) (cond b (on_way own rest) (queues link)) []
        at_m true e =
            let same = link_is link own e in
            ap (λ (x : Link). on_way x rest) same ∙ ap (λ (b : Bool). cond b (on_way own rest) []) (sym (ap (λ (x : Link). slot x == m) same ∙ front.0))
        at_m false e = ap (λ (q : List Mark). q ++ on_way link rest) (sym (nothing link e)) ∙ ap (on_way link) (sym is) ∙ all m link

        elsewhere : (b : Bool) → is_link link own ≡ b → n ≢ m → cond (slot link == n) (queues link) [] ≡ cond (slot link == n) (cond b (on_way own rest) (queues link)) []
        elsewhere true e other =
            let there : (slot link == n) ≡ false = ne_eqb (slot link) n (λ (h : slot link ≡ n). other (sym h ∙ ap slot (link_is link own e) ∙ eqb-true (slot own) m front.0)) in
            ap (λ (b : Bool). cond b (queues link) []) there ∙ ap (λ (b : Bool). cond b (on_way own rest) []) (sym there)
        elsewhere false e other = refl

-- a letter on two links: it is taken
pub record OldestOfTwo (slot : Link → ℕ) (queues : Link → List Mark) (boxes : ℕ → List Letter) (m : ℕ) (rest : List Letter) (own also : Link) (mark more : Mark) : Type 0 where
  pub behind : List Mark
  pub is_first : queues own ≡ mark ∷ behind
  pub behind_also : List Mark
  pub is_first_also : queues also ≡ more ∷ behind_also
  pub left_over : Delivers slot (with_queue also behind_also (with_queue own behind queues)) (with_value m rest boxes)

pub take_two : (slot : Link → ℕ) (queues : Link → List Mark) (boxes : ℕ → List Letter) (m : ℕ) (l : Letter) (rest : List Letter) (own also : Link) (mark more : Mark) → Delivers slot queues boxes →
    boxes m ≡ l ∷ rest → is_link own also ≡ false → is_link also own ≡ false → ((link : Link) → marks link l ≡ cond (is_link link own) (mark ∷ []) [] ++ cond (is_link link also) (more ∷ []) []) →
    OldestOfTwo slot queues boxes m rest own also mark more
take_two slot queues boxes m l rest own also mark more all is apart apart_too on =
    record { behind = on_way own rest; is_first = front.1; behind_also = on_way also rest; is_first_also = front_also.1; left_over = left_over }
  where
    here : marks own l ≡ mark ∷ []
    here = on own ∙ ap (λ (b : Bool). cond b (mark ∷ []) [] ++ cond (is_link own also) (more ∷ []) []) (link_self own) ∙ ap (λ (b : Bool). (mark ∷ []) ++ cond b (more ∷ []) []) apart

    there : marks also l ≡ more ∷ []
    there = on also ∙ ap (λ (b : Bool). cond b (mark ∷ []) [] ++ cond (is_link also also) (more ∷ []) []) apart_too ∙ ap (λ (b : Bool). cond b (more ∷ []) []) (link_self also)

    front : ((slot own == m) ≡ true) × (queues own ≡ mark ∷ on_way own rest)
    front = shown (slot own == m) (queues own) mark (on_way own rest) (ap (λ (q : List Mark). q ++ on_way own rest) (sym here) ∙ ap (on_way own) (sym is) ∙ all m own)

    front_also : ((slot also == m) ≡ true) × (queues also ≡ more ∷ on_way also rest)
    front_also = shown (slot also == m) (queues also) more (on_way also rest) (ap (λ (q : List Mark). q ++ on_way also rest) (sym there) ∙ ap (on_way also) (sym is) ∙ all m also)

    nothing : (link : Link) → is_link link own ≡ false → is_link link also ≡ false → marks link l ≡ []
    nothing link e f = on link ∙ ap (λ (b : Bool). cond b (mark ∷ []) [] ++ cond (is_link link also) (more ∷ []) []) e ∙ ap (λ (b : Bool). cond b (more ∷ []) []) f

    left_over : Delivers slot (with_queue also (on_way also rest) (with_queue own (on_way own rest) queues)) (with_value m rest boxes)
    left_over n link =
        elim (cases_eq n m) [
          | inl same ↦
              ap (on_way link) (ap (with_value m rest boxes) same ∙ value_here m rest boxes)
              ∙ at_m (is_link link also) refl (is_link link own) refl
              ∙ ap (λ (j : ℕ). cond (slot link == j) (with_queue also (on_way also rest) (with_queue own (on_way own rest) queues) link) []) (sym same)
          | inr other ↦ ap (on_way link) (value_else m n rest boxes other) ∙ all n link ∙ elsewhere (is_link link also) refl (is_link link own) refl other
        ]
      where
        its : (own : Link) → (slot own == m) ≡ true → is_link link own ≡ true → on_way link rest ≡ cond (slot link == m) (on_way own rest) []
        its own f e =
            let same = link_is link own e in
            ap (λ (x : Link). on_way x rest) same ∙ ap (λ (b : Bool). cond b (on_way own rest) []) (sym (ap (λ (x : Link). slot x == m) same ∙ f))

        at_m : (b : Bool) → is_link link also ≡ b → (x : Bool) → is_link link own ≡ x → on_way link rest ≡ cond (slot link == m) (cond b (on_way also rest) (cond x (on_way own rest) (queues link))) []
        at_m true e x f = its also front_also.0 e
        at_m false e true f = its own front.0 f
        at_m false e false f = ap (λ (q : List Mark). q ++ on_way link rest) (sym (nothing link f e)) ∙ ap (on_way link) (sym is) ∙ all m link

        none : (own : Link) (q : List Mark) → (slot own == m) ≡ true → is_link link own ≡ true → n ≢ m → cond (slot link == n) (queues link) [] ≡ cond (slot link == n) q []
        none own q f e other =
            let there : (slot link == n) ≡ false = ne_eqb (slot link) n (λ (h : slot link ≡ n). other (sym h ∙ ap slot (link_is link own e) ∙ eqb-true (slot own) m f)) in
            ap (λ (b : Bool). cond b (queues link) []) there ∙ ap (λ (b : Bool). cond b q []) (sym there)

        elsewhere : (b : Bool) → is_link link also ≡ b → (x : Bool) → is_link link own ≡ x → n ≢ m →
            cond (slot link == n) (queues link) [] ≡ cond (slot link == n) (cond b (on_way also rest) (cond x (on_way own rest) (queues link))) []
        elsewhere true e x f other = none also (on_way also rest) front_also.0 e other
        elsewhere false e true f other = none own (on_way own rest) front.0 f other
        elsewhere false e false f other = refl

-- a letter on two links is put
pub put_two : (slot : Link → ℕ) (queues : Link → List Mark) (boxes : ℕ → List Letter) (l : Letter) (own also : Link) (mark more : Mark) (m : ℕ) → Delivers slot queues boxes → slot own ≡ m → slot also ≡ m →
    is_link own also ≡ false → ((link : Link) → marks link l ≡ cond (is_link link own) (mark ∷ []) [] ++ cond (is_link link also) (more ∷ []) []) →
    Delivers slot (with_queue also (queues also ++ more ∷ []) (with_queue own (queues own ++ mark ∷ []) queues)) (with_value m (boxes m ++ l ∷ []) boxes)
put_two slot queues boxes l own also mark more m all here_own here_also apart on n link =
    elim (cases_eq n m) [
      | inl same ↦
          ap (on_way link) (ap (with_value m (boxes m ++ l ∷ []) boxes) same ∙ value_here m (boxes m ++ l ∷ []) boxes)
          ∙ way_gains link (boxes m) l ∙ ap (λ (q : List Mark). q ++ marks link l) (all m link)
          ∙ at_m (is_link link also) refl (is_link link own) refl
          ∙ ap (λ (j : ℕ). cond (slot link == j) (with_queue also (queues also ++ more ∷ []) (with_queue own (queues own ++ mark ∷ []) queues) link) []) (sym same)
      | inr other ↦ ap (on_way link) (value_else m n (boxes m ++ l ∷ []) boxes other) ∙ all n link ∙ elsewhere (is_link link also) refl (is_link link own) refl other
    ]
  where
    marks_are : (x y : Bool) → is_link link own ≡ x → is_link link also ≡ y → marks link l ≡ cond x (mark ∷ []) [] ++ cond y (more ∷ []) []
    marks_are x y e f = on link ∙ ap (λ (b : Bool). cond b (mark ∷ []) [] ++ cond (is_link link also) (more ∷ []) []) e ∙ ap (λ (b : Bool). cond x (mark ∷ []) [] ++ cond b (more ∷ []) []) f

    its : (own : Link) (mark : Mark) → slot own ≡ m → is_link link own ≡ true → marks link l ≡ mark ∷ [] → cond (slot link == m) (queues link) [] ++ marks link l ≡ cond (slot link == m) (queues own ++ mark ∷ []) []
    its own mark at e is =
        let same = link_is link own e in
        let yes_here : (slot link == m) ≡ true = eq-eqb (slot link) m (ap slot same ∙ at) in
        ap (λ (q : List Mark). cond (slot link == m) (queues link) [] ++ q) is ∙ ap (λ (b : Bool). cond b (queues link) [] ++ mark ∷ []) yes_here
        ∙ ap (λ (x : Link). queues x ++ mark ∷ []) same ∙ ap (λ (b : Bool). cond b (queues own ++ mark ∷ []) []) (sym yes_here)

    not_both : is_link link also ≡ true → is_link link own ≡ true → ⊥
    not_both f e = never (sym apart ∙ ap (λ (x : Link). is_link x also) (sym (link_is link own e)) ∙ f)

    at_m : (y : Bool) → is_link link also ≡ y → (x : Bool) → is_link link own ≡ x →
        cond (slot link == m) (queues link) [] ++ marks link l ≡ cond (slot link == m) (cond y (queues also ++ more ∷ []) (cond x (queues own ++ mark ∷ []) (queues link))) []
    at_m true f true e = absurd (not_both f e)
    at_m true f false e = its also more here_also f (marks_are false true e f)
    at_m false f true e = its own mark here_own e (marks_are true false e f)
    at_m false f false e = ap (λ (q : List Mark). cond (slot link == m) (queues link) [] ++ q) (marks_are false false e f) ∙ nil_right (cond (slot link == m) (queues link) [])

    none : (own : Link) (q : List Mark) → slot own ≡ m → is_link link own ≡ true → n ≢ m → cond (slot link == n) (queues link) [] ≡ cond (slot link == n) q []
    none own q at e other =
        let there : (slot link == n) ≡ false = ne_eqb (slot link) n (λ (h : slot link ≡ n). other (sym h ∙ ap slot (link_is link own e) ∙ at)) in
        ap (λ (b : Bool). cond b (queues link) []) there ∙ ap (λ (b : Bool). cond b q []) (sym there)

    elsewhere : (y : Bool) → is_link link also ≡ y → (x : Bool) → is_link link own ≡ x → n ≢ m →
        cond (slot link == n) (queues link) [] ≡ cond (slot link == n) (cond y (queues also ++ more ∷ []) (cond x (queues own ++ mark ∷ []) (queues link))) []
    elsewhere true f x e other = none also (queues also ++ more ∷ []) here_also f other
    elsewhere false f true e other = none own (queues own ++ mark ∷ []) here_own e other
    elsewhere false f false e other = refl

-- the same queues, said otherwise; and other mailboxes for links on which nothing is on its way
pub agree : (slot : Link → ℕ) (queues now : Link → List Mark) (boxes : ℕ → List Letter) → Delivers slot queues boxes → ((link : Link) → queues link ≡ now link) → Delivers slot now boxes
agree slot queues now boxes all same m link = all m link ∙ ap (λ (q : List Mark). cond (slot link == m) q []) (same link)

pub resort : (slot now : Link → ℕ) (queues : Link → List Mark) (boxes : ℕ → List Letter) → Delivers slot queues boxes → ((link : Link) → (slot link ≡ now link) ⊎ (queues link ≡ [])) → Delivers now queues boxes
resort slot now queues boxes all same m link =
    all m link ∙ by (same link)
  where
    empty : (b : Bool) → ◌≡◌ {A = List Mark} (cond b [] []) []
    empty true = refl
    empty false = refl

    by : (slot link ≡ now link) ⊎ (queues link ≡ []) → cond (slot link == m) (queues link) [] ≡ cond (now link == m) (queues link) []
    by (inl e) = ap (λ (n : ℕ). cond (n == m) (queues link) []) e
    by (inr e) = ap (λ (q : List Mark). cond (slot link == m) q []) e ∙ empty (slot link == m) ∙ sym (ap (λ (q : List Mark). cond (now link == m) q []) e ∙ empty (now link == m))

-- the mailbox of a link behind a write of a row of the same owner and mailbox, or of a pair of the same owners
pub object_slot : (s : Rows) (c : ℕ) (n : Row) → c < length s.objects → n.owner ≡ (obj s c).owner → n.slot ≡ (obj s c).slot → (link : Link) → slot_of s link ≡ slot_of (with_object c n s) link
object_slot s c n there owner slot link = sym (slots (addressee (with_object c n s) link) ∙ ap (λ (i : ℕ). (obj s i).slot) (who link))
  where
    slots : (i : ℕ) → (obj (with_object c n s) i).slot ≡ (obj s i).slot
    slots i =
        elim (written s.objects n nobody c i there) [
          | here_is here same ↦ ap (λ (o : Row). o.slot) same ∙ slot ∙ ap (λ (j : ℕ). (obj s j).slot) (sym here)
          | is_elsewhere same ↦ ap (λ (o : Row). o.slot) same
        ]

    owners : (i : ℕ) → (obj (with_object c n s) i).owner ≡ (obj s i).owner
    owners i =
        elim (written s.objects n nobody c i there) [
          | here_is here same ↦ ap (λ (o : Row). o.owner) same ∙ owner ∙ ap (λ (j : ℕ). (obj s j).owner) (sym here)
          | is_elsewhere same ↦ ap (λ (o : Row). o.owner) same
        ]

    who : (l : Link) → addressee (with_object c n s) l ≡ addressee s l
    who (UpLink d) = ap owner_or_root (owners d)
    who (DownLink d) = refl
    who (EndLink k a) = refl

pub pair_slot : (s : Rows) (k : ℕ) (p : PairRow) → k < length s.pairs → ((x : Bool) → end_owner p x ≡ end_owner (pair s k) x) → (link : Link) → slot_of s link ≡ slot_of (with_pair k p s) link
pair_slot s k p there owners (UpLink d) = refl
pair_slot s k p there owners (DownLink d) = refl
pair_slot s k p there owners (EndLink j a) =
    elim (written s.pairs p no_pair k j there) [
      | here_is here same ↦ ap (λ (i : ℕ). (obj s i).slot) (ap (λ (m : ℕ). end_owner (pair s m) a) here ∙ sym (owners a) ∙ sym (ap (λ (q : PairRow). end_owner q a) same))
      | is_elsewhere same ↦ ap (λ (i : ℕ). (obj s i).slot) (sym (ap (λ (q : PairRow). end_owner q a) same))
    ]

-- the queues of rows in which one object's row was written
pub object_queue : (s : Rows) (c : ℕ) (n : Row) (queues : Link → List Mark) → c < length s.objects → queues (UpLink c) ≡ up_marks n → queues (DownLink c) ≡ down_marks c n →
    ((link : Link) → link ≢ UpLink c → link ≢ DownLink c → queues link ≡ queue s link) → (link : Link) → queues link ≡ queue (with_object c n s) link
object_queue s c n queues there up down rest = same
  where
    not_up : (d : ℕ) → d ≢ c → UpLink d ≢ UpLink c
    not_up d other h = other (up_is d c h)
      where
        up_is : (x y : ℕ) → UpLink x ≡ UpLink y → x ≡ y
        up_is x y e = Prim.grind arith

    not_down : (d : ℕ) → d ≢ c → DownLink d ≢ DownLink c
    not_down d other h = other (down_is d c h)
      where
        down_is : (x y : ℕ) → DownLink x ≡ DownLink y → x ≡ y
        down_is x y e = Prim.grind arith

    row_here : obj (with_object c n s) c ≡ n
    row_here = get_or-set_same s.objects c n nobody there

    row_else : (d : ℕ) → d ≢ c → obj (with_object c n s) d ≡ obj s d
    row_else d other = get_or-set_other s.objects c d n nobody other

    same : (link : Link) → queues link ≡ queue (with_object c n s) link
    same (UpLink d) =
        elim (cases_eq d c) [
          | inl here ↦ ap (λ (i : ℕ). queues (UpLink i)) here ∙ up ∙ sym (ap (λ (i : ℕ). up_marks (obj (with_object c n s) i)) here ∙ ap up_marks row_here)
          | inr other ↦ rest (UpLink d) (not_up d other) (λ e. Prim.grind (arith, e)) ∙ ap up_marks (sym (row_else d other))
        ]
    same (DownLink d) =
        elim (cases_eq d c) [
          | inl here ↦ ap (λ (i : ℕ). queues (DownLink i)) here ∙ down ∙ sym (ap (λ (i : ℕ). down_marks i (obj (with_object c n s) i)) here ∙ ap (down_marks c) row_here)
          | inr other ↦ rest (DownLink d) (λ e. Prim.grind (arith, e)) (not_down d other) ∙ ap (down_marks d) (sym (row_else d other))
        ]
    same (EndLink k a) = rest (EndLink k a) (λ e. Prim.grind (arith, e)) (λ e. Prim.grind (arith, e))

-- the mailboxes of rows in which one object's row was written
pub object_mail : (s : Rows) (c : ℕ) (n : Row) (queues : Link → List Mark) (boxes : ℕ → List Letter) → c < length s.objects → n.owner ≡ (obj s c).owner → n.slot ≡ (obj s c).slot →
    Delivers (slot_of s) queues boxes → queues (UpLink c) ≡ up_marks n → queues (DownLink c) ≡ down_marks c n →
    ((link : Link) → link ≢ UpLink c → link ≢ DownLink c → queues link ≡ queue s link) → IsDelivered (with_object c n s) boxes
object_mail s c n queues boxes there owner slot all up down rest =
    resort _ _ _ _ (agree _ _ _ _ all (object_queue s c n queues there up down rest)) (λ link. inl (object_slot s c n there owner slot link))

-- the mailboxes of rows in which one pair's row was written
pub pair_mail : (s : Rows) (k : ℕ) (p : PairRow) (queues : Link → List Mark) (boxes : ℕ → List Letter) → k < length s.pairs → ((x : Bool) → end_owner p x ≡ end_owner (pair s k) x) →
    Delivers (slot_of s) queues boxes → ((x : Bool) → queues (EndLink k x) ≡ end_marks p x) →
    ((link : Link) → link ≢ EndLink k true → link ≢ EndLink k false → queues link ≡ queue s link) → IsDelivered (with_pair k p s) boxes
pair_mail s k p queues boxes there owners all ends rest =
    resort _ _ _ _ (agree _ _ _ _ all same) (λ link. inl (pair_slot s k p there owners link))
  where
    not_end : (j : ℕ) (a b : Bool) → j ≢ k → EndLink j a ≢ EndLink k b
    not_end j a b other h = other (end_is j k a b h)
      where
        end_is : (x y : ℕ) (a b : Bool) → EndLink x a ≡ EndLink y b → x ≡ y
        end_is x y a b e = Prim.grind arith

    pair_here : pair (with_pair k p s) k ≡ p
    pair_here = get_or-set_same s.pairs k p no_pair there

    pair_else : (j : ℕ) → j ≢ k → pair (with_pair k p s) j ≡ pair s j
    pair_else j other = get_or-set_other s.pairs k j p no_pair other

    same : (link : Link) → queues link ≡ queue (with_pair k p s) link
    same (UpLink d) = rest (UpLink d) (λ e. Prim.grind (arith, e)) (λ e. Prim.grind (arith, e))
    same (DownLink d) = rest (DownLink d) (λ e. Prim.grind (arith, e)) (λ e. Prim.grind (arith, e))
    same (EndLink j a) =
        elim (cases_eq j k) [
          | inl here ↦ ap (λ (i : ℕ). queues (EndLink i a)) here ∙ ends a ∙ sym (ap (λ (i : ℕ). end_marks (pair (with_pair k p s) i) a) here ∙ ap (λ (q : PairRow). end_marks q a) pair_here)
          | inr other ↦ rest (EndLink j a) (not_end j a true other) (not_end j a false other) ∙ ap (λ (q : PairRow). end_marks q a) (sym (pair_else j other))
        ]
