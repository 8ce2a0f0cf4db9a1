-- The mailboxes behind a step of the rows: what is taken and what is put is what the rows lose and gain.
use Rattle.std.specs.Prelude.{◌≡◌, ◌≢◌, ◌<◌, ℕ, Bool, true, false, cond, List, [], ◌∷◌, ◌++◌, length, refl}
use Rattle.std.proofs.Common.{arith, ap, ◌∙◌, subst}
use Rattle.spec_control.specs.declared.letter.Letter.{Letter}
use Rattle.spec_control.specs.Row.{Row}
use Rattle.spec_control.specs.Rows.{Rows, PairRow, obj, pair, with_object, with_pair, end_owner}
use Rattle.spec_control.specs.Control.{with_value}
use Rattle.spec_control.specs.After.{owner_or_root}
use Rattle.control_laws.specs.Mail.{Mark, Link, UpLink, DownLink, EndLink, is_link, marks, up_marks, down_marks, end_marks, queue, slot_of, Delivers, IsDelivered, with_queue}
use Rattle.control_laws.proofs.MailLemmas.{with_here, with_else, put_one, object_slot, pair_slot, object_mail, pair_mail}

up_not_down : (c d : ℕ) → UpLink c ≢ DownLink d
up_not_down c d e = Prim.grind arith

down_not_up : (c d : ℕ) → DownLink c ≢ UpLink d
down_not_up c d e = Prim.grind arith

end_not_up : (k : ℕ) (a : Bool) (d : ℕ) → EndLink k a ≢ UpLink d
end_not_up k a d e = Prim.grind arith

end_not_down : (k : ℕ) (a : Bool) (d : ℕ) → EndLink k a ≢ DownLink d
end_not_down k a d e = Prim.grind arith

-- the queues that go with a row that is written
pub record ObjectQueues (s : Rows) (c : ℕ) (up down : List Mark) (queues : Link → List Mark) : Type 0 where
  pub upward : queues (UpLink c) ≡ up
  pub downward : queues (DownLink c) ≡ down
  pub rest : (link : Link) → link ≢ UpLink c → link ≢ DownLink c → queues link ≡ queue s link

pub rows_queues : (s : Rows) (c : ℕ) → ObjectQueues s c (up_marks (obj s c)) (down_marks c (obj s c)) (queue s)
rows_queues s c = record { upward = refl; downward = refl; rest = λ link n m. refl }

pub upward_now : (s : Rows) (c : ℕ) (up down q : List Mark) (queues : Link → List Mark) → ObjectQueues s c up down queues → ObjectQueues s c q down (with_queue (UpLink c) q queues)
upward_now s c up down q queues o = record {
  upward = with_here (UpLink c) q queues;
  downward = with_else (UpLink c) (DownLink c) q queues (down_not_up c c) ∙ o.downward;
  rest = λ link n m. with_else (UpLink c) link q queues n ∙ o.rest link n m;
}

pub downward_now : (s : Rows) (c : ℕ) (up down q : List Mark) (queues : Link → List Mark) → ObjectQueues s c up down queues → ObjectQueues s c up q (with_queue (DownLink c) q queues)
downward_now s c up down q queues o = record {
  upward = with_else (DownLink c) (UpLink c) q queues (up_not_down c c) ∙ o.upward;
  downward = with_here (DownLink c) q queues;
  rest = λ link n m. with_else (DownLink c) link q queues m ∙ o.rest link n m;
}

-- a row that stays in its mailbox and with its owner
pub record StaysThere (s : Rows) (c : ℕ) (n : Row) : Type 0 where
  pub there : c < length s.objects
  pub owner : n.owner ≡ (obj s c).owner
  pub slot : n.slot ≡ (obj s c).slot

pub object_now : (s : Rows) (c : ℕ) (n : Row) (up down : List Mark) (queues : Link → List Mark) (boxes : ℕ → List Letter) → StaysThere s c n → ObjectQueues s c up down queues →
    Delivers (slot_of s) queues boxes → up ≡ up_marks n → down ≡ down_marks c n → IsDelivered (with_object c n s) boxes
object_now s c n up down queues boxes stays o all is_up is_down =
    object_mail s c n queues boxes stays.there stays.owner stays.slot all (o.upward ∙ is_up) (o.downward ∙ is_down) o.rest

-- a command for the object itself is put
pub object_put_down : (s : Rows) (c : ℕ) (n : Row) (up down : List Mark) (queues : Link → List Mark) (boxes : ℕ → List Letter) (l : Letter) (mark : Mark) → StaysThere s c n → ObjectQueues s c up down queues →
    Delivers (slot_of s) queues boxes → ((link : Link) → marks link l ≡ cond (is_link link (DownLink c)) (mark ∷ []) []) → up ≡ up_marks n → down ++ mark ∷ [] ≡ down_marks c n →
    let t = with_object c n s in IsDelivered t (with_value (obj t c).slot (boxes (obj t c).slot ++ l ∷ []) boxes)
object_put_down s c n up down queues boxes l mark stays o all on is_up is_down =
    subst (λ (slot : ℕ). IsDelivered (with_object c n s) (with_value slot (boxes slot ++ l ∷ []) boxes)) (object_slot s c n stays.there stays.owner stays.slot (DownLink c))
    (object_now s c n up (queues (DownLink c) ++ mark ∷ []) _ _ stays (downward_now s c up down _ queues o) (put_one (slot_of s) queues boxes l (DownLink c) mark all on) is_up (ap (λ (q : List Mark). q ++ mark ∷ []) o.downward ∙ is_down))

-- a command for its owner is put
pub object_put_up : (s : Rows) (c : ℕ) (n : Row) (up down : List Mark) (queues : Link → List Mark) (boxes : ℕ → List Letter) (l : Letter) (mark : Mark) (to : ℕ) → StaysThere s c n → ObjectQueues s c up down queues →
    Delivers (slot_of s) queues boxes → ((link : Link) → marks link l ≡ cond (is_link link (UpLink c)) (mark ∷ []) []) → up ++ mark ∷ [] ≡ up_marks n → down ≡ down_marks c n → owner_or_root (obj s c).owner ≡ to →
    let t = with_object c n s in IsDelivered t (with_value (obj t to).slot (boxes (obj t to).slot ++ l ∷ []) boxes)
object_put_up s c n up down queues boxes l mark to stays o all on is_up is_down owner =
    subst (λ (slot : ℕ). IsDelivered t (with_value slot (boxes slot ++ l ∷ []) boxes)) slots
    (object_now s c n (queues (UpLink c) ++ mark ∷ []) down _ _ stays (upward_now s c up down _ queues o) (put_one (slot_of s) queues boxes l (UpLink c) mark all on) (ap (λ (q : List Mark). q ++ mark ∷ []) o.upward ∙ is_up) is_down)
  where
    t : Rows
    t = with_object c n s

    slots : slot_of s (UpLink c) ≡ (obj t to).slot
    slots = ap (λ (i : ℕ). (obj s i).slot) owner ∙ object_slot s c n stays.there stays.owner stays.slot (DownLink to)

-- the queues that go with a pair that is written
pub record PairQueues (s : Rows) (k : ℕ) (ends : Bool → List Mark) (queues : Link → List Mark) : Type 0 where
  pub to_end : (x : Bool) → queues (EndLink k x) ≡ ends x
  pub rest : (link : Link) → link ≢ EndLink k true → link ≢ EndLink k false → queues link ≡ queue s link

pub rows_pair_queues : (s : Rows) (k : ℕ) → PairQueues s k (end_marks (pair s k)) (queue s)
rows_pair_queues s k = record { to_end = λ x. refl; rest = λ link n m. refl }

-- one of two
abbrev pub one_now : {X : Type 0} → Bool → X → (Bool → X) → Bool → X
one_now true q f true = q
one_now true q f false = f false
one_now false q f true = f true
one_now false q f false = q

true_not_false : (k : ℕ) → EndLink k true ≢ EndLink k false
true_not_false k e = Prim.grind arith

false_not_true : (k : ℕ) → EndLink k false ≢ EndLink k true
false_not_true k e = Prim.grind arith

pub end_now : (s : Rows) (k : ℕ) (a : Bool) (ends : Bool → List Mark) (q : List Mark) (queues : Link → List Mark) → PairQueues s k ends queues → PairQueues s k (one_now a q ends) (with_queue (EndLink k a) q queues)
end_now s k true ends q queues o = record { to_end = by; rest = λ link n m. with_else (EndLink k true) link q queues n ∙ o.rest link n m }
  where
    by : (x : Bool) → with_queue (EndLink k true) q queues (EndLink k x) ≡ one_now true q ends x
    by true = with_here (EndLink k true) q queues
    by false = with_else (EndLink k true) (EndLink k false) q queues (false_not_true k) ∙ o.to_end false
end_now s k false ends q queues o = record { to_end = by; rest = λ link n m. with_else (EndLink k false) link q queues m ∙ o.rest link n m }
  where
    by : (x : Bool) → with_queue (EndLink k false) q queues (EndLink k x) ≡ one_now false q ends x
    by true = with_else (EndLink k false) (EndLink k true) q queues (true_not_false k) ∙ o.to_end true
    by false = with_here (EndLink k false) q queues

pub pair_now : (s : Rows) (k : ℕ) (p : PairRow) (ends : Bool → List Mark) (queues : Link → List Mark) (boxes : ℕ → List Letter) → k < length s.pairs → ((x : Bool) → end_owner p x ≡ end_owner (pair s k) x) → PairQueues s k ends queues →
    Delivers (slot_of s) queues boxes → ((x : Bool) → ends x ≡ end_marks p x) → IsDelivered (with_pair k p s) boxes
pair_now s k p ends queues boxes there owners o all is = pair_mail s k p queues boxes there owners all (λ x. o.to_end x ∙ is x) o.rest

-- a command for an end is put
pub pair_put : (s : Rows) (k : ℕ) (p : PairRow) (a : Bool) (ends : Bool → List Mark) (queues : Link → List Mark) (boxes : ℕ → List Letter) (l : Letter) (mark : Mark) → k < length s.pairs → ((x : Bool) → end_owner p x ≡ end_owner (pair s k) x) →
    PairQueues s k ends queues → Delivers (slot_of s) queues boxes → ((link : Link) → marks link l ≡ cond (is_link link (EndLink k a)) (mark ∷ []) []) →
    ((x : Bool) → one_now a (queues (EndLink k a) ++ mark ∷ []) ends x ≡ end_marks p x) →
    let t = with_pair k p s in IsDelivered t (with_value (slot_of t (EndLink k a)) (boxes (slot_of t (EndLink k a)) ++ l ∷ []) boxes)
pair_put s k p a ends queues boxes l mark there owners o all on is =
    subst (λ (slot : ℕ). IsDelivered (with_pair k p s) (with_value slot (boxes slot ++ l ∷ []) boxes)) (pair_slot s k p there owners (EndLink k a))
    (pair_now s k p (one_now a (queues (EndLink k a) ++ mark ∷ []) ends) _ _ there owners (end_now s k a ends _ queues o) (put_one (slot_of s) queues boxes l (EndLink k a) mark all on) is)
