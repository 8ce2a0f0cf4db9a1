-- That the kept book goes on saying what the control state does of names.
use Rattle.std.specs.Prelude.{◌≡◌, ℕ, Bool, true, false, not, cond, if◌then◌else◌, List, filter, Option, Some, None, refl, IfOk, Ok, Err, Result}
use Rattle.std.specs.List.{list_any}
use Rattle.std.specs.FinMap as finite
use Rattle.std.specs.Str.{bytes_eq}
use Rattle.std.specs.Cmp.Lexicographic.{nat_list_cmp_total}
use Rattle.std.proofs.lemmas.Slice.Eq.{bytes_eq-Decides}
use Rattle.std.proofs.Common.{sym, ap, ◌∙◌}
use Rattle.zq_base.specs.declared.endpoint.Endpoint.{Endpoint}
use Rattle.zq_base.specs.declared.endpoint.Endpoint.TheVariants.{Inproc, Tcp}
use Rattle.zq_base.specs.declared.ids.ObjId.{ObjId}
use Rattle.spec_control.specs.declared.book.Binding.{Binding}
use Rattle.spec_control.specs.declared.book.Waiting.{Waiting}
use Rattle.spec_control.specs.EndpointBook.{Names, Book, binding_of, numbers_of, is_endpoint, is_object, is_held_by, is_waiter, is_connect_of, without_first, with_name, without_name, with_waiting, names_without, without_object}
use Rattle.spec_control.specs.Register.{Register, IsRegister, with_holder, without_holder, waiting_now, unless_held_by, without_names_of}
use Rattle.spec_control.specs.Control.{Control}
use Rattle.endpoint_book.proofs.OrderLemmas.{first_none}
use Rattle.ctl_state.proofs.HoldLemmas.{same_endpoint}
use Rattle.endpoint_book.proofs.NamesLemmas.{octets_ties, names_apart, same_names}
use Rattle.ctl_state.specs.declared.state.State.{State}
use Rattle.ctl_state.specs.Stands.{Stands}

get_held : (m : Names) (k : List ℕ) (v : Binding) (q : List ℕ) → finite.get (finite.insert m k v) q ≡ cond (bytes_eq q k) (Some v) (finite.get m q)
get_held m k v q = finite.get-insert nat_list_cmp_total m k v q ∙ ap (λ (b : Bool). cond b (Some v) (finite.get m q)) (octets_ties q k)

get_freed : (m : Names) (k : List ℕ) (q : List ℕ) → finite.get (finite.remove m k) q ≡ cond (bytes_eq q k) None (finite.get m q)
get_freed m k q = finite.get-remove nat_list_cmp_total m k q ∙ ap (λ (b : Bool). cond b None (finite.get m q)) (octets_ties q k)

kept_or_none : (x : Bool) (b : Binding) → ◌≡◌ {A = Option Binding} (cond (not x) (Some b) None) (if x then None else Some b)
kept_or_none true b = refl
kept_or_none false b = refl

unless_same : (o : ObjId) (g : Option Binding) → cond (not (is_held_by o g)) g None ≡ unless_held_by o g
unless_same o None = refl
unless_same o (Some b) = kept_or_none (is_object b.holder o) b

get_dropped : (o : ObjId) (m : Names) (q : List ℕ) → finite.get (names_without o m) q ≡ unless_held_by o (finite.get m q)
get_dropped o m q =
    finite.get-retain_keys m kept q (λ x same. ap kept (sym (names_apart q x same))) ∙ unless_same o (finite.get m q)
  where
    kept : List ℕ → Bool
    kept name = not (is_held_by o (finite.get m name))

module _ (book : Book) (r : Register) (h : IsRegister book r) where
  pub named : (at : Endpoint) (b : Binding) → IsRegister (with_name at b book) (with_holder at b r)
  named (Inproc name) b = record { same_holders = by; same_waiting = h.same_waiting }
    where
      by : (other : Endpoint) → binding_of (with_name (Inproc name) b book) other ≡ (with_holder (Inproc name) b r).held other
      by (Inproc q) = get_held book.names name b q ∙ ap (cond (bytes_eq q name) (Some b)) (h.same_holders (Inproc q))
      by (Tcp address) = h.same_holders (Tcp address)
  named (Tcp address) b = record { same_holders = by; same_waiting = h.same_waiting }
    where
      by : (other : Endpoint) → binding_of (with_name (Tcp address) b book) other ≡ (with_holder (Tcp address) b r).held other
      by (Inproc q) = h.same_holders (Inproc q)
      by (Tcp q) = get_held book.addresses (numbers_of address) b (numbers_of q) ∙ ap (cond (bytes_eq (numbers_of q) (numbers_of address)) (Some b)) (h.same_holders (Tcp q))

  pub freed : (at : Endpoint) → IsRegister (without_name at book) (without_holder at r)
  freed (Inproc name) = record { same_holders = by; same_waiting = h.same_waiting }
    where
      by : (other : Endpoint) → binding_of (without_name (Inproc name) book) other ≡ (without_holder (Inproc name) r).held other
      by (Inproc q) = get_freed book.names name q ∙ ap (cond (bytes_eq q name) None) (h.same_holders (Inproc q))
      by (Tcp address) = h.same_holders (Tcp address)
  freed (Tcp address) = record { same_holders = by; same_waiting = h.same_waiting }
    where
      by : (other : Endpoint) → binding_of (without_name (Tcp address) book) other ≡ (without_holder (Tcp address) r).held other
      by (Inproc q) = h.same_holders (Inproc q)
      by (Tcp q) = get_freed book.addresses (numbers_of address) (numbers_of q) ∙ ap (cond (bytes_eq (numbers_of q) (numbers_of address)) None) (h.same_holders (Tcp q))

  -- what nobody holds is free
  pub free_already : (at : Endpoint) → binding_of book at ≡ None → IsRegister book (without_holder at r)
  free_already at none = record { same_holders = λ other. by other (is_endpoint other at) refl; same_waiting = h.same_waiting }
    where
      by : (other : Endpoint) (b : Bool) → is_endpoint other at ≡ b → binding_of book other ≡ (if b then None else r.held other)
      by other true e = ap (binding_of book) (same_endpoint other at e) ∙ none
      by other false e = h.same_holders other

  -- and what waits not is taken back
  pub back_already : (o : ObjId) (at : Endpoint) → list_any (is_connect_of o at) book.waiting ≡ false → IsRegister book (waiting_now (without_first (is_connect_of o at) r.waiting) r)
  back_already o at none = record {
    same_holders = h.same_holders;
    same_waiting = sym (first_none (is_connect_of o at) book.waiting none) ∙ ap (without_first (is_connect_of o at)) h.same_waiting;
  }

  pub now_waiting : (f : List Waiting → List Waiting) → IsRegister (with_waiting (f book.waiting) book) (waiting_now (f r.waiting) r)
  now_waiting f = record { same_holders = by; same_waiting = ap f h.same_waiting }
    where
      by : (at : Endpoint) → binding_of (with_waiting (f book.waiting) book) at ≡ r.held at
      by (Inproc q) = h.same_holders (Inproc q)
      by (Tcp q) = h.same_holders (Tcp q)

  pub dropped : (o : ObjId) → IsRegister (without_object o book) (without_names_of o r)
  dropped o = record { same_holders = by; same_waiting = ap (filter (λ w. not (is_waiter o w))) h.same_waiting }
    where
      by : (at : Endpoint) → binding_of (without_object o book) at ≡ unless_held_by o (r.held at)
      by (Inproc q) = get_dropped o book.names q ∙ ap (unless_held_by o) (h.same_holders (Inproc q))
      by (Tcp q) = get_dropped o book.addresses (numbers_of q) ∙ ap (unless_held_by o) (h.same_holders (Tcp q))

-- a name that nobody held is taken back
gone_again : (m : Names) (k : List ℕ) (v : Binding) → finite.get m k ≡ None → finite.remove (finite.insert m k v) k ≡ m
gone_again m k v none = same_names (finite.remove (finite.insert m k v) k) m (λ q. get_freed (finite.insert m k v) k q ∙ ap (cond (bytes_eq q k) None) (get_held m k v q) ∙ by q (bytes_eq q k) refl)
  where
    by : (q : List ℕ) (b : Bool) → bytes_eq q k ≡ b → cond b None (cond b (Some v) (finite.get m q)) ≡ finite.get m q
    by q true e = sym (ap (finite.get m) ((bytes_eq-Decides q k).0 e) ∙ none)
    by q false e = refl

pub name_back : (book : Book) (at : Endpoint) (b : Binding) → binding_of book at ≡ None → without_name at (with_name at b book) ≡ book
name_back book (Inproc name) b none = ap (λ (m : Names). record book { names = m }) (gone_again book.names name b none)
name_back book (Tcp address) b none = ap (λ (m : Names). record book { addresses = m }) (gone_again book.addresses (numbers_of address) b none)

-- the book changed, and the rest did not
pub names_stand : {L : Type 0} (old new : State L) (book : Book) (r : Register) (c : Control) → new.book ≡ book → IsRegister book r →
    new.objects ≡ old.objects → new.pairs ≡ old.pairs → new.boxes ≡ old.boxes → new.workers ≡ old.workers → Stands old c → Stands new (record c { names = r })
names_stand old new book r c is names objects pairs boxes workers h = record {
  objects = rw objects h.objects;
  pairs = rw pairs h.pairs;
  counted = λ i. rw objects (h.counted i);
  sent = λ i. rw objects (h.sent i);
  lists = rw objects h.lists;
  boxes = rw boxes h.boxes;
  slots = rw boxes h.slots;
  workers = workers ∙ h.workers;
  names = rw is names;
}

-- what follows from each answer that is one
pub if_ok : {X E : Type 0} (r : Result X E) (T P : X → Type 0) → IfOk r T → ((x : X) → T x → P x) → IfOk r P
if_ok (Ok x) T P h f = f x h
if_ok (Err e) T P h f = tt
