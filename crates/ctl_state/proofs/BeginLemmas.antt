-- That a context at its making stands for the control state at its beginning.
use Rattle.std.specs.Prelude.{◌≡◌, ◌<◌, ◌≤◌, ◌⊎◌, ◌+◌, ◌==◌, ℕ, zero, suc, Bool, true, false, cond, List, [], ◌∷◌, Option, None, length, map, replicate, slice_index_or, refl, sum_by}
use Rattle.std.specs.FinMap as finite
use Rattle.std.proofs.Common.{arith, sym, ap, ◌∙◌, inl, inr}
use Rattle.std.proofs.lemmas.Bool.{cases_lt}
use Rattle.std.proofs.lemmas.List.{get_or-replicate, get_or_past, length-replicate}
use Rattle.std.proofs.lemmas.List.Elements.{All-nil}
use Rattle.zq_base.specs.declared.endpoint.Endpoint.{Endpoint}
use Rattle.zq_base.specs.declared.endpoint.Endpoint.TheVariants.{Inproc, Tcp}
use Rattle.zq_base.specs.declared.ids.EndId.{EndId}
use Rattle.mailbox.specs.Mail.{Mail, no_mail}
use Rattle.spec_control.specs.declared.end.Reason.{Reason}
use Rattle.spec_control.specs.EndpointBook.{empty_book, binding_of, numbers_of, Book}
use Rattle.spec_control.specs.Register.{IsRegister, no_names}
use Rattle.spec_control.specs.Row.{root_row, nobody}
use Rattle.spec_control.specs.Rows.{no_pair}
use Rattle.spec_control.specs.Control.{begun}
use Rattle.ctl_state.specs.declared.command.Command.{Command}
use Rattle.ctl_state.specs.declared.state.State.{State}
use Rattle.ctl_state.specs.declared.pair.Entry.{Entry}
use Rattle.ctl_state.specs.Boxes.{mail_at, letters, AreIn}
use Rattle.ctl_state.specs.Lists.{no_belongings, belongings_at, hold_of, AreListed}
use Rattle.ctl_state.specs.Objects.{Counts, kept_row, counts_at, root_kept, AreObjects, ObjectRows, tree_row}
use Rattle.ctl_state.specs.Pairs.{no_entry, entry_at, pair_row, reason_at, spot_in, struck_in, ArePairs}
use Rattle.ctl_state.specs.Stands.{ends_counted, Stands, made_once}
use Rattle.std.specs.Ordering.{nat_cmp}
use Rattle.std.specs.Cmp.Lexicographic.{slice_cmp}
use Rattle.ctl_state.specs.Parts.{new_state}

no_more : (b : Bool) → ◌≡◌ {A = ℕ} (cond b 0 0) 0
no_more true = refl
no_more false = refl

root_rows : AreObjects (root_kept (record { 0 = 0 })) (root_row ∷ [])
root_rows = record { each = by; many = refl }
  where
    by : (i : ℕ) → slice_index_or (root_row ∷ []) i nobody ≡ kept_row (root_kept (record { 0 = 0 })) i
    by zero = refl
    by (suc i) = refl

no_pairs : ArePairs (no_entry ∷ []) (no_pair ∷ []) (λ _. None) (λ _. false)
no_pairs = record { each = row; many = refl; reasons_are = λ e. reason e.pair.0 e.a; struck_are = λ e. struck e.pair.0 e.a }
  where
    row : (k : ℕ) → slice_index_or (no_pair ∷ []) k no_pair ≡ pair_row (entry_at (no_entry ∷ []) k)
    row zero = refl
    row (suc k) = refl

    reason : (k : ℕ) (a : Bool) → ◌≡◌ {A = Option Reason} None (reason_at (spot_in (entry_at (no_entry ∷ []) k) a))
    reason zero true = refl
    reason zero false = refl
    reason (suc k) true = refl
    reason (suc k) false = refl

    struck : (k : ℕ) (a : Bool) → false ≡ struck_in (entry_at (no_entry ∷ []) k) a
    struck zero true = refl
    struck zero false = refl
    struck (suc k) true = refl
    struck (suc k) false = refl

no_counts : (i : ℕ) → counts_at (root_kept (record { 0 = 0 })) i ≡ ends_counted (no_pair ∷ []) i
no_counts i = by i ∙ ap (λ (n : ℕ). let x : Counts = record { binds = n; ends = n } in x) (sym (none i))
  where
    none : (i : ℕ) → ◌≡◌ {A = ℕ} (0 + (cond (0 == i) 0 0 + cond (0 == i) 0 0)) 0
    none i = let x = no_more (0 == i) in omega (arith, x)

    by : (i : ℕ) → counts_at (root_kept (record { 0 = 0 })) i ≡ record { binds = 0; ends = 0 }
    by zero = refl
    by (suc i) = refl

none_sent : (i : ℕ) → (tree_row (root_kept (record { 0 = 0 })) i).sent ≤ length (root_row ∷ []) + sum_by made_once (no_pair ∷ [])
none_sent zero = omega arith
none_sent (suc i) = omega arith

no_lists : AreListed (no_belongings ∷ []) (no_pair ∷ []) [] (λ _. [])
no_lists = record { ends = ends; held = held; known = All-nil (λ (e : EndId). e.pair.0 < length (no_pair ∷ [])) }
  where
    ends : (i : ℕ) → (belongings_at (no_belongings ∷ []) i).ends.items ≡ []
    ends zero = refl
    ends (suc i) = refl

    held : (i : ℕ) → map hold_of (belongings_at (no_belongings ∷ []) i).holds.items ≡ []
    held zero = refl
    held (suc i) = refl

no_letters : {L : Type 0} (n : ℕ) → AreIn (replicate n (no_mail {C = Command L})) (λ _. [])
no_letters {L = L} n = record { each = λ k. at k (cases_lt k n) }
  where
    at : (k : ℕ) → (k < n) ⊎ (n ≤ k) → letters (mail_at (replicate n (no_mail {C = Command L})) k) ≡ []
    at k (inl below) = ap letters (get_or-replicate n k (no_mail {C = Command L}) no_mail below)
    at k (inr past) = ap letters (get_or_past (replicate n (no_mail {C = Command L})) k no_mail (let many = length-replicate n (no_mail {C = Command L}) in omega (arith, past, many)))

nothing_held : IsRegister empty_book no_names
nothing_held = record { same_holders = by; same_waiting = refl }
  where
    by : (at : Endpoint) → binding_of empty_book at ≡ None
    by (Inproc name) = finite.get-empty (slice_cmp nat_cmp) name
    by (Tcp address) = finite.get-empty (slice_cmp nat_cmp) (numbers_of address)

pub begins_stand : {L : Type 0} (s : State L) (workers : ℕ) → s.workers ≡ workers → s.objects ≡ root_kept (record { 0 = 0 }) → s.pairs ≡ no_entry ∷ [] →
    s.boxes ≡ replicate (workers + 1) no_mail → s.book ≡ empty_book → Stands s (begun workers)
begins_stand s workers is objects pairs boxes book = record {
  objects = rw objects root_rows;
  pairs = rw pairs no_pairs;
  counted = λ i. rw objects (no_counts i);
  sent = λ i. rw objects (none_sent i);
  lists = rw objects no_lists;
  boxes = rw boxes (no_letters (workers + 1));
  slots = rw boxes (length-replicate (workers + 1) no_mail);
  workers = is;
  names = rw book nothing_held;
}

-- a state of which each part is that of a new one
pub begins_as : {L : Type 0} (s : State L) (workers : ℕ) → s.workers ≡ workers → s.objects ≡ root_kept (record { 0 = 0 }) → s.pairs ≡ no_entry ∷ [] →
    s.boxes ≡ replicate (workers + 1) no_mail → s.book ≡ empty_book → s ≡ new_state workers
begins_as {L = L} s workers is objects pairs boxes book =
    ap (λ (n : ℕ). let x : State L = record s { workers = n } in x) is
    ∙ ap (λ (o : ObjectRows). let x : State L = record s { workers = workers; objects = o } in x) objects
    ∙ ap (λ (p : List Entry). let x : State L = record s { workers = workers; objects = root_kept (record { 0 = 0 }); pairs = p } in x) pairs
    ∙ ap (λ (b : List (Mail (Command L))). let x : State L = record s { workers = workers; objects = root_kept (record { 0 = 0 }); pairs = no_entry ∷ []; boxes = b } in x) boxes
    ∙ ap (λ (k : Book). let x : State L = record {
      workers = workers;
      objects = root_kept (record { 0 = 0 });
      pairs = no_entry ∷ [];
      boxes = replicate (workers + 1) no_mail;
      book = k;
    } in x) book
