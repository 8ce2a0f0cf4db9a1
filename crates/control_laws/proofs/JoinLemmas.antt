-- What is kept where sockets are joined: a connect to a name, and a bind that fulfils waiting connects.
use Rattle.std.specs.Prelude.{◌≡◌, ◌⊎◌, ◌<◌, ℕ, zero, suc, Bool, true, false, not, cond, List, [], ◌∷◌, ◌++◌, filter, Option, Some, None, All, slice_index_or, if◌then◌else◌, refl}
use Rattle.std.proofs.Common.{arith, sym, ap, ◌∙◌, subst, inl, inr}
use Rattle.std.proofs.lemmas.List.{get_or_push}
use Rattle.zq_base.specs.declared.endpoint.Endpoint.{Endpoint}
use Rattle.zq_base.specs.declared.endpoint.Endpoint.TheVariants.{Inproc}
use Rattle.spec_control.specs.declared.book.Binding.{Binding}
use Rattle.spec_control.specs.declared.book.Waiting.{Waiting}
use Rattle.spec_control.specs.EndpointBook.{is_endpoint, is_fulfilled}
use Rattle.spec_control.specs.Register.{Register, with_holder, waiting_now, fulfilled_by}
use Rattle.spec_control.specs.Hold.{Bound, Waits, Joined, fulfil}
use Rattle.spec_control.specs.declared.stage.Stage.{Stage}
use Rattle.spec_control.specs.declared.stage.Stage.TheVariants.{Alive, Told, Ending, Finished, Cleared}
use Rattle.spec_control.specs.Stage.{has_ended, was_asked}
use Rattle.spec_control.specs.Place.{Unmade}
use Rattle.spec_control.specs.Row.{Row, nobody, is_socket}
use Rattle.spec_control.specs.Rows.{Rows, PairRow, no_pair, obj, pair, end_place, end_owner}
use Rattle.spec_control.specs.Control.{Control, with_value, id, end_of, owner_of, next_pair, draws}
use Rattle.spec_control.specs.After.{Answers, with_hold, joins, fulfil_all, kind_of, binding_by, binds, connects_to, connects}
use Rattle.spec_control.specs.ControlRun.{IsOpenSocket}
use Rattle.control_laws.specs.Kept.{IsUnasked, NamesAreOpen, KeptBut, Kept}
use Rattle.control_laws.proofs.ListLemmas.{never}
use Rattle.control_laws.proofs.LinkLemmas.{at_owner}
use Rattle.control_laws.proofs.ClosedLemmas.{Inv}
use Rattle.control_laws.proofs.QuietLemmas.{socket_owner}
use Rattle.control_laws.proofs.StepLemmas.{inv_of}
use Rattle.control_laws.proofs.TellLemmas.{rows_of}
use Rattle.control_laws.proofs.EndLemmas.{kept_but, kept_unasked}
use Rattle.control_laws.proofs.TermLemmas.{all_filter}
use Rattle.control_laws.proofs.RequestLemmas.{open_unasked}
use Rattle.control_laws.proofs.StrikeLemmas.{but_names}
use Rattle.control_laws.proofs.OpenLemmas.{draw_kept, opened_kept}

pub unasked_lives : (s : Stage) → was_asked s ≡ false → has_ended s ≡ false
unasked_lives Alive h = refl
unasked_lives Told h = refl
unasked_lives Ending h = absurd (never (sym h))
unasked_lives Finished h = absurd (never (sym h))
unasked_lives Cleared h = absurd (never (sym h))

pub all_more : {X : Type 0} (P : X → Type 0) (xs : List X) (x : X) → All P xs → P x → All P (xs ++ x ∷ [])
all_more P [] x all h = one
  where
    below : {k : ℕ} → suc k < 1 → ⊥
    below g = omega arith

    one : All P (x ∷ [])
    one zero d within = h
    one (suc k) d within = absurd (below within)
all_more P (y ∷ xs) x all h = more (all_more P xs x (λ k d within. all (suc k) d (omega (arith, within))) h)
  where
    more : All P (xs ++ x ∷ []) → All P (y ∷ (xs ++ x ∷ []))
    more rest zero d within = all zero y (omega arith)
    more rest (suc k) d within = rest k d (omega (arith, within))

pub socket_owned : (s : Rows) (i : ℕ) → Inv s → IsUnasked s i → (obj s i).owner ≡ Some 0
socket_owned s i fits u = socket_owner (obj s i).kind (obj s i).owner (at_owner (obj s i) (fits.fits i)) u.socket

pub joins_kept : (n : ℕ) (c : Control) (connecting bound : ℕ) (a_first : Bool) (h : Answers) → KeptBut n c → IsUnasked c.rows connecting → IsUnasked c.rows bound → cond a_first connecting bound ≡ n →
    KeptBut n (joins connecting bound a_first h c) × ((joins connecting bound a_first h c).rows.objects ≡ c.rows.objects)
joins_kept n c connecting bound a_first h kept x y is =
    opened_kept n (draws connecting bound c) (end_of (next_pair c) a_first) (obj c.rows (owner_of (draws connecting bound c) (end_of (next_pair c) a_first))).options.id (h.kind (end_of (next_pair c) a_first))
    drawn (unmade a_first) (owner a_first is) unended
  where
    fits : Inv c.rows
    fits = inv_of (rows_of kept)

    owned : (z : Bool) → (w : ℕ) × ((obj c.rows (end_owner (record { a_owner = connecting; b_owner = bound; a = Unmade; b = Unmade }) z)).owner ≡ Some w)
    owned true = (0, socket_owned c.rows connecting fits x)
    owned false = (0, socket_owned c.rows bound fits y)

    drawn : KeptBut n (draws connecting bound c)
    drawn = draw_kept n connecting bound c owned kept

    row : pair (draws connecting bound c).rows (next_pair c) ≡ record { a_owner = connecting; b_owner = bound; a = Unmade; b = Unmade }
    row = get_or_push c.rows.pairs (record { a_owner = connecting; b_owner = bound; a = Unmade; b = Unmade }) no_pair (next_pair c) refl

    unmade : (a : Bool) → end_place (pair (draws connecting bound c).rows (next_pair c)) a ≡ Unmade
    unmade true = ap (λ (p : PairRow). p.a) row
    unmade false = ap (λ (p : PairRow). p.b) row

    owner : (a : Bool) → cond a connecting bound ≡ n → owner_of (draws connecting bound c) (end_of (next_pair c) a) ≡ n
    owner true e = ap (λ (p : PairRow). p.a_owner) row ∙ e
    owner false e = ap (λ (p : PairRow). p.b_owner) row ∙ e

    unended : (z : Bool) → has_ended (obj (draws connecting bound c).rows (end_owner (pair (draws connecting bound c).rows (next_pair c)) z)).stage ≡ false
    unended true = ap (λ (p : PairRow). has_ended (obj c.rows p.a_owner).stage) row ∙ unasked_lives (obj c.rows connecting).stage x.unasked
    unended false = ap (λ (p : PairRow). has_ended (obj c.rows p.b_owner).stage) row ∙ unasked_lives (obj c.rows bound).stage y.unasked

-- what is so of unasked sockets, where the objects are the same
pub still_unasked : (c d : Control) → d.rows.objects ≡ c.rows.objects → (i : ℕ) → IsUnasked c.rows i → IsUnasked d.rows i
still_unasked c d same i u = record {
  socket = ap (λ (l : List Row). is_socket (slice_index_or l i nobody).kind) same ∙ u.socket;
  unasked = ap (λ (l : List Row). was_asked (slice_index_or l i nobody).stage) same ∙ u.unasked;
}

pub fulfil_all_kept : (i : ℕ) (at : Endpoint) (h : Answers) (ws : List Waiting) (c : Control) → KeptBut i c → IsUnasked c.rows i → All (λ w. IsUnasked c.rows w.waiter.0) ws →
    KeptBut i (fulfil_all i at ws h c) × ((fulfil_all i at ws h c).rows.objects ≡ c.rows.objects)
fulfil_all_kept i at h [] c kept u all = (kept, refl)
fulfil_all_kept i at h (w ∷ ws) c kept u all =
    let one = joins_kept i c w.waiter.0 i false h kept (all zero w (omega arith)) u refl in
    let joined = joins w.waiter.0 i false h c in
    let next = record joined { holds = with_value w.waiter.0 (fulfil at (next_pair c) (joined.holds w.waiter.0)) joined.holds } in
    let rest = fulfil_all_kept i at h ws next (but_names i joined joined.names next.holds one.0 one.0.names) (still_unasked c joined one.1 i u)
    (λ k d within. still_unasked c joined one.1 _ (all (suc k) d (omega (arith, within)))) in
    (rest.0, rest.1 ∙ one.1)

-- a socket that is open is one that was not asked
pub open_is : (c : Control) (i : ℕ) → Kept c → IsOpenSocket (obj c.rows i) → IsUnasked c.rows i
open_is c i kept o = record { socket = o.socket; unasked = (open_unasked c i kept o).1 }

with_held : (at other : Endpoint) (mine : Binding) (b : Option Binding) (x : Binding) → (if is_endpoint other at then Some mine else b) ≡ Some x → (mine ≡ x) ⊎ (b ≡ Some x)
with_held at other mine b x h = by (is_endpoint other at) h
  where
    same : Some mine ≡ Some x → mine ≡ x
    same e = Prim.grind arith

    by : (t : Bool) → (if t then Some mine else b) ≡ Some x → (mine ≡ x) ⊎ (b ≡ Some x)
    by true e = inl (same e)
    by false e = inr e

pub named_open : (s : Rows) (i : ℕ) (at : Endpoint) (binding : Binding) (names : Register) → binding.holder.0 ≡ i → IsUnasked s i → NamesAreOpen s names → NamesAreOpen s (with_holder at binding names)
named_open s i at binding names mine u n = record {
  holders = λ other x is.
      elim (with_held at other binding (names.held other) x is) [
        | inl same ↦ subst (λ (b : Binding). IsUnasked s b.holder.0) same (subst (IsUnasked s) (sym mine) u)
        | inr old ↦ n.holders other x old
      ];
  waiters = n.waiters;
}

pub bind_name_kept : (c : Control) (i : ℕ) (name : List ℕ) (h : Answers) → Kept c → IsOpenSocket (obj c.rows i) → Kept (binds i (Inproc name) h c)
bind_name_kept c i name h kept o =
    kept_unasked i (binds i (Inproc name) h c) all.0 (ap (λ (l : List Row). was_asked (slice_index_or l i nobody).stage) all.1 ∙ u.unasked)
  where
    u : IsUnasked c.rows i
    u = open_is c i kept o

    at : Endpoint
    at = Inproc name

    waiters : All (λ w. IsUnasked c.rows w.waiter.0) (filter (is_fulfilled (Inproc name) (binding_by i c)) c.names.waiting)
    waiters = all_filter (λ (w : Waiting). IsUnasked c.rows w.waiter.0) (λ (w : Waiting). IsUnasked c.rows w.waiter.0) (is_fulfilled (Inproc name) (binding_by i c)) (λ w g t. g) c.names.waiting kept.names.waiters

    rest : All (λ w. IsUnasked c.rows w.waiter.0) (filter (λ w. not (is_fulfilled (Inproc name) (binding_by i c) w)) c.names.waiting)
    rest = all_filter (λ (w : Waiting). IsUnasked c.rows w.waiter.0) (λ (w : Waiting). IsUnasked c.rows w.waiter.0) (λ w. not (is_fulfilled (Inproc name) (binding_by i c) w)) (λ w g t. g) c.names.waiting kept.names.waiters

    opened : NamesAreOpen c.rows (with_holder (Inproc name) (binding_by i c) c.names)
    opened = named_open c.rows i (Inproc name) (binding_by i c) c.names refl u kept.names

    all : KeptBut i (binds i (Inproc name) h c) × ((binds i (Inproc name) h c).rows.objects ≡ c.rows.objects)
    all = fulfil_all_kept i (Inproc name) h (fulfilled_by (Inproc name) (binding_by i c) c.names) _
        (but_names i c (waiting_now (filter (λ w. not (is_fulfilled (Inproc name) (binding_by i c) w)) c.names.waiting) (with_holder (Inproc name) (binding_by i c) c.names)) (with_value i (c.holds i ++ Bound (Inproc name) None ∷ []) c.holds) (kept_but i c kept)
        (record { holders = opened.holders; waiters = rest }))
        (record { socket = u.socket; unasked = u.unasked }) waiters

pub connect_name_kept : (c : Control) (i : ℕ) (name : List ℕ) (h : Answers) → Kept c → IsOpenSocket (obj c.rows i) → Kept (connects i (Inproc name) h c)
connect_name_kept c i name h kept o = by (c.names.held (Inproc name)) refl
  where
    u : IsUnasked c.rows i
    u = open_is c i kept o

    by : (b : Option Binding) → c.names.held (Inproc name) ≡ b → Kept (connects_to i (Inproc name) b h c)
    by None e =
        kept_unasked i (connects_to i (Inproc name) None h c)
        (but_names i c (waiting_now (c.names.waiting ++ record { at = Inproc name; waiter = id i; kind = kind_of (obj c.rows i).kind } ∷ []) c.names) (with_value i (c.holds i ++ Waits (Inproc name) ∷ []) c.holds) (kept_but i c kept)
        (record { holders = kept.names.holders; waiters = all_more (λ (w : Waiting). IsUnasked c.rows w.waiter.0) c.names.waiting (record { at = Inproc name; waiter = id i; kind = kind_of (obj c.rows i).kind }) kept.names.waiters u }))
        u.unasked
    by (Some binding) e =
        let held = but_names i c c.names (with_value i (c.holds i ++ Joined (Inproc name) (next_pair c) None ∷ []) c.holds) (kept_but i c kept) kept.names in
        let so = joins_kept i (with_hold i (Joined (Inproc name) (next_pair c) None) c) i binding.holder.0 true h held u (kept.names.holders (Inproc name) binding e) refl in
        kept_unasked i (connects_to i (Inproc name) (Some binding) h c) so.0 (ap (λ (l : List Row). was_asked (slice_index_or l i nobody).stage) so.1 ∙ u.unasked)
