use Rattle.std.specs.Prelude.{◌≡◌, ◌≢◌, ◌<◌, ℕ, zero, suc, Bool, true, false, [], ◌∷◌, Some, None, All, slice_index_or}
use Rattle.std.proofs.Common.{arith, subst, sym, ◌∙◌}
use Rattle.spec_control.specs.declared.end.EndState.TheVariants.{WaitDelimiter, Gone}
use Rattle.spec_control.specs.Place.{Unmade, At}
use Rattle.spec_control.specs.Row.{Row, nobody, root_row, is_socket}
use Rattle.spec_control.specs.Rows.{Rows, PairRow, no_pair, obj, pair, end_place}
use Rattle.spec_control.specs.Control.{Control, begun}
use Rattle.zq_base.specs.declared.kind.Kind.{Kind}
use Rattle.zq_base.specs.declared.options.Options.{Options}
use Rattle.spec_control.specs.declared.stage.Stage.TheVariants.{Finished, Cleared}
use Rattle.spec_control.specs.declared.stage.Use.{Use}
use Rattle.spec_control.specs.declared.stage.Use.TheVariants.{Unused, Used}
use Rattle.spec_control.specs.Stage.{is_unused, is_ending}
use Rattle.spec_control.specs.declared.object.ObjKind.TheVariants.{Listener, Session}
use Rattle.spec_control.specs.After.{socket_row}
use Rattle.spec_control.specs.Reply.{root_asked}
use Rattle.spec_control.specs.Quiescence.{IsQuiescent}

pub never : false ≡ true → ⊥
never f = Prim.grind arith

pub gone_waits : At Gone ≡ At WaitDelimiter → ⊥
gone_waits e = Prim.grind arith

unmade_waits : Unmade ≡ At WaitDelimiter → ⊥
unmade_waits e = Prim.grind arith

-- nothing of an empty list, one of a list of one
pub none : {X : Type 0} (P : X → Type 0) → All P []
none P k d lt = absurd (below lt)
  where
    below : {k : ℕ} → k < 0 → ⊥
    below h = omega arith

-- what is so of each row and of nobody
pub of_one : (P : Row → Type 0) (x : Row) → P x → P nobody → (i : ℕ) → P (slice_index_or (x ∷ []) i nobody)
of_one P x a n zero = a
of_one P x a n (suc i) = n

-- no end of a pair of number 0, or of these, waits for its delimiter
pub no_waits : (a : Bool) → end_place no_pair a ≢ At WaitDelimiter
no_waits true = gone_waits
no_waits false = gone_waits

pub waits_of_none : (k : ℕ) (a : Bool) → end_place (slice_index_or (no_pair ∷ []) k no_pair) a ≢ At WaitDelimiter
waits_of_none zero a = no_waits a
waits_of_none (suc k) a = no_waits a

pub waits_of_one : (p : PairRow) → ((a : Bool) → end_place p a ≢ At WaitDelimiter) → (k : ℕ) (a : Bool) → end_place (slice_index_or (no_pair ∷ p ∷ []) k no_pair) a ≢ At WaitDelimiter
waits_of_one p h zero a = no_waits a
waits_of_one p h (suc zero) a = h a
waits_of_one p h (suc (suc k)) a = no_waits a

pub waits_of_two : (p q : PairRow) → ((a : Bool) → end_place p a ≢ At WaitDelimiter) → ((a : Bool) → end_place q a ≢ At WaitDelimiter) → (k : ℕ) (a : Bool) → end_place (slice_index_or (no_pair ∷ p ∷ q ∷ []) k no_pair) a ≢ At WaitDelimiter
waits_of_two p q h g zero a = no_waits a
waits_of_two p q h g (suc zero) a = h a
waits_of_two p q h g (suc (suc zero)) a = g a
waits_of_two p q h g (suc (suc (suc k))) a = no_waits a

pub both_gone : (p : PairRow) → p.a ≡ At Gone → p.b ≡ At Gone → (x : Bool) → end_place p x ≢ At WaitDelimiter
both_gone p a b true e = gone_waits (sym a ∙ e)
both_gone p a b false e = gone_waits (sym b ∙ e)

pub both_unmade : (p : PairRow) → p.a ≡ Unmade → p.b ≡ Unmade → (x : Bool) → end_place p x ≢ At WaitDelimiter
both_unmade p a b true e = unmade_waits (sym a ∙ e)
both_unmade p a b false e = unmade_waits (sym b ∙ e)

-- what is asked of the rows of a state in which nothing is left to do
pub record IsDone (c : Control) (o : Row) : Type 0 where
  pub closed : is_socket o.kind ≡ true → is_unused o.request ≡ false
  pub ended : is_ending o.stage ≡ false
  pub empty : c.boxes o.slot ≡ []

pub rests : (c : Control) (rows : Rows) → c.rows ≡ rows → root_asked c ≡ true → ((i : ℕ) → IsDone c (obj rows i)) →
    ((k : ℕ) (a : Bool) → end_place (pair rows k) a ≢ At WaitDelimiter) → IsQuiescent c
rests c rows same asked done waits = record {
  asked = asked;
  closed = λ i. (is_done i).closed;
  empty = λ i. (is_done i).empty;
  no_output = λ i h. absurd (never (sym (is_done i).ended ∙ h));
  no_delimiter = λ k a g h. subst (λ (r : Rows). end_place (pair r k) a ≢ At WaitDelimiter) (sym same) (waits k a);
}
  where
    is_done : (i : ℕ) → IsDone c (obj c.rows i)
    is_done i = subst (λ (r : Rows). IsDone c (obj r i)) (sym same) (done i)

pub some_none : {X : Type 0} {x : X} → Some x ≡ None → ⊥
some_none e = Prim.grind arith

-- a socket that was closed and has ended
abbrev pub ended_socket : Kind → Options → (slot : ℕ) → Row
ended_socket kind options slot = record (socket_row kind options (begun 1)) { slot = slot; stage = Cleared; request = Used }

abbrev pub root_ended : Row
root_ended = record root_row { stage = Finished }

-- what is left of a listener of socket 1, of a session that it connected, and of one that its listener accepted
abbrev pub listener_left : Options → Row
listener_left options = record { owner = Some 1; kind = Listener; slot = 1; options = options; pair = None; accepted = false; stage = Cleared; noted = true; plugged = true; request = Unused; stop = Unused; asked_link = true; asked_linger = true }

abbrev pub session_left : Options → (gave_up : Bool) → Row
session_left options gave_up = record { owner = Some 1; kind = Session; slot = 1; options = options; pair = Some 1; accepted = false; stage = Cleared; noted = true; plugged = true; request = Unused; stop = Unused; asked_link = true; asked_linger = gave_up }

abbrev pub accepted_left : Options → (number : ℕ) → (request : Use) → Row
accepted_left options number request = record { owner = Some 1; kind = Session; slot = 1; options = options; pair = Some number; accepted = true; stage = Cleared; noted = true; plugged = true; request = request; stop = Unused; asked_link = false; asked_linger = false }

-- a pair of socket 1 that is over: of a session that it connected, and of this one, which its listener accepted
abbrev pub connected_pair : PairRow
connected_pair = record { a_owner = 1; b_owner = 2; a = At Gone; b = At Gone }

abbrev pub accepted_pair : (session : ℕ) → PairRow
accepted_pair session = record { a_owner = session; b_owner = 1; a = At Gone; b = At Gone }

-- its handshake failed
abbrev pub undone_pair : (session : ℕ) → PairRow
undone_pair session = record { a_owner = session; b_owner = 1; a = Unmade; b = Unmade }
