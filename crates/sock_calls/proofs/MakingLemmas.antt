-- The ends that a request makes are all of one side.
use Rattle.std.proofs.Common.{◌≡◌, ◌∙◌, ℕ, zero, suc, Bool, true, false, List, [], ◌∷◌, ◌+◌, Option, Some, None, refl, sym, ap, arith, true≢false}
use Rattle.std.specs.Prelude.{slice_get}
use Rattle.zq_base.specs.declared.endpoint.Endpoint.TheVariants.{Inproc, Tcp}
use Rattle.zq_base.specs.declared.ids.EndId.{EndId}
use Rattle.spec_control.specs.declared.book.Binding.{Binding}
use Rattle.spec_control.specs.declared.book.Waiting.{Waiting}
use Rattle.spec_control.specs.declared.request.Req.{Req}
use Rattle.spec_control.specs.declared.request.Req.TheVariants.{Socket as MakeSocket, AskTerm, Bind, Connect, Unbind, Disconnect, Close, Accepted, Shaken, AskEnd, AskOver, OutputOver}
use Rattle.spec_control.specs.Register.{fulfilled_by}
use Rattle.spec_control.specs.Control.{Control, end_of, next_pair}
use Rattle.spec_control.specs.Rows.{obj}
use Rattle.spec_control.specs.After.{binding_by, pair_or_none}
use Rattle.desk.specs.Making.{between, bind_makes, connect_makes, inward, outward, request_makes, IsMadeFor, MadeEnd}
use Rattle.desk.specs.Coming.{is_close}
use Rattle.end_table.proofs.SoundLemmas.{one_some}

none_there : {A : Type 0} (x : A) → None ≡ Some x → ⊥
none_there x e = Prim.grind arith

-- a connect makes an end a, and so does a session; all others ends b
abbrev side_of : Req → Bool
side_of (MakeSocket kind options) = false
side_of AskTerm = false
side_of (Bind o at) = false
side_of (Connect o at) = true
side_of (Unbind o at) = false
side_of (Disconnect o at) = false
side_of (Close o) = false
side_of (Accepted o) = false
side_of (Shaken o peer) = true
side_of (AskEnd e reason) = false
side_of (AskOver o) = false
side_of (OutputOver o) = false

bind_side : (c : Control) (o n : ℕ) (ws : List Waiting) (k : ℕ) (x : MadeEnd) → slice_get (bind_makes c o n ws) k ≡ Some x → x.end.a ≡ false
bind_side c o n [] k x at = absurd (none_there x at)
bind_side c o n (w ∷ ws) zero x at = ap (λ (y : MadeEnd). y.end.a) (sym (one_some (between c (end_of n false) o w.waiter.0) x at))
bind_side c o n (w ∷ ws) (suc k) x at = bind_side c o (n + 1) ws k x at

alone_side : (y : MadeEnd) → y.end.a ≡ true → (k : ℕ) (x : MadeEnd) → slice_get (y ∷ []) k ≡ Some x → x.end.a ≡ true
alone_side y is zero x at = ap (λ (z : MadeEnd). z.end.a) (sym (one_some y x at)) ∙ is
alone_side y is (suc k) x at = absurd (none_there x at)

connect_side : (c : Control) (o : ℕ) (b : Option Binding) (k : ℕ) (x : MadeEnd) → slice_get (connect_makes c o b) k ≡ Some x → x.end.a ≡ true
connect_side c o None k x at = absurd (none_there x at)
connect_side c o (Some b) k x at = alone_side (between c (end_of (next_pair c) true) o b.holder.0) refl k x at

request_side : (c : Control) (req : Req) (k : ℕ) (x : MadeEnd) → slice_get (request_makes c req) k ≡ Some x → x.end.a ≡ side_of req
request_side c (Bind o (Inproc name)) k x at = bind_side c o.0 (next_pair c) (fulfilled_by (Inproc name) (binding_by o.0 c) c.names) k x at
request_side c (Connect o (Inproc name)) k x at = connect_side c o.0 (c.names.held (Inproc name)) k x at
request_side c (Bind o (Tcp address)) k x at = absurd (none_there x at)
request_side c (Connect o (Tcp address)) k x at = alone_side (outward (obj c.rows o.0).options (end_of (next_pair c) true)) refl k x at
request_side c (MakeSocket kind options) k x at = absurd (none_there x at)
request_side c AskTerm k x at = absurd (none_there x at)
request_side c (Unbind o end) k x at = absurd (none_there x at)
request_side c (Disconnect o end) k x at = absurd (none_there x at)
request_side c (Close o) k x at = absurd (none_there x at)
request_side c (Accepted o) k x at = absurd (none_there x at)
request_side c (Shaken o said) k x at = alone_side (inward (obj c.rows o.0).options (end_of (pair_or_none (obj c.rows o.0).pair) true)) refl k x at
request_side c (AskEnd f reason) k x at = absurd (none_there x at)
request_side c (AskOver o) k x at = absurd (none_there x at)
request_side c (OutputOver o) k x at = absurd (none_there x at)

pub made_side : (b c : Control) (req : Req) (d e : EndId) (v w r s : ℕ) → IsMadeFor b req d v w → IsMadeFor c req e r s → d.a ≡ e.a
made_side b c req d e v w r s one other = request_side b req one.place _ one.among ∙ sym (request_side c req other.place _ other.among)

-- a request that makes no end
pub none_made : (c : Control) (req : Req) (e : EndId) (written read : ℕ) → request_makes c req ≡ [] → IsMadeFor c req e written read → ⊥
none_made c req e written read none made = none_there _ (sym (ap (λ (l : List MadeEnd). slice_get l made.place) none) ∙ made.among)

-- and a close makes none
pub close_makes_none : (c : Control) (req : Req) → is_close req ≡ true → request_makes c req ≡ []
close_makes_none c (Close o) is = refl
close_makes_none c (MakeSocket kind options) is = absurd (true≢false (sym is))
close_makes_none c AskTerm is = absurd (true≢false (sym is))
close_makes_none c (Bind o at) is = absurd (true≢false (sym is))
close_makes_none c (Connect o at) is = absurd (true≢false (sym is))
close_makes_none c (Unbind o at) is = absurd (true≢false (sym is))
close_makes_none c (Disconnect o at) is = absurd (true≢false (sym is))
close_makes_none c (Accepted o) is = absurd (true≢false (sym is))
close_makes_none c (Shaken o said) is = absurd (true≢false (sym is))
close_makes_none c (AskEnd e reason) is = absurd (true≢false (sym is))
close_makes_none c (AskOver o) is = absurd (true≢false (sym is))
close_makes_none c (OutputOver o) is = absurd (true≢false (sym is))
