-- That a bind adds its event.
use Rattle.std.specs.Prelude.{◌≡◌, ◌≤◌, ◌+◌, ℕ, Bool, true, false, List, Option, Some, None, length, not, is_some, refl}
use Rattle.std.proofs.Common.{arith, sym, ap, ◌∙◌}
use Rattle.std.proofs.lemmas.Bool.Decides.{Decides-ltb}
use Rattle.zq_base.specs.declared.endpoint.Endpoint.TheVariants.{Inproc}
use Rattle.zq_base.specs.declared.ids.ObjId.{ObjId}
use Rattle.spec_control.specs.declared.request.Req.TheVariants.{Bind}
use Rattle.spec_control.specs.declared.request.Refusal.TheVariants.{InUse, TooMany}
use Rattle.spec_control.specs.declared.request.Reply.TheVariants.{Done}
use Rattle.spec_control.specs.Register.{fulfilled_by}
use Rattle.spec_control.specs.Control.{Control, next_pair}
use Rattle.spec_control.specs.After.{binding_by}
use Rattle.spec_control.specs.Reply.{reply_of, unless, bind_reply, has_pairs, most_made_pairs}
use Rattle.control_laws.proofs.ListLemmas.{never}
use Rattle.ctl_moves.specs.Refusals.{refusal_in}
use Rattle.ctl_plane.proofs.RefusalLemmas.{is_behind, passed}

module _ (c : Control) (o : ObjId) (name : List ℕ) (allowed : refusal_in (reply_of c (Bind o (Inproc name))) ≡ None) where
  abbrev too_many : Bool
  too_many = not (has_pairs (length (fulfilled_by (Inproc name) (binding_by o.0 c) c.names)) c)

  behind : reply_of c (Bind o (Inproc name)) ≡ bind_reply o.0 (Inproc name) c
  behind = is_behind c (bind_reply o.0 (Inproc name) c) allowed

  free : refusal_in (bind_reply o.0 (Inproc name) c) ≡ None
  free = sym (ap refusal_in behind) ∙ allowed

  unheld : is_some (c.names.held (Inproc name)) ≡ false
  unheld = passed (is_some (c.names.held (Inproc name))) InUse (unless too_many TooMany Done) free

  few : too_many ≡ false
  few = passed too_many TooMany Done (sym (ap (λ (b : Bool). refusal_in (unless b InUse (unless too_many TooMany Done))) unheld) ∙ free)

  pub bind_done : reply_of c (Bind o (Inproc name)) ≡ Done
  bind_done = behind ∙ ap (λ (b : Bool). unless b InUse (unless too_many TooMany Done)) unheld ∙ ap (λ (b : Bool). unless b TooMany Done) few

  pub name_is_free : c.names.held (Inproc name) ≡ None
  name_is_free = by (c.names.held (Inproc name)) unheld
    where
      by : {X : Type 0} (x : Option X) → is_some x ≡ false → x ≡ None
      by None e = refl
      by (Some x) e = absurd (never (sym e))

  -- there are numbers left for all pairs that it makes
  pub enough_pairs : next_pair c + length (fulfilled_by (Inproc name) (binding_by o.0 c) c.names) ≤ most_made_pairs + 1
  enough_pairs = by (has_pairs many c) refl few
    where
      many : ℕ
      many = length (fulfilled_by (Inproc name) (binding_by o.0 c) c.names)

      by : (b : Bool) → has_pairs (length (fulfilled_by (Inproc name) (binding_by o.0 c) c.names)) c ≡ b → not b ≡ false → next_pair c + length (fulfilled_by (Inproc name) (binding_by o.0 c) c.names) ≤ most_made_pairs + 1
      by true is e = let less = (Decides-ltb (next_pair c + many) (most_made_pairs + 2)).0 is in omega (arith, less)
      by false is e = absurd (never (sym e))
