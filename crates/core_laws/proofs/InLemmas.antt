-- Where no command that is taken is a Plug, no listener or session is taken in.
use Rattle.std.specs.Prelude.{◌≡◌, ℕ, Bool, true, false, not, refl}
use Rattle.std.proofs.Common.{sym, ap, ◌∙◌}
use Rattle.spec_control.specs.declared.entry.Did.{Did}
use Rattle.spec_control.specs.declared.entry.Item.{Item}
use Rattle.spec_control.specs.declared.entry.Item.TheVariants.{Event, Seen}
use Rattle.spec_control.specs.Row.{is_socket}
use Rattle.spec_control.specs.Rows.{obj}
use Rattle.spec_control.specs.Control.{Control}
use Rattle.spec_control.specs.After.{after}
use Rattle.spec_control.specs.ControlRun.{after_item, Fits, FitsItem}
use Rattle.control_laws.proofs.ListLemmas.{left, never, right}
use Rattle.control_laws.specs.Kept.{Kept}
use Rattle.desk.specs.Joins.{is_plugged_between}
use Rattle.plain_desk.proofs.HoldLemmas.{no_plug_between}
use Rattle.plain_desk.proofs.PluggedLemmas.{by_plug}
use Rattle.core_laws.specs.Arriving.{plugs_by, plugs_in}
use Rattle.core_laws.specs.Came.{TakesNoneIn}

is_not : (b : Bool) → not b ≡ true → b ≡ false
is_not true h = absurd (never h)
is_not false h = refl

module _ {N T : Type 0} (c : Control) (kept : Kept c) (i : ℕ) where
  none_at : (did : Did N T) → Fits c did → plugs_in did ≡ false → is_plugged_between (obj c.rows i) (obj (after did c).rows i) ≡ true → ⊥
  none_at did fits none is =
      let turned = right (not (is_socket (obj c.rows i).kind)) _ is in
      by_plug c did kept fits i (is_not (obj c.rows i).plugged (left (not (obj c.rows i).plugged) _ turned)) (right (not (obj c.rows i).plugged) _ turned)
      (λ slot to end h same. never (sym none ∙ ap plugs_in same))

  none_by : (x : Item N T) → FitsItem c x → plugs_by x ≡ false → is_plugged_between (obj c.rows i) (obj (after_item x c).rows i) ≡ true → ⊥
  none_by (Event entry) fits none is = none_at entry.did fits none is
  none_by (Seen sight) fits none is = never (sym (no_plug_between (obj c.rows i)) ∙ is)

pub takes_none_in : {N T : Type 0} (c : Control) (x : Item N T) → Kept c → FitsItem c x → plugs_by x ≡ false → TakesNoneIn c (after_item x c)
takes_none_in c x kept fits none i = by (is_plugged_between (obj c.rows i) (obj (after_item x c).rows i)) refl
  where
    by : (b : Bool) → is_plugged_between (obj c.rows i) (obj (after_item x c).rows i) ≡ b → b ≡ false
    by true e = absurd (none_by c kept i x fits none e)
    by false e = refl
