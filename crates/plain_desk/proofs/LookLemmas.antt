-- A look more is noted in the order.
use Rattle.std.specs.Prelude.{◌≡◌, ◌+◌, ◌++◌, ◌∷◌, [], ℕ, List, refl}
use Rattle.std.proofs.Common.{sym, ap, ◌∙◌, subst}
use Rattle.std.proofs.lemmas.List.Elements.{All-nil}
use Rattle.spec_control.specs.declared.entry.Sight.{Sight}
use Rattle.spec_control.specs.declared.entry.SeenEmpty.{SeenEmpty}
use Rattle.spec_control.specs.declared.entry.Item.{Item}
use Rattle.spec_control.specs.declared.entry.Item.TheVariants.{Seen as IsLook}
use Rattle.spec_control.specs.Control.{Control}
use Rattle.spec_control.specs.ControlRun.{IsSeen}
use Rattle.ctl_plane.specs.Past.{Past, control_of}
use Rattle.plain_desk.specs.declared.mark.Mark.{Mark}
use Rattle.plain_desk.specs.declared.mark.Mark.TheVariants.{Event, Seen}
use Rattle.plain_desk.specs.Order.{events_in, order_of, IsOrder}
use Rattle.plain_desk.specs.Lent.{lent_to, IsLent, Lent, Sees}
use Rattle.plain_desk.proofs.LentLemmas.{control_is}
use Rattle.plain_desk.proofs.OrderLemmas.{goes_on, look_more}

same_events : (ms : List Mark) (sight : Sight) → events_in (ms ++ Seen sight ∷ []) ≡ events_in ms
same_events [] sight = refl
same_events (Event k ∷ ms) sight = ap (λ (n : ℕ). 1 + n) (same_events ms sight)
same_events (Seen s ∷ ms) sight = same_events ms sight

module _ {G N S : Type 0} (ms ms' : List Mark) (past : Past G N S) (wakers : ℕ) (sight : Sight) (marks : ms' ≡ ms ++ Seen sight ∷ []) (lent : IsLent ms past wakers) (seen : IsSeen (control_of past) sight) where
  pub lent_looks : IsLent ms' past wakers
  lent_looks = subst (λ (xs : List Mark). IsLent xs past wakers) (sym marks) (record {
    marked = same_events ms sight ∙ lent.marked;
    order = subst (λ (xs : List (Item N S)). IsOrder past.workers xs) (sym (look_more ms past.events sight lent.marked))
        (goes_on past.workers (order_of ms past.events) (IsLook sight) lent.order (record {
          fits = subst (λ (c : Control). IsSeen c sight) (sym (control_is ms past wakers lent)) seen;
          names = All-nil _;
          by = tt;
        }));
    options = lent.options;
    wakers = lent.wakers;
    boxes = lent.boxes;
  })

  pub sees_more : (by : ℕ) (empty : SeenEmpty) (l : Lent G N S) → lent_to by ms past ≡ l → sight.empty ≡ empty → sight.by ≡ by → Sees empty sight l (lent_to by ms' past)
  sees_more by empty l same looked_at of =
      subst (λ (d : Lent G N S). Sees empty sight d (lent_to by ms' past)) same (record {
        looked_at = looked_at;
        by = of;
        seen = seen;
        past = refl;
        items = ap (λ (xs : List Mark). order_of xs past.events) marks ∙ look_more ms past.events sight lent.marked;
        caller = refl;
      })
