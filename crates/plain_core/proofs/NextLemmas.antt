-- The items of a desk's calls.
use Rattle.std.specs.Prelude.{◌≡◌, ◌++◌, ℕ, List, [], ◌∷◌}
use Rattle.std.proofs.Common.{ap, ◌∙◌, subst}
use Rattle.spec_control.specs.declared.entry.Did.TheVariants.{Asked as DidAsk}
use Rattle.spec_control.specs.declared.entry.Item.{Item}
use Rattle.spec_control.specs.declared.entry.Item.TheVariants.{Event, Seen}
use Rattle.spec_control.specs.declared.entry.SeenEmpty.TheVariants.{Nothing}
use Rattle.spec_control.specs.declared.entry.Sight.{Sight}
use Rattle.spec_control.specs.declared.request.Req.{Req}
use Rattle.spec_control.specs.declared.request.Reply.{Reply}
use Rattle.spec_control.specs.Control.{Control, begun}
use Rattle.spec_control.specs.ControlRun.{after_all, after_item, FitsItem, IsControlRun}
use Rattle.ctl_plane.specs.Past.{Past}
use Rattle.plain_desk.specs.Lent.{Lent, Asks, IsOneOrder, Sees}
use Rattle.plain_core.specs.Sound.{Core}

module _ {N T : Type 0} where
  pub last_fits : (items : List (Item N T)) (item : Item N T) (c : Control) → IsControlRun c (items ++ item ∷ []) → IsControlRun c items × FitsItem (after_all items c) item
  last_fits [] item c run = (tt, run.0)
  last_fits (x ∷ items) item c run = let rest = last_fits items item (after_item x c) run.1 in ((run.0, rest.0), rest.1)

-- ---- the items of a desk's calls

-- the desk has this item more
pub record Next {S G N T : Type 0} (v : Core S G N T) (d : Lent G N T) (item : Item N T) : Type 0 where
  pub one : d.past.workers ≡ 1
  pub order : d.items ≡ v.desk.items ++ item ∷ []
  pub run : IsControlRun (begun 1) (v.desk.items ++ item ∷ [])

module _ {S G N T : Type 0} (v : Core S G N T) (lent d : Lent G N T) (by : ℕ) (one : v.desk.past.workers ≡ 1) (is_lent : lent ≡ record v.desk { caller = by }) (is : IsOneOrder d) where
  next : (item : Item N T) → d.past.workers ≡ lent.past.workers → d.items ≡ lent.items ++ item ∷ [] → Next v d item
  next item workers items =
      let only = workers ∙ ap (λ (l : Lent G N T). l.past.workers) is_lent ∙ one in
      let order = items ∙ ap (λ (l : Lent G N T). l.items ++ item ∷ []) is_lent in record {
        one = only;
        order = order;
        run = subst (λ (n : ℕ). IsControlRun (begun n) (v.desk.items ++ item ∷ [])) only (subst (λ (xs : List (Item N T)). IsControlRun (begun d.past.workers) xs) order is.order.run);
      }

  pub next_look : (sight : Sight) → Sees Nothing sight lent d → Next v d (Seen sight)
  next_look sight sees = next (Seen sight) (ap (λ (p : Past G N T). p.workers) sees.past) sees.items

  pub next_ask : (req : Req) (reply : Reply) (asks : Asks req reply lent d) → Next v d (Event (record { by = lent.caller; did = DidAsk req reply asks.answered }))
  next_ask req reply asks = next (Event (record { by = lent.caller; did = DidAsk req reply asks.answered })) (ap (λ (p : Past G N T). p.workers) asks.past) asks.items
