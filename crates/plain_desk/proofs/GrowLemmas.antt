-- The caller's items stand at the end of the order.
use Rattle.std.specs.Prelude.{◌≡◌, ◌++◌, ◌∷◌, [], Bool, true, false, Option, Some, None, Result, IfNone, IfOk, IfSome, OnErr, refl}
use Rattle.std.proofs.Common.{sym, ap, subst}
use Rattle.std.proofs.lemmas.List.Elements.{All-cons, All-nil}
use Rattle.zq_base.specs.declared.ids.EndId.{EndId}
use Rattle.zq_base.specs.declared.ids.ObjId.{ObjId}
use Rattle.zq_base.specs.declared.ids.SlotId.{SlotId}
use Rattle.spec_control.specs.declared.entry.Did.TheVariants.{Asked as DidAsk, Delivered, Delimited}
use Rattle.spec_control.specs.declared.entry.Item.{Item}
use Rattle.spec_control.specs.declared.entry.Item.TheVariants.{Event as IsEvent, Seen as IsLook}
use Rattle.spec_control.specs.declared.entry.SeenEmpty.{SeenEmpty}
use Rattle.spec_control.specs.declared.entry.SeenEmpty.TheVariants.{Mailbox, Reapers}
use Rattle.spec_control.specs.declared.entry.Sight.{Sight}
use Rattle.spec_control.specs.declared.request.Req.{Req}
use Rattle.spec_control.specs.declared.request.Req.TheVariants.{Close}
use Rattle.spec_control.specs.declared.request.Reply.{Reply}
use Rattle.spec_control.specs.declared.request.Reply.TheVariants.{Done as IsDone}
use Rattle.spec_control.specs.Held.{caller_of}
use Rattle.msg_pipe.specs.Known.{Known}
use Rattle.desk.specs.declared.given.Given.{Given}
use Rattle.desk.specs.Holding.{Holding}
use Rattle.desk.specs.declared.delivery.Delivery.{Delivery}
use Rattle.desk.specs.declared.delivery.Delivery.TheVariants.{Done, Empty}
use Rattle.ctl_plane.specs.Past.{Past}
use Rattle.plain_desk.specs.GrowsOwed.{grows_none}
use Rattle.plain_desk.specs.Lent.{Asks, ClosesOnce, FindsIn, GrowsBy, Lent, MeetsOrNot, Sees}
use Rattle.plain_desk.specs.Reaping.{FindsFirst}
use Rattle.plain_desk.proofs.PlaneLemmas.{either_way}

module _ {G N S : Type 0} (old new : Lent G N S) where
  one_more : (item : Item N S) → new.past.workers ≡ old.past.workers → new.caller ≡ old.caller → new.items ≡ old.items ++ item ∷ [] → caller_of item ≡ old.caller → GrowsBy old new
  one_more item workers caller items by = record {
    caller = caller;
    workers = workers;
    more = item ∷ [];
    items = items;
    by = All-cons (λ (x : Item N S). caller_of x ≡ old.caller) item [] by (All-nil _);
  }

  pub same_grows : new ≡ old → GrowsBy old new
  same_grows same = subst (GrowsBy old) (sym same) (grows_none old)

  pub asks_grow : (req : Req) (reply : Reply) → Asks req reply old new → GrowsBy old new
  asks_grow req reply asks = one_more (IsEvent (record { by = old.caller; did = DidAsk req reply asks.answered })) (ap (λ (p : Past G N S). p.workers) asks.past) asks.caller asks.items refl

  pub sees_grow : (empty : SeenEmpty) (sight : Sight) → Sees empty sight old new → GrowsBy old new
  sees_grow empty sight sees = one_more (IsLook sight) (ap (λ (p : Past G N S). p.workers) sees.past) sees.caller sees.items sees.by

  pub finds_grow : (slot : SlotId) (found : Delivery) → FindsIn slot found old new → GrowsBy old new
  finds_grow slot Done hears = one_more (IsEvent (record { by = old.caller; did = Delivered slot hears.letter hears.answered })) (ap (λ (p : Past G N S). p.workers) hears.past) hears.caller hears.items refl
  finds_grow slot Empty none = sees_grow (Mailbox slot) none.sight none.sees

  pub first_grows : (found : Delivery) → FindsFirst found old new → GrowsBy old new
  first_grows Done first =
      let hears = first.hears in
      one_more (IsEvent (record { by = old.caller; did = Delivered first.slot hears.letter hears.answered })) (ap (λ (p : Past G N S). p.workers) hears.past) hears.caller hears.items refl
  first_grows Empty none = sees_grow Reapers none.sight none.sees

  pub meets_grow : (e : EndId) (found : Bool) → MeetsOrNot e found old new → GrowsBy old new
  meets_grow e true meets = one_more (IsEvent (record { by = old.caller; did = Delimited e meets.answered })) (ap (λ (p : Past G N S). p.workers) meets.past) meets.caller meets.items refl
  meets_grow e false none = same_grows none.1

  -- ---- as a call answers
  pub asked_grow : {E : Type 0} (req : Req) (r : Result Reply E) → IfOk r (λ reply. Asks req reply old new) → OnErr r (new ≡ old) → GrowsBy old new
  asked_grow req r ok err = either_way r (λ reply. Asks req reply old new) (new ≡ old) (λ reply asks. asks_grow req reply asks) same_grows ok err

  pub delivered_grow : {E : Type 0} (slot : SlotId) (r : Result Delivery E) → IfOk r (λ found. FindsIn slot found old new) → OnErr r (new ≡ old) → GrowsBy old new
  delivered_grow slot r ok err = either_way r (λ found. FindsIn slot found old new) (new ≡ old) (λ found finds. finds_grow slot found finds) same_grows ok err

  pub reaped_grow : {E : Type 0} (r : Result Delivery E) → IfOk r (λ found. FindsFirst found old new) → OnErr r (new ≡ old) → GrowsBy old new
  reaped_grow r ok err = either_way r (λ found. FindsFirst found old new) (new ≡ old) (λ found finds. first_grows found finds) same_grows ok err

  pub looked_grow : (W : Type 0) (empty : SeenEmpty) (r : Option Sight) → IfSome r (λ sight. Sees empty sight old new) → IfNone r ((new ≡ old) × W) → GrowsBy old new
  looked_grow W empty (Some sight) sees none = sees_grow empty sight sees
  looked_grow W empty None sees none = same_grows none.0

-- a socket that is closed
pub close_grows : {P N O I S : Type 0} (K : Known P O I N) (pipes : P) (h : Holding N) (socket : ObjId) (old new : Lent (Given N O I) N S) → ClosesOnce K pipes h socket old new → GrowsBy old new
close_grows {P} {N} {O} {I} {S} K pipes h socket old new closes =
    one_more old new (IsEvent (record { by = old.caller; did = DidAsk (Close socket) IsDone closes.answered })) (ap (λ (p : Past (Given N O I) N S). p.workers) closes.past) closes.caller closes.items refl
