-- A request more among its caller's moments.
use Rattle.std.specs.Prelude.{◌≡◌, ◌++◌, ◌∷◌, [], ℕ, List, false, flat_map, refl}
use Rattle.std.proofs.Common.{arith, sym, ap, ◌∙◌}
use Rattle.std.proofs.lemmas.Grind.{flat_map-append}
use Rattle.std.proofs.lemmas.List.{append-nil}
use Rattle.std.proofs.lemmas.List.Elements.{All-nil}
use Rattle.zq_base.specs.declared.ids.ObjId.{ObjId}
use Rattle.spec_control.specs.declared.entry.Did.TheVariants.{Asked as DidAsk}
use Rattle.spec_control.specs.declared.entry.Item.{Item}
use Rattle.spec_control.specs.declared.entry.Item.TheVariants.{Event as IsEvent}
use Rattle.spec_control.specs.declared.request.Req.{Req}
use Rattle.spec_control.specs.declared.request.Req.TheVariants.{Close}
use Rattle.spec_control.specs.declared.request.Reply.{Reply}
use Rattle.spec_control.specs.declared.request.Reply.TheVariants.{Done as IsDone}
use Rattle.spec_control.specs.Control.{begun}
use Rattle.spec_control.specs.ControlRun.{after_all}
use Rattle.spec_control.specs.Names.{name_in, name_of, named_in}
use Rattle.spec_control.specs.Held.{caller_of}
use Rattle.spec_control.specs.Moments.{moments_by, moments_from}
use Rattle.control_laws.proofs.ListLemmas.{never}
use Rattle.msg_pipe.specs.Known.{Known}
use Rattle.desk.specs.declared.given.Given.{Given}
use Rattle.desk.specs.Holding.{Holding}
use Rattle.desk.specs.Coming.{KeepsNames, SendsEnds, is_close}
use Rattle.desk.specs.Desk.{AsksOnce}
use Rattle.ctl_plane.specs.Past.{Past}
use Rattle.plain_desk.specs.Lent.{Asks, ClosesOnce, Lent, moments_of}
use Rattle.plain_desk.proofs.AsideLemmas.{name_stays}
use Rattle.plain_desk.proofs.OrderLemmas.{own_more}

module _ {G N S : Type 0} (old new : Lent G N S) (item : Item N S) (workers : new.past.workers ≡ old.past.workers) (caller : new.caller ≡ old.caller) (items : new.items ≡ old.items ++ item ∷ []) where
  pub moment_more : caller_of item ≡ old.caller → moments_of new ≡ moments_of old ++ record { found = after_all old.items (begun old.past.workers); item = item } ∷ []
  moment_more by =
      ap (λ (k : ℕ). moments_by k (moments_from (begun new.past.workers) new.items)) caller
      ∙ ap (λ (w : ℕ). moments_by old.caller (moments_from (begun w) new.items)) workers
      ∙ ap (λ (xs : List (Item N S)). moments_by old.caller (moments_from (begun old.past.workers) xs)) items
      ∙ own_more old.caller old.past.workers old.items item by

-- names stay behind an item
pub names_stay : {N S : Type 0} (xs ys : List (Item N S)) (item : Item N S) → ys ≡ xs ++ item ∷ [] → KeepsNames (name_of xs) (name_of ys)
names_stay xs ys item grown e n is =
    ap (λ (zs : List (Item _ _)). name_of zs e) grown
    ∙ ap (name_in e) (flat_map-append named_in xs (item ∷ []))
    ∙ name_stays e (flat_map named_in xs) (flat_map named_in (item ∷ [])) n is

module _ {G N S : Type 0} (req : Req) (reply : Reply) (old new : Lent G N S) (asks : Asks req reply old new) where
  pub asks_once : AsksOnce old.caller req reply (moments_of old) (moments_of new)
  asks_once = record {
    found = after_all old.items (begun old.past.workers);
    answered = asks.answered;
    one_more = moment_more old new (IsEvent (record { by = old.caller; did = DidAsk req reply asks.answered })) (ap (λ (p : Past G N S). p.workers) asks.past) asks.caller asks.items refl;
  }

  pub asked_names : KeepsNames (name_of old.items) (name_of new.items)
  asked_names = names_stay old.items new.items (IsEvent (record { by = old.caller; did = DidAsk req reply asks.answered })) asks.items

pub asked_sends : {P N O I S : Type 0} (K : Known P O I N) (pipes : P) (h : Holding N) (req : Req) (reply : Reply) (old new : Lent (Given N O I) N S) → is_close req ≡ false → Asks req reply old new → SendsEnds K pipes h req old.past.given new.past.given
asked_sends {P} {N} {O} {I} {S} K pipes h req reply old new other asks = record {
  ends = [];
  behind = ap (λ (p : Past (Given N O I) N S). p.given) asks.past ∙ sym (append-nil old.past.given);
  given = All-nil _;
  sealed = All-nil _;
  all = λ o is. absurd (never (sym other ∙ ap is_close is));
  others = λ e. refl;
}

closed_one : {x y : ObjId} → Close x ≡ Close y → x ≡ y
closed_one e = Prim.grind arith

-- a socket that is closed
module _ {P N O I S : Type 0} (K : Known P O I N) (pipes : P) (h : Holding N) (socket : ObjId) (old new : Lent (Given N O I) N S) (closes : ClosesOnce K pipes h socket old new) where
  pub closes_once : AsksOnce old.caller (Close socket) IsDone (moments_of old) (moments_of new)
  closes_once = record {
    found = after_all old.items (begun old.past.workers);
    answered = closes.answered;
    one_more = moment_more old new (IsEvent (record { by = old.caller; did = DidAsk (Close socket) IsDone closes.answered })) (ap (λ (p : Past (Given N O I) N S). p.workers) closes.past) closes.caller closes.items refl;
  }

  pub closed_names : KeepsNames (name_of old.items) (name_of new.items)
  closed_names = names_stay old.items new.items (IsEvent (record { by = old.caller; did = DidAsk (Close socket) IsDone closes.answered })) closes.items

  pub closed_sends : SendsEnds K pipes h (Close socket) old.past.given new.past.given
  closed_sends = record {
    ends = closes.ends;
    behind = ap (λ (p : Past (Given N O I) N S). p.given) closes.past;
    given = closes.given;
    sealed = closes.sealed;
    all = λ o is. closes.all ∙ ap (λ (x : ObjId). h.ends x.0) (closed_one is);
    others = λ e. absurd (never (sym e));
  }
