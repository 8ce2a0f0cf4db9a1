-- What the calls of a desk leave, as its caller's moments say it.
use Rattle.std.specs.Prelude.{◌≡◌, [], ℕ, Bool, true, false, List, Option, Some, None, Result, Ok, Err, IfNone, IfOk, IfSome, OnErr, is_some, refl}
use Rattle.std.proofs.Common.{sym, ap, ◌∙◌, subst}
use Rattle.std.proofs.lemmas.Result.{IfOk-weaker}
use Rattle.zq_base.specs.declared.ids.EndId.{EndId}
use Rattle.zq_base.specs.declared.ids.SlotId.{SlotId}
use Rattle.spec_control.specs.declared.entry.Did.TheVariants.{Delivered, Delimited}
use Rattle.spec_control.specs.declared.entry.Item.TheVariants.{Event as IsEvent, Seen as IsLook}
use Rattle.spec_control.specs.declared.entry.SeenEmpty.{SeenEmpty}
use Rattle.spec_control.specs.declared.entry.SeenEmpty.TheVariants.{Mailbox, Reapers}
use Rattle.spec_control.specs.declared.entry.Sight.{Sight}
use Rattle.spec_control.specs.declared.request.Req.{Req}
use Rattle.spec_control.specs.declared.request.Reply.{Reply}
use Rattle.spec_control.specs.Control.{Control, begun}
use Rattle.spec_control.specs.ControlRun.{AreEmpty, MayAsk, after_all}
use Rattle.spec_control.specs.Names.{name_of}
use Rattle.spec_control.specs.Held.{items_by}
use Rattle.spec_control.specs.Moments.{items_in}
use Rattle.spec_control.specs.OwnAsks.{MayAskOwn}
use Rattle.spec_control.specs.declared.entry.Item.{Item}
use Rattle.spec_control.specs.Row.{is_socket}
use Rattle.spec_control.specs.Rows.{obj}
use Rattle.zq_base.specs.declared.kind.Kind.{Kind}
use Rattle.control_laws.proofs.HeldOpenLemmas.{sockets_are_open}
use Rattle.control_laws.proofs.MomentLemmas.{own_moments}
use Rattle.control_laws.proofs.WorkerLemmas.{workers_may_ask}
use Rattle.desk.specs.Asking.{IsOfWorkers}
use Rattle.desk.specs.declared.delivery.Delivery.{Delivery}
use Rattle.desk.specs.declared.delivery.Delivery.TheVariants.{Done, Empty}
use Rattle.msg_pipe.specs.Known.{Known}
use Rattle.desk.specs.declared.given.Given.{Given}
use Rattle.desk.specs.Holding.{Holding}
use Rattle.desk.specs.Coming.{KeepsNames, SendsEnds, TakesEnds, is_close}
use Rattle.desk.specs.Desk.{AsksOnce, DelimitsOrNot, GivesOrNot, HasWhatTheySay, IsSocketsMailbox, Looks, LooksOrNot, ReapsOrNot}
use Rattle.desk.specs.Kinds.{kind_after}
use Rattle.ctl_plane.specs.Past.{Past, control_of, only_given, with_event}
use Rattle.plain_desk.specs.Lent.{Asks, FindsIn, Hears, IsOfSocket, IsOneOrder, Lent, MeetsOrNot, Sees, SeesNone, moments_of}
use Rattle.plain_desk.specs.Reaping.{FindsFirst, HearsFrom}
use Rattle.plain_desk.proofs.LentLemmas.{some_of}
use Rattle.plain_desk.proofs.AskLemmas.{asked_names, asked_sends, asks_once, moment_more, names_stay}

pub either_way : {X E Q : Type 0} (r : Result X E) (P : X → Type 0) (R : Type 0) → ((x : X) → P x → Q) → (R → Q) → IfOk r P → OnErr r R → Q
either_way (Ok x) P R f g ok err = f x ok
either_way (Err e) P R f g ok err = g err

module _ {G N S : Type 0} (old new : Lent G N S) where
  pub same_names : new ≡ old → KeepsNames (name_of old.items) (name_of new.items)
  same_names same e n is = ap (λ (d : Lent G N S). name_of d.items e) same ∙ is

  pub same_moments : new ≡ old → moments_of new ≡ moments_of old
  same_moments same = ap (λ (d : Lent G N S). moments_of d) same

  pub same_given : new ≡ old → new.past.given ≡ old.past.given
  same_given same = ap (λ (d : Lent G N S). d.past.given) same

  -- ---- looks
  pub looks_once : (empty : SeenEmpty) (sight : Sight) → Sees empty sight old new → Looks old.caller empty sight (moments_of old) (moments_of new)
  looks_once empty sight sees = record {
    found = after_all old.items (begun old.past.workers);
    caller = sees.by;
    looked_at = sees.looked_at;
    one_more = moment_more old new (IsLook sight) (ap (λ (p : Past G N S). p.workers) sees.past) sees.caller sees.items sees.by;
  }

  pub look_names : (empty : SeenEmpty) (sight : Sight) → Sees empty sight old new → KeepsNames (name_of old.items) (name_of new.items)
  look_names empty sight sees = names_stay old.items new.items (IsLook sight) sees.items

  -- ---- deliveries
  pub gives : (slot : SlotId) (found : Delivery) → FindsIn slot found old new → GivesOrNot old.caller slot found (moments_of old) (moments_of new)
  gives slot Done hears = record {
    found = after_all old.items (begun old.past.workers);
    letter = hears.letter;
    answered = hears.answered;
    one_more = moment_more old new (IsEvent (record { by = old.caller; did = Delivered slot hears.letter hears.answered })) (ap (λ (p : Past G N S). p.workers) hears.past) hears.caller hears.items refl;
  }
  gives slot Empty none = record { sight = none.sight; looks = looks_once (Mailbox slot) none.sight none.sees }

  pub gives_names : (slot : SlotId) (found : Delivery) → FindsIn slot found old new → KeepsNames (name_of old.items) (name_of new.items)
  gives_names slot Done hears = names_stay old.items new.items (IsEvent (record { by = old.caller; did = Delivered slot hears.letter hears.answered })) hears.items
  gives_names slot Empty none = look_names (Mailbox slot) none.sight none.sees

  pub gives_given : (slot : SlotId) (found : Delivery) → FindsIn slot found old new → new.past.given ≡ old.past.given
  gives_given slot Done hears = ap (λ (p : Past G N S). p.given) hears.past
  gives_given slot Empty none = (let sees = none.sees in ap (λ (p : Past G N S). p.given) sees.past)

  pub gives_caller : (slot : SlotId) (found : Delivery) → FindsIn slot found old new → new.caller ≡ old.caller
  gives_caller slot Done hears = hears.caller
  gives_caller slot Empty none = (let sees = none.sees in sees.caller)

  -- ---- the reaper's
  pub reaps : (found : Delivery) → FindsFirst found old new → ReapsOrNot old.caller found (moments_of old) (moments_of new)
  reaps Done first =
      let hears = first.hears in
      record {
        slot = first.slot;
        takes = record {
          found = after_all old.items (begun old.past.workers);
          letter = hears.letter;
          answered = hears.answered;
          one_more = moment_more old new (IsEvent (record { by = old.caller; did = Delivered first.slot hears.letter hears.answered })) (ap (λ (p : Past G N S). p.workers) hears.past) hears.caller hears.items refl;
        };
        first = first.first;
      }
  reaps Empty none = record { sight = none.sight; looks = looks_once Reapers none.sight none.sees }

  pub reaps_names : (found : Delivery) → FindsFirst found old new → KeepsNames (name_of old.items) (name_of new.items)
  reaps_names Done first =
      let hears = first.hears in
      names_stay old.items new.items (IsEvent (record { by = old.caller; did = Delivered first.slot hears.letter hears.answered })) hears.items
  reaps_names Empty none = look_names Reapers none.sight none.sees

  pub reaps_caller : (found : Delivery) → FindsFirst found old new → new.caller ≡ old.caller
  reaps_caller Done first = (let hears = first.hears in hears.caller)
  reaps_caller Empty none = (let sees = none.sees in sees.caller)

  -- ---- delimiters
  pub delimits : (e : EndId) (found : Bool) → MeetsOrNot e found old new → DelimitsOrNot old.caller e found (moments_of old) (moments_of new)
  delimits e true meets = record {
    found = after_all old.items (begun old.past.workers);
    answered = meets.answered;
    one_more = moment_more old new (IsEvent (record { by = old.caller; did = Delimited e meets.answered })) (ap (λ (p : Past G N S). p.workers) meets.past) meets.caller meets.items refl;
  }
  delimits e false none = same_moments none.1

  pub delimits_names : (e : EndId) (found : Bool) → MeetsOrNot e found old new → KeepsNames (name_of old.items) (name_of new.items)
  delimits_names e true meets = names_stay old.items new.items (IsEvent (record { by = old.caller; did = Delimited e meets.answered })) meets.items
  delimits_names e false none = same_names none.1

  pub delimits_given : (e : EndId) (found : Bool) → MeetsOrNot e found old new → new.past.given ≡ old.past.given
  delimits_given e true meets = ap (λ (p : Past G N S). p.given) meets.past
  delimits_given e false none = same_given none.1

  pub delimits_caller : (e : EndId) (found : Bool) → MeetsOrNot e found old new → new.caller ≡ old.caller
  delimits_caller e true meets = meets.caller
  delimits_caller e false none = ap (λ (d : Lent G N S). d.caller) none.1

-- ---- a request of a worker's listener or session may be made where its caller's own moments allow it
pub worker_asks : {G N S : Type 0} (d : Lent G N S) → IsOneOrder d → (req : Req) → IsOfWorkers req → MayAskOwn (items_in (moments_of d)) req → MayAsk (control_of d.past) req
worker_asks {G} {N} {S} d one req own may =
    let order = one.order in
    let w = d.past.workers in
    subst (λ (c : Control). MayAsk c req) (sym one.control)
    (workers_may_ask N S w d.items order.run order.by d.caller req own (subst (λ (xs : List (Item N S)). MayAskOwn xs req) (own_moments d.caller d.items (begun w)) may))

-- ---- a request, as it is answered
module _ {N O I S E : Type 0} (request req : Req) (is : request ≡ req) (old new : Lent (Given N O I) N S) (r : Result Reply E) (ok : IfOk r (λ reply. Asks req reply old new)) (err : OnErr r (new ≡ old)) where
  pub asks_so : IfOk r (λ reply. Asks request reply old new)
  asks_so = IfOk-weaker r (λ reply. Asks req reply old new) (λ reply. Asks request reply old new)
      (λ reply asks. subst (λ (q : Req). Asks q reply old new) (sym is) asks) ok

  pub ask_ok : IfOk r (λ reply. AsksOnce old.caller request reply (moments_of old) (moments_of new))
  ask_ok = IfOk-weaker r (λ reply. Asks req reply old new) (λ reply. AsksOnce old.caller request reply (moments_of old) (moments_of new))
      (λ reply asks. subst (λ (q : Req). AsksOnce old.caller q reply (moments_of old) (moments_of new)) (sym is) (asks_once req reply old new asks)) ok

  pub ask_given : {P : Type 0} (K : Known P O I N) (pipes : P) (h : Holding N) → is_close req ≡ false → IfOk r (λ reply. SendsEnds K pipes h request old.past.given new.past.given)
  ask_given K pipes h other = IfOk-weaker r (λ reply. Asks req reply old new) (λ reply. SendsEnds K pipes h request old.past.given new.past.given)
      (λ reply asks. subst (λ (q : Req). SendsEnds K pipes h q old.past.given new.past.given) (sym is) (asked_sends K pipes h req reply old new other asks)) ok

  pub ask_names : KeepsNames (name_of old.items) (name_of new.items)
  ask_names = either_way r (λ reply. Asks req reply old new) (new ≡ old) (λ reply asks. asked_names req reply old new asks) (λ same. same_names old new same) ok err

  pub ask_caller : new.caller ≡ old.caller
  ask_caller = either_way r (λ reply. Asks req reply old new) (new ≡ old) (λ reply asks. asks.caller) (λ same. ap (λ (d : Lent (Given N O I) N S). d.caller) same) ok err

  -- it gives no ends
  pub asked_none_given : new.past.given ≡ old.past.given
  asked_none_given = either_way r (λ reply. Asks request reply old new) (new ≡ old) (λ reply asks. ap (λ (p : Past (Given N O I) N S). p.given) asks.past) (λ same. ap (λ (d : Lent (Given N O I) N S). d.past.given) same) asks_so err

-- ---- ends of closed sockets
pub takes_none : {N O I S : Type 0} (old new : Past (Given N O I) N S) → new ≡ old → TakesEnds old.given new.given
takes_none {N} {O} {I} {S} old new same = record { ends = []; first = ap (λ (p : Past (Given N O I) N S). p.given) (sym same) }

pub takes_same : {N O I : Type 0} (old new : List (Given N O I)) → new ≡ old → TakesEnds old new
takes_same old new same = record { ends = []; first = sym same }

-- a command of a mailbox of its own brings none
pub hears_from : {G N S : Type 0} (slot : SlotId) (old new : Lent G N S) → Hears slot old new → HearsFrom slot old new
hears_from {G} {N} {S} slot old new hears = record {
  letter = hears.letter;
  answered = hears.answered;
  past = hears.past ∙ sym (ap (λ (gs : List G). only_given gs (with_event (Delivered slot hears.letter hears.answered) old.past)) (ap (λ (p : Past G N S). p.given) hears.past));
  items = hears.items;
  caller = hears.caller;
}

pub found_empty : {G N S : Type 0} (slot : SlotId) (old new : Lent G N S) → SeesNone slot old new → (control_of old.past).boxes slot.0 ≡ []
found_empty slot old new none =
    let sees = none.sees in
    let seen = sees.seen in
    subst (λ (e : SeenEmpty). AreEmpty (control_of old.past) e) sees.looked_at seen.empty

-- ---- as a desk tells it
err_weaker : {X E : Type 0} (r : Result X E) (P Q : Type 0) → (P → Q) → OnErr r P → OnErr r Q
err_weaker (Ok x) P Q f e = e
err_weaker (Err y) P Q f e = f e

pub err_moments : {X E G N S : Type 0} (r : Result X E) (old new : Lent G N S) → OnErr r (new ≡ old) → OnErr r (moments_of new ≡ moments_of old)
err_moments r old new = err_weaker r (new ≡ old) (moments_of new ≡ moments_of old) (λ same. same_moments old new same)

pub err_both : {X E G N S : Type 0} (r : Result X E) (old new : Lent G N S) → OnErr r (new ≡ old) → OnErr r ((moments_of new ≡ moments_of old) × (new.past.given ≡ old.past.given))
err_both r old new = err_weaker r (new ≡ old) ((moments_of new ≡ moments_of old) × (new.past.given ≡ old.past.given)) (λ same. (same_moments old new same, same_given old new same))

-- who has an open socket has the mailbox of a socket
pub mine_is : {G N S : Type 0} (slot : ℕ) (d : Lent G N S) (h : Holding N) → IsOneOrder d → HasWhatTheySay d.caller (moments_of d) h → IsSocketsMailbox slot (moments_of d) h → IsOfSocket slot d h
mine_is {G} {N} {S} slot d h order say mine =
    let w = d.past.workers in
    let o = mine.its.object in
    let all = order.order in
    let own = own_moments d.caller d.items (begun w) in
    let kind = some_of (kind_after o (items_by d.caller d.items)) (ap (λ (k : Option Kind). is_some k) (ap (kind_after o) (sym own) ∙ sym (say.kinds o mine.its.has)) ∙ mine.open_still) in
    let is = sockets_are_open N S w d.items all.run all.by d.caller o kind.0 kind.1 in
    record { its = mine.its; socket = ap (λ (c : Control). is_socket (obj c.rows o).kind) order.control ∙ (is.open_socket).socket }

module _ {G N S E : Type 0} (old new : Lent G N S) (r : Result Delivery E) (err : OnErr r (new ≡ old)) where
  module _ (slot : SlotId) (ok : IfOk r (λ found. FindsIn slot found old new)) where
    pub delivered_ok : IfOk r (λ found. GivesOrNot old.caller slot found (moments_of old) (moments_of new))
    delivered_ok = IfOk-weaker r (λ found. FindsIn slot found old new) (λ found. GivesOrNot old.caller slot found (moments_of old) (moments_of new)) (λ found h. gives old new slot found h) ok

    pub delivered_given : new.past.given ≡ old.past.given
    delivered_given = either_way r (λ found. FindsIn slot found old new) (new ≡ old) (λ found h. gives_given old new slot found h) (λ same. same_given old new same) ok err

    pub delivered_names : KeepsNames (name_of old.items) (name_of new.items)
    delivered_names = either_way r (λ found. FindsIn slot found old new) (new ≡ old) (λ found h. gives_names old new slot found h) (λ same. same_names old new same) ok err

    pub delivered_caller : new.caller ≡ old.caller
    delivered_caller = either_way r (λ found. FindsIn slot found old new) (new ≡ old) (λ found h. gives_caller old new slot found h) (λ same. ap (λ (d : Lent G N S). d.caller) same) ok err

  module _ (ok : IfOk r (λ found. FindsFirst found old new)) where
    pub reaped_ok : IfOk r (λ found. ReapsOrNot old.caller found (moments_of old) (moments_of new))
    reaped_ok = IfOk-weaker r (λ found. FindsFirst found old new) (λ found. ReapsOrNot old.caller found (moments_of old) (moments_of new)) (λ found h. reaps old new found h) ok

    pub reaped_names : KeepsNames (name_of old.items) (name_of new.items)
    reaped_names = either_way r (λ found. FindsFirst found old new) (new ≡ old) (λ found h. reaps_names old new found h) (λ same. same_names old new same) ok err

    pub reaped_caller : new.caller ≡ old.caller
    reaped_caller = either_way r (λ found. FindsFirst found old new) (new ≡ old) (λ found h. reaps_caller old new found h) (λ same. ap (λ (d : Lent G N S). d.caller) same) ok err

-- a look that saw, or did not
module _ {G N S : Type 0} (W : Type 0) (empty : SeenEmpty) (old new : Lent G N S) where
  pub looks_or : (r : Option Sight) → IfSome r (λ sight. Sees empty sight old new) → IfNone r ((new ≡ old) × W) → LooksOrNot old.caller empty r (moments_of old) (moments_of new)
  looks_or (Some sight) sees none = looks_once old new empty sight sees
  looks_or None sees none = same_moments old new none.0

  pub looked_given : (r : Option Sight) → IfSome r (λ sight. Sees empty sight old new) → IfNone r ((new ≡ old) × W) → new.past.given ≡ old.past.given
  looked_given (Some sight) sees none = ap (λ (p : Past G N S). p.given) sees.past
  looked_given None sees none = same_given old new none.0

  pub looked_names : (r : Option Sight) → IfSome r (λ sight. Sees empty sight old new) → IfNone r ((new ≡ old) × W) → KeepsNames (name_of old.items) (name_of new.items)
  looked_names (Some sight) sees none = look_names old new empty sight sees
  looked_names None sees none = same_names old new none.0

  pub looked_caller : (r : Option Sight) → IfSome r (λ sight. Sees empty sight old new) → IfNone r ((new ≡ old) × W) → new.caller ≡ old.caller
  looked_caller (Some sight) sees none = sees.caller
  looked_caller None sees none = ap (λ (d : Lent G N S). d.caller) none.0

-- one that did not tells of a command that waits
pub looked_waits : {G N S : Type 0} (empty : SeenEmpty) (old new : Lent G N S) (c : Control) → c ≡ control_of old.past → (r : Option Sight) → IfNone r ((new ≡ old) × (AreEmpty (control_of old.past) empty → ⊥)) → IfNone r (AreEmpty c empty → ⊥)
looked_waits empty old new c is (Some sight) none = tt
looked_waits empty old new c is None none = λ are. none.1 (subst (λ (x : Control). AreEmpty x empty) is are)
