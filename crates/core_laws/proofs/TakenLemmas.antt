-- Each closed socket that was taken over and lives is had still, where none came.
use Rattle.std.specs.Prelude.{◌≡◌, ◌≢◌, ◌<◌, ◌&&◌, ◌∷◌, [], ℕ, zero, suc, Bool, true, false, not, List, None, Some, All, refl}
use Rattle.std.specs.List.{list_any}
use Rattle.std.proofs.Common.{arith, sym, ap, ◌∙◌, subst, inl, inr}
use Rattle.std.proofs.lemmas.List.Elements.{All-cons, All-head, All-nil, All-tail}
use Rattle.zq_base.specs.declared.ids.SlotId.{SlotId}
use Rattle.spec_control.specs.declared.entry.Answered.{Answered}
use Rattle.spec_control.specs.declared.entry.Did.{Did}
use Rattle.spec_control.specs.declared.entry.Did.TheVariants.{Asked, Delivered, Delimited}
use Rattle.spec_control.specs.declared.entry.Item.{Item}
use Rattle.spec_control.specs.declared.entry.Item.TheVariants.{Event, Seen}
use Rattle.zq_base.specs.declared.ids.ObjId.{ObjId}
use Rattle.spec_control.specs.declared.letter.Word.{Word}
use Rattle.spec_control.specs.declared.letter.Word.TheVariants.{Own, Plug, TermReq, Term, TermAck, PipeBind, PipeTerm, PipeTermAck, Stop, Reap}
use Rattle.spec_control.specs.Stage.{has_ended, is_alive, is_coming, is_unused, is_used}
use Rattle.spec_control.specs.Row.{Row, is_socket, nobody, owner_fits, socket_fits, stage_fits}
use Rattle.spec_control.specs.Rows.{obj}
use Rattle.spec_control.specs.Control.{Control, begun, id, next_object}
use Rattle.spec_control.specs.ControlRun.{Fits, FitsItem, IsControlRun, after_all, after_item}
use Rattle.control_laws.proofs.ListLemmas.{left, never, placed, right}
use Rattle.control_laws.proofs.QuietLemmas.{socket_owner}
use Rattle.control_laws.proofs.StepLemmas.{inv_of}
use Rattle.control_laws.specs.Kept.{Kept}
use Rattle.control_laws.proofs.EndLemmas.{kept_but}
use Rattle.control_laws.proofs.TellLemmas.{rows_of}
use Rattle.spec_control.specs.Held.{caller_of}
use Rattle.spec_control.specs.Moments.{Moment, moments_from}
use Rattle.control_laws.proofs.GuardLemmas.{may_come}
use Rattle.control_laws.specs.OwnMoves.{own_moves, word_moves}
use Rattle.desk.specs.Holding.{Holding}
use Rattle.ctl_plane.specs.Past.{control_of}
use Rattle.control_laws.proofs.BetweenLemmas.{reap_comes}
use Rattle.control_laws.proofs.HeldEventLemmas.{asked_reaps}
use Rattle.control_laws.specs.Closed.{lives}
use Rattle.control_laws.proofs.HeldClosedLemmas.{event_ended}
use Rattle.socket_laws.specs.Open.{IsOf, IsOfItem}
use Rattle.plain_desk.specs.Lent.{GrowsBy, IsOneOrder, Lent}
use Rattle.socket_laws.proofs.SocketLemmas.{is_in}
use Rattle.core_laws.proofs.ChainLemmas.{kept_then}
use Rattle.plain_desk.proofs.StayLemmas.{kept_found, led_more, run_more}
use Rattle.core_laws.proofs.GrownLemmas.{calls_on}
use Rattle.core_laws.specs.ReapedComing.{HasTaken}
use Rattle.core_laws.specs.Asides.{IsOneItem}
use Rattle.core_laws.specs.Taken.{KeepsTaken, hears_none, hears_none_in}
use Rattle.plain_desk.specs.Reaping.{is_taken}
use Rattle.plain_desk.proofs.RowLemmas.{taken_back}

some_same : {m n : ℕ} → Some m ≡ Some n → m ≡ n
some_same e = Prim.grind arith

pub is_not : (a : Bool) → not a ≡ true → a ≡ false
is_not true h = absurd (never h)
is_not false h = refl

pub both : (a b : Bool) → a ≡ true → b ≡ true → (a && b) ≡ true
both true b h k = k
both false b h k = absurd (never h)

pub above : (n : ℕ) → n ≢ 0 → 0 < n
above zero ne = absurd (ne refl)
above (suc n) ne = omega arith

-- ---- an item that brings no closed socket to the reaper
-- the Reap of this object is processed in it
abbrev pub reaps_at : {N S : Type 0} → ℕ → Control → Item N S → Bool
reaps_at i c (Event entry) = list_any (reap_comes i) (own_moves c entry.did)
reaps_at i c (Seen sight) = false

-- an object is a closed socket that was taken over and lives
pub record IsHis (c : Control) (i : ℕ) : Type 0 where
  pub taken : is_taken (obj c.rows i) ≡ true
  pub ended : has_ended (obj c.rows i).stage ≡ false

pub his_now : (c : Control) (i : ℕ) → is_taken (obj c.rows i) ≡ true → lives c (id i) ≡ true → IsHis c i
his_now c i taken living = record { taken = taken; ended = is_not (has_ended (obj c.rows i).stage) living }

taken_there : (c : Control) (i : ℕ) → is_taken (obj c.rows i) ≡ true → i < next_object c
taken_there c i taken = placed (λ (o : Row). not (is_taken o)) c.rows.objects nobody i refl (ap not taken)

module _ {N S : Type 0} where
  pub his_back : (c : Control) (x : Item N S) (i : ℕ) → Kept c → FitsItem c x → reaps_at i c x ≡ false → IsHis (after_item x c) i → IsHis c i
  his_back c (Seen sight) i kept fits none is = is
  his_back c (Event entry) i kept fits none is = record { taken = taken; ended = by (has_ended (obj c.rows i).stage) refl }
    where
      taken : is_taken (obj c.rows i) ≡ true
      taken = elim (taken_back c entry.did kept fits i is.taken) [
        | inl was ↦ was
        | inr reaps ↦ absurd (never (sym none ∙ reaps))
      ]

      by : (b : Bool) → has_ended (obj c.rows i).stage ≡ b → b ≡ false
      by false e = refl
      by true e = absurd (never (sym is.ended ∙ event_ended c entry.did kept fits i (taken_there c i taken) e))

  -- so over items, where each is such
  module _ (i : ℕ) (Q : Control → Item N S → Type 0) (none : (c : Control) (x : Item N S) → Kept c → FitsItem c x → Q c x → reaps_at i c x ≡ false) where
    pub his_over : (xs : List (Item N S)) (c : Control) → Kept c → IsControlRun c xs → All (λ m. Q m.found m.item) (moments_from c xs) → IsHis (after_all xs c) i → IsHis c i
    his_over [] c kept run all is = is
    his_over (x ∷ xs) c kept run all is =
        let m : Moment N S = record { found = c; item = x } in
        his_back c x i kept run.0 (none c x kept run.0 (All-head (λ (m : Moment N S). Q m.found m.item) m (moments_from (after_item x c) xs) all))
        (his_over xs (after_item x c) (kept_then x c kept run.0) run.1 (All-tail (λ (m : Moment N S). Q m.found m.item) m (moments_from (after_item x c) xs) all) is)

-- ---- in the order
module _ {G N T : Type 0} (old new : Lent G N T) (before : IsOneOrder old) (behind : IsOneOrder new) (grows : GrowsBy old new) where
  module _ (Q : Control → Item N T → Type 0) (none : (i : ℕ) (c : Control) (x : Item N T) → Kept c → FitsItem c x → Q c x → reaps_at i c x ≡ false)
      (all : All (λ m. Q m.found m.item) (moments_from (after_all old.items (begun old.past.workers)) grows.more)) where
    pub taken_still : (h : Holding N) → HasTaken (control_of old.past) h → HasTaken (control_of new.past) h
    taken_still h has i taken living =
        let was = his_over i Q (none i) grows.more (after_all old.items (begun old.past.workers)) (kept_found old new behind grows before) (run_more old new behind grows) all
        (subst (λ (c : Control). IsHis c i) (led_more old new behind grows) (his_now (control_of new.past) i taken living)) in
        let is = subst (λ (c : Control). IsHis c i) (sym before.control) was in
        has i is.taken (ap not is.ended)

-- ---- an item with which no command is taken
abbrev NoneHeard : {N S : Type 0} → Control → Item N S → Type 0
NoneHeard c x = hears_none x ≡ true

none_heard : {N S : Type 0} (i : ℕ) (c : Control) (x : Item N S) → Kept c → FitsItem c x → NoneHeard c x → reaps_at i c x ≡ false
none_heard i c (Seen sight) kept fits is = refl
none_heard {N} {S} i c (Event entry) kept fits is = by entry.did is
  where
    by : (did : Did N S) → hears_none_in did ≡ true → list_any (reap_comes i) (own_moves c did) ≡ false
    by (Asked req reply h) is = asked_reaps i c req reply
    by (Delivered slot letter h) is = absurd (never is)
    by (Delimited e h) is = refl

abbrev pub grows_one : {G N T : Type 0} (old new : Lent G N T) (item : Item N T) → IsOneItem old new item → GrowsBy old new
grows_one {N = N} {T = T} old new item adds = record {
  caller = adds.caller;
  workers = adds.workers;
  more = item ∷ [];
  items = adds.items;
  by = All-cons (λ (x : Item N T). caller_of x ≡ old.caller) item [] adds.by (All-nil (λ (x : Item N T). caller_of x ≡ old.caller));
}

-- ---- an item of an open socket
-- the root owns each socket
socket_roots : (c : Control) → Kept c → (i : ℕ) → is_socket (obj c.rows i).kind ≡ true → (obj c.rows i).owner ≡ Some 0
socket_roots c kept i socket =
    let o = obj c.rows i in
    let row = (inv_of (rows_of (kept_but 0 c kept))).fits i in
    socket_owner o.kind o.owner (left (owner_fits o.kind o.owner) _ (right (socket_fits (is_socket o.kind) (is_alive o.stage) (is_used o.request) (is_unused o.stop)) _ (right (stage_fits o.stage o.noted o.plugged o.request o.stop) _ row))) socket

module _ {N S : Type 0} (o : ℕ) (some : o ≢ 0) (i : ℕ) (c : Control) (kept : Kept c) where
  no_word : (slot : SlotId) (to : ObjId) (word : Word) (h : Answered N S) → Fits c (Delivered slot (record { to = to; word = word }) h) → to.0 ≡ o → list_any (reap_comes i) (word_moves to.0 word) ≡ false
  no_word slot to (Own child) h fits its = refl
  no_word slot to (Plug None) h fits its = refl
  no_word slot to (Plug (Some e)) h fits its = refl
  no_word slot to (TermReq child) h fits its = refl
  no_word slot to Term h fits its = refl
  no_word slot to (TermAck child) h fits its = refl
  no_word slot to (PipeBind e peer) h fits its = refl
  no_word slot to (PipeTerm e) h fits its = refl
  no_word slot to (PipeTermAck e) h fits its = refl
  no_word slot to Stop h fits its = refl
  no_word slot to (Reap socket) h fits its =
      let comes = may_come c kept slot.0 fits.may.behind to.0 (Reap socket) fits.may.oldest in
      let is = right (is_alive (obj c.rows socket.0).stage) _ (right (is_coming (obj c.rows socket.0).request) _ comes.comes) in
      absurd (some (sym its ∙ some_same (sym comes.owner ∙ socket_roots c kept socket.0 is)))

  no_did : (did : Did N S) → Fits c did → IsOf o c did → list_any (reap_comes i) (own_moves c did) ≡ false
  no_did (Asked req reply h) fits its = asked_reaps i c req reply
  no_did (Delivered slot letter h) fits its = no_word slot letter.to letter.word h fits its
  no_did (Delimited e h) fits its = refl

  its_none : (x : Item N S) → FitsItem c x → IsOfItem o c x → reaps_at i c x ≡ false
  its_none (Seen sight) fits its = refl
  its_none (Event entry) fits its = no_did entry.did fits its

-- ---- the law
first_none : (w i : ℕ) → is_taken (obj (begun w).rows i) ≡ true → ⊥
first_none w zero taken = never taken
first_none w (suc n) taken = never taken

pub keeps_taken : (G N T : Type 0) → KeepsTaken G N T
keeps_taken G N T = record {
  first = λ d order none h i taken living.
      absurd (first_none d.past.workers i (subst (λ (c : Control). is_taken (obj c.rows i) ≡ true) (order.control ∙ ap (λ (xs : List (Item N T)). after_all xs (begun d.past.workers)) none) taken));
  aside = λ old new item adds silent h has. (let grows = grows_one old new item adds in
      taken_still old new adds.before adds.behind grows NoneHeard none_heard
      (one_silent (after_all old.items (begun old.past.workers)) item silent) h has);
  calls = λ o old new calls known h has. (let is = is_in old calls.before o known in
      taken_still old new calls.before calls.behind calls.grows (IsOfItem o) (λ i c x kept fits its. its_none o is.more i c kept x fits its) (calls_on old new o calls) h has);
}
  where
    one_silent : (c : Control) (item : Item N T) → hears_none item ≡ true → All (λ m. NoneHeard m.found m.item) (moments_from c (item ∷ []))
    one_silent c item silent = All-cons (λ (m : Moment N T). NoneHeard m.found m.item) (record { found = c; item = item }) [] silent (All-nil (λ (m : Moment N T). NoneHeard m.found m.item))
