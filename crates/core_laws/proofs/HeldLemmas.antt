-- The reaper has each closed socket that was taken over and lives, behind its own call too.
use Rattle.std.specs.Prelude.{◌≡◌, ◌≤◌, ◌&&◌, ◌++◌, ◌∷◌, [], ℕ, Bool, true, false, not, List, length, refl}
use Rattle.std.specs.List.{list_any}
use Rattle.std.proofs.Common.{arith, sym, ap, ◌∙◌, subst}
use Rattle.std.proofs.lemmas.Bool.{eqb-true}
use Rattle.std.proofs.lemmas.List.{append-nil}
use Rattle.zq_base.specs.declared.ids.ObjId.{ObjId}
use Rattle.zq_base.specs.declared.ids.SlotId.{SlotId}
use Rattle.spec_control.specs.declared.entry.Answered.{Answered}
use Rattle.spec_control.specs.declared.entry.Did.{Did}
use Rattle.spec_control.specs.declared.entry.Did.TheVariants.{Asked, Delivered, Delimited}
use Rattle.spec_control.specs.declared.entry.Item.{Item}
use Rattle.spec_control.specs.declared.entry.Item.TheVariants.{Event, Seen}
use Rattle.spec_control.specs.declared.letter.Word.{Word}
use Rattle.spec_control.specs.declared.letter.Word.TheVariants.{Own, Plug, TermReq, Term, TermAck, PipeBind, PipeTerm, PipeTermAck, Stop, Reap}
use Rattle.spec_control.specs.declared.stage.Use.{Use}
use Rattle.spec_control.specs.declared.stage.Use.TheVariants.{Unused, OnItsWay, Used}
use Rattle.spec_control.specs.Stage.{is_alive, is_coming, is_used}
use Rattle.spec_control.specs.Row.{is_socket}
use Rattle.spec_control.specs.Rows.{obj}
use Rattle.spec_control.specs.Control.{Control, begun, id}
use Rattle.spec_control.specs.ControlRun.{Fits, FitsItem, IsControlRun, after_all, after_item, is_between}
use Rattle.control_laws.proofs.ListLemmas.{and, left, never, right}
use Rattle.control_laws.specs.Kept.{Kept}
use Rattle.spec_control.specs.Moments.{Moment, moments_from}
use Rattle.control_laws.proofs.GuardLemmas.{may_come}
use Rattle.control_laws.specs.OwnMoves.{own_moves}
use Rattle.msg_pipe.specs.Known.{Known}
use Rattle.desk.specs.declared.given.Given.{Given}
use Rattle.desk.specs.Joins.{KeepsObjects, StaysHad}
use Rattle.ctl_plane.specs.Past.{control_of}
use Rattle.end_table.specs.declared.changes.PipeChange.{PipeChange}
use Rattle.control_laws.proofs.BetweenLemmas.{reap_comes}
use Rattle.control_laws.proofs.HeldEventLemmas.{asked_reaps, reaps, word_reaps}
use Rattle.control_laws.specs.Closed.{lives}
use Rattle.closed_ends.specs.declared.sockets.ClosedSockets.{ClosedSockets}
use Rattle.closed_ends.specs.Has.{holding_in}
use Rattle.plain_desk.specs.Lent.{moments_of, GrowsBy, IsOneOrder, Lent}
use Rattle.socket_laws.proofs.LastLemmas.{grown}
use Rattle.plain_desk.specs.Reaping.{is_taken}
use Rattle.plain_desk.proofs.StayLemmas.{kept_found, led_more, run_more}
use Rattle.core_laws.specs.ReapedComing.{HasTaken}
use Rattle.core_laws.specs.Ends.{ReaperDid}
use Rattle.core_laws.specs.Taken.{ReaperKeepsTaken}
use Rattle.core_laws.proofs.TakenLemmas.{his_back, his_now, reaps_at, IsHis}

-- ---- an object whose Reap is processed is on its way
module _ {N S : Type 0} (c : Control) (kept : Kept c) (i : ℕ) where
  word_between : (slot : SlotId) (to : ObjId) (word : Word) (h : Answered N S) → Fits c (Delivered slot (record { to = to; word = word }) h) → reaps i word ≡ true → is_between (obj c.rows i) ≡ true
  word_between slot to (Own child) h fits is = absurd (never is)
  word_between slot to (Plug end) h fits is = absurd (never is)
  word_between slot to (TermReq child) h fits is = absurd (never is)
  word_between slot to Term h fits is = absurd (never is)
  word_between slot to (TermAck child) h fits is = absurd (never is)
  word_between slot to (PipeBind e peer) h fits is = absurd (never is)
  word_between slot to (PipeTerm e) h fits is = absurd (never is)
  word_between slot to (PipeTermAck e) h fits is = absurd (never is)
  word_between slot to Stop h fits is = absurd (never is)
  word_between slot to (Reap socket) h fits is =
      let comes = may_come c kept slot.0 fits.may.behind to.0 (Reap socket) fits.may.oldest in
      let o = obj c.rows socket.0 in
      subst (λ (n : ℕ). is_between (obj c.rows n) ≡ true) (eqb-true socket.0 i is)
      (and (is_socket o.kind) (is_coming o.request) (right (is_alive o.stage) _ (right (is_coming o.request) _ comes.comes)) (left (is_coming o.request) _ comes.comes))

  did_between : (did : Did N S) → Fits c did → list_any (reap_comes i) (own_moves c did) ≡ true → is_between (obj c.rows i) ≡ true
  did_between (Asked req reply h) fits is = absurd (never (sym (asked_reaps i c req reply) ∙ is))
  did_between (Delivered slot letter h) fits is = word_between slot letter.to letter.word h fits (sym (word_reaps i letter.to.0 letter.word) ∙ is)
  did_between (Delimited e h) fits is = absurd (never is)

  between_at : (x : Item N S) → FitsItem c x → reaps_at i c x ≡ true → is_between (obj c.rows i) ≡ true
  between_at (Event entry) fits is = did_between entry.did fits is
  between_at (Seen sight) fits is = absurd (never is)

-- one that was taken over is on its way no more
not_coming : (u : Use) → is_used u ≡ true → is_coming u ≡ false
not_coming Unused is = refl
not_coming OnItsWay is = absurd (never is)
not_coming Used is = refl

no_and : (b : Bool) → (b && false) ≡ false
no_and true = refl
no_and false = refl

not_between : (c : Control) (i : ℕ) → IsHis c i → is_between (obj c.rows i) ≡ false
not_between c i is =
    let o = obj c.rows i in
    ap (λ (b : Bool). is_socket o.kind && b) (not_coming o.request (right (is_socket o.kind) _ is.taken)) ∙ no_and (is_socket o.kind)

module _ {S O I N T : Type 0} (K : Known S O I N) (old new : Lent (Given N O I) N T) (before behind : S) (from to : ClosedSockets N O I) (changes : List (PipeChange O I × S)) (did : ReaperDid K old new before behind from to changes)
    (has : HasTaken (control_of old.past) (holding_in K.out_name K.in_name from)) where
  abbrev found : Control
  found = after_all old.items (begun old.past.workers)

  was_order : IsOneOrder old
  was_order = did.call.before

  order : IsOneOrder new
  order = did.call.behind

  abbrev grows : GrowsBy old new
  grows = did.call.grows

  module _ (i : ℕ) (taken : is_taken (obj (control_of new.past).rows i) ≡ true) (living : lives (control_of new.past) (id i) ≡ true) where
    his : IsHis (control_of new.past) i
    his = his_now (control_of new.past) i taken living

    -- it was had before
    held : IsHis (after_all old.items (begun old.past.workers)) i → (holding_in K.out_name K.in_name from).holds i ≡ true
    held was = (let is = subst (λ (c : Control). IsHis c i) (sym was_order.control) was in has i is.taken (ap not is.ended))

    one_held : (x : Item N T) → grows.more ≡ x ∷ [] → (holding_in K.out_name K.in_name to).holds i ≡ true
    one_held x one = by (reaps_at i found x) refl
      where
        after : IsHis (after_item x (after_all old.items (begun old.past.workers))) i
        after = subst (λ (c : Control). IsHis c i) (led_more old new order grows ∙ ap (λ (xs : List (Item N T)). after_all xs found) one) his

        by : (b : Bool) → reaps_at i (after_all old.items (begun old.past.workers)) x ≡ b → (holding_in K.out_name K.in_name to).holds i ≡ true
        by b e =
            let m : Moment N T = record { found = found; item = x } in
            let moments_are = grown old new grows ∙ ap (λ (xs : List (Item N T)). moments_of old ++ moments_from found xs) one in
            let fits = subst (IsControlRun found) one (run_more old new order grows) in
            of b e fits.0 (did.keeps.objects.one m moments_are)
          where
            of : (b : Bool) → reaps_at i (after_all old.items (begun old.past.workers)) x ≡ b → FitsItem (after_all old.items (begun old.past.workers)) x
                → KeepsObjects (after_all old.items (begun old.past.workers)) (after_item x (after_all old.items (begun old.past.workers))) (holding_in K.out_name K.in_name from) (holding_in K.out_name K.in_name to) → (holding_in K.out_name K.in_name to).holds i ≡ true
            of true e fits keeps = keeps.reaped i (between_at found (kept_found old new order grows was_order) i x fits e) (not_between (after_item x found) i after) after.ended
            of false e fits keeps =
                let was : IsHis (after_all old.items (begun old.past.workers)) i = his_back found x i (kept_found old new order grows was_order) fits e after in
                let stay : StaysHad (obj found.rows i) (obj (after_item x found).rows i) = record {
                  ended = λ over. absurd (never (sym after.ended ∙ over));
                  plug = ap (λ (b : Bool). not b && (not (obj found.rows i).plugged && (obj (after_item x found).rows i).plugged)) (left (is_socket (obj found.rows i).kind) _ was.taken);
                  way = not_between (after_item x found) i after ∙ sym (not_between found i was);
                } in
                keeps.holds i stay ∙ held was

    pub reaper_held : (holding_in K.out_name K.in_name to).holds i ≡ true
    reaper_held = by grows.more refl did.call.few
      where
        by : (xs : List (Item N T)) → grows.more ≡ xs → length xs ≤ 1 → (holding_in K.out_name K.in_name to).holds i ≡ true
        by [] none few =
            (did.keeps.objects.none (grown old new grows ∙ ap (λ (xs : List (Item N T)). moments_of old ++ moments_from found xs) none ∙ append-nil (moments_of old)) i).0
            ∙ held (subst (λ (c : Control). IsHis c i) (led_more old new order grows ∙ ap (λ (xs : List (Item N T)). after_all xs found) none) his)
        by (x ∷ []) one few = one_held x one
        by (x ∷ y ∷ ys) many few = absurd (omega (arith, few))

pub reaper_keeps_taken : {S O I N : Type 0} (K : Known S O I N) (T : Type 0) → ReaperKeepsTaken K T
reaper_keeps_taken K T old new before behind from to changes did has i taken living = reaper_held K old new before behind from to changes did has i taken living
