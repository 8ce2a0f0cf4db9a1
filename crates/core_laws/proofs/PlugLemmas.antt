-- A call of the reaper takes none in but closed sockets.
use Rattle.std.specs.Prelude.{◌≡◌, ◌≤◌, ◌<◌, ◌==◌, ◌∷◌, [], ℕ, true, false, List, Option, All, length, refl}
use Rattle.std.specs.List.{list_any}
use Rattle.std.proofs.Common.{arith, sym, ap, ◌∙◌, subst, inl, inr}
use Rattle.std.proofs.lemmas.Bool.{cases_eq}
use Rattle.std.proofs.lemmas.List.Elements.{All-cons, All-head, All-nil}
use Rattle.zq_base.specs.declared.ids.EndId.{EndId}
use Rattle.zq_base.specs.declared.ids.ObjId.{ObjId}
use Rattle.zq_base.specs.declared.ids.SlotId.{SlotId}
use Rattle.msg_pipe.specs.Known.{Known}
use Rattle.spec_control.specs.declared.entry.Answered.{Answered}
use Rattle.spec_control.specs.declared.entry.Did.{Did}
use Rattle.spec_control.specs.declared.entry.Did.TheVariants.{Asked, Delivered, Delimited}
use Rattle.spec_control.specs.declared.entry.Item.{Item}
use Rattle.spec_control.specs.declared.entry.Item.TheVariants.{Event, Seen}
use Rattle.spec_control.specs.declared.letter.Word.{Word}
use Rattle.spec_control.specs.declared.letter.Word.TheVariants.{Own, Plug, TermReq, Term, TermAck, PipeBind, PipeTerm, PipeTermAck, Stop, Reap}
use Rattle.spec_control.specs.Stage.{has_ended}
use Rattle.spec_control.specs.Row.{Row, is_socket, nobody}
use Rattle.spec_control.specs.Rows.{obj}
use Rattle.spec_control.specs.Control.{Control, begun, next_object}
use Rattle.spec_control.specs.ControlRun.{after_all, Fits, FitsItem, IsControlRun}
use Rattle.spec_control.specs.Moments.{reaper_slots}
use Rattle.control_laws.proofs.ListLemmas.{placed}
use Rattle.control_laws.specs.Kept.{Kept}
use Rattle.control_laws.proofs.RootLemmas.{oldest_lives, runs_are_kept}
use Rattle.plain_desk.specs.Lent.{AreSockets, HaveOwnBoxes, IsOneOrder}
use Rattle.plain_desk.proofs.BoxLemmas.{root_box, same_box}
use Rattle.plain_desk.proofs.DeliverLemmas.{plug_not}
use Rattle.control_laws.proofs.UnpluggedLemmas.{sockets_are_plugged}
use Rattle.plain_desk.proofs.RowLemmas.{root_plugged}
use Rattle.plain_desk.proofs.WaitLemmas.{taken_at}
use Rattle.core_laws.specs.Arriving.{plugs, plugs_by, plugs_in, NoPlugs, TakenAreHad}
use Rattle.core_laws.specs.ReapedCall.{takes_from, takes_in}
use Rattle.core_laws.proofs.GrowLemmas.{runs_on}

module _ (w : ℕ) (c : Control) (kept : Kept c) (boxes : HaveOwnBoxes w c) (closed : AreSockets c c.closed) (plugged : (i : ℕ) → is_socket (obj c.rows i).kind ≡ true → (obj c.rows i).plugged ≡ true) where
  -- whose command comes to one of the reaper's mailboxes was taken in
  its_plugged : (slot to : ℕ) → list_any (λ k. k == slot) (reaper_slots c) ≡ true → to < next_object c → (obj c.rows to).slot ≡ slot → (obj c.rows to).plugged ≡ true
  its_plugged slot to mine there at = elim (cases_eq slot 0) [
    | inl root ↦ ap (λ (n : ℕ). (obj c.rows n).plugged) (root_box w c boxes to there (at ∙ root)) ∙ root_plugged c kept
    | inr other ↦
        let t = taken_at c slot closed other mine in
        ap (λ (n : ℕ). (obj c.rows n).plugged) (sym (same_box w c boxes t.object.0 to t.socket there (t.at ∙ sym at))) ∙ plugged t.object.0 t.socket
  ]

  module _ {N T : Type 0} where
    no_plug : (slot : SlotId) (to : ObjId) (end : Option EndId) (h : Answered N T) → list_any (λ k. k == slot.0) (reaper_slots c) ≡ true → Fits c (Delivered slot (record { to = to; word = Plug end }) h) → ⊥
    no_plug slot to end h mine fits =
        let o = oldest_lives c kept slot.0 to.0 (Plug end) fits.may.behind fits.may.oldest in
        plug_not c kept slot.0 fits.may.behind to.0 end fits.may.oldest (its_plugged slot.0 to.0 mine (placed (λ (r : Row). has_ended r.stage) c.rows.objects nobody to.0 refl o.1) o.0)

    no_word : (slot : SlotId) (o : ObjId) (word : Word) (h : Answered N T) → list_any (λ k. k == slot.0) (reaper_slots c) ≡ true → Fits c (Delivered slot (record { to = o; word = word }) h) → plugs word ≡ false
    no_word slot o (Own child) h mine fits = refl
    no_word slot o (Plug end) h mine fits = absurd (no_plug slot o end h mine fits)
    no_word slot o (TermReq child) h mine fits = refl
    no_word slot o Term h mine fits = refl
    no_word slot o (TermAck child) h mine fits = refl
    no_word slot o (PipeBind e peer) h mine fits = refl
    no_word slot o (PipeTerm e) h mine fits = refl
    no_word slot o (PipeTermAck e) h mine fits = refl
    no_word slot o Stop h mine fits = refl
    no_word slot o (Reap socket) h mine fits = refl

    no_did : (d : Did N T) → takes_in (reaper_slots c) d ≡ true → Fits c d → plugs_in d ≡ false
    no_did (Asked req reply h) mine fits = refl
    no_did (Delivered slot letter h) mine fits = no_word slot letter.to letter.word h mine fits
    no_did (Delimited e h) mine fits = refl

    no_item : (x : Item N T) → takes_from (reaper_slots c) x ≡ true → FitsItem c x → plugs_by x ≡ false
    no_item (Event entry) mine fits = no_did entry.did mine fits
    no_item (Seen sight) mine fits = refl

    none_in : (xs : List (Item N T)) → length xs ≤ 1 → All (λ x. takes_from (reaper_slots c) x ≡ true) xs → IsControlRun c xs → All (λ x. plugs_by x ≡ false) xs
    none_in [] few its run = All-nil (λ (x : Item N T). plugs_by x ≡ false)
    none_in (x ∷ []) few its run = All-cons (λ (y : Item N T). plugs_by y ≡ false) x [] (no_item x (All-head (λ (y : Item N T). takes_from (reaper_slots c) y ≡ true) x [] its) run.0) (All-nil (λ (y : Item N T). plugs_by y ≡ false))
    none_in (x ∷ y ∷ ys) few its run = absurd (omega (arith, few))

pub no_plugs : (G N T : Type 0) → NoPlugs G N T
no_plugs G N T old new call =
    let before : IsOneOrder old = call.before in
    let order = before.order in
    let w = old.past.workers in
    let found = after_all old.items (begun w) in
    none_in w found (runs_are_kept N T w old.items order.run) (subst (HaveOwnBoxes w) before.control before.boxes) (subst (λ (c : Control). AreSockets c c.closed) before.control before.closed)
    (sockets_are_plugged w old.items order.run) call.grows.more call.few
    (subst (λ (c : Control). All (λ x. takes_from (reaper_slots c) x ≡ true) call.grows.more) before.control call.of_its) (runs_on old new call.behind call.grows)

pub taken_are_had : {S O I N : Type 0} (K : Known S O I N) (G T : Type 0) → TakenAreHad K G T
taken_are_had K G T d closed taken only i above has lives_still = taken i (only i has) lives_still
