-- The oldest command of the root, with the reaper's holder.
use Rattle.std.specs.Prelude.{◌≡◌, ◌<◌, ◌==◌, ◌&&◌, ◌++◌, ◌∷◌, [], ℕ, Bool, true, false, List, Option, Some, None, refl}
use Rattle.std.specs.List.{list_any}
use Rattle.std.proofs.Common.{arith, sym, ap, ◌∙◌, subst, inl, inr}
use Rattle.std.proofs.lemmas.Bool.{eqb-true}
use Rattle.std.proofs.lemmas.List.{get_or_default}
use Rattle.std.proofs.lemmas.List.Folds.{list_any_none}
use Rattle.zq_base.specs.declared.ids.EndId.{EndId}
use Rattle.zq_base.specs.declared.ids.ObjId.{ObjId}
use Rattle.spec_control.specs.declared.letter.Letter.{Letter}
use Rattle.spec_control.specs.declared.letter.Word.{Word}
use Rattle.spec_control.specs.declared.letter.Word.TheVariants.{Own, Plug, TermReq, Term, TermAck, PipeBind, PipeTerm, PipeTermAck, Stop, Reap}
use Rattle.spec_control.specs.declared.entry.Answered.{Answered}
use Rattle.spec_control.specs.declared.entry.Did.{Did}
use Rattle.spec_control.specs.declared.entry.Did.TheVariants.{Delivered}
use Rattle.spec_control.specs.Stage.{has_ended, is_alive, is_coming}
use Rattle.spec_control.specs.Row.{Row, is_socket, nobody}
use Rattle.spec_control.specs.Place.{Away, is_away}
use Rattle.spec_control.specs.Rows.{PairRow, end_place, no_pair, obj}
use Rattle.spec_control.specs.Control.{Control, begun, next_object, owner_of, place_of}
use Rattle.spec_control.specs.ControlRun.{after_all, is_between}
use Rattle.spec_control.specs.Names.{AreNamed, name_of}
use Rattle.spec_control.specs.Has.{IsBy, acts_at_word, has_after, taken_by_word}
use Rattle.control_laws.proofs.ListLemmas.{left, never, placed, right}
use Rattle.control_laws.specs.Kept.{Kept}
use Rattle.control_laws.proofs.RootLemmas.{begun_kept, oldest_lives}
use Rattle.control_laws.proofs.GuardLemmas.{may_come}
use Rattle.desk.specs.declared.given.Given.{Given}
use Rattle.desk.specs.Holding.{Holding}
use Rattle.desk.specs.Turns.{HasTurned}
use Rattle.ctl_moves.specs.Processing.{AreFree}
use Rattle.desk.specs.Coming.{AreDistinct, TakesEnds}
use Rattle.desk.specs.Desk.{HasWhatTheySay, KeepsUp}
use Rattle.ctl_plane.specs.Coming.{ComesWith}
use Rattle.ctl_plane.specs.Hearing.{HasWhat, IsServed, TakesOldest}
use Rattle.ctl_plane.specs.Past.{IsPast, Past, control_of, items_of, with_event}
use Rattle.control_laws.proofs.NobodyLemmas.{nobody_over}
use Rattle.plain_desk.specs.declared.mark.Mark.{Mark}
use Rattle.plain_desk.specs.declared.mark.Mark.TheVariants.{Event}
use Rattle.plain_desk.specs.Order.{order_of}
use Rattle.plain_desk.specs.Lent.{IsLent, Lent, lent_to, moments_of}
use Rattle.plain_desk.specs.Reaping.{HearsFrom}
use Rattle.plain_desk.proofs.BoxLemmas.{root_box}
use Rattle.plain_desk.proofs.DeliverLemmas.{and_false, named_same, plug_not, word_none}
use Rattle.plain_desk.proofs.HoldLemmas.{desk_free, desk_happens, root_free}
use Rattle.plain_desk.proofs.LentLemmas.{control_is, kept_of, lent_more}
use Rattle.plain_desk.proofs.OrderLemmas.{event_more}
use Rattle.plain_desk.proofs.RowLemmas.{root_plugged}

none_some : {X : Type 0} {x : X} → None ≡ Some x → ⊥
none_some e = Prim.grind arith

some_is : {X : Type 0} {x y : X} → Some x ≡ Some y → x ≡ y
some_is e = Prim.grind arith

true_and : (a b : Bool) → a ≡ true → b ≡ true → (a && b) ≡ true
true_and true b h k = k
true_and false b h k = absurd (never h)

-- nobody's object acts at a command of the root
acts_none : (word : Word) → acts_at_word 0 word ≡ None
acts_none (Own child) = refl
acts_none (Plug end) = refl
acts_none (TermReq child) = refl
acts_none Term = refl
acts_none (TermAck child) = refl
acts_none (PipeBind end peer) = refl
acts_none (PipeTerm end) = refl
acts_none (PipeTermAck end) = refl
acts_none Stop = refl
acts_none (Reap socket) = refl

-- a socket whose Reap comes was closed
reap_between : (c : Control) → Kept c → (slot : ℕ) (rest : List Letter) (to : ObjId) (socket : ObjId) → c.boxes slot ≡ record { to = to; word = Reap socket } ∷ rest → is_between (obj c.rows socket.0) ≡ true
reap_between c kept slot rest to socket is =
    let comes = (may_come c kept slot rest to.0 (Reap socket) is).comes in
    let o = obj c.rows socket.0 in
    true_and (is_socket o.kind) (is_coming o.request) (right (is_alive o.stage) (is_socket o.kind) (right (is_coming o.request) _ comes)) (left (is_coming o.request) _ comes)

-- ---- what the root's mailbox serves
module _ {G N S : Type 0} (ms : List Mark) (past : Past G N S) (wakers : ℕ) (lent : IsLent ms past wakers) where
  abbrev c : Control
  c = control_of past

  pub only_root : (i : ℕ) → i < next_object c → (obj c.rows i).slot ≡ 0 → i ≡ 0
  only_root i within is = root_box past.workers c lent.boxes i within is

  pub root_there : 0 < c.slots
  root_there =
      let boxes = lent.boxes in
      let many = boxes.many in
      let some = boxes.some_worker in
      omega (arith, many, some)

  pub root_held : list_any (λ o. is_between o && o.slot == 0) c.rows.objects ≡ false
  root_held = list_any_none (λ (o : Row). is_between o && o.slot == 0) c.rows.objects (λ k d within.
      subst (λ (o : Row). (is_between o && o.slot == 0) ≡ false) (get_or_default c.rows.objects k nobody d within)
      (and_false (is_between (obj c.rows k)) ((obj c.rows k).slot == 0) (λ same.
      ap (λ (n : ℕ). is_between (obj c.rows n)) (only_root k within (eqb-true (obj c.rows k).slot 0 same)) ∙ root_free c (kept_of ms past wakers lent))))

  pub root_serves : {X : Type 0} (i : ℕ) → IsServed c 0 i → X
  root_serves i served = absurd (served.no_root (only_root i served.there served.here))

  -- no end of it is on its way
  pub root_away : {X : Type 0} (e : EndId) → place_of c e ≡ Away → owner_of c e < next_object c → (obj c.rows (owner_of c e)).slot ≡ 0 → X
  root_away e away there here =
      elim (kept.shape.ends e.pair.0 e.a) [
        | inl owned ↦ absurd (none_some (sym kept.shape.root ∙ ap (λ (i : ℕ). (obj c.rows i).owner) (sym (only_root (owner_of c e) there here)) ∙ owned.1))
        | inr none ↦ absurd (never (sym (gone_is e.a) ∙ ap is_away (ap (λ (p : PairRow). end_place p e.a) (sym none) ∙ away)))
      ]
    where
      kept : Kept c
      kept = kept_of ms past wakers lent

      gone_is : (a : Bool) → is_away (end_place no_pair a) ≡ false
      gone_is true = refl
      gone_is false = refl

  -- no Plug comes to it
  pub root_no_plug : (to : ObjId) (end : Option EndId) (behind : List Letter) → c.boxes 0 ≡ record { to = to; word = Plug end } ∷ behind → ⊥
  root_no_plug to end behind oldest =
      let o = oldest_lives c (kept_of ms past wakers lent) 0 to.0 (Plug end) behind oldest in
      plug_not c (kept_of ms past wakers lent) 0 behind to.0 end oldest
      (ap (λ (n : ℕ). (obj c.rows n).plugged) (only_root to.0 (placed (λ (r : Row). has_ended r.stage) c.rows.objects nobody to.0 refl o.1) o.0) ∙ root_plugged c (kept_of ms past wakers lent))

  module _ (letter : Letter) (behind : List Letter) (oldest : c.boxes 0 ≡ letter ∷ behind) where
    to_root : letter.to.0 ≡ 0
    to_root =
        let o = oldest_lives c (kept_of ms past wakers lent) 0 letter.to.0 letter.word behind oldest in
        only_root letter.to.0 (placed (λ (r : Row). has_ended r.stage) c.rows.objects nobody letter.to.0 refl o.1) o.0

    takes_free : (i : ℕ) (word : Word) → c.boxes 0 ≡ record { to = letter.to; word = word } ∷ behind → taken_by_word letter.to.0 word ≡ Some i → has_after i (order_of ms past.events) ≡ None
    takes_free i (Own child) is e = absurd (none_some e)
    takes_free i (Plug end) is e = absurd (plug_not c (kept_of ms past wakers lent) 0 behind letter.to.0 end is (ap (λ (n : ℕ). (obj c.rows n).plugged) to_root ∙ root_plugged c (kept_of ms past wakers lent)))
    takes_free i (TermReq child) is e = absurd (none_some e)
    takes_free i Term is e = absurd (none_some e)
    takes_free i (TermAck child) is e = absurd (none_some e)
    takes_free i (PipeBind end peer) is e = absurd (none_some e)
    takes_free i (PipeTerm end) is e = absurd (none_some e)
    takes_free i (PipeTermAck end) is e = absurd (none_some e)
    takes_free i Stop is e = absurd (none_some e)
    takes_free i (Reap socket) is e =
        let order = lent.order in
        nobody_over i (order_of ms past.events) (begun past.workers) None (begun_kept past.workers) order.run (λ x. refl)
        (ap (λ (x : Control). is_between (obj x.rows i)) (control_is ms past wakers lent) ∙ ap (λ (n : ℕ). is_between (obj c.rows n)) (sym (some_is e)) ∙ reap_between c (kept_of ms past wakers lent) 0 behind letter.to socket is)

    pub root_by : (a : Answered N S) (by : ℕ) → IsBy (order_of ms past.events) (after_all (order_of ms past.events) (begun past.workers)) (Delivered (record { 0 = 0 }) letter a) by
    root_by a by = record {
      acts = λ i e. absurd (none_some (sym (ap (λ (n : ℕ). acts_at_word n letter.word) to_root ∙ acts_none letter.word) ∙ e));
      takes = λ i e. takes_free i letter.word oldest e;
    }

-- no closed socket that is on its way is lent
pub root_frees : {G N S : Type 0} (ms : List Mark) (past : Past G N S) (wakers by : ℕ) (l : Lent G N S) → lent_to by ms past ≡ l → IsLent ms past wakers → (h : Holding N) → HasWhatTheySay l.caller (moments_of l) h → AreFree (control_of past) h
root_frees ms past wakers by l seen lent h say i between = of (h.holds i) refl
  where
    of : (b : Bool) → h.holds i ≡ b → b ≡ false
    of true e = absurd (never (sym (desk_free ms past wakers by l seen lent h say i e) ∙ between))
    of false e = refl

-- each pipe that the root's commands bring has a name of its own, as the caller's moments have it
pub root_distinct : {G N S : Type 0} (ms : List Mark) (past : Past G N S) (wakers by : ℕ) (l : Lent G N S) → lent_to by ms past ≡ l → IsLent ms past wakers → (exact : Bool) → AreDistinct exact (name_of l.items) → AreDistinct exact (name_of (items_of past))
root_distinct ms past wakers by l seen lent exact distinct is d e n first second = distinct is d e n (sym (same d) ∙ first) (sym (same e) ∙ second)
  where
    same : (e : EndId) → name_of (items_of past) e ≡ name_of l.items e
    same e = named_same ms past wakers by l seen lent e

-- ---- behind a delivery
module _ {N O I S : Type 0} (out_name : O → N) (in_name : I → N) (ms ms' : List Mark) (past new : Past (Given N O I) N S) (wakers by : ℕ) (l : Lent (Given N O I) N S) (seen : lent_to by ms past ≡ l) (lent : IsLent ms past wakers)
    (marks : ms' ≡ ms ++ Event by ∷ [])
    (took : TakesOldest out_name in_name (record { 0 = 0 }) past new) (run : IsPast new) (named : AreNamed [] (items_of new)) where
  abbrev did : Did N S
  did = Delivered (record { 0 = 0 }) took.letter took.answered

  pub root_lent : IsLent ms' new wakers
  root_lent =
      let mid =
      lent_more ms ms' by wakers past (with_event did past) did marks refl lent (subst (λ (p : Past (Given N O I) N S). IsPast p) took.step run) (subst (λ (p : Past (Given N O I) N S). AreNamed [] (items_of p)) took.step named)
      (root_by ms past wakers lent took.letter took.behind took.oldest took.answered by) (word_none took.letter.to.0 took.letter.word) in
      subst (λ (p : Past (Given N O I) N S). IsLent ms' p wakers) (sym took.step) (record { marked = mid.marked; order = mid.order; options = mid.options; wakers = mid.wakers; boxes = mid.boxes })

  pub root_hears : HearsFrom (record { 0 = 0 }) l (lent_to by ms' new)
  root_hears =
      subst (λ (d : Lent (Given N O I) N S). HearsFrom (record { 0 = 0 }) d (lent_to by ms' new)) seen (record {
        letter = took.letter;
        answered = took.answered;
        past = took.step;
        items = ap (λ (xs : List Mark). order_of xs new.events) marks ∙ ap (λ (p : Past (Given N O I) N S). order_of (ms ++ Event by ∷ []) p.events) took.step ∙ event_more ms past.events by did lent.marked;
        caller = refl;
      })

  pub root_takes : TakesEnds l.past.given new.given
  root_takes = record { ends = took.brings.ends; first = ap (λ (d : Lent (Given N O I) N S). d.past.given) (sym seen) ∙ took.brings.first }

  module _ (h k : Holding N) (say : HasWhatTheySay l.caller (moments_of l) h) where
    pub root_keeps : HasWhat new k → HasTurned (control_of past) (control_of new) h k → ComesWith past new h k → KeepsUp by (moments_of l) (moments_of (lent_to by ms' new)) h k
    root_keeps all turned comes =
        desk_happens ms past wakers by l seen lent h say ms' wakers new did k marks (ap (λ (p : Past (Given N O I) N S). p.workers) took.step) (ap (λ (p : Past (Given N O I) N S). p.events) took.step) root_lent run (λ i x. refl) (λ i. refl) all turned comes
