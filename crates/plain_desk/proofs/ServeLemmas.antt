-- The oldest command of the mailbox of an I/O worker, whose listeners and sessions the caller has.
use Rattle.std.specs.Prelude.{◌≡◌, ◌≢◌, ◌≤◌, ◌<◌, ◌==◌, ◌&&◌, ◌||◌, ◌++◌, ◌∷◌, [], ℕ, zero, suc, Bool, true, false, nat_le, not, List, Option, Some, None, refl}
use Rattle.std.specs.List.{list_any}
use Rattle.std.proofs.Common.{arith, sym, ap, ◌∙◌, subst}
use Rattle.std.proofs.lemmas.Bool.{eq-eqb, eqb-true, leb-true, ne_eqb}
use Rattle.std.proofs.lemmas.List.{get_or_default}
use Rattle.std.proofs.lemmas.List.Folds.{list_any_none}
use Rattle.zq_base.specs.declared.ids.EndId.{EndId}
use Rattle.zq_base.specs.declared.ids.SlotId.{SlotId}
use Rattle.spec_control.specs.declared.letter.Letter.{Letter}
use Rattle.spec_control.specs.declared.letter.Word.{Word}
use Rattle.spec_control.specs.declared.letter.Word.TheVariants.{Own, Plug, TermReq, Term, TermAck, PipeBind, PipeTerm, PipeTermAck, Stop, Reap}
use Rattle.spec_control.specs.declared.entry.Answered.{Answered}
use Rattle.spec_control.specs.declared.entry.Did.{Did}
use Rattle.spec_control.specs.declared.entry.Did.TheVariants.{Delivered}
use Rattle.spec_control.specs.Stage.{has_ended, is_coming}
use Rattle.spec_control.specs.Row.{Row, is_socket, nobody}
use Rattle.spec_control.specs.Rows.{is_owner, obj}
use Rattle.spec_control.specs.Control.{Control, begun, id, next_object}
use Rattle.spec_control.specs.ControlRun.{after_all, is_between}
use Rattle.spec_control.specs.Names.{AreNamed}
use Rattle.spec_control.specs.Has.{IsBy, acts_at_word, has_after, taken_by_word}
use Rattle.control_laws.specs.Closed.{lives}
use Rattle.control_laws.specs.Kept.{Kept}
use Rattle.control_laws.proofs.HeldOpenLemmas.{none_some, owned_by}
use Rattle.control_laws.proofs.ListLemmas.{and, left, never, placed, right}
use Rattle.control_laws.proofs.RootLemmas.{oldest_lives}
use Rattle.control_laws.proofs.StepLemmas.{some_object}
use Rattle.control_laws.proofs.UnpluggedLemmas.{Serves, serves_run}
use Rattle.desk.specs.declared.given.Given.{Given}
use Rattle.desk.specs.Holding.{Holding}
use Rattle.desk.specs.Load.{brings_ends}
use Rattle.desk.specs.Turns.{HasTurned}
use Rattle.desk.specs.Desk.{HasWhatTheySay, KeepsUp}
use Rattle.ctl_moves.specs.Processing.{is_plug}
use Rattle.ctl_plane.specs.Coming.{ComesWith}
use Rattle.ctl_plane.specs.Hearing.{AreOfKind, HasWhat, IsServed, TakesOldest}
use Rattle.ctl_plane.specs.Past.{IsPast, Past, control_of, items_of}
use Rattle.ctl_plane.proofs.PlugLemmas.{gets_plugged}
use Rattle.plain_desk.specs.declared.mark.Mark.{Mark}
use Rattle.plain_desk.specs.declared.mark.Mark.TheVariants.{Event}
use Rattle.plain_desk.specs.Order.{order_of}
use Rattle.plain_desk.specs.Lent.{Hears, IsLent, Lent, lent_to, moments_of}
use Rattle.plain_desk.specs.Reaping.{is_taken, served_by}
use Rattle.plain_desk.specs.Serving.{are_his, is_his, is_workers}
use Rattle.plain_desk.proofs.BoxLemmas.{socket_slot}
use Rattle.plain_desk.proofs.DeliverLemmas.{acts_to, and_false, kind_fits, plug_not, reap_root}
use Rattle.plain_desk.proofs.HeardLemmas.{took_done, took_keeps, took_lent}
use Rattle.plain_desk.proofs.LentLemmas.{control_is, kept_of}
use Rattle.plain_desk.proofs.PluggedLemmas.{had_are_in}

not_so : (b : Bool) → not b ≡ true → b ≡ true → ⊥
not_so true h is = never h
not_so false h is = never is

second : (a b : Bool) → (not a || b) ≡ true → a ≡ true → b ≡ true
second true b h is = h
second false b h is = absurd (never is)

or_second : (a b : Bool) → b ≡ true → (a || b) ≡ true
or_second true b h = refl
or_second false b h = h

-- each of the first objects is the caller's
each_his : {G N S : Type 0} (d : Lent G N S) (slot many : ℕ) → are_his d slot many ≡ true → (i : ℕ) → i < many → is_his d slot i ≡ true
each_his d slot zero all i within = absurd (omega (arith, within))
each_his d slot (suc n) all i within = by (i == n) refl (each_his d slot n (right (is_his d slot n) _ all) i)
  where
    by : (b : Bool) → (i == n) ≡ b → (i < n → is_his d slot i ≡ true) → is_his d slot i ≡ true
    by true same rest = ap (is_his d slot) (eqb-true i n same) ∙ left (is_his d slot n) _ all
    by false other rest = rest (let apart : i ≢ n = λ same. never (sym other ∙ eq-eqb i n same) in omega (arith, within, apart))

-- who acts gets no Plug
acts_plugged : (to i : ℕ) (word : Word) → acts_at_word to word ≡ Some i → is_plug word ≡ false
acts_plugged to i (Own child) e = refl
acts_plugged to i (Plug end) e = absurd (none_some e)
acts_plugged to i (TermReq child) e = refl
acts_plugged to i Term e = refl
acts_plugged to i (TermAck child) e = refl
acts_plugged to i (PipeBind end peer) e = refl
acts_plugged to i (PipeTerm end) e = refl
acts_plugged to i (PipeTermAck end) e = refl
acts_plugged to i Stop e = refl
acts_plugged to i (Reap socket) e = refl

-- ---- what a delivery needs
module _ {G N S : Type 0} (ms : List Mark) (past : Past G N S) (wakers by : ℕ) (l : Lent G N S) (seen : lent_to by ms past ≡ l) (lent : IsLent ms past wakers) (h : Holding N) (say : HasWhatTheySay l.caller (moments_of l) h)
    (slot : ℕ) (mine : is_workers l slot ≡ true) (served : (i : ℕ) → served_by l slot i ≡ true → h.holds i ≡ true) where
  abbrev c : Control
  c = control_of past

  kept : Kept (control_of past)
  kept = kept_of ms past wakers lent

  mine_here : is_workers (lent_to by ms past) slot ≡ true
  mine_here = subst (λ (d : Lent G N S). is_workers d slot ≡ true) (sym seen) mine

  other : slot ≢ 0
  other zero_is = not_so (slot == 0) (left (not (slot == 0)) _ mine_here) (eq-eqb slot 0 zero_is)

  pub serve_not_first : slot ≡ 0 → {X : Type 0} → X
  serve_not_first is = absurd (other is)

  low : slot ≤ past.workers
  low = leb-true slot past.workers (left (nat_le slot past.workers) _ (right (not (slot == 0)) _ mine_here))

  pub serve_there : slot < c.slots
  serve_there = (let boxes = lent.boxes in let many = boxes.many in let some = some_object c.rows kept.reached in let few = low in omega (arith, many, some, few))

  -- a socket's commands come to another
  no_socket : (i : ℕ) → (obj c.rows i).slot ≡ slot → is_socket (obj c.rows i).kind ≡ false
  no_socket i at = of (is_socket (obj c.rows i).kind) refl
    where
      not_its : (n : ℕ) → (obj c.rows n).slot ≡ slot → is_socket (obj c.rows n).kind ≡ true → ⊥
      not_its zero at is = (let boxes = lent.boxes in let root = boxes.root in let none : slot ≡ 0 = sym at ∙ root in other none)
      not_its (suc n) at is = (let own = socket_slot past.workers c lent.boxes (suc n) is in let few = low in absurd (omega (arith, own, at, few)))

      of : (b : Bool) → is_socket (obj c.rows i).kind ≡ b → b ≡ false
      of true is = absurd (not_its i at is)
      of false is = refl

  pub serve_held : list_any (λ o. is_between o && o.slot == slot) c.rows.objects ≡ false
  serve_held = list_any_none (λ (o : Row). is_between o && o.slot == slot) c.rows.objects (λ k d within.
      subst (λ (o : Row). (is_between o && o.slot == slot) ≡ false) (get_or_default c.rows.objects k nobody d within)
      (and_false (is_between (obj c.rows k)) ((obj c.rows k).slot == slot) (λ same.
      ap (λ (b : Bool). b && is_coming (obj c.rows k).request) (no_socket k (eqb-true (obj c.rows k).slot slot same)))))

  -- who was taken in is the caller's
  his : (i : ℕ) → i < next_object c → (obj c.rows i).plugged ≡ true → (obj c.rows i).slot ≡ slot → has_after i (order_of ms past.events) ≡ Some by
  his i within plugged at =
      owned_by by (has_after i (order_of ms past.events))
      (second ((obj c.rows i).plugged && slot == (obj c.rows i).slot) (is_owner by (has_after i (order_of ms past.events)))
      (each_his (lent_to by ms past) slot (next_object c) (right (nat_le slot past.workers) _ (right (not (slot == 0)) _ mine_here)) i within)
      (and (obj c.rows i).plugged _ plugged (eq-eqb slot (obj c.rows i).slot (sym at))))

  pub serve_lent : (i : ℕ) → IsServed c slot i → h.holds i ≡ true
  serve_lent i s =
      served i (subst (λ (d : Lent G N S). served_by d slot i ≡ true) seen
      (and (slot == (obj c.rows i).slot) _ (eq-eqb slot (obj c.rows i).slot (sym s.here))
      (and (not (i == 0)) _ (ap not (ne_eqb i 0 s.no_root))
      (and (lives c (id i)) _ (ap not s.lives)
      (or_second (is_taken (obj c.rows i)) _ (ap (is_owner by) (his i s.there s.plugged s.here) ∙ eq-eqb by by refl))))))

  pub serve_kinds : AreOfKind c slot h
  serve_kinds i s = kind_fits ms past wakers by l seen lent h say i (serve_lent i s)

  -- ---- who may take it
  module _ (letter : Letter) (behind : List Letter) (oldest : c.boxes slot ≡ letter ∷ behind) where
    at : (obj c.rows letter.to.0).slot ≡ slot
    at = (oldest_lives c kept slot letter.to.0 letter.word behind oldest).0

    above : letter.to.0 ≢ 0
    above root = (let boxes = lent.boxes in other (sym at ∙ ap (λ (n : ℕ). (obj c.rows n).slot) root ∙ boxes.root))

    there : letter.to.0 < next_object c
    there = placed (λ (r : Row). has_ended r.stage) c.rows.objects nobody letter.to.0 refl (oldest_lives c kept slot letter.to.0 letter.word behind oldest).1

    brings : (word : Word) → c.boxes slot ≡ record { to = letter.to; word = word } ∷ behind → brings_ends word ≡ false
    brings (Own child) is = refl
    brings (Plug end) is = refl
    brings (TermReq child) is = refl
    brings Term is = refl
    brings (TermAck child) is = refl
    brings (PipeBind end peer) is = refl
    brings (PipeTerm end) is = refl
    brings (PipeTermAck end) is = refl
    brings Stop is = refl
    brings (Reap socket) is = absurd (above (reap_root c kept slot behind letter.to.0 socket is))

    pub serve_brings : brings_ends letter.word ≡ false
    serve_brings = brings letter.word oldest

    serves : Serves (control_of past)
    serves = (let order = lent.order in subst Serves (control_is ms past wakers lent) (serves_run past.workers (order_of ms past.events) order.run))

    -- nobody had who is taken in
    none_had : (i : ℕ) (had : Option ℕ) → has_after i (order_of ms past.events) ≡ had → (obj c.rows i).plugged ≡ false → had ≡ None
    none_had i None e waits = refl
    none_had i (Some k) e waits =
        let order = lent.order in
        let is = had_are_in past.workers (order_of ms past.events) order.run i k e in
        absurd (never (sym waits ∙ ap (λ (x : Control). (obj x.rows i).plugged) (sym (control_is ms past wakers lent)) ∙ is.plugged))

    waits : (end : Option EndId) → c.boxes slot ≡ record { to = letter.to; word = Plug end } ∷ behind → (obj c.rows letter.to.0).plugged ≡ false
    waits end is = of (obj c.rows letter.to.0).plugged refl
      where
        of : (b : Bool) → (obj c.rows letter.to.0).plugged ≡ b → b ≡ false
        of true e = absurd (plug_not c kept slot behind letter.to.0 end is e)
        of false e = refl

    takes : (i : ℕ) (word : Word) → c.boxes slot ≡ record { to = letter.to; word = word } ∷ behind → taken_by_word letter.to.0 word ≡ Some i → has_after i (order_of ms past.events) ≡ None
    takes i (Own child) is e = absurd (none_some e)
    takes i (Plug end) is e =
        let same = some_same e in
        none_had i (has_after i (order_of ms past.events)) refl (ap (λ (n : ℕ). (obj c.rows n).plugged) (sym same) ∙ waits end is)
      where
        some_same : {m n : ℕ} → Some m ≡ Some n → m ≡ n
        some_same x = Prim.grind arith
    takes i (TermReq child) is e = absurd (none_some e)
    takes i Term is e = absurd (none_some e)
    takes i (TermAck child) is e = absurd (none_some e)
    takes i (PipeBind end peer) is e = absurd (none_some e)
    takes i (PipeTerm end) is e = absurd (none_some e)
    takes i (PipeTermAck end) is e = absurd (none_some e)
    takes i Stop is e = absurd (none_some e)
    takes i (Reap socket) is e = absurd (above (reap_root c kept slot behind letter.to.0 socket is))

    pub serve_by : (a : Answered N S) → IsBy (order_of ms past.events) (after_all (order_of ms past.events) (begun past.workers)) (let did : Did N S = Delivered (record { 0 = slot }) letter a in did) by
    serve_by a = record {
      acts = λ i e. ap (λ (n : ℕ). has_after n (order_of ms past.events)) (sym (acts_to letter.to.0 i letter.word e))
          ∙ his letter.to.0 there (gets_plugged c kept serves slot behind letter.to.0 letter.word oldest (acts_plugged letter.to.0 i letter.word e) above) at;
      takes = λ i e. takes i letter.word oldest e;
    }

-- ---- behind it
module _ {N O I S : Type 0} (out_name : O → N) (in_name : I → N) (ms ms' : List Mark) (past new : Past (Given N O I) N S) (wakers by : ℕ) (l : Lent (Given N O I) N S) (seen : lent_to by ms past ≡ l) (lent : IsLent ms past wakers)
    (h k : Holding N) (say : HasWhatTheySay l.caller (moments_of l) h) (slot : SlotId) (mine : is_workers l slot.0 ≡ true) (served : (i : ℕ) → served_by l slot.0 i ≡ true → h.holds i ≡ true) (marks : ms' ≡ ms ++ Event by ∷ [])
    (took : TakesOldest out_name in_name slot past new) (run : IsPast new) (named : AreNamed [] (items_of new)) where
  none : brings_ends took.letter.word ≡ false
  none = serve_brings ms past wakers by l seen lent h say slot.0 mine served took.letter took.behind took.oldest

  its_by : IsBy (order_of ms past.events) (after_all (order_of ms past.events) (begun past.workers)) (let did : Did N S = Delivered slot took.letter took.answered in did) by
  its_by = serve_by ms past wakers by l seen lent h say slot.0 mine served took.letter took.behind took.oldest took.answered

  pub served_lent : IsLent ms' new wakers
  served_lent = took_lent out_name in_name ms ms' past new wakers by l seen lent slot marks took run named none its_by

  pub served_done : Hears slot l (lent_to by ms' new)
  served_done = took_done out_name in_name ms ms' past new wakers by l seen lent slot marks took run named none its_by

  pub served_keeps : HasWhat new k → HasTurned (control_of past) (control_of new) h k → ComesWith past new h k → KeepsUp by (moments_of l) (moments_of (lent_to by ms' new)) h k
  served_keeps all turned comes = took_keeps out_name in_name ms ms' past new wakers by l seen lent slot marks took run named none its_by h k say all turned comes
