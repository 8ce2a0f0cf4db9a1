-- A PipeTerm that the reaper takes asks an end of the closed socket that gets it.
use Rattle.std.specs.Prelude.{◌≡◌, ◌≢◌, ◌<◌, ◌++◌, ℕ, Bool, true, false, List, [], ◌∷◌, None, Some, refl}
use Rattle.std.proofs.Common.{arith, sym, ap, ◌∙◌, subst, inl, inr}
use Rattle.zq_base.specs.declared.ids.EndId.{EndId}
use Rattle.zq_base.specs.declared.ids.SlotId.{SlotId}
use Rattle.spec_control.specs.declared.end.EndEvent.TheVariants.{TermCame}
use Rattle.spec_control.specs.declared.end.EndState.TheVariants.{Gone}
use Rattle.spec_control.specs.declared.entry.Did.TheVariants.{Delivered}
use Rattle.spec_control.specs.declared.entry.Item.{Item}
use Rattle.spec_control.specs.declared.entry.Item.TheVariants.{Event}
use Rattle.spec_control.specs.declared.letter.Letter.{Letter}
use Rattle.spec_control.specs.declared.letter.Word.{Word}
use Rattle.spec_control.specs.declared.letter.Word.TheVariants.{PipeTerm}
use Rattle.spec_control.specs.PairPhase.{Happens, meets}
use Rattle.spec_control.specs.Place.{Place, At}
use Rattle.spec_control.specs.Row.{Row, is_socket, nobody}
use Rattle.spec_control.specs.Rows.{PairRow, end_place, no_pair, obj, pair}
use Rattle.spec_control.specs.Stage.{has_ended, is_used}
use Rattle.spec_control.specs.Control.{Control, begun, next_object}
use Rattle.spec_control.specs.ControlRun.{FitsItem, IsControlRun, MayDeliver, after_all, after_item}
use Rattle.control_laws.proofs.ListLemmas.{and, never, placed}
use Rattle.control_laws.specs.Kept.{Kept}
use Rattle.control_laws.proofs.RootLemmas.{oldest_lives, runs_are_kept}
use Rattle.control_laws.proofs.AttachedOnceLemmas.{old_run}
use Rattle.control_laws.specs.Coming.{ComesToEnd}
use Rattle.control_laws.proofs.GuardLemmas.{may_come}
use Rattle.control_laws.proofs.MetLemmas.{meets_cell}
use Rattle.desk.specs.declared.given.Given.{Given}
use Rattle.ctl_plane.specs.Past.{control_of, Past}
use Rattle.socket_laws.proofs.PlaceLemmas.{led_on}
use Rattle.plain_desk.specs.Lent.{IsOneOrder, IsWorkers, Lent}
use Rattle.plain_desk.specs.Waiting.{HearsAt}
use Rattle.plain_desk.proofs.BoxLemmas.{root_box, same_box}
use Rattle.plain_desk.proofs.StayLemmas.{stays_over}
use Rattle.plain_desk.proofs.WaitLemmas.{taken_at, TakenAt}
use Rattle.socket_laws.proofs.LastLemmas.{last_fits}
use Rattle.core_laws.proofs.ChainLemmas.{own_then, term_own, IsOwn, IsSound}
use Rattle.core_laws.specs.Asked.{AsksItsOwn, IsItsOwn}
use Rattle.core_laws.proofs.OnlyLemmas.{used_over}

none_some : {X : Type 0} {x : X} → None ≡ Some x → ⊥
none_some e = Prim.grind arith

gone_there : (a : Bool) → end_place no_pair a ≡ At Gone
gone_there true = refl
gone_there false = refl

module _ {N O I T : Type 0} (slot : SlotId) (old new : Lent (Given N O I) N T) (before : IsOneOrder old) (behind : IsOneOrder new) (h : HearsAt slot old new) (e : EndId) (is : h.hears.letter.word ≡ PipeTerm e) where
  abbrev w : ℕ
  w = old.past.workers

  abbrev n : ℕ
  n = h.hears.letter.to.0

  abbrev c : Control
  c = after_all old.items (begun old.past.workers)

  abbrev item : Item N T
  item = Event (record { by = old.caller; did = Delivered slot h.hears.letter h.hears.answered })

  workers : new.past.workers ≡ old.past.workers
  workers = ap (λ (p : Past (Given N O I) N T). p.workers) h.hears.past

  run : IsControlRun (begun old.past.workers) (old.items ++ item ∷ [])
  run =
      let all = behind.order in
      subst (λ (m : ℕ). IsControlRun (begun m) (old.items ++ item ∷ [])) workers (subst (λ (l : List (Item N T)). IsControlRun (begun new.past.workers) l) h.hears.items all.run)

  fits : FitsItem (after_all old.items (begun old.past.workers)) item
  fits = last_fits old.items item (begun w) run

  left : control_of new.past ≡ after_item item (after_all old.items (begun old.past.workers))
  left =
      behind.control ∙ ap (λ (m : ℕ). after_all new.items (begun m)) workers
      ∙ ap (λ (xs : List (Item N T)). after_all xs (begun w)) h.hears.items
      ∙ led_on old.items (item ∷ []) (begun w)

  kept : Kept (after_all old.items (begun old.past.workers))
  kept = (let all = before.order in runs_are_kept N T w old.items all.run)

  may : MayDeliver (after_all old.items (begun old.past.workers)) slot.0 h.hears.letter
  may = fits.may

  comes : ComesToEnd (after_all old.items (begun old.past.workers)) n e (Happens TermCame)
  comes = may_come c kept slot.0 may.behind n (PipeTerm e) (may.oldest ∙ ap (λ (x : Word). let l : Letter = record { to = h.hears.letter.to; word = x } in l ∷ may.behind) is)

  -- an end of the root's there is none
  no_root : n ≢ 0
  no_root root = elim (kept.shape.ends e.pair.0 e.a) [
    | inl owned ↦ absurd (none_some (sym kept.shape.root ∙ ap (λ (i : ℕ). (obj c.rows i).owner) (sym root ∙ sym comes.owner) ∙ owned.1))
    | inr none ↦ absurd (never (subst (λ (p : Place). meets (Happens TermCame) p ≡ true) (ap (λ (p : PairRow). end_place p e.a) none ∙ gone_there e.a) (meets_cell c kept e (Happens TermCame) comes.comes)))
  ]

  lives : ((obj (after_all old.items (begun old.past.workers)).rows n).slot ≡ slot.0) × (has_ended (obj (after_all old.items (begun old.past.workers)).rows n).stage ≡ false)
  lives = oldest_lives c kept slot.0 n h.hears.letter.word may.behind may.oldest

  there : n < next_object (after_all old.items (begun old.past.workers))
  there = placed (λ (r : Row). has_ended r.stage) c.rows.objects nobody n refl lives.1

  -- who got it is not the root, so it was a closed socket, in a mailbox of its own
  there_now : n < next_object (control_of old.past)
  there_now = subst (λ (x : Control). n < next_object x) (sym before.control) there

  at_now : (obj (control_of old.past).rows n).slot ≡ slot.0
  at_now = ap (λ (x : Control). (obj x.rows n).slot) before.control ∙ lives.0

  no_root_box : slot.0 ≢ 0
  no_root_box same = no_root (root_box w (control_of old.past) before.boxes n there_now (at_now ∙ same))

  was_taken : TakenAt (control_of old.past) slot.0
  was_taken = taken_at (control_of old.past) slot.0 before.closed no_root_box h.mine

  its : was_taken.object.0 ≡ n
  its = (let t = was_taken in same_box w (control_of old.past) before.boxes t.object.0 n t.socket there_now (t.at ∙ sym at_now))

  socket : is_socket (obj (after_all old.items (begun old.past.workers)).rows n).kind ≡ true
  socket =
      ap (λ (x : Control). is_socket (obj x.rows n).kind) (sym before.control)
      ∙ ap (λ (m : ℕ). is_socket (obj (control_of old.past).rows m).kind) (sym its) ∙ was_taken.socket

  used : is_used (obj (after_all old.items (begun old.past.workers)).rows n).request ≡ true
  used =
      ap (λ (x : Control). is_used (obj x.rows n).request) (sym before.control)
      ∙ ap (λ (m : ℕ). is_used (obj (control_of old.past).rows m).request) (sym its) ∙ was_taken.used

  sound : IsSound w n (after_all old.items (begun old.past.workers))
  sound =
      let all = before.order in
      let boxes = before.boxes in record {
        kept = kept;
        old = old_run w old.items all.run;
        boxes = record {
          root = ap (λ (x : Control). (obj x.rows 0).slot) (sym before.control) ∙ boxes.root;
          own = λ i here is. ap (λ (x : Control). (obj x.rows i).slot) (sym before.control)
              ∙ boxes.own i (subst (λ (x : Control). i < next_object x) (sym before.control) here) (ap (λ (x : Control). is_socket (obj x.rows i).kind) before.control ∙ is);
          shared = λ i more here out. subst (λ (x : Control). IsWorkers w (obj x.rows i).slot) before.control
              (boxes.shared i more (subst (λ (x : Control). i < next_object x) (sym before.control) here) (ap (λ (x : Control). is_socket (obj x.rows i).kind) before.control ∙ out));
        };
        there = there;
        socket = socket;
      }

  own_now : IsOwn n (control_of new.past) e
  own_now = subst (λ (x : Control). IsOwn n x e) (sym left) (own_then item c kept fits n e (term_own w n c sound slot.0 h.hears.letter may e is refl))

  socket_now : is_socket (obj (control_of new.past).rows n).kind ≡ true
  socket_now = ap (λ (x : Control). is_socket (obj x.rows n).kind) left ∙ ap is_socket (stays_over (item ∷ []) c kept (fits, tt) n there).kind ∙ socket

  used_now : is_used (obj (control_of new.past).rows n).request ≡ true
  used_now = ap (λ (x : Control). is_used (obj x.rows n).request) left ∙ used_over (item ∷ []) c kept (fits, tt) n there used

  pub its_own : IsItsOwn new h.hears.letter e
  its_own = record {
    own = own_now.own;
    taken = and (is_socket (obj (control_of new.past).rows n).kind) _ socket_now used_now;
  }

pub asks_its_own : (N O I T : Type 0) → AsksItsOwn N O I T
asks_its_own N O I T slot old new before behind h e is = its_own slot old new before behind h e is
