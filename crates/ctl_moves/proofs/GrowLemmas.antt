-- What the making of a pair leaves, and how many commands it puts.
use Rattle.std.specs.Prelude.{◌≡◌, ◌≤◌, ◌+◌, ◌==◌, ◌++◌, ◌∷◌, [], ℕ, Bool, true, false, cond, List, if◌then◌else◌, length, refl}
use Rattle.std.proofs.Common.{arith, sym, ap, ◌∙◌, subst, inl, inr}
use Rattle.std.proofs.lemmas.Bool.{cases_eq, eq-eqb, ne_eqb}
use Rattle.std.proofs.lemmas.List.{length-set, length_push}
use Rattle.zq_base.specs.Ends.{other_end}
use Rattle.zq_base.specs.declared.attached.Attached.{Attached}
use Rattle.zq_base.specs.declared.attached.Attached.TheVariants.{Yes, BadId as IsBadId, Second as IsSecond}
use Rattle.zq_base.specs.declared.ids.EndId.{EndId}
use Rattle.spec_control.specs.declared.end.EndCommands.{EndCommands}
use Rattle.spec_control.specs.declared.end.EndCommands.TheVariants.{Nothing, TermAndSeal, Ack, Settle, SettleAndAck}
use Rattle.spec_control.specs.declared.end.EndEvent.{EndEvent}
use Rattle.spec_control.specs.declared.end.EndEvent.TheVariants.{Asked}
use Rattle.spec_control.specs.declared.end.Reason.{Reason}
use Rattle.spec_control.specs.declared.end.Reason.TheVariants.{Closed, BadId, Second}
use Rattle.spec_control.specs.declared.letter.Letter.{Letter}
use Rattle.spec_control.specs.declared.letter.Word.{Word}
use Rattle.spec_control.specs.declared.letter.Word.TheVariants.{PipeTerm, PipeTermAck}
use Rattle.spec_control.specs.Place.{is_here}
use Rattle.spec_control.specs.PairPhase.{PairEvent, Opens, Happens}
use Rattle.spec_control.specs.Stage.{was_asked}
use Rattle.spec_control.specs.Rows.{PairRow, no_pair, obj, pair, pair_after, end_owner}
use Rattle.spec_control.specs.Control.{Control, ask, attach, commands_in, greet, happens, moved, open_pair, owner_of, place_of, put, reason_in, tell_other, with_end, with_value}
use Rattle.control_laws.proofs.StepLemmas.{after_owner}
use Rattle.ctl_state.proofs.ReadLemmas.{read_kept}

-- the objects and the struck connects are the same, and as many pairs there are; so many commands were put into this mailbox at the most
pub record Grows (slot n : ℕ) (c d : Control) : Type 0 where
  pub objects : d.rows.objects ≡ c.rows.objects
  pub struck : (e : EndId) → d.struck e ≡ c.struck e
  pub many : length d.rows.pairs ≡ length c.rows.pairs
  pub boxes : (m : ℕ) → length (d.boxes m) ≤ length (c.boxes m) + cond (slot == m) n 0

grows_not : (slot n : ℕ) (c : Control) → Grows slot n c c
grows_not slot n c = record { objects = refl; struck = λ e. refl; many = refl; boxes = λ m. omega arith }

put_many : (slot : ℕ) (letter : Letter) (boxes : ℕ → List Letter) (m : ℕ) → length (with_value slot (boxes slot ++ letter ∷ []) boxes m) ≤ length (boxes m) + cond (slot == m) 1 0
put_many slot letter boxes m =
    elim (cases_eq m slot) [
      | inl same ↦
          let now = ap (λ (b : Bool). length (if b then boxes slot ++ letter ∷ [] else boxes m)) (eq-eqb m slot same) in
          let push = length_push (boxes slot) letter in
          let was = ap (λ (n : ℕ). length (boxes n)) same in
          let one = ap {B = ℕ} (λ (b : Bool). cond b 1 0) (eq-eqb slot m (sym same)) in
          omega (arith, now, push, was, one)
      | inr other ↦
          let now = ap (λ (b : Bool). length (if b then boxes slot ++ letter ∷ [] else boxes m)) (ne_eqb m slot other) in
          omega (arith, now)
    ]

put_grows : (to : ℕ) (word : Word) (c : Control) → Grows (obj c.rows to).slot 1 c (put to word c)
put_grows to word c = record { objects = refl; struck = λ e. refl; many = refl; boxes = λ m. put_many (obj c.rows to).slot _ c.boxes m }

tell_grows : (commands : EndCommands) (e : EndId) (c : Control) → Grows (obj c.rows (owner_of c (other_end e))).slot 1 c (tell_other commands e c)
tell_grows Nothing e c = grows_not _ 1 c
tell_grows TermAndSeal e c = put_grows (owner_of c (other_end e)) (PipeTerm (other_end e)) c
tell_grows Ack e c = put_grows (owner_of c (other_end e)) (PipeTermAck (other_end e)) c
tell_grows Settle e c = grows_not _ 1 c
tell_grows SettleAndAck e c = put_grows (owner_of c (other_end e)) (PipeTermAck (other_end e)) c

-- a pair's owners are the same after each event
owner_moved : (event : PairEvent) (e d : EndId) (c : Control) → owner_of (moved event e c) d ≡ owner_of c d
owner_moved event e d c =
    read_kept (λ (p : PairRow). end_owner p d.a) c.rows.pairs e.pair.0 d.pair.0 (pair_after event e.a (pair c.rows e.pair.0)) no_pair (after_owner event e.a d.a (pair c.rows e.pair.0))

happens_grows : (event : EndEvent) (e : EndId) (c : Control) → Grows (obj c.rows (owner_of c (other_end e))).slot 1 c (happens event e c)
happens_grows event e c =
    let mid : Control = record (moved (Happens event) e c) { reasons = with_end e (reason_in event (place_of c e) (c.reasons e)) c.reasons } in
    let g = tell_grows (commands_in event (place_of c e)) e mid in
    record {
      objects = g.objects;
      struck = g.struck;
      many = g.many ∙ length-set c.rows.pairs e.pair.0 (pair_after (Happens event) e.a (pair c.rows e.pair.0));
      boxes = λ m. subst (λ (n : ℕ). length ((happens event e c).boxes m) ≤ length (c.boxes m) + cond ((obj c.rows n).slot == m) 1 0) (owner_moved (Happens event) e (other_end e) c) (g.boxes m);
    }

either : (slot : ℕ) (b : Bool) (c x y : Control) → Grows slot 1 c x → Grows slot 1 c y → Grows slot 1 c (if b then x else y)
either slot true c x y g h = g
either slot false c x y g h = h

ask_grows : (reason : Reason) (e : EndId) (c : Control) → Grows (obj c.rows (owner_of c (other_end e))).slot 1 c (ask reason false e c)
ask_grows reason e c = either _ (is_here (place_of c e)) c (happens (Asked reason false) e c) c (happens_grows (Asked reason false) e c) (grows_not _ 1 c)

greet_grows : (answer : Attached) (e : EndId) (c : Control) → Grows (obj c.rows (owner_of c (other_end e))).slot 1 c (greet answer e c)
greet_grows Yes e c =
    either _ (was_asked (obj c.rows (owner_of c e)).stage) c (ask Closed false e c) (if c.struck e then ask Closed false e c else c) (ask_grows Closed e c)
    (either _ (c.struck e) c (ask Closed false e c) c (ask_grows Closed e c) (grows_not _ 1 c))
greet_grows IsBadId e c = ask_grows BadId e c
greet_grows IsSecond e c = ask_grows Second e c

-- its bind, and a PipeTerm at the most
pub made_grows : (answer : Attached) (e : EndId) (bind : Word) (c : Control) → Grows (obj c.rows (owner_of c (other_end e))).slot 2 c (greet answer e (open_pair e bind c))
made_grows answer e bind c =
    let mid : Control = attach Opens e c in
    let opened : Control = open_pair e bind c in
    let first = put_grows (owner_of mid (other_end e)) bind mid in
    let last = greet_grows answer e opened in
    record {
      objects = last.objects ∙ first.objects;
      struck = λ d. last.struck d ∙ first.struck d;
      many = last.many ∙ first.many ∙ length-set c.rows.pairs e.pair.0 (pair_after Opens e.a (pair c.rows e.pair.0));
      boxes = λ m.
          subst (λ (n : ℕ). length ((greet answer e (open_pair e bind c)).boxes m) ≤ length (c.boxes m) + cond ((obj c.rows n).slot == m) 2 0) (owner_moved Opens e (other_end e) c)
          (let one = first.boxes m in let two = last.boxes m in let both = two_ones ((obj mid.rows (owner_of mid (other_end e))).slot == m) in omega (arith, one, two, both));
    }
  where
    two_ones : (b : Bool) → ◌≡◌ {A = ℕ} (cond b 1 0 + cond b 1 0) (cond b 2 0)
    two_ones true = refl
    two_ones false = refl
