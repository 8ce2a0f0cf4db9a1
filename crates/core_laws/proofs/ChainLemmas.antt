-- The moments of an open socket's caller, one behind another.
use Rattle.std.specs.Prelude.{◌≡◌, ◌<◌, ◌==◌, ◌+◌, ◌++◌, ◌∷◌, [], ℕ, zero, suc, Bool, true, false, All, List, refl}
use Rattle.std.proofs.Common.{arith, sym, ap, ◌∙◌, subst}
use Rattle.std.proofs.lemmas.Bool.{eqb-true}
use Rattle.std.proofs.lemmas.List.Elements.{All-filter, filter_passes}
use Rattle.zq_base.specs.declared.ids.EndId.{EndId}
use Rattle.spec_control.specs.declared.end.EndEvent.TheVariants.{TermCame}
use Rattle.spec_control.specs.declared.entry.Item.{Item}
use Rattle.spec_control.specs.declared.entry.Item.TheVariants.{Event, Seen}
use Rattle.spec_control.specs.declared.letter.Letter.{Letter}
use Rattle.spec_control.specs.declared.letter.Word.{Word}
use Rattle.spec_control.specs.declared.letter.Word.TheVariants.{PipeTerm}
use Rattle.spec_control.specs.Place.{Place, Unmade, Away, At}
use Rattle.spec_control.specs.PairPhase.{Happens, meets}
use Rattle.spec_control.specs.Stage.{has_ended}
use Rattle.spec_control.specs.Row.{Row, is_socket, nobody}
use Rattle.spec_control.specs.Rows.{obj}
use Rattle.spec_control.specs.Control.{Control, ends_of, next_object, next_pair, owner_of, place_of}
use Rattle.spec_control.specs.ControlRun.{FitsItem, IsControlRun, MayDeliver, after_all, after_item}
use Rattle.control_laws.proofs.ListLemmas.{never, placed}
use Rattle.control_laws.proofs.RowLemmas.{pair_there}
use Rattle.control_laws.specs.Kept.{Kept}
use Rattle.control_laws.proofs.RootLemmas.{oldest_lives}
use Rattle.control_laws.proofs.RunLemmas.{after_kept}
use Rattle.control_laws.specs.Coming.{ComesToEnd}
use Rattle.control_laws.proofs.GuardLemmas.{may_come}
use Rattle.control_laws.proofs.MetLemmas.{meets_cell}
use Rattle.control_laws.proofs.LeadLemmas.{old_end}
use Rattle.control_laws.proofs.MoveLemmas.{is_at}
use Rattle.control_laws.proofs.AttachedOnceLemmas.{AreOld, IsOld, old_after}
use Rattle.spec_control.specs.Moments.{Moment, moments_from}
use Rattle.control_laws.proofs.HeldRowLemmas.{event_keeps}
use Rattle.control_laws.proofs.SlotLemmas.{event_slot}
use Rattle.control_laws.proofs.ThereLemmas.{event_there}
use Rattle.plain_desk.specs.Lent.{IsWorkers}

-- each socket has the mailbox of its number behind those of the workers, and each other object but the root one of these
pub record HasBoxes (w : ℕ) (c : Control) : Type 0 where
  pub root : (obj c.rows 0).slot ≡ 0
  pub own : (i : ℕ) → i < next_object c → is_socket (obj c.rows i).kind ≡ true → (obj c.rows i).slot ≡ w + i
  pub shared : (i : ℕ) → 0 < i → i < next_object c → is_socket (obj c.rows i).kind ≡ false → IsWorkers w (obj c.rows i).slot

-- a control state in which an object is a socket
pub record IsSound (w o : ℕ) (c : Control) : Type 0 where
  pub kept : Kept c
  pub old : AreOld c
  pub boxes : HasBoxes w c
  pub there : o < next_object c
  pub socket : is_socket (obj c.rows o).kind ≡ true

-- an end that was attached, of this object
pub record IsOwn (o : ℕ) (c : Control) (e : EndId) : Type 0 where
  pub within : e.pair.0 < next_pair c
  pub at : is_at (place_of c e) ≡ true
  pub own : owner_of c e ≡ o

-- ---- one item
module _ {N S : Type 0} where
  pub kept_then : (item : Item N S) (c : Control) → Kept c → FitsItem c item → Kept (after_item item c)
  kept_then (Event entry) c kept fits = after_kept c entry.did kept fits
  kept_then (Seen sight) c kept fits = kept

  old_then : (item : Item N S) (c : Control) → Kept c → FitsItem c item → AreOld c → AreOld (after_item item c)
  old_then (Event entry) c kept fits old = old_after c entry.did kept fits old
  old_then (Seen sight) c kept fits old = old

  pub there_then : (item : Item N S) (c : Control) → Kept c → FitsItem c item → (i : ℕ) → i < next_object c → i < next_object (after_item item c)
  there_then (Event entry) c kept fits i there = event_there c entry.did kept fits i there
  there_then (Seen sight) c kept fits i there = there

  socket_then : (item : Item N S) (c : Control) → Kept c → FitsItem c item → (i : ℕ) → i < next_object c → is_socket (obj c.rows i).kind ≡ true → is_socket (obj (after_item item c).rows i).kind ≡ true
  socket_then (Event entry) c kept fits i there socket = ap is_socket (event_keeps c entry.did kept fits i there).kind ∙ socket
  socket_then (Seen sight) c kept fits i there socket = socket

  -- a mailbox that an object has behind an item is the one that it had
  boxes_back : (item : Item N S) (w : ℕ) (c : Control) → Kept c → FitsItem c item → 0 < next_object c → HasBoxes w (after_item item c) → HasBoxes w c
  boxes_back (Event entry) w c kept fits some boxes = record {
    root = sym (event_slot c entry.did kept fits 0 some) ∙ boxes.root;
    own = λ i there is. sym (event_slot c entry.did kept fits i there) ∙ boxes.own i (event_there c entry.did kept fits i there) (ap is_socket (event_keeps c entry.did kept fits i there).kind ∙ is);
    shared = λ i more there out. subst (IsWorkers w) (event_slot c entry.did kept fits i there)
        (boxes.shared i more (event_there c entry.did kept fits i there) (ap is_socket (event_keeps c entry.did kept fits i there).kind ∙ out));
  }
  boxes_back (Seen sight) w c kept fits some boxes = boxes

  pub own_then : (item : Item N S) (c : Control) → Kept c → FitsItem c item → (o : ℕ) (e : EndId) → IsOwn o c e → IsOwn o (after_item item c) e
  own_then (Event entry) c kept fits o e is = (let s = old_end c entry.did kept fits e is.within is.at in record { within = s.within; at = s.at; own = s.owner ∙ is.own })
  own_then (Seen sight) c kept fits o e is = is

-- ---- one behind another
module _ {N S : Type 0} where
  -- the control state that they lead to
  abbrev pub led_by : Control → List (Moment N S) → Control
  led_by c [] = c
  led_by c (m ∷ ms) = led_by (after_item m.item c) ms

module _ {N S : Type 0} (w o : ℕ) where
  pub record IsNext (c : Control) (m : Moment N S) : Type 0 where
    pub sound : IsSound w o c
    pub found : m.found ≡ c
    pub fits : FitsItem c m.item

  -- from this control state on
  abbrev pub Follow : Control → List (Moment N S) → Type 0
  Follow c [] = IsSound w o c
  Follow c (m ∷ ms) = IsNext c m × Follow (after_item m.item c) ms

  pub first : (ms : List (Moment N S)) (c : Control) → Follow c ms → IsSound w o c
  first [] c f = f
  first (m ∷ ms) c f = (let n = f.0 in n.sound)

  pub follow : (xs : List (Item N S)) (c : Control) → Kept c → AreOld c → o < next_object c → is_socket (obj c.rows o).kind ≡ true → IsControlRun c xs → HasBoxes w (after_all xs c) → Follow c (moments_from c xs)
  follow [] c kept old there socket run boxes = record { kept = kept; old = old; boxes = boxes; there = there; socket = socket }
  follow (x ∷ xs) c kept old there socket run boxes =
      let rest = follow xs (after_item x c) (kept_then x c kept run.0) (old_then x c kept run.0 old) (there_then x c kept run.0 o there) (socket_then x c kept run.0 o there socket) run.1 boxes in
      let next = first (moments_from (after_item x c) xs) (after_item x c) rest in (
        record {
          sound = record { kept = kept; old = old; boxes = boxes_back x w c kept run.0 (omega (arith, there)) next.boxes; there = there; socket = socket };
          found = refl;
          fits = run.0;
        },
        rest,
      )

  pub split : (ms ns : List (Moment N S)) (c : Control) → Follow c (ms ++ ns) → Follow c ms × Follow (led_by c ms) ns
  split [] ns c f = (first ns c f, f)
  split (m ∷ ms) ns c f = (let r = split ms ns (after_item m.item c) f.1 in ((f.0, r.0), r.1))

  pub own_led : (ms : List (Moment N S)) (c : Control) → Follow c ms → (e : EndId) → IsOwn o c e → IsOwn o (led_by c ms) e
  own_led [] c f e is = is
  own_led (m ∷ ms) c f e is = (let n = f.0 in let sound = n.sound in own_led ms (after_item m.item c) f.1 e (own_then m.item c sound.kept n.fits o e is))

-- ---- the ends of the object
pub own_ends : (o : ℕ) (c : Control) → AreOld c → All (IsOwn o c) (ends_of o c)
own_ends o c old = both (ends_of o c) (All-filter (λ e. owner_of c e == o) (IsOld c) c.attached old) (filter_passes (λ e. owner_of c e == o) c.attached)
  where
    both : (es : List EndId) → All (IsOld c) es → All (λ e. (owner_of c e == o) ≡ true) es → All (IsOwn o c) es
    both es were mine k d lt = record { within = (were k d lt).within; at = (were k d lt).at; own = eqb-true (owner_of c _) o (mine k d lt) }

-- ---- a command that is taken from the object's mailbox
term_at : (p : Place) → meets (Happens TermCame) p ≡ true → is_at p ≡ true
term_at Unmade h = absurd (never h)
term_at Away h = absurd (never h)
term_at (At state) h = refl

module _ (w o : ℕ) (c : Control) (sound : IsSound w o c) (slot : ℕ) (letter : Letter) (may : MayDeliver c slot letter) where
  pub for_it : 0 < o → slot ≡ w + o → letter.to.0 ≡ o
  for_it more at =
      let so = oldest_lives c sound.kept slot letter.to.0 letter.word may.behind may.oldest in
      by letter.to.0 (placed (λ (r : Row). has_ended r.stage) c.rows.objects nobody letter.to.0 refl so.1) so.0
    where
      by : (i : ℕ) → i < next_object c → (obj c.rows i).slot ≡ slot → i ≡ o
      by zero there here = let root = sound.boxes.root in absurd (omega (arith, root, here, at, more))
      by (suc i) there here = of (is_socket (obj c.rows (suc i)).kind) refl
        where
          of : (b : Bool) → is_socket (obj c.rows (suc i)).kind ≡ b → suc i ≡ o
          of true is = let own = sound.boxes.own (suc i) there is in omega (arith, own, here, at)
          of false out = let box = sound.boxes.shared (suc i) (omega arith) there out in let low = box.within in absurd (omega (arith, low, here, at, more))

  -- the end that a PipeTerm comes to
  pub term_own : (e : EndId) → letter.word ≡ PipeTerm e → letter.to.0 ≡ o → IsOwn o c e
  term_own e is mine = record {
    within = pair_there c.rows e.pair.0 e.a (Happens TermCame) comes.comes;
    at = term_at (place_of c e) (meets_cell c sound.kept e (Happens TermCame) comes.comes);
    own = comes.owner ∙ mine;
  }
    where
      comes : ComesToEnd c letter.to.0 e (Happens TermCame)
      comes = may_come c sound.kept slot may.behind letter.to.0 (PipeTerm e) (may.oldest ∙ ap (λ (x : Word). let l : Letter = record { to = letter.to; word = x } in l ∷ may.behind) is)
