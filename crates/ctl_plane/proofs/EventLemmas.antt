-- That what is kept goes on being a history's, one event after the other.
use Rattle.std.specs.Prelude.{◌≡◌, ◌<◌, ◌≤◌, ◌+◌, ◌-◌, ℕ, false, List, [], ◌∷◌, ◌++◌, length, map, sum_by, refl}
use Rattle.std.proofs.Common.{arith, sym, ap, ◌∙◌, subst}
use Rattle.std.proofs.lemmas.List.{map-append, length-set, length_push}
use Rattle.spec_control.specs.declared.entry.Did.{Did}
use Rattle.spec_control.specs.declared.entry.Item.{Item}
use Rattle.spec_control.specs.declared.stage.Stage.TheVariants.{Finished}
use Rattle.spec_control.specs.Row.{link_after}
use Rattle.spec_control.specs.Rows.{Rows, obj, pair, pair_after}
use Rattle.spec_control.specs.Place.{Unmade}
use Rattle.spec_control.specs.Control.{Control, begun, next_object, next_pair}
use Rattle.spec_control.specs.After.{after}
use Rattle.spec_control.specs.ControlRun.{Fits, FitsItem, after_item, after_all, IsControlRun}
use Rattle.spec_control.specs.Reply.{most_objects, most_made_pairs}
use Rattle.control_laws.specs.Kept.{Kept}
use Rattle.control_laws.proofs.RootLemmas.{runs_are_kept}
use Rattle.control_laws.specs.Move.{Move, LinkMoves, EndMoves, ObjectEnds, ObjectMade, PairDrawn, LetterPut, move_rows, is_named, MayMove}
use Rattle.control_laws.specs.OwnMoves.{own_moves, having_taken}
use Rattle.control_laws.proofs.WeighLemmas.{goes_grow, taken_rows}
use Rattle.control_laws.proofs.EventGoLemmas.{event_goes}
use Rattle.control_laws.proofs.SoundLemmas.{leads_stay}
use Rattle.control_laws.proofs.StepLemmas.{some_object}
use Rattle.control_laws.proofs.ListLemmas.{never}
use Rattle.control_laws.specs.Room.{to_come, reserved, took_from, move_room, slots_of}
use Rattle.control_laws.specs.History.{entries_left, foreseen_in, entries_reserved}
use Rattle.control_laws.proofs.RoomLemmas.{room_is_kept}
use Rattle.control_laws.proofs.HistoryLemmas.{history_room_is_kept}
use Rattle.ctl_state.specs.declared.state.State.{State}
use Rattle.ctl_state.specs.Boxes.{mail_at, PutsBare}
use Rattle.ctl_state.specs.Stands.{Stands}
use Rattle.ctl_plane.specs.Past.{Past, as_item, control_of, with_event, IsPast, IsHistory}
use Rattle.ctl_state.proofs.BareLemmas.{bare_not}
use Rattle.ctl_moves.proofs.CapacityLemmas.{capacity, mail_length, puts_capacity}

-- ---- one event more
module _ {N S : Type 0} where
  after_more : (items : List (Item N S)) (item : Item N S) (c : Control) → after_all (items ++ item ∷ []) c ≡ after_item item (after_all items c)
  after_more [] item c = refl
  after_more (x ∷ items) item c = after_more items item (after_item x c)

  run_more : (items : List (Item N S)) (item : Item N S) (c : Control) → IsControlRun c items → FitsItem (after_all items c) item → IsControlRun c (items ++ item ∷ [])
  run_more [] item c run fits = (fits, tt)
  run_more (x ∷ items) item c run fits = (run.0, run_more items item (after_item x c) run.1 fits)

module _ {G N S : Type 0} where
  pub control_more : (p : Past G N S) (did : Did N S) → control_of (with_event did p) ≡ after did (control_of p)
  control_more p did =
      ap (λ (items : List (Item N S)). after_all items (begun p.workers)) (map-append as_item p.events (did ∷ []))
      ∙ after_more (map as_item p.events) (as_item did) (begun p.workers)

  past_more : (p : Past G N S) (did : Did N S) → IsPast p → Fits (control_of p) did → IsPast (with_event did p)
  past_more p did run fits =
      subst (λ (items : List (Item N S)). IsControlRun (begun p.workers) items) (sym (map-append as_item p.events (did ∷ [])))
      (run_more (map as_item p.events) (as_item did) (begun p.workers) run fits)

  pub kept_past : (p : Past G N S) → IsPast p → Kept (control_of p)
  kept_past p run = runs_are_kept N S p.workers (map as_item p.events) run

-- ---- how many objects and pairs there are then
abbrev pub objects_made : Move → ℕ
objects_made (LinkMoves i event) = 0
objects_made (EndMoves e event) = 0
objects_made (ObjectEnds i) = 0
objects_made (ObjectMade row) = 1
objects_made (PairDrawn a b) = 0
objects_made (LetterPut to word) = 0

abbrev pub pairs_drawn : Move → ℕ
pairs_drawn (LinkMoves i event) = 0
pairs_drawn (EndMoves e event) = 0
pairs_drawn (ObjectEnds i) = 0
pairs_drawn (ObjectMade row) = 0
pairs_drawn (PairDrawn a b) = 1
pairs_drawn (LetterPut to word) = 0

objects_free : (m : Move) → is_named m ≡ false → objects_made m ≡ 0
objects_free (LinkMoves i event) h = refl
objects_free (EndMoves e event) h = refl
objects_free (ObjectEnds i) h = refl
objects_free (ObjectMade row) h = absurd (never (sym h))
objects_free (PairDrawn a b) h = refl
objects_free (LetterPut to word) h = refl

pairs_free : (m : Move) → is_named m ≡ false → pairs_drawn m ≡ 0
pairs_free (LinkMoves i event) h = refl
pairs_free (EndMoves e event) h = refl
pairs_free (ObjectEnds i) h = refl
pairs_free (ObjectMade row) h = refl
pairs_free (PairDrawn a b) h = absurd (never (sym h))
pairs_free (LetterPut to word) h = refl

objects_step : (m : Move) (s : Rows) → MayMove m s → length (move_rows m s).objects ≡ length s.objects + objects_made m
objects_step (LinkMoves i event) s may = let same = length-set s.objects i (link_after event (obj s i)) in omega (arith, same)
objects_step (EndMoves e event) s may = omega arith
objects_step (ObjectEnds i) s may = let same = length-set s.objects i (record (obj s i) { stage = Finished }) in omega (arith, same)
objects_step (ObjectMade row) s may = let more = length_push s.objects row in omega (arith, more)
objects_step (PairDrawn a b) s may = omega arith
objects_step (LetterPut to word) s may = omega arith

pairs_step : (m : Move) (s : Rows) → MayMove m s → length (move_rows m s).pairs ≡ length s.pairs + pairs_drawn m
pairs_step (LinkMoves i event) s may = omega arith
pairs_step (EndMoves e event) s may = let same = length-set s.pairs e.pair.0 (pair_after event e.a (pair s e.pair.0)) in omega (arith, same)
pairs_step (ObjectEnds i) s may = omega arith
pairs_step (ObjectMade row) s may = omega arith
pairs_step (PairDrawn a b) s may = let more = length_push s.pairs (record { a_owner = a; b_owner = b; a = Unmade; b = Unmade }) in omega (arith, more)
pairs_step (LetterPut to word) s may = omega arith

module _ {N S : Type 0} (c : Control) (did : Did N S) (kept : Kept c) (fits : Fits c did) where
  objects_after : next_object (after did c) ≡ next_object c + sum_by objects_made (own_moves c did)
  objects_after =
      let grown = goes_grow (λ s. length s.objects) objects_made objects_free objects_step (own_moves c did) (having_taken did c) (after did c) (event_goes c did kept fits) in
      let same = ap (λ (r : Rows). length r.objects) (taken_rows did c) in
      omega (arith, grown, same)

  pub pairs_after : next_pair (after did c) ≡ next_pair c + sum_by pairs_drawn (own_moves c did)
  pairs_after =
      let grown = goes_grow (λ s. length s.pairs) pairs_drawn pairs_free pairs_step (own_moves c did) (having_taken did c) (after did c) (event_goes c did kept fits) in
      let same = ap (λ (r : Rows). length r.pairs) (taken_rows did c) in
      omega (arith, grown, same)

module _ {N S : Type 0} where
  -- what an event makes: nothing
  pub record MakesNothing (c : Control) (did : Did N S) : Type 0 where
    pub no_room : (m : ℕ) → reserved c did m ≡ 0
    pub no_entries : entries_reserved c did ≡ 0
    pub no_objects : sum_by objects_made (own_moves c did) ≡ 0
    pub no_pairs : sum_by pairs_drawn (own_moves c did) ≡ 0
    pub foreseen : foreseen_in did ≡ 1

-- ---- an event that the code has done
module _ {L G N S : Type 0} where
  -- the new state stands for what the event leads to; room for what it made was kept, in the mailboxes and in the history, and there are not too many
  pub record GoesOn (s t : State L) (p : Past G N S) (did : Did N S) (spare later : ℕ) : Type 0 where
    pub fits : Fits (control_of p) did
    pub stands : Stands t (after did (control_of p))
    pub room : (m : ℕ) → capacity s.boxes m + reserved (control_of p) did m ≤ capacity t.boxes m + took_from did m
    pub entries : spare + entries_reserved (control_of p) did ≤ later + foreseen_in did
    pub objects : next_object (control_of p) + sum_by objects_made (own_moves (control_of p) did) ≤ most_objects
    pub pairs : next_pair (control_of p) + sum_by pairs_drawn (own_moves (control_of p) did) ≤ most_made_pairs + 1
    pub boxes : length t.boxes ≤ length s.boxes + sum_by objects_made (own_moves (control_of p) did)

  pub one_more : (s t : State L) (p : Past G N S) (did : Did N S) (spare later : ℕ) → IsHistory s p spare → GoesOn s t p did spare later → IsHistory t (with_event did p) later
  one_more s t p did spare later h g = record {
    few = h.few;
    run = past_more p did h.run g.fits;
    stands = subst (λ (d : Control). Stands t d) (sym same) g.stands;
    room = λ m. subst (λ (d : Control). to_come d m ≤ (mail_at t.boxes m).spare) (sym same) (room m);
    entries = subst (λ (d : Control). entries_left d.rows ≤ later) (sym same) entries;
    root = subst (λ (d : Control). (obj d.rows 0).slot ≡ 0) (sym same) (stays_at ∙ h.root);
    objects = subst (λ (d : Control). next_object d ≤ most_objects) (sym same) (let made = objects_are in let few = g.objects in omega (arith, made, few));
    pairs = subst (λ (d : Control). next_pair d ≤ most_made_pairs + 1) (sym same) (let drawn = pairs_after (control_of p) did kept g.fits in let few = g.pairs in omega (arith, drawn, few));
    boxes = subst (λ (d : Control). length t.boxes ≤ p.workers + next_object d) (sym same) (let made = objects_are in let were = h.boxes in let are = g.boxes in omega (arith, made, were, are));
  }
    where
      kept : Kept (control_of p)
      kept = kept_past p h.run

      same : control_of (with_event did p) ≡ after did (control_of p)
      same = control_more p did

      stays_at : (obj (after did (control_of p)).rows 0).slot ≡ (obj (control_of p).rows 0).slot
      stays_at =
          let rows = taken_rows did (control_of p) in
          let e = event_goes (control_of p) did kept g.fits in
          let there = subst (λ (r : Rows). 0 < length r.objects) (sym rows) (some_object (control_of p).rows kept.reached) in
          (leads_stay e.moves (having_taken did (control_of p)).rows (having_taken did (control_of p)).boxes (after did (control_of p)) 0 e.leads there).slot ∙ ap (λ (r : Rows). (obj r 0).slot) rows

      objects_are : next_object (after did (control_of p)) ≡ next_object (control_of p) + sum_by objects_made (own_moves (control_of p) did)
      objects_are = objects_after (control_of p) did kept g.fits

      room : (m : ℕ) → to_come (after did (control_of p)) m ≤ (mail_at t.boxes m).spare
      room m =
          let law = room_is_kept N S p.workers (map as_item p.events) h.run did g.fits m in
          let before = mail_length s (control_of p) h.stands m in
          let now = mail_length t (after did (control_of p)) g.stands m in
          let were = h.room m in
          let are = g.room m in
          omega (arith, law, before, now, were, are)

      entries : entries_left (after did (control_of p)).rows ≤ later
      entries =
          let law = history_room_is_kept N S p.workers (map as_item p.events) h.run did g.fits in
          let were = h.entries in
          let are = g.entries in
          omega (arith, law, were, are)

  -- where an entry was foreseen and nothing is made, the history has room for it
  pub has_entry : (s : State L) (p : Past G N S) (did : Did N S) (spare : ℕ) → IsHistory s p spare → Fits (control_of p) did → foreseen_in did ≡ 1 → entries_reserved (control_of p) did ≡ 0 → 0 < spare
  has_entry s p did spare h fits foreseen none =
      let law = history_room_is_kept N S p.workers (map as_item p.events) h.run did fits in
      let most = h.entries in
      omega (arith, law, most, foreseen, none)

  -- such an event, with its entry in room that was kept
  pub one_foreseen : (s t : State L) (p : Past G N S) (did : Did N S) (spare : ℕ) → IsHistory s p spare → Fits (control_of p) did → Stands t (after did (control_of p)) →
      MakesNothing (control_of p) did → ((m : ℕ) → capacity s.boxes m ≤ capacity t.boxes m + took_from did m) → length t.boxes ≡ length s.boxes →
      IsHistory t (with_event did p) (spare - 1)
  one_foreseen s t p did spare h fits stands nothing room boxes =
      one_more s t p did spare (spare - 1) h (record {
        fits = fits;
        stands = stands;
        room = λ m. (let more = room m in let none = nothing.no_room m in omega (arith, more, none));
        entries = (let one = nothing.foreseen in let none = nothing.no_entries in let some = has_entry s p did spare h fits nothing.foreseen nothing.no_entries in omega (arith, one, none, some));
        objects = (let none = nothing.no_objects in let few = h.objects in omega (arith, none, few));
        pairs = (let none = nothing.no_pairs in let few = h.pairs in omega (arith, none, few));
        boxes = (let none = nothing.no_objects in omega (arith, none, boxes));
      })

  -- more room for entries does no harm
  pub roomier : (s : State L) (p : Past G N S) (spare more : ℕ) → spare ≤ more → IsHistory s p spare → IsHistory s p more
  roomier s p spare more less h = record {
    few = h.few;
    run = h.run;
    stands = h.stands;
    room = h.room;
    entries = (let few = h.entries in omega (arith, few, less));
    root = h.root;
    objects = h.objects;
    pairs = h.pairs;
    boxes = h.boxes;
  }

  -- an event that makes nothing, with an entry in room of its own; commands with no load were put at the most
  pub one_brought : (s t : State L) (p : Past G N S) (did : Did N S) (spare : ℕ) → IsHistory s p spare → Fits (control_of p) did → Stands t (after did (control_of p)) → own_moves (control_of p) did ≡ [] →
      entries_reserved (control_of p) did ≡ 0 → PutsBare s.boxes t.boxes → IsHistory t (with_event did p) spare
  one_brought s t p did spare h fits stands none free puts =
      one_more s t p did spare spare h (record {
        fits = fits;
        stands = stands;
        room = λ m. (let no_room = ap (sum_by (move_room (slots_of (after did (control_of p)).rows) m)) none in let same = puts_capacity s.boxes t.boxes puts m in omega (arith, no_room, same));
        entries = omega (arith, free);
        objects = (let made = ap (sum_by objects_made) none in let few = h.objects in omega (arith, made, few));
        pairs = (let drawn = ap (sum_by pairs_drawn) none in let few = h.pairs in omega (arith, drawn, few));
        boxes = (let many = puts.many in omega (arith, many));
      })

  -- an event that changes nothing, with an entry in room of its own
  pub one_noted : (s : State L) (p : Past G N S) (did : Did N S) (spare : ℕ) → IsHistory s p spare → Fits (control_of p) did → after did (control_of p) ≡ control_of p → own_moves (control_of p) did ≡ [] →
      entries_reserved (control_of p) did ≡ 0 → IsHistory s (with_event did p) spare
  one_noted s p did spare h fits stays none free =
      one_brought s s p did spare h fits (subst (λ (c : Control). Stands s c) (sym stays) h.stands) none free (bare_not s.boxes)
